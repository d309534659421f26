-- What loading a file prints, and the case that is loaded.
use Rattle.std.specs.Prelude.{◌≡◌, ◌≢◌, ◌≤◌, ℕ, List, [], ◌∷◌, ◌++◌, length, codes, Option, None, Some}
use Rattle.std.specs.FinMap as map
use Rattle.opa_io.specs.Outside.{Files, IsFile, IsTooLong}
use Rattle.opa_case.specs.Cases.{CaseView}
use Rattle.opa_saved.specs.declared.fault.LoadFault.{LoadFault}
use Rattle.opa_saved.specs.declared.fault.LoadFault.TheVariants as fault
use Rattle.opa_saved.specs.declared.loaded.Origin.{Origin}
use Rattle.opa_saved.specs.declared.loaded.Origin.TheVariants as origin
use Rattle.opa_saved.specs.Faults.{fault_number}
use Rattle.opa_saved.specs.Loading.{IsLoaded, HasLoadFault}
use Rattle.opa_tree.specs.declared.rulebase.Rulebase.{Rulebase}
use Rattle.opa_reply.specs.Refused.{refused}
use Rattle.opa_io.specs.declared.limits.TheConstants.{MOST_FILE}

-- how many bytes a saved case may have
abbrev pub FILE_MOST : ℕ
FILE_MOST = MOST_FILE

-- where a case came from
abbrev pub loaded_text : Origin → List ℕ
loaded_text origin.Same = codes "loaded" ++ 10 ∷ []
loaded_text origin.Other = codes "loaded from another model" ++ 10 ∷ []
loaded_text origin.First = codes "loaded from version 1" ++ 10 ∷ []

abbrev pub refused_load : ℕ → List ℕ
refused_load n = refused (codes "load") n

-- The bytes are a saved case, or they are refused.
pub data LoadsBytes (r : Rulebase) (bytes : List ℕ) : List ℕ → Option CaseView → Type 0 where
  loads : (c : CaseView) (o : Origin) → IsLoaded r.model r.ruled bytes c o → LoadsBytes r bytes (loaded_text o) (Some c)
  refuses : (f : LoadFault) → f ≢ fault.NoMemory → HasLoadFault r.model r.ruled bytes f → LoadsBytes r bytes (refused_load (fault_number f)) None

-- no file has this name, where files are told
abbrev pub IsNoFile : Option Files → List ℕ → Type 0
IsNoFile None name = Unit {0}
IsNoFile (Some files) name = map.get files name ≡ None

-- The file of this name is loaded; one of more than 8,388,608 bytes, and a name without a file, are refused.
pub data Loads (r : Rulebase) (told : Option Files) (name : List ℕ) : List ℕ → Option CaseView → Type 0 where
  of_bytes : (bytes text : List ℕ) (o : Option CaseView) → IsFile told name bytes → length bytes ≤ FILE_MOST → LoadsBytes r bytes text o → Loads r told name text o
  too_long : IsTooLong told name FILE_MOST → Loads r told name (refused_load 6) None
  missing : IsNoFile told name → Loads r told name (refused_load 7) None
