-- What loading a file prints, and the case that is loaded.
use Rattle.std.proofs.Common.{◌≡◌, ◌≢◌, ◌≤◌, ℕ, List, length, sym, subst}
use Rattle.std.specs.Prelude.{Option, None, Some}
use Rattle.opa_io.specs.Outside.{Files, IsFile, IsMissing, IsTooLong}
use Rattle.opa_case.specs.Cases.{CaseView}
use Rattle.opa_saved.specs.declared.fault.LoadFault.{LoadFault}
use Rattle.opa_saved.specs.declared.fault.LoadFault.TheVariants as fault
use Rattle.opa_saved.specs.declared.loaded.Origin.{Origin}
use Rattle.opa_saved.specs.Faults.{fault_number}
use Rattle.opa_saved.specs.Loading.{IsLoaded, HasLoadFault}
use Rattle.opa_tree.specs.declared.rulebase.Rulebase.{Rulebase}
use Rattle.opa_reply.specs.Loads.{FILE_MOST, loaded_text, refused_load, LoadsBytes, IsNoFile, Loads}

module _ (r : Rulebase) (bytes text : List ℕ) where
  pub loads_bytes : (d : CaseView) (o : Origin) → IsLoaded r.model r.ruled bytes d o → text ≡ loaded_text o → LoadsBytes r bytes text (Some d)
  loads_bytes d o is says = subst (λ t. LoadsBytes r bytes t (Some d)) (sym says) (LoadsBytes.loads d o is)

  pub refuses_bytes : (f : LoadFault) (o : Option CaseView) → f ≢ fault.NoMemory → HasLoadFault r.model r.ruled bytes f → text ≡ refused_load (fault_number f) → o ≡ None → LoadsBytes r bytes text o
  refuses_bytes f o some is says none = subst (λ x. LoadsBytes r bytes text x) (sym none) (subst (λ t. LoadsBytes r bytes t None) (sym says) (LoadsBytes.refuses f some is))

pub ruleset of_bytes = (loads_bytes, refuses_bytes)

no_file : (told : Option Files) (name : List ℕ) (before now : ℕ) → IsMissing told name before now → IsNoFile told name
no_file None name before now h = tt
no_file (Some files) name before now h = h.0

module _ (r : Rulebase) (told : Option Files) (name text : List ℕ) (o : Option CaseView) where
  pub file_is_missing : (before now : ℕ) → IsMissing told name before now → text ≡ refused_load 7 → o ≡ None → Loads r told name text o
  file_is_missing before now h says none = subst (λ x. Loads r told name text x) (sym none) (subst (λ t. Loads r told name t None) (sym says) (Loads.missing (no_file told name before now h)))

  pub file_is_too_long : IsTooLong told name FILE_MOST → text ≡ refused_load 6 → o ≡ None → Loads r told name text o
  file_is_too_long h says none = subst (λ x. Loads r told name text x) (sym none) (subst (λ t. Loads r told name t None) (sym says) (Loads.too_long h))

  pub file_is_loaded : (bytes : List ℕ) → IsFile told name bytes → length bytes ≤ FILE_MOST → LoadsBytes r bytes text o → Loads r told name text o
  file_is_loaded bytes is few h = Loads.of_bytes bytes text o is few h

pub ruleset of_files = (file_is_missing, file_is_too_long, file_is_loaded)
