-- What holds of all saved cases.
use Rattle.std.specs.Prelude.{◌≡◌, ◌≢◌, ◌<◌, ◌≤◌, ◌+◌, ℕ, Bool, true, List, [], ◌∷◌, Option, None, Some}
use Rattle.std.specs.List.{Contains}
use Rattle.std.specs.Option.{option_map, option_and_then}
use Rattle.serde_json.specs.Data.{Data}
use Rattle.opa_date.specs.declared.TheConstants.{DAYS}
use Rattle.opa_value.specs.declared.value.Value.{Value}
use Rattle.opa_model.specs.declared.lists.Lists.{Lists}
use Rattle.opa_line.specs.Lines.{at}
use Rattle.opa_case.specs.Cases.{CaseView, Answer}
use Rattle.opa_saved.specs.declared.entries.Version.TheVariants.{First}
use Rattle.opa_saved.specs.declared.fault.LoadFault.{LoadFault}
use Rattle.opa_saved.specs.declared.fault.LoadFault.TheVariants as fault
use Rattle.opa_saved.specs.declared.loaded.Origin.{Origin}
use Rattle.opa_saved.specs.Forms.{each, items_in, whole, value_in, line_in, differ, answer_points, list_points, File, file_in}
use Rattle.opa_saved.specs.Loading.{case_of, least_of, refusals_of, IsLoaded, HasLoadFault}

-- ---- one outcome

-- At most one case is loaded, from one place.
abbrev pub OneLoaded : Type 0
OneLoaded = (m : Lists) (ruled : List Bool) (bytes : List ℕ) (c d : CaseView) (o p : Origin) → IsLoaded m ruled bytes c o → IsLoaded m ruled bytes d p → (c ≡ d) × (o ≡ p)

-- At most one fault is told, but for want of memory.
abbrev pub OneFault : Type 0
OneFault = (m : Lists) (ruled : List Bool) (bytes : List ℕ) (f g : LoadFault) → f ≢ fault.NoMemory → g ≢ fault.NoMemory → HasLoadFault m ruled bytes f → HasLoadFault m ruled bytes g → f ≡ g

-- What is loaded has no fault.
abbrev pub LoadedOrFault : Type 0
LoadedOrFault = (m : Lists) (ruled : List Bool) (bytes : List ℕ) (c : CaseView) (o : Origin) (f : LoadFault) → f ≢ fault.NoMemory → IsLoaded m ruled bytes c o → HasLoadFault m ruled bytes f → ⊥

-- ---- version 1

-- a day as it is written, and its value
abbrev pub written_pair : List Data → Option (ℕ × Value)
written_pair [] = None
written_pair (d ∷ []) = None
written_pair (d ∷ t ∷ []) = option_and_then (λ day. option_map (λ x. (day, x)) (value_in t)) (whole d)
written_pair (d ∷ t ∷ e ∷ ds) = None

-- the pairs of a line as they are written
abbrev pub written_line : Data → Option Answer
written_line d = option_and_then (each (λ p. option_and_then written_pair (items_in p))) (items_in d)

-- What a line of version 1 is by what is written: on day k + 73,049 it has what is written for day k, before these days what is
-- written for day 0, and after them what is written last.
pub record IsRaised (written line : Answer) : Type 0 where
  pub raised : (k : ℕ) → k < 146097 → at line (k + 73049) ≡ at written k
  pub before : (d : ℕ) → d < 73049 → at line d ≡ at written 0
  pub after : (d : ℕ) → 219146 ≤ d → d < DAYS → at line d ≡ at written 146096

abbrev pub FirstIsRaised : Type 0
FirstIsRaised = (d : Data) (line : Answer) → line_in First d ≡ Some line → (written : Answer) × (written_line d ≡ Some written) × IsRaised written line

-- ---- the order of entries

-- no two entries of a file are of one point, as of each file that is read
pub record IsApart (f : File) : Type 0 where
  pub answers : differ (answer_points f.answers) ≡ true
  pub lists : differ (list_points f.lists) ≡ true

-- the same entries, in any order
abbrev pub AreSame : {E : Type 0} → List E → List E → Type 0
AreSame {E} xs ys = (e : E) → (Contains xs e → Contains ys e) × (Contains ys e → Contains xs e)

-- The same entries in another order make the same case, and have the same fault.
abbrev pub AnyOrder : Type 0
AnyOrder = (m : Lists) (ruled : List Bool) (f g : File) → IsApart f → IsApart g → AreSame f.lists g.lists → AreSame f.answers g.answers → (case_of m f ≡ case_of m g) × (least_of (refusals_of m ruled f) ≡ least_of (refusals_of m ruled g))

-- Entries that are read are apart.
abbrev pub ReadApart : Type 0
ReadApart = (d : Data) (f : File) → file_in d ≡ Some f → IsApart f
