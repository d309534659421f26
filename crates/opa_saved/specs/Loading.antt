-- Which case a saved case makes, and why it is refused.
use Rattle.std.specs.Prelude.{◌≡◌, ℕ, ◌==◌, nat_lt, Bool, false, cond, List, [], ◌∷◌, ◌++◌, Option, None, Some, length, flat_map, option_to_list}
use Rattle.std.specs.List.{list_any}
use Rattle.std.specs.Option.{option_or}
use Rattle.std.specs.FinMap.{FinMap, insert, empty, len}
use Rattle.serde_json.specs.Data.{Data}
use Rattle.opa_value.specs.declared.value.Value.{Value}
use Rattle.opa_value.specs.declared.value.Value.TheVariants as value
use Rattle.opa_model.specs.declared.ids.AttrId.{AttrId}
use Rattle.opa_model.specs.declared.ids.RelId.{RelId}
use Rattle.opa_model.specs.declared.lists.Lists.{Lists}
use Rattle.opa_model.specs.Lookups.{attribute_named, relation_named}
use Rattle.opa_cells.specs.Instances.{named}
use Rattle.opa_cells.specs.Keys.{cell_cmp}
use Rattle.opa_cells.specs.declared.instance.InstanceId.{InstanceId}
use Rattle.opa_case.specs.declared.change.Refusal.{Refusal}
use Rattle.opa_case.specs.declared.change.Refusal.TheVariants as refusals
use Rattle.opa_case.specs.Refusals.{number_of}
use Rattle.opa_case.specs.Shapes.{Shape, shape_of, attribute_or, relation_or}
use Rattle.opa_case.specs.Live.{Names, Population, live_of}
use Rattle.opa_case.specs.Cases.{CaseView, Answer, no_case, stored}
use Rattle.opa_case.specs.Steps.{every_of, is_unknown_answer, list_fault, answer_fault, is_full}
use Rattle.opa_saved.specs.declared.entries.AnswerEntry.{AnswerEntry}
use Rattle.opa_saved.specs.declared.entries.ListEntry.{ListEntry}
use Rattle.opa_saved.specs.declared.entries.Version.{Version}
use Rattle.opa_saved.specs.declared.entries.Version.TheVariants as version
use Rattle.opa_saved.specs.declared.fault.LoadFault.{LoadFault}
use Rattle.opa_saved.specs.declared.fault.LoadFault.TheVariants as fault
use Rattle.opa_saved.specs.declared.loaded.Origin.{Origin}
use Rattle.opa_saved.specs.declared.loaded.Origin.TheVariants as origin
use Rattle.opa_saved.specs.Digests.{digest}
use Rattle.opa_saved.specs.Forms.{File, file_in}
use Rattle.opa_saved.specs.Saved.{ReadsAs}
use Rattle.opa_io.specs.declared.limits.TheConstants.{MOST_TEXT, MOST_ANSWERS}

-- ---- the case of a file

-- the instance that an entry speaks of
abbrev pub list_instance : Lists → RelId → List ℕ → InstanceId
list_instance m r name = named (relation_or m r).source.0 name

abbrev pub answer_instance : Lists → AttrId → List ℕ → InstanceId
answer_instance m a name = named (attribute_or m a).entity.0 name

-- with the list of an entry, where its phrase is declared
abbrev pub put_list : Lists → FinMap cell_cmp Names → Option RelId → ListEntry → FinMap cell_cmp Names
put_list m before None e = before
put_list m before (Some r) e = insert before (r.0, list_instance m r e.point.name) e.names

abbrev pub put_lists : Lists → FinMap cell_cmp Names → List ListEntry → FinMap cell_cmp Names
put_lists m before [] = before
put_lists m before (e ∷ es) = put_lists m (put_list m before (relation_named m e.point.phrase) e) es

-- with the answer of an entry, where its phrase is declared and it says something on some day
abbrev pub put_answer : Lists → FinMap cell_cmp Answer → Option AttrId → AnswerEntry → FinMap cell_cmp Answer
put_answer m before None e = before
put_answer m before (Some a) e = cond (is_unknown_answer e.line) before (insert before (a.0, answer_instance m a e.point.name) e.line)

abbrev pub put_answers : Lists → FinMap cell_cmp Answer → List AnswerEntry → FinMap cell_cmp Answer
put_answers m before [] = before
put_answers m before (e ∷ es) = put_answers m (put_answer m before (attribute_named m e.point.phrase) e) es

-- the lists and the answers of the entries; as no two are of one point, whatever their order
unfoldable pub lists_of_file : Lists → List ListEntry → FinMap cell_cmp Names
lists_of_file m es = put_lists m empty es

unfoldable pub answers_of_file : Lists → List AnswerEntry → FinMap cell_cmp Answer
answers_of_file m es = put_answers m empty es

-- The case that known lists and answers make: who is live, and the lists of `every` relations, follow from the lists.
abbrev pub case_with : Shape → FinMap cell_cmp Names → FinMap cell_cmp Answer → CaseView
case_with s lists answers = record { lists = lists; every = every_of s (stored lists); answers = answers; live = live_of s (stored lists) }

abbrev pub case_of : Lists → File → CaseView
case_of m f = case_with (shape_of m) (lists_of_file m f.lists) (answers_of_file m f.answers)

-- who is live by all lists of the file together
abbrev pub live_in : Lists → File → Population
live_in m f = live_of (shape_of m) (stored (lists_of_file m f.lists))

-- ---- refusals

-- a case where these are live, and nothing is answered
abbrev pub living : Population → CaseView
living live = record no_case { live = live }

-- why a list is refused: what `set_list` says where these are live
abbrev pub list_refusal : Lists → Population → Option RelId → ListEntry → Option Refusal
list_refusal m live None e = Some refusals.Name
list_refusal m live (Some r) e = list_fault (shape_of m) (living live) r (list_instance m r e.point.name) e.names

-- a text has more than 1,000 bytes
abbrev pub is_long_text : Value → Bool
is_long_text value.Unknown = false
is_long_text value.Uncertain = false
is_long_text (value.Bool b) = false
is_long_text (value.Num n) = false
is_long_text (value.Words t) = nat_lt MOST_TEXT (length t)
is_long_text (value.Day d) = false

abbrev pub text_refusal : Answer → Option Refusal
text_refusal line = cond (list_any (λ p. is_long_text p.1) line) (Some refusals.Limit) None

-- why an answer is refused: what `answer` says where these are live, or a long text
abbrev pub answer_refusal : Lists → List Bool → Population → Option AttrId → AnswerEntry → Option Refusal
answer_refusal m ruled live None e = Some refusals.Name
answer_refusal m ruled live (Some a) e = option_or (answer_fault (shape_of m) ruled (living live) a (answer_instance m a e.point.name) e.line) (text_refusal e.line)

-- too many instances or slots
abbrev pub full_refusal : Lists → List Bool → Population → Option Refusal
full_refusal m ruled live = cond (is_full (shape_of m) ruled live) (Some refusals.Limit) None

-- too many answers
abbrev pub over_refusal : FinMap cell_cmp Answer → Option Refusal
over_refusal answers = cond (nat_lt MOST_ANSWERS (len answers)) (Some refusals.Limit) None

abbrev pub list_refusals : Lists → Population → List ListEntry → List Refusal
list_refusals m live es = flat_map (λ e. option_to_list (list_refusal m live (relation_named m e.point.phrase) e)) es

abbrev pub answer_refusals : Lists → List Bool → Population → List AnswerEntry → List Refusal
answer_refusals m ruled live es = flat_map (λ e. option_to_list (answer_refusal m ruled live (attribute_named m e.point.phrase) e)) es

-- all but that there are too many answers
abbrev pub entry_refusals : Lists → List Bool → Population → File → List Refusal
entry_refusals m ruled live f = list_refusals m live f.lists ++ (answer_refusals m ruled live f.answers ++ option_to_list (full_refusal m ruled live))

-- all of a file
unfoldable pub refusals_of : Lists → List Bool → File → List Refusal
refusals_of m ruled f = entry_refusals m ruled (live_in m f) f ++ option_to_list (over_refusal (answers_of_file m f.answers))

-- one of them has this number
abbrev pub has_number : ℕ → List Refusal → Bool
has_number n rs = list_any (λ r. number_of r == n) rs

-- the fault that a refusal is
abbrev pub fault_of : Refusal → LoadFault
fault_of refusals.Name = fault.Name
fault_of refusals.Kind = fault.Kind
fault_of refusals.Range = fault.Range
fault_of refusals.Limit = fault.Limit
fault_of refusals.NoMemory = fault.NoMemory

-- the fault of the least number
abbrev pub least_of : List Refusal → Option LoadFault
least_of rs =
    cond (has_number 1 rs) (Some fault.Name)
    (cond (has_number 2 rs) (Some fault.Kind)
    (cond (has_number 3 rs) (Some fault.Range)
    (cond (has_number 4 rs) (Some fault.Limit) None)))

-- ---- what is loaded

-- where a file of version 2 came from: this model, or another one
abbrev pub origin_by : Lists → ℕ → Origin
origin_by m n = cond (n == digest m) origin.Same origin.Other

-- where a file came from
abbrev pub origin_of : Lists → Version → Origin
origin_of m version.First = origin.First
origin_of m (version.Second n) = origin_by m n

-- The bytes are JSON of a saved case without a fault, which makes this case.
pub record IsLoaded (m : Lists) (ruled : List Bool) (bytes : List ℕ) (c : CaseView) (o : Origin) : Type 0 where
  pub value : Data
  pub reads : ReadsAs bytes value
  pub file : File
  pub form : file_in value ≡ Some file
  pub faultless : least_of (refusals_of m ruled file) ≡ None
  pub case : c ≡ case_of m file
  pub origin : o ≡ origin_of m file.version

-- They are JSON of a saved case with this fault.
pub record IsRefused (m : Lists) (ruled : List Bool) (bytes : List ℕ) (f : LoadFault) : Type 0 where
  pub value : Data
  pub reads : ReadsAs bytes value
  pub file : File
  pub form : file_in value ≡ Some file
  pub fault : least_of (refusals_of m ruled file) ≡ Some f

-- They are JSON, but of no saved case.
abbrev pub IsShapeless : List ℕ → Type 0
IsShapeless bytes = (value : Data) × ReadsAs bytes value × (file_in value ≡ None)

-- why nothing is loaded; want of memory has no cause here
abbrev pub HasLoadFault : Lists → List Bool → List ℕ → LoadFault → Type 0
HasLoadFault m ruled bytes fault.NotJson = (value : Data) → ReadsAs bytes value → ⊥
HasLoadFault m ruled bytes fault.Shape = IsShapeless bytes
HasLoadFault m ruled bytes fault.Name = IsRefused m ruled bytes fault.Name
HasLoadFault m ruled bytes fault.Kind = IsRefused m ruled bytes fault.Kind
HasLoadFault m ruled bytes fault.Range = IsRefused m ruled bytes fault.Range
HasLoadFault m ruled bytes fault.Limit = IsRefused m ruled bytes fault.Limit
HasLoadFault m ruled bytes fault.NoMemory = Unit {0}
