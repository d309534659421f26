-- What the files of a shelf open: an accepted rulebase, or its printed refusal.
use Rattle.std.specs.Prelude.{ℕ, ◌≡◌, ◌+◌, ◌++◌, if◌then◌else◌, List, [], ◌∷◌, map, Option, Some, None, Result, Ok, Err, IfSome, slice_index_or}
use Rattle.opa_io.specs.Outside.{Files, Rose}
use Rattle.opa_model.specs.declared.ids.AttrId.{AttrId}
use Rattle.opa_model.specs.declared.lists.Lists.{Lists}
use Rattle.opa_model.specs.Lookups.{attribute_phrases}
use Rattle.opa_words.specs.declared.layout.block.Block.{Block}
use Rattle.opa_tree.specs.declared.faults.RbError.{RbError}
use Rattle.opa_tree.specs.declared.faults.RbError.TheVariants as errors
use Rattle.opa_tree.specs.declared.faults.RbFault.{RbFault}
use Rattle.opa_tree.specs.declared.rulebase.Rulebase.{Rulebase}
use Rattle.opa_tree.specs.declared.rules.Inferred.{Inferred}
use Rattle.opa_tree.specs.declared.rules.Rule.{Rule}
use Rattle.opa_rulebase.specs.declared.files.fault.TakeError.{TakeError}
use Rattle.opa_rulebase.specs.declared.files.fault.TakeError.TheVariants as take
use Rattle.opa_rulebase.specs.declared.files.fault.Unread.{Unread}
use Rattle.opa_rulebase.specs.declared.files.source.SourceFile.{SourceFile}
use Rattle.opa_rulebase.specs.Files.Files.{AreFiles}
use Rattle.opa_rulebase.specs.Files.Layouts.{AreLaid, faults_from, Begins}
use Rattle.opa_decl.specs.Declarations.{Declares, IsFirstFault}
use Rattle.opa_parse.specs.Memberships.{AreInferences, AreRefused as IsMemberFault}
use Rattle.opa_parse.specs.declared.tables.whole.TableFile.{TableFile}
use Rattle.opa_parse.specs.Tables.Whole.{AreAllRules, AreAllRefused}
use Rattle.opa_rulebase.specs.Checking.Refused.{IsRefused as IsCheckFault}
use Rattle.opa_rulebase.specs.declared.fault.LoadError.{LoadError}
use Rattle.opa_rulebase.specs.declared.fault.LoadError.TheVariants as load
use Rattle.opa_rulebase.specs.declared.fault.Unaccepted.{Unaccepted}
use Rattle.opa_rulebase.specs.declared.fault.Unaccepted.TheVariants as unaccepted
use Rattle.opa_rulebase.specs.Printed.{refusal_text}

-- the files are laid out in these blocks, without a fault
pub record AreBlocks (files : List SourceFile) (blocks : List Block) : Type 0 where
  pub laid : AreLaid 0 files blocks
  pub sound : faults_from 0 files ≡ []

-- the blocks of the files declare the model
pub record IsDeclared (files : List SourceFile) (blocks : List Block) (m : Lists) : Type 0 where
  pub blocks_are : AreBlocks files blocks
  pub declares : Declares blocks m

-- and have these inferred relations
pub record AreInferred (files : List SourceFile) (blocks : List Block) (m : Lists) (inferences : List Inferred) : Type 0 where
  pub declared : IsDeclared files blocks m
  pub inferences_are : AreInferences m blocks inferences

-- the file that has this place, if it is a table
abbrev pub table_in : ℕ → SourceFile → Option TableFile
table_in n f = if f.is_table then Some (record { file = n; bytes = f.text }) else None

abbrev pub listed_table : Option TableFile → List TableFile
listed_table None = []
listed_table (Some t) = t ∷ []

abbrev pub with_listed : List TableFile → Option TableFile → List TableFile
with_listed tables t = tables ++ listed_table t

-- the tables among files, of which the first has this place
abbrev pub table_files : ℕ → List SourceFile → List TableFile
table_files n [] = []
table_files n (f ∷ fs) = listed_table (table_in n f) ++ table_files (n + 1) fs

-- The rulebase that files spell. Its type keeps that the rules are accepted.
pub record IsAccepted (files : List SourceFile) (base : Rulebase) : Type 0 where
  pub blocks : List Block
  pub inferences : List Inferred
  pub are_inferred : AreInferred files blocks base.model inferences
  pub are_rules : AreAllRules base.model inferences blocks (table_files 0 files) base.rules
  pub files_are : base.files ≡ map (λ f. f.name) files

abbrev pub phrase_at : Lists → AttrId → List ℕ
phrase_at m a = slice_index_or (attribute_phrases m) a.0 []

-- the phrases of a circle
abbrev pub phrases_of : Lists → List AttrId → List (List ℕ)
phrases_of m circle = map (phrase_at m) circle

-- The first phase that has a fault decides: layout, declarations, membership blocks, rules and tables, and what is checked of
-- the rules. The phrases are those of a circle.
pub data IsRefused (files : List SourceFile) (fault : RbFault) : List (List ℕ) → Type 0 where
  at_layout : Begins fault (faults_from 0 files) → IsRefused files fault []
  at_declarations : (blocks : List Block) → AreBlocks files blocks → IsFirstFault blocks fault → IsRefused files fault []
  at_members : (blocks : List Block) (m : Lists) → IsDeclared files blocks m → IsMemberFault m blocks fault → IsRefused files fault []
  at_rules : (blocks : List Block) (m : Lists) (inferences : List Inferred) → AreInferred files blocks m inferences → AreAllRefused m inferences blocks (table_files 0 files) fault → IsRefused files fault []
  at_check : (blocks : List Block) (m : Lists) (inferences : List Inferred) (rules : List Rule) → AreInferred files blocks m inferences → AreAllRules m inferences blocks (table_files 0 files) rules → IsCheckFault m rules fault
      → IsRefused files fault (phrases_of m fault.cycle)

-- a refusal with its cause
abbrev pub HasRefusal : List SourceFile → Unaccepted → Type 0
HasRefusal files (unaccepted.Refused r) = IsRefused files r.fault r.circle
HasRefusal files unaccepted.NoMemory = Unit {0}

-- a refusal of rules that are checked, with the phrases of its circle
abbrev pub IsCircleRefusal : Lists → List Rule → Unaccepted → Type 0
IsCircleRefusal m rules (unaccepted.Refused r) = IsCheckFault m rules r.fault × (r.circle ≡ phrases_of m r.fault.cycle)
IsCircleRefusal m rules unaccepted.NoMemory = Unit {0}

-- the same fault, without a circle
abbrev pub IsPlain : RbError → Unaccepted → Type 0
IsPlain (errors.Refused fault) u = u ≡ unaccepted.Refused (record { fault = fault; circle = [] })
IsPlain errors.NoMemory u = u ≡ unaccepted.NoMemory

-- the name of the file that has this place
abbrev pub name_at : List SourceFile → ℕ → List ℕ
name_at files n = slice_index_or (map (λ f. f.name) files) n []

abbrev pub refusal_in : List SourceFile → RbFault → List (List ℕ) → List ℕ
refusal_in files fault circle = refusal_text fault.kind (name_at files fault.file) fault.line circle

-- the first fault of the files of a shelf
pub data IsFaultOf (files : Files) (name : List ℕ) (fault : RbFault) : Type 0 where
  of_file : (u : Unread) → AreFiles files name (Err u) → u.fault ≡ fault → IsFaultOf files name fault
  of_rules : (sources : List SourceFile) (circle : List (List ℕ)) → AreFiles files name (Ok sources) → IsRefused sources fault circle → IsFaultOf files name fault

-- What the files of a shelf open under a name.
pub data Opens (files : Files) (name : List ℕ) : Result Rulebase (List ℕ) → Type 0 where
  accepts : (sources : List SourceFile) (base : Rulebase) → AreFiles files name (Ok sources) → IsAccepted sources base → Opens files name (Ok base)
  cannot_take : (u : Unread) → AreFiles files name (Err u) → Opens files name (Err (refusal_text u.fault.kind u.name u.fault.line []))
  refuses : (sources : List SourceFile) (fault : RbFault) (circle : List (List ℕ)) → AreFiles files name (Ok sources) → IsRefused sources fault circle
      → Opens files name (Err (refusal_in sources fault circle))

-- the fault and the text, if memory was found for it
abbrev pub Tells : RbFault → List ℕ → LoadError → Type 0
Tells fault text (load.Refused f t) = (f ≡ fault) × (t ≡ text)
Tells fault text load.ReadFault = ⊥
Tells fault text load.NoMemory = Unit {0}

-- what is told of files that couldn't be taken
abbrev pub IsUntaken : TakeError → LoadError → Type 0
IsUntaken (take.Refused u) e = Tells u.fault (refusal_text u.fault.kind u.name u.fault.line []) e
IsUntaken take.ReadFault e = e ≡ load.ReadFault
IsUntaken take.NoMemory e = e ≡ load.NoMemory

-- what is told of files that aren't accepted
abbrev pub IsUnacceptedAs : List SourceFile → Unaccepted → LoadError → Type 0
IsUnacceptedAs files (unaccepted.Refused r) e = Tells r.fault (refusal_in files r.fault r.circle) e
IsUnacceptedAs files unaccepted.NoMemory e = e ≡ load.NoMemory

-- a refusal of files that were taken, with its cause
abbrev pub IsRefusedAs : List SourceFile → LoadError → Type 0
IsRefusedAs files (load.Refused fault text) = (circle : List (List ℕ)) × IsRefused files fault circle × (text ≡ refusal_in files fault circle)
IsRefusedAs files load.ReadFault = ⊥
IsRefusedAs files load.NoMemory = Unit {0}

-- the refusal of what a shelf's files open, and its text
pub record IsRefusalOf (files : Files) (name : List ℕ) (fault : RbFault) (text : List ℕ) : Type 0 where
  pub opens : Opens files name (Err text)
  pub fault_is : IsFaultOf files name fault

-- why nothing was loaded
abbrev pub HasLoadError : Option Files → List ℕ → ℕ → ℕ → LoadError → Type 0
HasLoadError told name before now (load.Refused fault text) = IfSome told (λ files. IsRefusalOf files name fault text)
HasLoadError told name before now load.ReadFault = Rose before now
HasLoadError told name before now load.NoMemory = Unit {0}
