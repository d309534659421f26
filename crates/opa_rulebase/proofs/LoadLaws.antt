-- What the files of a shelf open, phase by phase.
use Rattle.std.proofs.lemmas.List.Elements.{All-nil, All-cons, All-append}
use Rattle.std.specs.Prelude.{if◌then◌else◌}
use Rattle.std.proofs.Common.{◌≡◌, ℕ, ◌+◌, ◌≤◌, ◌<◌, ◌^◌, ◌++◌, append_assoc, append-nil, Bool, true, false, List, [], ◌∷◌, length, map, All, Option, Some, None, Result, Ok, Err, IfOk, IfErr, IfSome, slice_index_or, refl, sym, ap, ◌∙◌, subst, arith}
use Rattle.opa_io.specs.Outside.{Files}
use Rattle.opa_model.specs.declared.lists.Lists.{Lists}
use Rattle.opa_words.specs.declared.layout.block.Block.{Block}
use Rattle.opa_tree.specs.declared.faults.RbError.{RbError}
use Rattle.opa_tree.specs.declared.faults.RbError.TheVariants as errors
use Rattle.opa_tree.specs.declared.faults.RbFault.{RbFault}
use Rattle.opa_tree.specs.declared.rulebase.Rulebase.{Rulebase}
use Rattle.opa_tree.specs.declared.rules.Inferred.{Inferred}
use Rattle.opa_tree.specs.declared.rules.Rule.{Rule}
use Rattle.opa_rulebase.specs.declared.files.fault.TakeError.{TakeError}
use Rattle.opa_rulebase.specs.declared.files.fault.TakeError.TheVariants as take
use Rattle.opa_rulebase.specs.declared.files.source.SourceFile.{SourceFile}
use Rattle.opa_rulebase.specs.Files.Files.{AreFiles, HasTakeError}
use Rattle.opa_rulebase.specs.declared.fault.LoadError.{LoadError}
use Rattle.opa_rulebase.specs.declared.fault.LoadError.TheVariants as load
use Rattle.opa_rulebase.specs.declared.fault.Unaccepted.{Unaccepted}
use Rattle.opa_rulebase.specs.declared.fault.Unaccepted.TheVariants as unaccepted
use Rattle.opa_parse.specs.declared.tables.whole.TableFile.{TableFile}
use Rattle.opa_parse.specs.Tables.Whole.{AreAllRules}
use Rattle.opa_rulebase.specs.Loading.{AreInferred, IsAccepted, IsRefused, HasRefusal, IsCircleRefusal, IsPlain, IsUntaken, IsUnacceptedAs, IsRefusedAs, IsRefusalOf, HasLoadError, IsFaultOf, Opens, refusal_in, table_in, with_listed, listed_table, table_files}

-- ---- phases

pub plain_refusal : (files : List SourceFile) (e : RbError) (u : Unaccepted) → IsPlain e u → ((f : RbFault) → e ≡ errors.Refused f → IsRefused files f []) → HasRefusal files u
plain_refusal files (errors.Refused f) u p h = subst (HasRefusal files) (sym p) (h f refl)
plain_refusal files errors.NoMemory u p h = subst (HasRefusal files) (sym p) tt

module _ (files : List SourceFile) (blocks : List Block) (m : Lists) (inferences : List Inferred) (rules : List Rule) (inferred : AreInferred files blocks m inferences) (all : AreAllRules m inferences blocks (table_files 0 files) rules) where
  pub accepted_by : (names : List (List ℕ)) (r : Result Rulebase Unaccepted) → names ≡ map (λ (f : SourceFile). f.name) files → IfOk r (λ base. base.model ≡ m) → IfOk r (λ base. base.rules ≡ rules) → IfOk r (λ base. base.files ≡ names) → IfOk r (IsAccepted files)
  accepted_by names (Ok base) n p q s = record {
    blocks = blocks;
    inferences = inferences;
    are_inferred = subst (λ x. AreInferred files blocks x inferences) (sym p) inferred;
    are_rules = subst (λ x. AreAllRules x inferences blocks (table_files 0 files) base.rules) (sym p) (subst (AreAllRules m inferences blocks (table_files 0 files)) (sym q) all);
    files_are = s ∙ n;
  }
  accepted_by names (Err u) n p q s = tt

  refused_in : (u : Unaccepted) → IsCircleRefusal m rules u → HasRefusal files u
  refused_in (unaccepted.Refused r) h = subst (IsRefused files r.fault) (sym h.1) (IsRefused.at_check blocks m inferences rules inferred all h.0)
  refused_in unaccepted.NoMemory h = tt

  pub refused_by : (r : Result Rulebase Unaccepted) → IfErr r (IsCircleRefusal m rules) → IfErr r (HasRefusal files)
  refused_by (Ok base) h = tt
  refused_by (Err u) h = refused_in u h

-- what holds of the model holds of the rulebase's
pub model_has : (P : Lists → Type 0) (m : Lists) (r : Result Rulebase Unaccepted) → P m → IfOk r (λ base. base.model ≡ m) → IfOk r (λ base. P base.model)
model_has P m (Ok base) h e = subst P (sym e) h
model_has P m (Err u) h e = tt

-- ---- shelves

pub refused_as : (files : List SourceFile) (u : Unaccepted) (e : LoadError) → HasRefusal files u → IsUnacceptedAs files u e → IsRefusedAs files e
refused_as files (unaccepted.Refused r) (load.Refused f t) h k = (r.circle, subst (λ x. IsRefused files x r.circle) (sym k.0) h, k.1 ∙ ap (λ x. refusal_in files x r.circle) (sym k.0))
refused_as files (unaccepted.Refused r) load.ReadFault h k = absurd k
refused_as files (unaccepted.Refused r) load.NoMemory h k = tt
refused_as files unaccepted.NoMemory e h k = subst (IsRefusedAs files) (sym k) tt

module _ (told : Option Files) (name : List ℕ) (b n : ℕ) where
  told_of : {P Q : Files → Type 0} (o : Option Files) → IfSome o P → ((files : Files) → P files → Q files) → IfSome o Q
  told_of None h f = tt
  told_of (Some files) h f = f files h

  pub load_untaken : (e : TakeError) (x : LoadError) → HasTakeError told (λ files u. AreFiles files name (Err u)) b n e → IsUntaken e x → HasLoadError told name b n x
  load_untaken (take.Refused u) (load.Refused f t) h k =
      told_of {P = λ files. AreFiles files name (Err u)} {Q = λ files. IsRefusalOf files name f t} told h (λ files a. record { opens = subst (λ x. Opens files name (Err x)) (sym k.1) (Opens.cannot_take u a); fault_is = IsFaultOf.of_file u a (sym k.0) })
  load_untaken (take.Refused u) load.ReadFault h k = absurd k
  load_untaken (take.Refused u) load.NoMemory h k = tt
  load_untaken take.ReadFault x h k = subst (HasLoadError told name b n) (sym k) h
  load_untaken take.NoMemory x h k = subst (HasLoadError told name b n) (sym k) tt

  module _ (sources : List SourceFile) (taken : IfSome told (λ files. AreFiles files name (Ok sources))) where
    pub load_opens : (r : Result Rulebase LoadError) → IfOk r (IsAccepted sources) → IfSome told (λ files. IfOk r (λ base. Opens files name (Ok base)))
    load_opens (Ok base) h = told_of {P = λ files. AreFiles files name (Ok sources)} {Q = λ files. Opens files name (Ok base)} told taken (λ files a. Opens.accepts sources base a h)
    load_opens (Err x) h = told_of {P = λ files. AreFiles files name (Ok sources)} {Q = λ files. Unit {0}} told taken (λ files a. tt)

    fails : (x : LoadError) → IsRefusedAs sources x → HasLoadError told name b n x
    fails (load.Refused f t) h = told_of {P = λ files. AreFiles files name (Ok sources)} {Q = λ files. IsRefusalOf files name f t} told taken
        (λ files a. record { opens = subst (λ x. Opens files name (Err x)) (sym h.2) (Opens.refuses sources f h.0 a h.1); fault_is = IsFaultOf.of_rules sources h.0 a h.1 })
    fails load.ReadFault h = absurd h
    fails load.NoMemory h = tt

    pub load_fails : (r : Result Rulebase LoadError) → IfErr r (IsRefusedAs sources) → IfErr r (HasLoadError told name b n)
    load_fails (Ok base) h = tt
    load_fails (Err x) h = fails x h

-- ---- bounds

pub short_texts : (files : List SourceFile) → All (λ (f : SourceFile). length f.text ≤ 8388608) files → All (λ (f : SourceFile). length f.text < 2 ^ 32) files
short_texts files h = λ k d i. let m : length (slice_index_or files k d).text ≤ 8388608 = h k d i in omega (arith, m)

-- ---- tables

pub tables_more : (old new : List TableFile) (n : ℕ) (f : SourceFile) (fs rest : List SourceFile) (all : List TableFile) → rest ≡ f ∷ fs → new ≡ with_listed old (table_in n f) → old ++ table_files n rest ≡ all → new ++ table_files (n + 1) fs ≡ all
tables_more old new n f fs rest all e m h = ap (λ x. x ++ table_files (n + 1) fs) m ∙ append_assoc old (listed_table (table_in n f)) (table_files (n + 1) fs) ∙ ap (λ x. old ++ table_files n x) (sym e) ∙ h

place_in : (n total : ℕ) (f : SourceFile) (t : Bool) → n < total → All (λ (x : TableFile). x.file < total) (listed_table (if t then Some (record { file = n; bytes = f.text }) else None))
place_in n total f true h = All-cons (λ (x : TableFile). x.file < total) (record { file = n; bytes = f.text }) [] h (All-nil (λ (x : TableFile). x.file < total))
place_in n total f false h = All-nil (λ (x : TableFile). x.file < total)

-- tables stand at places of the files
pub tables_placed : (n total : ℕ) (fs : List SourceFile) → n + length fs ≤ total → All (λ (x : TableFile). x.file < total) (table_files n fs)
tables_placed n total [] h = All-nil (λ (x : TableFile). x.file < total)
tables_placed n total (f ∷ fs) h = All-append (λ (x : TableFile). x.file < total) (listed_table (table_in n f)) (table_files (n + 1) fs) (place_in n total f f.is_table (omega (arith, h))) (tables_placed (n + 1) total fs (omega (arith, h)))

pub tables_end : (old : List TableFile) (n : ℕ) (rest : List SourceFile) (all : List TableFile) → rest ≡ [] → old ++ table_files n rest ≡ all → old ≡ all
tables_end old n rest all e h = sym (append-nil old) ∙ ap (λ x. old ++ table_files n x) (sym e) ∙ h

-- what holds of every rulebase holds of the one that is loaded
pub ok_has : {P : Rulebase → Type 0} (r : Result Rulebase LoadError) → ((base : Rulebase) → P base) → IfOk r P
ok_has (Ok base) h = h base
ok_has (Err error) h = tt
