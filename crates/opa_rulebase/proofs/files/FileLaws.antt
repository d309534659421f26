-- Files that are taken one after another.
use Rattle.std.proofs.Common.{◌≡◌, ℕ, ◌+◌, ◌≤◌, List, [], ◌∷◌, ◌++◌, length, false, Option, Some, None, IfSome, IfOk, IfErr, Result, Ok, Err, refl, sym, ap, ◌∙◌, append_assoc, append-nil, subst, slice_get}
use Rattle.opa_io.specs.Outside.{Files}
use Rattle.opa_io.proofs.Outsides.{rose_before}
use Rattle.opa_words.specs.Layout.Lines.{rows}
use Rattle.opa_tree.specs.declared.faults.RbKind.TheVariants.{Limit}
use Rattle.opa_rulebase.specs.declared.files.fault.TakeError.{TakeError}
use Rattle.opa_rulebase.specs.declared.files.fault.TakeError.TheVariants as errors
use Rattle.opa_rulebase.specs.declared.files.fault.Unread.{Unread}
use Rattle.opa_rulebase.specs.declared.files.source.FileLine.{FileLine}
use Rattle.opa_rulebase.specs.declared.files.source.SourceFile.{SourceFile}
use Rattle.opa_rulebase.specs.Files.FileLines.{AreFileLines}
use Rattle.opa_rulebase.specs.Files.Files.{AreFiles, IsMain, HasTakeError, with_more, file_then, files_from, text_under, source, unread, RefusesFile}

with_both : (xs ys : List SourceFile) (r : Result (List SourceFile) Unread) → with_more xs (with_more ys r) ≡ with_more (xs ++ ys) r
with_both xs ys (Ok zs) = ap (λ s. Ok s) (sym (append_assoc xs ys zs))
with_both xs ys (Err u) = refl

-- one more file is taken
pub files_more : (files : Files) (old new : List SourceFile) (n : ℕ) (l : FileLine) (ls left : List FileLine) (f : SourceFile) (all : Result (List SourceFile) Unread)
    → left ≡ l ∷ ls → with_more old (files_from files n left) ≡ all → text_under files l.name ≡ Ok f.text → f ≡ source l.name l.is_table f.text → new ≡ old ++ f ∷ []
    → with_more new (files_from files (n + 1) ls) ≡ all
files_more files old new n l ls left f all e h t s m =
    ap (λ x. with_more x (files_from files (n + 1) ls)) (m ∙ ap (λ g. old ++ g ∷ []) s) ∙ sym (with_both old (source l.name l.is_table f.text ∷ []) (files_from files (n + 1) ls))
    ∙ ap (λ t. with_more old (file_then n l t (files_from files (n + 1) ls))) (sym t) ∙ ap (λ x. with_more old (files_from files n x)) (sym e) ∙ h

-- no file is left
pub files_end : (files : Files) (old : List SourceFile) (n : ℕ) (left : List FileLine) (all : Result (List SourceFile) Unread) → left ≡ [] → with_more old (files_from files n left) ≡ all → all ≡ Ok old
files_end files old n left all e h = sym h ∙ ap (λ x. with_more old (files_from files n x)) e ∙ ap (λ x. Ok x) (append-nil old)

undone : (old : List SourceFile) (r : Result (List SourceFile) Unread) (u : Unread) → with_more old r ≡ Err u → r ≡ Err u
undone old (Ok fs) u e = absurd (cc e)
undone old (Err v) u e = e

-- a file can't be had
pub files_fail : (files : Files) (old main : List SourceFile) (n : ℕ) (l : FileLine) (ls left : List FileLine) (u : Unread) (whole : Result (List SourceFile) Unread)
    → left ≡ l ∷ ls → with_more old (files_from files n left) ≡ with_more main whole → RefusesFile n l.name files u → whole ≡ Err u
files_fail files old main n l ls left u whole e h r =
    undone main whole u (sym h ∙ ap (λ x. with_more old (files_from files n x)) e ∙ ap (λ t. with_more old (file_then n l t (files_from files (n + 1) ls))) r.1 ∙ ap (λ x. Err x) (sym r.2))

-- ---- where the shelf tells its files

pub told_both : (told : Option Files) (P Q R : Files → Type 0) → IfSome told P → IfSome told Q → ((files : Files) → P files → Q files → R files) → IfSome told R
told_both None P Q R p q f = tt
told_both (Some files) P Q R p q f = f files p q

module _ (told : Option Files) (name : List ℕ) where
  pub main_fails : (b n : ℕ) (e : TakeError) → HasTakeError told (RefusesFile 0 name) b n e → HasTakeError told (λ files u. AreFiles files name (Err u)) b n e
  main_fails b n (errors.Refused u) h = told_both told (λ files. RefusesFile 0 name files u) (λ files. RefusesFile 0 name files u) (λ files. AreFiles files name (Err u)) h h
      (λ files r k. subst (λ x. AreFiles files name (Err x)) (sym r.2) (AreFiles.no_main r.0 r.1))
  main_fails b n errors.ReadFault h = h
  main_fails b n errors.NoMemory h = tt

  module _ (text : List ℕ) (lines : List FileLine) (is : IfSome told (λ files. text_under files name ≡ Ok text)) (are : AreFileLines (rows text) lines) where
    is_main : (files : Files) → text_under files name ≡ Ok text → IsMain files name text lines
    is_main files e = record { text_is = e; lines_are = are }

    pub lines_over : (over : FileLine) (u : Unread) → slice_get lines 100 ≡ Some over → u ≡ unread 0 over.line Limit name → IfSome told (λ files. AreFiles files name (Err u))
    lines_over over u h e =
        told_both told (λ files. text_under files name ≡ Ok text) (λ files. text_under files name ≡ Ok text) (λ files. AreFiles files name (Err u)) is is
        (λ files t k. subst (λ x. AreFiles files name (Err x)) (sym e) (AreFiles.too_many text lines over (is_main files t) h))

    module _ (few : length lines ≤ 100) where
      whole : (files : Files) (r : Result (List SourceFile) Unread) → text_under files name ≡ Ok text → with_more (source name false text ∷ []) (files_from files 1 lines) ≡ r → AreFiles files name r
      whole files r t e = subst (AreFiles files name) e (AreFiles.with_named text lines (is_main files t) few)

      pub named_fails : (b m n : ℕ) (e : TakeError) → b ≤ m → HasTakeError told (λ files u. files_from files 1 lines ≡ Err u) m n e → HasTakeError told (λ files u. AreFiles files name (Err u)) b n e
      named_fails b m n (errors.Refused u) le h =
          told_both told (λ files. text_under files name ≡ Ok text) (λ files. files_from files 1 lines ≡ Err u) (λ files. AreFiles files name (Err u)) is h
          (λ files t k. whole files (Err u) t (ap (with_more (source name false text ∷ [])) k))
      named_fails b m n errors.ReadFault le h = rose_before b m n le h
      named_fails b m n errors.NoMemory le h = tt

      pub named_taken : (r : Result (List SourceFile) TakeError) (main : SourceFile) → main ≡ source name false text → IfSome told (λ files. IfOk r (λ all. with_more (main ∷ []) (files_from files 1 lines) ≡ Ok all))
          → IfSome told (λ files. IfOk r (λ all. AreFiles files name (Ok all)))
      named_taken (Ok all) main e h =
          told_both told (λ files. text_under files name ≡ Ok text) (λ files. with_more (main ∷ []) (files_from files 1 lines) ≡ Ok all) (λ files. AreFiles files name (Ok all)) is h
          (λ files t k. whole files (Ok all) t (ap (λ f. with_more (f ∷ []) (files_from files 1 lines)) (sym e) ∙ k))
      named_taken (Err u) main e h = told_both told (λ files. text_under files name ≡ Ok text) (λ files. text_under files name ≡ Ok text) (λ files. Unit {0}) is is (λ files t k. tt)

-- a fault after the main file was taken
pub failed_after : (told told' : Option Files) (name text : List ℕ) (lines lines' : List FileLine) (r : Result (List SourceFile) TakeError) → IfSome told (λ files. text_under files name ≡ Ok text) → AreFileLines (rows text) lines → length lines ≤ 100
    → (b m n : ℕ) → b ≤ m → told' ≡ told → lines' ≡ lines → IfErr r (HasTakeError told' (λ files u. files_from files 1 lines' ≡ Err u) m n) → IfErr r (HasTakeError told (λ files u. AreFiles files name (Err u)) b n)
failed_after told told' name text lines lines' (Ok all) is are few b m n le t l h = tt
failed_after told told' name text lines lines' (Err e) is are few b m n le t l h =
    named_fails told name text lines is are few b m n e le (subst (λ o. HasTakeError o (λ files u. files_from files 1 lines ≡ Err u) m n e) t (subst (λ ls. HasTakeError told' (λ files u. files_from files 1 ls ≡ Err u) m n e) l h))
