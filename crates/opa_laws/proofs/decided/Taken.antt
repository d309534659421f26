-- Files are taken in one way.
use Rattle.std.proofs.Common.{◌≡◌, ◌∙◌, ℕ, ◌≤◌, ◌<◌, List, [], ◌∷◌, length, Bool, true, false, Some, Result, Ok, Err, refl, sym, ap, ap₂, subst, slice_get, arith}
use Rattle.std.proofs.lemmas.Option.{slice_get_within}
use Rattle.opa_io.specs.Outside.{Files}
use Rattle.opa_words.proofs.QuoteLaws.{quoted_tells_apart}
use Rattle.opa_words.specs.Pieces.{Piece, word, text}
use Rattle.opa_words.proofs.LawsHold.{one_cutting_holds}
use Rattle.opa_words.specs.Layout.Lines.{Row, rows}
use Rattle.opa_tree.specs.declared.faults.RbKind.{RbKind}
use Rattle.opa_tree.specs.declared.faults.RbKind.TheVariants.{Limit}
use Rattle.opa_rulebase.specs.declared.files.fault.Unread.{Unread}
use Rattle.opa_rulebase.specs.declared.files.source.FileLine.{FileLine}
use Rattle.opa_rulebase.specs.declared.files.source.SourceFile.{SourceFile}
use Rattle.opa_rulebase.specs.Files.FileLines as l
use Rattle.opa_rulebase.specs.Files.FileLines.{first_word, NamesFile, NamesNone, AreFileLines}
use Rattle.opa_rulebase.specs.Files.Files as f
use Rattle.opa_rulebase.specs.Files.Files.{AreFiles, IsMain, text_under, unread, source, with_more, files_from}
use Rattle.opa_laws.specs.Decided.Taking.{OneTaken}

-- ---- lines that name files

same_sort : (s t : Bool) → first_word s ≡ first_word t → s ≡ t
same_sort true true e = refl
same_sort true false e = absurd (cc e)
same_sort false true e = absurd (cc e)
same_sort false false e = refl

one_named : (number : ℕ) (line : List ℕ) (x y : FileLine) → NamesFile number line x → NamesFile number line y → x ≡ y
one_named number line x y h k =
    let whole : word (first_word x.is_table) ∷ text x.name ∷ [] ≡ word (first_word y.is_table) ∷ text y.name ∷ [] = one_cutting_holds line _ _ h.tokens k.tokens in
    let words : word (first_word x.is_table) ≡ word (first_word y.is_table) = cc whole in
    let texts : text x.name ≡ text y.name = cc whole in
    let sort : x.is_table ≡ y.is_table = same_sort x.is_table y.is_table (ap (λ (p : Piece). p.text) words) in
    let name : x.name ≡ y.name = quoted_tells_apart x.name y.name (ap (λ (p : Piece). p.text) texts) in
    let place : x.line ≡ y.line = h.stands_at ∙ sym k.stands_at in
    same place sort name
  where
    same : x.line ≡ y.line → x.is_table ≡ y.is_table → x.name ≡ y.name → x ≡ y
    same p q r =
        ap (λ (n : ℕ). let z : FileLine = record { line = n; is_table = x.is_table; name = x.name } in z) p
        ∙ ap₂ (λ (t : Bool) (name : List ℕ). let z : FileLine = record { line = y.line; is_table = t; name = name } in z) q r

abbrev Only : List Row → List FileLine → Type 0
Only rs xs = (ys : List FileLine) → AreFileLines rs ys → xs ≡ ys

at_end : Only [] []
at_end ys l.AreFileLines.none = refl

after_passed : (r : Row) (rs : List Row) (xs : List FileLine) → NamesNone r.number r.text → Only rs xs → Only (r ∷ rs) xs
after_passed r rs xs none one ys (l.AreFileLines.passed n k) = one ys k
after_passed r rs xs none one ys (l.AreFileLines.named {f = y} n k) = absurd (none y n)

after_named : (r : Row) (rs : List Row) (x : FileLine) (xs : List FileLine) → NamesFile r.number r.text x → Only rs xs → Only (r ∷ rs) (x ∷ xs)
after_named r rs x xs is one ys (l.AreFileLines.passed n k) = absurd (n x is)
after_named r rs x xs is one ys (l.AreFileLines.named {f = y} {fs = more} n k) = ap₂ (λ z zs. z ∷ zs) (one_named r.number r.text x y is n) (one more k)

one_list : {rs : List Row} {xs : List FileLine} → AreFileLines rs xs → Only rs xs
one_list l.AreFileLines.none = at_end
one_list (l.AreFileLines.passed {r = r} {rs = rs} {fs = xs} n k) = after_passed r rs xs n (one_list k)
one_list (l.AreFileLines.named {r = r} {rs = rs} {f = x} {fs = xs} n k) = after_named r rs x xs n (one_list k)

-- ---- the files

module _ (files : Files) (name : List ℕ) where
  one_text : (t u : List ℕ) → text_under files name ≡ Ok t → text_under files name ≡ Ok u → t ≡ u
  one_text t u e g = let same : Ok t ≡ Ok u = sym e ∙ g in cc same

  no_text : (t : List ℕ) (kind : RbKind) → text_under files name ≡ Ok t → text_under files name ≡ Err kind → ⊥
  no_text t kind e g = let same : Ok t ≡ Err kind = sym e ∙ g in cc same

  one_kind : (j k : RbKind) → text_under files name ≡ Err j → text_under files name ≡ Err k → j ≡ k
  one_kind j k e g = let same : Err j ≡ Err k = sym e ∙ g in cc same

  one_main : (t u : List ℕ) (xs ys : List FileLine) → IsMain files name t xs → IsMain files name u ys → (t ≡ u) × (xs ≡ ys)
  one_main t u xs ys h k =
      let same : t ≡ u = one_text t u h.text_is k.text_is in
      (same, one_list h.lines_are ys (subst (λ x. AreFileLines (rows x) ys) (sym same) k.lines_are))

  not_both : (xs : List FileLine) (over : FileLine) → slice_get xs 100 ≡ Some over → length xs ≤ 100 → ⊥
  not_both xs over e few = let lt : 100 < length xs = slice_get_within xs 100 over e in omega (arith, lt, few)

  over_few : (t u : List ℕ) (xs ys : List FileLine) (over : FileLine) → IsMain files name t xs → IsMain files name u ys → slice_get xs 100 ≡ Some over → length ys ≤ 100 → ⊥
  over_few t u xs ys over h k e few = not_both ys over (sym (ap (λ zs. slice_get zs 100) (one_main t u xs ys h k).1) ∙ e) few

  abbrev Taken : Result (List SourceFile) Unread → Type 0
  Taken a = (b : Result (List SourceFile) Unread) → AreFiles files name b → a ≡ b

  after_no_main : (kind : RbKind) → text_under files name ≡ Err kind → Taken (Err (unread 0 0 kind name))
  after_no_main kind e b (f.AreFiles.no_main other g) = ap (λ x. Err (unread 0 0 x name)) (one_kind kind other e g)
  after_no_main kind e b (f.AreFiles.too_many t xs over is g) = absurd (no_text t kind is.text_is e)
  after_no_main kind e b (f.AreFiles.with_named t xs is few) = absurd (no_text t kind is.text_is e)

  after_too_many : (t : List ℕ) (xs : List FileLine) (over : FileLine) → IsMain files name t xs → slice_get xs 100 ≡ Some over → Taken (Err (unread 0 over.line Limit name))
  after_too_many t xs over is e b (f.AreFiles.no_main kind g) = absurd (no_text t kind is.text_is g)
  after_too_many t xs over is e b (f.AreFiles.too_many u ys other also g) =
      let same : Some over ≡ Some other = sym e ∙ ap (λ zs. slice_get zs 100) (one_main t u xs ys is also).1 ∙ g in
      ap (λ (z : FileLine). Err (unread 0 z.line Limit name)) (let own : over ≡ other = cc same in own)
  after_too_many t xs over is e b (f.AreFiles.with_named u ys also few) = absurd (over_few t u xs ys over is also e few)

  after_named_files : (t : List ℕ) (xs : List FileLine) → IsMain files name t xs → length xs ≤ 100 → Taken (with_more (source name false t ∷ []) (files_from files 1 xs))
  after_named_files t xs is few b (f.AreFiles.no_main kind g) = absurd (no_text t kind is.text_is g)
  after_named_files t xs is few b (f.AreFiles.too_many u ys over also g) = absurd (over_few u t ys xs over also is g few)
  after_named_files t xs is few b (f.AreFiles.with_named u ys also less) =
      let same = one_main t u xs ys is also in
      ap₂ (λ (x : List ℕ) (zs : List FileLine). with_more (source name false x ∷ []) (files_from files 1 zs)) same.0 same.1

  one_taken : {a : Result (List SourceFile) Unread} → AreFiles files name a → Taken a
  one_taken (f.AreFiles.no_main kind e) = after_no_main kind e
  one_taken (f.AreFiles.too_many t xs over is e) = after_too_many t xs over is e
  one_taken (f.AreFiles.with_named t xs is few) = after_named_files t xs is few

pub one_taken_holds : OneTaken
one_taken_holds files name a b h k = one_taken files name h b k
