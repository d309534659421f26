-- Rows of records that were decided before.
use Rattle.std.proofs.Common.{◌≡◌, ◌<◌, ℕ, List, [], ◌∷◌, ◌++◌, length, drop, get_or, set, refl, sym, ap, ◌∙◌, subst}
use Rattle.std.specs.Prelude.{Option, Result, Ok, Err, Bool, true, false}
use Rattle.std.specs.Fmt.{decimal}
use Rattle.std.proofs.lemmas.List.Elements.{All-get_or, All-nil, All-push, All-set}
use Rattle.csv.specs.Records.{Row, fields_of}
use Rattle.csv.specs.declared.writer.Writer.{Writer}
use Rattle.opa_case.specs.Cases.{CaseView}
use Rattle.opa_tree.specs.declared.rulebase.Rulebase.{Rulebase}
use Rattle.opa_batch.specs.declared.head.Head.{Head}
use Rattle.opa_batch.specs.declared.kept.Kept.{Kept}
use Rattle.opa_batch.specs.Batches.{written_row}
use Rattle.opa_batch.specs.Gathered.{AddsRow, AddsText}
use Rattle.opa_batch.specs.Known.{AddsKnown, AreKept, AreNone, IsKnown, IsRowOf, Keeps}
use Rattle.opa_batch.specs.Rows.{IsRecord, IsRow, row_of}

abbrev HasRow : Rulebase → List Head → Kept → Type 0
HasRow r heads k = k.is_full ≡ true → IsRowOf r heads (fields_of k.cells) (fields_of k.row)

-- ---- slots

pub no_slot : (kept : List Kept) → kept ≡ [] → AreNone kept
no_slot kept e = record { of = λ r heads. subst (AreKept r heads) (sym e) (All-nil (HasRow r heads)) }

pub one_slot : (kept new : List Kept) (k : Kept) → new ≡ kept ++ k ∷ [] → k.is_full ≡ false → AreNone kept → AreNone new
one_slot kept new k e empty none = record { of = λ r heads. subst (AreKept r heads) (sym e) (All-push (HasRow r heads) kept k (none.of r heads) (λ full. absurd (let q : false ≡ true = sym empty ∙ full in cc q))) }

pub known_at : (kept : List Kept) (slot : ℕ) (k : Kept) (fields : List (List ℕ)) → slot < length kept → k ≡ get_or kept slot k → k.is_full ≡ true → fields_of k.cells ≡ fields → IsKnown kept fields k.row
known_at kept slot k fields lt is full same = record {
  of = λ r heads are.
      let here : HasRow r heads k = subst (HasRow r heads) (sym is) (All-get_or (HasRow r heads) kept slot k lt are) in
      subst (λ fs. IsRowOf r heads fs (fields_of k.row)) same (here full);
}

pub keeps_one : (old : List Kept) (slot : ℕ) (k : Kept) (fields row : List (List ℕ)) → fields_of k.cells ≡ fields → fields_of k.row ≡ row → Keeps old (set old slot k) fields row
keeps_one old slot k fields row a b = record {
  of = λ r heads are h. All-set (HasRow r heads) old slot k (λ _. subst (λ fs. IsRowOf r heads fs (fields_of k.row)) (sym a) (subst (IsRowOf r heads fields) (sym b) h)) are;
}

-- ---- rows

module _ (r : Rulebase) (heads : List Head) (n : ℕ) (fields : List (List ℕ)) where
  renumbered : (m : ℕ) (x : Result CaseView (List ℕ)) → decimal n ∷ drop 1 (row_of r m x) ≡ row_of r n x
  renumbered m (Ok c) = refl
  renumbered m (Err text) = refl

  again : (known : List (List ℕ)) → IsRowOf r heads fields known → IsRow r heads n fields (decimal n ∷ drop 1 known)
  again known h = let (x, is, e) = h.is_row in (x, is, ap (λ k. decimal n ∷ drop 1 k) e ∙ renumbered h.number x)

  pub row_again : {W : Type 0} (contents : W → Option (List ℕ)) (kept : List Kept) (old new : Writer W) (known : Row) (cells : List (List ℕ)) → IsKnown kept fields known → cells ≡ decimal n ∷ drop 1 (fields_of known)
      → AddsText contents old new (written_row cells) → AreKept r heads kept → AddsRow contents old new r heads n fields
  row_again contents kept old new known cells is e adds are =
      record { row = written_row cells; writes = record { cells = cells; is_row = subst (IsRow r heads n fields) (sym e) (again (fields_of known) (is.of r heads are)); whole = refl }; adds = adds }

pub row_of_record : (r r1 r2 : Rulebase) (heads : List Head) (n : ℕ) (fields cells : List (List ℕ)) (x : Result CaseView (List ℕ)) → r1 ≡ r → r2 ≡ r1 → IsRecord r1 heads fields x → cells ≡ row_of r2 n x → IsRowOf r heads fields cells
row_of_record r r1 r2 heads n fields cells x e f is row = record { number = n; is_row = (x, subst (λ b. IsRecord b heads fields x) e is, row ∙ ap (λ b. row_of b n x) (f ∙ e)) }

-- ---- whether a record was known

module _ {W : Type 0} (contents : W → Option (List ℕ)) (kept : List Kept) (old new : Writer W) (row row' : Row) (n : ℕ) where
  pub was_known : (found : Bool) → found ≡ true → AddsKnown contents kept found old new row row' n → (r : Rulebase) (heads : List Head) → AreKept r heads kept → AddsRow contents old new r heads n (fields_of row)
  was_known true e h = h
  was_known false e h = absurd (cc e)

  pub row_stays : (found : Bool) → found ≡ false → AddsKnown contents kept found old new row row' n → row' ≡ row
  row_stays false e h = h.1
  row_stays true e h = absurd (cc e)

  pub writer_stays : (found : Bool) → found ≡ false → AddsKnown contents kept found old new row row' n → new ≡ old
  writer_stays false e h = h.0
  writer_stays true e h = absurd (cc e)
