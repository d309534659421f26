-- The rows of records, one after another, and what an input gives.
use Rattle.std.proofs.Common.{◌≡◌, ◌+◌, ℕ, List, [], ◌∷◌, ◌++◌, drop, inl, inr, refl, sym, ap, ◌∙◌, subst, append_assoc, append-nil}
use Rattle.std.specs.Prelude.{Option, Result}
use Rattle.csv.specs.declared.writer.Writer.{Writer}
use Rattle.opa_io.specs.declared.fault.Status.TheVariants as status
use Rattle.opa_case.specs.Cases.{CaseView}
use Rattle.opa_tree.specs.declared.rulebase.Rulebase.{Rulebase}
use Rattle.opa_batch.specs.declared.head.Head.{Head}
use Rattle.opa_batch.specs.Heads.{AreHeads, IsFirstRefusal}
use Rattle.opa_batch.specs.Rows.{IsRecord, row_of}
use Rattle.opa_batch.specs.Batches.{AreRows, GivesOf, heading, written_row}
use Rattle.opa_batch.specs.Numbered.{AreAdded, HasRows, WritesRow}
use Rattle.opa_batch.specs.Gathered.{AddsRow, AddsRows, AddsRowsTo, AddsText, HoldsText}

-- the row of a record, as it is written
pub row_written : (r r1 r2 : Rulebase) (heads : List Head) (n : ℕ) (fields cells : List (List ℕ)) (x : Result CaseView (List ℕ)) (text : List ℕ) → r1 ≡ r → r2 ≡ r1
    → IsRecord r1 heads fields x → cells ≡ row_of r2 n x → text ≡ written_row cells → WritesRow r heads n fields text
row_written r r1 r2 heads n fields cells x text e f is row says =
    record { cells = cells; is_row = (x, subst (λ b. IsRecord b heads fields x) e is, row ∙ ap (λ b. row_of b n x) (f ∙ e)); whole = says }

module _ (r : Rulebase) (heads : List Head) (records : List (List (List ℕ))) (first : List ℕ) where
  pub none_added : AreAdded r heads records first 0 first
  none_added = record { adds = λ more h. record { rows = more; are_rows = h; whole = refl } }

  module _ (place : ℕ) (fields : List (List ℕ)) (text new row : List ℕ) where
    pub one_added : drop place records ≡ fields ∷ drop (place + 1) records → WritesRow r heads (place + 1) fields row → new ≡ text ++ row → AreAdded r heads records first place text → AreAdded r heads records first (place + 1) new
    one_added there written grown added = record {
      adds = λ more h.
          let all : HasRows r heads records first (text ++ (row ++ more)) =
          added.adds (row ++ more) (subst (λ rs. AreRows r heads (place + 1) rs (row ++ more)) (sym there) (written.cells, written.is_row, (more, h, ap (λ t. t ++ more) written.whole))) in
          record { rows = all.rows; are_rows = all.are_rows; whole = ap (λ t. t ++ more) grown ∙ append_assoc text row more ∙ all.whole };
    }

  pub all_added : (place : ℕ) (text : List ℕ) → drop place records ≡ [] → AreAdded r heads records first place text → HasRows r heads records first text
  all_added place text none added =
      let all : HasRows r heads records first (text ++ []) = added.adds [] (subst (λ rs. AreRows r heads (place + 1) rs []) (sym none) refl) in
      record { rows = all.rows; are_rows = all.are_rows; whole = sym (append-nil text) ∙ all.whole }

-- ---- rows are gathered

module _ {W : Type 0} (contents : W → Option (List ℕ)) where
  pub row_is_added : (old new : Writer W) (r r1 r2 : Rulebase) (heads : List Head) (n : ℕ) (fields cells : List (List ℕ)) (x : Result CaseView (List ℕ)) → r1 ≡ r → r2 ≡ r1
      → IsRecord r1 heads fields x → cells ≡ row_of r2 n x → AddsText contents old new (written_row cells) → AddsRow contents old new r heads n fields
  row_is_added old new r r1 r2 heads n fields cells x e f is row adds =
      record { row = written_row cells; writes = row_written r r1 r2 heads n fields cells x (written_row cells) e f is row refl; adds = adds }

  module _ (old : Writer W) (r : Rulebase) (heads : List Head) (records : List (List (List ℕ))) where
    pub no_row_yet : AddsRowsTo contents old old r heads records 0
    no_row_yet = record { so_far = λ first h. (first, h, none_added r heads records first) }

    pub row_on_top : (place : ℕ) (fields : List (List ℕ)) (now new : Writer W) → drop place records ≡ fields ∷ drop (place + 1) records → AddsRowsTo contents old now r heads records place
        → AddsRow contents now new r heads (place + 1) fields → AddsRowsTo contents old new r heads records (place + 1)
    row_on_top place fields now new there before added = record {
      so_far = λ first h.
          let (text, holds, are) = before.so_far first h in
          (text ++ added.row, added.adds.adds text holds, one_added r heads records first place fields text (text ++ added.row) added.row there added.writes refl are);
    }

    pub rows_are_whole : (place : ℕ) (new : Writer W) → drop place records ≡ [] → AddsRowsTo contents old new r heads records place → AddsRows contents old new r heads records
    rows_are_whole place new none before = record {
      all = λ first h. let (text, holds, are) = before.so_far first h in (text, holds, all_added r heads records first place text none are);
    }

    pub without_rows : records ≡ [] → AddsRows contents old old r heads records
    without_rows e = rows_are_whole 0 old e no_row_yet

  pub rows_of_base : (old new : Writer W) (r r' : Rulebase) (heads : List Head) (records : List (List (List ℕ))) → r' ≡ r → AddsRows contents old new r' heads records → AddsRows contents old new r heads records
  rows_of_base old new r r' heads records e h = subst (λ b. AddsRows contents old new b heads records) e h

  -- the heading alone
  pub heading_begins : (none headed : Writer W) (r : Rulebase) (row : List (List ℕ)) → HoldsText contents none [] → row ≡ heading r → AddsText contents none headed (written_row row)
      → HoldsText contents headed (written_row (heading r))
  heading_begins none headed r row empty is first = subst (λ cells. HoldsText contents headed (written_row cells)) is (first.adds [] empty)

  -- the rows behind a text
  pub rows_end : (headed new : Writer W) (r : Rulebase) (heads : List Head) (records : List (List (List ℕ))) (first text : List ℕ) → HoldsText contents headed first → AddsRows contents headed new r heads records
      → ((all : List ℕ) → HoldsText contents new all → text ≡ all) → HasRows r heads records first text
  rows_end headed new r heads records first text begun rows told =
      let (all, holds, has) = rows.all first begun in
      subst (λ t. HasRows r heads records first t) (sym (told all holds)) has

-- ---- what is given

module _ (r : Rulebase) (first : List (List ℕ)) (records : List (List (List ℕ))) where
  pub gives_rows : (heads : List Head) (text : List ℕ) → AreHeads r.model first heads → HasRows r heads records (written_row (heading r)) text → GivesOf r (first ∷ records) status.Done text
  gives_rows heads text are h = inr (refl, record { heads = heads; are_heads = are; rows = h.rows; are_rows = h.are_rows; whole = h.whole })

  pub gives_refusal : (text : List ℕ) → IsFirstRefusal r.model 1 first text → GivesOf r (first ∷ records) status.Refused text
  gives_refusal text h = inl (refl, h)
