-- How many lines of conclusions are counted, from a change to a whole input.
use Rattle.std.proofs.Common.{◌≡◌, ◌≤◌, ◌<◌, ◌+◌, ◌==◌, ℕ, zero, suc, Bool, true, false, List, [], ◌∷◌, length, drop, is_some, not, filter, inl, inr, refl, sym, ap, ◌∙◌, subst, add-one, arith}
use Rattle.std.specs.Prelude.{Option, None, Some, Result, Ok, IfOk}
use Rattle.std.proofs.lemmas.List.Filters.{length-filter_both}
use Rattle.csv.specs.Records.{field_at}
use Rattle.opa_case.specs.Cases.{CaseView, no_case}
use Rattle.opa_case.specs.declared.change.ChangeCommand.{ChangeCommand}
use Rattle.opa_mean.proofs.reached.Between.{dirty_over, dirty_nowhere}
use Rattle.opa_session.specs.Infer.Sessions.{reached, first_slots}
use Rattle.opa_mean.specs.Changes.{is_dirty, slots}
use Rattle.opa_mean.specs.Given.{base_of, facts_of}
use Rattle.opa_mean.specs.Rulebases.{IsOf}
use Rattle.opa_script.specs.declared.command.Command.{Command}
use Rattle.opa_script.specs.Commands.{IsCommand}
use Rattle.opa_script.specs.Laws.{IsWellFormed}
use Rattle.opa_model.specs.declared.lists.Lists.{Lists}
use Rattle.opa_tree.specs.declared.rulebase.Rulebase.{Rulebase}
use Rattle.opa_batch.specs.declared.head.Head.{Head}
use Rattle.opa_batch.specs.Counting.{CountsAtMost, IsAtMost, ChangeReaches, LineReaches, CellReaches, CellsReach, RecordReaches, RecordsReach, MayCount, due}
use Rattle.opa_batch.specs.Numbered.{left_by, CountsCells, CountsRecords}
use Rattle.opa_batch.specs.Rows.{change_in, stepped, line_of, IsCell}
use Rattle.opa_batch.proofs.HeadLaws.{here, past}

filtered : {A : Type 0} (p : A → Bool) (xs : List A) → length (filter p xs) ≤ length xs
filtered p xs = omega (arith, length-filter_both p (λ x. not (p x)) (λ x. refl) xs)

-- nothing is reached where nothing changes
pub nowhere : (Reaches : ℕ → Type 0) → Reaches 0 → (r : Rulebase) (c d : CaseView) → d ≡ c → IsAtMost Reaches (reached r c d)
nowhere Reaches none r c d e =
    let nothing : reached r c d ≡ 0 = ap (reached r c) e ∙ dirty_nowhere r c in
    (0, none, omega (arith, nothing))

-- ---- a change, and the line of a cell

module _ (r : Rulebase) (c : CaseView) where
  pub change_reaches : (k : ChangeCommand) (d : CaseView) → stepped r c (Some k) ≡ Ok d → IsAtMost (ChangeReaches r c (Some k)) (reached r c d)
  change_reaches k d is = (reached r c d, inr (d, is, refl), omega arith)

  pub line_reaches : (m : Lists) (line : List ℕ) (k : Command) (n : ℕ) → m ≡ r.model → IsCommand m line k → IsWellFormed k → IsAtMost (ChangeReaches r c (change_in k)) n → IsAtMost (LineReaches r c line) n
  line_reaches m line k n same is formed x = (x.0, inr (k, subst (λ l. IsCommand l line k) same is, formed, x.1), x.2)

  pub full_cell_reaches : (h : Head) (cell : List ℕ) (b : Bool) (n : ℕ) → b ≡ (length cell == 0) → b ≡ false → IsAtMost (LineReaches r c (line_of h cell)) n → IsAtMost (CellReaches r c h cell) n
  full_cell_reaches h [] b n e f x = absurd (let q : true ≡ false = sym e ∙ f in cc q)
  full_cell_reaches h (b ∷ cell) t n e f x = x

-- no cell need be reached
pub no_line : (r : Rulebase) (c : CaseView) (h : Head) (cell : List ℕ) → CellReaches r c h cell 0
no_line r c h [] = refl
no_line r c h (b ∷ cell) = inl refl

-- ---- cells

cells_end : (r : Rulebase) (n : ℕ) (c : CaseView) (heads : List Head) → CellsReach r n c heads [] 0
cells_end r n c [] = refl
cells_end r n c (h ∷ heads) = refl

module _ (r : Rulebase) (heads : List Head) (cells : List (List ℕ)) (first : CaseView) where
  pub cells_begin : CountsCells r heads cells first 0 first
  cells_begin =
      let nothing : reached r first first ≡ 0 = dirty_nowhere r first in
      record { counted = 0; few = omega (arith, nothing); leads = λ rest h. let e : rest ≡ 0 + rest = omega arith in subst (λ n. CellsReach r 1 first heads cells n) e h }

  module _ (place : ℕ) (c : CaseView) (way : CountsCells r heads cells first place c) where
    ended : CellsReach r (place + 1) c (drop place heads) (drop place cells) 0 → IsAtMost (CellsReach r 1 first heads cells) (reached r first c)
    ended h = (way.counted + 0, way.leads 0 h, omega (arith, way.few))

    pub cells_are_done : drop place heads ≡ [] → IsAtMost (CellsReach r 1 first heads cells) (reached r first c)
    cells_are_done e = ended (subst (λ hs. CellsReach r (place + 1) c hs (drop place cells) 0) (sym e) refl)

    pub cells_are_short : None ≡ field_at cells place → IsAtMost (CellsReach r 1 first heads cells) (reached r first c)
    cells_are_short e = ended (subst (λ xs. CellsReach r (place + 1) c (drop place heads) xs 0) (sym (past cells place e)) (cells_end r (place + 1) c (drop place heads)))

    module _ (h : Head) (cell : List ℕ) (of : drop place heads ≡ h ∷ drop (place + 1) heads) (at : Some cell ≡ field_at cells place) where
      under : (n : ℕ) → CellsReach r (place + 1) c (h ∷ drop (place + 1) heads) (cell ∷ drop (place + 1) cells) n → CellsReach r 1 first heads cells (way.counted + n)
      under n k =
          way.leads n (subst (λ hs. CellsReach r (place + 1) c hs (drop place cells) n) (sym of) (subst (λ xs. CellsReach r (place + 1) c (h ∷ drop (place + 1) heads) xs n) (sym (here cells place cell at)) k))

      module _ (d : CaseView) (fits : IsOf r c) (afterwards : IsOf r d) (x : IsAtMost (CellReaches r c h cell) (reached r c d)) where
        over : reached r first d ≤ reached r first c + reached r c d
        over = dirty_over r first c d fits afterwards

        pub cells_stop : IsAtMost (CellsReach r 1 first heads cells) (reached r first d)
        cells_stop = let few = over in (way.counted + x.0, under x.0 (inl x.1), omega (arith, way.few, x.2, few))

        pub cells_go_on : (o : Option (List ℕ)) → is_some o ≡ false → IsCell r (place + 1) c h cell (left_by o d) → CountsCells r heads cells first (place + 1) d
        cells_go_on (Some text) e is = absurd (cc e)
        cells_go_on None e is =
            let few = over in
            record {
              counted = way.counted + x.0;
              few = omega (arith, way.few, x.2, few);
              leads = λ rest k.
                  let same : way.counted + (x.0 + rest) ≡ (way.counted + x.0) + rest = omega arith in
                  subst (CellsReach r 1 first heads cells) same (under (x.0 + rest) (inr (x.0, rest, d, x.1, is, k, refl)));
            }

-- ---- a record

module _ (r : Rulebase) (heads : List Head) (cells : List (List ℕ)) where
  pub record_reaches : (c d : CaseView) → length cells ≡ length heads → c ≡ no_case → IsAtMost (CellsReach r 1 c heads cells) (reached r c d) → IsAtMost (RecordReaches r heads cells) (reached r no_case d)
  record_reaches c d same empty x =
      let y : IsAtMost (CellsReach r 1 no_case heads cells) (reached r no_case d) = subst (λ (e : CaseView). IsAtMost (CellsReach r 1 e heads cells) (reached r e d)) empty x in
      (y.0, inr (same, y.1), y.2)

  -- its case is held in the place of another
  pub record_counts : (b : Rulebase) (made : Result CaseView (List ℕ)) (c d : CaseView) (before now : ℕ) → b ≡ r → made ≡ Ok d → IfOk made (λ e. IsAtMost (RecordReaches b heads cells) (reached b no_case e))
      → now ≤ before + (reached r c no_case + reached r no_case d) → CountsAtMost (RecordReaches r heads cells) (before + reached r c no_case) now
  record_counts b made c d before now same is reaches few =
      let x : IsAtMost (RecordReaches b heads cells) (reached b no_case d) = subst (λ (m : Result CaseView (List ℕ)). IfOk m (λ e. IsAtMost (RecordReaches b heads cells) (reached b no_case e))) is reaches in
      let y : IsAtMost (RecordReaches r heads cells) (reached r no_case d) = subst (λ (k : Rulebase). IsAtMost (RecordReaches k heads cells) (reached k no_case d)) same x in
      (y.0, y.1, omega (arith, y.2, few))

  -- nothing was determined for a record
  pub not_determined : (before more : ℕ) → CountsAtMost (RecordReaches r heads cells) (before + more) before
  not_determined before more = (0, inl refl, omega arith)

  -- where a record comes first nothing is known before it, and else no more is reached than there is where nothing is known
  forgotten : (c : CaseView) (place : ℕ) → (place ≡ 0 → c ≡ no_case) → reached r c no_case ≤ due r place
  forgotten c zero first = let nothing : reached r c no_case ≡ 0 = ap (λ (d : CaseView). reached r d no_case) (first refl) ∙ dirty_nowhere r no_case in omega (arith, nothing)
  forgotten c (suc place) first = filtered (λ s. is_dirty (base_of r) (facts_of c) (facts_of no_case) s.0 s.1) (slots (base_of r) (facts_of no_case))

  pub record_is_due : (c : CaseView) (place before now : ℕ) → (place ≡ 0 → c ≡ no_case) → CountsAtMost (RecordReaches r heads cells) (before + reached r c no_case) now → CountsAtMost (RecordReaches r heads cells) (before + due r place) now
  record_is_due c place before now first x = let few = forgotten c place first in (x.0, x.1, omega (arith, x.2, few))

-- another case is held: no more is reached than over the case of which nothing is known
pub over_nothing : (r : Rulebase) (c d : CaseView) (before now : ℕ) → IsOf r no_case → IsOf r d → now ≤ before + reached r c d → now ≤ before + (reached r c no_case + reached r no_case d)
over_nothing r c d before now none fits few =
    let over : reached r c d ≤ reached r c no_case + reached r no_case d = dirty_over r c no_case d none fits in
    omega (arith, few, over)

-- ---- records

module _ (r : Rulebase) (heads : List Head) where
  some_reach : (records : List (List (List ℕ))) → (n : ℕ) × RecordsReach r heads records n
  some_reach [] = (0, refl)
  some_reach (cells ∷ records) = let x = some_reach records in ((first_slots r + 0) + x.0, (0, x.0, inl refl, x.1, refl))

  pub unchanged : (records : List (List (List ℕ))) (before now : ℕ) → now ≡ before → CountsAtMost (RecordsReach r heads records) before now
  unchanged records before now e = let x = some_reach records in (x.0, x.1, omega (arith, e))

  -- the lines over the case of which nothing is known were derived, or some of them
  pub started : (records : List (List (List ℕ))) (before now : ℕ) → 0 < length records → now ≤ before + first_slots r → CountsAtMost (RecordsReach r heads records) before now
  started [] before now some few = absurd (omega (arith, some))
  started (cells ∷ records) before now some few = let x = some_reach (cells ∷ records) in (x.0, x.1, omega (arith, few))

due_of_some : (r : Rulebase) (n : ℕ) → 0 < n → due r n ≡ first_slots r
due_of_some r zero some = absurd (omega (arith, some))
due_of_some r (suc n) some = refl

module _ (r : Rulebase) (heads : List Head) (records : List (List (List ℕ))) (before : ℕ) where
  pub records_begin : CountsRecords r heads records 0 before before
  records_begin = record { counted = 0; few = omega arith; leads = λ rest h. let e : rest ≡ 0 + rest = omega arith in subst (λ n. RecordsReach r heads records n) e h }

  module _ (place now : ℕ) (way : CountsRecords r heads records place before now) where
    -- some records were determined
    pub records_reach : 0 < place → CountsAtMost (RecordsReach r heads records) before (now + first_slots r)
    records_reach some =
        let rest = some_reach r heads (drop place records) in
        (way.counted + rest.0, way.leads rest.0 rest.1, omega (arith, way.few, due_of_some r place some))

    module _ (fields : List (List ℕ)) (now' : ℕ) (there : drop place records ≡ fields ∷ drop (place + 1) records) (x : CountsAtMost (RecordReaches r heads fields) (now + due r place) now') where
      pub records_go_on : CountsRecords r heads records (place + 1) before now'
      records_go_on =
          let next : due r (place + 1) ≡ first_slots r = ap (due r) (add-one place) in
          record {
            counted = way.counted + (first_slots r + x.0);
            few = omega (arith, way.few, x.2, next);
            leads = λ rest k.
                let same : way.counted + ((first_slots r + x.0) + rest) ≡ (way.counted + (first_slots r + x.0)) + rest = omega arith in
                subst (RecordsReach r heads records) same
                (way.leads ((first_slots r + x.0) + rest) (subst (λ rs. RecordsReach r heads rs ((first_slots r + x.0) + rest)) (sym there) (x.0, rest, x.1, k, refl)));
          }

module _ (r : Rulebase) (heads : List Head) (records : List (List (List ℕ))) (before place now : ℕ) (way : CountsRecords r heads records place before now) where
  pub records_stop : (fields : List (List ℕ)) (now' : ℕ) → drop place records ≡ fields ∷ drop (place + 1) records → CountsAtMost (RecordReaches r heads fields) (now + due r place) now'
      → CountsAtMost (RecordsReach r heads records) before (now' + first_slots r)
  records_stop fields now' there x =
      let some : 0 < place + 1 = omega arith in
      records_reach r heads records before (place + 1) now' (records_go_on r heads records before place now way fields now' there x) some

-- the records were determined over a session of their own
pub determined_counts : (r r' : Rulebase) (heads : List Head) (records : List (List (List ℕ))) (before at now : ℕ) → r' ≡ r → at ≤ before + first_slots r
    → CountsAtMost (RecordsReach r' heads records) at (now + first_slots r') → CountsAtMost (RecordsReach r heads records) before now
determined_counts r r' heads records before at now e few x = (x.0, subst (λ b. RecordsReach b heads records x.0) e x.1, omega (arith, few, x.2, ap first_slots e))

-- ---- an input

pub uncounted : (r : Rulebase) (records : List (List (List ℕ))) (before now : ℕ) → now ≡ before → MayCount r records before now
uncounted r [] before now e = e
uncounted r (first ∷ records) before now e = inl e
