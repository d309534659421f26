-- The records that a walk over the bytes reached are those of `csv_records`, and the cells of a record.
use Rattle.std.proofs.Common.{◌≡◌, ◌≤◌, ◌<◌, ◌+◌, ◌==◌, ◌||◌, ℕ, zero, suc, Bool, true, false, List, [], ◌∷◌, ◌++◌, length, take, Some, None, refl, sym, ap, ◌∙◌, arith, if◌then◌else◌}
use Rattle.csv.specs.Records.{field_at}
use Rattle.csv.specs.Machine.{Read, after_end, ends_at_end, is_end, next_record, step, start_record, start_field, in_field, fields_after, field_after}
use Rattle.csv.specs.Reading.{AreRecords, Reached, default_config, records_from, strip_bom}
use Rattle.csv.specs.declared.parser.Action.{Action}
use Rattle.csv.specs.declared.parser.Action.TheVariants as act
use Rattle.csv.specs.declared.parser.Terminator.TheVariants as term
use Rattle.csv.specs.declared.parser.State.{State}
use Rattle.csv.specs.declared.parser.State.TheVariants as st
use Rattle.opa_parse.specs.Tables.Records.{csv_records}

-- enough turns give the records that were reached
enough : (n : ℕ) (s s2 : State) (xs ys : List ℕ) (rows : List (List (List ℕ))) → Reached default_config s xs rows s2 ys → next_record default_config s2 [] [] ys ≡ None
    → length rows < n → records_from default_config n s xs ≡ rows
unfolding Reached records_from
enough zero s s2 xs ys rows reached end few = absurd (omega arith)
enough (suc n) s s2 xs ys [] reached end few = rw (reached.0, reached.1, end) refl
enough (suc n) s s2 xs ys (row ∷ rows) reached end few =
    let (p, next, is, more) = reached in
    rw (next, is) (ap (λ l. p.0 ∷ l) (enough n p.1 s2 p.2 ys rows more end (omega arith)))

-- a byte that ends the record leaves a state in which the text may end
abbrev Quiet : State × Action → Type 0
Quiet p = is_end p.1 ≡ true → ends_at_end p.0 ≡ false

quiet_if : (b : Bool) (p q : State × Action) → Quiet p → Quiet q → Quiet (if b then p else q)
quiet_if true p q g h = g
quiet_if false p q g h = h

goes_on : (s : State) (a : Action) → is_end a ≡ false → Quiet (s, a)
goes_on s a f = λ e. cc (sym f ∙ e)

after_quiet : (c : ℕ) → ends_at_end (after_end term.CRLF c) ≡ false
after_quiet c = by (c == 13)
  where
    by : (b : Bool) → ends_at_end (if b then st.AfterCr else st.StartRecord) ≡ false
    by true = refl
    by false = refl

field_quiet : (c : ℕ) → Quiet (in_field default_config c)
field_quiet c =
    quiet_if (c == 44) (st.StartField, act.EndField) (if (c == 13) || (c == 10) then (after_end term.CRLF c, act.EndRecord) else (st.InField, act.Copy))
    (goes_on st.StartField act.EndField refl)
    (quiet_if ((c == 13) || (c == 10)) (after_end term.CRLF c, act.EndRecord) (st.InField, act.Copy) (λ _. after_quiet c) (goes_on st.InField act.Copy refl))

start_field_quiet : (c : ℕ) → Quiet (start_field default_config c)
start_field_quiet c = quiet_if (c == 34) (st.InQuoted, act.Skip) (in_field default_config c) (goes_on st.InQuoted act.Skip refl) (field_quiet c)

start_record_quiet : (c : ℕ) → Quiet (start_record default_config c)
start_record_quiet c =
    quiet_if ((c == 13) || (c == 10)) (st.StartRecord, act.Skip) (start_field default_config c) (goes_on st.StartRecord act.Skip refl) (start_field_quiet c)

step_quiet : (s : State) (c : ℕ) → Quiet (step default_config s c)
step_quiet st.StartRecord c = start_record_quiet c
step_quiet st.StartField c = start_field_quiet c
step_quiet st.InField c = field_quiet c
step_quiet st.InQuoted c = quiet_if (c == 34) (st.AfterQuote, act.Skip) (st.InQuoted, act.Copy) (goes_on st.AfterQuote act.Skip refl) (goes_on st.InQuoted act.Copy refl)
step_quiet st.InEscape c = goes_on st.InQuoted act.Copy refl
step_quiet st.AfterQuote c = quiet_if (c == 34) (st.InQuoted, act.Copy) (in_field default_config c) (goes_on st.InQuoted act.Copy refl) (field_quiet c)
step_quiet st.InComment c = quiet_if (c == 10) (st.StartRecord, act.Skip) (st.InComment, act.Skip) (goes_on st.StartRecord act.Skip refl) (goes_on st.InComment act.Skip refl)
step_quiet st.AfterCr c = quiet_if (c == 10) (st.StartRecord, act.Skip) (start_record default_config c) (goes_on st.StartRecord act.Skip refl) (start_record_quiet c)

pub same : (x p : Read) → Some x ≡ Some p → x ≡ p
same x p e = cc e

abbrev Shorter : State → ℕ → Read → Type 0
Shorter s n p = (ends_at_end p.1 ≡ false) × (length p.2 ≤ n) × (ends_at_end s ≡ false → length p.2 < n)

-- a record takes a byte, where the text may not end before it
shorter : (s : State) (fields : List (List ℕ)) (field xs : List ℕ) (p : Read) → next_record default_config s fields field xs ≡ Some p → Shorter s (length xs) p
unfolding next_record
shorter s fields field [] p h = by (ends_at_end s) refl h
  where
    by : (b : Bool) → ends_at_end s ≡ b → (if b then Some (fields ++ (field ∷ []), st.StartRecord, []) else None) ≡ Some p → Shorter s 0 p
    by true e q = rw (← same _ p q) (refl, omega arith, λ f. cc (sym f ∙ e))
    by false e q = cc q
shorter s fields field (c ∷ rest) p h =
    by (is_end (step default_config s c).1) refl h
    (shorter (step default_config s c).0 (fields_after (step default_config s c).1 fields field) (field_after (step default_config s c).1 c field) rest p)
  where
    by : (b : Bool) → is_end (step default_config s c).1 ≡ b
        → (if b then Some (fields_after (step default_config s c).1 fields field, (step default_config s c).0, rest)
        else next_record default_config (step default_config s c).0 (fields_after (step default_config s c).1 fields field) (field_after (step default_config s c).1 c field) rest) ≡ Some p
        → (next_record default_config (step default_config s c).0 (fields_after (step default_config s c).1 fields field) (field_after (step default_config s c).1 c field) rest ≡ Some p
        → Shorter (step default_config s c).0 (length rest) p)
        → Shorter s (suc (length rest)) p
    by true e q more = rw (← same _ p q) (step_quiet s c e, omega arith, λ f. omega arith)
    by false e q more =
        let (after, le, lt) = more q in
        (after, omega arith, λ f. omega arith)

all_taken : (s s2 : State) (xs ys : List ℕ) (rows : List (List (List ℕ))) → Reached default_config s xs rows s2 ys → ends_at_end s ≡ false → length rows ≤ length xs
unfolding Reached
all_taken s s2 xs ys [] reached quiet = omega arith
all_taken s s2 xs ys (row ∷ rows) reached quiet =
    let (p, next, is, more) = reached in
    let (after, no_more, less) = shorter s [] [] xs p next in
    let fewer : length rows ≤ length p.2 = all_taken p.1 s2 p.2 ys rows more after in
    let lt = less quiet in
    omega arith

pub records-reached : (bytes : List ℕ) (rows : List (List (List ℕ))) → AreRecords default_config st.StartRecord (strip_bom bytes) rows → rows ≡ csv_records bytes
unfolding csv_records
records-reached bytes rows h =
    let (s2, ys, reached, end) = h in
    let few = all_taken st.StartRecord s2 (strip_bom bytes) ys rows reached refl in
    sym (enough (length (strip_bom bytes) + 1) st.StartRecord s2 (strip_bom bytes) ys rows reached end (omega arith))

-- ---- cells

pub cell_past : (cells : List (List ℕ)) (place : ℕ) → field_at cells place ≡ None → take place cells ≡ cells
unfolding field_at
cell_past [] zero e = refl
cell_past [] (suc n) e = refl
cell_past (c ∷ cells) zero e = absurd (cc e)
cell_past (c ∷ cells) (suc n) e = ap (λ x. c ∷ x) (cell_past cells n e)

pub cell_next : (cells : List (List ℕ)) (place : ℕ) (cell : List ℕ) → field_at cells place ≡ Some cell → take (place + 1) cells ≡ take place cells ++ cell ∷ []
unfolding field_at
cell_next [] zero cell e = absurd (cc e)
cell_next [] (suc n) cell e = absurd (cc e)
cell_next (c ∷ cells) zero cell e = ap (λ x. x ∷ []) (let q : c ≡ cell = cc e in q)
cell_next (c ∷ cells) (suc n) cell e =
    ap (λ k. take k (c ∷ cells)) (let p : suc n + 1 ≡ suc (n + 1) = omega arith in p) ∙ ap (λ x. c ∷ x) (cell_next cells n cell e)
