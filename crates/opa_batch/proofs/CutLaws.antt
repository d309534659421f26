-- What is left of an input while its records are cut.
use Rattle.std.proofs.Common.{Bor, ◌≡◌, ◌≤◌, ◌<◌, ◌+◌, ◌⊎◌, ℕ, zero, suc, Bool, true, false, List, [], ◌∷◌, ◌++◌, length, inl, inr, refl, sym, ap, ◌∙◌, subst, arith, if◌then◌else◌}
use Rattle.std.specs.Prelude.{Option, None, Some, drop}
use Rattle.std.proofs.lemmas.List.{drop_all, length-drop}
use Rattle.csv.specs.Machine.{Read, ends_at_end, is_end, next_record, step, fields_after, field_after}
use Rattle.csv.specs.Reading.{AreRecords, Reached, ReadRecord, Ready, default_config, is_bom, reader_config, reader_state, reader_trim, source_of, strip_bom, took_first}
use Rattle.csv.specs.declared.parser.Config.{Config}
use Rattle.csv.specs.declared.parser.State.{State}
use Rattle.csv.specs.declared.parser.State.TheVariants as st
use Rattle.csv.specs.declared.reader.Reader.{Reader}
use Rattle.csv.specs.declared.reader.Trim.TheVariants as trim
use Rattle.csv.proofs.ReadFacts.{rows-end, rows-more}
use Rattle.opa_words.specs.Layout.Lines.{without_mark}
use Rattle.opa_words.proofs.layout.ShortLaws.{without_mark-shorter}
use Rattle.opa_parse.specs.Tables.Records.{csv_records, table_records}
use Rattle.opa_parse.proofs.tables.RecordLaws.{records-reached, same}
use Rattle.opa_batch.specs.Cutting.{CutsOne, HasLeft, IsAt, below}

abbrev pub Cells : Type 0
Cells = List (List ℕ)

-- ---- a record takes a byte, or ends the text

abbrev Takes : ℕ → Read → Type 0
Takes n p = (length p.2 < n) ⊎ ((p.1 ≡ st.StartRecord) × (p.2 ≡ []))

takes : (cfg : Config) (s : State) (fields : List (List ℕ)) (field xs : List ℕ) (p : Read) → next_record cfg s fields field xs ≡ Some p → Takes (length xs) p
unfolding next_record
takes cfg s fields field [] p h = by (ends_at_end s) h
  where
    by : (b : Bool) → (if b then Some (fields ++ (field ∷ []), st.StartRecord, []) else None) ≡ Some p → Takes 0 p
    by true q = rw (← same _ p q) (inr (refl, refl))
    by false q = cc q
takes cfg s fields field (c ∷ rest) p h =
    by (is_end (step cfg s c).1) h (takes cfg (step cfg s c).0 (fields_after (step cfg s c).1 fields field) (field_after (step cfg s c).1 c field) rest p)
  where
    grown : Takes (length rest) p → Takes (suc (length rest)) p
    grown (inl lt) = inl (omega (arith, lt))
    grown (inr e) = inr e

    by : (b : Bool) → (if b then Some (fields_after (step cfg s c).1 fields field, (step cfg s c).0, rest)
        else next_record cfg (step cfg s c).0 (fields_after (step cfg s c).1 fields field) (field_after (step cfg s c).1 c field) rest) ≡ Some p
        → (next_record cfg (step cfg s c).0 (fields_after (step cfg s c).1 fields field) (field_after (step cfg s c).1 c field) rest ≡ Some p → Takes (length rest) p)
        → Takes (suc (length rest)) p
    by true q more = rw (← same _ p q) (inl (omega arith))
    by false q more = grown (more q)

-- ---- all records

none_at_end : (cfg : Config) → next_record cfg st.StartRecord [] [] [] ≡ None
unfolding next_record
none_at_end cfg = refl

behind : (cfg : Config) (s : State) (xs : List ℕ) (p : Read) (rows : List Cells) → next_record cfg s [] [] xs ≡ Some p → AreRecords cfg p.1 p.2 rows → AreRecords cfg s xs (p.0 ∷ rows)
unfolding Reached
behind cfg s xs p rows e (s2, ys, reached, end) = (s2, ys, (p, e, refl, reached), end)

ended : (cfg : Config) (s : State) (xs : List ℕ) → next_record cfg s [] [] xs ≡ None → AreRecords cfg s xs []
unfolding Reached
ended cfg s xs e = (s, xs, (refl, refl), e)

-- a text has records
all_of : (cfg : Config) (n : ℕ) (s : State) (xs : List ℕ) → length xs < n → (rows : List Cells) × AreRecords cfg s xs rows
all_of cfg zero s xs few = absurd (omega (arith, few))
all_of cfg (suc n) s xs few = by (next_record cfg s [] [] xs) refl (λ q lt. all_of cfg n q.1 q.2 lt)
  where
    found : ((q : Read) → length q.2 < n → (rows : List Cells) × AreRecords cfg q.1 q.2 rows) → (p : Read) → next_record cfg s [] [] xs ≡ Some p → Takes (length xs) p → (rows : List Cells) × AreRecords cfg s xs rows
    found more p e (inl lt) = let rest = more p (omega (arith, few, lt)) in (p.0 ∷ rest.0, behind cfg s xs p rest.0 e rest.1)
    found more p e (inr last) = (p.0 ∷ [], behind cfg s xs p [] e (rw (last.0, last.1) (ended cfg st.StartRecord [] (none_at_end cfg))))

    by : (o : Option Read) → next_record cfg s [] [] xs ≡ o → ((q : Read) → length q.2 < n → (rows : List Cells) × AreRecords cfg q.1 q.2 rows) → (rows : List Cells) × AreRecords cfg s xs rows
    by None e more = ([], ended cfg s xs e)
    by (Some p) e more = found more p e (takes cfg s [] [] xs p e)

-- of no more records than it has bytes, and one
few_of : (cfg : Config) (rows : List Cells) (s : State) (xs : List ℕ) → AreRecords cfg s xs rows → length rows ≤ length xs + 1
unfolding Reached
few_of cfg [] s xs are = omega arith
few_of cfg (row ∷ rows) s xs (s2, ys, (p, e, is, reached), end) = by rows (takes cfg s [] [] xs p e) (s2, ys, reached, end) (few_of cfg rows p.1 p.2)
  where
    by : (rows : List Cells) → Takes (length xs) p → AreRecords cfg p.1 p.2 rows → (AreRecords cfg p.1 p.2 rows → length rows ≤ length p.2 + 1) → suc (length rows) ≤ length xs + 1
    by rows (inl lt) are more = let few = more are in omega (arith, lt, few)
    by [] (inr last) are more = omega arith
    by (r ∷ rs) (inr last) are more = let next : next_record cfg st.StartRecord [] [] [] ≡ Some are.2.0 = rw (last.0, last.1) at are.2.1 in absurd (let q : None ≡ Some are.2.0 = sym (none_at_end cfg) ∙ next in cc q)

-- ---- the first of all records

first_of : (cfg : Config) (s : State) (xs : List ℕ) (p : Read) (left : List Cells) → next_record cfg s [] [] xs ≡ Some p → AreRecords cfg s xs left → (others : List Cells) × (left ≡ p.0 ∷ others) × AreRecords cfg p.1 p.2 others
unfolding Reached
first_of cfg s xs p [] e (s2, ys, (a, b), end) = absurd (let q : Some p ≡ None = sym e ∙ rw (a, b) end in cc q)
first_of cfg s xs p (row ∷ rows) e (s2, ys, (q, next, is, reached), end) =
    let equal : q ≡ p = same q p (sym next ∙ e) in
    (rows, ap (λ c. c ∷ rows) (is ∙ ap (λ (x : Read). x.0) equal), subst (λ (x : Read). AreRecords cfg x.1 x.2 rows) equal (s2, ys, reached, end))

no_more : (cfg : Config) (s : State) (xs : List ℕ) (left : List Cells) → next_record cfg s [] [] xs ≡ None → AreRecords cfg s xs left → left ≡ []
unfolding Reached
no_more cfg s xs [] e are = refl
no_more cfg s xs (row ∷ rows) e (s2, ys, (q, next, is, reached), end) = absurd (let p : Some q ≡ None = sym next ∙ e in cc p)

-- ---- a reader

abbrev pub gives : Bor (List ℕ) → Option (List ℕ)
gives s = Some s.now

-- nothing of these bytes was cut
pub begins : (bytes : List ℕ) (reader : Reader (Bor (List ℕ))) → reader_trim reader ≡ trim.None → Ready reader → reader_config reader ≡ default_config → source_of gives reader ≡ Some (strip_bom bytes)
    → reader_state reader ≡ st.StartRecord → HasLeft reader (csv_records bytes)
begins bytes reader plain ready config source state =
    let text = strip_bom bytes in
    let all = all_of default_config (suc (length text)) st.StartRecord text (omega arith) in
    record {
      plain = plain;
      ready = ready;
      config = config;
      rest = text;
      source = source;
      cut = subst (λ s. AreRecords default_config s text (csv_records bytes)) (sym state) (subst (AreRecords default_config st.StartRecord text) (records-reached bytes all.0 all.1) all.1);
    }

-- the next record was read, or there was none
pub read_on : (found : Bool) (fields : Cells) (old new : Reader (Bor (List ℕ))) → (reader_trim old ≡ trim.None → Ready old → ReadRecord gives old new found fields) → (reader_trim old ≡ trim.None → took_first new ≡ true)
    → CutsOne found fields old new
unfolding Reached
read_on false fields old new reads first =
    record { next = λ left h. no_more default_config old.state h.rest left (rows-end gives old new fields default_config h.rest h.config h.source (reads h.plain h.ready)) h.cut }
read_on true fields old new reads first = record {
  next = λ left h.
      let r = reads h.plain h.ready in
      let (z, source, (p, e, is, (at, rest))) = rows-more gives old new fields default_config old.state h.rest h.rest [] h.config h.source (refl, refl) r in
      let (others, all, are) = first_of default_config old.state h.rest p left e h.cut in
      record {
        others = others;
        first = all ∙ ap (λ c. c ∷ others) (sym is);
        has_left = record {
          plain = r.3 ∙ h.plain;
          ready = inl (first h.plain);
          config = r.2 ∙ h.config;
          rest = z;
          source = source;
          cut = subst (λ s. AreRecords default_config s z others) at (subst (λ xs. AreRecords default_config p.1 xs others) rest are);
        };
      };
}

-- ---- how many there are

short_text : (xs : List ℕ) → length (strip_bom xs) ≤ length xs
unfolding strip_bom
short_text [] = omega arith
short_text (a ∷ []) = omega arith
short_text (a ∷ b ∷ []) = omega arith
short_text (a ∷ b ∷ c ∷ rest) = by (is_bom a b c)
  where
    by : (t : Bool) → length (if t then rest else a ∷ b ∷ c ∷ rest) ≤ length (a ∷ b ∷ c ∷ rest)
    by true = omega arith
    by false = omega arith

few_records : (bytes : List ℕ) → length (csv_records bytes) ≤ length bytes + 1
few_records bytes =
    let text = strip_bom bytes in
    let all = all_of default_config (suc (length text)) st.StartRecord text (omega arith) in
    let few = few_of default_config all.0 st.StartRecord text all.1 in
    omega (arith, few, short_text bytes, ap length (records-reached bytes all.0 all.1))

pub few_below : (bytes : List ℕ) → length (below bytes) ≤ length bytes
few_below bytes = omega (arith, length-drop 1 (table_records bytes), few_records (without_mark bytes), without_mark-shorter bytes)

-- ---- where a reader stands

behind_of : {A : Type 0} (xs : List A) (n : ℕ) (x : A) (others : List A) → drop n xs ≡ x ∷ others → drop (n + 1) xs ≡ others
behind_of [] zero x others e = absurd (cc e)
behind_of [] (suc n) x others e = absurd (cc e)
behind_of (y ∷ xs) zero x others e = let q : xs ≡ others = cc e in q
behind_of (y ∷ xs) (suc n) x others e = ap (λ k. drop k (y ∷ xs)) (let p : suc n + 1 ≡ suc (n + 1) = omega arith in p) ∙ behind_of xs n x others e

module _ (bytes : List ℕ) (old new : Reader (Bor (List ℕ))) (fields : Cells) where
  module _ (place : ℕ) (left : HasLeft old (drop place (below bytes))) where
    -- the next record was cut
    pub at_next : (found : Bool) → found ≡ true → CutsOne found fields old new → IsAt bytes place fields new
    at_next false e cuts = absurd (cc e)
    at_next true e cuts =
        let next = cuts.next (drop place (below bytes)) left in
        let same : drop (place + 1) (below bytes) ≡ next.others = behind_of (below bytes) place fields next.others next.first in
        record { here = next.first ∙ ap (λ rs. fields ∷ rs) (sym same); has_left = subst (HasLeft new) (sym same) next.has_left }

    -- there is none
    pub at_end : (found : Bool) → found ≡ false → CutsOne found fields old new → drop place (below bytes) ≡ []
    at_end true e cuts = absurd (cc e)
    at_end false e cuts = cuts.next (drop place (below bytes)) left

  module _ (left : HasLeft old (table_records bytes)) where
    pub with_heading : (found : Bool) → found ≡ true → CutsOne found fields old new → table_records bytes ≡ fields ∷ below bytes
    with_heading false e cuts = absurd (cc e)
    with_heading true e cuts =
        let next = cuts.next (table_records bytes) left in
        next.first ∙ ap (λ rs. fields ∷ rs) (sym (ap (drop 1) next.first))

    pub below_left : (found : Bool) → found ≡ true → CutsOne found fields old new → HasLeft new (below bytes)
    below_left false e cuts = absurd (cc e)
    below_left true e cuts =
        let next = cuts.next (table_records bytes) left in
        subst (HasLeft new) (sym (ap (drop 1) next.first)) next.has_left

    pub without_records : (found : Bool) → found ≡ false → CutsOne found fields old new → table_records bytes ≡ []
    without_records true e cuts = absurd (cc e)
    without_records false e cuts = cuts.next (table_records bytes) left

module _ (bytes : List ℕ) (place : ℕ) (fields : Cells) (reader : Reader (Bor (List ℕ))) (at : IsAt bytes place fields reader) where
  -- no reader stands at a place behind as many records as there are bytes
  pub not_past : length bytes ≤ place → ⊥
  not_past past =
      let none : drop place (below bytes) ≡ [] = drop_all place (below bytes) (omega (arith, past, few_below bytes)) in
      let e : [] ≡ fields ∷ drop (place + 1) (below bytes) = sym none ∙ at.here in
      cc e

pub some_below : (bytes : List ℕ) (fields : Cells) (reader : Reader (Bor (List ℕ))) → IsAt bytes 0 fields reader → 0 < length (below bytes)
some_below bytes fields reader at = omega (arith, ap length at.here)
