-- The years from a day, anniversary by anniversary.
use Rattle.std.proofs.Common.{◌≡◌, inl, inr, ℕ, ◌+◌, ◌-◌, ◌<◌, ◌≤◌, List, Option, Some, refl, sym, ap, subst, ◌∙◌, arith, ℤ, pos, ◌+ℤ◌, ◌≤ℤ◌}
use Rattle.std.specs.Prelude.{min, unwrap_or, negsuc, ◌-ℤ◌}
use Rattle.std.proofs.lemmas.Bool.{cases_lt, lt-ltb, le-ltb, lt-leb}
use Rattle.opa_date.specs.declared.TheConstants.{DAYS}
use Rattle.opa_date.specs.Gregorian.{date_of}
use Rattle.opa_date.specs.Moves.{add_years, years_later, years_between, IsYearsBetween}
use Rattle.opa_date.proofs.Anniversaries.{years_rise, years_are_added}
use Rattle.opa_date.proofs.DatesOfDays.{date_of-year}
use Rattle.opa_date.proofs.YearsApart.{year_order, zero_years, all_years, one_less, between_is}
use Rattle.opa_value.specs.declared.value.Value.{Value}
use Rattle.opa_value.specs.declared.value.Value.TheVariants as value
use Rattle.opa_line.specs.Growth.{Grown}
use Rattle.opa_window.specs.Stretches.{Reaches}
use Rattle.opa_window.specs.Windows.{years_value}
use Rattle.opa_window.proofs.Stretching.{one_part, more_parts}

-- the day so many years later, or the calendar's end
pub capped_later : (n k : ℕ) (o : Option ℕ) → n < DAYS → o ≡ add_years n (pos k) → unwrap_or o DAYS ≡ min (years_later n k) DAYS
capped_later n k o h is = ap (λ p. unwrap_or p DAYS) (is ∙ years_are_added n k h) ∙ elim (cases_lt (years_later n k) DAYS) [
  | inl lt ↦ rw (lt-ltb _ _ lt) (omega arith)
  | inr le ↦ rw (le-ltb _ _ le) (omega arith)
]

module _ (n : ℕ) where
  abbrev pub since : ℕ → Value
  since d = years_value (years_between n d)

  -- the years are told up to where the line goes, which has so many of them
  pub record Counting (old : ℕ × List (ℕ × Value)) (to years next : ℕ) (new : ℕ × List (ℕ × Value)) : Type 0 where
    pub begun : n ≤ new.0
    pub grows : old.0 ≤ new.0
    pub inside : new.0 < to
    pub told : IsYearsBetween n new.0 years
    pub turns : next ≡ min (years_later n (years + 1)) DAYS
    pub done : Reaches old new.0 since new

distance : (a b z : ℤ) → z ≡ b -ℤ a → a ≤ℤ b → (k : ℕ) × (b ≡ a +ℤ pos k)
distance a b (pos k) is le = (k, grind (arith, is))
distance a b (negsuc k) is le = absurd (grind (arith, is, le))

few_apart : (a b : ℤ) (k : ℕ) → b ≡ a +ℤ pos k → pos 1600 ≤ℤ a → b ≤ℤ pos 2399 → k ≤ 799
few_apart a b k is first last = grind (arith, is, first, last)

module _ (n : ℕ) (hn : n < DAYS) where
  -- fewer years are not later
  no_later : (j k : ℕ) → years_later n j ≤ years_later n k → j ≤ k
  no_later j k le = elim (cases_lt k j) [
    | inl lt ↦ absurd (omega (arith, years_rise n k j hn lt, le))
    | inr done ↦ done
  ]

  -- until the next anniversary the years stay
  pub years_stay : (a d k : ℕ) → IsYearsBetween n a k → a ≤ d → d < years_later n (k + 1) → IsYearsBetween n d k
  years_stay a d k h le lt = record {
    reaches = omega (arith, h.reaches, le);
    greatest = λ j reaches. elim (cases_lt k j) [
      | inl more ↦ elim (cases_lt (k + 1) j) [
        | inl later ↦ absurd (omega (arith, years_rise n (k + 1) j hn later, reaches, lt))
        | inr same ↦ let e : j ≡ k + 1 = omega arith in absurd (omega (arith, reaches, lt, ap (years_later n) e))
      ]
      | inr done ↦ done
    ];
  }

  -- on an anniversary there is one more
  pub years_turn : (k : ℕ) → IsYearsBetween n (years_later n k) k
  years_turn k = record { reaches = omega arith; greatest = λ j reaches. no_later j k reaches }

  pub years_begin : IsYearsBetween n n 0
  years_begin = subst (λ m. IsYearsBetween n m 0) (zero_years n hn) (years_turn 0)

  not_yet : (a k : ℕ) → IsYearsBetween n a k → a < years_later n (k + 1)
  not_yet a k h = elim (cases_lt a (years_later n (k + 1))) [
    | inl lt ↦ lt
    | inr le ↦ absurd (omega (arith, h.greatest (k + 1) le))
  ]

  some_years : (m : ℕ) → m < DAYS → n ≤ m → (k : ℕ) × (k ≤ 799) × IsYearsBetween n m k
  some_years m hm le =
      let order = year_order n m hn hm le in
      let apart = distance (date_of n).year (date_of m).year ((date_of m).year -ℤ (date_of n).year) refl order in
      let k : ℕ = apart.0 in
      let is : (date_of m).year ≡ (date_of n).year +ℤ pos k = apart.1 in
      let few : k ≤ 799 = few_apart (date_of n).year (date_of m).year k is (date_of-year n hn).0 (date_of-year m hm).1 in
      elim (cases_lt m (years_later n k)) [
        | inl over ↦ let h = one_less n m k hn hm is le over in (k - 1, omega (arith, few), h.1)
        | inr reaches ↦ (k, few, all_years n m k hn hm is reaches)
      ]

  pub few_years : (m k : ℕ) → m < DAYS → n ≤ m → IsYearsBetween n m k → k ≤ 799
  few_years m k hm le h = let s = some_years m hm le in omega (arith, s.1, s.2.greatest k h.reaches)

  pub years_are : (m k : ℕ) → m < DAYS → n ≤ m → IsYearsBetween n m k → years_between n m ≡ Some k
  years_are m k hm le h = let few = few_years m k hm le h in between_is n m k le (omega (arith, few)) h

  pub counting_start : (old : ℕ × List (ℕ × Value)) (to years next from : ℕ) → old.0 ≡ from → n ≤ from → from < to → IsYearsBetween n from years → next ≡ min (years_later n (years + 1)) DAYS → Counting n old to years next old
  counting_start old to years next from is le lt told turns = record {
    begun = omega (arith, is);
    grows = omega arith;
    inside = omega (arith, is);
    told = subst (λ m. IsYearsBetween n m years) (sym is) told;
    turns = turns;
    done = record { upto = refl; before = λ d lt. refl; from = λ d le lt. absurd (omega arith) };
  }

  counted : (old new mid : ℕ × List (ℕ × Value)) (to years next k : ℕ) → to ≤ DAYS → Counting n old to years next mid → mid.0 ≤ k → k ≤ to → k ≤ next → Grown mid k (years_value (Some years)) new → Reaches old k (since n) new
  counted old new mid to years next k cal c le in_time not_past grown =
      more_parts (since n) old mid new mid.0 k c.grows c.done
      (one_part (since n) mid new k (years_value (Some years)) le
      (λ d from lt. ap years_value (years_are d years (omega arith) (omega (arith, c.begun)) (years_stay mid.0 d years c.told from (omega (arith, c.turns))))) grown)

  pub counting_next : (old new mid : ℕ × List (ℕ × Value)) (to years next next' : ℕ) → to ≤ DAYS → Counting n old to years next mid → next < to → Grown mid next (years_value (Some years)) new
      → next' ≡ min (years_later n (years + 1 + 1)) DAYS → Counting n old to (years + 1) next' new
  counting_next old new mid to years next next' cal c lt grown turns =
      let later : next ≡ years_later n (years + 1) = omega (arith, c.turns) in
      let up : mid.0 < next = omega (arith, later, not_yet mid.0 years c.told) in
      let e : new.0 ≡ next = grown.upto.0 (omega (arith, up)) in
      record {
        begun = omega (arith, e, up, c.begun);
        grows = omega (arith, e, up, c.grows);
        inside = omega (arith, e);
        told = subst (λ m. IsYearsBetween n m (years + 1)) (sym later ∙ sym e) (years_turn (years + 1));
        turns = turns;
        done = subst (λ m. Reaches old m (since n) new) (sym e) (counted old new mid to years next next cal c (omega (arith, up)) (omega (arith, lt)) (omega arith) grown);
      }

  pub counting_end : (old new mid : ℕ × List (ℕ × Value)) (to years next : ℕ) → to ≤ DAYS → Counting n old to years next mid → to ≤ next → Grown mid to (years_value (Some years)) new → Reaches old to (since n) new
  counting_end old new mid to years next cal c le grown = counted old new mid to years next to cal c (omega (arith, c.inside)) (omega arith) le grown

  -- the next anniversary is later
  pub nearer : (old mid : ℕ × List (ℕ × Value)) (to years next next' : ℕ) → to ≤ DAYS → Counting n old to years next mid → next < to → next' ≡ min (years_later n (years + 1 + 1)) DAYS → to - next' < to - next
  nearer old mid to years next next' cal c lt turns = omega (arith, c.turns, turns, years_rise n (years + 1) (years + 1 + 1) hn (omega arith))

  -- before the day there are none
  pub none_yet : (d : ℕ) → d < n → (since n) d ≡ value.Uncertain
  none_yet d lt = rw (lt-leb n d lt) refl
