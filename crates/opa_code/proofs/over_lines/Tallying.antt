-- Tallies of joined lists, and what they tell.
use Rattle.std.proofs.Common.{◌≡◌, ◌⊎◌, inl, inr, ℕ, ◌+◌, ◌*◌, ◌^◌, ◌<◌, ◌≤◌, Bool, true, false, cond, List, [], ◌∷◌, ◌++◌, Option, None, Some, length, suc, refl, sym, ◌∙◌, ap, subst, arith}
use Rattle.std.specs.Prelude.{ℤ, pos, neg_ℤ, ◌+ℤ◌, ◌≤ℤ◌, ◌||◌, filter}
use Rattle.std.specs.List.{list_any}
use Rattle.std.proofs.lemmas.List.{length-append}
use Rattle.std.proofs.lemmas.List.Elements.{filter-append}
use Rattle.std.proofs.lemmas.List.Folds.{list_any-append}
use Rattle.std.proofs.Math.IntN.{+ℤ_assoc, +ℤ_idl}
use Rattle.std.proofs.Math.Nat.{add-mul}
use Rattle.opa_value.specs.declared.value.Value.{Value}
use Rattle.opa_value.specs.declared.value.Value.TheVariants.{Unknown, Uncertain, Bool as Truth, Num, Words, Day}
use Rattle.opa_value.specs.Truth.{is_true, is_false, is_unknown, is_uncertain, unless_open}
use Rattle.opa_window.specs.Folds.{total, count_of, best, best_from, is_beaten_of, number_of}
use Rattle.opa_mean.specs.Meaning.{first_value, amount}
use Rattle.opa_code.specs.declared.over_lines.gathering.Gathering.{Gathering}
use Rattle.opa_code.specs.declared.over_lines.gathering.Gathering.TheVariants as gathering
use Rattle.opa_code.specs.declared.over_lines.tally.Tally.{Tally}
use Rattle.opa_code.specs.declared.over_lines.marks.Marks.{Marks}
use Rattle.opa_code.specs.declared.over_lines.peaks.Peaks.{Peaks}
use Rattle.opa_code.specs.declared.over_lines.sums.Sums.{Sums}
use Rattle.opa_code.specs.OverLines.Tallies.{IsTally, IsBoth, AreSums, AreSmall, AreBothSums, ArePeaks, AreBothPeaks, marks_of, both_marks, held_if, better_of, winner, ahead, peak, number_in, day_in, beats_number, beats_day, told, unless_marked, best_told, number_or, day_or, gather_of, is_most}

pub total-append : (vs ws : List Value) → total (vs ++ ws) ≡ total vs +ℤ total ws
total-append [] ws = sym (+ℤ_idl (total ws))
total-append (v ∷ vs) ws = ap (λ z. count_of v +ℤ z) (total-append vs ws) ∙ sym (+ℤ_assoc (count_of v) (total vs) (total ws))

-- winners of three
abbrev Assoc : {X : Type 0} → (X → X → Bool) → Type 0
Assoc {X} lt = (x y z : X) → winner lt x (winner lt y z) ≡ winner lt (winner lt x y) z

module _ {X : Type 0} (lt : X → X → Bool) (assoc : Assoc lt) where
  pub ahead_assoc : (x y z : Option X) → ahead lt x (ahead lt y z) ≡ ahead lt (ahead lt x y) z
  ahead_assoc None y z = refl
  ahead_assoc (Some x) None z = refl
  ahead_assoc (Some x) (Some y) None = refl
  ahead_assoc (Some x) (Some y) (Some z) = ap Some (assoc x y z)

  pub peak-append : (key : Value → Option X) (vs ws : List Value) → peak lt key (vs ++ ws) ≡ ahead lt (peak lt key vs) (peak lt key ws)
  peak-append key [] ws = refl
  peak-append key (v ∷ vs) ws = ap (ahead lt (key v)) (peak-append key vs ws) ∙ ahead_assoc (key v) (peak lt key vs) (peak lt key ws)

cases : (b : Bool) → (b ≡ true) ⊎ (b ≡ false)
cases true = inl refl
cases false = inr refl

-- a test whose cases are orders
module _ {X : Type 0} (lt : X → X → Bool) (below : X → X → Type 0)
    (is_below : (x y : X) → lt x y ≡ true → below x y) (not_below : (x y : X) → lt x y ≡ false → below y x)
    (chain : (x y z : X) → below x y → below y z → below x z) (same : (x y : X) → below x y → below y x → x ≡ y) where
  -- of two that are each at most the other
  step : (x y z : X) (a b : Bool) → lt x y ≡ a → lt y z ≡ b → winner lt x (cond b z y) ≡ winner lt (cond a y x) z
  step x y z true true e f = go (lt x z) refl (lt y z) refl
    where
      go : (c : Bool) → lt x z ≡ c → (d : Bool) → lt y z ≡ d → cond c z x ≡ cond d z y
      go true g d h = ap (λ c. cond c z y) (sym f ∙ h)
      go false g d h =
          let back : below z x = not_below x z g in
          let up : below x z = chain x y z (is_below x y e) (is_below y z f) in
          let d_is : d ≡ true = sym h ∙ f in
          same x z up back ∙ ap (λ c. cond c z y) (sym d_is)
  step x y z true false e f = ap (λ c. cond c y x) e ∙ sym (ap (λ c. cond c z y) f)
  step x y z false true e f = refl {a = cond (lt x z) z x}
  step x y z false false e f = go (lt x z) refl
    where
      go : (c : Bool) → lt x z ≡ c → cond (lt x y) y x ≡ cond c z x
      go true g =
          let low : below z x = chain z y x (not_below y z f) (not_below x y e) in
          ap (λ c. cond c y x) e ∙ same x z (is_below x z g) low
      go false g = ap (λ c. cond c y x) e

  pub winners : Assoc lt
  winners x y z = step x y z (lt x y) (lt y z) refl refl

  pub assoc_of : Assoc lt
  assoc_of = winners

pub number_assoc : (most : Bool) → Assoc (beats_number most)
number_assoc true = assoc_of (beats_number true) (λ x y. x ≤ℤ y) (λ x y e. grind (arith, e)) (λ x y e. grind (arith, e)) (λ x y z h k. grind (arith, h, k)) (λ x y h k. grind (arith, h, k))
number_assoc false = assoc_of (beats_number false) (λ x y. y ≤ℤ x) (λ x y e. grind (arith, e)) (λ x y e. grind (arith, e)) (λ x y z h k. grind (arith, h, k)) (λ x y h k. grind (arith, h, k))

pub day_assoc : (most : Bool) → Assoc (beats_day most)
day_assoc true = assoc_of (beats_day true) (λ x y. x ≤ y) (λ x y e. grind (arith, e)) (λ x y e. grind (arith, e)) (λ x y z h k. omega (arith, h, k)) (λ x y h k. omega (arith, h, k))
day_assoc false = assoc_of (beats_day false) (λ x y. y ≤ x) (λ x y e. grind (arith, e)) (λ x y e. grind (arith, e)) (λ x y z h k. omega (arith, h, k)) (λ x y h k. omega (arith, h, k))

-- the better of two is the one ahead
better_is : {X : Type 0} (lt : X → X → Bool) (b c : Bool) (x y : X) → held_if (b || c) (better_of lt b x c y) ≡ ahead lt (held_if b x) (held_if c y)
better_is lt true true x y = refl
better_is lt true false x y = refl
better_is lt false true x y = refl
better_is lt false false x y = refl

lower : (a b : ℕ) (x y : ℤ) → (neg_ℤ (pos a) ≤ℤ x) → (neg_ℤ (pos b) ≤ℤ y) → (neg_ℤ (pos (a + b)) ≤ℤ (x +ℤ y))
lower a b x y h k = grind (arith, h, k)

upper : (a b : ℕ) (x y : ℤ) → (x ≤ℤ pos a) → (y ≤ℤ pos b) → ((x +ℤ y) ≤ℤ pos (a + b))
upper a b x y h k = grind (arith, h, k)

pub both_marks_are : (vs ws : List Value) → both_marks (marks_of vs) (marks_of ws) ≡ marks_of (vs ++ ws)
both_marks_are vs ws =
    ap (λ b. let m : Marks = record { some_false = b; some_true = list_any is_true vs || list_any is_true ws; unknown = list_any is_unknown vs || list_any is_unknown ws; uncertain = list_any is_uncertain vs || list_any is_uncertain ws } in m) (sym (list_any-append is_false vs ws))
    ∙ ap (λ b. let m : Marks = record { some_false = list_any is_false (vs ++ ws); some_true = b; unknown = list_any is_unknown vs || list_any is_unknown ws; uncertain = list_any is_uncertain vs || list_any is_uncertain ws } in m) (sym (list_any-append is_true vs ws))
    ∙ ap (λ b. let m : Marks = record { some_false = list_any is_false (vs ++ ws); some_true = list_any is_true (vs ++ ws); unknown = b; uncertain = list_any is_uncertain vs || list_any is_uncertain ws } in m) (sym (list_any-append is_unknown vs ws))
    ∙ ap (λ b. let m : Marks = record { some_false = list_any is_false (vs ++ ws); some_true = list_any is_true (vs ++ ws); unknown = list_any is_unknown (vs ++ ws); uncertain = b } in m) (sym (list_any-append is_uncertain vs ws))

both_sums_are : (vs ws : List Value) (s t r : Sums) → AreSums vs s → AreSums ws t → AreBothSums s t r → AreSums (vs ++ ws) r
both_sums_are vs ws s t r h k b =
    let size : length (vs ++ ws) * 10 ^ 17 ≡ length vs * 10 ^ 17 + length ws * 10 ^ 17 = ap (λ n. n * 10 ^ 17) (length-append vs ws) ∙ add-mul (length vs) (length ws) (10 ^ 17) in
    record {
      trues = b.trues ∙ ap (λ n. n + t.trues) h.trues ∙ ap (λ n. length (filter is_true vs) + n) k.trues ∙ sym (ap length (filter-append is_true vs ws) ∙ length-append (filter is_true vs) (filter is_true ws));
      total = b.total ∙ ap (λ z. z +ℤ t.total) h.total ∙ ap (λ z. total vs +ℤ z) k.total ∙ sym (total-append vs ws);
      low = subst (λ z. neg_ℤ (pos (length (vs ++ ws) * 10 ^ 17)) ≤ℤ z) (sym b.total) (subst (λ n. neg_ℤ (pos n) ≤ℤ (s.total +ℤ t.total)) (sym size) (lower (length vs * 10 ^ 17) (length ws * 10 ^ 17) s.total t.total h.low k.low));
      high = subst (λ z. z ≤ℤ pos (length (vs ++ ws) * 10 ^ 17)) (sym b.total) (subst (λ n. (s.total +ℤ t.total) ≤ℤ pos n) (sym size) (upper (length vs * 10 ^ 17) (length ws * 10 ^ 17) s.total t.total h.high k.high));
    }

pub both_peaks_are : (most : Bool) (vs ws : List Value) (s t r : Peaks) → ArePeaks most vs s → ArePeaks most ws t → AreBothPeaks most s t r → ArePeaks most (vs ++ ws) r
both_peaks_are most vs ws s t r h k b = record {
  number = ap (λ c. held_if c r.number) b.has_number ∙ ap (held_if (s.has_number || t.has_number)) b.number ∙ better_is (beats_number most) s.has_number t.has_number s.number t.number
      ∙ ap (λ o. ahead (beats_number most) o (held_if t.has_number t.number)) h.number ∙ ap (ahead (beats_number most) (peak (beats_number most) number_in vs)) k.number ∙ sym (peak-append (beats_number most) (number_assoc most) number_in vs ws);
  day = ap (λ c. held_if c r.day) b.has_day ∙ ap (held_if (s.has_day || t.has_day)) b.day ∙ better_is (beats_day most) s.has_day t.has_day s.day t.day
      ∙ ap (λ o. ahead (beats_day most) o (held_if t.has_day t.day)) h.day ∙ ap (ahead (beats_day most) (peak (beats_day most) day_in vs)) k.day ∙ sym (peak-append (beats_day most) (day_assoc most) day_in vs ws);
}

-- the tallies of two lists make that of both
pub tally_both : (most : Bool) (vs ws : List Value) (s t r : Tally) → IsTally most vs s → IsTally most ws t → IsBoth most s t r → IsTally most (vs ++ ws) r
tally_both most vs ws s t r h k b = record {
  marks = b.marks ∙ ap (λ m. both_marks m t.marks) h.marks ∙ ap (both_marks (marks_of vs)) k.marks ∙ both_marks_are vs ws;
  sums = both_sums_are vs ws s.sums t.sums r.sums h.sums k.sums b.sums;
  peaks = both_peaks_are most vs ws s.peaks t.peaks r.peaks h.peaks k.peaks b.peaks;
}

filter_few : (vs : List Value) → length (filter is_true vs) ≤ length vs
filter_few [] = omega arith
filter_few (v ∷ vs) = go (is_true v) (filter_few vs)
  where
    go : (b : Bool) → length (filter is_true vs) ≤ length vs → length (cond b (v ∷ filter is_true vs) (filter is_true vs)) ≤ suc (length vs)
    go true h = omega (arith, h)
    go false h = omega (arith, h)

-- the sums of fewer than 2^63 values can be added
pub sums_small : (vs : List Value) (t : Sums) → length vs < 2 ^ 63 → AreSums vs t → AreSmall t
sums_small vs t few h =
    let f = filter_few vs in
    let size : length vs * 10 ^ 17 ≤ 2 ^ 120 = omega (arith, few) in
    record {
      trues = omega (arith, h.trues, f, few);
      low = let l = h.low in grind (arith, l, size);
      high = let l = h.high in grind (arith, l, size);
    }

open_told : (vs : List Value) (t : Marks) (v : Value) → t ≡ marks_of vs → unless_marked t v ≡ unless_open vs v
open_told vs t v h = ap (λ m. unless_marked m v) h

-- the best of values that begin with one of a kind
module _ {X : Type 0} (wrap : X → Value) (key : Value → Option X) (lt : X → X → Bool) (assoc : Assoc lt) (beaten : Value → Value → Bool)
    (kinds : (v : Value) → ((x : X) × (v ≡ wrap x)) ⊎ (key v ≡ None)) (key_is : (x : X) → key (wrap x) ≡ Some x)
    (inside : (x y : X) → beaten (wrap x) (wrap y) ≡ lt x y) (outside : (x : X) (v : Value) → key v ≡ None → beaten (wrap x) v ≡ false) where
  wrapped : (x y : X) (b : Bool) → cond b (wrap y) (wrap x) ≡ wrap (cond b y x)
  wrapped x y true = refl
  wrapped x y false = refl

  pub best_of_kind : (x : X) (vs : List Value) → (k : X) × (ahead lt (Some x) (peak lt key vs) ≡ Some k) × (best_from beaten (wrap x) vs ≡ wrap k)
  best_of_kind x [] = (x, refl, refl)
  best_of_kind x (v ∷ vs) = go (kinds v) (λ y. best_of_kind y vs)
    where
      go : ((y : X) × (v ≡ wrap y)) ⊎ (key v ≡ None) → ((y : X) → (k : X) × (ahead lt (Some y) (peak lt key vs) ≡ Some k) × (best_from beaten (wrap y) vs ≡ wrap k))
          → (k : X) × (ahead lt (Some x) (ahead lt (key v) (peak lt key vs)) ≡ Some k) × (best_from beaten (cond (beaten (wrap x) v) v (wrap x)) vs ≡ wrap k)
      go (inl y) more =
          let r = more (winner lt x y.0) in
          let k : key v ≡ Some y.0 = ap key y.1 ∙ key_is y.0 in
          let b : cond (beaten (wrap x) v) v (wrap x) ≡ wrap (winner lt x y.0) = ap (λ w. cond (beaten (wrap x) w) w (wrap x)) y.1 ∙ ap (λ c. cond c (wrap y.0) (wrap x)) (inside x y.0) ∙ wrapped x y.0 (lt x y.0) in
          (r.0, ap (λ o. ahead lt (Some x) (ahead lt o (peak lt key vs))) k ∙ ahead_assoc lt assoc (Some x) (Some y.0) (peak lt key vs) ∙ r.1, ap (λ w. best_from beaten w vs) b ∙ r.2)
      go (inr none) more =
          let r = more x in
          (r.0, ap (λ o. ahead lt (Some x) (ahead lt o (peak lt key vs))) none ∙ r.1, ap (λ c. best_from beaten (cond c v (wrap x)) vs) (outside x v none) ∙ r.2)

numbers : (v : Value) → ((x : ℤ) × (v ≡ Num x)) ⊎ (number_in v ≡ None)
numbers (Num n) = inl (n, refl)
numbers _ = inr refl

day_values : (v : Value) → ((x : ℕ) × (v ≡ Day x)) ⊎ (day_in v ≡ None)
day_values (Day d) = inl (d, refl)
day_values _ = inr refl

inside_number : (most : Bool) (x y : ℤ) → is_beaten_of most (Num x) (Num y) ≡ beats_number most x y
inside_number true x y = refl
inside_number false x y = refl

inside_day : (most : Bool) (x y : ℕ) → is_beaten_of most (Day x) (Day y) ≡ beats_day most x y
inside_day true x y = refl
inside_day false x y = refl

outside_number : (most : Bool) (x : ℤ) (v : Value) → number_in v ≡ None → is_beaten_of most (Num x) v ≡ false
outside_number most x (Num n) e = absurd (cc e)
outside_number true x _ e = refl
outside_number false x _ e = refl

outside_day : (most : Bool) (x : ℕ) (v : Value) → day_in v ≡ None → is_beaten_of most (Day x) v ≡ false
outside_day most x (Day n) e = absurd (cc e)
outside_day true x _ e = refl
outside_day false x _ e = refl

best_numbers : (most : Bool) (n : ℤ) (vs : List Value) → (k : ℤ) × (ahead (beats_number most) (Some n) (peak (beats_number most) number_in vs) ≡ Some k) × (best_from (is_beaten_of most) (Num n) vs ≡ Num k)
best_numbers most = best_of_kind Num number_in (beats_number most) (number_assoc most) (is_beaten_of most) numbers (λ x. refl) (inside_number most) (outside_number most)

best_days : (most : Bool) (n : ℕ) (vs : List Value) → (k : ℕ) × (ahead (beats_day most) (Some n) (peak (beats_day most) day_in vs) ≡ Some k) × (best_from (is_beaten_of most) (Day n) vs ≡ Day k)
best_days most = best_of_kind Day day_in (beats_day most) (day_assoc most) (is_beaten_of most) day_values (λ x. refl) (inside_day most) (outside_day most)

-- a value that nothing beats is best
unbeaten : (most : Bool) (v : Value) → ((w : Value) → is_beaten_of most v w ≡ false) → (vs : List Value) → best_from (is_beaten_of most) v vs ≡ v
unbeaten most v h [] = refl
unbeaten most v h (w ∷ vs) = ap (λ b. best_from (is_beaten_of most) (cond b w v) vs) (h w) ∙ unbeaten most v h vs

beats_unknown : (most : Bool) (w : Value) → is_beaten_of most Unknown w ≡ false
beats_unknown true w = refl
beats_unknown false (Num n) = refl
beats_unknown false (Day d) = refl
beats_unknown false _ = refl

beats_uncertain : (most : Bool) (w : Value) → is_beaten_of most Uncertain w ≡ false
beats_uncertain true w = refl
beats_uncertain false (Num n) = refl
beats_uncertain false (Day d) = refl
beats_uncertain false _ = refl

beats_truth : (b : Bool) (most : Bool) (w : Value) → is_beaten_of most (Truth b) w ≡ false
beats_truth b true w = refl
beats_truth b false (Num n) = refl
beats_truth b false (Day d) = refl
beats_truth b false _ = refl

beats_words : (t : List ℕ) (most : Bool) (w : Value) → is_beaten_of most (Words t) w ≡ false
beats_words t true w = refl
beats_words t false (Num n) = refl
beats_words t false (Day d) = refl
beats_words t false _ = refl

pub best_is : (most : Bool) (vs : List Value) (t : Peaks) → ArePeaks most vs t → best_told t (first_value vs) ≡ best (is_beaten_of most) vs
best_is most [] t h = refl
best_is most (Num n ∷ vs) t h = let r = best_numbers most n vs in ap number_or (h.number ∙ r.1) ∙ sym r.2
best_is most (Day d ∷ vs) t h = let r = best_days most d vs in ap day_or (h.day ∙ r.1) ∙ sym r.2
best_is most (Unknown ∷ vs) t h = sym (unbeaten most Unknown (beats_unknown most) vs)
best_is most (Uncertain ∷ vs) t h = sym (unbeaten most Uncertain (beats_uncertain most) vs)
best_is most (Truth b ∷ vs) t h = sym (unbeaten most (Truth b) (beats_truth b most) vs)
best_is most (Words s ∷ vs) t h = sym (unbeaten most (Words s) (beats_words s most) vs)

-- a tally tells what is gathered
pub told_is : (g : Gathering) (vs : List Value) (t : Tally) → IsTally (is_most g) vs t → told g t (first_value vs) ≡ gather_of g vs
told_is gathering.All vs t h = ap (λ b. cond b (Truth false) (unless_marked t.marks (Truth true))) (ap (λ (m : Marks). m.some_false) h.marks) ∙ ap (λ v. cond (list_any is_false vs) (Truth false) v) (open_told vs t.marks (Truth true) h.marks)
told_is gathering.Any vs t h = ap (λ b. cond b (Truth true) (unless_marked t.marks (Truth false))) (ap (λ (m : Marks). m.some_true) h.marks) ∙ ap (λ v. cond (list_any is_true vs) (Truth true) v) (open_told vs t.marks (Truth false) h.marks)
told_is gathering.Open vs t h = open_told vs t.marks Uncertain h.marks
told_is gathering.CountIf vs t h = open_told vs t.marks _ h.marks ∙ ap (λ n. unless_open vs (amount n)) h.sums.trues
told_is gathering.Sum vs t h = open_told vs t.marks _ h.marks ∙ ap (λ z. unless_open vs (number_of z)) h.sums.total
told_is (gathering.Best true) vs t h = open_told vs t.marks _ h.marks ∙ ap (unless_open vs) (best_is true vs t.peaks h.peaks)
told_is (gathering.Best false) vs t h = open_told vs t.marks _ h.marks ∙ ap (unless_open vs) (best_is false vs t.peaks h.peaks)

-- a value that is neither a number nor a day has no peak
pub plain_peaks : (most : Bool) (v : Value) (t : Peaks) → (v ≡ Unknown) ⊎ ((v ≡ Uncertain) ⊎ (((b : Bool) × (v ≡ Truth b)) ⊎ ((s : List ℕ) × (v ≡ Words s)))) → ArePeaks most [] t → ArePeaks most (v ∷ []) t
plain_peaks most v t plain h = go plain
  where
    made : (w : Value) → v ≡ w → number_in w ≡ None → day_in w ≡ None → ArePeaks most (v ∷ []) t
    made w e n d = record {
      number = h.number ∙ sym (ap (λ o. ahead (beats_number most) o None) (ap number_in e ∙ n));
      day = h.day ∙ sym (ap (λ o. ahead (beats_day most) o None) (ap day_in e ∙ d));
    }

    go : (v ≡ Unknown) ⊎ ((v ≡ Uncertain) ⊎ (((b : Bool) × (v ≡ Truth b)) ⊎ ((s : List ℕ) × (v ≡ Words s)))) → ArePeaks most (v ∷ []) t
    go (inl e) = made Unknown e refl refl
    go (inr (inl e)) = made Uncertain e refl refl
    go (inr (inr (inl p))) = made (Truth p.0) p.1 refl refl
    go (inr (inr (inr p))) = made (Words p.0) p.1 refl refl
