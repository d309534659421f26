-- Values that are the same by two functions where what they rest on passes.
use Rattle.std.proofs.Common.{◌≡◌, ℕ, List, [], ◌∷◌, Bool, true, false, cond, refl, ◌∙◌, ap}
use Rattle.std.specs.Prelude.{map, flat_map, nat_lt, ◌&&◌, ◌+◌, ◌-◌}
use Rattle.std.specs.List.{AllByRecursion}
use Rattle.opa_date.specs.declared.TheConstants.{DAYS}
use Rattle.opa_value.specs.declared.value.Value.{Value}
use Rattle.opa_value.specs.declared.value.Value.TheVariants.{Unknown, Uncertain, Bool as Truth, Num, Words, Day}
use Rattle.opa_value.specs.Truth.{is_true, all_of, any_of, unless_open}
use Rattle.opa_window.specs.Days.{days, over_days}
use Rattle.opa_window.specs.Windows.{on_date, on_dates, at_date, in_window}
use Rattle.opa_mean.specs.Meaning.{choose, rolling}
use Rattle.opa_mean.specs.Uses.{Use, on_date_uses, in_window_uses, last_days_uses, after_cond}
use Rattle.opa_mean.proofs.Everywhere.{all_parts}

module _ (P : Use → Type 0) where
  abbrev pub AllPass : List Use → Type 0
  AllPass us = AllByRecursion P us

  -- the values of a list of things
  module _ {X : Type 0} (Q : X → Type 0) (f g : X → Value) (u : X → List Use) (same : (x : X) → Q x → AllPass (u x) → f x ≡ g x) where
    pub all_same : (xs : List X) → AllByRecursion Q xs → AllPass (flat_map u xs) → map f xs ≡ map g xs
    all_same [] q h = refl
    all_same (x ∷ xs) q h = let both = all_parts P (u x) (flat_map u xs) h in ap (λ v. v ∷ map f xs) (same x q.0 both.0) ∙ ap (λ vs. g x ∷ vs) (all_same xs q.1 both.1)

  -- what a condition takes
  pub chosen : (v : Value) {a b x y : Value} (us vs : List Use) → AllPass (after_cond v us vs) → (AllPass us → a ≡ b) → (AllPass vs → x ≡ y) → choose v a x ≡ choose v b y
  chosen (Truth true) us vs h f g = f h
  chosen (Truth false) us vs h f g = g h
  chosen Unknown us vs h f g = refl
  chosen Uncertain us vs h f g = refl
  chosen (Num n) us vs h f g = refl
  chosen (Words t) us vs h f g = refl
  chosen (Day k) us vs h f g = refl

  -- a number whose test is true
  pub tested : (v : Value) {a b : Value} (x : Value) (us : List Use) → AllPass (cond (is_true v) us []) → (AllPass us → a ≡ b) → choose v a x ≡ choose v b x
  tested (Truth true) x us h f = f h
  tested (Truth false) x us h f = refl
  tested Unknown x us h f = refl
  tested Uncertain x us h f = refl
  tested (Num n) x us h f = refl
  tested (Words t) x us h f = refl
  tested (Day k) x us h f = refl

  -- windows, where the dates are the same
  when_in : (b : Bool) {v w : Value} (us : List Use) → (AllPass us → v ≡ w) → AllPass (cond b us []) → cond b v Uncertain ≡ cond b w Uncertain
  when_in true us h a = h a
  when_in false us h a = refl

  module _ (f g : ℕ → Value) (u : ℕ → List Use) (h : (d : ℕ) → AllPass (u d) → f d ≡ g d) where
    abbrev Any_day : ℕ → Type 0
    Any_day d = Unit {0}

    any_days : (ds : List ℕ) → AllByRecursion Any_day ds
    any_days [] = tt
    any_days (d ∷ ds) = (tt, any_days ds)

    days_same : (ds : List ℕ) → AllPass (flat_map u ds) → map f ds ≡ map g ds
    days_same ds a = all_same Any_day f g u (λ x _. h x) ds (any_days ds) a

    pub at_date_same : (v v' : Value) → v ≡ v' → AllPass (on_date_uses u v) → at_date f v ≡ at_date g v'
    at_date_same v v' e a = ap (unless_open (v ∷ [])) (on v a) ∙ ap (at_date g) e
      where
        on : (x : Value) → AllPass (on_date_uses u x) → on_date f x ≡ on_date g x
        on (Day k) a = when_in (nat_lt k DAYS) (u k) (h k) a
        on Unknown a = refl
        on Uncertain a = refl
        on (Truth b) a = refl
        on (Num n) a = refl
        on (Words t) a = refl

    pub in_window_same : (fold : List Value → Value) (v v' w w' : Value) → v ≡ v' → w ≡ w' → AllPass (in_window_uses u v w) → in_window fold f v w ≡ in_window fold g v' w'
    in_window_same fold v v' w w' ev ew a =
        ap (unless_open (v ∷ w ∷ [])) (on v w a) ∙ ap (λ x. in_window fold g x w) ev ∙ ap (λ x. in_window fold g v' x) ew
      where
        on : (x y : Value) → AllPass (in_window_uses u x y) → on_dates (λ k m. fold (over_days f k m)) x y ≡ on_dates (λ k m. fold (over_days g k m)) x y
        on (Day k) (Day m) a = when_in (nat_lt k DAYS && nat_lt m DAYS) (flat_map u (days k (m - k))) (λ c. ap fold (days_same (days k (m - k)) c)) a
        on _ _ a = refl

    pub rolling_same : (b : Bool) (n : ℕ) (d : ℕ) → AllPass (last_days_uses n u d) → rolling b n f d ≡ rolling b n g d
    rolling_same true n d a = ap all_of (days_same (days (d + 1 - n) (d + 1 - (d + 1 - n))) a)
    rolling_same false n d a = ap any_of (days_same (days (d + 1 - n) (d + 1 - (d + 1 - n))) a)
