-- Functions over time look at days of the calendar alone.
use Rattle.std.proofs.Common.{◌≡◌, ℕ, zero, suc, ◌+◌, ◌-◌, ◌<◌, ◌≤◌, List, ◌∷◌, Bool, true, false, cond, Some, refl, ◌∙◌, ap, arith}
use Rattle.std.specs.Prelude.{map, nat_lt, ◌&&◌}
use Rattle.std.proofs.lemmas.Bool.{and_parts, ltb-true}
use Rattle.opa_date.specs.declared.TheConstants.{DAYS}
use Rattle.opa_value.specs.declared.value.Value.{Value}
use Rattle.opa_value.specs.declared.value.Value.TheVariants.{Unknown, Uncertain, Bool as Truth, Num, Words, Day}
use Rattle.opa_value.specs.Truth.{all_of, any_of}
use Rattle.opa_line.specs.Lines.{value_or, StandsFor}
use Rattle.opa_window.specs.Days.{day_value, days, over_days}
use Rattle.opa_window.specs.Windows.{value_at, in_window, interval_sometimes}
use Rattle.opa_mean.specs.Meaning.{rolling}
use Rattle.opa_verify.specs.declared.listed.parts.Part.TheVariants as part
use Rattle.opa_verify.specs.Listed.Shades.{values_on, gaps_on, span_shade, date_shade, rolling_shade}
use Rattle.opa_verify.specs.Listed.ShadeLines.{ShadeLine, shade_at, part_of, shade_from, either}

abbrev pub Alike : (ℕ → Value) → (ℕ → Value) → Type 0
Alike f g = (d : ℕ) → d < DAYS → f d ≡ g d

days_alike : (f g : ℕ → Value) → Alike f g → (s n : ℕ) → s + n ≤ DAYS → map f (days s n) ≡ map g (days s n)
days_alike f g h s zero le = refl
days_alike f g h s (suc n) le = ap (λ v. v ∷ map f (days (s + 1) n)) (h s (omega (arith, le))) ∙ ap (λ vs. g s ∷ vs) (days_alike f g h (s + 1) n (omega (arith, le)))

pub in_window_alike : (fold : List Value → Value) (f g : ℕ → Value) → Alike f g → (v w : Value) → in_window fold f v w ≡ in_window fold g v w
in_window_alike fold f g h (Day s) (Day t) = go (nat_lt s DAYS && nat_lt t DAYS) refl
  where
    go : (b : Bool) → (nat_lt s DAYS && nat_lt t DAYS) ≡ b → cond b (fold (over_days f s t)) Uncertain ≡ cond b (fold (over_days g s t)) Uncertain
    go false e = refl
    go true e = let both = and_parts (nat_lt s DAYS) (nat_lt t DAYS) e in let a = ltb-true s DAYS both.0 in let b = ltb-true t DAYS both.1 in ap fold (days_alike f g h s (t - s) (omega (arith, a, b)))
in_window_alike fold f g h _ _ = refl

pub value_at_alike : (f g : ℕ → Value) → Alike f g → (v : Value) → value_at f v ≡ value_at g v
value_at_alike f g h (Day s) = go (nat_lt s DAYS) refl
  where
    go : (b : Bool) → nat_lt s DAYS ≡ b → cond b (f s) Uncertain ≡ cond b (g s) Uncertain
    go false e = refl
    go true e = h s (ltb-true s DAYS e)
value_at_alike f g h Unknown = refl
value_at_alike f g h Uncertain = refl
value_at_alike f g h (Truth b) = refl
value_at_alike f g h (Num n) = refl
value_at_alike f g h (Words t) = refl

pub rolling_alike : (b : Bool) (n : ℕ) (f g : ℕ → Value) → Alike f g → (d : ℕ) → d < DAYS → rolling b n f d ≡ rolling b n g d
rolling_alike true n f g h d lt = ap all_of (days_alike f g h (d + 1 - n) (d + 1 - (d + 1 - n)) (omega (arith, lt)))
rolling_alike false n f g h d lt = ap any_of (days_alike f g h (d + 1 - n) (d + 1 - (d + 1 - n)) (omega (arith, lt)))

-- lines of what is told of a line of shades
abbrev pub Values : ShadeLine → List (ℕ × Value) → Type 0
Values x l = StandsFor DAYS (λ d. part_of part.Value (shade_at x d)) l

abbrev pub Gaps : ShadeLine → List (ℕ × Value) → Type 0
Gaps x l = StandsFor DAYS (λ d. part_of part.Gap (shade_at x d)) l

told : (l : List (ℕ × Value)) (f : ℕ → Value) → StandsFor DAYS f l → Alike (day_value l) f
told l f h d lt = ap (value_or Unknown) (h d lt)

pub span_stands : (fold : List Value → Value) (start end x : ShadeLine) (sv ev xv sg eg xg values within dates gaps : List (ℕ × Value)) (l : ShadeLine)
    → Values start sv → Values end ev → Values x xv → Gaps start sg → Gaps end eg → Gaps x xg
    → StandsFor DAYS (λ d. in_window fold (day_value xv) (day_value sv d) (day_value ev d)) values → StandsFor DAYS (λ d. interval_sometimes (day_value xg) (day_value sv d) (day_value ev d)) within
    → StandsFor DAYS (λ d. either (day_value sg d) (day_value eg d)) dates → StandsFor DAYS (λ d. either (day_value dates d) (day_value within d)) gaps
    → StandsFor DAYS (λ d. shade_from (day_value values d) (day_value gaps d)) l → StandsFor DAYS (λ d. span_shade fold (shade_at x) (shade_at start d) (shade_at end d)) l
span_stands fold start end x sv ev xv sg eg xg values within dates gaps l a b e f g h vs ws ds gs stands d lt =
    let v : day_value values d ≡ in_window fold (values_on (shade_at x)) (shade_at start d).value (shade_at end d).value =
    told values _ vs d lt ∙ ap (λ y. in_window fold (day_value xv) y (day_value ev d)) (told sv _ a d lt) ∙ ap (λ y. in_window fold (day_value xv) (shade_at start d).value y) (told ev _ b d lt)
    ∙ in_window_alike fold (day_value xv) (values_on (shade_at x)) (told xv _ e) (shade_at start d).value (shade_at end d).value in
    let w : day_value within d ≡ interval_sometimes (gaps_on (shade_at x)) (shade_at start d).value (shade_at end d).value =
    told within _ ws d lt ∙ ap (λ y. interval_sometimes (day_value xg) y (day_value ev d)) (told sv _ a d lt) ∙ ap (λ y. interval_sometimes (day_value xg) (shade_at start d).value y) (told ev _ b d lt)
    ∙ in_window_alike any_of (day_value xg) (gaps_on (shade_at x)) (told xg _ h) (shade_at start d).value (shade_at end d).value in
    let ends : day_value dates d ≡ either (Truth (shade_at start d).missing) (Truth (shade_at end d).missing) =
    told dates _ ds d lt ∙ ap (λ y. either y (day_value eg d)) (told sg _ f d lt) ∙ ap (either (Truth (shade_at start d).missing)) (told eg _ g d lt) in
    stands d lt ∙ ap Some (ap (λ y. shade_from y (day_value gaps d)) v
    ∙ ap (shade_from (in_window fold (values_on (shade_at x)) (shade_at start d).value (shade_at end d).value)) (told gaps _ gs d lt ∙ ap (λ y. either y (day_value within d)) ends ∙ ap (either (either (Truth (shade_at start d).missing) (Truth (shade_at end d).missing))) w))

pub date_stands : (date x : ShadeLine) (dv xv dg xg values there gaps : List (ℕ × Value)) (l : ShadeLine) → Values date dv → Values x xv → Gaps date dg → Gaps x xg
    → StandsFor DAYS (λ d. value_at (day_value xv) (day_value dv d)) values → StandsFor DAYS (λ d. value_at (day_value xg) (day_value dv d)) there → StandsFor DAYS (λ d. either (day_value dg d) (day_value there d)) gaps
    → StandsFor DAYS (λ d. shade_from (day_value values d) (day_value gaps d)) l → StandsFor DAYS (λ d. date_shade (shade_at x) (shade_at date d)) l
date_stands date x dv xv dg xg values there gaps l a b e f vs ts gs stands d lt =
    let v : day_value values d ≡ value_at (values_on (shade_at x)) (shade_at date d).value = told values _ vs d lt ∙ ap (value_at (day_value xv)) (told dv _ a d lt) ∙ value_at_alike (day_value xv) (values_on (shade_at x)) (told xv _ b) (shade_at date d).value in
    let t : day_value there d ≡ value_at (gaps_on (shade_at x)) (shade_at date d).value = told there _ ts d lt ∙ ap (value_at (day_value xg)) (told dv _ a d lt) ∙ value_at_alike (day_value xg) (gaps_on (shade_at x)) (told xg _ f) (shade_at date d).value in
    stands d lt ∙ ap Some (ap (λ y. shade_from y (day_value gaps d)) v
    ∙ ap (shade_from (value_at (values_on (shade_at x)) (shade_at date d).value)) (told gaps _ gs d lt ∙ ap (λ y. either y (day_value there d)) (told dg _ e d lt) ∙ ap (either (Truth (shade_at date d).missing)) t))

pub rolling_stands : (b : Bool) (n : ℕ) (x : ShadeLine) (xv xg values gaps : List (ℕ × Value)) (l : ShadeLine) → Values x xv → Gaps x xg
    → StandsFor DAYS (rolling b n (day_value xv)) values → StandsFor DAYS (rolling false n (day_value xg)) gaps
    → StandsFor DAYS (λ d. shade_from (day_value values d) (day_value gaps d)) l → StandsFor DAYS (rolling_shade b n (shade_at x)) l
rolling_stands b n x xv xg values gaps l a e vs gs stands d lt =
    stands d lt ∙ ap Some (ap (λ y. shade_from y (day_value gaps d)) (told values _ vs d lt ∙ rolling_alike b n (day_value xv) (values_on (shade_at x)) (told xv _ a) d lt)
    ∙ ap (shade_from (rolling b n (values_on (shade_at x)) d)) (told gaps _ gs d lt ∙ rolling_alike false n (day_value xg) (gaps_on (shade_at x)) (told xg _ e) d lt))
