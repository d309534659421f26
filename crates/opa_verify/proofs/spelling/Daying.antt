-- Days of a printed line, cut by their length.
use Rattle.std.proofs.Common.{◌≡◌, ℕ, ◌+◌, ◌<◌, ◌≤◌, List, ◌++◌, length, refl, sym, ap, subst, ◌∙◌, arith, append_assoc, length-append}
use Rattle.std.specs.Prelude.{codes}
use Rattle.std.specs.Str.{IsUtf8}
use Rattle.opa_date.specs.declared.TheConstants.{DAYS}
use Rattle.opa_date.specs.Texts.{day_text}
use Rattle.opa_verify.specs.Spelling.Printed.{days_text}
use Rattle.opa_verify.specs.Spelling.Reading.{AreDays, IsDayBefore, IsPointAt}
use Rattle.opa_verify.proofs.spelling.Calming.{day_tame, tame_utf8}
use Rattle.opa_verify.proofs.spelling.Cutting.{same_parts}
use Rattle.opa_verify.proofs.spelling.Valued.{one_day}

wide : (d : ℕ) → length (day_text d) ≡ 10
wide d = refl

pub unread_day : (date : List ℕ) → (IsUtf8 date → ⊥) → (d : ℕ) → d < DAYS → day_text d ≡ date → ⊥
unread_day date n d h e = n (subst IsUtf8 e (tame_utf8 (day_text d) (day_tame d h)))

-- ---- a day at the front

pub too_short : (text : List ℕ) → length text < 10 → (d : ℕ) (rest : List ℕ) → IsDayBefore d rest text → ⊥
too_short text lt d rest h = absurd (let n : length text ≡ length (day_text d) + length rest = ap length h.1 ∙ length-append (day_text d) rest in omega (arith, lt, n, wide d))

pub no_day_before : (text date rest : List ℕ) → text ≡ date ++ rest → length date ≡ 10 → ((d : ℕ) → d < DAYS → day_text d ≡ date → ⊥) → (d : ℕ) (left : List ℕ) → IsDayBefore d left text → ⊥
no_day_before text date rest e n none d left h = none d h.0 (same_parts (day_text d) date left rest (sym n) (sym h.1 ∙ e)).0

pub day_before : (text date rest : List ℕ) (d : ℕ) → text ≡ date ++ rest → d < DAYS → day_text d ≡ date → IsDayBefore d rest text
day_before text date rest d e lt is = (lt, e ∙ ap (λ t. t ++ rest) (sym is))

same_day : (text rest left : List ℕ) (d e : ℕ) → IsDayBefore d rest text → e < DAYS → text ≡ day_text e ++ left → (e ≡ d) × (left ≡ rest)
same_day text rest left d e h lt is =
    let s = same_parts (day_text e) (day_text d) left rest refl (sym is ∙ h.1) in (one_day e d lt h.0 s.0, s.1)

-- ---- the last day, and what follows it

abbrev pub LastDay : ℕ → ℕ → List ℕ → List ℕ → Type 0
LastDay s t told text = (s ≤ t) × ((t < DAYS) × (text ≡ day_text t ++ (codes ": " ++ told)))

pub no_last : (s : ℕ) (text : List ℕ) → ((d : ℕ) (rest : List ℕ) → IsDayBefore d rest text → ⊥) → (t : ℕ) (told : List ℕ) → s ≤ t → t < DAYS → text ≡ day_text t ++ (codes ": " ++ told) → ⊥
no_last s text none t told le lt e = none t (codes ": " ++ told) (lt, e)

pub earlier_last : (s : ℕ) (text rest : List ℕ) (d : ℕ) → IsDayBefore d rest text → d < s → (t : ℕ) (told : List ℕ) → s ≤ t → t < DAYS → text ≡ day_text t ++ (codes ": " ++ told) → ⊥
earlier_last s text rest d h less t told le lt e = absurd (let is = (same_day text rest (codes ": " ++ told) d t h lt e).0 in omega (arith, is, less, le))

pub no_told : (s : ℕ) (text rest : List ℕ) (d : ℕ) → IsDayBefore d rest text → ((told : List ℕ) → rest ≡ codes ": " ++ told → ⊥) → (t : ℕ) (told : List ℕ) → s ≤ t → t < DAYS → text ≡ day_text t ++ (codes ": " ++ told) → ⊥
no_told s text rest d h none t told le lt e = none told (sym (same_day text rest (codes ": " ++ told) d t h lt e).1)

pub last_is : (s : ℕ) (text rest told : List ℕ) (d : ℕ) → IsDayBefore d rest text → s ≤ d → rest ≡ codes ": " ++ told → LastDay s d told text
last_is s text rest told d h le e = (le, (h.0, h.1 ∙ ap (λ t. day_text d ++ t) e))

-- ---- both days

parts_of : (days told : List ℕ) (s t : ℕ) → AreDays s t told (codes " " ++ days) → days ≡ day_text s ++ (codes " to " ++ (day_text t ++ (codes ": " ++ told)))
parts_of days told s t h =
    let e : days ≡ days_text s t ++ (codes ": " ++ told) = cc h.1.1 in
    e ∙ append_assoc (day_text s) (codes " to " ++ day_text t) (codes ": " ++ told)

pub no_first : (days : List ℕ) → ((d : ℕ) (rest : List ℕ) → IsDayBefore d rest days → ⊥) → (s t : ℕ) (told : List ℕ) → AreDays s t told (codes " " ++ days) → ⊥
no_first days none s t told h = let lt : s < DAYS = omega (arith, h.0, h.1.0) in none s (codes " to " ++ (day_text t ++ (codes ": " ++ told))) (lt, parts_of days told s t h)

-- what follows the first day
behind_first : (days rest told : List ℕ) (d s t : ℕ) → IsDayBefore d rest days → AreDays s t told (codes " " ++ days) → (s ≡ d) × (codes " to " ++ (day_text t ++ (codes ": " ++ told)) ≡ rest)
behind_first days rest told d s t is h =
    let lt : s < DAYS = omega (arith, h.0, h.1.0) in same_day days rest (codes " to " ++ (day_text t ++ (codes ": " ++ told))) d s is lt (parts_of days told s t h)

pub no_to : (days rest : List ℕ) (d : ℕ) → IsDayBefore d rest days → ((r : List ℕ) → rest ≡ codes " to " ++ r → ⊥) → (s t : ℕ) (told : List ℕ) → AreDays s t told (codes " " ++ days) → ⊥
no_to days rest d is none s t told h = none (day_text t ++ (codes ": " ++ told)) (sym (behind_first days rest told d s t is h).1)

pub no_last_behind : (days rest later : List ℕ) (d : ℕ) → IsDayBefore d rest days → rest ≡ codes " to " ++ later → ((t : ℕ) (told : List ℕ) → d ≤ t → t < DAYS → later ≡ day_text t ++ (codes ": " ++ told) → ⊥)
    → (s t : ℕ) (told : List ℕ) → AreDays s t told (codes " " ++ days) → ⊥
no_last_behind days rest later d is e none s t told h =
    let b = behind_first days rest told d s t is h in
    let same : later ≡ day_text t ++ (codes ": " ++ told) = let f : codes " to " ++ later ≡ codes " to " ++ (day_text t ++ (codes ": " ++ told)) = sym e ∙ sym b.1 in cc f in
    none t told (subst (λ x. x ≤ t) b.0 h.0) h.1.0 same

pub both_days : (days rest later told : List ℕ) (d t : ℕ) → IsDayBefore d rest days → rest ≡ codes " to " ++ later → LastDay d t told later → AreDays d t told (codes " " ++ days)
both_days days rest later told d t is e h = (
  h.0,
  (
    h.1.0,
    ap (λ x. codes " " ++ x) (is.1 ∙ ap (λ x. day_text d ++ x) (e ∙ ap (λ x. codes " to " ++ x) h.1.1) ∙ sym (append_assoc (day_text d) (codes " to " ++ day_text t) (codes ": " ++ told))),
  ),
)

pub no_blank : (text : List ℕ) → ((r : List ℕ) → text ≡ codes " " ++ r → ⊥) → (s t : ℕ) (told : List ℕ) → AreDays s t told text → ⊥
no_blank text none s t told h = none (days_text s t ++ (codes ": " ++ told)) h.1.1

pub days_behind : (text days told : List ℕ) (s t : ℕ) → text ≡ codes " " ++ days → AreDays s t told (codes " " ++ days) → AreDays s t told text
days_behind text days told s t e h = subst (AreDays s t told) (sym e) h

pub no_days_behind : (text days : List ℕ) → text ≡ codes " " ++ days → ((s t : ℕ) (told : List ℕ) → AreDays s t told (codes " " ++ days) → ⊥) → (s t : ℕ) (told : List ℕ) → AreDays s t told text → ⊥
no_days_behind text days e none s t told h = none s t told (subst (AreDays s t told) e h)

-- ---- a day at the end

pub too_short_end : (text : List ℕ) → length text < 10 → (p : List ℕ) (d : ℕ) → IsPointAt p d text → ⊥
too_short_end text lt p d h =
    absurd (let n : length text ≡ length p + length (codes " at " ++ day_text d) = ap length h.1 ∙ length-append p (codes " at " ++ day_text d) in let m : length (codes " at " ++ day_text d) ≡ 14 = refl in omega (arith, lt, n, m))

pub end_parts : (text front date p : List ℕ) (d : ℕ) → text ≡ front ++ date → length date ≡ 10 → IsPointAt p d text → (p ++ codes " at " ≡ front) × (day_text d ≡ date)
end_parts text front date p d e n h =
    let f : (p ++ codes " at ") ++ day_text d ≡ front ++ date = append_assoc p (codes " at ") (day_text d) ∙ sym h.1 ∙ e in
    let a : length (p ++ codes " at ") + length (day_text d) ≡ length front + length date = sym (length-append (p ++ codes " at ") (day_text d)) ∙ ap length f ∙ length-append front date in
    same_parts (p ++ codes " at ") front (day_text d) date (omega (arith, a, n, wide d)) f

pub no_day_end : (text front date : List ℕ) → text ≡ front ++ date → length date ≡ 10 → ((d : ℕ) → d < DAYS → day_text d ≡ date → ⊥) → (p : List ℕ) (d : ℕ) → IsPointAt p d text → ⊥
no_day_end text front date e n none p d h = none d h.0 (end_parts text front date p d e n h).1

pub no_at : (text front date : List ℕ) → text ≡ front ++ date → length date ≡ 10 → ((p : List ℕ) → front ≡ p ++ codes " at " → ⊥) → (p : List ℕ) (d : ℕ) → IsPointAt p d text → ⊥
no_at text front date e n none p d h = none p (sym (end_parts text front date p d e n h).0)

pub point_at : (text front date p : List ℕ) (d : ℕ) → text ≡ front ++ date → d < DAYS → day_text d ≡ date → front ≡ p ++ codes " at " → IsPointAt p d text
point_at text front date p d e lt is f = (lt, e ∙ ap (λ x. x ++ date) f ∙ append_assoc p (codes " at ") date ∙ ap (λ x. p ++ (codes " at " ++ x)) (sym is))
