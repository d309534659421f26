-- What holds of each item of a list.
use Rattle.std.proofs.Common.{◌≡◌, ◌<◌, ◌≤◌, ℕ, List, [], ◌∷◌, Bool, true, false, cond, refl, ap, subst, ◌∙◌, arith, le-leb}
use Rattle.std.specs.Prelude.{All, Some, nat_le}
use Rattle.std.specs.List.{AllByRecursion}
use Rattle.opa_date.specs.declared.TheConstants.{DAYS}
use Rattle.opa_line.specs.Lines.{IsLine, Follows, at, value_from}
use Rattle.std.proofs.lemmas.List.Elements.{All-from_recursion, recursion_from_All}
use Rattle.std.proofs.lemmas.Bool.{lt-leb}

-- of the first, and of the others
pub first_all : {X : Type 0} (P : X → Type 0) (xs : List X) (x : X) (later : List X) → xs ≡ x ∷ later → All P xs → P x
first_all P xs x later e h = (recursion_from_All P (x ∷ later) (subst (All P) e h)).0

pub later_all : {X : Type 0} (P : X → Type 0) (xs : List X) (x : X) (later : List X) → xs ≡ x ∷ later → All P xs → All P later
later_all P xs x later e h = All-from_recursion P later (recursion_from_All P (x ∷ later) (subst (All P) e h)).1

-- ---- the days of a line

days_follow : {X : Type 0} (end d : ℕ) (v : X) (l : List (ℕ × X)) → Follows end d v l → AllByRecursion (λ (p : ℕ × X). p.0 < end) l
days_follow end d v [] h = tt
days_follow end d v (p ∷ l) h = (h.1, days_follow end p.0 p.1 l h.3)

pub days_below : {X : Type 0} (l : List (ℕ × X)) (p : ℕ × X) (later : List (ℕ × X)) → l ≡ p ∷ later → IsLine DAYS l → All (λ (q : ℕ × X). q.0 < DAYS) later
days_below {X} l p later e h = let is = subst (IsLine DAYS) e h in All-from_recursion (λ (q : ℕ × X). q.0 < DAYS) later (days_follow DAYS 0 p.1 later is.1)

-- ---- the values of a line

-- before the first change the value stays
stays : {X : Type 0} (end d : ℕ) (v : X) (l : List (ℕ × X)) (x : ℕ) → Follows end d v l → x ≤ d → value_from v l x ≡ v
stays end d v [] x f h = refl
stays end d v (p ∷ l) x f h = ap (λ b. cond b (value_from p.1 l x) v) (lt-leb p.0 x (omega (arith, f.0, h)))

later : {X : Type 0} (v : X) (p : ℕ × X) (l : List (ℕ × X)) (x : ℕ) → p.0 ≤ x → value_from v (p ∷ l) x ≡ value_from p.1 l x
later v p l x h = ap (λ b. cond b (value_from p.1 l x) v) (le-leb p.0 x h)

follows_all : {X : Type 0} (P : X → Type 0) (d : ℕ) (v : X) (l : List (ℕ × X)) → Follows DAYS d v l → ((x : ℕ) → d < x → x < DAYS → P (value_from v l x)) → AllByRecursion (λ (p : ℕ × X). P p.1) l
follows_all P d v [] f h = tt
follows_all P d v (p ∷ l) f h = (
  subst P (later v p l p.0 (omega arith) ∙ stays DAYS p.0 p.1 l p.0 f.3 (omega arith)) (h p.0 f.0 f.1),
  follows_all P p.0 p.1 l f.3 (λ x above below. subst P (later v p l x (omega (arith, above))) (h x (omega (arith, f.0, above)) below)),
)

-- what holds at each day holds of each value
pub days_all : {X : Type 0} (P : X → Type 0) (l : List (ℕ × X)) → IsLine DAYS l → ((d : ℕ) (v : X) → d < DAYS → at l d ≡ Some v → P v) → All (λ (p : ℕ × X). P p.1) l
days_all {X} P [] is h = absurd is
days_all {X} P (p ∷ l) is h =
    All-from_recursion (λ (q : ℕ × X). P q.1) (p ∷ l)
    (h 0 p.1 (omega arith) (ap (λ v. Some v) (stays DAYS 0 p.1 l 0 is.1 (omega arith))), follows_all P 0 p.1 l is.1 (λ x above below. h x (value_from p.1 l x) below refl))

-- and the other way round
all_from : {X : Type 0} (P : X → Type 0) (v : X) (l : List (ℕ × X)) (d : ℕ) → P v → AllByRecursion (λ (p : ℕ × X). P p.1) l → P (value_from v l d)
all_from P v [] d h a = h
all_from P v (p ∷ l) d h a = go (nat_le p.0 d) (all_from P p.1 l d a.0 a.1)
  where
    go : (b : Bool) → P (value_from p.1 l d) → P (cond b (value_from p.1 l d) v)
    go true k = k
    go false k = h

pub all_days : {X : Type 0} (P : X → Type 0) (l : List (ℕ × X)) (d : ℕ) (v : X) → AllByRecursion (λ (p : ℕ × X). P p.1) l → at l d ≡ Some v → P v
all_days P [] d v a e = absurd (cc e)
all_days P (p ∷ l) d v a e = subst P (let f : value_from p.1 l d ≡ v = cc e in f) (all_from P p.1 l d a.0 a.1)
