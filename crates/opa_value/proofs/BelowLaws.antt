-- What is told stays where more is known: the truth tables and strict operations keep below.
use Rattle.std.proofs.Common.{◌≡◌, ◌⊎◌, inl, inr, List, [], ◌∷◌, Bool, true, false, cond, refl, sym, ◌∙◌, ap}
use Rattle.std.specs.List.{list_any, AllZip}
use Rattle.std.specs.Prelude.{◌||◌, map}
use Rattle.opa_io.proofs.Bools.{or_true}
use Rattle.opa_value.specs.declared.value.Value.{Value}
use Rattle.opa_value.specs.declared.value.Value.TheVariants.{Unknown, Uncertain, Bool as Truth}
use Rattle.opa_value.specs.Below.{IsBelow}
use Rattle.opa_value.specs.Truth.{is_unknown, is_uncertain, is_false, is_true, unless_open, all_of, any_of, not_of, strict}

-- below lists have an unknown, or are equal
pub open_or_same : (vs ws : List Value) → AllZip IsBelow vs ws → (list_any is_unknown vs ≡ true) ⊎ (vs ≡ ws)
open_or_same [] [] h = inr refl
open_or_same [] (w ∷ ws) h = absurd h
open_or_same (v ∷ vs) [] h = absurd h
open_or_same (v ∷ vs) (w ∷ ws) h = go h.0 (open_or_same vs ws h.1)
  where
    go : IsBelow v w → (list_any is_unknown vs ≡ true) ⊎ (vs ≡ ws) → (list_any is_unknown (v ∷ vs) ≡ true) ⊎ (v ∷ vs ≡ w ∷ ws)
    go (inl e) r = inl (ap (λ x. is_unknown x || list_any is_unknown vs) e)
    go (inr e) (inl r) = inl (ap (λ b. is_unknown v || b) r ∙ or_true (is_unknown v))
    go (inr e) (inr r) = inr (ap (λ x. x ∷ vs) e ∙ ap (λ xs. w ∷ xs) r)

-- a test that unknown doesn't pass stays passed
pub passes_on : (p : Value → Bool) → p Unknown ≡ false → (vs ws : List Value) → AllZip IsBelow vs ws → list_any p vs ≡ true → list_any p ws ≡ true
passes_on p n [] ws h e = absurd (cc e)
passes_on p n (v ∷ vs) [] h e = absurd h
passes_on p n (v ∷ vs) (w ∷ ws) h e = go (p v) refl h.0 (λ r. passes_on p n vs ws h.1 r)
  where
    go : (b : Bool) → p v ≡ b → IsBelow v w → (list_any p vs ≡ true → list_any p ws ≡ true) → list_any p (w ∷ ws) ≡ true
    go true q (inl u) rest = absurd (cc (q, ap p u, n))
    go true q (inr u) rest = ap (λ b. b || list_any p ws) (ap p (sym u) ∙ q)
    go false q _ rest = ap (λ b. p w || b) (rest (sym (ap (λ b. b || list_any p vs) q) ∙ e)) ∙ or_true (p w)

pub unless_open_below : (vs ws : List Value) (v w : Value) → AllZip IsBelow vs ws → (vs ≡ ws → v ≡ w) → IsBelow (unless_open vs v) (unless_open ws w)
unless_open_below vs ws v w h same = go (open_or_same vs ws h)
  where
    go : (list_any is_unknown vs ≡ true) ⊎ (vs ≡ ws) → IsBelow (unless_open vs v) (unless_open ws w)
    go (inl e) = inl (ap (λ b. cond b Unknown (cond (list_any is_uncertain vs) Uncertain v)) e)
    go (inr e) = inr (ap (λ xs. unless_open xs v) e ∙ ap (unless_open ws) (same e))

pub strict_below : (f : List Value → Value) (vs ws : List Value) → AllZip IsBelow vs ws → IsBelow (strict f vs) (strict f ws)
strict_below f vs ws h = unless_open_below vs ws (f vs) (f ws) h (ap f)

-- a truth table that one value decides
decided : (p : Value → Bool) (x y : Value) → p Unknown ≡ false → (vs ws : List Value) → AllZip IsBelow vs ws → IsBelow (cond (list_any p vs) x (unless_open vs y)) (cond (list_any p ws) x (unless_open ws y))
decided p x y n vs ws h = go (list_any p vs) refl
  where
    go : (b : Bool) → list_any p vs ≡ b → IsBelow (cond (list_any p vs) x (unless_open vs y)) (cond (list_any p ws) x (unless_open ws y))
    go true e = inr (ap (λ b. cond b x (unless_open vs y)) e ∙ sym (ap (λ b. cond b x (unless_open ws y)) (passes_on p n vs ws h e)))
    go false e = go_open (open_or_same vs ws h)
      where
        go_open : (list_any is_unknown vs ≡ true) ⊎ (vs ≡ ws) → IsBelow (cond (list_any p vs) x (unless_open vs y)) (cond (list_any p ws) x (unless_open ws y))
        go_open (inl u) = inl (ap (λ b. cond b x (unless_open vs y)) e ∙ ap (λ b. cond b Unknown (cond (list_any is_uncertain vs) Uncertain y)) u)
        go_open (inr u) = inr (ap (λ xs. cond (list_any p xs) x (unless_open xs y)) u)

pub all_of_below : (vs ws : List Value) → AllZip IsBelow vs ws → IsBelow (all_of vs) (all_of ws)
all_of_below = decided is_false (Truth false) (Truth true) refl

pub any_of_below : (vs ws : List Value) → AllZip IsBelow vs ws → IsBelow (any_of vs) (any_of ws)
any_of_below = decided is_true (Truth true) (Truth false) refl

-- a function that keeps unknown
pub kept_below : (f : Value → Value) → f Unknown ≡ Unknown → (v w : Value) → IsBelow v w → IsBelow (f v) (f w)
kept_below f n v w (inl e) = inl (ap f e ∙ n)
kept_below f n v w (inr e) = inr (ap f e)

pub below_refl : (v : Value) → IsBelow v v
below_refl v = inr refl

-- functions that are below at each item give lists that are below
pub map_below : {X : Type 0} (f g : X → Value) → ((x : X) → IsBelow (f x) (g x)) → (xs : List X) → AllZip IsBelow (map f xs) (map g xs)
map_below f g h [] = tt
map_below f g h (x ∷ xs) = (h x, map_below f g h xs)

pub not_of_below : (v w : Value) → IsBelow v w → IsBelow (not_of v) (not_of w)
not_of_below = kept_below not_of refl

pub ruleset below_laws = (all_of_below, any_of_below, strict_below, not_of_below)
