-- What is seen says what the value is.
use Rattle.std.proofs.Common.{◌≡◌, ℕ, suc, ◌+◌, ◌-◌, List, [], ◌∷◌, Bool, true, false, cond, Option, None, Some, refl, sym, ◌∙◌, ap, subst, length}
use Rattle.std.specs.Prelude.{map, nat_lt, nat_le, ◌&&◌, ◌||◌}
use Rattle.std.specs.List.{list_any}
use Rattle.std.specs.Option.{option_map, option_and_then}
use Rattle.opa_date.specs.declared.TheConstants.{DAYS}
use Rattle.opa_value.specs.declared.value.Value.{Value}
use Rattle.opa_value.specs.declared.value.Value.TheVariants.{Unknown, Uncertain, Bool as Truth, Num, Words, Day}
use Rattle.opa_value.specs.Truth.{is_true, is_false, all_of, any_of, unless_open}
use Rattle.opa_tree.specs.declared.kinds.Quant.{Quant}
use Rattle.opa_tree.specs.declared.kinds.Quant.TheVariants as quant
use Rattle.opa_window.specs.Days.{days, over_days, last_days}
use Rattle.opa_window.specs.Windows.{value_at, in_window}
use Rattle.opa_mean.specs.Meaning.{choose, quant_of, first_value, amount, rolling}
use Rattle.opa_verify.specs.Listed.Seen.{gathered, is_seen, all_seen, any_seen, chosen, quant_seen, on_date_seen, between_seen, span_seen, rolling_seen}

-- where something is seen, it is this
abbrev pub Says : {X : Type 0} → Option X → X → Type 0
Says {X} o v = (w : X) → o ≡ Some w → v ≡ w

abbrev pub AllSay : {X : Type 0} → List (Option X) → List X → Type 0
AllSay [] [] = Unit {0}
AllSay [] (v ∷ vs) = ⊥
AllSay (o ∷ os) [] = ⊥
AllSay (o ∷ os) (v ∷ vs) = Says o v × AllSay os vs

pub says_some : {X : Type 0} (v : X) → Says (Some v) v
says_some v w e = cc e

pub says_none : {X : Type 0} (v : X) → Says None v
says_none v w e = absurd (cc e)

pub says_same : {X : Type 0} (o : Option X) (v v' : X) → v ≡ v' → Says o v → Says o v'
says_same o v v' e h = subst (Says o) e h

pub map_says : {X Y : Type 0} (f : X → Y) (o : Option X) (v : X) → Says o v → Says (option_map f o) (f v)
map_says f None v h w e = absurd (cc e)
map_says f (Some x) v h w e = let one : f x ≡ w = cc e in ap f (h x refl) ∙ one

pub gathered_say : {X : Type 0} (os : List (Option X)) (vs : List X) → AllSay os vs → Says (gathered os) vs
gathered_say [] [] h w e = cc e
gathered_say [] (v ∷ vs) h w e = absurd h
gathered_say (o ∷ os) [] h w e = absurd h
gathered_say (None ∷ os) (v ∷ vs) h w e = absurd (cc e)
gathered_say {X} (Some x ∷ os) (v ∷ vs) h w e = go (gathered os) (gathered_say os vs h.1) w e
  where
    go : (o : Option (List X)) → Says o vs → Says (option_map (λ xs. x ∷ xs) o) (v ∷ vs)
    go None k w e = absurd (cc e)
    go (Some xs) k w e = let one : x ∷ xs ≡ w = cc e in ap (λ y. y ∷ vs) (h.0 x refl) ∙ ap (λ ys. x ∷ ys) (k xs refl) ∙ one

pub map_say : {X Y : Type 0} (f : X → Option Y) (g : X → Y) → ((x : X) → Says (f x) (g x)) → (xs : List X) → AllSay (map f xs) (map g xs)
map_say f g h [] = tt
map_say f g h (x ∷ xs) = (h x, map_say f g h xs)

any_here : (p : Value → Bool) (os : List (Option Value)) (vs : List Value) → AllSay os vs → list_any (is_seen p) os ≡ true → list_any p vs ≡ true
any_here p [] [] h e = e
any_here p [] (v ∷ vs) h e = absurd h
any_here p (o ∷ os) [] h e = absurd h
any_here p (o ∷ os) (v ∷ vs) h e = go o (p v) refl h.0 e (any_here p os vs h.1)
  where
    go : (o : Option Value) (b : Bool) → p v ≡ b → Says o v → (is_seen p o || list_any (is_seen p) os) ≡ true → (list_any (is_seen p) os ≡ true → list_any p vs ≡ true) → (p v || list_any p vs) ≡ true
    go o true q says e rest = ap (λ b. b || list_any p vs) q
    go None false q says e rest = ap (λ b. b || list_any p vs) q ∙ rest e
    go (Some x) false q says e rest = ap (λ b. b || list_any p vs) q ∙ rest (sym (ap (λ b. b || list_any (is_seen p) os) (sym (ap p (says x refl)) ∙ q)) ∙ e)

-- a truth table that one value decides
decided_say : (p : Value → Bool) (a b : Value) (os : List (Option Value)) (vs : List Value) → AllSay os vs
    → Says (cond (list_any (is_seen p) os) (Some a) (option_map (λ ws. cond (list_any p ws) a (unless_open ws b)) (gathered os))) (cond (list_any p vs) a (unless_open vs b))
decided_say p a b os vs h = go (list_any (is_seen p) os) refl
  where
    go : (t : Bool) → list_any (is_seen p) os ≡ t → Says (cond t (Some a) (option_map (λ ws. cond (list_any p ws) a (unless_open ws b)) (gathered os))) (cond (list_any p vs) a (unless_open vs b))
    go true e w is = let one : a ≡ w = cc is in ap (λ t. cond t a (unless_open vs b)) (any_here p os vs h e) ∙ one
    go false e w is = map_says (λ ws. cond (list_any p ws) a (unless_open ws b)) (gathered os) vs (gathered_say os vs h) w is

pub all_say : (os : List (Option Value)) (vs : List Value) → AllSay os vs → Says (all_seen os) (all_of vs)
all_say os vs h = decided_say is_false (Truth false) (Truth true) os vs h

pub any_say : (os : List (Option Value)) (vs : List Value) → AllSay os vs → Says (any_seen os) (any_of vs)
any_say os vs h = decided_say is_true (Truth true) (Truth false) os vs h

-- what a condition takes
pub chosen_says : (c o rest : Option Value) (t v r : Value) → Says c t → Says o v → Says rest r → Says (chosen c o rest) (choose t v r)
chosen_says None o rest t v r hc ho hr w e = absurd (cc e)
chosen_says (Some x) o rest t v r hc ho hr w e = ap (λ y. choose y v r) (hc x refl) ∙ go x w e
  where
    go : (x : Value) → Says (chosen (Some x) o rest) (choose x v r)
    go (Truth true) w e = ho w e
    go (Truth false) w e = hr w e
    go Unknown w e = cc e
    go Uncertain w e = cc e
    go (Num n) w e = cc e
    go (Words n) w e = cc e
    go (Day n) w e = cc e

lengths : {X : Type 0} (os : List (Option X)) (vs : List X) → AllSay os vs → length os ≡ length vs
lengths [] [] h = refl
lengths [] (v ∷ vs) h = absurd h
lengths (o ∷ os) [] h = absurd h
lengths (o ∷ os) (v ∷ vs) h = ap suc (lengths os vs h.1)

-- what a quantifier makes of its members
pub quant_says : (q : Quant) (os : List (Option Value)) (vs : List Value) → AllSay os vs → Says (quant_seen q os) (quant_of q vs)
quant_says quant.ForAll os vs h = all_say os vs h
quant_says quant.Exists os vs h = any_say os vs h
quant_says quant.Count os vs h = λ w e. let one : amount (length os) ≡ w = cc e in ap amount (sym (lengths os vs h)) ∙ one
quant_says quant.For os vs h = go (nat_le 2 (length os))
  where
    go : (b : Bool) → Says (cond b None (option_map first_value (gathered os))) (first_value vs)
    go true w e = absurd (cc e)
    go false w e = map_says first_value (gathered os) vs (gathered_say os vs h) w e
quant_says q os vs h = map_says (quant_of q) (gathered os) vs (gathered_say os vs h)

-- functions over time
module _ (x : ℕ → Option Value) (y : ℕ → Value) (h : (d : ℕ) → Says (x d) (y d)) where
  pub date_says : (o : Option Value) (v : Value) → Says o v → Says (option_and_then (on_date_seen x) o) (value_at y v)
  date_says None v says w e = absurd (cc e)
  date_says (Some u) v says w e = ap (value_at y) (says u refl) ∙ on u w e
    where
      inside : (b : Bool) (s : ℕ) → Says (cond b (x s) (Some Uncertain)) (cond b (y s) Uncertain)
      inside true s w e = h s w e
      inside false s w e = cc e

      on : (u : Value) → Says (on_date_seen x u) (value_at y u)
      on (Day s) w e = inside (nat_lt s DAYS) s w e
      on Unknown w e = cc e
      on Uncertain w e = cc e
      on (Truth b) w e = cc e
      on (Num n) w e = cc e
      on (Words t) w e = cc e

  between_says : (fold : List Value → Value) (u v : Value) → Says (between_seen fold x u v) (in_window fold y u v)
  between_says fold (Day s) (Day t) = inside (nat_lt s DAYS && nat_lt t DAYS)
    where
      inside : (b : Bool) → Says (cond b (option_map fold (gathered (over_days x s t))) (Some Uncertain)) (cond b (fold (over_days y s t)) Uncertain)
      inside true w e = map_says fold (gathered (over_days x s t)) (over_days y s t) (gathered_say _ _ (map_say x y h (days s (t - s)))) w e
      inside false w e = cc e
  between_says fold _ _ = λ w e. cc e

  pub span_says : (fold : List Value → Value) (o p : Option Value) (u v : Value) → Says o u → Says p v → Says (span_seen fold x o p) (in_window fold y u v)
  span_says fold None p u v ho hp w e = absurd (cc e)
  span_says fold (Some a) None u v ho hp w e = absurd (cc e)
  span_says fold (Some a) (Some b) u v ho hp w e = ap (λ z. in_window fold y z v) (ho a refl) ∙ ap (λ z. in_window fold y a z) (hp b refl) ∙ between_says fold a b w e

  pub rolling_says : (b : Bool) (n d : ℕ) → Says (rolling_seen b n x d) (rolling b n y d)
  rolling_says true n d = map_says all_of (gathered (last_days n x d)) (last_days n y d) (gathered_say (last_days n x d) (last_days n y d) (map_say x y h (days (d + 1 - n) (d + 1 - (d + 1 - n)))))
  rolling_says false n d = map_says any_of (gathered (last_days n x d)) (last_days n y d) (gathered_say (last_days n x d) (last_days n y d) (map_say x y h (days (d + 1 - n) (d + 1 - (d + 1 - n)))))
