-- The first place of a text among texts.
use Rattle.std.proofs.Common.{◌≡◌, ◌↔◌, ◌+◌, ◌<◌, ℕ, suc, Bool, true, false, not, cond, nat_lt, List, [], ◌∷◌, ◌++◌, map, length, position, Option, Some, None, IfSome, IsNone, ◌||◌, slice_get, slice_index_or, take, Contains, AllPairs, ◌≢◌, refl, sym, ap, ap₂, ◌∙◌, subst, arith}
use Rattle.std.specs.Prelude.{if◌then◌else◌}
use Rattle.opa_model.specs.Phrases.{is_declared, Declares}
use Rattle.std.proofs.lemmas.List.{length-map, map-append, length-append, length-take, take-map, get_or-take, get_or-map, get_or_append_left}
use Rattle.std.proofs.lemmas.Bool.{ltb-false}
use Rattle.std.specs.Str.{bytes_eq}
use Rattle.std.specs.List.{prefix_len, position_or_len, list_any}
use Rattle.std.proofs.lemmas.List.Quantifiers.{position-Some}
use Rattle.std.proofs.lemmas.List.Sums.{fails_before_first}
use Rattle.std.proofs.lemmas.Option.{slice_get-get_or}
use Rattle.opa_io.proofs.Characters.{same_bytes, own_bytes}

module _ {X Y : Type 0} (p : Y → Bool) (f : X → Y) where
  prefix_len-map : (xs : List X) → prefix_len (λ x. not (p (f x))) xs ≡ prefix_len (λ y. not (p y)) (map f xs)
  prefix_len-map [] = refl
  prefix_len-map (x ∷ xs) = ap (λ n. cond (not (p (f x))) (1 + n) 0) (prefix_len-map xs)

  -- a place is the same after a map
  pub position-map : (xs : List X) → position (λ x. p (f x)) xs ≡ position p (map f xs)
  position-map xs =
      ap₂ (λ i n. cond (nat_lt i n) (Some i) None) (prefix_len-map xs) (sym (length-map xs f))

-- the text stands at its place
pub position-found : (t : List ℕ) (ps : List (List ℕ)) (r : Option ℕ) → r ≡ position (bytes_eq t) ps → IfSome r (λ i. slice_get ps i ≡ Some t)
position-found t ps None e = tt
position-found t ps (Some i) e =
    let (within, passes, first) = position-Some (bytes_eq t) ps i [] (sym e) in
    rw (same_bytes t _ passes) (slice_get-get_or ps i [] within)

-- no place is below the length exactly where no text is this one
nowhere : (t : List ℕ) (ps : List (List ℕ)) → position (bytes_eq t) ps ≡ None → ¬ (Contains ps t)
nowhere t ps none (k, within, is) =
    by (nat_lt (position_or_len (bytes_eq t) ps) (length ps)) refl none
  where
    by : (b : Bool) → nat_lt (position_or_len (bytes_eq t) ps) (length ps) ≡ b → cond b (Some (position_or_len (bytes_eq t) ps)) None ≡ None → ⊥
    by true e q = cc q
    by false e q =
        let past : k < position_or_len (bytes_eq t) ps = omega (arith, ltb-false _ _ e, within) in
        let differs = fails_before_first (bytes_eq t) ps k t past in
        cc (sym (own_bytes t) ∙ ap (bytes_eq t) (sym is) ∙ differs)

pub position-none : (t : List ℕ) (ps : List (List ℕ)) (r : Option ℕ) → r ≡ position (bytes_eq t) ps → IsNone r ↔ ¬ (Contains ps t)
position-none t ps None e = (λ _. nowhere t ps (sym e), λ _. refl)
position-none t ps (Some i) e =
    let (within, passes, first) = position-Some (bytes_eq t) ps i t (sym e) in
    (λ h. cc h, λ missing. absurd (missing (i, within, sym (same_bytes t _ passes))))

-- a text that none of these is
module _ {X : Type 0} (f : X → List ℕ) (t : List ℕ) where
  pub absent : (xs : List X) → ¬ (Contains (map f xs) t) → list_any (λ x. bytes_eq t (f x)) xs ≡ false
  absent [] missing = refl
  absent (x ∷ xs) missing =
      by (bytes_eq t (f x)) refl (absent xs (λ there. missing (suc there.0, omega (arith, there.1), there.2)))
    where
      by : (b : Bool) → bytes_eq t (f x) ≡ b → list_any (λ y. bytes_eq t (f y)) xs ≡ false → (b || list_any (λ y. bytes_eq t (f y)) xs) ≡ false
      by true e rest = absurd (missing (0, omega arith, sym (same_bytes t (f x) e)))
      by false e rest = rest

list_any-map : {X : Type 0} (f : X → List ℕ) (p : List ℕ → Bool) (xs : List X) → list_any (λ x. p (f x)) xs ≡ list_any p (map f xs)
list_any-map f p [] = refl
list_any-map f p (x ∷ xs) = ap (λ b. p (f x) || b) (list_any-map f p xs)

map-if : {X : Type 0} (f : X → List ℕ) (b : Bool) (xs : List X) (k : X) → map f (if b then xs else xs ++ k ∷ []) ≡ (if b then map f xs else map f xs ++ f k ∷ [])
map-if f true xs k = refl
map-if f false xs k = map-append f xs (k ∷ [])

-- a key that was put into a set
pub declares_in : {X : Type 0} (f : X → List ℕ) (keys keys' : List X) (k : X) (old : List (List ℕ)) (is_new : Bool) → map f keys ≡ old
    → is_new ≡ not (list_any (λ x. bytes_eq (f k) (f x)) keys) → keys' ≡ (if list_any (λ x. bytes_eq (f k) (f x)) keys then keys else keys ++ k ∷ []) → Declares old (map f keys') (f k) is_new
declares_in f keys keys' k old is_new is new_is keys_is =
    let found : list_any (λ x. bytes_eq (f k) (f x)) keys ≡ is_declared old (f k) = list_any-map f (bytes_eq (f k)) keys ∙ ap (list_any (bytes_eq (f k))) is in
    record {
      is_new_is = new_is ∙ ap not found;
      new_is = ap (map f) keys_is ∙ map-if f (list_any (λ x. bytes_eq (f k) (f x)) keys) keys k ∙ ap (λ b. if b then map f keys else map f keys ++ f k ∷ []) found ∙ ap (λ xs. if is_declared old (f k) then xs else xs ++ f k ∷ []) is;
    }

map-same : (ps : List (List ℕ)) → map (λ p. p) ps ≡ ps
map-same [] = refl
map-same (p ∷ ps) = ap (λ qs. p ∷ qs) (map-same ps)

-- a phrase that isn't declared yet goes last
pub declares_last : (old new : List (List ℕ)) (phrase t : List ℕ) (is_new : Bool) → t ≡ phrase → ¬ (Contains old phrase) → Declares old new t is_new → new ≡ old ++ phrase ∷ []
declares_last old new phrase t is_new same missing d =
    let found : is_declared old phrase ≡ false = absent (λ p. p) phrase old (λ there. missing (subst (λ (ps : List (List ℕ)). Contains ps phrase) (map-same old) there)) in
    d.new_is ∙ ap (λ x. if is_declared old x then old else old ++ x ∷ []) same ∙ ap (λ b. if b then old else old ++ phrase ∷ []) found

-- of phrases that all differ, the next one isn't among those before it
pub new_phrase : {X : Type 0} (f : X → List ℕ) (xs : List X) (i : ℕ) (x : X) → AllPairs (λ p q. p ≢ q) (map f xs) → i < length xs → x ≡ slice_index_or xs i x → ¬ (Contains (map f (take i xs)) (f x))
new_phrase f xs i x differ within is (k, below, same) =
    let before : k < i = omega (arith, length-map (take i xs) f, length-take i xs, below) in
    let kth : slice_index_or (map f (take i xs)) k (f x) ≡ slice_index_or (map f xs) k (f x) = ap (λ ys. slice_index_or ys k (f x)) (sym (take-map f i xs)) ∙ get_or-take i (map f xs) k (f x) before in
    let ith : slice_index_or (map f xs) i (f x) ≡ f x = get_or-map f xs i x (f x) within ∙ ap f (sym is) in
    differ k i (f x) before (omega (arith, length-map xs f, within)) (sym kth ∙ same ∙ sym ith)

-- what holds of all pairs of a list holds of those of its parts
pub pairs_left : {X : Type 0} (R : X → X → Type 0) (xs ys : List X) → AllPairs R (xs ++ ys) → AllPairs R xs
pairs_left R xs ys all i j d lt within =
    let both : R (slice_index_or (xs ++ ys) i d) (slice_index_or (xs ++ ys) j d) = all i j d lt (omega (arith, length-append xs ys, within)) in
    subst (λ x. R (slice_index_or xs i d) x) (get_or_append_left xs ys d j within) (subst (λ x. R x (slice_index_or (xs ++ ys) j d)) (get_or_append_left xs ys d i (omega arith)) both)

pub pairs_right : {X : Type 0} (R : X → X → Type 0) (xs ys : List X) → AllPairs R (xs ++ ys) → AllPairs R ys
pairs_right R [] ys all = all
pairs_right R (x ∷ xs) ys all = pairs_right R xs ys (λ i j d lt within. all (suc i) (suc j) d (omega arith) (omega (arith, within)))
