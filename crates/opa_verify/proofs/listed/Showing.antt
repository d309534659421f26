-- Where what a tree uses is listed, its value is seen: of things one by one.
use Rattle.std.proofs.Common.{◌≡◌, ℕ, ◌+◌, ◌-◌, List, [], ◌∷◌, Bool, true, false, cond, Option, None, Some, refl, sym, ◌∙◌, ap, subst, length}
use Rattle.std.specs.Prelude.{map, find, flat_map, nat_lt, nat_le, ◌&&◌, ◌||◌}
use Rattle.std.specs.List.{list_any, AllByRecursion}
use Rattle.std.specs.Option.{option_map}
use Rattle.opa_io.proofs.Bools.{or_true}
use Rattle.opa_io.proofs.Lists.{length_map}
use Rattle.opa_date.specs.declared.TheConstants.{DAYS}
use Rattle.opa_value.specs.declared.value.Value.{Value}
use Rattle.opa_value.specs.declared.value.Value.TheVariants.{Unknown, Uncertain, Bool as Truth, Num, Words, Day}
use Rattle.opa_value.specs.Truth.{is_true, is_false, all_of, any_of, unless_open}
use Rattle.opa_tree.specs.declared.kinds.Quant.{Quant}
use Rattle.opa_tree.specs.declared.kinds.Quant.TheVariants as quant
use Rattle.opa_window.specs.Days.{days}
use Rattle.opa_window.specs.Windows.{value_at, in_window}
use Rattle.opa_mean.specs.Meaning.{choose, quant_of, first_value, amount, rolling}
use Rattle.opa_mean.specs.Uses.{Use, found_or, first_or_all, member_uses, on_date_uses, in_window_uses, last_days_uses, after_cond}
use Rattle.opa_mean.proofs.Everywhere.{all_parts}
use Rattle.opa_verify.specs.Listed.Ones.{is_for}
use Rattle.opa_verify.specs.Listed.Seen.{gathered, is_seen, chosen, quant_seen, on_date_seen, between_seen, rolling_seen}

-- where nothing is missing
pub gathered_whole : {X : Type 0} (vs : List X) → gathered (map Some vs) ≡ Some vs
gathered_whole [] = refl
gathered_whole (v ∷ vs) = ap (option_map (λ xs. v ∷ xs)) (gathered_whole vs)

seen_whole : (p : Value → Bool) (vs : List Value) → list_any (is_seen p) (map Some vs) ≡ list_any p vs
seen_whole p [] = refl
seen_whole p (v ∷ vs) = ap (λ b. p v || b) (seen_whole p vs)

decided_whole : (p : Value → Bool) (a b : Value) (vs : List Value)
    → cond (list_any (is_seen p) (map Some vs)) (Some a) (option_map (λ ws. cond (list_any p ws) a (unless_open ws b)) (gathered (map Some vs))) ≡ Some (cond (list_any p vs) a (unless_open vs b))
decided_whole p a b vs =
    ap (λ t. cond t (Some a) (option_map (λ ws. cond (list_any p ws) a (unless_open ws b)) (gathered (map Some vs)))) (seen_whole p vs)
    ∙ ap (λ o. cond (list_any p vs) (Some a) (option_map (λ ws. cond (list_any p ws) a (unless_open ws b)) o)) (gathered_whole vs)
    ∙ go (list_any p vs) refl
  where
    go : (t : Bool) → list_any p vs ≡ t → cond t (Some a) (Some (cond (list_any p vs) a (unless_open vs b))) ≡ Some (cond (list_any p vs) a (unless_open vs b))
    go true e = ap (λ t. Some (cond t a (unless_open vs b))) (sym e)
    go false e = refl

pub map_whole : {X Y : Type 0} (f : List X → Y) (vs : List X) → option_map f (gathered (map Some vs)) ≡ Some (f vs)
map_whole f vs = ap (option_map f) (gathered_whole vs)

module _ (P : Use → Type 0) where
  abbrev pub AllPass : List Use → Type 0
  AllPass us = AllByRecursion P us

  -- the values of a list of things, each of which is seen where its uses pass
  module _ {X : Type 0} (Q : X → Type 0) (f : X → Option Value) (g : X → Value) (u : X → List Use) (shown : (x : X) → Q x → AllPass (u x) → f x ≡ Some (g x)) where
    pub all_shown : (xs : List X) → AllByRecursion Q xs → AllPass (flat_map u xs) → map f xs ≡ map Some (map g xs)
    all_shown [] q h = refl
    all_shown (x ∷ xs) q h = let both = all_parts P (u x) (flat_map u xs) h in ap (λ o. o ∷ map f xs) (shown x q.0 both.0) ∙ ap (λ os. Some (g x) ∷ os) (all_shown xs q.1 both.1)

    found_shown : (p : Value → Bool) (xs : List X) → AllByRecursion Q xs → (y : X) → find (λ x. p (g x)) xs ≡ Some y → AllPass (u y) → (list_any (is_seen p) (map f xs) ≡ true) × (list_any p (map g xs) ≡ true)
    found_shown p [] qs y e h = absurd (cc e)
    found_shown p (x ∷ xs) qs y e h = go (p (g x)) refl (λ e'. found_shown p xs qs.1 y e' h)
      where
        go : (b : Bool) → p (g x) ≡ b → (find (λ x. p (g x)) xs ≡ Some y → (list_any (is_seen p) (map f xs) ≡ true) × (list_any p (map g xs) ≡ true)) → (list_any (is_seen p) (map f (x ∷ xs)) ≡ true) × (list_any p (map g (x ∷ xs)) ≡ true)
        go true q rest =
            let one : x ≡ y = cc (e, ap (λ b. cond b (Some x) (find (λ x. p (g x)) xs)) q) in
            let here : f x ≡ Some (g x) = shown x qs.0 (subst (λ z. AllPass (u z)) (sym one) h) in
            (ap (λ o. is_seen p o || list_any (is_seen p) (map f xs)) here ∙ ap (λ b. b || list_any (is_seen p) (map f xs)) q, ap (λ b. b || list_any p (map g xs)) q)
        go false q rest = let both = rest (sym (ap (λ b. cond b (Some x) (find (λ x. p (g x)) xs)) q) ∙ e) in
            (ap (λ b. is_seen p (f x) || b) both.0 ∙ or_true (is_seen p (f x)), ap (λ b. p (g x) || b) both.1 ∙ or_true (p (g x)))

    -- a truth table that one value decides
    pub decided_shown : (p : Value → Bool) (a b : Value) (xs : List X) → AllByRecursion Q xs → AllPass (first_or_all (λ x. p (g x)) u xs)
        → cond (list_any (is_seen p) (map f xs)) (Some a) (option_map (λ ws. cond (list_any p ws) a (unless_open ws b)) (gathered (map f xs))) ≡ Some (cond (list_any p (map g xs)) a (unless_open (map g xs) b))
    decided_shown p a b xs qs h = go (find (λ x. p (g x)) xs) refl h
      where
        go : (o : Option X) → find (λ x. p (g x)) xs ≡ o → AllPass (found_or o u (flat_map u xs))
            → cond (list_any (is_seen p) (map f xs)) (Some a) (option_map (λ ws. cond (list_any p ws) a (unless_open ws b)) (gathered (map f xs))) ≡ Some (cond (list_any p (map g xs)) a (unless_open (map g xs) b))
        go None e h' = ap (λ os. cond (list_any (is_seen p) os) (Some a) (option_map (λ ws. cond (list_any p ws) a (unless_open ws b)) (gathered os))) (all_shown xs qs h') ∙ decided_whole p a b (map g xs)
        go (Some y) e h' = let both = found_shown p xs qs y e h' in
            ap (λ t. cond t (Some a) (option_map (λ ws. cond (list_any p ws) a (unless_open ws b)) (gathered (map f xs)))) both.0 ∙ sym (ap (λ t. Some (cond t a (unless_open (map g xs) b))) both.1)

  -- what a quantifier makes of its members, of which one alone is the only one
  pub quant_shown : (Q : List ℕ → Type 0) (f : List ℕ → Option Value) (g : List ℕ → Value) (u : List ℕ → List Use) → ((n : List ℕ) → Q n → AllPass (u n) → f n ≡ Some (g n)) → (q : Quant) (names : List (List ℕ)) → AllByRecursion Q names
      → (is_for q ≡ true → nat_le 2 (length names) ≡ false) → AllPass (member_uses q g u names) → quant_seen q (map f names) ≡ Some (quant_of q (map g names))
  quant_shown Q f g u shown quant.ForAll names qs few h = decided_shown Q f g u shown is_false (Truth false) (Truth true) names qs h
  quant_shown Q f g u shown quant.Exists names qs few h = decided_shown Q f g u shown is_true (Truth true) (Truth false) names qs h
  quant_shown Q f g u shown quant.Count names qs few h = ap (λ n. Some (amount n)) (length_map f names ∙ sym (length_map g names))
  quant_shown Q f g u shown quant.For names qs few h =
      ap (λ n. cond (nat_le 2 n) None (option_map first_value (gathered (map f names)))) (length_map f names)
      ∙ ap (λ b. cond b None (option_map first_value (gathered (map f names)))) (few refl)
      ∙ ap (λ os. option_map first_value (gathered os)) (all_shown Q f g u shown names qs h) ∙ map_whole first_value (map g names)
  quant_shown Q f g u shown q names qs few h = ap (λ os. option_map (quant_of q) (gathered os)) (all_shown Q f g u shown names qs h) ∙ map_whole (quant_of q) (map g names)

  -- what a condition takes
  pub chosen_shown : (v : Value) {o p : Option Value} {x y : Value} (us vs : List Use) → AllPass (after_cond v us vs) → (AllPass us → o ≡ Some x) → (AllPass vs → p ≡ Some y) → chosen (Some v) o p ≡ Some (choose v x y)
  chosen_shown (Truth true) us vs h f g = f h
  chosen_shown (Truth false) us vs h f g = g h
  chosen_shown Unknown us vs h f g = refl
  chosen_shown Uncertain us vs h f g = refl
  chosen_shown (Num n) us vs h f g = refl
  chosen_shown (Words t) us vs h f g = refl
  chosen_shown (Day k) us vs h f g = refl

  -- a number whose test is true
  pub tested_shown : (v : Value) {o : Option Value} {x : Value} (y : Value) (us : List Use) → AllPass (cond (is_true v) us []) → (AllPass us → o ≡ Some x) → chosen (Some v) o (Some y) ≡ Some (choose v x y)
  tested_shown (Truth true) y us h f = f h
  tested_shown (Truth false) y us h f = refl
  tested_shown Unknown y us h f = refl
  tested_shown Uncertain y us h f = refl
  tested_shown (Num n) y us h f = refl
  tested_shown (Words t) y us h f = refl
  tested_shown (Day k) y us h f = refl

  -- functions over time
  when_in : (b : Bool) {o : Option Value} {v : Value} (us : List Use) → (AllPass us → o ≡ Some v) → AllPass (cond b us []) → cond b o (Some Uncertain) ≡ Some (cond b v Uncertain)
  when_in true us h a = h a
  when_in false us h a = refl

  module _ (x : ℕ → Option Value) (y : ℕ → Value) (u : ℕ → List Use) (h : (d : ℕ) → AllPass (u d) → x d ≡ Some (y d)) where
    abbrev Any_day : ℕ → Type 0
    Any_day d = Unit {0}

    any_days : (ds : List ℕ) → AllByRecursion Any_day ds
    any_days [] = tt
    any_days (d ∷ ds) = (tt, any_days ds)

    days_shown : (ds : List ℕ) → AllPass (flat_map u ds) → map x ds ≡ map Some (map y ds)
    days_shown ds a = all_shown Any_day x y u (λ d _. h d) ds (any_days ds) a

    days_make : (fold : List Value → Value) (ds : List ℕ) → AllPass (flat_map u ds) → option_map fold (gathered (map x ds)) ≡ Some (fold (map y ds))
    days_make fold ds a = ap (λ os. option_map fold (gathered os)) (days_shown ds a) ∙ map_whole fold (map y ds)

    pub date_shown : (v : Value) → AllPass (on_date_uses u v) → on_date_seen x v ≡ Some (value_at y v)
    date_shown (Day k) a = when_in (nat_lt k DAYS) (u k) (h k) a
    date_shown Unknown a = refl
    date_shown Uncertain a = refl
    date_shown (Truth b) a = refl
    date_shown (Num n) a = refl
    date_shown (Words t) a = refl

    pub between_shown : (fold : List Value → Value) (v w : Value) → AllPass (in_window_uses u v w) → between_seen fold x v w ≡ Some (in_window fold y v w)
    between_shown fold (Day k) (Day m) a = when_in (nat_lt k DAYS && nat_lt m DAYS) (flat_map u (days k (m - k))) (days_make fold (days k (m - k))) a
    between_shown fold _ _ a = refl

    pub rolling_shown : (b : Bool) (n d : ℕ) → AllPass (last_days_uses n u d) → rolling_seen b n x d ≡ Some (rolling b n y d)
    rolling_shown true n d a = days_make all_of (days (d + 1 - n) (d + 1 - (d + 1 - n))) a
    rolling_shown false n d a = days_make any_of (days (d + 1 - n) (d + 1 - (d + 1 - n))) a
