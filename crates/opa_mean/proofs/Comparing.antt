-- Trees that look at the same among two lists of enclosing instances.
use Rattle.std.proofs.Common.{◌≡◌, ◌≢◌, ◌⊎◌, inl, inr, ℕ, zero, suc, ◌<◌, ◌+◌, Bool, true, false, cond, eqb, List, [], ◌∷◌, ◌++◌, length, take, get_or, Option, None, Some, refl, sym, ◌∙◌, ap, arith}
use Rattle.std.specs.Prelude.{find, flat_map}
use Rattle.std.specs.List.{Contains}
use Rattle.std.specs.Option.{option_map_or}
use Rattle.std.proofs.lemmas.Bool.{eq-eqb}
use Rattle.std.proofs.lemmas.Bool.Decides.{eqb_tells}
use Rattle.std.proofs.lemmas.List.{take_more, append-nil}
use Rattle.std.proofs.lemmas.Grind.{flat_map-append}
use Rattle.std.proofs.lemmas.List.Elements.{Contains-push_cases, Contains-append_left}
use Rattle.opa_cells.specs.Instances.{named}
use Rattle.opa_cells.specs.declared.instance.InstanceId.{InstanceId}
use Rattle.opa_model.specs.declared.ids.RelId.{RelId}
use Rattle.opa_case.specs.Live.{Lists}
use Rattle.opa_case.specs.Shapes.{Shape}
use Rattle.opa_case.specs.declared.question.Question.{Question}
use Rattle.opa_case.specs.declared.question.Question.TheVariants as question
use Rattle.opa_tree.specs.declared.expr.Expr.{Expr}
use Rattle.opa_mean.specs.Gathering.{names_reads, inst_reads, over_reads, Follows, AreAlike}
use Rattle.opa_mean.specs.Places.{place, chain, climb, is_of}
use Rattle.opa_mean.specs.Reads.{Reads, at_place_reads, listed_reads, trees_reads}

-- what several things look at, those before a next one and that
pub split_next : {X : Type 0} (of : X → Reads) (xs : List X) (i : ℕ) (x : X) → i < length xs → x ≡ get_or xs i x → (g : List InstanceId) → flat_map (λ y. of y g) (take (i + 1) xs) ≡ flat_map (λ y. of y g) (take i xs) ++ of x g
split_next of xs i x lt is g =
    ap (flat_map (λ y. of y g)) (take_more xs i x lt ∙ ap (λ y. take i xs ++ y ∷ []) (sym is)) ∙ flat_map-append (λ y. of y g) (take i xs) (x ∷ []) ∙ ap (λ qs. flat_map (λ y. of y g) (take i xs) ++ qs) (append-nil (of x g))

-- behind the same instances the first one is the same
find_behind : (p : InstanceId → Bool) (xs ys zs : List InstanceId) → find p ys ≡ find p zs → find p (xs ++ ys) ≡ find p (xs ++ zs)
find_behind p [] ys zs h = h
find_behind p (x ∷ xs) ys zs h = ap (λ r. cond (p x) (Some x) r) (find_behind p xs ys zs h)

module _ (up : InstanceId → Option InstanceId) where
  climb_first : (n : ℕ) (i : InstanceId) (o : ℕ) (more : List InstanceId) → is_of o i ≡ true → find (is_of o) (climb up n i ++ more) ≡ Some i
  climb_first zero i o more is = ap (λ b. cond b (Some i) (find (is_of o) more)) is
  climb_first (suc n) i o more is = ap (λ b. cond b (Some i) (find (is_of o) (option_map_or (climb up n) (up i) [] ++ more))) is

  place_first : (i : InstanceId) (e : List InstanceId) (o : ℕ) → is_of o i ≡ true → place up (i ∷ e) o ≡ Some i
  place_first i e o is = climb_first i.entity.0 i o (flat_map (chain up) e) is

  -- the listed instance is the place of its entity, and behind it others stay the same
  place_listed : (target : ℕ) (name : List ℕ) (e f : List InstanceId) (o : ℕ) → ((o ≡ target → ⊥) → place up e o ≡ place up f o) → place up (named target name ∷ e) o ≡ place up (named target name ∷ f) o
  place_listed target name e f o h = go (eqb_tells o target)
    where
      go : ((eqb o target ≡ true) × (o ≡ target)) ⊎ ((eqb o target ≡ false) × (o ≢ target)) → place up (named target name ∷ e) o ≡ place up (named target name ∷ f) o
      go (inl is) = let here = eq-eqb target o (sym is.1) in place_first (named target name) e o here ∙ sym (place_first (named target name) f o here)
      go (inr not) = find_behind (is_of o) (chain up (named target name)) (flat_map (chain up) e) (flat_map (chain up) f) (h not.1)

  pub follows_itself : (e f : List InstanceId) → Follows up [] e f e f
  follows_itself e f o (inl has) = let few : has.0 < 0 = has.1 in absurd (omega (arith, few))
  follows_itself e f o (inr same) = same

  follows_listed : (bound : List ℕ) (target : ℕ) (name : List ℕ) (e f e' f' : List InstanceId) → Follows up bound e f e' f' → Follows up (bound ++ target ∷ []) e f (named target name ∷ e') (named target name ∷ f')
  follows_listed bound target name e f e' f' follows o one = place_listed target name e' f' o (λ other. follows o (before other one))
    where
      past : (o ≡ target → ⊥) → Contains bound o ⊎ (target ≡ o) → Contains bound o ⊎ (place up e o ≡ place up f o)
      past other (inl has) = inl has
      past other (inr is) = absurd (other (sym is))

      before : (o ≡ target → ⊥) → Contains (bound ++ target ∷ []) o ⊎ (place up e o ≡ place up f o) → Contains bound o ⊎ (place up e o ≡ place up f o)
      before other (inl has) = past other (Contains-push_cases bound target o has)
      before other (inr same) = inr same

  module _ (bound : List ℕ) (e f : List InstanceId) where
    -- of nothing, and of one thing after another
    pub alike_none : AreAlike up (λ g. []) bound e f
    alike_none e' f' follows = refl

    pub alike_both : (first second : Reads) → AreAlike up first bound e f → AreAlike up second bound e f → AreAlike up (λ g. first g ++ second g) bound e f
    alike_both first second one other e' f' follows = ap (λ qs. qs ++ second e') (one e' f' follows) ∙ ap (λ qs. first f' ++ qs) (other e' f' follows)

    -- of several things, those before a next one and that
    pub alike_next : {X : Type 0} (of : X → Reads) (xs : List X) (i : ℕ) (x : X) → i < length xs → x ≡ get_or xs i x → AreAlike up (λ g. flat_map (λ y. of y g) (take i xs)) bound e f → AreAlike up (of x) bound e f
        → AreAlike up (λ g. flat_map (λ y. of y g) (take (i + 1) xs)) bound e f
    alike_next of xs i x lt is before here e' f' follows =
        split_next of xs i x lt is e' ∙ ap (λ qs. qs ++ of x e') (before e' f' follows) ∙ ap (λ qs. flat_map (λ y. of y f') (take i xs) ++ qs) (here e' f' follows) ∙ sym (split_next of xs i x lt is f')

    -- the same where more entities have one place
    pub alike_more : (reads : Reads) (more : List ℕ) → AreAlike up reads bound e f → AreAlike up reads (bound ++ more) e f
    alike_more reads more alike e' f' follows = alike e' f' (λ o one. follows o (wider o one))
      where
        wider : (o : ℕ) → Contains bound o ⊎ (place up e o ≡ place up f o) → Contains (bound ++ more) o ⊎ (place up e o ≡ place up f o)
        wider o (inl has) = inl (Contains-append_left bound more o has)
        wider o (inr same) = inr same

    -- at a place that is the same
    pub alike_place : (o : ℕ) (at : InstanceId → List Question) → Contains bound o ⊎ (place up e o ≡ place up f o) → AreAlike up (λ g. at_place_reads (place up g o) at) bound e f
    alike_place o at one e' f' follows = ap (λ p. at_place_reads p at) (follows o one)

    -- for the members of a list at a place that is the same
    pub alike_over : (s : Shape) (members : Lists) (r : RelId) (es : List Expr) → Contains bound (s.source r) ⊎ (place up e (s.source r) ≡ place up f (s.source r))
        → AreAlike up (trees_reads s members up es) (bound ++ s.target r ∷ []) e f → AreAlike up (over_reads s members up r es) bound e f
    alike_over s members r es one inner e' f' follows = ap (λ p. at_place_reads p (λ i. inst_reads s members up r es i e')) (follows (s.source r) one) ∙ at (place up f' (s.source r))
      where
        each : (names : List (List ℕ)) → names_reads s members up (s.target r) es names e' ≡ names_reads s members up (s.target r) es names f'
        each [] = refl
        each (n ∷ names) =
            ap (λ qs. qs ++ names_reads s members up (s.target r) es names e') (inner (named (s.target r) n ∷ e') (named (s.target r) n ∷ f') (follows_listed bound (s.target r) n e f e' f' follows))
            ∙ ap (λ qs. trees_reads s members up es (named (s.target r) n ∷ f') ++ qs) (each names)

        listed : (o : Option (List (List ℕ))) → listed_reads o (λ n. trees_reads s members up es (named (s.target r) n ∷ e')) ≡ listed_reads o (λ n. trees_reads s members up es (named (s.target r) n ∷ f'))
        listed None = refl
        listed (Some names) = each names

        at : (p : Option InstanceId) → at_place_reads p (λ i. inst_reads s members up r es i e') ≡ at_place_reads p (λ i. inst_reads s members up r es i f')
        at None = refl
        at (Some i) = ap (λ qs. question.Members r i ∷ qs) (listed (members r i))
