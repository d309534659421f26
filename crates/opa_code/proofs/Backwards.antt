-- Nodes that are gathered from the last to the first.
use Rattle.std.proofs.Common.{◌≡◌, ℕ, zero, suc, ◌+◌, ◌-◌, ◌<◌, ◌≤◌, List, [], ◌∷◌, ◌++◌, length, drop, map, reverse, replicate, get_or, refl, sym, ◌∙◌, ap, arith}
use Rattle.std.specs.Prelude.{flat_map}
use Rattle.std.proofs.lemmas.List.{append_assoc, length-append, length-replicate, reverse-append}
use Rattle.opa_code.specs.Codes.{deciding, leaving, chosen_rows}
use Rattle.opa_code.specs.declared.node.Decider.{Decider}
use Rattle.opa_code.specs.declared.node.Decider.TheVariants.{Chosen}
use Rattle.opa_code.specs.declared.node.Node.{Node}
use Rattle.opa_code.specs.declared.node.Node.TheVariants as node

-- what is added at the end stands first
pub pushed : (old new : List Node) (n : Node) → new ≡ old ++ n ∷ [] → reverse new ≡ n ∷ reverse old
pushed old new n e = ap reverse e ∙ reverse-append old (n ∷ [])

-- a node behind those of its parts
pub one_behind : (ns whole : List Node) (n : Node) (mid base new : List Node) → whole ≡ ns ++ n ∷ [] → mid ≡ n ∷ base → new ≡ ns ++ mid → new ≡ whole ++ base
one_behind ns whole n mid base new whole_is mid_is new_is = new_is ∙ ap (λ ys. ns ++ ys) mid_is ∙ sym (append_assoc ns (n ∷ []) base) ∙ ap (λ ys. ys ++ base) (sym whole_is)

deciding_more : (how : Decider) (dropped count : ℕ) (ns rest tail : List Node) → count ≡ length rest → ns ++ (node.Leave how dropped count ∷ (rest ++ tail)) ≡ deciding how dropped ns rest ++ tail
deciding_more how dropped count ns rest tail e = ap (λ k. ns ++ (node.Leave how dropped k ∷ (rest ++ tail))) e ∙ sym (append_assoc ns (node.Leave how dropped (length rest) ∷ rest) tail)

module _ {X : Type 0} where
  drop_here : (d : X) (xs : List X) (k : ℕ) → k < length xs → drop k xs ≡ get_or xs k d ∷ drop (suc k) xs
  drop_here d [] k h = absurd (omega (arith, h))
  drop_here d (x ∷ xs) zero h = refl
  drop_here d (x ∷ xs) (suc k) h = drop_here d xs k (omega (arith, h))

  pub all_dropped : (xs : List X) → drop (length xs) xs ≡ []
  all_dropped [] = refl
  all_dropped (x ∷ xs) = all_dropped xs

  -- one more from the end on
  more_dropped : (d : X) (xs : List X) (j k : ℕ) (x : X) → k + 1 ≡ j → j ≤ length xs → x ≡ get_or xs k d → drop k xs ≡ x ∷ drop j xs
  more_dropped d xs j k x next within is =
      drop_here d xs k (omega (arith, next, within)) ∙ ap (λ y. y ∷ drop (suc k) xs) (sym is) ∙ ap (λ i. x ∷ drop i xs) (let i : suc k ≡ j = omega (arith, next) in i)

  pub all_more : (f : X → List Node) (d : X) (xs : List X) (j k : ℕ) (x : X) (old new base : List Node) → k + 1 ≡ j → j ≤ length xs → x ≡ get_or xs k d
      → old ≡ flat_map f (drop j xs) ++ base → new ≡ f x ++ old → new ≡ flat_map f (drop k xs) ++ base
  all_more f d xs j k x old new base next within is old_is new_is =
      new_is ∙ ap (λ ys. f x ++ ys) old_is ∙ sym (append_assoc (f x) (flat_map f (drop j xs)) base) ∙ ap (λ ys. flat_map f ys ++ base) (sym (more_dropped d xs j k x next within is))

  pub leaving_more : (f : X → List Node) (how : Decider) (d : X) (xs : List X) (j k count : ℕ) (x : X) (behind below old new : List Node) → k + 1 ≡ j → j ≤ length xs → x ≡ get_or xs k d
      → old ≡ leaving how j (map f (drop j xs)) behind ++ below → count ≡ length old - length below → new ≡ f x ++ (node.Leave how k count ∷ old) → new ≡ leaving how k (map f (drop k xs)) behind ++ below
  leaving_more f how d xs j k count x behind below old new next within is old_is count_is new_is =
      let rest = leaving how j (map f (drop j xs)) behind in
      let counted : count ≡ length rest = (let a = ap length old_is ∙ length-append rest below in omega (arith, a, count_is)) in
      let i : j ≡ suc k = omega (arith, next) in
      new_is ∙ ap (λ ys. f x ++ (node.Leave how k count ∷ ys)) old_is ∙ deciding_more how k count (f x) rest below counted
      ∙ ap (λ m. deciding how k (f x) (leaving how m (map f (drop j xs)) behind) ++ below) i
      ∙ ap (λ ys. leaving how k (map f ys) behind ++ below) (sym (more_dropped d xs j k x next within is))

  pub rows_more : (f : X → List Node) (d : X) (xs : List X) (j k count : ℕ) (x : X) (last below old new : List Node) → k + 1 ≡ j → j ≤ length xs → x ≡ get_or xs k d
      → old ≡ chosen_rows (map f (drop j xs)) last ++ (replicate j node.Choose ++ below) → count ≡ (length old - length below) - k → new ≡ f x ++ (node.Leave Chosen 1 count ∷ old)
      → new ≡ chosen_rows (map f (drop k xs)) last ++ (replicate k node.Choose ++ below)
  rows_more f d xs j k count x last below old new next within is old_is count_is new_is =
      let others = chosen_rows (map f (drop j xs)) last in
      let tail = replicate k node.Choose ++ below in
      let i : j ≡ suc k = omega (arith, next) in
      let shaped : old ≡ (others ++ node.Choose ∷ []) ++ tail = old_is ∙ ap (λ m. others ++ (replicate m node.Choose ++ below)) i ∙ sym (append_assoc others (node.Choose ∷ []) tail) in
      let counted : count ≡ length (others ++ node.Choose ∷ []) = (let a = ap length shaped ∙ length-append (others ++ node.Choose ∷ []) tail in let b = length-append (replicate k node.Choose) below in let c = length-replicate k node.Choose in omega (arith, a, b, c, count_is)) in
      new_is ∙ ap (λ ys. f x ++ (node.Leave Chosen 1 count ∷ ys)) shaped ∙ deciding_more Chosen 1 count (f x) (others ++ node.Choose ∷ []) tail counted
      ∙ ap (λ ys. chosen_rows (map f ys) last ++ tail) (sym (more_dropped d xs j k x next within is))
