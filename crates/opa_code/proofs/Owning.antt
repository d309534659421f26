-- The entities that nodes mention, gathered from one node to the next.
use Rattle.std.proofs.Common.{◌≡◌, ◌⊎◌, inl, inr, ℕ, ◌+◌, ◌<◌, false, List, [], ◌∷◌, ◌++◌, None, Some, length, take, drop, get_or, sym, ◌∙◌, ap, subst, arith}
use Rattle.std.specs.Prelude.{◌==◌}
use Rattle.std.specs.List.{Contains}
use Rattle.std.proofs.lemmas.Bool.{eq-eqb}
use Rattle.std.proofs.lemmas.List.{take_more}
use Rattle.std.proofs.lemmas.List.Elements.{Contains-append_left, Contains-push, Contains-push_cases}
use Rattle.opa_model.specs.declared.ids.AttrId.{AttrId}
use Rattle.opa_model.specs.declared.ids.RelId.{RelId}
use Rattle.opa_tree.specs.declared.kinds.Quant.{Quant}
use Rattle.opa_code.specs.Mentions.{Mentions, of_attribute, of_source, within, behind, later, HasOwners, Adds, AddsOthers, AddsOver, AddsOwn, AddsBehind, AreFound}
use Rattle.opa_code.specs.Steps.{attribute_in, over_at}
use Rattle.opa_code.specs.declared.node.Node.{Node}
use Rattle.opa_code.specs.declared.node.Node.TheVariants as node

pub pushed : (owner : ℕ) (old new : List ℕ) → new ≡ old ++ owner ∷ [] → Adds owner old new
pushed owner old new is = record {
  stay = λ o has. subst (λ xs. Contains xs o) (sym is) (Contains-append_left old (owner ∷ []) o has);
  there = subst (λ xs. Contains xs owner) (sym is) (Contains-push old owner);
}

pub added_own : (n : Node) (b : AttrId) (owner : ℕ) (old new : List ℕ) → attribute_in n ≡ Some (b, owner) → Adds owner old new → AddsOwn n old new
added_own n b owner old new said adds = record {
  stay = adds.stay;
  there = λ a o is. let same : (b, owner) ≡ (a, o) = cc (said, is) in subst (Contains new) (ap (λ (p : AttrId × ℕ). p.1) same) adds.there;
}

pub added_none : (n : Node) (old new : List ℕ) → attribute_in n ≡ None → new ≡ old → AddsOwn n old new
added_none n old new none is = record {
  stay = λ o has. subst (λ xs. Contains xs o) (sym is) has;
  there = λ a o said. absurd (cc (none, said));
}

head_is : (n m : Node) (ns ms : List Node) → n ∷ ns ≡ m ∷ ms → n ≡ m
head_is n m ns ms e = cc e

tail_is : (n m : Node) (ns ms : List Node) → n ∷ ns ≡ m ∷ ms → ns ≡ ms
tail_is n m ns ms e = cc e

pub own_behind : (n : Node) (after rest : List Node) (old new : List ℕ) → over_at n ≡ None → AddsOwn n old new → rest ≡ after → AddsBehind n after old rest new
own_behind n after rest old new plain own rest_is = record { stay = own.stay; there = go }
  where
    no : {A : Type 0} (q : Quant) (r : RelId) (s t c : ℕ) (more : List Node) → n ∷ after ≡ node.Over q r s t c ∷ more → A
    no q r s t c more e = let is : n ≡ node.Over q r s t c = head_is n (node.Over q r s t c) after more e in absurd (cc (plain, ap over_at is))

    go : (o : ℕ) → Mentions o (n ∷ after) → Contains new o ⊎ Mentions o rest
    go o (of_attribute _ a more is) = inl (own.there a o (ap attribute_in (head_is n (node.Attr a o) after more is)))
    go o (of_source _ q r target count more is) = no q r o target count more is
    go o (within _ q r source target count more is other m) = no q r source target count more is
    go o (behind _ q r source target count more is m) = no q r source target count more is
    go o (later _ k more is k_plain m) = inr (subst (Mentions o) (sym (tail_is n k after more is) ∙ sym rest_is) m)

pub over_behind : (n : Node) (q : Quant) (r : RelId) (source target count : ℕ) (after operand rest : List Node) (old new : List ℕ) → over_at n ≡ Some (q, (r, (source, (target, count)))) → operand ≡ take count after
    → AddsOver source target operand old new → rest ≡ drop count after → AddsBehind n after old rest new
over_behind n q r source target count after operand rest old new said operand_is over rest_is = record { stay = over.stay; there = go }
  where
    of_over : (m : Node) → n ≡ m → over_at m ≡ Some (q, (r, (source, (target, count))))
    of_over m is = sym (ap over_at is) ∙ said

    go : (o : ℕ) → Mentions o (n ∷ after) → Contains new o ⊎ Mentions o rest
    go o (of_attribute _ a more is) = let none = of_over (node.Attr a o) (head_is n (node.Attr a o) after more is) in absurd (cc none)
    go o (of_source _ q' r' t' c' more is) =
        let same : (q', (r', (o, (t', c')))) ≡ (q, (r, (source, (target, count)))) = cc (of_over (node.Over q' r' o t' c') (head_is n (node.Over q' r' o t' c') after more is)) in
        inl (subst (Contains new) (sym (ap (λ (x : Quant × (RelId × (ℕ × (ℕ × ℕ)))). x.1.1.0) same)) over.source_there)
    go o (within _ q' r' s' t' c' more is other m) =
        let same : (q', (r', (s', (t', c')))) ≡ (q, (r, (source, (target, count)))) = cc (of_over (node.Over q' r' s' t' c') (head_is n (node.Over q' r' s' t' c') after more is)) in
        let count_is : c' ≡ count = ap (λ (x : Quant × (RelId × (ℕ × (ℕ × ℕ)))). x.1.1.1.1) same in
        let target_is : t' ≡ target = ap (λ (x : Quant × (RelId × (ℕ × (ℕ × ℕ)))). x.1.1.1.0) same in
        let here : Mentions o (take count after) = subst (λ xs. Mentions o (take count xs)) (sym (tail_is n (node.Over q' r' s' t' c') after more is)) (subst (λ k. Mentions o (take k more)) count_is m) in
        inl (over.there o (subst (Mentions o) (sym operand_is) here) (subst (λ t. (o == t) ≡ false) target_is other))
    go o (behind _ q' r' s' t' c' more is m) =
        let same : (q', (r', (s', (t', c')))) ≡ (q, (r, (source, (target, count)))) = cc (of_over (node.Over q' r' s' t' c') (head_is n (node.Over q' r' s' t' c') after more is)) in
        let count_is : c' ≡ count = ap (λ (x : Quant × (RelId × (ℕ × (ℕ × ℕ)))). x.1.1.1.1) same in
        inr (subst (Mentions o) (sym rest_is) (subst (λ xs. Mentions o (drop count xs)) (sym (tail_is n (node.Over q' r' s' t' c') after more is)) (subst (λ k. Mentions o (drop k more)) count_is m)))
    go o (later _ k more is plain m) = let here = of_over k (head_is n k after more is) in absurd (cc (plain, here))

pub found_more : (nodes rest after left : List Node) (n : Node) (old new : List ℕ) → rest ≡ n ∷ after → AddsBehind n after old left new → AreFound nodes old rest → AreFound nodes new left
found_more nodes rest after left n old new is adds found o m = at (found o m)
  where
    at : Contains old o ⊎ Mentions o rest → Contains new o ⊎ Mentions o left
    at (inl has) = inl (adds.stay o has)
    at (inr more) = adds.there o (subst (Mentions o) is more)

nothing : (o : ℕ) (ns : List Node) → ns ≡ [] → Mentions o ns → ⊥
nothing o ns none (of_attribute _ a more is) = cc (none, is)
nothing o ns none (of_source _ q r target count more is) = cc (none, is)
nothing o ns none (within _ q r source target count more is other m) = cc (none, is)
nothing o ns none (behind _ q r source target count more is m) = cc (none, is)
nothing o ns none (later _ k more is plain m) = cc (none, is)

pub all_found : (nodes rest : List Node) (owners : List ℕ) → rest ≡ [] → AreFound nodes owners rest → HasOwners nodes owners
all_found nodes rest owners none found o m = at (found o m)
  where
    at : Contains owners o ⊎ Mentions o rest → Contains owners o
    at (inl has) = has
    at (inr more) = absurd (nothing o rest none more)

pub added_over : (source target : ℕ) (operand : List Node) (inner old middle new : List ℕ) → Adds source old middle → HasOwners operand inner → AddsOthers target inner middle new → AddsOver source target operand old new
added_over source target operand inner old middle new adds has others = record {
  stay = λ o there. others.stay o (adds.stay o there);
  source_there = others.stay source adds.there;
  there = λ o m other. others.there o (has o m) other;
}

pub no_others : (target : ℕ) (inner old new : List ℕ) → inner ≡ [] → new ≡ old → AddsOthers target inner old new
no_others target inner old new none is = record {
  stay = λ o has. subst (λ xs. Contains xs o) (sym is) has;
  there = λ o has other. let few : has.0 < length inner = has.1 in absurd (omega (arith, few, ap length none));
}

-- the one that comes next is among those before it, or it is this one
next_among : (xs : List ℕ) (i x o : ℕ) → i < length xs → x ≡ get_or xs i 0 → Contains (take (i + 1) xs) o → Contains (take i xs) o ⊎ (x ≡ o)
next_among xs i x o lt is has = Contains-push_cases (take i xs) x o (subst (λ ys. Contains ys o) (take_more xs i 0 lt ∙ ap (λ y. take i xs ++ y ∷ []) (sym is)) has)

pub others_more : (target : ℕ) (inner : List ℕ) (i owner : ℕ) (start old new : List ℕ) → i < length inner → owner ≡ get_or inner i 0 → Adds owner old new → AddsOthers target (take i inner) start old → AddsOthers target (take (i + 1) inner) start new
others_more target inner i owner start old new lt is adds others = record {
  stay = λ o has. adds.stay o (others.stay o has);
  there = λ o has other. at o other (next_among inner i owner o lt is has);
}
  where
    at : (o : ℕ) → (o == target) ≡ false → Contains (take i inner) o ⊎ (owner ≡ o) → Contains new o
    at o other (inl before) = adds.stay o (others.there o before other)
    at o other (inr here) = subst (Contains new) here adds.there

pub others_past : (target : ℕ) (inner : List ℕ) (i owner : ℕ) (start old : List ℕ) → i < length inner → owner ≡ get_or inner i 0 → owner ≡ target → AddsOthers target (take i inner) start old → AddsOthers target (take (i + 1) inner) start old
others_past target inner i owner start old lt is is_target others = record {
  stay = others.stay;
  there = λ o has other. at o other (next_among inner i owner o lt is has);
}
  where
    at : (o : ℕ) → (o == target) ≡ false → Contains (take i inner) o ⊎ (owner ≡ o) → Contains old o
    at o other (inl before) = others.there o before other
    at o other (inr here) = let own = eq-eqb o target (sym here ∙ is_target) in absurd (cc (own, other))
