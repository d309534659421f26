-- Faults without a circle have one first.
use Rattle.std.proofs.Common.{◌≡◌, ◌∙◌, inl, inr, ℕ, ◌⊎◌, List, [], ◌∷◌, ◌++◌, Bool, false, Contains, refl, sym, ap, ap₂, subst, arith}
use Rattle.std.specs.Prelude.{Some, nat_lt, ◌==◌, flat_map, if◌then◌else◌}
use Rattle.opa_model.specs.declared.ids.AttrId.{AttrId}
use Rattle.opa_tree.specs.declared.faults.RbFault.{RbFault}
use Rattle.opa_tree.specs.declared.faults.RbKind.{RbKind}
use Rattle.opa_tree.specs.declared.faults.RbKind.TheVariants.{Bytes, Syntax, Name, Scope, Kind, Twice, Cycle, Limit, Missing}
use Rattle.opa_tree.specs.FirstFaults.{turn, by_number, is_before, IsFirst}
use Rattle.opa_tree.proofs.Members.{none_in, contains_cases}

-- ---- what no fault is before, either way

abbrev kind_in_turn : ℕ → RbKind
kind_in_turn n =
    if n == 0 then Missing else if n == 1 then Bytes else if n == 2 then Syntax else if n == 3 then Limit else if n == 4 then Name else
    if n == 5 then Scope else if n == 6 then Kind else if n == 7 then Twice else Cycle

its_turn : (k : RbKind) → kind_in_turn (turn k) ≡ k
its_turn Bytes = refl
its_turn Syntax = refl
its_turn Name = refl
its_turn Scope = refl
its_turn Kind = refl
its_turn Twice = refl
its_turn Cycle = refl
its_turn Limit = refl
its_turn Missing = refl

one_kind : (j k : RbKind) → turn j ≡ turn k → j ≡ k
one_kind j k e = sym (its_turn j) ∙ ap kind_in_turn e ∙ its_turn k

same_number : (m n : ℕ) (s t : Bool) → by_number m n s ≡ false → by_number n m t ≡ false → m ≡ n
same_number m n s t p q = grind arith

neither : (m n : ℕ) (s t : Bool) → by_number m n s ≡ false → by_number n m t ≡ false → s ≡ false
neither m n s t p q = grind arith

same_line : (m n : ℕ) → nat_lt m n ≡ false → nat_lt n m ≡ false → m ≡ n
same_line m n p q = grind arith

neither_before : (a b : RbFault) → is_before a b ≡ false → is_before b a ≡ false → a.cycle ≡ b.cycle → a ≡ b
neither_before a b p q c =
    let s : by_number a.file b.file (nat_lt a.line b.line) ≡ false = neither (turn a.kind) (turn b.kind) _ _ p q in
    let t : by_number b.file a.file (nat_lt b.line a.line) ≡ false = neither (turn b.kind) (turn a.kind) _ _ q p in
    let u : nat_lt a.line b.line ≡ false = neither a.file b.file _ _ s t in
    let v : nat_lt b.line a.line ≡ false = neither b.file a.file _ _ t s in
    same (same_number a.file b.file _ _ s t) (same_line a.line b.line u v) (one_kind a.kind b.kind (same_number (turn a.kind) (turn b.kind) _ _ p q))
  where
    same : a.file ≡ b.file → a.line ≡ b.line → a.kind ≡ b.kind → a ≡ b
    same f l k =
        ap₂ (λ (x y : ℕ). let z : RbFault = record { file = x; line = y; kind = a.kind; cycle = a.cycle } in z) f l
        ∙ ap₂ (λ (x : RbKind) (y : List AttrId). let z : RbFault = record { file = b.file; line = b.line; kind = x; cycle = y } in z) k c

-- ---- faults without a circle

abbrev pub ArePlain : List RbFault → Type 0
ArePlain [] = Unit {0}
ArePlain (f ∷ fs) = (f.cycle ≡ []) × ArePlain fs

pub plain_append : (fs gs : List RbFault) → ArePlain fs → ArePlain gs → ArePlain (fs ++ gs)
plain_append [] gs h k = k
plain_append (f ∷ fs) gs h k = (h.0, plain_append fs gs h.1 k)

pub plain_flat : {X : Type 0} (f : X → List RbFault) → ((x : X) → ArePlain (f x)) → (xs : List X) → ArePlain (flat_map f xs)
plain_flat f h [] = tt
plain_flat f h (x ∷ xs) = plain_append (f x) (flat_map f xs) (h x) (plain_flat f h xs)

plain_in : (fs : List RbFault) (f : RbFault) → ArePlain fs → Contains fs f → f.cycle ≡ []
plain_in [] f h has = absurd (none_in f has)
plain_in (g ∷ fs) f h has = go (contains_cases g f fs has) (plain_in fs f h.1)
  where
    go : (g ≡ f) ⊎ Contains fs f → (Contains fs f → f.cycle ≡ []) → f.cycle ≡ []
    go (inl same) more = subst (λ (x : RbFault). x.cycle ≡ []) same h.0
    go (inr there) more = more there

-- such faults have one first
pub one_first : (fs : List RbFault) (a b : RbFault) → ArePlain fs → IsFirst fs (Some a) → IsFirst fs (Some b) → a ≡ b
one_first fs a b plain h k = neither_before a b (k.1 a h.0) (h.1 b k.0) (plain_in fs a plain h.0 ∙ sym (plain_in fs b plain k.0))
