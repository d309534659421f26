-- The order of faults.
use Rattle.std.proofs.Common.{◌≡◌, inl, inr, ℕ, [], ◌∷◌, Bool, true, false, cond, refl, sym, ap, subst, ◌∙◌, Contains, arith}
use Rattle.std.specs.Prelude.{Option, Some, None, nat_lt}
use Rattle.opa_tree.specs.declared.faults.RbFault.{RbFault}
use Rattle.opa_tree.specs.FirstFaults.{turn, by_number, is_before, first_of, first_fault, IsFirst, FirstFaultIsFirst, FirstOfParts}
use Rattle.opa_tree.proofs.Members.{none_in, contains_head, contains_tail, contains_cases}

lex_both : (l m n : ℕ) (s t u : Bool) → (s ≡ true → t ≡ true → u ≡ true) → by_number l m s ≡ true → by_number m n t ≡ true → by_number l n u ≡ true
lex_both l m n s t u h p q = grind arith

lex_neither : (l m n : ℕ) (s t u : Bool) → (s ≡ false → t ≡ false → u ≡ false) → by_number l m s ≡ false → by_number m n t ≡ false → by_number l n u ≡ false
lex_neither l m n s t u h p q = grind arith

lex_not_after : (m n : ℕ) (s t : Bool) → (s ≡ true → t ≡ false) → by_number m n s ≡ true → by_number n m t ≡ false
lex_not_after m n s t h p = grind arith

lt_both : (l m n : ℕ) → nat_lt l m ≡ true → nat_lt m n ≡ true → nat_lt l n ≡ true
lt_both l m n p q = grind arith

lt_neither : (l m n : ℕ) → nat_lt l m ≡ false → nat_lt m n ≡ false → nat_lt l n ≡ false
lt_neither l m n p q = grind arith

lt_not_after : (m n : ℕ) → nat_lt m n ≡ true → nat_lt n m ≡ false
lt_not_after m n p = grind arith

lt_itself : (n : ℕ) → nat_lt n n ≡ false
lt_itself n = grind arith

lex_itself : (n : ℕ) (t : Bool) → t ≡ false → by_number n n t ≡ false
lex_itself n t p = grind arith

pub before_both : (a b c : RbFault) → is_before a b ≡ true → is_before b c ≡ true → is_before a c ≡ true
before_both a b c = lex_both (turn a.kind) (turn b.kind) (turn c.kind) _ _ _ (lex_both a.file b.file c.file _ _ _ (lt_both a.line b.line c.line))

pub before_neither : (a b c : RbFault) → is_before a b ≡ false → is_before b c ≡ false → is_before a c ≡ false
before_neither a b c = lex_neither (turn a.kind) (turn b.kind) (turn c.kind) _ _ _ (lex_neither a.file b.file c.file _ _ _ (lt_neither a.line b.line c.line))

pub not_before : (a b : RbFault) → is_before a b ≡ true → is_before b a ≡ false
not_before a b = lex_not_after (turn a.kind) (turn b.kind) _ _ (lex_not_after a.file b.file _ _ (lt_not_after a.line b.line))

pub before_itself : (a : RbFault) → is_before a a ≡ false
before_itself a = lex_itself (turn a.kind) _ (lex_itself a.file _ (lt_itself a.line))

-- a branch of `first_of`
abbrev pick : Bool → RbFault → RbFault → Option RbFault
pick t a b = cond t (Some b) (Some a)

three : (a b c : RbFault) (p q r : Bool) → is_before b a ≡ p → is_before c b ≡ q → is_before c a ≡ r → first_of (pick p a b) (Some c) ≡ first_of (Some a) (pick q b c)
three a b c true true r eb ec er = ap (λ t. pick t b c) ec ∙ sym (ap (λ t. pick t a c) (before_both c b a ec eb))
three a b c true false r eb ec er = ap (λ t. pick t b c) ec ∙ sym (ap (λ t. pick t a b) eb)
three a b c false true r eb ec er = refl
three a b c false false r eb ec er = ap (λ t. pick t a c) (before_neither c b a ec eb) ∙ sym (ap (λ t. pick t a b) eb)

pub first_of-assoc : (x y z : Option RbFault) → first_of (first_of x y) z ≡ first_of x (first_of y z)
first_of-assoc None y z = refl
first_of-assoc (Some a) None z = refl
first_of-assoc (Some a) (Some b) None = none (is_before b a)
  where
    none : (t : Bool) → first_of (pick t a b) None ≡ pick t a b
    none true = refl
    none false = refl
first_of-assoc (Some a) (Some b) (Some c) = three a b c (is_before b a) (is_before c b) (is_before c a) refl refl refl

pub first_of-none : (x : Option RbFault) → first_of x None ≡ x
first_of-none None = refl
first_of-none (Some a) = refl

pub first_fault-append : FirstOfParts
first_fault-append [] more = refl
first_fault-append (a ∷ faults) more = ap (first_of (Some a)) (first_fault-append faults more) ∙ sym (first_of-assoc (Some a) (first_fault faults) (first_fault more))

pub first_fault_is_first_holds : FirstFaultIsFirst
first_fault_is_first_holds [] = refl
first_fault_is_first_holds (a ∷ faults) = go (first_fault faults) (first_fault_is_first_holds faults)
  where
    chosen : (b : RbFault) (t : Bool) → is_before b a ≡ t → IsFirst faults (Some b) → IsFirst (a ∷ faults) (pick t a b)
    chosen b true e h = (contains_tail a b faults h.0, λ x has. elim (contains_cases a x faults has) [ inl same ↦ subst (λ y. is_before y b ≡ false) same (not_before b a e) | inr more ↦ h.1 x more ])
    chosen b false e h = (contains_head a faults, λ x has. elim (contains_cases a x faults has) [ inl same ↦ subst (λ y. is_before y a ≡ false) same (before_itself a) | inr more ↦ before_neither x b a (h.1 x more) e ])

    go : (o : Option RbFault) → IsFirst faults o → IsFirst (a ∷ faults) (first_of (Some a) o)
    go None h = (contains_head a faults, λ x has. elim (contains_cases a x faults has) [ inl same ↦ subst (λ y. is_before y a ≡ false) same (before_itself a) | inr more ↦ absurd (none_in x (subst (λ l. Contains l x) h more)) ])
    go (Some b) h = chosen b (is_before b a) refl h

pub ruleset first_faults = (first_of-assoc, first_of-none, first_fault-append)
