-- Rules are refused for one fault.
use Rattle.std.proofs.Common.{◌≡◌, ◌∙◌, ◌<◌, ◌≤◌, ◌⊎◌, inl, inr, ℕ, List, [], ◌∷◌, ◌++◌, Contains, All, refl, sym, ap, ap₂, subst, arith}
use Rattle.std.specs.Prelude.{Option, Some, None}
use Rattle.std.proofs.lemmas.Bool.{cases_lt}
use Rattle.std.proofs.lemmas.List.Elements.{All-head, All-tail}
use Rattle.opa_model.specs.declared.ids.AttrId.{AttrId}
use Rattle.opa_tree.specs.declared.faults.RbFault.{RbFault}
use Rattle.opa_tree.specs.declared.faults.RbKind.{RbKind}
use Rattle.opa_tree.specs.declared.rules.Rule.{Rule}
use Rattle.opa_tree.specs.FirstFaults.{first_fault}
use Rattle.opa_tree.specs.Rules.{rule_of}
use Rattle.opa_rulebase.specs.Checking.Circles as c
use Rattle.opa_rulebase.specs.Checking.Circles.{IsLeft, IsTaken, IsFirstLeft, Circles, IsLeastLeft, HasCircle, from_visit}
use Rattle.opa_rulebase.specs.Checking.Faults.{rule_faults}
use Rattle.opa_rulebase.specs.Checking.Refused.{IsRefusedBy}
use Rattle.opa_rulebase.proofs.checking.AcceptedLaws.{accepted_are_not_refused_holds, not_both}
use Rattle.opa_laws.specs.Decided.Checking.{OneCircle, OneCheckFault, RulebasesAreNotRefused}

-- ---- the least attribute that is left

one_least : (rules : List Rule) (a b : AttrId) → IsLeastLeft rules a → IsLeastLeft rules b → a ≡ b
one_least rules a b h k = go (cases_lt a.0 b.0) (cases_lt b.0 a.0)
  where
    go : (a.0 < b.0) ⊎ (b.0 ≤ a.0) → (b.0 < a.0) ⊎ (a.0 ≤ b.0) → a ≡ b
    go (inl lt) d = absurd (not_both rules a h.left (k.others a lt))
    go (inr le) (inl lt) = absurd (not_both rules b k.left (h.others b lt))
    go (inr le) (inr ge) = let same : a.0 ≡ b.0 = omega (arith, le, ge) in ap (λ (n : ℕ). let x : AttrId = record { 0 = n } in x) same

-- ---- the first mention that is left

first_of_split : (rules : List Rule) (before others after rest : List AttrId) (a b : AttrId) → before ++ a ∷ after ≡ others ++ b ∷ rest
    → IsLeft rules a → IsLeft rules b → All (IsTaken rules) before → All (IsTaken rules) others → a ≡ b
first_of_split rules [] [] after rest a b e p q r s = cc e
first_of_split rules [] (y ∷ others) after rest a b e p q r s =
    let same : a ≡ y = cc e in absurd (not_both rules y (subst (IsLeft rules) same p) (All-head (IsTaken rules) y others s))
first_of_split rules (x ∷ before) [] after rest a b e p q r s =
    let same : x ≡ b = cc e in absurd (not_both rules x (subst (IsLeft rules) (sym same) q) (All-head (IsTaken rules) x before r))
first_of_split rules (x ∷ before) (y ∷ others) after rest a b e p q r s =
    first_of_split rules before others after rest a b (let f : before ++ a ∷ after ≡ others ++ b ∷ rest = cc e in f) p q (All-tail (IsTaken rules) x before r) (All-tail (IsTaken rules) y others s)

one_next : (rules : List Rule) (a b d : AttrId) → IsFirstLeft rules a b → IsFirstLeft rules a d → b ≡ d
one_next rules a b d h k = first_of_split rules h.before k.before h.after k.after b d (sym h.mentioned ∙ k.mentioned) h.left k.left h.taken k.taken

-- ---- the circle

module _ (rules : List Rule) where
  abbrev Only : List AttrId → AttrId → List AttrId → Type 0
  Only walk a circle = (other : List AttrId) → Circles rules walk a other → circle ≡ other

  comes_again : (walk : List AttrId) (a : AttrId) → Contains walk a → Only walk a (from_visit a walk)
  comes_again walk a there other (c.Circles.again _ _ also) = refl
  comes_again walk a there other (c.Circles.goes_on _ _ _ b fresh next more) = absurd (fresh there)

  goes_on : (walk circle : List AttrId) (a b : AttrId) → (Contains walk a → ⊥) → IsFirstLeft rules a b → Only (walk ++ a ∷ []) b circle → Only walk a circle
  goes_on walk circle a b fresh next one other (c.Circles.again _ _ there) = absurd (fresh there)
  goes_on walk circle a b fresh next one other (c.Circles.goes_on _ _ _ d also after more) =
      one other (subst (λ z. Circles rules (walk ++ a ∷ []) z other) (sym (one_next rules a b d next after)) more)

  only : {walk : List AttrId} {a : AttrId} {circle : List AttrId} → Circles rules walk a circle → Only walk a circle
  only (c.Circles.again walk a there) = comes_again walk a there
  only (c.Circles.goes_on walk circle a b fresh next more) = goes_on walk circle a b fresh next (only more)

pub one_circle_holds : OneCircle
one_circle_holds rules start circle other h k = only rules h other k

-- ---- the fault

same_fault : (f g : RbFault) → f.file ≡ g.file → f.line ≡ g.line → f.kind ≡ g.kind → f.cycle ≡ g.cycle → f ≡ g
same_fault f g p q r s =
    ap₂ (λ (x y : ℕ). let z : RbFault = record { file = x; line = y; kind = f.kind; cycle = f.cycle } in z) p q
    ∙ ap₂ (λ (x : RbKind) (y : List AttrId). let z : RbFault = record { file = g.file; line = g.line; kind = x; cycle = y } in z) r s

one_circle_fault : (rules : List Rule) (f g : RbFault) → HasCircle rules f → HasCircle rules g → f ≡ g
one_circle_fault rules f g h k =
    let start : h.start ≡ k.start = one_least rules h.start k.start h.least k.least in
    let cycle : f.cycle ≡ g.cycle = only rules h.circle g.cycle (subst (λ a. Circles rules [] a g.cycle) (sym start) k.circle) in
    let firsts : h.first ∷ h.more ≡ k.first ∷ k.more = sym h.begins ∙ cycle ∙ k.begins in
    let first : h.first ≡ k.first = cc firsts in
    let found : Some h.rule ≡ Some k.rule = sym h.of_first ∙ ap (rule_of rules) first ∙ k.of_first in
    let rule : h.rule ≡ k.rule = cc found in
    same_fault f g (h.file ∙ ap (λ (r : Rule). r.file) rule ∙ sym k.file) (h.line ∙ ap (λ (r : Rule). r.line) rule ∙ sym k.line) (h.kind ∙ sym k.kind) cycle

refused_by : (o : Option RbFault) (rules : List Rule) (f g : RbFault) → IsRefusedBy o rules f → IsRefusedBy o rules g → f ≡ g
refused_by None rules f g h k = one_circle_fault rules f g h k
refused_by (Some first) rules f g h k = h ∙ sym k

pub one_check_fault_holds : OneCheckFault
one_check_fault_holds m rules f g h k = refused_by (first_fault (rule_faults m rules)) rules f g h k

pub rulebases_are_not_refused_hold : RulebasesAreNotRefused
rulebases_are_not_refused_hold base fault h =
    accepted_are_not_refused_holds base.model base.rules fault (record { sound = base.sound; ranks = base.ranks; ranked = base.ranked }) h
