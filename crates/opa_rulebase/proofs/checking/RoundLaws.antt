-- A walk along mentions that comes again is a circle.
use Rattle.std.proofs.Common.{◌≡◌, ◌∙◌, ◌⊎◌, inl, inr, ℕ, Bool, true, false, cond, List, [], ◌∷◌, ◌++◌, refl, sym, ap, subst, Contains, arith}
use Rattle.std.specs.Prelude.{◌==◌}
use Rattle.std.proofs.lemmas.Bool.{false≢true}
use Rattle.std.proofs.lemmas.List.Elements.{Contains-append_right}
use Rattle.opa_model.specs.declared.ids.AttrId.{AttrId}
use Rattle.opa_tree.specs.declared.rules.Rule.{Rule}
use Rattle.opa_tree.specs.Ranks.{mentions_of}
use Rattle.opa_tree.specs.Rules.{rule_of}
use Rattle.opa_tree.proofs.Members.{none_in, contains_head, contains_cases}
use Rattle.opa_rulebase.specs.Checking.Circles.{Circles, again, goes_on, IsFirstLeft, from_visit}
use Rattle.opa_rulebase.specs.Checking.Laws.{LeadsTo, IsRound, CirclesAreRound}
use Rattle.opa_rulebase.proofs.checking.WalkLaws.{begins_with, one_id}

leads_more : (rules : List Rule) (walk : List AttrId) (a b : AttrId) → LeadsTo rules walk a → Contains (mentions_of (rule_of rules a)) b → LeadsTo rules (walk ++ a ∷ []) b
leads_more rules [] a b h m = m
leads_more rules (x ∷ []) a b h m = (h, m)
leads_more rules (x ∷ y ∷ walk) a b h m = (h.0, leads_more rules (y ∷ walk) a b h.1 m)

leads_rest : (rules : List Rule) (x : AttrId) (walk : List AttrId) (a : AttrId) → Contains walk a → LeadsTo rules (x ∷ walk) a → LeadsTo rules walk a
leads_rest rules x [] a there h = absurd (none_in a there)
leads_rest rules x (y ∷ walk) a there h = h.1

leads_from : (rules : List Rule) (walk : List AttrId) (a : AttrId) → LeadsTo rules walk a → Contains walk a → LeadsTo rules (from_visit a walk) a
leads_from rules [] a h there = absurd (none_in a there)
leads_from rules (x ∷ walk) a h there = here rules x walk a h (leads_from rules walk a) (a.0 == x.0) refl (contains_cases x a walk there)
  where
    own : (a x : AttrId) → x ≡ a → (a.0 == x.0) ≡ true
    own a x same = ap (λ (y : AttrId). a.0 == y.0) same ∙ itself a.0
      where
        itself : (n : ℕ) → (n == n) ≡ true
        itself n = grind arith

    here : (rules : List Rule) (x : AttrId) (walk : List AttrId) (a : AttrId) → LeadsTo rules (x ∷ walk) a → (LeadsTo rules walk a → Contains walk a → LeadsTo rules (from_visit a walk) a)
        → (t : Bool) → (a.0 == x.0) ≡ t → (x ≡ a) ⊎ Contains walk a → LeadsTo rules (cond t (x ∷ walk) (from_visit a walk)) a
    here rules x walk a h rest true e c = h
    here rules x walk a h rest false e (inl same) = absurd (false≢true (sym e ∙ own a x same))
    here rules x walk a h rest false e (inr there) = rest (leads_rest rules x walk a there h) there

round_by : (rules : List Rule) (walk : List AttrId) (a : AttrId) (circle : List AttrId) → LeadsTo rules walk a → Circles rules walk a circle → IsRound rules circle
round_by rules walk a circle h (again _ _ there) = let w = begins_with a walk there in record { first = a; more = w.0; begins = w.1; leads = leads_from rules walk a h there }
round_by rules walk a circle h (goes_on _ _ _ b fresh next more) =
    round_by rules (walk ++ a ∷ []) b circle (leads_more rules walk a b h (subst (λ ms. Contains ms b) (sym next.mentioned) (Contains-append_right next.before (b ∷ next.after) b (contains_head b next.after)))) more

pub circles_are_round_holds : CirclesAreRound
circles_are_round_holds rules start circle c = round_by rules [] start circle tt c
