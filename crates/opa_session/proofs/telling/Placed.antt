-- What slots are, and where what they read stands.
use Rattle.std.proofs.Common.{rules, ◌≡◌, ℕ, ◌<◌, true, List, length, get_or, Option, None, Some, IsSome, is_some, Contains, sym, ◌∙◌, subst}
use Rattle.std.specs.Prelude.{◌==◌}
use Rattle.std.proofs.lemmas.Bool.{and_parts, eqb-true}
use Rattle.opa_model.specs.declared.ids.AttrId.{AttrId}
use Rattle.opa_cells.specs.declared.instance.InstanceId.{InstanceId}
use Rattle.opa_case.specs.Cases.{CaseView, IsLive}
use Rattle.opa_case.specs.Live as live
use Rattle.opa_case.specs.Shapes.{shape_of}
use Rattle.opa_case.specs.declared.question.Question.{Question}
use Rattle.opa_case.specs.declared.question.Question.TheVariants as question
use Rattle.opa_tree.specs.declared.rulebase.Rulebase.{Rulebase}
use Rattle.opa_tree.specs.Rules.{rule_of}
use Rattle.opa_mean.specs.Reached.Dirty.{slot_reads, IsReadBy, ReadsAreLower}
use Rattle.opa_mean.specs.Places.{owner_of}
use Rattle.opa_mean.specs.Rulebases.{IsOf}
use Rattle.opa_mean.specs.Sameness.{same_question, same_lists}
use Rattle.opa_mean.specs.Slots.{is_slot, has_place}
use Rattle.opa_mean.proofs.Everywhere.{each_of_all}
use Rattle.opa_mean.proofs.Exact.{lists_exact, question_exact}
use Rattle.opa_session.specs.Telling.Reaching.{AreSlots, ArePlaced, HasPlaceIn}

some_is : {X : Type 0} (o : Option X) → is_some o ≡ true → IsSome o
some_is None h = absurd (cc h)
some_is (Some x) h = search rules

-- an attribute with a rule, at a live instance of its entity
pub record IsAt (r : Rulebase) (c : CaseView) (a : AttrId) (i : InstanceId) : Type 0 where
  pub ruled : IsSome (rule_of r.rules a)
  pub has_rule : is_some (rule_of r.rules a) ≡ true
  pub lives : IsLive c i
  pub owner : i.entity.0 ≡ owner_of (shape_of r.model) a

pub is_at : (r : Rulebase) (c : CaseView) (a : AttrId) (i : InstanceId) → is_slot r c a i ≡ true → IsAt r c a i
is_at r c a i h =
    let two = and_parts (has_place r c a i) (is_some (rule_of r.rules a)) h in
    let one = and_parts (live.is_live c.live i) (i.entity.0 == owner_of (shape_of r.model) a) two.0 in record {
      ruled = some_is (rule_of r.rules a) two.1;
      has_rule = two.1;
      lives = one.0;
      owner = eqb-true i.entity.0 (owner_of (shape_of r.model) a) one.1;
    }

-- one of several slots is one
pub slot_at : (r : Rulebase) (c : CaseView) (slots : List (AttrId × InstanceId)) (n : ℕ) (x : AttrId × InstanceId) → AreSlots r c slots → n < length slots → x ≡ get_or slots n x → is_slot r c x.0 x.1 ≡ true
slot_at r c slots n x are lt is = are.each x.0 x.1 (n, lt, sym is)

in_place : (r : Rulebase) (c : CaseView) (a : AttrId) (q : Question) → IsReadBy r c a q → HasPlaceIn r c q
in_place r c a (question.Attr m i) h = h.0
in_place r c a (question.Members q i) h = tt

-- what is read in both cases stands at places of both
pub placed_reads : ReadsAreLower → (r : Rulebase) (c c' : CaseView) → IsOf r c → IsOf r c' → (a : AttrId) (i : InstanceId) → IsLive c i → is_slot r c' a i ≡ true → (before after : List Question)
    → before ≡ slot_reads r c a i → after ≡ slot_reads r c' a i → same_lists same_question before after ≡ true → ArePlaced r c c' after
placed_reads lower r c c' is is' a i lives slot before after eb ea same = record {
  before = λ q h. in_place r c a q (each_of_all (IsReadBy r c a) (slot_reads r c a i) (lower r c is a i lives) q (subst (λ (qs : List Question). Contains qs q) (sym (lists_exact same_question question_exact before after same) ∙ eb) h));
  after = λ q h. in_place r c' a q (each_of_all (IsReadBy r c' a) (slot_reads r c' a i) (lower r c' is' a i (is_at r c' a i slot).lives) q (subst (λ (qs : List Question). Contains qs q) ea h));
}
