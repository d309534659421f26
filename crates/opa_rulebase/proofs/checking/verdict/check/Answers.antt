use Rattle.std.proofs.Common.{◌≡◌, ◌∙◌, ap, sym, subst, map, ℕ, length, List, not}
use Rattle.std.specs.Prelude.{Option, None, Some, is_some, position, unwrap_or}
use Rattle.opa_model.specs.declared.ids.AttrId.{AttrId}
use Rattle.opa_tree.specs.Ranks.{AreRanks}
use Rattle.opa_tree.specs.FirstFaults.{first_fault}
use Rattle.opa_rulebase.specs.Checking.Faults.{rule_faults}
use Rattle.opa_rulebase.specs.Checking.Settled.{AreSettled, IsOpen}
use Rattle.opa_rulebase.proofs.checking.FaultLaws.{are_sound}
use Rattle.opa_rulebase.proofs.checking.VerdictLaws.{open_at, least_at, settled_by, ranks_by}
use Rattle.opa_rulebase.proofs.checking.verdict.check.Goals as goal

pub returns-in-None-clause-sound : goal.returns-in-None-clause-sound
returns-in-None-clause-sound c =
    let m = c.args.model.now in
    are_sound m c.args.rules.now c.requires.declared (ap (λ rs. first_fault (rule_faults m rs)) (sym c.as_slice.ensures) ∙ sym c.in_ok-fault.ensures ∙ c.in_default.is)

pub returns-in-None-clause-ranks : goal.returns-in-None-clause-ranks
returns-in-None-clause-ranks c =
    let rules = c.args.rules.now in let uses = c.in_ok-uses.uses.items in let ranks = c.in_ok-ranking.ranking.ranks.items in
    let settled : AreSettled rules uses ranks = settled_by rules c.as_slice-2.result.now uses c.deref.result.now ranks (length c.args.model.now.attributes) c.attribute_count.result c.in_ok-ranking.ranking.taken
    c.requires.declared c.attribute_count.ensures.count c.as_slice-2.ensures c.deref.ensures.value c.in_ok-uses.ensures c.in_ok-ranking.ensures.found c.in_ok-ranking.ensures.all in
    let none : position (λ r. not (is_some r)) ranks ≡ None = ap (position (λ r. not (is_some r))) (sym c.deref-2.ensures.value) ∙ sym c.first_open.ensures ∙ c.in-None.is in
    subst (λ (values : List ℕ). AreRanks (length c.args.model.now.attributes) rules values) (sym (c.in_ok-found_ranks-in-None.ensures ∙ ap (map (λ r. unwrap_or r 0)) c.deref-in-None.ensures.value)) (ranks_by rules uses ranks settled none)

pub circle_fault-requires-clause-is_open : goal.circle_fault-requires-clause-is_open
circle_fault-requires-clause-is_open c =
    let ranks = c.in_ok-ranking.ranking.ranks.items in let a : AttrId = record { 0 = c.in-Some-first_open.place } in
    let some : position (λ r. not (is_some r)) ranks ≡ Some a.0 = ap (position (λ r. not (is_some r))) (sym c.deref-2.ensures.value) ∙ sym c.first_open.ensures ∙ c.in-Some-first_open.is in
    subst (λ (rs : List (Option ℕ)). IsOpen rs a) (sym c.deref-in-Some-first_open-2.ensures.value) (open_at ranks a some)

pub circle_fault-requires-clause-least : goal.circle_fault-requires-clause-least
circle_fault-requires-clause-least c =
    let rules = c.args.rules.now in let uses = c.in_ok-uses.uses.items in let ranks = c.in_ok-ranking.ranking.ranks.items in let a : AttrId = record { 0 = c.in-Some-first_open.place } in
    let settled : AreSettled rules uses ranks = settled_by rules c.as_slice-2.result.now uses c.deref.result.now ranks (length c.args.model.now.attributes) c.attribute_count.result c.in_ok-ranking.ranking.taken
    c.requires.declared c.attribute_count.ensures.count c.as_slice-2.ensures c.deref.ensures.value c.in_ok-uses.ensures c.in_ok-ranking.ensures.found c.in_ok-ranking.ensures.all in
    let some : position (λ r. not (is_some r)) ranks ≡ Some a.0 = ap (position (λ r. not (is_some r))) (sym c.deref-2.ensures.value) ∙ sym c.first_open.ensures ∙ c.in-Some-first_open.is in
    least_at rules uses ranks settled a some
