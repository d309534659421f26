use Rattle.std.proofs.Common.{◌≡◌, ◌∙◌, ap, sym, subst, refl, [], ◌∷◌, List}
use Rattle.std.specs.Prelude.{None, Some, slice_get}
use Rattle.std.specs.Option.{option_copied}
use Rattle.opa_model.specs.declared.ids.AttrId.{AttrId}
use Rattle.opa_tree.specs.declared.rules.Rule.{Rule}
use Rattle.opa_tree.specs.Rules.{rule_of}
use Rattle.opa_rulebase.specs.Checking.Circles.{Circles}
use Rattle.opa_rulebase.specs.Checking.Settled.{IsOpen}
use Rattle.opa_rulebase.proofs.checking.CircleLaws.{open_has_rule}
use Rattle.opa_rulebase.proofs.checking.verdict.circle_fault.Goals as goal

pub unreachable-requires-in-None-of : goal.unreachable-requires-in-None-of
unreachable-requires-in-None-of c =
    let b = c.in_ok-cycle.ensures.begins in let h = c.in-Some.ensures in
    let both : b.first ∷ b.more ≡ c.in-Some.first ∷ h.0 = sym b.begins ∙ sym c.as_slice-2.ensures ∙ h.1 in
    let same : b.first ≡ c.in-Some.first = cc in
    let is : IsOpen c.args.ranks.now c.in-Some.first = subst (λ (a : AttrId). IsOpen c.args.ranks.now a) same b.is_open in
    let w = open_has_rule c.args.rules.now c.args.uses.now c.args.ranks.now c.requires.settled c.in-Some.first is in
    let some = sym w.1 ∙ sym c.of.ensures ∙ ap option_copied c.in-None-of.is in cc

pub returns : goal.returns
returns c =
    let h = c.in-Some.ensures in record {
      start = c.args.start;
      least = c.requires.least;
      circle = subst (λ (rules : List Rule). Circles rules [] c.args.start c.in_ok-cycle.cycle) c.as_slice.ensures c.in_ok-cycle.ensures.circle;
      first = c.in-Some.first;
      more = h.0;
      begins = sym c.as_slice-2.ensures ∙ h.1;
      rule = c.in-Some-of.rule.now;
      of_first = sym c.of.ensures ∙ ap option_copied c.in-Some-of.is;
      file = refl;
      line = refl;
      kind = refl;
    }
