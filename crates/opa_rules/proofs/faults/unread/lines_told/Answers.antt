use Rattle.std.proofs.Common.{◌<◌, ◌^◌, length, subst}
use Rattle.std.proofs.lemmas.List.Elements.{All-tail}
use Rattle.opa_words.specs.declared.layout.block.BlockLine.{BlockLine}
use Rattle.opa_parse.specs.Fronts.{AreShort}
use Rattle.opa_rules.specs.Faults.Unread.{IsLineTold}
use Rattle.opa_rules.proofs.UnreadLaws.{at_end, at_here, one_on}
use Rattle.opa_rules.proofs.faults.unread.lines_told.Goals as goal

pub returns-in-Some-2 : goal.returns-in-Some-2
returns-in-Some-2 c =
    at_here c.args.below c.loop-line.rest.now c.args.lines.now c.in-Some.line.now c.in-Some.later.now c.in-Some-2.told c.in-Some.ensures
    (subst (IsLineTold c.args.below c.in-Some.line.now c.in-Some.later.now) c.in-Some-2.is c.in_ok-told.ensures) c.loop-line.invariant.back

pub loop-line-preserved : goal.loop-line-preserved
loop-line-preserved c = record {
  short = All-tail (λ (l : BlockLine). length l.text < 2 ^ 32) c.in-Some.line.now c.in-Some.later.now (subst AreShort c.in-Some.ensures c.loop-line.invariant.short);
  back = one_on c.args.below c.loop-line.rest.now c.args.lines.now c.in-Some.line.now c.in-Some.later.now c.in-Some.ensures
      (subst (IsLineTold c.args.below c.in-Some.line.now c.in-Some.later.now) c.in-None.is c.in_ok-told.ensures) c.loop-line.invariant.back;
}

pub returns : goal.returns
returns c = at_end c.args.below c.loop-line.rest.now c.args.lines.now c.in_default.ensures c.loop-line.invariant.back
