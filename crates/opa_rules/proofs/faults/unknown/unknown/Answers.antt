use Rattle.std.proofs.Common.{◌∙◌, subst, All}
use Rattle.std.proofs.lemmas.List.Elements.{All-tail}
use Rattle.opa_words.specs.Places.{IsWithin}
use Rattle.opa_rules.proofs.UnknownLaws.{one_on}
use Rattle.opa_rules.proofs.faults.unknown.unknown.Goals as goal

pub loop-later-preserved : goal.loop-later-preserved
loop-later-preserved c = record {
  same = one_on c.args.phrases.now c.args.text.now c.loop-later.skip c.counted-count.result c.loop-later.rest.now _ c.in-Some.later.now _ c.in-Some.ensures c.new.ensures c.counted-count.ensures c.if-count-eq0.false ∙ c.loop-later.invariant.same;
  within = All-tail (IsWithin c.args.text.now) c.in-Some.field-0-0.now c.in-Some.later.now (subst (All (IsWithin c.args.text.now)) c.in-Some.ensures c.loop-later.invariant.within);
}
