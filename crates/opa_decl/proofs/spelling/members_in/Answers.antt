use Rattle.std.proofs.Common.{◌∙◌, sym}
use Rattle.std.proofs.lemmas.List.Elements.{All-rest}
use Rattle.opa_decl.specs.Cutting.{HasTokens}
use Rattle.opa_decl.specs.Spelling.{member_in}
use Rattle.opa_decl.proofs.StepLaws.{each_more}
use Rattle.opa_decl.proofs.spelling.members_in.Goals as goal

pub loop-line-preserved : goal.loop-line-preserved
loop-line-preserved c = record {
  same = each_more (member_in c.args.file c.args.of_global) c.loop-line.items c.push.new.self c.loop-line.rest.now c.in-Some.later.now c.in-Some.line.now c.in-Some-2.item _ c.loop-line.invariant.same c.in-Some.ensures
      (sym c.in_ok-member_in.ensures ∙ c.in-Some-2.is) c.in_ok-push-in-Some-2.ensures.ok;
  tokens = All-rest (λ line. HasTokens line.text line.tokens) c.in-Some.line.now c.in-Some.later.now c.loop-line.rest.now c.in-Some.ensures c.loop-line.invariant.tokens;
}
