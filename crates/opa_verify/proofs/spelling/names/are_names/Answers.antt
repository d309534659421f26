use Rattle.std.proofs.Common.{subst}
use Rattle.opa_verify.specs.Spelling.Spelling.{IsName}
use Rattle.opa_verify.proofs.spelling.Namely.{names_start, names_more, names_done}
use Rattle.opa_verify.proofs.spelling.names.are_names.Goals as goal

pub loop-name-init : goal.loop-name-init
loop-name-init c = names_start c.args.names.now

pub loop-name-preserved : goal.loop-name-preserved
loop-name-preserved c = names_more c.args.names.now c.loop-name.rest.now c.in-Some.later.now c.in-Some.name.now c.loop-name.invariant c.in-Some.ensures (subst IsName c.as_str.ensures (c.is_name.ensures.0 c.if-not-is_name.false))

pub returns : goal.returns
returns c = names_done c.args.names.now c.loop-name.rest.now c.loop-name.invariant c.in_default.ensures
