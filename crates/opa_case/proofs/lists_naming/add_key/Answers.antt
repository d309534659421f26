use Rattle.opa_case.proofs.Touching.{adds_key}
use Rattle.opa_case.proofs.lists_naming.add_key.Goals as goal

pub returns : goal.returns
returns c = adds_key c.args.keys.now c.push.new.self c.args.number c.in_ok-copied.copied c.args.inst.now c.in_ok-copied.ensures c.in_ok-push.ensures.ok
