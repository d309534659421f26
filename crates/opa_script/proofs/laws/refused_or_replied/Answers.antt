use Rattle.opa_script.proofs.ReplyLaws.{refused_or_replied_holds}
use Rattle.opa_script.proofs.laws.refused_or_replied.Goals as goal

pub returns : goal.returns
returns c = refused_or_replied_holds
