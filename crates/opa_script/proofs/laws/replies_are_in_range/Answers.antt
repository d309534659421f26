use Rattle.opa_script.proofs.ReplyLaws.{reply_in_range}
use Rattle.opa_script.proofs.laws.replies_are_in_range.Goals as goal

pub returns : goal.returns
returns c = reply_in_range
