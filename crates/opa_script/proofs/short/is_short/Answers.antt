use Rattle.opa_script.proofs.Found.{short_text}
use Rattle.opa_script.proofs.short.is_short.Goals as goal

pub returns-in_ok-inner-in-Text : goal.returns-in_ok-inner-in-Text
returns-in_ok-inner-in-Text c = short_text c.args.kind c.args.text.now c.in_ok-inner-in-Text.inner c.as_str.result.now c.in-Text.is c.in_ok-inner-in-Text.ensures c.as_str.ensures
