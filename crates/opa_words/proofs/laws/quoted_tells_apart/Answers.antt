use Rattle.opa_words.proofs.QuoteLaws.{quoted_tells_apart}
use Rattle.opa_words.proofs.laws.quoted_tells_apart.Goals as goal

pub returns : goal.returns
returns c = quoted_tells_apart
