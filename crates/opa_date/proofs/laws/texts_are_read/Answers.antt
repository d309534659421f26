use Rattle.opa_date.proofs.ReadTexts as laws
use Rattle.opa_date.proofs.laws.texts_are_read.Goals as goal

pub returns : goal.returns
returns c = laws.texts_are_read
