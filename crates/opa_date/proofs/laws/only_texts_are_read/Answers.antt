use Rattle.opa_date.proofs.ReadTexts as laws
use Rattle.opa_date.proofs.laws.only_texts_are_read.Goals as goal

pub returns : goal.returns
returns c = laws.only_texts_are_read
