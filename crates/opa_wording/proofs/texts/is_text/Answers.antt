use Rattle.opa_wording.proofs.texts.is_text.Goals as goal

pub returns : goal.returns
returns c = c.utf8.text
