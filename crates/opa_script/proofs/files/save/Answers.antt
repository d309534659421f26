use Rattle.opa_words.specs.Pieces.{seen}
use Rattle.opa_script.proofs.Exits.{save_read}
use Rattle.opa_script.proofs.files.save.Goals as goal

pub returns-in-Ok-clause-ok : goal.returns-in-Ok-clause-ok
returns-in-Ok-clause-ok c = λ m. save_read m (seen c.args.rest) c.in-Ok.name c.in-Ok.ensures.ok
