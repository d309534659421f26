use Rattle.opa_words.specs.Pieces.{seen}
use Rattle.opa_script.proofs.Exits.{load_read}
use Rattle.opa_script.proofs.files.load.Goals as goal

pub returns-in-Ok-clause-ok : goal.returns-in-Ok-clause-ok
returns-in-Ok-clause-ok c = λ m. load_read m (seen c.args.rest) c.in-Ok.name c.in-Ok.ensures.ok
