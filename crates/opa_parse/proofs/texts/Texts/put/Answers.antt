use Rattle.opa_model.proofs.PhrasesLaws.{declares_in}
use Rattle.opa_parse.proofs.texts.Texts.put.Goals as goal

pub returns-clause-ok : goal.returns-clause-ok
returns-clause-ok c = declares_in (λ k. k.items) c.self.inside.set.keys c.insert.new.self.keys c.args.text c.args.self.now c.in_ok-insert.field-0 c.self.view_is c.in_ok-insert.ensures.added c.in_ok-insert.ensures.keys
