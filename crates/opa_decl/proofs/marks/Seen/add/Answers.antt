use Rattle.opa_model.proofs.PhrasesLaws.{declares_in}
use Rattle.opa_decl.proofs.marks.Seen.add.Goals as goal

pub returns : goal.returns
returns c = declares_in (λ k. k.items) c.self.inside.texts.keys c.insert.new.self.keys c.args.text c.args.self.now c.in_ok-insert.field-0 c.self.view_is c.in_ok-insert.ensures.added c.in_ok-insert.ensures.keys
