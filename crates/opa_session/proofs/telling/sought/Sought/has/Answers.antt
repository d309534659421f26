use Rattle.std.proofs.Common.{◌∙◌, sym}
use Rattle.opa_cells.specs.Instances.{named}
use Rattle.opa_session.specs.Telling.Wanted.{has_wanted}
use Rattle.opa_session.proofs.telling.Marking.{not_wanted}
use Rattle.opa_session.proofs.telling.sought.Sought.has.Goals as goal

pub returns-else-may_be : goal.returns-else-may_be
returns-else-may_be c = let x = c.args.self.now in c.if-may_be.false ∙ sym (not_wanted (has_wanted x.wanted) x.marks x.marked (named c.args.entity c.args.name.now) (sym c.may_be.ensures ∙ c.if-may_be.false))
