use Rattle.opa_saved.proofs.PartLaws.{line_found}
use Rattle.opa_saved.proofs.read_lines.line_of.Goals as goal

pub returns-in-Ok : goal.returns-in-Ok
returns-in-Ok c = line_found c.args.pairs.items c.in-Ok.line c.from_pairs.result c.in-Ok.is c.segments-form.ensures.form c.from_pairs.ensures.faulty c.from_pairs.ensures.line
