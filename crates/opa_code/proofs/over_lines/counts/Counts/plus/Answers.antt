use Rattle.std.proofs.Common.{rules, of_calls}
use Rattle.opa_code.proofs.over_lines.counts.Counts.plus.Goals as goal

pub returns : goal.returns
returns c = record {
  falses = search (rules, of_calls);
  trues = search (rules, of_calls);
  unknowns = search (rules, of_calls);
  uncertains = search (rules, of_calls);
  total = search (rules, of_calls);
}
