use Rattle.std.proofs.Common.{ap, ◌∙◌, true, cond, Some}
use Rattle.std.specs.Ordering.{nat_cmp}
use Rattle.std.specs.Map.{lookup}
use Rattle.std.specs.BTreeMap.{is_at}
use Rattle.std.specs.Cmp.Lexicographic.{slice_cmp}
use Rattle.opa_case.proofs.Indexed.{row_set}
use Rattle.opa_case.proofs.index.add_sources.Goals as goal

pub returns-in-Ok-clause-ok : goal.returns-in-Ok-clause-ok
returns-in-Ok-clause-ok c =
    let es = c.args.row.now.entries in
    row_set es c.insert.new.self.entries c.args.name.now c.args.inst.now true c.add_source.new.sources
    (λ n. c.in-Ok.ensures.updates.0 n ∙ ap (λ k. cond (is_at (slice_cmp nat_cmp k) n) (Some c.add_source.new.sources) (lookup (is_at (slice_cmp nat_cmp n)) es)) c.in_ok-key.ensures)
    c.requires c.new-sources.result.entries c.new-sources.ensures.empty c.in_ok-add_source.ensures.ok
