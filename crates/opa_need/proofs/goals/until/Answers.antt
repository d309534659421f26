use Rattle.std.proofs.Common.{leb, sym, ap, ◌∙◌, subst, rules, arith}
use Rattle.std.proofs.lemmas.List.Sorted.{IsPartitionPoint-from_clause, IsPartitionedBy-leb}
use Rattle.opa_date.specs.declared.TheConstants.{DAYS}
use Rattle.opa_line.specs.Lines.{IsLine}
use Rattle.opa_line.proofs.LastPairs.{place_of, line_rises}
use Rattle.opa_need.specs.Goals.{next_change}
use Rattle.opa_need.proofs.GoalLaws.{next_at, next_past}
use Rattle.opa_need.proofs.goals.until.Goals as goal

pub returns-then-reached-pairs : goal.returns-then-reached-pairs
returns-then-reached-pairs c =
    let form = subst (IsLine DAYS) (sym c.segments-pairs.ensures.value) c.segments-pairs.ensures.form in
    let parted = IsPartitionedBy-leb (λ p. p.0) c.segments-pairs.result.now c.args.day (line_rises DAYS c.segments-pairs.result.now form) in
    let point = IsPartitionPoint-from_clause (λ p. leb p.0 c.args.day) c.segments-pairs.result.now c.partition_point-reached.result c.partition_point-reached.ensures.partitioned parted (λ a r q k. search rules) in
    sym (ap (next_change c.args.day) (sym c.segments-pairs.ensures.value) ∙ next_at c.segments-pairs.result.now c.args.day c.partition_point-reached.result c.index-pairs-reached.result (place_of c.segments-pairs.result.now c.args.day c.partition_point-reached.result point) (search (arith, rules)))

pub returns-else-reached-pairs : goal.returns-else-reached-pairs
returns-else-reached-pairs c =
    let form = subst (IsLine DAYS) (sym c.segments-pairs.ensures.value) c.segments-pairs.ensures.form in
    let parted = IsPartitionedBy-leb (λ p. p.0) c.segments-pairs.result.now c.args.day (line_rises DAYS c.segments-pairs.result.now form) in
    let point = IsPartitionPoint-from_clause (λ p. leb p.0 c.args.day) c.segments-pairs.result.now c.partition_point-reached.result c.partition_point-reached.ensures.partitioned parted (λ a r q k. search rules) in
    sym (ap (next_change c.args.day) (sym c.segments-pairs.ensures.value) ∙ next_past c.segments-pairs.result.now c.args.day c.partition_point-reached.result (place_of c.segments-pairs.result.now c.args.day c.partition_point-reached.result point) (search (arith, rules)))
