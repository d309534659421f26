use Rattle.std.proofs.Common.{leb, sym, ap, ◌∙◌, subst, rules}
use Rattle.std.proofs.lemmas.List.Sorted.{IsPartitionPoint-from_clause, IsPartitionedBy-leb}
use Rattle.opa_date.specs.declared.TheConstants.{DAYS}
use Rattle.opa_line.specs.Lines.{at, IsLine}
use Rattle.opa_line.proofs.LastPairs.{place_of, line_rises, place_some, place_at}
use Rattle.opa_line.proofs.Mapping.{only_pair}
use Rattle.opa_line.proofs.line.Line.at.Goals as goal

pub overflow_sub-result : goal.overflow_sub-result
overflow_sub-result g c =
    let form = subst (IsLine DAYS) (sym c.segments-pairs.ensures.value) c.segments-pairs.ensures.form in
    let parted = IsPartitionedBy-leb (λ p. p.0) c.segments-pairs.result.now c.args.day (line_rises DAYS c.segments-pairs.result.now form) in
    let point = IsPartitionPoint-from_clause (λ p. leb p.0 c.args.day) c.segments-pairs.result.now c.partition_point-reached.result c.partition_point-reached.ensures.partitioned parted (λ a r q k. search rules) in
    place_some DAYS c.segments-pairs.result.now c.args.day c.partition_point-reached.result form (place_of c.segments-pairs.result.now c.args.day c.partition_point-reached.result point)

pub returns : goal.returns
returns g c =
    let form = subst (IsLine DAYS) (sym c.segments-pairs.ensures.value) c.segments-pairs.ensures.form in
    let parted = IsPartitionedBy-leb (λ p. p.0) c.segments-pairs.result.now c.args.day (line_rises DAYS c.segments-pairs.result.now form) in
    let point = IsPartitionPoint-from_clause (λ p. leb p.0 c.args.day) c.segments-pairs.result.now c.partition_point-reached.result c.partition_point-reached.ensures.partitioned parted (λ a r q k. search rules) in
    ap (λ l. at l c.args.day) (sym c.segments-pairs.ensures.value)
    ∙ place_at DAYS c.segments-pairs.result.now c.args.day c.partition_point-reached.result c.index-pairs-reached.result form c.partition_point-reached.ensures.bound (place_of c.segments-pairs.result.now c.args.day c.partition_point-reached.result point)

pub returns-then-pairs-eq1 : goal.returns-then-pairs-eq1
returns-then-pairs-eq1 g c =
    ap (λ l. at l c.args.day) (sym c.segments-pairs.ensures.value) ∙ only_pair c.segments-pairs.result.now c.index-pairs-0.result c.args.day c.if-pairs-eq1.true
