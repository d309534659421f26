use Rattle.std.proofs.Common.{leb, ◌≡◌, Some, sym, ap, ◌∙◌, subst, rules, arith}
use Rattle.std.proofs.lemmas.List.Sorted.{IsPartitionPoint-from_clause, IsPartitionedBy-leb}
use Rattle.opa_date.specs.declared.TheConstants.{DAYS}
use Rattle.opa_line.specs.Lines.{at, IsLine}
use Rattle.opa_line.proofs.LastPairs.{place_of, line_rises, place_some}
use Rattle.opa_verify.proofs.listed.Steadiness.{steady_then, steady_same, steady_value}
use Rattle.opa_verify.proofs.listed.steady.is_steady.Goals as goal

pub overflow_sub-first : goal.overflow_sub-first
overflow_sub-first c =
    let pairs = c.segments-pairs.result.now in
    let form = subst (IsLine DAYS) (sym c.segments-pairs.ensures.value) c.segments-pairs.ensures.form in
    let point = IsPartitionPoint-from_clause (λ p. leb p.0 c.args.start) pairs c.partition_point-first.result c.partition_point-first.ensures.partitioned (IsPartitionedBy-leb (λ p. p.0) pairs c.args.start (line_rises DAYS pairs form)) (λ a r q k. search rules) in
    place_some DAYS pairs c.args.start c.partition_point-first.result form (place_of pairs c.args.start c.partition_point-first.result point)

pub returns-then-first-last : goal.returns-then-first-last
returns-then-first-last c =
    let pairs = c.segments-pairs.result.now in
    let form = subst (IsLine DAYS) (sym c.segments-pairs.ensures.value) c.segments-pairs.ensures.form in
    let first = IsPartitionPoint-from_clause (λ p. leb p.0 c.args.start) pairs c.partition_point-first.result c.partition_point-first.ensures.partitioned (IsPartitionedBy-leb (λ p. p.0) pairs c.args.start (line_rises DAYS pairs form)) (λ a r q k. search rules) in
    let last = IsPartitionPoint-from_clause (λ p. leb p.0 c.args.end) pairs c.partition_point-last.result c.partition_point-last.ensures.partitioned (IsPartitionedBy-leb (λ p. p.0) pairs c.args.end (line_rises DAYS pairs form)) (λ a r q k. search rules) in (
      λ h. absurd (cc h),
      λ steady.
          let same : c.partition_point-first.result ≡ c.partition_point-last.result =
          steady_same DAYS pairs form c.args.start c.args.end c.partition_point-first.result c.partition_point-last.result (0, c.args.shade.now) c.requires.order (place_of pairs c.args.start _ first) (place_of pairs c.args.end _ last)
          c.partition_point-first.ensures.bound c.partition_point-last.ensures.bound c.args.shade.now (λ d after until. ap (λ l. at l d) c.segments-pairs.ensures.value ∙ steady d after until) in
          absurd (omega (arith, same, c.if-first-last.true)),
    )

pub returns : goal.returns
returns c =
    let pairs = c.segments-pairs.result.now in
    let form = subst (IsLine DAYS) (sym c.segments-pairs.ensures.value) c.segments-pairs.ensures.form in
    let first = IsPartitionPoint-from_clause (λ p. leb p.0 c.args.start) pairs c.partition_point-first.result c.partition_point-first.ensures.partitioned (IsPartitionedBy-leb (λ p. p.0) pairs c.args.start (line_rises DAYS pairs form)) (λ a r q k. search rules) in
    let last = IsPartitionPoint-from_clause (λ p. leb p.0 c.args.end) pairs c.partition_point-last.result c.partition_point-last.ensures.partitioned (IsPartitionedBy-leb (λ p. p.0) pairs c.args.end (line_rises DAYS pairs form)) (λ a r q k. search rules) in
    let equal : c.partition_point-first.result ≡ c.partition_point-last.result = omega (arith, c.if-first-last.false) in (
      λ h d after until.
          ap (λ l. at l d) (sym c.segments-pairs.ensures.value)
          ∙ steady_then DAYS pairs form c.args.start c.args.end c.partition_point-first.result c.partition_point-last.result c.index-pairs-first.result c.requires.order (place_of pairs c.args.start _ first) (place_of pairs c.args.end _ last)
          c.partition_point-first.ensures.bound c.partition_point-last.ensures.bound equal d after until
          ∙ ap Some (c.same.ensures.0 h),
      λ steady. c.same.ensures.1 (steady_value DAYS pairs form c.args.start c.args.end c.partition_point-first.result c.partition_point-last.result c.index-pairs-first.result c.requires.order (place_of pairs c.args.start _ first) (place_of pairs c.args.end _ last)
          c.partition_point-first.ensures.bound c.partition_point-last.ensures.bound c.args.shade.now (λ d after until. ap (λ l. at l d) c.segments-pairs.ensures.value ∙ steady d after until)),
    )
