use Rattle.std.proofs.Common.{rules, ◌≡◌, sym, subst, ◌*◌}
use Rattle.std.specs.Prelude.{pos, neg_ℤ, ◌≤ℤ◌, ◌*ℤ◌}
use Rattle.opa_window.proofs.Totals.{low, high}
use Rattle.opa_window.proofs.sums.times.Goals as goal

pub returns-clause-low : goal.returns-clause-low
returns-clause-low c =
    let e : c.product.result ≡ pos c.args.days *ℤ c.args.count = search rules in
    let h : neg_ℤ (pos 9223372036854775808) ≤ℤ c.args.count = search rules in
    let k : neg_ℤ (pos (c.args.days * 9223372036854775808)) ≤ℤ c.product.result = subst (λ z. neg_ℤ (pos (c.args.days * 9223372036854775808)) ≤ℤ z) (sym e) (low 9223372036854775808 c.args.days c.args.count h) in
    search rules

pub returns-clause-high : goal.returns-clause-high
returns-clause-high c =
    let e : c.product.result ≡ pos c.args.days *ℤ c.args.count = search rules in
    let h : c.args.count ≤ℤ pos 9223372036854775808 = search rules in
    let k : c.product.result ≤ℤ pos (c.args.days * 9223372036854775808) = subst (λ z. z ≤ℤ pos (c.args.days * 9223372036854775808)) (sym e) (high 9223372036854775808 c.args.days c.args.count h) in
    search rules
