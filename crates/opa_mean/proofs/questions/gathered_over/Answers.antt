use Rattle.std.proofs.Common.{[], ◌∷◌, ◌∙◌, subst}
use Rattle.opa_mean.specs.Given.{base_of}
use Rattle.opa_mean.specs.Gathering.{AreThose, Gathers}
use Rattle.opa_mean.specs.Reads.{reads, rule_reads}
use Rattle.opa_mean.proofs.Gathered.{gathers_whole}
use Rattle.opa_mean.proofs.questions.gathered_over.Goals as goal

pub returns-in_ok-gather_once-in-Some : goal.returns-in_ok-gather_once-in-Some
returns-in_ok-gather_once-in-Some g c =
    let s = (base_of c.args.base.now).shape in let m = (g.K.Look.looks c.args.look.now).members in let up = (g.K.Look.looks c.args.look.now).container in
    let x = c.in-Some.rule.now.expr in let i = c.args.inst.now in let new = c.gather_once.new.found in
    subst (λ o. AreThose new (rule_reads o (λ y. reads s m up y (i ∷ [])))) c.in-Some.ensures
    (gathers_whole (reads s m up x) (i ∷ []) c.new-found.result new c.new-found.ensures
    (subst (λ e. Gathers (reads s m up x) e [] c.new-found.result new) (c.as_slice-around.ensures ∙ c.in_ok-enclosing-in-Some.ensures) c.in_ok-gather_once-in-Some.ensures))
