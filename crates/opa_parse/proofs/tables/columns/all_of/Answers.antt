use Rattle.std.proofs.Common.{ap, sym, ◌∙◌}
use Rattle.opa_sentence.specs.Measures.{bounded}
use Rattle.opa_sentence.specs.Readings as says
use Rattle.opa_parse.proofs.tables.ColumnLaws.{all_of_several}
use Rattle.opa_parse.proofs.tables.columns.all_of.Goals as goal

pub returns-in_ok-gathered-in-Some : goal.returns-in_ok-gathered-in-Some
returns-in_ok-gathered-in-Some c =
    let again = c.in_ok-push-in-Some.ensures.ok ∙ sym c.in-Some.ensures in
    c.all.ensures ∙ ap (says.all bounded) (c.in_ok-gathered-in-Some.ensures ∙ ap (says.lines bounded) again) ∙ sym (all_of_several c.args.parts c.pop.new.self c.in-Some.last c.in-Some.ensures (λ e. c.if-len-eq0.false (c.len.ensures ∙ e)))
