use Rattle.std.proofs.Common.{lit<, sym, ◌∙◌}
use Rattle.std.specs.Prelude.{Some, None}
use Rattle.std.proofs.lemmas.Str.Pattern.{split_once_first}
use Rattle.opa_words.proofs.layout.LineLaws.{rows_ended, rows_last}
use Rattle.opa_words.proofs.layout.lines.first_line.Goals as goal

pub returns-in-Some-clause-rows : goal.returns-in-Some-clause-rows
returns-in-Some-clause-rows c =
    let first = split_once_first 10 c.args.text.now (Some (c.in-Some.bytes, c.in-Some.rest)) c.in-Some.ensures.cases (lit< tt) in
    rows_ended c.args.text.now c.in-Some.bytes.now c.in-Some.rest.now first.0 first.1 first.2

pub returns-else-is_empty-clause-rows : goal.returns-else-is_empty-clause-rows
returns-else-is_empty-clause-rows c =
    rows_last c.args.text.now (split_once_first 10 c.args.text.now None c.in-None.ensures.cases (lit< tt)) (sym c.is_empty.ensures ∙ c.if-is_empty.false)
