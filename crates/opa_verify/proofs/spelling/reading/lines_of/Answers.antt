use Rattle.std.proofs.Common.{◌+◌, length, sym, ap, subst, ◌∙◌, arith}
use Rattle.std.specs.Cmp.Lexicographic.{bytes_decides}
use Rattle.std.proofs.lemmas.Bool.{eqb-true, eqb-false, both_ways}
use Rattle.std.proofs.lemmas.List.{nil_from_length}
use Rattle.std.proofs.lemmas.Result.{IfOk-weaker}
use Rattle.opa_verify.specs.Spelling.Spelling.{CanBePrinted, Reads}
use Rattle.opa_verify.specs.Spelling.Printed.{head_line, numbered_line, end_line}
use Rattle.opa_verify.specs.Spelling.Reading.{IsReadFrom}
use Rattle.opa_verify.proofs.spelling.Whole.{so_far_none, so_far_more, whole_is, broken_behind, broken_line, broken_off}
use Rattle.opa_verify.proofs.spelling.reading.lines_of.Goals as goal

pub loop-line-init : goal.loop-line-init
loop-line-init c = so_far_none c.args.text.now (head_line c.args.asked c.args.day) c.args.start.now c.new-printed.result c.new-printed.ensures c.requires.start c.requires.lines

pub loop-line-preserved : goal.loop-line-preserved
loop-line-preserved c =
    let n = c.len.result + 1 in let line = c.in-Some.line.now in
    let says = subst (λ o. Reads CanBePrinted (numbered_line n) line o) c.in-Some-2.is c.in_ok-numbered_in.ensures in
    so_far_more c.args.text.now (head_line c.args.asked c.args.day) c.loop-line.rest.now line c.in-Some.later.now c.loop-line.printed c.push.new.self c.in-Some-2.found n
    c.loop-line.invariant c.in-Some.ensures.parts c.in-Some.ensures.lines (ap (λ m. m + 1) c.len.ensures) says.1 says.0 c.in_ok-push-in-Some-2.ensures.ok

pub returns-then-not-is_empty : goal.returns-then-not-is_empty
returns-then-not-is_empty c =
    let n = c.len.result + 1 in let line = c.in-Some.line.now in let later = c.in-Some.later.now in
    IfOk-weaker c.broken_at.result _ _ (λ r e. subst (IsReadFrom c.args.text.now) (sym e)
    (broken_behind c.args.text.now c.loop-line.rest.now line later c.args.asked c.args.day n c.loop-line.printed c.requires.asked c.requires.day c.loop-line.invariant c.in-Some.ensures.lines
    (sym ((bytes_decides end_line line).0 (sym c.is_text.ensures ∙ c.if-is_text.true))) (λ e. eqb-false (length later) 0 (sym c.is_empty.ensures ∙ c.if-not-is_empty.true) (ap length e)) (ap (λ m. m + 1) c.len.ensures) (omega arith)))
    c.broken_at.ensures

pub returns-in-None : goal.returns-in-None
returns-in-None c =
    let n = c.len.result + 1 in let line = c.in-Some.line.now in let later = c.in-Some.later.now in
    IfOk-weaker c.broken_at-in-None.result _ _ (λ r e. subst (IsReadFrom c.args.text.now) (sym e)
    (broken_line c.args.text.now c.loop-line.rest.now line later c.args.asked c.args.day n c.loop-line.printed c.requires.asked c.requires.day c.loop-line.invariant c.in-Some.ensures.lines
    (λ e. both_ways c.is_text.result c.if-is_text.false (c.is_text.ensures ∙ (bytes_decides end_line line).1 (sym e))) (ap (λ m. m + 1) c.len.ensures) (omega arith)
    (subst (λ o. Reads CanBePrinted (numbered_line n) line o) c.in-None.is c.in_ok-numbered_in.ensures)))
    c.broken_at-in-None.ensures

pub returns : goal.returns
returns c =
    IfOk-weaker c.broken_at-2.result _ _ (λ r e. subst (IsReadFrom c.args.text.now) (sym e)
    (broken_off c.args.text.now c.loop-line.rest.now c.args.asked c.args.day c.len-2.result c.loop-line.printed c.requires.asked c.requires.day c.loop-line.invariant c.in_default.ensures.lines c.len-2.ensures (omega arith)))
    c.broken_at-2.ensures

pub returns-then-is_text : goal.returns-then-is_text
returns-then-is_text c =
    let line = c.in-Some.line.now in let later = c.in-Some.later.now in
    whole_is c.args.text.now c.loop-line.rest.now line later c.args.asked c.args.day c.loop-line.printed c.loop-line.invariant c.in-Some.ensures.parts (sym ((bytes_decides end_line line).0 (sym c.is_text.ensures ∙ c.if-is_text.true)))
    (nil_from_length later (eqb-true (length later) 0 (sym c.is_empty.ensures ∙ c.if-not-is_empty.false))) c.requires.asked c.requires.day
