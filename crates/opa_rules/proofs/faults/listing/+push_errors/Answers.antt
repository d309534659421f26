use Rattle.std.proofs.Common.{rules, sym, ap, subst, ◌∙◌, All}
use Rattle.std.specs.String.{string_bytes}
use Rattle.opa_io.proofs.Results.{on_ok_then}
use Rattle.opa_words.specs.declared.layout.block.Block.{Block}
use Rattle.opa_parse.specs.Fronts.{AreShort}
use Rattle.opa_rules.specs.Faults.Listing.{goes_on}
use Rattle.opa_rules.proofs.FaultLaws.{Puts, PutsOne, short_without, most_reached, free_listed, last_listed, left_listed}
use Rattle.opa_rules.proofs.faults.listing.+push_errors.Goals as goal

pub returns-then-most-eq0 : goal.returns-then-most-eq0
returns-then-most-eq0 t c =
    let files = c.args.files.now in let known = c.args.known.now.texts in
    on_ok_then c.push_most.result _ (Puts files known c.args.most c.args.blocks (string_bytes c.args.out.now) (string_bytes c.push_most.new.out))
    (most_reached files known c.args.most c.args.blocks (string_bytes c.args.out.now) (string_bytes c.push_most.new.out) c.if-most-eq0.true) c.push_most.ensures

pub push_errors-requires : goal.push_errors-requires
push_errors-requires t c =
    (search rules, (subst (All (λ (b : Block). AreShort b.lines)) (sym c.without-left.ensures) (short_without c.in-Err-Refused.wrong.fault.file c.in-Err-Refused.wrong.fault.line c.args.blocks c.requires.short), c.requires.tables))

pub returns-in-Ok : goal.returns-in-Ok
returns-in-Ok t c =
    free_listed c.args.files.now c.args.known.now.texts c.args.most c.if-most-eq0.false c.args.tables.now _ c.args.blocks c.requires.tables c.as_slice.ensures (string_bytes c.args.out.now) c.in-Ok.ensures.free

pub returns-then-goes_on : goal.returns-then-goes_on
returns-then-goes_on t c =
    let files = c.args.files.now in let known = c.args.known.now.texts in let w = c.in-Err-Refused.wrong in
    on_ok_then c.push_errors.result _ (Puts files known c.args.most c.args.blocks (string_bytes c.args.out.now) (string_bytes c.push_errors.new.out))
    (left_listed files known c.args.most c.if-most-eq0.false c.args.tables.now _ c.args.blocks c.requires.tables c.as_slice.ensures _ w c.in-Err-Refused.field-0-is c.in-Err-Refused.ensures.fault
    (string_bytes c.args.out.now) (string_bytes c.push_error_in.new.out) (string_bytes c.push_errors.new.out) c.without-left.result
    (subst (λ b. PutsOne files known b w (string_bytes c.args.out.now) (string_bytes c.push_error_in.new.out)) c.as_slice-in-Err-Refused.ensures c.in_ok-push_error_in-in-Err-Refused.ensures)
    (ap (λ b. goes_on b w) (sym c.as_slice-in-Err-Refused-2.ensures) ∙ sym c.goes_on.ensures ∙ c.if-goes_on.true) c.without-left.ensures)
    c.push_errors.ensures

pub returns-else-goes_on : goal.returns-else-goes_on
returns-else-goes_on t c =
    let files = c.args.files.now in let known = c.args.known.now.texts in let w = c.in-Err-Refused.wrong in
    last_listed files known c.args.most c.if-most-eq0.false c.args.tables.now _ c.args.blocks c.requires.tables c.as_slice.ensures _ w c.in-Err-Refused.field-0-is c.in-Err-Refused.ensures.fault
    (string_bytes c.args.out.now) (string_bytes c.push_error_in.new.out)
    (subst (λ b. PutsOne files known b w (string_bytes c.args.out.now) (string_bytes c.push_error_in.new.out)) c.as_slice-in-Err-Refused.ensures c.in_ok-push_error_in-in-Err-Refused.ensures)
    (ap (λ b. goes_on b w) (sym c.as_slice-in-Err-Refused-2.ensures) ∙ sym c.goes_on.ensures ∙ c.if-goes_on.false)
