use Rattle.std.proofs.Common.{ℕ, List, ap, ◌∙◌}
use Rattle.opa_value.specs.declared.value.Value.{Value}
use Rattle.opa_words.specs.Pieces.{seen, pieces}
use Rattle.opa_text.specs.Spelled.{SpellsLine}
use Rattle.opa_text.proofs.ChangeLaws.{match_none}
use Rattle.opa_text.proofs.WholeLaws.{uncut_line, no_line}
use Rattle.opa_text.proofs.whole.read_line.Goals as goal

pub returns-in-Err-clause-fault : goal.returns-in-Err-clause-fault
returns-in-Err-clause-fault c = uncut_line c.args.text.now c.in-Err.fault c.in-Err.ensures.fault

pub returns-in-Ok-None-clause-fault : goal.returns-in-Ok-None-clause-fault
returns-in-Ok-None-clause-fault c =
    let none = match_none c.in-Ok-None.field-0 ((l : List (ℕ × Value)) → SpellsLine l (seen c.new.result) → ⊥) (λ l. SpellsLine l (seen c.new.result)) c.in-Ok-None.field-0-is c.in-Ok-None.ensures.line in
    no_line c.args.text.now c.in-Ok.found.items (seen c.new.result) c.in-Ok.ensures.cut (c.new.ensures.tokens ∙ ap (pieces c.args.text.now) c.deref.ensures.value) none
