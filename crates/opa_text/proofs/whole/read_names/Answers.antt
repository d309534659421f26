use Rattle.std.proofs.Common.{ℕ, List, ap, ◌∙◌}
use Rattle.opa_words.specs.Pieces.{seen, pieces}
use Rattle.opa_text.specs.Spelled.{SpellsNames}
use Rattle.opa_text.proofs.ChangeLaws.{match_none}
use Rattle.opa_text.proofs.WholeLaws.{uncut_names, no_names}
use Rattle.opa_text.proofs.whole.read_names.Goals as goal

pub returns-in-Err-clause-fault : goal.returns-in-Err-clause-fault
returns-in-Err-clause-fault c = uncut_names c.args.text.now c.in-Err.fault c.in-Err.ensures.fault

pub returns-in-Ok-None-clause-fault : goal.returns-in-Ok-None-clause-fault
returns-in-Ok-None-clause-fault c =
    let none = match_none c.in-Ok-None.field-0 ((l : List (List ℕ)) → SpellsNames l (seen c.new.result) → ⊥) (λ l. SpellsNames l (seen c.new.result)) c.in-Ok-None.field-0-is c.in-Ok-None.ensures in
    no_names c.args.text.now c.in-Ok.found.items (seen c.new.result) c.in-Ok.ensures.cut (c.new.ensures.tokens ∙ ap (pieces c.args.text.now) c.deref.ensures.value) none
