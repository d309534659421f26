use Rattle.std.proofs.Common.{ℕ, List}
use Rattle.opa_value.specs.declared.value.Value.{Value}
use Rattle.opa_words.specs.Pieces.{seen}
use Rattle.opa_text.specs.Spelled.{SpellsLine}
use Rattle.opa_text.proofs.ChangeLaws.{match_none}
use Rattle.opa_script.proofs.Found.{no_line_change}
use Rattle.opa_script.proofs.replies.answer_to.Goals as goal

pub returns-in-None : goal.returns-in-None
returns-in-None c =
    no_line_change c.args.question.now c.in-Attr.attr c.in-Attr.inst (seen c.args.pieces) c.in-Attr.is
    (match_none c.in_ok-line_of-in-Attr.field-0 ((l : List (ℕ × Value)) → SpellsLine l (seen c.args.pieces) → ⊥) (λ l. SpellsLine l (seen c.args.pieces)) c.in-None.is c.in_ok-line_of-in-Attr.ensures.line)
