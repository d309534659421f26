use Rattle.std.proofs.Common.{ℕ, List}
use Rattle.opa_value.specs.declared.value.Value.{Value}
use Rattle.opa_words.specs.Pieces.{seen}
use Rattle.opa_text.specs.Spelled.{SpellsPairs}
use Rattle.opa_text.proofs.ChangeLaws.{pairs_faultless, line_days, match_some}
use Rattle.opa_text.proofs.changes.line_of.Goals as goal

pub line_from-requires : goal.line_from-requires
line_from-requires c =
    pairs_faultless c.in-Some.pairs.items (seen c.args.pieces) (match_some c.in_ok-pairs_of.field-0 c.in-Some.pairs ((ps : List (ℕ × Value)) → SpellsPairs ps (seen c.args.pieces) → ⊥) (λ v. SpellsPairs v.items (seen c.args.pieces)) c.in-Some.is c.in_ok-pairs_of.ensures)

pub returns-in_ok-line_from-in-Some-clause-days : goal.returns-in_ok-line_from-in-Some-clause-days
returns-in_ok-line_from-in-Some-clause-days c =
    line_days c.in_ok-line_from-in-Some.field-0 (seen c.args.pieces)
    (c.in-Some.pairs.items, match_some c.in_ok-pairs_of.field-0 c.in-Some.pairs ((ps : List (ℕ × Value)) → SpellsPairs ps (seen c.args.pieces) → ⊥) (λ v. SpellsPairs v.items (seen c.args.pieces)) c.in-Some.is c.in_ok-pairs_of.ensures, c.in_ok-line_from-in-Some.ensures)
