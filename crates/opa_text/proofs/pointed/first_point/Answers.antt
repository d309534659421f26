use Rattle.std.proofs.Common.{◌≤◌, List, length, sym, subst, ◌∙◌}
use Rattle.opa_words.specs.Pieces.{Piece, seen}
use Rattle.opa_text.specs.declared.pointed.Point.{Point}
use Rattle.opa_text.specs.Pointed.{SpellsFirst}
use Rattle.opa_text.proofs.ChangeLaws.{match_some, match_none}
use Rattle.opa_text.proofs.FirstPoints.{end_within, first_told}
use Rattle.opa_text.proofs.pointed.first_point.Goals as goal

pub split-requires-clause-count : goal.split-requires-clause-count
split-requires-clause-count c = subst (λ n. n ≤ length (seen c.args.pieces)) (sym c.point_end.ensures) (end_within (seen c.args.pieces))

pub returns-in-None-clause-point : goal.returns-in-None-clause-point
returns-in-None-clause-point c =
    match_none c.in_ok-point_of.field-0 ((p : Point) (left : List Piece) → SpellsFirst p (seen c.args.pieces) left → ⊥) (λ p. SpellsFirst p (seen c.args.pieces) (seen c.split.result.1)) c.in-None.is
    (first_told c.in_ok-point_of.field-0 (seen c.args.pieces) (seen c.split.result.0) (seen c.split.result.1) c.split.ensures.parts (c.split.ensures.front ∙ c.point_end.ensures) c.in_ok-point_of.ensures)

pub returns-in-Some-clause-point : goal.returns-in-Some-clause-point
returns-in-Some-clause-point c =
    match_some c.in_ok-point_of.field-0 c.in-Some.point ((p : Point) (left : List Piece) → SpellsFirst p (seen c.args.pieces) left → ⊥) (λ p. SpellsFirst p (seen c.args.pieces) (seen c.split.result.1)) c.in-Some.is
    (first_told c.in_ok-point_of.field-0 (seen c.args.pieces) (seen c.split.result.0) (seen c.split.result.1) c.split.ensures.parts (c.split.ensures.front ∙ c.point_end.ensures) c.in_ok-point_of.ensures)
