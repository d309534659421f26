use Rattle.std.proofs.Common.{sym, arith}
use Rattle.opa_words.specs.Pieces.{seen}
use Rattle.opa_text.proofs.PointLaws.{ends_here, ends_not, two_left}
use Rattle.opa_text.proofs.pointed.ends_with.Goals as goal

pub returns-then-is_word-clause-ends : goal.returns-then-is_word-clause-ends
returns-then-is_word-clause-ends c =
    ends_here c.args.word.now c.in_ok-kind.text.now c.in_ok-last_kind.last_text.now c.in_ok-kind.kind c.in_ok-last_kind.last_kind (seen c.split.result.0) (seen c.split.result.1) (seen c.args.pieces) (seen c.in_ok-kind.rest) (seen c.in_ok-last_kind.field-0-2)
    c.split.ensures.parts c.in_ok-kind.ensures.first c.in_ok-last_kind.ensures.first
    (two_left (seen c.args.pieces) (seen c.split.result.0) (seen c.split.result.1) (seen c.in_ok-kind.rest) (seen c.in_ok-last_kind.field-0-2) _ _ (omega (arith, c.if-len-lt2.false)) c.split.ensures.parts (omega (arith, c.split.ensures.front)) c.in_ok-kind.ensures.first c.in_ok-last_kind.ensures.first)
    (sym c.if-is_word.ensures)

pub returns-else-is_word-clause-ends : goal.returns-else-is_word-clause-ends
returns-else-is_word-clause-ends c =
    ends_not c.args.word.now c.in_ok-kind.text.now c.in_ok-last_kind.last_text.now c.in_ok-kind.kind c.in_ok-last_kind.last_kind (seen c.split.result.0) (seen c.split.result.1) (seen c.args.pieces) (seen c.in_ok-kind.rest) (seen c.in_ok-last_kind.field-0-2)
    c.split.ensures.parts c.in_ok-kind.ensures.first c.in_ok-last_kind.ensures.first
    (two_left (seen c.args.pieces) (seen c.split.result.0) (seen c.split.result.1) (seen c.in_ok-kind.rest) (seen c.in_ok-last_kind.field-0-2) _ _ (omega (arith, c.if-len-lt2.false)) c.split.ensures.parts (omega (arith, c.split.ensures.front)) c.in_ok-kind.ensures.first c.in_ok-last_kind.ensures.first)
    (sym c.if-is_word.ensures)
