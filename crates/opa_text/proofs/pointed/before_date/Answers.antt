use Rattle.std.specs.Prelude.{codes}
use Rattle.opa_words.specs.declared.kinds.TokenKind.TheVariants as kind
use Rattle.opa_words.specs.Pieces.{seen}
use Rattle.opa_text.proofs.PointLaws.{ends_otherwise, no_date}
use Rattle.opa_text.proofs.pointed.before_date.Goals as goal

pub returns-in-Word-clause-ends : goal.returns-in-Word-clause-ends
returns-in-Word-clause-ends c = ends_otherwise (codes "at") c.in_ok-front.text.now c.in_ok-front.kind kind.Date (seen c.in_ok-front.front) (seen c.args.pieces) c.in_ok-front.ensures.ends (no_date c.in_ok-front.kind c.in-Word.is)
