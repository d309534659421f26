use Rattle.std.proofs.Common.{subst, ap, sym, ◌∙◌, length}
use Rattle.opa_words.specs.Kinds.{quoted}
use Rattle.opa_text.specs.Laws.{CanBeQuoted}
use Rattle.opa_verify.specs.Spelling.Spelling.{Reads}
use Rattle.opa_verify.proofs.spelling.Valued.{empty_name}
use Rattle.opa_verify.proofs.spelling.spots.name_of.Goals as goal

pub returns-then-as_str-eq0 : goal.returns-then-as_str-eq0
returns-then-as_str-eq0 c = empty_name c.args.text.now c.in-Some.name (subst (λ o. Reads CanBeQuoted quoted c.args.text.now o) c.in-Some.is c.in_ok-text_in.ensures) (ap length (sym c.as_str.ensures) ∙ c.if-as_str-eq0.true)
