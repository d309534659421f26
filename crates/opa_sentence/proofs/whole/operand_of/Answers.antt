use Rattle.std.proofs.Common.{sym, subst, ◌∙◌}
use Rattle.std.specs.Prelude.{Some, None}
use Rattle.std.specs.Option.{option_map}
use Rattle.opa_sentence.specs.Cursors.{seen}
use Rattle.opa_sentence.specs.Lexemes.{lexemes}
use Rattle.opa_sentence.specs.Spelled.{IsReadAs}
use Rattle.opa_sentence.specs.Grammar.{OPERAND}
use Rattle.opa_sentence.specs.Laws.{sort_of}
use Rattle.opa_sentence.proofs.Wholes.{none_whole, some_whole, more_whole, none_left, some_left}
use Rattle.opa_sentence.proofs.whole.operand_of.Goals as goal

pub returns-in-None : goal.returns-in-None
returns-in-None c =
    let ns = c.args.names.now in
    none_whole ns OPERAND (lexemes c.args.text.now c.args.tokens.now)
    (subst (λ ts. IsReadAs ns (sort_of OPERAND) ts None) c.new.ensures (subst (λ o. IsReadAs ns (sort_of OPERAND) (seen c.new.result) (option_map (λ x. (x.0, seen x.1)) o)) c.in-None.is c.in_ok-read.ensures))

pub returns-then-is_empty : goal.returns-then-is_empty
returns-then-is_empty c =
    let ns = c.args.names.now in
    some_whole ns OPERAND (lexemes c.args.text.now c.args.tokens.now) c.in-Some.reading (seen c.in-Some.rest)
    (subst (λ ts. IsReadAs ns (sort_of OPERAND) ts (Some (c.in-Some.reading, seen c.in-Some.rest))) c.new.ensures (subst (λ o. IsReadAs ns (sort_of OPERAND) (seen c.new.result) (option_map (λ x. (x.0, seen x.1)) o)) c.in-Some.is c.in_ok-read.ensures))
    (none_left c.in-Some.rest.text.now c.in-Some.rest.tokens.now (sym c.is_empty.ensures ∙ c.if-is_empty.true))

pub returns-else-is_empty : goal.returns-else-is_empty
returns-else-is_empty c =
    let ns = c.args.names.now in
    more_whole ns OPERAND (lexemes c.args.text.now c.args.tokens.now) c.in-Some.reading (seen c.in-Some.rest)
    (subst (λ ts. IsReadAs ns (sort_of OPERAND) ts (Some (c.in-Some.reading, seen c.in-Some.rest))) c.new.ensures (subst (λ o. IsReadAs ns (sort_of OPERAND) (seen c.new.result) (option_map (λ x. (x.0, seen x.1)) o)) c.in-Some.is c.in_ok-read.ensures))
    (some_left c.in-Some.rest.text.now c.in-Some.rest.tokens.now (sym c.is_empty.ensures ∙ c.if-is_empty.false))
