use Rattle.std.proofs.Common.{ℕ, List, sym, ◌∙◌}
use Rattle.opa_words.specs.declared.pieces.Pieces.{Pieces}
use Rattle.opa_words.specs.Pieces.{Piece, seen, AreOfKind}
use Rattle.opa_words.proofs.PieceLists.{something}
use Rattle.opa_text.specs.Spelled.{SpellsNext}
use Rattle.opa_text.proofs.ChangeLaws.{match_some, match_none, if_some}
use Rattle.opa_text.proofs.NameLaws.{named_more, named_none, named_end, empty_is}
use Rattle.opa_text.proofs.names.with_names.Goals as goal

pub returns-in-None : goal.returns-in-None
returns-in-None c =
    let none = match_none c.in_ok-later_name.field-0 ((n : List ℕ) (after : List Piece) → SpellsNext n (seen c.loop-rest.rest) after → ⊥) (λ (x : List ℕ × Pieces). SpellsNext x.0 (seen c.loop-rest.rest) (seen x.1)) c.in-None.is c.in_ok-later_name.ensures.name in
    named_none c.args.first (seen c.args.start) c.loop-rest.names (seen c.loop-rest.rest) c.loop-rest.invariant.named (something (seen c.loop-rest.rest) (sym c.is_empty.ensures ∙ c.loop-rest-test.true)) none

pub loop-rest-preserved : goal.loop-rest-preserved
loop-rest-preserved c =
    let one = match_some c.in_ok-later_name.field-0 (c.in-Some.name, c.in-Some.after) ((n : List ℕ) (after : List Piece) → SpellsNext n (seen c.loop-rest.rest) after → ⊥) (λ (x : List ℕ × Pieces). SpellsNext x.0 (seen c.loop-rest.rest) (seen x.1)) c.in-Some.is c.in_ok-later_name.ensures.name in
    record {
      named = named_more c.args.first (seen c.args.start) c.loop-rest.names c.push-in-Some.new.self (seen c.loop-rest.rest) (seen c.in-Some.after) c.in-Some.name c.loop-rest.invariant.named one c.in_ok-push-in-Some.ensures.ok;
      kinds = if_some c.in_ok-later_name.field-0 (c.in-Some.name, c.in-Some.after) (λ (x : List ℕ × Pieces). AreOfKind x.1) c.in-Some.is c.in_ok-later_name.ensures.later;
    }

pub returns : goal.returns
returns c = named_end c.args.first (seen c.args.start) c.loop-rest.names (seen c.loop-rest.rest) c.loop-rest.invariant.named (empty_is (seen c.loop-rest.rest) (sym c.is_empty.ensures ∙ c.loop-rest-test.false))
