use Rattle.std.proofs.Common.{ℕ, List, sym, ◌∙◌}
use Rattle.opa_value.specs.declared.value.Value.{Value}
use Rattle.opa_words.specs.declared.pieces.Pieces.{Pieces}
use Rattle.opa_words.specs.Pieces.{Piece, seen, AreOfKind}
use Rattle.opa_words.proofs.PieceLists.{something}
use Rattle.opa_text.specs.Spelled.{SpellsLater}
use Rattle.opa_text.proofs.ChangeLaws.{match_some, match_none, if_some, reached_more, reached_none, reached_end}
use Rattle.opa_text.proofs.NameLaws.{empty_is}
use Rattle.opa_text.proofs.changes.with_changes.Goals as goal

pub returns-in-None : goal.returns-in-None
returns-in-None c =
    let none = match_none c.in_ok-later_change.field-0 ((p : ℕ × Value) (after : List Piece) → SpellsLater c.loop-rest.last p (seen c.loop-rest.rest) after → ⊥) (λ (x : (ℕ × Value) × Pieces). SpellsLater c.loop-rest.last x.0 (seen c.loop-rest.rest) (seen x.1)) c.in-None.is c.in_ok-later_change.ensures.change in
    reached_none c.args.first (seen c.args.start) c.loop-rest.pairs.items c.loop-rest.last (seen c.loop-rest.rest) c.loop-rest.invariant.reached (something (seen c.loop-rest.rest) (sym c.is_empty.ensures ∙ c.loop-rest-test.true)) none

pub loop-rest-preserved : goal.loop-rest-preserved
loop-rest-preserved c =
    let one = match_some c.in_ok-later_change.field-0 (c.in-Some.change, c.in-Some.after) ((p : ℕ × Value) (after : List Piece) → SpellsLater c.loop-rest.last p (seen c.loop-rest.rest) after → ⊥) (λ (x : (ℕ × Value) × Pieces). SpellsLater c.loop-rest.last x.0 (seen c.loop-rest.rest) (seen x.1)) c.in-Some.is c.in_ok-later_change.ensures.change in
    record {
      reached =
          reached_more c.args.first (seen c.args.start) c.loop-rest.pairs.items c.push-in-Some.new.self.items c.loop-rest.last (seen c.loop-rest.rest) (seen c.in-Some.after) c.in-Some.change c.loop-rest.invariant.reached one c.in_ok-push-in-Some.ensures.items;
      kinds = if_some c.in_ok-later_change.field-0 (c.in-Some.change, c.in-Some.after) (λ (x : (ℕ × Value) × Pieces). AreOfKind x.1) c.in-Some.is c.in_ok-later_change.ensures.later;
    }

pub returns : goal.returns
returns c = reached_end c.args.first (seen c.args.start) c.loop-rest.pairs.items c.loop-rest.last (seen c.loop-rest.rest) c.loop-rest.invariant.reached (empty_is (seen c.loop-rest.rest) (sym c.is_empty.ensures ∙ c.loop-rest-test.false))
