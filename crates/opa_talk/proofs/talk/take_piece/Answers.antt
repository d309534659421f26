use Rattle.std.proofs.Common.{◌≡◌, ◌∷◌, ◌++◌, [], arith, ◌∙◌, sym, refl, false}
use Rattle.std.specs.Prelude.{◌==◌}
use Rattle.std.proofs.lemmas.Result.{err_from_is_err_and}
use Rattle.std.proofs.lemmas.List.Elements.{All-append}
use Rattle.opa_talk.specs.Talk.{MayLeave}
use Rattle.opa_talk.specs.Points.{point_of}
use Rattle.opa_talk.proofs.PointsLaws.{joined, joined_whole, carries_none, carries-append, goes_part, breaks_none, breaks_after, breaks_more, breaks_is}
use Rattle.opa_talk.proofs.RoseLaws.{within_later}
use Rattle.opa_talk.proofs.talk.take_piece.Goals as goal

pub loop-bytes-init : goal.loop-bytes-init
loop-bytes-init g c = record {
  done = ([], refl, carries_none g.T.Replier.rule (point_of _ c.args.pending.now) _ c.requires.part);
  going = c.requires.going;
  part = c.requires.part;
  later = omega arith;
  later_take = omega arith;
  later_keep = omega arith;
}

pub take_line-requires-clause-part : goal.take_line-requires-clause-part
take_line-requires-clause-part g c = All-append (λ b. (b == 10) ≡ false) c.loop-bytes.pending.bytes.items c.in-Some.bytes.now c.loop-bytes.invariant.part c.in-Some.ensures.0

pub loop-bytes-preserved : goal.loop-bytes-preserved
loop-bytes-preserved g c =
    let done = c.loop-bytes.invariant.done in
    record {
      done = (
        done.0 ++ (c.in-Some.bytes.now ++ 10 ∷ []),
        joined done.0 _ _ _ _ done.1 c.in-Some.ensures.1,
        carries-append g.T.Replier.rule _ (point_of _ c.loop-bytes.pending) _ _ _ _ _ _ done.2 c.in_ok-over.ensures.ok,
      );
      going = sym c.in_ok-over.ensures.over ∙ c.if-over.false;
      part = c.in_ok-over.ensures.ok.part;
      later = omega arith;
      later_take = omega arith;
      later_keep = omega arith;
    }

pub returns-then-over-clause-ok : goal.returns-then-over-clause-ok
returns-then-over-clause-ok g c =
    let done = c.loop-bytes.invariant.done in
    record {
      front = done.0 ++ (c.in-Some.bytes.now ++ 10 ∷ []);
      rest = c.in-Some.after.now;
      cut = joined done.0 _ _ _ _ done.1 c.in-Some.ensures.1;
      over = sym c.in_ok-over.ensures.over ∙ c.if-over.true;
      carried = carries-append g.T.Replier.rule _ (point_of _ c.loop-bytes.pending) _ _ _ _ _ _ done.2 c.in_ok-over.ensures.ok;
    }

pub returns-in_err-over-clause-err : goal.returns-in_err-over-clause-err
returns-in_err-over-clause-err g c =
    let done = c.loop-bytes.invariant.done in
    let p = err_from_is_err_and c.from_residual.result c.from_residual.ensures.1 in
    rw p.1 (breaks_is g.T.Replier.rule (MayLeave (g.F.Shelf.keep_faults c.args.shelf.now) (g.F.Shelf.keep_faults c.take_line.new.shelf) g.T.Replier.Stops g.T.Replier.Lacks) _ _ _ _ _ _ (joined_whole done.0 _ _ _ _ done.1 c.in-Some.ensures.1)
    (breaks_after g.T.Replier.rule (MayLeave (g.F.Shelf.keep_faults c.args.shelf.now) (g.F.Shelf.keep_faults c.take_line.new.shelf) g.T.Replier.Stops g.T.Replier.Lacks) _ (point_of _ c.loop-bytes.pending) _ _ _ _ _ _ done.2
    (breaks_more g.T.Replier.rule (MayLeave (g.F.Shelf.keep_faults c.args.shelf.now) (g.F.Shelf.keep_faults c.take_line.new.shelf) g.T.Replier.Stops g.T.Replier.Lacks) _ _ _ c.in-Some.after.now _ _ (within_later g.T.Replier.rule g.T.Replier.Stops g.T.Replier.Lacks _ (g.F.Shelf.keep_faults c.loop-bytes.shelf) _ c.loop-bytes.invariant.later_keep _ _ _ _ _ c.in_err-over.ensures.err))))

pub returns-in_err-extend_from_slice-clause-err : goal.returns-in_err-extend_from_slice-clause-err
returns-in_err-extend_from_slice-clause-err g c =
    let done = c.loop-bytes.invariant.done in
    let p = err_from_is_err_and c.from_residual-in_err-extend_from_slice.result c.from_residual-in_err-extend_from_slice.ensures.1 in
    rw p.1 (breaks_is g.T.Replier.rule (MayLeave (g.F.Shelf.keep_faults c.args.shelf.now) (g.F.Shelf.keep_faults c.loop-bytes.shelf) g.T.Replier.Stops g.T.Replier.Lacks) _ _ _ _ _ _ done.1
    (breaks_after g.T.Replier.rule (MayLeave (g.F.Shelf.keep_faults c.args.shelf.now) (g.F.Shelf.keep_faults c.loop-bytes.shelf) g.T.Replier.Stops g.T.Replier.Lacks) _ (point_of _ c.loop-bytes.pending) _ _ _ _ _ _ done.2
    (breaks_none g.T.Replier.rule (MayLeave (g.F.Shelf.keep_faults c.args.shelf.now) (g.F.Shelf.keep_faults c.loop-bytes.shelf) g.T.Replier.Stops g.T.Replier.Lacks) (point_of _ c.loop-bytes.pending) c.loop-bytes.rest.now _)))

pub returns-clause-ok : goal.returns-clause-ok
returns-clause-ok g c =
    let done = c.loop-bytes.invariant.done in
    goes_part g.T.Replier.rule _ (point_of _ c.loop-bytes.pending) done.0 c.loop-bytes.rest.now _ _ _ _ done.2 c.loop-bytes.invariant.going c.in_default.ensures c.in_ok-extend_from_slice.ensures.items done.1
