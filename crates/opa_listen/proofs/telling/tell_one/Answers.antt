use Rattle.std.proofs.Common.{length, ap, subst, arith}
use Rattle.std.specs.Vec.Iter.{into_iter_items}
use Rattle.opa_io.proofs.Lists.{no_length}
use Rattle.opa_listen.proofs.Keeping.{Kept, kept_more, kept_end, can_room, can_watch}
use Rattle.opa_listen.proofs.telling.tell_one.Goals as goal

pub note-requires : goal.note-requires
note-requires g c =
    let k = subst (Kept _ _ _) c.in-Some.ensures.steps.0 c.loop-change.invariant.kept in
    record { room = can_room c.in-Some.change (into_iter_items c.next.new.self) _ k.can; watched = can_watch c.in-Some.change (into_iter_items c.next.new.self) _ k.can }

pub loop-change-preserved : goal.loop-change-preserved
loop-change-preserved g c =
    record {
      can_next = tt;
      is_finite = tt;
      sized = omega (arith, c.in-Some.ensures.steps.1, ap length c.in-Some.ensures.steps.0, c.loop-change.invariant.sized);
      kept = kept_more _ _ _ _ c.in-Some.change (into_iter_items c.next.new.self) (subst (Kept _ _ _) c.in-Some.ensures.steps.0 c.loop-change.invariant.kept) c.note.ensures;
    }

pub returns : goal.returns
returns g c =
    let e = no_length (into_iter_items c.loop-change.change-iterator) (omega (arith, c.in-None.ensures.steps.0, c.loop-change.invariant.sized)) in
    kept_end _ _ _ (subst (Kept _ _ _) e c.loop-change.invariant.kept)
