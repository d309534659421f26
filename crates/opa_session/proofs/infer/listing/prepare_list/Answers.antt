use Rattle.std.proofs.Common.{◌≡◌, Ok, sym, subst}
use Rattle.std.specs.Option.{option_copied}
use Rattle.opa_case.specs.Cases.{CaseView}
use Rattle.opa_case.specs.Overlays.{relisted_case}
use Rattle.opa_case.specs.Shapes.{shape_of}
use Rattle.opa_mean.specs.Reached.Settling.{AreReaders, AreSettled, shift}
use Rattle.opa_session.specs.Infer.Relisting.{relists, coming}
use Rattle.opa_session.specs.Readers.Indexes.{readers_in}
use Rattle.opa_session.specs.Readers.Renewals.{IsRenewal}
use Rattle.opa_session.specs.Store.Stores.{staged_of}
use Rattle.opa_session.proofs.infer.Relisted.{coming_fits, coming_is_by_lists, is_coming, moves_are}
use Rattle.opa_session.proofs.infer.listing.prepare_list.Goals as goal

pub stage_list-requires-clause-lists : goal.stage_list-requires-clause-lists
stage_list-requires-clause-lists g c =
    coming_is_by_lists c.args.base.now c.args.held.now c.requires.before c.models_are_shapes.ensures c.step_fits.ensures c.step_keeps_containers.ensures c.args.rel c.requires.declared c.args.inst.now
    c.relisted_is_by_lists.ensures (option_copied c.args.names) c.in_ok-next.next c.in_ok-next.ensures.case c.in_ok-next.ensures.ok

pub stage_list-requires-clause-exact : goal.stage_list-requires-clause-exact
stage_list-requires-clause-exact g c = subst (λ (v : CaseView). AreReaders c.args.base.now v (readers_in c.args.readers.now)) c.in_ok-next.ensures.case c.requires.exact

pub returns-in-Ok-clause-prepared : goal.returns-in-Ok-clause-prepared
returns-in-Ok-clause-prepared g c =
    let r = c.args.base.now in let v = c.args.held.now in let q = c.args.rel in let i = c.args.inst.now in let o = option_copied c.args.names in let n = c.in_ok-next.next in
    let held : n.case.now ≡ v = sym c.in_ok-next.ensures.case in
    let next : relisted_case n ≡ coming r v q i o = is_coming r v q i o (relisted_case n) c.in_ok-next.ensures.ok in
    let comes : relists r v q i o ≡ Ok (coming r v q i o) = subst (λ (w : CaseView). relists r v q i o ≡ Ok w) next c.in_ok-next.ensures.ok in
    record {
      comes = comes;
      is = record {
        before = c.requires.before;
        after = coming_fits r v c.requires.before c.models_are_shapes.ensures c.step_fits.ensures c.step_keeps_containers.ensures q c.requires.declared i o (coming r v q i o) comes;
      };
      moved = moves_are (shape_of r.model) (shape_of n.model.now) v n.case.now q n.rel i n.inst.now o (option_copied n.names) c.into_moves.result held c.in_ok-next.ensures.inst next c.into_moves.ensures;
      settled = subst (λ (w : CaseView). AreSettled (shift r v w) (staged_of c.stage_list.new.store)) next
          (subst (λ (w : CaseView). AreSettled (shift r w (relisted_case n)) (staged_of c.stage_list.new.store)) held c.in-Ok.ensures.settled);
      renews = subst (λ (w : CaseView). IsRenewal (shift r v w) (readers_in c.args.readers.now) c.in-Ok.staged.renewal) next
          (subst (λ (w : CaseView). IsRenewal (shift r w (relisted_case n)) (readers_in c.args.readers.now) c.in-Ok.staged.renewal) held c.in-Ok.ensures.renews);
    }
