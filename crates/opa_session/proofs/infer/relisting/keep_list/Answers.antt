use Rattle.std.specs.Prelude.{Ok}
use Rattle.std.proofs.Common.{refl, ap, sym, subst, ◌∙◌}
use Rattle.opa_case.specs.Cases.{CaseView}
use Rattle.opa_case.specs.Live.{Population}
use Rattle.opa_case.specs.Turns.{Turns}
use Rattle.opa_mean.specs.Reached.Settling.{AreCurrent, AreReaders, shift}
use Rattle.opa_mean.specs.Rulebases.{IsOf}
use Rattle.opa_session.specs.Readers.Indexes.{readers_in}
use Rattle.opa_session.specs.Store.Stores.{kept_of}
use Rattle.opa_session.specs.Infer.Relisting.{coming}
use Rattle.opa_case.proofs.Indexing.{by_err, by_ok}
use Rattle.opa_session.proofs.infer.relisting.keep_list.Goals as goal

pub add-requires : goal.add-requires
add-requires g c = record { apart = c.requires.prepared.renews.apart }

pub returns-then-is_err-clause-still : goal.returns-then-is_err-clause-still
returns-then-is_err-clause-still g c =
    c.same_are_readers.ensures c.args.base.now c.args.case.now (readers_in c.args.readers.now) (readers_in c.add.new.self) (by_err c.add.result (sym c.is_err.ensures.value ∙ c.if-is_err.true) c.add.ensures.err) c.requires.exact

pub returns-in-Ok-clause-case : goal.returns-in-Ok-clause-case
returns-in-Ok-clause-case g c = c.requires.prepared.comes ∙ ap Ok (sym c.in-Ok.ensures.ok)

pub returns-in-Ok-clause-fits : goal.returns-in-Ok-clause-fits
returns-in-Ok-clause-fits g c = subst (λ (v : CaseView). IsOf c.args.base.now v) (sym c.in-Ok.ensures.ok) c.requires.prepared.is.after

pub returns-in-Ok-clause-current : goal.returns-in-Ok-clause-current
returns-in-Ok-clause-current g c =
    let p = c.requires.prepared in let r = c.args.base.now in let o = c.args.case.now in
    let next = coming r o c.args.rel c.args.inst.now c.args.names in
    let turns = subst (λ (g : Population). Turns o.live next.live g c.args.moves.came.items c.args.inst.now) (sym (c.deref.ensures.value ∙ c.in-Ok.ensures.went)) p.moved.turns in
    subst (λ (v : CaseView). AreCurrent r v (kept_of c.keep_staged-dirty.new.store)) (sym c.in-Ok.ensures.ok)
    (c.keep_staged-dirty.ensures.current (shift r o next) c.args.moves.came.items c.args.inst.now refl p.is turns c.requires.held p.settled)

pub returns-in-Ok-clause-exact : goal.returns-in-Ok-clause-exact
returns-in-Ok-clause-exact g c =
    let p = c.requires.prepared in let r = c.args.base.now in
    let added = by_ok c.add.result (sym c.is_err.ensures.value ∙ c.if-is_err.false) c.add.ensures.added in
    subst (λ (v : CaseView). AreReaders r v (readers_in c.take_out.new.self)) (sym c.in-Ok.ensures.ok)
    (c.take_out.ensures (shift r c.args.case.now (coming r c.args.case.now c.args.rel c.args.inst.now c.args.names)) (readers_in c.args.readers.now) p.renews added)

pub returns-in-Err-clause-still : goal.returns-in-Err-clause-still
returns-in-Err-clause-still g c =
    let added = by_ok c.add.result (sym c.is_err.ensures.value ∙ c.if-is_err.false) c.add.ensures.added in
    c.same_are_readers.ensures c.args.base.now c.args.case.now (readers_in c.args.readers.now) (readers_in c.take_back.new.self) (c.take_back.ensures (readers_in c.args.readers.now) added) c.requires.exact
