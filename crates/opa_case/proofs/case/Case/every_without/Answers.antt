use Rattle.std.specs.Prelude.{None}
use Rattle.std.specs.FinMap.{remove}
use Rattle.std.proofs.Common.{ap, sym, subst, ◌∙◌}
use Rattle.opa_case.specs.declared.declared.Bond.{Bond}
use Rattle.opa_case.specs.Shapes.{shape_of}
use Rattle.opa_case.specs.Below.{StaysUnknown}
use Rattle.opa_case.specs.Cases.{CaseView, stored}
use Rattle.opa_case.specs.Fewer.{AreCounted}
use Rattle.opa_case.specs.Live.{Lists}
use Rattle.opa_case.specs.Steps.{every_of, changed}
use Rattle.opa_case.proofs.Below.{every_changed}
use Rattle.opa_case.proofs.Commit.{forgotten}
use Rattle.opa_case.proofs.Fewer.{each_lives_once}
use Rattle.opa_case.proofs.Kept.{removed_sound}
use Rattle.opa_case.proofs.Shaped.{shape_is}
use Rattle.opa_case.proofs.case.Case.every_without.Goals as goal

pub every_then-requires-clause-counted : goal.every_then-requires-clause-counted
every_then-requires-clause-counted c =
    let s = shape_of c.args.model.now in
    let v = c.args.self.now in
    let r = c.args.rel in
    let i = c.args.inst.now in
    let shape = shape_is c.args.model.now c.bond_of-target.ensures.form in
    let sound = removed_sound s v.lists (r.0, i) c.requires.fits.sound in
    subst (λ (l : Lists). AreCounted s l c.args.counts.now)
    (sym (ap (λ (w : CaseView). changed w.lists r i None) c.self.view_is ∙ forgotten v.lists r i))
    (record { once = each_lives_once s shape (remove v.lists (r.0, i)) sound; each = c.requires.counts })

pub returns : goal.returns
returns c =
    let s = shape_of c.args.model.now in
    every_changed s (shape_is c.args.model.now c.bond_of-target.ensures.form) c.args.rel c.args.inst.now None c.self.inside.lists c.args.self.now.every c.in_ok-every.every
    (c.requires.fits.every ∙ ap (λ (v : CaseView). every_of s (stored v.lists)) (sym c.self.view_is))
    c.in_ok-every.ensures.some
    (λ none n lt. subst (λ (v : CaseView). StaysUnknown s (changed c.self.inside.lists c.args.rel c.args.inst.now None) v.every (s.target c.args.rel) n) c.self.view_is
    (subst (λ (d : Bond). StaysUnknown s (changed c.self.inside.lists c.args.rel c.args.inst.now None) c.self.inside.every d.target n) c.bond_of-target.ensures.value (c.in_ok-every.ensures.none none n lt)))
    ∙ ap (λ (v : CaseView). every_of s (changed v.lists c.args.rel c.args.inst.now None)) c.self.view_is
    ∙ ap (every_of s) (forgotten c.args.self.now.lists c.args.rel c.args.inst.now)
