use Rattle.std.proofs.Common.{sym, ap, ◌∙◌, subst}
use Rattle.opa_session.specs.Infer.Sessions.{rules_of}
use Rattle.opa_tree.specs.declared.rulebase.Rulebase.{Rulebase}
use Rattle.opa_cases.specs.Answering.{holding}
use Rattle.opa_cases.specs.Caseload.{behind_name}
use Rattle.opa_cases.specs.Holding.{open_of, opens_of, current_by, AllFit}
use Rattle.opa_cases.specs.Scripts.{Responds}
use Rattle.opa_cases.proofs.FitLaws.{apart_none, fits_none}
use Rattle.opa_cases.proofs.OpenLaws.{apart_after}
use Rattle.opa_cases.proofs.ServeLaws.{served, served_kept}
use Rattle.opa_cases.proofs.answering.serve.Goals as goal

pub invariant_of-caseload : goal.invariant_of-caseload
invariant_of-caseload g c =
    let turned = c.turn_to.new.self in
    record {
      apart = apart_none turned.current turned.others c.turn_to.ensures.none;
      fits = subst (λ (r : Rulebase). AllFit r turned.others) (sym c.respond.ensures.base) turned.fits;
      stands = fits_none (rules_of c.respond.new.session) turned.current c.turn_to.ensures.none;
    }

pub keep-requires-clause-apart : goal.keep-requires-clause-apart
keep-requires-clause-apart g c =
    let x = c.args.caseload.now in
    let turned = c.turn_to.new.self in
    apart_after (opens_of x.session x.current x.others) c.args.name.now turned.session turned.others c.respond.new.current c.in_ok-current.ensures.ok.rest (c.respond.ensures.name ∙ c.in_ok-current.ensures.ok.named)

pub returns : goal.returns
returns g c = λ files.
    let x = c.args.caseload.now in
    let turned = c.turn_to.new.self in
    let kept = c.keep.new.self in
    let cur = c.in_ok-current.current in
    let d = c.respond.new.current in
    let t = c.respond.new.session in
    let closed = c.in_ok-said.said.closed in
    let said = c.in_ok-said.said.text.items in
    let base = c.turn_to.ensures.base in
    let says = subst (λ (q : Rulebase). Responds q (open_of turned.session cur) c.read_order-read.result said closed (open_of t d)) base c.in_ok-said.ensures.ok in
    served_kept (holding x files) c.args.name.now c.args.rest.now c.in_ok-text.text.items files t kept.session (current_by closed d) kept.current turned.others kept.others c.keep.ensures.session c.keep.ensures.current c.keep.ensures.others
    (served (rules_of x.session) (rules_of t) (opens_of x.session x.current x.others) files c.args.name.now c.args.rest.now c.base.result.now.model c.read_order-read.result turned.session t turned.others cur d closed said c.in_ok-text.text.items
    (c.requires files) c.in_ok-current.ensures.ok (ap (λ (b : Rulebase). b.model) (c.base.ensures ∙ base)) c.read_order-read.ensures.ok c.read_order-read.ensures.fault says c.respond.ensures.name
    (c.in_ok-text.ensures ∙ ap (behind_name c.args.name.now) c.deref.ensures.value) (c.respond.ensures.base ∙ base))
