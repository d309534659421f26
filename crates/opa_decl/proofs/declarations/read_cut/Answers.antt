use Rattle.std.proofs.Common.{◌≡◌, ◌∙◌, [], ap, arith}
use Rattle.std.specs.Prelude.{None, Some}
use Rattle.opa_io.proofs.Results.{if_ok_then}
use Rattle.opa_model.specs.declared.lists.Lists.{Lists}
use Rattle.opa_model.specs.Models.{IsModel}
use Rattle.opa_tree.specs.declared.faults.RbError.{RbError}
use Rattle.opa_tree.specs.declared.faults.RbError.TheVariants.{Refused}
use Rattle.opa_tree.specs.declared.faults.RbFault.{RbFault}
use Rattle.opa_tree.specs.FirstFaults.{IsFirst}
use Rattle.opa_words.proofs.ResultLaws.{on_err}
use Rattle.opa_decl.specs.Declarations.{faults_of, items_of, model_of}
use Rattle.opa_verbs.specs.Phrasing.{IsReadable}
use Rattle.opa_decl.proofs.DeclaredModels.{declared_by}
use Rattle.opa_decl.proofs.ReadableModels.{readable_by}
use Rattle.opa_decl.proofs.OutcomeLaws.{outcome}
use Rattle.opa_decl.proofs.declarations.read_cut.Goals as goal

pub returns-clause-accepted : goal.returns-clause-accepted
returns-clause-accepted c =
    let cuts = c.args.cuts.now in let read = c.in_ok-items.field-0 in let judged = c.in_ok-lists.field-0 in
    if_ok_then (λ (l : Lists). (l ≡ judged.lists) × (c.first_of.result ≡ None)) (λ (l : Lists). (faults_of cuts ≡ []) × (l ≡ model_of (items_of cuts))) c.decided.result
    (λ l h. (outcome cuts read.items read.fault judged.fault c.first_of.result None c.in_ok-items.ensures.items c.in_ok-items.ensures.fault c.in_ok-lists.ensures.fault_is c.first_of.ensures h.1, h.0 ∙ c.in_ok-lists.ensures.model_is ∙ ap model_of c.in_ok-items.ensures.items))
    c.decided.ensures.ok

pub returns-clause-form : goal.returns-clause-form
returns-clause-form c =
    let cuts = c.args.cuts.now in let read = c.in_ok-items.field-0 in let judged = c.in_ok-lists.field-0 in
    if_ok_then (λ (l : Lists). (l ≡ judged.lists) × (c.first_of.result ≡ None)) IsModel c.decided.result
    (λ l h. declared_by cuts read.items l (outcome cuts read.items read.fault judged.fault c.first_of.result None c.in_ok-items.ensures.items c.in_ok-items.ensures.fault c.in_ok-lists.ensures.fault_is c.first_of.ensures h.1)
    c.in_ok-items.ensures.items (h.0 ∙ c.in_ok-lists.ensures.model_is) (omega arith))
    c.decided.ensures.ok

pub returns-clause-readable : goal.returns-clause-readable
returns-clause-readable c =
    let cuts = c.args.cuts.now in let read = c.in_ok-items.field-0 in let judged = c.in_ok-lists.field-0 in
    if_ok_then (λ (l : Lists). (l ≡ judged.lists) × (c.first_of.result ≡ None)) IsReadable c.decided.result
    (λ l h. readable_by cuts read.items l c.requires (outcome cuts read.items read.fault judged.fault c.first_of.result None c.in_ok-items.ensures.items c.in_ok-items.ensures.fault c.in_ok-lists.ensures.fault_is c.first_of.ensures h.1)
    c.in_ok-items.ensures.items (h.0 ∙ c.in_ok-lists.ensures.model_is))
    c.decided.ensures.ok

pub returns-clause-refused : goal.returns-clause-refused
returns-clause-refused c =
    let cuts = c.args.cuts.now in let read = c.in_ok-items.field-0 in let judged = c.in_ok-lists.field-0 in
    on_err (λ (e : RbError). (f : RbFault) → e ≡ Refused f → c.first_of.result ≡ Some f) (λ (e : RbError). (f : RbFault) → e ≡ Refused f → IsFirst (faults_of cuts) (Some f)) c.decided.result
    (λ e h f is. outcome cuts read.items read.fault judged.fault c.first_of.result (Some f) c.in_ok-items.ensures.items c.in_ok-items.ensures.fault c.in_ok-lists.ensures.fault_is c.first_of.ensures (h f is))
    c.decided.ensures.err
