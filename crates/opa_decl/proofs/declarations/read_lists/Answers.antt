use Rattle.std.proofs.Common.{◌≡◌, List, [], sym, subst}
use Rattle.std.specs.Prelude.{Some}
use Rattle.opa_io.proofs.Results.{if_ok_then}
use Rattle.opa_model.specs.declared.lists.Lists.{Lists}
use Rattle.opa_tree.specs.declared.faults.RbError.{RbError}
use Rattle.opa_tree.specs.declared.faults.RbError.TheVariants.{Refused}
use Rattle.opa_tree.specs.declared.faults.RbFault.{RbFault}
use Rattle.opa_tree.specs.FirstFaults.{IsFirst}
use Rattle.opa_words.proofs.ResultLaws.{on_err}
use Rattle.opa_decl.specs.declared.cut.CutBlock.{CutBlock}
use Rattle.opa_decl.specs.Cutting.{AreCut}
use Rattle.opa_decl.specs.Declarations.{faults_of, items_of, model_of, Declares, IsFirstFault}
use Rattle.opa_decl.proofs.declarations.read_lists.Goals as goal

pub returns-clause-accepted : goal.returns-clause-accepted
returns-clause-accepted c =
    let cuts = c.as_slice.result.now in let cut = subst (λ (x : List CutBlock). AreCut c.args.blocks.now x) (sym c.as_slice.ensures) c.in_ok-cuts.ensures in
    if_ok_then (λ (l : Lists). (faults_of cuts ≡ []) × (l ≡ model_of (items_of cuts))) (Declares c.args.blocks.now) c.read_cut.result
    (λ l h. record { read = cuts; cut = cut; faultless = h.0; model_is = h.1 }) c.read_cut.ensures.accepted

pub returns-clause-refused : goal.returns-clause-refused
returns-clause-refused c =
    let cuts = c.as_slice.result.now in let cut = subst (λ (x : List CutBlock). AreCut c.args.blocks.now x) (sym c.as_slice.ensures) c.in_ok-cuts.ensures in
    on_err (λ (e : RbError). (f : RbFault) → e ≡ Refused f → IsFirst (faults_of cuts) (Some f)) (λ (e : RbError). (f : RbFault) → e ≡ Refused f → IsFirstFault c.args.blocks.now f) c.read_cut.result
    (λ e h f is. record { read = cuts; cut = cut; first = h f is }) c.read_cut.ensures.refused
