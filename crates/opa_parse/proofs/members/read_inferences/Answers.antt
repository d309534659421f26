use Rattle.std.proofs.Common.{◌≡◌, ap, ◌∙◌, Some, refl}
use Rattle.opa_tree.specs.declared.faults.RbFault.{RbFault}
use Rattle.opa_parse.specs.Naming.{names_in}
use Rattle.opa_parse.specs.Memberships.{declared_texts}
use Rattle.opa_parse.proofs.Handing.{inferred_formed, inferred_flat}
use Rattle.opa_parse.proofs.MemberLaws.{inferences_read, inferences_refused}
use Rattle.opa_parse.proofs.members.read_inferences.Goals as goal

pub returns-in-None : goal.returns-in-None
returns-in-None c =
    let ns = c.in_ok-names.ensures ∙ ap (names_in c.args.model.now) c.new-inferred.ensures in
    let all = inferences_read c.args.model.now c.args.blocks.now c.in_ok-names.names c.none-none.result c.in_ok-gathered.gathered c.in_ok-gathered.gathered.inferences ns (c.none-none.ensures (declared_texts c.args.model.now) c.in_ok-texts.ensures) c.in_ok-gathered.ensures c.in-None.is refl in
    record {
      inferences = all;
      refused = tt;
      formed = inferred_formed c.args.model.now c.args.blocks.now c.in_ok-gathered.gathered.inferences all;
      shallow = inferred_flat c.args.model.now c.args.blocks.now c.in_ok-gathered.gathered.inferences all;
    }

pub returns-clause-refused : goal.returns-clause-refused
returns-clause-refused c fault same =
    let ns = c.in_ok-names.ensures ∙ ap (names_in c.args.model.now) c.new-inferred.ensures in
    let f : c.in-Some.fault ≡ fault = cc same in
    inferences_refused c.args.model.now c.args.blocks.now c.in_ok-names.names c.none-none.result c.in_ok-gathered.gathered fault ns (c.none-none.ensures (declared_texts c.args.model.now) c.in_ok-texts.ensures) c.in_ok-gathered.ensures (c.in-Some.is ∙ ap (λ (x : RbFault). Some x) f)
