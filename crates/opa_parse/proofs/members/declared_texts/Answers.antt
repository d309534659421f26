use Rattle.std.proofs.Common.{◌++◌, ap, ◌∙◌}
use Rattle.opa_parse.specs.MemberFaults.{is_taken}
use Rattle.opa_verbs.specs.Phrasing.{operand_phrases}
use Rattle.opa_parse.proofs.MemberLaws.{same_more}
use Rattle.opa_parse.proofs.members.declared_texts.Goals as goal

pub returns : goal.returns
returns c t =
    let none = c.new-texts.result in
    let first = c.as_slice.result.now in
    let second = c.as_slice-2.result.now in
    c.in_ok-add_all-2.ensures t ∙ same_more c.add_all.new.self (none ++ first) second c.in_ok-add_all.ensures t
    ∙ ap (λ ys. is_taken ys t)
    (ap (λ y. (y ++ first) ++ second) c.new-texts.ensures ∙ ap (λ y. y ++ second) (c.as_slice.ensures ∙ c.in_ok-operands.ensures.texts) ∙ ap (λ y. operand_phrases c.args.model.now ++ y) (c.as_slice-2.ensures ∙ c.in_ok-relations.ensures.texts))
