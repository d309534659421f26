use Rattle.std.proofs.Common.{◌∷◌, [], ◌++◌, ap, sym, ◌∙◌}
use Rattle.opa_parse.specs.MemberFaults.{is_taken, phrase_by}
use Rattle.opa_parse.proofs.MemberLaws.{declared_same}
use Rattle.opa_parse.proofs.texts.Texts.take.Goals as goal

pub returns-in_ok-add-in-Some-clause-texts : goal.returns-in_ok-add-in-Some-clause-texts
returns-in_ok-add-in-Some-clause-texts c t =
    declared_same c.args.self.now c.add.new.self c.as_str.result.now c.in_ok-add-in-Some.field-0 c.in_ok-add-in-Some.ensures t
    ∙ ap (λ ys. is_taken (c.args.self.now ++ ys) t) (ap (λ x. x ∷ []) c.as_str.ensures ∙ sym (ap phrase_by c.in-Some.is))
