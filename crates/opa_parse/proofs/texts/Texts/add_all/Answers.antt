use Rattle.std.proofs.Common.{[], ◌∷◌, ◌++◌, ap, sym, ◌∙◌, append_assoc}
use Rattle.opa_parse.specs.MemberFaults.{is_taken}
use Rattle.opa_parse.proofs.MemberLaws.{declared_same, same_more}
use Rattle.opa_parse.proofs.texts.Texts.add_all.Goals as goal

pub loop-text-preserved : goal.loop-text-preserved
loop-text-preserved c t =
    let old = c.loop-text.self in
    let word = c.as_str.result.now in
    let later = c.in-Some.later.now in
    same_more c.add.new.self (old ++ word ∷ []) later (declared_same old c.add.new.self word c.in_ok-add.field-0 c.in_ok-add.ensures) t
    ∙ ap (λ ys. is_taken ys t) (append_assoc old (word ∷ []) later ∙ ap (λ x. old ++ x ∷ later) c.as_str.ensures ∙ ap (λ r. old ++ r) (sym c.in-Some.ensures))
    ∙ c.loop-text.invariant t
