use Rattle.std.proofs.Common.{[], ◌∷◌, ◌++◌, map, ap, sym, ◌∙◌, append_assoc}
use Rattle.opa_parse.specs.Naming.{member_of}
use Rattle.opa_parse.proofs.names.members_of.Goals as goal

pub loop-inferred-preserved : goal.loop-inferred-preserved
loop-inferred-preserved c =
    let old = c.loop-inferred.members in
    let later = c.in-Some.later.now in
    ap (λ y. y ++ map member_of later) c.in_ok-push.ensures.ok ∙ append_assoc old (c.in_ok-member_of.field-0 ∷ []) (map member_of later) ∙ ap (λ m. old ++ m ∷ map member_of later) c.in_ok-member_of.ensures
    ∙ ap (λ r. old ++ map member_of r) (sym c.in-Some.ensures) ∙ c.loop-inferred.invariant
