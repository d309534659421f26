use Rattle.std.proofs.Common.{ap, ◌∙◌, List, ℕ, bytes_eq}
use Rattle.std.specs.Cmp.Lexicographic.{texts_ties}
use Rattle.opa_case.proofs.names.is_name.Goals as goal

pub returns : goal.returns
returns c =
    c.eq.ensures ∙ ap (λ (n : List ℕ). bytes_eq n c.as_str-2.result.now) c.as_str.ensures ∙ ap (bytes_eq c.args.name.now) c.as_str-2.ensures
    ∙ texts_ties c.args.name.now c.args.other.now
