use Rattle.std.proofs.Common.{◌++◌, ◌∷◌, [], ap, sym, ◌∙◌, append_assoc, decimal}
use Rattle.std.specs.Prelude.{codes}
use Rattle.opa_listen.specs.Words.{change_text}
use Rattle.opa_listen.proofs.saying.last_line.Goals as goal

pub returns : goal.returns
returns c =
    c.from_string.ensures ∙ c.in_ok-text.ensures.ok ∙ ap (λ x. decimal c.args.count ++ (codes " changes, last: " ++ (x ++ 10 ∷ []))) (c.as_str.ensures ∙ c.in_ok-last.ensures)
    ∙ sym (append_assoc (decimal c.args.count) (codes " changes, last: " ++ change_text c.args.change.now) (10 ∷ []))
