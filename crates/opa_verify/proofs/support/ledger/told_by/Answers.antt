use Rattle.std.proofs.Common.{◌∷◌, ◌++◌, [], ◌∙◌, take, sym, ap, subst}
use Rattle.std.proofs.lemmas.List.{take_more}
use Rattle.opa_verify.specs.Support.Ledgers.{Holds}
use Rattle.opa_verify.proofs.support.ledger.told_by.Goals as goal

pub loop-line-preserved : goal.loop-line-preserved
loop-line-preserved c =
    let lines = c.args.lines.now in let i = c.loop-line.line-index in
    let more = take_more lines i c.line-item.result c.loop-line-test.true ∙ ap (λ l. take i lines ++ l ∷ []) (sym c.line-item.is) in
    subst (Holds c.add_line.new.told) (sym more) (c.in_ok-add_line.ensures (take i lines) c.loop-line.invariant)
