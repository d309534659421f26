use Rattle.std.proofs.Common.{List, sym, subst}
use Rattle.opa_words.specs.declared.kinds.Token.{Token}
use Rattle.opa_decl.specs.Cutting.{AreTokens}
use Rattle.opa_decl.proofs.cut.tokens_of.Goals as goal

pub returns-in-Ok : goal.returns-in-Ok
returns-in-Ok c =
    subst (λ (ts : List Token). AreTokens c.args.text.now ts) (sym c.from_vec.ensures) (record { utf8 = c.utf8.text; cut = c.in-Ok.ensures.cut; within = c.in-Ok.ensures.within; kinds = c.in-Ok.ensures.kinds })
