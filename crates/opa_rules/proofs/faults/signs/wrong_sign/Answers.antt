use Rattle.std.proofs.Common.{All, sym, subst, ◌∙◌}
use Rattle.std.proofs.lemmas.List.Elements.{All-tail}
use Rattle.opa_words.specs.Places.{IsWithin}
use Rattle.opa_rules.proofs.SignLaws.{sign_found, sign_on}
use Rattle.opa_rules.proofs.faults.signs.wrong_sign.Goals as goal

pub returns-in-Some-sign_slip-clause-at : goal.returns-in-Some-sign_slip-clause-at
returns-in-Some-sign_slip-clause-at c =
    c.found.ensures.at
    ∙ sign_found c.args.part c.args.text.now c.loop-later.rest.now c.in-Some.field-0-0.now c.in-Some.later.now _ c.in-Some.ensures c.new.ensures c.in-Some-sign_slip.slip (sym c.sign_slip.ensures ∙ c.in-Some-sign_slip.is)
    ∙ c.loop-later.invariant.same

pub loop-later-preserved : goal.loop-later-preserved
loop-later-preserved c = record {
  same = sign_on c.args.part c.args.text.now c.loop-later.rest.now c.in-Some.field-0-0.now c.in-Some.later.now _ c.in-Some.ensures c.new.ensures (sym c.sign_slip.ensures ∙ c.in-None.is) ∙ c.loop-later.invariant.same;
  within = All-tail (IsWithin c.args.text.now) c.in-Some.field-0-0.now c.in-Some.later.now (subst (All (IsWithin c.args.text.now)) c.in-Some.ensures c.loop-later.invariant.within);
}
