use Rattle.std.proofs.Common.{◌≡◌, ◌∙◌, ◌&&◌, ap, sym, refl, map, Bool, true, false, List, [], ◌∷◌}
use Rattle.opa_model.specs.declared.things.Kind.{Kind}
use Rattle.opa_model.specs.declared.things.Kind.TheVariants as kind
use Rattle.opa_tree.specs.declared.kinds.Quant.{Quant}
use Rattle.opa_tree.specs.declared.kinds.WinKind.{WinKind}
use Rattle.opa_tree.specs.Kinds.{Typing, typed, is_ordered, all_can, dated, quant_can, window_can}
use Rattle.opa_rulebase.specs.declared.checking.sets.KindSet.{KindSet}
use Rattle.opa_rulebase.specs.Checking.KindSets.{has, typing_of}
use Rattle.opa_rulebase.proofs.checking.sets.quant_kinds.Goals as goal

pub returns-in-ForAll : goal.returns-in-ForAll
returns-in-ForAll c = c.takes.ensures ∙ ap (λ (o : Quant). typed (quant_can o c.args.to_one (map typing_of c.args.sets.now))) (sym c.in-ForAll.is)

pub returns-in-Exists : goal.returns-in-Exists
returns-in-Exists c = c.takes-in-Exists.ensures ∙ ap (λ (o : Quant). typed (quant_can o c.args.to_one (map typing_of c.args.sets.now))) (sym c.in-Exists.is)

pub returns-in-For : goal.returns-in-For
returns-in-For c = c.where_holds.ensures ∙ ap (λ (f : Kind → Bool). typed (λ k. c.args.to_one && f k)) (ap (λ (t : Typing). t.can) c.meet.ensures) ∙ ap (λ (o : Quant). typed (quant_can o c.args.to_one (map typing_of c.args.sets.now))) (sym c.in-For.is)

pub returns-in-Count : goal.returns-in-Count
returns-in-Count c = c.takes-in-Count.ensures ∙ ap (λ (o : Quant). typed (quant_can o c.args.to_one (map typing_of c.args.sets.now))) (sym c.in-Count.is)

pub returns-in-CountIf : goal.returns-in-CountIf
returns-in-CountIf c = c.takes-in-CountIf.ensures ∙ ap (λ (o : Quant). typed (quant_can o c.args.to_one (map typing_of c.args.sets.now))) (sym c.in-CountIf.is)

pub returns-in-Sum : goal.returns-in-Sum
returns-in-Sum c = c.takes-in-Sum.ensures ∙ ap (λ (o : Quant). typed (quant_can o c.args.to_one (map typing_of c.args.sets.now))) (sym c.in-Sum.is)

pub returns-in-SumIf : goal.returns-in-SumIf
returns-in-SumIf c = c.takes-in-SumIf.ensures ∙ ap (λ (o : Quant). typed (quant_can o c.args.to_one (map typing_of c.args.sets.now))) (sym c.in-SumIf.is)

pub returns-in-Maximum : goal.returns-in-Maximum
returns-in-Maximum c = c.picks.ensures ∙ ap (λ (o : Quant). typed (quant_can o c.args.to_one (map typing_of c.args.sets.now))) (sym c.in-Maximum.is)

pub returns-in-Minimum : goal.returns-in-Minimum
returns-in-Minimum c = c.picks-in-Minimum.ensures ∙ ap (λ (o : Quant). typed (quant_can o c.args.to_one (map typing_of c.args.sets.now))) (sym c.in-Minimum.is)
