use Rattle.std.proofs.Common.{◌≡◌, ◌∙◌, ◌&&◌, ap, sym, map, Bool, true, false, List, [], ◌∷◌}
use Rattle.std.specs.List.{list_any}
use Rattle.opa_model.specs.declared.things.Kind.{Kind}
use Rattle.opa_model.specs.declared.things.Kind.TheVariants as kind
use Rattle.opa_tree.specs.declared.kinds.OpKind.{OpKind}
use Rattle.opa_tree.specs.declared.kinds.Quant.{Quant}
use Rattle.opa_tree.specs.declared.kinds.WinKind.{WinKind}
use Rattle.opa_tree.specs.Kinds.{Typing, typed, is_kind, is_ordered, all_kinds, ordered_kinds, all_can, takes, have, dated, op_can, quant_can, window_can}
use Rattle.opa_rulebase.specs.declared.checking.sets.KindSet.{KindSet}
use Rattle.opa_rulebase.specs.Checking.KindSets.{has, typing_of}
use Rattle.opa_rulebase.proofs.checking.sets.op_kinds.Goals as goal

pub returns-in-Add : goal.returns-in-Add
returns-in-Add c = c.takes.ensures ∙ ap (λ (o : OpKind). typed (op_can o (map typing_of c.args.sets.now))) (sym c.in-Add.is)

pub returns-in-Sub : goal.returns-in-Sub
returns-in-Sub c = c.takes-in-Sub.ensures ∙ ap (λ (o : OpKind). typed (op_can o (map typing_of c.args.sets.now))) (sym c.in-Sub.is)

pub returns-in-Mul : goal.returns-in-Mul
returns-in-Mul c = c.takes-in-Mul.ensures ∙ ap (λ (o : OpKind). typed (op_can o (map typing_of c.args.sets.now))) (sym c.in-Mul.is)

pub returns-in-Div : goal.returns-in-Div
returns-in-Div c = c.takes-in-Div.ensures ∙ ap (λ (o : OpKind). typed (op_can o (map typing_of c.args.sets.now))) (sym c.in-Div.is)

pub returns-in-Neg : goal.returns-in-Neg
returns-in-Neg c = c.takes-in-Neg.ensures ∙ ap (λ (o : OpKind). typed (op_can o (map typing_of c.args.sets.now))) (sym c.in-Neg.is)

pub returns-in-Eq : goal.returns-in-Eq
returns-in-Eq c = c.compares.ensures ∙ ap (λ (o : OpKind). typed (op_can o (map typing_of c.args.sets.now))) (sym c.in-Eq.is)

pub returns-in-Ne : goal.returns-in-Ne
returns-in-Ne c = c.compares-in-Ne.ensures ∙ ap (λ (o : OpKind). typed (op_can o (map typing_of c.args.sets.now))) (sym c.in-Ne.is)

pub returns-in-Lt : goal.returns-in-Lt
returns-in-Lt c = c.compares_ordered.ensures ∙ ap (λ (o : OpKind). typed (op_can o (map typing_of c.args.sets.now))) (sym c.in-Lt.is)

pub returns-in-Le : goal.returns-in-Le
returns-in-Le c = c.compares_ordered-in-Le.ensures ∙ ap (λ (o : OpKind). typed (op_can o (map typing_of c.args.sets.now))) (sym c.in-Le.is)

pub returns-in-Gt : goal.returns-in-Gt
returns-in-Gt c = c.compares_ordered-in-Gt.ensures ∙ ap (λ (o : OpKind). typed (op_can o (map typing_of c.args.sets.now))) (sym c.in-Gt.is)

pub returns-in-Ge : goal.returns-in-Ge
returns-in-Ge c = c.compares_ordered-in-Ge.ensures ∙ ap (λ (o : OpKind). typed (op_can o (map typing_of c.args.sets.now))) (sym c.in-Ge.is)

pub returns-in-Round : goal.returns-in-Round
returns-in-Round c = c.rounds.ensures ∙ ap (λ (o : OpKind). typed (op_can o (map typing_of c.args.sets.now))) (sym c.in-Round.is)

pub returns-in-Min : goal.returns-in-Min
returns-in-Min c = c.picks.ensures ∙ ap (λ (o : OpKind). typed (op_can o (map typing_of c.args.sets.now))) (sym c.in-Min.is)

pub returns-in-Max : goal.returns-in-Max
returns-in-Max c = c.picks-in-Max.ensures ∙ ap (λ (o : OpKind). typed (op_can o (map typing_of c.args.sets.now))) (sym c.in-Max.is)

pub returns-in-AddDays : goal.returns-in-AddDays
returns-in-AddDays c = c.takes-in-AddDays.ensures ∙ ap (λ (o : OpKind). typed (op_can o (map typing_of c.args.sets.now))) (sym c.in-AddDays.is)

pub returns-in-AddMonths : goal.returns-in-AddMonths
returns-in-AddMonths c = c.takes-in-AddMonths.ensures ∙ ap (λ (o : OpKind). typed (op_can o (map typing_of c.args.sets.now))) (sym c.in-AddMonths.is)

pub returns-in-AddYears : goal.returns-in-AddYears
returns-in-AddYears c = c.takes-in-AddYears.ensures ∙ ap (λ (o : OpKind). typed (op_can o (map typing_of c.args.sets.now))) (sym c.in-AddYears.is)

pub returns-in-DaysBetween : goal.returns-in-DaysBetween
returns-in-DaysBetween c = c.takes-in-DaysBetween.ensures ∙ ap (λ (o : OpKind). typed (op_can o (map typing_of c.args.sets.now))) (sym c.in-DaysBetween.is)

pub returns-in-YearsBetween : goal.returns-in-YearsBetween
returns-in-YearsBetween c = c.takes-in-YearsBetween.ensures ∙ ap (λ (o : OpKind). typed (op_can o (map typing_of c.args.sets.now))) (sym c.in-YearsBetween.is)

pub returns-in-YearOf : goal.returns-in-YearOf
returns-in-YearOf c = c.takes-in-YearOf.ensures ∙ ap (λ (o : OpKind). typed (op_can o (map typing_of c.args.sets.now))) (sym c.in-YearOf.is)

pub returns-in-MonthOf : goal.returns-in-MonthOf
returns-in-MonthOf c = c.takes-in-MonthOf.ensures ∙ ap (λ (o : OpKind). typed (op_can o (map typing_of c.args.sets.now))) (sym c.in-MonthOf.is)

pub returns-in-DayOf : goal.returns-in-DayOf
returns-in-DayOf c = c.takes-in-DayOf.ensures ∙ ap (λ (o : OpKind). typed (op_can o (map typing_of c.args.sets.now))) (sym c.in-DayOf.is)

pub returns-in-Concatenate : goal.returns-in-Concatenate
returns-in-Concatenate c = c.takes-in-Concatenate.ensures ∙ ap (λ (o : OpKind). typed (op_can o (map typing_of c.args.sets.now))) (sym c.in-Concatenate.is)
