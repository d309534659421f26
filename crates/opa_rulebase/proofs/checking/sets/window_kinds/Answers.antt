use Rattle.std.proofs.Common.{◌≡◌, ◌∙◌, ◌&&◌, ap, sym, refl, map, Bool, true, false, List, [], ◌∷◌}
use Rattle.opa_model.specs.declared.things.Kind.{Kind}
use Rattle.opa_model.specs.declared.things.Kind.TheVariants as kind
use Rattle.opa_tree.specs.declared.kinds.Quant.{Quant}
use Rattle.opa_tree.specs.declared.kinds.WinKind.{WinKind}
use Rattle.opa_tree.specs.Kinds.{Typing, typed, is_ordered, all_can, dated, quant_can, window_can}
use Rattle.opa_rulebase.specs.declared.checking.sets.KindSet.{KindSet}
use Rattle.opa_rulebase.specs.Checking.KindSets.{has, typing_of}
use Rattle.opa_rulebase.proofs.checking.sets.window_kinds.Goals as goal

pub returns-in-ValueAt : goal.returns-in-ValueAt
returns-in-ValueAt c = c.dated.ensures ∙ ap (λ (o : WinKind). typed (window_can o (map typing_of c.args.sets.now))) (sym c.in-ValueAt.is)

pub returns-in-Always : goal.returns-in-Always
returns-in-Always c = c.takes.ensures ∙ ap (λ (o : WinKind). typed (window_can o (map typing_of c.args.sets.now))) (sym c.in-Always.is)

pub returns-in-Sometimes : goal.returns-in-Sometimes
returns-in-Sometimes c = c.takes-in-Sometimes.ensures ∙ ap (λ (o : WinKind). typed (window_can o (map typing_of c.args.sets.now))) (sym c.in-Sometimes.is)

pub returns-in-DailySum : goal.returns-in-DailySum
returns-in-DailySum c = c.takes-in-DailySum.ensures ∙ ap (λ (o : WinKind). typed (window_can o (map typing_of c.args.sets.now))) (sym c.in-DailySum.is)

pub returns-in-Maximum : goal.returns-in-Maximum
returns-in-Maximum c = c.ordered.ensures ∙ ap (λ (f : Kind → Bool). typed (λ k. is_ordered k && f k)) (ap (λ (t : Typing). t.can) c.dated-in-Maximum.ensures) ∙ ap (λ (o : WinKind). typed (window_can o (map typing_of c.args.sets.now))) (sym c.in-Maximum.is)

pub returns-in-Minimum : goal.returns-in-Minimum
returns-in-Minimum c = c.ordered-in-Minimum.ensures ∙ ap (λ (f : Kind → Bool). typed (λ k. is_ordered k && f k)) (ap (λ (t : Typing). t.can) c.dated-in-Minimum.ensures) ∙ ap (λ (o : WinKind). typed (window_can o (map typing_of c.args.sets.now))) (sym c.in-Minimum.is)

pub returns-in-ConsecutiveDays : goal.returns-in-ConsecutiveDays
returns-in-ConsecutiveDays c = c.takes-in-ConsecutiveDays.ensures ∙ ap (λ (o : WinKind). typed (window_can o (map typing_of c.args.sets.now))) (sym c.in-ConsecutiveDays.is)

pub returns-in-Before : goal.returns-in-Before
returns-in-Before c = c.takes-in-Before.ensures ∙ ap (λ (o : WinKind). typed (window_can o (map typing_of c.args.sets.now))) (sym c.in-Before.is)

pub returns-in-OnOrAfter : goal.returns-in-OnOrAfter
returns-in-OnOrAfter c = c.takes-in-OnOrAfter.ensures ∙ ap (λ (o : WinKind). typed (window_can o (map typing_of c.args.sets.now))) (sym c.in-OnOrAfter.is)

pub returns-in-YearsSince : goal.returns-in-YearsSince
returns-in-YearsSince c = c.takes-in-YearsSince.ensures ∙ ap (λ (o : WinKind). typed (window_can o (map typing_of c.args.sets.now))) (sym c.in-YearsSince.is)
