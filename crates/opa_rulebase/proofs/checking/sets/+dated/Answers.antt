use Rattle.std.proofs.Common.{◌≡◌, ◌∙◌, ◌&&◌, ap, sym, refl, map, Bool, true, false, List, [], ◌∷◌}
use Rattle.opa_model.specs.declared.things.Kind.{Kind}
use Rattle.opa_model.specs.declared.things.Kind.TheVariants as kind
use Rattle.opa_tree.specs.declared.kinds.Quant.{Quant}
use Rattle.opa_tree.specs.declared.kinds.WinKind.{WinKind}
use Rattle.opa_tree.specs.Kinds.{Typing, typed, is_ordered, all_can, dated, quant_can, window_can}
use Rattle.opa_rulebase.specs.declared.checking.sets.KindSet.{KindSet}
use Rattle.opa_rulebase.specs.Checking.KindSets.{has, typing_of}
use Rattle.opa_rulebase.proofs.checking.sets.+dated.Goals as goal

none_of : (ds : List Kind) → typed (λ _. false) ≡ typed (dated ds [])
none_of [] = refl
none_of (d ∷ ds) = refl

pub returns-in_default : goal.returns-in_default
returns-in_default t c = c.none.ensures ∙ none_of c.args.dates.now ∙ ap (λ (xs : List KindSet). typed (dated c.args.dates.now (map typing_of xs))) (sym c.in_default.ensures)

pub returns-in-None : goal.returns-in-None
returns-in-None t c =
    c.alone.ensures ∙ ap (λ (xs : List KindSet). typed (dated [] (map typing_of xs))) (sym c.in-Some.ensures)
    ∙ ap (λ (ds : List Kind). typed (dated ds (map typing_of c.args.sets.now))) (sym c.in-None.ensures)

pub returns-in-Some-front : goal.returns-in-Some-front
returns-in-Some-front t c =
    c.where_holds.ensures ∙ ap (λ (f : Kind → Bool). typed (λ k. c.has.result && f k)) (ap (λ (t : Typing). t.can) c.dated.ensures)
    ∙ ap (λ (b : Bool). typed (λ k. b && dated c.in-Some-front.more.now (map typing_of c.in-Some.rest.now) k)) c.has.ensures
    ∙ ap (λ (xs : List KindSet). typed (dated (c.in-Some-front.date.now ∷ c.in-Some-front.more.now) (map typing_of xs))) (sym c.in-Some.ensures)
    ∙ ap (λ (ds : List Kind). typed (dated ds (map typing_of c.args.sets.now))) (sym c.in-Some-front.ensures)
