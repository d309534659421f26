use Rattle.std.proofs.Common.{◌≡◌, ◌∙◌, ◌<◌, ap, sym, subst, length, arith, false}
use Rattle.std.specs.Prelude.{None, Some, is_some, slice_get}
use Rattle.std.proofs.lemmas.Option.{slice_get-get_or}
use Rattle.opa_io.proofs.Options.{none_is}
use Rattle.opa_rulebase.specs.Checking.Found.{found_by, found_count}
use Rattle.opa_rulebase.proofs.checking.TakeLaws.{take_one, some_left, low_found}
use Rattle.opa_rulebase.proofs.checking.ranks.Ranking.take.Goals as goal

pub found_by-requires-clause-few : goal.found_by-requires-clause-few
found_by-requires-clause-few c =
    let ranks = c.args.self.now.ranks.items in let p = c.args.attr.0 in
    let none : slice_get ranks p ≡ Some None = slice_get-get_or ranks p c.index.result.now (omega (arith, c.requires.declared, c.requires.found.for_each)) ∙ ap Some (sym c.index.ensures ∙ none_is c.index.result.now (sym c.is_some.ensures ∙ c.if-is_some.false)) in
    let few : found_count ranks < length ranks = some_left ranks p none in
    omega (arith, few, c.requires.found.counted, c.requires.found.for_each, c.requires.few)

pub overflow_add-self : goal.overflow_add-self
overflow_add-self c =
    let ranks = c.args.self.now.ranks.items in let p = c.args.attr.0 in
    let none : slice_get ranks p ≡ Some None = slice_get-get_or ranks p c.index.result.now (omega (arith, c.requires.declared, c.requires.found.for_each)) ∙ ap Some (sym c.index.ensures ∙ none_is c.index.result.now (sym c.is_some.ensures ∙ c.if-is_some.false)) in
    let few : found_count ranks < length ranks = some_left ranks p none in
    omega (arith, few, c.requires.found.counted, c.requires.found.for_each, c.requires.few)

pub returns-in-None-clause-done : goal.returns-in-None-clause-done
returns-in-None-clause-done c u none has =
    let ranks = c.args.self.now.ranks.items in let p = c.args.attr.0 in let own = c.index-uses-place.result in
    let here : slice_get c.args.uses.now p ≡ Some own = slice_get-get_or c.args.uses.now p own c.requires.declared ∙ ap Some (sym c.index-uses-place.is) in
    let both : Some own ≡ Some u = sym here ∙ has in let same : own ≡ u = cc in
    subst (λ v. found_by ranks v ≡ None) same (ap (λ rs. found_by rs own) (sym c.deref.ensures.value) ∙ sym c.found_by.ensures ∙ c.in-None.is)

pub returns-in-Some-clause-found : goal.returns-in-Some-clause-found
returns-in-Some-clause-found c =
    let ranks = c.args.self.now.ranks.items in let p = c.args.attr.0 in let own = c.index-uses-place.result in
    let here : slice_get c.args.uses.now p ≡ Some own = slice_get-get_or c.args.uses.now p own c.requires.declared ∙ ap Some (sym c.index-uses-place.is) in
    let none : slice_get ranks p ≡ Some None = slice_get-get_or ranks p c.index.result.now (omega (arith, c.requires.declared, c.requires.found.for_each)) ∙ ap Some (sym c.index.ensures ∙ none_is c.index.result.now (sym c.is_some.ensures ∙ c.if-is_some.false)) in
    take_one c.args.uses.now ranks c.args.self.now.taken p c.in-Some.rank own c.requires.found none here (ap (λ rs. found_by rs own) (sym c.deref.ensures.value) ∙ sym c.found_by.ensures ∙ c.in-Some.is)
