use Rattle.std.proofs.Common.{◌≡◌, ◌∙◌, ap, sym, subst, not, ◌++◌, ◌∷◌, []}
use Rattle.std.specs.Prelude.{None, Some, slice_get, slice_set}
use Rattle.std.proofs.lemmas.Option.{slice_get-get_or}
use Rattle.opa_io.proofs.Options.{none_is}
use Rattle.opa_tree.specs.Places.{ArePlaces}
use Rattle.opa_tree.proofs.PlaceLaws.{placed_first, placed_known}
use Rattle.opa_tree.proofs.places.fill.Goals as goal

pub returns-then-is_none : goal.returns-then-is_none
returns-then-is_none c before here are =
    let old = c.args.places.now.items in let rule = c.args.rule.now in
    let none = none_is c.index.result.now (c.is_none.ensures ∙ ap not c.if-is_none.true) in
    let at : slice_get old rule.attr.0 ≡ Some None = slice_get-get_or old rule.attr.0 c.index.result.now c.requires.known ∙ ap Some (sym c.index.ensures ∙ none) in
    subst (λ n. ArePlaces (before ++ rule ∷ []) (slice_set old rule.attr.0 (Some n))) (sym here) (placed_first before rule old are at c.requires.known)

pub returns-else-is_none : goal.returns-else-is_none
returns-else-is_none c before here are =
    let old = c.args.places.now.items in let rule = c.args.rule.now in
    placed_known before rule old are c.index.result.now (slice_get-get_or old rule.attr.0 c.index.result.now c.requires.known ∙ ap Some (sym c.index.ensures)) c.if-is_none.ensures
