use Rattle.std.proofs.Common.{rules, ◌+◌, sym, ◌∙◌}
use Rattle.opa_text.specs.Screen.Screens.{lists}
use Rattle.opa_text.proofs.screen.FirstListing.{here, further}
use Rattle.opa_text.proofs.screen.numbers.first_listing.Goals as goal

pub returns-then-is_listed : goal.returns-then-is_listed
returns-then-is_listed c =
    sym (c.loop-place.invariant ∙ here (lists c.args.question.now) c.args.model.now.screens c.loop-place.place (c.loop-place.place + 1) c.screen.result.now c.screen.ensures (search rules))

pub loop-place-preserved : goal.loop-place-preserved
loop-place-preserved c =
    c.loop-place.invariant ∙ further (lists c.args.question.now) c.args.model.now.screens c.loop-place.place (c.loop-place.place + 1) c.screen.result.now c.screen.ensures (search rules)
