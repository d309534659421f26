use Rattle.std.proofs.Common.{◌∙◌, arith}
use Rattle.opa_text.specs.Screen.Screens.{lists}
use Rattle.opa_text.proofs.screen.FirstListing.{at_most, only_listing}
use Rattle.opa_text.proofs.screen.numbers.screen_of.Goals as goal

pub returns-clause-declared : goal.returns-clause-declared
returns-clause-declared c =
    let most = at_most (lists c.args.question.now) c.args.model.now.screens 0 in omega (arith, most, c.first_listing-number.ensures)

pub returns-clause-only : goal.returns-clause-only
returns-clause-only c =
    λ k s at h. let one = only_listing c.args.question.now c.args.model.now.screens c.screen_count-count.ensures.form.items_differ 1 k s at h in c.first_listing-number.ensures ∙ one ∙ omega arith
