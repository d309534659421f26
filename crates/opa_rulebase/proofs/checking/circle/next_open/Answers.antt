use Rattle.std.proofs.Common.{◌≡◌, ◌∙◌, ◌<◌, ap, sym, subst, length, arith, not, List}
use Rattle.std.specs.Prelude.{None, Some, is_some, find, slice_get}
use Rattle.std.proofs.lemmas.Option.{slice_get-get_or, slice_get_within}
use Rattle.opa_rulebase.specs.Checking.Found.{rank_found}
use Rattle.opa_rulebase.proofs.checking.CircleLaws.{within, next_is, never_none, never_missing}
use Rattle.opa_rulebase.proofs.checking.circle.next_open.Goals as goal

pub unreachable-requires : goal.unreachable-requires
unreachable-requires c =
    let rules = c.args.rules.now in let uses = c.args.uses.now in let ranks = c.args.ranks.now in let a = c.args.at in let s = c.requires.settled in
    let lt : a.0 < s.count = within rules uses ranks s a None c.requires.is_open in
    let used : slice_get uses a.0 ≡ Some (Some c.in-Some.mentioned) = slice_get-get_or uses a.0 c.index-uses-at.result (omega (arith, lt, s.used.for_each)) ∙ ap Some (sym c.index-uses-at.is ∙ c.in-Some.is) in
    never_missing rules uses ranks s a c.in-Some.mentioned c.requires.is_open used
    (ap (find (λ b. not (is_some (rank_found ranks b)))) (sym c.as_slice.ensures) ∙ sym c.first_open.ensures ∙ c.in-None-first_open.is)

pub unreachable-requires-in-None : goal.unreachable-requires-in-None
unreachable-requires-in-None c =
    let rules = c.args.rules.now in let uses = c.args.uses.now in let ranks = c.args.ranks.now in let a = c.args.at in let s = c.requires.settled in
    let lt : a.0 < s.count = within rules uses ranks s a None c.requires.is_open in
    never_none rules uses ranks s a c.requires.is_open (slice_get-get_or uses a.0 c.index-uses-at.result (omega (arith, lt, s.used.for_each)) ∙ ap Some (sym c.index-uses-at.is ∙ c.in-None.is))

pub returns-clause-next : goal.returns-clause-next
returns-clause-next c =
    let rules = c.args.rules.now in let uses = c.args.uses.now in let ranks = c.args.ranks.now in let a = c.args.at in let s = c.requires.settled in
    let lt : a.0 < s.count = within rules uses ranks s a None c.requires.is_open in
    let used : slice_get uses a.0 ≡ Some (Some c.in-Some.mentioned) = slice_get-get_or uses a.0 c.index-uses-at.result (omega (arith, lt, s.used.for_each)) ∙ ap Some (sym c.index-uses-at.is ∙ c.in-Some.is) in
    let w = next_is rules uses ranks s a c.in-Some-first_open.next c.in-Some.mentioned c.requires.is_open used
    (ap (find (λ b. not (is_some (rank_found ranks b)))) (sym c.as_slice.ensures) ∙ sym c.first_open.ensures ∙ c.in-Some-first_open.is) in w.0

pub returns-clause-is_open : goal.returns-clause-is_open
returns-clause-is_open c =
    let rules = c.args.rules.now in let uses = c.args.uses.now in let ranks = c.args.ranks.now in let a = c.args.at in let s = c.requires.settled in
    let lt : a.0 < s.count = within rules uses ranks s a None c.requires.is_open in
    let used : slice_get uses a.0 ≡ Some (Some c.in-Some.mentioned) = slice_get-get_or uses a.0 c.index-uses-at.result (omega (arith, lt, s.used.for_each)) ∙ ap Some (sym c.index-uses-at.is ∙ c.in-Some.is) in
    let w = next_is rules uses ranks s a c.in-Some-first_open.next c.in-Some.mentioned c.requires.is_open used
    (ap (find (λ b. not (is_some (rank_found ranks b)))) (sym c.as_slice.ensures) ∙ sym c.first_open.ensures ∙ c.in-Some-first_open.is) in w.1
