use Rattle.std.proofs.Common.{◌≡◌, ◌+◌, drop}
use Rattle.std.specs.Prelude.{unwrap_or}
use Rattle.std.specs.List.{position_from}
use Rattle.opa_text.specs.Screen.Screens.{lists, screen_of}
use Rattle.opa_text.proofs.screen.numbers.first_listing.Given as goal

-- the first of the screens that are left is the first of all
abbrev pub invariant-loop-place : goal.invariant-loop-place
invariant-loop-place l = screen_of l.model l.question ≡ unwrap_or (position_from (lists l.question) (l.place + 1) (drop l.place l.model.screens)) 0
