-- Pieces of an input, one after another.
use Rattle.std.proofs.Common.{◌≡◌, ◌≤◌, ◌+◌, ◌-◌, ℕ, List, ◌++◌, [], length, length-append, ap, ◌∙◌, arith, append_assoc}
use Rattle.std.specs.declared.option.Option.{Option}
use Rattle.std.specs.Io.KnownBytes.{Consumes}
use Rattle.opa_io.proofs.Appended.{Consumes-append}
use Rattle.opa_talk.specs.declared.halt.Halt.{Halt}
use Rattle.opa_talk.specs.declared.halt.Halt.TheVariants as halt
use Rattle.opa_talk.specs.declared.feed.Turn.TheVariants as turn
use Rattle.opa_talk.specs.declared.feed.Ending.TheVariants as ending
use Rattle.opa_talk.specs.Transcript.{Rule}
use Rattle.opa_talk.specs.Points.{Point, BreaksAt, BreaksPart, EndsWithin, GoesOn, TakesTurn, TakesLines}
use Rattle.opa_talk.proofs.PointsLaws.{carries-append, breaks_after}

module _ {X : Type 0} (rule : Rule X) where
  pub goes-append : (a b c : Point X) (xs ys : List ℕ) (before mid now : Option (List ℕ)) → GoesOn rule a b xs before mid → GoesOn rule b c ys mid now → GoesOn rule a c (xs ++ ys) before now
  goes-append a b c xs ys before mid now f g = record { going = g.going; carried = carries-append rule a b c xs ys before mid now f.carried g.carried }

  ends-after : (a b c : Point X) (xs ys : List ℕ) (before mid now : Option (List ℕ)) → GoesOn rule a b xs before mid → EndsWithin rule b c ys mid now → EndsWithin rule a c (xs ++ ys) before now
  ends-after a b c xs ys before mid now f g = record {
    front = xs ++ g.front;
    rest = g.rest;
    cut = append_assoc xs g.front g.rest ∙ ap (λ s. xs ++ s) g.cut;
    over = g.over;
    carried = carries-append rule a b c xs g.front before mid now f.carried g.carried;
  }

  module _ (Stops : X → List ℕ → X → Type 0) where
    breaks_at-after : (a b c : Point X) (xs ys : List ℕ) (before mid now : Option (List ℕ)) (e : Halt) → GoesOn rule a b xs before mid → BreaksAt rule Stops b c ys mid now e → BreaksAt rule Stops a c (xs ++ ys) before now e
    breaks_at-after a b c xs ys before mid now halt.Input f g = goes-append a b c xs ys before mid now f g
    breaks_at-after a b c xs ys before mid now halt.Output f g = breaks_after rule Stops a b c.state xs ys before mid now f.carried g
    breaks_at-after a b c xs ys before mid now halt.Take f g = breaks_after rule Stops a b c.state xs ys before mid now f.carried g
    breaks_at-after a b c xs ys before mid now halt.Keep f g = breaks_after rule Stops a b c.state xs ys before mid now f.carried g
    breaks_at-after a b c xs ys before mid now halt.Memory f g = breaks_after rule Stops a b c.state xs ys before mid now f.carried g
    breaks_at-after a b c xs ys before mid now halt.Limit f g = absurd g

-- so far this was read and carried out, and so much more may be read
abbrev pub Read : {X : Type 0} → Rule X → Point X → Point X → ℕ → ℕ → Option (List ℕ) → Option (List ℕ) → Option (List ℕ) → Option (List ℕ) → Type 0
Read rule at now most left from to before after = (read : List ℕ) × Consumes from to read × (length read + left ≡ most) × GoesOn rule at now read before after

module _ {X : Type 0} (rule : Rule X) (at now : Point X) (most left : ℕ) (l m n w x y : Option (List ℕ)) (so_far : Read rule at now most left l m w x) (next : Point X) (room : ℕ) (less : room ≤ left) where
  -- after one piece more
  pub read_more : (count : ℕ) → TakesTurn rule now next room m n x y (turn.Read count) → Read rule at next most (left - count) l n w y
  read_more count piece = (
    so_far.0 ++ piece.0,
    Consumes-append l m n so_far.0 piece.0 so_far.1 piece.1,
    omega (arith, length-append so_far.0 piece.0, piece.2, piece.4, so_far.2, less),
    goes-append rule at now next so_far.0 piece.0 w x y so_far.3 piece.5,
  )

  -- at the end of the input
  pub read_end : TakesTurn rule now next room m n x y turn.End → TakesLines rule at next most l n w y ending.End
  read_end piece = (
    so_far.0 ++ [],
    Consumes-append l m n so_far.0 [] so_far.1 piece.0,
    omega (arith, length-append so_far.0 (Nil), so_far.2),
    piece.1,
    goes-append rule at now next so_far.0 [] w x y so_far.3 piece.2,
  )
    where
      Nil : List ℕ
      Nil = []

  -- no line is taken any more
  pub read_over : TakesTurn rule now next room m n x y turn.Over → TakesLines rule at next most l n w y ending.Over
  read_over piece = (
    so_far.0 ++ piece.0,
    Consumes-append l m n so_far.0 piece.0 so_far.1 piece.1,
    omega (arith, length-append so_far.0 piece.0, piece.2, so_far.2, less),
    ends-after rule at now next so_far.0 piece.0 w x y so_far.3 piece.3,
  )

  -- the talk halts
  pub read_breaks : (Stops : X → List ℕ → X → Type 0) (e : Halt) → BreaksPart rule Stops now next room m n x y e → BreaksPart rule Stops at next most l n w y e
  read_breaks Stops e part = (
    so_far.0 ++ part.0,
    Consumes-append l m n so_far.0 part.0 so_far.1 part.1,
    omega (arith, length-append so_far.0 part.0, part.2, so_far.2, less),
    breaks_at-after rule Stops at now next so_far.0 part.0 w x y e so_far.3 part.3,
  )
