-- A talk goes on from bytes that stayed: what was written before was only passed on.
use Rattle.std.proofs.Common.{◌≡◌, ◌≤◌, ℕ, List, [], Result, Ok, Err, IfOk, IfErr, subst, sym, arith}
use Rattle.std.specs.declared.option.Option.{Option}
use Rattle.std.specs.Io.KnownBytes.{Keeps}
use Rattle.opa_io.specs.Outside.{Rose, AppendsFront}
use Rattle.opa_io.proofs.Appended.{Consumes-none}
use Rattle.opa_io.proofs.Gathers.{Keeps-Appends}
use Rattle.opa_io.proofs.Outsides.{rose_before}
use Rattle.opa_talk.specs.declared.halt.Halt.{Halt}
use Rattle.opa_talk.specs.declared.halt.Halt.TheVariants as halt
use Rattle.opa_talk.specs.declared.feed.Turn.{Turn}
use Rattle.opa_talk.specs.declared.feed.Turn.TheVariants as turn
use Rattle.opa_talk.specs.Halt.{IsCause}
use Rattle.opa_talk.specs.Transcript.{Rule}
use Rattle.opa_talk.specs.Points.{Point, CarriesOut, GoesOn, EndsWithin, Breaks, BreaksWithin, BreaksAt, BreaksPart, TakesTurn}
use Rattle.opa_talk.proofs.PointsLaws.{breaks_none}

-- a front was appended to bytes that stayed
front_kept : (a b c : Option (List ℕ)) (xs : List ℕ) → Keeps a b → AppendsFront b c xs → AppendsFront a c xs
front_kept a b c xs k f = (f.0, f.1, f.2, Keeps-Appends a b c f.0 k f.3)

module _ {X : Type 0} (rule : Rule X) (a b c : Option (List ℕ)) (k : Keeps a b) where
  carries_kept : (old new : Point X) (bytes : List ℕ) → CarriesOut rule old new bytes b c → CarriesOut rule old new bytes a c
  carries_kept old new bytes p =
      record { whole = p.whole; cut = p.cut; ends = p.ends; part = p.part; fresh = p.fresh; text = p.text; said = p.said; wrote = Keeps-Appends a b c p.text k p.wrote }

  goes_kept : (old new : Point X) (bytes : List ℕ) → GoesOn rule old new bytes b c → GoesOn rule old new bytes a c
  goes_kept old new bytes p = record { going = p.going; carried = carries_kept old new bytes p.carried }

  ends_kept : (old new : Point X) (bytes : List ℕ) → EndsWithin rule old new bytes b c → EndsWithin rule old new bytes a c
  ends_kept old new bytes p = record { front = p.front; rest = p.rest; cut = p.cut; over = p.over; carried = carries_kept old new p.front p.carried }

  turn_kept : (old new : Point X) (most : ℕ) (left left' : Option (List ℕ)) (t : Turn) → TakesTurn rule old new most left left' b c t → TakesTurn rule old new most left left' a c t
  turn_kept old new most left left' turn.End p = (p.0, p.1, goes_kept old new [] p.2)
  turn_kept old new most left left' (turn.Read n) p = (p.0, p.1, p.2, p.3, p.4, goes_kept old new p.0 p.5)
  turn_kept old new most left left' turn.Over p = (p.0, p.1, p.2, ends_kept old new p.0 p.3)

  -- a turn that went well
  pub ok_kept : (old new : Point X) (most : ℕ) (left left' : Option (List ℕ)) (r : Result Turn Halt) → IfOk r (TakesTurn rule old new most left left' b c)
      → IfOk r (TakesTurn rule old new most left left' a c)
  ok_kept old new most left left' (Ok t) p = turn_kept old new most left left' t p
  ok_kept old new most left left' (Err e) p = tt

  module _ (Stops : X → List ℕ → X → Type 0) where
    breaks_kept : (old : Point X) (x' : X) (bytes : List ℕ) → Breaks rule Stops old x' bytes b c → Breaks rule Stops old x' bytes a c
    breaks_kept old x' bytes p =
        record { done = p.done; more = p.more; cut = p.cut; text = p.text; held = p.held; said = p.said; left = p.left; wrote = front_kept a b c p.text k p.wrote }

    within_kept : (old : Point X) (x' : X) (bytes : List ℕ) → BreaksWithin rule Stops old x' bytes b c → BreaksWithin rule Stops old x' bytes a c
    within_kept old x' bytes p = record { whole = p.whole; rest = p.rest; cut = p.cut; ends = p.ends; breaks = breaks_kept old x' p.whole p.breaks }

    at_kept : (old new : Point X) (read : List ℕ) (e : Halt) → BreaksAt rule Stops old new read b c e → BreaksAt rule Stops old new read a c e
    at_kept old new read halt.Input p = goes_kept old new read p
    at_kept old new read halt.Output p = within_kept old new.state read p
    at_kept old new read halt.Take p = within_kept old new.state read p
    at_kept old new read halt.Keep p = within_kept old new.state read p
    at_kept old new read halt.Memory p = within_kept old new.state read p
    at_kept old new read halt.Limit p = absurd p

    -- a turn that halted
    pub err_kept : (old new : Point X) (most : ℕ) (left left' : Option (List ℕ)) (r : Result Turn Halt) → IfErr r (BreaksPart rule Stops old new most left left' b c)
        → IfErr r (BreaksPart rule Stops old new most left left' a c)
    err_kept old new most left left' (Ok t) p = tt
    err_kept old new most left left' (Err e) p = (p.0, p.1, p.2, at_kept old new p.0 e p.3)

-- what was written couldn't be passed on, and nothing was read
pub broke_before : {X : Type 0} (rule : Rule X) (Stops : X → List ℕ → X → Type 0) (at : Point X) (most : ℕ) (left a b : Option (List ℕ)) (e : Halt) → Keeps a b
    → e ≡ halt.Output → BreaksPart rule Stops at at most left left a b e
broke_before rule Stops at most left a b e k is =
    let P : Halt → Type 0 = λ h. BreaksPart rule Stops at at most left left a b h in
    subst P (sym is) ([], Consumes-none left, omega arith, within_kept rule a b b k Stops at at.state [] (breaks_none rule Stops at [] b))

module _ (take take' keep keep' input input' : ℕ) where
  -- the sink failed
  pub output_cause : (output output' : ℕ) (e : Halt) → e ≡ halt.Output → Rose output output' → IsCause take take' keep keep' output output' input input' e
  output_cause output output' e is rose =
      let P : Halt → Type 0 = λ h. IsCause take take' keep keep' output output' input input' h in
      subst P (sym is) rose

  cause_kept : (before mid now : ℕ) → before ≤ mid → (e : Halt) → IsCause take take' keep keep' mid now input input' e → IsCause take take' keep keep' before now input input' e
  cause_kept before mid now less halt.Input p = p
  cause_kept before mid now less halt.Output p = rose_before before mid now less p
  cause_kept before mid now less halt.Take p = p
  cause_kept before mid now less halt.Keep p = p
  cause_kept before mid now less halt.Memory p = p
  cause_kept before mid now less halt.Limit p = p

  -- a cause after the sink's faults were counted is one from before
  pub err_cause : {T : Type 0} (before mid now : ℕ) → before ≤ mid → (r : Result T Halt) → IfErr r (IsCause take take' keep keep' mid now input input')
      → IfErr r (IsCause take take' keep keep' before now input input')
  err_cause before mid now less (Ok t) p = tt
  err_cause before mid now less (Err e) p = cause_kept before mid now less e p
