-- What a halt leaves where a count of faults rose, from an earlier count.
use Rattle.std.proofs.Common.{◌≤◌, inl, inr, ℕ, List, Result, Ok, Err, OnErr}
use Rattle.std.specs.declared.option.Option.{Option}
use Rattle.opa_io.proofs.Outsides.{rose_before}
use Rattle.opa_talk.specs.declared.halt.Halt.{Halt}
use Rattle.opa_talk.specs.declared.halt.Halt.TheVariants as halt
use Rattle.opa_talk.specs.Transcript.{Rule}
use Rattle.opa_talk.specs.Talk.{MayLeave, LeftAt}
use Rattle.opa_talk.specs.Points.{Point, Breaks, BreaksWithin, BreaksAt, BreaksPart}

module _ {X : Type 0} (rule : Rule X) (Stops Lacks : X → List ℕ → X → Type 0) (before mid now : ℕ) (less : before ≤ mid) where
  may_later : (x x' : X) (line : List ℕ) → MayLeave mid now Stops Lacks x line x' → MayLeave before now Stops Lacks x line x'
  may_later x x' line may = elim may [ inl s ↦ inl (rose_before before mid now less s.0, s.1) | inr l ↦ inr l ]

  left_later : (x x' : X) (more : List (List ℕ)) → LeftAt (MayLeave mid now Stops Lacks) x more x' → LeftAt (MayLeave before now Stops Lacks) x more x'
  left_later x x' more left = elim left [ inl e ↦ inl e | inr s ↦ inr (s.0, s.1, s.2, may_later x x' s.0 s.3) ]

  breaks_later : (at : Point X) (x' : X) (bytes : List ℕ) (w w' : Option (List ℕ)) → Breaks rule (MayLeave mid now Stops Lacks) at x' bytes w w' → Breaks rule (MayLeave before now Stops Lacks) at x' bytes w w'
  breaks_later at x' bytes w w' b =
      record { done = b.done; more = b.more; cut = b.cut; text = b.text; held = b.held; said = b.said; left = left_later b.held x' b.more b.left; wrote = b.wrote }

  pub within_later : (at : Point X) (x' : X) (bytes : List ℕ) (w w' : Option (List ℕ)) → BreaksWithin rule (MayLeave mid now Stops Lacks) at x' bytes w w' → BreaksWithin rule (MayLeave before now Stops Lacks) at x' bytes w w'
  within_later at x' bytes w w' b = record { whole = b.whole; rest = b.rest; cut = b.cut; ends = b.ends; breaks = breaks_later at x' b.whole w w' b.breaks }

  pub err_later : {T E : Type 0} (res : Result T E) (at : Point X) (x' : X) (bytes : List ℕ) (w w' : Option (List ℕ)) → OnErr res (Breaks rule (MayLeave mid now Stops Lacks) at x' bytes w w')
      → OnErr res (Breaks rule (MayLeave before now Stops Lacks) at x' bytes w w')
  err_later (Ok v) at x' bytes w w' err = tt
  err_later (Err e) at x' bytes w w' err = breaks_later at x' bytes w w' err

  at_later : (at new : Point X) (read : List ℕ) (w w' : Option (List ℕ)) (e : Halt) → BreaksAt rule (MayLeave mid now Stops Lacks) at new read w w' e → BreaksAt rule (MayLeave before now Stops Lacks) at new read w w' e
  at_later at new read w w' halt.Input b = b
  at_later at new read w w' halt.Output b = within_later at new.state read w w' b
  at_later at new read w w' halt.Take b = within_later at new.state read w w' b
  at_later at new read w w' halt.Keep b = within_later at new.state read w w' b
  at_later at new read w w' halt.Memory b = within_later at new.state read w w' b
  at_later at new read w w' halt.Limit b = absurd b

  pub part_later : (at new : Point X) (most : ℕ) (l l' w w' : Option (List ℕ)) (e : Halt) → BreaksPart rule (MayLeave mid now Stops Lacks) at new most l l' w w' e
      → BreaksPart rule (MayLeave before now Stops Lacks) at new most l l' w w' e
  part_later at new most l l' w w' e b = (b.0, b.1, b.2, at_later at new b.0 w w' e b.3)
