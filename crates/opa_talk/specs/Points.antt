-- The steps of a talk: where it stands between two bytes of its input, and what leads from one such point to another.
use Rattle.std.specs.Prelude.{ℕ, ◌≡◌, ◌≤◌, ◌<◌, ◌+◌, ◌⊎◌, ◌&&◌, Bool, true, false, List, [], ◌∷◌, ◌++◌, length, take}
use Rattle.std.specs.declared.option.Option.{Option}
use Rattle.std.specs.Io.KnownBytes.{Appends, Consumes, IsAtEnd}
use Rattle.opa_io.specs.Outside.{AppendsFront}
use Rattle.opa_talk.specs.declared.halt.Halt.{Halt}
use Rattle.opa_talk.specs.declared.halt.Halt.TheVariants as halt
use Rattle.opa_talk.specs.declared.talk.Pending.{Pending}
use Rattle.opa_talk.specs.declared.feed.Turn.{Turn}
use Rattle.opa_talk.specs.declared.feed.Turn.TheVariants as turn
use Rattle.opa_talk.specs.declared.feed.Ending.{Ending}
use Rattle.opa_talk.specs.declared.feed.Ending.TheVariants as ending
use Rattle.opa_talk.specs.Lines.{lines_from, IsPart, EndsLine}
use Rattle.opa_talk.specs.Transcript.{Rule, IsGoing, IsOver, Prints}
use Rattle.opa_talk.specs.Talk.{LeftBy, LeftAt}

-- where a talk stands: what is held, the bytes since the last line feed, and whether no line feed was read yet
pub record Point (X : Type 0) : Type 0 where
  pub state : X
  pub pending : List ℕ
  pub fresh : Bool

abbrev pub point_of : {X : Type 0} → X → Pending → Point X
point_of x pending = record { state = x; pending = pending.bytes.items; fresh = pending.fresh }

abbrev pub is_empty : List ℕ → Bool
is_empty [] = true
is_empty (b ∷ bytes) = false

-- The bytes lead from one point to another: the lines that they make whole were carried out, and what these print was written.
pub record CarriesOut {X : Type 0} (rule : Rule X) (old new : Point X) (bytes : List ℕ) (before now : Option (List ℕ)) : Type 0 where
  pub whole : List ℕ
  pub cut : whole ++ new.pending ≡ old.pending ++ bytes
  pub ends : EndsLine whole
  pub part : IsPart new.pending
  pub fresh : new.fresh ≡ (old.fresh && is_empty whole)
  pub text : List ℕ
  pub said : Prints rule old.state (lines_from old.fresh whole) text new.state
  pub wrote : Appends before now text

-- The talk halts among the lines of these bytes, the pending ones among them.
pub record Breaks {X : Type 0} (rule : Rule X) (Stops : X → List ℕ → X → Type 0) (old : Point X) (x' : X) (bytes : List ℕ) (before now : Option (List ℕ)) : Type 0 where
  pub done : List (List ℕ)
  pub more : List (List ℕ)
  pub cut : done ++ more ≡ lines_from old.fresh bytes
  pub text : List ℕ
  pub held : X
  pub said : Prints rule old.state done text held
  pub left : LeftAt Stops held more x'
  pub wrote : AppendsFront before now text

-- The talk halts among those lines whose line feed is among the bytes.
pub record BreaksWithin {X : Type 0} (rule : Rule X) (Stops : X → List ℕ → X → Type 0) (old : Point X) (x' : X) (bytes : List ℕ) (before now : Option (List ℕ)) : Type 0 where
  pub whole : List ℕ
  pub rest : List ℕ
  pub cut : whole ++ rest ≡ old.pending ++ bytes
  pub ends : EndsLine whole
  pub breaks : Breaks rule Stops old x' whole before now

-- the prompt was written
pub record Asks {X : Type 0} (rule : Rule X) (x : X) (over : Bool) (before now : Option (List ℕ)) : Type 0 where
  pub over_is : over ≡ rule.is_over x
  pub wrote : Appends before now (rule.prompt x)

-- a line was carried out, and what it prints was written with the prompt after it
pub record CarriesLine {X : Type 0} (rule : Rule X) (x x' : X) (line : List ℕ) (over : Bool) (before now : Option (List ℕ)) : Type 0 where
  pub text : List ℕ
  pub replies : rule.Replies x line text x'
  pub over_is : over ≡ rule.is_over x'
  pub wrote : Appends before now (text ++ rule.prompt x')

-- the reply to a line halts and writes nothing, or it is carried out and a front of what it prints was written
abbrev pub StopsAt : {X : Type 0} → Rule X → (X → List ℕ → X → Type 0) → X → X → List ℕ → Option (List ℕ) → Option (List ℕ) → Type 0
StopsAt rule Stops x x' line before now = (LeftBy Stops x line x' × Appends before now []) ⊎ ((text : List ℕ) × rule.Replies x line text x' × AppendsFront before now (text ++ rule.prompt x'))

-- A front of the bytes was carried out, after which no line is taken any more.
pub record EndsWithin {X : Type 0} (rule : Rule X) (old new : Point X) (bytes : List ℕ) (before now : Option (List ℕ)) : Type 0 where
  pub front : List ℕ
  pub rest : List ℕ
  pub cut : front ++ rest ≡ bytes
  pub over : IsOver rule new.state
  pub carried : CarriesOut rule old new front before now

-- the bytes were carried out, and the talk goes on
pub record GoesOn {X : Type 0} (rule : Rule X) (old new : Point X) (bytes : List ℕ) (before now : Option (List ℕ)) : Type 0 where
  pub going : IsGoing rule new.state
  pub carried : CarriesOut rule old new bytes before now

abbrev pub TakesPiece : {X : Type 0} → Rule X → Point X → Point X → List ℕ → Option (List ℕ) → Option (List ℕ) → Bool → Type 0
TakesPiece rule old new bytes before now true = EndsWithin rule old new bytes before now
TakesPiece rule old new bytes before now false = GoesOn rule old new bytes before now

-- a piece of the input was read and carried out
abbrev pub TakesTurn : {X : Type 0} → Rule X → Point X → Point X → ℕ → Option (List ℕ) → Option (List ℕ) → Option (List ℕ) → Option (List ℕ) → Turn → Type 0
TakesTurn rule old new most left left' before now turn.End = Consumes left left' [] × IsAtEnd left' × GoesOn rule old new [] before now
TakesTurn rule old new most left left' before now (turn.Read n) = (read : List ℕ) × Consumes left left' read × (length read ≡ n) × (0 < n) × (n ≤ most) × GoesOn rule old new read before now
TakesTurn rule old new most left left' before now turn.Over = (read : List ℕ) × Consumes left left' read × (length read ≤ most) × EndsWithin rule old new read before now

-- pieces of the input were read and carried out
abbrev pub TakesLines : {X : Type 0} → Rule X → Point X → Point X → ℕ → Option (List ℕ) → Option (List ℕ) → Option (List ℕ) → Option (List ℕ) → Ending → Type 0
TakesLines rule old new most left left' before now ending.End = (read : List ℕ) × Consumes left left' read × (length read ≤ most) × IsAtEnd left' × GoesOn rule old new read before now
TakesLines rule old new most left left' before now ending.Full = (read : List ℕ) × Consumes left left' read × (length read ≡ most) × GoesOn rule old new read before now
TakesLines rule old new most left left' before now ending.Over = (read : List ℕ) × Consumes left left' read × (length read ≤ most) × EndsWithin rule old new read before now

-- where reading pieces halts
abbrev pub BreaksAt : {X : Type 0} → Rule X → (X → List ℕ → X → Type 0) → Point X → Point X → List ℕ → Option (List ℕ) → Option (List ℕ) → Halt → Type 0
BreaksAt rule Stops old new read before now halt.Input = GoesOn rule old new read before now
BreaksAt rule Stops old new read before now halt.Output = BreaksWithin rule Stops old new.state read before now
BreaksAt rule Stops old new read before now halt.Take = BreaksWithin rule Stops old new.state read before now
BreaksAt rule Stops old new read before now halt.Keep = BreaksWithin rule Stops old new.state read before now
BreaksAt rule Stops old new read before now halt.Memory = BreaksWithin rule Stops old new.state read before now
BreaksAt rule Stops old new read before now halt.Limit = ⊥

abbrev pub BreaksPart : {X : Type 0} → Rule X → (X → List ℕ → X → Type 0) → Point X → Point X → ℕ → Option (List ℕ) → Option (List ℕ) → Option (List ℕ) → Option (List ℕ) → Halt → Type 0
BreaksPart rule Stops old new most left left' before now halt = (read : List ℕ) × Consumes left left' read × (length read ≤ most) × BreaksAt rule Stops old new read before now halt

-- one more byte was asked for: the input is at its end, or the byte was read
abbrev pub Probes : Option (List ℕ) → Option (List ℕ) → Bool → Type 0
Probes left left' true = Consumes left left' [] × IsAtEnd left'
Probes left left' false = (read : List ℕ) × Consumes left left' read × (length read ≡ 1)

-- The last line, which no line feed ends, was carried out if it isn't empty.
pub record Finishes {X : Type 0} (rule : Rule X) (at : Point X) (x' : X) (before now : Option (List ℕ)) : Type 0 where
  pub text : List ℕ
  pub said : Prints rule at.state (lines_from at.fresh at.pending) text x'
  pub wrote : Appends before now text

-- nothing was read
abbrev pub fresh_point : {X : Type 0} → X → Point X
fresh_point x = record { state = x; pending = []; fresh = true }

-- From a point on the input was read up to where the talk ends, and what it prints was written.
pub record Feeds {X : Type 0} (rule : Rule X) (at : Point X) (x' : X) (most : ℕ) (left left' before now : Option (List ℕ)) : Type 0 where
  pub read : List ℕ
  pub took : Consumes left left' read
  pub within : length read ≤ most
  pub text : List ℕ
  pub said : Prints rule at.state (lines_from at.fresh (at.pending ++ read)) text x'
  pub wrote : Appends before now text
  pub ended : IsAtEnd left' ⊎ (IsOver rule x' × ((more : List ℕ) → Prints rule at.state (lines_from at.fresh (at.pending ++ (read ++ more))) text x'))

-- the talk halts among the lines whose line feed was read, or among all at the end of the input
abbrev pub BreaksAmong : {X : Type 0} → Rule X → (X → List ℕ → X → Type 0) → Point X → X → List ℕ → Option (List ℕ) → Option (List ℕ) → Option (List ℕ) → Type 0
BreaksAmong rule Stops old x' read left before now = BreaksWithin rule Stops old x' read before now ⊎ (IsAtEnd left × Breaks rule Stops old x' (old.pending ++ read) before now)

-- where the talk halts from a point on
abbrev pub FeedBreaksAt : {X : Type 0} → Rule X → (X → List ℕ → X → Type 0) → Point X → Point X → ℕ → List ℕ → Option (List ℕ) → Option (List ℕ) → Option (List ℕ) → Halt → Type 0
FeedBreaksAt rule Stops old new most read left before now halt.Input = (length read ≤ most) × GoesOn rule old new read before now
FeedBreaksAt rule Stops old new most read left before now halt.Output = (length read ≤ most) × BreaksAmong rule Stops old new.state read left before now
FeedBreaksAt rule Stops old new most read left before now halt.Take = (length read ≤ most) × BreaksAmong rule Stops old new.state read left before now
FeedBreaksAt rule Stops old new most read left before now halt.Keep = (length read ≤ most) × BreaksAmong rule Stops old new.state read left before now
FeedBreaksAt rule Stops old new most read left before now halt.Memory = (length read ≤ most) × BreaksAmong rule Stops old new.state read left before now
FeedBreaksAt rule Stops old new most read left before now halt.Limit = (length read ≡ most + 1) × GoesOn rule old new (take most read) before now

abbrev pub FeedBreaks : {X : Type 0} → Rule X → (X → List ℕ → X → Type 0) → Point X → Point X → ℕ → Option (List ℕ) → Option (List ℕ) → Option (List ℕ) → Option (List ℕ) → Halt → Type 0
FeedBreaks rule Stops old new most left left' before now halt = (read : List ℕ) × Consumes left left' read × FeedBreaksAt rule Stops old new most read left' before now halt
