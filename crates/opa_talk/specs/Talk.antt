-- A talk between two bytes of its input.
use Rattle.std.specs.Prelude.{ℕ, ◌≡◌, ◌≤◌, ◌+◌, ◌⊎◌, Bool, List, ◌∷◌, ◌++◌, length, take}
use Rattle.std.specs.declared.option.Option.{Option}
use Rattle.std.specs.Io.KnownBytes.{Appends, Consumes, IsAtEnd}
use Rattle.opa_io.specs.Outside.{Rose, AppendsFront}
use Rattle.opa_talk.specs.declared.halt.Halt.{Halt}
use Rattle.opa_talk.specs.declared.halt.Halt.TheVariants as halt
use Rattle.opa_talk.specs.Lines.{input_lines, IsWhole}
use Rattle.opa_talk.specs.Transcript.{Rule, IsGoing, IsOver, IsTranscript}

-- this stands before the next line
pub record IsPrompt {X : Type 0} (rule : Rule X) (x : X) (text : List ℕ) (over : Bool) : Type 0 where
  pub text_is : text ≡ rule.prompt x
  pub over_is : over ≡ rule.is_over x

-- What a reply that halts may leave: the one where a count of faults rose, and the other for want of memory.
abbrev pub MayLeave : {X : Type 0} → ℕ → ℕ → (X → List ℕ → X → Type 0) → (X → List ℕ → X → Type 0) → X → List ℕ → X → Type 0
MayLeave before now Stops Lacks x line x' = (Rose before now × Stops x line x') ⊎ Lacks x line x'

-- Where the reply to a line halts, all is held as it was, or what such a halt may leave.
abbrev pub LeftBy : {X : Type 0} → (X → List ℕ → X → Type 0) → X → List ℕ → X → Type 0
LeftBy Stops x line x' = (x' ≡ x) ⊎ Stops x line x'

-- What is held where a talk halts after lines: what they leave, or what the reply to the next line may leave.
abbrev pub LeftAt : {X : Type 0} → (X → List ℕ → X → Type 0) → X → List (List ℕ) → X → Type 0
LeftAt Stops x more x' = (x' ≡ x) ⊎ ((line : List ℕ) × (rest : List (List ℕ)) × (more ≡ line ∷ rest) × Stops x line x')

-- Of the bytes that were read the lines of these are carried out: of those up to the last line feed, and of all at the end of
-- the input.
abbrev pub IsTaken : List ℕ → List ℕ → Option (List ℕ) → Type 0
IsTaken taken read left = IsWhole taken read ⊎ (IsAtEnd left × (taken ≡ read))

-- Some of the lines were carried out, what is held is what they leave, and a front of their transcript was written.
pub record Halted {X : Type 0} (rule : Rule X) (Stops : X → List ℕ → X → Type 0) (x x' : X) (lines : List (List ℕ)) (before now : Option (List ℕ)) : Type 0 where
  pub done : List (List ℕ)
  pub more : List (List ℕ)
  pub cut : done ++ more ≡ lines
  pub text : List ℕ
  pub held : X
  pub said : IsTranscript rule x done text held
  pub left : LeftAt Stops held more x'
  pub wrote : AppendsFront before now text

-- The lines whose line feed is among the bytes were carried out, their whole transcript was written, and the talk isn't over.
pub record Paused {X : Type 0} (rule : Rule X) (x x' : X) (bytes : List ℕ) (before now : Option (List ℕ)) : Type 0 where
  pub whole : List ℕ
  pub is_whole : IsWhole whole bytes
  pub text : List ℕ
  pub said : IsTranscript rule x (input_lines whole) text x'
  pub wrote : Appends before now text
  pub going : IsGoing rule x'

-- what ends a talk: the input is at its end, or no line is taken any more, whatever bytes come
abbrev pub IsEnded : {X : Type 0} → Rule X → X → X → List ℕ → List ℕ → Option (List ℕ) → Type 0
IsEnded rule x x' read text left = IsAtEnd left ⊎ (IsOver rule x' × ((more : List ℕ) → IsTranscript rule x (input_lines (read ++ more)) text x'))

-- The input was read up to where the talk ends, at most so many bytes of it, and its transcript was written.
pub record Converses {X : Type 0} (rule : Rule X) (x x' : X) (most : ℕ) (left left' before now : Option (List ℕ)) : Type 0 where
  pub read : List ℕ
  pub took : Consumes left left' read
  pub within : length read ≤ most
  pub text : List ℕ
  pub said : IsTranscript rule x (input_lines read) text x'
  pub wrote : Appends before now text
  pub ended : IsEnded rule x x' read text left'

-- the talk halts among the lines that are carried out of what was read
abbrev pub HaltedAmong : {X : Type 0} → Rule X → (X → List ℕ → X → Type 0) → X → X → List ℕ → Option (List ℕ) → Option (List ℕ) → Option (List ℕ) → Type 0
HaltedAmong rule Stops x x' read left before now = (taken : List ℕ) × IsTaken taken read left × Halted rule Stops x x' (input_lines taken) before now

-- What was read, written and left where a talk halts: a source that fails, and an input that is too long, leave the lines
-- carried out whose line feed was read, of a too long input among the most bytes that are read.
abbrev pub HaltsAt : {X : Type 0} → Rule X → (X → List ℕ → X → Type 0) → X → X → ℕ → List ℕ → Option (List ℕ) → Option (List ℕ) → Option (List ℕ) → Halt → Type 0
HaltsAt rule Stops x x' most read left before now halt.Input = (length read ≤ most) × Paused rule x x' read before now
HaltsAt rule Stops x x' most read left before now halt.Output = (length read ≤ most) × HaltedAmong rule Stops x x' read left before now
HaltsAt rule Stops x x' most read left before now halt.Take = (length read ≤ most) × HaltedAmong rule Stops x x' read left before now
HaltsAt rule Stops x x' most read left before now halt.Keep = (length read ≤ most) × HaltedAmong rule Stops x x' read left before now
HaltsAt rule Stops x x' most read left before now halt.Memory = (length read ≤ most) × HaltedAmong rule Stops x x' read left before now
HaltsAt rule Stops x x' most read left before now halt.Limit = (length read ≡ most + 1) × Paused rule x x' (take most read) before now

-- some of the input was read, and the talk halts there
abbrev pub Halts : {X : Type 0} → Rule X → (X → List ℕ → X → Type 0) → X → X → ℕ → Option (List ℕ) → Option (List ℕ) → Option (List ℕ) → Option (List ℕ) → Halt → Type 0
Halts rule Stops x x' most left left' before now halt = (read : List ℕ) × Consumes left left' read × HaltsAt rule Stops x x' most read left' before now halt
