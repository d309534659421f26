-- Laws of a caseload: a supposition that is taken back leaves nothing, and each case's replies are those that it would get alone.
use Rattle.std.specs.Prelude.{◌≡◌, ◌≢◌, ◌≤◌, ◌+◌, ◌==◌, ℕ, List, [], ◌∷◌, length, map, flat_map, Some, if◌then◌else◌}
use Rattle.std.specs.List.{concat}
use Rattle.std.specs.FinMap as cases
use Rattle.opa_tree.specs.declared.rulebase.Rulebase.{Rulebase}
use Rattle.opa_talk.specs.Lines.{lines, IsPart}
use Rattle.opa_talk.specs.Transcript.{IsTranscript}
use Rattle.opa_cases.specs.declared.kept.OpenCase.{OpenCase}
use Rattle.opa_cases.specs.Scripts.{Replies, IsScript, Undoes, supposed}
use Rattle.opa_cases.specs.Caseload.{Held, IsNamed, RepliesLine, behind_name, caseload, front_of, refused_cases}

-- Lines of a case that keep it open and never leave fewer than so many suppositions: from one state of it to another.
abbrev pub IsAbove : Rulebase → ℕ → OpenCase → List (List ℕ) → OpenCase → Type 0
IsAbove r n s [] t = t ≡ s
IsAbove r n s (rest ∷ more) t = (text : List ℕ) × (next : OpenCase) × Replies r s rest text (Some next) × (n ≤ length next.pile) × IsAbove r n next more t

-- A supposition, lines that don't take it back, and the `undo` that does: the case, its number and its pile are as they were, and
-- so is every line of it, which is a function of the case.
abbrev pub SuppositionsLeaveNothing : Type 0
SuppositionsLeaveNothing =
    (r : Rulebase) (s t u : OpenCase) (rests : List (List ℕ)) (said : List ℕ) → IsAbove r (length s.pile + 1) (supposed s) rests t → length t.pile ≡ length s.pile + 1 → Undoes t said u → u ≡ s

-- lines, each with what it prints
abbrev pub ArePrinted : Held → List (List ℕ) → List (List ℕ) → Held → Type 0
ArePrinted x [] texts y = (texts ≡ []) × (y ≡ x)
ArePrinted x (read ∷ more) texts y = (text : List ℕ) × (next : Held) × RepliesLine x read text next × ((others : List (List ℕ)) × ArePrinted next more others y × (texts ≡ text ∷ others))

-- A transcript is what its lines print, one after another.
abbrev pub InOrder : Type 0
InOrder = (x y : Held) (reads : List (List ℕ)) (text : List ℕ) → IsTranscript caseload x reads text y → (texts : List (List ℕ)) × ArePrinted x reads texts y × (text ≡ concat texts)

-- Of lines and what they print, those of a name: the rests of these lines, and their texts, none of which is refused for the number
-- of cases.
pub data Picks (name : List ℕ) : List (List ℕ) → List (List ℕ) → List (List ℕ) → List (List ℕ) → Type 0 where
  none : Picks name [] [] [] []
  other : {reads texts rests picked : List (List ℕ)} (read text : List ℕ) → ((rest : List ℕ) → IsNamed read name rest → ⊥) → Picks name reads texts rests picked → Picks name (read ∷ reads) (text ∷ texts) rests picked
  this : {reads texts rests picked : List (List ℕ)} (read text rest : List ℕ) → IsNamed read name rest → text ≢ refused_cases name → Picks name reads texts rests picked
      → Picks name (read ∷ reads) (text ∷ texts) (rest ∷ rests) (text ∷ picked)

-- What the lines of a name print is what they would print alone, each line of it behind the name.
abbrev pub EachAlone : Type 0
EachAlone =
    (x y : Held) (name : List ℕ) (reads texts rests picked : List (List ℕ)) → ArePrinted x reads texts y → Picks name reads texts rests picked
    → (parts : List (List ℕ)) × IsScript x.rules (cases.get x.open_cases name) rests parts (cases.get y.open_cases name) × (picked ≡ map (behind_name name) parts)

-- what follows a front, where the bytes begin with it, and else nothing
abbrev pub behind : List ℕ → List ℕ → List ℕ
behind [] bytes = bytes
behind (f ∷ front) [] = []
behind (f ∷ front) (b ∷ bytes) = if f == b then behind front bytes else []

-- of the lines of a text, those that begin with the quoted name and a blank, without these
abbrev pub said_to : List ℕ → List ℕ → List ℕ
said_to name text = flat_map (behind (front_of name)) (lines text)

-- Of all that is printed, the lines that begin with the quoted name and a blank are, without these, what the lines of that name
-- would print alone.
abbrev pub EachHeard : Type 0
EachHeard =
    (x y : Held) (name : List ℕ) (reads texts rests picked : List (List ℕ)) → IsPart name → ArePrinted x reads texts y → Picks name reads texts rests picked
    → (parts : List (List ℕ)) × IsScript x.rules (cases.get x.open_cases name) rests parts (cases.get y.open_cases name) × (said_to name (concat texts) ≡ concat parts)
