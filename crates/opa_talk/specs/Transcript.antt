-- What a talk prints. A rule says what stands before a line, when no line is taken any more, and what a line may print and
-- leave; a transcript is what lines print, one after another.
use Rattle.std.specs.Prelude.{ℕ, ◌≡◌, ◌⊎◌, Bool, true, false, List, [], ◌∷◌, ◌++◌}
use Rattle.opa_talk.specs.Lines.{lines, input_lines}

pub record Rule (X : Type 0) : Type 1 where
  -- what stands before the next line
  pub prompt : X → List ℕ
  -- no line is taken any more
  pub is_over : X → Bool
  -- a line prints this, and this is held after it
  pub Replies : X → List ℕ → List ℕ → X → Type 0

-- a further line is taken
abbrev pub IsGoing : {X : Type 0} → Rule X → X → Type 0
IsGoing rule x = rule.is_over x ≡ false

-- no line is taken any more
abbrev pub IsOver : {X : Type 0} → Rule X → X → Type 0
IsOver rule x = rule.is_over x ≡ true

-- Lines print this, one after another, each with the prompt that follows it, and leave this. Where no line is taken any
-- more they print nothing.
abbrev pub Prints : {X : Type 0} → Rule X → X → List (List ℕ) → List ℕ → X → Type 0
Prints rule x [] text y = (text ≡ []) × (y ≡ x)
Prints {X} rule x (line ∷ more) text y =
    (IsOver rule x × (text ≡ []) × (y ≡ x))
    ⊎ (IsGoing rule x × ((said : List ℕ) × (next : X) × (rest : List ℕ) × rule.Replies x line said next × Prints rule next more rest y × (text ≡ said ++ (rule.prompt next ++ rest))))

-- the first prompt, and what the lines print
abbrev pub IsTranscript : {X : Type 0} → Rule X → X → List (List ℕ) → List ℕ → X → Type 0
IsTranscript rule x more text y = (rest : List ℕ) × Prints rule x more rest y × (text ≡ rule.prompt x ++ rest)

-- where this is so, a line prints one text, one thing is held after it, and it is so again
abbrev pub IsDecided : {X : Type 0} → Rule X → (X → Bool) → Type 0
IsDecided {X} rule is_so = (x y y' : X) (line said said' : List ℕ) → is_so x ≡ true → rule.Replies x line said y → rule.Replies x line said' y' → (said ≡ said') × (y ≡ y') × (is_so y ≡ true)

-- Cutting an input at any line feed, its transcript is that of the first part, and then what the rest prints from what the
-- first part leaves.
abbrev pub CutsAnywhere : {X : Type 0} → Rule X → Type 0
CutsAnywhere {X} rule = (x y : X) (front rest text : List ℕ) → IsTranscript rule x (input_lines (front ++ 10 ∷ rest)) text y
    → (first : List ℕ) × (held : X) × (second : List ℕ) × IsTranscript rule x (input_lines (front ++ 10 ∷ [])) first held × Prints rule held (lines rest) second y × (text ≡ first ++ second)

-- Where each line prints one text, lines have one transcript, and leave one thing.
abbrev pub HasOneTranscript : {X : Type 0} → Rule X → Type 0
HasOneTranscript {X} rule = (is_so : X → Bool) → IsDecided rule is_so
    → (x y y' : X) (more : List (List ℕ)) (text text' : List ℕ) → is_so x ≡ true → IsTranscript rule x more text y → IsTranscript rule x more text' y' → (text ≡ text') × (y ≡ y')
