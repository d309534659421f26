-- How a line is indented.
use Rattle.std.specs.Prelude.{◌≡◌, ℕ, ◌+◌, List, [], ◌∷◌, Bool, true, false, not, ◌||◌, ◌==◌, if◌then◌else◌}

abbrev pub is_blank : ℕ → Bool
is_blank b = (b == 32) || (b == 9)

-- what follows the blanks at the front
abbrev pub past_blanks : List ℕ → List ℕ
past_blanks [] = []
past_blanks (b ∷ bs) = if is_blank b then past_blanks bs else b ∷ bs

-- nothing, or a comment
abbrev pub is_void : List ℕ → Bool
is_void [] = true
is_void (b ∷ bs) = b == 35

-- a line that is passed over, which is blank or a comment
abbrev pub is_passed : List ℕ → Bool
is_passed text = is_void (past_blanks text)

-- How many levels the blanks at the front have: a tab is one, and two spaces are one. The flag says that a first space
-- stands before.
abbrev pub levels : Bool → List ℕ → ℕ
levels half [] = 0
levels half (b ∷ bs) = if b == 9 then levels false bs + 1 else (if b == 32 then (if half then levels false bs + 1 else levels true bs) else 0)

abbrev pub level : List ℕ → ℕ
level text = levels false text

-- whether a space among the blanks at the front has no second one
abbrev pub is_odd : Bool → List ℕ → Bool
is_odd half [] = half
is_odd half (b ∷ bs) = if b == 9 then half || is_odd false bs else (if b == 32 then is_odd (not half) bs else half)

abbrev pub has_odd_space : List ℕ → Bool
has_odd_space text = is_odd false text

-- no blank stands at the front
abbrev pub NoBlankFirst : List ℕ → Type 0
NoBlankFirst [] = Unit {0}
NoBlankFirst (b ∷ bs) = is_blank b ≡ false
