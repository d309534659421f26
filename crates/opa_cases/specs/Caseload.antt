-- A caseload: the lines of many cases, each behind the name of its case.
use Rattle.std.specs.Prelude.{◌≡◌, ◌≤◌, ◌⊎◌, ◌&&◌, ℕ, Bool, true, false, not, nat_lt, List, [], ◌∷◌, ◌++◌, length, flat_map, codes, Option, None, Some, is_some, if◌then◌else◌}
use Rattle.std.specs.FinMap as map
use Rattle.std.specs.Ordering.{nat_cmp}
use Rattle.std.specs.Cmp.Lexicographic.{slice_cmp}
use Rattle.std.specs.Str.{IsUtf8}
use Rattle.opa_io.specs.Outside.{Files}
use Rattle.opa_tree.specs.declared.rulebase.Rulebase.{Rulebase}
use Rattle.opa_talk.specs.Lines.{lines}
use Rattle.opa_talk.specs.Transcript.{Rule}
use Rattle.opa_words.specs.Fronts.{BeginsWithText}
use Rattle.opa_words.specs.Kinds.{quoted}
use Rattle.opa_script.specs.Lines.{is_idle, past_blanks}
use Rattle.opa_reply.specs.Lines.{bytes_of, text_of, LONGEST}
use Rattle.opa_cases.specs.declared.kept.OpenCase.{OpenCase}
use Rattle.opa_cases.specs.Scripts.{Replies, opened, line}
use Rattle.opa_io.specs.declared.limits.TheConstants.{MOST_CASES, MOST_CASE_NAME}

-- the cases that are open, by their names
abbrev pub Opens : Type 0
Opens = map.FinMap (slice_cmp nat_cmp) OpenCase

-- What is held between two lines: a rulebase, the cases that are open, and the files of a shelf, where they are told.
pub record Held : Type 0 where
  pub rules : Rulebase
  pub open_cases : Opens
  pub files : Option Files

abbrev pub held : Rulebase → Opens → Option Files → Held
held rules open_cases files = record { rules = rules; open_cases = open_cases; files = files }

abbrev pub with_cases : Held → Opens → Held
with_cases x open_cases = held x.rules open_cases x.files

-- how many names may be open
abbrev pub MOST_NAMES : ℕ
MOST_NAMES = MOST_CASES

-- The line isn't too long, and behind blanks it is a text that begins with a name of 1 to 100 bytes between quotes, and this follows.
pub record IsNamed (read name rest : List ℕ) : Type 0 where
  pub short : length (bytes_of read) ≤ LONGEST
  pub utf8 : IsUtf8 (past_blanks (text_of read))
  pub begins : BeginsWithText (past_blanks (text_of read)) name rest
  pub some : 1 ≤ length name
  pub few : length name ≤ MOST_CASE_NAME

-- no case is named
abbrev pub IsUnnamed : List ℕ → Type 0
IsUnnamed read = (name rest : List ℕ) → IsNamed read name rest → ⊥

-- what stands before each line that is printed of a case
abbrev pub front_of : List ℕ → List ℕ
front_of name = quoted name ++ 32 ∷ []

-- each line that is printed stands behind the name of its case
abbrev pub behind_name : List ℕ → List ℕ → List ℕ
behind_name name text = flat_map (λ l. front_of name ++ l) (lines text)

-- a case that was closed isn't open
abbrev pub put : Opens → List ℕ → Option OpenCase → Opens
put cases name None = map.remove cases name
put cases name (Some s) = map.insert cases name s

-- no further name may be opened
abbrev pub is_full : Opens → List ℕ → Bool
is_full cases name = not (is_some (map.get cases name)) && not (nat_lt (map.len cases) MOST_NAMES)

abbrev pub refused_cases : List ℕ → List ℕ
refused_cases name = behind_name name (line (codes "refused: cases"))

-- what a line prints of no case
abbrev pub RepliesUnnamed : Held → List ℕ → List ℕ → Held → Type 0
RepliesUnnamed x read text y = (text ≡ (if is_idle (text_of read) then [] else line (codes "refused: line"))) × (y ≡ x)

-- the rest of a line of a case is carried out, and what it prints stands behind the name
pub record Serves (x : Held) (name rest text : List ℕ) (y : Held) : Type 0 where
  pub room : is_full x.open_cases name ≡ false
  pub said : List ℕ
  pub next : Option OpenCase
  pub replies : Replies x.rules (opened (map.get x.open_cases name)) rest said next
  pub text_is : text ≡ behind_name name said
  pub after : y ≡ with_cases x (put x.open_cases name next)

-- what it prints of the case that it names
abbrev pub RepliesNamed : Held → List ℕ → List ℕ → List ℕ → Held → Type 0
RepliesNamed x name rest text y = ((is_full x.open_cases name ≡ true) × (text ≡ refused_cases name) × (y ≡ x)) ⊎ Serves x name rest text y

-- What a line prints, and what is held after it.
abbrev pub RepliesLine : Held → List ℕ → List ℕ → Held → Type 0
RepliesLine x read text y = (IsUnnamed read × RepliesUnnamed x read text y) ⊎ ((name rest : List ℕ) × IsNamed read name rest × RepliesNamed x name rest text y)

-- Where memory runs out in a line, the files are as they were; nothing else is said of what is held then.
abbrev pub Lacks : Held → List ℕ → Held → Type 0
Lacks x read y = y.files ≡ x.files

-- no line keeps a file
abbrev pub Stops : Held → List ℕ → Held → Type 0
Stops x read y = ⊥

-- The rule of a caseload: there are no prompts, and it is never over.
abbrev pub caseload : Rule Held
caseload = record { prompt = λ x. []; is_over = λ x. false; Replies = RepliesLine }

-- At first no case is open.
abbrev pub at_first : Rulebase → Option Files → Held
at_first rules files = held rules map.empty files
