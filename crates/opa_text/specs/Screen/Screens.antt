-- Screens, and the questions that lie on them.
use Rattle.std.specs.Prelude.{◌≡◌, ℕ, zero, suc, ◌+◌, ◌==◌, Bool, true, false, List, [], ◌∷◌, ◌++◌, Option, None, Some, codes, filter, flat_map, unwrap_or}
use Rattle.std.specs.List.{list_any, position_from}
use Rattle.opa_model.specs.declared.lists.Lists.{Lists}
use Rattle.opa_model.specs.declared.things.Item.{Item}
use Rattle.opa_model.specs.declared.things.Item.TheVariants as item
use Rattle.opa_model.specs.declared.things.Screen.{Screen}
use Rattle.opa_model.specs.Lookups.{screen_at}
use Rattle.opa_case.specs.declared.question.Question.{Question}
use Rattle.opa_case.specs.declared.question.Question.TheVariants as question
use Rattle.opa_text.specs.Points.{question_text}

-- the question asks for the item, of whatever instance
abbrev pub asks : Question → Item → Bool
asks (question.Attr a i) (item.Attr b) = a.0 == b.0
asks (question.Members r i) (item.Members s) = r.0 == s.0
asks (question.Attr a i) (item.Members s) = false
asks (question.Members r i) (item.Attr b) = false

abbrev pub lists : Question → Screen → Bool
lists q s = list_any (asks q) s.items

-- The number of the first declared screen that lists what the question asks for. Screens are counted from 1, and 0 stands
-- for the one of all questions that no declared screen lists.
abbrev pub screen_of : Lists → Question → ℕ
screen_of m q = unwrap_or (position_from (lists q) 1 m.screens) 0

-- no other screen lists it
abbrev pub IsListedOnlyOn : Lists → Question → ℕ → Type 0
IsListedOnlyOn m q n = (k : ℕ) (s : Screen) → screen_at m k ≡ Some s → lists q s ≡ true → n ≡ k + 1

-- the declared screen with the number
abbrev pub numbered : Lists → ℕ → Option Screen
numbered m zero = None
numbered m (suc n) = screen_at m n

abbrev pub title_or : Option Screen → List ℕ
title_or None = codes "Questions"
title_or (Some s) = s.title

-- the questions that lie on the screen, in their order
abbrev pub shown_on : Lists → ℕ → List Question → List Question
shown_on m n qs = filter (λ q. screen_of m q == n) qs

-- two spaces and what is asked
abbrev pub question_line : Lists → Question → List ℕ
question_line m q = codes "  " ++ (unwrap_or (question_text m q) [] ++ 10 ∷ [])

abbrev pub question_lines : Lists → List Question → List ℕ
question_lines m qs = flat_map (question_line m) qs

-- `[TITLE]`
abbrev pub heading : Lists → ℕ → List ℕ
heading m n = codes "[" ++ (title_or (numbered m n) ++ (codes "]" ++ 10 ∷ []))

-- the title, then a line for each of the questions that lie on the screen
abbrev pub screen_text : Lists → ℕ → List Question → List ℕ
screen_text m n qs = heading m n ++ question_lines m (shown_on m n qs)
