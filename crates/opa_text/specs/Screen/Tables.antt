-- The screens of questions in a table.
use Rattle.std.specs.Prelude.{◌≡◌, ℕ, unwrap_or}
use Rattle.std.specs.BTreeMap.{BTreeMap}
use Rattle.std.specs.BTreeMap as tree
use Rattle.std.specs.Ordering.{nat_cmp}
use Rattle.opa_model.specs.declared.lists.Lists.{Lists}
use Rattle.opa_case.specs.declared.question.Question.{Question}
use Rattle.opa_case.specs.declared.question.Question.TheVariants as question
use Rattle.opa_text.specs.Screen.Screens.{screen_of}
use Rattle.opa_text.specs.declared.screen.table.Table.{Table}

-- the number under a key, 0 where there is none
abbrev pub number_at : BTreeMap ℕ ℕ → ℕ → ℕ
number_at numbers k = unwrap_or (tree.get nat_cmp numbers k) 0

-- the number for what a question asks for
abbrev pub number_in : Table → Question → ℕ
number_in t (question.Attr a i) = number_at t.attrs a.0
number_in t (question.Members r i) = number_at t.lists r.0

-- it is that of the question's screen, whatever the question
abbrev pub AreNumbers : Lists → Table → Type 0
AreNumbers m t = (q : Question) → number_in t q ≡ screen_of m q
