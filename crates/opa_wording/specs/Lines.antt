-- The texts of lines.
use Rattle.std.specs.Prelude.{ℕ, List, false}
use Rattle.opa_value.specs.declared.value.Value.{Value}
use Rattle.opa_value.specs.declared.value.Value.TheVariants as value
use Rattle.opa_model.specs.declared.lists.Lists.{Lists}
use Rattle.opa_model.specs.declared.things.Kind.TheVariants as kind
use Rattle.opa_words.specs.Written.{text_of}
use Rattle.opa_text.specs.Texts.{value_text}
use Rattle.opa_tree.specs.declared.expr.Expr.{Expr}
use Rattle.opa_wording.specs.Wordings.{wording, date_text}

abbrev pub literal_text : Value → List ℕ
literal_text (value.Day d) = date_text d
literal_text v = value_text kind.Number v

-- the text of a tree as a line
abbrev pub line_text : Lists → Expr → List ℕ
line_text m e = text_of ((wording m e).as_line false)
