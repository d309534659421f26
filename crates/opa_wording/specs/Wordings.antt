-- How a tree is written as a line, token by token, with brackets wherever what stands there could be read otherwise.
use Rattle.std.specs.Prelude.{ℕ, ◌==◌, nat_lt, pos, decimal, List, [], ◌∷◌, ◌++◌, Bool, true, false, Option, Some, None, codes, if◌then◌else◌}
use Rattle.std.specs.Char.{is_ascii_digit}
use Rattle.std.specs.Int.RustNames.{unsigned_abs}
use Rattle.opa_value.specs.declared.value.Value.{Value}
use Rattle.opa_value.specs.declared.value.Value.TheVariants as value
use Rattle.opa_value.specs.NumberText.{plain_text, is_negative}
use Rattle.opa_date.specs.declared.TheConstants.{DAYS}
use Rattle.opa_date.specs.Texts.{day_text}
use Rattle.opa_model.specs.declared.ids.RelId.{RelId}
use Rattle.opa_model.specs.declared.things.Attribute.{Attribute}
use Rattle.opa_model.specs.declared.things.Relation.{Relation}
use Rattle.opa_model.specs.declared.lists.Lists.{Lists}
use Rattle.opa_model.specs.Lookups.{attribute_at, relation_at}
use Rattle.opa_tree.specs.declared.kinds.OpKind.{OpKind}
use Rattle.opa_tree.specs.declared.expr.Expr.{Expr}
use Rattle.opa_tree.specs.declared.expr.Expr.TheOpen.{Expr-F, Row-F, Const, Attr, All, Any, Not, Op, Certain, Known, Over, Window, Rolling, Table}
use Rattle.opa_tree.specs.declared.expr.Expr.TheFolds.{fold-Expr}
use Rattle.opa_words.specs.Pieces.{Piece, word, number, date, symbol, text}
use Rattle.opa_words.specs.Written.{Written, spaced, joined}
use Rattle.opa_text.specs.Texts.{bool_text}
use Rattle.opa_wording.specs.declared.joint.Joint.{Joint}
use Rattle.opa_wording.specs.declared.joint.Joint.TheVariants as joint
use Rattle.opa_wording.specs.Signs.{is_infix, op_text, op_piece, quant_text, window_text, rolling_text}

-- a token, with a blank before it or none
abbrev pub token : Bool → Piece → Written
token s p = record { spaced = s; piece = p }

-- ---- leaves

-- a day that the calendar doesn't have has no text
abbrev pub date_text : ℕ → List ℕ
date_text d = if nat_lt d DAYS then day_text d else []

-- a minus is a token of its own
abbrev pub signed : Bool → Bool → List ℕ → List Written
signed s true digits = token s (symbol (codes "-")) ∷ joined (number digits) ∷ []
signed s false digits = token s (number digits) ∷ []

abbrev pub literal : Bool → Value → List Written
literal s value.Unknown = token s (word (codes "unknown")) ∷ []
literal s value.Uncertain = token s (word (codes "uncertain")) ∷ []
literal s (value.Bool b) = token s (word (bool_text b)) ∷ []
literal s (value.Num n) = signed s (is_negative n) (plain_text (pos (unsigned_abs n)))
literal s (value.Words t) = token s (text t) ∷ []
literal s (value.Day d) = token s (date (date_text d)) ∷ []

-- a word of a phrase, which is a number where it begins with a digit
abbrev pub phrase_word : List ℕ → Piece
phrase_word [] = word []
phrase_word (c ∷ cs) = if is_ascii_digit c then number (c ∷ cs) else word (c ∷ cs)

-- the words of a phrase, of which some of the first one is known
abbrev pub words_from : Bool → List ℕ → List ℕ → List Written
words_from s w [] = token s (phrase_word w) ∷ []
words_from s w (c ∷ cs) = if c == 32 then token s (phrase_word w) ∷ words_from true [] cs else words_from s (w ++ c ∷ []) cs

abbrev pub phrase : Bool → List ℕ → List Written
phrase s t = words_from s [] t

abbrev pub phrase_of_attribute : Option Attribute → List ℕ
phrase_of_attribute None = []
phrase_of_attribute (Some a) = a.phrase

abbrev pub phrase_of_relation : Option Relation → List ℕ
phrase_of_relation None = []
phrase_of_relation (Some r) = r.phrase

-- ---- trees over parts

-- A tree as a factor, and as a line: a line has no brackets round the whole.
pub record Wording : Type 0 where
  pub as_factor : Bool → List Written
  pub as_line : Bool → List Written

abbrev pub bracketed : Bool → List Written → List Written
bracketed s ws = token s (symbol (codes "(")) ∷ (ws ++ joined (symbol (codes ")")) ∷ [])

-- written alike in both places
abbrev pub alike : (Bool → List Written) → Wording
alike f = record { as_factor = f; as_line = f }

-- with brackets where it is a factor
abbrev pub apart : (Bool → List Written) → Wording
apart f = record { as_factor = λ s. bracketed s (f false); as_line = f }

-- what stands between parts
abbrev pub separator : Joint → Written
separator joint.Comma = joined (symbol (codes ","))
separator joint.And = spaced (word (codes "and"))
separator joint.Or = spaced (word (codes "or"))
separator (joint.Sign k) = spaced (symbol (op_text k))

-- one of the parts: an argument is a line, what is joined by a word is a line in brackets, an operand is a factor
abbrev pub placed : Joint → Bool → Wording → List Written
placed joint.Comma s w = w.as_line s
placed joint.And s w = bracketed s (w.as_line false)
placed joint.Or s w = bracketed s (w.as_line false)
placed (joint.Sign k) s w = w.as_factor s

abbrev pub part : Joint → Bool → Bool → Wording → List Written
part j s true w = placed j s w
part j s false w = separator j ∷ placed j true w

-- parts, of which the first may stand first of all
abbrev pub together : Joint → Bool → Bool → List Wording → List Written
together j s is_first [] = []
together j s is_first (w ∷ ws) = part j s is_first w ++ together j s false ws

abbrev pub in_brackets : Joint → Bool → List Wording → List Written
in_brackets j s ws = bracketed s (together j false true ws)

-- a name, and lines between brackets
abbrev pub call : Bool → Piece → List Wording → List Written
call s p ws = token s p ∷ in_brackets joint.Comma false ws

abbrev pub operation : OpKind → List Wording → Wording
operation k ws = if is_infix k then apart (λ s. together (joint.Sign k) s true ws) else alike (λ s. call s (op_piece k) ws)

-- a name, and between brackets first these tokens and then lines
abbrev pub call_after : Bool → Piece → List Written → List Wording → List Written
call_after s p first ws = token s p ∷ bracketed false (first ++ together joint.Comma true false ws)

abbrev pub denial : Bool → Wording → List Written
denial s w = token s (word (codes "not")) ∷ w.as_factor true

-- the phrase of a relation, and lines after it
abbrev pub listed : Lists → RelId → List Wording → List Written
listed m r ws = phrase false (phrase_of_relation (relation_at m r)) ++ together joint.Comma true false ws

-- a number of days, and a line after it
abbrev pub over_days : ℕ → Wording → List Written
over_days n w = joined (number (decimal n)) ∷ together joint.Comma true false (w ∷ [])

abbrev pub wording_step : Lists → Expr-F Wording Wording → Wording
wording_step m (Const v) = alike (λ s. literal s v)
wording_step m (Attr a) = alike (λ s. phrase s (phrase_of_attribute (attribute_at m a)))
wording_step m (All ws) = alike (λ s. in_brackets joint.And s ws)
wording_step m (Any ws) = alike (λ s. in_brackets joint.Or s ws)
wording_step m (Not w) = alike (λ s. denial s w)
wording_step m (Op k ws) = operation k ws
wording_step m (Certain w) = alike (λ s. call s (word (codes "Certain")) (w ∷ []))
wording_step m (Known w) = alike (λ s. call s (word (codes "CurrentlyKnown")) (w ∷ []))
wording_step m (Over q r ws) = alike (λ s. token s (word (quant_text q)) ∷ bracketed false (listed m r ws))
wording_step m (Window k ws) = alike (λ s. call s (word (window_text k)) ws)
wording_step m (Rolling always n w) = alike (λ s. token s (word (rolling_text always)) ∷ bracketed false (over_days n w))
wording_step m (Table rows last) = alike (λ s. [])

abbrev pub wording_row : Row-F Wording Wording → Wording
wording_row row = row.value

-- how a tree is written; a table isn't written as a line
unfoldable pub wording : Lists → Expr → Wording
wording m = fold-Expr Wording Wording (wording_step m) wording_row
