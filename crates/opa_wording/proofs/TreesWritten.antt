-- The tokens that a tree is written as are tokens, each apart from the next.
use Rattle.std.proofs.Common.{◌≡◌, ℕ, List, [], ◌∷◌, ◌++◌, Bool, true, false, refl, sym, ap, subst, ◌∙◌, append_assoc}
use Rattle.std.specs.Prelude.{codes, ◌||◌}
use Rattle.std.specs.List.{list_all}
use Rattle.std.specs.Str.{chars}
use Rattle.ucd_derived.proofs.Computing.{ucd_derived}
use Rattle.opa_words.specs.declared.kinds.TokenKind.TheVariants as kind
use Rattle.opa_words.specs.Kinds.{is_word, is_symbol, is_single}
use Rattle.opa_words.specs.Pieces.{Piece, IsPiece, symbol}
use Rattle.opa_words.specs.Written.{Written, AreWritten, joined, ends_before, begins_apart, stands_alone}
use Rattle.opa_words.proofs.Ascii.{is_ascii, ascii_chars}
use Rattle.opa_words.proofs.LawsHold.{ascii_is_token_holds}
use Rattle.opa_text.proofs.WrittenValues.{Apart, apart_ends, named_piece, comma_apart}
use Rattle.opa_tree.specs.declared.kinds.OpKind.{OpKind}
use Rattle.opa_tree.specs.declared.kinds.OpKind.TheVariants as op
use Rattle.opa_tree.specs.declared.kinds.Quant.{Quant}
use Rattle.opa_tree.specs.declared.kinds.Quant.TheVariants as quant
use Rattle.opa_tree.specs.declared.kinds.WinKind.{WinKind}
use Rattle.opa_tree.specs.declared.kinds.WinKind.TheVariants as win
use Rattle.opa_wording.specs.declared.joint.Joint.{Joint}
use Rattle.opa_wording.specs.declared.joint.Joint.TheVariants as between
use Rattle.opa_wording.specs.Signs.{is_infix, op_text, op_piece, quant_text, window_text, rolling_text}
use Rattle.opa_wording.specs.Wordings.{Wording, token, bracketed, separator, placed, together, alike, apart}

-- ---- single tokens

pub sign_piece : (t : List ℕ) → list_all is_ascii t ≡ true → is_symbol t ≡ true → IsPiece (symbol t)
sign_piece t a h = ascii_is_token_holds kind.Symbol t a h

pub not_word : is_word (codes "not") ≡ true
unfolding ucd_derived
not_word = refl

pub and_word : is_word (codes "and") ≡ true
unfolding ucd_derived
and_word = refl

pub or_word : is_word (codes "or") ≡ true
unfolding ucd_derived
or_word = refl

pub certain_word : is_word (codes "Certain") ≡ true
unfolding ucd_derived
certain_word = refl

pub known_word : is_word (codes "CurrentlyKnown") ≡ true
unfolding ucd_derived
known_word = refl

pub quant_word : (q : Quant) → is_word (quant_text q) ≡ true
unfolding ucd_derived
quant_word quant.ForAll = refl
quant_word quant.Exists = refl
quant_word quant.For = refl
quant_word quant.Count = refl
quant_word quant.CountIf = refl
quant_word quant.Sum = refl
quant_word quant.SumIf = refl
quant_word quant.Maximum = refl
quant_word quant.Minimum = refl

pub quant_ascii : (q : Quant) → list_all is_ascii (quant_text q) ≡ true
quant_ascii quant.ForAll = refl
quant_ascii quant.Exists = refl
quant_ascii quant.For = refl
quant_ascii quant.Count = refl
quant_ascii quant.CountIf = refl
quant_ascii quant.Sum = refl
quant_ascii quant.SumIf = refl
quant_ascii quant.Maximum = refl
quant_ascii quant.Minimum = refl

pub window_word : (k : WinKind) → is_word (window_text k) ≡ true
unfolding ucd_derived
window_word win.ValueAt = refl
window_word win.Always = refl
window_word win.Sometimes = refl
window_word win.DailySum = refl
window_word win.Maximum = refl
window_word win.Minimum = refl
window_word win.ConsecutiveDays = refl
window_word win.Before = refl
window_word win.OnOrAfter = refl
window_word win.YearsSince = refl

pub window_ascii : (k : WinKind) → list_all is_ascii (window_text k) ≡ true
window_ascii win.ValueAt = refl
window_ascii win.Always = refl
window_ascii win.Sometimes = refl
window_ascii win.DailySum = refl
window_ascii win.Maximum = refl
window_ascii win.Minimum = refl
window_ascii win.ConsecutiveDays = refl
window_ascii win.Before = refl
window_ascii win.OnOrAfter = refl
window_ascii win.YearsSince = refl

pub rolling_word : (b : Bool) → is_word (rolling_text b) ≡ true
unfolding ucd_derived
rolling_word true = refl
rolling_word false = refl

pub rolling_ascii : (b : Bool) → list_all is_ascii (rolling_text b) ≡ true
rolling_ascii true = refl
rolling_ascii false = refl

-- the name of an operation
op_word : (k : OpKind) → is_infix k ≡ false → (k ≡ op.Neg → ⊥) → is_word (op_text k) ≡ true
unfolding ucd_derived
op_word op.Neg i other = absurd (other refl)
op_word op.Round i other = refl
op_word op.Min i other = refl
op_word op.Max i other = refl
op_word op.AddDays i other = refl
op_word op.AddMonths i other = refl
op_word op.AddYears i other = refl
op_word op.DaysBetween i other = refl
op_word op.YearsBetween i other = refl
op_word op.YearOf i other = refl
op_word op.MonthOf i other = refl
op_word op.DayOf i other = refl
op_word op.Concatenate i other = refl
op_word k i other = absurd (cc i)

op_ascii : (k : OpKind) → list_all is_ascii (op_text k) ≡ true
op_ascii op.Add = refl
op_ascii op.Sub = refl
op_ascii op.Mul = refl
op_ascii op.Div = refl
op_ascii op.Neg = refl
op_ascii op.Eq = refl
op_ascii op.Ne = refl
op_ascii op.Lt = refl
op_ascii op.Le = refl
op_ascii op.Gt = refl
op_ascii op.Ge = refl
op_ascii op.Round = refl
op_ascii op.Min = refl
op_ascii op.Max = refl
op_ascii op.AddDays = refl
op_ascii op.AddMonths = refl
op_ascii op.AddYears = refl
op_ascii op.DaysBetween = refl
op_ascii op.YearsBetween = refl
op_ascii op.YearOf = refl
op_ascii op.MonthOf = refl
op_ascii op.DayOf = refl
op_ascii op.Concatenate = refl

infix_symbol : (k : OpKind) → is_infix k ≡ true → is_symbol (op_text k) ≡ true
infix_symbol op.Add h = refl
infix_symbol op.Sub h = refl
infix_symbol op.Mul h = refl
infix_symbol op.Div h = refl
infix_symbol op.Eq h = refl
infix_symbol op.Ne h = refl
infix_symbol op.Lt h = refl
infix_symbol op.Le h = refl
infix_symbol op.Gt h = refl
infix_symbol op.Ge h = refl
infix_symbol k h = absurd (cc h)

pub call_piece : (k : OpKind) → is_infix k ≡ false → IsPiece (op_piece k)
call_piece op.Neg i = sign_piece (codes "-") refl refl
call_piece op.Round i = named_piece (codes "Round") refl (op_word op.Round i (λ h. absurd (cc h)))
call_piece op.Min i = named_piece (codes "Minimum") refl (op_word op.Min i (λ h. absurd (cc h)))
call_piece op.Max i = named_piece (codes "Maximum") refl (op_word op.Max i (λ h. absurd (cc h)))
call_piece op.AddDays i = named_piece (codes "AddDays") refl (op_word op.AddDays i (λ h. absurd (cc h)))
call_piece op.AddMonths i = named_piece (codes "AddMonths") refl (op_word op.AddMonths i (λ h. absurd (cc h)))
call_piece op.AddYears i = named_piece (codes "AddYears") refl (op_word op.AddYears i (λ h. absurd (cc h)))
call_piece op.DaysBetween i = named_piece (codes "DaysBetween") refl (op_word op.DaysBetween i (λ h. absurd (cc h)))
call_piece op.YearsBetween i = named_piece (codes "YearsBetween") refl (op_word op.YearsBetween i (λ h. absurd (cc h)))
call_piece op.YearOf i = named_piece (codes "YearOf") refl (op_word op.YearOf i (λ h. absurd (cc h)))
call_piece op.MonthOf i = named_piece (codes "MonthOf") refl (op_word op.MonthOf i (λ h. absurd (cc h)))
call_piece op.DayOf i = named_piece (codes "DayOf") refl (op_word op.DayOf i (λ h. absurd (cc h)))
call_piece op.Concatenate i = named_piece (codes "Concatenate") refl (op_word op.Concatenate i (λ h. absurd (cc h)))
call_piece k i = absurd (cc i)

-- ---- what ends before what

or_last : (a b : Bool) → (a || (b || true)) ≡ true
or_last true b = refl
or_last false true = refl
or_last false false = refl

-- a symbol that begins no longer one ends before everything
pub alone_ends : (c : ℕ) → list_all is_ascii (c ∷ []) ≡ true → is_single c ≡ true → (ws : List Written) → ends_before (symbol (c ∷ [])) ws ≡ true
alone_ends c a h [] = refl
alone_ends c a h (w ∷ ws) =
    ap (λ cs. w.spaced || (begins_apart (chars w.piece.text) || stands_alone cs)) (ascii_chars (c ∷ []) a) ∙ ap (λ b. w.spaced || (begins_apart (chars w.piece.text) || b)) h
    ∙ or_last w.spaced (begins_apart (chars w.piece.text))

opening_apart : (s : Bool) (ws : List Written) → Apart (token s (symbol (codes "(")) ∷ ws)
opening_apart true ws = refl
opening_apart false ws = ap begins_apart (ascii_chars (codes "(") refl)

closing_apart : (ws : List Written) → Apart (joined (symbol (codes ")")) ∷ ws)
closing_apart ws = ap begins_apart (ascii_chars (codes ")") refl)

-- tokens, and what goes on apart from them
abbrev pub Well : List Written → Type 0
Well ws = (rest : List Written) → Apart rest → AreWritten rest → AreWritten (ws ++ rest)

closing_well : (rest : List Written) → AreWritten rest → AreWritten (joined (symbol (codes ")")) ∷ rest)
closing_well rest h = (sign_piece (codes ")") refl refl, alone_ends 41 refl refl rest, h)

pub brackets_well : (s : Bool) (ws : List Written) → Well ws → Well (bracketed s ws)
brackets_well s ws h rest a r =
    subst (λ vs. AreWritten (token s (symbol (codes "(")) ∷ vs)) (sym (append_assoc ws (joined (symbol (codes ")")) ∷ []) rest))
    (sign_piece (codes "(") refl refl, alone_ends 40 refl refl (ws ++ joined (symbol (codes ")")) ∷ rest), h (joined (symbol (codes ")")) ∷ rest) (closing_apart rest) (closing_well rest r))

-- a name before brackets
pub named_well : (s : Bool) (p : Piece) (ws : List Written) → IsPiece p → Well ws → Well (token s p ∷ bracketed false ws)
named_well s p ws is h rest a r = (is, apart_ends p (bracketed false ws ++ rest) (opening_apart false ((ws ++ joined (symbol (codes ")")) ∷ []) ++ rest)), brackets_well false ws h rest a r)

-- ---- wordings

-- A wording's tokens are well, and with a blank before them they begin apart from all.
pub record IsWell (w : Wording) : Type 0 where
  pub factor : (s : Bool) → Well (w.as_factor s)
  pub line : (s : Bool) → Well (w.as_line s)
  pub factor_leads : (p : Piece) (rest : List Written) → ends_before p (w.as_factor true ++ rest) ≡ true
  pub line_leads : (p : Piece) (rest : List Written) → ends_before p (w.as_line true ++ rest) ≡ true

pub alike_well : (f : Bool → List Written) → ((s : Bool) → Well (f s)) → ((p : Piece) (rest : List Written) → ends_before p (f true ++ rest) ≡ true) → IsWell (alike f)
alike_well f h l = record { factor = h; line = h; factor_leads = l; line_leads = l }

pub apart_well : (f : Bool → List Written) → ((s : Bool) → Well (f s)) → ((p : Piece) (rest : List Written) → ends_before p (f true ++ rest) ≡ true) → IsWell (apart f)
apart_well f h l = record { factor = λ s. brackets_well s (f false) (h false); line = h; factor_leads = λ p rest. refl; line_leads = l }

abbrev pub AreWell : List Wording → Type 0
AreWell [] = Unit {0}
AreWell (w ∷ ws) = IsWell w × AreWell ws

-- what stands between parts is a token
abbrev pub IsJoint : Joint → Type 0
IsJoint (between.Sign k) = is_infix k ≡ true
IsJoint j = Unit {0}

separator_piece : (j : Joint) → IsJoint j → IsPiece (separator j).piece
separator_piece between.Comma h = sign_piece (codes ",") refl refl
separator_piece between.And h = named_piece (codes "and") refl and_word
separator_piece between.Or h = named_piece (codes "or") refl or_word
separator_piece (between.Sign k) h = sign_piece (op_text k) (op_ascii k) (infix_symbol k h)

separator_apart : (j : Joint) (ws : List Written) → Apart (separator j ∷ ws)
separator_apart between.Comma ws = comma_apart ws
separator_apart between.And ws = refl
separator_apart between.Or ws = refl
separator_apart (between.Sign k) ws = refl

placed_well : (j : Joint) (s : Bool) (w : Wording) → IsWell w → Well (placed j s w)
placed_well between.Comma s w h = h.line s
placed_well between.And s w h = brackets_well s (w.as_line false) (h.line false)
placed_well between.Or s w h = brackets_well s (w.as_line false) (h.line false)
placed_well (between.Sign k) s w h = h.factor s

placed_leads : (j : Joint) (w : Wording) → IsWell w → (p : Piece) (rest : List Written) → ends_before p (placed j true w ++ rest) ≡ true
placed_leads between.Comma w h p rest = h.line_leads p rest
placed_leads between.And w h p rest = refl
placed_leads between.Or w h p rest = refl
placed_leads (between.Sign k) w h p rest = h.factor_leads p rest

more_apart : (j : Joint) (s : Bool) (ws : List Wording) (rest : List Written) → Apart rest → Apart (together j s false ws ++ rest)
more_apart j s [] rest a = a
more_apart j s (w ∷ ws) rest a = separator_apart j ((placed j true w ++ together j s false ws) ++ rest)

pub more_well : (j : Joint) → IsJoint j → (s : Bool) (ws : List Wording) → AreWell ws → Well (together j s false ws)
more_well j i s [] h rest a r = r
more_well j i s (w ∷ ws) h rest a r =
    subst (λ vs. AreWritten (separator j ∷ vs)) (sym (append_assoc (placed j true w) (together j s false ws) rest))
    (separator_piece j i, placed_leads j w h.0 (separator j).piece (together j s false ws ++ rest), placed_well j true w h.0 (together j s false ws ++ rest) (more_apart j s ws rest a) (more_well j i s ws h.1 rest a r))

pub together_well : (j : Joint) → IsJoint j → (s : Bool) (ws : List Wording) → AreWell ws → Well (together j s true ws)
together_well j i s [] h rest a r = r
together_well j i s (w ∷ ws) h rest a r =
    subst AreWritten (sym (append_assoc (placed j s w) (together j s false ws) rest))
    (placed_well j s w h.0 (together j s false ws ++ rest) (more_apart j s ws rest a) (more_well j i s ws h.1 rest a r))

pub together_leads : (j : Joint) (w : Wording) (ws : List Wording) → IsWell w → (p : Piece) (rest : List Written) → ends_before p (together j true true (w ∷ ws) ++ rest) ≡ true
together_leads j w ws h p rest = ap (ends_before p) (append_assoc (placed j true w) (together j true false ws) rest) ∙ placed_leads j w h p (together j true false ws ++ rest)
