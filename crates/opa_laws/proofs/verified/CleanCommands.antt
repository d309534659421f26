-- What commands and replies say is clean.
use Rattle.std.proofs.Common.{◌≡◌, inl, inr, ◌<◌, ◌≤◌, ℕ, ℤ, neg_ℤ, Bool, true, false, cond, List, [], ◌∷◌, ◌++◌, None, Some, Option, Ok, refl, sym, ◌∙◌, ap, subst, arith, le-leb}
use Rattle.std.specs.Prelude.{MatchOption, nat_le, codes}
use Rattle.std.specs.Str.{bytes_eq}
use Rattle.opa_date.specs.declared.TheConstants.{DAYS}
use Rattle.opa_value.specs.declared.value.Value.{Value}
use Rattle.opa_value.specs.declared.value.Value.TheVariants as value
use Rattle.opa_value.specs.Numbers.{InRange}
use Rattle.opa_value.specs.NumberText.{read_number, Reads}
use Rattle.opa_value.proofs.Spelling.{reads_number}
use Rattle.opa_line.specs.Lines.{at, value_from, Follows, IsLine}
use Rattle.opa_model.specs.declared.lists.Lists.{Lists}
use Rattle.opa_words.specs.declared.kinds.Token.{Token}
use Rattle.opa_words.specs.declared.kinds.TokenKind.TheVariants as kind
use Rattle.opa_words.specs.Kinds.{quoted}
use Rattle.opa_words.specs.Pieces.{Piece, piece, pieces, word, number, date, symbol, text}
use Rattle.opa_words.specs.Places.{token_text}
use Rattle.opa_sentence.specs.Lexemes.{lexemes, class_of}
use Rattle.opa_words.specs.Quoted.{unquoted}
use Rattle.opa_words.proofs.QuotedLaws.{reads_quoted_holds}
use Rattle.opa_text.specs.Laws.{CanBeQuoted}
use Rattle.opa_text.specs.Spelled.{SpellsNumber, SpellsValue, SpellsChanges, SpellsPairs, SpellsLine, SpellsMore, SpellsNames}
use Rattle.opa_case.specs.declared.change.ChangeCommand.{ChangeCommand}
use Rattle.opa_case.specs.declared.question.Question.{Question}
use Rattle.opa_case.specs.declared.question.Question.TheVariants as question
use Rattle.opa_script.proofs.VerbWords.{OfWord, either, said}
use Rattle.opa_script.specs.declared.command.Command.{Command}
use Rattle.opa_script.specs.declared.command.Command.TheVariants as command
use Rattle.opa_script.specs.Commands.{Says, Shows, IsCommand}
use Rattle.opa_text.specs.declared.pointed.Point.{Point}
use Rattle.opa_script.specs.Laws.{IsWellFormed}
use Rattle.opa_script.specs.Lines.{HasTokens}
use Rattle.opa_script.specs.Replies.{SaysChange, IsNotLong, IsPlainReply, IsReply, slashed}
use Rattle.opa_script.specs.Shapes.{verb_named}
use Rattle.opa_wording.proofs.TokensGiven.{IsSuch, AreSuch, cut_such}
use Rattle.opa_laws.proofs.verified.CleanCases.{IsCleanName, IsCleanValue, IsCleanPair, ChangesClean, quoted_clean}
use Rattle.opa_laws.proofs.verified.TextFiles.{Each, each_parts}

-- ---- texts between quotes

-- what stands between quotes, if it is a text, can be quoted
abbrev PieceIsClean : Piece → Type 0
PieceIsClean p = (t : List ℕ) → p ≡ text t → CanBeQuoted t

piece_clean : (bytes : List ℕ) (t : Token) → IsSuch (class_of t.kind (token_text bytes t)) (token_text bytes t) → PieceIsClean (piece bytes t)
piece_clean bytes t h n e =
    let is_text : t.kind ≡ kind.Text = ap (λ (p : Piece). p.kind) e in
    let is : token_text bytes t ≡ quoted n = ap (λ (p : Piece). p.text) e in
    let such : IsSuch (class_of kind.Text (token_text bytes t)) (token_text bytes t) = subst (λ k. IsSuch (class_of k (token_text bytes t)) (token_text bytes t)) is_text h in
    subst CanBeQuoted (ap unquoted is ∙ reads_quoted_holds n) such

pieces_clean : (bytes : List ℕ) (ts : List Token) → AreSuch (lexemes bytes ts) → Each PieceIsClean (pieces bytes ts)
pieces_clean bytes [] h = tt
pieces_clean bytes (t ∷ ts) h = (piece_clean bytes t h.0, pieces_clean bytes ts h.1)

tokens_clean : (bytes : List ℕ) (ps : List Piece) → HasTokens bytes ps → Each PieceIsClean ps
tokens_clean bytes ps h = let cut = h.2 in subst (Each PieceIsClean) cut.2 (pieces_clean bytes cut.0 (cut_such bytes cut.0 h.1 cut.1))

-- ---- values

pub number_in_range : (t : List ℕ) (n : ℤ) → read_number t ≡ Ok n → InRange n
number_in_range t n e = (subst (Reads t) e (reads_number t)).1

other_sign : (n : ℤ) → InRange (neg_ℤ n) → InRange n
other_sign n h = grind (arith, h)

-- what follows is clean, where what is spelled at the front is
module _ (ps rest : List Piece) (clean : Each PieceIsClean ps) where
  after_one : (p : Piece) → ps ≡ p ∷ rest → PieceIsClean p × Each PieceIsClean rest
  after_one p e = let h : Each PieceIsClean (p ∷ rest) = subst (Each PieceIsClean) e clean in (h.0, h.1)

  after_two : (p q : Piece) → ps ≡ p ∷ q ∷ rest → Each PieceIsClean rest
  after_two p q e = let h : Each PieceIsClean (p ∷ q ∷ rest) = subst (Each PieceIsClean) e clean in h.1.1

  number_clean : (n : ℤ) → SpellsNumber n ps rest → IsCleanValue (value.Num n) × Each PieceIsClean rest
  number_clean n (inl x) = ((refl, number_in_range x.0 n x.2), (after_one (number x.0) x.1).1)
  number_clean n (inr x) = ((refl, other_sign n (number_in_range x.0 (neg_ℤ n) x.2)), after_two (symbol (codes "-")) (number x.0) x.1)

  value_clean : (v : Value) → SpellsValue v ps rest → IsCleanValue v × Each PieceIsClean rest
  value_clean value.Unknown h = ((refl, tt), (after_one _ h).1)
  value_clean value.Uncertain h = ((refl, tt), (after_one _ h).1)
  value_clean (value.Bool b) h = ((refl, tt), (after_one _ h).1)
  value_clean (value.Num n) h = number_clean n h
  value_clean (value.Words t) h = let k = after_one (text t) h in (quoted_clean t (k.0 t refl), k.1)
  value_clean (value.Day d) h = ((refl, tt), (after_one (date h.0) h.1).1)

changes_clean : (d : ℕ) (pairs : List (ℕ × Value)) (ps : List Piece) → Each PieceIsClean ps → SpellsChanges d pairs ps → Each IsCleanPair pairs
changes_clean d [] ps clean h = tt
changes_clean d (p ∷ pairs) ps clean h =
    let change = h.1.0 in
    let later = after_two ps change.0 clean (symbol (codes ";")) (word (codes "from")) change.2 in
    let day = change.3 in
    let last = (after_one change.0 change.1 later (date day.0) day.1).1 in
    let own = value_clean change.1 h.0 last p.1 change.4 in
    (own.0, changes_clean p.0 pairs h.0 own.1 h.2)

pairs_clean : (pairs : List (ℕ × Value)) (ps : List Piece) → Each PieceIsClean ps → SpellsPairs pairs ps → Each IsCleanPair pairs
pairs_clean [] ps clean h = absurd h
pairs_clean (p ∷ pairs) ps clean h = let own = value_clean ps h.0 clean p.1 h.2 in (own.0, changes_clean 0 pairs h.0 own.1 h.3)

-- ---- lines

one_clean : (t : Bool) (v w : Value) → IsCleanValue v → IsCleanValue w → IsCleanValue (cond t v w)
one_clean true v w h k = h
one_clean false v w h k = k

from_clean : (v : Value) (l : List (ℕ × Value)) (d : ℕ) → IsCleanValue v → Each IsCleanPair l → IsCleanValue (value_from v l d)
from_clean v [] d h k = h
from_clean v (p ∷ l) d h k = one_clean (nat_le p.0 d) (value_from p.1 l d) v (from_clean p.1 l d k.0 k.1) h

pub at_clean : (l : List (ℕ × Value)) (d : ℕ) (v : Value) → Each IsCleanPair l → at l d ≡ Some v → IsCleanValue v
at_clean [] d v k e = absurd (cc e)
at_clean (p ∷ l) d v k e = let same : value_from p.1 l d ≡ v = cc e in subst IsCleanValue same (from_clean p.1 l d k.0 k.1)

not_yet : (m n : ℕ) → m < n → nat_le n m ≡ false
not_yet m n h = grind (arith, h)

-- where the values of all days are clean, so are those of the pairs
by_days : (k : ℕ) (v : Value) (l : List (ℕ × Value)) → k < DAYS → Follows DAYS k v l → ((d : ℕ) → k ≤ d → d < DAYS → IsCleanValue (value_from v l d)) → IsCleanValue v × Each IsCleanPair l
by_days k v [] lt f h = (h k (omega arith) lt, tt)
by_days k v (p ∷ l) lt f h =
    let now : IsCleanValue v = subst (λ t. IsCleanValue (cond t (value_from p.1 l k) v)) (not_yet k p.0 f.0) (h k (omega arith) lt) in
    let rest = by_days p.0 p.1 l f.1 f.3 (λ d le less. subst (λ t. IsCleanValue (cond t (value_from p.1 l d) v)) (le-leb p.0 d le) (let early = f.0 in h d (omega (arith, early, le)) less)) in
    (now, (rest.0, rest.1))

line_by_days : (l : List (ℕ × Value)) → IsLine DAYS l → ((d : ℕ) (v : Value) → d < DAYS → at l d ≡ Some v → IsCleanValue v) → Each IsCleanPair l
line_by_days [] is h = absurd is
line_by_days (p ∷ l) is h = let rest = by_days 0 p.1 l (omega arith) is.1 (λ d le less. h d (value_from p.1 l d) less refl) in (rest.0, rest.1)

line_clean : (l : List (ℕ × Value)) (ps : List Piece) → IsLine DAYS l → Each PieceIsClean ps → SpellsLine l ps → Each IsCleanPair l
line_clean l ps is clean h = let pairs = pairs_clean h.0 ps clean h.1 in line_by_days l is (λ d v less e. at_clean h.0 d v pairs (sym (h.2 d less) ∙ e))

-- ---- names

more_clean : (ns : List (List ℕ)) (ps : List Piece) → Each PieceIsClean ps → SpellsMore ns ps → Each IsCleanName ns
more_clean [] ps clean h = tt
more_clean (n ∷ ns) ps clean h =
    let k : Each PieceIsClean (symbol (codes ",") ∷ text n ∷ h.0) = subst (Each PieceIsClean) h.1 clean in
    (quoted_clean n (k.1.0 n refl), more_clean ns h.0 k.1.1 h.2)

names_clean : (ns : List (List ℕ)) (ps : List Piece) → Each PieceIsClean ps → SpellsNames ns ps → Each IsCleanName ns
names_clean [] ps clean h = tt
names_clean (n ∷ ns) ps clean h = let k = after_one ps h.0 clean (text n) h.1 in (quoted_clean n (k.0 n refl), more_clean ns h.0 k.1 h.2)

-- ---- commands

-- a change is one by clean names and values
abbrev pub IsCleanCommand : Command → Type 0
IsCleanCommand (command.Change k) = ChangesClean k
IsCleanCommand c = Unit {0}

abbrev SaysClean : Command → Type 0
SaysClean c = IsWellFormed c → IsCleanCommand c

same_clean : (c d : Command) → c ≡ d → SaysClean d → SaysClean c
same_clean c d e h = subst SaysClean (sym e) h

behind_given : (front after ps : List Piece) → ps ≡ front ++ symbol (codes "=") ∷ after → Each PieceIsClean ps → Each PieceIsClean after
behind_given front after ps e clean = (each_parts PieceIsClean front (symbol (codes "=") ∷ after) (subst (Each PieceIsClean) e clean)).1.1

word_clean : (w : List ℕ) → OfWord (λ v. (m : Lists) (ps : List Piece) (c : Command) → Each PieceIsClean ps → Says m v ps c → SaysClean c) (verb_named w)
word_clean w =
    either _ (bytes_eq w (codes "answer")) _ _ (λ m ps c clean h. let given = h.5 in same_clean c _ h.8 (λ formed. line_clean h.4 h.1 formed (behind_given given.0 h.1 ps given.2 clean) h.7))
    (either _ (bytes_eq w (codes "withdraw")) _ _ (λ m ps c clean h. same_clean c _ h.5 (λ formed. tt))
    (either _ (bytes_eq w (codes "list")) _ _ (λ m ps c clean h. let given = h.5 in same_clean c _ h.8 (λ formed. names_clean h.4 h.1 (behind_given given.0 h.1 ps given.2 clean) h.7))
    (either _ (bytes_eq w (codes "forget")) _ _ (λ m ps c clean h. same_clean c _ h.5 (λ formed. tt))
    (either _ (bytes_eq w (codes "show")) _ _ (λ m ps c clean h. shown m h.0 c h.2)
    (either _ (bytes_eq w (codes "goals")) _ _ (λ m ps c clean h. same_clean c command.Goals h.1 (λ formed. tt))
    (either _ (bytes_eq w (codes "next")) _ _ (λ m ps c clean h. same_clean c command.Next h.1 (λ formed. tt))
    (either _ (bytes_eq w (codes "screen")) _ _ (λ m ps c clean h. same_clean c command.Screen h.1 (λ formed. tt))
    (either _ (bytes_eq w (codes "report")) _ _ (λ m ps c clean h. same_clean c _ h.8 (λ formed. tt))
    (either _ (bytes_eq w (codes "save")) _ _ (λ m ps c clean h. same_clean c _ h.3 (λ formed. tt))
    (either _ (bytes_eq w (codes "load")) _ _ (λ m ps c clean h. same_clean c _ h.3 (λ formed. tt))
    (either _ (bytes_eq w (codes "stats")) _ _ (λ m ps c clean h. same_clean c command.Stats h.1 (λ formed. tt))
    (either _ (bytes_eq w (codes "dismiss")) _ _ (λ m ps c clean h. same_clean c _ h.4 (λ formed. tt)) tt))))))))))))
  where
    shown : (m : Lists) (p : Point) (c : Command) → Shows m p c → SaysClean c
    shown m p c (inl s) = same_clean c (command.ShowAttr s.0 s.1) s.3 (λ formed. tt)
    shown m p c (inr s) = same_clean c (command.ShowMembers s.0 s.1) s.3 (λ formed. tt)

pub command_clean : (m : Lists) (line : List ℕ) (c : Command) → IsCommand m line c → IsWellFormed c → IsCleanCommand c
command_clean m line c (inl h) formed = same_clean c command.Nothing h.1 (λ f. tt) formed
command_clean m line c (inr h) formed =
    let are = h.1.2 in let tokens = tokens_clean line h.1.0 h.1.1 in
    let begins = are.2 in
    let rest = (after_one h.1.0 are.1 tokens (word begins.0) begins.1).1 in
    said (λ v. (m : Lists) (ps : List Piece) (c : Command) → Each PieceIsClean ps → Says m v ps c → SaysClean c) (verb_named begins.0) are.0 begins.2 (word_clean begins.0) m are.1 c rest are.3.1 formed

-- ---- replies to questions

change_clean : (q : Question) (ps : List Piece) (k : ChangeCommand) → Each PieceIsClean ps → SaysChange q ps k → IsWellFormed (command.Change k) → ChangesClean k
change_clean (question.Attr a i) ps k clean h formed =
    let l = h.0 in subst ChangesClean (sym h.2) (line_clean l ps (subst (λ (c : ChangeCommand). IsWellFormed (command.Change c)) h.2 formed) clean h.1)
change_clean (question.Members r i) ps k clean h formed = subst ChangesClean (sym h.2) (names_clean h.0 ps clean h.1)

plain_clean : (q : Question) (line : List ℕ) (c : Command) → IsPlainReply q line c → SaysClean c
plain_clean q line c (inl h) = same_clean c command.Nothing h.1 (λ formed. tt)
plain_clean q line c (inr h) =
    let ps = h.1.0 in let reply = h.1.2 in
    same_clean c (command.Change reply.1.0) reply.1.2 (λ formed. change_clean q ps reply.1.0 (tokens_clean line ps h.1.1) reply.1.1 formed)

pub reply_clean : (m : Lists) (q : Question) (line : List ℕ) (c : Command) → IsReply m q line c → IsWellFormed c → IsCleanCommand c
reply_clean m q line c = go (slashed line)
  where
    go : (o : Option (List ℕ)) → MatchOption o (IsPlainReply q line c) (λ rest. IsCommand m rest c × IsNotLong line rest) → SaysClean c
    go None h = plain_clean q line c h
    go (Some rest) h = command_clean m rest c h.0
