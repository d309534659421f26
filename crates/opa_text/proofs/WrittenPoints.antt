-- Points as they are written token by token.
use Rattle.std.proofs.Common.{◌≡◌, ℕ, List, [], ◌∷◌, ◌++◌, Bool, true, false, refl, sym, ap, ◌∙◌, append_assoc}
use Rattle.std.specs.Prelude.{Option, None, Some, codes, if◌then◌else◌}
use Rattle.std.specs.List.{AllByRecursion}
use Rattle.ucd_derived.proofs.Computing.{ucd_derived}
use Rattle.opa_words.specs.declared.kinds.TokenKind.TheVariants as kind
use Rattle.opa_words.specs.Kinds.{is_word, quoted}
use Rattle.opa_words.specs.Pieces.{Piece, IsPiece, word, text, phrase_of}
use Rattle.opa_words.specs.Written.{Written, AreWritten, text_of, pieces_of, gap, spaced}
use Rattle.opa_words.proofs.LawsHold.{ascii_is_token_holds, quoted_is_token_holds}
use Rattle.opa_cells.specs.declared.instance.InstanceId.{InstanceId}
use Rattle.opa_cells.specs.Instances.{is_same, global}
use Rattle.opa_text.specs.Points.{instance_part}
use Rattle.opa_text.specs.Laws.{CanBeQuoted}
use Rattle.opa_text.specs.Pointed.{is_run, name_part, SpellsFirst, EndsBefore}
use Rattle.opa_text.proofs.WrittenValues.{Apart, apart_ends}

of_word : is_word (codes "of") ≡ true
unfolding ucd_derived
of_word = refl

of_piece : IsPiece (word (codes "of"))
of_piece = ascii_is_token_holds kind.Word (codes "of") refl of_word

-- the words of a phrase before what is written after it
abbrev pub phrase_written : Bool → List Piece → List Written → List Written
phrase_written s [] rest = rest
phrase_written s (p ∷ ps) rest = record { spaced = s; piece = p } ∷ phrase_written true ps rest

-- ` of "NAME"`, and nothing without a name
abbrev pub name_written : Option (List ℕ) → List Written → List Written
name_written None rest = rest
name_written (Some n) rest = spaced (word (codes "of")) ∷ spaced (text n) ∷ rest

abbrev pub point_written : Bool → List Piece → Option (List ℕ) → List Written → List Written
point_written s ws name rest = phrase_written s ws (name_written name rest)

abbrev pub name_text : Option (List ℕ) → List ℕ
name_text None = []
name_text (Some n) = codes " of " ++ quoted n

-- the name with which an instance is written
abbrev pub name_of : InstanceId → Option (List ℕ)
name_of i = if is_same i global then None else Some i.name

pub instance_written : (i : InstanceId) → instance_part i ≡ name_text (name_of i)
instance_written i = go (is_same i global)
  where
    go : (b : Bool) → (if b then [] else codes " of " ++ quoted i.name) ≡ name_text (if b then None else Some i.name)
    go true = refl
    go false = refl

abbrev pub MayBeQuoted : Option (List ℕ) → Type 0
MayBeQuoted None = Unit {0}
MayBeQuoted (Some n) = CanBeQuoted n

-- ---- they are tokens

phrase_apart : (ws : List Piece) (rest : List Written) → Apart rest → Apart (phrase_written true ws rest)
phrase_apart [] rest a = a
phrase_apart (w ∷ ws) rest a = refl

phrase_are : (s : Bool) (ws : List Piece) (rest : List Written) → AllByRecursion IsPiece ws → Apart rest → AreWritten rest → AreWritten (phrase_written s ws rest)
phrase_are s [] rest is a h = h
phrase_are s (w ∷ ws) rest is a h = (is.0, apart_ends w (phrase_written true ws rest) (phrase_apart ws rest a), phrase_are true ws rest is.1 a h)

name_apart : (name : Option (List ℕ)) (rest : List Written) → Apart rest → Apart (name_written name rest)
name_apart None rest a = a
name_apart (Some n) rest a = refl

name_are : (name : Option (List ℕ)) (rest : List Written) → MayBeQuoted name → Apart rest → AreWritten rest → AreWritten (name_written name rest)
name_are None rest q a h = h
name_are (Some n) rest q a h = (of_piece, refl, (quoted_is_token_holds n q.utf8 q.plain, apart_ends (text n) rest a, h))

pub point_are : (s : Bool) (ws : List Piece) (name : Option (List ℕ)) (rest : List Written) → AllByRecursion IsPiece ws → MayBeQuoted name → Apart rest → AreWritten rest → AreWritten (point_written s ws name rest)
point_are s ws name rest is q a h = phrase_are s ws (name_written name rest) is (name_apart name rest a) (name_are name rest q a h)

-- ---- their text

later_says : (w : Piece) (ws : List Piece) (rest : List Written) → text_of (phrase_written true (w ∷ ws) rest) ≡ 32 ∷ (phrase_of (w ∷ ws) ++ text_of rest)
later_says w [] rest = refl
later_says w (v ∷ ws) rest = ap (λ t. 32 ∷ (w.text ++ t)) (later_says v ws rest) ∙ ap (λ t. 32 ∷ t) (sym (append_assoc w.text (32 ∷ phrase_of (v ∷ ws)) (text_of rest)))

phrase_says : (s : Bool) (w : Piece) (ws : List Piece) (rest : List Written) → text_of (phrase_written s (w ∷ ws) rest) ≡ gap s ++ (phrase_of (w ∷ ws) ++ text_of rest)
phrase_says s w [] rest = refl
phrase_says s w (v ∷ ws) rest = ap (λ t. gap s ++ (w.text ++ t)) (later_says v ws rest) ∙ ap (λ t. gap s ++ t) (sym (append_assoc w.text (32 ∷ phrase_of (v ∷ ws)) (text_of rest)))

name_says : (name : Option (List ℕ)) (rest : List Written) → text_of (name_written name rest) ≡ name_text name ++ text_of rest
name_says None rest = refl
name_says (Some n) rest = refl

-- the text is the phrase and the name
pub point_says : (s : Bool) (ws : List Piece) (name : Option (List ℕ)) (rest : List Written) → is_run ws ≡ true → text_of (point_written s ws name rest) ≡ gap s ++ (phrase_of ws ++ (name_text name ++ text_of rest))
point_says s [] name rest r = absurd (cc r)
point_says s (w ∷ ws) name rest r = phrase_says s w ws (name_written name rest) ∙ ap (λ t. gap s ++ (phrase_of (w ∷ ws) ++ t)) (name_says name rest)

-- ---- what they spell

phrase_pieces : (s : Bool) (ws : List Piece) (rest : List Written) → pieces_of (phrase_written s ws rest) ≡ ws ++ pieces_of rest
phrase_pieces s [] rest = refl
phrase_pieces s (w ∷ ws) rest = ap (λ ps. w ∷ ps) (phrase_pieces true ws rest)

name_pieces : (name : Option (List ℕ)) (rest : List Written) → pieces_of (name_written name rest) ≡ name_part name ++ pieces_of rest
name_pieces None rest = refl
name_pieces (Some n) rest = refl

-- its tokens begin with the point, and what is written after it follows
pub point_spells : (s : Bool) (ws : List Piece) (name : Option (List ℕ)) (rest : List Written) → is_run ws ≡ true → EndsBefore name (pieces_of rest)
    → SpellsFirst (record { phrase = phrase_of ws; name = name }) (pieces_of (point_written s ws name rest)) (pieces_of rest)
point_spells s ws name rest r e = (
  ws ++ name_part name,
  (ws, r, refl, refl),
  phrase_pieces s ws (name_written name rest) ∙ ap (λ ps. ws ++ ps) (name_pieces name rest) ∙ sym (append_assoc ws (name_part name) (pieces_of rest)),
  e,
)
