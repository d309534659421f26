-- What a line may look like, before anything is asked of the model.
use Rattle.std.specs.Prelude.{◌≡◌, ◌≤◌, ℕ, List, [], ◌∷◌, ◌++◌, length, Bool, true, false, not, Option, None, Some, codes, if◌then◌else◌}
use Rattle.std.specs.List.{list_all}
use Rattle.std.specs.Str.{bytes_eq}
use Rattle.opa_words.specs.declared.kinds.TokenKind.{TokenKind}
use Rattle.opa_words.specs.declared.kinds.TokenKind.TheVariants as kind
use Rattle.opa_words.specs.Pieces.{Piece, is_nothing, word, number, symbol, text}
use Rattle.opa_text.specs.declared.pointed.Point.{Point}
use Rattle.opa_text.specs.Pointed.{SpellsPoint, SpellsDated}
use Rattle.opa_script.specs.declared.verbs.Verb.{Verb}
use Rattle.opa_script.specs.declared.verbs.Verb.TheVariants as verb
use Rattle.opa_io.specs.declared.limits.TheConstants.{MOST_TEXT}

-- the word with which a command begins
abbrev pub verb_named : List ℕ → Option Verb
verb_named w =
    if bytes_eq w (codes "answer") then Some verb.Answer else
    if bytes_eq w (codes "withdraw") then Some verb.Withdraw else
    if bytes_eq w (codes "list") then Some verb.SetList else
    if bytes_eq w (codes "forget") then Some verb.Forget else
    if bytes_eq w (codes "show") then Some verb.Show else
    if bytes_eq w (codes "goals") then Some verb.Goals else
    if bytes_eq w (codes "next") then Some verb.Next else
    if bytes_eq w (codes "screen") then Some verb.Screen else
    if bytes_eq w (codes "report") then Some verb.Report else
    if bytes_eq w (codes "save") then Some verb.Save else
    if bytes_eq w (codes "load") then Some verb.Load else
    if bytes_eq w (codes "stats") then Some verb.Stats else
    if bytes_eq w (codes "dismiss") then Some verb.Dismiss else None

abbrev pub verb_of : TokenKind → List ℕ → Option Verb
verb_of kind.Word w = verb_named w
verb_of k w = None

-- the first token is a word with which this command begins, and these follow
abbrev pub Begins : Verb → List Piece → List Piece → Type 0
Begins v ps rest = (w : List ℕ) × (ps ≡ word w ∷ rest) × (verb_named w ≡ Some v)

-- ---- points

-- a point, `=`, and tokens, at least one
abbrev pub SpellsGiven : Point → List Piece → List Piece → Type 0
SpellsGiven p after ps = (front : List Piece) × SpellsPoint p front × (ps ≡ front ++ symbol (codes "=") ∷ after) × (is_nothing after ≡ false)

-- ---- shapes

-- what stands behind the word of a command has the shape that this command asks for
abbrev pub HasShape : Verb → List Piece → Type 0
HasShape verb.Answer ps = (p : Point) × (after : List Piece) × SpellsGiven p after ps
HasShape verb.Withdraw ps = (p : Point) × SpellsPoint p ps
HasShape verb.SetList ps = (p : Point) × (after : List Piece) × SpellsGiven p after ps
HasShape verb.Forget ps = (p : Point) × SpellsPoint p ps
HasShape verb.Show ps = (p : Point) × SpellsPoint p ps
HasShape verb.Report ps = (p : Point) × (t : List ℕ) × SpellsDated p t ps
HasShape verb.Save ps = (t : List ℕ) × (ps ≡ text t ∷ [])
HasShape verb.Load ps = (t : List ℕ) × (ps ≡ text t ∷ [])
HasShape verb.Dismiss ps = (t : List ℕ) × (ps ≡ number t ∷ [])
HasShape verb.Goals ps = ps ≡ []
HasShape verb.Next ps = ps ≡ []
HasShape verb.Screen ps = ps ≡ []
HasShape verb.Stats ps = ps ≡ []

-- ---- texts

-- a text between quotes has at most 1,000 bytes
abbrev pub IsShort : Piece → Type 0
IsShort p = (t : List ℕ) → p ≡ text t → length t ≤ MOST_TEXT

abbrev pub AreShort : List Piece → Type 0
AreShort [] = Unit {0}
AreShort (p ∷ ps) = IsShort p × AreShort ps

-- ---- on the way there

-- the token is `=`
abbrev pub is_equals : TokenKind → List ℕ → Bool
is_equals kind.Symbol t = bytes_eq t (codes "=")
is_equals k t = false

-- no `=` stands among the tokens
abbrev pub has_no_equals : List Piece → Bool
has_no_equals ps = list_all (λ p. not (is_equals p.kind p.text)) ps

-- the tokens before and behind the first `=`
abbrev pub IsAtEquals : List Piece → List Piece → List Piece → Type 0
IsAtEquals front after ps = (ps ≡ front ++ symbol (codes "=") ∷ after) × (has_no_equals front ≡ true)

-- there isn't one token alone
abbrev pub IsNotOne : List Piece → Type 0
IsNotOne ps = (p : Piece) → ps ≡ p ∷ [] → ⊥
