-- What written tokens say to the grammar of a line.
use Rattle.std.specs.Prelude.{◌≡◌, ◌≤◌, ℕ, Bool, true, false, List, [], ◌∷◌, ◌++◌, map, Some, codes, ◌==◌, ◌&&◌, All, flat_map}
use Rattle.std.specs.Str.{IsUtf8}
use Rattle.std.specs.List.{list_any}
use Rattle.opa_model.specs.declared.ids.AttrId.{AttrId}
use Rattle.opa_model.specs.declared.ids.RelId.{RelId}
use Rattle.opa_model.specs.declared.lists.Lists.{Lists}
use Rattle.opa_model.specs.Lookups.{attribute_at, relation_at, attribute_phrases, relation_phrases}
use Rattle.opa_model.specs.Models.{HasAttribute, HasRelation}
use Rattle.opa_words.specs.Written.{Written, AreWritten}
use Rattle.opa_tree.specs.declared.expr.Expr.{Expr}
use Rattle.opa_tree.specs.declared.expr.Expr.TheVariants as expr
use Rattle.opa_tree.specs.declared.rules.Inferred.{Inferred}
use Rattle.opa_parse.specs.Naming.{inferred_phrases}
use Rattle.opa_verbs.specs.Phrasing.{denials}
use Rattle.opa_sentence.specs.declared.class.Class.{Class}
use Rattle.opa_sentence.specs.declared.class.Class.TheVariants as class
use Rattle.opa_sentence.specs.declared.names.Names.{Names}
use Rattle.opa_sentence.specs.declared.names.Relation.TheVariants as relation
use Rattle.opa_sentence.specs.declared.reading.Reading.{Reading}
use Rattle.opa_sentence.specs.Lexemes.{Lexeme, class_of}
use Rattle.opa_sentence.specs.Measures.{unbounded}
use Rattle.opa_sentence.specs.Table.{relation_at as relation_in}
use Rattle.opa_sentence.specs.Grammar.{Part, FACTOR, Spells}
use Rattle.opa_wording.specs.Wordings.{phrase, phrase_of_attribute, phrase_of_relation}

-- a written token as the grammar sees it
abbrev pub told : Written → Lexeme
told w = record { class = class_of w.piece.kind w.piece.text; text = w.piece.text }

abbrev pub all_told : List Written → List Lexeme
all_told ws = map told ws

-- what may follow a factor that is written: the end, a bracket, a comma or a sign
abbrev pub may_follow : Class → Bool
may_follow class.Close = true
may_follow class.Comma = true
may_follow class.Plus = true
may_follow class.Minus = true
may_follow class.Times = true
may_follow class.Slash = true
may_follow (class.Compare k) = true
may_follow c = false

-- its text begins no word of a phrase
abbrev pub is_sign : List ℕ → Bool
is_sign [] = false
is_sign (c ∷ cs) = list_any (λ d. c == d) (codes "),+-*/=<>")

abbrev pub ends : List Lexeme → Bool
ends [] = true
ends (t ∷ ts) = may_follow t.class && is_sign t.text

-- The front of the tokens is spelled as that part of a line and says this tree, with no more nesting, and the rest follows.
pub record SpellsTree (ns : Names) (p : Part) (ts : List Lexeme) (e : Expr) (rest : List Lexeme) (most : ℕ) : Type 0 where
  pub reading : Reading
  pub spelled : Spells unbounded ns p ts reading rest
  pub tree_is : reading.tree ≡ Some e
  pub nested : reading.measure.nesting ≤ most

-- Each declared phrase is read as what it is declared for, wherever it ends.
pub record PhrasesAreRead (m : Lists) (ns : Names) : Type 0 where
  pub attributes : (a : AttrId) → HasAttribute m a → (s : Bool) (rest : List Lexeme) → ends rest ≡ true → SpellsTree ns FACTOR (all_told (phrase s (phrase_of_attribute (attribute_at m a))) ++ rest) (expr.Attr a) rest 0
  pub relations : (r : RelId) → HasRelation m r → (s : Bool) (rest : List Lexeme) → ends rest ≡ true → relation_in ns (all_told (phrase s (phrase_of_relation (relation_at m r))) ++ rest) ≡ Some (relation.Declared r, rest)

-- Each declared phrase is written as tokens, each apart from the next.
pub record PhrasesAreWritten (m : Lists) : Type 0 where
  pub attributes : (a : AttrId) → HasAttribute m a → AreWritten (phrase false (phrase_of_attribute (attribute_at m a)))
  pub relations : (r : RelId) → HasRelation m r → AreWritten (phrase false (phrase_of_relation (relation_at m r)))

-- The phrases are texts.
pub record AreTexts (m : Lists) : Type 0 where
  pub attributes : All IsUtf8 (attribute_phrases m)
  pub relations : All IsUtf8 (relation_phrases m)

-- What denies attributes, and the phrases of inferred relations, are texts.
pub record OthersAreTexts (m : Lists) (inferences : List Inferred) : Type 0 where
  pub denied : All IsUtf8 (flat_map (denials m) m.attributes)
  pub inferred : All IsUtf8 (inferred_phrases inferences)
