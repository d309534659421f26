-- What the phrases of a model, and those of inferred relations, stand for.
use Rattle.std.specs.Prelude.{ℕ, ◌+◌, min, List, [], ◌∷◌, ◌++◌, Bool, true, false, map, refl}
use Rattle.opa_model.specs.declared.ids.AttrId.{AttrId}
use Rattle.opa_model.specs.declared.ids.RelId.{RelId}
use Rattle.opa_model.specs.declared.lists.Lists.{Lists}
use Rattle.opa_model.specs.declared.things.Attribute.{Attribute}
use Rattle.opa_model.specs.Lookups.{relation_phrases}
use Rattle.opa_verbs.specs.Phrasing.{denials, operand_phrases}
use Rattle.opa_tree.specs.declared.rules.Inferred.{Inferred}
use Rattle.opa_tree.specs.Trees.{depth}
use Rattle.opa_io.specs.declared.limits.TheConstants.{MOST_DEPTH, MOST_NODES}
use Rattle.opa_sentence.specs.declared.names.Names.{Names}
use Rattle.opa_sentence.specs.declared.names.Operand.{Operand}
use Rattle.opa_sentence.specs.declared.names.Relation.{Relation}
use Rattle.opa_sentence.specs.declared.names.Relation.TheVariants as relation
use Rattle.opa_sentence.specs.declared.names.Member.{Member}
use Rattle.opa_sentence.specs.Measures.{nodes}

abbrev pub operand : ℕ → Bool → Operand
operand n denied = let attr : AttrId = record { 0 = n } in record { attr = attr; denied = denied }

-- what the texts of attributes stand for, counted from this one
abbrev pub meanings_from : Lists → ℕ → List Attribute → List Operand
meanings_from m n [] = []
meanings_from m n (a ∷ more) = (operand n false ∷ map (λ t. operand n true) (denials m a)) ++ meanings_from m (n + 1) more

abbrev pub operand_meanings : Lists → List Operand
operand_meanings m = meanings_from m 0 m.attributes

abbrev pub inferred_phrases : List Inferred → List (List ℕ)
inferred_phrases inferences = map (λ i. i.phrase) inferences

-- declared relations counted from this one, one for each of these
abbrev pub declared_from : {A : Type 0} → ℕ → List A → List Relation
declared_from n [] = []
declared_from n (x ∷ xs) = (let rel : RelId = record { 0 = n } in relation.Declared rel) ∷ declared_from (n + 1) xs

abbrev pub inferred_from : {A : Type 0} → ℕ → List A → List Relation
inferred_from n [] = []
inferred_from n (x ∷ xs) = relation.Inferred n ∷ inferred_from (n + 1) xs

abbrev pub member_of : Inferred → Member
member_of i = record { every = i.every; expr = i.expr; depth = min (depth i.expr) (MOST_DEPTH + 1); nodes = min (nodes i.expr) (MOST_NODES + 1); deep = refl; wide = refl }

-- The operands are the attributes' phrases and what denies them; the relations are the declared ones and then the inferred ones.
abbrev pub names_in : Lists → List Inferred → Names
names_in m inferences = record {
  operands = operand_phrases m;
  meanings = operand_meanings m;
  relations = relation_phrases m ++ inferred_phrases inferences;
  related = declared_from 0 m.relations ++ inferred_from 0 inferences;
  members = map member_of inferences;
}
