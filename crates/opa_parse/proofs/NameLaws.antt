-- Names, attribute by attribute and relation by relation.
use Rattle.std.proofs.Common.{◌≡◌, ℕ, ◌+◌, List, [], ◌∷◌, ◌++◌, drop, length, map, flat_map, slice_get, Some, true, false, IfSome, refl, sym, ap, ◌∙◌, append_assoc}
use Rattle.std.proofs.lemmas.List.{append-nil}
use Rattle.opa_io.proofs.Places.{All_at, drop_whole, drop_at}
use Rattle.opa_model.specs.declared.lists.Lists.{Lists}
use Rattle.opa_model.specs.declared.things.Attribute.{Attribute}
use Rattle.opa_model.specs.declared.things.Relation.{Relation as Declared}
use Rattle.opa_model.specs.Models.{IsModel, HasVerb}
use Rattle.opa_sentence.specs.declared.names.Operand.{Operand}
use Rattle.opa_sentence.specs.declared.names.Relation.{Relation}
use Rattle.opa_sentence.specs.declared.names.Relation.TheVariants as relation
use Rattle.opa_model.specs.declared.ids.RelId.{RelId}
use Rattle.opa_parse.specs.Naming.{operand, meanings_from, declared_from}
use Rattle.opa_verbs.specs.Phrasing.{denials, texts_of}

-- one more of what a list is made of
one_more : {X Y : Type 0} (f : List X → List Y) (g : X → List Y) (xs : List X) (n : ℕ) (x : X) (old new all : List Y) → ((y : X) (ys : List X) → f (y ∷ ys) ≡ g y ++ f ys) → slice_get xs n ≡ Some x → new ≡ old ++ g x → old ++ f (drop n xs) ≡ all
    → new ++ f (drop (n + 1) xs) ≡ all
one_more f g xs n x old new all h at e inv =
    ap (λ y. y ++ f (drop (n + 1) xs)) e ∙ append_assoc old (g x) (f (drop (n + 1) xs)) ∙ ap (λ y. old ++ y) (sym (h x (drop (n + 1) xs))) ∙ ap (λ y. old ++ f y) (sym (drop_at xs n x at)) ∙ inv

all_made : {X Y : Type 0} (f : List X → List Y) (xs : List X) (n : ℕ) (old all : List Y) → f [] ≡ [] → n ≡ length xs → old ++ f (drop n xs) ≡ all → old ≡ all
all_made f xs n old all h e inv = sym (append-nil old) ∙ ap (λ y. old ++ y) (sym h) ∙ ap (λ y. old ++ f y) (sym (drop_whole xs)) ∙ ap (λ k. old ++ f (drop k xs)) (sym e) ∙ inv

module _ (m : Lists) where
  pub has_verb : (n : ℕ) (a : Attribute) → IsModel m → slice_get m.attributes n ≡ Some a → IfSome a.sentence (HasVerb m)
  has_verb n a form at = All_at (λ x. IfSome x.sentence (HasVerb m)) m.attributes n a at form.in_range.verbs

  pub more_texts : (n : ℕ) (a : Attribute) (old new all : List (List ℕ)) → slice_get m.attributes n ≡ Some a → new ≡ old ++ texts_of m a → old ++ flat_map (texts_of m) (drop n m.attributes) ≡ all → new ++ flat_map (texts_of m) (drop (n + 1) m.attributes) ≡ all
  more_texts n a old new all at e inv = one_more (flat_map (texts_of m)) (texts_of m) m.attributes n a old new all (λ y ys. refl) at e inv

  pub all_texts : (n : ℕ) (old all : List (List ℕ)) → n ≡ length m.attributes → old ++ flat_map (texts_of m) (drop n m.attributes) ≡ all → old ≡ all
  all_texts n old all e inv = all_made (flat_map (texts_of m)) m.attributes n old all refl e inv

  pub more_meanings : (n : ℕ) (a : Attribute) (old new all : List Operand) → slice_get m.attributes n ≡ Some a → new ≡ old ++ (operand n false ∷ map (λ t. operand n true) (denials m a)) → old ++ meanings_from m n (drop n m.attributes) ≡ all
      → new ++ meanings_from m (n + 1) (drop (n + 1) m.attributes) ≡ all
  more_meanings n a old new all at e inv =
      let mine = operand n false ∷ map (λ t. operand n true) (denials m a) in
      ap (λ y. y ++ meanings_from m (n + 1) (drop (n + 1) m.attributes)) e ∙ append_assoc old mine (meanings_from m (n + 1) (drop (n + 1) m.attributes))
      ∙ ap (λ y. old ++ meanings_from m n y) (sym (drop_at m.attributes n a at)) ∙ inv

  pub all_meanings : (n : ℕ) (old all : List Operand) → n ≡ length m.attributes → old ++ meanings_from m n (drop n m.attributes) ≡ all → old ≡ all
  all_meanings n old all e inv = all_made (meanings_from m n) m.attributes n old all refl e inv

  pub more_phrases : (n : ℕ) (a : Declared) (old new all : List (List ℕ)) → slice_get m.relations n ≡ Some a → new ≡ old ++ a.phrase ∷ [] → old ++ map (λ (r : Declared). r.phrase) (drop n m.relations) ≡ all → new ++ map (λ (r : Declared). r.phrase) (drop (n + 1) m.relations) ≡ all
  more_phrases n a old new all at e inv = one_more (map (λ (r : Declared). r.phrase)) (λ r. r.phrase ∷ []) m.relations n a old new all (λ y ys. refl) at e inv

  pub all_phrases : (n : ℕ) (old all : List (List ℕ)) → n ≡ length m.relations → old ++ map (λ (r : Declared). r.phrase) (drop n m.relations) ≡ all → old ≡ all
  all_phrases n old all e inv = all_made (map (λ (r : Declared). r.phrase)) m.relations n old all refl e inv

  abbrev declared : ℕ → Relation
  declared n = let rel : RelId = record { 0 = n } in relation.Declared rel

  pub more_related : (n : ℕ) (a : Declared) (old new all : List Relation) → slice_get m.relations n ≡ Some a → new ≡ old ++ declared n ∷ [] → old ++ declared_from n (drop n m.relations) ≡ all → new ++ declared_from (n + 1) (drop (n + 1) m.relations) ≡ all
  more_related n a old new all at e inv =
      ap (λ y. y ++ declared_from (n + 1) (drop (n + 1) m.relations)) e ∙ append_assoc old (declared n ∷ []) (declared_from (n + 1) (drop (n + 1) m.relations))
      ∙ ap (λ y. old ++ declared_from n y) (sym (drop_at m.relations n a at)) ∙ inv

  pub all_related : (n : ℕ) (old all : List Relation) → n ≡ length m.relations → old ++ declared_from n (drop n m.relations) ≡ all → old ≡ all
  all_related n old all e inv = all_made (declared_from n) m.relations n old all refl e inv

pub ruleset operand_steps = (has_verb, more_texts, all_texts, more_meanings, all_meanings)

pub ruleset relation_steps = (more_phrases, all_phrases, more_related, all_related)
