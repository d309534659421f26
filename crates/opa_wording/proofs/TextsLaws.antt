-- The phrases of a model, and the lines of blocks, are texts, one after another.
use Rattle.std.proofs.Common.{◌≡◌, ◌≤◌, ◌+◌, ℕ, List, [], ◌∷◌, length, drop, map, flat_map, option_map, Option, Some, slice_get, All, refl, sym, ap, subst}
use Rattle.std.specs.Str.{IsUtf8}
use Rattle.std.proofs.lemmas.Str.{IsUtf8-append}
use Rattle.std.proofs.lemmas.List.Elements.{All-nil, All-cons, All-append}
use Rattle.std.proofs.lemmas.Option.{slice_get_past}
use Rattle.opa_io.proofs.Places.{drop_whole, drop_at}
use Rattle.opa_model.specs.declared.lists.Lists.{Lists}
use Rattle.opa_model.specs.declared.things.Attribute.{Attribute}
use Rattle.opa_model.specs.declared.things.Relation.{Relation}
use Rattle.opa_model.specs.declared.things.Sentence.{Sentence}
use Rattle.opa_model.specs.declared.things.Verb.{Verb}
use Rattle.opa_model.specs.Lookups.{attribute_phrases, relation_phrases, verb_at}
use Rattle.opa_words.specs.declared.layout.block.Block.{Block}
use Rattle.opa_words.specs.declared.layout.block.BlockLine.{BlockLine}
use Rattle.opa_words.proofs.Ascii.{ascii_utf8}
use Rattle.opa_tree.specs.declared.rules.Inferred.{Inferred}
use Rattle.opa_verbs.specs.declared.sentence.Form.TheVariants.{Negative}
use Rattle.opa_verbs.specs.Forms.{beside, spoken}
use Rattle.opa_parse.specs.Naming.{inferred_phrases}
use Rattle.opa_verbs.specs.Phrasing.{listed, denials_by}
use Rattle.opa_wording.specs.ReadBack.{AreTextual}

-- ---- sentences

beside_utf8 : (xs ys : List ℕ) → IsUtf8 xs → IsUtf8 ys → IsUtf8 (beside xs ys)
beside_utf8 [] ys u v = v
beside_utf8 (b ∷ bs) [] u v = u
beside_utf8 (b ∷ bs) (c ∷ cs) u v = IsUtf8-append (b ∷ bs) (32 ∷ c ∷ cs) u (IsUtf8-append (32 ∷ []) (c ∷ cs) (ascii_utf8 (32 ∷ []) refl) v)

abbrev by_verb : Sentence → Option Verb → List (List ℕ)
by_verb s o = listed (option_map (λ verb. spoken verb s Negative) o)

pub denied : (m : Lists) (s : Sentence) (v : Verb) → verb_at m s.verb ≡ Some v → IsUtf8 s.subject → IsUtf8 v.negative → IsUtf8 s.rest → All IsUtf8 (denials_by m (Some s))
denied m s v at a b c =
    subst (λ (o : Option Verb). All IsUtf8 (by_verb s o)) (sym at)
    (All-cons IsUtf8 (beside s.subject (beside v.negative s.rest)) [] (beside_utf8 s.subject (beside v.negative s.rest) a (beside_utf8 v.negative s.rest b c)) (All-nil IsUtf8))

pub undenied : (m : Lists) (s : Sentence) → length m.verbs ≤ s.verb → All IsUtf8 (denials_by m (Some s))
undenied m s h = subst (λ (o : Option Verb). All IsUtf8 (by_verb s o)) (sym (slice_get_past m.verbs s.verb h)) (All-nil IsUtf8)

-- ---- one more

-- what holds of the texts of the others holds of all, and so with one more
pub one_more : {A : Type 0} (f : A → List (List ℕ)) (xs : List A) (n : ℕ) (x : A) → slice_get xs n ≡ Some x → All IsUtf8 (f x) → (All IsUtf8 (flat_map f (drop n xs)) → All IsUtf8 (flat_map f xs)) → All IsUtf8 (flat_map f (drop (n + 1) xs)) → All IsUtf8 (flat_map f xs)
one_more f xs n x at here before later = before (subst (λ ys. All IsUtf8 (flat_map f ys)) (sym (drop_at xs n x at)) (All-append IsUtf8 (f x) (flat_map f (drop (n + 1) xs)) here later))

pub no_more : {A : Type 0} (f : A → List (List ℕ)) (xs : List A) (n : ℕ) → n ≡ length xs → (All IsUtf8 (flat_map f (drop n xs)) → All IsUtf8 (flat_map f xs)) → All IsUtf8 (flat_map f xs)
no_more f xs n e before = before (subst (λ k. All IsUtf8 (flat_map f (drop k xs))) (sym e) (subst (λ ys. All IsUtf8 (flat_map f ys)) (sym (drop_whole xs)) (All-nil IsUtf8)))

pub one_text : (t : List ℕ) → IsUtf8 t → All IsUtf8 (t ∷ [])
one_text t u = All-cons IsUtf8 t [] u (All-nil IsUtf8)

pub as_flat : {A : Type 0} (f : A → List ℕ) (xs : List A) → flat_map (λ x. f x ∷ []) xs ≡ map f xs
as_flat f [] = refl
as_flat f (x ∷ xs) = ap (λ ys. f x ∷ ys) (as_flat f xs)

pub all_attributes : (m : Lists) (n : ℕ) → n ≡ length m.attributes → (All IsUtf8 (flat_map (λ (a : Attribute). a.phrase ∷ []) (drop n m.attributes)) → All IsUtf8 (flat_map (λ (a : Attribute). a.phrase ∷ []) m.attributes)) → All IsUtf8 (attribute_phrases m)
all_attributes m n e before = subst (All IsUtf8) (as_flat (λ (a : Attribute). a.phrase) m.attributes) (no_more (λ (a : Attribute). a.phrase ∷ []) m.attributes n e before)

pub all_relations : (m : Lists) (n : ℕ) → n ≡ length m.relations → (All IsUtf8 (flat_map (λ (r : Relation). r.phrase ∷ []) (drop n m.relations)) → All IsUtf8 (flat_map (λ (r : Relation). r.phrase ∷ []) m.relations)) → All IsUtf8 (relation_phrases m)
all_relations m n e before = subst (All IsUtf8) (as_flat (λ (r : Relation). r.phrase) m.relations) (no_more (λ (r : Relation). r.phrase ∷ []) m.relations n e before)

pub more_inferred : (all rest more : List Inferred) (x : Inferred) → rest ≡ x ∷ more → IsUtf8 x.phrase → (All IsUtf8 (inferred_phrases rest) → All IsUtf8 (inferred_phrases all)) → All IsUtf8 (inferred_phrases more) → All IsUtf8 (inferred_phrases all)
more_inferred all rest more x e u before later = before (subst (λ ys. All IsUtf8 (inferred_phrases ys)) (sym e) (All-cons IsUtf8 x.phrase (inferred_phrases more) u later))

pub more_lines : (all rest more : List BlockLine) (x : BlockLine) → rest ≡ x ∷ more → IsUtf8 x.text → (All (λ (y : BlockLine). IsUtf8 y.text) rest → All (λ (y : BlockLine). IsUtf8 y.text) all) → All (λ (y : BlockLine). IsUtf8 y.text) more → All (λ (y : BlockLine). IsUtf8 y.text) all
more_lines all rest more x e u before later = before (subst (All (λ (y : BlockLine). IsUtf8 y.text)) (sym e) (All-cons (λ (y : BlockLine). IsUtf8 y.text) x more u later))

pub more_blocks : (all rest more : List Block) (x : Block) → rest ≡ x ∷ more → All (λ (y : BlockLine). IsUtf8 y.text) x.lines → (AreTextual rest → AreTextual all) → AreTextual more → AreTextual all
more_blocks all rest more x e u before later = before (subst AreTextual (sym e) (All-cons (λ (b : Block). All (λ (y : BlockLine). IsUtf8 y.text) b.lines) x more u later))

pub ruleset sentences = (denied, undenied)

pub ruleset loops = (no_more, all_attributes, all_relations)

pub ruleset fronts = (more_inferred, more_lines, more_blocks)
