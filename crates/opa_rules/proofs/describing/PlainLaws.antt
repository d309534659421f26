-- The document has no float in it, and it isn't deep.
use Rattle.std.proofs.Common.{◌≡◌, ◌≤◌, ℕ, zero, suc, List, [], ◌∷◌, ◌++◌, length, map, refl, ap, ◌∙◌, arith}
use Rattle.std.specs.Prelude.{true, false, ◌||◌, Bool, ◌-◌, ℤ, Option, Some, None, option_map, option_and_then, slice_index_or}
use Rattle.std.specs.List.{AllByRecursion}
use Rattle.serde_json.specs.Data.{Data, null, boolean, number, unsigned, string, object, Members, no_members, member, depth, members_depth}
use Rattle.serde_json.specs.Read.{max_depth}
use Rattle.serde_json.specs.View.{items_of}
use Rattle.serde_json.specs.Written.{compact_text, has_float, items_have_float, members_have_float}
use Rattle.opa_model.specs.declared.ids.AttrId.{AttrId}
use Rattle.opa_model.specs.declared.ids.EntityId.{EntityId}
use Rattle.opa_model.specs.declared.ids.RelId.{RelId}
use Rattle.opa_model.specs.declared.lists.Lists.{Lists}
use Rattle.opa_model.specs.declared.things.Attribute.{Attribute}
use Rattle.opa_model.specs.declared.things.Entity.{Entity}
use Rattle.opa_model.specs.declared.things.Item.{Item}
use Rattle.opa_model.specs.declared.things.Item.TheVariants as item
use Rattle.opa_model.specs.declared.things.Kind.{Kind}
use Rattle.opa_model.specs.declared.things.Kind.TheVariants as kind
use Rattle.opa_model.specs.declared.things.Relation.{Relation}
use Rattle.opa_model.specs.declared.things.Screen.{Screen}
use Rattle.opa_model.specs.declared.things.Sentence.{Sentence}
use Rattle.opa_model.specs.declared.things.Verb.{Verb}
use Rattle.opa_model.specs.Lookups.{entity_at, attribute_at, relation_at, verb_at, screen_at, goal_at}
use Rattle.opa_verbs.specs.declared.sentence.Form.TheVariants as form
use Rattle.opa_verbs.specs.Forms.{said}
use Rattle.opa_cells.specs.Instances.{global}
use Rattle.opa_case.specs.declared.question.Question.{Question}
use Rattle.opa_case.specs.declared.question.Question.TheVariants as question
use Rattle.opa_text.specs.Points.{question_text}
use Rattle.opa_text.specs.Screen.Screens.{screen_of, numbered}
use Rattle.opa_tree.specs.declared.rulebase.Rulebase.{Rulebase}
use Rattle.opa_tree.specs.declared.rules.Rule.{Rule}
use Rattle.opa_tree.specs.Mentions.{mentions}
use Rattle.opa_tree.specs.Rules.{rule_of}
use Rattle.opa_rules.specs.Describing.Ranges.{ranges}
use Rattle.opa_rules.specs.Describing.Description
use Rattle.opa_rules.specs.Describing.Parts

-- no float, and so deep at most
pub record IsPlain (n : ℕ) (d : Data) : Type 0 where
  pub no_float : has_float d ≡ false
  pub shallow : depth d ≤ n

pub record ArePlain (n : ℕ) (ms : Members) : Type 0 where
  pub no_float : members_have_float ms ≡ false
  pub shallow : members_depth ms ≤ n

-- ---- parts

plain_null : (n : ℕ) → IsPlain n null
plain_null n = record { no_float = refl; shallow = omega arith }

pub plain_text : (n : ℕ) (t : List ℕ) → IsPlain n (string t)
plain_text n t = record { no_float = refl; shallow = omega arith }

pub plain_number : (n k : ℕ) → IsPlain n (number (unsigned k))
plain_number n k = record { no_float = refl; shallow = omega arith }

plain_option : (n : ℕ) (o : Option (List ℕ)) → IsPlain n (Parts.text_or_null o)
plain_option n None = plain_null n
plain_option n (Some t) = plain_text n t

pub none : (n : ℕ) → ArePlain n no_members
none n = record { no_float = refl; shallow = omega arith }

pub more : {n : ℕ} {k : List ℕ} {d : Data} {ms : Members} → IsPlain n d → ArePlain n ms → ArePlain n (member k d ms)
more {n} {k} {d} {ms} p q = record { no_float = ap (λ b. b || members_have_float ms) p.no_float ∙ q.no_float; shallow = omega (arith, p.shallow, q.shallow) }

pub plain_object : {n : ℕ} {ms : Members} → ArePlain n ms → IsPlain (suc n) (object ms)
plain_object {n} {ms} p = record { no_float = p.no_float; shallow = omega (arith, p.shallow) }

abbrev Plain : ℕ → List Data → Type 0
Plain n ds = AllByRecursion (IsPlain n) ds

pub plain_list : (n : ℕ) (ds : List Data) → Plain n ds → IsPlain (suc n) (Parts.list_data ds)
plain_list n [] all = record { no_float = refl; shallow = omega arith }
plain_list n (d ∷ ds) all =
    let p : IsPlain n d = all.0 in
    let q = plain_list n ds all.1 in
    record { no_float = ap (λ b. b || items_have_float (items_of ds)) p.no_float ∙ q.no_float; shallow = omega (arith, p.shallow, q.shallow) }

pub plain_each : {A : Type 0} (n : ℕ) (f : A → Data) → ((x : A) → IsPlain n (f x)) → (xs : List A) → Plain n (map f xs)
plain_each n f h [] = tt
plain_each n f h (x ∷ xs) = (h x, plain_each n f h xs)

plain_join : (n : ℕ) (ds es : List Data) → Plain n ds → Plain n es → Plain n (ds ++ es)
plain_join n [] es h k = k
plain_join n (d ∷ ds) es h k = (h.0, plain_join n ds es h.1 k)

plain_upto : (n : ℕ) (f : ℕ → Data) → ((k : ℕ) → IsPlain n (f k)) → (count : ℕ) → Plain n (Parts.upto f count)
unfolding Parts.upto
plain_upto n f h zero = tt
plain_upto n f h (suc k) = plain_join n (Parts.upto f k) (f k ∷ []) (plain_upto n f h k) (h k, tt)

-- ---- things

plain_decimals : (n : ℕ) (k : Kind) (d : ℕ) → IsPlain n (Parts.decimals_data k d)
plain_decimals n kind.Bool d = plain_null n
plain_decimals n kind.Number d = plain_number n d
plain_decimals n kind.Currency d = plain_number n d
plain_decimals n kind.Words d = plain_null n
plain_decimals n kind.Date d = plain_null n

plain_bound : (n : ℕ) (k : Kind) (z : ℤ) → IsPlain n (Parts.bound_data k z)
plain_bound n kind.Bool z = plain_null n
plain_bound n kind.Number z = plain_option n (Parts.bound_text z)
plain_bound n kind.Currency z = plain_option n (Parts.bound_text z)
plain_bound n kind.Words z = plain_null n
plain_bound n kind.Date z = plain_null n

plain_spoken : (s : Sentence) (o : Option Verb) → IsPlain 3 (Parts.spoken_by s o)
plain_spoken s None = plain_null 3
plain_spoken s (Some v) =
    plain_object (more (plain_text 2 v.ask) (more (plain_text 2 v.negative) (more (plain_text 2 s.rest) (more (plain_text 2 v.positive) (more (plain_text 2 s.subject) (more (plain_text 2 v.rest) (none 2)))))))

plain_sentence : (m : Lists) (o : Option Sentence) → IsPlain 3 (Parts.sentence_data m o)
plain_sentence m None = plain_null 3
plain_sentence m (Some s) = plain_spoken s (verb_at m s.verb)

plain_entity_name : (n : ℕ) (m : Lists) (e : EntityId) → IsPlain n (Parts.entity_name m e)
plain_entity_name n m e = plain_option n (Parts.entity_phrase m e)

plain_attribute_name : (n : ℕ) (m : Lists) (a : AttrId) → IsPlain n (Parts.attribute_name m a)
plain_attribute_name n m a = plain_option n (Parts.attribute_phrase m a)

plain_relation_name : (n : ℕ) (m : Lists) (r : RelId) → IsPlain n (Parts.relation_name m r)
plain_relation_name n m r = plain_option n (Parts.relation_phrase m r)

plain_question : (n : ℕ) (m : Lists) (q : Question) → IsPlain n (Description.question_data m q)
plain_question n m q = plain_option n (question_text m q)

plain_screen_name : (n : ℕ) (m : Lists) (q : Question) → IsPlain n (Description.screen_name m q)
plain_screen_name n m q = plain_option n (option_map (λ s. s.title) (numbered m (screen_of m q)))

plain_denied : (n : ℕ) (m : Lists) (s : Option Sentence) → IsPlain n (Parts.denied_data m s)
plain_denied n m s = plain_option n (option_and_then (λ x. said m x form.Negative) s)

plain_mentions : (m : Lists) (attrs : List AttrId) (rels : List RelId) → IsPlain 2 (Parts.mentions_data m attrs rels)
plain_mentions m attrs rels =
    plain_object (more (plain_list 0 (map (Parts.attribute_name m) attrs) (plain_each 0 (Parts.attribute_name m) (plain_attribute_name 0 m) attrs))
    (more (plain_list 0 (map (Parts.relation_name m) rels) (plain_each 0 (Parts.relation_name m) (plain_relation_name 0 m) rels)) (none 1)))

plain_rule : (m : Lists) (files : List (List ℕ)) (o : Option Rule) → IsPlain 3 (Parts.rule_data m files o)
plain_rule m files None = plain_null 3
plain_rule m files (Some r) = plain_object (more (plain_text 2 (slice_index_or files r.file [])) (more (plain_number 2 r.line) (more (plain_mentions m (mentions r.expr) (ranges r.expr)) (none 2))))

plain_attribute : (b : Rulebase) (n : AttrId) (o : Option Attribute) → IsPlain 4 (Description.attribute_by b n o)
plain_attribute b n None = plain_null 4
plain_attribute b n (Some a) =
    plain_object (more (plain_decimals 3 a.kind a.decimals) (more (plain_denied 3 b.model a.sentence) (more (plain_entity_name 3 b.model a.entity) (more (plain_text 3 (Parts.kind_text a.kind))
    (more (plain_bound 3 a.kind a.least) (more (plain_bound 3 a.kind a.most) (more (plain_text 3 a.phrase) (more (plain_question 3 b.model (question.Attr n global))
    (more (plain_rule b.model b.files (rule_of b.rules n)) (more (plain_screen_name 3 b.model (question.Attr n global)) (more (plain_sentence b.model a.sentence) (none 3))))))))))))

plain_asked : (n : ℕ) (every : Bool) (m : Lists) (q : Question) → IsPlain n (Description.asked_data every m q)
plain_asked n true m q = plain_null n
plain_asked n false m q = plain_question n m q

plain_relation : (m : Lists) (n : RelId) (o : Option Relation) → IsPlain 4 (Description.relation_by m n o)
plain_relation m n None = plain_null 4
plain_relation m n (Some r) =
    plain_object (more (plain_entity_name 3 m r.source) (more (plain_text 3 r.phrase) (more (plain_asked 3 r.every m (question.Members n global)) (more (plain_null 3)
    (more (plain_screen_name 3 m (question.Members n global)) (more (plain_text 3 (Parts.sort_text r)) (more (plain_entity_name 3 m r.target) (none 3))))))))

plain_entity : (m : Lists) (o : Option Entity) → IsPlain 4 (Parts.entity_by m o)
plain_entity m None = plain_null 4
plain_entity m (Some e) = plain_object (more (plain_entity_name 3 m e.parent) (more (plain_relation_name 3 m e.contained) (more (plain_text 3 e.phrase) (none 3))))

plain_item : (m : Lists) (i : Item) → IsPlain 2 (Parts.item_name m i)
plain_item m (item.Attr a) = plain_attribute_name 2 m a
plain_item m (item.Members r) = plain_relation_name 2 m r

plain_screen : (m : Lists) (o : Option Screen) → IsPlain 4 (Parts.screen_by m o)
plain_screen m None = plain_null 4
plain_screen m (Some s) = plain_object (more (plain_list 2 (map (Parts.item_name m) s.items) (plain_each 2 (Parts.item_name m) (plain_item m) s.items)) (more (plain_text 3 s.title) (none 3)))

plain_goal : (m : Lists) (o : Option AttrId) → IsPlain 4 (Parts.goal_by m o)
plain_goal m None = plain_null 4
plain_goal m (Some a) = plain_attribute_name 4 m a

plain_file : (name : List ℕ) → IsPlain 4 (Parts.file_data name)
plain_file name = plain_object (more (plain_text 3 name) (none 3))

-- ---- the whole

plain_whole : (a e f g l s : Data) (name : List ℕ) → IsPlain 5 a → IsPlain 5 e → IsPlain 5 f → IsPlain 5 g → IsPlain 5 l → IsPlain 5 s → IsPlain 6 (Parts.whole_data a e f g l s name)
plain_whole a e f g l s name ha he hf hg hl hs =
    let format : IsPlain 5 Parts.format_data = record { no_float = refl; shallow = omega arith } in
    let limits : IsPlain 5 Parts.limits_data = record { no_float = refl; shallow = omega arith } in
    let proved : IsPlain 5 (boolean true) = record { no_float = refl; shallow = omega arith } in
    plain_object (more ha (more he (more hf (more format (more hg (more limits (more hl (more proved (more (plain_text 5 name) (more hs (none 5)))))))))))

abbrev attributes : Rulebase → List Data
attributes b = Parts.upto (Description.attribute_data b) (length b.model.attributes)

abbrev entities : Rulebase → List Data
entities b = Parts.upto (Parts.entity_data b.model) (length b.model.entities - 1)

abbrev goals : Rulebase → List Data
goals b = Parts.upto (Parts.goal_data b.model) (length b.model.goals)

abbrev relations : Rulebase → List Data
relations b = Parts.upto (Description.relation_data b.model) (length b.model.relations)

abbrev screens : Rulebase → List Data
screens b = Parts.upto (Parts.screen_data b.model) (length b.model.screens)

plain_description : (b : Rulebase) → IsPlain 6 (Description.description b)
unfolding Description.description
plain_description b =
    let m = b.model in
    plain_whole (Parts.list_data (attributes b)) (Parts.list_data (entities b)) (Parts.list_data (map Parts.file_data b.files)) (Parts.list_data (goals b)) (Parts.list_data (relations b)) (Parts.list_data (screens b)) (slice_index_or b.files 0 [])
    (plain_list 4 (attributes b) (plain_upto 4 (Description.attribute_data b) (λ n. plain_attribute b (Parts.attr n) (attribute_at m (Parts.attr n))) (length m.attributes)))
    (plain_list 4 (entities b) (plain_upto 4 (Parts.entity_data m) (λ n. plain_entity m (entity_at m (Parts.entity (suc n)))) (length m.entities - 1)))
    (plain_list 4 (map Parts.file_data b.files) (plain_each 4 Parts.file_data plain_file b.files))
    (plain_list 4 (goals b) (plain_upto 4 (Parts.goal_data m) (λ n. plain_goal m (goal_at m n)) (length m.goals)))
    (plain_list 4 (relations b) (plain_upto 4 (Description.relation_data m) (λ n. plain_relation m (Parts.rel n) (relation_at m (Parts.rel n))) (length m.relations)))
    (plain_list 4 (screens b) (plain_upto 4 (Parts.screen_data m) (λ n. plain_screen m (screen_at m n)) (length m.screens)))

pub has_no_float : (b : Rulebase) (d : Data) → d ≡ Description.description b → has_float d ≡ false
has_no_float b d e = ap has_float e ∙ (plain_description b).no_float

pub is_shallow : (b : Rulebase) (d : Data) → d ≡ Description.description b → depth d ≤ max_depth
is_shallow b d e = omega (arith, ap depth e, (plain_description b).shallow)

pub text_is : (b : Rulebase) (d : Data) → d ≡ Description.description b → compact_text d ++ 10 ∷ [] ≡ Description.described b
unfolding Description.described
text_is b d e = ap (λ x. compact_text x ++ 10 ∷ []) e

pub whole_is : (b : Rulebase) (v a e f g l s : Data) (name : List ℕ) → v ≡ Parts.whole_data a e f g l s name → a ≡ Parts.list_data (attributes b) → e ≡ Parts.list_data (entities b) → f ≡ Parts.list_data (map Parts.file_data b.files) → g ≡ Parts.list_data (goals b)
    → l ≡ Parts.list_data (relations b) → s ≡ Parts.list_data (screens b) → name ≡ slice_index_or b.files 0 [] → v ≡ Description.description b
unfolding Description.description
whole_is b v a e f g l s name hv ha he hf hg hl hs hn =
    hv ∙ ap (λ x. Parts.whole_data x e f g l s name) ha
    ∙ ap (λ x. Parts.whole_data (Parts.list_data (attributes b)) x f g l s name) he
    ∙ ap (λ x. Parts.whole_data (Parts.list_data (attributes b)) (Parts.list_data (entities b)) x g l s name) hf
    ∙ ap (λ x. Parts.whole_data (Parts.list_data (attributes b)) (Parts.list_data (entities b)) (Parts.list_data (map Parts.file_data b.files)) x l s name) hg
    ∙ ap (λ x. Parts.whole_data (Parts.list_data (attributes b)) (Parts.list_data (entities b)) (Parts.list_data (map Parts.file_data b.files)) (Parts.list_data (goals b)) x s name) hl
    ∙ ap (λ x. Parts.whole_data (Parts.list_data (attributes b)) (Parts.list_data (entities b)) (Parts.list_data (map Parts.file_data b.files)) (Parts.list_data (goals b)) (Parts.list_data (relations b)) x name) hs
    ∙ ap (λ (x : List ℕ). Parts.whole_data (Parts.list_data (attributes b)) (Parts.list_data (entities b)) (Parts.list_data (map Parts.file_data b.files)) (Parts.list_data (goals b)) (Parts.list_data (relations b)) (Parts.list_data (screens b)) x) hn
