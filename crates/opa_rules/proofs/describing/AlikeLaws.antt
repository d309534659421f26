-- Rulebases with one description declare the same.
use Rattle.std.proofs.Common.{◌≡◌, ◌<◌, ◌-◌, ℕ, zero, suc, Bool, true, false, List, [], ◌∷◌, ◌++◌, length, map, refl, sym, ap, ◌∙◌, arith}
use Rattle.std.specs.Prelude.{Option, Some, None, ◌==◌, is_none, codes, slice_index_or, if◌then◌else◌}
use Rattle.std.specs.Str.{bytes_eq}
use Rattle.std.proofs.lemmas.Bool.{eqb-true, eqb-false}
use Rattle.std.proofs.lemmas.Option.{slice_get_within}
use Rattle.serde_json.specs.Data.{Data, null, number, unsigned, string, array, object, Items, no_items, item, Members, no_members, member}
use Rattle.opa_model.specs.declared.ids.AttrId.{AttrId}
use Rattle.opa_model.specs.declared.ids.RelId.{RelId}
use Rattle.opa_model.specs.declared.lists.Lists.{Lists}
use Rattle.opa_model.specs.declared.things.Attribute.{Attribute}
use Rattle.opa_model.specs.declared.things.Entity.{Entity}
use Rattle.opa_model.specs.declared.things.Kind.{Kind}
use Rattle.opa_model.specs.declared.things.Kind.TheVariants as kind
use Rattle.opa_model.specs.declared.things.Relation.{Relation}
use Rattle.opa_model.specs.declared.things.Screen.{Screen}
use Rattle.opa_model.specs.declared.things.Sentence.{Sentence}
use Rattle.opa_model.specs.declared.things.Verb.{Verb}
use Rattle.opa_model.specs.Lookups.{entity_at, verb_at}
use Rattle.opa_tree.specs.declared.rulebase.Rulebase.{Rulebase}
use Rattle.opa_tree.specs.declared.rules.Rule.{Rule}
use Rattle.opa_tree.specs.Mentions.{mentions}
use Rattle.opa_tree.specs.Rules.{rule_of}
use Rattle.opa_rules.specs.Describing.Ranges.{ranges}
use Rattle.opa_rules.specs.Describing.Description
use Rattle.opa_rules.specs.Describing.Parts
use Rattle.opa_rules.proofs.describing.UptoLaws.{upto_zero, upto_suc}
use Rattle.opa_rules.specs.Describing.Alike.{SameSentence, SameRule, SameAttribute, SameRelation, SameEntity, SameScreen, DeclareAlike}

-- ---- parts of a value

abbrev first_of : Members → Data
first_of no_members = null
first_of (member k d ms) = d

abbrev others_of : Members → Members
others_of no_members = no_members
others_of (member k d ms) = ms

abbrev here : Data → Data
here (object ms) = first_of ms
here _ = null

abbrev next : Data → Data
next (object ms) = object (others_of ms)
next _ = null

abbrev text_in : Data → Option (List ℕ)
text_in (string t) = Some t
text_in _ = None

abbrev listed : Items → List Data
listed no_items = []
listed (item d ds) = d ∷ listed ds

abbrev items_in : Data → List Data
items_in (array ds) = listed ds
items_in _ = []

abbrev size_in : Data → ℕ
size_in (number (unsigned n)) = n
size_in _ = 0

abbrev is_null : Data → Bool
is_null null = true
is_null _ = false

-- the member of a place
abbrev at : ℕ → Data → Data
at zero d = here d
at (suc n) d = at n (next d)

text_same : (s t : List ℕ) → string s ≡ string t → s ≡ t
text_same s t e = let h : Some s ≡ Some t = ap text_in e in cc h

told_text : (o : Option (List ℕ)) → text_in (Parts.text_or_null o) ≡ o
told_text None = refl
told_text (Some t) = refl

option_same : (o p : Option (List ℕ)) → Parts.text_or_null o ≡ Parts.text_or_null p → o ≡ p
option_same o p e = sym (told_text o) ∙ ap text_in e ∙ told_text p

told_items : (ds : List Data) → items_in (Parts.list_data ds) ≡ ds
told_items [] = refl
told_items (d ∷ ds) = ap (λ es. d ∷ es) (told_items ds)

list_same : (ds es : List Data) → Parts.list_data ds ≡ Parts.list_data es → ds ≡ es
list_same ds es e = sym (told_items ds) ∙ ap items_in e ∙ told_items es

-- ---- lists of what places say

snoc_same : {A : Type 0} (xs ys : List A) (x y : A) → xs ++ x ∷ [] ≡ ys ++ y ∷ [] → (xs ≡ ys) × (x ≡ y)
snoc_same [] [] x y e = (refl, cc e)
snoc_same [] (z ∷ []) x y e = absurd (omega (arith, ap length e))
snoc_same [] (z ∷ w ∷ zs) x y e = absurd (omega (arith, ap length e))
snoc_same (z ∷ []) [] x y e = absurd (omega (arith, ap length e))
snoc_same (z ∷ w ∷ zs) [] x y e = absurd (omega (arith, ap length e))
snoc_same (z ∷ zs) (w ∷ ws) x y e =
    let front : z ≡ w = cc e in
    let back : zs ++ x ∷ [] ≡ ws ++ y ∷ [] = cc e in
    let rest = snoc_same zs ws x y back in
    (cc (front, rest.0), rest.1)

not_none : (ds : List Data) (d : Data) → [] ≡ ds ++ d ∷ [] → ⊥
not_none [] d e = absurd (cc e)
not_none (x ∷ ds) d e = absurd (cc e)

last_same : (f g : ℕ → Data) (n i : ℕ) → f n ≡ g n → ((j : ℕ) → j < n → f j ≡ g j) → i < suc n → (b : Bool) → (i == n) ≡ b → f i ≡ g i
last_same f g n i ends before lt true h = let same : i ≡ n = eqb-true i n h in ap f same ∙ ends ∙ ap g (sym same)
last_same f g n i ends before lt false h = before i (omega (arith, lt, eqb-false i n h))

more_same : (f g : ℕ → Data) (n k : ℕ) → f n ≡ g k → (n ≡ k) × ((i : ℕ) → i < n → f i ≡ g i) → (suc n ≡ suc k) × ((i : ℕ) → i < suc n → f i ≡ g i)
more_same f g n k h r = (ap (λ j. suc j) r.0, λ i lt. last_same f g n i (h ∙ ap g (sym r.0)) r.1 lt (i == n) refl)

upto_same : (f g : ℕ → Data) (n k : ℕ) → Parts.upto f n ≡ Parts.upto g k → (n ≡ k) × ((i : ℕ) → i < n → f i ≡ g i)
upto_same f g zero zero e = (refl, λ i lt. absurd (omega (arith, lt)))
upto_same f g zero (suc k) e = absurd (not_none (Parts.upto g k) (g k) (upto_zero f ∙ e ∙ sym (upto_suc g k)))
upto_same f g (suc n) zero e = absurd (not_none (Parts.upto f n) (f n) (upto_zero g ∙ sym e ∙ sym (upto_suc f n)))
upto_same f g (suc n) (suc k) e =
    let s = snoc_same (Parts.upto f n) (Parts.upto g k) (f n) (g k) (upto_suc f n ∙ e ∙ sym (upto_suc g k)) in
    more_same f g n k s.1 (upto_same f g n k s.0)

-- ---- kinds

abbrev kind_named : List ℕ → Option Kind
kind_named t =
    if bytes_eq t (codes "bool") then Some kind.Bool else
    if bytes_eq t (codes "number") then Some kind.Number else
    if bytes_eq t (codes "currency") then Some kind.Currency else
    if bytes_eq t (codes "text") then Some kind.Words else Some kind.Date

kind_told : (k : Kind) → kind_named (Parts.kind_text k) ≡ Some k
kind_told kind.Bool = refl
kind_told kind.Number = refl
kind_told kind.Currency = refl
kind_told kind.Words = refl
kind_told kind.Date = refl

kind_same : (k l : Kind) → string (Parts.kind_text k) ≡ string (Parts.kind_text l) → k ≡ l
kind_same k l e = let h : Some k ≡ Some l = sym (kind_told k) ∙ ap kind_named (text_same (Parts.kind_text k) (Parts.kind_text l) e) ∙ kind_told l in cc h

counted : (k : Kind) (d : Data) → Parts.is_counted k ≡ true → (if Parts.is_counted k then d else null) ≡ d
counted k d h = ap (λ b. if b then d else null) h

-- ---- names

names_same : {A B : Type 0} (f : A → Option (List ℕ)) (g : B → Option (List ℕ)) (xs : List A) (ys : List B)
    → map (λ x. Parts.text_or_null (f x)) xs ≡ map (λ y. Parts.text_or_null (g y)) ys → map f xs ≡ map g ys
names_same f g xs ys e = sym (told f xs) ∙ ap (map text_in) e ∙ told g ys
  where
    told : {C : Type 0} (h : C → Option (List ℕ)) (zs : List C) → map text_in (map (λ z. Parts.text_or_null (h z)) zs) ≡ map h zs
    told h [] = refl
    told h (z ∷ zs) = ap (λ o. o ∷ map text_in (map (λ w. Parts.text_or_null (h w)) zs)) (told_text (h z)) ∙ ap (λ os. h z ∷ os) (told h zs)

somes_same : (fs gs : List (List ℕ)) → map (λ f. Some f) fs ≡ map (λ g. Some g) gs → fs ≡ gs
somes_same [] [] e = refl
somes_same [] (g ∷ gs) e = absurd (cc e)
somes_same (f ∷ fs) [] e = absurd (cc e)
somes_same (f ∷ fs) (g ∷ gs) e =
    let front : Some f ≡ Some g = cc e in
    let back : map (λ h. Some h) fs ≡ map (λ h. Some h) gs = cc e in
    let rest = somes_same fs gs back in
    let same : f ≡ g = cc front in
    cc (same, rest)

files_told : (fs : List (List ℕ)) → map (λ d. text_in (here d)) (map Parts.file_data fs) ≡ map (λ f. Some f) fs
files_told [] = refl
files_told (f ∷ fs) = ap (λ os. Some f ∷ os) (files_told fs)

files_same : (fs gs : List (List ℕ)) → map Parts.file_data fs ≡ map Parts.file_data gs → fs ≡ gs
files_same fs gs e = somes_same fs gs (sym (files_told fs) ∙ ap (map (λ d. text_in (here d))) e ∙ files_told gs)

-- ---- things

abbrev whole : Rulebase → Data
whole b =
    Parts.whole_data (Parts.list_data (Parts.upto (Description.attribute_data b) (length b.model.attributes)))
    (Parts.list_data (Parts.upto (Parts.entity_data b.model) (length b.model.entities - 1))) (Parts.list_data (map Parts.file_data b.files))
    (Parts.list_data (Parts.upto (Parts.goal_data b.model) (length b.model.goals))) (Parts.list_data (Parts.upto (Description.relation_data b.model) (length b.model.relations)))
    (Parts.list_data (Parts.upto (Parts.screen_data b.model) (length b.model.screens))) (slice_index_or b.files 0 [])

opened : (b : Rulebase) → Description.description b ≡ whole b
unfolding Description.description
opened b = refl

module _ (b c : Rulebase) where
  sentence_same : (s t : Sentence) (v w : Verb) → Parts.spoken_data s v ≡ Parts.spoken_data t w → SameSentence s t v w
  sentence_same s t v w e = record {
    ask = text_same _ _ (ap (at 0) e);
    negative = text_same _ _ (ap (at 1) e);
    rest = text_same _ _ (ap (at 2) e);
    positive = text_same _ _ (ap (at 3) e);
    subject = text_same _ _ (ap (at 4) e);
    tail = text_same _ _ (ap (at 5) e);
  }

  sentences_same : (o p : Option Sentence) → Parts.sentence_data b.model o ≡ Parts.sentence_data c.model p → (s t : Sentence) (v w : Verb) → o ≡ Some s → p ≡ Some t → verb_at b.model s.verb ≡ Some v → verb_at c.model t.verb ≡ Some w → SameSentence s t v w
  sentences_same o p e s t v w os ps vs ws =
      sentence_same s t v w
      (sym (ap (Parts.sentence_data b.model) os ∙ ap (Parts.spoken_by s) vs) ∙ e ∙ ap (Parts.sentence_data c.model) ps ∙ ap (Parts.spoken_by t) ws)

  rule_same : (r s : Rule) → Parts.rule_with b.model b.files r ≡ Parts.rule_with c.model c.files s → SameRule b c r s
  rule_same r s e = record {
    file = text_same _ _ (ap (at 0) e);
    line = ap size_in (ap (at 1) e);
    attributes = names_same (Parts.attribute_phrase b.model) (Parts.attribute_phrase c.model) (mentions r.expr) (mentions s.expr) (list_same (map (Parts.attribute_name b.model) (mentions r.expr)) (map (Parts.attribute_name c.model) (mentions s.expr)) (ap (λ d. at 0 (at 2 d)) e));
    lists = names_same (Parts.relation_phrase b.model) (Parts.relation_phrase c.model) (ranges r.expr) (ranges s.expr) (list_same (map (Parts.relation_name b.model) (ranges r.expr)) (map (Parts.relation_name c.model) (ranges s.expr)) (ap (λ d. at 1 (at 2 d)) e));
  }

  rules_same : (o p : Option Rule) → Parts.rule_data b.model b.files o ≡ Parts.rule_data c.model c.files p → (r s : Rule) → o ≡ Some r → p ≡ Some s → SameRule b c r s
  rules_same o p e r s os ps = rule_same r s (sym (ap (Parts.rule_data b.model b.files) os) ∙ e ∙ ap (Parts.rule_data c.model c.files) ps)

  no_rule_told : (m : Lists) (files : List (List ℕ)) (o : Option Rule) → is_null (Parts.rule_data m files o) ≡ is_none o
  no_rule_told m files None = refl
  no_rule_told m files (Some r) = refl

  attribute_same : (n : AttrId) (a o : Attribute) → Description.attribute_by b n (Some a) ≡ Description.attribute_by c n (Some o) → SameAttribute b c n a o
  attribute_same n a o e = record {
    phrase = text_same _ _ (ap (at 6) e);
    kind = kinds;
    owner = option_same (Parts.entity_phrase b.model a.entity) (Parts.entity_phrase c.model o.entity) (ap (at 2) e);
    decimals = λ h. ap size_in (sym (counted a.kind (number (unsigned a.decimals)) h) ∙ ap (at 0) e ∙ counted o.kind (number (unsigned o.decimals)) (other h));
    least = λ h. option_same (Parts.bound_text a.least) (Parts.bound_text o.least) (sym (counted a.kind (Parts.text_or_null (Parts.bound_text a.least)) h) ∙ ap (at 4) e ∙ counted o.kind (Parts.text_or_null (Parts.bound_text o.least)) (other h));
    most = λ h. option_same (Parts.bound_text a.most) (Parts.bound_text o.most) (sym (counted a.kind (Parts.text_or_null (Parts.bound_text a.most)) h) ∙ ap (at 5) e ∙ counted o.kind (Parts.text_or_null (Parts.bound_text o.most)) (other h));
    sentence = sentences_same a.sentence o.sentence (ap (at 10) e);
    asked = sym (no_rule_told b.model b.files (rule_of b.rules n)) ∙ ap is_null (ap (at 8) e) ∙ no_rule_told c.model c.files (rule_of c.rules n);
    rule = rules_same (rule_of b.rules n) (rule_of c.rules n) (ap (at 8) e);
  }
    where
      kinds : a.kind ≡ o.kind
      kinds = kind_same a.kind o.kind (ap (at 3) e)

      other : Parts.is_counted a.kind ≡ true → Parts.is_counted o.kind ≡ true
      other h = sym (ap Parts.is_counted kinds) ∙ h

  relation_same : (n : RelId) (r s : Relation) → Description.relation_by b.model n (Some r) ≡ Description.relation_by c.model n (Some s) → SameRelation b c r s
  relation_same n r s e = record {
    phrase = text_same _ _ (ap (at 1) e);
    source = option_same (Parts.entity_phrase b.model r.source) (Parts.entity_phrase c.model s.source) (ap (at 0) e);
    target = option_same (Parts.entity_phrase b.model r.target) (Parts.entity_phrase c.model s.target) (ap (at 6) e);
    sort = text_same _ _ (ap (at 5) e);
  }

  entity_same : (x y : Entity) → Parts.entity_with b.model x ≡ Parts.entity_with c.model y → SameEntity b c x y
  entity_same x y e = record {
    phrase = text_same _ _ (ap (at 2) e);
    parent = option_same (Parts.entity_phrase b.model x.parent) (Parts.entity_phrase c.model y.parent) (ap (at 0) e);
    contained = option_same (Parts.relation_phrase b.model x.contained) (Parts.relation_phrase c.model y.contained) (ap (at 1) e);
  }

  screen_same : (s t : Screen) → Parts.screen_with b.model s ≡ Parts.screen_with c.model t → SameScreen b c s t
  screen_same s t e = record { title = text_same _ _ (ap (at 1) e); items = list_same (map (Parts.item_name b.model) s.items) (map (Parts.item_name c.model) t.items) (ap (at 0) e) }

  alike : whole b ≡ whole c → DeclareAlike b c
  alike e = record {
    files = files_same b.files c.files (list_same (map Parts.file_data b.files) (map Parts.file_data c.files) (ap (at 2) e));
    attribute_count = attributes.0;
    attributes = λ n a o h k. attribute_same (Parts.attr n) a o (sym (ap (Description.attribute_by b (Parts.attr n)) h) ∙ attributes.1 n (slice_get_within b.model.attributes n a h) ∙ ap (Description.attribute_by c (Parts.attr n)) k);
    relation_count = relations.0;
    relations = λ n r s h k. relation_same (Parts.rel n) r s (sym (ap (Description.relation_by b.model (Parts.rel n)) h) ∙ relations.1 n (slice_get_within b.model.relations n r h) ∙ ap (Description.relation_by c.model (Parts.rel n)) k);
    entity_count = entities.0;
    entities = λ n x y h k. entity_same x y (sym (ap (Parts.entity_by b.model) h) ∙ entities.1 n (behind n x h) ∙ ap (Parts.entity_by c.model) k);
    screen_count = screens.0;
    screens = λ n s t h k. screen_same s t (sym (ap (Parts.screen_by b.model) h) ∙ screens.1 n (slice_get_within b.model.screens n s h) ∙ ap (Parts.screen_by c.model) k);
    goal_count = goals.0;
    goals = λ n a o h k. option_same (Parts.attribute_phrase b.model a) (Parts.attribute_phrase c.model o) (sym (ap (Parts.goal_by b.model) h) ∙ goals.1 n (slice_get_within b.model.goals n a h) ∙ ap (Parts.goal_by c.model) k);
  }
    where
      attributes : (length b.model.attributes ≡ length c.model.attributes) × ((i : ℕ) → i < length b.model.attributes → Description.attribute_data b i ≡ Description.attribute_data c i)
      attributes = upto_same (Description.attribute_data b) (Description.attribute_data c) (length b.model.attributes) (length c.model.attributes) (list_same (Parts.upto (Description.attribute_data b) (length b.model.attributes)) (Parts.upto (Description.attribute_data c) (length c.model.attributes)) (ap (at 0) e))

      entities : (length b.model.entities - 1 ≡ length c.model.entities - 1) × ((i : ℕ) → i < length b.model.entities - 1 → Parts.entity_data b.model i ≡ Parts.entity_data c.model i)
      entities = upto_same (Parts.entity_data b.model) (Parts.entity_data c.model) (length b.model.entities - 1) (length c.model.entities - 1) (list_same (Parts.upto (Parts.entity_data b.model) (length b.model.entities - 1)) (Parts.upto (Parts.entity_data c.model) (length c.model.entities - 1)) (ap (at 1) e))

      goals : (length b.model.goals ≡ length c.model.goals) × ((i : ℕ) → i < length b.model.goals → Parts.goal_data b.model i ≡ Parts.goal_data c.model i)
      goals = upto_same (Parts.goal_data b.model) (Parts.goal_data c.model) (length b.model.goals) (length c.model.goals) (list_same (Parts.upto (Parts.goal_data b.model) (length b.model.goals)) (Parts.upto (Parts.goal_data c.model) (length c.model.goals)) (ap (at 4) e))

      relations : (length b.model.relations ≡ length c.model.relations) × ((i : ℕ) → i < length b.model.relations → Description.relation_data b.model i ≡ Description.relation_data c.model i)
      relations = upto_same (Description.relation_data b.model) (Description.relation_data c.model) (length b.model.relations) (length c.model.relations) (list_same (Parts.upto (Description.relation_data b.model) (length b.model.relations)) (Parts.upto (Description.relation_data c.model) (length c.model.relations)) (ap (at 6) e))

      screens : (length b.model.screens ≡ length c.model.screens) × ((i : ℕ) → i < length b.model.screens → Parts.screen_data b.model i ≡ Parts.screen_data c.model i)
      screens = upto_same (Parts.screen_data b.model) (Parts.screen_data c.model) (length b.model.screens) (length c.model.screens) (list_same (Parts.upto (Parts.screen_data b.model) (length b.model.screens)) (Parts.upto (Parts.screen_data c.model) (length c.model.screens)) (ap (at 9) e))

      behind : (n : ℕ) (x : Entity) → entity_at b.model (Parts.entity (suc n)) ≡ Some x → n < length b.model.entities - 1
      behind n x h = omega (arith, slice_get_within b.model.entities (suc n) x h)

pub one_description : (b c : Rulebase) → Description.description b ≡ Description.description c → DeclareAlike b c
one_description b c e = alike b c (sym (opened b) ∙ e ∙ opened c)
