-- What is named is printed so.
use Rattle.std.proofs.Common.{◌≡◌, ℕ, zero, suc, ◌+◌, ◌<◌, ◌≤◌, List, [], ◌∷◌, ◌++◌, map, length, Bool, true, false, cond, Option, None, Some, refl, sym, ◌∙◌, ap, subst, append_assoc, arith}
use Rattle.std.specs.Prelude.{◌&&◌, codes, position, slice_get, unwrap_or}
use Rattle.std.specs.Option.{option_map, option_and_then}
use Rattle.std.specs.Str.{bytes_eq}
use Rattle.std.specs.List.{AllByRecursion}
use Rattle.std.specs.Fmt.{decimal}
use Rattle.std.proofs.lemmas.Bool.{and_parts}
use Rattle.std.proofs.lemmas.Option.{same_Some, cond_some}
use Rattle.opa_io.proofs.Characters.{same_bytes}
use Rattle.opa_io.proofs.Options.{cond_none_parts}
use Rattle.opa_date.specs.declared.TheConstants.{DAYS}
use Rattle.opa_date.specs.Texts.{day_text}
use Rattle.opa_value.specs.declared.value.Value.{Value}
use Rattle.opa_words.specs.Kinds.{quoted}
use Rattle.opa_model.specs.declared.ids.AttrId.{AttrId}
use Rattle.opa_model.specs.declared.ids.RelId.{RelId}
use Rattle.opa_model.specs.declared.lists.Lists.{Lists}
use Rattle.opa_model.specs.declared.things.Kind.{Kind}
use Rattle.opa_model.specs.Lookups.{attribute_named, relation_named, attribute_phrases, relation_phrases}
use Rattle.opa_model.specs.Models.{HasAttribute, HasRelation}
use Rattle.opa_model.proofs.PhrasesLaws.{position-found}
use Rattle.opa_case.specs.Shapes.{attribute_or, relation_or, no_attribute, no_relation}
use Rattle.opa_case.specs.Steps.{has_kind}
use Rattle.opa_cells.specs.declared.instance.InstanceId.{InstanceId}
use Rattle.opa_cells.specs.Instances.{is_same, global, named}
use Rattle.opa_cells.proofs.Orders.{same_is, same_itself}
use Rattle.opa_tree.specs.declared.rulebase.Rulebase.{Rulebase}
use Rattle.opa_tree.specs.Rules.{rule_of}
use Rattle.opa_text.specs.Points.{point_text, instance_part, names_text}
use Rattle.opa_text.specs.Texts.{value_text}
use Rattle.opa_report.specs.declared.lines.ReportLine.{ReportLine}
use Rattle.opa_report.specs.declared.lines.ReportLine.TheVariants as line
use Rattle.opa_report.specs.Text.Texts as told
use Rattle.opa_report.specs.Text.Texts.{IsPrintable, line_text, numbered, first_line}
use Rattle.opa_verify.specs.declared.spelling.printed.Spot.{Spot}
use Rattle.opa_verify.specs.declared.spelling.printed.Origin.{Origin}
use Rattle.opa_verify.specs.declared.spelling.printed.Printed.{Printed}
use Rattle.opa_verify.specs.declared.spelling.printed.Printed.TheVariants as printed
use Rattle.opa_verify.specs.Spelling.Dated.{IsDated}
use Rattle.opa_verify.specs.Spelling.Printed.{name_part, spot_text, origin_text, days_text, numbered_line, lines_text, end_line, head_line}
use Rattle.opa_verify.specs.Verdict.Naming.{instance_for, is_printed_so, point_line, point_at, list_at, member_line, asked_point, named_point, named_members, named_member, named_line, AreNamed}

-- ---- what is looked up

got : {X : Type 0} (f : X → List ℕ) (d : X) (xs : List X) (n : ℕ) (t : List ℕ) → slice_get (map f xs) n ≡ Some t → (f (unwrap_or (slice_get xs n) d) ≡ t) × (n < length xs)
got f d [] n t e = absurd (cc e)
got f d (x ∷ xs) zero t e = (same_Some (f x) t e, omega arith)
got f d (x ∷ xs) (suc n) t e = let rest = got f d xs n t e in (rest.0, omega (arith, rest.1))

module _ (m : Lists) where
  attribute_is : (t : List ℕ) (a : AttrId) → attribute_named m t ≡ Some a → ((attribute_or m a).phrase ≡ t) × HasAttribute m a
  attribute_is t a e = go (position (bytes_eq t) (attribute_phrases m)) refl e
    where
      go : (o : Option ℕ) → position (bytes_eq t) (attribute_phrases m) ≡ o → option_map (λ n. let x : AttrId = record { 0 = n } in x) o ≡ Some a → ((attribute_or m a).phrase ≡ t) × HasAttribute m a
      go None f g = absurd (cc g)
      go (Some n) f g =
          subst (λ (x : AttrId). ((attribute_or m x).phrase ≡ t) × HasAttribute m x) (same_Some (record { 0 = n }) a g)
          (got (λ x. x.phrase) no_attribute m.attributes n t (position-found t (attribute_phrases m) (Some n) (sym f)))

  relation_is : (t : List ℕ) (r : RelId) → relation_named m t ≡ Some r → ((relation_or m r).phrase ≡ t) × HasRelation m r
  relation_is t r e = go (position (bytes_eq t) (relation_phrases m)) refl e
    where
      go : (o : Option ℕ) → position (bytes_eq t) (relation_phrases m) ≡ o → option_map (λ n. let x : RelId = record { 0 = n } in x) o ≡ Some r → ((relation_or m r).phrase ≡ t) × HasRelation m r
      go None f g = absurd (cc g)
      go (Some n) f g =
          subst (λ (x : RelId). ((relation_or m x).phrase ≡ t) × HasRelation m x) (same_Some (record { 0 = n }) r g)
          (got (λ x. x.phrase) no_relation m.relations n t (position-found t (relation_phrases m) (Some n) (sym f)))

not_global : (e : ℕ) (n : List ℕ) → is_same (named (suc e) n) global ≡ false
not_global e n = go (is_same (named (suc e) n) global) refl
  where
    go : (b : Bool) → is_same (named (suc e) n) global ≡ b → is_same (named (suc e) n) global ≡ false
    go false h = h
    go true h = absurd (let q : suc e ≡ 0 = ap (λ (i : InstanceId). i.entity.0) (same_is (named (suc e) n) global h) in cc q)

-- the name of an instance is printed so
part_is : (e : ℕ) (name : Option (List ℕ)) (i : InstanceId) → instance_for e name ≡ Some i → instance_part i ≡ name_part name
part_is zero None i e = subst (λ (x : InstanceId). instance_part x ≡ []) (same_Some global i e) (ap (λ b. cond b [] (codes " of " ++ quoted [])) (same_itself global))
part_is zero (Some n) i e = absurd (cc e)
part_is (suc k) None i e = absurd (cc e)
part_is (suc k) (Some n) i e = subst (λ (x : InstanceId). instance_part x ≡ codes " of " ++ quoted n) (same_Some (named (suc k) n) i e) (ap (λ b. cond b [] (codes " of " ++ quoted n)) (not_global k n))

spot_is : (p : Spot) (phrase : List ℕ) (e : ℕ) (i : InstanceId) → phrase ≡ p.phrase → instance_for e p.name ≡ Some i → point_text phrase i ≡ spot_text p
spot_is p phrase e i q f = ap (λ t. t ++ instance_part i) q ∙ ap (λ t. p.phrase ++ t) (part_is e p.name i f)

-- steps that all found something
found_both : {X Y : Type 0} (f : X → Option Y) (o : Option X) (y : Y) → option_and_then f o ≡ Some y → (x : X) × ((o ≡ Some x) × (f x ≡ Some y))
found_both f None y e = absurd (cc e)
found_both f (Some x) y e = (x, (refl, e))

found_map : {X Y : Type 0} (f : X → Y) (o : Option X) (y : Y) → option_map f o ≡ Some y → (x : X) × ((o ≡ Some x) × (f x ≡ y))
found_map f None y e = absurd (cc e)
found_map f (Some x) y e = (x, (refl, same_Some (f x) y e))

-- the text of a line, and that it can be printed
abbrev pub IsLine : Rulebase → Printed → ReportLine → Type 0
IsLine b x l = ((n : ℕ) → line_text b n l ≡ numbered_line n x) × IsPrintable b.model l

module _ (b : Rulebase) where
  pub asked_is : (p : Spot) (a : AttrId) (i : InstanceId) → asked_point b p ≡ Some (a, i) → (point_text (attribute_or b.model a).phrase i ≡ spot_text p) × HasAttribute b.model a
  asked_is p a i e =
      let one = found_both (λ c. option_map (λ j. (c, j)) (point_at b.model c p)) (attribute_named b.model p.phrase) (a, i) e in
      let two = found_map (λ j. (one.0, j)) (point_at b.model one.0 p) (a, i) one.1.1 in
      let attr : one.0 ≡ a = ap (λ (x : AttrId × InstanceId). x.0) two.1.1 in
      let inst : two.0 ≡ i = ap (λ (x : AttrId × InstanceId). x.1) two.1.1 in
      let is = attribute_is b.model p.phrase one.0 one.1.0 in
      subst (λ (c : AttrId). (point_text (attribute_or b.model c).phrase i ≡ spot_text p) × HasAttribute b.model c) attr
      (subst (λ (j : InstanceId). (point_text (attribute_or b.model one.0).phrase j ≡ spot_text p) × HasAttribute b.model one.0) inst
      (spot_is p (attribute_or b.model one.0).phrase (attribute_or b.model one.0).entity.0 two.0 is.0 two.1.0, is.1))

  point_is : (p : Spot) (s t : ℕ) (k : Kind) (v : Value) (o : Origin) (l : ReportLine) → IsDated (printed.Point p s t k v o) → named_point b p s t k v o ≡ Some l → IsLine b (printed.Point p s t k v o) l
  point_is p s t k v o l d e =
      let one = found_both (λ x. point_line b x.0 x.1 s t k v o) (asked_point b p) l e in
      let a = one.0.0 in let i = one.0.1 in
      let asked = asked_is p a i one.1.0 in
      let two = cond_some (is_printed_so b a k v o) (line.Point a i s t v) l one.1.1 in
      let own = has_kind (attribute_or b.model a).kind v in
      let shown = bytes_eq (value_text (attribute_or b.model a).kind v) (value_text k v) in
      let both = and_parts (own && shown) (bytes_eq (told.origin_text b.files (rule_of b.rules a) v) (origin_text o)) two.0 in
      let value = same_bytes (value_text (attribute_or b.model a).kind v) (value_text k v) (and_parts own shown both.0).1 in
      let place = same_bytes (told.origin_text b.files (rule_of b.rules a) v) (origin_text o) both.1 in
      subst (IsLine b (printed.Point p s t k v o)) two.1 (
        λ n. ap (λ x. decimal n ++ (codes " " ++ ((x ++ (codes ", " ++ (days_text s t ++ (codes ": " ++ (value_text (attribute_or b.model a).kind v ++ (codes ", " ++ told.origin_text b.files (rule_of b.rules a) v)))))) ++ 10 ∷ []))) asked.0
            ∙ ap (λ x. decimal n ++ (codes " " ++ ((spot_text p ++ (codes ", " ++ (days_text s t ++ (codes ": " ++ (x ++ (codes ", " ++ told.origin_text b.files (rule_of b.rules a) v)))))) ++ 10 ∷ []))) value
            ∙ ap (λ x. decimal n ++ (codes " " ++ ((spot_text p ++ (codes ", " ++ (days_text s t ++ (codes ": " ++ (value_text k v ++ (codes ", " ++ x)))))) ++ 10 ∷ []))) place,
        (asked.1, (omega (arith, d.0, d.1.0), (d.1.0, d.1.1))),
      )

  -- a line of names behind a colon
  pub listed_is : (n : ℕ) (front p point more : List ℕ) → point ≡ p → decimal n ++ (32 ∷ front ++ (point ++ (codes ": " ++ (more ++ 10 ∷ [])))) ≡ decimal n ++ (codes " " ++ ((front ++ (p ++ (codes ": " ++ more))) ++ 10 ∷ []))
  listed_is n front p point more e =
      ap (λ x. decimal n ++ (32 ∷ front ++ (x ++ (codes ": " ++ (more ++ 10 ∷ []))))) e
      ∙ ap (λ x. decimal n ++ 32 ∷ x) (ap (λ x. front ++ x) (sym (append_assoc p (codes ": " ++ more) (10 ∷ []))) ∙ sym (append_assoc front (p ++ (codes ": " ++ more)) (10 ∷ [])))

  members_is : (p : Spot) (names : Option (List (List ℕ))) (l : ReportLine) → named_members b.model p names ≡ Some l → IsLine b (printed.Members p names) l
  members_is p names l e =
      let one = found_both (λ r. option_map (λ i. line.Members r i names) (list_at b.model r p)) (relation_named b.model p.phrase) l e in
      let two = found_map (λ i. line.Members one.0 i names) (list_at b.model one.0 p) l one.1.1 in
      let is = relation_is b.model p.phrase one.0 one.1.0 in
      subst (IsLine b (printed.Members p names)) two.1.1 (
        λ n. listed_is n (codes "list ") (spot_text p) (point_text (relation_or b.model one.0).phrase two.0) (names_text names) (spot_is p (relation_or b.model one.0).phrase (relation_or b.model one.0).source.0 two.0 is.0 two.1.0),
        is.1,
      )

  member_is : (p : Spot) (name : List ℕ) (l : ReportLine) → named_member b.model p name ≡ Some l → IsLine b (printed.Member p name) l
  member_is p name l e =
      let one = found_both (λ r. member_line b.model r p name) (relation_named b.model p.phrase) l e in
      let r = one.0 in
      let two = cond_none_parts (relation_or b.model r).contains (option_map (λ k. line.Member r k (named (relation_or b.model r).target.0 name)) (list_at b.model r p)) l one.1.1 in
      let three = found_map (λ k. line.Member r k (named (relation_or b.model r).target.0 name)) (list_at b.model r p) l two.1 in
      let is = relation_is b.model p.phrase r one.1.0 in
      subst (IsLine b (printed.Member p name)) three.1.1 (
        λ n. listed_is n (codes "member ") (spot_text p) (point_text (relation_or b.model r).phrase three.0) (quoted name) (spot_is p (relation_or b.model r).phrase (relation_or b.model r).source.0 three.0 is.0 three.1.0),
        is.1,
      )

  line_is : (x : Printed) (l : ReportLine) → IsDated x → named_line b x ≡ Some l → IsLine b x l
  line_is (printed.Point p s t k v o) l d e = point_is p s t k v o l d e
  line_is (printed.Members p names) l d e = members_is p names l e
  line_is (printed.Member p n) l d e = member_is p n l e

  pub lines_are : (xs : List Printed) (ls : List ReportLine) (n : ℕ) → AllByRecursion IsDated xs → AreNamed b xs ls → (numbered b n ls ≡ lines_text n xs ++ end_line) × AllByRecursion (IsPrintable b.model) ls
  lines_are [] [] n d h = (refl, tt)
  lines_are [] (l ∷ ls) n d h = absurd h
  lines_are (x ∷ xs) [] n d h = absurd h
  lines_are (x ∷ xs) (l ∷ ls) n d h =
      let one = line_is x l d.0 h.0 in let rest = lines_are xs ls (n + 1) d.1 h.1 in (
        ap (λ t. t ++ numbered b (n + 1) ls) (one.0 n) ∙ ap (λ t. numbered_line n x ++ t) rest.0 ∙ sym (append_assoc (numbered_line n x) (lines_text (n + 1) xs) end_line),
        (one.1, rest.1),
      )

  pub head_is : (p : Spot) (a : AttrId) (i : InstanceId) (d : ℕ) → asked_point b p ≡ Some (a, i) → first_line (attribute_or b.model a).phrase i d ≡ head_line p d
  head_is p a i d e = ap (λ x. codes "report " ++ (x ++ (codes " at " ++ (day_text d ++ 10 ∷ [])))) (asked_is p a i e).0

-- the days of a named line are those that are printed
pub line_days : (b : Rulebase) (x : Printed) (a : AttrId) (i : InstanceId) (s t : ℕ) (v : Value) → IsDated x → named_line b x ≡ Some (line.Point a i s t v) → (s ≤ t) × (t < DAYS)
line_days b (printed.Point p s' t' k v' o) a i s t v d e =
    let one = found_both (λ x. point_line b x.0 x.1 s' t' k v' o) (asked_point b p) (line.Point a i s t v) e in
    let two = cond_some (is_printed_so b one.0.0 k v' o) (line.Point one.0.0 one.0.1 s' t' v') (line.Point a i s t v) one.1.1 in
    let first : s' ≡ s = cc two.1 in let last : t' ≡ t = cc two.1 in
    subst (λ (n : ℕ). (n ≤ t) × (t < DAYS)) first (subst (λ (n : ℕ). (s' ≤ n) × (n < DAYS)) last (d.0, d.1.0))
line_days b (printed.Members p names) a i s t v d e =
    let one = found_both (λ r. option_map (λ j. line.Members r j names) (list_at b.model r p)) (relation_named b.model p.phrase) (line.Point a i s t v) e in
    let two = found_map (λ j. line.Members one.0 j names) (list_at b.model one.0 p) (line.Point a i s t v) one.1.1 in
    absurd (cc two.1.1)
line_days b (printed.Member p n) a i s t v d e =
    let one = found_both (λ r. member_line b.model r p n) (relation_named b.model p.phrase) (line.Point a i s t v) e in
    let r = one.0 in
    let two = cond_none_parts (relation_or b.model r).contains (option_map (λ k. line.Member r k (named (relation_or b.model r).target.0 n)) (list_at b.model r p)) (line.Point a i s t v) one.1.1 in
    let three = found_map (λ k. line.Member r k (named (relation_or b.model r).target.0 n)) (list_at b.model r p) (line.Point a i s t v) two.1 in
    absurd (cc three.1.1)
