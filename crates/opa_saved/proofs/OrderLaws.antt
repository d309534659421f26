-- The order of entries doesn't matter.
use Rattle.std.proofs.Common.{◌≡◌, ◌<◌, ◌==◌, ℕ, zero, suc, Bool, true, false, cond, List, [], ◌∷◌, ◌++◌, length, map, arith, refl, sym, ap, subst, ◌∙◌, ◌⊎◌, inl, inr}
use Rattle.std.specs.Prelude.{Option, None, Some, codes, flat_map, option_to_list, slice_index_or, slice_get, position, not, ◌||◌}
use Rattle.std.specs.List.{list_any, Contains}
use Rattle.std.specs.Option.{option_map, option_and_then}
use Rattle.std.specs.FinMap.{FinMap, get, insert, empty, same_map, get-insert, get-empty}
use Rattle.std.specs.Ordering.{eq_by_cmp}
use Rattle.std.specs.Cmp.{eq_by_cmp_equiv}
use Rattle.std.specs.Str.{bytes_eq}
use Rattle.std.proofs.lemmas.Bool.{and_parts}
use Rattle.std.proofs.lemmas.List.Folds.{list_any-append}
use Rattle.std.proofs.lemmas.Map.Views.{tells_apart}
use mathlib.Core.Bool.{true≢false}
use Rattle.serde_json.specs.Data.{Data}
use Rattle.serde_json.specs.Find.{get as find_in}
use Rattle.opa_io.proofs.Options.{bound_parts, mapped_parts}
use Rattle.opa_model.specs.declared.ids.AttrId.{AttrId}
use Rattle.opa_model.specs.declared.ids.RelId.{RelId}
use Rattle.opa_model.specs.declared.lists.Lists.{Lists}
use Rattle.opa_model.specs.Lookups.{attribute_named, relation_named, attribute_phrases, relation_phrases}
use Rattle.opa_model.proofs.PhrasesLaws.{position-found}
use Rattle.opa_cells.specs.declared.instance.InstanceId.{InstanceId}
use Rattle.opa_cells.specs.Keys.{cell_cmp}
use Rattle.opa_cells.proofs.Orders.{cell_exact, cell_total}
use Rattle.opa_case.specs.declared.change.Refusal.{Refusal}
use Rattle.opa_case.specs.Refusals.{number_of}
use Rattle.opa_case.specs.Cases.{Answer, stored}
use Rattle.opa_case.specs.Live.{Names, Population, live_of}
use Rattle.opa_case.specs.Shapes.{shape_of}
use Rattle.opa_case.specs.Steps.{is_unknown_answer}
use Rattle.opa_saved.specs.declared.entries.AnswerEntry.{AnswerEntry}
use Rattle.opa_saved.specs.declared.entries.ListEntry.{ListEntry}
use Rattle.opa_saved.specs.declared.entries.Point.{Point}
use Rattle.opa_saved.specs.declared.entries.Version.{Version}
use Rattle.opa_saved.specs.declared.fault.LoadFault.TheVariants as fault
use Rattle.opa_saved.specs.Forms.{is_point, differ, answer_points, list_points, each, items_in, member_in, answer_in, list_in, answers_apart, lists_apart, answers_in, lists_in, says_format, version_in, File, file_at, file_of, file_in}
use Rattle.opa_saved.specs.Loading.{case_with, case_of, live_in, list_instance, answer_instance, put_list, put_lists, put_answer, put_answers, lists_of_file, answers_of_file, list_refusal, answer_refusal, full_refusal, over_refusal, list_refusals, answer_refusals, refusals_of, has_number, least_of}
use Rattle.opa_saved.specs.LoadLaws.{AreSame, AnyOrder, ReadApart}
use Rattle.opa_saved.proofs.HomeLaws.{point_total}
use Rattle.opa_saved.proofs.MapEntries.{Has}

-- ---- what stands in a list

has_of : {E : Type 0} (e : E) (es : List E) → Contains es e → Has e es
unfolding Has
has_of e [] h = absurd (omega (arith, h.1))
has_of e (x ∷ xs) h = go h.0 h.1 h.2 (λ k. has_of e xs k)
  where
    go : (k : ℕ) → k < suc (length xs) → slice_index_or (x ∷ xs) k e ≡ e → (Contains xs e → Has e xs) → (x ≡ e) ⊎ Has e xs
    go zero lt at rest = inl at
    go (suc k) lt at rest = inr (rest (k, omega (arith, lt), at))

of_has : {E : Type 0} (e : E) (es : List E) → Has e es → Contains es e
unfolding Has
of_has e [] h = absurd h
of_has e (x ∷ xs) (inl h) = (0, omega arith, h)
of_has e (x ∷ xs) (inr h) = let r = of_has e xs h in (suc r.0, omega (arith, r.1), r.2)

any_has : {E : Type 0} (p : E → Bool) (es : List E) → list_any p es ≡ true → (e : E) × Has e es × (p e ≡ true)
unfolding Has
any_has {E} p [] h = absurd (true≢false (sym h))
any_has {E} p (x ∷ xs) h = go (p x) refl h (λ g. any_has p xs g)
  where
    go : (b : Bool) → p x ≡ b → (b || list_any p xs) ≡ true → (list_any p xs ≡ true → (e : E) × Has e xs × (p e ≡ true)) → (e : E) × ((x ≡ e) ⊎ Has e xs) × (p e ≡ true)
    go true e g rest = (x, inl refl, e)
    go false e g rest = let r = rest g in (r.0, inr r.1, r.2)

has_any : {E : Type 0} (p : E → Bool) (e : E) (es : List E) → Has e es → p e ≡ true → list_any p es ≡ true
unfolding Has
has_any p e [] h g = absurd h
has_any p e (x ∷ xs) (inl h) g = ap (λ b. b || list_any p xs) (ap p h ∙ g)
has_any p e (x ∷ xs) (inr h) g = later (p x) (list_any p xs) (has_any p e xs h g)
  where
    later : (a b : Bool) → b ≡ true → (a || b) ≡ true
    later true b e = refl
    later false b e = e

-- lists with the same elements
abbrev Same : {E : Type 0} → List E → List E → Type 0
Same {E} xs ys = (e : E) → (Has e xs → Has e ys) × (Has e ys → Has e xs)

same_of : {E : Type 0} (xs ys : List E) → AreSame xs ys → Same xs ys
same_of xs ys h e = (λ k. has_of e ys ((h e).0 (of_has e xs k)), λ k. has_of e xs ((h e).1 (of_has e ys k)))

same_any : {E : Type 0} (p : E → Bool) (xs ys : List E) → Same xs ys → list_any p xs ≡ list_any p ys
same_any p xs ys h = go (list_any p xs) refl (list_any p ys) refl
  where
    go : (a : Bool) → list_any p xs ≡ a → (b : Bool) → list_any p ys ≡ b → a ≡ b
    go true e true f = refl
    go false e false f = refl
    go true e false f = absurd (let r = any_has p xs e in true≢false (sym (has_any p r.0 ys ((h r.0).0 r.1) r.2) ∙ f))
    go false e true f = absurd (let r = any_has p ys f in true≢false (sym (has_any p r.0 xs ((h r.0).1 r.1) r.2) ∙ e))

-- ---- entries with keys

module _ {E V : Type 0} (point : E → Point) (key : E → Option (ℕ × InstanceId)) (value : E → V) (one : (e f : E) (k : ℕ × InstanceId) → key e ≡ Some k → key f ≡ Some k → point e ≡ point f) where
  put_key : FinMap cell_cmp V → Option (ℕ × InstanceId) → V → FinMap cell_cmp V
  put_key before None v = before
  put_key before (Some k) v = insert before k v

  put_all : FinMap cell_cmp V → List E → FinMap cell_cmp V
  put_all before [] = before
  put_all before (e ∷ es) = put_all (put_key before (key e) (value e)) es

  abbrev Apart : List E → Type 0
  Apart es = differ (map point es) ≡ true

  point_itself : (p : Point) → is_point p p ≡ true
  point_itself p = (eq_by_cmp_equiv point_total).refl p

  -- a point that is among none of these
  none_there : (e : E) (es : List E) → list_any (is_point (point e)) (map point es) ≡ false → (f : E) → Has f es → point e ≡ point f → ⊥
  unfolding Has
  none_there e [] h f g same = absurd g
  none_there e (x ∷ xs) h f (inl g) same = true≢false (sym (is_here (is_point (point e) (point x)) (list_any (is_point (point e)) (map point xs)) (subst (λ q. is_point (point e) q ≡ true) (same ∙ ap point (sym g)) (point_itself (point e)))) ∙ h)
    where
      is_here : (a b : Bool) → a ≡ true → (a || b) ≡ true
      is_here true b k = refl
      is_here false b k = absurd (true≢false (sym k))
  none_there e (x ∷ xs) h f (inr g) same = none_there e xs (rest (is_point (point e) (point x)) (list_any (is_point (point e)) (map point xs)) h) f g same
    where
      rest : (a b : Bool) → (a || b) ≡ false → b ≡ false
      rest true b k = absurd (true≢false k)
      rest false b k = k

  apart_parts : (e : E) (es : List E) → Apart (e ∷ es) → (list_any (is_point (point e)) (map point es) ≡ false) × Apart es
  apart_parts e es h = let a = and_parts (not (list_any (is_point (point e)) (map point es))) (differ (map point es)) h in (turned (list_any (is_point (point e)) (map point es)) a.0, a.1)
    where
      turned : (b : Bool) → not b ≡ true → b ≡ false
      turned true k = absurd (true≢false (sym k))
      turned false k = refl

  at_key : (before : FinMap cell_cmp V) (o : Option (ℕ × InstanceId)) (v : V) (k : ℕ × InstanceId) → (o ≡ Some k → ⊥) → get (put_key before o v) k ≡ get before k
  unfolding put_key
  at_key before None v k h = refl
  at_key before (Some j) v k h = get-insert cell_total before j v k ∙ go (eq_by_cmp cell_cmp k j) refl
    where
      go : (b : Bool) → eq_by_cmp cell_cmp k j ≡ b → cond b (Some v) (get before k) ≡ get before k
      go true e = absurd (h (ap Some (sym (tells_apart cell_exact k j e))))
      go false e = refl

  -- entries of other keys leave what there is
  untouched : (before : FinMap cell_cmp V) (es : List E) (k : ℕ × InstanceId) → ((f : E) → Has f es → key f ≡ Some k → ⊥) → get (put_all before es) k ≡ get before k
  unfolding put_all Has
  untouched before [] k h = refl
  untouched before (e ∷ es) k h = untouched (put_key before (key e) (value e)) es k (λ f g. h f (inr g)) ∙ at_key before (key e) (value e) k (h e (inl refl))

  -- what is put in is there
  found : (before : FinMap cell_cmp V) (es : List E) → Apart es → (e : E) (k : ℕ × InstanceId) → Has e es → key e ≡ Some k → get (put_all before es) k ≡ Some (value e)
  unfolding put_all put_key Has
  found before [] a e k h is = absurd h
  found before (x ∷ xs) a e k (inl h) is =
      let p = apart_parts x xs a in
      untouched (put_key before (key x) (value x)) xs k (λ f g same. none_there x xs p.0 f g (one x f k (ap key h ∙ is) same))
      ∙ ap (λ o. get (put_key before o (value x)) k) (ap key h ∙ is) ∙ get-insert cell_total before k (value x) k ∙ ap (λ b. cond b (Some (value x)) (get before k)) ((eq_by_cmp_equiv cell_total).refl k) ∙ ap (λ y. Some (value y)) h
  found before (x ∷ xs) a e k (inr h) is = found (put_key before (key x) (value x)) xs (apart_parts x xs a).1 e k h is

  -- what is there was put in
  comes : (before : FinMap cell_cmp V) (es : List E) (k : ℕ × InstanceId) (v : V) → get (put_all before es) k ≡ Some v → ((e : E) × Has e es × (key e ≡ Some k)) ⊎ (get before k ≡ Some v)
  unfolding put_all put_key Has
  comes before [] k v h = inr h
  comes before (x ∷ xs) k v h = go (comes (put_key before (key x) (value x)) xs k v h) (key x) refl
    where
      last : (o : Option (ℕ × InstanceId)) → key x ≡ o → get (put_key before o (value x)) k ≡ Some v → ((e : E) × ((x ≡ e) ⊎ Has e xs) × (key e ≡ Some k)) ⊎ (get before k ≡ Some v)
      last None e g = inr g
      last (Some j) e g = decide (eq_by_cmp cell_cmp k j) refl (sym (get-insert cell_total before j (value x) k) ∙ g)
        where
          decide : (b : Bool) → eq_by_cmp cell_cmp k j ≡ b → cond b (Some (value x)) (get before k) ≡ Some v → ((f : E) × ((x ≡ f) ⊎ Has f xs) × (key f ≡ Some k)) ⊎ (get before k ≡ Some v)
          decide true t q = inl (x, inl refl, e ∙ ap Some (sym (tells_apart cell_exact k j t)))
          decide false t q = inr q

      go : ((e : E) × Has e xs × (key e ≡ Some k)) ⊎ (get (put_key before (key x) (value x)) k ≡ Some v) → (o : Option (ℕ × InstanceId)) → key x ≡ o → ((e : E) × ((x ≡ e) ⊎ Has e xs) × (key e ≡ Some k)) ⊎ (get before k ≡ Some v)
      go (inl r) o e = inl (r.0, inr r.1, r.2)
      go (inr g) o e = last o e (ap (λ p. get (put_key before p (value x)) k) (sym e) ∙ g)

  same_put : (xs ys : List E) → Apart xs → Apart ys → Same xs ys → put_all empty xs ≡ put_all empty ys
  same_put xs ys a b h = same_map cell_total cell_exact (put_all empty xs) (put_all empty ys) (λ k. go k (get (put_all empty xs) k) refl (get (put_all empty ys) k) refl)
    where
      one_way : (us ws : List E) → Apart ws → ((e : E) → Has e us → Has e ws) → Apart us → (k : ℕ × InstanceId) (v : V) → get (put_all empty us) k ≡ Some v → get (put_all empty ws) k ≡ Some v
      one_way us ws c sub d k v g = settle (comes empty us k v g)
        where
          settle : ((e : E) × Has e us × (key e ≡ Some k)) ⊎ (get (empty {X = V} {R = cell_cmp}) k ≡ Some v) → get (put_all empty ws) k ≡ Some v
          settle (inl r) = found empty ws c r.0 k (sub r.0 r.1) r.2 ∙ sym (found empty us d r.0 k r.1 r.2) ∙ g
          settle (inr n) = absurd (let e : ◌≡◌ {A = Option V} None (Some v) = sym (get-empty cell_cmp k) ∙ n in cc e)

      go : (k : ℕ × InstanceId) (o : Option V) → get (put_all empty xs) k ≡ o → (p : Option V) → get (put_all empty ys) k ≡ p → get (put_all empty xs) k ≡ get (put_all empty ys) k
      go k (Some v) e p f = e ∙ sym (one_way xs ys b (λ x. (h x).0) a k v e)
      go k None e None f = e ∙ sym f
      go k None e (Some v) f = absurd (let g : ◌≡◌ {A = Option V} None (Some v) = sym e ∙ one_way ys xs a (λ x. (h x).1) b k v f in cc g)

-- ---- lists and answers

module _ (m : Lists) where
  phrase_found : (ps : List (List ℕ)) (t : List ℕ) (n : ℕ) → position (bytes_eq t) ps ≡ Some n → slice_get ps n ≡ Some t
  phrase_found ps t n e = position-found t ps (Some n) (sym e)

  some_one : {A : Type 0} (o : Option A) (x y : A) → o ≡ Some x → o ≡ Some y → x ≡ y
  some_one {A} o x y e f = some_of x y (sym e ∙ f)
    where
      some_of : (a b : A) → Some a ≡ Some b → a ≡ b
      some_of a b e = cc e

  list_key_of : Option RelId → List ℕ → Option (ℕ × InstanceId)
  list_key_of None name = None
  list_key_of (Some r) name = Some (r.0, list_instance m r name)

  list_key : ListEntry → Option (ℕ × InstanceId)
  list_key e = list_key_of (relation_named m e.point.phrase) e.point.name

  answer_key_of : Option AttrId → Bool → List ℕ → Option (ℕ × InstanceId)
  answer_key_of None b name = None
  answer_key_of (Some a) true name = None
  answer_key_of (Some a) false name = Some (a.0, answer_instance m a name)

  answer_key : AnswerEntry → Option (ℕ × InstanceId)
  answer_key e = answer_key_of (attribute_named m e.point.phrase) (is_unknown_answer e.line) e.point.name

  -- a key tells the phrase's number and the name
  list_tells : (o : Option RelId) (name : List ℕ) (k : ℕ × InstanceId) → list_key_of o name ≡ Some k → (r : RelId) × (o ≡ Some r) × (r.0 ≡ k.0) × (name ≡ k.1.name)
  unfolding list_key_of
  list_tells None name k h = absurd (cc h)
  list_tells (Some r) name k h = let e : (r.0, list_instance m r name) ≡ k = same _ _ h in (r, refl, ap (λ (x : ℕ × InstanceId). x.0) e, ap (λ (x : ℕ × InstanceId). x.1.name) e)
    where
      same : (x y : ℕ × InstanceId) → Some x ≡ Some y → x ≡ y
      same x y e = cc e

  answer_tells : (o : Option AttrId) (b : Bool) (name : List ℕ) (k : ℕ × InstanceId) → answer_key_of o b name ≡ Some k → (a : AttrId) × (o ≡ Some a) × (a.0 ≡ k.0) × (name ≡ k.1.name)
  unfolding answer_key_of
  answer_tells None b name k h = absurd (cc h)
  answer_tells (Some a) true name k h = absurd (cc h)
  answer_tells (Some a) false name k h = let e : (a.0, answer_instance m a name) ≡ k = same _ _ h in (a, refl, ap (λ (x : ℕ × InstanceId). x.0) e, ap (λ (x : ℕ × InstanceId). x.1.name) e)
    where
      same : (x y : ℕ × InstanceId) → Some x ≡ Some y → x ≡ y
      same x y e = cc e

  relation_phrase : (t : List ℕ) (r : RelId) → relation_named m t ≡ Some r → slice_get (relation_phrases m) r.0 ≡ Some t
  relation_phrase t r e = go (position (bytes_eq t) (relation_phrases m)) refl e
    where
      go : (o : Option ℕ) → position (bytes_eq t) (relation_phrases m) ≡ o → option_map (λ n. let x : RelId = record { 0 = n } in x) o ≡ Some r → slice_get (relation_phrases m) r.0 ≡ Some t
      go None f g = absurd (cc g)
      go (Some n) f g = subst (λ (x : RelId). slice_get (relation_phrases m) x.0 ≡ Some t) (same _ r g) (phrase_found (relation_phrases m) t n f)
        where
          same : (x y : RelId) → Some x ≡ Some y → x ≡ y
          same x y e = cc e

  attribute_phrase : (t : List ℕ) (a : AttrId) → attribute_named m t ≡ Some a → slice_get (attribute_phrases m) a.0 ≡ Some t
  attribute_phrase t a e = go (position (bytes_eq t) (attribute_phrases m)) refl e
    where
      go : (o : Option ℕ) → position (bytes_eq t) (attribute_phrases m) ≡ o → option_map (λ n. let x : AttrId = record { 0 = n } in x) o ≡ Some a → slice_get (attribute_phrases m) a.0 ≡ Some t
      go None f g = absurd (cc g)
      go (Some n) f g = subst (λ (x : AttrId). slice_get (attribute_phrases m) x.0 ≡ Some t) (same _ a g) (phrase_found (attribute_phrases m) t n f)
        where
          same : (x y : AttrId) → Some x ≡ Some y → x ≡ y
          same x y e = cc e

  same_point : (p q : Point) → p.phrase ≡ q.phrase → p.name ≡ q.name → p ≡ q
  same_point p q e f k = record { phrase = e k; name = f k }

  list_one : (e f : ListEntry) (k : ℕ × InstanceId) → list_key e ≡ Some k → list_key f ≡ Some k → e.point ≡ f.point
  unfolding list_key
  list_one e f k h g =
      let a = list_tells (relation_named m e.point.phrase) e.point.name k h in
      let b = list_tells (relation_named m f.point.phrase) f.point.name k g in
      let at : slice_get (relation_phrases m) b.0.0 ≡ Some e.point.phrase = ap (slice_get (relation_phrases m)) (b.2 ∙ sym a.2) ∙ relation_phrase e.point.phrase a.0 a.1 in
      same_point e.point f.point (some_one (slice_get (relation_phrases m) b.0.0) e.point.phrase f.point.phrase at (relation_phrase f.point.phrase b.0 b.1)) (a.3 ∙ sym b.3)

  answer_one : (e f : AnswerEntry) (k : ℕ × InstanceId) → answer_key e ≡ Some k → answer_key f ≡ Some k → e.point ≡ f.point
  unfolding answer_key
  answer_one e f k h g =
      let a = answer_tells (attribute_named m e.point.phrase) (is_unknown_answer e.line) e.point.name k h in
      let b = answer_tells (attribute_named m f.point.phrase) (is_unknown_answer f.line) f.point.name k g in
      let at : slice_get (attribute_phrases m) b.0.0 ≡ Some e.point.phrase = ap (slice_get (attribute_phrases m)) (b.2 ∙ sym a.2) ∙ attribute_phrase e.point.phrase a.0 a.1 in
      same_point e.point f.point (some_one (slice_get (attribute_phrases m) b.0.0) e.point.phrase f.point.phrase at (attribute_phrase f.point.phrase b.0 b.1)) (a.3 ∙ sym b.3)

  abbrev all_lists : FinMap cell_cmp Names → List ListEntry → FinMap cell_cmp Names
  all_lists = put_all (λ (e : ListEntry). e.point) list_key (λ (e : ListEntry). e.names) list_one

  abbrev all_answers : FinMap cell_cmp Answer → List AnswerEntry → FinMap cell_cmp Answer
  all_answers = put_all (λ (e : AnswerEntry). e.point) answer_key (λ (e : AnswerEntry). e.line) answer_one

  lists_are : (before : FinMap cell_cmp Names) (es : List ListEntry) → put_lists m before es ≡ all_lists before es
  unfolding put_all put_key list_key list_key_of
  lists_are before [] = refl
  lists_are before (e ∷ es) = go (relation_named m e.point.phrase) (λ b. lists_are b es)
    where
      go : (o : Option RelId) → ((b : FinMap cell_cmp Names) → put_lists m b es ≡ all_lists b es) → put_lists m (put_list m before o e) es ≡ all_lists (put_key (λ (x : ListEntry). x.point) list_key (λ (x : ListEntry). x.names) list_one before (list_key_of o e.point.name) e.names) es
      go None rest = rest before
      go (Some r) rest = rest (insert before (r.0, list_instance m r e.point.name) e.names)

  answers_are : (before : FinMap cell_cmp Answer) (es : List AnswerEntry) → put_answers m before es ≡ all_answers before es
  unfolding put_all put_key answer_key answer_key_of
  answers_are before [] = refl
  answers_are before (e ∷ es) = go (attribute_named m e.point.phrase) (is_unknown_answer e.line) (λ b. answers_are b es)
    where
      abbrev_put : Option AttrId → Bool → FinMap cell_cmp Answer
      abbrev_put None b = before
      abbrev_put (Some a) b = cond b before (insert before (a.0, answer_instance m a e.point.name) e.line)

      same : (o : Option AttrId) → put_answer m before o e ≡ abbrev_put o (is_unknown_answer e.line)
      same None = refl
      same (Some a) = refl

      turn : (o : Option AttrId) (b : Bool) → abbrev_put o b ≡ put_key (λ (x : AnswerEntry). x.point) answer_key (λ (x : AnswerEntry). x.line) answer_one before (answer_key_of o b e.point.name) e.line
      turn None b = refl
      turn (Some a) true = refl
      turn (Some a) false = refl

      go : (o : Option AttrId) (b : Bool) → ((c : FinMap cell_cmp Answer) → put_answers m c es ≡ all_answers c es) → put_answers m (put_answer m before (attribute_named m e.point.phrase) e) es ≡ all_answers (put_key (λ (x : AnswerEntry). x.point) answer_key (λ (x : AnswerEntry). x.line) answer_one before (answer_key_of (attribute_named m e.point.phrase) (is_unknown_answer e.line) e.point.name) e.line) es
      go o b rest = ap (λ c. put_answers m c es) (same (attribute_named m e.point.phrase) ∙ turn (attribute_named m e.point.phrase) (is_unknown_answer e.line)) ∙ rest (put_key (λ (x : AnswerEntry). x.point) answer_key (λ (x : AnswerEntry). x.line) answer_one before (answer_key_of (attribute_named m e.point.phrase) (is_unknown_answer e.line) e.point.name) e.line)

  same_lists : (xs ys : List ListEntry) → differ (list_points xs) ≡ true → differ (list_points ys) ≡ true → Same xs ys → lists_of_file m xs ≡ lists_of_file m ys
  unfolding lists_of_file
  same_lists xs ys a b h = lists_are empty xs ∙ same_put (λ (e : ListEntry). e.point) list_key (λ (e : ListEntry). e.names) list_one xs ys a b h ∙ sym (lists_are empty ys)

  same_answers : (xs ys : List AnswerEntry) → differ (answer_points xs) ≡ true → differ (answer_points ys) ≡ true → Same xs ys → answers_of_file m xs ≡ answers_of_file m ys
  unfolding answers_of_file
  same_answers xs ys a b h = answers_are empty xs ∙ same_put (λ (e : AnswerEntry). e.point) answer_key (λ (e : AnswerEntry). e.line) answer_one xs ys a b h ∙ sym (answers_are empty ys)

-- ---- refusals

flat_any : {E : Type 0} (p : Refusal → Bool) (f : E → List Refusal) (es : List E) → list_any p (flat_map f es) ≡ list_any (λ e. list_any p (f e)) es
flat_any p f [] = refl
flat_any p f (e ∷ es) = list_any-append p (f e) (flat_map f es) ∙ ap (λ b. list_any p (f e) || b) (flat_any p f es)

same_flat : {E : Type 0} (p : Refusal → Bool) (f : E → List Refusal) (xs ys : List E) → Same xs ys → list_any p (flat_map f xs) ≡ list_any p (flat_map f ys)
same_flat p f xs ys h = flat_any p f xs ∙ same_any (λ e. list_any p (f e)) xs ys h ∙ sym (flat_any p f ys)

module _ (m : Lists) (ruled : List Bool) (f g : File) (lists : lists_of_file m f.lists ≡ lists_of_file m g.lists) (answers : answers_of_file m f.answers ≡ answers_of_file m g.answers) (h : Same f.lists g.lists) (k : Same f.answers g.answers) where
  live_same : live_in m f ≡ live_in m g
  live_same = ap (λ x. live_of (shape_of m) (stored x)) lists

  abbrev parts_of : Population → FinMap cell_cmp Answer → File → List Refusal
  parts_of live said x = (list_refusals m live x.lists ++ (answer_refusals m ruled live x.answers ++ option_to_list (full_refusal m ruled live))) ++ option_to_list (over_refusal said)

  number_same : (n : ℕ) (live : Population) (said : FinMap cell_cmp Answer) → has_number n (parts_of live said f) ≡ has_number n (parts_of live said g)
  number_same n live said =
      let p : Refusal → Bool = λ r. number_of r == n in
      let rest : File → List Refusal = λ x. answer_refusals m ruled live x.answers ++ option_to_list (full_refusal m ruled live) in
      let last = list_any p (option_to_list (over_refusal said)) in
      let full = list_any p (option_to_list (full_refusal m ruled live)) in
      let a = same_flat p (λ (e : ListEntry). option_to_list (list_refusal m live (relation_named m e.point.phrase) e)) f.lists g.lists h in
      let b = same_flat p (λ (e : AnswerEntry). option_to_list (answer_refusal m ruled live (attribute_named m e.point.phrase) e)) f.answers g.answers k in
      split p (list_refusals m live f.lists) (answer_refusals m ruled live f.answers) (option_to_list (full_refusal m ruled live)) (option_to_list (over_refusal said))
      ∙ ap (λ x. (x || (list_any p (answer_refusals m ruled live f.answers) || full)) || last) a
      ∙ ap (λ x. (list_any p (list_refusals m live g.lists) || (x || full)) || last) b
      ∙ sym (split p (list_refusals m live g.lists) (answer_refusals m ruled live g.answers) (option_to_list (full_refusal m ruled live)) (option_to_list (over_refusal said)))
    where
      split : (p : Refusal → Bool) (ws xs ys zs : List Refusal) → list_any p ((ws ++ (xs ++ ys)) ++ zs) ≡ ((list_any p ws || (list_any p xs || list_any p ys)) || list_any p zs)
      split p ws xs ys zs = list_any-append p (ws ++ (xs ++ ys)) zs ∙ ap (λ b. b || list_any p zs) (list_any-append p ws (xs ++ ys) ∙ ap (λ b. list_any p ws || b) (list_any-append p xs ys))

  least_same : (xs ys : List Refusal) → ((n : ℕ) → has_number n xs ≡ has_number n ys) → least_of xs ≡ least_of ys
  least_same xs ys e =
      ap (λ b. cond b (Some fault.Name) (cond (has_number 2 xs) (Some fault.Kind) (cond (has_number 3 xs) (Some fault.Range) (cond (has_number 4 xs) (Some fault.Limit) None)))) (e 1)
      ∙ ap (λ b. cond (has_number 1 ys) (Some fault.Name) (cond b (Some fault.Kind) (cond (has_number 3 xs) (Some fault.Range) (cond (has_number 4 xs) (Some fault.Limit) None)))) (e 2)
      ∙ ap (λ b. cond (has_number 1 ys) (Some fault.Name) (cond (has_number 2 ys) (Some fault.Kind) (cond b (Some fault.Range) (cond (has_number 4 xs) (Some fault.Limit) None)))) (e 3)
      ∙ ap (λ b. cond (has_number 1 ys) (Some fault.Name) (cond (has_number 2 ys) (Some fault.Kind) (cond (has_number 3 ys) (Some fault.Range) (cond b (Some fault.Limit) None)))) (e 4)

  fault_same : least_of (refusals_of m ruled f) ≡ least_of (refusals_of m ruled g)
  unfolding refusals_of
  fault_same =
      least_same (parts_of (live_in m f) (answers_of_file m f.answers) f) (parts_of (live_in m f) (answers_of_file m f.answers) g) (λ n. number_same n (live_in m f) (answers_of_file m f.answers))
      ∙ ap (λ l. least_of (parts_of l (answers_of_file m f.answers) g)) live_same
      ∙ ap (λ a. least_of (parts_of (live_in m g) a g)) answers

  case_same : case_of m f ≡ case_of m g
  case_same = ap (λ l. case_with (shape_of m) l (answers_of_file m f.answers)) lists ∙ ap (case_with (shape_of m) (lists_of_file m g.lists)) answers

pub any_order : AnyOrder
any_order m ruled f g a b lists answers =
    let h = same_of f.lists g.lists lists in
    let k = same_of f.answers g.answers answers in
    let l = same_lists m f.lists g.lists a.lists b.lists h in
    let s = same_answers m f.answers g.answers a.answers b.answers k in
    (case_same m ruled f g l s h k, fault_same m ruled f g l s h k)

-- ---- entries that are read are apart

passed : {A : Type 0} (b : Bool) (x y : A) → ◌≡◌ {A = Option A} (cond b (Some x) None) (Some y) → (b ≡ true) × (x ≡ y)
passed true x y h = (refl, cc h)
passed false x y h = absurd (cc h)

tested : {A : Type 0} (b : Bool) (o : Option A) (y : A) → cond b o None ≡ Some y → o ≡ Some y
tested true o y h = h
tested false o y h = absurd (cc h)

answers_differ : (v : Version) (d : Data) (es : List AnswerEntry) → answers_in v d ≡ Some es → differ (answer_points es) ≡ true
unfolding answers_in
answers_differ v d es h =
    let a = bound_parts answers_apart (option_and_then (each (answer_in v)) (items_in d)) es h in
    let p = passed (differ (answer_points a.0)) a.0 es a.2 in
    ap (λ x. differ (answer_points x)) (sym p.1) ∙ p.0

lists_differ : (d : Data) (es : List ListEntry) → lists_in d ≡ Some es → differ (list_points es) ≡ true
unfolding lists_in
lists_differ d es h =
    let a = bound_parts lists_apart (option_and_then (each list_in) (items_in d)) es h in
    let p = passed (differ (list_points a.0)) a.0 es a.2 in
    ap (λ x. differ (list_points x)) (sym p.1) ∙ p.0

pub read_apart : ReadApart
unfolding file_in
read_apart d f h =
    let a = bound_parts (λ v. file_of v d) (version_in d) f (tested (says_format d) (option_and_then (λ v. file_of v d) (version_in d)) f h) in
    let b = bound_parts (λ es. option_map (file_at a.0 es) (member_in (codes "lists") lists_in d)) (member_in (codes "answers") (answers_in a.0) d) f a.2 in
    let c = mapped_parts (file_at a.0 b.0) (member_in (codes "lists") lists_in d) f b.2 in
    let x = bound_parts (answers_in a.0) (find_in (codes "answers") d) b.0 b.1 in
    let y = bound_parts lists_in (find_in (codes "lists") d) c.0 c.1 in
    record {
      answers = ap (λ (k : File). differ (answer_points k.answers)) (sym c.2) ∙ answers_differ a.0 x.0 b.0 x.2;
      lists = ap (λ (k : File). differ (list_points k.lists)) (sym c.2) ∙ lists_differ y.0 c.0 y.2;
    }
