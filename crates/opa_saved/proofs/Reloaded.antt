-- A case that is saved is loaded as it was.
use Rattle.std.proofs.Common.{◌≡◌, ◌<◌, ◌+◌, ◌*◌, ◌%◌, ℕ, zero, suc, Bool, true, false, cond, List, [], ◌∷◌, ◌++◌, length, map, arith, refl, sym, ap, subst, ◌∙◌, eq-eqb}
use Rattle.std.specs.Prelude.{Option, None, Some, nat_lt, not, ◌||◌, ◌&&◌, flat_map, option_to_list}
use Rattle.std.specs.List.{list_any, AllByRecursion}
use Rattle.std.specs.Option.{option_map, option_and_then, option_map_or, option_or}
use Rattle.std.specs.FinMap.{FinMap, get, insert, empty, len}
use Rattle.std.proofs.lemmas.Bool.{le-ltb, lt-ltb, or_from}
use Rattle.serde_json.specs.Data.{Data}
use Rattle.opa_model.specs.declared.ids.RelId.{RelId}
use Rattle.opa_model.specs.declared.lists.Lists.{Lists}
use Rattle.opa_model.specs.Lookups.{attribute_named, relation_named}
use Rattle.opa_model.specs.Models.{IsModel}
use Rattle.opa_cells.specs.declared.instance.InstanceId.{InstanceId}
use Rattle.opa_cells.specs.Instances.{is_same, is_text, named}
use Rattle.opa_cells.specs.Keys.{cell_cmp}
use Rattle.opa_cells.proofs.Orders.{same_itself}
use Rattle.opa_case.specs.declared.change.Refusal.{Refusal}
use Rattle.opa_case.specs.declared.change.Refusal.TheVariants as refusals
use Rattle.opa_case.specs.Shapes.{Shape, IsShape, shape_of, attribute_or, relation_or}
use Rattle.opa_case.specs.Live.{Names, Population, live_of, is_live, members}
use Rattle.opa_case.specs.Cases.{CaseView, Answer, stored}
use Rattle.opa_case.specs.Clean.{IsClean, is_clean_text}
use Rattle.opa_case.specs.Fits.{Known, Fits}
use Rattle.opa_case.specs.Steps.{every_of, has_rule, is_unanswerable, is_misplaced, cant_name, stands_elsewhere, list_fault, answer_fault}
use Rattle.opa_case.proofs.Shaped.{shape_is}
use Rattle.opa_case.proofs.Kept.{stands}
use Rattle.opa_saved.specs.declared.entries.AnswerEntry.{AnswerEntry}
use Rattle.opa_saved.specs.declared.entries.ListEntry.{ListEntry}
use Rattle.opa_saved.specs.declared.entries.Point.{Point}
use Rattle.opa_saved.specs.declared.entries.Version.TheVariants.{Second}
use Rattle.opa_saved.specs.declared.loaded.Origin.TheVariants.{Same, Other}
use Rattle.opa_saved.specs.Digests.{digest, digest_on, digest_text}
use Rattle.opa_saved.specs.Forms.{each, point_at, answer_with, list_with, answer_in, list_in, answer_points, list_points, differ, answers_apart, lists_apart, answers_in, lists_in, File, file_at, file_with, file_of, file_in, line_in, names_in}
use Rattle.opa_saved.specs.Loading.{case_of, living, put_list, put_lists, put_answer, put_answers, lists_of_file, answers_of_file, live_in, list_refusal, answer_refusal, text_refusal, full_refusal, over_refusal, answer_refusals, entry_refusals, refusals_of, least_of, origin_by, IsLoaded}
use Rattle.opa_saved.specs.RoundTrip.{HasLines, IsWithin, SavedLoads}
use Rattle.opa_saved.specs.Saved.{attr, rel, list_data, line_data, names_data, answer_entry, list_entry, answers_of, answers_upto, lists_of, lists_upto, whole_data, saved_data, ReadsAs}
use Rattle.opa_saved.proofs.BackValues.{line_back, names_back, name_back}
use Rattle.opa_saved.proofs.Distinct.{among, Distinct, AreApart, distinct_live}
use Rattle.opa_saved.proofs.MapEntries.{upto, written_upto, all_upto, differ_upto, each_upto, puts, makes_all}
use Rattle.opa_text.proofs.OwnPhrases.{own_attribute, own_relation}
use Rattle.opa_saved.proofs.OwnPlaces.{all_at, attributes_apart, relations_apart, live_member, clean_live}
use Rattle.opa_saved.proofs.PartLaws.{listed_of}
use Rattle.opa_saved.proofs.RefusalLaws.{pairs_decide}
use Rattle.opa_saved.proofs.SavedLaws.{fits_days}
use Rattle.opa_saved.proofs.TakenLaws.{tests_make, any_false}

-- ---- one entry

abbrev answer_at : Point → Answer → AnswerEntry
answer_at p line = record { point = p; line = line }

abbrev list_at : Point → Names → ListEntry
list_at p names = record { point = p; names = names }

answer_back : (g : ℕ) (phrase : List ℕ) (i : InstanceId) (l : Answer) → is_clean_text i.name ≡ true → line_in (Second g) (line_data l) ≡ Some l → answer_in (Second g) (answer_entry phrase i l) ≡ Some (answer_at (point_at phrase i.name) l)
unfolding answer_in
answer_back g phrase i l clear line = ap (λ o. answer_with (option_map (point_at phrase) o) (line_in (Second g) (line_data l))) (name_back i.name clear) ∙ ap (answer_with (Some (point_at phrase i.name))) line

list_back : (phrase : List ℕ) (i : InstanceId) (ns : Names) → is_clean_text i.name ≡ true → names_in (names_data ns) ≡ Some ns → list_in (list_entry phrase i ns) ≡ Some (list_at (point_at phrase i.name) ns)
unfolding list_in
list_back phrase i ns clear names = ap (λ o. list_with (option_map (point_at phrase) o) (names_in (names_data ns))) (name_back i.name clear) ∙ ap (list_with (Some (point_at phrase i.name))) names

-- ---- the whole value

digest_below : (d : ℕ) (bytes : List ℕ) → d < 4294967296 → digest_on d bytes < 4294967296
digest_below d [] lt = lt
digest_below d (b ∷ bs) lt = digest_below ((31 * d + b) % 4294967296) bs (omega arith)

small_digest : (m : Lists) → digest m < 4294967296
unfolding digest
small_digest m = digest_below 0 (digest_text m) (omega arith)

answers_read : (g : ℕ) (ds : List Data) (es : List AnswerEntry) → each (answer_in (Second g)) ds ≡ Some es → differ (answer_points es) ≡ true → answers_in (Second g) (list_data ds) ≡ Some es
unfolding answers_in
answers_read g ds es h d =
    ap (λ xs. option_and_then answers_apart (each (answer_in (Second g)) xs)) (listed_of ds) ∙ ap (option_and_then answers_apart) h ∙ ap (λ b. cond b (Some es) None) d

lists_read : (ds : List Data) (es : List ListEntry) → each list_in ds ≡ Some es → differ (list_points es) ≡ true → lists_in (list_data ds) ≡ Some es
unfolding lists_in
lists_read ds es h d =
    ap (λ xs. option_and_then lists_apart (each list_in xs)) (listed_of ds) ∙ ap (option_and_then lists_apart) h ∙ ap (λ b. cond b (Some es) None) d

whole_read : (xs ys : List Data) (g : ℕ) (answers : List AnswerEntry) (lists : List ListEntry) → g < 4294967296 → answers_in (Second g) (list_data xs) ≡ Some answers → lists_in (list_data ys) ≡ Some lists → file_in (whole_data xs ys g) ≡ Some (file_at (Second g) answers lists)
unfolding file_in
whole_read xs ys g answers lists lt a l =
    ap (λ b. option_and_then (λ v. file_of v (whole_data xs ys g)) (option_map (λ n. Second n) (cond b (Some g) None))) (lt-ltb g 4294967296 lt)
    ∙ ap (λ o. file_with (Second g) o (lists_in (list_data ys))) a ∙ ap (file_with (Second g) (Some answers)) l

-- ---- nothing is refused

flat_nothing : {E : Type 0} (g : E → Option Refusal) (es : List E) → AllByRecursion (λ e. g e ≡ None) es → flat_map (λ e. option_to_list (g e)) es ≡ []
flat_nothing g [] h = refl
flat_nothing g (e ∷ es) h = ap (λ o. option_to_list o ++ flat_map (λ x. option_to_list (g x)) es) h.0 ∙ flat_nothing g es h.1

-- an instance by its own entity and name
own_name : (e : ℕ) (i : InstanceId) → i.entity.0 ≡ e → named e i.name ≡ i
own_name e i own k = record { entity = record { 0 = sym own k }; name = i.name }

module _ (m : Lists) (ruled : List Bool) (c : CaseView) (im : IsModel m) (fits : Fits (shape_of m) ruled c) (clean : IsClean c) (lines : HasLines c) (within : IsWithin m ruled c) where
  abbrev s : Shape
  s = shape_of m

  shape : IsShape s
  shape = shape_is m im

  apart : AreApart s (stored c.lists)
  apart = record {
    names = λ e d ns pos lt k. fits.sound.names (s.contained e) d ns k;
    once = λ e x y ns ms n pos lt h g a b. fits.sound.once (s.contained e) x y ns ms n (shape.contains e pos lt) h g a b;
  }

  distinct : Distinct (map (λ (p : InstanceId × InstanceId). p.0) c.live)
  distinct = subst (λ (pop : Population). Distinct (map (λ (p : InstanceId × InstanceId). p.0) pop)) (sym fits.live) (distinct_live s (stored c.lists) apart shape.some)

  member : (e : ℕ) (i : InstanceId) → i.entity.0 ≡ e → is_live c.live i ≡ true → among i (members e c.live) ≡ true
  member e i own h = subst (λ (pop : Population). among i (members e pop) ≡ true) (sym fits.live) (live_member s shape (stored c.lists) e i own (subst (λ (pop : Population). is_live pop i ≡ true) fits.live h))

  clear_name : (i : InstanceId) → is_live c.live i ≡ true → is_clean_text i.name ≡ true
  clear_name i h = clean_live s shape (stored c.lists) (λ r j ns k. clean.names r j ns k) i (subst (λ (pop : Population). is_live pop i ≡ true) fits.live h)

  -- ---- answers

  abbrev a_phrase : ℕ → List ℕ
  a_phrase n = (attribute_or m (attr n)).phrase

  abbrev a_owner : ℕ → ℕ
  a_owner n = (attribute_or m (attr n)).entity.0

  abbrev a_data : ℕ → InstanceId → Answer → Data
  a_data n i = answer_entry (a_phrase n) i

  abbrev answers : List AnswerEntry
  answers = upto answer_at a_phrase a_owner c.answers c.live (length m.attributes)

  abbrev a_read : Data → Option AnswerEntry
  a_read = answer_in (Second (digest m))

  read_answer : (n : ℕ) (i : InstanceId) (v : Answer) → n < length m.attributes → among i (members (a_owner n) c.live) ≡ true → get c.answers (n, i) ≡ Some v → a_read (a_data n i v) ≡ Some (answer_at (point_at (a_phrase n) i.name) v)
  read_answer n i v lt there h =
      answer_back (digest m) (a_phrase n) i v (clear_name i (fits.answered (attr n) i v h))
      (line_back (digest m) v (lines n i v h).0 (lines n i v h).1 (fits_days m c (ruled, fits) n i v h) (clean.texts (attr n) i v h))

  answers_are : (n : ℕ) → answers_upto m c n ≡ written_upto answer_at a_phrase a_owner c.answers c.live a_data a_read n
  unfolding answers_upto
  answers_are zero = refl
  answers_are (suc n) = ap (λ x. x ++ answers_of m c n) (answers_are n)

  answers_each : each a_read (answers_upto m c (length m.attributes)) ≡ Some answers
  answers_each = ap (each a_read) (answers_are (length m.attributes)) ∙ each_upto answer_at a_phrase a_owner c.answers c.live a_data a_read (length m.attributes) read_answer

  answers_differ : differ (answer_points answers) ≡ true
  answers_differ = differ_upto answer_at a_phrase a_owner c.answers c.live (λ (e : AnswerEntry). e.point) (λ p v. refl) (length m.attributes) (attributes_apart m im) distinct

  abbrev a_put : FinMap cell_cmp Answer → AnswerEntry → FinMap cell_cmp Answer
  a_put before e = put_answer m before (attribute_named m e.point.phrase) e

  answers_put : (before : FinMap cell_cmp Answer) (es : List AnswerEntry) → put_answers m before es ≡ puts answer_at a_phrase a_owner c.answers c.live a_put before es
  answers_put before [] = refl
  answers_put before (e ∷ es) = answers_put (a_put before e) es

  answer_puts : (n : ℕ) (i : InstanceId) (v : Answer) → get c.answers (n, i) ≡ Some v → (b : FinMap cell_cmp Answer) → a_put b (answer_at (point_at (a_phrase n) i.name) v) ≡ insert b (n, i) v
  answer_puts n i v h b =
      let is = fits.answers (attr n) i v h in
      ap (λ o. put_answer m b o (answer_at (point_at (a_phrase n) i.name) v)) (own_attribute m im (attr n) is.declared)
      ∙ ap (λ t. cond t b (insert b (n, named (a_owner n) i.name) v)) is.known ∙ ap (λ j. insert b (n, j) v) (own_name (a_owner n) i is.owner)

  answers_made : answers_of_file m answers ≡ c.answers
  unfolding answers_of_file
  answers_made =
      answers_put empty answers
      ∙ makes_all answer_at a_phrase a_owner c.answers c.live a_put (length m.attributes) (λ n i v h. (let is = fits.answers (attr n) i v h in (is.declared, member (a_owner n) i is.owner (fits.answered (attr n) i v h), answer_puts n i v h)))

  -- ---- lists

  abbrev r_phrase : ℕ → List ℕ
  r_phrase n = (relation_or m (rel n)).phrase

  abbrev r_owner : ℕ → ℕ
  r_owner n = (relation_or m (rel n)).source.0

  abbrev r_data : ℕ → InstanceId → Names → Data
  r_data n i = list_entry (r_phrase n) i

  abbrev lists : List ListEntry
  lists = upto list_at r_phrase r_owner c.lists c.live (length m.relations)

  read_list : (n : ℕ) (i : InstanceId) (v : Names) → n < length m.relations → among i (members (r_owner n) c.live) ≡ true → get c.lists (n, i) ≡ Some v → list_in (r_data n i v) ≡ Some (list_at (point_at (r_phrase n) i.name) v)
  read_list n i v lt there h = list_back (r_phrase n) i v (clear_name i (fits.listed (rel n) i v h)) (names_back v (clean.names (rel n) i v h))

  lists_are : (n : ℕ) → lists_upto m c n ≡ written_upto list_at r_phrase r_owner c.lists c.live r_data list_in n
  unfolding lists_upto
  lists_are zero = refl
  lists_are (suc n) = ap (λ x. x ++ lists_of m c n) (lists_are n)

  lists_each : each list_in (lists_upto m c (length m.relations)) ≡ Some lists
  lists_each = ap (each list_in) (lists_are (length m.relations)) ∙ each_upto list_at r_phrase r_owner c.lists c.live r_data list_in (length m.relations) read_list

  lists_differ : differ (list_points lists) ≡ true
  lists_differ = differ_upto list_at r_phrase r_owner c.lists c.live (λ (e : ListEntry). e.point) (λ p v. refl) (length m.relations) (relations_apart m im) distinct

  abbrev r_put : FinMap cell_cmp Names → ListEntry → FinMap cell_cmp Names
  r_put before e = put_list m before (relation_named m e.point.phrase) e

  lists_put : (before : FinMap cell_cmp Names) (es : List ListEntry) → put_lists m before es ≡ puts list_at r_phrase r_owner c.lists c.live r_put before es
  lists_put before [] = refl
  lists_put before (e ∷ es) = lists_put (r_put before e) es

  list_puts : (n : ℕ) (i : InstanceId) (v : Names) → get c.lists (n, i) ≡ Some v → (b : FinMap cell_cmp Names) → r_put b (list_at (point_at (r_phrase n) i.name) v) ≡ insert b (n, i) v
  list_puts n i v h b =
      ap (λ o. put_list m b o (list_at (point_at (r_phrase n) i.name) v)) (own_relation m im (rel n) (fits.sound.declared (rel n) i v h))
      ∙ ap (λ j. insert b (n, j) v) (own_name (r_owner n) i (fits.sound.source (rel n) i v h))

  lists_made : lists_of_file m lists ≡ c.lists
  unfolding lists_of_file
  lists_made =
      lists_put empty lists
      ∙ makes_all list_at r_phrase r_owner c.lists c.live r_put (length m.relations)
      (λ n i v h. (fits.sound.declared (rel n) i v h, member (r_owner n) i (fits.sound.source (rel n) i v h) (fits.listed (rel n) i v h), list_puts n i v h))

  -- ---- the file

  abbrev file : File
  file = file_at (Second (digest m)) answers lists

  form : file_in (saved_data m c) ≡ Some file
  unfolding saved_data
  form =
      whole_read (answers_upto m c (length m.attributes)) (lists_upto m c (length m.relations)) (digest m) answers lists (small_digest m)
      (answers_read (digest m) (answers_upto m c (length m.attributes)) answers answers_each answers_differ)
      (lists_read (lists_upto m c (length m.relations)) lists lists_each lists_differ)

  live_here : live_in m file ≡ c.live
  live_here = ap (λ x. live_of s (stored x)) lists_made ∙ sym fits.live

  -- ---- no list is refused

  misplaced : (r : RelId) (i : InstanceId) (v : Names) → Known c.lists r i v → is_misplaced s (living c.live) r i ≡ false
  misplaced r i v h =
      or_from (s.every r || not (is_live c.live i)) _ (or_from (s.every r) _ (fits.sound.not_every r i v h) (ap not (fits.listed r i v h)))
      (ap not (eq-eqb i.entity.0 (s.source r) (fits.sound.source r i v h)))

  free : (r : RelId) (i : InstanceId) (v : Names) → Known c.lists r i v → list_any (cant_name s (living c.live) r i) v ≡ false
  free r i v h = any_false (cant_name s (living c.live) r i) v (λ n g. go n g (s.contains r) refl)
    where
      go : (n : List ℕ) → list_any (is_text n) v ≡ true → (b : Bool) → s.contains r ≡ b → cond b (stands_elsewhere c.live i (named (s.target r) n)) (not (is_live c.live (named (s.target r) n))) ≡ false
      go n g true con = ap (λ o. option_map_or (λ d. not (is_same d i)) o false) (stands s ruled shape c fits r i v n con h g) ∙ ap not (same_itself i)
      go n g false other = ap not (all_at (λ k. is_live c.live (named (s.target r) k)) n v (fits.referred r i v h other) g)

  few : (r : RelId) (i : InstanceId) (v : Names) → Known c.lists r i v → (s.one r && nat_lt 1 (length v)) ≡ false
  few r i v h = go (s.one r) refl
    where
      go : (b : Bool) → s.one r ≡ b → (b && nat_lt 1 (length v)) ≡ false
      go true e = le-ltb 1 (length v) (fits.sound.one r i v h e)
      go false e = refl

  list_free : AllByRecursion (λ e. list_refusal m c.live (relation_named m e.point.phrase) e ≡ None) lists
  list_free =
      all_upto list_at r_phrase r_owner c.lists c.live (λ e. list_refusal m c.live (relation_named m e.point.phrase) e ≡ None) (length m.relations)
      (λ n i v lt there h.
      ap (λ o. list_refusal m c.live o (list_at (point_at (r_phrase n) i.name) v)) (own_relation m im (rel n) lt)
      ∙ ap (λ j. list_fault s (living c.live) (rel n) j v) (own_name (r_owner n) i (fits.sound.source (rel n) i v h))
      ∙ tests_make s (living c.live) (rel n) i v
      (record { misplaced = misplaced (rel n) i v h; names = fits.sound.names (rel n) i v h; free = free (rel n) i v h; few = few (rel n) i v h; short = within.names (rel n) i v h }))

  -- ---- no answer is refused

  answerable : (n : ℕ) (i : InstanceId) (v : Answer) → get c.answers (n, i) ≡ Some v → is_unanswerable s ruled (living c.live) (attr n) i ≡ false
  answerable n i v h =
      let is = fits.answers (attr n) i v h in
      or_from (has_rule ruled (attr n) || not (is_live c.live i)) _ (or_from (has_rule ruled (attr n)) _ is.no_rule (ap not (fits.answered (attr n) i v h)))
      (ap not (eq-eqb i.entity.0 (a_owner n) is.owner))

  answer_free : AllByRecursion (λ e. answer_refusal m ruled c.live (attribute_named m e.point.phrase) e ≡ None) answers
  answer_free =
      all_upto answer_at a_phrase a_owner c.answers c.live (λ e. answer_refusal m ruled c.live (attribute_named m e.point.phrase) e ≡ None) (length m.attributes)
      (λ n i v lt there h.
      (let is = fits.answers (attr n) i v h in
      ap (λ o. answer_refusal m ruled c.live o (answer_at (point_at (a_phrase n) i.name) v)) (own_attribute m im (attr n) lt)
      ∙ ap (λ j. option_or (answer_fault s ruled (living c.live) (attr n) j v) (text_refusal v)) (own_name (a_owner n) i is.owner)
      ∙ ap (λ o. option_or o (text_refusal v)) (sym (pairs_decide s ruled c.live (attr n) i v false (answerable n i v h) is.kind (within.bounds (attr n) i v h) (le-ltb 1000 (length v) (within.pairs (attr n) i v h))))
      ∙ ap (λ b. cond b (Some refusals.Limit) None) (within.texts (attr n) i v h)))

  -- ---- all

  quiet : entry_refusals m ruled c.live file ≡ []
  quiet =
      ap (λ xs. xs ++ (answer_refusals m ruled c.live answers ++ option_to_list (full_refusal m ruled c.live))) (flat_nothing (λ (e : ListEntry). list_refusal m c.live (relation_named m e.point.phrase) e) lists list_free)
      ∙ ap (λ xs. xs ++ option_to_list (full_refusal m ruled c.live)) (flat_nothing (λ (e : AnswerEntry). answer_refusal m ruled c.live (attribute_named m e.point.phrase) e) answers answer_free)
      ∙ ap (λ b. option_to_list (cond b (Some refusals.Limit) None)) within.size

  faultless : least_of (refusals_of m ruled file) ≡ None
  unfolding refusals_of
  faultless =
      ap (λ l. least_of (entry_refusals m ruled l file ++ option_to_list (over_refusal (answers_of_file m answers)))) live_here
      ∙ ap (λ xs. least_of (xs ++ option_to_list (over_refusal (answers_of_file m answers)))) quiet
      ∙ ap (λ a. least_of (option_to_list (over_refusal a))) answers_made
      ∙ ap (λ b. least_of (option_to_list (cond b (Some refusals.Limit) None))) (le-ltb 100000 (len c.answers) within.answers)

  case_is : c ≡ case_of m file
  case_is =
      let every : c.every ≡ every_of s (stored (lists_of_file m lists)) = fits.every ∙ ap (λ x. every_of s (stored x)) (sym lists_made) in
      let alive : c.live ≡ live_of s (stored (lists_of_file m lists)) = sym live_here in
      λ k. record { lists = sym lists_made k; every = every k; answers = sym answers_made k; live = alive k }

  same_origin : Same ≡ origin_by m (digest m)
  same_origin = sym (ap (λ b. cond b Same Other) (eq-eqb (digest m) (digest m) refl))

  loads : (bytes : List ℕ) → ReadsAs bytes (saved_data m c) → IsLoaded m ruled bytes c Same
  loads bytes h = record { value = saved_data m c; reads = h; file = file; form = form; faultless = faultless; case = case_is; origin = same_origin }

pub saved_loads : SavedLoads
saved_loads m ruled c bytes im fits clean lines within h = loads m ruled c im fits clean lines within bytes h
