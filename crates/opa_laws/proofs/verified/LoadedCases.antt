-- A case that is loaded fits, and its names and answers are clean.
use Rattle.std.proofs.Common.{◌≡◌, ◌∙◌, ◌⊎◌, inl, inr, ◌<◌, ℕ, zero, suc, ℤ, Bool, true, false, cond, List, [], ◌∷◌, length, take, drop, position, Ordering, Less, Equal, Greater, Option, None, Some, Result, Ok, Err, refl, sym, ap, subst, arith}
use Rattle.std.specs.Prelude.{◌+◌, ◌-◌, codes, option_map, option_and_then}
use Rattle.std.specs.FinMap.{FinMap, insert, empty, get-empty}
use Rattle.std.specs.Ordering.{match_ordering}
use Rattle.std.specs.Str.{IsUtf8, bytes_eq}
use Rattle.std.proofs.lemmas.List.{length-map}
use Rattle.std.proofs.lemmas.List.Quantifiers.{position-Some}
use Rattle.std.proofs.lemmas.Slice.Eq.{bytes_eq-Decides}
use Rattle.serde_json.specs.Data.{Data, null, boolean, number, string, array, object, Items, no_items, item, Members, no_members, member}
use Rattle.serde_json.specs.Find.{get as find_in, get_member, as_str}
use Rattle.opa_date.specs.declared.TheConstants.{DAYS}
use Rattle.opa_value.specs.declared.value.Value.{Value}
use Rattle.opa_value.specs.declared.value.Value.TheVariants as value
use Rattle.opa_value.specs.declared.number.NumFault.{NumFault}
use Rattle.opa_value.specs.Numbers.{InRange}
use Rattle.opa_value.specs.NumberText.{read_number, plain_text}
use Rattle.opa_line.specs.declared.pairs.LineFault.{LineFault}
use Rattle.opa_line.specs.Lines.{at, value_or, changes, canon}
use Rattle.opa_line.specs.Pairs.{fault_of}
use Rattle.opa_model.specs.declared.ids.AttrId.{AttrId}
use Rattle.opa_model.specs.declared.ids.RelId.{RelId}
use Rattle.opa_model.specs.declared.lists.Lists.{Lists}
use Rattle.opa_model.specs.Lookups.{attribute_named, attribute_phrases, relation_named}
use Rattle.opa_model.specs.Models.{IsModel}
use Rattle.opa_cells.specs.Keys.{cell_cmp}
use Rattle.opa_cells.specs.declared.instance.InstanceId.{InstanceId}
use Rattle.opa_case.specs.Cases.{CaseView, Answer}
use Rattle.opa_case.specs.Clean.{is_clean_text}
use Rattle.opa_case.specs.Fits.{Known, Answered, IsAnswer, Fits}
use Rattle.opa_case.specs.Live.{Names, is_live}
use Rattle.opa_case.specs.Shapes.{shape_of}
use Rattle.opa_case.specs.Steps.{is_unknown_answer, answer_fault}
use Rattle.opa_case.proofs.Answering.{answer_inserted, is_answer}
use Rattle.opa_case.proofs.Kept.{inserted}
use Rattle.opa_case.proofs.Shaped.{shape_is}
use Rattle.opa_text.specs.Readers.{number_read, number_of, day_of}
use Rattle.opa_saved.specs.declared.fault.LoadFault.{LoadFault}
use Rattle.opa_saved.specs.declared.loaded.Origin.{Origin}
use Rattle.opa_saved.specs.Forms.{File, each, listed, items_in, member_in, value_in, pair_of, pair_in, pairs_in, unless_fault, value_on, line_of, line_in, name_in, names_in, point_in, answer_with, list_with, answer_in, list_in, answers_apart, lists_apart, answers_in, lists_in, differ, answer_points, list_points, has_size, says_format, version_in, file_at, file_of, file_in, day_at}
use Rattle.opa_saved.specs.Loading.{answer_instance, list_instance, put_list, put_lists, put_answer, put_answers, lists_of_file, answers_of_file, case_of, living, live_in, answer_refusal, text_refusal, entry_refusals, refusals_of, least_of, IsLoaded}
use Rattle.opa_saved.specs.Building.{AreAnswerable}
use Rattle.opa_saved.specs.Texts.{after, clean, plainly, number_value, text_value, day_value, plain_value, typed_value, value_of, same_value}
use Rattle.opa_saved.proofs.AnswerLaws.{or_none}
use Rattle.opa_saved.proofs.FaultLaws.{file_taken, file_answerable, told_early}
use Rattle.opa_saved.proofs.TakenLaws.{all_fits}
use Rattle.opa_laws.proofs.verified.JsonTexts.{HasTexts, ItemsHaveTexts, MembersHaveTexts}
use Rattle.opa_laws.proofs.verified.CleanCases.{IsCleanName, IsCleanValue, IsCleanPair, HasClean}
use Rattle.opa_laws.proofs.verified.CleanCommands.{at_clean, number_in_range}
use Rattle.opa_laws.proofs.verified.JsonStrings.{Of, of_then, of_map}
use Rattle.opa_laws.proofs.verified.JsonTrees.{json_is_text_holds, any}
use Rattle.opa_laws.proofs.verified.Seams.{behind}
use Rattle.opa_laws.proofs.verified.TextFiles.{Each}

-- ---- values

clean_of : (t : List ℕ) → IsUtf8 t → Of IsCleanName (clean t)
clean_of t u = go (is_clean_text t) refl
  where
    go : (b : Bool) → is_clean_text t ≡ b → Of IsCleanName (cond b (Some t) None)
    go true e = (e, u)
    go false e = tt

-- what follows two ASCII characters
after_two : (a b : ℕ) (t : List ℕ) → a < 128 → b < 128 → IsUtf8 t → Of IsUtf8 (after (a ∷ b ∷ []) t)
after_two a b t x y u = go (bytes_eq (take 2 t) (a ∷ b ∷ [])) refl
  where
    at_front : (t : List ℕ) → bytes_eq (take 2 t) (a ∷ b ∷ []) ≡ true → IsUtf8 t → IsUtf8 (drop 2 t)
    at_front [] e v = v
    at_front (c ∷ []) e v = absurd (let h : c ∷ [] ≡ a ∷ b ∷ [] = (bytes_eq-Decides (c ∷ []) (a ∷ b ∷ [])).0 e in cc h)
    at_front (c ∷ d ∷ rest) e v =
        let h : c ∷ d ∷ [] ≡ a ∷ b ∷ [] = (bytes_eq-Decides (c ∷ d ∷ []) (a ∷ b ∷ [])).0 e in
        let first : c ≡ a = cc h in let second : d ≡ b = cc h in
        behind [] d rest (subst (λ n. n < 128) (sym second) y) (behind [] c (d ∷ rest) (subst (λ n. n < 128) (sym first) x) v)

    go : (s : Bool) → bytes_eq (take 2 t) (a ∷ b ∷ []) ≡ s → Of IsUtf8 (cond s (Some (drop 2 t)) None)
    go true e = at_front t e u
    go false e = tt

number_clean : (t : List ℕ) → Of IsCleanValue (number_value t)
number_clean t = of_then InRange IsCleanValue (plainly t) (λ n h. plain n (bytes_eq (plain_text n) t) h) (number_of t) (in_range (read_number t) refl)
  where
    plain : (n : ℤ) (b : Bool) → InRange n → Of IsCleanValue (cond b (Some (value.Num n)) None)
    plain n true h = (refl, h)
    plain n false h = tt

    in_range : (r : Result ℤ NumFault) → read_number t ≡ r → Of InRange (number_read r)
    in_range (Ok n) e = number_in_range t n e
    in_range (Err f) e = tt

text_clean : (t : List ℕ) → IsUtf8 t → Of IsCleanValue (text_value t)
text_clean t u = of_map IsCleanName IsCleanValue (λ s. value.Words s) (λ s h. h) (clean t) (clean_of t u)

day_clean : (t : List ℕ) → Of IsCleanValue (day_value t)
day_clean t = of_map (λ _. Unit {0}) IsCleanValue (λ d. value.Day d) (λ d h. (refl, tt)) (day_of t) (any (day_of t))

plain_clean : (o p q : Option (List ℕ)) → Of IsUtf8 p → Of IsCleanValue (plain_value o p q)
plain_clean (Some t) p q h = number_clean t
plain_clean None (Some t) q h = text_clean t h
plain_clean None None (Some t) h = day_clean t
plain_clean None None None h = tt

typed_clean : (t : List ℕ) → IsUtf8 t → Of IsCleanValue (typed_value t)
unfolding typed_value
typed_clean t u = plain_clean (after (codes "n:") t) (after (codes "t:") t) (after (codes "d:") t) (after_two 116 58 t (omega arith) (omega arith) u)

either_value : (b : Bool) (o p : Option Value) → Of IsCleanValue o → Of IsCleanValue p → Of IsCleanValue (cond b o p)
either_value true o p h k = h
either_value false o p h k = k

value_of_clean : (t : List ℕ) → IsUtf8 t → Of IsCleanValue (value_of t)
value_of_clean t u =
    either_value (bytes_eq t (codes "?")) (Some value.Unknown) _ (refl, tt)
    (either_value (bytes_eq t (codes "u")) (Some value.Uncertain) _ (refl, tt)
    (either_value (bytes_eq t (codes "b:true")) (Some (value.Bool true)) _ (refl, tt) (either_value (bytes_eq t (codes "b:false")) (Some (value.Bool false)) (typed_value t) (refl, tt) (typed_clean t u))))

-- ---- parts of JSON

str_text : (d : Data) → HasTexts d → Of IsUtf8 (as_str d)
str_text null h = tt
str_text (boolean b) h = tt
str_text (number n) h = tt
str_text (string s) h = h
str_text (array ds) h = tt
str_text (object ms) h = tt

listed_texts : (ds : Items) → ItemsHaveTexts ds → Each HasTexts (listed ds)
listed_texts no_items h = tt
listed_texts (item d ds) h = (h.0, listed_texts ds h.1)

items_texts : (d : Data) → HasTexts d → Of (Each HasTexts) (items_in d)
items_texts null h = tt
items_texts (boolean b) h = tt
items_texts (number n) h = tt
items_texts (string s) h = tt
items_texts (array ds) h = listed_texts ds h
items_texts (object ms) h = tt

matched : (o : Ordering) (x y z : Option Data) → Of HasTexts x → Of HasTexts y → Of HasTexts z → Of HasTexts (match_ordering o x y z)
matched Less x y z p q r = p
matched Equal x y z p q r = q
matched Greater x y z p q r = r

member_texts : (k : List ℕ) (ms : Members) → MembersHaveTexts ms → Of HasTexts (get_member k ms)
member_texts k no_members h = tt
member_texts k (member l e ms) h = let more = member_texts k ms h.1 in matched _ (get_member k ms) (Some e) (get_member k ms) more h.0 more

found_texts : (k : List ℕ) (d : Data) → HasTexts d → Of HasTexts (find_in k d)
found_texts k null h = tt
found_texts k (boolean b) h = tt
found_texts k (number n) h = tt
found_texts k (string s) h = tt
found_texts k (array ds) h = tt
found_texts k (object ms) h = member_texts k ms h

in_member : {A : Type 0} (P : A → Type 0) (key : List ℕ) (f : Data → Option A) → ((d : Data) → HasTexts d → Of P (f d)) → (d : Data) → HasTexts d → Of P (member_in key f d)
in_member P key f step d h = of_then HasTexts P f step (find_in key d) (found_texts key d h)

each_of : {A B : Type 0} (L : A → Type 0) (P : B → Type 0) (f : A → Option B) → ((x : A) → L x → Of P (f x)) → (xs : List A) → Each L xs → Of (Each P) (each f xs)
each_of L P f step [] h = tt
each_of L P f step (x ∷ xs) h =
    let more = each_of L P f step xs h.1 in
    of_then P (Each P) (λ y. option_map (λ ys. y ∷ ys) (each f xs)) (λ y own. of_map (Each P) (Each P) (λ ys. y ∷ ys) (λ ys rest. (own, rest)) (each f xs) more) (f x) (step x h.0)

-- each item of an array
each_item : {B : Type 0} (P : B → Type 0) (f : Data → Option B) → ((d : Data) → HasTexts d → Of P (f d)) → (d : Data) → HasTexts d → Of (Each P) (option_and_then (each f) (items_in d))
each_item P f step d h = of_then (Each HasTexts) (Each P) (each f) (λ ds k. each_of HasTexts P f step ds k) (items_in d) (items_texts d h)

-- The entries of a file have no names outside of the crate that reads them: they are what is read by these.
abbrev ReadBy : {A B : Type 0} → (A → Option B) → Type 0
ReadBy {A} {B} f = B

abbrev ReadWith : {A B C : Type 0} → (A → B → Option C) → Type 0
ReadWith {A} {B} {C} f = C

abbrev Version : Type 0
Version = ReadBy version_in

abbrev Point : Type 0
Point = ReadWith point_in

abbrev AnswerEntry : Type 0
AnswerEntry = ReadWith answer_in

abbrev ListEntry : Type 0
ListEntry = ReadBy list_in

-- ---- lines and names

value_in_clean : (d : Data) → HasTexts d → Of IsCleanValue (value_in d)
value_in_clean d h = of_then IsUtf8 IsCleanValue value_of value_of_clean (as_str d) (str_text d h)

pair_clean : (v : Version) (ds : List Data) → Each HasTexts ds → Of IsCleanPair (pair_of v ds)
pair_clean v [] h = tt
pair_clean v (d ∷ []) h = tt
pair_clean v (d ∷ t ∷ []) h =
    let own = value_in_clean t h.1.0 in
    of_then (λ _. Unit {0}) IsCleanPair (λ day. option_map (λ x. (day, x)) (value_in t)) (λ day k. of_map IsCleanValue IsCleanPair (λ x. (day, x)) (λ x c. c) (value_in t) own) (day_at v d) (any (day_at v d))
pair_clean v (d ∷ t ∷ e ∷ ds) h = tt

pair_in_clean : (v : Version) (d : Data) → HasTexts d → Of IsCleanPair (pair_in v d)
pair_in_clean v d h = of_then (Each HasTexts) IsCleanPair (pair_of v) (pair_clean v) (items_in d) (items_texts d h)

changes_clean : (f : ℕ → Value) → ((d : ℕ) → IsCleanValue (f d)) → (d : ℕ) (v : Value) (n : ℕ) → Each IsCleanPair (changes same_value f d v n)
unfolding changes
changes_clean f h d v zero = tt
changes_clean f h d v (suc n) = go (same_value (f d) v) (changes_clean f h (d + 1) v n) (changes_clean f h (d + 1) (f d) n)
  where
    go : (b : Bool) → Each IsCleanPair (changes same_value f (d + 1) v n) → Each IsCleanPair (changes same_value f (d + 1) (f d) n)
        → Each IsCleanPair (cond b (changes same_value f (d + 1) v n) ((d, f d) ∷ changes same_value f (d + 1) (f d) n))
    go true p q = p
    go false p q = (h d, q)

on_clean : (pairs : Answer) (d : ℕ) → Each IsCleanPair pairs → IsCleanValue (value_on pairs d)
on_clean pairs d h = go (at pairs d) refl
  where
    go : (o : Option Value) → at pairs d ≡ o → IsCleanValue (value_or value.Unknown o)
    go None e = (refl, tt)
    go (Some v) e = at_clean pairs d v h e

line_of_clean : (pairs : Answer) → Each IsCleanPair pairs → Each IsCleanPair (line_of pairs)
unfolding canon
line_of_clean pairs h = (on_clean pairs 0 h, changes_clean (value_on pairs) (λ d. on_clean pairs d h) 1 (value_on pairs 0) (DAYS - 1))

unless_clean : {A : Type 0} (P : A → Type 0) (o : Option LineFault) (x : A) → P x → Of P (unless_fault o x)
unless_clean P None x h = h
unless_clean P (Some f) x h = tt

line_in_clean : (v : Version) (d : Data) → HasTexts d → Of (Each IsCleanPair) (line_in v d)
line_in_clean v d h =
    of_then (Each IsCleanPair) (Each IsCleanPair) (λ pairs. unless_fault (fault_of pairs) (line_of pairs)) (λ pairs k. unless_clean (Each IsCleanPair) (fault_of pairs) (line_of pairs) (line_of_clean pairs k)) (pairs_in v d)
    (each_item IsCleanPair (pair_in v) (pair_in_clean v) d h)

name_in_clean : (d : Data) → HasTexts d → Of IsCleanName (name_in d)
name_in_clean d h = of_then IsUtf8 IsCleanName clean clean_of (as_str d) (str_text d h)

names_in_clean : (d : Data) → HasTexts d → Of (Each IsCleanName) (names_in d)
names_in_clean d h = each_item IsCleanName name_in name_in_clean d h

-- ---- entries

abbrev AnswerIsClean : AnswerEntry → Type 0
AnswerIsClean e = Each IsCleanPair e.line

abbrev ListIsClean : ListEntry → Type 0
ListIsClean e = Each IsCleanName e.names

answer_with_clean : (p : Option Point) (l : Option Answer) → Of (Each IsCleanPair) l → Of AnswerIsClean (answer_with p l)
answer_with_clean None l h = tt
answer_with_clean (Some p) None h = tt
answer_with_clean (Some p) (Some l) h = h

list_with_clean : (p : Option Point) (l : Option Names) → Of (Each IsCleanName) l → Of ListIsClean (list_with p l)
list_with_clean None l h = tt
list_with_clean (Some p) None h = tt
list_with_clean (Some p) (Some l) h = h

if_of : {A : Type 0} (P : A → Type 0) (b : Bool) (o : Option A) → Of P o → Of P (cond b o None)
if_of P true o h = h
if_of P false o h = tt

if_some : {A : Type 0} (P : A → Type 0) (b : Bool) (x : A) → P x → Of P (cond b (Some x) None)
if_some P true x h = h
if_some P false x h = tt

answer_in_clean : (v : Version) (d : Data) → HasTexts d → Of AnswerIsClean (answer_in v d)
unfolding answer_in
answer_in_clean v d h =
    if_of AnswerIsClean (has_size 3 d) _ (answer_with_clean (point_in (codes "attribute") d) (member_in (codes "line") (line_in v) d) (in_member (Each IsCleanPair) (codes "line") (line_in v) (line_in_clean v) d h))

list_in_clean : (d : Data) → HasTexts d → Of ListIsClean (list_in d)
unfolding list_in
list_in_clean d h =
    if_of ListIsClean (has_size 3 d) _ (list_with_clean (point_in (codes "list") d) (member_in (codes "names") names_in d) (in_member (Each IsCleanName) (codes "names") names_in names_in_clean d h))

answers_in_clean : (v : Version) (d : Data) → HasTexts d → Of (Each AnswerIsClean) (answers_in v d)
unfolding answers_in
answers_in_clean v d h =
    of_then (Each AnswerIsClean) (Each AnswerIsClean) answers_apart (λ es k. if_some (Each AnswerIsClean) (differ (answer_points es)) es k) (option_and_then (each (answer_in v)) (items_in d)) (each_item AnswerIsClean (answer_in v) (answer_in_clean v) d h)

lists_in_clean : (d : Data) → HasTexts d → Of (Each ListIsClean) (lists_in d)
unfolding lists_in
lists_in_clean d h =
    of_then (Each ListIsClean) (Each ListIsClean) lists_apart (λ es k. if_some (Each ListIsClean) (differ (list_points es)) es k) (option_and_then (each list_in) (items_in d)) (each_item ListIsClean list_in list_in_clean d h)

abbrev FileIsClean : File → Type 0
FileIsClean f = Each AnswerIsClean f.answers × Each ListIsClean f.lists

file_of_clean : (v : Version) (d : Data) → HasTexts d → Of FileIsClean (file_of v d)
file_of_clean v d h =
    let lists = in_member (Each ListIsClean) (codes "lists") lists_in lists_in_clean d h in
    of_then (Each AnswerIsClean) FileIsClean (λ answers. option_map (file_at v answers) (member_in (codes "lists") lists_in d))
    (λ answers own. of_map (Each ListIsClean) FileIsClean (file_at v answers) (λ ls k. (own, k)) (member_in (codes "lists") lists_in d) lists)
    (member_in (codes "answers") (answers_in v) d) (in_member (Each AnswerIsClean) (codes "answers") (answers_in v) (answers_in_clean v) d h)

file_in_clean : (d : Data) → HasTexts d → Of FileIsClean (file_in d)
unfolding file_in
file_in_clean d h = if_of FileIsClean (says_format d) _ (of_then (λ _. Unit {0}) FileIsClean (λ v. file_of v d) (λ v k. file_of_clean v d h) (version_in d) (any (version_in d)))

-- ---- maps

abbrev ListsAreClean : FinMap cell_cmp Names → Type 0
ListsAreClean m = (r : RelId) (i : InstanceId) (ns : Names) → Known m r i ns → Each IsCleanName ns

one_list : (m : Lists) (before : FinMap cell_cmp Names) (o : Option RelId) (e : ListEntry) → ListIsClean e → ListsAreClean before → ListsAreClean (put_list m before o e)
one_list m before None e is h = h
one_list m before (Some r) e is h = λ q j ns k. go q j ns (inserted before r (list_instance m r e.point.name) e.names q j ns k)
  where
    go : (q : RelId) (j : InstanceId) (ns : Names) → ((q ≡ r) × (j ≡ list_instance m r e.point.name) × (e.names ≡ ns)) ⊎ Known before q j ns → Each IsCleanName ns
    go q j ns (inl x) = subst (Each IsCleanName) x.2 is
    go q j ns (inr old) = h q j ns old

all_lists : (m : Lists) (before : FinMap cell_cmp Names) (es : List ListEntry) → Each ListIsClean es → ListsAreClean before → ListsAreClean (put_lists m before es)
all_lists m before [] is h = h
all_lists m before (e ∷ es) is h = all_lists m (put_list m before (relation_named m e.point.phrase) e) es is.1 (one_list m before (relation_named m e.point.phrase) e is.0 h)

no_list : ListsAreClean empty
no_list r i ns k = absurd (let none : ◌≡◌ {A = Option Names} None (Some ns) = sym (get-empty cell_cmp (r.0, i)) ∙ k in cc none)

lists_clean : (m : Lists) (es : List ListEntry) → Each ListIsClean es → ListsAreClean (lists_of_file m es)
unfolding lists_of_file
lists_clean m es is = all_lists m empty es is no_list

-- what holds of each answer that isn't refused holds of those that are put
module _ (m : Lists) (P : AttrId → InstanceId → Answer → Type 0) where
  abbrev AreHeld : FinMap cell_cmp Answer → Type 0
  AreHeld answers = (a : AttrId) (i : InstanceId) (l : Answer) → Answered answers a i l → P a i l

  abbrev Gives : AnswerEntry → Type 0
  Gives e = (a : AttrId) → attribute_named m e.point.phrase ≡ Some a → is_unknown_answer e.line ≡ false → P a (answer_instance m a e.point.name) e.line

  one_answer : (before : FinMap cell_cmp Answer) (o : Option AttrId) (e : AnswerEntry) → attribute_named m e.point.phrase ≡ o → Gives e → AreHeld before → AreHeld (put_answer m before o e)
  one_answer before None e is gives h = h
  one_answer before (Some a) e is gives h = go (is_unknown_answer e.line) refl
    where
      new : P a (answer_instance m a e.point.name) e.line → (b : AttrId) (j : InstanceId) (l : Answer) → ((b ≡ a) × (j ≡ answer_instance m a e.point.name) × (e.line ≡ l)) ⊎ Answered before b j l → P b j l
      new own b j l (inl x) = subst (λ (k : AttrId). P k j l) (sym x.0) (subst (λ (k : InstanceId). P a k l) (sym x.1) (subst (λ (k : Answer). P a (answer_instance m a e.point.name) k) x.2 own))
      new own b j l (inr old) = h b j l old

      go : (t : Bool) → is_unknown_answer e.line ≡ t → AreHeld (cond t before (insert before (a.0, answer_instance m a e.point.name) e.line))
      go true q = h
      go false q = λ b j l k. new (gives a is q) b j l (answer_inserted before a (answer_instance m a e.point.name) e.line b j l k)

  all_answers : (before : FinMap cell_cmp Answer) (es : List AnswerEntry) → Each Gives es → AreHeld before → AreHeld (put_answers m before es)
  all_answers before [] gives h = h
  all_answers before (e ∷ es) gives h = all_answers (put_answer m before (attribute_named m e.point.phrase) e) es gives.1 (one_answer before (attribute_named m e.point.phrase) e refl gives.0 h)

  none_answered : AreHeld empty
  none_answered a i l k = absurd (let none : ◌≡◌ {A = Option Answer} None (Some l) = sym (get-empty cell_cmp (a.0, i)) ∙ k in cc none)

  pub answers_held : (es : List AnswerEntry) → Each Gives es → AreHeld (answers_of_file m es)
  unfolding answers_of_file
  answers_held es gives = all_answers empty es gives none_answered

-- ---- a loaded case

named_has : (m : Lists) (phrase : List ℕ) (a : AttrId) → attribute_named m phrase ≡ Some a → a.0 < length m.attributes
named_has m phrase a e = go (position (bytes_eq phrase) (attribute_phrases m)) refl e
  where
    go : (o : Option ℕ) → position (bytes_eq phrase) (attribute_phrases m) ≡ o → option_map (λ n. let x : AttrId = record { 0 = n } in x) o ≡ Some a → a.0 < length m.attributes
    go None q g = absurd (cc g)
    go (Some n) q g =
        let p = position-Some (bytes_eq phrase) (attribute_phrases m) n [] q in
        let id : AttrId = record { 0 = n } in
        let is : id ≡ a = cc g in
        let same : n ≡ a.0 = ap (λ (x : AttrId). x.0) is in
        omega (arith, p.0, same, length-map m.attributes (λ x. x.phrase))

module _ (m : Lists) (ruled : List Bool) (model : IsModel m) (f : File) (taken : least_of (entry_refusals m ruled (live_in m f) f) ≡ None) where
  abbrev IsTold : AttrId → InstanceId → Answer → Type 0
  IsTold a i l = (is_live (live_in m f) i ≡ true) × IsAnswer (shape_of m) ruled a i l

  entry_told : (e : AnswerEntry) (o : Option AttrId) → attribute_named m e.point.phrase ≡ o → answer_refusal m ruled (live_in m f) o e ≡ None → Gives m IsTold e
  entry_told e None is h = λ a named known. absurd (let q : None ≡ Some a = sym is ∙ named in cc q)
  entry_told e (Some b) is h = λ a named known.
      let same : b ≡ a = (let q : Some b ≡ Some a = sym is ∙ named in cc q) in
      let fault = (or_none (answer_fault (shape_of m) ruled (living (live_in m f)) b (answer_instance m b e.point.name) e.line) (text_refusal e.line) h).0 in
      subst (λ (k : AttrId). IsTold k (answer_instance m k e.point.name) e.line) same
      (is_answer (shape_of m) ruled (shape_is m model) (living (live_in m f)) b (answer_instance m b e.point.name) e.line (named_has m e.point.phrase b is) known fault)

  entries_told : (es : List AnswerEntry) → AreAnswerable m ruled (live_in m f) es → Each (Gives m IsTold) es
  entries_told [] h = tt
  entries_told (e ∷ es) h = (entry_told e (attribute_named m e.point.phrase) refl h.0, entries_told es h.1)

  file_fits : Fits (shape_of m) ruled (case_of m f)
  file_fits =
      all_fits (shape_of m) ruled (shape_is m model) (lists_of_file m f.lists) (file_taken m ruled f taken) (answers_of_file m f.answers)
      (answers_held m IsTold f.answers (entries_told f.answers (file_answerable m ruled f taken)))

clean_gives : (m : Lists) (es : List AnswerEntry) → Each AnswerIsClean es → Each (Gives m (λ a i l. Each IsCleanPair l)) es
clean_gives m [] h = tt
clean_gives m (e ∷ es) h = (λ a named known. h.0, clean_gives m es h.1)

entries_taken : (m : Lists) (ruled : List Bool) (f : File) → least_of (refusals_of m ruled f) ≡ None → least_of (entry_refusals m ruled (live_in m f) f) ≡ None
entries_taken m ruled f h = go (least_of (entry_refusals m ruled (live_in m f) f)) refl
  where
    go : (o : Option LoadFault) → least_of (entry_refusals m ruled (live_in m f) f) ≡ o → o ≡ None
    go None e = refl
    go (Some x) e = absurd (let q : Some x ≡ None = sym (told_early m ruled f x e) ∙ h in cc q)

pub loaded_fits : (m : Lists) (ruled : List Bool) (bytes : List ℕ) (c : CaseView) (o : Origin) → IsModel m → IsLoaded m ruled bytes c o → Fits (shape_of m) ruled c
loaded_fits m ruled bytes c o model h = subst (Fits (shape_of m) ruled) (sym h.case) (file_fits m ruled model h.file (entries_taken m ruled h.file h.faultless))

pub loaded_clean : (m : Lists) (ruled : List Bool) (bytes : List ℕ) (c : CaseView) (o : Origin) → IsLoaded m ruled bytes c o → HasClean c.lists c.answers
loaded_clean m ruled bytes c o h =
    let texts = json_is_text_holds bytes h.value h.reads.0 h.reads.1 in
    let is : FileIsClean h.file = (let k : Of FileIsClean (Some h.file) = subst (Of FileIsClean) h.form (file_in_clean h.value texts) in k) in
    subst (λ (x : CaseView). HasClean x.lists x.answers) (sym h.case)
    (record { names = lists_clean m h.file.lists is.1; answers_are = answers_held m (λ a i l. Each IsCleanPair l) h.file.answers (clean_gives m h.file.answers is.0) })
