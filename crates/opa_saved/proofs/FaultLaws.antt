-- The refusals of a file, and the fault that is told.
use Rattle.std.proofs.Common.{◌≡◌, ◌≤◌, ◌<◌, ◌==◌, ℕ, suc, Bool, true, false, cond, List, [], ◌∷◌, ◌++◌, length, map, arith, refl, sym, ap, subst, ◌∙◌, ◌⊎◌, inl, inr}
use Rattle.std.specs.Prelude.{Option, None, Some, nat_lt, not, ◌||◌, ◌&&◌, flat_map, option_to_list, position}
use Rattle.std.specs.List.{list_all, list_any, AllByRecursion}
use Rattle.std.specs.Option.{option_or, option_map}
use Rattle.std.specs.FinMap.{FinMap, empty, len, get-empty}
use Rattle.std.specs.Str.{bytes_eq}
use Rattle.std.proofs.lemmas.Bool.{or_parts, le-ltb, lt-ltb}
use Rattle.std.proofs.lemmas.List.Folds.{list_any-append}
use Rattle.std.proofs.lemmas.List.Quantifiers.{position-Some}
use Rattle.std.proofs.lemmas.Option.{same_Some}
use mathlib.Core.Bool.{true≢false}
use Rattle.opa_model.specs.declared.ids.AttrId.{AttrId}
use Rattle.opa_model.specs.declared.ids.RelId.{RelId}
use Rattle.opa_model.specs.declared.lists.Lists.{Lists}
use Rattle.opa_model.specs.declared.things.Relation.{Relation}
use Rattle.opa_model.specs.Lookups.{relation_named, attribute_named, relation_phrases}
use Rattle.opa_cells.specs.declared.instance.InstanceId.{InstanceId}
use Rattle.opa_cells.specs.Keys.{cell_cmp}
use Rattle.opa_case.specs.declared.change.Refusal.{Refusal}
use Rattle.opa_case.specs.declared.change.Refusal.TheVariants as refusals
use Rattle.opa_case.specs.Refusals.{number_of}
use Rattle.opa_case.specs.Shapes.{shape_of}
use Rattle.opa_case.specs.Live.{Names, Population}
use Rattle.opa_case.specs.Cases.{are_names}
use Rattle.opa_case.specs.Steps.{is_full, is_misplaced, cant_name, list_fault, is_unanswerable, has_kind, in_bounds, answer_fault, with_answer}
use Rattle.opa_case.specs.Fits.{Known}
use Rattle.opa_case.proofs.Stands.{either_has}
use Rattle.opa_case.proofs.Kept.{inserted}
use Rattle.opa_saved.specs.declared.entries.AnswerEntry.{AnswerEntry}
use Rattle.opa_saved.specs.declared.entries.ListEntry.{ListEntry}
use Rattle.opa_saved.specs.declared.fault.LoadFault.{LoadFault}
use Rattle.opa_saved.specs.declared.fault.LoadFault.TheVariants as fault
use Rattle.opa_saved.specs.Forms.{File}
use Rattle.opa_saved.specs.Loading.{living, list_instance, answer_instance, is_long_text, list_refusal, answer_refusal, text_refusal, list_refusals, answer_refusals, full_refusal, entry_refusals, refusals_of, has_number, least_of, put_list, put_lists, lists_of_file, answers_of_file, live_in}
use Rattle.opa_saved.specs.Building.{AreTaken, AreAnswerable}

-- ---- no refusal has a number

pub record Quiet (rs : List Refusal) : Type 0 where
  pub name : has_number 1 rs ≡ false
  pub kind : has_number 2 rs ≡ false
  pub range : has_number 3 rs ≡ false
  pub limit : has_number 4 rs ≡ false

none_left : (b : Bool) (f : LoadFault) (x : Option LoadFault) → cond b (Some f) x ≡ None → (b ≡ false) × (x ≡ None)
none_left true f x h = absurd (cc h)
none_left false f x h = (refl, h)

pub least_quiet : (rs : List Refusal) → least_of rs ≡ None → Quiet rs
least_quiet rs h =
    let a = none_left (has_number 1 rs) fault.Name _ h in
    let b = none_left (has_number 2 rs) fault.Kind _ a.1 in
    let c = none_left (has_number 3 rs) fault.Range _ b.1 in
    let d = none_left (has_number 4 rs) fault.Limit None c.1 in
    record { name = a.0; kind = b.0; range = c.0; limit = d.0 }

has_append : (k : ℕ) (xs ys : List Refusal) → has_number k (xs ++ ys) ≡ (has_number k xs || has_number k ys)
has_append k xs ys = list_any-append (λ r. number_of r == k) xs ys

pub quiet_parts : (xs ys : List Refusal) → Quiet (xs ++ ys) → Quiet xs × Quiet ys
quiet_parts xs ys q =
    let a = or_parts (has_number 1 xs) (has_number 1 ys) (sym (has_append 1 xs ys) ∙ q.name) in
    let b = or_parts (has_number 2 xs) (has_number 2 ys) (sym (has_append 2 xs ys) ∙ q.kind) in
    let c = or_parts (has_number 3 xs) (has_number 3 ys) (sym (has_append 3 xs ys) ∙ q.range) in
    let d = or_parts (has_number 4 xs) (has_number 4 ys) (sym (has_append 4 xs ys) ∙ q.limit) in
    (record { name = a.0; kind = b.0; range = c.0; limit = d.0 }, record { name = a.1; kind = b.1; range = c.1; limit = d.1 })

pub quiet_one : (o : Option Refusal) → (o ≡ Some refusals.NoMemory → ⊥) → Quiet (option_to_list o) → o ≡ None
quiet_one None never q = refl
quiet_one (Some refusals.Name) never q = absurd (true≢false q.name)
quiet_one (Some refusals.Kind) never q = absurd (true≢false q.kind)
quiet_one (Some refusals.Range) never q = absurd (true≢false q.range)
quiet_one (Some refusals.Limit) never q = absurd (true≢false q.limit)
quiet_one (Some refusals.NoMemory) never q = absurd (never refl)

pub quiet_flat : {E : Type 0} (g : E → Option Refusal) → ((e : E) → g e ≡ Some refusals.NoMemory → ⊥) → (es : List E) → Quiet (flat_map (λ e. option_to_list (g e)) es) → AllByRecursion (λ e. g e ≡ None) es
quiet_flat g never [] q = tt
quiet_flat g never (e ∷ es) q = let p = quiet_parts (option_to_list (g e)) (flat_map (λ x. option_to_list (g x)) es) q in (quiet_one (g e) (never e) p.0, quiet_flat g never es p.1)

-- ---- want of memory is no refusal of these

list_told : (a b c d e : Bool) → cond a (Some refusals.Name) (cond (not b) (Some refusals.Name) (cond c (Some refusals.Name) (cond d (Some refusals.Range) (cond e (Some refusals.Limit) None)))) ≡ Some refusals.NoMemory → ⊥
list_told true b c d e h = cc h
list_told false false c d e h = cc h
list_told false true true d e h = cc h
list_told false true false true e h = cc h
list_told false true false false true h = cc h
list_told false true false false false h = cc h

answer_told : (a b c d : Bool) → cond a (Some refusals.Name) (cond (not b) (Some refusals.Kind) (cond (not c) (Some refusals.Range) (cond d (Some refusals.Limit) None))) ≡ Some refusals.NoMemory → ⊥
answer_told true b c d h = cc h
answer_told false false c d h = cc h
answer_told false true false d h = cc h
answer_told false true true true h = cc h
answer_told false true true false h = cc h

limit_told : (b : Bool) → cond b (Some refusals.Limit) None ≡ Some refusals.NoMemory → ⊥
limit_told true h = cc h
limit_told false h = cc h

list_never : (m : Lists) (live : Population) (o : Option RelId) (e : ListEntry) → list_refusal m live o e ≡ Some refusals.NoMemory → ⊥
list_never m live None e h = cc h
list_never m live (Some r) e h =
    let i = list_instance m r e.point.name in
    let s = shape_of m in
    list_told (is_misplaced s (living live) r i) (are_names e.names) (list_any (cant_name s (living live) r i) e.names) (s.one r && nat_lt 1 (length e.names)) (list_any (λ n. nat_lt 100 (length n)) e.names) h

answer_never : (m : Lists) (ruled : List Bool) (live : Population) (o : Option AttrId) (e : AnswerEntry) → answer_refusal m ruled live o e ≡ Some refusals.NoMemory → ⊥
answer_never m ruled live None e h = cc h
answer_never m ruled live (Some a) e h = go (either_has (answer_fault (shape_of m) ruled (living live) a (answer_instance m a e.point.name) e.line) (text_refusal e.line) refusals.NoMemory h)
  where
    go : (answer_fault (shape_of m) ruled (living live) a (answer_instance m a e.point.name) e.line ≡ Some refusals.NoMemory) ⊎ (text_refusal e.line ≡ Some refusals.NoMemory) → ⊥
    go (inl g) = answer_told (is_unanswerable (shape_of m) ruled (living live) a (answer_instance m a e.point.name)) (list_all (λ p. has_kind ((shape_of m).attribute a).kind p.1) e.line) (list_all (λ p. in_bounds ((shape_of m).attribute a) p.1) e.line) (nat_lt 1000 (length e.line) || nat_lt 100000 (len (with_answer (living live) a (answer_instance m a e.point.name) e.line).answers)) g
    go (inr g) = limit_told (list_any (λ p. is_long_text p.1) e.line) g

-- ---- what isn't refused

relation_bound : (m : Lists) (phrase : List ℕ) (r : RelId) → relation_named m phrase ≡ Some r → r.0 < length m.relations
relation_bound m phrase r h = go (position (bytes_eq phrase) (relation_phrases m)) refl h
  where
    phrases : (rs : List Relation) → length (map (λ x. x.phrase) rs) ≡ length rs
    phrases [] = refl
    phrases (r ∷ rs) = ap suc (phrases rs)

    go : (o : Option ℕ) → position (bytes_eq phrase) (relation_phrases m) ≡ o → option_map (λ n. let x : RelId = record { 0 = n } in x) o ≡ Some r → r.0 < length m.relations
    go None e g = absurd (cc g)
    go (Some n) e g =
        let p = position-Some (bytes_eq phrase) (relation_phrases m) n [] e in
        let same : n ≡ r.0 = ap (λ (x : RelId). x.0) (same_Some (record { 0 = n }) r g) in
        omega (arith, p.0, same, phrases m.relations)

module _ (m : Lists) (live : Population) where
  -- each list that is known is declared and isn't refused
  abbrev AreGood : FinMap cell_cmp Names → Type 0
  AreGood lists = (r : RelId) (i : InstanceId) (v : Names) → Known lists r i v → (r.0 < length m.relations) × (list_fault (shape_of m) (living live) r i v ≡ None)

  good_one : (before : FinMap cell_cmp Names) (o : Option RelId) (e : ListEntry) → ((r : RelId) → o ≡ Some r → r.0 < length m.relations) → AreGood before → list_refusal m live o e ≡ None → AreGood (put_list m before o e)
  good_one before None e bound good h q j v k = absurd (cc h)
  good_one before (Some r) e bound good h q j v k = go (inserted before r (list_instance m r e.point.name) e.names q j v k)
    where
      go : ((q ≡ r) × (j ≡ list_instance m r e.point.name) × (e.names ≡ v)) ⊎ Known before q j v → (q.0 < length m.relations) × (list_fault (shape_of m) (living live) q j v ≡ None)
      go (inl x) = (
        subst (λ (y : RelId). y.0 < length m.relations) (sym x.0) (bound r refl),
        ap (λ (y : RelId). list_fault (shape_of m) (living live) y j v) x.0 ∙ ap (λ y. list_fault (shape_of m) (living live) r y v) x.1 ∙ ap (list_fault (shape_of m) (living live) r (list_instance m r e.point.name)) (sym x.2) ∙ h,
      )
      go (inr x) = good q j v x

  good_all : (before : FinMap cell_cmp Names) (es : List ListEntry) → AreGood before → AllByRecursion (λ e. list_refusal m live (relation_named m e.point.phrase) e ≡ None) es → AreGood (put_lists m before es)
  good_all before [] good h = good
  good_all before (e ∷ es) good h = good_all (put_list m before (relation_named m e.point.phrase) e) es (good_one before (relation_named m e.point.phrase) e (relation_bound m e.point.phrase) good h.0) h.1

  good_none : AreGood empty
  good_none r i v k = absurd (let none : ◌≡◌ {A = Option Names} None (Some v) = sym (get-empty cell_cmp (r.0, i)) ∙ k in cc none)

pub good_lists : (m : Lists) (live : Population) (es : List ListEntry) → AllByRecursion (λ e. list_refusal m live (relation_named m e.point.phrase) e ≡ None) es → AreGood m live (lists_of_file m es)
unfolding lists_of_file
good_lists m live es h = good_all m live empty es (good_none m live) h

not_told : (b : Bool) → ◌≡◌ {A = Option Refusal} (cond b (Some refusals.Limit) None) None → b ≡ false
not_told true h = absurd (cc h)
not_told false h = refl

module _ (m : Lists) (ruled : List Bool) (f : File) (h : least_of (entry_refusals m ruled (live_in m f) f) ≡ None) where
  quiet : Quiet (list_refusals m (live_in m f) f.lists) × Quiet (answer_refusals m ruled (live_in m f) f.answers ++ option_to_list (full_refusal m ruled (live_in m f)))
  quiet = quiet_parts _ _ (least_quiet (entry_refusals m ruled (live_in m f) f) h)

  quiet_rest : Quiet (answer_refusals m ruled (live_in m f) f.answers) × Quiet (option_to_list (full_refusal m ruled (live_in m f)))
  quiet_rest = quiet_parts (answer_refusals m ruled (live_in m f) f.answers) _ quiet.1

  pub file_taken : AreTaken (shape_of m) ruled (lists_of_file m f.lists)
  file_taken =
      let good = good_lists m (live_in m f) f.lists (quiet_flat (λ (e : ListEntry). list_refusal m (live_in m f) (relation_named m e.point.phrase) e) (λ e. list_never m (live_in m f) (relation_named m e.point.phrase) e) f.lists quiet.0) in
      record {
        declared = λ r i v k. (good r i v k).0;
        taken = λ r i v k. (good r i v k).1;
        fine = not_told (is_full (shape_of m) ruled (live_in m f)) (quiet_one (full_refusal m ruled (live_in m f)) (limit_told (is_full (shape_of m) ruled (live_in m f))) quiet_rest.1);
      }

  pub file_answerable : AreAnswerable m ruled (live_in m f) f.answers
  file_answerable = quiet_flat (λ (e : AnswerEntry). answer_refusal m ruled (live_in m f) (attribute_named m e.point.phrase) e) (λ e. answer_never m ruled (live_in m f) (attribute_named m e.point.phrase) e) f.answers quiet_rest.0

-- ---- the fault of all

-- with one limit more
more_limit : (a b c d : Bool) → cond (a || false) (Some fault.Name) (cond (b || false) (Some fault.Kind) (cond (c || false) (Some fault.Range) (cond (d || true) (Some fault.Limit) None))) ≡ option_or (cond a (Some fault.Name) (cond b (Some fault.Kind) (cond c (Some fault.Range) (cond d (Some fault.Limit) None)))) (Some fault.Limit)
more_limit true b c d = refl
more_limit false true c d = refl
more_limit false false true d = refl
more_limit false false false true = refl
more_limit false false false false = refl

least_limit : (rs : List Refusal) → least_of (rs ++ refusals.Limit ∷ []) ≡ option_or (least_of rs) (Some fault.Limit)
least_limit rs =
    ap (λ b. cond b (Some fault.Name) (cond (has_number 2 (rs ++ refusals.Limit ∷ [])) (Some fault.Kind) (cond (has_number 3 (rs ++ refusals.Limit ∷ [])) (Some fault.Range) (cond (has_number 4 (rs ++ refusals.Limit ∷ [])) (Some fault.Limit) None)))) (has_append 1 rs (refusals.Limit ∷ []))
    ∙ ap (λ b. cond (has_number 1 rs || false) (Some fault.Name) (cond b (Some fault.Kind) (cond (has_number 3 (rs ++ refusals.Limit ∷ [])) (Some fault.Range) (cond (has_number 4 (rs ++ refusals.Limit ∷ [])) (Some fault.Limit) None)))) (has_append 2 rs (refusals.Limit ∷ []))
    ∙ ap (λ b. cond (has_number 1 rs || false) (Some fault.Name) (cond (has_number 2 rs || false) (Some fault.Kind) (cond b (Some fault.Range) (cond (has_number 4 (rs ++ refusals.Limit ∷ [])) (Some fault.Limit) None)))) (has_append 3 rs (refusals.Limit ∷ []))
    ∙ ap (λ b. cond (has_number 1 rs || false) (Some fault.Name) (cond (has_number 2 rs || false) (Some fault.Kind) (cond (has_number 3 rs || false) (Some fault.Range) (cond b (Some fault.Limit) None)))) (has_append 4 rs (refusals.Limit ∷ []))
    ∙ more_limit (has_number 1 rs) (has_number 2 rs) (has_number 3 rs) (has_number 4 rs)

append_none : (rs : List Refusal) → rs ++ [] ≡ rs
append_none [] = refl
append_none (r ∷ rs) = ap (λ xs. r ∷ xs) (append_none rs)

or_last : (o : Option LoadFault) → o ≡ option_or o None
or_last None = refl
or_last (Some x) = refl

least_over : (rs : List Refusal) (b : Bool) → least_of (rs ++ option_to_list (cond b (Some refusals.Limit) None)) ≡ option_or (least_of rs) (cond b (Some fault.Limit) None)
least_over rs true = least_limit rs
least_over rs false = ap least_of (append_none rs) ∙ or_last (least_of rs)

module _ (m : Lists) (ruled : List Bool) (f : File) where
  told : least_of (refusals_of m ruled f) ≡ option_or (least_of (entry_refusals m ruled (live_in m f) f)) (cond (nat_lt 100000 (len (answers_of_file m f.answers))) (Some fault.Limit) None)
  unfolding refusals_of
  told = least_over (entry_refusals m ruled (live_in m f) f) (nat_lt 100000 (len (answers_of_file m f.answers)))

  pub told_early : (x : LoadFault) → least_of (entry_refusals m ruled (live_in m f) f) ≡ Some x → least_of (refusals_of m ruled f) ≡ Some x
  told_early x h = told ∙ ap (λ o. option_or o (cond (nat_lt 100000 (len (answers_of_file m f.answers))) (Some fault.Limit) None)) h

  pub told_none : least_of (entry_refusals m ruled (live_in m f) f) ≡ None → len (answers_of_file m f.answers) ≤ 100000 → least_of (refusals_of m ruled f) ≡ None
  told_none h few = told ∙ ap (λ o. option_or o (cond (nat_lt 100000 (len (answers_of_file m f.answers))) (Some fault.Limit) None)) h ∙ ap (λ b. cond b (Some fault.Limit) None) (le-ltb 100000 (len (answers_of_file m f.answers)) few)

  pub told_over : least_of (entry_refusals m ruled (live_in m f) f) ≡ None → 100000 < len (answers_of_file m f.answers) → least_of (refusals_of m ruled f) ≡ Some fault.Limit
  told_over h many = told ∙ ap (λ o. option_or o (cond (nat_lt 100000 (len (answers_of_file m f.answers))) (Some fault.Limit) None)) h ∙ ap (λ b. cond b (Some fault.Limit) None) (lt-ltb 100000 (len (answers_of_file m f.answers)) many)
