-- A slot is dirty where it is fresh or something that it reads differs; answers make nothing fresh.
use Rattle.std.proofs.Common.{◌≡◌, List, [], ◌∷◌, Bool, true, false, not, Contains, is_some, refl, sym, ◌∙◌, ap, subst}
use Rattle.std.specs.Prelude.{map, ◌||◌, ◌&&◌, ◌==◌}
use Rattle.std.specs.List.{list_any}
use Rattle.std.specs.FinMap.{FinMap, get}
use Rattle.std.specs.Option.{option_or}
use Rattle.opa_io.proofs.Bools.{or_assoc}
use Rattle.opa_model.specs.declared.ids.AttrId.{AttrId}
use Rattle.opa_cells.specs.Instances.{is_same, global}
use Rattle.opa_cells.specs.Keys.{cell_cmp}
use Rattle.opa_cells.specs.declared.instance.InstanceId.{InstanceId}
use Rattle.opa_cells.proofs.Orders.{same_itself}
use Rattle.opa_case.specs.Cases.{CaseView, IsLive}
use Rattle.opa_case.specs.Live.{Names, Population, is_live, container_of}
use Rattle.opa_case.specs.Shapes.{shape_of}
use Rattle.opa_case.specs.declared.question.Question.{Question}
use Rattle.opa_case.specs.declared.question.Question.TheVariants as question
use Rattle.opa_tree.specs.Rules.{rule_of}
use Rattle.opa_mean.specs.Given.{facts_of}
use Rattle.opa_mean.specs.Places.{owner_of}
use Rattle.opa_mean.specs.Reads.{reads, rule_reads}
use Rattle.opa_mean.specs.Sameness.{same_question, same_lists, same_options}
use Rattle.opa_mean.specs.Slots.{is_slot}
use Rattle.opa_mean.proofs.Everywhere.{each_of_all}
use Rattle.opa_mean.proofs.Exact.{lists_exact, question_exact}
use Rattle.opa_mean.proofs.Fitting.{in_live}
use Rattle.opa_mean.proofs.SameBoth.{lists_itself, options_itself, question_itself}
use Rattle.opa_mean.specs.Reached.Dirty.{slot_reads, is_changed, is_fresh, is_reached, FreshOrReads}
use Rattle.opa_mean.specs.Reached.Settling.{Shift, IsShift, IsByAnswers, NothingIsFresh, ReadersStay, is_told, new_reads}
use Rattle.opa_mean.proofs.reached.Causes.{passes_in}
use Rattle.opa_mean.proofs.reached.Naming.{slot_named}
use Rattle.opa_mean.proofs.reached.Parted.{parts_of}

live_flag : (c : CaseView) (i : InstanceId) → list_any (is_same i) (facts_of c).instances ≡ is_live c.live i
live_flag c i = ap (λ b. is_same i global || b) (go c.live)
  where
    go : (live : Population) → list_any (is_same i) (map (λ (p : InstanceId × InstanceId). p.0) live) ≡ list_any (λ p. is_same i p.0) live
    go [] = refl
    go (p ∷ live) = ap (λ b. is_same i p.0 || b) (go live)

pub fresh_or_reads : FreshOrReads
fresh_or_reads r c c' a i =
    ap (λ l. not (l && same_options is_same (container_of c.live i) (container_of c'.live i)) || (not (same_lists same_question (slot_reads r c a i) (slot_reads r c' a i)) || list_any (is_changed r c c') (slot_reads r c' a i))) (live_flag c i)
    ∙ or_assoc (not (is_live c.live i && same_options is_same (container_of c.live i) (container_of c'.live i))) (not (same_lists same_question (slot_reads r c a i) (slot_reads r c' a i))) (list_any (is_changed r c c') (slot_reads r c' a i))

-- what is fresh is dirty
pub fresh_is_reached : (s : Shift) (a : AttrId) (i : InstanceId) → is_fresh s.rules s.old s.new a i ≡ true → is_reached s.rules s.old s.new a i ≡ true
fresh_is_reached s a i fresh = fresh_or_reads s.rules s.old s.new a i ∙ ap (λ b. b || list_any (is_told s) (new_reads s a i)) fresh

-- what reads something that differs is dirty
pub reader_is_reached : (s : Shift) (a : AttrId) (i : InstanceId) (q : Question) → Contains (new_reads s a i) q → is_told s q ≡ true → is_reached s.rules s.old s.new a i ≡ true
reader_is_reached s a i q reads told = fresh_or_reads s.rules s.old s.new a i ∙ either (is_fresh s.rules s.old s.new a i) (passes_in (is_told s) (new_reads s a i) q reads told)
  where
    either : (b : Bool) → list_any (is_told s) (new_reads s a i) ≡ true → (b || list_any (is_told s) (new_reads s a i)) ≡ true
    either true e = refl
    either false e = e

pub stale_parts : (x y z : Bool) → (not (x && y) || not z) ≡ false → (x ≡ true) × (z ≡ true)
stale_parts true true true h = (refl, refl)
stale_parts true true false h = absurd (cc h)
stale_parts true false z h = absurd (cc h)
stale_parts false y z h = absurd (cc h)

-- where a slot that isn't fresh reads a line, its instance was live before
pub read_before : (s : Shift) → IsShift s → (b : AttrId) (j : InstanceId) → is_fresh s.rules s.old s.new b j ≡ false → (a : AttrId) (i : InstanceId) → Contains (new_reads s b j) (question.Attr a i) → IsLive s.old i
read_before s is b j stale a i there = in_live s.old i (each_of_all _ (slot_reads s.rules s.old b j) (slot_named s.rules s.old is.before b j two.0) (question.Attr a i) (subst (λ (qs : List Question). Contains qs (question.Attr a i)) (sym same) there)).0
  where
    two : (is_live s.old.live j ≡ true) × (same_lists same_question (slot_reads s.rules s.old b j) (new_reads s b j) ≡ true)
    two = stale_parts (is_live s.old.live j) (same_options is_same (container_of s.old.live j) (container_of s.new.live j)) (same_lists same_question (slot_reads s.rules s.old b j) (new_reads s b j)) stale

    same : slot_reads s.rules s.old b j ≡ new_reads s b j
    same = lists_exact same_question question_exact (slot_reads s.rules s.old b j) (new_reads s b j) two.1

module _ (s : Shift) (by : IsByAnswers s) where
  abbrev reads_with : AttrId → InstanceId → FinMap cell_cmp Names → FinMap cell_cmp Names → Population → List Question
  reads_with a i lists every live = rule_reads (rule_of s.rules.rules a) (λ e. reads (shape_of s.rules.model) (λ q j. option_or (get lists (q.0, j)) (get every (q.0, j))) (container_of live) e (i ∷ []))

  reads_same : (a : AttrId) (i : InstanceId) → new_reads s a i ≡ slot_reads s.rules s.old a i
  reads_same a i = λ k. reads_with a i (by.lists k) (by.every k) (by.live k)

  slot_same : (a : AttrId) (i : InstanceId) → is_slot s.rules s.new a i ≡ is_slot s.rules s.old a i
  slot_same a i = ap (λ (p : Population). (is_live p i && (i.entity.0 == owner_of (shape_of s.rules.model) a)) && is_some (rule_of s.rules.rules a)) by.live

none_of : (x y z : Bool) → x ≡ true → y ≡ true → z ≡ true → (not (x && y) || not z) ≡ false
none_of true true true e f g = refl
none_of true true false e f g = absurd (cc g)
none_of true false z e f g = absurd (cc f)
none_of false y z e f g = absurd (cc e)

pub nothing_is_fresh : NothingIsFresh
nothing_is_fresh s by a i slot =
    none_of (is_live s.old.live i) (same_options is_same (container_of s.old.live i) (container_of s.new.live i)) (same_lists same_question (slot_reads s.rules s.old a i) (new_reads s a i))
    (ap (λ (p : Population). is_live p i) (sym by.live) ∙ (parts_of s.rules s.new a i slot).live)
    (ap (λ (p : Population). same_options is_same (container_of s.old.live i) (container_of p i)) by.live ∙ options_itself is_same same_itself (container_of s.old.live i))
    (ap (same_lists same_question (slot_reads s.rules s.old a i)) (reads_same s by a i) ∙ lists_itself same_question question_itself (slot_reads s.rules s.old a i))

pub readers_stay : ReadersStay
readers_stay s by readers are = record {
  slots = λ q a i there. slot_same s by a i ∙ are.slots q a i there;
  read = λ q a i there. subst (λ (qs : List Question). Contains qs q) (sym (reads_same s by a i)) (are.read q a i there);
  all = λ q a i slot reads. are.all q a i (sym (slot_same s by a i) ∙ slot) (subst (λ (qs : List Question). Contains qs q) (reads_same s by a i) reads);
}
