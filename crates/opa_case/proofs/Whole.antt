-- Changes leave a whole case whole.
use Rattle.std.specs.Prelude.{◌≡◌, ◌≤◌, ◌-◌, ◌&&◌, ℕ, nat_lt, Bool, true, false, cond, not, List, [], ◌∷◌, Option, None, Some, Ok, IfSome, All, length, refl}
use Rattle.std.specs.List.{list_all, list_any}
use Rattle.std.specs.FinMap.{FinMap, get, insert, remove, empty, len, get-empty, len-empty, len-remove}
use Rattle.std.proofs.Common.{arith, ap, sym, subst, ◌∙◌}
use Rattle.std.proofs.lemmas.Bool.{or_parts, and_parts, ltb-false, le-ltb, not-false}
use Rattle.std.proofs.lemmas.List.Elements.{All-nil, All-cons}
use Rattle.opa_io.proofs.Options.{cond_none_parts}
use Rattle.opa_model.specs.declared.ids.AttrId.{AttrId}
use Rattle.opa_model.specs.declared.ids.RelId.{RelId}
use Rattle.opa_cells.specs.declared.instance.InstanceId.{InstanceId}
use Rattle.opa_cells.specs.Keys.{cell_cmp}
use Rattle.opa_cells.specs.Rows.{kept_if}
use Rattle.opa_cells.proofs.Orders.{cell_exact, cell_total, get_kept}
use Rattle.opa_cells.proofs.Walked.{fewer_kept}
use Rattle.opa_case.specs.declared.change.ChangeCommand.TheVariants.{Answer as SetAnswer, Withdraw, SetList, Forget}
use Rattle.opa_case.specs.declared.change.Refusal.TheVariants.{Name, Kind, Range, Limit}
use Rattle.opa_case.specs.Shapes.{Shape, IsShape}
use Rattle.opa_case.specs.Live.{Names, Population, live_of, is_live}
use Rattle.opa_case.specs.Cases.{CaseView, Answer, stored, are_names}
use Rattle.opa_case.specs.Steps.{has_kind, in_bounds, is_unknown_answer, is_unanswerable, is_misplaced, cant_name, is_full, slots, stays, answer_fault, list_fault, within, with_answer, without_answer, settle, with_list, without_list, unlisted}
use Rattle.opa_case.specs.Fits.{Known, Answered, Fits}
use Rattle.opa_case.specs.Turns.{Turns}
use Rattle.opa_case.specs.Whole.{IsWhole}
use Rattle.opa_case.specs.Laws.{StepIsWhole}
use Rattle.opa_case.proofs.Kept.{inserted, removed, guard, ok_is, passed, fault_none, tests_passed}
use Rattle.opa_case.proofs.Answering.{answer_inserted, answer_removed}
use Rattle.opa_case.proofs.Referring.{reference_forgotten}
use Rattle.opa_case.proofs.Turning.{forget_turns}
use Rattle.opa_case.proofs.Stepping.{settled_list, settled_answer}
use Rattle.opa_case.proofs.Settling.{either}

-- what is fewer isn't over a limit either
not_over : (limit n m : ℕ) → n ≤ m → nat_lt limit m ≡ false → nat_lt limit n ≡ false
not_over limit n m fewer h = le-ltb limit n (omega (arith, fewer, ltb-false limit m h))

-- what holds of each value that there may be, of the one that is found
pub of_found : {A : Type 0} (P : A → Type 0) (o p : Option A) → o ≡ p → ((x : A) → p ≡ Some x → P x) → IfSome o P
of_found P None p is h = tt
of_found P (Some x) p is h = h x (sym is)

-- no name has more than 100 bytes
abbrev IsShort : List ℕ → Type 0
IsShort n = length n ≤ 100

pub all_short : (ns : Names) → list_any (λ n. nat_lt 100 (length n)) ns ≡ false → All IsShort ns
all_short [] h = All-nil IsShort
all_short (n ∷ ns) h = let p = or_parts (nat_lt 100 (length n)) _ h in All-cons IsShort n ns (ltb-false 100 (length n) p.0) (all_short ns p.1)

-- a case of which nothing is known
pub none_whole : (c : CaseView) → c.lists ≡ empty → c.answers ≡ empty → c.live ≡ [] → IsWhole c
none_whole c no_lists no_answers no_live = record {
  listed = λ r i ns h. absurd (no_list r i ns h);
  answered = λ a i line h. absurd (no_answer a i line h);
  names = λ r i ns h. absurd (no_list r i ns h);
  short = λ r i ns h. absurd (no_list r i ns h);
  told = λ a i line h. absurd (no_answer a i line h);
  few = λ a i line h. absurd (no_answer a i line h);
  answers = ap (λ (m : FinMap cell_cmp Answer). nat_lt 100000 (len m)) no_answers ∙ ap (nat_lt 100000) (len-empty cell_cmp Answer);
  instances = ap (λ (live : Population). nat_lt 20000 (length live)) no_live;
}
  where
    no_list : (r : RelId) (i : InstanceId) (ns : Names) → Known c.lists r i ns → ⊥
    no_list r i ns h = absurd (cc (sym (ap (λ (m : FinMap cell_cmp Names). get m (r.0, i)) no_lists ∙ get-empty cell_cmp (r.0, i)) ∙ h))

    no_answer : (a : AttrId) (i : InstanceId) (line : Answer) → Answered c.answers a i line → ⊥
    no_answer a i line h = absurd (cc (sym (ap (λ (m : FinMap cell_cmp Answer). get m (a.0, i)) no_answers ∙ get-empty cell_cmp (a.0, i)) ∙ h))

-- Answers.

fewer_without : (m : FinMap cell_cmp Answer) (k : ℕ × InstanceId) → len (remove m k) ≤ len m
fewer_without m k = less _ (len m) (len (remove m k)) (len-remove cell_total m k)
  where
    less : (b : Bool) (n r : ℕ) → r ≡ cond b (n - 1) n → r ≤ n
    less true n r e = omega (arith, e)
    less false n r e = omega (arith, e)

pub withdrawn_whole : (c : CaseView) (a : AttrId) (i : InstanceId) → IsWhole c → IsWhole (without_answer c a i)
withdrawn_whole c a i whole = record {
  listed = whole.listed;
  answered = λ b j line h. whole.answered b j line (answer_removed c.answers (a.0, i) (b.0, j) line h);
  names = whole.names;
  short = whole.short;
  told = λ b j line h. whole.told b j line (answer_removed c.answers (a.0, i) (b.0, j) line h);
  few = λ b j line h. whole.few b j line (answer_removed c.answers (a.0, i) (b.0, j) line h);
  answers = not_over 100000 _ _ (fewer_without c.answers (a.0, i)) whole.answers;
  instances = whole.instances;
}

pub inserted_whole : (c : CaseView) (a : AttrId) (i : InstanceId) (line : Answer) → is_live c.live i ≡ true → is_unknown_answer line ≡ false → nat_lt 1000 (length line) ≡ false → nat_lt 100000 (len (with_answer c a i line).answers) ≡ false → IsWhole c → IsWhole (record c { answers = insert c.answers (a.0, i) line })
inserted_whole c a i line alive known short room whole = record {
  listed = whole.listed;
  answered = λ b j new h. either (is_live c.live j ≡ true) (answer_inserted c.answers a i line b j new h) (λ x. ap (is_live c.live) x.1 ∙ alive) (λ old. whole.answered b j new old);
  names = whole.names;
  short = whole.short;
  told = λ b j new h. either (is_unknown_answer new ≡ false) (answer_inserted c.answers a i line b j new h) (λ x. ap is_unknown_answer (sym x.2) ∙ known) (λ old. whole.told b j new old);
  few = λ b j new h. either (nat_lt 1000 (length new) ≡ false) (answer_inserted c.answers a i line b j new h) (λ x. ap (λ (l : Answer). nat_lt 1000 (length l)) (sym x.2) ∙ short) (λ old. whole.few b j new old);
  answers = ap (λ b. nat_lt 100000 (len (cond b (without_answer c a i) (record c { answers = insert c.answers (a.0, i) line })).answers)) (sym known) ∙ room;
  instances = whole.instances;
}

answered_whole : (c : CaseView) (a : AttrId) (i : InstanceId) (line : Answer) → is_live c.live i ≡ true → nat_lt 1000 (length line) ≡ false → nat_lt 100000 (len (with_answer c a i line).answers) ≡ false → IsWhole c → IsWhole (with_answer c a i line)
answered_whole c a i line alive short room whole = elim (is_unknown_answer line) as (λ b. is_unknown_answer line ≡ b → IsWhole (cond b (without_answer c a i) (record c { answers = insert c.answers (a.0, i) line }))) [
  | true ↦ λ _. withdrawn_whole c a i whole
  | false ↦ λ known. inserted_whole c a i line alive known short room whole
] refl

-- an answer without a fault is of a live instance
pub answer_lives : (s : Shape) (ruled : List Bool) (c : CaseView) (a : AttrId) (i : InstanceId) (line : Answer) → answer_fault s ruled c a i line ≡ None → is_live c.live i ≡ true
answer_lives s ruled c a i line h =
    let p = fault_none (is_unanswerable s ruled c a i) Name _ h in
    not-false (is_live c.live i) (or_parts _ _ (or_parts _ _ p.0).0).1

-- an answer without a fault is short, and there is room for it
answer_fine : (s : Shape) (ruled : List Bool) (c : CaseView) (a : AttrId) (i : InstanceId) (line : Answer) → answer_fault s ruled c a i line ≡ None → (nat_lt 1000 (length line) ≡ false) × (nat_lt 100000 (len (with_answer c a i line).answers) ≡ false)
answer_fine s ruled c a i line h =
    let p = fault_none (is_unanswerable s ruled c a i) Name _ h in
    let q = fault_none (not (list_all (λ x. has_kind (s.attribute a).kind x.1) line)) Kind _ p.1 in
    let r = fault_none (not (list_all (λ x. in_bounds (s.attribute a) x.1) line)) Range _ q.1 in
    or_parts _ _ (fault_none _ Limit None r.1).0

-- Lists.

list_short : (s : Shape) (c : CaseView) (r : RelId) (i : InstanceId) (v : Names) → list_fault s c r i v ≡ None → list_any (λ n. nat_lt 100 (length n)) v ≡ false
list_short s c r i v h =
    let a = fault_none (is_misplaced s c r i) Name _ h in
    let b = fault_none (not (are_names v)) Name _ a.1 in
    let d = fault_none (list_any (cant_name s c r i) v) Name _ b.1 in
    let e = fault_none (s.one r && nat_lt 1 (length v)) Range _ d.1 in
    (fault_none (list_any (λ n. nat_lt 100 (length n)) v) Limit None e.1).0

-- A settled case has no more answers.
fewer_settled : (s : Shape) (m : FinMap cell_cmp Names) (answers : FinMap cell_cmp Answer) → len (settle s m answers).answers ≤ len answers
fewer_settled s m answers = fewer_kept answers (settle s m answers).answers (λ n i line. alive i) (λ n i. get_kept cell_exact answers (λ k. alive k.1) (n, i) ∙ kept (alive i) (get answers (n, i)))
  where
    alive : InstanceId → Bool
    alive i = is_live (live_of s (stored m)) i

    kept : (b : Bool) (o : Option Answer) → cond b o None ≡ kept_if (λ line. b) o
    kept true None = refl
    kept false None = refl
    kept true (Some line) = refl
    kept false (Some line) = refl

module _ (s : Shape) (c : CaseView) (r : RelId) (i : InstanceId) (whole : IsWhole c) where
  -- what is settled over lists that are names and short
  settled_whole : (m : FinMap cell_cmp Names)
      → ((q : RelId) (j : InstanceId) (ns : Names) → Known m q j ns → are_names ns ≡ true)
      → ((q : RelId) (j : InstanceId) (ns : Names) → Known m q j ns → list_any (λ n. nat_lt 100 (length n)) ns ≡ false)
      → nat_lt 20000 (length (settle s m c.answers).live) ≡ false → IsWhole (settle s m c.answers)
  settled_whole m names short room = record {
    listed = λ q j ns h. (and_parts _ _ (cond_none_parts (stays s (live_of s (stored m)) m (q.0, j)) (get m (q.0, j)) ns (sym (get_kept cell_exact m (stays s (live_of s (stored m)) m) (q.0, j)) ∙ h)).0).0;
    answered = λ a j line h. (settled_answer s m c.answers a j line h).0;
    names = λ q j ns h. names q j ns (settled_list s m c.answers q j ns h);
    short = λ q j ns h. short q j ns (settled_list s m c.answers q j ns h);
    told = λ a j line h. whole.told a j line (settled_answer s m c.answers a j line h).1;
    few = λ a j line h. whole.few a j line (settled_answer s m c.answers a j line h).1;
    answers = not_over 100000 _ _ (fewer_settled s m c.answers) whole.answers;
    instances = room;
  }

  pub list_whole : (v : Names) → list_fault s c r i v ≡ None → nat_lt 20000 (length (with_list s c r i v).live) ≡ false → IsWhole (with_list s c r i v)
  list_whole v fine room =
      settled_whole (insert c.lists (r.0, i) v)
      (λ q j ns h. either (are_names ns ≡ true) (inserted c.lists r i v q j ns h) (λ x. ap are_names (sym x.2) ∙ (tests_passed s c r i v fine).names) (λ old. whole.names q j ns old))
      (λ q j ns h. either (list_any (λ n. nat_lt 100 (length n)) ns ≡ false) (inserted c.lists r i v q j ns h) (λ x. ap (list_any (λ n. nat_lt 100 (length n))) (sym x.2) ∙ list_short s c r i v fine) (λ old. whole.short q j ns old))
      room

  forgotten_whole : nat_lt 20000 (length (without_list s c r i).live) ≡ false → IsWhole (without_list s c r i)
  forgotten_whole room =
      settled_whole (remove c.lists (r.0, i))
      (λ q j ns h. whole.names q j ns (removed c.lists (r.0, i) q j ns h))
      (λ q j ns h. whole.short q j ns (removed c.lists (r.0, i) q j ns h))
      room

  -- no more are live without a containment list
  pub contained_forgotten : (gone : Population) → Turns c.live (without_list s c r i).live gone [] i → IsWhole (without_list s c r i)
  contained_forgotten gone turns = let t = turns.total in forgotten_whole (not_over 20000 _ (length c.live) (omega (arith, t)) whole.instances)

  -- the same are live without a reference list
  pub reference_gone : unlisted c r i ≡ without_list s c r i → IsWhole (without_list s c r i)
  reference_gone same = forgotten_whole (ap (λ (v : CaseView). nat_lt 20000 (length v.live)) (sym same) ∙ whole.instances)

pub room_for : (s : Shape) (ruled : List Bool) (live : Population) → is_full s ruled live ≡ false → nat_lt 20000 (length live) ≡ false
room_for s ruled live h = (or_parts (nat_lt 20000 (length live)) (nat_lt 2000000 (slots s ruled live)) h).0

forget_whole : (s : Shape) (ruled : List Bool) → IsShape s → (c : CaseView) (r : RelId) (i : InstanceId) → Fits s ruled c → is_misplaced s c r i ≡ false → IsWhole c → IsWhole (without_list s c r i)
forget_whole s ruled shape c r i fits placed whole = elim (s.contains r) as (λ b. s.contains r ≡ b → IsWhole (without_list s c r i)) [
  | true ↦ λ con. contained_forgotten s c r i whole _ (forget_turns s ruled shape c r i con fits placed)
  | false ↦ λ refers. reference_gone s c r i whole (reference_forgotten s ruled shape c fits r i refers)
] refl

pub step_is_whole : StepIsWhole
step_is_whole s ruled shape c c' (SetAnswer a i line) fits whole h =
    let p = passed (answer_fault s ruled c a i line) (Ok (with_answer c a i line)) c' h in
    let fine = answer_fine s ruled c a i line p.0 in
    subst IsWhole (ok_is (with_answer c a i line) c' p.1) (answered_whole c a i line (answer_lives s ruled c a i line p.0) fine.0 fine.1 whole)
step_is_whole s ruled shape c c' (Withdraw a i) fits whole h =
    subst IsWhole (ok_is (without_answer c a i) c' (guard (is_unanswerable s ruled c a i) Name (Ok (without_answer c a i)) c' h).1) (withdrawn_whole c a i whole)
step_is_whole s ruled shape c c' (SetList r i names) fits whole h =
    let p = passed (list_fault s c r i names) (within s ruled (with_list s c r i names)) c' h in
    let g = guard (is_full s ruled (with_list s c r i names).live) Limit (Ok (with_list s c r i names)) c' p.1 in
    subst IsWhole (ok_is (with_list s c r i names) c' g.1) (list_whole s c r i whole names p.0 (room_for s ruled (with_list s c r i names).live g.0))
step_is_whole s ruled shape c c' (Forget r i) fits whole h =
    let g = guard (is_misplaced s c r i) Name (Ok (without_list s c r i)) c' h in
    subst IsWhole (ok_is (without_list s c r i) c' g.1) (forget_whole s ruled shape c r i fits g.0 whole)

-- a case of equal parts
pub whole_again : (c d : CaseView) → d.lists ≡ c.lists → d.every ≡ c.every → d.answers ≡ c.answers → d.live ≡ c.live → IsWhole c → IsWhole d
whole_again c d l e a v whole =
    subst IsWhole (sym (
    ap (λ x. let k : CaseView = record { lists = x; every = d.every; answers = d.answers; live = d.live } in k) l
    ∙ ap (λ x. let k : CaseView = record { lists = c.lists; every = x; answers = d.answers; live = d.live } in k) e
    ∙ ap (λ x. let k : CaseView = record { lists = c.lists; every = c.every; answers = x; live = d.live } in k) a
    ∙ ap (λ x. let k : CaseView = record { lists = c.lists; every = c.every; answers = c.answers; live = x } in k) v)) whole
