-- One slot more is derived.
use Rattle.std.specs.Prelude.{◌||◌}
use Rattle.std.proofs.Common.{◌≡◌, ◌⊎◌, inl, inr, ℕ, ◌<◌, ◌≤◌, Bool, true, false, not, cond, ◌∷◌, Option, None, Some, is_some, Contains, refl, sym, ◌∙◌, ap, subst, arith}
use Rattle.std.specs.Cmp.{eq_by_cmp_equiv}
use Rattle.std.proofs.lemmas.Map.Views.{tells_apart}
use Rattle.opa_date.specs.declared.TheConstants.{DAYS}
use Rattle.opa_line.specs.Lines.{StandsFor}
use Rattle.opa_model.specs.declared.ids.AttrId.{AttrId}
use Rattle.opa_cells.specs.declared.instance.InstanceId.{InstanceId}
use Rattle.opa_cells.proofs.Orders.{cell_exact, cell_total}
use Rattle.opa_case.specs.Cases.{Answer, IsLive}
use Rattle.opa_case.specs.declared.question.Question.{Question}
use Rattle.opa_case.specs.declared.question.Question.TheVariants as question
use Rattle.opa_tree.specs.Rules.{rule_of}
use Rattle.opa_tree.proofs.Members.{contains_head, contains_tail, contains_cases}
use Rattle.opa_mean.specs.Given.{line_value}
use Rattle.opa_mean.specs.Rulebases.{value_at}
use Rattle.opa_mean.specs.Reached.Dirty.{is_fresh, is_reached}
use Rattle.opa_mean.specs.Reached.Settling.{Lines, Waiting, Shift, IsShift, AreCurrent, CanTell, IsDirty, IsSettling, IsCaught, SamePair, Stages, is_slot_same, is_known, is_line_changed, is_told, new_reads, rank_of}
use Rattle.opa_mean.specs.Slots.{is_slot}
use Rattle.opa_mean.proofs.reached.Differing.{same_difference}
use Rattle.opa_mean.proofs.reached.Freshness.{fresh_is_reached, reader_is_reached, read_before}
use Rattle.opa_mean.proofs.reached.Looking.{line_right}
use Rattle.opa_mean.proofs.reached.Parted.{parts_of, slot_is}

pub same_slot : (a : AttrId) (i : InstanceId) (b : AttrId) (j : InstanceId) → is_slot_same a i b j ≡ true → (a ≡ b) × (i ≡ j)
same_slot a i b j h =
    let k = tells_apart cell_exact (a.0, i) (b.0, j) h in
    (ap (λ (x : ℕ × InstanceId). let y : AttrId = record { 0 = x.0 } in y) k, ap (λ (x : ℕ × InstanceId). x.1) k)

pub slot_itself : (a : AttrId) (i : InstanceId) → is_slot_same a i a i ≡ true
slot_itself a i = (eq_by_cmp_equiv cell_total).refl (a.0, i)

-- a slot of the case that comes, whose instance was live before, was one before
pub was_slot : (s : Shift) (a : AttrId) (i : InstanceId) → is_slot s.rules s.new a i ≡ true → IsLive s.old i → is_slot s.rules s.old a i ≡ true
was_slot s a i slot live = let p = parts_of s.rules s.new a i slot in slot_is s.rules s.old a i live p.owner p.ruled

pub still_slot : (s : Shift) (a : AttrId) (i : InstanceId) → is_slot s.rules s.old a i ≡ true → IsLive s.new i → is_slot s.rules s.new a i ≡ true
still_slot s a i slot live = let p = parts_of s.rules s.old a i slot in slot_is s.rules s.new a i live p.owner p.ruled

module _ (s : Shift) (is : IsShift s) (kept : Lines) (current : AreCurrent s.rules s.old kept) (a : AttrId) (i : InstanceId) (line : Answer) (right : StandsFor DAYS (value_at s.rules s.new a i) line) where
  -- a slot that was live before is told exactly where its new line isn't the kept one
  pub told_flag : is_slot s.rules s.old a i ≡ true → is_told s (question.Attr a i) ≡ is_line_changed kept a i line
  told_flag was = go (kept a i) refl (current.there a i ∙ was)
    where
      go : (o : Option Answer) → kept a i ≡ o → is_some (kept a i) ≡ true → is_told s (question.Attr a i) ≡ is_line_changed kept a i line
      go None e some = absurd (cc (some, ap is_some e))
      go (Some l) e some =
          same_difference DAYS (value_at s.rules s.old a i) (line_value (kept a i)) (value_at s.rules s.new a i) (line_value (Some line))
          (λ d lt. sym (ap (λ o. line_value o d) e ∙ line_right (value_at s.rules s.old a i) l (current.right a i l e) d lt))
          (λ d lt. sym (line_right (value_at s.rules s.new a i) line right d lt))

module _ (a : AttrId) (i : InstanceId) (line : Answer) (old new : Lines) (stages : Stages old new a i line) where
  pub split_line : (b : AttrId) (j : InstanceId) (l : Answer) → new b j ≡ Some l → ((a ≡ b) × (i ≡ j) × (line ≡ l)) ⊎ (old b j ≡ Some l)
  split_line b j l e = go (is_slot_same a i b j) refl
    where
      seen : cond (is_slot_same a i b j) (Some line) (old b j) ≡ Some l
      seen = sym (stages b j) ∙ e

      go : (t : Bool) → is_slot_same a i b j ≡ t → ((a ≡ b) × (i ≡ j) × (line ≡ l)) ⊎ (old b j ≡ Some l)
      go true q = let same = same_slot a i b j q in let lines : line ≡ l = cc (seen, ap (λ t. cond t (Some line) (old b j)) q) in inl (same.0, same.1, lines)
      go false q = inr (sym (ap (λ t. cond t (Some line) (old b j)) q) ∙ seen)

  pub split_some : (b : AttrId) (j : InstanceId) → is_some (new b j) ≡ true → ((a ≡ b) × (i ≡ j)) ⊎ (is_some (old b j) ≡ true)
  split_some b j e = go (is_slot_same a i b j) refl
    where
      go : (t : Bool) → is_slot_same a i b j ≡ t → ((a ≡ b) × (i ≡ j)) ⊎ (is_some (old b j) ≡ true)
      go true q = inl (same_slot a i b j q)
      go false q = inr (sym (ap is_some (stages b j ∙ ap (λ t. cond t (Some line) (old b j)) q)) ∙ e)

  pub some_stays : (b : AttrId) (j : InstanceId) → is_some (old b j) ≡ true → is_some (new b j) ≡ true
  some_stays b j e = ap is_some (stages b j) ∙ go (is_slot_same a i b j)
    where
      go : (t : Bool) → is_some (cond t (Some line) (old b j)) ≡ true
      go true = refl
      go false = e

  pub some_here : is_some (new a i) ≡ true
  some_here = ap is_some (stages a i ∙ ap (λ t. cond t (Some line) (old a i)) (slot_itself a i))

  pub none_stays : (b : AttrId) (j : InstanceId) → ((a ≡ b) × (i ≡ j) → ⊥) → is_some (old b j) ≡ false → is_some (new b j) ≡ false
  none_stays b j apart e = ap is_some (stages b j) ∙ go (is_slot_same a i b j) refl
    where
      go : (t : Bool) → is_slot_same a i b j ≡ t → is_some (cond t (Some line) (old b j)) ≡ false
      go true q = absurd (apart (same_slot a i b j q))
      go false q = e

module _ (s : Shift) (is : IsShift s) (kept : Lines) (current : AreCurrent s.rules s.old kept) (readers : Question → Waiting) (tell : CanTell s readers)
    (staged : Lines) (a : AttrId) (i : InstanceId) (rest : Waiting) (h : IsSettling s staged ((a, i) ∷ rest))
    (first : (b : AttrId) (j : InstanceId) → Contains rest (b, j) → rank_of s a ≤ rank_of s b) (once : Contains rest (a, i) → ⊥)
    (line : Answer) (right : StandsFor DAYS (value_at s.rules s.new a i) line) (staged' : Lines) (stages : Stages staged staged' a i line) where
  head_dirty : IsDirty s a i
  head_dirty = h.waits a i (contains_head (a, i) rest)

  tail : (b : AttrId) (j : InstanceId) → Contains rest (b, j) → Contains ((a, i) ∷ rest) (b, j)
  tail b j there = contains_tail (a, i) (b, j) rest there

  all_right : (b : AttrId) (j : InstanceId) (l : Answer) → staged' b j ≡ Some l → StandsFor DAYS (value_at s.rules s.new b j) l
  all_right b j l e = go (split_line a i line staged staged' stages b j l e)
    where
      go : ((a ≡ b) × (i ≡ j) × (line ≡ l)) ⊎ (staged b j ≡ Some l) → StandsFor DAYS (value_at s.rules s.new b j) l
      go (inl same) = subst (StandsFor DAYS (value_at s.rules s.new b j)) same.2 (subst (λ (x : AttrId). StandsFor DAYS (value_at s.rules s.new x j) line) same.0 (subst (λ (k : InstanceId). StandsFor DAYS (value_at s.rules s.new a k) line) same.1 right))
      go (inr e) = h.right b j l e

  all_dirty : (b : AttrId) (j : InstanceId) → is_some (staged' b j) ≡ true → IsDirty s b j
  all_dirty b j e = go (split_some a i line staged staged' stages b j e)
    where
      go : ((a ≡ b) × (i ≡ j)) ⊎ (is_some (staged b j) ≡ true) → IsDirty s b j
      go (inl same) = subst (λ (x : AttrId). IsDirty s x j) same.0 (subst (λ (k : InstanceId). IsDirty s a k) same.1 head_dirty)
      go (inr e) = h.dirty b j e

  rest_apart : (b : AttrId) (j : InstanceId) → Contains rest (b, j) → is_some (staged' b j) ≡ false
  rest_apart b j there = none_stays a i line staged staged' stages b j (λ same. once (subst (λ (x : AttrId). Contains rest (x, i)) (sym same.0) (subst (λ (k : InstanceId). Contains rest (b, k)) (sym same.1) there))) (h.apart b j (tail b j there))

  -- whatever is staged isn't of a higher rank than the slot
  low : (b : AttrId) (j : InstanceId) → is_some (staged' b j) ≡ true → rank_of s b ≤ rank_of s a
  low b j e = go (split_some a i line staged staged' stages b j e)
    where
      go : ((a ≡ b) × (i ≡ j)) ⊎ (is_some (staged b j) ≡ true) → rank_of s b ≤ rank_of s a
      go (inl same) = let e : rank_of s a ≡ rank_of s b = ap (rank_of s) same.0 in omega (arith, e)
      go (inr e) = h.order b a j i e (contains_head (a, i) rest)

  module _ (waiting' : Waiting) (stay : (b : AttrId) (j : InstanceId) → Contains rest (b, j) → Contains waiting' (b, j)) where
    caught_still : (b : AttrId) (j : InstanceId) → IsCaught staged ((a, i) ∷ rest) b j → IsCaught staged' waiting' b j
    caught_still b j (inl done) = inl (some_stays a i line staged staged' stages b j done)
    caught_still b j (inr there) = go (contains_cases (a, i) (b, j) rest there)
      where
        go : (SamePair (a, i) (b, j)) ⊎ Contains rest (b, j) → IsCaught staged' waiting' b j
        go (inl e) = inl (subst (λ (k : AttrId × InstanceId). is_some (staged' k.0 k.1) ≡ true) e (some_here a i line staged staged' stages))
        go (inr more) = inr (stay b j more)

  -- what is known now was known before, or is the line of the slot
  known_before : (q : Question) → is_known s staged' q ≡ true → (is_known s staged q ≡ true) ⊎ (question.Attr a i ≡ q)
  known_before (question.Members q j) known = inl refl
  known_before (question.Attr b j) known = go (is_some (rule_of s.rules.rules b)) refl
    where
      by : is_some (rule_of s.rules.rules b) ≡ true → ((a ≡ b) × (i ≡ j)) ⊎ (is_some (staged b j) ≡ true) → (is_known s staged (question.Attr b j) ≡ true) ⊎ (question.Attr a i ≡ question.Attr b j)
      by ruled (inl same) = inr (λ k. question.Attr (same.0 k) (same.1 k))
      by ruled (inr done) = inl (ap (λ x. not x || is_some (staged b j)) ruled ∙ done)

      go : (x : Bool) → is_some (rule_of s.rules.rules b) ≡ x → (is_known s staged (question.Attr b j) ≡ true) ⊎ (question.Attr a i ≡ question.Attr b j)
      go false e = inl (ap (λ x. not x || is_some (staged b j)) e)
      go true e = by e (split_some a i line staged staged' stages b j (sym (ap (λ x. not x || is_some (staged' b j)) e) ∙ known))

  -- where a reader isn't fresh, the slot's line differs exactly where it isn't the kept one
  flag_of : (b : AttrId) (j : InstanceId) → is_fresh s.rules s.old s.new b j ≡ false → Contains (new_reads s b j) (question.Attr a i) → is_told s (question.Attr a i) ≡ is_line_changed kept a i line
  flag_of b j stale reads = told_flag s is kept current a i line right (was_slot s a i head_dirty.slot (read_before s is b j stale a i reads))

  -- the line is the kept one: nothing else waits
  pub step_same : is_line_changed kept a i line ≡ false → IsSettling s staged' rest
  step_same flag = record {
    right = all_right;
    dirty = all_dirty;
    waits = λ b j there. h.waits b j (tail b j there);
    apart = rest_apart;
    order = λ b x j k e there. let l = low b j e in let f = first x k there in omega (arith, l, f);
    fresh = λ b j slot fresh. caught_still rest (λ x k there. there) b j (h.fresh b j slot fresh);
    readers = λ b j q slot reads told known. caught b j q slot reads told (known_before q known) (is_fresh s.rules s.old s.new b j) refl;
  }
    where
      caught : (b : AttrId) (j : InstanceId) (q : Question) → is_slot s.rules s.new b j ≡ true → Contains (new_reads s b j) q → is_told s q ≡ true → (is_known s staged q ≡ true) ⊎ (question.Attr a i ≡ q) → (x : Bool) → is_fresh s.rules s.old s.new b j ≡ x → IsCaught staged' rest b j
      caught b j q slot reads told (inl known) x e = caught_still rest (λ x k there. there) b j (h.readers b j q slot reads told known)
      caught b j q slot reads told (inr is_it) true fresh = caught_still rest (λ x k there. there) b j (h.fresh b j slot fresh)
      caught b j q slot reads told (inr is_it) false stale =
          let here : Contains (new_reads s b j) (question.Attr a i) = subst (λ (x : Question). Contains (new_reads s b j) x) (sym is_it) reads in
          let t : is_told s (question.Attr a i) ≡ true = subst (λ (x : Question). is_told s x ≡ true) (sym is_it) told in
          absurd (cc (t, flag_of b j stale here, flag))

  -- a reader of the slot that stays
  abbrev pub IsReader : AttrId → InstanceId → Type 0
  IsReader b j = IsLive s.new j × Contains (readers (question.Attr a i)) (b, j)

  -- the line differs: its readers wait
  pub step_changed : is_line_changed kept a i line ≡ true → (waiting' : Waiting) → ((b : AttrId) (j : InstanceId) → Contains rest (b, j) → Contains waiting' (b, j))
      → ((b : AttrId) (j : InstanceId) → IsReader b j → Contains waiting' (b, j))
      → ((b : AttrId) (j : InstanceId) → Contains waiting' (b, j) → Contains rest (b, j) ⊎ IsReader b j)
      → IsSettling s staged' waiting'
  step_changed flag waiting' stay marked marks = record {
    right = all_right;
    dirty = all_dirty;
    waits = λ b j there. waits b j (marks b j there);
    apart = λ b j there. apart b j (marks b j there);
    order = λ b x j k e there. order b x k (low b j e) (marks x k there);
    fresh = λ b j slot fresh. caught_still waiting' stay b j (h.fresh b j slot fresh);
    readers = λ b j q slot reads told known. caught b j q slot reads told (known_before q known) (is_fresh s.rules s.old s.new b j) refl;
  }
    where
      -- what a reader reads of the slot is of lower rank
      lower : (b : AttrId) (j : InstanceId) → IsReader b j → rank_of s a < rank_of s b
      lower b j m = tell.higher a i b j m.1

      reader_reached : (b : AttrId) (j : InstanceId) → IsReader b j → (x : Bool) → is_fresh s.rules s.old s.new b j ≡ x → is_reached s.rules s.old s.new b j ≡ true
      reader_reached b j m true fresh = fresh_is_reached s b j fresh
      reader_reached b j m false stale = let reads = tell.read (question.Attr a i) b j m.1 m.0 stale in reader_is_reached s b j (question.Attr a i) reads (flag_of b j stale reads ∙ flag)

      waits : (b : AttrId) (j : InstanceId) → Contains rest (b, j) ⊎ IsReader b j → IsDirty s b j
      waits b j (inl there) = h.waits b j (tail b j there)
      waits b j (inr m) = record { slot = tell.slots (question.Attr a i) b j m.1 m.0; reached = reader_reached b j m (is_fresh s.rules s.old s.new b j) refl }

      apart : (b : AttrId) (j : InstanceId) → Contains rest (b, j) ⊎ IsReader b j → is_some (staged' b j) ≡ false
      apart b j (inl there) = rest_apart b j there
      apart b j (inr m) = go (is_some (staged' b j)) refl
        where
          go : (t : Bool) → is_some (staged' b j) ≡ t → is_some (staged' b j) ≡ false
          go false e = e
          go true e = let l = low b j e in let n = lower b j m in absurd (omega (arith, l, n))

      order : (b x : AttrId) (k : InstanceId) → rank_of s b ≤ rank_of s a → Contains rest (x, k) ⊎ IsReader x k → rank_of s b ≤ rank_of s x
      order b x k l (inl there) = let f = first x k there in omega (arith, l, f)
      order b x k l (inr m) = let n = lower x k m in omega (arith, l, n)

      caught : (b : AttrId) (j : InstanceId) (q : Question) → is_slot s.rules s.new b j ≡ true → Contains (new_reads s b j) q → is_told s q ≡ true → (is_known s staged q ≡ true) ⊎ (question.Attr a i ≡ q) → (x : Bool) → is_fresh s.rules s.old s.new b j ≡ x → IsCaught staged' waiting' b j
      caught b j q slot reads told (inl known) x e = caught_still waiting' stay b j (h.readers b j q slot reads told known)
      caught b j q slot reads told (inr is_it) true fresh = caught_still waiting' stay b j (h.fresh b j slot fresh)
      caught b j q slot reads told (inr is_it) false stale =
          inr (marked b j ((parts_of s.rules s.new b j slot).live, tell.all (question.Attr a i) b j slot stale (subst (λ (x : Question). Contains (new_reads s b j) x) (sym is_it) reads)))
