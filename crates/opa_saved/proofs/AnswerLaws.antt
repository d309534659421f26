-- Answers that aren't refused are set, unless they become too many.
use Rattle.std.proofs.Common.{◌≡◌, ◌≤◌, ◌<◌, ◌+◌, ℕ, Bool, true, false, cond, List, [], ◌∷◌, length, arith, refl, sym, ap, ◌∙◌}
use Rattle.std.specs.Prelude.{Option, None, Some, Result, Ok, Err, is_some, nat_lt, not, ◌||◌}
use Rattle.std.specs.List.{list_all}
use Rattle.std.specs.Option.{option_or}
use Rattle.std.specs.FinMap.{FinMap, get, insert, len, len-insert}
use Rattle.std.proofs.lemmas.Bool.{or_parts, ltb-true, ltb-false}
use Rattle.opa_model.specs.declared.ids.AttrId.{AttrId}
use Rattle.opa_model.specs.declared.lists.Lists.{Lists}
use Rattle.opa_model.specs.Lookups.{attribute_named}
use Rattle.opa_cells.specs.declared.instance.InstanceId.{InstanceId}
use Rattle.opa_cells.specs.Keys.{cell_cmp}
use Rattle.opa_cells.proofs.Orders.{cell_total}
use Rattle.opa_case.specs.declared.change.Refusal.{Refusal}
use Rattle.opa_case.specs.declared.change.Refusal.TheVariants.{Name, Kind as WrongKind, Range, Limit}
use Rattle.opa_case.specs.Shapes.{Shape, shape_of}
use Rattle.opa_case.specs.Cases.{CaseView, Answer}
use Rattle.opa_case.specs.Steps.{is_unanswerable, is_unknown_answer, has_kind, in_bounds, answer_fault, answer, with_answer, without_answer, unless}
use Rattle.opa_case.proofs.Kept.{fault_none, guard, ok_is}
use Rattle.opa_saved.specs.declared.entries.AnswerEntry.{AnswerEntry}
use Rattle.opa_saved.specs.Loading.{living, answer_refusal, answer_instance, put_answer, put_answers, text_refusal}
use Rattle.opa_saved.specs.Building.{with_answers}

pub or_none : (a b : Option Refusal) → option_or a b ≡ None → (a ≡ None) × (b ≡ None)
or_none None b e = (refl, e)
or_none (Some x) b e = absurd (cc e)

module _ (s : Shape) (ruled : List Bool) (c : CaseView) (a : AttrId) (i : InstanceId) (line : Answer) where
  abbrev over : Bool
  over = nat_lt 100000 (len (with_answer c a i line).answers)

  told : (o : Bool) → unless (cond o (Some Limit) None) (Ok (with_answer c a i line)) ≡ cond o (Err Limit) (Ok (with_answer c a i line))
  told true = refl
  told false = refl

  -- Where nothing is refused by itself, the number of answers decides.
  pub answer_decides : answer_fault s ruled (living c.live) a i line ≡ None → answer s ruled c a i line ≡ cond over (Err Limit) (Ok (with_answer c a i line))
  answer_decides h =
      let p = fault_none (is_unanswerable s ruled (living c.live) a i) Name _ h in
      let q = fault_none (not (list_all (λ x. has_kind (s.attribute a).kind x.1) line)) WrongKind _ p.1 in
      let r = fault_none (not (list_all (λ x. in_bounds (s.attribute a) x.1) line)) Range _ q.1 in
      let t = fault_none (nat_lt 1000 (length line) || nat_lt 100000 (len (with_answer (living c.live) a i line).answers)) Limit None r.1 in
      let short = (or_parts (nat_lt 1000 (length line)) _ t.0).0 in
      ap (λ b. unless (cond b (Some Name) (cond (not (list_all (λ x. has_kind (s.attribute a).kind x.1) line)) (Some WrongKind) (cond (not (list_all (λ x. in_bounds (s.attribute a) x.1) line)) (Some Range) (cond (nat_lt 1000 (length line) || over) (Some Limit) None)))) (Ok (with_answer c a i line))) p.0
      ∙ ap (λ b. unless (cond b (Some WrongKind) (cond (not (list_all (λ x. in_bounds (s.attribute a) x.1) line)) (Some Range) (cond (nat_lt 1000 (length line) || over) (Some Limit) None))) (Ok (with_answer c a i line))) q.0
      ∙ ap (λ b. unless (cond b (Some Range) (cond (nat_lt 1000 (length line) || over) (Some Limit) None)) (Ok (with_answer c a i line))) r.0
      ∙ ap (λ b. unless (cond (b || over) (Some Limit) None) (Ok (with_answer c a i line))) short
      ∙ told over

  pub known_is : is_unknown_answer line ≡ false → with_answer c a i line ≡ with_answers c (insert c.answers (a.0, i) line)
  known_is h = ap (λ b. cond b (without_answer c a i) (record c { answers = insert c.answers (a.0, i) line })) h

err_is : (b : Bool) (x : CaseView) (r : Refusal) → ◌≡◌ {A = Result CaseView Refusal} (cond b (Err Limit) (Ok x)) (Err r) → (b ≡ true) × (r ≡ Limit)
err_is true x r e = (refl, cc e)
err_is false x r e = absurd (cc e)

module _ (m : Lists) (ruled : List Bool) (c : CaseView) (o : Option AttrId) (a : AttrId) (is : o ≡ Some a) (e : AnswerEntry) (i : InstanceId) (named : i ≡ answer_instance m a e.point.name) (known : is_unknown_answer e.line ≡ false) (taken : answer_refusal m ruled c.live o e ≡ None) where
  fault_here : answer_fault (shape_of m) ruled (living c.live) a i e.line ≡ None
  fault_here = ap (λ j. answer_fault (shape_of m) ruled (living c.live) a j e.line) named ∙ (or_none (answer_fault (shape_of m) ruled (living c.live) a (answer_instance m a e.point.name) e.line) (text_refusal e.line) (ap (λ p. answer_refusal m ruled c.live p e) (sym is) ∙ taken)).0

  put_is : put_answer m c.answers o e ≡ insert c.answers (a.0, i) e.line
  put_is = ap (λ p. put_answer m c.answers p e) is ∙ ap (λ b. cond b c.answers (insert c.answers (a.0, answer_instance m a e.point.name) e.line)) known ∙ ap (λ j. insert c.answers (a.0, j) e.line) (sym named)

  set_is : with_answer c a i e.line ≡ with_answers c (put_answer m c.answers o e)
  set_is = known_is (shape_of m) ruled c a i e.line known ∙ ap (with_answers c) (sym put_is)

  size_is : len (with_answer c a i e.line).answers ≡ len (put_answer m c.answers o e)
  size_is = ap (λ (x : CaseView). len x.answers) set_is

  pub answer_put : (new : CaseView) → answer (shape_of m) ruled c a i e.line ≡ Ok new → (new ≡ with_answers c (put_answer m c.answers o e)) × (len new.answers ≤ 100000)
  answer_put new h =
      let g = guard (nat_lt 100000 (len (with_answer c a i e.line).answers)) Limit (Ok (with_answer c a i e.line)) new (sym (answer_decides (shape_of m) ruled c a i e.line fault_here) ∙ h) in
      let same : with_answer c a i e.line ≡ new = ok_is (with_answer c a i e.line) new g.1 in
      (sym same ∙ set_is, omega (arith, ap (λ (x : CaseView). len x.answers) same, ltb-false 100000 (len (with_answer c a i e.line).answers) g.0))

  pub answer_over : (r : Refusal) → answer (shape_of m) ruled c a i e.line ≡ Err r → (r ≡ Limit) × (100000 < len (put_answer m c.answers o e))
  answer_over r h =
      let g = err_is (nat_lt 100000 (len (with_answer c a i e.line).answers)) (with_answer c a i e.line) r (sym (answer_decides (shape_of m) ruled c a i e.line fault_here) ∙ h) in
      (g.1, omega (arith, size_is, ltb-true 100000 (len (with_answer c a i e.line).answers) g.0))

-- ---- answers only grow in number

module _ (m : Lists) where
  grow_one : (before : FinMap cell_cmp Answer) (o : Option AttrId) (e : AnswerEntry) → len before ≤ len (put_answer m before o e)
  grow_one before None e = omega arith
  grow_one before (Some a) e = go (is_unknown_answer e.line)
    where
      k : ℕ × InstanceId
      k = (a.0, answer_instance m a e.point.name)

      more : (b : Bool) → len before ≤ cond b (len before) (len before + 1)
      more true = omega arith
      more false = omega arith

      go : (b : Bool) → len before ≤ len (cond b before (insert before k e.line))
      go true = omega arith
      go false = omega (arith, len-insert cell_total before k e.line, more (is_some (get before k)))

  pub grow : (before : FinMap cell_cmp Answer) (es : List AnswerEntry) → len before ≤ len (put_answers m before es)
  grow before [] = omega arith
  grow before (e ∷ es) = let next = put_answer m before (attribute_named m e.point.phrase) e in omega (arith, grow_one before (attribute_named m e.point.phrase) e, grow next es)
