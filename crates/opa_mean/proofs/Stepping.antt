-- A determination by at most so many steps, from lines.
use Rattle.std.proofs.Common.{◌≡◌, ℕ, zero, suc, ◌-◌, ◌<◌, ◌+◌, List, [], ◌∷◌, ◌++◌, length, take, get_or, Bool, true, false, cond, Option, None, Some, Result, Ok, Err, IfOk, is_some, is_none, Bor, refl, sym, ◌∙◌, ap, subst, arith}
use Rattle.std.specs.List.{AllByRecursion}
use Rattle.std.specs.Option.{option_copied}
use Rattle.std.specs.FinMap.{FinMap, get, insert, empty, get-insert, get-empty}
use Rattle.std.specs.Ordering.{eq_by_cmp}
use Rattle.std.specs.Cmp.{eq_by_cmp_equiv}
use Rattle.std.proofs.lemmas.List.{take_more}
use Rattle.std.proofs.lemmas.Map.Views.{tells_apart}
use Rattle.opa_io.proofs.Lists.{each_weaker as all_weaker}
use Rattle.opa_date.specs.declared.TheConstants.{DAYS}
use Rattle.opa_value.specs.declared.value.Value.{Value}
use Rattle.opa_value.specs.declared.value.Value.TheVariants.{Unknown, Uncertain}
use Rattle.opa_line.specs.Lines.{at, StandsFor, value_or}
use Rattle.opa_model.specs.declared.ids.AttrId.{AttrId}
use Rattle.opa_cells.specs.Instances.{named}
use Rattle.opa_cells.specs.Keys.{cell_cmp}
use Rattle.opa_cells.specs.declared.instance.InstanceId.{InstanceId}
use Rattle.opa_cells.proofs.Orders.{cell_total, cell_exact}
use Rattle.opa_case.specs.Cases.{CaseView, Answer}
use Rattle.opa_case.specs.declared.question.Question.{Question}
use Rattle.opa_case.specs.declared.question.Question.TheVariants as question
use Rattle.opa_tree.specs.declared.rules.Rule.{Rule}
use Rattle.opa_tree.specs.Rules.{rule_of}
use Rattle.opa_mean.specs.Derivations.{derived}
use Rattle.opa_mean.specs.Given.{line_value, facts_of}
use Rattle.opa_mean.specs.Mean.{Base, Facts, look_of, concluded, fitted, mean_by}
use Rattle.opa_mean.specs.Meaning.{value}
use Rattle.opa_mean.specs.Reads.{reads, reads_of, rule_reads}
use Rattle.opa_mean.specs.Tables.{table_look, HasLine, AreLines, AddsLine}
use Rattle.opa_mean.proofs.Everywhere.{all_append}
use Rattle.opa_mean.proofs.Reading.{reads_fix, Alike}

module _ (b : Base) (c : Facts) where
  mean_zero : (a : AttrId) (i : InstanceId) (d : ℕ) → mean_by b c zero a i d ≡ Uncertain
  unfolding mean_by
  mean_zero a i d = refl

  mean_suc : (n : ℕ) (a : AttrId) (i : InstanceId) (d : ℕ) → mean_by b c (suc n) a i d ≡ concluded (rule_of b.rules a) (c.answer a i d) (λ e. fitted b.shape a (value b.shape (look_of c (mean_by b c n)) e (i ∷ []) d))
  unfolding mean_by
  mean_suc n a i d = refl

-- a line of equal values
restands : {E : Type 0} (f g : ℕ → Value) (r : Result (List (ℕ × Value)) E) → ((d : ℕ) → d < DAYS → f d ≡ g d) → IfOk r (StandsFor DAYS f) → IfOk r (StandsFor DAYS g)
restands f g (Ok l) same h = λ d lt. h d lt ∙ ap Some (same d lt)
restands f g (Err e) same h = tt

pub by_none : {E : Type 0} (b : Base) (c : Facts) (a : AttrId) (i : InstanceId) (n : ℕ) (r : Result (List (ℕ × Value)) E) → n ≡ 0 → IfOk r (StandsFor DAYS (λ _. Uncertain)) → IfOk r (StandsFor DAYS (mean_by b c n a i))
by_none b c a i n r e h = restands (λ _. Uncertain) (mean_by b c n a i) r (λ d lt. sym (ap (λ k. mean_by b c k a i d) e ∙ mean_zero b c a i d)) h

above : (n : ℕ) → (n ≡ 0 → ⊥) → n ≡ suc (n - 1)
above n h = go n h
  where
    go : (n : ℕ) → (n ≡ 0 → ⊥) → n ≡ suc (n - 1)
    go zero h = absurd (h refl)
    go (suc n) h = omega arith

pub by_answer : {E : Type 0} (b : Base) (c : Facts) (a : AttrId) (i : InstanceId) (n : ℕ) (o : Option (Bor Rule)) (r : Result (List (ℕ × Value)) E) → (n ≡ 0 → ⊥) → option_copied o ≡ rule_of b.rules a → is_none o ≡ true
    → IfOk r (StandsFor DAYS (c.answer a i)) → IfOk r (StandsFor DAYS (mean_by b c n a i))
by_answer b c a i n (Some x) r some is none h = absurd (cc none)
by_answer b c a i n None r some is none h =
    restands (c.answer a i) (mean_by b c n a i) r
    (λ d lt. sym (ap (λ k. mean_by b c k a i d) (above n some) ∙ mean_suc b c (n - 1) a i d ∙ ap (λ o. concluded o (c.answer a i d) (λ e. fitted b.shape a (value b.shape (look_of c (mean_by b c (n - 1))) e (i ∷ []) d))) (sym is))) h

-- over the lines that a rule asks for
module _ (b : Base) (v : CaseView) (n : ℕ) (lines : FinMap cell_cmp Answer) where
  abbrev Anyone : InstanceId → Type 0
  Anyone i = Unit {0}

  anyone : (names : List (List ℕ)) (t : ℕ) → AllByRecursion (λ m. Anyone (named t m)) names
  anyone [] t = tt
  anyone (m ∷ names) t = (tt, anyone names t)

  told : (l : Answer) (f : ℕ → Value) → StandsFor DAYS f l → (d : ℕ) → d < DAYS → value_or Unknown (at l d) ≡ f d
  told l f h d lt = ap (value_or Unknown) (h d lt)

  lined : AreLines b (facts_of v) n [] lines → (q : Question) → HasLine lines q → Alike b.shape (table_look v lines) (look_of (facts_of v) (mean_by b (facts_of v) n)) Anyone Anyone (λ enclosing w e. refl) (λ enclosing w e i is. tt) (λ r i names l e e'. anyone names (b.shape.target r)) q
  lined are (question.Members r i) h = λ _. refl
  lined are (question.Attr a i) h = λ _ _. go (get lines (a.0, i)) refl h
    where
      go : (o : Option Answer) → get lines (a.0, i) ≡ o → is_some o ≡ true → (d : ℕ) → d < DAYS → line_value (get lines (a.0, i)) d ≡ mean_by b (facts_of v) n a i d
      go None e h = absurd (cc h)
      go (Some l) e h = λ d lt. ap (λ o. line_value o d) e ∙ told l (mean_by b (facts_of v) n a i) (are.right a i l e) d lt

  over_lines : (a : AttrId) (i : InstanceId) (rule : Rule) → rule_of b.rules a ≡ Some rule → AreLines b (facts_of v) n (reads_of b (facts_of v) a i) lines → (d : ℕ) → d < DAYS → derived b (table_look v lines) a i d ≡ mean_by b (facts_of v) (suc n) a i d
  over_lines a i rule is are d lt =
      ap (λ o. concluded o Unknown (λ e. fitted b.shape a (value b.shape (table_look v lines) e (i ∷ []) d))) is
      ∙ ap (fitted b.shape a) (reads_fix b.shape (table_look v lines) (look_of (facts_of v) (mean_by b (facts_of v) n)) Anyone Anyone (λ enclosing w e. refl) (λ enclosing w e i is. tt) (λ r i names l e e'. anyone names (b.shape.target r)) rule.expr (i ∷ []) (tt, tt) refl
      (all_weaker (HasLine lines) _ (lined (record { right = are.right; there = tt })) _ (subst (AllByRecursion (HasLine lines)) (ap (λ o. rule_reads o (λ e. reads b.shape (facts_of v).members (facts_of v).container e (i ∷ []))) is) are.there)) d lt)
      ∙ sym (mean_suc b (facts_of v) n a i d ∙ ap (λ o. concluded o ((facts_of v).answer a i d) (λ e. fitted b.shape a (value b.shape (look_of (facts_of v) (mean_by b (facts_of v) n)) e (i ∷ []) d))) is)

pub by_rule : {E : Type 0} (b : Base) (v : CaseView) (a : AttrId) (i : InstanceId) (n : ℕ) (o : Option (Bor Rule)) (asked : List Question) (lines : FinMap cell_cmp Answer) (r : Result (List (ℕ × Value)) E) → (n ≡ 0 → ⊥) → option_copied o ≡ rule_of b.rules a → is_none o ≡ false
    → asked ≡ reads_of b (facts_of v) a i → AreLines b (facts_of v) (n - 1) asked lines → IfOk r (StandsFor DAYS (derived b (table_look v lines) a i)) → IfOk r (StandsFor DAYS (mean_by b (facts_of v) n a i))
by_rule b v a i n None asked lines r some is none e are h = absurd (cc none)
by_rule b v a i n (Some x) asked lines r some is none e are h =
    restands (derived b (table_look v lines) a i) (mean_by b (facts_of v) n a i) r
    (λ d lt. over_lines b v (n - 1) lines a i x.now (sym is) (subst (λ qs. AreLines b (facts_of v) (n - 1) qs lines) e are) d lt ∙ sym (ap (λ k. mean_by b (facts_of v) k a i d) (above n some))) h

-- no lines yet
pub no_lines : (b : Base) (c : Facts) (n : ℕ) (lines : FinMap cell_cmp Answer) → lines ≡ empty → AreLines b c n [] lines
no_lines b c n lines e = record { right = λ a i l is. let key : ℕ × InstanceId = (a.0, i) in absurd (cc (is, ap (λ m. get m key) e, get-empty cell_cmp key)); there = tt }

module _ (b : Base) (c : Facts) (n : ℕ) (old new : FinMap cell_cmp Answer) where
  still : (q : Question) (k : ℕ × InstanceId) (line : Answer) → new ≡ insert old k line → HasLine old q → HasLine new q
  still (question.Members r i) k line e h = tt
  still (question.Attr a i) k line e h = ap (λ m. is_some (get m (a.0, i))) e ∙ ap is_some (get-insert cell_total old k line (a.0, i)) ∙ go (eq_by_cmp cell_cmp (a.0, i) k)
    where
      go : (t : Bool) → is_some (cond t (Some line) (get old (a.0, i))) ≡ true
      go true = refl
      go false = h

  -- one question more
  pub line_more : (asked : List Question) (q : Question) → AddsLine b c n q old new → AreLines b c n asked old → AreLines b c n (asked ++ q ∷ []) new
  line_more asked (question.Members r i) same are = subst (AreLines b c n (asked ++ question.Members r i ∷ [])) (sym same) (record { right = are.right; there = all_append (HasLine old) asked _ are.there (tt, tt) })
  line_more asked (question.Attr a i) (line, stands, e) are = record {
    right = right;
    there = all_append (HasLine new) asked _ (all_weaker (HasLine old) (HasLine new) (λ q. still q (a.0, i) line e) asked are.there) (own, tt);
  }
    where
      own : is_some (get new (a.0, i)) ≡ true
      own = ap (λ m. is_some (get m (a.0, i))) e ∙ ap is_some (get-insert cell_total old (a.0, i) line (a.0, i)) ∙ go (eq_by_cmp cell_cmp (a.0, i) (a.0, i)) (itself (a.0, i))
        where
          go : (t : Bool) → t ≡ true → is_some (cond t (Some line) (get old (a.0, i))) ≡ true
          go true h = refl
          go false h = absurd (cc h)

          itself : (k : ℕ × InstanceId) → eq_by_cmp cell_cmp k k ≡ true
          itself k = (eq_by_cmp_equiv cell_total).refl k

      right : (m : AttrId) (j : InstanceId) (l : Answer) → get new (m.0, j) ≡ Some l → StandsFor DAYS (mean_by b c n m j) l
      right m j l is = go (eq_by_cmp cell_cmp (m.0, j) (a.0, i)) refl
        where
          seen : cond (eq_by_cmp cell_cmp (m.0, j) (a.0, i)) (Some line) (get old (m.0, j)) ≡ Some l
          seen = sym (ap (λ k. get k (m.0, j)) e ∙ get-insert cell_total old (a.0, i) line (m.0, j)) ∙ is

          go : (t : Bool) → eq_by_cmp cell_cmp (m.0, j) (a.0, i) ≡ t → StandsFor DAYS (mean_by b c n m j) l
          go true q =
              let key : (m.0, j) ≡ (a.0, i) = tells_apart cell_exact (m.0, j) (a.0, i) q in
              let same : line ≡ l = cc (seen, ap (λ t. cond t (Some line) (get old (m.0, j))) q) in
              subst (StandsFor DAYS (mean_by b c n m j)) same (subst (λ (k : ℕ × InstanceId). StandsFor DAYS (mean_by b c n (record { 0 = k.0 }) k.1) line) (sym key) stands)
          go false q = are.right m j l (sym (ap (λ t. cond t (Some line) (get old (m.0, j))) q) ∙ seen)

pub line_next : (b : Base) (c : Facts) (n : ℕ) (old new : FinMap cell_cmp Answer) (asked : List Question) (k : ℕ) (q : Question) → k < length asked → q ≡ get_or asked k q → AddsLine b c n q old new → AreLines b c n (take k asked) old → AreLines b c n (take (k + 1) asked) new
line_next b c n old new asked k q lt is adds are =
    subst (λ qs. AreLines b c n qs new) (ap (λ x. take k asked ++ x ∷ []) is ∙ sym (take_more asked k q lt)) (line_more b c n old new (take k asked) q adds are)
