-- What a run of nodes begins with.
use Rattle.std.proofs.Common.{◌≡◌, ℕ, List, [], ◌∷◌, ◌++◌, None, length, take, drop, refl, sym, ◌∙◌, ap, subst}
use Rattle.opa_model.specs.declared.ids.RelId.{RelId}
use Rattle.opa_tree.specs.declared.kinds.Quant.{Quant}
use Rattle.opa_mean.specs.Looks.{Look}
use Rattle.opa_mean.specs.Meaning.{Meaning}
use Rattle.opa_code.specs.Running.{Run, finished, stepped, quantified, left, passed, Decides, IsMasked, IsStep, put, over_meaning}
use Rattle.opa_code.specs.Steps.{leave_at, over_at, pass_at}
use Rattle.opa_code.specs.declared.node.Decider.{Decider}
use Rattle.opa_code.specs.declared.node.Node.{Node}
use Rattle.opa_code.specs.declared.node.Node.TheVariants as node

head_same : (n m : Node) (ns ms : List Node) → n ∷ ns ≡ m ∷ ms → n ≡ m
head_same n m ns ms e = cc e

tail_same : (n m : Node) (ns ms : List Node) → n ∷ ns ≡ m ∷ ms → ns ≡ ms
tail_same n m ns ms e = cc e

-- a node that is carried out by itself is of no other sort
pub record IsPlain (n : Node) : Type 0 where
  pub no_over : over_at n ≡ None
  pub no_leave : leave_at n ≡ None
  pub no_pass : pass_at n ≡ None

module _ (l : Look) where
  pub run_none : (ns : List Node) (st end : List Meaning) → ns ≡ [] → Run l ns st end → st ≡ end
  run_none ns st end none (finished _ _ e) = refl
  run_none ns st end none (stepped _ n rest _ _ e ok r) = absurd (cc (none, e))
  run_none ns st end none (quantified _ q r source target count rest _ ms _ e b t) = absurd (cc (none, e))
  run_none ns st end none (left _ how dropped count rest below before newest whole _ _ e is d dec on off) = absurd (cc (none, e))
  run_none ns st end none (passed _ count rest below test value _ _ e is m on off) = absurd (cc (none, e))

  -- a node by itself
  pub record Steps (n : Node) (after : List Node) (st end : List Meaning) : Type 0 where
    pub ok : IsStep n
    pub goes : Run l after (put l n st) end

  pub run_step : (ns : List Node) (n : Node) (after : List Node) (st end : List Meaning) → ns ≡ n ∷ after → IsPlain n → Run l ns st end → Steps n after st end
  run_step ns n after st end is plain (finished _ _ e) = absurd (cc (is, e))
  run_step ns n after st end is plain (stepped _ m rest _ _ e ok r) =
      let h : m ≡ n = sym (head_same n m after rest (sym is ∙ e)) in
      let t : rest ≡ after = sym (tail_same n m after rest (sym is ∙ e)) in
      record { ok = subst IsStep h ok; goes = subst (λ k. Run l after (put l k st) end) h (subst (λ xs. Run l xs (put l m st) end) t r) }
  run_step ns n after st end is plain (quantified _ q r source target count rest _ ms _ e b t) =
      let h : n ≡ node.Over q r source target count = head_same n (node.Over q r source target count) after rest (sym is ∙ e) in
      let no = plain.no_over in absurd (cc (no, ap over_at h))
  run_step ns n after st end is plain (left _ how dropped count rest below before newest whole _ _ e same d dec on off) =
      let h : n ≡ node.Leave how dropped count = head_same n (node.Leave how dropped count) after rest (sym is ∙ e) in
      let no = plain.no_leave in absurd (cc (no, ap leave_at h))
  run_step ns n after st end is plain (passed _ count rest below test value _ _ e same m on off) =
      let h : n ≡ node.Pass count = head_same n (node.Pass count) after rest (sym is ∙ e) in
      let no = plain.no_pass in absurd (cc (no, ap pass_at h))

  -- a quantifier with the nodes of its operand
  pub record Quantifies (q : Quant) (r : RelId) (source target count : ℕ) (after : List Node) (st end : List Meaning) : Type 0 where
    pub operands : List Meaning
    pub runs : Run l (take count after) [] operands
    pub goes : Run l (drop count after) (st ++ over_meaning l q r source target operands ∷ []) end

  pub run_over : (ns : List Node) (q : Quant) (r : RelId) (source target count : ℕ) (after : List Node) (st end : List Meaning) → ns ≡ node.Over q r source target count ∷ after → Run l ns st end → Quantifies q r source target count after st end
  run_over ns q r source target count after st end is (finished _ _ e) = absurd (cc (is, e))
  run_over ns q r source target count after st end is (stepped _ m rest _ _ e ok t) =
      let h : m ≡ node.Over q r source target count = sym (head_same (node.Over q r source target count) m after rest (sym is ∙ e)) in
      absurd (subst IsStep h ok)
  run_over ns q r source target count after st end is (quantified _ q' r' source' target' count' rest _ ms _ e b t) =
      let h = head_same (node.Over q r source target count) (node.Over q' r' source' target' count') after rest (sym is ∙ e) in
      let rests : rest ≡ after = sym (tail_same (node.Over q r source target count) (node.Over q' r' source' target' count') after rest (sym is ∙ e)) in
      let qs : q' ≡ q = cc h in
      let rs : r' ≡ r = cc h in
      let ss : source' ≡ source = cc h in
      let ts : target' ≡ target = cc h in
      let cs : count' ≡ count = cc h in
      let runs : Run l (take count after) [] ms = subst (λ j. Run l (take j after) [] ms) cs (subst (λ xs. Run l (take count' xs) [] ms) rests b) in
      let here : Run l (drop count after) (st ++ over_meaning l q' r' source' target' ms ∷ []) end = subst (λ j. Run l (drop j after) (st ++ over_meaning l q' r' source' target' ms ∷ []) end) cs (subst (λ xs. Run l (drop count' xs) (st ++ over_meaning l q' r' source' target' ms ∷ []) end) rests t) in
      let with_q = subst (λ x. Run l (drop count after) (st ++ over_meaning l x r' source' target' ms ∷ []) end) qs here in
      let with_r = subst (λ x. Run l (drop count after) (st ++ over_meaning l q x source' target' ms ∷ []) end) rs with_q in
      let with_s = subst (λ x. Run l (drop count after) (st ++ over_meaning l q r x target' ms ∷ []) end) ss with_r in
      record { operands = ms; runs = runs; goes = subst (λ x. Run l (drop count after) (st ++ over_meaning l q r source x ms ∷ []) end) ts with_s }
  run_over ns q r source target count after st end is (left _ how dropped many rest below before newest whole _ _ e same d dec on off) =
      absurd (cc (head_same (node.Over q r source target count) (node.Leave how dropped many) after rest (sym is ∙ e)))
  run_over ns q r source target count after st end is (passed _ many rest below test value _ _ e same m on off) =
      absurd (cc (head_same (node.Over q r source target count) (node.Pass many) after rest (sym is ∙ e)))

  -- nodes that may be passed over where it is decided
  pub record Leaves (how : Decider) (dropped count : ℕ) (after : List Node) (st end : List Meaning) : Type 0 where
    pub below : List Meaning
    pub before : List Meaning
    pub newest : Meaning
    pub whole : Meaning
    pub is : st ≡ (below ++ before) ++ newest ∷ []
    pub counted : length before ≡ dropped
    pub decides : Decides how before newest whole
    pub on : Run l after st end
    pub off : Run l (drop count after) (below ++ whole ∷ []) end

  pub run_leave : (ns : List Node) (how : Decider) (dropped count : ℕ) (after : List Node) (st end : List Meaning) → ns ≡ node.Leave how dropped count ∷ after → Run l ns st end → Leaves how dropped count after st end
  run_leave ns how dropped count after st end is (finished _ _ e) = absurd (cc (is, e))
  run_leave ns how dropped count after st end is (stepped _ m rest _ _ e ok t) =
      let h : m ≡ node.Leave how dropped count = sym (head_same (node.Leave how dropped count) m after rest (sym is ∙ e)) in
      absurd (subst IsStep h ok)
  run_leave ns how dropped count after st end is (quantified _ q r source target many rest _ ms _ e b t) =
      absurd (cc (head_same (node.Leave how dropped count) (node.Over q r source target many) after rest (sym is ∙ e)))
  run_leave ns how dropped count after st end is (left _ how' dropped' count' rest below before newest whole _ _ e same d dec on off) =
      let h = head_same (node.Leave how dropped count) (node.Leave how' dropped' count') after rest (sym is ∙ e) in
      let rests : rest ≡ after = sym (tail_same (node.Leave how dropped count) (node.Leave how' dropped' count') after rest (sym is ∙ e)) in
      let hs : how' ≡ how = cc h in
      let ds : dropped' ≡ dropped = cc h in
      let cs : count' ≡ count = cc h in
      record {
        below = below;
        before = before;
        newest = newest;
        whole = whole;
        is = same;
        counted = d ∙ ds;
        decides = subst (λ x. Decides x before newest whole) hs dec;
        on = subst (λ xs. Run l xs st end) rests on;
        off = subst (λ j. Run l (drop j after) (below ++ whole ∷ []) end) cs (subst (λ xs. Run l (drop count' xs) (below ++ whole ∷ []) end) rests off);
      }
  run_leave ns how dropped count after st end is (passed _ many rest below test value _ _ e same m on off) =
      absurd (cc (head_same (node.Leave how dropped count) (node.Pass many) after rest (sym is ∙ e)))

  -- nodes that may be passed over where a condition is false
  pub record Passes (count : ℕ) (after : List Node) (st end : List Meaning) : Type 0 where
    pub below : List Meaning
    pub test : Meaning
    pub value : Meaning
    pub is : st ≡ below ++ test ∷ []
    pub masked : IsMasked test value
    pub on : Run l after st end
    pub off : Run l (drop count after) (st ++ value ∷ []) end

  pub run_pass : (ns : List Node) (count : ℕ) (after : List Node) (st end : List Meaning) → ns ≡ node.Pass count ∷ after → Run l ns st end → Passes count after st end
  run_pass ns count after st end is (finished _ _ e) = absurd (cc (is, e))
  run_pass ns count after st end is (stepped _ m rest _ _ e ok t) =
      let h : m ≡ node.Pass count = sym (head_same (node.Pass count) m after rest (sym is ∙ e)) in
      absurd (subst IsStep h ok)
  run_pass ns count after st end is (quantified _ q r source target many rest _ ms _ e b t) =
      absurd (cc (head_same (node.Pass count) (node.Over q r source target many) after rest (sym is ∙ e)))
  run_pass ns count after st end is (left _ how dropped many rest below before newest whole _ _ e same d dec on off) =
      absurd (cc (head_same (node.Pass count) (node.Leave how dropped many) after rest (sym is ∙ e)))
  run_pass ns count after st end is (passed _ count' rest below test value _ _ e same m on off) =
      let h = head_same (node.Pass count) (node.Pass count') after rest (sym is ∙ e) in
      let rests : rest ≡ after = sym (tail_same (node.Pass count) (node.Pass count') after rest (sym is ∙ e)) in
      let cs : count' ≡ count = cc h in
      record {
        below = below;
        test = test;
        value = value;
        is = same;
        masked = m;
        on = subst (λ xs. Run l xs st end) rests on;
        off = subst (λ j. Run l (drop j after) (st ++ value ∷ []) end) cs (subst (λ xs. Run l (drop count' xs) (st ++ value ∷ []) end) rests off);
      }
