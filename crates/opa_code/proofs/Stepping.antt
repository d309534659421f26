-- What is kept from one node to the next.
use Rattle.std.proofs.Common.{◌≡◌, ℕ, ◌-◌, Bool, true, false, cond, List, [], ◌∷◌, ◌++◌, None, Some, length, take, drop, refl, sym, ◌∙◌, ap, subst, arith}
use Rattle.std.proofs.lemmas.List.{length-append}
use Rattle.std.proofs.Math.Seq.{take-append_seam, drop-append_seam}
use Rattle.opa_date.specs.declared.TheConstants.{DAYS}
use Rattle.opa_value.specs.declared.value.Value.{Value}
use Rattle.opa_value.specs.declared.value.Value.TheVariants.{Uncertain}
use Rattle.opa_line.specs.Lines.{StandsFor}
use Rattle.opa_model.specs.declared.ids.RelId.{RelId}
use Rattle.opa_tree.specs.declared.kinds.Quant.{Quant}
use Rattle.opa_cells.specs.declared.instance.InstanceId.{InstanceId}
use Rattle.opa_mean.specs.Looks.{Look}
use Rattle.opa_mean.specs.Meaning.{Meaning}
use Rattle.opa_code.specs.OverLines.Lines.{Stand, values_at}
use Rattle.opa_code.specs.Running.{Run, IsDecided, IsStep, put, over_meaning}
use Rattle.opa_code.specs.Steps.{AreDecided, IsOver, IsPutBack, IsRefuted, Keeps, Leaves, leave_at, over_at, pass_at}
use Rattle.opa_code.specs.declared.node.Decider.{Decider}
use Rattle.opa_code.specs.declared.node.Node.{Node}
use Rattle.opa_code.specs.declared.node.Node.TheVariants as node
use Rattle.opa_code.proofs.Inverting.{IsPlain, run_none, run_step, run_over, run_leave, run_pass}
use Rattle.opa_code.proofs.Standing.{stand_push, stand_more, stand_newest, stand_take, stand_drop, stand_length, stand_values, stands_same}

abbrev Lines : Type 0
Lines = List (List (ℕ × Value))

pub over_is : (n : Node) (q : Quant) (r : RelId) (source target count : ℕ) → over_at n ≡ Some (q, (r, (source, (target, count)))) → n ≡ node.Over q r source target count
over_is (node.Over q' r' s' t' k) q r source target count e = let p : (q', (r', (s', (t', k)))) ≡ (q, (r, (source, (target, count)))) = cc e in ap (λ (x : Quant × (RelId × (ℕ × (ℕ × ℕ)))). node.Over x.0 x.1.0 x.1.1.0 x.1.1.1.0 x.1.1.1.1) p
over_is (node.Const v) q r source target count e = absurd (cc e)
over_is (node.Attr a o) q r source target count e = absurd (cc e)
over_is (node.All k) q r source target count e = absurd (cc e)
over_is (node.Any k) q r source target count e = absurd (cc e)
over_is node.Not q r source target count e = absurd (cc e)
over_is (node.Op k n) q r source target count e = absurd (cc e)
over_is node.Certain q r source target count e = absurd (cc e)
over_is node.Known q r source target count e = absurd (cc e)
over_is (node.Window k n) q r source target count e = absurd (cc e)
over_is (node.Rolling b n) q r source target count e = absurd (cc e)
over_is node.Choose q r source target count e = absurd (cc e)
over_is (node.Leave h k n) q r source target count e = absurd (cc e)
over_is (node.Pass n) q r source target count e = absurd (cc e)

pub leave_is : (n : Node) (how : Decider) (dropped count : ℕ) → leave_at n ≡ Some (how, (dropped, count)) → n ≡ node.Leave how dropped count
leave_is (node.Leave h k n) how dropped count e = let p : (h, (k, n)) ≡ (how, (dropped, count)) = cc e in ap (λ (x : Decider × (ℕ × ℕ)). node.Leave x.0 x.1.0 x.1.1) p
leave_is (node.Const v) how dropped count e = absurd (cc e)
leave_is (node.Attr a o) how dropped count e = absurd (cc e)
leave_is (node.All k) how dropped count e = absurd (cc e)
leave_is (node.Any k) how dropped count e = absurd (cc e)
leave_is node.Not how dropped count e = absurd (cc e)
leave_is (node.Op k n) how dropped count e = absurd (cc e)
leave_is node.Certain how dropped count e = absurd (cc e)
leave_is node.Known how dropped count e = absurd (cc e)
leave_is (node.Over q r s t k) how dropped count e = absurd (cc e)
leave_is (node.Window k n) how dropped count e = absurd (cc e)
leave_is (node.Rolling b n) how dropped count e = absurd (cc e)
leave_is node.Choose how dropped count e = absurd (cc e)
leave_is (node.Pass n) how dropped count e = absurd (cc e)

pub pass_is : (n : Node) (count : ℕ) → pass_at n ≡ Some count → n ≡ node.Pass count
pass_is (node.Pass n) count e = cc e
pass_is (node.Const v) count e = absurd (cc e)
pass_is (node.Attr a o) count e = absurd (cc e)
pass_is (node.All k) count e = absurd (cc e)
pass_is (node.Any k) count e = absurd (cc e)
pass_is node.Not count e = absurd (cc e)
pass_is (node.Op k n) count e = absurd (cc e)
pass_is node.Certain count e = absurd (cc e)
pass_is node.Known count e = absurd (cc e)
pass_is (node.Over q r s t k) count e = absurd (cc e)
pass_is (node.Window k n) count e = absurd (cc e)
pass_is (node.Rolling b n) count e = absurd (cc e)
pass_is node.Choose count e = absurd (cc e)
pass_is (node.Leave h k n) count e = absurd (cc e)

module _ (l : Look) (enclosing : List InstanceId) where
  -- a node that is carried out by itself
  pub carried_kept : (old new : Lines) (n : Node) (after : List Node) → over_at n ≡ None → leave_at n ≡ None → pass_at n ≡ None → ((st : List Meaning) → IsStep n → Stand enclosing old st → Stand enclosing new (put l n st)) → Keeps l enclosing old (n ∷ after) new after
  carried_kept old new n after no_over no_leave no_pass carried end s =
      let plain : IsPlain n = record { no_over = no_over; no_leave = no_leave; no_pass = no_pass } in
      let r = run_step l (n ∷ after) n after s.stack end refl plain s.goes in
      record { stack = put l n s.stack; stand = carried s.stack r.ok s.stand; goes = r.goes }

  -- a quantifier with the nodes of its operand
  pub over_kept : (old new : Lines) (line : List (ℕ × Value)) (n : Node) (q : Quant) (rel : RelId) (source target count : ℕ) (after operand rest : List Node) → over_at n ≡ Some (q, (rel, (source, (target, count)))) → operand ≡ take count after → rest ≡ drop count after
      → new ≡ old ++ line ∷ [] → IsOver l enclosing operand q rel source target line → Keeps l enclosing old (n ∷ after) new rest
  over_kept old new line n q rel source target count after operand rest said operand_is rest_is new_is stands end s =
      let r = run_over l (n ∷ after) q rel source target count after s.stack end (ap (λ x. x ∷ after) (over_is n q rel source target count said)) s.goes in
      let m = over_meaning l q rel source target r.operands in
      let here : StandsFor DAYS (m enclosing) line = stands r.operands (subst (λ xs. Run l xs [] r.operands) (sym operand_is) r.runs) in
      record {
        stack = s.stack ++ m ∷ [];
        stand = subst (λ ls. Stand enclosing ls (s.stack ++ m ∷ [])) (sym new_is) (stand_push enclosing old s.stack line m s.stand here);
        goes = subst (λ xs. Run l xs (s.stack ++ m ∷ []) end) (sym rest_is) r.goes;
      }

  -- nodes that aren't passed over
  pub left_on : (old new : Lines) (how : Decider) (dropped count : ℕ) (after : List Node) → new ≡ old → Keeps l enclosing old (node.Leave how dropped count ∷ after) new after
  left_on old new how dropped count after same end s =
      let r = run_leave l (node.Leave how dropped count ∷ after) how dropped count after s.stack end refl s.goes in
      record { stack = s.stack; stand = subst (λ ls. Stand enclosing ls s.stack) (sym same) s.stand; goes = r.on }

  -- nodes that are passed over, since the newest line is what all are worth
  pub left_off : (old under new : Lines) (newest : List (ℕ × Value)) (how : Decider) (dropped count from : ℕ) (after rest : List Node) → old ≡ under ++ newest ∷ [] → from ≡ length under - dropped → AreDecided how (drop from under) newest
      → new ≡ take from under ++ newest ∷ [] → rest ≡ drop count after → Keeps l enclosing old (node.Leave how dropped count ∷ after) new rest
  left_off old under new newest how dropped count from after rest old_is from_is decided new_is rest_is end s =
      let r = run_leave l (node.Leave how dropped count ∷ after) how dropped count after s.stack end refl s.goes in
      let both = stand_newest enclosing under (r.below ++ r.before) newest r.newest (subst (λ ls. Stand enclosing ls ((r.below ++ r.before) ++ r.newest ∷ [])) old_is (subst (Stand enclosing old) r.is s.stand)) in
      let place : from ≡ length r.below = (let a = stand_length enclosing under (r.below ++ r.before) both.0 in let b = length-append r.below r.before in let c = r.counted in omega (arith, from_is, a, b, c)) in
      let kept : Stand enclosing (take from under) r.below = subst (Stand enclosing (take from under)) (ap (λ k. take k (r.below ++ r.before)) place ∙ take-append_seam r.below r.before) (stand_take enclosing from under (r.below ++ r.before) both.0) in
      let gone : Stand enclosing (drop from under) r.before = subst (Stand enclosing (drop from under)) (ap (λ k. drop k (r.below ++ r.before)) place ∙ drop-append_seam r.below r.before) (stand_drop enclosing from under (r.below ++ r.before) both.0) in
      record {
        stack = r.below ++ r.whole ∷ [];
        stand = subst (λ ls. Stand enclosing ls (r.below ++ r.whole ∷ [])) (sym new_is) (stand_more enclosing (take from under) r.below newest r.whole kept (λ d lt. both.1 d lt ∙ sym (r.decides enclosing d
            (subst (λ vs. IsDecided how vs (r.newest enclosing d)) (stand_values enclosing (drop from under) r.before gone d lt) (subst (IsDecided how (values_at (drop from under) d)) (both.1 d lt) (decided d lt))))));
        goes = subst (λ xs. Run l xs (r.below ++ r.whole ∷ []) end) (sym rest_is) r.off;
      }

  -- nodes that are passed over if the newest line is put back in place of others
  pub left_put : (settled : Bool) (old under new : Lines) (newest : List (ℕ × Value)) (how : Decider) (dropped count : ℕ) (after rest : List Node) → old ≡ under ++ newest ∷ [] → IsPutBack how dropped settled under newest new
      → rest ≡ drop (cond settled count 0) after → Keeps l enclosing old (node.Leave how dropped count ∷ after) new rest
  left_put true old under new newest how dropped count after rest old_is put rest_is = left_off old under new newest how dropped count (length under - dropped) after rest old_is refl put.0 put.1 rest_is
  left_put false old under new newest how dropped count after rest old_is put rest_is =
      subst (Keeps l enclosing old (node.Leave how dropped count ∷ after) new) (sym rest_is) (left_on old new how dropped count after (put ∙ sym old_is))

  -- a value that isn't passed over
  pub passed_on : (old new : Lines) (count : ℕ) (after : List Node) → new ≡ old → Keeps l enclosing old (node.Pass count ∷ after) new after
  passed_on old new count after same end s =
      let r = run_pass l (node.Pass count ∷ after) count after s.stack end refl s.goes in
      record { stack = s.stack; stand = subst (λ ls. Stand enclosing ls s.stack) (sym same) s.stand; goes = r.on }

  -- a value that is passed over, since its condition is false on every day
  pub passed_off : (old new : Lines) (line : List (ℕ × Value)) (count : ℕ) (after rest : List Node) → IsRefuted old → StandsFor DAYS (λ _. Uncertain) line → new ≡ old ++ line ∷ [] → rest ≡ drop count after → Keeps l enclosing old (node.Pass count ∷ after) new rest
  passed_off old new line count after rest refuted uncertain new_is rest_is end s =
      let r = run_pass l (node.Pass count ∷ after) count after s.stack end refl s.goes in
      let both = stand_newest enclosing refuted.before r.below refuted.newest r.test (subst (λ ls. Stand enclosing ls (r.below ++ r.test ∷ [])) refuted.is (subst (Stand enclosing old) r.is s.stand)) in
      let here : StandsFor DAYS (r.value enclosing) line = stands_same line (λ _. Uncertain) (r.value enclosing) (λ d lt. sym (r.masked enclosing d (sym (both.1 d lt) ∙ refuted.false_always d))) uncertain in
      record {
        stack = s.stack ++ r.value ∷ [];
        stand = subst (λ ls. Stand enclosing ls (s.stack ++ r.value ∷ [])) (sym new_is) (stand_push enclosing old s.stack line r.value s.stand here);
        goes = subst (λ xs. Run l xs (s.stack ++ r.value ∷ []) end) (sym rest_is) r.off;
      }

  -- when no node is left
  pub run_left : (nodes rest : List Node) (stack : Lines) → Keeps l enclosing [] nodes stack rest → rest ≡ [] → Leaves l enclosing nodes stack
  run_left nodes rest stack kept none end run =
      let s = kept end (record { stack = []; stand = tt; goes = run }) in
      subst (Stand enclosing stack) (run_none l rest s.stack end none s.goes) s.stand
