use Rattle.std.proofs.Common.{◌≡◌, ◌⊎◌, ℕ, None, inl, inr, ap, sym, subst, map}
use Rattle.opa_date.specs.declared.TheConstants.{DAYS}
use Rattle.opa_line.specs.Lines.{StandsFor}
use Rattle.opa_line.proofs.Zipping.{ok_weaker}
use Rattle.opa_value.specs.Truth.{all_of, any_of, strict}
use Rattle.opa_mean.specs.Operations.{op_of}
use Rattle.opa_code.specs.OverLines.Lines.{meaning_of}
use Rattle.opa_code.specs.Running.{IsStep, node_meaning}
use Rattle.opa_code.specs.Steps.{attribute_in}
use Rattle.opa_code.specs.declared.node.Decider.{Decider}
use Rattle.opa_code.specs.declared.node.Node.{Node}
use Rattle.opa_code.specs.declared.node.Node.TheVariants as node
use Rattle.opa_model.specs.declared.ids.AttrId.{AttrId}
use Rattle.opa_model.specs.declared.ids.RelId.{RelId}
use Rattle.opa_tree.specs.declared.kinds.Quant.{Quant}
use Rattle.opa_code.proofs.Standing.{stands_same, each_lines, day_is}
use Rattle.opa_code.proofs.carry.made_line.Goals as goal

pub returns-in-All : goal.returns-in-All
returns-in-All c =
    let ops = c.args.operands.now in
    ok_weaker c.gathered_over.result _ _ (λ line h l enclosing no ok. subst (λ n. StandsFor DAYS (node_meaning l n (map meaning_of ops) enclosing) line) (sym c.in-All.is)
    (stands_same line _ _ (λ d lt. ap all_of (sym (each_lines ops enclosing d))) h)) c.gathered_over.ensures

pub returns-in-Any : goal.returns-in-Any
returns-in-Any c =
    let ops = c.args.operands.now in
    ok_weaker c.gathered_over-in-Any.result _ _ (λ line h l enclosing no ok. subst (λ n. StandsFor DAYS (node_meaning l n (map meaning_of ops) enclosing) line) (sym c.in-Any.is)
    (stands_same line _ _ (λ d lt. ap any_of (sym (each_lines ops enclosing d))) h)) c.gathered_over-in-Any.ensures

pub returns-in-Op : goal.returns-in-Op
returns-in-Op c =
    let ops = c.args.operands.now in
    ok_weaker c.op_over.result _ _ (λ line h l enclosing no ok. subst (λ n. StandsFor DAYS (node_meaning l n (map meaning_of ops) enclosing) line) (sym c.in-Op.is)
    (stands_same line _ _ (λ d lt. ap (strict (op_of c.in-Op.kind)) (sym (each_lines ops enclosing d))) h)) c.op_over.ensures

pub returns-in-Choose : goal.returns-in-Choose
returns-in-Choose c =
    let ops = c.args.operands.now in
    ok_weaker c.chosen_line.result _ _ (λ line h l enclosing no ok. subst (λ n. StandsFor DAYS (node_meaning l n (map meaning_of ops) enclosing) line) (sym c.in-Choose.is) (h enclosing)) c.chosen_line.ensures

-- a node that takes operands is none of these
no_operation : (n : Node) → attribute_in n ≡ None → IsStep n → ((a : AttrId) × (owner : ℕ) × (n ≡ node.Attr a owner))
    ⊎ (((q : Quant) × (r : RelId) × (source : ℕ) × (target : ℕ) × (count : ℕ) × (n ≡ node.Over q r source target count)) ⊎ (((how : Decider) × (dropped : ℕ) × (count : ℕ) × (n ≡ node.Leave how dropped count)) ⊎ ((count : ℕ) × (n ≡ node.Pass count)))) → ⊥
no_operation n none ok (inl e) = cc (none, ap attribute_in e.2)
no_operation n none ok (inr (inl e)) = subst IsStep e.5 ok
no_operation n none ok (inr (inr (inl e))) = subst IsStep e.3 ok
no_operation n none ok (inr (inr (inr e))) = subst IsStep e.1 ok

pub returns-in-Attr : goal.returns-in-Attr
returns-in-Attr c = ok_weaker c.constant.result _ _ (λ line h l enclosing none ok. absurd (no_operation c.args.node.now none ok c.in-Attr.is)) c.constant.ensures.everywhere

pub returns-in-Const : goal.returns-in-Const
returns-in-Const c =
    let ops = c.args.operands.now in
    ok_weaker c.same_line.result _ _ (λ line h l enclosing none ok. subst (λ n. StandsFor DAYS (node_meaning l n (map meaning_of ops) enclosing) line) (sym c.in-Const.is)
    (stands_same line _ _ (day_is c.line.result.now _ c.line.ensures) h)) c.same_line.ensures
