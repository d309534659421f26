use Rattle.std.proofs.Common.{◌≡◌, ◌∙◌, ◌&&◌, ap, sym, map, Bool, List}
use Rattle.opa_model.specs.declared.things.Kind.{Kind}
use Rattle.opa_tree.specs.Kinds.{Typing, typed, all_can}
use Rattle.opa_rulebase.specs.declared.checking.sets.KindSet.{KindSet}
use Rattle.opa_rulebase.specs.Checking.KindSets.{has, typing_of}
use Rattle.opa_rulebase.proofs.checking.SetLaws.{meets_more, meets_none}
use Rattle.opa_rulebase.proofs.checking.sets.meet.Goals as goal

pub loop-set-init : goal.loop-set-init
loop-set-init c = (
  ap (λ (t : Typing). t.is_decimals) c.every-kinds.ensures,
  ap (λ (f : Kind → Bool). typed (λ k. f k && all_can (map typing_of c.args.sets.now) k)) (ap (λ (t : Typing). t.can) c.every-kinds.ensures),
)

pub loop-set-preserved : goal.loop-set-preserved
loop-set-preserved c = (
  ap (λ (t : Typing). t.is_decimals) c.and-kinds.ensures,
  ap (λ (f : Kind → Bool). typed (λ k. f k && all_can (map typing_of c.in-Some.later.now) k)) (ap (λ (t : Typing). t.can) c.and-kinds.ensures)
      ∙ meets_more (has c.loop-set.kinds) (has c.in-Some.set.now) (all_can (map typing_of c.in-Some.later.now))
      ∙ ap (λ (xs : List KindSet). typed (λ k. has c.loop-set.kinds k && all_can (map typing_of xs) k)) (sym c.in-Some.ensures)
      ∙ c.loop-set.invariant.1,
)

pub returns : goal.returns
returns c =
    ap (λ (d : Bool). let t : Typing = record { can = has c.loop-set.kinds; is_decimals = d } in t) c.loop-set.invariant.0
    ∙ sym (meets_none (has c.loop-set.kinds)) ∙ ap (λ (xs : List KindSet). typed (λ k. has c.loop-set.kinds k && all_can (map typing_of xs) k)) (sym c.in_default.ensures) ∙ c.loop-set.invariant.1
