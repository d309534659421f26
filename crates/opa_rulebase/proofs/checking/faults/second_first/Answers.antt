use Rattle.std.proofs.Common.{◌≡◌, ◌∙◌, ◌++◌, ◌+◌, ◌∷◌, [], ap, ap₂, sym, subst, take, drop, List, Bool}
use Rattle.std.specs.Prelude.{is_some}
use Rattle.opa_io.proofs.Places.{drop_from}
use Rattle.opa_tree.specs.declared.faults.RbKind.TheVariants.{Twice}
use Rattle.opa_tree.specs.declared.rules.Rule.{Rule}
use Rattle.opa_tree.specs.FirstFaults.{first_of, first_fault}
use Rattle.opa_tree.specs.Rules.{rule_of}
use Rattle.opa_tree.proofs.FirstFaultLaws.{first_fault-append, first_of-assoc}
use Rattle.opa_rulebase.specs.Checking.Faults.{fault_at, when, second_faults, AreMarks}
use Rattle.opa_tree.proofs.Setting.{one_more}
use Rattle.opa_rulebase.proofs.checking.faults.second_first.Goals as goal

pub loop-rule-preserved : goal.loop-rule-preserved
loop-rule-preserved c =
    let rules = c.args.rules.now in let i = c.loop-rule.rule-index in let rule = c.rule-item.result in
    let before : List Rule = take i rules in let after : List Rule = drop (i + 1) rules in
    let seen = one_more rules i rule c.loop-rule-test.true c.rule-item.is in let rest = drop_from rules i rule c.loop-rule-test.true c.rule-item.is in
    let own = when (is_some (rule_of before rule.attr)) (fault_at Twice rule) in let others = second_faults (before ++ rule ∷ []) after in (
      subst (λ (xs : List Rule). AreMarks c.args.count xs c.is_second-is_second.new.marks.items) (sym seen) (c.is_second-is_second.ensures.marked c.args.count before c.loop-rule.invariant.0),
      ap₂ first_of
          (c.first_of-first.ensures ∙ ap (first_of c.loop-rule.first) (c.second_fault.ensures ∙ ap (λ (b : Bool). first_fault (when b (fault_at Twice rule))) (c.is_second-is_second.ensures.second c.args.count before c.loop-rule.invariant.0)))
          (ap (λ (xs : List Rule). first_fault (second_faults xs after)) seen)
          ∙ first_of-assoc c.loop-rule.first (first_fault own) (first_fault others)
          ∙ ap (first_of c.loop-rule.first) (sym (first_fault-append own others) ∙ ap (λ (xs : List Rule). first_fault (second_faults before xs)) (sym rest))
          ∙ c.loop-rule.invariant.1,
    )
