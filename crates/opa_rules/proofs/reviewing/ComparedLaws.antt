-- What is found of comparisons is so.
use Rattle.std.proofs.Common.{◌≡◌, [], Option, None, Some, Contains, refl, subst, ⊎_elim}
use Rattle.opa_tree.specs.declared.rulebase.Rulebase.{Rulebase}
use Rattle.opa_tree.specs.declared.rules.Rule.{Rule}
use Rattle.opa_tree.proofs.Members.{none_in, contains_cases, flat_out}
use Rattle.opa_rules.specs.declared.reviewing.finding.Compared.{Compared}
use Rattle.opa_rules.specs.declared.reviewing.finding.Comparison.{Comparison}
use Rattle.opa_rules.specs.declared.reviewing.finding.Finding.{Finding}
use Rattle.opa_rules.specs.declared.reviewing.finding.Finding.TheVariants as finding
use Rattle.opa_rules.specs.declared.reviewing.finding.Verdict.{Verdict}
use Rattle.opa_rules.specs.Reviewing.Compared.{verdict_of, found_by, of_comparison, compared_in}
use Rattle.opa_rules.specs.Reviewing.Comparisons.{comparisons}
use Rattle.opa_rules.specs.Reviewing.NoCase.{IsCompared}
use Rattle.opa_rules.proofs.reviewing.JudgedLaws.{judged_so}
use Rattle.opa_rules.proofs.reviewing.StandingLaws.{stands_in}

-- what holds of each comparison that is as is said holds of all that is found of comparisons
pub compared_so : (base : Rulebase) (rule : Rule) → Contains base.rules rule → (Holds : Finding → Type 0) → ((f : Compared) → IsCompared base f → Holds (finding.Compared f)) → (f : Finding) → Contains (compared_in base rule) f → Holds f
compared_so base rule there Holds told f h =
    let found = flat_out (of_comparison base rule) (comparisons rule.expr) f h in
    go found.0 found.1.0 (verdict_of base found.0) refl found.1.1
  where
    go : (k : Comparison) → Contains (comparisons rule.expr) k → (o : Option Verdict) → verdict_of base k ≡ o → Contains (found_by rule k o) f → Holds f
    go k stands None is has = absurd (none_in f has)
    go k stands (Some v) is has =
        let so : IsCompared base (record { attr = rule.attr; file = rule.file; line = rule.line; comparison = k; verdict = v }) = record {
          rule = rule;
          of_base = there;
          concludes = refl;
          in_file = refl;
          at_line = refl;
          stands = stands_in rule.expr k stands;
          is_so = judged_so base k v is;
        } in
        ⊎_elim (λ e. subst Holds e (told _ so)) (λ none. absurd (none_in f none)) (contains_cases (finding.Compared (record { attr = rule.attr; file = rule.file; line = rule.line; comparison = k; verdict = v })) f [] has)
