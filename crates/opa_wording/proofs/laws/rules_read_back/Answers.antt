use Rattle.opa_wording.proofs.ReadingBack.{rules_are_laid_out_hold, rules_read_back_hold}
use Rattle.opa_wording.proofs.SmallRules.{small_rules_fit_hold}
use Rattle.opa_wording.proofs.laws.rules_read_back.Goals as goal

pub returns-clause-laid : goal.returns-clause-laid
returns-clause-laid c = rules_are_laid_out_hold

pub returns-clause-rules : goal.returns-clause-rules
returns-clause-rules c = rules_read_back_hold

pub returns-clause-small : goal.returns-clause-small
returns-clause-small c = small_rules_fit_hold
