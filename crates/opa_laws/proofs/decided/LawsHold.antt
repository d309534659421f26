-- The laws that the crate's public functions state.
use Rattle.opa_laws.proofs.decided.Accepted.{one_base_holds}
use Rattle.opa_laws.proofs.decided.Blocks.{one_member_blocks_hold, one_rule_blocks_hold}
use Rattle.opa_laws.proofs.decided.Checked.{one_circle_holds, one_check_fault_holds, rulebases_are_not_refused_hold}
use Rattle.opa_laws.proofs.decided.Declared.{one_declaration_fault_holds}
use Rattle.opa_laws.proofs.decided.Laid.{one_laying_holds}
use Rattle.opa_laws.proofs.decided.Opened.{one_opening_holds}
use Rattle.opa_laws.proofs.decided.Reading.{one_tabling_holds, one_inferences_hold, one_member_fault_holds, inferences_or_fault_hold, one_rule_list_holds, one_rule_fault_holds, rules_or_fault_hold}
use Rattle.opa_laws.proofs.decided.Refused.{one_refusal_holds, accepted_or_refused_hold}
use Rattle.opa_laws.proofs.decided.Taken.{one_taken_holds}

pub ruleset taking = (one_taken_holds, one_laying_holds)

pub ruleset finding = (one_declaration_fault_holds, one_member_blocks_hold, one_rule_blocks_hold, one_tabling_holds)

pub ruleset reading = (one_inferences_hold, one_member_fault_holds, inferences_or_fault_hold, one_rule_list_holds, one_rule_fault_holds, rules_or_fault_hold)

pub ruleset checking = (one_circle_holds, one_check_fault_holds, rulebases_are_not_refused_hold)

pub ruleset opening = (one_refusal_holds, accepted_or_refused_hold, one_base_holds, one_opening_holds)

pub ruleset laws = (taking, finding, reading, checking, opening)
