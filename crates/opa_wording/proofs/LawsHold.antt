-- The laws of written lines hold.
use Rattle.opa_wording.proofs.TreesSpelled.{lines_spell_trees_holds, factors_spell_trees_holds}
use Rattle.opa_wording.proofs.TreesWell.{lines_are_cut_holds}
use Rattle.opa_wording.proofs.PhrasesFound.{readable_is_read_holds}
use Rattle.opa_wording.proofs.ReadingBack.{lines_read_back_hold, rules_are_laid_out_hold, rules_are_spelled_hold, rules_read_back_hold}
use Rattle.opa_wording.proofs.TightLines.{rules_are_tight_hold, rules_nest_at_most_hold}

pub ruleset laws = (lines_spell_trees_holds, factors_spell_trees_holds)

pub ruleset cuts = (lines_are_cut_holds)

pub ruleset phrases = (readable_is_read_holds)

pub ruleset back = (lines_read_back_hold, rules_are_laid_out_hold, rules_are_spelled_hold, rules_read_back_hold)

pub ruleset shape = (rules_are_tight_hold, rules_nest_at_most_hold)
