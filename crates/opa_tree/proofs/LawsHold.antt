-- The laws that the crate's public functions state.
use Rattle.opa_tree.specs.Laws.{MentionsAreEachOnce, RulesAreFound, RanksFall, RanksAreUnique, ReachIsFound, ReachIsClosed}
use Rattle.opa_tree.specs.Ranks.{rank_at}
use Rattle.std.proofs.Common.{arith}
use Rattle.opa_tree.specs.Mentions.{mentioned, is_attr}
use Rattle.opa_tree.proofs.FirstOnesLaws.{first_ones-differ, first_ones-out, first_ones-in}
use Rattle.opa_tree.proofs.MentionLaws.{is_attr-tells}
use Rattle.opa_tree.proofs.RankLaws.{ranks_fall, ranks_unique, rule_found}
use Rattle.opa_tree.proofs.ReachLaws.{reach_reaches, reach_closed, reaches_reach}

pub ranks_fall_holds : RanksFall
ranks_fall_holds count rules ranks all are a b h = ranks_fall count rules ranks all are a b h

pub ranks_are_unique_holds : RanksAreUnique
ranks_are_unique_holds count rules ranks others all are also = ranks_unique count rules ranks others all are also

pub reach_is_found_holds : ReachIsFound
reach_is_found_holds count rules ranks all are a b = (reach_reaches rules (rank_at ranks a) a b, reaches_reach rules count ranks all are a b)

pub reach_is_closed_holds : ReachIsClosed
reach_is_closed_holds count rules ranks all are a b c h m = reach_closed rules count ranks all are (rank_at ranks a) a b c (omega arith) h m

pub mentions_are_each_once_holds : MentionsAreEachOnce
mentions_are_each_once_holds e =
    (first_ones-differ is_attr is_attr-tells (mentioned e), λ a. (first_ones-out is_attr is_attr-tells (mentioned e) a, first_ones-in is_attr is_attr-tells (mentioned e) a))

pub rules_are_found_holds : RulesAreFound
rules_are_found_holds rules differ r h = rule_found rules r differ h
