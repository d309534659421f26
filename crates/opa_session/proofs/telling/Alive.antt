-- All slots are chosen.
use Rattle.std.proofs.Common.{◌≡◌, List, ap}
use Rattle.opa_model.specs.declared.ids.AttrId.{AttrId}
use Rattle.opa_cells.specs.declared.instance.InstanceId.{InstanceId}
use Rattle.opa_case.specs.Cases.{CaseView}
use Rattle.opa_tree.specs.declared.rulebase.Rulebase.{Rulebase}
use Rattle.opa_mean.specs.Changes.{slots}
use Rattle.opa_mean.specs.Given.{base_of, facts_of}
use Rattle.opa_mean.specs.Rulebases.{IsOf}
use Rattle.opa_session.specs.Telling.Among.{AreChosen}
use Rattle.opa_session.specs.Telling.Telling.{changes_among}
use Rattle.opa_session.proofs.telling.Walked.{are_slots}

pub all_chosen : (r : Rulebase) (old c : CaseView) → IsOf r c → (xs : List (AttrId × InstanceId)) → xs ≡ slots (base_of r) (facts_of c) → AreChosen r old c xs
all_chosen r old c is xs e = record { live = are_slots r c is xs e; same = ap (changes_among (base_of r) (facts_of old) (facts_of c)) e }
