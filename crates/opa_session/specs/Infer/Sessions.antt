-- What is held of a claimant by a rulebase, and what a change of it tells.
use Rattle.std.specs.Prelude.{◌≡◌, ℕ, List, length, map, Result}
use Rattle.std.specs.List.{AllZip}
use Rattle.std.specs.declared.sync.ledger.Ledger.{Ghosts}
use Rattle.opa_case.specs.Cases.{CaseView, no_case}
use Rattle.opa_case.specs.Shapes.{shape_of}
use Rattle.opa_case.specs.Steps.{step}
use Rattle.opa_case.specs.declared.change.ChangeCommand.{ChangeCommand}
use Rattle.opa_case.specs.declared.change.Refusal.{Refusal}
use Rattle.opa_listen.specs.declared.change.Change.{Change}
use Rattle.opa_listen.specs.Hearing.{Hearer, hearing}
use Rattle.opa_tree.specs.declared.rulebase.Rulebase.{Rulebase}
use Rattle.opa_mean.specs.Changes.{changes, dirty, slots}
use Rattle.opa_mean.specs.Given.{base_of, facts_of}
use Rattle.opa_session.specs.Telling.Telling.{TellsOf}
use Rattle.opa_session.specs.declared.infer.session.Session.{Session}

abbrev pub rules_of : {L : Type 0} {G : Ghosts L} → Session L G → Rulebase
rules_of s = s.base

abbrev pub held_of : {L : Type 0} {G : Ghosts L} → Session L G → CaseView
held_of s = s.case

-- how many slots the last accepted change reached; 0 before the first one
abbrev pub reached_of : {L : Type 0} {G : Ghosts L} → Session L G → ℕ
reached_of s = s.dirty

-- what a command makes of the case: a new case, or the first refusal
abbrev pub changed_by : {L : Type 0} {G : Ghosts L} → ChangeCommand → Session L G → Result CaseView Refusal
changed_by command s = step (shape_of s.base.model) s.base.ruled s.case command

-- how many slots another case reaches
abbrev pub reached : Rulebase → CaseView → CaseView → ℕ
reached r c c' = dirty (base_of r) (facts_of c) (facts_of c')

-- how many slots there are where nothing is known
abbrev pub first_slots : Rulebase → ℕ
first_slots r = length (slots (base_of r) (facts_of no_case))

-- these are the changes from one case to another, as listeners are told of them
abbrev pub AreChanges : Rulebase → CaseView → CaseView → List Change → Type 0
AreChanges r c c' told = AllZip (TellsOf r.model) (changes (base_of r) (facts_of c) (facts_of c')) told

-- Each listener keeps those of the changes from one case to another that it watches, in order, and so many there are.
pub record Tells (r : Rulebase) (c c' : CaseView) (before after : List Hearer) (count : ℕ) : Type 0 where
  pub told : List Change
  pub changes : AreChanges r c c' told
  pub heard : after ≡ map (hearing told) before
  pub count_is : count ≡ length told
