-- What a caseload holds: a session with the case of the line before, and the others beside it.
use Rattle.std.specs.Prelude.{◌≡◌, ℕ, Bool, true, false, List, All, Option, None, Some, is_some}
use Rattle.std.specs.Option.{ForSome}
use Rattle.std.specs.FinMap as map
use Rattle.std.specs.declared.sync.ledger.Ledger.{Ghosts}
use Rattle.opa_case.specs.Cases.{CaseView}
use Rattle.opa_case.specs.Fits.{Fits}
use Rattle.opa_case.specs.Shapes.{shape_of}
use Rattle.opa_session.specs.declared.infer.session.Session.{Session}
use Rattle.opa_session.specs.Infer.Sessions.{held_of}
use Rattle.opa_tree.specs.declared.rulebase.Rulebase.{Rulebase}
use Rattle.opa_cases.specs.declared.kept.Current.{Current}
use Rattle.opa_cases.specs.declared.kept.KeptCase.{KeptCase}
use Rattle.opa_cases.specs.declared.kept.OpenCase.{OpenCase}
use Rattle.opa_cases.specs.Scripts.{opened, opened_as}
use Rattle.opa_cases.specs.Caseload.{Opens}

-- the case that a session holds, as one that is open
abbrev pub open_of : {L : Type 0} {G : Ghosts L} → Session L G → Current → OpenCase
open_of s c = opened_as (held_of s) c.reached c.pile

-- the cases that are open: that of the session, if there is one, and the others
abbrev pub opens_of : {L : Type 0} {G : Ghosts L} → Session L G → Option Current → Opens → Opens
opens_of s None others = others
opens_of s (Some c) others = map.insert others c.name (open_of s c)

-- whose case the session holds after a line: nobody's, if it was closed
abbrev pub current_by : Bool → Current → Option Current
current_by true c = None
current_by false c = Some c

-- the case fits the rulebase
abbrev pub FitsRules : Rulebase → CaseView → Type 0
FitsRules r c = Fits (shape_of r.model) r.ruled c

-- all that is kept does
abbrev pub PileFits : Rulebase → List KeptCase → Type 0
PileFits r pile = All (λ k. FitsRules r k.case) pile

pub record OpenFits (r : Rulebase) (s : OpenCase) : Type 0 where
  pub case : FitsRules r s.case
  pub pile : PileFits r s.pile

-- each of the cases does
abbrev pub AllFit : Rulebase → Opens → Type 0
AllFit r cases = (name : List ℕ) (s : OpenCase) → map.get cases name ≡ Some s → OpenFits r s

-- the others haven't the name of the session's case
abbrev pub IsApart : Option Current → Opens → Type 0
IsApart o others = ForSome o (λ c. is_some (map.get others c.name) ≡ false)

-- and what is kept of the session's case
abbrev pub CurrentFits : Rulebase → Option Current → Type 0
CurrentFits r o = ForSome o (λ c. PileFits r c.pile)

-- ---- on the way there

-- the session holds the case of the name, and the others are those that were open without it
pub record IsTurned {L : Type 0} {G : Ghosts L} (name : List ℕ) (before : Opens) (s : Session L G) (others : Opens) (c : Current) : Type 0 where
  pub named : c.name ≡ name
  pub rest : others ≡ map.remove before name
  pub same : open_of s c ≡ opened (map.get before name)
