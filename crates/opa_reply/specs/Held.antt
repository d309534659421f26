-- What is held between two lines: a rulebase, a case, how many slots the last change reached, what listeners watch and keep, the
-- files of a shelf, where they are told, and how many lines of conclusions were derived, as far as a counter tells.
use Rattle.std.specs.Prelude.{ℕ, List, Option}
use Rattle.std.specs.declared.sync.ledger.Ledger.{Ghosts}
use Rattle.opa_io.specs.Outside.{Files}
use Rattle.opa_case.specs.Cases.{CaseView, no_case}
use Rattle.opa_listen.specs.Hearing.{Hearer}
use Rattle.opa_tree.specs.declared.rulebase.Rulebase.{Rulebase}
use Rattle.opa_session.specs.declared.infer.session.Session.{Session}
use Rattle.opa_session.specs.Infer.Sessions.{rules_of, held_of, reached_of}

pub record Held : Type 0 where
  pub rules : Rulebase
  pub case : CaseView
  pub reached : ℕ
  pub hearers : List Hearer
  pub files : Option Files
  pub derived : ℕ

abbrev pub held : Rulebase → CaseView → ℕ → List Hearer → Option Files → ℕ → Held
held rules case reached hearers files derived =
    record { rules = rules; case = case; reached = reached; hearers = hearers; files = files; derived = derived }

-- a session, beside what listeners hear, the files and the steps that were counted
abbrev pub beside : {L : Type 0} {G : Ghosts L} → Session L G → List Hearer → Option Files → ℕ → Held
beside s hearers files steps = held (rules_of s) (held_of s) (reached_of s) hearers files steps

-- other listeners, other files, or another count
abbrev pub with_hearers : Held → List Hearer → Held
with_hearers x hearers = held x.rules x.case x.reached hearers x.files x.derived

abbrev pub with_files : Held → Option Files → Held
with_files x files = held x.rules x.case x.reached x.hearers files x.derived

abbrev pub with_derived : Held → ℕ → Held
with_derived x derived = held x.rules x.case x.reached x.hearers x.files derived

-- At first nothing is known of the case, and nothing was changed; so many lines were derived by then.
abbrev pub at_first : Rulebase → List Hearer → Option Files → ℕ → Held
at_first rules hearers files derived = held rules no_case 0 hearers files derived
