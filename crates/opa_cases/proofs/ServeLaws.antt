-- A line of a case is served.
use Rattle.std.proofs.Common.{◌≡◌, ℕ, Bool, false, List, refl, sym, ap, ◌∙◌, subst}
use Rattle.std.specs.declared.sync.ledger.Ledger.{Ghosts}
use Rattle.std.specs.Prelude.{Option, None, Some, Result, IfOk, IfErr, MatchOption}
use Rattle.opa_io.specs.Outside.{Files}
use Rattle.opa_session.specs.declared.infer.session.Session.{Session}
use Rattle.opa_session.specs.Infer.Sessions.{rules_of}
use Rattle.opa_model.specs.declared.lists.Lists.{Lists}
use Rattle.opa_script.specs.declared.fault.CmdFault.{CmdFault}
use Rattle.opa_tree.specs.declared.rulebase.Rulebase.{Rulebase}
use Rattle.opa_cases.specs.declared.kept.Current.{Current}
use Rattle.opa_cases.specs.declared.kept.OpenCase.{OpenCase}
use Rattle.opa_cases.specs.declared.orders.Order.{Order}
use Rattle.opa_cases.specs.Caseload.{Held, Opens, Serves, held, is_full, behind_name}
use Rattle.opa_cases.specs.Holding.{open_of, opens_of, current_by, IsTurned}
use Rattle.opa_cases.specs.Orders.{IsOrder, OrdersNothing}
use Rattle.opa_cases.specs.Scripts.{Responds, left_by}
use Rattle.opa_cases.proofs.OpenLaws.{after_line}
use Rattle.opa_cases.proofs.ReadLaws.{read_as}

module _ {L : Type 0} {G : Ghosts L} (r r' : Rulebase) (before : Opens) (files : Option Files) (name rest : List ℕ) (m : Lists) (read : Result Order CmdFault) (s t : Session L G) (others : Opens) (c d : Current) (closed : Bool) (said text : List ℕ) where
  pub served : is_full before name ≡ false → IsTurned name before s others c → m ≡ r.model → IfOk read (IsOrder m rest) → IfErr read (OrdersNothing m rest)
      → Responds r (open_of s c) read said closed (open_of t d) → d.name ≡ c.name → text ≡ behind_name name said → r' ≡ r
      → Serves (held r before files) name rest text (held r' (opens_of t (current_by closed d) others) files)
  served room turned same ok err says named text_is rules = record {
    room = room;
    said = said;
    next = left_by closed (open_of t d);
    replies = record {
      read = read;
      is = read_as r m rest same (open_of s c) (open_of t d) said closed read ok err says;
      closed = closed;
      after = open_of t d;
      responds = subst (λ (q : OpenCase). Responds r q read said closed (open_of t d)) turned.same says;
      left = refl;
    };
    text_is = text_is;
    after = ap (λ q. held q (opens_of t (current_by closed d) others) files) rules ∙ ap (λ o. held r o files) (after_line before name t others closed d turned.rest (named ∙ turned.named));
  }

-- the same, as the session and the others are kept
pub served_kept : {L : Type 0} {G : Ghosts L} (x : Held) (name rest text : List ℕ) (files : Option Files) (s s' : Session L G) (o o' : Option Current) (t t' : Opens) → s' ≡ s → o' ≡ o → t' ≡ t
    → Serves x name rest text (held (rules_of s) (opens_of s o t) files) → Serves x name rest text (held (rules_of s') (opens_of s' o' t') files)
served_kept {L} {G} x name rest text files s s' o o' t t' es eo et h =
    let P : Session L G → Type 0 = λ q. Serves x name rest text (held (rules_of q) (opens_of q o t) files) in
    let Q : Option Current → Type 0 = λ q. Serves x name rest text (held (rules_of s') (opens_of s' q t) files) in
    let R : Opens → Type 0 = λ q. Serves x name rest text (held (rules_of s') (opens_of s' o' q) files) in
    subst R (sym et) (subst Q (sym eo) (subst P (sym es) h))

-- nothing was found
pub none_of : {A : Type 0} (P : Type 0) (Q : A → Type 0) (o : Option A) → o ≡ None → MatchOption o P Q → P
none_of P Q None e h = h
none_of P Q (Some a) e h = absurd (cc e)
