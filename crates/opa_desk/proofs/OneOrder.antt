-- The rest of a caseload's line asks for one thing, or for nothing for one reason.
use Rattle.std.proofs.Common.{◌≡◌, ◌⊎◌, inl, inr, ℕ, List, true, false, refl, sym, ap, ◌∙◌}
use Rattle.std.specs.Prelude.{◌≢◌, Result, Ok, Err}
use Rattle.opa_model.specs.declared.lists.Lists.{Lists}
use Rattle.opa_model.specs.Models.{IsModel}
use Rattle.opa_words.specs.Pieces.{Piece}
use Rattle.opa_script.specs.declared.command.Command.{Command}
use Rattle.opa_script.specs.declared.fault.CmdFault.{CmdFault}
use Rattle.opa_script.specs.declared.fault.CmdFault.TheVariants as fault
use Rattle.opa_script.specs.Commands.{IsCommand, IsNoCommand}
use Rattle.opa_script.specs.Laws.{IsWellFormed, OneCommand, RefusedOrRead}
use Rattle.opa_script.specs.Lines.{is_idle, HasTokens}
use Rattle.opa_script.proofs.LawsHold.{idle_apart, same_tokens}
use Rattle.opa_laws.specs.Decided.Laws.{OneCommandFault}
use Rattle.opa_cases.specs.declared.orders.Asked.{Asked}
use Rattle.opa_cases.specs.declared.orders.Asked.TheVariants as asked
use Rattle.opa_cases.specs.declared.orders.Order.{Order}
use Rattle.opa_cases.specs.declared.orders.Order.TheVariants as order
use Rattle.opa_cases.specs.Orders.{asked_of, Asks, IsOrder, IsNoOrder}

one_asked : (rest : List ℕ) (a b : Asked) → Asks rest a → Asks rest b → a ≡ b
one_asked rest a b h k = h.2 ∙ ap asked_of (same_tokens rest h.0 k.0 h.1 k.1) ∙ sym k.2

module _ (m : Lists) (rest : List ℕ) where
  -- what an order is, by its form
  abbrev Form : Order → Type 0
  Form order.Nothing = is_idle rest ≡ true
  Form order.Suppose = (is_idle rest ≡ false) × Asks rest asked.Suppose
  Form order.Undo = (is_idle rest ≡ false) × Asks rest asked.Undo
  Form order.Close = (is_idle rest ≡ false) × Asks rest asked.Close
  Form (order.Does c) = (is_idle rest ≡ false) × Asks rest asked.Command × IsCommand m rest c × IsWellFormed c

  form : (k : Order) → IsOrder m rest k → Form k
  form order.Nothing (IsOrder.idle i) = i
  form order.Suppose (IsOrder.supposes i a) = (i, a)
  form order.Undo (IsOrder.undoes i a) = (i, a)
  form order.Close (IsOrder.closes i a) = (i, a)
  form (order.Does c) (IsOrder.does _ i a is well) = (i, a, is, well)

  -- why there is none: nothing is asked for, or a command that is none
  abbrev Reason : CmdFault → Type 0
  Reason f = (is_idle rest ≡ false) × (((f ≡ fault.NotACommand) × ((ps : List Piece) → HasTokens rest ps → asked_of ps ≡ asked.Nothing)) ⊎ (Asks rest asked.Command × (f ≢ fault.NoMemory) × IsNoCommand m rest f))

  reason : (f : CmdFault) → IsNoOrder m rest f → Reason f
  reason fault.NotACommand (IsNoOrder.unknown i none) = (i, inl (refl, none))
  reason f (IsNoOrder.refused i a some is) = (i, inr (a, some, is))

  module _ (model : IsModel m) (one_command : OneCommand) where
    one_form : (k l : Order) → Form k → Form l → k ≡ l
    one_form order.Nothing order.Nothing h g = refl
    one_form order.Nothing order.Suppose h g = absurd (idle_apart rest h g.0)
    one_form order.Nothing order.Undo h g = absurd (idle_apart rest h g.0)
    one_form order.Nothing order.Close h g = absurd (idle_apart rest h g.0)
    one_form order.Nothing (order.Does d) h g = absurd (idle_apart rest h g.0)
    one_form order.Suppose order.Nothing h g = absurd (idle_apart rest g h.0)
    one_form order.Suppose order.Suppose h g = refl
    one_form order.Suppose order.Undo h g = absurd (let e = one_asked rest asked.Suppose asked.Undo h.1 g.1 in cc e)
    one_form order.Suppose order.Close h g = absurd (let e = one_asked rest asked.Suppose asked.Close h.1 g.1 in cc e)
    one_form order.Suppose (order.Does d) h g = absurd (let e = one_asked rest asked.Suppose asked.Command h.1 g.1 in cc e)
    one_form order.Undo order.Nothing h g = absurd (idle_apart rest g h.0)
    one_form order.Undo order.Suppose h g = absurd (let e = one_asked rest asked.Undo asked.Suppose h.1 g.1 in cc e)
    one_form order.Undo order.Undo h g = refl
    one_form order.Undo order.Close h g = absurd (let e = one_asked rest asked.Undo asked.Close h.1 g.1 in cc e)
    one_form order.Undo (order.Does d) h g = absurd (let e = one_asked rest asked.Undo asked.Command h.1 g.1 in cc e)
    one_form order.Close order.Nothing h g = absurd (idle_apart rest g h.0)
    one_form order.Close order.Suppose h g = absurd (let e = one_asked rest asked.Close asked.Suppose h.1 g.1 in cc e)
    one_form order.Close order.Undo h g = absurd (let e = one_asked rest asked.Close asked.Undo h.1 g.1 in cc e)
    one_form order.Close order.Close h g = refl
    one_form order.Close (order.Does d) h g = absurd (let e = one_asked rest asked.Close asked.Command h.1 g.1 in cc e)
    one_form (order.Does c) order.Nothing h g = absurd (idle_apart rest g h.0)
    one_form (order.Does c) order.Suppose h g = absurd (let e = one_asked rest asked.Command asked.Suppose h.1 g.1 in cc e)
    one_form (order.Does c) order.Undo h g = absurd (let e = one_asked rest asked.Command asked.Undo h.1 g.1 in cc e)
    one_form (order.Does c) order.Close h g = absurd (let e = one_asked rest asked.Command asked.Close h.1 g.1 in cc e)
    one_form (order.Does c) (order.Does d) h g = ap (λ x. order.Does x) (one_command m model rest c d h.3 g.3 h.2 g.2)

    pub one_order : (k l : Order) → IsOrder m rest k → IsOrder m rest l → k ≡ l
    one_order k l h g = one_form k l (form k h) (form l g)

  -- nothing is asked for, and something is
  asks_none : (a : Asked) → a ≢ asked.Nothing → Asks rest a → ((ps : List Piece) → HasTokens rest ps → asked_of ps ≡ asked.Nothing) → ⊥
  asks_none a some h none = some (h.2 ∙ none h.0 h.1)

  module _ (one_fault : OneCommandFault) where
    one_reason_of : (f g : CmdFault) → Reason f → Reason g → f ≡ g
    one_reason_of f g (i, inl h) (j, inl k) = h.0 ∙ sym k.0
    one_reason_of f g (i, inl h) (j, inr k) = absurd (asks_none asked.Command (λ e. cc e) k.0 h.1)
    one_reason_of f g (i, inr h) (j, inl k) = absurd (asks_none asked.Command (λ e. cc e) h.0 k.1)
    one_reason_of f g (i, inr h) (j, inr k) = one_fault m rest f g h.1 k.1 h.2 k.2

    pub one_reason : (f g : CmdFault) → IsNoOrder m rest f → IsNoOrder m rest g → f ≡ g
    one_reason f g h k = one_reason_of f g (reason f h) (reason g k)

  module _ (apart : RefusedOrRead) where
    form_or_reason : (k : Order) (f : CmdFault) → Form k → Reason f → ⊥
    form_or_reason order.Nothing f h (j, why) = idle_apart rest h j
    form_or_reason order.Suppose f h (j, inl k) = asks_none asked.Suppose (λ e. cc e) h.1 k.1
    form_or_reason order.Suppose f h (j, inr k) = absurd (let e = one_asked rest asked.Suppose asked.Command h.1 k.0 in cc e)
    form_or_reason order.Undo f h (j, inl k) = asks_none asked.Undo (λ e. cc e) h.1 k.1
    form_or_reason order.Undo f h (j, inr k) = absurd (let e = one_asked rest asked.Undo asked.Command h.1 k.0 in cc e)
    form_or_reason order.Close f h (j, inl k) = asks_none asked.Close (λ e. cc e) h.1 k.1
    form_or_reason order.Close f h (j, inr k) = absurd (let e = one_asked rest asked.Close asked.Command h.1 k.0 in cc e)
    form_or_reason (order.Does c) f h (j, inl k) = asks_none asked.Command (λ e. cc e) h.1 k.1
    form_or_reason (order.Does c) f h (j, inr k) = k.1 (apart m rest c f h.2 k.2)

    pub order_or_reason : (k : Order) (f : CmdFault) → IsOrder m rest k → IsNoOrder m rest f → ⊥
    order_or_reason k f h g = form_or_reason k f (form k h) (reason f g)
