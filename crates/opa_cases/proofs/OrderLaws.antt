-- What tokens ask for.
use Rattle.std.proofs.Common.{arith, ◌≡◌, ◌≤◌, ℕ, true, false, List, length, refl, sym, ap, ◌∙◌, subst}
use Rattle.std.specs.Prelude.{nat_lt}
use Rattle.std.specs.List.{All}
use Rattle.std.specs.Str.{chars, IsUtf8}
use Rattle.opa_model.specs.declared.lists.Lists.{Lists}
use Rattle.opa_words.specs.declared.kinds.Token.{Token}
use Rattle.opa_words.specs.Cuts.{Cuts}
use Rattle.opa_words.specs.Pieces.{Piece, pieces}
use Rattle.opa_words.specs.Places.{IsWithin, IsOfKind}
use Rattle.opa_words.proofs.LawsHold.{one_cutting_holds}
use Rattle.opa_script.specs.declared.fault.CmdFault.{CmdFault}
use Rattle.opa_script.specs.declared.fault.CmdFault.TheVariants as fault
use Rattle.opa_script.specs.Commands.{IsNoCommand}
use Rattle.opa_script.specs.Lines.{is_idle, HasTokens}
use Rattle.opa_cases.specs.declared.orders.Asked.{Asked}
use Rattle.opa_cases.specs.declared.orders.Asked.TheVariants as asked
use Rattle.opa_cases.specs.declared.orders.Order.{Order}
use Rattle.opa_cases.specs.declared.orders.Order.TheVariants as order
use Rattle.opa_cases.specs.Orders.{asked_of, Asks, IsOrder, IsNoOrder, OrdersNothing, IsCut, IsNotCut, IsCommandOrder}

pub short_enough : (n : ℕ) → nat_lt 65536 n ≡ false → n ≤ 65536
short_enough n h = grind (arith, h)

pub too_long : (text : List ℕ) → nat_lt 65536 (length text) ≡ true → IsNotCut text fault.NotACommand
too_long text h ps tokens = let few : length text ≤ 65536 = tokens.0 in absurd (grind (arith, h, few))

pub is_cut : (text : List ℕ) (ts : List Token) → length text ≤ 65536 → IsUtf8 text → Cuts (length text) (chars text) ts → All (IsWithin text) ts → All (IsOfKind text) ts → IsCut text ts
is_cut text ts short utf8 cuts within kinds = record { tokens = (short, utf8, (ts, cuts, refl)); within = within; kinds = kinds }

pub asks_of : (text : List ℕ) (ts : List Token) (ps : List Piece) (a : Asked) → IsCut text ts → ps ≡ pieces text ts → a ≡ asked_of ps → Asks text a
asks_of text ts ps a cut e is = (ps, subst (λ q. HasTokens text q) (sym e) cut.tokens, is)

asks_one : (text : List ℕ) (a : Asked) → Asks text a → (ps : List Piece) → HasTokens text ps → asked_of ps ≡ a
asks_one text a h ps k = ap asked_of (one_cutting_holds text ps h.0 k.2 h.1.2) ∙ sym h.2

module _ (m : Lists) (text : List ℕ) (busy : is_idle text ≡ false) where
  pub nothing_asked : Asks text asked.Nothing → OrdersNothing m text fault.NotACommand
  nothing_asked h some = IsNoOrder.unknown busy (asks_one text asked.Nothing h)

  pub uncut : (f : CmdFault) → IsNotCut text f → OrdersNothing m text f
  uncut fault.NotACommand n some = IsNoOrder.unknown busy (λ ps h. absurd (n ps h))
  uncut fault.Name n some = absurd n
  uncut fault.Value n some = absurd n
  uncut fault.NoMemory n some = absurd (some refl)

  pub no_command : (f : CmdFault) → Asks text asked.Command → IsNoCommand m text f → OrdersNothing m text f
  no_command f asks n some = IsNoOrder.refused busy asks some n

  pub a_command : (k : Order) → Asks text asked.Command → IsCommandOrder m text k → IsOrder m text k
  a_command order.Nothing asks h = absurd h
  a_command order.Suppose asks h = absurd h
  a_command order.Undo asks h = absurd h
  a_command order.Close asks h = absurd h
  a_command (order.Does c) asks h = IsOrder.does c busy asks h.0 h.1

-- what was asked for is what it was matched as
pub asked_as : (text : List ℕ) (a b : Asked) → a ≡ b → Asks text a → Asks text b
asked_as text a b e h = subst (Asks text) e h
