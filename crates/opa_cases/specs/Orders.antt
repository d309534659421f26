-- What the rest of a line, behind the name of its case, asks for.
use Rattle.std.specs.Prelude.{◌≡◌, ◌≢◌, ℕ, List, [], ◌∷◌, Bool, true, false, codes, if◌then◌else◌}
use Rattle.std.specs.List.{All}
use Rattle.std.specs.Str.{bytes_eq}
use Rattle.opa_model.specs.declared.lists.Lists.{Lists}
use Rattle.opa_words.specs.declared.kinds.Token.{Token}
use Rattle.opa_words.specs.declared.kinds.TokenKind.{TokenKind}
use Rattle.opa_words.specs.declared.kinds.TokenKind.TheVariants as kind
use Rattle.opa_words.specs.Pieces.{Piece, pieces, is_nothing}
use Rattle.opa_words.specs.Places.{IsWithin, IsOfKind}
use Rattle.opa_script.specs.declared.command.Command.{Command}
use Rattle.opa_script.specs.declared.fault.CmdFault.{CmdFault}
use Rattle.opa_script.specs.declared.fault.CmdFault.TheVariants as fault
use Rattle.opa_script.specs.Lines.{is_idle, HasTokens}
use Rattle.opa_script.specs.Commands.{IsCommand, IsNoCommand}
use Rattle.opa_script.specs.Laws.{IsInRange, IsWellFormed}
use Rattle.opa_cases.specs.declared.orders.Asked.{Asked}
use Rattle.opa_cases.specs.declared.orders.Asked.TheVariants as asked
use Rattle.opa_cases.specs.declared.orders.Order.{Order}
use Rattle.opa_cases.specs.declared.orders.Order.TheVariants as order

-- this is asked for, if it stands alone
abbrev pub only : Bool → Asked → Asked
only alone a = if alone then a else asked.Nothing

-- what a word asks for that stands in front, alone or not: a command that a caseload takes, or a supposition, its end, or that of the
-- case
abbrev pub asked_by_word : List ℕ → Bool → Asked
asked_by_word w alone =
    if bytes_eq w (codes "answer") then asked.Command else
    if bytes_eq w (codes "withdraw") then asked.Command else
    if bytes_eq w (codes "list") then asked.Command else
    if bytes_eq w (codes "forget") then asked.Command else
    if bytes_eq w (codes "show") then asked.Command else
    if bytes_eq w (codes "goals") then asked.Command else
    if bytes_eq w (codes "next") then asked.Command else
    if bytes_eq w (codes "stats") then asked.Command else
    if bytes_eq w (codes "suppose") then only alone asked.Suppose else
    if bytes_eq w (codes "undo") then only alone asked.Undo else
    if bytes_eq w (codes "close") then only alone asked.Close else asked.Nothing

abbrev pub asked_by : TokenKind → List ℕ → Bool → Asked
asked_by kind.Word w alone = asked_by_word w alone
asked_by k w alone = asked.Nothing

-- what tokens ask for
abbrev pub asked_of : List Piece → Asked
asked_of [] = asked.Nothing
asked_of (p ∷ ps) = asked_by p.kind p.text (is_nothing ps)

-- the tokens of the text ask for this
abbrev pub Asks : List ℕ → Asked → Type 0
Asks text a = (ps : List Piece) × HasTokens text ps × (a ≡ asked_of ps)

-- The rest of a line asks for this.
pub data IsOrder (m : Lists) (rest : List ℕ) : Order → Type 0 where
  idle : is_idle rest ≡ true → IsOrder m rest order.Nothing
  supposes : is_idle rest ≡ false → Asks rest asked.Suppose → IsOrder m rest order.Suppose
  undoes : is_idle rest ≡ false → Asks rest asked.Undo → IsOrder m rest order.Undo
  closes : is_idle rest ≡ false → Asks rest asked.Close → IsOrder m rest order.Close
  does : (c : Command) → is_idle rest ≡ false → Asks rest asked.Command → IsCommand m rest c → IsWellFormed c → IsOrder m rest (order.Does c)

-- The rest of a line asks for nothing that there is, for this reason: it begins no command that a caseload takes, or that command
-- has this fault.
pub data IsNoOrder (m : Lists) (rest : List ℕ) : CmdFault → Type 0 where
  unknown : is_idle rest ≡ false → ((ps : List Piece) → HasTokens rest ps → asked_of ps ≡ asked.Nothing) → IsNoOrder m rest fault.NotACommand
  refused : {f : CmdFault} → is_idle rest ≡ false → Asks rest asked.Command → f ≢ fault.NoMemory → IsNoCommand m rest f → IsNoOrder m rest f

-- what an order names is declared
abbrev pub IsOrderInRange : Lists → Order → Type 0
IsOrderInRange m (order.Does c) = IsInRange m c
IsOrderInRange m k = Unit {0}

-- ---- on the way there

-- a fault but want of memory is why there is no order
abbrev pub OrdersNothing : Lists → List ℕ → CmdFault → Type 0
OrdersNothing m rest f = f ≢ fault.NoMemory → IsNoOrder m rest f

-- the text is cut into these tokens
pub record IsCut (text : List ℕ) (ts : List Token) : Type 0 where
  pub tokens : HasTokens text (pieces text ts)
  pub within : All (IsWithin text) ts
  pub kinds : All (IsOfKind text) ts

abbrev pub IsNotCut : List ℕ → CmdFault → Type 0
IsNotCut text fault.NotACommand = (ps : List Piece) → HasTokens text ps → ⊥
IsNotCut text fault.Name = ⊥
IsNotCut text fault.Value = ⊥
IsNotCut text fault.NoMemory = Unit {0}

-- the order is this command
abbrev pub IsCommandOrder : Lists → List ℕ → Order → Type 0
IsCommandOrder m rest order.Nothing = ⊥
IsCommandOrder m rest order.Suppose = ⊥
IsCommandOrder m rest order.Undo = ⊥
IsCommandOrder m rest order.Close = ⊥
IsCommandOrder m rest (order.Does c) = IsCommand m rest c × IsWellFormed c

abbrev pub IsNoCommandOrder : Lists → List ℕ → CmdFault → Type 0
IsNoCommandOrder m rest f = IsNoCommand m rest f
