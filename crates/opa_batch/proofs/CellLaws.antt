-- The cells of a record, one after another.
use Rattle.std.proofs.Common.{Bor, ◌≡◌, ◌≢◌, ◌==◌, ◌+◌, ℕ, Bool, true, false, List, [], ◌∷◌, length, drop, is_some, inl, inr, refl, sym, ap, ◌∙◌, subst}
use Rattle.std.specs.Prelude.{Option, None, Some, Result, Ok, Err}
use Rattle.std.specs.Option.{option_map}
use Rattle.csv.specs.Records.{field_at}
use Rattle.opa_model.specs.declared.lists.Lists.{Lists}
use Rattle.opa_case.specs.Cases.{CaseView, no_case}
use Rattle.opa_case.specs.Laws.{IsDeclared}
use Rattle.opa_case.specs.Shapes.{shape_of}
use Rattle.opa_case.specs.declared.change.ChangeCommand.{ChangeCommand}
use Rattle.opa_tree.specs.declared.rulebase.Rulebase.{Rulebase}
use Rattle.opa_script.specs.declared.command.Command.{Command}
use Rattle.opa_script.specs.declared.command.Command.TheVariants as command
use Rattle.opa_script.specs.declared.fault.CmdFault.{CmdFault}
use Rattle.opa_script.specs.declared.fault.CmdFault.TheVariants as fault
use Rattle.opa_script.specs.Commands.{IsCommand, IsNoCommand}
use Rattle.opa_script.specs.Laws.{IsInRange, IsWellFormed}
use Rattle.opa_batch.specs.declared.head.Head.{Head}
use Rattle.opa_batch.specs.Rows.{change_in, stepped, in_column, line_of, command_fault, length_fault, IsCarriedOut, IsCell, AreCells, IsRecord}
use Rattle.opa_batch.specs.Numbered.{left_by, IsOnTheWay}
use Rattle.opa_batch.proofs.HeadLaws.{here, past}

-- ---- a command

pub declared : (m : Lists) (c : Command) (k : ChangeCommand) → Some k ≡ change_in c → IsInRange m c → IsDeclared (shape_of m) k
declared m (command.Change j) k e h = subst (IsDeclared (shape_of m)) (let q : j ≡ k = cc e in q) h
declared m command.Nothing k e h = absurd (cc e)
declared m (command.ShowAttr a i) k e h = absurd (cc e)
declared m (command.ShowMembers n i) k e h = absurd (cc e)
declared m command.Goals k e h = absurd (cc e)
declared m command.Next k e h = absurd (cc e)
declared m command.Screen k e h = absurd (cc e)
declared m (command.Report a i d) k e h = absurd (cc e)
declared m (command.Save n) k e h = absurd (cc e)
declared m (command.Load n) k e h = absurd (cc e)
declared m command.Stats k e h = absurd (cc e)
declared m (command.Dismiss n) k e h = absurd (cc e)

-- ---- a cell

module _ (r : Rulebase) (column : ℕ) (c : CaseView) where
  pub carried : (m : Lists) (line : List ℕ) (k : Command) (x : Result CaseView (List ℕ)) → m ≡ r.model → IsCommand m line k → IsWellFormed k → x ≡ in_column column (stepped r c (change_in k)) → IsCarriedOut r column c line x
  carried m line k x same is formed made = inr (k, subst (λ l. IsCommand l line k) same is, formed, made)

  pub refused : (m : Lists) (line text : List ℕ) (f : CmdFault) → m ≡ r.model → f ≢ fault.NoMemory → IsNoCommand m line f → text ≡ command_fault column f → IsCarriedOut r column c line (Err text)
  refused m line text f same some is says = inl (f, some, subst (λ l. IsNoCommand l line f) same is, ap Err says)

  pub full_cell : (h : Head) (cell : List ℕ) (x : Result CaseView (List ℕ)) (b : Bool) → b ≡ (length cell == 0) → b ≡ false → IsCarriedOut r column c (line_of h cell) x → IsCell r column c h cell x
  full_cell h [] x b e f is = absurd (let q : true ≡ false = sym e ∙ f in cc q)
  full_cell h (b ∷ cell) x t e f is = is

-- the place where a cell is missing
pub missing : (o : Option (Bor (List ℕ))) (cells : List (List ℕ)) (place : ℕ) → o ≡ None → option_map (λ (s : Bor (List ℕ)). s.now) o ≡ field_at cells place → None ≡ field_at cells place
missing o cells place e h = sym (ap (λ q. option_map (λ (s : Bor (List ℕ)). s.now) q) e) ∙ h

-- ---- cells

cells_end : (r : Rulebase) (n : ℕ) (c : CaseView) (heads : List Head) → AreCells r n c heads [] (Ok c)
cells_end r n c [] = refl
cells_end r n c (h ∷ heads) = refl

module _ (r : Rulebase) (heads : List Head) (cells : List (List ℕ)) (first : CaseView) where
  pub way_begins : IsOnTheWay r heads cells first 0 first
  way_begins = record { leads = λ x h. h }

  module _ (place : ℕ) (c : CaseView) (way : IsOnTheWay r heads cells first place c) where
    pub way_ends : drop place heads ≡ [] → AreCells r 1 first heads cells (Ok c)
    way_ends e = way.leads (Ok c) (subst (λ hs. AreCells r (place + 1) c hs (drop place cells) (Ok c)) (sym e) refl)

    pub way_is_short : None ≡ field_at cells place → AreCells r 1 first heads cells (Ok c)
    way_is_short e = way.leads (Ok c) (subst (λ xs. AreCells r (place + 1) c (drop place heads) xs (Ok c)) (sym (past cells place e)) (cells_end r (place + 1) c (drop place heads)))

    module _ (h : Head) (cell : List ℕ) (of : drop place heads ≡ h ∷ drop (place + 1) heads) (at : Some cell ≡ field_at cells place) where
      under : (x : Result CaseView (List ℕ)) → AreCells r (place + 1) c (h ∷ drop (place + 1) heads) (cell ∷ drop (place + 1) cells) x → AreCells r 1 first heads cells x
      under x k =
          way.leads x (subst (λ hs. AreCells r (place + 1) c hs (drop place cells) x) (sym of) (subst (λ xs. AreCells r (place + 1) c (h ∷ drop (place + 1) heads) xs x) (sym (here cells place cell at)) k))

      pub way_stops : (d : CaseView) (o : Option (List ℕ)) → is_some o ≡ true → IsCell r (place + 1) c h cell (left_by o d) → AreCells r 1 first heads cells (left_by o d)
      way_stops d None e is = absurd (cc e)
      way_stops d (Some text) e is = under (Err text) (inl (text, is, refl))

      pub way_goes_on : (d : CaseView) (o : Option (List ℕ)) → is_some o ≡ false → IsCell r (place + 1) c h cell (left_by o d) → IsOnTheWay r heads cells first (place + 1) d
      way_goes_on d None e is = record { leads = λ x k. under x (inr (d, is, k)) }
      way_goes_on d (Some text) e is = absurd (cc e)

-- ---- a record

pub other_length : (r : Rulebase) (heads : List Head) (cells : List (List ℕ)) (text : List ℕ) → length cells ≢ length heads → text ≡ length_fault → IsRecord r heads cells (Err text)
other_length r heads cells text other says = inl (other, ap Err says)

pub same_length : (r : Rulebase) (heads : List Head) (cells : List (List ℕ)) (c : CaseView) (x : Result CaseView (List ℕ)) → length cells ≡ length heads → c ≡ no_case → AreCells r 1 c heads cells x → IsRecord r heads cells x
same_length r heads cells c x same empty is = inr (same, subst (λ d. AreCells r 1 d heads cells x) empty is)
