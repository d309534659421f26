-- A case with one list that is set or forgotten.
use Rattle.std.specs.Prelude.{◌≡◌, ℕ, List, true, false, cond, is_some, Option, None, Some}
use Rattle.std.specs.List.{list_all}
use Rattle.std.specs.Option.{option_or}
use Rattle.std.specs.FinMap.{FinMap, get, insert, remove}
use Rattle.opa_model.specs.declared.ids.AttrId.{AttrId}
use Rattle.opa_model.specs.declared.ids.RelId.{RelId}
use Rattle.opa_cells.specs.Instances.{named}
use Rattle.opa_cells.specs.Keys.{cell_cmp}
use Rattle.opa_cells.specs.declared.instance.InstanceId.{InstanceId}
use Rattle.opa_case.specs.Shapes.{Shape}
use Rattle.opa_case.specs.Live.{Names, Population, is_live, container_of}
use Rattle.opa_case.specs.Homes.{home_of}
use Rattle.opa_case.specs.Cases.{CaseView}
use Rattle.opa_case.specs.Steps.{settle}
use Rattle.opa_case.specs.Turns.{is_among}
use Rattle.opa_case.specs.Listed.{IndexEntries, is_indexed}
use Rattle.opa_case.specs.Fits.{Known}

-- known lists, with one that is known, or unknown
abbrev pub lists_with : FinMap cell_cmp Names → RelId → InstanceId → Option Names → FinMap cell_cmp Names
lists_with m r i None = remove m (r.0, i)
lists_with m r i (Some names) = insert m (r.0, i) names

-- the case with a list, or without it
abbrev pub relisted : Shape → CaseView → RelId → InstanceId → Option Names → CaseView
relisted s c r i o = settle s (lists_with c.lists r i o) c.answers

-- What goes has a home among the first, what comes among the others; all else stands where it stood.
abbrev pub AreMoves : FinMap cell_cmp InstanceId → FinMap cell_cmp InstanceId → Population → Population → Type 0
AreMoves gone come before after = (x : InstanceId) → container_of after x ≡ cond (is_some (home_of gone x)) None (option_or (home_of come x) (container_of before x))

-- Of each entity the index has the names of what goes, each with this source, and no others.
abbrev pub AreNamesOf : Population → IndexEntries → InstanceId → Type 0
AreNamesOf gone index at = (e : ℕ) (n : List ℕ) → is_indexed index e n at ≡ is_among gone (named e n)

-- each name in a reference list is live
abbrev pub AreReferred : Shape → FinMap cell_cmp Names → Population → Type 0
AreReferred s m live = (q : RelId) (j : InstanceId) (names : Names) → Known m q j names → s.contains q ≡ false → list_all (λ n. is_live live (named (s.target q) n)) names ≡ true

-- What stays has the answers that it had.
abbrev pub RelistedAnswers : Type 0
RelistedAnswers = (s : Shape) (c : CaseView) (r : RelId) (i : InstanceId) (o : Option Names) (a : AttrId) (j : InstanceId) → is_live (relisted s c r i o).live j ≡ true → get (relisted s c r i o).answers (a.0, j) ≡ get c.answers (a.0, j)
