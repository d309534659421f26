-- A case as contracts see it.
use Rattle.std.specs.Prelude.{◌≡◌, ℕ, Bool, true, false, ◌&&◌, not, List, [], ◌∷◌, refl}
use Rattle.std.specs.List.{list_any}
use Rattle.std.specs.Option.{option_or}
use Rattle.std.specs.FinMap.{FinMap, get, code, empty}
use Rattle.std.specs.Coded.{Coded, code_by, coded×, coded_ℕ, coded_list}
use Rattle.opa_cells.specs.Instances.{is_text, coded_instance}
use Rattle.opa_cells.specs.Keys.{cell_cmp, coded_key}
use Rattle.opa_cells.specs.declared.instance.InstanceId.{InstanceId}
use Rattle.opa_value.specs.declared.value.Value.{Value}
use Rattle.opa_case.specs.Live.{Names, Lists, Population, is_live}

-- a value at each day: pairs of a day and the value from that day on
abbrev pub Answer : Type 0
Answer = List (ℕ × Value)

pub record CaseView : Type 0 where
  -- the known lists of the relations that aren't declared with `every`
  pub lists : FinMap cell_cmp Names
  -- the known lists of those that are, all at the global instance
  pub every : FinMap cell_cmp Names
  pub answers : FinMap cell_cmp Answer
  -- the live instances but the global one, each with its container, in instance order
  pub live : Population

abbrev pub coded_lists : Coded (FinMap cell_cmp Names)
coded_lists = code coded_key (coded_list (coded_list coded_ℕ))

abbrev pub coded_population : Coded Population
coded_population = coded_list (coded× coded_instance coded_instance)

-- The code of values is one that the program's values have.
abbrev pub coded_case : Coded Value → Coded CaseView
coded_case value =
    code_by (FinMap cell_cmp Names × (FinMap cell_cmp Names × (FinMap cell_cmp Answer × Population)))
    (coded× coded_lists (coded× coded_lists (coded× (code coded_key (coded_list (coded× coded_ℕ value))) (coded_list (coded× coded_instance coded_instance)))))
    (λ c. (c.lists, (c.every, (c.answers, c.live)))) (λ p. record { lists = p.0; every = p.1.0; answers = p.1.1.0; live = p.1.1.1 }) (λ _. refl)

-- nothing known
abbrev pub no_case : CaseView
no_case = record { lists = empty; every = empty; answers = empty; live = [] }

-- the known lists of relations that aren't declared with `every`
abbrev pub stored : FinMap cell_cmp Names → Lists
stored m r i = get m (r.0, i)

-- the list of any relation, where it is known
abbrev pub list_of : CaseView → Lists
list_of c r i = option_or (get c.lists (r.0, i)) (get c.every (r.0, i))

abbrev pub IsLive : CaseView → InstanceId → Type 0
IsLive c i = is_live c.live i ≡ true

abbrev pub is_empty : List ℕ → Bool
is_empty [] = true
is_empty (b ∷ bs) = false

-- no name is empty or stands twice
abbrev pub are_names : Names → Bool
are_names [] = true
are_names (n ∷ ns) = not (is_empty n) && not (list_any (is_text n) ns) && are_names ns
