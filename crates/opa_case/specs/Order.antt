-- The order of the live instances, which isn't kept.
use Rattle.std.specs.Prelude.{[], Option}
use Rattle.std.specs.Option.{option_map_or}
use Rattle.std.specs.FinMap.{FinMap}
use Rattle.opa_cells.specs.Keys.{cell_cmp}
use Rattle.opa_model.specs.declared.lists.Lists.{Lists as Declared}
use Rattle.opa_io.specs.declared.witness.Witness.{Witness}
use Rattle.opa_case.specs.Shapes.{shape_of}
use Rattle.opa_case.specs.Live.{Names, Population, live_of}
use Rattle.opa_case.specs.Cases.{stored}

-- what known lists make live by a model, if there is one
abbrev pub live_in : Option (Witness Declared) → FinMap cell_cmp Names → Population
live_in model lists = option_map_or (λ w. live_of (shape_of w.is) (stored lists)) model []
