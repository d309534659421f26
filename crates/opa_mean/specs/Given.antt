-- What a determination sees of a rulebase and of a case.
use Rattle.std.specs.Prelude.{ℕ, List, ◌∷◌, map, Option, None, Some}
use Rattle.std.specs.FinMap.{get}
use Rattle.opa_value.specs.declared.value.Value.{Value}
use Rattle.opa_value.specs.declared.value.Value.TheVariants.{Unknown}
use Rattle.opa_cells.specs.Instances.{global}
use Rattle.opa_case.specs.Cases.{CaseView, list_of}
use Rattle.opa_case.specs.Live.{container_of}
use Rattle.opa_case.specs.Shapes.{shape_of}
use Rattle.opa_tree.specs.declared.rulebase.Rulebase.{Rulebase}
use Rattle.opa_tree.specs.Ranks.{rank_at}
use Rattle.opa_window.specs.Days.{day_value}
use Rattle.opa_mean.specs.Mean.{Base, Facts}

abbrev pub base_of : Rulebase → Base
base_of r = record { shape = shape_of r.model; rules = r.rules; rank = rank_at r.ranks }

-- the value of a line at a day, unknown where there is no line
abbrev pub line_value : Option (List (ℕ × Value)) → ℕ → Value
line_value None d = Unknown
line_value (Some l) d = day_value l d

abbrev pub facts_of : CaseView → Facts
facts_of c = record {
  answer = λ a i d. line_value (get c.answers (a.0, i)) d;
  members = list_of c;
  container = container_of c.live;
  instances = global ∷ map (λ p. p.0) c.live;
}
