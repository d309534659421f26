-- What is said within bounds of what is said without them.
use Rattle.std.specs.Prelude.{map, None, if◌then◌else◌}
use Rattle.opa_sentence.specs.declared.reading.Reading.{Reading}
use Rattle.opa_sentence.specs.declared.reading.Parts.{Parts}
use Rattle.opa_sentence.specs.declared.reading.Arguments.{Arguments}
use Rattle.opa_sentence.specs.Measures.{fits, capped}

-- the tree, if all of it is named and nothing is over its number, and the measure as it is told
abbrev pub bound : Reading → Reading
bound x = record { tree = if fits (capped x.measure) then x.tree else None; measure = capped x.measure }

abbrev pub bound_parts : Parts → Parts
bound_parts p = record { trees = if fits (capped p.measure) then p.trees else None; measure = capped p.measure }

abbrev pub bound_arguments : Arguments → Arguments
bound_arguments a = record a { lines = map bound a.lines }
