-- The moves of the code, as the table has them.
use Rattle.opa_sentence.specs.Moves.{fail, done, next, call}
use Rattle.opa_parse.specs.declared.table.Step.{Step}
use Rattle.opa_parse.specs.declared.table.Step.TheVariants as step
use Rattle.opa_parse.specs.GroupTable as table

abbrev pub move_of : Step → table.Step
move_of step.Fail = fail
move_of (step.Done g rest) = done g rest
move_of (step.Next s rest) = next s rest
move_of (step.Call s k rest) = call s k rest
