-- What holds of lines.
use Rattle.std.proofs.Common.{arith}
use Rattle.opa_date.specs.declared.TheConstants.{DAYS}
use Rattle.opa_line.specs.Laws.{EqualWhereValuesAre, AtIsOfTheLastPair, CanonIsTheLine}
use Rattle.opa_line.proofs.OneLine.{same_line, canon_is_line, canon_stands_for, is_canon}
use Rattle.opa_line.proofs.LastPairs.{last_pair}

module _ (X : Type 0) where
  pub equal_where_values_are : EqualWhereValuesAre X
  equal_where_values_are l m hl hm same = same_line DAYS l m hl hm same (omega arith)

  pub at_is_of_the_last_pair : AtIsOfTheLastPair X
  at_is_of_the_last_pair l h d = last_pair DAYS l h d

  pub canon_is_the_line : CanonIsTheLine X
  canon_is_the_line same exact f = (
    canon_is_line same exact DAYS f (omega arith),
    canon_stands_for same exact DAYS f,
    λ l is stands. is_canon same exact DAYS f l (omega arith) is stands,
  )
