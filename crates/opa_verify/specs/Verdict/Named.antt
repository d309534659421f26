-- What is told of printed lines by their names.
use Rattle.std.specs.Prelude.{◌≡◌, ℕ, List, None, Some, slice_get, take, Contains}
use Rattle.opa_tree.specs.declared.rulebase.Rulebase.{Rulebase}
use Rattle.opa_verify.specs.declared.spelling.printed.Printed.{Printed}
use Rattle.opa_verify.specs.Verdict.Naming.{named_line, AreNamed}
use Rattle.opa_verify.specs.declared.verdict.naming.Naming.{Naming}
use Rattle.opa_verify.specs.declared.verdict.naming.Naming.TheVariants as naming

-- the line at the place has a fault of names, and none before it has one
pub record IsFirstUnnamed (b : Rulebase) (lines : List Printed) (n : ℕ) : Type 0 where
  pub line : Printed
  pub stands : slice_get lines n ≡ Some line
  pub isnt : named_line b line ≡ None
  pub before : (x : Printed) → Contains (take n lines) x → named_line b x ≡ None → ⊥

abbrev pub AreNamedUpTo : Rulebase → List Printed → Naming → Type 0
AreNamedUpTo b printed (naming.All lines) = AreNamed b printed lines
AreNamedUpTo b printed (naming.Fault n) = IsFirstUnnamed b printed n
