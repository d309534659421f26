-- What a refusal to load says of the files.
use Rattle.std.proofs.Common.{◌≡◌, ℕ, List, subst}
use Rattle.std.specs.Prelude.{Option, None, Some, Err, IfSome}
use Rattle.opa_io.specs.Outside.{Files}
use Rattle.opa_tree.specs.declared.faults.RbFault.{RbFault}
use Rattle.opa_rulebase.specs.declared.fault.LoadError.{LoadError}
use Rattle.opa_rulebase.specs.declared.fault.LoadError.TheVariants as load
use Rattle.opa_rulebase.specs.Loading.{Opens, IsRefusalOf, HasLoadError}
use Rattle.opa_cases.specs.Serving.{IsOpened}

module _ (told : Option Files) (name : List ℕ) (takes takes' : ℕ) where
  opens_of : (o : Option Files) (fault : RbFault) (text : List ℕ) → IfSome o (λ files. IsRefusalOf files name fault text) → IfSome o (λ files. Opens files name (Err text))
  opens_of None fault text h = tt
  opens_of (Some files) fault text h = h.opens

  pub refusal_opened : (error : LoadError) (fault : RbFault) (text : List ℕ) → error ≡ load.Refused fault text → HasLoadError told name takes takes' error → IsOpened told name (Err text)
  refusal_opened error fault text e h = opens_of told fault text (subst (HasLoadError told name takes takes') e h)
