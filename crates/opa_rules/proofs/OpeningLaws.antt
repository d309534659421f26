-- What files open, and is of a sort.
use Rattle.std.proofs.Common.{◌≡◌, ℕ, List, [], Option, Some, None, IfSome, Result, Err, subst}
use Rattle.std.specs.Io.KnownBytes.{Appends}
use Rattle.opa_io.specs.Outside.{Files, Rose}
use Rattle.opa_io.proofs.Appended.{Appends-none}
use Rattle.opa_tree.specs.declared.faults.RbFault.{RbFault}
use Rattle.opa_tree.specs.declared.rulebase.Rulebase.{Rulebase}
use Rattle.opa_rulebase.specs.declared.fault.LoadError.{LoadError}
use Rattle.opa_rulebase.specs.declared.fault.LoadError.TheVariants as load
use Rattle.opa_rulebase.specs.Loading.{Opens, IsRefusalOf, HasLoadError}

module _ (name : List ℕ) where
  -- what the files open is of this sort
  pub opening : (Is : Result Rulebase (List ℕ) → Type 0) (opened : Result Rulebase (List ℕ)) (o : Option Files) → IfSome o (λ files. Opens files name opened) → Is opened
      → IfSome o (λ files. (other : Result Rulebase (List ℕ)) × Opens files name other × Is other)
  opening Is opened None opens is = tt
  opening Is opened (Some files) opens is = (opened, opens, is)

  pub opens_refusal : (o : Option Files) (fault : RbFault) (text : List ℕ) → IfSome o (λ files. IsRefusalOf files name fault text) → IfSome o (λ files. Opens files name (Err text))
  opens_refusal None fault text h = tt
  opens_refusal (Some files) fault text h = h.opens

pub not_taken : (files : Option Files) (name : List ℕ) (w : Option (List ℕ)) (takes takes' : ℕ) (error : LoadError) → error ≡ load.ReadFault → HasLoadError files name takes takes' error → Rose takes takes' × Appends w w []
not_taken files name w takes takes' error e has = (subst (HasLoadError files name takes takes') e has, Appends-none w)
