-- What a check tells.
use Rattle.std.proofs.Common.{◌≡◌, ℕ, List, Option, Some, None, IfSome, Ok, Err, length, subst}
use Rattle.opa_io.specs.Outside.{Files}
use Rattle.opa_io.specs.declared.fault.Status.{Status}
use Rattle.opa_io.specs.declared.fault.Status.TheVariants as status
use Rattle.opa_io.proofs.Appended.{Appends-none}
use Rattle.opa_tree.specs.declared.faults.RbFault.{RbFault}
use Rattle.opa_tree.specs.declared.rulebase.Rulebase.{Rulebase}
use Rattle.opa_rulebase.specs.declared.fault.LoadError.{LoadError}
use Rattle.opa_rulebase.specs.declared.fault.LoadError.TheVariants as load
use Rattle.opa_rulebase.specs.Loading.{Opens, IsRefusalOf, HasLoadError}
use Rattle.opa_top.specs.Checking.{accepted_text, Checks, IsOpened, IsTold}

module _ (told : Option Files) (name : List ℕ) (w w' : Option (List ℕ)) (takes takes' writes writes' : ℕ) where
  pub tells_accepted : (base : Rulebase) (text : List ℕ) (result : Status) → IfSome told (λ files. Opens files name (Ok base)) → text ≡ accepted_text (length base.model.attributes) (length base.rules) → IsTold status.Done text w w' writes writes' result
      → Checks told name w w' takes takes' writes writes' result
  tells_accepted base text result opens e h = Checks.tells (Ok base) opens (subst (λ t. IsTold status.Done t w w' writes writes' result) e h)

  pub opens_of : (o : Option Files) (fault : RbFault) (text : List ℕ) → IfSome o (λ files. IsRefusalOf files name fault text) → IfSome o (λ files. Opens files name (Err text))
  opens_of None fault text h = tt
  opens_of (Some files) fault text h = h.opens

  pub refusal_opened : (error : LoadError) (fault : RbFault) (text : List ℕ) → error ≡ load.Refused fault text → HasLoadError told name takes takes' error → IsOpened told name (Err text)
  refusal_opened error fault text e h = opens_of told fault text (subst (HasLoadError told name takes takes') e h)

  pub tells_refused : (error : LoadError) (fault : RbFault) (text said : List ℕ) (result : Status) → error ≡ load.Refused fault text → HasLoadError told name takes takes' error → said ≡ text → IsTold status.Refused said w w' writes writes' result
      → Checks told name w w' takes takes' writes writes' result
  tells_refused error fault text said result e h s k =
      Checks.tells (Err text) (opens_of told fault text (subst (HasLoadError told name takes takes') e h)) (subst (λ t. IsTold status.Refused t w w' writes writes' result) s k)

pub not_taken : (told : Option Files) (name : List ℕ) (w : Option (List ℕ)) (takes takes' writes : ℕ) (error : LoadError) → error ≡ load.ReadFault → HasLoadError told name takes takes' error → Checks told name w w takes takes' writes writes status.ReadFault
not_taken told name w takes takes' writes error e h = Checks.cannot_take (subst (HasLoadError told name takes takes') e h) (Appends-none w)

pub not_held : (told : Option Files) (name : List ℕ) (w : Option (List ℕ)) (takes takes' writes : ℕ) → Checks told name w w takes takes' writes writes status.NoMemory
not_held told name w takes takes' writes = Checks.cannot_hold (Appends-none w)

pub ruleset laws = (not_held)
