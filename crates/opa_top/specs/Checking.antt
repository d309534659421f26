-- The mode `check`: whether a rulebase is accepted.
use Rattle.std.specs.Prelude.{ℕ, ◌≡◌, ◌⊎◌, List, [], ◌∷◌, ◌++◌, length, codes, Option, IfSome, Result, Ok, Err}
use Rattle.std.specs.Fmt.{decimal}
use Rattle.std.specs.Io.KnownBytes.{Appends}
use Rattle.opa_io.specs.Outside.{Files, Rose, AppendsFront}
use Rattle.opa_io.specs.declared.fault.Status.{Status}
use Rattle.opa_io.specs.declared.fault.Status.TheVariants as status
use Rattle.opa_tree.specs.declared.rulebase.Rulebase.{Rulebase}
use Rattle.opa_rulebase.specs.Loading.{Opens}

-- what is written of an accepted rulebase
abbrev pub accepted_text : ℕ → ℕ → List ℕ
accepted_text attributes rules = codes "accepted: " ++ (decimal attributes ++ (codes " attributes, " ++ (decimal rules ++ (codes " rules" ++ 10 ∷ []))))

-- the accepted rulebase, or the printed refusal
abbrev pub verdict : Result Rulebase (List ℕ) → List ℕ
verdict (Ok base) = accepted_text (length base.model.attributes) (length base.rules)
verdict (Err text) = text

abbrev pub verdict_status : Result Rulebase (List ℕ) → Status
verdict_status (Ok base) = status.Done
verdict_status (Err text) = status.Refused

-- this is what the files open under the name, where they are told
abbrev pub IsOpened : Option Files → List ℕ → Result Rulebase (List ℕ) → Type 0
IsOpened told name opened = IfSome told (λ files. Opens files name opened)

-- the text was written, or at a fault of the sink a front of it
abbrev pub IsTold : Status → List ℕ → Option (List ℕ) → Option (List ℕ) → ℕ → ℕ → Status → Type 0
IsTold good text written written' before now result =
    ((result ≡ good) × Appends written written' text) ⊎ ((result ≡ status.WriteFault) × Rose before now × AppendsFront written written' text)

-- A check tells what the files open; or it ends for a fault of the shelf or for want of memory, and has written nothing.
pub data Checks (told : Option Files) (name : List ℕ) (written written' : Option (List ℕ)) (takes takes' writes writes' : ℕ) : Status → Type 0 where
  tells : {result : Status} (opened : Result Rulebase (List ℕ)) → IsOpened told name opened → IsTold (verdict_status opened) (verdict opened) written written' writes writes' result
      → Checks told name written written' takes takes' writes writes' result
  cannot_take : Rose takes takes' → Appends written written' [] → Checks told name written written' takes takes' writes writes' status.ReadFault
  cannot_hold : Appends written written' [] → Checks told name written written' takes takes' writes writes' status.NoMemory

-- all that there was to write was written
abbrev pub HasAnswered : Status → Type 0
HasAnswered s = (s ≡ status.Done) ⊎ (s ≡ status.Refused)

-- Nothing else could have been written: whatever the files open, what was written is what is told of it.
abbrev pub IsOnlyCheck : Option Files → List ℕ → Option (List ℕ) → Option (List ℕ) → Status → Type 0
IsOnlyCheck told name written written' result =
    HasAnswered result → IfSome told (λ files. (opened : Result Rulebase (List ℕ)) → Opens files name opened → (result ≡ verdict_status opened) × Appends written written' (verdict opened))
