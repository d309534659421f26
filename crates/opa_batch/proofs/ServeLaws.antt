-- What becomes of a batch, with the shelf left out of sight.
use Rattle.std.proofs.Common.{◌≡◌, ℕ, List, subst, sym}
use Rattle.std.specs.Prelude.{Option, None, Some, Err, IfSome}
use Rattle.opa_io.specs.Outside.{Files}
use Rattle.opa_io.specs.declared.fault.Status.{Status}
use Rattle.opa_tree.specs.declared.faults.RbFault.{RbFault}
use Rattle.opa_tree.specs.declared.rulebase.Rulebase.{Rulebase}
use Rattle.opa_rulebase.specs.declared.fault.LoadError.{LoadError}
use Rattle.opa_rulebase.specs.declared.fault.LoadError.TheVariants as load
use Rattle.opa_rulebase.specs.Loading.{Opens, IsRefusalOf, HasLoadError}
use Rattle.opa_talk.specs.declared.whole_input.stop.Stop.{Stop}
use Rattle.opa_talk.specs.declared.whole_input.stop.Stop.TheVariants as stop
use Rattle.opa_talk.specs.WholeInput.Outside.{MOST, Outside, IsSilent}
use Rattle.opa_talk.specs.WholeInput.Reading.{HasStopCause, ReadsAll, StopsReading}
use Rattle.opa_talk.specs.WholeInput.Telling.{IsTold}
use Rattle.opa_batch.specs.Batches.{Gives}
use Rattle.opa_batch.specs.Serving.{IsOpened, Decides, stopped}

-- whatever the shelf told and counted
pub decides_beside : (base : Rulebase) (old new : Outside) (f f' : Option Files) (t t' k k' : ℕ) (s : Status) → Decides base old new s
    → Decides base (record old { files = f; takes = t; keeps = k }) (record new { files = f'; takes = t'; keeps = k' }) s
decides_beside base old new f f' t t' k k' s (Decides.works w) =
    Decides.works (record { read = w.read; took = w.took; within = w.within; ended = w.ended; good = w.good; text = w.text; gives = w.gives; told = w.told })
decides_beside base old new f f' t t' k k' s (Decides.cannot_read rose some none) = Decides.cannot_read rose some none
decides_beside base old new f f' t t' k k' s (Decides.too_long many none) = Decides.too_long many none
decides_beside base old new f f' t t' k k' s (Decides.runs_out some none) = Decides.runs_out some none

-- the whole input was read, and what it gives was told
pub worked : (base : Rulebase) (old new : Outside) (bytes text : List ℕ) (good s : Status) → ReadsAll MOST old.left new.left bytes → Gives base bytes good text
    → IsTold good text old.written new.written old.writes new.writes s → Decides base old new s
worked base old new bytes text good s read gives told =
    Decides.works (record { read = bytes; took = read.took; within = read.within; ended = read.ended; good = good; text = text; gives = gives; told = told })

-- the input wasn't read to its end, and nothing was written
ended : (base : Rulebase) (old new : Outside) (s : Stop) → HasStopCause old.reads new.reads s → StopsReading MOST old.left new.left s → IsSilent old new → Decides base old new (stopped s)
ended base old new stop.Input cause read none = Decides.cannot_read cause read none
ended base old new stop.Memory cause read none = Decides.runs_out read none
ended base old new stop.Limit cause read none = Decides.too_long read none

pub not_read : (base : Rulebase) (old new : Outside) (s : Stop) (result : Status) → result ≡ stopped s → HasStopCause old.reads new.reads s → StopsReading MOST old.left new.left s → IsSilent old new
    → Decides base old new result
not_read base old new s result e cause read none = subst (Decides base old new) (sym e) (ended base old new s cause read none)

-- ---- what was opened

module _ (told : Option Files) (name : List ℕ) (takes takes' : ℕ) where
  opens_of : (o : Option Files) (fault : RbFault) (text : List ℕ) → IfSome o (λ files. IsRefusalOf files name fault text) → IfSome o (λ files. Opens files name (Err text))
  opens_of None fault text h = tt
  opens_of (Some files) fault text h = h.opens

  pub refusal_opened : (error : LoadError) (fault : RbFault) (text : List ℕ) → error ≡ load.Refused fault text → HasLoadError told name takes takes' error → IsOpened told name (Err text)
  refusal_opened error fault text e h = opens_of told fault text (subst (HasLoadError told name takes takes') e h)
