-- Reading by a table: of sorts S, tokens T, frames F and results R.
use Rattle.std.specs.Prelude.{◌≡◌, List}

-- What stands at the front: nothing of this sort; a result, and what follows; more, of that sort; or a part, of that sort, for a frame.
pub data Move (S T F R : Type 0) : Type 0 where
  fail : Move S T F R
  done : R → List T → Move S T F R
  next : S → List T → Move S T F R
  call : S → F → List T → Move S T F R

module _ {S T F R : Type 0} (production : S → List T → Move S T F R) (resume : F → R → S) where
  -- the front spells the result as one of that sort, and the rest follows
  pub data Reads : S → List T → R → List T → Type 0 where
    stops : {s : S} {ts : List T} {e : R} {rest : List T} → production s ts ≡ done e rest → Reads s ts e rest
    moves : {s : S} {ts : List T} {e : R} {rest : List T} (s' : S) (ts' : List T) → production s ts ≡ next s' ts' → Reads s' ts' e rest → Reads s ts e rest
    goes : {s : S} {ts : List T} {e : R} {rest : List T} (part : S) (k : F) (mid : List T) (x : R) (after : List T)
        → production s ts ≡ call part k mid → Reads part mid x after → Reads (resume k x) after e rest → Reads s ts e rest
