-- What is left of an input while its records are cut, one after another.
use Rattle.std.specs.Prelude.{◌≡◌, ◌+◌, Bool, true, false, ℕ, List, ◌∷◌, [], drop, Some}
use denote.Ref.{Bor}
use Rattle.csv.specs.Reading.{AreRecords, Ready, default_config, reader_config, reader_state, reader_trim, source_of}
use Rattle.csv.specs.declared.reader.Reader.{Reader}
use Rattle.csv.specs.declared.reader.Trim.TheVariants as trim
use Rattle.opa_parse.specs.Tables.Records.{table_records}

-- the records below the heading
abbrev pub below : List ℕ → List (List (List ℕ))
below bytes = drop 1 (table_records bytes)

-- These records are still to be cut.
pub record HasLeft (reader : Reader (Bor (List ℕ))) (left : List (List (List ℕ))) : Type 0 where
  pub plain : reader_trim reader ≡ trim.None
  pub ready : Ready reader
  pub config : reader_config reader ≡ default_config
  pub rest : List ℕ
  pub source : source_of (λ (s : Bor (List ℕ)). Some s.now) reader ≡ Some rest
  pub cut : AreRecords default_config (reader_state reader) rest left

-- the first of these records is this one, and the others are still to be cut
pub record HasCut (fields : List (List ℕ)) (left : List (List (List ℕ))) (reader : Reader (Bor (List ℕ))) : Type 0 where
  pub others : List (List (List ℕ))
  pub first : left ≡ fields ∷ others
  pub has_left : HasLeft reader others

abbrev pub IsNext : Bool → List (List ℕ) → List (List (List ℕ)) → Reader (Bor (List ℕ)) → Type 0
IsNext true fields left reader = HasCut fields left reader
IsNext false fields left reader = left ≡ []

-- A record was cut, or there was none.
pub record CutsOne (found : Bool) (fields : List (List ℕ)) (old new : Reader (Bor (List ℕ))) : Type 0 where
  pub next : (left : List (List (List ℕ))) → HasLeft old left → IsNext found fields left new

-- The record at a place below the heading is this one, and those behind it are still to be cut.
pub record IsAt (bytes : List ℕ) (place : ℕ) (fields : List (List ℕ)) (reader : Reader (Bor (List ℕ))) : Type 0 where
  pub here : drop place (below bytes) ≡ fields ∷ drop (place + 1) (below bytes)
  pub has_left : HasLeft reader (drop (place + 1) (below bytes))
