-- Laws of what was read, and of the count of failures.
use Rattle.std.proofs.Common.{List, None, Option, Some, ap, append-nil, arith, length, length-append, ℕ, ◌≡◌, ◌≤◌}
use Rattle.std.specs.Io.KnownBytes.{Consumes, IsAtEnd}
use Rattle.opa_io.specs.Outside.{Rose}

-- a count that rose later rose
pub rose_before : (b m n : ℕ) → b ≤ m → Rose m n → Rose b n
rose_before b m n h k = grind (arith, h, k)

-- what was read to the end is the whole
pub read_whole : (bytes read : List ℕ) (l' : Option (List ℕ)) → Consumes (Some bytes) l' read → IsAtEnd l' → read ≡ bytes
read_whole bytes read None took end = absurd took
read_whole bytes read (Some rest) took end = search (append-nil, took, end)

-- no more was read than there was
pub read_within : (bytes read : List ℕ) (l' : Option (List ℕ)) → Consumes (Some bytes) l' read → length read ≤ length bytes
read_within bytes read None took = absurd took
read_within bytes read (Some rest) took = omega (arith, ap length took, length-append read rest)
