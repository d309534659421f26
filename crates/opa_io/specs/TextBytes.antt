-- The bytes that a text holds, of one owner or of several.
use Rattle.std.specs.Prelude.{ℕ, List}
use Rattle.std.specs.String.{string_bytes}
use Rattle.std.specs.Rc.{rc_str_bytes}
use Rattle.opa_io.specs.declared.text.Bytes.{Bytes}
use Rattle.opa_io.specs.declared.text.Bytes.TheVariants as bytes

abbrev pub bytes_of : Bytes → List ℕ
bytes_of (bytes.Own text) = string_bytes text
bytes_of (bytes.Shared text) = rc_str_bytes text
