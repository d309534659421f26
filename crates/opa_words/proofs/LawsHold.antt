-- The laws, for the functions that carry them.
use Rattle.std.proofs.Common.{length, sym, ap, ◌∙◌}
use Rattle.std.specs.Str.{chars}
use Rattle.opa_words.proofs.OneCut.{one_cut_holds}
use Rattle.opa_words.specs.Pieces.{pieces}
use Rattle.opa_words.specs.PieceLaws.{OneCutting}
pub use Rattle.opa_words.proofs.Ascii.{ascii_is_token_holds}
pub use Rattle.opa_words.proofs.Quoting.{quoted_is_token_holds}
pub use Rattle.opa_words.proofs.Writing.{written_is_cut_holds}

pub one_cutting_holds : OneCutting
one_cutting_holds bytes ps qs x y = sym x.2 ∙ ap (pieces bytes) (one_cut_holds (length bytes) (chars bytes) x.0 y.0 x.1 y.1) ∙ y.2
