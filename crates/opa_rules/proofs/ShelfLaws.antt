-- The files of a shelf with one file.
use Rattle.std.proofs.Common.{◌≡◌, ℕ, String, Vec, List, [], ◌∷◌, ap, ◌∙◌}
use Rattle.std.specs.declared.alloc.Global.{Global}
use Rattle.std.specs.FinMap.{from_entries}
use Rattle.opa_io.specs.Memory.{entry_of, files_of}
use Rattle.opa_rules.specs.Printing.Shelves.{one_file}

pub one_filed : (files : List (String Global × Vec ℕ Global)) (f : String Global × Vec ℕ Global) (name text : List ℕ) → files ≡ f ∷ [] → entry_of f ≡ (name, text) → files_of files ≡ one_file name text
one_filed files f name text one is = ap files_of one ∙ ap (λ (e : List ℕ × List ℕ). from_entries (e ∷ [])) is
