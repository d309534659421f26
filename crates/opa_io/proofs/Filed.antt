-- The first file of a name is what the shelf's map has there.
use Rattle.std.proofs.Common.{◌≡◌, ℕ, List, [], ◌∷◌, Vec, String, Some, ap, sym, ◌∙◌, refl}
use Rattle.std.specs.Prelude.{if◌then◌else◌}
use Rattle.std.specs.declared.alloc.Global.{Global}
use Rattle.std.specs.String.{string_bytes}
use Rattle.std.specs.FinMap as map
use Rattle.std.specs.Ordering.{nat_cmp, is_eq}
use Rattle.std.specs.Cmp.Lexicographic.{slice_cmp, nat_list_cmp_total}
use Rattle.std.proofs.lemmas.Map.Text.{is_eq-slice_cmp}
use Rattle.opa_io.specs.Memory.{entries_of, files_of, file_in}

found : (es : List (String Global × Vec ℕ Global)) (name : List ℕ) → file_in es name ≡ map.find (slice_cmp nat_cmp) name (entries_of es)
found [] name = refl
found (e ∷ es) name =
    ap (λ t. if t then Some e.1.items else file_in es name) (sym (is_eq-slice_cmp name (string_bytes e.0)))
    ∙ ap (λ o. if is_eq (slice_cmp nat_cmp name (string_bytes e.0)) then Some e.1.items else o) (found es name)

pub filed : (es : List (String Global × Vec ℕ Global)) (name : List ℕ) → file_in es name ≡ map.get (files_of es) name
filed es name = found es name ∙ sym (map.get-from_entries nat_list_cmp_total (entries_of es) name)
