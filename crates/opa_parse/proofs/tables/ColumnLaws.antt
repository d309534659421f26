-- What columns conclude.
use Rattle.std.proofs.Common.{◌≡◌, ℕ, List, [], ◌∷◌, ◌++◌, length, ◌==◌, true, false, refl, sym, ap, ◌∙◌, arith}
use Rattle.std.proofs.lemmas.List.{append-nil}
use Rattle.opa_sentence.specs.declared.reading.Reading.{Reading}
use Rattle.opa_sentence.specs.Measures.{bounded}
use Rattle.opa_sentence.specs.Readings as says
use Rattle.opa_parse.specs.Sayings.{tabled}
use Rattle.opa_parse.specs.declared.tables.cells.Case.{Case}
use Rattle.opa_parse.specs.declared.tables.cells.Last.{Last}
use Rattle.opa_parse.specs.Tables.Columns.{comparisons, all_of, value_at, no_cases_below, with_cases, column_by}

pub nothing_more : (xs : List Reading) → xs ++ [] ≡ xs
nothing_more xs = append-nil xs

-- several parts
pub all_of_several : (parts rest : List Reading) (last : Reading) → parts ≡ rest ++ last ∷ [] → (length rest ≡ 0 → ⊥) → all_of parts ≡ says.all bounded (says.lines bounded parts)
all_of_several [] [] last e k = absurd (cc e)
all_of_several [] (y ∷ rest) last e k = absurd (cc e)
all_of_several (x ∷ []) [] last e k = absurd (k refl)
all_of_several (x ∷ []) (y ∷ []) last e k = absurd (cc e)
all_of_several (x ∷ []) (y ∷ z ∷ rest) last e k = absurd (cc e)
all_of_several (x ∷ y ∷ parts) rest last e k = refl

pub all_of_one : (parts rest : List Reading) (last : Reading) → parts ≡ rest ++ last ∷ [] → (length rest == 0) ≡ true → last ≡ all_of parts
all_of_one parts [] last e k = sym (ap all_of e)
all_of_one parts (y ∷ rest) last e k = absurd (let q : (length (y ∷ rest) == 0) ≡ false = grind arith in let r : true ≡ false = sym k ∙ q in cc r)

pub none_asked : (xs : List Reading) → comparisons xs [] ≡ []
none_asked [] = refl
none_asked (x ∷ xs) = refl

-- with conditions
pub column_several : (xs : List Reading) (place : ℕ) (cs : List Case) (x : Last) → (length xs == 0) ≡ false → column_by xs place cs x ≡ tabled (with_cases xs place (no_cases_below xs) cs) (value_at place x.number x.values)
column_several [] place cs x e = absurd (let q : true ≡ false = e in cc q)
column_several (y ∷ xs) place cs x e = refl
