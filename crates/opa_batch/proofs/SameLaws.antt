-- Records of the same cells, and rows that are told again.
use Rattle.std.proofs.Common.{Bor, ◌≡◌, ◌≤◌, ◌+◌, ℕ, List, [], ◌∷◌, ◌++◌, length, take, drop, sym, ap, ◌∙◌, append_assoc, append-nil, arith}
use Rattle.std.specs.Prelude.{Option, None, Some}
use Rattle.std.specs.Option.{option_map}
use Rattle.std.proofs.lemmas.List.{take_all}
use Rattle.csv.specs.Records.{field_at}
use Rattle.opa_parse.proofs.tables.RecordLaws.{cell_next}
use Rattle.opa_batch.proofs.HeadLaws.{here, past}

pub same_more : (xs ys : List (List ℕ)) (place : ℕ) (x y : List ℕ) → Some x ≡ field_at xs place → Some y ≡ field_at ys place → x ≡ y → take place xs ≡ take place ys → take (place + 1) xs ≡ take (place + 1) ys
same_more xs ys place x y at there e before =
    cell_next xs place x (sym at) ∙ ap (λ front. front ++ x ∷ []) before ∙ ap (λ c. take place ys ++ c ∷ []) e ∙ sym (cell_next ys place y (sym there))

pub all_same : (xs ys : List (List ℕ)) (place : ℕ) → length xs ≡ length ys → length xs ≤ place → take place xs ≡ take place ys → xs ≡ ys
all_same xs ys place long past before = sym (take_all place xs past) ∙ before ∙ take_all place ys (omega (arith, long, past))

-- cells that are told again, behind a first one
module _ (first : List ℕ) (known : List (List ℕ)) where
  pub again_more : (place : ℕ) (cells new : List (List ℕ)) (cell : List ℕ) → Some cell ≡ field_at known place → new ≡ cells ++ cell ∷ [] → cells ++ drop place known ≡ first ∷ drop 1 known → new ++ drop (place + 1) known ≡ first ∷ drop 1 known
  again_more place cells new cell at grown before =
      ap (λ xs. xs ++ drop (place + 1) known) grown ∙ append_assoc cells (cell ∷ []) (drop (place + 1) known) ∙ ap (λ xs. cells ++ xs) (sym (here known place cell at)) ∙ before

  pub again_end : (place : ℕ) (cells : List (List ℕ)) → drop place known ≡ [] → cells ++ drop place known ≡ first ∷ drop 1 known → cells ≡ first ∷ drop 1 known
  again_end place cells none before = sym (append-nil cells) ∙ ap (λ xs. cells ++ xs) (sym none) ∙ before

  pub again_short : (o : Option (Bor (List ℕ))) (place : ℕ) (cells : List (List ℕ)) → o ≡ None → option_map (λ (s : Bor (List ℕ)). s.now) o ≡ field_at known place → cells ++ drop place known ≡ first ∷ drop 1 known → cells ≡ first ∷ drop 1 known
  again_short o place cells none value before = again_end place cells (past known place (sym (ap (λ q. option_map (λ (s : Bor (List ℕ)). s.now) q) none) ∙ value)) before
