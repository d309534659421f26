-- Which names a list has that another one hasn't.
use Rattle.std.specs.Prelude.{◌≡◌, ℕ, Bool, true, false, cond, ◌&&◌, ◌||◌, not, List, [], ◌∷◌, refl}
use Rattle.std.specs.List.{list_any}
use Rattle.std.proofs.Common.{ap, sym, ◌∙◌}
use Rattle.std.proofs.lemmas.Map.Lookups.{exact_bytes}
use Rattle.std.proofs.lemmas.Map.Views.{tells_apart}
use Rattle.opa_cells.specs.Instances.{is_text}
use Rattle.opa_case.specs.Live.{Names}
use Rattle.opa_case.specs.Turns.{names_without}

passed : (a b : Bool) → b ≡ true → (a && not b) ≡ false
passed true true e = refl
passed false b e = refl
passed true false e = absurd (cc e)

kept : (b : Bool) → b ≡ false → true ≡ (true && not b)
kept true e = absurd (cc e)
kept false e = refl

pub any_without : (n : List ℕ) (names others : Names) → list_any (is_text n) (names_without names others) ≡ (list_any (is_text n) names && not (list_any (is_text n) others))
any_without n [] others = refl
any_without n (m ∷ ms) others =
    elim (list_any (is_text m) others) as (λ b. list_any (is_text m) others ≡ b → list_any (is_text n) (cond (not b) (m ∷ names_without ms others) (names_without ms others)) ≡ ((is_text n m || list_any (is_text n) ms) && not (list_any (is_text n) others))) [
      | true ↦ λ found. any_without n ms others ∙ elim (is_text n m) as (λ t. is_text n m ≡ t → (list_any (is_text n) ms && not (list_any (is_text n) others)) ≡ ((t || list_any (is_text n) ms) && not (list_any (is_text n) others))) [
        | true ↦ λ t. passed (list_any (is_text n) ms) (list_any (is_text n) others) (same t ∙ found) ∙ sym (passed true (list_any (is_text n) others) (same t ∙ found))
        | false ↦ λ _. refl
      ] refl
      | false ↦ λ free. ap (λ x. is_text n m || x) (any_without n ms others) ∙ elim (is_text n m) as (λ t. is_text n m ≡ t → (t || (list_any (is_text n) ms && not (list_any (is_text n) others))) ≡ ((t || list_any (is_text n) ms) && not (list_any (is_text n) others))) [
        | true ↦ λ t. kept (list_any (is_text n) others) (same t ∙ free)
        | false ↦ λ _. refl
      ] refl
    ] refl
  where
    same : is_text n m ≡ true → list_any (is_text n) others ≡ list_any (is_text m) others
    same t = ap (λ k. list_any (is_text k) others) (tells_apart exact_bytes n m t)
