-- An item of a list that is set, and a list with one item more.
use Rattle.std.proofs.Common.{◌≡◌, ◌≢◌, ◌∙◌, ◌<◌, ◌+◌, ℕ, zero, suc, arith, get_or, take, Bool, true, false, cond, List, [], ◌∷◌, ◌++◌, length, refl, sym, ap}
use Rattle.std.specs.Prelude.{None, Some, slice_get, slice_set, ◌==◌}
use Rattle.std.proofs.Math.Seq.{take-suc}
use Rattle.std.specs.Option.{option_or}
use Rattle.std.proofs.lemmas.Bool.{false≢true}
use Rattle.std.proofs.lemmas.List.Folds.{find-append}
use Rattle.opa_model.specs.declared.ids.AttrId.{AttrId}
use Rattle.opa_tree.specs.declared.rules.Rule.{Rule}
use Rattle.opa_tree.specs.Rules.{rule_of, concludes}

module _ {X : Type 0} where
  pub set_same : (xs : List X) (i : ℕ) (x : X) → i < length xs → slice_get (slice_set xs i x) i ≡ Some x
  set_same [] i x lt = absurd (omega (arith, lt))
  set_same (y ∷ xs) zero x lt = refl
  set_same (y ∷ xs) (suc i) x lt = set_same xs i x (omega (arith, lt))

  pub set_other : (xs : List X) (i j : ℕ) (x : X) → j ≢ i → slice_get (slice_set xs i x) j ≡ slice_get xs j
  set_other [] i j x differ = refl
  set_other (y ∷ xs) zero zero x differ = absurd (differ refl)
  set_other (y ∷ xs) zero (suc j) x differ = refl
  set_other (y ∷ xs) (suc i) zero x differ = refl
  set_other (y ∷ xs) (suc i) (suc j) x differ = set_other xs i j x (λ same. differ (ap suc same))

  pub set_length : (xs : List X) (i : ℕ) (x : X) → length (slice_set xs i x) ≡ length xs
  set_length [] i x = refl
  set_length (y ∷ xs) zero x = refl
  set_length (y ∷ xs) (suc i) x = ap suc (set_length xs i x)

  pub one_more : (xs : List X) (i : ℕ) (x : X) → i < length xs → x ≡ get_or xs i x → take (i + 1) xs ≡ take i xs ++ x ∷ []
  one_more xs i x lt is = let same : i + 1 ≡ suc i = omega arith in ap (λ n. take n xs) same ∙ take-suc xs i x lt ∙ ap (λ y. take i xs ++ y ∷ []) (sym is)

  -- an item keeps its place where more come behind it, and the first of those comes at once
  pub kept_before : (xs ys : List X) (i : ℕ) (x : X) → slice_get xs i ≡ Some x → slice_get (xs ++ ys) i ≡ Some x
  kept_before [] ys i x h = absurd (cc h)
  kept_before (y ∷ xs) ys zero x h = h
  kept_before (y ∷ xs) ys (suc i) x h = kept_before xs ys i x h

  pub comes_behind : (xs : List X) (x : X) → slice_get (xs ++ x ∷ []) (length xs) ≡ Some x
  comes_behind [] x = refl
  comes_behind (y ∷ xs) x = comes_behind xs x

pub same_place : (m n : ℕ) → (m == n) ≡ true → n ≡ m
same_place m n is = grind (arith, is)

pub other_place : (m n : ℕ) → (m == n) ≡ false → n ≢ m
other_place m n is = λ same. false≢true (sym is ∙ (let own : (m == n) ≡ true = grind (arith, same) in own))

-- a rule that comes after others concludes its attribute where none of them does
pub rule_after : (before : List Rule) (rule : Rule) (a : AttrId) (t : Bool) → concludes a rule ≡ t → rule_of (before ++ rule ∷ []) a ≡ option_or (rule_of before a) (cond t (Some rule) None)
rule_after before rule a t is = find-append (concludes a) before (rule ∷ []) ∙ ap (λ b. option_or (rule_of before a) (cond b (Some rule) None)) is
