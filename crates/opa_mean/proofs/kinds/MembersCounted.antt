-- The trees of quantifiers over an inferred relationship count the members alone.
use Rattle.std.proofs.Common.{◌≡◌, ℕ, suc, Bool, true, false, List, [], ◌∷◌, length, map, filter, Option, Some, None, refl, sym, ap, ◌∙◌}
use Rattle.std.specs.Prelude.{pos, ◌||◌, if◌then◌else◌}
use Rattle.std.specs.List.{list_any}
use Rattle.std.proofs.lemmas.List.{length-map}
use Rattle.opa_value.specs.declared.value.Value.{Value}
use Rattle.opa_value.specs.declared.value.Value.TheVariants as value
use Rattle.opa_value.specs.Truth.{is_true, is_unknown, is_uncertain, all_of, any_of, not_of, strict}
use Rattle.opa_model.specs.declared.things.Kind.TheVariants as kinds
use Rattle.opa_cells.specs.declared.instance.InstanceId.{InstanceId}
use Rattle.opa_cells.specs.Instances.{named}
use Rattle.opa_tree.specs.declared.expr.Expr.{Expr}
use Rattle.opa_tree.specs.declared.expr.Expr.TheVariants as expr
use Rattle.opa_tree.specs.declared.kinds.Quant.{Quant}
use Rattle.opa_tree.specs.declared.kinds.Quant.TheVariants as quant
use Rattle.opa_case.specs.Steps.{has_kind}
use Rattle.opa_mean.specs.Meaning as mean
use Rattle.opa_mean.specs.Meaning.{over, at_place, choose, true_count, amount, item, each}
use Rattle.opa_mean.proofs.Values.{value-Over, value-Any, value-All, value-Not}
use Rattle.opa_mean.specs.Kinds.Membership.{Setting, value_for, membership, members, value_here, IsListed, IsCondition, ForAllMembers, ExistsMember, CountsMembers, CountsMembersIf, SumsMembers, SumsMembersIf}
use Rattle.opa_mean.proofs.kinds.Sieves.{Gives, sieved, all_sieved, any_sieved, count_sieved, sum_sieved}

-- ---- truth tables with a value that decides nothing

or_false : (v : Value) → has_kind kinds.Bool v ≡ true → any_of (value.Bool false ∷ v ∷ []) ≡ v
or_false value.Unknown h = refl
or_false value.Uncertain h = refl
or_false (value.Bool true) h = refl
or_false (value.Bool false) h = refl
or_false (value.Num n) h = absurd (cc h)
or_false (value.Words t) h = absurd (cc h)
or_false (value.Day d) h = absurd (cc h)

and_true : (v : Value) → has_kind kinds.Bool v ≡ true → all_of (value.Bool true ∷ v ∷ []) ≡ v
and_true value.Unknown h = refl
and_true value.Uncertain h = refl
and_true (value.Bool true) h = refl
and_true (value.Bool false) h = refl
and_true (value.Num n) h = absurd (cc h)
and_true (value.Words t) h = absurd (cc h)
and_true (value.Day d) h = absurd (cc h)

abbrev zero : Value
zero = value.Num (pos 0)

module _ (g : Setting) where
  abbrev here : List ℕ → List InstanceId
  here n = named (g.shape.target g.every) n ∷ g.enclosing

  over_listed : (q : Quant) (es : List Expr) (names : Option (List (List ℕ))) → IsListed g names → value_here g (expr.Over q g.every es) ≡ over q (g.shape.target g.every) names (map (mean.value g.shape g.look) es) g.enclosing g.day
  over_listed q es names is =
      value-Over g.shape g.look q g.every es g.enclosing g.day
      ∙ ap (λ o. at_place o (λ i. over q (g.shape.target g.every) (g.look.members g.every i) (map (mean.value g.shape g.look) es) g.enclosing g.day)) is.1
      ∙ ap (λ o. over q (g.shape.target g.every) o (map (mean.value g.shape g.look) es) g.enclosing g.day) is.2

  not_or : (x : Expr) (n : List ℕ) → value_for g (expr.Any (expr.Not g.member ∷ x ∷ [])) n ≡ any_of (not_of (membership g n) ∷ value_for g x n ∷ [])
  not_or x n = value-Any g.shape g.look (expr.Not g.member ∷ x ∷ []) (here n) g.day ∙ ap (λ v. any_of (v ∷ value_for g x n ∷ [])) (value-Not g.shape g.look g.member (here n) g.day)

  both : (x : Expr) (n : List ℕ) → value_for g (expr.All (g.member ∷ x ∷ [])) n ≡ all_of (membership g n ∷ value_for g x n ∷ [])
  both x n = value-All g.shape g.look (g.member ∷ x ∷ []) (here n) g.day

  not_or_gives : (x : Expr) → IsCondition g x → (n : List ℕ) → Gives (membership g n) (value_for g (expr.Any (expr.Not g.member ∷ x ∷ [])) n) (value_for g x n) (value.Bool true)
  not_or_gives x h n = record {
    member = λ e. not_or x n ∙ ap (λ v. any_of (not_of v ∷ value_for g x n ∷ [])) e ∙ or_false (value_for g x n) (h n);
    other = λ e. not_or x n ∙ ap (λ v. any_of (not_of v ∷ value_for g x n ∷ [])) e;
  }

  both_gives : (x : Expr) → IsCondition g x → (n : List ℕ) → Gives (membership g n) (value_for g (expr.All (g.member ∷ x ∷ [])) n) (value_for g x n) (value.Bool false)
  both_gives x h n = record {
    member = λ e. both x n ∙ ap (λ v. all_of (v ∷ value_for g x n ∷ [])) e ∙ and_true (value_for g x n) (h n);
    other = λ e. both x n ∙ ap (λ v. all_of (v ∷ value_for g x n ∷ [])) e;
  }

  chosen_gives : (x : Expr) (n : List ℕ) → Gives (membership g n) (choose (membership g n) (value_for g x n) zero) (value_for g x n) zero
  chosen_gives x n = record { member = λ e. ap (λ v. choose v (value_for g x n) zero) e; other = λ e. ap (λ v. choose v (value_for g x n) zero) e }

  both_chosen_gives : (k x : Expr) → IsCondition g x → (n : List ℕ) → Gives (membership g n) (choose (value_for g (expr.All (g.member ∷ x ∷ [])) n) (value_for g k n) zero) (choose (value_for g x n) (value_for g k n) zero) zero
  both_chosen_gives k x h n = record {
    member = λ e. ap (λ v. choose v (value_for g k n) zero) ((both_gives x h n).member e);
    other = λ e. ap (λ v. choose v (value_for g k n) zero) ((both_gives x h n).other e);
  }

  self_gives : (n : List ℕ) → Gives (membership g n) (membership g n) (value.Bool true) (value.Bool false)
  self_gives n = record { member = λ e. e; other = λ e. e }

all_true : (names : List (List ℕ)) → strict true_count (map (λ (n : List ℕ). value.Bool true) names) ≡ amount (length names)
all_true names =
    ap (λ b. if b then value.Unknown else (if list_any is_uncertain (map (λ (n : List ℕ). value.Bool true) names) then value.Uncertain else true_count (map (λ (n : List ℕ). value.Bool true) names))) (plain is_unknown refl names)
    ∙ ap (λ b. if b then value.Uncertain else true_count (map (λ (n : List ℕ). value.Bool true) names)) (plain is_uncertain refl names)
    ∙ ap amount (counted names)
  where
    plain : (p : Value → Bool) → p (value.Bool true) ≡ false → (ns : List (List ℕ)) → list_any p (map (λ (n : List ℕ). value.Bool true) ns) ≡ false
    plain p e [] = refl
    plain p e (n ∷ ns) = ap (λ b. b || list_any p (map (λ (n : List ℕ). value.Bool true) ns)) e ∙ plain p e ns

    counted : (ns : List (List ℕ)) → length (filter is_true (map (λ (n : List ℕ). value.Bool true) ns)) ≡ length ns
    counted [] = refl
    counted (n ∷ ns) = ap (λ k. suc k) (counted ns)

pub for_all_holds : ForAllMembers
for_all_holds g x h = record {
  known = λ names is d. over_listed g quant.ForAll (expr.Any (expr.Not g.member ∷ x ∷ []) ∷ []) (Some names) is
      ∙ all_sieved (sieved (membership g) (value_for g (expr.Any (expr.Not g.member ∷ x ∷ []))) (value_for g x) (value.Bool true) names d (not_or_gives g x h));
  unknown = λ is. over_listed g quant.ForAll (expr.Any (expr.Not g.member ∷ x ∷ []) ∷ []) None is;
}

pub exists_holds : ExistsMember
exists_holds g x h = record {
  known = λ names is d. over_listed g quant.Exists (expr.All (g.member ∷ x ∷ []) ∷ []) (Some names) is
      ∙ any_sieved (sieved (membership g) (value_for g (expr.All (g.member ∷ x ∷ []))) (value_for g x) (value.Bool false) names d (both_gives g x h));
  unknown = λ is. over_listed g quant.Exists (expr.All (g.member ∷ x ∷ []) ∷ []) None is;
}

pub count_holds : CountsMembers
count_holds g = record {
  known = λ names is d. over_listed g quant.CountIf (g.member ∷ []) (Some names) is
      ∙ count_sieved (sieved (membership g) (membership g) (λ n. value.Bool true) (value.Bool false) names d (self_gives g))
      ∙ all_true (members g names)
      ∙ ap amount (sym (length-map (members g names) (λ (n : List ℕ). item quant.Count (each [] (here g n) g.day))));
  unknown = λ is. over_listed g quant.CountIf (g.member ∷ []) None is;
}

pub count_if_holds : CountsMembersIf
count_if_holds g x h = record {
  known = λ names is d. over_listed g quant.CountIf (expr.All (g.member ∷ x ∷ []) ∷ []) (Some names) is
      ∙ count_sieved (sieved (membership g) (value_for g (expr.All (g.member ∷ x ∷ []))) (value_for g x) (value.Bool false) names d (both_gives g x h));
  unknown = λ is. over_listed g quant.CountIf (expr.All (g.member ∷ x ∷ []) ∷ []) None is;
}

pub sum_holds : SumsMembers
sum_holds g x = record {
  known = λ names is d. over_listed g quant.SumIf (x ∷ g.member ∷ []) (Some names) is
      ∙ sum_sieved (sieved (membership g) (λ n. choose (membership g n) (value_for g x n) zero) (value_for g x) zero names d (chosen_gives g x));
  unknown = λ is. over_listed g quant.SumIf (x ∷ g.member ∷ []) None is;
}

pub sum_if_holds : SumsMembersIf
sum_if_holds g k x h = record {
  known = λ names is d. over_listed g quant.SumIf (k ∷ expr.All (g.member ∷ x ∷ []) ∷ []) (Some names) is
      ∙ sum_sieved (sieved (membership g) (λ n. choose (value_for g (expr.All (g.member ∷ x ∷ [])) n) (value_for g k n) zero) (λ n. choose (value_for g x n) (value_for g k n) zero) zero names d (both_chosen_gives g k x h));
  unknown = λ is. over_listed g quant.SumIf (k ∷ expr.All (g.member ∷ x ∷ []) ∷ []) None is;
}

pub ruleset laws = (for_all_holds, exists_holds, count_holds, count_if_holds, sum_holds, sum_if_holds)
