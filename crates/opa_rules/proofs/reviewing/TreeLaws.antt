-- Trees are equal exactly if their codes are.
use Rattle.std.proofs.Common.{◌≡◌, ◌↔◌, Bool, true, false, IsTrue, refl, sym, subst, true≢false}
use Rattle.opa_tree.specs.declared.expr.Expr.{Expr}
use Rattle.opa_rules.specs.Reviewing.Trees.{same_tree}
pub use Rattle.opa_rules.specs.Reviewing.Equality.{same_tree-true, same_tree-refl}

-- a test that tells whether two trees are equal
pub same_tree_by : (t : Bool) (a b : Expr) → (IsTrue t ↔ (a ≡ b)) → t ≡ same_tree a b
same_tree_by true a b h = sym (subst (λ x. same_tree a x ≡ true) (h.0 refl) (same_tree-refl a))
same_tree_by false a b h = go (same_tree a b) refl
  where
    go : (x : Bool) → same_tree a b ≡ x → false ≡ x
    go true e = absurd (true≢false (sym (h.1 (same_tree-true a b e))))
    go false e = refl
