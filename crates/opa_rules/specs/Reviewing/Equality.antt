-- Equality of trees is one, and equal trees have equal digests: what a map by hash asks for.
use Rattle.std.proofs.Common.{◌≡◌, Bool, true, false, ◌&&◌, IsTrue, refl, sym, ◌∙◌, ap, ap₂, subst, true≢false, eq-eqb, eqb-true}
use Rattle.std.specs.Cmp.{IsEquivalence, IsPartialEquivalence, both_ways, partial_equiv_from_equiv}
use Rattle.std.specs.Hash as fed
use base.Stored.{Gv, gnil, gnum, gcons}
use Rattle.opa_tree.specs.declared.expr.Expr.{Expr}
use Rattle.opa_tree.specs.contracts.expr.Expr as each
use Rattle.opa_rules.specs.Reviewing.Digests.{digest}
use Rattle.opa_rules.specs.Reviewing.Trees.{same_code, same_tree}

both : (x y : Bool) → (x && y) ≡ true → (x ≡ true) × (y ≡ true)
both true y e = (refl, e)
both false y e = absurd (true≢false (sym e))

same_code-refl : (x : Gv) → same_code x x ≡ true
same_code-refl gnil = refl
same_code-refl (gnum n) = eq-eqb n n refl
same_code-refl (gcons a b) = ap (λ t. t && same_code b b) (same_code-refl a) ∙ same_code-refl b

same_code-true : (x y : Gv) → same_code x y ≡ true → x ≡ y
same_code-true gnil gnil e = refl
same_code-true gnil (gnum n) e = absurd (true≢false (sym e))
same_code-true gnil (gcons c d) e = absurd (true≢false (sym e))
same_code-true (gnum m) gnil e = absurd (true≢false (sym e))
same_code-true (gnum m) (gnum n) e = ap gnum (eqb-true m n e)
same_code-true (gnum m) (gcons c d) e = absurd (true≢false (sym e))
same_code-true (gcons a b) gnil e = absurd (true≢false (sym e))
same_code-true (gcons a b) (gnum n) e = absurd (true≢false (sym e))
same_code-true (gcons a b) (gcons c d) e = let t = both (same_code a c) (same_code b d) e in ap₂ gcons (same_code-true a c t.0) (same_code-true b d t.1)

pub same_tree-true : (a b : Expr) → same_tree a b ≡ true → a ≡ b
same_tree-true a b e = each.the_row.coded.inj a b (same_code-true _ _ e)

pub same_tree-refl : (a : Expr) → same_tree a a ≡ true
same_tree-refl a = same_code-refl (each.the_row.coded.code a)

turned : (a b : Expr) → same_tree a b ≡ true → same_tree b a ≡ true
turned a b e = subst (λ x. same_tree x a ≡ true) (same_tree-true a b e) (same_tree-refl a)

pub same_tree-equiv : IsEquivalence same_tree
same_tree-equiv = record {
  refl = same_tree-refl;
  symm = λ a b. both_ways (same_tree a b) (same_tree b a) (turned a b) (turned b a);
  congr = λ a b c e. ap (λ x. same_tree x c) (same_tree-true a b e);
}

pub same_tree-per : IsPartialEquivalence same_tree
same_tree-per = partial_equiv_from_equiv same_tree-equiv

pub same_digest : (a b : Expr) → IsTrue (same_tree a b) → fed.u64 (digest a) ≡ fed.u64 (digest b)
same_digest a b e = ap (λ x. fed.u64 (digest x)) (same_tree-true a b e)
