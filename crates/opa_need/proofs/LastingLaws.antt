-- Until when what is noted of quantifiers holds.
use Rattle.std.proofs.Common.{◌≡◌, ℕ, ◌<◌, List, [], length, get_or, Option, None, Some, sym, ◌∙◌, subst, ap, arith}
use Rattle.std.specs.Prelude.{IfSome}
use Rattle.std.specs.FinMap.{FinMap}
use Rattle.opa_cells.specs.Keys.{cell_cmp}
use Rattle.opa_cells.specs.declared.instance.InstanceId.{InstanceId}
use Rattle.opa_case.specs.Cases.{CaseView}
use Rattle.opa_case.specs.Live.{container_of}
use Rattle.opa_case.specs.declared.question.Question.{Question}
use Rattle.opa_mean.specs.Uses.{Use}
use Rattle.opa_mean.proofs.Comparing.{follows_itself}
use Rattle.opa_tree.specs.declared.expr.Expr.{Expr}
use Rattle.opa_tree.specs.declared.rulebase.Rulebase.{Rulebase}
use Rattle.opa_need.specs.Alike.{Seen}
use Rattle.opa_need.specs.Lasting.{AreLasting, IsLasting, IsUntilAt}
use Rattle.opa_need.specs.Steps.{Settles, tree_needs}
use Rattle.opa_need.specs.declared.lasting.LastingTree.{LastingTree}
use Rattle.opa_need.specs.declared.runs.Run.{Run}

module _ (r : Rulebase) (c : CaseView) where
  pub none_lasting : (found : List Question) (runs : FinMap cell_cmp (List Run)) (ns : List LastingTree) → ns ≡ [] → AreLasting r c found runs ns
  none_lasting found runs ns is k x lt = absurd (omega (arith, lt, ap length is))

  -- a tree that agrees with one that is noted is settled until the same day
  pub lasting_at : (ns : List LastingTree) (i : ℕ) (one : LastingTree) (t : Expr) (e : List InstanceId) (d : ℕ) (o : Option ℕ) → i < length ns → one ≡ get_or ns i one → one.tree.now ≡ t → one.day ≡ d
      → IfSome o (IsUntilAt r c one t e) → IfSome o (λ until. (found : List Question) (runs : FinMap cell_cmp (List Run)) → AreLasting r c found runs ns → Settles r c found runs (tree_needs r c t e) d until)
  lasting_at ns i one t e d None lt is tree day h = tt
  lasting_at ns i one t e d (Some until) lt is tree day h = λ found runs lasting.
      subst (λ (f : ℕ → List Use). Settles r c found runs f d until) same
      (subst (λ (k : ℕ). Settles r c found runs (tree_needs r c one.tree.now one.enclosing) k until) day
      (subst (λ (k : ℕ). Settles r c found runs (tree_needs r c one.tree.now one.enclosing) one.day k) h.0
      (subst (λ (x : LastingTree). IsLasting r c found runs x) (sym is) (lasting i one lt))))
    where
      same : tree_needs r c one.tree.now one.enclosing ≡ tree_needs r c t e
      same = ap (λ x. tree_needs r c x one.enclosing) tree ∙ ap (λ (g : ℕ → Seen). λ k. (g k).1) (h.1 one.enclosing e (follows_itself (container_of c.live) one.enclosing e))

  -- a day that was noted, where what was noted is right
  pub noted_settles : (ns items : List LastingTree) (o : Option ℕ) (until : ℕ) (t : Expr) (e : List InstanceId) (d : ℕ) (found : List Question) (runs : FinMap cell_cmp (List Run)) → o ≡ Some until → ns ≡ items
      → IfSome o (λ u. (f : List Question) (rs : FinMap cell_cmp (List Run)) → AreLasting r c f rs ns → Settles r c f rs (tree_needs r c t e) d u) → AreLasting r c found runs items → Settles r c found runs (tree_needs r c t e) d until
  noted_settles ns items o until t e d found runs at is h right =
      let there = subst (λ (p : Option ℕ). IfSome p (λ u. (f : List Question) (rs : FinMap cell_cmp (List Run)) → AreLasting r c f rs ns → Settles r c f rs (tree_needs r c t e) d u)) at h in
      there found runs (subst (AreLasting r c found runs) (sym is) right)
