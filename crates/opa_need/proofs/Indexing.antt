-- An index has exactly the questions of its list.
use Rattle.std.proofs.Common.{◌≡◌, ℕ, Bool, true, false, cond, ◌||◌, List, [], ◌∷◌, ◌++◌, Some, is_some, refl, sym, ◌∙◌, ap, subst}
use Rattle.std.specs.Prelude.{◌&&◌, ◌==◌}
use Rattle.std.specs.List.{list_any}
use Rattle.std.specs.Ordering.{eq_by_cmp}
use Rattle.std.specs.Cmp.{eq_by_cmp_equiv}
use Rattle.std.specs.FinMap.{get, empty, insert, get-empty, get-insert}
use Rattle.std.proofs.lemmas.Bool.{and_parts, eqb-true, eq-eqb}
use Rattle.std.proofs.lemmas.Map.Views.{tells_apart}
use Rattle.opa_cells.specs.Instances.{is_same}
use Rattle.opa_cells.specs.Keys.{cell_cmp}
use Rattle.opa_cells.specs.declared.instance.InstanceId.{InstanceId}
use Rattle.opa_cells.proofs.Orders.{cell_exact, cell_total, same_is, same_itself}
use Rattle.opa_case.specs.declared.question.Question.{Question}
use Rattle.opa_case.specs.declared.question.Question.TheVariants as question
use Rattle.opa_mean.specs.Sameness.{same_question}
use Rattle.opa_need.specs.Indexed.{Marks, is_marked, AreIndexed, IsNoted}

same_key : (m n : ℕ) (i j : InstanceId) → ((m == n) && is_same i j) ≡ eq_by_cmp cell_cmp (m, i) (n, j)
same_key m n i j = go ((m == n) && is_same i j) refl (eq_by_cmp cell_cmp (m, i) (n, j)) refl
  where
    go : (b : Bool) → ((m == n) && is_same i j) ≡ b → (k : Bool) → eq_by_cmp cell_cmp (m, i) (n, j) ≡ k → b ≡ k
    go true e true f = refl
    go false e false f = refl
    go true e false f =
        let both = and_parts _ _ e in let one : m ≡ n = eqb-true m n both.0 in let two : i ≡ j = same_is i j both.1 in
        absurd (cc (subst (λ (x : ℕ). eq_by_cmp cell_cmp (m, i) (x, j) ≡ true) one (subst (λ (x : InstanceId). eq_by_cmp cell_cmp (m, i) (m, x) ≡ true) two ((eq_by_cmp_equiv cell_total).refl (m, i))), f))
    go false e true f =
        let k = tells_apart cell_exact (m, i) (n, j) f in
        let one : m ≡ n = ap (λ (p : ℕ × InstanceId). p.0) k in let two : i ≡ j = ap (λ (p : ℕ × InstanceId). p.1) k in
        absurd (cc (sym (ap (λ b. b && is_same i j) (eq-eqb m n one) ∙ subst (λ x. is_same i x ≡ true) two (same_itself i)) ∙ e))

any_push : (q p : Question) (xs : List Question) → list_any (same_question q) (xs ++ p ∷ []) ≡ (same_question q p || list_any (same_question q) xs)
any_push q p [] = refl
any_push q p (x ∷ xs) = ap (λ b. same_question q x || b) (any_push q p xs) ∙ turn (same_question q x) (same_question q p) (list_any (same_question q) xs)
  where
    turn : (a b c : Bool) → (a || (b || c)) ≡ (b || (a || c))
    turn true true c = refl
    turn true false c = refl
    turn false b c = refl

at_insert : (marks marks' : Marks) (m n : ℕ) (i j : InstanceId) → marks' ≡ insert marks (n, j) true → is_some (get marks' (m, i)) ≡ (((m == n) && is_same i j) || is_some (get marks (m, i)))
at_insert marks marks' m n i j e =
    ap (λ (k : Marks). is_some (get k (m, i))) e ∙ ap is_some (get-insert cell_total marks (n, j) true (m, i))
    ∙ go (eq_by_cmp cell_cmp (m, i) (n, j)) ∙ ap (λ b. b || is_some (get marks (m, i))) (sym (same_key m n i j))
  where
    go : (b : Bool) → is_some (cond b (Some true) (get marks (m, i))) ≡ (b || is_some (get marks (m, i)))
    go true = refl
    go false = refl

none_marked : (attrs lists : Marks) → attrs ≡ empty → lists ≡ empty → (q : Question) → list_any (same_question q) [] ≡ is_marked attrs lists q
none_marked attrs lists e f (question.Attr a i) = sym (ap (λ (m : Marks). is_some (get m (a.0, i))) e ∙ ap is_some (get-empty cell_cmp (a.0, i)))
none_marked attrs lists e f (question.Members r i) = sym (ap (λ (m : Marks). is_some (get m (r.0, i))) f ∙ ap is_some (get-empty cell_cmp (r.0, i)))

pub none_indexed : (found : List Question) (attrs lists : Marks) → found ≡ [] → attrs ≡ empty → lists ≡ empty → AreIndexed found attrs lists
none_indexed found attrs lists g e f = record { marked = λ q. ap (λ qs. list_any (same_question q) qs) g ∙ none_marked attrs lists e f q }

marked_more : (attrs lists attrs' lists' : Marks) (p q : Question) → IsNoted attrs lists attrs' lists' p → is_marked attrs' lists' q ≡ (same_question q p || is_marked attrs lists q)
marked_more attrs lists attrs' lists' (question.Attr b j) (question.Attr a i) h = at_insert attrs attrs' a.0 b.0 i j h.0
marked_more attrs lists attrs' lists' (question.Attr b j) (question.Members r i) h = ap (λ (m : Marks). is_some (get m (r.0, i))) h.1
marked_more attrs lists attrs' lists' (question.Members s j) (question.Attr a i) h = ap (λ (m : Marks). is_some (get m (a.0, i))) h.0
marked_more attrs lists attrs' lists' (question.Members s j) (question.Members r i) h = at_insert lists lists' r.0 s.0 i j h.1

pub one_indexed : (found found' : List Question) (attrs lists attrs' lists' : Marks) (p : Question) → found' ≡ found ++ p ∷ [] → AreIndexed found attrs lists → IsNoted attrs lists attrs' lists' p → AreIndexed found' attrs' lists'
one_indexed found found' attrs lists attrs' lists' p e h n = record {
  marked = λ q. ap (λ qs. list_any (same_question q) qs) e ∙ any_push q p found ∙ ap (λ b. same_question q p || b) (h.marked q) ∙ sym (marked_more attrs lists attrs' lists' p q n);
}
