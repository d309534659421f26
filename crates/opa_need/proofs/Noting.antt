-- What is noted of quantifiers, and how they are passed over.
use Rattle.std.proofs.Common.{◌≡◌, ℕ, ◌<◌, List, [], ◌∷◌, ◌++◌, length, get_or, reverse, Bor, inl, inr, sym, ◌∙◌, subst, ap, arith}
use Rattle.std.specs.Prelude.{Result, Ok, Err, OnOk}
use Rattle.std.specs.FinMap.{FinMap}
use Rattle.opa_io.proofs.Lists.{reverse_push}
use Rattle.opa_cells.specs.Keys.{cell_cmp}
use Rattle.opa_cells.specs.declared.instance.InstanceId.{InstanceId}
use Rattle.opa_case.specs.Cases.{CaseView}
use Rattle.opa_case.specs.Live.{container_of}
use Rattle.opa_case.specs.declared.question.Question.{Question}
use Rattle.opa_mean.specs.Next.{question_of}
use Rattle.opa_mean.specs.Places.{place}
use Rattle.opa_mean.specs.Sameness.{same_question}
use Rattle.opa_mean.specs.Uses.{Use}
use Rattle.opa_tree.proofs.Members.{none_in}
use Rattle.opa_tree.specs.FirstOnes.{with_new}
use Rattle.opa_tree.specs.declared.expr.Expr.{Expr}
use Rattle.opa_tree.specs.declared.rulebase.Rulebase.{Rulebase}
use Rattle.opa_need.specs.Alike.{Agrees, Follows, HasOnePlace, Seen}
use Rattle.opa_need.specs.Finding.{AreFound, Grows}
use Rattle.opa_need.specs.Noted.{AreNoted, IsNoted, GoesOn}
use Rattle.opa_need.specs.Steps.{IsOnTheWay, LeadsOn, tree_needs}
use Rattle.opa_need.specs.declared.noted.NotedTree.{NotedTree}
use Rattle.opa_need.specs.declared.runs.Run.{Run}
use Rattle.opa_need.specs.declared.steps.Step.{Step}
use Rattle.opa_need.specs.declared.steps.Step.TheVariants as step
use Rattle.opa_need.proofs.Adding.{all_stay, all_there}

pub ok_both : {T E A B C : Type 0} (x : Result T E) → (A → B → C) → OnOk x A → OnOk x B → OnOk x C
ok_both (Ok x) f a b = f a b
ok_both (Err e) f a b = tt

-- a question more, and the same questions
pub grown : (found : List Question) (u : Use) → Grows found (with_new same_question found (question_of u))
grown found u us h = all_stay found (u ∷ []) us h

pub same_grown : (found : List Question) → Grows found found
same_grown found us h = h

module _ (r : Rulebase) (c : CaseView) where
  itself : (e f : List InstanceId) → Follows r c [] e f e f
  itself e f o h = at h
    where
      at : HasOnePlace r c [] e f o → place (container_of c.live) e o ≡ place (container_of c.live) f o
      at (inl has) = absurd (none_in o has)
      at (inr is) = is

  -- what a tree asks for is found where it agrees with one that is noted
  pub noted_found : (ns : List NotedTree) (i : ℕ) (one : NotedTree) (t : Expr) (e : List InstanceId) (d : ℕ) (found : List Question) → i < length ns → one ≡ get_or ns i one → one.tree.now ≡ t → one.day ≡ d → Agrees r c [] one.enclosing e t
      → AreNoted r c found ns → AreFound found (tree_needs r c t e d)
  noted_found ns i one t e d found lt is tree day agrees noted =
      subst (AreFound found) same (subst (λ (x : NotedTree). IsNoted r c found x) (sym is) (noted i one lt))
    where
      same : tree_needs r c one.tree.now one.enclosing one.day ≡ tree_needs r c t e d
      same = ap (λ x. tree_needs r c x one.enclosing one.day) tree ∙ ap (λ k. tree_needs r c t one.enclosing k) day ∙ ap (λ (s : ℕ → Seen). (s d).1) (agrees one.enclosing e (itself one.enclosing e))

  pub none_noted : (found : List Question) (ns : List NotedTree) → ns ≡ [] → AreNoted r c found ns
  none_noted found ns is k x lt = absurd (omega (arith, lt, ap length is))

  noted_stay : (found found' : List Question) (ns : List NotedTree) → Grows found found' → AreNoted r c found ns → AreNoted r c found' ns
  noted_stay found found' ns grows noted k x lt = grows (tree_needs r c (get_or ns k x).tree.now (get_or ns k x).enclosing (get_or ns k x).day) (noted k x lt)

  -- a step that leads on leaves what is noted
  pub going : (s : Step) (found found' : List Question) (runs runs' : FinMap cell_cmp (List Run)) (ns : List NotedTree) (steps steps' : List Step) → Grows found found' → LeadsOn r c s found runs steps found' runs' steps' → GoesOn r c s found runs ns steps found' runs' ns steps'
  going s found found' runs runs' ns steps steps' grows leads total right = record { way = leads total right.way; noted = noted_stay found found' ns grows right.noted }

  -- a step that stands behind a quantifier: what is noted of it is right, and nothing is asked for
  pub noted_now : (e : Bor Expr) (es : List InstanceId) (d : ℕ) (found : List Question) (runs : FinMap cell_cmp (List Run)) (ns ns' : List NotedTree) (steps : List Step)
      → (AreFound found (tree_needs r c e.now es d) → AreNoted r c found ns → AreNoted r c found ns') → GoesOn r c (step.AfterTree e es d) found runs ns steps found runs ns' steps
  noted_now e es d found runs ns ns' steps more total right = record {
    way = record { whole = right.way.whole; sound = right.way.sound.1; ready = right.way.ready.1; found_on = right.way.found_on };
    noted = more right.way.sound.0 right.noted;
  }

  -- behind a tree comes a step that claims that its questions are found
  pub behind_tree : (total found : List Question) (runs : FinMap cell_cmp (List Run)) (e : Bor Expr) (es es' : List InstanceId) (d : ℕ) (old new : List Step) → es' ≡ es → new ≡ old ++ step.AfterTree e es' d ∷ []
      → IsOnTheWay r c total found runs (step.Tree e es d ∷ reverse old) → IsOnTheWay r c total found runs (step.Tree e es d ∷ reverse new)
  behind_tree total found runs e es es' d old new same is h =
      subst (λ xs. IsOnTheWay r c total found runs (step.Tree e es d ∷ xs)) (sym (ap reverse is ∙ reverse_push old (step.AfterTree e es' d)))
      (subst (λ ks. IsOnTheWay r c total found runs (step.Tree e es d ∷ step.AfterTree e ks d ∷ reverse old)) (sym same) (record {
        whole = h.whole;
        sound = (tt, (all_there found (tree_needs r c e.now es d), h.sound.1));
        ready = (h.ready.0, (h.ready.0, h.ready.1));
        found_on = h.found_on;
      }))
