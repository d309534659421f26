-- Questions that are added one after another.
use Rattle.std.proofs.Common.{◌≡◌, ◌↔◌, Bool, true, false, cond, ◌||◌, List, [], ◌∷◌, ◌++◌, Option, Some, refl, sym, ◌∙◌, ap, subst}
use Rattle.std.specs.Prelude.{map}
use Rattle.std.specs.List.{list_any}
use Rattle.std.proofs.lemmas.List.{append_assoc, append-nil}
use Rattle.opa_io.proofs.Lists.{each_weaker}
use Rattle.opa_case.specs.declared.question.Question.{Question}
use Rattle.opa_tree.specs.FirstOnes.{first_ones, with_new}
use Rattle.opa_tree.proofs.FirstOnesLaws.{first_ones-push}
use Rattle.opa_mean.specs.Next.{question_of, first_or}
use Rattle.opa_mean.specs.Sameness.{same_question}
use Rattle.opa_mean.specs.Uses.{Use}
use Rattle.opa_mean.proofs.Exact.{question_exact}
use Rattle.opa_need.specs.Finding.{IsFound, AreFound, added}
use Rattle.opa_mean.proofs.SameBoth.{question_itself}

tells : (p q : Question) → (same_question p q ≡ true) ↔ (p ≡ q)
tells p q = (question_exact p q, λ e. subst (λ x. same_question p x ≡ true) e (question_itself p))

pub added-append : (found : List Question) (us vs : List Use) → added found (us ++ vs) ≡ added (added found us) vs
added-append found [] vs = refl
added-append found (u ∷ us) vs = added-append (with_new same_question found (question_of u)) us vs

any_more : (q : Question) (xs ys : List Question) → list_any (same_question q) xs ≡ true → list_any (same_question q) (xs ++ ys) ≡ true
any_more q [] ys h = absurd (cc h)
any_more q (x ∷ xs) ys h = go (same_question q x) h (any_more q xs ys)
  where
    go : (b : Bool) → (b || list_any (same_question q) xs) ≡ true → (list_any (same_question q) xs ≡ true → list_any (same_question q) (xs ++ ys) ≡ true) → (b || list_any (same_question q) (xs ++ ys)) ≡ true
    go true h rest = refl
    go false h rest = rest h

any_last : (q : Question) (xs : List Question) → list_any (same_question q) (xs ++ q ∷ []) ≡ true
any_last q [] = ap (λ b. b || false) (question_itself q)
any_last q (x ∷ xs) = go (same_question q x) (any_last q xs)
  where
    go : (b : Bool) → list_any (same_question q) (xs ++ q ∷ []) ≡ true → (b || list_any (same_question q) (xs ++ q ∷ [])) ≡ true
    go true h = refl
    go false h = h

one_stays : (found : List Question) (u v : Use) → IsFound found v → IsFound (with_new same_question found (question_of u)) v
one_stays found u v h = go (list_any (same_question (question_of u)) found)
  where
    go : (b : Bool) → list_any (same_question (question_of v)) (cond b found (found ++ question_of u ∷ [])) ≡ true
    go true = h
    go false = any_more (question_of v) found (question_of u ∷ []) h

one_there : (found : List Question) (u : Use) → IsFound (with_new same_question found (question_of u)) u
one_there found u = go (list_any (same_question (question_of u)) found) refl
  where
    go : (b : Bool) → list_any (same_question (question_of u)) found ≡ b → list_any (same_question (question_of u)) (cond b found (found ++ question_of u ∷ [])) ≡ true
    go true e = e
    go false e = any_last (question_of u) found

-- what is found stays found
pub found_stays : (found : List Question) (us : List Use) (v : Use) → IsFound found v → IsFound (added found us) v
found_stays found [] v h = h
found_stays found (u ∷ us) v h = found_stays (with_new same_question found (question_of u)) us v (one_stays found u v h)

pub all_stay : (found : List Question) (us vs : List Use) → AreFound found vs → AreFound (added found us) vs
all_stay found us vs h = each_weaker (IsFound found) (IsFound (added found us)) (found_stays found us) vs h

-- what was added is found
pub all_there : (found : List Question) (us : List Use) → AreFound (added found us) us
all_there found [] = tt
all_there found (u ∷ us) = (found_stays (with_new same_question found (question_of u)) us u (one_there found u), all_there (with_new same_question found (question_of u)) us)

-- what is found already adds nothing
pub nothing_new : (found : List Question) (us : List Use) → AreFound found us → added found us ≡ found
nothing_new found [] h = refl
nothing_new found (u ∷ us) h = ap (λ b. added (cond b found (found ++ question_of u ∷ [])) us) h.0 ∙ nothing_new found us h.1

onto_first : (us : List Use) (qs : List Question) → added (first_ones same_question qs) us ≡ first_ones same_question (qs ++ map question_of us)
onto_first [] qs = ap (first_ones same_question) (sym (append-nil qs))
onto_first (u ∷ us) qs =
    ap (λ found. added found us) (sym (first_ones-push same_question tells qs (question_of u)))
    ∙ onto_first us (qs ++ question_of u ∷ []) ∙ ap (first_ones same_question) (append_assoc qs (question_of u ∷ []) (map question_of us))

-- from nothing on, they are the questions of the uses, each where it stands first
pub from_none : (us : List Use) → added [] us ≡ first_ones same_question (map question_of us)
from_none us = onto_first us []

-- the first one found stays the first
pub first_stays : (us : List Use) (q : Question) (found : List Question) (rest : Option Question) → first_or (added (q ∷ found) us) rest ≡ Some q
first_stays [] q found rest = refl
first_stays (u ∷ us) q found rest = go (list_any (same_question (question_of u)) (q ∷ found)) (first_stays us q)
  where
    go : (b : Bool) → ((found : List Question) (rest : Option Question) → first_or (added (q ∷ found) us) rest ≡ Some q) → first_or (added (cond b (q ∷ found) ((q ∷ found) ++ question_of u ∷ [])) us) rest ≡ Some q
    go true more = more found rest
    go false more = more (found ++ question_of u ∷ []) rest
