-- What is one passes the tests of sameness.
use Rattle.std.proofs.Common.{◌≡◌, ℕ, ℤ, Bool, true, false, List, [], ◌∷◌, Option, None, Some, refl, subst, arith}
use Rattle.std.specs.Prelude.{◌==◌}
use Rattle.std.specs.Cmp.{nat_eq_equiv}
use Rattle.std.specs.Ordering.{int_eq}
use Rattle.std.proofs.lemmas.Bool.{and_from}
use Rattle.opa_value.specs.declared.value.Value.{Value}
use Rattle.opa_value.specs.declared.value.Value.TheVariants.{Unknown, Uncertain, Bool as Truth, Num, Words, Day}
use Rattle.opa_cells.specs.Instances.{is_same, is_text}
use Rattle.opa_cells.proofs.Orders.{same_itself}
use Rattle.opa_case.proofs.Stands.{text_itself}
use Rattle.opa_case.specs.declared.question.Question.{Question}
use Rattle.opa_case.specs.declared.question.Question.TheVariants as question
use Rattle.opa_mean.specs.Sameness.{same_lists, same_options, same_value, same_question, same_names}
use Rattle.opa_mean.specs.SlotLaws.{SamenessIsExact}
use Rattle.opa_mean.proofs.Exact.{value_exact, question_exact, names_exact}

module _ {X : Type 0} (same : X → X → Bool) (itself : (x : X) → same x x ≡ true) where
  pub lists_itself : (xs : List X) → same_lists same xs xs ≡ true
  lists_itself [] = refl
  lists_itself (x ∷ xs) = and_from (same x x) (same_lists same xs xs) (itself x) (lists_itself xs)

  pub options_itself : (x : Option X) → same_options same x x ≡ true
  options_itself None = refl
  options_itself (Some x) = itself x

int_itself : (m : ℤ) → int_eq m m ≡ true
int_itself m = grind arith

pub value_itself : (v : Value) → same_value v v ≡ true
value_itself Unknown = refl
value_itself Uncertain = refl
value_itself (Truth true) = refl
value_itself (Truth false) = refl
value_itself (Num m) = int_itself m
value_itself (Words t) = text_itself t
value_itself (Day d) = nat_eq_equiv.refl d

pub question_itself : (q : Question) → same_question q q ≡ true
question_itself (question.Attr a i) = and_from (a.0 == a.0) (is_same i i) (nat_eq_equiv.refl a.0) (same_itself i)
question_itself (question.Members r i) = and_from (r.0 == r.0) (is_same i i) (nat_eq_equiv.refl r.0) (same_itself i)

pub names_itself : (x : Option (List (List ℕ))) → same_names x x ≡ true
names_itself = options_itself (same_lists is_text) (lists_itself is_text text_itself)

pub sameness_is_exact : SamenessIsExact
sameness_is_exact = record {
  values = λ v w. (value_exact v w, λ e. subst (λ x. same_value v x ≡ true) e (value_itself v));
  questions = λ p q. (question_exact p q, λ e. subst (λ x. same_question p x ≡ true) e (question_itself p));
  names = λ x y. (names_exact x y, λ e. subst (λ z. same_names x z ≡ true) e (names_itself x));
}
