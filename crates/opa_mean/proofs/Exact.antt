-- Things that pass a test of sameness are one.
use Rattle.std.proofs.Common.{◌≡◌, ℕ, ℤ, Bool, true, false, List, [], ◌∷◌, Option, None, Some, arith, refl, ◌∙◌, ap}
use Rattle.std.specs.Ordering.{int_eq}
use Rattle.std.proofs.lemmas.Bool.{and_parts, eqb-true}
use Rattle.opa_value.specs.declared.value.Value.{Value}
use Rattle.opa_value.specs.declared.value.Value.TheVariants.{Unknown, Uncertain, Bool as Truth, Num, Words, Day}
use Rattle.opa_cells.specs.Instances.{is_text}
use Rattle.opa_cells.proofs.Orders.{same_is}
use Rattle.opa_case.proofs.Stands.{text_is}
use Rattle.opa_case.specs.declared.question.Question.{Question}
use Rattle.opa_case.specs.declared.question.Question.TheVariants as question
use Rattle.opa_model.specs.declared.ids.AttrId.{AttrId}
use Rattle.opa_model.specs.declared.ids.RelId.{RelId}
use Rattle.opa_cells.specs.declared.instance.InstanceId.{InstanceId}
use Rattle.opa_mean.specs.Operations.{is_alike}
use Rattle.opa_mean.specs.Sameness.{same_lists, same_options, same_value, same_question, same_names}

module _ {X : Type 0} (same : X → X → Bool) (exact : (x y : X) → same x y ≡ true → x ≡ y) where
  pub lists_exact : (xs ys : List X) → same_lists same xs ys ≡ true → xs ≡ ys
  lists_exact [] [] h = refl
  lists_exact [] (y ∷ ys) h = absurd (cc h)
  lists_exact (x ∷ xs) [] h = absurd (cc h)
  lists_exact (x ∷ xs) (y ∷ ys) h = let both = and_parts _ _ h in ap (λ z. z ∷ xs) (exact x y both.0) ∙ ap (λ zs. y ∷ zs) (lists_exact xs ys both.1)

  pub options_exact : (x y : Option X) → same_options same x y ≡ true → x ≡ y
  options_exact None None h = refl
  options_exact None (Some y) h = absurd (cc h)
  options_exact (Some x) None h = absurd (cc h)
  options_exact (Some x) (Some y) h = ap Some (exact x y h)

alike_exact : (a b : Bool) → is_alike a b ≡ true → a ≡ b
alike_exact true true h = refl
alike_exact true false h = absurd (cc h)
alike_exact false true h = absurd (cc h)
alike_exact false false h = refl

pub value_exact : (v w : Value) → same_value v w ≡ true → v ≡ w
value_exact Unknown Unknown h = refl
value_exact Uncertain Uncertain h = refl
value_exact (Truth a) (Truth b) h = ap Truth (alike_exact a b h)
value_exact (Num m) (Num n) h = ap Num (int_exact m n h)
  where
    int_exact : (m n : ℤ) → int_eq m n ≡ true → m ≡ n
    int_exact m n h = grind (arith, h)
value_exact (Words s) (Words t) h = ap Words (text_is s t h)
value_exact (Day a) (Day b) h = ap Day (eqb-true a b h)
value_exact _ _ h = absurd (cc h)

pub question_exact : (p q : Question) → same_question p q ≡ true → p ≡ q
question_exact (question.Attr a i) (question.Attr b j) h = let both = and_parts _ _ h in ap (λ (n : ℕ). let x : AttrId = record { 0 = n } in question.Attr x i) (eqb-true a.0 b.0 both.0) ∙ ap (λ (k : InstanceId). question.Attr b k) (same_is i j both.1)
question_exact (question.Members r i) (question.Members q j) h = let both = and_parts _ _ h in ap (λ (n : ℕ). let x : RelId = record { 0 = n } in question.Members x i) (eqb-true r.0 q.0 both.0) ∙ ap (λ (k : InstanceId). question.Members q k) (same_is i j both.1)
question_exact _ _ h = absurd (cc h)

pub names_exact : (x y : Option (List (List ℕ))) → same_names x y ≡ true → x ≡ y
names_exact = options_exact (same_lists is_text) (lists_exact is_text text_is)
