-- Tests whether two things are one.
use Rattle.std.specs.Prelude.{ℕ, Bool, true, false, ◌&&◌, ◌==◌, List, [], ◌∷◌, Option, None, Some}
use Rattle.std.specs.Ordering.{int_eq}
use Rattle.opa_value.specs.declared.value.Value.{Value}
use Rattle.opa_value.specs.declared.value.Value.TheVariants.{Unknown, Uncertain, Bool as Truth, Num, Words, Day}
use Rattle.opa_cells.specs.Instances.{is_same, is_text}
use Rattle.opa_case.specs.declared.question.Question.{Question}
use Rattle.opa_case.specs.declared.question.Question.TheVariants as question
use Rattle.opa_mean.specs.Operations.{is_alike}

module _ {X : Type 0} (same : X → X → Bool) where
  abbrev pub same_lists : List X → List X → Bool
  same_lists [] [] = true
  same_lists [] (y ∷ ys) = false
  same_lists (x ∷ xs) [] = false
  same_lists (x ∷ xs) (y ∷ ys) = same x y && same_lists xs ys

  abbrev pub same_options : Option X → Option X → Bool
  same_options None None = true
  same_options None (Some y) = false
  same_options (Some x) None = false
  same_options (Some x) (Some y) = same x y

abbrev pub same_value : Value → Value → Bool
same_value Unknown Unknown = true
same_value Uncertain Uncertain = true
same_value (Truth a) (Truth b) = is_alike a b
same_value (Num m) (Num n) = int_eq m n
same_value (Words s) (Words t) = is_text s t
same_value (Day a) (Day b) = a == b
same_value _ _ = false

abbrev pub same_question : Question → Question → Bool
same_question (question.Attr a i) (question.Attr b j) = (a.0 == b.0) && is_same i j
same_question (question.Members r i) (question.Members q j) = (r.0 == q.0) && is_same i j
same_question _ _ = false

abbrev pub same_names : Option (List (List ℕ)) → Option (List (List ℕ)) → Bool
same_names = same_options (same_lists is_text)
