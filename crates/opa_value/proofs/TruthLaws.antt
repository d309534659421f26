-- The tables over lists are folds of those over two values.
use Rattle.std.proofs.Common.{◌≡◌, Bool, true, false, List, [], ◌∷◌, ◌++◌, ◌||◌, ap, refl, ◌∙◌, if◌then◌else◌, ℕ, ◌+◌, ◌<◌, length, take, slice_index_or, sym}
use Rattle.std.proofs.lemmas.List.{take_more}
use Rattle.std.specs.List.{list_any}
use Rattle.opa_io.proofs.Bools.{or_false, or_assoc}
use Rattle.opa_value.specs.declared.value.Value.{Value}
use Rattle.opa_value.specs.declared.value.Value.TheVariants as value
use Rattle.opa_value.specs.Truth.{all_of, any_of, all2_of, any2_of, is_false, is_true, is_unknown, is_uncertain}

-- what three tests of a list choose: the deciding value, unknown, uncertain, or the other truth value
abbrev chosen : Value → Value → Bool → Bool → Bool → Value
chosen decided other f u c = if f then decided else if u then value.Unknown else if c then value.Uncertain else other

list_any_push : (p : Value → Bool) (xs : List Value) (v : Value) → list_any p (xs ++ v ∷ []) ≡ (list_any p xs || p v)
list_any_push p [] v = or_false (p v)
list_any_push p (x ∷ xs) v = ap (λ b. p x || b) (list_any_push p xs v) ∙ or_assoc (p x) (list_any p xs) (p v)

all_two : (f u c : Bool) (v : Value) → all2_of (chosen (value.Bool false) (value.Bool true) f u c) v ≡ chosen (value.Bool false) (value.Bool true) (f || is_false v) (u || is_unknown v) (c || is_uncertain v)
all_two true u c v = refl
all_two false true c value.Unknown = refl
all_two false true c value.Uncertain = refl
all_two false true c (value.Bool true) = refl
all_two false true c (value.Bool false) = refl
all_two false true c _ = refl
all_two false false true value.Unknown = refl
all_two false false true value.Uncertain = refl
all_two false false true (value.Bool true) = refl
all_two false false true (value.Bool false) = refl
all_two false false true _ = refl
all_two false false false value.Unknown = refl
all_two false false false value.Uncertain = refl
all_two false false false (value.Bool true) = refl
all_two false false false (value.Bool false) = refl
all_two false false false _ = refl

any_two : (f u c : Bool) (v : Value) → any2_of (chosen (value.Bool true) (value.Bool false) f u c) v ≡ chosen (value.Bool true) (value.Bool false) (f || is_true v) (u || is_unknown v) (c || is_uncertain v)
any_two true u c v = refl
any_two false true c value.Unknown = refl
any_two false true c value.Uncertain = refl
any_two false true c (value.Bool true) = refl
any_two false true c (value.Bool false) = refl
any_two false true c _ = refl
any_two false false true value.Unknown = refl
any_two false false true value.Uncertain = refl
any_two false false true (value.Bool true) = refl
any_two false false true (value.Bool false) = refl
any_two false false true _ = refl
any_two false false false value.Unknown = refl
any_two false false false value.Uncertain = refl
any_two false false false (value.Bool true) = refl
any_two false false false (value.Bool false) = refl
any_two false false false _ = refl

-- one operand more
pub all_of_push : (xs : List Value) (v : Value) → all2_of (all_of xs) v ≡ all_of (xs ++ v ∷ [])
all_of_push xs v =
    all_two (list_any is_false xs) (list_any is_unknown xs) (list_any is_uncertain xs) v
    ∙ rw (list_any_push is_false xs v, list_any_push is_unknown xs v, list_any_push is_uncertain xs v) refl

pub any_of_push : (xs : List Value) (v : Value) → any2_of (any_of xs) v ≡ any_of (xs ++ v ∷ [])
any_of_push xs v =
    any_two (list_any is_true xs) (list_any is_unknown xs) (list_any is_uncertain xs) v
    ∙ rw (list_any_push is_true xs v, list_any_push is_unknown xs v, list_any_push is_uncertain xs v) refl

-- the order of two operands is of no matter
all_swap : (f u c : Bool) (v : Value) → all2_of v (chosen (value.Bool false) (value.Bool true) f u c) ≡ chosen (value.Bool false) (value.Bool true) (is_false v || f) (is_unknown v || u) (is_uncertain v || c)
all_swap true u c value.Unknown = refl
all_swap true u c value.Uncertain = refl
all_swap true u c (value.Bool true) = refl
all_swap true u c (value.Bool false) = refl
all_swap true u c _ = refl
all_swap false true c value.Unknown = refl
all_swap false true c value.Uncertain = refl
all_swap false true c (value.Bool true) = refl
all_swap false true c (value.Bool false) = refl
all_swap false true c _ = refl
all_swap false false true value.Unknown = refl
all_swap false false true value.Uncertain = refl
all_swap false false true (value.Bool true) = refl
all_swap false false true (value.Bool false) = refl
all_swap false false true _ = refl
all_swap false false false value.Unknown = refl
all_swap false false false value.Uncertain = refl
all_swap false false false (value.Bool true) = refl
all_swap false false false (value.Bool false) = refl
all_swap false false false _ = refl

any_swap : (f u c : Bool) (v : Value) → any2_of v (chosen (value.Bool true) (value.Bool false) f u c) ≡ chosen (value.Bool true) (value.Bool false) (is_true v || f) (is_unknown v || u) (is_uncertain v || c)
any_swap true u c value.Unknown = refl
any_swap true u c value.Uncertain = refl
any_swap true u c (value.Bool true) = refl
any_swap true u c (value.Bool false) = refl
any_swap true u c _ = refl
any_swap false true c value.Unknown = refl
any_swap false true c value.Uncertain = refl
any_swap false true c (value.Bool true) = refl
any_swap false true c (value.Bool false) = refl
any_swap false true c _ = refl
any_swap false false true value.Unknown = refl
any_swap false false true value.Uncertain = refl
any_swap false false true (value.Bool true) = refl
any_swap false false true (value.Bool false) = refl
any_swap false false true _ = refl
any_swap false false false value.Unknown = refl
any_swap false false false value.Uncertain = refl
any_swap false false false (value.Bool true) = refl
any_swap false false false (value.Bool false) = refl
any_swap false false false _ = refl

-- one operand more in front
pub all_of_cons : (v : Value) (xs : List Value) → all2_of v (all_of xs) ≡ all_of (v ∷ xs)
all_of_cons v xs = all_swap (list_any is_false xs) (list_any is_unknown xs) (list_any is_uncertain xs) v

pub any_of_cons : (v : Value) (xs : List Value) → any2_of v (any_of xs) ≡ any_of (v ∷ xs)
any_of_cons v xs = any_swap (list_any is_true xs) (list_any is_unknown xs) (list_any is_uncertain xs) v

-- a loop's step: one operand more, the one at the index
pub all_of_more : (values : List Value) (i : ℕ) (so_far all v : Value) → i < length values → so_far ≡ all_of (take i values) → all ≡ all2_of so_far v → v ≡ slice_index_or values i v → all ≡ all_of (take (i + 1) values)
all_of_more values i so_far all v inside before both is =
    both ∙ ap (λ a. all2_of a v) before ∙ all_of_push (take i values) v
    ∙ ap (λ x. all_of (take i values ++ x ∷ [])) is ∙ ap all_of (sym (take_more values i v inside))

pub any_of_more : (values : List Value) (i : ℕ) (so_far some v : Value) → i < length values → so_far ≡ any_of (take i values) → some ≡ any2_of so_far v → v ≡ slice_index_or values i v → some ≡ any_of (take (i + 1) values)
any_of_more values i so_far some v inside before both is =
    both ∙ ap (λ a. any2_of a v) before ∙ any_of_push (take i values) v
    ∙ ap (λ x. any_of (take i values ++ x ∷ [])) is ∙ ap any_of (sym (take_more values i v inside))

pub ruleset tables = (all_of_push, any_of_push, all_of_cons, any_of_cons)
