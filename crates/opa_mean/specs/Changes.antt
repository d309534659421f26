-- What another case changes: the lines of conclusions, which of them are dirty, and what is told of them.
use Rattle.std.specs.Prelude.{◌≡◌, ◌≢◌, ℕ, zero, suc, ◌<◌, Bool, not, ◌&&◌, ◌||◌, ◌==◌, cond, List, [], ◌∷◌, ◌++◌, map, filter, find, filter_map, flat_map, length, is_some, Option, None, Some}
use Rattle.std.specs.List.{list_any}
use Rattle.std.specs.Option.{option_map}
use Rattle.opa_date.specs.declared.TheConstants.{DAYS}
use Rattle.opa_value.specs.declared.value.Value.{Value}
use Rattle.opa_value.specs.declared.value.Value.TheVariants.{Unknown}
use Rattle.opa_line.specs.Lines.{canon}
use Rattle.opa_model.specs.declared.ids.AttrId.{AttrId}
use Rattle.opa_cells.specs.Instances.{is_same}
use Rattle.opa_cells.specs.declared.instance.InstanceId.{InstanceId}
use Rattle.opa_case.specs.declared.question.Question.{Question}
use Rattle.opa_case.specs.declared.question.Question.TheVariants as question
use Rattle.opa_tree.specs.Rules.{rule_of}
use Rattle.opa_tree.specs.Trees.{highest}
use Rattle.opa_window.specs.Days.{days}
use Rattle.opa_mean.specs.Mean.{Base, Facts, mean}
use Rattle.opa_mean.specs.Places.{is_of, owner_of}
use Rattle.opa_mean.specs.Reads.{reads_of}
use Rattle.opa_mean.specs.Sameness.{same_value, same_question, same_names, same_lists, same_options}

-- the line of a determination
abbrev pub line : Base → Facts → AttrId → InstanceId → List (ℕ × Value)
line b c a i = canon same_value DAYS (mean b c a i)

-- the first day, of so many, at which two functions differ
unfoldable pub first_difference : ℕ → (ℕ → Value) → (ℕ → Value) → Option ℕ
first_difference end f g = find (λ d. not (same_value (f d) (g d))) (days 0 end)

-- so many attributes, in declared order
abbrev pub attributes : ℕ → List AttrId
attributes zero = []
attributes (suc n) = attributes n ++ record { 0 = n } ∷ []

-- the attributes with a rule of a rank, in declared order
abbrev pub of_rank : Base → ℕ → List AttrId
of_rank b n = filter (λ a. is_some (rule_of b.rules a) && (b.rank a == n)) (attributes b.shape.attributes)

-- those of a rank below n, by rank
abbrev pub below_rank : Base → ℕ → List AttrId
below_rank b zero = []
below_rank b (suc n) = below_rank b n ++ of_rank b n

-- the attributes with a rule, by rank and then in declared order
abbrev pub ruled : Base → List AttrId
ruled b = below_rank b (suc (highest (map b.rank (attributes b.shape.attributes))))

-- the live slots: a live instance with an attribute of its entity that has a rule; by rank, declared order, instance order
abbrev pub slots : Base → Facts → List (AttrId × InstanceId)
slots b c = flat_map (λ a. map (λ i. (a, i)) (filter (is_of (owner_of b.shape a)) c.instances)) (ruled b)

abbrev pub is_live : Facts → InstanceId → Bool
is_live c i = list_any (is_same i) c.instances

-- a line, or a list, differs
abbrev pub differs : Base → Facts → Facts → Question → Bool
differs b c c' (question.Attr a i) = is_some (first_difference DAYS (mean b c a i) (mean b c' a i))
differs b c c' (question.Members r i) = not (same_names (c.members r i) (c'.members r i))

-- A slot is dirty where its instance wasn't live in the same container, what its rule can look at differs, or a line or a list
-- of these does.
abbrev pub is_dirty : Base → Facts → Facts → AttrId → InstanceId → Bool
is_dirty b c c' a i =
    not (is_live c i && same_options is_same (c.container i) (c'.container i))
    || (not (same_lists same_question (reads_of b c a i) (reads_of b c' a i)) || list_any (differs b c c') (reads_of b c' a i))

-- how many slots are dirty
abbrev pub dirty : Base → Facts → Facts → ℕ
dirty b c c' = length (filter (λ s. is_dirty b c c' s.0 s.1) (slots b c'))

-- a slot whose line differs, the first day of difference, and both values there
pub record Changed : Type 0 where
  pub attr : AttrId
  pub inst : InstanceId
  pub day : ℕ
  pub old : Value
  pub new : Value

-- the value before: unknown of what wasn't live
abbrev pub value_before : Base → Facts → AttrId → InstanceId → ℕ → Value
value_before b c a i d = cond (is_live c i) (mean b c a i d) Unknown

abbrev pub change_of : Base → Facts → Facts → AttrId → InstanceId → Option Changed
change_of b c c' a i = option_map (λ d. record { attr = a; inst = i; day = d; old = value_before b c a i d; new = mean b c' a i d }) (first_difference DAYS (value_before b c a i) (mean b c' a i))

-- the changes of live slots, in their order
abbrev pub changes : Base → Facts → Facts → List Changed
changes b c c' = filter_map (λ s. change_of b c c' s.0 s.1) (slots b c')

-- the least day of difference; none where there is none
pub record IsFirst (end : ℕ) (f g : ℕ → Value) (o : Option ℕ) : Type 0 where
  pub none : o ≡ None → (d : ℕ) → d < end → f d ≡ g d
  pub differ : (d : ℕ) → o ≡ Some d → (d < end) × (f d ≢ g d)
  pub before : (d e : ℕ) → o ≡ Some d → e < d → f e ≡ g e
