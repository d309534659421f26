-- Whether two lines differ.
use Rattle.std.proofs.Common.{◌≡◌, ℕ, zero, suc, ◌+◌, ◌<◌, ◌≤◌, Bool, true, false, cond, not, is_some, List, [], ◌∷◌, Option, None, Some, refl, sym, ◌∙◌, ap, arith}
use Rattle.std.specs.Prelude.{find, ◌&&◌}
use Rattle.opa_cells.specs.Instances.{is_text}
use Rattle.std.specs.Cmp.{eq_by_cmp_equiv}
use Rattle.std.specs.Cmp.Lexicographic.{nat_list_cmp_total}
use Rattle.opa_io.proofs.Options.{none_is}
use Rattle.opa_date.specs.declared.TheConstants.{DAYS}
use Rattle.opa_value.specs.declared.value.Value.{Value}
use Rattle.opa_window.specs.Days.{days}
use Rattle.opa_model.specs.declared.ids.AttrId.{AttrId}
use Rattle.opa_cells.specs.declared.instance.InstanceId.{InstanceId}
use Rattle.opa_case.specs.declared.question.Question.TheVariants as question
use Rattle.opa_mean.specs.Changes.{first_difference}
use Rattle.opa_mean.specs.Rulebases.{value_at}
use Rattle.opa_mean.specs.Sameness.{same_value, same_names, same_lists}
use Rattle.opa_mean.proofs.Cleaning.{same_where_none}
use Rattle.opa_mean.proofs.SameBoth.{value_itself}
use Rattle.opa_mean.specs.Reached.Settling.{Shift, is_told}

none_among : (p : ℕ → Bool) (s n : ℕ) → ((d : ℕ) → s ≤ d → d < s + n → p d ≡ false) → find p (days s n) ≡ None
none_among p s zero h = refl
none_among p s (suc n) h = ap (λ b. cond b (Some s) (find p (days (s + 1) n))) (h s (omega arith) (omega arith)) ∙ none_among p (s + 1) n (λ d le lt. h d (omega (arith, le)) (omega (arith, lt)))

pub none_where_same : (end : ℕ) (f g : ℕ → Value) → ((d : ℕ) → d < end → f d ≡ g d) → first_difference end f g ≡ None
unfolding first_difference
none_where_same end f g h = none_among (λ d. not (same_value (f d) (g d))) 0 end (λ d le lt. ap (λ v. not (same_value (f d) v)) (sym (h d (omega (arith, lt)))) ∙ ap not (value_itself (f d)))

-- functions that agree on the calendar's days differ from the same
pub same_difference : (end : ℕ) (f f' g g' : ℕ → Value) → ((d : ℕ) → d < end → f d ≡ f' d) → ((d : ℕ) → d < end → g d ≡ g' d) → is_some (first_difference end f g) ≡ is_some (first_difference end f' g')
same_difference end f f' g g' hf hg = go (is_some (first_difference end f g)) refl (is_some (first_difference end f' g')) refl
  where
    go : (a : Bool) → is_some (first_difference end f g) ≡ a → (b : Bool) → is_some (first_difference end f' g') ≡ b → is_some (first_difference end f g) ≡ is_some (first_difference end f' g')
    go true e true e' = e ∙ sym e'
    go false e false e' = e ∙ sym e'
    go false e true e' =
        let all = same_where_none end f g (none_is (first_difference end f g) e) in
        absurd (cc (e', ap is_some (none_where_same end f' g' (λ d lt. sym (hf d lt) ∙ all d lt ∙ hg d lt))))
    go true e false e' =
        let all = same_where_none end f' g' (none_is (first_difference end f' g') e') in
        absurd (cc (e, ap is_some (none_where_same end f g (λ d lt. hf d lt ∙ all d lt ∙ sym (hg d lt)))))

-- a line that is told has a day at which it differs
pub told_differs : (s : Shift) (a : AttrId) (i : InstanceId) → ((d : ℕ) → d < DAYS → value_at s.rules s.old a i d ≡ value_at s.rules s.new a i d) → is_told s (question.Attr a i) ≡ true → ⊥
told_differs s a i same told = cc (told, ap is_some (none_where_same DAYS (value_at s.rules s.old a i) (value_at s.rules s.new a i) same))

-- a list doesn't differ from itself
pub names_never_differ : (o : Option (List (List ℕ))) → not (same_names o o) ≡ true → ⊥
names_never_differ None h = cc h
names_never_differ (Some names) h = cc (h, ap not (all names))
  where
    both : (a b : Bool) → a ≡ true → b ≡ true → (a && b) ≡ true
    both true b h k = k
    both false b h k = absurd (cc h)

    all : (names : List (List ℕ)) → same_lists is_text names names ≡ true
    all [] = refl
    all (n ∷ names) = both (is_text n n) (same_lists is_text names names) ((eq_by_cmp_equiv nat_list_cmp_total).refl n) (all names)
