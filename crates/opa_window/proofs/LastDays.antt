-- All and any over the last days, from what was seen on them.
use Rattle.std.proofs.Common.{◌≡◌, ℕ, ◌+◌, ◌-◌, Bool, false, List, [], ◌∷◌, Some, map, refl, ◌∙◌, ap}
use Rattle.std.specs.Prelude.{◌||◌}
use Rattle.std.specs.List.{list_any}
use Rattle.opa_value.specs.declared.value.Value.{Value}
use Rattle.opa_value.specs.declared.value.Value.TheVariants as value
use Rattle.opa_value.specs.Truth.{is_unknown, is_uncertain}
use Rattle.opa_line.specs.Lines.{at, value_or}
use Rattle.opa_window.specs.Days.{days, last_days}
use Rattle.opa_window.specs.Marks.{has_mark, seen}
use Rattle.opa_window.specs.Tables.{mark_of, table_of, open_value, unless_found}

any_map : (m : Value → Bool) (g : ℕ → Value) (ds : List ℕ) → list_any (λ b. b) (map (λ e. m (g e)) ds) ≡ list_any m (map g ds)
any_map m g [] = refl
any_map m g (d ∷ ds) = ap (λ b. m (g d) || b) (any_map m g ds)

pub rolling_table : (t : Bool) (n d : ℕ) (g : ℕ → Value) (f u c : List (ℕ × Bool)) (o : List (ℕ × Value)) → at f d ≡ Some (seen n (λ e. has_mark (mark_of t) (g e)) d) → at u d ≡ Some (seen n (λ e. is_unknown (g e)) d) → at c d ≡ Some (seen n (λ e. is_uncertain (g e)) d)
    → at o d ≡ Some (open_value t (value_or false (at u d)) (value_or false (at c d))) → unless_found t (value_or false (at f d)) (value_or value.Unknown (at o d)) ≡ table_of t (last_days n g d)
rolling_table t n d g f u c o hf hu hc ho =
    ap (λ v. unless_found t (value_or false v) (value_or value.Unknown (at o d))) hf
    ∙ ap (λ v. unless_found t (seen n (λ e. has_mark (mark_of t) (g e)) d) (value_or value.Unknown v))
    (ho ∙ ap (λ v. Some (open_value t (value_or false v) (value_or false (at c d)))) hu ∙ ap (λ v. Some (open_value t (seen n (λ e. is_unknown (g e)) d) (value_or false v))) hc)
    ∙ ap (λ b. unless_found t b (open_value t (seen n (λ e. is_unknown (g e)) d) (seen n (λ e. is_uncertain (g e)) d))) (any_map (has_mark (mark_of t)) g (window n d))
    ∙ ap (λ b. unless_found t (list_any (has_mark (mark_of t)) (last_days n g d)) (open_value t b (seen n (λ e. is_uncertain (g e)) d))) (any_map is_unknown g (window n d))
    ∙ ap (λ b. unless_found t (list_any (has_mark (mark_of t)) (last_days n g d)) (open_value t (list_any is_unknown (last_days n g d)) b)) (any_map is_uncertain g (window n d))
  where
    window : ℕ → ℕ → List ℕ
    window n d = days (d + 1 - n) (d + 1 - (d + 1 - n))
