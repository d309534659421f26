-- Loops that add what several things use.
use Rattle.std.proofs.Common.{◌≡◌, ℕ, zero, suc, ◌+◌, ◌<◌, Bool, true, false, cond, not, ◌&&◌, ◌||◌, List, [], ◌∷◌, ◌++◌, get_or, take, length, Some, refl, sym, ◌∙◌, ap, ap₂, subst, arith}
use Rattle.std.specs.Prelude.{flat_map}
use Rattle.std.specs.List.{list_any, AllByRecursion}
use Rattle.std.proofs.lemmas.List.{append_assoc, append-nil}
use Rattle.opa_date.specs.declared.TheConstants.{DAYS}
use Rattle.opa_value.specs.declared.value.Value.{Value}
use Rattle.opa_value.specs.declared.value.Value.TheVariants.{Unknown, Uncertain, Bool as Truth, Num, Words, Day}
use Rattle.opa_value.specs.Truth.{is_true, is_false}
use Rattle.opa_line.specs.Lines.{StandsFor, value_or}
use Rattle.opa_case.specs.Shapes.{Shape}
use Rattle.opa_cells.specs.declared.instance.InstanceId.{InstanceId}
use Rattle.opa_report.specs.DaySets.Sets.{on}
use Rattle.opa_report.proofs.day_sets.Setting.{on_is}
use Rattle.opa_tree.specs.declared.expr.Row.{Row}
use Rattle.opa_window.specs.Days.{day_value}
use Rattle.opa_mean.specs.Looks.{Look}
use Rattle.opa_mean.specs.Meaning.{value}
use Rattle.opa_mean.specs.Uses.{Use, Uses, after_cond, first_or_all, uses}
use Rattle.opa_report.specs.declared.found.Found.{Found}
use Rattle.opa_report.specs.Adding.{Adds}
use Rattle.opa_mean.specs.PartUses.{rows_uses}
use Rattle.opa_report.specs.Spreading.{is_truth, all_false, none, AddsRows}
use Rattle.opa_report.proofs.Choosing.{neither, either_way, twice}
use Rattle.opa_report.proofs.Combining.{adds_nothing, adds_same, adds_both, adds_where}
use Rattle.opa_report.proofs.Firsts.{picks, picks_more, picks_are, next_item, any_next, flat_next}

-- a fact of all things holds of one
pub all_at : {X : Type 0} (P : X → Type 0) (xs : List X) (i : ℕ) (x : X) → AllByRecursion P xs → i < length xs → x ≡ get_or xs i x → P x
all_at P [] i x all lt is = absurd (omega (arith, lt))
all_at P (y ∷ xs) zero x all lt is = subst P (sym is) all.0
all_at P (y ∷ xs) (suc i) x all lt is = all_at P xs i x all.1 (omega (arith, lt)) is

-- the value of a line at a day
pub line_at : (f : ℕ → Value) (line : List (ℕ × Value)) (d : ℕ) → StandsFor DAYS f line → d < DAYS → day_value line d ≡ f d
line_at f line d h lt = ap (value_or Unknown) (h d lt)

-- each of several
pub each_step : {X : Type 0} (D : ℕ → Bool) (u : ℕ → X → List Use) (xs : List X) (i : ℕ) (x : X) (f g h : Found) → i < length xs → x ≡ get_or xs i x → Adds D (λ d. flat_map (u d) (take i xs)) f g → Adds D (λ d. u d x) g h → Adds D (λ d. flat_map (u d) (take (i + 1) xs)) f h
each_step D u xs i x f g h lt is before here = adds_same D _ _ f h (λ d _ _. flat_next (u d) xs i x lt is) (adds_both D _ _ f g h before here)

-- the first of several that passes
module _ {X : Type 0} (p : ℕ → X → Bool) (u : ℕ → X → List Use) (xs : List X) (days : List (ℕ × Bool)) where
  -- the days on which none of the first ones passes
  abbrev pub AreLeft : ℕ → List (ℕ × Bool) → Type 0
  AreLeft i left = StandsFor DAYS (λ d. on days d && not (list_any (p d) (take i xs))) left

  pub left_start : (left : List (ℕ × Bool)) → StandsFor DAYS (λ d. on days d && on days d) left → AreLeft 0 left
  left_start left h = λ d low. h d low ∙ ap Some (twice (on days d))

  pub left_step : (i : ℕ) (x : X) (t : Bool) (line : List (ℕ × Value)) (left left' : List (ℕ × Bool)) → i < length xs → x ≡ get_or xs i x → ((d : ℕ) → d < DAYS → is_truth t (day_value line d) ≡ p d x)
      → AreLeft i left → StandsFor DAYS (λ d. on left d && not (is_truth t (day_value line d))) left' → AreLeft (i + 1) left'
  left_step i x t line left left' lt is value before here = λ d low.
      here d low ∙ ap Some (ap₂ (λ a b. a && not b) (on_is _ left d before low) (value d low) ∙ neither (on days d) (list_any (p d) (take i xs)) (p d x) ∙ ap (λ b. on days d && not b) (sym (any_next (p d) xs i x lt is)))

  pub left_end : (i : ℕ) (left : List (ℕ × Bool)) → take i xs ≡ xs → AreLeft i left → StandsFor DAYS (λ d. on days d && not (list_any (p d) xs)) left
  left_end i left all are = λ d low. are d low ∙ ap (λ ys. Some (on days d && not (list_any (p d) ys))) all

  pub record IsGoing (i : ℕ) (left : List (ℕ × Bool)) (old new : Found) : Type 0 where
    pub are_left : AreLeft i left
    pub adds : Adds (on days) (λ d. picks (p d) (u d) (not (list_any (p d) xs)) false (take i xs)) old new

  pub going_start : (left : List (ℕ × Bool)) (f : Found) → StandsFor DAYS (λ d. on days d && on days d) left → IsGoing 0 left f f
  going_start left f h = record { are_left = left_start left h; adds = adds_nothing (on days) f }

  pub going_step : (i : ℕ) (x : X) (t : Bool) (line : List (ℕ × Value)) (undecided left left' first : List (ℕ × Bool)) (f g h : Found) → i < length xs → x ≡ get_or xs i x → IsGoing i left f g
      → ((d : ℕ) → d < DAYS → is_truth t (day_value line d) ≡ p d x)
      → StandsFor DAYS (λ d. on days d && not (list_any (p d) xs)) undecided
      → StandsFor DAYS (λ d. on undecided d || (on left d && is_truth t (day_value line d))) first
      → StandsFor DAYS (λ d. on left d && not (is_truth t (day_value line d))) left'
      → Adds (on first) (λ d. u d x) g h → IsGoing (i + 1) left' f h
  going_step i x t line undecided left left' first f g h lt is going value opens firsts lefts here = record {
    are_left = left_step i x t line left left' lt is value going.are_left lefts;
    adds = adds_same (on days) _ _ f h
        (λ d _ _. sym (picks_more (p d) (u d) (not (list_any (p d) xs)) false (take i xs) x) ∙ ap (picks (p d) (u d) (not (list_any (p d) xs)) false) (sym (next_item xs i x lt is)))
        (adds_both (on days) _ _ f g h going.adds
        (adds_where (on days) (λ d. not (list_any (p d) xs) || (not (list_any (p d) (take i xs)) && p d x)) (on first) (λ d. u d x) g h
        (λ d low. on_is _ first d firsts low
        ∙ ap₂ (λ a b. a || (b && is_truth t (day_value line d))) (on_is _ undecided d opens low) (on_is _ left d going.are_left low)
        ∙ ap (λ b. (on days d && not (list_any (p d) xs)) || ((on days d && not (list_any (p d) (take i xs))) && b)) (value d low)
        ∙ either_way (on days d) (list_any (p d) xs) (list_any (p d) (take i xs)) (p d x)) here));
  }

  pub going_end : (i : ℕ) (left : List (ℕ × Bool)) (f g : Found) → take i xs ≡ xs → IsGoing i left f g → Adds (on days) (λ d. first_or_all (p d) (u d) xs) f g
  going_end i left f g all going = adds_same (on days) _ _ f g (λ d _ _. ap (picks (p d) (u d) (not (list_any (p d) xs)) false) all ∙ picks_are (p d) (u d) xs) going.adds

-- rows, one behind the other
module _ (s : Shape) (l : Look) where
  chosen_behind : (v : Value) (us rest more : List Use) (b : Bool) (later : List Use) → rest ≡ more ++ cond b later [] → after_cond v us rest ≡ after_cond v us more ++ cond (is_false v && b) later []
  chosen_behind (Truth true) us rest more b later e = sym (append-nil us)
  chosen_behind (Truth false) us rest more b later e = e
  chosen_behind Unknown us rest more b later e = refl
  chosen_behind Uncertain us rest more b later e = refl
  chosen_behind (Num n) us rest more b later e = refl
  chosen_behind (Words t) us rest more b later e = refl
  chosen_behind (Day k) us rest more b later e = refl

  pub rows_behind : (rs ss : List Row) (last : Uses) (enclosing : List InstanceId) (d : ℕ) → rows_uses s l (rs ++ ss) last enclosing d ≡ rows_uses s l rs (none s l) enclosing d ++ cond (all_false s l rs enclosing d) (rows_uses s l ss last enclosing d) []
  rows_behind [] ss last enclosing d = refl
  rows_behind (r ∷ rs) ss last enclosing d =
      ap (λ us. uses s l r.cond enclosing d ++ us) (chosen_behind (value s l r.cond enclosing d) (uses s l r.value enclosing d) _ _ (all_false s l rs enclosing d) (rows_uses s l ss last enclosing d) (rows_behind rs ss last enclosing d))
      ∙ sym (append_assoc (uses s l r.cond enclosing d) _ _)

  false_behind : (rs : List Row) (r : Row) (enclosing : List InstanceId) (d : ℕ) → all_false s l (rs ++ r ∷ []) enclosing d ≡ (all_false s l rs enclosing d && is_false (value s l r.cond enclosing d))
  false_behind [] r enclosing d = and_true (is_false (value s l r.cond enclosing d))
    where
      and_true : (b : Bool) → (b && true) ≡ b
      and_true true = refl
      and_true false = refl
  false_behind (q ∷ rs) r enclosing d = ap (λ b. is_false (value s l q.cond enclosing d) && b) (false_behind rs r enclosing d) ∙ assoc (is_false (value s l q.cond enclosing d)) (all_false s l rs enclosing d) _
    where
      assoc : (a b c : Bool) → (a && (b && c)) ≡ ((a && b) && c)
      assoc true b c = refl
      assoc false b c = refl

  taken : (v : Value) (us : List Use) → after_cond v us [] ≡ cond (is_true v) us []
  taken (Truth true) us = refl
  taken (Truth false) us = refl
  taken Unknown us = refl
  taken Uncertain us = refl
  taken (Num n) us = refl
  taken (Words t) us = refl
  taken (Day k) us = refl

  within_both : (a t : Bool) (us vs : List Use) → cond a us [] ++ cond (a && t) vs [] ≡ cond a (us ++ cond t vs []) []
  within_both true t us vs = refl
  within_both false t us vs = refl

  pub rows_start : (enclosing : List InstanceId) (days rest : List (ℕ × Bool)) (f : Found) → StandsFor DAYS (λ d. on days d && on days d) rest → AddsRows s l [] enclosing days f f rest
  rows_start enclosing days rest f h = record { adds = adds_nothing (on days) f; left = λ d low. h d low ∙ ap Some (twice (on days d)) }

  pub rows_step : (rs : List Row) (i : ℕ) (r : Row) (enclosing : List InstanceId) (days rest taken_days rest' : List (ℕ × Bool)) (line : List (ℕ × Value)) (f g h k : Found) → i < length rs → r ≡ get_or rs i r
      → AddsRows s l (take i rs) enclosing days f g rest → Adds (on rest) (uses s l r.cond enclosing) g h → StandsFor DAYS (value s l r.cond enclosing) line
      → StandsFor DAYS (λ d. on rest d && is_truth true (day_value line d)) taken_days → Adds (on taken_days) (uses s l r.value enclosing) h k → StandsFor DAYS (λ d. on rest d && is_truth false (day_value line d)) rest'
      → AddsRows s l (take (i + 1) rs) enclosing days f k rest'
  rows_step rs i r enclosing days rest taken_days rest' line f g h k lt is before conds lines takes values lefts = record {
    adds = adds_same (on days) _ _ f k
        (λ d _ _.
        ap (λ us. rows_uses s l (take i rs) (none s l) enclosing d ++ us) (within_both (all_false s l (take i rs) enclosing d) (is_true (value s l r.cond enclosing d)) (uses s l r.cond enclosing d) (uses s l r.value enclosing d)
        ∙ ap (λ us. cond (all_false s l (take i rs) enclosing d) (uses s l r.cond enclosing d ++ us) []) (sym (taken (value s l r.cond enclosing d) (uses s l r.value enclosing d))))
        ∙ sym (rows_behind (take i rs) (r ∷ []) (none s l) enclosing d) ∙ ap (λ qs. rows_uses s l qs (none s l) enclosing d) (sym (next_item rs i r lt is)))
        (adds_both (on days) _ _ f g k before.adds
        (adds_both (on days) _ _ g h k
        (adds_where (on days) (λ d. all_false s l (take i rs) enclosing d) (on rest) (uses s l r.cond enclosing) g h (λ d low. on_is _ rest d before.left low) conds)
        (adds_where (on days) (λ d. all_false s l (take i rs) enclosing d && is_true (value s l r.cond enclosing d)) (on taken_days) (uses s l r.value enclosing) h k
        (λ d low. on_is _ taken_days d takes low ∙ ap₂ (λ a b. a && b) (on_is _ rest d before.left low) (ap is_true (line_at _ line d lines low)) ∙ assoc (on days d) (all_false s l (take i rs) enclosing d) (is_true (value s l r.cond enclosing d))) values)));
    left = λ d low. lefts d low ∙ ap Some
        (ap₂ (λ a b. a && b) (on_is _ rest d before.left low) (ap is_false (line_at _ line d lines low)) ∙ assoc (on days d) (all_false s l (take i rs) enclosing d) (is_false (value s l r.cond enclosing d))
        ∙ ap (λ b. on days d && b) (sym (false_behind (take i rs) r enclosing d) ∙ ap (λ qs. all_false s l qs enclosing d) (sym (next_item rs i r lt is))));
  }
    where
      assoc : (a b c : Bool) → ((a && b) && c) ≡ (a && (b && c))
      assoc true b c = refl
      assoc false b c = refl

  pub rows_end : (rs : List Row) (last : Uses) (enclosing : List InstanceId) (days rest : List (ℕ × Bool)) (f g h : Found) → AddsRows s l rs enclosing days f g rest → Adds (on rest) (last enclosing) g h → Adds (on days) (rows_uses s l rs last enclosing) f h
  rows_end rs last enclosing days rest f g h rows lasts =
      adds_same (on days) _ _ f h (λ d _ _. sym (rows_behind rs [] last enclosing d) ∙ ap (λ qs. rows_uses s l qs last enclosing d) (append-nil rs))
      (adds_both (on days) _ _ f g h rows.adds (adds_where (on days) (λ d. all_false s l rs enclosing d) (on rest) (last enclosing) g h (λ d low. on_is _ rest d rows.left low) lasts))
