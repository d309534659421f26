-- Functions over time by the number of their operands.
use Rattle.std.proofs.Common.{◌≡◌, ℕ, ◌<◌, ◌≤◌, List, [], ◌∷◌, true, Some, length, get_or, refl, sym, ◌∙◌, ap, arith}
use Rattle.std.specs.Prelude.{map, ◌||◌}
use Rattle.opa_date.specs.declared.TheConstants.{DAYS}
use Rattle.opa_value.specs.declared.value.Value.{Value}
use Rattle.opa_value.specs.declared.value.Value.TheVariants.{Uncertain, Bool as Truth}
use Rattle.opa_value.specs.Truth.{is_true, all_of, any_of, strict}
use Rattle.opa_line.specs.Lines.{StandsFor}
use Rattle.opa_cells.specs.declared.instance.InstanceId.{InstanceId}
use Rattle.opa_tree.specs.declared.kinds.WinKind.{WinKind}
use Rattle.opa_tree.specs.declared.kinds.WinKind.TheVariants as win
use Rattle.opa_window.specs.Folds.{sum_value, greatest, least, run_value}
use Rattle.opa_window.specs.Windows.{before, on_or_after, years_since, value_at, in_window, interval_sometimes}
use Rattle.opa_mean.specs.Spans.{has_span, span_fold}
use Rattle.opa_verify.specs.declared.listed.shade.Shade.{Shade}
use Rattle.opa_verify.specs.Listed.Shades.{Shading, there, mapped, values_on, gaps_on, span_shade, date_shade, window_shade}
use Rattle.opa_verify.specs.Listed.ShadeLines.{ShadeLine, shade_at, shades_at, shading_of}
use Rattle.opa_verify.proofs.listed.WindowLaws.{in_window_alike, value_at_alike}

pub three_are : {X : Type 0} (ts : List X) (a b x : X) → 3 ≤ length ts → length ts < 4 → a ≡ get_or ts 0 a → b ≡ get_or ts 1 b → x ≡ get_or ts 2 x → ts ≡ a ∷ b ∷ x ∷ []
three_are [] a b x low high = absurd (omega (arith, low))
three_are (t ∷ []) a b x low high = absurd (omega (arith, low))
three_are (t ∷ u ∷ []) a b x low high = absurd (omega (arith, low))
three_are (t ∷ u ∷ v ∷ []) a b x low high = λ ea eb ex. ap (λ y. y ∷ u ∷ v ∷ []) (sym ea) ∙ ap (λ y. a ∷ y ∷ v ∷ []) (sym eb) ∙ ap (λ y. a ∷ b ∷ y ∷ []) (sym ex)
three_are (t ∷ u ∷ v ∷ w ∷ ts) a b x low high = absurd (omega (arith, high))

span_is : (w : WinKind) → has_span w ≡ true → (a b x : Shading) (enclosing : List InstanceId) (d : ℕ) → span_shade (span_fold w) (x enclosing) (a enclosing d) (b enclosing d) ≡ window_shade w (a ∷ b ∷ x ∷ []) enclosing d
span_is win.Always e a b x enclosing d = refl
span_is win.Sometimes e a b x enclosing d = refl
span_is win.DailySum e a b x enclosing d = refl
span_is win.Maximum e a b x enclosing d = refl
span_is win.Minimum e a b x enclosing d = refl
span_is win.ConsecutiveDays e a b x enclosing d = refl
span_is _ e a b x enclosing d = absurd (cc e)

pub span_window : (w : WinKind) → has_span w ≡ true → (ls : List ShadeLine) (a b x l : ShadeLine) → ls ≡ a ∷ b ∷ x ∷ [] → StandsFor DAYS (λ d. span_shade (span_fold w) (shade_at x) (shade_at a d) (shade_at b d)) l → StandsFor DAYS (window_shade w (map shading_of ls) []) l
span_window w e ls a b x l is h d lt = h d lt ∙ ap Some (span_is w e (shading_of a) (shading_of b) (shading_of x) [] d ∙ sym (ap (λ ls. window_shade w (map shading_of ls) [] d) is))

pub more_is : (w : WinKind) (a b c e : Shading) (ms : List Shading) (enclosing : List InstanceId) (d : ℕ) → there Uncertain ≡ window_shade w (a ∷ b ∷ c ∷ e ∷ ms) enclosing d
more_is win.Before a b c e ms enclosing d = refl
more_is _ a b c e ms enclosing d = refl

none_is : (w : WinKind) (enclosing : List InstanceId) (d : ℕ) → there Uncertain ≡ window_shade w [] enclosing d
none_is win.Before enclosing d = refl
none_is _ enclosing d = refl

pub other_window : (w : WinKind) (ls : List ShadeLine) (l : ShadeLine) → (length ls ≡ 1 → ⊥) → (length ls ≡ 2 → ⊥) → (length ls ≡ 3 → ⊥) → StandsFor DAYS (λ d. there Uncertain) l → StandsFor DAYS (window_shade w (map shading_of ls) []) l
other_window w [] l one two three h = λ d lt. h d lt ∙ ap Some (none_is w [] d)
other_window w (a ∷ []) l one two three h = absurd (one refl)
other_window w (a ∷ b ∷ []) l one two three h = absurd (two refl)
other_window w (a ∷ b ∷ c ∷ []) l one two three h = absurd (three refl)
other_window w (a ∷ b ∷ c ∷ e ∷ ls) l one two three h = λ d lt. h d lt ∙ ap Some (more_is w (shading_of a) (shading_of b) (shading_of c) (shading_of e) (map shading_of ls) [] d)

-- shadings that agree on the days of the calendar
abbrev pub Agree : List InstanceId → Shading → Shading → Type 0
Agree enclosing m n = (d : ℕ) → d < DAYS → m [] d ≡ n enclosing d

abbrev pub AllAgree : List InstanceId → List Shading → List Shading → Type 0
AllAgree enclosing [] [] = Unit {0}
AllAgree enclosing [] (n ∷ ns) = ⊥
AllAgree enclosing (m ∷ ms) [] = ⊥
AllAgree enclosing (m ∷ ms) (n ∷ ns) = Agree enclosing m n × AllAgree enclosing ms ns

module _ (enclosing : List InstanceId) where
  values : (m n : Shading) → Agree enclosing m n → (d : ℕ) → d < DAYS → values_on (m []) d ≡ values_on (n enclosing) d
  values m n h d lt = ap (λ (x : Shade). x.value) (h d lt)

  gaps : (m n : Shading) → Agree enclosing m n → (d : ℕ) → d < DAYS → gaps_on (m []) d ≡ gaps_on (n enclosing) d
  gaps m n h d lt = ap (λ (x : Shade). Truth x.missing) (h d lt)

  span_alike : (fold : List Value → Value) (m n : Shading) → Agree enclosing m n → (a b : Shade) → span_shade fold (m []) a b ≡ span_shade fold (n enclosing) a b
  span_alike fold m n h a b =
      ap (λ v. let x : Shade = record { value = v; missing = a.missing || b.missing || is_true (interval_sometimes (gaps_on (m [])) a.value b.value) } in x) (in_window_alike fold (values_on (m [])) (values_on (n enclosing)) (values m n h) a.value b.value)
      ∙ ap (λ g. let x : Shade = record { value = in_window fold (values_on (n enclosing)) a.value b.value; missing = a.missing || b.missing || is_true g } in x) (in_window_alike any_of (gaps_on (m [])) (gaps_on (n enclosing)) (gaps m n h) a.value b.value)

  date_alike : (m n : Shading) → Agree enclosing m n → (a : Shade) → date_shade (m []) a ≡ date_shade (n enclosing) a
  date_alike m n h a =
      ap (λ v. let x : Shade = record { value = v; missing = a.missing || is_true (value_at (gaps_on (m [])) a.value) } in x) (value_at_alike (values_on (m [])) (values_on (n enclosing)) (values m n h) a.value)
      ∙ ap (λ g. let x : Shade = record { value = value_at (values_on (n enclosing)) a.value; missing = a.missing || is_true g } in x) (value_at_alike (gaps_on (m [])) (gaps_on (n enclosing)) (gaps m n h) a.value)

  -- from the first date on and below the second
  spans_alike : (fold : List Value → Value) (a b x a' b' x' : Shading) → Agree enclosing a a' → Agree enclosing b b' → Agree enclosing x x' → (d : ℕ) → d < DAYS → span_shade fold (x []) (a [] d) (b [] d) ≡ span_shade fold (x' enclosing) (a' enclosing d) (b' enclosing d)
  spans_alike fold a b x a' b' x' ha hb hx d lt =
      ap (λ y. span_shade fold (x []) y (b [] d)) (ha d lt) ∙ ap (span_shade fold (x []) (a' enclosing d)) (hb d lt) ∙ span_alike fold x x' hx (a' enclosing d) (b' enclosing d)

  window_alike : (w : WinKind) (ms ns : List Shading) → AllAgree enclosing ms ns → (d : ℕ) → d < DAYS → window_shade w ms [] d ≡ window_shade w ns enclosing d
  window_alike win.Before (m ∷ []) (n ∷ []) h d lt = ap (mapped (λ v. before v d)) (h.0 d lt)
  window_alike win.OnOrAfter (m ∷ []) (n ∷ []) h d lt = ap (mapped (λ v. on_or_after v d)) (h.0 d lt)
  window_alike win.YearsSince (m ∷ []) (n ∷ []) h d lt = ap (mapped (λ v. years_since v d)) (h.0 d lt)
  window_alike win.ValueAt (m ∷ x ∷ []) (n ∷ y ∷ []) h d lt = ap (date_shade (x [])) (h.0 d lt) ∙ date_alike x y h.1.0 (n enclosing d)
  window_alike win.Always (a ∷ b ∷ x ∷ []) (a' ∷ b' ∷ x' ∷ []) h d lt = spans_alike all_of a b x a' b' x' h.0 h.1.0 h.1.1.0 d lt
  window_alike win.Sometimes (a ∷ b ∷ x ∷ []) (a' ∷ b' ∷ x' ∷ []) h d lt = spans_alike any_of a b x a' b' x' h.0 h.1.0 h.1.1.0 d lt
  window_alike win.DailySum (a ∷ b ∷ x ∷ []) (a' ∷ b' ∷ x' ∷ []) h d lt = spans_alike (strict sum_value) a b x a' b' x' h.0 h.1.0 h.1.1.0 d lt
  window_alike win.Maximum (a ∷ b ∷ x ∷ []) (a' ∷ b' ∷ x' ∷ []) h d lt = spans_alike (strict greatest) a b x a' b' x' h.0 h.1.0 h.1.1.0 d lt
  window_alike win.Minimum (a ∷ b ∷ x ∷ []) (a' ∷ b' ∷ x' ∷ []) h d lt = spans_alike (strict least) a b x a' b' x' h.0 h.1.0 h.1.1.0 d lt
  window_alike win.ConsecutiveDays (a ∷ b ∷ x ∷ []) (a' ∷ b' ∷ x' ∷ []) h d lt = spans_alike (strict run_value) a b x a' b' x' h.0 h.1.0 h.1.1.0 d lt
  window_alike w [] (n ∷ ns) h d lt = absurd h
  window_alike w (m ∷ ms) [] h d lt = absurd h
  window_alike w (m ∷ []) (n ∷ n' ∷ ns) h d lt = absurd h.1
  window_alike w (m ∷ m' ∷ ms) (n ∷ []) h d lt = absurd h.1
  window_alike w (m ∷ m' ∷ []) (n ∷ n' ∷ x ∷ ns) h d lt = absurd h.1.1
  window_alike w (m ∷ m' ∷ x ∷ ms) (n ∷ n' ∷ []) h d lt = absurd h.1.1
  window_alike w (m ∷ m' ∷ x ∷ []) (n ∷ n' ∷ y ∷ z ∷ ns) h d lt = absurd h.1.1.1
  window_alike w (m ∷ m' ∷ x ∷ z ∷ ms) (n ∷ n' ∷ y ∷ []) h d lt = absurd h.1.1.1
  window_alike w _ _ h d lt = refl

  -- lines and shadings with the same shades
  pub lines_agree : (ls : List ShadeLine) (ms : List Shading) → ((d : ℕ) → d < DAYS → shades_at ls d ≡ map (λ m. m enclosing d) ms) → AllAgree enclosing (map shading_of ls) ms
  lines_agree [] [] h = tt
  lines_agree [] (m ∷ ms) h = absurd (cc (h 0 (omega arith)))
  lines_agree (l ∷ ls) [] h = absurd (cc (h 0 (omega arith)))
  lines_agree (l ∷ ls) (m ∷ ms) h = (λ d lt. cc (h d lt), lines_agree ls ms (λ d lt. cc (h d lt)))

  pub window_stands : (w : WinKind) (ls : List ShadeLine) (ms : List Shading) → ((d : ℕ) → d < DAYS → shades_at ls d ≡ map (λ m. m enclosing d) ms) → (d : ℕ) → d < DAYS → window_shade w (map shading_of ls) [] d ≡ window_shade w ms enclosing d
  window_stands w ls ms h d lt = window_alike w (map shading_of ls) ms (lines_agree ls ms h) d lt
