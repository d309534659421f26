-- Days on which all that quantifiers, functions over time and tables need is found.
use Rattle.std.proofs.Common.{◌≡◌, ℕ, zero, suc, ◌+◌, ◌<◌, ◌≤◌, min, Bool, true, false, cond, List, [], ◌∷◌, ◌++◌, length, take, drop, get_or, None, Some, refl, sym, ◌∙◌, ap, subst, arith}
use Rattle.std.specs.Prelude.{flat_map, Result, IfOk}
use Rattle.std.specs.FinMap.{FinMap}
use Rattle.std.proofs.lemmas.List.{append-nil, take_all}
use Rattle.opa_io.proofs.Results.{if_ok_then}
use Rattle.opa_value.specs.declared.value.Value.{Value}
use Rattle.opa_value.specs.declared.value.Value.TheVariants.{Unknown, Bool as Truth}
use Rattle.opa_value.specs.Truth.{is_true, is_false, is_unknown}
use Rattle.opa_model.specs.declared.ids.RelId.{RelId}
use Rattle.opa_cells.specs.Instances.{named}
use Rattle.opa_cells.specs.Keys.{cell_cmp}
use Rattle.opa_cells.specs.declared.instance.InstanceId.{InstanceId}
use Rattle.opa_case.specs.Cases.{CaseView, list_of}
use Rattle.opa_case.specs.Live.{container_of}
use Rattle.opa_case.specs.Shapes.{shape_of}
use Rattle.opa_case.specs.declared.question.Question.{Question}
use Rattle.opa_tree.specs.declared.kinds.Quant.{Quant}
use Rattle.opa_tree.specs.declared.kinds.Quant.TheVariants as quant
use Rattle.opa_tree.specs.declared.kinds.WinKind.{WinKind}
use Rattle.opa_tree.specs.declared.expr.Expr.{Expr}
use Rattle.opa_tree.specs.declared.expr.Expr.TheVariants as V
use Rattle.opa_tree.specs.declared.expr.Row.{Row}
use Rattle.opa_tree.specs.declared.rulebase.Rulebase.{Rulebase}
use Rattle.opa_mean.specs.Given.{base_of, facts_of}
use Rattle.opa_mean.specs.Needs.{asked, cond_needs, over_needs}
use Rattle.opa_mean.specs.Places.{place}
use Rattle.opa_mean.specs.Uses.{Use, at_place_uses, on_date_uses, in_window_uses}
use Rattle.opa_mean.specs.PartNeeds as part
use Rattle.opa_mean.proofs.NeedsLaws as law
use Rattle.opa_need.specs.Finding.{AreFound}
use Rattle.opa_need.specs.Steps.{AreRuns, IsSettled, Settles, HasUntil, tree_needs, part_needs, part_value, member_needs, quantifier_needs, span_needs, rows_needs}
use Rattle.opa_need.specs.declared.runs.Run.{Run}
use Rattle.opa_need.proofs.OpeningLaws.{member_single}
use Rattle.opa_need.proofs.Settling.{settled_both, settled_steady, settled_while, settles_alike, settles_as, settles_always, settles_nothing}

-- a list that begins with one of two, or two of three
pub two_with : (es : List Expr) (x : Expr) → 2 ≤ length es → length es < 3 → x ≡ get_or es 0 x → es ≡ x ∷ get_or es 1 x ∷ []
two_with [] x low high e = absurd (omega (arith, low))
two_with (t ∷ []) x low high e = absurd (omega (arith, low))
two_with (t ∷ u ∷ []) x low high e = ap (λ z. z ∷ u ∷ []) (sym e)
two_with (t ∷ u ∷ v ∷ ts) x low high e = absurd (omega (arith, high))

pub three_with : (es : List Expr) (x y : Expr) → 3 ≤ length es → length es < 4 → x ≡ get_or es 0 x → y ≡ get_or es 1 y → es ≡ x ∷ y ∷ get_or es 2 x ∷ []
three_with [] x y low high e f = absurd (omega (arith, low))
three_with (t ∷ []) x y low high e f = absurd (omega (arith, low))
three_with (t ∷ u ∷ []) x y low high e f = absurd (omega (arith, low))
three_with (t ∷ u ∷ v ∷ []) x y low high e f = ap (λ z. z ∷ u ∷ v ∷ []) (sym e) ∙ ap (λ z. x ∷ z ∷ v ∷ []) (sym f)
three_with (t ∷ u ∷ v ∷ w ∷ ts) x y low high e f = absurd (omega (arith, high))

drop_row : (rows : List Row) (i : ℕ) (row : Row) → i < length rows → row ≡ get_or rows i row → drop i rows ≡ row ∷ drop (i + 1) rows
drop_row [] i row within is = absurd (omega (arith, within))
drop_row (x ∷ rows) zero row within is = ap (λ y. y ∷ rows) (sym is)
drop_row (x ∷ rows) (suc i) row within is = drop_row rows i row (omega (arith, within)) is ∙ ap (λ n. row ∷ drop n (x ∷ rows)) (let same : suc (i + 1) ≡ suc i + 1 = omega arith in same)

none_left : (rows : List Row) (i : ℕ) → length rows ≤ i → drop i rows ≡ []
none_left [] zero over = refl
none_left [] (suc i) over = refl
none_left (x ∷ rows) zero over = absurd (omega (arith, over))
none_left (x ∷ rows) (suc i) over = none_left rows i (omega (arith, over))

-- what a condition leaves
cond_true : (v : Value) (own us rest : List Use) → is_true v ≡ true → cond_needs v own us rest ≡ us
cond_true (Truth true) own us rest e = refl
cond_true (Truth false) own us rest e = absurd (cc e)
cond_true _ own us rest e = absurd (cc e)

cond_false : (v : Value) (own us rest : List Use) → is_false v ≡ true → cond_needs v own us rest ≡ rest
cond_false (Truth true) own us rest e = absurd (cc e)
cond_false (Truth false) own us rest e = refl
cond_false _ own us rest e = absurd (cc e)

cond_unknown : (v : Value) (own us rest : List Use) → is_unknown v ≡ true → cond_needs v own us rest ≡ own
cond_unknown Unknown own us rest e = refl
cond_unknown _ own us rest e = absurd (cc e)

cond_other : (v : Value) (own us rest : List Use) → is_true v ≡ false → is_unknown v ≡ false → is_false v ≡ false → cond_needs v own us rest ≡ []
cond_other (Truth true) own us rest e f g = absurd (cc e)
cond_other (Truth false) own us rest e f g = absurd (cc g)
cond_other Unknown own us rest e f g = absurd (cc f)
cond_other _ own us rest e f g = refl

module _ (r : Rulebase) (c : CaseView) where
  pub window_is : (e : Expr) (w : WinKind) (xs ys : List Expr) (es : List InstanceId) → e ≡ V.Window w xs → ys ≡ xs → (k : ℕ) → span_needs r c ys es k ≡ tree_needs r c e es k
  window_is e w xs ys es is same k = ap (λ zs. span_needs r c zs es k) same ∙ sym (ap (λ x. tree_needs r c x es k) is ∙ law.needs-Window (shape_of r.model) (part.fresh_look (base_of r) (facts_of c)) (asked (shape_of r.model) (facts_of c).members) (part.point_needs (base_of r) (facts_of c)) w xs es k)

  pub over_is : (e : Expr) (q : Quant) (rel : RelId) (xs ys : List Expr) (es : List InstanceId) → e ≡ V.Over q rel xs → ys ≡ xs → (k : ℕ) → quantifier_needs r c q rel ys es k ≡ tree_needs r c e es k
  over_is e q rel xs ys es is same k = ap (λ zs. quantifier_needs r c q rel zs es k) same ∙ sym (ap (λ x. tree_needs r c x es k) is ∙ law.needs-Over (shape_of r.model) (part.fresh_look (base_of r) (facts_of c)) (asked (shape_of r.model) (facts_of c).members) (part.point_needs (base_of r) (facts_of c)) q rel xs es k)

  pub table_is : (e : Expr) (rows rows' : List Row) (x y : Expr) (es : List InstanceId) → e ≡ V.Table rows x → rows' ≡ rows → y ≡ x → (k : ℕ) → rows_needs r c rows' y es k ≡ tree_needs r c e es k
  table_is e rows rows' x y es is same last k = ap (λ rs. rows_needs r c rs y es k) same ∙ ap (λ z. rows_needs r c rows z es k) last ∙ sym (ap (λ x. tree_needs r c x es k) is ∙ law.needs-Table (shape_of r.model) (part.fresh_look (base_of r) (facts_of c)) (asked (shape_of r.model) (facts_of c).members) (part.point_needs (base_of r) (facts_of c)) rows x es k)

  -- while a test has one value
  tested_is : (number test : Expr) (es : List InstanceId) (d su : ℕ) (v : Value) (b : Bool) → HasUntil r c test es d su v → is_true v ≡ b → (k : ℕ) → d ≤ k → k < su
      → member_needs r c quant.SumIf (number ∷ test ∷ []) es k ≡ part_needs r c test es k ++ cond b (part_needs r c number es k) []
  tested_is number test es d su v b stays is k low high = ap (λ t. part_needs r c test es k ++ cond t (part_needs r c number es k) []) (ap is_true (stays k low high) ∙ is)

  -- on these days the rows that are left need what all rows do
  abbrev pub AreLeft : List Row → Expr → List InstanceId → ℕ → ℕ → ℕ → Type 0
  AreLeft rows last es i d least = (k : ℕ) → d ≤ k → k < least → rows_needs r c rows last es k ≡ rows_needs r c (drop i rows) last es k

  -- a row whose condition has one value
  row_is : (rows : List Row) (last : Expr) (es : List InstanceId) (i d old su least : ℕ) (row : Row) (v : Value) → i < length rows → row ≡ get_or rows i row → least ≡ min old su → HasUntil r c row.cond es d su v → AreLeft rows last es i d old
      → (k : ℕ) → d ≤ k → k < least → rows_needs r c rows last es k ≡ cond_needs v (tree_needs r c row.cond es k) (tree_needs r c row.value es k) (rows_needs r c (drop (i + 1) rows) last es k)
  row_is rows last es i d old su least row v within is e stays left k low high =
      left k low (omega (arith, e, high)) ∙ ap (λ rs. rows_needs r c rs last es k) (drop_row rows i row within is)
      ∙ ap (λ w. cond_needs w (tree_needs r c row.cond es k) (tree_needs r c row.value es k) (rows_needs r c (drop (i + 1) rows) last es k)) (stays k low (omega (arith, e, high)))

  pub row_false : (rows : List Row) (last : Expr) (es : List InstanceId) (i d old su least : ℕ) (row : Row) (v : Value) → i < length rows → row ≡ get_or rows i row → least ≡ min old su → HasUntil r c row.cond es d su v → is_false v ≡ true
      → AreLeft rows last es i d old → AreLeft rows last es (i + 1) d least
  row_false rows last es i d old su least row v within is e stays f left k low high = row_is rows last es i d old su least row v within is e stays left k low high ∙ cond_false v (tree_needs r c row.cond es k) (tree_needs r c row.value es k) (rows_needs r c (drop (i + 1) rows) last es k) f

  module _ (found : List Question) (runs : FinMap cell_cmp (List Run)) where
    -- a quantifier without a place, with an unknown list, and with a known one
    pub over_nowhere_settles : (q : Quant) (rel : RelId) (xs : List Expr) (es : List InstanceId) (d until : ℕ) → None ≡ place (container_of c.live) es ((shape_of r.model).source rel) → Settles r c found runs (quantifier_needs r c q rel xs es) d until
    over_nowhere_settles q rel xs es d until at = settles_nothing r c found runs (quantifier_needs r c q rel xs es) d until (λ k. sym (ap (λ o. at_place_uses o (λ i.
        over_needs (asked (shape_of r.model) (list_of c) rel i) (λ n. member_needs r c q xs (named ((shape_of r.model).target rel) n ∷ es) k) (list_of c rel i))) at))

    pub over_unlisted_settles : (q : Quant) (rel : RelId) (xs : List Expr) (es : List InstanceId) (i : InstanceId) (d until : ℕ) → Some i ≡ place (container_of c.live) es ((shape_of r.model).source rel) → None ≡ list_of c rel i → Settles r c found runs (quantifier_needs r c q rel xs es) d until
    over_unlisted_settles q rel xs es i d until at none = settles_always r c found runs (quantifier_needs r c q rel xs es) (asked (shape_of r.model) (list_of c) rel i ∷ []) d until (λ k. sym (
        ap (λ m. over_needs (asked (shape_of r.model) (list_of c) rel i) (λ n. member_needs r c q xs (named ((shape_of r.model).target rel) n ∷ es) k) m) none
        ∙ ap (λ o. at_place_uses o (λ i. over_needs (asked (shape_of r.model) (list_of c) rel i) (λ n. member_needs r c q xs (named ((shape_of r.model).target rel) n ∷ es) k) (list_of c rel i))) at))

    pub over_listed_settles : {E : Type 0} (o : Result ℕ E) (q : Quant) (rel : RelId) (xs : List Expr) (es : List InstanceId) (i : InstanceId) (names names' : List (List ℕ)) (t d : ℕ) → Some i ≡ place (container_of c.live) es ((shape_of r.model).source rel)
        → Some names ≡ list_of c rel i → names' ≡ names → t ≡ (shape_of r.model).target rel
        → IfOk o (Settles r c found runs (λ k. flat_map (λ n. member_needs r c q xs (named t n ∷ es) k) names') d) → IfOk o (Settles r c found runs (quantifier_needs r c q rel xs es) d)
    over_listed_settles o q rel xs es i names names' t d at listed same to h = settles_alike r c o found runs _ (quantifier_needs r c q rel xs es) d (λ k.
        ap (λ ns. flat_map (λ n. member_needs r c q xs (named t n ∷ es) k) ns) same ∙ ap (λ u. flat_map (λ n. member_needs r c q xs (named u n ∷ es) k) names) to
        ∙ ap (λ m. over_needs (asked (shape_of r.model) (list_of c) rel i) (λ n. member_needs r c q xs (named ((shape_of r.model).target rel) n ∷ es) k) m) listed
        ∙ ap (λ o. at_place_uses o (λ i. over_needs (asked (shape_of r.model) (list_of c) rel i) (λ n. member_needs r c q xs (named ((shape_of r.model).target rel) n ∷ es) k) (list_of c rel i))) at) h

    pub member_one_settles : {E : Type 0} (o : Result ℕ E) (q : Quant) (xs : List Expr) (x : Expr) (es : List InstanceId) (d : ℕ) → xs ≡ x ∷ [] → IfOk o (Settles r c found runs (part_needs r c x es) d) → IfOk o (Settles r c found runs (member_needs r c q xs es) d)
    member_one_settles o q xs x es d is h = settles_alike r c o found runs (part_needs r c x es) (member_needs r c q xs es) d (λ k. member_single r c q x es k ∙ ap (λ ys. member_needs r c q ys es k) (sym is)) h

    pub member_two_settles : (q : Quant) (xs : List Expr) (x y : Expr) (es : List InstanceId) (d until : ℕ) → xs ≡ x ∷ y ∷ [] → q ≡ quant.SumIf
        → Settles r c found runs (member_needs r c quant.SumIf (x ∷ y ∷ []) es) d until → Settles r c found runs (member_needs r c q xs es) d until
    member_two_settles q xs x y es d until is f h =
        settles_as r c found runs (member_needs r c quant.SumIf (x ∷ y ∷ []) es) (member_needs r c q xs es) d until (λ k. ap (λ k'. member_needs r c k' (x ∷ y ∷ []) es k) (sym f) ∙ ap (λ ys. member_needs r c q ys es k) (sym is)) h

    pub true_settles : (number test : Expr) (es : List InstanceId) (d su own least more until : ℕ) (v : Value) → HasUntil r c test es d su v → is_true v ≡ true → least ≡ min su own → until ≡ min least more
        → Settles r c found runs (part_needs r c test es) d own → Settles r c found runs (part_needs r c number es) d more → Settles r c found runs (member_needs r c quant.SumIf (number ∷ test ∷ []) es) d until
    true_settles number test es d su own least more until v stays is e f one two right =
        settled_while (member_needs r c quant.SumIf (number ∷ test ∷ []) es) (λ k. part_needs r c test es k ++ part_needs r c number es k) found d su (min own more) until (tested_is number test es d su v true stays is) (omega (arith, e, f))
        (settled_both (part_needs r c test es) (part_needs r c number es) found d own more (min own more) refl (one right) (two right))

    pub untrue_settles : (number test : Expr) (es : List InstanceId) (d su own least : ℕ) (v : Value) → HasUntil r c test es d su v → is_true v ≡ false → least ≡ min su own
        → Settles r c found runs (part_needs r c test es) d own → Settles r c found runs (member_needs r c quant.SumIf (number ∷ test ∷ []) es) d least
    untrue_settles number test es d su own least v stays is e one right =
        settled_while (member_needs r c quant.SumIf (number ∷ test ∷ []) es) (part_needs r c test es) found d su own least (λ k low high. tested_is number test es d su v false stays is k low high ∙ append-nil (part_needs r c test es k)) e (one right)

    pub date_settles : {E : Type 0} (o : Result ℕ E) (xs : List Expr) (x : Expr) (es : List InstanceId) (d : ℕ) → xs ≡ x ∷ [] → IfOk o (Settles r c found runs (part_needs r c x es) d) → IfOk o (Settles r c found runs (span_needs r c xs es) d)
    date_settles o xs x es d is h = settles_alike r c o found runs (part_needs r c x es) (span_needs r c xs es) d (λ k. ap (λ ys. span_needs r c ys es k) (sym is)) h

    -- while a date stays as it is, what is looked at there is the same
    pub at_settles : (xs : List Expr) (date x : Expr) (es : List InstanceId) (d own steady until : ℕ) → xs ≡ date ∷ x ∷ [] → until ≡ min own steady → Settles r c found runs (part_needs r c date es) d own
        → HasUntil r c date es d steady (part_value r c date es d) → Settles r c found runs (span_needs r c xs es) d until
    at_settles xs date x es d own steady until is e one stays = subst (λ ys. Settles r c found runs (span_needs r c ys es) d until) (sym is) (λ right.
        settled_both (part_needs r c date es) (λ k. on_date_uses (part_needs r c x es) (part_value r c date es k)) found d own steady until e (one right)
        (settled_steady (λ k. on_date_uses (part_needs r c x es) (part_value r c date es k)) found d steady (λ k low high. ap (on_date_uses (part_needs r c x es)) (stays k low high))))

    pub between_settles : (xs : List Expr) (start end x : Expr) (es : List InstanceId) (d own steady other still first last until : ℕ) → xs ≡ start ∷ end ∷ x ∷ [] → first ≡ min own steady → last ≡ min other still → until ≡ min first last
        → Settles r c found runs (part_needs r c start es) d own → HasUntil r c start es d steady (part_value r c start es d) → Settles r c found runs (part_needs r c end es) d other → HasUntil r c end es d still (part_value r c end es d)
        → Settles r c found runs (span_needs r c xs es) d until
    between_settles xs start end x es d own steady other still first last until is e f g one stays two lasts = subst (λ ys. Settles r c found runs (span_needs r c ys es) d until) (sym is) (λ right.
        settled_both (part_needs r c start es) (λ k. part_needs r c end es k ++ Window k) found d own (min other (min steady still)) until (omega (arith, e, f, g)) (one right)
        (settled_both (part_needs r c end es) Window found d other (min steady still) (min other (min steady still)) refl (two right)
        (settled_steady Window found d (min steady still) (λ k low high. ap (λ v. in_window_uses (part_needs r c x es) v (part_value r c end es k)) (stays k low (omega (arith, high)))
        ∙ ap (in_window_uses (part_needs r c x es) (part_value r c start es d)) (lasts k low (omega (arith, high)))))))
      where
        Window : ℕ → List Use
        Window k = in_window_uses (part_needs r c x es) (part_value r c start es k) (part_value r c end es k)

    pub row_true : (rows : List Row) (last : Expr) (es : List InstanceId) (i d old su least own until : ℕ) (row : Row) (v : Value) → i < length rows → row ≡ get_or rows i row → least ≡ min old su → HasUntil r c row.cond es d su v → is_true v ≡ true
        → until ≡ min least own → AreLeft rows last es i d old → Settles r c found runs (tree_needs r c row.value es) d own → Settles r c found runs (rows_needs r c rows last es) d until
    row_true rows last es i d old su least own until row v within is e stays f g left settles right =
        settled_while (rows_needs r c rows last es) (tree_needs r c row.value es) found d least own until (λ k low high. row_is rows last es i d old su least row v within is e stays left k low high ∙ cond_true v (tree_needs r c row.cond es k) (tree_needs r c row.value es k) (rows_needs r c (drop (i + 1) rows) last es k) f) g (settles right)

    pub row_unknown : (rows : List Row) (last : Expr) (es : List InstanceId) (i d old su least own until : ℕ) (row : Row) (v : Value) → i < length rows → row ≡ get_or rows i row → least ≡ min old su → HasUntil r c row.cond es d su v → is_unknown v ≡ true
        → until ≡ min least own → AreLeft rows last es i d old → Settles r c found runs (tree_needs r c row.cond es) d own → Settles r c found runs (rows_needs r c rows last es) d until
    row_unknown rows last es i d old su least own until row v within is e stays f g left settles right =
        settled_while (rows_needs r c rows last es) (tree_needs r c row.cond es) found d least own until (λ k low high. row_is rows last es i d old su least row v within is e stays left k low high ∙ cond_unknown v (tree_needs r c row.cond es k) (tree_needs r c row.value es k) (rows_needs r c (drop (i + 1) rows) last es k) f) g (settles right)

    pub row_other : (rows : List Row) (last : Expr) (es : List InstanceId) (i d old su least : ℕ) (row : Row) (v : Value) → i < length rows → row ≡ get_or rows i row → least ≡ min old su → HasUntil r c row.cond es d su v → is_true v ≡ false → is_unknown v ≡ false → is_false v ≡ false
        → AreLeft rows last es i d old → Settles r c found runs (rows_needs r c rows last es) d least
    row_other rows last es i d old su least row v within is e stays f g h left right there k low high =
        subst (AreFound found) (sym (row_is rows last es i d old su least row v within is e stays left k low high ∙ cond_other v (tree_needs r c row.cond es k) (tree_needs r c row.value es k) (rows_needs r c (drop (i + 1) rows) last es k) f g h)) tt

    pub rows_end : (rows : List Row) (last : Expr) (es : List InstanceId) (i d least after until : ℕ) → length rows ≤ i → until ≡ min least after → AreLeft rows last es i d least
        → Settles r c found runs (tree_needs r c last es) d after → Settles r c found runs (rows_needs r c rows last es) d until
    rows_end rows last es i d least after until over e left settles right =
        settled_while (rows_needs r c rows last es) (tree_needs r c last es) found d least after until (λ k low high. left k low high ∙ ap (λ rs. rows_needs r c rs last es k) (none_left rows i over)) e (settles right)

    pub table_settles : {E : Type 0} (o : Result ℕ E) (e : Expr) (rows rows' : List Row) (x y z : Expr) (es : List InstanceId) (d after : ℕ) → e ≡ V.Table rows x → rows' ≡ rows → y ≡ x → z ≡ x → Settles r c found runs (tree_needs r c y es) d after
        → IfOk o (λ until. Settles r c found runs (tree_needs r c z es) d after → Settles r c found runs (rows_needs r c rows' z es) d until) → IfOk o (Settles r c found runs (tree_needs r c e es) d)
    table_settles o e rows rows' x y z es d after is same last last' settles h = settles_alike r c o found runs (rows_needs r c rows' z es) (tree_needs r c e es) d (table_is e rows rows' x z es is same last')
        (if_ok_then (λ until. Settles r c found runs (tree_needs r c z es) d after → Settles r c found runs (rows_needs r c rows' z es) d until) (Settles r c found runs (rows_needs r c rows' z es) d) o
        (λ until own. own (subst (λ w. Settles r c found runs (tree_needs r c w es) d after) (last ∙ sym last') settles)) h)

    -- all are gone through
    pub all_settle : {X : Type 0} (f : X → ℕ → List Use) (xs : List X) (i d least : ℕ) → length xs ≤ i → (AreRuns r c found runs → AreFound found (flat_map (λ x. f x d) xs) → IsSettled (λ k. flat_map (λ x. f x k) (take i xs)) found d least)
        → Settles r c found runs (λ k. flat_map (λ x. f x k) xs) d least
    all_settle f xs i d least over h = subst (λ ys. AreRuns r c found runs → AreFound found (flat_map (λ x. f x d) xs) → IsSettled (λ k. flat_map (λ x. f x k) ys) found d least) (take_all i xs over) h
