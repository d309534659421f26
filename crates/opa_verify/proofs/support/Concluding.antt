-- When a line of a report is held up by what rules conclude.
use Rattle.std.proofs.Common.{◌≡◌, ◌↔◌, ℕ, ◌+◌, ◌<◌, ◌≤◌, List, [], ◌∷◌, ◌++◌, Bool, true, false, cond, IsTrue, Option, None, Some, Contains, refl, sym, ◌∙◌, ap, subst, take, length, arith}
use Rattle.std.specs.Prelude.{slice_get}
use Rattle.std.specs.FinMap.{FinMap, get, insert, get-insert}
use Rattle.std.specs.Option.{option_map}
use Rattle.std.specs.Ordering.{eq_by_cmp}
use Rattle.std.proofs.lemmas.Map.Views.{tells_apart}
use Rattle.std.proofs.lemmas.Option.{same_Some}
use Rattle.opa_date.specs.declared.TheConstants.{DAYS}
use Rattle.opa_value.specs.declared.value.Value.{Value}
use Rattle.opa_value.specs.Fit.{fit_of}
use Rattle.opa_line.specs.Lines.{StandsFor}
use Rattle.opa_model.specs.declared.ids.AttrId.{AttrId}
use Rattle.opa_model.specs.declared.ids.RelId.{RelId}
use Rattle.opa_case.specs.Live.{Names}
use Rattle.opa_cells.specs.declared.instance.InstanceId.{InstanceId}
use Rattle.opa_cells.specs.Keys.{cell_cmp}
use Rattle.opa_cells.proofs.Orders.{cell_total, cell_exact}
use Rattle.opa_tree.specs.declared.rules.Rule.{Rule}
use Rattle.opa_tree.specs.Rules.{rule_of}
use Rattle.opa_mean.specs.Mean.{Base, is_money}
use Rattle.opa_report.specs.declared.lines.ReportLine.{ReportLine}
use Rattle.opa_report.specs.declared.lines.ReportLine.TheVariants as line
use Rattle.opa_report.specs.Promises.{HaveDays}
use Rattle.opa_verify.specs.Listed.Listings.{Listing}
use Rattle.opa_verify.specs.declared.listed.shade.Shade.{Shade}
use Rattle.opa_verify.specs.Listed.Shades.{there}
use Rattle.opa_verify.specs.Listed.Steady.{IsConcludedOn, IsSteady}
use Rattle.opa_verify.proofs.listed.HoldingUp.{steady_holds}
use Rattle.opa_verify.specs.Listed.Ways.{is_rooted}
use Rattle.opa_verify.specs.Support.Faults.{IsFirstFault, concluded_shade, AreKept}
use Rattle.opa_verify.specs.Support.Proofs.{IsConcluded, IsHeldUp, AreHeldUp}
use Rattle.opa_verify.specs.Support.Told.{listing_of}

abbrev pub ShadeMap : Type 0
ShadeMap = FinMap cell_cmp (List (ℕ × Shade))

-- ---- lines that are kept

pub none_kept : (b : Base) (k : Listing) (kept : ShadeMap) → ((j : ℕ × InstanceId) → get kept j ≡ None) → AreKept b k kept
none_kept b k kept none a i rule l e g = absurd (cc (none (a.0, i), g))

pub one_kept : (b : Base) (k : Listing) (old new : ShadeMap) (a : AttrId) (i : InstanceId) (rule : Rule) (l : List (ℕ × Shade)) → rule_of b.rules a ≡ Some rule → StandsFor DAYS (concluded_shade b k rule a i) l
    → AreKept b k old → new ≡ insert old (a.0, i) l → AreKept b k new
one_kept b k old new a i rule l e stands kept is c j r m q g = go (eq_by_cmp cell_cmp (c.0, j) (a.0, i)) refl (sym (get-insert cell_total old (a.0, i) l (c.0, j)) ∙ sym (ap (λ n. get n (c.0, j)) is) ∙ g)
  where
    go : (t : Bool) → eq_by_cmp cell_cmp (c.0, j) (a.0, i) ≡ t → cond (eq_by_cmp cell_cmp (c.0, j) (a.0, i)) (Some l) (get old (c.0, j)) ≡ Some m → StandsFor DAYS (concluded_shade b k r c j) m
    go false x h = kept c j r m q (sym (ap (λ t. cond t (Some l) (get old (c.0, j))) x) ∙ h)
    go true x h =
        let one = tells_apart cell_exact (c.0, j) (a.0, i) x in
        let attr : c ≡ a = ap (λ (k : ℕ × InstanceId). let y : AttrId = record { 0 = k.0 } in y) one in
        let inst : j ≡ i = ap (λ (k : ℕ × InstanceId). k.1) one in
        let line : l ≡ m = same_Some l m (sym (ap (λ t. cond t (Some l) (get old (c.0, j))) x) ∙ h) in
        let rules : r ≡ rule = same_Some r rule (sym q ∙ ap (rule_of b.rules) attr ∙ e) in
        subst (λ (n : List (ℕ × Shade)). StandsFor DAYS (concluded_shade b k r c j) n) line
        (subst (λ (y : Rule). StandsFor DAYS (concluded_shade b k y c j) l) (sym rules)
        (subst (λ (y : AttrId). StandsFor DAYS (concluded_shade b k rule y j) l) (sym attr)
        (subst (λ (y : InstanceId). StandsFor DAYS (concluded_shade b k rule a y) l) (sym inst) stands)))

-- what is kept tells whether a value is concluded on days
pub concluded_holds : (b : Base) (k : Listing) (kept : ShadeMap) (a : AttrId) (i : InstanceId) (rule : Rule) (l : List (ℕ × Shade)) (s t : ℕ) (v : Value) (h : Shade) (x : Bool) → rule_of b.rules a ≡ Some rule → AreKept b k kept → get kept (a.0, i) ≡ Some l
    → t < DAYS → h ≡ there v → (IsTrue x ↔ IsSteady l s t h) → IsTrue x ↔ IsConcludedOn b.shape k (is_money (b.shape.attribute a).kind) rule.expr (i ∷ []) s t v
concluded_holds b k kept a i rule l s t v h x e are g within is tells = steady_holds b.shape k (is_money (b.shape.attribute a).kind) rule.expr (i ∷ []) s t v l h x within is (are a i rule l e g) tells

-- ---- a line that is held up

pub unrooted : (b : Base) (k : Listing) (a : AttrId) (i : InstanceId) (s t : ℕ) (v : Value) → is_rooted k.container i ≡ false → IsTrue false ↔ IsHeldUp b k (line.Point a i s t v)
unrooted b k a i s t v e = (λ h. absurd (cc h), λ h. absurd (cc (e, h.0)))

pub unruled : (b : Base) (k : Listing) (a : AttrId) (i : InstanceId) (s t : ℕ) (v : Value) → is_rooted k.container i ≡ true → rule_of b.rules a ≡ None → IsTrue true ↔ IsHeldUp b k (line.Point a i s t v)
unruled b k a i s t v e none = (λ _. (e, λ d _ _. subst (λ (o : Option Rule). IsConcluded b k o a i d v) (sym none) tt), λ _. refl)

pub ruled : (b : Base) (k : Listing) (a : AttrId) (i : InstanceId) (s t : ℕ) (v : Value) (rule : Rule) (x : Bool) → is_rooted k.container i ≡ true → rule_of b.rules a ≡ Some rule
    → (IsTrue x ↔ IsConcludedOn b.shape k (is_money (b.shape.attribute a).kind) rule.expr (i ∷ []) s t v) → IsTrue x ↔ IsHeldUp b k (line.Point a i s t v)
ruled b k a i s t v rule x e is tells = (
  λ yes. (e, λ d after until. subst (λ (o : Option Rule). IsConcluded b k o a i d v) (sym is) (tells.0 yes d after until)),
  λ held. tells.1 (λ d after until. subst (λ (o : Option Rule). IsConcluded b k o a i d v) is (held.1 d after until)),
)

pub rooted : (b : Base) (k : Listing) (q : RelId) (i : InstanceId) (names : Option Names) (x : Bool) → x ≡ is_rooted k.container i → IsTrue x ↔ IsHeldUp b k (line.Members q i names)
rooted b k q i names x e = (λ yes. sym e ∙ yes, λ held. e ∙ held)
