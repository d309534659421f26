-- The steps of each sort of tree stand for its needs.
use Rattle.std.proofs.Common.{◌≡◌, ℕ, ◌+◌, ◌-◌, Bool, List, [], ◌∷◌, Option, None, Some, Result, IfOk, sym, ◌∙◌, ap, subst}
use Rattle.std.specs.Prelude.{flat_map}
use Rattle.std.specs.List.{AllByRecursion}
use Rattle.opa_io.proofs.Lists.{each_weaker}
use Rattle.opa_value.specs.declared.value.Value.{Value}
use Rattle.opa_model.specs.declared.ids.AttrId.{AttrId}
use Rattle.opa_model.specs.declared.ids.RelId.{RelId}
use Rattle.opa_cells.specs.declared.instance.InstanceId.{InstanceId}
use Rattle.opa_cells.specs.Instances.{named}
use Rattle.opa_case.specs.Cases.{CaseView, IsLive, list_of}
use Rattle.opa_case.specs.Live.{container_of}
use Rattle.opa_case.specs.Shapes.{shape_of}
use Rattle.opa_tree.specs.declared.kinds.OpKind.{OpKind}
use Rattle.opa_tree.specs.declared.kinds.Quant.{Quant}
use Rattle.opa_tree.specs.declared.kinds.WinKind.{WinKind}
use Rattle.opa_tree.specs.declared.expr.Expr.{Expr}
use Rattle.opa_tree.specs.declared.expr.Expr.TheVariants as V
use Rattle.opa_tree.specs.declared.expr.Row.{Row}
use Rattle.opa_tree.specs.declared.rulebase.Rulebase.{Rulebase}
use Rattle.opa_mean.specs.Given.{base_of, facts_of}
use Rattle.opa_mean.specs.Needs.{asked, over_needs}
use Rattle.opa_mean.specs.Places.{owner_of, place}
use Rattle.opa_mean.specs.Rulebases.{IsOf}
use Rattle.opa_mean.specs.Uses.{Use, at_place_uses}
use Rattle.opa_mean.proofs.Chains.{place_live}
use Rattle.opa_mean.proofs.Completing.{above_live}
use Rattle.opa_mean.proofs.Fitting.{live_in, in_live}
use Rattle.opa_mean.proofs.LawsOver.{facts}
use Rattle.opa_mean.specs.Mean.{IsLive as IsLiveIn}
use Rattle.opa_mean.specs.PartNeeds as part
use Rattle.opa_need.specs.Steps.{StandFor, tree_needs, part_needs, point_needs, member_needs, span_needs, rows_needs, days_needs, quantifier_needs}
use Rattle.opa_need.specs.declared.steps.Step.{Step}
use Rattle.opa_mean.proofs.NeedsLaws as law
use Rattle.opa_need.proofs.OpeningLaws.{none_stand}

module _ (r : Rulebase) (c : CaseView) where
  abbrev up : InstanceId → Option InstanceId
  up = container_of c.live

  -- a place is live
  pub placed_live : IsOf r c → (enclosing : List InstanceId) → AllByRecursion (IsLive c) enclosing → (e : ℕ) (i : InstanceId) → Some i ≡ place (container_of c.live) enclosing e → IsLive c i
  placed_live is enclosing live e i h =
      in_live c i (place_live (facts_of c).container (IsLiveIn (facts_of c)) (above_live (shape_of r.model) (facts_of c) (facts r c is)) enclosing (each_weaker (IsLive c) (IsLiveIn (facts_of c)) (λ i h. live_in c i h) enclosing live) e i (sym h))

  -- what is listed is live
  pub listed_live : IsOf r c → (rel : RelId) (i : InstanceId) (names names' : List (List ℕ)) (t : ℕ) → Some names ≡ list_of c rel i → names' ≡ names → t ≡ (shape_of r.model).target rel → AllByRecursion (λ n. IsLive c (named t n)) names'
  listed_live is rel i names names' t e f g =
      subst (λ ns. AllByRecursion (λ n. IsLive c (named t n)) ns) (sym f) (subst (λ t. AllByRecursion (λ n. IsLive c (named t n)) names) (sym g)
      (each_weaker (λ n. IsLiveIn (facts_of c) (named ((shape_of r.model).target rel) n)) (λ n. IsLive c (named ((shape_of r.model).target rel) n)) (λ n h. in_live c (named ((shape_of r.model).target rel) n) h) names ((facts r c is).listed rel i names (sym e))))

  module _ (enclosing : List InstanceId) (d : ℕ) (e : Expr) where
    along : {E : Type 0} (o : Result (List Step) E) (us vs : List Use) → us ≡ vs → IfOk o (StandFor r c us) → IfOk o (StandFor r c vs)
    along o us vs same h = subst (λ ws. IfOk o (StandFor r c ws)) same h

    none_as : (steps : List Step) → steps ≡ [] → [] ≡ tree_needs r c e enclosing d → StandFor r c (tree_needs r c e enclosing d) steps
    none_as steps e same = subst (λ us. StandFor r c us steps) same (none_stand r c steps e)

    pub opens_const : (v : Value) (steps : List Step) → e ≡ V.Const v → steps ≡ [] → StandFor r c (tree_needs r c e enclosing d) steps
    opens_const v steps is f = none_as steps f (sym (ap (λ x. tree_needs r c x enclosing d) is ∙ law.needs-Const (shape_of r.model) (part.fresh_look (base_of r) (facts_of c)) (asked (shape_of r.model) (facts_of c).members) (part.point_needs (base_of r) (facts_of c)) v enclosing d))

    pub opens_known : (x : Expr) (steps : List Step) → e ≡ V.Known x → steps ≡ [] → StandFor r c (tree_needs r c e enclosing d) steps
    opens_known x steps is f = none_as steps f (sym (ap (λ x. tree_needs r c x enclosing d) is ∙ law.needs-Known (shape_of r.model) (part.fresh_look (base_of r) (facts_of c)) (asked (shape_of r.model) (facts_of c).members) (part.point_needs (base_of r) (facts_of c)) x enclosing d))

    attr_is : (a : AttrId) → e ≡ V.Attr a → (o : Option InstanceId) → o ≡ place (container_of c.live) enclosing (owner_of (shape_of r.model) a) → at_place_uses o (λ i. point_needs r c a i d) ≡ tree_needs r c e enclosing d
    attr_is a is o at = ap (λ o. at_place_uses o (λ i. point_needs r c a i d)) at
        ∙ sym (ap (λ x. tree_needs r c x enclosing d) is ∙ law.needs-Attr (shape_of r.model) (part.fresh_look (base_of r) (facts_of c)) (asked (shape_of r.model) (facts_of c).members) (part.point_needs (base_of r) (facts_of c)) a enclosing d)

    pub opens_no_attr : (a : AttrId) (steps : List Step) → e ≡ V.Attr a → None ≡ place (container_of c.live) enclosing (owner_of (shape_of r.model) a) → steps ≡ [] → StandFor r c (tree_needs r c e enclosing d) steps
    opens_no_attr a steps is at f = none_as steps f (attr_is a is None at)

    pub opens_attr : {E : Type 0} (o : Result (List Step) E) (a : AttrId) (i : InstanceId) → e ≡ V.Attr a → Some i ≡ place (container_of c.live) enclosing (owner_of (shape_of r.model) a) → IfOk o (StandFor r c (point_needs r c a i d)) → IfOk o (StandFor r c (tree_needs r c e enclosing d))
    opens_attr o a i is at h = along o (point_needs r c a i d) (tree_needs r c e enclosing d) (attr_is a is (Some i) at) h

    abbrev Parts : List Expr → List Use
    Parts es = flat_map (λ x. part_needs r c x enclosing d) es

    pub opens_all : {E : Type 0} (o : Result (List Step) E) (es es' : List Expr) → e ≡ V.All es → es' ≡ es → IfOk o (StandFor r c (flat_map (λ x. part_needs r c x enclosing d) es')) → IfOk o (StandFor r c (tree_needs r c e enclosing d))
    opens_all o es es' is same h = along o (flat_map (λ x. part_needs r c x enclosing d) es') (tree_needs r c e enclosing d) (ap Parts same ∙ sym (ap (λ x. tree_needs r c x enclosing d) is
        ∙ law.needs-All (shape_of r.model) (part.fresh_look (base_of r) (facts_of c)) (asked (shape_of r.model) (facts_of c).members) (part.point_needs (base_of r) (facts_of c)) es enclosing d)) h

    pub opens_any : {E : Type 0} (o : Result (List Step) E) (es es' : List Expr) → e ≡ V.Any es → es' ≡ es → IfOk o (StandFor r c (flat_map (λ x. part_needs r c x enclosing d) es')) → IfOk o (StandFor r c (tree_needs r c e enclosing d))
    opens_any o es es' is same h = along o (flat_map (λ x. part_needs r c x enclosing d) es') (tree_needs r c e enclosing d) (ap Parts same ∙ sym (ap (λ x. tree_needs r c x enclosing d) is
        ∙ law.needs-Any (shape_of r.model) (part.fresh_look (base_of r) (facts_of c)) (asked (shape_of r.model) (facts_of c).members) (part.point_needs (base_of r) (facts_of c)) es enclosing d)) h

    pub opens_op : {E : Type 0} (o : Result (List Step) E) (k : OpKind) (es es' : List Expr) → e ≡ V.Op k es → es' ≡ es → IfOk o (StandFor r c (flat_map (λ x. part_needs r c x enclosing d) es')) → IfOk o (StandFor r c (tree_needs r c e enclosing d))
    opens_op o k es es' is same h = along o (flat_map (λ x. part_needs r c x enclosing d) es') (tree_needs r c e enclosing d) (ap Parts same ∙ sym (ap (λ x. tree_needs r c x enclosing d) is
        ∙ law.needs-Op (shape_of r.model) (part.fresh_look (base_of r) (facts_of c)) (asked (shape_of r.model) (facts_of c).members) (part.point_needs (base_of r) (facts_of c)) k es enclosing d)) h

    pub opens_not : {E : Type 0} (o : Result (List Step) E) (x x' : Expr) → e ≡ V.Not x → x' ≡ x → IfOk o (StandFor r c (tree_needs r c x' enclosing d)) → IfOk o (StandFor r c (tree_needs r c e enclosing d))
    opens_not o x x' is same h = along o (tree_needs r c x' enclosing d) (tree_needs r c e enclosing d) (ap (λ y. tree_needs r c y enclosing d) same ∙ sym (ap (λ x. tree_needs r c x enclosing d) is
        ∙ law.needs-Not (shape_of r.model) (part.fresh_look (base_of r) (facts_of c)) (asked (shape_of r.model) (facts_of c).members) (part.point_needs (base_of r) (facts_of c)) x enclosing d)) h

    pub opens_certain : {E : Type 0} (o : Result (List Step) E) (x x' : Expr) → e ≡ V.Certain x → x' ≡ x → IfOk o (StandFor r c (tree_needs r c x' enclosing d)) → IfOk o (StandFor r c (tree_needs r c e enclosing d))
    opens_certain o x x' is same h = along o (tree_needs r c x' enclosing d) (tree_needs r c e enclosing d) (ap (λ y. tree_needs r c y enclosing d) same ∙ sym (ap (λ x. tree_needs r c x enclosing d) is
        ∙ law.needs-Certain (shape_of r.model) (part.fresh_look (base_of r) (facts_of c)) (asked (shape_of r.model) (facts_of c).members) (part.point_needs (base_of r) (facts_of c)) x enclosing d)) h

    pub opens_window : {E : Type 0} (o : Result (List Step) E) (k : WinKind) (es es' : List Expr) → e ≡ V.Window k es → es' ≡ es → IfOk o (StandFor r c (span_needs r c es' enclosing d)) → IfOk o (StandFor r c (tree_needs r c e enclosing d))
    opens_window o k es es' is same h = along o (span_needs r c es' enclosing d) (tree_needs r c e enclosing d) (ap (λ xs. span_needs r c xs enclosing d) same ∙ sym (ap (λ x. tree_needs r c x enclosing d) is
        ∙ law.needs-Window (shape_of r.model) (part.fresh_look (base_of r) (facts_of c)) (asked (shape_of r.model) (facts_of c).members) (part.point_needs (base_of r) (facts_of c)) k es enclosing d)) h

    pub opens_rolling : {E : Type 0} (o : Result (List Step) E) (b : Bool) (n first : ℕ) (x x' : Expr) → e ≡ V.Rolling b n x → x' ≡ x → first ≡ d + 1 - n → IfOk o (StandFor r c (days_needs r c x' enclosing first (d + 1))) → IfOk o (StandFor r c (tree_needs r c e enclosing d))
    opens_rolling o b n first x x' is same at h = along o (days_needs r c x' enclosing first (d + 1)) (tree_needs r c e enclosing d) (ap (λ y. days_needs r c y enclosing first (d + 1)) same ∙ ap (λ k. days_needs r c x enclosing k (d + 1)) at ∙ sym (ap (λ x. tree_needs r c x enclosing d) is
        ∙ law.needs-Rolling (shape_of r.model) (part.fresh_look (base_of r) (facts_of c)) (asked (shape_of r.model) (facts_of c).members) (part.point_needs (base_of r) (facts_of c)) b n x enclosing d)) h

    pub opens_table : {E : Type 0} (o : Result (List Step) E) (rows rows' : List Row) (x x' : Expr) → e ≡ V.Table rows x → rows' ≡ rows → x' ≡ x → IfOk o (StandFor r c (rows_needs r c rows' x' enclosing d)) → IfOk o (StandFor r c (tree_needs r c e enclosing d))
    opens_table o rows rows' x x' is same last h = along o (rows_needs r c rows' x' enclosing d) (tree_needs r c e enclosing d) (ap (λ rs. rows_needs r c rs x' enclosing d) same ∙ ap (λ y. rows_needs r c rows y enclosing d) last ∙ sym (ap (λ x. tree_needs r c x enclosing d) is
        ∙ law.needs-Table (shape_of r.model) (part.fresh_look (base_of r) (facts_of c)) (asked (shape_of r.model) (facts_of c).members) (part.point_needs (base_of r) (facts_of c)) rows x enclosing d)) h

    pub opens_over : {E : Type 0} (o : Result (List Step) E) (q : Quant) (rel : RelId) (es es' : List Expr) → e ≡ V.Over q rel es → es' ≡ es → IfOk o (StandFor r c (quantifier_needs r c q rel es' enclosing d)) → IfOk o (StandFor r c (tree_needs r c e enclosing d))
    opens_over o q rel es es' is same h = along o (quantifier_needs r c q rel es' enclosing d) (tree_needs r c e enclosing d) (ap (λ xs. quantifier_needs r c q rel xs enclosing d) same ∙ sym (ap (λ x. tree_needs r c x enclosing d) is
        ∙ law.needs-Over (shape_of r.model) (part.fresh_look (base_of r) (facts_of c)) (asked (shape_of r.model) (facts_of c).members) (part.point_needs (base_of r) (facts_of c)) q rel es enclosing d)) h

  module _ (enclosing : List InstanceId) (d : ℕ) where
    abbrev Members : Quant → RelId → List Expr → InstanceId → Option (List (List ℕ)) → List Use
    Members q rel es i m = over_needs (asked (shape_of r.model) (list_of c) rel i) (λ n. member_needs r c q es (named ((shape_of r.model).target rel) n ∷ enclosing) d) m

    over_is : (q : Quant) (rel : RelId) (es : List Expr) (o : Option InstanceId) → o ≡ place (container_of c.live) enclosing ((shape_of r.model).source rel)
        → at_place_uses o (λ i. Members q rel es i (list_of c rel i)) ≡ quantifier_needs r c q rel es enclosing d
    over_is q rel es o at = ap (λ o. at_place_uses o (λ i. Members q rel es i (list_of c rel i))) at

    pub over_nowhere : (q : Quant) (rel : RelId) (es : List Expr) (steps : List Step) → None ≡ place (container_of c.live) enclosing ((shape_of r.model).source rel) → steps ≡ [] → StandFor r c (quantifier_needs r c q rel es enclosing d) steps
    over_nowhere q rel es steps at f = subst (λ us. StandFor r c us steps) (over_is q rel es None at) (none_stand r c steps f)

    pub over_unlisted : {E : Type 0} (o : Result (List Step) E) (q : Quant) (rel : RelId) (es : List Expr) (i : InstanceId) → Some i ≡ place (container_of c.live) enclosing ((shape_of r.model).source rel) → None ≡ list_of c rel i
        → IfOk o (StandFor r c (asked (shape_of r.model) (list_of c) rel i ∷ [])) → IfOk o (StandFor r c (quantifier_needs r c q rel es enclosing d))
    over_unlisted o q rel es i at f h = subst (λ us. IfOk o (StandFor r c us)) (ap (λ m. Members q rel es i m) f ∙ over_is q rel es (Some i) at) h

    pub over_listed : {E : Type 0} (o : Result (List Step) E) (q : Quant) (rel : RelId) (es : List Expr) (i : InstanceId) (names names' : List (List ℕ)) (t : ℕ) → Some i ≡ place (container_of c.live) enclosing ((shape_of r.model).source rel) → Some names ≡ list_of c rel i
        → names' ≡ names → t ≡ (shape_of r.model).target rel
        → IfOk o (StandFor r c (flat_map (λ n. member_needs r c q es (named t n ∷ enclosing) d) names')) → IfOk o (StandFor r c (quantifier_needs r c q rel es enclosing d))
    over_listed o q rel es i names names' t at f g to h = subst (λ us. IfOk o (StandFor r c us))
        (ap (λ ns. flat_map (λ n. member_needs r c q es (named t n ∷ enclosing) d) ns) g ∙ ap (λ k. flat_map (λ n. member_needs r c q es (named k n ∷ enclosing) d) names) to
        ∙ ap (λ m. Members q rel es i m) f ∙ over_is q rel es (Some i) at) h
