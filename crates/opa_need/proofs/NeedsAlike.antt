-- What a tree is worth and what it needs depend on the enclosing instances only by the places of the entities that it mentions.
use Rattle.std.proofs.Common.{◌≡◌, ℕ, ◌<◌, ◌+◌, Bool, true, false, length, take, get_or, List, [], ◌∷◌, ◌++◌, map, cond, Option, None, Some, refl, sym, ◌∙◌, ap, subst}
use Rattle.std.specs.Prelude.{flat_map, if◌then◌else◌}
use Rattle.std.specs.List.{AllByRecursion}
use Rattle.std.proofs.Math.Path.{fun_ext}
use Rattle.std.proofs.lemmas.List.{take_more}
use Rattle.opa_value.specs.declared.value.Value.{Value}
use Rattle.opa_value.specs.declared.value.Value.TheVariants.{Uncertain}
use Rattle.opa_value.specs.Truth.{is_true, is_unknown, all_of, any_of, not_of, strict}
use Rattle.opa_model.specs.declared.ids.AttrId.{AttrId}
use Rattle.opa_model.specs.declared.ids.RelId.{RelId}
use Rattle.opa_cells.specs.Instances.{named}
use Rattle.opa_cells.specs.declared.instance.InstanceId.{InstanceId}
use Rattle.opa_case.specs.Cases.{CaseView}
use Rattle.opa_case.specs.Shapes.{Shape, shape_of}
use Rattle.opa_case.specs.declared.question.Question.{Question}
use Rattle.opa_tree.specs.declared.kinds.OpKind.{OpKind}
use Rattle.opa_tree.specs.declared.kinds.Quant.{Quant}
use Rattle.opa_tree.specs.declared.kinds.Quant.TheVariants as quant
use Rattle.opa_tree.specs.declared.kinds.WinKind.{WinKind}
use Rattle.opa_tree.specs.declared.expr.Expr.{Expr}
use Rattle.opa_tree.specs.declared.expr.Row.{Row}
use Rattle.opa_tree.specs.declared.expr.Expr.TheVariants as V
use Rattle.opa_tree.specs.declared.rulebase.Rulebase.{Rulebase}
use Rattle.opa_window.specs.Windows.{value_at, in_window}
use Rattle.opa_mean.specs.Given.{base_of, facts_of}
use Rattle.opa_mean.specs.Looks.{Look}
use Rattle.opa_mean.specs.Meaning.{each, at_place, certain_of, known_of, choose, item, quant_of, over, window, rolling, table, row_meaning}
use Rattle.opa_mean.specs.Needs.{asked, if_unknown, cond_needs, over_needs}
use Rattle.opa_mean.specs.Operations.{op_of}
use Rattle.opa_mean.specs.PartNeeds as part
use Rattle.opa_mean.specs.Places.{owner_of, place}
use Rattle.opa_mean.specs.Spans.{dated, has_span, span_fold}
use Rattle.opa_mean.specs.Uses.{Use, at_place_uses, on_date_uses, in_window_uses, last_days_uses}
use Rattle.opa_mean.proofs.Comparing.{follows_itself}
use Rattle.opa_mean.proofs.Everywhere.{all_append}
use Rattle.opa_mean.proofs.NeedsLaws.{needs-Const, needs-Attr, needs-All, needs-Any, needs-Not, needs-Op, needs-Certain, needs-Known, needs-Over, needs-Window, needs-Rolling, needs-Table}
use Rattle.opa_mean.proofs.Values.{each-map, is_value_at, window_none, window_one, window_two, window_three, window_more, value-Const, value-Attr, value-All, value-Any, value-Not, value-Op, value-Certain, value-Known, value-Over, value-Window, value-Rolling, value-Table}
use Rattle.opa_need.specs.Alike.{Seen, Follows, IsAlike, IsRowAlike, Agrees, AgreeEach, AgreeOver, AgreeRow, AgreeRows, HasSame}
use Rattle.opa_need.specs.Finding.{AreFound}
use Rattle.opa_need.specs.Steps.{part_value, tree_needs, part_needs, member_needs, span_needs, rows_needs}
use Rattle.opa_need.proofs.PlacesAlike.{follows_listed}

abbrev joined : Value → List Use → Seen
joined v us = (v, us)

paired : (v w : Value) (us vs : List Use) → v ≡ w → us ≡ vs → joined v us ≡ joined w vs
paired v w us vs h i = ap (λ u. joined u us) h ∙ ap (joined w) i

-- the needs of a part
abbrev own : Seen → List Use
own x = if_unknown x.0 x.1

module _ (r : Rulebase) (c : CaseView) where
  abbrev s : Shape
  s = shape_of r.model

  abbrev l : Look
  l = part.fresh_look (base_of r) (facts_of c)

  abbrev list_need : RelId → InstanceId → Use
  list_need = asked (shape_of r.model) (facts_of c).members

  abbrev at_point : AttrId → InstanceId → ℕ → List Use
  at_point = part.point_needs (base_of r) (facts_of c)

  module _ (x y : List InstanceId) where
    abbrev Each : List Expr → Type 0
    Each ts = AllByRecursion (IsAlike r c x y) ts

    abbrev Rows : List Row → Type 0
    Rows rows = AllByRecursion (IsRowAlike r c x y) rows

    alike : (t : Expr) → ((d : ℕ) → part_value r c t x d ≡ part_value r c t y d) → ((d : ℕ) → tree_needs r c t x d ≡ tree_needs r c t y d) → IsAlike r c x y t
    alike t h i = fun_ext (λ d. paired (part_value r c t x d) (part_value r c t y d) (tree_needs r c t x d) (tree_needs r c t y d) (h d) (i d))

    pub valued : (t : Expr) (d : ℕ) → IsAlike r c x y t → part_value r c t x d ≡ part_value r c t y d
    valued t d h = ap (λ (g : ℕ → Seen). (g d).0) h

    pub needed : (t : Expr) (d : ℕ) → IsAlike r c x y t → tree_needs r c t x d ≡ tree_needs r c t y d
    needed t d h = ap (λ (g : ℕ → Seen). (g d).1) h

    pub part_needed : (t : Expr) (d : ℕ) → IsAlike r c x y t → part_needs r c t x d ≡ part_needs r c t y d
    part_needed t d h = ap (λ (g : ℕ → Seen). own (g d)) h

    parts_valued : (ts : List Expr) (d : ℕ) → Each ts → map (λ t. part_value r c t x d) ts ≡ map (λ t. part_value r c t y d) ts
    parts_valued [] d h = refl
    parts_valued (t ∷ ts) d h = ap (λ v. v ∷ map (λ t. part_value r c t x d) ts) (valued t d h.0) ∙ ap (λ vs. part_value r c t y d ∷ vs) (parts_valued ts d h.1)

    parts_needed : (ts : List Expr) (d : ℕ) → Each ts → flat_map (λ t. part_needs r c t x d) ts ≡ flat_map (λ t. part_needs r c t y d) ts
    parts_needed [] d h = refl
    parts_needed (t ∷ ts) d h = ap (λ us. us ++ flat_map (λ t. part_needs r c t x d) ts) (part_needed t d h.0) ∙ ap (λ us. part_needs r c t y d ++ us) (parts_needed ts d h.1)

    pub alike_const : (v : Value) → IsAlike r c x y (V.Const v)
    alike_const v = alike (V.Const v)
        (λ d. value-Const s l v x d ∙ sym (value-Const s l v y d))
        (λ d. needs-Const s l list_need at_point v x d ∙ sym (needs-Const s l list_need at_point v y d))

    pub alike_attr : (a : AttrId) → HasSame r c x y (owner_of s a) → IsAlike r c x y (V.Attr a)
    alike_attr a h = alike (V.Attr a)
        (λ d. value-Attr s l a x d ∙ ap (λ p. at_place p (λ i. l.value a i d)) h ∙ sym (value-Attr s l a y d))
        (λ d. needs-Attr s l list_need at_point a x d ∙ ap (λ p. at_place_uses p (λ i. at_point a i d)) h ∙ sym (needs-Attr s l list_need at_point a y d))

    pub alike_all : (ts : List Expr) → Each ts → IsAlike r c x y (V.All ts)
    alike_all ts h = alike (V.All ts)
        (λ d. value-All s l ts x d ∙ ap all_of (parts_valued ts d h) ∙ sym (value-All s l ts y d))
        (λ d. needs-All s l list_need at_point ts x d ∙ parts_needed ts d h ∙ sym (needs-All s l list_need at_point ts y d))

    pub alike_any : (ts : List Expr) → Each ts → IsAlike r c x y (V.Any ts)
    alike_any ts h = alike (V.Any ts)
        (λ d. value-Any s l ts x d ∙ ap any_of (parts_valued ts d h) ∙ sym (value-Any s l ts y d))
        (λ d. needs-Any s l list_need at_point ts x d ∙ parts_needed ts d h ∙ sym (needs-Any s l list_need at_point ts y d))

    pub alike_op : (k : OpKind) (ts : List Expr) → Each ts → IsAlike r c x y (V.Op k ts)
    alike_op k ts h = alike (V.Op k ts)
        (λ d. value-Op s l k ts x d ∙ ap (strict (op_of k)) (parts_valued ts d h) ∙ sym (value-Op s l k ts y d))
        (λ d. needs-Op s l list_need at_point k ts x d ∙ parts_needed ts d h ∙ sym (needs-Op s l list_need at_point k ts y d))

    pub alike_not : (t : Expr) → IsAlike r c x y t → IsAlike r c x y (V.Not t)
    alike_not t h = alike (V.Not t)
        (λ d. value-Not s l t x d ∙ ap not_of (valued t d h) ∙ sym (value-Not s l t y d))
        (λ d. needs-Not s l list_need at_point t x d ∙ needed t d h ∙ sym (needs-Not s l list_need at_point t y d))

    pub alike_certain : (t : Expr) → IsAlike r c x y t → IsAlike r c x y (V.Certain t)
    alike_certain t h = alike (V.Certain t)
        (λ d. value-Certain s l t x d ∙ ap certain_of (valued t d h) ∙ sym (value-Certain s l t y d))
        (λ d. needs-Certain s l list_need at_point t x d ∙ needed t d h ∙ sym (needs-Certain s l list_need at_point t y d))

    pub alike_known : (t : Expr) → IsAlike r c x y t → IsAlike r c x y (V.Known t)
    alike_known t h = alike (V.Known t)
        (λ d. value-Known s l t x d ∙ ap known_of (valued t d h) ∙ sym (value-Known s l t y d))
        (λ d. needs-Known s l list_need at_point t x d ∙ sym (needs-Known s l list_need at_point t y d))

    pub alike_rolling : (b : Bool) (n : ℕ) (t : Expr) → IsAlike r c x y t → IsAlike r c x y (V.Rolling b n t)
    alike_rolling b n t h = alike (V.Rolling b n t)
        (λ d. value-Rolling s l b n t x d ∙ ap (λ (g : ℕ → Seen). rolling b n (λ e. (g e).0) d) h ∙ sym (value-Rolling s l b n t y d))
        (λ d. needs-Rolling s l list_need at_point b n t x d ∙ ap (λ (g : ℕ → Seen). last_days_uses n (λ e. own (g e)) d) h ∙ sym (needs-Rolling s l list_need at_point b n t y d))

    span_valued : (k : WinKind) (ts : List Expr) (d : ℕ) → Each ts → window k (map (part_value r c) ts) x d ≡ window k (map (part_value r c) ts) y d
    span_valued k [] d h = window_none k x d ∙ sym (window_none k y d)
    span_valued k (a ∷ []) d h = window_one k (part_value r c a) x d ∙ ap (λ v. dated k v d) (valued a d h.0) ∙ sym (window_one k (part_value r c a) y d)
    span_valued k (a ∷ b ∷ []) d h =
        window_two k (part_value r c a) (part_value r c b) x d
        ∙ ap (λ v. cond (is_value_at k) (value_at (part_value r c b x) v) Uncertain) (valued a d h.0)
        ∙ ap (λ (g : ℕ → Seen). cond (is_value_at k) (value_at (λ e. (g e).0) (part_value r c a y d)) Uncertain) h.1.0
        ∙ sym (window_two k (part_value r c a) (part_value r c b) y d)
    span_valued k (a ∷ b ∷ z ∷ []) d h =
        window_three k (part_value r c a) (part_value r c b) (part_value r c z) x d
        ∙ ap (λ v. cond (has_span k) (in_window (span_fold k) (part_value r c z x) v (part_value r c b x d)) Uncertain) (valued a d h.0)
        ∙ ap (λ v. cond (has_span k) (in_window (span_fold k) (part_value r c z x) (part_value r c a y d) v) Uncertain) (valued b d h.1.0)
        ∙ ap (λ (g : ℕ → Seen). cond (has_span k) (in_window (span_fold k) (λ e. (g e).0) (part_value r c a y d) (part_value r c b y d)) Uncertain) h.1.1.0
        ∙ sym (window_three k (part_value r c a) (part_value r c b) (part_value r c z) y d)
    span_valued k (a ∷ b ∷ z ∷ t ∷ ts) d h =
        window_more k (part_value r c a) (part_value r c b) (part_value r c z) (part_value r c t) (map (part_value r c) ts) x d
        ∙ sym (window_more k (part_value r c a) (part_value r c b) (part_value r c z) (part_value r c t) (map (part_value r c) ts) y d)

    span_needed : (ts : List Expr) (d : ℕ) → Each ts → span_needs r c ts x d ≡ span_needs r c ts y d
    span_needed [] d h = refl
    span_needed (a ∷ []) d h = part_needed a d h.0
    span_needed (a ∷ b ∷ []) d h =
        ap (λ (g : ℕ → Seen). own (g d) ++ on_date_uses (part_needs r c b x) (g d).0) h.0
        ∙ ap (λ (g : ℕ → Seen). part_needs r c a y d ++ on_date_uses (λ e. own (g e)) (part_value r c a y d)) h.1.0
    span_needed (a ∷ b ∷ z ∷ []) d h =
        ap (λ (g : ℕ → Seen). own (g d) ++ (part_needs r c b x d ++ in_window_uses (part_needs r c z x) (g d).0 (part_value r c b x d))) h.0
        ∙ ap (λ (g : ℕ → Seen). part_needs r c a y d ++ (own (g d) ++ in_window_uses (part_needs r c z x) (part_value r c a y d) (g d).0)) h.1.0
        ∙ ap (λ (g : ℕ → Seen). part_needs r c a y d ++ (part_needs r c b y d ++ in_window_uses (λ e. own (g e)) (part_value r c a y d) (part_value r c b y d))) h.1.1.0
    span_needed (a ∷ b ∷ z ∷ t ∷ ts) d h = refl

    pub alike_window : (k : WinKind) (ts : List Expr) → Each ts → IsAlike r c x y (V.Window k ts)
    alike_window k ts h = alike (V.Window k ts)
        (λ d. value-Window s l k ts x d ∙ span_valued k ts d h ∙ sym (value-Window s l k ts y d))
        (λ d. needs-Window s l list_need at_point k ts x d ∙ span_needed ts d h ∙ sym (needs-Window s l list_need at_point k ts y d))

    rows_valued : (rows : List Row) (t : Expr) (d : ℕ) → Rows rows → IsAlike r c x y t → table (map (row_meaning s l) rows) (part_value r c t) x d ≡ table (map (row_meaning s l) rows) (part_value r c t) y d
    rows_valued [] t d h last = valued t d last
    rows_valued (row ∷ rows) t d h last =
        ap (λ v. choose v (part_value r c row.value x d) (table (map (row_meaning s l) rows) (part_value r c t) x d)) (valued row.cond d h.0.cond)
        ∙ ap (λ v. choose (part_value r c row.cond y d) v (table (map (row_meaning s l) rows) (part_value r c t) x d)) (valued row.value d h.0.value)
        ∙ ap (λ v. choose (part_value r c row.cond y d) (part_value r c row.value y d) v) (rows_valued rows t d h.1 last)

    rows_needed : (rows : List Row) (t : Expr) (d : ℕ) → Rows rows → IsAlike r c x y t → rows_needs r c rows t x d ≡ rows_needs r c rows t y d
    rows_needed [] t d h last = needed t d last
    rows_needed (row ∷ rows) t d h last =
        ap (λ (g : ℕ → Seen). cond_needs (g d).0 (g d).1 (tree_needs r c row.value x d) (rows_needs r c rows t x d)) h.0.cond
        ∙ ap (λ us. cond_needs (part_value r c row.cond y d) (tree_needs r c row.cond y d) us (rows_needs r c rows t x d)) (needed row.value d h.0.value)
        ∙ ap (λ us. cond_needs (part_value r c row.cond y d) (tree_needs r c row.cond y d) (tree_needs r c row.value y d) us) (rows_needed rows t d h.1 last)

    pub alike_table : (rows : List Row) (t : Expr) → Rows rows → IsAlike r c x y t → IsAlike r c x y (V.Table rows t)
    alike_table rows t h last = alike (V.Table rows t)
        (λ d. value-Table s l rows t x d ∙ rows_valued rows t d h last ∙ sym (value-Table s l rows t y d))
        (λ d. needs-Table s l list_need at_point rows t x d ∙ rows_needed rows t d h last ∙ sym (needs-Table s l list_need at_point rows t y d))

    items_valued : (q : Quant) (ts : List Expr) (d : ℕ) → Each ts → item q (each (map (part_value r c) ts) x d) ≡ item q (each (map (part_value r c) ts) y d)
    items_valued q ts d h = ap (item q) (each-map (part_value r c) ts x d ∙ parts_valued ts d h ∙ sym (each-map (part_value r c) ts y d))

    pub member_needed : (q : Quant) (ts : List Expr) (d : ℕ) → Each ts → member_needs r c q ts x d ≡ member_needs r c q ts y d
    member_needed quant.SumIf [] d h = refl
    member_needed quant.SumIf (a ∷ []) d h = part_needed a d h.0
    member_needed quant.SumIf (a ∷ b ∷ []) d h =
        ap (λ (g : ℕ → Seen). own (g d) ++ (if is_true (g d).0 then part_needs r c a x d else [])) h.1.0
        ∙ ap (λ us. part_needs r c b y d ++ (if is_true (part_value r c b y d) then us else [])) (part_needed a d h.0)
    member_needed quant.SumIf (a ∷ b ∷ z ∷ ts) d h = refl
    member_needed _ [] d h = refl
    member_needed _ (a ∷ []) d h = part_needed a d h.0
    member_needed _ (a ∷ b ∷ ts) d h = refl

  -- the operands are seen alike for each member of a list of an entity
  abbrev pub EachListed : ℕ → List InstanceId → List InstanceId → List Expr → Type 0
  EachListed target x y ts = (name : List ℕ) → AllByRecursion (IsAlike r c (named target name ∷ x) (named target name ∷ y)) ts

  over_valued : (q : Quant) (target : ℕ) (members : Option (List (List ℕ))) (ts : List Expr) (x y : List InstanceId) (d : ℕ) → EachListed target x y ts
      → over q target members (map (part_value r c) ts) x d ≡ over q target members (map (part_value r c) ts) y d
  over_valued q target None ts x y d h = refl
  over_valued q target (Some names) ts x y d h = ap (λ g. quant_of q (map g names)) (fun_ext (λ name. items_valued (named target name ∷ x) (named target name ∷ y) q ts d (h name)))

  pub over_needed : (key : Use) (q : Quant) (target : ℕ) (members : Option (List (List ℕ))) (ts : List Expr) (x y : List InstanceId) (d : ℕ) → EachListed target x y ts
      → over_needs key (λ n. member_needs r c q ts (named target n ∷ x) d) members ≡ over_needs key (λ n. member_needs r c q ts (named target n ∷ y) d) members
  over_needed key q target members ts x y d h = ap (λ u. over_needs key u members) (fun_ext (λ name. member_needed (named target name ∷ x) (named target name ∷ y) q ts d (h name)))

  pub alike_over : (q : Quant) (rel : RelId) (ts : List Expr) (x y : List InstanceId) → HasSame r c x y (s.source rel) → EachListed (s.target rel) x y ts → IsAlike r c x y (V.Over q rel ts)
  alike_over q rel ts x y same h = alike x y (V.Over q rel ts)
      (λ d. value-Over s l q rel ts x d ∙ ap (λ p. at_place p (λ i. over q (s.target rel) (l.members rel i) (map (part_value r c) ts) x d)) same
      ∙ ap (at_place (place l.container y (s.source rel))) (fun_ext (λ i. over_valued q (s.target rel) (l.members rel i) ts x y d h)) ∙ sym (value-Over s l q rel ts y d))
      (λ d. needs-Over s l list_need at_point q rel ts x d
      ∙ ap (λ p. at_place_uses p (λ i. over_needs (list_need rel i) (λ n. member_needs r c q ts (named (s.target rel) n ∷ x) d) (l.members rel i))) same
      ∙ ap (at_place_uses (place l.container y (s.source rel))) (fun_ext (λ i. over_needed (list_need rel i) q (s.target rel) (l.members rel i) ts x y d h))
      ∙ sym (needs-Over s l list_need at_point q rel ts y d))

  -- where the source has one place and the operands agree
  pub alike_over_agreed : (hidden : List ℕ) (here there : List InstanceId) (q : Quant) (rel : RelId) (ts : List Expr) → AgreeOver r c hidden here there rel ts → Agrees r c hidden here there (V.Over q rel ts)
  alike_over_agreed hidden here there q rel ts agrees x y follows = alike_over q rel ts x y (follows (s.source rel) agrees.source)
      (λ name. agrees.operands (named (s.target rel) name ∷ x) (named (s.target rel) name ∷ y) (follows_listed l.container hidden (s.target rel) name here there x y follows))

  -- of several trees or rows, those before a next one and that; what is hidden stays
  module _ (hidden now : List ℕ) (here there : List InstanceId) (same : now ≡ hidden) where
    followed : (x y : List InstanceId) → Follows r c hidden here there x y → Follows r c now here there x y
    followed x y follows = subst (λ ks. Follows r c ks here there x y) (sym same) follows

    pub agree_more : (ts : List Expr) (i : ℕ) (t : Expr) → i < length ts → t ≡ get_or ts i t → AgreeEach r c hidden here there (take i ts) → Agrees r c now here there t → AgreeEach r c hidden here there (take (i + 1) ts)
    agree_more ts i t lt is before one x y follows =
        subst (AllByRecursion (IsAlike r c x y)) (sym (take_more ts i t lt ∙ ap (λ u. take i ts ++ u ∷ []) (sym is)))
        (all_append (IsAlike r c x y) (take i ts) (t ∷ []) (before x y follows) (one x y (followed x y follows), tt))

    pub agree_rows_more : (rows : List Row) (i : ℕ) (row : Row) → i < length rows → row ≡ get_or rows i row → AgreeRows r c hidden here there (take i rows) → AgreeRow r c now here there row → AgreeRows r c hidden here there (take (i + 1) rows)
    agree_rows_more rows i row lt is before one x y follows =
        subst (AllByRecursion (IsRowAlike r c x y)) (sym (take_more rows i row lt ∙ ap (λ u. take i rows ++ u ∷ []) (sym is)))
        (all_append (IsRowAlike r c x y) (take i rows) (row ∷ []) (before x y follows) (one x y (followed x y follows), tt))

  -- what a part needs is found where what its tree needs is
  pub part_found : (found : List Question) (t : Expr) (enclosing : List InstanceId) (d : ℕ) → AreFound found (tree_needs r c t enclosing d) → AreFound found (part_needs r c t enclosing d)
  part_found found t enclosing d there = at (is_unknown (part_value r c t enclosing d))
    where
      at : (b : Bool) → AreFound found (if b then tree_needs r c t enclosing d else [])
      at true = there
      at false = tt

  -- where a tree agrees, it is worth and needs the same
  module _ (here there : List InstanceId) (t : Expr) (agrees : Agrees r c [] here there t) where
    pub agree_alike : IsAlike r c here there t
    agree_alike = agrees here there (follows_itself l.container here there)

    pub agree_valued : (d : ℕ) → part_value r c t here d ≡ part_value r c t there d
    agree_valued d = valued here there t d agree_alike

    pub agree_needed : (d : ℕ) → tree_needs r c t here d ≡ tree_needs r c t there d
    agree_needed d = needed here there t d agree_alike

    pub agree_part_needed : (d : ℕ) → part_needs r c t here d ≡ part_needs r c t there d
    agree_part_needed d = part_needed here there t d agree_alike

    pub agree_found : (found : List Question) (d : ℕ) → AreFound found (tree_needs r c t here d) → AreFound found (tree_needs r c t there d)
    agree_found found d h = subst (AreFound found) (agree_needed d) h
