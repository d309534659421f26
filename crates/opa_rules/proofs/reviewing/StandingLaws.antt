-- A comparison of a tree stands in it.
use Rattle.std.proofs.Common.{◌≡◌, Bool, true, false, List, [], ◌∷◌, ◌++◌, map, Option, None, Some, Contains, refl, sym, ap, ap₂, ◌∙◌, subst, ⊎_elim}
use Rattle.std.specs.Prelude.{flat_map, if◌then◌else◌}
use Rattle.std.proofs.lemmas.List.Elements.{Contains-append_cases}
use Rattle.std.proofs.lemmas.Option.{same_Some}
use Rattle.opa_value.specs.declared.value.Value.{Value}
use Rattle.opa_value.specs.declared.value.Value.TheVariants.{Num}
use Rattle.opa_tree.specs.declared.kinds.OpKind.{OpKind}
use Rattle.opa_tree.specs.declared.expr.Expr.{Expr}
use Rattle.opa_tree.specs.declared.expr.Row.{Row}
use Rattle.opa_tree.specs.declared.expr.Expr.TheOpen.{Expr-F, Const, Attr, All, Any, Not, Op, Certain, Known, Over, Window, Rolling, Table}
use Rattle.opa_tree.specs.declared.expr.Expr.TheVariants as V
use Rattle.opa_tree.specs.declared.expr.Expr.TheViews.{roll-Expr}
use Rattle.opa_tree.proofs.Induction.{by_parts, without, Part, RowPart}
use Rattle.opa_tree.proofs.Members.{none_in, contains_head, contains_tail, contains_cases}
use Rattle.opa_mean.specs.Kinds.Conditions.{IsPartOf, HasWithin}
use Rattle.opa_rules.specs.declared.reviewing.finding.Comparison.{Comparison}
use Rattle.opa_rules.specs.declared.reviewing.finding.Operand.{Operand}
use Rattle.opa_rules.specs.declared.reviewing.finding.Operand.TheVariants as operand
use Rattle.opa_rules.specs.Reviewing.Comparisons.{is_comparison, literal, compared, side_of, comparisons, row_comparisons}
use Rattle.opa_rules.specs.Reviewing.NoCase.{side_tree, tree_of}
use Rattle.opa_rules.proofs.reviewing.ComparisonLaws.{side-Const, side-Attr, side-All, side-Any, side-Not, side-Op, side-Certain, side-Known, side-Over, side-Window, side-Rolling, side-Table, comparisons-Const, comparisons-Attr, comparisons-All, comparisons-Any, comparisons-Not, comparisons-Op, comparisons-Certain, comparisons-Known, comparisons-Over, comparisons-Window, comparisons-Rolling, comparisons-Table}

-- ---- sides

abbrev IsSide : Expr → Type 0
IsSide e = (o : Operand) → side_of e ≡ Some o → e ≡ side_tree o

of_literal : (v : Value) (o : Operand) → literal v ≡ Some o → V.Const v ≡ side_tree o
of_literal (Num n) o h = ap side_tree (same_Some (operand.Number n) o h)
of_literal _ o h = absurd (cc h)

no_side_is : (e : Expr) → side_of e ≡ None → IsSide e
no_side_is e none o h = absurd (cc (sym none ∙ h))

level_side : (x : Expr-F Expr Row) → IsSide (roll-Expr x)
level_side (Const v) = subst IsSide (sym (V.rolls-Const v)) (λ o h. of_literal v o (sym (side-Const v) ∙ h))
level_side (Attr a) = subst IsSide (sym (V.rolls-Attr a)) (λ o h. ap side_tree (same_Some (operand.Attr a) o (sym (side-Attr a) ∙ h)))
level_side (All es) = subst IsSide (sym (V.rolls-All es)) (no_side_is (V.All es) (side-All es))
level_side (Any es) = subst IsSide (sym (V.rolls-Any es)) (no_side_is (V.Any es) (side-Any es))
level_side (Not e) = subst IsSide (sym (V.rolls-Not e)) (no_side_is (V.Not e) (side-Not e))
level_side (Op k es) = subst IsSide (sym (V.rolls-Op k es)) (no_side_is (V.Op k es) (side-Op k es))
level_side (Certain e) = subst IsSide (sym (V.rolls-Certain e)) (no_side_is (V.Certain e) (side-Certain e))
level_side (Known e) = subst IsSide (sym (V.rolls-Known e)) (no_side_is (V.Known e) (side-Known e))
level_side (Over q r es) = subst IsSide (sym (V.rolls-Over q r es)) (no_side_is (V.Over q r es) (side-Over q r es))
level_side (Window k es) = subst IsSide (sym (V.rolls-Window k es)) (no_side_is (V.Window k es) (side-Window k es))
level_side (Rolling b n e) = subst IsSide (sym (V.rolls-Rolling b n e)) (no_side_is (V.Rolling b n e) (side-Rolling b n e))
level_side (Table rows last) = subst IsSide (sym (V.rolls-Table rows last)) (no_side_is (V.Table rows last) (side-Table rows last))

-- a tree that is a side is its tree
side_is : (e : Expr) → IsSide e
side_is = by_parts IsSide (λ z. level_side (without IsSide z))

-- ---- an operation that is a comparison

module _ (k : OpKind) (c : Comparison) where
  abbrev IsOf : List (Option Operand) → Type 0
  IsOf os = (k ≡ c.operation) × (os ≡ Some c.left ∷ Some c.right ∷ [])

  of_two : (a b : Operand) (t : Bool) → Contains (if t then record { operation = k; left = a; right = b } ∷ [] else []) c → IsOf (Some a ∷ Some b ∷ [])
  of_two a b true h =
      let new : Comparison = record { operation = k; left = a; right = b } in
      ⊎_elim (λ (e : new ≡ c). (ap (λ (x : Comparison). x.operation) e, ap (λ (x : Comparison). Some x.left ∷ Some x.right ∷ []) e)) (λ none. absurd (none_in c none)) (contains_cases new c [] h)
  of_two a b false h = absurd (none_in c h)

  compared_is : (os : List (Option Operand)) → Contains (compared k os) c → IsOf os
  compared_is [] h = absurd (none_in c h)
  compared_is (None ∷ os) h = absurd (none_in c h)
  compared_is (Some a ∷ []) h = absurd (none_in c h)
  compared_is (Some a ∷ None ∷ os) h = absurd (none_in c h)
  compared_is (Some a ∷ Some b ∷ []) h = of_two a b (is_comparison k) h
  compared_is (Some a ∷ Some b ∷ o ∷ os) h = absurd (none_in c h)

sides_are : (es : List Expr) (l r : Operand) → map side_of es ≡ Some l ∷ Some r ∷ [] → es ≡ side_tree l ∷ side_tree r ∷ []
sides_are [] l r h = absurd (cc h)
sides_are (x ∷ []) l r h = absurd (cc h)
sides_are (x ∷ y ∷ []) l r h =
    let first : side_of x ≡ Some l = cc h in
    let second : side_of y ≡ Some r = cc h in
    ap₂ (λ e e'. e ∷ e' ∷ []) (side_is x l first) (side_is y r second)
sides_are (x ∷ y ∷ z ∷ es) l r h = absurd (cc h)

own_is : (k : OpKind) (es : List Expr) (c : Comparison) → Contains (compared k (map side_of es)) c → V.Op k es ≡ tree_of c
own_is k es c h = let told = compared_is k c (map side_of es) h in ap₂ V.Op told.0 (sides_are es c.left c.right told.1)

-- ---- what a part has within it, the whole has

below : (e x : Expr) {t : Expr} → IsPartOf x e → HasWithin x t → HasWithin e t
below e x part HasWithin.itself = HasWithin.part e x HasWithin.itself part
below e x {t} part (HasWithin.part y _ within last) = HasWithin.part y t (below e x part within) last

abbrev StandsIn : Expr → Type 0
StandsIn e = (c : Comparison) → Contains (comparisons e) c → HasWithin e (tree_of c)

abbrev Parts : Type 0
Parts = List (Part StandsIn)

abbrev RowParts : Type 0
RowParts = List (RowPart StandsIn)

abbrev trees : Parts → List Expr
trees ps = map (λ p. p.0) ps

abbrev rows : RowParts → List Row
rows rs = map (λ r. r.0) rs

in_parts : (e : Expr) (c : Comparison) (ps : Parts) → ((x : Expr) → Contains (trees ps) x → IsPartOf x e) → Contains (flat_map comparisons (trees ps)) c → HasWithin e (tree_of c)
in_parts e c [] part h = absurd (none_in c h)
in_parts e c (p ∷ ps) part h =
    ⊎_elim (λ here. below e p.0 (part p.0 (contains_head p.0 (trees ps))) (p.1 c here)) (λ there. in_parts e c ps (λ x t. part x (contains_tail p.0 x (trees ps) t)) there)
    (Contains-append_cases (comparisons p.0) (flat_map comparisons (trees ps)) c h)

in_rows : (e : Expr) (c : Comparison) (rs : RowParts) → ((r : Row) → Contains (rows rs) r → IsPartOf r.cond e × IsPartOf r.value e) → Contains (flat_map row_comparisons (rows rs)) c → HasWithin e (tree_of c)
in_rows e c [] part h = absurd (none_in c h)
in_rows e c (r ∷ rs) part h =
    let own = part r.0 (contains_head r.0 (rows rs)) in
    ⊎_elim (λ here. ⊎_elim (λ k. below e r.0.cond own.0 (r.1.0 c k)) (λ k. below e r.0.value own.1 (r.1.1 c k)) (Contains-append_cases (comparisons r.0.cond) (comparisons r.0.value) c here))
    (λ there. in_rows e c rs (λ x t. part x (contains_tail r.0 x (rows rs) t)) there)
    (Contains-append_cases (row_comparisons r.0) (flat_map row_comparisons (rows rs)) c h)

-- of what its comparisons are
by_law : (e : Expr) (cs : List Comparison) → comparisons e ≡ cs → ((c : Comparison) → Contains cs c → HasWithin e (tree_of c)) → StandsIn e
by_law e cs law stand c h = stand c (subst (λ (xs : List Comparison). Contains xs c) law h)

one_part : (e : Expr) (p : Part StandsIn) → comparisons e ≡ comparisons p.0 → IsPartOf p.0 e → StandsIn e
one_part e p law part = by_law e (comparisons p.0) law (λ c h. below e p.0 part (p.1 c h))

many_parts : (e : Expr) (ps : Parts) → comparisons e ≡ flat_map comparisons (trees ps) → ((x : Expr) → Contains (trees ps) x → IsPartOf x e) → StandsIn e
many_parts e ps law part = by_law e (flat_map comparisons (trees ps)) law (λ c h. in_parts e c ps part h)

in_operation : (k : OpKind) (ps : Parts) → StandsIn (V.Op k (trees ps))
in_operation k ps =
    let es = trees ps in
    let e = V.Op k es in
    by_law e (compared k (map side_of es) ++ flat_map comparisons es) (comparisons-Op k es)
    (λ c h. ⊎_elim (λ own. subst (HasWithin e) (own_is k es c own) HasWithin.itself) (λ there. in_parts e c ps (λ x t. IsPartOf.of_operation k es t) there) (Contains-append_cases (compared k (map side_of es)) (flat_map comparisons es) c h))

in_table : (rs : RowParts) (p : Part StandsIn) → StandsIn (V.Table (rows rs) p.0)
in_table rs p =
    let e = V.Table (rows rs) p.0 in
    by_law e (flat_map row_comparisons (rows rs) ++ comparisons p.0) (comparisons-Table (rows rs) p.0)
    (λ c h. ⊎_elim (λ here. in_rows e c rs (λ r t. (IsPartOf.row_condition (rows rs) p.0 r t refl, IsPartOf.row_value (rows rs) p.0 r t refl)) here) (λ there. below e p.0 (IsPartOf.last_value (rows rs)) (p.1 c there)) (Contains-append_cases (flat_map row_comparisons (rows rs)) (comparisons p.0) c h))

none_stands : (e : Expr) → comparisons e ≡ [] → StandsIn e
none_stands e law = by_law e [] law (λ c h. absurd (none_in c h))

level : (z : Expr-F (Part StandsIn) (RowPart StandsIn)) → StandsIn (roll-Expr (without StandsIn z))
level (Const v) = subst StandsIn (sym (V.rolls-Const v)) (none_stands (V.Const v) (comparisons-Const v))
level (Attr a) = subst StandsIn (sym (V.rolls-Attr a)) (none_stands (V.Attr a) (comparisons-Attr a))
level (All ps) = subst StandsIn (sym (V.rolls-All (trees ps))) (many_parts (V.All (trees ps)) ps (comparisons-All (trees ps)) (λ x t. IsPartOf.of_all (trees ps) t))
level (Any ps) = subst StandsIn (sym (V.rolls-Any (trees ps))) (many_parts (V.Any (trees ps)) ps (comparisons-Any (trees ps)) (λ x t. IsPartOf.of_any (trees ps) t))
level (Not p) = subst StandsIn (sym (V.rolls-Not p.0)) (one_part (V.Not p.0) p (comparisons-Not p.0) IsPartOf.of_not)
level (Op k ps) = subst StandsIn (sym (V.rolls-Op k (trees ps))) (in_operation k ps)
level (Certain p) = subst StandsIn (sym (V.rolls-Certain p.0)) (one_part (V.Certain p.0) p (comparisons-Certain p.0) IsPartOf.of_certain)
level (Known p) = subst StandsIn (sym (V.rolls-Known p.0)) (one_part (V.Known p.0) p (comparisons-Known p.0) IsPartOf.of_known)
level (Over q r ps) = subst StandsIn (sym (V.rolls-Over q r (trees ps))) (many_parts (V.Over q r (trees ps)) ps (comparisons-Over q r (trees ps)) (λ x t. IsPartOf.of_quantifier q r (trees ps) t))
level (Window k ps) = subst StandsIn (sym (V.rolls-Window k (trees ps))) (many_parts (V.Window k (trees ps)) ps (comparisons-Window k (trees ps)) (λ x t. IsPartOf.of_window k (trees ps) t))
level (Rolling b n p) = subst StandsIn (sym (V.rolls-Rolling b n p.0)) (one_part (V.Rolling b n p.0) p (comparisons-Rolling b n p.0) (IsPartOf.of_rolling b n))
level (Table rs p) = subst StandsIn (sym (V.rolls-Table (rows rs) p.0)) (in_table rs p)

pub stands_in : (e : Expr) → StandsIn e
stands_in = by_parts StandsIn level
