-- Readings of trees that are within the limits are kept.
use Rattle.std.proofs.Common.{◌≡◌, ◌≤◌, ◌+◌, ℕ, List, [], ◌∷◌, ◌++◌, map, max, Bool, true, false, not, Option, Some, None, option_map, refl, sym, ap, ap₂, subst, ◌∙◌, arith, le-leb}
use Rattle.std.specs.Prelude.{◌&&◌, ◌||◌, nat_le, nat_lt, if◌then◌else◌}
use Rattle.std.proofs.lemmas.Bool.{and_from}
use Rattle.opa_tree.specs.declared.expr.Expr.{Expr}
use Rattle.opa_tree.specs.declared.expr.Row.{Row}
use Rattle.opa_tree.specs.declared.expr.Expr.TheVariants as V
use Rattle.opa_tree.specs.declared.faults.RbKind.TheVariants as kind
use Rattle.opa_tree.specs.Trees.{depth, highest, row_depth}
use Rattle.opa_tree.proofs.DepthLaws.{depth-All, depth-Any, depth-Table}
use Rattle.opa_tree.proofs.Folds.{fold-All, fold-Any, fold-Table}
use Rattle.opa_sentence.specs.declared.measure.Measure.{Measure}
use Rattle.opa_io.specs.declared.limits.TheConstants.{MOST_DEPTH, MOST_NODES, MOST_NESTING}
use Rattle.opa_sentence.specs.declared.names.Names.{Names}
use Rattle.opa_sentence.specs.declared.reading.Reading.{Reading}
use Rattle.opa_sentence.specs.declared.reading.Parts.{Parts}
use Rattle.opa_sentence.specs.Bounding.{bound}
use Rattle.opa_sentence.specs.Grammar.{LINE, Spells}
use Rattle.opa_sentence.specs.Lexemes.{Lexeme}
use Rattle.opa_sentence.specs.Measured.{Tells}
use Rattle.opa_sentence.specs.Measures.{nodes, nodes_step, nodes_row, total, beside, above, fits, capped, bounded, unbounded, of_none}
use Rattle.opa_sentence.specs.Rows.{row_nodes}
use Rattle.opa_sentence.specs.Readings as says
use Rattle.opa_sentence.proofs.MeasureLaws.{is_measured_holds}
use Rattle.opa_sentence.proofs.SizeLaws.{rows_wide}
use Rattle.opa_parse.specs.declared.group.Cases.{Cases}
use Rattle.opa_parse.specs.declared.group.Joint.TheVariants as joint
use Rattle.opa_parse.specs.declared.group.Joint.{Joint}
use Rattle.opa_parse.specs.declared.group.Mark.{Mark}
use Rattle.opa_parse.specs.declared.group.Said.{Said}
use Rattle.opa_parse.specs.declared.group.Several.{Several}
use Rattle.opa_parse.specs.Sayings.{mark, line_marks, of_line, one_item, with_item, several, no_cases, with_case, with_row, row_measure, tabled, table_of}

-- ---- measures

-- all is named and short, no line nests too deep, and these are the depth and the nodes
pub record IsKept (m : Measure) (d n : ℕ) : Type 0 where
  pub named : m.named ≡ true
  pub short : m.short ≡ true
  pub depth : m.depth ≡ d
  pub nodes : m.nodes ≡ n
  pub nesting : m.nesting ≤ MOST_NESTING

-- so deep and so many nodes are within the limits
abbrev pub IsSmall : ℕ → ℕ → Type 0
IsSmall d n = (d ≤ MOST_DEPTH) × (n ≤ MOST_NODES)

pub kept_capped : (m : Measure) (d n : ℕ) → IsKept m d n → IsSmall d n → IsKept (capped m) d n
kept_capped m d n h s = record {
  named = h.named;
  short = h.short;
  depth = omega (arith, h.depth, s.0);
  nodes = omega (arith, h.nodes, s.1);
  nesting = omega (arith, h.nesting);
}

pub kept_fits : (m : Measure) (d n : ℕ) → IsKept m d n → IsSmall d n → fits m ≡ true
kept_fits m d n h s =
    let deep : m.depth ≤ MOST_DEPTH = omega (arith, h.depth, s.0) in
    let wide : m.nodes ≤ MOST_NODES = omega (arith, h.nodes, s.1) in
    and_from (m.named && m.short) (nat_le m.depth MOST_DEPTH && (nat_le m.nodes MOST_NODES && nat_le m.nesting MOST_NESTING)) (and_from m.named m.short h.named h.short)
    (and_from (nat_le m.depth MOST_DEPTH) (nat_le m.nodes MOST_NODES && nat_le m.nesting MOST_NESTING) (le-leb m.depth MOST_DEPTH deep)
    (and_from (nat_le m.nodes MOST_NODES) (nat_le m.nesting MOST_NESTING) (le-leb m.nodes MOST_NODES wide) (le-leb m.nesting MOST_NESTING h.nesting)))

kept_beside : (m k : Measure) (d n e o : ℕ) → IsKept m d n → IsKept k e o → IsKept (beside m k) (max d e) (n + o)
kept_beside m k d n e o h g = record {
  named = and_from m.named k.named h.named g.named;
  short = and_from m.short k.short h.short g.short;
  depth = ap₂ max h.depth g.depth;
  nodes = ap₂ (λ a b. a + b) h.nodes g.nodes;
  nesting = omega (arith, h.nesting, g.nesting);
}

kept_above : (m : Measure) (d n : ℕ) → IsKept m d n → IsKept (above m) (1 + d) (1 + n)
kept_above m d n h = record { named = h.named; short = h.short; depth = ap (λ k. 1 + k) h.depth; nodes = ap (λ k. 1 + k) h.nodes; nesting = h.nesting }

kept_none : IsKept of_none 0 0
kept_none = record { named = refl; short = refl; depth = refl; nodes = refl; nesting = omega arith }

kept_as : (m : Measure) (d n e o : ℕ) → IsKept m d n → d ≡ e → n ≡ o → IsKept m e o
kept_as m d n e o h p q = record { named = h.named; short = h.short; depth = h.depth ∙ p; nodes = h.nodes ∙ q; nesting = h.nesting }

-- ---- readings

-- it says the tree
pub record SaysTree (r : Reading) (e : Expr) : Type 0 where
  pub tree_is : r.tree ≡ Some e
  pub kept : IsKept r.measure (depth e) (nodes e)

abbrev pub IsSmallTree : Expr → Type 0
IsSmallTree e = IsSmall (depth e) (nodes e)

kept_if : {A : Type 0} (b : Bool) (o p : Option A) → b ≡ true → o ≡ p → (if b then o else None) ≡ p
kept_if b o p h e = ap (λ x. if x then o else None) h ∙ e

-- what a line spells without bounds, that is within them, is said within them
pub line_says : (ns : Names) (ts : List Lexeme) (x : Reading) (e : Expr) → Spells unbounded ns LINE ts x [] → x.tree ≡ Some e → x.measure.nesting ≤ MOST_NESTING → x.measure.short ≡ true → IsSmallTree e → SaysTree (bound x) e
line_says ns ts x e d is nested short small =
    let t : Tells x.measure (Some e) = subst (Tells x.measure) is (is_measured_holds ns LINE ts x [] d) in
    let k : IsKept x.measure (depth e) (nodes e) = record { named = t.0; short = short; depth = sym t.1; nodes = sym t.2; nesting = nested } in
    let c = kept_capped x.measure (depth e) (nodes e) k small in record {
      tree_is = kept_if (fits (capped x.measure)) x.tree (Some e) (kept_fits (capped x.measure) (depth e) (nodes e) c small) is;
      kept = c;
    }

-- ---- what is said without fault

pub record IsSaid (s : Said) (e : Expr) : Type 0 where
  pub says : SaysTree s.reading e
  pub unmarked : s.marks ≡ []

no_marks : (number : ℕ) (m : Measure) (d n : ℕ) → IsKept m d n → line_marks number m ≡ []
no_marks number m d n h =
    let deep : nat_lt MOST_NESTING m.nesting ≡ false = grind (arith, h.nesting) in
    ap₂ (λ (a b : Bool). mark (not a || b) number kind.Limit ++ mark (not m.named) number kind.Name) h.short deep ∙ ap (λ (a : Bool). mark (not a) number kind.Name) h.named

pub line_said : (number : ℕ) (r : Reading) (e : Expr) → SaysTree r e → IsSaid (of_line number r) e
line_said number r e h = record { says = h; unmarked = no_marks number r.measure (depth e) (nodes e) h.kept }

-- ---- several items

abbrev deepest : List Expr → ℕ
deepest es = highest (map depth es)

abbrev all_nodes : List Expr → ℕ
all_nodes es = total (map nodes es)

deepest_last : (es : List Expr) (e : Expr) → deepest (es ++ e ∷ []) ≡ max (deepest es) (depth e)
deepest_last [] e = omega arith
deepest_last (x ∷ es) e = omega (arith, deepest_last es e)

widest_last : (es : List Expr) (e : Expr) → all_nodes (es ++ e ∷ []) ≡ all_nodes es + nodes e
widest_last [] e = omega arith
widest_last (x ∷ es) e = omega (arith, widest_last es e)

abbrev pub AreSmall : List Expr → Type 0
AreSmall es = IsSmall (deepest es) (all_nodes es)

pub record AreSaid (y : Several) (es : List Expr) : Type 0 where
  pub trees_are : y.parts.trees ≡ Some es
  pub kept : IsKept y.parts.measure (deepest es) (all_nodes es)
  pub unmarked : y.marks ≡ []

with_part_kept : (p : Parts) (r : Reading) (es : List Expr) (e : Expr) → p.trees ≡ Some es → IsKept p.measure (deepest es) (all_nodes es) → SaysTree r e → AreSmall (es ++ e ∷ [])
    → ((says.with_part bounded p r).trees ≡ Some (es ++ e ∷ [])) × IsKept (says.with_part bounded p r).measure (deepest (es ++ e ∷ [])) (all_nodes (es ++ e ∷ []))
with_part_kept p r es e ts k h small =
    let b : IsKept (beside p.measure r.measure) (deepest (es ++ e ∷ [])) (all_nodes (es ++ e ∷ []))
    = kept_as (beside p.measure r.measure) _ _ (deepest (es ++ e ∷ [])) (all_nodes (es ++ e ∷ [])) (kept_beside p.measure r.measure (deepest es) (all_nodes es) (depth e) (nodes e) k h.kept) (sym (deepest_last es e)) (sym (widest_last es e)) in
    let c = kept_capped (beside p.measure r.measure) (deepest (es ++ e ∷ [])) (all_nodes (es ++ e ∷ [])) b small in
    (kept_if (fits (capped (beside p.measure r.measure))) (says.with_tree p.trees r.tree) (Some (es ++ e ∷ [])) (kept_fits (capped (beside p.measure r.measure)) _ _ c small) (ap₂ says.with_tree ts h.tree_is), c)

pub one_said : (s : Said) (e : Expr) → IsSaid s e → AreSmall (e ∷ []) → AreSaid (one_item s) (e ∷ [])
one_said s e h small =
    let w = with_part_kept (says.no_parts bounded) s.reading [] e refl kept_none h.says small in
    record { trees_are = w.0; kept = w.1; unmarked = h.unmarked }

pub more_said : (y : Several) (es : List Expr) (s : Said) (e : Expr) → AreSaid y es → IsSaid s e → AreSmall (es ++ e ∷ []) → AreSaid (with_item y s) (es ++ e ∷ [])
more_said y es s e k h small =
    let w = with_part_kept y.parts s.reading es e k.trees_are k.kept h.says small in
    record { trees_are = w.0; kept = w.1; unmarked = ap₂ (λ (a b : List Mark). a ++ b) k.unmarked h.unmarked }

over_kept : (f : List Expr → Expr) (p : Parts) (es : List Expr) → p.trees ≡ Some es → IsKept p.measure (deepest es) (all_nodes es) → depth (f es) ≡ 1 + deepest es → nodes (f es) ≡ 1 + all_nodes es → IsSmallTree (f es) → SaysTree (says.over bounded f p) (f es)
over_kept f p es ts k d n small =
    let a : IsKept (above p.measure) (depth (f es)) (nodes (f es)) = kept_as (above p.measure) _ _ (depth (f es)) (nodes (f es)) (kept_above p.measure (deepest es) (all_nodes es) k) (sym d) (sym n) in
    let c = kept_capped (above p.measure) (depth (f es)) (nodes (f es)) a small in record {
      tree_is = ap (option_map f) (kept_if (fits (capped (above p.measure))) p.trees (Some es) (kept_fits (capped (above p.measure)) (depth (f es)) (nodes (f es)) c small) ts);
      kept = c;
    }

pub nodes-All : (es : List Expr) → nodes (V.All es) ≡ 1 + all_nodes es
unfolding nodes
nodes-All es = fold-All ℕ ℕ nodes_step nodes_row es

pub nodes-Any : (es : List Expr) → nodes (V.Any es) ≡ 1 + all_nodes es
unfolding nodes
nodes-Any es = fold-Any ℕ ℕ nodes_step nodes_row es

-- all of them, or any
abbrev pub joined_tree : Joint → List Expr → Expr
joined_tree joint.And es = V.All es
joined_tree joint.Or es = V.Any es

pub joined_depth : (j : Joint) (es : List Expr) → depth (joined_tree j es) ≡ 1 + deepest es
joined_depth joint.And es = depth-All es
joined_depth joint.Or es = depth-Any es

pub joined_nodes : (j : Joint) (es : List Expr) → nodes (joined_tree j es) ≡ 1 + all_nodes es
joined_nodes joint.And es = nodes-All es
joined_nodes joint.Or es = nodes-Any es

pub several_said : (j : Joint) (y : Several) (es : List Expr) → AreSaid y es → IsSmallTree (joined_tree j es) → IsSaid (several j y).said (joined_tree j es)
several_said joint.And y es h small = record { says = over_kept (λ xs. V.All xs) y.parts es h.trees_are h.kept (depth-All es) (nodes-All es) small; unmarked = h.unmarked }
several_said joint.Or y es h small = record { says = over_kept (λ xs. V.Any xs) y.parts es h.trees_are h.kept (depth-Any es) (nodes-Any es) small; unmarked = h.unmarked }

-- ---- cases

abbrev pub deepest_row : List Row → ℕ
deepest_row rows = highest (map row_depth rows)

abbrev pub all_row_nodes : List Row → ℕ
all_row_nodes rows = total (map row_nodes rows)

deepest_row_last : (rows : List Row) (r : Row) → deepest_row (rows ++ r ∷ []) ≡ max (deepest_row rows) (row_depth r)
deepest_row_last [] r = omega arith
deepest_row_last (x ∷ rows) r = omega (arith, deepest_row_last rows r)

widest_row_last : (rows : List Row) (r : Row) → all_row_nodes (rows ++ r ∷ []) ≡ all_row_nodes rows + row_nodes r
widest_row_last [] r = omega arith
widest_row_last (x ∷ rows) r = omega (arith, widest_row_last rows r)

abbrev pub AreSmallRows : List Row → Type 0
AreSmallRows rows = IsSmall (deepest_row rows) (all_row_nodes rows)

pub record AreCases (cs : Cases) (rows : List Row) : Type 0 where
  pub rows_are : cs.rows ≡ Some rows
  pub kept : IsKept cs.measure (deepest_row rows) (all_row_nodes rows)
  pub unmarked : cs.marks ≡ []

pub no_cases_said : AreCases no_cases []
no_cases_said = record { rows_are = refl; kept = kept_none; unmarked = refl }

pub case_said : (cs : Cases) (rows : List Row) (v c : Said) (r : Row) → AreCases cs rows → IsSaid v r.value → IsSaid c r.cond → AreSmallRows (rows ++ r ∷ []) → AreCases (with_case cs v c) (rows ++ r ∷ [])
case_said cs rows v c r k hv hc small =
    let more = deepest_row_last rows r in
    let wide = widest_row_last rows r in
    let both = beside c.reading.measure v.reading.measure in
    let parts : IsKept both (max (depth r.cond) (depth r.value)) (nodes r.cond + nodes r.value) = kept_beside c.reading.measure v.reading.measure (depth r.cond) (nodes r.cond) (depth r.value) (nodes r.value) hc.says.kept hv.says.kept in
    let inner = kept_capped both (max (depth r.cond) (depth r.value)) (nodes r.cond + nodes r.value) parts (omega (arith, small.0, more), omega (arith, small.1, wide)) in
    let row : IsKept (row_measure c.reading.measure v.reading.measure) (row_depth r) (row_nodes r)
    = kept_capped (above (capped both)) (row_depth r) (row_nodes r) (kept_above (capped both) (max (depth r.cond) (depth r.value)) (nodes r.cond + nodes r.value) inner) (omega (arith, small.0, more), omega (arith, small.1, wide)) in
    let beside_rows = beside cs.measure (row_measure c.reading.measure v.reading.measure) in
    let all : IsKept beside_rows (deepest_row (rows ++ r ∷ [])) (all_row_nodes (rows ++ r ∷ []))
    = kept_as beside_rows _ _ (deepest_row (rows ++ r ∷ [])) (all_row_nodes (rows ++ r ∷ [])) (kept_beside cs.measure (row_measure c.reading.measure v.reading.measure) (deepest_row rows) (all_row_nodes rows) (row_depth r) (row_nodes r) k.kept row) (sym more) (sym wide) in
    let whole = kept_capped beside_rows (deepest_row (rows ++ r ∷ [])) (all_row_nodes (rows ++ r ∷ [])) all small in record {
      rows_are = kept_if (fits (capped beside_rows)) (with_row cs.rows c.reading.tree v.reading.tree) (Some (rows ++ r ∷ [])) (kept_fits (capped beside_rows) _ _ whole small)
          (ap (λ x. with_row x c.reading.tree v.reading.tree) k.rows_are ∙ ap₂ (λ x y. with_row (Some rows) x y) hc.says.tree_is hv.says.tree_is);
      kept = whole;
      unmarked = ap₂ (λ (a b : List Mark). a ++ (b ++ c.marks)) k.unmarked hv.unmarked ∙ hc.unmarked;
    }

pub nodes-Table : (rows : List Row) (last : Expr) → nodes (V.Table rows last) ≡ 1 + (all_row_nodes rows + nodes last)
unfolding nodes
nodes-Table rows last = fold-Table ℕ ℕ nodes_step nodes_row rows last ∙ ap (λ ns. 1 + (total ns + nodes last)) (rows_wide rows)

pub table_said : (cs : Cases) (rows : List Row) (v : Said) (last : Expr) → AreCases cs rows → IsSaid v last → IsSmallTree (V.Table rows last) → IsSaid (tabled cs v) (V.Table rows last)
table_said cs rows v last k h small =
    let deep = depth-Table rows last in
    let wide = nodes-Table rows last in
    let both = beside cs.measure v.reading.measure in
    let parts = kept_beside cs.measure v.reading.measure (deepest_row rows) (all_row_nodes rows) (depth last) (nodes last) k.kept h.says.kept in
    let inner = kept_capped both (max (deepest_row rows) (depth last)) (all_row_nodes rows + nodes last) parts (omega (arith, small.0, deep), omega (arith, small.1, wide)) in
    let all : IsKept (above (capped both)) (depth (V.Table rows last)) (nodes (V.Table rows last))
    = kept_as (above (capped both)) _ _ (depth (V.Table rows last)) (nodes (V.Table rows last)) (kept_above (capped both) (max (deepest_row rows) (depth last)) (all_row_nodes rows + nodes last) inner) (sym deep) (sym wide) in
    let whole = kept_capped (above (capped both)) (depth (V.Table rows last)) (nodes (V.Table rows last)) all small in record {
      says = record {
        tree_is = kept_if (fits (capped (above (capped both)))) (table_of cs.rows v.reading.tree) (Some (V.Table rows last)) (kept_fits (capped (above (capped both))) _ _ whole small) (ap₂ table_of k.rows_are h.says.tree_is);
        kept = whole;
      };
      unmarked = ap₂ (λ (a b : List Mark). a ++ b) k.unmarked h.unmarked;
    }
