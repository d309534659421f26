-- The nodes of a tree put its value on the stack.
use Rattle.std.proofs.Common.{◌≡◌, ℕ, suc, ◌-◌, ◌≤◌, Bool, true, false, List, [], ◌∷◌, ◌++◌, length, take, drop, map, refl, sym, ◌∙◌, ap, subst, arith}
use Rattle.std.specs.Prelude.{IsTrue, if◌then◌else◌, ◌||◌}
use Rattle.std.specs.List.{list_any}
use Rattle.opa_cells.specs.declared.instance.InstanceId.{InstanceId}
use Rattle.opa_value.specs.declared.value.Value.{Value}
use Rattle.opa_value.specs.declared.value.Value.TheVariants as value_of
use Rattle.opa_value.specs.Truth.{all_of, any_of, is_false, is_true, unless_open}
use mathlib.Core.Path.{fun_ext}
use Rattle.std.proofs.lemmas.List.{append-nil, append_assoc, length-append}
use Rattle.std.proofs.Math.Seq.{take-append_seam, drop-append_seam}
use Rattle.opa_model.specs.declared.ids.RelId.{RelId}
use Rattle.opa_case.specs.Shapes.{Shape}
use Rattle.opa_tree.specs.declared.kinds.Quant.{Quant}
use Rattle.opa_tree.specs.declared.expr.Expr.{Expr}
use Rattle.opa_tree.specs.declared.expr.Row.{Row}
use Rattle.opa_tree.specs.declared.expr.Expr.TheOpen.{Expr-F, Const, Attr, All, Any, Not, Op, Certain, Known, Over, Window, Rolling, Table}
use Rattle.opa_tree.specs.declared.expr.Expr.TheViews.{roll-Expr}
use Rattle.opa_tree.specs.declared.expr.Expr.TheFolds.{map-Expr}
use Rattle.opa_tree.specs.Trees.{has_form}
use Rattle.opa_tree.proofs.Induction.{by_parts, Part, RowPart, without}
use Rattle.opa_mean.specs.Looks.{Look}
use Rattle.opa_mean.specs.Meaning.{Meaning, RowMeaning, tree_step, value, choose, each, table}
use Rattle.opa_mean.proofs.Levels.{row_value, value-roll, row_value-is}
use Rattle.opa_code.specs.Codes.{code, code_step, joined, leaving, deciding, chosen_rows, row_nodes}
use Rattle.opa_code.specs.Running.{Run, finished, stepped, quantified, left, passed, Decides, IsStep, put, node_meaning, over_meaning, operand_count}
use Rattle.opa_code.specs.declared.node.Decider.{Decider}
use Rattle.opa_code.specs.declared.node.Decider.TheVariants.{AtFalse, AtTrue, Chosen}
use Rattle.opa_code.specs.declared.node.Node.{Node}
use Rattle.opa_code.specs.declared.node.Node.TheVariants as node
use Rattle.opa_code.specs.Runnable.{CanRun}
use Rattle.opa_code.proofs.CodeLaws.{row_folded, code-roll, row_folded-is, length_map}
use Rattle.opa_code.proofs.RunnableLaws.{both_run, within_a_century, form_runs}

-- what is put takes its operands off
pub put_behind : (l : Look) (n : Node) (st ms : List Meaning) → length ms ≡ operand_count n → put l n (st ++ ms) ≡ st ++ node_meaning l n ms ∷ []
put_behind l n st ms e =
    let k : length (st ++ ms) - operand_count n ≡ length st = let a = length-append st ms in omega (arith, a, e) in
    ap (λ k. take k (st ++ ms) ++ node_meaning l n (drop k (st ++ ms)) ∷ []) k
    ∙ ap (λ xs. xs ++ node_meaning l n (drop (length st) (st ++ ms)) ∷ []) (take-append_seam st ms)
    ∙ ap (λ xs. st ++ node_meaning l n xs ∷ []) (drop-append_seam st ms)

any_found : (p : Value → Bool) (x : Value) → p x ≡ true → (xs ys : List Value) → list_any p (xs ++ x ∷ ys) ≡ true
any_found p x e [] ys = ap (λ b. b || list_any p ys) e
any_found p x e (y ∷ xs) ys = ap (λ b. p y || b) (any_found p x e xs ys) ∙ or_true (p y)
  where
    or_true : (b : Bool) → (b || true) ≡ true
    or_true true = refl
    or_true false = refl

all_false : (xs ys : List Value) → all_of (xs ++ value_of.Bool false ∷ ys) ≡ value_of.Bool false
all_false xs ys = ap (λ b. if b then value_of.Bool false else unless_open (xs ++ value_of.Bool false ∷ ys) (value_of.Bool true)) (any_found is_false (value_of.Bool false) refl xs ys)

any_true : (xs ys : List Value) → any_of (xs ++ value_of.Bool true ∷ ys) ≡ value_of.Bool true
any_true xs ys = ap (λ b. if b then value_of.Bool true else unless_open (xs ++ value_of.Bool true ∷ ys) (value_of.Bool false)) (any_found is_true (value_of.Bool true) refl xs ys)

each_parts : (before : List Meaning) (newest : Meaning) (after : List Meaning) (enclosing : List InstanceId) (d : ℕ) → each (before ++ newest ∷ after) enclosing d ≡ each before enclosing d ++ newest enclosing d ∷ each after enclosing d
each_parts [] newest after enclosing d = refl
each_parts (m ∷ before) newest after enclosing d = ap (λ vs. m enclosing d ∷ vs) (each_parts before newest after enclosing d)

-- a value, uncertain where its condition is false
abbrev masked : Value → Value → Value
masked (value_of.Bool false) v = value_of.Uncertain
masked _ v = v

masked_chosen : (t v rest : Value) → choose t (masked t v) rest ≡ choose t v rest
masked_chosen value_of.Unknown v rest = refl
masked_chosen value_of.Uncertain v rest = refl
masked_chosen (value_of.Bool true) v rest = refl
masked_chosen (value_of.Bool false) v rest = refl
masked_chosen (value_of.Num n) v rest = refl
masked_chosen (value_of.Words w) v rest = refl
masked_chosen (value_of.Day n) v rest = refl

drop_past : (ns : List Node) (n : Node) (more : List Node) → drop (suc (length ns)) (ns ++ n ∷ more) ≡ more
drop_past [] n more = refl
drop_past (m ∷ ns) n more = drop_past ns n more

module _ (s : Shape) (l : Look) where
  -- whatever follows
  abbrev pub Leads : List Node → List Meaning → Type 0
  Leads ns ms = (rest : List Node) (st end : List Meaning) → Run l rest (st ++ ms) end → Run l (ns ++ rest) st end

  abbrev Gives : Expr → Type 0
  Gives e = CanRun (code s e) → Leads (code s e) (value s l e ∷ [])

  pub leads_none : Leads [] []
  leads_none rest st end r = subst (λ xs. Run l rest xs end) (append-nil st) r

  pub leads_both : (ns more : List Node) (ms ks : List Meaning) → Leads ns ms → Leads more ks → Leads (ns ++ more) (ms ++ ks)
  leads_both ns more ms ks f g rest st end r =
      subst (λ xs. Run l xs st end) (sym (append_assoc ns more rest))
      (f (more ++ rest) st end (g rest (st ++ ms) end (subst (λ xs. Run l rest xs end) (sym (append_assoc st ms ks)) r)))

  -- a node that takes its operands
  takes : (n : Node) (ms : List Meaning) → IsStep n → length ms ≡ operand_count n → (rest : List Node) (st end : List Meaning) → Run l rest (st ++ node_meaning l n ms ∷ []) end → Run l (n ∷ rest) (st ++ ms) end
  takes n ms ok e rest st end r = stepped (n ∷ rest) n rest (st ++ ms) end refl ok (subst (λ xs. Run l rest xs end) (sym (put_behind l n st ms e)) r)

  -- a node behind its operands
  pub leads_step : (ns : List Node) (n : Node) (ms : List Meaning) → Leads ns ms → IsStep n → length ms ≡ operand_count n → Leads (ns ++ n ∷ []) (node_meaning l n ms ∷ [])
  leads_step ns n ms f ok e rest st end r =
      subst (λ xs. Run l xs st end) (sym (append_assoc ns (n ∷ []) rest))
      (f (n ∷ rest) st end (takes n ms ok e rest st end r))

  abbrev nodes_of : List (Part Gives) → List Node
  nodes_of ps = joined (map (code s) (map (λ p. p.0) ps))

  abbrev values_of : List (Part Gives) → List Meaning
  values_of ps = map (value s l) (map (λ p. p.0) ps)

  leads_parts : (ps : List (Part Gives)) → CanRun (nodes_of ps) → Leads (nodes_of ps) (values_of ps)
  leads_parts [] h = leads_none
  leads_parts (p ∷ ps) h =
      let both = both_run (code s p.0) (nodes_of ps) h in
      leads_both (code s p.0) (nodes_of ps) (value s l p.0 ∷ []) (values_of ps) (p.1 both.0) (leads_parts ps both.1)

  counted : (ps : List (Part Gives)) → length (values_of ps) ≡ length (map (code s) (map (λ p. p.0) ps))
  counted ps = length_map (value s l) (map (λ p. p.0) ps) ∙ sym (length_map (code s) (map (λ p. p.0) ps))

  -- a quantifier before its operand
  leads_over : (ns : List Node) (q : Quant) (r : RelId) (source target : ℕ) (ms : List Meaning) → Leads ns ms → Leads (node.Over q r source target (length ns) ∷ ns) (over_meaning l q r source target ms ∷ [])
  leads_over ns q r source target ms f rest st end run =
      quantified _ q r source target (length ns) (ns ++ rest) st ms end refl
      (subst (λ xs. Run l xs [] ms) (append-nil ns ∙ sym (take-append_seam ns rest)) (f [] [] ms (finished [] ms refl)))
      (subst (λ xs. Run l xs (st ++ over_meaning l q r source target ms ∷ []) end) (sym (drop-append_seam ns rest)) run)

  -- operands of which each may decide, before the nodes that take them all
  module _ (how : Decider) (whole : Meaning) (behind : List Node) (all : List Meaning)
      (decides : (before : List Meaning) (newest : Meaning) (after : List Meaning) → all ≡ before ++ newest ∷ after → Decides how before newest whole)
      (taken : (rest : List Node) (st end : List Meaning) → Run l rest (st ++ whole ∷ []) end → Run l (behind ++ rest) (st ++ all) end) where
    leads_leaving : (dropped : ℕ) (ks : List Meaning) (ps : List (Part Gives)) → all ≡ ks ++ values_of ps → length ks ≡ dropped → CanRun (leaving how dropped (map (code s) (map (λ p. p.0) ps)) behind)
        → (rest : List Node) (st end : List Meaning) → Run l rest (st ++ whole ∷ []) end → Run l (leaving how dropped (map (code s) (map (λ p. p.0) ps)) behind ++ rest) (st ++ ks) end
    leads_leaving dropped ks [] e len h rest st end run = subst (λ xs. Run l (behind ++ rest) (st ++ xs) end) (e ∙ append-nil ks) (taken rest st end run)
    leads_leaving dropped ks (p ∷ ps) e len h rest st end run =
        let x = code s p.0 in let v = value s l p.0 in
        let more = leaving how (suc dropped) (map (code s) (map (λ p. p.0) ps)) behind in
        let both = both_run x (node.Leave how dropped (length more) ∷ more) h in
        let here : all ≡ (ks ++ v ∷ []) ++ values_of ps = e ∙ sym (append_assoc ks (v ∷ []) (values_of ps)) in
        let longer : length (ks ++ v ∷ []) ≡ suc dropped = (let a = length-append ks (v ∷ []) in omega (arith, a, len)) in
        let on : Run l (more ++ rest) ((st ++ ks) ++ v ∷ []) end = subst (λ xs. Run l (more ++ rest) xs end) (sym (append_assoc st ks (v ∷ []))) (leads_leaving (suc dropped) (ks ++ v ∷ []) ps here longer both.1 rest st end run) in
        let off : Run l (drop (length more) (more ++ rest)) (st ++ whole ∷ []) end = subst (λ xs. Run l xs (st ++ whole ∷ []) end) (sym (drop-append_seam more rest)) run in
        subst (λ xs. Run l xs (st ++ ks) end) (sym (append_assoc x (node.Leave how dropped (length more) ∷ more) rest))
        (p.1 both.0 (node.Leave how dropped (length more) ∷ (more ++ rest)) (st ++ ks) end
        (left _ how dropped (length more) (more ++ rest) st ks v whole ((st ++ ks) ++ v ∷ []) end refl refl len (decides ks v (values_of ps) e) on off))

  leads_deciding : (how : Decider) (n : Node) (ps : List (Part Gives)) → IsStep n → length (values_of ps) ≡ operand_count n
      → ((before : List Meaning) (newest : Meaning) (after : List Meaning) → values_of ps ≡ before ++ newest ∷ after → Decides how before newest (node_meaning l n (values_of ps)))
      → CanRun (leaving how 0 (map (code s) (map (λ p. p.0) ps)) (n ∷ [])) → Leads (leaving how 0 (map (code s) (map (λ p. p.0) ps)) (n ∷ [])) (node_meaning l n (values_of ps) ∷ [])
  leads_deciding how n ps ok e decides h rest st end run =
      subst (λ xs. Run l (leaving how 0 (map (code s) (map (λ p. p.0) ps)) (n ∷ []) ++ rest) xs end) (append-nil st)
      (leads_leaving how (node_meaning l n (values_of ps)) (n ∷ []) (values_of ps) decides (takes n (values_of ps) ok e) 0 [] ps refl refl h rest st end run)

  -- a row before those behind it
  module _ (c v ns : List Node) (test val others : Meaning) (f : Leads c (test ∷ [])) (g : Leads v (val ∷ [])) (o : Leads ns (others ∷ [])) where
    abbrev worth : Meaning → Meaning
    worth k = λ enclosing d. choose (test enclosing d) (k enclosing d) (others enclosing d)

    abbrev behind_row : List Node
    behind_row = ns ++ node.Choose ∷ []

    -- whatever stands for the value
    choosing : (k : Meaning) (rest : List Node) (st end : List Meaning) → Run l rest (st ++ worth k ∷ []) end → Run l (behind_row ++ rest) ((st ++ test ∷ []) ++ k ∷ []) end
    choosing k rest st end run =
        let is : ((st ++ test ∷ []) ++ k ∷ []) ++ others ∷ [] ≡ st ++ (test ∷ k ∷ others ∷ []) = append_assoc (st ++ test ∷ []) (k ∷ []) (others ∷ []) ∙ append_assoc st (test ∷ []) (k ∷ others ∷ []) in
        subst (λ xs. Run l xs ((st ++ test ∷ []) ++ k ∷ []) end) (sym (append_assoc ns (node.Choose ∷ []) rest))
        (o (node.Choose ∷ rest) ((st ++ test ∷ []) ++ k ∷ []) end
        (subst (λ xs. Run l (node.Choose ∷ rest) xs end) (sym is) (takes node.Choose (test ∷ k ∷ others ∷ []) tt refl rest st end run)))

    abbrev instead : Meaning
    instead = λ enclosing d. masked (test enclosing d) (val enclosing d)

    leads_chosen : Leads (deciding Chosen 1 (row_nodes c v) behind_row) (worth val ∷ [])
    leads_chosen rest st end run =
        let leave = node.Leave Chosen 1 (length behind_row) in
        let pass = node.Pass (suc (length v)) in
        let tail = leave ∷ (behind_row ++ rest) in
        let same : worth instead ≡ worth val = fun_ext (λ enclosing. fun_ext (λ d. masked_chosen (test enclosing d) (val enclosing d) (others enclosing d))) in
        let skipped : Run l (drop (suc (length v)) (v ++ tail)) ((st ++ test ∷ []) ++ instead ∷ []) end =
        subst (λ xs. Run l xs ((st ++ test ∷ []) ++ instead ∷ []) end) (sym (drop_past v leave (behind_row ++ rest))) (choosing instead rest st end (subst (λ m. Run l rest (st ++ m ∷ []) end) (sym same) run)) in
        let off : Run l (drop (length behind_row) (behind_row ++ rest)) (st ++ worth val ∷ []) end = subst (λ xs. Run l xs (st ++ worth val ∷ []) end) (sym (drop-append_seam behind_row rest)) run in
        let on : Run l (v ++ tail) (st ++ test ∷ []) end =
        g tail (st ++ test ∷ []) end (left _ Chosen 1 (length behind_row) (behind_row ++ rest) st (test ∷ []) val (worth val) ((st ++ test ∷ []) ++ val ∷ []) end refl refl refl
        (λ enclosing d h. ap (λ t. choose t (val enclosing d) (others enclosing d)) h) (choosing val rest st end run) off) in
        subst (λ xs. Run l xs st end) (sym (append_assoc (row_nodes c v) (leave ∷ behind_row) rest ∙ append_assoc c (pass ∷ v) (tail)))
        (f (pass ∷ (v ++ tail)) st end (passed _ (suc (length v)) (v ++ tail) st test instead (st ++ test ∷ []) end refl refl (λ enclosing d h. ap (λ t. masked t (val enclosing d)) h) on skipped))

  abbrev RowGives : Row → Type 0
  RowGives r = Gives r.cond × Gives r.value

  abbrev rows_of : List (RowPart Gives) → List (List Node)
  rows_of rs = map (row_folded s) (map (λ r. r.0) rs)

  abbrev row_values : List (RowPart Gives) → List RowMeaning
  row_values rs = map (row_value s l) (map (λ r. r.0) rs)

  leads_rows : (rs : List (RowPart Gives)) (last : List Node) (m : Meaning) → (CanRun last → Leads last (m ∷ [])) → CanRun (chosen_rows (rows_of rs) last) → Leads (chosen_rows (rows_of rs) last) (table (row_values rs) m ∷ [])
  leads_rows [] last m f h = f h
  leads_rows (r ∷ rs) last m f h =
      let others = chosen_rows (rows_of rs) last in
      let c = code s r.0.cond in let v = code s r.0.value in
      let t = table (row_values rs) m in
      let outer = both_run (row_folded s r.0) (node.Leave Chosen 1 (length (others ++ node.Choose ∷ [])) ∷ (others ++ node.Choose ∷ [])) h in
      let inner = both_run c (node.Pass (suc (length v)) ∷ v) (subst CanRun (row_folded-is s r.0) outer.0) in
      let more = both_run others (node.Choose ∷ []) outer.1 in
      let row = leads_chosen c v others (value s l r.0.cond) (value s l r.0.value) t (r.1.0 inner.0) (r.1.1 inner.1) (leads_rows rs last m f more.0) in
      let shaped = subst (λ xs. Leads (deciding Chosen 1 xs (others ++ node.Choose ∷ [])) ((λ enclosing d. choose (value s l r.0.cond enclosing d) (value s l r.0.value enclosing d) (t enclosing d)) ∷ [])) (sym (row_folded-is s r.0)) row in
      subst (λ (x : RowMeaning). Leads (chosen_rows (rows_of (r ∷ rs)) last) ((λ enclosing d. choose (x.cond enclosing d) (x.value enclosing d) (t enclosing d)) ∷ [])) (sym (row_value-is s l r.0)) shaped

  abbrev coded : Expr-F (Part Gives) (RowPart Gives) → List Node
  coded z = code_step s (map-Expr Expr Row (List Node) (List Node) (code s) (row_folded s) (without Gives z))

  abbrev Level : Expr-F (Part Gives) (RowPart Gives) → Type 0
  Level z = CanRun (coded z) → Leads (coded z) (tree_step s l (map-Expr Expr Row Meaning RowMeaning (value s l) (row_value s l) (without Gives z)) ∷ [])

  level : (z : Expr-F (Part Gives) (RowPart Gives)) → Level z
  level (Const v) h = leads_step [] (node.Const v) [] leads_none tt refl
  level (Attr a) h = leads_step [] (node.Attr a _) [] leads_none tt refl
  level (All ps) h = leads_deciding AtFalse (node.All _) ps tt (counted ps) (λ before newest after e enclosing d is. ap all_of (ap (λ ms. each ms enclosing d) e ∙ each_parts before newest after enclosing d ∙ ap (λ x. each before enclosing d ++ x ∷ each after enclosing d) is) ∙ all_false (each before enclosing d) (each after enclosing d) ∙ sym is) h
  level (Any ps) h = leads_deciding AtTrue (node.Any _) ps tt (counted ps) (λ before newest after e enclosing d is. ap any_of (ap (λ ms. each ms enclosing d) e ∙ each_parts before newest after enclosing d ∙ ap (λ x. each before enclosing d ++ x ∷ each after enclosing d) is) ∙ any_true (each before enclosing d) (each after enclosing d) ∙ sym is) h
  level (Not p) h = leads_step (code s p.0) node.Not (value s l p.0 ∷ []) (p.1 (both_run (code s p.0) _ h).0) tt refl
  level (Op k ps) h = leads_step (nodes_of ps) (node.Op k _) (values_of ps) (leads_parts ps (both_run (nodes_of ps) _ h).0) tt (counted ps)
  level (Certain p) h = leads_step (code s p.0) node.Certain (value s l p.0 ∷ []) (p.1 (both_run (code s p.0) _ h).0) tt refl
  level (Known p) h = leads_step (code s p.0) node.Known (value s l p.0 ∷ []) (p.1 (both_run (code s p.0) _ h).0) tt refl
  level (Over q r ps) h = leads_over (nodes_of ps) q r (s.source r) (s.target r) (values_of ps) (leads_parts ps h)
  level (Window k ps) h = leads_step (nodes_of ps) (node.Window k _) (values_of ps) (leads_parts ps (both_run (nodes_of ps) _ h).0) tt (counted ps)
  level (Rolling c n p) h =
      let both = both_run (code s p.0) (node.Rolling c n ∷ []) h in
      let few : n ≤ 36600 = within_a_century c n both.1 in
      leads_step (code s p.0) (node.Rolling c n) (value s l p.0 ∷ []) (p.1 both.0) few refl
  level (Table rs p) h = leads_rows rs (code s p.0) (value s l p.0) p.1 h

  gives : (e : Expr) → Gives e
  gives = by_parts Gives (λ z h.
      subst (λ xs. Leads xs (value s l (roll-Expr (without Gives z)) ∷ [])) (sym (code-roll s (without Gives z)))
      (subst (λ m. Leads (coded z) (m ∷ [])) (sym (value-roll s l (without Gives z))) (level z (subst CanRun (code-roll s (without Gives z)) h))))

  -- the nodes of a tree end with its value alone
  pub run_nodes : (e : Expr) → CanRun (code s e) → Run l (code s e) [] (value s l e ∷ [])
  run_nodes e h = subst (λ xs. Run l xs [] (value s l e ∷ [])) (append-nil (code s e)) (gives e h [] [] (value s l e ∷ []) (finished [] (value s l e ∷ []) refl))

  pub run_code : (e : Expr) (b : Bool) → IsTrue (has_form e b) → Run l (code s e) [] (value s l e ∷ [])
  run_code e b h = run_nodes e (form_runs s e b h)
