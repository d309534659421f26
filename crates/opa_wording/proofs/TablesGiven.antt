-- The rule of a table is one that the grammar gives, unless the table has no case.
use Rattle.std.proofs.Common.{◌≡◌, ◌+◌, ◌⊎◌, inl, inr, ℕ, zero, suc, List, [], ◌∷◌, ◌++◌, length, map, All, Bool, true, false, Option, Some, None, slice_get, refl, sym, ap, subst, ◌∙◌, arith}
use Rattle.std.proofs.lemmas.List.Elements.{All-nil, All-cons, All-head, All-tail}
use Rattle.opa_value.specs.declared.value.Value.TheVariants as value
use Rattle.opa_model.specs.declared.ids.AttrId.{AttrId}
use Rattle.opa_model.specs.declared.lists.Lists.{Lists}
use Rattle.opa_model.specs.Models.{HasAttribute}
use Rattle.opa_tree.specs.declared.kinds.OpKind.{OpKind}
use Rattle.opa_tree.specs.declared.expr.Expr.{Expr}
use Rattle.opa_tree.specs.declared.rules.Rule.{Rule}
use Rattle.opa_tree.specs.Trees.{op_arity}
use Rattle.opa_sentence.specs.declared.class.Class.{Class}
use Rattle.opa_sentence.specs.declared.class.Class.TheVariants as class
use Rattle.opa_sentence.specs.declared.names.Names.{Names}
use Rattle.opa_sentence.specs.declared.reading.Reading.{Reading}
use Rattle.opa_sentence.specs.Grammar.{LINE, OPERAND}
use Rattle.opa_sentence.specs.Lexemes.{Lexeme}
use Rattle.opa_sentence.specs.Measures.{fits, bounded}
use Rattle.opa_sentence.specs.Readings as says
use Rattle.opa_parse.specs.declared.block.RuleBlock.{RuleBlock}
use Rattle.opa_parse.specs.declared.block.Statement.{Statement}
use Rattle.opa_parse.specs.declared.group.Cases.{Cases}
use Rattle.opa_parse.specs.declared.group.Said.{Said}
use Rattle.opa_parse.specs.Naming.{names_in}
use Rattle.opa_parse.specs.Sayings.{with_case, table_of, table_measure, tabled}
use Rattle.opa_parse.proofs.Handing as hand
use Rattle.opa_parse.proofs.Handing.{Of as MadeOf, all_of, each_append, rules_each}
use Rattle.opa_parse.specs.declared.tables.cells.Case.{Case}
use Rattle.opa_parse.specs.declared.tables.cells.Found.{Found}
use Rattle.opa_parse.specs.declared.tables.cells.Found.TheVariants as found
use Rattle.opa_parse.specs.declared.tables.cells.Heading.{Heading}
use Rattle.opa_parse.specs.declared.tables.cells.Heading.TheVariants as heading
use Rattle.opa_parse.specs.declared.tables.cells.Heads.{Heads}
use Rattle.opa_parse.specs.declared.tables.cells.Last.{Last}
use Rattle.opa_parse.specs.declared.tables.cells.Table.{Table}
use Rattle.opa_parse.specs.declared.tables.cells.Test.{Test}
use Rattle.opa_parse.specs.declared.tables.cells.Test.TheVariants as test
use Rattle.opa_parse.specs.declared.tables.whole.TableFile.{TableFile}
use Rattle.opa_parse.specs.Tables.Cells as c
use Rattle.opa_parse.specs.Tables.Cells.{IsCell, SpellsHead, IsHeadCell, SpellsTest, IsConditionCell, IsValueCell, sign_of}
use Rattle.opa_parse.specs.Tables.Tables as t
use Rattle.opa_parse.specs.Tables.Tables.{Each, IsLast, AreCases, IsBelow, IsFound}
use Rattle.opa_parse.specs.Tables.Columns as col
use Rattle.opa_parse.specs.Tables.Columns.{compared, comparisons, condition, or_unnamed, value_at, no_cases_below, with_cases, column_by, column, column_block, blocks_from, blocks_of}
use Rattle.opa_parse.specs.Tables.Reading.{AreTableBlocks}
use Rattle.opa_parse.specs.Tables.Whole.{AreTabled}
use Rattle.opa_parse.proofs.tables.WholeLaws.{declared_hold}
use Rattle.opa_wording.specs.Given.{IsTree, IsRule}
use Rattle.opa_wording.specs.Grammatical.{is_round}
use Rattle.opa_wording.specs.ReadBack.{IsBare, AllRulesAreGiven}
use Rattle.opa_wording.proofs.LinesGiven.{Of, of_if, Given, GivenEach, AreNamed, literal_given, all_given, lines_give, between_given, class_such}
use Rattle.opa_wording.proofs.RulesGiven.{named, spelling_given, blocks_given, SomeRows, case_given, fewer_rows, tabled_given}
use Rattle.opa_wording.proofs.TokensGiven.{AreSuch, IsSuch, cut_such}

-- ---- cells

cell_such : (cell : List ℕ) (ws : List Lexeme) → IsCell cell ws → AreSuch ws
cell_such cell ws is = subst AreSuch (sym is.words_are) (cut_such cell is.tokens is.text is.cut)

sign_is : (d : Class) (k : OpKind) → sign_of d ≡ Some k → d ≡ class.Compare k
sign_is (class.Compare j) k e = let same : j ≡ k = cc e in ap (λ i. class.Compare i) same
sign_is _ k e = absurd (cc e)

module _ (m : Lists) where
  -- a comparison of two trees that are given
  abbrev TestGiven : Test → Type 0
  TestGiven test.Nothing = Unit {0}
  TestGiven (test.Compares k x) = (op_arity k ≡ 2) × (is_round k ≡ false) × Given m x.tree

  abbrev Tests : List Test → Type 0
  Tests [] = Unit {0}
  Tests (x ∷ xs) = TestGiven x × Tests xs

  abbrev HeadingGiven : Heading → Type 0
  HeadingGiven (heading.Condition x) = Given m x.tree
  HeadingGiven (heading.Conclusion a) = Unit {0}

  abbrev CaseGiven : Case → Type 0
  CaseGiven r = Tests r.tests × GivenEach m bounded r.values

  abbrev CasesGiven : List Case → Type 0
  CasesGiven [] = Unit {0}
  CasesGiven (r ∷ rs) = CaseGiven r × CasesGiven rs

  abbrev BelowGiven : Found → Type 0
  BelowGiven (found.Table d) = CasesGiven d.cases × GivenEach m bounded d.last.values
  BelowGiven (found.Unspelled n) = Unit {0}

  abbrev TableGiven : Table → Type 0
  TableGiven d = GivenEach m bounded d.heads.conditions × CasesGiven d.cases × GivenEach m bounded d.last.values

  abbrev FoundGiven : Found → Type 0
  FoundGiven (found.Table d) = TableGiven d
  FoundGiven (found.Unspelled n) = Unit {0}

  -- a tree below an equals sign, or a table without cases
  abbrev IsColumn : Expr → Type 0
  IsColumn e = IsBare m e ⊎ IsTree m false e

abbrev HasHeads : Heads → Found → Type 0
HasHeads h (found.Table d) = d.heads ≡ h
HasHeads h (found.Unspelled n) = Unit {0}

module _ (m : Lists) (ns : Names) (names : AreNamed m ns) where
  values_given : (cells : List (List ℕ)) (xs : List Reading) → Each (IsValueCell ns) cells xs → GivenEach m bounded xs
  values_given [] [] h = tt
  values_given [] (x ∷ xs) h = absurd h
  values_given (cell ∷ cells) [] h = absurd h
  values_given (cell ∷ cells) (x ∷ xs) h = (spelling_given m ns names LINE h.0.0 x (cell_such cell h.0.0 h.0.1) h.0.2.1, values_given cells xs h.1)

  words_test : (ws : List Lexeme) (x : Test) → AreSuch ws → SpellsTest ns ws x → TestGiven m x
  words_test ws x s (c.SpellsTest.equals {x = y} l) = (refl, refl, spelling_given m ns names OPERAND ws y s l.1)
  words_test ws x s (c.SpellsTest.compares {t = t} {ws = vs} {x = y} k e l) =
      let is : IsSuch (class.Compare k) t.text = class_such t.class (class.Compare k) t.text (sign_is t.class k e) s.0 in
      (is.0, is.1, spelling_given m ns names OPERAND vs y s.1 l.1)

  test_given : (cell : List ℕ) (x : Test) → IsConditionCell ns cell x → TestGiven m x
  test_given cell x c.IsConditionCell.empty = tt
  test_given cell x (c.IsConditionCell.filled {ws = ws} is s) = words_test ws x (cell_such cell ws is) s

  tests_given : (cells : List (List ℕ)) (xs : List Test) → Each (IsConditionCell ns) cells xs → Tests m xs
  tests_given [] [] h = tt
  tests_given [] (x ∷ xs) h = absurd h
  tests_given (cell ∷ cells) [] h = absurd h
  tests_given (cell ∷ cells) (x ∷ xs) h = (test_given cell x h.0, tests_given cells xs h.1)

  -- ---- heads

  words_head : (ws : List Lexeme) (h : Heading) → AreSuch ws → SpellsHead m ns ws h → HeadingGiven m h
  words_head ws h s (c.SpellsHead.condition {x = x} e k) = spelling_given m ns names OPERAND ws x s k.1
  words_head ws h s (c.SpellsHead.conclusion e k) = tt

  heads_given : (cells : List (List ℕ)) (xs : List Reading) (attrs : List (Option AttrId))
      → Each (IsHeadCell m ns) cells (map (λ x. heading.Condition x) xs ++ map (λ a. heading.Conclusion a) attrs) → GivenEach m bounded xs
  heads_given cells [] attrs h = tt
  heads_given [] (x ∷ xs) attrs h = absurd h
  heads_given (cell ∷ cells) (x ∷ xs) attrs h = (words_head h.0.0 (heading.Condition x) (cell_such cell h.0.0 h.0.1) h.0.2, heads_given cells xs attrs h.1)

  -- ---- tables

  cases_given : (h : Heads) (n : ℕ) (xs : List (List (List ℕ))) (rs : List Case) → AreCases ns h n xs rs → CasesGiven m rs
  cases_given h n [] [] a = tt
  cases_given h n [] (r ∷ rs) a = absurd a
  cases_given h n (x ∷ xs) [] a = absurd a
  cases_given h n (x ∷ xs) (r ∷ rs) a = ((tests_given _ r.tests a.0.tests, values_given _ r.values a.0.values), cases_given h (n + 1) xs rs a.1)

  last_given : (h : Heads) (n : ℕ) (cells : List (List ℕ)) (x : Last) → IsLast ns h n cells x → GivenEach m bounded x.values
  last_given h n cells x is = values_given _ x.values is.values

  below_given : (h : Heads) {xs : List (List (List ℕ))} {f : Found} → IsBelow ns h xs f → BelowGiven m f × HasHeads h f
  below_given h (t.IsBelow.values {x = x} cells e s is) = ((tt, last_given h 2 cells x is), refl)
  below_given h (t.IsBelow.no_values _ _ e s none) = (tt, tt)
  below_given h (t.IsBelow.too_many _ _ _ _ e s is) = (tt, tt)
  below_given h (t.IsBelow.cases {cs = cs} {x = x} middle cells e s are is) = ((cases_given h 2 middle cs are, last_given h (length middle + 2) cells x is), refl)
  below_given h (t.IsBelow.no_case _ _ e s odd) = (tt, tt)
  below_given h (t.IsBelow.no_last _ _ _ e s are none) = (tt, tt)

  with_heads : (h : Heads) (f : Found) → GivenEach m bounded h.conditions → BelowGiven m f × HasHeads h f → FoundGiven m f
  with_heads h (found.Table d) hs b = (subst (λ (z : Heads). GivenEach m bounded z.conditions) (sym b.1) hs, b.0.0, b.0.1)
  with_heads h (found.Unspelled n) hs b = tt

  found_given : {xs : List (List (List ℕ))} {f : Found} → IsFound m ns xs f → FoundGiven m f
  found_given (t.IsFound.too_few e) = tt
  found_given (t.IsFound.no_heads _ _ e none) = tt
  found_given (t.IsFound.headed {f = f} _ first h e some are b) = with_heads h f (heads_given first h.conditions h.conclusions are.cells_say) (below_given h b)

module _ (m : Lists) (ns : Names) (names : AreNamed m ns) where
  -- ---- conditions

  readings_append : (xs ys : List Reading) → GivenEach m bounded xs → GivenEach m bounded ys → GivenEach m bounded (xs ++ ys)
  readings_append [] ys p q = q
  readings_append (x ∷ xs) ys p q = (p.0, readings_append xs ys p.1 q)

  compared_given : (x : Reading) (y : Test) → Given m x.tree → TestGiven m y → GivenEach m bounded (compared x y)
  compared_given x test.Nothing p q = tt
  compared_given x (test.Compares k y) p q = (between_given m ns names bounded k q.0 q.1 x y p q.2, tt)

  comparisons_given : (xs : List Reading) (ts : List Test) → GivenEach m bounded xs → Tests m ts → GivenEach m bounded (comparisons xs ts)
  comparisons_given [] ts p q = tt
  comparisons_given (x ∷ xs) [] p q = tt
  comparisons_given (x ∷ xs) (y ∷ ts) p q = readings_append (compared x y) (comparisons xs ts) (compared_given x y p.0 q.0) (comparisons_given xs ts p.1 q.1)

  all_of_given : (xs : List Reading) → GivenEach m bounded xs → Given m (col.all_of xs).tree
  all_of_given [] h = literal_given m bounded (value.Bool true) refl tt
  all_of_given (x ∷ []) h = h.0
  all_of_given (x ∷ y ∷ xs) h = all_given m bounded (length (x ∷ y ∷ xs)) (says.lines bounded (x ∷ y ∷ xs)) (omega arith) (lines_give m bounded (length (x ∷ y ∷ xs)) (x ∷ y ∷ xs) refl h)

  condition_given : (xs : List Reading) (r : Case) → GivenEach m bounded xs → Tests m r.tests → Given m (condition xs r).reading.tree
  condition_given xs r p q = all_of_given (comparisons xs r.tests) (comparisons_given xs r.tests p q)

  -- ---- columns

  place_given : (place : ℕ) (xs : List Reading) → GivenEach m bounded xs → Given m (or_unnamed (slice_get xs place)).tree
  place_given place [] h = tt
  place_given zero (x ∷ xs) h = h.0
  place_given (suc n) (x ∷ xs) h = place_given n xs h.1

  one_case : (xs : List Reading) (place : ℕ) (cs : Cases) (r : Case) → GivenEach m bounded xs → Of (SomeRows m ns names 0) cs.rows → CaseGiven m r → Of (SomeRows m ns names 1) (with_case cs (value_at place r.number r.values) (condition xs r)).rows
  one_case xs place cs r p s q = case_given m ns names cs (value_at place r.number r.values) (condition xs r) s (place_given place r.values q.1) (condition_given xs r p q.0)

  more_cases : (xs : List Reading) (place : ℕ) (cs : Cases) (rs : List Case) → GivenEach m bounded xs → Of (SomeRows m ns names 1) cs.rows → CasesGiven m rs → Of (SomeRows m ns names 1) (with_cases xs place cs rs).rows
  more_cases xs place cs [] p s q = s
  more_cases xs place cs (r ∷ rs) p s q =
      more_cases xs place (with_case cs (value_at place r.number r.values) (condition xs r)) rs p (one_case xs place cs r p (fewer_rows m ns names cs.rows s) q.0) q.1

  bare : (v : Option Expr) → Given m v → Of (IsColumn m) (table_of (Some []) v)
  bare None h = tt
  bare (Some v) h = inl (v, h, refl)

  of_tree : (o : Option Expr) → Of (IsTree m false) o → Of (IsColumn m) o
  of_tree None h = tt
  of_tree (Some e) h = inr h

  as_equation : (o : Option Expr) → Given m o → Of (IsColumn m) o
  as_equation None h = tt
  as_equation (Some e) h = inr (IsTree.equation e h)

  cased : (x : Reading) (xs : List Reading) (place : ℕ) (rs : List Case) (v : Said) → GivenEach m bounded (x ∷ xs) → CasesGiven m rs → Given m v.reading.tree → Of (IsColumn m) (tabled (with_cases (x ∷ xs) place (no_cases_below (x ∷ xs)) rs) v).reading.tree
  cased x xs place [] v p q h = of_if (IsColumn m) (fits (table_measure (no_cases_below (x ∷ xs)) v.reading.measure)) (table_of (Some []) v.reading.tree) (bare v.reading.tree h)
  cased x xs place (r ∷ rs) v p q h =
      let first = with_case (no_cases_below (x ∷ xs)) (value_at place r.number r.values) (condition (x ∷ xs) r) in
      of_tree _
      (tabled_given m ns names (with_cases (x ∷ xs) place first rs) v (more_cases (x ∷ xs) place first rs p (one_case (x ∷ xs) place (no_cases_below (x ∷ xs)) r p (omega arith, tt) q.0) q.1) h)

  column_given : (d : Table) (place : ℕ) → TableGiven m d → Of (IsColumn m) (column d place).reading.tree
  column_given d place h = by d.heads.conditions h.0
    where
      by : (xs : List Reading) → GivenEach m bounded xs → Of (IsColumn m) (column_by xs place d.cases d.last).reading.tree
      by [] p = as_equation _ (place_given place d.last.values h.2)
      by (x ∷ xs) p = cased x xs place d.cases (value_at place d.last.number d.last.values) p h.1 (place_given place d.last.values h.2)

  -- ---- rules

  -- what a rule is as a tree below its conclusion, or a table without cases
  abbrev Inside : Rule → Type 0
  Inside r = IsBare m r.expr ⊎ IsTree m r.by_if r.expr

  column_block_given : (file : ℕ) (d : Table) (place : ℕ) (a : Option AttrId) → TableGiven m d → MadeOf Inside (column_block file d place a)
  column_block_given file d place a h b e s p q r =
      let said = column d place in
      let whole : Statement = record { attr = a; by_if = false; said = said } in
      let same : whole ≡ s = cc p in
      let k : Of (IsColumn m) (Some e) = subst (Of (IsColumn m)) (ap (λ (z : Statement). z.said.reading.tree) same ∙ r) (column_given d place h) in
      subst (λ (by_if : Bool). IsBare m e ⊎ IsTree m by_if e) (ap (λ (z : Statement). z.by_if) same) k

  columns_given : (file : ℕ) (d : Table) (place : ℕ) (attrs : List (Option AttrId)) → TableGiven m d → hand.Each (MadeOf Inside) (blocks_from file d place attrs)
  columns_given file d place [] h = tt
  columns_given file d place (a ∷ attrs) h = (column_block_given file d place a h, columns_given file d (place + 1) attrs h)

  found_blocks : (file : ℕ) (f : Found) → FoundGiven m f → hand.Each (MadeOf Inside) (blocks_of file f)
  found_blocks file (found.Table d) h = columns_given file d 0 d.heads.conclusions h
  found_blocks file (found.Unspelled n) h = (λ a e s p q r. absurd (cc p), tt)

  table_blocks : (file : ℕ) (bytes : List ℕ) (blocks : List RuleBlock) → AreTableBlocks m ns file bytes blocks → hand.Each (MadeOf Inside) blocks
  table_blocks file bytes blocks a = subst (hand.Each (MadeOf Inside)) (sym a.blocks_are) (found_blocks file a.found (found_given m ns names a.is_found))

  tabled_blocks : (tables : List TableFile) (tabled : List RuleBlock) → AreTabled m ns tables tabled → hand.Each (MadeOf Inside) tabled
  tabled_blocks [] tabled h = let none : hand.Each (MadeOf Inside) [] = tt in subst (hand.Each (MadeOf Inside)) (sym h) none
  tabled_blocks (x ∷ tables) tabled h =
      subst (hand.Each (MadeOf Inside)) (sym h.4) (each_append (MadeOf Inside) h.0 h.1 (table_blocks x.file x.bytes h.0 h.2) (tabled_blocks tables h.1 h.3))

  -- a rule of blocks has such a tree too
  from_rules : (blocks : List RuleBlock) → hand.Each (MadeOf (IsRule m)) blocks → hand.Each (MadeOf Inside) blocks
  from_rules [] h = tt
  from_rules (x ∷ blocks) h = (λ a e s p q r. inr (h.0 a e s p q r).tree, from_rules blocks h.1)

  -- with its attribute declared
  whole_rule : (r : Rule) → HasAttribute m r.attr → Inside r → IsBare m r.expr ⊎ IsRule m r
  whole_rule r d (inl bare) = inl bare
  whole_rule r d (inr own) = inr (record { attribute = d; tree = own })

  whole_rules : (rules : List Rule) → All (λ (r : Rule). HasAttribute m r.attr) rules → hand.Each Inside rules → All (λ (r : Rule). IsBare m r.expr ⊎ IsRule m r) rules
  whole_rules [] d h = All-nil (λ (r : Rule). IsBare m r.expr ⊎ IsRule m r)
  whole_rules (r ∷ rules) d h =
      All-cons (λ (r : Rule). IsBare m r.expr ⊎ IsRule m r) r rules (whole_rule r (All-head (λ (r : Rule). HasAttribute m r.attr) r rules d) h.0) (whole_rules rules (All-tail (λ (r : Rule). HasAttribute m r.attr) r rules d) h.1)

pub all_rules_are_given_hold : AllRulesAreGiven
all_rules_are_given_hold m inferences members blocks textual tables rules a =
    let ns : Names = names_in m inferences in
    let names = named m inferences members in
    let own = from_rules m ns names a.found (blocks_given m ns names a.are_found textual) in
    let each = each_append (MadeOf (Inside m ns names)) a.found a.tabled own (tabled_blocks m ns names tables a.tabled a.are_tabled) in
    whole_rules m ns names rules (declared_hold m inferences blocks tables rules a) (subst (hand.Each (Inside m ns names)) (sym a.rules_are) (rules_each (Inside m ns names) (a.found ++ a.tabled) each))
