-- What is handed on of the rules of a table.
use Rattle.std.proofs.Common.{◌≡◌, ℕ, zero, suc, ◌+◌, ◌≤◌, List, [], ◌∷◌, ◌++◌, length, map, true, false, Option, Some, slice_get, refl, sym, ap, subst, ◌∙◌, arith}
use Rattle.opa_value.specs.declared.value.Value.TheVariants as value
use Rattle.opa_model.specs.declared.ids.AttrId.{AttrId}
use Rattle.opa_model.specs.declared.lists.Lists.{Lists}
use Rattle.opa_model.specs.Models.{HasAttribute}
use Rattle.opa_tree.specs.declared.expr.Expr.{Expr}
use Rattle.opa_tree.specs.declared.expr.Expr.TheVariants as expr
use Rattle.opa_tree.specs.declared.kinds.OpKind.{OpKind}
use Rattle.opa_tree.specs.declared.rules.Inferred.{Inferred}
use Rattle.opa_tree.specs.declared.rules.Rule.{Rule}
use Rattle.opa_tree.specs.Accepted.{HaveForm, AreShallow}
use Rattle.opa_tree.specs.Trees.{depth, has_form, HasForm, IsShallow, op_arity}
use Rattle.opa_tree.proofs.DepthLaws.{depth-Op, depth-Const}
use Rattle.opa_tree.proofs.FormLaws.{form-Const}
use Rattle.opa_sentence.specs.declared.class.Class.{Class}
use Rattle.opa_sentence.specs.declared.class.Class.TheVariants as class
use Rattle.opa_sentence.specs.declared.measure.Measure.{Measure}
use Rattle.opa_sentence.specs.declared.names.Names.{Names}
use Rattle.opa_sentence.specs.declared.reading.Reading.{Reading}
use Rattle.opa_sentence.specs.declared.reading.Parts.{Parts}
use Rattle.opa_sentence.specs.Grammar.{LINE, OPERAND}
use Rattle.opa_sentence.specs.Lexemes.{Lexeme}
use Rattle.opa_sentence.specs.Measures.{bounded, fits}
use Rattle.opa_sentence.specs.Readings as says
use Rattle.opa_parse.specs.declared.block.RuleBlock.{RuleBlock}
use Rattle.opa_parse.specs.declared.block.Statement.{Statement}
use Rattle.opa_io.specs.declared.limits.TheConstants.{MOST_RULES}
use Rattle.opa_parse.specs.declared.group.Cases.{Cases}
use Rattle.opa_parse.specs.Handed.{AreFormed, AreDeclared}
use Rattle.opa_parse.specs.Naming.{names_in}
use Rattle.opa_parse.specs.Rules.{inferred_nodes}
use Rattle.opa_parse.specs.Sayings.{with_case}
use Rattle.opa_parse.proofs.Handing as hand
use Rattle.opa_parse.proofs.Handing.{Of, Formed, IsDeclared, is_true, all_of, each_of, members_form, rules_each, concluded_declared, room, fewer}
use Rattle.opa_parse.proofs.LineForms.{MembersForm, IsReal, AreReal, lexemes_real, op_form, below}
use Rattle.opa_parse.proofs.GroupForms.{Sound, SoundAll, SoundRows, SoundTop, SoundSaid, part_sound, none_sound, with_part_sound, two_parts_sound, over_sound, all_sound, kept_sound, at_top, with_case_sound, tabled_sound}
use Rattle.opa_parse.specs.declared.tables.cells.Case.{Case}
use Rattle.opa_parse.specs.declared.tables.cells.Found.{Found}
use Rattle.opa_parse.specs.declared.tables.cells.Found.TheVariants as found
use Rattle.opa_parse.specs.declared.tables.cells.Heading.{Heading}
use Rattle.opa_parse.specs.declared.tables.cells.Heading.TheVariants as heading
use Rattle.opa_parse.specs.declared.tables.cells.Heads.{Heads}
use Rattle.opa_parse.specs.declared.tables.cells.Last.{Last}
use Rattle.opa_parse.specs.declared.tables.cells.Table.{Table}
use Rattle.opa_parse.specs.declared.tables.cells.Test.{Test}
use Rattle.opa_parse.specs.declared.tables.cells.Test.TheVariants as test
use Rattle.opa_parse.specs.Tables.Cells as c
use Rattle.opa_parse.specs.Tables.Cells.{IsCell, SpellsHead, IsHeadCell, sign_of, SpellsTest, IsConditionCell, IsValueCell}
use Rattle.opa_parse.specs.Tables.Tables as t
use Rattle.opa_parse.specs.Tables.Tables.{Each, headings, AreHeads, IsCase, IsLast, AreCases, IsBelow, IsFound}
use Rattle.opa_parse.specs.Tables.Columns as col
use Rattle.opa_parse.specs.Tables.Columns.{compared, comparisons, condition, or_unnamed, value_at, no_cases_below, with_cases, column_by, column, column_block, blocks_from, blocks_of}
use Rattle.opa_parse.specs.Tables.Reading.{AreTableBlocks, AreTableRules, AreIn}

-- ---- cells

words_real : (cell : List ℕ) (ws : List Lexeme) → IsCell cell ws → AreReal ws
words_real cell ws is = subst AreReal (sym is.words_are) (lexemes_real cell is.tokens)

signed_arity : (d : Class) (k : OpKind) → sign_of d ≡ Some k → IsReal d → op_arity k ≡ 2
signed_arity (class.Compare j) k e r = let q : j ≡ k = cc e in ap op_arity (sym q) ∙ r
signed_arity d k e r = absurd (cc e)

-- what a condition cell asks for is a comparison of two with a sound literal
abbrev SoundTest : Test → Type 0
SoundTest test.Nothing = Unit {0}
SoundTest (test.Compares k x) = (op_arity k ≡ 2) × Sound x

abbrev Sounds : List Reading → Type 0
Sounds [] = Unit {0}
Sounds (x ∷ xs) = Sound x × Sounds xs

abbrev SoundTests : List Test → Type 0
SoundTests [] = Unit {0}
SoundTests (x ∷ xs) = SoundTest x × SoundTests xs

module _ (m : Lists) (ns : Names) (members : MembersForm bounded ns.members) where
  value_sound : (cell : List ℕ) (x : Reading) → IsValueCell ns cell x → Sound x
  value_sound cell x is = part_sound ns LINE is.0 x members (words_real cell is.0 is.1) is.2.1

  values_sound : (cells : List (List ℕ)) (xs : List Reading) → Each (IsValueCell ns) cells xs → Sounds xs
  values_sound [] [] h = tt
  values_sound [] (x ∷ xs) h = absurd h
  values_sound (c ∷ cells) [] h = absurd h
  values_sound (c ∷ cells) (x ∷ xs) h = (value_sound c x h.0, values_sound cells xs h.1)

  words_test : (ws : List Lexeme) (x : Test) → AreReal ws → SpellsTest ns ws x → SoundTest x
  words_test ws x r (c.SpellsTest.equals {x = y} l) = (refl, part_sound ns OPERAND ws y members r l.1)
  words_test ws x r (c.SpellsTest.compares {t = w} {ws = vs} {x = y} k e l) = (signed_arity w.class k e r.0, part_sound ns OPERAND vs y members r.1 l.1)

  test_sound : (cell : List ℕ) (x : Test) → IsConditionCell ns cell x → SoundTest x
  test_sound cell x c.IsConditionCell.empty = tt
  test_sound cell x (c.IsConditionCell.filled {ws = ws} is s) = words_test ws x (words_real cell ws is) s

  tests_sound : (cells : List (List ℕ)) (xs : List Test) → Each (IsConditionCell ns) cells xs → SoundTests xs
  tests_sound [] [] h = tt
  tests_sound [] (x ∷ xs) h = absurd h
  tests_sound (c ∷ cells) [] h = absurd h
  tests_sound (c ∷ cells) (x ∷ xs) h = (test_sound c x h.0, tests_sound cells xs h.1)

  -- ---- heads

  abbrev SoundHeading : Heading → Type 0
  SoundHeading (heading.Condition x) = Sound x
  SoundHeading (heading.Conclusion a) = Unit {0}

  words_head : (ws : List Lexeme) (h : Heading) → AreReal ws → SpellsHead m ns ws h → SoundHeading h
  words_head ws h r (c.SpellsHead.condition {x = x} e k) = part_sound ns OPERAND ws x members r k.1
  words_head ws h r (c.SpellsHead.conclusion {ws = vs} e k) = tt

  head_sound : (cell : List ℕ) (h : Heading) → IsHeadCell m ns cell h → SoundHeading h
  head_sound cell h is = words_head is.0 h (words_real cell is.0 is.1) is.2

  heads_sound : (cells : List (List ℕ)) (xs : List Reading) (attrs : List (Option AttrId)) → Each (IsHeadCell m ns) cells (map (λ x. heading.Condition x) xs ++ map (λ a. heading.Conclusion a) attrs) → Sounds xs
  heads_sound cells [] attrs h = tt
  heads_sound [] (x ∷ xs) attrs h = absurd h
  heads_sound (c ∷ cells) (x ∷ xs) attrs h = (head_sound c (heading.Condition x) h.0, heads_sound cells xs attrs h.1)

  -- ---- tables

  abbrev SoundCase : Case → Type 0
  SoundCase r = SoundTests r.tests × Sounds r.values

  abbrev SoundCases : List Case → Type 0
  SoundCases [] = Unit {0}
  SoundCases (r ∷ rs) = SoundCase r × SoundCases rs

  cases_sound : (h : Heads) (n : ℕ) (xs : List (List (List ℕ))) (rs : List Case) → AreCases ns h n xs rs → SoundCases rs
  cases_sound h n [] [] a = tt
  cases_sound h n [] (r ∷ rs) a = absurd a
  cases_sound h n (x ∷ xs) [] a = absurd a
  cases_sound h n (x ∷ xs) (r ∷ rs) a = ((tests_sound _ r.tests a.0.tests, values_sound _ r.values a.0.values), cases_sound h (n + 1) xs rs a.1)

  last_sound : (h : Heads) (n : ℕ) (cells : List (List ℕ)) (x : Last) → IsLast ns h n cells x → Sounds x.values
  last_sound h n cells x is = values_sound _ x.values is.values

  abbrev SoundBelow : Found → Type 0
  SoundBelow (found.Table d) = SoundCases d.cases × Sounds d.last.values
  SoundBelow (found.Unspelled n) = Unit {0}

  abbrev HasHeads : Heads → Found → Type 0
  HasHeads h (found.Table d) = d.heads ≡ h
  HasHeads h (found.Unspelled n) = Unit {0}

  below_sound : (h : Heads) {xs : List (List (List ℕ))} {f : Found} → IsBelow ns h xs f → SoundBelow f × HasHeads h f
  below_sound h (t.IsBelow.values {x = x} cells e s is) = ((tt, last_sound h 2 cells x is), refl)
  below_sound h (t.IsBelow.no_values _ _ e s none) = (tt, tt)
  below_sound h (t.IsBelow.too_many _ _ _ _ e s is) = (tt, tt)
  below_sound h (t.IsBelow.cases {cs = cs} {x = x} middle cells e s are is) = ((cases_sound h 2 middle cs are, last_sound h (length middle + 2) cells x is), refl)
  below_sound h (t.IsBelow.no_case _ _ e s odd) = (tt, tt)
  below_sound h (t.IsBelow.no_last _ _ _ e s are none) = (tt, tt)

  abbrev SoundTable : Table → Type 0
  SoundTable d = Sounds d.heads.conditions × SoundCases d.cases × Sounds d.last.values

  abbrev pub SoundFound : Found → Type 0
  SoundFound (found.Table d) = SoundTable d
  SoundFound (found.Unspelled n) = Unit {0}

  with_heads : (h : Heads) (f : Found) → Sounds h.conditions → SoundBelow f × HasHeads h f → SoundFound f
  with_heads h (found.Table d) hs b = (subst (λ (z : Heads). Sounds z.conditions) (sym b.1) hs, b.0.0, b.0.1)
  with_heads h (found.Unspelled n) hs b = tt

  pub found_sound : {xs : List (List (List ℕ))} {f : Found} → IsFound m ns xs f → SoundFound f
  found_sound (t.IsFound.too_few e) = tt
  found_sound (t.IsFound.no_heads _ _ e none) = tt
  found_sound (t.IsFound.headed {f = f} _ first h e some are b) = with_heads h f (heads_sound first h.conditions h.conclusions are.cells_say) (below_sound h b)

-- ---- conditions

between_sound : (k : OpKind) (x y : Reading) → op_arity k ≡ 2 → Sound x → Sound y → Sound (says.between bounded k x y)
between_sound k x y e p q =
    over_sound (op_arity k) (λ es. expr.Op k es) (says.two_parts bounded x y) (op_form k) (depth-Op k)
    (subst (λ n. SoundAll n (says.two_parts bounded x y).measure (says.two_parts bounded x y).trees) (sym e) (two_parts_sound x y p q))

sounds_append : (xs ys : List Reading) → Sounds xs → Sounds ys → Sounds (xs ++ ys)
sounds_append [] ys p q = q
sounds_append (x ∷ xs) ys p q = (p.0, sounds_append xs ys p.1 q)

compared_sound : (x : Reading) (y : Test) → Sound x → SoundTest y → Sounds (compared x y)
compared_sound x test.Nothing p q = tt
compared_sound x (test.Compares k y) p q = (between_sound k x y q.0 p q.1, tt)

comparisons_sound : (xs : List Reading) (ts : List Test) → Sounds xs → SoundTests ts → Sounds (comparisons xs ts)
comparisons_sound [] ts p q = tt
comparisons_sound (x ∷ xs) [] p q = tt
comparisons_sound (x ∷ xs) (y ∷ ts) p q = sounds_append (compared x y) (comparisons xs ts) (compared_sound x y p.0 q.0) (comparisons_sound xs ts p.1 q.1)

gathered_sound : (n : ℕ) (p : Parts) (rs : List Reading) → SoundAll n p.measure p.trees → Sounds rs → SoundAll (n + length rs) (says.gathered bounded p rs).measure (says.gathered bounded p rs).trees
gathered_sound n p [] h k = subst (λ j. SoundAll j p.measure p.trees) (let e : n ≡ n + 0 = omega arith in e) h
gathered_sound n p (r ∷ rs) h k =
    subst (λ j. SoundAll j (says.gathered bounded p (r ∷ rs)).measure (says.gathered bounded p (r ∷ rs)).trees) (let e : (n + 1) + length rs ≡ n + length (r ∷ rs) = omega arith in e)
    (gathered_sound (n + 1) (says.with_part bounded p r) rs (with_part_sound n p r h k.0) k.1)

true_sound : Sound (says.literal bounded (value.Bool true))
true_sound =
    kept_sound (says.literal_measure bounded (value.Bool true)) (expr.Const (value.Bool true)) (fits (says.literal_measure bounded (value.Bool true))) refl
    (λ top. below top _ _ (form-Const (value.Bool true)) refl) (λ h. omega (arith, depth-Const (value.Bool true)))

all_of_sound : (xs : List Reading) → Sounds xs → Sound (col.all_of xs)
all_of_sound [] h = true_sound
all_of_sound (x ∷ []) h = h.0
all_of_sound (x ∷ y ∷ xs) h =
    all_sound (0 + length (x ∷ y ∷ xs)) (says.lines bounded (x ∷ y ∷ xs)) (omega arith) (gathered_sound 0 (says.no_parts bounded) (x ∷ y ∷ xs) none_sound h)

condition_sound : (xs : List Reading) (r : Case) → Sounds xs → SoundTests r.tests → Sound (condition xs r).reading
condition_sound xs r p q = all_of_sound (comparisons xs r.tests) (comparisons_sound xs r.tests p q)

-- ---- columns

place_sound : (place : ℕ) (xs : List Reading) → Sounds xs → Sound (or_unnamed (slice_get xs place))
place_sound place [] h = tt
place_sound zero (x ∷ xs) h = h.0
place_sound (suc n) (x ∷ xs) h = place_sound n xs h.1

module _ (m : Lists) (ns : Names) (members : MembersForm bounded ns.members) where
  with_cases_sound : (xs : List Reading) (place : ℕ) (cs : Cases) (rs : List Case) → Sounds xs → SoundRows cs.measure cs.rows → SoundCases m ns members rs → SoundRows (with_cases xs place cs rs).measure (with_cases xs place cs rs).rows
  with_cases_sound xs place cs [] p s q = s
  with_cases_sound xs place cs (r ∷ rs) p s q =
      let v = value_at place r.number r.values in
      with_cases_sound xs place (with_case cs v (condition xs r)) rs p (with_case_sound cs v (condition xs r) s (place_sound place r.values q.0.1) (condition_sound xs r p q.0.0)) q.1

  column_sound : (d : Table) (place : ℕ) → SoundTable m ns members d → SoundSaid (column d place)
  column_sound d place h = by d.heads.conditions h.0
    where
      by : (xs : List Reading) → Sounds xs → SoundSaid (column_by xs place d.cases d.last)
      by [] p = let v = value_at place d.last.number d.last.values in at_top v.reading.measure v.reading.tree (place_sound place d.last.values h.2)
      by (x ∷ xs) p =
          tabled_sound (with_cases (x ∷ xs) place (no_cases_below (x ∷ xs)) d.cases) (value_at place d.last.number d.last.values)
          (with_cases_sound (x ∷ xs) place (no_cases_below (x ∷ xs)) d.cases p (refl, omega arith) h.1) (place_sound place d.last.values h.2)

  -- ---- rules

  abbrev Fine : Rule → Type 0
  Fine r = HasForm r.expr × IsShallow r.expr

  tree_fine : (mm : Measure) (o : Option Expr) (e : Expr) → o ≡ Some e → SoundTop mm o → (has_form e true ≡ true) × (depth e ≤ 64)
  tree_fine mm o e h s = let k : SoundTop mm (Some e) = subst (SoundTop mm) h s in k

  block_fine : (file : ℕ) (d : Table) (place : ℕ) (a : Option AttrId) → SoundTable m ns members d → Of Fine (column_block file d place a)
  block_fine file d place a h b e s p q r =
      let said = column d place in
      let whole : Statement = record { attr = a; by_if = false; said = said } in
      let same : whole ≡ s = cc p in
      let k = tree_fine said.reading.measure said.reading.tree e (ap (λ (z : Statement). z.said.reading.tree) same ∙ r) (column_sound d place h) in
      (is_true (has_form e true) k.0, k.1)

  blocks_fine : (file : ℕ) (d : Table) (place : ℕ) (attrs : List (Option AttrId)) → SoundTable m ns members d → hand.Each (Of Fine) (blocks_from file d place attrs)
  blocks_fine file d place [] h = tt
  blocks_fine file d place (a ∷ attrs) h = (block_fine file d place a h, blocks_fine file d (place + 1) attrs h)

  pub found_fine : (file : ℕ) (f : Found) → SoundFound m ns members f → hand.Each (Of Fine) (blocks_of file f)
  found_fine file (found.Table d) h = blocks_fine file d 0 d.heads.conclusions h
  found_fine file (found.Unspelled n) h = (λ a e s p q r. absurd (cc p), tt)

-- ---- files

abbrev pub In : ℕ → Rule → Type 0
In file r = r.file ≡ file

blocks_in : (file : ℕ) (d : Table) (place : ℕ) (attrs : List (Option AttrId)) → hand.Each (Of (In file)) (blocks_from file d place attrs)
blocks_in file d place [] = tt
blocks_in file d place (a ∷ attrs) = (λ b e s p q r. refl, blocks_in file d (place + 1) attrs)

pub found_in : (file : ℕ) (f : Found) → hand.Each (Of (In file)) (blocks_of file f)
found_in file (found.Table d) = blocks_in file d 0 d.heads.conclusions
found_in file (found.Unspelled n) = (λ b e s p q r. refl, tt)

-- ---- what is concluded

module _ (m : Lists) where
  abbrev DeclaredHeading : Heading → Type 0
  DeclaredHeading (heading.Condition x) = Unit {0}
  DeclaredHeading (heading.Conclusion a) = IsDeclared m a

  abbrev AllDeclared : List (Option AttrId) → Type 0
  AllDeclared [] = Unit {0}
  AllDeclared (a ∷ attrs) = IsDeclared m a × AllDeclared attrs

  abbrev pub Concludes : Rule → Type 0
  Concludes r = HasAttribute m r.attr

  abbrev pub DeclaredFound : Found → Type 0
  DeclaredFound (found.Table d) = AllDeclared d.heads.conclusions
  DeclaredFound (found.Unspelled n) = Unit {0}

  block_concludes : (file : ℕ) (d : Table) (place : ℕ) (a : Option AttrId) → IsDeclared m a → Of Concludes (column_block file d place a)
  block_concludes file d place a declared b e s p q r =
      let whole : Statement = record { attr = a; by_if = false; said = column d place } in
      let same : whole ≡ s = cc p in
      declared b (ap (λ (z : Statement). z.attr) same ∙ q)

  blocks_conclude : (file : ℕ) (d : Table) (place : ℕ) (attrs : List (Option AttrId)) → AllDeclared attrs → hand.Each (Of Concludes) (blocks_from file d place attrs)
  blocks_conclude file d place [] h = tt
  blocks_conclude file d place (a ∷ attrs) h = (block_concludes file d place a h.0, blocks_conclude file d (place + 1) attrs h.1)

  pub found_concludes : (file : ℕ) (f : Found) → DeclaredFound f → hand.Each (Of Concludes) (blocks_of file f)
  found_concludes file (found.Table d) h = blocks_conclude file d 0 d.heads.conclusions h
  found_concludes file (found.Unspelled n) h = (λ a e s p q r. absurd (cc p), tt)

  module _ (ns : Names) where
    words_declared : (ws : List Lexeme) (h : Heading) → SpellsHead m ns ws h → DeclaredHeading h
    words_declared ws h (c.SpellsHead.condition e k) = tt
    words_declared ws h (c.SpellsHead.conclusion {ws = vs} e k) = concluded_declared m vs

    conclusions_declared : (cells : List (List ℕ)) (attrs : List (Option AttrId)) → Each (IsHeadCell m ns) cells (map (λ a. heading.Conclusion a) attrs) → AllDeclared attrs
    conclusions_declared cells [] h = tt
    conclusions_declared [] (a ∷ attrs) h = absurd h
    conclusions_declared (c ∷ cells) (a ∷ attrs) h = (words_declared h.0.0 (heading.Conclusion a) h.0.2, conclusions_declared cells attrs h.1)

    heads_declared : (cells : List (List ℕ)) (xs : List Reading) (attrs : List (Option AttrId)) → Each (IsHeadCell m ns) cells (map (λ x. heading.Condition x) xs ++ map (λ a. heading.Conclusion a) attrs) → AllDeclared attrs
    heads_declared cells [] attrs h = conclusions_declared cells attrs h
    heads_declared [] (x ∷ xs) attrs h = absurd h
    heads_declared (c ∷ cells) (x ∷ xs) attrs h = heads_declared cells xs attrs h.1

    abbrev HeadsOf : Heads → Found → Type 0
    HeadsOf h (found.Table d) = d.heads ≡ h
    HeadsOf h (found.Unspelled n) = Unit {0}

    heads_below : (h : Heads) {xs : List (List (List ℕ))} {f : Found} → IsBelow ns h xs f → HeadsOf h f
    heads_below h (t.IsBelow.values _ e s is) = refl
    heads_below h (t.IsBelow.no_values _ _ e s none) = tt
    heads_below h (t.IsBelow.too_many _ _ _ _ e s is) = tt
    heads_below h (t.IsBelow.cases _ _ e s are is) = refl
    heads_below h (t.IsBelow.no_case _ _ e s odd) = tt
    heads_below h (t.IsBelow.no_last _ _ _ e s are none) = tt

    as_declared : (h : Heads) (f : Found) → AllDeclared h.conclusions → HeadsOf h f → DeclaredFound f
    as_declared h (found.Table d) k e = subst (λ (z : Heads). AllDeclared z.conclusions) (sym e) k
    as_declared h (found.Unspelled n) k e = tt

    pub found_declared : {xs : List (List (List ℕ))} {f : Found} → IsFound m ns xs f → DeclaredFound f
    found_declared (t.IsFound.too_few e) = tt
    found_declared (t.IsFound.no_heads _ _ e none) = tt
    found_declared (t.IsFound.headed {f = f} _ first h e some are b) = as_declared h f (heads_declared first h.conditions h.conclusions are.cells_say) (heads_below h b)

-- ---- what the bytes of a table give

abbrev FineRule : Rule → Type 0
FineRule r = HasForm r.expr × IsShallow r.expr

pub table_fine : (m : Lists) (ns : Names) → MembersForm bounded ns.members → (file : ℕ) (bytes : List ℕ) (blocks : List RuleBlock) → AreTableBlocks m ns file bytes blocks → hand.Each (Of FineRule) blocks
table_fine m ns members file bytes blocks a = subst (hand.Each (Of FineRule)) (sym a.blocks_are) (found_fine m ns members file a.found (found_sound m ns members a.is_found))

pub table_concludes : (m : Lists) (ns : Names) (file : ℕ) (bytes : List ℕ) (blocks : List RuleBlock) → AreTableBlocks m ns file bytes blocks → hand.Each (Of (Concludes m)) blocks
table_concludes m ns file bytes blocks a = subst (hand.Each (Of (Concludes m))) (sym a.blocks_are) (found_concludes m file a.found (found_declared m ns a.is_found))

pub table_in : (m : Lists) (ns : Names) (file : ℕ) (bytes : List ℕ) (blocks : List RuleBlock) → AreTableBlocks m ns file bytes blocks → hand.Each (Of (In file)) blocks
table_in m ns file bytes blocks a = subst (hand.Each (Of (In file))) (sym a.blocks_are) (found_in file a.found)

-- ---- all rules of a table

module _ (m : Lists) (inferences : List Inferred) (file : ℕ) (bytes : List ℕ) (rules : List Rule) (h : AreTableRules m inferences file bytes rules) where
  -- what holds of each block's rule holds of the rules
  of_blocks : (P : Rule → Type 0) → hand.Each (Of P) h.blocks → hand.Each P rules
  of_blocks P k = subst (hand.Each P) (sym h.rules_are) (rules_each P h.blocks k)

  fine_hold : AreFormed inferences → hand.Each FineRule rules
  fine_hold formed = of_blocks FineRule (table_fine m (names_in m inferences) (members_form inferences (each_of Formed inferences formed)) file bytes h.blocks h.are_blocks)

  pub formed_hold : AreFormed inferences → HaveForm rules
  formed_hold formed = all_of (λ (r : Rule). HasForm r.expr) rules (hand.each_left (λ (r : Rule). HasForm r.expr) (λ (r : Rule). IsShallow r.expr) rules (fine_hold formed))

  pub shallow_hold : AreFormed inferences → AreShallow rules
  shallow_hold formed = all_of (λ (r : Rule). IsShallow r.expr) rules (hand.each_right (λ (r : Rule). HasForm r.expr) (λ (r : Rule). IsShallow r.expr) rules (fine_hold formed))

  pub declared_hold : AreDeclared m rules
  declared_hold = all_of (Concludes m) rules (of_blocks (Concludes m) (table_concludes m (names_in m inferences) file bytes h.blocks h.are_blocks))

  pub filed_hold : AreIn file rules
  filed_hold = all_of (In file) rules (of_blocks (In file) (table_in m (names_in m inferences) file bytes h.blocks h.are_blocks))

  pub few_hold : length rules ≤ 4000
  few_hold =
      let z : 0 ≤ MOST_RULES = omega arith in
      let k = room 0 (inferred_nodes inferences) h.blocks h.sound z in
      omega (arith, fewer h.blocks, k, ap length h.rules_are)
