-- Each rule that is read is one that the grammar gives.
use Rattle.std.proofs.Common.{◌≡◌, ◌≤◌, ◌<◌, ◌+◌, ℕ, zero, suc, List, [], ◌∷◌, ◌++◌, length, map, All, Bool, true, false, if◌then◌else◌, Option, Some, None, slice_get, option_map, refl, sym, subst, ◌∙◌, arith}
use Rattle.std.specs.Option.{option_or}
use Rattle.std.specs.Prelude.{codes}
use Rattle.std.specs.Str.{IsUtf8}
use Rattle.std.proofs.lemmas.List.Elements.{All-nil, All-head, All-tail}
use Rattle.opa_model.specs.declared.ids.RelId.{RelId}
use Rattle.opa_model.specs.declared.lists.Lists.{Lists}
use Rattle.opa_model.specs.declared.things.Attribute.{Attribute}
use Rattle.opa_model.specs.declared.things.Relation.{Relation as Declared}
use Rattle.opa_model.specs.Models.{HasAttribute, HasRelation}
use Rattle.opa_tree.specs.declared.kinds.Quant.TheVariants as quant
use Rattle.opa_tree.specs.declared.expr.Expr.{Expr}
use Rattle.opa_tree.specs.declared.expr.Row.{Row}
use Rattle.opa_tree.specs.declared.rules.Inferred.{Inferred}
use Rattle.opa_words.specs.declared.layout.block.Block.{Block}
use Rattle.opa_words.specs.declared.layout.block.BlockLine.{BlockLine}
use Rattle.opa_words.specs.Reserved.{is_ending}
use Rattle.opa_sentence.specs.declared.names.Names.{Names}
use Rattle.opa_sentence.specs.declared.names.Operand.{Operand}
use Rattle.opa_sentence.specs.declared.names.Relation.{Relation}
use Rattle.opa_sentence.specs.declared.names.Relation.TheVariants as relation
use Rattle.opa_sentence.specs.declared.reading.Reading.{Reading}
use Rattle.opa_sentence.specs.declared.reading.Parts.{Parts}
use Rattle.opa_sentence.specs.Grammar.{Part, LINE}
use Rattle.opa_sentence.specs.Lexemes.{Lexeme}
use Rattle.opa_sentence.specs.Measures.{fits, capped, unbounded, bounded}
use Rattle.opa_sentence.specs.Phrases.{past_words}
use Rattle.opa_sentence.specs.Spelling.{IsSpelling}
use Rattle.opa_sentence.specs.Table.{relation_at}
use Rattle.opa_parse.specs.declared.block.RuleBlock.{RuleBlock}
use Rattle.opa_parse.specs.declared.block.Statement.{Statement}
use Rattle.opa_parse.specs.declared.group.Cases.{Cases}
use Rattle.opa_parse.specs.declared.group.Group.{Group}
use Rattle.opa_parse.specs.declared.group.Joint.{Joint}
use Rattle.opa_parse.specs.declared.group.Joint.TheVariants as joint
use Rattle.opa_parse.specs.declared.group.Said.{Said}
use Rattle.opa_parse.specs.declared.group.Several.{Several}
use Rattle.opa_parse.specs.declared.line.Head.{Head}
use Rattle.opa_parse.specs.declared.line.Head.TheVariants as head
use Rattle.opa_parse.specs.declared.line.Line.{Line}
use Rattle.opa_parse.specs.Blocks as b
use Rattle.opa_parse.specs.Blocks.{SpellsRule, IsStatement, SpellsMembers, IsMembership, if_every, every_of}
use Rattle.opa_parse.specs.Memberships as members
use Rattle.opa_parse.specs.declared.block.MemberBlock.{MemberBlock}
use Rattle.opa_parse.specs.declared.block.Membership.{Membership}
use Rattle.opa_parse.specs.Groups as g
use Rattle.opa_parse.specs.Groups.{Item, Grouped, More, Case, MoreCases, AllCases}
use Rattle.opa_parse.specs.Lines.{IsCut, IsLine, AreLines, body, is_none, past_for_all, past_for_some, past_denial, past_word, whole, whole_relation, relation_of, over, all_head, any_head, plain_head, for_all_head, for_some_head, head_of}
use Rattle.opa_parse.specs.Naming.{operand, meanings_from, declared_from, inferred_from, member_of, names_in}
use Rattle.opa_verbs.specs.Phrasing.{denials}
use Rattle.opa_parse.specs.Openings.{past_one, past_equals}
use Rattle.opa_parse.specs.Rules as r
use Rattle.opa_parse.specs.Rules.{AreRuleBlocks, IsRuleBlock, AreRules, rules_in}
use Rattle.opa_parse.specs.Sayings.{of_line, head_reading, joined, row_of, with_row, cases_measure, with_case, table_of, table_measure, tabled}
use Rattle.opa_parse.proofs.Handing.{Each, all_of, each_append, rules_each, declared_of, Of as MadeOf}
use Rattle.opa_wording.specs.Given.{IsRow, AreRows, IsTree, IsRule}
use Rattle.opa_wording.specs.Grammatical.{IsGrammatical}
use Rattle.opa_wording.specs.ReadBack.{AreMembersGiven, AreTextual, RulesAreGiven, InferencesAreGiven}
use Rattle.opa_wording.proofs.LinesGiven.{Of, of_if, Given, Gives, with_part_gives, one_part_gives, denial_given, all_given, any_given, head_relation_given, IsRelated, IsMember, AreMembers, AreNamed, such_past, relation_named, given_by}
use Rattle.opa_wording.proofs.TokensGiven.{AreSuch, cut_such}

-- ---- names in a model

denied_operand : (m : Lists) (n : ℕ) (ds : List (List ℕ)) (os : List Operand) (i : ℕ) → n < length m.attributes → ((i : ℕ) → Of (λ (x : Operand). HasAttribute m x.attr) (slice_get os i))
    → Of (λ (x : Operand). HasAttribute m x.attr) (slice_get (map (λ t. operand n true) ds ++ os) i)
denied_operand m n [] os i h f = f i
denied_operand m n (d ∷ ds) os zero h f = h
denied_operand m n (d ∷ ds) os (suc i) h f = denied_operand m n ds os i h f

operands_from : (m : Lists) (n : ℕ) (xs : List Attribute) (i : ℕ) → n + length xs ≤ length m.attributes → Of (λ (x : Operand). HasAttribute m x.attr) (slice_get (meanings_from m n xs) i)
operands_from m n [] i h = tt
operands_from m n (x ∷ xs) zero h = omega (arith, h)
operands_from m n (x ∷ xs) (suc i) h = denied_operand m n (denials m x) (meanings_from m (n + 1) xs) i (omega (arith, h)) (λ i. operands_from m (n + 1) xs i (omega (arith, h)))

inferred_related : {A : Type 0} (m : Lists) (n : ℕ) (xs : List A) (i : ℕ) → Of (IsRelated m) (slice_get (inferred_from n xs) i)
inferred_related m n [] i = tt
inferred_related m n (x ∷ xs) zero = tt
inferred_related m n (x ∷ xs) (suc i) = inferred_related m (n + 1) xs i

relations_from : {A : Type 0} (m : Lists) (n : ℕ) (xs : List Declared) (inferences : List A) (i : ℕ) → n + length xs ≤ length m.relations → Of (IsRelated m) (slice_get (declared_from n xs ++ inferred_from 0 inferences) i)
relations_from m n [] inferences i h = inferred_related m 0 inferences i
relations_from m n (x ∷ xs) inferences zero h = omega (arith, h)
relations_from m n (x ∷ xs) inferences (suc i) h = relations_from m (n + 1) xs inferences i (omega (arith, h))

members_given : (m : Lists) (inferences : List Inferred) → AreMembersGiven m inferences → AreMembers m (map member_of inferences)
members_given m [] h n x e = absurd (cc e)
members_given m (i ∷ more) h zero x e =
    let here = All-head (λ (y : Inferred). IsGrammatical m y.expr × HasRelation m y.every) i more h in
    let f : member_of i ≡ x = cc e in
    subst (IsMember m) f (here.0, here.1)
members_given m (i ∷ more) h (suc n) x e = members_given m more (All-tail (λ (y : Inferred). IsGrammatical m y.expr × HasRelation m y.every) i more h) n x e

pub named : (m : Lists) (inferences : List Inferred) → AreMembersGiven m inferences → AreNamed m (names_in m inferences)
named m inferences h = record {
  operands = λ i. operands_from m 0 m.attributes i (omega arith);
  relations = λ i. relations_from m 0 m.relations inferences i (omega arith);
  members = members_given m inferences h;
}

-- ---- the words of lines

such_body : (ts : List Lexeme) → AreSuch ts → AreSuch (body ts)
such_body [] h = h
such_body (t ∷ []) h = at (is_ending t.text)
  where
    at : (k : Bool) → AreSuch (if k then [] else t ∷ [])
    at true = tt
    at false = h
such_body (t ∷ u ∷ ts) h = (h.0, such_body (u ∷ ts) h.1)

such_one : (ts : List Lexeme) → AreSuch ts → AreSuch (past_one ts)
such_one [] h = h
such_one (t ∷ ts) h = h.1

such_words : (line : BlockLine) (ws : List Lexeme) → IsUtf8 line.text → IsCut line ws → AreSuch ws
such_words line ws u c = subst AreSuch (sym c.words_are) (cut_such line.text c.tokens u c.cut)

module _ (m : Lists) (ns : Names) (names : AreNamed m ns) where
  -- ---- heads

  abbrev HeadRelated : Head → Type 0
  HeadRelated (head.ForAll x) = IsRelated m x
  HeadRelated (head.Exists x) = IsRelated m x
  HeadRelated h = Unit {0}

  of_or : (o p : Option Head) → Of HeadRelated o → Of HeadRelated p → Of HeadRelated (option_or o p)
  of_or None p h k = k
  of_or (Some x) p h k = h

  whole_head : (h : Head) (o : Option (List Lexeme)) → HeadRelated h → Of HeadRelated (whole h o)
  whole_head h None k = tt
  whole_head h (Some []) k = k
  whole_head h (Some (t ∷ ts)) k = tt

  of_test : (k : Bool) (y : Relation) → IsRelated m y → Of (IsRelated m) (if k then Some y else None)
  of_test true y h = h
  of_test false y h = tt

  whole_related : (ts : List Lexeme) → Of (IsRelated m) (relation_of ns ts)
  whole_related ts = at (relation_at ns ts) refl
    where
      at : (o : Option (Relation × List Lexeme)) → relation_at ns ts ≡ o → Of (IsRelated m) (whole_relation o)
      at None e = tt
      at (Some x) e = of_test (is_none x.1) x.0 (relation_named m ns names ts x e)

  over_head : (f : Relation → Head) (o : Option (List Lexeme)) → ((x : Relation) → IsRelated m x → HeadRelated (f x)) → Of HeadRelated (over ns f o)
  over_head f None h = tt
  over_head f (Some ts) h = at (relation_of ns ts) (whole_related ts)
    where
      at : (o : Option Relation) → Of (IsRelated m) o → Of HeadRelated (option_map f o)
      at None k = tt
      at (Some x) k = h x k

  head_related : (ts : List Lexeme) → Of HeadRelated (head_of ns ts)
  head_related ts =
      of_or (plain_head ts) (option_or (for_all_head ns ts) (for_some_head ns ts))
      (of_or (all_head ts) (option_or (any_head ts) (whole head.Not (past_denial ts)))
      (of_or (whole head.All (past_word (codes "all") ts)) (whole head.All (past_word (codes "both") ts)) (whole_head head.All (past_word (codes "all") ts) tt) (whole_head head.All (past_word (codes "both") ts) tt))
      (of_or (any_head ts) (whole head.Not (past_denial ts))
      (of_or (whole head.Any (past_word (codes "any") ts)) (whole head.Any (past_word (codes "either") ts)) (whole_head head.Any (past_word (codes "any") ts) tt) (whole_head head.Any (past_word (codes "either") ts) tt))
      (whole_head head.Not (past_denial ts) tt)))
      (of_or (for_all_head ns ts) (for_some_head ns ts) (over_head (λ x. head.ForAll x) (past_for_all ts) (λ x h. h)) (over_head (λ x. head.Exists x) (past_for_some ts) (λ x h. h)))

  -- ---- lines

  -- what a line says as a line is given, and what it is as a head is declared
  record IsLineGiven (l : Line) : Type 0 where
    pub says : (x : Reading) → l.says ≡ Some x → Given m x.tree
    pub head : (h : Head) → l.head ≡ Some h → HeadRelated h

  abbrev AreLinesGiven : List Line → Type 0
  AreLinesGiven [] = Unit {0}
  AreLinesGiven (l ∷ ls) = IsLineGiven l × AreLinesGiven ls

  pub spelling_given : (p : Part) (ts : List Lexeme) (x : Reading) → AreSuch ts → IsSpelling ns p ts (Some x) → Given m x.tree
  spelling_given p ts x such h =
      subst (λ (y : Reading). Given m y.tree) (sym h.2) (of_if (IsGrammatical m) (fits (capped h.0.measure)) h.0.tree (given_by m ns names unbounded h.1 such).0)

  line_given : (line : BlockLine) (l : Line) → IsUtf8 line.text → IsLine ns line l → IsLineGiven l
  line_given line l u h = record {
    says = λ x e. spelling_given LINE (body h.words) x (such_body h.words (such_words line h.words u h.cut)) (subst (IsSpelling ns LINE (body h.words)) e h.words_say.says_is);
    head = λ x e. let k : Of HeadRelated (Some x) = subst (Of HeadRelated) (sym h.words_say.head_is ∙ e) (head_related (body h.words)) in k;
  }

  lines_given : (bs : List BlockLine) (ls : List Line) → All (λ l. IsUtf8 l.text) bs → AreLines ns bs ls → AreLinesGiven ls
  lines_given [] [] u h = tt
  lines_given [] (l ∷ ls) u h = absurd h
  lines_given (x ∷ bs) [] u h = absurd h
  lines_given (x ∷ bs) (l ∷ ls) u h = (line_given x l (All-head (λ (y : BlockLine). IsUtf8 y.text) x bs u) h.0, lines_given bs ls (All-tail (λ (y : BlockLine). IsUtf8 y.text) x bs u) h.1)

  -- ---- groups

  head_given : (h : Head) (x : Reading) → HeadRelated h → Given m x.tree → Given m (head_reading ns h x).tree
  head_given head.All x r s = s
  head_given head.Any x r s = s
  head_given head.Not x r s = denial_given m bounded x s
  head_given (head.ForAll q) x r s = head_relation_given m bounded ns.members quant.ForAll q x names.members r refl s
  head_given (head.Exists q) x r s = head_relation_given m bounded ns.members quant.Exists q x names.members r refl s

  joined_given : (j : Joint) (n : ℕ) (p : Parts) → 2 ≤ n → Gives m n p.trees → Given m (joined j p).tree
  joined_given joint.And n p h s = all_given m bounded n p h s
  joined_given joint.Or n p h s = any_given m bounded n p h s

  mutual
    item_given : {k : ℕ} {j : Option Joint} {ls : List Line} {x : Said} {rest : List Line} → Item ns k j ls x rest → AreLinesGiven ls → Given m x.reading.tree × AreLinesGiven rest
    item_given (g.Item.line {x = x} p q e r) = λ s. (s.0.says x r, s.1)
    item_given (g.Item.last {h = h} {g = y} p e r d t a) = λ s. let c = group_given d s.1 in (head_given h y.said.reading (s.0.head h r) c.0, c.1)
    item_given (g.Item.with_connector {h = h} {g = y} p e r d t q b w) = λ s. let c = group_given d s.1 in (head_given h y.said.reading (s.0.head h r) c.0, c.1.1)

    group_given : {k : ℕ} {ls : List Line} {y : Group} {rest : List Line} → Grouped ns k ls y rest → AreLinesGiven ls → Given m y.said.reading.tree × AreLinesGiven rest
    group_given (g.Grouped.one d) = λ s. item_given d s
    group_given (g.Grouped.many {x = x} {y = y} j d n) = λ s.
        let c = item_given d s in
        let e = more_items_given n c.1 1 (omega arith) (one_part_gives m bounded x.reading c.0) in
        (joined_given j e.0.0 y.parts e.0.1 e.0.2, e.1)

    more_items_given : {k : ℕ} {j : Joint} {ls : List Line} {y z : Several} {rest : List Line} → More ns k j ls y z rest → AreLinesGiven ls → (n : ℕ) → 1 ≤ n → Gives m n y.parts.trees
        → ((n : ℕ) × (2 ≤ n) × Gives m n z.parts.trees) × AreLinesGiven rest
    more_items_given (g.More.end {y = y} {x = x} d) = λ s n o h. let c = item_given d s in ((n + 1, omega (arith, o), with_part_gives m bounded n y.parts x.reading h c.0), c.1)
    more_items_given (g.More.more {y = y} {x = x} d e) = λ s n o h. let c = item_given d s in more_items_given e c.1 (n + 1) (omega arith) (with_part_gives m bounded n y.parts x.reading h c.0)

  -- ---- cases

  -- rows, of which there is one at least where the flag says so
  abbrev pub SomeRows : ℕ → List Row → Type 0
  SomeRows n rows = (n ≤ length rows) × AreRows m rows

  rows_last : (rows : List Row) (x : Row) → AreRows m rows → IsRow m x → AreRows m (rows ++ x ∷ [])
  rows_last [] x h k = (k, tt)
  rows_last (y ∷ rows) x h k = (h.0, rows_last rows x h.1 k)

  more_rows : (rows : List Row) (x : Row) → 1 ≤ length (rows ++ x ∷ [])
  more_rows [] x = omega arith
  more_rows (y ∷ rows) x = omega arith

  with_row_given : (rows : Option (List Row)) (c v : Option Expr) → Of (SomeRows 0) rows → Given m c → Given m v → Of (SomeRows 1) (with_row rows c v)
  with_row_given None c v h p q = tt
  with_row_given (Some rows) None v h p q = tt
  with_row_given (Some rows) (Some c) None h p q = tt
  with_row_given (Some rows) (Some c) (Some v) h p q = (more_rows rows (row_of c v), rows_last rows (row_of c v) h.1 (record { value = q; cond = p }))

  pub case_given : (cs : Cases) (v c : Said) → Of (SomeRows 0) cs.rows → Given m v.reading.tree → Given m c.reading.tree → Of (SomeRows 1) (with_case cs v c).rows
  case_given cs v c h q p = of_if (SomeRows 1) (fits (cases_measure cs c.reading.measure v.reading.measure)) (with_row cs.rows c.reading.tree v.reading.tree) (with_row_given cs.rows c.reading.tree v.reading.tree h p q)

  pub fewer_rows : (o : Option (List Row)) → Of (SomeRows 1) o → Of (SomeRows 0) o
  fewer_rows None h = tt
  fewer_rows (Some rows) h = (omega arith, h.1)

  table_given : (rows : Option (List Row)) (v : Option Expr) → Of (SomeRows 1) rows → Given m v → Of (IsTree m false) (table_of rows v)
  table_given None v h q = tt
  table_given (Some rows) None h q = tt
  table_given (Some rows) (Some v) h q = IsTree.table rows v h.0 h.1 q

  pub tabled_given : (cs : Cases) (v : Said) → Of (SomeRows 1) cs.rows → Given m v.reading.tree → Of (IsTree m false) (tabled cs v).reading.tree
  tabled_given cs v h q = of_if (IsTree m false) (fits (table_measure cs v.reading.measure)) (table_of cs.rows v.reading.tree) (table_given cs.rows v.reading.tree h q)

  one_case_given : {ls : List Line} {cs ds : Cases} {rest : List Line} → Case ns ls cs ds rest → AreLinesGiven ls → Of (SomeRows 0) cs.rows → Of (SomeRows 1) ds.rows × AreLinesGiven rest
  one_case_given (g.Case.case {l = l} {x = x} {g = y} {cs = cs} p e r d) = λ s h. let c = group_given d s.1 in (case_given cs (of_line l.number x) y.said h (s.0.says x r) c.0, c.1)

  more_cases_given : {ls : List Line} {cs : Cases} {x : Said} {rest : List Line} → MoreCases ns ls cs x rest → AreLinesGiven ls → Of (SomeRows 1) cs.rows → Of (IsTree m false) x.reading.tree
  more_cases_given (g.MoreCases.otherwise {l = l} {x = x} {cs = cs} p e r) = λ s h. tabled_given cs (of_line l.number x) h (s.0.says x r)
  more_cases_given (g.MoreCases.more_cases {cs = cs} d n) = λ s h. let c = one_case_given d s (fewer_rows cs.rows h) in more_cases_given n c.1 c.0

  all_cases_given : {ls : List Line} {x : Said} {rest : List Line} → AllCases ns ls x rest → AreLinesGiven ls → Of (IsTree m false) x.reading.tree
  all_cases_given (g.AllCases.first_case d n) = λ s. let c = one_case_given d s (omega arith, tt) in more_cases_given n c.1 c.0

  -- ---- rules

  as_tree : (by_if : Bool) (o : Option Expr) → ((e : Expr) → IsGrammatical m e → IsTree m by_if e) → Given m o → Of (IsTree m by_if) o
  as_tree by_if None f h = tt
  as_tree by_if (Some e) f h = f e h

  statement_given : {lines : List BlockLine} {s : Statement} → SpellsRule m ns lines s → All (λ l. IsUtf8 l.text) lines → Of (IsTree m s.by_if) s.said.reading.tree
  statement_given (b.SpellsRule.by_if {first = first} {lines = lines} {ls = ls} {g = y} p c o l d) = λ u.
      as_tree true y.said.reading.tree (λ e h. IsTree.conditions e h) (group_given d (lines_given lines ls (All-tail (λ (x : BlockLine). IsUtf8 x.text) first lines u) l)).0
  statement_given (b.SpellsRule.by_line {first = first} {words = words} {x = x} p c o e d) = λ u.
      as_tree false x.tree (λ e h. IsTree.equation e h) (spelling_given LINE (past_equals words) x (such_one (past_words words) (such_past words (such_words first words (All-head (λ (y : BlockLine). IsUtf8 y.text) first [] u) c))) d)
  statement_given (b.SpellsRule.by_cases {first = first} {lines = lines} {ls = ls} p c o l d) = λ u. all_cases_given d (lines_given lines ls (All-tail (λ (x : BlockLine). IsUtf8 x.text) first lines u) l)

  block_given : (y : Block) (x : RuleBlock) → All (λ l. IsUtf8 l.text) y.lines → IsRuleBlock m ns y x → MadeOf (IsRule m) x
  block_given y x u is a e s p q t =
      let spelled : SpellsRule m ns y.lines s = (let h : IsStatement m ns y.lines (Some s) = subst (IsStatement m ns y.lines) p is.says in h) in
      let k : Of (IsTree m s.by_if) (Some e) = subst (Of (IsTree m s.by_if)) t (statement_given spelled u) in
      record { attribute = declared_of m ns y x is a e s p q t; tree = k }

  pub blocks_given : {bs : List Block} {xs : List RuleBlock} → AreRuleBlocks m ns bs xs → AreTextual bs → Each (MadeOf (IsRule m)) xs
  blocks_given r.AreRuleBlocks.none = λ u. tt
  blocks_given (r.AreRuleBlocks.passed {b = y} {bs = bs} p d) = λ u. blocks_given d (All-tail (λ (z : Block). All (λ l. IsUtf8 l.text) z.lines) y bs u)
  blocks_given (r.AreRuleBlocks.rule {b = y} {r = x} {bs = bs} is d) = λ u.
      (block_given y x (All-head (λ (z : Block). All (λ l. IsUtf8 l.text) z.lines) y bs u) is, blocks_given d (All-tail (λ (z : Block). All (λ l. IsUtf8 l.text) z.lines) y bs u))

-- ---- inferred relations

abbrev IsGivenMember : Lists → Inferred → Type 0
IsGivenMember m i = IsGrammatical m i.expr × HasRelation m i.every

placed_every : (xs : List Declared) (n : ℕ) (x : Declared) → slice_get xs n ≡ Some x → n < length xs
placed_every [] n x e = absurd (cc e)
placed_every (y ∷ xs) zero x e = omega arith
placed_every (y ∷ xs) (suc n) x e = let l = placed_every xs n x e in omega (arith, l)

if_declared : (m : Lists) (q : RelId) (o : Option Declared) → slice_get m.relations q.0 ≡ o → Of (HasRelation m) (if_every q o)
if_declared m q None e = tt
if_declared m q (Some x) e = at x.every
  where
    at : (k : Bool) → Of (HasRelation m) (if k then Some q else None)
    at true = placed_every m.relations q.0 x e
    at false = tt

every_given : (m : Lists) (x : Relation) → Of (HasRelation m) (every_of m x)
every_given m (relation.Declared q) = if_declared m q (slice_get m.relations q.0) refl
every_given m (relation.Inferred n) = tt
every_given m relation.Unnamed = tt

one_inferred : (m : Lists) (phrase : List ℕ) (q : Option RelId) (t : Option Expr) → Of (HasRelation m) q → Given m t → Each (IsGivenMember m) (members.inferred_from phrase q t)
one_inferred m phrase None t h k = tt
one_inferred m phrase (Some q) None h k = tt
one_inferred m phrase (Some q) (Some e) h k = ((k, h), tt)

module _ (m : Lists) where
  alone : AreNamed m (members.names_alone m)
  alone = named m [] (All-nil (IsGivenMember m))

  members_spelled : {lines : List BlockLine} {s : Membership} → SpellsMembers m (members.names_alone m) lines s → All (λ l. IsUtf8 l.text) lines → Of (HasRelation m) s.every × Given m s.said.reading.tree
  members_spelled (b.SpellsMembers.members {first = first} {lines = lines} {ls = ls} {h = h} p c o l d) = λ u.
      (every_given m h.1, (group_given m (members.names_alone m) alone d (lines_given m (members.names_alone m) alone lines ls (All-tail (λ (x : BlockLine). IsUtf8 x.text) first lines u) l)).0)

  member_block_given : (y : Block) (o : Option Membership) → IsMembership m (members.names_alone m) y.lines o → All (λ l. IsUtf8 l.text) y.lines → Each (IsGivenMember m) (members.inferred_by o)
  member_block_given y None h u = tt
  member_block_given y (Some s) h u = let k = members_spelled h u in one_inferred m s.phrase s.every s.said.reading.tree k.0 k.1

  member_blocks_given : {bs : List Block} {xs : List MemberBlock} → members.AreMemberBlocks m (members.names_alone m) bs xs → AreTextual bs → Each (IsGivenMember m) (members.inferred_in xs)
  member_blocks_given members.AreMemberBlocks.none = λ u. tt
  member_blocks_given (members.AreMemberBlocks.passed {b = y} {bs = bs} p d) = λ u. member_blocks_given d (All-tail (λ (z : Block). All (λ l. IsUtf8 l.text) z.lines) y bs u)
  member_blocks_given (members.AreMemberBlocks.members {b = y} {r = x} {bs = bs} {rs = xs} is d) = λ u.
      each_append (IsGivenMember m) (members.inferred_by x.membership) (members.inferred_in xs) (member_block_given y x.membership is.says (All-head (λ (z : Block). All (λ l. IsUtf8 l.text) z.lines) y bs u))
      (member_blocks_given d (All-tail (λ (z : Block). All (λ l. IsUtf8 l.text) z.lines) y bs u))

pub inferences_are_given_hold : InferencesAreGiven
inferences_are_given_hold m blocks textual inferences a = subst (All (IsGivenMember m)) (sym a.inferences_are) (all_of (IsGivenMember m) (members.inferred_in a.found) (member_blocks_given m a.are_found textual))

pub rules_are_given_hold : RulesAreGiven
rules_are_given_hold m inferences members blocks textual read a =
    let ns : Names = names_in m inferences in
    let each = rules_each (IsRule m) a.found (blocks_given m ns (named m inferences members) a.are_found textual) in
    subst (All (IsRule m)) (sym a.rules_are) (all_of (IsRule m) (rules_in a.found) each)
