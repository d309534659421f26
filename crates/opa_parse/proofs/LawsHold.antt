-- The laws of what is read.
use Rattle.std.proofs.Common.{◌≡◌, ℕ, List, [], ◌∷◌, length, true, false, Some, refl, sym, ap, subst, ◌∙◌}
use Rattle.std.specs.Str.{chars}
use Rattle.opa_model.specs.declared.lists.Lists.{Lists}
use Rattle.opa_words.specs.declared.kinds.Token.{Token}
use Rattle.opa_words.specs.Cuts.{Cuts}
use Rattle.opa_words.proofs.OneCut.{one_cut_holds}
use Rattle.opa_words.specs.declared.layout.block.BlockLine.{BlockLine}
use Rattle.opa_sentence.specs.declared.names.Names.{Names}
use Rattle.opa_sentence.specs.declared.names.Relation.{Relation}
use Rattle.opa_sentence.specs.declared.reading.Reading.{Reading}
use Rattle.opa_sentence.specs.Grammar.{LINE}
use Rattle.opa_sentence.specs.Lexemes.{Lexeme}
use Rattle.opa_sentence.specs.Spelling.{IsSpelling}
use Rattle.opa_sentence.proofs.Machine.{only}
use Rattle.opa_parse.specs.declared.block.Membership.{Membership}
use Rattle.opa_parse.specs.declared.block.Opening.{Opening}
use Rattle.opa_parse.specs.declared.block.Opening.TheVariants as opens
use Rattle.opa_parse.specs.declared.block.Statement.{Statement}
use Rattle.opa_parse.specs.declared.group.Group.{Group}
use Rattle.opa_parse.specs.declared.group.Said.{Said}
use Rattle.opa_parse.specs.declared.line.Line.{Line}
use Rattle.opa_parse.specs.Blocks as b
use Rattle.opa_parse.specs.Blocks.{statement, SpellsRule, membership, SpellsMembers}
use Rattle.opa_parse.specs.Groups.{Grouped, AllCases}
use Rattle.opa_parse.specs.GroupTable.{production, resume}
use Rattle.opa_parse.specs.Laws.{OneRule, OneMembership, GroupsAreRead, CasesAreRead, GroupsAreGrammatical}
use Rattle.opa_parse.specs.Lines.{IsCut, AreLines}
use Rattle.opa_parse.specs.Openings.{opening, past_equals, heading}
use Rattle.opa_parse.specs.Sayings.{of_line, single}
use Rattle.opa_parse.proofs.CutOnce.{one_words, one_spelling, same_lines}
use Rattle.opa_parse.proofs.GroupsMeant.{grouped_means}
use Rattle.opa_parse.proofs.GroupsRead.{grouped_reads, cases_reads}

pub groups_are_read_hold : GroupsAreRead
groups_are_read_hold ns k ls g rest d = grouped_reads ns d

pub cases_are_read_hold : CasesAreRead
cases_are_read_hold ns ls s rest d = cases_reads ns d

pub groups_are_grammatical_hold : GroupsAreGrammatical
groups_are_grammatical_hold ns k ls g rest d = grouped_means ns k ls g rest d

one_group : (ns : Names) (k : ℕ) (ls : List Line) (g h : Group) → Grouped ns k ls g [] → Grouped ns k ls h [] → g ≡ h
one_group ns k ls g h d e = (only production (resume ns) (grouped_reads ns d) h [] (grouped_reads ns e)).0

one_table : (ns : Names) (ls : List Line) (s t : Said) → AllCases ns ls s [] → AllCases ns ls t [] → s ≡ t
one_table ns ls s t d e = ap (λ (g : Group). g.said) (only production (resume ns) (cases_reads ns d) (single t) [] (cases_reads ns e)).0

module _ (m : Lists) (ns : Names) where
  -- what the lines after the first one say, by how the rule begins
  abbrev Means : BlockLine → List BlockLine → List Lexeme → Opening → Statement → Type 0
  Means first rest ws opens.Nothing s = ⊥
  Means first rest ws (opens.If a) s = (ls : List Line) × (g : Group) × AreLines ns rest ls × Grouped ns 1 ls g [] × (s ≡ statement a true g.said)
  Means first rest ws (opens.Is a) s = (x : Reading) × IsSpelling ns LINE (past_equals ws) (Some x) × (s ≡ statement a false (of_line first.line x))
  Means first rest ws (opens.Cases a) s = (ls : List Line) × (t : Said) × AreLines ns rest ls × AllCases ns ls t [] × (s ≡ statement a false t)

  abbrev Begun : BlockLine → List BlockLine → Statement → Type 0
  Begun first rest s = (ws : List Lexeme) × IsCut first ws × Means first rest ws (opening m ws) s

  begun : {first : BlockLine} {rest : List BlockLine} {s : Statement} → SpellsRule m ns (first ∷ rest) s → Begun first rest s
  begun (b.SpellsRule.by_if {first = first} {lines = rest} {words = ws} {ls = ls} {a = a} {g = g} p c o l d) = (ws, c, subst (λ x. Means first rest ws x (statement a true g.said)) (sym o) (ls, g, l, d, refl))
  begun (b.SpellsRule.by_line {first = first} {words = ws} {a = a} {x = x} p c o e d) = (ws, c, subst (λ y. Means first [] ws y (statement a false (of_line first.line x))) (sym o) (x, d, refl))
  begun (b.SpellsRule.by_cases {first = first} {lines = rest} {words = ws} {ls = ls} {a = a} {s = s} p c o l d) = (ws, c, subst (λ x. Means first rest ws x (statement a false s)) (sym o) (ls, s, l, d, refl))

  one_meaning : (first : BlockLine) (rest : List BlockLine) (ws : List Lexeme) (o : Opening) (s t : Statement) → Means first rest ws o s → Means first rest ws o t → s ≡ t
  one_meaning first rest ws opens.Nothing s t p q = absurd p
  one_meaning first rest ws (opens.If a) s t p q =
      let same : p.0 ≡ q.0 = same_lines ns rest p.0 q.0 p.2 q.2 in
      p.4 ∙ ap (λ (g : Group). statement a true g.said) (one_group ns 1 q.0 p.1 q.1 (subst (λ ls. Grouped ns 1 ls p.1 []) same p.3) q.3) ∙ sym q.4
  one_meaning first rest ws (opens.Is a) s t p q =
      let same : Some p.0 ≡ Some q.0 = one_spelling ns (past_equals ws) (Some p.0) (Some q.0) p.1 q.1 in
      p.2 ∙ ap (λ x. statement a false (of_line first.line x)) (let e : p.0 ≡ q.0 = cc same in e) ∙ sym q.2
  one_meaning first rest ws (opens.Cases a) s t p q =
      let same : p.0 ≡ q.0 = same_lines ns rest p.0 q.0 p.2 q.2 in
      p.4 ∙ ap (λ x. statement a false x) (one_table ns q.0 p.1 q.1 (subst (λ ls. AllCases ns ls p.1 []) same p.3) q.3) ∙ sym q.4

  one_begun : (first : BlockLine) (rest : List BlockLine) (s t : Statement) → Begun first rest s → Begun first rest t → s ≡ t
  one_begun first rest s t p q =
      let same : p.0 ≡ q.0 = one_words first p.0 q.0 p.1 q.1 in
      one_meaning first rest q.0 (opening m q.0) s t (subst (λ ws. Means first rest ws (opening m ws) s) same p.2) q.2

  none_spelled : {lines : List BlockLine} {s : Statement} → SpellsRule m ns lines s → lines ≡ [] → ⊥
  none_spelled (b.SpellsRule.by_if p c o l d) e = absurd (cc e)
  none_spelled (b.SpellsRule.by_line p c o l d) e = absurd (cc e)
  none_spelled (b.SpellsRule.by_cases p c o l d) e = absurd (cc e)

  abbrev Headed : BlockLine → List BlockLine → Membership → Type 0
  Headed first rest s = (ts : List Token) × (h : List ℕ × Relation) × (ls : List Line) × (g : Group) × Cuts (length first.text) (chars first.text) ts × (heading ns first.text ts ≡ Some h) × AreLines ns rest ls × Grouped ns 1 ls g [] × (s ≡ membership m h g.said)

  headed : {first : BlockLine} {rest : List BlockLine} {s : Membership} → SpellsMembers m ns (first ∷ rest) s → Headed first rest s
  headed (b.SpellsMembers.members {tokens = ts} {ls = ls} {h = h} {g = g} p c o l d) = (ts, h, ls, g, c, o, l, d, refl)

  one_headed : (first : BlockLine) (rest : List BlockLine) (s t : Membership) → Headed first rest s → Headed first rest t → s ≡ t
  one_headed first rest s t p q =
      let tokens : p.0 ≡ q.0 = one_cut_holds (length first.text) (chars first.text) p.0 q.0 p.4 q.4 in
      let heads : Some p.1 ≡ Some q.1 = sym p.5 ∙ ap (heading ns first.text) tokens ∙ q.5 in
      let same : p.2 ≡ q.2 = same_lines ns rest p.2 q.2 p.6 q.6 in
      p.8 ∙ ap (λ h. membership m h p.3.said) (let e : p.1 ≡ q.1 = cc heads in e) ∙ ap (λ (g : Group). membership m q.1 g.said) (one_group ns 1 q.2 p.3 q.3 (subst (λ ls. Grouped ns 1 ls p.3 []) same p.7) q.7) ∙ sym q.8

  none_membership : {lines : List BlockLine} {s : Membership} → SpellsMembers m ns lines s → lines ≡ [] → ⊥
  none_membership (b.SpellsMembers.members p c o l d) e = absurd (cc e)

pub one_rule_holds : OneRule
one_rule_holds m ns [] s t d e = absurd (none_spelled m ns d refl)
one_rule_holds m ns (first ∷ rest) s t d e = one_begun m ns first rest s t (begun m ns d) (begun m ns e)

pub one_membership_holds : OneMembership
one_membership_holds m ns [] s t d e = absurd (none_membership m ns d refl)
one_membership_holds m ns (first ∷ rest) s t d e = one_headed m ns first rest s t (headed m ns d) (headed m ns e)

pub ruleset laws = (one_rule_holds, one_membership_holds, groups_are_read_hold, cases_are_read_hold, groups_are_grammatical_hold)
