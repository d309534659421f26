-- What is read of a block is what it spells.
use Rattle.std.proofs.Common.{◌≡◌, ℕ, List, [], ◌∷◌, true, false, Option, Some, None, option_map, refl, sym, ap, subst, ◌∙◌, length}
use Rattle.std.specs.Str.{chars}
use Rattle.opa_model.specs.declared.ids.AttrId.{AttrId}
use Rattle.opa_model.specs.declared.lists.Lists.{Lists}
use Rattle.opa_words.specs.declared.kinds.Token.{Token}
use Rattle.opa_words.specs.Cuts.{Cuts}
use Rattle.opa_words.proofs.OneCut.{one_cut_holds}
use Rattle.opa_words.specs.declared.layout.block.BlockLine.{BlockLine}
use Rattle.opa_sentence.specs.declared.names.Names.{Names}
use Rattle.opa_sentence.specs.declared.names.Relation.{Relation}
use Rattle.opa_sentence.specs.declared.reading.Reading.{Reading}
use Rattle.opa_sentence.specs.Lexemes.{Lexeme}
use Rattle.opa_sentence.specs.Grammar.{LINE}
use Rattle.opa_sentence.specs.Spelling.{IsSpelling}
use Rattle.opa_sentence.proofs.Machine.{only}
use Rattle.opa_parse.specs.declared.block.Membership.{Membership}
use Rattle.opa_parse.specs.declared.block.Opening.{Opening}
use Rattle.opa_parse.specs.declared.block.Opening.TheVariants as opens
use Rattle.opa_parse.specs.declared.block.Statement.{Statement}
use Rattle.opa_parse.specs.declared.group.Group.{Group}
use Rattle.opa_parse.specs.declared.group.Said.{Said}
use Rattle.opa_parse.specs.declared.group.Sort.{Sort}
use Rattle.opa_parse.specs.declared.group.Sort.TheVariants as sort
use Rattle.opa_parse.specs.declared.line.Ending.TheVariants as ending
use Rattle.opa_parse.specs.declared.line.Line.{Line}
use Rattle.opa_parse.specs.Blocks as b
use Rattle.opa_parse.specs.Blocks.{statement, SpellsRule, IsStatement, membership, SpellsMembers, IsMembership}
use Rattle.opa_parse.specs.Groups.{Grouped, AllCases}
use Rattle.opa_parse.specs.GroupTable.{Reads, IsReadAs, production, resume}
use Rattle.opa_parse.specs.Lines.{IsCut, AreLines, ending_of}
use Rattle.opa_parse.specs.Openings.{opening, past_equals, heading}
use Rattle.opa_parse.specs.Sayings.{single}
use Rattle.opa_parse.specs.Statements.{is_over, below_first, IsSaid, IsLineSaid}
use Rattle.opa_parse.proofs.CutOnce.{one_words, same_lines}
use Rattle.opa_parse.proofs.GroupsMeant.{grouped_means, cases_mean}
use Rattle.opa_parse.proofs.GroupsRead.{grouped_reads, cases_reads}

-- ---- the lines below the first

module _ (ns : Names) (start : Sort) (bs : List BlockLine) where
  pub uncut_said : ((ls : List Line) → AreLines ns bs ls → ⊥) → IsSaid ns start bs None
  uncut_said h ls g a d = h ls a

  pub none_said : (ls : List Line) → AreLines ns bs ls → IsReadAs ns start ls None → IsSaid ns start bs None
  none_said ls a h ms g c d = h g [] (subst (λ x. Reads ns start x g []) (same_lines ns bs ms ls c a) d)

  over : (ls : List Line) → is_over ls ≡ true → ls ≡ []
  over [] h = refl
  over (l ∷ ls) h = absurd (cc h)

  not_over : (ls : List Line) → is_over ls ≡ false → ls ≡ [] → ⊥
  not_over [] h e = absurd (cc h)
  not_over (l ∷ ls) h e = absurd (cc e)

  pub some_said : (ls : List Line) (g : Group) (rest : List Line) → AreLines ns bs ls → IsReadAs ns start ls (Some (g, rest)) → is_over rest ≡ true → IsSaid ns start bs (Some g.said)
  some_said ls g rest a d h = (ls, g, a, subst (λ r. Reads ns start ls g r) (over rest h) d, refl)

  pub more_said : (ls : List Line) (g : Group) (rest : List Line) → AreLines ns bs ls → IsReadAs ns start ls (Some (g, rest)) → is_over rest ≡ false → IsSaid ns start bs None
  more_said ls g rest a d h ms k c e =
      not_over rest h ((only production (resume ns) d k [] (subst (λ x. Reads ns start x k []) (same_lines ns bs ms ls c a) e)).1)

-- ---- rules

module _ (m : Lists) (ns : Names) where
  -- what a rule has by how it begins
  abbrev Shape : BlockLine → List Lexeme → List BlockLine → Opening → Type 0
  Shape first ws rest opens.Nothing = ⊥
  Shape first ws rest (opens.If a) = (ls : List Line) × (g : Group) × AreLines ns rest ls × Grouped ns 1 ls g []
  Shape first ws rest (opens.Is a) = (x : Reading) × (rest ≡ []) × (ending_of (past_equals ws) ≡ ending.Nothing) × IsSpelling ns LINE (past_equals ws) (Some x)
  Shape first ws rest (opens.Cases a) = (ls : List Line) × (s : Said) × AreLines ns rest ls × AllCases ns ls s []

  abbrev Shaped : BlockLine → List BlockLine → Type 0
  Shaped first rest = (ws : List Lexeme) → IsCut first ws → (first.level ≡ 0) × Shape first ws rest (opening m ws)

  shaped_by : (first : BlockLine) (rest : List BlockLine) (words : List Lexeme) (o : Opening) → first.level ≡ 0 → IsCut first words → opening m words ≡ o → Shape first words rest o → Shaped first rest
  shaped_by first rest words o p cut e s ws c =
      let same : words ≡ ws = one_words first words ws cut c in
      (p, subst (λ x. Shape first x rest (opening m x)) same (subst (Shape first words rest) (sym e) s))

  shaped : {first : BlockLine} {rest : List BlockLine} {s : Statement} → SpellsRule m ns (first ∷ rest) s → Shaped first rest
  shaped (b.SpellsRule.by_if {first = first} {lines = rest} {words = words} {ls = ls} {a = a} {g = g} p c o l d) = shaped_by first rest words (opens.If a) p c o (ls, g, l, d)
  shaped (b.SpellsRule.by_line {first = first} {words = words} {a = a} {x = x} p c o e d) = shaped_by first [] words (opens.Is a) p c o (x, refl, e, d)
  shaped (b.SpellsRule.by_cases {first = first} {lines = rest} {words = words} {ls = ls} {a = a} {s = s} p c o l d) = shaped_by first rest words (opens.Cases a) p c o (ls, s, l, d)

  no_lines : {lines : List BlockLine} {s : Statement} → SpellsRule m ns lines s → lines ≡ [] → ⊥
  no_lines (b.SpellsRule.by_if p c o l d) e = absurd (cc e)
  no_lines (b.SpellsRule.by_line p c o l d) e = absurd (cc e)
  no_lines (b.SpellsRule.by_cases p c o l d) e = absurd (cc e)

  pub empty_statement : (lines : List BlockLine) → lines ≡ [] → IsStatement m ns lines None
  empty_statement lines e s d = no_lines d e

  at_front : (lines : List BlockLine) (first : BlockLine) (rest : List BlockLine) (s : Statement) → lines ≡ first ∷ rest → SpellsRule m ns lines s → Shaped first rest
  at_front lines first rest s e d = let f : SpellsRule m ns (first ∷ rest) s = subst (λ x. SpellsRule m ns x s) e d in shaped f

  fronted : {first : BlockLine} {rest : List BlockLine} {s : Statement} → SpellsRule m ns (first ∷ rest) s → (first.level ≡ 0) × (ws : List Lexeme) × IsCut first ws
  fronted (b.SpellsRule.by_if {words = words} p c o l d) = (p, words, c)
  fronted (b.SpellsRule.by_line {words = words} p c o l d) = (p, words, c)
  fronted (b.SpellsRule.by_cases {words = words} p c o l d) = (p, words, c)

  -- the first line isn't cut
  pub uncut_statement : (lines : List BlockLine) (first : BlockLine) (rest : List BlockLine) → lines ≡ first ∷ rest → ((ts : List Token) → Cuts (length first.text) (chars first.text) ts → ⊥) → IsStatement m ns lines None
  uncut_statement lines first rest e h s d = let f = fronted (subst (λ x. SpellsRule m ns x s) e d) in h f.2.tokens f.2.cut

  pub deep_statement : (lines : List BlockLine) (first : BlockLine) (rest : List BlockLine) → lines ≡ first ∷ rest → (first.level ≡ 0 → ⊥) → IsStatement m ns lines None
  deep_statement lines first rest e h s d = let f = fronted (subst (λ x. SpellsRule m ns x s) e d) in h f.0

  module _ (first : BlockLine) (rest : List BlockLine) (ws : List Lexeme) (level : first.level ≡ 0) (cut : IsCut first ws) where
    shape_at : (o : Opening) → opening m ws ≡ o → {s : Statement} → SpellsRule m ns (first ∷ rest) s → Shape first ws rest o
    shape_at o e d = subst (Shape first ws rest) e ((shaped d ws cut).1)

    pub nothing_stated : opening m ws ≡ opens.Nothing → IsStatement m ns (first ∷ rest) None
    nothing_stated e s d = shape_at opens.Nothing e d

    pub if_stated : (a : Option AttrId) → opening m ws ≡ opens.If a → (o : Option Said) → IsSaid ns below_first rest o → IsStatement m ns (first ∷ rest) (option_map (λ s. statement a true s) o)
    if_stated a e None h = λ s d. let x = shape_at (opens.If a) e d in h x.0 x.1 x.2 (grouped_reads ns x.3)
    if_stated a e (Some t) h =
        let d : Grouped ns 1 h.0 h.1 [] = grouped_means ns 1 h.0 h.1 [] h.3 in
        subst (λ y. SpellsRule m ns (first ∷ rest) (statement a true y)) h.4 (b.SpellsRule.by_if level cut e h.2 d)

    pub line_stated : (a : Option AttrId) → opening m ws ≡ opens.Is a → (o : Option Said) → IsLineSaid ns first.line ws rest o → IsStatement m ns (first ∷ rest) (option_map (λ s. statement a false s) o)
    line_stated a e None h = λ s d. let x = shape_at (opens.Is a) e d in h x.0 x.1 x.2 x.3
    line_stated a e (Some t) h =
        subst (λ r. SpellsRule m ns (first ∷ r) (statement a false t)) (sym h.1)
        (subst (λ y. SpellsRule m ns (first ∷ []) (statement a false y)) (sym h.4) (b.SpellsRule.by_line level cut e h.2 h.3))

    pub cases_stated : (a : Option AttrId) → opening m ws ≡ opens.Cases a → (o : Option Said) → IsSaid ns sort.FirstCase rest o → IsStatement m ns (first ∷ rest) (option_map (λ s. statement a false s) o)
    cases_stated a e None h = λ s d. let x = shape_at (opens.Cases a) e d in h x.0 (single x.1) x.2 (cases_reads ns x.3)
    cases_stated a e (Some t) h =
        let c = cases_mean ns h.0 h.1 [] h.3 in
        subst (λ y. SpellsRule m ns (first ∷ rest) (statement a false y)) (sym (ap (λ (g : Group). g.said) c.1) ∙ h.4) (b.SpellsRule.by_cases level cut e h.2 c.2)

  -- ---- membership blocks

  no_member_lines : {lines : List BlockLine} {s : Membership} → SpellsMembers m ns lines s → lines ≡ [] → ⊥
  no_member_lines (b.SpellsMembers.members p c o l d) e = absurd (cc e)

  pub empty_membership : (lines : List BlockLine) → lines ≡ [] → IsMembership m ns lines None
  empty_membership lines e s d = no_member_lines d e

  abbrev Membered : BlockLine → List BlockLine → Type 0
  Membered first rest = (first.level ≡ 0) × (tokens : List Token) × (h : List ℕ × Relation) × (ls : List Line) × (g : Group) × Cuts (length first.text) (chars first.text) tokens × (heading ns first.text tokens ≡ Some h) × AreLines ns rest ls × Grouped ns 1 ls g []

  membered : {first : BlockLine} {rest : List BlockLine} {s : Membership} → SpellsMembers m ns (first ∷ rest) s → Membered first rest
  membered (b.SpellsMembers.members {tokens = ts} {ls = ls} {h = h} {g = g} p c o l d) = (p, ts, h, ls, g, c, o, l, d)

  pub uncut_membership : (lines : List BlockLine) (first : BlockLine) (rest : List BlockLine) → lines ≡ first ∷ rest → ((ts : List Token) → Cuts (length first.text) (chars first.text) ts → ⊥) → IsMembership m ns lines None
  uncut_membership lines first rest e h s d = let x = membered (subst (λ y. SpellsMembers m ns y s) e d) in h x.1 x.5

  pub deep_membership : (lines : List BlockLine) (first : BlockLine) (rest : List BlockLine) → lines ≡ first ∷ rest → (first.level ≡ 0 → ⊥) → IsMembership m ns lines None
  deep_membership lines first rest e h s d = let x = membered (subst (λ y. SpellsMembers m ns y s) e d) in h x.0

  module _ (first : BlockLine) (rest : List BlockLine) (ts : List Token) (level : first.level ≡ 0) (cut : Cuts (length first.text) (chars first.text) ts) where
    pub unheaded : heading ns first.text ts ≡ None → IsMembership m ns (first ∷ rest) None
    unheaded e s d =
        let x = membered d in
        let same : x.1 ≡ ts = one_cut_holds (length first.text) (chars first.text) x.1 ts x.5 cut in
        let f : None ≡ Some x.2 = sym e ∙ ap (heading ns first.text) (sym same) ∙ x.6 in
        absurd (cc f)

    pub unsaid : IsSaid ns below_first rest None → IsMembership m ns (first ∷ rest) None
    unsaid h s d = let x = membered d in h x.3 x.4 x.7 (grouped_reads ns x.8)

    pub membership_said : (h : List ℕ × Relation) (s : Said) → heading ns first.text ts ≡ Some h → IsSaid ns below_first rest (Some s) → IsMembership m ns (first ∷ rest) (Some (membership m h s))
    membership_said h s e x =
        let d : Grouped ns 1 x.0 x.1 [] = grouped_means ns 1 x.0 x.1 [] x.3 in
        subst (λ y. SpellsMembers m ns (first ∷ rest) (membership m h y)) x.4 (b.SpellsMembers.members level cut e x.2 d)
