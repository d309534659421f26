-- What is handed on of the rules and of the inferred relations that are read.
use Rattle.std.proofs.Common.{◌≡◌, ℕ, zero, suc, ◌+◌, ◌≤◌, ◌<◌, List, [], ◌∷◌, ◌++◌, length, map, Bool, true, false, ◌==◌, if◌then◌else◌, Option, Some, None, option_map, position, All, IsTrue, refl, sym, ap, subst, length-append, arith}
use Rattle.std.proofs.lemmas.List.{length-map}
use Rattle.std.proofs.lemmas.List.Elements.{All-nil, All-cons, All-head, All-tail}
use Rattle.std.proofs.lemmas.List.Quantifiers.{position-Some}
use Rattle.std.specs.Str.{bytes_eq}
use Rattle.opa_model.specs.declared.ids.AttrId.{AttrId}
use Rattle.opa_model.specs.declared.ids.RelId.{RelId}
use Rattle.opa_model.specs.declared.lists.Lists.{Lists}
use Rattle.opa_model.specs.Lookups.{attribute_phrases, attribute_named}
use Rattle.opa_model.specs.Models.{HasAttribute}
use Rattle.opa_words.specs.declared.layout.block.Block.{Block}
use Rattle.opa_words.specs.declared.layout.block.BlockLine.{BlockLine}
use Rattle.opa_tree.specs.declared.expr.Expr.{Expr}
use Rattle.opa_tree.specs.declared.faults.RbFault.{RbFault}
use Rattle.opa_tree.specs.declared.faults.RbKind.TheVariants as kind
use Rattle.opa_tree.specs.declared.kinds.OpKind.TheVariants as op
use Rattle.opa_tree.specs.declared.rules.Inferred.{Inferred}
use Rattle.opa_tree.specs.declared.rules.Rule.{Rule}
use Rattle.opa_tree.specs.Accepted.{HaveForm, AreShallow}
use Rattle.opa_tree.specs.Trees.{depth, has_form, HasForm, IsShallow}
use Rattle.opa_words.specs.Reserved.{is_ending, joined}
use Rattle.opa_sentence.specs.declared.class.Class.{Class}
use Rattle.opa_sentence.specs.declared.class.Class.TheVariants as class
use Rattle.opa_sentence.specs.declared.measure.Measure.{Measure}
use Rattle.opa_sentence.specs.declared.names.Member.{Member}
use Rattle.opa_sentence.specs.declared.names.Names.{Names}
use Rattle.opa_sentence.specs.declared.reading.Reading.{Reading}
use Rattle.opa_sentence.specs.Grammar.{LINE}
use Rattle.opa_sentence.specs.Lexemes.{Lexeme}
use Rattle.opa_sentence.specs.Measures.{bounded}
use Rattle.opa_sentence.specs.Phrases.{past_words}
use Rattle.opa_sentence.specs.Spelling.{IsSpelling}
use Rattle.opa_parse.specs.declared.block.MemberBlock.{MemberBlock}
use Rattle.opa_parse.specs.declared.block.Membership.{Membership}
use Rattle.opa_parse.specs.declared.block.Opening.{Opening}
use Rattle.opa_parse.specs.declared.block.Opening.TheVariants as opens
use Rattle.opa_parse.specs.declared.block.RuleBlock.{RuleBlock}
use Rattle.opa_parse.specs.declared.block.Statement.{Statement}
use Rattle.opa_io.specs.declared.limits.TheConstants.{MOST_RULES}
use Rattle.opa_parse.specs.declared.line.Ending.{Ending}
use Rattle.opa_parse.specs.declared.line.Ending.TheVariants as ending
use Rattle.opa_parse.specs.declared.line.Line.{Line}
use Rattle.opa_parse.specs.Blocks as b
use Rattle.opa_parse.specs.Blocks.{SpellsRule, IsStatement, SpellsMembers, IsMembership}
use Rattle.opa_parse.specs.Handed.{IsFormed, AreFormed, AreFlat, AreDeclared, AreFiledAs}
use Rattle.opa_parse.specs.Lines.{IsCut, IsLine, AreLines, ending_of, body}
use Rattle.opa_parse.specs.Memberships as m
use Rattle.opa_parse.specs.Memberships.{AreMemberBlocks, inferred_from, inferred_by, inferred_in, AreInferences, names_alone}
use Rattle.opa_parse.specs.Naming.{member_of, names_in}
use Rattle.opa_parse.specs.Openings.{begins_with_word, front_words, concluded, by_words, by_equals, opening_at, opening, past_one, past_equals}
use Rattle.opa_parse.specs.RuleFaults.{when, fault_at, block_faults, spelled_faults, statement_nodes, faults_from}
use Rattle.opa_parse.specs.Rules as r
use Rattle.opa_parse.specs.Rules.{AreRuleBlocks, IsRuleBlock, rule_from, rule_by, rule_in, rules_in, inferred_nodes, AreRules}
use Rattle.opa_parse.proofs.LineForms.{MembersForm, AreReal, lexemes_real, real_past}
use Rattle.opa_parse.proofs.GroupForms.{Sound, SoundTop, SoundSaid, at_top, LineSound, LinesSound, line_sound, grouped_sound, all_cases_sound}

-- ---- tests, and what holds of each

pub is_true : (t : Bool) → t ≡ true → IsTrue t
is_true t e = e

true_is : (t : Bool) → IsTrue t → t ≡ true
true_is t h = h

module _ {X : Type 0} (P : X → Type 0) where
  abbrev pub Each : List X → Type 0
  Each [] = Unit {0}
  Each (x ∷ xs) = P x × Each xs

  pub all_of : (xs : List X) → Each xs → All P xs
  all_of [] h = All-nil P
  all_of (x ∷ xs) h = All-cons P x xs h.0 (all_of xs h.1)

  pub each_of : (xs : List X) → All P xs → Each xs
  each_of [] h = tt
  each_of (x ∷ xs) h = (All-head P x xs h, each_of xs (All-tail P x xs h))

  pub each_append : (xs ys : List X) → Each xs → Each ys → Each (xs ++ ys)
  each_append [] ys h k = k
  each_append (x ∷ xs) ys h k = (h.0, each_append xs ys h.1 k)

module _ {X : Type 0} (P Q : X → Type 0) where
  pub each_left : (xs : List X) → Each (λ x. P x × Q x) xs → Each P xs
  each_left [] h = tt
  each_left (x ∷ xs) h = (h.0.0, each_left xs h.1)

  pub each_right : (xs : List X) → Each (λ x. P x × Q x) xs → Each Q xs
  each_right [] h = tt
  each_right (x ∷ xs) h = (h.0.1, each_right xs h.1)

-- ---- members

abbrev pub Formed : Inferred → Type 0
Formed i = IsFormed i.expr

pub members_form : (inferences : List Inferred) → Each Formed inferences → MembersForm bounded (map member_of inferences)
members_form [] h n x e = absurd (cc e)
members_form (i ∷ more) h zero x e = λ top. let f : member_of i ≡ x = cc e in subst (λ (y : Member). has_form y.expr top ≡ true) f (true_is (has_form i.expr top) (h.0 top))
members_form (i ∷ more) h (suc n) x e = members_form more h.1 n x e

-- ---- lines

real_body : (ts : List Lexeme) → AreReal ts → AreReal (body ts)
real_body [] h = h
real_body (t ∷ []) h = at (is_ending t.text)
  where
    at : (k : Bool) → AreReal (if k then [] else t ∷ [])
    at true = tt
    at false = h
real_body (t ∷ u ∷ ts) h = (h.0, real_body (u ∷ ts) h.1)

real_one : (ts : List Lexeme) → AreReal ts → AreReal (past_one ts)
real_one [] h = h
real_one (t ∷ ts) h = h.1

real_words : (line : BlockLine) (ws : List Lexeme) → IsCut line ws → AreReal ws
real_words line ws c = subst AreReal (sym c.words_are) (lexemes_real line.text c.tokens)

module _ (ns : Names) (members : MembersForm bounded ns.members) where
  line_is_sound : (line : BlockLine) (l : Line) → IsLine ns line l → LineSound l
  line_is_sound line l h r e = line_sound ns (body h.words) r members (real_body h.words (real_words line h.words h.cut)) (subst (IsSpelling ns LINE (body h.words)) e h.words_say.says_is)

  lines_are_sound : (bs : List BlockLine) (ls : List Line) → AreLines ns bs ls → LinesSound ls
  lines_are_sound [] [] h = tt
  lines_are_sound [] (l ∷ ls) h = absurd h
  lines_are_sound (x ∷ bs) [] h = absurd h
  lines_are_sound (x ∷ bs) (l ∷ ls) h = (line_is_sound x l h.0, lines_are_sound bs ls h.1)

  rule_sound : (md : Lists) {lines : List BlockLine} {s : Statement} → SpellsRule md ns lines s → SoundSaid s.said
  rule_sound md (b.SpellsRule.by_if {lines = lines} {ls = ls} {g = g} p c o l d) = at_top g.said.reading.measure g.said.reading.tree (grouped_sound ns members d (lines_are_sound lines ls l)).0
  rule_sound md (b.SpellsRule.by_line {first = first} {words = words} {x = x} p c o e d) =
      at_top x.measure x.tree (line_sound ns (past_equals words) x members (real_one (past_words words) (real_past words (real_words first words c))) d)
  rule_sound md (b.SpellsRule.by_cases {lines = lines} {ls = ls} p c o l d) = all_cases_sound ns members d (lines_are_sound lines ls l)

  members_sound : (md : Lists) {lines : List BlockLine} {s : Membership} → SpellsMembers md ns lines s → Sound s.said.reading
  members_sound md (b.SpellsMembers.members {lines = lines} {ls = ls} p c o l d) = (grouped_sound ns members d (lines_are_sound lines ls l)).0

-- ---- what rules conclude

abbrev id_of : ℕ → AttrId
id_of n = record { 0 = n }

named_has : (md : Lists) (phrase : List ℕ) (a : AttrId) → attribute_named md phrase ≡ Some a → HasAttribute md a
named_has md phrase a e = at (position (bytes_eq phrase) (attribute_phrases md)) refl e
  where
    at : (o : Option ℕ) → position (bytes_eq phrase) (attribute_phrases md) ≡ o → option_map id_of o ≡ Some a → HasAttribute md a
    at None h p = absurd (cc p)
    at (Some n) h p =
        let (within, passes, first) = position-Some (bytes_eq phrase) (attribute_phrases md) n [] h in
        let q : id_of n ≡ a = cc p in
        let f : n ≡ a.0 = ap (λ (y : AttrId). y.0) q in
        omega (arith, within, f, length-map md.attributes (λ x. x.phrase))

abbrev pub IsDeclared : Lists → Option AttrId → Type 0
IsDeclared md a = (x : AttrId) → a ≡ Some x → HasAttribute md x

pub concluded_declared : (md : Lists) (ts : List Lexeme) → IsDeclared md (concluded md ts)
concluded_declared md ts x e = named_has md (joined (map (λ (t : Lexeme). t.text) ts)) x e

abbrev Opens : Lists → Opening → Type 0
Opens md opens.Nothing = Unit {0}
Opens md (opens.If a) = IsDeclared md a
Opens md (opens.Is a) = IsDeclared md a
Opens md (opens.Cases a) = IsDeclared md a

either_opens : (md : Lists) (k : Bool) (x y : Opening) → Opens md x → Opens md y → Opens md (if k then x else y)
either_opens md true x y p q = p
either_opens md false x y p q = q

words_open : (md : Lists) (e : Ending) (ts : List Lexeme) → Opens md (by_words md e ts)
words_open md ending.Nothing ts = tt
words_open md ending.And ts = tt
words_open md ending.Or ts = tt
words_open md ending.If ts = either_opens md (begins_with_word ts) (opens.If (concluded md ts)) opens.Nothing (concluded_declared md ts) tt
words_open md ending.Otherwise ts = tt

equals_open : (md : Lists) (a : Option AttrId) (c : Class) (ts : List Lexeme) → IsDeclared md a → Opens md (by_equals a c ts)
equals_open md a (class.Compare op.Eq) [] h = h
equals_open md a (class.Compare op.Eq) (t ∷ ts) h = h
equals_open md a c ts h = tt

rest_opens : (md : Lists) (ts rest : List Lexeme) → Opens md (opening_at md ts rest)
rest_opens md ts [] = words_open md (ending_of ts) (body ts)
rest_opens md ts (t ∷ rest) = equals_open md (concluded md (front_words ts)) t.class rest (concluded_declared md (front_words ts))

opening_opens : (md : Lists) (ts : List Lexeme) → Opens md (opening md ts)
opening_opens md ts = either_opens md (begins_with_word ts) (opening_at md ts (past_words ts)) opens.Nothing (rest_opens md ts (past_words ts)) tt

rule_declared : (md : Lists) (ns : Names) {lines : List BlockLine} {s : Statement} → SpellsRule md ns lines s → IsDeclared md s.attr
rule_declared md ns (b.SpellsRule.by_if {words = words} p c o l d) = subst (Opens md) o (opening_opens md words)
rule_declared md ns (b.SpellsRule.by_line {words = words} p c o e d) = subst (Opens md) o (opening_opens md words)
rule_declared md ns (b.SpellsRule.by_cases {words = words} p c o l d) = subst (Opens md) o (opening_opens md words)

-- ---- rules

abbrev made : RuleBlock → AttrId → Expr → Statement → Rule
made x a e s = record { attr = a; expr = e; file = x.file; line = x.line; by_if = s.by_if }

-- what holds of what each block makes holds of each rule
module _ (P : Rule → Type 0) where
  abbrev pub Of : RuleBlock → Type 0
  Of x = (a : AttrId) (e : Expr) (s : Statement) → x.statement ≡ Some s → s.attr ≡ Some a → s.said.reading.tree ≡ Some e → P (made x a e s)

  from_each : (x : RuleBlock) (s : Statement) (a : Option AttrId) (t : Option Expr) → x.statement ≡ Some s → s.attr ≡ a → s.said.reading.tree ≡ t → Of x → Each P (rule_from x.file x.line a t s.by_if)
  from_each x s None t e f g h = tt
  from_each x s (Some a) None e f g h = tt
  from_each x s (Some a) (Some t) e f g h = (h a t s e f g, tt)

  by_each : (x : RuleBlock) (o : Option Statement) → x.statement ≡ o → Of x → Each P (rule_by x.file x.line o)
  by_each x None e h = tt
  by_each x (Some s) e h = from_each x s s.attr s.said.reading.tree e refl refl h

  pub rules_each : (xs : List RuleBlock) → Each Of xs → Each P (rules_in xs)
  rules_each [] h = tt
  rules_each (x ∷ xs) h = each_append P (rule_in x) (rules_in xs) (by_each x x.statement refl h.0) (rules_each xs h.1)

abbrev pub Has : Rule → Type 0
Has x = HasForm x.expr

abbrev pub Flat : Rule → Type 0
Flat x = IsShallow x.expr

abbrev pub Fine : Rule → Type 0
Fine x = Has x × Flat x

abbrev pub Filed : ℕ → Rule → Type 0
Filed files x = x.file < files

abbrev pub Concludes : Lists → Rule → Type 0
Concludes md x = HasAttribute md x.attr

abbrev pub Stands : ℕ → Block → Type 0
Stands files y = y.file < files

module _ (md : Lists) (ns : Names) where
  pub found_each : (Q : RuleBlock → Type 0) → ((y : Block) (x : RuleBlock) → IsRuleBlock md ns y x → Q x) → {bs : List Block} {xs : List RuleBlock} → AreRuleBlocks md ns bs xs → Each Q xs
  found_each Q h r.AreRuleBlocks.none = tt
  found_each Q h (r.AreRuleBlocks.passed p d) = found_each Q h d
  found_each Q h (r.AreRuleBlocks.rule {b = y} {r = x} is d) = (h y x is, found_each Q h d)

  spelled_by : (y : Block) (x : RuleBlock) (s : Statement) → IsRuleBlock md ns y x → x.statement ≡ Some s → SpellsRule md ns y.lines s
  spelled_by y x s is e = let h : IsStatement md ns y.lines (Some s) = subst (IsStatement md ns y.lines) e is.says in h

  pub tree_sound : (mm : Measure) (t : Option Expr) (e : Expr) → t ≡ Some e → SoundTop mm t → (has_form e true ≡ true) × (depth e ≤ 64)
  tree_sound mm t e h s = let k : SoundTop mm (Some e) = subst (SoundTop mm) h s in k

  pub fine_of : MembersForm bounded ns.members → (y : Block) (x : RuleBlock) → IsRuleBlock md ns y x → Of Fine x
  fine_of members y x is a e s p q t =
      let k = tree_sound s.said.reading.measure s.said.reading.tree e t (rule_sound ns members md (spelled_by y x s is p)) in
      (is_true (has_form e true) k.0, k.1)

  rules_fine : MembersForm bounded ns.members → (bs : List Block) (xs : List RuleBlock) → AreRuleBlocks md ns bs xs → Each Fine (rules_in xs)
  rules_fine members bs xs d = rules_each Fine xs (found_each (Of Fine) (fine_of members) d)

  pub declared_of : (y : Block) (x : RuleBlock) → IsRuleBlock md ns y x → Of (Concludes md) x
  declared_of y x is a e s p q t = rule_declared md ns (spelled_by y x s is p) a q

  rules_declared : (bs : List Block) (xs : List RuleBlock) → AreRuleBlocks md ns bs xs → Each (Concludes md) (rules_in xs)
  rules_declared bs xs d = rules_each (Concludes md) xs (found_each (Of (Concludes md)) declared_of d)

  pub found_filed : (files : ℕ) → {bs : List Block} {xs : List RuleBlock} → AreRuleBlocks md ns bs xs → Each (Stands files) bs → Each (Of (Filed files)) xs
  found_filed files r.AreRuleBlocks.none = λ h. tt
  found_filed files (r.AreRuleBlocks.passed p d) = λ h. found_filed files d h.1
  found_filed files (r.AreRuleBlocks.rule is d) = λ h. (λ a e s p q t. subst (λ n. n < files) (sym is.file_is) h.0, found_filed files d h.1)

module _ (md : Lists) (inferences : List Inferred) (blocks : List Block) (rules : List Rule) (h : AreRules md inferences blocks rules) where
  fine_hold : AreFormed inferences → Each Fine rules
  fine_hold formed = subst (Each Fine) (sym h.rules_are) (rules_fine md (names_in md inferences) (members_form inferences (each_of Formed inferences formed)) blocks h.found h.are_found)

  pub formed_hold : AreFormed inferences → HaveForm rules
  formed_hold formed = all_of Has rules (each_left Has Flat rules (fine_hold formed))

  pub shallow_hold : AreFormed inferences → AreShallow rules
  shallow_hold formed = all_of Flat rules (each_right Has Flat rules (fine_hold formed))

  pub declared_hold : AreDeclared md rules
  declared_hold = all_of (Concludes md) rules (subst (Each (Concludes md)) (sym h.rules_are) (rules_declared md (names_in md inferences) blocks h.found h.are_found))

  pub filed_hold : AreFiledAs blocks rules
  filed_hold files all =
      all_of (Filed files) rules (subst (Each (Filed files)) (sym h.rules_are)
      (rules_each (Filed files) h.found (found_filed md (names_in md inferences) files h.are_found (each_of (Stands files) blocks all))))

-- ---- how many rules there are

left_none : (xs ys : List RbFault) → xs ++ ys ≡ [] → xs ≡ []
left_none [] ys e = refl
left_none (x ∷ xs) ys e = absurd (cc e)

right_none : (xs ys : List RbFault) → xs ++ ys ≡ [] → ys ≡ []
right_none [] ys e = e
right_none (x ∷ xs) ys e = absurd (cc e)

when_none : (k : Bool) (f : RbFault) → when k f ≡ [] → k ≡ false
when_none true f e = absurd (cc e)
when_none false f e = refl

more_room : (c : ℕ) → (c == MOST_RULES) ≡ false → c ≤ MOST_RULES → c + 1 ≤ MOST_RULES
more_room c h k = grind (arith, h, k)

room_by : (c n file line : ℕ) (o : Option Statement) → spelled_faults c n file line o ≡ [] → c ≤ MOST_RULES → c + 1 ≤ MOST_RULES
room_by c n file line None e k = absurd (cc e)
room_by c n file line (Some s) e k = more_room c (when_none (c == MOST_RULES) (fault_at file line kind.Limit) (left_none _ _ (left_none _ _ e))) k

pub room : (c n : ℕ) (xs : List RuleBlock) → faults_from c n xs ≡ [] → c ≤ MOST_RULES → c + length xs ≤ MOST_RULES
room c n [] e k = omega (arith, k)
room c n (x ∷ xs) e k =
    let now = room_by c n x.file x.line x.statement (left_none (block_faults c n x) (faults_from (c + 1) (n + statement_nodes x.statement) xs) e) k in
    let later = room (c + 1) (n + statement_nodes x.statement) xs (right_none (block_faults c n x) (faults_from (c + 1) (n + statement_nodes x.statement) xs) e) now in
    omega (arith, later)

one_from : (file line : ℕ) (a : Option AttrId) (t : Option Expr) (by_if : Bool) → length (rule_from file line a t by_if) ≤ 1
one_from file line None t by_if = omega arith
one_from file line (Some a) None by_if = omega arith
one_from file line (Some a) (Some t) by_if = omega arith

one_by : (file line : ℕ) (o : Option Statement) → length (rule_by file line o) ≤ 1
one_by file line None = omega arith
one_by file line (Some s) = one_from file line s.attr s.said.reading.tree s.by_if

pub fewer : (xs : List RuleBlock) → length (rules_in xs) ≤ length xs
fewer [] = omega arith
fewer (x ∷ xs) = omega (arith, one_by x.file x.line x.statement, fewer xs, length-append (rule_in x) (rules_in xs))

pub few_hold : (md : Lists) (inferences : List Inferred) (blocks : List Block) (rules : List Rule) → AreRules md inferences blocks rules → length rules ≤ 4000
few_hold md inferences blocks rules h =
    let z : 0 ≤ MOST_RULES = omega arith in
    let k = room 0 (inferred_nodes inferences) h.found h.sound z in
    omega (arith, fewer h.found, k, ap length h.rules_are)

-- ---- inferred relations

no_members : MembersForm bounded []
no_members n x e = absurd (cc e)

abbrev Level : Inferred → Type 0
Level i = IsShallow i.expr

abbrev Good : Inferred → Type 0
Good i = Formed i × Level i

abbrev reading : Measure → Option Expr → Reading
reading mm t = record { tree = t; measure = mm }

one_good : (phrase : List ℕ) (every : Option RelId) (mm : Measure) (t : Option Expr) → Sound (reading mm t) → Each Good (inferred_from phrase every t)
one_good phrase None mm t s = tt
one_good phrase (Some q) mm None s = tt
one_good phrase (Some q) mm (Some e) s = ((λ top. is_true (has_form e top) (s.0 top), omega (arith, s.1, s.2)), tt)

module _ (md : Lists) where
  block_good : (y : Block) (o : Option Membership) → IsMembership md (names_alone md) y.lines o → Each Good (inferred_by o)
  block_good y None h = tt
  block_good y (Some s) h = one_good s.phrase s.every s.said.reading.measure s.said.reading.tree (members_sound (names_alone md) no_members md h)

  found_good : {bs : List Block} {xs : List MemberBlock} → AreMemberBlocks md (names_alone md) bs xs → Each Good (inferred_in xs)
  found_good m.AreMemberBlocks.none = tt
  found_good (m.AreMemberBlocks.passed p d) = found_good d
  found_good (m.AreMemberBlocks.members {b = y} {r = x} {rs = xs} is d) = each_append Good (inferred_by x.membership) (inferred_in xs) (block_good y x.membership is.says) (found_good d)

  pub inferred_formed : (blocks : List Block) (xs : List Inferred) → AreInferences md blocks xs → AreFormed xs
  inferred_formed blocks xs h = all_of Formed xs (each_left Formed Level xs (subst (Each Good) (sym h.inferences_are) (found_good h.are_found)))

  pub inferred_flat : (blocks : List Block) (xs : List Inferred) → AreInferences md blocks xs → AreFlat xs
  inferred_flat blocks xs h = all_of Level xs (each_right Formed Level xs (subst (Each Good) (sym h.inferences_are) (found_good h.are_found)))
