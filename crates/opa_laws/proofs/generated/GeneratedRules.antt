-- The rules of the generated rulebase.
use Rattle.std.proofs.Common.{◌≡◌, ℕ, List, [], ◌∷◌, length, false, refl, inl}
use Rattle.std.specs.Prelude.{codes, pos, Some, None}
use Rattle.std.specs.Str.{chars}
use Rattle.opa_value.specs.declared.value.Value.TheVariants as value
use Rattle.opa_value.specs.NumberText.{count_of, read_number}
use Rattle.opa_model.specs.declared.ids.AttrId.{AttrId}
use Rattle.opa_model.specs.declared.ids.RelId.{RelId}
use Rattle.opa_tree.specs.declared.expr.Expr.{Expr}
use Rattle.opa_tree.specs.declared.expr.Expr.TheVariants as expr
use Rattle.opa_tree.specs.declared.kinds.OpKind.TheVariants as op
use Rattle.opa_tree.specs.declared.kinds.Quant.TheVariants as quant
use Rattle.opa_tree.specs.declared.rules.Rule.{Rule}
use Rattle.opa_words.specs.declared.kinds.Token.{Token}
use Rattle.opa_words.specs.Cuts.{Cuts}
use Rattle.opa_words.specs.Places.{token_text}
use Rattle.opa_sentence.specs.declared.class.Class.{Class}
use Rattle.opa_sentence.specs.declared.class.Class.TheVariants as class
use Rattle.opa_sentence.specs.declared.functions.Function.{Function}
use Rattle.opa_sentence.specs.declared.functions.Function.TheVariants as function
use Rattle.opa_sentence.specs.declared.names.Names.{Names}
use Rattle.opa_sentence.specs.declared.names.Relation.TheVariants as relation
use Rattle.opa_sentence.specs.declared.reading.Arguments.{Arguments}
use Rattle.opa_sentence.specs.declared.reading.Reading.{Reading}
use Rattle.opa_sentence.specs.Bounding.{bound}
use Rattle.opa_sentence.specs.Grammar as g
use Rattle.opa_sentence.specs.Grammar.{LINE, OPERAND, Spells}
use Rattle.opa_sentence.specs.Lexemes.{Lexeme}
use Rattle.opa_sentence.specs.Literals.{number_in}
use Rattle.opa_sentence.specs.Measures.{unbounded}
use Rattle.opa_sentence.specs.Readings as says
use Rattle.opa_parse.specs.declared.block.BlockSort.{BlockSort}
use Rattle.opa_parse.specs.declared.block.BlockSort.TheVariants as block_sort
use Rattle.opa_parse.specs.declared.block.RuleBlock.{RuleBlock}
use Rattle.opa_parse.specs.declared.block.Statement.{Statement}
use Rattle.opa_parse.specs.Blocks as b
use Rattle.opa_parse.specs.Blocks.{SpellsRule, statement}
use Rattle.opa_parse.specs.Lines.{IsCut}
use Rattle.opa_parse.specs.Memberships as members
use Rattle.opa_parse.specs.Memberships.{AreInferences}
use Rattle.opa_parse.specs.Naming.{names_in}
use Rattle.opa_parse.specs.Openings.{IsSortOf, sort_of_word}
use Rattle.opa_parse.specs.Rules as rules
use Rattle.opa_parse.specs.Rules.{AreRuleBlocks, IsPassed, IsRuleBlock}
use Rattle.opa_parse.specs.Sayings.{of_line}
use Rattle.opa_parse.specs.Tables.Whole.{AreAllRules}
use Rattle.opa_laws.proofs.generated.AsciiCuts.{IsLine, line_is_cut, tokens}
use Rattle.opa_laws.proofs.generated.GeneratedBlocks.{blocks, total_line, number_line}
use Rattle.opa_laws.proofs.generated.GeneratedItems.{model}

-- ---- which blocks are rules

abbrev Sorts : List ℕ → List Token → BlockSort → Type 0
Sorts bytes [] s = ⊥
Sorts bytes (t ∷ ts) s = s ≡ sort_of_word (token_text bytes t)

sort_by : (bytes : List ℕ) (ts : List Token) (s : BlockSort) → Cuts (length bytes) (chars bytes) ts → Sorts bytes ts s → IsSortOf bytes s
sort_by bytes [] s is h = absurd h
sort_by bytes (t ∷ ts) s is h = (Some (token_text bytes t), (bytes, t, ts, (is, inl (t ∷ ts, is, refl)), refl), h)

sort_is : (bytes : List ℕ) (s : BlockSort) → IsLine bytes → Sorts bytes (tokens bytes) s → IsSortOf bytes s
sort_is bytes s is h = sort_by bytes (tokens bytes) s (line_is_cut bytes is) h

global_sort : IsSortOf (codes "global") block_sort.Declaration
global_sort = sort_is (codes "global") block_sort.Declaration (refl, refl) refl

person_sort : IsSortOf (codes "entity the person") block_sort.Declaration
person_sort = sort_is (codes "entity the person") block_sort.Declaration (refl, refl) refl

total_goal_sort : IsSortOf (codes "goal the total") block_sort.Declaration
total_goal_sort = sort_is (codes "goal the total") block_sort.Declaration (refl, refl) refl

number_goal_sort : IsSortOf (codes "goal the number above") block_sort.Declaration
number_goal_sort = sort_is (codes "goal the number above") block_sort.Declaration (refl, refl) refl

total_sort : IsSortOf total_line.text block_sort.Rule
total_sort = sort_is total_line.text block_sort.Rule (refl, refl) refl

number_sort : IsSortOf number_line.text block_sort.Rule
number_sort = sort_is number_line.text block_sort.Rule (refl, refl) refl

-- ---- no inferred relations

not_members : block_sort.Declaration ≡ block_sort.Members → ⊥
not_members e = cc e

rules_not_members : block_sort.Rule ≡ block_sort.Members → ⊥
rules_not_members e = cc e

not_rules : block_sort.Declaration ≡ block_sort.Rule → ⊥
not_rules e = cc e

pub inferences_are : AreInferences model blocks []
inferences_are = record {
  found = [];
  are_found =
      members.AreMemberBlocks.passed (block_sort.Declaration, global_sort, not_members)
      (members.AreMemberBlocks.passed (block_sort.Declaration, person_sort, not_members)
      (members.AreMemberBlocks.passed (block_sort.Declaration, total_goal_sort, not_members)
      (members.AreMemberBlocks.passed (block_sort.Declaration, number_goal_sort, not_members)
      (members.AreMemberBlocks.passed (block_sort.Rule, total_sort, rules_not_members)
      (members.AreMemberBlocks.passed (block_sort.Rule, number_sort, rules_not_members) members.AreMemberBlocks.none)))));
  sound = refl;
  inferences_are = refl;
}

-- ---- what the rules say

abbrev ns : Names
ns = names_in model []

abbrev pub the_people : RelId
the_people = record { 0 = 0 }

abbrev pub income : AttrId
income = record { 0 = 2 }

abbrev lexeme : Class → List ℕ → Lexeme
lexeme c text = record { class = c; text = text }

abbrev income_words : List Lexeme → List Lexeme
income_words rest = lexeme class.Word (codes "the") ∷ lexeme class.Word (codes "person's") ∷ lexeme class.Word (codes "income") ∷ rest

abbrev people_words : List Lexeme → List Lexeme
people_words rest = lexeme class.Word (codes "the") ∷ lexeme class.Word (codes "people") ∷ lexeme class.Comma (codes ",") ∷ rest

abbrev call_words : Function → List ℕ → List Lexeme → List Lexeme
call_words f name rest = lexeme (class.Function f) name ∷ lexeme class.Open (codes "(") ∷ people_words rest

abbrev closing : List Lexeme
closing = lexeme class.Close (codes ")") ∷ []

abbrev total_call : List Lexeme
total_call = call_words (function.Over quant.Sum) (codes "InstanceSum") (income_words closing)

abbrev number_call : List Lexeme
number_call = call_words (function.Over quant.CountIf) (codes "InstanceCountIf") (income_words (lexeme (class.Compare op.Gt) (codes ">") ∷ lexeme class.Number (codes "300") ∷ closing))

abbrev total_words : List Lexeme
total_words = lexeme class.Word (codes "the") ∷ lexeme class.Word (codes "total") ∷ lexeme (class.Compare op.Eq) (codes "=") ∷ total_call

abbrev number_words : List Lexeme
number_words = lexeme class.Word (codes "the") ∷ lexeme class.Word (codes "number") ∷ lexeme class.Word (codes "above") ∷ lexeme (class.Compare op.Eq) (codes "=") ∷ number_call

abbrev of_income : Reading
of_income = says.attribute unbounded income

abbrev above_300 : Reading
above_300 = says.between unbounded op.Gt of_income (says.literal unbounded (value.Num (pos 3_000_000)))

abbrev over_people : Reading → Arguments
over_people x = record { relation = relation.Declared the_people; number = None; lines = x ∷ [] }

abbrev total_reading : Reading
total_reading = says.call_of unbounded [] (function.Over quant.Sum) (over_people of_income)

abbrev number_reading : Reading
number_reading = says.call_of unbounded [] (function.Over quant.CountIf) (over_people above_300)

income_in_total : Spells unbounded ns LINE (income_words closing) of_income closing
income_in_total = g.Spells.one (g.Spells.term (g.Spells.factor (g.Spells.phrase (g.BeginsPhrase.word refl) 2 3 refl)))

total_spelled : Spells unbounded ns LINE total_call total_reading []
total_spelled =
    g.Spells.one (g.Spells.term (g.Spells.factor (g.Spells.call (function.Over quant.Sum) refl refl
    (g.SpellsArguments.more_arguments {y = record { relation = relation.Declared the_people; number = None; lines = [] }}
    (g.SpellsArgument.as_relation refl (relation.Declared the_people, lexeme class.Comma (codes ",") ∷ income_words closing) refl) refl
    (g.SpellsArguments.last_argument (g.SpellsArgument.as_line refl income_in_total) refl))
    refl)))

reads_300 : number_in (codes "300") ≡ Some (pos 3_000_000)
unfolding read_number count_of
reads_300 = refl

above_300_spelled : Spells unbounded ns LINE (income_words (lexeme (class.Compare op.Gt) (codes ">") ∷ lexeme class.Number (codes "300") ∷ closing)) above_300 closing
above_300_spelled =
    g.Spells.compared {x = of_income} {y = says.literal unbounded (value.Num (pos 3_000_000))} {t = lexeme (class.Compare op.Gt) (codes ">")} {mid = lexeme class.Number (codes "300") ∷ closing} op.Gt refl
    (g.Spells.term (g.Spells.factor (g.Spells.phrase (g.BeginsPhrase.word refl) 2 3 refl)))
    (g.Spells.term (g.Spells.factor (g.Spells.number {t = lexeme class.Number (codes "300")} {rest = closing} refl (pos 3_000_000) reads_300)))

number_spelled : Spells unbounded ns LINE number_call number_reading []
number_spelled =
    g.Spells.one (g.Spells.term (g.Spells.factor (g.Spells.call (function.Over quant.CountIf) refl refl
    (g.SpellsArguments.more_arguments {y = record { relation = relation.Declared the_people; number = None; lines = [] }}
    (g.SpellsArgument.as_relation refl (relation.Declared the_people, lexeme class.Comma (codes ",") ∷ income_words (lexeme (class.Compare op.Gt) (codes ">") ∷ lexeme class.Number (codes "300") ∷ closing)) refl) refl
    (g.SpellsArguments.last_argument (g.SpellsArgument.as_line refl above_300_spelled) refl))
    refl)))

-- ---- the rules

abbrev the_total : AttrId
the_total = record { 0 = 0 }

abbrev the_number : AttrId
the_number = record { 0 = 1 }

total_cut : IsCut total_line total_words
total_cut = record { tokens = tokens total_line.text; cut = line_is_cut total_line.text (refl, refl); words_are = refl }

number_cut : IsCut number_line number_words
number_cut = record { tokens = tokens number_line.text; cut = line_is_cut number_line.text (refl, refl); words_are = refl }

abbrev total_statement : Statement
total_statement = statement (Some the_total) false (of_line 9 (bound total_reading))

abbrev number_statement : Statement
number_statement = statement (Some the_number) false (of_line 10 (bound number_reading))

total_says : SpellsRule model ns (total_line ∷ []) total_statement
total_says = b.SpellsRule.by_line {words = total_words} {a = Some the_total} {x = bound total_reading} refl total_cut refl refl (total_reading, total_spelled, refl)

number_says : SpellsRule model ns (number_line ∷ []) number_statement
number_says = b.SpellsRule.by_line {words = number_words} {a = Some the_number} {x = bound number_reading} refl number_cut refl refl (number_reading, number_spelled, refl)

abbrev total_found : RuleBlock
total_found = record { file = 0; line = 9; statement = Some total_statement }

abbrev number_found : RuleBlock
number_found = record { file = 0; line = 10; statement = Some number_statement }

found : AreRuleBlocks model ns blocks (total_found ∷ number_found ∷ [])
found =
    rules.AreRuleBlocks.passed (block_sort.Declaration, global_sort, not_rules)
    (rules.AreRuleBlocks.passed (block_sort.Declaration, person_sort, not_rules)
    (rules.AreRuleBlocks.passed (block_sort.Declaration, total_goal_sort, not_rules)
    (rules.AreRuleBlocks.passed (block_sort.Declaration, number_goal_sort, not_rules)
    (rules.AreRuleBlocks.rule (record { sort = total_sort; file_is = refl; line_is = refl; says = total_says })
    (rules.AreRuleBlocks.rule (record { sort = number_sort; file_is = refl; line_is = refl; says = number_says }) rules.AreRuleBlocks.none)))))

-- the incomes above 300
abbrev pub number_condition : Expr
number_condition = expr.Op op.Gt (expr.Attr income ∷ expr.Const (value.Num (pos 3_000_000)) ∷ [])

abbrev pub total_rule : Rule
total_rule = record { attr = the_total; expr = expr.Over quant.Sum the_people (expr.Attr income ∷ []); file = 0; line = 9; by_if = false }

abbrev pub number_rule : Rule
number_rule = record { attr = the_number; expr = expr.Over quant.CountIf the_people (number_condition ∷ []); file = 0; line = 10; by_if = false }

abbrev pub the_rules : List Rule
the_rules = total_rule ∷ number_rule ∷ []

pub rules_are : AreAllRules model [] blocks [] the_rules
rules_are = record { found = total_found ∷ number_found ∷ []; are_found = found; tabled = []; are_tabled = refl; sound = refl; rules_are = refl }
