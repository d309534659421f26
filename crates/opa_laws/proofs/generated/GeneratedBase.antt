-- The generated rulebase is accepted.
use Rattle.std.proofs.Common.{◌≡◌, ◌≢◌, ◌∙◌, ◌+◌, ◌<◌, IsTrue, cond, ℕ, zero, suc, List, [], ◌∷◌, ◌++◌, Bool, true, false, refl, sym, ap, arith, All}
use Rattle.std.specs.Cmp.{eq_by_cmp_equiv}
use Rattle.std.specs.Cmp.Lexicographic.{nat_list_cmp_total}
use Rattle.std.specs.FinMap as finite
use Rattle.std.specs.Prelude.{map, is_some, pos, slice_index_or, Ok, Err, Some, None}
use Rattle.std.proofs.lemmas.List.Elements.{All-nil, All-cons}
use Rattle.std.proofs.lemmas.List.Kept.{AllPairs-cons}
use Rattle.opa_io.proofs.Lists.{no_pairs, All_one}
use Rattle.opa_io.specs.Outside.{Files}
use Rattle.opa_value.specs.declared.value.Value.{Value}
use Rattle.opa_value.specs.declared.value.Value.TheVariants as value
use Rattle.opa_model.specs.declared.ids.AttrId.{AttrId}
use Rattle.opa_model.specs.declared.things.Kind.TheVariants as kind
use Rattle.opa_model.specs.Models.{HasAttribute}
use Rattle.opa_tree.specs.declared.expr.Expr.{Expr}
use Rattle.opa_tree.specs.declared.expr.Expr.TheOpen.{Const, Attr, Op, Over}
use Rattle.opa_tree.specs.declared.expr.Expr.TheVariants as expr
use Rattle.opa_tree.specs.declared.kinds.OpKind.TheVariants as op
use Rattle.opa_tree.specs.declared.kinds.Quant.TheVariants as quant
use Rattle.opa_tree.specs.declared.rulebase.Rulebase.{Rulebase}
use Rattle.opa_tree.specs.declared.rules.Rule.{Rule}
use Rattle.opa_tree.specs.Accepted.{AreSound, AreFiled, AreShallow, HaveForm, concludes_bool}
use Rattle.opa_tree.specs.FirstOnes.{first_ones}
use Rattle.opa_tree.specs.Kinds.{Typing, kinds_step, rule_has_kind, typing}
use Rattle.opa_tree.specs.Mentions.{is_attr, mentioned}
use Rattle.opa_tree.specs.Ranks.{AreRanks, AreRuled, rank_at, rank_by}
use Rattle.opa_tree.specs.Rules.{rule_of}
use Rattle.opa_tree.specs.Scopes.{is_reached, rule_is_reached, scope_step}
use Rattle.opa_tree.specs.Trees.{HasForm, IsShallow, depth, depth_step, form_step, has_form, highest}
use Rattle.opa_tree.proofs.DepthLaws.{depth-Attr, depth-Const, depth-Op, depth-Over}
use Rattle.opa_tree.proofs.FormLaws.{form-Attr, form-Const, form-Op, form-Over}
use Rattle.opa_tree.proofs.KindLaws.{typing-Attr, typing-Const, typing-Op, typing-Over}
use Rattle.opa_tree.proofs.MentionLaws.{mentioned-Attr, mentioned-Const, mentioned-Op, mentioned-Over}
use Rattle.opa_tree.proofs.ScopeLaws.{scope-Attr, scope-Const, scope-Op, scope-Over}
use Rattle.opa_rulebase.specs.Loading as loading
use Rattle.opa_rulebase.specs.Loading.{IsAccepted, Opens}
use Rattle.opa_script.specs.Examples.{rules_text}
use Rattle.opa_laws.specs.Generated.{GeneratedIsAccepted, GeneratedIsNotRefused, HasRules, OnlyRulesAreAccepted, OnlyRulesAreRules, only_rules}
use Rattle.opa_laws.specs.Decided.Opening.{OneOpening}
use Rattle.opa_laws.proofs.generated.GeneratedBlocks.{blocks, blocks_are}
use Rattle.opa_laws.proofs.generated.GeneratedFiles.{sources, files_are}
use Rattle.opa_laws.proofs.generated.GeneratedItems.{declares, model}
use Rattle.opa_laws.proofs.generated.GeneratedRules.{inferences_are, income, number_condition, number_rule, rules_are, the_people, the_rules, total_rule}

abbrev limit : Value
limit = value.Num (pos 3_000_000)

abbrev parts : List Expr
parts = expr.Attr income ∷ expr.Const limit ∷ []

-- ---- kinds

condition_typed : typing model number_condition ≡ kinds_step model (Op op.Gt (kinds_step model (Attr income) ∷ kinds_step model (Const limit) ∷ []))
condition_typed =
    typing-Op model op.Gt parts
    ∙ ap (λ (t : Typing). kinds_step model (Op op.Gt (t ∷ typing model (expr.Const limit) ∷ []))) (typing-Attr model income)
    ∙ ap (λ (t : Typing). kinds_step model (Op op.Gt (kinds_step model (Attr income) ∷ t ∷ []))) (typing-Const model limit)

total_kind : rule_has_kind model total_rule ≡ true
total_kind =
    ap (λ (t : Typing). t.can kind.Currency)
    (typing-Over model quant.Sum the_people (expr.Attr income ∷ []) ∙ ap (λ (t : Typing). kinds_step model (Over quant.Sum the_people (t ∷ []))) (typing-Attr model income))

number_kind : rule_has_kind model number_rule ≡ true
number_kind =
    ap (λ (t : Typing). t.can kind.Number)
    (typing-Over model quant.CountIf the_people (number_condition ∷ []) ∙ ap (λ (t : Typing). kinds_step model (Over quant.CountIf the_people (t ∷ []))) condition_typed)

-- ---- forms and depths

condition_formed : has_form number_condition ≡ form_step (Op op.Gt (form_step (Attr income) ∷ form_step (Const limit) ∷ []))
condition_formed =
    form-Op op.Gt parts
    ∙ ap (λ (t : Bool → Bool). form_step (Op op.Gt (t ∷ has_form (expr.Const limit) ∷ []))) (form-Attr income)
    ∙ ap (λ (t : Bool → Bool). form_step (Op op.Gt (form_step (Attr income) ∷ t ∷ []))) (form-Const limit)

total_form : has_form total_rule.expr true ≡ true
total_form =
    ap (λ (t : Bool → Bool). t true)
    (form-Over quant.Sum the_people (expr.Attr income ∷ []) ∙ ap (λ (t : Bool → Bool). form_step (Over quant.Sum the_people (t ∷ []))) (form-Attr income))

number_form : has_form number_rule.expr true ≡ true
number_form =
    ap (λ (t : Bool → Bool). t true)
    (form-Over quant.CountIf the_people (number_condition ∷ []) ∙ ap (λ (t : Bool → Bool). form_step (Over quant.CountIf the_people (t ∷ []))) condition_formed)

condition_deep : depth number_condition ≡ 2
condition_deep =
    depth-Op op.Gt parts
    ∙ ap (λ n. depth_step (Op op.Gt (n ∷ depth (expr.Const limit) ∷ []))) (depth-Attr income)
    ∙ ap (λ n. depth_step (Op op.Gt (depth_step (Attr income) ∷ n ∷ []))) (depth-Const limit)

total_deep : depth total_rule.expr ≡ 2
total_deep = depth-Over quant.Sum the_people (expr.Attr income ∷ []) ∙ ap (λ n. depth_step (Over quant.Sum the_people (n ∷ []))) (depth-Attr income)

number_deep : depth number_rule.expr ≡ 3
number_deep = depth-Over quant.CountIf the_people (number_condition ∷ []) ∙ ap (λ n. depth_step (Over quant.CountIf the_people (n ∷ []))) condition_deep

-- ---- what is reached, and what is mentioned

condition_reached : is_reached model number_condition ≡ scope_step model (Op op.Gt (scope_step model (Attr income) ∷ scope_step model (Const limit) ∷ []))
condition_reached =
    scope-Op model op.Gt parts
    ∙ ap (λ t. scope_step model (Op op.Gt (t ∷ is_reached model (expr.Const limit) ∷ []))) (scope-Attr model income)
    ∙ ap (λ t. scope_step model (Op op.Gt (scope_step model (Attr income) ∷ t ∷ []))) (scope-Const model limit)

total_reached : rule_is_reached model total_rule ≡ true
total_reached =
    ap (λ t. t (record { 0 = 0 } ∷ []))
    (scope-Over model quant.Sum the_people (expr.Attr income ∷ []) ∙ ap (λ t. scope_step model (Over quant.Sum the_people (t ∷ []))) (scope-Attr model income))

number_reached : rule_is_reached model number_rule ≡ true
number_reached =
    ap (λ t. t (record { 0 = 0 } ∷ []))
    (scope-Over model quant.CountIf the_people (number_condition ∷ []) ∙ ap (λ t. scope_step model (Over quant.CountIf the_people (t ∷ []))) condition_reached)

condition_mentions : mentioned number_condition ≡ income ∷ []
condition_mentions =
    mentioned-Op op.Gt parts
    ∙ ap (λ xs. xs ++ (mentioned (expr.Const limit) ++ [])) (mentioned-Attr income)
    ∙ ap (λ xs. income ∷ (xs ++ [])) (mentioned-Const limit)

total_mentions : mentioned total_rule.expr ≡ income ∷ []
total_mentions = mentioned-Over quant.Sum the_people (expr.Attr income ∷ []) ∙ ap (λ xs. xs ++ []) (mentioned-Attr income)

number_mentions : mentioned number_rule.expr ≡ income ∷ []
number_mentions = mentioned-Over quant.CountIf the_people (number_condition ∷ []) ∙ ap (λ xs. xs ++ []) condition_mentions

-- ---- the rules together

each_rule : (P : Rule → Type 0) → P total_rule → P number_rule → All P the_rules
each_rule P p q = All-cons P total_rule (number_rule ∷ []) p (All_one P number_rule q)

apart : total_rule.attr ≢ number_rule.attr
apart e = absurd (omega (arith, ap (λ (a : AttrId). a.0) e))

sound : AreSound model the_rules
sound = record {
  attributes_declared = each_rule (λ r. HasAttribute model r.attr) (omega arith) (omega arith);
  reached = each_rule (λ r. IsTrue (rule_is_reached model r)) total_reached number_reached;
  of_kinds = each_rule (λ r. IsTrue (rule_has_kind model r)) total_kind number_kind;
  bools_by_if = each_rule (λ r. IsTrue (concludes_bool model r)) refl refl;
  one_each = AllPairs-cons (λ r s. r.attr ≢ s.attr) total_rule (number_rule ∷ []) (All_one (λ r. total_rule.attr ≢ r.attr) number_rule apart)
      (AllPairs-cons (λ r s. r.attr ≢ s.attr) number_rule [] (All-nil (λ r. number_rule.attr ≢ r.attr)) (no_pairs (λ r s. r.attr ≢ s.attr)));
}

formed : HaveForm the_rules
formed = each_rule (λ r. HasForm r.expr) total_form number_form

shallow : AreShallow the_rules
shallow = each_rule (λ r. IsShallow r.expr) (omega (arith, total_deep)) (omega (arith, number_deep))

filed : AreFiled 1 the_rules
filed = each_rule (λ r. r.file < 1) (omega arith) (omega arith)

-- ---- ranks

below_three : (P : ℕ → Type 0) → P 0 → P 1 → P 2 → (n : ℕ) → n < 3 → P n
below_three P a b c zero h = a
below_three P a b c (suc zero) h = b
below_three P a b c (suc (suc zero)) h = c
below_three P a b c (suc (suc (suc n))) h = absurd (omega (arith, h))

abbrev ranks : List ℕ
ranks = 1 ∷ 1 ∷ 0 ∷ []

abbrev ruled : List Bool
ruled = true ∷ true ∷ false ∷ []

abbrev rank_over : List AttrId → ℕ
rank_over xs = 1 + highest (map (rank_at ranks) (first_ones is_attr xs))

abbrev attribute : ℕ → AttrId
attribute n = record { 0 = n }

are_ranks : AreRanks 3 the_rules ranks
are_ranks = record {
  for_each = refl;
  by_rules = λ a lt. below_three (λ n. rank_at ranks (attribute n) ≡ rank_by ranks (rule_of the_rules (attribute n))) (sym (ap rank_over total_mentions)) (sym (ap rank_over number_mentions)) refl a.0 lt;
}

are_ruled : AreRuled 3 the_rules ruled
are_ruled = record {
  for_each = refl;
  by_rules = λ a lt. below_three (λ n. slice_index_or ruled n false ≡ is_some (rule_of the_rules (attribute n))) refl refl refl a.0 lt;
}

-- ---- the rulebase

base : List ℕ → Rulebase
base name = record {
  model = model;
  rules = the_rules;
  ranks = ranks;
  ruled = ruled;
  files = name ∷ [];
  sound = sound;
  ranked = are_ranks;
  ruled_by = are_ruled;
  formed = formed;
  shallow = shallow;
  filed = filed;
}

accepted : (name : List ℕ) → IsAccepted (sources name) (base name)
unfolding base
accepted name = record {
  blocks = blocks;
  inferences = [];
  are_inferred = record { declared = record { blocks_are = blocks_are name; declares = declares }; inferences_are = inferences_are };
  are_rules = rules_are;
  files_are = refl;
}

opens : (files : Files) (name : List ℕ) → HasRules files name → Opens files name (Ok (base name))
opens files name is = loading.Opens.accepts (sources name) (base name) (files_are files name is) (accepted name)

pub generated_is_accepted_holds : GeneratedIsAccepted
generated_is_accepted_holds files name is = (base name, opens files name is)

pub generated_is_not_refused_holds : OneOpening → GeneratedIsNotRefused
generated_is_not_refused_holds one files name text is refused =
    let same : Ok (base name) ≡ Err text = one files name (Ok (base name)) (Err text) (opens files name is) refused in cc same

pub only_rules_are_rules_hold : OnlyRulesAreRules
only_rules_are_rules_hold name =
    finite.get-from_entries nat_list_cmp_total ((name, rules_text) ∷ []) name ∙ ap (λ t. cond t (Some rules_text) None) ((eq_by_cmp_equiv nat_list_cmp_total).refl name)

pub only_rules_are_accepted_hold : OnlyRulesAreAccepted
only_rules_are_accepted_hold name = generated_is_accepted_holds (only_rules name) name (only_rules_are_rules_hold name)
