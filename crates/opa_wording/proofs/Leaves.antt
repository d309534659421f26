-- Literals that are spelled as what they are.
use Rattle.std.proofs.Common.{◌≡◌, ◌≤◌, ◌<◌, ℕ, suc, ℤ, pos, negsuc, ◌*◌, List, [], ◌∷◌, ◌++◌, Bool, true, false, cond, Some, None, refl, sym, ap, ◌∙◌, arith, le-leb, lt-ltb}
use Rattle.std.specs.Prelude.{decimal, neg_ℤ, ◌^◌, ◌/◌, ◌%◌, ◌==◌, take, if◌then◌else◌}
use Rattle.std.specs.Int.RustNames.{unsigned_abs}
use Rattle.std.specs.Option.{option_and_then}
use Rattle.opa_value.specs.declared.value.Value.{Value}
use Rattle.opa_value.specs.declared.value.Value.TheVariants as value
use Rattle.opa_value.specs.Numbers.{InRange, kept, most}
use Rattle.opa_value.specs.NumberText.{plain_text, number_text, decimals_needed, four_digits, behind_text}
use Rattle.opa_value.proofs.ReadBack.{plain_back}
use Rattle.opa_date.specs.declared.TheConstants.{DAYS}
use Rattle.opa_date.specs.Texts.{day_text}
use Rattle.opa_date.proofs.ReadTexts.{texts_are_read}
use Rattle.opa_model.specs.declared.things.Kind.TheVariants as kind
use Rattle.opa_tree.specs.declared.expr.Expr.TheVariants as V
use Rattle.opa_tree.specs.Trees.{is_literal}
use Rattle.opa_sentence.specs.declared.names.Names.{Names}
use Rattle.opa_sentence.specs.Lexemes.{Lexeme}
use Rattle.opa_sentence.specs.Literals.{number_in, number_or_none, negative_in, day_in, day_or_none}
use Rattle.opa_sentence.specs.Measures.{unbounded}
use Rattle.opa_sentence.specs.Readings as says
use Rattle.opa_sentence.specs.Grammar.{FACTOR, Spells}
use Rattle.opa_sentence.specs.Grammar as g
use Rattle.opa_words.specs.Quoted.{unquoted}
use Rattle.opa_words.specs.Kinds.{quoted}
use Rattle.opa_words.proofs.QuotedLaws.{reads_quoted_holds}
use Rattle.opa_text.specs.Laws.{CanBeWritten}
use Rattle.opa_wording.specs.Wordings.{literal, alike, date_text}
use Rattle.opa_wording.specs.Told.{all_told}
use Rattle.opa_wording.proofs.Parts.{Says, IsSpelled, alike_spelled}

pub number_read : (n : ℕ) → InRange (pos n) → number_in (plain_text (pos n)) ≡ Some (pos n)
number_read n h = ap number_or_none (plain_back (pos n) h)

kept_is : (n : ℤ) → InRange n → kept n ≡ Some n
kept_is n h = ap (λ b. cond b (Some n) None) (le-leb (unsigned_abs n) most h)

negative_read : (n : ℕ) → InRange (negsuc n) → negative_in (plain_text (pos (suc n))) ≡ Some (negsuc n)
negative_read n h = ap (option_and_then (λ z. kept (neg_ℤ z))) (number_read (suc n) h) ∙ kept_is (negsuc n) h

day_read : (d : ℕ) → d < DAYS → day_in (date_text d) ≡ Some d
day_read d h = ap day_in (ap (λ b. cond b (day_text d) []) (lt-ltb d DAYS h)) ∙ ap day_or_none (texts_are_read d h)

-- ---- whole numbers

whole_rest : (n : ℕ) → n * 10000 % 10 ^ 4 ≡ 0
whole_rest n = omega arith

whole_part : (n : ℕ) → n * 10000 / 10 ^ 4 ≡ n
whole_part n = omega arith

none_needed : (n : ℕ) → decimals_needed (n * 10000) ≡ 0
none_needed n = ap (λ r. if r == 0 then 0 else if n * 10000 % 10 ^ 3 == 0 then 1 else if n * 10000 % 10 ^ 2 == 0 then 2 else if n * 10000 % 10 == 0 then 3 else 4) (whole_rest n)

whole_text : (n : ℕ) → plain_text (pos (n * 10000)) ≡ decimal n
unfolding plain_text number_text
whole_text n =
    ap (λ k. decimal (n * 10000 / 10 ^ 4) ++ behind_text (take k (four_digits (n * 10000)))) (none_needed n) ∙ ap (λ k. decimal k ++ []) (whole_part n) ∙ nothing (decimal n)
  where
    nothing : (t : List ℕ) → t ++ [] ≡ t
    nothing [] = refl
    nothing (c ∷ cs) = ap (λ ds. c ∷ ds) (nothing cs)

pub whole_read : (n : ℕ) → n ≤ 36600 → number_in (decimal n) ≡ Some (pos (n * 10000))
whole_read n h = sym (ap number_in (whole_text n)) ∙ number_read (n * 10000) (let e : n * 10000 ≤ 10 ^ 17 = omega (arith, h) in e)

pub whole_days : (n : ℕ) → n ≤ 36600 → says.days (Some (pos (n * 10000))) ≡ n
whole_days n h = grind (arith, whole_rest n, whole_part n, h)

-- ---- literals

module _ (ns : Names) where
  leaf : (v : Value) {ts rest : List Lexeme} → Spells unbounded ns FACTOR ts (says.literal unbounded v) rest → Says ns FACTOR ts (V.Const v) rest 0
  leaf v d = record { reading = says.literal unbounded v; spelled = d; tree_is = refl; nested = omega arith }

  says_literal : (v : Value) → is_literal v ≡ true → CanBeWritten kind.Number v → (s : Bool) (rest : List Lexeme) → Says ns FACTOR (all_told (literal s v) ++ rest) (V.Const v) rest 0
  says_literal value.Unknown i c s rest = absurd (cc i)
  says_literal value.Uncertain i c s rest = leaf value.Uncertain (g.Spells.uncertain refl)
  says_literal (value.Bool true) i c s rest = leaf (value.Bool true) (g.Spells.yes refl)
  says_literal (value.Bool false) i c s rest = leaf (value.Bool false) (g.Spells.no refl)
  says_literal (value.Num (pos n)) i c s rest = leaf (value.Num (pos n)) (g.Spells.number refl (pos n) (number_read n c.0))
  says_literal (value.Num (negsuc n)) i c s rest = leaf (value.Num (negsuc n)) (g.Spells.negative refl refl (negsuc n) (negative_read n c.0))
  says_literal (value.Words t) i c s rest = record { reading = says.literal unbounded (value.Words (unquoted (quoted t))); spelled = g.Spells.text refl; tree_is = ap (λ u. Some (V.Const (value.Words u))) (reads_quoted_holds t); nested = omega arith }
  says_literal (value.Day d) i c s rest = leaf (value.Day d) (g.Spells.date refl d (day_read d c))

  pub literal_spelled : (v : Value) → is_literal v ≡ true → CanBeWritten kind.Number v → IsSpelled ns (alike (λ s. literal s v)) (V.Const v) 0
  literal_spelled v i c = alike_spelled ns (λ s. literal s v) (V.Const v) 0 (λ s rest p. says_literal v i c s rest)
