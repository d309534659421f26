-- What is said of a comparison is so in every case that fits and keeps the bounds.
use Rattle.std.proofs.Common.{◌≡◌, ℕ, ℤ, Bool, true, false, cond, not, List, [], ◌∷◌, Option, None, Some, refl, sym, ap, ◌∙◌, subst, true≢false, arith}
use Rattle.std.specs.Prelude.{int_le, nat_le, is_some, unwrap_or, ◌&&◌, ◌%◌, if◌then◌else◌, unsigned_abs}
use Rattle.std.specs.List.{list_all}
use Rattle.std.specs.FinMap.{get}
use Rattle.std.specs.Option.{option_and_then, option_map_or}
use Rattle.std.proofs.lemmas.Bool.{and_parts, eq-eqb}
use Rattle.std.proofs.lemmas.Option.{same_Some}
use Rattle.opa_value.specs.declared.value.Value.{Value}
use Rattle.opa_value.specs.declared.value.Value.TheVariants.{Unknown, Uncertain, Bool as Truth, Num, Words, Day}
use Rattle.opa_value.specs.Arithmetic.{rounded}
use Rattle.opa_value.specs.Fit.{fit_of}
use Rattle.opa_value.specs.Truth.{strict}
use Rattle.opa_value.proofs.Rounding.{rounded_cents}
use Rattle.opa_line.specs.Lines.{value_from}
use Rattle.opa_window.specs.Days.{day_value}
use Rattle.opa_model.specs.declared.ids.AttrId.{AttrId}
use Rattle.opa_model.specs.declared.things.Attribute.{Attribute}
use Rattle.opa_model.specs.declared.things.Kind.{Kind}
use Rattle.opa_model.specs.declared.things.Kind.TheVariants as kind
use Rattle.opa_model.specs.Lookups.{attribute_at}
use Rattle.opa_cells.specs.declared.instance.InstanceId.{InstanceId}
use Rattle.opa_case.specs.Cases.{CaseView, Answer}
use Rattle.opa_case.specs.Shapes.{shape_of, attribute_or, no_attribute}
use Rattle.opa_case.specs.Steps.{is_bool, is_number, is_words, is_date, has_kind, has_decimals, in_bounds}
use Rattle.opa_tree.specs.declared.expr.Expr.{Expr}
use Rattle.opa_tree.specs.declared.expr.Expr.TheVariants as V
use Rattle.opa_tree.specs.declared.rulebase.Rulebase.{Rulebase}
use Rattle.opa_tree.specs.declared.rules.Rule.{Rule}
use Rattle.opa_tree.specs.Ranks.{rank_at}
use Rattle.opa_tree.specs.Rules.{rule_of}
use Rattle.opa_mean.specs.Given.{base_of, facts_of, line_value}
use Rattle.opa_mean.specs.Mean.{look_of, concluded, fitted, is_money, mean_by}
use Rattle.opa_mean.specs.Meaning.{value as value_of, at_place}
use Rattle.opa_mean.specs.Operations.{op_of}
use Rattle.opa_mean.specs.Places.{owner_of, place}
use Rattle.opa_mean.specs.Rulebases.{IsOf, value_at}
use Rattle.opa_mean.specs.Kinds.Laws.{values_of}
use Rattle.opa_mean.proofs.Values.{value-Const, value-Attr, value-Op}
use Rattle.opa_rules.specs.declared.reviewing.finding.Comparison.{Comparison}
use Rattle.opa_rules.specs.declared.reviewing.finding.Operand.{Operand}
use Rattle.opa_rules.specs.declared.reviewing.finding.Operand.TheVariants as operand
use Rattle.opa_rules.specs.declared.reviewing.finding.Verdict.{Verdict}
use Rattle.opa_rules.specs.declared.reviewing.finding.Verdict.TheVariants as verdict
use Rattle.opa_rules.specs.declared.reviewing.judging.Bounds.{Bounds}
use Rattle.opa_rules.specs.Reviewing.Compared.{declared_bounds, bounds_of, opposite, never_between, decimals_by, decimals_of, cant_be, never_equal, verdict_of}
use Rattle.opa_rules.specs.Reviewing.NoCase.{KeepsBounds, side_tree, tree_of, IsJudged}
use Rattle.opa_rules.proofs.reviewing.Between.{IsBetween, never_true_is_so, never_false_is_so}

-- ---- values in bounds, and values with so many decimals

-- unknown, uncertain, or a number in the bounds
abbrev IsIn : Bounds → Value → Type 0
IsIn b Unknown = Unit {0}
IsIn b Uncertain = Unit {0}
IsIn b (Truth t) = ⊥
IsIn b (Num n) = IsBetween b n
IsIn b (Words t) = ⊥
IsIn b (Day d) = ⊥

-- if it is a number it has at most so many decimals
abbrev has_few : ℕ → Value → Bool
has_few k Unknown = true
has_few k Uncertain = true
has_few k (Truth t) = true
has_few k (Num n) = has_decimals k n
has_few k (Words t) = true
has_few k (Day d) = true

no_bool : (k : Kind) → is_number k ≡ true → ¬ (is_bool k ≡ true)
no_bool kind.Bool h e = cc h
no_bool kind.Number h e = cc e
no_bool kind.Currency h e = cc e
no_bool kind.Words h e = cc h
no_bool kind.Date h e = cc h

no_words : (k : Kind) → is_number k ≡ true → ¬ (is_words k ≡ true)
no_words kind.Bool h e = cc h
no_words kind.Number h e = cc e
no_words kind.Currency h e = cc e
no_words kind.Words h e = cc h
no_words kind.Date h e = cc h

no_date : (k : Kind) → is_number k ≡ true → ¬ (is_date k ≡ true)
no_date kind.Bool h e = cc h
no_date kind.Number h e = cc e
no_date kind.Currency h e = cc e
no_date kind.Words h e = cc h
no_date kind.Date h e = cc h

bounded : (x : Attribute) (v : Value) → is_number x.kind ≡ true → has_kind x.kind v ≡ true → in_bounds x v ≡ true → IsIn (record { least = x.least; most = x.most }) v
bounded x Unknown number has within = tt
bounded x Uncertain number has within = tt
bounded x (Truth t) number has within = no_bool x.kind number has
bounded x (Num n) number has within = let outer = and_parts (int_le x.least n && int_le n x.most) (has_decimals x.decimals n) within in and_parts (int_le x.least n) (int_le n x.most) outer.0
bounded x (Words t) number has within = no_words x.kind number has
bounded x (Day d) number has within = no_date x.kind number (and_parts (is_date x.kind) _ has).0

few_of_answer : (x : Attribute) (v : Value) → in_bounds x v ≡ true → has_few x.decimals v ≡ true
few_of_answer x Unknown within = refl
few_of_answer x Uncertain within = refl
few_of_answer x (Truth t) within = refl
few_of_answer x (Num n) within = (and_parts (int_le x.least n && int_le n x.most) (has_decimals x.decimals n) within).1
few_of_answer x (Words t) within = refl
few_of_answer x (Day d) within = refl

few_of_money : (v : Value) → has_few 2 (fit_of true v) ≡ true
few_of_money Unknown = refl
few_of_money Uncertain = refl
few_of_money (Truth t) = refl
few_of_money (Num n) = eq-eqb (unsigned_abs (rounded 2 n) % 100) 0 (rounded_cents n)
few_of_money (Words t) = refl
few_of_money (Day d) = refl

-- ---- what holds of each value of a line holds of its value at a day

module _ (q : Value → Bool) where
  from_passes : (v : Value) (l : Answer) (d : ℕ) → q v ≡ true → list_all (λ p. q p.1) l ≡ true → q (value_from v l d) ≡ true
  from_passes v [] d h hs = h
  from_passes v (p ∷ l) d h hs = let both = and_parts (q p.1) (list_all (λ p. q p.1) l) hs in go (nat_le p.0 d) (from_passes p.1 l d both.0 both.1)
    where
      go : (b : Bool) → q (value_from p.1 l d) ≡ true → q (cond b (value_from p.1 l d) v) ≡ true
      go true k = k
      go false k = h

  day_passes : q Unknown ≡ true → (l : Answer) (d : ℕ) → list_all (λ p. q p.1) l ≡ true → q (day_value l d) ≡ true
  day_passes unknown [] d hs = unknown
  day_passes unknown (p ∷ l) d hs = let both = and_parts (q p.1) (list_all (λ p. q p.1) l) hs in from_passes p.1 l d both.0 both.1

  line_passes : q Unknown ≡ true → (o : Option Answer) (d : ℕ) → ((l : Answer) → o ≡ Some l → list_all (λ p. q p.1) l ≡ true) → q (line_value o d) ≡ true
  line_passes unknown None d h = unknown
  line_passes unknown (Some l) d h = day_passes unknown l d (h l refl)

-- ---- an operation on two sides

-- a truth value of a strict operation is that of two numbers
abbrev OfNumbers : Bounds → Bounds → (List Value → Value) → Bool → Type 0
OfNumbers a b f t = (m n : ℤ) × IsBetween a m × IsBetween b n × (f (Num m ∷ Num n ∷ []) ≡ Truth t)

of_numbers : (a b : Bounds) (f : List Value → Value) (t : Bool) (v w : Value) → IsIn a v → IsIn b w → strict f (v ∷ w ∷ []) ≡ Truth t → OfNumbers a b f t
of_numbers a b f t Unknown w l r h = absurd (cc h)
of_numbers a b f t Uncertain Unknown l r h = absurd (cc h)
of_numbers a b f t Uncertain Uncertain l r h = absurd (cc h)
of_numbers a b f t Uncertain (Num n) l r h = absurd (cc h)
of_numbers a b f t (Num m) Unknown l r h = absurd (cc h)
of_numbers a b f t (Num m) Uncertain l r h = absurd (cc h)
of_numbers a b f t (Num m) (Num n) l r h = (m, n, l, r, h)
of_numbers a b f t Uncertain (Truth u) l r h = absurd r
of_numbers a b f t Uncertain (Words u) l r h = absurd r
of_numbers a b f t Uncertain (Day u) l r h = absurd r
of_numbers a b f t (Num m) (Truth u) l r h = absurd r
of_numbers a b f t (Num m) (Words u) l r h = absurd r
of_numbers a b f t (Num m) (Day u) l r h = absurd r
of_numbers a b f t (Truth u) w l r h = absurd l
of_numbers a b f t (Words u) w l r h = absurd l
of_numbers a b f t (Day u) w l r h = absurd l

few_at : (k : ℕ) (o : Option InstanceId) (f : InstanceId → Value) → ((i : InstanceId) → has_few k (f i) ≡ true) → has_few k (at_place o f) ≡ true
few_at k None f h = refl
few_at k (Some i) f h = h i

in_at : (b : Bounds) (o : Option InstanceId) (f : InstanceId → Value) → ((i : InstanceId) → IsIn b (f i)) → IsIn b (at_place o f)
in_at b None f h = tt
in_at b (Some i) f h = h i

-- ---- over a case

module _ (base : Rulebase) (c : CaseView) (is : IsOf base c) (keeps : KeepsBounds base c) where
  abbrev here : Expr → List InstanceId → ℕ → Value
  here e enclosing d = value_of (shape_of base.model) (values_of base c) e enclosing d

  -- the value at a point, by whether there is a rule
  abbrev by_rule : AttrId → InstanceId → ℕ → Option Rule → Value
  by_rule a i d o = concluded o ((facts_of c).answer a i d) (λ e. fitted (shape_of base.model) a (value_of (shape_of base.model) (look_of (facts_of c) (mean_by (base_of base) (facts_of c) (rank_at base.ranks a))) e (i ∷ []) d))

  value_is : (a : AttrId) (i : InstanceId) (d : ℕ) → value_at base c a i d ≡ by_rule a i d (rule_of base.rules a)
  unfolding mean_by
  value_is a i d = refl

  module _ (a : AttrId) (x : Attribute) (own : attribute_at base.model a ≡ Some x) where
    is_own : attribute_or base.model a ≡ x
    is_own = ap (λ (o : Option Attribute). unwrap_or o no_attribute) own

    kinds_pass : (i : InstanceId) (d : ℕ) → has_kind x.kind (line_value (get c.answers (a.0, i)) d) ≡ true
    kinds_pass i d = line_passes (has_kind x.kind) refl (get c.answers (a.0, i)) d (λ l e. subst (λ (y : Attribute). list_all (λ p. has_kind y.kind p.1) l ≡ true) is_own (is.fits.answers a i l e).kind)

    bounds_pass : (i : InstanceId) (d : ℕ) → in_bounds x (line_value (get c.answers (a.0, i)) d) ≡ true
    bounds_pass i d = line_passes (in_bounds x) refl (get c.answers (a.0, i)) d (λ l e. subst (λ (y : Attribute). list_all (λ p. in_bounds y p.1) l ≡ true) is_own (keeps a i l e))

    answered : rule_of base.rules a ≡ None → (i : InstanceId) (d : ℕ) → value_at base c a i d ≡ line_value (get c.answers (a.0, i)) d
    answered none i d = value_is a i d ∙ ap (by_rule a i d) none

    in_declared : is_number x.kind ≡ true → rule_of base.rules a ≡ None → (i : InstanceId) (d : ℕ) → IsIn (record { least = x.least; most = x.most }) (value_at base c a i d)
    in_declared number none i d = subst (IsIn (record { least = x.least; most = x.most })) (sym (answered none i d)) (bounded x (line_value (get c.answers (a.0, i)) d) number (kinds_pass i d) (bounds_pass i d))

    few_answered : rule_of base.rules a ≡ None → (i : InstanceId) (d : ℕ) → has_few x.decimals (value_at base c a i d) ≡ true
    few_answered none i d = ap (has_few x.decimals) (answered none i d) ∙ few_of_answer x (line_value (get c.answers (a.0, i)) d) (bounds_pass i d)

    few_concluded : is_money x.kind ≡ true → (rule : Rule) → rule_of base.rules a ≡ Some rule → (i : InstanceId) (d : ℕ) → has_few 2 (value_at base c a i d) ≡ true
    few_concluded money rule some i d =
        let v = value_of (shape_of base.model) (look_of (facts_of c) (mean_by (base_of base) (facts_of c) (rank_at base.ranks a))) rule.expr (i ∷ []) d in
        ap (has_few 2) (value_is a i d ∙ ap (by_rule a i d) some ∙ ap (λ (y : Attribute). fit_of (is_money y.kind) v) is_own ∙ ap (λ b. fit_of b v) money) ∙ few_of_money v

  -- ---- bounds

  abbrev Within : AttrId → Bounds → Type 0
  Within a b = (i : InstanceId) (d : ℕ) → IsIn b (value_at base c a i d)

  declared_within : (a : AttrId) (x : Attribute) (b : Bounds) → attribute_at base.model a ≡ Some x → rule_of base.rules a ≡ None → declared_bounds x ≡ Some b → Within a b
  declared_within a x b own none h = go (is_number x.kind) refl h
    where
      go : (t : Bool) → is_number x.kind ≡ t → (if t then Some (record { least = x.least; most = x.most }) else None) ≡ Some b → Within a b
      go true e k = subst (Within a) (same_Some (record { least = x.least; most = x.most }) b k) (in_declared a x own e none)
      go false e k = absurd (cc k)

  attribute_within : (a : AttrId) (b : Bounds) → bounds_of base (operand.Attr a) ≡ Some b → Within a b
  attribute_within a b h = go (rule_of base.rules a) refl (attribute_at base.model a) refl h
    where
      go : (o : Option Rule) → rule_of base.rules a ≡ o → (y : Option Attribute) → attribute_at base.model a ≡ y → (if is_some o then None else option_and_then declared_bounds y) ≡ Some b → Within a b
      go (Some rule) e y own k = absurd (cc k)
      go None e None own k = absurd (cc k)
      go None e (Some x) own k = declared_within a x b own e k

  itself_between : (n : ℤ) → int_le n n ≡ true
  itself_between n = grind arith

  side_within : (o : Operand) (b : Bounds) → bounds_of base o ≡ Some b → (enclosing : List InstanceId) (d : ℕ) → IsIn b (here (side_tree o) enclosing d)
  side_within (operand.Number n) b h enclosing d =
      let mine : Bounds = record { least = n; most = n } in
      let own : IsIn mine (Num n) = (itself_between n, itself_between n) in
      subst (IsIn b) (sym (value-Const (shape_of base.model) (values_of base c) (Num n) enclosing d)) (subst (λ (x : Bounds). IsIn x (Num n)) (same_Some mine b h) own)
  side_within (operand.Attr a) b h enclosing d =
      subst (IsIn b) (sym (value-Attr (shape_of base.model) (values_of base c) a enclosing d))
      (in_at b (place (values_of base c).container enclosing (owner_of (shape_of base.model) a)) (λ i. value_at base c a i d) (λ i. attribute_within a b h i d))

  judged_within : (k : Comparison) (x y : Bounds) (t : Bool) → bounds_of base k.left ≡ Some x → bounds_of base k.right ≡ Some y → (enclosing : List InstanceId) (d : ℕ) → here (tree_of k) enclosing d ≡ Truth t → OfNumbers x y (op_of k.operation) t
  judged_within k x y t l r enclosing d h =
      of_numbers x y (op_of k.operation) t (here (side_tree k.left) enclosing d) (here (side_tree k.right) enclosing d) (side_within k.left x l enclosing d) (side_within k.right y r enclosing d)
      (sym (value-Op (shape_of base.model) (values_of base c) k.operation (side_tree k.left ∷ side_tree k.right ∷ []) enclosing d) ∙ h)

  -- ---- decimals

  abbrev Few : AttrId → ℕ → Type 0
  Few a k = (i : InstanceId) (d : ℕ) → has_few k (value_at base c a i d) ≡ true

  few_by : (a : AttrId) (x : Attribute) (k : ℕ) → attribute_at base.model a ≡ Some x → (o : Option Rule) → rule_of base.rules a ≡ o → decimals_by (is_some o) x ≡ Some k → Few a k
  few_by a x k own None none h = go (is_number x.kind) h
    where
      go : (t : Bool) → (if t then Some x.decimals else None) ≡ Some k → Few a k
      go true e = subst (Few a) (same_Some x.decimals k e) (few_answered a x own none)
      go false e = absurd (cc e)
  few_by a x k own (Some rule) some h = go (is_money x.kind) refl h
    where
      go : (t : Bool) → is_money x.kind ≡ t → (if t then Some 2 else None) ≡ Some k → Few a k
      go true m e = subst (Few a) (same_Some 2 k e) (few_concluded a x own m rule some)
      go false m e = absurd (cc e)

  few_of : (a : AttrId) (k : ℕ) → decimals_of base a ≡ Some k → Few a k
  few_of a k h = go (attribute_at base.model a) refl h
    where
      go : (y : Option Attribute) → attribute_at base.model a ≡ y → option_and_then (decimals_by (is_some (rule_of base.rules a))) y ≡ Some k → Few a k
      go None own e = absurd (cc e)
      go (Some x) own e = few_by a x k own (rule_of base.rules a) refl e

  never_is : (a : AttrId) (n : ℤ) → cant_be base a n ≡ true → (enclosing : List InstanceId) (d : ℕ) → ¬ (here (V.Attr a) enclosing d ≡ Num n)
  never_is a n h enclosing d e = go (decimals_of base a) refl h
    where
      go : (o : Option ℕ) → decimals_of base a ≡ o → option_map_or (λ k. not (has_decimals k n)) o false ≡ true → ⊥
      go None own k = cc k
      go (Some k) own many =
          let few = few_at k (place (values_of base c).container enclosing (owner_of (shape_of base.model) a)) (λ i. value_at base c a i d) (λ i. few_of a k own i d) in
          let has : has_decimals k n ≡ true = sym (ap (has_few k) (sym (value-Attr (shape_of base.model) (values_of base c) a enclosing d) ∙ e)) ∙ few in
          true≢false (sym has ∙ not_so (has_decimals k n) many)
        where
          not_so : (b : Bool) → not b ≡ true → b ≡ false
          not_so true j = sym j
          not_so false j = refl

  sides_differ : (l r : Operand) → never_equal base l r ≡ true → (enclosing : List InstanceId) (d : ℕ) → ¬ (here (side_tree l) enclosing d ≡ here (side_tree r) enclosing d)
  sides_differ (operand.Attr a) (operand.Number n) h enclosing d e = never_is a n h enclosing d (e ∙ value-Const (shape_of base.model) (values_of base c) (Num n) enclosing d)
  sides_differ (operand.Number n) (operand.Attr a) h enclosing d e = never_is a n h enclosing d (sym e ∙ value-Const (shape_of base.model) (values_of base c) (Num n) enclosing d)
  sides_differ (operand.Attr a) (operand.Attr b) h enclosing d e = cc h
  sides_differ (operand.Number n) (operand.Number m) h enclosing d e = cc h

-- ---- what is said

never_true_in : (base : Rulebase) (k : Comparison) (l r : Option Bounds) → bounds_of base k.left ≡ l → bounds_of base k.right ≡ r → never_between k.operation l r ≡ true → IsJudged base k verdict.NeverTrue
never_true_in base k (Some x) (Some y) l r h c is keeps enclosing d e =
    let two = judged_within base c is keeps k x y true l r enclosing d e in never_true_is_so x y two.0 two.1 two.2 two.3 k.operation h two.4
never_true_in base k None r l' r' h c is keeps enclosing d e = cc h
never_true_in base k (Some x) None l' r' h c is keeps enclosing d e = cc h

never_false_in : (base : Rulebase) (k : Comparison) (l r : Option Bounds) → bounds_of base k.left ≡ l → bounds_of base k.right ≡ r → never_between (opposite k.operation) l r ≡ true → IsJudged base k verdict.NeverFalse
never_false_in base k (Some x) (Some y) l r h c is keeps enclosing d e =
    let two = judged_within base c is keeps k x y false l r enclosing d e in never_false_is_so x y two.0 two.1 two.2 two.3 k.operation h two.4
never_false_in base k None r l' r' h c is keeps enclosing d e = cc h
never_false_in base k (Some x) None l' r' h c is keeps enclosing d e = cc h

pub judged_so : (base : Rulebase) (k : Comparison) (v : Verdict) → verdict_of base k ≡ Some v → IsJudged base k v
judged_so base k v h = first (never_between k.operation (bounds_of base k.left) (bounds_of base k.right)) refl h
  where
    third : (t : Bool) → never_equal base k.left k.right ≡ t → (if t then Some verdict.NeverEqual else None) ≡ Some v → IsJudged base k v
    third true e g = subst (IsJudged base k) (same_Some verdict.NeverEqual v g) (λ c is keeps enclosing d. sides_differ base c is keeps k.left k.right e enclosing d)
    third false e g = absurd (cc g)

    second : (t : Bool) → never_between (opposite k.operation) (bounds_of base k.left) (bounds_of base k.right) ≡ t
        → (if t then Some verdict.NeverFalse else (if never_equal base k.left k.right then Some verdict.NeverEqual else None)) ≡ Some v → IsJudged base k v
    second true e g = subst (IsJudged base k) (same_Some verdict.NeverFalse v g) (never_false_in base k (bounds_of base k.left) (bounds_of base k.right) refl refl e)
    second false e g = third (never_equal base k.left k.right) refl g

    first : (t : Bool) → never_between k.operation (bounds_of base k.left) (bounds_of base k.right) ≡ t
        → (if t then Some verdict.NeverTrue else (if never_between (opposite k.operation) (bounds_of base k.left) (bounds_of base k.right) then Some verdict.NeverFalse else (if never_equal base k.left k.right then Some verdict.NeverEqual else None))) ≡ Some v → IsJudged base k v
    first true e g = subst (IsJudged base k) (same_Some verdict.NeverTrue v g) (never_true_in base k (bounds_of base k.left) (bounds_of base k.right) refl refl e)
    first false e g = second (never_between (opposite k.operation) (bounds_of base k.left) (bounds_of base k.right)) refl g
