-- The report of a point fixes its value, by recursion on rank.
use Rattle.std.proofs.Common.{◌≡◌, ◌⊎◌, inl, inr, ℕ, zero, suc, ◌<◌, ◌≤◌, List, [], ◌∷◌, Bool, true, false, cond, Option, None, Some, Contains, refl, sym, ◌∙◌, ap, subst, arith}
use Rattle.std.specs.Prelude.{nat_lt, map}
use Rattle.std.specs.List.{AllByRecursion}
use Rattle.std.proofs.lemmas.Bool.{ltb-true, lt-ltb, cases_lt}
use Rattle.opa_io.proofs.Lists.{each_weaker}
use Rattle.opa_value.specs.declared.value.Value.{Value}
use Rattle.opa_model.specs.declared.ids.AttrId.{AttrId}
use Rattle.opa_model.specs.declared.ids.RelId.{RelId}
use Rattle.opa_cells.specs.declared.instance.InstanceId.{InstanceId}
use Rattle.opa_cells.specs.Instances.{global, named}
use Rattle.opa_tree.specs.declared.rules.Rule.{Rule}
use Rattle.opa_tree.specs.Mentions.{mentioned}
use Rattle.opa_tree.specs.Rules.{rule_of}
use Rattle.opa_tree.proofs.Members.{contains_head, contains_tail}
use Rattle.opa_mean.specs.Completion.{AreFacts}
use Rattle.opa_mean.specs.Bases.{RanksFall}
use Rattle.opa_mean.specs.Looks.{Look}
use Rattle.opa_mean.specs.Mean.{Base, Facts, IsLive, look_of, concluded, fitted, mean}
use Rattle.opa_mean.specs.Meaning.{Meaning, value}
use Rattle.opa_mean.specs.Places.{place, chain}
use Rattle.opa_mean.specs.Reports.{rule_uses, InCone, itself, used_by, members_of, own_of, InReport, point, list, member, Agrees, ReportsFix}
use Rattle.opa_mean.specs.Uses.{Use, Point, Listed, uses}
use Rattle.opa_mean.proofs.Agreeing.{value_same}
use Rattle.opa_mean.proofs.Chains.{chain_live, place_live, places_same, chain_agree}
use Rattle.opa_mean.proofs.Completing.{above_live}
use Rattle.opa_mean.proofs.Determining.{determined, mentioned_in}
use Rattle.opa_mean.proofs.Everywhere.{all_of_each, each_of_all, in_map}
use Rattle.opa_mean.proofs.Fixing.{value_fixed, Agrees as Alike}

module _ (b : Base) (c c' : Facts) (falls : RanksFall b) (are : AreFacts b.shape c) (are' : AreFacts b.shape c') (p : Use) (agrees : Agrees b (InReport b c p) c') where
  -- the chain of an instance that the report has is the same
  one_up : (u : Use) (i : InstanceId) → InCone b c p u → Contains (own_of b c u) i → IsLive c i → (j : InstanceId) → Contains (chain c.container i) j → c'.container j ≡ c.container j
  one_up u i cone own live j there = go (c.container j) refl
    where
      go : (o : Option InstanceId) → c.container j ≡ o → c'.container j ≡ c.container j
      go (Some k) e = agrees.members j k (member u i j k cone own there e) ∙ sym e
      go None e = by_entity (cases_lt 0 j.entity.0)
        where
          lives : IsLive c j
          lives = each_of_all (IsLive c) (chain c.container i) (chain_live c.container (IsLive c) (above_live b.shape c are) i live) j there

          by_entity : (0 < j.entity.0) ⊎ (j.entity.0 ≤ 0) → c'.container j ≡ c.container j
          by_entity (inl lt) = absurd (cc (e, (are.contained j lives lt).is))
          by_entity (inr le) = let g : j ≡ global = are.only_global j lives (omega (arith, le)) in ap c'.container g ∙ are'.uncontained ∙ sym e

  abbrev Within : InstanceId → Type 0
  Within i = IsLive c i × (chain c'.container i ≡ chain c.container i)

  within : (u : Use) (i : InstanceId) → InCone b c p u → Contains (own_of b c u) i → IsLive c i → Within i
  within u i cone own live = (live, chain_agree c.container c'.container i (all_of_each (λ j. c'.container j ≡ c.container j) (chain c.container i) (one_up u i cone own live)))

  same : (enclosing : List InstanceId) → AllByRecursion Within enclosing → (e : ℕ) → place c'.container enclosing e ≡ place c.container enclosing e
  same enclosing w e = places_same c.container c'.container enclosing (each_weaker Within (λ i. chain c'.container i ≡ chain c.container i) (λ i h. h.1) enclosing w) e

  live : (enclosing : List InstanceId) → AllByRecursion Within enclosing → (e : ℕ) (i : InstanceId) → place c.container enclosing e ≡ Some i → IsLive c i
  live enclosing w = place_live c.container (IsLive c) (above_live b.shape c are) enclosing (each_weaker Within (IsLive c) (λ i h. h.0) enclosing w)

  -- the instances of a list are those that the report has
  named_within : (r : RelId) (i : InstanceId) → InCone b c p (Listed r i) → (names : List (List ℕ)) → c.members r i ≡ Some names → AllByRecursion (λ n. Within (named (b.shape.target r) n)) names
  named_within r i cone names e =
      all_of_each (λ n. Within (named (b.shape.target r) n)) names (λ n there. within (Listed r i) (named (b.shape.target r) n) cone
      (subst (λ (o : Option (List (List ℕ))). Contains (i ∷ members_of (b.shape.target r) o) (named (b.shape.target r) n)) (sym e)
      (contains_tail i (named (b.shape.target r) n) (map (named (b.shape.target r)) names) (in_map (named (b.shape.target r)) names n there)))
      (each_of_all (λ n. IsLive c (named (b.shape.target r) n)) names (are.listed r i names e) n there))

  -- the other case's values below a rank, and this one's from there on
  abbrev between : ℕ → AttrId → InstanceId → ℕ → Value
  between n a i d = cond (nat_lt (b.rank a) n) (mean b c' a i d) (mean b c a i d)

  abbrev mixed : ℕ → Look
  mixed n = record { value = between n; members = c'.members; container = c'.container }

  fixed : (n : ℕ) (a : AttrId) (i : InstanceId) (d : ℕ) → b.rank a < n → IsLive c i → InCone b c p (Point a i d) → mean b c a i d ≡ mean b c' a i d
  fixed zero a i d lt lives cone = absurd (omega arith)
  fixed (suc n) a i d lt lives cone = determined b c falls a i d ∙ go (rule_of b.rules a) refl (fixed n) ∙ sym (determined b c' falls a i d)
    where
      go : (o : Option Rule) → rule_of b.rules a ≡ o → ((m : AttrId) (j : InstanceId) (e : ℕ) → b.rank m < n → IsLive c j → InCone b c p (Point m j e) → mean b c m j e ≡ mean b c' m j e)
          → concluded o (c.answer a i d) (λ e. fitted b.shape a (value b.shape (look_of c (mean b c)) e (i ∷ []) d)) ≡ concluded o (c'.answer a i d) (λ e. fitted b.shape a (value b.shape (look_of c' (mean b c')) e (i ∷ []) d))
      go None is rec =
          let answered : mean b c a i d ≡ c.answer a i d = determined b c falls a i d ∙ ap (λ o. concluded o (c.answer a i d) (λ e. fitted b.shape a (value b.shape (look_of c (mean b c)) e (i ∷ []) d))) is in
          sym (agrees.points a i d (mean b c a i d) (point a i d cone) is ∙ answered)
      go (Some rule) is rec = ap (fitted b.shape a)
          (value_fixed b.shape (look_of c (mean b c)) (mixed (b.rank a)) Within (IsLive c) same live rule.expr (i ∷ []) (within (Point a i d) i cone (contains_head i []) lives, tt) d (all_of_each _ _ in_cone)
          ∙ ap (λ (m : Meaning). m (i ∷ []) d) lower)
        where
          lower : value b.shape (mixed (b.rank a)) rule.expr ≡ value b.shape (look_of c' (mean b c')) rule.expr
          lower = value_same b.shape (mixed (b.rank a)) (look_of c' (mean b c')) refl refl rule.expr
              (all_of_each (λ m. between (b.rank a) m ≡ mean b c' m) (mentioned rule.expr) (λ m there. below m (falls a m (mentioned_in b.rules a rule is m there))))
            where
              below : (m : AttrId) → b.rank m < b.rank a → between (b.rank a) m ≡ mean b c' m
              below m lt = ap {B = InstanceId → ℕ → Value} (λ (t : Bool) (j : InstanceId) (k : ℕ). cond t (mean b c' m j k) (mean b c m j k)) (lt-ltb _ _ lt)

          used : (u : Use) → Contains (uses b.shape (look_of c (mean b c)) rule.expr (i ∷ []) d) u → InCone b c p u
          used u h = used_by (Point a i d) u cone (subst (λ o. Contains (rule_uses o (λ e. uses b.shape (look_of c (mean b c)) e (i ∷ []) d)) u) (sym is) h)

          in_cone : (u : Use) → Contains (uses b.shape (look_of c (mean b c)) rule.expr (i ∷ []) d) u → Alike b.shape (look_of c (mean b c)) (mixed (b.rank a)) Within (IsLive c) same live u
          in_cone (Listed r j) h = λ _. (sym (agrees.lists_are r j (c.members r j) (list r j (used (Listed r j) h))), named_within r j (used (Listed r j) h))
          in_cone (Point m j k) h = λ lives'. by_rank lives' (nat_lt (b.rank m) (b.rank a)) refl
            where
              by_rank : IsLive c j → (t : Bool) → nat_lt (b.rank m) (b.rank a) ≡ t → mean b c m j k ≡ cond t (mean b c' m j k) (mean b c m j k)
              by_rank lives' true below = let less : b.rank m < b.rank a = ltb-true _ _ below in rec m j k (omega arith) lives' (used (Point m j k) h)
              by_rank lives' false below = refl

  pub report_fixes : (a : AttrId) (i : InstanceId) (d : ℕ) → IsLive c i → InCone b c p (Point a i d) → mean b c a i d ≡ mean b c' a i d
  report_fixes a i d lives cone = fixed (suc (b.rank a)) a i d (omega arith) lives cone

pub reports_fix : (b : Base) (c : Facts) → RanksFall b → AreFacts b.shape c → ReportsFix b c
reports_fix b c falls are a i d live c' are' live' agrees = sym (report_fixes b c c' falls are are' (Point a i d) agrees a i d live itself)
