-- Rules have ranks where each attribute is taken away.
use Rattle.std.proofs.Common.{◌≡◌, ◌∙◌, ◌+◌, ◌<◌, ◌≤◌, ◌⊎◌, inl, inr, ℕ, zero, suc, arith, max, Bool, true, false, ◌||◌, List, [], ◌∷◌, length, map, refl, sym, ap, ap₂, subst, Contains}
use Rattle.std.specs.Prelude.{Option, None, Some, slice_index_or, nat_lt}
use Rattle.std.specs.List.{list_any}
use Rattle.std.proofs.lemmas.Bool.{false≢true}
use Rattle.opa_model.specs.declared.ids.AttrId.{AttrId}
use Rattle.opa_tree.specs.declared.rules.Rule.{Rule}
use Rattle.opa_tree.specs.Laws.{AreDeclared}
use Rattle.opa_tree.specs.Mentions.{mentions}
use Rattle.opa_tree.specs.Ranks.{mentions_of, rank_at, rank_by, AreRanks}
use Rattle.opa_tree.specs.Rules.{rule_of}
use Rattle.opa_tree.specs.Trees.{highest}
use Rattle.opa_tree.proofs.Members.{none_in, contains_head, contains_tail, map_agrees}
use Rattle.opa_tree.proofs.RankLaws.{rule_declared}
use Rattle.opa_rulebase.specs.Checking.Circles.{stays, IsTaken}
use Rattle.opa_rulebase.specs.Checking.Laws.{RanksExist}
use Rattle.opa_rulebase.proofs.checking.FoundLaws.{gone, any_true}

-- the rank that so many rounds give
pub rank_of : (AttrId → ℕ) → Option Rule → ℕ
rank_of f None = 0
rank_of f (Some r) = 1 + highest (map f (mentions r.expr))

unfoldable pub upto : List Rule → ℕ → AttrId → ℕ
upto rules zero a = 0
upto rules (suc n) a = rank_of (upto rules n) (rule_of rules a)

none_any : (f : AttrId → Bool) (xs : List AttrId) (b : AttrId) → list_any f xs ≡ false → Contains xs b → f b ≡ false
none_any f xs b none there = here (f b) refl
  where
    here : (t : Bool) → f b ≡ t → f b ≡ false
    here true e = absurd (false≢true (sym none ∙ any_true f xs b there e))
    here false e = e

same_rank : (f g : AttrId → ℕ) (o : Option Rule) → ((b : AttrId) → Contains (mentions_of o) b → f b ≡ g b) → rank_of f o ≡ rank_of g o
unfolding rank_of
same_rank f g None h = refl
same_rank f g (Some r) h = ap (λ ns. 1 + highest ns) (map_agrees f g (mentions r.expr) h)

-- more rounds than are needed give the same rank
steady : (rules : List Rule) (n m : ℕ) (a : AttrId) → stays rules n a ≡ false → n ≤ m → upto rules m a ≡ upto rules n a
unfolding stays upto
steady rules zero m a is le = absurd (false≢true (sym is))
steady rules (suc n) zero a is le = absurd (omega (arith, le))
steady rules (suc n) (suc m) a is le =
    same_rank (upto rules m) (upto rules n) (rule_of rules a) (λ b there. steady rules n m b (none_any (stays rules n) (mentions_of (rule_of rules a)) b is there) (omega (arith, le)))

-- so many rounds take the first attributes away
bound : (rules : List Rule) → ((a : AttrId) → IsTaken rules a) → (m : ℕ) → (n : ℕ) × ((a : AttrId) → a.0 < m → stays rules n a ≡ false)
bound rules all zero = (0, λ a lt. absurd (omega (arith, lt)))
bound rules all (suc m) = join (bound rules all m) (all (record { 0 = m }))
  where
    join : (n : ℕ) × ((a : AttrId) → a.0 < m → stays rules n a ≡ false) → IsTaken rules (record { 0 = m }) → (n : ℕ) × ((a : AttrId) → a.0 < suc m → stays rules n a ≡ false)
    join (n, earlier) (k, own) = (max n k, λ a lt. here a lt (nat_lt a.0 m) refl)
      where
        here : (a : AttrId) → a.0 < suc m → (t : Bool) → nat_lt a.0 m ≡ t → stays rules (max n k) a ≡ false
        here a lt true e = let within : a.0 < m = grind (arith, e) in gone rules (max n k) n a (omega arith) (earlier a within)
        here a lt false e =
            let is : m ≡ a.0 = grind (arith, e, lt) in let same : (let b : AttrId = record { 0 = m } in b) ≡ a = ap (λ (i : ℕ). let b : AttrId = record { 0 = i } in b) is in
            gone rules (max n k) k a (omega arith) (subst (λ (b : AttrId). stays rules k b ≡ false) same own)

-- the values of a function at the numbers from s on
pub table : (ℕ → ℕ) → ℕ → ℕ → List ℕ
table f s zero = []
table f s (suc n) = f s ∷ table f (s + 1) n

table_length : (f : ℕ → ℕ) (s n : ℕ) → length (table f s n) ≡ n
unfolding table
table_length f s zero = refl
table_length f s (suc n) = ap suc (table_length f (s + 1) n)

table_at : (f : ℕ → ℕ) (s n i : ℕ) → i < n → slice_index_or (table f s n) i 0 ≡ f (s + i)
unfolding table
table_at f s zero i lt = absurd (omega (arith, lt))
table_at f s (suc n) zero lt = ap f (let e : s ≡ s + 0 = omega arith in e)
table_at f s (suc n) (suc i) lt = table_at f (s + 1) n i (omega (arith, lt)) ∙ ap f (let e : s + 1 + i ≡ s + suc i = omega arith in e)

table_past : (f : ℕ → ℕ) (s n i : ℕ) → n ≤ i → slice_index_or (table f s n) i 0 ≡ 0
unfolding table
table_past f s zero i le = refl
table_past f s (suc n) zero le = absurd (omega (arith, le))
table_past f s (suc n) (suc i) le = table_past f (s + 1) n i (omega (arith, le))

module _ (count : ℕ) (rules : List Rule) (declared : AreDeclared count rules) (n : ℕ) (all : (a : AttrId) → a.0 < count → stays rules n a ≡ false) where
  abbrev values : List ℕ
  values = table (λ i. upto rules n (record { 0 = i })) 0 count

  -- an attribute that isn't declared has no rule
  undeclared : (k : ℕ) (a : AttrId) → count ≤ a.0 → upto rules k a ≡ 0
  unfolding upto rank_of
  undeclared zero a le = refl
  undeclared (suc k) a le = here (rule_of rules a) refl
    where
      here : (o : Option Rule) → rule_of rules a ≡ o → rank_of (upto rules k) o ≡ 0
      here None of = refl
      here (Some r) of = let lt : a.0 < count = rule_declared count rules a r declared of in absurd (omega (arith, lt, le))

  rank_is : (a : AttrId) → rank_at values a ≡ upto rules n a
  rank_is a = here (nat_lt a.0 count) refl
    where
      here : (t : Bool) → nat_lt a.0 count ≡ t → rank_at values a ≡ upto rules n a
      here true e = let lt : a.0 < count = grind (arith, e) in table_at (λ i. upto rules n (record { 0 = i })) 0 count a.0 lt ∙ ap (λ (i : ℕ). upto rules n (record { 0 = i })) (let same : 0 + a.0 ≡ a.0 = omega arith in same)
      here false e = let le : count ≤ a.0 = grind (arith, e) in table_past (λ i. upto rules n (record { 0 = i })) 0 count a.0 le ∙ sym (undeclared n a le)

  rank_by_is : (o : Option Rule) → rank_of (upto rules n) o ≡ rank_by values o
  unfolding rank_of
  rank_by_is None = refl
  rank_by_is (Some r) = ap (λ ns. 1 + highest ns) (map_agrees (upto rules n) (rank_at values) (mentions r.expr) (λ b there. sym (rank_is b)))

  pub are : AreRanks count rules values
  unfolding upto
  are = record {
    for_each = table_length (λ i. upto rules n (record { 0 = i })) 0 count;
    by_rules = λ a lt. rank_is a ∙ sym (steady rules n (suc n) a (all a lt) (omega arith)) ∙ rank_by_is (rule_of rules a);
  }

pub ranks_exist_holds : RanksExist
ranks_exist_holds count rules declared all = let w = bound rules all count in (values count rules declared w.0 w.1, are count rules declared w.0 w.1)
