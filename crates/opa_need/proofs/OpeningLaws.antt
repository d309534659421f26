-- Steps that stand for needs, put together.
use Rattle.std.proofs.Common.{◌≡◌, ℕ, ◌+◌, ◌-◌, ◌<◌, ◌≤◌, ◌⊎◌, inl, inr, Bor, Option, None, Some, Bool, true, false, cond, List, [], ◌∷◌, ◌++◌, length, take, reverse, get_or, refl, sym, ◌∙◌, ap, subst, arith}
use Rattle.std.specs.Prelude.{flat_map, nat_lt, ◌&&◌}
use borrow.Author.Tests.{ltb-true}
use Rattle.opa_date.specs.declared.TheConstants.{DAYS}
use Rattle.opa_value.specs.declared.value.Value.TheVariants.{Day}
use Rattle.opa_window.specs.Days.{days}
use Rattle.opa_need.specs.Dates.{date_in}
use Rattle.opa_need.specs.declared.steps.Step.TheVariants as step
use Rattle.std.specs.List.{AllByRecursion}
use Rattle.std.proofs.lemmas.List.{append_assoc, append-nil, take_more}
use Rattle.opa_io.proofs.Lists.{reverse_push}
use Rattle.std.proofs.lemmas.Grind.{flat_map-append}
use Rattle.opa_case.specs.Cases.{CaseView, IsLive}
use Rattle.opa_tree.specs.declared.rulebase.Rulebase.{Rulebase}
use Rattle.opa_mean.specs.Uses.{Use, on_date_uses, in_window_uses}
use Rattle.opa_mean.proofs.Everywhere.{all_append}
use Rattle.opa_value.specs.declared.value.Value.{Value}
use Rattle.opa_value.specs.Truth.{is_true, is_unknown}
use Rattle.opa_cells.specs.declared.instance.InstanceId.{InstanceId}
use Rattle.opa_tree.specs.declared.expr.Expr.{Expr}
use Rattle.opa_tree.specs.declared.kinds.Quant.{Quant}
use Rattle.opa_tree.specs.declared.kinds.Quant.TheVariants as quant
use Rattle.opa_cells.specs.Instances.{named}
use Rattle.opa_need.specs.Steps.{part_needs, part_value, parts_needs, tree_needs, member_needs, members_needs, span_needs, step_needs, claim, AreListed, IsFirstMember, IsFirstPart, IsReady, PutsOn, StandFor, Adds}
use Rattle.opa_need.specs.Members.{AreOfOperands}
use Rattle.opa_need.specs.declared.members.OperandValues.{OperandValues}
use Rattle.opa_need.specs.declared.steps.Step.{Step}

-- one item more of those that are gone through
pub flat_more : {X Y : Type 0} (f : X → List Y) (xs : List X) (i : ℕ) (x : X) → i < length xs → x ≡ get_or xs i x → flat_map f (take (i + 1) xs) ≡ flat_map f (take i xs) ++ f x
flat_more f xs i x within is =
    ap (flat_map f) (take_more xs i x within) ∙ flat_map-append f (take i xs) (get_or xs i x ∷ []) ∙ ap (λ ys. flat_map f (take i xs) ++ ys) (append-nil (f (get_or xs i x)) ∙ ap f (sym is))

no_date : (u : ℕ → List Use) (v : Value) → None ≡ date_in v → on_date_uses u v ≡ []
no_date u (Day k) e = go (nat_lt k DAYS) e
  where
    go : (b : Bool) → None ≡ cond b (Some k) None → cond b (u k) [] ≡ []
    go true e = absurd (cc e)
    go false e = refl
no_date u _ e = refl

at_date : (u : ℕ → List Use) (v : Value) (m : ℕ) → Some m ≡ date_in v → on_date_uses u v ≡ u m
at_date u (Day k) m e = go (nat_lt k DAYS) e
  where
    go : (b : Bool) → Some m ≡ cond b (Some k) None → cond b (u k) [] ≡ u m
    go true e = let same : m ≡ k = cc e in sym (ap u same)
    go false e = absurd (cc e)
at_date u _ m e = absurd (cc e)

date_below : (v : Value) (m : ℕ) → Some m ≡ date_in v → m < DAYS
date_below (Day k) m e = go (nat_lt k DAYS) refl e
  where
    go : (b : Bool) → nat_lt k DAYS ≡ b → Some m ≡ cond b (Some k) None → m < DAYS
    go true f e = let same : m ≡ k = cc e in subst (λ j. j < DAYS) (sym same) (ltb-true k DAYS f)
    go false f e = absurd (cc e)
date_below _ m e = absurd (cc e)

no_window : (u : ℕ → List Use) (v w : Value) → (None ≡ date_in v) ⊎ (None ≡ date_in w) → in_window_uses u v w ≡ []
no_window u (Day k) (Day m) e = go (nat_lt k DAYS) (nat_lt m DAYS) e
  where
    go : (a b : Bool) → (None ≡ cond a (Some k) None) ⊎ (None ≡ cond b (Some m) None) → cond (a && b) (flat_map u (days k (m - k))) [] ≡ []
    go true true (inl e) = absurd (cc e)
    go true true (inr e) = absurd (cc e)
    go true false e = refl
    go false b e = refl
no_window u _ _ e = refl

a_window : (u : ℕ → List Use) (v w : Value) (m n : ℕ) → Some m ≡ date_in v → Some n ≡ date_in w → in_window_uses u v w ≡ flat_map u (days m (n - m))
a_window u (Day k) (Day l) m n e f = go (nat_lt k DAYS) (nat_lt l DAYS) e f
  where
    go : (a b : Bool) → Some m ≡ cond a (Some k) None → Some n ≡ cond b (Some l) None → cond (a && b) (flat_map u (days k (l - k))) [] ≡ flat_map u (days m (n - m))
    go true true e f = let one : m ≡ k = cc e in let two : n ≡ l = cc f in ap (λ x. flat_map u (days x (l - x))) (sym one) ∙ ap (λ x. flat_map u (days m (x - m))) (sym two)
    go true false e f = absurd (cc f)
    go false b e f = absurd (cc e)
a_window u (Day k) _ m n e f = absurd (cc f)
a_window u _ _ m n e f = absurd (cc e)

le_of_lt : {m n : ℕ} → m < n → m ≤ n
le_of_lt h = omega (arith, h)

module _ (r : Rulebase) (c : CaseView) where
  pub none_stand : (steps : List Step) → steps ≡ [] → StandFor r c [] steps
  none_stand steps e = subst (StandFor r c []) (sym e) (record { asking = refl; plain = tt; ready = tt })

  pub one_stands : (s : Step) (us : List Use) → step_needs r c s ≡ us → claim r c s ≡ [] → IsReady r c s → StandFor r c us (s ∷ [])
  one_stands s us e f g = record { asking = append-nil (step_needs r c s) ∙ e; plain = (f, tt); ready = (g, tt) }

  pub both_stand : (us vs : List Use) (xs ys : List Step) → StandFor r c us xs → StandFor r c vs ys → StandFor r c (us ++ vs) (xs ++ ys)
  both_stand us vs xs ys h k = record {
    asking = flat_map-append (step_needs r c) xs ys ∙ ap (λ ws. ws ++ flat_map (step_needs r c) ys) h.asking ∙ ap (λ ws. us ++ ws) k.asking;
    plain = all_append (λ s. claim r c s ≡ []) xs ys h.plain k.plain;
    ready = all_append (IsReady r c) xs ys h.ready k.ready;
  }

  -- one step more
  pub adds_one : (s : Step) (us : List Use) (old new : List Step) → new ≡ old ++ s ∷ [] → step_needs r c s ≡ us → claim r c s ≡ [] → IsReady r c s → Adds r c us old new
  adds_one s us old new e f g k vs h = subst (StandFor r c (vs ++ us)) (sym e) (both_stand vs us old (s ∷ []) h (one_stands s us f g k))

  pub adds_none : (old new : List Step) → new ≡ old → Adds r c [] old new
  adds_none old new e vs h = subst (StandFor r c (vs ++ [])) (sym e) (subst (λ ws. StandFor r c ws old) (sym (append-nil vs)) h)

  pub adds_both : (us vs : List Use) (old mid new : List Step) → Adds r c us old mid → Adds r c vs mid new → Adds r c (us ++ vs) old new
  adds_both us vs old mid new h k ws s = subst (λ xs. StandFor r c xs new) (append_assoc ws us vs) (k (ws ++ us) (h ws s))

  -- a part that is unknown needs what its tree does, and another nothing
  pub open_part : (x : Expr) (es : List InstanceId) (d : ℕ) (v : Value) (b : Bool) → b ≡ true → b ≡ is_unknown v → v ≡ part_value r c x es d → part_needs r c x es d ≡ tree_needs r c x es d
  open_part x es d v b e f g = ap (λ k. cond k (tree_needs r c x es d) []) (sym (ap is_unknown g) ∙ sym f ∙ e)

  pub closed_part : (x : Expr) (es : List InstanceId) (d : ℕ) (v : Value) (b : Bool) → b ≡ false → b ≡ is_unknown v → v ≡ part_value r c x es d → part_needs r c x es d ≡ []
  closed_part x es d v b e f g = ap (λ k. cond k (tree_needs r c x es d) []) (sym (ap is_unknown g) ∙ sym f ∙ e)

  pub adds_open : (x : Expr) (es : List InstanceId) (d : ℕ) (v : Value) (b : Bool) (old new : List Step) → b ≡ true → b ≡ is_unknown v → v ≡ part_value r c x es d → Adds r c (tree_needs r c x es d) old new → Adds r c (part_needs r c x es d) old new
  adds_open x es d v b old new e f g h = subst (λ us. Adds r c us old new) (sym (open_part x es d v b e f g)) h

  pub adds_closed : (x : Expr) (es : List InstanceId) (d : ℕ) (v : Value) (b : Bool) (old new : List Step) → b ≡ false → b ≡ is_unknown v → v ≡ part_value r c x es d → new ≡ old → Adds r c (part_needs r c x es d) old new
  adds_closed x es d v b old new e f g same = subst (λ us. Adds r c us old new) (sym (closed_part x es d v b e f g)) (adds_none old new same)

  -- a known part is passed over, and an unknown one is the first
  pub parts_pass : (all rest later : List Expr) (x : Expr) (es : List InstanceId) (d : ℕ) (v : Value) (b : Bool) → b ≡ false → b ≡ is_unknown v → v ≡ part_value r c x es d → rest ≡ x ∷ later
      → parts_needs r c all es d ≡ parts_needs r c rest es d → parts_needs r c all es d ≡ parts_needs r c later es d
  parts_pass all rest later x es d v b e f g at h = h ∙ ap (λ xs. parts_needs r c xs es d) at ∙ ap (λ us. us ++ parts_needs r c later es d) (closed_part x es d v b e f g)

  pub parts_stop : (all rest later : List Expr) (x : Expr) (es : List InstanceId) (d : ℕ) (v : Value) (b : Bool) → b ≡ true → b ≡ is_unknown v → v ≡ part_value r c x es d → rest ≡ x ∷ later
      → parts_needs r c all es d ≡ parts_needs r c rest es d → parts_needs r c all es d ≡ tree_needs r c x es d ++ parts_needs r c later es d
  parts_stop all rest later x es d v b e f g at h = h ∙ ap (λ xs. parts_needs r c xs es d) at ∙ ap (λ us. us ++ parts_needs r c later es d) (open_part x es d v b e f g)

  no_steps : (us : List Use) (steps : List Step) → length steps ≡ 0 → StandFor r c us steps → us ≡ []
  no_steps us [] e h = sym h.asking
  no_steps us (s ∷ steps) e h = absurd (cc e)

  -- a member without a step is passed over, and one with some is the first
  pub members_pass : (q : Quant) (t : ℕ) (all rest later : List (List ℕ)) (n : List ℕ) (xs : List Expr) (es : List InstanceId) (d : ℕ) (steps : List Step) → rest ≡ n ∷ later → length steps ≡ 0 → StandFor r c (member_needs r c q xs (named t n ∷ es) d) steps
      → (members_needs r c q t all xs es d ≡ members_needs r c q t rest xs es d) × AreListed r c t rest → (members_needs r c q t all xs es d ≡ members_needs r c q t later xs es d) × AreListed r c t later
  members_pass q t all rest later n xs es d steps at none stand h =
      (h.0 ∙ ap (λ names. members_needs r c q t names xs es d) at ∙ ap (λ us. us ++ members_needs r c q t later xs es d) (no_steps (member_needs r c q xs (named t n ∷ es) d) steps none stand), (subst (AreListed r c t) at h.1).1)

  pub members_stop : (q : Quant) (t : ℕ) (all rest : List (List ℕ)) (later : Bor (List (List ℕ))) (n : List ℕ) (xs : List Expr) (es : List InstanceId) (d : ℕ) (steps : List Step) → rest ≡ n ∷ later.now → StandFor r c (member_needs r c q xs (named t n ∷ es) d) steps
      → (members_needs r c q t all xs es d ≡ members_needs r c q t rest xs es d) × AreListed r c t rest → IsFirstMember r c q t all xs es d (Some (steps, later))
  members_stop q t all rest later n xs es d steps at stand h =
      (member_needs r c q xs (named t n ∷ es) d, stand, (subst (AreListed r c t) at h.1).1, h.0 ∙ ap (λ names. members_needs r c q t names xs es d) at)

  pub puts_none : (us : List Use) (old new : List Step) → us ≡ [] → new ≡ old → PutsOn r c us old new
  puts_none us old new e f = ([], subst (λ vs. StandFor r c vs []) (sym e) (none_stand [] refl), ap reverse f)

  pub puts_one : (s : Step) (us : List Use) (old new : List Step) → new ≡ old ++ s ∷ [] → step_needs r c s ≡ us → claim r c s ≡ [] → IsReady r c s → PutsOn r c us old new
  puts_one s us old new e f g k = (s ∷ [], one_stands s us f g k, ap reverse e ∙ reverse_push old s)

  -- what comes later is put before the other steps first
  pub puts_both : (us vs ws : List Use) (old mid new : List Step) → ws ≡ us ++ vs → PutsOn r c vs old mid → PutsOn r c us mid new → PutsOn r c ws old new
  puts_both us vs ws old mid new e h k = subst (λ xs. PutsOn r c xs old new) (sym e)
      (k.0 ++ h.0, both_stand us vs k.0 h.0 k.1 h.1, k.2 ∙ ap (λ xs. k.0 ++ xs) h.2 ∙ sym (append_assoc k.0 h.0 (reverse old)))

  pub no_part : (all : List Expr) (es : List InstanceId) (d : ℕ) (o : Option (Bor Expr × Bor (List Expr))) (steps : List Step) → o ≡ None → IsFirstPart r c all es d o → PutsOn r c (parts_needs r c all es d) steps steps
  no_part all es d o steps at h = puts_none (parts_needs r c all es d) steps steps (subst (IsFirstPart r c all es d) at h) refl

  pub some_part : (all : List Expr) (es : List InstanceId) (d : ℕ) (o : Option (Bor Expr × Bor (List Expr))) (x : Bor Expr) (later : Bor (List Expr)) (old mid new : List Step) → o ≡ Some (x, later) → IsFirstPart r c all es d o
      → PutsOn r c (parts_needs r c later.now es d) old mid → PutsOn r c (tree_needs r c x.now es d) mid new → PutsOn r c (parts_needs r c all es d) old new
  some_part all es d o x later old mid new at h k j = puts_both (tree_needs r c x.now es d) (parts_needs r c later.now es d) (parts_needs r c all es d) old mid new (subst (IsFirstPart r c all es d) at h) k j

  pub no_member : (q : Quant) (t : ℕ) (all : List (List ℕ)) (xs : List Expr) (es : List InstanceId) (d : ℕ) (o : Option (List Step × Bor (List (List ℕ)))) (steps : List Step) → o ≡ None → IsFirstMember r c q t all xs es d o
      → PutsOn r c (members_needs r c q t all xs es d) steps steps
  no_member q t all xs es d o steps at h = puts_none (members_needs r c q t all xs es d) steps steps (subst (IsFirstMember r c q t all xs es d) at h) refl

  pub some_member : (q : Quant) (t : ℕ) (all : List (List ℕ)) (xs : List Expr) (es : List InstanceId) (d : ℕ) (o : Option (List Step × Bor (List (List ℕ)))) (steps : List Step) (later : Bor (List (List ℕ))) (old mid new : List Step) → o ≡ Some (steps, later)
      → IsFirstMember r c q t all xs es d o → PutsOn r c (members_needs r c q t later.now xs es d) old mid → reverse new ≡ steps ++ reverse mid → PutsOn r c (members_needs r c q t all xs es d) old new
  some_member q t all xs es d o steps later old mid new at h k e =
      let first = subst (IsFirstMember r c q t all xs es d) at h in puts_both first.0 (members_needs r c q t later.now xs es d) (members_needs r c q t all xs es d) old mid new first.3 k (steps, first.1, e)

  -- the parts of a tree, and members, as a step
  pub parts_on : (x : Bor (List Expr)) (es es' : List InstanceId) (d : ℕ) (old new : List Step) → es' ≡ es → AllByRecursion (IsLive c) es → d < DAYS → new ≡ old ++ step.Parts x es' d ∷ [] → PutsOn r c (parts_needs r c x.now es d) old new
  parts_on x es es' d old new same live lt e =
      puts_one (step.Parts x es' d) (parts_needs r c x.now es d) old new e (ap (λ ks. parts_needs r c x.now ks d) same) refl (subst (λ ks. AllByRecursion (IsLive c) ks) (sym same) live, lt)

  pub tree_on : (x : Bor Expr) (es es' : List InstanceId) (d : ℕ) (old new : List Step) → es' ≡ es → AllByRecursion (IsLive c) es → d < DAYS → new ≡ old ++ step.Tree x es' d ∷ [] → PutsOn r c (tree_needs r c x.now es d) old new
  tree_on x es es' d old new same live lt e =
      puts_one (step.Tree x es' d) (tree_needs r c x.now es d) old new e (ap (λ ks. tree_needs r c x.now ks d) same) refl (subst (λ ks. AllByRecursion (IsLive c) ks) (sym same) live, lt)

  pub members_on : (q : Quant) (t : ℕ) (names : Bor (List (List ℕ))) (x : Bor (List Expr)) (values : OperandValues) (es es' : List InstanceId) (d : ℕ) (old new : List Step) → es' ≡ es → AllByRecursion (IsLive c) es → d < DAYS → AreListed r c t names.now → AreOfOperands r c x.now values → new ≡ old ++ step.Members q t names x values es' d ∷ []
      → PutsOn r c (members_needs r c q t names.now x.now es d) old new
  members_on q t names x values es es' d old new same live lt listed of e =
      puts_one (step.Members q t names x values es' d) (members_needs r c q t names.now x.now es d) old new e (ap (λ ks. members_needs r c q t names.now x.now ks d) same) refl (subst (λ ks. AllByRecursion (IsLive c) ks) (sym same) live, lt, listed, of)

  pub member_single : (q : Quant) (x : Expr) (es : List InstanceId) (d : ℕ) → part_needs r c x es d ≡ member_needs r c q (x ∷ []) es d
  member_single quant.SumIf x es d = refl
  member_single q x es d = refl

  pub member_one : (q : Quant) (xs : List Expr) (x : Expr) (es : List InstanceId) (d : ℕ) (old new : List Step) → xs ≡ x ∷ [] → Adds r c (part_needs r c x es d) old new → Adds r c (member_needs r c q xs es d) old new
  member_one q xs x es d old new e h = subst (λ us. Adds r c us old new) (member_single q x es d ∙ ap (λ ys. member_needs r c q ys es d) (sym e)) h

  pub member_two : (q : Quant) (xs : List Expr) (x y : Expr) (es : List InstanceId) (d : ℕ) (old new : List Step) → xs ≡ x ∷ y ∷ [] → q ≡ quant.SumIf → Adds r c (member_needs r c quant.SumIf (x ∷ y ∷ []) es d) old new → Adds r c (member_needs r c q xs es d) old new
  member_two q xs x y es d old new e f h = subst (λ us. Adds r c us old new) (ap (λ k. member_needs r c k (x ∷ y ∷ []) es d) (sym f) ∙ ap (λ ys. member_needs r c q ys es d) (sym e)) h

  pub tested : (number test : Expr) (es : List InstanceId) (d : ℕ) (v : Value) (b : Bool) (old mid new : List Step) → b ≡ true → b ≡ is_true v → v ≡ part_value r c test es d → Adds r c (part_needs r c test es d) old mid → Adds r c (part_needs r c number es d) mid new
      → Adds r c (member_needs r c quant.SumIf (number ∷ test ∷ []) es d) old new
  tested number test es d v b old mid new e f g h k =
      subst (λ t. Adds r c (part_needs r c test es d ++ cond t (part_needs r c number es d) []) old new) (sym e ∙ f ∙ ap is_true g) (adds_both (part_needs r c test es d) (part_needs r c number es d) old mid new h k)

  pub untested : (number test : Expr) (es : List InstanceId) (d : ℕ) (v : Value) (b : Bool) (old new : List Step) → b ≡ false → b ≡ is_true v → v ≡ part_value r c test es d → Adds r c (part_needs r c test es d) old new
      → Adds r c (member_needs r c quant.SumIf (number ∷ test ∷ []) es d) old new
  untested number test es d v b old new e f g h =
      subst (λ t. Adds r c (part_needs r c test es d ++ cond t (part_needs r c number es d) []) old new) (sym e ∙ f ∙ ap is_true g) (adds_both (part_needs r c test es d) [] old new new h (adds_none new new refl))

  pub on_no_date : (u : ℕ → List Use) (v : Value) (old new : List Step) → None ≡ date_in v → new ≡ old → Adds r c (on_date_uses u v) old new
  on_no_date u v old new e f = subst (λ us. Adds r c us old new) (sym (no_date u v e)) (adds_none old new f)

  pub on_a_date : (u : ℕ → List Use) (v : Value) (k : ℕ) (old new : List Step) → Some k ≡ date_in v → Adds r c (u k) old new → Adds r c (on_date_uses u v) old new
  on_a_date u v k old new e h = subst (λ us. Adds r c us old new) (sym (at_date u v k e)) h

  pub no_days : (u : ℕ → List Use) (v w : Value) (old new : List Step) → (None ≡ date_in v) ⊎ (None ≡ date_in w) → new ≡ old → Adds r c (in_window_uses u v w) old new
  no_days u v w old new e f = subst (λ us. Adds r c us old new) (sym (no_window u v w e)) (adds_none old new f)

  pub some_days : (x : Bor Expr) (es es' : List InstanceId) (v w : Value) (first last : ℕ) (old new : List Step) → Some first ≡ date_in v → Some last ≡ date_in w → es' ≡ es → AllByRecursion (IsLive c) es → new ≡ old ++ step.Days x es' first last ∷ []
      → Adds r c (in_window_uses (part_needs r c x.now es) v w) old new
  some_days x es es' v w first last old new e f same live g =
      adds_one (step.Days x es' first last) (in_window_uses (part_needs r c x.now es) v w) old new g
      (ap (λ ks. flat_map (part_needs r c x.now ks) (days first (last - first))) same ∙ sym (a_window (part_needs r c x.now es) v w first last e f))
      refl (subst (λ ks. AllByRecursion (IsLive c) ks) (sym same) live, le_of_lt (date_below w last f))

  pub span_two : (date x : Expr) (es : List InstanceId) (d : ℕ) (v : Value) (old mid new : List Step) → v ≡ part_value r c date es d → Adds r c (part_needs r c date es d) old mid → Adds r c (on_date_uses (part_needs r c x es) v) mid new
      → Adds r c (span_needs r c (date ∷ x ∷ []) es d) old new
  span_two date x es d v old mid new e h k =
      adds_both (part_needs r c date es d) (on_date_uses (part_needs r c x es) (part_value r c date es d)) old mid new h (subst (λ w. Adds r c (on_date_uses (part_needs r c x es) w) mid new) e k)

  pub span_three : (start end x : Expr) (es : List InstanceId) (d : ℕ) (v w : Value) (old mid late new : List Step) → v ≡ part_value r c start es d → w ≡ part_value r c end es d
      → Adds r c (part_needs r c start es d) old mid → Adds r c (part_needs r c end es d) mid late → Adds r c (in_window_uses (part_needs r c x es) v w) late new
      → Adds r c (span_needs r c (start ∷ end ∷ x ∷ []) es d) old new
  span_three start end x es d v w old mid late new e f h k j =
      adds_both (part_needs r c start es d) _ old mid new h (adds_both (part_needs r c end es d) _ mid late new k
      (subst (λ z. Adds r c (in_window_uses (part_needs r c x es) (part_value r c start es d) z) late new) f (subst (λ z. Adds r c (in_window_uses (part_needs r c x es) z w) late new) e j)))

  -- from nothing on
  pub from_nothing : (us : List Use) (old new : List Step) → old ≡ [] → Adds r c us old new → StandFor r c us new
  from_nothing us old new e h = h [] (none_stand old e)

  pub span_is : (es es' : List Expr) (enclosing : List InstanceId) (d : ℕ) (old new : List Step) → es' ≡ es → old ≡ [] → Adds r c (span_needs r c es enclosing d) old new → StandFor r c (span_needs r c es' enclosing d) new
  span_is es es' enclosing d old new e f h = from_nothing (span_needs r c es' enclosing d) old new f (subst (λ xs. Adds r c (span_needs r c xs enclosing d) old new) (sym e) h)

  many_none : (es : List Expr) (enclosing : List InstanceId) (d : ℕ) → 4 ≤ length es → span_needs r c es enclosing d ≡ []
  many_none [] enclosing d h = refl
  many_none (x ∷ []) enclosing d h = absurd (omega (arith, h))
  many_none (x ∷ y ∷ []) enclosing d h = absurd (omega (arith, h))
  many_none (x ∷ y ∷ z ∷ []) enclosing d h = absurd (omega (arith, h))
  many_none (x ∷ y ∷ z ∷ w ∷ ws) enclosing d h = refl

  pub span_of_many : (es : List Expr) (enclosing : List InstanceId) (d : ℕ) (steps : List Step) → 4 ≤ length es → steps ≡ [] → StandFor r c (span_needs r c es enclosing d) steps
  span_of_many es enclosing d steps h e = subst (λ us. StandFor r c us steps) (sym (many_none es enclosing d h)) (none_stand steps e)

pub ruleset opening_laws = (none_stand, one_stands)
