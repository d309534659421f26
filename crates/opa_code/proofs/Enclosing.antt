-- What nodes lead to depends on the enclosing instances only by the places of the entities that they mention.
use Rattle.std.proofs.Common.{◌≡◌, ◌≢◌, ◌⊎◌, inl, inr, ℕ, zero, suc, ◌-◌, Bool, true, false, cond, eqb, List, [], ◌∷◌, ◌++◌, length, take, drop, map, Option, None, Some, refl, sym, ◌∙◌, ap, subst}
use Rattle.std.specs.Prelude.{◌==◌, find, flat_map}
use Rattle.std.specs.List.{AllByRecursion}
use Rattle.std.specs.Option.{option_map_or}
use Rattle.std.proofs.lemmas.Bool.{eq-eqb}
use Rattle.std.proofs.lemmas.Bool.Decides.{eqb_tells}
use Rattle.std.proofs.Math.Path.{fun_ext}
use Rattle.opa_value.specs.declared.value.Value.{Value}
use Rattle.opa_value.specs.Truth.{all_of, any_of, not_of, strict}
use Rattle.opa_model.specs.declared.ids.RelId.{RelId}
use Rattle.opa_tree.specs.declared.kinds.Quant.{Quant}
use Rattle.opa_tree.specs.declared.kinds.WinKind.{WinKind}
use Rattle.opa_tree.specs.declared.kinds.WinKind.TheVariants as win
use Rattle.opa_cells.specs.Instances.{named}
use Rattle.opa_cells.specs.declared.instance.InstanceId.{InstanceId}
use Rattle.opa_window.specs.Windows.{value_at, interval_always, interval_sometimes, interval_sum, interval_max, interval_min, interval_run, before, on_or_after, years_since}
use Rattle.opa_mean.specs.Looks.{Look}
use Rattle.opa_mean.specs.Meaning.{Meaning, each, at_place, certain_of, known_of, choose, item, quant_of, over, window, rolling}
use Rattle.opa_mean.specs.Operations.{op_of}
use Rattle.opa_mean.specs.Places.{place, chain, climb, is_of}
use Rattle.opa_mean.proofs.Values.{window_more}
use Rattle.opa_code.specs.Mentions.{Mentions, of_attribute, of_source, within, behind, later}
use Rattle.opa_code.specs.Running.{Run, finished, stepped, quantified, left, passed, IsStep, put, node_meaning, operand_count, over_meaning, sole, chosen}
use Rattle.opa_code.specs.Steps.{over_at}
use Rattle.opa_code.specs.declared.node.Node.{Node}
use Rattle.opa_code.specs.declared.node.Node.TheVariants as node

-- the meanings have one value each at two lists of enclosing instances
abbrev pub Same : List InstanceId → List InstanceId → List Meaning → Type 0
Same e f ms = AllByRecursion (λ m. m e ≡ m f) ms

module _ (e f : List InstanceId) where
  same_take : (n : ℕ) (ms : List Meaning) → Same e f ms → Same e f (take n ms)
  same_take zero ms h = tt
  same_take (suc n) [] h = tt
  same_take (suc n) (m ∷ ms) h = (h.0, same_take n ms h.1)

  same_drop : (n : ℕ) (ms : List Meaning) → Same e f ms → Same e f (drop n ms)
  same_drop zero ms h = h
  same_drop (suc n) [] h = tt
  same_drop (suc n) (m ∷ ms) h = same_drop n ms h.1

  same_more : (ms : List Meaning) (m : Meaning) → Same e f ms → m e ≡ m f → Same e f (ms ++ m ∷ [])
  same_more [] m h is = (is, tt)
  same_more (k ∷ ms) m h is = (h.0, same_more ms m h.1 is)

  pub same_each : (ms : List Meaning) (d : ℕ) → Same e f ms → each ms e d ≡ each ms f d
  same_each [] d h = refl
  same_each (m ∷ ms) d h = ap (λ (g : ℕ → Value). g d ∷ each ms e d) h.0 ∙ ap (λ vs. m f d ∷ vs) (same_each ms d h.1)

  same_sole : (ms : List Meaning) → Same e f ms → sole ms e ≡ sole ms f
  same_sole [] h = refl
  same_sole (m ∷ []) h = h.0
  same_sole (m ∷ k ∷ ms) h = refl

  same_chosen : (ms : List Meaning) (d : ℕ) → Same e f ms → chosen ms e d ≡ chosen ms f d
  same_chosen [] d h = refl
  same_chosen (a ∷ []) d h = refl
  same_chosen (a ∷ b ∷ []) d h = refl
  same_chosen (a ∷ b ∷ c ∷ []) d h =
      ap (λ (g : ℕ → Value). choose (g d) (b e d) (c e d)) h.0 ∙ ap (λ (g : ℕ → Value). choose (a f d) (g d) (c e d)) h.1.0 ∙ ap (λ (g : ℕ → Value). choose (a f d) (b f d) (g d)) h.1.1.0
  same_chosen (a ∷ b ∷ c ∷ x ∷ ms) d h = refl

  same_one : (k : WinKind) (a : Meaning) (d : ℕ) → a e ≡ a f → window k (a ∷ []) e d ≡ window k (a ∷ []) f d
  same_one win.Before a d h = ap (λ (g : ℕ → Value). before (g d) d) h
  same_one win.OnOrAfter a d h = ap (λ (g : ℕ → Value). on_or_after (g d) d) h
  same_one win.YearsSince a d h = ap (λ (g : ℕ → Value). years_since (g d) d) h
  same_one _ a d h = refl

  same_two : (k : WinKind) (a x : Meaning) (d : ℕ) → a e ≡ a f → x e ≡ x f → window k (a ∷ x ∷ []) e d ≡ window k (a ∷ x ∷ []) f d
  same_two win.ValueAt a x d h i = ap (λ (g : ℕ → Value). value_at (x e) (g d)) h ∙ ap (λ (g : ℕ → Value). value_at g (a f d)) i
  same_two _ a x d h i = refl

  same_span : (fold : (ℕ → Value) → Value → Value → Value) (a b x : Meaning) (d : ℕ) → a e ≡ a f → b e ≡ b f → x e ≡ x f → fold (x e) (a e d) (b e d) ≡ fold (x f) (a f d) (b f d)
  same_span fold a b x d h i j = ap (λ (g : ℕ → Value). fold (x e) (g d) (b e d)) h ∙ ap (λ (g : ℕ → Value). fold (x e) (a f d) (g d)) i ∙ ap (λ (g : ℕ → Value). fold g (a f d) (b f d)) j

  same_three : (k : WinKind) (a b x : Meaning) (d : ℕ) → a e ≡ a f → b e ≡ b f → x e ≡ x f → window k (a ∷ b ∷ x ∷ []) e d ≡ window k (a ∷ b ∷ x ∷ []) f d
  same_three win.Always a b x d h i j = same_span interval_always a b x d h i j
  same_three win.Sometimes a b x d h i j = same_span interval_sometimes a b x d h i j
  same_three win.DailySum a b x d h i j = same_span interval_sum a b x d h i j
  same_three win.Maximum a b x d h i j = same_span interval_max a b x d h i j
  same_three win.Minimum a b x d h i j = same_span interval_min a b x d h i j
  same_three win.ConsecutiveDays a b x d h i j = same_span interval_run a b x d h i j
  same_three _ a b x d h i j = refl

  same_window : (k : WinKind) (ms : List Meaning) (d : ℕ) → Same e f ms → window k ms e d ≡ window k ms f d
  same_window win.Before [] d h = refl
  same_window _ [] d h = refl
  same_window k (a ∷ []) d h = same_one k a d h.0
  same_window k (a ∷ x ∷ []) d h = same_two k a x d h.0 h.1.0
  same_window k (a ∷ b ∷ x ∷ []) d h = same_three k a b x d h.0 h.1.0 h.1.1.0
  same_window k (a ∷ b ∷ c ∷ x ∷ ms) d h = window_more k a b c x ms e d ∙ sym (window_more k a b c x ms f d)

  module _ (l : Look) where
    abbrev pub Agree : List Node → Type 0
    Agree ns = (o : ℕ) → Mentions o ns → place l.container e o ≡ place l.container f o

    node_same : (n : Node) (rest : List Node) (ms : List Meaning) (d : ℕ) → Agree (n ∷ rest) → Same e f ms → node_meaning l n ms e d ≡ node_meaning l n ms f d
    node_same (node.Const v) rest ms d agree h = refl
    node_same (node.Attr a owner) rest ms d agree h = ap (λ p. at_place p (λ i. l.value a i d)) (agree owner (of_attribute (node.Attr a owner ∷ rest) a rest refl))
    node_same (node.All n) rest ms d agree h = ap all_of (same_each ms d h)
    node_same (node.Any n) rest ms d agree h = ap any_of (same_each ms d h)
    node_same node.Not rest ms d agree h = ap (λ (g : ℕ → Value). not_of (g d)) (same_sole ms h)
    node_same (node.Op k n) rest ms d agree h = ap (strict (op_of k)) (same_each ms d h)
    node_same node.Certain rest ms d agree h = ap (λ (g : ℕ → Value). certain_of (g d)) (same_sole ms h)
    node_same node.Known rest ms d agree h = ap (λ (g : ℕ → Value). known_of (g d)) (same_sole ms h)
    node_same (node.Window k n) rest ms d agree h = same_window k ms d h
    node_same (node.Rolling b n) rest ms d agree h = ap (λ (g : ℕ → Value). rolling b n g d) (same_sole ms h)
    node_same node.Choose rest ms d agree h = same_chosen ms d h
    node_same _ rest ms d agree h = refl

    put_same : (n : Node) (rest : List Node) (st : List Meaning) → Agree (n ∷ rest) → Same e f st → Same e f (put l n st)
    put_same n rest st agree h =
        let k = length st - operand_count n in
        same_more (take k st) (node_meaning l n (drop k st)) (same_take k st h) (fun_ext (λ d. node_same n rest (drop k st) d agree (same_drop k st h)))

-- behind the same instances the first one is the same
find_behind : (p : InstanceId → Bool) (xs ys zs : List InstanceId) → find p ys ≡ find p zs → find p (xs ++ ys) ≡ find p (xs ++ zs)
find_behind p [] ys zs h = h
find_behind p (x ∷ xs) ys zs h = ap (λ r. cond (p x) (Some x) r) (find_behind p xs ys zs h)

module _ (l : Look) where
  place_behind : (i : InstanceId) (e f : List InstanceId) (o : ℕ) → place l.container e o ≡ place l.container f o → place l.container (i ∷ e) o ≡ place l.container (i ∷ f) o
  place_behind i e f o h = find_behind (is_of o) (chain l.container i) (flat_map (chain l.container) e) (flat_map (chain l.container) f) h

  climb_first : (n : ℕ) (i : InstanceId) (o : ℕ) (more : List InstanceId) → is_of o i ≡ true → find (is_of o) (climb l.container n i ++ more) ≡ Some i
  climb_first zero i o more is = ap (λ b. cond b (Some i) (find (is_of o) more)) is
  climb_first (suc n) i o more is = ap (λ b. cond b (Some i) (find (is_of o) (option_map_or (climb l.container n) (l.container i) [] ++ more))) is

  place_first : (i : InstanceId) (e : List InstanceId) (o : ℕ) → is_of o i ≡ true → place l.container (i ∷ e) o ≡ Some i
  place_first i e o is = climb_first i.entity.0 i o (flat_map (chain l.container) e) is

  -- the listed instance is the place of its entity, and behind it others stay the same
  place_listed : (target : ℕ) (name : List ℕ) (e f : List InstanceId) (o : ℕ) → ((o == target) ≡ false → place l.container e o ≡ place l.container f o)
      → place l.container (named target name ∷ e) o ≡ place l.container (named target name ∷ f) o
  place_listed target name e f o h = go (eqb_tells o target)
    where
      go : ((eqb o target ≡ true) × (o ≡ target)) ⊎ ((eqb o target ≡ false) × (o ≢ target)) → place l.container (named target name ∷ e) o ≡ place l.container (named target name ∷ f) o
      go (inl is) = let here = eq-eqb target o (sym is.1) in place_first (named target name) e o here ∙ sym (place_first (named target name) f o here)
      go (inr not) = place_behind (named target name) e f o (h not.0)

  items_same : (q : Quant) (target : ℕ) (ms : List Meaning) (e f : List InstanceId) (d : ℕ) → ((name : List ℕ) → Same (named target name ∷ e) (named target name ∷ f) ms)
      → (names : List (List ℕ)) → map (λ name. item q (each ms (named target name ∷ e) d)) names ≡ map (λ name. item q (each ms (named target name ∷ f) d)) names
  items_same q target ms e f d h [] = refl
  items_same q target ms e f d h (name ∷ names) =
      ap (λ vs. item q vs ∷ map (λ n. item q (each ms (named target n ∷ e) d)) names) (same_each (named target name ∷ e) (named target name ∷ f) ms d (h name))
      ∙ ap (λ vs. item q (each ms (named target name ∷ f) d) ∷ vs) (items_same q target ms e f d h names)

  listed_same : (q : Quant) (target : ℕ) (ms : List Meaning) (e f : List InstanceId) (d : ℕ) → ((name : List ℕ) → Same (named target name ∷ e) (named target name ∷ f) ms)
      → (names : Option (List (List ℕ))) → over q target names ms e d ≡ over q target names ms f d
  listed_same q target ms e f d h None = refl
  listed_same q target ms e f d h (Some names) = ap (quant_of q) (items_same q target ms e f d h names)

  -- a quantifier whose source has one place, and whose operands are the same at each listed instance
  over_same : (q : Quant) (r : RelId) (source target : ℕ) (ms : List Meaning) (e f : List InstanceId) → place l.container e source ≡ place l.container f source
      → ((name : List ℕ) → Same (named target name ∷ e) (named target name ∷ f) ms) → over_meaning l q r source target ms e ≡ over_meaning l q r source target ms f
  over_same q r source target ms e f place_is h =
      fun_ext (λ d. ap (λ p. at_place p (λ i. over q target (l.members r i) ms e d)) place_is ∙ at (place l.container f source) d)
    where
      at : (p : Option InstanceId) (d : ℕ) → at_place p (λ i. over q target (l.members r i) ms e d) ≡ at_place p (λ i. over q target (l.members r i) ms f d)
      at None d = refl
      at (Some i) d = listed_same q target ms e f d h (l.members r i)

  no_over : (n : Node) → IsStep n → over_at n ≡ None
  no_over (node.Over q r source target count) ok = absurd ok
  no_over (node.Leave how dropped count) ok = refl
  no_over _ ok = refl

  pub same_end : (e f : List InstanceId) (ns : List Node) (st end : List Meaning) → Run l ns st end → Agree e f l ns → Same e f st → Same e f end
  same_end e f ns st end (finished _ _ is) agree h = h
  same_end e f ns st end (stepped _ n rest _ _ is ok goes) agree h =
      let whole = subst (Agree e f l) is agree in
      same_end e f rest (put l n st) end goes (λ o m. whole o (later (n ∷ rest) n rest refl (no_over n ok) m)) (put_same e f l n rest st whole h)
  same_end e f ns st end (quantified _ q r source target count rest _ ms _ is operand goes) agree h =
      let inner : (name : List ℕ) → Same (named target name ∷ e) (named target name ∷ f) ms = λ name. same_end (named target name ∷ e) (named target name ∷ f) (take count rest) [] ms operand
      (λ o m. place_listed target name e f o (λ other. agree o (within ns q r source target count rest is other m))) tt in
      same_end e f (drop count rest) (st ++ over_meaning l q r source target ms ∷ []) end goes (λ o m. agree o (behind ns q r source target count rest is m))
      (same_more e f st (over_meaning l q r source target ms) h (over_same q r source target ms e f (agree source (of_source ns q r target count rest is)) inner))
  same_end e f ns st end (left _ how dropped count rest below before newest whole _ _ is st_is size decides on off) agree h =
      same_end e f rest st end on (λ o m. agree o (later ns (node.Leave how dropped count) rest is refl m)) h
  same_end e f ns st end (passed _ count rest below test value _ _ is st_is masked on off) agree h =
      same_end e f rest st end on (λ o m. agree o (later ns (node.Pass count) rest is refl m)) h

  -- a quantifier is worth the same wherever its source and what its operand mentions have their places
  pub quantifier_same : (operand : List Node) (q : Quant) (r : RelId) (source target : ℕ) (ms : List Meaning) (e f : List InstanceId) → Run l operand [] ms
      → place l.container e source ≡ place l.container f source → ((o : ℕ) → Mentions o operand → (o == target) ≡ false → place l.container e o ≡ place l.container f o)
      → over_meaning l q r source target ms e ≡ over_meaning l q r source target ms f
  quantifier_same operand q r source target ms e f goes place_is agree = over_same q r source target ms e f place_is
      (λ name. same_end (named target name ∷ e) (named target name ∷ f) operand [] ms goes (λ o m. place_listed target name e f o (agree o m)) tt)
