-- What is told of slots, one by one.
use Rattle.std.proofs.Common.{◌≡◌, ℕ, ◌+◌, ◌<◌, Bool, true, false, cond, List, [], ◌∷◌, ◌++◌, length, get_or, take, Option, None, Some, is_some, refl, sym, ◌∙◌, ap, ap₂, subst}
use Rattle.std.specs.Prelude.{◌&&◌, ◌||◌, ◌==◌}
use Rattle.std.specs.List.{AllZip, cons_option}
use Rattle.std.specs.Option.{option_map}
use Rattle.std.specs.FinMap.{get}
use Rattle.std.proofs.lemmas.Bool.{eq-eqb}
use Rattle.std.proofs.lemmas.List.{append-nil, take_more}
use Rattle.std.proofs.lemmas.List.Elements.{filter_map-append}
use Rattle.opa_date.specs.declared.TheConstants.{DAYS}
use Rattle.opa_value.specs.declared.value.Value.{Value}
use Rattle.opa_value.specs.declared.value.Value.TheVariants.{Unknown}
use Rattle.opa_model.specs.declared.ids.AttrId.{AttrId}
use Rattle.opa_model.specs.declared.lists.Lists.{Lists}
use Rattle.opa_cells.specs.declared.instance.InstanceId.{InstanceId}
use Rattle.opa_case.specs.Cases.{CaseView}
use Rattle.opa_case.specs.Live as live
use Rattle.opa_case.specs.Shapes.{shape_of}
use Rattle.opa_listen.specs.declared.change.Change.{Change}
use Rattle.opa_tree.specs.declared.rulebase.Rulebase.{Rulebase}
use Rattle.opa_tree.specs.Rules.{rule_of}
use Rattle.opa_mean.specs.Changes.{Changed, first_difference, value_before, change_of}
use Rattle.opa_mean.specs.Given.{base_of, facts_of}
use Rattle.opa_mean.specs.Holding.{held_value}
use Rattle.opa_mean.specs.Mean.{Base, Facts}
use Rattle.opa_mean.specs.Places.{owner_of}
use Rattle.opa_mean.specs.Rulebases.{IsOf, value_at}
use Rattle.opa_mean.specs.Slots.{is_slot, has_place}
use Rattle.opa_mean.proofs.ChangesAre.{difference_found}
use Rattle.opa_session.specs.Telling.Telling.{TellsOf, TellsAny, changes_among, moved}
use Rattle.opa_session.proofs.telling.Firsts.{at_place}
use Rattle.opa_session.proofs.telling.Placed.{is_at}
use Rattle.opa_session.proofs.telling.Sames.{live_one}

module _ (r : Rulebase) (c c' : CaseView) (is' : IsOf r c') (a : AttrId) (i : InstanceId) (slot : is_slot r c' a i ≡ true) where
  held_if : (l o s t : Bool) (v : Value) → o ≡ true → s ≡ true → cond ((l && o) && (s || t)) v Unknown ≡ cond l v Unknown
  held_if l o s t v eo es = ap (λ b. cond ((l && b) && (s || t)) v Unknown) eo ∙ ap (λ b. cond ((l && true) && (b || t)) v Unknown) es ∙ go l
    where
      go : (l : Bool) → cond ((l && true) && true) v Unknown ≡ cond l v Unknown
      go true = refl
      go false = refl

  -- what was held of a slot is its value before
  before_is : (d : ℕ) → held_value r c a i d ≡ value_before (base_of r) (facts_of c) a i d
  before_is d =
      let at = is_at r c' a i slot in
      held_if (live.is_live c.live i) (i.entity.0 == owner_of (shape_of r.model) a) (is_some (rule_of r.rules a)) (is_some (get c.answers (a.0, i))) (value_at r c a i d)
      (eq-eqb i.entity.0 (owner_of (shape_of r.model) a) at.owner) at.has_rule
      ∙ ap (λ (b : Bool). cond b (value_at r c a i d) Unknown) (live_one c i)

  after_is : (d : ℕ) → held_value r c' a i d ≡ value_at r c' a i d
  after_is d = at_place r c' is' a i (place (has_place r c' a i) (is_some (rule_of r.rules a)) slot) d
    where
      place : (x y : Bool) → (x && y) ≡ true → x ≡ true
      place true y h = refl
      place false y h = absurd (cc h)

  -- the change of a slot, by what is held
  pub change_by : (s : Rulebase) → s ≡ r → option_map (moved (held_value s c a i) (held_value r c' a i) a i) (first_difference DAYS (held_value s c a i) (held_value r c' a i)) ≡ change_of (base_of r) (facts_of c) (facts_of c') a i
  change_by s e =
      ap (λ (q : Rulebase). option_map (moved (held_value q c a i) (held_value r c' a i) a i) (first_difference DAYS (held_value q c a i) (held_value r c' a i))) e
      ∙ ap₂ (λ (f g : ℕ → Value). option_map (moved f g a i) (first_difference DAYS f g)) (λ j d. before_is d j) (λ j d. after_is d j)

-- nothing is told, and one change
pub tells_none : (m : Lists) (f g : ℕ → Value) (a : AttrId) (i : InstanceId) (o : Option Changed) → option_map (moved f g a i) (first_difference DAYS f g) ≡ o → None ≡ first_difference DAYS f g → TellsAny m o None
tells_none m f g a i o e none = subst (λ (p : Option Changed). TellsAny m p None) (ap (option_map (moved f g a i)) none ∙ e) tt

pub tells_some : (m : Lists) (f g : ℕ → Value) (a : AttrId) (i : InstanceId) (d : ℕ) (o : Option Changed) (change : Change) → option_map (moved f g a i) (first_difference DAYS f g) ≡ o → Some d ≡ first_difference DAYS f g
    → TellsOf m (moved f g a i d) change → TellsAny m o (Some change)
tells_some m f g a i d o change e some tells = subst (λ (p : Option Changed). TellsAny m p (Some change)) (ap (option_map (moved f g a i)) some ∙ e) tells

-- the first day of difference is one of the calendar
pub first_within : (f g : ℕ → Value) (d : ℕ) → Some d ≡ first_difference DAYS f g → d < DAYS
first_within f g d e = (difference_found DAYS f g d (sym e)).0

module _ (m : Lists) where
  both_more : (xs : List Changed) (ys : List Change) (x : Changed) (y : Change) → AllZip (TellsOf m) xs ys → TellsOf m x y → AllZip (TellsOf m) (xs ++ x ∷ []) (ys ++ y ∷ [])
  both_more [] [] x y h k = (k, tt)
  both_more [] (z ∷ ys) x y h k = absurd h
  both_more (w ∷ xs) [] x y h k = absurd h
  both_more (w ∷ xs) (z ∷ ys) x y h k = (h.0, both_more xs ys x y h.1 k)

  pub adds_none : (xs : List Changed) (ys : List Change) (o : Option Changed) → TellsAny m o None → AllZip (TellsOf m) xs ys → AllZip (TellsOf m) (xs ++ cons_option o []) ys
  adds_none xs ys None t h = subst (λ (zs : List Changed). AllZip (TellsOf m) zs ys) (sym (append-nil xs)) h
  adds_none xs ys (Some x) t h = absurd t

  pub adds_some : (xs : List Changed) (ys zs : List Change) (o : Option Changed) (change : Change) → TellsAny m o (Some change) → zs ≡ ys ++ change ∷ [] → AllZip (TellsOf m) xs ys → AllZip (TellsOf m) (xs ++ cons_option o []) zs
  adds_some xs ys zs None change t e h = absurd t
  adds_some xs ys zs (Some x) change t e h = subst (λ (ws : List Change). AllZip (TellsOf m) (xs ++ x ∷ []) ws) (sym e) (both_more xs ys x change h t)

-- one slot more
pub among_more : (b : Base) (c c' : Facts) (slots : List (AttrId × InstanceId)) (k : ℕ) (s : AttrId × InstanceId) → k < length slots → s ≡ get_or slots k s
    → changes_among b c c' (take (k + 1) slots) ≡ changes_among b c c' (take k slots) ++ cons_option (change_of b c c' s.0 s.1) []
among_more b c c' slots k s lt is =
    ap (changes_among b c c') (take_more slots k s lt ∙ ap (λ (y : AttrId × InstanceId). take k slots ++ y ∷ []) (sym is))
    ∙ filter_map-append (λ (x : AttrId × InstanceId). change_of b c c' x.0 x.1) (take k slots) (s ∷ [])
