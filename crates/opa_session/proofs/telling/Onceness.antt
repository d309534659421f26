-- What tells of changes is one list.
use Rattle.std.proofs.Common.{◌≡◌, ℕ, ◌<◌, List, [], ◌∷◌, refl, sym, ◌∙◌, ap, ap₂, subst}
use Rattle.std.proofs.Props.{props}
use Rattle.opa_date.specs.declared.TheConstants.{DAYS}
use Rattle.opa_value.specs.declared.value.Value.{Value}
use Rattle.opa_model.specs.declared.ids.AttrId.{AttrId}
use Rattle.opa_model.specs.declared.lists.Lists.{Lists}
use Rattle.opa_model.specs.declared.things.Kind.{Kind}
use Rattle.opa_cells.specs.declared.instance.InstanceId.{InstanceId}
use Rattle.opa_listen.specs.Days.{IsInCalendar}
use Rattle.opa_listen.specs.declared.change.Change.{Change}
use Rattle.opa_mean.specs.Changes.{Changed}
use Rattle.opa_session.specs.Telling.Telling.{TellsOf, ToldOnce}

-- what a change holds, and what it keeps of that
record Held : Type 0 where
  pub attr : AttrId
  pub kind : Kind
  pub phrase : List ℕ
  pub inst : InstanceId
  pub day : ℕ
  pub was : Value
  pub now_is : Value

record Keeps (h : Held) : Type 0 where
  pub day : h.day < DAYS
  pub was : IsInCalendar h.was
  pub now_is : IsInCalendar h.now_is

held : Change → Held
held c = record { attr = c.attr; kind = c.kind; phrase = c.phrase; inst = c.inst; day = c.day; was = c.was; now_is = c.now }

keeps : (c : Change) → Keeps (held c)
unfolding held
keeps c = record { day = c.day_of_calendar; was = c.was_of_calendar; now_is = c.now_of_calendar }

made : (h : Held) → Keeps h → Change
made h k = record {
  attr = h.attr;
  kind = h.kind;
  phrase = h.phrase;
  inst = h.inst;
  day = h.day;
  was = h.was;
  now = h.now_is;
  day_of_calendar = k.day;
  was_of_calendar = k.was;
  now_of_calendar = k.now_is;
}

made_again : (c : Change) → made (held c) (keeps c) ≡ c
unfolding held keeps made
made_again c = refl

keeps_once : (h : Held) → IsProp (Keeps h)
keeps_once h = hlevel props

same_made : (h g : Held) → h ≡ g → (x : Keeps h) (y : Keeps g) → made h x ≡ made g y
same_made h g e = subst (λ (z : Held). (x : Keeps h) (y : Keeps z) → made h x ≡ made z y) e (λ x y. ap (made h) (keeps_once h x y))

same_held : (m : Lists) (x : Changed) (y z : Change) → TellsOf m x y → TellsOf m x z → held y ≡ held z
unfolding held
same_held m x y z h k =
    ap (λ (v : AttrId). let r : Held = record { attr = v; kind = y.kind; phrase = y.phrase; inst = y.inst; day = y.day; was = y.was; now_is = y.now } in r) (h.attr ∙ sym k.attr)
    ∙ ap (λ (v : Kind). let r : Held = record { attr = z.attr; kind = v; phrase = y.phrase; inst = y.inst; day = y.day; was = y.was; now_is = y.now } in r) (h.kind ∙ sym k.kind)
    ∙ ap (λ (v : List ℕ). let r : Held = record { attr = z.attr; kind = z.kind; phrase = v; inst = y.inst; day = y.day; was = y.was; now_is = y.now } in r) (h.phrase ∙ sym k.phrase)
    ∙ ap (λ (v : InstanceId). let r : Held = record { attr = z.attr; kind = z.kind; phrase = z.phrase; inst = v; day = y.day; was = y.was; now_is = y.now } in r) (h.inst ∙ sym k.inst)
    ∙ ap (λ (v : ℕ). let r : Held = record { attr = z.attr; kind = z.kind; phrase = z.phrase; inst = z.inst; day = v; was = y.was; now_is = y.now } in r) (h.day ∙ sym k.day)
    ∙ ap (λ (v : Value). let r : Held = record { attr = z.attr; kind = z.kind; phrase = z.phrase; inst = z.inst; day = z.day; was = v; now_is = y.now } in r) (h.was ∙ sym k.was)
    ∙ ap (λ (v : Value). let r : Held = record { attr = z.attr; kind = z.kind; phrase = z.phrase; inst = z.inst; day = z.day; was = z.was; now_is = v } in r) (h.now_is ∙ sym k.now_is)

one_change : (m : Lists) (x : Changed) (y z : Change) → TellsOf m x y → TellsOf m x z → y ≡ z
one_change m x y z h k = sym (made_again y) ∙ same_made (held y) (held z) (same_held m x y z h k) (keeps y) (keeps z) ∙ made_again z

pub told_once : ToldOnce
told_once m [] [] [] h k = refl
told_once m [] (y ∷ ys) zs h k = absurd h
told_once m [] [] (z ∷ zs) h k = absurd k
told_once m (x ∷ xs) [] zs h k = absurd h
told_once m (x ∷ xs) (y ∷ ys) [] h k = absurd k
told_once m (x ∷ xs) (y ∷ ys) (z ∷ zs) h k = ap₂ (λ c cs. c ∷ cs) (one_change m x y z h.0 k.0) (told_once m xs ys zs h.1 k.1)
