-- While a change is settled, rules may be carried out over what is looked up.
use Rattle.std.proofs.Common.{◌≡◌, ℕ, ◌<◌, [], ◌∷◌, Bool, true, false, cond, Option, None, Some, refl, ◌∙◌, ap}
use Rattle.std.specs.Prelude.{nat_le}
use Rattle.std.specs.List.{list_all}
use Rattle.std.specs.Option.{option_or}
use Rattle.std.specs.FinMap.{get}
use Rattle.std.proofs.lemmas.Bool.{and_parts}
use Rattle.opa_date.specs.declared.TheConstants.{DAYS}
use Rattle.opa_value.specs.declared.value.Value.{Value}
use Rattle.opa_line.specs.Lines.{StandsFor, value_from}
use Rattle.opa_model.specs.declared.ids.AttrId.{AttrId}
use Rattle.opa_model.specs.declared.things.Kind.{Kind}
use Rattle.opa_cells.specs.declared.instance.InstanceId.{InstanceId}
use Rattle.opa_case.specs.Cases.{Answer}
use Rattle.opa_case.specs.Shapes.{shape_of}
use Rattle.opa_case.specs.Steps.{has_kind}
use Rattle.opa_mean.specs.Derivations.{MayDerive}
use Rattle.opa_mean.specs.Given.{base_of, line_value}
use Rattle.opa_mean.specs.Rulebases.{value_at}
use Rattle.opa_window.specs.Days.{day_value}
use Rattle.opa_mean.specs.Reached.Settling.{Lines, Shift, IsShift, AreCurrent, HaveKinds, laid_look}
use Rattle.opa_mean.specs.Slots.{is_slot}
use Rattle.opa_mean.proofs.reached.Parted.{parts_of}
use Rattle.opa_mean.proofs.reached.Looking.{line_right}
use Rattle.opa_mean.proofs.reached.Rising.{rises, listed_rise, to_one}

pub from_kind : (k : Kind) (v : Value) (l : Answer) → has_kind k v ≡ true → list_all (λ p. has_kind k p.1) l ≡ true → (d : ℕ) → has_kind k (value_from v l d) ≡ true
from_kind k v [] h all d = h
from_kind k v (p ∷ l) h all d = let both = and_parts _ _ all in go (nat_le p.0 d) (from_kind k p.1 l both.0 both.1 d)
  where
    go : (b : Bool) → has_kind k (value_from p.1 l d) ≡ true → has_kind k (cond b (value_from p.1 l d) v) ≡ true
    go true g = g
    go false g = h

pub line_kind : (k : Kind) (l : Answer) → list_all (λ p. has_kind k p.1) l ≡ true → (d : ℕ) → has_kind k (day_value l d) ≡ true
line_kind k [] all d = refl
line_kind k (p ∷ l) all d = let both = and_parts _ _ all in from_kind k p.1 l both.0 both.1 d

module _ (s : Shift) (is : IsShift s) (kinds : HaveKinds s.rules) (kept staged : Lines) (current : AreCurrent s.rules s.old kept)
    (right : (a : AttrId) (i : InstanceId) (line : Answer) → staged a i ≡ Some line → StandsFor DAYS (value_at s.rules s.new a i) line) where
  seen_kind : (m : AttrId) (j : InstanceId) (d : ℕ) → d < DAYS → (o p q : Option Answer) → staged m j ≡ o → kept m j ≡ p → get s.new.answers (m.0, j) ≡ q
      → has_kind ((shape_of s.rules.model).attribute m).kind (line_value (option_or o (option_or p q)) d) ≡ true
  seen_kind m j d lt (Some l) p q e e' e'' = ap (has_kind ((shape_of s.rules.model).attribute m).kind) (line_right (value_at s.rules s.new m j) l (right m j l e) d lt) ∙ kinds s.new is.after m j d
  seen_kind m j d lt None (Some l) q e e' e'' = ap (has_kind ((shape_of s.rules.model).attribute m).kind) (line_right (value_at s.rules s.old m j) l (current.right m j l e') d lt) ∙ kinds s.old is.before m j d
  seen_kind m j d lt None None (Some l) e e' e'' = line_kind ((shape_of s.rules.model).attribute m).kind l (is.after.fits.answers m j l e'').kind d
  seen_kind m j d lt None None None e e' e'' = refl

  pub may_derive : (a : AttrId) (i : InstanceId) → is_slot s.rules s.new a i ≡ true → MayDerive (base_of s.rules) (laid_look s.new kept staged) a i
  may_derive a i slot =
      let p = parts_of s.rules s.new a i slot in
      record {
        ruled = p.ruled;
        owner = p.owner;
        kinds = λ m j d lt. seen_kind m j d lt (staged m j) (kept m j) (get s.new.answers (m.0, j)) refl refl refl;
        to_one = to_one s.rules s.new is.after;
        rises = rises s.rules s.new is.after i p.live;
        listed_rise = listed_rise s.rules s.new is.after;
      }
