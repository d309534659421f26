-- What refuses a change is what its tests find.
use Rattle.std.specs.Prelude.{◌≡◌, Bool, true, false, cond, List, Option, None, Some, Result, Ok, Err, refl}
use Rattle.opa_case.specs.Cases.{CaseView}
use Rattle.opa_case.specs.Refusals.{refusal_of}
use Rattle.opa_case.specs.Shapes.{Shape}
use Rattle.opa_case.specs.Steps.{unless, within, is_full}
use Rattle.opa_case.specs.declared.change.Refusal.{Refusal}
use Rattle.opa_case.specs.declared.change.Refusal.TheVariants.{Name, Limit}

pub refused_unless : {X : Type 0} (o : Option Refusal) (x : X) → o ≡ refusal_of (unless o (Ok x))
refused_unless None x = refl
refused_unless (Some e) x = refl

pub refused_if : {X : Type 0} (b : Bool) (x : X) → cond b (Some Name) None ≡ refusal_of (cond b (Err Name) (Ok x))
refused_if true x = refl
refused_if false x = refl

pub refused_within : (s : Shape) (ruled : List Bool) (o : Option Refusal) (c : CaseView) → o ≡ None → cond (is_full s ruled c.live) (Some Limit) None ≡ refusal_of (unless o (within s ruled c))
refused_within s ruled None c h = go (is_full s ruled c.live)
  where
    go : (b : Bool) → cond b (Some Limit) None ≡ refusal_of (cond b (Err Limit) (Ok c))
    go true = refl
    go false = refl
refused_within s ruled (Some e) c h = absurd (cc h)

pub refused_first : {X : Type 0} (o : Option Refusal) (e : Refusal) (x : Result X Refusal) → o ≡ Some e → Some e ≡ refusal_of (unless o x)
refused_first None e x h = absurd (cc h)
refused_first (Some f) e x h = cc h
