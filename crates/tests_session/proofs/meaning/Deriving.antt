-- Over the answers of a case rules may be carried out.
use Rattle.std.proofs.Common.{◌≡◌, ℕ, true, Option, None, Some, refl}
use Rattle.std.specs.FinMap.{get}
use Rattle.opa_model.specs.declared.ids.AttrId.{AttrId}
use Rattle.opa_cells.specs.declared.instance.InstanceId.{InstanceId}
use Rattle.opa_case.specs.Cases.{CaseView, Answer}
use Rattle.opa_case.specs.Shapes.{shape_of}
use Rattle.opa_case.specs.Steps.{has_kind}
use Rattle.opa_tree.specs.declared.rulebase.Rulebase.{Rulebase}
use Rattle.opa_mean.specs.Derivations.{MayDerive}
use Rattle.opa_mean.specs.Given.{base_of, facts_of, line_value}
use Rattle.opa_mean.specs.Mean.{look_of}
use Rattle.opa_mean.specs.Rulebases.{IsOf}
use Rattle.opa_mean.specs.Slots.{is_slot}
use Rattle.opa_mean.proofs.reached.Parted.{parts_of}
use Rattle.opa_mean.proofs.reached.Rising.{rises, listed_rise, to_one}
use Rattle.opa_mean.proofs.reached.Allowing.{line_kind}

pub may_derive : (r : Rulebase) (c : CaseView) → IsOf r c → (a : AttrId) (i : InstanceId) → is_slot r c a i ≡ true → MayDerive (base_of r) (look_of (facts_of c) (facts_of c).answer) a i
may_derive r c is a i slot =
    let parts = parts_of r c a i slot in
    record {
      ruled = parts.ruled;
      owner = parts.owner;
      kinds = λ m j d lt. go m j d (get c.answers (m.0, j)) refl;
      to_one = to_one r c is;
      rises = rises r c is i parts.live;
      listed_rise = listed_rise r c is;
    }
  where
    go : (m : AttrId) (j : InstanceId) (d : ℕ) (o : Option Answer) → get c.answers (m.0, j) ≡ o → has_kind ((shape_of r.model).attribute m).kind (line_value o d) ≡ true
    go m j d (Some l) e = line_kind ((shape_of r.model).attribute m).kind l (is.fits.answers m j l e).kind d
    go m j d None e = refl
