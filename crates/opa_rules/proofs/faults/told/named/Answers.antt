use Rattle.std.proofs.Common.{sym, subst, length}
use Rattle.std.specs.Str.{chars}
use Rattle.opa_words.specs.Cuts.{Cuts, Stuck, IsCause}
use Rattle.opa_line.proofs.Zipping.{ok_weaker}
use Rattle.opa_rules.specs.Faults.Told.{IsNamed}
use Rattle.opa_rules.proofs.faults.told.named.Goals as goal

pub returns-in-Ok : goal.returns-in-Ok
returns-in-Ok c = ok_weaker c.told_in.result _ _ (λ t e. subst (IsNamed c.args.known.now.texts c.args.line.now) (sym e) (IsNamed.cut c.as_slice.result.now (subst (λ x. Cuts (length x) (chars x) c.as_slice.result.now) c.as_str.ensures (subst (Cuts (length c.as_str.result.now) (chars c.as_str.result.now)) (sym c.as_slice.ensures.value) c.in-Ok.ensures.cut)))) c.told_in.ensures

pub returns-in-Err-Place : goal.returns-in-Err-Place
returns-in-Err-Place c = ok_weaker c.plain.result _ _ (λ t e. subst (IsNamed c.args.known.now.texts c.args.line.now) (sym e) (IsNamed.uncut c.in-Err-Place.field-0-0 (subst (λ x. Stuck (length x) (chars x) c.in-Err-Place.field-0-0) c.as_str.ensures (subst (IsCause (length c.as_str.result.now) (chars c.as_str.result.now)) c.in-Err-Place.field-0-is c.in-Err-Place.ensures.fault)))) c.plain.ensures
