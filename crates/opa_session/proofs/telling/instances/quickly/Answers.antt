use Rattle.std.proofs.Common.{◌≡◌, sym, subst, Option, ap}
use Rattle.std.specs.Prelude.{IfSome}
use Rattle.opa_case.specs.Cases.{list_of}
use Rattle.opa_session.specs.Telling.Sought.{is_wanted}
use Rattle.opa_session.specs.Telling.Wanted.{wanted_listed}
use Rattle.opa_session.specs.declared.telling.sought.Sought.{Sought}
use Rattle.std.specs.Option.{option_copied}
use Rattle.opa_session.proofs.telling.instances.quickly.Goals as goal

pub returns-in_ok-found-in-Some : goal.returns-in_ok-found-in-Some
returns-in_ok-found-in-Some g c = subst (λ (o : Option Sought). IfSome c.in_ok-found-in-Some.found (λ found. found ≡ wanted_listed (is_wanted o) (list_of (g.K.Lined.over c.args.held.now)) c.args.rel c.args.entity c.args.containers.now)) (sym (ap option_copied c.in-Some.is)) c.in_ok-found-in-Some.ensures
