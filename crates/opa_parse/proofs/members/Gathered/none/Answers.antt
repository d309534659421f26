use Rattle.std.proofs.Common.{refl}
use Rattle.opa_parse.proofs.MemberLaws.{none_gathered}
use Rattle.opa_parse.proofs.members.Gathered.none.Goals as goal

pub returns : goal.returns
returns c declared h = none_gathered _ declared refl c.new.ensures refl h
