use Rattle.opa_verify.proofs.spelling.Placed.{cut_at, no_cut, uncut_place, unparsed_place, one_place}
use Rattle.opa_verify.proofs.spelling.origins.place_in.Goals as goal

pub place_as-requires : goal.place_as-requires
place_as-requires c =
    one_place c.args.text.now c.args.place.now c.in-Some.file.now c.in-Some.digits.now c.in-Ok.line c.parse.result c.requires
    (cut_at c.args.place.now c.in-Some.file.now c.in-Some.digits.now c.in-Some.ensures.cases.0 c.in-Some.ensures.cases.1 c.in-Some.ensures.cases.2 c.in-Some.ensures.cases.3 c.in-Some.ensures.cases.4) c.parse.ensures.value.0 c.in-Ok.is

pub returns-in-None : goal.returns-in-None
returns-in-None c = uncut_place c.args.text.now c.args.place.now c.requires (no_cut c.args.place.now c.in-None.ensures.cases)

pub returns-in-Err : goal.returns-in-Err
returns-in-Err c =
    unparsed_place c.args.text.now c.args.place.now c.in-Some.file.now c.in-Some.digits.now c.parse.result c.in-Err.field-0 c.requires
    (cut_at c.args.place.now c.in-Some.file.now c.in-Some.digits.now c.in-Some.ensures.cases.0 c.in-Some.ensures.cases.1 c.in-Some.ensures.cases.2 c.in-Some.ensures.cases.3 c.in-Some.ensures.cases.4) c.parse.ensures.value.0 c.in-Err.is
