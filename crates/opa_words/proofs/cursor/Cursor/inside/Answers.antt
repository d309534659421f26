use Rattle.std.proofs.Common.{◌∙◌, arith, false, refl}
use Rattle.std.specs.Str.{chars}
use Rattle.std.specs.Option.{option_map}
use Rattle.opa_words.specs.Scan.{inside}
use Rattle.opa_words.proofs.InsideLaws.{inside_start, inside_stops, inside_ends, inside_goes}
use Rattle.opa_words.proofs.cursor.Cursor.inside.Goals as goal

pub loop-after-init : goal.loop-after-init
loop-after-init c = record { rest = inside_start (chars c.args.self.rest.now); place = refl; shorter = omega arith; end = tt; end_shorter = tt }

pub returns-in-None-clause-rest : goal.returns-in-None-clause-rest
returns-in-None-clause-rest c = inside_ends (chars c.loop-after.here.rest.now) (chars c.in-Some.after.rest.now) (option_map (λ x. chars x.rest.now) c.loop-after.end) (inside false (chars c.args.self.rest.now)) c.in-Some.ensures.rest c.in-None.ensures.rest c.loop-after.invariant.rest

pub loop-after-preserved : goal.loop-after-preserved
loop-after-preserved c = record {
  rest = inside_goes (chars c.loop-after.here.rest.now) (chars c.in-Some.after.rest.now) (chars c.in-Some-sign.next.rest.now) (option_map (λ x. chars x.rest.now) c.loop-after.end) (inside false (chars c.args.self.rest.now)) c.in-Some.ensures.rest c.in-Some-sign.ensures.rest c.loop-after.invariant.rest;
  place = c.in-Some-sign.ensures.place ∙ c.in-Some.ensures.place ∙ c.loop-after.invariant.place;
  shorter = omega (arith, c.in-Some-sign.ensures.shorter, c.in-Some.ensures.shorter, c.loop-after.invariant.shorter);
  end = c.in-Some.ensures.place ∙ c.loop-after.invariant.place;
  end_shorter = omega (arith, c.in-Some.ensures.shorter, c.loop-after.invariant.shorter);
}

pub returns-clause-rest : goal.returns-clause-rest
returns-clause-rest c = inside_stops (chars c.loop-after.here.rest.now) (option_map (λ x. chars x.rest.now) c.loop-after.end) (inside false (chars c.args.self.rest.now)) c.in_default.ensures.rest c.loop-after.invariant.rest
