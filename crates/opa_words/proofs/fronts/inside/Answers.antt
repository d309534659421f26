use Rattle.std.proofs.Common.{ℕ, List, false, rules}
use Rattle.std.specs.Option.{option_map}
use denote.Ref.{Bor}
use Rattle.opa_words.specs.Scan.{inside}
use Rattle.opa_words.proofs.InsideLaws.{inside_start, inside_stops, inside_ends, inside_goes}
use Rattle.opa_words.proofs.fronts.inside.Goals as goal

pub loop-after-init : goal.loop-after-init
loop-after-init c = record { utf8 = c.utf8.start; rest = inside_start c.args.start.now }

pub returns-in-None : goal.returns-in-None
returns-in-None c = inside_ends c.loop-after.here.now c.in-Some.after.now (option_map (λ (x : Bor (List ℕ)). x.now) c.loop-after.end) (inside false c.args.start.now) c.in-Some.ensures.rest c.in-None.ensures.rest c.loop-after.invariant.rest

pub loop-after-preserved : goal.loop-after-preserved
loop-after-preserved c = record {
  utf8 = search rules;
  rest = inside_goes c.loop-after.here.now c.in-Some.after.now c.in-Some-quote.next.now (option_map (λ (x : Bor (List ℕ)). x.now) c.loop-after.end) (inside false c.args.start.now) c.in-Some.ensures.rest c.in-Some-quote.ensures.rest c.loop-after.invariant.rest;
}

pub returns : goal.returns
returns c = inside_stops c.loop-after.here.now (option_map (λ (x : Bor (List ℕ)). x.now) c.loop-after.end) (inside false c.args.start.now) c.in_default.ensures.rest c.loop-after.invariant.rest
