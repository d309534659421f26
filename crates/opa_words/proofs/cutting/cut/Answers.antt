use Rattle.std.proofs.Common.{◌+◌, ap, sym, ◌∙◌, subst}
use Rattle.std.specs.Str.{chars}
use Rattle.opa_words.specs.Characters.{width}
use Rattle.opa_words.specs.Scan.{token}
use Rattle.opa_words.proofs.CutLaws.{Keeps, keeps_blank, keeps_cut, ends, fault}
use Rattle.opa_words.proofs.cutting.cut.Goals as goal

pub loop-c-preserved-then-is_blank : goal.loop-c-preserved-then-is_blank
loop-c-preserved-then-is_blank c =
    let total = c.args.start.at + width (chars c.args.start.rest.now) in
    record {
      keeps = keeps_blank total (chars c.args.start.rest.now) c.loop-c.tokens.items c.in-Some.c (chars c.in-Some.after.rest.now) (sym c.is_blank.ensures ∙ c.if-is_blank.true)
          (subst (Keeps total (chars c.args.start.rest.now) c.loop-c.tokens.items) c.in-Some.ensures.rest c.loop-c.invariant.keeps);
      place = c.in-Some.ensures.place ∙ c.loop-c.invariant.place;
    }

pub returns-in-None-clause-fault : goal.returns-in-None-clause-fault
returns-in-None-clause-fault c =
    let total = c.args.start.at + width (chars c.args.start.rest.now) in
    fault total (chars c.args.start.rest.now) c.loop-c.tokens.items c.in-Some.c (chars c.in-Some.after.rest.now) c.loop-c.here.at (sym c.is_blank.ensures ∙ c.if-is_blank.false)
    (ap token (sym c.in-Some.ensures.rest) ∙ sym c.in-None.ensures.rest)
    (ap (λ cs. c.loop-c.here.at + width cs) (sym c.in-Some.ensures.rest) ∙ c.loop-c.invariant.place)
    (subst (Keeps total (chars c.args.start.rest.now) c.loop-c.tokens.items) c.in-Some.ensures.rest c.loop-c.invariant.keeps)

pub loop-c-preserved : goal.loop-c-preserved
loop-c-preserved c =
    let total = c.args.start.at + width (chars c.args.start.rest.now) in
    let to = c.in-Some-token.ensures.place ∙ c.loop-c.invariant.place in
    record {
      keeps = subst (λ ts. Keeps total (chars c.args.start.rest.now) ts (chars c.in-Some-token.next.rest.now)) (sym c.in_ok-add-in-Some-token.ensures.ok)
          (keeps_cut total (chars c.args.start.rest.now) c.loop-c.tokens.items c.in-Some.c (chars c.in-Some.after.rest.now) c.in-Some-token.kind (chars c.in-Some-token.next.rest.now) c.loop-c.here.at c.in-Some-token.next.at
          (sym c.is_blank.ensures ∙ c.if-is_blank.false)
          (ap token (sym c.in-Some.ensures.rest) ∙ sym c.in-Some-token.ensures.rest)
          (ap (λ cs. c.loop-c.here.at + width cs) (sym c.in-Some.ensures.rest) ∙ c.loop-c.invariant.place)
          to
          (subst (Keeps total (chars c.args.start.rest.now) c.loop-c.tokens.items) c.in-Some.ensures.rest c.loop-c.invariant.keeps));
      place = to;
    }

pub returns-clause-cut : goal.returns-clause-cut
returns-clause-cut c =
    let total = c.args.start.at + width (chars c.args.start.rest.now) in
    ends total (chars c.args.start.rest.now) c.loop-c.tokens.items (subst (Keeps total (chars c.args.start.rest.now) c.loop-c.tokens.items) c.in_default.ensures.rest c.loop-c.invariant.keeps)
