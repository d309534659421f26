use Rattle.opa_top.proofs.meaning.shown_is_meant.Goals as goal

pub returns : goal.returns
returns c = record {
  opened = c.opened_is_printable.ensures.model;
  held = c.held_is_printable.ensures.run;
  held_asked = c.held_is_printable.ensures.interview;
  determined = c.determination.ensures;
  shown = c.line_is_one.ensures;
  states = c.states_are_exact.ensures;
  settled = c.settled_stays.ensures;
  supported = c.supported.ensures;
  verified = c.reports_are_verified.ensures.run;
  verified_asked = c.reports_are_verified.ensures.interview;
  asked = c.asked.ensures;
  relevant = c.relevant.ensures;
  finished = c.finished.ensures;
}
