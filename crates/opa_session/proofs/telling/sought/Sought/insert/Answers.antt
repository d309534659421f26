use Rattle.opa_session.specs.Telling.Wanted.{has_wanted}
use Rattle.opa_session.proofs.telling.Marking.{one_more}
use Rattle.opa_session.proofs.telling.Placing.{listed_more}
use Rattle.opa_session.proofs.telling.sought.Sought.insert.Goals as goal

pub invariant_of-self : goal.invariant_of-self
invariant_of-self c = let x = c.args.self.now in record { marked = λ i h. c.set_mark.ensures.kept i.name (x.marked i h); listed = λ i h. c.add_listed.ensures.kept i (x.listed i h) }

pub invariant_of-self-2 : goal.invariant_of-self-2
invariant_of-self-2 c = let x = c.args.self.now in record {
  marked = one_more (has_wanted x.wanted) (has_wanted c.add_wanted.new.wanted) x.marks c.set_mark.new.marks c.args.inst.now x.marked c.set_mark.ensures.kept c.set_mark.ensures.set c.add_wanted.ensures.less;
  listed = listed_more (has_wanted x.wanted) (has_wanted c.add_wanted.new.wanted) x.all c.add_listed.new.all c.args.inst.now x.listed c.add_listed.ensures.kept c.in_ok-add_listed.ensures.there c.add_wanted.ensures.less;
}
