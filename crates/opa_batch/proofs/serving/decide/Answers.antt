use Rattle.opa_io.proofs.Appended.{Appends-none}
use Rattle.opa_batch.specs.Serving.{Decides}
use Rattle.opa_batch.proofs.ServeLaws.{not_read, worked}
use Rattle.opa_batch.proofs.serving.decide.Goals as goal

pub returns-in-Ok-make-clause-decides : goal.returns-in-Ok-make-clause-decides
returns-in-Ok-make-clause-decides g c =
    worked c.args.base _ _ c.in-Ok.bytes.items c.in-Ok-make.made.text.items c.in-Ok-make.made.good c.tell.result c.in-Ok.ensures.ok (rw c.as_slice.ensures.value at c.in-Ok-make.ensures.gives) (rw c.deref.ensures.value at c.tell.ensures)

pub returns-in-Ok-clause-decides : goal.returns-in-Ok-clause-decides
returns-in-Ok-clause-decides g c = Decides.runs_out (c.in-Ok.bytes.items, c.in-Ok.ensures.ok.took, c.in-Ok.ensures.ok.within) (Appends-none _)

pub returns-clause-decides : goal.returns-clause-decides
returns-clause-decides g c = not_read c.args.base _ _ c.in-Err.stop c.stopped.result c.stopped.ensures c.in-Err.ensures.cause c.in-Err.ensures.err (Appends-none _)
