use Rattle.std.proofs.Common.{◌≡◌, ℕ, List, ap, sym, subst, ◌∙◌}
use Rattle.std.specs.Option.{option_map}
use Rattle.opa_talk.specs.WholeInput.Outside.{Outside, outside}
use Rattle.opa_batch.specs.Counting.{Counts}
use Rattle.opa_desk.specs.declared.reading.Mode.TheVariants as mode
use Rattle.opa_desk.proofs.Asking.{same_name}
use Rattle.opa_desk.proofs.doing.do_words.Goals as goal

pub returns-in-Batch-clause-counts : goal.returns-in-Batch-clause-counts
returns-in-Batch-clause-counts g c name asks =
    let F = g.F.Shelf in let S = g.S.Source in let K = g.K.Sink in
    let old : Outside = outside F.files F.take_faults F.keep_faults S.left S.faults K.written K.faults c.args.shelf.now c.args.input.now c.args.out.now in
    let new : Outside = outside F.files F.take_faults F.keep_faults S.left S.faults K.written K.faults c.batch.new.shelf c.batch.new.input c.batch.new.out in
    let same : c.in-Some.asked.name.now ≡ name = same_name (c.in-Some.asked.mode, c.in-Some.asked.name.now) (mode.Batch, name) (ap (option_map _) (sym c.in-Some.is) ∙ c.read_words.ensures ∙ asks) in
    subst (λ (n : List ℕ). Counts n old new c.args.steps.now c.batch.new.steps) same c.batch.ensures.counts
