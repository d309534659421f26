use Rattle.std.proofs.Common.{◌+◌}
use Rattle.opa_words.specs.Layout.Blocks.{block_lines, lines_of}
use Rattle.opa_words.specs.Layout.Faults.{layout_faults}
use Rattle.opa_words.proofs.layout.LayLaws.{taken, lines_within, no_faults}
use Rattle.opa_words.proofs.layout.ShortLaws.{lines_short, lines_few}
use Rattle.opa_words.proofs.layout.laying.blocks.Goals as goal

pub returns-clause-short : goal.returns-clause-short
returns-clause-short c =
    lines_short (lines_of c.loop-line.laid.items) c.args.text.now (taken (lines_of c.loop-line.laid.items) (block_lines c.args.text.now) (c.loop-line.count + 1) c.loop-line.rest.now c.loop-line.invariant.lines c.in_default.ensures.rows) c.requires

pub returns-clause-few : goal.returns-clause-few
returns-clause-few c =
    lines_few (lines_of c.loop-line.laid.items) c.args.text.now (taken (lines_of c.loop-line.laid.items) (block_lines c.args.text.now) (c.loop-line.count + 1) c.loop-line.rest.now c.loop-line.invariant.lines c.in_default.ensures.rows) c.requires

pub returns-clause-within : goal.returns-clause-within
returns-clause-within c =
    lines_within (lines_of c.loop-line.laid.items) c.args.text.now (taken (lines_of c.loop-line.laid.items) (block_lines c.args.text.now) (c.loop-line.count + 1) c.loop-line.rest.now c.loop-line.invariant.lines c.in_default.ensures.rows)
    (no_faults c.loop-line.most (c.loop-line.count + 1) c.loop-line.rest.now (layout_faults c.args.text.now) c.loop-line.invariant.faults c.in_default.ensures.rows)
