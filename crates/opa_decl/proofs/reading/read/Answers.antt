use Rattle.opa_decl.specs.Cutting.{HaveTokens}
use Rattle.opa_decl.specs.Declarations.{items_in, syntax_faults}
use Rattle.opa_decl.proofs.FoldLaws.{first_step, items_step, all_here, all_later}
use Rattle.opa_decl.proofs.reading.read.Goals as goal

pub read_block-requires : goal.read_block-requires
read_block-requires c = all_here HaveTokens c.in-Some.block.now c.loop-block.rest.now c.in-Some.later.now c.in-Some.ensures c.loop-block.invariant.tokens

pub loop-block-preserved : goal.loop-block-preserved
loop-block-preserved c = record {
  items = items_step items_in c.loop-block.items c.read_block.new.items c.in-Some.block.now c.loop-block.rest.now c.in-Some.later.now _ c.loop-block.invariant.items c.in-Some.ensures c.in_ok-read_block.ensures.items;
  fault = first_step syntax_faults c.loop-block.fault c.in_ok-read_block.field-0 c.first_of-fault.result c.in-Some.block.now c.loop-block.rest.now c.in-Some.later.now _ c.loop-block.invariant.fault c.in-Some.ensures c.in_ok-read_block.ensures.fault c.first_of-fault.ensures;
  tokens = all_later HaveTokens c.in-Some.block.now c.loop-block.rest.now c.in-Some.later.now c.in-Some.ensures c.loop-block.invariant.tokens;
}
