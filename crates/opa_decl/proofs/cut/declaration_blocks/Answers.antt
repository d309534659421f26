use Rattle.std.proofs.Common.{◌∙◌, sym}
use Rattle.std.proofs.lemmas.List.Elements.{All-push, All-same}
use Rattle.opa_decl.specs.Cutting.{HaveTokens}
use Rattle.opa_decl.proofs.CutBlockLaws.{one_cut_more, none_cut_more, short_here, short_later}
use Rattle.opa_decl.proofs.cut.declaration_blocks.Goals as goal

pub cut_block-requires : goal.cut_block-requires
cut_block-requires c = short_here c.in-Some.block.now c.loop-block.rest.now c.in-Some.later.now c.in-Some.ensures c.loop-block.invariant.short

pub loop-block-preserved-in_ok-push : goal.loop-block-preserved-in_ok-push
loop-block-preserved-in_ok-push c = record {
  same = one_cut_more c.loop-block.cuts c.push.new.self c.in_ok-cut_block.field-0 c.in-Some.block.now c.loop-block.rest.now c.in-Some.later.now _ c.loop-block.invariant.same c.in-Some.ensures
      (sym c.is_declaration.ensures ∙ c.if-is_declaration.true) c.in_ok-cut_block.ensures.same c.in_ok-push.ensures.ok;
  tokens = All-same HaveTokens _ _ c.in_ok-push.ensures.ok (All-push HaveTokens c.loop-block.cuts c.in_ok-cut_block.field-0 c.loop-block.invariant.tokens c.in_ok-cut_block.ensures.tokens);
  short = short_later c.in-Some.block.now c.loop-block.rest.now c.in-Some.later.now c.in-Some.ensures c.loop-block.invariant.short;
}

pub loop-block-preserved : goal.loop-block-preserved
loop-block-preserved c = record {
  same = none_cut_more c.loop-block.cuts c.in-Some.block.now c.loop-block.rest.now c.in-Some.later.now _ c.loop-block.invariant.same c.in-Some.ensures (sym c.is_declaration.ensures ∙ c.if-is_declaration.false);
  tokens = c.loop-block.invariant.tokens;
  short = short_later c.in-Some.block.now c.loop-block.rest.now c.in-Some.later.now c.in-Some.ensures c.loop-block.invariant.short;
}
