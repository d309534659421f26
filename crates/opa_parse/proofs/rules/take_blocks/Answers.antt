use Rattle.std.proofs.Common.{◌≡◌, [], subst, rules}
use Rattle.std.proofs.lemmas.List.Elements.{All-head, All-rest}
use Rattle.std.specs.Prelude.{All}
use Rattle.opa_words.specs.declared.layout.block.Block.{Block}
use Rattle.opa_parse.specs.Fronts.{AreShort}
use Rattle.opa_parse.proofs.RuleLaws.{run_begins, run_goes, run_ends}
use Rattle.opa_parse.proofs.rules.take_blocks.Goals as goal

pub loop-block-init : goal.loop-block-init
loop-block-init c = record { short = c.requires; run = λ start h. run_begins c.args.model.now c.args.names.now start c.args.blocks.now c.args.taken h }

pub take_block-requires : goal.take_block-requires
take_block-requires c =
    All-head (λ (b : Block). AreShort b.lines) c.in-Some.block.now c.in-Some.later.now (subst (All (λ (b : Block). AreShort b.lines)) c.in-Some.ensures c.loop-block.invariant.short)

pub loop-block-preserved : goal.loop-block-preserved
loop-block-preserved c = record {
  short = All-rest (λ (b : Block). AreShort b.lines) c.in-Some.block.now c.in-Some.later.now c.loop-block.rest.now c.in-Some.ensures c.loop-block.invariant.short;
  run = λ start h. run_goes c.args.model.now c.args.names.now start c.args.blocks.now c.loop-block.rest.now c.in-Some.later.now c.in-Some.block.now c.loop-block.next c.in_ok-next.next c.in-Some.ensures (c.loop-block.invariant.run start h) c.in_ok-next.ensures;
}

pub returns : goal.returns
returns c start h =
    let run = c.loop-block.invariant.run start h in
    let e : c.loop-block.rest.now ≡ [] = search rules in
    (run.found, run.taken, run_ends c.args.model.now c.args.names.now start c.args.blocks.now c.loop-block.rest.now c.loop-block.next e run)
