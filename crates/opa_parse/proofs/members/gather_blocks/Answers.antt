use Rattle.std.proofs.Common.{◌≡◌, [], subst, rules}
use Rattle.std.proofs.lemmas.List.Elements.{All-head, All-rest}
use Rattle.std.specs.Prelude.{All}
use Rattle.opa_words.specs.declared.layout.block.Block.{Block}
use Rattle.opa_parse.specs.Fronts.{AreShort}
use Rattle.opa_parse.proofs.MemberLaws.{run_begins, run_goes, run_ends}
use Rattle.opa_parse.proofs.members.gather_blocks.Goals as goal

pub loop-block-init : goal.loop-block-init
loop-block-init c = record { short = c.requires; run = λ declared h. run_begins c.args.model.now c.args.names.now declared c.args.blocks.now c.args.gathered h }

pub gather_block-requires : goal.gather_block-requires
gather_block-requires c =
    All-head (λ (b : Block). AreShort b.lines) c.in-Some.block.now c.in-Some.later.now (subst (All (λ (b : Block). AreShort b.lines)) c.in-Some.ensures c.loop-block.invariant.short)

pub loop-block-preserved : goal.loop-block-preserved
loop-block-preserved c = record {
  short = All-rest (λ (b : Block). AreShort b.lines) c.in-Some.block.now c.in-Some.later.now c.loop-block.rest.now c.in-Some.ensures c.loop-block.invariant.short;
  run = λ declared h. run_goes c.args.model.now c.args.names.now declared c.args.blocks.now c.loop-block.rest.now c.in-Some.later.now c.in-Some.block.now c.loop-block.next c.in_ok-next.next c.in-Some.ensures (c.loop-block.invariant.run declared h) c.in_ok-next.ensures;
}

pub returns : goal.returns
returns c declared h =
    let run = c.loop-block.invariant.run declared h in
    let e : c.loop-block.rest.now ≡ [] = search rules in
    (run.found, run.gathered, run_ends c.args.model.now c.args.names.now declared c.args.blocks.now c.loop-block.rest.now c.loop-block.next e run)
