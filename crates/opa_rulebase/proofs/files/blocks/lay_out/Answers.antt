use Rattle.std.proofs.Common.{◌<◌, ◌^◌, All, length, arith, ap, subst}
use Rattle.std.proofs.lemmas.List.Elements.{All-tail}
use Rattle.opa_words.proofs.layout.ShortLaws.{short_blocks}
use Rattle.opa_rulebase.specs.declared.files.source.SourceFile.{SourceFile}
use Rattle.opa_rulebase.specs.Files.Layouts.{faults_from}
use Rattle.opa_rulebase.proofs.files.LayoutLaws.{laid_more, laid_end, faults_more, placed_more, short_more}
use Rattle.opa_rulebase.proofs.files.blocks.lay_out.Goals as goal

pub loop-file-preserved : goal.loop-file-preserved
loop-file-preserved c =
    let old = c.loop-file.all in
    let more = c.in_ok-laid.laid.items in
    let n = c.loop-file.place in
    record {
      texts = All-tail (λ (f : SourceFile). length f.text < 2 ^ 32) c.in-Some.file.now c.in-Some.later.now (subst (All (λ (f : SourceFile). length f.text < 2 ^ 32)) c.in-Some.ensures c.loop-file.invariant.texts);
      places = omega (arith, ap length c.in-Some.ensures, c.loop-file.invariant.places);
      laid = laid_more c.args.files.now old more c.join.new.blocks n c.in-Some.file.now c.in-Some.later.now c.loop-file.rest.now c.in-Some.ensures c.in_ok-join.ensures c.in_ok-laid.ensures.laid c.loop-file.invariant.laid;
      faults = faults_more (faults_from 0 c.args.files.now) n c.in-Some.file.now c.in-Some.later.now c.loop-file.rest.now c.in-Some.ensures c.in_ok-laid.ensures.sound c.loop-file.invariant.faults;
      placed = placed_more n old more c.join.new.blocks c.in_ok-join.ensures c.loop-file.invariant.placed c.in_ok-laid.ensures.placed;
      short = short_more old more c.join.new.blocks c.in_ok-join.ensures c.loop-file.invariant.short c.in_ok-laid.ensures.short;
    }

pub returns-clause-laid : goal.returns-clause-laid
returns-clause-laid c = laid_end c.args.files.now c.loop-file.all c.loop-file.place c.loop-file.rest.now c.in_default.ensures c.loop-file.invariant.laid

pub returns-clause-short_blocks : goal.returns-clause-short_blocks
returns-clause-short_blocks c = short_blocks c.loop-file.all c.loop-file.invariant.short
