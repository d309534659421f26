use Rattle.std.proofs.Common.{rules, ◌+◌, ◌<◌, length, arith, ap, subst, MatchOption}
use Rattle.opa_words.specs.Layout.Lines.{rows, rows_from}
use Rattle.opa_rulebase.specs.Files.FileLines.{NamesNone, NamesFile}
use Rattle.opa_rulebase.proofs.files.FileLineLaws.{lines_more, lines_end}
use Rattle.opa_rulebase.proofs.files.lines.file_lines.Goals as goal

pub loop-line-preserved : goal.loop-line-preserved
loop-line-preserved c =
    let n = c.loop-line.count + 1 in
    let less : length c.in-Some.later.now < length c.loop-line.rest.now = c.in-Some.ensures.shorter.1 in
    record {
      utf8 = search rules;
      lines = lines_more (rows c.args.text.now) c.loop-line.found c.in_ok-found.found c.in_ok-named.field-0 _ (rows_from (n + 1) c.in-Some.later.now) (rows_from n c.loop-line.rest.now) (c.in-Some.ensures.rows n) c.loop-line.invariant.lines
          (subst (λ t. MatchOption c.in_ok-named.field-0 (NamesNone n t) (NamesFile n t)) c.text_of.ensures.text c.in_ok-named.ensures) c.in_ok-found.ensures;
      bound = omega (arith, less, c.loop-line.invariant.bound);
    }

pub returns : goal.returns
returns c = lines_end (rows c.args.text.now) (rows_from (c.loop-line.count + 1) c.loop-line.rest.now) c.loop-line.found (ap (rows_from (c.loop-line.count + 1)) c.in_default.ensures.rows) c.loop-line.invariant.lines
