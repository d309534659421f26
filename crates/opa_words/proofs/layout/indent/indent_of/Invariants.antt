use Rattle.std.proofs.Common.{◌≡◌, ◌+◌, ◌≤◌, length, false}
use Rattle.std.specs.Prelude.{◌||◌}
use denote.Text.{Utf8}
use denote.Shadow.{shadow}
use Rattle.opa_words.specs.Layout.Indents.{levels, is_odd, past_blanks}
use Rattle.opa_words.proofs.layout.indent.indent_of.Given as goal

abbrev pub invariant-loop-tab : goal.invariant-loop-tab
invariant-loop-tab l = record {
  utf8 : shadow (Utf8 l.rest);
  level : l.level + levels l.half l.rest ≡ levels false l.line;
  odd : (l.odd || is_odd l.half l.rest) ≡ is_odd false l.line;
  text : past_blanks l.rest ≡ past_blanks l.line;
  bound : l.level + length l.rest ≤ length l.line;
}

abbrev pub decreases-loop-tab : goal.decreases-loop-tab
decreases-loop-tab l = length l.rest
