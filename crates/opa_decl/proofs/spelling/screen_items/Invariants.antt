use Rattle.std.proofs.Common.{◌≡◌, ◌++◌, List, length}
use Rattle.std.specs.List.{All}
use Rattle.std.specs.Option.{option_map}
use Rattle.opa_decl.specs.declared.items.Name.{Name}
use Rattle.opa_decl.specs.Cutting.{HasTokens}
use Rattle.opa_decl.specs.Steps.{each}
use Rattle.opa_decl.specs.Spelling.{screen_item}
use Rattle.opa_decl.proofs.spelling.screen_items.Given as goal

abbrev pub invariant-loop-line : goal.invariant-loop-line
invariant-loop-line l = record {
  same : option_map (λ (items : List Name). l.items ++ items) (each (screen_item l.file) l.rest) ≡ each (screen_item l.file) l.lines;
  tokens : All (λ line. HasTokens line.text line.tokens) l.rest;
}

abbrev pub decreases-loop-line : goal.decreases-loop-line
decreases-loop-line l = length l.rest
