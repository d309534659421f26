use Rattle.std.proofs.Common.{◌≡◌, ◌++◌, List, length}
use Rattle.std.specs.List.{All}
use Rattle.std.specs.Option.{option_map}
use Rattle.opa_decl.specs.declared.items.Item.{Item}
use Rattle.opa_decl.specs.Cutting.{HasTokens}
use Rattle.opa_decl.specs.Steps.{each}
use Rattle.opa_decl.specs.Spelling.{member_in}
use Rattle.opa_decl.proofs.spelling.members_in.Given as goal

abbrev pub invariant-loop-line : goal.invariant-loop-line
invariant-loop-line l = record {
  same : option_map (λ (items : List Item). l.items ++ items) (each (member_in l.file l.of_global) l.rest) ≡ option_map (λ (items : List Item). l.fn.before ++ items) (each (member_in l.file l.of_global) l.lines);
  tokens : All (λ line. HasTokens line.text line.tokens) l.rest;
}

abbrev pub decreases-loop-line : goal.decreases-loop-line
decreases-loop-line l = length l.rest
