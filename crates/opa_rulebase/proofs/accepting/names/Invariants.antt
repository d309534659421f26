use Rattle.std.proofs.Common.{◌≡◌, ◌++◌, map, length}
use Rattle.opa_rulebase.specs.declared.files.source.SourceFile.{SourceFile}
use Rattle.opa_rulebase.proofs.accepting.names.Given as goal

abbrev pub invariant-loop-file : goal.invariant-loop-file
invariant-loop-file l = l.names ++ map (λ (f : SourceFile). f.name) l.rest ≡ map (λ (f : SourceFile). f.name) l.files

abbrev pub decreases-loop-file : goal.decreases-loop-file
decreases-loop-file l = length l.rest
