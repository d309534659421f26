use Rattle.std.proofs.Common.{◌≡◌, ◌++◌, length}
use Rattle.std.specs.Prelude.{flat_map}
use Rattle.opa_decl.specs.Names.{forms}
use Rattle.opa_decl.proofs.wording.forms.Given as goal

abbrev pub invariant-loop-item : goal.invariant-loop-item
invariant-loop-item l = l.names ++ flat_map (forms l.verb_names l.verbs) l.rest ≡ flat_map (forms l.verb_names l.verbs) l.items

abbrev pub decreases-loop-item : goal.decreases-loop-item
decreases-loop-item l = length l.rest
