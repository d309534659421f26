use Rattle.std.proofs.Common.{◌≡◌, take}
use Rattle.opa_decl.specs.Names.{texts}
use Rattle.opa_decl.proofs.places.texts_of.Given as goal

abbrev pub invariant-loop-name : goal.invariant-loop-name
invariant-loop-name l = l.texts ≡ texts (take l.name-index l.names)
