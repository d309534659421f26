-- A case of which nothing is known fits.
use Rattle.std.proofs.Common.{◌≡◌, List, [], Bool, sym, subst}
use Rattle.opa_model.specs.declared.lists.Lists.{Lists}
use Rattle.opa_model.specs.Models.{IsModel}
use Rattle.opa_case.specs.Cases.{CaseView, no_case}
use Rattle.opa_case.specs.Shapes.{shape_of}
use Rattle.opa_case.specs.Fits.{Fits}
use Rattle.opa_case.proofs.Empty.{empty_fits}
use Rattle.opa_saved.specs.Told.{FitsModel}

pub empty_case : (m : Lists) (ruled : List Bool) (c : CaseView) → IsModel m → c ≡ no_case → Fits (shape_of m) ruled c
empty_case m ruled c is e = subst (Fits (shape_of m) ruled) (sym e) (empty_fits m ruled is)

pub nothing_fits : (m : Lists) (c : CaseView) → IsModel m → c ≡ no_case → FitsModel m c
nothing_fits m c is e = ([], empty_case m [] c is e)
