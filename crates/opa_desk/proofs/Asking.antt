-- The name that words ask for.
use Rattle.std.proofs.Common.{◌≡◌, ℕ, List, ap}
use Rattle.std.specs.Prelude.{Option, Some}
use Rattle.opa_desk.specs.declared.reading.Mode.{Mode}

pub same_name : (x y : Mode × List ℕ) → Some x ≡ Some y → x.1 ≡ y.1
same_name x y e = ap (λ (p : Mode × List ℕ). p.1) (let q : x ≡ y = cc e in q)
