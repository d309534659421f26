-- The last word of a line.
use Rattle.std.proofs.Common.{◌≡◌, ◌++◌, Some, List, [], ◌∷◌, refl}
use Rattle.opa_words.specs.declared.kinds.Token.{Token}
use Rattle.opa_rules.specs.declared.faults.slip.Slip.{Slip}
use Rattle.opa_rules.specs.Faults.Joints.{at_word, at_last}

pub last_word : (s : Slip) (ts : List Token) (t : Token) → at_last s (ts ++ t ∷ []) ≡ Some (s, at_word s t)
last_word s [] t = refl
last_word s (u ∷ []) t = refl
last_word s (u ∷ v ∷ ts) t = last_word s (v ∷ ts) t
