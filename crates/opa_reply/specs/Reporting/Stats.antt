-- What is counted of a case.
use Rattle.std.specs.Prelude.{ℕ, List, [], ◌∷◌, ◌++◌, codes, length}
use Rattle.std.specs.Fmt.{decimal}
use Rattle.std.specs.FinMap.{len}
use Rattle.opa_case.specs.Cases.{CaseView}
use Rattle.opa_tree.specs.declared.rulebase.Rulebase.{Rulebase}
use Rattle.opa_mean.specs.Changes.{slots}
use Rattle.opa_mean.specs.Given.{base_of, facts_of}

-- `instances I answers A lists L conclusions K dirty D`
abbrev pub counted : ℕ → ℕ → ℕ → ℕ → ℕ → List ℕ
counted instances answers lists conclusions dirty =
    codes "instances " ++ (decimal instances ++ (codes " answers " ++ (decimal answers ++ (codes " lists " ++ (decimal lists ++ (codes " conclusions " ++ (decimal conclusions ++ (codes " dirty " ++ (decimal dirty ++ 10 ∷ [])))))))))

-- the live instances without the global one, the answers, the known lists of relations that aren't declared with `every`, the
-- live slots, and how many the last change reached
abbrev pub stats_told : Rulebase → CaseView → ℕ → List ℕ
stats_told r c dirty = counted (length c.live) (len c.answers) (len c.lists) (length (slots (base_of r) (facts_of c))) dirty
