-- Groups of lines in their own words. The lines at the front are spelled, and the rest follows.
use Rattle.std.specs.Prelude.{◌≡◌, ℕ, ◌+◌, Bool, true, false, nat_lt, List, [], ◌∷◌, Option, Some, None}
use Rattle.opa_sentence.specs.declared.names.Names.{Names}
use Rattle.opa_sentence.specs.declared.reading.Reading.{Reading}
use Rattle.opa_parse.specs.declared.line.Ending.{Ending}
use Rattle.opa_parse.specs.declared.line.Ending.TheVariants as ending
use Rattle.opa_parse.specs.declared.line.Head.{Head}
use Rattle.opa_parse.specs.declared.line.Line.{Line}
use Rattle.opa_parse.specs.declared.group.Cases.{Cases}
use Rattle.opa_parse.specs.declared.group.Group.{Group}
use Rattle.opa_parse.specs.declared.group.Joint.{Joint}
use Rattle.opa_parse.specs.declared.group.Joint.TheVariants as joint
use Rattle.opa_parse.specs.declared.group.Said.{Said}
use Rattle.opa_parse.specs.declared.group.Several.{Several}
use Rattle.opa_parse.specs.Sayings.{of_line, headed, takes, one_item, with_item, single, several, no_cases, with_case, tabled}

-- the next line is deeper than this level
abbrev pub is_deeper : ℕ → List Line → Bool
is_deeper k [] = false
is_deeper k (l ∷ ls) = nat_lt k l.level

-- what follows stands above this level
abbrev pub is_above : ℕ → List Line → Bool
is_above k [] = true
is_above k (l ∷ ls) = nat_lt l.level k

-- how a connector ends a line, or none
abbrev pub written : Option Joint → Ending
written None = ending.Nothing
written (Some joint.And) = ending.And
written (Some joint.Or) = ending.Or

module _ (ns : Names) where
  mutual
    -- An item at a level, with the connector that it carries: a line without deeper lines; the last one, a head with its group;
    -- a head with its group, and then a line at its level that is the connector alone.
    pub data Item : ℕ → Option Joint → List Line → Said → List Line → Type 0 where
      line : {k : ℕ} {j : Option Joint} {l : Line} {ls : List Line} {x : Reading} → l.level ≡ k → is_deeper k ls ≡ false → l.ending ≡ written j → l.says ≡ Some x → Item k j (l ∷ ls) (of_line l.number x) ls
      last : {k : ℕ} {l : Line} {ls : List Line} {h : Head} {g : Group} {rest : List Line} → l.level ≡ k → l.ending ≡ ending.Nothing → l.head ≡ Some h → Grouped (k + 1) ls g rest → takes h g.joint ≡ true → is_above k rest ≡ true
          → Item k None (l ∷ ls) (headed ns l.number h g.said) rest
      with_connector : {k : ℕ} {j : Joint} {l c : Line} {ls : List Line} {h : Head} {g : Group} {rest : List Line} → l.level ≡ k → l.ending ≡ ending.Nothing → l.head ≡ Some h → Grouped (k + 1) ls g (c ∷ rest) → takes h g.joint ≡ true
          → c.level ≡ k → c.is_bare ≡ true → c.ending ≡ written (Some j) → Item k (Some j) (l ∷ ls) (headed ns l.number h g.said) rest

    -- A group at a level: one item, or several, each but the last with the same connector.
    pub data Grouped : ℕ → List Line → Group → List Line → Type 0 where
      one : {k : ℕ} {ls : List Line} {x : Said} {rest : List Line} → Item k None ls x rest → Grouped k ls (single x) rest
      many : {k : ℕ} {ls : List Line} {x : Said} {y : Several} {mid rest : List Line} (j : Joint) → Item k (Some j) ls x mid → More k j mid (one_item x) y rest → Grouped k ls (several j y) rest

    -- One or more items go on from some to others.
    pub data More : ℕ → Joint → List Line → Several → Several → List Line → Type 0 where
      end : {k : ℕ} {j : Joint} {ls : List Line} {y : Several} {x : Said} {rest : List Line} → Item k None ls x rest → More k j ls y (with_item y x) rest
      more : {k : ℕ} {j : Joint} {ls : List Line} {y z : Several} {x : Said} {mid rest : List Line} → Item k (Some j) ls x mid → More k j mid (with_item y x) z rest → More k j ls y z rest

  -- A case: a line that ends with `if` and says its value, over the group that it asks for.
  pub data Case : List Line → Cases → Cases → List Line → Type 0 where
    case : {l : Line} {ls : List Line} {x : Reading} {g : Group} {cs : Cases} {rest : List Line} → l.level ≡ 1 → l.ending ≡ ending.If → l.says ≡ Some x → Grouped 2 ls g rest → Case (l ∷ ls) cs (with_case cs (of_line l.number x) g.said) rest

  -- Cases after others, and last a line that ends with `otherwise`.
  pub data MoreCases : List Line → Cases → Said → List Line → Type 0 where
    otherwise : {l : Line} {ls : List Line} {x : Reading} {cs : Cases} → l.level ≡ 1 → l.ending ≡ ending.Otherwise → l.says ≡ Some x → MoreCases (l ∷ ls) cs (tabled cs (of_line l.number x)) ls
    more_cases : {ls mid rest : List Line} {cs ds : Cases} {s : Said} → Case ls cs ds mid → MoreCases mid ds s rest → MoreCases ls cs s rest

  -- One or more cases, and last what stands where none is met.
  pub data AllCases : List Line → Said → List Line → Type 0 where
    first_case : {ls mid rest : List Line} {cs : Cases} {s : Said} → Case ls no_cases cs mid → MoreCases mid cs s rest → AllCases ls s rest
