-- What nodes make of a stack of meanings, whose last is the newest.
use Rattle.std.specs.Prelude.{◌≡◌, ℕ, ◌≤◌, ◌-◌, true, false, List, [], ◌∷◌, ◌++◌, length, take, drop}
use Rattle.opa_value.specs.declared.value.Value.{Value}
use Rattle.opa_value.specs.declared.value.Value.TheVariants.{Uncertain, Bool as Truth}
use Rattle.opa_value.specs.Truth.{all_of, any_of, not_of, strict}
use Rattle.opa_model.specs.declared.ids.RelId.{RelId}
use Rattle.opa_tree.specs.declared.kinds.Quant.{Quant}
use Rattle.opa_cells.specs.declared.instance.InstanceId.{InstanceId}
use Rattle.opa_mean.specs.Looks.{Look}
use Rattle.opa_mean.specs.Meaning.{Meaning, each, at_place, certain_of, known_of, choose, first_value, over, window, rolling}
use Rattle.opa_mean.specs.Operations.{op_of}
use Rattle.opa_mean.specs.Places.{place}
use Rattle.opa_code.specs.declared.node.Decider.{Decider}
use Rattle.opa_code.specs.declared.node.Decider.TheVariants.{AtFalse, AtTrue, Chosen}
use Rattle.opa_code.specs.declared.node.Node.{Node}
use Rattle.opa_code.specs.declared.node.Node.TheVariants as node
use Rattle.opa_io.specs.declared.limits.TheConstants.{MOST_DAYS}

-- the only meaning, uncertain where there isn't just one
abbrev pub sole : List Meaning → Meaning
sole (m ∷ []) = m
sole _ = λ enclosing d. Uncertain

-- of a condition, a value, and what stands behind them
abbrev pub chosen : List Meaning → Meaning
chosen (cond ∷ v ∷ rest ∷ []) = λ enclosing d. choose (cond enclosing d) (v enclosing d) (rest enclosing d)
chosen _ = λ enclosing d. Uncertain

-- how many operands a node takes
abbrev pub operand_count : Node → ℕ
operand_count (node.Const v) = 0
operand_count (node.Attr a owner) = 0
operand_count (node.All n) = n
operand_count (node.Any n) = n
operand_count node.Not = 1
operand_count (node.Op k n) = n
operand_count node.Certain = 1
operand_count node.Known = 1
operand_count (node.Over q r source target n) = 0
operand_count (node.Window k n) = n
operand_count (node.Rolling b n) = 1
operand_count node.Choose = 3
operand_count (node.Leave how dropped n) = 0
operand_count (node.Pass n) = 0

-- Nodes that are carried out by themselves. A node over the last days looks back over a hundred years at most.
abbrev pub IsStep : Node → Type 0
IsStep (node.Over q r source target n) = ⊥
IsStep (node.Leave how dropped n) = ⊥
IsStep (node.Pass n) = ⊥
IsStep (node.Rolling b n) = n ≤ MOST_DAYS
IsStep _ = Unit {0}

-- whether the newest value decides, or the first one before it
abbrev pub IsDecided : Decider → List Value → Value → Type 0
IsDecided AtFalse before newest = newest ≡ Truth false
IsDecided AtTrue before newest = newest ≡ Truth true
IsDecided Chosen before newest = first_value before ≡ Truth true

-- wherever it is decided, the newest result is what is made of all
abbrev pub Decides : Decider → List Meaning → Meaning → Meaning → Type 0
Decides how before newest whole = (enclosing : List InstanceId) (d : ℕ) → IsDecided how (each before enclosing d) (newest enclosing d) → whole enclosing d ≡ newest enclosing d

-- wherever the condition is false, the value is uncertain
abbrev pub IsMasked : Meaning → Meaning → Type 0
IsMasked test value = (enclosing : List InstanceId) (d : ℕ) → test enclosing d ≡ Truth false → value enclosing d ≡ Uncertain

module _ (l : Look) where
  -- what a node makes of its operands
  abbrev pub node_meaning : Node → List Meaning → Meaning
  node_meaning (node.Const v) ms = λ enclosing d. v
  node_meaning (node.Attr a owner) ms = λ enclosing d. at_place (place l.container enclosing owner) (λ i. l.value a i d)
  node_meaning (node.All n) ms = λ enclosing d. all_of (each ms enclosing d)
  node_meaning (node.Any n) ms = λ enclosing d. any_of (each ms enclosing d)
  node_meaning node.Not ms = λ enclosing d. not_of (sole ms enclosing d)
  node_meaning (node.Op k n) ms = λ enclosing d. strict (op_of k) (each ms enclosing d)
  node_meaning node.Certain ms = λ enclosing d. certain_of (sole ms enclosing d)
  node_meaning node.Known ms = λ enclosing d. known_of (sole ms enclosing d)
  node_meaning (node.Window k n) ms = window k ms
  node_meaning (node.Rolling b n) ms = λ enclosing d. rolling b n (sole ms enclosing) d
  node_meaning node.Choose ms = chosen ms
  node_meaning _ ms = λ enclosing d. Uncertain

  -- what a quantifier makes of its operands
  abbrev pub over_meaning : Quant → RelId → ℕ → ℕ → List Meaning → Meaning
  over_meaning q r source target ms = λ enclosing d. at_place (place l.container enclosing source) (λ i. over q target (l.members r i) ms enclosing d)

  -- the node's operands are taken from the end, and what it makes of them is put there
  abbrev pub put : Node → List Meaning → List Meaning
  put n st = take (length st - operand_count n) st ++ node_meaning n (drop (length st - operand_count n) st) ∷ []

  -- The nodes lead from a stack to another: each puts what it makes of its operands. The nodes of a quantifier's operand
  -- begin with no stack. Where nodes may be passed over, both ways lead to the same end.
  pub data Run : List Node → List Meaning → List Meaning → Type 0 where
    finished : (ns : List Node) (st : List Meaning) → ns ≡ [] → Run ns st st
    stepped : (ns : List Node) (n : Node) (rest : List Node) (st end : List Meaning) → ns ≡ n ∷ rest → IsStep n → Run rest (put n st) end → Run ns st end
    quantified : (ns : List Node) (q : Quant) (r : RelId) (source target count : ℕ) (rest : List Node) (st ms end : List Meaning) → ns ≡ node.Over q r source target count ∷ rest
        → Run (take count rest) [] ms → Run (drop count rest) (st ++ over_meaning q r source target ms ∷ []) end → Run ns st end
    left : (ns : List Node) (how : Decider) (dropped count : ℕ) (rest : List Node) (below before : List Meaning) (newest whole : Meaning) (st end : List Meaning) → ns ≡ node.Leave how dropped count ∷ rest
        → st ≡ (below ++ before) ++ newest ∷ [] → length before ≡ dropped → Decides how before newest whole → Run rest st end → Run (drop count rest) (below ++ whole ∷ []) end → Run ns st end
    passed : (ns : List Node) (count : ℕ) (rest : List Node) (below : List Meaning) (test value : Meaning) (st end : List Meaning) → ns ≡ node.Pass count ∷ rest
        → st ≡ below ++ test ∷ [] → IsMasked test value → Run rest st end → Run (drop count rest) (st ++ value ∷ []) end → Run ns st end
