-- Rules are taken one after another.
use Rattle.std.proofs.Common.{◌≡◌, ℕ, ◌+◌, min, List, [], ◌∷◌, ◌++◌, length, map, Bool, true, false, not, ◌&&◌, ◌==◌, nat_le, nat_lt, if◌then◌else◌, Option, Some, None, refl, sym, ap, ap₂, subst, ◌∙◌, append_assoc, length-append, arith}
use Rattle.std.specs.Prelude.{is_none, is_some}
use Rattle.std.proofs.lemmas.List.{append-nil}
use Rattle.opa_model.specs.declared.lists.Lists.{Lists}
use Rattle.opa_words.specs.declared.layout.block.Block.{Block}
use Rattle.opa_tree.specs.declared.faults.RbFault.{RbFault}
use Rattle.opa_tree.specs.declared.faults.RbKind.TheVariants as kind
use Rattle.opa_tree.specs.declared.rules.Inferred.{Inferred}
use Rattle.opa_tree.specs.declared.rules.Rule.{Rule}
use Rattle.opa_tree.specs.FirstFaults.{first_of, first_fault, is_before}
use Rattle.opa_tree.proofs.FirstFaultLaws.{first_fault-append}
use Rattle.opa_io.specs.declared.limits.TheConstants.{MOST_NODES}
use Rattle.opa_sentence.specs.declared.names.Names.{Names}
use Rattle.opa_parse.specs.declared.block.BlockSort.TheVariants as block_sort
use Rattle.opa_parse.specs.declared.block.RuleBlock.{RuleBlock}
use Rattle.opa_parse.specs.declared.block.Statement.{Statement}
use Rattle.opa_io.specs.declared.limits.TheConstants.{MOST_RULES}
use Rattle.opa_parse.specs.declared.rules.Taken.{Taken}
use Rattle.opa_parse.specs.Naming.{names_in, member_of}
use Rattle.opa_parse.specs.RuleFaults.{fault_at, when, marked, passes, statement_faults, spelled_faults, block_faults, statement_nodes, faults_from}
use Rattle.opa_parse.specs.Rules as r
use Rattle.opa_parse.specs.Rules.{IsRuleBlock, IsPassed, AreRuleBlocks, rule_in, rules_in, inferred_nodes, rule_faults, AreRules, AreRefused}
use Rattle.opa_parse.specs.Runs.{nodes_in, IsTaken, Takes, Goes, IsRun, TakesAll}
use Rattle.opa_sentence.specs.declared.names.Member.{Member}
use Rattle.opa_sentence.specs.Measures.{nodes, total}

-- ---- one more rule

faults_append : (c n : ℕ) (bs : List RuleBlock) (b : RuleBlock) → faults_from c n (bs ++ b ∷ []) ≡ faults_from c n bs ++ block_faults (c + length bs) (n + nodes_in bs) b
faults_append c n [] b =
    append-nil (block_faults c n b) ∙ ap (λ x. block_faults x n b) (let e : c ≡ c + 0 = omega arith in e) ∙ ap (λ x. block_faults (c + 0) x b) (let e : n ≡ n + 0 = omega arith in e)
faults_append c n (x ∷ bs) b =
    let k = statement_nodes x.statement in
    ap (λ ys. block_faults c n x ++ ys) (faults_append (c + 1) (n + k) bs b)
    ∙ sym (append_assoc (block_faults c n x) (faults_from (c + 1) (n + k) bs) (block_faults ((c + 1) + length bs) ((n + k) + nodes_in bs) b))
    ∙ ap (λ y. (block_faults c n x ++ faults_from (c + 1) (n + k) bs) ++ block_faults y ((n + k) + nodes_in bs) b) (let e : (c + 1) + length bs ≡ c + length (x ∷ bs) = omega arith in e)
    ∙ ap (λ y. (block_faults c n x ++ faults_from (c + 1) (n + k) bs) ++ block_faults (c + length (x ∷ bs)) y b) (let e : (n + k) + nodes_in bs ≡ n + (k + nodes_in bs) = omega arith in e)

rules_append : (bs : List RuleBlock) (b : RuleBlock) → rules_in (bs ++ b ∷ []) ≡ rules_in bs ++ rule_in b
rules_append [] b = append-nil (rule_in b)
rules_append (x ∷ bs) b = ap (λ ys. rule_in x ++ ys) (rules_append bs b) ∙ sym (append_assoc (rule_in x) (rules_in bs) (rule_in b))

nodes_append : (bs : List RuleBlock) (b : RuleBlock) → nodes_in (bs ++ b ∷ []) ≡ nodes_in bs + statement_nodes b.statement
nodes_append [] b = omega arith
nodes_append (x ∷ bs) b = omega (arith, nodes_append bs b)

-- ---- numbers that are told as one more than the most

count_same : (c k : ℕ) → (min c (k + 1) == k) ≡ (c == k)
count_same c k = grind arith

passes_at : (most n k : ℕ) (b : Bool) → nat_le n most ≡ b → passes most (min n (most + 1)) k ≡ passes most n k
passes_at most n k true h = ap (λ x. passes most x k) (let e : min n (most + 1) ≡ n = grind (arith, h) in e)
passes_at most n k false h =
    let e : nat_le (min n (most + 1)) most ≡ false = grind (arith, h) in
    ap (λ t. t && nat_lt most (min n (most + 1) + k)) e ∙ sym (ap (λ t. t && nat_lt most (n + k)) h)

pub passes_same : (most n k : ℕ) → passes most (min n (most + 1)) k ≡ passes most n k
passes_same most n k = passes_at most n k (nat_le n most) refl

statement_same : (c n file line : ℕ) (s : Statement) → statement_faults (min c (MOST_RULES + 1)) (min n (MOST_NODES + 1)) file line s ≡ statement_faults c n file line s
statement_same c n file line s =
    let f = fault_at file line kind.Limit in
    let k = s.said.reading.measure.nodes in
    let deep = when (nat_lt 64 s.said.reading.measure.depth) f in
    let rest = when (is_none s.attr) (fault_at file line kind.Name) ++ marked file s.said.marks in
    ap (λ t. (when t f ++ (deep ++ when (passes MOST_NODES (min n (MOST_NODES + 1)) k) f)) ++ rest) (count_same c MOST_RULES)
    ∙ ap (λ t. (when (c == MOST_RULES) f ++ (deep ++ when t f)) ++ rest) (passes_same MOST_NODES n k)

spelled_same : (c n file line : ℕ) (s : Option Statement) → spelled_faults (min c (MOST_RULES + 1)) (min n (MOST_NODES + 1)) file line s ≡ spelled_faults c n file line s
spelled_same c n file line None = refl
spelled_same c n file line (Some s) = statement_same c n file line s

block_same : (c n : ℕ) (b : RuleBlock) → block_faults (min c (MOST_RULES + 1)) (min n (MOST_NODES + 1)) b ≡ block_faults c n b
block_same c n b = spelled_same c n b.file b.line b.statement

-- ---- first faults

pick_some : (t : Bool) (a b : RbFault) → (if t then Some b else Some a) ≡ None → ⊥
pick_some true a b e = absurd (cc e)
pick_some false a b e = absurd (cc e)

some_first : (a : RbFault) (o : Option RbFault) → first_of (Some a) o ≡ None → ⊥
some_first a None e = absurd (cc e)
some_first a (Some b) e = pick_some (is_before b a) a b e

pub no_faults : (fs : List RbFault) → first_fault fs ≡ None → fs ≡ []
no_faults [] e = refl
no_faults (f ∷ fs) e = absurd (some_first f (first_fault fs) e)

pub none_before : (x y : Option RbFault) → first_of x y ≡ None → x ≡ None
none_before None y e = refl
none_before (Some a) y e = absurd (some_first a y e)

is_none_of : (o : Option RbFault) → o ≡ None → is_none o ≡ true
is_none_of o e = ap is_none e

-- ---- what is taken

-- what a step makes of what was taken
pub record IsNext (b : RuleBlock) (t u : Taken) : Type 0 where
  pub first_is : u.first ≡ first_of t.first (first_fault (block_faults t.count t.nodes b))
  pub rules_are : is_none u.first ≡ true → u.rules ≡ t.rules ++ rule_in b
  pub count_is : u.count ≡ min (t.count + 1) (MOST_RULES + 1)
  pub nodes_are : u.nodes ≡ min (t.nodes + statement_nodes b.statement) (MOST_NODES + 1)

pub next_number : (n k m x y z : ℕ) → x ≡ min n (m + 1) → y ≡ min (x + k) (m + 1) → z ≡ n + k → y ≡ min z (m + 1)
next_number n k m x y z p q r = omega (arith, p, q, r)

pub takes : (b : RuleBlock) (t u : Taken) → IsNext b t u → Takes b t u
takes b t u n start found h = record {
  first_is =
      n.first_is ∙ ap (λ x. first_of x (first_fault (block_faults t.count t.nodes b))) h.first_is
      ∙ ap (λ x. first_of (first_fault (faults_from 0 start found)) (first_fault x))
      (ap (λ c. block_faults c t.nodes b) h.count_is ∙ ap (λ k. block_faults (min (length found) (MOST_RULES + 1)) k b) h.nodes_are ∙ block_same (length found) (start + nodes_in found) b
      ∙ ap (λ c. block_faults c (start + nodes_in found) b) (let e : length found ≡ 0 + length found = omega arith in e))
      ∙ sym (first_fault-append (faults_from 0 start found) (block_faults (0 + length found) (start + nodes_in found) b))
      ∙ ap first_fault (sym (faults_append 0 start found b));
  rules_are = λ e.
      let none : t.first ≡ None = none_before t.first (first_fault (block_faults t.count t.nodes b)) (sym n.first_is ∙ e) in
      n.rules_are (is_none_of u.first e) ∙ ap (λ x. x ++ rule_in b) (h.rules_are none) ∙ sym (rules_append found b);
  count_is = next_number (length found) 1 MOST_RULES t.count u.count (length (found ++ b ∷ [])) h.count_is n.count_is (length-append found (b ∷ []));
  nodes_are = next_number (start + nodes_in found) (statement_nodes b.statement) MOST_NODES t.nodes u.nodes (start + nodes_in (found ++ b ∷ [])) h.nodes_are n.nodes_are (omega (arith, nodes_append found b));
}

pub none_taken : (t : Taken) (start : ℕ) → t.first ≡ None → t.rules ≡ [] → t.count ≡ 0 → t.nodes ≡ min start (MOST_NODES + 1) → IsTaken start [] t
none_taken t start p q r s = record { first_is = p; rules_are = λ e. q; count_is = r ∙ omega arith; nodes_are = s ∙ ap (λ x. min x (MOST_NODES + 1)) (let e : start ≡ start + 0 = omega arith in e) }

-- ---- block by block

module _ (m : Lists) (ns : Names) where
  pub goes_rule : (b : Block) (x : RuleBlock) (t u : Taken) → IsRuleBlock m ns b x → Takes x t u → Goes m ns b t u
  goes_rule b x t u is h start found taken = (x ∷ [], h start found taken, λ bs rs a. r.AreRuleBlocks.rule is a)

  pub goes_past : (b : Block) (t : Taken) → IsPassed block_sort.Rule b → Goes m ns b t t
  goes_past b t is start found taken = ([], subst (λ x. IsTaken start x t) (sym (append-nil found)) taken, λ bs rs a. r.AreRuleBlocks.passed is a)

  pub run_begins : (start : ℕ) (all : List Block) (t : Taken) → IsTaken start [] t → IsRun m ns start all all t
  run_begins start all t h = record { found = []; taken = h; left = λ rs a. a }

  pub run_goes : (start : ℕ) (all rest later : List Block) (b : Block) (t u : Taken) → rest ≡ b ∷ later → IsRun m ns start all rest t → Goes m ns b t u → IsRun m ns start all later u
  run_goes start all rest later b t u e run goes =
      let g = goes start run.found run.taken in
      record {
        found = run.found ++ g.0;
        taken = g.1;
        left = λ rs a. subst (AreRuleBlocks m ns all) (sym (append_assoc run.found g.0 rs)) (run.left (g.0 ++ rs) (subst (λ x. AreRuleBlocks m ns x (g.0 ++ rs)) (sym e) (g.2 later rs a)));
      }

  pub run_ends : (start : ℕ) (all rest : List Block) (t : Taken) → rest ≡ [] → (run : IsRun m ns start all rest t) → AreRuleBlocks m ns all run.found
  run_ends start all rest t e run =
      subst (AreRuleBlocks m ns all) (append-nil run.found) (run.left [] (subst (λ x. AreRuleBlocks m ns x []) (sym e) r.AreRuleBlocks.none))

pub rules_read : (m : Lists) (inferences : List Inferred) (blocks : List Block) (ns : Names) (none t : Taken) (rules : List Rule) → ns ≡ names_in m inferences → IsTaken (inferred_nodes inferences) [] none → TakesAll m ns blocks none t → t.first ≡ None → rules ≡ t.rules
    → AreRules m inferences blocks rules
rules_read m inferences blocks ns none t rules e begun all p q =
    let run = all (inferred_nodes inferences) begun in
    record {
      found = run.0;
      are_found = subst (λ n. AreRuleBlocks m n blocks run.0) e run.2;
      sound = no_faults (rule_faults inferences run.0) (sym run.1.first_is ∙ p);
      rules_are = q ∙ run.1.rules_are p;
    }

pub rules_refused : (m : Lists) (inferences : List Inferred) (blocks : List Block) (ns : Names) (none t : Taken) (fault : RbFault) → ns ≡ names_in m inferences → IsTaken (inferred_nodes inferences) [] none → TakesAll m ns blocks none t → t.first ≡ Some fault
    → AreRefused m inferences blocks fault
rules_refused m inferences blocks ns none t fault e begun all p =
    let run = all (inferred_nodes inferences) begun in
    record {
      found = run.0;
      are_found = subst (λ n. AreRuleBlocks m n blocks run.0) e run.2;
      first = sym run.1.first_is ∙ p;
    }

-- the members' nodes are those of the inferred trees
pub members_nodes : (inferences : List Inferred) → total (map (λ (x : Member). nodes x.expr) (map member_of inferences)) ≡ inferred_nodes inferences
members_nodes [] = refl
members_nodes (i ∷ more) = ap (λ n. nodes i.expr + n) (members_nodes more)

pub nothing_more : (rules : List Rule) → rules ++ [] ≡ rules
nothing_more rules = append-nil rules

-- the first of four lists of faults
pub of_four : (a b c d : List RbFault) → first_of (first_of (first_fault a) (first_fault b)) (first_of (first_fault c) (first_fault d)) ≡ first_fault ((a ++ b) ++ (c ++ d))
of_four a b c d = ap₂ first_of (sym (first_fault-append a b)) (sym (first_fault-append c d)) ∙ sym (first_fault-append (a ++ b) (c ++ d))

pub none_test : {X : Type 0} (o : Option X) (b : Bool) → is_some o ≡ not b → b ≡ is_none o
none_test None true e = refl
none_test None false e = absurd (cc e)
none_test (Some y) true e = absurd (cc e)
none_test (Some y) false e = refl
