-- Membership blocks are taken one after another.
use Rattle.std.proofs.Common.{◌≡◌, ℕ, ◌+◌, min, List, [], ◌∷◌, ◌++◌, Bool, true, false, not, ◌||◌, nat_lt, length, if◌then◌else◌, Option, Some, None, refl, sym, ap, ap₂, subst, ◌∙◌, append_assoc, arith}
use Rattle.std.specs.Prelude.{is_none}
use Rattle.std.specs.Str.{bytes_eq}
use Rattle.std.proofs.lemmas.List.{append-nil}
use Rattle.opa_model.specs.declared.lists.Lists.{Lists}
use Rattle.opa_model.specs.Phrases.{is_declared, Declares}
use Rattle.opa_words.specs.declared.layout.block.Block.{Block}
use Rattle.opa_tree.specs.declared.faults.RbFault.{RbFault}
use Rattle.opa_tree.specs.declared.faults.RbKind.TheVariants as kind
use Rattle.opa_tree.specs.declared.rules.Inferred.{Inferred}
use Rattle.opa_tree.specs.FirstFaults.{first_of, first_fault}
use Rattle.opa_tree.proofs.FirstFaultLaws.{first_fault-append}
use Rattle.opa_io.specs.declared.limits.TheConstants.{MOST_DEPTH, MOST_NODES}
use Rattle.opa_sentence.specs.declared.names.Names.{Names}
use Rattle.opa_parse.specs.declared.block.BlockSort.TheVariants as block_sort
use Rattle.opa_parse.specs.declared.block.MemberBlock.{MemberBlock}
use Rattle.opa_parse.specs.declared.block.Membership.{Membership}
use Rattle.opa_io.specs.declared.limits.TheConstants.{MOST_PHRASE}
use Rattle.opa_io.proofs.Characters.{same_bytes}
use Rattle.opa_io.proofs.Bools.{not_twice}
use Rattle.opa_parse.specs.declared.members.Gathered.{Gathered}
use Rattle.opa_parse.specs.RuleFaults.{fault_at, when, marked}
use Rattle.opa_parse.specs.Rules.{IsPassed}
use Rattle.opa_parse.specs.MemberFaults.{is_taken, membership_faults, spelled_faults, block_faults, is_taken_by, membership_nodes, phrase_by, faults_from}
use Rattle.opa_parse.specs.Memberships as x
use Rattle.opa_parse.specs.Memberships.{IsMemberBlock, AreMemberBlocks, inferred_by, inferred_in, declared_texts, member_faults, names_alone, AreInferences, AreRefused}
use Rattle.opa_parse.specs.MemberRuns.{nodes_in, phrases_in, AreSame, IsGathered, Gathers, Goes, IsRun, GathersAll}
use Rattle.opa_parse.proofs.RuleLaws.{no_faults, none_before, passes_same, next_number}

pub nothing_more : (xs : List Inferred) → xs ++ [] ≡ xs
nothing_more xs = append-nil xs

-- ---- texts that are taken

taken_append : (xs ys : List (List ℕ)) (t : List ℕ) → is_taken (xs ++ ys) t ≡ (is_taken xs t || is_taken ys t)
taken_append [] ys t = refl
taken_append (x ∷ xs) ys t = ap (λ b. bytes_eq t x || b) (taken_append xs ys t) ∙ sym (or_assoc (bytes_eq t x) (is_taken xs t) (is_taken ys t))
  where
    or_assoc : (a b c : Bool) → ((a || b) || c) ≡ (a || (b || c))
    or_assoc true b c = refl
    or_assoc false b c = refl

pub same_more : (xs ys zs : List (List ℕ)) → AreSame xs ys → AreSame (xs ++ zs) (ys ++ zs)
same_more xs ys zs h t = taken_append xs zs t ∙ ap (λ b. b || is_taken zs t) (h t) ∙ sym (taken_append ys zs t)

or_same : (a b : Bool) → (b ≡ true → a ≡ true) → a ≡ (a || b)
or_same true b h = refl
or_same false true h = h refl
or_same false false h = refl

declared_at : (old new : List (List ℕ)) (p : List ℕ) (b : Bool) → is_taken old p ≡ b → new ≡ (if b then old else old ++ p ∷ []) → AreSame new (old ++ p ∷ [])
declared_at old new p true e is t =
    ap (λ xs. is_taken xs t) is ∙ or_same (is_taken old t) (is_taken (p ∷ []) t) (λ h. ap (is_taken old) (same_bytes t p (one h)) ∙ e) ∙ sym (taken_append old (p ∷ []) t)
  where
    one : is_taken (p ∷ []) t ≡ true → bytes_eq t p ≡ true
    one h = sym (or_false (bytes_eq t p)) ∙ h
      where
        or_false : (b : Bool) → (b || false) ≡ b
        or_false true = refl
        or_false false = refl
declared_at old new p false e is t = ap (λ xs. is_taken xs t) is

pub declared_same : (old new : List (List ℕ)) (p : List ℕ) (is_new : Bool) → Declares old new p is_new → AreSame new (old ++ p ∷ [])
declared_same old new p is_new d = declared_at old new p (is_declared old p) refl d.new_is

pub was_taken : (old new : List (List ℕ)) (p : List ℕ) (is_new : Bool) → Declares old new p is_new → not is_new ≡ is_taken old p
was_taken old new p is_new d = ap not d.is_new_is ∙ not_twice (is_taken old p)

pub same_nothing : (texts : List (List ℕ)) → AreSame texts (texts ++ [])
same_nothing texts t = ap (λ xs. is_taken xs t) (sym (append-nil texts))

pub same_then : (a b c : List (List ℕ)) → AreSame a b → AreSame b c → AreSame a c
same_then a b c h k t = h t ∙ k t

-- ---- one more block

phrases_append : (bs : List MemberBlock) (b : MemberBlock) → phrases_in (bs ++ b ∷ []) ≡ phrases_in bs ++ phrase_by b.membership
phrases_append [] b = append-nil (phrase_by b.membership)
phrases_append (y ∷ bs) b = ap (λ ys. phrase_by y.membership ++ ys) (phrases_append bs b) ∙ sym (append_assoc (phrase_by y.membership) (phrases_in bs) (phrase_by b.membership))

nodes_append : (bs : List MemberBlock) (b : MemberBlock) → nodes_in (bs ++ b ∷ []) ≡ nodes_in bs + membership_nodes b.membership
nodes_append [] b = omega arith
nodes_append (y ∷ bs) b = omega (arith, nodes_append bs b)

inferred_append : (bs : List MemberBlock) (b : MemberBlock) → inferred_in (bs ++ b ∷ []) ≡ inferred_in bs ++ inferred_by b.membership
inferred_append [] b = append-nil (inferred_by b.membership)
inferred_append (y ∷ bs) b = ap (λ ys. inferred_by y.membership ++ ys) (inferred_append bs b) ∙ sym (append_assoc (inferred_by y.membership) (inferred_in bs) (inferred_by b.membership))

abbrev fault_by : List (List ℕ) → ℕ → MemberBlock → List RbFault
fault_by texts n b = block_faults (is_taken_by texts b.membership) n b

faults_append : (texts : List (List ℕ)) (n : ℕ) (bs : List MemberBlock) (b : MemberBlock) → faults_from texts n (bs ++ b ∷ []) ≡ faults_from texts n bs ++ fault_by (texts ++ phrases_in bs) (n + nodes_in bs) b
faults_append texts n [] b =
    append-nil (fault_by texts n b) ∙ ap (λ ts. fault_by ts n b) (sym (append-nil texts)) ∙ ap (λ k. fault_by (texts ++ []) k b) (let e : n ≡ n + 0 = omega arith in e)
faults_append texts n (y ∷ bs) b =
    let k = membership_nodes y.membership in
    let ts = texts ++ phrase_by y.membership in
    let mine = fault_by texts n y in
    let last : List (List ℕ) → ℕ → List RbFault = λ us j. (mine ++ faults_from ts (n + k) bs) ++ fault_by us j b in
    ap (λ ys. mine ++ ys) (faults_append ts (n + k) bs b)
    ∙ sym (append_assoc mine (faults_from ts (n + k) bs) (fault_by (ts ++ phrases_in bs) ((n + k) + nodes_in bs) b))
    ∙ ap (λ us. last us ((n + k) + nodes_in bs)) (append_assoc texts (phrase_by y.membership) (phrases_in bs))
    ∙ ap (λ j. last (texts ++ (phrase_by y.membership ++ phrases_in bs)) j) (let e : (n + k) + nodes_in bs ≡ n + (k + nodes_in bs) = omega arith in e)

-- ---- numbers that are told as one more than the most

membership_same : (t : Bool) (n file line : ℕ) (s : Membership) → membership_faults t (min n (MOST_NODES + 1)) file line s ≡ membership_faults t n file line s
membership_same t n file line s =
    let f = fault_at file line kind.Limit in
    let long = when (nat_lt MOST_PHRASE (length s.phrase)) f in
    let deep = when (nat_lt MOST_DEPTH s.said.reading.measure.depth) f in
    let rest = (when (is_none s.every) (fault_at file line kind.Name) ++ marked file s.said.marks) ++ when t (fault_at file line kind.Twice) in
    ap (λ b. (long ++ (deep ++ when b f)) ++ rest) (passes_same MOST_NODES n s.said.reading.measure.nodes)

spelled_same : (t : Bool) (n file line : ℕ) (s : Option Membership) → spelled_faults t (min n (MOST_NODES + 1)) file line s ≡ spelled_faults t n file line s
spelled_same t n file line None = refl
spelled_same t n file line (Some s) = membership_same t n file line s

taken_by_same : (xs ys : List (List ℕ)) (s : Option Membership) → AreSame xs ys → is_taken_by xs s ≡ is_taken_by ys s
taken_by_same xs ys None h = refl
taken_by_same xs ys (Some s) h = h s.phrase

-- ---- what is taken

-- what a step makes of what was taken
pub record IsNext (b : MemberBlock) (t u : Gathered) : Type 0 where
  pub first_is : u.first ≡ first_of t.first (first_fault (block_faults (is_taken_by t.texts b.membership) t.nodes b))
  pub inferences_are : is_none u.first ≡ true → u.inferences ≡ t.inferences ++ inferred_by b.membership
  pub texts_are : AreSame u.texts (t.texts ++ phrase_by b.membership)
  pub nodes_are : u.nodes ≡ min (t.nodes + membership_nodes b.membership) (MOST_NODES + 1)

pub gathers : (b : MemberBlock) (t u : Gathered) → IsNext b t u → Gathers b t u
gathers b t u n declared found h =
    let texts = declared ++ phrases_in found in
    record {
      first_is =
          n.first_is ∙ ap (λ x. first_of x (first_fault (block_faults (is_taken_by t.texts b.membership) t.nodes b))) h.first_is
          ∙ ap (λ x. first_of (first_fault (faults_from declared 0 found)) (first_fault x))
          (ap (λ y. block_faults y t.nodes b) (taken_by_same t.texts texts b.membership h.texts_are) ∙ ap (λ k. block_faults (is_taken_by texts b.membership) k b) h.nodes_are
          ∙ spelled_same (is_taken_by texts b.membership) (nodes_in found) b.file b.line b.membership
          ∙ ap (λ k. block_faults (is_taken_by texts b.membership) k b) (let e : nodes_in found ≡ 0 + nodes_in found = omega arith in e))
          ∙ sym (first_fault-append (faults_from declared 0 found) (fault_by texts (0 + nodes_in found) b))
          ∙ ap first_fault (sym (faults_append declared 0 found b));
      inferences_are = λ e.
          let none : t.first ≡ None = none_before t.first (first_fault (block_faults (is_taken_by t.texts b.membership) t.nodes b)) (sym n.first_is ∙ e) in
          n.inferences_are (ap is_none e) ∙ ap (λ y. y ++ inferred_by b.membership) (h.inferences_are none) ∙ sym (inferred_append found b);
      texts_are = λ p.
          n.texts_are p ∙ same_more t.texts texts (phrase_by b.membership) h.texts_are p
          ∙ ap (λ ys. is_taken ys p) (append_assoc declared (phrases_in found) (phrase_by b.membership) ∙ ap (λ ys. declared ++ ys) (sym (phrases_append found b)));
      nodes_are = next_number (nodes_in found) (membership_nodes b.membership) MOST_NODES t.nodes u.nodes (nodes_in (found ++ b ∷ [])) h.nodes_are n.nodes_are (nodes_append found b);
    }

pub none_gathered : (t : Gathered) (declared : List (List ℕ)) → t.first ≡ None → t.inferences ≡ [] → t.nodes ≡ 0 → AreSame t.texts declared → IsGathered declared [] t
none_gathered t declared p q r s = record {
  first_is = p;
  inferences_are = λ e. q;
  texts_are = λ y. s y ∙ ap (λ ys. is_taken ys y) (sym (append-nil declared));
  nodes_are = r ∙ omega arith;
}

-- ---- block by block

module _ (m : Lists) (ns : Names) where
  pub goes_members : (b : Block) (r : MemberBlock) (t u : Gathered) → IsMemberBlock m ns b r → Gathers r t u → Goes m ns b t u
  goes_members b r t u is h declared found taken = (r ∷ [], h declared found taken, λ bs rs a. x.AreMemberBlocks.members is a)

  pub goes_past : (b : Block) (t : Gathered) → IsPassed block_sort.Members b → Goes m ns b t t
  goes_past b t is declared found taken = ([], subst (λ y. IsGathered declared y t) (sym (append-nil found)) taken, λ bs rs a. x.AreMemberBlocks.passed is a)

  pub run_begins : (declared : List (List ℕ)) (all : List Block) (t : Gathered) → IsGathered declared [] t → IsRun m ns declared all all t
  run_begins declared all t h = record { found = []; gathered = h; left = λ rs a. a }

  pub run_goes : (declared : List (List ℕ)) (all rest later : List Block) (b : Block) (t u : Gathered) → rest ≡ b ∷ later → IsRun m ns declared all rest t → Goes m ns b t u → IsRun m ns declared all later u
  run_goes declared all rest later b t u e run goes =
      let g = goes declared run.found run.gathered in
      record {
        found = run.found ++ g.0;
        gathered = g.1;
        left = λ rs a. subst (AreMemberBlocks m ns all) (sym (append_assoc run.found g.0 rs)) (run.left (g.0 ++ rs) (subst (λ y. AreMemberBlocks m ns y (g.0 ++ rs)) (sym e) (g.2 later rs a)));
      }

  pub run_ends : (declared : List (List ℕ)) (all rest : List Block) (t : Gathered) → rest ≡ [] → (run : IsRun m ns declared all rest t) → AreMemberBlocks m ns all run.found
  run_ends declared all rest t e run =
      subst (AreMemberBlocks m ns all) (append-nil run.found) (run.left [] (subst (λ y. AreMemberBlocks m ns y []) (sym e) x.AreMemberBlocks.none))

pub inferences_read : (m : Lists) (blocks : List Block) (ns : Names) (none t : Gathered) (inferences : List Inferred) → ns ≡ names_alone m → IsGathered (declared_texts m) [] none → GathersAll m ns blocks none t → t.first ≡ None → inferences ≡ t.inferences
    → AreInferences m blocks inferences
inferences_read m blocks ns none t inferences e begun all p q =
    let run = all (declared_texts m) begun in
    record {
      found = run.0;
      are_found = subst (λ n. AreMemberBlocks m n blocks run.0) e run.2;
      sound = no_faults (member_faults m run.0) (sym run.1.first_is ∙ p);
      inferences_are = q ∙ run.1.inferences_are p;
    }

pub inferences_refused : (m : Lists) (blocks : List Block) (ns : Names) (none t : Gathered) (fault : RbFault) → ns ≡ names_alone m → IsGathered (declared_texts m) [] none → GathersAll m ns blocks none t → t.first ≡ Some fault → AreRefused m blocks fault
inferences_refused m blocks ns none t fault e begun all p =
    let run = all (declared_texts m) begun in
    record {
      found = run.0;
      are_found = subst (λ n. AreMemberBlocks m n blocks run.0) e run.2;
      first = sym run.1.first_is ∙ p;
    }

-- the first of five lists of faults
pub of_five : (a b c d e : List RbFault) → first_of (first_of (first_fault a) (first_fault b)) (first_of (first_of (first_fault c) (first_fault d)) (first_fault e)) ≡ first_fault ((a ++ b) ++ ((c ++ d) ++ e))
of_five a b c d e =
    ap₂ first_of (sym (first_fault-append a b)) (ap (λ y. first_of y (first_fault e)) (sym (first_fault-append c d)) ∙ sym (first_fault-append (c ++ d) e)) ∙ sym (first_fault-append (a ++ b) ((c ++ d) ++ e))

pub ruleset same_steps = (declared_same, was_taken, same_nothing, same_more)
