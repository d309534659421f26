-- Rules without faults are sound.
use Rattle.std.proofs.Common.{◌≡◌, ◌≢◌, ◌∙◌, ◌+◌, ◌<◌, ◌&&◌, ℕ, zero, suc, arith, Bool, true, false, cond, List, [], ◌∷◌, ◌++◌, length, refl, sym, ap, subst, All, AllPairs}
use Rattle.std.specs.Prelude.{Option, None, Some, is_some, flat_map, IsTrue, ◌==◌}
use Rattle.std.specs.Option.{option_or}
use Rattle.std.proofs.lemmas.Bool.{false≢true}
use Rattle.std.proofs.lemmas.List.Elements.{All-nil, All-cons, All-head, All-tail}
use Rattle.std.proofs.lemmas.List.Kept.{AllPairs-cons}
use Rattle.opa_io.proofs.Bools.{and_first, and_second}
use Rattle.opa_io.proofs.Lists.{no_pairs}
use Rattle.opa_model.specs.declared.ids.AttrId.{AttrId}
use Rattle.opa_model.specs.declared.lists.Lists.{Lists}
use Rattle.opa_model.specs.Models.{HasAttribute}
use Rattle.opa_tree.specs.declared.faults.RbFault.{RbFault}
use Rattle.opa_tree.specs.declared.faults.RbKind.TheVariants.{Scope, Kind, Twice}
use Rattle.opa_tree.specs.declared.rules.Rule.{Rule}
use Rattle.opa_tree.specs.Accepted.{AreSound, concludes_bool}
use Rattle.opa_tree.specs.FirstFaults.{first_fault, IsFirst}
use Rattle.opa_tree.specs.Kinds.{rule_has_kind}
use Rattle.opa_tree.specs.Rules.{rule_of, concludes}
use Rattle.opa_tree.specs.Scopes.{rule_is_reached}
use Rattle.opa_tree.proofs.FirstFaultLaws.{first_fault_is_first_holds}
use Rattle.opa_rulebase.specs.Checking.Faults.{fault_at, unless, when, own_faults, second_faults, rule_faults}
use Rattle.opa_tree.proofs.Setting.{rule_after}

none_left : {X : Type 0} (xs ys : List X) → xs ++ ys ≡ [] → xs ≡ []
none_left [] ys h = refl
none_left (x ∷ xs) ys h = cc

none_right : {X : Type 0} (xs ys : List X) → xs ++ ys ≡ [] → ys ≡ []
none_right [] ys h = h
none_right (x ∷ xs) ys h = cc

pub no_first : (faults : List RbFault) → first_fault faults ≡ None → faults ≡ []
no_first faults h = subst (λ (o : Option RbFault). IsFirst faults o) h (first_fault_is_first_holds faults)

holds : (test : Bool) (fault : RbFault) → unless test fault ≡ [] → test ≡ true
holds true fault h = refl
holds false fault h = cc

fails : (test : Bool) (fault : RbFault) → when test fault ≡ [] → test ≡ false
fails true fault h = cc
fails false fault h = refl

reached : (m : Lists) (r : Rule) → own_faults m r ≡ [] → IsTrue (rule_is_reached m r)
reached m r h = holds (rule_is_reached m r) (fault_at Scope r) (none_left _ (unless (rule_has_kind m r && concludes_bool m r) (fault_at Kind r)) h)

of_kind : (m : Lists) (r : Rule) → own_faults m r ≡ [] → (rule_has_kind m r && concludes_bool m r) ≡ true
of_kind m r h = holds (rule_has_kind m r && concludes_bool m r) (fault_at Kind r) (none_right (unless (rule_is_reached m r) (fault_at Scope r)) _ h)

each : (m : Lists) (rules : List Rule) → flat_map (own_faults m) rules ≡ [] → All (λ r. own_faults m r ≡ []) rules
each m [] h = All-nil (λ r. own_faults m r ≡ [])
each m (r ∷ rules) h = All-cons (λ r. own_faults m r ≡ []) r rules (none_left (own_faults m r) (flat_map (own_faults m) rules) h) (each m rules (none_right (own_faults m r) (flat_map (own_faults m) rules) h))

all_by : {X : Type 0} (P Q : X → Type 0) (xs : List X) → ((x : X) → P x → Q x) → All P xs → All Q xs
all_by P Q [] f h = All-nil Q
all_by P Q (x ∷ xs) f h = All-cons Q x xs (f x (All-head P x xs h)) (all_by P Q xs f (All-tail P x xs h))

-- no rule concludes the attribute
abbrev IsFree : List Rule → Rule → Type 0
IsFree before r = is_some (rule_of before r.attr) ≡ false

free_before : (before : List Rule) (rule r : Rule) (t : Bool) → concludes r.attr rule ≡ t → is_some (option_or (rule_of before r.attr) (cond t (Some rule) None)) ≡ false → IsFree before r
free_before before rule r t is h = here (rule_of before r.attr) h
  where
    here : (o : Option Rule) → is_some (option_or o (cond t (Some rule) None)) ≡ false → is_some o ≡ false
    here None e = refl
    here (Some q) e = e

differs : (before : List Rule) (rule r : Rule) (t : Bool) → concludes r.attr rule ≡ t → is_some (option_or (rule_of before r.attr) (cond t (Some rule) None)) ≡ false → rule.attr ≢ r.attr
differs before rule r true is h = λ same. here (rule_of before r.attr) h
  where
    here : (o : Option Rule) → is_some (option_or o (Some rule)) ≡ false → ⊥
    here None e = false≢true (sym e)
    here (Some q) e = false≢true (sym e)
differs before rule r false is h = λ same. false≢true (sym is ∙ ap (λ (a : AttrId). concludes a rule) (sym same) ∙ own_number rule.attr.0)
  where
    own_number : (n : ℕ) → (n == n) ≡ true
    own_number n = grind arith

free_of : (before : List Rule) (rule r : Rule) → IsFree (before ++ rule ∷ []) r → is_some (option_or (rule_of before r.attr) (cond (concludes r.attr rule) (Some rule) None)) ≡ false
free_of before rule r h = ap (λ o. is_some o) (sym (rule_after before rule r.attr (concludes r.attr rule) refl)) ∙ h

pub all_free : (before rules : List Rule) → second_faults before rules ≡ [] → All (IsFree before) rules
all_free before [] h = All-nil (IsFree before)
all_free before (rule ∷ rules) h =
    All-cons (IsFree before) rule rules (fails (is_some (rule_of before rule.attr)) (fault_at Twice rule) (none_left _ (second_faults (before ++ rule ∷ []) rules) h))
    (all_by (IsFree (before ++ rule ∷ [])) (IsFree before) rules (λ r free. free_before before rule r (concludes r.attr rule) refl (free_of before rule r free))
    (all_free (before ++ rule ∷ []) rules (none_right (when (is_some (rule_of before rule.attr)) (fault_at Twice rule)) _ h)))

pub all_differ : (before rules : List Rule) → second_faults before rules ≡ [] → AllPairs (λ r s. r.attr ≢ s.attr) rules
all_differ before [] h = no_pairs (λ r s. r.attr ≢ s.attr)
all_differ before (rule ∷ rules) h =
    let rest = none_right (when (is_some (rule_of before rule.attr)) (fault_at Twice rule)) (second_faults (before ++ rule ∷ []) rules) h in
    AllPairs-cons (λ r s. r.attr ≢ s.attr) rule rules
    (all_by (IsFree (before ++ rule ∷ [])) (λ r. rule.attr ≢ r.attr) rules (λ r free. differs before rule r (concludes r.attr rule) refl (free_of before rule r free)) (all_free (before ++ rule ∷ []) rules rest))
    (all_differ (before ++ rule ∷ []) rules rest)

pub are_sound : (m : Lists) (rules : List Rule) → All (λ r. HasAttribute m r.attr) rules → first_fault (rule_faults m rules) ≡ None → AreSound m rules
are_sound m rules declared none =
    let empty = no_first (rule_faults m rules) none in
    let own = each m rules (none_left (flat_map (own_faults m) rules) (second_faults [] rules) empty) in
    let second = none_right (flat_map (own_faults m) rules) (second_faults [] rules) empty in
    record {
      attributes_declared = declared;
      reached = all_by (λ r. own_faults m r ≡ []) (λ r. IsTrue (rule_is_reached m r)) rules (reached m) own;
      of_kinds = all_by (λ r. own_faults m r ≡ []) (λ r. IsTrue (rule_has_kind m r)) rules (λ r h. and_first (rule_has_kind m r) (concludes_bool m r) (of_kind m r h)) own;
      bools_by_if = all_by (λ r. own_faults m r ≡ []) (λ r. IsTrue (concludes_bool m r)) rules (λ r h. and_second (rule_has_kind m r) (concludes_bool m r) (of_kind m r h)) own;
      one_each = all_differ [] rules second;
    }
