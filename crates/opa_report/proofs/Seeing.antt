-- A held case, as what trees are seen over.
use Rattle.std.proofs.Common.{◌≡◌, ℕ, ◌<◌, Bool, true, false, List, [], ◌∷◌, Option, None, Some, Bor, Contains, IfSome, refl, sym, ◌∙◌, ap}
use Rattle.std.specs.Prelude.{◌&&◌, ◌||◌, ◌==◌, is_some}
use Rattle.std.specs.FinMap.{get}
use Rattle.std.specs.List.{AllByRecursion, list_all}
use Rattle.std.specs.Option.{option_copied}
use Rattle.std.proofs.lemmas.Bool.{and_parts, eq-eqb, and_from}
use Rattle.opa_io.proofs.Lists.{each_weaker}
use Rattle.opa_date.specs.declared.TheConstants.{DAYS}
use Rattle.opa_value.specs.declared.value.Value.{Value}
use Rattle.opa_value.specs.declared.value.Value.TheVariants.{Unknown}
use Rattle.opa_line.specs.Lines.{StandsFor}
use Rattle.opa_model.specs.declared.ids.AttrId.{AttrId}
use Rattle.opa_model.specs.declared.ids.RelId.{RelId}
use Rattle.opa_cells.specs.Instances.{named}
use Rattle.opa_cells.specs.declared.instance.InstanceId.{InstanceId}
use Rattle.opa_case.specs.Cases.{CaseView, IsLive, list_of}
use Rattle.opa_case.specs.Live.{Population, is_live}
use Rattle.opa_case.specs.Shapes.{shape_of}
use Rattle.opa_tree.specs.declared.rulebase.Rulebase.{Rulebase}
use Rattle.opa_tree.specs.Rules.{rule_of}
use Rattle.opa_mean.specs.Given.{facts_of}
use Rattle.opa_mean.specs.Holding.{has_line}
use Rattle.opa_mean.specs.Places.{owner_of}
use Rattle.opa_mean.specs.Rulebases.{IsOf, value_at}
use Rattle.opa_mean.proofs.Fitting.{in_live}
use Rattle.opa_mean.proofs.Holdings.{unanswered}
use Rattle.opa_mean.proofs.LawsOver.{facts}

other_false : (p q : Bool) → p ≡ true → (p && q) ≡ false → q ≡ false
other_false true q h k = k
other_false false q h k = absurd (cc h)

-- where no line is held for a live instance of the attribute's entity, the attribute is unknown
pub unseen : (r : Rulebase) (c : CaseView) → IsOf r c → (a : AttrId) (i : InstanceId) (line : List (ℕ × Value)) → has_line r c a i ≡ false → StandsFor DAYS (λ _. Unknown) line → IsLive c i → i.entity.0 ≡ owner_of (shape_of r.model) a → StandsFor DAYS (value_at r c a i) line
unseen r c is a i line none stands live own =
    let placed = and_from (is_live c.live i) (i.entity.0 == owner_of (shape_of r.model) a) live (eq-eqb i.entity.0 (owner_of (shape_of r.model) a) own) in
    let rest = other_false (is_live c.live i && (i.entity.0 == owner_of (shape_of r.model) a)) (is_some (rule_of r.rules a) || is_some (get c.answers (a.0, i))) placed none in
    λ d lt. stands d lt ∙ ap Some (sym (unanswered r c is a i d rest))

-- whether all are live
pub all_live_so : (live : Population) (xs : List InstanceId) → AllByRecursion (λ i. is_live live i ≡ true) xs → list_all (is_live live) xs ≡ true
all_live_so live [] h = refl
all_live_so live (x ∷ xs) h = and_from (is_live live x) (list_all (is_live live) xs) h.0 (all_live_so live xs h.1)

pub so_all_live : (live : Population) (xs : List InstanceId) → list_all (is_live live) xs ≡ true → AllByRecursion (λ i. is_live live i ≡ true) xs
so_all_live live [] h = tt
so_all_live live (x ∷ xs) h = let both = and_parts (is_live live x) (list_all (is_live live) xs) h in (both.0, so_all_live live xs both.1)

-- what a known list names is live
pub members_live : (r : Rulebase) (k : CaseView) → IsOf r k → (q : RelId) (i : InstanceId) (o : Option (Bor (List (List ℕ)))) → option_copied o ≡ list_of k q i → IfSome o (λ names. AllByRecursion (λ n. IsLive k (named ((shape_of r.model).target q) n)) names.now)
members_live r k is q i None e = tt
members_live r k is q i (Some names) e =
    each_weaker (λ n. Contains (facts_of k).instances (named ((shape_of r.model).target q) n)) (λ n. IsLive k (named ((shape_of r.model).target q) n)) (λ n h. in_live k (named ((shape_of r.model).target q) n) h) names.now
    ((facts r k is).listed q i names.now (sym e))
