-- The laws that the crate's public functions state.
use Rattle.std.proofs.Common.{◌≡◌, ℕ, ◌<◌, List, [], ◌∷◌, Some, sym, ◌∙◌, ap, subst}
use Rattle.std.specs.Prelude.{is_some}
use Rattle.std.specs.List.{AllByRecursion}
use Rattle.opa_io.proofs.Lists.{each_weaker}
use Rattle.opa_date.specs.declared.TheConstants.{DAYS}
use Rattle.opa_model.specs.declared.ids.AttrId.{AttrId}
use Rattle.opa_model.specs.declared.ids.RelId.{RelId}
use Rattle.opa_cells.specs.declared.instance.InstanceId.{InstanceId}
use Rattle.opa_cells.specs.Instances.{named}
use Rattle.opa_case.specs.declared.question.Question.{Question}
use Rattle.opa_case.specs.declared.question.Question.TheVariants as question
use Rattle.opa_tree.specs.declared.rules.Rule.{Rule}
use Rattle.opa_tree.specs.Rules.{rule_of}
use Rattle.opa_mean.specs.Bases.{IsBase}
use Rattle.opa_mean.specs.Completion.{AreFacts}
use Rattle.opa_mean.specs.Laws.{Determination, Monotone, Supported, Asked, Relevant, SameUse, UsesFix, SameRead, ReadsFix}
use Rattle.opa_mean.specs.Mean.{Base, Facts, IsLive, look_of, concluded, fitted, mean}
use Rattle.opa_mean.specs.Meaning.{value}
use Rattle.opa_mean.specs.Places.{chain, place}
use Rattle.opa_mean.specs.Reads.{rule_reads, reads}
use Rattle.opa_mean.specs.Uses.{Use, Point, Listed, uses}
use Rattle.opa_mean.proofs.Chains.{places_same, place_live}
use Rattle.opa_mean.proofs.Completing.{known_stays, above_live}
use Rattle.opa_mean.proofs.Deciding.{unknown_has_need, only_needs_decide}
use Rattle.opa_mean.proofs.Determining.{determined}
use Rattle.opa_mean.proofs.Fixing.{value_fixed, Agrees}
use Rattle.opa_mean.proofs.Lineages.{same_lineage}
use Rattle.opa_mean.proofs.Reading.{reads_fix, Alike, lineage, both_met}
use Rattle.opa_mean.proofs.Supporting.{reports_fix}

pub determination_holds : Determination
determination_holds b c is a i d = determined b c is.falls a i d

pub monotone_holds : Monotone
monotone_holds b c c' are more a i d free live = known_stays b c c' are more a i d free live

pub supported_holds : Supported
supported_holds b c is are a i d live c' are' live' agrees = reports_fix b c is.falls are a i d live c' are' live' agrees

pub asked_holds : Asked
asked_holds b c is a i d = unknown_has_need b is c a i d

pub relevant_holds : Relevant
relevant_holds b c c' is are are' more a i d free live un open_ = only_needs_decide b is c c' are are' more a i d free live un open_

pub uses_fix_holds : UsesFix
uses_fix_holds s l l' e enclosing d chains same =
    value_fixed s l l' (λ i. chain l'.container i ≡ chain l.container i) (λ i. Unit {0}) (λ enclosing w e. places_same l.container l'.container enclosing w e) (λ enclosing w e i is. tt) e enclosing chains d
    (each_weaker (SameUse s l l') _ told (uses s l e enclosing d) same)
  where
    told : (u : Use) → SameUse s l l' u → Agrees s l l' (λ i. chain l'.container i ≡ chain l.container i) (λ i. Unit {0}) (λ enclosing w e. places_same l.container l'.container enclosing w e) (λ enclosing w e i is. tt) u
    told (Point a i d) h = λ _. h
    told (Listed r i) h = λ _. h

module _ (b : Base) (c c' : Facts) (is : IsBase b) (are : AreFacts b.shape c) (are' : AreFacts b.shape c') where
  -- live in both cases
  abbrev Both : InstanceId → Type 0
  Both i = IsLive c i × IsLive c' i

  met : (enclosing : List InstanceId) → AllByRecursion Both enclosing → (e : ℕ) → is_some (place c.container enclosing e) ≡ is_some (place c'.container enclosing e)
  met enclosing w e = both_met c.container c'.container enclosing (each_weaker Both (λ i. lineage c'.container i ≡ lineage c.container i) (λ i h. same_lineage b.shape c c' are are' i h.0 h.1) enclosing w) e

  live : (enclosing : List InstanceId) → AllByRecursion Both enclosing → (e : ℕ) (i : InstanceId) → place c.container enclosing e ≡ Some i → IsLive c i
  live enclosing w = place_live c.container (IsLive c) (above_live b.shape c are) enclosing (each_weaker Both (IsLive c) (λ i h. h.0) enclosing w)

  listed_within : (r : RelId) (i : InstanceId) (names : List (List ℕ)) → IsLive c i → c.members r i ≡ Some names → c'.members r i ≡ Some names → AllByRecursion (λ n. Both (named (b.shape.target r) n)) names
  listed_within r i names _ e e' = both names (are.listed r i names e) (are'.listed r i names e')
    where
      both : (names : List (List ℕ)) → AllByRecursion (λ n. IsLive c (named (b.shape.target r) n)) names → AllByRecursion (λ n. IsLive c' (named (b.shape.target r) n)) names → AllByRecursion (λ n. Both (named (b.shape.target r) n)) names
      both [] h h' = tt
      both (n ∷ names) h h' = ((h.0, h'.0), both names h.1 h'.1)

  read_as : (q : Question) → SameRead b c c' q → Alike b.shape (look_of c (mean b c)) (look_of c' (mean b c')) Both (IsLive c) met live listed_within q
  read_as (question.Attr a i) h = λ _ _. h
  read_as (question.Members r i) h = λ _. h

  line_fixed : (a : AttrId) (i : InstanceId) (rule : Rule) → rule_of b.rules a ≡ Some rule → IsLive c i → IsLive c' i
      → reads b.shape c.members c.container rule.expr (i ∷ []) ≡ reads b.shape c'.members c'.container rule.expr (i ∷ []) → AllByRecursion (SameRead b c c') (reads b.shape c.members c.container rule.expr (i ∷ [])) → (d : ℕ) → d < DAYS → mean b c a i d ≡ mean b c' a i d
  line_fixed a i rule e lives lives' same h d lt =
      determined b c is.falls a i d ∙ ap (λ o. concluded o (c.answer a i d) (λ e. fitted b.shape a (value b.shape (look_of c (mean b c)) e (i ∷ []) d))) e
      ∙ ap (fitted b.shape a) (reads_fix b.shape (look_of c (mean b c)) (look_of c' (mean b c')) Both (IsLive c) met live listed_within rule.expr (i ∷ []) ((lives, lives'), tt) same (each_weaker (SameRead b c c') _ read_as _ h) d lt)
      ∙ sym (ap (λ o. concluded o (c'.answer a i d) (λ e. fitted b.shape a (value b.shape (look_of c' (mean b c')) e (i ∷ []) d))) e) ∙ sym (determined b c' is.falls a i d)

pub reads_fix_holds : ReadsFix
reads_fix_holds b c c' is are are' a i rule e live live' same h d lt =
    line_fixed b c c' is are are' a i rule e live live'
    (sym (ap (λ o. rule_reads o (λ x. reads b.shape c.members c.container x (i ∷ []))) e) ∙ same ∙ ap (λ o. rule_reads o (λ x. reads b.shape c'.members c'.container x (i ∷ []))) e)
    (subst (AllByRecursion (SameRead b c c')) (ap (λ o. rule_reads o (λ x. reads b.shape c.members c.container x (i ∷ []))) e) h) d lt
