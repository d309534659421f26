-- What listeners hear of changes, as functions of whatever is seen as a listener.
use Rattle.std.proofs.Common.{◌≡◌, ◌∙◌, ℕ, Result, Ok, Err, OnErr, List, [], ◌∷◌, map, sym, ap, refl, subst}
use Rattle.std.specs.List.{AllZip}
use Rattle.opa_listen.specs.declared.change.Change.{Change}
use Rattle.opa_listen.specs.Listening.{ListenerView}
use Rattle.opa_listen.specs.Hearing.{Hearer, hearer, hearing}
use Rattle.opa_listen.specs.Telling.{HasRoomOf, EachKeeps, each_watched, AreTold}
use Rattle.opa_listen.proofs.HearingLaws.{same_hearers, told_hearers}
use Rattle.opa_listen.proofs.Readiness.{keeping_is_told}
use Rattle.opa_listen.proofs.ToldLaws.{told_before}
use Rattle.opa_case.specs.Cases.{CaseView}
use Rattle.opa_tree.specs.declared.rulebase.Rulebase.{Rulebase}
use Rattle.opa_session.specs.Infer.Ready.{IsReady}
use Rattle.opa_session.specs.Infer.Sessions.{AreChanges, Tells}

-- what holds anyway holds at an error
pub at_error : {T E : Type 0} (P : Type 0) (r : Result T E) → P → OnErr r P
at_error P (Ok x) h = tt
at_error P (Err e) h = h

module _ {X : Type 0} (view : X → ListenerView) where
  heard_of : (xs : List X) → map hearer (map view xs) ≡ map (λ x. hearer (view x)) xs
  heard_of [] = refl
  heard_of (x ∷ xs) = ap (λ hs. hearer (view x) ∷ hs) (heard_of xs)

  -- more room changes nothing of what is heard
  pub same_heard : (xs ys : List X) → AllZip HasRoomOf (map view xs) (map view ys) → map (λ x. hearer (view x)) ys ≡ map (λ x. hearer (view x)) xs
  same_heard xs ys h = sym (heard_of ys) ∙ same_hearers (map view xs) (map view ys) h ∙ heard_of xs

  -- who got ready and then kept what it watches of changes heard them
  pub told_heard : (changes : List Change) (lists : List (List Change)) (xs ys zs : List X) → AllZip HasRoomOf (map view xs) (map view ys) → lists ≡ each_watched changes (map view ys)
      → EachKeeps lists (map view ys) (map view zs) → map (λ x. hearer (view x)) zs ≡ map (hearing changes) (map (λ x. hearer (view x)) xs)
  told_heard changes lists xs ys zs room same kept =
      let keeps = subst (λ css. EachKeeps css (map view ys) (map view zs)) same kept in
      let told : AreTold changes (map view xs) (map view zs) = told_before changes (map view xs) (map view ys) (map view zs) room (keeping_is_told changes (map view ys) (map view zs) keeps) in
      sym (heard_of zs) ∙ told_hearers changes (map view xs) (map view zs) told ∙ ap (map (hearing changes)) (heard_of xs)

  -- what was ready and is told then
  pub tells : (r : Rulebase) (c c' : CaseView) (lists : List (List Change)) (count : ℕ) (xs ys zs : List X) → IsReady r c c' (map view xs) (map view ys) lists count → EachKeeps lists (map view ys) (map view zs)
      → Tells r c c' (map (λ x. hearer (view x)) xs) (map (λ x. hearer (view x)) zs) count
  tells r c c' lists count xs ys zs h kept = record { told = h.told; changes = h.changes; heard = told_heard h.told lists xs ys zs h.room h.watched kept; count_is = h.count_is }

-- changes between the same cases
pub same_changes : (r r' : Rulebase) (c c' d d' : CaseView) (told : List Change) → r' ≡ r → c' ≡ c → d' ≡ d → AreChanges r' c' d' told → AreChanges r c d told
same_changes r r' c c' d d' told er ec ed h =
    subst (λ x. AreChanges x c d told) er (subst (λ x. AreChanges r' x d told) ec (subst (λ x. AreChanges r' c' x told) ed h))

-- changes to the same case are heard
pub tells_to : (r : Rulebase) (c c' d : CaseView) (before after : List Hearer) (count : ℕ) → c' ≡ d → Tells r c c' before after count → Tells r c d before after count
tells_to r c c' d before after count e h = subst (λ (x : CaseView). Tells r c x before after count) e h
