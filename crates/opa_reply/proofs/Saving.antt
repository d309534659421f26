-- What keeping the case under a name leaves.
use Rattle.std.proofs.Common.{◌≡◌, inl, inr, List, [], ◌∷◌, ◌++◌, codes, ℕ, Ok, Err, refl, ap, subst}
use Rattle.std.specs.Prelude.{Option, None, Some}
use Rattle.opa_io.specs.Outside.{Files, Keeps, Rose}
use Rattle.opa_case.specs.Cases.{CaseView}
use Rattle.opa_listen.specs.Hearing.{Hearer}
use Rattle.opa_script.specs.declared.command.Command.TheVariants as command
use Rattle.opa_saved.specs.Saved.{saved_text}
use Rattle.opa_tree.specs.declared.rulebase.Rulebase.{Rulebase}
use Rattle.opa_reply.specs.Held.{Held, held}
use Rattle.opa_reply.specs.Replies.{HasKept, OthersStay, Saves, HaltsAt}

has_kept : (E : Type 0) (old new : Option Files) (name bytes : List ℕ) (u : Unit {0}) → Keeps {E = E} old new name bytes (Ok u) → HasKept name bytes old new
has_kept E None new name bytes u k = tt
has_kept E (Some old) None name bytes u k = absurd k
has_kept E (Some old) (Some new) name bytes u k = ap Some k

others_stay : (E : Type 0) (old new : Option Files) (name bytes : List ℕ) (e : E) → Keeps {E = E} old new name bytes (Err e) → OthersStay name old new
others_stay E None new name bytes e k = tt
others_stay E (Some old) None name bytes e k = absurd k
others_stay E (Some old) (Some new) name bytes e k = k

module _ (E : Type 0) (r : Rulebase) (c : CaseView) (n : ℕ) (old new : Option Files) (name bytes : List ℕ) (is : bytes ≡ saved_text r.model c) where
  pub saves : (u : Unit {0}) (text : List ℕ) → text ≡ codes "saved" ++ 10 ∷ [] → Keeps {E = E} old new name bytes (Ok u) → (hearers : List Hearer) (steps : ℕ) → Saves (held r c n hearers old steps) name text (held r c n hearers new steps)
  saves u text says k hearers steps = record { says = says; others = refl; kept = subst (λ b. HasKept name b old new) is (has_kept E old new name bytes u k) }

module _ (keep keep' : ℕ) where
  pub halts : (E : Type 0) (r : Rulebase) (c : CaseView) (n : ℕ) (old new : Option Files) (name bytes : List ℕ) (e : E) → Keeps {E = E} old new name bytes (Err e) → Rose keep keep'
      → (hearers : List Hearer) (steps : ℕ) → HaltsAt keep keep' (command.Save name) (held r c n hearers old steps) (held r c n hearers new steps)
  halts E r c n old new name bytes e k rose hearers steps = inr (inl (rose, (name, refl, (refl, others_stay E old new name bytes e k))))

  pub as_it_was : (r : Rulebase) (c : CaseView) (n : ℕ) (files : Option Files) (name : List ℕ) → (hearers : List Hearer) (steps : ℕ) → HaltsAt keep keep' (command.Save name) (held r c n hearers files steps) (held r c n hearers files steps)
  as_it_was r c n files name hearers steps = inl refl

pub ruleset saving = (saves, halts, as_it_was)
