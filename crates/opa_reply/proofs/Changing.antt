-- A change is made whole, or refused, or memory runs out.
use Rattle.std.proofs.Common.{◌≡◌, ◌≤◌, ◌+◌, inl, inr, List, [], ℕ, map, Result, Ok, Err, refl, subst, sym}
use Rattle.std.specs.Prelude.{Option, MatchResult}
use Rattle.opa_io.specs.Outside.{Files}
use Rattle.opa_case.specs.Cases.{CaseView}
use Rattle.opa_case.specs.Shapes.{shape_of}
use Rattle.opa_case.specs.Steps.{step}
use Rattle.opa_case.specs.declared.change.ChangeCommand.{ChangeCommand}
use Rattle.opa_case.specs.declared.change.Refusal.{Refusal}
use Rattle.opa_session.specs.Infer.Sessions.{reached, Tells}
use Rattle.opa_listen.specs.Hearing.{Hearer, hearing}
use Rattle.opa_script.specs.declared.command.Command.TheVariants as command
use Rattle.opa_tree.specs.declared.rulebase.Rulebase.{Rulebase}
use Rattle.opa_reply.specs.Held.{Held, held}
use Rattle.opa_reply.specs.Refused.{refused_change}
use Rattle.opa_reply.specs.Replies.{Changes, Comes, HaltsAt}
use Rattle.opa_reply.proofs.Same.{same_held}

module _ (r r' : Rulebase) (c c' : CaseView) (n n' : ℕ) (hs hs' : List Hearer) (d d' : ℕ) (same : r' ≡ r) where
  pub comes : (count : ℕ) → n' ≡ reached r c c' → d' ≡ d + reached r c c' → Tells r c c' hs hs' count → (files : Option Files) → Comes (held r c n hs files d) c' (held r' c' n' hs' files d')
  comes count many more tells files = record {
    told = tells.told;
    changes = tells.changes;
    after = same_held r r' c' c' (reached r c c') n' (map (hearing tells.told) hs) hs' files files (d + reached r c c') d' same refl many tells.heard refl more;
  }

  pub changed : (k : ChangeCommand) (count : ℕ) → step (shape_of r.model) r.ruled c k ≡ Ok c' → n' ≡ reached r c c' → d' ≡ d + reached r c c' → Tells r c c' hs hs' count
      → (files : Option Files) → Changes (held r c n hs files d) k [] (held r' c' n' hs' files d')
  changed k count is many more tells files =
      let none : List ℕ = [] in
      let P : Result CaseView Refusal → Type 0 = λ o. MatchResult o (λ b. (none ≡ []) × Comes (held r c n hs files d) b (held r' c' n' hs' files d')) (λ e. (none ≡ refused_change e) × (held r' c' n' hs' files d' ≡ held r c n hs files d)) in
      subst P (sym is) (refl, comes count many more tells files)

  module _ (kept : c' ≡ c) (many : n' ≡ n) (quiet : hs' ≡ hs) where
    pub refused : (k : ChangeCommand) (e : Refusal) (text : List ℕ) → step (shape_of r.model) r.ruled c k ≡ Err e → d' ≡ d → text ≡ refused_change e
        → (files : Option Files) → Changes (held r c n hs files d) k text (held r' c' n' hs' files d')
    refused k e text is none said files =
        let P : Result CaseView Refusal → Type 0 = λ o. MatchResult o (λ b. (text ≡ []) × Comes (held r c n hs files d) b (held r' c' n' hs' files d')) (λ f. (text ≡ refused_change f) × (held r' c' n' hs' files d' ≡ held r c n hs files d)) in
        subst P (sym is) (said, same_held r r' c c' n n' hs hs' files files d d' same kept many quiet refl none)

    short_by : (k : ChangeCommand) (files : Option Files) (o : Result CaseView Refusal) → step (shape_of r.model) r.ruled c k ≡ o
        → ((b : CaseView) → o ≡ Ok b → d' ≤ d + reached r c b) → ((e : Refusal) → o ≡ Err e → d' ≡ d)
        → (keep keep' : ℕ) → HaltsAt keep keep' (command.Change k) (held r c n hs files d) (held r' c' n' hs' files d')
    short_by k files (Ok b) is few none keep keep' =
        inr (inr (record { case = b; brings = is; few = few b refl; others = same_held r r' c c' n n' hs hs' files files d' d' same kept many quiet refl refl }))
    short_by k files (Err e) is few none keep keep' = inl (same_held r r' c c' n n' hs hs' files files d d' same kept many quiet refl (none e refl))

    -- memory ran out: no more lines were derived than the change reaches, and none where it is refused
    pub short : (k : ChangeCommand) → ((b : CaseView) → step (shape_of r.model) r.ruled c k ≡ Ok b → d' ≤ d + reached r c b) → ((e : Refusal) → step (shape_of r.model) r.ruled c k ≡ Err e → d' ≡ d)
        → (files : Option Files) (keep keep' : ℕ) → HaltsAt keep keep' (command.Change k) (held r c n hs files d) (held r' c' n' hs' files d')
    short k few none files = short_by k files (step (shape_of r.model) r.ruled c k) refl few none

pub ruleset changing = (changed, refused)
