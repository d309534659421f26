-- A case that was loaded comes in.
use Rattle.std.proofs.Common.{◌≡◌, ◌∙◌, ◌+◌, inl, inr, ℕ, List, refl, sym, subst}
use Rattle.std.specs.Prelude.{Option, None, Some}
use Rattle.opa_io.specs.Outside.{Files}
use Rattle.opa_case.specs.Cases.{CaseView}
use Rattle.opa_session.specs.Infer.Sessions.{reached, Tells}
use Rattle.opa_listen.specs.Hearing.{Hearer}
use Rattle.opa_script.specs.declared.command.Command.TheVariants as command
use Rattle.opa_tree.specs.declared.rulebase.Rulebase.{Rulebase}
use Rattle.opa_reply.specs.Held.{Held, held}
use Rattle.opa_reply.specs.Loads.{Loads}
use Rattle.opa_reply.specs.Replies.{Comes, HaltsAt, LoadsFile, ReachesAll, Settles}
use Rattle.opa_reply.proofs.Changing.{comes}
use Rattle.opa_reply.proofs.Same.{same_held}

module _ (r r' : Rulebase) (c c' : CaseView) (n n' : ℕ) (hs hs' : List Hearer) (d d' : ℕ) (same : r' ≡ r) where
  pub settles : (b : CaseView) (count : ℕ) → c' ≡ b → n' ≡ reached r c b → d' ≡ d + reached r c b → Tells r c b hs hs' count → (files : Option Files) → Settles (held r c n hs files d) (Some b) (held r' c' n' hs' files d')
  settles b count is many more tells files =
      subst (λ x. Comes (held r c n hs files d) x (held r' c' n' hs' files d')) is
      (comes r r' c c' n n' hs hs' d d' same count (subst (λ x. n' ≡ reached r c x) (sym is) many) (subst (λ x. d' ≡ d + reached r c x) (sym is) more) (subst (λ x. Tells r c x hs hs' count) (sym is) tells) files)

pub settles_nothing : (x : Held) → Settles x None x
settles_nothing x = refl

pub ruleset settling = (settles, settles_nothing)

module _ (r r' : Rulebase) (c c' : CaseView) (n n' : ℕ) (hs hs' : List Hearer) (old new : Option Files) (d d' : ℕ) (name : List ℕ) (kept : new ≡ old) where
  -- the files stay where a file is loaded
  pub loads_file : (text : List ℕ) (o : Option CaseView) → Loads r old name text o → ((files : Option Files) → Settles (held r c n hs files d) o (held r' c' n' hs' files d'))
      → LoadsFile (held r c n hs old d) name text (held r' c' n' hs' new d')
  loads_file text o loads settled =
      record { case = o; loads = loads; settles = subst (λ f. Settles (held r c n hs old d) o (held r' c' n' hs' f d')) (sym kept) (settled old) }

  module _ (keep keep' : ℕ) where
    -- nothing was loaded
    pub load_halts : r' ≡ r → c' ≡ c → n' ≡ n → hs' ≡ hs → d' ≡ d → HaltsAt keep keep' (command.Load name) (held r c n hs old d) (held r' c' n' hs' new d')
    load_halts er ec en eh ed = inl (same_held r r' c c' n n' hs hs' old new d d' er ec en eh kept ed)

    -- memory ran out while the case came in
    pub load_short : (text : List ℕ) (o : Option CaseView) → Loads r old name text o → r' ≡ r → c' ≡ c → n' ≡ n → hs' ≡ hs → ReachesAll r c d d' o
        → HaltsAt keep keep' (command.Load name) (held r c n hs old d) (held r' c' n' hs' new d')
    load_short text None loads er ec en eh few = absurd few
    load_short text (Some b) loads er ec en eh few =
        inr (inr (record { case = b; brings = (text, loads); few = few; others = same_held r r' c c' n n' hs hs' old new d' d' er ec en eh kept refl }))

pub ruleset loading = (loads_file, load_halts, load_short)
