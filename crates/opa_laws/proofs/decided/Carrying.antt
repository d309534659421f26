-- A command is carried out in one way.
use Rattle.std.proofs.Common.{◌+◌, ◌≡◌, ℕ, List, [], map, Result, Ok, Err, refl, sym, ap, subst, ◌∙◌}
use Rattle.std.specs.Prelude.{Option, None, Some, MatchOption, MatchResult, slice_get}
use Rattle.std.specs.List.{remove}
use Rattle.std.specs.FinMap as files
use Rattle.opa_io.specs.Outside.{Files}
use Rattle.opa_case.specs.Cases.{CaseView}
use Rattle.opa_case.specs.Shapes.{shape_of}
use Rattle.opa_case.specs.Steps.{step}
use Rattle.opa_case.specs.declared.change.Refusal.{Refusal}
use Rattle.opa_mean.specs.Changes.{changes}
use Rattle.opa_mean.specs.Given.{base_of, facts_of}
use Rattle.opa_listen.specs.declared.change.Change.{Change}
use Rattle.opa_listen.specs.Hearing.{Hearer, hearing, words_of}
use Rattle.opa_session.specs.Telling.Telling.{ToldOnce}
use Rattle.opa_session.specs.Infer.Sessions.{reached}
use Rattle.opa_script.specs.declared.command.Command.{Command}
use Rattle.opa_script.specs.declared.command.Command.TheVariants as command
use Rattle.opa_saved.specs.Saved.{saved_text}
use Rattle.opa_reply.specs.Reporting.Laws.{OneReportTold}
use Rattle.opa_reply.specs.Dismissals.{IsDismissed}
use Rattle.opa_reply.specs.Held.{Held, held, with_files, with_hearers}
use Rattle.opa_reply.specs.Refused.{refused_change, refused_dismiss}
use Rattle.opa_reply.specs.Loads.{Loads}
use Rattle.opa_reply.specs.Replies.{HasKept, Comes, Settles, Saves, LoadsFile, Dismisses, CarriesOut}
use Rattle.opa_laws.specs.Decided.Laws.{IsTold}
use Rattle.opa_laws.proofs.decided.FileLoading.{one_loaded_holds}

-- ---- one outcome

abbrev pub AreSame : List ℕ → List ℕ → Held → Held → Type 0
AreSame t u y z = (t ≡ u) × (y ≡ z)

both : (v t u : List ℕ) (x y z : Held) → (t ≡ v) × (y ≡ x) → (u ≡ v) × (z ≡ x) → AreSame t u y z
both v t u x y z h k = (h.0 ∙ sym k.0, h.1 ∙ sym k.1)

-- the files after the case was kept
files_kept : (x y : Held) (name t : List ℕ) (told : IsTold x) → Saves x name t y → y.files ≡ Some (files.insert told.0 name (saved_text x.rules.model x.case))
files_kept x y name t told h = subst (λ o. HasKept name (saved_text x.rules.model x.case) o y.files) told.1 h.kept

saves_one : (x y z : Held) (name t u : List ℕ) → IsTold x → Saves x name t y → Saves x name u z → AreSame t u y z
saves_one x y z name t u told h k =
    let same = files_kept x y name t told h ∙ sym (files_kept x z name u told k) in
    (h.says ∙ sym k.says, h.others ∙ ap (with_files x) same ∙ sym k.others)

-- listeners are dismissed in one way
dismissed_one : (hs ys zs : List Hearer) (t u : List ℕ) (n : ℕ) (o : Option Hearer)
    → MatchOption o ((t ≡ refused_dismiss) × (ys ≡ hs)) (λ h. (t ≡ words_of h) × (ys ≡ remove hs n))
    → MatchOption o ((u ≡ refused_dismiss) × (zs ≡ hs)) (λ h. (u ≡ words_of h) × (zs ≡ remove hs n)) → (t ≡ u) × (ys ≡ zs)
dismissed_one hs ys zs t u n None h k = (h.0 ∙ sym k.0, h.1 ∙ sym k.1)
dismissed_one hs ys zs t u n (Some x) h k = (h.0 ∙ sym k.0, h.1 ∙ sym k.1)

dismisses_one : (x y z : Held) (n : ℕ) (t u : List ℕ) → Dismisses x n t y → Dismisses x n u z → AreSame t u y z
dismisses_one x y z n t u h k =
    let s = dismissed_one x.hearers y.hearers z.hearers t u n (slice_get x.hearers n) h.dismissed k.dismissed in
    (s.0, h.others ∙ ap (with_hearers x) s.1 ∙ sym k.others)

module _ (once : ToldOnce) where
  -- another case comes in in one way
  comes_one : (x y z : Held) (c : CaseView) → Comes x c y → Comes x c z → y ≡ z
  comes_one x y z c h k =
      let same : h.told ≡ k.told = once x.rules.model (changes (base_of x.rules) (facts_of x.case) (facts_of c)) h.told k.told h.changes k.changes in
      h.after ∙ ap (λ (told : List Change). held x.rules c (reached x.rules x.case c) (map (hearing told) x.hearers) x.files (x.derived + reached x.rules x.case c)) same ∙ sym k.after

  changes_one : (x y z : Held) (t u : List ℕ) (s : Result CaseView Refusal)
      → MatchResult s (λ c. (t ≡ []) × Comes x c y) (λ e. (t ≡ refused_change e) × (y ≡ x))
      → MatchResult s (λ c. (u ≡ []) × Comes x c z) (λ e. (u ≡ refused_change e) × (z ≡ x)) → AreSame t u y z
  changes_one x y z t u (Ok c) h k = (h.0 ∙ sym k.0, comes_one x y z c h.1 k.1)
  changes_one x y z t u (Err e) h k = both (refused_change e) t u x y z h k

  settles_one : (x y z : Held) (o : Option CaseView) → Settles x o y → Settles x o z → y ≡ z
  settles_one x y z None h k = h ∙ sym k
  settles_one x y z (Some c) h k = comes_one x y z c h k

  loads_one : (x y z : Held) (name t u : List ℕ) → IsTold x → LoadsFile x name t y → LoadsFile x name u z → AreSame t u y z
  loads_one x y z name t u told h k =
      let a = subst (λ o. Loads x.rules o name t h.case) told.1 h.loads in
      let b = subst (λ o. Loads x.rules o name u k.case) told.1 k.loads in
      let s = one_loaded_holds x.rules told.0 name t u h.case k.case a b in
      (s.0, settles_one x y z k.case (subst (λ o. Settles x o y) s.1 h.settles) k.settles)

  module _ (one_report : OneReportTold) where
    pub carried_one : (c : Command) (x y z : Held) (t u : List ℕ) → IsTold x → CarriesOut c x t y → CarriesOut c x u z → AreSame t u y z
    carried_one command.Nothing x y z t u told h k = (h.0 ∙ sym k.0, h.1 ∙ sym k.1)
    carried_one (command.Change c) x y z t u told h k = changes_one x y z t u (step (shape_of x.rules.model) x.rules.ruled x.case c) h k
    carried_one (command.ShowAttr a i) x y z t u told h k = (h.0 ∙ sym k.0, h.1 ∙ sym k.1)
    carried_one (command.ShowMembers n i) x y z t u told h k = (h.0 ∙ sym k.0, h.1 ∙ sym k.1)
    carried_one (command.Save name) x y z t u told h k = saves_one x y z name t u told h k
    carried_one (command.Load name) x y z t u told h k = loads_one x y z name t u told h k
    carried_one command.Goals x y z t u told h k = (h.0 ∙ sym k.0, h.1 ∙ sym k.1)
    carried_one command.Next x y z t u told h k = (h.0 ∙ sym k.0, h.1 ∙ sym k.1)
    carried_one command.Screen x y z t u told h k = (h.0 ∙ sym k.0, h.1 ∙ sym k.1)
    carried_one (command.Report a i d) x y z t u told h k = (one_report x.rules x.case a i d t u h.0 k.0, h.1 ∙ sym k.1)
    carried_one command.Stats x y z t u told h k = (h.0 ∙ sym k.0, h.1 ∙ sym k.1)
    carried_one (command.Dismiss n) x y z t u told h k = dismisses_one x y z n t u h k

-- ---- what stays

-- the rulebase is the same one, and files that are told are told again
abbrev pub Stays : Held → Held → Type 0
Stays x y = (y.rules ≡ x.rules) × (IsTold x → IsTold y)

pub stays_same : (x y : Held) → y ≡ x → Stays x y
stays_same x y e = (ap (λ (h : Held). h.rules) e, λ told. (told.0, ap (λ (h : Held). h.files) e ∙ told.1))

comes_stay : (x y : Held) (c : CaseView) → Comes x c y → Stays x y
comes_stay x y c h = (ap (λ (s : Held). s.rules) h.after, λ told. (told.0, ap (λ (s : Held). s.files) h.after ∙ told.1))

changes_stay : (x y : Held) (t : List ℕ) (s : Result CaseView Refusal) → MatchResult s (λ c. (t ≡ []) × Comes x c y) (λ e. (t ≡ refused_change e) × (y ≡ x)) → Stays x y
changes_stay x y t (Ok c) h = comes_stay x y c h.1
changes_stay x y t (Err e) h = stays_same x y h.1

settles_stay : (x y : Held) (o : Option CaseView) → Settles x o y → Stays x y
settles_stay x y None h = stays_same x y h
settles_stay x y (Some c) h = comes_stay x y c h

saves_stay : (x y : Held) (name t : List ℕ) → Saves x name t y → Stays x y
saves_stay x y name t h = (ap (λ (s : Held). s.rules) h.others, λ told. (files.insert told.0 name (saved_text x.rules.model x.case), files_kept x y name t told h))

dismisses_stay : (x y : Held) (n : ℕ) (t : List ℕ) → Dismisses x n t y → Stays x y
dismisses_stay x y n t h = (ap (λ (s : Held). s.rules) h.others, λ told. (told.0, ap (λ (s : Held). s.files) h.others ∙ told.1))

pub carried_stays : (c : Command) (x y : Held) (t : List ℕ) → CarriesOut c x t y → Stays x y
carried_stays command.Nothing x y t h = stays_same x y h.1
carried_stays (command.Change c) x y t h = changes_stay x y t (step (shape_of x.rules.model) x.rules.ruled x.case c) h
carried_stays (command.ShowAttr a i) x y t h = stays_same x y h.1
carried_stays (command.ShowMembers n i) x y t h = stays_same x y h.1
carried_stays (command.Save name) x y t h = saves_stay x y name t h
carried_stays (command.Load name) x y t h = settles_stay x y h.case h.settles
carried_stays command.Goals x y t h = stays_same x y h.1
carried_stays command.Next x y t h = stays_same x y h.1
carried_stays command.Screen x y t h = stays_same x y h.1
carried_stays (command.Report a i d) x y t h = stays_same x y h.1
carried_stays command.Stats x y t h = stays_same x y h.1
carried_stays (command.Dismiss n) x y t h = dismisses_stay x y n t h
