-- The files of a shelf open one thing.
use Rattle.std.proofs.Common.{◌≡◌, ◌∙◌, ℕ, List, [], Result, Ok, Err, ap, ap₂, subst}
use Rattle.opa_io.specs.Outside.{Files}
use Rattle.opa_tree.specs.declared.faults.RbFault.{RbFault}
use Rattle.opa_tree.specs.declared.rulebase.Rulebase.{Rulebase}
use Rattle.opa_rulebase.specs.declared.files.fault.Unread.{Unread}
use Rattle.opa_rulebase.specs.declared.files.source.SourceFile.{SourceFile}
use Rattle.opa_rulebase.specs.Files.Files.{AreFiles}
use Rattle.opa_rulebase.specs.Loading as l
use Rattle.opa_rulebase.specs.Loading.{IsAccepted, IsRefused, Opens, refusal_in}
use Rattle.opa_rulebase.specs.Printed.{refusal_text}
use Rattle.opa_laws.specs.Decided.Opening.{OneOpening}
use Rattle.opa_laws.proofs.decided.Accepted.{one_base_holds}
use Rattle.opa_laws.proofs.decided.Refused.{one_refusal_holds, accepted_or_refused_hold}
use Rattle.opa_laws.proofs.decided.Taken.{one_taken_holds}

module _ (files : Files) (name : List ℕ) where
  same_sources : (fs gs : List SourceFile) → AreFiles files name (Ok fs) → AreFiles files name (Ok gs) → fs ≡ gs
  same_sources fs gs h k = let same : Ok fs ≡ Ok gs = one_taken_holds files name (Ok fs) (Ok gs) h k in cc same

  same_unread : (u v : Unread) → AreFiles files name (Err u) → AreFiles files name (Err v) → u ≡ v
  same_unread u v h k = let same : Err u ≡ Err v = one_taken_holds files name (Err u) (Err v) h k in cc same

  not_both : (fs : List SourceFile) (u : Unread) → AreFiles files name (Ok fs) → AreFiles files name (Err u) → ⊥
  not_both fs u h k = let same : Ok fs ≡ Err u = one_taken_holds files name (Ok fs) (Err u) h k in cc same

  abbrev Only : Result Rulebase (List ℕ) → Type 0
  Only a = (b : Result Rulebase (List ℕ)) → Opens files name b → a ≡ b

  after_accepted : (fs : List SourceFile) (base : Rulebase) → AreFiles files name (Ok fs) → IsAccepted fs base → Only (Ok base)
  after_accepted fs base are is b (l.Opens.accepts gs other also k) = ap (λ (x : Rulebase). Ok x) (one_base_holds gs base other (subst (λ x. IsAccepted x base) (same_sources fs gs are also) is) k)
  after_accepted fs base are is b (l.Opens.cannot_take u k) = absurd (not_both fs u are k)
  after_accepted fs base are is b (l.Opens.refuses gs fault circle also k) = absurd (accepted_or_refused_hold gs base fault circle (subst (λ x. IsAccepted x base) (same_sources fs gs are also) is) k)

  after_untaken : (u : Unread) → AreFiles files name (Err u) → Only (Err (refusal_text u.fault.kind u.name u.fault.line []))
  after_untaken u is b (l.Opens.accepts gs other also k) = absurd (not_both gs u also is)
  after_untaken u is b (l.Opens.cannot_take v k) = ap (λ (x : Unread). Err (refusal_text x.fault.kind x.name x.fault.line [])) (same_unread u v is k)
  after_untaken u is b (l.Opens.refuses gs fault circle also k) = absurd (not_both gs u also is)

  after_refused : (fs : List SourceFile) (fault : RbFault) (circle : List (List ℕ)) → AreFiles files name (Ok fs) → IsRefused fs fault circle → Only (Err (refusal_in fs fault circle))
  after_refused fs fault circle are is b (l.Opens.accepts gs other also k) =
      absurd (accepted_or_refused_hold gs other fault circle k (subst (λ x. IsRefused x fault circle) (same_sources fs gs are also) is))
  after_refused fs fault circle are is b (l.Opens.cannot_take u k) = absurd (not_both fs u are k)
  after_refused fs fault circle are is b (l.Opens.refuses gs other round also k) =
      let sources : fs ≡ gs = same_sources fs gs are also in
      let same = one_refusal_holds gs fault other circle round (subst (λ x. IsRefused x fault circle) sources is) k in
      ap (λ x. Err (refusal_in x fault circle)) sources ∙ ap₂ (λ (x : RbFault) (y : List (List ℕ)). Err (refusal_in gs x y)) same.0 same.1

  one_opening : {a : Result Rulebase (List ℕ)} → Opens files name a → Only a
  one_opening (l.Opens.accepts fs base are is) = after_accepted fs base are is
  one_opening (l.Opens.cannot_take u is) = after_untaken u is
  one_opening (l.Opens.refuses fs fault circle are is) = after_refused fs fault circle are is

pub one_opening_holds : OneOpening
one_opening_holds files name a b h k = one_opening files name h b k
