-- At most one command, and a fault only where there is none.
use Rattle.std.proofs.Common.{◌≡◌, ℕ, List, ◌∷◌, true, false, refl, sym, ap, subst, ◌∙◌, inl, inr}
use Rattle.std.specs.Prelude.{Some}
use Rattle.opa_model.specs.declared.lists.Lists.{Lists}
use Rattle.opa_words.specs.Pieces.{Piece, word}
use Rattle.opa_words.proofs.LawsHold.{one_cutting_holds}
use Rattle.opa_script.specs.declared.command.Command.{Command}
use Rattle.opa_script.specs.declared.fault.CmdFault.{CmdFault}
use Rattle.opa_script.specs.declared.fault.CmdFault.TheVariants as fault
use Rattle.opa_script.specs.declared.verbs.Verb.{Verb}
use Rattle.opa_script.specs.declared.verbs.Verb.TheVariants as verb
use Rattle.opa_script.specs.Lines.{is_idle, HasTokens}
use Rattle.opa_script.specs.Shapes.{Begins, verb_named, HasShape}
use Rattle.opa_script.specs.Commands.{HasSort, Says, IsRead, IsRefused, AreCommand, AreNone}
use Rattle.opa_script.specs.Laws.{RefusedOrRead}
use Rattle.opa_script.proofs.Exits.{is_attribute, is_relation, shows_sort}

-- ---- what is read has the sort, and what has the sort has the shape

says_sort : (m : Lists) (v : Verb) (ps : List Piece) (c : Command) → Says m v ps c → HasSort m v ps
says_sort m verb.Answer ps c h = (h.0, h.1, h.5, is_attribute m h.0 h.2 h.3 h.6)
says_sort m verb.Withdraw ps c h = (h.0, h.3, is_attribute m h.0 h.1 h.2 h.4)
says_sort m verb.SetList ps c h = (h.0, h.1, h.5, is_relation m h.0 h.2 h.3 h.6)
says_sort m verb.Forget ps c h = (h.0, h.3, is_relation m h.0 h.1 h.2 h.4)
says_sort m verb.Show ps c h = (h.0, h.1, shows_sort m h.0 c h.2)
says_sort m verb.Report ps c h = (h.0, h.1, h.5, is_attribute m h.0 h.2 h.3 h.6)
says_sort m verb.Save ps c h = (h.0, h.1)
says_sort m verb.Load ps c h = (h.0, h.1)
says_sort m verb.Dismiss ps c h = (h.0, h.2)
says_sort m verb.Goals ps c h = h.0
says_sort m verb.Next ps c h = h.0
says_sort m verb.Screen ps c h = h.0
says_sort m verb.Stats ps c h = h.0

sort_shape : (m : Lists) (v : Verb) (ps : List Piece) → HasSort m v ps → HasShape v ps
sort_shape m verb.Answer ps h = (h.0, h.1, h.2)
sort_shape m verb.Withdraw ps h = (h.0, h.1)
sort_shape m verb.SetList ps h = (h.0, h.1, h.2)
sort_shape m verb.Forget ps h = (h.0, h.1)
sort_shape m verb.Show ps h = (h.0, h.1)
sort_shape m verb.Report ps h = (h.0, h.1, h.2)
sort_shape m verb.Save ps h = h
sort_shape m verb.Load ps h = h
sort_shape m verb.Dismiss ps h = h
sort_shape m verb.Goals ps h = h
sort_shape m verb.Next ps h = h
sort_shape m verb.Screen ps h = h
sort_shape m verb.Stats ps h = h

-- ---- the same tokens, the same command's word

pub same_tokens : (bytes : List ℕ) (ps qs : List Piece) → HasTokens bytes ps → HasTokens bytes qs → ps ≡ qs
same_tokens bytes ps qs h k = one_cutting_holds bytes ps qs h.2 k.2

pub same_begin : (v w : Verb) (ps rest left : List Piece) → Begins v ps rest → Begins w ps left → (v ≡ w) × (rest ≡ left)
same_begin v w ps rest left h k =
    let e : word h.0 ∷ rest ≡ word k.0 ∷ left = sym h.1 ∙ k.1 in
    let t : word h.0 ≡ word k.0 = cc e in
    let r : rest ≡ left = cc e in
    let n : Some v ≡ Some w = sym h.2 ∙ ap (λ (p : Piece). verb_named p.text) t ∙ k.2 in
    let s : v ≡ w = cc n in
    (s, r)

pub idle_apart : (bytes : List ℕ) → is_idle bytes ≡ true → is_idle bytes ≡ false → ⊥
idle_apart bytes h k = absurd (let e : true ≡ false = sym h ∙ k in cc e)

pub moved : (m : Lists) (v w : Verb) (ps qs : List Piece) (f : CmdFault) → v ≡ w → ps ≡ qs → IsRefused m v ps f → IsRefused m w qs f
moved m v w ps qs f e g h = subst (λ x. IsRefused m w x f) g (subst (λ x. IsRefused m x ps f) e h)

-- what is read isn't refused
read_not_refused : (m : Lists) (v : Verb) (ps : List Piece) (c : Command) (f : CmdFault) → IsRead m v ps c → IsRefused m v ps f → f ≡ fault.NoMemory
read_not_refused m v ps c fault.NotACommand r h = absurd (h (sort_shape m v ps (says_sort m v ps c r.1)))
read_not_refused m v ps c fault.Name r h = absurd (h.1 (says_sort m v ps c r.1))
read_not_refused m v ps c fault.Value r h = absurd (h.1 c r)
read_not_refused m v ps c fault.NoMemory r h = refl

tokens_refused : (m : Lists) (ps : List Piece) (c : Command) (f : CmdFault) → AreCommand m ps c → AreNone m ps f → f ≡ fault.NoMemory
tokens_refused m ps c fault.NotACommand r h = absurd (h r.0 r.1 r.2 (sort_shape m r.0 r.1 (says_sort m r.0 r.1 c r.3.1)))
tokens_refused m ps c fault.Name r h =
    let s = same_begin h.0 r.0 ps h.1 r.1 h.2 r.2 in read_not_refused m r.0 r.1 c fault.Name r.3 (moved m h.0 r.0 h.1 r.1 fault.Name s.0 s.1 h.3)
tokens_refused m ps c fault.Value r h =
    let s = same_begin h.0 r.0 ps h.1 r.1 h.2 r.2 in read_not_refused m r.0 r.1 c fault.Value r.3 (moved m h.0 r.0 h.1 r.1 fault.Value s.0 s.1 h.3)
tokens_refused m ps c fault.NoMemory r h = refl

pub refused_or_read_holds : RefusedOrRead
refused_or_read_holds m bytes c fault.NotACommand (inl a) h = absurd (idle_apart bytes a.0 h.0)
refused_or_read_holds m bytes c fault.Name (inl a) h = absurd (idle_apart bytes a.0 h.0)
refused_or_read_holds m bytes c fault.Value (inl a) h = absurd (idle_apart bytes a.0 h.0)
refused_or_read_holds m bytes c fault.NoMemory (inl a) h = refl
refused_or_read_holds m bytes c fault.NotACommand (inr b) h = tokens_refused m b.1.0 c fault.NotACommand b.1.2 (h.1 b.1.0 b.1.1)
refused_or_read_holds m bytes c fault.Name (inr b) h =
    tokens_refused m b.1.0 c fault.Name b.1.2 (subst (λ x. AreNone m x fault.Name) (same_tokens bytes h.1.0 b.1.0 h.1.1 b.1.1) h.1.2)
refused_or_read_holds m bytes c fault.Value (inr b) h =
    tokens_refused m b.1.0 c fault.Value b.1.2 (subst (λ x. AreNone m x fault.Value) (same_tokens bytes h.1.0 b.1.0 h.1.1 b.1.1) h.1.2)
refused_or_read_holds m bytes c fault.NoMemory (inr b) h = refl
