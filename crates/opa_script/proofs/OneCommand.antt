-- A line is at most one command.
use Rattle.std.proofs.Common.{◌≡◌, ◌*◌, ℕ, pos, List, [], ◌∷◌, sym, ap, subst, ◌∙◌, inl, inr, arith}
use Rattle.std.specs.Prelude.{Ok}
use Rattle.opa_value.specs.declared.value.Value.{Value}
use Rattle.opa_value.specs.NumberText.{read_number}
use Rattle.opa_date.specs.declared.TheConstants.{DAYS}
use Rattle.opa_date.specs.Texts.{read_day}
use Rattle.opa_line.specs.Lines.{IsLine, at}
use Rattle.opa_line.proofs.LineLaws.{equal_where_values_are}
use Rattle.opa_model.specs.declared.ids.AttrId.{AttrId}
use Rattle.opa_model.specs.declared.ids.RelId.{RelId}
use Rattle.opa_model.specs.declared.lists.Lists.{Lists}
use Rattle.opa_model.specs.Models.{IsModel}
use Rattle.opa_cells.specs.declared.instance.InstanceId.{InstanceId}
use Rattle.opa_case.specs.declared.change.ChangeCommand.TheVariants as change
use Rattle.opa_words.proofs.QuoteLaws.{quoted_tells_apart}
use Rattle.opa_words.specs.Pieces.{Piece, text, number}
use Rattle.opa_text.specs.Spelled.{SpellsLine, SpellsNames}
use Rattle.opa_text.proofs.ChangeLaws.{pairs_one}
use Rattle.opa_text.proofs.NameLaws.{names_one}
use Rattle.opa_script.specs.declared.command.Command.{Command}
use Rattle.opa_script.specs.declared.command.Command.TheVariants as command
use Rattle.opa_text.specs.declared.pointed.Point.{Point}
use Rattle.opa_script.specs.declared.verbs.Verb.{Verb}
use Rattle.opa_script.specs.declared.verbs.Verb.TheVariants as verb
use Rattle.opa_script.specs.Commands.{Shows, Says, AreCommand, SaysCount}
use Rattle.opa_script.specs.Laws.{IsWellFormed, OneCommand}
use Rattle.opa_text.proofs.PointLaws.{one_point, one_dated}
use Rattle.opa_script.proofs.PointLaws.{one_given}
use Rattle.opa_script.proofs.NamedOnce.{one_attribute, one_relation, not_both}
use Rattle.opa_script.proofs.LawsHold.{same_tokens, same_begin, idle_apart}

pub one_line : (l k : List (ℕ × Value)) (ps : List Piece) → IsLine DAYS l → IsLine DAYS k → SpellsLine l ps → SpellsLine k ps → l ≡ k
one_line l k ps il ik h g =
    let same = pairs_one h.0 g.0 ps h.1 g.1 in
    equal_where_values_are Value l k il ik (λ d b. h.2 d b ∙ ap (λ xs. at xs d) same ∙ sym (g.2 d b))

abbrev pub answered : AttrId → InstanceId → List (ℕ × Value) → Command
answered a i l = command.Change (change.Answer a i l)

abbrev withdrawn : AttrId → InstanceId → Command
withdrawn a i = command.Change (change.Withdraw a i)

abbrev pub listed : RelId → InstanceId → List (List ℕ) → Command
listed r i ns = command.Change (change.SetList r i ns)

abbrev forgotten : RelId → InstanceId → Command
forgotten r i = command.Change (change.Forget r i)

abbrev shown : AttrId → InstanceId → Command
shown a i = command.ShowAttr a i

abbrev members_shown : RelId → InstanceId → Command
members_shown r i = command.ShowMembers r i

abbrev reported : AttrId → InstanceId → ℕ → Command
reported a i d = command.Report a i d

one_show : (m : Lists) → IsModel m → (p q : Point) (c d : Command) → p ≡ q → Shows m p c → Shows m q d → c ≡ d
one_show m im p q c d e (inl h) (inl k) =
    let s = one_attribute m p q h.0 k.0 h.1 k.1 e h.2 k.2 in
    h.3 ∙ ap (λ x. shown x h.1) s.0 ∙ ap (shown k.0) s.1 ∙ sym k.3
one_show m im p q c d e (inl h) (inr k) = absurd (not_both m im p q h.0 k.0 e h.2.0 k.2.0)
one_show m im p q c d e (inr h) (inl k) = absurd (not_both m im q p k.0 h.0 (sym e) k.2.0 h.2.0)
one_show m im p q c d e (inr h) (inr k) =
    let s = one_relation m p q h.0 k.0 h.1 k.1 e h.2 k.2 in
    h.3 ∙ ap (λ x. members_shown x h.1) s.0 ∙ ap (members_shown k.0) s.1 ∙ sym k.3

same_text : (s t : List ℕ) (ps : List Piece) → ps ≡ text s ∷ [] → ps ≡ text t ∷ [] → s ≡ t
same_text s t ps e f =
    let k : text s ∷ [] ≡ text t ∷ [] = sym e ∙ f in
    let g : text s ≡ text t = cc k in
    quoted_tells_apart s t (ap (λ (p : Piece). p.text) g)

same_number : (s t : List ℕ) (ps : List Piece) → ps ≡ number s ∷ [] → ps ≡ number t ∷ [] → s ≡ t
same_number s t ps e f =
    let k : number s ∷ [] ≡ number t ∷ [] = sym e ∙ f in
    let g : number s ≡ number t = cc k in
    ap (λ (p : Piece). p.text) g

one_count : (n k : ℕ) (s t : List ℕ) → s ≡ t → SaysCount n s → SaysCount k t → n ≡ k
one_count n k s t e h g =
    let f : Ok (pos (n * 10000)) ≡ Ok (pos (k * 10000)) = sym h.0 ∙ ap read_number e ∙ g.0 in
    let z : pos (n * 10000) ≡ pos (k * 10000) = cc f in
    let w : n * 10000 ≡ k * 10000 = cc z in
    omega (arith, w)

one_day : (d e : ℕ) (s t : List ℕ) → s ≡ t → read_day s ≡ Ok d → read_day t ≡ Ok e → d ≡ e
one_day d e s t f h k = let g : Ok d ≡ Ok e = sym h ∙ ap read_day f ∙ k in cc g

says_one : (m : Lists) → IsModel m → (v : Verb) (ps : List Piece) (c d : Command) → IsWellFormed c → IsWellFormed d → Says m v ps c → Says m v ps d → c ≡ d
says_one m im verb.Answer ps c d wc wd h k =
    let g = one_given h.0 k.0 h.1 k.1 ps h.5 k.5 in
    let s = one_attribute m h.0 k.0 h.2 k.2 h.3 k.3 g.0 h.6 k.6 in
    let l = one_line h.4 k.4 k.1 (subst IsWellFormed h.8 wc) (subst IsWellFormed k.8 wd) (subst (SpellsLine h.4) g.1 h.7) k.7 in
    h.8 ∙ ap (λ x. answered x h.3 h.4) s.0 ∙ ap (λ x. answered k.2 x h.4) s.1 ∙ ap (answered k.2 k.3) l ∙ sym k.8
says_one m im verb.Withdraw ps c d wc wd h k =
    let s = one_attribute m h.0 k.0 h.1 k.1 h.2 k.2 (one_point h.0 k.0 ps h.3 k.3) h.4 k.4 in
    h.5 ∙ ap (λ x. withdrawn x h.2) s.0 ∙ ap (withdrawn k.1) s.1 ∙ sym k.5
says_one m im verb.SetList ps c d wc wd h k =
    let g = one_given h.0 k.0 h.1 k.1 ps h.5 k.5 in
    let s = one_relation m h.0 k.0 h.2 k.2 h.3 k.3 g.0 h.6 k.6 in
    let l = names_one h.4 k.4 k.1 (subst (SpellsNames h.4) g.1 h.7) k.7 in
    h.8 ∙ ap (λ x. listed x h.3 h.4) s.0 ∙ ap (λ x. listed k.2 x h.4) s.1 ∙ ap (listed k.2 k.3) l ∙ sym k.8
says_one m im verb.Forget ps c d wc wd h k =
    let s = one_relation m h.0 k.0 h.1 k.1 h.2 k.2 (one_point h.0 k.0 ps h.3 k.3) h.4 k.4 in
    h.5 ∙ ap (λ x. forgotten x h.2) s.0 ∙ ap (forgotten k.1) s.1 ∙ sym k.5
says_one m im verb.Show ps c d wc wd h k = one_show m im h.0 k.0 c d (one_point h.0 k.0 ps h.1 k.1) h.2 k.2
says_one m im verb.Report ps c d wc wd h k =
    let g = one_dated h.0 k.0 h.1 k.1 ps h.5 k.5 in
    let s = one_attribute m h.0 k.0 h.2 k.2 h.3 k.3 g.0 h.6 k.6 in
    h.8 ∙ ap (λ x. reported x h.3 h.4) s.0 ∙ ap (λ x. reported k.2 x h.4) s.1 ∙ ap (reported k.2 k.3) (one_day h.4 k.4 h.1 k.1 g.1 h.7 k.7) ∙ sym k.8
says_one m im verb.Save ps c d wc wd h k = h.3 ∙ ap (λ x. command.Save x) (same_text h.0 k.0 ps h.1 k.1) ∙ sym k.3
says_one m im verb.Load ps c d wc wd h k = h.3 ∙ ap (λ x. command.Load x) (same_text h.0 k.0 ps h.1 k.1) ∙ sym k.3
says_one m im verb.Dismiss ps c d wc wd h k = h.4 ∙ ap (λ x. command.Dismiss x) (one_count h.1 k.1 h.0 k.0 (same_number h.0 k.0 ps h.2 k.2) h.3 k.3) ∙ sym k.4
says_one m im verb.Goals ps c d wc wd h k = h.1 ∙ sym k.1
says_one m im verb.Next ps c d wc wd h k = h.1 ∙ sym k.1
says_one m im verb.Screen ps c d wc wd h k = h.1 ∙ sym k.1
says_one m im verb.Stats ps c d wc wd h k = h.1 ∙ sym k.1

tokens_one : (m : Lists) → IsModel m → (ps : List Piece) (c d : Command) → IsWellFormed c → IsWellFormed d → AreCommand m ps c → AreCommand m ps d → c ≡ d
tokens_one m im ps c d wc wd h k =
    let s = same_begin h.0 k.0 ps h.1 k.1 h.2 k.2 in
    says_one m im k.0 k.1 c d wc wd (subst (λ x. Says m k.0 x c) s.1 (subst (λ x. Says m x h.1 c) s.0 h.3.1)) k.3.1

pub one_command_holds : OneCommand
one_command_holds m im bytes c d wc wd (inl h) (inl k) = h.1 ∙ sym k.1
one_command_holds m im bytes c d wc wd (inl h) (inr k) = absurd (idle_apart bytes h.0 k.0)
one_command_holds m im bytes c d wc wd (inr h) (inl k) = absurd (idle_apart bytes k.0 h.0)
one_command_holds m im bytes c d wc wd (inr h) (inr k) =
    tokens_one m im k.1.0 c d wc wd (subst (λ x. AreCommand m x c) (same_tokens bytes h.1.0 k.1.0 h.1.1 k.1.1) h.1.2) k.1.2
