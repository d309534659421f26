-- Where a command ends: what is read, and each fault.
use Rattle.std.proofs.Common.{◌≡◌, ◌≤◌, ◌<◌, ◌*◌, ◌^◌, ℕ, pos, List, [], ◌∷◌, length, true, false, refl, sym, ap, subst, ◌∙◌, arith, inl, inr}
use Rattle.std.specs.Prelude.{◌⊎◌, Option, Some, None, Bool, is_some, Ok, Err, MatchOption}
use Rattle.std.specs.Bool.{MatchBool}
use Rattle.opa_value.specs.declared.value.Value.{Value}
use Rattle.opa_value.specs.NumberText.{read_number}
use Rattle.opa_date.specs.Texts.{read_day}
use Rattle.opa_model.specs.declared.ids.AttrId.{AttrId}
use Rattle.opa_model.specs.declared.ids.RelId.{RelId}
use Rattle.opa_model.specs.declared.lists.Lists.{Lists}
use Rattle.opa_model.specs.Lookups.{attribute_named, relation_named}
use Rattle.opa_cells.specs.declared.instance.InstanceId.{InstanceId}
use Rattle.opa_case.specs.declared.change.ChangeCommand.TheVariants as change
use Rattle.opa_words.proofs.QuoteLaws.{quoted_tells_apart}
use Rattle.opa_words.specs.declared.kinds.TokenKind.TheVariants as kind
use Rattle.opa_words.specs.Pieces.{Piece, text, number}
use Rattle.opa_text.specs.Spelled.{SpellsLine, SpellsNames}
use Rattle.opa_script.specs.declared.command.Command.{Command}
use Rattle.opa_script.specs.declared.command.Command.TheVariants as command
use Rattle.opa_script.specs.declared.fault.CmdFault.{CmdFault}
use Rattle.opa_script.specs.declared.fault.CmdFault.TheVariants as fault
use Rattle.opa_text.specs.declared.pointed.Point.{Point}
use Rattle.opa_script.specs.declared.verbs.Verb.TheVariants as verb
use Rattle.opa_text.specs.Pointed.{EndsWith, SpellsPoint, SpellsDated}
use Rattle.opa_script.specs.Shapes.{SpellsGiven, AreShort}
use Rattle.opa_script.specs.Commands.{NamesAttribute, NamesRelation, NamesNothing, IsAttribute, IsRelation, Shows, IsRead, IsRefused, IsFileName, IsFile, IsNoFile, SaysCount}
use Rattle.opa_text.proofs.PointLaws.{one_point, one_dated, dated_front}
use Rattle.opa_script.proofs.PointLaws.{one_given}
use Rattle.opa_date.specs.declared.fault.DayFault.{DayFault}
use Rattle.std.specs.Prelude.{codes}

pub is_attribute : (m : Lists) (p : Point) (a : AttrId) (i : InstanceId) → NamesAttribute m p a i → IsAttribute m p
is_attribute m p a i h = ap is_some h.0

pub is_relation : (m : Lists) (p : Point) (r : RelId) (i : InstanceId) → NamesRelation m p r i → IsRelation m p
is_relation m p r i h = ap is_some h.0

no_attribute : (m : Lists) (p q : Point) → attribute_named m p.phrase ≡ None → q ≡ p → IsAttribute m q → ⊥
no_attribute m p q n e h = absurd (let f : false ≡ true = sym (ap is_some n) ∙ subst (IsAttribute m) e h in cc f)

no_relation : (m : Lists) (p q : Point) → relation_named m p.phrase ≡ None → q ≡ p → IsRelation m q → ⊥
no_relation m p q n e h = absurd (let f : false ≡ true = sym (ap is_some n) ∙ subst (IsRelation m) e h in cc f)

-- ---- answer

pub answer_shape : (m : Lists) (ps : List Piece) → ((p : Point) (after : List Piece) → SpellsGiven p after ps → ⊥) → IsRefused m verb.Answer ps fault.NotACommand
answer_shape m ps n h = n h.0 h.1 h.2

pub answer_name : (m : Lists) (ps after : List Piece) (p : Point) → SpellsGiven p after ps → attribute_named m p.phrase ≡ None → IsRefused m verb.Answer ps fault.Name
answer_name m ps after p g n = ((p, after, g), λ h. no_attribute m p h.0 n (one_given h.0 p h.1 after ps h.2 g).0 h.3)

pub answer_long : (m : Lists) (ps after : List Piece) (p : Point) (a : AttrId) (i : InstanceId) → SpellsGiven p after ps → NamesAttribute m p a i → (AreShort ps → ⊥) → IsRefused m verb.Answer ps fault.Value
answer_long m ps after p a i g h n = ((p, after, g, is_attribute m p a i h), λ c r. n r.0)

pub answer_unread : (m : Lists) (ps after : List Piece) (p : Point) (a : AttrId) (i : InstanceId)
    → SpellsGiven p after ps → NamesAttribute m p a i → ((l : List (ℕ × Value)) → SpellsLine l after → ⊥) → IsRefused m verb.Answer ps fault.Value
answer_unread m ps after p a i g h n = ((p, after, g, is_attribute m p a i h), λ c r. let s = r.1 in n s.4 (subst (SpellsLine s.4) (one_given s.0 p s.1 after ps s.5 g).1 s.7))

pub answer_read : (m : Lists) (ps after : List Piece) (p : Point) (a : AttrId) (i : InstanceId) (l : List (ℕ × Value))
    → SpellsGiven p after ps → NamesAttribute m p a i → AreShort ps → SpellsLine l after → IsRead m verb.Answer ps (command.Change (change.Answer a i l))
answer_read m ps after p a i l g h s k = (s, (p, after, a, i, l, g, h, k, refl))

-- ---- list

pub list_shape : (m : Lists) (ps : List Piece) → ((p : Point) (after : List Piece) → SpellsGiven p after ps → ⊥) → IsRefused m verb.SetList ps fault.NotACommand
list_shape m ps n h = n h.0 h.1 h.2

pub list_name : (m : Lists) (ps after : List Piece) (p : Point) → SpellsGiven p after ps → relation_named m p.phrase ≡ None → IsRefused m verb.SetList ps fault.Name
list_name m ps after p g n = ((p, after, g), λ h. no_relation m p h.0 n (one_given h.0 p h.1 after ps h.2 g).0 h.3)

pub list_long : (m : Lists) (ps after : List Piece) (p : Point) (a : RelId) (i : InstanceId) → SpellsGiven p after ps → NamesRelation m p a i → (AreShort ps → ⊥) → IsRefused m verb.SetList ps fault.Value
list_long m ps after p a i g h n = ((p, after, g, is_relation m p a i h), λ c r. n r.0)

pub list_unread : (m : Lists) (ps after : List Piece) (p : Point) (a : RelId) (i : InstanceId)
    → SpellsGiven p after ps → NamesRelation m p a i → ((l : List (List ℕ)) → SpellsNames l after → ⊥) → IsRefused m verb.SetList ps fault.Value
list_unread m ps after p a i g h n = ((p, after, g, is_relation m p a i h), λ c r. let s = r.1 in n s.4 (subst (SpellsNames s.4) (one_given s.0 p s.1 after ps s.5 g).1 s.7))

pub list_read : (m : Lists) (ps after : List Piece) (p : Point) (a : RelId) (i : InstanceId) (l : List (List ℕ))
    → SpellsGiven p after ps → NamesRelation m p a i → AreShort ps → SpellsNames l after → IsRead m verb.SetList ps (command.Change (change.SetList a i l))
list_read m ps after p a i l g h s k = (s, (p, after, a, i, l, g, h, k, refl))

-- ---- withdraw, forget

pub withdraw_name : (m : Lists) (ps : List Piece) (p : Point) → SpellsPoint p ps → attribute_named m p.phrase ≡ None → IsRefused m verb.Withdraw ps fault.Name
withdraw_name m ps p g n = ((p, g), λ h. no_attribute m p h.0 n (one_point h.0 p ps h.1 g) h.2)

pub withdraw_long : (m : Lists) (ps : List Piece) (p : Point) (a : AttrId) (i : InstanceId) → SpellsPoint p ps → NamesAttribute m p a i → (AreShort ps → ⊥) → IsRefused m verb.Withdraw ps fault.Value
withdraw_long m ps p a i g h n = ((p, g, is_attribute m p a i h), λ c r. n r.0)

pub withdraw_read : (m : Lists) (ps : List Piece) (p : Point) (a : AttrId) (i : InstanceId) → SpellsPoint p ps → NamesAttribute m p a i → AreShort ps → IsRead m verb.Withdraw ps (command.Change (change.Withdraw a i))
withdraw_read m ps p a i g h s = (s, (p, a, i, g, h, refl))

pub forget_name : (m : Lists) (ps : List Piece) (p : Point) → SpellsPoint p ps → relation_named m p.phrase ≡ None → IsRefused m verb.Forget ps fault.Name
forget_name m ps p g n = ((p, g), λ h. no_relation m p h.0 n (one_point h.0 p ps h.1 g) h.2)

pub forget_long : (m : Lists) (ps : List Piece) (p : Point) (a : RelId) (i : InstanceId) → SpellsPoint p ps → NamesRelation m p a i → (AreShort ps → ⊥) → IsRefused m verb.Forget ps fault.Value
forget_long m ps p a i g h n = ((p, g, is_relation m p a i h), λ c r. n r.0)

pub forget_read : (m : Lists) (ps : List Piece) (p : Point) (a : RelId) (i : InstanceId) → SpellsPoint p ps → NamesRelation m p a i → AreShort ps → IsRead m verb.Forget ps (command.Change (change.Forget a i))
forget_read m ps p a i g h s = (s, (p, a, i, g, h, refl))

-- ---- show

pub show_name : (m : Lists) (ps : List Piece) (p : Point) → SpellsPoint p ps → NamesNothing m p → IsRefused m verb.Show ps fault.Name
show_name m ps p g n = ((p, g), λ h. go h.0 (one_point h.0 p ps h.1 g) h.2)
  where
    go : (q : Point) → q ≡ p → IsAttribute m q ⊎ IsRelation m q → ⊥
    go q e (inl k) = no_attribute m p q n.0 e k
    go q e (inr k) = no_relation m p q n.1 e k

pub shows_sort : (m : Lists) (p : Point) (c : Command) → Shows m p c → IsAttribute m p ⊎ IsRelation m p
shows_sort m p c (inl h) = inl (is_attribute m p h.0 h.1 h.2)
shows_sort m p c (inr h) = inr (is_relation m p h.0 h.1 h.2)

pub show_long : (m : Lists) (ps : List Piece) (p : Point) (c : Command) → SpellsPoint p ps → Shows m p c → (AreShort ps → ⊥) → IsRefused m verb.Show ps fault.Value
show_long m ps p c g h n = ((p, g, shows_sort m p c h), λ d r. n r.0)

-- a test that fails says that texts aren't short
pub not_short : (b : Bool) (P : Type 0) → b ≡ false → MatchBool b P (P → ⊥) → P → ⊥
not_short true P h m = absurd (cc h)
not_short false P h m = m

pub show_read : (m : Lists) (ps : List Piece) (p : Point) (c : Command) → SpellsPoint p ps → Shows m p c → AreShort ps → IsRead m verb.Show ps c
show_read m ps p c g h s = (s, (p, g, h))

pub shows_attribute : (m : Lists) (p : Point) (a : AttrId) (i : InstanceId) → NamesAttribute m p a i → Shows m p (command.ShowAttr a i)
shows_attribute m p a i h = inl (a, i, h, refl)

pub shows_relation : (m : Lists) (p : Point) (a : RelId) (i : InstanceId) → NamesRelation m p a i → Shows m p (command.ShowMembers a i)
shows_relation m p a i h = inr (a, i, h, refl)

-- ---- report

pub report_shape : (m : Lists) (ps front : List Piece) (t : List ℕ) → EndsWith (codes "at") kind.Date t front ps → ((p : Point) → SpellsPoint p front → ⊥) → IsRefused m verb.Report ps fault.NotACommand
report_shape m ps front t e n h = n h.0 (dated_front h.0 h.1 t front ps e h.2)

pub is_dated : (p : Point) (t : List ℕ) (front ps : List Piece) → EndsWith (codes "at") kind.Date t front ps → SpellsPoint p front → SpellsDated p t ps
is_dated p t front ps e h = (front, h, e)

-- a day that isn't read
pub no_day : (t : List ℕ) (f : DayFault) → read_day t ≡ Err f → (d : ℕ) → read_day t ≡ Ok d → ⊥
no_day t f e d h = absurd (let g : Err f ≡ Ok d = sym e ∙ h in cc g)

pub report_name : (m : Lists) (ps : List Piece) (t : List ℕ) (p : Point) → SpellsDated p t ps → attribute_named m p.phrase ≡ None → IsRefused m verb.Report ps fault.Name
report_name m ps t p g n = ((p, t, g), λ h. no_attribute m p h.0 n (one_dated h.0 p h.1 t ps h.2 g).0 h.3)

pub report_long : (m : Lists) (ps : List Piece) (t : List ℕ) (p : Point) (a : AttrId) (i : InstanceId) → SpellsDated p t ps → NamesAttribute m p a i → (AreShort ps → ⊥) → IsRefused m verb.Report ps fault.Value
report_long m ps t p a i g h n = ((p, t, g, is_attribute m p a i h), λ c r. n r.0)

pub report_unread : (m : Lists) (ps : List Piece) (t : List ℕ) (p : Point) (a : AttrId) (i : InstanceId)
    → SpellsDated p t ps → NamesAttribute m p a i → ((d : ℕ) → read_day t ≡ Ok d → ⊥) → IsRefused m verb.Report ps fault.Value
report_unread m ps t p a i g h n =
    ((p, t, g, is_attribute m p a i h), λ c r. let s = r.1 in n s.4 (ap read_day (sym (one_dated s.0 p s.1 t ps s.5 g).1) ∙ s.7))

pub report_read : (m : Lists) (ps : List Piece) (t : List ℕ) (p : Point) (a : AttrId) (i : InstanceId) (d : ℕ)
    → SpellsDated p t ps → NamesAttribute m p a i → AreShort ps → read_day t ≡ Ok d → IsRead m verb.Report ps (command.Report a i d)
report_read m ps t p a i d g h s k = (s, (p, t, a, i, d, g, h, k, refl))

-- ---- files

short_name : (t : List ℕ) → IsFileName t → AreShort (text t ∷ [])
short_name t h = ((λ s e. subst (λ x. length x ≤ 1000) (quoted_tells_apart t s (ap (λ (p : Piece). p.text) e)) (omega (arith, h.1))), tt)

pub save_read : (m : Lists) (ps : List Piece) (t : List ℕ) → IsFile ps t → IsRead m verb.Save ps (command.Save t)
save_read m ps t h = (subst AreShort (sym h.0) (short_name t h.1), (t, h.0, h.1, refl))

pub load_read : (m : Lists) (ps : List Piece) (t : List ℕ) → IsFile ps t → IsRead m verb.Load ps (command.Load t)
load_read m ps t h = (subst AreShort (sym h.0) (short_name t h.1), (t, h.0, h.1, refl))

pub save_refused : (m : Lists) (ps : List Piece) (f : CmdFault) → IsNoFile ps f → IsRefused m verb.Save ps f
save_refused m ps fault.NotACommand n = λ h. n h.0 h.1
save_refused m ps fault.Name n = absurd n
save_refused m ps fault.Value n = (n.0, λ c r. n.1 r.1.0 r.1.1 r.1.2)
save_refused m ps fault.NoMemory n = tt

pub load_refused : (m : Lists) (ps : List Piece) (f : CmdFault) → IsNoFile ps f → IsRefused m verb.Load ps f
load_refused m ps fault.NotACommand n = λ h. n h.0 h.1
load_refused m ps fault.Name n = absurd n
load_refused m ps fault.Value n = (n.0, λ c r. n.1 r.1.0 r.1.1 r.1.2)
load_refused m ps fault.NoMemory n = tt

-- a text alone that is no name of a file
pub no_file_name : (ps : List Piece) (t : List ℕ) → ps ≡ text t ∷ [] → (IsFileName t → ⊥) → IsNoFile ps fault.Value
no_file_name ps t e n = ((t, e), λ s f h. n (subst IsFileName (sym (same s f)) h))
  where
    same : (s : List ℕ) → ps ≡ text s ∷ [] → t ≡ s
    same s f = let g : text t ≡ text s = (let k : text t ∷ [] ≡ text s ∷ [] = sym e ∙ f in cc k) in quoted_tells_apart t s (ap (λ (p : Piece). p.text) g)

-- ---- dismiss

other_kind : (t s : List ℕ) → number t ≡ text s → ⊥
other_kind t s e = absurd (let f : kind.Number ≡ kind.Text = ap (λ (p : Piece). p.kind) e in cc f)

pub dismiss_read : (m : Lists) (ps : List Piece) (t : List ℕ) (n : ℕ) → ps ≡ number t ∷ [] → SaysCount n t → IsRead m verb.Dismiss ps (command.Dismiss n)
dismiss_read m ps t n e h = (subst AreShort (sym e) ((λ s f. absurd (other_kind t s f)), tt), (t, n, e, h, refl))

pub dismiss_unread : (m : Lists) (ps : List Piece) (t : List ℕ) → ps ≡ number t ∷ [] → ((n : ℕ) → SaysCount n t → ⊥) → IsRefused m verb.Dismiss ps fault.Value
dismiss_unread m ps t e n = ((t, e), λ c r. let s = r.1 in n s.1 (subst (SaysCount s.1) (same s.0 s.2) s.3))
  where
    same : (s : List ℕ) → ps ≡ number s ∷ [] → s ≡ t
    same s f = let g : number s ≡ number t = (let k : number s ∷ [] ≡ number t ∷ [] = sym f ∙ e in cc k) in ap (λ (p : Piece). p.text) g

-- the count of a number that isn't negative
pub counted : (r : Option ℕ) (t : List ℕ) (size : ℕ) → read_number t ≡ Ok (pos size) → MatchOption r ((n : ℕ) → size ≡ n * 10000 → n < 2 ^ 32 → ⊥) (λ n. (size ≡ n * 10000) × (n < 2 ^ 32))
    → MatchOption r ((n : ℕ) → SaysCount n t → ⊥) (λ n. SaysCount n t)
counted None t size e h = λ n k. h n (let f : Ok (pos size) ≡ Ok (pos (n * 10000)) = sym e ∙ k.0 in let g : pos size ≡ pos (n * 10000) = cc f in cc g) k.1
counted (Some n) t size e h = (e ∙ ap (λ x. Ok (pos x)) h.0, h.1)
