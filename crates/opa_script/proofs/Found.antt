-- What the answers of readers tell.
use Rattle.std.proofs.Common.{◌≡◌, ◌≤◌, ℕ, List, length, true, false, refl, sym, ap, subst, ◌∙◌, arith}
use Rattle.std.specs.Prelude.{Option, Some, None, MatchOption, Bool, nat_le}
use Rattle.std.specs.Bool.{MatchBool}
use Rattle.std.specs.Str.{chars}
use Rattle.std.proofs.lemmas.Bool.{leb-true, leb-false}
use Rattle.opa_value.specs.declared.value.Value.{Value}
use Rattle.opa_model.specs.declared.ids.AttrId.{AttrId}
use Rattle.opa_model.specs.declared.ids.RelId.{RelId}
use Rattle.opa_model.specs.declared.lists.Lists.{Lists}
use Rattle.opa_model.specs.Lookups.{attribute_named, relation_named}
use Rattle.opa_cells.specs.declared.instance.InstanceId.{InstanceId}
use Rattle.opa_case.specs.declared.question.Question.{Question}
use Rattle.opa_case.specs.declared.question.Question.TheVariants as question
use Rattle.opa_words.specs.declared.kinds.Token.{Token}
use Rattle.opa_words.specs.declared.kinds.TokenKind.{TokenKind}
use Rattle.opa_words.specs.declared.kinds.TokenKind.TheVariants as kind
use Rattle.opa_words.specs.Kinds.{quoted}
use Rattle.opa_words.specs.Cuts.{Cuts}
use Rattle.opa_words.proofs.QuoteLaws.{quoted_tells_apart}
use Rattle.opa_words.specs.declared.pieces.Pieces.{Pieces}
use Rattle.opa_words.specs.Pieces.{Piece, IsCutInto, seen, pieces, is_nothing}
use Rattle.opa_text.specs.Spelled.{SpellsLine}
use Rattle.opa_text.proofs.WholeLaws.{cut_into}
use Rattle.opa_script.specs.declared.fault.CmdFault.{CmdFault}
use Rattle.opa_script.specs.declared.fault.CmdFault.TheVariants as fault
use Rattle.opa_text.specs.declared.pointed.Point.{Point}
use Rattle.opa_script.specs.declared.verbs.Verb.{Verb}
use Rattle.opa_script.specs.Lines.{is_idle, HasTokens, IsText, IsNotCut}
use Rattle.opa_text.specs.Pointed.{SpellsPoint}
use Rattle.opa_script.specs.Shapes.{Begins, HasShape, IsShort, IsAtEquals, SpellsGiven}
use Rattle.opa_script.specs.Commands.{NamesAttribute, NamesRelation, IsRefused, AreNone, IsNoCommand}
use Rattle.opa_script.specs.Replies.{SaysNothing, IsUnanswered, IsNoPlainReply}
use Rattle.opa_script.proofs.PointLaws.{one_cut, point_no_equals}
use Rattle.opa_script.proofs.LawsHold.{same_begin, same_tokens}

-- ---- points

pub given_found : (o : Option (Point × Pieces)) (p : Point) (a : Pieces) (ps : List Piece) → o ≡ Some (p, a)
    → MatchOption o ((q : Point) (after : List Piece) → SpellsGiven q after ps → ⊥) (λ (x : Point × Pieces). SpellsGiven x.0 (seen x.1) ps) → SpellsGiven p (seen a) ps
given_found o p a ps e h = subst (λ y. MatchOption y ((q : Point) (after : List Piece) → SpellsGiven q after ps → ⊥) (λ (x : Point × Pieces). SpellsGiven x.0 (seen x.1) ps)) e h

pub given_missing : (o : Option (Point × Pieces)) (ps : List Piece) → o ≡ None
    → MatchOption o ((q : Point) (after : List Piece) → SpellsGiven q after ps → ⊥) (λ (x : Point × Pieces). SpellsGiven x.0 (seen x.1) ps) → (q : Point) (after : List Piece) → SpellsGiven q after ps → ⊥
given_missing o ps e h = subst (λ y. MatchOption y ((q : Point) (after : List Piece) → SpellsGiven q after ps → ⊥) (λ (x : Point × Pieces). SpellsGiven x.0 (seen x.1) ps)) e h

pub point_found : (o : Option Point) (p : Point) (ps : List Piece) → o ≡ Some p → MatchOption o ((q : Point) → SpellsPoint q ps → ⊥) (λ q. SpellsPoint q ps) → SpellsPoint p ps
point_found o p ps e h = subst (λ y. MatchOption y ((q : Point) → SpellsPoint q ps → ⊥) (λ q. SpellsPoint q ps)) e h

pub point_missing : (o : Option Point) (ps : List Piece) → o ≡ None → MatchOption o ((q : Point) → SpellsPoint q ps → ⊥) (λ q. SpellsPoint q ps) → (q : Point) → SpellsPoint q ps → ⊥
point_missing o ps e h = subst (λ y. MatchOption y ((q : Point) → SpellsPoint q ps → ⊥) (λ q. SpellsPoint q ps)) e h

pub attribute_missing : (o : Option (AttrId × InstanceId)) (m : Lists) (p : Point) → o ≡ None
    → MatchOption o (attribute_named m p.phrase ≡ None) (λ (x : AttrId × InstanceId). NamesAttribute m p x.0 x.1) → attribute_named m p.phrase ≡ None
attribute_missing o m p e h = subst (λ y. MatchOption y (attribute_named m p.phrase ≡ None) (λ (x : AttrId × InstanceId). NamesAttribute m p x.0 x.1)) e h

pub attribute_found : (o : Option (AttrId × InstanceId)) (m : Lists) (p : Point) (a : AttrId) (i : InstanceId) → o ≡ Some (a, i)
    → MatchOption o (attribute_named m p.phrase ≡ None) (λ (x : AttrId × InstanceId). NamesAttribute m p x.0 x.1) → NamesAttribute m p a i
attribute_found o m p a i e h = subst (λ y. MatchOption y (attribute_named m p.phrase ≡ None) (λ (x : AttrId × InstanceId). NamesAttribute m p x.0 x.1)) e h

pub relation_missing : (o : Option (RelId × InstanceId)) (m : Lists) (p : Point) → o ≡ None
    → MatchOption o (relation_named m p.phrase ≡ None) (λ (x : RelId × InstanceId). NamesRelation m p x.0 x.1) → relation_named m p.phrase ≡ None
relation_missing o m p e h = subst (λ y. MatchOption y (relation_named m p.phrase ≡ None) (λ (x : RelId × InstanceId). NamesRelation m p x.0 x.1)) e h

pub relation_found : (o : Option (RelId × InstanceId)) (m : Lists) (p : Point) (a : RelId) (i : InstanceId) → o ≡ Some (a, i)
    → MatchOption o (relation_named m p.phrase ≡ None) (λ (x : RelId × InstanceId). NamesRelation m p x.0 x.1) → NamesRelation m p a i
relation_found o m p a i e h = subst (λ y. MatchOption y (relation_named m p.phrase ≡ None) (λ (x : RelId × InstanceId). NamesRelation m p x.0 x.1)) e h

-- nothing stands behind `=`, or no point before it
pub given_nothing : (front back ps : List Piece) → IsAtEquals front back ps → is_nothing back ≡ true → (p : Point) (after : List Piece) → SpellsGiven p after ps → ⊥
given_nothing front back ps e n p after h =
    let r = one_cut h.0 front after back (point_no_equals p h.0 h.1) e.1 (sym h.2 ∙ e.0) in
    absurd (let f : true ≡ false = sym n ∙ ap is_nothing (sym r.1) ∙ h.3 in cc f)

pub given_pointless : (front back ps : List Piece) → IsAtEquals front back ps → ((p : Point) → SpellsPoint p front → ⊥) → (p : Point) (after : List Piece) → SpellsGiven p after ps → ⊥
given_pointless front back ps e n p after h =
    let r = one_cut h.0 front after back (point_no_equals p h.0 h.1) e.1 (sym h.2 ∙ e.0) in
    n p (subst (SpellsPoint p) r.0 h.1)

-- ---- texts

pub short_text : (k : TokenKind) (t inner b : List ℕ) → k ≡ kind.Text → quoted inner ≡ t → b ≡ inner
    → MatchBool (nat_le (length b) 1000) (IsShort (record { kind = k; text = t })) (IsShort (record { kind = k; text = t }) → ⊥)
short_text k t inner b e q f = go (nat_le (length b) 1000) refl
  where
    go : (r : Bool) → nat_le (length b) 1000 ≡ r → MatchBool r (IsShort (record { kind = k; text = t })) (IsShort (record { kind = k; text = t }) → ⊥)
    go true h = λ s g. subst (λ x. length x ≤ 1000) (f ∙ quoted_tells_apart inner s (q ∙ ap (λ (p : Piece). p.text) g)) (leb-true (length b) 1000 h)
    go false h = λ s. absurd (omega (arith, leb-false (length b) 1000 h, ap length f, s inner (ap (λ x. made x t) e ∙ ap (made kind.Text) (sym q))))
      where
        made : TokenKind → List ℕ → Piece
        made x y = record { kind = x; text = y }

-- ---- lines

pub has_tokens : (bytes t : List ℕ) (ts : List Token) (ps : List Piece) → IsText bytes t → Cuts (length t) (chars t) ts → ps ≡ pieces t ts → HasTokens bytes ps
has_tokens bytes t ts ps x h e = (x.short, x.utf8, subst (λ b. IsCutInto b ps) x.same (cut_into t ts ps h e))

uncut : (bytes t : List ℕ) (ps : List Piece) → IsText bytes t → ((qs : List Piece) → IsCutInto t qs → ⊥) → HasTokens bytes ps → ⊥
uncut bytes t ps x n h = n ps (subst (λ b. IsCutInto b ps) (sym x.same) h.2)

pub uncut_reply : (q : Question) (bytes t : List ℕ) (f : CmdFault) → is_idle bytes ≡ false → IsText bytes t → IsNotCut t f → IsNoPlainReply q bytes f
uncut_reply q bytes t fault.NotACommand i x n = (i, λ ps h. uncut bytes t ps x n h)
uncut_reply q bytes t fault.Name i x n = absurd n
uncut_reply q bytes t fault.Value i x n = absurd n
uncut_reply q bytes t fault.NoMemory i x n = tt

pub unanswered : (q : Question) (bytes : List ℕ) (ps : List Piece) (f : CmdFault) → is_idle bytes ≡ false → HasTokens bytes ps → IsUnanswered q ps f → IsNoPlainReply q bytes f
unanswered q bytes ps fault.NotACommand i h n = absurd n
unanswered q bytes ps fault.Name i h n = absurd n
unanswered q bytes ps fault.Value i h n = (i, (ps, h, n))
unanswered q bytes ps fault.NoMemory i h n = tt

pub no_line_change : (q : Question) (a : AttrId) (i : InstanceId) (ps : List Piece) → q ≡ question.Attr a i → ((l : List (ℕ × Value)) → SpellsLine l ps → ⊥) → SaysNothing q ps
no_line_change q a i ps e n = subst (λ x. SaysNothing x ps) (sym e) (λ c h. n h.0 h.1)

pub uncut_command : (m : Lists) (bytes t : List ℕ) (f : CmdFault) → is_idle bytes ≡ false → IsText bytes t → IsNotCut t f → IsNoCommand m bytes f
uncut_command m bytes t fault.NotACommand i x n = (i, λ ps h. absurd (uncut bytes t ps x n h))
uncut_command m bytes t fault.Name i x n = absurd n
uncut_command m bytes t fault.Value i x n = absurd n
uncut_command m bytes t fault.NoMemory i x n = tt

pub tokens_none : (m : Lists) (bytes : List ℕ) (ps : List Piece) (f : CmdFault) → is_idle bytes ≡ false → HasTokens bytes ps → AreNone m ps f → IsNoCommand m bytes f
tokens_none m bytes ps fault.NotACommand i h n = (i, λ qs k. subst (λ x. AreNone m x fault.NotACommand) (same_tokens bytes ps qs h k) n)
tokens_none m bytes ps fault.Name i h n = (i, (ps, h, n))
tokens_none m bytes ps fault.Value i h n = (i, (ps, h, n))
tokens_none m bytes ps fault.NoMemory i h n = tt

-- ---- tokens

pub unbegun : (m : Lists) (ps : List Piece) → ((v : Verb) (rest : List Piece) → Begins v ps rest → ⊥) → AreNone m ps fault.NotACommand
unbegun m ps n v rest b h = n v rest b

pub begun_none : (m : Lists) (v : Verb) (ps rest : List Piece) (f : CmdFault) → Begins v ps rest → IsRefused m v rest f → AreNone m ps f
begun_none m v ps rest fault.NotACommand b n = λ w left c h. let s = same_begin w v ps left rest c b in n (subst (HasShape v) s.1 (subst (λ x. HasShape x left) s.0 h))
begun_none m v ps rest fault.Name b n = (v, rest, b, n)
begun_none m v ps rest fault.Value b n = (v, rest, b, n)
begun_none m v ps rest fault.NoMemory b n = tt
