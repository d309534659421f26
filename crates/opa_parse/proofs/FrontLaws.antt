-- The first word of a text.
use Rattle.std.proofs.Common.{◌≡◌, inl, inr, ℕ, List, [], ◌∷◌, length, take, Some, None, sym, ap, subst, ◌∙◌}
use Rattle.std.specs.Str.{chars}
use Rattle.opa_words.specs.declared.kinds.Token.{Token}
use Rattle.opa_words.specs.Cuts.{Cuts}
use Rattle.opa_words.specs.Places.{token_text}
use Rattle.opa_words.proofs.OneCut.{one_cut_holds, cut_or_stuck_holds}
use Rattle.opa_parse.specs.Fronts.{Stands}
use Rattle.opa_parse.specs.Openings.{IsFirst}
use Rattle.opa_parse.proofs.CutOnce.{one_place}

abbrev Cut : List ℕ → List Token → Type 0
Cut text ts = Cuts (length text) (chars text) ts

pub one_front : (text a b : List ℕ) → Stands text a → Stands text b → a ≡ b
one_front text a b (inl x) (inl y) = x.2 ∙ sym y.2
one_front text a b (inl x) (inr y) = absurd (cut_or_stuck_holds (length text) (chars text) x.0 y.0 x.1 y.1)
one_front text a b (inr x) (inl y) = absurd (cut_or_stuck_holds (length text) (chars text) y.0 x.0 y.1 x.1)
one_front text a b (inr x) (inr y) = x.2 ∙ ap (λ p. take p text) (one_place (length text) x.1 y.0 y.1) ∙ sym y.2

pub uncut_first : (text front : List ℕ) → Stands text front → ((ts : List Token) → Cut front ts → ⊥) → IsFirst text None
uncut_first text front s h other t ts f = h (t ∷ ts) (subst (λ x. Cut x (t ∷ ts)) (one_front text other front f.1 s) f.0)

pub empty_first : (text front : List ℕ) (us : List Token) → us ≡ [] → Stands text front → Cut front us → IsFirst text None
empty_first text front us e s d other t ts f =
    let g : Cut front (t ∷ ts) = subst (λ x. Cut x (t ∷ ts)) (one_front text other front f.1 s) f.0 in
    let h : t ∷ ts ≡ [] = one_cut_holds (length front) (chars front) (t ∷ ts) us g d ∙ e in
    absurd (cc h)

pub some_first : (text front : List ℕ) (us : List Token) (t : Token) (ts : List Token) (w : List ℕ) → us ≡ t ∷ ts → Stands text front → Cut front us → token_text front t ≡ w → IsFirst text (Some w)
some_first text front us t ts w e s d is = (front, t, ts, (subst (Cut front) e d, s), is)
