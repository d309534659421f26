-- A line is cut in one way.
use Rattle.std.proofs.Common.{◌≡◌, ℕ, ◌-◌, List, [], ◌∷◌, refl, sym, ap, subst, ◌∙◌, true, false}
use Rattle.opa_io.proofs.Bools.{never_both}
use Rattle.opa_words.specs.declared.kinds.TokenKind.{TokenKind}
use Rattle.opa_words.specs.declared.kinds.Token.{Token}
use Rattle.opa_words.specs.Characters.{width, is_blank}
use Rattle.opa_words.specs.Kinds.{IsLongest}
use Rattle.opa_words.proofs.Longest.{one_longest}
use Rattle.opa_words.specs.Cuts as c
use Rattle.opa_words.specs.Cuts.{Cuts, Stuck}
use Rattle.opa_words.specs.Laws.{OneCut, CutOrStuck, OneLongest}

module _ (total : ℕ) where
  abbrev Only : List ℕ → List Token → Type 0
  Only cs ts = (us : List Token) → Cuts total cs us → ts ≡ us

  after_blank : (x : ℕ) (cs : List ℕ) (ts : List Token) → is_blank x ≡ true → Only cs ts → (us : List Token) → Cuts total (x ∷ cs) us → ts ≡ us
  after_blank x cs ts b one us (c.Cuts.blank b' d) = one us d
  after_blank x cs ts b one us (c.Cuts.cut k rest b' is d) = absurd (never_both (is_blank x) b b')

  after_cut : (x : ℕ) (cs : List ℕ) (ts : List Token) (k : TokenKind) (rest : List ℕ) → is_blank x ≡ false → IsLongest (x ∷ cs) k rest → Only rest ts → (us : List Token) → Cuts total (x ∷ cs) us
      → record { kind = k; start = total - width (x ∷ cs); end = total - width rest } ∷ ts ≡ us
  after_cut x cs ts k rest b is one us (c.Cuts.blank b' d) = absurd (never_both (is_blank x) b' b)
  after_cut x cs ts k rest b is one us (c.Cuts.cut {ts = vs} l left b' is' d) =
      let f = one_longest (x ∷ cs) k l rest left is is' in
      let e : ts ≡ vs = one vs (subst (λ r. Cuts total r vs) (sym f.1) d) in
      let at : ℕ → TokenKind → List ℕ → List Token → List Token = λ n k' r vs'. record { kind = k'; start = n; end = total - width r } ∷ vs' in
      ap (λ vs'. at (total - width (x ∷ cs)) k rest vs') e ∙ ap (λ r. at (total - width (x ∷ cs)) k r vs) f.1 ∙ ap (λ k'. at (total - width (x ∷ cs)) k' left vs) f.0

  at_end : (us : List Token) → Cuts total [] us → [] ≡ us
  at_end us c.Cuts.ends = refl

  only : {cs : List ℕ} {ts : List Token} → Cuts total cs ts → Only cs ts
  only c.Cuts.ends = at_end
  only (c.Cuts.blank {c = x} {cs = cs} {ts = ts} b d) = after_blank x cs ts b (only d)
  only (c.Cuts.cut {c = x} {cs = cs} {ts = ts} k rest b is d) = after_cut x cs ts k rest b is (only d)

  abbrev Never : List ℕ → Type 0
  Never cs = (p : ℕ) → Stuck total cs p → ⊥

  blank_never : (x : ℕ) (cs : List ℕ) → is_blank x ≡ true → Never cs → (p : ℕ) → Stuck total (x ∷ cs) p → ⊥
  blank_never x cs b n p (c.Stuck.here b' is) = never_both (is_blank x) b b'
  blank_never x cs b n p (c.Stuck.blank b' d) = n p d
  blank_never x cs b n p (c.Stuck.cut k rest b' is d) = never_both (is_blank x) b b'

  cut_never : (x : ℕ) (cs : List ℕ) (k : TokenKind) (rest : List ℕ) → is_blank x ≡ false → IsLongest (x ∷ cs) k rest → Never rest → (p : ℕ) → Stuck total (x ∷ cs) p → ⊥
  cut_never x cs k rest b is n p (c.Stuck.here b' none) = none k is.front rest is.split is.token
  cut_never x cs k rest b is n p (c.Stuck.blank b' d) = never_both (is_blank x) b' b
  cut_never x cs k rest b is n p (c.Stuck.cut l left b' is' d) = n p (subst (λ r. Stuck total r p) (sym (one_longest (x ∷ cs) k l rest left is is').1) d)

  end_never : (p : ℕ) → Stuck total [] p → ⊥
  end_never p d = elim d [ ]

  never : {cs : List ℕ} {ts : List Token} → Cuts total cs ts → Never cs
  never c.Cuts.ends = end_never
  never (c.Cuts.blank {c = x} {cs = cs} b d) = blank_never x cs b (never d)
  never (c.Cuts.cut {c = x} {cs = cs} k rest b is d) = cut_never x cs k rest b is (never d)

pub one_cut_holds : OneCut
one_cut_holds total cs ts us d e = only total d us e

pub cut_or_stuck_holds : CutOrStuck
cut_or_stuck_holds total cs ts p d e = never total d p e

pub one_longest_holds : OneLongest
one_longest_holds cs k l rest left a b = one_longest cs k l rest left a b

pub ruleset laws = (one_cut_holds, cut_or_stuck_holds, one_longest_holds)
