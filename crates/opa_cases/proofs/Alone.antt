-- Each case's replies are those that it would get alone.
use Rattle.std.proofs.Common.{◌≡◌, ◌≢◌, inl, inr, ℕ, Bool, true, false, cond, List, [], ◌∷◌, map, refl, sym, ap, ◌∙◌, subst}
use Rattle.std.specs.Prelude.{Option, None, Some}
use Rattle.std.specs.FinMap as cases
use Rattle.std.specs.Str.{bytes_eq}
use Rattle.std.specs.Cmp.Lexicographic.{nat_list_cmp_total}
use Rattle.std.proofs.lemmas.Map.Text.{is_eq-slice_cmp}
use Rattle.std.proofs.lemmas.Slice.Eq.{bytes_eq-Decides}
use Rattle.opa_cases.specs.declared.kept.OpenCase.{OpenCase}
use Rattle.opa_cases.specs.Scripts.{Replies, IsScript, opened}
use Rattle.opa_cases.specs.Caseload.{Held, Opens, IsNamed, RepliesNamed, RepliesLine, behind_name, put, with_cases, refused_cases}
use Rattle.opa_cases.specs.Laws.{ArePrinted, Picks}
use Rattle.opa_cases.proofs.ReadLaws.{one_front}

one_named : (read n m r s : List ℕ) → IsNamed read n r → IsNamed read m s → (n ≡ m) × (r ≡ s)
one_named read n m r s a b = one_front _ n m r s a.begins b.begins

-- ---- what is open under a name

abbrev at : List ℕ → Opens → Option OpenCase
at n open_cases = cases.get open_cases n

got : (open_cases : Opens) (m n : List ℕ) (o : Option OpenCase) → at n (put open_cases m o) ≡ cond (bytes_eq n m) o (at n open_cases)
got open_cases m n None = cases.get-remove nat_list_cmp_total open_cases m n ∙ ap (λ b. cond b None (at n open_cases)) (is_eq-slice_cmp n m)
got open_cases m n (Some s) = cases.get-insert nat_list_cmp_total open_cases m s n ∙ ap (λ b. cond b (Some s) (at n open_cases)) (is_eq-slice_cmp n m)

got_here : (open_cases : Opens) (n : List ℕ) (o : Option OpenCase) → at n (put open_cases n o) ≡ o
got_here open_cases n o = got open_cases n n o ∙ ap (λ b. cond b o (at n open_cases)) ((bytes_eq-Decides n n).1 refl)

differs : (b : Bool) (P : Type 0) → (b ≡ true → P) → (P → ⊥) → b ≡ false
differs true P f n = absurd (n (f refl))
differs false P f n = refl

got_elsewhere : (open_cases : Opens) (m n : List ℕ) (o : Option OpenCase) → (m ≡ n → ⊥) → at n (put open_cases m o) ≡ at n open_cases
got_elsewhere open_cases m n o other =
    got open_cases m n o ∙ ap (λ b. cond b o (at n open_cases)) (differs (bytes_eq n m) (n ≡ m) ((bytes_eq-Decides n m).0) (λ e. other (sym e)))

-- ---- a line

-- the rulebase stays, and so does what is open under a name that the line isn't of
pub record Kept (n : List ℕ) (x y : Held) : Type 0 where
  pub rules : y.rules ≡ x.rules
  pub open_case : at n y.open_cases ≡ at n x.open_cases

kept_all : (n : List ℕ) (x y : Held) → y ≡ x → Kept n x y
kept_all n x y e = record { rules = ap (λ (h : Held). h.rules) e; open_case = ap (λ (h : Held). at n h.open_cases) e }

kept_put : (n m : List ℕ) (x y : Held) (o : Option OpenCase) → y ≡ with_cases x (put x.open_cases m o) → (m ≡ n → ⊥) → Kept n x y
kept_put n m x y o e other = record { rules = ap (λ (h : Held). h.rules) e; open_case = ap (λ (h : Held). at n h.open_cases) e ∙ got_elsewhere x.open_cases m n o other }

kept_named : (n m rest : List ℕ) (x y : Held) (text : List ℕ) → RepliesNamed x m rest text y → (m ≡ n → ⊥) → Kept n x y
kept_named n m rest x y text (inl h) other = kept_all n x y h.2
kept_named n m rest x y text (inr h) other = kept_put n m x y h.next h.after other

kept_by : (n read text : List ℕ) (x y : Held) → RepliesLine x read text y → ((rest : List ℕ) → IsNamed read n rest → ⊥) → Kept n x y
kept_by n read text x y (inl h) unnamed = kept_all n x y h.1.1
kept_by n read text x y (inr h) unnamed = kept_named n h.0 h.1 x y text h.3 (λ e. unnamed h.1 (subst (λ k. IsNamed read k h.1) e h.2))

-- a line of the name: what it would print alone, and what is open under the name afterwards
pub record Alone (n rest text : List ℕ) (x y : Held) : Type 0 where
  pub said : List ℕ
  pub next : Option OpenCase
  pub replies : Replies x.rules (opened (at n x.open_cases)) rest said next
  pub behind : text ≡ behind_name n said
  pub rules : y.rules ≡ x.rules
  pub open_case : at n y.open_cases ≡ next

of_name : (n rest text : List ℕ) (x y : Held) → text ≢ refused_cases n → RepliesNamed x n rest text y → Alone n rest text x y
of_name n rest text x y some (inl h) = absurd (some h.1)
of_name n rest text x y some (inr h) = record {
  said = h.said;
  next = h.next;
  replies = h.replies;
  behind = h.text_is;
  rules = ap (λ (k : Held). k.rules) h.after;
  open_case = ap (λ (k : Held). at n k.open_cases) h.after ∙ got_here x.open_cases n h.next;
}

of_line : (n read rest text : List ℕ) (x y : Held) → IsNamed read n rest → text ≢ refused_cases n → RepliesLine x read text y → Alone n rest text x y
of_line n read rest text x y named some (inl h) = absurd (h.0 n rest named)
of_line n read rest text x y named some (inr h) =
    let e = one_named read h.0 n h.1 rest h.2 named in
    of_name n rest text x y some (subst (λ k. RepliesNamed x k rest text y) e.0 (subst (λ k. RepliesNamed x h.0 k text y) e.1 h.3))

-- ---- lines

abbrev Result : List ℕ → Held → Held → List (List ℕ) → List (List ℕ) → Type 0
Result n x y rests picked = (parts : List (List ℕ)) × IsScript x.rules (at n x.open_cases) rests parts (at n y.open_cases) × (picked ≡ map (behind_name n) parts)

passed : (n : List ℕ) (x next y : Held) (rests picked : List (List ℕ)) → Kept n x next → Result n next y rests picked → Result n x y rests picked
passed n x next y rests picked kept h =
    (h.0, subst (λ o. IsScript x.rules o rests h.0 (at n y.open_cases)) kept.open_case (subst (λ r. IsScript r (at n next.open_cases) rests h.0 (at n y.open_cases)) kept.rules h.1), h.2)

one_more : (n rest text : List ℕ) (x next y : Held) (rests picked : List (List ℕ)) → Alone n rest text x next → Result n next y rests picked → Result n x y (rest ∷ rests) (text ∷ picked)
one_more n rest text x next y rests picked alone h =
    let script = subst (λ o. IsScript x.rules o rests h.0 (at n y.open_cases)) alone.open_case (subst (λ r. IsScript r (at n next.open_cases) rests h.0 (at n y.open_cases)) alone.rules h.1) in (
      alone.said ∷ h.0,
      (alone.said, alone.next, alone.replies, (h.0, script, refl)),
      ap (λ t. t ∷ picked) alone.behind ∙ ap (λ ts. behind_name n alone.said ∷ ts) h.2,
    )

module _ (n : List ℕ) where
  goes : {reads texts rests picked : List (List ℕ)} → Picks n reads texts rests picked → (x y : Held) → ArePrinted x reads texts y → Result n x y rests picked
  goes Picks.none x y h = ([], (refl, ap (λ (k : Held). at n k.open_cases) h.1), refl)
  goes (Picks.other {reads = reads} {texts = texts} read text unnamed more) x y (t, next, line, (others, printed, e)) =
      let same : t ≡ text = (let q : text ≡ t = cc e in sym q) in
      let rest : others ≡ texts = (let q : texts ≡ others = cc e in sym q) in
      passed n x next y _ _ (kept_by n read t x next line unnamed) (goes more next y (subst (λ ts. ArePrinted next reads ts y) rest printed))
  goes (Picks.this {reads = reads} {texts = texts} read text rest named some more) x y (t, next, line, (others, printed, e)) =
      let same : t ≡ text = (let q : text ≡ t = cc e in sym q) in
      let after : others ≡ texts = (let q : texts ≡ others = cc e in sym q) in
      one_more n rest text x next y _ _ (of_line n read rest text x next named some (subst (λ s. RepliesLine x read s next) same line)) (goes more next y (subst (λ ts. ArePrinted next reads ts y) after printed))

pub alone : (x y : Held) (name : List ℕ) (reads texts rests picked : List (List ℕ)) → ArePrinted x reads texts y → Picks name reads texts rests picked
    → (parts : List (List ℕ)) × IsScript x.rules (cases.get x.open_cases name) rests parts (cases.get y.open_cases name) × (picked ≡ map (behind_name name) parts)
alone x y name reads texts rests picked printed picks = goes name picks x y printed
