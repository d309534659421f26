-- Sets that are made of spans.
use Rattle.std.proofs.Common.{◌≡◌, ◌⊎◌, inl, inr, ℕ, ◌+◌, ◌-◌, ◌<◌, ◌≤◌, min, Bool, true, false, cond, ◌||◌, List, [], ◌∷◌, map, take, drop, length, Some, refl, sym, ◌∙◌, ap, subst, arith, take-append-drop, take_all, length-drop}
use Rattle.std.specs.Prelude.{nat_le, nat_lt}
use Rattle.std.specs.List.{list_any}
use Rattle.std.proofs.lemmas.Bool.{le-leb, lt-leb, lt-ltb, le-ltb, leb-true, ltb-true, or_cases, or_left, or_right, and_parts, and_from, and_left, and_right, cases_lt}
use Rattle.opa_io.proofs.Lists.{any_append}
use Rattle.opa_date.specs.declared.TheConstants.{DAYS}
use Rattle.opa_line.specs.Lines.{at, value_from, Follows, IsLine, StandsFor}
use Rattle.opa_line.specs.Growth.{Grown}
use Rattle.opa_report.specs.declared.day_sets.spans.Span.{Span}
use Rattle.opa_report.specs.DaySets.Spans.{has, one_has, Covers, LooksBack, upto, back_spans}
use Rattle.opa_report.proofs.day_sets.Setting.{on_is, one_passes, passes_one}

-- off before the span, on in it, off behind it
pub span_stands : (s : Span) (end : ℕ) (a b c : ℕ × List (ℕ × Bool)) → s.first < end → end ≡ min s.end DAYS → Grown (0, []) s.first false a → Grown a end true b → Grown b DAYS false c → (c.0 ≡ DAYS) × StandsFor DAYS (has s) c.1
span_stands s end a b c lt is ga gb gc =
    let ea : a.0 ≡ s.first = ga.upto.0 (omega arith) in
    let le : end ≤ DAYS = omega (arith, is) in
    let eb : b.0 ≡ end = gb.upto.0 (omega (arith, ea, lt)) in
    (gc.upto.0 (omega (arith, eb, le)), λ d low. go d low ea eb (cases_lt d s.first) (cases_lt d end))
  where
    go : (d : ℕ) → d < DAYS → a.0 ≡ s.first → b.0 ≡ end → (d < s.first) ⊎ (s.first ≤ d) → (d < end) ⊎ (end ≤ d) → at c.1 d ≡ Some (has s d)
    go d low ea eb (inl h) _ =
        gc.before d (omega (arith, eb, lt, h)) ∙ gb.before d (omega (arith, ea, h)) ∙ ga.from d (omega arith) h
        ∙ ap Some (sym (and_left (nat_le s.first d) (nat_lt d s.end) (lt-leb s.first d h)))
    go d low ea eb (inr h) (inl k) =
        gc.before d (omega (arith, eb, k)) ∙ gb.from d (omega (arith, ea, h)) k
        ∙ ap Some (sym (and_from (nat_le s.first d) (nat_lt d s.end) (le-leb s.first d h) (lt-ltb d s.end (omega (arith, is, k)))))
    go d low ea eb (inr h) (inr k) =
        gc.from d (omega (arith, eb, k)) low
        ∙ ap Some (sym (and_right (nat_le s.first d) (nat_lt d s.end) (le-ltb d s.end (omega (arith, is, k, low)))))

pub no_span : (s : Span) (d : ℕ) → min s.end DAYS ≤ s.first → d < DAYS → false ≡ has s d
no_span s d le low = sym (go (cases_lt d s.first))
  where
    go : (d < s.first) ⊎ (s.first ≤ d) → has s d ≡ false
    go (inl h) = and_left (nat_le s.first d) (nat_lt d s.end) (lt-leb s.first d h)
    go (inr h) = and_right (nat_le s.first d) (nat_lt d s.end) (le-ltb d s.end (omega (arith, le, low, h)))

-- what is behind a place
behind : {X : Type 0} (xs : List X) (m : ℕ) → take (length xs - m) (drop m xs) ≡ drop m xs
behind xs m = take_all (length xs - m) (drop m xs) (omega (arith, length-drop m xs))

pub halves : (m : ℕ) (spans : List Span) (d : ℕ) → (one_has (take m spans) d || one_has (take (length spans - m) (drop m spans)) d) ≡ one_has spans d
halves m spans d = ap (λ xs. one_has (take m spans) d || one_has xs d) (behind spans m) ∙ sym (any_append (λ s. has s d) (take m spans) (drop m spans)) ∙ ap (λ xs. one_has xs d) (take-append-drop m spans)

-- the spans of a line
any_map : {X Y : Type 0} (f : X → Y) (p : Y → Bool) (xs : List X) → list_any p (map f xs) ≡ list_any (λ x. p (f x)) xs
any_map f p [] = refl
any_map f p (x ∷ xs) = ap (λ b. p (f x) || b) (any_map f p xs)

pub covers : (l : List (ℕ × Span)) (set : List (ℕ × Bool)) → IsLine DAYS l → StandsFor DAYS (one_has (map (λ p. p.1) l)) set → Covers l set
covers l set is stands d lt = (
  λ h. let r = one_passes (λ s. has s d) l is (sym (any_map (λ (p : ℕ × Span). p.1) (λ s. has s d) l) ∙ sym (on_is _ set d stands lt) ∙ h) in record { day = r.day; within = r.within; span = r.value; is = r.is; has_it = r.passes },
  λ c. on_is _ set d stands lt ∙ any_map (λ (p : ℕ × Span). p.1) (λ s. has s d) l ∙ passes_one (λ s. has s d) l c.day c.span c.is c.has_it,
)

-- the days that are looked back to: of the pairs behind a day with the value before
abbrev Ahead : ℕ → ℕ → ℕ → Bool → List (ℕ × Bool) → ℕ → Type 0
Ahead n k end v l d = (e : ℕ) × ((k ≤ e) × (e < end) × (value_from v l e ≡ true) × (e + 1 - n ≤ d) × (d ≤ e))

-- a pair's span
abbrev back_at : ℕ → ℕ → List (ℕ × Bool) → Span
back_at n k l = record { first = k - (n - 1); end = upto l }

has_in : (s : Span) (d : ℕ) → has s d ≡ true → (s.first ≤ d) × (d < s.end)
has_in s d h = let both = and_parts (nat_le s.first d) (nat_lt d s.end) h in (leb-true s.first d both.0, ltb-true d s.end both.1)

in_has : (s : Span) (d : ℕ) → s.first ≤ d → d < s.end → has s d ≡ true
in_has s d le lt = and_from (nat_le s.first d) (nat_lt d s.end) (le-leb s.first d le) (lt-ltb d s.end lt)

-- a day behind the pair's day and before the next pair's
next_in : (k end : ℕ) (v : Bool) (l : List (ℕ × Bool)) (e : ℕ) → Follows end k v l → k ≤ e → e < upto l → value_from v l e ≡ v
next_in k end v [] e f le lt = refl
next_in k end v (p ∷ l) e f le lt = ap (λ b. cond b (value_from p.1 l e) v) (lt-leb p.0 e lt)

module _ (n d : ℕ) (some : 0 < n) where
  within : (k : ℕ) (v : Bool) (l : List (ℕ × Bool)) → k < DAYS → Follows DAYS k v l → (k < upto l) × (upto l ≤ DAYS)
  within k v [] low f = (low, omega arith)
  within k v (p ∷ l) low f = (f.0, omega (arith, f.1))

  here : (k : ℕ) (l : List (ℕ × Bool)) → k < DAYS → Follows DAYS k true l → (k - (n - 1) ≤ d) × (d < upto l) → (d < k) ⊎ (k ≤ d) → Ahead n k DAYS true l d
  here k l low f b (inl lt) = let w = within k true l low f in (k, (omega arith, low, next_in k DAYS true l k f (omega arith) w.0, omega (arith, b.0, some), omega (arith, lt)))
  here k l low f b (inr le) = let w = within k true l low f in (d, (le, omega (arith, b.1, w.1), next_in k DAYS true l d f le b.1, omega (arith, some), omega arith))

  step : (k : ℕ) (v : Bool) (l : List (ℕ × Bool)) → k < DAYS → Follows DAYS k v l → one_has (back_spans n ((k, v) ∷ l)) d ≡ true → (one_has (back_spans n l) d ≡ true → Ahead n k DAYS v l d) → Ahead n k DAYS v l d
  step k false l low f h rest = rest h
  step k true l low f h rest = go (or_cases (has (back_at n k l) d) (one_has (back_spans n l) d) h)
    where
      go : (has (back_at n k l) d ≡ true) ⊎ (one_has (back_spans n l) d ≡ true) → Ahead n k DAYS true l d
      go (inl one) = here k l low f (has_in (back_at n k l) d one) (cases_lt d k)
      go (inr more) = rest more

  pub sound : (k : ℕ) (v : Bool) (l : List (ℕ × Bool)) → k < DAYS → Follows DAYS k v l → one_has (back_spans n ((k, v) ∷ l)) d ≡ true → Ahead n k DAYS v l d
  sound k v [] low f h = step k v [] low f h (λ x. absurd (cc x))
  sound k v (p ∷ l) low f h = step k v (p ∷ l) low f h (λ x.
      let r = sound p.0 p.1 l f.1 f.3 x in
      (r.0, (omega (arith, f.0, r.1.0), r.1.1, ap (λ b. cond b (value_from p.1 l r.0) v) (le-leb p.0 r.0 (omega (arith, r.1.0))) ∙ r.1.2, r.1.3, r.1.4)))

  caught : (k : ℕ) (v : Bool) (l : List (ℕ × Bool)) → (e : ℕ) → v ≡ true → k ≤ e → e < upto l → e + 1 - n ≤ d → d ≤ e → one_has (back_spans n ((k, v) ∷ l)) d ≡ true
  caught k false l e is le lt back ahead = absurd (cc is)
  caught k true l e is le lt back ahead = or_left (has (back_at n k l) d) (one_has (back_spans n l) d) (in_has (back_at n k l) d (omega (arith, some)) (omega arith))

  later : (k : ℕ) (v : Bool) (l : List (ℕ × Bool)) → one_has (back_spans n l) d ≡ true → one_has (back_spans n ((k, v) ∷ l)) d ≡ true
  later k false l h = h
  later k true l h = or_right (has (back_at n k l) d) (one_has (back_spans n l) d) h

  pub complete : (k : ℕ) (v : Bool) (l : List (ℕ × Bool)) → Follows DAYS k v l → Ahead n k DAYS v l d → one_has (back_spans n ((k, v) ∷ l)) d ≡ true
  complete k v [] f (e, a) = caught k v [] e a.2 a.0 a.1 a.3 a.4
  complete k v (p ∷ l) f (e, a) = go (cases_lt e p.0) (complete p.0 p.1 l f.3)
    where
      go : (e < p.0) ⊎ (p.0 ≤ e) → (Ahead n p.0 DAYS p.1 l d → one_has (back_spans n (p ∷ l)) d ≡ true) → one_has (back_spans n ((k, v) ∷ p ∷ l)) d ≡ true
      go (inl lt) rest = caught k v (p ∷ l) e (sym (next_in k DAYS v (p ∷ l) e f a.0 lt) ∙ a.2) a.0 lt a.3 a.4
      go (inr le) rest = later k v (p ∷ l) (rest (e, (le, a.1, sym (ap (λ b. cond b (value_from p.1 l e) v) (le-leb p.0 e le)) ∙ a.2, a.3, a.4)))

pub looks_back : (n : ℕ) (l new : List (ℕ × Bool)) → 0 < n → IsLine DAYS l → StandsFor DAYS (one_has (back_spans n l)) new → LooksBack l n new
looks_back n [] new some is stands = absurd is
looks_back n ((k, v) ∷ l) new some is stands = λ d lt. let follows : Follows DAYS k v l = subst (λ j. Follows DAYS j v l) (sym is.0) is.1 in (
  λ h.
      let a = sound n d some k v l (omega (arith, is.0)) follows (sym (on_is _ new d stands lt) ∙ h) in
      record { day = a.0; within = a.1.1; is = a.1.2; back = a.1.3; upto = a.1.4 },
  λ a. on_is _ new d stands lt ∙ complete n d some k v l follows (a.day, (omega (arith, is.0), a.within, a.is, a.back, a.upto)),
)

pub looks_nowhere : (l new : List (ℕ × Bool)) → StandsFor DAYS (λ _. false) new → LooksBack l 0 new
looks_nowhere l new stands d lt = (λ h. absurd (cc (h, on_is _ new d stands lt)), λ a. absurd (omega (arith, a.back, a.upto)))
