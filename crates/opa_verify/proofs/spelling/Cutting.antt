-- Where bytes are cut.
use Rattle.std.proofs.Common.{◌≡◌, ◌≢◌, ◌↔◌, ℕ, ◌+◌, ◌<◌, List, [], ◌∷◌, ◌++◌, Bool, true, false, cond, not, ◌&&◌, ◌||◌, ◌==◌, take, length, refl, sym, ◌∙◌, ap, subst, arith, append_assoc, append-nil, length-append}
use Rattle.std.proofs.lemmas.Bool.{and_parts, eq-eqb, ne_eqb, not-true}
use Rattle.opa_verify.specs.Spelling.Cuts.{is_mark, calm, IsCutAt}

-- ---- behind a front

-- the bytes begin with the front exactly where what is left begins with what is left of the front
abbrev pub Alike : List ℕ → List ℕ → List ℕ → List ℕ → Type 0
Alike text first rest want = (r : List ℕ) → (text ≡ first ++ r) ↔ (rest ≡ want ++ r)

pub same_head : (x y : ℕ) (xs ys : List ℕ) → x ∷ xs ≡ y ∷ ys → (x ≡ y) × (xs ≡ ys)
same_head x y xs ys e = (cc e, cc e)

pub alike_start : (text first : List ℕ) → Alike text first text first
alike_start text first r = (λ e. e, λ e. e)

pub alike_next : (text first rest want after later : List ℕ) (own byte : ℕ) → Alike text first rest want → want ≡ byte ∷ later → rest ≡ own ∷ after → own ≡ byte → Alike text first after later
alike_next text first rest want after later own byte a w s e r = (
  λ q. (same_head own byte after (later ++ r) (sym s ∙ (a r).0 q ∙ ap (λ x. x ++ r) w)).1,
  λ q. (a r).1 (s ∙ ap (λ x. x ∷ after) e ∙ ap (λ x. byte ∷ x) q ∙ sym (ap (λ x. x ++ r) w)),
)

pub alike_differs : (text first rest want after later : List ℕ) (own byte : ℕ) → Alike text first rest want → want ≡ byte ∷ later → rest ≡ own ∷ after → own ≢ byte → (r : List ℕ) → text ≡ first ++ r → ⊥
alike_differs text first rest want after later own byte a w s ne r q = ne (same_head own byte after (later ++ r) (sym s ∙ (a r).0 q ∙ ap (λ x. x ++ r) w)).0

pub alike_short : (text first rest want later : List ℕ) (byte : ℕ) → Alike text first rest want → want ≡ byte ∷ later → rest ≡ [] → (r : List ℕ) → text ≡ first ++ r → ⊥
alike_short text first rest want later byte a w s r q = absurd (let e : [] ≡ byte ∷ (later ++ r) = sym s ∙ (a r).0 q ∙ ap (λ x. x ++ r) w in cc e)

pub alike_done : (text first rest want : List ℕ) → Alike text first rest want → want ≡ [] → text ≡ first ++ rest
alike_done text first rest want a w = (a rest).1 (sym (ap (λ x. x ++ rest) w))

-- ---- before an end

pub same_parts : (xs ys zs ws : List ℕ) → length xs ≡ length ys → xs ++ zs ≡ ys ++ ws → (xs ≡ ys) × (zs ≡ ws)
same_parts [] [] zs ws n e = (refl, e)
same_parts [] (y ∷ ys) zs ws n e = absurd (omega (arith, n))
same_parts (x ∷ xs) [] zs ws n e = absurd (omega (arith, n))
same_parts (x ∷ xs) (y ∷ ys) zs ws n e =
    let h = same_head x y (xs ++ zs) (ys ++ ws) e in
    let t = same_parts xs ys zs ws (omega (arith, n)) h.1 in
    (ap (λ b. b ∷ xs) h.0 ∙ ap (λ bs. y ∷ bs) t.0, t.1)

pub too_short : (text last first : List ℕ) → length text < length last → text ≡ first ++ last → ⊥
too_short text last first lt e = absurd (let n : length text ≡ length first + length last = ap length e ∙ length-append first last in omega (arith, lt, n))

no_rest : (last rest : List ℕ) → length (last ++ rest) ≡ length last → rest ≡ []
no_rest last [] e = refl
no_rest last (r ∷ rest) e = absurd (let n : length (last ++ r ∷ rest) ≡ length last + length (r ∷ rest) = length-append last (r ∷ rest) in omega (arith, e, n))

pub end_is : (text first tail last rest : List ℕ) → first ++ tail ≡ text → length tail ≡ length last → tail ≡ last ++ rest → text ≡ first ++ last
end_is text first tail last rest parts n e = sym parts ∙ ap (λ x. first ++ x) (e ∙ ap (λ x. last ++ x) (no_rest last rest (sym (ap length e) ∙ n)) ∙ append-nil last)

pub end_isnt : (text first tail last : List ℕ) → first ++ tail ≡ text → length tail ≡ length last → ((r : List ℕ) → tail ≡ last ++ r → ⊥) → (other : List ℕ) → text ≡ other ++ last → ⊥
end_isnt text first tail last parts n none other e =
    let a : length (first ++ tail) ≡ length first + length tail = length-append first tail in
    let b : length (other ++ last) ≡ length other + length last = length-append other last in
    let c : length (first ++ tail) ≡ length (other ++ last) = ap length (parts ∙ e) in
    let s = same_parts first other tail last (omega (arith, a, b, c, n)) (parts ∙ e) in
    none [] (s.1 ∙ sym (append-nil last))

-- ---- at a mark

quote_no_mark : (b : ℕ) → (b == 34) ≡ true → is_mark b ≡ false
quote_no_mark b h = grind (arith, h)

-- no mark stands in what is calm
no_mark_in : (q : Bool) (b c d : ℕ) (g r s : List ℕ) → calm q (b ∷ g) ≡ true → not q ≡ true → is_mark c ≡ true → c ∷ r ≡ b ∷ (g ++ d ∷ s) → ⊥
no_mark_in q b c d g r s y x m e = go (b == 34) refl y
  where
    is : c ≡ b
    is = (same_head c b r (g ++ d ∷ s) e).0

    go : (t : Bool) → (b == 34) ≡ t → cond t (calm (not q) g) ((q || not (is_mark b)) && calm q g) ≡ true → ⊥
    go true h k = cc (sym m ∙ ap is_mark is ∙ quote_no_mark b h)
    go false h k =
        let both = and_parts (q || not (is_mark b)) (calm q g) k in
        let f : (q || not (is_mark b)) ≡ false = ap (λ t. t || not (is_mark b)) (not-true q x) ∙ ap not (sym (ap is_mark is) ∙ m) in
        cc (sym both.0 ∙ f)

-- a calm front ends at the first mark
pub one_cut : (q : Bool) (f g : List ℕ) (c d : ℕ) (r s : List ℕ) → calm q f ≡ true → calm q g ≡ true → is_mark c ≡ true → is_mark d ≡ true → f ++ c ∷ r ≡ g ++ d ∷ s → (f ≡ g) × ((c ≡ d) × (r ≡ s))
one_cut q [] [] c d r s x y m n e = (refl, same_head c d r s e)
one_cut q [] (b ∷ g) c d r s x y m n e = absurd (no_mark_in q b c d g r s y x m e)
one_cut q (b ∷ f) [] c d r s x y m n e = absurd (no_mark_in q b d c f s r x y n (sym e))
one_cut q (b ∷ f) (b' ∷ g) c d r s x y m n e =
    let h = same_head b b' (f ++ c ∷ r) (g ++ d ∷ s) e in
    go (b == 34) refl x (subst (λ z. calm q (z ∷ g) ≡ true) (sym h.0) y) h.1 h.0 (λ t u v w. one_cut t f g c d r s u v m n w)
  where
    go : (t : Bool) → (b == 34) ≡ t → cond t (calm (not q) f) ((q || not (is_mark b)) && calm q f) ≡ true → cond t (calm (not q) g) ((q || not (is_mark b)) && calm q g) ≡ true → f ++ c ∷ r ≡ g ++ d ∷ s → b ≡ b'
        → ((t : Bool) → calm t f ≡ true → calm t g ≡ true → f ++ c ∷ r ≡ g ++ d ∷ s → (f ≡ g) × ((c ≡ d) × (r ≡ s))) → (b ∷ f ≡ b' ∷ g) × ((c ≡ d) × (r ≡ s))
    go true k x y e h rec = let i = rec (not q) x y e in (ap (λ z. z ∷ f) h ∙ ap (λ z. b' ∷ z) i.0, i.1)
    go false k x y e h rec =
        let i = rec q (and_parts (q || not (is_mark b)) (calm q f) x).1 (and_parts (q || not (is_mark b)) (calm q g) y).1 e in
        (ap (λ z. z ∷ f) h ∙ ap (λ z. b' ∷ z) i.0, i.1)

pub same_cut : (text f g : List ℕ) (c d : ℕ) (r s : List ℕ) → IsCutAt f c r text → IsCutAt g d s text → (f ≡ g) × ((c ≡ d) × (r ≡ s))
same_cut text f g c d r s x y = one_cut false f g c d r s x.1.0 y.1.0 x.1.1 y.1.1 (sym x.0 ∙ y.0)

-- ---- the loop

-- what is ahead of a cut of the whole, from a place on
pub record Ahead (rest : List ℕ) (inside : Bool) (c : ℕ) (r : List ℕ) : Type 0 where
  pub front : List ℕ
  pub parts : rest ≡ front ++ c ∷ r
  pub is_calm : calm inside front ≡ true
  pub is_mark_too : is_mark c ≡ true

-- What was passed has no mark outside quotes: `inside` says whether what is left begins between quotes.
pub record Passed (text front rest : List ℕ) (inside : Bool) (count : ℕ) : Type 0 where
  pub parts : text ≡ front ++ rest
  pub many : length front ≡ count
  pub goes : (more : List ℕ) → calm false (front ++ more) ≡ calm inside more
  pub ahead : (f : List ℕ) (c : ℕ) (r : List ℕ) → IsCutAt f c r text → Ahead rest inside c r

pub passed_none : (text : List ℕ) → Passed text [] text false 0
passed_none text = record { parts = refl; many = refl; goes = λ more. refl; ahead = λ f c r x. record { front = f; parts = x.0; is_calm = x.1.0; is_mark_too = x.1.1 } }

step : (text front rest later : List ℕ) (inside next : Bool) (count : ℕ) (b : ℕ) → Passed text front rest inside count → rest ≡ b ∷ later → ((more : List ℕ) → calm inside (b ∷ more) ≡ calm next more)
    → (inside ≡ false → is_mark b ≡ true → ⊥) → Passed text (front ++ b ∷ []) later next (count + 1)
step text front rest later inside next count b p e on none = record {
  parts = p.parts ∙ ap (λ x. front ++ x) e ∙ sym (append_assoc front (b ∷ []) later);
  many = length-append front (b ∷ []) ∙ ap (λ n. n + 1) p.many;
  goes = λ more. ap (calm false) (append_assoc front (b ∷ []) more) ∙ p.goes (b ∷ more) ∙ on more;
  ahead = λ f c r x. go c r (p.ahead f c r x);
}
  where
    at : (c : ℕ) (r : List ℕ) (g : List ℕ) → is_mark c ≡ true → rest ≡ g ++ c ∷ r → calm inside g ≡ true → Ahead later next c r
    at c r [] m q h = let s = same_head b c later r (sym e ∙ q) in absurd (none (not-true inside h) (ap is_mark s.0 ∙ m))
    at c r (d ∷ g) m q h =
        let s = same_head b d later (g ++ c ∷ r) (sym e ∙ q) in
        record { front = g; parts = s.1; is_calm = sym (on g) ∙ ap (λ z. calm inside (z ∷ g)) s.0 ∙ h; is_mark_too = m }

    go : (c : ℕ) (r : List ℕ) → Ahead rest inside c r → Ahead later next c r
    go c r a = at c r a.front a.is_mark_too a.parts a.is_calm

pub passed_quote : (text front rest later : List ℕ) (inside : Bool) (count : ℕ) (b : ℕ) → Passed text front rest inside count → rest ≡ b ∷ later → b ≡ 34 → Passed text (front ++ b ∷ []) later (not inside) (count + 1)
passed_quote text front rest later inside count b p r q =
    step text front rest later inside (not inside) count b p r (λ more. ap (λ t. cond t (calm (not inside) more) ((inside || not (is_mark b)) && calm inside more)) (eq-eqb b 34 q)) (λ _ m. cc (sym m ∙ quote_no_mark b (eq-eqb b 34 q)))

pub passed_plain : (text front rest later : List ℕ) (inside : Bool) (count : ℕ) (b : ℕ) → Passed text front rest inside count → rest ≡ b ∷ later → (b ≡ 34 → ⊥) → (inside || not (is_mark b)) ≡ true → Passed text (front ++ b ∷ []) later inside (count + 1)
passed_plain text front rest later inside count b p r q m =
    step text front rest later inside inside count b p r (λ more. ap (λ t. cond t (calm (not inside) more) ((inside || not (is_mark b)) && calm inside more)) (ne_eqb b 34 q) ∙ ap (λ t. t && calm inside more) m)
    (λ out is. cc (sym m ∙ ap (λ t. t || not (is_mark b)) out ∙ ap not is))

pub taken : (xs ys : List ℕ) → take (length xs) (xs ++ ys) ≡ xs
taken [] ys = refl
taken (x ∷ xs) ys = ap (λ zs. x ∷ zs) (taken xs ys)

pub cut_here : (text front rest later first : List ℕ) (inside : Bool) (count : ℕ) (b : ℕ) → Passed text front rest inside count → rest ≡ b ∷ later → inside ≡ false → is_mark b ≡ true → first ≡ take count text → IsCutAt first b later text
cut_here text front rest later first inside count b p r out m t =
    let is : first ≡ front = t ∙ ap (take count) p.parts ∙ ap (λ n. take n (front ++ rest)) (sym p.many) ∙ taken front rest in (
      p.parts ∙ ap (λ x. front ++ x) r ∙ ap (λ x. x ++ b ∷ later) (sym is),
      (ap (calm false) (is ∙ sym (append-nil front)) ∙ p.goes [] ∙ ap not out, m),
    )

-- nothing is cut where no byte is left
pub never_cut : (text front rest : List ℕ) (inside : Bool) (count : ℕ) → Passed text front rest inside count → rest ≡ [] → (f : List ℕ) (c : ℕ) (r : List ℕ) → IsCutAt f c r text → ⊥
never_cut text front rest inside count p e f c r x = let a = p.ahead f c r x in nothing a.front (sym e ∙ a.parts)
  where
    nothing : (g : List ℕ) → [] ≡ g ++ c ∷ r → ⊥
    nothing [] q = cc q
    nothing (d ∷ g) q = cc q
