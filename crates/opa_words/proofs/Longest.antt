-- The scan finds the longest token, and there is one longest token at most.
use Rattle.std.proofs.Common.{◌≡◌, ◌≤◌, ℕ, List, [], ◌∷◌, ◌++◌, length, true, refl, sym, ap, subst, ◌∙◌, arith, length-append}
use Rattle.std.specs.Prelude.{Option, Some, None}
use Rattle.std.specs.Option.{option_or}
use Rattle.opa_words.specs.declared.kinds.TokenKind.{TokenKind}
use Rattle.opa_words.specs.declared.kinds.TokenKind.TheVariants as kind
use Rattle.opa_words.specs.Kinds.{IsToken, IsLongest, BeginsNone}
use Rattle.opa_words.specs.Scan.{date, number, word, text, symbol, token, kinded}
use Rattle.opa_words.proofs.Letters.{starts, Starts, token_starts, Peers, peers, date_parts}
use Rattle.opa_words.proofs.Scans.{AtMost, scan, found, reaches, date_number, date_then}

-- two tokens at one place are of one kind, or a date and a number
starts_alike : (k l : TokenKind) (f g r s : List ℕ) → IsToken k f → IsToken l g → f ++ r ≡ g ++ s → Peers k l
starts_alike k l f g r s a b e = go f g (token_starts k f a) (token_starts l g b) e
  where
    go : (f g : List ℕ) → Starts k f → Starts l g → f ++ r ≡ g ++ s → Peers k l
    go [] g p q e = absurd p
    go (c ∷ f) [] p q e = absurd q
    go (c ∷ f) (d ∷ g) p q e = peers k l c p (subst (λ x. starts l x ≡ true) (let same : d ≡ c = cc e in same) q)

-- where a kind is first in the order, it goes as far as the other
abbrev Before : TokenKind → TokenKind → List ℕ → Type 0
Before kind.Number kind.Date cs = date cs ≡ None
Before k l cs = Unit {0}

same_scan : (o : Option (List ℕ)) (a : List ℕ) (n : ℕ) → o ≡ Some a → AtMost o n → length a ≤ n
same_scan None a n e h = absurd h
same_scan (Some x) a n e h = omega (arith, h, ap length (let f : x ≡ a = cc e in f))

not_none : (o : Option (List ℕ)) (n : ℕ) → o ≡ None → AtMost o n → ⊥
not_none None n e h = h
not_none (Some x) n e h = absurd (cc e)

some_number : (cs a : List ℕ) (o : Option (List ℕ)) (n : ℕ) → date cs ≡ Some a → number cs ≡ o → AtMost o n → length a ≤ n
some_number cs a None n d e h = absurd h
some_number cs a (Some b) n d e h = omega (arith, date_number cs a b d e, h)

reaches_at : (l : TokenKind) (cs f r : List ℕ) → f ++ r ≡ cs → IsToken l f → AtMost (scan l cs) (length r)
reaches_at l cs f r e t = subst (λ x. AtMost (scan l x) (length r)) e (reaches l f r t)

rival : (k l : TokenKind) (cs rest r : List ℕ) → Peers k l → Before k l cs → scan k cs ≡ Some rest → AtMost (scan l cs) (length r) → length rest ≤ length r
rival kind.Word kind.Word cs rest r p b e h = same_scan (word cs) rest (length r) e h
rival kind.Number kind.Number cs rest r p b e h = same_scan (number cs) rest (length r) e h
rival kind.Number kind.Date cs rest r p b e h = absurd (not_none (date cs) (length r) b h)
rival kind.Date kind.Number cs rest r p b e h = some_number cs rest (number cs) (length r) e refl h
rival kind.Date kind.Date cs rest r p b e h = same_scan (date cs) rest (length r) e h
rival kind.Text kind.Text cs rest r p b e h = same_scan (text cs) rest (length r) e h
rival kind.Symbol kind.Symbol cs rest r p b e h = same_scan (symbol cs) rest (length r) e h
rival kind.Word kind.Number cs rest r p b e h = absurd p
rival kind.Word kind.Date cs rest r p b e h = absurd p
rival kind.Word kind.Text cs rest r p b e h = absurd p
rival kind.Word kind.Symbol cs rest r p b e h = absurd p
rival kind.Number kind.Word cs rest r p b e h = absurd p
rival kind.Number kind.Text cs rest r p b e h = absurd p
rival kind.Number kind.Symbol cs rest r p b e h = absurd p
rival kind.Date kind.Word cs rest r p b e h = absurd p
rival kind.Date kind.Text cs rest r p b e h = absurd p
rival kind.Date kind.Symbol cs rest r p b e h = absurd p
rival kind.Text kind.Word cs rest r p b e h = absurd p
rival kind.Text kind.Number cs rest r p b e h = absurd p
rival kind.Text kind.Date cs rest r p b e h = absurd p
rival kind.Text kind.Symbol cs rest r p b e h = absurd p
rival kind.Symbol kind.Word cs rest r p b e h = absurd p
rival kind.Symbol kind.Number cs rest r p b e h = absurd p
rival kind.Symbol kind.Date cs rest r p b e h = absurd p
rival kind.Symbol kind.Text cs rest r p b e h = absurd p

lengths : (f r g s : List ℕ) → f ++ r ≡ g ++ s → length s ≤ length r → length f ≤ length g
lengths f r g s e h = omega (arith, ap length e, length-append f r, length-append g s, h)

is_longest : (k : TokenKind) (cs rest : List ℕ) → ((l : TokenKind) → Before k l cs) → scan k cs ≡ Some rest → IsLongest cs k rest
is_longest k cs rest b e =
    let f = found k cs rest e in
    record {
      front = f.front;
      split = sym f.is;
      token = f.token;
      longest = λ l g r s t. lengths g r f.front rest (s ∙ f.is) (rival k l cs rest r (starts_alike k l f.front g rest r f.token t (sym f.is ∙ sym s)) (b l) e (reaches_at l cs g r s t));
    }

-- the kind that is picked, and what the kinds before it are
abbrev pick : Option (List ℕ) → Option (List ℕ) → Option (List ℕ) → Option (List ℕ) → Option (List ℕ) → Option (TokenKind × List ℕ)
pick d n w t s = option_or (kinded kind.Date d) (option_or (kinded kind.Number n) (option_or (kinded kind.Word w) (option_or (kinded kind.Text t) (kinded kind.Symbol s))))

pub record Picked (cs : List ℕ) (k : TokenKind) (rest : List ℕ) : Type 0 where
  pub scanned : scan k cs ≡ Some rest
  pub before : (l : TokenKind) → Before k l cs

other_before : (k l : TokenKind) (cs : List ℕ) → (k ≡ kind.Number → date cs ≡ None) → Before k l cs
other_before kind.Number kind.Date cs h = h refl
other_before kind.Number kind.Word cs h = tt
other_before kind.Number kind.Number cs h = tt
other_before kind.Number kind.Text cs h = tt
other_before kind.Number kind.Symbol cs h = tt
other_before kind.Word l cs h = tt
other_before kind.Date l cs h = tt
other_before kind.Text l cs h = tt
other_before kind.Symbol l cs h = tt

as_picked : (cs : List ℕ) (a b : TokenKind × List ℕ) → Some a ≡ Some b → Picked cs a.0 a.1 → Picked cs b.0 b.1
as_picked cs a b e q = let same : a ≡ b = cc e in subst (λ z. Picked cs z.0 z.1) same q

picked : (cs : List ℕ) (k : TokenKind) (rest : List ℕ) (d n w t s : Option (List ℕ)) → date cs ≡ d → number cs ≡ n → word cs ≡ w → text cs ≡ t → symbol cs ≡ s → pick d n w t s ≡ Some (k, rest) → Picked cs k rest
picked cs k rest (Some x) n w t s pd pn pw pt ps h = as_picked cs (kind.Date, x) (k, rest) h (record { scanned = pd; before = λ l. other_before kind.Date l cs (λ e. absurd (cc e)) })
picked cs k rest None (Some x) w t s pd pn pw pt ps h = as_picked cs (kind.Number, x) (k, rest) h (record { scanned = pn; before = λ l. other_before kind.Number l cs (λ e. pd) })
picked cs k rest None None (Some x) t s pd pn pw pt ps h = as_picked cs (kind.Word, x) (k, rest) h (record { scanned = pw; before = λ l. other_before kind.Word l cs (λ e. absurd (cc e)) })
picked cs k rest None None None (Some x) s pd pn pw pt ps h = as_picked cs (kind.Text, x) (k, rest) h (record { scanned = pt; before = λ l. other_before kind.Text l cs (λ e. absurd (cc e)) })
picked cs k rest None None None None (Some x) pd pn pw pt ps h = as_picked cs (kind.Symbol, x) (k, rest) h (record { scanned = ps; before = λ l. other_before kind.Symbol l cs (λ e. absurd (cc e)) })
picked cs k rest None None None None None pd pn pw pt ps h = absurd (cc h)

-- the scan finds the longest token
pub token_longest : (cs : List ℕ) (k : TokenKind) (rest : List ℕ) → token cs ≡ Some (k, rest) → IsLongest cs k rest
token_longest cs k rest h =
    let p = picked cs k rest (date cs) (number cs) (word cs) (text cs) (symbol cs) refl refl refl refl refl h in
    is_longest k cs rest p.before p.scanned

nones : (k : TokenKind) (cs : List ℕ) (d n w t s : Option (List ℕ)) → date cs ≡ d → number cs ≡ n → word cs ≡ w → text cs ≡ t → symbol cs ≡ s → pick d n w t s ≡ None → scan k cs ≡ None
nones k cs (Some x) n w t s pd pn pw pt ps h = absurd (cc h)
nones k cs None (Some x) w t s pd pn pw pt ps h = absurd (cc h)
nones k cs None None (Some x) t s pd pn pw pt ps h = absurd (cc h)
nones k cs None None None (Some x) s pd pn pw pt ps h = absurd (cc h)
nones k cs None None None None (Some x) pd pn pw pt ps h = absurd (cc h)
nones kind.Date cs None None None None None pd pn pw pt ps h = pd
nones kind.Number cs None None None None None pd pn pw pt ps h = pn
nones kind.Word cs None None None None None pd pn pw pt ps h = pw
nones kind.Text cs None None None None None pd pn pw pt ps h = pt
nones kind.Symbol cs None None None None None pd pn pw pt ps h = ps

-- and where it finds none, no token begins
pub token_none : (cs : List ℕ) → token cs ≡ None → BeginsNone cs
token_none cs h l f r e t = not_none (scan l cs) (length r) (nones l cs (date cs) (number cs) (word cs) (text cs) (symbol cs) refl refl refl refl refl h) (reaches_at l cs f r e t)

same_front : (f r g s : List ℕ) → f ++ r ≡ g ++ s → length f ≡ length g → (f ≡ g) × (r ≡ s)
same_front [] r [] s e l = (refl, e)
same_front [] r (d ∷ g) s e l = absurd (omega (arith, l))
same_front (c ∷ f) r [] s e l = absurd (omega (arith, l))
same_front (c ∷ f) r (d ∷ g) s e l =
    let later : f ++ r ≡ g ++ s = cc e in
    let rest = same_front f r g s later (omega (arith, l)) in
    (let same : c ≡ d = cc e in ap (λ x. x ∷ f) same ∙ ap (λ x. d ∷ x) rest.0, rest.1)

-- no date is a number
no_number : (f : List ℕ) → IsToken kind.Date f → IsToken kind.Number f → ⊥
no_number f d n =
    let p = date_parts f d in
    let long : AtMost (number (f ++ [])) 0 = reaches kind.Number f [] n in
    absurd (let five : AtMost (Some (45 ∷ p.f ∷ p.g ∷ 45 ∷ p.i ∷ p.j ∷ [])) 0 = subst (λ o. AtMost o 0) (date_then f p []) long in omega (arith, five))

same_kind : (k l : TokenKind) (f : List ℕ) → Peers k l → IsToken k f → IsToken l f → k ≡ l
same_kind kind.Word kind.Word f p a b = refl
same_kind kind.Number kind.Number f p a b = refl
same_kind kind.Date kind.Date f p a b = refl
same_kind kind.Text kind.Text f p a b = refl
same_kind kind.Symbol kind.Symbol f p a b = refl
same_kind kind.Number kind.Date f p a b = absurd (no_number f b a)
same_kind kind.Date kind.Number f p a b = absurd (no_number f a b)
same_kind kind.Word kind.Number f p a b = absurd p
same_kind kind.Word kind.Date f p a b = absurd p
same_kind kind.Word kind.Text f p a b = absurd p
same_kind kind.Word kind.Symbol f p a b = absurd p
same_kind kind.Number kind.Word f p a b = absurd p
same_kind kind.Number kind.Text f p a b = absurd p
same_kind kind.Number kind.Symbol f p a b = absurd p
same_kind kind.Date kind.Word f p a b = absurd p
same_kind kind.Date kind.Text f p a b = absurd p
same_kind kind.Date kind.Symbol f p a b = absurd p
same_kind kind.Text kind.Word f p a b = absurd p
same_kind kind.Text kind.Number f p a b = absurd p
same_kind kind.Text kind.Date f p a b = absurd p
same_kind kind.Text kind.Symbol f p a b = absurd p
same_kind kind.Symbol kind.Word f p a b = absurd p
same_kind kind.Symbol kind.Number f p a b = absurd p
same_kind kind.Symbol kind.Date f p a b = absurd p
same_kind kind.Symbol kind.Text f p a b = absurd p

-- there is one longest token at most, of one kind
pub one_longest : (cs : List ℕ) (k l : TokenKind) (rest left : List ℕ) → IsLongest cs k rest → IsLongest cs l left → (k ≡ l) × (rest ≡ left)
one_longest cs k l rest left a b =
    let e : a.front ++ rest ≡ b.front ++ left = a.split ∙ sym b.split in
    let one = a.longest l b.front left b.split b.token in
    let other = b.longest k a.front rest a.split a.token in
    let same = same_front a.front rest b.front left e (omega (arith, one, other)) in
    (same_kind k l b.front (starts_alike k l a.front b.front rest left a.token b.token e) (subst (IsToken k) same.0 a.token) b.token, same.1)
