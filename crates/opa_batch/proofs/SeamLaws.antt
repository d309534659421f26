-- A text that goes on behind a blank is cut as its two parts are.
use Rattle.std.proofs.Common.{◌≡◌, ◌≤◌, ◌<◌, ◌⊎◌, ◌+◌, ◌-◌, inl, inr, ℕ, zero, suc, List, [], ◌∷◌, ◌++◌, length, map, take, drop, Bool, true, false, cond, refl, sym, ap, ◌∙◌, subst, append_assoc, length-append, arith}
use Rattle.std.specs.Prelude.{◌||◌, ◌==◌}
use Rattle.std.specs.List.{list_any, slice_range}
use Rattle.std.specs.Str.{chars, IsUtf8}
use lib.Utf8.{encode}
use Rattle.std.proofs.lemmas.Bool.{cases_lt}
use Rattle.std.proofs.lemmas.Str.{chars-append}
use Rattle.opa_io.proofs.Characters.{quote_test}
use Rattle.opa_io.proofs.Lists.{any_append, map_append}
use Rattle.opa_words.specs.declared.kinds.TokenKind.{TokenKind}
use Rattle.opa_words.specs.declared.kinds.TokenKind.TheVariants as kind
use Rattle.opa_words.specs.declared.kinds.Token.{Token}
use Rattle.opa_words.specs.Characters.{is_blank, is_control, width}
use Rattle.opa_words.specs.Cuts as c
use Rattle.opa_words.specs.Cuts.{Cuts}
use Rattle.opa_words.specs.Kinds.{IsToken, IsLongest, doubled, quoted}
use Rattle.opa_words.specs.Pieces.{Piece, piece, pieces, IsCutInto}
use Rattle.opa_words.specs.Written.{parts}
use Rattle.opa_words.proofs.CutLaws.{width_chars}
use Rattle.opa_words.proofs.Letters.{starts, token_starts, Peers, peers}
use Rattle.opa_words.proofs.LongestPieces.{Ends}
use Rattle.opa_words.proofs.PlaceLaws.{width-append}
use Rattle.opa_words.proofs.QuotedTexts.{text_goes_on}
use Rattle.opa_words.proofs.Separate.{parts_none}

doubled_append : (xs ys : List ℕ) → doubled (xs ++ ys) ≡ doubled xs ++ doubled ys
doubled_append [] ys = refl
doubled_append (x ∷ xs) ys = go (x == 34) (doubled_append xs ys)
  where
    go : (t : Bool) → doubled (xs ++ ys) ≡ doubled xs ++ doubled ys → cond t (34 ∷ 34 ∷ doubled (xs ++ ys)) (x ∷ doubled (xs ++ ys)) ≡ cond t (34 ∷ 34 ∷ doubled xs) (x ∷ doubled xs) ++ doubled ys
    go true e = ap (λ zs. 34 ∷ 34 ∷ zs) e
    go false e = ap (λ zs. x ∷ zs) e

-- two texts between quotes without a blank between them are one
one_text : (p q : List ℕ) → IsToken kind.Text p → IsToken kind.Text q → IsToken kind.Text (p ++ q)
one_text p q s t = (
  s.0 ++ 34 ∷ t.0,
  any_append is_control s.0 (34 ∷ t.0) ∙ ap (λ b. b || list_any is_control t.0) s.1 ∙ t.1,
  ap (λ x. x ++ q) s.2 ∙ ap (λ x. quoted s.0 ++ x) t.2 ∙ ap (λ x. 34 ∷ x) (append_assoc (doubled s.0) (34 ∷ []) (quoted t.0) ∙ sym (append_assoc (doubled s.0) (34 ∷ 34 ∷ doubled t.0) (34 ∷ [])) ∙ ap (λ x. x ++ 34 ∷ []) (sym (doubled_append s.0 (34 ∷ t.0)))),
)

-- ---- with which character a token begins

first_of : (l : TokenKind) (f r : List ℕ) (x : ℕ) (xs : List ℕ) → f ++ r ≡ x ∷ xs → IsToken l f → starts l x ≡ true
first_of l [] r x xs e t = absurd (token_starts l [] t)
first_of l (y ∷ f) r x xs e t = subst (λ z. starts l z ≡ true) (let k : y ≡ x = cc e in k) (token_starts l (y ∷ f) t)

some_of : (l : TokenKind) (f : List ℕ) → IsToken l f → 1 ≤ length f
some_of l [] t = absurd (token_starts l [] t)
some_of l (y ∷ f) t = omega arith

text_alone : (l : TokenKind) → Peers kind.Text l → l ≡ kind.Text
text_alone kind.Text p = refl
text_alone kind.Word p = absurd p
text_alone kind.Number p = absurd p
text_alone kind.Date p = absurd p
text_alone kind.Symbol p = absurd p

is_text : (l : TokenKind) (x : ℕ) → starts kind.Text x ≡ true → starts l x ≡ true → l ≡ kind.Text
is_text l x q s = text_alone l (peers kind.Text l x q s)

abbrev NotQuote : List ℕ → Type 0
NotQuote [] = Unit {0}
NotQuote (c ∷ cs) = c ≡ 34 → ⊥

-- ---- the longest token is the longest one where more comes behind a blank

within : (f r ys back : List ℕ) → f ++ r ≡ ys ++ back → length f ≤ length ys → (r' : List ℕ) × (f ++ r' ≡ ys)
within [] r ys back e h = (ys, refl)
within (x ∷ f) r [] back e h = absurd (omega (arith, h))
within (x ∷ f) r (y ∷ ys) back e h =
    let rest = within f r ys back (let k : f ++ r ≡ ys ++ back = cc e in k) (omega (arith, h)) in
    (rest.0, (let k : x ≡ y = cc e in ap (λ z. z ∷ (f ++ rest.0)) k) ∙ ap (λ zs. y ∷ zs) rest.1)

record Longer (p f rest : List ℕ) : Type 0 where
  pub first : ℕ
  pub later : List ℕ
  pub is : f ≡ p ++ first ∷ later
  pub back : List ℕ
  pub from : rest ≡ first ∷ back

longer : (p f rest r : List ℕ) → f ++ r ≡ p ++ rest → length p < length f → Longer p f rest
longer [] [] rest r e h = absurd (omega (arith, h))
longer [] (c ∷ f) rest r e h = record { first = c; later = f; is = refl; back = f ++ r; from = sym e }
longer (b ∷ p) [] rest r e h = absurd (omega (arith, h))
longer (b ∷ p) (c ∷ f) rest r e h =
    let x = longer p f rest r (let k : f ++ r ≡ p ++ rest = cc e in k) (omega (arith, h)) in
    record { first = x.first; later = x.later; is = (let k : c ≡ b = cc e in ap (λ y. y ∷ f) k) ∙ ap (λ y. b ∷ y) x.is; back = x.back; from = x.from }

parted : (rest : List ℕ) (c : ℕ) (back : List ℕ) → Ends rest → rest ≡ c ∷ back → parts c ≡ true
parted [] c back h e = absurd (cc e)
parted (d ∷ rest) c back h e = subst (λ x. parts x ≡ true) (let k : d ≡ c = cc e in k) h

no_parting : (c : ℕ) → parts c ≡ true → c ≡ 34 → ⊥
no_parting c p q = absurd (let k : true ≡ false = sym p ∙ ap parts q in cc k)

module _ (k : TokenKind) (x : ℕ) (xs rest back : List ℕ) (is : IsLongest (x ∷ xs) k rest) (quiet : k ≡ kind.Text → NotQuote rest) (ends : Ends back) where
  no_text : (f : List ℕ) (first : ℕ) (later : List ℕ) → starts kind.Text x ≡ true → IsToken kind.Text f → f ≡ (x ∷ xs) ++ first ∷ later → parts first ≡ true → ⊥
  no_text f first later q t e p = go rest (quiet text) (e ∙ ap (λ ys. ys ++ first ∷ later) (sym is.split) ∙ append_assoc is.front rest (first ∷ later))
    where
      text : k ≡ kind.Text
      text = is_text k x q (first_of k is.front rest x xs is.split is.token)

      front : IsToken kind.Text is.front
      front = subst (λ l. IsToken l is.front) text is.token

      go : (ys : List ℕ) → NotQuote ys → f ≡ is.front ++ (ys ++ first ∷ later) → ⊥
      go [] n h = no_parting first p (text_goes_on is.front f first later front t h)
      go (y ∷ ys) n h = n (text_goes_on is.front f y (ys ++ first ∷ later) front t h)

  no_token : (l : TokenKind) (f : List ℕ) (first : ℕ) (later : List ℕ) → starts l x ≡ true → IsToken l f → f ≡ (x ∷ xs) ++ first ∷ later → parts first ≡ true → ⊥
  no_token kind.Text f first later q t e p = no_text f first later q t e p
  no_token kind.Word f first later q t e p = parts_none kind.Word x xs first later tt (subst (IsToken kind.Word) e t) p
  no_token kind.Number f first later q t e p = parts_none kind.Number x xs first later tt (subst (IsToken kind.Number) e t) p
  no_token kind.Date f first later q t e p = parts_none kind.Date x xs first later tt (subst (IsToken kind.Date) e t) p
  no_token kind.Symbol f first later q t e p = parts_none kind.Symbol x xs first later tt (subst (IsToken kind.Symbol) e t) p

  no_longer : (l : TokenKind) (f r : List ℕ) → f ++ r ≡ x ∷ (xs ++ back) → IsToken l f → length f ≤ length is.front
  no_longer l f r e t = go (cases_lt (length (x ∷ xs)) (length f))
    where
      go : (length (x ∷ xs) < length f) ⊎ (length f ≤ length (x ∷ xs)) → length f ≤ length is.front
      go (inr few) = let w = within f r (x ∷ xs) back e few in is.longest l f w.0 w.1 t
      go (inl more) =
          let y = longer (x ∷ xs) f back r e more in
          absurd (no_token l f y.first y.later (first_of l f r x (xs ++ back) e t) t y.is (parted back y.first y.back ends y.from))

  longest_over : IsLongest (x ∷ (xs ++ back)) k (rest ++ back)
  longest_over = record {
    front = is.front;
    split = sym (append_assoc is.front rest back) ∙ ap (λ ys. ys ++ back) is.split;
    token = is.token;
    longest = no_longer;
  }

-- ---- what is cut goes on so

begun_by_quote : (total x : ℕ) (xs : List ℕ) (ts : List Token) → x ≡ 34 → Cuts total (x ∷ xs) ts → (q left : List ℕ) × (q ++ left ≡ x ∷ xs) × IsToken kind.Text q
begun_by_quote total x xs ts e (c.Cuts.blank b d) = absurd (let k : true ≡ false = sym b ∙ ap is_blank e in cc k)
begun_by_quote total x xs ts e (c.Cuts.cut l left b is d) =
    (is.front, left, is.split, subst (λ k. IsToken k is.front) (is_text l x (quote_test x e) (first_of l is.front left x xs is.split is.token)) is.token)

-- behind the longest text comes no other one
quiet_behind : (total : ℕ) (cs rest : List ℕ) (ts : List Token) (k : TokenKind) → IsLongest cs k rest → Cuts total rest ts → k ≡ kind.Text → NotQuote rest
quiet_behind total cs [] ts k is d text = tt
quiet_behind total cs (x ∷ xs) ts k is d text = λ e.
    let q = begun_by_quote total x xs ts e d in
    let both : IsToken kind.Text (is.front ++ q.0) = one_text is.front q.0 (subst (λ l. IsToken l is.front) text is.token) q.3 in
    let few = is.longest kind.Text (is.front ++ q.0) q.1 (append_assoc is.front q.0 q.1 ∙ ap (λ ys. is.front ++ ys) q.2 ∙ is.split) both in
    let some = some_of kind.Text q.0 q.3 in
    let long = length-append is.front q.0 in
    absurd (omega (arith, few, some, long))

module _ (before total : ℕ) (back : List ℕ) (ends : Ends back) (wide : total ≡ before + width back) where
  place_same : (cs : List ℕ) → total - width (cs ++ back) ≡ before - width cs
  place_same cs = let w = width-append cs back in omega (arith, wide, w)

  cut_more : (x : ℕ) (xs : List ℕ) (ts us : List Token) (k : TokenKind) (rest : List ℕ) → is_blank x ≡ false → IsLongest (x ∷ xs) k rest → Cuts before rest ts → Cuts total (rest ++ back) (ts ++ us)
      → Cuts total (x ∷ (xs ++ back)) (record { kind = k; start = before - width (x ∷ xs); end = before - width rest } ∷ (ts ++ us))
  cut_more x xs ts us k rest b is d more =
      let at : ℕ → ℕ → Type 0 = λ i j. Cuts total (x ∷ (xs ++ back)) (record { kind = k; start = i; end = j } ∷ (ts ++ us)) in
      subst (λ i. at i (before - width rest)) (place_same (x ∷ xs)) (subst (λ j. at (total - width (x ∷ (xs ++ back))) j) (place_same rest) (c.Cuts.cut k (rest ++ back) b (longest_over k x xs rest back is (quiet_behind before (x ∷ xs) rest ts k is d) ends) more))

  pub cut_on : {cs : List ℕ} {ts : List Token} → Cuts before cs ts → (us : List Token) → Cuts total back us → Cuts total (cs ++ back) (ts ++ us)
  cut_on c.Cuts.ends us d = d
  cut_on (c.Cuts.blank b h) us d = c.Cuts.blank b (cut_on h us d)
  cut_on (c.Cuts.cut {c = x} {cs = xs} {ts = ts} k rest b is h) us d = cut_more x xs ts us k rest b is h (cut_on h us d)

-- ---- the same tokens at other places

abbrev moved : ℕ → Token → Token
moved n t = record { kind = t.kind; start = n + t.start; end = n + t.end }

module _ (n less more : ℕ) (wide : more ≡ n + less) where
  moved_token : (x : ℕ) (xs rest : List ℕ) (k : TokenKind) (ts : List Token) → width (x ∷ xs) ≤ less → is_blank x ≡ false → IsLongest (x ∷ xs) k rest → Cuts more rest (map (moved n) ts)
      → Cuts more (x ∷ xs) (map (moved n) (record { kind = k; start = less - width (x ∷ xs); end = less - width rest } ∷ ts))
  moved_token x xs rest k ts few b is d =
      let w : width (is.front ++ rest) ≡ width is.front + width rest = width-append is.front rest in
      let v : width (is.front ++ rest) ≡ width (x ∷ xs) = ap width is.split in
      let from : more - width (x ∷ xs) ≡ n + (less - width (x ∷ xs)) = omega (arith, few, wide) in
      let to : more - width rest ≡ n + (less - width rest) = omega (arith, few, wide, w, v) in
      let at : ℕ → ℕ → Type 0 = λ i j. Cuts more (x ∷ xs) (record { kind = k; start = i; end = j } ∷ map (moved n) ts) in
      subst (λ i. at i (n + (less - width rest))) from (subst (λ j. at (more - width (x ∷ xs)) j) to (c.Cuts.cut k rest b is d))

  rest_few : (x : ℕ) (xs rest : List ℕ) (k : TokenKind) → IsLongest (x ∷ xs) k rest → width (x ∷ xs) ≤ less → width rest ≤ less
  rest_few x xs rest k is few =
      let w : width (is.front ++ rest) ≡ width is.front + width rest = width-append is.front rest in
      let v : width (is.front ++ rest) ≡ width (x ∷ xs) = ap width is.split in
      omega (arith, few, w, v)

  blank_few : (x : ℕ) (xs : List ℕ) → width (x ∷ xs) ≤ less → width xs ≤ less
  blank_few x xs few = omega (arith, few)

  moved_on : {cs : List ℕ} {ts : List Token} → Cuts less cs ts → width cs ≤ less → Cuts more cs (map (moved n) ts)
  moved_on c.Cuts.ends few = c.Cuts.ends
  moved_on (c.Cuts.blank {c = x} {cs = xs} b d) few = c.Cuts.blank b (moved_on d (blank_few x xs few))
  moved_on (c.Cuts.cut {c = x} {cs = xs} {ts = ts} k rest b is d) few = moved_token x xs rest k ts few b is (moved_on d (rest_few x xs rest k is few))

-- ---- their texts

take_front : (k : ℕ) (xs ys : List ℕ) → k ≤ length xs → take k (xs ++ ys) ≡ take k xs
take_front zero xs ys h = refl
take_front (suc k) [] ys h = absurd (omega (arith, h))
take_front (suc k) (x ∷ xs) ys h = ap (λ zs. x ∷ zs) (take_front k xs ys (omega (arith, h)))

slice_front : (xs ys : List ℕ) (i j : ℕ) → j ≤ length xs → slice_range (xs ++ ys) i j ≡ slice_range xs i j
slice_front xs ys zero j h = take_front (j - 0) xs ys (omega (arith, h))
slice_front [] ys (suc i) j h = ap (λ k. take k (drop (suc i) ys)) (let e : j - suc i ≡ 0 = omega (arith, h) in e) ∙ sym (ap (λ k. take k []) (let e : j - suc i ≡ 0 = omega (arith, h) in e))
slice_front (x ∷ xs) ys (suc i) j h =
    let e : j - suc i ≡ (j - 1) - i = omega arith in
    ap (λ k. take k (drop i (xs ++ ys))) e ∙ slice_front xs ys i (j - 1) (omega (arith, h)) ∙ sym (ap (λ k. take k (drop i xs)) e)

drop_behind : (xs ys : List ℕ) (i : ℕ) → drop (length xs + i) (xs ++ ys) ≡ drop i ys
drop_behind [] ys i = ap (λ k. drop k ys) (let e : length {A = ℕ} [] + i ≡ i = omega arith in e)
drop_behind (x ∷ xs) ys i = ap (λ k. drop k (x ∷ (xs ++ ys))) (let e : length (x ∷ xs) + i ≡ suc (length xs + i) = omega arith in e) ∙ drop_behind xs ys i

slice_behind : (xs ys : List ℕ) (i j : ℕ) → slice_range (xs ++ ys) (length xs + i) (length xs + j) ≡ slice_range ys i j
slice_behind xs ys i j =
    ap (λ k. take k (drop (length xs + i) (xs ++ ys))) (let e : (length xs + j) - (length xs + i) ≡ j - i = omega arith in e)
    ∙ ap (take (j - i)) (drop_behind xs ys i)

front_pieces : (front back : List ℕ) {cs : List ℕ} {ts : List Token} → Cuts (length front) cs ts → pieces (front ++ back) ts ≡ pieces front ts
front_pieces front back c.Cuts.ends = refl
front_pieces front back (c.Cuts.blank b d) = front_pieces front back d
front_pieces front back (c.Cuts.cut {c = x} {cs = xs} {ts = ts} k rest b is d) =
    ap (λ t. record { kind = k; text = t } ∷ pieces (front ++ back) ts) (slice_front front back (length front - width (x ∷ xs)) (length front - width rest) (omega arith))
    ∙ ap (λ ps. record { kind = k; text = slice_range front (length front - width (x ∷ xs)) (length front - width rest) } ∷ ps) (front_pieces front back d)

behind_pieces : (front back : List ℕ) (us : List Token) → pieces (front ++ back) (map (moved (length front)) us) ≡ pieces back us
behind_pieces front back [] = refl
behind_pieces front back (u ∷ us) =
    ap (λ t. record { kind = u.kind; text = t } ∷ pieces (front ++ back) (map (moved (length front)) us)) (slice_behind front back u.start u.end) ∙ ap (λ ps. piece back u ∷ ps) (behind_pieces front back us)

space : chars (32 ∷ []) ≡ 32 ∷ []
unfolding chars
space = refl

pub one_space : IsUtf8 (32 ∷ [])
unfolding encode
one_space = (32 ∷ [], (refl, refl))

spaced_chars : (bs : List ℕ) → chars (32 ∷ bs) ≡ 32 ∷ chars bs
spaced_chars bs = chars-append (32 ∷ []) bs one_space ∙ ap (λ x. x ++ chars bs) space

-- ---- a text that goes on behind a blank

module _ (front cell : List ℕ) (text : IsUtf8 front) (behind : IsUtf8 cell) where
  abbrev whole : List ℕ
  whole = front ++ 32 ∷ cell

  abbrev lead : List ℕ
  lead = front ++ 32 ∷ []

  abbrev shifted : List Token → List Token
  shifted us = map (moved (length lead)) us

  same_whole : whole ≡ lead ++ cell
  same_whole = sym (append_assoc front (32 ∷ []) cell)

  whole_chars : chars whole ≡ chars front ++ 32 ∷ chars cell
  whole_chars = chars-append front (32 ∷ cell) text ∙ ap (λ cs. chars front ++ cs) (spaced_chars cell)

  cell_few : width (chars cell) ≤ length cell
  cell_few = let w = width_chars cell behind in omega (arith, w)

  wide : length whole ≡ length front + width (32 ∷ chars cell)
  wide = let w = width_chars cell behind in let l = length-append front (32 ∷ cell) in omega (arith, w, l)

  shift_wide : length whole ≡ length lead + length cell
  shift_wide = ap length same_whole ∙ length-append lead cell

  pieces_joined : (ts us : List Token) → Cuts (length front) (chars front) ts → pieces whole (ts ++ shifted us) ≡ pieces front ts ++ pieces cell us
  pieces_joined ts us d =
      map_append (piece whole) ts (shifted us) ∙ ap (λ ps. ps ++ pieces whole (shifted us)) (front_pieces front (32 ∷ cell) d)
      ∙ ap (λ ps. pieces front ts ++ ps) (ap (λ bs. pieces bs (shifted us)) same_whole ∙ behind_pieces lead cell us)

  -- what its parts are cut into it is cut into
  pub joined_cut : (fp cp : List Piece) → IsCutInto front fp → IsCutInto cell cp → IsCutInto whole (fp ++ cp)
  joined_cut fp cp (ts, d, e) (us, d', e') =
      let rest : Cuts (length whole) (32 ∷ chars cell) (shifted us) = c.Cuts.blank refl (moved_on (length lead) (length cell) (length whole) shift_wide d' cell_few) in (
        ts ++ shifted us,
        subst (λ cs. Cuts (length whole) cs (ts ++ shifted us)) (sym whole_chars) (cut_on (length front) (length whole) (32 ∷ chars cell) refl wide d (shifted us) rest),
        pieces_joined ts us d ∙ ap (λ ps. ps ++ pieces cell us) e ∙ ap (λ ps. fp ++ ps) e',
      )
