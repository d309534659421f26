-- Tokens stand in the bytes of their text.
use Rattle.std.proofs.Common.{◌≡◌, ◌<◌, ◌+◌, ◌-◌, ℕ, List, [], ◌∷◌, ◌++◌, length, take, drop, true, refl, sym, ap, subst, ◌∙◌, arith, append_assoc, append-nil}
use Rattle.std.specs.List.{list_all, slice_range, All, AllByRecursion}
use Rattle.std.specs.Str.{chars, IsUtf8, IsCharBoundary}
use lib.Utf8.{scalar, scalars, encodes}
use Rattle.std.proofs.lemmas.List.Elements.{All-from_recursion}
use Rattle.std.proofs.lemmas.Str.{encodes-chars, scalars-chars, chars-encodes, encodes-append, len_utf8_bounds, encode_ascii, IsCharBoundary-at_seam}
use Rattle.std.proofs.Math.Seq.{drop-append_seam, take-append_seam}
use Rattle.std.proofs.lemmas.Bool.{and_from}
use Rattle.opa_io.proofs.Bools.{and_first, and_second}
use Rattle.opa_words.specs.declared.kinds.TokenKind.{TokenKind}
use Rattle.opa_words.specs.declared.kinds.Token.{Token}
use Rattle.opa_words.specs.declared.fault.WordFault.{WordFault}
use Rattle.opa_words.specs.declared.fault.WordFault.TheVariants as fault
use Rattle.opa_words.specs.Characters.{width, is_blank}
use Rattle.opa_words.specs.Kinds.{IsToken, IsLongest}
use Rattle.opa_words.specs.Cuts as c
use Rattle.opa_words.specs.Cuts.{Cuts, Stuck, IsCause}
use Rattle.opa_words.specs.Places.{IsWithin, IsOfKind, AreBlank, AreApart, IsAtCharacter}
use Rattle.opa_words.proofs.CutLaws.{width_encodes, width_chars}

pub width-append : (cs ds : List ℕ) → width (cs ++ ds) ≡ width cs + width ds
width-append [] ds = omega arith
width-append (c ∷ cs) ds = omega (arith, width-append cs ds)

scalars_front : (cs ds : List ℕ) → scalars (cs ++ ds) ≡ true → scalars cs ≡ true
scalars_front [] ds h = refl
scalars_front (c ∷ cs) ds h = and_from (scalar c) (scalars cs) (and_first (scalar c) (scalars (cs ++ ds)) h) (scalars_front cs ds (and_second (scalar c) (scalars (cs ++ ds)) h))

scalars_back : (cs ds : List ℕ) → scalars (cs ++ ds) ≡ true → scalars ds ≡ true
scalars_back [] ds h = h
scalars_back (c ∷ cs) ds h = scalars_back cs ds (and_second (scalar c) (scalars (cs ++ ds)) h)

blank_byte : (b : ℕ) → is_blank b ≡ true → b < 128
blank_byte b h = grind (arith, h)

-- blanks are their own bytes
blanks : (cs : List ℕ) → list_all is_blank cs ≡ true → encodes cs ≡ cs
blanks [] h = refl
blanks (c ∷ cs) h = ap (λ x. x ++ encodes cs) (encode_ascii c (blank_byte c (and_first (is_blank c) (list_all is_blank cs) h))) ∙ ap (λ x. c ∷ x) (blanks cs (and_second (is_blank c) (list_all is_blank cs) h))

blank_push : (cs : List ℕ) (b : ℕ) → list_all is_blank cs ≡ true → is_blank b ≡ true → list_all is_blank (cs ++ b ∷ []) ≡ true
blank_push [] b h k = and_from (is_blank b) true k refl
blank_push (c ∷ cs) b h k = and_from (is_blank c) (list_all is_blank (cs ++ b ∷ [])) (and_first (is_blank c) (list_all is_blank cs) h) (blank_push cs b (and_second (is_blank c) (list_all is_blank cs) h) k)

module _ (bs : List ℕ) (utf8 : IsUtf8 bs) where
  spelled : (pre cs : List ℕ) → pre ++ cs ≡ chars bs → bs ≡ encodes pre ++ encodes cs
  spelled pre cs e = sym (encodes-chars bs utf8) ∙ ap encodes (sym e) ∙ encodes-append pre cs

  at_border : (pre cs : List ℕ) → pre ++ cs ≡ chars bs → IsCharBoundary bs (width pre)
  at_border pre cs e =
      subst (IsCharBoundary bs) (width_encodes pre)
      (IsCharBoundary-at_seam bs (encodes pre) (encodes cs) (spelled pre cs e) (cs, (scalars_back pre cs (ap scalars e ∙ scalars-chars bs utf8), refl)))

  within : (pre cs : List ℕ) → pre ++ cs ≡ chars bs → width pre + width cs ≡ length bs
  within pre cs e = sym (width-append pre cs) ∙ ap width e ∙ width_chars bs utf8

  after : (pre cs : List ℕ) → pre ++ cs ≡ chars bs → drop (width pre) bs ≡ encodes cs
  after pre cs e = ap (drop (width pre)) (spelled pre cs e) ∙ ap (λ n. drop n (encodes pre ++ encodes cs)) (sym (width_encodes pre)) ∙ drop-append_seam (encodes pre) (encodes cs)

  between : (pre mid cs : List ℕ) (n : ℕ) → pre ++ (mid ++ cs) ≡ chars bs → n ≡ width pre + width mid → slice_range bs (width pre) n ≡ encodes mid
  between pre mid cs n e k =
      let wide : n - width pre ≡ length (encodes mid) = omega (arith, k, width_encodes mid) in
      ap (take (n - width pre)) (after pre (mid ++ cs) e ∙ encodes-append mid cs) ∙ ap (λ m. take m (encodes mid ++ encodes cs)) wide ∙ take-append_seam (encodes mid) (encodes cs)

  -- what is known of tokens from a place on
  pub record Laid (at : ℕ) (ts : List Token) : Type 0 where
    pub within : AllByRecursion (IsWithin bs) ts
    pub kinds : AllByRecursion (IsOfKind bs) ts
    pub apart : AreApart bs at ts

  total : ℕ
  total = length bs

  -- tokens of what follows the blanks after a place
  abbrev Follows : List ℕ → List Token → Type 0
  Follows cs ts = (pre gap : List ℕ) → pre ++ (gap ++ cs) ≡ chars bs → list_all is_blank gap ≡ true → Laid (width pre) ts

  no_more : Follows [] []
  no_more pre gap e g = record { within = tt; kinds = tt; apart = subst AreBlank (sym (after pre gap (ap (λ x. pre ++ x) (sym (append-nil gap)) ∙ e) ∙ blanks gap g)) g }

  past_blank : (x : ℕ) (cs : List ℕ) (ts : List Token) → is_blank x ≡ true → Follows cs ts → Follows (x ∷ cs) ts
  past_blank x cs ts b f pre gap e g = f pre (gap ++ x ∷ []) (ap (λ y. pre ++ y) (append_assoc gap (x ∷ []) cs) ∙ e) (blank_push gap x g b)

  placed : (pre gap front rest : List ℕ) (k : TokenKind) (ts : List Token) (s t : ℕ) → pre ++ (gap ++ (front ++ rest)) ≡ chars bs → list_all is_blank gap ≡ true → IsToken k front
      → s ≡ width pre + width gap → t ≡ s + width front → Laid (width ((pre ++ gap) ++ front)) ts → Laid (width pre) (record { kind = k; start = s; end = t } ∷ ts)
  placed pre gap front rest k ts s t e g is p q more =
      let e2 : (pre ++ gap) ++ (front ++ rest) ≡ chars bs = append_assoc pre gap (front ++ rest) ∙ e in
      let e3 : ((pre ++ gap) ++ front) ++ rest ≡ chars bs = append_assoc (pre ++ gap) front rest ∙ e2 in
      let s_is : width (pre ++ gap) ≡ s = width-append pre gap ∙ sym p in
      let t_is : width ((pre ++ gap) ++ front) ≡ t = width-append (pre ++ gap) front ∙ omega (arith, s_is, q) in
      let text : slice_range bs s t ≡ encodes front = ap (λ n. slice_range bs n t) (sym s_is) ∙ between (pre ++ gap) front rest t e2 (omega (arith, s_is, q)) in
      let named : chars (encodes front) ≡ front = chars-encodes front (scalars_front front rest (scalars_back (pre ++ gap) (front ++ rest) (ap scalars e2 ∙ scalars-chars bs utf8))) in
      record {
        within = (
          record {
            order = omega (arith, q);
            ends = omega (arith, within ((pre ++ gap) ++ front) rest e3, t_is);
            from = subst (IsCharBoundary bs) s_is (at_border (pre ++ gap) (front ++ rest) e2);
            to = subst (IsCharBoundary bs) t_is (at_border ((pre ++ gap) ++ front) rest e3);
          },
          more.within,
        );
        kinds = (subst (IsToken k) (sym (ap chars text ∙ named)) is, more.kinds);
        apart = (omega (arith, p), subst AreBlank (sym (between pre gap (front ++ rest) s e p ∙ blanks gap g)) g, subst (λ n. AreApart bs n ts) t_is more.apart);
      }

  past_token : (x : ℕ) (cs : List ℕ) (ts : List Token) (k : TokenKind) (rest : List ℕ) → IsLongest (x ∷ cs) k rest → Follows rest ts
      → Follows (x ∷ cs) (record { kind = k; start = length bs - width (x ∷ cs); end = length bs - width rest } ∷ ts)
  past_token x cs ts k rest is f pre gap e g =
      let e1 : pre ++ (gap ++ (is.front ++ rest)) ≡ chars bs = ap (λ y. pre ++ (gap ++ y)) is.split ∙ e in
      let e2 : (pre ++ gap) ++ (is.front ++ rest) ≡ chars bs = append_assoc pre gap (is.front ++ rest) ∙ e1 in
      let e3 : ((pre ++ gap) ++ is.front) ++ rest ≡ chars bs = append_assoc (pre ++ gap) is.front rest ∙ e2 in
      let all1 = within (pre ++ gap) (is.front ++ rest) e2 in
      let all2 = within ((pre ++ gap) ++ is.front) rest e3 in
      let one = ap width is.split in
      placed pre gap is.front rest k ts (length bs - width (x ∷ cs)) (length bs - width rest) e1 g is.token
      (omega (arith, all1, one, width-append pre gap)) (omega (arith, all1, all2, one, width-append pre gap, width-append (pre ++ gap) is.front))
      (f ((pre ++ gap) ++ is.front) [] e3 refl)

  pub follows : {cs : List ℕ} {ts : List Token} → Cuts (length bs) cs ts → Follows cs ts
  follows c.Cuts.ends = no_more
  follows (c.Cuts.blank {c = x} {cs = cs} {ts = ts} b d) = past_blank x cs ts b (follows d)
  follows (c.Cuts.cut {c = x} {cs = cs} {ts = ts} k rest b is d) = past_token x cs ts k rest is (follows d)

  -- the place where no token begins
  abbrev IsStuckAt : List ℕ → ℕ → Type 0
  IsStuckAt cs p = (pre : List ℕ) → pre ++ cs ≡ chars bs → (p < length bs) × IsCharBoundary bs p

  stuck_here : (x : ℕ) (cs : List ℕ) → IsStuckAt (x ∷ cs) (length bs - width (x ∷ cs))
  stuck_here x cs pre e =
      let all = within pre (x ∷ cs) e in
      let some = len_utf8_bounds x in
      (omega (arith, all, some.0), subst (IsCharBoundary bs) (let k : width pre ≡ length bs - width (x ∷ cs) = omega (arith, all) in k) (at_border pre (x ∷ cs) e))

  stuck_later : (front cs : List ℕ) (p : ℕ) → IsStuckAt cs p → IsStuckAt (front ++ cs) p
  stuck_later front cs p f pre e = f (pre ++ front) (append_assoc pre front cs ∙ e)

  pub stuck_at : {cs : List ℕ} {p : ℕ} → Stuck (length bs) cs p → IsStuckAt cs p
  stuck_at (c.Stuck.here {c = x} {cs = cs} b none) = stuck_here x cs
  stuck_at (c.Stuck.blank {c = x} {cs = cs} {p = p} b d) = stuck_later (x ∷ []) cs p (stuck_at d)
  stuck_at (c.Stuck.cut {c = x} {cs = cs} {p = p} k rest b is d) = subst (λ y. IsStuckAt y p) is.split (stuck_later is.front rest p (stuck_at d))

pub tokens_within : (bs : List ℕ) (ts : List Token) → IsUtf8 bs → Cuts (length bs) (chars bs) ts → All (IsWithin bs) ts
tokens_within bs ts u d = All-from_recursion (IsWithin bs) ts (follows bs u d [] [] refl refl).within

pub tokens_of_kind : (bs : List ℕ) (ts : List Token) → IsUtf8 bs → Cuts (length bs) (chars bs) ts → All (IsOfKind bs) ts
tokens_of_kind bs ts u d = All-from_recursion (IsOfKind bs) ts (follows bs u d [] [] refl refl).kinds

pub tokens_apart : (bs : List ℕ) (ts : List Token) → IsUtf8 bs → Cuts (length bs) (chars bs) ts → AreApart bs 0 ts
tokens_apart bs ts u d = (follows bs u d [] [] refl refl).apart

pub fault_at_character : (bs : List ℕ) (e : WordFault) → IsUtf8 bs → IsCause (length bs) (chars bs) e → IsAtCharacter bs e
fault_at_character bs (fault.Place p) u d = stuck_at bs u d [] refl
fault_at_character bs fault.NoMemory u d = tt
