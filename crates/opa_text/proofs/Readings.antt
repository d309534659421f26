-- What is read at the front of tokens is what they spell there.
use Rattle.std.proofs.Common.{◌≡◌, ℕ, ℤ, List, [], ◌∷◌, Bool, true, false, refl, sym, ap, subst, ◌∙◌, arith, cond}
use Rattle.std.proofs.Common.{inl, inr}
use Rattle.std.specs.Prelude.{Option, Some, None, Result, Ok, Err, neg_ℤ, codes, if◌then◌else◌, MatchOption}
use Rattle.std.specs.Option.{option_map, option_and_then}
use Rattle.std.specs.Str.{bytes_eq}
use Rattle.std.proofs.Math.IntN.{neg_ℤ-neg_ℤ}
use Rattle.std.proofs.lemmas.Slice.Eq.{bytes_eq-Decides}
use Rattle.std.proofs.lemmas.Option.{option_and_then_some}
use Rattle.opa_value.specs.declared.value.Value.{Value}
use Rattle.opa_value.specs.declared.value.Value.TheVariants as value
use Rattle.opa_value.specs.declared.number.NumFault.{NumFault}
use Rattle.opa_value.specs.declared.number.NumFault.TheVariants as numfault
use Rattle.opa_value.specs.Numbers.{kept, in_range}
use Rattle.opa_value.specs.NumberText.{read_number, held_count, count_of}
use Rattle.opa_date.specs.declared.fault.DayFault.{DayFault}
use Rattle.opa_date.specs.Texts.{read_day}
use Rattle.opa_words.specs.declared.kinds.TokenKind.{TokenKind}
use Rattle.opa_words.specs.declared.kinds.TokenKind.TheVariants as kind
use Rattle.opa_words.specs.Kinds.{quoted}
use Rattle.opa_words.proofs.QuoteLaws.{quoted_tells_apart}
use Rattle.opa_words.specs.Pieces.{Piece, word, number, date, symbol, text}
use Rattle.opa_text.specs.Spelled.{SpellsDay, SpellsValue, SpellsChange, SpellsNext}
use Rattle.opa_text.specs.Readers as reads
use Rattle.opa_text.specs.Readers.{as_written, value_at, day_at, change_at, changed_day, value_from, past_symbol, past_word, past_from, name_at, next_name, word_value, token_value, negative_token, after_minus, with_rest, number_of, number_read, negative, day_of, day_read, is_symbol, is_word, text_token}

-- ---- values are known by how they are written

abbrev is_words : Value → Bool
is_words (value.Words t) = true
is_words v = false

plain_or_text : (v w : Value) → is_words v ≡ false → v ≡ as_written w → v ≡ w
plain_or_text v value.Unknown h e = e
plain_or_text v value.Uncertain h e = e
plain_or_text v (value.Bool b) h e = e
plain_or_text v (value.Num n) h e = e
plain_or_text v (value.Day d) h e = e
plain_or_text v (value.Words t) h e = absurd (let f : is_words v ≡ true = ap is_words e in let g : true ≡ false = sym f ∙ h in cc g)

pub written_apart : (v w : Value) → as_written v ≡ as_written w → v ≡ w
written_apart (value.Words t) (value.Words s) e = ap (λ x. value.Words x) (quoted_tells_apart t s (let f : quoted t ≡ quoted s = cc e in f))
written_apart (value.Words t) value.Unknown e = absurd (cc e)
written_apart (value.Words t) value.Uncertain e = absurd (cc e)
written_apart (value.Words t) (value.Bool b) e = absurd (cc e)
written_apart (value.Words t) (value.Num n) e = absurd (cc e)
written_apart (value.Words t) (value.Day d) e = absurd (cc e)
written_apart value.Unknown w e = plain_or_text value.Unknown w refl e
written_apart value.Uncertain w e = plain_or_text value.Uncertain w refl e
written_apart (value.Bool b) w e = plain_or_text (value.Bool b) w refl e
written_apart (value.Num n) w e = plain_or_text (value.Num n) w refl e
written_apart (value.Day d) w e = plain_or_text (value.Day d) w refl e

-- what is read, and what follows it
abbrev pub read_as : {A : Type 0} → A → List Piece → Option (A × List Piece)
read_as x ps = Some (x, ps)

same_some : {A : Type 0} (x y : A × List Piece) → Some x ≡ Some y → x ≡ y
same_some x y e = cc e

same_read : {A : Type 0} (x y : A) (ps qs : List Piece) → read_as x ps ≡ read_as y qs → (x ≡ y) × (ps ≡ qs)
same_read {A} x y ps qs e =
    let pair : read_as x ps ≡ read_as y qs = e in
    let both = same_some (x, ps) (y, qs) pair in
    (ap (λ (z : A × List Piece). z.0) both, ap (λ (z : A × List Piece). z.1) both)

-- ---- numbers

held_range : (o : Option ℤ) (m : ℤ) → held_count o ≡ Ok m → in_range m ≡ true
held_range None m e = absurd (cc e)
held_range (Some n) m e = go (in_range n) refl e
  where
    go : (b : Bool) → in_range n ≡ b → (if b then Ok n else Err numfault.Range) ≡ Ok m → in_range m ≡ true
    go true h k = subst (λ x. in_range x ≡ true) (let f : n ≡ m = cc k in f) h
    go false h k = absurd (cc k)

read_range : (t : List ℕ) (m : ℤ) → read_number t ≡ Ok m → in_range m ≡ true
unfolding read_number
read_range t m e = held_range (count_of t) m e

same_size : (m : ℤ) → in_range (neg_ℤ m) ≡ in_range m
same_size m = grind (arith)

kept_is : (m : ℤ) → in_range m ≡ true → kept m ≡ Some m
kept_is m h = ap (λ b. cond b (Some m) None) h

negative_is : (t : List ℕ) (n : ℤ) → read_number t ≡ Ok (neg_ℤ n) → negative (neg_ℤ n) ≡ Some n
negative_is t n e = ap kept (neg_ℤ-neg_ℤ n) ∙ kept_is n (sym (same_size n) ∙ read_range t (neg_ℤ n) e)

number_found : (r : Result ℤ NumFault) (n : ℤ) → number_read r ≡ Some n → r ≡ Ok n
number_found (Ok m) n e = ap (λ x. Ok x) (let f : m ≡ n = cc e in f)
number_found (Err f) n e = absurd (cc e)

day_found : (r : Result ℕ DayFault) (d : ℕ) → day_read r ≡ Some d → r ≡ Ok d
day_found (Ok m) n e = ap (λ x. Ok x) (let f : m ≡ n = cc e in f)
day_found (Err f) n e = absurd (cc e)

kept_same : (m n : ℤ) → kept m ≡ Some n → m ≡ n
kept_same m n e = go (in_range m) e
  where
    go : (b : Bool) → (if b then Some m else None) ≡ Some n → m ≡ n
    go true k = cc k
    go false k = absurd (cc k)

-- ---- what is spelled is read

pub value_complete : (v : Value) (ps rest : List Piece) → SpellsValue v ps rest → value_at ps ≡ Some (as_written v, rest)
value_complete value.Unknown ps rest e = ap value_at e
value_complete value.Uncertain ps rest e = ap value_at e
value_complete (value.Bool true) ps rest e = ap value_at e
value_complete (value.Bool false) ps rest e = ap value_at e
value_complete (value.Num n) ps rest (inl h) = ap value_at h.1 ∙ ap (λ r. with_rest rest (option_map (λ x. value.Num x) (number_read r))) h.2
value_complete (value.Num n) ps rest (inr h) =
    ap value_at h.1 ∙ ap (λ r. with_rest rest (option_map (λ x. value.Num x) (option_and_then negative (number_read r)))) h.2 ∙ ap (λ o. with_rest rest (option_map (λ x. value.Num x) o)) (negative_is h.0 n h.2)
value_complete (value.Words t) ps rest e = ap value_at e
value_complete (value.Day d) ps rest h = ap value_at h.1 ∙ ap (λ r. with_rest rest (option_map (λ x. value.Day x) (day_read r))) h.2

pub day_complete : (d : ℕ) (ps rest : List Piece) → SpellsDay d ps rest → day_at ps ≡ Some (d, rest)
day_complete d ps rest h = ap day_at h.1 ∙ ap (λ r. with_rest rest (day_read r)) h.2

pub change_complete : (p : ℕ × Value) (ps rest : List Piece) → SpellsChange p ps rest → change_at ps ≡ Some ((p.0, as_written p.1), rest)
change_complete p ps rest h =
    ap change_at h.2
    ∙ ap (option_and_then value_from) (day_complete p.0 h.0 h.1 h.3)
    ∙ ap (option_map (λ (y : Value × List Piece). ((p.0, y.0), y.1))) (value_complete p.1 h.1 rest h.4)

pub next_complete : (n : List ℕ) (ps rest : List Piece) → SpellsNext n ps rest → next_name ps ≡ Some (quoted n, rest)
next_complete n ps rest e = ap next_name e

-- ---- what is read is spelled

found_at : (x : Value) (ps qs : List Piece) → SpellsValue x ps qs → (v : Value) (rest : List Piece) → read_as (as_written x) qs ≡ read_as (as_written v) rest → SpellsValue v ps rest
found_at x ps qs s v rest e =
    let same = same_read (as_written x) (as_written v) qs rest e in
    subst (λ y. SpellsValue y ps rest) (written_apart x v same.0) (subst (SpellsValue x ps) same.1 s)

named : (w c : List ℕ) (qs : List Piece) → bytes_eq w c ≡ true → word w ∷ qs ≡ word c ∷ qs
named w c qs h = ap (λ t. word t ∷ qs) ((bytes_eq-Decides w c).0 h)

signed : (w c : List ℕ) (qs : List Piece) → bytes_eq w c ≡ true → symbol w ∷ qs ≡ symbol c ∷ qs
signed w c qs h = ap (λ t. symbol t ∷ qs) ((bytes_eq-Decides w c).0 h)

word_sound : (w : List ℕ) (qs : List Piece) (v : Value) (rest : List Piece) → with_rest qs (word_value w) ≡ Some (as_written v, rest) → SpellsValue v (word w ∷ qs) rest
word_sound w qs v rest e = one (bytes_eq w (codes "unknown")) refl e
  where
    four : (b : Bool) → bytes_eq w (codes "false") ≡ b → with_rest qs (if b then Some (value.Bool false) else None) ≡ Some (as_written v, rest) → SpellsValue v (word w ∷ qs) rest
    four true h k = found_at (value.Bool false) (word w ∷ qs) qs (named w (codes "false") qs h) v rest k
    four false h k = absurd (cc k)

    three : (b : Bool) → bytes_eq w (codes "true") ≡ b → with_rest qs (if b then Some (value.Bool true) else if bytes_eq w (codes "false") then Some (value.Bool false) else None) ≡ Some (as_written v, rest) → SpellsValue v (word w ∷ qs) rest
    three true h k = found_at (value.Bool true) (word w ∷ qs) qs (named w (codes "true") qs h) v rest k
    three false h k = four (bytes_eq w (codes "false")) refl k

    two : (b : Bool) → bytes_eq w (codes "uncertain") ≡ b → with_rest qs (if b then Some value.Uncertain else if bytes_eq w (codes "true") then Some (value.Bool true) else if bytes_eq w (codes "false") then Some (value.Bool false) else None) ≡ Some (as_written v, rest) → SpellsValue v (word w ∷ qs) rest
    two true h k = found_at value.Uncertain (word w ∷ qs) qs (named w (codes "uncertain") qs h) v rest k
    two false h k = three (bytes_eq w (codes "true")) refl k

    one : (b : Bool) → bytes_eq w (codes "unknown") ≡ b → with_rest qs (if b then Some value.Unknown else if bytes_eq w (codes "uncertain") then Some value.Uncertain else if bytes_eq w (codes "true") then Some (value.Bool true) else if bytes_eq w (codes "false") then Some (value.Bool false) else None) ≡ Some (as_written v, rest) → SpellsValue v (word w ∷ qs) rest
    one true h k = found_at value.Unknown (word w ∷ qs) qs (named w (codes "unknown") qs h) v rest k
    one false h k = two (bytes_eq w (codes "uncertain")) refl k

number_sound : (t : List ℕ) (qs : List Piece) (v : Value) (rest : List Piece) (o : Option ℤ) → number_of t ≡ o → with_rest qs (option_map (λ x. value.Num x) o) ≡ Some (as_written v, rest) → SpellsValue v (number t ∷ qs) rest
number_sound t qs v rest None h e = absurd (cc e)
number_sound t qs v rest (Some n) h e = found_at (value.Num n) (number t ∷ qs) qs (inl (t, refl, number_found (read_number t) n h)) v rest e

date_sound : (t : List ℕ) (qs : List Piece) (v : Value) (rest : List Piece) (o : Option ℕ) → day_of t ≡ o → with_rest qs (option_map (λ x. value.Day x) o) ≡ Some (as_written v, rest) → SpellsValue v (date t ∷ qs) rest
date_sound t qs v rest None h e = absurd (cc e)
date_sound t qs v rest (Some d) h e = found_at (value.Day d) (date t ∷ qs) qs (t, refl, day_found (read_day t) d h) v rest e

text_sound : (t : List ℕ) (qs : List Piece) (v : Value) (rest : List Piece) → read_as (value.Words t) qs ≡ read_as (as_written v) rest → SpellsValue v (record { kind = kind.Text; text = t } ∷ qs) rest
text_sound t qs (value.Words s) rest e =
    let same = same_read (value.Words t) (as_written (value.Words s)) qs rest e in
    let f : t ≡ quoted s = cc same.0 in
    ap (λ x. record { kind = kind.Text; text = x } ∷ qs) f ∙ ap (λ x. text s ∷ x) same.1
text_sound t qs value.Unknown rest e = absurd (let f : value.Words t ≡ value.Unknown = (same_read (value.Words t) (as_written value.Unknown) qs rest e).0 in cc f)
text_sound t qs value.Uncertain rest e = absurd (let f : value.Words t ≡ value.Uncertain = (same_read (value.Words t) (as_written value.Uncertain) qs rest e).0 in cc f)
text_sound t qs (value.Bool b) rest e = absurd (let f : value.Words t ≡ value.Bool b = (same_read (value.Words t) (as_written (value.Bool b)) qs rest e).0 in cc f)
text_sound t qs (value.Num n) rest e = absurd (let f : value.Words t ≡ value.Num n = (same_read (value.Words t) (as_written (value.Num n)) qs rest e).0 in cc f)
text_sound t qs (value.Day d) rest e = absurd (let f : value.Words t ≡ value.Day d = (same_read (value.Words t) (as_written (value.Day d)) qs rest e).0 in cc f)

negative_sound : (s t : List ℕ) (qs : List Piece) (v : Value) (rest : List Piece) → bytes_eq s (codes "-") ≡ true → (o : Option ℤ) → number_of t ≡ o → (k : Option ℤ) → option_and_then negative o ≡ k → with_rest qs (option_map (λ x. value.Num x) k) ≡ Some (as_written v, rest) → SpellsValue v (symbol s ∷ number t ∷ qs) rest
negative_sound s t qs v rest m o h None k e = absurd (cc e)
negative_sound s t qs v rest m None h (Some n) k e = absurd (cc k)
negative_sound s t qs v rest m (Some x) h (Some n) k e =
    let back : x ≡ neg_ℤ n = sym (neg_ℤ-neg_ℤ x) ∙ ap neg_ℤ (kept_same (neg_ℤ x) n k) in
    found_at (value.Num n) (symbol s ∷ number t ∷ qs) qs (inr (t, signed s (codes "-") (number t ∷ qs) m, number_found (read_number t) x h ∙ ap (λ y. Ok y) back)) v rest e

minus_sound : (s : List ℕ) (qs : List Piece) (v : Value) (rest : List Piece) → bytes_eq s (codes "-") ≡ true → after_minus qs ≡ Some (as_written v, rest) → SpellsValue v (symbol s ∷ qs) rest
minus_sound s [] v rest m e = absurd (cc e)
minus_sound s (q ∷ qs) v rest m e = go q.kind q.text e
  where
    go : (k : TokenKind) (t : List ℕ) → with_rest qs (negative_token k t) ≡ Some (as_written v, rest) → SpellsValue v (symbol s ∷ record { kind = k; text = t } ∷ qs) rest
    go kind.Number t h = negative_sound s t qs v rest m (number_of t) refl (option_and_then negative (number_of t)) refl h
    go kind.Word t h = absurd (cc h)
    go kind.Date t h = absurd (cc h)
    go kind.Text t h = absurd (cc h)
    go kind.Symbol t h = absurd (cc h)

pub value_sound : (v : Value) (ps rest : List Piece) → value_at ps ≡ Some (as_written v, rest) → SpellsValue v ps rest
value_sound v [] rest e = absurd (cc e)
value_sound v (p ∷ qs) rest e = go p.kind p.text e
  where
    minus : (t : List ℕ) (b : Bool) → bytes_eq t (codes "-") ≡ b → (if b then after_minus qs else None) ≡ Some (as_written v, rest) → SpellsValue v (symbol t ∷ qs) rest
    minus t true h k = minus_sound t qs v rest h k
    minus t false h k = absurd (cc k)

    go : (k : TokenKind) (t : List ℕ) → (if is_symbol (codes "-") k t then after_minus qs else with_rest qs (token_value k t)) ≡ Some (as_written v, rest) → SpellsValue v (record { kind = k; text = t } ∷ qs) rest
    go kind.Word t h = word_sound t qs v rest h
    go kind.Number t h = number_sound t qs v rest (number_of t) refl h
    go kind.Date t h = date_sound t qs v rest (day_of t) refl h
    go kind.Text t h = text_sound t qs v rest h
    go kind.Symbol t h = minus t (bytes_eq t (codes "-")) refl h

pub symbol_sound : (s : List ℕ) (ps qs : List Piece) → past_symbol s ps ≡ Some qs → ps ≡ symbol s ∷ qs
symbol_sound s [] qs e = absurd (cc e)
symbol_sound s (p ∷ ps) qs e = go p.kind p.text e
  where
    test : (t : List ℕ) (b : Bool) → bytes_eq t s ≡ b → (if b then Some ps else None) ≡ Some qs → symbol t ∷ ps ≡ symbol s ∷ qs
    test t true h k = signed t s ps h ∙ (let f : ps ≡ qs = cc k in ap (λ x. symbol s ∷ x) f)
    test t false h k = absurd (cc k)

    go : (k : TokenKind) (t : List ℕ) → (if is_symbol s k t then Some ps else None) ≡ Some qs → record { kind = k; text = t } ∷ ps ≡ symbol s ∷ qs
    go kind.Symbol t h = test t (bytes_eq t s) refl h
    go kind.Word t h = absurd (cc h)
    go kind.Number t h = absurd (cc h)
    go kind.Date t h = absurd (cc h)
    go kind.Text t h = absurd (cc h)

pub word_here : (w : List ℕ) (ps qs : List Piece) → past_word w ps ≡ Some qs → ps ≡ word w ∷ qs
word_here w [] qs e = absurd (cc e)
word_here w (p ∷ ps) qs e = go p.kind p.text e
  where
    test : (t : List ℕ) (b : Bool) → bytes_eq t w ≡ b → (if b then Some ps else None) ≡ Some qs → word t ∷ ps ≡ word w ∷ qs
    test t true h k = named t w ps h ∙ (let f : ps ≡ qs = cc k in ap (λ x. word w ∷ x) f)
    test t false h k = absurd (cc k)

    go : (k : TokenKind) (t : List ℕ) → (if is_word w k t then Some ps else None) ≡ Some qs → record { kind = k; text = t } ∷ ps ≡ word w ∷ qs
    go kind.Word t h = test t (bytes_eq t w) refl h
    go kind.Symbol t h = absurd (cc h)
    go kind.Number t h = absurd (cc h)
    go kind.Date t h = absurd (cc h)
    go kind.Text t h = absurd (cc h)

pub day_sound : (d : ℕ) (ps rest : List Piece) → day_at ps ≡ Some (d, rest) → SpellsDay d ps rest
day_sound d [] rest e = absurd (cc e)
day_sound d (p ∷ ps) rest e = go p.kind p.text e
  where
    test : (t : List ℕ) (o : Option ℕ) → day_of t ≡ o → with_rest ps o ≡ Some (d, rest) → SpellsDay d (date t ∷ ps) rest
    test t None h k = absurd (cc k)
    test t (Some n) h k = let same = same_read n d ps rest k in (t, ap (λ x. date t ∷ x) same.1, day_found (read_day t) n h ∙ ap (λ x. Ok x) same.0)

    go : (k : TokenKind) (t : List ℕ) → with_rest ps (reads.day_token k t) ≡ Some (d, rest) → SpellsDay d (record { kind = k; text = t } ∷ ps) rest
    go kind.Date t h = test t (day_of t) refl h
    go kind.Word t h = absurd (cc h)
    go kind.Symbol t h = absurd (cc h)
    go kind.Number t h = absurd (cc h)
    go kind.Text t h = absurd (cc h)

pub change_sound : (p : ℕ × Value) (ps rest : List Piece) → change_at ps ≡ Some ((p.0, as_written p.1), rest) → SpellsChange p ps rest
change_sound p ps rest e =
    option_and_then_some value_from (changed_day ps) ((p.0, as_written p.1), rest) e (λ x d v. valued x (value_at x.1) refl d v)
  where
    dayed : (later : List Piece) (d : ℕ) (last : List Piece) → past_from ps ≡ Some later → day_at later ≡ Some (d, last) → d ≡ p.0 → SpellsValue p.1 last rest → SpellsChange p ps rest
    dayed later d last f g same s =
        option_and_then_some (past_word (codes "from")) (past_symbol (codes ";") ps) later f (λ qs a b.
        (later, last, symbol_sound (codes ";") ps qs a ∙ ap (λ x. symbol (codes ";") ∷ x) (word_here (codes "from") qs later b), subst (λ n. SpellsDay n later last) same (day_sound d later last g), s))

    valued : (x : ℕ × List Piece) (o : Option (Value × List Piece)) → value_at x.1 ≡ o → changed_day ps ≡ Some x → option_map {U = (ℕ × Value) × List Piece} (λ (y : Value × List Piece). ((x.0, y.0), y.1)) o ≡ read_as {A = ℕ × Value} (p.0, as_written p.1) rest → SpellsChange p ps rest
    valued x None h d k = absurd (cc k)
    valued x (Some y) h d k =
        let pair = same_read {A = ℕ × Value} (x.0, y.0) (p.0, as_written p.1) y.1 rest k in
        let day : x.0 ≡ p.0 = ap (λ (z : ℕ × Value). z.0) pair.0 in
        let val : y.0 ≡ as_written p.1 = ap (λ (z : ℕ × Value). z.1) pair.0 in
        option_and_then_some day_at (past_from ps) x d (λ later a b. dayed later x.0 x.1 a b day (value_sound p.1 x.1 rest (h ∙ ap (λ v. read_as v y.1) val ∙ ap (read_as (as_written p.1)) pair.1)))

pub name_sound : (n : List ℕ) (ps rest : List Piece) → name_at ps ≡ Some (quoted n, rest) → ps ≡ text n ∷ rest
name_sound n [] rest e = absurd (cc e)
name_sound n (p ∷ ps) rest e = go p.kind p.text e
  where
    go : (k : TokenKind) (t : List ℕ) → with_rest ps (text_token k t) ≡ Some (quoted n, rest) → record { kind = k; text = t } ∷ ps ≡ text n ∷ rest
    go kind.Text t h = let same = same_read t (quoted n) ps rest h in ap (λ x. record { kind = kind.Text; text = x } ∷ ps) same.0 ∙ ap (λ x. text n ∷ x) same.1
    go kind.Word t h = absurd (cc h)
    go kind.Symbol t h = absurd (cc h)
    go kind.Number t h = absurd (cc h)
    go kind.Date t h = absurd (cc h)

pub next_sound : (n : List ℕ) (ps rest : List Piece) → next_name ps ≡ Some (quoted n, rest) → SpellsNext n ps rest
next_sound n ps rest e = option_and_then_some name_at (past_symbol (codes ",") ps) (quoted n, rest) e (λ qs a b. symbol_sound (codes ",") ps qs a ∙ ap (λ x. symbol (codes ",") ∷ x) (name_sound n qs rest b))

-- ---- at most one

pub one_value : (ps : List Piece) (v w : Value) (rest left : List Piece) → SpellsValue v ps rest → SpellsValue w ps left → (v ≡ w) × (rest ≡ left)
one_value ps v w rest left s t =
    let same = same_read (as_written v) (as_written w) rest left (sym (value_complete v ps rest s) ∙ value_complete w ps left t) in
    (written_apart v w same.0, same.1)

abbrev written_pair : ℕ × Value → ℕ × Value
written_pair p = (p.0, as_written p.1)

pub one_change : (ps : List Piece) (p q : ℕ × Value) (rest left : List Piece) → SpellsChange p ps rest → SpellsChange q ps left → (p ≡ q) × (rest ≡ left)
one_change ps p q rest left s t =
    let same = same_read (written_pair p) (written_pair q) rest left (sym (change_complete p ps rest s) ∙ change_complete q ps left t) in
    (ap (λ (d : ℕ). pair_of d p.1) (ap (λ (z : ℕ × Value). z.0) same.0) ∙ ap (pair_of q.0) (written_apart p.1 q.1 (ap (λ (z : ℕ × Value). z.1) same.0)), same.1)
  where
    pair_of : ℕ → Value → ℕ × Value
    pair_of d v = (d, v)

pub one_next : (ps : List Piece) (n m : List ℕ) (rest left : List Piece) → SpellsNext n ps rest → SpellsNext m ps left → (n ≡ m) × (rest ≡ left)
one_next ps n m rest left s t =
    let same = same_read (quoted n) (quoted m) rest left (sym (next_complete n ps rest s) ∙ next_complete m ps left t) in
    (quoted_tells_apart n m same.0, same.1)

-- ---- for the calls

pub value_told : {X : Type 0} (view : X → List Piece) (ps : List Piece) (r : Option (Value × X)) → option_map (λ (x : Value × X). (as_written x.0, view x.1)) r ≡ value_at ps
    → MatchOption r ((v : Value) (rest : List Piece) → SpellsValue v ps rest → ⊥) (λ x. SpellsValue x.0 ps (view x.1))
value_told view ps None e = λ v rest s. absurd (let f : None ≡ Some (as_written v, rest) = e ∙ value_complete v ps rest s in cc f)
value_told view ps (Some x) e = value_sound x.0 ps (view x.1) (sym e)

pub name_told : {X : Type 0} (view : X → List Piece) (ps : List Piece) (r : Option (List ℕ × X)) → option_map (λ (x : List ℕ × X). (quoted x.0, view x.1)) r ≡ name_at ps
    → MatchOption r ((n : List ℕ) (rest : List Piece) → ps ≡ text n ∷ rest → ⊥) (λ x. ps ≡ text x.0 ∷ view x.1)
name_told view ps None e = λ n rest s. absurd (let f : None ≡ Some (quoted n, rest) = e ∙ ap name_at s in cc f)
name_told view ps (Some x) e = name_sound x.0 ps (view x.1) (sym e)

pub next_told : {X : Type 0} (view : X → List Piece) (ps : List Piece) (r : Option (List ℕ × X)) → option_map (λ (x : List ℕ × X). (quoted x.0, view x.1)) r ≡ next_name ps
    → MatchOption r ((n : List ℕ) (rest : List Piece) → SpellsNext n ps rest → ⊥) (λ x. SpellsNext x.0 ps (view x.1))
next_told view ps None e = λ n rest s. absurd (let f : None ≡ Some (quoted n, rest) = e ∙ next_complete n ps rest s in cc f)
next_told view ps (Some x) e = next_sound x.0 ps (view x.1) (sym e)

pub day_told : {X : Type 0} (view : X → List Piece) (ps : List Piece) (r : Option (ℕ × X)) → option_map (λ (x : ℕ × X). (x.0, view x.1)) r ≡ day_at ps
    → MatchOption r ((d : ℕ) (rest : List Piece) → SpellsDay d ps rest → ⊥) (λ x. SpellsDay x.0 ps (view x.1))
day_told view ps None e = λ d rest s. absurd (let f : None ≡ Some (d, rest) = e ∙ day_complete d ps rest s in cc f)
day_told view ps (Some x) e = day_sound x.0 ps (view x.1) (sym e)
