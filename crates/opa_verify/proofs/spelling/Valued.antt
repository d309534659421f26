-- Values, read from their texts.
use Rattle.std.proofs.Common.{◌≡◌, ℕ, ◌<◌, ◌≤◌, ℤ, List, [], ◌∷◌, ◌++◌, length, Bool, true, false, cond, refl, sym, ap, subst, ◌∙◌, arith, append-nil}
use Rattle.std.specs.Prelude.{Some, None, Result, Ok, Err, codes, unsigned_abs}
use Rattle.std.specs.Str.{bytes_eq}
use Rattle.std.specs.Cmp.Lexicographic.{bytes_decides}
use Rattle.opa_date.specs.declared.TheConstants.{DAYS}
use Rattle.opa_date.specs.declared.fault.DayFault.{DayFault}
use Rattle.opa_date.specs.Texts.{day_text, read_day}
use Rattle.opa_date.proofs.ReadTexts.{texts_are_read}
use Rattle.opa_model.specs.declared.things.Kind.{Kind}
use Rattle.opa_model.specs.declared.things.Kind.TheVariants as kinds
use Rattle.opa_value.specs.declared.value.Value.{Value}
use Rattle.opa_value.specs.declared.value.Value.TheVariants as value
use Rattle.opa_value.specs.declared.number.NumFault.{NumFault}
use Rattle.opa_value.specs.NumberText.{read_number, plain_text, money_text}
use Rattle.opa_value.specs.Numbers.{InRange}
use Rattle.opa_value.proofs.ReadBack.{plain_back, money_back}
use Rattle.opa_words.specs.Fronts.{HasInFront, BeginsWithText, BeginsWithNoText}
use Rattle.opa_words.specs.Kinds.{quoted}
use Rattle.opa_words.proofs.QuoteLaws.{quoted_tells_apart}
use Rattle.opa_text.specs.Laws.{CanBeQuoted, HasDecimals}
use Rattle.opa_text.specs.Readers.{word_value}
use Rattle.opa_text.specs.Texts.{value_text, number_text}
use Rattle.opa_verify.specs.Spelling.Reading.{IsShown, shown_text, IsNumber, number_shown}
use Rattle.opa_verify.specs.Spelling.Spelling.{IsName}
use Rattle.opa_verify.proofs.spelling.Cleanness.{clean_bytes}

-- ---- words

same_if : {A : Type 0} (b : Bool) (x y z : A) → cond b x y ≡ z → ((b ≡ true) × (x ≡ z) → ⊥) → (b ≡ false) × (y ≡ z)
same_if true x y z e n = absurd (n (refl, e))
same_if false x y z e n = (refl, e)

pub word_shown : (t : List ℕ) (v : Value) → word_value t ≡ Some v → IsShown (kinds.Bool, v) × (shown_text (kinds.Bool, v) ≡ t)
word_shown t v e = first (bytes_eq t (codes "unknown")) refl e
  where
    third : (b : Bool) → bytes_eq t (codes "false") ≡ b → cond b (Some (value.Bool false)) None ≡ Some v → IsShown (kinds.Bool, v) × (shown_text (kinds.Bool, v) ≡ t)
    third true h k = let f : value.Bool false ≡ v = cc k in subst (λ w. IsShown (kinds.Bool, w) × (shown_text (kinds.Bool, w) ≡ t)) f (tt, sym ((bytes_decides t (codes "false")).0 h))
    third false h k = absurd (cc k)

    second : (b : Bool) → bytes_eq t (codes "true") ≡ b → cond b (Some (value.Bool true)) (cond (bytes_eq t (codes "false")) (Some (value.Bool false)) None) ≡ Some v → IsShown (kinds.Bool, v) × (shown_text (kinds.Bool, v) ≡ t)
    second true h k = let f : value.Bool true ≡ v = cc k in subst (λ w. IsShown (kinds.Bool, w) × (shown_text (kinds.Bool, w) ≡ t)) f (tt, sym ((bytes_decides t (codes "true")).0 h))
    second false h k = third (bytes_eq t (codes "false")) refl k

    next : (b : Bool) → bytes_eq t (codes "uncertain") ≡ b → cond b (Some value.Uncertain) (cond (bytes_eq t (codes "true")) (Some (value.Bool true)) (cond (bytes_eq t (codes "false")) (Some (value.Bool false)) None)) ≡ Some v
        → IsShown (kinds.Bool, v) × (shown_text (kinds.Bool, v) ≡ t)
    next true h k = let f : value.Uncertain ≡ v = cc k in subst (λ w. IsShown (kinds.Bool, w) × (shown_text (kinds.Bool, w) ≡ t)) f (tt, sym ((bytes_decides t (codes "uncertain")).0 h))
    next false h k = second (bytes_eq t (codes "true")) refl k

    first : (b : Bool) → bytes_eq t (codes "unknown") ≡ b
        → cond b (Some value.Unknown) (cond (bytes_eq t (codes "uncertain")) (Some value.Uncertain) (cond (bytes_eq t (codes "true")) (Some (value.Bool true)) (cond (bytes_eq t (codes "false")) (Some (value.Bool false)) None))) ≡ Some v
        → IsShown (kinds.Bool, v) × (shown_text (kinds.Bool, v) ≡ t)
    first true h k = let f : value.Unknown ≡ v = cc k in subst (λ w. IsShown (kinds.Bool, w) × (shown_text (kinds.Bool, w) ≡ t)) f (tt, sym ((bytes_decides t (codes "unknown")).0 h))
    first false h k = next (bytes_eq t (codes "uncertain")) refl k

-- ---- days

day_read_as : (text : List ℕ) (r : Result ℕ DayFault) (f : DayFault) → r ≡ read_day text → r ≡ Err f → (d : ℕ) → d < DAYS → day_text d ≡ text → ⊥
day_read_as text r f e k d h s = let x : Ok d ≡ Err f = sym (texts_are_read d h) ∙ ap read_day s ∙ sym e ∙ k in cc x

pub no_day : (text : List ℕ) (f : DayFault) → Err f ≡ read_day text → (d : ℕ) → d < DAYS → day_text d ≡ text → ⊥
no_day text f e = day_read_as text (Err f) f e refl

pub one_day : (s t : ℕ) → s < DAYS → t < DAYS → day_text s ≡ day_text t → s ≡ t
one_day s t h k e = let x : Ok s ≡ Ok t = sym (texts_are_read s h) ∙ ap read_day e ∙ texts_are_read t k in cc x

-- ---- texts between quotes

nothing_left : (rest : List ℕ) → length rest ≤ 0 → rest ≡ []
nothing_left [] h = refl
nothing_left (x ∷ rest) h = absurd (omega (arith, h))

quoted_front : (text t : List ℕ) → CanBeQuoted t → quoted t ≡ text → HasInFront text t []
quoted_front text t can e = record { split = sym e ∙ sym (append-nil (quoted t)); clean = clean_bytes t can }

pub no_text : (text : List ℕ) → BeginsWithNoText text → (t : List ℕ) → CanBeQuoted t → quoted t ≡ text → ⊥
no_text text none t can e = none t [] (quoted_front text t can e)

text_whole : (text inner rest t : List ℕ) → BeginsWithText text inner rest → CanBeQuoted t → quoted t ≡ text → (rest ≡ []) × (inner ≡ t)
text_whole text inner rest t is can e =
    let none : rest ≡ [] = nothing_left rest (is.longest t [] (quoted_front text t can e)) in
    (none, quoted_tells_apart inner t (sym (append-nil (quoted inner)) ∙ ap (λ r. quoted inner ++ r) (sym none) ∙ sym is.front.split ∙ sym e))

pub text_goes_on : (text inner rest : List ℕ) → BeginsWithText text inner rest → (rest ≡ [] → ⊥) → (t : List ℕ) → CanBeQuoted t → quoted t ≡ text → ⊥
text_goes_on text inner rest is n t can e = n (text_whole text inner rest t is can e).0

pub text_unclean : (text inner rest : List ℕ) → BeginsWithText text inner rest → (CanBeQuoted inner → ⊥) → (t : List ℕ) → CanBeQuoted t → quoted t ≡ text → ⊥
text_unclean text inner rest is n t can e = n (subst CanBeQuoted (sym (text_whole text inner rest t is can e).1) can)

pub text_is : (text inner rest : List ℕ) → BeginsWithText text inner rest → rest ≡ [] → CanBeQuoted inner → CanBeQuoted inner × (quoted inner ≡ text)
text_is text inner rest is e can = (can, sym (append-nil (quoted inner)) ∙ ap (λ r. quoted inner ++ r) (sym e) ∙ sym is.front.split)

pub empty_name : (text name : List ℕ) → CanBeQuoted name × (quoted name ≡ text) → length name ≡ 0 → (t : List ℕ) → IsName t → quoted t ≡ text → ⊥
empty_name text name h n t is e = absurd (let same : t ≡ name = quoted_tells_apart t name (e ∙ sym h.1) in omega (arith, is.0, ap length same, n))

-- ---- numbers

number_back : (k : Kind) (n : ℤ) → IsNumber (k, n) → read_number (number_text k n) ≡ Ok n
number_back kinds.Currency n h = money_back n h.0 h.1
number_back kinds.Bool n h = plain_back n h.0
number_back kinds.Number n h = plain_back n h.0
number_back kinds.Words n h = plain_back n h.0
number_back kinds.Date n h = plain_back n h.0

pub no_number : (text : List ℕ) (f : NumFault) → Err f ≡ read_number text → (x : Kind × ℤ) → IsNumber x → number_shown x ≡ text → ⊥
no_number text f e (k, n) h s = let x : Ok n ≡ Err f = sym (number_back k n h) ∙ ap read_number s ∙ sym e in cc x

same_number : (text : List ℕ) (m : ℤ) (k : Kind) (n : ℤ) → read_number text ≡ Ok m → IsNumber (k, n) → number_text k n ≡ text → n ≡ m
same_number text m k n r h s = let x : Ok n ≡ Ok m = sym (number_back k n h) ∙ ap read_number s ∙ r in cc x

-- a number whose text is neither its plain one nor, where it has two decimals, its text as a currency
pub neither_number : (text plain : List ℕ) (m : ℤ) → read_number text ≡ Ok m → plain ≡ plain_text m → (plain ≡ text → ⊥) → (HasDecimals kinds.Currency (unsigned_abs m) → money_text m ≡ text → ⊥) → (x : Kind × ℤ) → IsNumber x → number_shown x ≡ text → ⊥
neither_number text plain m r p n c (k, i) h s = go k h s
  where
    by_plain : i ≡ m → plain_text i ≡ text → ⊥
    by_plain e t = n (p ∙ ap plain_text (sym e) ∙ t)

    go : (k : Kind) → IsNumber (k, i) → number_text k i ≡ text → ⊥
    go kinds.Currency h s =
        let e = same_number text m kinds.Currency i r h s in c (subst (λ j. HasDecimals kinds.Currency (unsigned_abs j)) e h.1) (ap money_text (sym e) ∙ s)
    go kinds.Bool h s = by_plain (same_number text m kinds.Bool i r h s) s
    go kinds.Number h s = by_plain (same_number text m kinds.Number i r h s) s
    go kinds.Words h s = by_plain (same_number text m kinds.Words i r h s) s
    go kinds.Date h s = by_plain (same_number text m kinds.Date i r h s) s

pub plain_number : (text plain : List ℕ) (m : ℤ) → InRange m → plain ≡ plain_text m → plain ≡ text → IsNumber (kinds.Number, m) × (number_shown (kinds.Number, m) ≡ text)
plain_number text plain m h p e = ((h, tt), sym p ∙ e)

pub money_number : (text money : List ℕ) (m : ℤ) → InRange m → money ≡ money_text m → money ≡ text → HasDecimals kinds.Currency (unsigned_abs m) → IsNumber (kinds.Currency, m) × (number_shown (kinds.Currency, m) ≡ text)
money_number text money m h p e d = ((h, d), sym p ∙ e)

pub read_in_range : (text : List ℕ) (m : ℤ) → read_number text ≡ Ok m → InRange m → InRange m
read_in_range text m e h = h

-- ---- values of all kinds

pub number_is : (k : Kind) (n : ℤ) (text : List ℕ) → IsNumber (k, n) → number_shown (k, n) ≡ text → IsShown (k, value.Num n) × (shown_text (k, value.Num n) ≡ text)
number_is k n text h e = (h, e)

pub no_value : (text : List ℕ) → word_value text ≡ None → ((d : ℕ) → d < DAYS → day_text d ≡ text → ⊥) → ((w : List ℕ) → CanBeQuoted w → quoted w ≡ text → ⊥) → ((x : Kind × ℤ) → IsNumber x → number_shown x ≡ text → ⊥)
    → (x : Kind × Value) → IsShown x → shown_text x ≡ text → ⊥
no_value text word day words number (k, v) h e = go v h e
  where
    other : (w : Value) → word_value text ≡ Some w → ⊥
    other w f = let x : None ≡ Some w = sym word ∙ f in cc x

    go : (v : Value) → IsShown (k, v) → value_text k v ≡ text → ⊥
    go value.Unknown h e = other value.Unknown (ap word_value (sym e))
    go value.Uncertain h e = other value.Uncertain (ap word_value (sym e))
    go (value.Bool true) h e = other (value.Bool true) (ap word_value (sym e))
    go (value.Bool false) h e = other (value.Bool false) (ap word_value (sym e))
    go (value.Num n) h e = number (k, n) h e
    go (value.Words w) h e = words w h e
    go (value.Day d) h e = day d h e
