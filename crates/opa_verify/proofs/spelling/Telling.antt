-- What a point line tells, cut at its comma.
use Rattle.std.proofs.Common.{◌≡◌, ℕ, List, ◌∷◌, ◌++◌, true, false, refl, sym, ap, subst, ◌∙◌}
use Rattle.std.specs.Prelude.{Option, codes}
use Rattle.std.specs.Str.{IsUtf8}
use Rattle.opa_model.specs.declared.things.Kind.{Kind}
use Rattle.opa_value.specs.declared.value.Value.{Value}
use Rattle.opa_text.specs.Laws.{CanBeWritten}
use Rattle.opa_text.specs.Texts.{value_text}
use Rattle.opa_verify.specs.Spelling.Cuts.{calm, IsCutAt}
use Rattle.opa_verify.specs.Spelling.Printed.{origin_text}
use Rattle.opa_verify.specs.Spelling.Reading.{IsShown, shown_text, IsTold, told_of}
use Rattle.opa_verify.specs.Spelling.Spelling.{IsOrigin, Reads}
use Rattle.opa_verify.specs.declared.spelling.printed.Origin.{Origin}
use Rattle.opa_verify.specs.declared.spelling.told.Told.{Told}
use Rattle.opa_verify.proofs.spelling.Calming.{calm_value, value_utf8}
use Rattle.opa_verify.proofs.spelling.Cutting.{one_cut, same_cut}

-- ---- what is read of equal texts

pub reads_at : {X : Type 0} (P : X → Type 0) (told : X → List ℕ) (s t : List ℕ) (o : Option X) → s ≡ t → Reads P told s o → Reads P told t o
reads_at P told s t o e h = subst (λ b. Reads P told b o) e h

-- a cut at this mark
pub marked : (text front rest : List ℕ) (m n : ℕ) → IsCutAt front m rest text → m ≡ n → front ++ n ∷ rest ≡ text
marked text front rest m n c e = sym (c.0 ∙ ap (λ x. front ++ x ∷ rest) e)

-- ---- the parts

own_cut : (text : List ℕ) (x : Told) → IsTold x → told_of x ≡ text → IsCutAt (value_text x.kind x.value) 44 (codes " " ++ origin_text x.origin) text
own_cut text x is e = (sym e, (calm_value x.kind x.value is.0, refl))

pub told_parts : (shown behind : List ℕ) → calm false shown ≡ true → (x : Told) → IsTold x → told_of x ≡ shown ++ 44 ∷ behind → (value_text x.kind x.value ≡ shown) × (codes " " ++ origin_text x.origin ≡ behind)
told_parts shown behind c x is e =
    let s = one_cut false (value_text x.kind x.value) shown 44 44 (codes " " ++ origin_text x.origin) behind (calm_value x.kind x.value is.0) c refl refl e in (s.0, s.1.1)

pub uncut_told : (text : List ℕ) → ((first : List ℕ) (mark : ℕ) (rest : List ℕ) → IsCutAt first mark rest text → ⊥) → (x : Told) → IsTold x → told_of x ≡ text → ⊥
uncut_told text none x is e = none (value_text x.kind x.value) 44 (codes " " ++ origin_text x.origin) (own_cut text x is e)

pub other_mark_told : (text shown rest : List ℕ) (m : ℕ) → IsCutAt shown m rest text → (m ≡ 44 → ⊥) → (x : Told) → IsTold x → told_of x ≡ text → ⊥
other_mark_told text shown rest m c n x is e = n (sym (same_cut text (value_text x.kind x.value) shown 44 m (codes " " ++ origin_text x.origin) rest (own_cut text x is e) c).1.0)

pub no_blank_told : (shown rest : List ℕ) → calm false shown ≡ true → ((r : List ℕ) → rest ≡ codes " " ++ r → ⊥) → (x : Told) → IsTold x → told_of x ≡ shown ++ 44 ∷ rest → ⊥
no_blank_told shown rest c none x is e = none (origin_text x.origin) (sym (told_parts shown rest c x is e).1)

pub blank_told : (shown rest from : List ℕ) → rest ≡ codes " " ++ from → shown ++ (codes ", " ++ from) ≡ shown ++ 44 ∷ rest
blank_told shown rest from e = ap (λ r. shown ++ 44 ∷ r) (sym e)

pub no_shown : (shown from : List ℕ) → calm false shown ≡ true → ((y : Kind × Value) → IsShown y → shown_text y ≡ shown → ⊥) → (x : Told) → IsTold x → told_of x ≡ shown ++ (codes ", " ++ from) → ⊥
no_shown shown from c none x is e = none (x.kind, x.value) is.0 (told_parts shown (codes " " ++ from) c x is e).0

pub no_source : (k : Kind) (v : Value) (from : List ℕ) → CanBeWritten k v → ((o : Origin) → IsOrigin o → origin_text o ≡ from → ⊥) → (x : Told) → IsTold x → told_of x ≡ value_text k v ++ (codes ", " ++ from) → ⊥
no_source k v from can none x is e =
    let s = told_parts (value_text k v) (codes " " ++ from) (calm_value k v can) x is e in
    none x.origin is.1 (let f : origin_text x.origin ≡ from = cc s.1 in f)

pub told_is : (k : Kind) (v : Value) (o : Origin) (from : List ℕ) → CanBeWritten k v → IsOrigin o → origin_text o ≡ from
    → IsTold (record { kind = k; value = v; origin = o }) × (told_of (record { kind = k; value = v; origin = o }) ≡ value_text k v ++ (codes ", " ++ from))
told_is k v o from can is e = ((can, is), ap (λ t. value_text k v ++ (codes ", " ++ t)) e)

pub unread_shown : (text : List ℕ) → (IsUtf8 text → ⊥) → (x : Kind × Value) → IsShown x → shown_text x ≡ text → ⊥
unread_shown text n (k, v) is e = n (subst IsUtf8 e (value_utf8 k v is))
