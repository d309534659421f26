-- Lines without their numbers, cut at their first mark.
use Rattle.std.proofs.Common.{◌≡◌, ℕ, ◌<◌, ◌≤◌, List, ◌∷◌, ◌++◌, true, false, ◌||◌, ◌==◌, refl, sym, ap, ◌∙◌, arith}
use Rattle.std.specs.Prelude.{Option, codes}
use Rattle.std.proofs.lemmas.Bool.{ne_eqb, eqb-true}
use Rattle.opa_date.specs.declared.TheConstants.{DAYS}
use Rattle.opa_model.specs.declared.things.Kind.{Kind}
use Rattle.opa_value.specs.declared.value.Value.{Value}
use Rattle.opa_words.specs.Kinds.{quoted}
use Rattle.opa_text.specs.Points.{names_text}
use Rattle.opa_verify.specs.Spelling.Cuts.{is_mark, calm, IsCutAt}
use Rattle.opa_verify.specs.Spelling.Printed.{spot_text, days_text, told_text, placed_text, printed_text}
use Rattle.opa_verify.specs.Spelling.Reading.{AreDays, IsTold, told_of}
use Rattle.opa_verify.specs.Spelling.Spelling.{AreNames, CanBePrinted, IsName, IsSpot}
use Rattle.opa_verify.specs.declared.spelling.printed.Origin.{Origin}
use Rattle.opa_verify.specs.declared.spelling.printed.Printed.{Printed}
use Rattle.opa_verify.specs.declared.spelling.printed.Printed.TheVariants as printed
use Rattle.opa_verify.specs.declared.spelling.printed.Spot.{Spot}
use Rattle.opa_verify.specs.declared.spelling.told.Told.{Told}
use Rattle.opa_verify.proofs.spelling.Calming.{calm_spot}
use Rattle.opa_verify.proofs.spelling.Cutting.{one_cut, same_parts}

-- ---- the first mark

pub other_mark : (m : ℕ) → is_mark m ≡ true → (m ≡ 44 → ⊥) → m ≡ 58
other_mark m h n = eqb-true m 58 (ap (λ t. t || (m == 58)) (sym (ne_eqb m 44 n)) ∙ h)

pub uncut_line : (text : List ℕ) → ((first : List ℕ) (mark : ℕ) (rest : List ℕ) → IsCutAt first mark rest text → ⊥) → (x : Printed) → CanBePrinted x → printed_text x ≡ text → ⊥
uncut_line text none (printed.Point p s t k v o) is e = none (spot_text p) 44 (codes " " ++ (days_text s t ++ (codes ": " ++ told_text k v o))) (sym e, (calm_spot p is.0, refl))
uncut_line text none (printed.Members p names) is e = none (codes "list " ++ spot_text p) 58 (codes " " ++ names_text names) (sym e, (calm_spot p is.0, refl))
uncut_line text none (printed.Member p n) is e = none (codes "member " ++ spot_text p) 58 (codes " " ++ quoted n) (sym e, (calm_spot p is.0, refl))

-- the parts of a line before and behind a comma
abbrev pub AsPoint : List ℕ → List ℕ → Printed → Type 0
AsPoint front rest (printed.Point p s t k v o) = (spot_text p ≡ front) × (codes " " ++ (days_text s t ++ (codes ": " ++ told_text k v o)) ≡ rest)
AsPoint front rest (printed.Members p names) = ⊥
AsPoint front rest (printed.Member p n) = ⊥

-- the parts of a line before and behind a colon
abbrev pub AsListed : List ℕ → List ℕ → Printed → Type 0
AsListed front rest (printed.Point p s t k v o) = ⊥
AsListed front rest (printed.Members p names) = (codes "list " ++ spot_text p ≡ front) × (codes " " ++ names_text names ≡ rest)
AsListed front rest (printed.Member p n) = (codes "member " ++ spot_text p ≡ front) × (codes " " ++ quoted n ≡ rest)

comma_no_colon : ◌≡◌ {A = ℕ} 44 58 → ⊥
comma_no_colon e = absurd (omega (arith, e))

pub as_point : (front rest : List ℕ) → calm false front ≡ true → (x : Printed) → CanBePrinted x → printed_text x ≡ front ++ 44 ∷ rest → AsPoint front rest x
as_point front rest c (printed.Point p s t k v o) is e =
    let h = one_cut false (spot_text p) front 44 44 (codes " " ++ (days_text s t ++ (codes ": " ++ told_text k v o))) rest (calm_spot p is.0) c refl refl e in (h.0, h.1.1)
as_point front rest c (printed.Members p names) is e =
    comma_no_colon (sym (one_cut false (codes "list " ++ spot_text p) front 58 44 (codes " " ++ names_text names) rest (calm_spot p is.0) c refl refl e).1.0)
as_point front rest c (printed.Member p n) is e = comma_no_colon (sym (one_cut false (codes "member " ++ spot_text p) front 58 44 (codes " " ++ quoted n) rest (calm_spot p is.0) c refl refl e).1.0)

pub as_listed : (front rest : List ℕ) → calm false front ≡ true → (x : Printed) → CanBePrinted x → printed_text x ≡ front ++ 58 ∷ rest → AsListed front rest x
as_listed front rest c (printed.Point p s t k v o) is e =
    comma_no_colon (one_cut false (spot_text p) front 44 58 (codes " " ++ (days_text s t ++ (codes ": " ++ told_text k v o))) rest (calm_spot p is.0) c refl refl e).1.0
as_listed front rest c (printed.Members p names) is e =
    let h = one_cut false (codes "list " ++ spot_text p) front 58 58 (codes " " ++ names_text names) rest (calm_spot p is.0) c refl refl e in (h.0, h.1.1)
as_listed front rest c (printed.Member p n) is e = let h = one_cut false (codes "member " ++ spot_text p) front 58 58 (codes " " ++ quoted n) rest (calm_spot p is.0) c refl refl e in (h.0, h.1.1)

-- ---- point lines

pub no_spot : (front rest : List ℕ) → calm false front ≡ true → ((p : Spot) → IsSpot p → spot_text p ≡ front → ⊥) → (x : Printed) → CanBePrinted x → printed_text x ≡ front ++ 44 ∷ rest → ⊥
no_spot front rest c none (printed.Point p s t k v o) is e = none p is.0 (as_point front rest c (printed.Point p s t k v o) is e).0
no_spot front rest c none (printed.Members p names) is e = as_point front rest c (printed.Members p names) is e
no_spot front rest c none (printed.Member p n) is e = as_point front rest c (printed.Member p n) is e

pub no_days : (q : Spot) (rest : List ℕ) → IsSpot q → ((s t : ℕ) (told : List ℕ) → AreDays s t told rest → ⊥) → (x : Printed) → CanBePrinted x → printed_text x ≡ spot_text q ++ 44 ∷ rest → ⊥
no_days q rest can none (printed.Point p s t k v o) is e =
    none s t (told_text k v o) (is.1.0, (is.1.1.0, sym (as_point (spot_text q) rest (calm_spot q can) (printed.Point p s t k v o) is e).1))
no_days q rest can none (printed.Members p names) is e = as_point (spot_text q) rest (calm_spot q can) (printed.Members p names) is e
no_days q rest can none (printed.Member p n) is e = as_point (spot_text q) rest (calm_spot q can) (printed.Member p n) is e

pub placed_is : (q : Spot) (rest told : List ℕ) (s t : ℕ) → AreDays s t told rest → placed_text q (days_text s t) told ≡ spot_text q ++ 44 ∷ rest
placed_is q rest told s t h = ap (λ r. spot_text q ++ 44 ∷ r) (sym h.1.1)

behind_days : (s t a b : ℕ) (told text : List ℕ) → codes " " ++ (days_text s t ++ (codes ": " ++ told)) ≡ codes " " ++ (days_text a b ++ (codes ": " ++ text)) → told ≡ text
behind_days s t a b told text e =
    let f : days_text s t ++ (codes ": " ++ told) ≡ days_text a b ++ (codes ": " ++ text) = cc e in
    let g : codes ": " ++ told ≡ codes ": " ++ text = (same_parts (days_text s t) (days_text a b) (codes ": " ++ told) (codes ": " ++ text) refl f).1 in cc g

pub no_told_point : (q : Spot) (a b : ℕ) (text : List ℕ) → IsSpot q → ((y : Told) → IsTold y → told_of y ≡ text → ⊥) → (x : Printed) → CanBePrinted x → printed_text x ≡ placed_text q (days_text a b) text → ⊥
no_told_point q a b text can none (printed.Point p s t k v o) is e =
    let h = as_point (spot_text q) (codes " " ++ (days_text a b ++ (codes ": " ++ text))) (calm_spot q can) (printed.Point p s t k v o) is e in
    none (record { kind = k; value = v; origin = o }) (is.1.1.1.0, is.1.1.1.1) (behind_days s t a b (told_text k v o) text h.1)
no_told_point q a b text can none (printed.Members p names) is e = as_point (spot_text q) (codes " " ++ (days_text a b ++ (codes ": " ++ text))) (calm_spot q can) (printed.Members p names) is e
no_told_point q a b text can none (printed.Member p n) is e = as_point (spot_text q) (codes " " ++ (days_text a b ++ (codes ": " ++ text))) (calm_spot q can) (printed.Member p n) is e

pub point_is : (q : Spot) (a b : ℕ) (text : List ℕ) (k : Kind) (v : Value) (o : Origin) → IsSpot q → a ≤ b → b < DAYS → IsTold (record { kind = k; value = v; origin = o }) → told_of (record { kind = k; value = v; origin = o }) ≡ text
    → CanBePrinted (printed.Point q a b k v o) × (printed_text (printed.Point q a b k v o) ≡ placed_text q (days_text a b) text)
point_is q a b text k v o can le lt is e = ((can, (le, (lt, (is.0, is.1)))), ap (placed_text q (days_text a b)) e)

-- ---- members lines and member lines

pub no_blank_listed : (front rest : List ℕ) → calm false front ≡ true → ((r : List ℕ) → rest ≡ codes " " ++ r → ⊥) → (x : Printed) → CanBePrinted x → printed_text x ≡ front ++ 58 ∷ rest → ⊥
no_blank_listed front rest c none (printed.Point p s t k v o) is e = as_listed front rest c (printed.Point p s t k v o) is e
no_blank_listed front rest c none (printed.Members p names) is e = none (names_text names) (sym (as_listed front rest c (printed.Members p names) is e).1)
no_blank_listed front rest c none (printed.Member p n) is e = none (quoted n) (sym (as_listed front rest c (printed.Member p n) is e).1)

pub blank_listed : (front rest text : List ℕ) → rest ≡ codes " " ++ text → front ++ (codes ": " ++ text) ≡ front ++ 58 ∷ rest
blank_listed front rest text e = ap (λ r. front ++ 58 ∷ r) (sym e)

pub neither_listed : (front text : List ℕ) → calm false front ≡ true → ((r : List ℕ) → front ≡ codes "list " ++ r → ⊥) → ((r : List ℕ) → front ≡ codes "member " ++ r → ⊥) → (x : Printed) → CanBePrinted x → printed_text x ≡ front ++ (codes ": " ++ text) → ⊥
neither_listed front text c l m (printed.Point p s t k v o) is e = as_listed front (codes " " ++ text) c (printed.Point p s t k v o) is e
neither_listed front text c l m (printed.Members p names) is e = l (spot_text p) (sym (as_listed front (codes " " ++ text) c (printed.Members p names) is e).0)
neither_listed front text c l m (printed.Member p n) is e = m (spot_text p) (sym (as_listed front (codes " " ++ text) c (printed.Member p n) is e).0)

apart : (a b : ℕ) → a < b → a ≡ b → ⊥
apart a b h e = absurd (omega (arith, h, e))

pub list_no_member : (r s : List ℕ) → codes "list " ++ r ≡ codes "member " ++ s → ⊥
list_no_member r s e = apart 108 109 (omega arith) (cc e)

pub same_list : (r s : List ℕ) → codes "list " ++ r ≡ codes "list " ++ s → r ≡ s
same_list r s e = cc e

pub same_member : (r s : List ℕ) → codes "member " ++ r ≡ codes "member " ++ s → r ≡ s
same_member r s e = cc e

pub same_blank : (r s : List ℕ) → codes " " ++ r ≡ codes " " ++ s → r ≡ s
same_blank r s e = cc e

-- a line behind `list `
as_members : (front spot text : List ℕ) → calm false front ≡ true → front ≡ codes "list " ++ spot → (P : Type 0) → ((p : Spot) (names : Option (List (List ℕ))) → IsSpot p → AreNames names → spot_text p ≡ spot → names_text names ≡ text → P)
    → (x : Printed) → CanBePrinted x → printed_text x ≡ front ++ (codes ": " ++ text) → P
as_members front spot text c f P go (printed.Point p s t k v o) is e = absurd (as_listed front (codes " " ++ text) c (printed.Point p s t k v o) is e)
as_members front spot text c f P go (printed.Members p names) is e =
    let h = as_listed front (codes " " ++ text) c (printed.Members p names) is e in go p names is.0 is.1 (same_list (spot_text p) spot (h.0 ∙ f)) (same_blank (names_text names) text h.1)
as_members front spot text c f P go (printed.Member p n) is e = absurd (list_no_member spot (spot_text p) (sym ((as_listed front (codes " " ++ text) c (printed.Member p n) is e).0 ∙ f)))

as_member : (front spot text : List ℕ) → calm false front ≡ true → front ≡ codes "member " ++ spot → (P : Type 0) → ((p : Spot) (n : List ℕ) → IsSpot p → IsName n → spot_text p ≡ spot → quoted n ≡ text → P)
    → (x : Printed) → CanBePrinted x → printed_text x ≡ front ++ (codes ": " ++ text) → P
as_member front spot text c f P go (printed.Point p s t k v o) is e = absurd (as_listed front (codes " " ++ text) c (printed.Point p s t k v o) is e)
as_member front spot text c f P go (printed.Members p names) is e = absurd (list_no_member (spot_text p) spot ((as_listed front (codes " " ++ text) c (printed.Members p names) is e).0 ∙ f))
as_member front spot text c f P go (printed.Member p n) is e =
    let h = as_listed front (codes " " ++ text) c (printed.Member p n) is e in go p n is.0 is.1 (same_member (spot_text p) spot (h.0 ∙ f)) (same_blank (quoted n) text h.1)

pub no_members_spot : (front spot text : List ℕ) → calm false front ≡ true → front ≡ codes "list " ++ spot → ((p : Spot) → IsSpot p → spot_text p ≡ spot → ⊥) → (x : Printed) → CanBePrinted x → printed_text x ≡ front ++ (codes ": " ++ text) → ⊥
no_members_spot front spot text c f none = as_members front spot text c f ⊥ (λ p names is are e g. none p is e)

pub no_members_names : (front spot text : List ℕ) → calm false front ≡ true → front ≡ codes "list " ++ spot → ((o : Option (List (List ℕ))) → AreNames o → names_text o ≡ text → ⊥) → (x : Printed) → CanBePrinted x → printed_text x ≡ front ++ (codes ": " ++ text) → ⊥
no_members_names front spot text c f none = as_members front spot text c f ⊥ (λ p names is are e g. none names are g)

pub members_are : (front spot text : List ℕ) (p : Spot) (names : Option (List (List ℕ))) → front ≡ codes "list " ++ spot → IsSpot p → spot_text p ≡ spot → AreNames names → names_text names ≡ text
    → CanBePrinted (printed.Members p names) × (printed_text (printed.Members p names) ≡ front ++ (codes ": " ++ text))
members_are front spot text p names f is e are g = (
  (is, are),
  ap (λ t. codes "list " ++ (t ++ (codes ": " ++ names_text names))) e ∙ ap (λ t. codes "list " ++ (spot ++ (codes ": " ++ t))) g ∙ ap (λ t. t ++ (codes ": " ++ text)) (sym f),
)

pub no_member_spot : (front spot text : List ℕ) → calm false front ≡ true → front ≡ codes "member " ++ spot → ((p : Spot) → IsSpot p → spot_text p ≡ spot → ⊥) → (x : Printed) → CanBePrinted x → printed_text x ≡ front ++ (codes ": " ++ text) → ⊥
no_member_spot front spot text c f none = as_member front spot text c f ⊥ (λ p n is can e g. none p is e)

pub no_member_name : (front spot text : List ℕ) → calm false front ≡ true → front ≡ codes "member " ++ spot → ((n : List ℕ) → IsName n → quoted n ≡ text → ⊥) → (x : Printed) → CanBePrinted x → printed_text x ≡ front ++ (codes ": " ++ text) → ⊥
no_member_name front spot text c f none = as_member front spot text c f ⊥ (λ p n is can e g. none n can g)

pub member_is : (front spot text : List ℕ) (p : Spot) (n : List ℕ) → front ≡ codes "member " ++ spot → IsSpot p → spot_text p ≡ spot → IsName n → quoted n ≡ text
    → CanBePrinted (printed.Member p n) × (printed_text (printed.Member p n) ≡ front ++ (codes ": " ++ text))
member_is front spot text p n f is e can g = (
  (is, can),
  ap (λ t. codes "member " ++ (t ++ (codes ": " ++ quoted n))) e ∙ ap (λ t. codes "member " ++ (spot ++ (codes ": " ++ t))) g ∙ ap (λ t. t ++ (codes ": " ++ text)) (sym f),
)
