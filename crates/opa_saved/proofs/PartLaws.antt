-- Parts of JSON, and lines of pairs.
use Rattle.std.proofs.Common.{◌≡◌, ◌<◌, ◌==◌, ℕ, ℤ, Bool, true, false, List, [], ◌∷◌, arith, refl, sym, ap, subst, ◌∙◌}
use Rattle.std.specs.Prelude.{Option, Some, None, Result, Ok, Err, IfSome, IsNone, MatchResult}
use Rattle.std.specs.Option.{option_map, option_map_or}
use Rattle.std.specs.Ordering.{int_eq}
use Rattle.std.proofs.lemmas.Bool.{eqb-true}
use Rattle.serde_json.specs.Data.{Data}
use Rattle.serde_json.specs.Events.{members_len}
use Rattle.serde_json.specs.Find.{as_object, as_array}
use Rattle.serde_json.specs.View.{items_of}
use Rattle.opa_date.specs.declared.TheConstants.{DAYS}
use Rattle.opa_value.specs.declared.value.Value.{Value}
use Rattle.opa_value.specs.declared.value.Value.TheVariants.{Unknown, Uncertain, Bool as Truth, Num, Words, Day}
use Rattle.opa_line.specs.declared.pairs.LineFault.{LineFault}
use Rattle.opa_line.specs.declared.pairs.LineFault.TheVariants as line_fault
use Rattle.opa_line.specs.Lines.{at, IsLine, StandsFor}
use Rattle.opa_line.specs.Pairs.{fault_of}
use Rattle.opa_line.proofs.LineLaws.{canon_is_the_line}
use Rattle.opa_case.specs.Cases.{Answer}
use Rattle.opa_case.proofs.Stands.{text_is, text_itself}
use Rattle.opa_saved.specs.Texts.{is_alike, same_value}
use Rattle.opa_saved.specs.Forms.{listed, items_in, has_size, unless_fault, value_on, line_of}

pub size_known : (d : Data) (ms : _) (n k : ℕ) → as_object d ≡ Some ms → n ≡ members_len ms → (n == k) ≡ has_size k d
size_known d ms n k e l = ap (λ x. x == k) l ∙ sym (ap (λ o. option_map_or (λ x. members_len x == k) o false) e)

pub listed_of : (ds : List Data) → listed (items_of ds) ≡ ds
listed_of [] = refl
listed_of (d ∷ ds) = ap (λ xs. d ∷ xs) (listed_of ds)

pub items_known : (d : Data) (vs : List Data) → as_array d ≡ Some (items_of vs) → Some vs ≡ items_in d
items_known d vs e = ap Some (sym (listed_of vs)) ∙ sym (ap (option_map listed) e)

-- ---- values that are one

alike_exact : (a b : Bool) → is_alike a b ≡ true → a ≡ b
alike_exact true true h = refl
alike_exact true false h = absurd (cc h)
alike_exact false true h = absurd (cc h)
alike_exact false false h = refl

pub value_exact : (v w : Value) → same_value v w ≡ true → v ≡ w
value_exact Unknown Unknown h = refl
value_exact Uncertain Uncertain h = refl
value_exact (Truth a) (Truth b) h = ap Truth (alike_exact a b h)
value_exact (Num m) (Num n) h = ap Num (int_exact m n h)
  where
    int_exact : (m n : ℤ) → int_eq m n ≡ true → m ≡ n
    int_exact m n h = grind (arith, h)
value_exact (Words s) (Words t) h = ap Words (text_is s t h)
value_exact (Day a) (Day b) h = ap Day (eqb-true a b h)
value_exact _ _ h = absurd (cc h)

value_itself : (v : Value) → same_value v v ≡ true
value_itself Unknown = refl
value_itself Uncertain = refl
value_itself (Truth true) = refl
value_itself (Truth false) = refl
value_itself (Num n) = int_same n
  where
    int_same : (n : ℤ) → int_eq n n ≡ true
    int_same n = grind arith
value_itself (Words t) = text_itself t
value_itself (Day d) = number_same d
  where
    number_same : (d : ℕ) → (d == d) ≡ true
    number_same d = grind arith

exact : (v w : Value) → (same_value v w ≡ true → v ≡ w) × (v ≡ w → same_value v w ≡ true)
exact v w = (value_exact v w, λ e. subst (λ x. same_value v x ≡ true) e (value_itself v))

-- ---- the line of pairs

some_on : (pairs : Answer) → fault_of pairs ≡ None → (d : ℕ) → at pairs d ≡ Some (value_on pairs d)
some_on [] h d = absurd (cc h)
some_on (p ∷ ps) h d = refl

-- the line that has the values of pairs is their line
pub one_line : (pairs l : Answer) → IsLine DAYS l → ((d : ℕ) → d < DAYS → at l d ≡ Some (value_on pairs d)) → l ≡ line_of pairs
one_line pairs l form same = (canon_is_the_line Value same_value exact (value_on pairs)).2 l form same

pub line_is : (pairs : Answer) → IsLine DAYS (line_of pairs)
line_is pairs = (canon_is_the_line Value same_value exact (value_on pairs)).0

pub line_stands : (pairs : Answer) → StandsFor DAYS (value_on pairs) (line_of pairs)
line_stands pairs = (canon_is_the_line Value same_value exact (value_on pairs)).1

pub line_found : (pairs l : Answer) (r : Result Answer LineFault) → r ≡ Ok l → IsLine DAYS l
    → IfSome (fault_of pairs) (λ f. r ≡ Err f)
    → (IsNone (fault_of pairs) → MatchResult r (λ x. (d : ℕ) → d < DAYS → at x d ≡ at pairs d) (λ f. f ≡ line_fault.NoMemory))
    → Some l ≡ unless_fault (fault_of pairs) (line_of pairs)
line_found pairs l r is form faulty line = go (fault_of pairs) refl faulty line
  where
    go : (o : Option LineFault) → fault_of pairs ≡ o → IfSome o (λ f. r ≡ Err f) → (IsNone o → MatchResult r (λ x. (d : ℕ) → d < DAYS → at x d ≡ at pairs d) (λ f. f ≡ line_fault.NoMemory)) → Some l ≡ unless_fault o (line_of pairs)
    go None e f h =
        let same = subst (λ x. MatchResult x (λ x. (d : ℕ) → d < DAYS → at x d ≡ at pairs d) (λ f. f ≡ line_fault.NoMemory)) is (h refl) in
        ap Some (one_line pairs l form (λ d lt. same d lt ∙ some_on pairs e d))
    go (Some x) e f h = absurd (cc (sym is ∙ f))
