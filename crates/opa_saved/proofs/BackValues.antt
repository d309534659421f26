-- Values and lines that are written and read.
use Rattle.std.proofs.Common.{◌≡◌, ◌<◌, ◌==◌, ℕ, true, false, cond, List, [], ◌∷◌, ◌++◌, map, arith, refl, sym, ap, subst, ◌∙◌}
use Rattle.std.specs.Prelude.{None, Some, codes}
use Rattle.std.specs.List.{list_all, AllByRecursion}
use Rattle.std.specs.Option.{option_map, option_and_then}
use Rattle.std.proofs.lemmas.Bool.{and_parts, lt-ltb}
use Rattle.serde_json.specs.Data.{string}
use Rattle.opa_io.proofs.Characters.{own_bytes}
use Rattle.opa_date.specs.declared.TheConstants.{DAYS}
use Rattle.opa_date.specs.Texts.{day_text}
use Rattle.opa_date.proofs.ReadTexts.{texts_are_read}
use Rattle.opa_value.specs.declared.value.Value.{Value}
use Rattle.opa_value.specs.declared.value.Value.TheVariants as value
use Rattle.opa_value.specs.NumberText.{plain_text}
use Rattle.opa_value.proofs.ReadBack.{plain_back}
use Rattle.opa_line.specs.declared.pairs.LineFault.TheVariants.{FirstDay, Order, Range}
use Rattle.opa_line.specs.Lines.{at, IsLine, Follows}
use Rattle.opa_line.specs.Pairs.{fault_of, rises_from, all_below}
use Rattle.opa_case.specs.Cases.{Answer}
use Rattle.opa_case.specs.Clean.{is_clean_text, is_clean_value, is_clean_answer}
use Rattle.opa_text.specs.Texts.{IsOfCalendar}
use Rattle.opa_text.specs.Readers.{number_read, day_read}
use Rattle.opa_saved.specs.declared.entries.Version.TheVariants.{Second}
use Rattle.opa_saved.specs.Saved.{value_text, pair_data, line_data, names_data}
use Rattle.opa_saved.specs.Texts.{after, clean, plainly, number_value, text_value, day_value, plain_value, typed_value, value_of}
use Rattle.opa_saved.specs.Forms.{each, second_day_in, pair_in, pairs_in, unless_fault, value_on, line_of, line_in, name_in, names_in}
use Rattle.opa_saved.specs.Told.{AreOfCalendar}
use Rattle.opa_saved.specs.RoundTrip.{IsValue}
use Rattle.opa_saved.proofs.PartLaws.{listed_of, one_line}
use Rattle.opa_saved.proofs.TextLaws.{after_is}

-- ---- values

typed_number : (t : List ℕ) → typed_value (codes "n:" ++ t) ≡ number_value t
unfolding typed_value
typed_number t = ap (λ o. plain_value o (after (codes "t:") (codes "n:" ++ t)) (after (codes "d:") (codes "n:" ++ t))) (after_is (codes "n:") t (codes "n:" ++ t) refl)

typed_text : (t : List ℕ) → typed_value (codes "t:" ++ t) ≡ text_value t
unfolding typed_value
typed_text t = ap (λ o. plain_value None o (after (codes "d:") (codes "t:" ++ t))) (after_is (codes "t:") t (codes "t:" ++ t) refl)

typed_day : (t : List ℕ) → typed_value (codes "d:" ++ t) ≡ day_value t
unfolding typed_value
typed_day t = ap (λ o. plain_value None None o) (after_is (codes "d:") t (codes "d:" ++ t) refl)

clean_is : (t : List ℕ) → is_clean_text t ≡ true → clean t ≡ Some t
clean_is t h = ap (λ b. cond b (Some t) None) h

pub value_back : (v : Value) → IsValue v → IsOfCalendar v → is_clean_value v ≡ true → value_of (value_text v) ≡ Some v
value_back value.Unknown is day clear = refl
value_back value.Uncertain is day clear = refl
value_back (value.Bool true) is day clear = refl
value_back (value.Bool false) is day clear = refl
value_back (value.Num n) is day clear =
    typed_number (plain_text n)
    ∙ ap (option_and_then (plainly (plain_text n))) (ap number_read (plain_back n is))
    ∙ ap (λ b. cond b (Some (value.Num n)) None) (own_bytes (plain_text n))
value_back (value.Words t) is day clear = typed_text t ∙ ap (option_map (λ u. value.Words u)) (clean_is t clear)
value_back (value.Day d) is day clear = typed_day (day_text d) ∙ ap (λ r. option_map (λ k. value.Day k) (day_read r)) (texts_are_read d day)

-- ---- lines

day_back : (n : ℕ) → n < DAYS → second_day_in n ≡ Some n
day_back n lt = ap (λ b. cond b (Some n) None) (lt-ltb n DAYS lt)

pair_back : (g : ℕ) (p : ℕ × Value) → p.0 < DAYS → IsValue p.1 → IsOfCalendar p.1 → is_clean_value p.1 ≡ true → pair_in (Second g) (pair_data p) ≡ Some p
pair_back g p lt is day clear =
    ap (λ o. option_and_then (λ k. option_map (λ x. (k, x)) (value_of (value_text p.1))) o) (day_back p.0 lt)
    ∙ ap (option_map (λ x. (p.0, x))) (value_back p.1 is day clear)

each_pair : (g : ℕ) (l : Answer) → AllByRecursion (λ (p : ℕ × Value). p.0 < DAYS) l → AllByRecursion (λ (p : ℕ × Value). IsValue p.1) l → AreOfCalendar l → is_clean_answer l ≡ true → each (pair_in (Second g)) (map pair_data l) ≡ Some l
each_pair g [] below is days clear = refl
each_pair g (p ∷ l) below is days clear =
    let c = and_parts (is_clean_value p.1) (is_clean_answer l) clear in
    ap (option_and_then (λ y. option_map (λ ys. y ∷ ys) (each (pair_in (Second g)) (map pair_data l)))) (pair_back g p below.0 is.0 days.0 c.0)
    ∙ ap (option_map (λ ys. p ∷ ys)) (each_pair g l below.1 is.1 days.1 c.1)

follows_below : (d : ℕ) (v : Value) (l : Answer) → Follows DAYS d v l → AllByRecursion (λ (p : ℕ × Value). p.0 < DAYS) l
follows_below d v [] h = tt
follows_below d v (p ∷ l) h = (h.1, follows_below p.0 p.1 l h.3)

line_below : (l : Answer) → IsLine DAYS l → AllByRecursion (λ (p : ℕ × Value). p.0 < DAYS) l
line_below [] h = tt
line_below (p ∷ l) h = (omega (arith, h.0), follows_below 0 p.1 l h.1)

follows_rises : (d : ℕ) (v : Value) (l : Answer) → Follows DAYS d v l → rises_from d l ≡ true
follows_rises d v [] h = refl
follows_rises d v (p ∷ l) h = ap (λ b. cond b (rises_from p.0 l) false) (lt-ltb d p.0 h.0) ∙ follows_rises p.0 p.1 l h.3

all_are_below : (l : Answer) → AllByRecursion (λ (p : ℕ × Value). p.0 < DAYS) l → all_below DAYS l ≡ true
all_are_below [] h = refl
all_are_below (p ∷ l) h = ap (λ b. cond b (all_below DAYS l) false) (lt-ltb p.0 DAYS h.0) ∙ all_are_below l h.1

faultless : (l : Answer) → IsLine DAYS l → fault_of l ≡ None
faultless [] h = absurd h
faultless (p ∷ l) h =
    let first : (p.0 == 0) ≡ true = zero_is p.0 h.0 in
    let up : rises_from p.0 l ≡ true = subst (λ d. rises_from d l ≡ true) (sym h.0) (follows_rises 0 p.1 l h.1) in
    let below = all_are_below (p ∷ l) (line_below (p ∷ l) h) in
    ap (λ b. cond b (cond (rises_from p.0 l) (cond (all_below DAYS (p ∷ l)) None (Some Range)) (Some Order)) (Some FirstDay)) first
    ∙ ap (λ b. cond b (cond (all_below DAYS (p ∷ l)) None (Some Range)) (Some Order)) up
    ∙ ap (λ b. cond b None (Some Range)) below
  where
    zero_is : (n : ℕ) → n ≡ 0 → (n == 0) ≡ true
    zero_is n e = grind (arith, e)

some_at : (l : Answer) → IsLine DAYS l → (d : ℕ) → at l d ≡ Some (value_on l d)
some_at [] h d = absurd h
some_at (p ∷ l) h d = refl

pub line_back : (g : ℕ) (l : Answer) → IsLine DAYS l → AllByRecursion (λ (p : ℕ × Value). IsValue p.1) l → AreOfCalendar l → is_clean_answer l ≡ true → line_in (Second g) (line_data l) ≡ Some l
line_back g l form is days clear =
    let pairs : pairs_in (Second g) (line_data l) ≡ Some l = ap (each (pair_in (Second g))) (listed_of (map pair_data l)) ∙ each_pair g l (line_below l form) is days clear in
    ap (option_and_then (λ x. unless_fault (fault_of x) (line_of x))) pairs
    ∙ ap (λ o. unless_fault o (line_of l)) (faultless l form)
    ∙ ap Some (sym (one_line l l form (λ d lt. some_at l form d)))

-- ---- names

each_name : (ns : List (List ℕ)) → list_all is_clean_text ns ≡ true → each name_in (map string ns) ≡ Some ns
each_name [] h = refl
each_name (n ∷ ns) h =
    let c = and_parts (is_clean_text n) (list_all is_clean_text ns) h in
    ap (option_and_then (λ y. option_map (λ ys. y ∷ ys) (each name_in (map string ns)))) (clean_is n c.0) ∙ ap (option_map (λ ys. n ∷ ys)) (each_name ns c.1)

pub names_back : (ns : List (List ℕ)) → list_all is_clean_text ns ≡ true → names_in (names_data ns) ≡ Some ns
names_back ns h = ap (each name_in) (listed_of (map string ns)) ∙ each_name ns h

pub name_back : (n : List ℕ) → is_clean_text n ≡ true → name_in (string n) ≡ Some n
name_back n h = clean_is n h
