-- No line feed stands in a printed line but its last byte, so the text of a report has the report's lines.
use Rattle.std.proofs.Common.{◌≡◌, ℕ, ◌+◌, ◌<◌, ◌≤◌, ◌^◌, List, [], ◌∷◌, ◌++◌, length, Bool, true, false, cond, not, ◌||◌, ◌==◌, decimal, refl, sym, ap, ◌∙◌, arith, append_assoc}
use Rattle.std.specs.Prelude.{Option, Some, None, codes}
use Rattle.std.specs.Char.{digit_value}
use Rattle.std.specs.List.{list_all, list_any, AllByRecursion}
use Rattle.std.specs.Str.Parse.{AllDigits}
use Rattle.std.proofs.lemmas.Bool.{and_parts, and_from, or_parts, not-true}
use Rattle.std.proofs.lemmas.Fmt.{decimal_is_IsNumeral_wide}
use Rattle.std.proofs.lemmas.Str.Parse.{digit_from_value}
use Rattle.opa_date.specs.declared.TheConstants.{DAYS}
use Rattle.opa_date.specs.Texts.{day_text}
use Rattle.opa_model.specs.declared.things.Kind.{Kind}
use Rattle.opa_value.specs.declared.value.Value.{Value}
use Rattle.opa_value.specs.declared.value.Value.TheVariants as value
use Rattle.opa_words.specs.Characters.{is_control}
use Rattle.opa_words.specs.Kinds.{doubled, quoted}
use Rattle.opa_text.specs.Laws.{CanBeQuoted, CanBeWritten}
use Rattle.opa_text.specs.Points.{more_names, names_text}
use Rattle.opa_text.specs.Texts.{value_text, number_text}
use Rattle.opa_verify.specs.Spelling.Laws.{TextsAreSpelled}
use Rattle.opa_verify.specs.Spelling.Lines.{Lined, lined, with_line}
use Rattle.opa_verify.specs.Spelling.Printed.{spot_text, name_part, origin_text, days_text, told_text, printed_text, numbered_line, numbered_lines, lines_text, end_line, head_line, report_lines, spelled_text}
use Rattle.opa_verify.specs.Spelling.Spelling.{is_sign, IsSpot, MayBeName, IsName, AreNames, IsOrigin, CanBePrinted, IsSpelled, Spells}
use Rattle.opa_verify.specs.declared.spelling.printed.Origin.{Origin}
use Rattle.opa_verify.specs.declared.spelling.printed.Origin.TheVariants as origin
use Rattle.opa_verify.specs.declared.spelling.printed.Printed.{Printed}
use Rattle.opa_verify.specs.declared.spelling.printed.Printed.TheVariants as printed
use Rattle.opa_verify.specs.declared.spelling.printed.Spelled.{Spelled}
use Rattle.opa_verify.specs.declared.spelling.printed.Spot.{Spot}
use Rattle.opa_verify.proofs.spelling.Calming.{tame, number_tame, day_tame}
use Rattle.opa_verify.proofs.spelling.Cleanness.{clean_bytes}
use Rattle.opa_verify.proofs.spelling.Lining.{no_feed, line_ends}
use Rattle.opa_verify.proofs.spelling.Worded.{unmarked, phrase_unmarked}

-- ---- parts without a line feed

feed_one : (b : ℕ) (bs : List ℕ) → (b == 10) ≡ false → no_feed bs ≡ true → no_feed (b ∷ bs) ≡ true
feed_one b bs h k = and_from (not (b == 10)) (no_feed bs) (ap not h) k

feed_both : (xs ys : List ℕ) → no_feed xs ≡ true → no_feed ys ≡ true → no_feed (xs ++ ys) ≡ true
feed_both [] ys h k = k
feed_both (x ∷ xs) ys h k = let both = and_parts (not (x == 10)) (no_feed xs) h in and_from (not (x == 10)) (no_feed (xs ++ ys)) both.0 (feed_both xs ys both.1 k)

control_feed : (b : ℕ) → is_control b ≡ false → (b == 10) ≡ false
control_feed b h = grind (arith, h)

clean_feed : (t : List ℕ) → list_any is_control t ≡ false → no_feed t ≡ true
clean_feed [] h = refl
clean_feed (b ∷ t) h = let both = or_parts (is_control b) (list_any is_control t) h in feed_one b t (control_feed b both.0) (clean_feed t both.1)

tame_no : (b : ℕ) → tame b ≡ true → (b == 10) ≡ false
tame_no b h = grind (arith, h)

tame_feed : (t : List ℕ) → list_all tame t ≡ true → no_feed t ≡ true
tame_feed [] h = refl
tame_feed (b ∷ t) h = let both = and_parts (tame b) (list_all tame t) h in feed_one b t (tame_no b both.0) (tame_feed t both.1)

unmarked_feed : (t : List ℕ) → list_all unmarked t ≡ true → no_feed t ≡ true
unmarked_feed [] h = refl
unmarked_feed (b ∷ t) h =
    let both = and_parts (unmarked b) (list_all unmarked t) h in feed_one b t (or_parts (b == 10) (is_sign b) (not-true ((b == 10) || is_sign b) both.0)).0 (unmarked_feed t both.1)

doubled_feed : (t : List ℕ) → no_feed t ≡ true → no_feed (doubled t) ≡ true
doubled_feed [] h = refl
doubled_feed (b ∷ t) h = let both = and_parts (not (b == 10)) (no_feed t) h in go (b == 34) (not-true (b == 10) both.0) (doubled_feed t both.1)
  where
    go : (c : Bool) → (b == 10) ≡ false → no_feed (doubled t) ≡ true → no_feed (cond c (34 ∷ 34 ∷ doubled t) (b ∷ doubled t)) ≡ true
    go true e k = k
    go false e k = feed_one b (doubled t) e k

quoted_feed : (t : List ℕ) → CanBeQuoted t → no_feed (quoted t) ≡ true
quoted_feed t h = feed_both (doubled t) (34 ∷ []) (doubled_feed t (clean_feed t (clean_bytes t h))) refl

name_feed : (o : Option (List ℕ)) → MayBeName o → no_feed (name_part o) ≡ true
name_feed None h = refl
name_feed (Some n) h = quoted_feed n h.1

spot_feed : (p : Spot) → IsSpot p → no_feed (spot_text p) ≡ true
spot_feed p is = feed_both p.phrase (name_part p.name) (unmarked_feed p.phrase (phrase_unmarked p.phrase is.0.utf8 is.0.phrase)) (name_feed p.name is.1)

day_feed : (d : ℕ) → d < DAYS → no_feed (day_text d) ≡ true
day_feed d h = tame_feed (day_text d) (day_tame d h)

value_feed : (k : Kind) (v : Value) → CanBeWritten k v → no_feed (value_text k v) ≡ true
value_feed k value.Unknown h = refl
value_feed k value.Uncertain h = refl
value_feed k (value.Bool true) h = refl
value_feed k (value.Bool false) h = refl
value_feed k (value.Num n) h = tame_feed (number_text k n) (number_tame k n h.0)
value_feed k (value.Words t) h = quoted_feed t h
value_feed k (value.Day d) h = day_feed d h

digit_no : (c : ℕ) → digit_value c < 10 → (c == 10) ≡ false
digit_no c h = let r = digit_from_value c h in go c r.0
  where
    go : (c : ℕ) → 48 ≤ c → (c == 10) ≡ false
    go c h = grind (arith, h)

digits_feed : (ds : List ℕ) → AllDigits 10 ds → no_feed ds ≡ true
digits_feed [] h = refl
digits_feed (d ∷ ds) h = feed_one d ds (digit_no d h.0) (digits_feed ds h.1)

decimal_feed : (n : ℕ) → n < 10 ^ 64 → no_feed (decimal n) ≡ true
decimal_feed n h = digits_feed (decimal n) (decimal_is_IsNumeral_wide n h).0.1

origin_feed : (o : Origin) → IsOrigin o → no_feed (origin_text o) ≡ true
origin_feed (origin.Rule file line) is =
    let small : line < 10 ^ 64 = omega (arith, is.1) in feed_both file (codes ":" ++ decimal line) (clean_feed file (clean_bytes file is.0)) (decimal_feed line small)
origin_feed origin.Answer is = refl
origin_feed origin.Unanswered is = refl

more_feed : (ns : List (List ℕ)) → AllByRecursion IsName ns → no_feed (more_names ns) ≡ true
more_feed [] h = refl
more_feed (n ∷ ns) h = feed_both (quoted n) (more_names ns) (quoted_feed n h.0.1) (more_feed ns h.1)

names_feed : (o : Option (List (List ℕ))) → AreNames o → no_feed (names_text o) ≡ true
names_feed None h = refl
names_feed (Some []) h = refl
names_feed (Some (n ∷ ns)) h = feed_both (quoted n) (more_names ns) (quoted_feed n h.0.1) (more_feed ns h.1)

printed_feed : (x : Printed) → CanBePrinted x → no_feed (printed_text x) ≡ true
printed_feed (printed.Point p s t k v o) is =
    let first : s < DAYS = omega (arith, is.1.0, is.1.1.0) in
    feed_both (spot_text p) (codes ", " ++ (days_text s t ++ (codes ": " ++ told_text k v o))) (spot_feed p is.0)
    (feed_both (days_text s t) (codes ": " ++ told_text k v o) (feed_both (day_text s) (codes " to " ++ day_text t) (day_feed s first) (day_feed t is.1.1.0))
    (feed_both (value_text k v) (codes ", " ++ origin_text o) (value_feed k v is.1.1.1.0) (origin_feed o is.1.1.1.1)))
printed_feed (printed.Members p names) is = feed_both (spot_text p) (codes ": " ++ names_text names) (spot_feed p is.0) (names_feed names is.1)
printed_feed (printed.Member p n) is = feed_both (spot_text p) (codes ": " ++ quoted n) (spot_feed p is.0) (quoted_feed n is.1.1)

-- ---- whole lines

line_before : (body more : List ℕ) → no_feed body ≡ true → lined ((body ++ 10 ∷ []) ++ more) ≡ with_line (body ++ 10 ∷ []) (lined more)
line_before body more h = ap lined (append_assoc body (10 ∷ []) more) ∙ line_ends body more h

numbered_before : (n : ℕ) (x : Printed) (more : List ℕ) → n < 10 ^ 64 → CanBePrinted x → lined (numbered_line n x ++ more) ≡ with_line (numbered_line n x) (lined more)
numbered_before n x more h is =
    let e : numbered_line n x ≡ (decimal n ++ (codes " " ++ printed_text x)) ++ 10 ∷ [] = sym (append_assoc (decimal n) (codes " " ++ printed_text x) (10 ∷ [])) in
    ap (λ l. lined (l ++ more)) e ∙ line_before (decimal n ++ (codes " " ++ printed_text x)) more (feed_both (decimal n) (codes " " ++ printed_text x) (decimal_feed n h) (printed_feed x is))
    ∙ ap (λ l. with_line l (lined more)) (sym e)

head_before : (p : Spot) (d : ℕ) (more : List ℕ) → IsSpot p → d < DAYS → lined (head_line p d ++ more) ≡ with_line (head_line p d) (lined more)
head_before p d more is h =
    let e : head_line p d ≡ (codes "report " ++ (spot_text p ++ (codes " at " ++ day_text d))) ++ 10 ∷ [] = ap (λ t. codes "report " ++ t) (sym (append_assoc (spot_text p) (codes " at " ++ day_text d) (10 ∷ []))) in
    ap (λ l. lined (l ++ more)) e
    ∙ line_before (codes "report " ++ (spot_text p ++ (codes " at " ++ day_text d))) more (feed_both (spot_text p) (codes " at " ++ day_text d) (spot_feed p is) (day_feed d h))
    ∙ ap (λ l. with_line l (lined more)) (sym e)

lines_lined : (n : ℕ) (xs : List Printed) → length xs + n < 10 ^ 64 → AllByRecursion CanBePrinted xs → lined (lines_text n xs ++ end_line) ≡ record { lines = numbered_lines n xs; left = [] }
lines_lined n [] h are = line_before (codes "end") [] refl
lines_lined n (x ∷ xs) h are =
    ap lined (append_assoc (numbered_line n x) (lines_text (n + 1) xs) end_line)
    ∙ numbered_before n x (lines_text (n + 1) xs ++ end_line) (omega (arith, h)) are.0
    ∙ ap (with_line (numbered_line n x)) (lines_lined (n + 1) xs (omega (arith, h)) are.1)

pub spelled_lined : (s : Spelled) → IsSpelled s → length s.printed < 2 ^ 64 → lined (spelled_text s) ≡ record { lines = report_lines s; left = [] }
spelled_lined s is h =
    head_before s.asked s.day (lines_text 1 s.printed ++ end_line) is.asked is.day ∙ ap (with_line (head_line s.asked s.day)) (lines_lined 1 s.printed (omega (arith, h)) is.printed)

pub text_spells : (s : Spelled) (text : List ℕ) → IsSpelled s → length s.printed < 2 ^ 64 → spelled_text s ≡ text → Spells (lined text) s
text_spells s text is h e = let l = ap lined (sym e) ∙ spelled_lined s is h in (is, (ap (λ (t : Lined). t.lines) l, ap (λ (t : Lined). t.left) l))

pub texts_are_spelled_holds : TextsAreSpelled
texts_are_spelled_holds s is h = text_spells s (spelled_text s) is h refl
