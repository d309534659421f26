-- What is printed alike says the same.
use Rattle.std.proofs.Common.{◌≡◌, ℕ, ◌+◌, ◌<◌, ◌^◌, List, [], ◌∷◌, ◌++◌, length, decimal, refl, sym, ap, subst, ◌∙◌, arith, append_assoc, append-nil}
use Rattle.std.specs.Prelude.{Option, Some, None, codes}
use Rattle.std.specs.List.{AllByRecursion}
use Rattle.std.proofs.lemmas.List.{append_cancel_left, append_cancel_right}
use Rattle.opa_date.specs.declared.TheConstants.{DAYS}
use Rattle.opa_date.specs.Texts.{day_text}
use Rattle.opa_model.specs.declared.things.Kind.{Kind}
use Rattle.opa_value.specs.declared.value.Value.{Value}
use Rattle.opa_words.specs.Kinds.{quoted}
use Rattle.opa_words.specs.Quotes.{HasNoQuote}
use Rattle.opa_words.proofs.PieceLists.{same_ends}
use Rattle.opa_words.proofs.QuoteLaws.{quoted_tells_apart}
use Rattle.opa_text.specs.Laws.{CanBeWritten}
use Rattle.opa_text.specs.Points.{names_text}
use Rattle.opa_text.specs.Texts.{value_text}
use Rattle.opa_verify.specs.Spelling.Lines.{Lined, lined}
use Rattle.opa_verify.specs.Spelling.Printed.{spot_text, origin_text, days_text, told_text, printed_text, numbered_line, numbered_lines, end_line, head_line, report_lines, spelled_text}
use Rattle.opa_verify.specs.Spelling.Same.{IsSame, AreSame, SaysSame}
use Rattle.opa_verify.specs.Spelling.Spelling.{IsSpot, IsOrigin, CanBePrinted, IsSpelled}
use Rattle.opa_verify.specs.declared.spelling.printed.Origin.{Origin}
use Rattle.opa_verify.specs.declared.spelling.printed.Printed.{Printed}
use Rattle.opa_verify.specs.declared.spelling.printed.Printed.TheVariants as printed
use Rattle.opa_verify.specs.declared.spelling.printed.Spelled.{Spelled}
use Rattle.opa_verify.specs.declared.spelling.printed.Spot.{Spot}
use Rattle.opa_verify.proofs.spelling.Calming.{calm_spot, calm_value, plain_no_quote}
use Rattle.opa_verify.proofs.spelling.Cutting.{same_parts}
use Rattle.opa_verify.proofs.spelling.Feeding.{spelled_lined}
use Rattle.opa_verify.proofs.spelling.Placed.{one_origin}
use Rattle.opa_verify.proofs.spelling.Pointing.{AsPoint, AsListed, as_point, as_listed, same_list, same_member, same_blank, list_no_member}
use Rattle.opa_verify.proofs.spelling.Spotted.{first_quote, quote_behind, named_part, of_plain}
use Rattle.opa_verify.proofs.spelling.Telling.{told_parts}
use Rattle.opa_verify.proofs.spelling.Valued.{one_day}
use Rattle.opa_verify.proofs.spelling.Namely.{one_names}
use Rattle.opa_text.proofs.ReadBack.{lines_read_back_holds}
use Rattle.opa_text.proofs.WholeLaws.{one_line_holds}
use Rattle.opa_text.specs.Spelled.{HasPairs}
use Rattle.opa_verify.proofs.spelling.Whole.{same_items, not_end}

-- ---- points

spot_made : (p : Spot) (o : Option (List ℕ)) → p.name ≡ o → p ≡ record { phrase = p.phrase; name = o }
spot_made p o e = ap (λ (x : Option (List ℕ)). let q : Spot = record { phrase = p.phrase; name = x } in q) e

pub one_spot : (p q : Spot) → IsSpot p → IsSpot q → spot_text p ≡ spot_text q → p ≡ q
one_spot p q is can e = go p.name q.name refl refl
  where
    bare : (r : Spot) → r.name ≡ None → spot_text r ≡ r.phrase
    bare r h = named_part r None h ∙ append-nil r.phrase

    full : (r : Spot) (n : List ℕ) → r.name ≡ Some n → spot_text r ≡ (r.phrase ++ codes " of ") ++ quoted n
    full r n h = named_part r (Some n) h ∙ sym (append_assoc r.phrase (codes " of ") (quoted n))

    mixed : (r s : Spot) (n : List ℕ) → IsSpot r → r.name ≡ None → s.name ≡ Some n → spot_text r ≡ spot_text s → ⊥
    mixed r s n ok h k f = quote_behind (s.phrase ++ codes " of ") (quoted n) refl (subst HasNoQuote (sym (bare r h) ∙ f ∙ full s n k) (plain_no_quote r.phrase ok.0.plain))

    made : (x y : List ℕ) (n m : Option (List ℕ)) → x ≡ y → n ≡ m → ◌≡◌ {A = Spot} (record { phrase = x; name = n }) (record { phrase = y; name = m })
    made x y n m f g = ap (λ (t : List ℕ). let r : Spot = record { phrase = t; name = n } in r) f ∙ ap (λ (t : Option (List ℕ)). let r : Spot = record { phrase = y; name = t } in r) g

    first_of : (n m : List ℕ) → (p.phrase ++ codes " of ") ++ quoted n ≡ (q.phrase ++ codes " of ") ++ quoted m → (p.phrase ≡ q.phrase) × (n ≡ m)
    first_of n m f =
        let s = first_quote (p.phrase ++ codes " of ") (q.phrase ++ codes " of ") (quoted n) (quoted m) (of_plain p.phrase is.0.plain) (of_plain q.phrase can.0.plain) refl refl f in
        (append_cancel_right p.phrase q.phrase (codes " of ") s.0, quoted_tells_apart n m s.1)

    go : (n m : Option (List ℕ)) → p.name ≡ n → q.name ≡ m → p ≡ q
    go None None h k = spot_made p None h ∙ made p.phrase q.phrase None None (sym (bare p h) ∙ e ∙ bare q k) refl ∙ sym (spot_made q None k)
    go None (Some m) h k = absurd (mixed p q m is h k e)
    go (Some n) None h k = absurd (mixed q p n can k h (sym e))
    go (Some n) (Some m) h k =
        let s = first_of n m (sym (full p n h) ∙ e ∙ full q m k) in
        spot_made p (Some n) h ∙ made p.phrase q.phrase (Some n) (Some m) s.0 (ap Some s.1) ∙ sym (spot_made q (Some m) k)

-- ---- days, values and origins

says : (k : Kind) (v : Value) → CanBeWritten k v → HasPairs (value_text k v) ((0, v) ∷ [])
says k v h = subst (λ t. HasPairs t ((0, v) ∷ [])) (append-nil (value_text k v)) (lines_read_back_holds k ((0, v) ∷ []) (refl, tt) (h, tt))

one_value : (k l : Kind) (v w : Value) → CanBeWritten k v → CanBeWritten l w → value_text k v ≡ value_text l w → v ≡ w
one_value k l v w h g e =
    let pairs : ◌≡◌ {A = List (ℕ × Value)} ((0, v) ∷ []) ((0, w) ∷ []) = one_line_holds (value_text l w) ((0, v) ∷ []) ((0, w) ∷ []) (subst (λ t. HasPairs t ((0, v) ∷ [])) e (says k v h)) (says l w g) in
    let one : ◌≡◌ {A = ℕ × Value} (0, v) (0, w) = (same_items (0, v) (0, w) [] [] pairs).0 in
    ap (λ (p : ℕ × Value). p.1) one

one_days : (s t a b : ℕ) → s < DAYS → t < DAYS → a < DAYS → b < DAYS → days_text s t ≡ days_text a b → (s ≡ a) × (t ≡ b)
one_days s t a b hs ht ha hb e =
    let one = same_parts (day_text s) (day_text a) (codes " to " ++ day_text t) (codes " to " ++ day_text b) refl e in
    let two : day_text t ≡ day_text b = cc one.1 in
    (one_day s a hs ha one.0, one_day t b ht hb two)

one_told : (k l : Kind) (v w : Value) (o p : Origin) → CanBeWritten k v → IsOrigin o → CanBeWritten l w → IsOrigin p → told_text k v o ≡ told_text l w p → (value_text k v ≡ value_text l w) × (o ≡ p)
one_told k l v w o p cv co cw cp e =
    let s = told_parts (value_text l w) (codes " " ++ origin_text p) (calm_value l w cw) (record { kind = k; value = v; origin = o }) (cv, co) e in
    (s.0, one_origin o p co cp (same_blank (origin_text o) (origin_text p) s.1))

-- ---- lines

one_line : (x y : Printed) → CanBePrinted x → CanBePrinted y → printed_text x ≡ printed_text y → IsSame x y
one_line x (printed.Point q a b l w p) is can e = point x is (as_point (spot_text q) (codes " " ++ (days_text a b ++ (codes ": " ++ told_text l w p))) (calm_spot q can.0) x is e)
  where
    point : (x : Printed) → CanBePrinted x → AsPoint (spot_text q) (codes " " ++ (days_text a b ++ (codes ": " ++ told_text l w p))) x → IsSame x (printed.Point q a b l w p)
    point (printed.Point r s t k v o) is h =
        let both = same_parts (days_text s t) (days_text a b) (codes ": " ++ told_text k v o) (codes ": " ++ told_text l w p) refl
        (same_blank (days_text s t ++ (codes ": " ++ told_text k v o)) (days_text a b ++ (codes ": " ++ told_text l w p)) h.1) in
        let first : s < DAYS = omega (arith, is.1.0, is.1.1.0) in
        let other : a < DAYS = omega (arith, can.1.0, can.1.1.0) in
        let days = one_days s t a b first is.1.1.0 other can.1.1.0 both.0 in
        let told : told_text k v o ≡ told_text l w p = cc both.1 in
        let rest = one_told k l v w o p is.1.1.1.0 is.1.1.1.1 can.1.1.1.0 can.1.1.1.1 told in
        record { spot = one_spot r q is.0 can.0 h.0; first = days.0; last = days.1; value = one_value k l v w is.1.1.1.0 can.1.1.1.0 rest.0; shown = rest.0; origin = rest.1 }
    point (printed.Members r names) is h = absurd h
    point (printed.Member r n) is h = absurd h
one_line x (printed.Members q others) is can e = members x is (as_listed (codes "list " ++ spot_text q) (codes " " ++ names_text others) (calm_spot q can.0) x is e)
  where
    members : (x : Printed) → CanBePrinted x → AsListed (codes "list " ++ spot_text q) (codes " " ++ names_text others) x → IsSame x (printed.Members q others)
    members (printed.Point r s t k v o) is h = absurd h
    members (printed.Members r names) is h = (one_spot r q is.0 can.0 (same_list (spot_text r) (spot_text q) h.0), one_names names others is.1 can.1 (same_blank (names_text names) (names_text others) h.1))
    members (printed.Member r n) is h = absurd (list_no_member (spot_text q) (spot_text r) (sym h.0))
one_line x (printed.Member q m) is can e = member x is (as_listed (codes "member " ++ spot_text q) (codes " " ++ quoted m) (calm_spot q can.0) x is e)
  where
    member : (x : Printed) → CanBePrinted x → AsListed (codes "member " ++ spot_text q) (codes " " ++ quoted m) x → IsSame x (printed.Member q m)
    member (printed.Point r s t k v o) is h = absurd h
    member (printed.Members r names) is h = absurd (list_no_member (spot_text r) (spot_text q) h.0)
    member (printed.Member r n) is h = (one_spot r q is.0 can.0 (same_member (spot_text r) (spot_text q) h.0), quoted_tells_apart n m (same_blank (quoted n) (quoted m) h.1))

one_numbered : (n : ℕ) (x y : Printed) → numbered_line n x ≡ numbered_line n y → printed_text x ≡ printed_text y
one_numbered n x y e =
    append_cancel_right (printed_text x) (printed_text y) (10 ∷ [])
    (append_cancel_left (decimal n ++ codes " ") (printed_text x ++ 10 ∷ []) (printed_text y ++ 10 ∷ [])
    (append_assoc (decimal n) (codes " ") (printed_text x ++ 10 ∷ []) ∙ e ∙ sym (append_assoc (decimal n) (codes " ") (printed_text y ++ 10 ∷ []))))

one_lines : (n : ℕ) (xs ys : List Printed) → length ys + n < 10 ^ 64 → length xs + n < 10 ^ 64 → AllByRecursion CanBePrinted xs → AllByRecursion CanBePrinted ys → numbered_lines n xs ≡ numbered_lines n ys → AreSame xs ys
one_lines n [] [] h k is can e = tt
one_lines n [] (y ∷ ys) h k is can e = absurd (not_end n y (omega (arith, h)) (sym (same_items end_line (numbered_line n y) [] (numbered_lines (n + 1) ys) e).0))
one_lines n (x ∷ xs) [] h k is can e = absurd (not_end n x (omega (arith, k)) (same_items (numbered_line n x) end_line (numbered_lines (n + 1) xs) [] e).0)
one_lines n (x ∷ xs) (y ∷ ys) h k is can e =
    let s = same_items (numbered_line n x) (numbered_line n y) (numbered_lines (n + 1) xs) (numbered_lines (n + 1) ys) e in
    (one_line x y is.0 can.0 (one_numbered n x y s.0), one_lines (n + 1) xs ys (omega (arith, h)) (omega (arith, k)) is.1 can.1 s.1)

one_head : (p q : Spot) (d e : ℕ) → IsSpot p → d < DAYS → IsSpot q → e < DAYS → head_line p d ≡ head_line q e → (p ≡ q) × (d ≡ e)
one_head p q d e is hd can he h =
    let f : spot_text p ++ (codes " at " ++ (day_text d ++ 10 ∷ [])) ≡ spot_text q ++ (codes " at " ++ (day_text e ++ 10 ∷ [])) = cc h in
    let g : (spot_text p ++ codes " at ") ++ (day_text d ++ 10 ∷ []) ≡ (spot_text q ++ codes " at ") ++ (day_text e ++ 10 ∷ []) =
    append_assoc (spot_text p) (codes " at ") (day_text d ++ 10 ∷ []) ∙ f ∙ sym (append_assoc (spot_text q) (codes " at ") (day_text e ++ 10 ∷ [])) in
    let s = same_ends (spot_text p ++ codes " at ") (spot_text q ++ codes " at ") (day_text d ++ 10 ∷ []) (day_text e ++ 10 ∷ []) refl g in
    (one_spot p q is can (append_cancel_right (spot_text p) (spot_text q) (codes " at ") s.0), one_day d e hd he (append_cancel_right (day_text d) (day_text e) (10 ∷ []) s.1))

pub one_spelling_holds : (s t : Spelled) → IsSpelled s → IsSpelled t → length s.printed < 2 ^ 64 → length t.printed < 2 ^ 64 → spelled_text s ≡ spelled_text t → SaysSame s t
one_spelling_holds s t is can hs ht e =
    let both = ap lined e in
    let same : report_lines s ≡ report_lines t = ap (λ (l : Lined). l.lines) (sym (spelled_lined s is hs) ∙ both ∙ spelled_lined t can ht) in
    let parts = same_items (head_line s.asked s.day) (head_line t.asked t.day) (numbered_lines 1 s.printed) (numbered_lines 1 t.printed) same in
    let head = one_head s.asked t.asked s.day t.day is.asked is.day can.asked can.day parts.0 in
    record { asked = head.0; day = head.1; printed = one_lines 1 s.printed t.printed (omega (arith, ht)) (omega (arith, hs)) is.printed can.printed parts.1 }
