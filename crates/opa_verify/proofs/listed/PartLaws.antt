-- What is told of lines of shades.
use Rattle.std.proofs.Common.{◌≡◌, ℕ, ◌+◌, ◌<◌, List, [], ◌∷◌, ◌++◌, Bool, true, false, Some, take, get_or, length, refl, sym, ◌∙◌, ap}
use Rattle.std.specs.Prelude.{map, ◌||◌, ◌&&◌, not}
use Rattle.std.specs.List.{list_any}
use Rattle.std.proofs.lemmas.List.{map-append, take_more}
use Rattle.opa_date.specs.declared.TheConstants.{DAYS}
use Rattle.opa_value.specs.declared.value.Value.{Value}
use Rattle.opa_value.specs.declared.value.Value.TheVariants.{Unknown, Uncertain, Bool as Truth, Num, Words, Day}
use Rattle.opa_value.specs.Truth.{is_true, is_false, all_of, any_of}
use Rattle.opa_line.specs.Lines.{value_or, StandsFor}
use Rattle.opa_window.specs.Days.{day_value}
use Rattle.opa_mean.specs.Meaning.{choose}
use Rattle.opa_code.specs.OverLines.Lines.{values_at}
use Rattle.opa_code.specs.OverLines.Tallies.{gather_of}
use Rattle.opa_code.specs.declared.over_lines.gathering.Gathering.TheVariants as gathering
use Rattle.opa_verify.specs.declared.listed.parts.Part.{Part}
use Rattle.opa_verify.specs.declared.listed.parts.Part.TheVariants as part
use Rattle.opa_verify.specs.declared.listed.shade.Shade.{Shade}
use Rattle.opa_tree.specs.declared.kinds.Quant.{Quant}
use Rattle.opa_tree.specs.declared.kinds.Quant.TheVariants as quant
use Rattle.opa_verify.specs.Listed.Shades.{is_gone, joined, choice_shade, item_shade}
use Rattle.opa_verify.specs.Listed.ShadeLines.{ShadeLine, shade_at, shades_at, part_of, shade_from, unless_decided, decided_shade, table_of, either}
use Rattle.opa_verify.proofs.listed.Shading.{any_is}

abbrev pub Tells : Part → List ShadeLine → List (List (ℕ × Value)) → Type 0
Tells p xs vs = (d : ℕ) → d < DAYS → values_at vs d ≡ map (part_of p) (shades_at xs d)

pub parts_more : (p : Part) (xs : List ShadeLine) (i : ℕ) (x : ShadeLine) (old new : List (List (ℕ × Value))) (v : List (ℕ × Value)) → i < length xs → x ≡ get_or xs i x → Tells p (take i xs) old → new ≡ old ++ v ∷ []
    → StandsFor DAYS (λ d. part_of p (shade_at x d)) v → Tells p (take (i + 1) xs) new
parts_more p xs i x old new v lt is before next stands d in_days =
    ap (λ vs. values_at vs d) next ∙ map-append (λ l. day_value l d) old (v ∷ []) ∙ ap (λ vs. vs ++ day_value v d ∷ []) (before d in_days)
    ∙ ap (λ w. map (part_of p) (shades_at (take i xs) d) ++ w ∷ []) (ap (value_or Unknown) (stands d in_days))
    ∙ sym (map-append (part_of p) (shades_at (take i xs) d) (shade_at x d ∷ [])) ∙ ap (map (part_of p)) (sym (map-append (λ l. shade_at l d) (take i xs) (x ∷ [])))
    ∙ ap (λ l. map (part_of p) (shades_at (take i xs ++ l ∷ []) d)) is ∙ ap (λ ls. map (part_of p) (shades_at ls d)) (sym (take_more xs i x lt))

gaps_any : (hs : List Shade) → is_true (any_of (map (part_of part.Gap) hs)) ≡ list_any is_gone hs
gaps_any hs = any_is (map (part_of part.Gap) hs) ∙ go hs
  where
    go : (hs : List Shade) → list_any is_true (map (part_of part.Gap) hs) ≡ list_any is_gone hs
    go [] = refl
    go (h ∷ hs) = ap (λ t. h.missing || t) (go hs)

pub decided_is : (neutral : Bool) (hs : List Shade) → unless_decided neutral (gather_of (table_of neutral) (map (part_of (part.Counted neutral)) hs)) (any_of (map (part_of part.Gap) hs)) ≡ decided_shade neutral hs
decided_is true hs = ap (λ t. let h : Shade = record { value = all_of (map (part_of (part.Counted true)) hs); missing = t && not (is_false (all_of (map (part_of (part.Counted true)) hs))) } in h) (gaps_any hs)
decided_is false hs = ap (λ t. let h : Shade = record { value = any_of (map (part_of (part.Counted false)) hs); missing = t && not (is_true (any_of (map (part_of (part.Counted false)) hs))) } in h) (gaps_any hs)

pub joined_is : (f : List Value → Value) (hs : List Shade) → shade_from (f (map (part_of part.Value) hs)) (any_of (map (part_of part.Gap) hs)) ≡ joined f hs
joined_is f hs = ap (λ t. let h : Shade = record { value = f (map (part_of part.Value) hs); missing = t } in h) (gaps_any hs)

pub choice_is : (c h r : Shade) → shade_from (choose c.value h.value r.value) (either (Truth c.missing) (choose c.value (Truth h.missing) (Truth r.missing))) ≡ choice_shade c h r
choice_is c h r = ap (λ t. let x : Shade = record { value = choose c.value h.value r.value; missing = t } in x) (go c.missing c.value)
  where
    or_false : (b : Bool) → b ≡ (b || false)
    or_false true = refl
    or_false false = refl

    go : (m : Bool) (v : Value) → (m || is_true (choose v (Truth h.missing) (Truth r.missing))) ≡ (m || (is_true v && h.missing) || (is_false v && r.missing))
    go true v = refl
    go false (Truth true) = or_false h.missing
    go false (Truth false) = refl
    go false Unknown = refl
    go false Uncertain = refl
    go false (Num n) = refl
    go false (Words t) = refl
    go false (Day k) = refl

-- a line of shades from lines of what is told of them
pub decided_stands : (neutral : Bool) (xs : List ShadeLine) (counted gaps : List (List (ℕ × Value))) (values gap : List (ℕ × Value)) (l : ShadeLine) → Tells (part.Counted neutral) xs counted → Tells part.Gap xs gaps
    → StandsFor DAYS (λ d. gather_of (table_of neutral) (values_at counted d)) values → StandsFor DAYS (λ d. gather_of gathering.Any (values_at gaps d)) gap
    → StandsFor DAYS (λ d. unless_decided neutral (day_value values d) (day_value gap d)) l → StandsFor DAYS (λ d. decided_shade neutral (shades_at xs d)) l
decided_stands neutral xs counted gaps values gap l told_counted told_gaps v g stands d lt =
    stands d lt ∙ ap Some (ap (λ o. unless_decided neutral (value_or Unknown o) (day_value gap d)) (v d lt) ∙ ap (λ o. unless_decided neutral (gather_of (table_of neutral) (values_at counted d)) (value_or Unknown o)) (g d lt)
    ∙ ap (λ vs. unless_decided neutral (gather_of (table_of neutral) vs) (any_of (values_at gaps d))) (told_counted d lt) ∙ ap (λ vs. unless_decided neutral (gather_of (table_of neutral) (map (part_of (part.Counted neutral)) (shades_at xs d))) (any_of vs)) (told_gaps d lt)
    ∙ decided_is neutral (shades_at xs d))

pub joined_stand : (f : List Value → Value) (xs : List ShadeLine) (vs gaps : List (List (ℕ × Value))) (values gap : List (ℕ × Value)) (l : ShadeLine) → Tells part.Value xs vs → Tells part.Gap xs gaps
    → StandsFor DAYS (λ d. f (values_at vs d)) values → StandsFor DAYS (λ d. gather_of gathering.Any (values_at gaps d)) gap
    → StandsFor DAYS (λ d. shade_from (day_value values d) (day_value gap d)) l → StandsFor DAYS (λ d. joined f (shades_at xs d)) l
joined_stand f xs vs gaps values gap l told_values told_gaps v g stands d lt =
    stands d lt ∙ ap Some (ap (λ o. shade_from (value_or Unknown o) (day_value gap d)) (v d lt) ∙ ap (λ o. shade_from (f (values_at vs d)) (value_or Unknown o)) (g d lt)
    ∙ ap (λ us. shade_from (f us) (any_of (values_at gaps d))) (told_values d lt) ∙ ap (λ us. shade_from (f (map (part_of part.Value) (shades_at xs d))) (any_of us)) (told_gaps d lt) ∙ joined_is f (shades_at xs d))

pub taken_stands : (c h r : ShadeLine) (cv hv rv cg hg rg values gaps gap : List (ℕ × Value)) (l : ShadeLine)
    → StandsFor DAYS (λ d. part_of part.Value (shade_at c d)) cv → StandsFor DAYS (λ d. part_of part.Value (shade_at h d)) hv → StandsFor DAYS (λ d. part_of part.Value (shade_at r d)) rv
    → StandsFor DAYS (λ d. part_of part.Gap (shade_at c d)) cg → StandsFor DAYS (λ d. part_of part.Gap (shade_at h d)) hg → StandsFor DAYS (λ d. part_of part.Gap (shade_at r d)) rg
    → StandsFor DAYS (λ d. choose (day_value cv d) (day_value hv d) (day_value rv d)) values → StandsFor DAYS (λ d. choose (day_value cv d) (day_value hg d) (day_value rg d)) gaps → StandsFor DAYS (λ d. either (day_value cg d) (day_value gaps d)) gap
    → StandsFor DAYS (λ d. shade_from (day_value values d) (day_value gap d)) l → StandsFor DAYS (λ d. choice_shade (shade_at c d) (shade_at h d) (shade_at r d)) l
taken_stands c h r cv hv rv cg hg rg values gaps gap l a1 a2 a3 b1 b2 b3 v g e stands d lt =
    let one : day_value cv d ≡ (shade_at c d).value = ap (value_or Unknown) (a1 d lt) in
    let vs : day_value values d ≡ choose (shade_at c d).value (shade_at h d).value (shade_at r d).value =
    ap (value_or Unknown) (v d lt) ∙ ap (λ x. choose x (day_value hv d) (day_value rv d)) one ∙ ap (λ o. choose (shade_at c d).value (value_or Unknown o) (day_value rv d)) (a2 d lt) ∙ ap (λ o. choose (shade_at c d).value (shade_at h d).value (value_or Unknown o)) (a3 d lt) in
    let gs : day_value gaps d ≡ choose (shade_at c d).value (Truth (shade_at h d).missing) (Truth (shade_at r d).missing) =
    ap (value_or Unknown) (g d lt) ∙ ap (λ x. choose x (day_value hg d) (day_value rg d)) one ∙ ap (λ o. choose (shade_at c d).value (value_or Unknown o) (day_value rg d)) (b2 d lt) ∙ ap (λ o. choose (shade_at c d).value (Truth (shade_at h d).missing) (value_or Unknown o)) (b3 d lt) in
    stands d lt ∙ ap Some (ap (λ x. shade_from x (day_value gap d)) vs
    ∙ ap (λ x. shade_from (choose (shade_at c d).value (shade_at h d).value (shade_at r d).value) x) (ap (value_or Unknown) (e d lt) ∙ ap (λ o. either (value_or Unknown o) (day_value gaps d)) (b1 d lt) ∙ ap (either (Truth (shade_at c d).missing)) gs)
    ∙ choice_is (shade_at c d) (shade_at h d) (shade_at r d))

only_item : (q : Quant) (h : Shade) → item_shade q (h ∷ []) ≡ h
only_item quant.SumIf h = refl
only_item _ h = refl

-- a member with one operand is that operand
pub item_stands : (q : Quant) (xs : List ShadeLine) (x l : ShadeLine) → xs ≡ x ∷ [] → StandsFor DAYS (shade_at x) l → StandsFor DAYS (λ d. item_shade q (shades_at xs d)) l
item_stands q xs x l is h d lt = h d lt ∙ ap Some (sym (ap (λ ls. item_shade q (shades_at ls d)) is ∙ only_item q (shade_at x d)))
