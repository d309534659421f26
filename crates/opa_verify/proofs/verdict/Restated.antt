-- A report's text, printed again, and what says the same is named the same.
use Rattle.std.proofs.Common.{◌≡◌, ℕ, zero, suc, ◌+◌, ◌<◌, ◌≤◌, ◌^◌, ◌&&◌, List, [], ◌∷◌, ◌++◌, map, length, Bool, true, false, cond, Option, None, Some, Contains, decimal, refl, sym, ◌∙◌, ap, append_assoc, length-append, arith}
use Rattle.std.specs.Prelude.{codes, slice_get}
use Rattle.std.specs.Option.{option_and_then}
use Rattle.std.specs.Str.{bytes_eq}
use Rattle.opa_date.specs.Texts.{day_text}
use Rattle.opa_value.specs.declared.value.Value.{Value}
use Rattle.opa_value.specs.Truth.{is_unknown}
use Rattle.opa_words.specs.Kinds.{quoted}
use Rattle.opa_model.specs.declared.ids.AttrId.{AttrId}
use Rattle.opa_case.specs.Shapes.{attribute_or, relation_or}
use Rattle.opa_case.specs.Steps.{has_kind}
use Rattle.opa_cells.specs.Instances.{is_same, global}
use Rattle.opa_cells.specs.declared.instance.InstanceId.{InstanceId}
use Rattle.opa_tree.specs.declared.rulebase.Rulebase.{Rulebase}
use Rattle.opa_tree.specs.declared.rules.Rule.{Rule}
use Rattle.opa_tree.specs.Rules.{rule_of}
use Rattle.opa_report.specs.declared.lines.Report.{Report}
use Rattle.opa_report.specs.declared.lines.ReportLine.{ReportLine}
use Rattle.opa_report.specs.declared.lines.ReportLine.TheVariants as line
use Rattle.opa_report.specs.Text.Texts as told
use Rattle.opa_report.specs.Text.Texts.{line_text, numbered, first_line, report_text}
use Rattle.opa_text.specs.Points.{point_text, instance_part, names_text}
use Rattle.opa_text.specs.Texts.{value_text}
use Rattle.opa_verify.specs.Spelling.Printed.{name_part, spot_text, origin_text, printed_text, numbered_line, lines_text, end_line, head_line, spelled_text}
use Rattle.opa_verify.specs.Spelling.Same.{IsSame, AreSame}
use Rattle.opa_verify.specs.declared.spelling.printed.Origin.TheVariants as origin
use Rattle.opa_verify.specs.declared.spelling.printed.Printed.{Printed}
use Rattle.opa_verify.specs.declared.spelling.printed.Printed.TheVariants as printed
use Rattle.opa_verify.specs.declared.spelling.printed.Spelled.{Spelled}
use Rattle.opa_verify.specs.Verdict.Naming.{asked_point, named_line, named_point, named_members, named_member, AreNamed}
use Rattle.opa_verify.specs.Verdict.Restating.{name_of, spot_of, origin_by, spelled_line, spelled_of}
use Rattle.opa_verify.proofs.verdict.Printing.{listed_is}

-- ---- the text of a report

part_is : (i : InstanceId) → instance_part i ≡ name_part (name_of i)
part_is i = go (is_same i global)
  where
    go : (b : Bool) → cond b [] (codes " of " ++ quoted i.name) ≡ name_part (cond b None (Some i.name))
    go true = refl
    go false = refl

point_is : (phrase : List ℕ) (i : InstanceId) → point_text phrase i ≡ spot_text (spot_of phrase i)
point_is phrase i = ap (λ t. phrase ++ t) (part_is i)

pub origin_is : (files : List (List ℕ)) (rule : Option Rule) (v : Value) → told.origin_text files rule v ≡ origin_text (origin_by files rule v)
origin_is files (Some rule) v = refl
origin_is files None v = go (is_unknown v)
  where
    go : (b : Bool) → cond b (codes "unanswered") (codes "answer") ≡ origin_text (cond b origin.Unanswered origin.Answer)
    go true = refl
    go false = refl

line_is : (r : Rulebase) (n : ℕ) (l : ReportLine) → line_text r n l ≡ numbered_line n (spelled_line r l)
line_is r n (line.Point a i s t v) =
    ap (λ x. decimal n ++ (codes " " ++ ((x ++ (codes ", " ++ (told.span_text s t ++ (codes ": " ++ (value_text (attribute_or r.model a).kind v ++ (codes ", " ++ told.origin_text r.files (rule_of r.rules a) v)))))) ++ 10 ∷ []))) (point_is (attribute_or r.model a).phrase i)
    ∙ ap (λ x. decimal n ++ (codes " " ++ ((spot_text (spot_of (attribute_or r.model a).phrase i) ++ (codes ", " ++ (told.span_text s t ++ (codes ": " ++ (value_text (attribute_or r.model a).kind v ++ (codes ", " ++ x)))))) ++ 10 ∷ []))) (origin_is r.files (rule_of r.rules a) v)
line_is r n (line.Members q i names) =
    listed_is r n (codes "list ") (spot_text (spot_of (relation_or r.model q).phrase i)) (point_text (relation_or r.model q).phrase i) (names_text names) (point_is (relation_or r.model q).phrase i)
line_is r n (line.Member q k i) = listed_is r n (codes "member ") (spot_text (spot_of (relation_or r.model q).phrase k)) (point_text (relation_or r.model q).phrase k) (quoted i.name) (point_is (relation_or r.model q).phrase k)

lines_are : (r : Rulebase) (n : ℕ) (ls : List ReportLine) → numbered r n ls ≡ lines_text n (map (spelled_line r) ls) ++ end_line
lines_are r n [] = refl
lines_are r n (l ∷ ls) =
    ap (λ t. t ++ numbered r (n + 1) ls) (line_is r n l) ∙ ap (λ t. numbered_line n (spelled_line r l) ++ t) (lines_are r (n + 1) ls)
    ∙ sym (append_assoc (numbered_line n (spelled_line r l)) (lines_text (n + 1) (map (spelled_line r) ls)) end_line)

pub text_is : (r : Rulebase) (x : Report) → report_text r x ≡ spelled_text (spelled_of r x)
text_is r x =
    ap (λ t. first_line (attribute_or r.model x.attr).phrase x.inst x.day ++ t) (lines_are r 1 x.lines)
    ∙ ap (λ t. (codes "report " ++ (t ++ (codes " at " ++ (day_text x.day ++ 10 ∷ [])))) ++ (lines_text 1 (map (spelled_line r) x.lines) ++ end_line)) (point_is (attribute_or r.model x.attr).phrase x.inst)

-- ---- no more lines than bytes

some_bytes : (n : ℕ) (x : Printed) → 1 ≤ length (numbered_line n x)
some_bytes n x =
    let whole : length (numbered_line n x) ≡ length (decimal n) + length (codes " " ++ (printed_text x ++ 10 ∷ [])) = length-append (decimal n) (codes " " ++ (printed_text x ++ 10 ∷ [])) in
    let end : length (codes " " ++ (printed_text x ++ 10 ∷ [])) ≡ suc (length (printed_text x ++ 10 ∷ [])) = refl in
    omega (arith, whole, end)

few_lines : (n : ℕ) (xs : List Printed) → length xs ≤ length (lines_text n xs)
few_lines n [] = omega arith
few_lines n (x ∷ xs) =
    let whole : length (lines_text n (x ∷ xs)) ≡ length (numbered_line n x) + length (lines_text (n + 1) xs) = length-append (numbered_line n x) (lines_text (n + 1) xs) in
    omega (arith, whole, some_bytes n x, few_lines (n + 1) xs)

pub few_printed : (s : Spelled) (text : List ℕ) → spelled_text s ≡ text → length text < 2 ^ 64 → length s.printed < 2 ^ 64
few_printed s text e h =
    let a : length text ≡ length (head_line s.asked s.day) + length (lines_text 1 s.printed ++ end_line) = ap length (sym e) ∙ length-append (head_line s.asked s.day) (lines_text 1 s.printed ++ end_line) in
    let b : length (lines_text 1 s.printed ++ end_line) ≡ length (lines_text 1 s.printed) + length end_line = length-append (lines_text 1 s.printed) end_line in
    omega (arith, a, b, h, few_lines 1 s.printed)

-- ---- what says the same is named the same

pub named_same : (r : Rulebase) (x y : Printed) → IsSame x y → named_line r x ≡ named_line r y
named_same r (printed.Point p s t k v o) (printed.Point q a b l w u) h =
    ap (λ z. named_point r z s t k v o) h.spot ∙ ap (λ z. named_point r q z t k v o) h.first ∙ ap (λ z. named_point r q a z k v o) h.last ∙ ap (λ z. named_point r q a b k v z) h.origin ∙ ap (λ z. named_point r q a b k z u) h.value
    ∙ ap (λ z. option_and_then (λ (x : AttrId × InstanceId). cond (has_kind (attribute_or r.model x.0).kind w && bytes_eq (value_text (attribute_or r.model x.0).kind w) z && bytes_eq (told.origin_text r.files (rule_of r.rules x.0) w) (origin_text u)) (Some (line.Point x.0 x.1 a b w)) None) (asked_point r q))
    (ap (value_text k) (sym h.value) ∙ h.shown)
named_same r (printed.Members p names) (printed.Members q others) h = ap (λ z. named_members r.model z names) h.0 ∙ ap (named_members r.model q) h.1
named_same r (printed.Member p n) (printed.Member q m) h = ap (λ z. named_member r.model z n) h.0 ∙ ap (named_member r.model q) h.1
named_same r (printed.Point p s t k v o) (printed.Members q others) h = absurd h
named_same r (printed.Point p s t k v o) (printed.Member q m) h = absurd h
named_same r (printed.Members p names) (printed.Point q a b l w u) h = absurd h
named_same r (printed.Members p names) (printed.Member q m) h = absurd h
named_same r (printed.Member p n) (printed.Point q a b l w u) h = absurd h
named_same r (printed.Member p n) (printed.Members q others) h = absurd h

pub same_lines : (r : Rulebase) (xs ys : List Printed) (ls ms : List ReportLine) → AreSame xs ys → AreNamed r xs ls → AreNamed r ys ms → ls ≡ ms
same_lines r [] [] [] [] h a b = refl
same_lines r [] [] [] (m ∷ ms) h a b = absurd b
same_lines r [] [] (l ∷ ls) ms h a b = absurd a
same_lines r [] (y ∷ ys) ls ms h a b = absurd h
same_lines r (x ∷ xs) [] ls ms h a b = absurd h
same_lines r (x ∷ xs) (y ∷ ys) [] ms h a b = absurd a
same_lines r (x ∷ xs) (y ∷ ys) (l ∷ ls) [] h a b = absurd b
same_lines r (x ∷ xs) (y ∷ ys) (l ∷ ls) (m ∷ ms) h a b =
    let one : l ≡ m = cc (sym a.0 ∙ named_same r x y h.0 ∙ b.0) in
    ap (λ z. z ∷ ls) one ∙ ap (λ zs. m ∷ zs) (same_lines r xs ys ls ms h.1 a.1 b.1)

pub stands_in : {X : Type 0} (xs : List X) (n : ℕ) (x : X) → slice_get xs n ≡ Some x → Contains xs x
stands_in [] n x e = absurd (cc e)
stands_in (y ∷ xs) zero x e = (zero, omega arith, let f : y ≡ x = cc e in f)
stands_in (y ∷ xs) (suc n) x e = let rest = stands_in xs n x e in (suc rest.0, omega (arith, rest.1), rest.2)
