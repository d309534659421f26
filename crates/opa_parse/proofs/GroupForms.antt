-- The tree that a group says has its form, and isn't too deep.
use Rattle.std.proofs.Common.{◌≡◌, ℕ, ◌+◌, ◌≤◌, min, max, nat_le, List, [], ◌∷◌, ◌++◌, length, map, Bool, true, false, ◌&&◌, if◌then◌else◌, Option, Some, None, slice_get, option_map, refl, sym, ap, subst, ◌∙◌, arith, leb-true}
use Rattle.std.proofs.lemmas.Bool.{and_from}
use Rattle.opa_model.specs.declared.ids.RelId.{RelId}
use Rattle.opa_tree.specs.declared.kinds.Quant.{Quant}
use Rattle.opa_tree.specs.declared.kinds.Quant.TheVariants as quant
use Rattle.opa_tree.specs.declared.expr.Expr.{Expr}
use Rattle.opa_tree.specs.declared.expr.Expr.TheVariants as expr
use Rattle.opa_tree.specs.declared.expr.Row.{Row}
use Rattle.opa_tree.specs.Trees.{depth, highest, has_form, parts_have_form, row_depth, quant_arity}
use Rattle.opa_tree.proofs.DepthLaws.{depth-All, depth-Any, depth-Not, depth-Over, depth-Table}
use Rattle.opa_tree.proofs.FormLaws.{row_has_form, form-of_row, form-Table}
use Rattle.opa_sentence.specs.declared.measure.Measure.{Measure}
use Rattle.opa_io.specs.declared.limits.TheConstants.{MOST_DEPTH, MOST_NODES, MOST_NESTING}
use Rattle.opa_io.proofs.Bools.{and_first, and_second}
use Rattle.opa_sentence.specs.declared.names.Names.{Names}
use Rattle.opa_sentence.specs.declared.names.Member.{Member}
use Rattle.opa_sentence.specs.declared.names.Relation.{Relation}
use Rattle.opa_sentence.specs.declared.names.Relation.TheVariants as relation
use Rattle.opa_sentence.specs.declared.reading.Reading.{Reading}
use Rattle.opa_sentence.specs.declared.reading.Parts.{Parts}
use Rattle.opa_sentence.specs.Lexemes.{Lexeme}
use Rattle.opa_sentence.specs.Measured.{Tells}
use Rattle.opa_sentence.specs.Measures.{beside, above, fits, capped, unbounded, bounded}
use Rattle.opa_sentence.specs.Readings as says
use Rattle.opa_sentence.specs.Readings.{with_tree}
use Rattle.opa_sentence.specs.Grammar.{Part, LINE}
use Rattle.opa_sentence.specs.Spelling.{IsSpelling}
use Rattle.opa_sentence.proofs.MeasureLaws.{is_measured_holds, deepest_last}
use Rattle.opa_parse.specs.declared.group.Cases.{Cases}
use Rattle.opa_parse.specs.declared.group.Group.{Group}
use Rattle.opa_parse.specs.declared.group.Joint.{Joint}
use Rattle.opa_parse.specs.declared.group.Joint.TheVariants as joint
use Rattle.opa_parse.specs.declared.group.Said.{Said}
use Rattle.opa_parse.specs.declared.group.Several.{Several}
use Rattle.opa_parse.specs.declared.line.Head.{Head}
use Rattle.opa_parse.specs.declared.line.Head.TheVariants as head
use Rattle.opa_parse.specs.declared.line.Line.{Line}
use Rattle.opa_parse.specs.Groups as g
use Rattle.opa_parse.specs.Groups.{Item, Grouped, More, Case, MoreCases, AllCases}
use Rattle.opa_parse.specs.Sayings.{of_line, head_reading, joined, row_of, with_row, row_measure, cases_measure, with_case, table_of, table_measure, tabled}
use Rattle.opa_parse.proofs.LineForms.{below, Form, OfForm, KeepsForm, formed, formed_last, length_last, all_form, any_form, listed_form, not_form, MemberForm, MembersForm, AreReal, form_of}

-- ---- measures that fit

pub fits_deep : (m : Measure) → fits m ≡ true → m.depth ≤ 64
fits_deep m h =
    let r = and_second (m.named && m.short) (nat_le m.depth MOST_DEPTH && (nat_le m.nodes MOST_NODES && nat_le m.nesting MOST_NESTING)) h in
    leb-true m.depth MOST_DEPTH (and_first (nat_le m.depth MOST_DEPTH) (nat_le m.nodes MOST_NODES && nat_le m.nesting MOST_NESTING) r)

-- ---- a tree, and trees beside one another

abbrev pub SoundAt : Measure → Option Expr → Type 0
SoundAt m None = Unit {0}
SoundAt m (Some e) = ((top : Bool) → has_form e top ≡ true) × (depth e ≤ m.depth) × (m.depth ≤ 64)

abbrev pub Sound : Reading → Type 0
Sound r = SoundAt r.measure r.tree

abbrev pub SoundAll : ℕ → Measure → Option (List Expr) → Type 0
SoundAll n m None = Unit {0}
SoundAll n m (Some es) = (length es ≡ n) × (formed es ≡ true) × (highest (map depth es) ≤ m.depth)

-- ---- lines

pub bound_sound : (m : Measure) (t : Option Expr) (k : Bool) → fits (capped m) ≡ k → Form t → Tells m t → SoundAt (capped m) (if k then t else None)
bound_sound m t false h f d = tt
bound_sound m None true h f d = tt
bound_sound m (Some e) true h f d =
    let fit = fits_deep (capped m) h in
    (f, omega (arith, fit, d.1), fit)

pub part_sound : (ns : Names) (p : Part) (ts : List Lexeme) (r : Reading) → MembersForm unbounded ns.members → AreReal ts → IsSpelling ns p ts (Some r) → Sound r
part_sound ns p ts r members real h =
    let f = form_of unbounded ns members h.1 real in
    let t = is_measured_holds ns p ts h.0 [] h.1 in
    subst Sound (sym h.2) (bound_sound h.0.measure h.0.tree (fits (capped h.0.measure)) refl f.0 t)

pub line_sound : (ns : Names) (ts : List Lexeme) (r : Reading) → MembersForm unbounded ns.members → AreReal ts → IsSpelling ns LINE ts (Some r) → Sound r
line_sound ns ts r members real h = part_sound ns LINE ts r members real h

-- ---- groups

with_sound : (n : ℕ) (pm xm : Measure) (ts : Option (List Expr)) (t : Option Expr) (k : Bool) → fits (capped (beside pm xm)) ≡ k → SoundAll n pm ts → SoundAt xm t → SoundAll (n + 1) (capped (beside pm xm)) (if k then with_tree ts t else None)
with_sound n pm xm ts t false h s u = tt
with_sound n pm xm None t true h s u = tt
with_sound n pm xm (Some es) None true h s u = tt
with_sound n pm xm (Some es) (Some e) true h s u =
    let fit = fits_deep (capped (beside pm xm)) h in
    (length_last es e ∙ ap (λ x. x + 1) s.0, formed_last es e s.1 (u.0 false), omega (arith, fit, deepest_last es e, s.2, u.1))

pub with_part_sound : (n : ℕ) (p : Parts) (r : Reading) → SoundAll n p.measure p.trees → Sound r → SoundAll (n + 1) (says.with_part bounded p r).measure (says.with_part bounded p r).trees
with_part_sound n p r s u = with_sound n p.measure r.measure p.trees r.tree (fits (capped (beside p.measure r.measure))) refl s u

pub none_sound : SoundAll 0 (says.no_parts bounded).measure (says.no_parts bounded).trees
none_sound = (refl, refl, omega arith)

pub one_part_sound : (r : Reading) → Sound r → SoundAll 1 (says.one_part bounded r).measure (says.one_part bounded r).trees
one_part_sound r u = with_part_sound 0 (says.no_parts bounded) r none_sound u

pub two_parts_sound : (q r : Reading) → Sound q → Sound r → SoundAll 2 (says.two_parts bounded q r).measure (says.two_parts bounded q r).trees
two_parts_sound q r s u = with_part_sound 1 (says.one_part bounded q) r (one_part_sound q s) u

abbrev Deepens : (List Expr → Expr) → Type 0
Deepens f = (es : List Expr) → depth (f es) ≡ 1 + highest (map depth es)

raised_sound : (n : ℕ) (f : List Expr → Expr) (m : Measure) (ts : Option (List Expr)) (k : Bool) → fits (capped (above m)) ≡ k → OfForm n f → Deepens f → SoundAll n m ts → SoundAt (capped (above m)) (option_map f (if k then ts else None))
raised_sound n f m ts false h of deep s = tt
raised_sound n f m None true h of deep s = tt
raised_sound n f m (Some es) true h of deep s =
    let fit = fits_deep (capped (above m)) h in
    (of es s.0 s.1, omega (arith, fit, deep es, s.2), fit)

pub over_sound : (n : ℕ) (f : List Expr → Expr) (p : Parts) → OfForm n f → Deepens f → SoundAll n p.measure p.trees → Sound (says.over bounded f p)
over_sound n f p of deep s = raised_sound n f p.measure p.trees (fits (capped (above p.measure))) refl of deep s

pub all_sound : (n : ℕ) (p : Parts) → 2 ≤ n → SoundAll n p.measure p.trees → Sound (says.all bounded p)
all_sound n p h s = over_sound n (λ es. expr.All es) p (all_form n h) depth-All s

any_sound : (n : ℕ) (p : Parts) → 2 ≤ n → SoundAll n p.measure p.trees → Sound (says.any bounded p)
any_sound n p h s = over_sound n (λ es. expr.Any es) p (any_form n h) depth-Any s

listed_sound : (q : Quant) (r : RelId) (p : Parts) → SoundAll (quant_arity q) p.measure p.trees → Sound (says.listed bounded q r p)
listed_sound q r p s = over_sound (quant_arity q) (λ es. expr.Over q r es) p (listed_form q r) (depth-Over q r) s

mapped_sound : (f : Expr → Expr) (m : Measure) (t : Option Expr) (k : Bool) → fits (capped (above m)) ≡ k → KeepsForm f → ((e : Expr) → depth (f e) ≡ 1 + depth e) → SoundAt m t → SoundAt (capped (above m)) (option_map f (if k then t else None))
mapped_sound f m t false h keeps deep s = tt
mapped_sound f m None true h keeps deep s = tt
mapped_sound f m (Some e) true h keeps deep s =
    let fit = fits_deep (capped (above m)) h in
    (keeps e s.0, omega (arith, fit, deep e, s.1), fit)

denial_sound : (r : Reading) → Sound r → Sound (says.denial bounded r)
denial_sound r s = mapped_sound (λ e. expr.Not e) r.measure r.tree (fits (capped (above r.measure))) refl not_form depth-Not s

pub kept_sound : (m : Measure) (e : Expr) (k : Bool) → fits m ≡ k → ((top : Bool) → has_form e top ≡ true) → (m.depth ≤ 64 → depth e ≤ m.depth) → SoundAt m (if k then Some e else None)
kept_sound m e false h f d = tt
kept_sound m e true h f d = let fit = fits_deep m h in (f, d fit, fit)

cap_deep : (d : ℕ) → min d 65 ≤ 64 → d ≤ min d 65
cap_deep d h = omega (arith, h)

membership_sound : (m : Member) → MemberForm bounded m → Sound (says.membership bounded m)
membership_sound m h = kept_sound (says.member_measure bounded m) m.expr (fits (says.member_measure bounded m)) refl h (cap_deep (depth m.expr))

met_sound : (m : Member) (r : Reading) → MemberForm bounded m → Sound r → Sound (says.all bounded (says.two_parts bounded (says.membership bounded m) r))
met_sound m r h s = all_sound 2 (says.two_parts bounded (says.membership bounded m) r) (omega arith) (two_parts_sound (says.membership bounded m) r (membership_sound m h) s)

unmet_sound : (m : Member) (r : Reading) → MemberForm bounded m → Sound r → Sound (says.any bounded (says.two_parts bounded (says.denial bounded (says.membership bounded m)) r))
unmet_sound m r h s =
    any_sound 2 (says.two_parts bounded (says.denial bounded (says.membership bounded m)) r) (omega arith)
    (two_parts_sound (says.denial bounded (says.membership bounded m)) r (denial_sound (says.membership bounded m) (membership_sound m h)) s)

all_found : (o : Option Member) (r : Reading) → ((m : Member) → o ≡ Some m → MemberForm bounded m) → Sound r → Sound (says.over_found bounded quant.ForAll o (r ∷ []))
all_found None r h s = tt
all_found (Some m) r h s = listed_sound quant.ForAll m.every (says.one_part bounded (says.any bounded (says.two_parts bounded (says.denial bounded (says.membership bounded m)) r))) (one_part_sound (says.any bounded (says.two_parts bounded (says.denial bounded (says.membership bounded m)) r)) (unmet_sound m r (h m refl) s))

some_found : (o : Option Member) (r : Reading) → ((m : Member) → o ≡ Some m → MemberForm bounded m) → Sound r → Sound (says.over_found bounded quant.Exists o (r ∷ []))
some_found None r h s = tt
some_found (Some m) r h s = listed_sound quant.Exists m.every (says.one_part bounded (says.all bounded (says.two_parts bounded (says.membership bounded m) r))) (one_part_sound (says.all bounded (says.two_parts bounded (says.membership bounded m) r)) (met_sound m r (h m refl) s))

for_all_sound : (ms : List Member) (x : Relation) (r : Reading) → MembersForm bounded ms → Sound r → Sound (says.over_relation bounded ms quant.ForAll x (r ∷ []))
for_all_sound ms (relation.Declared q) r h s = listed_sound quant.ForAll q (says.one_part bounded r) (one_part_sound r s)
for_all_sound ms (relation.Inferred n) r h s = all_found (slice_get ms n) r (λ m at. h n m at) s
for_all_sound ms relation.Unnamed r h s = tt

for_some_sound : (ms : List Member) (x : Relation) (r : Reading) → MembersForm bounded ms → Sound r → Sound (says.over_relation bounded ms quant.Exists x (r ∷ []))
for_some_sound ms (relation.Declared q) r h s = listed_sound quant.Exists q (says.one_part bounded r) (one_part_sound r s)
for_some_sound ms (relation.Inferred n) r h s = some_found (slice_get ms n) r (λ m at. h n m at) s
for_some_sound ms relation.Unnamed r h s = tt

head_sound : (ns : Names) (h : Head) (r : Reading) → MembersForm bounded ns.members → Sound r → Sound (head_reading ns h r)
head_sound ns head.All r m s = s
head_sound ns head.Any r m s = s
head_sound ns head.Not r m s = denial_sound r s
head_sound ns (head.ForAll x) r m s = for_all_sound ns.members x r m s
head_sound ns (head.Exists x) r m s = for_some_sound ns.members x r m s

joined_sound : (j : Joint) (n : ℕ) (p : Parts) → 2 ≤ n → SoundAll n p.measure p.trees → Sound (joined j p)
joined_sound joint.And n p h s = all_sound n p h s
joined_sound joint.Or n p h s = any_sound n p h s

-- ---- tables

-- at the top of a rule
abbrev pub SoundTop : Measure → Option Expr → Type 0
SoundTop m None = Unit {0}
SoundTop m (Some e) = (has_form e true ≡ true) × (depth e ≤ 64)

pub at_top : (m : Measure) (t : Option Expr) → SoundAt m t → SoundTop m t
at_top m None s = tt
at_top m (Some e) s = (s.0 true, omega (arith, s.1, s.2))

abbrev rows_formed : List Row → Bool
rows_formed rows = parts_have_form (map row_has_form rows)

abbrev pub SoundRows : Measure → Option (List Row) → Type 0
SoundRows m None = Unit {0}
SoundRows m (Some rows) = (rows_formed rows ≡ true) × (highest (map row_depth rows) ≤ m.depth)

rows_last : (rows : List Row) (r : Row) → rows_formed rows ≡ true → row_has_form r false ≡ true → rows_formed (rows ++ r ∷ []) ≡ true
rows_last [] r h k = and_from (row_has_form r false) true k refl
rows_last (x ∷ rows) r h k = and_from (row_has_form x false) (rows_formed (rows ++ r ∷ [])) (and_first (row_has_form x false) (rows_formed rows) h) (rows_last rows r (and_second (row_has_form x false) (rows_formed rows) h) k)

deepest_row : (rows : List Row) (r : Row) → highest (map row_depth (rows ++ r ∷ [])) ≡ max (highest (map row_depth rows)) (row_depth r)
deepest_row [] r = omega arith
deepest_row (x ∷ rows) r = omega (arith, deepest_row rows r)

row_form : (c v : Expr) → has_form c false ≡ true → has_form v false ≡ true → row_has_form (row_of c v) false ≡ true
row_form c v h k = below false _ _ (form-of_row (row_of c v)) (and_from (has_form c false) (has_form v false) h k)

case_sound : (sm cm vm : Measure) (rows : Option (List Row)) (c v : Option Expr) (k : Bool) → fits (capped (beside sm (row_measure cm vm))) ≡ k → SoundRows sm rows → SoundAt cm c → SoundAt vm v
    → SoundRows (capped (beside sm (row_measure cm vm))) (if k then with_row rows c v else None)
case_sound sm cm vm rows c v false h s p q = tt
case_sound sm cm vm None c v true h s p q = tt
case_sound sm cm vm (Some rows) None v true h s p q = tt
case_sound sm cm vm (Some rows) (Some c) None true h s p q = tt
case_sound sm cm vm (Some rows) (Some c) (Some v) true h s p q =
    let fit = fits_deep (capped (beside sm (row_measure cm vm))) h in
    (rows_last rows (row_of c v) s.0 (row_form c v (p.0 false) (q.0 false)), omega (arith, fit, deepest_row rows (row_of c v), s.1, p.1, q.1))

pub with_case_sound : (cs : Cases) (v c : Said) → SoundRows cs.measure cs.rows → Sound v.reading → Sound c.reading → SoundRows (with_case cs v c).measure (with_case cs v c).rows
with_case_sound cs v c s q p = case_sound cs.measure c.reading.measure v.reading.measure cs.rows c.reading.tree v.reading.tree (fits (cases_measure cs c.reading.measure v.reading.measure)) refl s p q

table_sound : (sm vm : Measure) (rows : Option (List Row)) (v : Option Expr) (k : Bool) → fits (capped (above (capped (beside sm vm)))) ≡ k → SoundRows sm rows → SoundAt vm v → SoundTop (capped (above (capped (beside sm vm)))) (if k then table_of rows v else None)
table_sound sm vm rows v false h s q = tt
table_sound sm vm None v true h s q = tt
table_sound sm vm (Some rows) None true h s q = tt
table_sound sm vm (Some rows) (Some v) true h s q =
    let fit = fits_deep (capped (above (capped (beside sm vm)))) h in
    (below true _ _ (form-Table rows v) (and_from (rows_formed rows) (has_form v false) s.0 (q.0 false)), omega (arith, fit, depth-Table rows v, s.1, q.1))

abbrev pub SoundSaid : Said → Type 0
SoundSaid s = SoundTop s.reading.measure s.reading.tree

pub tabled_sound : (cs : Cases) (v : Said) → SoundRows cs.measure cs.rows → Sound v.reading → SoundSaid (tabled cs v)
tabled_sound cs v s q = table_sound cs.measure v.reading.measure cs.rows v.reading.tree (fits (table_measure cs v.reading.measure)) refl s q

-- ---- the grammar of groups

-- what a line says as a line is sound
abbrev pub LineSound : Line → Type 0
LineSound l = (r : Reading) → l.says ≡ Some r → Sound r

abbrev pub LinesSound : List Line → Type 0
LinesSound [] = Unit {0}
LinesSound (l ∷ ls) = LineSound l × LinesSound ls

module _ (ns : Names) (members : MembersForm bounded ns.members) where
  abbrev SeveralSound : Several → Type 0
  SeveralSound y = (n : ℕ) × (1 ≤ n) × SoundAll n y.parts.measure y.parts.trees

  mutual
    item_sound : {k : ℕ} {j : Option Joint} {ls : List Line} {x : Said} {rest : List Line} → Item ns k j ls x rest → LinesSound ls → Sound x.reading × LinesSound rest
    item_sound (g.Item.line {x = x} p q e r) = λ s. (s.0 x r, s.1)
    item_sound (g.Item.last {h = h} {g = y} p e r d t a) = λ s. let c = grouped_sound d s.1 in (head_sound ns h y.said.reading members c.0, c.1)
    item_sound (g.Item.with_connector {h = h} {g = y} p e r d t q b w) = λ s. let c = grouped_sound d s.1 in (head_sound ns h y.said.reading members c.0, c.1.1)

    pub grouped_sound : {k : ℕ} {ls : List Line} {y : Group} {rest : List Line} → Grouped ns k ls y rest → LinesSound ls → Sound y.said.reading × LinesSound rest
    grouped_sound (g.Grouped.one d) = λ s. item_sound d s
    grouped_sound (g.Grouped.many {x = x} {y = y} j d m) = λ s.
        let c = item_sound d s in
        let e = more_sound m c.1 1 (omega arith) (one_part_sound x.reading c.0) in
        (joined_sound j e.0.0 y.parts e.0.1 e.0.2, e.1)

    more_sound : {k : ℕ} {j : Joint} {ls : List Line} {y z : Several} {rest : List Line} → More ns k j ls y z rest → LinesSound ls → (n : ℕ) → 1 ≤ n → SoundAll n y.parts.measure y.parts.trees
        → ((m : ℕ) × (2 ≤ m) × SoundAll m z.parts.measure z.parts.trees) × LinesSound rest
    more_sound (g.More.end {y = y} {x = x} d) = λ s n o h. let c = item_sound d s in ((n + 1, omega (arith, o), with_part_sound n y.parts x.reading h c.0), c.1)
    more_sound (g.More.more {y = y} {x = x} d m) = λ s n o h. let c = item_sound d s in more_sound m c.1 (n + 1) (omega arith) (with_part_sound n y.parts x.reading h c.0)

  case_of_sound : {ls : List Line} {cs ds : Cases} {rest : List Line} → Case ns ls cs ds rest → LinesSound ls → SoundRows cs.measure cs.rows → SoundRows ds.measure ds.rows × LinesSound rest
  case_of_sound (g.Case.case {l = l} {x = x} {g = y} {cs = cs} p e r d) = λ s h. let c = grouped_sound d s.1 in (with_case_sound cs (of_line l.number x) y.said h (s.0 x r) c.0, c.1)

  more_cases_sound : {ls : List Line} {cs : Cases} {x : Said} {rest : List Line} → MoreCases ns ls cs x rest → LinesSound ls → SoundRows cs.measure cs.rows → SoundSaid x
  more_cases_sound (g.MoreCases.otherwise {l = l} {x = x} {cs = cs} p e r) = λ s h. tabled_sound cs (of_line l.number x) h (s.0 x r)
  more_cases_sound (g.MoreCases.more_cases d m) = λ s h. let c = case_of_sound d s h in more_cases_sound m c.1 c.0

  pub all_cases_sound : {ls : List Line} {x : Said} {rest : List Line} → AllCases ns ls x rest → LinesSound ls → SoundSaid x
  all_cases_sound (g.AllCases.first_case d m) = λ s. let c = case_of_sound d s (refl, omega arith) in more_cases_sound m c.1 c.0
