-- What the grammar of groups spells is read by its table.
use Rattle.std.proofs.Common.{◌≡◌, ℕ, ◌+◌, List, [], ◌∷◌, Bool, true, false, ◌==◌, Option, Some, None, if◌then◌else◌, nat_lt, refl, sym, ap, subst, ◌∙◌, eq-eqb, arith}
use Rattle.opa_sentence.specs.declared.names.Names.{Names}
use Rattle.opa_sentence.specs.declared.reading.Reading.{Reading}
use Rattle.opa_sentence.specs.Moves.{done, call, stops, moves, goes}
use Rattle.opa_parse.specs.declared.line.Ending.TheVariants as ending
use Rattle.opa_parse.specs.declared.line.Head.{Head}
use Rattle.opa_parse.specs.declared.line.Line.{Line}
use Rattle.opa_parse.specs.declared.group.Cases.{Cases}
use Rattle.opa_parse.specs.declared.group.Frame.TheVariants as frame
use Rattle.opa_parse.specs.declared.group.Front.{Front}
use Rattle.opa_parse.specs.declared.group.Front.TheVariants as front
use Rattle.opa_parse.specs.declared.group.Group.{Group}
use Rattle.opa_parse.specs.declared.group.Items.{Items}
use Rattle.opa_parse.specs.declared.group.Joint.{Joint}
use Rattle.opa_parse.specs.declared.group.Joint.TheVariants as joint
use Rattle.opa_parse.specs.declared.group.Said.{Said}
use Rattle.opa_parse.specs.declared.group.Several.{Several}
use Rattle.opa_parse.specs.declared.group.Sort.{Sort}
use Rattle.opa_parse.specs.declared.group.Sort.TheVariants as sort
use Rattle.opa_parse.specs.Groups.{is_deeper, is_above, written, Item, Grouped, More, Case, MoreCases, AllCases}
use Rattle.opa_parse.specs.Groups as g
use Rattle.opa_parse.specs.GroupTable.{Step, Reads, items, ended, extended, go_on, after_line, line_item, head_item, item, connector, after_group, case_line, first_case, last_line, next_case, production}
use Rattle.opa_parse.specs.Sayings.{of_line, headed, takes, one_item, with_item, single, several, no_cases, with_case, tabled}

-- ---- branches

yes : (b : Bool) (x y : Step) → b ≡ true → (if b then x else y) ≡ x
yes b x y p = ap (λ t. if t then x else y) p

no : (b : Bool) (x y : Step) → b ≡ false → (if b then x else y) ≡ y
no b x y p = ap (λ t. if t then x else y) p

not_less : (m n : ℕ) → m ≡ n → nat_lt m n ≡ false
not_less m n p = grind (arith, p)

-- ---- what the table does

item_line : (i : Items) (l : Line) (ls : List Line) (x : Reading) → l.level ≡ i.level → is_deeper i.level ls ≡ false → l.says ≡ Some x → item i (l ∷ ls) ≡ after_line i (of_line l.number x) l.ending ls
item_line i l ls x p q r = yes (l.level == i.level) _ _ (eq-eqb l.level i.level p) ∙ no (is_deeper i.level ls) _ _ q ∙ ap (λ s. line_item i l s ls) r

item_head : (i : Items) (l : Line) (ls : List Line) (h : Head) → l.level ≡ i.level → is_deeper i.level ls ≡ true → l.ending ≡ ending.Nothing → l.head ≡ Some h
    → item i (l ∷ ls) ≡ call (sort.Item (items (i.level + 1) front.Nothing)) (frame.Head i l.number h) ls
item_head i l ls h p q e r =
    yes (l.level == i.level) _ _ (eq-eqb l.level i.level p) ∙ yes (is_deeper i.level ls) _ _ q ∙ ap (λ x. head_item i l x l.head ls) e ∙ ap (λ x. head_item i l ending.Nothing x ls) r

after_above : (i : Items) (s : Said) (ls : List Line) → is_above i.level ls ≡ true → after_group i s ls ≡ done (ended i.front s) ls
after_above i s [] h = refl
after_above i s (l ∷ ls) h = yes (nat_lt l.level i.level) _ _ h

by_connector : (i : Items) (s : Said) (j : Joint) (ls : List Line) → connector i s (written (Some j)) ls ≡ go_on i.level (extended i.front s j) ls
by_connector i s joint.And ls = refl
by_connector i s joint.Or ls = refl

after_connector : (i : Items) (s : Said) (c : Line) (ls : List Line) (j : Joint) → c.level ≡ i.level → c.is_bare ≡ true → c.ending ≡ written (Some j) → after_group i s (c ∷ ls) ≡ go_on i.level (extended i.front s j) ls
after_connector i s c ls j p b e =
    no (nat_lt c.level i.level) _ _ (not_less c.level i.level p) ∙ yes (c.level == i.level) _ _ (eq-eqb c.level i.level p) ∙ yes c.is_bare _ _ b ∙ ap (λ x. connector i s x ls) e ∙ by_connector i s j ls

by_ending : (i : Items) (s : Said) (j : Joint) (ls : List Line) → after_line i s (written (Some j)) ls ≡ go_on i.level (extended i.front s j) ls
by_ending i s joint.And ls = refl
by_ending i s joint.Or ls = refl

case_at : (cs : Cases) (l : Line) (ls : List Line) (x : Reading) → l.level ≡ 1 → l.ending ≡ ending.If → l.says ≡ Some x → next_case cs (l ∷ ls) ≡ call (sort.Item (items 2 front.Nothing)) (frame.Case cs (of_line l.number x)) ls
case_at cs l ls x p e r = yes (l.level == 1) _ _ (eq-eqb l.level 1 p) ∙ ap (λ y. last_line cs l y l.says ls) e ∙ ap (λ y. last_line cs l ending.If y ls) r

first_case_at : (l : Line) (ls : List Line) (x : Reading) → l.level ≡ 1 → l.ending ≡ ending.If → l.says ≡ Some x → first_case (l ∷ ls) ≡ call (sort.Item (items 2 front.Nothing)) (frame.Case no_cases (of_line l.number x)) ls
first_case_at l ls x p e r = yes (l.level == 1) _ _ (eq-eqb l.level 1 p) ∙ ap (λ y. case_line no_cases l y l.says ls) e ∙ ap (λ y. case_line no_cases l ending.If y ls) r

otherwise_at : (cs : Cases) (l : Line) (ls : List Line) (x : Reading) → l.level ≡ 1 → l.ending ≡ ending.Otherwise → l.says ≡ Some x → next_case cs (l ∷ ls) ≡ done (single (tabled cs (of_line l.number x))) ls
otherwise_at cs l ls x p e r = yes (l.level == 1) _ _ (eq-eqb l.level 1 p) ∙ ap (λ y. last_line cs l y l.says ls) e ∙ ap (λ y. last_line cs l ending.Otherwise y ls) r

extended_same : (j : Joint) (y : Several) (x : Said) → extended (front.Joined j y) x j ≡ Some (front.Joined j (with_item y x))
extended_same joint.And y x = refl
extended_same joint.Or y x = refl

-- ---- levels

-- the first line stands at this level
abbrev Stands : ℕ → List Line → Type 0
Stands k [] = ⊥
Stands k (l ∷ ls) = l.level ≡ k

below_is : (m n : ℕ) → n ≡ m + 1 → nat_lt m n ≡ true
below_is m n p = grind (arith, p)

deeper : (k : ℕ) (ls : List Line) → Stands (k + 1) ls → is_deeper k ls ≡ true
deeper k [] h = absurd h
deeper k (l ∷ ls) h = below_is k l.level h

module _ (ns : Names) where
  stands_item : {k : ℕ} {j : Option Joint} {ls : List Line} {x : Said} {rest : List Line} → Item ns k j ls x rest → Stands k ls
  stands_item (g.Item.line p q e r) = p
  stands_item (g.Item.last p e r d t a) = p
  stands_item (g.Item.with_connector p e r d t q b w) = p

  stands_grouped : {k : ℕ} {ls : List Line} {x : Group} {rest : List Line} → Grouped ns k ls x rest → Stands k ls
  stands_grouped (g.Grouped.one d) = stands_item d
  stands_grouped (g.Grouped.many j d m) = stands_item d

module _ (ns : Names) where
  abbrev Read : Sort → List Line → Group → List Line → Type 0
  Read = Reads ns

  -- an item goes on where it carries a connector, and else it ends its group
  abbrev Meaning : ℕ → Option Joint → List Line → Said → List Line → Type 0
  Meaning k None ls x rest = (f : Front) → Read (sort.Item (items k f)) ls (ended f x) rest
  Meaning k (Some j) ls x mid = (f h : Front) (y : Group) (rest : List Line) → extended f x j ≡ Some h → Read (sort.Item (items k h)) mid y rest → Read (sort.Item (items k f)) ls y rest

  goes_on : (k : ℕ) (s : Sort) (ls mid rest : List Line) (o : Option Front) (h : Front) (y : Group) → production s ls ≡ go_on k o mid → o ≡ Some h → Read (sort.Item (items k h)) mid y rest → Read s ls y rest
  goes_on k s ls mid rest o h y p q r = moves (sort.Item (items k h)) mid (p ∙ ap (λ x. go_on k x mid) q) r

  line_reads : (k : ℕ) (j : Option Joint) (l : Line) (ls : List Line) (x : Reading) → l.level ≡ k → is_deeper k ls ≡ false → l.ending ≡ written j → l.says ≡ Some x → Meaning k j (l ∷ ls) (of_line l.number x) ls
  line_reads k None l ls x p q e r = λ f. stops (item_line (items k f) l ls x p q r ∙ ap (λ y. after_line (items k f) (of_line l.number x) y ls) e)
  line_reads k (Some j) l ls x p q e r = λ f h y rest is d.
      goes_on k (sort.Item (items k f)) (l ∷ ls) ls rest (extended f (of_line l.number x) j) h y
      (item_line (items k f) l ls x p q r ∙ ap (λ z. after_line (items k f) (of_line l.number x) z ls) e ∙ by_ending (items k f) (of_line l.number x) j ls) is d

  -- after the group of a head
  head_reads : (k : ℕ) (f : Front) (l : Line) (ls : List Line) (h : Head) (x y : Group) (after rest : List Line) → l.level ≡ k → is_deeper k ls ≡ true → l.ending ≡ ending.Nothing → l.head ≡ Some h → takes h x.joint ≡ true
      → Read (sort.Item (items (k + 1) front.Nothing)) ls x after → Read (sort.After (items k f) (headed ns l.number h x.said)) after y rest → Read (sort.Item (items k f)) (l ∷ ls) y rest
  head_reads k f l ls h x y after rest p q e r t d b =
      goes (sort.Item (items (k + 1) front.Nothing)) (frame.Head (items k f) l.number h) ls x after (item_head (items k f) l ls h p q e r) d
      (subst (λ s. Read s after y rest) (sym (ap (λ u. if u then sort.After (items k f) (headed ns l.number h x.said) else sort.Wrong) t)) b)

  mutual
    pub item_reads : {k : ℕ} {j : Option Joint} {ls : List Line} {x : Said} {rest : List Line} → Item ns k j ls x rest → Meaning k j ls x rest
    item_reads (g.Item.line {k = k} {j = j} {l = l} {ls = ls} {x = x} p q e r) = line_reads k j l ls x p q e r
    item_reads (g.Item.last {k = k} {l = l} {ls = ls} {h = h} {g = x} {rest = rest} p e r d t a) = λ f.
        let s = headed ns l.number h x.said in
        head_reads k f l ls h x (ended f s) rest rest p (deeper k ls (stands_grouped ns d)) e r t (grouped_reads d) (stops (after_above (items k f) s rest a))
    item_reads (g.Item.with_connector {k = k} {j = j} {l = l} {c = c} {ls = ls} {h = h} {g = x} {rest = mid} p e r d t q b w) = λ f i y rest is m.
        let s = headed ns l.number h x.said in
        head_reads k f l ls h x y (c ∷ mid) rest p (deeper k ls (stands_grouped ns d)) e r t (grouped_reads d)
        (goes_on k (sort.After (items k f) s) (c ∷ mid) mid rest (extended f s j) i y (after_connector (items k f) s c mid j q b w) is m)

    pub grouped_reads : {k : ℕ} {ls : List Line} {x : Group} {rest : List Line} → Grouped ns k ls x rest → Read (sort.Item (items k front.Nothing)) ls x rest
    grouped_reads (g.Grouped.one d) = item_reads d front.Nothing
    grouped_reads (g.Grouped.many {x = x} {y = y} {rest = rest} j d m) = item_reads d front.Nothing (front.Joined j (one_item x)) (several j y) rest refl (more_reads m)

    pub more_reads : {k : ℕ} {j : Joint} {ls : List Line} {y z : Several} {rest : List Line} → More ns k j ls y z rest → Read (sort.Item (items k (front.Joined j y))) ls (several j z) rest
    more_reads (g.More.end {j = j} {y = y} d) = item_reads d (front.Joined j y)
    more_reads (g.More.more {j = j} {y = y} {z = z} {x = x} {rest = rest} d m) = item_reads d (front.Joined j y) (front.Joined j (with_item y x)) (several j z) rest (extended_same j y x) (more_reads m)

  case_reads : {ls : List Line} {cs ds : Cases} {mid : List Line} → Case ns ls cs ds mid → (y : Group) (rest : List Line) → Read (sort.Case ds) mid y rest → Read (sort.Case cs) ls y rest
  case_reads (g.Case.case {l = l} {ls = ls} {x = x} {g = z} {cs = cs} {rest = mid} p e r d) = λ y rest b.
      goes (sort.Item (items 2 front.Nothing)) (frame.Case cs (of_line l.number x)) ls z mid (case_at cs l ls x p e r) (grouped_reads d) b

  first_reads : {ls : List Line} {ds : Cases} {mid : List Line} (cs : Cases) → cs ≡ no_cases → Case ns ls cs ds mid → (y : Group) (rest : List Line) → Read (sort.Case ds) mid y rest → Read sort.FirstCase ls y rest
  first_reads cs none (g.Case.case {l = l} {ls = ls} {x = x} {g = z} {rest = mid} p e r d) = λ y rest b.
      goes (sort.Item (items 2 front.Nothing)) (frame.Case no_cases (of_line l.number x)) ls z mid (first_case_at l ls x p e r) (grouped_reads d)
      (subst (λ c. Read (sort.Case (with_case c (of_line l.number x) z.said)) mid y rest) none b)

  more_cases_reads : {ls : List Line} {cs : Cases} {s : Said} {rest : List Line} → MoreCases ns ls cs s rest → Read (sort.Case cs) ls (single s) rest
  more_cases_reads (g.MoreCases.otherwise {l = l} {ls = ls} {x = x} {cs = cs} p e r) = stops (otherwise_at cs l ls x p e r)
  more_cases_reads (g.MoreCases.more_cases {rest = rest} {s = s} d m) = case_reads d (single s) rest (more_cases_reads m)

  pub cases_reads : {ls : List Line} {s : Said} {rest : List Line} → AllCases ns ls s rest → Read sort.FirstCase ls (single s) rest
  cases_reads (g.AllCases.first_case {rest = rest} {s = s} d m) = first_reads no_cases refl d (single s) rest (more_cases_reads m)
