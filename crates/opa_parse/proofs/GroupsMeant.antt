-- What the table of groups reads is spelled by the grammar.
use Rattle.std.proofs.Common.{◌≡◌, ◌⊎◌, inl, inr, ℕ, ◌+◌, List, [], ◌∷◌, Bool, true, false, ◌==◌, Option, Some, None, if◌then◌else◌, nat_lt, refl, sym, subst, eqb-true}
use Rattle.opa_sentence.specs.declared.names.Names.{Names}
use Rattle.opa_sentence.specs.declared.reading.Reading.{Reading}
use Rattle.opa_sentence.specs.Moves.{fail, done, next, call, stops, moves, goes}
use Rattle.opa_parse.specs.declared.line.Ending.{Ending}
use Rattle.opa_parse.specs.declared.line.Ending.TheVariants as ending
use Rattle.opa_parse.specs.declared.line.Head.{Head}
use Rattle.opa_parse.specs.declared.line.Line.{Line}
use Rattle.opa_parse.specs.declared.group.Cases.{Cases}
use Rattle.opa_parse.specs.declared.group.Front.{Front}
use Rattle.opa_parse.specs.declared.group.Front.TheVariants as front
use Rattle.opa_parse.specs.declared.group.Group.{Group}
use Rattle.opa_parse.specs.declared.group.Items.{Items}
use Rattle.opa_parse.specs.declared.group.Joint.{Joint}
use Rattle.opa_parse.specs.declared.group.Joint.TheVariants as joint
use Rattle.opa_parse.specs.declared.group.Said.{Said}
use Rattle.opa_parse.specs.declared.group.Several.{Several}
use Rattle.opa_parse.specs.declared.group.Sort.{Sort}
use Rattle.opa_parse.specs.declared.group.Sort.TheVariants as sort
use Rattle.opa_parse.specs.Groups.{is_deeper, is_above, written, Item, Grouped, More, Case, MoreCases, AllCases}
use Rattle.opa_parse.specs.Groups as g
use Rattle.opa_parse.specs.GroupTable.{Step, Reads, items, ended, extended, go_on, after_line, line_item, head_item, item, connector, after_group, case_line, last_line, production, resume}
use Rattle.opa_parse.specs.Sayings.{of_line, headed, takes, one_item, with_item, single, several, no_cases, tabled}

module _ (ns : Names) where
  -- items from a front on are a group
  abbrev pub MeansItems : ℕ → Front → List Line → Group → List Line → Type 0
  MeansItems k front.Nothing ls y rest = Grouped ns k ls y rest
  MeansItems k (front.Joined j x) ls y rest = (z : Several) × (y ≡ several j z) × More ns k j ls x z rest

  abbrev Ends : Items → Said → List Line → Group → List Line → Type 0
  Ends i s ls y rest = (is_above i.level ls ≡ true) × (y ≡ ended i.front s) × (ls ≡ rest)

  abbrev GoesOn : Items → Said → List Line → Group → List Line → Type 0
  GoesOn i s ls y rest = (j : Joint) × (f : Front) × (c : Line) × (mid : List Line) × (ls ≡ c ∷ mid) × (c.level ≡ i.level) × (c.is_bare ≡ true) × (c.ending ≡ written (Some j)) × (extended i.front s j ≡ Some f) × MeansItems i.level f mid y rest

  abbrev pub Means : Sort → List Line → Group → List Line → Type 0
  Means (sort.Item i) ls y rest = MeansItems i.level i.front ls y rest
  Means (sort.After i s) ls y rest = Ends i s ls y rest ⊎ GoesOn i s ls y rest
  Means sort.FirstCase ls y rest = (s : Said) × (y ≡ single s) × AllCases ns ls s rest
  Means (sort.Case cs) ls y rest = (s : Said) × (y ≡ single s) × MoreCases ns ls cs s rest
  Means sort.Wrong ls y rest = ⊥

  -- the move says what the sort means
  abbrev Explains : Sort → List Line → Step → Type 0
  Explains s ls fail = Unit {0}
  Explains s ls (done y rest) = Means s ls y rest
  Explains s ls (next t ms) = (y : Group) (rest : List Line) → Means t ms y rest → Means s ls y rest
  Explains s ls (call part k mid) = (x : Group) (after : List Line) (y : Group) (rest : List Line) → Means part mid x after → Means (resume ns k x) after y rest → Means s ls y rest

  -- ---- an item and what follows it

  last_means : (k : ℕ) (f : Front) (ls : List Line) (s : Said) (rest : List Line) → Item ns k None ls s rest → MeansItems k f ls (ended f s) rest
  last_means k front.Nothing ls s rest d = g.Grouped.one d
  last_means k (front.Joined j x) ls s rest d = (with_item x s, refl, g.More.end d)

  begun : (k : ℕ) (j : Joint) (f : Front) (ls : List Line) (s : Said) (mid : List Line) (y : Group) (rest : List Line) → Some (front.Joined j (one_item s)) ≡ Some f → Item ns k (Some j) ls s mid → MeansItems k f mid y rest → Grouped ns k ls y rest
  begun k j f ls s mid y rest e d m =
      let h : front.Joined j (one_item s) ≡ f = cc e in
      let n : MeansItems k (front.Joined j (one_item s)) mid y rest = subst (λ x. MeansItems k x mid y rest) (sym h) m in
      subst (λ x. Grouped ns k ls x rest) (sym n.1) (g.Grouped.many j d n.2)

  kept_on : (k : ℕ) (j : Joint) (x : Several) (f : Front) (ls : List Line) (s : Said) (mid : List Line) (y : Group) (rest : List Line) → Some (front.Joined j (with_item x s)) ≡ Some f → Item ns k (Some j) ls s mid → MeansItems k f mid y rest
      → MeansItems k (front.Joined j x) ls y rest
  kept_on k j x f ls s mid y rest e d m =
      let h : front.Joined j (with_item x s) ≡ f = cc e in
      let n : MeansItems k (front.Joined j (with_item x s)) mid y rest = subst (λ z. MeansItems k z mid y rest) (sym h) m in
      (n.0, n.1, g.More.more d n.2)

  more_means : (k : ℕ) (i : Front) (j : Joint) (f : Front) (ls : List Line) (s : Said) (mid : List Line) (y : Group) (rest : List Line) → extended i s j ≡ Some f → Item ns k (Some j) ls s mid → MeansItems k f mid y rest → MeansItems k i ls y rest
  more_means k front.Nothing j f ls s mid y rest e d m = begun k j f ls s mid y rest e d m
  more_means k (front.Joined joint.And x) joint.And f ls s mid y rest e d m = kept_on k joint.And x f ls s mid y rest e d m
  more_means k (front.Joined joint.Or x) joint.Or f ls s mid y rest e d m = kept_on k joint.Or x f ls s mid y rest e d m
  more_means k (front.Joined joint.And x) joint.Or f ls s mid y rest e d m = absurd (cc e)
  more_means k (front.Joined joint.Or x) joint.And f ls s mid y rest e d m = absurd (cc e)

  -- ---- items

  go_on_explains : (i : Items) (j : Joint) (o : Option Front) (ls : List Line) (s : Said) (mid : List Line) → extended i.front s j ≡ o → Item ns i.level (Some j) ls s mid → Explains (sort.Item i) ls (go_on i.level o mid)
  go_on_explains i j None ls s mid e d = tt
  go_on_explains i j (Some f) ls s mid e d = λ y rest m. more_means i.level i.front j f ls s mid y rest e d m

  line_explains : (i : Items) (l : Line) (ls : List Line) (x : Reading) (e : Ending) → l.level ≡ i.level → is_deeper i.level ls ≡ false → l.says ≡ Some x → l.ending ≡ e → Explains (sort.Item i) (l ∷ ls) (after_line i (of_line l.number x) e ls)
  line_explains i l ls x ending.Nothing p q r is = last_means i.level i.front (l ∷ ls) (of_line l.number x) ls (g.Item.line p q is r)
  line_explains i l ls x ending.And p q r is = go_on_explains i joint.And (extended i.front (of_line l.number x) joint.And) (l ∷ ls) (of_line l.number x) ls refl (g.Item.line p q is r)
  line_explains i l ls x ending.Or p q r is = go_on_explains i joint.Or (extended i.front (of_line l.number x) joint.Or) (l ∷ ls) (of_line l.number x) ls refl (g.Item.line p q is r)
  line_explains i l ls x ending.If p q r is = tt
  line_explains i l ls x ending.Otherwise p q r is = tt

  line_item_explains : (i : Items) (l : Line) (ls : List Line) (x : Option Reading) → l.level ≡ i.level → is_deeper i.level ls ≡ false → l.says ≡ x → Explains (sort.Item i) (l ∷ ls) (line_item i l x ls)
  line_item_explains i l ls None p q r = tt
  line_item_explains i l ls (Some x) p q r = line_explains i l ls x l.ending p q r refl

  -- after the group of a head that takes it, or doesn't
  head_means : (i : Items) (l : Line) (ls : List Line) (h : Head) (x : Group) (after : List Line) (y : Group) (rest : List Line) (t : Bool) → l.level ≡ i.level → l.ending ≡ ending.Nothing → l.head ≡ Some h → takes h x.joint ≡ t → Grouped ns (i.level + 1) ls x after
      → Means (if t then sort.After i (headed ns l.number h x.said) else sort.Wrong) after y rest → MeansItems i.level i.front (l ∷ ls) y rest
  head_means i l ls h x after y rest false p e r t d m = absurd m
  head_means i l ls h x after y rest true p e r t d (inl m) =
      let s = headed ns l.number h x.said in
      let n : MeansItems i.level i.front (l ∷ ls) (ended i.front s) after = last_means i.level i.front (l ∷ ls) s after (g.Item.last p e r d t m.0) in
      subst (λ z. MeansItems i.level i.front (l ∷ ls) z rest) (sym m.1) (subst (λ z. MeansItems i.level i.front (l ∷ ls) (ended i.front s) z) m.2 n)
  head_means i l ls h x after y rest true p e r t d (inr m) =
      let s = headed ns l.number h x.said in
      let c : Line = m.2 in
      let mid : List Line = m.3 in
      let d' : Grouped ns (i.level + 1) ls x (c ∷ mid) = subst (λ z. Grouped ns (i.level + 1) ls x z) m.4 d in
      more_means i.level i.front m.0 m.1 (l ∷ ls) s mid y rest m.8 (g.Item.with_connector p e r d' t m.5 m.6 m.7) m.9

  head_explains : (i : Items) (l : Line) (ls : List Line) (e : Ending) (h : Option Head) → l.level ≡ i.level → l.ending ≡ e → l.head ≡ h → Explains (sort.Item i) (l ∷ ls) (head_item i l e h ls)
  head_explains i l ls ending.Nothing None p e r = tt
  head_explains i l ls ending.Nothing (Some h) p e r = λ x after y rest d m. head_means i l ls h x after y rest (takes h x.joint) p e r refl d m
  head_explains i l ls ending.And h p e r = tt
  head_explains i l ls ending.Or h p e r = tt
  head_explains i l ls ending.If h p e r = tt
  head_explains i l ls ending.Otherwise h p e r = tt

  item_branches : (i : Items) (l : Line) (ls : List Line) (a b : Bool) → (l.level == i.level) ≡ a → is_deeper i.level ls ≡ b → Explains (sort.Item i) (l ∷ ls) (if a then (if b then head_item i l l.ending l.head ls else line_item i l l.says ls) else fail)
  item_branches i l ls false b p q = tt
  item_branches i l ls true true p q = head_explains i l ls l.ending l.head (eqb-true l.level i.level p) refl refl
  item_branches i l ls true false p q = line_item_explains i l ls l.says (eqb-true l.level i.level p) q refl

  item_explains : (i : Items) (ls : List Line) → Explains (sort.Item i) ls (item i ls)
  item_explains i [] = tt
  item_explains i (l ∷ ls) = item_branches i l ls (l.level == i.level) (is_deeper i.level ls) refl refl

  -- ---- after a group

  connector_goes_on : (i : Items) (s : Said) (j : Joint) (o : Option Front) (l : Line) (ls : List Line) → l.level ≡ i.level → l.is_bare ≡ true → l.ending ≡ written (Some j) → extended i.front s j ≡ o → Explains (sort.After i s) (l ∷ ls) (go_on i.level o ls)
  connector_goes_on i s j None l ls p b e is = tt
  connector_goes_on i s j (Some f) l ls p b e is = λ y rest m. inr (j, f, l, ls, refl, p, b, e, is, m)

  connector_explains : (i : Items) (s : Said) (e : Ending) (l : Line) (ls : List Line) → l.level ≡ i.level → l.is_bare ≡ true → l.ending ≡ e → Explains (sort.After i s) (l ∷ ls) (connector i s e ls)
  connector_explains i s ending.Nothing l ls p b e = tt
  connector_explains i s ending.And l ls p b e = connector_goes_on i s joint.And (extended i.front s joint.And) l ls p b e refl
  connector_explains i s ending.Or l ls p b e = connector_goes_on i s joint.Or (extended i.front s joint.Or) l ls p b e refl
  connector_explains i s ending.If l ls p b e = tt
  connector_explains i s ending.Otherwise l ls p b e = tt

  after_branches : (i : Items) (s : Said) (l : Line) (ls : List Line) (a b c : Bool) → nat_lt l.level i.level ≡ a → (l.level == i.level) ≡ b → l.is_bare ≡ c
      → Explains (sort.After i s) (l ∷ ls) (if a then done (ended i.front s) (l ∷ ls) else (if b then (if c then connector i s l.ending ls else fail) else fail))
  after_branches i s l ls true b c p q r = inl (p, refl, refl)
  after_branches i s l ls false false c p q r = tt
  after_branches i s l ls false true false p q r = tt
  after_branches i s l ls false true true p q r = connector_explains i s l.ending l ls (eqb-true l.level i.level q) r refl

  after_explains : (i : Items) (s : Said) (ls : List Line) → Explains (sort.After i s) ls (after_group i s ls)
  after_explains i s [] = inl (refl, refl, refl)
  after_explains i s (l ∷ ls) = after_branches i s l ls (nat_lt l.level i.level) (l.level == i.level) l.is_bare refl refl refl

  -- ---- cases

  case_explains : (cs : Cases) (l : Line) (ls : List Line) (e : Ending) (x : Option Reading) → l.level ≡ 1 → l.ending ≡ e → l.says ≡ x → Explains (sort.Case cs) (l ∷ ls) (case_line cs l e x ls)
  case_explains cs l ls ending.Nothing x p e r = tt
  case_explains cs l ls ending.And x p e r = tt
  case_explains cs l ls ending.Or x p e r = tt
  case_explains cs l ls ending.If None p e r = tt
  case_explains cs l ls ending.If (Some x) p e r = λ z after y rest d m. (m.0, m.1, g.MoreCases.more_cases (g.Case.case p e r d) m.2)
  case_explains cs l ls ending.Otherwise x p e r = tt

  first_explains : (l : Line) (ls : List Line) (e : Ending) (x : Option Reading) → l.level ≡ 1 → l.ending ≡ e → l.says ≡ x → Explains sort.FirstCase (l ∷ ls) (case_line no_cases l e x ls)
  first_explains l ls ending.Nothing x p e r = tt
  first_explains l ls ending.And x p e r = tt
  first_explains l ls ending.Or x p e r = tt
  first_explains l ls ending.If None p e r = tt
  first_explains l ls ending.If (Some x) p e r = λ z after y rest d m. (m.0, m.1, g.AllCases.first_case (g.Case.case p e r d) m.2)
  first_explains l ls ending.Otherwise x p e r = tt

  last_explains : (cs : Cases) (l : Line) (ls : List Line) (e : Ending) (x : Option Reading) → l.level ≡ 1 → l.ending ≡ e → l.says ≡ x → Explains (sort.Case cs) (l ∷ ls) (last_line cs l e x ls)
  last_explains cs l ls ending.Nothing x p e r = tt
  last_explains cs l ls ending.And x p e r = tt
  last_explains cs l ls ending.Or x p e r = tt
  last_explains cs l ls ending.If None p e r = tt
  last_explains cs l ls ending.If (Some x) p e r = case_explains cs l ls ending.If (Some x) p e r
  last_explains cs l ls ending.Otherwise None p e r = tt
  last_explains cs l ls ending.Otherwise (Some x) p e r = (tabled cs (of_line l.number x), refl, g.MoreCases.otherwise p e r)

  next_branches : (cs : Cases) (l : Line) (ls : List Line) (a : Bool) → (l.level == 1) ≡ a → Explains (sort.Case cs) (l ∷ ls) (if a then last_line cs l l.ending l.says ls else fail)
  next_branches cs l ls false p = tt
  next_branches cs l ls true p = last_explains cs l ls l.ending l.says (eqb-true l.level 1 p) refl refl

  first_branches : (l : Line) (ls : List Line) (a : Bool) → (l.level == 1) ≡ a → Explains sort.FirstCase (l ∷ ls) (if a then case_line no_cases l l.ending l.says ls else fail)
  first_branches l ls false p = tt
  first_branches l ls true p = first_explains l ls l.ending l.says (eqb-true l.level 1 p) refl refl

  -- ---- all sorts

  explains : (s : Sort) (ls : List Line) → Explains s ls (production s ls)
  explains (sort.Item i) ls = item_explains i ls
  explains (sort.After i s) ls = after_explains i s ls
  explains sort.FirstCase [] = tt
  explains sort.FirstCase (l ∷ ls) = first_branches l ls (l.level == 1) refl
  explains (sort.Case cs) [] = tt
  explains (sort.Case cs) (l ∷ ls) = next_branches cs l ls (l.level == 1) refl
  explains sort.Wrong ls = tt

  pub means : {s : Sort} {ls : List Line} {y : Group} {rest : List Line} → Reads ns s ls y rest → Means s ls y rest
  means {s = s} {ls = ls} (stops p) = subst (Explains s ls) p (explains s ls)
  means {s = s} {ls = ls} {y = y} {rest = rest} (moves t ms p d) = let e : Explains s ls (next t ms) = subst (Explains s ls) p (explains s ls) in e y rest (means d)
  means {s = s} {ls = ls} {y = y} {rest = rest} (goes part k mid x after p d b) = let e : Explains s ls (call part k mid) = subst (Explains s ls) p (explains s ls) in e x after y rest (means d) (means b)

  pub grouped_means : (k : ℕ) (ls : List Line) (y : Group) (rest : List Line) → Reads ns (sort.Item (items k front.Nothing)) ls y rest → Grouped ns k ls y rest
  grouped_means k ls y rest d = means d

  pub cases_mean : (ls : List Line) (y : Group) (rest : List Line) → Reads ns sort.FirstCase ls y rest → (s : Said) × (y ≡ single s) × AllCases ns ls s rest
  cases_mean ls y rest d = means d
