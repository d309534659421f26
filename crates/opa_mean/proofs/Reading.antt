-- What a rule can look at fixes its value on the days of the calendar.
use Rattle.std.proofs.Common.{◌≡◌, ℕ, ◌<◌, List, [], ◌∷◌, ◌++◌, Bool, true, false, cond, Option, None, Some, refl, sym, ◌∙◌, ap, subst}
use Rattle.std.specs.Prelude.{map, flat_map, find, is_some, ◌==◌, ◌||◌}
use Rattle.std.specs.List.{list_any, AllByRecursion}
use Rattle.std.proofs.lemmas.List.{append_assoc}
use Rattle.opa_date.specs.declared.TheConstants.{DAYS}
use Rattle.opa_value.specs.Truth.{all_of, any_of, not_of, strict}
use Rattle.opa_value.specs.declared.value.Value.{Value}
use Rattle.opa_model.specs.declared.ids.AttrId.{AttrId}
use Rattle.opa_model.specs.declared.ids.RelId.{RelId}
use Rattle.opa_case.specs.Shapes.{Shape}
use Rattle.opa_cells.specs.declared.instance.InstanceId.{InstanceId}
use Rattle.opa_cells.specs.Instances.{named}
use Rattle.opa_tree.specs.declared.kinds.Quant.{Quant}
use Rattle.opa_tree.specs.declared.kinds.WinKind.{WinKind}
use Rattle.opa_tree.specs.declared.kinds.WinKind.TheVariants as win
use Rattle.opa_tree.specs.declared.expr.Expr.{Expr}
use Rattle.opa_tree.specs.declared.expr.Row.{Row}
use Rattle.opa_tree.specs.declared.expr.Expr.TheOpen.{Expr-F, Const, Attr, All, Any, Not, Op, Certain, Known, Over, Window, Rolling, Table}
use Rattle.opa_tree.proofs.Induction.{by_parts, Part, RowPart, without}
use Rattle.opa_tree.specs.declared.expr.Expr.TheViews.{roll-Expr}
use Rattle.opa_tree.specs.declared.expr.Expr.TheFolds.{map-Expr, fold-Row, fold-roll-Expr, fold_out-Row}
use Rattle.opa_case.specs.declared.question.Question.{Question}
use Rattle.opa_case.specs.declared.question.Question.TheVariants as question
use Rattle.opa_window.specs.Folds.{sum_value, greatest, least, run_value}
use Rattle.opa_window.specs.Windows.{value_at, in_window, before, on_or_after, years_since}
use Rattle.opa_window.proofs.CalendarDays.{reads_the_calendar}
use Rattle.opa_mean.specs.Looks.{Look}
use Rattle.opa_mean.specs.Meaning.{Meaning, RowMeaning, tree_step, value, each, at_place, certain_of, known_of, choose, item, quant_of, over, window, rolling, table}
use Rattle.opa_mean.specs.Operations.{op_of}
use Rattle.opa_mean.specs.Places.{owner_of, place, chain, is_of}
use Rattle.opa_mean.specs.Reads.{Reads, at_place_reads, all_reads, listed_reads, reads_step, reads_row, reads}
use Rattle.opa_mean.proofs.Chains.{place_entity}
use Rattle.opa_mean.proofs.Everywhere.{all_parts}
use Rattle.opa_mean.proofs.Levels.{row_value, value-roll, row_value-is}

-- the entities of an instance and its containers
abbrev pub lineage : (InstanceId → Option InstanceId) → InstanceId → List ℕ
lineage up i = map (λ j. j.entity.0) (chain up i)

found_one : (e : ℕ) (xs : List InstanceId) → is_some (find (is_of e) xs) ≡ list_any (λ n. n == e) (map (λ j. j.entity.0) xs)
found_one e [] = refl
found_one e (x ∷ xs) = go (x.entity.0 == e) (found_one e xs)
  where
    go : (b : Bool) → is_some (find (is_of e) xs) ≡ list_any (λ n. n == e) (map (λ j. j.entity.0) xs) → is_some (cond b (Some x) (find (is_of e) xs)) ≡ (b || list_any (λ n. n == e) (map (λ j. j.entity.0) xs))
    go true h = refl
    go false h = h

map_both : (xs ys : List InstanceId) → map (λ j. j.entity.0) (xs ++ ys) ≡ map (λ j. j.entity.0) xs ++ map (λ j. j.entity.0) ys
map_both [] ys = refl
map_both (x ∷ xs) ys = ap (λ ns. x.entity.0 ∷ ns) (map_both xs ys)

-- where the lineages are the same, a place is met by both or by none
module _ (up up' : InstanceId → Option InstanceId) where
  lineages : (enclosing : List InstanceId) → AllByRecursion (λ i. lineage up' i ≡ lineage up i) enclosing → map (λ j. j.entity.0) (flat_map (chain up') enclosing) ≡ map (λ j. j.entity.0) (flat_map (chain up) enclosing)
  lineages [] h = refl
  lineages (i ∷ enclosing) h =
      map_both (chain up' i) (flat_map (chain up') enclosing) ∙ ap (λ ns. ns ++ map (λ j. j.entity.0) (flat_map (chain up') enclosing)) h.0
      ∙ ap (λ ns. lineage up i ++ ns) (lineages enclosing h.1) ∙ sym (map_both (chain up i) (flat_map (chain up) enclosing))

  pub both_met : (enclosing : List InstanceId) → AllByRecursion (λ i. lineage up' i ≡ lineage up i) enclosing → (e : ℕ) → is_some (place up enclosing e) ≡ is_some (place up' enclosing e)
  both_met enclosing h e = found_one e (flat_map (chain up) enclosing) ∙ sym (ap (λ ns. list_any (λ n. n == e) ns) (lineages enclosing h)) ∙ sym (found_one e (flat_map (chain up') enclosing))

module _ (s : Shape) (l l' : Look) (Within Live : InstanceId → Type 0)
    (met : (enclosing : List InstanceId) → AllByRecursion Within enclosing → (e : ℕ) → is_some (place l.container enclosing e) ≡ is_some (place l'.container enclosing e))
    (live : (enclosing : List InstanceId) → AllByRecursion Within enclosing → (e : ℕ) (i : InstanceId) → place l.container enclosing e ≡ Some i → Live i)
    (listed_within : (r : RelId) (i : InstanceId) (names : List (List ℕ)) → Live i → l.members r i ≡ Some names → l'.members r i ≡ Some names → AllByRecursion (λ n. Within (named (s.target r) n)) names) where
  abbrev AllWithin : List InstanceId → Type 0
  AllWithin is = AllByRecursion Within is

  -- at an instance that can be a place, the line, or the list, is the same by both looks
  abbrev pub Alike : Question → Type 0
  Alike (question.Attr a i) = Live i → i.entity.0 ≡ owner_of s a → (d : ℕ) → d < DAYS → l.value a i d ≡ l'.value a i d
  Alike (question.Members r i) = Live i → l.members r i ≡ l'.members r i

  abbrev AllAlike : List Question → Type 0
  AllAlike qs = AllByRecursion Alike qs

  abbrev split : (xs ys : List Question) → AllAlike (xs ++ ys) → AllAlike xs × AllAlike ys
  split = all_parts Alike

  abbrev ours : Expr → Reads
  ours = reads s l.members l.container

  abbrev theirs : Expr → Reads
  theirs = reads s l'.members l'.container

  abbrev SameAt : Expr → List InstanceId → Type 0
  SameAt e enclosing = (d : ℕ) → d < DAYS → value s l e enclosing d ≡ value s l' e enclosing d

  -- what stands behind the reads of a tree is the same too
  abbrev Read : Expr → Type 0
  Read e = (enclosing : List InstanceId) → AllWithin enclosing → (rest rest' : List Question) → ours e enclosing ++ rest ≡ theirs e enclosing ++ rest' → AllAlike (ours e enclosing) → SameAt e enclosing × (rest ≡ rest')

  abbrev Parts : Type 0
  Parts = List (Part Read)

  abbrev olds : Parts → List Meaning
  olds ps = map (value s l) (map (λ p. p.0) ps)

  abbrev news : Parts → List Meaning
  news ps = map (value s l') (map (λ p. p.0) ps)

  abbrev our_parts : Parts → List Reads
  our_parts ps = map ours (map (λ p. p.0) ps)

  abbrev their_parts : Parts → List Reads
  their_parts ps = map theirs (map (λ p. p.0) ps)

  abbrev AllSame : Parts → List InstanceId → Type 0
  AllSame ps enclosing = AllByRecursion (λ p. SameAt p.0 enclosing) ps

  assoc : (xs ys rest xs' ys' rest' : List Question) → (xs ++ ys) ++ rest ≡ (xs' ++ ys') ++ rest' → xs ++ (ys ++ rest) ≡ xs' ++ (ys' ++ rest')
  assoc xs ys rest xs' ys' rest' e = sym (append_assoc xs ys rest) ∙ e ∙ append_assoc xs' ys' rest'

  parts_read : (ps : Parts) (enclosing : List InstanceId) → AllWithin enclosing → (rest rest' : List Question) → all_reads (our_parts ps) enclosing ++ rest ≡ all_reads (their_parts ps) enclosing ++ rest' → AllAlike (all_reads (our_parts ps) enclosing) → AllSame ps enclosing × (rest ≡ rest')
  parts_read [] enclosing w rest rest' e h = (tt, e)
  parts_read (p ∷ ps) enclosing w rest rest' e h =
      let two = split (ours p.0 enclosing) _ h in
      let one = p.1 enclosing w (all_reads (our_parts ps) enclosing ++ rest) (all_reads (their_parts ps) enclosing ++ rest') (assoc (ours p.0 enclosing) (all_reads (our_parts ps) enclosing) rest (theirs p.0 enclosing) (all_reads (their_parts ps) enclosing) rest' e) two.0 in
      let more = parts_read ps enclosing w rest rest' one.1 two.1 in
      ((one.0, more.0), more.1)

  each_same : (ps : Parts) (enclosing : List InstanceId) → AllSame ps enclosing → (d : ℕ) → d < DAYS → each (olds ps) enclosing d ≡ each (news ps) enclosing d
  each_same [] enclosing h d lt = refl
  each_same (p ∷ ps) enclosing h d lt = ap (λ v. v ∷ each (olds ps) enclosing d) (h.0 d lt) ∙ ap (λ vs. value s l' p.0 enclosing d ∷ vs) (each_same ps enclosing h.1 d lt)

  -- an attribute at its place
  attr_read : (a : AttrId) (o o' : Option InstanceId) → ((i : InstanceId) → o ≡ Some i → Live i × (i.entity.0 ≡ owner_of s a)) → is_some o ≡ is_some o' → (rest rest' : List Question) → at_place_reads o (λ i. question.Attr a i ∷ []) ++ rest ≡ at_place_reads o' (λ i. question.Attr a i ∷ []) ++ rest' → AllAlike (at_place_reads o (λ i. question.Attr a i ∷ []))
      → ((d : ℕ) → d < DAYS → at_place o (λ i. l.value a i d) ≡ at_place o' (λ i. l'.value a i d)) × (rest ≡ rest')
  attr_read a None None at m rest rest' e h = (λ d lt. refl, e)
  attr_read a None (Some j) at m rest rest' e h = absurd (cc m)
  attr_read a (Some i) None at m rest rest' e h = absurd (cc m)
  attr_read a (Some i) (Some j) at m rest rest' e h = let same : i ≡ j = cc e in let tails : rest ≡ rest' = cc e in (λ d lt. h.0 (at i refl).0 (at i refl).1 d lt ∙ ap (λ k. l'.value a k d) same, tails)

  -- the listed instances
  names_read : (q : Quant) (t : ℕ) (ps : Parts) (names : List (List ℕ)) → AllByRecursion (λ n. Within (named t n)) names → (enclosing : List InstanceId) → AllWithin enclosing → (rest rest' : List Question)
      → flat_map (λ n. all_reads (our_parts ps) (named t n ∷ enclosing)) names ++ rest ≡ flat_map (λ n. all_reads (their_parts ps) (named t n ∷ enclosing)) names ++ rest'
      → AllAlike (flat_map (λ n. all_reads (our_parts ps) (named t n ∷ enclosing)) names)
      → ((d : ℕ) → d < DAYS → map (λ n. item q (each (olds ps) (named t n ∷ enclosing) d)) names ≡ map (λ n. item q (each (news ps) (named t n ∷ enclosing) d)) names) × (rest ≡ rest')
  names_read q t ps [] ws enclosing w rest rest' e h = (λ d lt. refl, e)
  names_read q t ps (n ∷ names) ws enclosing w rest rest' e h =
      let two = split (all_reads (our_parts ps) (named t n ∷ enclosing)) _ h in
      let one = parts_read ps (named t n ∷ enclosing) (ws.0, w) (flat_map (λ n. all_reads (our_parts ps) (named t n ∷ enclosing)) names ++ rest) (flat_map (λ n. all_reads (their_parts ps) (named t n ∷ enclosing)) names ++ rest')
      (assoc (all_reads (our_parts ps) (named t n ∷ enclosing)) (flat_map (λ n. all_reads (our_parts ps) (named t n ∷ enclosing)) names) rest (all_reads (their_parts ps) (named t n ∷ enclosing)) (flat_map (λ n. all_reads (their_parts ps) (named t n ∷ enclosing)) names) rest' e) two.0 in
      let more = names_read q t ps names ws.1 enclosing w rest rest' one.1 two.1 in (
        λ d lt. ap (λ v. v ∷ map (λ n. item q (each (olds ps) (named t n ∷ enclosing) d)) names) (ap (item q) (each_same ps (named t n ∷ enclosing) one.0 d lt))
            ∙ ap (λ vs. item q (each (news ps) (named t n ∷ enclosing) d) ∷ vs) (more.0 d lt),
        more.1,
      )

  list_read : (q : Quant) (t : ℕ) (ps : Parts) (m : Option (List (List ℕ))) → ((names : List (List ℕ)) → m ≡ Some names → AllByRecursion (λ n. Within (named t n)) names) → (enclosing : List InstanceId) → AllWithin enclosing → (rest rest' : List Question)
      → listed_reads m (λ n. all_reads (our_parts ps) (named t n ∷ enclosing)) ++ rest ≡ listed_reads m (λ n. all_reads (their_parts ps) (named t n ∷ enclosing)) ++ rest'
      → AllAlike (listed_reads m (λ n. all_reads (our_parts ps) (named t n ∷ enclosing)))
      → ((d : ℕ) → d < DAYS → over q t m (olds ps) enclosing d ≡ over q t m (news ps) enclosing d) × (rest ≡ rest')
  list_read q t ps None ws enclosing w rest rest' e h = (λ d lt. refl, e)
  list_read q t ps (Some names) ws enclosing w rest rest' e h = let both = names_read q t ps names (ws names refl) enclosing w rest rest' e h in (λ d lt. ap (quant_of q) (both.0 d lt), both.1)

  over_read : (q : Quant) (r : RelId) (ps : Parts) (o o' : Option InstanceId) → ((i : InstanceId) → o ≡ Some i → Live i) → is_some o ≡ is_some o' → (enclosing : List InstanceId) → AllWithin enclosing → (rest rest' : List Question)
      → at_place_reads o (λ i. question.Members r i ∷ listed_reads (l.members r i) (λ n. all_reads (our_parts ps) (named (s.target r) n ∷ enclosing))) ++ rest ≡ at_place_reads o' (λ i. question.Members r i ∷ listed_reads (l'.members r i) (λ n. all_reads (their_parts ps) (named (s.target r) n ∷ enclosing))) ++ rest'
      → AllAlike (at_place_reads o (λ i. question.Members r i ∷ listed_reads (l.members r i) (λ n. all_reads (our_parts ps) (named (s.target r) n ∷ enclosing))))
      → ((d : ℕ) → d < DAYS → at_place o (λ i. over q (s.target r) (l.members r i) (olds ps) enclosing d) ≡ at_place o' (λ i. over q (s.target r) (l'.members r i) (news ps) enclosing d)) × (rest ≡ rest')
  over_read q r ps None None at m enclosing w rest rest' e h = (λ d lt. refl, e)
  over_read q r ps None (Some j) at m enclosing w rest rest' e h = absurd (cc m)
  over_read q r ps (Some i) None at m enclosing w rest rest' e h = absurd (cc m)
  over_read q r ps (Some i) (Some j) at m enclosing w rest rest' e h =
      let same : i ≡ j = cc e in
      let alike : l.members r i ≡ l'.members r i = h.0 (at i refl) in
      let lists : l.members r i ≡ l'.members r j = alike ∙ ap (l'.members r) same in
      let tails : listed_reads (l.members r i) (λ n. all_reads (our_parts ps) (named (s.target r) n ∷ enclosing)) ++ rest ≡ listed_reads (l'.members r j) (λ n. all_reads (their_parts ps) (named (s.target r) n ∷ enclosing)) ++ rest' = cc e in
      let both = list_read q (s.target r) ps (l.members r i) (λ names is. listed_within r i names (at i refl) is (sym alike ∙ is)) enclosing w rest rest'
      (tails ∙ ap (λ x. listed_reads x (λ n. all_reads (their_parts ps) (named (s.target r) n ∷ enclosing)) ++ rest') (sym lists)) h.1 in
      (λ d lt. both.0 d lt ∙ ap (λ x. over q (s.target r) x (news ps) enclosing d) lists, both.1)

  -- windows
  span_same : (fold : List Value → Value) (p q r : Part Read) (enclosing : List InstanceId) → AllSame (p ∷ q ∷ r ∷ []) enclosing → (d : ℕ) → d < DAYS
      → in_window fold (value s l r.0 enclosing) (value s l p.0 enclosing d) (value s l q.0 enclosing d) ≡ in_window fold (value s l' r.0 enclosing) (value s l' p.0 enclosing d) (value s l' q.0 enclosing d)
  span_same fold p q r enclosing h d lt =
      reads_the_calendar.windows fold (value s l r.0 enclosing) (value s l' r.0 enclosing) h.1.1.0 (value s l p.0 enclosing d) (value s l q.0 enclosing d)
      ∙ ap (λ v. in_window fold (value s l' r.0 enclosing) v (value s l q.0 enclosing d)) (h.0 d lt) ∙ ap (λ v. in_window fold (value s l' r.0 enclosing) (value s l' p.0 enclosing d) v) (h.1.0 d lt)

  window_same : (k : WinKind) (ps : Parts) (enclosing : List InstanceId) → AllSame ps enclosing → (d : ℕ) → d < DAYS → window k (olds ps) enclosing d ≡ window k (news ps) enclosing d
  window_same win.Before (p ∷ []) enclosing h d lt = ap (λ v. before v d) (h.0 d lt)
  window_same win.OnOrAfter (p ∷ []) enclosing h d lt = ap (λ v. on_or_after v d) (h.0 d lt)
  window_same win.YearsSince (p ∷ []) enclosing h d lt = ap (λ v. years_since v d) (h.0 d lt)
  window_same win.ValueAt (p ∷ q ∷ []) enclosing h d lt = reads_the_calendar.dates (value s l q.0 enclosing) (value s l' q.0 enclosing) h.1.0 (value s l p.0 enclosing d) ∙ ap (value_at (value s l' q.0 enclosing)) (h.0 d lt)
  window_same win.Always (p ∷ q ∷ r ∷ []) enclosing h d lt = span_same all_of p q r enclosing h d lt
  window_same win.Sometimes (p ∷ q ∷ r ∷ []) enclosing h d lt = span_same any_of p q r enclosing h d lt
  window_same win.DailySum (p ∷ q ∷ r ∷ []) enclosing h d lt = span_same (strict sum_value) p q r enclosing h d lt
  window_same win.Maximum (p ∷ q ∷ r ∷ []) enclosing h d lt = span_same (strict greatest) p q r enclosing h d lt
  window_same win.Minimum (p ∷ q ∷ r ∷ []) enclosing h d lt = span_same (strict least) p q r enclosing h d lt
  window_same win.ConsecutiveDays (p ∷ q ∷ r ∷ []) enclosing h d lt = span_same (strict run_value) p q r enclosing h d lt
  window_same _ _ enclosing h d lt = refl

  rolling_same : (b : Bool) (n : ℕ) (f g : ℕ → Value) → ((d : ℕ) → d < DAYS → f d ≡ g d) → (d : ℕ) → d < DAYS → rolling b n f d ≡ rolling b n g d
  rolling_same true n f g h d lt = reads_the_calendar.rolling_all n f g h d lt
  rolling_same false n f g h d lt = reads_the_calendar.rolling_any n f g h d lt

  -- rows
  unfoldable our_row : Row → Reads
  our_row = fold-Row Reads Reads (reads_step s l.members l.container) (reads_row s l.members l.container)

  unfoldable their_row : Row → Reads
  their_row = fold-Row Reads Reads (reads_step s l'.members l'.container) (reads_row s l'.members l'.container)

  ours-roll : (x : Expr-F Expr Row) → ours (roll-Expr x) ≡ reads_step s l.members l.container (map-Expr Expr Row Reads Reads ours our_row x)
  unfolding reads our_row
  ours-roll = fold-roll-Expr Reads Reads (reads_step s l.members l.container) (reads_row s l.members l.container)

  theirs-roll : (x : Expr-F Expr Row) → theirs (roll-Expr x) ≡ reads_step s l'.members l'.container (map-Expr Expr Row Reads Reads theirs their_row x)
  unfolding reads their_row
  theirs-roll = fold-roll-Expr Reads Reads (reads_step s l'.members l'.container) (reads_row s l'.members l'.container)

  our_row-is : (r : Row) → our_row r ≡ (λ enclosing. ours r.cond enclosing ++ ours r.value enclosing)
  unfolding reads our_row
  our_row-is r = fold_out-Row Reads Reads (reads_step s l.members l.container) (reads_row s l.members l.container) r

  their_row-is : (r : Row) → their_row r ≡ (λ enclosing. theirs r.cond enclosing ++ theirs r.value enclosing)
  unfolding reads their_row
  their_row-is r = fold_out-Row Reads Reads (reads_step s l'.members l'.container) (reads_row s l'.members l'.container) r

  abbrev SameRow : Row → List InstanceId → Type 0
  SameRow r enclosing = SameAt r.cond enclosing × SameAt r.value enclosing

  rows_read : (rs : List (RowPart Read)) (enclosing : List InstanceId) → AllWithin enclosing → (rest rest' : List Question) → all_reads (map our_row (map (λ r. r.0) rs)) enclosing ++ rest ≡ all_reads (map their_row (map (λ r. r.0) rs)) enclosing ++ rest' → AllAlike (all_reads (map our_row (map (λ r. r.0) rs)) enclosing) → AllByRecursion (λ r. SameRow r.0 enclosing) rs × (rest ≡ rest')
  rows_read [] enclosing w rest rest' e h = (tt, e)
  rows_read (r ∷ rs) enclosing w rest rest' e h =
      let more = all_reads (map our_row (map (λ r. r.0) rs)) enclosing in
      let more' = all_reads (map their_row (map (λ r. r.0) rs)) enclosing in
      let h' : AllAlike ((ours r.0.cond enclosing ++ ours r.0.value enclosing) ++ more) = subst (λ (f : Reads). AllAlike (f enclosing ++ more)) (our_row-is r.0) h in
      let two = split (ours r.0.cond enclosing ++ ours r.0.value enclosing) more h' in
      let parts = split (ours r.0.cond enclosing) _ two.0 in
      let e' : ((ours r.0.cond enclosing ++ ours r.0.value enclosing) ++ more) ++ rest ≡ ((theirs r.0.cond enclosing ++ theirs r.0.value enclosing) ++ more') ++ rest' =
      sym (ap (λ (f : Reads). (f enclosing ++ more) ++ rest) (our_row-is r.0)) ∙ e ∙ ap (λ (f : Reads). (f enclosing ++ more') ++ rest') (their_row-is r.0) in
      let e2 = assoc (ours r.0.cond enclosing ++ ours r.0.value enclosing) more rest (theirs r.0.cond enclosing ++ theirs r.0.value enclosing) more' rest' e' in
      let cond_is = r.1.0 enclosing w (ours r.0.value enclosing ++ (more ++ rest)) (theirs r.0.value enclosing ++ (more' ++ rest')) (assoc (ours r.0.cond enclosing) (ours r.0.value enclosing) (more ++ rest) (theirs r.0.cond enclosing) (theirs r.0.value enclosing) (more' ++ rest') e2) parts.0 in
      let value_is = r.1.1 enclosing w (more ++ rest) (more' ++ rest') cond_is.1 parts.1 in
      let others = rows_read rs enclosing w rest rest' value_is.1 two.1 in
      (((cond_is.0, value_is.0), others.0), others.1)

  table_same : (rs : List (RowPart Read)) (m m' : Meaning) (enclosing : List InstanceId) → AllByRecursion (λ r. SameRow r.0 enclosing) rs → (d : ℕ) → d < DAYS → m enclosing d ≡ m' enclosing d → table (map (row_value s l) (map (λ r. r.0) rs)) m enclosing d ≡ table (map (row_value s l') (map (λ r. r.0) rs)) m' enclosing d
  table_same [] m m' enclosing h d lt e = e
  table_same (r ∷ rs) m m' enclosing h d lt e =
      ap (λ (a : RowMeaning). choose (a.cond enclosing d) (a.value enclosing d) (table (map (row_value s l) (map (λ r. r.0) rs)) m enclosing d)) (row_value-is s l r.0)
      ∙ ap (λ v. choose v (value s l r.0.value enclosing d) (table (map (row_value s l) (map (λ r. r.0) rs)) m enclosing d)) (h.0.0 d lt)
      ∙ ap (λ v. choose (value s l' r.0.cond enclosing d) v (table (map (row_value s l) (map (λ r. r.0) rs)) m enclosing d)) (h.0.1 d lt)
      ∙ ap (λ v. choose (value s l' r.0.cond enclosing d) (value s l' r.0.value enclosing d) v) (table_same rs m m' enclosing h.1 d lt e)
      ∙ sym (ap (λ (a : RowMeaning). choose (a.cond enclosing d) (a.value enclosing d) (table (map (row_value s l') (map (λ r. r.0) rs)) m' enclosing d)) (row_value-is s l' r.0))

  abbrev old : Expr-F (Part Read) (RowPart Read) → Expr-F Meaning RowMeaning
  old z = map-Expr Expr Row Meaning RowMeaning (value s l) (row_value s l) (without Read z)

  abbrev new : Expr-F (Part Read) (RowPart Read) → Expr-F Meaning RowMeaning
  new z = map-Expr Expr Row Meaning RowMeaning (value s l') (row_value s l') (without Read z)

  abbrev our_level : Expr-F (Part Read) (RowPart Read) → Expr-F Reads Reads
  our_level z = map-Expr Expr Row Reads Reads ours our_row (without Read z)

  abbrev their_level : Expr-F (Part Read) (RowPart Read) → Expr-F Reads Reads
  their_level z = map-Expr Expr Row Reads Reads theirs their_row (without Read z)

  level_read : (z : Expr-F (Part Read) (RowPart Read)) (enclosing : List InstanceId) → AllWithin enclosing → (rest rest' : List Question) → reads_step s l.members l.container (our_level z) enclosing ++ rest ≡ reads_step s l'.members l'.container (their_level z) enclosing ++ rest' → AllAlike (reads_step s l.members l.container (our_level z) enclosing)
      → ((d : ℕ) → d < DAYS → tree_step s l (old z) enclosing d ≡ tree_step s l' (new z) enclosing d) × (rest ≡ rest')
  level_read (Const v) enclosing w rest rest' e h = (λ d lt. refl, e)
  level_read (Attr a) enclosing w rest rest' e h = attr_read a (place l.container enclosing (owner_of s a)) (place l'.container enclosing (owner_of s a)) (λ i is. (live enclosing w (owner_of s a) i is, place_entity l.container enclosing (owner_of s a) i is)) (met enclosing w (owner_of s a)) rest rest' e h
  level_read (All ps) enclosing w rest rest' e h = let p = parts_read ps enclosing w rest rest' e h in (λ d lt. ap all_of (each_same ps enclosing p.0 d lt), p.1)
  level_read (Any ps) enclosing w rest rest' e h = let p = parts_read ps enclosing w rest rest' e h in (λ d lt. ap any_of (each_same ps enclosing p.0 d lt), p.1)
  level_read (Not p) enclosing w rest rest' e h = let r = p.1 enclosing w rest rest' e h in (λ d lt. ap not_of (r.0 d lt), r.1)
  level_read (Op k ps) enclosing w rest rest' e h = let p = parts_read ps enclosing w rest rest' e h in (λ d lt. ap (strict (op_of k)) (each_same ps enclosing p.0 d lt), p.1)
  level_read (Certain p) enclosing w rest rest' e h = let r = p.1 enclosing w rest rest' e h in (λ d lt. ap certain_of (r.0 d lt), r.1)
  level_read (Known p) enclosing w rest rest' e h = let r = p.1 enclosing w rest rest' e h in (λ d lt. ap known_of (r.0 d lt), r.1)
  level_read (Over q r ps) enclosing w rest rest' e h = over_read q r ps (place l.container enclosing (s.source r)) (place l'.container enclosing (s.source r)) (live enclosing w (s.source r)) (met enclosing w (s.source r)) enclosing w rest rest' e h
  level_read (Window k ps) enclosing w rest rest' e h = let p = parts_read ps enclosing w rest rest' e h in (λ d lt. window_same k ps enclosing p.0 d lt, p.1)
  level_read (Rolling b n p) enclosing w rest rest' e h = let r = p.1 enclosing w rest rest' e h in (λ d lt. rolling_same b n (value s l p.0 enclosing) (value s l' p.0 enclosing) r.0 d lt, r.1)
  level_read (Table rs p) enclosing w rest rest' e h =
      let two = split (all_reads (map our_row (map (λ r. r.0) rs)) enclosing) _ h in
      let rows = rows_read rs enclosing w (ours p.0 enclosing ++ rest) (theirs p.0 enclosing ++ rest') (assoc (all_reads (map our_row (map (λ r. r.0) rs)) enclosing) (ours p.0 enclosing) rest (all_reads (map their_row (map (λ r. r.0) rs)) enclosing) (theirs p.0 enclosing) rest' e) two.0 in
      let last = p.1 enclosing w rest rest' rows.1 two.1 in
      (λ d lt. table_same rs (value s l p.0) (value s l' p.0) enclosing rows.0 d lt (last.0 d lt), last.1)

  value_read : (e : Expr) → Read e
  value_read = by_parts Read (λ z enclosing w rest rest' e h.
      let both = level_read z enclosing w rest rest'
      (sym (ap (λ (f : Reads). f enclosing ++ rest) (ours-roll (without Read z))) ∙ e ∙ ap (λ (f : Reads). f enclosing ++ rest') (theirs-roll (without Read z)))
      (subst (λ (f : Reads). AllAlike (f enclosing)) (ours-roll (without Read z)) h) in
      (λ d lt. ap (λ m. m enclosing d) (value-roll s l (without Read z)) ∙ both.0 d lt ∙ sym (ap (λ m. m enclosing d) (value-roll s l' (without Read z))), both.1))

  -- reads that are the same and name what is the same fix the value
  pub reads_fix : (e : Expr) (enclosing : List InstanceId) → AllWithin enclosing → ours e enclosing ≡ theirs e enclosing → AllAlike (ours e enclosing) → SameAt e enclosing
  reads_fix e enclosing w same h = (value_read e enclosing w [] [] (ap (λ qs. qs ++ []) same) h).0
