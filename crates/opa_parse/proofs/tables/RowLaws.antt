-- The records after the first.
use Rattle.std.proofs.Common.{◌≡◌, ◌≢◌, ◌↔◌, IsTrue, ◌≤◌, ◌+◌, ◌-◌, ◌==◌, ◌&&◌, nat_le, ℕ, List, [], ◌∷◌, ◌++◌, length, map, Bool, true, false, refl, sym, ap, ap₂, subst, ◌∙◌, append_assoc, length-append, arith}
use Rattle.std.specs.List.{list_all}
use Rattle.std.proofs.lemmas.List.{append-nil, map-append}
use Rattle.opa_sentence.specs.declared.names.Names.{Names}
use Rattle.opa_sentence.specs.declared.reading.Reading.{Reading}
use Rattle.opa_parse.specs.declared.tables.cells.Case.{Case}
use Rattle.opa_parse.specs.declared.tables.cells.Found.{Found}
use Rattle.opa_parse.specs.declared.tables.cells.Found.TheVariants as found
use Rattle.opa_parse.specs.declared.tables.cells.Heads.{Heads}
use Rattle.opa_parse.specs.declared.tables.cells.Last.{Last}
use Rattle.opa_parse.specs.declared.tables.cells.Test.{Test}
use Rattle.opa_parse.specs.Tables.Cells.{IsConditionCell, IsValueCell, IsOtherwiseCell}
use Rattle.opa_parse.specs.Tables.Tables as t
use Rattle.opa_parse.specs.Tables.Tables.{Each, width, condition_cells, value_cells, IsCase, IsLast, is_empty, AreOtherwise, AreCases, IsFirstOdd, table, IsEnd, IsBelow, AreHeads, IsFound}
use Rattle.opa_parse.proofs.tables.CellLaws.{one_condition_cell, one_value_cell}
use Rattle.opa_parse.proofs.tables.EachLaws.{each_same}

-- ---- one record

pub wide_so : (count conditions conclusions : ℕ) → (nat_le conditions count && (count - conditions == conclusions)) ≡ (count == conditions + conclusions)
wide_so count conditions conclusions = grind arith

wide_not : (m n : ℕ) → (m == n) ≡ false → m ≡ n → ⊥
wide_not m n e f = absurd (let q : (m == n) ≡ true = grind (arith, f) in let r : true ≡ false = sym q ∙ e in cc r)

module _ (ns : Names) (h : Heads) (n : ℕ) (cells : List (List ℕ)) where
  pub no_case_wide : (length cells == width h) ≡ false → (r : Case) → IsCase ns h n cells r → ⊥
  no_case_wide e r is = wide_not (length cells) (width h) e is.wide

  pub no_case_tests : ((ts : List Test) → Each (IsConditionCell ns) (condition_cells h cells) ts → ⊥) → (r : Case) → IsCase ns h n cells r → ⊥
  no_case_tests none r is = none r.tests is.tests

  pub no_case_values : ((xs : List Reading) → Each (IsValueCell ns) (value_cells h cells) xs → ⊥) → (r : Case) → IsCase ns h n cells r → ⊥
  no_case_values none r is = none r.values is.values

  pub no_last_wide : (length cells == width h) ≡ false → (x : Last) → IsLast ns h n cells x → ⊥
  no_last_wide e x is = wide_not (length cells) (width h) e is.wide

  pub no_last_otherwise : (AreOtherwise (condition_cells h cells) → ⊥) → (x : Last) → IsLast ns h n cells x → ⊥
  no_last_otherwise none x is = none is.otherwise

  pub no_last_values : ((xs : List Reading) → Each (IsValueCell ns) (value_cells h cells) xs → ⊥) → (x : Last) → IsLast ns h n cells x → ⊥
  no_last_values none x is = none x.values is.values

  pub one_case : (r s : Case) → IsCase ns h n cells r → IsCase ns h n cells s → r ≡ s
  one_case r s a b =
      let p : r.number ≡ s.number = a.number_is ∙ sym b.number_is in
      let q = each_same (IsConditionCell ns) (one_condition_cell ns) (condition_cells h cells) r.tests s.tests a.tests b.tests in
      let v = each_same (IsValueCell ns) (one_value_cell ns) (value_cells h cells) r.values s.values a.values b.values in
      ap (λ z. let y : Case = record r { number = z } in y) p ∙ ap (λ z. let y : Case = record r { number = s.number; tests = z } in y) q ∙ ap (λ z. let y : Case = record s { values = z } in y) v

  pub one_last : (x y : Last) → IsLast ns h n cells x → IsLast ns h n cells y → x ≡ y
  one_last x y a b =
      let p : x.number ≡ y.number = a.number_is ∙ sym b.number_is in
      let v = each_same (IsValueCell ns) (one_value_cell ns) (value_cells h cells) x.values y.values a.values b.values in
      ap (λ z. let w : Last = record x { number = z } in w) p ∙ ap (λ z. let w : Last = record y { values = z } in w) v

-- ---- cases

module _ (ns : Names) (h : Heads) where
  pub cases_last : (n : ℕ) (xs : List (List (List ℕ))) (rs : List Case) (cells : List (List ℕ)) (r : Case) (k : ℕ) → AreCases ns h n xs rs → k ≡ length xs + n → IsCase ns h k cells r → AreCases ns h n (xs ++ cells ∷ []) (rs ++ r ∷ [])
  cases_last n [] [] cells r k a e is = (subst (λ j. IsCase ns h j cells r) (let q : k ≡ n = omega (arith, e) in q) is, tt)
  cases_last n [] (s ∷ rs) cells r k a e is = absurd a
  cases_last n (x ∷ xs) [] cells r k a e is = absurd a
  cases_last n (x ∷ xs) (s ∷ rs) cells r k a e is = (a.0, cases_last (n + 1) xs rs cells r k a.1 (omega (arith, e)) is)

  pub one_cases : (n : ℕ) (xs : List (List (List ℕ))) (rs ss : List Case) → AreCases ns h n xs rs → AreCases ns h n xs ss → rs ≡ ss
  one_cases n [] [] [] a b = refl
  one_cases n [] [] (s ∷ ss) a b = absurd b
  one_cases n [] (r ∷ rs) ss a b = absurd a
  one_cases n (x ∷ xs) [] ss a b = absurd a
  one_cases n (x ∷ xs) (r ∷ rs) [] a b = absurd b
  one_cases n (x ∷ xs) (r ∷ rs) (s ∷ ss) a b = ap₂ (λ (v : Case) vs. v ∷ vs) (one_case ns h n x r s a.0 b.0) (one_cases (n + 1) xs rs ss a.1 b.1)

  -- these are the cases of the first records, and the rest is still to be read
  pub record AreRead (all rest : List (List (List ℕ))) (number : ℕ) (rs : List Case) : Type 0 where
    pub before : List (List (List ℕ))
    pub split : all ≡ before ++ rest
    pub are : AreCases ns h 2 before rs
    pub number_is : number ≡ length before + 2

  pub cases_start : (all : List (List (List ℕ))) (rs : List Case) → rs ≡ [] → AreRead all all 2 rs
  cases_start all rs e = record { before = []; split = refl; are = subst (AreCases ns h 2 []) (sym e) tt; number_is = refl }

  pub cases_more : (all rest later : List (List (List ℕ))) (cells : List (List ℕ)) (n k : ℕ) (rs ss : List Case) (r : Case) → rest ≡ cells ∷ later → AreRead all rest n rs → IsCase ns h n cells r → ss ≡ rs ++ r ∷ [] → k ≡ n + 1 → AreRead all later k ss
  cases_more all rest later cells n k rs ss r e read is f g = record {
    before = read.before ++ cells ∷ [];
    split = read.split ∙ ap (λ y. read.before ++ y) e ∙ sym (append_assoc read.before (cells ∷ []) later);
    are = subst (AreCases ns h 2 (read.before ++ cells ∷ [])) (sym f) (cases_last 2 read.before rs cells r n read.are read.number_is is);
    number_is = omega (arith, g, read.number_is, length-append read.before (cells ∷ []));
  }

  pub cases_odd : (all rest later : List (List (List ℕ))) (cells : List (List ℕ)) (n : ℕ) (rs : List Case) → rest ≡ cells ∷ later → AreRead all rest n rs → ((r : Case) → IsCase ns h n cells r → ⊥) → IsFirstOdd ns h all n
  cases_odd all rest later cells n rs e read none = record {
    before = read.before;
    cases = rs;
    cells = cells;
    after = later;
    split = read.split ∙ ap (λ y. read.before ++ y) e;
    are_cases = read.are;
    number_is = read.number_is;
    odd = none;
  }

  pub cases_end : (all rest : List (List (List ℕ))) (n : ℕ) (rs : List Case) → rest ≡ [] → AreRead all rest n rs → AreCases ns h 2 all rs
  cases_end all rest n rs e read = subst (λ a. AreCases ns h 2 a rs) (sym (read.split ∙ ap (λ y. read.before ++ y) e ∙ append-nil read.before)) read.are

-- ---- the last record

module _ (ns : Names) (h : Heads) where
  pub ends_below : (records middle : List (List (List ℕ))) (cells : List (List ℕ)) (cs : List Case) (n : ℕ) (f : Found) → h.conditions ≢ [] → records ≡ middle ++ cells ∷ [] → AreCases ns h 2 middle cs → n ≡ length middle + 2 → IsEnd ns h cs n cells f → IsBelow ns h records f
  ends_below records middle cells cs n (found.Table d) some e are k end =
      subst (λ z. IsBelow ns h records (found.Table z)) (sym end.2) (t.IsBelow.cases middle cells some e are (subst (λ j. IsLast ns h j cells end.0) k end.1))
  ends_below records middle cells cs n (found.Unspelled j) some e are k end =
      subst (λ z. IsBelow ns h records (found.Unspelled z)) (sym (end.0 ∙ k)) (t.IsBelow.no_last middle cells cs some e are (λ x is. end.1 x (subst (λ z. IsLast ns h z cells x) (sym k) is)))

-- ---- without conditions

pub otherwise_first : (cells rest : List (List ℕ)) (cell : List ℕ) (b : Bool) → cells ≡ cell ∷ rest → list_all is_empty rest ≡ true → IsTrue b ↔ IsOtherwiseCell cell → IsTrue b ↔ AreOtherwise cells
otherwise_first cells rest cell b e none is =
    (λ x. subst AreOtherwise (sym e) (is.0 x, none), λ k. let h : AreOtherwise (cell ∷ rest) = subst AreOtherwise e k in is.1 h.0)

module _ {A : Type 0} (f : A → List (List ℕ)) where
  none_left : (xs : List A) → (length xs == 0) ≡ true → xs ≡ []
  none_left [] e = refl
  none_left (x ∷ xs) e = absurd (let q : (length (x ∷ xs) == 0) ≡ false = grind arith in let r : true ≡ false = sym e ∙ q in cc r)

  some_left : (xs : List A) → (length xs == 0) ≡ false → (x : A) × (rest : List A) × (xs ≡ x ∷ rest)
  some_left [] e = let q : true ≡ false = e in absurd (cc q)
  some_left (x ∷ xs) e = (x, xs, refl)

  pub not_none : (xs : List A) → (length xs == 0) ≡ false → xs ≡ [] → ⊥
  not_none xs e p = let s = some_left xs e in let q : s.0 ∷ s.1 ≡ [] = sym s.2 ∙ p in absurd (cc q)

  pub some_mapped : (xs : List A) → (length xs == 0) ≡ false → map f xs ≡ [] → ⊥
  some_mapped xs e p = let s = some_left xs e in let q : f s.0 ∷ map f s.1 ≡ [] = sym (ap (map f) s.2) ∙ p in absurd (cc q)

  pub few_none : (xs : List A) → xs ≡ [] → length (map f xs) ≤ 1
  few_none xs e = let q : length (map f xs) ≡ 0 = ap (λ ys. length (map f ys)) e in omega (arith, q)

  pub few_one : (xs others : List A) (x : A) → xs ≡ x ∷ others → (length others == 0) ≡ true → length (map f xs) ≤ 1
  few_one xs others x e none =
      let q : length (map f xs) ≡ length (f x ∷ []) = ap (λ ys. length (map f ys)) (e ∙ ap (λ ys. x ∷ ys) (none_left others none)) in
      omega (arith, q)

  module _ (ns : Names) (h : Heads) where
    pub alone_is : (others : List A) (cells : List (List ℕ)) (cs : List Case) (x : Last) → h.conditions ≡ [] → (length others == 0) ≡ true → cs ≡ [] → IsLast ns h 2 cells x → IsBelow ns h (cells ∷ map f others) (found.Table (table h cs x))
    alone_is others cells cs x e none p is =
        subst (λ ds. IsBelow ns h (cells ∷ map f others) (found.Table (table h ds x))) (sym p) (t.IsBelow.values cells e (ap (λ ys. cells ∷ map f ys) (none_left others none)) is)

    pub alone_more : (others : List A) (cells : List (List ℕ)) (x : Last) → h.conditions ≡ [] → (length others == 0) ≡ false → IsLast ns h 2 cells x → IsBelow ns h (cells ∷ map f others) (found.Unspelled 3)
    alone_more others cells x e some is = let s = some_left others some in t.IsBelow.too_many (map f s.1) cells (f s.0) x e (ap (λ ys. cells ∷ map f ys) s.2) is

    pub last_split : (records middle : List A) (last : A) → records ≡ middle ++ last ∷ [] → map f records ≡ map f middle ++ f last ∷ []
    last_split records middle last e = ap (map f) e ∙ map-append f middle (last ∷ [])
