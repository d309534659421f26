-- A table is one table.
use Rattle.std.proofs.Common.{◌≡◌, ◌≢◌, ◌≤◌, ◌+◌, ℕ, List, [], ◌∷◌, ◌++◌, length, refl, sym, ap, ap₂, subst, ◌∙◌, arith}
use Rattle.opa_model.specs.declared.lists.Lists.{Lists}
use Rattle.opa_sentence.specs.declared.names.Names.{Names}
use Rattle.opa_parse.specs.declared.tables.cells.Case.{Case}
use Rattle.opa_parse.specs.declared.tables.cells.Found.{Found}
use Rattle.opa_parse.specs.declared.tables.cells.Found.TheVariants as found
use Rattle.opa_parse.specs.declared.tables.cells.Heads.{Heads}
use Rattle.opa_parse.specs.declared.tables.cells.Last.{Last}
use Rattle.opa_parse.specs.Tables.Columns.{blocks_of}
use Rattle.opa_parse.specs.Tables.Laws.{OneTable}
use Rattle.opa_parse.specs.Tables.Tables as t
use Rattle.opa_parse.specs.Tables.Tables.{AreHeads, IsCase, IsLast, AreCases, IsFirstOdd, table, IsBelow, IsFound}
use Rattle.opa_parse.proofs.tables.HeadLaws.{one_heads}
use Rattle.opa_parse.proofs.tables.RowLaws.{one_last, one_cases}

abbrev Cells : Type 0
Cells = List (List ℕ)

-- ---- lists that are split

last_apart : (xs ys : List Cells) (x y : Cells) → xs ++ x ∷ [] ≡ ys ++ y ∷ [] → (xs ≡ ys) × (x ≡ y)
last_apart [] [] x y e = (refl, let q : x ≡ y = cc e in q)
last_apart [] (v ∷ []) x y e = absurd (cc e)
last_apart [] (v ∷ w ∷ ys) x y e = absurd (cc e)
last_apart (v ∷ []) [] x y e = absurd (cc e)
last_apart (v ∷ w ∷ xs) [] x y e = absurd (cc e)
last_apart (v ∷ xs) (w ∷ ys) x y e =
    let p : v ≡ w = cc e in
    let q = last_apart xs ys x y (let r : xs ++ x ∷ [] ≡ ys ++ y ∷ [] = cc e in r) in
    (ap₂ (λ (a : Cells) bs. a ∷ bs) p q.0, q.1)

module _ (ns : Names) (h : Heads) where
  case_at : (n : ℕ) (before after : List Cells) (cells : Cells) (rs : List Case) → AreCases ns h n (before ++ cells ∷ after) rs → (r : Case) × IsCase ns h (length before + n) cells r
  case_at n [] after cells [] a = absurd a
  case_at n [] after cells (r ∷ rs) a = (r, subst (λ k. IsCase ns h k cells r) (let e : n ≡ 0 + n = omega arith in e) a.0)
  case_at n (b ∷ before) after cells [] a = absurd a
  case_at n (b ∷ before) after cells (r ∷ rs) a =
      let k = case_at (n + 1) before after cells rs a.1 in
      (k.0, subst (λ j. IsCase ns h j cells k.0) (let e : length before + (n + 1) ≡ length (b ∷ before) + n = omega arith in e) k.1)

  odd_so : (records : List Cells) (n : ℕ) (o : IsFirstOdd ns h records n) (r : Case) → IsCase ns h (length o.before + 2) o.cells r → ⊥
  odd_so records n o r is = o.odd r (subst (λ k. IsCase ns h k o.cells r) (sym o.number_is) is)

  not_odd : (records : List Cells) (rs : List Case) (n : ℕ) → AreCases ns h 2 records rs → IsFirstOdd ns h records n → ⊥
  not_odd records rs n a o =
      let k = case_at 2 o.before o.after o.cells rs (subst (λ xs. AreCases ns h 2 xs rs) o.split a) in
      odd_so records n o k.0 k.1

  abbrev Odd : ℕ → Cells → Type 0
  Odd n cells = (r : Case) → IsCase ns h n cells r → ⊥

  odd_first : (n : ℕ) (cells x : Cells) (before : List Cells) (rs : List Case) → cells ≡ x → AreCases ns h n (x ∷ before) rs → Odd (0 + n) cells → ⊥
  odd_first n cells x before [] e a odd = absurd a
  odd_first n cells x before (r ∷ rs) e a odd = odd r (subst (λ k. IsCase ns h k cells r) (let p : n ≡ 0 + n = omega arith in p) (subst (λ c. IsCase ns h n c r) (sym e) a.0))

  one_place : (n : ℕ) (b d : List Cells) (c e : Cells) (after other : List Cells) (rs ss : List Case) → b ++ c ∷ after ≡ d ++ e ∷ other → AreCases ns h n b rs → AreCases ns h n d ss → Odd (length b + n) c → Odd (length d + n) e → length b ≡ length d
  one_place n [] [] c e after other rs ss p a k o q = refl
  one_place n [] (x ∷ d) c e after other rs ss p a k o q = absurd (odd_first n c x d ss (let r : c ≡ x = cc p in r) k o)
  one_place n (x ∷ b) [] c e after other rs ss p a k o q = absurd (odd_first n e x b rs (let r : e ≡ x = sym (let s : x ≡ e = cc p in s) in r) a q)
  one_place n (x ∷ b) (y ∷ d) c e after other [] ss p a k o q = absurd a
  one_place n (x ∷ b) (y ∷ d) c e after other (r ∷ rs) [] p a k o q = absurd k
  one_place n (x ∷ b) (y ∷ d) c e after other (r ∷ rs) (s ∷ ss) p a k o q =
      omega (
        arith,
        one_place (n + 1) b d c e after other rs ss (let u : b ++ c ∷ after ≡ d ++ e ∷ other = cc p in u) a.1 k.1
            (subst (λ j. Odd j c) (let u : length (x ∷ b) + n ≡ length b + (n + 1) = omega arith in u) o) (subst (λ j. Odd j e) (let u : length (y ∷ d) + n ≡ length d + (n + 1) = omega arith in u) q),
      )

  one_odd : (records : List Cells) (n k : ℕ) → IsFirstOdd ns h records n → IsFirstOdd ns h records k → n ≡ k
  one_odd records n k o p =
      let same = one_place 2 o.before p.before o.cells p.cells o.after p.after o.cases p.cases (sym o.split ∙ p.split) o.are_cases p.are_cases (odd_so records n o) (odd_so records k p) in
      o.number_is ∙ ap (λ j. j + 2) same ∙ sym p.number_is

  -- ---- the records after the first

  same_table : (cs ds : List Case) (x y : Last) → cs ≡ ds → x ≡ y → found.Table (table h cs x) ≡ found.Table (table h ds y)
  same_table cs ds x y e f = ap (λ zs. found.Table (table h zs x)) e ∙ ap (λ z. found.Table (table h ds z)) f

  alone : (cells others : Cells) (records more : List Cells) → records ≡ cells ∷ [] → records ≡ others ∷ more → cells ≡ others
  alone cells others records more p q = let e : cells ∷ [] ≡ others ∷ more = sym p ∙ q in let r : cells ≡ others = cc e in r

  first_same : (cells others : Cells) (records more rest : List Cells) → records ≡ cells ∷ more → records ≡ others ∷ rest → cells ≡ others
  first_same cells others records more rest p q = let e : cells ∷ more ≡ others ∷ rest = sym p ∙ q in let r : cells ≡ others = cc e in r

  after_values : (records : List Cells) (cells : Cells) (x : Last) (g : Found) → h.conditions ≡ [] → records ≡ cells ∷ [] → IsLast ns h 2 cells x → IsBelow ns h records g → found.Table (table h [] x) ≡ g
  after_values records cells x g e p is (t.IsBelow.values {x = y} d f q k) = same_table [] [] x y refl (one_last ns h 2 cells x y is (subst (λ c. IsLast ns h 2 c y) (sym (alone cells d records [] p q)) k))
  after_values records cells x g e p is (t.IsBelow.no_values more d f q none) = absurd (none x (subst (λ c. IsLast ns h 2 c x) (alone cells d records more p q) is))
  after_values records cells x g e p is (t.IsBelow.too_many more d o _ f q k) = absurd (let r : cells ∷ [] ≡ d ∷ o ∷ more = sym p ∙ q in cc r)
  after_values records cells x g e p is (t.IsBelow.cases _ _ some q a k) = absurd (some e)
  after_values records cells x g e p is (t.IsBelow.no_case _ _ some q o) = absurd (some e)
  after_values records cells x g e p is (t.IsBelow.no_last _ _ _ some q a none) = absurd (some e)

  after_no_values : (records more : List Cells) (cells : Cells) (g : Found) → h.conditions ≡ [] → records ≡ cells ∷ more → ((x : Last) → IsLast ns h 2 cells x → ⊥) → IsBelow ns h records g → found.Unspelled 2 ≡ g
  after_no_values records more cells g e p none (t.IsBelow.values {x = y} d f q k) = absurd (none y (subst (λ c. IsLast ns h 2 c y) (sym (first_same cells d records more [] p q)) k))
  after_no_values records more cells g e p none (t.IsBelow.no_values _ _ f q others) = refl
  after_no_values records more cells g e p none (t.IsBelow.too_many rest d o y f q k) = absurd (none y (subst (λ c. IsLast ns h 2 c y) (sym (first_same cells d records more (o ∷ rest) p q)) k))
  after_no_values records more cells g e p none (t.IsBelow.cases _ _ some q a k) = absurd (some e)
  after_no_values records more cells g e p none (t.IsBelow.no_case _ _ some q o) = absurd (some e)
  after_no_values records more cells g e p none (t.IsBelow.no_last _ _ _ some q a nothing) = absurd (some e)

  after_too_many : (records more : List Cells) (cells others : Cells) (x : Last) (g : Found) → h.conditions ≡ [] → records ≡ cells ∷ others ∷ more → IsLast ns h 2 cells x → IsBelow ns h records g → found.Unspelled 3 ≡ g
  after_too_many records more cells others x g e p is (t.IsBelow.values d f q k) = absurd (let r : cells ∷ others ∷ more ≡ d ∷ [] = sym p ∙ q in cc r)
  after_too_many records more cells others x g e p is (t.IsBelow.no_values rest d f q none) = absurd (none x (subst (λ c. IsLast ns h 2 c x) (first_same cells d records (others ∷ more) rest p q) is))
  after_too_many records more cells others x g e p is (t.IsBelow.too_many _ _ _ _ f q k) = refl
  after_too_many records more cells others x g e p is (t.IsBelow.cases _ _ some q a k) = absurd (some e)
  after_too_many records more cells others x g e p is (t.IsBelow.no_case _ _ some q o) = absurd (some e)
  after_too_many records more cells others x g e p is (t.IsBelow.no_last _ _ _ some q a nothing) = absurd (some e)

  module _ (records middle : List Cells) (cells : Cells) (some : h.conditions ≢ []) (p : records ≡ middle ++ cells ∷ []) where
    split_so : (rest : List Cells) (d : Cells) → records ≡ rest ++ d ∷ [] → (rest ≡ middle) × (d ≡ cells)
    split_so rest d q = last_apart rest middle d cells (sym q ∙ p)

    same_last : (rest : List Cells) (d : Cells) (y : Last) → records ≡ rest ++ d ∷ [] → IsLast ns h (length rest + 2) d y → IsLast ns h (length middle + 2) cells y
    same_last rest d y q k = let s = split_so rest d q in subst (λ c. IsLast ns h (length middle + 2) c y) s.1 (subst (λ (r : List Cells). IsLast ns h (length r + 2) d y) s.0 k)

    after_cases : (cs : List Case) (x : Last) (g : Found) → AreCases ns h 2 middle cs → IsLast ns h (length middle + 2) cells x → IsBelow ns h records g → found.Table (table h cs x) ≡ g
    after_cases cs x g a is (t.IsBelow.values _ e q k) = absurd (some e)
    after_cases cs x g a is (t.IsBelow.no_values _ _ e q none) = absurd (some e)
    after_cases cs x g a is (t.IsBelow.too_many _ _ _ _ e q k) = absurd (some e)
    after_cases cs x g a is (t.IsBelow.cases {cs = ds} {x = y} rest d f q b k) =
        same_table cs ds x y (one_cases ns h 2 middle cs ds a (subst (λ r. AreCases ns h 2 r ds) (split_so rest d q).0 b)) (one_last ns h (length middle + 2) cells x y is (same_last rest d y q k))
    after_cases cs x g a is (t.IsBelow.no_case {n = n} rest d f q o) = absurd (not_odd middle cs n a (subst (λ r. IsFirstOdd ns h r n) (split_so rest d q).0 o))
    after_cases cs x g a is (t.IsBelow.no_last rest d _ f q b none) =
        let s = split_so rest d q in
        absurd (none x (subst (λ (r : List Cells). IsLast ns h (length r + 2) d x) (sym s.0) (subst (λ c. IsLast ns h (length middle + 2) c x) (sym s.1) is)))

    after_no_case : (n : ℕ) (g : Found) → IsFirstOdd ns h middle n → IsBelow ns h records g → found.Unspelled n ≡ g
    after_no_case n g o (t.IsBelow.values _ e q k) = absurd (some e)
    after_no_case n g o (t.IsBelow.no_values _ _ e q none) = absurd (some e)
    after_no_case n g o (t.IsBelow.too_many _ _ _ _ e q k) = absurd (some e)
    after_no_case n g o (t.IsBelow.cases {cs = ds} rest d f q b k) = absurd (not_odd middle ds n (subst (λ r. AreCases ns h 2 r ds) (split_so rest d q).0 b) o)
    after_no_case n g o (t.IsBelow.no_case {n = k} rest d f q u) = ap (λ j. found.Unspelled j) (one_odd middle n k o (subst (λ r. IsFirstOdd ns h r k) (split_so rest d q).0 u))
    after_no_case n g o (t.IsBelow.no_last rest d ds f q b none) = absurd (not_odd middle ds n (subst (λ r. AreCases ns h 2 r ds) (split_so rest d q).0 b) o)

    after_no_last : (cs : List Case) (g : Found) → AreCases ns h 2 middle cs → ((x : Last) → IsLast ns h (length middle + 2) cells x → ⊥) → IsBelow ns h records g → found.Unspelled (length middle + 2) ≡ g
    after_no_last cs g a none (t.IsBelow.values _ e q k) = absurd (some e)
    after_no_last cs g a none (t.IsBelow.no_values _ _ e q others) = absurd (some e)
    after_no_last cs g a none (t.IsBelow.too_many _ _ _ _ e q k) = absurd (some e)
    after_no_last cs g a none (t.IsBelow.cases {x = y} rest d f q b k) = absurd (none y (same_last rest d y q k))
    after_no_last cs g a none (t.IsBelow.no_case {n = n} rest d f q o) = absurd (not_odd middle cs n a (subst (λ r. IsFirstOdd ns h r n) (split_so rest d q).0 o))
    after_no_last cs g a none (t.IsBelow.no_last rest d _ f q b others) = ap (λ (r : List Cells). found.Unspelled (length r + 2)) (sym (split_so rest d q).0)

  one_below : {records : List Cells} {f g : Found} → IsBelow ns h records f → IsBelow ns h records g → f ≡ g
  one_below {records = records} {g = g} (t.IsBelow.values {x = x} c e p is) = after_values records c x g e p is
  one_below {records = records} {g = g} (t.IsBelow.no_values more c e p none) = after_no_values records more c g e p none
  one_below {records = records} {g = g} (t.IsBelow.too_many more c o x e p is) = after_too_many records more c o x g e p is
  one_below {records = records} {g = g} (t.IsBelow.cases {cs = cs} {x = x} middle c some p a is) = after_cases records middle c some p cs x g a is
  one_below {records = records} {g = g} (t.IsBelow.no_case {n = n} middle c some p o) = after_no_case records middle c some p n g o
  one_below {records = records} {g = g} (t.IsBelow.no_last middle c cs some p a none) = after_no_last records middle c some p cs g a none

-- ---- all records

few_alone : (records more : List Cells) (cells : Cells) → length records ≤ 1 → records ≡ cells ∷ more → more ≢ [] → ⊥
few_alone records [] cells few e some = some refl
few_alone records (x ∷ more) cells few e some = absurd (omega (arith, few, ap length e))

module _ (m : Lists) (ns : Names) where
  after_few : (records : List Cells) (g : Found) → length records ≤ 1 → IsFound m ns records g → found.Unspelled 1 ≡ g
  after_few records g few (t.IsFound.too_few k) = refl
  after_few records g few (t.IsFound.no_heads _ _ e none) = refl
  after_few records g few (t.IsFound.headed more c _ e some are b) = absurd (few_alone records more c few e some)

  heads_apart : (records more rest : List Cells) (c d : Cells) → records ≡ c ∷ more → records ≡ d ∷ rest → (c ≡ d) × (more ≡ rest)
  heads_apart records more rest c d p q = let e : c ∷ more ≡ d ∷ rest = sym p ∙ q in (let r : c ≡ d = cc e in r, let s : more ≡ rest = cc e in s)

  after_no_heads : (records more : List Cells) (c : Cells) (g : Found) → records ≡ c ∷ more → ((h : Heads) → AreHeads m ns c h → ⊥) → IsFound m ns records g → found.Unspelled 1 ≡ g
  after_no_heads records more c g p none (t.IsFound.too_few k) = refl
  after_no_heads records more c g p none (t.IsFound.no_heads _ _ e others) = refl
  after_no_heads records more c g p none (t.IsFound.headed rest d h e some are b) = absurd (none h (subst (λ x. AreHeads m ns x h) (sym (heads_apart records more rest c d p e).0) are))

  after_heads : (records more : List Cells) (c : Cells) (h : Heads) (f g : Found) → records ≡ c ∷ more → more ≢ [] → AreHeads m ns c h → IsBelow ns h more f → IsFound m ns records g → f ≡ g
  after_heads records more c h f g p some are b (t.IsFound.too_few k) = absurd (few_alone records more c k p some)
  after_heads records more c h f g p some are b (t.IsFound.no_heads rest d e none) = absurd (none h (subst (λ x. AreHeads m ns x h) (heads_apart records more rest c d p e).0 are))
  after_heads records more c h f g p some are b (t.IsFound.headed rest d k e others also u) =
      let s = heads_apart records more rest c d p e in
      let same = one_heads m ns c h k are (subst (λ x. AreHeads m ns x k) (sym s.0) also) in
      one_below ns h b (subst (λ x. IsBelow ns x more g) (sym same) (subst (λ r. IsBelow ns k r g) (sym s.1) u))

  one_found : {records : List Cells} {f g : Found} → IsFound m ns records f → IsFound m ns records g → f ≡ g
  one_found {records = records} {g = g} (t.IsFound.too_few k) = after_few records g k
  one_found {records = records} {g = g} (t.IsFound.no_heads more c e none) = after_no_heads records more c g e none
  one_found {records = records} {f = f} {g = g} (t.IsFound.headed more c h e some are b) = after_heads records more c h f g e some are b

pub one_table_holds : OneTable
one_table_holds m ns file bytes blocks others a b = a.blocks_are ∙ ap (blocks_of file) (one_found m ns a.is_found b.is_found) ∙ sym b.blocks_are
