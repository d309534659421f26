-- A text, line by line.
use Rattle.std.proofs.Common.{◌≡◌, ◌⊎◌, inl, inr, ℕ, suc, ◌+◌, ◌-◌, ◌<◌, ◌^◌, List, [], ◌∷◌, ◌++◌, length, take, decimal, Bool, true, false, cond, ◌==◌, refl, sym, ◌∙◌, ap, subst, append_assoc, append-nil, length-append, arith}
use Rattle.std.specs.Prelude.{None, codes}
use Rattle.std.specs.Char.{digit_value}
use Rattle.std.specs.List.{AllByRecursion}
use Rattle.std.specs.Str.Parse.{AllDigits}
use Rattle.std.proofs.lemmas.Fmt.{decimal_is_IsNumeral_wide}
use Rattle.opa_verify.specs.declared.spelling.printed.Printed.{Printed}
use Rattle.opa_verify.specs.declared.spelling.printed.Spelled.{Spelled}
use Rattle.opa_verify.specs.Spelling.Lines.{Lined, lined, onto_line, with_line}
use Rattle.opa_verify.specs.Spelling.Spelling.{IsSpot, CanBePrinted, IsSpelled, BeginReport, IsUnspelledAt}
use Rattle.opa_verify.specs.Spelling.Printed.{printed_text, numbered_line, numbered_lines, lines_text, end_line, head_line, report_lines}
use Rattle.opa_verify.specs.Spelling.Reading.{IsTextOf, IsAsked, asked_line}
use Rattle.opa_verify.specs.declared.spelling.printed.Spot.{Spot}
use Rattle.opa_date.specs.declared.TheConstants.{DAYS}
use Rattle.opa_verify.proofs.spelling.Cleanness.{all_days}
use Rattle.opa_verify.proofs.spelling.Phrased.{none_phrase}

-- ---- lists of lines

pub same_items : {A : Type 0} (x y : A) (xs ys : List A) → x ∷ xs ≡ y ∷ ys → (x ≡ y) × (xs ≡ ys)
same_items x y xs ys e = (cc e, cc e)

first_of : {A : Type 0} (xs ys : List A) → take (length xs) (xs ++ ys) ≡ xs
first_of [] ys = refl
first_of {A} (x ∷ xs) ys = ap (λ (zs : List A). x ∷ zs) (first_of xs ys)

and_one : {A : Type 0} (xs ys : List A) (y : A) → take (suc (length xs)) (xs ++ y ∷ ys) ≡ xs ++ y ∷ []
and_one [] ys y = refl
and_one {A} (x ∷ xs) ys y = ap (λ (zs : List A). x ∷ zs) (and_one xs ys y)

-- lines before a text
abbrev pub with_lines : List (List ℕ) → Lined → Lined
with_lines ls t = record { lines = ls ++ t.lines; left = t.left }

abbrev pub numbered : ℕ → List Printed → List (List ℕ)
numbered n [] = []
numbered n (x ∷ xs) = numbered_line n x ∷ numbered (n + 1) xs

numbered_many : (n : ℕ) (xs : List Printed) → length (numbered n xs) ≡ length xs
numbered_many n [] = refl
numbered_many n (x ∷ xs) = ap suc (numbered_many (n + 1) xs)

numbered_ends : (n : ℕ) (xs : List Printed) → numbered_lines n xs ≡ numbered n xs ++ end_line ∷ []
numbered_ends n [] = refl
numbered_ends n (x ∷ xs) = ap (λ ls. numbered_line n x ∷ ls) (numbered_ends (n + 1) xs)

numbered_more : (n : ℕ) (xs : List Printed) (x : Printed) → numbered n (xs ++ x ∷ []) ≡ numbered n xs ++ numbered_line (length xs + n) x ∷ []
numbered_more n [] x = let k : n ≡ length {A = Printed} [] + n = omega arith in ap (λ m. numbered_line m x ∷ []) k
numbered_more n (y ∷ xs) x =
    let k : length xs + (n + 1) ≡ length (y ∷ xs) + n = omega arith in
    ap (λ ls. numbered_line n y ∷ ls) (numbered_more (n + 1) xs x ∙ ap (λ m. numbered (n + 1) xs ++ numbered_line m x ∷ []) k)

-- ---- the loop

-- the text is the head, these lines, and what is left
pub record SoFar (text head : List ℕ) (printed : List Printed) (rest : List ℕ) : Type 0 where
  pub parts : text ≡ head ++ (lines_text 1 printed ++ rest)
  pub dated : AllByRecursion CanBePrinted printed
  pub lines : lined text ≡ with_lines (head ∷ numbered 1 printed) (lined rest)

lines_more : (n : ℕ) (xs : List Printed) (x : Printed) → lines_text n (xs ++ x ∷ []) ≡ lines_text n xs ++ numbered_line (length xs + n) x
lines_more n [] x = let k : n ≡ length {A = Printed} [] + n = omega arith in append-nil (numbered_line n x) ∙ ap (λ m. numbered_line m x) k
lines_more n (y ∷ xs) x =
    let k : length xs + (n + 1) ≡ length (y ∷ xs) + n = omega arith in
    ap (λ t. numbered_line n y ++ t) (lines_more (n + 1) xs x ∙ ap (λ m. lines_text (n + 1) xs ++ numbered_line m x) k)
    ∙ sym (append_assoc (numbered_line n y) (lines_text (n + 1) xs) (numbered_line (length (y ∷ xs) + n) x))

dated_more : (xs : List Printed) (x : Printed) → AllByRecursion CanBePrinted xs → CanBePrinted x → AllByRecursion CanBePrinted (xs ++ x ∷ [])
dated_more [] x h d = (d, tt)
dated_more (y ∷ xs) x h d = (h.0, dated_more xs x h.1 d)

none_dated : (xs : List Printed) → xs ≡ [] → AllByRecursion CanBePrinted xs
none_dated [] q = tt
none_dated (x ∷ xs) q = absurd (cc q)

pub so_far_none : (text head rest : List ℕ) (printed : List Printed) → printed ≡ [] → text ≡ head ++ rest → lined text ≡ with_line head (lined rest) → SoFar text head printed rest
so_far_none text head rest printed e p l = record {
  parts = p ∙ sym (ap (λ xs. head ++ (lines_text 1 xs ++ rest)) e);
  dated = none_dated printed e;
  lines = l ∙ sym (ap (λ xs. with_lines (head ∷ numbered 1 xs) (lined rest)) e);
}

more_lines : (ls : List (List ℕ)) (line : List ℕ) (t : Lined) → with_lines ls (with_line line t) ≡ with_lines (ls ++ line ∷ []) t
more_lines ls line t = ap (λ xs. let u : Lined = record { lines = xs; left = t.left } in u) (sym (append_assoc ls (line ∷ []) t.lines))

pub so_far_more : (text head rest line later : List ℕ) (printed next : List Printed) (x : Printed) (n : ℕ) → SoFar text head printed rest → rest ≡ line ++ later → lined rest ≡ with_line line (lined later) → n ≡ length printed + 1
    → numbered_line n x ≡ line → CanBePrinted x → next ≡ printed ++ x ∷ [] → SoFar text head next later
so_far_more text head rest line later printed next x n s r l k is d e = record {
  parts =
      s.parts ∙ ap (λ t. head ++ (lines_text 1 printed ++ t)) (r ∙ ap (λ t. t ++ later) (sym is ∙ ap (λ m. numbered_line m x) k))
      ∙ ap (λ t. head ++ t) (sym (append_assoc (lines_text 1 printed) (numbered_line (length printed + 1) x) later) ∙ ap (λ t. t ++ later) (sym (lines_more 1 printed x)))
      ∙ ap (λ xs. head ++ (lines_text 1 xs ++ later)) (sym e);
  dated = ap_dated next (sym e);
  lines =
      s.lines ∙ ap (with_lines (head ∷ numbered 1 printed)) l ∙ more_lines (head ∷ numbered 1 printed) line (lined later)
      ∙ ap (λ y. with_lines (head ∷ (numbered 1 printed ++ y ∷ [])) (lined later)) (sym is ∙ ap (λ m. numbered_line m x) k)
      ∙ ap (λ ls. with_lines (head ∷ ls) (lined later)) (sym (numbered_more 1 printed x))
      ∙ ap (λ xs. with_lines (head ∷ numbered 1 xs) (lined later)) (sym e);
}
  where
    whole : AllByRecursion CanBePrinted (printed ++ x ∷ [])
    whole = dated_more printed x s.dated d

    ap_dated : (ys : List Printed) → printed ++ x ∷ [] ≡ ys → AllByRecursion CanBePrinted ys
    ap_dated ys q = subst (λ xs. AllByRecursion CanBePrinted xs) q whole

pub so_far_ends : (text head rest line later : List ℕ) (printed : List Printed) → SoFar text head printed rest → rest ≡ line ++ later → line ≡ end_line → later ≡ [] → head ++ (lines_text 1 printed ++ end_line) ≡ text
so_far_ends text head rest line later printed s r l e =
    sym (s.parts ∙ ap (λ t. head ++ (lines_text 1 printed ++ t)) (r ∙ ap (λ t. line ++ t) e ∙ append-nil line ∙ l))

-- what was read whole
pub whole_is : (text rest line later : List ℕ) (asked : Spot) (day : ℕ) (printed : List Printed) → SoFar text (head_line asked day) printed rest → rest ≡ line ++ later → line ≡ end_line → later ≡ [] → IsSpot asked → day < DAYS
    → IsTextOf text (record { asked = asked; day = day; printed = printed })
whole_is text rest line later asked day printed s r l e spot lt = record {
  is = so_far_ends text (head_line asked day) rest line later printed s r l e;
  spelled = record { asked = spot; day = lt; printed = s.dated };
  day = lt;
  dated = all_days printed s.dated;
}

-- ---- no numbered line is the last one

begins_with_e : (ds rest more : List ℕ) → AllDigits 10 ds → 0 < length ds → ds ++ rest ≡ 101 ∷ more → ⊥
begins_with_e [] rest more h n e = absurd (omega (arith, n))
begins_with_e (d ∷ ds) rest more h n e =
    let s = same_items d 101 (ds ++ rest) more e in
    absurd (let f : digit_value 101 < 10 = subst (λ c. digit_value c < 10) s.0 h.0 in omega (arith, f))

pub not_end : (n : ℕ) (x : Printed) → n < 10 ^ 64 → numbered_line n x ≡ end_line → ⊥
not_end n x h e =
    let is = (decimal_is_IsNumeral_wide n h).0 in
    begins_with_e (decimal n) (codes " " ++ (printed_text x ++ 10 ∷ [])) (110 ∷ 100 ∷ 10 ∷ []) is.1 is.0 e

-- nothing follows the last line
no_longer : (n : ℕ) (xs ys : List Printed) (m : List ℕ) (more : List (List ℕ)) → length ys + n < 10 ^ 64 → numbered_lines n xs ≡ numbered_lines n ys ++ m ∷ more → ⊥
no_longer n [] [] m more h e = let f : [] ≡ m ∷ more = (same_items end_line end_line [] (m ∷ more) e).1 in absurd (cc f)
no_longer n [] (y ∷ ys) m more h e = not_end n y (omega (arith, h)) (sym (same_items end_line (numbered_line n y) [] (numbered_lines (n + 1) ys ++ m ∷ more) e).0)
no_longer n (x ∷ xs) [] m more h e = not_end n x (omega (arith, h)) (same_items (numbered_line n x) end_line (numbered_lines (n + 1) xs) (m ∷ more) e).0
no_longer n (x ∷ xs) (y ∷ ys) m more h e = no_longer (n + 1) xs ys m more (omega (arith, h)) (same_items (numbered_line n x) (numbered_line n y) (numbered_lines (n + 1) xs) (numbered_lines (n + 1) ys ++ m ∷ more) e).1

abbrev IsLine : ℕ → List ℕ → Type 0
IsLine n line = (line ≡ end_line) ⊎ ((x : Printed) × (CanBePrinted x × (numbered_line n x ≡ line)))

-- behind numbered lines there is one more, or the last
next_line : (n : ℕ) (xs ys : List Printed) (line : List ℕ) (more : List (List ℕ)) → length ys + n < 10 ^ 64 → AllByRecursion CanBePrinted xs → numbered_lines n xs ≡ numbered n ys ++ line ∷ more → IsLine (length ys + n) line
next_line n [] [] line more h are e = inl (sym (same_items end_line line [] more e).0)
next_line n (x ∷ xs) [] line more h are e =
    let k : n ≡ length {A = Printed} [] + n = omega arith in
    inr (x, (are.0, ap (λ m. numbered_line m x) (sym k) ∙ (same_items (numbered_line n x) line (numbered_lines (n + 1) xs) more e).0))
next_line n [] (y ∷ ys) line more h are e = absurd (not_end n y (omega (arith, h)) (sym (same_items end_line (numbered_line n y) [] (numbered (n + 1) ys ++ line ∷ more) e).0))
next_line n (x ∷ xs) (y ∷ ys) line more h are e =
    let k : length ys + (n + 1) ≡ length (y ∷ ys) + n = omega arith in
    subst (λ m. IsLine m line) k
    (next_line (n + 1) xs ys line more (omega (arith, h)) are.1 (same_items (numbered_line n x) (numbered_line n y) (numbered_lines (n + 1) xs) (numbered (n + 1) ys ++ line ∷ more) e).1)

-- numbered lines without the last are no report
not_less : (n : ℕ) (xs ys : List Printed) → length ys + n < 10 ^ 64 → numbered n ys ≡ numbered_lines n xs → ⊥
not_less n [] [] h e = absurd (cc e)
not_less n (x ∷ xs) [] h e = absurd (cc e)
not_less n [] (y ∷ ys) h e = not_end n y (omega (arith, h)) (same_items (numbered_line n y) end_line (numbered (n + 1) ys) [] e).0
not_less n (x ∷ xs) (y ∷ ys) h e = not_less (n + 1) xs ys (omega (arith, h)) (same_items (numbered_line n y) (numbered_line n x) (numbered (n + 1) ys) (numbered_lines (n + 1) xs) e).1

-- ---- the line that breaks a text

module _ (r : Spelled) (is : IsSpelled r) where
  pub front : List (List ℕ)
  front = head_line r.asked r.day ∷ numbered 1 r.printed

  front_many : length front ≡ length r.printed + 1
  unfolding front
  front_many = omega (arith, numbered_many 1 r.printed)

  all_of : report_lines r ≡ front ++ end_line ∷ []
  unfolding front
  all_of = ap (λ ls. head_line r.asked r.day ∷ ls) (numbered_ends 1 r.printed)

  all_many : length (report_lines r) ≡ length r.printed + 2
  all_many = let n : length (report_lines r) ≡ length front + 1 = ap length all_of ∙ length-append front (end_line ∷ []) in omega (arith, n, front_many)

  begins : BeginReport front
  begins = (r, (end_line ∷ [], (is, all_of)))

  all_begin : BeginReport (report_lines r)
  all_begin = (r, ([], (is, sym (append-nil (report_lines r)))))

  tails : (s : Spelled) (xs : List (List ℕ)) → report_lines s ≡ head_line r.asked r.day ∷ xs → numbered_lines 1 s.printed ≡ xs
  tails s xs e = (same_items (head_line s.asked s.day) (head_line r.asked r.day) (numbered_lines 1 s.printed) xs e).1

  -- something stands behind the last line
  pub after_end : length r.printed + 1 < 10 ^ 64 → (ls : List (List ℕ)) (left : List ℕ) → (ls ≡ [] → left ≡ [] → ⊥) → IsUnspelledAt (record { lines = report_lines r ++ ls; left = left }) (length r.printed + 3)
  after_end h [] left n = inr (
    omega (arith, length-append {A = List ℕ} (report_lines r) [], all_many),
    (subst (λ xs. BeginReport xs) (sym (append-nil (report_lines r))) all_begin, λ s h. n refl h.1.1),
  )
  after_end h (m ∷ more) left n =
      let less : (length r.printed + 3) - 1 ≡ length (report_lines r) = omega (arith, all_many) in
      let one : length r.printed + 3 ≡ suc (length (report_lines r)) = omega (arith, all_many) in
      inl (
        omega arith,
        (
          omega (arith, length-append (report_lines r) (m ∷ more), all_many),
          (
            subst (λ xs. BeginReport xs) (sym (ap (λ k. take k (report_lines r ++ m ∷ more)) less ∙ first_of (report_lines r) (m ∷ more))) all_begin,
            λ b. longer (subst (λ xs. BeginReport xs) (ap (λ k. take k (report_lines r ++ m ∷ more)) one ∙ and_one (report_lines r) more m) b),
          ),
        ),
      )
    where
      longer : BeginReport (report_lines r ++ m ∷ []) → ⊥
      longer b = no_longer 1 b.0.printed r.printed m b.1.0 h (tails b.0 (numbered_lines 1 r.printed ++ m ∷ b.1.0) (b.1.1.1 ∙ append_assoc (report_lines r) (m ∷ []) b.1.0))

  -- a line has its place, and isn't spelled
  pub after_line : length r.printed + 1 < 10 ^ 64 → (line : List ℕ) (ls : List (List ℕ)) (left : List ℕ) → (line ≡ end_line → ⊥) → ((x : Printed) → CanBePrinted x → numbered_line (length r.printed + 1) x ≡ line → ⊥)
      → IsUnspelledAt (record { lines = front ++ line ∷ ls; left = left }) (length r.printed + 2)
  unfolding front
  after_line h line ls left e n =
      let less : (length r.printed + 2) - 1 ≡ length front = omega (arith, front_many) in
      let one : length r.printed + 2 ≡ suc (length front) = omega (arith, front_many) in
      inl (
        omega arith,
        (
          omega (arith, length-append front (line ∷ ls), front_many),
          (
            subst (λ xs. BeginReport xs) (sym (ap (λ k. take k (front ++ line ∷ ls)) less ∙ first_of front (line ∷ ls))) begins,
            λ b. longer (subst (λ xs. BeginReport xs) (ap (λ k. take k (front ++ line ∷ ls)) one ∙ and_one front ls line) b),
          ),
        ),
      )
    where
      none : IsLine (length r.printed + 1) line → ⊥
      none (inl q) = e q
      none (inr q) = n q.0 q.1.0 q.1.1

      longer : BeginReport (front ++ line ∷ []) → ⊥
      longer b = none (next_line 1 b.0.printed r.printed line b.1.0 h b.1.1.0.printed (tails b.0 (numbered 1 r.printed ++ line ∷ b.1.0) (b.1.1.1 ∙ append_assoc front (line ∷ []) b.1.0)))

  -- the last line is missing
  pub after_all : length r.printed + 1 < 10 ^ 64 → (left : List ℕ) → IsUnspelledAt (record { lines = front ++ []; left = left }) (length r.printed + 2)
  unfolding front
  after_all h left = inr (
    omega (arith, length-append {A = List ℕ} front [], front_many),
    (
      subst (λ xs. BeginReport xs) (sym (append-nil front)) begins,
      λ s sp. not_less 1 s.printed r.printed h (sym (tails s (numbered 1 r.printed) (sym sp.1.0 ∙ append-nil front))),
    ),
  )

abbrev pub Read : Spot → ℕ → List Printed → Spelled
Read asked day printed = record { asked = asked; day = day; printed = printed }

read_is : (text rest : List ℕ) (asked : Spot) (day : ℕ) (printed : List Printed) → IsSpot asked → day < DAYS → SoFar text (head_line asked day) printed rest → IsSpelled (Read asked day printed)
read_is text rest asked day printed is lt s = record { asked = is; day = lt; printed = s.dated }

onto_some : (b : ℕ) (ls : List (List ℕ)) (left : List ℕ) → (onto_line b ls left).lines ≡ [] → (onto_line b ls left).left ≡ [] → ⊥
onto_some b [] left l e = cc e
onto_some b (x ∷ ls) left l e = cc l

byte_some : (b : ℕ) (t : Lined) (c : Bool) → (cond c (record { lines = (b ∷ []) ∷ t.lines; left = t.left }) (onto_line b t.lines t.left)).lines ≡ []
    → (cond c (record { lines = (b ∷ []) ∷ t.lines; left = t.left }) (onto_line b t.lines t.left)).left ≡ [] → ⊥
byte_some b t true l e = cc l
byte_some b t false l e = onto_some b t.lines t.left l e

empty_lined : (later : List ℕ) → (lined later).lines ≡ [] → (lined later).left ≡ [] → later ≡ []
empty_lined [] l e = refl
empty_lined (b ∷ later) l e = absurd (byte_some b (lined later) (b == 10) l e)

pub broken_behind : (text rest line later : List ℕ) (asked : Spot) (day n : ℕ) (printed : List Printed) → IsSpot asked → day < DAYS → SoFar text (head_line asked day) printed rest → lined rest ≡ with_line line (lined later) → line ≡ end_line → (later ≡ [] → ⊥)
    → n ≡ length printed + 1 → n < 2 ^ 65 → IsUnspelledAt (lined text) (n + 2)
broken_behind text rest line later asked day n printed is lt s l e some k small =
    let r = Read asked day printed in
    let can = read_is text rest asked day printed is lt s in
    let at : lined text ≡ record { lines = report_lines r ++ (lined later).lines; left = (lined later).left } =
    s.lines ∙ ap (with_lines (head_line asked day ∷ numbered 1 printed)) (l ∙ ap (λ x. with_line x (lined later)) e) ∙ more_lines (head_line asked day ∷ numbered 1 printed) end_line (lined later)
    ∙ ap (λ ls. with_lines (head_line asked day ∷ ls) (lined later)) (sym (numbered_ends 1 printed)) in
    let three : length printed + 3 ≡ n + 2 = omega (arith, k) in
    subst (λ t. IsUnspelledAt t (n + 2)) (sym at)
    (subst (IsUnspelledAt (record { lines = report_lines r ++ (lined later).lines; left = (lined later).left })) three (after_end r can (omega (arith, k, small)) (lined later).lines (lined later).left (λ a b. some (empty_lined later a b))))

pub broken_line : (text rest line later : List ℕ) (asked : Spot) (day n : ℕ) (printed : List Printed) → IsSpot asked → day < DAYS → SoFar text (head_line asked day) printed rest → lined rest ≡ with_line line (lined later) → (line ≡ end_line → ⊥)
    → n ≡ length printed + 1 → n < 2 ^ 65 → ((x : Printed) → CanBePrinted x → numbered_line n x ≡ line → ⊥) → IsUnspelledAt (lined text) (n + 1)
unfolding front
broken_line text rest line later asked day n printed is lt s l e k small none =
    let r = Read asked day printed in
    let can = read_is text rest asked day printed is lt s in
    let at : lined text ≡ record { lines = (head_line asked day ∷ numbered 1 printed) ++ line ∷ (lined later).lines; left = (lined later).left } = s.lines ∙ ap (with_lines (head_line asked day ∷ numbered 1 printed)) l in
    let two : length printed + 2 ≡ n + 1 = omega (arith, k) in
    subst (λ t. IsUnspelledAt t (n + 1)) (sym at)
    (subst (IsUnspelledAt (record { lines = (head_line asked day ∷ numbered 1 printed) ++ line ∷ (lined later).lines; left = (lined later).left })) two
    (after_line r can (omega (arith, k, small)) line (lined later).lines (lined later).left e (λ x c q. none x c (ap (λ m. numbered_line m x) k ∙ q))))

pub broken_off : (text rest : List ℕ) (asked : Spot) (day n : ℕ) (printed : List Printed) → IsSpot asked → day < DAYS → SoFar text (head_line asked day) printed rest → lined rest ≡ record { lines = []; left = rest }
    → n ≡ length printed → n < 2 ^ 65 → IsUnspelledAt (lined text) (n + 2)
unfolding front
broken_off text rest asked day n printed is lt s l k small =
    let r = Read asked day printed in
    let can = read_is text rest asked day printed is lt s in
    let at : lined text ≡ record { lines = (head_line asked day ∷ numbered 1 printed) ++ []; left = rest } = s.lines ∙ ap (with_lines (head_line asked day ∷ numbered 1 printed)) l in
    let two : length printed + 2 ≡ n + 2 = omega (arith, k) in
    subst (λ t. IsUnspelledAt t (n + 2)) (sym at) (subst (IsUnspelledAt (record { lines = (head_line asked day ∷ numbered 1 printed) ++ []; left = rest })) two (after_all r can (omega (arith, k, small)) rest))

-- ---- the first line

-- a report without lines
least : Spelled
least = record { asked = record { phrase = codes "none"; name = None }; day = 0; printed = [] }

least_is : IsSpelled least
unfolding least
least_is = record { asked = (none_phrase, tt); day = omega arith; printed = tt }

nothing_begins : BeginReport []
nothing_begins = (least, (report_lines least, (least_is, refl)))

pub no_first_line : (text : List ℕ) → lined text ≡ record { lines = []; left = text } → IsUnspelledAt (lined text) 1
no_first_line text e = subst (λ t. IsUnspelledAt t 1) (sym e) (inr (refl, (nothing_begins, λ r s. let f : [] ≡ report_lines r = s.1.0 in cc f)))

pub no_head : (text line : List ℕ) (t : Lined) → lined text ≡ with_line line t → ((x : Spot × ℕ) → IsAsked x → asked_line x ≡ line → ⊥) → IsUnspelledAt (lined text) 1
no_head text line t e none = subst (λ t. IsUnspelledAt t 1) (sym e) (inl (omega arith, (omega arith, (nothing_begins, no_line))))
  where
    no_line : BeginReport (line ∷ []) → ⊥
    no_line b =
        let s = same_items (head_line b.0.asked b.0.day) line (numbered_lines 1 b.0.printed) b.1.0 b.1.1.1 in
        none (b.0.asked, b.0.day) (b.1.1.0.asked, b.1.1.0.day) s.0
