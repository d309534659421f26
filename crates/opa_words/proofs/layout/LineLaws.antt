-- How a text is cut into lines.
use Rattle.std.proofs.Common.{◌≡◌, ℕ, ◌+◌, ◌<◌, List, [], ◌∷◌, length, Bool, true, false, cond, refl, sym, ap, ◌∙◌, arith}
use Rattle.std.specs.Prelude.{◌==◌}
use Rattle.std.specs.List.{slice_split, position_or_len, before_first, after_first, onto_first}
use Rattle.std.specs.Str.Lines.{strip_carriage_return}
use Rattle.std.proofs.lemmas.List.Splits.{slice_split_first, slice_split-cons_no, length-slice_split}
use Rattle.opa_words.specs.Layout.Lines.{numbered, rows_from}

starts : (p : ℕ → Bool) (x : ℕ) (xs : List ℕ) → p x ≡ true → position_or_len p (x ∷ xs) ≡ length (x ∷ xs) → ⊥
starts p x xs h f = grind (arith, h, f)

goes : (p : ℕ → Bool) (x : ℕ) (xs : List ℕ) → p x ≡ false → position_or_len p (x ∷ xs) ≡ length (x ∷ xs) → position_or_len p xs ≡ length xs
goes p x xs h f = grind (arith, h, f)

whole : (p : ℕ → Bool) (xs : List ℕ) → position_or_len p xs ≡ length xs → slice_split p xs ≡ xs ∷ []
whole p [] e = refl
whole p (x ∷ xs) e = go (p x) refl e (whole p xs)
  where
    go : (b : Bool) → p x ≡ b → position_or_len p (x ∷ xs) ≡ length (x ∷ xs) → (position_or_len p xs ≡ length xs → slice_split p xs ≡ xs ∷ []) → slice_split p (x ∷ xs) ≡ (x ∷ xs) ∷ []
    go true h f r = absurd (starts p x xs h f)
    go false h f r = slice_split-cons_no p x xs h ∙ ap (onto_first x) (r (goes p x xs h f))

ended : (n : ℕ) (x : List ℕ) (parts : List (List ℕ)) → 0 < length parts → numbered n (x ∷ parts) ≡ record { number = n; size = length x; text = strip_carriage_return x } ∷ numbered (n + 1) parts
ended n x [] h = absurd (omega (arith, h))
ended n x (y ∷ more) h = refl

pub rows_ended : (bs x rest : List ℕ) → position_or_len (λ b. b == 10) bs < length bs → x ≡ before_first (λ b. b == 10) bs → rest ≡ after_first (λ b. b == 10) bs → (n : ℕ)
    → rows_from n bs ≡ record { number = n; size = length x; text = strip_carriage_return x } ∷ rows_from (n + 1) rest
rows_ended bs x rest h p q n =
    ap (numbered n) (slice_split_first (λ b. b == 10) bs 0 h)
    ∙ ended n (before_first (λ b. b == 10) bs) (slice_split (λ b. b == 10) (after_first (λ b. b == 10) bs)) (omega (arith, length-slice_split (λ b. b == 10) (after_first (λ b. b == 10) bs)))
    ∙ ap (λ r. record { number = n; size = length (before_first (λ b. b == 10) bs); text = strip_carriage_return (before_first (λ b. b == 10) bs) } ∷ rows_from (n + 1) r) (sym q)
    ∙ ap (λ y. record { number = n; size = length y; text = strip_carriage_return y } ∷ rows_from (n + 1) rest) (sym p)

last : (n : ℕ) (x : List ℕ) (b : Bool) → (length x == 0) ≡ b → b ≡ false → numbered n (x ∷ []) ≡ record { number = n; size = length x; text = x } ∷ []
last n x b e f = ap (λ t. cond t [] (record { number = n; size = length x; text = x } ∷ [])) (e ∙ f)

pub rows_last : (bs : List ℕ) → position_or_len (λ b. b == 10) bs ≡ length bs → (length bs == 0) ≡ false → (n : ℕ) → rows_from n bs ≡ record { number = n; size = length bs; text = bs } ∷ []
rows_last bs h k n = ap (numbered n) (whole (λ b. b == 10) bs h) ∙ last n bs false k refl
