-- Bytes that are held back, and passed on later.
use Rattle.std.proofs.Common.{[], sym, refl, append-nil, ◌≡◌, ◌≤◌, ◌+◌, ◌-◌, ℕ, List, ◌++◌, length, take, drop, drop-drop, Some, None, Result, Ok, Err, ◌∙◌, ap, append_assoc, arith}
use Rattle.std.proofs.lemmas.Grind.{common_steps}
use Rattle.std.proofs.lemmas.List.{take-append-drop}
use Rattle.std.specs.declared.option.Option.{Option}
use Rattle.std.specs.Io.KnownBytes.{Appends, Keeps}
use Rattle.opa_io.specs.Gathering.{with_rest}
use Rattle.opa_io.specs.Outside.{Writes}

-- what is known stays
pub Keeps-refl : (a : Option (List ℕ)) → Keeps a a
Keeps-refl None = tt
Keeps-refl (Some a) = refl

-- what stays twice, stays
pub Keeps-Keeps : (a b c : Option (List ℕ)) → Keeps a b → Keeps b c → Keeps a c
Keeps-Keeps None b c p q = tt
Keeps-Keeps (Some a) None c p q = absurd p
Keeps-Keeps (Some a) (Some b) None p q = absurd q
Keeps-Keeps (Some a) (Some b) (Some c) p q = q ∙ p

-- what was appended to bytes that stayed was appended to them
pub Keeps-Appends : (a b c : Option (List ℕ)) (xs : List ℕ) → Keeps a b → Appends b c xs → Appends a c xs
Keeps-Appends None b c xs p q = tt
Keeps-Appends (Some a) None c xs p q = absurd p
Keeps-Appends (Some a) (Some b) None xs p q = absurd q
Keeps-Appends (Some a) (Some b) (Some c) xs p q = q ∙ ap (λ s. s ++ xs) p

-- nothing is held back
pub with_none : (a : Option (List ℕ)) → with_rest a 0 [] ≡ a
with_none None = refl
with_none (Some a) = ap (λ s. Some s) (append-nil a)

-- the slice from n on is what is dropped
rest_is_drop : (n : ℕ) (xs : List ℕ) → take (length xs - n) (drop n xs) ≡ drop n xs
rest_is_drop n xs = grind (arith, common_steps)

-- a slice from a place on, of which a front is taken, and what is left then
slice_parts : (n m : ℕ) (xs : List ℕ) → take m (take (length xs - n) (drop n xs)) ++ drop (n + m) xs ≡ drop n xs
slice_parts n m xs =
    ap (λ s. take m s ++ drop (n + m) xs) (rest_is_drop n xs) ∙ ap (λ s. take m (drop n xs) ++ s) (sym (drop-drop m n xs)) ∙ take-append-drop m (drop n xs)

-- a front of what was held back was passed on
pub passed_more : (a b c : Option (List ℕ)) (n m : ℕ) (xs : List ℕ) → Keeps a (with_rest b n xs) → Appends b c (take m (take (length xs - n) (drop n xs)))
    → Keeps a (with_rest c (n + m) xs)
passed_more None b c n m xs p q = tt
passed_more (Some a) None c n m xs p q = absurd p
passed_more (Some a) (Some b) None n m xs p q = absurd q
passed_more (Some a) (Some b) (Some c) n m xs p q =
    ap (λ s. s ++ drop (n + m) xs) q ∙ append_assoc b (take m (take (length xs - n) (drop n xs))) (drop (n + m) xs) ∙ ap (λ s. b ++ s) (slice_parts n m xs) ∙ p

-- a front of a slice from a place on lies within
pub passed_within : (n m : ℕ) (xs : List ℕ) → n ≤ length xs → m ≤ length (take (length xs - n) (drop n xs)) → n + m ≤ length xs
passed_within n m xs p q = grind (arith, common_steps, p, q)

-- nothing is held back
dropped_none : (n : ℕ) (xs : List ℕ) → xs ≡ [] → drop n xs ≡ []
dropped_none n xs e = grind (arith, common_steps, e)

kept_through : (a b c : Option (List ℕ)) (n : ℕ) → Keeps a (with_rest b n []) → Keeps b c → Keeps a (with_rest c n [])
kept_through None b c n p q = tt
kept_through (Some a) None c n p q = absurd p
kept_through (Some a) (Some b) None n p q = absurd q
kept_through (Some a) (Some b) (Some c) n p q = ap (λ s. s ++ drop n []) q ∙ p

appended_through : (a b c : Option (List ℕ)) (n : ℕ) (xs : List ℕ) → Keeps a (with_rest b n []) → Appends b c xs → Appends a (with_rest c n []) xs
appended_through None b c n xs p q = tt
appended_through (Some a) None c n xs p q = absurd p
appended_through (Some a) (Some b) None n xs p q = absurd q
appended_through (Some a) (Some b) (Some c) n xs p q =
    let none = dropped_none n [] refl in
    let back : b ≡ a = sym (append-nil b) ∙ ap (λ s. b ++ s) (sym none) ∙ p in
    ap (λ s. c ++ s) none ∙ append-nil c ∙ q ∙ ap (λ s. s ++ xs) back

-- what is written where nothing is held back
pub written_through : {E : Type 0} (a b c : Option (List ℕ)) (n : ℕ) (held piece : List ℕ) (r : Result ℕ E) → held ≡ [] → Keeps a (with_rest b n held)
    → Writes b c r piece → Writes a (with_rest c n held) r piece
written_through a b c n held piece (Ok k) e p q = (q.0, q.1, rw e (appended_through a b c n (take k piece) (rw e at p) q.2))
written_through a b c n held piece (Err f) e p q = rw e (kept_through a b c n (rw e at p) q)

-- what is passed on where nothing is held back
pub flushed_through : (a b c : Option (List ℕ)) (n : ℕ) (held : List ℕ) → held ≡ [] → Keeps a (with_rest b n held) → Keeps b c → Keeps a (with_rest c n held)
flushed_through a b c n held e p q = rw e (kept_through a b c n (rw e at p) q)

more_rest : (n : ℕ) (xs ys : List ℕ) → n ≤ length xs → drop n (xs ++ ys) ≡ drop n xs ++ ys
more_rest n xs ys le = grind (arith, common_steps, le)

-- bytes are put behind those that are held back
pub gathered_more : (a : Option (List ℕ)) (n : ℕ) (xs ys : List ℕ) → n ≤ length xs → Appends (with_rest a n xs) (with_rest a n (xs ++ ys)) ys
gathered_more None n xs ys le = tt
gathered_more (Some a) n xs ys le = ap (λ s. a ++ s) (more_rest n xs ys le) ∙ sym (append_assoc a (drop n xs) ys)
