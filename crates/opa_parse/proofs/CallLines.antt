-- How many lines stand in a call of a function.
use Rattle.std.proofs.Common.{◌≡◌, ℕ, ◌+◌, ◌-◌, ◌==◌, ◌<◌, ◌≤◌, min, nat_lt, List, [], ◌∷◌, ◌++◌, length, Bool, true, false, if◌then◌else◌, Some, None, refl, sym, ap, ◌∙◌, arith}
use Rattle.opa_tree.specs.declared.kinds.OpKind.TheVariants as op
use Rattle.opa_tree.specs.Trees.{op_arity, quant_arity, window_arity}
use Rattle.opa_sentence.specs.declared.functions.Argument.{Argument}
use Rattle.opa_sentence.specs.declared.functions.Argument.TheVariants as argument
use Rattle.opa_sentence.specs.declared.functions.Function.{Function}
use Rattle.opa_sentence.specs.declared.functions.Function.TheVariants as function
use Rattle.opa_sentence.specs.declared.reading.Reading.{Reading}
use Rattle.opa_sentence.specs.Functions.{argument_at, line_at}

abbrev pub lines_before : Function → ℕ → ℕ
lines_before (function.Op op.Round) n = min n 1
lines_before (function.Op k) n = n
lines_before function.Certain n = n
lines_before function.Known n = n
lines_before (function.Over q) n = n - 1
lines_before (function.Window k) n = n
lines_before (function.Rolling always) n = n - 1

abbrev pub lines_in : Function → ℕ
lines_in (function.Op op.Round) = 1
lines_in (function.Op k) = op_arity k
lines_in function.Certain = 1
lines_in function.Known = 1
lines_in (function.Over q) = quant_arity q
lines_in (function.Window k) = window_arity k
lines_in (function.Rolling always) = 1

abbrev pub grows : Argument → ℕ
grows argument.Line = 1
grows argument.Relation = 0
grows argument.Number = 0

pub is_line : (c n : ℕ) (x : Argument) → line_at c n ≡ Some x → (x ≡ argument.Line) × (n < c)
is_line c n x e = at (nat_lt n c) refl e
  where
    at : (k : Bool) → nat_lt n c ≡ k → (if k then Some argument.Line else None) ≡ Some x → (x ≡ argument.Line) × (n < c)
    at true h p = (cc p, grind (arith, h))
    at false h p = absurd (cc p)

pub is_past : (c n : ℕ) → line_at c n ≡ None → c ≤ n
is_past c n e = at (nat_lt n c) refl e
  where
    at : (k : Bool) → nat_lt n c ≡ k → (if k then Some argument.Line else None) ≡ None → c ≤ n
    at true h p = absurd (cc p)
    at false h p = grind (arith, h)

pub plain_step : (c n : ℕ) (x : Argument) → line_at c n ≡ Some x → n + 1 ≡ n + grows x
plain_step c n x e = ap (λ y. n + grows y) (sym (is_line c n x e).0)

-- a first argument that is no line, and then lines
pub after_first : (c n : ℕ) (f x : Argument) (k : Bool) → grows f ≡ 0 → (n == 0) ≡ k → (if k then Some f else line_at c (n - 1)) ≡ Some x → ((n + 1) - 1 ≡ (n - 1) + grows x) × (n ≤ c)
after_first c n f x true z h e =
    let zero : n ≡ 0 = grind (arith, h) in
    let same : grows x ≡ 0 = ap grows (let q : x ≡ f = cc e in q) ∙ z in
    (omega (arith, zero, same), omega (arith, zero))
after_first c n f x false z h e =
    let l = is_line c (n - 1) x e in
    let one : grows x ≡ 1 = ap grows l.0 in
    let some : 1 ≤ n = grind (arith, h) in
    (omega (arith, one, some), omega (arith, l.1, some))

pub no_more : (c n : ℕ) (f : Argument) (k : Bool) → ((n + 1) == 0) ≡ k → (if k then Some f else line_at c ((n + 1) - 1)) ≡ None → c ≤ n
no_more c n f true h e = absurd (cc e)
no_more c n f false h e = let l = is_past c ((n + 1) - 1) e in omega (arith, l)

pub round_step : (n : ℕ) (x : Argument) (k : Bool) → (n == 1) ≡ k → (if k then Some argument.Number else line_at 1 n) ≡ Some x → min (n + 1) 1 ≡ min n 1 + grows x
round_step n x true h e =
    let one : n ≡ 1 = grind (arith, h) in
    let none : grows x ≡ 0 = ap grows (let q : x ≡ argument.Number = cc e in q) in
    omega (arith, one, none)
round_step n x false h e =
    let l = is_line 1 n x e in
    let one : grows x ≡ 1 = ap grows l.0 in
    omega (arith, one, l.1)

pub step : (f : Function) (n : ℕ) (x : Argument) → argument_at f n ≡ Some x → lines_before f (n + 1) ≡ lines_before f n + grows x
step (function.Op op.Round) n x e = round_step n x (n == 1) refl e
step (function.Op k) n x e = plain_step (op_arity k) n x e
step function.Certain n x e = plain_step 1 n x e
step function.Known n x e = plain_step 1 n x e
step (function.Over q) n x e = (after_first (quant_arity q) n argument.Relation x (n == 0) refl refl e).0
step (function.Window k) n x e = plain_step (window_arity k) n x e
step (function.Rolling always) n x e = (after_first 1 n argument.Number x (n == 0) refl refl e).0

pub plain_end : (c n : ℕ) (x : Argument) → line_at c n ≡ Some x → line_at c (n + 1) ≡ None → n + 1 ≡ c
plain_end c n x e h = let l = is_line c n x e in let p = is_past c (n + 1) h in omega (arith, l.1, p)

pub later_end : (c n : ℕ) → n ≤ c → c ≤ n → (n + 1) - 1 ≡ c
later_end c n p q = omega (arith, p, q)

pub complete : (f : Function) (n : ℕ) (x : Argument) → argument_at f n ≡ Some x → argument_at f (n + 1) ≡ None → lines_before f (n + 1) ≡ lines_in f
complete (function.Op op.Round) n x e h = omega arith
complete (function.Op k) n x e h = plain_end (op_arity k) n x e h
complete function.Certain n x e h = plain_end 1 n x e h
complete function.Known n x e h = plain_end 1 n x e h
complete (function.Over q) n x e h = later_end (quant_arity q) n (after_first (quant_arity q) n argument.Relation x (n == 0) refl refl e).1 (no_more (quant_arity q) n argument.Relation ((n + 1) == 0) refl h)
complete (function.Window k) n x e h = plain_end (window_arity k) n x e h
complete (function.Rolling always) n x e h = later_end 1 n (after_first 1 n argument.Number x (n == 0) refl refl e).1 (no_more 1 n argument.Number ((n + 1) == 0) refl h)

pub none_before : (f : Function) → 0 ≡ lines_before f 0
none_before (function.Op op.Round) = refl
none_before (function.Op k) = refl
none_before function.Certain = refl
none_before function.Known = refl
none_before (function.Over q) = refl
none_before (function.Window k) = refl
none_before (function.Rolling always) = refl

pub line_last : (rs : List Reading) (x : Reading) → length (rs ++ x ∷ []) ≡ length rs + 1
line_last [] x = omega arith
line_last (r ∷ rs) x = omega (arith, line_last rs x)
