-- Equal sets of kinds.
use Rattle.std.proofs.Common.{◌≡◌, ◌∙◌, ◌&&◌, Bool, true, false, List, [], ◌∷◌, map, refl, sym, ap, ap₂}
use Rattle.std.specs.List.{list_all}
use Rattle.opa_model.specs.declared.things.Kind.{Kind}
use Rattle.opa_model.specs.declared.things.Kind.TheVariants as kind
use Rattle.opa_model.specs.declared.lists.Lists.{Lists}
use Rattle.opa_tree.specs.declared.expr.Expr.{Expr}
use Rattle.opa_tree.specs.declared.expr.Row.{Row}
use Rattle.opa_tree.specs.Kinds.{Typing, typed, typing, can_have, all_can}
use Rattle.opa_rulebase.specs.declared.checking.sets.KindSet.{KindSet}
use Rattle.opa_tree.proofs.KindLaws.{row_typing, typing-of_row}
use Rattle.opa_rulebase.specs.Checking.KindSets.{has, typing_of, row_can, row_typed}

at_each : (f g : Kind → Bool) → f kind.Bool ≡ g kind.Bool → f kind.Number ≡ g kind.Number → f kind.Currency ≡ g kind.Currency → f kind.Words ≡ g kind.Words → f kind.Date ≡ g kind.Date → (k : Kind) → f k ≡ g k
at_each f g b n c w d kind.Bool = b
at_each f g b n c w d kind.Number = n
at_each f g b n c w d kind.Currency = c
at_each f g b n c w d kind.Words = w
at_each f g b n c w d kind.Date = d

-- a set is told by what it has of each kind
pub same_typing : (s : KindSet) (can : Kind → Bool) (d : Bool) → s.is_decimals ≡ d
    → has s kind.Bool ≡ can kind.Bool → has s kind.Number ≡ can kind.Number → has s kind.Currency ≡ can kind.Currency → has s kind.Words ≡ can kind.Words → has s kind.Date ≡ can kind.Date
    → typing_of s ≡ record { can = can; is_decimals = d }
same_typing s can d e b n c w x i = record { can = λ k. at_each (has s) can b n c w x k i; is_decimals = e i }

all_both : (a b c : Bool) → (a && b) && c ≡ a && (b && c)
all_both true b c = refl
all_both false b c = refl

pub meets_more : (a b c : Kind → Bool) → typed (λ k. (a k && b k) && c k) ≡ typed (λ k. a k && (b k && c k))
meets_more a b c i = typed (λ k. all_both (a k) (b k) (c k) i)

and_true : (a : Bool) → a && true ≡ a
and_true true = refl
and_true false = refl

pub meets_none : (a : Kind → Bool) → typed (λ k. a k && true) ≡ typed a
meets_none a i = typed (λ k. and_true (a k) i)

-- each of the trees can have a kind
pub each_can : (m : Lists) (k : Kind) (es : List Expr) → list_all (λ e. can_have m e k) es ≡ all_can (map (typing m) es) k
each_can m k [] = refl
each_can m k (e ∷ es) = ap (λ b. can_have m e k && b) (each_can m k es)

rows_at : (m : Lists) (rows : List Row) (k : Kind) → all_can (map (λ row. typed (row_can m row)) rows) k ≡ list_all (λ row. row k) (map (row_typing m) rows)
rows_at m [] k = refl
rows_at m (r ∷ rows) k = ap₂ (λ a b. a && b) (λ i. sym (typing-of_row m r) i k) (rows_at m rows k)

-- each of the rows can have a kind
pub rows_can : (m : Lists) (rows : List Row) → typed (all_can (map (row_typed m) rows)) ≡ typed (λ k. list_all (λ row. row k) (map (row_typing m) rows))
unfolding row_typed
rows_can m rows i = typed (λ k. rows_at m rows k i)

-- a row by the kinds of its two trees
pub row_by : (m : Lists) (row : Row) (cond value : KindSet) → typing_of cond ≡ typing m row.cond → typing_of value ≡ typing m row.value → typed (λ k. cond.bools && has value k) ≡ row_typed m row
unfolding row_typed
row_by m row cond value c v = ap₂ (λ (s t : Typing). typed (λ k. s.can kind.Bool && t.can k)) c v
