-- What is refused where nothing is answered yet.
use Rattle.std.proofs.Common.{◌≡◌, ◌≤◌, ◌+◌, ◌-◌, ℕ, Bool, true, false, cond, List, length, arith, refl, sym, ap, ◌∙◌}
use Rattle.std.specs.Prelude.{Some, None, is_some, nat_lt, not, ◌||◌}
use Rattle.std.specs.List.{list_all}
use Rattle.std.specs.FinMap.{empty, get, insert, remove, len, get-empty, len-empty, len-insert, len-remove}
use Rattle.opa_model.specs.declared.ids.AttrId.{AttrId}
use Rattle.opa_cells.specs.declared.instance.InstanceId.{InstanceId}
use Rattle.opa_cells.specs.Keys.{cell_cmp}
use Rattle.opa_cells.proofs.Orders.{cell_total}
use Rattle.opa_case.specs.declared.change.Refusal.TheVariants.{Name, Kind as WrongKind, Range, Limit}
use Rattle.opa_case.specs.Shapes.{Shape}
use Rattle.opa_case.specs.Live.{Population}
use Rattle.opa_case.specs.Cases.{Answer}
use Rattle.opa_case.specs.Steps.{is_unanswerable, is_unknown_answer, has_kind, in_bounds, answer_fault, with_answer}
use Rattle.opa_saved.specs.Loading.{living}

pub none_answered : (k : ℕ × InstanceId) → false ≡ is_some (get (empty {X = Answer} {R = cell_cmp}) k)
none_answered k = sym (ap is_some (get-empty cell_cmp k))

pub no_answers : 0 ≡ len (empty {X = Answer} {R = cell_cmp})
no_answers = sym (len-empty cell_cmp Answer)

few : (n : ℕ) → n ≤ 1 → nat_lt 100000 n ≡ false
few n h = grind (arith, h)

one_inserted : (k : ℕ × InstanceId) (line : Answer) → len (insert (empty {X = Answer} {R = cell_cmp}) k line) ≡ 1
one_inserted k line = len-insert cell_total empty k line ∙ ap (λ o. cond (is_some o) (len (empty {X = Answer} {R = cell_cmp})) (len (empty {X = Answer} {R = cell_cmp}) + 1)) (get-empty cell_cmp k) ∙ ap (λ n. n + 1) (len-empty cell_cmp Answer)

none_removed : (k : ℕ × InstanceId) → len (remove (empty {X = Answer} {R = cell_cmp}) k) ≡ 0
none_removed k = len-remove cell_total empty k ∙ ap (λ o. cond (is_some o) (len (empty {X = Answer} {R = cell_cmp}) - 1) (len (empty {X = Answer} {R = cell_cmp}))) (get-empty cell_cmp k) ∙ len-empty cell_cmp Answer

not_over : (live : Population) (a : AttrId) (i : InstanceId) (line : Answer) → nat_lt 100000 (len (with_answer (living live) a i line).answers) ≡ false
not_over live a i line = go (is_unknown_answer line)
  where
    go : (b : Bool) → nat_lt 100000 (len (cond b (record (living live) { answers = remove (living live).answers (a.0, i) }) (record (living live) { answers = insert (living live).answers (a.0, i) line })).answers) ≡ false
    go true = few _ (omega (arith, none_removed (a.0, i)))
    go false = few _ (omega (arith, one_inserted (a.0, i) line))

-- where all else passes, the number of pairs decides
pub pairs_decide : (s : Shape) (ruled : List Bool) (live : Population) (a : AttrId) (i : InstanceId) (line : Answer) (long : Bool)
    → is_unanswerable s ruled (living live) a i ≡ false → list_all (λ p. has_kind (s.attribute a).kind p.1) line ≡ true → list_all (λ p. in_bounds (s.attribute a) p.1) line ≡ true → nat_lt 1000 (length line) ≡ long
    → cond long (Some Limit) None ≡ answer_fault s ruled (living live) a i line
pairs_decide s ruled live a i line long free kind bounds size =
    let o = nat_lt 100000 (len (with_answer (living live) a i line).answers) in
    let last : cond (nat_lt 1000 (length line) || o) (Some Limit) None ≡ cond long (Some Limit) None = ap (λ b. cond (b || o) (Some Limit) None) size ∙ ap (λ b. cond (long || b) (Some Limit) None) (not_over live a i line) ∙ ap (λ b. cond b (Some Limit) None) (or_false long) in
    sym (ap (λ b. cond b (Some Name) (cond (not (list_all (λ p. has_kind (s.attribute a).kind p.1) line)) (Some WrongKind) (cond (not (list_all (λ p. in_bounds (s.attribute a) p.1) line)) (Some Range) (cond (nat_lt 1000 (length line) || o) (Some Limit) None)))) free
    ∙ ap (λ b. cond (not b) (Some WrongKind) (cond (not (list_all (λ p. in_bounds (s.attribute a) p.1) line)) (Some Range) (cond (nat_lt 1000 (length line) || o) (Some Limit) None))) kind
    ∙ ap (λ b. cond (not b) (Some Range) (cond (nat_lt 1000 (length line) || o) (Some Limit) None)) bounds
    ∙ last)
  where
    or_false : (b : Bool) → (b || false) ≡ b
    or_false true = refl
    or_false false = refl
