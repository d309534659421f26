-- Two lines walked side by side, and the line of a function's answers.
use Rattle.std.proofs.Common.{◌≡◌, inl, inr, ℕ, ◌-◌, ◌<◌, List, [], None, Some, length, sym, ◌∙◌, ap, subst, arith}
use Rattle.std.specs.Prelude.{slice_index_or, Result, Ok, Err, IfOk, take, drop}
use Rattle.std.specs.Fn.{Shared}
use Rattle.std.proofs.lemmas.Bool.{cases_lt}
use denote.Ref.{Bor}
use Rattle.opa_line.specs.Lines.{value_or, StandsFor, at, IsLine}
use Rattle.opa_line.specs.Growth.{Grown}
use Rattle.opa_line.specs.Pointwise.{EachDay, Joins, Maps}
use Rattle.opa_line.specs.Walks.{next_of, reached_value, reached_rest, earlier}
use Rattle.opa_line.proofs.Tracking.{IsBefore, Tracks, before_earlier, tracks_still, tracks_reached, begins, now, next_day}

module _ {F X Y Z E : Type 0} (g : Shared F (Bor X × (Bor Y × Unit {0})) (Result Z E)) (f : F) (end : ℕ) (xs : List (ℕ × X)) (ys : List (ℕ × Y)) where
  -- x and y are the values of both lines at the day up to which the answers go
  pub record Joined (x : X) (y : Y) (l : List (ℕ × X)) (m : List (ℕ × Y)) (out : ℕ × List (ℕ × Z)) : Type 0 where
    pub day : out.0 < end
    pub left : Tracks end xs out.0 x l
    pub right : Tracks end ys out.0 y m
    pub values : EachDay (Joins g f xs ys) out.0 out.1

  pub joined_start : (x : ℕ × X) (y : ℕ × Y) (out : ℕ × List (ℕ × Z)) → IsLine end xs → IsLine end ys → 0 < end → out ≡ (0, [])
      → Joined (slice_index_or xs 0 x).1 (slice_index_or ys 0 y).1 (take (length xs - 1) (drop 1 xs)) (take (length ys - 1) (drop 1 ys)) out
  joined_start x y out hx hy pos is =
      subst (Joined (slice_index_or xs 0 x).1 (slice_index_or ys 0 y).1 (take (length xs - 1) (drop 1 xs)) (take (length ys - 1) (drop 1 ys))) (sym is)
      record { day = pos; left = begins end xs x hx; right = begins end ys y hy; values = λ d lt. absurd (omega arith) }

  -- both lines at the day up to which the answers go
  pub joined_now : (x : X) (y : Y) (l : List (ℕ × X)) (m : List (ℕ × Y)) (out : ℕ × List (ℕ × Z)) → Joined x y l m out → (out.0 < end) × (at xs out.0 ≡ Some x) × (at ys out.0 ≡ Some y)
  joined_now x y l m out j = (j.day, now end xs out.0 x l j.left, now end ys out.0 y m j.right)

  -- the answer holds up to a day that no change point lies before
  answered : (x : Bor X) (y : Bor Y) (l : List (ℕ × X)) (m : List (ℕ × Y)) (out new : ℕ × List (ℕ × Z)) (n : ℕ) (z : Z) → Joined x.now y.now l m out
      → ((d : ℕ) → d < n → IsBefore d (earlier (next_of l) (next_of m))) → g.post f (x, (y, tt)) (Ok z) → Grown out n z new → EachDay (Joins g f xs ys) n new.1
  answered x y l m out new n z j before says grown d lt = elim (cases_lt d out.0) [
    | inl early ↦ let v = j.values d early in (v.0, v.1, grown.before d early ∙ v.2)
    | inr late ↦
        let b = before_earlier (next_of l) (next_of m) d (before d lt) in (
          z,
          record {
            first = x;
            second = y;
            left = tracks_still end xs out.0 x.now l j.left d late b.0;
            right = tracks_still end ys out.0 y.now m j.right d late b.1;
            says = says;
          },
          grown.from d late lt,
        )
  ]

  pub joined_next : (x : Bor X) (y : Bor Y) (l : List (ℕ × X)) (m : List (ℕ × Y)) (out new : ℕ × List (ℕ × Z)) (day : ℕ) (z : Z) → Joined x.now y.now l m out
      → earlier (next_of l) (next_of m) ≡ Some day → g.post f (x, (y, tt)) (Ok z) → Grown out day z new
      → Joined (reached_value day x.now l) (reached_value day y.now m) (reached_rest day l) (reached_rest day m) new
  joined_next x y l m out new day z j is says grown =
      let n = next_day end out.0 x.now l y.now m day j.left.follows j.right.follows is in
      let upto : day ≡ new.0 = sym (grown.upto.0 (omega (arith, n.0))) in
      record {
        day = subst (λ k. k < end) upto n.1;
        left = subst (λ k. Tracks end xs k (reached_value day x.now l) (reached_rest day l)) upto (tracks_reached end xs out.0 x.now l day j.left n.0 n.2);
        right = subst (λ k. Tracks end ys k (reached_value day y.now m) (reached_rest day m)) upto (tracks_reached end ys out.0 y.now m day j.right n.0 n.3);
        values = subst (λ k. EachDay (Joins g f xs ys) k new.1) upto
            (answered x y l m out new day z j (λ d lt. subst (IsBefore d) (sym is) lt) says grown);
      }

  pub joined_end : (x : Bor X) (y : Bor Y) (l : List (ℕ × X)) (m : List (ℕ × Y)) (out new : ℕ × List (ℕ × Z)) (z : Z) → Joined x.now y.now l m out
      → earlier (next_of l) (next_of m) ≡ None → g.post f (x, (y, tt)) (Ok z) → Grown out end z new → (new.0 ≡ end) × EachDay (Joins g f xs ys) end new.1
  joined_end x y l m out new z j is says grown =
      (grown.upto.0 (omega (arith, j.day)), answered x y l m out new end z j (λ d lt. subst (IsBefore d) (sym is) tt) says grown)

pub ok_weaker : {T E : Type 0} (r : Result T E) (P Q : T → Type 0) → ((x : T) → P x → Q x) → IfOk r P → IfOk r Q
ok_weaker (Ok x) P Q h p = h x p
ok_weaker (Err e) P Q h p = tt

-- a line of answers stands for the function that the answers are
module _ {F X Y Z E : Type 0} (g : Shared F (Bor X × (Bor Y × Unit {0})) (Result Z E)) (f : F) (op : X → Y → Z) (x : X) (y : Y) where
  pub joined_stands : (end : ℕ) (xs : List (ℕ × X)) (ys : List (ℕ × Y)) (l : List (ℕ × Z)) → ((p : Bor X) (q : Bor Y) (z : Z) → g.post f (p, (q, tt)) (Ok z) → z ≡ op p.now q.now)
      → EachDay (Joins g f xs ys) end l → StandsFor end (λ d. op (value_or x (at xs d)) (value_or y (at ys d))) l
  joined_stands end xs ys l means each d lt =
      let e = each d lt in let j = e.1 in
      e.2 ∙ ap Some (means j.first j.second e.0 j.says ∙ ap (λ v. op (value_or x v) j.second.now) (sym j.left) ∙ ap (λ v. op (value_or x (at xs d)) (value_or y v)) (sym j.right))

module _ {F X Z E : Type 0} (g : Shared F (Bor X × Unit {0}) (Result Z E)) (f : F) (op : X → Z) (x : X) where
  pub mapped_stands : (end : ℕ) (xs : List (ℕ × X)) (l : List (ℕ × Z)) → ((p : Bor X) (z : Z) → g.post f (p, tt) (Ok z) → z ≡ op p.now)
      → EachDay (Maps g f xs) end l → StandsFor end (λ d. op (value_or x (at xs d))) l
  mapped_stands end xs l means each d lt =
      let e = each d lt in let j = e.1 in
      e.2 ∙ ap Some (means j.first e.0 j.says ∙ ap (λ v. op (value_or x v)) (sym j.left))
