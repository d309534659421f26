-- A line walked pair by pair, and the line of a function's answers.
use Rattle.std.proofs.Common.{◌≡◌, inl, inr, ℕ, ◌-◌, ◌<◌, ◌≤◌, cond, List, [], ◌∷◌, Some, length, refl, sym, ◌∙◌, ap, subst, arith}
use Rattle.std.specs.Prelude.{slice_index_or, Result, Ok, take, drop}
use Rattle.std.specs.Fn.{Shared}
use Rattle.std.proofs.lemmas.Bool.{cases_lt, le-leb}
use Rattle.std.proofs.lemmas.Grind.{common_steps}
use denote.Ref.{Bor}
use Rattle.opa_line.specs.Lines.{value_from, at, IsLine}
use Rattle.opa_line.specs.Growth.{Grown}
use Rattle.opa_line.specs.Pointwise.{EachDay, Maps}
use Rattle.opa_line.specs.Walks.{next_of}
use Rattle.opa_line.proofs.Tracking.{IsBefore, Tracks, tracks_still, begins, now}

module _ {F X Z E : Type 0} (g : Shared F (Bor X × Unit {0}) (Result Z E)) (f : F) (end : ℕ) (xs : List (ℕ × X)) where
  -- x is the line's value at the day up to which the answers go
  pub record Mapped (x : X) (l : List (ℕ × X)) (out : ℕ × List (ℕ × Z)) : Type 0 where
    pub day : out.0 < end
    pub left : Tracks end xs out.0 x l
    pub values : EachDay (Maps g f xs) out.0 out.1

  pub mapped_start : (x : ℕ × X) (out : ℕ × List (ℕ × Z)) → IsLine end xs → 0 < end → out ≡ (0, [])
      → Mapped (slice_index_or xs 0 x).1 (take (length xs - 1) (drop 1 xs)) out
  mapped_start x out h pos is =
      subst (Mapped (slice_index_or xs 0 x).1 (take (length xs - 1) (drop 1 xs))) (sym is)
      record { day = pos; left = begins end xs x h; values = λ d lt. absurd (omega arith) }

  pub mapped_now : (x : X) (l : List (ℕ × X)) (out : ℕ × List (ℕ × Z)) → Mapped x l out → (out.0 < end) × (at xs out.0 ≡ Some x)
  mapped_now x l out m = (m.day, now end xs out.0 x l m.left)

  -- the answer holds up to a day that no change point lies before
  answered : (x : Bor X) (l : List (ℕ × X)) (out new : ℕ × List (ℕ × Z)) (n : ℕ) (z : Z) → Mapped x.now l out
      → ((d : ℕ) → d < n → IsBefore d (next_of l)) → g.post f (x, tt) (Ok z) → Grown out n z new → EachDay (Maps g f xs) n new.1
  answered x l out new n z m before says grown d lt = elim (cases_lt d out.0) [
    | inl early ↦ let v = m.values d early in (v.0, v.1, grown.before d early ∙ v.2)
    | inr late ↦ (z, record { first = x; left = tracks_still end xs out.0 x.now l m.left d late (before d lt); says = says }, grown.from d late lt)
  ]

  mapped_next : (x : Bor X) (p : ℕ × X) (l : List (ℕ × X)) (out new : ℕ × List (ℕ × Z)) (z : Z) → Mapped x.now (p ∷ l) out
      → g.post f (x, tt) (Ok z) → Grown out p.0 z new → Mapped p.1 l new
  mapped_next x p l out new z m says grown =
      let h = m.left.follows in
      let upto : p.0 ≡ new.0 = sym (grown.upto.0 (omega (arith, h.0))) in
      let there : Tracks end xs p.0 p.1 l = record {
        follows = h.3;
        tells = λ d le. m.left.tells d (omega (arith, h.0)) ∙ ap (λ b. Some (cond b (value_from p.1 l d) x.now)) (le-leb p.0 d le);
      } in
      record {
        day = subst (λ k. k < end) upto h.1;
        left = subst (λ k. Tracks end xs k p.1 l) upto there;
        values = subst (λ k. EachDay (Maps g f xs) k new.1) upto (answered x (p ∷ l) out new p.0 z m (λ d lt. lt) says grown);
      }

  pub mapped_step : (x : Bor X) (q : ℕ × X) (l : List (ℕ × X)) (out new : ℕ × List (ℕ × Z)) (z : Z) → Mapped x.now l out → 1 ≤ length l → q ≡ slice_index_or l 0 q
      → g.post f (x, tt) (Ok z) → Grown out q.0 z new → Mapped q.1 (take (length l - 1) (drop 1 l)) new
  mapped_step x q [] out new z m some is says grown = absurd (omega arith)
  mapped_step x q (p ∷ l) out new z m some is says grown =
      let e : take (length (p ∷ l) - 1) l ≡ l = grind (arith, common_steps) in
      subst (λ r. Mapped r.1 (take (length (p ∷ l) - 1) l) new) (sym is)
      (subst (λ r. Mapped p.1 r new) (sym e) (mapped_next x p l out new z m says (subst (λ r. Grown out r.0 z new) is grown)))

  pub mapped_end : (x : Bor X) (l : List (ℕ × X)) (out new : ℕ × List (ℕ × Z)) (z : Z) → Mapped x.now l out → length l < 1
      → g.post f (x, tt) (Ok z) → Grown out end z new → (new.0 ≡ end) × EachDay (Maps g f xs) end new.1
  mapped_end x [] out new z m none says grown = (grown.upto.0 (omega (arith, m.day)), answered x [] out new end z m (λ d lt. tt) says grown)
  mapped_end x (p ∷ l) out new z m none says grown = absurd (omega arith)

-- a line of one pair
pub only_pair : {X : Type 0} (l : List (ℕ × X)) (x : ℕ × X) (d : ℕ) → length l ≡ 1 → at l d ≡ Some (slice_index_or l 0 x).1
only_pair [] x d is = absurd (omega (arith, is))
only_pair (p ∷ []) x d is = refl
only_pair (p ∷ q ∷ l) x d is = absurd (omega (arith, is))
