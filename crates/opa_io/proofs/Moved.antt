-- Bytes that a read moves into the front of a buffer.
use Rattle.std.proofs.Common.{◌≡◌, ◌<◌, ◌≤◌, ◌+◌, ◌-◌, min, ℕ, List, [], ◌++◌, take, drop, length, length-append, length-drop, arith, ap, sym, ◌∙◌}
use Rattle.std.proofs.lemmas.List.{take-append-drop, drop_all, length-take-le, take-append-le, take_all}
use Rattle.std.proofs.lemmas.Grind.{common_steps}

drop_drop : (i j : ℕ) (xs : List ℕ) → drop j (drop i xs) ≡ drop (i + j) xs
drop_drop i j xs = grind (arith, common_steps)

module _ (bytes buf new : List ℕ) (at count piece : ℕ) (inside : at ≤ length bytes) (some : 0 < piece)
    (least : count ≡ min (min (length buf) piece) (length bytes - at)) (is : new ≡ take (at + count - at) (drop at bytes)) where
  moved_is : new ≡ take count (drop at bytes)
  moved_is = is ∙ ap (λ n. take n (drop at bytes)) (omega arith)

  pub moved : drop at bytes ≡ take count (new ++ drop count buf) ++ drop (at + count) bytes
  moved =
      let left : count ≤ length (drop at bytes) = omega (arith, length-drop at bytes) in
      let full : length new ≡ count = ap length moved_is ∙ length-take-le count (drop at bytes) left in
      sym (take-append-drop count (drop at bytes))
      ∙ ap (λ s. s ++ drop count (drop at bytes)) (sym (take-append-le count new (drop count buf) (omega arith) ∙ take_all count new (omega arith) ∙ moved_is))
      ∙ ap (λ s. take count (new ++ drop count buf) ++ s) (drop_drop at count bytes)

  pub moved_none : count ≡ 0 → 0 < length (new ++ drop count buf) → drop (at + count) bytes ≡ []
  moved_none none room = drop_all (at + count) bytes (omega (arith, length-append new (drop count buf), length-drop count buf, ap length moved_is, length-take-le count (drop at bytes) (omega (arith, length-drop at bytes))))
