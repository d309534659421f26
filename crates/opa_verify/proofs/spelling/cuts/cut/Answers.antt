use Rattle.std.proofs.Common.{ℕ, List, [], ◌∷◌, ◌++◌, ◌+◌, ◌||◌, not, sym, subst, ap, ◌∙◌}
use Rattle.opa_io.proofs.Bools.{or_true}
use Rattle.opa_verify.specs.Spelling.Cuts.{is_mark}
use Rattle.opa_verify.proofs.spelling.Cutting.{Passed, passed_quote, passed_plain}
use Rattle.opa_verify.proofs.spelling.cuts.cut.Goals as goal
use Rattle.opa_verify.proofs.spelling.cuts.cut.Goals.{then-byte-eq34, else-byte-eq34+else-not-inside, else-not-inside-via-then-not-inside+else-is_mark, else-not-inside-via-else-not-inside}

pub loop-byte-preserved : goal.loop-byte-preserved
loop-byte-preserved c =
    let text = c.args.text.now in let front = c.loop-byte.invariant.0 in let rest = c.loop-byte.rest.now in let later = c.in-Some.later.now in
    let inside = c.loop-byte.inside in let count = c.loop-byte.count in let b = c.in-Some.byte.now in
    elim c.if-byte-eq34.branch [
      | then-byte-eq34 w ↦ subst (λ n. (x : List ℕ) × Passed text x later n (count + 1)) (sym w.inside-is) (front ++ b ∷ [], passed_quote text front rest later inside count b c.loop-byte.invariant.1 c.in-Some.ensures w.if-byte-eq34.true)
      | else-byte-eq34+else-not-inside w ↦ subst (λ n. (x : List ℕ) × Passed text x later n (count + 1)) (sym w.inside-is) (
        front ++ b ∷ [],
        elim w.else-not-inside.branch [
          | else-not-inside-via-then-not-inside+else-is_mark w' ↦ passed_plain text front rest later inside count b c.loop-byte.invariant.1 c.in-Some.ensures w.if-byte-eq34.false (ap (λ t. inside || not t) (sym w'.is_mark.ensures ∙ w'.if-is_mark.false) ∙ or_true inside)
          | else-not-inside-via-else-not-inside w' ↦ passed_plain text front rest later inside count b c.loop-byte.invariant.1 c.in-Some.ensures w.if-byte-eq34.false (ap (λ t. t || not (is_mark b)) w'.if-not-inside.false)
        ],
      )
    ]
