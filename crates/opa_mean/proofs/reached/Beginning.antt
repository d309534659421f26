-- A change begins: nothing is derived yet.
use Rattle.std.proofs.Common.{◌≡◌, inr, Bool, true, false, not, is_some, refl, ap}
use Rattle.std.specs.Prelude.{◌||◌}
use Rattle.opa_case.specs.declared.question.Question.{Question}
use Rattle.opa_case.specs.declared.question.Question.TheVariants as question
use Rattle.opa_tree.specs.Rules.{rule_of}
use Rattle.opa_mean.specs.Reached.Settling.{Lines, NoLines, Waiting, Shift, IsSettling, IsBegun, is_given, is_known}

pub begins : (s : Shift) (waiting : Waiting) → IsBegun s waiting → (staged : Lines) → NoLines staged → IsSettling s staged waiting
begins s waiting b staged empty = record {
  right = λ a i line e. absurd (cc (e, empty a i));
  dirty = λ a i e. absurd (cc (e, ap is_some (empty a i)));
  waits = b.only;
  apart = λ a i there. ap is_some (empty a i);
  order = λ a c i j e there. absurd (cc (e, ap is_some (empty a i)));
  fresh = λ a i slot fresh. inr (b.fresh a i slot fresh);
  readers = λ a i q slot reads told known. inr (b.given a i q slot reads (given q known) told);
}
  where
    or_none : (x y : Bool) → y ≡ false → (x || y) ≡ true → x ≡ true
    or_none true y e h = refl
    or_none false y e h = absurd (cc (e, h))

    given : (q : Question) → is_known s staged q ≡ true → is_given s.rules q ≡ true
    given (question.Attr a i) h = or_none (not (is_some (rule_of s.rules.rules a))) (is_some (staged a i)) (ap is_some (empty a i)) h
    given (question.Members q i) h = refl
