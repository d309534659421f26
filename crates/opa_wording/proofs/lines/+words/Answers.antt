use Rattle.std.proofs.Common.{◌≡◌, ◌++◌, ◌∷◌, [], map, false, sym, ap, ◌∙◌, append-nil}
use Rattle.std.specs.String.{string_bytes}
use Rattle.std.proofs.lemmas.Result.{on_ok_weaker}
use Rattle.opa_wording.specs.Wordings.{listed, over_days, wording}
use Rattle.opa_wording.proofs.FactorTexts.{factor_text, factor-Table}
use Rattle.opa_wording.proofs.TextLaws.{then_ended, one_part_more, not_first_after}
use Rattle.opa_wording.proofs.lines.+words.Goals as goal

pub push_days_in_brackets-returns : goal.push_days_in_brackets-returns
push_days_in_brackets-returns t c =
    on_ok_weaker c.push_end.result (λ (e : string_bytes c.push_end.new.out ≡ string_bytes c.push_over_days.new.out ++ 41 ∷ []).
    then_ended (string_bytes c.args.out.now) (string_bytes c.push_token.new.out) (string_bytes c.push_over_days.new.out) (string_bytes c.push_end.new.out) false (over_days c.args.days (wording c.args.model.now c.args.part.now))
    c.in_ok-push_token.ensures c.in_ok-push_over_days.ensures e) c.push_end.ensures

pub push_factor-returns-in-Table : goal.push_factor-returns-in-Table
push_factor-returns-in-Table t c =
    sym (ap (λ xs. string_bytes c.args.out.now ++ xs) (ap (factor_text c.args.model.now c.args.is_spaced) c.in-Table.is ∙ factor-Table c.args.model.now c.args.is_spaced c.in-Table.field-0 c.in-Table.field-1) ∙ append-nil (string_bytes c.args.out.now))

pub push_listed_in_brackets-returns : goal.push_listed_in_brackets-returns
push_listed_in_brackets-returns t c =
    on_ok_weaker c.push_end.result (λ (e : string_bytes c.push_end.new.out ≡ string_bytes c.push_listed.new.out ++ 41 ∷ []).
    then_ended (string_bytes c.args.out.now) (string_bytes c.push_token.new.out) (string_bytes c.push_listed.new.out) (string_bytes c.push_end.new.out) false (listed c.args.model.now c.args.rel (map (wording c.args.model.now) c.args.parts.now))
    c.in_ok-push_token.ensures c.in_ok-push_listed.ensures e) c.push_end.ensures

pub push_together-loop-part-preserved : goal.push_together-loop-part-preserved
push_together-loop-part-preserved t c = record {
  text = one_part_more (wording c.args.model.now) c.args.joint c.args.is_spaced c.args.is_first c.args.parts.now c.loop-part.part-index c.part-item.result (string_bytes c.args.out.now) (string_bytes c.loop-part.out) (string_bytes c.push_part.new.out) c.loop-part.first
      c.loop-part-test.true c.part-item.is c.loop-part.invariant.text c.loop-part.invariant.first c.in_ok-push_part.ensures;
  first = not_first_after (wording c.args.model.now) c.args.is_first c.args.parts.now c.loop-part.part-index c.part-item.result c.loop-part-test.true c.part-item.is;
}
