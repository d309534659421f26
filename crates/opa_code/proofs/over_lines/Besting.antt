-- What the greatest or the least is told from, for joined lists, and what it tells.
use Rattle.std.proofs.Common.{◌≡◌, Bool, true, false, cond, List, ◌++◌, ◌||◌, sym, ◌∙◌, ap}
use Rattle.std.specs.List.{list_any}
use Rattle.std.proofs.lemmas.List.Folds.{list_any-append}
use Rattle.opa_value.specs.declared.value.Value.{Value}
use Rattle.opa_value.specs.declared.value.Value.TheVariants.{Unknown, Uncertain}
use Rattle.opa_value.specs.Truth.{is_unknown, is_uncertain, unless_open}
use Rattle.opa_mean.specs.Meaning.{first_value}
use Rattle.opa_code.specs.OverLines.Additions.{Alike}
use Rattle.opa_code.specs.OverLines.Extremes.{AreBests, AreBothBests, bests_in, told_best}
use Rattle.opa_code.specs.OverLines.Sweeps.{is_best}
use Rattle.opa_code.specs.OverLines.Tallies.{IsTally, gather_of, is_most}
use Rattle.opa_code.specs.declared.over_lines.bests.Bests.{Bests}
use Rattle.opa_code.specs.declared.over_lines.gathering.Gathering.{Gathering}
use Rattle.opa_code.specs.declared.over_lines.gathering.Gathering.TheVariants as gathering
use Rattle.opa_code.specs.declared.over_lines.marks.Marks.{Marks}
use Rattle.opa_code.specs.declared.over_lines.tally.Tally.{Tally}
use Rattle.opa_code.proofs.over_lines.Tallying.{both_peaks_are, best_is}

pub bests_both : (most : Bool) (vs ws : List Value) (s t r : Bests) → AreBests most vs s → AreBests most ws t → AreBothBests most s t r → AreBests most (vs ++ ws) r
bests_both most vs ws s t r h k b = record {
  unknown = b.unknown ∙ ap (λ x. x || t.unknown) h.unknown ∙ ap (λ x. list_any is_unknown vs || x) k.unknown ∙ sym (list_any-append is_unknown vs ws);
  uncertain = b.uncertain ∙ ap (λ x. x || t.uncertain) h.uncertain ∙ ap (λ x. list_any is_uncertain vs || x) k.uncertain ∙ sym (list_any-append is_uncertain vs ws);
  peaks = both_peaks_are most vs ws s.peaks t.peaks r.peaks h.peaks k.peaks b.peaks;
}

pub tally_bests : (most : Bool) (vs : List Value) (t : Tally) → IsTally most vs t → AreBests most vs (bests_in t)
tally_bests most vs t h = record {
  unknown = ap (λ (m : Marks). m.unknown) h.marks;
  uncertain = ap (λ (m : Marks). m.uncertain) h.marks;
  peaks = h.peaks;
}

pub bests_alike : (most : Bool) (vs ws : List Value) (t : Bests) → Alike vs ws → AreBests most vs t → AreBests most ws t
bests_alike most vs ws t a h = record {
  unknown = h.unknown ∙ ap (λ (m : Marks). m.unknown) a.marks;
  uncertain = h.uncertain ∙ ap (λ (m : Marks). m.uncertain) a.marks;
  peaks = record { number = h.peaks.number ∙ a.number most; day = h.peaks.day ∙ a.day most };
}

open_told : (vs : List Value) (t : Bests) (v : Value) → t.unknown ≡ list_any is_unknown vs → t.uncertain ≡ list_any is_uncertain vs → cond t.unknown Unknown (cond t.uncertain Uncertain v) ≡ unless_open vs v
open_told vs t v h k = ap (λ b. cond b Unknown (cond t.uncertain Uncertain v)) h ∙ ap (λ b. cond (list_any is_unknown vs) Unknown (cond b Uncertain v)) k

-- the best is what is gathered
pub best_gathered : (how : Gathering) (vs : List Value) (t : Bests) → is_best how ≡ true → AreBests (is_most how) vs t → told_best t (first_value vs) ≡ gather_of how vs
best_gathered (gathering.Best true) vs t best h = open_told vs t _ h.unknown h.uncertain ∙ ap (unless_open vs) (best_is true vs t.peaks h.peaks)
best_gathered (gathering.Best false) vs t best h = open_told vs t _ h.unknown h.uncertain ∙ ap (unless_open vs) (best_is false vs t.peaks h.peaks)
best_gathered gathering.All vs t best h = absurd (cc best)
best_gathered gathering.Any vs t best h = absurd (cc best)
best_gathered gathering.Open vs t best h = absurd (cc best)
best_gathered gathering.CountIf vs t best h = absurd (cc best)
best_gathered gathering.Sum vs t best h = absurd (cc best)
