-- Lines of tallies.
use Rattle.std.proofs.Common.{◌≡◌, ℕ, ◌<◌, ◌≤◌, get_or, take, drop, arith, Bool, true, List, [], ◌∷◌, ◌++◌, Some, length, refl, sym, ◌∙◌, ap, subst}
use Rattle.std.specs.Prelude.{Result, Ok, Option, None, IfSome}
use Rattle.std.specs.Fn.{Shared}
use Rattle.std.proofs.lemmas.List.{map-append, take-append-drop}
use denote.Ref.{Bor}
use Rattle.opa_date.specs.declared.TheConstants.{DAYS}
use Rattle.opa_value.specs.declared.value.Value.{Value}
use Rattle.opa_value.specs.declared.value.Value.TheVariants.{Unknown}
use Rattle.opa_line.specs.Lines.{at, value_or, IsLine, StandsFor}
use Rattle.opa_line.specs.Pointwise.{EachDay, Joins}
use Rattle.opa_mean.specs.Meaning.{first_value}
use Rattle.opa_window.specs.Days.{day_value}
use Rattle.opa_code.specs.OverLines.Lines.{Has, values_at}
use Rattle.opa_code.specs.OverLines.Extremes.{AreBests, AreBothBests, told_best}
use Rattle.opa_code.specs.OverLines.Sweeps.{is_best}
use Rattle.opa_code.specs.OverLines.Tallies.{gather_of, is_most}
use Rattle.opa_code.specs.declared.over_lines.gathering.Gathering.{Gathering}
use Rattle.opa_code.specs.declared.over_lines.bests.Bests.{Bests}
use Rattle.opa_code.proofs.over_lines.Besting.{bests_both, best_gathered}

abbrev Lines : Type 0
Lines = List (List (ℕ × Value))

abbrev pub HaveBests : Bool → Lines → List (ℕ × Bests) → Type 0
HaveBests most lines bests = EachDay (λ d t. AreBests most (values_at lines d) t) DAYS bests

pub no_items : {X : Type 0} (xs : List X) → length xs < 1 → xs ≡ []
no_items [] h = refl
no_items (x ∷ xs) h = absurd (omega (arith, h))

pub some_weaker : {X : Type 0} (o : Option X) (P Q : X → Type 0) → ((x : X) → P x → Q x) → IfSome o P → IfSome o Q
some_weaker None P Q f h = h
some_weaker (Some x) P Q f h = f x h

pub one_item : {X : Type 0} (xs : List X) (x : X) → 1 ≤ length xs → length xs < 2 → x ≡ get_or xs 0 x → xs ≡ x ∷ []
one_item [] x low high is = absurd (omega (arith, low))
one_item (y ∷ []) x low high is = ap (λ z. z ∷ []) (sym is)
one_item (y ∷ z ∷ xs) x low high is = absurd (omega (arith, high))

pub two_items : {X : Type 0} (xs : List X) (x y : X) → 2 ≤ length xs → length xs < 3 → x ≡ get_or xs 0 x → y ≡ get_or xs 1 y → xs ≡ x ∷ y ∷ []
two_items [] x y low high first second = absurd (omega (arith, low))
two_items (a ∷ []) x y low high first second = absurd (omega (arith, low))
two_items (a ∷ b ∷ []) x y low high first second = ap (λ z. z ∷ b ∷ []) (sym first) ∙ ap (λ z. x ∷ z ∷ []) (sym second)
two_items (a ∷ b ∷ c ∷ xs) x y low high first second = absurd (omega (arith, high))

pub halves_join : {X : Type 0} (xs front back : List X) (n : ℕ) → front ≡ take n xs → back ≡ drop n xs → front ++ back ≡ xs
halves_join xs front back n f b = ap (λ ys. ys ++ back) f ∙ ap (λ ys. take n xs ++ ys) b ∙ take-append-drop n xs

pub some_same : {X : Type 0} (x y : X) → Some x ≡ Some y → x ≡ y
some_same x y e = cc e

-- a line of the right form has a value at each day
pub stands_whole : (l : List (ℕ × Value)) → IsLine DAYS l → StandsFor DAYS (day_value l) l
stands_whole [] form d lt = absurd form
stands_whole (p ∷ l) form d lt = refl

pub bests_at : (most : Bool) (lines : Lines) (bests : List (ℕ × Bests)) (d : ℕ) (t : Bests) → d < DAYS → HaveBests most lines bests → at bests d ≡ Some t → AreBests most (values_at lines d) t
bests_at most lines bests d t lt h is = let e = h d lt in subst (AreBests most (values_at lines d)) (some_same e.0 t (sym e.2 ∙ is)) e.1

module _ {F E : Type 0} (g : Shared F (Bor Bests × (Bor Bests × Unit {0})) (Result Bests E)) (f : F) where
  pub bests_joined : (most : Bool) (lines left right : Lines) (first second l : List (ℕ × Bests)) → left ++ right ≡ lines → HaveBests most left first → HaveBests most right second
      → ((p q : Bor Bests) (z : Bests) → g.post f (p, (q, tt)) (Ok z) → AreBothBests most p.now q.now z) → EachDay (Joins g f first second) DAYS l → HaveBests most lines l
  bests_joined most lines left right first second l parts h k means each d lt =
      let e = each d lt in let j = e.1 in
      let vs : values_at left d ++ values_at right d ≡ values_at lines d = sym (map-append (λ l. day_value l d) left right) ∙ ap (λ ls. values_at ls d) parts in (
        e.0,
        subst (λ us. AreBests most us e.0) vs (bests_both most (values_at left d) (values_at right d) j.first.now j.second.now e.0
            (bests_at most left first d j.first.now lt h j.left) (bests_at most right second d j.second.now lt k j.right) (means j.first j.second e.0 j.says)),
        e.2,
      )

module _ {F E : Type 0} (g : Shared F (Bor Bests × (Bor Value × Unit {0})) (Result Value E)) (f : F) where
  pub best_stands : (how : Gathering) (lines : Lines) (bests : List (ℕ × Bests)) (first l : List (ℕ × Value)) → is_best how ≡ true → HaveBests (is_most how) lines bests → Has (λ d. first_value (values_at lines d)) first
      → ((p : Bor Bests) (q : Bor Value) (z : Value) → g.post f (p, (q, tt)) (Ok z) → z ≡ told_best p.now q.now) → EachDay (Joins g f bests first) DAYS l → StandsFor DAYS (λ d. gather_of how (values_at lines d)) l
  best_stands how lines bests first l best h s means each d lt =
      let e = each d lt in let j = e.1 in
      let v : j.second.now ≡ first_value (values_at lines d) = ap (value_or Unknown) (sym j.right) ∙ s d lt in
      e.2 ∙ ap Some (means j.first j.second e.0 j.says ∙ ap (told_best j.first.now) v ∙ best_gathered how (values_at lines d) j.first.now best (bests_at (is_most how) lines bests d j.first.now lt h j.left))
