-- The line that was found of a slot, or else the answer, is what is held.
use Rattle.std.proofs.Common.{◌≡◌, ℕ, [], ◌∷◌, Bool, true, false, Option, None, Some, Bor, IfSome, is_some, refl, sym, ◌∙◌, ap}
use Rattle.std.specs.Prelude.{◌&&◌, ◌||◌, ◌==◌}
use Rattle.std.specs.FinMap.{get}
use Rattle.std.specs.Option.{option_copied}
use Rattle.std.proofs.lemmas.Bool.{eq-eqb}
use Rattle.opa_io.proofs.Bools.{or_true}
use Rattle.opa_date.specs.declared.TheConstants.{DAYS}
use Rattle.opa_line.specs.Lines.{at, IsLine, StandsFor}
use Rattle.opa_model.specs.declared.ids.AttrId.{AttrId}
use Rattle.opa_cells.specs.declared.instance.InstanceId.{InstanceId}
use Rattle.opa_case.specs.Cases.{CaseView, Answer}
use Rattle.opa_case.specs.Live.{is_live}
use Rattle.opa_case.specs.Shapes.{shape_of}
use Rattle.opa_tree.specs.declared.rulebase.Rulebase.{Rulebase}
use Rattle.opa_tree.specs.declared.rules.Rule.{Rule}
use Rattle.opa_tree.specs.Rules.{rule_of}
use Rattle.opa_mean.specs.Given.{base_of, facts_of, line_value}
use Rattle.opa_mean.specs.Holding.{has_line}
use Rattle.opa_mean.specs.Mean.{look_of, concluded, fitted, mean}
use Rattle.opa_mean.specs.Meaning.{value}
use Rattle.opa_mean.specs.Places.{owner_of}
use Rattle.opa_mean.specs.Rulebases.{IsOf, value_at}
use Rattle.opa_mean.proofs.Determining.{determined}
use Rattle.opa_mean.proofs.LawsOver.{base}
use Rattle.opa_window.specs.Days.{day_value}
use Rattle.opa_mean.specs.Reached.Settling.{Lines, AreCurrent}
use Rattle.opa_session.specs.Infer.Ready.{IsFound}

and_false : (x y : Bool) → (x && y) ≡ false → (x && (y || false)) ≡ false
and_false true true h = h
and_false true false h = refl
and_false false y h = refl

and_or : (x y z : Bool) → (x && y) ≡ true → (x && (y || z)) ≡ true
and_or true true z h = refl
and_or true false z h = absurd (cc h)
and_or false y z h = absurd (cc h)

line_tells : (l : Answer) → IsLine DAYS l → (d : ℕ) → at l d ≡ Some (day_value l d)
line_tells [] form d = absurd form
line_tells (p ∷ l) form d = refl

-- what current lines have of a slot
pub found_in : (r : Rulebase) (c : CaseView) (lines : Lines) → AreCurrent r c lines → (a : AttrId) (i : InstanceId) (o : Option Answer) → o ≡ lines a i → IsFound r c a i o
found_in r c lines are a i o e = record { there = ap is_some e ∙ are.there a i; right = λ line same. are.right a i line (sym e ∙ same) }

module _ (r : Rulebase) (c : CaseView) (is : IsOf r c) (a : AttrId) (i : InstanceId) where
  abbrev placed : Bool
  placed = is_live c.live i && (i.entity.0 == owner_of (shape_of r.model) a)

  answer_placed : (l : Answer) → get c.answers (a.0, i) ≡ Some l → placed ≡ true
  answer_placed l e =
      ap (λ b. b && (i.entity.0 == owner_of (shape_of r.model) a)) (is.fits.answered a i l e) ∙ eq-eqb i.entity.0 (owner_of (shape_of r.model) a) (is.fits.answers a i l e).owner

  answer_has : (l : Answer) → get c.answers (a.0, i) ≡ Some l → has_line r c a i ≡ true
  answer_has l e =
      ap (λ b. b && (is_some (rule_of r.rules a) || is_some (get c.answers (a.0, i)))) (answer_placed l e)
      ∙ ap (λ b. is_some (rule_of r.rules a) || b) (ap is_some e) ∙ or_true (is_some (rule_of r.rules a))

  answer_right : (l : Answer) → IsFound r c a i None → get c.answers (a.0, i) ≡ Some l → IsLine DAYS l → StandsFor DAYS (value_at r c a i) l
  answer_right l none e form = λ d lt. go (rule_of r.rules a) refl d
    where
      go : (o : Option Rule) → rule_of r.rules a ≡ o → (d : ℕ) → at l d ≡ Some (value_at r c a i d)
      go (Some rule) ruled d = absurd (cc (none.there, ap (λ b. b && is_some (rule_of r.rules a)) (answer_placed l e), ap is_some ruled))
      go None ruled d =
          line_tells l form d
          ∙ ap Some (sym (ap (λ o. line_value o d) e)
          ∙ sym (determined (base_of r) (facts_of c) (base r c is).falls a i d ∙ ap (λ o. concluded o ((facts_of c).answer a i d) (λ e. fitted (shape_of r.model) a (value (shape_of r.model) (look_of (facts_of c) (mean (base_of r) (facts_of c))) e (i ∷ []) d))) ruled))

  neither_has : IsFound r c a i None → get c.answers (a.0, i) ≡ None → has_line r c a i ≡ false
  neither_has none unanswered =
      ap (λ b. placed && (is_some (rule_of r.rules a) || b)) (ap is_some unanswered) ∙ and_false placed (is_some (rule_of r.rules a)) (sym none.there)

  -- what is told where no line was found
  pub tells : (o : Option (Bor Answer)) → IsFound r c a i None → option_copied o ≡ get c.answers (a.0, i) → IfSome o (λ l. IsLine DAYS l.now) → IfSome o (λ l. StandsFor DAYS (value_at r c a i) l.now)
  tells None none here form = tt
  tells (Some l) none here form = answer_right l.now none (sym here) form

  pub tells_all : (o : Option (Bor Answer)) → IsFound r c a i None → option_copied o ≡ get c.answers (a.0, i) → is_some o ≡ has_line r c a i
  tells_all None none here = sym (neither_has none (sym here))
  tells_all (Some l) none here = sym (answer_has l.now (sym here))

  -- and where one was
  pub found_has : (l : Answer) → IsFound r c a i (Some l) → true ≡ has_line r c a i
  found_has l h = sym (and_or placed (is_some (rule_of r.rules a)) (is_some (get c.answers (a.0, i))) (sym h.there))

  pub found_right : (l : Answer) → IsFound r c a i (Some l) → StandsFor DAYS (value_at r c a i) l
  found_right l h = h.right l refl
