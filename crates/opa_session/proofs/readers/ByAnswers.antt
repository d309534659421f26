-- Cases that differ in answers at most.
use Rattle.std.proofs.Common.{◌≡◌, true, List, [], Option, Contains, sym, ◌∙◌, ap}
use Rattle.std.specs.Prelude.{not}
use Rattle.std.specs.FinMap.{get}
use Rattle.std.specs.Option.{option_or}
use Rattle.opa_model.specs.declared.ids.AttrId.{AttrId}
use Rattle.opa_model.specs.declared.ids.RelId.{RelId}
use Rattle.opa_cells.specs.declared.instance.InstanceId.{InstanceId}
use Rattle.opa_case.specs.Cases.{CaseView, list_of, stored}
use Rattle.opa_case.specs.Live.{live_of}
use Rattle.opa_case.specs.Shapes.{shape_of}
use Rattle.opa_case.specs.Steps.{every_of}
use Rattle.opa_case.specs.declared.question.Question.{Question}
use Rattle.opa_case.specs.declared.question.Question.TheVariants as question
use Rattle.opa_tree.specs.declared.rulebase.Rulebase.{Rulebase}
use Rattle.opa_mean.specs.Changes.{slots}
use Rattle.opa_mean.specs.Given.{base_of, facts_of}
use Rattle.opa_mean.specs.Rulebases.{IsOf}
use Rattle.opa_mean.specs.Sameness.{same_names}
use Rattle.opa_mean.proofs.Filtered.{filter_none}
use Rattle.opa_mean.proofs.SameBoth.{sameness_is_exact}
use Rattle.opa_mean.proofs.SlotsAre.{slots_are_live}
use Rattle.opa_mean.specs.Reached.Dirty.{is_changed, is_fresh}
use Rattle.opa_mean.specs.Reached.Settling.{IsByAnswers, NothingIsFresh, Waiting, is_given, shift}
use Rattle.opa_session.specs.Settlement.Starts.{AreTold, fresh_slots}
use Rattle.opa_session.specs.Readers.Renewing.{AreAnswersTold}
use Rattle.opa_session.proofs.readers.Renewed.{not_so}

module _ (r : Rulebase) (c c' : CaseView) where
  -- cases with the same known lists are
  pub same_lists : IsOf r c → IsOf r c' → c'.lists ≡ c.lists → IsByAnswers (shift r c c')
  same_lists is is' e = record {
    lists = e;
    every = is'.fits.every ∙ ap (λ m. every_of (shape_of r.model) (stored m)) e ∙ sym is.fits.every;
    live = is'.fits.live ∙ ap (λ m. live_of (shape_of r.model) (stored m)) e ∙ sym is.fits.live;
  }

  module _ (by : IsByAnswers (shift r c c')) where
    pub nothing_fresh : NothingIsFresh → IsOf r c' → fresh_slots r c c' ≡ []
    nothing_fresh law after =
        filter_none (λ (s : AttrId × InstanceId). is_fresh r c c' s.0 s.1) (slots (base_of r) (facts_of c')) (λ s k. law (shift r c c') by s.0 s.1 ((slots_are_live r c' after s.0 s.1).0 k))

    list_same : (m : RelId) (i : InstanceId) → list_of c m i ≡ list_of c' m i
    list_same m i = ap (λ l. option_or (get l (m.0, i)) (get c.every (m.0, i))) (sym by.lists) ∙ ap (λ e. option_or (get c'.lists (m.0, i)) (get e (m.0, i))) (sym by.every)

    pub answers_tell : (readers : Question → Waiting) (told : List Question) → AreAnswersTold r c c' told → AreTold r c c' readers told
    answers_tell readers told tell = record { differ = tell.differ; all = all }
      where
        all : (q : Question) (x : AttrId × InstanceId) → Contains (readers q) x → is_given r q ≡ true → is_changed r c c' q ≡ true → Contains told q
        all (question.Attr a i) x there g h = tell.all a i g h
        all (question.Members m i) x there g h =
            absurd (cc (sym ((sameness_is_exact.names (list_of c m i) (list_of c' m i)).1 (list_same m i)) ∙ not_so (same_names (list_of c m i) (list_of c' m i)) h))
