-- Lines have one transcript.
use Rattle.std.proofs.Common.{◌≡◌, ℕ, true, false, List, [], ◌∷◌, ◌++◌, inl, inr, sym, ap, subst, ◌∙◌}
use Rattle.opa_model.specs.Models.{IsModel}
use Rattle.opa_tree.specs.declared.rulebase.Rulebase.{Rulebase}
use Rattle.opa_talk.specs.Transcript.{Rule, IsGoing, IsOver, Prints}
use Rattle.opa_reply.specs.Held.{Held}
use Rattle.opa_laws.specs.Decided.Laws.{HasModel, IsTold, OneReply, SameBase, StaysTold, OneTranscript}

module _ (rule : Rule Held) (one : OneReply rule) (same : SameBase rule) (stays : StaysTold rule) where
  not_both : {T : Type 0} (x : Held) → IsOver rule x → IsGoing rule x → T
  not_both x over going = let no : true ≡ false = sym over ∙ going in absurd (cc no)

  prints_one : (x y z : Held) (lines : List (List ℕ)) (t u : List ℕ) → HasModel x → IsTold x → Prints rule x lines t y → Prints rule x lines u z → (t ≡ u) × (y ≡ z)
  prints_one x y z [] t u is told p q = (p.0 ∙ sym q.0, p.1 ∙ sym q.1)
  prints_one x y z (line ∷ more) t u is told (inl p) (inl q) = (p.1 ∙ sym q.1, p.2 ∙ sym q.2)
  prints_one x y z (line ∷ more) t u is told (inl p) (inr q) = not_both x p.0 q.0
  prints_one x y z (line ∷ more) t u is told (inr p) (inl q) = not_both x q.0 p.0
  prints_one x y z (line ∷ more) t u is told (inr p) (inr q) =
      let a = p.1 in
      let b = q.1 in
      let here = one x a.1 b.1 line a.0 b.0 is told a.3 b.3 in
      let still = subst (λ (r : Rulebase). IsModel r.model) (sym (same x a.1 line a.0 a.3)) is in
      let again = stays x a.1 line a.0 told a.3 in
      let rest = prints_one a.1 y z more a.2 b.2 still again a.4 (subst (λ (s : Held). Prints rule s more b.2 z) (sym here.1) b.4) in
      (a.5 ∙ ap (λ s. s ++ (rule.prompt a.1 ++ a.2)) here.0 ∙ ap (λ x'. b.0 ++ (rule.prompt x' ++ a.2)) here.1 ∙ ap (λ s. b.0 ++ (rule.prompt b.1 ++ s)) rest.0 ∙ sym b.5, rest.1)

  pub one_transcript_of : OneTranscript rule
  one_transcript_of x y z lines t u is told p q =
      let r = prints_one x y z lines p.0 q.0 is told p.1 q.1 in
      (p.2 ∙ ap (λ s. rule.prompt x ++ s) r.0 ∙ sym q.2, r.1)
