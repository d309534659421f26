-- What lines print, and what they leave, in two parts.
use Rattle.std.proofs.Common.{◌≡◌, inl, inr, ℕ, Bool, true, List, [], ◌∷◌, ◌++◌, ap, sym, ◌∙◌, refl, subst, append_assoc, append-nil}
use Rattle.opa_talk.specs.Lines.{lines, input_lines}
use Rattle.opa_talk.specs.Transcript.{Rule, IsGoing, IsOver, Prints, IsDecided, CutsAnywhere, HasOneTranscript}
use Rattle.opa_talk.proofs.LinesLaws.{lines_from-cut}

module _ {X : Type 0} (rule : Rule X) where
  -- both can't be
  pub not_both : {T : Type 0} (x : X) → IsOver rule x → IsGoing rule x → T
  not_both x over going = absurd (cc (sym over ∙ going))

  -- no line prints anything where the talk is over
  pub prints_over : (x : X) (more : List (List ℕ)) → IsOver rule x → Prints rule x more [] x
  prints_over x [] over = (refl, refl)
  prints_over x (line ∷ more) over = inl (over, refl, refl)

  pub only_over : (x y : X) (more : List (List ℕ)) (text : List ℕ) → IsOver rule x → Prints rule x more text y → (text ≡ []) × (y ≡ x)
  only_over x y [] text over p = p
  only_over x y (line ∷ more) text over (inl p) = (p.1, p.2)
  only_over x y (line ∷ more) text over (inr p) = not_both x over p.0

  -- one line
  pub prints_one : (x y : X) (line said : List ℕ) → IsGoing rule x → rule.Replies x line said y → Prints rule x (line ∷ []) (said ++ rule.prompt y) y
  prints_one x y line said going replies = inr (going, (said, y, [], replies, (refl, refl), ap (λ s. said ++ s) (sym (append-nil (rule.prompt y)))))

  texts_join : (said prompt t u : List ℕ) → (said ++ (prompt ++ t)) ++ u ≡ said ++ (prompt ++ (t ++ u))
  texts_join said prompt t u = append_assoc said (prompt ++ t) u ∙ ap (λ s. said ++ s) (append_assoc prompt t u)

  over_append : (x y z : X) (line : List ℕ) (more : List (List ℕ)) (t u : List ℕ) (ms : List (List ℕ)) → IsOver rule x → t ≡ [] → y ≡ x → Prints rule y ms u z → Prints rule x (line ∷ more) (t ++ u) z
  over_append x y z line more t u ms over none same q =
      let over_y : IsOver rule y = subst (λ s. IsOver rule s) (sym same) over in
      let only = only_over y z ms u over_y q in
      inl (over, ap (λ s. s ++ u) none ∙ only.0, only.1 ∙ same)

  -- what lines print, and then others
  pub prints-append : (x y z : X) (ls ms : List (List ℕ)) (t u : List ℕ) → Prints rule x ls t y → Prints rule y ms u z → Prints rule x (ls ++ ms) (t ++ u) z
  prints-append x y z [] ms t u p q =
      let P : X → Type 0 = λ s. Prints rule s ms u z in
      let Q : List ℕ → Type 0 = λ s. Prints rule x ms s z in
      subst Q (ap (λ s. s ++ u) (sym p.0)) (subst P p.1 q)
  prints-append x y z (line ∷ ls) ms t u (inl p) q = over_append x y z line (ls ++ ms) t u ms p.0 p.1 p.2 q
  prints-append x y z (line ∷ ls) ms t u (inr p) q =
      let s = p.1 in
      inr (p.0, (s.0, s.1, s.2 ++ u, s.3, prints-append s.1 y z ls ms s.2 u s.4 q, ap (λ r. r ++ u) s.5 ∙ texts_join s.0 (rule.prompt s.1) s.2 u))

  -- what lines print, taken apart
  abbrev pub Parts : X → List (List ℕ) → List (List ℕ) → List ℕ → X → Type 0
  Parts x ls ms text z = (y : X) × (t : List ℕ) × (u : List ℕ) × Prints rule x ls t y × Prints rule y ms u z × (text ≡ t ++ u)

  pub prints_apart : (x z : X) (ls ms : List (List ℕ)) (text : List ℕ) → Prints rule x (ls ++ ms) text z → Parts x ls ms text z
  prints_apart x z [] ms text p = (x, [], text, (refl, refl), p, refl)
  prints_apart x z (line ∷ ls) ms text (inl p) =
      let P : X → Type 0 = λ s. Prints rule x ms [] s in
      (x, [], [], inl (p.0, refl, refl), subst P (sym p.2) (prints_over x ms p.0), p.1)
  prints_apart x z (line ∷ ls) ms text (inr p) =
      let s = p.1 in
      let r = prints_apart s.1 z ls ms s.2 s.4 in (
        r.0,
        s.0 ++ (rule.prompt s.1 ++ r.1),
        r.2,
        inr (p.0, (s.0, s.1, r.1, s.3, r.3, refl)),
        r.4,
        s.5 ∙ ap (λ q. s.0 ++ (rule.prompt s.1 ++ q)) r.5 ∙ sym (texts_join s.0 (rule.prompt s.1) r.1 r.2),
      )

  module _ (is_so : X → Bool) (one : IsDecided rule is_so) where
    -- lines print one text, where each does
    pub prints_one_way : (x y y' : X) (more : List (List ℕ)) (t t' : List ℕ) → is_so x ≡ true → Prints rule x more t y → Prints rule x more t' y' → (t ≡ t') × (y ≡ y')
    prints_one_way x y y' [] t t' so p q = (p.0 ∙ sym q.0, p.1 ∙ sym q.1)
    prints_one_way x y y' (line ∷ more) t t' so (inl p) (inl q) = (p.1 ∙ sym q.1, p.2 ∙ sym q.2)
    prints_one_way x y y' (line ∷ more) t t' so (inl p) (inr q) = not_both x p.0 q.0
    prints_one_way x y y' (line ∷ more) t t' so (inr p) (inl q) = not_both x q.0 p.0
    prints_one_way x y y' (line ∷ more) t t' so (inr p) (inr q) =
        let a = p.1 in
        let b = q.1 in
        let here = one x a.1 b.1 line a.0 b.0 so a.3 b.3 in
        let P : X → Type 0 = λ s. Prints rule s more b.2 y' in
        let rest = prints_one_way a.1 y y' more a.2 b.2 here.2 a.4 (subst P (sym here.1) b.4) in (
          a.5 ∙ ap (λ s. s ++ (rule.prompt a.1 ++ a.2)) here.0 ∙ ap (λ n. b.0 ++ (rule.prompt n ++ a.2)) here.1 ∙ ap (λ s. b.0 ++ (rule.prompt b.1 ++ s)) rest.0 ∙ sym b.5,
          rest.1,
        )

    -- what lines print in front of others is a front
    pub prints_front : (x y z : X) (ls ms : List (List ℕ)) (t text : List ℕ) → is_so x ≡ true → Prints rule x ls t y → Prints rule x (ls ++ ms) text z → (u : List ℕ) × (text ≡ t ++ u)
    prints_front x y z ls ms t text so p q =
        let r = prints_apart x z ls ms text q in
        let same = prints_one_way x y r.0 ls t r.1 so p r.3 in
        (r.2, r.5 ∙ ap (λ s. s ++ r.2) (sym same.0))

  pub has_one_transcript : HasOneTranscript rule
  has_one_transcript is_so one x y y' more text text' so p q =
      let r = prints_one_way is_so one x y y' more p.0 q.0 so p.1 q.1 in
      (p.2 ∙ ap (λ s. rule.prompt x ++ s) r.0 ∙ sym q.2, r.1)

  -- cutting the input at any line feed
  pub cuts_anywhere : CutsAnywhere rule
  cuts_anywhere x y front rest text p =
      let P : List (List ℕ) → Type 0 = λ ls. Prints rule x ls p.0 y in
      let r = prints_apart x y (input_lines (front ++ 10 ∷ [])) (lines rest) p.0 (subst P (lines_from-cut true front rest) p.1) in
      (rule.prompt x ++ r.1, r.0, r.2, (r.1, r.3, refl), r.4, p.2 ∙ ap (λ s. rule.prompt x ++ s) r.5 ∙ sym (append_assoc (rule.prompt x) r.1 r.2))
