-- How a talk ends.
use Rattle.std.proofs.Common.{true, false, Result, Ok, Err, OnOk, OnErr, IfErr, inl, inr, refl, ◌≡◌, ◌≤◌, ℕ, List, ◌++◌, [], length, take, length-append, subst, sym, ap, ◌∙◌, arith, append-nil, append_assoc}
use Rattle.std.specs.declared.option.Option.{Option}
use Rattle.std.specs.Io.KnownBytes.{Consumes, Keeps, Appends}
use Rattle.std.proofs.lemmas.List.{take-append-le, take_all}
use Rattle.opa_io.proofs.Appended.{Consumes-append, Consumes-none, Consumes-Keeps, Appends-append}
use Rattle.opa_io.specs.Outside.{AppendsFront}
use Rattle.opa_talk.specs.declared.halt.Halt.{Halt}
use Rattle.opa_talk.specs.declared.halt.Halt.TheVariants as halt
use Rattle.opa_talk.specs.declared.feed.Ending.TheVariants as ending
use Rattle.opa_talk.specs.Halt.{IsLineCause}
use Rattle.opa_talk.specs.Lines.{lines_from, input_lines, EndsLine}
use Rattle.opa_talk.specs.Transcript.{Rule, IsOver, Prints, IsTranscript}
use Rattle.opa_talk.specs.Talk.{LeftAt, IsTaken, Halted, HaltedAmong, Paused, Converses, Halts, HaltsAt}
use Rattle.opa_talk.specs.Points.{Point, fresh_point, is_empty, CarriesOut, Breaks, BreaksAmong, GoesOn, TakesLines, Probes, Finishes, Feeds, FeedBreaks, FeedBreaksAt}
use Rattle.opa_talk.proofs.LinesLaws.{lines_from-append, EndsLine-append, part_none, whole_of}
use Rattle.opa_talk.proofs.TranscriptLaws.{prints-append, prints_over}
use Rattle.opa_talk.proofs.PointsLaws.{front_after, front_none, lines_two, breaks_behind}

module _ {X : Type 0} (rule : Rule X) (at now : Point X) (w x : Option (List ℕ)) where
  -- the lines of what was read, in two parts
  lines_parts : (read : List ℕ) → (f : CarriesOut rule at now read w x) → lines_from at.fresh (at.pending ++ read) ≡ lines_from at.fresh f.whole ++ lines_from now.fresh now.pending
  lines_parts read f =
      ap (lines_from at.fresh) (sym f.cut) ∙ lines_from-append at.fresh f.whole now.pending f.ends ∙ ap (λ t. lines_from at.fresh f.whole ++ lines_from t now.pending) (sym f.fresh)

  module _ (front rest : List ℕ) (f : CarriesOut rule at now front w x) (over : IsOver rule now.state) where
    over_lines : lines_from at.fresh (at.pending ++ (front ++ rest)) ≡ lines_from at.fresh f.whole ++ lines_from now.fresh (now.pending ++ rest)
    over_lines = lines_two rule at now front rest f.whole f.cut f.ends f.fresh

    over_said : Prints rule at.state (lines_from at.fresh (at.pending ++ (front ++ rest))) f.text now.state
    over_said =
        let P : List (List ℕ) → Type 0 = λ ls. Prints rule at.state ls f.text now.state in
        let Q : List ℕ → Type 0 = λ t. Prints rule at.state (lines_from at.fresh f.whole ++ lines_from now.fresh (now.pending ++ rest)) t now.state in
        let tail = prints_over rule now.state (lines_from now.fresh (now.pending ++ rest)) over in
        subst P (sym over_lines) (subst Q (append-nil f.text)
        (prints-append rule at.state now.state now.state (lines_from at.fresh f.whole) (lines_from now.fresh (now.pending ++ rest)) f.text [] f.said tail))

  -- no line is taken any more
  pub feeds_over : (most : ℕ) (l m : Option (List ℕ)) → TakesLines rule at now most l m w x ending.Over → Feeds rule at now.state most l m w x
  feeds_over most l m lines =
      let e = lines.3 in
      let P : List ℕ → Type 0 = λ s. Prints rule at.state (lines_from at.fresh (at.pending ++ s)) e.carried.text now.state in
      record {
        read = lines.0;
        took = lines.1;
        within = lines.2;
        text = e.carried.text;
        said = subst P e.cut (over_said e.front e.rest e.carried e.over);
        wrote = e.carried.wrote;
        ended = inr (e.over, λ more. subst P (sym (append_assoc e.front e.rest more) ∙ ap (λ s. s ++ more) e.cut) (over_said e.front (e.rest ++ more) e.carried e.over));
      }

  -- the input is at its end, and the last line was carried out
  pub feeds_end : (most : ℕ) (l m y : Option (List ℕ)) (x' : X) → TakesLines rule at now most l m w x ending.End → Finishes rule now x' x y → Feeds rule at x' most l m w y
  feeds_end most l m y x' lines last =
      let f = lines.4.carried in
      let P : List (List ℕ) → Type 0 = λ ls. Prints rule at.state ls (f.text ++ last.text) x' in
      record {
        read = lines.0;
        took = lines.1;
        within = lines.2;
        text = f.text ++ last.text;
        said = subst P (sym (lines_parts lines.0 f)) (prints-append rule at.state now.state x' (lines_from at.fresh f.whole) (lines_from now.fresh now.pending) f.text last.text f.said last.said);
        wrote = Appends-append w x y f.text last.text f.wrote last.wrote;
        ended = inl lines.3;
      }

  -- a probe that finds the end
  pub full_end : (most : ℕ) (l m n : Option (List ℕ)) → TakesLines rule at now most l m w x ending.Full → Probes m n true → TakesLines rule at now most l n w x ending.End
  full_end most l m n lines probe =
      let same : Consumes l n lines.0 = let P : List ℕ → Type 0 = λ s. Consumes l n s in subst P (append-nil lines.0) (Consumes-append l m n lines.0 [] lines.1 probe.0) in
      (lines.0, same, omega (arith, lines.2), probe.1, lines.3)

  module _ (Stops : X → List ℕ → X → Type 0) where
    -- the source failed after the lines
    pub full_failed : (most : ℕ) (l m n : Option (List ℕ)) → TakesLines rule at now most l m w x ending.Full → Keeps m n → FeedBreaks rule Stops at now most l n w x halt.Input
    full_failed most l m n lines keeps = (lines.0, Consumes-Keeps l m n lines.0 lines.1 keeps, (omega (arith, lines.2), lines.3))

    -- one byte too many was read after the lines
    pub full_limit : (most : ℕ) (l m n : Option (List ℕ)) → TakesLines rule at now most l m w x ending.Full → Probes m n false → FeedBreaks rule Stops at now most l n w x halt.Limit
    full_limit most l m n lines probe =
        let front : take most (lines.0 ++ probe.0) ≡ lines.0 = take-append-le most lines.0 probe.0 (omega (arith, lines.2)) ∙ take_all most lines.0 (omega (arith, lines.2)) in
        let P : List ℕ → Type 0 = λ s. GoesOn rule at now s w x in
        (lines.0 ++ probe.0, Consumes-append l m n lines.0 probe.0 lines.1 probe.1, (omega (arith, length-append lines.0 probe.0, lines.2, probe.2), subst P (sym front) lines.3))

    -- the talk halts at the last line
    last_breaks : (most : ℕ) (l m y : Option (List ℕ)) (new : Point X) → TakesLines rule at now most l m w x ending.End → Breaks rule Stops now new.state now.pending x y
        → (read : List ℕ) × Consumes l m read × (length read ≤ most × BreaksAmong rule Stops at new.state read m w y)
    last_breaks most l m y new lines b =
        let P : List ℕ → Type 0 = λ s. Breaks rule Stops at new.state s w y in
        let f = lines.4.carried in
        (lines.0, lines.1, (lines.2, inr (lines.3, subst P f.cut (breaks_behind rule Stops at now new.state lines.0 now.pending w x y f b))))

    pub finish_ok : (most : ℕ) (l m y : Option (List ℕ)) (new : Point X) (res : Result (Unit {0}) Halt) → TakesLines rule at now most l m w x ending.End
        → OnOk res (Finishes rule now new.state x y) → OnOk res (Feeds rule at new.state most l m w y)
    finish_ok most l m y new (Ok u) lines ok = feeds_end most l m y new.state lines ok
    finish_ok most l m y new (Err e) lines ok = tt

    pub finish_err : (most : ℕ) (l m y : Option (List ℕ)) (new : Point X) (res : Result (Unit {0}) Halt) (t t' k k' o o' : ℕ) → TakesLines rule at now most l m w x ending.End
        → OnErr res (Breaks rule Stops now new.state now.pending x y) → IfErr res (IsLineCause t t' k k' o o') → IfErr res (FeedBreaks rule Stops at new most l m w y)
    finish_err most l m y new (Ok u) t t' k k' o o' lines err cause = tt
    finish_err most l m y new (Err halt.Input) t t' k k' o o' lines err cause = absurd cause
    finish_err most l m y new (Err halt.Output) t t' k k' o o' lines err cause = last_breaks most l m y new lines err
    finish_err most l m y new (Err halt.Take) t t' k k' o o' lines err cause = last_breaks most l m y new lines err
    finish_err most l m y new (Err halt.Keep) t t' k k' o o' lines err cause = last_breaks most l m y new lines err
    finish_err most l m y new (Err halt.Memory) t t' k k' o o' lines err cause = last_breaks most l m y new lines err
    finish_err most l m y new (Err halt.Limit) t t' k k' o o' lines err cause = absurd cause

module _ {X : Type 0} (rule : Rule X) (Stops : X → List ℕ → X → Type 0) where
  left_more : (x x' : X) (more rest : List (List ℕ)) → LeftAt Stops x more x' → LeftAt Stops x (more ++ rest) x'
  left_more x x' more rest left = elim left [ inl e ↦ inl e | inr s ↦ inr (s.0, s.1 ++ rest, ap (λ m. m ++ rest) s.2, s.3) ]

  -- more bytes follow
  halted_more : (s s' : X) (whole more : List ℕ) (w y : Option (List ℕ)) → EndsLine whole → Halted rule Stops s s' (input_lines whole) w y → Halted rule Stops s s' (input_lines (whole ++ more)) w y
  halted_more s s' whole more w y ends h =
      let others = lines_from (is_empty whole) more in
      record {
        done = h.done;
        more = h.more ++ others;
        cut = sym (append_assoc h.done h.more others) ∙ ap (λ t. t ++ others) h.cut ∙ sym (lines_from-append true whole more ends);
        text = h.text;
        held = h.held;
        said = h.said;
        left = left_more h.held s' h.more others h.left;
        wrote = h.wrote;
      }

  -- among lines whose line feed was read
  pub among_whole : (s s' : X) (whole rest read : List ℕ) (m w y : Option (List ℕ)) → whole ++ rest ≡ read → EndsLine whole → Halted rule Stops s s' (input_lines whole) w y → HaltedAmong rule Stops s s' read m w y
  among_whole s s' whole rest read m w y cut ends h =
      let more = whole_of rest in
      let f = more.1 in (
        whole ++ more.0,
        inl (record {
          rest = f.rest;
          cut = append_assoc whole more.0 f.rest ∙ ap (λ t. whole ++ t) f.cut ∙ cut;
          ends = EndsLine-append whole more.0 ends f.ends;
          part = f.part;
        }),
        halted_more s s' whole more.0 w y ends h,
      )

  -- among all lines of what was read
  pub halted_all : (s s' : X) (taken read : List ℕ) (m w y : Option (List ℕ)) → IsTaken taken read m → Halted rule Stops s s' (input_lines taken) w y → Halted rule Stops s s' (input_lines read) w y
  halted_all s s' taken read m w y is h =
      let P : List ℕ → Type 0 = λ t. Halted rule Stops s s' (input_lines t) w y in
      elim is [ inl whole ↦ subst P whole.cut (halted_more s s' taken whole.rest w y whole.ends h) | inr all ↦ subst P all.1 h ]

module _ {X : Type 0} (rule : Rule X) (s : X) (w x : Option (List ℕ)) (asked : Appends w x (rule.prompt s)) where
  -- from the first prompt on
  pub converses : (s' : X) (most : ℕ) (l m y : Option (List ℕ)) → Feeds rule (fresh_point s) s' most l m x y → Converses rule s s' most l m w y
  converses s' most l m y f = record {
    read = f.read;
    took = f.took;
    within = f.within;
    text = rule.prompt s ++ f.text;
    said = (f.text, f.said, refl);
    wrote = Appends-append w x y (rule.prompt s) f.text asked f.wrote;
    ended = elim f.ended [ inl e ↦ inl e | inr o ↦ inr (o.0, λ more. (f.text, o.1 more, refl)) ];
  }

  pub converses_ok : {E : Type 0} (s' : X) (most : ℕ) (l m y : Option (List ℕ)) (res : Result (Unit {0}) E) → OnOk res (Feeds rule (fresh_point s) s' most l m x y) → OnOk res (Converses rule s s' most l m w y)
  converses_ok s' most l m y (Ok u) f = converses s' most l m y f
  converses_ok s' most l m y (Err e) f = tt

  -- the talk is over before its first line
  pub converses_none : (most : ℕ) (l : Option (List ℕ)) → IsOver rule s → Converses rule s s most l l w x
  converses_none most l over =
      let none : (more : List ℕ) → IsTranscript rule s (input_lines more) (rule.prompt s) s = λ more. ([], prints_over rule s (input_lines more) over, sym (append-nil (rule.prompt s))) in
      record {
        read = [];
        took = Consumes-none l;
        within = omega arith;
        text = rule.prompt s;
        said = none [];
        wrote = asked;
        ended = inr (over, none);
      }

  paused : (now : Point X) (read : List ℕ) (y : Option (List ℕ)) → GoesOn rule (fresh_point s) now read x y → Paused rule s now.state read w y
  paused now read y f = let g = f.carried in record {
    whole = g.whole;
    is_whole = record { rest = now.pending; cut = g.cut; ends = g.ends; part = g.part };
    text = rule.prompt s ++ g.text;
    said = (g.text, g.said, refl);
    wrote = Appends-append w x y (rule.prompt s) g.text asked g.wrote;
    going = f.going;
  }

  module _ (Stops : X → List ℕ → X → Type 0) where
    halted : (s' : X) (bytes : List ℕ) (y : Option (List ℕ)) → Breaks rule Stops (fresh_point s) s' bytes x y → Halted rule Stops s s' (input_lines bytes) w y
    halted s' bytes y b = record { done = b.done; more = b.more; cut = b.cut; text = rule.prompt s ++ b.text; held = b.held; said = (b.text, b.said, refl); left = b.left; wrote = front_after w x y (rule.prompt s) b.text asked b.wrote }

    halted_among : (s' : X) (read : List ℕ) (m y : Option (List ℕ)) → BreaksAmong rule Stops (fresh_point s) s' read m x y → HaltedAmong rule Stops s s' read m w y
    halted_among s' read m y (inr b) = (read, inr (b.0, refl), halted s' read y b.1)
    halted_among s' read m y (inl b) = among_whole rule Stops s s' b.whole b.rest read m w y b.cut b.ends (halted s' b.whole y b.breaks)

    halts_at : (now : Point X) (most : ℕ) (read : List ℕ) (m y : Option (List ℕ)) (e : Halt) → FeedBreaksAt rule Stops (fresh_point s) now most read m x y e → HaltsAt rule Stops s now.state most read m w y e
    halts_at now most read m y halt.Input b = (b.0, paused now read y b.1)
    halts_at now most read m y halt.Output b = (b.0, halted_among now.state read m y b.1)
    halts_at now most read m y halt.Take b = (b.0, halted_among now.state read m y b.1)
    halts_at now most read m y halt.Keep b = (b.0, halted_among now.state read m y b.1)
    halts_at now most read m y halt.Memory b = (b.0, halted_among now.state read m y b.1)
    halts_at now most read m y halt.Limit b = (b.0, paused now (take most read) y b.1)

    halts : (now : Point X) (most : ℕ) (l m y : Option (List ℕ)) (e : Halt) → FeedBreaks rule Stops (fresh_point s) now most l m x y e → Halts rule Stops s now.state most l m w y e
    halts now most l m y e b = (b.0, b.1, halts_at now most b.0 m y e b.2)

    pub halts_err : {T : Type 0} (now : Point X) (most : ℕ) (l m y : Option (List ℕ)) (res : Result T Halt) → IfErr res (FeedBreaks rule Stops (fresh_point s) now most l m x y) → IfErr res (Halts rule Stops s now.state most l m w y)
    halts_err now most l m y (Ok u) f = tt
    halts_err now most l m y (Err e) f = halts now most l m y e f

module _ {X : Type 0} (rule : Rule X) (Stops : X → List ℕ → X → Type 0) (s : X) where
  -- the talk halts at its first prompt
  halted_none : (l w x : Option (List ℕ)) → AppendsFront w x (rule.prompt s) → HaltedAmong rule Stops s s [] l w x
  halted_none l w x front =
      let nothing : IsTaken [] [] l = inl (record { rest = []; cut = refl; ends = inl refl; part = part_none }) in ([], nothing, record { done = []; more = []; cut = refl; text = rule.prompt s; held = s; said = ([], (refl, refl), sym (append-nil (rule.prompt s))); left = inl refl; wrote = front })

  pub halts_none : (most : ℕ) (l w x : Option (List ℕ)) (e : Halt) (t t' k k' o o' : ℕ) → AppendsFront w x (rule.prompt s) → IsLineCause t t' k k' o o' e → Halts rule Stops s s most l l w x e
  halts_none most l w x halt.Input t t' k k' o o' front cause = absurd cause
  halts_none most l w x halt.Output t t' k k' o o' front cause = ([], Consumes-none l, (omega arith, halted_none l w x front))
  halts_none most l w x halt.Take t t' k k' o o' front cause = ([], Consumes-none l, (omega arith, halted_none l w x front))
  halts_none most l w x halt.Keep t t' k k' o o' front cause = ([], Consumes-none l, (omega arith, halted_none l w x front))
  halts_none most l w x halt.Memory t t' k k' o o' front cause = ([], Consumes-none l, (omega arith, halted_none l w x front))
  halts_none most l w x halt.Limit t t' k k' o o' front cause = absurd cause

  pub halts_memory : (most : ℕ) (l w : Option (List ℕ)) → Halts rule Stops s s most l l w w halt.Memory
  halts_memory most l w = ([], Consumes-none l, (omega arith, halted_none l w w (front_none w (rule.prompt s))))
