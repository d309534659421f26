-- Bytes that are carried out one after another.
use Rattle.std.proofs.Common.{inl, inr, subst, ◌≡◌, ℕ, Bool, true, false, List, [], ◌∷◌, ◌++◌, ◌&&◌, ap, sym, ◌∙◌, refl, append_assoc, append-nil, length, Result, Ok, Err, OnErr}
use Rattle.std.specs.declared.option.Option.{Option}
use Rattle.std.specs.Io.KnownBytes.{Appends}
use Rattle.std.specs.Prelude.{◌==◌}
use Rattle.std.proofs.lemmas.List.Elements.{All-append}
use Rattle.opa_io.specs.Outside.{AppendsFront}
use Rattle.opa_io.proofs.Appended.{Appends-append, Appends-none}
use Rattle.opa_talk.specs.Lines.{lines, line_at, lines_from, IsPart, EndsLine}
use Rattle.opa_talk.specs.Transcript.{Rule, IsGoing, Prints}
use Rattle.opa_talk.specs.Talk.{LeftBy, LeftAt}
use Rattle.opa_talk.specs.Points.{Point, is_empty, CarriesOut, GoesOn, Breaks, BreaksWithin, CarriesLine, StopsAt, Finishes}
use Rattle.opa_talk.proofs.LinesLaws.{lines_last, line_at_part, lines_from_line, lines_from-append, fresh_feed, fresh-append, EndsLine-append, part_none}
use Rattle.opa_talk.proofs.TranscriptLaws.{prints-append, prints_one}

-- a front, and a front of what comes after appended bytes
pub front_after : (a b c : Option (List ℕ)) (xs ys : List ℕ) → Appends a b xs → AppendsFront b c ys → AppendsFront a c (xs ++ ys)
front_after a b c xs ys p f = (xs ++ f.0, f.1, append_assoc xs f.0 f.1 ∙ ap (λ s. xs ++ s) f.2, Appends-append a b c xs f.0 p f.3)

-- nothing was written
pub front_none : (a : Option (List ℕ)) (xs : List ℕ) → AppendsFront a a xs
front_none a xs = ([], xs, refl, Appends-none a)

-- all of it was written
pub front_all : (a b : Option (List ℕ)) (xs : List ℕ) → Appends a b xs → AppendsFront a b xs
front_all a b xs p = (xs, [], append-nil xs, p)

-- a front of fewer bytes
pub front_more : (a b : Option (List ℕ)) (xs ys : List ℕ) → AppendsFront a b xs → AppendsFront a b (xs ++ ys)
front_more a b xs ys f = (f.0, f.1 ++ ys, sym (append_assoc f.0 f.1 ys) ∙ ap (λ s. s ++ ys) f.2, f.3)

pub front_is : (a b : Option (List ℕ)) (xs ys : List ℕ) → xs ≡ ys → AppendsFront a b xs → AppendsFront a b ys
front_is a b xs ys e f = let P : List ℕ → Type 0 = λ s. AppendsFront a b s in subst P e f

pub appends_is : (a b : Option (List ℕ)) (xs ys : List ℕ) → xs ≡ ys → Appends a b xs → Appends a b ys
appends_is a b xs ys e f = let P : List ℕ → Type 0 = λ s. Appends a b s in subst P e f

module _ {X : Type 0} (rule : Rule X) where
  -- nothing comes
  pub carries_none : (at : Point X) (w : Option (List ℕ)) → IsPart at.pending → CarriesOut rule at at [] w w
  carries_none at w part = record {
    whole = [];
    cut = sym (append-nil at.pending);
    ends = inl refl;
    part = part;
    fresh = same at.fresh;
    text = [];
    said = let P : List (List ℕ) → Type 0 = λ ls. Prints rule at.state ls [] at.state in subst P (sym (nothing at.fresh)) (refl, refl);
    wrote = Appends-none w;
  }
    where
      same : (b : Bool) → b ≡ (b && true)
      same true = refl
      same false = refl

      nothing : (f : Bool) → lines_from f [] ≡ []
      nothing true = refl
      nothing false = refl

  -- bytes without a line feed are kept
  pub carries_part : (at : Point X) (bytes pending : List ℕ) (w : Option (List ℕ)) → IsPart pending → pending ≡ at.pending ++ bytes
      → CarriesOut rule at (record { state = at.state; pending = pending; fresh = at.fresh }) bytes w w
  unfolding carries_none
  carries_part at bytes pending w part is = let none = carries_none (record { state = at.state; pending = []; fresh = at.fresh }) w part_none in record {
    whole = [];
    cut = is;
    ends = inl refl;
    part = part;
    fresh = none.fresh;
    text = none.text;
    said = none.said;
    wrote = none.wrote;
  }

  -- the lines of what is pending and two pieces
  pub lines_two : (a b : Point X) (xs ys : List ℕ) (whole : List ℕ) → whole ++ b.pending ≡ a.pending ++ xs → EndsLine whole → b.fresh ≡ (a.fresh && is_empty whole)
      → lines_from a.fresh (a.pending ++ (xs ++ ys)) ≡ lines_from a.fresh whole ++ lines_from b.fresh (b.pending ++ ys)
  lines_two a b xs ys whole cut ends fresh =
      ap (lines_from a.fresh) (sym (append_assoc a.pending xs ys) ∙ ap (λ s. s ++ ys) (sym cut) ∙ append_assoc whole b.pending ys)
      ∙ lines_from-append a.fresh whole (b.pending ++ ys) ends
      ∙ ap (λ t. lines_from a.fresh whole ++ lines_from t (b.pending ++ ys)) (sym fresh)

  -- bytes after bytes
  pub carries-append : (a b c : Point X) (xs ys : List ℕ) (before mid now : Option (List ℕ)) → CarriesOut rule a b xs before mid → CarriesOut rule b c ys mid now → CarriesOut rule a c (xs ++ ys) before now
  carries-append a b c xs ys before mid now f g =
      let split : lines_from a.fresh (f.whole ++ g.whole) ≡ lines_from a.fresh f.whole ++ lines_from b.fresh g.whole =
      lines_from-append a.fresh f.whole g.whole f.ends ∙ ap (λ t. lines_from a.fresh f.whole ++ lines_from t g.whole) (sym f.fresh) in
      record {
        whole = f.whole ++ g.whole;
        cut = append_assoc f.whole g.whole c.pending ∙ ap (λ s. f.whole ++ s) g.cut ∙ sym (append_assoc f.whole b.pending ys) ∙ ap (λ s. s ++ ys) f.cut ∙ append_assoc a.pending xs ys;
        ends = EndsLine-append f.whole g.whole f.ends g.ends;
        part = g.part;
        fresh = g.fresh ∙ ap (λ t. t && is_empty g.whole) f.fresh ∙ fresh-append a.fresh f.whole g.whole;
        text = f.text ++ g.text;
        said = let P : List (List ℕ) → Type 0 = λ ls. Prints rule a.state ls (f.text ++ g.text) c.state in
            subst P (sym split) (prints-append rule a.state b.state c.state (lines_from a.fresh f.whole) (lines_from b.fresh g.whole) f.text g.text f.said g.said);
        wrote = Appends-append before mid now f.text g.text f.wrote g.wrote;
      }

  -- bytes without a line feed are kept after bytes that were carried out
  pub goes_part : (a b : Point X) (front rest bytes pending : List ℕ) (before now : Option (List ℕ)) → CarriesOut rule a b front before now → IsGoing rule b.state → IsPart rest → pending ≡ b.pending ++ rest
      → front ++ rest ≡ bytes → GoesOn rule a (record { state = b.state; pending = pending; fresh = b.fresh }) bytes before now
  goes_part a b front rest bytes pending before now f going part is joins =
      let next : Point X = record { state = b.state; pending = pending; fresh = b.fresh } in
      let P : List ℕ → Type 0 = λ s. CarriesOut rule a next s before now in
      let Q : List ℕ → Type 0 = IsPart in
      let whole : IsPart pending = subst Q (sym is) (All-append (λ x. (x == 10) ≡ false) b.pending rest f.part part) in
      record { going = going; carried = subst P joins (carries-append a b next front rest before now now f (carries_part b rest pending now whole is)) }

  -- a line is carried out at its line feed
  pub carries_line : (at : Point X) (next : X) (bytes line pending : List ℕ) (over : Bool) (before now : Option (List ℕ)) → IsPart (at.pending ++ bytes) → IsGoing rule at.state
      → line ≡ line_at at.fresh ((at.pending ++ bytes) ++ 10 ∷ []) → CarriesLine rule at.state next line over before now → pending ≡ []
      → CarriesOut rule at (record { state = next; pending = pending; fresh = false }) (bytes ++ 10 ∷ []) before now
  carries_line at next bytes line pending over before now part going is step none =
      let one : lines_from at.fresh ((at.pending ++ bytes) ++ 10 ∷ []) ≡ line ∷ [] = lines_from_line at.fresh (at.pending ++ bytes) part ∙ ap (λ l. l ∷ []) (sym is) in
      rw none (record {
        whole = (at.pending ++ bytes) ++ 10 ∷ [];
        cut = append-nil ((at.pending ++ bytes) ++ 10 ∷ []) ∙ append_assoc at.pending bytes (10 ∷ []);
        ends = inr (at.pending ++ bytes, refl);
        part = part_none;
        fresh = fresh_feed at.fresh (at.pending ++ bytes);
        text = step.text ++ rule.prompt next;
        said = let P : List (List ℕ) → Type 0 = λ ls. Prints rule at.state ls (step.text ++ rule.prompt next) next in
            subst P (sym one) (prints_one rule at.state next line step.text going step.replies);
        wrote = step.wrote;
      })

  module _ (Stops : X → List ℕ → X → Type 0) where
    -- the talk halts before any line
    pub breaks_none : (at : Point X) (bytes : List ℕ) (w : Option (List ℕ)) → BreaksWithin rule Stops at at.state bytes w w
    breaks_none at bytes w = record {
      whole = [];
      rest = at.pending ++ bytes;
      cut = refl;
      ends = inl refl;
      breaks = record { done = []; more = lines_from at.fresh []; cut = refl; text = []; held = at.state; said = (refl, refl); left = inl refl; wrote = front_none w [] };
    }

    pub breaks_is : (at : Point X) (x' : X) (xs ys : List ℕ) (before now : Option (List ℕ)) → xs ≡ ys → BreaksWithin rule Stops at x' xs before now → BreaksWithin rule Stops at x' ys before now
    breaks_is at x' xs ys before now e b = let P : List ℕ → Type 0 = λ s. BreaksWithin rule Stops at x' s before now in subst P e b

    -- more bytes follow
    pub breaks_more : (at : Point X) (x' : X) (bytes more : List ℕ) (before now : Option (List ℕ)) → BreaksWithin rule Stops at x' bytes before now → BreaksWithin rule Stops at x' (bytes ++ more) before now
    breaks_more at x' bytes more before now b = record {
      whole = b.whole;
      rest = b.rest ++ more;
      cut = sym (append_assoc b.whole b.rest more) ∙ ap (λ s. s ++ more) b.cut ∙ append_assoc at.pending bytes more;
      ends = b.ends;
      breaks = b.breaks;
    }

    -- the talk halts among the lines of bytes, after others were carried out
    pub breaks_behind : (a b : Point X) (x' : X) (xs bytes : List ℕ) (before mid now : Option (List ℕ)) (f : CarriesOut rule a b xs before mid) → Breaks rule Stops b x' bytes mid now → Breaks rule Stops a x' (f.whole ++ bytes) before now
    breaks_behind a b x' xs bytes before mid now f g = record {
      done = lines_from a.fresh f.whole ++ g.done;
      more = g.more;
      cut = append_assoc (lines_from a.fresh f.whole) g.done g.more ∙ ap (λ s. lines_from a.fresh f.whole ++ s) g.cut
          ∙ ap (λ t. lines_from a.fresh f.whole ++ lines_from t bytes) f.fresh ∙ sym (lines_from-append a.fresh f.whole bytes f.ends);
      text = f.text ++ g.text;
      held = g.held;
      said = prints-append rule a.state b.state g.held (lines_from a.fresh f.whole) g.done f.text g.text f.said g.said;
      left = g.left;
      wrote = front_after before mid now f.text g.text f.wrote g.wrote;
    }

    pub breaks_after : (a b : Point X) (x' : X) (xs ys : List ℕ) (before mid now : Option (List ℕ)) → CarriesOut rule a b xs before mid → BreaksWithin rule Stops b x' ys mid now → BreaksWithin rule Stops a x' (xs ++ ys) before now
    breaks_after a b x' xs ys before mid now f g = record {
      whole = f.whole ++ g.whole;
      rest = g.rest;
      cut = append_assoc f.whole g.whole g.rest ∙ ap (λ s. f.whole ++ s) g.cut ∙ sym (append_assoc f.whole b.pending ys) ∙ ap (λ s. s ++ ys) f.cut ∙ append_assoc a.pending xs ys;
      ends = EndsLine-append f.whole g.whole f.ends g.ends;
      breaks = breaks_behind a b x' xs g.whole before mid now f g.breaks;
    }

    left_by : (x x' : X) (line : List ℕ) → LeftBy Stops x line x' → LeftAt Stops x (line ∷ []) x'
    left_by x x' line left = elim left [ inl e ↦ inl e | inr s ↦ inr (line, [], refl, s) ]

    -- the talk halts at the one line of bytes
    pub breaks_one : (at : Point X) (x' : X) (bytes line : List ℕ) (before now : Option (List ℕ)) → IsGoing rule at.state → line ∷ [] ≡ lines_from at.fresh bytes → StopsAt rule Stops at.state x' line before now
        → Breaks rule Stops at x' bytes before now
    breaks_one at x' bytes line before now going one stop = elim stop [
      | inl s ↦ record { done = []; more = line ∷ []; cut = one; text = []; held = at.state; said = (refl, refl); left = left_by at.state x' line s.0; wrote = front_all before now [] s.1 }
      | inr s ↦ record {
        done = line ∷ [];
        more = [];
        cut = one;
        text = s.0 ++ rule.prompt x';
        held = x';
        said = prints_one rule at.state x' line s.0 going s.1;
        left = inl refl;
        wrote = s.2;
      }
    ]

    -- writing what a line prints halts
    pub stops_text : (x x' : X) (line text said : List ℕ) (before now : Option (List ℕ)) → rule.Replies x line text x' → said ≡ text → AppendsFront before now said → StopsAt rule Stops x x' line before now
    stops_text x x' line text said before now r is f = inr (text, r, front_more before now text (rule.prompt x') (front_is before now said text is f))

    -- writing the prompt after it halts
    pub stops_prompt : {T E : Type 0} (res : Result T E) (x x' : X) (line text said : List ℕ) (before mid now : Option (List ℕ)) → rule.Replies x line text x' → said ≡ text → Appends before mid said
        → OnErr res (AppendsFront mid now (rule.prompt x')) → OnErr res (StopsAt rule Stops x x' line before now)
    stops_prompt (Ok v) x x' line text said before mid now r is all err = tt
    stops_prompt (Err e) x x' line text said before mid now r is all err =
        inr (text, r, front_is before now (said ++ rule.prompt x') (text ++ rule.prompt x') (ap (λ s. s ++ rule.prompt x') is) (front_after before mid now said (rule.prompt x') all err))

    -- the talk halts at a line
    pub breaks_line : (at : Point X) (x' : X) (bytes line : List ℕ) (before now : Option (List ℕ)) → IsPart (at.pending ++ bytes) → IsGoing rule at.state
        → line ≡ line_at at.fresh ((at.pending ++ bytes) ++ 10 ∷ []) → StopsAt rule Stops at.state x' line before now → BreaksWithin rule Stops at x' (bytes ++ 10 ∷ []) before now
    breaks_line at x' bytes line before now part going is stop =
        let whole : List ℕ = (at.pending ++ bytes) ++ 10 ∷ [] in
        let one : line ∷ [] ≡ lines_from at.fresh whole = ap (λ l. l ∷ []) is ∙ sym (lines_from_line at.fresh (at.pending ++ bytes) part) in
        record {
          whole = whole;
          rest = [];
          cut = append-nil whole ∙ append_assoc at.pending bytes (10 ∷ []);
          ends = inr (at.pending ++ bytes, refl);
          breaks = breaks_one at x' whole line before now going one stop;
        }

  module _ (at : Point X) (x' : X) (line : List ℕ) (before now : Option (List ℕ)) (part : IsPart at.pending) (going : IsGoing rule at.state)
      (is : line ≡ line_at at.fresh at.pending) (full : (length line == 0) ≡ false) where
    last_one : lines_from at.fresh at.pending ≡ line ∷ []
    last_one =
        let line_part : IsPart line = let P : List ℕ → Type 0 = IsPart in subst P (sym is) (line_at_part at.fresh at.pending part) in
        ap lines (sym is) ∙ lines_last line line_part full

    -- the last line was carried out
    pub finishes_line : (over : Bool) → CarriesLine rule at.state x' line over before now → Finishes rule at x' before now
    finishes_line over step = record {
      text = step.text ++ rule.prompt x';
      said = let P : List (List ℕ) → Type 0 = λ ls. Prints rule at.state ls (step.text ++ rule.prompt x') x' in subst P (sym last_one) (prints_one rule at.state x' line step.text going step.replies);
      wrote = step.wrote;
    }

    -- the talk halts at the last line
    pub breaks_last : (Stops : X → List ℕ → X → Type 0) → StopsAt rule Stops at.state x' line before now → Breaks rule Stops at x' at.pending before now
    breaks_last Stops stop = breaks_one Stops at x' at.pending line before now going (sym last_one) stop

-- a line and what follows it make the rest of a piece
pub joined : (front bytes after rest piece : List ℕ) → front ++ rest ≡ piece → rest ≡ bytes ++ 10 ∷ after → (front ++ (bytes ++ 10 ∷ [])) ++ after ≡ piece
joined front bytes after rest piece e f = append_assoc front (bytes ++ 10 ∷ []) after ∙ ap (λ s. front ++ s) (append_assoc bytes (10 ∷ []) after ∙ sym f) ∙ e

pub joined_whole : (front bytes after rest piece : List ℕ) → front ++ rest ≡ piece → rest ≡ bytes ++ 10 ∷ after → front ++ ((bytes ++ 10 ∷ []) ++ after) ≡ piece
joined_whole front bytes after rest piece e f = sym (append_assoc front (bytes ++ 10 ∷ []) after) ∙ joined front bytes after rest piece e f
