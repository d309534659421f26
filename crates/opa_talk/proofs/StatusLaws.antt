-- Laws for what a program's status says of its talk: what was read, and which lines were carried out.
use Rattle.std.proofs.Common.{◌≡◌, ◌≢◌, ◌≤◌, inl, inr, ℕ, List, [], ◌++◌, length, take, drop, append_assoc, append-nil, Option, Some, Err, refl, ap, sym, ◌∙◌, subst, arith}
use Rattle.std.specs.Io.KnownBytes.{Appends, Consumes}
use Rattle.std.proofs.lemmas.List.{take-append-drop}
use Rattle.opa_io.proofs.Appended.{Consumes-none}
use Rattle.opa_io.specs.Outside.{Rose}
use Rattle.opa_io.specs.declared.fault.Status.{Status}
use Rattle.opa_io.specs.declared.fault.Status.TheVariants as status
use Rattle.opa_io.proofs.Outsides.{rose_before, read_within}
use Rattle.opa_talk.specs.declared.halt.Halt.{Halt}
use Rattle.opa_talk.specs.declared.halt.Halt.TheVariants as halt
use Rattle.opa_talk.specs.Ended.{Counts, Ends}
use Rattle.opa_talk.specs.Halt.{IsCause, end_of}
use Rattle.opa_talk.specs.Lines.{EndsLine, IsWhole, input_lines}
use Rattle.opa_talk.specs.Talk.{HaltedAmong, Halts, Paused}
use Rattle.opa_talk.specs.Transcript.{Rule, IsTranscript}
use Rattle.opa_talk.proofs.EndLaws.{among_whole}
use Rattle.opa_talk.proofs.PointsLaws.{front_all}

-- ---- what was read

-- of an input that is as it was nothing was read
pub unread : (l l' : Option (List ℕ)) → l' ≡ l → Consumes l l' []
unread l l' e = let P : Option (List ℕ) → Type 0 = λ x. Consumes l x [] in subst P (sym e) (Consumes-none l)

-- ---- which lines were carried out

module _ {X : Type 0} (rule : Rule X) (Stops : X → List ℕ → X → Type 0) (x y : X) (text : List ℕ) (left before now : Option (List ℕ)) where
  among : (whole rest read : List ℕ) → whole ++ rest ≡ read → EndsLine whole → IsTranscript rule x (input_lines whole) text y → Appends before now text → HaltedAmong rule Stops x y read left before now
  among whole rest read cut ends said wrote = among_whole rule Stops x y whole rest read left before now cut ends (record {
    done = input_lines whole;
    more = [];
    cut = append-nil _;
    text = text;
    held = y;
    said = said;
    left = inl refl;
    wrote = front_all before now text wrote;
  })

  -- the whole lines of what was read are some of its lines
  pub whole_among : (whole read : List ℕ) → IsWhole whole read → IsTranscript rule x (input_lines whole) text y → Appends before now text → HaltedAmong rule Stops x y read left before now
  whole_among whole read is said wrote = among whole is.rest read is.cut is.ends said wrote

  -- so are those of the first bytes of it
  pub first_among : (most : ℕ) (whole read : List ℕ) → IsWhole whole (take most read) → IsTranscript rule x (input_lines whole) text y → Appends before now text → HaltedAmong rule Stops x y read left before now
  first_among most whole read is said wrote =
      among whole (is.rest ++ drop most read) read (sym (append_assoc whole is.rest (drop most read)) ∙ ap (λ s. s ++ drop most read) is.cut ∙ take-append-drop most read) is.ends said wrote

-- ---- how it ended

module _ (most : ℕ) (left left' : Option (List ℕ)) (old new : Counts) (All Whole Front : List ℕ → Type 0) where
  -- A talk halts, by its cause. The count of files that weren't taken may have risen before it.
  pub halts_end : {X : Type 0} (rule : Rule X) (Stops : X → List ℕ → X → Type 0) (x y : X) (before now : Option (List ℕ)) (mid : ℕ) → old.takes ≤ mid
      → ((read : List ℕ) → Paused rule x y read before now → Whole read) → ((read : List ℕ) → HaltedAmong rule Stops x y read left' before now → Front read)
      → (e : Halt) → Halts rule Stops x y most left left' before now e → IsCause mid new.takes old.keeps new.keeps old.writes new.writes old.reads new.reads e
      → Ends most left left' old new All Whole Front (end_of (Err e))
  halts_end rule Stops x y before now mid less whole front halt.Input (read, took, (few, p)) cause = (read, took, few, inl (cause, whole read p))
  halts_end rule Stops x y before now mid less whole front halt.Output (read, took, (few, h)) cause = (read, took, few, (inl cause, front read h))
  halts_end rule Stops x y before now mid less whole front halt.Take (read, took, (few, h)) cause = (read, took, few, inr (rose_before old.takes mid new.takes less cause, front read h))
  halts_end rule Stops x y before now mid less whole front halt.Keep (read, took, (few, h)) cause = (read, took, few, (inr cause, front read h))
  halts_end rule Stops x y before now mid less whole front halt.Memory (read, took, (few, h)) cause = (read, took, few, front read h)
  halts_end rule Stops x y before now mid less whole front halt.Limit (read, took, (many, p)) cause = (read, took, many, whole (take most read) p)

  -- Where nothing failed, the input is short enough and memory sufficed, a talk is done.
  pub calm_is_done : (bytes : List ℕ) → left ≡ Some bytes → length bytes ≤ most
      → (Rose old.takes new.takes → ⊥) → (Rose old.keeps new.keeps → ⊥) → (Rose old.reads new.reads → ⊥) → (Rose old.writes new.writes → ⊥)
      → (s : Status) → Ends most left left' old new All Whole Front s → s ≢ status.NoMemory → s ≡ status.Done
  calm_is_done bytes told short take keep read write status.Done t some = refl
  calm_is_done bytes told short take keep read write status.Refused t some = absurd t
  calm_is_done bytes told short take keep read write status.Usage t some = absurd t
  calm_is_done bytes told short take keep read write status.ReadFault (r, took, few, inl h) some = absurd (read h.0)
  calm_is_done bytes told short take keep read write status.ReadFault (r, took, few, inr h) some = absurd (take h.0)
  calm_is_done bytes told short take keep read write status.WriteFault (r, took, few, (inl h, says)) some = absurd (write h)
  calm_is_done bytes told short take keep read write status.WriteFault (r, took, few, (inr h, says)) some = absurd (keep h)
  calm_is_done bytes told short take keep read write status.NoMemory t some = absurd (some refl)
  calm_is_done bytes told short take keep read write status.InputLimit (r, took, many, says) some =
      absurd (let few = read_within bytes r left' (subst (λ x. Consumes x left' r) told took) in omega (arith, few, many, short))
