-- What each status of a batch says, from how it ended.
use Rattle.std.proofs.Common.{◌≡◌, ◌≢◌, ◌≤◌, ◌⊎◌, inl, inr, ℕ, List, [], ◌∷◌, length, refl, sym, subst, arith}
use Rattle.std.specs.Prelude.{Option, None, Some, IfSome, Result, Ok, Err}
use Rattle.std.specs.Io.KnownBytes.{Appends, Consumes, IsAtEnd}
use Rattle.opa_io.specs.Outside.{Files, AppendsFront}
use Rattle.opa_io.proofs.Appended.{Consumes-none}
use Rattle.opa_io.specs.declared.fault.Status.{Status}
use Rattle.opa_io.specs.declared.fault.Status.TheVariants as status
use Rattle.opa_io.proofs.Outsides.{read_whole, read_within}
use Rattle.opa_rulebase.specs.Loading.{Opens}
use Rattle.opa_parse.specs.Tables.Records.{table_records}
use Rattle.opa_tree.specs.declared.rulebase.Rulebase.{Rulebase}
use Rattle.opa_talk.specs.WholeInput.Outside.{MOST, Outside, IsUnused, ReadAtMost, Calm}
use Rattle.opa_talk.specs.WholeInput.Telling.{IsTold}
use Rattle.opa_batch.specs.Batches.{Gives, GivesOf}
use Rattle.opa_batch.specs.Serving.{IsOpened, Works, Decides, Serves}
use Rattle.opa_batch.specs.Statuses.{WroteOver, WroteRefusal, WroteFront, Wrote, OpensBase, HasCause, IsAnswered, Completes}
use Rattle.opa_batch.specs.Promises.{Promises}

told_with : (P Q : Files → Type 0) (o : Option Files) → IfSome o P → ((files : Files) → P files → Q files) → IfSome o Q
told_with P Q None h f = tt
told_with P Q (Some files) h f = f files h

-- what is given ends with Done or with Refused
given_good : (base : Rulebase) (records : List (List (List ℕ))) (good : Status) (text : List ℕ) (P : Status → Type 0) → P status.Done → P status.Refused → GivesOf base records good text → P good
given_good base [] good text P done refused h = subst P (sym h.0) refused
given_good base (first ∷ records) good text P done refused (inl h) = subst P (sym h.0) refused
given_good base (first ∷ records) good text P done refused (inr h) = subst P (sym h.0) done

good_of : (base : Rulebase) (read : List ℕ) (good : Status) (text : List ℕ) (P : Status → Type 0) → P status.Done → P status.Refused → Gives base read good text → P good
good_of base read good text P done refused h = given_good base (table_records read) good text P done refused h

module _ (name : List ℕ) (old new : Outside) where
  unread : IsUnused old new → Consumes old.left new.left []
  unread u = let P : Option (List ℕ) → Type 0 = λ l. Consumes old.left l [] in subst P (sym u.left) (Consumes-none old.left)

  none_read : IsUnused old new → ReadAtMost old new MOST
  none_read u = ([], unread u, omega arith)

  abbrev Opened : Files → Type 0
  Opened files = (base : Rulebase) × Opens files name (Ok base)

  opens_base : (base : Rulebase) → IsOpened old.files name (Ok base) → OpensBase name old new
  opens_base base o = told_with (λ files. Opens files name (Ok base)) Opened old.files o (λ files h. (base, h))

  -- ---- what was written

  over : (base : Rulebase) (read : List ℕ) (good : Status) (text : List ℕ) (o : Option Files) (l : Option (List ℕ)) → IfSome o (λ files. Opens files name (Ok base)) → Consumes l new.left read → IsAtEnd new.left
      → Gives base read good text → Appends old.written new.written text
      → IfSome o (λ files. IfSome l (λ bytes. (b : Rulebase) × Opens files name (Ok b) × ((t : List ℕ) × Gives b bytes good t × Appends old.written new.written t)))
  over base read good text None l opens took ended gives wrote = tt
  over base read good text (Some files) None opens took ended gives wrote = tt
  over base read good text (Some files) (Some bytes) opens took ended gives wrote =
      (base, opens, (text, subst (λ r. Gives base r good text) (read_whole bytes read new.left took ended) gives, wrote))

  abbrev Front : Files → List ℕ → Type 0
  Front files bytes =
      Appends old.written new.written []
      ⊎ (((text : List ℕ) × Opens files name (Err text) × AppendsFront old.written new.written text)
      ⊎ ((base : Rulebase) × Opens files name (Ok base) × ((good : Status) × (text : List ℕ) × Gives base bytes good text × AppendsFront old.written new.written text)))

  front_over : (base : Rulebase) (read : List ℕ) (good : Status) (text : List ℕ) (o : Option Files) (l : Option (List ℕ)) → IfSome o (λ files. Opens files name (Ok base)) → Consumes l new.left read → IsAtEnd new.left
      → Gives base read good text → AppendsFront old.written new.written text → IfSome o (λ files. IfSome l (Front files))
  front_over base read good text None l opens took ended gives wrote = tt
  front_over base read good text (Some files) None opens took ended gives wrote = tt
  front_over base read good text (Some files) (Some bytes) opens took ended gives wrote =
      inr (inr (base, opens, (good, text, subst (λ r. Gives base r good text) (read_whole bytes read new.left took ended) gives, wrote)))

  front_refused : (text : List ℕ) (o : Option Files) (l : Option (List ℕ)) → IfSome o (λ files. Opens files name (Err text)) → AppendsFront old.written new.written text → IfSome o (λ files. IfSome l (Front files))
  front_refused text None l opens wrote = tt
  front_refused text (Some files) None opens wrote = tt
  front_refused text (Some files) (Some bytes) opens wrote = inr (inl (text, opens, wrote))

  front_nothing : (o : Option Files) (l : Option (List ℕ)) → Appends old.written new.written [] → IfSome o (λ files. IfSome l (Front files))
  front_nothing None l none = tt
  front_nothing (Some files) None none = tt
  front_nothing (Some files) (Some bytes) none = inl none

  wrote_nothing : Appends old.written new.written [] → WroteFront name old new
  wrote_nothing none = front_nothing old.files old.left none

  refusal_written : (text : List ℕ) → IsOpened old.files name (Err text) → IsUnused old new → Appends old.written new.written text → WroteRefusal name old new
  refusal_written text o u wrote =
      told_with (λ files. Opens files name (Err text)) (λ files. (t : List ℕ) × Opens files name (Err t) × Appends old.written new.written t × IsUnused old new) old.files o (λ files h. (text, h, wrote, u))

  module _ (base : Rulebase) (o : IsOpened old.files name (Ok base)) where
    over_good : (s : Status) (w : Works base old new s) → Appends old.written new.written w.text → WroteOver name old new w.good
    over_good s w wrote = over base w.read w.good w.text old.files old.left o w.took w.ended w.gives wrote

    done_wrote : (s : Status) (w : Works base old new s) → Appends old.written new.written w.text → Wrote name old new w.good
    done_wrote s w wrote = good_of base w.read w.good w.text (λ g. WroteOver name old new g → Wrote name old new g) (λ h. h) (λ h. inr h) w.gives (over_good s w wrote)

    work_wrote : (s : Status) → Works base old new s → Wrote name old new s
    work_wrote s w = elim w.told [
      | inl h ↦ subst (Wrote name old new) (sym h.0) (done_wrote s w h.1)
      | inr h ↦ subst (Wrote name old new) (sym h.0) (front_over base w.read w.good w.text old.files old.left o w.took w.ended w.gives h.2)
    ]

    decide_wrote : (s : Status) → Decides base old new s → Wrote name old new s
    decide_wrote s (Decides.works w) = work_wrote s w
    decide_wrote status.ReadFault (Decides.cannot_read rose some none) = wrote_nothing none
    decide_wrote status.InputLimit (Decides.too_long many none) = wrote_nothing none
    decide_wrote status.NoMemory (Decides.runs_out some none) = wrote_nothing none

    -- ---- causes

    was_read : (s : Status) (w : Works base old new s) → ReadAtMost old new MOST
    was_read s w = (w.read, w.took, w.within)

    done_cause : (s : Status) (w : Works base old new s) → Appends old.written new.written w.text → HasCause name old new w.good
    done_cause s w wrote =
        good_of base w.read w.good w.text (λ g. WroteOver name old new g → HasCause name old new g) (λ h. (opens_base base o, (w.ended, was_read s w))) (λ h. inr (h, (w.ended, was_read s w))) w.gives (over_good s w wrote)

    work_cause : (s : Status) → Works base old new s → HasCause name old new s
    work_cause s w = elim w.told [
      | inl h ↦ subst (HasCause name old new) (sym h.0) (done_cause s w h.1)
      | inr h ↦ subst (HasCause name old new) (sym h.0) (h.1, was_read s w)
    ]

    decide_cause : (s : Status) → Decides base old new s → HasCause name old new s
    decide_cause s (Decides.works w) = work_cause s w
    decide_cause status.ReadFault (Decides.cannot_read rose some none) = (inr rose, some)
    decide_cause status.InputLimit (Decides.too_long many none) = (opens_base base o, many)
    decide_cause status.NoMemory (Decides.runs_out some none) = some

    -- ---- completeness

    answered : (s good : Status) (bytes read text : List ℕ) → s ≡ good → Consumes (Some bytes) new.left read → IsAtEnd new.left → Gives base read good text → IsAnswered (Ok base) bytes s
    answered s good bytes read text is took ended gives =
        (text, subst (λ g. Gives base bytes g text) (sym is) (subst (λ r. Gives base r good text) (read_whole bytes read new.left took ended) gives))

    work_answers : (s : Status) (bytes : List ℕ) (w : Works base old new s) → Consumes (Some bytes) new.left w.read → Calm old new → IsAnswered (Ok base) bytes s
    work_answers s bytes w took calm = elim w.told [
      | inl h ↦ answered s w.good bytes w.read w.text h.0 took w.ended w.gives
      | inr h ↦ absurd (calm.write h.1)
    ]

  module _ (base : Rulebase) where
    decide_answers : (s : Status) (bytes : List ℕ) → IsOpened old.files name (Ok base) → old.left ≡ Some bytes → Decides base old new s → Calm old new → length bytes ≤ MOST → s ≢ status.NoMemory → IsAnswered (Ok base) bytes s
    decide_answers s bytes o is (Decides.works w) calm few some = work_answers base o s bytes w (subst (λ l. Consumes l new.left w.read) is w.took) calm
    decide_answers status.ReadFault bytes o is (Decides.cannot_read rose read none) calm few some = absurd (calm.read rose)
    decide_answers status.InputLimit bytes o is (Decides.too_long many none) calm few some =
        let took : Consumes (Some bytes) new.left many.0 = subst (λ l. Consumes l new.left many.0) is many.1 in
        absurd (omega (arith, read_within bytes many.0 new.left took, many.2, few))
    decide_answers status.NoMemory bytes o is (Decides.runs_out read none) calm few some = absurd (some refl)

  -- what is told, with the equation that tells it
  told_left : (l : Option (List ℕ)) (Q : List ℕ → Type 0) → ((bytes : List ℕ) → l ≡ Some bytes → Q bytes) → IfSome l Q
  told_left None Q f = tt
  told_left (Some bytes) Q f = f bytes refl

  abbrev Answers : Status → Files → List ℕ → Type 0
  Answers s files bytes = Calm old new → length bytes ≤ MOST → s ≢ status.NoMemory → (opened : Result Rulebase (List ℕ)) × Opens files name opened × IsAnswered opened bytes s

  both_told : (opened : Result Rulebase (List ℕ)) (s : Status) (o : Option Files) → IfSome o (λ files. Opens files name opened)
      → ((bytes : List ℕ) → old.left ≡ Some bytes → Calm old new → length bytes ≤ MOST → s ≢ status.NoMemory → IsAnswered opened bytes s) → IfSome o (λ files. IfSome old.left (Answers s files))
  both_told opened s o opens f =
      told_with (λ files. Opens files name opened) (λ files. IfSome old.left (Answers s files)) o opens (λ files h. told_left old.left (Answers s files) (λ bytes is calm few some. (opened, h, f bytes is calm few some)))

  no_answer : (s : Status) (o : Option Files) → (Calm old new → s ≢ status.NoMemory → ⊥) → IfSome o (λ files. IfSome old.left (Answers s files))
  no_answer s None f = tt
  no_answer s (Some files) f = told_left old.left (Answers s files) (λ bytes is calm few some. absurd (f calm some))

  refusal_answers : (s : Status) (text : List ℕ) → IsTold status.Refused text old.written new.written old.writes new.writes s → Calm old new → s ≡ status.Refused
  refusal_answers s text (inl h) calm = h.0
  refusal_answers s text (inr h) calm = absurd (calm.write h.1)

  -- ---- all of it

  told_refusal : (s : Status) (text : List ℕ) → IsOpened old.files name (Err text) → IsUnused old new → IsTold status.Refused text old.written new.written old.writes new.writes s → Wrote name old new s
  told_refusal s text o u (inl h) = subst (Wrote name old new) (sym h.0) (inl (refusal_written text o u h.1))
  told_refusal s text o u (inr h) = subst (Wrote name old new) (sym h.0) (front_refused text old.files old.left o h.2)

  refusal_cause : (s : Status) (text : List ℕ) → IsOpened old.files name (Err text) → IsUnused old new → IsTold status.Refused text old.written new.written old.writes new.writes s → HasCause name old new s
  refusal_cause s text o u (inl h) = subst (HasCause name old new) (sym h.0) (inl (refusal_written text o u h.1))
  refusal_cause s text o u (inr h) = subst (HasCause name old new) (sym h.0) (h.1, none_read u)

  serve_wrote : (s : Status) → Serves name old new s → Wrote name old new s
  serve_wrote s (Serves.decides base m o files d) = decide_wrote base o s d
  serve_wrote s (Serves.refuses text o u told) = told_refusal s text o u told
  serve_wrote status.ReadFault (Serves.cannot_take rose u none) = wrote_nothing none
  serve_wrote status.NoMemory (Serves.cannot_hold u none) = wrote_nothing none

  serve_cause : (s : Status) → Serves name old new s → HasCause name old new s
  serve_cause s (Serves.decides base m o files d) = decide_cause base o s d
  serve_cause s (Serves.refuses text o u told) = refusal_cause s text o u told
  serve_cause status.ReadFault (Serves.cannot_take rose u none) = (inl rose, none_read u)
  serve_cause status.NoMemory (Serves.cannot_hold u none) = none_read u

  serve_completes : (s : Status) → Serves name old new s → Completes name old new s
  serve_completes s (Serves.decides base m o files d) = both_told (Ok base) s old.files o (λ bytes is calm few some. decide_answers base s bytes o is d calm few some)
  serve_completes s (Serves.refuses text o u told) = both_told (Err text) s old.files o (λ bytes is calm few some. refusal_answers s text told calm)
  serve_completes status.ReadFault (Serves.cannot_take rose u none) = no_answer status.ReadFault old.files (λ calm some. calm.take rose)
  serve_completes status.NoMemory (Serves.cannot_hold u none) = no_answer status.NoMemory old.files (λ calm some. some refl)

  pub promised : (s : Status) → Serves name old new s → new.files ≡ old.files → Promises name old new s
  promised s serves files = record { serves = serves; wrote = serve_wrote s serves; cause = serve_cause s serves; complete = serve_completes s serves; files = files }
