-- What the mode `generate` does, from what its parts ensure.
use Rattle.std.proofs.Common.{◌≡◌, ◌≤◌, ◌*◌, ℕ, pos, Bool, true, false, List, [], inl, inr, Ok, refl, sym, subst, ◌∙◌, arith}
use Rattle.std.specs.Prelude.{ℤ, ◌≢◌, Option, Some, Err, IfSome}
use Rattle.std.specs.Io.KnownBytes.{Appends}
use Rattle.opa_io.specs.Outside.{Files, Rose}
use Rattle.opa_io.specs.declared.fault.Status.{Status}
use Rattle.opa_io.specs.declared.fault.Status.TheVariants as status
use Rattle.opa_value.specs.NumberText.{read_number}
use Rattle.opa_top.specs.Checking.{IsTold}
use Rattle.opa_top.specs.Answering.{Answers}
use Rattle.opa_top.specs.Generating.{SaysNumber, IsOutOfRange, IsGenerated, IsNoSize, IsSize, IsMade, AnswersExample, Generates, generated_files, generated_name, refused_number, unless_lacking}
use Rattle.opa_top.specs.Running.{Outside, IsUnused, a_run}
use Rattle.opa_top.specs.Statuses.{HasCause}
use Rattle.opa_laws.specs.Generated.{GeneratedIsNotRefused, OnlyRulesAreRules}
use Rattle.opa_rulebase.specs.Loading.{Opens}

-- the number of a text has one count
pub same_count : (number : List ℕ) (n : ℕ) (count : ℤ) → read_number number ≡ Ok count → SaysNumber n number → count ≡ pos (n * 10000)
same_count number n count h k = let e : Ok count ≡ Ok (pos (n * 10000)) = sym h ∙ k in cc e

-- a count that is 0 didn't rise
pub none_rose : (before now : ℕ) → now ≡ 0 → Rose before now → ⊥
none_rose before now none rose = absurd (omega (arith, none, rose))

pub answers_example : (before after : Outside) (s result : Status) (lacked : Bool) → Answers a_run generated_name before after s → (lacked ≡ false → Rose before.keeps after.keeps → ⊥)
    → result ≡ unless_lacking s lacked → AnswersExample before after result
answers_example before after status.WriteFault result true a calm e = subst (AnswersExample before after) (sym e) (AnswersExample.lacks a)
answers_example before after status.WriteFault result false a calm e = subst (AnswersExample before after) (sym e) (AnswersExample.answers a (λ w. calm refl))
answers_example before after status.Done result lacked a calm e = subst (AnswersExample before after) (sym e) (AnswersExample.answers a (λ w. absurd (cc w)))
answers_example before after status.Refused result lacked a calm e = subst (AnswersExample before after) (sym e) (AnswersExample.answers a (λ w. absurd (cc w)))
answers_example before after status.Usage result lacked a calm e = subst (AnswersExample before after) (sym e) (AnswersExample.answers a (λ w. absurd (cc w)))
answers_example before after status.ReadFault result lacked a calm e = subst (AnswersExample before after) (sym e) (AnswersExample.answers a (λ w. absurd (cc w)))
answers_example before after status.NoMemory result lacked a calm e = subst (AnswersExample before after) (sym e) (AnswersExample.answers a (λ w. absurd (cc w)))
answers_example before after status.InputLimit result lacked a calm e = subst (AnswersExample before after) (sym e) (AnswersExample.answers a (λ w. absurd (cc w)))

-- what is told ends well, or where the sink failed
told_reads : (text : List ℕ) (old new : Outside) (result : Status) → IsTold status.Refused text old.written new.written old.writes new.writes result → result ≢ status.ReadFault
told_reads text old new result (inl told) e = cc (told.0, e)
told_reads text old new result (inr told) e = cc (told.0, e)

told_writes : (text : List ℕ) (old new : Outside) (result : Status) → IsTold status.Refused text old.written new.written old.writes new.writes result → result ≡ status.WriteFault → Rose old.writes new.writes
told_writes text old new result (inl told) e = absurd (cc (told.0, e))
told_writes text old new result (inr told) e = told.1

module _ (n : ℕ) (old new before after : Outside) (made : IsMade n old new before after) where
  example_reads : (result : Status) → AnswersExample before after result → result ≢ status.ReadFault
  example_reads result (AnswersExample.answers a calm) e = failed (subst (HasCause a_run generated_name before after) e a.cause)
    where
      failed : HasCause a_run generated_name before after status.ReadFault → ⊥
      failed (inl rose, most) = made.takes rose
      failed (inr rose, most) = made.reads rose
  example_reads status.NoMemory (AnswersExample.lacks a) e = cc e

  example_writes : (result : Status) → AnswersExample before after result → result ≡ status.WriteFault → Rose old.writes new.writes
  example_writes result (AnswersExample.answers a calm) e = failed (subst (HasCause a_run generated_name before after) e a.cause)
    where
      failed : HasCause a_run generated_name before after status.WriteFault → Rose old.writes new.writes
      failed (inl rose, most) = subst (λ k. Rose k new.writes) made.writes_before (subst (Rose before.writes) made.writes_after rose)
      failed (inr rose, most) = absurd (calm e rose)
  example_writes status.NoMemory (AnswersExample.lacks a) e = absurd (cc e)

generated_reads : (n : ℕ) (old new : Outside) (result : Status) → Generates n old new result → result ≢ status.ReadFault
generated_reads n old new result (inl out) e = cc (out.0, e)
generated_reads n old new result (inr (before, after, made, a)) e = example_reads n old new before after made result a e

generated_writes : (n : ℕ) (old new : Outside) (result : Status) → Generates n old new result → result ≡ status.WriteFault → Rose old.writes new.writes
generated_writes n old new result (inl out) e = absurd (cc (out.0, e))
generated_writes n old new result (inr (before, after, made, a)) e = example_writes n old new before after made result a e

module _ (not_refused : GeneratedIsNotRefused) (alone : OnlyRulesAreRules) where
  -- the generated files open no refusal
  no_refusal : (before : Outside) → before.files ≡ Some generated_files → IfSome before.files (λ files. (text : List ℕ) × Opens files generated_name (Err text)) → ⊥
  no_refusal before made opens =
      let told : (text : List ℕ) × Opens generated_files generated_name (Err text) = subst (λ (o : Option Files). IfSome o (λ files. (text : List ℕ) × Opens files generated_name (Err text))) made opens in
      not_refused generated_files generated_name told.0 (alone generated_name) told.1

  example_accepted : (n : ℕ) (old new before after : Outside) → IsMade n old new before after → (result : Status) → AnswersExample before after result → result ≢ status.Refused
  example_accepted n old new before after made result (AnswersExample.answers a calm) e =
      let cause : HasCause a_run generated_name before after status.Refused = subst (HasCause a_run generated_name before after) e a.cause in no_refusal before made.files cause.0
  example_accepted n old new before after made status.NoMemory (AnswersExample.lacks a) e = cc e

  pub generated_accepted : (n : ℕ) (old new : Outside) (result : Status) → Generates n old new result → result ≢ status.Refused
  generated_accepted n old new result (inl out) e = cc (out.0, e)
  generated_accepted n old new result (inr (before, after, made, a)) e = example_accepted n old new before after made result a e

module _ (number : List ℕ) (old new : Outside) (result : Status) where
  pub number_refused : IsNoSize number → IsTold status.Refused refused_number old.written new.written old.writes new.writes result → IsUnused old new → IsGenerated number old new result
  number_refused none told unused = record {
    no_read_fault = told_reads refused_number old new result told;
    write_fault = told_writes refused_number old new result told;
    refuses = λ n says out. inr (told, unused);
    talks = λ n says least most. out_or_in n (none n says) least most;
    accepted = λ n says least most. out_or_in n (none n says) least most;
  }
    where
      out_or_in : {T : Type 0} (n : ℕ) → IsOutOfRange n → 1 ≤ n → n ≤ 1000 → T
      out_or_in n (inl few) least most = absurd (omega (arith, few, least))
      out_or_in n (inr many) least most = absurd (omega (arith, many, most))

  pub number_taken : (size : ℕ) → IsSize number size → Generates size old new result → result ≢ status.Refused → IsGenerated number old new result
  number_taken size is made held = record {
    no_read_fault = generated_reads size old new result made;
    write_fault = generated_writes size old new result made;
    refuses = λ n says out. not_out n size (is.2 n says) is.0 is.1 out;
    talks = λ n says least most. subst (λ k. Generates k old new result) (sym (is.2 n says)) made;
    accepted = λ n says least most. held;
  }
    where
      not_out : {T : Type 0} (n size : ℕ) → n ≡ size → 1 ≤ size → size ≤ 1000 → IsOutOfRange n → T
      not_out n size e least most (inl few) = absurd (omega (arith, e, few, least))
      not_out n size e least most (inr many) = absurd (omega (arith, e, many, most))

  pub number_dropped : result ≡ status.NoMemory → Appends old.written new.written [] → IsUnused old new → IsGenerated number old new result
  number_dropped out none unused = record {
    no_read_fault = λ e. cc (out, e);
    write_fault = λ e. absurd (cc (out, e));
    refuses = λ n says far. inl (out, none, unused);
    talks = λ n says least most. inl (out, none, unused);
    accepted = λ n says least most e. cc (out, e);
  }

pub ruleset numbers = (number_refused, number_taken)
