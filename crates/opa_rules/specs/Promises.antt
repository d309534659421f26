-- What the program promises, whatever words, files and outside it is given.
use Rattle.std.specs.Prelude.{String, map, ℕ, ◌≡◌, List, [], Option, None, Some, IfSome, Result, Ok, Err}
use Rattle.std.specs.String.{string_bytes}
use Rattle.std.specs.declared.alloc.Global.{Global}
use Rattle.std.specs.Io.KnownBytes.{Appends}
use Rattle.opa_io.specs.declared.fault.Status.{Status}
use Rattle.opa_io.specs.declared.fault.Status.TheVariants as status
use Rattle.opa_io.specs.Outside.{Files, Rose, AppendsFront}
use Rattle.opa_talk.specs.WholeInput.Telling.{IsTold}
use Rattle.opa_tree.specs.declared.rulebase.Rulebase.{Rulebase}
use Rattle.opa_rulebase.specs.Loading.{Opens}
use Rattle.opa_rules.specs.Describing.Description.{described}
use Rattle.opa_rules.specs.Faults.Finding.{Finds}
use Rattle.opa_rules.specs.Printing.Prints.{IsPrintOf}
use Rattle.opa_rules.specs.Reviewing.Findings.{reviewed, reviewed_json}
use Rattle.opa_rules.specs.declared.reading.Mode.{Mode}
use Rattle.opa_rules.specs.declared.reading.Mode.TheVariants as mode
use Rattle.opa_rules.specs.Asked.{asked_of, usage}

-- the description of an accepted rulebase, or the printed refusal
abbrev pub answer : Result Rulebase (List ℕ) → List ℕ
answer (Ok base) = described base
answer (Err text) = text

-- what is found of an accepted rulebase, in a form, or the printed refusal
abbrev pub review_answer : (Rulebase → List ℕ) → Result Rulebase (List ℕ) → List ℕ
review_answer shown (Ok base) = shown base
review_answer shown (Err text) = text

-- What is told of the outside: the files of the shelf, the bytes that were written, and the counts of faults of taking files and of
-- writing.
pub record Outside : Type 0 where
  pub files : Option Files
  pub written : Option (List ℕ)
  pub takes : ℕ
  pub writes : ℕ

abbrev pub outside : {F K : Type 0} → (F → Option Files) → (F → ℕ) → (K → Option (List ℕ)) → (K → ℕ) → F → K → Outside
outside files takes written writes shelf out = record { files = files shelf; written = written out; takes = takes shelf; writes = writes out }

module _ (name : List ℕ) (old new : Outside) where
  -- what the files open under the name is of this sort
  abbrev pub Opening : (Result Rulebase (List ℕ) → Type 0) → Type 0
  Opening Is = IfSome old.files (λ files. (opened : Result Rulebase (List ℕ)) × Opens files name opened × Is opened)

  -- a rulebase, whose description was written
  abbrev pub WroteDescription : Result Rulebase (List ℕ) → Type 0
  WroteDescription (Ok base) = Appends old.written new.written (described base)
  WroteDescription (Err text) = ⊥

  -- a refusal, which was written
  abbrev pub WroteRefusal : Result Rulebase (List ℕ) → Type 0
  WroteRefusal (Ok base) = ⊥
  WroteRefusal (Err text) = Appends old.written new.written text

  -- How a description ends: with Done the files open a rulebase, and its description was written; with Refused they open a refusal,
  -- which was written. With WriteFault the sink failed, and a front of that was written. Else nothing was written: taking a file
  -- failed, or there was no memory.
  abbrev pub Describes : Status → Type 0
  Describes status.Done = Opening WroteDescription
  Describes status.Refused = Opening WroteRefusal
  Describes status.Usage = ⊥
  Describes status.ReadFault = Rose old.takes new.takes × Appends old.written new.written []
  Describes status.WriteFault = Rose old.writes new.writes × Opening (λ opened. AppendsFront old.written new.written (answer opened))
  Describes status.NoMemory = Appends old.written new.written []
  Describes status.InputLimit = ⊥

  -- a rulebase, whose print was written
  abbrev pub WrotePrint : Result Rulebase (List ℕ) → Type 0
  WrotePrint (Ok base) = (text : List ℕ) × IsPrintOf name base text × Appends old.written new.written text
  WrotePrint (Err text) = ⊥

  -- a rulebase or a refusal, and a front of its print was written or of its text
  abbrev pub WroteFrontOfPrint : Result Rulebase (List ℕ) → Type 0
  WroteFrontOfPrint (Ok base) = (text : List ℕ) × IsPrintOf name base text × AppendsFront old.written new.written text
  WroteFrontOfPrint (Err text) = AppendsFront old.written new.written text

  -- a rulebase, and nothing was written
  abbrev pub WroteNoPrint : Result Rulebase (List ℕ) → Type 0
  WroteNoPrint (Ok base) = Appends old.written new.written []
  WroteNoPrint (Err text) = ⊥

  -- How a print ends: with Done the files open a rulebase, and a text was written that opens the same one; with Refused they open
  -- a refusal, which was written. With WriteFault the sink failed, and a front of that was written. With InputLimit they open a
  -- rulebase that can't be printed so. Then, and else, nothing was written: taking a file failed, or there was no memory.
  abbrev pub Prints : Status → Type 0
  Prints status.Done = Opening WrotePrint
  Prints status.Refused = Opening WroteRefusal
  Prints status.Usage = ⊥
  Prints status.ReadFault = Rose old.takes new.takes × Appends old.written new.written []
  Prints status.WriteFault = Rose old.writes new.writes × Opening WroteFrontOfPrint
  Prints status.NoMemory = Appends old.written new.written []
  Prints status.InputLimit = Opening WroteNoPrint

  -- a rulebase, and its findings were written in this form
  abbrev pub WroteReview : (Rulebase → List ℕ) → Result Rulebase (List ℕ) → Type 0
  WroteReview shown (Ok base) = Appends old.written new.written (shown base)
  WroteReview shown (Err text) = ⊥

  -- How a review ends: with Done the files open a rulebase, and its findings were written in this form. All else is as with a
  -- description.
  abbrev pub Reviews : (Rulebase → List ℕ) → Status → Type 0
  Reviews shown status.Done = Opening (WroteReview shown)
  Reviews shown status.Refused = Opening WroteRefusal
  Reviews shown status.Usage = ⊥
  Reviews shown status.ReadFault = Rose old.takes new.takes × Appends old.written new.written []
  Reviews shown status.WriteFault = Rose old.writes new.writes × Opening (λ opened. AppendsFront old.written new.written (review_answer shown opened))
  Reviews shown status.NoMemory = Appends old.written new.written []
  Reviews shown status.InputLimit = ⊥

  -- what is found in the files under the name is of this sort
  abbrev pub Finding : (Option (List ℕ) → Type 0) → Type 0
  Finding Is = IfSome old.files (λ files. (found : Option (List ℕ)) × Finds files name found × Is found)

  -- nothing was found, and nothing was written
  abbrev pub WroteNothing : Option (List ℕ) → Type 0
  WroteNothing None = Appends old.written new.written []
  WroteNothing (Some text) = ⊥

  -- errors were found, and their text was written
  abbrev pub WroteErrors : Option (List ℕ) → Type 0
  WroteErrors None = ⊥
  WroteErrors (Some text) = Appends old.written new.written text

  -- errors were found, and a front of their text was written
  abbrev pub WroteFront : Option (List ℕ) → Type 0
  WroteFront None = ⊥
  WroteFront (Some text) = AppendsFront old.written new.written text

  -- How a list of errors ends: with Done the rulebase is accepted, and nothing was written; with Refused it has errors, which were
  -- written. With WriteFault the sink failed, and a front of that was written. Else nothing was written: taking a file failed, or
  -- there was no memory.
  abbrev pub Faults : Status → Type 0
  Faults status.Done = Finding WroteNothing
  Faults status.Refused = Finding WroteErrors
  Faults status.Usage = ⊥
  Faults status.ReadFault = Rose old.takes new.takes × Appends old.written new.written []
  Faults status.WriteFault = Rose old.writes new.writes × Finding WroteFront
  Faults status.NoMemory = Appends old.written new.written []
  Faults status.InputLimit = ⊥

abbrev pub words_of : List (String Global) → List (List ℕ)
words_of words = map (λ w. string_bytes w) words

-- the words of the command line ask for the mode over the name
abbrev pub Asks : List (String Global) → Mode → List ℕ → Type 0
Asks words m name = asked_of (words_of words) ≡ Some (m, name)

pub record Promises (words : List (String Global)) (old new : Outside) (result : Status) : Type 0 where
  -- Where the words are of no mode, the usage line is written.
  pub usage : asked_of (words_of words) ≡ None → IsTold status.Usage usage old.written new.written old.writes new.writes result
  -- The mode `describe` describes what the files open under the name.
  pub describe : (name : List ℕ) → Asks words mode.Describe name → Describes name old new result
  -- The mode `faults` lists the errors of the rulebase of the name.
  pub faults : (name : List ℕ) → Asks words mode.Faults name → Faults name old new result
  -- The mode `print` prints what the files open under the name as one file.
  pub print : (name : List ℕ) → Asks words mode.Print name → Prints name old new result
  -- The mode `review` says what is worth a look in what the files open under the name, one line a finding: none if nothing was
  -- found.
  pub review : (name : List ℕ) → Asks words mode.Review name → Reviews name old new reviewed result
  -- With `--json` it says the same as one JSON document.
  pub review_json : (name : List ℕ) → Asks words mode.ReviewJson name → Reviews name old new reviewed_json result
  -- The files stay as they are.
  pub files : new.files ≡ old.files
