-- What is shown means what it says, for every rulebase and every case: laws of the words that transcripts are made of.
use Rattle.opa_mean.specs.Rulebases.{Determination, Supported, Asked, Relevant, Finished}
use Rattle.opa_mean.specs.SlotLaws.{LineIsOne}
use Rattle.opa_mean.specs.Reached.Dirty.{SettledStays}
use Rattle.opa_mean.specs.Goals.Laws.{StatesAreExact}
use Rattle.opa_reply.specs.Interviews.{Tells, interview}
use Rattle.opa_reply.specs.Replies.{Asks, conversation}
use Rattle.opa_laws.specs.Verified.Laws.{OpenedIsModel, HeldIsPrintable, ReportsAreVerified}

pub record Meaning : Type 0 where
  -- What files open declares a model, and each case that is held over it in a run or an interview fits it, so that all that follows
  -- holds of it.
  pub opened : OpenedIsModel
  pub held : HeldIsPrintable conversation
  pub held_asked : HeldIsPrintable interview
  -- A value is the answer where there is no rule; else it is its rule's value over the values of what the rule mentions.
  pub determined : Determination
  -- A line that is shown is the one line of the values at every day.
  pub shown : LineIsOne
  -- A goal is undecided, decided or settled exactly where its state says so.
  pub states : StatesAreExact
  -- What is known at every day, and never rests on whether something is known, is the same in every completion.
  pub settled : SettledStays
  -- What a report lists fixes the value.
  pub supported : Supported
  -- Whatever files open, the verifier says Yes to each reply that is a report in a run or an interview over it, and tells the value
  -- that the case gives the point.
  pub verified : ReportsAreVerified conversation Asks
  pub verified_asked : ReportsAreVerified interview Tells
  -- What is unknown has a need; nothing outside its needs can decide it; and where nothing is asked, nothing is unknown.
  pub asked : Asked
  pub relevant : Relevant
  pub finished : Finished
