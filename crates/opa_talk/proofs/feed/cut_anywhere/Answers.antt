use Rattle.opa_talk.proofs.TranscriptLaws.{cuts_anywhere, has_one_transcript}
use Rattle.opa_talk.proofs.feed.cut_anywhere.Goals as goal

pub returns-clause-anywhere : goal.returns-clause-anywhere
returns-clause-anywhere g c = cuts_anywhere g.T.Replier.rule

pub returns-clause-one : goal.returns-clause-one
returns-clause-one g c = has_one_transcript g.T.Replier.rule
