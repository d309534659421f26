use Rattle.opa_reply.specs.Interviews.{interview}
use Rattle.opa_reply.specs.Replies.{conversation}
use Rattle.opa_laws.proofs.decided.Transcripts.{one_transcript_of}
use Rattle.opa_laws.proofs.decided.laws.one_transcript.Goals as goal

pub returns-clause-run : goal.returns-clause-run
returns-clause-run c = one_transcript_of conversation c.one_reply.ensures.reply c.one_reply.ensures.base c.one_reply.ensures.told

pub returns-clause-interview : goal.returns-clause-interview
returns-clause-interview c = one_transcript_of interview c.one_answer.ensures.reply c.one_answer.ensures.base c.one_answer.ensures.told
