use Rattle.opa_sentence.proofs.LongestLaws.{longest_is}
use Rattle.opa_sentence.proofs.cursor.Cursor.longest.Goals as goal

pub returns : goal.returns
returns c = longest_is c.args.phrases.now c.args.self.text.now c.args.self.tokens.now c.longest.result c.longest.ensures
