use Rattle.opa_words.proofs.layout.BlockLaws.{goes_lines, goes_blocks}
use Rattle.opa_words.proofs.layout.laying.go_on.Goals as goal

pub returns-clause-lines : goal.returns-clause-lines
returns-clause-lines c = goes_lines c.pop.new.self.items c.args.blocks.now.items c.push-in-Some.new.self.items c.in-Some.block c.push.new.self c.args.line c.in-Some.ensures.items c.in_ok-push-in-Some.ensures.ok c.in_ok-push-in-Some-2.ensures.items

pub returns-clause-blocks : goal.returns-clause-blocks
returns-clause-blocks c = λ file h. goes_blocks file c.pop.new.self.items c.args.blocks.now.items c.push-in-Some.new.self.items c.in-Some.block c.push.new.self c.args.line c.in-Some.ensures.items c.in_ok-push-in-Some.ensures.ok c.requires.level c.in_ok-push-in-Some-2.ensures.items h
