use Rattle.std.proofs.Common.{◌∷◌, ◌++◌, [], ap, ◌∙◌}
use Rattle.opa_words.proofs.layout.BlockLaws.{begins_lines, begins_blocks}
use Rattle.opa_words.proofs.layout.laying.begin.Goals as goal

pub returns-clause-lines : goal.returns-clause-lines
returns-clause-lines c = begins_lines c.args.file c.args.blocks.now.items c.push-2.new.self.items c.push.new.self c.args.line (c.in_ok-push.ensures.ok ∙ ap (λ ls. ls ++ c.args.line ∷ []) c.new-lines.ensures) c.in_ok-push-2.ensures.items

pub returns-clause-blocks : goal.returns-clause-blocks
returns-clause-blocks c =
    begins_blocks c.args.file c.args.blocks.now.items c.push-2.new.self.items c.push.new.self c.args.line (c.in_ok-push.ensures.ok ∙ ap (λ ls. ls ++ c.args.line ∷ []) c.new-lines.ensures) c.requires.level c.in_ok-push-2.ensures.items c.requires.blocks
