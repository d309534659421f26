use Rattle.std.proofs.Common.{◌≡◌, ◌+◌, [], List, All, sym, subst, ◌∙◌}
use Rattle.opa_model.specs.declared.ids.AttrId.{AttrId}
use Rattle.opa_tree.specs.Ranks.{rank_at}
use Rattle.opa_mean.proofs.goals.Filling.{level_at}
use Rattle.opa_rules.proofs.reviewing.SeenLaws.{level_above, spread_lower}
use Rattle.opa_rules.proofs.reviewing.looking.pass_on_from.Goals as goal

pub returns : goal.returns
returns c =
    λ start.
    let r = c.args.base.now in
    let own = c.as_slice.ensures ∙ level_at r c.args.levels.now c.args.place c.index-levels-place.result c.requires.are c.requires.within c.index-levels-place.is in
    spread_lower r c.args.place c.as_slice.result.now c.pass_on_level.new.marks.items own (c.in_ok-pass_on_level.ensures (c.args.place + 1) (level_above r c.args.place c.as_slice.result.now own) start)
