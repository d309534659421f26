-- Whether what an attribute reaches ever asks if a value is known.
use Rattle.std.specs.Prelude.{Bool}
use Rattle.std.specs.List.{list_all}
use Rattle.opa_model.specs.declared.ids.AttrId.{AttrId}
use Rattle.opa_tree.specs.Ranks.{reach}
use Rattle.opa_tree.specs.Rules.{rule_of}
use Rattle.opa_mean.specs.Frees.{rule_is_free}
use Rattle.opa_mean.specs.Mean.{Base}

-- No rule of an attribute that it reaches asks whether a value is known. What it reaches is found by as many mentions, one
-- after another, as its rank says.
abbrev pub never_asks : Base → AttrId → Bool
never_asks b a = list_all (λ m. rule_is_free (rule_of b.rules m)) (reach b.rules (b.rank a) a)
