use Rattle.std.proofs.Common.{◌≡◌, ◌∙◌, ap, sym, Bool}
use Rattle.opa_model.specs.declared.things.Kind.TheVariants as kind
use Rattle.opa_tree.specs.Kinds.{Typing, is_kind, literal_of}
use Rattle.opa_rulebase.proofs.checking.kinds.literal_kinds.Goals as goal

pub returns-in-Num : goal.returns-in-Num
returns-in-Num c =
    c.literal_number.ensures ∙ ap (λ (d : Bool). let t : Typing = record { can = is_kind kind.Number; is_decimals = d } in t) c.counts_decimals.ensures
    ∙ ap literal_of (sym c.in-Num.is)
