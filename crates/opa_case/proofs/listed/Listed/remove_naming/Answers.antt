use Rattle.std.proofs.Common.{ap, sym, ◌∙◌, false, Option}
use Rattle.std.specs.Option.{option_map_or}
use Rattle.opa_case.specs.Listed.{has_source}
use Rattle.opa_case.proofs.Indexed.{Sources}
use Rattle.opa_case.proofs.Listing.{index_unnamed, without_none, unnamed_none}
use Rattle.opa_case.proofs.listed.Listed.remove_naming.Goals as goal

pub invariant_of-self : goal.invariant_of-self
invariant_of-self c =
    index_unnamed c.self.inside.cells c.self.inside.index.entries c.args.number c.args.name.now (has_source c.in-Some.sources.entries) c.self.invariant c.in-Some.ensures.sources
    c.take_each.new.cells c.take_sources.new.index.entries c.take_each.new.index.entries c.take_sources.ensures.others c.take_each.ensures.cells c.take_each.ensures.index

pub invariant_of-self-in_default : goal.invariant_of-self-in_default
invariant_of-self-in_default c =
    let lists = c.self.inside.cells in
    let index = c.take_sources.new.index.entries in
    index_unnamed lists c.self.inside.index.entries c.args.number c.args.name.now (λ _. false) c.self.invariant
    (λ j. ap (λ (o : Option Sources). option_map_or (λ sources. has_source sources.entries j) o false) (sym c.in_default.is) ∙ c.take_sources.ensures.sources j)
    lists index index c.take_sources.ensures.others (without_none lists c.args.number) (unnamed_none lists index c.args.number)
