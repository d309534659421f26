use Rattle.std.proofs.Common.{◌∙◌, ap, List, []}
use Rattle.std.specs.Prelude.{flat_map}
use Rattle.opa_model.specs.declared.things.Verb.{Verb}
use Rattle.opa_tree.specs.FirstFaults.{first_of, first_fault}
use Rattle.opa_decl.specs.Faults.{repeated}
use Rattle.opa_decl.specs.Names.{forms}
use Rattle.opa_decl.specs.Seen.{seen}
use Rattle.opa_decl.proofs.JudgeLaws.{twice_are}
use Rattle.opa_decl.proofs.drafting.first_twice.Goals as goal

pub returns : goal.returns
returns c =
    let t = seen c.args.tables.now in let items = c.args.items.now in
    c.first_of-2.ensures ∙ ap (first_of c.in_ok-verb.verb) (c.first_of.ensures ∙ ap (first_of c.in_ok-entity.entity) c.first_of_four-later.ensures)
    ∙ twice_are t items c.in_ok-verb.verb c.in_ok-entity.entity c.in_ok-form.form c.in_ok-goal.goal c.in_ok-shown.shown c.in_ok-file.file
    c.in_ok-verb.ensures c.in_ok-entity.ensures (c.in_ok-form.ensures ∙ ap (λ (v : List Verb). first_fault (repeated [] (flat_map (forms t.verbs v) items))) c.requires) c.in_ok-goal.ensures c.in_ok-shown.ensures c.in_ok-file.ensures
