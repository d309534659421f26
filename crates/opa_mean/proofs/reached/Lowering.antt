-- What a slot reads is of lower rank, and at live instances.
use Rattle.std.proofs.Common.{◌==◌}
use Rattle.std.proofs.lemmas.Bool.{eq-eqb, and_from}
use Rattle.opa_io.proofs.Lists.{each_weaker}
use Rattle.opa_model.specs.declared.ids.AttrId.{AttrId}
use Rattle.opa_case.specs.Cases.{CaseView}
use Rattle.opa_case.specs.Live.{is_live}
use Rattle.opa_case.specs.Shapes.{shape_of}
use Rattle.opa_case.specs.declared.question.Question.{Question}
use Rattle.opa_case.specs.declared.question.Question.TheVariants as question
use Rattle.opa_tree.specs.declared.rulebase.Rulebase.{Rulebase}
use Rattle.opa_mean.specs.Places.{owner_of}
use Rattle.opa_mean.specs.Rulebases.{IsOf}
use Rattle.opa_mean.proofs.Fitting.{in_live}
use Rattle.opa_mean.specs.Reached.Dirty.{slot_reads, IsReadBy, ReadsAreLower}
use Rattle.opa_mean.proofs.reached.Naming.{NamedIn, slot_named}

read_by : (r : Rulebase) (c : CaseView) (is : IsOf r c) (a : AttrId) (q : Question) → NamedIn r c is a q → IsReadBy r c a q
read_by r c is a (question.Attr m i) h = (and_from (is_live c.live i) (i.entity.0 == owner_of (shape_of r.model) m) (in_live c i h.0) (eq-eqb i.entity.0 (owner_of (shape_of r.model) m) h.1), h.2)
read_by r c is a (question.Members q i) h = in_live c i h

pub reads_are_lower : ReadsAreLower
reads_are_lower r c is a i live = each_weaker (NamedIn r c is a) (IsReadBy r c a) (read_by r c is a) (slot_reads r c a i) (slot_named r c is a i live)
