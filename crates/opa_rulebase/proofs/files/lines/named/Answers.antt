use Rattle.std.proofs.Common.{◌≡◌, length, subst, ap, ◌∙◌, arith}
use Rattle.std.specs.Str.{chars}
use Rattle.opa_words.specs.Cuts.{IsCause}
use Rattle.opa_words.specs.Layout.Indents.{level}
use Rattle.opa_words.specs.Pieces.{seen, pieces}
use Rattle.opa_rulebase.proofs.files.FileLineLaws.{stuck_names_none, read_as}
use Rattle.opa_rulebase.proofs.files.lines.named.Goals as goal

pub returns-in-Err-Place : goal.returns-in-Err-Place
returns-in-Err-Place c = stuck_names_none c.args.number c.args.line.now c.in-Err-Place.field-0-0 (subst (IsCause (length c.args.line.now) (chars c.args.line.now)) c.in-Err-Place.field-0-is c.in-Err-Place.ensures.fault)

pub returns-in-Ok : goal.returns-in-Ok
returns-in-Ok c =
    let flat : level c.args.line.now ≡ 0 = omega arith in
    read_as c.args.number c.args.line.now c.in-Ok.found.items (seen c.new.result) c.named_by.result flat c.in-Ok.ensures.cut (c.new.ensures.tokens ∙ ap (pieces c.args.line.now) c.deref.ensures.value) c.named_by.ensures.tokens c.named_by.ensures.line
