use Rattle.std.proofs.Common.{◌≡◌, ◌+◌, length, ap, subst, arith}
use Rattle.std.specs.Prelude.{IfOk, IfErr}
use Rattle.std.specs.Str.{chars}
use Rattle.opa_words.specs.Characters.{width}
use Rattle.opa_words.specs.Cuts.{Cuts, IsCause}
use Rattle.opa_words.proofs.CutLaws.{width_chars}
use Rattle.std.specs.List.{All}
use Rattle.opa_io.proofs.Results.{if_ok_then}
use Rattle.opa_words.specs.Places.{IsWithin, IsOfKind, AreApart, IsAtCharacter}
use Rattle.opa_words.proofs.PlaceLaws.{tokens_within, tokens_of_kind, tokens_apart, fault_at_character}
use Rattle.opa_words.proofs.ResultLaws.{on_err}
use Rattle.opa_words.proofs.cutting.tokens.Goals as goal

pub returns-clause-cut : goal.returns-clause-cut
returns-clause-cut c =
    let all : chars c.new.result.rest.now ≡ chars c.args.text.now = ap chars c.new.ensures.rest in
    let total : c.new.result.at + width (chars c.new.result.rest.now) ≡ length c.args.text.now = omega (arith, c.new.ensures.place, ap width all, width_chars c.args.text.now c.utf8.text) in
    subst (λ n. IfOk c.cut.result (λ v. Cuts n (chars c.args.text.now) v.items)) total
    (subst (λ cs. IfOk c.cut.result (λ v. Cuts (c.new.result.at + width (chars c.new.result.rest.now)) cs v.items)) all c.cut.ensures.cut)

pub returns-clause-fault : goal.returns-clause-fault
returns-clause-fault c =
    let all : chars c.new.result.rest.now ≡ chars c.args.text.now = ap chars c.new.ensures.rest in
    let total : c.new.result.at + width (chars c.new.result.rest.now) ≡ length c.args.text.now = omega (arith, c.new.ensures.place, ap width all, width_chars c.args.text.now c.utf8.text) in
    subst (λ n. IfErr c.cut.result (IsCause n (chars c.args.text.now))) total
    (subst (λ cs. IfErr c.cut.result (IsCause (c.new.result.at + width (chars c.new.result.rest.now)) cs)) all c.cut.ensures.fault)

pub returns-clause-within : goal.returns-clause-within
returns-clause-within c = if_ok_then (λ v. Cuts (length c.args.text.now) (chars c.args.text.now) v.items) (λ v. All (IsWithin c.args.text.now) v.items) c.cut.result (λ v. tokens_within c.args.text.now v.items c.utf8.text) (returns-clause-cut c)

pub returns-clause-kinds : goal.returns-clause-kinds
returns-clause-kinds c = if_ok_then (λ v. Cuts (length c.args.text.now) (chars c.args.text.now) v.items) (λ v. All (IsOfKind c.args.text.now) v.items) c.cut.result (λ v. tokens_of_kind c.args.text.now v.items c.utf8.text) (returns-clause-cut c)

pub returns-clause-apart : goal.returns-clause-apart
returns-clause-apart c = if_ok_then (λ v. Cuts (length c.args.text.now) (chars c.args.text.now) v.items) (λ v. AreApart c.args.text.now 0 v.items) c.cut.result (λ v. tokens_apart c.args.text.now v.items c.utf8.text) (returns-clause-cut c)

pub returns-clause-border : goal.returns-clause-border
returns-clause-border c = on_err (IsCause (length c.args.text.now) (chars c.args.text.now)) (IsAtCharacter c.args.text.now) c.cut.result (λ e. fault_at_character c.args.text.now e c.utf8.text) (returns-clause-fault c)
