use Rattle.std.proofs.Common.{◌≡◌, rules}
use Rattle.opa_model.proofs.PhrasesLaws.{declares_last}
use Rattle.opa_model.proofs.model.add_phrase.Goals as goal

pub returns : goal.returns
returns c =
    let same : c.in_ok-to_vec.field-0.items ≡ c.args.phrase.now = search rules in
    declares_last _ _ _ _ c.in_ok-declare.field-0 same c.requires c.in_ok-declare.ensures.ok
