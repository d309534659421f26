use Rattle.std.proofs.lemmas.List.Elements.{All-rest}
use Rattle.opa_words.specs.Places.{IsWithin}
use Rattle.opa_decl.proofs.limits.limit.Goals as goal

pub decimals-requires : goal.decimals-requires
decimals-requires c = All-rest (IsWithin c.args.text.now) c.in-Some.token.now c.in-Some.rest.now c.args.tokens.now c.in-Some.ensures c.requires
