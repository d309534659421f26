use Rattle.std.proofs.Common.{◌∙◌, ap, subst, length}
use Rattle.std.specs.Prelude.{drop, MatchOption}
use Rattle.std.specs.HashMap.{get_by_text}
use Rattle.opa_words.specs.Phrases.{IsLongestPhrase, NoneIsSpelled, IsLastFound, longest_from}
use Rattle.opa_words.proofs.PhraseLaws.{longest_found}
use Rattle.opa_words.proofs.FoundLaws.{finds_none_wider, last_is_longest}
use Rattle.opa_words.proofs.phrases.Phrases.longest.Goals as goal

pub last_found-requires-clause-widest : goal.last_found-requires-clause-widest
last_found-requires-clause-widest c = finds_none_wider (get_by_text c.self.inside.positions) c.self.inside.texts c.self.inside.widest c.self.invariant.1 c.self.invariant.2

pub returns-then-self-le-ROOM : goal.returns-then-self-le-ROOM
returns-then-self-le-ROOM c =
    let ts = drop c.args.place c.args.tokens.now in
    let last = subst (λ ts. IsLastFound (get_by_text c.self.inside.positions) c.args.text.now ts (length ts) c.last_found.result) c.rest_from-rest.ensures c.last_found.ensures in
    subst (λ ps. MatchOption c.last_found.result (NoneIsSpelled ps c.args.text.now ts) (λ x. IsLongestPhrase ps c.args.text.now ts x.0 x.1)) c.self.view_is
    (last_is_longest (get_by_text c.self.inside.positions) c.self.inside.texts c.self.invariant.1 c.args.text.now ts c.last_found.result last)

pub returns-else-self-le-ROOM : goal.returns-else-self-le-ROOM
returns-else-self-le-ROOM c =
    longest_found c.args.text.now (drop c.args.place c.args.tokens.now) c.args.self.now c.longest_of.result
    (c.longest_of.ensures ∙ ap (λ ts. longest_from c.args.text.now ts 0 c.as_slice.result.now) c.rest_from-rest.ensures ∙ ap (longest_from c.args.text.now (drop c.args.place c.args.tokens.now) 0) (c.as_slice.ensures ∙ c.self.view_is))
