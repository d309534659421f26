use Rattle.std.proofs.Common.{ap, sym, subst, codes, ◌∙◌, string_bytes, map, [], ◌≢◌, inl, inr}
use Rattle.clap.specs.Walk.{first_of}
use Rattle.clap.specs.Words.{App, HasKind, Kinds, fault_of, is_simple, is_simple_and_free, found_of, matches_of}
use Rattle.clap.proofs.WalkLemmas.{first_value-rows}
use Rattle.opa_top.specs.Usage.Words.{opa_app}
use Rattle.opa_top.proofs.usage.ClapLaws.{simple, plain_app, ok_words, bad_words}
use Rattle.opa_top.proofs.usage.clapped.read_positionals.Goals as goal

pub returns-in-Ok-try_get_matches_from-clause-ok :
    goal.returns-in-Ok-try_get_matches_from-clause-ok
returns-in-Ok-try_get_matches_from-clause-ok c =
    let app = c.in-Ok.ensures.app in
    let ws = map string_bytes c.args.words.now in
    let none = c.in-Ok-try_get_matches_from.ensures.kinds (ap is_simple_and_free app ∙ simple) in
    let rows = (c.in-Ok-try_get_matches_from.ensures.matches (ap is_simple app ∙ plain_app)).0 ∙ ap (λ (a : App). matches_of a ws) app in
    let (ps, is, few, values) = ok_words c.args.words.now c.requires (ap (λ (a : App). fault_of a ws) (sym app) ∙ none) in
    let found = found_of c.in-Ok-try_get_matches_from.matches in (
      ps,
      is,
      few,
      c.get_str.ensures ∙ first_value-rows found (codes "mode") ∙ ap (first_of (codes "mode")) rows ∙ values.0,
      c.get_str-in-Ok-try_get_matches_from.ensures ∙ first_value-rows found (codes "rulebase") ∙ ap (first_of (codes "rulebase")) rows ∙ values.1,
      c.get_str-in-Ok-try_get_matches_from-2.ensures ∙ first_value-rows found (codes "name") ∙ ap (first_of (codes "name")) rows ∙ values.2,
    )

pub returns : goal.returns
returns c =
    let app = c.in-Ok.ensures.app in
    let ws = map string_bytes c.args.words.now in
    let fails = c.in-Err.ensures.kinds (ap is_simple_and_free app ∙ simple) in
    let fault : fault_of opa_app ws ≢ [] = λ none.
    elim (subst (λ (k : Kinds). HasKind k c.in-Err.error) (ap (λ (a : App). fault_of a ws) app ∙ none) fails) [
      | inl memory ↦ c.in_default-kind.not-OutOfMemory (c.kind.ensures ∙ memory)
      | inr among ↦ among
    ] in
    record { ok = tt; usage = λ _ ps is. bad_words c.args.words.now c.requires fault ps is }
