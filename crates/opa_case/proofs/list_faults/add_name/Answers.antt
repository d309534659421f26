use Rattle.std.proofs.Common.{ap, ◌∙◌, Some, cond}
use Rattle.std.specs.Prelude.{is_some, ℕ, List, bytes_eq}
use Rattle.std.specs.HashMap.{get_by}
use Rattle.std.specs.Cmp.Lexicographic.{texts_ties}
use Rattle.std.proofs.lemmas.Map.Text.{hash_map_updates_str}
use Rattle.opa_case.proofs.Naming.{added}
use Rattle.opa_case.proofs.list_faults.add_name.Goals as goal

pub returns : goal.returns
returns c q =
    let old = get_by (λ k. bytes_eq q k.now) c.args.later.now in
    let key = c.as_str.result.now in
    ap is_some (hash_map_updates_str key c.args.later.now c.insert.new.self (Some tt) c.in_ok-insert.ensures.updates q)
    ∙ ap (λ (k : List ℕ). is_some (cond (bytes_eq k q) (Some tt) old)) c.as_str.ensures
    ∙ ap (λ b. is_some (cond b (Some tt) old)) (texts_ties c.args.name.now q)
    ∙ added c.args.name.now q tt old
