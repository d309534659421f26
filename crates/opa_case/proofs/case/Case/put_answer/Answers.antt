use Rattle.std.specs.Prelude.{nat_lt, false, Result, Ok, Err, OnOk, OnErr}
use Rattle.std.specs.FinMap.{FinMap, insert, len}
use Rattle.std.proofs.Common.{ap, sym, subst, ◌∙◌, ◌≡◌}
use Rattle.opa_cells.specs.Keys.{cell_cmp}
use Rattle.opa_case.specs.Cases.{CaseView, Answer}
use Rattle.opa_case.specs.Live.{is_live}
use Rattle.opa_case.specs.Order.{live_in}
use Rattle.opa_case.specs.Steps.{is_unknown_answer, with_answer}
use Rattle.opa_case.specs.Whole.{IsWhole}
use Rattle.opa_case.proofs.Whole.{inserted_whole}
use Rattle.opa_case.proofs.case.Case.put_answer.Goals as goal

either_way : {X E P Q : Type 0} (A : Type 0) (r : Result X E) → OnOk r P → OnErr r Q → (P → A) → (Q → A) → A
either_way A (Ok x) p q f g = f p
either_way A (Err e) p q f g = g q

pub invariant_of-self : goal.invariant_of-self
invariant_of-self c =
    let with_answers : FinMap cell_cmp Answer → CaseView = λ m. record { lists = c.self.inside.lists; every = c.self.inside.every; answers = m; live = live_in c.self.inside.model c.self.inside.lists } in
    let a = c.args.attr in
    let i = c.args.inst.now in
    let known : is_unknown_answer c.args.line ≡ false = sym c.is_unknown_answer.ensures ∙ c.if-is_unknown_answer.false in
    let alive = ap (λ (v : CaseView). is_live v.live i) c.self.view_is ∙ c.requires.lives in
    let room = ap (λ (v : CaseView). nat_lt 100000 (len (with_answer v a i c.args.line).answers)) c.self.view_is ∙ c.requires.room in
    let put = inserted_whole (with_answers c.self.inside.answers) a i c.args.line alive known c.requires.few room c.self.invariant.2 in (
      c.self.invariant.0,
      c.self.invariant.1,
      either_way (IsWhole (with_answers c.insert.new.self)) c.insert.result c.insert.ensures.ok c.insert.ensures.err
          (λ is. subst (λ (m : FinMap cell_cmp Answer). IsWhole (with_answers m)) (sym (is ∙ ap (λ k. insert c.self.inside.answers (a.0, k) c.args.line) c.in_ok-key.ensures)) put)
          (λ is. subst (λ (m : FinMap cell_cmp Answer). IsWhole (with_answers m)) (sym is) c.self.invariant.2),
    )
