use Rattle.std.specs.Prelude.{nat_lt, ◌&&◌, cond, None, Some, unwrap_or}
use Rattle.std.specs.List.{list_any}
use Rattle.std.specs.FinMap.{FinMap, get}
use Rattle.std.proofs.Common.{ap, sym, subst, ◌∙◌, ◌≡◌}
use Rattle.opa_cells.specs.Keys.{cell_cmp}
use Rattle.opa_case.specs.Shapes.{shape_of}
use Rattle.opa_case.specs.Live.{Names, Population, live_of}
use Rattle.opa_case.specs.Cases.{CaseView, stored}
use Rattle.opa_case.specs.Homes.{home_of, AreHomes, AreCounts}
use Rattle.opa_case.specs.Lost.{goes_with, answers_of}
use Rattle.opa_case.specs.Turns.{is_among}
use Rattle.opa_case.specs.Order.{live_in}
use Rattle.opa_case.specs.Relists.{relisted, lists_with}
use Rattle.opa_case.specs.Whole.{IsWhole}
use Rattle.opa_case.proofs.Relisting.{lists_left, answers_left, fits_then, whole_then}
use Rattle.opa_case.proofs.Shaped.{shape_is}
use Rattle.opa_case.proofs.Turned.{no_home, homes_then, live_then, case_then}
use Rattle.opa_case.proofs.case.Case.write_list.Goals as goal

pub put_in-requires : goal.put_in-requires
put_in-requires c i among =
    no_home c.args.self.now.live _ _ _ c.args.inst.now c.requires.moves.turns c.self.inside.living.homes
    (subst (AreHomes c.self.inside.living.homes) (ap (λ (v : CaseView). v.live) c.self.view_is) c.self.invariant.0)
    i (ap (λ (xs : Population). is_among xs i) (sym c.deref.ensures.value) ∙ among)

module _ (c : goal.After-drop-came-2) where
  abbrev next : CaseView
  next = relisted (shape_of c.args.model.now) c.args.self.now c.args.rel c.args.inst.now c.args.names

  abbrev put_lists : FinMap cell_cmp Names
  put_lists = lists_with c.args.self.now.lists c.args.rel c.args.inst.now c.args.names

  homes : AreHomes c.drop_homes.new.homes next.live
  homes =
      homes_then c.args.self.now.live next.live c.args.moves.went.items c.args.moves.came.items c.args.inst.now c.requires.moves.turns
      c.self.inside.living.homes c.put_in.new.homes c.drop_homes.new.homes
      (subst (AreHomes c.self.inside.living.homes) (ap (λ (v : CaseView). v.live) c.self.view_is) c.self.invariant.0)
      (λ x. c.in_ok-put_in.ensures.homes x ∙ ap (λ (xs : Population). cond (is_among xs x) (Some c.args.inst.now) (home_of c.self.inside.living.homes x)) c.deref.ensures.value)
      (λ x. c.drop_homes.ensures x ∙ ap (λ (xs : Population). cond (is_among xs x) None (home_of c.put_in.new.homes x)) c.deref-2.ensures.value)

  put : c.put_in.new.lists ≡ put_lists
  put = c.in_ok-put_in.ensures.lists ∙ ap (λ (v : CaseView). lists_with v.lists c.args.rel c.args.inst.now c.args.names) c.self.view_is

  lists : c.drop_lists.new.lists ≡ next.lists
  lists =
      let s = shape_of c.args.model.now in
      lists_left s c.args.ruled.now (shape_is c.args.model.now c.requires.form) c.args.self.now c.args.rel c.args.inst.now c.requires.declared c.requires.fits c.args.names c.requires.accepted
      c.args.moves.went.items c.args.moves.came.items c.requires.moves.turns c.drop_lists.new.lists
      (λ q j. c.drop_lists.ensures q j
      ∙ ap (λ (m : FinMap cell_cmp Names). cond (nat_lt q s.relations && list_any (λ g. goes_with s g.0 q j (get m (q, j))) c.deref-3.result.now) None (get m (q, j))) put
      ∙ ap (λ (xs : Population). cond (nat_lt q s.relations && list_any (λ g. goes_with s g.0 q j (get put_lists (q, j))) xs) None (get put_lists (q, j))) c.deref-3.ensures.value)

  answers : c.drop_answers.new.answers ≡ next.answers
  answers =
      let s = shape_of c.args.model.now in
      answers_left s c.args.ruled.now (shape_is c.args.model.now c.requires.form) c.args.self.now c.args.rel c.args.inst.now c.requires.declared c.requires.fits c.args.names c.requires.accepted
      c.args.moves.went.items c.args.moves.came.items c.requires.moves.turns c.drop_answers.new.answers
      (λ a j. c.drop_answers.ensures a j
      ∙ ap (λ (v : CaseView). cond (nat_lt a s.attributes && list_any (λ g. answers_of s g.0 a j) c.deref-4.result.now) None (get v.answers (a, j))) c.self.view_is
      ∙ ap (λ (xs : Population). cond (nat_lt a s.attributes && list_any (λ g. answers_of s g.0 a j) xs) None (get c.args.self.now.answers (a, j))) c.deref-4.ensures.value)

  every : c.replace_every.new.every ≡ next.every
  every = c.replace_every.ensures ∙ ap (λ (v : CaseView). unwrap_or c.args.moves.every v.every) c.self.view_is ∙ c.requires.moves.every

  live : next.live ≡ live_of (shape_of c.args.model.now) (stored next.lists)
  live = (fits_then (shape_of c.args.model.now) c.args.ruled.now (shape_is c.args.model.now c.requires.form) c.args.self.now c.args.rel c.args.inst.now c.requires.declared c.requires.fits c.args.names c.requires.accepted).live

told : (c : goal.After-drop-came-2) → ◌≡◌ {A = CaseView} (record { lists = c.drop_lists.new.lists; every = c.replace_every.new.every; answers = c.drop_answers.new.answers; live = live_in (Some c.of.result) c.drop_lists.new.lists }) (next c)
told c =
    case_then c.of.result.is (shape_of c.args.model.now) (ap shape_of c.of.ensures) (next c) (live c) c.drop_lists.new.lists (lists c)
    c.replace_every.new.every c.drop_answers.new.answers (every c) (answers c)

pub invariant_of-self-2 : goal.invariant_of-self-2
invariant_of-self-2 c =
    let same = live_then c.of.result.is (shape_of c.args.model.now) (ap shape_of c.of.ensures) (next c) (live c) c.drop_lists.new.lists (lists c) in (
      subst (AreHomes c.drop_homes.new.homes) same (homes c),
      subst (AreCounts c.args.moves.counts) same c.requires.moves.counts,
      subst IsWhole (sym (told c))
          (whole_then (shape_of c.args.model.now) c.args.ruled.now (shape_is c.args.model.now c.requires.form) c.args.self.now c.args.rel c.args.inst.now c.requires.declared c.requires.fits c.args.names c.requires.accepted (subst IsWhole c.self.view_is c.self.invariant.2)),
    )

pub returns-clause-ok : goal.returns-clause-ok
returns-clause-ok c = told c
