use Rattle.std.proofs.Common.{◌≡◌, ◌∙◌, ◌&&◌, ap, ap₂, sym, map, Bool, false, List, nat_le}
use Rattle.std.specs.List.{list_all, list_any}
use Rattle.std.specs.Option.{option_map_or}
use Rattle.opa_model.specs.declared.things.Kind.{Kind}
use Rattle.opa_model.specs.declared.things.Kind.TheVariants as kind
use Rattle.opa_model.specs.Lookups.{relation_at}
use Rattle.opa_tree.specs.Kinds.{Typing, typed, typing, is_kind, all_kinds, can_have, all_can, op_can, quant_can, window_can}
use Rattle.opa_tree.proofs.KindLaws.{typing-Attr, typing-All, typing-Any, typing-Not, typing-Op, typing-Certain, typing-Known, typing-Over, typing-Window, typing-Rolling, typing-Table, row_typing}
use Rattle.opa_rulebase.specs.Checking.KindSets.{has, typing_of, row_typed}
use Rattle.opa_rulebase.proofs.checking.SetLaws.{each_can, rows_can, row_by}
use Rattle.opa_rulebase.proofs.checking.kinds.+walk.Goals as goal

pub kinds_of-returns-in-Attr : goal.kinds_of-returns-in-Attr
kinds_of-returns-in-Attr t c = c.attribute_kinds.ensures ∙ sym (typing-Attr c.args.model.now c.in-Attr.attr) ∙ ap (typing c.args.model.now) (sym c.in-Attr.is)

pub kinds_of-returns-in_ok-test-in-All : goal.kinds_of-returns-in_ok-test-in-All
kinds_of-returns-in_ok-test-in-All t c =
    let m = c.args.model.now in
    c.only.ensures ∙ ap (λ (b : Bool). typed (λ k. is_kind kind.Bool k && b)) (c.in_ok-test-in-All.ensures ∙ ap (list_all (λ e. can_have m e kind.Bool)) c.as_slice.ensures ∙ each_can m kind.Bool c.in-All.parts)
    ∙ sym (typing-All m c.in-All.parts) ∙ ap (typing m) (sym c.in-All.is)

pub kinds_of-returns-in_ok-test-in-Any : goal.kinds_of-returns-in_ok-test-in-Any
kinds_of-returns-in_ok-test-in-Any t c =
    let m = c.args.model.now in
    c.only-in-Any.ensures ∙ ap (λ (b : Bool). typed (λ k. is_kind kind.Bool k && b)) (c.in_ok-test-in-Any.ensures ∙ ap (list_all (λ e. can_have m e kind.Bool)) c.as_slice-in-Any.ensures ∙ each_can m kind.Bool c.in-Any.parts)
    ∙ sym (typing-Any m c.in-Any.parts) ∙ ap (typing m) (sym c.in-Any.is)

pub kinds_of-returns-in_ok-set-in-Not : goal.kinds_of-returns-in_ok-set-in-Not
kinds_of-returns-in_ok-set-in-Not t c =
    let m = c.args.model.now in
    let part : typing_of c.in_ok-set-in-Not.set ≡ typing m c.in-Not.part = c.in_ok-set-in-Not.ensures ∙ ap (typing m) c.get.ensures in
    c.only-in-Not.ensures ∙ ap (λ (f : Kind → Bool). typed (λ k. is_kind kind.Bool k && f kind.Bool)) (ap (λ (t : Typing). t.can) part)
    ∙ sym (typing-Not m c.in-Not.part) ∙ ap (typing m) (sym c.in-Not.is)

pub kinds_of-returns-in_ok-set-in-Certain : goal.kinds_of-returns-in_ok-set-in-Certain
kinds_of-returns-in_ok-set-in-Certain t c =
    let m = c.args.model.now in
    let part : typing_of c.in_ok-set-in-Certain.set ≡ typing m c.in-Certain.part = c.in_ok-set-in-Certain.ensures ∙ ap (typing m) c.get-in-Certain.ensures in
    c.only-in-Certain.ensures ∙ ap (λ (b : Bool). typed (λ k. is_kind kind.Bool k && b)) (c.is_some.ensures ∙ ap (λ (f : Kind → Bool). list_any f all_kinds) (ap (λ (t : Typing). t.can) part))
    ∙ sym (typing-Certain m c.in-Certain.part) ∙ ap (typing m) (sym c.in-Certain.is)

pub kinds_of-returns-in_ok-set-in-Known : goal.kinds_of-returns-in_ok-set-in-Known
kinds_of-returns-in_ok-set-in-Known t c =
    let m = c.args.model.now in
    let part : typing_of c.in_ok-set-in-Known.set ≡ typing m c.in-Known.part = c.in_ok-set-in-Known.ensures ∙ ap (typing m) c.get-in-Known.ensures in
    c.only-in-Known.ensures ∙ ap (λ (b : Bool). typed (λ k. is_kind kind.Bool k && b)) (c.is_some-in-Known.ensures ∙ ap (λ (f : Kind → Bool). list_any f all_kinds) (ap (λ (t : Typing). t.can) part))
    ∙ sym (typing-Known m c.in-Known.part) ∙ ap (typing m) (sym c.in-Known.is)

pub kinds_of-returns-in_ok-sets-in-Op : goal.kinds_of-returns-in_ok-sets-in-Op
kinds_of-returns-in_ok-sets-in-Op t c =
    let m = c.args.model.now in
    c.op_kinds.ensures ∙ ap (λ (xs : List Typing). typed (op_can c.in-Op.op xs)) (ap (map typing_of) c.deref.ensures.value ∙ c.in_ok-sets-in-Op.ensures ∙ ap (map (typing m)) c.as_slice-in-Op.ensures)
    ∙ sym (typing-Op m c.in-Op.op c.in-Op.parts) ∙ ap (typing m) (sym c.in-Op.is)

pub kinds_of-returns-in_ok-sets-in-Over : goal.kinds_of-returns-in_ok-sets-in-Over
kinds_of-returns-in_ok-sets-in-Over t c =
    let m = c.args.model.now in
    c.over_kinds.ensures ∙ ap (λ (xs : List Typing). typed (λ k. option_map_or (λ x. quant_can c.in-Over.quant x.one xs k) (relation_at m c.in-Over.rel) false)) (ap (map typing_of) c.deref-in-Over.ensures.value ∙ c.in_ok-sets-in-Over.ensures ∙ ap (map (typing m)) c.as_slice-in-Over.ensures)
    ∙ sym (typing-Over m c.in-Over.quant c.in-Over.rel c.in-Over.parts) ∙ ap (typing m) (sym c.in-Over.is)

pub kinds_of-returns-in_ok-sets-in-Window : goal.kinds_of-returns-in_ok-sets-in-Window
kinds_of-returns-in_ok-sets-in-Window t c =
    let m = c.args.model.now in
    c.window_kinds.ensures ∙ ap (λ (xs : List Typing). typed (window_can c.in-Window.window xs)) (ap (map typing_of) c.deref-in-Window.ensures.value ∙ c.in_ok-sets-in-Window.ensures ∙ ap (map (typing m)) c.as_slice-in-Window.ensures)
    ∙ sym (typing-Window m c.in-Window.window c.in-Window.parts) ∙ ap (typing m) (sym c.in-Window.is)

pub kinds_of-returns-in_ok-set-in-Rolling : goal.kinds_of-returns-in_ok-set-in-Rolling
kinds_of-returns-in_ok-set-in-Rolling t c =
    let m = c.args.model.now in let n = c.in-Rolling.days in
    let part : typing_of c.in_ok-set-in-Rolling.set ≡ typing m c.in-Rolling.part = c.in_ok-set-in-Rolling.ensures ∙ ap (typing m) c.get-in-Rolling.ensures in
    c.rolling_kinds.ensures ∙ ap (λ (s : Typing). typed (λ k. nat_le 1 n && nat_le n 36600 && is_kind kind.Bool k && s.can kind.Bool)) part
    ∙ sym (typing-Rolling m c.in-Rolling.field-0 n c.in-Rolling.part) ∙ ap (typing m) (sym c.in-Rolling.is)

pub kinds_of-returns-in_ok-kinds-in-Table : goal.kinds_of-returns-in_ok-kinds-in-Table
kinds_of-returns-in_ok-kinds-in-Table t c =
    let m = c.args.model.now in
    let last : typing_of c.in_ok-kinds-in-Table.kinds ≡ typing m c.in-Table.last = c.in_ok-kinds-in-Table.ensures ∙ ap (typing m) c.get-in-Table.ensures in
    let rows : typing_of c.meet.result ≡ typed (λ k. list_all (λ row. row k) (map (row_typing m) c.in-Table.rows)) =
    c.meet.ensures ∙ ap (λ (xs : List Typing). typed (all_can xs)) (ap (map typing_of) c.deref-in-Table.ensures.value ∙ c.in_ok-sets-in-Table.ensures ∙ ap (map (row_typed m)) c.as_slice-in-Table.ensures) ∙ rows_can m c.in-Table.rows in
    c.and.ensures ∙ ap₂ (λ (s u : Typing). typed (λ k. s.can k && u.can k)) rows last
    ∙ sym (typing-Table m c.in-Table.rows c.in-Table.last) ∙ ap (typing m) (sym c.in-Table.is)

pub row_kinds-returns : goal.row_kinds-returns
row_kinds-returns t c = c.where_holds.ensures ∙ row_by c.args.model.now c.args.row.now c.in_ok-cond.cond c.in_ok-value.value c.in_ok-cond.ensures c.in_ok-value.ensures
