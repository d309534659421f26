-- What is spelled within bounds is what is spelled without them, told within bounds.
use Rattle.std.proofs.Common.{◌≡◌, ℕ, List, [], ◌∷◌, ◌++◌, map, Bool, true, false, Some, refl, sym, ap, subst, ◌∙◌}
use Rattle.std.proofs.lemmas.List.{map-append}
use Rattle.opa_value.specs.declared.value.Value.TheVariants as value
use Rattle.opa_tree.specs.declared.kinds.OpKind.{OpKind}
use Rattle.opa_tree.specs.declared.kinds.OpKind.TheVariants as op
use Rattle.opa_sentence.specs.declared.functions.Function.{Function}
use Rattle.opa_sentence.specs.declared.names.Names.{Names}
use Rattle.opa_sentence.specs.declared.reading.Reading.{Reading}
use Rattle.opa_sentence.specs.declared.reading.Parts.{Parts}
use Rattle.opa_sentence.specs.declared.reading.Arguments.{Arguments}
use Rattle.opa_sentence.specs.Lexemes.{Lexeme}
use Rattle.opa_sentence.specs.Measures.{unbounded, bounded}
use Rattle.opa_sentence.specs.Bounding.{bound, bound_parts, bound_arguments}
use Rattle.opa_sentence.specs.Readings as says
use Rattle.opa_sentence.specs.Grammar.{Part, LINE, OPERAND, TERM, FACTOR, Spells, SpellsMore, SpellsArgument, SpellsArguments}
use Rattle.opa_sentence.specs.Grammar as g
use Rattle.opa_sentence.proofs.BoundLaws.{bound_unnamed, bound_with, bound_nested, bound_one_part, bound_all, bound_any, bound_between, bound_deny, bound_negate, bound_operand, bound_call}

-- one line more
line_more : (a : Arguments) (x : Reading) → bound_arguments (record a { lines = a.lines ++ x ∷ [] }) ≡ record (bound_arguments a) { lines = map bound a.lines ++ bound x ∷ [] }
line_more a x = ap (λ rs. let z : Arguments = record a { lines = rs } in z) (map-append bound a.lines (x ∷ []))

module _ (ns : Names) where
  abbrev Free : Part → List Lexeme → Reading → List Lexeme → Type 0
  Free = Spells unbounded ns

  abbrev Kept : Part → List Lexeme → Reading → List Lexeme → Type 0
  Kept = Spells bounded ns

  to : {p : Part} {ts : List Lexeme} {rest : List Lexeme} (x y : Reading) → x ≡ y → Kept p ts y rest → Kept p ts x rest
  to {p = p} {ts = ts} {rest = rest} x y e d = subst (λ z. Kept p ts z rest) (sym e) d

  mutual
    pub bounds : {p : Part} {ts : List Lexeme} {x : Reading} {rest : List Lexeme} → Free p ts x rest → Kept p ts (bound x) rest
    bounds (g.Spells.one d) = g.Spells.one (bounds d)
    bounds (g.Spells.compared {x = x} {y = y} k h d f) = to _ _ (bound_between k x y) (g.Spells.compared k h (bounds d) (bounds f))
    bounds (g.Spells.term d) = g.Spells.term (bounds d)
    bounds (g.Spells.plus {x = x} {y = y} h d f) = to _ _ (bound_between op.Add x y) (g.Spells.plus h (bounds d) (bounds f))
    bounds (g.Spells.less {x = x} {y = y} h d f) = to _ _ (bound_between op.Sub x y) (g.Spells.less h (bounds d) (bounds f))
    bounds (g.Spells.factor d) = g.Spells.factor (bounds d)
    bounds (g.Spells.times {x = x} {y = y} h d f) = to _ _ (bound_between op.Mul x y) (g.Spells.times h (bounds d) (bounds f))
    bounds (g.Spells.over {x = x} {y = y} h d f) = to _ _ (bound_between op.Div x y) (g.Spells.over h (bounds d) (bounds f))
    bounds (g.Spells.number h n is) = g.Spells.number h n is
    bounds (g.Spells.negative h k n is) = g.Spells.negative h k n is
    bounds (g.Spells.date h d is) = g.Spells.date h d is
    bounds (g.Spells.text h) = g.Spells.text h
    bounds (g.Spells.yes h) = g.Spells.yes h
    bounds (g.Spells.no h) = g.Spells.no h
    bounds (g.Spells.uncertain h) = g.Spells.uncertain h
    bounds (g.Spells.negate {x = x} h k d) = to _ _ (bound_negate x) (g.Spells.negate h k (bounds d))
    bounds (g.Spells.deny {x = x} h d) = to _ _ (bound_deny x) (g.Spells.deny h (bounds d))
    bounds (g.Spells.call {a = a} f h k d l) = to _ _ (bound_call ns.members f a) (g.Spells.call f h k (bounds_arguments d) l)
    bounds (g.Spells.brackets {x = x} h d l) = to _ _ (bound_nested x) (g.Spells.brackets h (bounds d) l)
    bounds (g.Spells.all {c = c} {x = x} {p = p} {mid = mid} {rest = rest} h d f l) = to _ _ (bound_all p) (g.Spells.all h (bounds d) (subst (λ q. SpellsMore bounded ns true mid q (bound_parts p) (c ∷ rest)) (bound_one_part x) (bounds_more f)) l)
    bounds (g.Spells.any {c = c} {x = x} {p = p} {mid = mid} {rest = rest} h d f l) = to _ _ (bound_any p) (g.Spells.any h (bounds d) (subst (λ q. SpellsMore bounded ns false mid q (bound_parts p) (c ∷ rest)) (bound_one_part x) (bounds_more f)) l)
    bounds (g.Spells.phrase h i n is) = to _ _ (bound_operand _) (g.Spells.phrase h i n is)
    bounds (g.Spells.unnamed h is) = g.Spells.unnamed h is

    bounds_more : {j : Bool} {ts : List Lexeme} {p q : Parts} {rest : List Lexeme} → SpellsMore unbounded ns j ts p q rest → SpellsMore bounded ns j ts (bound_parts p) (bound_parts q) rest
    bounds_more (g.SpellsMore.last {j = j} {t = t} {ts = ts} {p = p} {x = x} {rest = rest} h d) = subst (λ q. SpellsMore bounded ns j (t ∷ ts) (bound_parts p) q rest) (sym (bound_with p x)) (g.SpellsMore.last h (bounds d))
    bounds_more (g.SpellsMore.more {j = j} {p = p} {q = q} {x = x} {mid = mid} {rest = rest} h d f) = g.SpellsMore.more h (bounds d) (subst (λ r. SpellsMore bounded ns j mid r (bound_parts q) rest) (bound_with p x) (bounds_more f))

    bounds_argument : {f : Function} {n : ℕ} {ts : List Lexeme} {a z : Arguments} {rest : List Lexeme} → SpellsArgument unbounded ns f n ts a z rest → SpellsArgument bounded ns f n ts (bound_arguments a) (bound_arguments z) rest
    bounds_argument (g.SpellsArgument.as_line {f = f} {n = n} {ts = ts} {a = a} {x = x} {rest = rest} h d) = subst (λ z. SpellsArgument bounded ns f n ts (bound_arguments a) z rest) (sym (line_more a x)) (g.SpellsArgument.as_line h (bounds d))
    bounds_argument (g.SpellsArgument.as_relation h x is) = g.SpellsArgument.as_relation h x is
    bounds_argument (g.SpellsArgument.as_number h k z is) = g.SpellsArgument.as_number h k z is

    bounds_arguments : {f : Function} {n : ℕ} {ts : List Lexeme} {a z : Arguments} {rest : List Lexeme} → SpellsArguments unbounded ns f n ts a z rest → SpellsArguments bounded ns f n ts (bound_arguments a) (bound_arguments z) rest
    bounds_arguments (g.SpellsArguments.last_argument d h) = g.SpellsArguments.last_argument (bounds_argument d) h
    bounds_arguments (g.SpellsArguments.more_arguments d h f) = g.SpellsArguments.more_arguments (bounds_argument d) h (bounds_arguments f)

  -- ---- and back

  abbrev Whole : Part → List Lexeme → Reading → List Lexeme → Type 0
  Whole p ts r rest = (x : Reading) × Free p ts x rest × (r ≡ bound x)

  abbrev WholeMore : Bool → List Lexeme → Parts → Parts → List Lexeme → Type 0
  WholeMore j ts p q rest = (v : Parts) → p ≡ bound_parts v → (w : Parts) × SpellsMore unbounded ns j ts v w rest × (q ≡ bound_parts w)

  abbrev WholeArgument : Function → ℕ → List Lexeme → Arguments → Arguments → List Lexeme → Type 0
  WholeArgument f n ts a z rest = (v : Arguments) → a ≡ bound_arguments v → (w : Arguments) × SpellsArgument unbounded ns f n ts v w rest × (z ≡ bound_arguments w)

  abbrev WholeArguments : Function → ℕ → List Lexeme → Arguments → Arguments → List Lexeme → Type 0
  WholeArguments f n ts a z rest = (v : Arguments) → a ≡ bound_arguments v → (w : Arguments) × SpellsArguments unbounded ns f n ts v w rest × (z ≡ bound_arguments w)

  between_is : (k : OpKind) (r s x y : Reading) → r ≡ bound x → s ≡ bound y → says.between bounded k r s ≡ bound (says.between unbounded k x y)
  between_is k r s x y e f = ap (λ z. says.between bounded k z s) e ∙ ap (says.between bounded k (bound x)) f ∙ sym (bound_between k x y)

  mutual
    pub whole : {p : Part} {ts : List Lexeme} {r : Reading} {rest : List Lexeme} → Kept p ts r rest → Whole p ts r rest
    whole (g.Spells.one d) = let w = whole d in (w.0, g.Spells.one w.1, w.2)
    whole (g.Spells.compared {x = r} {y = s} k h d f) = let w = whole d in let v = whole f in (says.between unbounded k w.0 v.0, g.Spells.compared k h w.1 v.1, between_is k r s w.0 v.0 w.2 v.2)
    whole (g.Spells.term d) = let w = whole d in (w.0, g.Spells.term w.1, w.2)
    whole (g.Spells.plus {x = r} {y = s} h d f) = let w = whole d in let v = whole f in (says.between unbounded op.Add w.0 v.0, g.Spells.plus h w.1 v.1, between_is op.Add r s w.0 v.0 w.2 v.2)
    whole (g.Spells.less {x = r} {y = s} h d f) = let w = whole d in let v = whole f in (says.between unbounded op.Sub w.0 v.0, g.Spells.less h w.1 v.1, between_is op.Sub r s w.0 v.0 w.2 v.2)
    whole (g.Spells.factor d) = let w = whole d in (w.0, g.Spells.factor w.1, w.2)
    whole (g.Spells.times {x = r} {y = s} h d f) = let w = whole d in let v = whole f in (says.between unbounded op.Mul w.0 v.0, g.Spells.times h w.1 v.1, between_is op.Mul r s w.0 v.0 w.2 v.2)
    whole (g.Spells.over {x = r} {y = s} h d f) = let w = whole d in let v = whole f in (says.between unbounded op.Div w.0 v.0, g.Spells.over h w.1 v.1, between_is op.Div r s w.0 v.0 w.2 v.2)
    whole (g.Spells.number h n is) = (says.literal unbounded (value.Num n), g.Spells.number h n is, refl)
    whole (g.Spells.negative h k n is) = (says.literal unbounded (value.Num n), g.Spells.negative h k n is, refl)
    whole (g.Spells.date h d is) = (says.literal unbounded (value.Day d), g.Spells.date h d is, refl)
    whole (g.Spells.text h) = (_, g.Spells.text h, refl)
    whole (g.Spells.yes h) = (_, g.Spells.yes h, refl)
    whole (g.Spells.no h) = (_, g.Spells.no h, refl)
    whole (g.Spells.uncertain h) = (_, g.Spells.uncertain h, refl)
    whole (g.Spells.negate {x = r} h k d) = let w = whole d in (_, g.Spells.negate h k w.1, ap (λ z. says.nested bounded (says.operation bounded op.Neg (says.one_part bounded z))) w.2 ∙ sym (bound_negate w.0))
    whole (g.Spells.deny {x = r} h d) = let w = whole d in (_, g.Spells.deny h w.1, ap (λ z. says.nested bounded (says.denial bounded z)) w.2 ∙ sym (bound_deny w.0))
    whole (g.Spells.call {a = a} f h k d l) = let w = whole_arguments d says.no_arguments refl in (says.call_of unbounded ns.members f w.0, g.Spells.call f h k w.1 l, ap (says.call_of bounded ns.members f) w.2 ∙ sym (bound_call ns.members f w.0))
    whole (g.Spells.brackets h d l) = let w = whole d in (says.nested unbounded w.0, g.Spells.brackets h w.1 l, ap (says.nested bounded) w.2 ∙ sym (bound_nested w.0))
    whole (g.Spells.all h d f l) =
        let w = whole d in
        let v = whole_more f (says.one_part unbounded w.0) (ap (says.one_part bounded) w.2 ∙ sym (bound_one_part w.0)) in
        (says.nested unbounded (says.all unbounded v.0), g.Spells.all h w.1 v.1 l, ap (λ p. says.nested bounded (says.all bounded p)) v.2 ∙ sym (bound_all v.0))
    whole (g.Spells.any h d f l) =
        let w = whole d in
        let v = whole_more f (says.one_part unbounded w.0) (ap (says.one_part bounded) w.2 ∙ sym (bound_one_part w.0)) in
        (says.nested unbounded (says.any unbounded v.0), g.Spells.any h w.1 v.1 l, ap (λ p. says.nested bounded (says.any bounded p)) v.2 ∙ sym (bound_any v.0))
    whole (g.Spells.phrase h i n is) = (_, g.Spells.phrase h i n is, sym (bound_operand _))
    whole (g.Spells.unnamed h is) = (_, g.Spells.unnamed h is, sym bound_unnamed)

    whole_more : {j : Bool} {ts : List Lexeme} {p q : Parts} {rest : List Lexeme} → SpellsMore bounded ns j ts p q rest → WholeMore j ts p q rest
    whole_more (g.SpellsMore.last {p = p} {x = r} h d) = λ v e.
        let w = whole d in
        (says.with_part unbounded v w.0, g.SpellsMore.last h w.1, ap (λ q. says.with_part bounded q r) e ∙ ap (says.with_part bounded (bound_parts v)) w.2 ∙ sym (bound_with v w.0))
    whole_more (g.SpellsMore.more {p = p} {x = r} h d f) = λ v e.
        let w = whole d in
        let u = whole_more f (says.with_part unbounded v w.0) (ap (λ q. says.with_part bounded q r) e ∙ ap (says.with_part bounded (bound_parts v)) w.2 ∙ sym (bound_with v w.0)) in
        (u.0, g.SpellsMore.more h w.1 u.1, u.2)

    whole_argument : {f : Function} {n : ℕ} {ts : List Lexeme} {a z : Arguments} {rest : List Lexeme} → SpellsArgument bounded ns f n ts a z rest → WholeArgument f n ts a z rest
    whole_argument (g.SpellsArgument.as_line {a = a} {x = r} h d) = λ v e.
        let w = whole d in
        let z : Arguments = record v { lines = v.lines ++ w.0 ∷ [] } in
        (z, g.SpellsArgument.as_line h w.1, ap (λ (b : Arguments). let y : Arguments = record b { lines = b.lines ++ r ∷ [] } in y) e ∙ ap (λ s. let y : Arguments = record (bound_arguments v) { lines = map bound v.lines ++ s ∷ [] } in y) w.2 ∙ sym (line_more v w.0))
    whole_argument (g.SpellsArgument.as_relation h x is) = λ v e. (record v { relation = x.0 }, g.SpellsArgument.as_relation h x is, ap (λ (b : Arguments). let y : Arguments = record b { relation = x.0 } in y) e)
    whole_argument (g.SpellsArgument.as_number h k i is) = λ v e. (record v { number = Some i }, g.SpellsArgument.as_number h k i is, ap (λ (b : Arguments). let y : Arguments = record b { number = Some i } in y) e)

    whole_arguments : {f : Function} {n : ℕ} {ts : List Lexeme} {a z : Arguments} {rest : List Lexeme} → SpellsArguments bounded ns f n ts a z rest → WholeArguments f n ts a z rest
    whole_arguments (g.SpellsArguments.last_argument d h) = λ v e. let w = whole_argument d v e in (w.0, g.SpellsArguments.last_argument w.1 h, w.2)
    whole_arguments (g.SpellsArguments.more_arguments d h f) = λ v e.
        let w = whole_argument d v e in
        let u = whole_arguments f w.0 w.2 in
        (u.0, g.SpellsArguments.more_arguments w.1 h u.1, u.2)
