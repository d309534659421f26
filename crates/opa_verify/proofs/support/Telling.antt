-- What the lines of a report tell.
use Rattle.std.proofs.Common.{◌≡◌, ◌⊎◌, inl, inr, ℕ, ◌≤◌, List, [], ◌∷◌, Bool, true, false, cond, Option, None, Some, Contains, refl, sym, ◌∙◌, ap}
use Rattle.std.specs.Prelude.{nat_le, ◌&&◌}
use Rattle.std.specs.Option.{option_or}
use Rattle.std.proofs.lemmas.Bool.{and_parts, and_from, leb-true, le-leb, eqb-true, eq-eqb}
use Rattle.opa_value.specs.declared.value.Value.{Value}
use Rattle.opa_model.specs.declared.ids.AttrId.{AttrId}
use Rattle.opa_model.specs.declared.ids.RelId.{RelId}
use Rattle.opa_cells.specs.declared.instance.InstanceId.{InstanceId}
use Rattle.opa_cells.specs.Instances.{is_same}
use Rattle.opa_cells.proofs.Orders.{same_is, same_itself}
use Rattle.opa_case.specs.Live.{Names}
use Rattle.opa_tree.specs.Mentions.{is_attr}
use Rattle.opa_tree.proofs.Members.{none_in, contains_head, contains_tail, contains_cases}
use Rattle.opa_report.specs.declared.lines.ReportLine.{ReportLine}
use Rattle.opa_report.specs.declared.lines.ReportLine.TheVariants as line
use Rattle.opa_verify.specs.Support.Told.{first_told, is_rel, value_by, list_by, container_by}

-- what is told first, a line tells
pub told_in : {X : Type 0} (f : ReportLine → Option X) (facts : List ReportLine) (x : X) → first_told f facts ≡ Some x → (y : ReportLine) × (Contains facts y × (f y ≡ Some x))
told_in f [] x e = absurd (cc e)
told_in {X} f (y ∷ facts) x e = go (f y) refl e (told_in f facts x)
  where
    go : (o : Option X) → f y ≡ o → option_or o (first_told f facts) ≡ Some x → (first_told f facts ≡ Some x → (z : ReportLine) × (Contains facts z × (f z ≡ Some x))) → (z : ReportLine) × (Contains (y ∷ facts) z × (f z ≡ Some x))
    go (Some w) q e rec = (y, (contains_head y facts, q ∙ e))
    go None q e rec = let rest = rec e in (rest.0, (contains_tail y rest.0 facts rest.1.0, rest.1.1))

-- where a line tells something, something is told first
pub told_first : {X : Type 0} (f : ReportLine → Option X) (facts : List ReportLine) (y : ReportLine) (x : X) → Contains facts y → f y ≡ Some x → (w : X) × (first_told f facts ≡ Some w)
told_first f [] y x h e = absurd (none_in y h)
told_first {X} f (z ∷ facts) y x h e = go (f z) refl (contains_cases z y facts h) (λ there. told_first f facts y x there e)
  where
    go : (o : Option X) → f z ≡ o → (z ≡ y) ⊎ Contains facts y → (Contains facts y → (w : X) × (first_told f facts ≡ Some w)) → (w : X) × (option_or o (first_told f facts) ≡ Some w)
    go (Some w) q c rec = (w, refl)
    go None q (inl one) rec = absurd (cc (q, ap f one, e))
    go None q (inr there) rec = rec there

-- a line that tells the value of a point is a run that has it
pub record HasRun (a : AttrId) (i : InstanceId) (d : ℕ) (v : Value) (y : ReportLine) : Type 0 where
  pub start : ℕ
  pub end : ℕ
  pub is : y ≡ line.Point a i start end v
  pub after : start ≤ d
  pub until : d ≤ end

pub value_told : (a : AttrId) (i : InstanceId) (d : ℕ) (v : Value) (y : ReportLine) → value_by a i d y ≡ Some v → HasRun a i d v y
value_told a i d v (line.Point b j s t w) e = go (is_attr a b && is_same i j && nat_le s d && nat_le d t) refl e
  where
    go : (c : Bool) → (is_attr a b && is_same i j && nat_le s d && nat_le d t) ≡ c → cond c (Some w) None ≡ Some v → HasRun a i d v (line.Point b j s t w)
    go false q e = absurd (cc e)
    go true q e =
        let four = and_parts (is_attr a b && is_same i j && nat_le s d) (nat_le d t) q in
        let three = and_parts (is_attr a b && is_same i j) (nat_le s d) four.0 in
        let two = and_parts (is_attr a b) (is_same i j) three.0 in
        let attr : a ≡ b = ap (λ (n : ℕ). let x : AttrId = record { 0 = n } in x) (eqb-true a.0 b.0 two.0) in
        let inst : i ≡ j = same_is i j two.1 in
        let val : w ≡ v = cc e in
        record {
          start = s;
          end = t;
          is = ap (λ x. line.Point x j s t w) (sym attr) ∙ ap (λ x. line.Point a x s t w) (sym inst) ∙ ap (λ x. line.Point a i s t x) val;
          after = leb-true s d three.1;
          until = leb-true d t four.1;
        }
value_told a i d v (line.Members r j names) e = absurd (cc e)
value_told a i d v (line.Member q j k) e = absurd (cc e)

pub list_told : (r : RelId) (i : InstanceId) (names : Option Names) (y : ReportLine) → list_by r i y ≡ Some names → y ≡ line.Members r i names
list_told r i names (line.Members q j ns) e = go (is_rel r q && is_same i j) refl e
  where
    go : (c : Bool) → (is_rel r q && is_same i j) ≡ c → cond c (Some ns) None ≡ Some names → line.Members q j ns ≡ line.Members r i names
    go false x e = absurd (cc e)
    go true x e =
        let two = and_parts (is_rel r q) (is_same i j) x in
        let rel : r ≡ q = ap (λ (n : ℕ). let y : RelId = record { 0 = n } in y) (eqb-true r.0 q.0 two.0) in
        let inst : i ≡ j = same_is i j two.1 in
        let val : ns ≡ names = cc e in
        ap (λ x. line.Members x j ns) (sym rel) ∙ ap (λ x. line.Members r x ns) (sym inst) ∙ ap (λ x. line.Members r i x) val
list_told r i names (line.Point b j s t w) e = absurd (cc e)
list_told r i names (line.Member q j k) e = absurd (cc e)

pub container_told : (i k : InstanceId) (y : ReportLine) → container_by i y ≡ Some k → (q : RelId) × (y ≡ line.Member q k i)
container_told i k (line.Member q m j) e = go (is_same i j) refl e
  where
    go : (c : Bool) → is_same i j ≡ c → cond c (Some m) None ≡ Some k → (r : RelId) × (line.Member q m j ≡ line.Member r k i)
    go false x e = absurd (cc e)
    go true x e = let val : m ≡ k = cc e in (q, ap (λ x. line.Member q m x) (sym (same_is i j x)) ∙ ap (λ x. line.Member q x i) val)
container_told i k (line.Point b j s t w) e = absurd (cc e)
container_told i k (line.Members r j names) e = absurd (cc e)

-- a run tells the value of its points
pub run_tells : (a : AttrId) (i : InstanceId) (s t : ℕ) (v : Value) (d : ℕ) → s ≤ d → d ≤ t → value_by a i d (line.Point a i s t v) ≡ Some v
run_tells a i s t v d after until =
    ap (λ c. cond c (Some v) None) (and_from (is_attr a a && is_same i i && nat_le s d) (nat_le d t)
    (and_from (is_attr a a && is_same i i) (nat_le s d) (and_from (is_attr a a) (is_same i i) (eq-eqb a.0 a.0 refl) (same_itself i)) (le-leb s d after)) (le-leb d t until))

pub members_tell : (r : RelId) (i : InstanceId) (names : Option Names) → list_by r i (line.Members r i names) ≡ Some names
members_tell r i names = ap (λ c. cond c (Some names) None) (and_from (is_rel r r) (is_same i i) (eq-eqb r.0 r.0 refl) (same_itself i))

pub member_tells : (q : RelId) (i k : InstanceId) → container_by i (line.Member q k i) ≡ Some k
member_tells q i k = ap (λ c. cond c (Some k) None) (same_itself i)
