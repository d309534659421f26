-- How a line of a caseload is read.
use Rattle.std.proofs.Common.{◌≡◌, ℕ, Bool, true, false, List, [], ◌∷◌, ◌++◌, length, length-append, refl, sym, ap, ◌∙◌, subst, arith, le-leb, leb-true}
use Rattle.std.specs.Prelude.{nat_le, Result, Ok, Err, IfOk, IfErr}
use Rattle.std.proofs.lemmas.Bool.{and_from}
use Rattle.opa_io.proofs.Bools.{and_first, and_second}
use Rattle.opa_words.specs.Fronts.{BeginsWithText, BeginsWithNoText}
use Rattle.opa_words.specs.Kinds.{quoted}
use Rattle.opa_words.proofs.QuoteLaws.{quoted_tells_apart}
use Rattle.opa_script.specs.declared.fault.CmdFault.{CmdFault}
use Rattle.opa_tree.specs.declared.rulebase.Rulebase.{Rulebase}
use Rattle.opa_model.specs.declared.lists.Lists.{Lists}
use Rattle.opa_cases.specs.declared.kept.OpenCase.{OpenCase}
use Rattle.opa_cases.specs.declared.orders.Order.{Order}
use Rattle.opa_cases.specs.Caseload.{IsNamed, IsUnnamed}
use Rattle.opa_cases.specs.Naming.{IsFront, IsNoFront, IsText, IsNoText, is_short}
use Rattle.opa_cases.specs.Orders.{IsOrder, IsNoOrder, OrdersNothing}
use Rattle.opa_cases.specs.Scripts.{Responds, IsReadAs}

-- lists that are equal with ends of one length
same_parts : (a b r s : List ℕ) → a ++ r ≡ b ++ s → length r ≡ length s → (a ≡ b) × (r ≡ s)
same_parts [] [] r s e f = (refl, e)
same_parts [] (x ∷ b) r s e f = absurd (omega (arith, ap length e, length-append b s, f))
same_parts (x ∷ a) [] r s e f = absurd (omega (arith, ap length e, length-append a r, f))
same_parts (x ∷ a) (y ∷ b) r s e f =
    let p = same_parts a b r s (let q : a ++ r ≡ b ++ s = cc e in q) f in
    let h : x ≡ y = cc e in
    (ap (λ z. z ∷ a) h ∙ ap (λ z. y ∷ z) p.0, p.1)

-- a line begins with one name
pub one_front : (bytes n m r s : List ℕ) → BeginsWithText bytes n r → BeginsWithText bytes m s → (n ≡ m) × (r ≡ s)
one_front bytes n m r s a b =
    let long : length r ≡ length s = omega (arith, a.longest m s b.front, b.longest n r a.front) in
    let p = same_parts (quoted n) (quoted m) r s (sym a.front.split ∙ b.front.split) long in
    (quoted_tells_apart n m p.0, p.1)

-- ---- names

pub no_text : (text : List ℕ) → BeginsWithNoText text → IsNoFront text
no_text text none name rest is = none name rest is.begins.front

pub too_long_name : (text name rest : List ℕ) → BeginsWithText text name rest → is_short name ≡ false → IsNoFront text
too_long_name text name rest begins long other left is =
    let e = one_front text name other rest left begins is.begins in
    let no : true ≡ false = sym is.short ∙ ap is_short (sym e.0) ∙ long in cc no

pub named_front : (read text name rest : List ℕ) → IsText read text → IsFront text name rest → IsNamed read name rest
named_front read text name rest t front = record {
  short = t.short;
  utf8 = t.utf8;
  begins = subst (λ b. BeginsWithText b name rest) t.same front.begins;
  some = leb-true 1 (length name) (and_first (nat_le 1 (length name)) (nat_le (length name) 100) front.short);
  few = leb-true (length name) 100 (and_second (nat_le 1 (length name)) (nat_le (length name) 100) front.short);
}

pub unnamed_front : (read text : List ℕ) → IsText read text → IsNoFront text → IsUnnamed read
unnamed_front read text t none name rest is =
    none name rest (record {
      begins = subst (λ b. BeginsWithText b name rest) (sym t.same) is.begins;
      short = and_from (nat_le 1 (length name)) (nat_le (length name) 100) (le-leb 1 (length name) is.some) (le-leb (length name) 100 is.few);
    })

pub unnamed_text : (read : List ℕ) → IsNoText read → IsUnnamed read
unnamed_text read none name rest is = none is.short is.utf8

pub ruleset naming = (named_front, unnamed_front, unnamed_text)

-- ---- orders

module _ (r : Rulebase) (m : Lists) (rest : List ℕ) (same : m ≡ r.model) where
  pub read_as : (s t : OpenCase) (text : List ℕ) (closed : Bool) (read : Result Order CmdFault) → IfOk read (IsOrder m rest) → IfErr read (OrdersNothing m rest) → Responds r s read text closed t → IsReadAs r rest read
  read_as s t text closed (Ok k) ok err says = subst (λ l. IsOrder l rest k) same ok
  read_as s t text closed (Err f) ok err says = subst (λ l. IsNoOrder l rest f) same (err says.0)
