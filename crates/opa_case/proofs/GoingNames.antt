-- The names of what goes.
use Rattle.std.specs.Prelude.{◌≡◌, ◌<◌, ◌+◌, ◌==◌, ℕ, Bool, true, false, cond, ◌||◌, ◌&&◌, List, [], ◌∷◌, length, take, get_or, refl}
use Rattle.std.specs.List.{list_any}
use Rattle.std.specs.Ordering.{nat_cmp}
use Rattle.std.specs.Cmp.Lexicographic.{slice_cmp}
use Rattle.std.proofs.Common.{ap, sym, ◌∙◌}
use Rattle.opa_cells.specs.declared.instance.InstanceId.{InstanceId}
use Rattle.opa_cells.specs.Instances.{is_same, is_text, named}
use Rattle.opa_cells.proofs.Orders.{same_itself}
use Rattle.opa_cells.proofs.Rowed.{parts}
use Rattle.opa_case.specs.Live.{Names, Population}
use Rattle.opa_case.specs.Listed.{IndexEntries, is_indexed, SetsName}
use Rattle.opa_case.specs.Turns.{is_among}
use Rattle.opa_case.specs.Relists.{AreNamesOf}
use Rattle.opa_case.proofs.Taken.{any_next, one_number}
use Rattle.opa_case.proofs.Touching.{list_is}

named_parts : (e : ℕ) (n : List ℕ) (g : InstanceId) → is_same (named e n) g ≡ ((e == g.entity.0) && is_text n g.name)
named_parts e n g = parts (nat_cmp e g.entity.0) (slice_cmp nat_cmp n g.name) ∙ ap (λ b. b && is_text n g.name) (one_number e g.entity.0)

joined : (a t o : Bool) → cond ((a && true) && t) true o ≡ (o || (a && t))
joined true true true = refl
joined true true false = refl
joined true false true = refl
joined true false false = refl
joined false t true = refl
joined false t false = refl

-- The names of some, with that of one more.
pub names_more : (old new : IndexEntries) (at : InstanceId) (xs : Population) (k : ℕ) (x : InstanceId × InstanceId) → k < length xs → x ≡ get_or xs k x
    → AreNamesOf (take k xs) old at → SetsName true old new x.0.entity.0 x.0.name at → AreNamesOf (take (k + 1) xs) new at
names_more old new at xs k x lt is before sets e n =
    let one = e == x.0.entity.0 in
    let text = is_text n x.0.name in
    sets e n at
    ∙ ap (λ b. cond (b && text) true (is_indexed old e n at)) (list_is x.0.entity.0 at e at ∙ ap (λ b. one && b) (same_itself at))
    ∙ joined one text (is_indexed old e n at)
    ∙ ap (λ b. b || (one && text)) (before e n)
    ∙ ap (λ b. is_among (take k xs) (named e n) || b) (sym (named_parts e n x.0))
    ∙ any_next (λ (p : InstanceId × InstanceId). is_same (named e n) p.0) xs k x lt is

-- One of some names goes.
pub one_goes : (gone : Population) (index : IndexEntries) (at : InstanceId) → AreNamesOf gone index at → (e : ℕ) (ns : Names) → list_any (λ n. is_indexed index e n at) ns ≡ list_any (λ n. is_among gone (named e n)) ns
one_goes gone index at are e [] = refl
one_goes gone index at are e (n ∷ ns) = ap (λ b. b || list_any (λ m. is_indexed index e m at) ns) (are e n) ∙ ap (λ b. is_among gone (named e n) || b) (one_goes gone index at are e ns)
