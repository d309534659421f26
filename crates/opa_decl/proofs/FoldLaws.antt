-- Steps of loops over items and faults.
use Rattle.std.proofs.Common.{◌≡◌, ◌∙◌, List, ◌∷◌, ◌++◌, sym, ap, ap₂, append_assoc}
use Rattle.std.specs.Prelude.{Option, flat_map}
use Rattle.std.specs.List.{All}
use Rattle.std.proofs.lemmas.List.Elements.{All-head, All-tail, All-same}
use Rattle.opa_tree.specs.declared.faults.RbFault.{RbFault}
use Rattle.opa_tree.specs.FirstFaults.{first_of, first_fault}
use Rattle.opa_tree.proofs.FirstFaultLaws.{first_of-assoc, first_fault-append}

pub joined : (a b : List RbFault) (x y : Option RbFault) → x ≡ first_fault a → y ≡ first_fault b → first_of x y ≡ first_fault (a ++ b)
joined a b x y p q = ap₂ first_of p q ∙ sym (first_fault-append a b)

pub first_step : {A : Type 0} (f : A → List RbFault) (first found first' : Option RbFault) (x : A) (rest later : List A) (total : Option RbFault)
    → first_of first (first_fault (flat_map f rest)) ≡ total → rest ≡ x ∷ later → found ≡ first_fault (f x) → first' ≡ first_of first found → first_of first' (first_fault (flat_map f later)) ≡ total
first_step {A} f first found first' x rest later total h r is more =
    ap (λ (o : Option RbFault). first_of o (first_fault (flat_map f later))) (more ∙ ap (first_of first) is)
    ∙ first_of-assoc first (first_fault (f x)) (first_fault (flat_map f later))
    ∙ ap (first_of first) (sym (first_fault-append (f x) (flat_map f later)))
    ∙ ap (λ (xs : List A). first_of first (first_fault (flat_map f xs))) (sym r) ∙ h

pub items_step : {A B : Type 0} (f : A → List B) (list list' : List B) (x : A) (rest later : List A) (total : List B)
    → list ++ flat_map f rest ≡ total → rest ≡ x ∷ later → list' ≡ list ++ f x → list' ++ flat_map f later ≡ total
items_step {A} {B} f list list' x rest later total h r more =
    ap (λ (xs : List B). xs ++ flat_map f later) more ∙ append_assoc list (f x) (flat_map f later)
    ∙ ap (λ (xs : List A). list ++ flat_map f xs) (sym r) ∙ h

pub all_here : {A : Type 0} (P : A → Type 0) (x : A) (rest later : List A) → rest ≡ x ∷ later → All P rest → P x
all_here P x rest later r h = All-head P x later (All-same P (x ∷ later) rest (sym r) h)

pub all_later : {A : Type 0} (P : A → Type 0) (x : A) (rest later : List A) → rest ≡ x ∷ later → All P rest → All P later
all_later P x rest later r h = All-tail P x later (All-same P (x ∷ later) rest (sym r) h)
