-- Names that stand a second time.
use Rattle.std.proofs.Common.{◌≡◌, ◌∙◌, ℕ, List, [], ◌∷◌, ◌++◌, Bool, true, false, not, cond, refl, sym, ap, ap₂}
use Rattle.std.specs.Prelude.{Option, Some}
use Rattle.opa_io.proofs.Bools.{not_twice}
use Rattle.opa_model.specs.Phrases.{Declares}
use Rattle.opa_tree.specs.declared.faults.RbFault.{RbFault}
use Rattle.opa_tree.specs.declared.faults.RbKind.TheVariants.{Twice}
use Rattle.opa_tree.specs.FirstFaults.{first_of, first_fault}
use Rattle.opa_tree.proofs.FirstFaultLaws.{first_of-assoc, first_of-none}
use Rattle.opa_decl.specs.declared.items.Name.{Name}
use Rattle.opa_decl.specs.Faults.{fault_at, when, stands, repeated}

step_at : (first : Option RbFault) (seen : List (List ℕ)) (n : Name) (later : List Name) (b : Bool) → stands seen n.text ≡ b
    → first_of (first_of first (first_fault (when (stands seen n.text) Twice n.place))) (first_fault (repeated (cond (stands seen n.text) seen (seen ++ n.text ∷ [])) later)) ≡ first_of first (first_fault (repeated seen (n ∷ later)))
step_at first seen n later true e =
    ap (λ (t : Bool). first_of (first_of first (first_fault (when t Twice n.place))) (first_fault (repeated (cond t seen (seen ++ n.text ∷ [])) later))) e
    ∙ first_of-assoc first (Some (fault_at Twice n.place)) (first_fault (repeated seen later))
    ∙ ap (λ (t : Bool). first_of first (first_fault (cond t (fault_at Twice n.place ∷ repeated seen later) (repeated (seen ++ n.text ∷ []) later)))) (sym e)
step_at first seen n later false e =
    ap (λ (t : Bool). first_of (first_of first (first_fault (when t Twice n.place))) (first_fault (repeated (cond t seen (seen ++ n.text ∷ [])) later))) e
    ∙ ap (λ (o : Option RbFault). first_of o (first_fault (repeated (seen ++ n.text ∷ []) later))) (first_of-none first)
    ∙ ap (λ (t : Bool). first_of first (first_fault (cond t (fault_at Twice n.place ∷ repeated seen later) (repeated (seen ++ n.text ∷ []) later)))) (sym e)

-- one more name
pub repeated_step : (first first' : Option RbFault) (seen seen' : List (List ℕ)) (n : Name) (rest later : List Name) (is_new : Bool) (total : Option RbFault)
    → first_of first (first_fault (repeated seen rest)) ≡ total → rest ≡ n ∷ later → Declares seen seen' n.text is_new → first' ≡ first_of first (first_fault (when (not is_new) Twice n.place))
    → first_of first' (first_fault (repeated seen' later)) ≡ total
repeated_step first first' seen seen' n rest later is_new total h r d f =
    ap₂ (λ (o : Option RbFault) (s : List (List ℕ)). first_of o (first_fault (repeated s later))) (f ∙ ap (λ (b : Bool). first_of first (first_fault (when b Twice n.place))) (ap not d.is_new_is ∙ not_twice (stands seen n.text))) d.new_is
    ∙ step_at first seen n later (stands seen n.text) refl
    ∙ ap (λ (ns : List Name). first_of first (first_fault (repeated seen ns))) (sym r) ∙ h
