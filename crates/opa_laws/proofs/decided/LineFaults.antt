-- A line is refused for one reason.
use Rattle.std.proofs.Common.{ℕ, List, refl, subst}
use Rattle.std.specs.Prelude.{codes}
use Rattle.std.specs.Str.{bytes_eq}
use Rattle.opa_model.specs.declared.lists.Lists.{Lists}
use Rattle.opa_words.specs.Pieces.{Piece}
use Rattle.opa_script.specs.declared.fault.CmdFault.TheVariants as fault
use Rattle.opa_script.specs.Shapes.{HasShape, verb_named}
use Rattle.opa_script.specs.Commands.{HasSort, AreNone, IsNoCommand}
use Rattle.opa_script.proofs.LawsHold.{same_tokens, same_begin, moved}
use Rattle.opa_script.proofs.VerbWords.{OfWord, either, said}
use Rattle.opa_laws.specs.Decided.Laws.{OneCommandFault}

-- ---- what has the sort has the shape

word_sort : (w : List ℕ) → OfWord (λ v. (m : Lists) (ps : List Piece) → HasSort m v ps → HasShape v ps) (verb_named w)
word_sort w =
    either _ (bytes_eq w (codes "answer")) _ _ (λ m ps h. (h.0, h.1, h.2))
    (either _ (bytes_eq w (codes "withdraw")) _ _ (λ m ps h. (h.0, h.1))
    (either _ (bytes_eq w (codes "list")) _ _ (λ m ps h. (h.0, h.1, h.2))
    (either _ (bytes_eq w (codes "forget")) _ _ (λ m ps h. (h.0, h.1))
    (either _ (bytes_eq w (codes "show")) _ _ (λ m ps h. (h.0, h.1))
    (either _ (bytes_eq w (codes "goals")) _ _ (λ m ps h. h)
    (either _ (bytes_eq w (codes "next")) _ _ (λ m ps h. h)
    (either _ (bytes_eq w (codes "screen")) _ _ (λ m ps h. h)
    (either _ (bytes_eq w (codes "report")) _ _ (λ m ps h. (h.0, h.1, h.2))
    (either _ (bytes_eq w (codes "save")) _ _ (λ m ps h. h)
    (either _ (bytes_eq w (codes "load")) _ _ (λ m ps h. h)
    (either _ (bytes_eq w (codes "stats")) _ _ (λ m ps h. h)
    (either _ (bytes_eq w (codes "dismiss")) _ _ (λ m ps h. h) tt))))))))))))

-- ---- no two of the three

shape_or_name : (m : Lists) (ps : List Piece) → AreNone m ps fault.NotACommand → AreNone m ps fault.Name → ⊥
shape_or_name m ps h k = h k.0 k.1 k.2 k.3.0

shape_or_value : (m : Lists) (ps : List Piece) → AreNone m ps fault.NotACommand → AreNone m ps fault.Value → ⊥
shape_or_value m ps h k =
    let shape = said (λ v. (n : Lists) (qs : List Piece) → HasSort n v qs → HasShape v qs) (verb_named k.2.0) k.0 k.2.2 (word_sort k.2.0) m k.1 k.3.0 in
    h k.0 k.1 k.2 shape

name_or_value : (m : Lists) (ps : List Piece) → AreNone m ps fault.Name → AreNone m ps fault.Value → ⊥
name_or_value m ps h k =
    let s = same_begin k.0 h.0 ps k.1 h.1 k.2 h.2 in
    let there = moved m k.0 h.0 k.1 h.1 fault.Value s.0 s.1 k.3 in
    h.3.1 there.0

-- a wrong name and a wrong value of one line
line_apart : (m : Lists) (line : List ℕ) → IsNoCommand m line fault.Name → IsNoCommand m line fault.Value → ⊥
line_apart m line h k =
    name_or_value m h.1.0 h.1.2 (subst (λ x. AreNone m x fault.Value) (same_tokens line k.1.0 h.1.0 k.1.1 h.1.1) k.1.2)

pub one_command_fault_holds : OneCommandFault
one_command_fault_holds m line fault.NotACommand fault.NotACommand n o h k = refl
one_command_fault_holds m line fault.NotACommand fault.Name n o h k = absurd (shape_or_name m k.1.0 (h.1 k.1.0 k.1.1) k.1.2)
one_command_fault_holds m line fault.NotACommand fault.Value n o h k = absurd (shape_or_value m k.1.0 (h.1 k.1.0 k.1.1) k.1.2)
one_command_fault_holds m line fault.NotACommand fault.NoMemory n o h k = absurd (o refl)
one_command_fault_holds m line fault.Name fault.NotACommand n o h k = absurd (shape_or_name m h.1.0 (k.1 h.1.0 h.1.1) h.1.2)
one_command_fault_holds m line fault.Name fault.Name n o h k = refl
one_command_fault_holds m line fault.Name fault.Value n o h k = absurd (line_apart m line h k)
one_command_fault_holds m line fault.Name fault.NoMemory n o h k = absurd (o refl)
one_command_fault_holds m line fault.Value fault.NotACommand n o h k = absurd (shape_or_value m h.1.0 (k.1 h.1.0 h.1.1) h.1.2)
one_command_fault_holds m line fault.Value fault.Name n o h k = absurd (line_apart m line k h)
one_command_fault_holds m line fault.Value fault.Value n o h k = refl
one_command_fault_holds m line fault.Value fault.NoMemory n o h k = absurd (o refl)
one_command_fault_holds m line fault.NoMemory g n o h k = absurd (n refl)
