-- Whole texts.
use Rattle.std.proofs.Common.{◌≡◌, ℕ, List, length, sym, ap, subst, ◌∙◌}
use Rattle.std.specs.Str.{chars}
use Rattle.opa_value.specs.declared.value.Value.{Value}
use Rattle.opa_line.specs.Lines.{at}
use Rattle.opa_line.proofs.LineLaws.{equal_where_values_are}
use Rattle.opa_words.specs.declared.kinds.Token.{Token}
use Rattle.opa_words.specs.Cuts.{Cuts}
use Rattle.opa_words.specs.Pieces.{Piece, IsCutInto, pieces}
use Rattle.opa_words.proofs.LawsHold.{one_cutting_holds}
use Rattle.opa_text.specs.declared.fault.ReadFault.{ReadFault}
use Rattle.opa_text.specs.declared.fault.ReadFault.TheVariants as fault
use Rattle.opa_text.specs.Spelled.{SpellsPairs, SpellsLine, SpellsNames, IsLineOf, IsNamesOf, IsNotCut, SaysNoLine, SaysNoNames}
use Rattle.opa_text.specs.Laws.{OneValue, OneLine, OneLineOf, OneNames}
use Rattle.opa_text.proofs.Readings.{one_value}
use Rattle.opa_text.proofs.ChangeLaws.{pairs_one}
use Rattle.opa_text.proofs.NameLaws.{names_one}

pub uncut_line : (bytes : List ℕ) (f : ReadFault) → IsNotCut bytes f → SaysNoLine bytes f
uncut_line bytes fault.Value n = λ l h. n h.0 h.1
uncut_line bytes fault.NoMemory n = tt

pub uncut_names : (bytes : List ℕ) (f : ReadFault) → IsNotCut bytes f → SaysNoNames bytes f
uncut_names bytes fault.Value n = λ ns h. n h.0 h.1
uncut_names bytes fault.NoMemory n = tt

-- the tokens of a text, as they are seen
pub cut_into : (bytes : List ℕ) (ts : List Token) (ps : List Piece) → Cuts (length bytes) (chars bytes) ts → ps ≡ pieces bytes ts → IsCutInto bytes ps
cut_into bytes ts ps h e = (ts, h, sym e)

pub no_line : (bytes : List ℕ) (ts : List Token) (ps : List Piece) → Cuts (length bytes) (chars bytes) ts → ps ≡ pieces bytes ts → ((l : List (ℕ × Value)) → SpellsLine l ps → ⊥) → (l : List (ℕ × Value)) → IsLineOf bytes l → ⊥
no_line bytes ts ps h e n l k = n l (subst (SpellsLine l) (one_cutting_holds bytes k.0 ps k.1 (cut_into bytes ts ps h e)) k.2)

pub is_line : (bytes : List ℕ) (ts : List Token) (ps : List Piece) (l : List (ℕ × Value)) → Cuts (length bytes) (chars bytes) ts → ps ≡ pieces bytes ts → SpellsLine l ps → IsLineOf bytes l
is_line bytes ts ps l h e s = (ps, cut_into bytes ts ps h e, s)

pub no_names : (bytes : List ℕ) (ts : List Token) (ps : List Piece) → Cuts (length bytes) (chars bytes) ts → ps ≡ pieces bytes ts → ((ns : List (List ℕ)) → SpellsNames ns ps → ⊥) → (ns : List (List ℕ)) → IsNamesOf bytes ns → ⊥
no_names bytes ts ps h e n ns k = n ns (subst (SpellsNames ns) (one_cutting_holds bytes k.0 ps k.1 (cut_into bytes ts ps h e)) k.2)

pub is_names : (bytes : List ℕ) (ts : List Token) (ps : List Piece) (ns : List (List ℕ)) → Cuts (length bytes) (chars bytes) ts → ps ≡ pieces bytes ts → SpellsNames ns ps → IsNamesOf bytes ns
is_names bytes ts ps ns h e s = (ps, cut_into bytes ts ps h e, s)

-- ---- at most one

pub one_value_holds : OneValue
one_value_holds = one_value

pub one_line_holds : OneLine
one_line_holds bytes pairs others h k = pairs_one pairs others k.0 (subst (SpellsPairs pairs) (one_cutting_holds bytes h.0 k.0 h.1 k.1) h.2) k.2

pub one_line_of_holds : OneLineOf
one_line_of_holds bytes l m il im h k =
    let same = one_line_holds bytes h.2.0 k.2.0 (h.0, h.1, h.2.1) (k.0, k.1, k.2.1) in
    equal_where_values_are Value l m il im (λ d b. h.2.2 d b ∙ ap (λ xs. at xs d) same ∙ sym (k.2.2 d b))

pub one_names_holds : OneNames
one_names_holds bytes ns ms h k = names_one ns ms k.0 (subst (SpellsNames ns) (one_cutting_holds bytes h.0 k.0 h.1 k.1) h.2) k.2
