-- The line of a cell whose head was read once is the command that the cell's own tokens say.
use Rattle.std.proofs.Common.{◌≡◌, ◌≤◌, ◌<◌, ◌+◌, ℕ, zero, suc, get_or, List, [], ◌∷◌, ◌++◌, length, take, drop, Bool, true, false, cond, refl, sym, ap, ◌∙◌, subst, append_assoc, append-nil, length-append, inr, arith}
use Rattle.std.specs.Prelude.{Option, None, Some, IsSome, IfSome, codes, ◌==◌, ◌-◌}
use Rattle.std.specs.List.{slice_range}
use Rattle.std.specs.Str.{IsUtf8}
use Rattle.std.proofs.lemmas.List.{take_more}
use Rattle.std.proofs.lemmas.Str.{IsUtf8-append}
use Rattle.ucd_derived.proofs.Computing.{ucd_derived}
use Rattle.opa_value.specs.declared.value.Value.{Value}
use Rattle.opa_model.specs.declared.ids.AttrId.{AttrId}
use Rattle.opa_model.specs.declared.ids.RelId.{RelId}
use Rattle.opa_model.specs.declared.lists.Lists.{Lists}
use Rattle.opa_cells.specs.declared.instance.InstanceId.{InstanceId}
use Rattle.opa_case.specs.declared.change.ChangeCommand.TheVariants as change
use Rattle.opa_words.specs.declared.kinds.Token.{Token}
use Rattle.opa_words.specs.declared.kinds.TokenKind.TheVariants as kind
use Rattle.opa_words.specs.Kinds.{doubled, quoted, is_word}
use Rattle.opa_words.specs.Pieces.{Piece, piece, pieces, IsPiece, IsCutInto, is_nothing, word, symbol, text}
use Rattle.opa_words.specs.Written.{joined}
use Rattle.opa_words.proofs.LawsHold.{ascii_is_token_holds}
use Rattle.opa_words.proofs.Writing.{written_is_cut_holds}
use Rattle.opa_text.specs.Pointed.{SpellsPoint}
use Rattle.opa_text.specs.Spelled.{SpellsLine, SpellsNames}
use Rattle.opa_text.specs.declared.pointed.Point.{Point}
use Rattle.opa_script.specs.Commands.{IsCommand, NamesAttribute, NamesRelation}
use Rattle.opa_script.specs.Lines.{HasTokens}
use Rattle.opa_script.specs.Shapes.{AreShort, IsShort, verb_named}
use Rattle.opa_script.specs.declared.command.Command.{Command}
use Rattle.opa_script.specs.declared.command.Command.TheVariants as command
use Rattle.opa_batch.specs.Aims.{AreAimed, IsAimed, SpellsAim, SaysSome, IsSaid}
use Rattle.opa_batch.specs.Rows.{line_of, word_of}
use Rattle.opa_batch.specs.declared.aim.Aim.{Aim}
use Rattle.opa_batch.specs.declared.aim.Aim.TheVariants as aim
use Rattle.opa_batch.specs.declared.head.Head.{Head}
use Rattle.opa_batch.proofs.SeamLaws.{joined_cut, one_space}

-- ---- texts are short in a short text

doubled_longer : (cs : List ℕ) → length cs ≤ length (doubled cs)
doubled_longer [] = omega arith
doubled_longer (c ∷ cs) = go (c == 34) (doubled_longer cs)
  where
    go : (t : Bool) → length cs ≤ length (doubled cs) → length (c ∷ cs) ≤ length (cond t (34 ∷ 34 ∷ doubled cs) (c ∷ doubled cs))
    go true few = omega (arith, few)
    go false few = omega (arith, few)

quoted_longer : (cs : List ℕ) → length cs ≤ length (quoted cs)
quoted_longer cs = let few = doubled_longer cs in let long = length-append (doubled cs) (34 ∷ []) in omega (arith, few, long)

take_few : (k : ℕ) (xs : List ℕ) → length (take k xs) ≤ length xs
take_few zero xs = omega arith
take_few (suc k) [] = omega arith
take_few (suc k) (x ∷ xs) = let few = take_few k xs in omega (arith, few)

drop_few : (k : ℕ) (xs : List ℕ) → length (drop k xs) ≤ length xs
drop_few zero xs = omega arith
drop_few (suc k) [] = omega arith
drop_few (suc k) (x ∷ xs) = let few = drop_few k xs in omega (arith, few)

slice_few : (xs : List ℕ) (i j : ℕ) → length (slice_range xs i j) ≤ length xs
slice_few xs i j = let few = take_few (j - i) (drop i xs) in let fewer = drop_few i xs in omega (arith, few, fewer)

short_pieces : (bytes : List ℕ) (ts : List Token) → length bytes ≤ 1000 → AreShort (pieces bytes ts)
short_pieces bytes [] few = tt
short_pieces bytes (t ∷ ts) few = (λ inner e. short inner e, short_pieces bytes ts few)
  where
    short : (inner : List ℕ) → piece bytes t ≡ text inner → length inner ≤ 1000
    short inner e =
        let same : length (slice_range bytes t.start t.end) ≡ length (quoted inner) = ap (λ (p : Piece). length p.text) e in
        let long = quoted_longer inner in
        let less = slice_few bytes t.start t.end in
        omega (arith, few, same, long, less)

short_cut : (bytes : List ℕ) (ps : List Piece) → length bytes ≤ 1000 → IsCutInto bytes ps → AreShort ps
short_cut bytes ps few (ts, d, e) = subst AreShort e (short_pieces bytes ts few)

short_append : (ps qs : List Piece) → AreShort ps → AreShort qs → AreShort (ps ++ qs)
short_append [] qs s t = t
short_append (p ∷ ps) qs s t = (s.0, short_append ps qs s.1 t)

equals_short : IsShort (symbol (codes "="))
equals_short inner e = absurd (let k : kind.Symbol ≡ kind.Text = ap (λ (p : Piece). p.kind) e in cc k)

-- ---- the words of lines

alone : (p : Piece) → IsPiece p → IsUtf8 p.text × IsCutInto p.text (p ∷ [])
alone p is =
    let w = written_is_cut_holds (joined p ∷ []) (is, refl, tt) in
    let e = append-nil p.text in
    (subst IsUtf8 e w.0, subst (λ bs. IsCutInto bs (p ∷ [])) e w.1)

answer_word : is_word (codes "answer") ≡ true
unfolding ucd_derived
answer_word = refl

list_word : is_word (codes "list") ≡ true
unfolding ucd_derived
list_word = refl

answer_piece : IsPiece (word (codes "answer"))
answer_piece = ascii_is_token_holds kind.Word (codes "answer") refl answer_word

list_piece : IsPiece (word (codes "list"))
list_piece = ascii_is_token_holds kind.Word (codes "list") refl list_word

equals_piece : IsPiece (symbol (codes "="))
equals_piece = ascii_is_token_holds kind.Symbol (codes "=") refl refl

-- ---- the tokens of the line

abbrev line : List ℕ → List ℕ → List ℕ → List ℕ
line verb head cell = ((verb ++ 32 ∷ head) ++ 32 ∷ codes "=") ++ 32 ∷ cell

line_is : (verb head cell : List ℕ) → (verb ++ 32 ∷ []) ++ (head ++ (codes " = " ++ cell)) ≡ line verb head cell
line_is verb head cell =
    append_assoc verb (32 ∷ []) (head ++ (codes " = " ++ cell))
    ∙ sym (append_assoc verb (32 ∷ head) (codes " = " ++ cell))
    ∙ sym (append_assoc (verb ++ 32 ∷ head) (32 ∷ codes "=") (32 ∷ cell))

line_tokens : (verb head cell : List ℕ) (hs cs : List Piece) → IsPiece (word verb) → IsUtf8 head → IsUtf8 cell → IsCutInto head hs → IsCutInto cell cs
    → IsUtf8 (line verb head cell) × IsCutInto (line verb head cell) (word verb ∷ (hs ++ symbol (codes "=") ∷ cs))
line_tokens verb head cell hs cs is head_text cell_text head_cut cell_cut =
    let v = alone (word verb) is in
    let e = alone (symbol (codes "=")) equals_piece in
    let space = one_space in
    let text_1 : IsUtf8 (verb ++ 32 ∷ head) = IsUtf8-append verb (32 ∷ head) v.0 (IsUtf8-append (32 ∷ []) head space head_text) in
    let text_2 : IsUtf8 ((verb ++ 32 ∷ head) ++ 32 ∷ codes "=") = IsUtf8-append (verb ++ 32 ∷ head) (32 ∷ codes "=") text_1 (IsUtf8-append (32 ∷ []) (codes "=") space e.0) in
    let text_3 : IsUtf8 (line verb head cell) = IsUtf8-append ((verb ++ 32 ∷ head) ++ 32 ∷ codes "=") (32 ∷ cell) text_2 (IsUtf8-append (32 ∷ []) cell space cell_text) in
    let cut_1 = joined_cut verb head v.0 head_text (word verb ∷ []) hs v.1 head_cut in
    let cut_2 = joined_cut (verb ++ 32 ∷ head) (codes "=") text_1 e.0 ((word verb ∷ []) ++ hs) (symbol (codes "=") ∷ []) cut_1 e.1 in
    let cut_3 = joined_cut ((verb ++ 32 ∷ head) ++ 32 ∷ codes "=") cell text_2 cell_text (((word verb ∷ []) ++ hs) ++ symbol (codes "=") ∷ []) cs cut_2 cell_cut in
    (text_3, subst (IsCutInto (line verb head cell)) (append_assoc (word verb ∷ hs) (symbol (codes "=") ∷ []) cs) cut_3)

line_long : (verb head cell : List ℕ) → length verb ≤ 10 → length head ≤ 1000 → length cell ≤ 1000 → length (line verb head cell) ≤ 65536
line_long verb head cell v h c =
    let a = length-append ((verb ++ 32 ∷ head) ++ 32 ∷ codes "=") (32 ∷ cell) in
    let b = length-append (verb ++ 32 ∷ head) (32 ∷ codes "=") in
    let d = length-append verb (32 ∷ head) in
    omega (arith, v, h, c, a, b, d)

-- ---- the command

the : {X : Type 0} (o : Option X) → IsSome o → X
the None h = absurd (cc h)
the (Some x) h = x

pieces_short : (head cell : List ℕ) (hs cs : List Piece) → length head ≤ 1000 → length cell ≤ 1000 → IsCutInto head hs → IsCutInto cell cs → AreShort (hs ++ symbol (codes "=") ∷ cs)
pieces_short head cell hs cs few_head few_cell head_cut cell_cut = short_append hs (symbol (codes "=") ∷ cs) (short_cut head hs few_head head_cut) (equals_short, short_cut cell cs few_cell cell_cut)

module _ (m : Lists) (head cell : List ℕ) (few_head : length head ≤ 1000) (few_cell : length cell ≤ 1000) (p : Point) (hs cs : List Piece) (head_has : HasTokens head hs) (spells : SpellsPoint p hs) (cell_has : HasTokens cell cs) (some : is_nothing cs ≡ false) where
  answers : (a : AttrId) (i : InstanceId) (l : List (ℕ × Value)) → NamesAttribute m p a i → SpellsLine l cs → IsCommand m (line (codes "answer") head cell) (command.Change (change.Answer a i l))
  unfolding the
  answers a i l names says =
      let tokens = line_tokens (codes "answer") head cell hs cs answer_piece head_has.1 cell_has.1 head_has.2 cell_has.2 in
      inr (
        refl,
        (
          word (codes "answer") ∷ (hs ++ symbol (codes "=") ∷ cs),
          (line_long (codes "answer") head cell (omega arith) few_head few_cell, tokens.0, tokens.1),
          (
            the (verb_named (codes "answer")) refl,
            hs ++ symbol (codes "=") ∷ cs,
            (codes "answer", refl, refl),
            (pieces_short head cell hs cs few_head few_cell head_has.2 cell_has.2, (p, cs, a, i, l, (hs, spells, refl, some), names, says, refl)),
          ),
        ),
      )

  lists : (r : RelId) (i : InstanceId) (ns : List (List ℕ)) → NamesRelation m p r i → SpellsNames ns cs → IsCommand m (line (codes "list") head cell) (command.Change (change.SetList r i ns))
  unfolding the
  lists r i ns names says =
      let tokens = line_tokens (codes "list") head cell hs cs list_piece head_has.1 cell_has.1 head_has.2 cell_has.2 in
      inr (
        refl,
        (
          word (codes "list") ∷ (hs ++ symbol (codes "=") ∷ cs),
          (line_long (codes "list") head cell (omega arith) few_head few_cell, tokens.0, tokens.1),
          (
            the (verb_named (codes "list")) refl,
            hs ++ symbol (codes "=") ∷ cs,
            (codes "list", refl, refl),
            (pieces_short head cell hs cs few_head few_cell head_has.2 cell_has.2, (p, cs, r, i, ns, (hs, spells, refl, some), names, says, refl)),
          ),
        ),
      )

pub aimed_says : (m : Lists) (h : Head) (k : Aim) (cell : List ℕ) (c : Command) → IsAimed m h k → IsSaid k cell c → IsCommand m (line_of h cell) c
aimed_says m h (aim.Answer a i) cell c aimed said =
    let (hs, has, spells) = aimed.has in
    let (e, names) = aimed.names in
    let (l, says, is) = said.says.1 in
    subst (IsCommand m (line_of h cell)) (sym is)
    (subst (λ bs. IsCommand m bs (command.Change (change.Answer a i l))) (sym (ap (λ s. word_of s ++ (h.text ++ (codes " = " ++ cell))) e ∙ line_is (codes "answer") h.text cell))
    (answers m h.text cell aimed.few said.few aimed.point hs said.tokens has spells said.has said.says.0 a i l names says))
aimed_says m h (aim.Names r i) cell c aimed said =
    let (hs, has, spells) = aimed.has in
    let (e, names) = aimed.names in
    let (ns, says, is) = said.says.1 in
    subst (IsCommand m (line_of h cell)) (sym is)
    (subst (λ bs. IsCommand m bs (command.Change (change.SetList r i ns))) (sym (ap (λ s. word_of s ++ (h.text ++ (codes " = " ++ cell))) e ∙ line_is (codes "list") h.text cell))
    (lists m h.text cell aimed.few said.few aimed.point hs said.tokens has spells said.has said.says.0 r i ns names says))

-- ---- what is read

pub aimed_if : (m : Lists) (h : Head) (bytes : List ℕ) (ps : List Piece) → bytes ≡ h.text → length bytes ≤ 1000 → HasTokens bytes ps → (o : Option Aim) → IfSome o (SpellsAim m h.sort ps) → IfSome o (IsAimed m h)
aimed_if m h bytes ps e few has None x = tt
aimed_if m h bytes ps e few has (Some k) x = record { few = subst (λ b. length b ≤ 1000) e few; point = x.0; has = (ps, subst (λ b. HasTokens b ps) e has, x.1); names = x.2 }

pub said_if : (k : Aim) (cell : List ℕ) (ps : List Piece) → length cell ≤ 1000 → HasTokens cell ps → (o : Option Command) → IfSome o (SaysSome k ps) → IfSome o (IsSaid k cell)
said_if k cell ps few has None x = tt
said_if k cell ps few has (Some c) x = record { few = few; tokens = ps; has = has; says = x }

pub all_said : (m : Lists) (h : Head) (k : Aim) (cell : List ℕ) → IsAimed m h k → (o : Option Command) → IfSome o (IsSaid k cell) → IfSome o (IsCommand m (line_of h cell))
all_said m h k cell aimed None x = tt
all_said m h k cell aimed (Some c) x = aimed_says m h k cell c aimed x

pub quick_says : (m : Lists) (h : Head) (o : Option Aim) (k : Aim) (cell : List ℕ) (r : Option Command) → o ≡ Some k → IfSome o (IsAimed m h) → IfSome r (IsSaid k cell) → IfSome r (IsCommand m (line_of h cell))
quick_says m h o k cell r e aimed x = all_said m h k cell (subst (λ y. IfSome y (IsAimed m h)) e aimed) r x

-- ---- the aims of heads

pub aim_at : (m : Lists) (heads : List Head) (aims : List (Option Aim)) (place : ℕ) (h : Head) (o : Option Aim) → AreAimed m heads aims → place < length heads → h ≡ get_or heads place h → o ≡ get_or aims place o → IfSome o (IsAimed m h)
aim_at m [] aims place h o are lt at there = absurd (omega (arith, lt))
aim_at m (g ∷ heads) [] place h o are lt at there = absurd are
aim_at m (g ∷ heads) (k ∷ aims) zero h o are lt at there = subst (λ x. IfSome o (IsAimed m x)) (sym at) (subst (λ x. IfSome x (IsAimed m g)) (sym there) are.0)
aim_at m (g ∷ heads) (k ∷ aims) (suc place) h o are lt at there = aim_at m heads aims place h o are.1 (omega (arith, lt)) at there

pub aims_long : (m : Lists) (heads : List Head) (aims : List (Option Aim)) → AreAimed m heads aims → length aims ≡ length heads
aims_long m [] [] are = refl
aims_long m [] (k ∷ aims) are = absurd are
aims_long m (h ∷ heads) [] are = absurd are
aims_long m (h ∷ heads) (k ∷ aims) are = let e = aims_long m heads aims are.1 in omega (arith, e)

one_more : (m : Lists) (heads : List Head) (aims : List (Option Aim)) (h : Head) (o : Option Aim) → AreAimed m heads aims → IfSome o (IsAimed m h) → AreAimed m (heads ++ h ∷ []) (aims ++ o ∷ [])
one_more m [] [] h o are is = (is, tt)
one_more m [] (k ∷ aims) h o are is = absurd are
one_more m (g ∷ heads) [] h o are is = absurd are
one_more m (g ∷ heads) (k ∷ aims) h o are is = (are.0, one_more m heads aims h o are.1 is)

pub aims_more : (m : Lists) (heads : List Head) (aims : List (Option Aim)) (place : ℕ) (h : Head) (o : Option Aim) → AreAimed m (take place heads) aims → place < length heads → h ≡ get_or heads place h → IfSome o (IsAimed m h) → AreAimed m (take (place + 1) heads) (aims ++ o ∷ [])
aims_more m heads aims place h o are lt at is =
    subst (λ hs. AreAimed m hs (aims ++ o ∷ [])) (ap (λ g. take place heads ++ g ∷ []) at ∙ sym (take_more heads place h lt)) (one_more m (take place heads) aims h o are is)
