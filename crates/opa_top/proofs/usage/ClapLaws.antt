-- What `clap` makes of three positionals.
use Rattle.std.proofs.Common.{◌≡◌, ◌≢◌, ℕ, suc, ◌+◌, ◌<◌, ◌≤◌, Bool, true, false, ◌==◌, List, [], ◌∷◌, ◌++◌, length, Option, Some, None, option_map, is_some, codes, refl, sym, ap, ap₂, ◌∙◌, subst, arith, slice_get, ◌⊎◌, inl, inr, append_assoc, length-append}
use Rattle.std.specs.Prelude.{String, string_bytes, map, drop}
use Rattle.std.specs.declared.alloc.Global.{Global}
use Rattle.std.specs.List.{fold}
use Rattle.std.specs.Str.{bytes_eq, IsUtf8, chars, encode_utf8_all}
use Rattle.std.proofs.lemmas.Str.{encodes-chars, IsUtf8-past_char, IsUtf8-string_bytes, encode_ascii}
use Rattle.std.proofs.lemmas.List.{append-nil}
use Rattle.std.proofs.lemmas.Bool.{eqb-true, cases_lt, cases_Bool}
use Rattle.std.proofs.lemmas.Slice.Eq.{bytes_eq-Decides}
use Rattle.clap.specs.Walk.{Held, Row, Text, Walk, idle, value, settled, after_step, word_met, walked, walk_from, nothing_held, finished, first_of, arg_by_long, arg_by_short}
use Rattle.clap.specs.Simple.{Shape, built, entered, matches_of, is_simple}
use Rattle.clap.specs.Lexer.{long_of, short_of, name_and_value}
use Rattle.clap.specs.Kinds.{Kinds, or_else}
use Rattle.clap.specs.Faults.{fault_of, is_simple_and_free, walk_fault, turn_fault, word_fault, step_fault, settle_fault, entered_fault, defaults_fault, check_fault, flags_fault}
use Rattle.clap.specs.declared.error.kind.ErrorKind.TheVariants as kind
use Rattle.clap.proofs.OnLiterals.{clap_on_literals}
use Rattle.opa_top.specs.Usage.Words.{opa_app, positionals, is_flag}

pub simple : is_simple_and_free opa_app ≡ true
unfolding clap_on_literals opa_app
simple = refl

-- the built command
unfoldable shape3 : Shape
unfolding opa_app
shape3 = (built opa_app).top

-- the walk after these words, all taken as positionals after `--`
unfoldable trail : List Text → Walk
trail vs = fold (walked shape3.rules []) (record (walk_from nothing_held) { is_trailing = true }) vs

-- the faults after the walk
abbrev end_fault : Walk → Kinds
end_fault w =
    or_else (settle_fault shape3.rules shape3.args_override_self w.held)
    (or_else (defaults_fault (settled shape3.rules w.held).rows shape3.rules) (check_fault shape3 (finished shape3.rules w.held) false))

-- ---- words that are no flag and not `--`

-- such a word has no name of a flag
plain_word : (word : Text) → is_flag word ≡ false → bytes_eq word (45 ∷ 45 ∷ []) ≡ false → (long_of word ≡ None) × (short_of word ≡ None)
plain_word [] flag dashes = (refl, refl)
plain_word (x ∷ []) flag dashes = by (x == 45) refl
  where
    by : (b : Bool) → (x == 45) ≡ b → (long_of (x ∷ []) ≡ None) × (short_of (x ∷ []) ≡ None)
    by true e = (rw e refl, rw e refl)
    by false e = (rw e refl, rw e refl)
plain_word (x ∷ y ∷ rest) flag dashes = (rw flag refl, rw flag refl)

plain_met : (h : Held) (position : ℕ) (word : Text) → is_flag word ≡ false → bytes_eq word (45 ∷ 45 ∷ []) ≡ false → word_met shape3.rules [] false idle position word h ≡ (h, value)
plain_met h position word flag dashes =
    let (long, short) = plain_word word flag dashes in
    rw (dashes, long, short) refl

plain_fault : (h : Held) (word : Text) → is_flag word ≡ false → bytes_eq word (45 ∷ 45 ∷ []) ≡ false → word_fault shape3 [] false idle word h ≡ []
plain_fault h word flag dashes =
    let (long, short) = plain_word word flag dashes in
    rw (dashes, long, short) refl

-- what a word that goes to a positional does, from these two facts
module _ (w : Walk) (word : Text) (trailing : w.is_trailing ≡ false) (waits : w.waiting ≡ idle) (goes : w.stopped ≡ None)
    (flag : is_flag word ≡ false) (dashes : bytes_eq word (45 ∷ 45 ∷ []) ≡ false) where
  turn_plain : turn_fault shape3 [] w word ≡ step_fault shape3 w.position w.held value
  turn_plain = rw (goes, trailing, waits, plain_fault w.held word flag dashes, plain_met w.held w.position word flag dashes) refl

  walked_plain : walked shape3.rules [] w word ≡ after_step shape3.rules word w w.held value
  unfolding walked
  walked_plain = rw (goes, trailing, waits, plain_met w.held w.position word flag dashes) refl

-- the same after `--`
module _ (w : Walk) (word : Text) (trailing : w.is_trailing ≡ true) (goes : w.stopped ≡ None) where
  turn_trailing : turn_fault shape3 [] w word ≡ step_fault shape3 w.position w.held value
  turn_trailing = rw (goes, trailing) refl

  walked_trailing : walked shape3.rules [] w word ≡ after_step shape3.rules word w w.held value
  unfolding walked
  walked_trailing = rw (goes, trailing) refl

-- where the walk stands after up to three positionals
unfoldable stand : Bool → List Text → Walk
stand b vs = record (trail vs) { is_trailing = b }

stand_step : (b : Bool) (vs : List Text) (word : Text) → length vs < 3
    → (step_fault shape3 (stand b vs).position (stand b vs).held value ≡ []) × (after_step shape3.rules word (stand b vs) (stand b vs).held value ≡ stand b (vs ++ word ∷ []))
unfolding clap_on_literals shape3 opa_app trail stand
stand_step true [] word few = (refl, refl)
stand_step false [] word few = (refl, refl)
stand_step true (a ∷ []) word few = (refl, refl)
stand_step false (a ∷ []) word few = (refl, refl)
stand_step true (a ∷ c ∷ []) word few = (refl, refl)
stand_step false (a ∷ c ∷ []) word few = (refl, refl)
stand_step b (a ∷ c ∷ d ∷ vs) word few = absurd (omega arith)

-- a fourth positional is refused
stand_full : (b : Bool) (vs : List Text) → length vs ≡ 3 → step_fault shape3 (stand b vs).position (stand b vs).held value ≡ kind.UnknownArgument ∷ []
unfolding clap_on_literals shape3 opa_app trail stand
stand_full b (a ∷ c ∷ d ∷ []) three = refl
stand_full b [] three = absurd (omega arith)
stand_full b (a ∷ []) three = absurd (omega arith)
stand_full b (a ∷ c ∷ []) three = absurd (omega arith)
stand_full b (a ∷ c ∷ d ∷ e ∷ vs) three = absurd (omega arith)

stand_at : (b : Bool) (vs : List Text) → length vs ≤ 3 → ((stand b vs).is_trailing ≡ b) × ((stand b vs).waiting ≡ idle) × ((stand b vs).stopped ≡ None)
unfolding clap_on_literals shape3 opa_app trail stand
stand_at b [] few = (refl, refl, refl)
stand_at b (a ∷ []) few = (refl, refl, refl)
stand_at b (a ∷ c ∷ []) few = (refl, refl, refl)
stand_at b (a ∷ c ∷ d ∷ []) few = (refl, refl, refl)
stand_at b (a ∷ c ∷ d ∷ e ∷ vs) few = absurd (omega arith)

-- what follows the walk: no fault, and the three values
stand_end : (b : Bool) (vs : List Text) → length vs ≤ 3 → (end_fault (stand b vs) ≡ []) × (first_of (codes "mode") (finished shape3.rules (stand b vs).held) ≡ slice_get vs 0)
    × (first_of (codes "rulebase") (finished shape3.rules (stand b vs).held) ≡ slice_get vs 1) × (first_of (codes "name") (finished shape3.rules (stand b vs).held) ≡ slice_get vs 2)
unfolding clap_on_literals shape3 opa_app trail stand
stand_end b [] few = (refl, refl, refl, refl)
stand_end b (a ∷ []) few = (refl, refl, refl, refl)
stand_end b (a ∷ c ∷ []) few = (refl, refl, refl, refl)
stand_end b (a ∷ c ∷ d ∷ []) few = (refl, refl, refl, refl)
stand_end b (a ∷ c ∷ d ∷ e ∷ vs) few = absurd (omega arith)

-- `--` leaves the walk where it is
stand_dashes : (vs : List Text) → length vs ≤ 3 → (turn_fault shape3 [] (stand false vs) (45 ∷ 45 ∷ []) ≡ []) × (walked shape3.rules [] (stand false vs) (45 ∷ 45 ∷ []) ≡ stand true vs)
unfolding clap_on_literals shape3 opa_app trail stand
stand_dashes [] few = (refl, refl)
stand_dashes (a ∷ []) few = (refl, refl)
stand_dashes (a ∷ c ∷ []) few = (refl, refl)
stand_dashes (a ∷ c ∷ d ∷ []) few = (refl, refl)
stand_dashes (a ∷ c ∷ d ∷ e ∷ vs) few = absurd (omega arith)

no_skip : (b : Bool) (vs : List Text) → length vs ≤ 3 → (stand b vs).held.skip ≡ 0
unfolding clap_on_literals shape3 opa_app trail stand
no_skip b [] few = refl
no_skip b (a ∷ []) few = refl
no_skip b (a ∷ c ∷ []) few = refl
no_skip b (a ∷ c ∷ d ∷ []) few = refl
no_skip b (a ∷ c ∷ d ∷ e ∷ vs) few = absurd (omega arith)

-- ---- flags, which the command has none of

no_long : (name : Text) → arg_by_long shape3.rules name ≡ None
unfolding shape3 opa_app
no_long name = refl

no_short : (x : ℕ) → arg_by_short shape3.rules x ≡ None
unfolding shape3 opa_app
no_short x = refl

has_char : (y : ℕ) (rest : Text) → IsUtf8 (y ∷ rest) → (x : ℕ) × (slice_get (chars (y ∷ rest)) 0 ≡ Some x)
has_char y rest u = by (chars (y ∷ rest)) refl
  where
    by : (cs : List ℕ) → chars (y ∷ rest) ≡ cs → (x : ℕ) × (slice_get (chars (y ∷ rest)) 0 ≡ Some x)
    by [] e = cc (sym (encodes-chars (y ∷ rest) u) ∙ ap encode_utf8_all e)
    by (c ∷ cs) e = (c, rw e refl)

past_dash : (rest : Text) → IsUtf8 (45 ∷ rest) → IsUtf8 rest
past_dash rest u = IsUtf8-past_char (45 ∷ rest) rest 45 u (sym (ap (λ t. t ++ rest) (encode_ascii 45 (omega arith))))

-- a word by what it shows
module _ (h : Held) (word : Text) (dashes : bytes_eq word (45 ∷ 45 ∷ []) ≡ false) where
  long_refused : (p : Text × Option Text) → long_of word ≡ Some p → word_fault shape3 [] false idle word h ≡ kind.UnknownArgument ∷ []
  long_refused p long = rw (dashes, long, no_long p.0) refl

  module _ (y : ℕ) (rest : Text) (x : ℕ) (skip : h.skip ≡ 0) (long : long_of word ≡ None) (short : short_of word ≡ Some (y ∷ rest)) (first : slice_get (chars (y ∷ rest)) 0 ≡ Some x) where
    short_refused : word_fault shape3 [] false idle word h ≡ kind.UnknownArgument ∷ []
    unfolding flags_fault
    short_refused = rw (dashes, long, short, skip, first, no_short x) refl

two_dashes : (h : Held) (rest : Text) → bytes_eq (45 ∷ 45 ∷ rest) (45 ∷ 45 ∷ []) ≡ false → word_fault shape3 [] false idle (45 ∷ 45 ∷ rest) h ≡ kind.UnknownArgument ∷ []
two_dashes h [] dashes = cc dashes
two_dashes h (z ∷ zs) dashes = long_refused h (45 ∷ 45 ∷ z ∷ zs) dashes (name_and_value (z ∷ zs)) refl

one_dash : (h : Held) (y : ℕ) (rest : Text) → h.skip ≡ 0 → bytes_eq (45 ∷ y ∷ rest) (45 ∷ 45 ∷ []) ≡ false → IsUtf8 (45 ∷ y ∷ rest)
    → word_fault shape3 [] false idle (45 ∷ y ∷ rest) h ≡ kind.UnknownArgument ∷ []
one_dash h y rest skip dashes u = by (y == 45) refl
  where
    by : (b : Bool) → (y == 45) ≡ b → word_fault shape3 [] false idle (45 ∷ y ∷ rest) h ≡ kind.UnknownArgument ∷ []
    by true e =
        let second : y ≡ 45 = eqb-true y 45 e in
        subst (λ (c : ℕ). word_fault shape3 [] false idle (45 ∷ c ∷ rest) h ≡ kind.UnknownArgument ∷ []) (sym second)
        (two_dashes h rest (subst (λ (c : ℕ). bytes_eq (45 ∷ c ∷ rest) (45 ∷ 45 ∷ []) ≡ false) second dashes))
    by false e =
        let (x, first) = has_char y rest (past_dash (y ∷ rest) u) in
        short_refused h (45 ∷ y ∷ rest) dashes y rest x skip (rw e refl) (rw e refl) first

flag_refused : (h : Held) (word : Text) → h.skip ≡ 0 → is_flag word ≡ true → bytes_eq word (45 ∷ 45 ∷ []) ≡ false → IsUtf8 word
    → word_fault shape3 [] false idle word h ≡ kind.UnknownArgument ∷ []
flag_refused h [] skip flag dashes u = cc flag
flag_refused h (x ∷ []) skip flag dashes u = cc flag
flag_refused h (x ∷ y ∷ rest) skip flag dashes u =
    let dash : x ≡ 45 = eqb-true x 45 flag in
    subst (λ (c : ℕ). word_fault shape3 [] false idle (c ∷ y ∷ rest) h ≡ kind.UnknownArgument ∷ []) (sym dash)
    (one_dash h y rest skip (subst (λ (c : ℕ). bytes_eq (c ∷ y ∷ rest) (45 ∷ 45 ∷ []) ≡ false) dash dashes) (subst (λ (c : ℕ). IsUtf8 (c ∷ y ∷ rest)) dash u))

turn_flag : (w : Walk) (word : Text) → w.is_trailing ≡ false → w.waiting ≡ idle → w.stopped ≡ None → w.held.skip ≡ 0 → is_flag word ≡ true → bytes_eq word (45 ∷ 45 ∷ []) ≡ false → IsUtf8 word
    → turn_fault shape3 [] w word ≡ kind.UnknownArgument ∷ []
turn_flag w word trailing waits goes skip flag dashes u = rw (goes, trailing, waits, flag_refused w.held word skip flag dashes u) refl

-- ---- runs

abbrev Faults : Bool → List Text → List Text → Kinds
Faults b vs ws = walk_fault shape3 [] (stand b vs) ws

abbrev End : Bool → List Text → List Text → Walk
End b vs ws = fold (walked shape3.rules []) (stand b vs) ws

-- one word, where the walk goes on without a fault
goes_on : (b c : Bool) (vs us : List Text) (word : Text) (ws : List Text) → turn_fault shape3 [] (stand b vs) word ≡ [] → walked shape3.rules [] (stand b vs) word ≡ stand c us
    → (Faults b vs (word ∷ ws) ≡ Faults c us ws) × (End b vs (word ∷ ws) ≡ End c us ws)
unfolding walk_fault
goes_on b c vs us word ws turn next = (rw (turn, next) refl, rw next refl)

stops : (b : Bool) (vs : List Text) (word : Text) (ws : List Text) → turn_fault shape3 [] (stand b vs) word ≡ kind.UnknownArgument ∷ [] → Faults b vs (word ∷ ws) ≢ []
unfolding walk_fault
stops b vs word ws turn none = cc (rw turn at none)

-- one more positional
takes_one : (b : Bool) (vs : List Text) (word : Text) (ws : List Text) → length vs < 3 → turn_fault shape3 [] (stand b vs) word ≡ step_fault shape3 (stand b vs).position (stand b vs).held value
    → walked shape3.rules [] (stand b vs) word ≡ after_step shape3.rules word (stand b vs) (stand b vs).held value
    → (Faults b vs (word ∷ ws) ≡ Faults b (vs ++ word ∷ []) ws) × (End b vs (word ∷ ws) ≡ End b (vs ++ word ∷ []) ws)
takes_one b vs word ws few turn next =
    let step = stand_step b vs word few in
    goes_on b b vs (vs ++ word ∷ []) word ws (turn ∙ step.0) (next ∙ step.1)

after_dashes : (vs ws : List Text) → length vs + length ws ≤ 3 → (Faults true vs ws ≡ []) × (End true vs ws ≡ stand true (vs ++ ws))
unfolding walk_fault
after_dashes vs [] few = (refl, ap (stand true) (sym (append-nil vs)))
after_dashes vs (word ∷ ws) few =
    let at = stand_at true vs (omega arith) in
    let one = takes_one true vs word ws (omega arith) (turn_trailing (stand true vs) word at.0 at.2) (walked_trailing (stand true vs) word at.0 at.2) in
    let rest = after_dashes (vs ++ word ∷ []) ws (omega (arith, length-append vs (word ∷ []))) in
    (one.0 ∙ rest.0, one.1 ∙ rest.1 ∙ ap (stand true) (append_assoc vs (word ∷ []) ws))

module _ (vs : List Text) (word : Text) (ws : List Text) (few : length vs ≤ 3) (many : 3 < length vs + length (word ∷ ws))
    (more : length vs < 3 → Faults true (vs ++ word ∷ []) ws ≢ []) where
  one_too_many : (length vs < 3) ⊎ (3 ≤ length vs) → Faults true vs (word ∷ ws) ≢ []
  one_too_many (inl lt) none =
      let at = stand_at true vs few in
      more lt (sym (takes_one true vs word ws lt (turn_trailing (stand true vs) word at.0 at.2) (walked_trailing (stand true vs) word at.0 at.2)).0 ∙ none)
  one_too_many (inr ge) none =
      let at = stand_at true vs few in
      stops true vs word ws (turn_trailing (stand true vs) word at.0 at.2 ∙ stand_full true vs (omega arith)) none

too_many : (vs ws : List Text) → length vs ≤ 3 → 3 < length vs + length ws → Faults true vs ws ≢ []
too_many vs [] few many = absurd (omega arith)
too_many vs (word ∷ ws) few many =
    one_too_many vs word ws few many
    (λ lt. too_many (vs ++ word ∷ []) ws (omega (arith, length-append vs (word ∷ []))) (omega (arith, length-append vs (word ∷ []))))
    (cases_lt (length vs) 3)

abbrev pub AllUtf8 : List Text → Type 0
AllUtf8 [] = Unit {0}
AllUtf8 (w ∷ ws) = IsUtf8 w × AllUtf8 ws

-- the walk takes these positionals, and no fault comes before its end
abbrev Reads : List Text → List Text → List Text → Type 0
Reads vs ws ps = (Faults false vs ws ≡ []) × (b : Bool) × (End false vs ws ≡ stand b (vs ++ ps))

abbrev IsRun : List Text → List Text → Type 0
IsRun vs ws =
    ((ps : List Text) → positionals ws ≡ Some ps → length vs + length ps ≤ 3 → Reads vs ws ps)
    × (((ps : List Text) → positionals ws ≡ Some ps → 3 < length vs + length ps) → Faults false vs ws ≢ [])

some_same : (x y : List Text) → Some x ≡ Some y → x ≡ y
some_same x y e = cc e

mapped_some : (word : Text) (o : Option (List Text)) (ps : List Text) → option_map (λ qs. word ∷ qs) o ≡ Some ps → (qs : List Text) × (o ≡ Some qs) × (ps ≡ word ∷ qs)
mapped_some word None ps e = cc e
mapped_some word (Some qs) ps e = (qs, refl, sym (some_same _ _ e))

dashes_positionals : (word : Text) (ws : List Text) → bytes_eq word (45 ∷ 45 ∷ []) ≡ true → positionals (word ∷ ws) ≡ Some ws
dashes_positionals word ws e = rw e refl

flag_positionals : (word : Text) (ws : List Text) → bytes_eq word (45 ∷ 45 ∷ []) ≡ false → is_flag word ≡ true → positionals (word ∷ ws) ≡ None
flag_positionals word ws d f = rw (d, f) refl

plain_positionals : (word : Text) (ws : List Text) → bytes_eq word (45 ∷ 45 ∷ []) ≡ false → is_flag word ≡ false → positionals (word ∷ ws) ≡ option_map (λ ps. word ∷ ps) (positionals ws)
plain_positionals word ws d f = rw (d, f) refl

dashes_are : (word : Text) → bytes_eq word (45 ∷ 45 ∷ []) ≡ true → word ≡ 45 ∷ 45 ∷ []
dashes_are word e = (bytes_eq-Decides word (45 ∷ 45 ∷ [])).0 e

module _ (vs : List Text) (word : Text) (ws : List Text) (few : length vs ≤ 3) (u : IsUtf8 word) (rest : length vs < 3 → IsRun (vs ++ word ∷ []) ws) where
  -- at `--`
  at_dashes : bytes_eq word (45 ∷ 45 ∷ []) ≡ true → IsRun vs (word ∷ ws)
  at_dashes e =
      let same = dashes_are word e in
      let here = stand_dashes vs few in
      let one = goes_on false true vs vs word ws (subst (λ (t : Text). turn_fault shape3 [] (stand false vs) t ≡ []) (sym same) here.0) (subst (λ (t : Text). walked shape3.rules [] (stand false vs) t ≡ stand true vs) (sym same) here.1) in
      let all = dashes_positionals word ws e in (
        (λ ps is few_more.
            let ws_are : ws ≡ ps = some_same ws ps (sym all ∙ is) in
            let run = after_dashes vs ws (subst (λ (l : List Text). length vs + length l ≤ 3) (sym ws_are) few_more) in
            (one.0 ∙ run.0, true, one.1 ∙ run.1 ∙ ap (λ l. stand true (vs ++ l)) ws_are)),
        (λ many none. too_many vs ws few (many ws all) (sym one.0 ∙ none)),
      )

  at_flag : bytes_eq word (45 ∷ 45 ∷ []) ≡ false → is_flag word ≡ true → IsRun vs (word ∷ ws)
  at_flag dashes flag =
      let at = stand_at false vs few in (
        (λ ps is few_more. cc (sym (flag_positionals word ws dashes flag) ∙ is)),
        (λ many. stops false vs word ws (turn_flag (stand false vs) word at.0 at.1 at.2 (no_skip false vs few) flag dashes u)),
      )

  module _ (dashes : bytes_eq word (45 ∷ 45 ∷ []) ≡ false) (flag : is_flag word ≡ false) where
    one_more : length vs < 3 → (Faults false vs (word ∷ ws) ≡ Faults false (vs ++ word ∷ []) ws) × (End false vs (word ∷ ws) ≡ End false (vs ++ word ∷ []) ws)
    one_more lt =
        let at = stand_at false vs few in
        takes_one false vs word ws lt (turn_plain (stand false vs) word at.0 at.1 at.2 flag dashes) (walked_plain (stand false vs) word at.0 at.1 at.2 flag dashes)

    plain_good : (ps : List Text) → positionals (word ∷ ws) ≡ Some ps → length vs + length ps ≤ 3 → Reads vs (word ∷ ws) ps
    plain_good ps is few_more =
        let (qs, found, ps_are) = mapped_some word (positionals ws) ps (sym (plain_positionals word ws dashes flag) ∙ is) in
        let size : length ps ≡ suc (length qs) = ap length ps_are in
        let lt : length vs < 3 = omega (arith, size, few_more) in
        let one = one_more lt in
        let (none, b, end) = (rest lt).0 qs found (omega (arith, size, few_more, length-append vs (word ∷ []))) in
        (one.0 ∙ none, b, one.1 ∙ end ∙ ap (stand b) (append_assoc vs (word ∷ []) qs ∙ ap (λ l. vs ++ l) (sym ps_are)))

    plain_bad : ((ps : List Text) → positionals (word ∷ ws) ≡ Some ps → 3 < length vs + length ps) → (length vs < 3) ⊎ (3 ≤ length vs) → Faults false vs (word ∷ ws) ≢ []
    plain_bad many (inl lt) none =
        (rest lt).1
        (λ qs found. omega (arith, length-append vs (word ∷ []), many (word ∷ qs) (plain_positionals word ws dashes flag ∙ ap (option_map (λ ps. word ∷ ps)) found)))
        (sym (one_more lt).0 ∙ none)
    plain_bad many (inr ge) none =
        let at = stand_at false vs few in
        stops false vs word ws (turn_plain (stand false vs) word at.0 at.1 at.2 flag dashes ∙ stand_full false vs (omega arith)) none

  at_word : IsRun vs (word ∷ ws)
  at_word =
      elim (cases_Bool (bytes_eq word (45 ∷ 45 ∷ []))) [
        | inl dashes ↦ at_dashes dashes
        | inr plain ↦ elim (cases_Bool (is_flag word)) [
          | inl flag ↦ at_flag plain flag
          | inr none ↦ (plain_good plain none, λ many. plain_bad plain none many (cases_lt (length vs) 3))
        ]
      ]

run : (vs ws : List Text) → length vs ≤ 3 → AllUtf8 ws → IsRun vs ws
unfolding walk_fault
run vs [] few u = (
  λ ps is few_more. (refl, false, ap (stand false) (sym (append-nil vs) ∙ ap (λ l. vs ++ l) (some_same [] ps is))),
  λ many. absurd (omega (arith, many [] refl)),
)
run vs (word ∷ ws) few u =
    at_word vs word ws few u.0 (λ lt. run (vs ++ word ∷ []) ws (omega (arith, length-append vs (word ∷ []))) u.1)

-- ---- the parse

or_else-nil : (k l : Kinds) → or_else k l ≡ [] → k ≡ []
or_else-nil [] l e = refl
or_else-nil (x ∷ k) l e = cc e

-- a parse fails where the walk does
walk_first : (name : Text) (ws : List Text) → fault_of opa_app (name ∷ ws) ≡ [] → Faults false [] ws ≡ []
unfolding opa_app shape3 stand trail
walk_first name ws e = or_else-nil (Faults false [] ws) _ e

matches_are : (name : Text) (ws : List Text) → matches_of opa_app (name ∷ ws) ≡ finished shape3.rules (End false [] ws).held
unfolding opa_app shape3 stand trail
matches_are name ws = refl

-- the faults of a parse whose walk ends at w after the faults k
abbrev whole : Kinds → Walk → Kinds
whole k w =
    or_else k (or_else (entered_fault (built opa_app) w.stopped)
    (or_else (settle_fault shape3.rules shape3.args_override_self w.held)
    (or_else (defaults_fault (settled shape3.rules w.held).rows shape3.rules) (check_fault shape3 (finished shape3.rules w.held) (is_some (entered (built opa_app) w.stopped))))))

faults_are : (name : Text) (ws : List Text) → fault_of opa_app (name ∷ ws) ≡ whole (Faults false [] ws) (End false [] ws)
unfolding opa_app shape3 stand trail
faults_are name ws = refl

whole-end : (w : Walk) → w.stopped ≡ None → whole [] w ≡ end_fault w
whole-end w goes = rw goes refl

no_fault : (name : Text) (ws ps : List Text) (b : Bool) → length ps ≤ 3 → Faults false [] ws ≡ [] → End false [] ws ≡ stand b ps → fault_of opa_app (name ∷ ws) ≡ []
no_fault name ws ps b few none end =
    faults_are name ws ∙ ap₂ whole none end ∙ whole-end (stand b ps) (stand_at b ps few).2 ∙ (stand_end b ps few).0

-- the matches have these three values
abbrev pub HasValues : List Row → List Text → Type 0
HasValues rows ps =
    (first_of (codes "mode") rows ≡ slice_get ps 0) × (first_of (codes "rulebase") rows ≡ slice_get ps 1) × (first_of (codes "name") rows ≡ slice_get ps 2)

values_of : (name : Text) (ws ps : List Text) (b : Bool) → length ps ≤ 3 → End false [] ws ≡ stand b ps → HasValues (matches_of opa_app (name ∷ ws)) ps
values_of name ws ps b few end =
    let e = matches_are name ws ∙ ap (λ (w : Walk). finished shape3.rules w.held) end in
    let at = stand_end b ps few in
    (ap (first_of (codes "mode")) e ∙ at.1, ap (first_of (codes "rulebase")) e ∙ at.2, ap (first_of (codes "name")) e ∙ at.3)

-- three positionals or fewer are read, with their values
pub taken : (name : Text) (ws ps : List Text) → AllUtf8 ws → positionals ws ≡ Some ps → length ps ≤ 3 → (fault_of opa_app (name ∷ ws) ≡ []) × HasValues (matches_of opa_app (name ∷ ws)) ps
taken name ws ps u is few =
    let (none, b, end) = (run [] ws (omega arith) u).0 ps is (omega (arith, few)) in
    (no_fault name ws ps b few none end, values_of name ws ps b few end)

-- and nothing else is
pub only : (name : Text) (ws : List Text) → AllUtf8 ws → fault_of opa_app (name ∷ ws) ≡ [] → (ps : List Text) × (positionals ws ≡ Some ps) × (length ps ≤ 3)
only name ws u none = by (positionals ws) refl
  where
    by : (o : Option (List Text)) → positionals ws ≡ o → (ps : List Text) × (positionals ws ≡ Some ps) × (length ps ≤ 3)
    by None e = absurd ((run [] ws (omega arith) u).1 (λ ps is. cc (sym e ∙ is)) (walk_first name ws none))
    by (Some ps) e = elim (cases_lt 3 (length ps)) [
      | inl many ↦ absurd ((run [] ws (omega arith) u).1 (λ qs is. subst (λ (l : List Text). 3 < 0 + length l) (some_same ps qs (sym e ∙ is)) (omega (arith, many))) (walk_first name ws none))
      | inr few ↦ (ps, e, few)
    ]

pub plain_app : is_simple opa_app ≡ true
unfolding clap_on_literals opa_app
plain_app = refl

all_text : (zs : List (String Global)) → AllUtf8 (map string_bytes zs)
all_text [] = tt
all_text (z ∷ zs) = (IsUtf8-string_bytes z, all_text zs)

-- what was read without a fault
pub ok_words : (zs : List (String Global)) → 0 < length zs → fault_of opa_app (map string_bytes zs) ≡ []
    → (ps : List Text) × (positionals (drop 1 (map string_bytes zs)) ≡ Some ps) × (length ps ≤ 3) × HasValues (matches_of opa_app (map string_bytes zs)) ps
ok_words [] some none = absurd (omega arith)
ok_words (z ∷ zs) some none =
    let (ps, is, few) = only (string_bytes z) (map string_bytes zs) (all_text zs) none in
    (ps, is, few, (taken (string_bytes z) (map string_bytes zs) ps (all_text zs) is few).1)

-- and what is refused
pub bad_words : (zs : List (String Global)) → 0 < length zs → fault_of opa_app (map string_bytes zs) ≢ [] → (ps : List Text) → positionals (drop 1 (map string_bytes zs)) ≡ Some ps → 3 < length ps
bad_words [] some fault ps is = absurd (omega arith)
bad_words (z ∷ zs) some fault ps is =
    elim (cases_lt 3 (length ps)) [
      | inl many ↦ many
      | inr few ↦ absurd (fault (taken (string_bytes z) (map string_bytes zs) ps (all_text zs) is few).0)
    ]
