-- Of all that is printed, the lines that begin with a name are what its case prints alone.
use Rattle.std.proofs.Common.{◌≡◌, inl, inr, ℕ, Bool, true, false, cond, List, [], ◌∷◌, ◌++◌, map, append_assoc, append-nil, refl, sym, ap, ◌∙◌, subst, arith}
use Rattle.std.specs.Prelude.{◌==◌, ◌||◌, Option, codes, flat_map, if◌then◌else◌}
use Rattle.std.specs.List.{concat, list_any}
use Rattle.std.specs.FinMap as cases
use Rattle.std.proofs.lemmas.List.Elements.{All-cons, All-append, All-head, All-push, All-tail}
use Rattle.opa_io.proofs.Characters.{quote_is}
use Rattle.opa_talk.specs.Lines.{lines, IsPart, EndsLine}
use Rattle.opa_talk.proofs.LinesLaws.{lines_first, part_none}
use Rattle.opa_tree.specs.declared.rulebase.Rulebase.{Rulebase}
use Rattle.opa_words.specs.Characters.{is_control}
use Rattle.opa_words.specs.Kinds.{doubled, quoted}
use Rattle.opa_script.specs.Lines.{is_idle}
use Rattle.opa_reply.specs.Lines.{text_of}
use Rattle.opa_cases.specs.declared.kept.OpenCase.{OpenCase}
use Rattle.opa_cases.specs.Scripts.{IsScript, line, opened}
use Rattle.opa_cases.specs.Caseload.{Held, IsNamed, RepliesLine, RepliesNamed, behind_name, front_of}
use Rattle.opa_cases.specs.Laws.{ArePrinted, Picks, behind, said_to}
use Rattle.opa_cases.proofs.Alone.{alone}
use Rattle.opa_cases.proofs.EndLaws.{reply_ends}

-- ---- whole lines

abbrev IsWhole : List ℕ → Type 0
IsWhole l = (part : List ℕ) × IsPart part × (l ≡ part ++ 10 ∷ [])

abbrev AreWhole : List (List ℕ) → Type 0
AreWhole [] = Unit {0}
AreWhole (l ∷ ls) = IsWhole l × AreWhole ls

-- a text of whole lines
pub record OfLines (text : List ℕ) : Type 0 where
  pub all : List (List ℕ)
  pub whole : AreWhole all
  pub joined : text ≡ concat all

lines_joined : (ls : List (List ℕ)) (rest : List ℕ) → AreWhole ls → lines (concat ls ++ rest) ≡ ls ++ lines rest
lines_joined [] rest h = refl
lines_joined (l ∷ ls) rest (w, more) =
    ap lines (append_assoc l (concat ls) rest ∙ ap (λ t. t ++ (concat ls ++ rest)) w.2 ∙ append_assoc w.0 (10 ∷ []) (concat ls ++ rest))
    ∙ lines_first w.0 (concat ls ++ rest) w.1
    ∙ ap (λ t. (w.0 ++ 10 ∷ []) ∷ t) (lines_joined ls rest more)
    ∙ ap (λ t. t ∷ (ls ++ lines rest)) (sym w.2)

lines_of_text : (text rest : List ℕ) (h : OfLines text) → lines (text ++ rest) ≡ h.all ++ lines rest
lines_of_text text rest h = ap (λ t. lines (t ++ rest)) h.joined ∙ lines_joined h.all rest h.whole

lines_all : (text : List ℕ) (h : OfLines text) → lines text ≡ h.all
lines_all text h = ap lines (sym (append-nil text)) ∙ lines_of_text text [] h ∙ append-nil h.all

-- a byte before a text that a line feed ends
put_byte : (b : ℕ) (test : Bool) → (b == 10) ≡ test → (front : List ℕ) → OfLines (front ++ 10 ∷ []) → OfLines (b ∷ (front ++ 10 ∷ []))
put_byte b true e front h =
    let ten : b ≡ 10 = grind (arith, e) in
    record { all = (10 ∷ []) ∷ h.all; whole = (([], part_none, refl), h.whole); joined = ap (λ x. x ∷ (front ++ 10 ∷ [])) ten ∙ ap (λ t. 10 ∷ t) h.joined }
put_byte b false e front h = go h.all h.whole h.joined
  where
    nothing : (xs : List ℕ) → xs ++ 10 ∷ [] ≡ [] → ⊥
    nothing [] q = cc q
    nothing (x ∷ xs) q = cc q

    go : (ls : List (List ℕ)) → AreWhole ls → front ++ 10 ∷ [] ≡ concat ls → OfLines (b ∷ (front ++ 10 ∷ []))
    go [] w q = absurd (nothing front q)
    go (l ∷ ls) (w, more) q = record {
      all = (b ∷ l) ∷ ls;
      whole = ((b ∷ w.0, All-cons (λ x. (x == 10) ≡ false) b w.0 e w.1, ap (λ t. b ∷ t) w.2), more);
      joined = ap (λ t. b ∷ t) q;
    }

fed_lines : (front : List ℕ) → OfLines (front ++ 10 ∷ [])
fed_lines [] = record { all = (10 ∷ []) ∷ []; whole = (([], part_none, refl), tt); joined = refl }
fed_lines (b ∷ front) = put_byte b (b == 10) refl front (fed_lines front)

of_lines : (text : List ℕ) → EndsLine text → OfLines text
of_lines text (inl none) = record { all = []; whole = tt; joined = none }
of_lines text (inr h) = subst OfLines (sym h.1) (fed_lines h.0)

-- ---- behind a front

module _ (front : List ℕ) (part : IsPart front) where
  abbrev fronted : List (List ℕ) → List (List ℕ)
  fronted ls = map (λ l. front ++ l) ls

  fronted_whole : (ls : List (List ℕ)) → AreWhole ls → AreWhole (fronted ls)
  fronted_whole [] h = tt
  fronted_whole (l ∷ ls) (w, more) =
      ((front ++ w.0, All-append (λ x. (x == 10) ≡ false) front w.0 part w.1, ap (λ t. front ++ t) w.2 ∙ sym (append_assoc front w.0 (10 ∷ []))), fronted_whole ls more)

  fronted_joined : (ls : List (List ℕ)) → flat_map (λ l. front ++ l) ls ≡ concat (fronted ls)
  fronted_joined [] = refl
  fronted_joined (l ∷ ls) = ap (λ t. (front ++ l) ++ t) (fronted_joined ls)

-- ---- names

no_feed : (name : List ℕ) → list_any is_control name ≡ false → IsPart name
no_feed [] h = part_none
no_feed (c ∷ name) h = All-cons (λ x. (x == 10) ≡ false) c name (not_ten c (left (is_control c) (list_any is_control name) h)) (no_feed name (right (is_control c) (list_any is_control name) h))
  where
    left : (a b : Bool) → (a || b) ≡ false → a ≡ false
    left true b e = absurd (cc e)
    left false b e = refl

    right : (a b : Bool) → (a || b) ≡ false → b ≡ false
    right true b e = absurd (cc e)
    right false b e = e

    not_ten : (c : ℕ) → is_control c ≡ false → (c == 10) ≡ false
    not_ten c e = grind (arith, e)

twice_part : (t : Bool) (c : ℕ) (rest : List ℕ) → (c == 10) ≡ false → IsPart rest → IsPart (cond t (34 ∷ 34 ∷ rest) (c ∷ rest))
twice_part true c rest e p = All-cons (λ x. (x == 10) ≡ false) 34 (34 ∷ rest) refl (All-cons (λ x. (x == 10) ≡ false) 34 rest refl p)
twice_part false c rest e p = All-cons (λ x. (x == 10) ≡ false) c rest e p

doubled_part : (name : List ℕ) → IsPart name → IsPart (doubled name)
doubled_part [] p = p
doubled_part (c ∷ name) p =
    twice_part (c == 34) c (doubled name) (All-head (λ x. (x == 10) ≡ false) c name p) (doubled_part name (All-tail (λ x. (x == 10) ≡ false) c name p))

front_part : (name : List ℕ) → IsPart name → IsPart (front_of name)
front_part name p =
    let is : ℕ → Type 0 = λ x. (x == 10) ≡ false in
    All-push is (quoted name) 32 (All-cons is 34 (doubled name ++ 34 ∷ []) refl (All-push is (doubled name) 34 (doubled_part name p) refl)) refl

first_of : (a b : ℕ) (xs ys : List ℕ) → a ∷ xs ≡ b ∷ ys → a ≡ b
first_of a b xs ys e = cc e

rest_of : (a b : ℕ) (xs ys : List ℕ) → a ∷ xs ≡ b ∷ ys → xs ≡ ys
rest_of a b xs ys e = cc e

blank_no_quote : (a b : ℕ) → a ≡ 32 → b ≡ 34 → a ≡ b → ⊥
blank_no_quote a b p q e = omega (arith, p, q, e)

no_quote : (c : ℕ) → (c == 34) ≡ false → c ≡ 34 → ⊥
no_quote c e d = grind (arith, e, d)

-- what stands behind a name: its last quote and a blank
abbrev closed : List ℕ → List ℕ
closed r = 34 ∷ 32 ∷ r

abbrev inner : Bool → ℕ → List ℕ → List ℕ
inner t c more = cond t (34 ∷ 34 ∷ more) (c ∷ more)

ends_here : (c : ℕ) (m r s : List ℕ) (t : Bool) → (c == 34) ≡ t → closed r ≡ inner t c (doubled m) ++ closed s → ⊥
ends_here c m r s true q h =
    let k : 32 ∷ r ≡ 34 ∷ (doubled m ++ closed s) = rest_of 34 34 (32 ∷ r) (34 ∷ (doubled m ++ closed s)) h in
    blank_no_quote 32 34 refl refl (first_of 32 34 r (doubled m ++ closed s) k)
ends_here c m r s false q h = no_quote c q (sym (first_of 34 c (32 ∷ r) (doubled m ++ closed s) h))

both_go : (c d : ℕ) (n m r s : List ℕ) (t u : Bool) → (c == 34) ≡ t → (d == 34) ≡ u → inner t c (doubled n) ++ closed r ≡ inner u d (doubled m) ++ closed s → (c ≡ d) × (doubled n ++ closed r ≡ doubled m ++ closed s)
both_go c d n m r s true true p q h = (
  quote_is c p ∙ sym (quote_is d q),
  rest_of 34 34 (doubled n ++ closed r) (doubled m ++ closed s) (rest_of 34 34 (34 ∷ (doubled n ++ closed r)) (34 ∷ (doubled m ++ closed s)) h),
)
both_go c d n m r s true false p q h = absurd (no_quote d q (sym (first_of 34 d (34 ∷ (doubled n ++ closed r)) (doubled m ++ closed s) h)))
both_go c d n m r s false true p q h = absurd (no_quote c p (first_of c 34 (doubled n ++ closed r) (34 ∷ (doubled m ++ closed s)) h))
both_go c d n m r s false false p q h = (first_of c d (doubled n ++ closed r) (doubled m ++ closed s) h, rest_of c d (doubled n ++ closed r) (doubled m ++ closed s) h)

-- names are told apart by what stands behind their last quote
first_alike : (n m r s : List ℕ) → doubled n ++ closed r ≡ doubled m ++ closed s → n ≡ m
first_alike [] [] r s e = refl
first_alike [] (c ∷ m) r s e = absurd (ends_here c m r s (c == 34) refl e)
first_alike (c ∷ n) [] r s e = absurd (ends_here c n s r (c == 34) refl (sym e))
first_alike (c ∷ n) (d ∷ m) r s e =
    let k = both_go c d n m r s (c == 34) (d == 34) refl refl e in
    ap (λ x. x ∷ n) k.0 ∙ ap (λ x. d ∷ x) (first_alike n m r s k.1)

spread : (name rest : List ℕ) → front_of name ++ rest ≡ 34 ∷ (doubled name ++ 34 ∷ 32 ∷ rest)
spread name rest = append_assoc (quoted name) (32 ∷ []) rest ∙ ap (λ t. 34 ∷ t) (append_assoc (doubled name) (34 ∷ []) (32 ∷ rest))

fronts_apart : (n m r s : List ℕ) → front_of n ++ r ≡ front_of m ++ s → n ≡ m
fronts_apart n m r s e =
    let k : 34 ∷ (doubled n ++ 34 ∷ 32 ∷ r) ≡ 34 ∷ (doubled m ++ 34 ∷ 32 ∷ s) = sym (spread n r) ∙ e ∙ spread m s in
    first_alike n m r s (rest_of 34 34 (doubled n ++ closed r) (doubled m ++ closed s) k)

-- ---- what follows a front

behind_own : (front rest : List ℕ) → behind front (front ++ rest) ≡ rest
behind_own [] rest = refl
behind_own (f ∷ front) rest = ap (λ t. if t then behind front (front ++ rest) else []) (let e : (f == f) ≡ true = grind arith in e) ∙ behind_own front rest

behind_none : (front bytes : List ℕ) → ((rest : List ℕ) → bytes ≡ front ++ rest → ⊥) → behind front bytes ≡ []
behind_none [] bytes never = absurd (never bytes refl)
behind_none (f ∷ front) [] never = refl
behind_none (f ∷ front) (b ∷ bytes) never = go (f == b) refl (λ same. behind_none front bytes (λ rest q. never rest (ap (λ x. x ∷ bytes) same ∙ ap (λ x. f ∷ x) q)))
  where
    go : (t : Bool) → (f == b) ≡ t → (b ≡ f → behind front bytes ≡ []) → (if t then behind front bytes else []) ≡ []
    go true e more = more (grind (arith, e))
    go false e more = refl

flat-append : (f : List ℕ → List ℕ) (xs ys : List (List ℕ)) → flat_map f (xs ++ ys) ≡ flat_map f xs ++ flat_map f ys
flat-append f [] ys = refl
flat-append f (x ∷ xs) ys = ap (λ t. f x ++ t) (flat-append f xs ys) ∙ sym (append_assoc (f x) (flat_map f xs) (flat_map f ys))

module _ (n : List ℕ) where
  said_to-append : (text rest : List ℕ) → OfLines text → said_to n (text ++ rest) ≡ said_to n text ++ said_to n rest
  said_to-append text rest h =
      ap (flat_map (behind (front_of n))) (lines_of_text text rest h) ∙ flat-append (behind (front_of n)) h.all (lines rest)
      ∙ ap (λ ls. flat_map (behind (front_of n)) ls ++ said_to n rest) (sym (lines_all text h))

  own_lines : (ls : List (List ℕ)) → flat_map (behind (front_of n)) (map (λ l. front_of n ++ l) ls) ≡ concat ls
  own_lines [] = refl
  own_lines (l ∷ ls) = ap (λ t. t ++ flat_map (behind (front_of n)) (map (λ x. front_of n ++ x) ls)) (behind_own (front_of n) l) ∙ ap (λ t. l ++ t) (own_lines ls)

  other_lines : (m : List ℕ) → (m ≡ n → ⊥) → (ls : List (List ℕ)) → flat_map (behind (front_of n)) (map (λ l. front_of m ++ l) ls) ≡ []
  other_lines m other [] = refl
  other_lines m other (l ∷ ls) =
      ap (λ t. t ++ flat_map (behind (front_of n)) (map (λ x. front_of m ++ x) ls)) (behind_none (front_of n) (front_of m ++ l) (λ rest e. other (fronts_apart m n l rest e))) ∙ other_lines m other ls

-- a text behind a name
module _ (m said : List ℕ) (part : IsPart m) (ends : EndsLine said) where
  of_said : OfLines said
  of_said = of_lines said ends

  behind_is : behind_name m said ≡ concat (map (λ l. front_of m ++ l) (of_said.all))
  behind_is = ap (flat_map (λ l. front_of m ++ l)) (lines_all said of_said) ∙ fronted_joined (front_of m) (front_part m part) of_said.all

  of_behind : OfLines (behind_name m said)
  of_behind = record { all = map (λ l. front_of m ++ l) of_said.all; whole = fronted_whole (front_of m) (front_part m part) of_said.all of_said.whole; joined = behind_is }

  heard_own : said_to m (behind_name m said) ≡ said
  unfolding of_behind
  heard_own = ap (flat_map (behind (front_of m))) (lines_all (behind_name m said) of_behind) ∙ own_lines m of_said.all ∙ sym of_said.joined

  heard_other : (n : List ℕ) → (m ≡ n → ⊥) → said_to n (behind_name m said) ≡ []
  unfolding of_behind
  heard_other n other = ap (flat_map (behind (front_of n))) (lines_all (behind_name m said) of_behind) ∙ other_lines n m other of_said.all

-- ---- lines of a caseload

-- it is of whole lines, and none of them is of the name
pub record IsSilent (n text : List ℕ) : Type 0 where
  pub lines_are : OfLines text
  pub silent : said_to n text ≡ []

silent_as : (n text other : List ℕ) → text ≡ other → IsSilent n other → IsSilent n text
silent_as n text other e h = subst (IsSilent n) (sym e) h

idle_or : (n : List ℕ) (b : Bool) → IsSilent n (if b then [] else line (codes "refused: line"))
idle_or n true = record { lines_are = record { all = []; whole = tt; joined = refl }; silent = refl }
idle_or n false = record { lines_are = fed_lines (codes "refused: line"); silent = refl }

behind_silent : (n m said : List ℕ) → IsPart m → EndsLine said → (m ≡ n → ⊥) → IsSilent n (behind_name m said)
behind_silent n m said part ends other = record { lines_are = of_behind m said part ends; silent = heard_other m said part ends n other }

named_part : (read name rest : List ℕ) → IsNamed read name rest → IsPart name
named_part read name rest h = no_feed name h.begins.front.clean

named_silent : (n m rest text : List ℕ) (x y : Held) → IsPart m → RepliesNamed x m rest text y → (m ≡ n → ⊥) → IsSilent n text
named_silent n m rest text x y part (inl h) other = silent_as n text _ h.1 (behind_silent n m (line (codes "refused: cases")) part (inr (codes "refused: cases", refl)) other)
named_silent n m rest text x y part (inr h) other = silent_as n text _ h.text_is (behind_silent n m h.said part (reply_ends x.rules _ rest h.said h.next h.replies) other)

others_silent : (n read text : List ℕ) (x y : Held) → RepliesLine x read text y → ((rest : List ℕ) → IsNamed read n rest → ⊥) → IsSilent n text
others_silent n read text x y (inl h) unnamed = silent_as n text _ h.1.0 (idle_or n (is_idle (text_of read)))
others_silent n read text x y (inr h) unnamed = named_silent n h.0 h.1 text x y (named_part read h.0 h.1 h.2) h.3 (λ e. unnamed h.1 (subst (λ k. IsNamed read k h.1) e h.2))

named_lines : (m rest text : List ℕ) (x y : Held) → IsPart m → RepliesNamed x m rest text y → OfLines text
named_lines m rest text x y part (inl h) = subst OfLines (sym h.1) (of_behind m (line (codes "refused: cases")) part (inr (codes "refused: cases", refl)))
named_lines m rest text x y part (inr h) = subst OfLines (sym h.text_is) (of_behind m h.said part (reply_ends x.rules _ rest h.said h.next h.replies))

idle_lines : (b : Bool) → OfLines (if b then [] else line (codes "refused: line"))
idle_lines true = record { all = []; whole = tt; joined = refl }
idle_lines false = fed_lines (codes "refused: line")

printed_lines : (read text : List ℕ) (x y : Held) → RepliesLine x read text y → OfLines text
printed_lines read text x y (inl h) = subst OfLines (sym h.1.0) (idle_lines (is_idle (text_of read)))
printed_lines read text x y (inr h) = named_lines h.0 h.1 text x y (named_part read h.0 h.1 h.2) h.3

-- ---- the lines of a name among all

abbrev AllEnd : List (List ℕ) → Type 0
AllEnd [] = Unit {0}
AllEnd (p ∷ ps) = EndsLine p × AllEnd ps

script_ends : (r : Rulebase) (o end : Option OpenCase) (rests parts : List (List ℕ)) → IsScript r o rests parts end → AllEnd parts
script_ends r o end [] parts h = subst AllEnd (sym h.0) tt
script_ends r o end (rest ∷ more) parts (text, next, replies, (others, script, e)) = subst AllEnd (sym e) (reply_ends r (opened o) rest text next replies, script_ends r next end more others script)

heard_parts : (n : List ℕ) → IsPart n → (parts : List (List ℕ)) → AllEnd parts → said_to n (concat (map (behind_name n) parts)) ≡ concat parts
heard_parts n part [] h = refl
heard_parts n part (p ∷ ps) (e, more) =
    said_to-append n (behind_name n p) (concat (map (behind_name n) ps)) (of_behind n p part e)
    ∙ ap (λ t. t ++ said_to n (concat (map (behind_name n) ps))) (heard_own n p part e)
    ∙ ap (λ t. p ++ t) (heard_parts n part ps more)

module _ (n : List ℕ) where
  picked_heard : {reads texts rests picked : List (List ℕ)} → Picks n reads texts rests picked → (x y : Held) → ArePrinted x reads texts y → said_to n (concat texts) ≡ said_to n (concat picked)
  picked_heard Picks.none x y h = refl
  picked_heard (Picks.other {reads = reads} {texts = texts} read text unnamed more) x y (t, next, printed_line, (others, printed, e)) =
      let same : t ≡ text = (let q : text ≡ t = cc e in sym q) in
      let after : others ≡ texts = (let q : texts ≡ others = cc e in sym q) in
      let quiet = others_silent n read text x next (subst (λ s. RepliesLine x read s next) same printed_line) unnamed in
      said_to-append n text (concat texts) quiet.lines_are ∙ ap (λ s. s ++ said_to n (concat texts)) quiet.silent ∙ picked_heard more next y (subst (λ ts. ArePrinted next reads ts y) after printed)
  picked_heard (Picks.this {reads = reads} {texts = texts} {picked = picked} read text rest named some more) x y (t, next, printed_line, (others, printed, e)) =
      let same : t ≡ text = (let q : text ≡ t = cc e in sym q) in
      let after : others ≡ texts = (let q : texts ≡ others = cc e in sym q) in
      let all = printed_lines read text x next (subst (λ s. RepliesLine x read s next) same printed_line) in
      said_to-append n text (concat texts) all
      ∙ ap (λ s. said_to n text ++ s) (picked_heard more next y (subst (λ ts. ArePrinted next reads ts y) after printed))
      ∙ sym (said_to-append n text (concat picked) all)

pub heard : (x y : Held) (name : List ℕ) (reads texts rests picked : List (List ℕ)) → IsPart name → ArePrinted x reads texts y → Picks name reads texts rests picked
    → (parts : List (List ℕ)) × IsScript x.rules (cases.get x.open_cases name) rests parts (cases.get y.open_cases name) × (said_to name (concat texts) ≡ concat parts)
heard x y name reads texts rests picked part printed picks =
    let by_line = alone x y name reads texts rests picked printed picks in (
      by_line.0,
      by_line.1,
      picked_heard name picks x y printed
          ∙ ap (λ ps. said_to name (concat ps)) by_line.2
          ∙ heard_parts name part by_line.0 (script_ends x.rules _ _ rests by_line.0 by_line.1),
    )
