-- Names one after another.
use Rattle.std.proofs.Common.{◌≡◌, ◌<◌, ℕ, List, [], ◌∷◌, ◌++◌, length, true, false, refl, sym, ap, subst, ◌∙◌, arith, append_assoc, append-nil}
use Rattle.std.specs.Prelude.{codes, Option, Some, None}
use Rattle.opa_words.specs.declared.kinds.TokenKind.TheVariants as kind
use Rattle.opa_words.specs.Kinds.{quoted}
use Rattle.opa_words.proofs.QuoteLaws.{quoted_tells_apart}
use Rattle.opa_words.specs.Pieces.{Piece, is_nothing, word, text}
use Rattle.opa_text.specs.Spelled.{SpellsNext, SpellsMore, SpellsNames}
use Rattle.opa_text.specs.Readers.{is_only, is_end, past_word}
use Rattle.opa_text.proofs.Readings.{one_next, word_here}
use Rattle.opa_text.proofs.ChangeLaws.{nothing_shorter}

pub next_is_shorter : (n : List ℕ) (ps rest : List Piece) → SpellsNext n ps rest → length rest < length ps
next_is_shorter n ps rest e = omega (arith, ap length e)

-- the names so far, and the tokens that are left
pub record Named (first : List ℕ) (start : List Piece) (names : List (List ℕ)) (rest : List Piece) : Type 0 where
  pub done : List (List ℕ)
  pub items : names ≡ first ∷ done
  pub goes : (more : List (List ℕ)) → SpellsMore more rest → SpellsMore (done ++ more) start
  pub comes : (all : List (List ℕ)) → SpellsMore all start → (more : List (List ℕ)) × (all ≡ done ++ more) × SpellsMore more rest

pub named_start : (first : List ℕ) (start : List Piece) (names : List (List ℕ)) → names ≡ first ∷ [] → Named first start names start
named_start first start names e = record { done = []; items = e; goes = λ more h. h; comes = λ all h. (all, refl, h) }

pub named_more : (first : List ℕ) (start : List Piece) (names now : List (List ℕ)) (rest after : List Piece) (n : List ℕ)
    → Named first start names rest → SpellsNext n rest after → now ≡ names ++ n ∷ [] → Named first start now after
named_more first start names now rest after n r l e = record {
  done = r.done ++ n ∷ [];
  items = e ∙ ap (λ xs. xs ++ n ∷ []) r.items;
  goes = λ more h. subst (λ xs. SpellsMore xs start) (sym (append_assoc r.done (n ∷ []) more)) (r.goes (n ∷ more) (after, l, h));
  comes = λ all h. let x = r.comes all h in next x.0 all x.1 x.2;
}
  where
    next : (more all : List (List ℕ)) → all ≡ r.done ++ more → SpellsMore more rest → (later : List (List ℕ)) × (all ≡ (r.done ++ n ∷ []) ++ later) × SpellsMore later after
    next [] all f h = absurd (nothing_shorter rest after (next_is_shorter n rest after l) h)
    next (q ∷ qs) all f h =
        let same = one_next rest q n h.0 after h.1 l in
        (qs, f ∙ ap (λ x. r.done ++ x ∷ qs) same.0 ∙ sym (append_assoc r.done (n ∷ []) qs), subst (SpellsMore qs) same.1 h.2)

pub named_none : (first : List ℕ) (start : List Piece) (names : List (List ℕ)) (rest : List Piece)
    → Named first start names rest → (rest ≡ [] → ⊥) → ((n : List ℕ) (after : List Piece) → SpellsNext n rest after → ⊥) → (ns : List (List ℕ)) → SpellsMore ns start → ⊥
named_none first start names rest r n never ns h = let x = r.comes ns h in next x.0 x.2
  where
    next : (more : List (List ℕ)) → SpellsMore more rest → ⊥
    next [] k = n k
    next (q ∷ qs) k = never q k.0 k.1

pub named_end : (first : List ℕ) (start : List Piece) (names : List (List ℕ)) (rest : List Piece)
    → Named first start names rest → rest ≡ [] → (ns : List (List ℕ)) × (names ≡ first ∷ ns) × SpellsMore ns start
named_end first start names rest r e = (r.done, r.items, subst (λ xs. SpellsMore xs start) (append-nil r.done) (r.goes [] e))

-- ---- all names

pub empty_is : (ps : List Piece) → is_nothing ps ≡ true → ps ≡ []
empty_is [] h = refl
empty_is (p ∷ ps) h = absurd (cc h)

pub only_none : (ps : List Piece) → is_only (codes "none") ps ≡ true → SpellsNames [] ps
only_none ps h = go (past_word (codes "none") ps) refl h
  where
    go : (o : Option (List Piece)) → past_word (codes "none") ps ≡ o → is_end o ≡ true → ps ≡ word (codes "none") ∷ []
    go None e k = absurd (cc k)
    go (Some rest) e k = word_here (codes "none") ps rest e ∙ ap (λ x. word (codes "none") ∷ x) (empty_is rest k)

none_only : (ps : List Piece) → ps ≡ word (codes "none") ∷ [] → is_only (codes "none") ps ≡ true
none_only ps e = ap (is_only (codes "none")) e

pub names_none : (ps : List Piece) → is_only (codes "none") ps ≡ false → ((n : List ℕ) (rest : List Piece) → ps ≡ text n ∷ rest → ⊥) → (ns : List (List ℕ)) → SpellsNames ns ps → ⊥
names_none ps h n [] k = absurd (let e : true ≡ false = sym (none_only ps k) ∙ h in cc e)
names_none ps h n (m ∷ ns) k = n m k.0 k.1

pub names_no_more : (ps rest : List Piece) (n : List ℕ) → is_only (codes "none") ps ≡ false → ps ≡ text n ∷ rest → ((ns : List (List ℕ)) → SpellsMore ns rest → ⊥) → (ns : List (List ℕ)) → SpellsNames ns ps → ⊥
names_no_more ps rest n h e never [] k = absurd (let f : true ≡ false = sym (none_only ps k) ∙ h in cc f)
names_no_more ps rest n h e never (m ∷ ns) k = never ns (subst (SpellsMore ns) (let f : text m ∷ k.0 ≡ text n ∷ rest = sym k.1 ∙ e in let g : k.0 ≡ rest = cc f in g) k.2)

pub names_are : (ps rest : List Piece) (n : List ℕ) (v : List (List ℕ)) → ps ≡ text n ∷ rest → (ns : List (List ℕ)) × (v ≡ n ∷ ns) × SpellsMore ns rest → SpellsNames v ps
names_are ps rest n v e h = subst (λ xs. SpellsNames xs ps) (sym h.1) (rest, e, h.2)

more_one : (ns ms : List (List ℕ)) (ps : List Piece) → SpellsMore ns ps → SpellsMore ms ps → ns ≡ ms
more_one [] [] ps h k = refl
more_one [] (m ∷ ms) ps h k = absurd (nothing_shorter ps k.0 (next_is_shorter m ps k.0 k.1) h)
more_one (n ∷ ns) [] ps h k = absurd (nothing_shorter ps h.0 (next_is_shorter n ps h.0 h.1) k)
more_one (n ∷ ns) (m ∷ ms) ps h k =
    let same = one_next ps n m h.0 k.0 h.1 k.1 in
    ap (λ x. x ∷ ns) same.0 ∙ ap (λ xs. m ∷ xs) (more_one ns ms k.0 (subst (SpellsMore ns) same.1 h.2) k.2)

other_kind : (n : List ℕ) (rest : List Piece) → word (codes "none") ∷ [] ≡ text n ∷ rest → ⊥
other_kind n rest e =
    let p : word (codes "none") ≡ text n = cc e in
    let k : kind.Word ≡ kind.Text = ap (λ (x : Piece). x.kind) p in
    absurd (cc k)

pub names_one : (ns ms : List (List ℕ)) (ps : List Piece) → SpellsNames ns ps → SpellsNames ms ps → ns ≡ ms
names_one [] [] ps h k = refl
names_one [] (m ∷ ms) ps h k = absurd (other_kind m k.0 (sym h ∙ k.1))
names_one (n ∷ ns) [] ps h k = absurd (other_kind n h.0 (sym k ∙ h.1))
names_one (n ∷ ns) (m ∷ ms) ps h k =
    let e : text n ∷ h.0 ≡ text m ∷ k.0 = sym h.1 ∙ k.1 in
    let t : text n ≡ text m = cc e in
    let f : quoted n ≡ quoted m = ap (λ (p : Piece). p.text) t in
    let g : h.0 ≡ k.0 = cc e in
    ap (λ x. x ∷ ns) (quoted_tells_apart n m f) ∙ ap (λ xs. m ∷ xs) (more_one ns ms k.0 (subst (SpellsMore ns) g h.2) k.2)
