-- Items that come one after another.
use Rattle.std.proofs.Common.{◌≡◌, ℕ, ◌+◌, ◌<◌, ◌^◌, Bool, true, List, [], ◌∷◌, ◌++◌, Some, length, take, get_or, refl, sym, ◌∙◌, ap, subst, arith, append_assoc}
use Rattle.std.specs.Prelude.{Result, Ok}
use Rattle.std.specs.Fn.{Shared}
use Rattle.std.proofs.lemmas.List.{map-append, length-map, length-append, length-take, take_more}
use denote.Ref.{Bor}
use Rattle.opa_date.specs.declared.TheConstants.{DAYS}
use Rattle.opa_value.specs.declared.value.Value.{Value}
use Rattle.opa_value.specs.declared.value.Value.TheVariants.{Unknown}
use Rattle.opa_line.specs.Lines.{at, value_or, StandsFor}
use Rattle.opa_line.specs.Pointwise.{EachDay, Joins, Maps}
use Rattle.opa_mean.specs.Meaning.{first_value, item}
use Rattle.opa_tree.specs.declared.kinds.Quant.{Quant}
use Rattle.opa_tree.specs.declared.kinds.Quant.TheVariants as quant
use Rattle.opa_window.specs.Days.{day_value}
use Rattle.opa_code.specs.OverLines.Additions.{Alike, Gathered, HasRoom, IsAdded, KeepsFirst}
use Rattle.opa_code.specs.OverLines.Lines.{values_at}
use Rattle.opa_code.specs.OverLines.Extremes.{AreBests, AreBothBests, bests_in, told_best}
use Rattle.opa_code.specs.OverLines.Sweeps.{AreBeside, is_best}
use Rattle.opa_code.specs.OverLines.Tallies.{IsTally, IsCounted, AreConstant, AreSmall, told, gather_of, is_most}
use Rattle.opa_code.specs.declared.over_lines.bests.Bests.{Bests}
use Rattle.opa_code.specs.declared.over_lines.gathering.Gathering.{Gathering}
use Rattle.opa_code.specs.declared.over_lines.items.Items.{Items}
use Rattle.opa_code.specs.declared.over_lines.tally.Tally.{Tally}
use Rattle.opa_code.proofs.over_lines.Besting.{bests_both, bests_alike, tally_bests, best_gathered}
use Rattle.opa_code.proofs.over_lines.Halving.{HaveBests, bests_at, some_same}
use Rattle.opa_code.proofs.over_lines.Likeness.{alike_is, alike_then, alike_both, alike_swap}
use Rattle.opa_code.proofs.over_lines.Tallying.{sums_small, told_is}

abbrev Lines : Type 0
Lines = List (List (ℕ × Value))

one_more : (lines : Lines) (line : List (ℕ × Value)) (d : ℕ) → values_at (lines ++ line ∷ []) d ≡ values_at lines d ++ day_value line d ∷ []
one_more lines line d = map-append (λ l. day_value l d) lines (line ∷ [])

no_more : {X : Type 0} (xs : List X) (x : X) → xs ++ x ∷ [] ≡ [] → ⊥
no_more [] x e = cc e
no_more (y ∷ xs) x e = cc e

pub item_one : (q : Quant) (v : Value) → item q (v ∷ []) ≡ v
item_one quant.SumIf v = refl
item_one _ v = refl

pub same_at : (line : List (ℕ × Value)) (f : ℕ → Value) → StandsFor DAYS f line → (d : ℕ) → d < DAYS → day_value line d ≡ f d
same_at line f h d lt = ap (value_or Unknown) (h d lt)

pub none_of : {X : Type 0} (xs : List X) → length xs ≡ 0 → xs ≡ []
none_of [] e = refl
none_of (x ∷ xs) e = absurd (omega (arith, e))

-- a line more whose value doesn't change
pub constants_more : (most : Bool) (lines : Lines) (i : ℕ) (line : List (ℕ × Value)) (v : Value) (old new : Tally) → i < length lines → line ≡ get_or lines i line → ((d : ℕ) → day_value line d ≡ v) → IsCounted most v old new
    → AreConstant most (take i lines) old → AreConstant most (take (i + 1) lines) new
constants_more most lines i line v old new lt at is counted h = record {
  tallied = subst (λ vs. IsTally most vs new) (sym (values 0)) (counted.tallied (values_at (take i lines) 0) h.tallied);
  constant = λ d. values d ∙ ap (λ vs. vs ++ v ∷ []) (h.constant d) ∙ sym (values 0);
}
  where
    more : take (i + 1) lines ≡ take i lines ++ line ∷ []
    more = take_more lines i line lt ∙ ap (λ l. take i lines ++ l ∷ []) (sym at)

    values : (d : ℕ) → values_at (take (i + 1) lines) d ≡ values_at (take i lines) d ++ v ∷ []
    values d = ap (λ ls. values_at ls d) more ∙ one_more (take i lines) line d ∙ ap (λ w. values_at (take i lines) d ++ w ∷ []) (is d)

-- what lines that don't change tell
pub constants_told : (how : Gathering) (lines : Lines) (t : Tally) (v : Value) (line : List (ℕ × Value)) → AreConstant (is_most how) lines t → v ≡ told how t (first_value (values_at lines 0)) → StandsFor DAYS (λ d. v) line → StandsFor DAYS (λ d. gather_of how (values_at lines d)) line
constants_told how lines t v line are is stands d lt = stands d lt ∙ ap Some (is ∙ told_is how (values_at lines 0) t are.tallied ∙ ap (gather_of how) (sym (are.constant d)))

pub taken_small : (most : Bool) (lines : Lines) (i : ℕ) (t : Tally) → length lines < 2 ^ 63 → IsTally most (values_at (take i lines) 0) t → AreSmall t.sums
taken_small most lines i t few h =
    let size : length (values_at (take i lines) 0) < 2 ^ 63 = let m = length-map (take i lines) (λ l. day_value l 0) in let k = length-take i lines in omega (arith, m, k, few) in
    sums_small (values_at (take i lines) 0) t.sums size h.sums

-- the first item stays the first
pub still_first : (value : ℕ → Value) (lines : Lines) → 0 < length lines → KeepsFirst value lines lines
still_first value [] some d vs lt e = absurd (omega (arith, some))
still_first value (l ∷ ls) some d [] lt e = absurd (cc e)
still_first value (l ∷ ls) some d (v ∷ vs) lt e = e

pub becomes_first : (value : ℕ → Value) (old new : Lines) (line : List (ℕ × Value)) → length old ≡ 0 → new ≡ old ++ line ∷ [] → ((d : ℕ) → d < DAYS → day_value line d ≡ value d) → KeepsFirst value old new
becomes_first value [] new line none is same d [] lt e = ap (λ ls. values_at ls d) is ∙ ap (λ v. v ∷ []) (same d lt)
becomes_first value [] new line none is same d (v ∷ vs) lt e = absurd (cc e)
becomes_first value (l ∷ ls) new line none is same d vs lt e = absurd (omega (arith, none))

-- a value is counted wherever it stands
count_moved : (cs ds vs : List Value) (v w : Value) → w ≡ v → Alike (cs ++ ds) vs → Alike ((cs ++ v ∷ []) ++ ds) (vs ++ w ∷ [])
count_moved cs ds vs v w e h =
    alike_then _ (cs ++ ((v ∷ []) ++ ds)) _ (alike_is _ _ (append_assoc cs (v ∷ []) ds))
    (alike_then _ (cs ++ (ds ++ v ∷ [])) _ (alike_both cs cs ((v ∷ []) ++ ds) (ds ++ v ∷ []) (alike_is cs cs refl) (alike_swap (v ∷ []) ds))
    (alike_then _ ((cs ++ ds) ++ v ∷ []) _ (alike_is _ _ (sym (append_assoc cs ds (v ∷ []))))
    (alike_both (cs ++ ds) vs (v ∷ []) (w ∷ []) h (alike_is _ _ (ap (λ u. u ∷ []) (sym e))))))

line_moved : (cs ds vs : List Value) (v w : Value) → v ≡ w → Alike (cs ++ ds) vs → Alike (cs ++ (ds ++ v ∷ [])) (vs ++ w ∷ [])
line_moved cs ds vs v w e h =
    alike_then _ ((cs ++ ds) ++ v ∷ []) _ (alike_is _ _ (sym (append_assoc cs ds (v ∷ []))))
    (alike_both (cs ++ ds) vs (v ∷ []) (w ∷ []) h (alike_is _ _ (ap (λ u. u ∷ []) e)))

-- no item
pub none_gathered : (held : Items) → IsTally (is_most held.gathering) [] held.constant → held.dated ≡ [] → held.first ≡ [] → Gathered (λ d. []) held
none_gathered held none dated first = record {
  constants = [];
  tallied = none;
  alike = λ d lt. alike_is _ _ (ap (λ ls. values_at ls d) dated);
  plain = λ _ d lt. refl;
  first = λ d lt. ap (λ ls. values_at ls d) first;
}

-- a constant item more
pub constant_added : (value : ℕ → Value) (v : Value) (old new : Items) → ((d : ℕ) → value d ≡ v) → new.gathering ≡ old.gathering → IsCounted (is_most old.gathering) v old.constant new.constant → new.dated ≡ old.dated
    → KeepsFirst value old.first new.first → IsAdded value old new
constant_added value v old new is same counted dated first = record {
  gathering = same;
  gathered = λ values h. record {
    constants = h.constants ++ v ∷ [];
    tallied = subst (λ g. IsTally (is_most g) (h.constants ++ v ∷ []) new.constant) (sym same) (counted.tallied h.constants h.tallied);
    alike = λ d lt. subst (λ ls. Alike ((h.constants ++ v ∷ []) ++ values_at ls d) (values d ++ value d ∷ [])) (sym dated) (count_moved h.constants (values_at old.dated d) (values d) v (value d) (is d) (h.alike d lt));
    plain = λ none d lt. ap (λ vs. vs ++ v ∷ []) (h.plain (sym dated ∙ none) d lt) ∙ ap (λ w. values d ++ w ∷ []) (sym (is d));
    first = λ d lt. first d (values d) lt (h.first d lt);
  };
}

-- an item more that isn't constant
pub dated_added : (value : ℕ → Value) (line : List (ℕ × Value)) (old new : Items) → ((d : ℕ) → d < DAYS → day_value line d ≡ value d) → new.gathering ≡ old.gathering → new.constant ≡ old.constant → new.dated ≡ old.dated ++ line ∷ []
    → KeepsFirst value old.first new.first → IsAdded value old new
dated_added value line old new is same counted dated first = record {
  gathering = same;
  gathered = λ values h. record {
    constants = h.constants;
    tallied = subst (λ g. IsTally (is_most g) h.constants new.constant) (sym same) (subst (IsTally (is_most old.gathering) h.constants) (sym counted) h.tallied);
    alike = λ d lt. subst (λ ls. Alike (h.constants ++ values_at ls d) (values d ++ value d ∷ [])) (sym dated)
        (subst (λ vs. Alike (h.constants ++ vs) (values d ++ value d ∷ [])) (sym (one_more old.dated line d)) (line_moved h.constants (values_at old.dated d) (values d) (day_value line d) (value d) (is d lt) (h.alike d lt)));
    plain = λ none d lt. absurd (no_more old.dated line (sym dated ∙ none));
    first = λ d lt. first d (values d) lt (h.first d lt);
  };
}

pub gathered_same : (vs ws : ℕ → List Value) (held : Items) → ((d : ℕ) → d < DAYS → vs d ≡ ws d) → Gathered vs held → Gathered ws held
gathered_same vs ws held same h = record {
  constants = h.constants;
  tallied = h.tallied;
  alike = λ d lt. subst (Alike (h.constants ++ values_at held.dated d)) (same d lt) (h.alike d lt);
  plain = λ none d lt. h.plain none d lt ∙ same d lt;
  first = λ d lt. h.first d lt ∙ ap (take 1) (same d lt);
}

pub added_same : (f g : ℕ → Value) (old new : Items) → ((d : ℕ) → d < DAYS → f d ≡ g d) → IsAdded f old new → IsAdded g old new
added_same f g old new same a = record {
  gathering = a.gathering;
  gathered = λ values h. gathered_same (λ d. values d ++ f d ∷ []) (λ d. values d ++ g d ∷ []) new (λ d lt. ap (λ v. values d ++ v ∷ []) (same d lt)) (a.gathered values h);
}

-- there is room for fewer than 2^63 items
pub few_have_room : (values : ℕ → List Value) (held : Items) → length (values 0) < 2 ^ 63 → Gathered values held → HasRoom held
few_have_room values held few h =
    let size = (h.alike 0 days).size in
    let parts = length-append h.constants (values_at held.dated 0) in
    sums_small h.constants held.constant.sums (omega (arith, few, size, parts)) h.tallied.sums
  where
    days : 0 < DAYS
    days = omega arith

first_taken : (vs : List Value) → first_value (take 1 vs) ≡ first_value vs
first_taken [] = refl
first_taken (v ∷ vs) = refl

pub first_is : (values : ℕ → List Value) (held : Items) → Gathered values held → (d : ℕ) → d < DAYS → first_value (values_at held.first d) ≡ first_value (values d)
first_is values held h d lt = ap first_value (h.first d lt) ∙ first_taken (values d)

-- where all items are constant
pub plain_told : (how : Gathering) (values : ℕ → List Value) (held : Items) (v : Value) (line : List (ℕ × Value)) → held.gathering ≡ how → held.dated ≡ [] → v ≡ told how held.constant (first_value (values_at held.first 0)) → StandsFor DAYS (λ d. v) line
    → Gathered values held → StandsFor DAYS (λ d. gather_of how (values d)) line
plain_told how values held v line same none is stands h d lt =
    stands d lt ∙ ap Some (is ∙ ap (told how held.constant) (first_is values held h 0 days ∙ sym (ap first_value (h.plain none 0 days)))
    ∙ told_is how h.constants held.constant (subst (λ g. IsTally (is_most g) h.constants held.constant) same h.tallied) ∙ ap (gather_of how) (h.plain none d lt))
  where
    days : 0 < DAYS
    days = omega arith

module _ {F E : Type 0} (g : Shared F (Bor Bests × Unit {0}) (Result Bests E)) (f : F) where
  -- the best of others beside the lines
  pub bests_beside : (most : Bool) (lines : Lines) (others : Bests) (halves l : List (ℕ × Bests)) → HaveBests most lines halves → ((p : Bor Bests) (z : Bests) → g.post f (p, tt) (Ok z) → AreBothBests most others p.now z) → EachDay (Maps g f halves) DAYS l
      → (before : List Value) → AreBests most before others → EachDay (λ d t. AreBests most (before ++ values_at lines d) t) DAYS l
  bests_beside most lines others halves l have means each before h d lt =
      let e = each d lt in let m = e.1 in
      (e.0, bests_both most before (values_at lines d) others m.first.now e.0 h (bests_at most lines halves d m.first.now lt have m.left) (means m.first e.0 m.says), e.2)

-- the best of all items
pub all_bests : (values : ℕ → List Value) (held : Items) (lines : Lines) (others : Bests) (l : List (ℕ × Bests)) → lines ≡ held.dated → others ≡ bests_in held.constant → Gathered values held
    → ((before : List Value) → AreBests (is_most held.gathering) before others → EachDay (λ d t. AreBests (is_most held.gathering) (before ++ values_at lines d) t) DAYS l) → EachDay (λ d t. AreBests (is_most held.gathering) (values d) t) DAYS l
all_bests values held lines others l same is h beside d lt =
    let most = is_most held.gathering in
    let e = beside h.constants (subst (AreBests most h.constants) (sym is) (tally_bests most h.constants held.constant h.tallied)) d lt in
    (e.0, bests_alike most (h.constants ++ values_at held.dated d) (values d) e.0 (h.alike d lt) (subst (λ ls. AreBests most (h.constants ++ values_at ls d) e.0) same e.1), e.2)

module _ {F E : Type 0} (g : Shared F (Bor Bests × (Bor Value × Unit {0})) (Result Value E)) (f : F) where
  pub bests_told : (how : Gathering) (values : ℕ → List Value) (bests : List (ℕ × Bests)) (first l : List (ℕ × Value)) → is_best how ≡ true → EachDay (λ d t. AreBests (is_most how) (values d) t) DAYS bests → ((d : ℕ) → d < DAYS → day_value first d ≡ first_value (values d))
      → ((p : Bor Bests) (q : Bor Value) (z : Value) → g.post f (p, (q, tt)) (Ok z) → z ≡ told_best p.now q.now) → EachDay (Joins g f bests first) DAYS l → StandsFor DAYS (λ d. gather_of how (values d)) l
  bests_told how values bests first l best h s means each d lt =
      let e = each d lt in let j = e.1 in let k = h d lt in
      let v : j.second.now ≡ first_value (values d) = ap (value_or Unknown) (sym j.right) ∙ s d lt in
      let t : AreBests (is_most how) (values d) j.first.now = subst (AreBests (is_most how) (values d)) (some_same k.0 j.first.now (sym k.2 ∙ j.left)) k.1 in
      e.2 ∙ ap Some (means j.first j.second e.0 j.says ∙ ap (told_best j.first.now) v ∙ best_gathered how (values d) j.first.now best t)

-- the lines that are kept have their values beside those that were counted
pub gathered_beside : (values : ℕ → List Value) (held : Items) (lines : Lines) → lines ≡ held.dated → Gathered values held → AreBeside held.gathering held.constant lines values
gathered_beside values held lines same h = record {
  others = h.constants;
  tallied = h.tallied;
  alike = λ d lt. subst (λ ls. Alike (h.constants ++ values_at ls d) (values d)) (sym same) (h.alike d lt);
}
