-- Lines of version 1.
use Rattle.std.proofs.Common.{◌≡◌, ◌<◌, ◌≤◌, ◌+◌, ◌==◌, ℕ, zero, suc, Bool, true, false, cond, List, [], ◌∷◌, arith, refl, sym, ap, subst, ◌∙◌, le-leb}
use Rattle.std.specs.Prelude.{Option, None, Some, nat_lt, nat_le, if◌then◌else◌}
use Rattle.std.specs.Option.{option_map, option_and_then}
use Rattle.std.proofs.lemmas.Bool.{ltb-true, eqb-true}
use mathlib.Core.Bool.{true≢false}
use Rattle.serde_json.specs.Data.{Data}
use Rattle.opa_io.proofs.Options.{bound_parts, mapped_parts}
use Rattle.opa_date.specs.declared.TheConstants.{DAYS}
use Rattle.opa_value.specs.declared.value.Value.{Value}
use Rattle.opa_line.specs.declared.pairs.LineFault.{LineFault}
use Rattle.opa_line.specs.declared.pairs.LineFault.TheVariants.{FirstDay, Order, Range}
use Rattle.opa_line.specs.Lines.{at, value_from}
use Rattle.opa_line.specs.Pairs.{fault_of, rises_from, all_below}
use Rattle.opa_case.specs.Cases.{Answer}
use Rattle.opa_saved.specs.declared.entries.Version.TheVariants.{First}
use Rattle.opa_saved.specs.Forms.{each, items_in, whole, first_day_in, day_at, value_in, pair_of, pair_in, pairs_in, unless_fault, value_on, line_of}
use Rattle.opa_saved.specs.LoadLaws.{written_pair, IsRaised, FirstIsRaised}
use Rattle.opa_saved.proofs.PartLaws.{line_stands}

-- ---- steps that may fail, backwards

kept : {A : Type 0} (o : Option LineFault) (x y : A) → unless_fault o x ≡ Some y → (o ≡ None) × (x ≡ y)
kept None x y h = (refl, cc h)
kept (Some f) x y h = absurd (cc h)

-- ---- days that are raised

-- a day and the day that it is raised to
pub record Raised (k d : ℕ) : Type 0 where
  pub early : k < 146097
  pub zero_stays : k ≡ 0 → d ≡ 0
  pub others_rise : 0 < k → d ≡ k + 73049

day_raised : (k d : ℕ) → first_day_in k ≡ Some d → Raised k d
day_raised k d h = go (k == 0) refl h
  where
    later : (b : Bool) → nat_lt k 146097 ≡ b → (if b then Some (k + 73049) else None) ≡ Some d → (k < 146097) × (d ≡ k + 73049)
    later true e g = (ltb-true k 146097 e, cc g)
    later false e g = absurd (cc g)

    differs : (k == 0) ≡ false → k ≡ 0 → ⊥
    differs e z = grind (arith, e)

    go : (b : Bool) → (k == 0) ≡ b → (if b then Some 0 else (if nat_lt k 146097 then Some (k + 73049) else None)) ≡ Some d → Raised k d
    go true e g = let z = eqb-true k 0 e in let same : 0 ≡ d = cc g in record { early = omega (arith, z); zero_stays = λ _. sym same; others_rise = λ pos. absurd (omega (arith, z, pos)) }
    go false e g = let r = later (nat_lt k 146097) refl g in record { early = r.0; zero_stays = λ z. absurd (differs e z); others_rise = λ _. r.1 }

-- pairs and the pairs whose days are raised
data AreRaised : Answer → Answer → Type 0 where
  none : AreRaised [] []
  more : (k d : ℕ) (v : Value) (ws ls : Answer) → Raised k d → AreRaised ws ls → AreRaised ((k, v) ∷ ws) ((d, v) ∷ ls)

raised_pair : (ds : List Data) (p : ℕ × Value) → pair_of First ds ≡ Some p → (w : ℕ × Value) × (written_pair ds ≡ Some w) × Raised w.0 p.0 × (w.1 ≡ p.1)
raised_pair [] p h = absurd (cc h)
raised_pair (d ∷ []) p h = absurd (cc h)
raised_pair (d ∷ t ∷ []) p h =
    let a = bound_parts (λ day. option_map (λ x. (day, x)) (value_in t)) (day_at First d) p h in
    let b = bound_parts first_day_in (whole d) a.0 a.1 in
    let c = mapped_parts (λ x. (a.0, x)) (value_in t) p a.2 in
    let day : a.0 ≡ p.0 = ap (λ (q : ℕ × Value). q.0) c.2 in (
      (b.0, c.0),
      ap (option_and_then (λ k. option_map (λ x. (k, x)) (value_in t))) b.1 ∙ ap (option_map (λ x. (b.0, x))) c.1,
      subst (Raised b.0) day (day_raised b.0 a.0 b.2),
      ap (λ (q : ℕ × Value). q.1) c.2,
    )
raised_pair (d ∷ t ∷ e ∷ ds) p h = absurd (cc h)

raised_each : (ds : List Data) (ls : Answer) → each (pair_in First) ds ≡ Some ls → (ws : Answer) × (each (λ p. option_and_then written_pair (items_in p)) ds ≡ Some ws) × AreRaised ws ls
raised_each [] ls h = ([], refl, subst (AreRaised []) (cc h) none)
raised_each (d ∷ ds) ls h =
    let a = bound_parts (λ y. option_map (λ ys. y ∷ ys) (each (pair_in First) ds)) (pair_in First d) ls h in
    let b = mapped_parts (λ ys. a.0 ∷ ys) (each (pair_in First) ds) ls a.2 in
    let i = bound_parts (pair_of First) (items_in d) a.0 a.1 in
    let w = raised_pair i.0 a.0 i.2 in
    let r = raised_each ds b.0 b.1 in
    let this : option_and_then written_pair (items_in d) ≡ Some w.0 = ap (option_and_then written_pair) i.1 ∙ w.1 in (
      w.0 ∷ r.0,
      ap (option_and_then (λ y. option_map (λ ys. y ∷ ys) (each (λ p. option_and_then written_pair (items_in p)) ds))) this ∙ ap (option_map (λ ys. w.0 ∷ ys)) r.1,
      subst (AreRaised (w.0 ∷ r.0)) b.2 (joined w.0 a.0 r.0 b.0 w.2 w.3 r.2),
    )
  where
    joined : (w p : ℕ × Value) (ws ls : Answer) → Raised w.0 p.0 → w.1 ≡ p.1 → AreRaised ws ls → AreRaised (w ∷ ws) (p ∷ ls)
    joined w p ws ls r e h = subst (λ v. AreRaised (w ∷ ws) ((p.0, v) ∷ ls)) e (more w.0 p.0 w.1 ws ls r h)

-- a day that comes after another
split : (a c : Bool) → cond a c false ≡ true → (a ≡ true) × (c ≡ true)
split true c e = (refl, e)
split false c e = absurd (true≢false (sym e))

above : (j d b : ℕ) → Raised j d → b < d → 0 < j
above zero d b r lt = absurd (omega (arith, r.zero_stays refl, lt))
above (suc j) d b r lt = omega arith

-- ---- values of raised pairs, where all days are above 0

raised_from : (v : Value) (ws ls : Answer) (b : ℕ) → AreRaised ws ls → rises_from b ls ≡ true → (k : ℕ) → value_from v ls (k + 73049) ≡ value_from v ws k
raised_from v _ _ b none h k = refl
raised_from v _ _ b (more j d u ws ls r rest) h k =
    let up = split (nat_lt b d) (rises_from d ls) h in
    let pos : 0 < j = above j d b r (ltb-true b d up.0) in
    ap (λ t. cond t (value_from u ls (k + 73049)) v) (same j d k (r.others_rise pos)) ∙ ap (λ x. cond (nat_le j k) x v) (raised_from u ws ls d rest up.1 k)
  where
    same : (j d k : ℕ) → d ≡ j + 73049 → nat_le d (k + 73049) ≡ nat_le j k
    same j d k e = grind (arith, e)

-- before the first raised day
before_from : (v : Value) (ws ls : Answer) (b : ℕ) → AreRaised ws ls → rises_from b ls ≡ true → (d : ℕ) → d < 73049 → value_from v ls d ≡ v
before_from v _ _ b none h d lt = refl
before_from v _ _ b (more j e u ws ls r rest) h d lt =
    let up = split (nat_lt b e) (rises_from e ls) h in
    let pos : 0 < j = above j e b r (ltb-true b e up.0) in
    ap (λ t. cond t (value_from u ls d) v) (late j e d (r.others_rise pos) lt)
  where
    late : (j e d : ℕ) → e ≡ j + 73049 → d < 73049 → nat_le e d ≡ false
    late j e d is lt = grind (arith, is, lt)

-- on day 0 itself
zero_from : (v : Value) (ws ls : Answer) (b : ℕ) → AreRaised ws ls → rises_from b ls ≡ true → value_from v ws 0 ≡ v
zero_from v _ _ b none h = refl
zero_from v _ _ b (more j e u ws ls r rest) h =
    let up = split (nat_lt b e) (rises_from e ls) h in
    let pos : 0 < j = above j e b r (ltb-true b e up.0) in
    ap (λ t. cond t (value_from u ws 0) v) (late j pos)
  where
    late : (j : ℕ) → 0 < j → nat_le j 0 ≡ false
    late j pos = grind (arith, pos)

-- after the last raised day
after_from : (v : Value) (ws ls : Answer) → AreRaised ws ls → (d : ℕ) → 219146 ≤ d → value_from v ls d ≡ value_from v ws 146096
after_from v _ _ none d ge = refl
after_from v _ _ (more j e u ws ls r rest) d ge =
    ap (λ t. cond t (value_from u ls d) v) (reached j e r d ge) ∙ after_from u ws ls rest d ge ∙ sym (ap (λ t. cond t (value_from u ws 146096) v) (there j r.early))
  where
    there : (j : ℕ) → j < 146097 → nat_le j 146096 ≡ true
    there j lt = grind (arith, lt)

    reached : (j e : ℕ) → Raised j e → (d : ℕ) → 219146 ≤ d → nat_le e d ≡ true
    reached zero e r d ge = let z : e ≡ 0 = r.zero_stays refl in le-leb e d (omega (arith, z))
    reached (suc j) e r d ge = let z : e ≡ suc j + 73049 = r.others_rise (omega arith) in le-leb e d (omega (arith, z, r.early, ge))

-- ---- the whole line

faultless : (p : ℕ × Value) (ls : Answer) → fault_of (p ∷ ls) ≡ None → (p.0 ≡ 0) × (rises_from p.0 ls ≡ true)
faultless p ls h = go (p.0 == 0) refl (rises_from p.0 ls) refl h
  where
    go : (a : Bool) → (p.0 == 0) ≡ a → (b : Bool) → rises_from p.0 ls ≡ b → cond a (cond b (cond (all_below DAYS (p ∷ ls)) None (Some Range)) (Some Order)) (Some FirstDay) ≡ None → (p.0 ≡ 0) × (rises_from p.0 ls ≡ true)
    go true e true f g = (eqb-true p.0 0 e, f)
    go true e false f g = absurd (cc g)
    go false e b f g = absurd (cc g)

raised_line : (ws ls line : Answer) → AreRaised ws ls → fault_of ls ≡ None → line ≡ line_of ls → IsRaised ws line
raised_line _ _ line none h e = absurd (cc h)
raised_line _ _ line (more j d v ws ls r rest) h e =
    let ok = faultless (d, v) ls h in
    let up : rises_from d ls ≡ true = ok.1 in
    let value : (q : ℕ) → q < DAYS → at line q ≡ Some (value_on ((d, v) ∷ ls) q) = λ q lt. ap (λ l. at l q) e ∙ line_stands ((d, v) ∷ ls) q lt in
    record {
      raised = λ k lt. value (k + 73049) (omega (arith, lt)) ∙ ap Some (raised_from v ws ls d rest up k);
      before = λ q lt. value q (omega (arith, lt)) ∙ ap Some (before_from v ws ls d rest up q lt ∙ sym (zero_from v ws ls d rest up));
      after = λ q ge lt. value q lt ∙ ap Some (after_from v ws ls rest q ge);
    }

pub first_is_raised : FirstIsRaised
first_is_raised d line h =
    let a = bound_parts (λ pairs. unless_fault (fault_of pairs) (line_of pairs)) (pairs_in First d) line h in
    let k = kept (fault_of a.0) (line_of a.0) line a.2 in
    let i = bound_parts (each (pair_in First)) (items_in d) a.0 a.1 in
    let r = raised_each i.0 a.0 i.2 in
    (r.0, ap (option_and_then (each (λ p. option_and_then written_pair (items_in p)))) i.1 ∙ r.1, raised_line r.0 a.0 line r.2 k.0 (sym k.1))
