-- A case that is settled fits, where its lists are sound.
use Rattle.std.specs.Prelude.{◌≡◌, ◌<◌, ◌-◌, ℕ, suc, Bool, true, false, cond, ◌||◌, List, None, Some}
use Rattle.std.specs.List.{list_all}
use Rattle.std.specs.Option.{option_map_or}
use Rattle.std.specs.FinMap.{FinMap, get, retain_keys}
use Rattle.std.proofs.Common.{arith, ap, sym, ◌∙◌}
use Rattle.std.proofs.lemmas.Bool.{and_parts, and_from, or_left}
use Rattle.opa_io.proofs.Options.{cond_none_parts}
use Rattle.opa_model.specs.declared.ids.AttrId.{AttrId}
use Rattle.opa_model.specs.declared.ids.RelId.{RelId}
use Rattle.opa_cells.specs.declared.instance.InstanceId.{InstanceId}
use Rattle.opa_cells.specs.Instances.{named}
use Rattle.opa_cells.specs.Keys.{cell_cmp}
use Rattle.opa_case.specs.Shapes.{Shape, IsShape}
use Rattle.opa_case.specs.Live.{Names, Population, live_of, is_live}
use Rattle.opa_case.specs.Cases.{Answer, stored}
use Rattle.opa_case.specs.Steps.{stays, settle}
use Rattle.opa_case.specs.Fits.{Known, Answered, AreSound, IsAnswer, Fits}
use Rattle.opa_cells.proofs.Orders.{cell_exact, get_kept}
use Rattle.opa_case.proofs.Walks.{same_every}
use Rattle.opa_case.proofs.Lively.{same_live}

other_holds : (a b : Bool) → (a || b) ≡ true → a ≡ false → b ≡ true
other_holds true b p q = absurd (cc q)
other_holds false b p q = p

module _ (s : Shape) (shape : IsShape s) (m : FinMap cell_cmp Names) (answers : FinMap cell_cmp Answer) where
  abbrev pub live : Population
  live = live_of s (stored m)

  abbrev pub kept : FinMap cell_cmp Names
  kept = retain_keys m (stays s live m)

  pub kept_from : (r : RelId) (i : InstanceId) (names : Names) → Known kept r i names → (stays s live m (r.0, i) ≡ true) × Known m r i names
  kept_from r i names h = cond_none_parts (stays s live m (r.0, i)) (get m (r.0, i)) names (sym (get_kept cell_exact m (stays s live m) (r.0, i)) ∙ h)

  -- the containment lists of live instances stay
  pub agrees : (e : ℕ) (c : InstanceId) → 0 < e → e < s.count → is_live live c ≡ true → stored m (s.contained e) c ≡ stored kept (s.contained e) c
  agrees e c pos up is =
      let keeps : stays s live m ((s.contained e).0, c) ≡ true = and_from _ _ is (or_left (s.contains (s.contained e)) _ (shape.contains e pos up)) in
      sym (get_kept cell_exact m (stays s live m) ((s.contained e).0, c) ∙ ap (λ b. cond b (get m ((s.contained e).0, c)) None) keeps)

  -- what goes contains nothing that is live
  pub settled_live : live ≡ live_of s (stored kept)
  settled_live = same_live s (stored m) (stored kept) (s.count - 1) (λ e c lt is. agrees (suc e) c (omega arith) (omega (arith, lt)) is) 0 (s.count - 1) (omega arith)

  pub answer_from : (t : AttrId) (i : InstanceId) (v : Answer) → get (retain_keys answers (λ k. is_live live k.1)) (t.0, i) ≡ Some v → (is_live live i ≡ true) × (get answers (t.0, i) ≡ Some v)
  answer_from t i v h = cond_none_parts (is_live live i) (get answers (t.0, i)) v (sym (get_kept cell_exact answers (λ k. is_live live k.1) (t.0, i)) ∙ h)

  settled_sound : AreSound s m → AreSound s kept
  settled_sound a = record {
    declared = λ r i ns h. a.declared r i ns (kept_from r i ns h).1;
    source = λ r i ns h. a.source r i ns (kept_from r i ns h).1;
    not_every = λ r i ns h. a.not_every r i ns (kept_from r i ns h).1;
    names = λ r i ns h. a.names r i ns (kept_from r i ns h).1;
    one = λ r i ns h. a.one r i ns (kept_from r i ns h).1;
    once = λ r i j ns ms n con h g. a.once r i j ns ms n con (kept_from r i ns h).1 (kept_from r j ms g).1;
  }

  pub settled_fits : (ruled : List Bool) → AreSound s m → ((a : AttrId) (i : InstanceId) (line : Answer) → Answered answers a i line → IsAnswer s ruled a i line) → Fits s ruled (settle s m answers)
  settled_fits ruled a told = record {
    sound = settled_sound a;
    live = settled_live;
    every = same_every s shape (stored m) (stored kept) agrees shape.inside s.relations;
    listed = λ r i ns h. (and_parts _ _ (kept_from r i ns h).0).0;
    answered = λ t i v h. (answer_from t i v h).0;
    referred = λ r i ns h other.
        ap (λ o. option_map_or (list_all (λ n. is_live live (named (s.target r) n))) o true) (sym (kept_from r i ns h).1)
        ∙ other_holds (s.contains r) _ (and_parts _ _ (kept_from r i ns h).0).1 other;
    answers = λ t i v h. told t i v (answer_from t i v h).1;
  }
