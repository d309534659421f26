-- What a case with one list that is set or forgotten tells, by what goes and what comes.
use Rattle.std.specs.Prelude.{◌≡◌, ◌||◌, ◌&&◌, not, Bool, true, false, cond, List, [], ◌∷◌, is_some, Option, None, Some, refl}
use Rattle.std.specs.List.{list_all, list_any}
use Rattle.std.specs.Option.{option_copied, option_or, option_map_or}
use Rattle.std.specs.FinMap.{FinMap, get, insert, remove, get-insert, get-remove}
use Rattle.std.specs.Ordering.{eq_by_cmp}
use Rattle.std.proofs.Common.{Bor, ap, sym, subst, ◌∙◌, ◌⊎◌, inl, inr}
use mathlib.Core.Bool.{true≢false}
use Rattle.opa_model.specs.declared.ids.AttrId.{AttrId}
use Rattle.opa_model.specs.declared.ids.RelId.{RelId}
use Rattle.opa_cells.specs.declared.instance.InstanceId.{InstanceId}
use Rattle.opa_cells.specs.Instances.{named}
use Rattle.opa_cells.specs.Keys.{cell_cmp}
use Rattle.opa_cells.proofs.Orders.{cell_exact, cell_total, get_kept}
use Rattle.opa_case.specs.Shapes.{Shape}
use Rattle.opa_case.specs.Live.{Names, Population, is_live, container_of}
use Rattle.opa_case.specs.Cases.{CaseView}
use Rattle.opa_case.specs.Fits.{Known, Fits}
use Rattle.opa_case.specs.Homes.{home_of}
use Rattle.opa_case.specs.Steps.{stays}
use Rattle.opa_case.specs.Turns.{Turns, is_among}
use Rattle.opa_case.specs.Relists.{lists_with, relisted, AreMoves, AreReferred, RelistedAnswers}
use Rattle.opa_case.proofs.Kept.{inserted, removed}

module _ (live next gone come : Population) (i : InstanceId) (turns : Turns live next gone come i) where
  -- what goes and what comes, found by itself
  pub moved : (went came : FinMap cell_cmp InstanceId) (home : InstanceId)
      → ((x : InstanceId) → home_of went x ≡ cond (is_among gone x) (Some home) None)
      → ((x : InstanceId) → home_of came x ≡ cond (is_among come x) (Some i) None) → AreMoves went came live next
  moved went came home goes comes x =
      turns.homes x ∙ same (is_among gone x) (is_among come x)
      ∙ ap (λ (o : Option InstanceId). cond (is_some o) None (option_or (cond (is_among come x) (Some i) None) (container_of live x))) (sym (goes x))
      ∙ ap (λ (o : Option InstanceId). cond (is_some (home_of went x)) None (option_or o (container_of live x))) (sym (comes x))
    where
      same : (a b : Bool) → cond a None (cond b (Some i) (container_of live x)) ≡ cond (is_some (cond a (Some home) None)) None (option_or (cond b (Some i) None) (container_of live x))
      same true b = refl
      same false true = refl
      same false false = refl

  -- names that are live stay so unless they go
  pub named_stay : (e : _) (ns : Names) → list_all (λ n. is_live live (named e n)) ns ≡ true → list_all (λ n. is_live next (named e n)) ns ≡ not (list_any (λ n. is_among gone (named e n)) ns)
  named_stay e [] h = refl
  named_stay e (n ∷ ns) h =
      let p = both (is_live live (named e n)) (list_all (λ m. is_live live (named e m)) ns) h in
      ap (λ b. b && list_all (λ m. is_live next (named e m)) ns) (turns.stays (named e n) p.0)
      ∙ ap (λ b. not (is_among gone (named e n)) && b) (named_stay e ns p.1)
      ∙ joined (is_among gone (named e n)) (list_any (λ m. is_among gone (named e m)) ns)
    where
      both : (a b : Bool) → (a && b) ≡ true → (a ≡ true) × (b ≡ true)
      both true b k = (refl, k)
      both false b k = absurd (true≢false (sym k))

      joined : (a b : Bool) → (not a && not b) ≡ not (a || b)
      joined true b = refl
      joined false b = refl

  -- a reference list stays where nothing goes that it names
  pub stays_then : (s : Shape) (m : FinMap cell_cmp Names) (q : RelId) (j : InstanceId) (ns : Names) → AreReferred s m live → get m (q.0, j) ≡ Some ns → s.contains q ≡ false → is_live next j ≡ true
      → not (list_any (λ n. is_among gone (named (s.target q) n)) ns) ≡ stays s next m (q.0, j)
  stays_then s m q j ns referred at refers lives = sym (
      ap (λ b. b && (s.contains q || option_map_or (list_all (λ n. is_live next (named (s.target q) n))) (get m (q.0, j)) true)) lives
      ∙ ap (λ b. b || option_map_or (list_all (λ n. is_live next (named (s.target q) n))) (get m (q.0, j)) true) refers
      ∙ ap (λ (o : Option Names). option_map_or (list_all (λ n. is_live next (named (s.target q) n))) o true) at
      ∙ named_stay (s.target q) ns (referred q j ns at refers))

-- where nothing goes and nothing comes
pub none_turn : (live next went came : Population) (i : InstanceId) → live ≡ next → went ≡ [] → came ≡ [] → Turns live next went came i
none_turn live next went came i e no_one none =
    subst (λ (l : Population). Turns live l went came i) e
    (subst (λ (g : Population). Turns live live g came i) (sym no_one)
    (subst (λ (g : Population). Turns live live [] g i) (sym none) (stay_turn live i)))
  where
    stay_turn : (live : Population) (i : InstanceId) → Turns live live [] [] i
    stay_turn live i = record {
      homes = λ x. refl;
      counts = λ e. refl;
      total = refl;
      lived = λ x h. absurd (true≢false (sym h));
      went = λ x h. absurd (true≢false (sym h));
      new = λ x h. absurd (true≢false (sym h));
      stays = λ x h. h;
    }

-- each name in a reference list is live, where a list is set or forgotten
pub referred_with : (s : Shape) (ruled : List Bool) (c : CaseView) → Fits s ruled c → (r : RelId) (i : InstanceId) (v : Names) → (s.contains r ≡ false → list_all (λ n. is_live c.live (named (s.target r) n)) v ≡ true) → AreReferred s (insert c.lists (r.0, i) v) c.live
referred_with s ruled c fits r i v live q j ns known refers = go (inserted c.lists r i v q j ns known)
  where
    go : ((q ≡ r) × (j ≡ i) × (v ≡ ns)) ⊎ Known c.lists q j ns → list_all (λ n. is_live c.live (named (s.target q) n)) ns ≡ true
    go (inl x) =
        ap (λ (p : RelId). list_all (λ n. is_live c.live (named (s.target p) n)) ns) x.0
        ∙ ap (list_all (λ n. is_live c.live (named (s.target r) n))) (sym x.2)
        ∙ live (ap s.contains (sym x.0) ∙ refers)
    go (inr k) = fits.referred q j ns k refers

pub referred_without : (s : Shape) (ruled : List Bool) (c : CaseView) → Fits s ruled c → (r : RelId) (i : InstanceId) → AreReferred s (remove c.lists (r.0, i)) c.live
referred_without s ruled c fits r i q j ns known refers = fits.referred q j ns (removed c.lists (r.0, i) q j ns known) refers

-- the list that is put, and else the list before
pub put_list : (m : FinMap cell_cmp Names) (r : RelId) (i : InstanceId) (o : Option Names) (q : RelId) (j : InstanceId) → get (lists_with m r i o) (q.0, j) ≡ cond (eq_by_cmp cell_cmp (q.0, j) (r.0, i)) o (get m (q.0, j))
put_list m r i None q j = get-remove cell_total m (r.0, i) (q.0, j)
put_list m r i (Some names) q j = get-insert cell_total m (r.0, i) names (q.0, j)

module _ (s : Shape) (c : CaseView) (r : RelId) (i : InstanceId) (o : Option Names) where
  pub answers_then : (a : AttrId) (j : InstanceId) → get (relisted s c r i o).answers (a.0, j) ≡ cond (is_live (relisted s c r i o).live j) (get c.answers (a.0, j)) None
  answers_then a j = get_kept cell_exact c.answers (λ k. is_live (relisted s c r i o).live k.1) (a.0, j)

  pub lists_then : (q : RelId) (j : InstanceId) → get (relisted s c r i o).lists (q.0, j) ≡ cond (stays s (relisted s c r i o).live (lists_with c.lists r i o) (q.0, j)) (get (lists_with c.lists r i o) (q.0, j)) None
  lists_then q j = get_kept cell_exact (lists_with c.lists r i o) (stays s (relisted s c r i o).live (lists_with c.lists r i o)) (q.0, j)

pub copied_some : {X : Type 0} (o : Option (Bor X)) → is_some o ≡ is_some (option_copied o)
copied_some None = refl
copied_some (Some x) = refl

-- what is found of a list that is put, and stays or not
pub none_found : (stay : Bool) (put got : Option Names) → got ≡ cond stay put None → put ≡ None → None ≡ got
none_found true put got is none = sym (is ∙ none)
none_found false put got is none = sym is

pub some_found : (stay : Bool) (put got : Option Names) (names : Names) → got ≡ cond stay put None → put ≡ Some names → stay ≡ true → Some names ≡ got
some_found stay put got names is some kept = sym (is ∙ ap (λ b. cond b put None) kept ∙ some)

pub none_kept : (stay : Bool) (put got : Option Names) → got ≡ cond stay put None → stay ≡ false → None ≡ got
none_kept stay put got is lost = sym (is ∙ ap (λ b. cond b put None) lost)

pub relisted_answers : RelistedAnswers
relisted_answers s c r i o a j live = answers_then s c r i o a j ∙ ap (λ b. cond b (get c.answers (a.0, j)) None) live
