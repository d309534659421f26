-- The lines of a report are held up.
use Rattle.std.proofs.Common.{◌≡◌, ◌⊎◌, inl, inr, ℕ, zero, suc, ◌<◌, ◌≤◌, List, [], ◌∷◌, ◌++◌, Bool, true, false, cond, Option, None, Some, Contains, refl, sym, ◌∙◌, ap, subst, arith, length}
use Rattle.std.specs.Prelude.{map, find, flat_map, nat_le, ◌||◌}
use Rattle.std.specs.List.{AllByRecursion}
use Rattle.std.specs.Option.{option_map, option_map_or, option_or}
use Rattle.std.proofs.lemmas.Bool.{leb-true, cases_lt}
use Rattle.opa_io.proofs.Lists.{each_weaker}
use Rattle.opa_value.specs.declared.value.Value.{Value}
use Rattle.opa_model.specs.declared.ids.AttrId.{AttrId}
use Rattle.opa_model.specs.declared.ids.RelId.{RelId}
use Rattle.opa_case.specs.Live.{Names}
use Rattle.opa_cells.specs.declared.instance.InstanceId.{InstanceId}
use Rattle.opa_cells.specs.Instances.{global, named, is_same}
use Rattle.opa_cells.proofs.Orders.{same_itself}
use Rattle.opa_tree.specs.declared.rules.Rule.{Rule}
use Rattle.opa_tree.specs.Rules.{rule_of}
use Rattle.opa_tree.proofs.Members.{none_in, contains_head, contains_tail}
use Rattle.opa_mean.specs.Bases.{IsBase}
use Rattle.opa_mean.specs.Completion.{AreFacts}
use Rattle.opa_mean.specs.Mean.{Base, Facts, IsLive, look_of, concluded, fitted, mean}
use Rattle.opa_mean.specs.Looks.{Look}
use Rattle.opa_mean.specs.Meaning.{value}
use Rattle.opa_tree.specs.Mentions.{mentioned}
use Rattle.opa_mean.specs.Places.{place, chain, climb, is_of}
use Rattle.opa_mean.specs.Reports.{Entry, PointIs, ListIs, MemberIs, InReport, InCone, itself, used_by, rule_uses, own_of, members_of}
use Rattle.opa_mean.specs.Uses.{Use, Point, Listed, uses}
use Rattle.opa_mean.proofs.Chains.{chain_live, place_live}
use Rattle.opa_mean.proofs.Completing.{above_live}
use Rattle.opa_mean.proofs.Determining.{determined}
use Rattle.opa_mean.proofs.Lying.{Lies, uses_lie}
use Rattle.opa_mean.proofs.Everywhere.{all_of_each, each_of_all, in_map}
use Rattle.opa_report.specs.Supporting.{Lists}
use Rattle.opa_report.specs.declared.lines.ReportLine.{ReportLine}
use Rattle.opa_report.specs.declared.lines.ReportLine.TheVariants as line
use Rattle.opa_verify.specs.Support.Told.{value_by, list_by, container_by, listing_of}
use Rattle.opa_verify.specs.Listed.Listings.{Listing}
use Rattle.opa_verify.specs.Support.Proofs.{IsConcluded, AreHeldUp, ListsReport, IsOrderly, ReportIsHeldUp}
use Rattle.opa_verify.specs.Listed.Ways.{Way, Met, Passed, Missing, onward, walk_up, met_or, place_seen, climbs, is_rooted}
use Rattle.opa_verify.proofs.listed.Revealing.{IsListed, revealed}
use Rattle.opa_verify.proofs.support.Telling.{told_in, told_first, value_told, list_told, container_told, run_tells, members_tell, member_tells}

-- what is found in two lists, one after the other
find_append : (p : InstanceId → Bool) (xs ys : List InstanceId) → find p (xs ++ ys) ≡ option_or (find p xs) (find p ys)
find_append p [] ys = refl
find_append p (x ∷ xs) ys = go (p x) (find_append p xs ys)
  where
    go : (b : Bool) → find p (xs ++ ys) ≡ option_or (find p xs) (find p ys) → cond b (Some x) (find p (xs ++ ys)) ≡ option_or (cond b (Some x) (find p xs)) (find p ys)
    go true e = refl
    go false e = e

-- where a walk leads that meets no missing container
abbrev way_of : Option InstanceId → Way
way_of None = Passed
way_of (Some i) = Met i

module _ (up up' : InstanceId → Option InstanceId) where
  -- the listed container is the container, and the global instance alone has none
  abbrev pub IsTold : InstanceId → Type 0
  IsTold i = (up' i ≡ up i) × (up i ≡ None → is_same i global ≡ true)

  walks : (e n : ℕ) (i : InstanceId) → AllByRecursion IsTold (climb up n i) → walk_up up' e n i ≡ way_of (find (is_of e) (climb up n i))
  walks e zero i h = go (is_of e i)
    where
      go : (b : Bool) → cond b (Met i) Passed ≡ way_of (cond b (Some i) None)
      go true = refl
      go false = refl
  walks e (suc n) i h = ap (λ o. cond (is_of e i) (Met i) (onward i o (walk_up up' e n))) h.0.0 ∙ go (is_of e i) (up i) h.0.1 h.1 (λ j. walks e n j)
    where
      go : (b : Bool) (o : Option InstanceId) → (o ≡ None → is_same i global ≡ true) → AllByRecursion IsTold (option_map_or (climb up n) o []) → ((j : InstanceId) → AllByRecursion IsTold (climb up n j) → walk_up up' e n j ≡ way_of (find (is_of e) (climb up n j)))
          → cond b (Met i) (onward i o (walk_up up' e n)) ≡ way_of (cond b (Some i) (find (is_of e) (option_map_or (climb up n) o [])))
      go true o top all rec = refl
      go false None top all rec = ap (λ b. cond b Passed Missing) (top refl)
      go false (Some j) top all rec = rec j all

  pub places_met : (enclosing : List InstanceId) → AllByRecursion (λ i. AllByRecursion IsTold (chain up i)) enclosing → (e : ℕ) → place_seen up' enclosing e ≡ Some (place up enclosing e)
  places_met [] h e = refl
  places_met (i ∷ enclosing) h e =
      ap (λ w. met_or w (place_seen up' enclosing e)) (walks e i.entity.0 i h.0) ∙ ap (met_or (way_of (find (is_of e) (chain up i)))) (places_met enclosing h.1 e)
      ∙ go (find (is_of e) (chain up i)) ∙ ap Some (sym (find_append (is_of e) (chain up i) (flat_map (chain up) enclosing)))
    where
      go : (o : Option InstanceId) → met_or (way_of o) (Some (place up enclosing e)) ≡ Some (option_or o (find (is_of e) (flat_map (chain up) enclosing)))
      go None = refl
      go (Some j) = refl

module _ (b : Base) (c : Facts) (base : IsBase b) (are : AreFacts b.shape c) (orderly : IsOrderly b c) (a0 : AttrId) (i0 : InstanceId) (d0 : ℕ) (lives : IsLive c i0) (lines : List ReportLine) (report : ListsReport b c a0 i0 d0 lines) where
  abbrev k : Listing
  k = listing_of lines

  abbrev p : Use
  p = Point a0 i0 d0

  abbrev Cone : Use → Type 0
  Cone u = InCone b c p u

  -- what an entry of the report says
  abbrev Right : Entry → Type 0
  Right (PointIs a i d v) = Cone (Point a i d) × (mean b c a i d ≡ v)
  Right (ListIs r i names) = Cone (Listed r i) × (c.members r i ≡ names)
  Right (MemberIs i j) = c.container i ≡ Some j

  right : {x : Entry} → InReport b c p x → Right x
  right (InReport.point a i d cone) = (cone, refl)
  right (InReport.list r i cone) = (cone, refl)
  right (InReport.member u i j m cone own there e) = e

  -- the line that lists an entry
  abbrev Stands : Entry → Type 0
  Stands (PointIs a i d v) = (y : ReportLine) × (Contains lines y × (value_by a i d y ≡ Some v))
  Stands (ListIs r i names) = (y : ReportLine) × (Contains lines y × (list_by r i y ≡ Some names))
  Stands (MemberIs i j) = (y : ReportLine) × (Contains lines y × (container_by i y ≡ Some j))

  stands : {x : Entry} → Lists lines x → Stands x
  stands (Lists.point a i s t d v there after until) = (line.Point a i s t v, (there, run_tells a i s t v d after until))
  stands (Lists.list r i names there) = (line.Members r i names, (there, members_tell r i names))
  stands (Lists.member q k j there) = (line.Member q k j, (there, member_tells q j k))

  -- what is listed is so
  value_right : (a : AttrId) (i : InstanceId) (d : ℕ) (v : Value) → k.value a i d ≡ Some v → mean b c a i d ≡ v
  value_right a i d v e =
      let one = told_in (value_by a i d) lines v e in
      let run = value_told a i d v one.0 one.1.1 in
      (right ((report.entries (PointIs a i d v)).0 (Lists.point a i run.start run.end d v (subst (Contains lines) run.is one.1.0) run.after run.until))).1

  list_right : (r : RelId) (i : InstanceId) (names : Option Names) → k.members r i ≡ Some names → c.members r i ≡ names
  list_right r i names e =
      let one = told_in (list_by r i) lines names e in
      (right ((report.entries (ListIs r i names)).0 (Lists.list r i names (subst (Contains lines) (list_told r i names one.0 one.1.1) one.1.0)))).1

  container_right : (i j : InstanceId) → k.container i ≡ Some j → c.container i ≡ Some j
  container_right i j e =
      let one = told_in (container_by i) lines j e in
      let told = container_told i j one.0 one.1.1 in
      right ((report.entries (MemberIs i j)).0 (Lists.member told.0 j i (subst (Contains lines) told.1 one.1.0)))

  -- what the report has is listed
  pub value_listed : (a : AttrId) (i : InstanceId) (d : ℕ) → Cone (Point a i d) → k.value a i d ≡ Some (mean b c a i d)
  value_listed a i d cone =
      let y = stands ((report.entries (PointIs a i d (mean b c a i d))).1 (InReport.point a i d cone)) in
      let w = told_first (value_by a i d) lines y.0 (mean b c a i d) y.1.0 y.1.1 in
      w.1 ∙ ap Some (sym (value_right a i d w.0 w.1))

  list_listed : (r : RelId) (i : InstanceId) → Cone (Listed r i) → k.members r i ≡ Some (c.members r i)
  list_listed r i cone =
      let y = stands ((report.entries (ListIs r i (c.members r i))).1 (InReport.list r i cone)) in
      let w = told_first (list_by r i) lines y.0 (c.members r i) y.1.0 y.1.1 in
      w.1 ∙ ap Some (sym (list_right r i w.0 w.1))

  container_listed : (u : Use) (i j : InstanceId) → Cone u → Contains (own_of b c u) i → Contains (chain c.container i) j → k.container j ≡ c.container j
  container_listed u i j cone own there = go (c.container j) refl (k.container j) refl
    where
      go : (o : Option InstanceId) → c.container j ≡ o → (q : Option InstanceId) → k.container j ≡ q → k.container j ≡ c.container j
      go None e None f = f ∙ sym e
      go None e (Some m) f = absurd (cc (e, container_right j m f))
      go (Some m) e q f =
          let y = stands ((report.entries (MemberIs j m)).1 (InReport.member u i j m cone own there e)) in
          let w = told_first (container_by j) lines y.0 m y.1.0 y.1.1 in
          w.1 ∙ sym (container_right j w.0 w.1)

  -- an instance without a container is the global one
  top : (j : InstanceId) → IsLive c j → c.container j ≡ None → is_same j global ≡ true
  top j live e = go (cases_lt 0 j.entity.0)
    where
      go : (0 < j.entity.0) ⊎ (j.entity.0 ≤ 0) → is_same j global ≡ true
      go (inl lt) = absurd (cc (e, (are.contained j live lt).is))
      go (inr le) = ap (λ x. is_same x global) (are.only_global j live (omega (arith, le))) ∙ same_itself global

  abbrev Within : InstanceId → Type 0
  Within i = IsLive c i × AllByRecursion (IsTold c.container k.container) (chain c.container i)

  within : (u : Use) (i : InstanceId) → Cone u → Contains (own_of b c u) i → IsLive c i → Within i
  within u i cone own live =
      (live, all_of_each (IsTold c.container k.container) (chain c.container i) (λ j there. (container_listed u i j cone own there, top j (each_of_all (IsLive c) (chain c.container i) (chain_live c.container (IsLive c) (above_live b.shape c are) i live) j there))))

  placed : (enclosing : List InstanceId) → AllByRecursion (IsLive c) enclosing → (e : ℕ) (i : InstanceId) → place c.container enclosing e ≡ Some i → IsLive c i
  placed = place_live c.container (IsLive c) (above_live b.shape c are)

  met : (enclosing : List InstanceId) → AllByRecursion Within enclosing → (e : ℕ) → place_seen k.container enclosing e ≡ Some (place c.container enclosing e)
  met enclosing w e = places_met c.container k.container enclosing (each_weaker Within (λ i. AllByRecursion (IsTold c.container k.container) (chain c.container i)) (λ i h. h.1) enclosing w) e

  live_place : (enclosing : List InstanceId) → AllByRecursion Within enclosing → (e : ℕ) (i : InstanceId) → place c.container enclosing e ≡ Some i → IsLive c i
  live_place enclosing w = placed enclosing (each_weaker Within (IsLive c) (λ i h. h.0) enclosing w)

  few : (r : RelId) (i : InstanceId) (names : Names) → IsLive c i → b.shape.one r ≡ true → c.members r i ≡ Some names → nat_le 2 (length names) ≡ false
  few r i names live one e = go (nat_le 2 (length names)) refl (orderly.one r i names live one e)
    where
      go : (t : Bool) → nat_le 2 (length names) ≡ t → length names ≤ 1 → nat_le 2 (length names) ≡ false
      go false q le = q
      go true q le = let two : 2 ≤ length names = leb-true 2 (length names) q in absurd (omega (arith, two, le))

  -- the instance of a point or of a list is live
  abbrev LiveUse : Use → Type 0
  LiveUse (Point a i d) = IsLive c i
  LiveUse (Listed r i) = IsLive c i

  abbrev l : Look
  l = look_of c (mean b c)

  lying : (ms : List AttrId) (u : Use) → Lies b.shape l (IsLive c) placed are.listed ms u → LiveUse u
  lying ms (Point a i d) h = h.1.0
  lying ms (Listed r i) h = h.0

  -- the cone is of live instances
  cone_live : {u : Use} → Cone u → LiveUse u
  cone_live itself = lives
  cone_live (used_by (Point a i d) v cone there) = go (rule_of b.rules a) there (cone_live cone)
    where
      go : (o : Option Rule) → Contains (rule_uses o (λ e. uses b.shape l e (i ∷ []) d)) v → IsLive c i → LiveUse v
      go None h live = absurd (none_in v h)
      go (Some rule) h live = lying (mentioned rule.expr) v (uses_lie b.shape l (IsLive c) placed are.listed rule.expr (i ∷ []) (live, tt) d v h)
  cone_live (used_by (Listed r i) v cone there) = absurd (none_in v there)

  -- an instance of the cone has listed containers up to the global one
  rooted : (n : ℕ) (i : InstanceId) → IsLive c i → i.entity.0 ≤ n → AllByRecursion (IsTold c.container k.container) (climb c.container n i) → climbs k.container n i ≡ true
  rooted zero i live le h = ap (λ x. is_same x global) (are.only_global i live (omega (arith, le))) ∙ same_itself global
  rooted (suc n) i live le h = ap (λ o. is_same i global || option_map_or (climbs k.container n) o false) h.0.0 ∙ go (c.container i) refl h.1 (rooted n)
    where
      or_true : (t : Bool) → (t || true) ≡ true
      or_true true = refl
      or_true false = refl

      go : (o : Option InstanceId) → c.container i ≡ o → AllByRecursion (IsTold c.container k.container) (option_map_or (climb c.container n) o []) → ((j : InstanceId) → IsLive c j → j.entity.0 ≤ n → AllByRecursion (IsTold c.container k.container) (climb c.container n j) → climbs k.container n j ≡ true)
          → (is_same i global || option_map_or (climbs k.container n) o false) ≡ true
      go None e all rec = ap (λ t. t || false) (top i live e)
      go (Some j) e all rec =
          let less = orderly.falls i j live e in
          ap (λ t. is_same i global || t) (rec j (above_live b.shape c are i j live e) (omega (arith, less, le)) all) ∙ or_true (is_same i global)

  is_rooted_own : (u : Use) (i : InstanceId) → Cone u → Contains (own_of b c u) i → IsLive c i → is_rooted k.container i ≡ true
  is_rooted_own u i cone own live = rooted i.entity.0 i live (omega arith) (within u i cone own live).1

  -- what is used is listed
  used_listed : (a : AttrId) (i : InstanceId) (d : ℕ) (rule : Rule) → rule_of b.rules a ≡ Some rule → Cone (Point a i d)
      → (u : Use) → Contains (uses b.shape (look_of c (mean b c)) rule.expr (i ∷ []) d) u → IsListed b.shape (look_of c (mean b c)) k Within (IsLive c) met live_place few u
  used_listed a i d rule is cone (Point m j e) h = λ _. value_listed m j e (used_by (Point a i d) (Point m j e) cone (subst (λ o. Contains (rule_uses o (λ e. uses b.shape (look_of c (mean b c)) e (i ∷ []) d)) (Point m j e)) (sym is) h))
  used_listed a i d rule is cone (Listed r j) h = λ live.
      let own : Cone (Listed r j) = used_by (Point a i d) (Listed r j) cone (subst (λ o. Contains (rule_uses o (λ e. uses b.shape (look_of c (mean b c)) e (i ∷ []) d)) (Listed r j)) (sym is) h) in (
        list_listed r j own,
        λ names e. all_of_each (λ n. Within (named (b.shape.target r) n)) names (λ n there. within (Listed r j) (named (b.shape.target r) n) own
            (subst (λ (o : Option Names). Contains (j ∷ members_of (b.shape.target r) o) (named (b.shape.target r) n)) (sym e) (contains_tail j (named (b.shape.target r) n) (map (named (b.shape.target r)) names) (in_map (named (b.shape.target r)) names n there)))
            (each_of_all (λ n. IsLive c (named (b.shape.target r) n)) names (are.listed r j names e) n there)),
      )

  concluded_here : (a : AttrId) (i : InstanceId) (d : ℕ) (v : Value) → Cone (Point a i d) → mean b c a i d ≡ v → IsConcluded b k (rule_of b.rules a) a i d v
  concluded_here a i d v cone is = go (rule_of b.rules a) refl
    where
      go : (o : Option Rule) → rule_of b.rules a ≡ o → IsConcluded b k o a i d v
      go None e = tt
      go (Some rule) e =
          let live = cone_live cone in
          ap (option_map (fitted b.shape a)) (revealed b.shape (look_of c (mean b c)) k Within (IsLive c) met live_place few rule.expr (orderly.single a rule e) (i ∷ []) (within (Point a i d) i cone (contains_head i []) live, tt) d
          (all_of_each _ _ (used_listed a i d rule e cone)))
          ∙ ap Some (sym (determined b c base.falls a i d ∙ ap (λ o. concluded o (c.answer a i d) (λ e. fitted b.shape a (value b.shape (look_of c (mean b c)) e (i ∷ []) d))) e) ∙ is)

  pub held_up : AreHeldUp b lines
  held_up (line.Point a i s t v) there =
      let first = right ((report.entries (PointIs a i s v)).0 (Lists.point a i s t s v there (omega arith) (report.no_empty_run a i s t v there))) in (
        is_rooted_own (Point a i s) i first.0 (contains_head i []) (cone_live first.0),
        λ d after until. let own = right ((report.entries (PointIs a i d v)).0 (Lists.point a i s t d v there after until)) in concluded_here a i d v own.0 own.1,
      )
  held_up (line.Members r i names) there =
      let own = right ((report.entries (ListIs r i names)).0 (Lists.list r i names there)) in
      is_rooted_own (Listed r i) i own.0 (contains_head i (members_of (b.shape.target r) (c.members r i))) (cone_live own.0)
  held_up (line.Member q k j) there = tt

pub report_is_held_up_holds : ReportIsHeldUp
report_is_held_up_holds b c base are orderly a i d lives lines report = (held_up b c base are orderly a i d lives lines report, value_listed b c base are orderly a i d lives lines report a i d itself)
