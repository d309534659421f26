-- What a rule reads is at live instances, and its lines are of lower rank.
use Rattle.std.proofs.Common.{◌≡◌, ℕ, ◌<◌, List, [], ◌∷◌, ◌++◌, Option, None, Some, refl, sym, subst}
use Rattle.std.specs.Prelude.{map, flat_map}
use Rattle.std.specs.List.{AllByRecursion}
use Rattle.opa_model.specs.declared.ids.AttrId.{AttrId}
use Rattle.opa_model.specs.declared.ids.RelId.{RelId}
use Rattle.opa_case.specs.Cases.{CaseView, IsLive}
use Rattle.opa_case.specs.Live.{Lists}
use Rattle.opa_case.specs.Shapes.{Shape, shape_of}
use Rattle.opa_case.specs.declared.question.Question.{Question}
use Rattle.opa_case.specs.declared.question.Question.TheVariants as question
use Rattle.opa_cells.specs.declared.instance.InstanceId.{InstanceId}
use Rattle.opa_cells.specs.Instances.{named}
use Rattle.opa_tree.specs.declared.expr.Expr.{Expr}
use Rattle.opa_tree.specs.declared.expr.Row.{Row}
use Rattle.opa_tree.specs.declared.expr.Expr.TheOpen.{Expr-F, Const, Attr, All, Any, Not, Op, Certain, Known, Over, Window, Rolling, Table}
use Rattle.opa_tree.specs.declared.expr.Expr.TheFolds.{map-Expr}
use Rattle.opa_tree.specs.declared.rulebase.Rulebase.{Rulebase}
use Rattle.opa_tree.specs.declared.rules.Rule.{Rule}
use Rattle.opa_tree.specs.Mentions.{mentioned, mentioned_step}
use Rattle.opa_tree.specs.Ranks.{rank_at}
use Rattle.opa_tree.specs.Rules.{rule_of}
use Rattle.opa_tree.proofs.Induction.{by_parts, Part, RowPart, without}
use Rattle.opa_mean.specs.Given.{facts_of}
use Rattle.opa_mean.specs.Mean as mean
use Rattle.opa_mean.specs.Places.{owner_of, place}
use Rattle.opa_mean.specs.Reads.{Reads, at_place_reads, all_reads, listed_reads, reads_step, reads, rule_reads}
use Rattle.opa_mean.specs.Rulebases.{IsOf}
use Rattle.opa_mean.proofs.Chains.{place_live, place_entity}
use Rattle.opa_mean.proofs.Completing.{above_live}
use Rattle.opa_mean.proofs.Determining.{mentioned_in}
use Rattle.opa_mean.proofs.Everywhere.{all_parts, all_append, all_of_each}
use Rattle.opa_mean.proofs.Fitting.{live_in}
use Rattle.opa_mean.proofs.Levels.{row_mentions, mentioned-roll, row_mentions-is}
use Rattle.opa_mean.proofs.LawsOver.{base, facts}
use Rattle.opa_mean.specs.Reached.Dirty.{slot_reads}
use Rattle.opa_mean.proofs.reached.Rereading.{row_reads, reads-roll, row_reads-is}

-- a line at an instance that has it, of an attribute that is one of these; or a list at an instance
abbrev pub Named : Shape → (InstanceId → Type 0) → (AttrId → Type 0) → Question → Type 0
Named s Live Told (question.Attr a i) = Live i × (i.entity.0 ≡ owner_of s a) × Told a
Named s Live Told (question.Members r i) = Live i

module _ (s : Shape) (l : Lists) (up : InstanceId → Option InstanceId) (Live : InstanceId → Type 0) (Told : AttrId → Type 0)
    (above : (i j : InstanceId) → Live i → up i ≡ Some j → Live j)
    (listed : (r : RelId) (i : InstanceId) (names : List (List ℕ)) → l r i ≡ Some names → AllByRecursion (λ n. Live (named (s.target r) n)) names) where
  abbrev AllNamed : List Question → Type 0
  AllNamed qs = AllByRecursion (Named s Live Told) qs

  abbrev AllTold : List AttrId → Type 0
  AllTold attrs = AllByRecursion Told attrs

  abbrev NamesLive : Expr → Type 0
  NamesLive e = AllTold (mentioned e) → (enclosing : List InstanceId) → AllByRecursion Live enclosing → AllNamed (reads s l up e enclosing)

  abbrev Parts : Type 0
  Parts = List (Part NamesLive)

  abbrev read_parts : Parts → List Reads
  read_parts ps = map (reads s l up) (map (λ p. p.0) ps)

  abbrev mentioned_parts : Parts → List AttrId
  mentioned_parts ps = flat_map (λ x. x) (map mentioned (map (λ p. p.0) ps))

  both : (xs ys : List Question) → AllNamed xs → AllNamed ys → AllNamed (xs ++ ys)
  both = all_append (Named s Live Told)

  split : (xs ys : List AttrId) → AllTold (xs ++ ys) → AllTold xs × AllTold ys
  split = all_parts Told

  parts_named : (ps : Parts) → AllTold (mentioned_parts ps) → (enclosing : List InstanceId) → AllByRecursion Live enclosing → AllNamed (all_reads (read_parts ps) enclosing)
  parts_named [] t enclosing w = tt
  parts_named (p ∷ ps) t enclosing w = let two = split (mentioned p.0) _ t in both _ _ (p.1 two.0 enclosing w) (parts_named ps two.1 enclosing w)

  names_named : (ps : Parts) → AllTold (mentioned_parts ps) → (e : ℕ) (names : List (List ℕ)) → AllByRecursion (λ n. Live (named e n)) names → (enclosing : List InstanceId) → AllByRecursion Live enclosing → AllNamed (flat_map (λ n. all_reads (read_parts ps) (named e n ∷ enclosing)) names)
  names_named ps t e [] ws enclosing w = tt
  names_named ps t e (n ∷ names) ws enclosing w = both _ _ (parts_named ps t (named e n ∷ enclosing) (ws.0, w)) (names_named ps t e names ws.1 enclosing w)

  list_named : (ps : Parts) → AllTold (mentioned_parts ps) → (e : ℕ) (o : Option (List (List ℕ))) → ((names : List (List ℕ)) → o ≡ Some names → AllByRecursion (λ n. Live (named e n)) names) → (enclosing : List InstanceId) → AllByRecursion Live enclosing → AllNamed (listed_reads o (λ n. all_reads (read_parts ps) (named e n ∷ enclosing)))
  list_named ps t e None ws enclosing w = tt
  list_named ps t e (Some names) ws enclosing w = names_named ps t e names (ws names refl) enclosing w

  line_named : (a : AttrId) (o : Option InstanceId) → ((i : InstanceId) → o ≡ Some i → Live i × (i.entity.0 ≡ owner_of s a)) → Told a → AllNamed (at_place_reads o (λ i. question.Attr a i ∷ []))
  line_named a None at t = tt
  line_named a (Some i) at t = let here = at i refl in ((here.0, here.1, t), tt)

  over_named : (r : RelId) (ps : Parts) → AllTold (mentioned_parts ps) → (o : Option InstanceId) → ((i : InstanceId) → o ≡ Some i → Live i) → (enclosing : List InstanceId) → AllByRecursion Live enclosing
      → AllNamed (at_place_reads o (λ i. question.Members r i ∷ listed_reads (l r i) (λ n. all_reads (read_parts ps) (named (s.target r) n ∷ enclosing))))
  over_named r ps t None at enclosing w = tt
  over_named r ps t (Some i) at enclosing w = (at i refl, list_named ps t (s.target r) (l r i) (λ names is. listed r i names is) enclosing w)

  rows_named : (rs : List (RowPart NamesLive)) → AllTold (flat_map (λ x. x) (map row_mentions (map (λ r. r.0) rs))) → (enclosing : List InstanceId) → AllByRecursion Live enclosing → AllNamed (all_reads (map (row_reads s l up) (map (λ r. r.0) rs)) enclosing)
  rows_named [] t enclosing w = tt
  rows_named (r ∷ rs) t enclosing w =
      let two = split (row_mentions r.0) _ t in
      let parts = split (mentioned r.0.cond) _ (subst AllTold (row_mentions-is r.0) two.0) in
      both _ _ (subst (λ (f : Reads). AllNamed (f enclosing)) (sym (row_reads-is s l up r.0)) (both _ _ (r.1.0 parts.0 enclosing w) (r.1.1 parts.1 enclosing w))) (rows_named rs two.1 enclosing w)

  abbrev read_level : Expr-F (Part NamesLive) (RowPart NamesLive) → Expr-F Reads Reads
  read_level z = map-Expr Expr Row Reads Reads (reads s l up) (row_reads s l up) (without NamesLive z)

  abbrev mentions : Expr-F (Part NamesLive) (RowPart NamesLive) → Expr-F (List AttrId) (List AttrId)
  mentions z = map-Expr Expr Row (List AttrId) (List AttrId) mentioned row_mentions (without NamesLive z)

  at : (enclosing : List InstanceId) → AllByRecursion Live enclosing → (e : ℕ) (i : InstanceId) → place up enclosing e ≡ Some i → Live i
  at = place_live up Live above

  level_named : (z : Expr-F (Part NamesLive) (RowPart NamesLive)) → AllTold (mentioned_step (mentions z)) → (enclosing : List InstanceId) → AllByRecursion Live enclosing → AllNamed (reads_step s l up (read_level z) enclosing)
  level_named (Const v) t enclosing w = tt
  level_named (Attr a) t enclosing w = line_named a (place up enclosing (owner_of s a)) (λ i is. (at enclosing w (owner_of s a) i is, place_entity up enclosing (owner_of s a) i is)) t.0
  level_named (All ps) t enclosing w = parts_named ps t enclosing w
  level_named (Any ps) t enclosing w = parts_named ps t enclosing w
  level_named (Not p) t enclosing w = p.1 t enclosing w
  level_named (Op k ps) t enclosing w = parts_named ps t enclosing w
  level_named (Certain p) t enclosing w = p.1 t enclosing w
  level_named (Known p) t enclosing w = p.1 t enclosing w
  level_named (Over q r ps) t enclosing w = over_named r ps t (place up enclosing (s.source r)) (at enclosing w (s.source r)) enclosing w
  level_named (Window k ps) t enclosing w = parts_named ps t enclosing w
  level_named (Rolling b n p) t enclosing w = p.1 t enclosing w
  level_named (Table rs p) t enclosing w = let two = split _ (mentioned p.0) t in both _ _ (rows_named rs two.0 enclosing w) (p.1 two.1 enclosing w)

  pub tree_named : (e : Expr) → NamesLive e
  tree_named = by_parts NamesLive (λ z t enclosing w.
      subst (λ (f : Reads). AllNamed (f enclosing)) (sym (reads-roll s l up (without NamesLive z)))
      (level_named z (subst AllTold (mentioned-roll (without NamesLive z)) t) enclosing w))

module _ (r : Rulebase) (c : CaseView) (is : IsOf r c) where
  abbrev pub NamedIn : AttrId → Question → Type 0
  NamedIn a q = Named (shape_of r.model) (mean.IsLive (facts_of c)) (λ m. rank_at r.ranks m < rank_at r.ranks a) q

  -- what a live slot reads
  pub slot_named : (a : AttrId) (i : InstanceId) → IsLive c i → AllByRecursion (NamedIn a) (slot_reads r c a i)
  slot_named a i live = go (rule_of r.rules a) refl
    where
      go : (o : Option Rule) → rule_of r.rules a ≡ o → AllByRecursion (NamedIn a) (rule_reads o (λ e. reads (shape_of r.model) (facts_of c).members (facts_of c).container e (i ∷ [])))
      go None e = tt
      go (Some rule) e =
          tree_named (shape_of r.model) (facts_of c).members (facts_of c).container (mean.IsLive (facts_of c)) (λ m. rank_at r.ranks m < rank_at r.ranks a)
          (above_live (shape_of r.model) (facts_of c) (facts r c is)) (facts r c is).listed rule.expr
          (all_of_each _ (mentioned rule.expr) (λ m there. (base r c is).falls a m (mentioned_in r.rules a rule e m there))) (i ∷ []) (live_in c i live, tt)
