-- The parts of a free tree are free.
use Rattle.std.proofs.Common.{◌≡◌, List, [], ◌∷◌, true, sym, ◌∙◌, subst}
use Rattle.std.specs.Prelude.{map, flat_map}
use Rattle.std.specs.List.{AllByRecursion}
use Rattle.std.proofs.lemmas.Bool.{and_parts}
use Rattle.opa_model.specs.declared.ids.AttrId.{AttrId}
use Rattle.opa_tree.specs.declared.expr.Expr.{Expr}
use Rattle.opa_tree.specs.declared.expr.Row.{Row}
use Rattle.opa_tree.specs.Mentions.{mentioned}
use Rattle.opa_mean.specs.Frees.{all_free, is_free}
use Rattle.opa_mean.proofs.Everywhere.{all_parts}
use Rattle.opa_mean.proofs.Levels.{row_free, row_free-is, row_mentions, row_mentions-is}

module _ (Ok : AttrId → Type 0) where
  -- no part of the tree asks for knowledge, and each attribute of it is one of those
  abbrev pub Good : Expr → Type 0
  Good e = (is_free e ≡ true) × AllByRecursion Ok (mentioned e)

  pub good_parts : {P : Expr → Type 0} (ps : List ((e : Expr) × P e)) → all_free (map is_free (map (λ p. p.0) ps)) ≡ true → AllByRecursion Ok (flat_map (λ x. x) (map mentioned (map (λ p. p.0) ps))) → AllByRecursion (λ p. Good p.0) ps
  good_parts [] f h = tt
  good_parts (p ∷ ps) f h = let both = and_parts _ _ f in let two = all_parts Ok (mentioned p.0) _ h in ((both.0, two.0), good_parts ps both.1 two.1)

  abbrev pub GoodRow : Row → Type 0
  GoodRow r = Good r.cond × Good r.value

  pub good_rows : {P : Row → Type 0} (rs : List ((r : Row) × P r)) → all_free (map row_free (map (λ r. r.0) rs)) ≡ true → AllByRecursion Ok (flat_map (λ x. x) (map row_mentions (map (λ r. r.0) rs))) → AllByRecursion (λ r. GoodRow r.0) rs
  good_rows [] f h = tt
  good_rows (r ∷ rs) f h =
      let both = and_parts _ _ f in let two = all_parts Ok (row_mentions r.0) _ h in
      let frees = and_parts _ _ (sym (row_free-is r.0) ∙ both.0) in
      let names = all_parts Ok (mentioned r.0.cond) _ (subst (AllByRecursion Ok) (row_mentions-is r.0) two.0) in
      (((frees.0, names.0), (frees.1, names.1)), good_rows rs both.1 two.1)
