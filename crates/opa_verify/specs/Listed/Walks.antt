-- What a walk over a tree finds, place by place.
use Rattle.std.specs.Prelude.{ℕ, List, ◌∷◌, map, Option, None, Some}
use Rattle.opa_value.specs.declared.value.Value.TheVariants.{Unknown, Uncertain}
use Rattle.opa_model.specs.declared.ids.AttrId.{AttrId}
use Rattle.opa_model.specs.declared.ids.RelId.{RelId}
use Rattle.opa_case.specs.Live.{Names}
use Rattle.opa_case.specs.Shapes.{Shape}
use Rattle.opa_cells.specs.declared.instance.InstanceId.{InstanceId}
use Rattle.opa_cells.specs.Instances.{named}
use Rattle.opa_tree.specs.declared.kinds.Quant.{Quant}
use Rattle.opa_tree.specs.declared.expr.Expr.{Expr}
use Rattle.opa_tree.specs.declared.expr.Row.{Row}
use Rattle.opa_mean.specs.Places.{owner_of}
use Rattle.opa_verify.specs.declared.listed.shade.Shade.{Shade}
use Rattle.opa_verify.specs.declared.listed.sheet.Listed.{Listed}
use Rattle.opa_verify.specs.declared.listed.sheet.Listed.TheVariants as listed
use Rattle.opa_verify.specs.Listed.Listings.{Listing}
use Rattle.opa_verify.specs.Listed.Shades.{there, gone, shade_of, at_place_shade, item_shade, quant_shade, RowShading, shade}
use Rattle.opa_verify.specs.Listed.Ways.{place_seen}

-- an attribute at its place
abbrev pub attr_shade : Shape → Listing → AttrId → List InstanceId → ℕ → Shade
attr_shade s k a enclosing d = at_place_shade (place_seen k.container enclosing (owner_of s a)) (λ i. shade_of (k.value a i d))

-- a list, if it is listed
abbrev pub names_or : Option (Option Names) → Listed
names_or None = listed.Missing
names_or (Some None) = listed.Unknown
names_or (Some (Some names)) = listed.Known names

-- a list at a place
abbrev pub at_place_listed : Option (Option InstanceId) → (InstanceId → Option (Option Names)) → Listed
at_place_listed None f = listed.Missing
at_place_listed (Some None) f = listed.Nowhere
at_place_listed (Some (Some i)) f = names_or (f i)

abbrev pub listed_at : Shape → Listing → RelId → List InstanceId → Listed
listed_at s k r enclosing = at_place_listed (place_seen k.container enclosing (s.source r)) (k.members r)

-- what is made of the members
abbrev pub of_listed : Listed → (Names → Shade) → Shade
of_listed listed.Missing f = gone
of_listed listed.Nowhere f = there Uncertain
of_listed listed.Unknown f = there Unknown
of_listed (listed.Known names) f = f names

-- the shades of several trees
abbrev pub tree_shades : Shape → Listing → List Expr → List InstanceId → ℕ → List Shade
tree_shades s k es enclosing d = map (λ e. shade s k e enclosing d) es

-- what a quantifier makes of each member's operands
abbrev pub item_shades_at : Shape → Listing → Quant → ℕ → Names → List Expr → List InstanceId → ℕ → List Shade
item_shades_at s k q target names es enclosing d = map (λ n. item_shade q (tree_shades s k es (named target n ∷ enclosing) d)) names

-- a row with the shading of its condition and of its value
abbrev pub row_shading : Shape → Listing → Row → RowShading
row_shading s k row = record { cond = shade s k row.cond; value = shade s k row.value }

-- what is seen of a quantifier
abbrev pub over_seen_at : Shape → Listing → Quant → RelId → List Expr → List InstanceId → ℕ → Shade
over_seen_at s k q r es enclosing d = of_listed (listed_at s k r enclosing) (λ names. quant_shade q (item_shades_at s k q (s.target r) names es enclosing d))
