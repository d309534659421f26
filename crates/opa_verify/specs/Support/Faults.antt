-- The first line of a report that isn't held up.
use Rattle.std.specs.Prelude.{◌≡◌, ℕ, ◌<◌, ◌+◌, List, [], ◌∷◌, Option, None, Some, get_or, length, Contains, take, slice_get}
use Rattle.std.specs.FinMap.{FinMap, get}
use Rattle.opa_date.specs.declared.TheConstants.{DAYS}
use Rattle.opa_line.specs.Lines.{StandsFor}
use Rattle.opa_value.specs.Fit.{fit_of}
use Rattle.opa_model.specs.declared.ids.AttrId.{AttrId}
use Rattle.opa_cells.specs.declared.instance.InstanceId.{InstanceId}
use Rattle.opa_cells.specs.Keys.{cell_cmp}
use Rattle.opa_tree.specs.declared.rules.Rule.{Rule}
use Rattle.opa_tree.specs.Rules.{rule_of}
use Rattle.opa_mean.specs.Mean.{Base, is_money}
use Rattle.opa_report.specs.declared.lines.ReportLine.{ReportLine}
use Rattle.opa_verify.specs.Listed.Listings.{Listing}
use Rattle.opa_verify.specs.declared.listed.shade.Shade.{Shade}
use Rattle.opa_verify.specs.Listed.Shades.{mapped, shade}
use Rattle.opa_verify.specs.Support.Proofs.{IsHeldUp}
use Rattle.opa_verify.specs.Support.Told.{listing_of}

-- it stands at that place, isn't held up, and all before it are
pub record IsFirstFault (b : Base) (lines : List ReportLine) (n : ℕ) : Type 0 where
  pub line : ReportLine
  pub stands : slice_get lines n ≡ Some line
  pub isnt : IsHeldUp b (listing_of lines) line → ⊥
  pub before : (l : ReportLine) → Contains (take n lines) l → IsHeldUp b (listing_of lines) l

-- what the rule of an attribute concludes over a listing, as a shade
abbrev pub concluded_shade : Base → Listing → Rule → AttrId → InstanceId → ℕ → Shade
concluded_shade b k rule a i d = mapped (fit_of (is_money (b.shape.attribute a).kind)) (shade b.shape k rule.expr (i ∷ []) d)

-- lines that were made once and are kept
abbrev pub AreKept : Base → Listing → FinMap cell_cmp (List (ℕ × Shade)) → Type 0
AreKept b k kept = (a : AttrId) (i : InstanceId) (rule : Rule) (l : List (ℕ × Shade)) → rule_of b.rules a ≡ Some rule → get kept (a.0, i) ≡ Some l → StandsFor DAYS (concluded_shade b k rule a i) l
