-- What is kept of quantifiers that were seen.
use Rattle.std.proofs.Common.{◌≡◌, inl, inr, ℕ, ◌<◌, List, [], length, get_or, Result, Ok, Err, IfOk, Some, sym, ◌∙◌, ap, subst}
use Rattle.opa_date.specs.declared.TheConstants.{DAYS}
use Rattle.opa_line.specs.Lines.{StandsFor}
use Rattle.opa_case.specs.Shapes.{Shape}
use Rattle.opa_cells.specs.declared.instance.InstanceId.{InstanceId}
use Rattle.opa_tree.specs.declared.expr.Expr.{Expr}
use Rattle.opa_tree.proofs.Members.{none_in}
use Rattle.opa_verify.specs.declared.listed.kept.SeenTree.{SeenTree}
use Rattle.opa_verify.specs.declared.listed.shade.Shade.{Shade}
use Rattle.opa_verify.specs.Listed.Keeping.{HasOnePlace, Follows, Agrees, IsKept, AreKept}
use Rattle.opa_verify.specs.Listed.Listings.{Listing}
use Rattle.opa_verify.specs.Listed.Shades.{shade}
use Rattle.opa_verify.specs.Listed.ShadeLines.{ShadeLine, shade_at}
use Rattle.opa_verify.specs.Listed.Ways.{place_seen}
use Rattle.opa_verify.proofs.listed.Walking.{told}

-- a copy of a line, and of what it stands for
pub copy_stands : (f : ℕ → Shade) (l copy : ShadeLine) → StandsFor DAYS f l → StandsFor DAYS (shade_at l) copy → StandsFor DAYS f copy
copy_stands f l copy h same d lt = same d lt ∙ ap Some (told l f h d lt)

-- a line of equal shades, where what is kept is right
pub restands_too : {E : Type 0} (r : Result ShadeLine E) (f g : ℕ → Shade) (A B : Type 0) → (A → ((d : ℕ) → d < DAYS → f d ≡ g d) × B) → IfOk r (StandsFor DAYS f) → IfOk r (λ l. A → StandsFor DAYS g l × B)
restands_too (Ok l) f g A B same h = λ known. let was = same known in (λ d lt. h d lt ∙ ap Some (was.0 d lt), was.1)
restands_too (Err e) f g A B same h = tt

module _ (s : Shape) (k : Listing) where
  itself : (e f : List InstanceId) → Follows k [] e f e f
  itself e f o h = at h
    where
      at : HasOnePlace k [] e f o → place_seen k.container e o ≡ place_seen k.container f o
      at (inl has) = absurd (none_in o has)
      at (inr is) = is

  -- a line that is kept of a tree is what is seen of it where it is alike
  pub stands_again : (one : SeenTree) (t : Expr) (e : List InstanceId) (copy : ShadeLine) → one.tree.now ≡ t → Agrees s k [] one.enclosing e t → IsKept s k one → StandsFor DAYS (shade_at one.line) copy → StandsFor DAYS (shade s k t e) copy
  stands_again one t e copy same agrees kept is =
      copy_stands (shade s k t e) one.line copy (subst (λ (f : ℕ → Shade). StandsFor DAYS f one.line) (ap (λ u. shade s k u one.enclosing) same ∙ agrees one.enclosing e (itself one.enclosing e)) kept) is

  pub kept_among : (xs : List SeenTree) (i : ℕ) (x : SeenTree) → i < length xs → x ≡ get_or xs i x → AreKept s k xs → IsKept s k x
  kept_among xs i x lt is kept = subst (IsKept s k) (sym is) (kept i x lt)
