-- Lines that are kept while members are gone through.
use Rattle.std.proofs.Common.{◌≡◌, ℕ, ◌<◌, List, [], get_or, length, Some, sym, ◌∙◌, ap, subst}
use Rattle.opa_date.specs.declared.TheConstants.{DAYS}
use Rattle.opa_value.specs.declared.value.Value.{Value}
use Rattle.opa_line.specs.Lines.{StandsFor}
use Rattle.opa_case.specs.Shapes.{Shape}
use Rattle.opa_cells.specs.declared.instance.InstanceId.{InstanceId}
use Rattle.opa_tree.specs.declared.expr.Expr.{Expr}
use Rattle.opa_window.specs.Days.{day_value}
use Rattle.opa_mean.specs.Looks.{Look}
use Rattle.opa_mean.specs.Meaning.{value}
use Rattle.opa_report.specs.Keeping.{Agrees, AreKeptLines, IsLine}
use Rattle.opa_report.specs.declared.kept_lines.KeptLine.{KeptLine}
use Rattle.opa_report.proofs.Going.{line_at}
use Rattle.opa_report.proofs.Keeping.{itself}

-- a copy stands for what the line stands for
pub copy_stands : (f : ℕ → Value) (line copied : List (ℕ × Value)) → StandsFor DAYS f line → StandsFor DAYS (day_value line) copied → StandsFor DAYS f copied
copy_stands f line copied stands copies = λ d low. copies d low ∙ ap Some (line_at f line d stands low)

module _ (s : Shape) (l : Look) where
  pub made_is : (t : Expr) (e copied_e : List InstanceId) (line copied : List (ℕ × Value)) → copied_e ≡ e → StandsFor DAYS (value s l t e) line → StandsFor DAYS (day_value line) copied → StandsFor DAYS (value s l t copied_e) copied
  made_is t e copied_e line copied same stands copies = copy_stands (value s l t copied_e) line copied (subst (λ (x : List InstanceId). StandsFor DAYS (value s l t x) line) (sym same) stands) copies

  -- where a tree is the same, its line is
  pub line_alike : (one : KeptLine) (t : Expr) (e : List InstanceId) (line : List (ℕ × Value)) → Agrees s l [] one.enclosing e t → StandsFor DAYS (day_value one.line) line → one.tree.now ≡ t → IsLine s l one → StandsFor DAYS (value s l t e) line
  line_alike one t e line agrees copies same is = copy_stands (value s l t e) one.line line
      (subst (λ (f : ℕ → Value). StandsFor DAYS f one.line) (ap (λ u. value s l u one.enclosing) same ∙ (agrees one.enclosing e (itself s l one.enclosing e)).values) is) copies

  pub line_among : (ks : List KeptLine) (i : ℕ) (one : KeptLine) → i < length ks → one ≡ get_or ks i one → AreKeptLines s l ks → IsLine s l one
  line_among ks i one lt is are = subst (λ (x : KeptLine). IsLine s l x) (sym is) (are i one lt)
