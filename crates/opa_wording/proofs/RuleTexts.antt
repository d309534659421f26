-- The texts of groups and rules, for each sort of tree.
use Rattle.std.proofs.Common.{◌≡◌, ℕ, Bool, List, [], ◌∷◌, ◌++◌, map, sym, ap, ◌∙◌, append_assoc}
use Rattle.std.specs.Prelude.{codes}
use Rattle.opa_value.specs.declared.value.Value.{Value}
use Rattle.opa_model.specs.declared.ids.AttrId.{AttrId}
use Rattle.opa_model.specs.declared.ids.RelId.{RelId}
use Rattle.opa_model.specs.declared.lists.Lists.{Lists}
use Rattle.opa_tree.specs.declared.kinds.OpKind.{OpKind}
use Rattle.opa_tree.specs.declared.kinds.Quant.{Quant}
use Rattle.opa_tree.specs.declared.kinds.WinKind.{WinKind}
use Rattle.opa_tree.specs.declared.expr.Expr.{Expr}
use Rattle.opa_tree.specs.declared.expr.Row.{Row}
use Rattle.opa_tree.specs.declared.expr.Expr.TheOpen.{Expr-F, Const, Attr, All, Any, Not, Op, Certain, Known, Over, Window, Rolling, Table}
use Rattle.opa_tree.specs.declared.expr.Expr.TheVariants as V
use Rattle.opa_tree.specs.declared.expr.Expr.TheViews.{roll-Expr, out-Expr, out-roll-Expr}
use Rattle.opa_wording.specs.Lines.{line_text}
use Rattle.opa_wording.specs.Rules.{written, items, group_by, group_text, cases, concluded_by, concluded}

-- ---- one step after another

pub line_written : (before one two three four indent text ending : List ℕ) → one ≡ before ++ indent → two ≡ one ++ text → three ≡ two ++ ending → four ≡ three ++ 10 ∷ [] → four ≡ before ++ written indent text ending
line_written before one two three four indent text ending a b c d =
    d ∙ ap (λ t. t ++ 10 ∷ []) (c ∙ ap (λ t. t ++ ending) (b ∙ ap (λ t. t ++ text) a))
    ∙ append_assoc ((before ++ indent) ++ text) ending (10 ∷ []) ∙ append_assoc (before ++ indent) text (ending ++ 10 ∷ []) ∙ append_assoc before indent (text ++ (ending ++ 10 ∷ []))

pub then_text : (before one two x y : List ℕ) → one ≡ before ++ x → two ≡ one ++ y → two ≡ before ++ (x ++ y)
then_text before one two x y a b = b ∙ ap (λ t. t ++ y) a ∙ append_assoc before x y

pub then_texts : (before one two three x y z : List ℕ) → one ≡ before ++ x → two ≡ one ++ y → three ≡ two ++ z → three ≡ before ++ (x ++ (y ++ z))
then_texts before one two three x y z a b c = c ∙ ap (λ t. t ++ z) (b ∙ ap (λ t. t ++ y) a) ∙ append_assoc (before ++ x) y z ∙ append_assoc before x (y ++ z)

-- what was to come next is written
pub text_moved : (out new x y all : List ℕ) → new ≡ out ++ x → out ++ (x ++ y) ≡ all → new ++ y ≡ all
text_moved out new x y all a h = ap (λ t. t ++ y) a ∙ append_assoc out x y ∙ h

pub ruleset line_steps = (line_written, then_text, then_texts)

-- ---- each sort of tree

pub opened : (x : Expr-F Expr Row) (e : Expr) → roll-Expr x ≡ e → out-Expr e ≡ x
opened x e is = ap out-Expr (sym is) ∙ out-roll-Expr x

pub group-Const : (m : Lists) (indent : List ℕ) (v : Value) → group_text m indent (V.Const v) ≡ written indent (line_text m (V.Const v)) []
group-Const m indent v = ap (λ x. group_by m indent (V.Const v) x) (opened (Const v) (V.Const v) (V.rolls-Const v))

pub group-Attr : (m : Lists) (indent : List ℕ) (a : AttrId) → group_text m indent (V.Attr a) ≡ written indent (line_text m (V.Attr a)) []
group-Attr m indent a = ap (λ x. group_by m indent (V.Attr a) x) (opened (Attr a) (V.Attr a) (V.rolls-Attr a))

pub group-All : (m : Lists) (indent : List ℕ) (es : List Expr) → group_text m indent (V.All es) ≡ items indent (codes " and") (map (line_text m) es)
group-All m indent es = ap (λ x. group_by m indent (V.All es) x) (opened (All es) (V.All es) (V.rolls-All es))

pub group-Any : (m : Lists) (indent : List ℕ) (es : List Expr) → group_text m indent (V.Any es) ≡ items indent (codes " or") (map (line_text m) es)
group-Any m indent es = ap (λ x. group_by m indent (V.Any es) x) (opened (Any es) (V.Any es) (V.rolls-Any es))

pub group-Not : (m : Lists) (indent : List ℕ) (e : Expr) → group_text m indent (V.Not e) ≡ written indent (line_text m (V.Not e)) []
group-Not m indent e = ap (λ x. group_by m indent (V.Not e) x) (opened (Not e) (V.Not e) (V.rolls-Not e))

pub group-Op : (m : Lists) (indent : List ℕ) (k : OpKind) (es : List Expr) → group_text m indent (V.Op k es) ≡ written indent (line_text m (V.Op k es)) []
group-Op m indent k es = ap (λ x. group_by m indent (V.Op k es) x) (opened (Op k es) (V.Op k es) (V.rolls-Op k es))

pub group-Certain : (m : Lists) (indent : List ℕ) (e : Expr) → group_text m indent (V.Certain e) ≡ written indent (line_text m (V.Certain e)) []
group-Certain m indent e = ap (λ x. group_by m indent (V.Certain e) x) (opened (Certain e) (V.Certain e) (V.rolls-Certain e))

pub group-Known : (m : Lists) (indent : List ℕ) (e : Expr) → group_text m indent (V.Known e) ≡ written indent (line_text m (V.Known e)) []
group-Known m indent e = ap (λ x. group_by m indent (V.Known e) x) (opened (Known e) (V.Known e) (V.rolls-Known e))

pub group-Over : (m : Lists) (indent : List ℕ) (q : Quant) (r : RelId) (es : List Expr) → group_text m indent (V.Over q r es) ≡ written indent (line_text m (V.Over q r es)) []
group-Over m indent q r es = ap (λ x. group_by m indent (V.Over q r es) x) (opened (Over q r es) (V.Over q r es) (V.rolls-Over q r es))

pub group-Window : (m : Lists) (indent : List ℕ) (k : WinKind) (es : List Expr) → group_text m indent (V.Window k es) ≡ written indent (line_text m (V.Window k es)) []
group-Window m indent k es = ap (λ x. group_by m indent (V.Window k es) x) (opened (Window k es) (V.Window k es) (V.rolls-Window k es))

pub group-Rolling : (m : Lists) (indent : List ℕ) (b : Bool) (n : ℕ) (e : Expr) → group_text m indent (V.Rolling b n e) ≡ written indent (line_text m (V.Rolling b n e)) []
group-Rolling m indent b n e = ap (λ x. group_by m indent (V.Rolling b n e) x) (opened (Rolling b n e) (V.Rolling b n e) (V.rolls-Rolling b n e))

pub group-Table : (m : Lists) (indent : List ℕ) (rows : List Row) (last : Expr) → group_text m indent (V.Table rows last) ≡ written indent (line_text m (V.Table rows last)) []
group-Table m indent rows last = ap (λ x. group_by m indent (V.Table rows last) x) (opened (Table rows last) (V.Table rows last) (V.rolls-Table rows last))

pub concluded-Const : (m : Lists) (phrase : List ℕ) (v : Value) → concluded m phrase (V.Const v) ≡ written phrase (codes " = ") (line_text m (V.Const v))
concluded-Const m phrase v = ap (λ x. concluded_by m phrase (V.Const v) x) (opened (Const v) (V.Const v) (V.rolls-Const v))

pub concluded-Attr : (m : Lists) (phrase : List ℕ) (a : AttrId) → concluded m phrase (V.Attr a) ≡ written phrase (codes " = ") (line_text m (V.Attr a))
concluded-Attr m phrase a = ap (λ x. concluded_by m phrase (V.Attr a) x) (opened (Attr a) (V.Attr a) (V.rolls-Attr a))

pub concluded-All : (m : Lists) (phrase : List ℕ) (es : List Expr) → concluded m phrase (V.All es) ≡ written phrase (codes " = ") (line_text m (V.All es))
concluded-All m phrase es = ap (λ x. concluded_by m phrase (V.All es) x) (opened (All es) (V.All es) (V.rolls-All es))

pub concluded-Any : (m : Lists) (phrase : List ℕ) (es : List Expr) → concluded m phrase (V.Any es) ≡ written phrase (codes " = ") (line_text m (V.Any es))
concluded-Any m phrase es = ap (λ x. concluded_by m phrase (V.Any es) x) (opened (Any es) (V.Any es) (V.rolls-Any es))

pub concluded-Not : (m : Lists) (phrase : List ℕ) (e : Expr) → concluded m phrase (V.Not e) ≡ written phrase (codes " = ") (line_text m (V.Not e))
concluded-Not m phrase e = ap (λ x. concluded_by m phrase (V.Not e) x) (opened (Not e) (V.Not e) (V.rolls-Not e))

pub concluded-Op : (m : Lists) (phrase : List ℕ) (k : OpKind) (es : List Expr) → concluded m phrase (V.Op k es) ≡ written phrase (codes " = ") (line_text m (V.Op k es))
concluded-Op m phrase k es = ap (λ x. concluded_by m phrase (V.Op k es) x) (opened (Op k es) (V.Op k es) (V.rolls-Op k es))

pub concluded-Certain : (m : Lists) (phrase : List ℕ) (e : Expr) → concluded m phrase (V.Certain e) ≡ written phrase (codes " = ") (line_text m (V.Certain e))
concluded-Certain m phrase e = ap (λ x. concluded_by m phrase (V.Certain e) x) (opened (Certain e) (V.Certain e) (V.rolls-Certain e))

pub concluded-Known : (m : Lists) (phrase : List ℕ) (e : Expr) → concluded m phrase (V.Known e) ≡ written phrase (codes " = ") (line_text m (V.Known e))
concluded-Known m phrase e = ap (λ x. concluded_by m phrase (V.Known e) x) (opened (Known e) (V.Known e) (V.rolls-Known e))

pub concluded-Over : (m : Lists) (phrase : List ℕ) (q : Quant) (r : RelId) (es : List Expr) → concluded m phrase (V.Over q r es) ≡ written phrase (codes " = ") (line_text m (V.Over q r es))
concluded-Over m phrase q r es = ap (λ x. concluded_by m phrase (V.Over q r es) x) (opened (Over q r es) (V.Over q r es) (V.rolls-Over q r es))

pub concluded-Window : (m : Lists) (phrase : List ℕ) (k : WinKind) (es : List Expr) → concluded m phrase (V.Window k es) ≡ written phrase (codes " = ") (line_text m (V.Window k es))
concluded-Window m phrase k es = ap (λ x. concluded_by m phrase (V.Window k es) x) (opened (Window k es) (V.Window k es) (V.rolls-Window k es))

pub concluded-Rolling : (m : Lists) (phrase : List ℕ) (b : Bool) (n : ℕ) (e : Expr) → concluded m phrase (V.Rolling b n e) ≡ written phrase (codes " = ") (line_text m (V.Rolling b n e))
concluded-Rolling m phrase b n e = ap (λ x. concluded_by m phrase (V.Rolling b n e) x) (opened (Rolling b n e) (V.Rolling b n e) (V.rolls-Rolling b n e))

pub concluded-Table : (m : Lists) (phrase : List ℕ) (rows : List Row) (last : Expr) → concluded m phrase (V.Table rows last) ≡ written [] phrase (codes " =") ++ (cases m rows ++ written (codes "  ") (line_text m last) (codes " otherwise"))
concluded-Table m phrase rows last = ap (λ x. concluded_by m phrase (V.Table rows last) x) (opened (Table rows last) (V.Table rows last) (V.rolls-Table rows last))

pub ruleset groups = (group-Const, group-Attr, group-All, group-Any, group-Not, group-Op, group-Certain, group-Known, group-Over, group-Window, group-Rolling, group-Table)

pub ruleset conclusions = (concluded-Const, concluded-Attr, concluded-All, concluded-Any, concluded-Not, concluded-Op, concluded-Certain, concluded-Known, concluded-Over, concluded-Window, concluded-Rolling, concluded-Table)
