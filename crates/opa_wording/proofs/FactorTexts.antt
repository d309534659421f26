-- The texts of each sort of tree, as a factor and as a line.
use Rattle.std.proofs.Common.{◌≡◌, ℕ, Bool, false, List, [], ◌∷◌, map, sym, ap, ◌∙◌}
use Rattle.std.specs.Prelude.{codes}
use Rattle.opa_value.specs.declared.value.Value.{Value}
use Rattle.opa_model.specs.declared.ids.AttrId.{AttrId}
use Rattle.opa_model.specs.declared.ids.RelId.{RelId}
use Rattle.opa_model.specs.declared.lists.Lists.{Lists}
use Rattle.opa_model.specs.Lookups.{attribute_at}
use Rattle.opa_tree.specs.declared.kinds.OpKind.{OpKind}
use Rattle.opa_tree.specs.declared.kinds.Quant.{Quant}
use Rattle.opa_tree.specs.declared.kinds.WinKind.{WinKind}
use Rattle.opa_tree.specs.declared.expr.Expr.{Expr}
use Rattle.opa_tree.specs.declared.expr.Row.{Row}
use Rattle.opa_tree.specs.declared.expr.Expr.TheVariants as V
use Rattle.opa_words.specs.Pieces.{word}
use Rattle.opa_words.specs.Written.{text_of}
use Rattle.opa_wording.specs.declared.joint.Joint.TheVariants as joint
use Rattle.opa_wording.specs.Signs.{quant_text, window_text, rolling_text}
use Rattle.opa_wording.specs.Wordings.{Wording, token, bracketed, call, denial, in_brackets, listed, literal, operation, over_days, phrase, phrase_of_attribute, wording}
use Rattle.opa_wording.proofs.WordingLaws.{wording-Const, wording-Attr, wording-All, wording-Any, wording-Not, wording-Op, wording-Certain, wording-Known, wording-Over, wording-Window, wording-Rolling, wording-Table}

abbrev pub factor_text : Lists → Bool → Expr → List ℕ
factor_text m s e = text_of ((wording m e).as_factor s)

abbrev pub line_text : Lists → Bool → Expr → List ℕ
line_text m s e = text_of ((wording m e).as_line s)

pub factor-Const : (m : Lists) (s : Bool) (v : Value) → factor_text m s (V.Const v) ≡ text_of (literal s v)
factor-Const m s v = ap (λ (w : Wording). text_of (w.as_factor s)) (wording-Const m v)

pub factor-Attr : (m : Lists) (s : Bool) (a : AttrId) → factor_text m s (V.Attr a) ≡ text_of (phrase s (phrase_of_attribute (attribute_at m a)))
factor-Attr m s a = ap (λ (w : Wording). text_of (w.as_factor s)) (wording-Attr m a)

pub factor-All : (m : Lists) (s : Bool) (es : List Expr) → factor_text m s (V.All es) ≡ text_of (in_brackets joint.And s (map (wording m) es))
factor-All m s es = ap (λ (w : Wording). text_of (w.as_factor s)) (wording-All m es)

pub factor-Any : (m : Lists) (s : Bool) (es : List Expr) → factor_text m s (V.Any es) ≡ text_of (in_brackets joint.Or s (map (wording m) es))
factor-Any m s es = ap (λ (w : Wording). text_of (w.as_factor s)) (wording-Any m es)

pub factor-Not : (m : Lists) (s : Bool) (e : Expr) → factor_text m s (V.Not e) ≡ text_of (denial s (wording m e))
factor-Not m s e = ap (λ (w : Wording). text_of (w.as_factor s)) (wording-Not m e)

pub factor-Op : (m : Lists) (s : Bool) (k : OpKind) (es : List Expr) → factor_text m s (V.Op k es) ≡ text_of ((operation k (map (wording m) es)).as_factor s)
factor-Op m s k es = ap (λ (w : Wording). text_of (w.as_factor s)) (wording-Op m k es)

pub factor-Certain : (m : Lists) (s : Bool) (e : Expr) → factor_text m s (V.Certain e) ≡ text_of (call s (word (codes "Certain")) (wording m e ∷ []))
factor-Certain m s e = ap (λ (w : Wording). text_of (w.as_factor s)) (wording-Certain m e)

pub factor-Known : (m : Lists) (s : Bool) (e : Expr) → factor_text m s (V.Known e) ≡ text_of (call s (word (codes "CurrentlyKnown")) (wording m e ∷ []))
factor-Known m s e = ap (λ (w : Wording). text_of (w.as_factor s)) (wording-Known m e)

pub factor-Over : (m : Lists) (s : Bool) (q : Quant) (r : RelId) (es : List Expr) → factor_text m s (V.Over q r es) ≡ text_of (token s (word (quant_text q)) ∷ bracketed false (listed m r (map (wording m) es)))
factor-Over m s q r es = ap (λ (w : Wording). text_of (w.as_factor s)) (wording-Over m q r es)

pub factor-Window : (m : Lists) (s : Bool) (k : WinKind) (es : List Expr) → factor_text m s (V.Window k es) ≡ text_of (call s (word (window_text k)) (map (wording m) es))
factor-Window m s k es = ap (λ (w : Wording). text_of (w.as_factor s)) (wording-Window m k es)

pub factor-Rolling : (m : Lists) (s : Bool) (b : Bool) (n : ℕ) (e : Expr) → factor_text m s (V.Rolling b n e) ≡ text_of (token s (word (rolling_text b)) ∷ bracketed false (over_days n (wording m e)))
factor-Rolling m s b n e = ap (λ (w : Wording). text_of (w.as_factor s)) (wording-Rolling m b n e)

pub factor-Table : (m : Lists) (s : Bool) (rows : List Row) (last : Expr) → factor_text m s (V.Table rows last) ≡ text_of ([])
factor-Table m s rows last = ap (λ (w : Wording). text_of (w.as_factor s)) (wording-Table m rows last)

pub line-Const : (m : Lists) (s : Bool) (v : Value) → line_text m s (V.Const v) ≡ factor_text m s (V.Const v)
line-Const m s v = ap (λ (w : Wording). text_of (w.as_line s)) (wording-Const m v) ∙ sym (ap (λ (w : Wording). text_of (w.as_factor s)) (wording-Const m v))

pub line-Attr : (m : Lists) (s : Bool) (a : AttrId) → line_text m s (V.Attr a) ≡ factor_text m s (V.Attr a)
line-Attr m s a = ap (λ (w : Wording). text_of (w.as_line s)) (wording-Attr m a) ∙ sym (ap (λ (w : Wording). text_of (w.as_factor s)) (wording-Attr m a))

pub line-All : (m : Lists) (s : Bool) (es : List Expr) → line_text m s (V.All es) ≡ factor_text m s (V.All es)
line-All m s es = ap (λ (w : Wording). text_of (w.as_line s)) (wording-All m es) ∙ sym (ap (λ (w : Wording). text_of (w.as_factor s)) (wording-All m es))

pub line-Any : (m : Lists) (s : Bool) (es : List Expr) → line_text m s (V.Any es) ≡ factor_text m s (V.Any es)
line-Any m s es = ap (λ (w : Wording). text_of (w.as_line s)) (wording-Any m es) ∙ sym (ap (λ (w : Wording). text_of (w.as_factor s)) (wording-Any m es))

pub line-Not : (m : Lists) (s : Bool) (e : Expr) → line_text m s (V.Not e) ≡ factor_text m s (V.Not e)
line-Not m s e = ap (λ (w : Wording). text_of (w.as_line s)) (wording-Not m e) ∙ sym (ap (λ (w : Wording). text_of (w.as_factor s)) (wording-Not m e))

pub line-Op : (m : Lists) (s : Bool) (k : OpKind) (es : List Expr) → line_text m s (V.Op k es) ≡ text_of ((operation k (map (wording m) es)).as_line s)
line-Op m s k es = ap (λ (w : Wording). text_of (w.as_line s)) (wording-Op m k es)

pub line-Certain : (m : Lists) (s : Bool) (e : Expr) → line_text m s (V.Certain e) ≡ factor_text m s (V.Certain e)
line-Certain m s e = ap (λ (w : Wording). text_of (w.as_line s)) (wording-Certain m e) ∙ sym (ap (λ (w : Wording). text_of (w.as_factor s)) (wording-Certain m e))

pub line-Known : (m : Lists) (s : Bool) (e : Expr) → line_text m s (V.Known e) ≡ factor_text m s (V.Known e)
line-Known m s e = ap (λ (w : Wording). text_of (w.as_line s)) (wording-Known m e) ∙ sym (ap (λ (w : Wording). text_of (w.as_factor s)) (wording-Known m e))

pub line-Over : (m : Lists) (s : Bool) (q : Quant) (r : RelId) (es : List Expr) → line_text m s (V.Over q r es) ≡ factor_text m s (V.Over q r es)
line-Over m s q r es = ap (λ (w : Wording). text_of (w.as_line s)) (wording-Over m q r es) ∙ sym (ap (λ (w : Wording). text_of (w.as_factor s)) (wording-Over m q r es))

pub line-Window : (m : Lists) (s : Bool) (k : WinKind) (es : List Expr) → line_text m s (V.Window k es) ≡ factor_text m s (V.Window k es)
line-Window m s k es = ap (λ (w : Wording). text_of (w.as_line s)) (wording-Window m k es) ∙ sym (ap (λ (w : Wording). text_of (w.as_factor s)) (wording-Window m k es))

pub line-Rolling : (m : Lists) (s : Bool) (b : Bool) (n : ℕ) (e : Expr) → line_text m s (V.Rolling b n e) ≡ factor_text m s (V.Rolling b n e)
line-Rolling m s b n e = ap (λ (w : Wording). text_of (w.as_line s)) (wording-Rolling m b n e) ∙ sym (ap (λ (w : Wording). text_of (w.as_factor s)) (wording-Rolling m b n e))

pub line-Table : (m : Lists) (s : Bool) (rows : List Row) (last : Expr) → line_text m s (V.Table rows last) ≡ factor_text m s (V.Table rows last)
line-Table m s rows last = ap (λ (w : Wording). text_of (w.as_line s)) (wording-Table m rows last) ∙ sym (ap (λ (w : Wording). text_of (w.as_factor s)) (wording-Table m rows last))

pub ruleset factors = (factor-Const, factor-Attr, factor-All, factor-Any, factor-Not, factor-Op, factor-Certain, factor-Known, factor-Over, factor-Window, factor-Rolling, factor-Table)

pub ruleset lines = (line-Const, line-Attr, line-All, line-Any, line-Not, line-Op, line-Certain, line-Known, line-Over, line-Window, line-Rolling, line-Table)
