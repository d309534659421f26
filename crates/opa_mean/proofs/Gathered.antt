-- What is gathered of trees, one after another.
use Rattle.std.proofs.Common.{◌≡◌, ◌⊎◌, inl, inr, ℕ, ◌<◌, ◌+◌, Bool, List, [], ◌∷◌, ◌++◌, length, take, get_or, Option, refl, sym, ap, subst, arith}
use Rattle.std.specs.Prelude.{flat_map}
use Rattle.std.specs.List.{Contains}
use Rattle.std.proofs.lemmas.List.Elements.{Contains-append_left, Contains-append_right, Contains-append_cases}
use Rattle.std.proofs.Math.Path.{fun_ext}
use Rattle.opa_value.specs.declared.value.Value.{Value}
use Rattle.opa_model.specs.declared.ids.AttrId.{AttrId}
use Rattle.opa_model.specs.declared.ids.RelId.{RelId}
use Rattle.opa_cells.specs.Instances.{named}
use Rattle.opa_cells.specs.declared.instance.InstanceId.{InstanceId}
use Rattle.opa_case.specs.Live.{Lists}
use Rattle.opa_case.specs.Shapes.{Shape}
use Rattle.opa_case.specs.declared.question.Question.{Question}
use Rattle.opa_case.specs.declared.question.Question.TheVariants as question
use Rattle.opa_tree.specs.declared.kinds.OpKind.{OpKind}
use Rattle.opa_tree.specs.declared.kinds.Quant.{Quant}
use Rattle.opa_tree.specs.declared.kinds.WinKind.{WinKind}
use Rattle.opa_tree.specs.declared.expr.Expr.{Expr}
use Rattle.opa_tree.specs.declared.expr.Row.{Row}
use Rattle.opa_tree.specs.declared.expr.Expr.TheVariants as V
use Rattle.opa_mean.specs.Gathering.{AreThose, names_reads, over_reads, WasGathered, Gathers, IsGathered}
use Rattle.opa_mean.specs.Places.{place, owner_of}
use Rattle.opa_mean.specs.Reads.{Reads, at_place_reads, reads, trees_reads, rows_reads}
use Rattle.opa_mean.proofs.Comparing.{split_next}
use Rattle.opa_mean.proofs.ReadLaws.{reads-Const, reads-Attr, reads-All, reads-Any, reads-Not, reads-Op, reads-Certain, reads-Known, reads-Over, reads-Window, reads-Rolling, reads-Table}

module _ (s : Shape) (members : Lists) (up : InstanceId → Option InstanceId) where
  pub same-Const : (v : Value) → reads s members up (V.Const v) ≡ (λ e. [])
  same-Const v = fun_ext (λ e. reads-Const s members up v e)

  pub same-Attr : (a : AttrId) → reads s members up (V.Attr a) ≡ (λ e. at_place_reads (place up e (owner_of s a)) (λ i. question.Attr a i ∷ []))
  same-Attr a = fun_ext (λ e. reads-Attr s members up a e)

  pub same-All : (es : List Expr) → reads s members up (V.All es) ≡ trees_reads s members up es
  same-All es = fun_ext (λ e. reads-All s members up es e)

  pub same-Any : (es : List Expr) → reads s members up (V.Any es) ≡ trees_reads s members up es
  same-Any es = fun_ext (λ e. reads-Any s members up es e)

  pub same-Not : (x : Expr) → reads s members up (V.Not x) ≡ reads s members up x
  same-Not x = fun_ext (λ e. reads-Not s members up x e)

  pub same-Op : (k : OpKind) (es : List Expr) → reads s members up (V.Op k es) ≡ trees_reads s members up es
  same-Op k es = fun_ext (λ e. reads-Op s members up k es e)

  pub same-Certain : (x : Expr) → reads s members up (V.Certain x) ≡ reads s members up x
  same-Certain x = fun_ext (λ e. reads-Certain s members up x e)

  pub same-Known : (x : Expr) → reads s members up (V.Known x) ≡ reads s members up x
  same-Known x = fun_ext (λ e. reads-Known s members up x e)

  pub same-Over : (q : Quant) (r : RelId) (es : List Expr) → reads s members up (V.Over q r es) ≡ over_reads s members up r es
  same-Over q r es = fun_ext (λ e. reads-Over s members up q r es e)

  pub same-Window : (k : WinKind) (es : List Expr) → reads s members up (V.Window k es) ≡ trees_reads s members up es
  same-Window k es = fun_ext (λ e. reads-Window s members up k es e)

  pub same-Rolling : (b : Bool) (n : ℕ) (x : Expr) → reads s members up (V.Rolling b n x) ≡ reads s members up x
  same-Rolling b n x = fun_ext (λ e. reads-Rolling s members up b n x e)

  pub same-Table : (rs : List Row) (last : Expr) → reads s members up (V.Table rs last) ≡ (λ e. rows_reads s members up rs e ++ reads s members up last e)
  same-Table rs last = fun_ext (λ e. reads-Table s members up rs last e)

pub ruleset gather_laws = (same-Const, same-Attr, same-All, same-Any, same-Not, same-Op, same-Certain, same-Known, same-Over, same-Window, same-Rolling, same-Table)

module _ (enclosing passed : List InstanceId) where
  pub gathers_as : (these those : Reads) (old new : List Question) → those ≡ these → Gathers these enclosing passed old new → Gathers those enclosing passed old new
  gathers_as these those old new is gathers = subst (λ (r : Reads). Gathers r enclosing passed old new) (sym is) gathers

  -- where nothing is looked at
  pub gathers_none : (old : List Question) → Gathers (λ e. []) enclosing passed old old
  gathers_none old = record {
    stay = λ q has. has;
    there = λ was q has. let few : has.0 < 0 = has.1 in absurd (omega (arith, few));
    only = λ q has. inl has;
  }

  -- where exactly it is added
  pub gathers_all : (these : Reads) (old new : List Question) → new ≡ old ++ these enclosing → Gathers these enclosing passed old new
  gathers_all these old new is = record {
    stay = λ q has. subst (λ qs. Contains qs q) (sym is) (Contains-append_left old (these enclosing) q has);
    there = λ was q has. subst (λ qs. Contains qs q) (sym is) (Contains-append_right old (these enclosing) q has);
    only = λ q has. Contains-append_cases old (these enclosing) q (subst (λ qs. Contains qs q) is has);
  }

  -- what was gathered already
  pub gathers_again : (these : Reads) (old : List Question) → IsGathered these enclosing passed → Gathers these enclosing passed old old
  gathers_again these old is = record {
    stay = λ q has. has;
    there = λ was q has. at was q has;
    only = λ q has. inl has;
  }
    where
      at : WasGathered these passed old → (q : Question) → Contains (these enclosing) q → Contains old q
      at (inl none) q has = absurd (is.some none)
      at (inr there) q has = there q (subst (λ qs. Contains qs q) is.same has)

  -- of several things, those before a next one and that
  pub gathers_both : (first second : Reads) (old middle new : List Question) → Gathers first enclosing passed old middle → Gathers second enclosing passed middle new → Gathers (λ e. first e ++ second e) enclosing passed old new
  gathers_both first second old middle new one other = record {
    stay = λ q has. other.stay q (one.stay q has);
    there = λ was q has. at was q (Contains-append_cases (first enclosing) (second enclosing) q has);
    only = λ q has. from q (other.only q has);
  }
    where
      was_first : WasGathered (λ e. first e ++ second e) passed old → WasGathered first passed old
      was_first (inl none) = inl none
      was_first (inr there) = inr (λ q has. there q (Contains-append_left (first passed) (second passed) q has))

      was_second : WasGathered (λ e. first e ++ second e) passed old → WasGathered second passed middle
      was_second (inl none) = inl none
      was_second (inr there) = inr (λ q has. one.stay q (there q (Contains-append_right (first passed) (second passed) q has)))

      at : WasGathered (λ e. first e ++ second e) passed old → (q : Question) → Contains (first enclosing) q ⊎ Contains (second enclosing) q → Contains new q
      at was q (inl has) = other.stay q (one.there (was_first was) q has)
      at was q (inr has) = other.there (was_second was) q has

      before : (q : Question) → Contains old q ⊎ Contains (first enclosing) q → Contains old q ⊎ Contains (first enclosing ++ second enclosing) q
      before q (inl has) = inl has
      before q (inr has) = inr (Contains-append_left (first enclosing) (second enclosing) q has)

      from : (q : Question) → Contains middle q ⊎ Contains (second enclosing) q → Contains old q ⊎ Contains (first enclosing ++ second enclosing) q
      from q (inl has) = before q (one.only q has)
      from q (inr has) = inr (Contains-append_right (first enclosing) (second enclosing) q has)

  pub gathers_next : {X : Type 0} (of : X → Reads) (xs : List X) (i : ℕ) (x : X) (old middle new : List Question) → i < length xs → x ≡ get_or xs i x → Gathers (λ e. flat_map (λ y. of y e) (take i xs)) enclosing passed old middle
      → Gathers (of x) enclosing passed middle new → Gathers (λ e. flat_map (λ y. of y e) (take (i + 1) xs)) enclosing passed old new
  gathers_next of xs i x old middle new lt is one other = gathers_as (λ e. flat_map (λ y. of y e) (take i xs) ++ of x e) (λ e. flat_map (λ y. of y e) (take (i + 1) xs)) old new (fun_ext (λ e. split_next of xs i x lt is e)) (gathers_both (λ e. flat_map (λ y. of y e) (take i xs)) (of x) old middle new one other)

  -- what is gathered where nothing was passed is gathered in any case, and so is what is the same here
  pub gathers_here : (these those : Reads) (old new : List Question) → those enclosing ≡ these enclosing → Gathers these enclosing [] old new → Gathers those enclosing passed old new
  gathers_here these those old new is gathers = record {
    stay = gathers.stay;
    there = λ was q has. gathers.there (inl refl) q (subst (λ qs. Contains qs q) is has);
    only = λ q has. subst (λ qs. Contains old q ⊎ Contains qs q) (sym is) (gathers.only q has);
  }

-- the next member: what was gathered at the one before is there, and then so is what is looked at among these
abbrev pub AreListed : Shape → Lists → (InstanceId → Option InstanceId) → ℕ → List Expr → List InstanceId → List (List ℕ) → List Question → List Question → List InstanceId → Type 0
AreListed s members up t es enclosing names old new last = Gathers (names_reads s members up t es names) enclosing [] old new × WasGathered (trees_reads s members up es) last new

pub listed_next : (s : Shape) (members : Lists) (up : InstanceId → Option InstanceId) (t : ℕ) (es : List Expr) (enclosing : List InstanceId) (names : List (List ℕ)) (i : ℕ) (n : List ℕ) (old middle new : List Question) (last inner : List InstanceId)
    → i < length names → n ≡ get_or names i n → inner ≡ named t n ∷ enclosing → AreListed s members up t es enclosing (take i names) old middle last → Gathers (trees_reads s members up es) inner last middle new
    → AreListed s members up t es enclosing (take (i + 1) names) old new inner
listed_next s members up t es enclosing names i n old middle new last inner lt is at are gathers =
    (gathers_next enclosing [] (λ y e. trees_reads s members up es (named t y ∷ e)) names i n old middle new lt is are.0 here, inr (gathers.there are.1))
  where
    here : Gathers (λ e. trees_reads s members up es (named t n ∷ e)) enclosing [] middle new
    here = record {
      stay = gathers.stay;
      there = λ was q has. gathers.there are.1 q (subst (λ around. Contains (trees_reads s members up es around) q) (sym at) has);
      only = λ q has. subst (λ around. Contains middle q ⊎ Contains (trees_reads s members up es around) q) at (gathers.only q has);
    }

-- from the start, exactly that is there
pub gathers_whole : (these : Reads) (enclosing : List InstanceId) (old new : List Question) → old ≡ [] → Gathers these enclosing [] old new → AreThose new (these enclosing)
gathers_whole these enclosing old new none gathers q = (λ has. at (gathers.only q has), λ has. gathers.there (inl refl) q has)
  where
    at : Contains old q ⊎ Contains (these enclosing) q → Contains (these enclosing) q
    at (inl has) = let few : has.0 < length old = has.1 in absurd (omega (arith, few, ap length none))
    at (inr has) = has
