-- What is gathered from one listed instance to the next.
use Rattle.std.proofs.Common.{◌≡◌, ℕ, ◌+◌, ◌<◌, ◌^◌, true, false, List, [], ◌∷◌, ◌++◌, Option, None, Some, length, take, drop, get_or, refl, sym, ◌∙◌, ap, subst, arith}
use Rattle.std.specs.Prelude.{slice_set}
use Rattle.std.proofs.lemmas.List.{length-map, length-append, length-take}
use Rattle.opa_date.specs.declared.TheConstants.{DAYS}
use Rattle.opa_value.specs.declared.value.Value.{Value}
use Rattle.opa_value.specs.declared.value.Value.TheVariants.{Uncertain}
use Rattle.opa_line.specs.Lines.{StandsFor}
use Rattle.opa_model.specs.declared.ids.AttrId.{AttrId}
use Rattle.opa_tree.specs.declared.kinds.Quant.{Quant}
use Rattle.opa_tree.specs.declared.kinds.Quant.TheVariants as quant
use Rattle.opa_cells.specs.Instances.{named}
use Rattle.opa_cells.specs.declared.instance.InstanceId.{InstanceId}
use Rattle.opa_mean.specs.Looks.{Look}
use Rattle.opa_mean.specs.Meaning.{Meaning, each, item, quant_of, amount, at_place, first_value}
use Rattle.opa_mean.specs.Places.{place}
use Rattle.opa_mean.proofs.Values.{items_more}
use Rattle.opa_code.specs.OverLines.Additions.{Gathered, IsAdded, HasRoom, gathers}
use Rattle.opa_code.specs.OverLines.Lines.{values_at}
use Rattle.opa_code.specs.OverLines.Tallies.{gather_of}
use Rattle.opa_code.specs.declared.over_lines.gathering.Gathering.{Gathering}
use Rattle.opa_code.specs.declared.over_lines.items.Items.{Items}
use Rattle.opa_code.proofs.over_lines.Adding.{few_have_room, item_one}
use Rattle.opa_code.specs.Running.{Run, put}
use Rattle.opa_code.specs.Steps.{Leaves, IsListed, IsFirst, IsGathered, IsItem, Collected, HasPlace, items_at, attribute_at, attribute_in, is_count}
use Rattle.opa_code.specs.declared.node.Node.{Node}
use Rattle.opa_code.specs.declared.node.Node.TheVariants as node
use Rattle.opa_code.proofs.Inverting.{IsPlain, run_none, run_step}
use Rattle.opa_code.proofs.Standing.{stand_values, stands_same}

-- what is gathered, where something is
abbrev gathered_by : Option Gathering → List Value → Value
gathered_by None vs = Uncertain
gathered_by (Some how) vs = gather_of how vs

-- a first place stands before the enclosing instances
pub place_begun : (x : InstanceId) (enclosing all : List InstanceId) → all ≡ x ∷ enclosing → HasPlace enclosing all
place_begun x enclosing all is = record {
  some = omega (arith, ap length is);
  behind = ap (drop 1) is;
}

pub place_again : (enclosing old new : List InstanceId) (i : InstanceId) → new ≡ i ∷ drop 1 old → HasPlace enclosing old → HasPlace enclosing new
place_again enclosing old new i is h = record {
  some = omega (arith, ap length is);
  behind = ap (drop 1) is ∙ h.behind;
}

pub few_taken : {X : Type 0} (xs : List X) (i : ℕ) → length xs < 2 ^ 63 → length (take i xs) < 2 ^ 63
few_taken xs i few = let k = length-take i xs in omega (arith, k, few)

pub place_filled : (xs : List InstanceId) (x i : InstanceId) → 0 < length xs → x ≡ i → slice_set xs 0 x ≡ i ∷ drop 1 xs
place_filled [] x i some e = absurd (omega (arith, some))
place_filled (y ∷ xs) x i some e = ap (λ z. z ∷ xs) e

same_pair : (p q : AttrId × ℕ) → Some p ≡ Some q → p ≡ q
same_pair p q e = cc

attribute_is : (ns : List Node) (a : AttrId) (owner : ℕ) → attribute_at ns ≡ Some (a, owner) → ns ≡ node.Attr a owner ∷ []
attribute_is [] a owner e = absurd (cc e)
attribute_is (n ∷ m ∷ ns) a owner e = absurd (cc e)
attribute_is (node.Attr b o ∷ []) a owner e = ap (λ (p : AttrId × ℕ). node.Attr p.0 p.1 ∷ []) (same_pair (b, o) (a, owner) e)
attribute_is (node.Const v ∷ []) a owner e = absurd (cc e)
attribute_is (node.All k ∷ []) a owner e = absurd (cc e)
attribute_is (node.Any k ∷ []) a owner e = absurd (cc e)
attribute_is (node.Not ∷ []) a owner e = absurd (cc e)
attribute_is (node.Op k n ∷ []) a owner e = absurd (cc e)
attribute_is (node.Certain ∷ []) a owner e = absurd (cc e)
attribute_is (node.Known ∷ []) a owner e = absurd (cc e)
attribute_is (node.Over q r s t k ∷ []) a owner e = absurd (cc e)
attribute_is (node.Window k n ∷ []) a owner e = absurd (cc e)
attribute_is (node.Rolling b n ∷ []) a owner e = absurd (cc e)
attribute_is (node.Choose ∷ []) a owner e = absurd (cc e)
attribute_is (node.Leave how k n ∷ []) a owner e = absurd (cc e)
attribute_is (node.Pass n ∷ []) a owner e = absurd (cc e)

pub reads_attribute : (n : Node) (a : AttrId) (owner : ℕ) → attribute_in n ≡ Some (a, owner) → n ≡ node.Attr a owner
reads_attribute n a owner e = cc (attribute_is (n ∷ []) a owner e)

-- what is gathered is what the quantifier makes of the items
gathers_is : (q : Quant) (how : Gathering) (vs : List Value) → gathers q ≡ Some how → gather_of how vs ≡ quant_of q vs
gathers_is quant.ForAll how vs e = ap (λ o. gathered_by o vs) (sym e)
gathers_is quant.Exists how vs e = ap (λ o. gathered_by o vs) (sym e)
gathers_is quant.For how vs e = absurd (cc e)
gathers_is quant.Count how vs e = absurd (cc e)
gathers_is quant.CountIf how vs e = ap (λ o. gathered_by o vs) (sym e)
gathers_is quant.Sum how vs e = ap (λ o. gathered_by o vs) (sym e)
gathers_is quant.SumIf how vs e = ap (λ o. gathered_by o vs) (sym e)
gathers_is quant.Maximum how vs e = ap (λ o. gathered_by o vs) (sym e)
gathers_is quant.Minimum how vs e = ap (λ o. gathered_by o vs) (sym e)

counts_is : (q : Quant) (vs : List Value) → is_count q ≡ true → amount (length vs) ≡ quant_of q vs
counts_is quant.Count vs e = refl
counts_is quant.ForAll vs e = absurd (cc e)
counts_is quant.Exists vs e = absurd (cc e)
counts_is quant.For vs e = absurd (cc e)
counts_is quant.CountIf vs e = absurd (cc e)
counts_is quant.Sum vs e = absurd (cc e)
counts_is quant.SumIf vs e = absurd (cc e)
counts_is quant.Maximum vs e = absurd (cc e)
counts_is quant.Minimum vs e = absurd (cc e)

-- the other quantifier takes the first
first_of : (q : Quant) (vs : List Value) → is_count q ≡ false → gathers q ≡ None → first_value vs ≡ quant_of q vs
first_of quant.For vs other e = refl
first_of quant.Count vs other e = absurd (cc other)
first_of quant.ForAll vs other e = absurd (cc e)
first_of quant.Exists vs other e = absurd (cc e)
first_of quant.CountIf vs other e = absurd (cc e)
first_of quant.Sum vs other e = absurd (cc e)
first_of quant.SumIf vs other e = absurd (cc e)
first_of quant.Maximum vs other e = absurd (cc e)
first_of quant.Minimum vs other e = absurd (cc e)

module _ (l : Look) (enclosing : List InstanceId) (operand : List Node) where
  pub count_listed : (q : Quant) (target : ℕ) (names : List (List ℕ)) (line : List (ℕ × Value)) → is_count q ≡ true → StandsFor DAYS (λ d. amount (length names)) line → IsListed l enclosing operand q target names line
  count_listed q target names line counts stands ms run =
      stands_same line _ _ (λ d lt. ap amount (sym (length-map names (λ name. item q (each ms (named target name ∷ enclosing) d)))) ∙ counts_is q (items_at q target ms enclosing names d) counts) stands

  pub first_listed : (q : Quant) (target : ℕ) (names : List (List ℕ)) (line : List (ℕ × Value)) → is_count q ≡ false → gathers q ≡ None → IsFirst l enclosing operand q target names line → IsListed l enclosing operand q target names line
  first_listed q target names line other none first ms run = stands_same line _ _ (λ d lt. first_of q (items_at q target ms enclosing names d) other none) (first ms run)

  pub gathered_listed : (q : Quant) (how : Gathering) (target : ℕ) (names : List (List ℕ)) (line : List (ℕ × Value)) → gathers q ≡ Some how → IsGathered l enclosing operand q how target names line → IsListed l enclosing operand q target names line
  gathered_listed q how target names line some gathered ms run = stands_same line _ _ (λ d lt. gathers_is q how (items_at q target ms enclosing names d) some) (gathered ms run)

  -- the lines that the operand leaves at a listed instance
  left_at : (inner : List InstanceId) (target : ℕ) (name : List ℕ) (lines : List (List (ℕ × Value))) → inner ≡ named target name ∷ enclosing → Leaves l inner operand lines → (ms : List Meaning) → Run l operand [] ms → (d : ℕ) → d < DAYS
      → values_at lines d ≡ each ms (named target name ∷ enclosing) d
  left_at inner target name lines is leaves ms run d lt = stand_values inner lines ms (leaves ms run) d lt ∙ ap (λ e. each ms e d) is

  pub none_first : (q : Quant) (target : ℕ) (names : List (List ℕ)) (line : List (ℕ × Value)) → names ≡ [] → StandsFor DAYS (λ d. first_value []) line → IsFirst l enclosing operand q target names line
  none_first q target names line none stands ms run = stands_same line _ _ (λ d lt. ap (λ ns. first_value (items_at q target ms enclosing ns d)) (sym none)) stands

  pub some_first : (q : Quant) (target : ℕ) (names others : List (List ℕ)) (name : List ℕ) (inner : List InstanceId) (lines : List (List (ℕ × Value))) (line : List (ℕ × Value)) → names ≡ name ∷ others → inner ≡ named target name ∷ enclosing
      → Leaves l inner operand lines → StandsFor DAYS (λ d. item q (values_at lines d)) line → IsFirst l enclosing operand q target names line
  some_first q target names others name inner lines line some is leaves stands ms run =
      stands_same line _ _ (λ d lt. ap (item q) (left_at inner target name lines is leaves ms run d lt) ∙ ap (λ ns. first_value (items_at q target ms enclosing ns d)) (sym some)) stands

  -- the operand's lines as an item
  pub lines_item : (q : Quant) (lines : List (List (ℕ × Value))) (old new : Items) → Leaves l enclosing operand lines → IsAdded (λ d. item q (values_at lines d)) old new → IsItem l enclosing operand q old new
  lines_item q lines old new leaves added = record {
    value = λ d. item q (values_at lines d);
    added = added;
    right = λ ms run d lt. ap (item q) (stand_values enclosing lines ms (leaves ms run) d lt);
  }

  -- an operand that is an attribute alone
  pub attribute_item : (q : Quant) (a : AttrId) (owner : ℕ) (old new : Items) → attribute_at operand ≡ Some (a, owner) → IsAdded (λ d. at_place (place l.container enclosing owner) (λ i. l.value a i d)) old new → IsItem l enclosing operand q old new
  attribute_item q a owner old new is added = record {
    value = λ d. at_place (place l.container enclosing owner) (λ i. l.value a i d);
    added = added;
    right = λ ms run d lt. sym (ap (λ ks. item q (each ks enclosing d)) (sym (left ms run)) ∙ item_one q (at_place (place l.container enclosing owner) (λ i. l.value a i d)));
  }
    where
      left : (ms : List Meaning) → Run l operand [] ms → put l (node.Attr a owner) [] ≡ ms
      left ms run =
          let plain : IsPlain (node.Attr a owner) = record { no_over = refl; no_leave = refl; no_pass = refl } in
          let s = run_step l operand (node.Attr a owner) [] [] ms (attribute_is operand a owner is) plain run in
          run_none l [] (put l (node.Attr a owner) []) ms refl s.goes

  module _ (q : Quant) (how : Gathering) (target : ℕ) where
    -- no listed instance yet
    pub none_collected : (held : Items) (names : List (List ℕ)) → names ≡ [] → Gathered (λ d. []) held → held.gathering ≡ how → Collected l enclosing operand q how target names held
    none_collected held names none gathered same = record {
      values = λ d. [];
      gathering = same;
      gathered = gathered;
      size = ap length (sym none);
      right = λ ms run d lt. ap (λ ns. items_at q target ms enclosing ns d) (sym none);
    }

    pub collected_room : (held : Items) (names : List (List ℕ)) → length names < 2 ^ 63 → Collected l enclosing operand q how target names held → HasRoom held
    collected_room held names few c = few_have_room c.values held (subst (λ n. n < 2 ^ 63) (sym c.size) few) c.gathered

    -- one listed instance more
    pub collected_more : (old new : Items) (names : List (List ℕ)) (i : ℕ) (name : List ℕ) (inner : List InstanceId) → i < length names → name ≡ get_or names i name → inner ≡ named target name ∷ enclosing
        → IsItem l inner operand q old new → Collected l enclosing operand q how target (take i names) old → Collected l enclosing operand q how target (take (i + 1) names) new
    collected_more old new names i name inner lt is inner_is more c = record {
      values = λ d. c.values d ++ more.value d ∷ [];
      gathering = more.added.gathering ∙ c.gathering;
      gathered = more.added.gathered c.values c.gathered;
      size = length-append (c.values 0) (more.value 0 ∷ []) ∙ ap (λ n. n + 1) c.size ∙ sizes;
      right = λ ms run d lt'. items_more (λ n. item q (each ms (named target n ∷ enclosing) d)) names i name (c.values d) (c.values d ++ more.value d ∷ []) (more.value d) lt is (c.right ms run d lt') refl
          (more.right ms run d lt' ∙ ap (λ e. item q (each ms e d)) inner_is);
    }
      where
        sizes : length (take i names) + 1 ≡ length (take (i + 1) names)
        sizes = simp length-take (omega (arith, lt))

    -- all listed instances
    pub collected_all : (held : Items) (names : List (List ℕ)) (line : List (ℕ × Value)) → Collected l enclosing operand q how target names held
        → ((values : ℕ → List Value) → Gathered values held → StandsFor DAYS (λ d. gather_of held.gathering (values d)) line) → IsGathered l enclosing operand q how target names line
    collected_all held names line c told ms run =
        stands_same line _ _ (λ d lt. ap (λ g. gather_of g (c.values d)) c.gathering ∙ ap (gather_of how) (c.right ms run d lt)) (told c.values c.gathered)
