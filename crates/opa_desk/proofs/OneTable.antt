-- An input gives one table over a rulebase, and ends in one way.
use Rattle.std.proofs.Common.{◌≡◌, ◌⊎◌, inl, inr, ℕ, ◌+◌, Bool, true, false, List, [], ◌∷◌, ◌++◌, refl, sym, ap, ◌∙◌, subst}
use Rattle.std.specs.Prelude.{◌≢◌, is_some, Option, None, Some, Result, Ok, Err}
use Rattle.std.specs.List.{AllZip}
use Rattle.opa_case.specs.Cases.{CaseView, no_case}
use Rattle.opa_io.specs.declared.fault.Status.{Status}
use Rattle.opa_io.specs.declared.fault.Status.TheVariants as status
use Rattle.opa_model.specs.declared.lists.Lists.{Lists}
use Rattle.opa_model.specs.Lookups.{attribute_named, relation_named}
use Rattle.opa_model.specs.Models.{IsModel}
use Rattle.opa_script.specs.declared.command.Command.{Command}
use Rattle.opa_script.specs.declared.fault.CmdFault.{CmdFault}
use Rattle.opa_script.specs.Laws.{OneCommand, RefusedOrRead}
use Rattle.opa_script.proofs.LawsHold.{same_tokens}
use Rattle.opa_script.proofs.NamedOnce.{not_both}
use Rattle.opa_laws.specs.Decided.Laws.{OneCommandFault}
use Rattle.opa_parse.specs.Tables.Records.{table_records}
use Rattle.opa_text.specs.declared.pointed.Point.{Point}
use Rattle.opa_text.specs.Pointed.{SpellsPoint}
use Rattle.opa_text.proofs.PointLaws.{one_point}
use Rattle.opa_tree.specs.declared.rulebase.Rulebase.{Rulebase}
use Rattle.opa_batch.specs.declared.head.Head.{Head}
use Rattle.opa_batch.specs.declared.head.HeadFault.{HeadFault}
use Rattle.opa_batch.specs.declared.head.HeadFault.TheVariants as fault
use Rattle.opa_batch.specs.declared.head.Sort.{Sort}
use Rattle.opa_batch.specs.declared.head.Sort.TheVariants as sort
use Rattle.opa_batch.specs.Batches.{AreRows, Gives, GivesOf, heading, written_row}
use Rattle.opa_batch.specs.Heads.{AreHeads, HasPoint, IsFirstRefusal, IsHead, IsNoHead, NamesSort, refused_head}
use Rattle.opa_batch.specs.Rows.{AreCells, IsCarriedOut, IsCell, IsRecord, IsRow, change_in, command_fault, in_column, line_of, row_of, stepped}

-- ---- heads

one_pointed : (bytes : List ℕ) (p q : Point) → HasPoint bytes p → HasPoint bytes q → p ≡ q
one_pointed bytes p q h k = one_point p q k.0 (subst (SpellsPoint p) (same_tokens bytes h.0 k.0 h.1 k.1) h.2) k.2

there : {X : Type 0} (o : Option X) → is_some o ≡ true → (x : X) × (o ≡ Some x)
there None e = absurd (cc e)
there (Some x) e = (x, refl)

module _ (m : Lists) (is : IsModel m) where
  apart : (p q : Point) → p ≡ q → NamesSort m p sort.Answer → NamesSort m q sort.Names → ⊥
  apart p q e h k = let a = there (attribute_named m p.phrase) h in let r = there (relation_named m q.phrase) k in not_both m is p q a.0 r.0 e a.1 r.1

  one_sort : (p q : Point) (s t : Sort) → p ≡ q → NamesSort m p s → NamesSort m q t → s ≡ t
  one_sort p q sort.Answer sort.Answer e h k = refl
  one_sort p q sort.Answer sort.Names e h k = absurd (apart p q e h k)
  one_sort p q sort.Names sort.Answer e h k = absurd (apart q p (sym e) k h)
  one_sort p q sort.Names sort.Names e h k = refl

  same_head : (h k : Head) → h.text ≡ k.text → h.sort ≡ k.sort → h ≡ k
  same_head h k e f = ap (λ t. let x : Head = record { text = t; sort = h.sort } in x) e ∙ ap (λ s. let x : Head = record { text = k.text; sort = s } in x) f

  one_head : (cell : List ℕ) (h k : Head) → IsHead m cell h → IsHead m cell k → h ≡ k
  one_head cell h k a b = same_head h k (a.0 ∙ sym b.0) (one_sort a.1.0 b.1.0 h.sort k.sort (one_pointed cell a.1.0 b.1.0 a.1.1 b.1.1) a.1.2 b.1.2)

  pub one_heads : (cells : List (List ℕ)) (hs ks : List Head) → AreHeads m cells hs → AreHeads m cells ks → hs ≡ ks
  one_heads [] [] [] a b = refl
  one_heads [] [] (k ∷ ks) a b = absurd b
  one_heads [] (h ∷ hs) ks a b = absurd a
  one_heads (cell ∷ cells) [] ks a b = absurd a
  one_heads (cell ∷ cells) (h ∷ hs) [] a b = absurd b
  one_heads (cell ∷ cells) (h ∷ hs) (k ∷ ks) a b = ap (λ x. x ∷ hs) (one_head cell h k a.0 b.0) ∙ ap (λ xs. k ∷ xs) (one_heads cells hs ks a.1 b.1)

  none_named : (p q : Point) (s : Sort) → p ≡ q → NamesSort m p s → (attribute_named m q.phrase ≡ None) × (relation_named m q.phrase ≡ None) → ⊥
  none_named p q sort.Answer e h none =
      let f : true ≡ false = sym h ∙ ap (λ (x : Point). is_some (attribute_named m x.phrase)) e ∙ ap is_some none.0 in cc f
  none_named p q sort.Names e h none =
      let f : true ≡ false = sym h ∙ ap (λ (x : Point). is_some (relation_named m x.phrase)) e ∙ ap is_some none.1 in cc f

  head_or_none : (cell : List ℕ) (h : Head) (f : HeadFault) → f ≢ fault.NoMemory → IsHead m cell h → IsNoHead m cell f → ⊥
  head_or_none cell h fault.Shape some a b = b a.1.0 a.1.1
  head_or_none cell h fault.Name some a b = none_named a.1.0 b.0 h.sort (one_pointed cell a.1.0 b.0 a.1.1 b.1) a.1.2 b.2
  head_or_none cell h fault.NoMemory some a b = absurd (some refl)

  one_head_fault : (cell : List ℕ) (f g : HeadFault) → f ≢ fault.NoMemory → g ≢ fault.NoMemory → IsNoHead m cell f → IsNoHead m cell g → f ≡ g
  one_head_fault cell fault.Shape fault.Shape some also a b = refl
  one_head_fault cell fault.Shape fault.Name some also a b = absurd (a b.0 b.1)
  one_head_fault cell fault.Shape fault.NoMemory some also a b = absurd (also refl)
  one_head_fault cell fault.Name fault.Shape some also a b = absurd (b a.0 a.1)
  one_head_fault cell fault.Name fault.Name some also a b = refl
  one_head_fault cell fault.Name fault.NoMemory some also a b = absurd (also refl)
  one_head_fault cell fault.NoMemory g some also a b = absurd (some refl)

  pub one_refusal : (column : ℕ) (cells : List (List ℕ)) (t u : List ℕ) → IsFirstRefusal m column cells t → IsFirstRefusal m column cells u → t ≡ u
  one_refusal column [] t u a b = absurd a
  one_refusal column (cell ∷ cells) t u (inl a) (inl b) = a.3 ∙ ap (refused_head column) (one_head_fault cell a.0 b.0 a.1 b.1 a.2 b.2) ∙ sym b.3
  one_refusal column (cell ∷ cells) t u (inl a) (inr b) = absurd (head_or_none cell b.0 a.0 a.1 b.1 a.2)
  one_refusal column (cell ∷ cells) t u (inr a) (inl b) = absurd (head_or_none cell a.0 b.0 b.1 a.1 b.2)
  one_refusal column (cell ∷ cells) t u (inr a) (inr b) = one_refusal (column + 1) cells t u a.2 b.2

  pub heads_or_refusal : (column : ℕ) (cells : List (List ℕ)) (hs : List Head) (t : List ℕ) → AreHeads m cells hs → IsFirstRefusal m column cells t → ⊥
  heads_or_refusal column [] hs t a b = absurd b
  heads_or_refusal column (cell ∷ cells) [] t a b = absurd a
  heads_or_refusal column (cell ∷ cells) (h ∷ hs) t a (inl b) = head_or_none cell h b.0 b.1 a.0 b.2
  heads_or_refusal column (cell ∷ cells) (h ∷ hs) t a (inr b) = heads_or_refusal (column + 1) cells hs t a.1 b.2

-- ---- rows

module _ (r : Rulebase) (is : IsModel r.model) (one_command : OneCommand) (one_fault : OneCommandFault) (refused_or_read : RefusedOrRead) where
  one_carried : (column : ℕ) (c : CaseView) (line : List ℕ) (x y : Result CaseView (List ℕ)) → IsCarriedOut r column c line x → IsCarriedOut r column c line y → x ≡ y
  one_carried column c line x y (inl a) (inl b) = a.3 ∙ ap (λ f. Err (command_fault column f)) (one_fault r.model line a.0 b.0 a.1 b.1 a.2 b.2) ∙ sym b.3
  one_carried column c line x y (inl a) (inr b) = absurd (a.1 (refused_or_read r.model line b.0 a.0 b.1 a.2))
  one_carried column c line x y (inr a) (inl b) = absurd (b.1 (refused_or_read r.model line a.0 b.0 a.1 b.2))
  one_carried column c line x y (inr a) (inr b) = a.3 ∙ ap (λ (k : Command). in_column column (stepped r c (change_in k))) (one_command r.model is line a.0 b.0 a.2 b.2 a.1 b.1) ∙ sym b.3

  one_cell : (column : ℕ) (c : CaseView) (h : Head) (cell : List ℕ) (x y : Result CaseView (List ℕ)) → IsCell r column c h cell x → IsCell r column c h cell y → x ≡ y
  one_cell column c h [] x y a b = a ∙ sym b
  one_cell column c h (byte ∷ bytes) x y a b = one_carried column c (line_of h (byte ∷ bytes)) x y a b

  ok_or_err : {T : Type 0} (c : CaseView) (t : List ℕ) → Ok c ≡ Err t → T
  ok_or_err c t e = absurd (cc e)

  one_cells : (column : ℕ) (c : CaseView) (heads : List Head) (cells : List (List ℕ)) (x y : Result CaseView (List ℕ)) → AreCells r column c heads cells x → AreCells r column c heads cells y → x ≡ y
  one_cells column c [] cells x y a b = a ∙ sym b
  one_cells column c (h ∷ heads) [] x y a b = a ∙ sym b
  one_cells column c (h ∷ heads) (cell ∷ cells) x y (inl a) (inl b) = a.2 ∙ one_cell column c h cell (Err a.0) (Err b.0) a.1 b.1 ∙ sym b.2
  one_cells column c (h ∷ heads) (cell ∷ cells) x y (inl a) (inr b) = ok_or_err b.0 a.0 (one_cell column c h cell (Ok b.0) (Err a.0) b.1 a.1)
  one_cells column c (h ∷ heads) (cell ∷ cells) x y (inr a) (inl b) = ok_or_err a.0 b.0 (one_cell column c h cell (Ok a.0) (Err b.0) a.1 b.1)
  one_cells column c (h ∷ heads) (cell ∷ cells) x y (inr a) (inr b) =
      let same : a.0 ≡ b.0 = (let e = one_cell column c h cell (Ok a.0) (Ok b.0) a.1 b.1 in cc e) in
      one_cells (column + 1) b.0 heads cells x y (subst (λ d. AreCells r (column + 1) d heads cells x) same a.2) b.2

  one_record : (heads : List Head) (cells : List (List ℕ)) (x y : Result CaseView (List ℕ)) → IsRecord r heads cells x → IsRecord r heads cells y → x ≡ y
  one_record heads cells x y (inl a) (inl b) = a.1 ∙ sym b.1
  one_record heads cells x y (inl a) (inr b) = absurd (a.0 b.0)
  one_record heads cells x y (inr a) (inl b) = absurd (b.0 a.0)
  one_record heads cells x y (inr a) (inr b) = one_cells 1 no_case heads cells x y a.1 b.1

  one_row : (heads : List Head) (n : ℕ) (cells : List (List ℕ)) (x y : List (List ℕ)) → IsRow r heads n cells x → IsRow r heads n cells y → x ≡ y
  one_row heads n cells x y a b = a.2 ∙ ap (row_of r n) (one_record heads cells a.0 b.0 a.1 b.1) ∙ sym b.2

  one_rows : (heads : List Head) (n : ℕ) (records : List (List (List ℕ))) (t u : List ℕ) → AreRows r heads n records t → AreRows r heads n records u → t ≡ u
  one_rows heads n [] t u a b = a ∙ sym b
  one_rows heads n (cells ∷ records) t u a b =
      let row = one_row heads n cells a.0 b.0 a.1 b.1 in
      let rest = one_rows heads (n + 1) records a.2.0 b.2.0 a.2.1 b.2.1 in
      a.2.2 ∙ ap (λ cut. written_row cut ++ a.2.0) row ∙ ap (λ more. written_row b.0 ++ more) rest ∙ sym b.2.2

  -- ---- the whole

  one_given : (records : List (List (List ℕ))) (s s' : Status) (t u : List ℕ) → GivesOf r records s t → GivesOf r records s' u → (s ≡ s') × (t ≡ u)
  one_given [] s s' t u a b = (a.0 ∙ sym b.0, a.1 ∙ sym b.1)
  one_given (first ∷ records) s s' t u (inl a) (inl b) = (a.0 ∙ sym b.0, one_refusal r.model is 1 first t u a.1 b.1)
  one_given (first ∷ records) s s' t u (inl a) (inr b) = absurd (heads_or_refusal r.model is 1 first b.1.heads t b.1.are_heads a.1)
  one_given (first ∷ records) s s' t u (inr a) (inl b) = absurd (heads_or_refusal r.model is 1 first a.1.heads u a.1.are_heads b.1)
  one_given (first ∷ records) s s' t u (inr a) (inr b) =
      let same = one_heads r.model is first a.1.heads b.1.heads a.1.are_heads b.1.are_heads in
      let rows = one_rows b.1.heads 1 records a.1.rows b.1.rows (subst (λ hs. AreRows r hs 1 records a.1.rows) same a.1.are_rows) b.1.are_rows in
      (a.0 ∙ sym b.0, a.1.whole ∙ ap (λ rest. written_row (heading r) ++ rest) rows ∙ sym b.1.whole)

  pub one_gives : (bytes : List ℕ) (s s' : Status) (t u : List ℕ) → Gives r bytes s t → Gives r bytes s' u → (s ≡ s') × (t ≡ u)
  one_gives bytes s s' t u a b = one_given (table_records bytes) s s' t u a b
