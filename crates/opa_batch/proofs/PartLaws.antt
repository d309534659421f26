-- Rows by their contents and numbers.
use Rattle.std.proofs.Common.{◌≡◌, ◌+◌, ℕ, List, [], ◌∷◌, ◌++◌, length, refl, sym, ap, ◌∙◌, subst, append_assoc, arith}
use Rattle.std.specs.Prelude.{Result, Ok, Err}
use Rattle.std.specs.Fmt.{decimal}
use Rattle.std.specs.List.{AllZip}
use Rattle.opa_case.specs.Cases.{CaseView}
use Rattle.opa_tree.specs.declared.rulebase.Rulebase.{Rulebase}
use Rattle.opa_batch.specs.declared.head.Head.{Head}
use Rattle.opa_batch.specs.Batches.{AreRows, written_row}
use Rattle.opa_batch.specs.Rows.{row_of}
use Rattle.opa_batch.specs.Parts.{content_of, IsContent, numbered, AreOfParts, PartsAreTheWhole}

row_is : (r : Rulebase) (n : ℕ) (x : Result CaseView (List ℕ)) → row_of r n x ≡ decimal n ∷ content_of r x
row_is r n (Ok c) = refl
row_is r n (Err text) = refl

module _ (r : Rulebase) (heads : List Head) where
  -- rows are contents with their numbers
  pub record Numbers (n : ℕ) (records : List (List (List ℕ))) (text : List ℕ) : Type 0 where
    pub contents : List (List (List ℕ))
    pub are : AllZip (IsContent r heads) records contents
    pub text_is : text ≡ numbered n contents

  numbers : (n : ℕ) (records : List (List (List ℕ))) (text : List ℕ) → AreRows r heads n records text → Numbers n records text
  numbers n [] text p = record { contents = []; are = tt; text_is = p }
  numbers n (cells ∷ records) text p =
      let x = p.1.0 in
      let more = numbers (n + 1) records p.2.0 p.2.1 in
      record {
        contents = content_of r x ∷ more.contents;
        are = ((x, p.1.1, refl), more.are);
        text_is = p.2.2 ∙ ap (λ row. written_row row ++ p.2.0) (p.1.2 ∙ row_is r n x) ∙ ap (λ rest. written_row (decimal n ∷ content_of r x) ++ rest) more.text_is;
      }

  rows : (n : ℕ) (records contents : List (List (List ℕ))) → AllZip (IsContent r heads) records contents → AreRows r heads n records (numbered n contents)
  rows n [] [] p = refl
  rows n [] (content ∷ contents) p = absurd p
  rows n (cells ∷ records) [] p = absurd p
  rows n (cells ∷ records) (content ∷ contents) p =
      (decimal n ∷ content, (p.0.0, p.0.1, ap (λ s. decimal n ∷ s) p.0.2 ∙ sym (row_is r n p.0.0)), (numbered (n + 1) contents, rows (n + 1) records contents p.1, refl))

  joined : (first second front back : List (List (List ℕ))) → AllZip (IsContent r heads) first front → AllZip (IsContent r heads) second back → AllZip (IsContent r heads) (first ++ second) (front ++ back)
  joined [] second [] back p q = q
  joined [] second (content ∷ contents) back p q = absurd p
  joined (cells ∷ records) second [] back p q = absurd p
  joined (cells ∷ records) second (content ∷ contents) back p q = (p.0, joined records second contents back p.1 q)

  long : (first front : List (List (List ℕ))) → AllZip (IsContent r heads) first front → length front ≡ length first
  long [] [] p = refl
  long [] (content ∷ contents) p = absurd p
  long (cells ∷ records) [] p = absurd p
  long (cells ∷ records) (content ∷ contents) p = omega (arith, long records contents p.1)

numbered-append : (k : ℕ) (front back : List (List (List ℕ))) → numbered k (front ++ back) ≡ numbered k front ++ numbered (k + length front) back
numbered-append k [] back = ap (λ i. numbered i back) (let e : k ≡ k + 0 = omega arith in e)
numbered-append k (content ∷ contents) back =
    let on : (k + 1) + length contents ≡ k + length (content ∷ contents) = omega arith in
    ap (λ rest. written_row (decimal k ∷ content) ++ rest) (numbered-append (k + 1) contents back ∙ ap (λ i. numbered (k + 1) contents ++ numbered i back) on)
    ∙ sym (append_assoc (written_row (decimal k ∷ content)) (numbered (k + 1) contents) (numbered (k + length (content ∷ contents)) back))

pub parts_hold : PartsAreTheWhole
parts_hold r heads n m k first second one two p q =
    let a = numbers r heads n first one p in
    let b = numbers r heads m second two q in
    let text_is : numbered k (a.contents ++ b.contents) ≡ numbered k a.contents ++ numbered (k + length first) b.contents
    = numbered-append k a.contents b.contents ∙ ap (λ l. numbered k a.contents ++ numbered (k + l) b.contents) (long r heads first a.contents a.are) in
    record {
      front = a.contents;
      back = b.contents;
      one_is = a.text_is;
      two_is = b.text_is;
      front_of = a.are;
      back_of = b.are;
      whole = subst (λ text. AreRows r heads k (first ++ second) text) text_is (rows r heads k (first ++ second) (a.contents ++ b.contents) (joined r heads first second a.contents b.contents a.are b.are));
    }
