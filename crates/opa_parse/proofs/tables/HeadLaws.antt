-- Condition heads stand before conclusion heads.
use Rattle.std.proofs.Common.{◌≡◌, ◌≢◌, ℕ, List, [], ◌∷◌, ◌++◌, map, Option, refl, sym, ap, ap₂, subst, ◌∙◌, append_assoc}
use Rattle.std.proofs.lemmas.List.{append-nil, map-append}
use Rattle.opa_model.specs.declared.ids.AttrId.{AttrId}
use Rattle.opa_model.specs.declared.lists.Lists.{Lists}
use Rattle.opa_sentence.specs.declared.names.Names.{Names}
use Rattle.opa_sentence.specs.declared.reading.Reading.{Reading}
use Rattle.opa_parse.specs.declared.tables.cells.Heading.{Heading}
use Rattle.opa_parse.specs.declared.tables.cells.Heading.TheVariants as heading
use Rattle.opa_parse.specs.declared.tables.cells.Heads.{Heads}
use Rattle.opa_parse.specs.Tables.Cells.{IsHeadCell}
use Rattle.opa_parse.specs.Tables.Tables.{Each, headings, AreHeads}
use Rattle.opa_parse.proofs.tables.CellLaws.{one_head_cell}
use Rattle.opa_parse.proofs.tables.EachLaws.{each_front, each_same, IsRead, read_none, read_end}

abbrev condition : Reading → Heading
condition x = heading.Condition x

abbrev conclusion : Option AttrId → Heading
conclusion a = heading.Conclusion a

abbrev both : List Reading → List (Option AttrId) → List Heading
both xs attrs = map condition xs ++ map conclusion attrs

-- ---- one more head

pub with_conclusion : (h : Heads) (a : Option AttrId) → both h.conditions (h.conclusions ++ a ∷ []) ≡ headings h ++ heading.Conclusion a ∷ []
with_conclusion h a = ap (λ ys. map condition h.conditions ++ ys) (map-append conclusion h.conclusions (a ∷ [])) ∙ sym (append_assoc (map condition h.conditions) (map conclusion h.conclusions) (conclusion a ∷ []))

pub with_condition : (h : Heads) (x : Reading) → h.conclusions ≡ [] → both (h.conditions ++ x ∷ []) h.conclusions ≡ headings h ++ heading.Condition x ∷ []
with_condition h x e =
    ap (λ attrs. map condition (h.conditions ++ x ∷ []) ++ map conclusion attrs) e ∙ append-nil (map condition (h.conditions ++ x ∷ [])) ∙ map-append condition h.conditions (x ∷ [])
    ∙ ap (λ ys. ys ++ condition x ∷ []) (sym (ap (λ attrs. map condition h.conditions ++ map conclusion attrs) e ∙ append-nil (map condition h.conditions)))

-- ---- what isn't the heads of a table

-- no condition head stands among conclusion heads
no_condition : (attrs : List (Option AttrId)) (bs : List (Option AttrId)) (x : Reading) (more : List Heading) → map conclusion bs ++ condition x ∷ more ≡ map conclusion attrs → ⊥
no_condition [] [] x more e = absurd (cc e)
no_condition [] (b ∷ bs) x more e = absurd (cc e)
no_condition (a ∷ attrs) [] x more e = absurd (cc e)
no_condition (a ∷ attrs) (b ∷ bs) x more e = no_condition attrs bs x more (let q : map conclusion bs ++ condition x ∷ more ≡ map conclusion attrs = cc e in q)

-- nor after them
misplaced : (xs ys : List Reading) (attrs bs : List (Option AttrId)) (x : Reading) (more : List Heading) → bs ≢ [] → both ys bs ++ condition x ∷ more ≡ both xs attrs → ⊥
misplaced xs ys attrs [] x more some e = absurd (some refl)
misplaced [] [] attrs (b ∷ bs) x more some e = no_condition attrs (b ∷ bs) x more e
misplaced (w ∷ xs) [] attrs (b ∷ bs) x more some e = absurd (cc e)
misplaced [] (y ∷ ys) [] (b ∷ bs) x more some e = absurd (cc e)
misplaced [] (y ∷ ys) (a ∷ attrs) (b ∷ bs) x more some e = absurd (cc e)
misplaced (w ∷ xs) (y ∷ ys) attrs (b ∷ bs) x more some e = misplaced xs ys attrs (b ∷ bs) x more some (let q : both ys (b ∷ bs) ++ condition x ∷ more ≡ both xs attrs = cc e in q)

-- conditions alone conclude nothing
none_concluded : (xs ys : List Reading) (attrs : List (Option AttrId)) → both ys [] ≡ both xs attrs → attrs ≡ []
none_concluded xs ys [] e = refl
none_concluded [] [] (a ∷ attrs) e = absurd (cc e)
none_concluded [] (y ∷ ys) (a ∷ attrs) e = absurd (cc e)
none_concluded (x ∷ xs) [] (a ∷ attrs) e = absurd (cc e)
none_concluded (x ∷ xs) (y ∷ ys) (a ∷ attrs) e = none_concluded xs ys (a ∷ attrs) (let q : both ys [] ≡ both xs (a ∷ attrs) = cc e in q)

module _ (m : Lists) (ns : Names) where
  first_is : (x : List ℕ) (more : List (List ℕ)) (h : Heading) (hs : List Heading) → Each (IsHeadCell m ns) (x ∷ more) hs → IsHeadCell m ns x h → (rest : List Heading) × (hs ≡ h ∷ rest)
  first_is x more h [] e k = absurd e
  first_is x more h (g ∷ hs) e k = (hs, ap (λ y. y ∷ hs) (one_head_cell m ns x g h e.0 k))

  -- a condition head after a conclusion head
  pub no_heads : (all rest later : List (List ℕ)) (cell : List ℕ) (h : Heads) (x : Reading) → rest ≡ cell ∷ later → IsRead (IsHeadCell m ns) all rest (headings h) → IsHeadCell m ns cell (heading.Condition x) → h.conclusions ≢ []
      → (g : Heads) → AreHeads m ns all g → ⊥
  no_heads all rest later cell h x e read is some g are =
      let f = each_front (IsHeadCell m ns) (one_head_cell m ns) read.before (cell ∷ later) (headings h) (headings g) read.say
      (subst (λ a. Each (IsHeadCell m ns) a (headings g)) (read.split ∙ ap (λ r. read.before ++ r) e) are.cells_say) in
      let k = first_is cell later (condition x) f.0 f.2 is in
      misplaced g.conditions h.conditions g.conclusions h.conclusions x k.0 some (ap (λ r. headings h ++ r) (sym k.1) ∙ sym f.1)

  -- no conclusion head
  pub no_conclusions : (all rest : List (List ℕ)) (h : Heads) → rest ≡ [] → IsRead (IsHeadCell m ns) all rest (headings h) → h.conclusions ≡ [] → (g : Heads) → AreHeads m ns all g → ⊥
  no_conclusions all rest h e read none g are =
      let same = each_same (IsHeadCell m ns) (one_head_cell m ns) all (headings h) (headings g) (read_end (IsHeadCell m ns) all rest (headings h) e read) are.cells_say in
      are.concludes (none_concluded g.conditions h.conditions g.conclusions (sym (ap (λ attrs. both h.conditions attrs) none) ∙ same))

  -- a cell that is no head
  pub no_cell : (all rest later : List (List ℕ)) (cell : List ℕ) (h : Heads) → rest ≡ cell ∷ later → IsRead (IsHeadCell m ns) all rest (headings h) → ((x : Heading) → IsHeadCell m ns cell x → ⊥) → (g : Heads) → AreHeads m ns all g → ⊥
  no_cell all rest later cell h e read none g are = read_none (IsHeadCell m ns) all rest later cell (headings h) e read none (headings g) are.cells_say

-- ---- one first record

one_attr : (attrs bs : List (Option AttrId)) → map conclusion attrs ≡ map conclusion bs → attrs ≡ bs
one_attr [] [] e = refl
one_attr [] (b ∷ bs) e = absurd (cc e)
one_attr (a ∷ attrs) [] e = absurd (cc e)
one_attr (a ∷ attrs) (b ∷ bs) e =
    ap₂ (λ (v : Option AttrId) vs. v ∷ vs) (let q : a ≡ b = cc e in q) (one_attr attrs bs (let q : map conclusion attrs ≡ map conclusion bs = cc e in q))

same_heads : (xs ys : List Reading) (attrs bs : List (Option AttrId)) → both xs attrs ≡ both ys bs → (let h : Heads = record { conditions = xs; conclusions = attrs } in h) ≡ (let g : Heads = record { conditions = ys; conclusions = bs } in g)
same_heads [] [] attrs bs e = ap (λ cs. let h : Heads = record { conditions = []; conclusions = cs } in h) (one_attr attrs bs e)
same_heads [] (y ∷ ys) [] bs e = absurd (cc e)
same_heads [] (y ∷ ys) (a ∷ attrs) bs e = absurd (cc e)
same_heads (x ∷ xs) [] attrs [] e = absurd (cc e)
same_heads (x ∷ xs) [] attrs (b ∷ bs) e = absurd (cc e)
same_heads (x ∷ xs) (y ∷ ys) attrs bs e =
    let one : x ≡ y = cc e in
    let more = same_heads xs ys attrs bs (let q : both xs attrs ≡ both ys bs = cc e in q) in
    ap (λ z. let h : Heads = record { conditions = z ∷ xs; conclusions = attrs } in h) one ∙ ap (λ (g : Heads). let h : Heads = record { conditions = y ∷ g.conditions; conclusions = g.conclusions } in h) more

pub one_heads : (m : Lists) (ns : Names) (cells : List (List ℕ)) (g h : Heads) → AreHeads m ns cells g → AreHeads m ns cells h → g ≡ h
one_heads m ns cells g h a b = same_heads g.conditions h.conditions g.conclusions h.conclusions (each_same (IsHeadCell m ns) (one_head_cell m ns) cells (headings g) (headings h) a.cells_say b.cells_say)
