-- The heads of columns, cell by cell.
use Rattle.std.proofs.Common.{◌≡◌, ◌≢◌, ◌+◌, ℕ, zero, suc, List, [], ◌∷◌, ◌++◌, drop, inl, inr, refl, sym, ap, ◌∙◌, subst, append_assoc, append-nil, arith}
use Rattle.std.specs.Prelude.{None, Some}
use Rattle.csv.specs.Records.{field_at}
use Rattle.opa_model.specs.declared.lists.Lists.{Lists}
use Rattle.opa_words.specs.Pieces.{Piece, IsCutInto}
use Rattle.opa_text.specs.Pointed.{SpellsPoint}
use Rattle.opa_script.specs.Lines.{HasTokens, IsText}
use Rattle.opa_script.proofs.LawsHold.{same_tokens}
use Rattle.opa_batch.specs.declared.head.Head.{Head}
use Rattle.opa_batch.specs.declared.head.Sort.{Sort}
use Rattle.opa_batch.specs.declared.head.HeadFault.{HeadFault}
use Rattle.opa_batch.specs.declared.head.HeadFault.TheVariants as fault
use Rattle.opa_batch.specs.Heads.{IsHead, IsNoHead, AreHeads, IsFirstRefusal, refused_head}
use Rattle.opa_batch.specs.Columns.{IsNoText, IsNotCut, IsSorted, IsUnsorted, IsPointed, AreTaken}

-- ---- a cell

pub no_text : (m : Lists) (bytes : List ℕ) → IsNoText bytes → IsNoHead m bytes fault.Shape
no_text m bytes n = λ p h. n h.1.0 h.1.1

pub uncut_head : (m : Lists) (bytes t : List ℕ) (f : HeadFault) → IsText bytes t → IsNotCut t f → IsNoHead m bytes f
uncut_head m bytes t fault.Shape x n = λ p h. n h.0 (subst (λ b. IsCutInto b h.0) (sym x.same) h.1.2)
uncut_head m bytes t fault.Name x n = absurd n
uncut_head m bytes t fault.NoMemory x n = tt

pub unsorted_head : (m : Lists) (bytes : List ℕ) (ps : List Piece) (f : HeadFault) → HasTokens bytes ps → IsUnsorted m ps f → IsNoHead m bytes f
unsorted_head m bytes ps fault.Shape h n = λ p q. n p (subst (SpellsPoint p) (sym (same_tokens bytes ps q.0 h q.1)) q.2)
unsorted_head m bytes ps fault.Name h n = (n.0, (ps, h, n.1), n.2)
unsorted_head m bytes ps fault.NoMemory h n = tt

pub sorted_head : (m : Lists) (bytes : List ℕ) (ps : List Piece) (s : Sort) → HasTokens bytes ps → IsSorted m ps s → IsPointed m bytes s
sorted_head m bytes ps s h n = (n.0, (ps, h, n.1), n.2)

-- ---- cells

pub here : (cells : List (List ℕ)) (place : ℕ) (cell : List ℕ) → Some cell ≡ field_at cells place → drop place cells ≡ cell ∷ drop (place + 1) cells
unfolding field_at
here [] zero cell e = absurd (cc e)
here [] (suc n) cell e = absurd (cc e)
here (c ∷ cells) zero cell e = ap (λ x. x ∷ cells) (let q : c ≡ cell = cc e in q)
here (c ∷ cells) (suc n) cell e = here cells n cell e ∙ ap (λ k. cell ∷ drop k (c ∷ cells)) (let p : suc (n + 1) ≡ suc n + 1 = omega arith in p)

pub past : (cells : List (List ℕ)) (place : ℕ) → None ≡ field_at cells place → drop place cells ≡ []
unfolding field_at
past [] zero e = refl
past [] (suc n) e = refl
past (c ∷ cells) zero e = absurd (cc e)
past (c ∷ cells) (suc n) e = past cells n e

module _ (m : Lists) (cells : List (List ℕ)) where
  pub taken_none : AreTaken m cells 0 []
  taken_none = record { grows = λ more h. h; refuses = λ text h. h }

  module _ (place : ℕ) (heads : List Head) (taken : AreTaken m cells place heads) where
    pub taken_end : drop place cells ≡ [] → AreHeads m cells heads
    taken_end e = subst (AreHeads m cells) (append-nil heads) (taken.grows [] (subst (λ xs. AreHeads m xs []) (sym e) tt))

    module _ (cell : List ℕ) (at : Some cell ≡ field_at cells place) where
      pub taken_more : (h : Head) → IsHead m cell h → AreTaken m cells (place + 1) (heads ++ h ∷ [])
      taken_more h is = record {
        grows = λ more k. subst (AreHeads m cells) (sym (append_assoc heads (h ∷ []) more)) (taken.grows (h ∷ more) (subst (λ xs. AreHeads m xs (h ∷ more)) (sym (here cells place cell at)) (is, k)));
        refuses = λ text k. taken.refuses text (subst (λ xs. IsFirstRefusal m (place + 1) xs text) (sym (here cells place cell at)) (inr (h, is, k)));
      }

      pub taken_fault : (f : HeadFault) (text : List ℕ) → f ≢ fault.NoMemory → IsNoHead m cell f → text ≡ refused_head (place + 1) f → IsFirstRefusal m 1 cells text
      taken_fault f text some none says = taken.refuses text (subst (λ xs. IsFirstRefusal m (place + 1) xs text) (sym (here cells place cell at)) (inl (f, some, none, says)))
