-- The lines of a report, one after another.
use Rattle.std.proofs.Common.{◌≡◌, ◌⊎◌, inl, inr, ◌↔◌, ℕ, ◌+◌, ◌<◌, ◌≤◌, List, [], ◌∷◌, ◌++◌, Bool, true, false, cond, Option, None, Some, Contains, is_some, length, take, refl, sym, ◌∙◌, ap, subst, append_assoc, append-nil, length-append}
use Rattle.std.specs.Prelude.{slice_get}
use Rattle.std.specs.Option.{option_or}
use Rattle.std.proofs.lemmas.List.Elements.{Contains-append_left, Contains-append_right, Contains-append_cases}
use Rattle.opa_date.specs.declared.TheConstants.{DAYS}
use Rattle.opa_value.specs.declared.value.Value.{Value}
use Rattle.opa_model.specs.declared.ids.AttrId.{AttrId}
use Rattle.opa_cells.specs.declared.instance.InstanceId.{InstanceId}
use Rattle.opa_tree.proofs.Members.{none_in, contains_head, contains_tail, contains_cases}
use Rattle.opa_mean.specs.Mean.{Base}
use Rattle.opa_report.specs.Promises.{HaveDays}
use Rattle.opa_report.specs.declared.lines.ReportLine.{ReportLine}
use Rattle.opa_report.specs.declared.lines.ReportLine.TheVariants as line
use Rattle.opa_verify.specs.Listed.Listings.{Listing}
use Rattle.opa_verify.specs.Support.Faults.{IsFirstFault}
use Rattle.opa_verify.specs.Support.Proofs.{IsHeldUp, AreHeldUp}
use Rattle.opa_verify.specs.Support.Told.{first_told, listing_of}

-- those before a place are held up
pub record Going (b : Base) (lines rest : List ReportLine) (n : ℕ) : Type 0 where
  pub before : List ReportLine
  pub parts : lines ≡ before ++ rest
  pub many : length before ≡ n
  pub held : (l : ReportLine) → Contains before l → IsHeldUp b (listing_of lines) l

pub going_none : (b : Base) (lines : List ReportLine) → Going b lines lines 0
going_none b lines = record { before = []; parts = refl; many = refl; held = λ l h. absurd (none_in l h) }

at_place : (xs : List ReportLine) (x : ReportLine) (ys : List ReportLine) → slice_get (xs ++ x ∷ ys) (length xs) ≡ Some x
at_place [] x ys = refl
at_place (y ∷ xs) x ys = at_place xs x ys

taken : (xs ys : List ReportLine) → take (length xs) (xs ++ ys) ≡ xs
taken [] ys = refl
taken (x ∷ xs) ys = ap (λ zs. x ∷ zs) (taken xs ys)

module _ (b : Base) (lines rest : List ReportLine) (n : ℕ) (g : Going b lines rest n) where
  module _ (here : ReportLine) (later : List ReportLine) (r : rest ≡ here ∷ later) where
    whole : lines ≡ g.before ++ here ∷ later
    whole = g.parts ∙ ap (λ x. g.before ++ x) r

    pub going_more : IsHeldUp b (listing_of lines) here → Going b lines later (n + 1)
    going_more h = record {
      before = g.before ++ here ∷ [];
      parts = whole ∙ sym (append_assoc g.before (here ∷ []) later);
      many = length-append g.before (here ∷ []) ∙ ap (λ k. k + 1) g.many;
      held = λ l there. at l (Contains-append_cases g.before (here ∷ []) l there);
    }
      where
        at : (l : ReportLine) → Contains g.before l ⊎ Contains (here ∷ []) l → IsHeldUp b (listing_of lines) l
        at l (inl there) = g.held l there
        at l (inr there) = one l (contains_cases here l [] there)
          where
            one : (l : ReportLine) → (here ≡ l) ⊎ Contains [] l → IsHeldUp b (listing_of lines) l
            one l (inl e) = subst (IsHeldUp b (listing_of lines)) e h
            one l (inr k) = absurd (none_in l k)

    pub going_fault : (IsHeldUp b (listing_of lines) here → ⊥) → IsFirstFault b lines n
    going_fault none = record {
      line = here;
      stands = ap (λ k. slice_get lines k) (sym g.many) ∙ ap (λ xs. slice_get xs (length g.before)) whole ∙ at_place g.before here later;
      isnt = none;
      before = λ l there. g.held l (subst (λ xs. Contains xs l) (ap (λ k. take k lines) (sym g.many) ∙ ap (take (length g.before)) g.parts ∙ taken g.before rest) there);
    }

    pub have_one : HaveDays lines → HaveDays (here ∷ [])
    have_one h a i s t v there = at (contains_cases here (line.Point a i s t v) [] there)
      where
        at : (here ≡ line.Point a i s t v) ⊎ Contains [] (line.Point a i s t v) → (s ≤ t) × (t < DAYS)
        at (inl e) = h a i s t v (subst (λ xs. Contains xs (line.Point a i s t v)) (sym whole) (Contains-append_right g.before (here ∷ later) (line.Point a i s t v) (subst (Contains (here ∷ later)) e (contains_head here later))))
        at (inr k) = absurd (none_in (line.Point a i s t v) k)

  pub going_done : rest ≡ [] → AreHeldUp b lines
  going_done e l there = g.held l (subst (λ xs. Contains xs l) (g.parts ∙ ap (λ x. g.before ++ x) e ∙ append-nil g.before) there)

-- ---- what is told first

pub told_if : (c : Bool) (v : Value) → c ≡ is_some (cond c (Some v) None)
told_if true v = refl
told_if false v = refl

pub told_here : {X : Type 0} (f : ReportLine → Option X) (x : ReportLine) (xs : List ReportLine) → is_some (f x) ≡ true → is_some (first_told f (x ∷ xs)) ≡ true
told_here {X} f x xs h = go (f x) h
  where
    go : (o : Option X) → is_some o ≡ true → is_some (option_or o (first_told f xs)) ≡ true
    go None h = absurd (cc h)
    go (Some y) h = refl

pub told_later : {X : Type 0} (f : ReportLine → Option X) (x : ReportLine) (xs : List ReportLine) → is_some (f x) ≡ false → first_told f (x ∷ xs) ≡ first_told f xs
told_later {X} f x xs h = go (f x) h
  where
    go : (o : Option X) → is_some o ≡ false → option_or o (first_told f xs) ≡ first_told f xs
    go None h = refl
    go (Some y) h = absurd (cc h)
