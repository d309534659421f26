-- While a change is settled, what is looked up of lower rank than all that waits is right.
use Rattle.std.proofs.Common.{◌≡◌, ℕ, ◌<◌, ◌≤◌, Bool, true, false, [], ◌∷◌, Option, None, Some, is_some, Contains, refl, sym, ◌∙◌, ap, arith}
use Rattle.std.specs.Option.{option_or}
use Rattle.std.specs.FinMap.{get}
use Rattle.opa_date.specs.declared.TheConstants.{DAYS}
use Rattle.opa_value.specs.declared.value.Value.{Value}
use Rattle.opa_value.specs.declared.value.Value.TheVariants.{Unknown}
use Rattle.opa_line.specs.Lines.{StandsFor, value_or}
use Rattle.opa_model.specs.declared.ids.AttrId.{AttrId}
use Rattle.opa_cells.specs.declared.instance.InstanceId.{InstanceId}
use Rattle.opa_case.specs.Cases.{Answer, IsLive}
use Rattle.opa_case.specs.Live.{is_live}
use Rattle.opa_case.specs.Shapes.{shape_of}
use Rattle.opa_tree.specs.declared.rules.Rule.{Rule}
use Rattle.opa_tree.specs.Rules.{rule_of}
use Rattle.opa_mean.specs.Derivations.{derived}
use Rattle.opa_mean.specs.Given.{base_of, facts_of, line_value}
use Rattle.opa_mean.specs.Mean.{look_of, concluded, fitted, mean}
use Rattle.opa_mean.specs.Meaning.{value}
use Rattle.opa_mean.specs.Places.{owner_of}
use Rattle.opa_mean.specs.Rulebases.{value_at}
use Rattle.opa_mean.proofs.Determining.{determined}
use Rattle.opa_mean.proofs.LawsOver.{base}
use Rattle.opa_mean.specs.Reached.Dirty.{is_reached}
use Rattle.opa_mean.specs.Reached.Settling.{Lines, Waiting, Shift, IsShift, AreCurrent, IsSettling, rank_of, laid_value, laid_look}
use Rattle.opa_mean.specs.Slots.{is_slot}
use Rattle.opa_mean.proofs.reached.Catching.{clean_value, caught_up}
use Rattle.opa_mean.proofs.reached.Laying.{derived_right}
use Rattle.opa_mean.proofs.reached.Parted.{parts_of, slot_is}
use Rattle.opa_mean.proofs.reached.Reaching.{new_is_dirty}

-- the value of a line that stands for values
pub line_right : (f : ℕ → Value) (l : Answer) → StandsFor DAYS f l → (d : ℕ) → d < DAYS → line_value (Some l) d ≡ f d
line_right f l stands d lt = ap (value_or Unknown) (stands d lt)

module _ (s : Shift) (is : IsShift s) (kept staged : Lines) (current : AreCurrent s.rules s.old kept) (waiting : Waiting) (h : IsSettling s staged waiting)
    (n : ℕ) (above : (a : AttrId) (i : InstanceId) → Contains waiting (a, i) → n ≤ rank_of s a) where
  abbrev seen : AttrId → InstanceId → ℕ → Value
  seen = laid_value s.new kept staged

  -- a dirty slot of lower rank is staged
  not_dirty : (m : AttrId) (j : InstanceId) → rank_of s m < n → staged m j ≡ None → is_slot s.rules s.new m j ≡ true → is_reached s.rules s.old s.new m j ≡ false
  not_dirty m j lt none slot = go (is_reached s.rules s.old s.new m j) refl
    where
      go : (b : Bool) → is_reached s.rules s.old s.new m j ≡ b → is_reached s.rules s.old s.new m j ≡ false
      go false e = e
      go true e = absurd (cc (caught_up s is staged waiting h n above m j lt (record { slot = slot; reached = e }), ap is_some none))

  pub seen_right : (m : AttrId) (j : InstanceId) → rank_of s m < n → IsLive s.new j → j.entity.0 ≡ owner_of (shape_of s.rules.model) m → (d : ℕ) → d < DAYS → seen m j d ≡ value_at s.rules s.new m j d
  seen_right m j low live own d lt = go (staged m j) refl (kept m j) refl (rule_of s.rules.rules m) refl
    where
      go : (o : Option Answer) → staged m j ≡ o → (p : Option Answer) → kept m j ≡ p → (q : Option Rule) → rule_of s.rules.rules m ≡ q → line_value (option_or (staged m j) (option_or (kept m j) (get s.new.answers (m.0, j)))) d ≡ value_at s.rules s.new m j d
      go (Some l) e p e' q ruled =
          ap (λ x. line_value (option_or x (option_or (kept m j) (get s.new.answers (m.0, j)))) d) e ∙ line_right (value_at s.rules s.new m j) l (h.right m j l e) d lt
      go None e (Some l) e' q ruled =
          let parts = parts_of s.rules s.old m j (sym (current.there m j) ∙ ap is_some e') in
          let slot = slot_is s.rules s.new m j live own parts.ruled in
          ap (λ x. line_value (option_or x (option_or (kept m j) (get s.new.answers (m.0, j)))) d) e
          ∙ ap (λ x. line_value (option_or x (get s.new.answers (m.0, j))) d) e'
          ∙ line_right (value_at s.rules s.old m j) l (current.right m j l e') d lt
          ∙ clean_value s is m j slot (not_dirty m j low e slot) d lt
      go None e None e' (Some rule) ruled =
          let slot = slot_is s.rules s.new m j live own (ap is_some ruled) in
          let new : is_live s.old.live j ≡ false = not_kept (is_live s.old.live j) refl in
          absurd (cc (not_dirty m j low e slot, new_is_dirty s.rules s.old s.new m j new))
        where
          not_kept : (b : Bool) → is_live s.old.live j ≡ b → is_live s.old.live j ≡ false
          not_kept false e = e
          not_kept true was = absurd (cc (slot_is s.rules s.old m j was own (ap is_some ruled), current.there m j, ap is_some e'))
      go None e None e' None ruled =
          ap (λ x. line_value (option_or x (option_or (kept m j) (get s.new.answers (m.0, j)))) d) e
          ∙ ap (λ x. line_value (option_or x (get s.new.answers (m.0, j))) d) e'
          ∙ sym (determined (base_of s.rules) (facts_of s.new) (base s.rules s.new is.after).falls m j d
          ∙ ap (λ o. concluded o ((facts_of s.new).answer m j d) (λ e. fitted (shape_of s.rules.model) m (value (shape_of s.rules.model) (look_of (facts_of s.new) (mean (base_of s.rules) (facts_of s.new))) e (j ∷ []) d))) ruled)

  -- what a slot's rule gives over what is looked up, where nothing of a lower rank waits
  pub given_right : (a : AttrId) (i : InstanceId) → rank_of s a ≡ n → is_slot s.rules s.new a i ≡ true → (d : ℕ) → d < DAYS → derived (base_of s.rules) (laid_look s.new kept staged) a i d ≡ value_at s.rules s.new a i d
  given_right a i at slot d lt =
      let parts = parts_of s.rules s.new a i slot in
      derived_right s.rules s.new is.after a seen (λ m j low live own e lt'. seen_right m j (omega (arith, low, at)) live own e lt') i parts.live parts.ruled d lt
