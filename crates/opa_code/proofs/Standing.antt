-- Lines that stand for meanings.
use Rattle.std.proofs.Common.{◌≡◌, ℕ, zero, suc, ◌-◌, ◌<◌, Bool, true, false, List, [], ◌∷◌, ◌++◌, length, take, drop, map, Some, refl, sym, ◌∙◌, ap, subst, arith}
use Rattle.std.proofs.lemmas.List.{length-append}
use Rattle.std.proofs.Math.Seq.{take-append_seam, drop-append_seam}
use Rattle.opa_date.specs.declared.TheConstants.{DAYS}
use Rattle.opa_value.specs.declared.value.Value.{Value}
use Rattle.opa_value.specs.declared.value.Value.TheVariants.{Unknown}
use Rattle.opa_value.specs.Truth.{all_of, any_of, not_of, strict}
use Rattle.opa_line.specs.Lines.{StandsFor, value_or}
use Rattle.opa_cells.specs.declared.instance.InstanceId.{InstanceId}
use Rattle.opa_tree.specs.declared.kinds.WinKind.{WinKind}
use Rattle.opa_tree.specs.declared.kinds.WinKind.TheVariants as win
use Rattle.opa_window.specs.Days.{day_value}
use Rattle.opa_window.specs.Folds.{sum_value, greatest, least, run_value}
use Rattle.opa_window.specs.Windows.{before, on_or_after, years_since, value_at, in_window}
use Rattle.opa_window.proofs.CalendarDays.{reads_the_calendar}
use Rattle.opa_mean.specs.Looks.{Look}
use Rattle.opa_mean.specs.Meaning.{Meaning, each, certain_of, known_of, choose, window, rolling}
use Rattle.opa_mean.specs.Operations.{op_of}
use Rattle.opa_mean.proofs.Values.{window_more}
use Rattle.opa_code.specs.OverLines.Lines.{Has as HasAll, Stand, meaning_of, values_at}
use Rattle.opa_code.specs.Running.{put, node_meaning, operand_count, sole, chosen, IsStep}
use Rattle.opa_code.specs.Steps.{IsChosen}
use Rattle.opa_code.specs.declared.node.Node.{Node}
use Rattle.opa_code.specs.declared.node.Node.TheVariants as node

abbrev Lines : Type 0
Lines = List (List (ℕ × Value))

-- a line that stands for values has them
pub day_is : (l : List (ℕ × Value)) (f : ℕ → Value) → StandsFor DAYS f l → (d : ℕ) → d < DAYS → day_value l d ≡ f d
day_is l f h d lt = ap (value_or Unknown) (h d lt)

-- a line that stands for values stands for equal ones
pub stands_same : (l : List (ℕ × Value)) (f g : ℕ → Value) → ((d : ℕ) → d < DAYS → f d ≡ g d) → StandsFor DAYS f l → StandsFor DAYS g l
stands_same l f g same h d lt = h d lt ∙ ap Some (same d lt)

-- an operand that was made has what its line stands for
pub has_made : (made l : List (ℕ × Value)) (f : ℕ → Value) → l ≡ made → StandsFor DAYS f made → HasAll f l
has_made made l f is stands d lt = ap (λ k. day_value k d) is ∙ day_is made f stands d lt

pub each_lines : (lines : Lines) (enclosing : List InstanceId) (d : ℕ) → each (map meaning_of lines) enclosing d ≡ values_at lines d
each_lines [] enclosing d = refl
each_lines (l ∷ ls) enclosing d = ap (λ vs. day_value l d ∷ vs) (each_lines ls enclosing d)

-- three that were added one after another
three_behind : (ls : Lines) (x y z : List (ℕ × Value)) → ((ls ++ x ∷ []) ++ y ∷ []) ++ z ∷ [] ≡ ls ++ (x ∷ y ∷ z ∷ [])
three_behind [] x y z = refl
three_behind (l ∷ ls) x y z = ap (λ ks. l ∷ ks) (three_behind ls x y z)

module _ (enclosing : List InstanceId) where
  pub stand_length : (ls : Lines) (ms : List Meaning) → Stand enclosing ls ms → length ls ≡ length ms
  stand_length [] [] h = refl
  stand_length [] (m ∷ ms) h = absurd h
  stand_length (l ∷ ls) [] h = absurd h
  stand_length (l ∷ ls) (m ∷ ms) h = ap (λ n. suc n) (stand_length ls ms h.1)

  pub stand_take : (n : ℕ) (ls : Lines) (ms : List Meaning) → Stand enclosing ls ms → Stand enclosing (take n ls) (take n ms)
  stand_take zero ls ms h = tt
  stand_take (suc n) [] [] h = tt
  stand_take (suc n) [] (m ∷ ms) h = absurd h
  stand_take (suc n) (l ∷ ls) [] h = absurd h
  stand_take (suc n) (l ∷ ls) (m ∷ ms) h = (h.0, stand_take n ls ms h.1)

  pub stand_drop : (n : ℕ) (ls : Lines) (ms : List Meaning) → Stand enclosing ls ms → Stand enclosing (drop n ls) (drop n ms)
  stand_drop zero ls ms h = h
  stand_drop (suc n) [] [] h = tt
  stand_drop (suc n) [] (m ∷ ms) h = absurd h
  stand_drop (suc n) (l ∷ ls) [] h = absurd h
  stand_drop (suc n) (l ∷ ls) (m ∷ ms) h = stand_drop n ls ms h.1

  -- the line has at every day the value of the meaning
  abbrev pub Has : List (ℕ × Value) → Meaning → Type 0
  Has l m = (d : ℕ) → d < DAYS → day_value l d ≡ m enclosing d

  pub stand_more : (ls : Lines) (ms : List Meaning) (l : List (ℕ × Value)) (m : Meaning) → Stand enclosing ls ms → Has l m → Stand enclosing (ls ++ l ∷ []) (ms ++ m ∷ [])
  stand_more [] [] l m h s = (s, tt)
  stand_more [] (k ∷ ms) l m h s = absurd h
  stand_more (k ∷ ls) [] l m h s = absurd h
  stand_more (k ∷ ls) (j ∷ ms) l m h s = (h.0, stand_more ls ms l m h.1 s)

  pub stand_push : (ls : Lines) (ms : List Meaning) (l : List (ℕ × Value)) (m : Meaning) → Stand enclosing ls ms → StandsFor DAYS (m enclosing) l → Stand enclosing (ls ++ l ∷ []) (ms ++ m ∷ [])
  stand_push ls ms l m h s = stand_more ls ms l m h (day_is l (m enclosing) s)

  no_meaning : (ls : Lines) (l : List (ℕ × Value)) → Stand enclosing (ls ++ l ∷ []) [] → ⊥
  no_meaning [] l h = h
  no_meaning (k ∷ ls) l h = h

  no_line : (ms : List Meaning) (m : Meaning) → Stand enclosing [] (ms ++ m ∷ []) → ⊥
  no_line [] m h = h
  no_line (k ∷ ms) m h = h

  -- the newest line and those before it
  pub stand_newest : (ls : Lines) (ms : List Meaning) (l : List (ℕ × Value)) (m : Meaning) → Stand enclosing (ls ++ l ∷ []) (ms ++ m ∷ []) → Stand enclosing ls ms × Has l m
  stand_newest [] [] l m h = (tt, h.0)
  stand_newest [] (k ∷ ms) l m h = absurd (no_line ms m h.1)
  stand_newest (k ∷ ls) [] l m h = absurd (no_meaning ls l h.1)
  stand_newest (k ∷ ls) (j ∷ ms) l m h = let r = stand_newest ls ms l m h.1 in ((h.0, r.0), r.1)

  stand_each : (ls : Lines) (ms : List Meaning) → Stand enclosing ls ms → (d : ℕ) → d < DAYS → each (map meaning_of ls) enclosing d ≡ each ms enclosing d
  stand_each [] [] h d lt = refl
  stand_each [] (m ∷ ms) h d lt = absurd h
  stand_each (l ∷ ls) [] h d lt = absurd h
  stand_each (l ∷ ls) (m ∷ ms) h d lt = ap (λ v. v ∷ each (map meaning_of ls) enclosing d) (h.0 d lt) ∙ ap (λ vs. m enclosing d ∷ vs) (stand_each ls ms h.1 d lt)

  -- the values of lines are those of the meanings that they stand for
  pub stand_values : (ls : Lines) (ms : List Meaning) → Stand enclosing ls ms → (d : ℕ) → d < DAYS → values_at ls d ≡ each ms enclosing d
  stand_values ls ms h d lt = sym (each_lines ls enclosing d) ∙ stand_each ls ms h d lt

  abbrev Same : Meaning → Meaning → Type 0
  Same m k = (d : ℕ) → d < DAYS → m enclosing d ≡ k enclosing d

  sole_same : (ls : Lines) (ms : List Meaning) → Stand enclosing ls ms → Same (sole (map meaning_of ls)) (sole ms)
  sole_same [] [] h d lt = refl
  sole_same [] (m ∷ ms) h d lt = absurd h
  sole_same (l ∷ ls) [] h d lt = absurd h
  sole_same (l ∷ []) (m ∷ []) h d lt = h.0 d lt
  sole_same (l ∷ []) (m ∷ k ∷ ms) h d lt = absurd h.1
  sole_same (l ∷ k ∷ ls) (m ∷ []) h d lt = absurd h.1
  sole_same (l ∷ k ∷ ls) (m ∷ j ∷ ms) h d lt = refl

  chosen_same : (ls : Lines) (ms : List Meaning) → Stand enclosing ls ms → Same (chosen (map meaning_of ls)) (chosen ms)
  chosen_same [] [] h d lt = refl
  chosen_same [] (m ∷ ms) h d lt = absurd h
  chosen_same (l ∷ ls) [] h d lt = absurd h
  chosen_same (a ∷ []) (p ∷ []) h d lt = refl
  chosen_same (a ∷ []) (p ∷ q ∷ ms) h d lt = absurd h.1
  chosen_same (a ∷ b ∷ ls) (p ∷ []) h d lt = absurd h.1
  chosen_same (a ∷ b ∷ []) (p ∷ q ∷ []) h d lt = refl
  chosen_same (a ∷ b ∷ []) (p ∷ q ∷ r ∷ ms) h d lt = absurd h.1.1
  chosen_same (a ∷ b ∷ c ∷ ls) (p ∷ q ∷ []) h d lt = absurd h.1.1
  chosen_same (a ∷ b ∷ c ∷ []) (p ∷ q ∷ r ∷ []) h d lt =
      ap (λ v. choose v (day_value b d) (day_value c d)) (h.0 d lt) ∙ ap (λ v. choose (p enclosing d) v (day_value c d)) (h.1.0 d lt) ∙ ap (choose (p enclosing d) (q enclosing d)) (h.1.1.0 d lt)
  chosen_same (a ∷ b ∷ c ∷ []) (p ∷ q ∷ r ∷ e ∷ ms) h d lt = absurd h.1.1.1
  chosen_same (a ∷ b ∷ c ∷ e ∷ ls) (p ∷ q ∷ r ∷ []) h d lt = absurd h.1.1.1
  chosen_same (a ∷ b ∷ c ∷ e ∷ ls) (p ∷ q ∷ r ∷ f ∷ ms) h d lt = refl

  span_same : (fold : List Value → Value) (a b x : List (ℕ × Value)) (p q r : Meaning) → Stand enclosing (a ∷ b ∷ x ∷ []) (p ∷ q ∷ r ∷ []) → (d : ℕ) → d < DAYS
      → in_window fold (day_value x) (day_value a d) (day_value b d) ≡ in_window fold (r enclosing) (p enclosing d) (q enclosing d)
  span_same fold a b x p q r h d lt =
      reads_the_calendar.windows fold (day_value x) (r enclosing) h.1.1.0 (day_value a d) (day_value b d)
      ∙ ap (λ v. in_window fold (r enclosing) v (day_value b d)) (h.0 d lt) ∙ ap (λ v. in_window fold (r enclosing) (p enclosing d) v) (h.1.0 d lt)

  one_same : (k : WinKind) (a : List (ℕ × Value)) (p : Meaning) → Stand enclosing (a ∷ []) (p ∷ []) → Same (window k (map meaning_of (a ∷ []))) (window k (p ∷ []))
  one_same win.Before a p h d lt = ap (λ v. before v d) (h.0 d lt)
  one_same win.OnOrAfter a p h d lt = ap (λ v. on_or_after v d) (h.0 d lt)
  one_same win.YearsSince a p h d lt = ap (λ v. years_since v d) (h.0 d lt)
  one_same _ a p h d lt = refl

  two_same : (k : WinKind) (a x : List (ℕ × Value)) (p r : Meaning) → Stand enclosing (a ∷ x ∷ []) (p ∷ r ∷ []) → Same (window k (map meaning_of (a ∷ x ∷ []))) (window k (p ∷ r ∷ []))
  two_same win.ValueAt a x p r h d lt = reads_the_calendar.dates (day_value x) (r enclosing) h.1.0 (day_value a d) ∙ ap (value_at (r enclosing)) (h.0 d lt)
  two_same _ a x p r h d lt = refl

  three_same : (k : WinKind) (a b x : List (ℕ × Value)) (p q r : Meaning) → Stand enclosing (a ∷ b ∷ x ∷ []) (p ∷ q ∷ r ∷ []) → Same (window k (map meaning_of (a ∷ b ∷ x ∷ []))) (window k (p ∷ q ∷ r ∷ []))
  three_same win.Always a b x p q r h d lt = span_same all_of a b x p q r h d lt
  three_same win.Sometimes a b x p q r h d lt = span_same any_of a b x p q r h d lt
  three_same win.DailySum a b x p q r h d lt = span_same (strict sum_value) a b x p q r h d lt
  three_same win.Maximum a b x p q r h d lt = span_same (strict greatest) a b x p q r h d lt
  three_same win.Minimum a b x p q r h d lt = span_same (strict least) a b x p q r h d lt
  three_same win.ConsecutiveDays a b x p q r h d lt = span_same (strict run_value) a b x p q r h d lt
  three_same _ a b x p q r h d lt = refl

  window_same : (k : WinKind) (ls : Lines) (ms : List Meaning) → Stand enclosing ls ms → Same (window k (map meaning_of ls)) (window k ms)
  window_same k [] [] h d lt = refl
  window_same k [] (m ∷ ms) h d lt = absurd h
  window_same k (l ∷ ls) [] h d lt = absurd h
  window_same k (a ∷ []) (p ∷ []) h d lt = one_same k a p h d lt
  window_same k (a ∷ []) (p ∷ q ∷ ms) h d lt = absurd h.1
  window_same k (a ∷ b ∷ ls) (p ∷ []) h d lt = absurd h.1
  window_same k (a ∷ b ∷ []) (p ∷ q ∷ []) h d lt = two_same k a b p q h d lt
  window_same k (a ∷ b ∷ []) (p ∷ q ∷ r ∷ ms) h d lt = absurd h.1.1
  window_same k (a ∷ b ∷ c ∷ ls) (p ∷ q ∷ []) h d lt = absurd h.1.1
  window_same k (a ∷ b ∷ c ∷ []) (p ∷ q ∷ r ∷ []) h d lt = three_same k a b c p q r h d lt
  window_same k (a ∷ b ∷ c ∷ []) (p ∷ q ∷ r ∷ e ∷ ms) h d lt = absurd h.1.1.1
  window_same k (a ∷ b ∷ c ∷ e ∷ ls) (p ∷ q ∷ r ∷ []) h d lt = absurd h.1.1.1
  window_same k (a ∷ b ∷ c ∷ e ∷ ls) (p ∷ q ∷ r ∷ f ∷ ms) h d lt = window_more k (meaning_of a) (meaning_of b) (meaning_of c) (meaning_of e) (map meaning_of ls) enclosing d ∙ sym (window_more k p q r f ms enclosing d)

  pub rolling_same : (b : Bool) (n : ℕ) (f g : ℕ → Value) → ((d : ℕ) → d < DAYS → f d ≡ g d) → (d : ℕ) → d < DAYS → rolling b n f d ≡ rolling b n g d
  rolling_same true n f g h d lt = reads_the_calendar.rolling_all n f g h d lt
  rolling_same false n f g h d lt = reads_the_calendar.rolling_any n f g h d lt

  -- a node makes the same of lines as of what they stand for
  node_same : (l : Look) (n : Node) (ls : Lines) (ms : List Meaning) → Stand enclosing ls ms → Same (node_meaning l n (map meaning_of ls)) (node_meaning l n ms)
  node_same l (node.Const v) ls ms h d lt = refl
  node_same l (node.Attr a owner) ls ms h d lt = refl
  node_same l (node.All n) ls ms h d lt = ap all_of (stand_each ls ms h d lt)
  node_same l (node.Any n) ls ms h d lt = ap any_of (stand_each ls ms h d lt)
  node_same l node.Not ls ms h d lt = ap not_of (sole_same ls ms h d lt)
  node_same l (node.Op k n) ls ms h d lt = ap (strict (op_of k)) (stand_each ls ms h d lt)
  node_same l node.Certain ls ms h d lt = ap certain_of (sole_same ls ms h d lt)
  node_same l node.Known ls ms h d lt = ap known_of (sole_same ls ms h d lt)
  node_same l (node.Window k n) ls ms h d lt = window_same k ls ms h d lt
  node_same l (node.Rolling b n) ls ms h d lt = rolling_same b n (sole (map meaning_of ls) enclosing) (sole ms enclosing) (sole_same ls ms h) d lt
  node_same l node.Choose ls ms h d lt = chosen_same ls ms h d lt
  node_same l _ ls ms h d lt = refl

  -- the operands are taken from the end, and the node's line is put there
  pub put_stands : (l : Look) (n : Node) (old left : Lines) (st : List Meaning) (from : ℕ) (line : List (ℕ × Value)) → from ≡ length old - operand_count n → left ≡ take from old
      → (IsStep n → HasAll (node_meaning l n (map meaning_of (drop from old)) enclosing) line) → IsStep n → Stand enclosing old st → Stand enclosing (left ++ line ∷ []) (put l n st)
  put_stands l n old left st from line is left_is stands ok h =
      let k : from ≡ length st - operand_count n = is ∙ ap (λ n'. n' - operand_count n) (stand_length old st h) in
      subst (λ j. Stand enclosing (left ++ line ∷ []) (take j st ++ node_meaning l n (drop j st) ∷ [])) k
      (subst (λ xs. Stand enclosing (xs ++ line ∷ []) (take from st ++ node_meaning l n (drop from st) ∷ [])) (sym left_is)
      (stand_more (take from old) (take from st) line (node_meaning l n (drop from st)) (stand_take from old st h)
      (λ d lt. stands ok d lt ∙ node_same l n (drop from old) (drop from st) (stand_drop from old st h) d lt)))

  -- a choice whose operands are taken one after another
  pub chosen_stands : (l : Look) (old new : Lines) (st : List Meaning) → IsChosen old new → Stand enclosing old st → Stand enclosing new (put l node.Choose st)
  chosen_stands l old new st c h =
      let three = c.test ∷ c.value ∷ c.rest ∷ [] in
      let is : old ≡ c.below ++ three = c.is ∙ three_behind c.below c.test c.value c.rest in
      let from : length c.below ≡ length old - 3 = (let a = length-append c.below three in let b = ap length is in omega (arith, a, b)) in
      let under : c.below ≡ take (length c.below) old = sym (ap (take (length c.below)) is ∙ take-append_seam c.below three) in
      let over : three ≡ drop (length c.below) old = sym (ap (drop (length c.below)) is ∙ drop-append_seam c.below three) in
      subst (λ ls. Stand enclosing ls (put l node.Choose st)) (sym c.new_is)
      (put_stands l node.Choose old c.below st (length c.below) c.line from under (λ _. subst (λ ls. HasAll (chosen (map meaning_of ls) enclosing) c.line) over c.has) tt h)
