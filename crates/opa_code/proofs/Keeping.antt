-- Lines that are kept stay right.
use Rattle.std.proofs.Common.{◌≡◌, ℕ, zero, suc, ◌+◌, ◌-◌, ◌<◌, List, [], ◌∷◌, ◌++◌, Some, length, take, drop, get_or, map, refl, sym, ◌∙◌, ap, subst, arith}
use Rattle.std.specs.List.{Contains}
use Rattle.std.proofs.lemmas.List.{length-drop}
use Rattle.opa_date.specs.declared.TheConstants.{DAYS}
use Rattle.opa_value.specs.declared.value.Value.{Value}
use Rattle.opa_line.specs.Lines.{StandsFor}
use Rattle.opa_model.specs.declared.ids.RelId.{RelId}
use Rattle.opa_tree.specs.declared.kinds.Quant.{Quant}
use Rattle.opa_window.specs.Days.{day_value}
use Rattle.opa_cells.specs.declared.instance.InstanceId.{InstanceId}
use Rattle.opa_mean.specs.Looks.{Look}
use Rattle.opa_mean.specs.Places.{place}
use Rattle.opa_code.specs.Keeping.{from_position, IsEnd, IsSpot, AreSpots, AreNoted, IsFirstLine, IsRight, AreRight, IsKept, IsNew, StayRight, IsLineAmong}
use Rattle.opa_code.specs.Mentions.{AddsOver}
use Rattle.opa_code.specs.Running.{over_meaning}
use Rattle.opa_code.specs.Steps.{IsOver, Keeps, Stands, over_at}
use Rattle.opa_code.specs.declared.kept.KeptLine.{KeptLine}
use Rattle.opa_code.specs.declared.kept.Spot.{Spot}
use Rattle.opa_code.specs.declared.node.Node.{Node}
use Rattle.opa_code.specs.declared.node.Node.TheVariants as node
use Rattle.opa_code.proofs.Enclosing.{quantifier_same}
use Rattle.opa_code.proofs.Standing.{day_is, stands_same}
use Rattle.opa_code.proofs.Stepping.{over_is, over_kept}

-- what is left behind so many nodes is their end
drop_end : (k : ℕ) (ns : List Node) → drop (length ns - length (drop k ns)) ns ≡ drop k ns
drop_end zero ns = let none : length ns - length ns ≡ 0 = omega arith in ap (λ n. drop n ns) none
drop_end (suc k) [] = refl
drop_end (suc k) (n ∷ ns) =
    let few = length-drop k ns in
    let size : suc (length ns) - length (drop k ns) ≡ suc (length ns - length (drop k ns)) = omega (arith, few) in
    ap (λ j. drop j (n ∷ ns)) size ∙ drop_end k ns

pub end_behind : (k : ℕ) (ns rest : List Node) → rest ≡ drop k ns → IsEnd ns rest
end_behind k ns rest is = ap (λ r. drop (length ns - length r) ns) is ∙ drop_end k ns ∙ sym is

pub end_whole : (ns rest : List Node) → rest ≡ ns → IsEnd ns rest
end_whole ns rest is = end_behind 0 ns rest is

abbrev none : List Node
none = []

nothing : (k : ℕ) → drop k none ≡ none
nothing zero = refl
nothing (suc k) = refl

drop_drop : (j k : ℕ) (ns : List Node) → drop k (drop j ns) ≡ drop (j + k) ns
drop_drop zero k ns = let same : k ≡ 0 + k = omega arith in ap (λ n. drop n ns) same
drop_drop (suc j) k [] = nothing k ∙ sym (nothing (suc j + k))
drop_drop (suc j) k (n ∷ ns) = let same : suc (j + k) ≡ suc j + k = omega arith in drop_drop j k ns ∙ ap (λ i. drop i (n ∷ ns)) same

-- the end of what is left behind a node
pub end_later : (ns rest after left : List Node) (n : Node) → rest ≡ n ∷ after → IsEnd after left → IsEnd ns rest → IsEnd ns left
end_later ns rest after left n is ends whole =
    let j = length ns - length rest in let k = suc (length after - length left) in
    end_behind (j + k) ns left (sym ends ∙ ap (drop k) (sym (whole ∙ is)) ∙ drop_drop j k ns)

module _ (l : Look) where
  -- entities that have the places that were noted, at two lists of enclosing instances
  one_place : (e f : List InstanceId) (spots : List Spot) (o k : ℕ) → k < length (map (λ s. s.owner) spots) → get_or (map (λ s. s.owner) spots) k o ≡ o → AreSpots l e spots → AreSpots l f spots
      → place l.container e o ≡ place l.container f o
  one_place e f [] o k few is at_e at_f = absurd (omega (arith, few))
  one_place e f (s ∷ spots) o zero few is at_e at_f =
      let one : IsSpot l e s = at_e 0 s (omega arith) in let other : IsSpot l f s = at_f 0 s (omega arith) in
      ap (place l.container e) (sym is) ∙ one ∙ sym other ∙ ap (place l.container f) is
  one_place e f (s ∷ spots) o (suc k) few is at_e at_f =
      one_place e f spots o k (omega (arith, few)) is (λ i d lt. at_e (suc i) d (omega (arith, lt))) (λ i d lt. at_f (suc i) d (omega (arith, lt)))

  noted_place : (e f : List InstanceId) (owners : List ℕ) (spots : List Spot) (o : ℕ) → AreNoted l e owners spots → AreSpots l f spots → Contains owners o → place l.container e o ≡ place l.container f o
  noted_place e f owners spots o noted at_f has =
      let here : Contains (map (λ s. s.owner) spots) o = subst (λ xs. Contains xs o) (sym noted.whole) has in
      one_place e f spots o here.0 here.1 here.2 noted.right at_f

  pub none_noted : (e : List InstanceId) (owners : List ℕ) (spots : List Spot) → owners ≡ [] → spots ≡ [] → AreNoted l e owners spots
  none_noted e owners spots none nothing = record {
    right = λ k d lt. absurd (omega (arith, lt, ap length nothing));
    whole = ap (map (λ s. s.owner)) nothing ∙ sym none;
  }

  -- a new line and the places on which it depends
  pub noted_new : (e : List InstanceId) (source target : ℕ) (operand : List Node) (position : ℕ) (line : List (ℕ × Value)) (old owners : List ℕ) (k : KeptLine) → k.position ≡ position → StandsFor DAYS (day_value line) k.line
      → AddsOver source target operand old owners → AreNoted l e owners k.spots → IsNew l e source target operand position line k
  noted_new e source target operand position line old owners k at copied over noted = record {
    at = at;
    copied = copied;
    depends = λ f at_f. record {
      source_same = noted_place e f owners k.spots source noted at_f over.source_there;
      others_same = λ o m other. noted_place e f owners k.spots o noted at_f (over.there o m other);
    };
  }

  copied_line : (m : ℕ → Value) (line copy : List (ℕ × Value)) → StandsFor DAYS m line → StandsFor DAYS (day_value line) copy → StandsFor DAYS m copy
  copied_line m line copy stands copied = stands_same copy (day_value line) m (λ d lt. day_is line m stands d lt) copied

  pub new_right : (e : List InstanceId) (source target : ℕ) (operand : List Node) (position : ℕ) (line : List (ℕ × Value)) (k : KeptLine) → IsNew l e source target operand position line k
      → (nodes : List Node) (q : Quant) (r : RelId) (count : ℕ) (after : List Node) → from_position position nodes ≡ node.Over q r source target count ∷ after → operand ≡ take count after → IsOver l e operand q r source target line → IsRight l nodes k
  new_right e source target operand position line k new nodes q r count after at operand_is over f at_f =
      let agrees = new.depends f at_f in
      let here : IsOver l f operand q r source target k.line = λ ms run.
      subst (λ m. StandsFor DAYS m k.line) (quantifier_same l operand q r source target ms e f run agrees.source_same agrees.others_same) (copied_line (over_meaning l q r source target ms e) line k.line (over ms run) new.copied) in
      subst (λ ns. IsFirstLine l f ns k.line) (sym (ap (λ p. from_position p nodes) new.at ∙ at)) (subst (λ xs. IsOver l f xs q r source target k.line) operand_is here)

  -- a line that is kept, copied
  pub kept_among : (e : List InstanceId) (q : Quant) (r : RelId) (source target count : ℕ) (after nodes : List Node) (ks new : List KeptLine) (line copy : List (ℕ × Value)) (position : ℕ) → position ≡ length after → new ≡ ks → IsKept l e ks position line
      → StandsFor DAYS (day_value line) copy → IsEnd nodes (node.Over q r source target count ∷ after) → AreRight l nodes ks → IsLineAmong l e q r source target count after nodes copy new
  kept_among e q r source target count after nodes ks new line copy position position_is same kept copied ends right =
      let first : IsFirstLine l e (node.Over q r source target count ∷ after) line = subst (λ ns. IsFirstLine l e ns line) (ap (λ p. from_position p nodes) position_is ∙ ends) (kept nodes right) in
      record {
        is = λ ms run. copied_line (over_meaning l q r source target ms e) line copy (first ms run) copied;
        right = subst (AreRight l nodes) (sym same) right;
      }

  -- a new line
  pub new_among : (e : List InstanceId) (q : Quant) (r : RelId) (source target count : ℕ) (after operand nodes : List Node) (old new : List KeptLine) (line : List (ℕ × Value)) (position : ℕ) → position ≡ length after → operand ≡ take count after
      → IsOver l e operand q r source target line → StayRight l e source target operand position line old new → IsEnd nodes (node.Over q r source target count ∷ after) → AreRight l nodes old → IsLineAmong l e q r source target count after nodes line new
  new_among e q r source target count after operand nodes old new line position position_is operand_is over stay ends right = record {
    is = subst (λ xs. IsOver l e xs q r source target line) operand_is over;
    right = stay nodes q r count after (ap (λ p. from_position p nodes) position_is ∙ ends) operand_is over right;
  }

  -- no line is kept
  pub none_right : (nodes : List Node) (ks : List KeptLine) → ks ≡ [] → AreRight l nodes ks
  none_right nodes ks nothing_kept k d lt = absurd (omega (arith, lt, ap length nothing_kept))

  -- a quantifier among nodes whose lines are kept
  pub at_over : (n : Node) (q : Quant) (r : RelId) (source target count : ℕ) (after nodes : List Node) → over_at n ≡ Some (q, (r, (source, (target, count)))) → IsEnd nodes (n ∷ after) → IsEnd nodes (node.Over q r source target count ∷ after)
  at_over n q r source target count after nodes said ends = subst (λ m. IsEnd nodes (m ∷ after)) (over_is n q r source target count said) ends

  pub among_kept : (e : List InstanceId) (old new : List (List (ℕ × Value))) (ks : List KeptLine) (line : List (ℕ × Value)) (n : Node) (q : Quant) (r : RelId) (source target count : ℕ) (after rest nodes : List Node) → over_at n ≡ Some (q, (r, (source, (target, count)))) → rest ≡ drop count after
      → new ≡ old ++ line ∷ [] → IsLineAmong l e q r source target count after nodes line ks → Keeps l e old (n ∷ after) new rest
  among_kept e old new ks line n q r source target count after rest nodes said rest_is new_is among = over_kept l e old new line n q r source target count after (take count after) rest said refl rest_is new_is among.is

  -- from the nodes that are left to those behind the next one
  pub kept_on : (e : List InstanceId) (nodes rest after left : List Node) (n : Node) (old new : List (List (ℕ × Value))) → rest ≡ n ∷ after → Keeps l e old (n ∷ after) new left → Keeps l e [] nodes old rest → Keeps l e [] nodes new left
  kept_on e nodes rest after left n old new is step whole end s = step end (subst (λ ns. Stands l e old ns end) is (whole end s))
