-- What listeners keep, change by change and listener by listener.
use Rattle.std.proofs.Common.{◌≡◌, ◌≤◌, ◌<◌, ◌+◌, ℕ, List, [], ◌∷◌, ◌++◌, length, map, take, drop, set, get_or, true, refl, sym, ap, subst, ◌∙◌, arith, append_assoc, append-nil, length-drop, add-one}
use Rattle.std.specs.List.{All, AllZip}
use Rattle.std.proofs.lemmas.List.{map-append, take_more_set, drop-set-lt, take-append-drop}
use Rattle.std.proofs.lemmas.List.Elements.{All-head, All-rest}
use Rattle.std.proofs.Math.Seq.{drop-cons}
use Rattle.opa_listen.specs.declared.change.Change.{Change}
use Rattle.opa_listen.specs.Listening.{ListenerView, is_watched}
use Rattle.opa_listen.specs.Telling.{HasRoomOf, keeping, CanKeep, EachKeeps}

-- ---- one listener

pub room_itself : (v : ListenerView) → HasRoomOf v v
room_itself v = record { same = record { watched = refl; kept = refl; style = refl }; room = omega arith }

pub keeps_none : (v : ListenerView) → HasRoomOf (keeping [] v) v
keeps_none v = record { same = record { watched = refl; kept = sym (append-nil v.kept); style = refl }; room = omega arith }

-- one more change, and then others
pub keeps_more : (c : Change) (cs : List Change) (u v w : ListenerView) → HasRoomOf (keeping (c ∷ []) u) v → HasRoomOf (keeping cs v) w → HasRoomOf (keeping (c ∷ cs) u) w
keeps_more c cs u v w h k = record {
  same = record {
    watched = k.same.watched ∙ h.same.watched;
    kept = k.same.kept ∙ ap (λ xs. xs ++ cs) h.same.kept ∙ append_assoc u.kept (c ∷ []) cs;
    style = k.same.style ∙ h.same.style;
  };
  room = omega (arith, h.room, k.room);
}

pub can_room : (c : Change) (cs : List Change) (v : ListenerView) → CanKeep (c ∷ cs) v → 1 ≤ v.spare
can_room c cs v h = omega (arith, h.room)

pub can_watch : (c : Change) (cs : List Change) (v : ListenerView) → CanKeep (c ∷ cs) v → is_watched v.watched c.attr ≡ true
can_watch c cs v h = All-head (λ (x : Change). is_watched v.watched x.attr ≡ true) c cs h.watched

pub can_more : (c : Change) (cs : List Change) (v w : ListenerView) → CanKeep (c ∷ cs) v → HasRoomOf (keeping (c ∷ []) v) w → CanKeep cs w
can_more c cs v w h k = record {
  room = omega (arith, h.room, k.room);
  watched = subst (λ attrs. All (λ (x : Change). is_watched attrs x.attr ≡ true) cs) (sym k.same.watched) (All-rest (λ (x : Change). is_watched v.watched x.attr ≡ true) c cs (c ∷ cs) refl h.watched);
}

-- what a loop over changes keeps
pub record Kept (all : List Change) (start now : ListenerView) (rest : List Change) : Type 0 where
  pub can : CanKeep rest now
  pub goes : (w : ListenerView) → HasRoomOf (keeping rest now) w → HasRoomOf (keeping all start) w

pub kept_start : (all : List Change) (v : ListenerView) → CanKeep all v → Kept all v v all
kept_start all v h = record { can = h; goes = λ w k. k }

pub kept_more : (all : List Change) (start v w : ListenerView) (c : Change) (cs : List Change) → Kept all start v (c ∷ cs) → HasRoomOf (keeping (c ∷ []) v) w → Kept all start w cs
kept_more all start v w c cs h k = record { can = can_more c cs v w h.can k; goes = λ x m. h.goes x (keeps_more c cs v w x k m) }

pub kept_end : (all : List Change) (start v : ListenerView) → Kept all start v [] → HasRoomOf (keeping all start) v
kept_end all start v h = h.goes v (keeps_none v)

-- ---- each listener

pub each_itself : (vs : List ListenerView) → AllZip HasRoomOf vs vs
each_itself [] = tt
each_itself (v ∷ vs) = (room_itself v, each_itself vs)

module _ {X : Type 0} (view : X → ListenerView) where
  -- what a loop over listeners keeps
  pub record Told (all : List (List Change)) (start now : List X) (rest : List (List Change)) (place : ℕ) : Type 0 where
    pub can : AllZip CanKeep rest (map view (drop place now))
    pub goes : (ws : List ListenerView) → EachKeeps rest (map view (drop place now)) ws → EachKeeps all (map view start) (map view (take place now) ++ ws)

  pub told_start : (all : List (List Change)) (xs : List X) → AllZip CanKeep all (map view xs) → Told all xs xs all 0
  told_start all xs h = record { can = h; goes = λ ws k. k }

  can_first : (cs : List Change) (css : List (List Change)) (xs : List X) → AllZip CanKeep (cs ∷ css) (map view xs) → 0 < length xs
  can_first cs css [] h = absurd h
  can_first cs css (x ∷ xs) h = omega arith

  -- more changes are left, so there is a listener for them
  pub told_within : (all : List (List Change)) (start now : List X) (cs : List Change) (css : List (List Change)) (place : ℕ) → Told all start now (cs ∷ css) place → place < length now
  told_within all start now cs css place h = omega (arith, length-drop {A = X}, can_first cs css (drop place now) h.can)

  at_place : (now : List X) (place : ℕ) (d : X) → place < length now → drop place now ≡ get_or now place d ∷ drop (place + 1) now
  at_place now place d h = drop-cons now place d h ∙ ap (λ n. get_or now place d ∷ drop n now) (sym (add-one place))

  pub told_can : (all : List (List Change)) (start now : List X) (cs : List Change) (css : List (List Change)) (place : ℕ) (d : X) → Told all start now (cs ∷ css) place → place < length now → CanKeep cs (view (get_or now place d))
  told_can all start now cs css place d h l = (subst (λ ys. AllZip CanKeep (cs ∷ css) (map view ys)) (at_place now place d l) h.can).0

  pub told_more : (all : List (List Change)) (start now : List X) (cs : List Change) (css : List (List Change)) (place : ℕ) (d x : X) → Told all start now (cs ∷ css) place → place < length now
      → HasRoomOf (keeping cs (view (get_or now place d))) (view x) → Told all start (set now place x) css (place + 1)
  told_more all start now cs css place d x h l k = record {
    can = subst (λ ys. AllZip CanKeep css (map view ys)) (sym rest) (subst (λ ys. AllZip CanKeep (cs ∷ css) (map view ys)) here h.can).1;
    goes = λ ws m.
        let more : EachKeeps css (map view (drop (place + 1) now)) ws = subst (λ ys. EachKeeps css (map view ys) ws) rest m in
        let whole : EachKeeps (cs ∷ css) (map view (drop place now)) (view x ∷ ws) = subst (λ ys. EachKeeps (cs ∷ css) (map view ys) (view x ∷ ws)) (sym here) (k, more) in
        subst (EachKeeps all (map view start)) (joined ws) (h.goes (view x ∷ ws) whole);
  }
    where
      here : drop place now ≡ get_or now place d ∷ drop (place + 1) now
      here = at_place now place d l

      rest : drop (place + 1) (set now place x) ≡ drop (place + 1) now
      rest = drop-set-lt (place + 1) now place x (omega arith)

      front : map view (take (place + 1) (set now place x)) ≡ map view (take place now) ++ view x ∷ []
      front = ap (map view) (take_more_set now place x l) ∙ map-append view (take place now) (x ∷ [])

      joined : (ws : List ListenerView) → map view (take place now) ++ view x ∷ ws ≡ map view (take (place + 1) (set now place x)) ++ ws
      joined ws = sym (ap (λ ys. ys ++ ws) front ∙ append_assoc (map view (take place now)) (view x ∷ []) ws)

  pub told_end : (all : List (List Change)) (start now : List X) (rest : List (List Change)) (place : ℕ) → Told all start now rest place → rest ≡ [] → EachKeeps all (map view start) (map view now)
  told_end all start now rest place h e =
      let left = subst (λ css. EachKeeps css (map view (drop place now)) (map view (drop place now))) (sym e) (each_itself (map view (drop place now))) in
      subst (EachKeeps all (map view start)) (sym (map-append view (take place now) (drop place now)) ∙ ap (map view) (take-append-drop place now)) (h.goes (map view (drop place now)) left)
