-- Listeners that are ready can keep what they watch, and are then told.
use Rattle.std.proofs.Common.{◌≡◌, ◌≤◌, ◌<◌, ◌+◌, ℕ, zero, suc, List, [], ◌∷◌, ◌++◌, length, map, take, set, get_or, Bool, true, false, cond, refl, sym, ap, subst, ◌∙◌, arith, append-nil}
use Rattle.std.specs.List.{All, AllZip, AllByRecursion}
use Rattle.std.proofs.lemmas.List.{take_more, take_more_set, take_all, map-append, length-map}
use Rattle.std.proofs.lemmas.Slice.Zip.{AllZip-long}
use Rattle.std.proofs.lemmas.List.Elements.{All-head, All-rest, All-from_recursion, filter-append}
use Rattle.opa_io.proofs.Lists.{each_push}
use Rattle.opa_model.specs.declared.ids.AttrId.{AttrId}
use Rattle.opa_listen.specs.declared.change.Change.{Change}
use Rattle.opa_listen.specs.Listening.{ListenerView, is_watched, watched_of}
use Rattle.opa_listen.proofs.Keeping.{each_itself}
use Rattle.opa_listen.specs.Telling.{HasRoomOf, CanKeep, IsReady, EachKeeps, each_watched, AreTold}

watched_each : (attrs : List AttrId) (cs : List Change) → AllByRecursion (λ (c : Change). is_watched attrs c.attr ≡ true) (watched_of attrs cs)
watched_each attrs [] = tt
watched_each attrs (c ∷ cs) = go (is_watched attrs c.attr) refl (watched_each attrs cs)
  where
    go : (b : Bool) → is_watched attrs c.attr ≡ b → AllByRecursion (λ (x : Change). is_watched attrs x.attr ≡ true) (watched_of attrs cs) → AllByRecursion (λ (x : Change). is_watched attrs x.attr ≡ true) (cond b (c ∷ watched_of attrs cs) (watched_of attrs cs))
    go true e h = (e, h)
    go false e h = h

-- one more change
pub watched_more : (attrs : List AttrId) (cs : List Change) (i : ℕ) (d : Change) (b : Bool) → i < length cs → b ≡ is_watched attrs (get_or cs i d).attr
    → watched_of attrs (take (i + 1) cs) ≡ cond b (watched_of attrs (take i cs) ++ get_or cs i d ∷ []) (watched_of attrs (take i cs))
watched_more attrs cs i d b l e =
    ap (watched_of attrs) (take_more cs i d l) ∙ filter-append (λ (c : Change). is_watched attrs c.attr) (take i cs) (get_or cs i d ∷ []) ∙ go b (is_watched attrs (get_or cs i d).attr) e
  where
    go : (a t : Bool) → a ≡ t → watched_of attrs (take i cs) ++ cond t (get_or cs i d ∷ []) [] ≡ cond a (watched_of attrs (take i cs) ++ get_or cs i d ∷ []) (watched_of attrs (take i cs))
    go true true h = refl
    go true false h = absurd (cc h)
    go false true h = absurd (cc h)
    go false false h = append-nil (watched_of attrs (take i cs))

pub ready_can_keep : (changes : List Change) (v : ListenerView) → IsReady changes v → CanKeep (watched_of v.watched changes) v
ready_can_keep changes v h = record { room = h; watched = All-from_recursion (λ (c : Change). is_watched v.watched c.attr ≡ true) (watched_of v.watched changes) (watched_each v.watched changes) }

-- ---- each in turn

room_trans : (u v w : ListenerView) → HasRoomOf u v → HasRoomOf v w → HasRoomOf u w
room_trans u v w h k = record {
  same = record { watched = k.same.watched ∙ h.same.watched; kept = k.same.kept ∙ h.same.kept; style = k.same.style ∙ h.same.style };
  room = omega (arith, h.room, k.room);
}

module _ {X : Type 0} (view : X → ListenerView) where
  -- one of them may have more room
  pub room_set : (us : List ListenerView) (xs : List X) (i : ℕ) (d y : X) → AllZip HasRoomOf us (map view xs) → HasRoomOf (view (get_or xs i d)) (view y) → AllZip HasRoomOf us (map view (set xs i y))
  room_set [] [] i d y h k = h
  room_set [] (x ∷ xs) i d y h k = absurd h
  room_set (u ∷ us) [] i d y h k = absurd h
  room_set (u ∷ us) (x ∷ xs) zero d y h k = (room_trans u (view x) (view y) h.0 k, h.1)
  room_set (u ∷ us) (x ∷ xs) (suc i) d y h k = (h.0, room_set us xs i d y h.1 k)

  -- the first so many are ready, and none has less room
  pub record Readied (changes : List Change) (start now : List X) (place : ℕ) : Type 0 where
    pub ready : AllByRecursion (IsReady changes) (map view (take place now))
    pub same : AllZip HasRoomOf (map view start) (map view now)

  pub readied_start : (changes : List Change) (xs : List X) → Readied changes xs xs 0
  readied_start changes xs = record { ready = tt; same = each_itself (map view xs) }

  -- also where one that isn't ready has more room
  pub readied_err : (changes : List Change) (start now : List X) (place : ℕ) (x y : X) → Readied changes start now place → x ≡ get_or now place x → HasRoomOf (view x) (view y) → AllZip HasRoomOf (map view start) (map view (set now place y))
  readied_err changes start now place x y h e k = room_set (map view start) now place x y h.same (subst (λ z. HasRoomOf (view z) (view y)) e k)

  same_length : (us : List ListenerView) (xs : List X) → AllZip HasRoomOf us (map view xs) → length xs ≡ length us
  same_length us xs h = sym (length-map xs view) ∙ AllZip-long HasRoomOf us (map view xs) h

  pub readied_within : (changes : List Change) (start now : List X) (place : ℕ) → Readied changes start now place → length now ≡ length start
  readied_within changes start now place h = same_length (map view start) now h.same ∙ length-map start view

  pub readied_more : (changes : List Change) (start now : List X) (place : ℕ) (x y : X) → Readied changes start now place → place < length start → x ≡ get_or now place x
      → HasRoomOf (view x) (view y) → IsReady changes (view y) → Readied changes start (set now place y) (place + 1)
  readied_more changes start now place x y h l e k r =
      let within : place < length now = omega (arith, l, readied_within changes start now place h) in
      record {
        ready = subst (AllByRecursion (IsReady changes)) (sym (ap (map view) (take_more_set now place y within) ∙ map-append view (take place now) (y ∷ []))) (each_push (IsReady changes) (map view (take place now)) (view y) h.ready r);
        same = readied_err changes start now place x y h e k;
      }

  pub readied_all : (changes : List Change) (start now : List X) (place : ℕ) → Readied changes start now place → length start ≤ place → All (IsReady changes) (map view now)
  readied_all changes start now place h l = All-from_recursion (IsReady changes) (map view now) (subst (λ xs. AllByRecursion (IsReady changes) (map view xs)) (take_all place now (omega (arith, l, readied_within changes start now place h))) h.ready)

-- ---- ready listeners are told

-- where each is ready, each can keep those that it watches
pub ready_can : (changes : List Change) (vs : List ListenerView) → All (IsReady changes) vs → AllZip CanKeep (each_watched changes vs) vs
ready_can changes [] h = tt
ready_can changes (v ∷ vs) h = (ready_can_keep changes v (All-head (IsReady changes) v vs h), ready_can changes vs (All-rest (IsReady changes) v vs (v ∷ vs) refl h))

-- what `tell` asks, of lists that `copies` answered for listeners that are ready
pub ready_can_tell : (changes : List Change) (css : List (List Change)) (vs : List ListenerView) → All (IsReady changes) vs → css ≡ each_watched changes vs → AllZip CanKeep css vs
ready_can_tell changes css vs h e = subst (λ xs. AllZip CanKeep xs vs) (sym e) (ready_can changes vs h)

-- where each keeps those that it watches, each is told
pub keeping_is_told : (changes : List Change) (vs ws : List ListenerView) → EachKeeps (each_watched changes vs) vs ws → AreTold changes vs ws
keeping_is_told changes [] [] h = tt
keeping_is_told changes [] (w ∷ ws) h = absurd h
keeping_is_told changes (v ∷ vs) [] h = absurd h
keeping_is_told changes (v ∷ vs) (w ∷ ws) h = (record { watched = h.0.same.watched; kept = h.0.same.kept; style = h.0.same.style }, keeping_is_told changes vs ws h.1)

-- room changes nothing of what is watched
pub same_watched : (changes : List Change) (vs ws : List ListenerView) → AllZip HasRoomOf vs ws → each_watched changes ws ≡ each_watched changes vs
same_watched changes [] [] h = refl
same_watched changes [] (w ∷ ws) h = absurd h
same_watched changes (v ∷ vs) [] h = absurd h
same_watched changes (v ∷ vs) (w ∷ ws) h = ap (λ a. watched_of a changes ∷ each_watched changes ws) h.0.same.watched ∙ ap (λ xs. watched_of v.watched changes ∷ xs) (same_watched changes vs ws h.1)
