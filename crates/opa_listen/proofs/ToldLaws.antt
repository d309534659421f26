-- Being told composes.
use Rattle.std.proofs.Common.{◌≡◌, List, [], ◌∷◌, ◌++◌, map, sym, ap, ◌∙◌, append_assoc, append-nil}
use Rattle.std.specs.List.{AllZip}
use Rattle.std.proofs.lemmas.List.Elements.{filter-append}
use Rattle.opa_listen.specs.declared.change.Change.{Change}
use Rattle.opa_listen.specs.Listening.{ListenerView, is_watched, watched_of}
use Rattle.opa_listen.specs.Telling.{IsButForRoom, HasRoomOf, told, AreTold}

-- whoever has more room is told alike
one_before : (changes : List Change) (u v w : ListenerView) → HasRoomOf u v → IsButForRoom (told changes v) w → IsButForRoom (told changes u) w
one_before changes u v w h k = record {
  watched = k.watched ∙ h.same.watched;
  kept = k.kept ∙ ap (λ x. x ++ watched_of v.watched changes) h.same.kept ∙ ap (λ a. u.kept ++ watched_of a changes) h.same.watched;
  style = k.style ∙ h.same.style;
}

pub told_before : (changes : List Change) (us vs ws : List ListenerView) → AllZip HasRoomOf us vs → AreTold changes vs ws → AreTold changes us ws
told_before changes [] [] ws h k = k
told_before changes [] (v ∷ vs) ws h k = absurd h
told_before changes (u ∷ us) [] ws h k = absurd h
told_before changes (u ∷ us) (v ∷ vs) [] h k = absurd k
told_before changes (u ∷ us) (v ∷ vs) (w ∷ ws) h k = (one_before changes u v w h.0 k.0, told_before changes us vs ws h.1 k.1)

-- told of some changes and then of others, a listener was told of all
one_both : (cs ds : List Change) (u v w : ListenerView) → IsButForRoom (told cs u) v → IsButForRoom (told ds v) w → IsButForRoom (told (cs ++ ds) u) w
one_both cs ds u v w h k = record {
  watched = k.watched ∙ h.watched;
  kept =
      k.kept ∙ ap (λ x. x ++ watched_of v.watched ds) h.kept ∙ ap (λ a. (u.kept ++ watched_of u.watched cs) ++ watched_of a ds) h.watched
      ∙ append_assoc u.kept (watched_of u.watched cs) (watched_of u.watched ds) ∙ ap (λ x. u.kept ++ x) (sym (filter-append (λ (c : Change). is_watched u.watched c.attr) cs ds));
  style = k.style ∙ h.style;
}

pub told_both : (cs ds : List Change) (us vs ws : List ListenerView) → AreTold cs us vs → AreTold ds vs ws → AreTold (cs ++ ds) us ws
told_both cs ds [] [] ws h k = k
told_both cs ds [] (v ∷ vs) ws h k = absurd h
told_both cs ds (u ∷ us) [] ws h k = absurd h
told_both cs ds (u ∷ us) (v ∷ vs) [] h k = absurd k
told_both cs ds (u ∷ us) (v ∷ vs) (w ∷ ws) h k = (one_both cs ds u v w h.0 k.0, told_both cs ds us vs ws h.1 k.1)

-- more room alone is no news
pub told_nothing : (us vs : List ListenerView) → AllZip HasRoomOf us vs → AreTold [] us vs
told_nothing [] [] h = tt
told_nothing [] (v ∷ vs) h = absurd h
told_nothing (u ∷ us) [] h = absurd h
told_nothing (u ∷ us) (v ∷ vs) h = (record { watched = h.0.same.watched; kept = h.0.same.kept ∙ sym (append-nil u.kept); style = h.0.same.style }, told_nothing us vs h.1)
