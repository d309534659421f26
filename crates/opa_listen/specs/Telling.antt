-- What is told to listeners, and what is left of them.
use Rattle.std.specs.Prelude.{◌≡◌, ◌≤◌, ◌-◌, List, [], ◌∷◌, ◌++◌, length, map, true}
use Rattle.std.specs.List.{All, AllZip}
use Rattle.opa_listen.specs.declared.change.Change.{Change}
use Rattle.opa_listen.specs.Listening.{ListenerView, is_watched, watched_of}

-- ---- one listener

-- it watches, keeps and says the same as another one
pub record IsButForRoom (v w : ListenerView) : Type 0 where
  pub watched : w.watched ≡ v.watched
  pub kept : w.kept ≡ v.kept
  pub style : w.style ≡ v.style

-- and has no less room
pub record HasRoomOf (v w : ListenerView) : Type 0 where
  pub same : IsButForRoom v w
  pub room : v.spare ≤ w.spare

-- once it keeps these changes as well, and room is taken for each
abbrev pub keeping : List Change → ListenerView → ListenerView
keeping changes v = record v { kept = v.kept ++ changes; spare = v.spare - length changes }

-- once it is told of changes: it keeps those that it watches
abbrev pub told : List Change → ListenerView → ListenerView
told changes v = record v { kept = v.kept ++ watched_of v.watched changes }

-- it has room for the changes, and watches each of them
pub record CanKeep (changes : List Change) (v : ListenerView) : Type 0 where
  pub room : length changes ≤ v.spare
  pub watched : All (λ (c : Change). is_watched v.watched c.attr ≡ true) changes

-- it has room for those of the changes that it watches
abbrev pub IsReady : List Change → ListenerView → Type 0
IsReady changes v = length (watched_of v.watched changes) ≤ v.spare

-- ---- each listener

-- each keeps its own list of changes as well
abbrev pub each_keeping : List (List Change) → List ListenerView → List ListenerView
each_keeping (cs ∷ css) (v ∷ vs) = keeping cs v ∷ each_keeping css vs
each_keeping [] vs = vs
each_keeping (cs ∷ css) [] = []

abbrev pub EachKeeps : List (List Change) → List ListenerView → List ListenerView → Type 0
EachKeeps css before after = AllZip HasRoomOf (each_keeping css before) after

-- for each listener those of the changes that it watches
abbrev pub each_watched : List Change → List ListenerView → List (List Change)
each_watched changes vs = map (λ (v : ListenerView). watched_of v.watched changes) vs

-- each is told of the changes, whatever room that takes
abbrev pub AreTold : List Change → List ListenerView → List ListenerView → Type 0
AreTold changes before after = AllZip IsButForRoom (map (told changes) before) after
