-- What contracts see of a listener.
use Rattle.std.specs.Prelude.{ℕ, List, [], ◌∷◌, Bool, true, ◌==◌}
use Rattle.std.specs.List.{list_any, filter}
use Rattle.opa_model.specs.declared.ids.AttrId.{AttrId}
use Rattle.opa_listen.specs.declared.change.Change.{Change}
use Rattle.opa_listen.specs.Words.{words}

-- the attributes that it watches, the changes that it keeps, for how many more it has room, and in which style it speaks at the end
pub record ListenerView : Type 0 where
  pub watched : List AttrId
  pub kept : List Change
  pub spare : ℕ
  pub style : ℕ

-- an attribute of the list; no list stands for all attributes
abbrev pub is_watched : List AttrId → AttrId → Bool
is_watched [] a = true
is_watched (b ∷ bs) a = list_any (λ c. c.0 == a.0) (b ∷ bs)

-- those of the changes that are watched, in order
abbrev pub watched_of : List AttrId → List Change → List Change
watched_of attrs changes = filter (λ c. is_watched attrs c.attr) changes

-- what a listener says at the end
abbrev pub last_words : ListenerView → List ℕ
last_words v = words v.style v.kept
