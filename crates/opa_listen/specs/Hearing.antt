-- What a listener watches, keeps and says, whatever its room.
use Rattle.std.specs.Prelude.{ℕ, List, ◌++◌}
use Rattle.opa_model.specs.declared.ids.AttrId.{AttrId}
use Rattle.opa_listen.specs.declared.change.Change.{Change}
use Rattle.opa_listen.specs.Listening.{ListenerView, watched_of}
use Rattle.opa_listen.specs.Words.{words}

-- the attributes that it watches, the changes that it keeps, and in which style it speaks at the end
pub record Hearer : Type 0 where
  pub watched : List AttrId
  pub kept : List Change
  pub style : ℕ

-- what is seen of a listener but for its room
abbrev pub hearer : ListenerView → Hearer
hearer v = record { watched = v.watched; kept = v.kept; style = v.style }

-- what it says at the end
abbrev pub words_of : Hearer → List ℕ
words_of h = words h.style h.kept

-- once it is told of changes: it keeps those that it watches as well
abbrev pub hearing : List Change → Hearer → Hearer
hearing changes h = record { watched = h.watched; kept = h.kept ++ watched_of h.watched changes; style = h.style }
