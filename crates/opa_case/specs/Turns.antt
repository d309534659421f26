-- What a change of a containment list takes away, and what it makes live.
use Rattle.std.specs.Prelude.{◌≡◌, ◌+◌, ◌-◌, ◌==◌, ℕ, zero, suc, Bool, true, false, not, cond, [], ◌++◌, None, Some, length, unwrap_or, filter, flat_map}
use Rattle.std.specs.List.{list_any}
use Rattle.opa_model.specs.declared.ids.RelId.{RelId}
use Rattle.opa_cells.specs.declared.instance.InstanceId.{InstanceId}
use Rattle.opa_cells.specs.Instances.{is_same, is_text}
use Rattle.opa_case.specs.Shapes.{Shape}
use Rattle.opa_case.specs.Live.{Names, Lists, Population, members, in_container, held, is_live, container_of}

-- the names of a list that another one doesn't have
abbrev pub names_without : Names → Names → Names
names_without names others = filter (λ n. not (list_any (is_text n) others)) names

-- an instance is one of these
abbrev pub is_among : Population → InstanceId → Bool
is_among live i = list_any (λ p. is_same i p.0) live

-- of an entity: the seeds if it is t, and else what those of its parent entity that go contain
abbrev pub gone_at : Shape → Lists → ℕ → Population → ℕ → Population → Population
gone_at s l t seeds e gone = cond (e == t) seeds (cond (s.parent e == 0) [] (flat_map (held s l e) (members (s.parent e) gone)))

-- What goes where these seeds of an entity t go: of the entities 1 to n, in instance order.
unfoldable pub gone_upto : Shape → Lists → ℕ → Population → ℕ → Population
gone_upto s l t seeds zero = []
gone_upto s l t seeds (suc n) = gone_upto s l t seeds n ++ gone_at s l t seeds (suc n) (gone_upto s l t seeds n)

-- what goes, and what comes, where a containment list becomes these names
abbrev pub leaving : Shape → Lists → RelId → InstanceId → Names → Population
leaving s l r i names = gone_upto s l (s.target r) (in_container (s.target r) i (names_without (unwrap_or (l r i) []) names)) (s.count - 1)

abbrev pub coming : Shape → Lists → RelId → InstanceId → Names → Population
coming s l r i names = in_container (s.target r) i (names_without names (unwrap_or (l r i) []))

-- One population becomes another: these go, and these come into a container.
pub record Turns (live next gone come : Population) (i : InstanceId) : Type 0 where
  pub homes : (x : InstanceId) → container_of next x ≡ cond (is_among gone x) None (cond (is_among come x) (Some i) (container_of live x))
  pub counts : (e : ℕ) → length (filter (λ p. p.0.entity.0 == e) next) + length (filter (λ p. p.0.entity.0 == e) gone) ≡ length (filter (λ p. p.0.entity.0 == e) live) + length (filter (λ p. p.0.entity.0 == e) come)
  pub total : length next + length gone ≡ length live + length come
  -- what goes was live and isn't any more; what comes wasn't
  pub lived : (x : InstanceId) → is_among gone x ≡ true → is_live live x ≡ true
  pub went : (x : InstanceId) → is_among gone x ≡ true → is_live next x ≡ false
  pub new : (x : InstanceId) → is_among come x ≡ true → is_live live x ≡ false
  -- all else that was live stays
  pub stays : (x : InstanceId) → is_live live x ≡ true → is_live next x ≡ not (is_among gone x)
