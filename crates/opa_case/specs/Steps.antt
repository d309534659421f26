-- What a command makes of a case: a new case, or the first refusal.
use Rattle.std.specs.Prelude.{ℕ, ℤ, zero, suc, ◌-◌, ◌^◌, ◌==◌, ◌%◌, nat_lt, Bool, true, false, ◌&&◌, ◌||◌, not, cond, List, Option, None, Some, Result, Ok, Err, length, map, ◌+◌, slice_index_or, int_le}
use Rattle.std.specs.Int.RustNames.{unsigned_abs}
use Rattle.std.specs.List.{list_all, list_any}
use Rattle.std.specs.Option.{option_map_or}
use Rattle.std.specs.FinMap.{FinMap, get, insert, remove, retain_keys, empty, len}
use Rattle.std.specs.Ordering.{eq_by_cmp}
use Rattle.opa_date.specs.declared.TheConstants.{DAYS}
use Rattle.opa_value.specs.declared.value.Value.{Value}
use Rattle.opa_value.specs.declared.value.Value.TheVariants as value
use Rattle.opa_model.specs.declared.ids.AttrId.{AttrId}
use Rattle.opa_model.specs.declared.ids.RelId.{RelId}
use Rattle.opa_model.specs.declared.things.Attribute.{Attribute}
use Rattle.opa_model.specs.declared.things.Kind.{Kind}
use Rattle.opa_model.specs.declared.things.Kind.TheVariants as kind
use Rattle.opa_cells.specs.Instances.{is_same, global, named}
use Rattle.opa_cells.specs.Keys.{cell_cmp}
use Rattle.opa_cells.specs.declared.instance.InstanceId.{InstanceId}
use Rattle.opa_case.specs.declared.change.ChangeCommand.{ChangeCommand}
use Rattle.opa_case.specs.declared.change.ChangeCommand.TheVariants.{Answer as SetAnswer, Withdraw, SetList, Forget}
use Rattle.opa_case.specs.declared.change.Refusal.{Refusal}
use Rattle.opa_case.specs.declared.change.Refusal.TheVariants.{Name, Kind as WrongKind, Range, Limit}
use Rattle.opa_case.specs.Shapes.{Shape}
use Rattle.opa_case.specs.Live.{Names, Lists, Population, members, live_of, is_live, container_of, walk}
use Rattle.opa_case.specs.Cases.{CaseView, Answer, stored, are_names}
use Rattle.opa_io.specs.declared.limits.TheConstants.{MOST_INSTANCE_NAME, MOST_POINTS, MOST_ANSWERS, MOST_INSTANCES, MOST_SLOTS}

-- the relation of a number
abbrev pub rel : ℕ → RelId
rel n = record { 0 = n }

-- Lists that stand at what is live, and lists of `every` relations.

-- whether a list stays
abbrev pub passes : Shape → Population → ℕ → InstanceId → Names → Bool
passes s live n i names = is_live live i && (s.contains (rel n) || list_all (λ m. is_live live (named (s.target (rel n)) m)) names)

-- A list stays where its instance is live and, unless it contains, all that it names are live.
abbrev pub stays : Shape → Population → FinMap cell_cmp Names → ℕ × InstanceId → Bool
stays s live lists k = is_live live k.1 && (s.contains (rel k.0) || option_map_or (list_all (λ n. is_live live (named (s.target (rel k.0)) n))) (get lists k) true)

-- the list of a relation that is declared with `every`, where its Walk is known
abbrev pub with_every : Shape → Lists → ℕ → FinMap cell_cmp Names → FinMap cell_cmp Names
with_every s l n before = cond (s.every (rel n)) (option_map_or (λ is. insert before (n, global) (map (λ i. i.name) is)) (walk s l s.count (s.target (rel n))) before) before

-- the same of the first n relations
unfoldable pub every_upto : Shape → Lists → ℕ → FinMap cell_cmp Names
every_upto s l zero = empty
every_upto s l (suc n) = with_every s l n (every_upto s l n)

abbrev pub every_of : Shape → Lists → FinMap cell_cmp Names
every_of s l = every_upto s l s.relations

-- The case that known lists and answers make: what isn't live goes, with all that it has.
abbrev pub settle : Shape → FinMap cell_cmp Names → FinMap cell_cmp Answer → CaseView
settle s lists answers =
    let live = live_of s (stored lists) in
    record { lists = retain_keys lists (stays s live lists); every = every_of s (stored lists); answers = retain_keys answers (λ k. is_live live k.1); live = live }

-- the first refusal of those that are tried in turn
abbrev pub unless : {X : Type 0} → Option Refusal → Result X Refusal → Result X Refusal
unless None x = x
unless (Some e) x = Err e

-- Answers.

abbrev pub is_unknown : Value → Bool
is_unknown value.Unknown = true
is_unknown value.Uncertain = false
is_unknown (value.Bool b) = false
is_unknown (value.Num n) = false
is_unknown (value.Words t) = false
is_unknown (value.Day d) = false

-- the answer says nothing on any day
abbrev pub is_unknown_answer : Answer → Bool
is_unknown_answer line = list_all (λ p. is_unknown p.1) line

abbrev pub is_bool : Kind → Bool
is_bool kind.Bool = true
is_bool kind.Number = false
is_bool kind.Currency = false
is_bool kind.Words = false
is_bool kind.Date = false

-- numbers are both the plain values of number and of currency
abbrev pub is_number : Kind → Bool
is_number kind.Bool = false
is_number kind.Number = true
is_number kind.Currency = true
is_number kind.Words = false
is_number kind.Date = false

abbrev pub is_words : Kind → Bool
is_words kind.Bool = false
is_words kind.Number = false
is_words kind.Currency = false
is_words kind.Words = true
is_words kind.Date = false

abbrev pub is_date : Kind → Bool
is_date kind.Bool = false
is_date kind.Number = false
is_date kind.Currency = false
is_date kind.Words = false
is_date kind.Date = true

-- the value, where it is plain, is of the kind; a date's day is one of the calendar
abbrev pub has_kind : Kind → Value → Bool
has_kind k value.Unknown = true
has_kind k value.Uncertain = true
has_kind k (value.Bool b) = is_bool k
has_kind k (value.Num n) = is_number k
has_kind k (value.Words t) = is_words k
has_kind k (value.Day d) = is_date k && nat_lt d DAYS

-- A count of 1/10000 has at most so many decimals.
abbrev pub has_decimals : ℕ → ℤ → Bool
has_decimals decimals n = unsigned_abs n % 10 ^ (4 - decimals) == 0

-- the value, where it is a number, is within the attribute's bounds and has at most its decimals
abbrev pub in_bounds : Attribute → Value → Bool
in_bounds a value.Unknown = true
in_bounds a value.Uncertain = true
in_bounds a (value.Bool b) = true
in_bounds a (value.Num n) = int_le a.least n && int_le n a.most && has_decimals a.decimals n
in_bounds a (value.Words t) = true
in_bounds a (value.Day d) = true

-- the attribute has a rule
abbrev pub has_rule : List Bool → AttrId → Bool
has_rule ruled a = slice_index_or ruled a.0 false

-- nothing can be answered of the attribute at the instance
abbrev pub is_unanswerable : Shape → List Bool → CaseView → AttrId → InstanceId → Bool
is_unanswerable s ruled c a i = has_rule ruled a || not (is_live c.live i) || not (i.entity.0 == (s.attribute a).entity.0)

abbrev pub without_answer : CaseView → AttrId → InstanceId → CaseView
without_answer c a i = record c { answers = remove c.answers (a.0, i) }

-- the case with the answer; one that says nothing on any day takes the answer away
abbrev pub with_answer : CaseView → AttrId → InstanceId → Answer → CaseView
with_answer c a i line = cond (is_unknown_answer line) (without_answer c a i) (record c { answers = insert c.answers (a.0, i) line })

-- why the answer can't be set
abbrev pub answer_fault : Shape → List Bool → CaseView → AttrId → InstanceId → Answer → Option Refusal
answer_fault s ruled c a i line =
    cond (is_unanswerable s ruled c a i) (Some Name)
    (cond (not (list_all (λ p. has_kind (s.attribute a).kind p.1) line)) (Some WrongKind)
    (cond (not (list_all (λ p. in_bounds (s.attribute a) p.1) line)) (Some Range)
    (cond (nat_lt MOST_POINTS (length line) || nat_lt MOST_ANSWERS (len (with_answer c a i line).answers)) (Some Limit) None)))

abbrev pub answer : Shape → List Bool → CaseView → AttrId → InstanceId → Answer → Result CaseView Refusal
answer s ruled c a i line = unless (answer_fault s ruled c a i line) (Ok (with_answer c a i line))

abbrev pub withdraw : Shape → List Bool → CaseView → AttrId → InstanceId → Result CaseView Refusal
withdraw s ruled c a i = cond (is_unanswerable s ruled c a i) (Err Name) (Ok (without_answer c a i))

-- Lists.

-- the instance lives in another container
abbrev pub stands_elsewhere : Population → InstanceId → InstanceId → Bool
stands_elsewhere live container i = option_map_or (λ c. not (is_same c container)) (container_of live i) false

-- nothing can be said of the relation at the instance
abbrev pub is_misplaced : Shape → CaseView → RelId → InstanceId → Bool
is_misplaced s c r i = s.every r || not (is_live c.live i) || not (i.entity.0 == s.source r)

-- a contained name lives in another container, or a referenced one isn't live
abbrev pub cant_name : Shape → CaseView → RelId → InstanceId → List ℕ → Bool
cant_name s c r i n = cond (s.contains r) (stands_elsewhere c.live i (named (s.target r) n)) (not (is_live c.live (named (s.target r) n)))

-- why the list can't be set, but for the numbers of what it makes live
abbrev pub list_fault : Shape → CaseView → RelId → InstanceId → Names → Option Refusal
list_fault s c r i names =
    cond (is_misplaced s c r i) (Some Name)
    (cond (not (are_names names)) (Some Name)
    (cond (list_any (cant_name s c r i) names) (Some Name)
    (cond (s.one r && nat_lt 1 (length names)) (Some Range)
    (cond (list_any (λ n. nat_lt MOST_INSTANCE_NAME (length n)) names) (Some Limit) None))))

-- how many live instances have this attribute, if it has a rule
abbrev pub slots_of : Shape → List Bool → Population → AttrId → ℕ
slots_of s ruled live a = cond (has_rule ruled a) (length (members (s.attribute a).entity.0 live)) 0

-- how many slots the first n attributes have
unfoldable pub slots_upto : Shape → List Bool → Population → ℕ → ℕ
slots_upto s ruled live zero = 0
slots_upto s ruled live (suc n) = slots_upto s ruled live n + slots_of s ruled live (record { 0 = n })

-- how many slots there are: a slot is a live instance with one attribute of its entity that has a rule
abbrev pub slots : Shape → List Bool → Population → ℕ
slots s ruled live = slots_upto s ruled live s.attributes

-- too many instances or slots are live
abbrev pub is_full : Shape → List Bool → Population → Bool
is_full s ruled live = nat_lt MOST_INSTANCES (length live) || nat_lt MOST_SLOTS (slots s ruled live)

abbrev pub within : Shape → List Bool → CaseView → Result CaseView Refusal
within s ruled c = cond (is_full s ruled c.live) (Err Limit) (Ok c)

-- one list is known, or unknown, and all else is as it was
abbrev pub listed : CaseView → RelId → InstanceId → Names → CaseView
listed c r i names = record c { lists = insert c.lists (r.0, i) names }

abbrev pub unlisted : CaseView → RelId → InstanceId → CaseView
unlisted c r i = record c { lists = remove c.lists (r.0, i) }

-- The case with a list, and without one.
abbrev pub with_list : Shape → CaseView → RelId → InstanceId → Names → CaseView
with_list s c r i names = settle s (insert c.lists (r.0, i) names) c.answers

abbrev pub set_list : Shape → List Bool → CaseView → RelId → InstanceId → Names → Result CaseView Refusal
set_list s ruled c r i names = unless (list_fault s c r i names) (within s ruled (with_list s c r i names))

abbrev pub without_list : Shape → CaseView → RelId → InstanceId → CaseView
without_list s c r i = settle s (remove c.lists (r.0, i)) c.answers

abbrev pub forget : Shape → CaseView → RelId → InstanceId → Result CaseView Refusal
forget s c r i = cond (is_misplaced s c r i) (Err Name) (Ok (without_list s c r i))

-- the known lists, with one changed
abbrev pub changed : FinMap cell_cmp Names → RelId → InstanceId → Option Names → Lists
changed m r i w q j = cond (eq_by_cmp cell_cmp (q.0, j) (r.0, i)) w (get m (q.0, j))

-- what a command makes of a case
abbrev pub step : Shape → List Bool → CaseView → ChangeCommand → Result CaseView Refusal
step s ruled c (SetAnswer a i line) = answer s ruled c a i line
step s ruled c (Withdraw a i) = withdraw s ruled c a i
step s ruled c (SetList r i names) = set_list s ruled c r i names
step s ruled c (Forget r i) = forget s c r i
