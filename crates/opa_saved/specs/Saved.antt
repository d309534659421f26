-- A case as it is saved.
use Rattle.std.specs.Prelude.{◌≡◌, ℕ, zero, suc, List, [], ◌∷◌, ◌++◌, length, map, flat_map, Bool, Option, None, Some, codes, IsUtf8, if◌then◌else◌}
use Rattle.std.specs.FinMap.{get}
use Rattle.serde_json.specs.Data.{Data, number, unsigned, string, array, object, member, no_members, item, no_items}
use Rattle.serde_json.specs.Read.{read}
use Rattle.serde_json.specs.View.{items_of}
use Rattle.serde_json.specs.Written.{compact_text}
use Rattle.opa_value.specs.declared.value.Value.{Value}
use Rattle.opa_value.specs.declared.value.Value.TheVariants as value
use Rattle.opa_value.specs.NumberText.{plain_text}
use Rattle.opa_date.specs.Texts.{day_text}
use Rattle.opa_model.specs.declared.ids.AttrId.{AttrId}
use Rattle.opa_model.specs.declared.ids.RelId.{RelId}
use Rattle.opa_model.specs.declared.lists.Lists.{Lists}
use Rattle.opa_cells.specs.declared.instance.InstanceId.{InstanceId}
use Rattle.opa_case.specs.Live.{members}
use Rattle.opa_case.specs.Cases.{CaseView}
use Rattle.opa_case.specs.Shapes.{attribute_or, relation_or}
use Rattle.opa_saved.specs.Digests.{digest}

-- ---- values

abbrev pub bool_text : Bool → List ℕ
bool_text b = if b then codes "b:true" else codes "b:false"

abbrev pub value_text : Value → List ℕ
value_text value.Unknown = codes "?"
value_text value.Uncertain = codes "u"
value_text (value.Bool b) = bool_text b
value_text (value.Num n) = codes "n:" ++ plain_text n
value_text (value.Words t) = codes "t:" ++ t
value_text (value.Day d) = codes "d:" ++ day_text d

-- `[DAY,VALUE]`
abbrev pub pair_data : ℕ × Value → Data
pair_data p = array (item (number (unsigned p.0)) (item (string (value_text p.1)) no_items))

abbrev pub list_data : List Data → Data
list_data ds = array (items_of ds)

abbrev pub line_data : List (ℕ × Value) → Data
line_data l = list_data (map pair_data l)

abbrev pub names_data : List (List ℕ) → Data
names_data ns = list_data (map string ns)

-- ---- entries

abbrev pub answer_entry : List ℕ → InstanceId → List (ℕ × Value) → Data
answer_entry phrase i l = object (member (codes "attribute") (string phrase) (member (codes "line") (line_data l) (member (codes "of") (string i.name) no_members)))

abbrev pub list_entry : List ℕ → InstanceId → List (List ℕ) → Data
list_entry phrase i ns = object (member (codes "list") (string phrase) (member (codes "names") (names_data ns) (member (codes "of") (string i.name) no_members)))

-- the entry of what is known, if it is
abbrev pub entry_of : {A : Type 0} → (A → Data) → Option A → List Data
entry_of f None = []
entry_of f (Some x) = f x ∷ []

abbrev pub attr : ℕ → AttrId
attr n = record { 0 = n }

abbrev pub rel : ℕ → RelId
rel n = record { 0 = n }

-- the answers of an attribute, in instance order
abbrev pub answers_of : Lists → CaseView → ℕ → List Data
answers_of m c n = flat_map (λ i. entry_of (answer_entry (attribute_or m (attr n)).phrase i) (get c.answers (n, i))) (members (attribute_or m (attr n)).entity.0 c.live)

-- those of the first n attributes
unfoldable pub answers_upto : Lists → CaseView → ℕ → List Data
answers_upto m c zero = []
answers_upto m c (suc n) = answers_upto m c n ++ answers_of m c n

-- the lists of a relation, in instance order
abbrev pub lists_of : Lists → CaseView → ℕ → List Data
lists_of m c n = flat_map (λ i. entry_of (list_entry (relation_or m (rel n)).phrase i) (get c.lists (n, i))) (members (relation_or m (rel n)).source.0 c.live)

unfoldable pub lists_upto : Lists → CaseView → ℕ → List Data
lists_upto m c zero = []
lists_upto m c (suc n) = lists_upto m c n ++ lists_of m c n

-- ---- the whole

abbrev pub whole_data : List Data → List Data → ℕ → Data
whole_data answers lists digest =
    object
    (member (codes "answers") (list_data answers)
    (member (codes "format") (string (codes "policy-case"))
    (member (codes "lists") (list_data lists)
    (member (codes "model") (number (unsigned digest)) (member (codes "version") (number (unsigned 2)) no_members)))))

-- answers and lists in declared order and then in instance order, and the digest of the model
unfoldable pub saved_data : Lists → CaseView → Data
saved_data m c = whole_data (answers_upto m c (length m.attributes)) (lists_upto m c (length m.relations)) (digest m)

-- printed compactly, and a line feed
unfoldable pub saved_text : Lists → CaseView → List ℕ
saved_text m c = compact_text (saved_data m c) ++ 10 ∷ []

-- these bytes are UTF-8 and read as this value
abbrev pub ReadsAs : List ℕ → Data → Type 0
ReadsAs bytes d = IsUtf8 bytes × (read bytes ≡ Some d)
