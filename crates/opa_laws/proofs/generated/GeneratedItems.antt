-- What the generated rulebase declares.
use Rattle.std.proofs.Common.{◌≡◌, ◌∙◌, ◌++◌, ℕ, List, [], ◌∷◌, Bool, true, false, cond, refl, sym, ap, ap₂}
use Rattle.std.specs.Prelude.{codes, map, filter, flat_map, not, is_some, Option, Some, None}
use Rattle.std.specs.List.{All}
use Rattle.std.specs.Str.{chars}
use Rattle.std.proofs.lemmas.List.Elements.{All-nil, All-cons}
use Rattle.opa_words.specs.declared.layout.block.Block.{Block}
use Rattle.opa_words.specs.declared.layout.block.BlockLine.{BlockLine}
use Rattle.opa_words.specs.Characters.{continues_word}
use Rattle.opa_words.proofs.Ascii.{ascii_utf8}
use Rattle.opa_words.proofs.PlaceLaws.{tokens_within, tokens_of_kind}
use Rattle.opa_model.specs.declared.lists.Lists.{Lists}
use Rattle.opa_model.specs.declared.things.Kind.TheVariants as kind
use Rattle.opa_decl.specs.declared.cut.CutBlock.{CutBlock}
use Rattle.opa_decl.specs.declared.cut.CutLine.{CutLine}
use Rattle.opa_decl.specs.declared.head.Head.{Head}
use Rattle.opa_decl.specs.declared.head.Head.TheVariants as head
use Rattle.opa_decl.specs.declared.items.Item.{Item}
use Rattle.opa_decl.specs.declared.items.Item.TheVariants as item
use Rattle.opa_decl.specs.declared.items.Name.{Name}
use Rattle.opa_decl.specs.declared.items.Place.{Place}
use Rattle.opa_decl.specs.declared.items.Sort.TheVariants as sort
use Rattle.opa_decl.specs.Cutting.{AreCut, HaveTokens, HasTokens}
use Rattle.opa_decl.specs.Declarations.{Declares, items_of, model_of, item_faults, items_or_none, syntax_faults, unspelled}
use Rattle.opa_decl.specs.Faults.{faults_by, twice_faults}
use Rattle.opa_decl.specs.Heads.{begins_with, head_of, is_declaration}
use Rattle.opa_decl.specs.Limits.{bounds_of, no_limits}
use Rattle.opa_decl.specs.Lines.{number_line as spelled_number, inside_line, member}
use Rattle.opa_decl.specs.Lists.{lists_of, global_entity}
use Rattle.opa_decl.specs.Names.{place, tables_of}
use Rattle.opa_decl.specs.Pieces.{split_at, phrase}
use Rattle.opa_decl.specs.Spelling.{spelled, block_by, member_in, inside_in, headed_phrase}
use Rattle.opa_decl.specs.Steps.{◌>>=◌}
use Rattle.opa_laws.proofs.generated.AsciiCuts.{IsLine, line_is_cut, tokens, continues_alike}
use Rattle.opa_laws.proofs.generated.GeneratedBlocks.{block, blocks, declaring, global_block, person_block, total_goal, number_goal, total_line, number_line}

-- ---- first words

no_word : continues_word 32 ≡ false
no_word = sym (continues_alike 32 refl)

-- the head, where a blank ends its word
abbrev ended : Head → Bool → Option Head
ended h t = cond (not t) (Some h) None

is_global : head_of (codes "global") ≡ Some head.Global
unfolding begins_with chars
is_global = refl

is_person : head_of (codes "entity the person") ≡ Some head.Entity
unfolding begins_with chars
is_person = ap (ended head.Entity) no_word

is_total : head_of (codes "goal the total") ≡ Some head.Goal
unfolding begins_with chars
is_total = ap (ended head.Goal) no_word

is_number : head_of (codes "goal the number above") ≡ Some head.Goal
unfolding begins_with chars
is_number = ap (ended head.Goal) no_word

no_head : head_of (codes "the total = InstanceSum(the people, the person's income)") ≡ None
unfolding begins_with
no_head = refl

no_head_either : head_of (codes "the number above = InstanceCountIf(the people, the person's income > 300)") ≡ None
unfolding begins_with
no_head_either = refl

-- ---- blocks with tokens

abbrev cut_line : BlockLine → CutLine
cut_line l = record { level = l.level; line = l.line; text = l.text; tokens = Some (tokens l.text) }

abbrev cut_block : Block → CutBlock
cut_block b = record { file = b.file; lines = map cut_line b.lines }

abbrev pub cut_blocks : List CutBlock
cut_blocks = map cut_block declaring

has_tokens : (l : BlockLine) → IsLine l.text → HasTokens (cut_line l).text (cut_line l).tokens
has_tokens l h =
    let cut = line_is_cut l.text h in
    let utf8 = ascii_utf8 l.text h.0 in
    record { utf8 = utf8; cut = cut; within = tokens_within l.text (tokens l.text) utf8 cut; kinds = tokens_of_kind l.text (tokens l.text) utf8 cut }

AreLines : List BlockLine → Type 0
AreLines [] = Unit {0}
AreLines (l ∷ ls) = IsLine l.text × AreLines ls

have_tokens : (ls : List BlockLine) → AreLines ls → All (λ (c : CutLine). HasTokens c.text c.tokens) (map cut_line ls)
unfolding AreLines
have_tokens [] h = All-nil (λ (c : CutLine). HasTokens c.text c.tokens)
have_tokens (l ∷ ls) h = All-cons (λ (c : CutLine). HasTokens c.text c.tokens) (cut_line l) (map cut_line ls) (has_tokens l h.0) (have_tokens ls h.1)

-- each block's lines are cut
AreBlockLines : List Block → Type 0
AreBlockLines [] = Unit {0}
AreBlockLines (b ∷ bs) = AreLines b.lines × AreBlockLines bs

all_tokens : (bs : List Block) → AreBlockLines bs → All HaveTokens (map cut_block bs)
unfolding AreBlockLines
all_tokens [] h = All-nil HaveTokens
all_tokens (b ∷ bs) h = All-cons HaveTokens (cut_block b) (map cut_block bs) (have_tokens b.lines h.0) (all_tokens bs h.1)

declaring_lines : AreBlockLines declaring
unfolding AreBlockLines AreLines
declaring_lines =
    (((refl, refl), ((refl, refl), ((refl, refl), tt))), (((refl, refl), ((refl, refl), ((refl, refl), tt))), (((refl, refl), tt), (((refl, refl), tt), tt))))

declared_first : (b : Block) (bs cs : List Block) → is_declaration b ≡ true → filter is_declaration bs ≡ cs → filter is_declaration (b ∷ bs) ≡ b ∷ cs
declared_first b bs cs e h = ap (λ t. cond t (b ∷ filter is_declaration bs) (filter is_declaration bs)) e ∙ ap (λ x. b ∷ x) h

declared_later : (b : Block) (bs cs : List Block) → is_declaration b ≡ false → filter is_declaration bs ≡ cs → filter is_declaration (b ∷ bs) ≡ cs
declared_later b bs cs e h = ap (λ t. cond t (b ∷ filter is_declaration bs) (filter is_declaration bs)) e ∙ h

abbrev rule_blocks : List Block
rule_blocks = block (total_line ∷ []) ∷ block (number_line ∷ []) ∷ []

first_four : filter is_declaration blocks ≡ declaring
first_four =
    declared_first global_block (person_block ∷ total_goal ∷ number_goal ∷ rule_blocks) (person_block ∷ total_goal ∷ number_goal ∷ []) (ap is_some is_global)
    (declared_first person_block (total_goal ∷ number_goal ∷ rule_blocks) (total_goal ∷ number_goal ∷ []) (ap is_some is_person)
    (declared_first total_goal (number_goal ∷ rule_blocks) (number_goal ∷ []) (ap is_some is_total)
    (declared_first number_goal rule_blocks [] (ap is_some is_number)
    (declared_later (block (total_line ∷ [])) (block (number_line ∷ []) ∷ []) [] (ap is_some no_head)
    (declared_later (block (number_line ∷ [])) [] [] (ap is_some no_head_either) refl)))))

are_cut : AreCut blocks cut_blocks
are_cut = record { same = sym first_four; tokens = all_tokens declaring declaring_lines }

-- ---- what they spell

abbrev name_at : ℕ → List ℕ → Name
name_at line text = let place : Place = record { file = 0; line = line } in record { place = place; text = text }

abbrev total_item : Item
total_item = item.Attribute (record { of_global = true; phrase = name_at 2 (codes "the total"); sort = sort.Currency (bounds_of 2 no_limits) })

abbrev number_item : Item
number_item = item.Attribute (record { of_global = true; phrase = name_at 3 (codes "the number above"); sort = sort.Number (bounds_of 4 no_limits) })

abbrev person_item : Item
person_item = item.Entity (record { phrase = name_at 4 (codes "the person"); parent = None; inside = name_at 5 (codes "the people") })

abbrev income_item : Item
income_item = item.Attribute (record { of_global = false; phrase = name_at 6 (codes "the person's income"); sort = sort.Currency (bounds_of 2 no_limits) })

abbrev total_asked : Item
total_asked = item.Goal (name_at 7 (codes "the total"))

abbrev number_asked : Item
number_asked = item.Goal (name_at 8 (codes "the number above"))

abbrev pub items : List Item
items = total_item ∷ number_item ∷ person_item ∷ income_item ∷ total_asked ∷ number_asked ∷ []

-- what lines spell, where their first word says this
abbrev spelled_by : List CutLine → Option Head → Option (List Item)
spelled_by [] o = None
spelled_by (first ∷ deeper) o = o >>= λ h. block_by 0 h first deeper

global_spells : spelled (cut_block global_block) ≡ Some (total_item ∷ number_item ∷ [])
unfolding spelled block_by member_in member spelled_number split_at phrase
global_spells = ap (spelled_by (cut_block global_block).lines) is_global

person_spells : spelled (cut_block person_block) ≡ Some (person_item ∷ income_item ∷ [])
unfolding spelled block_by member_in inside_in inside_line headed_phrase member spelled_number split_at phrase
person_spells = ap (spelled_by (cut_block person_block).lines) is_person

total_spells : spelled (cut_block total_goal) ≡ Some (total_asked ∷ [])
unfolding spelled block_by headed_phrase phrase
total_spells = ap (spelled_by (cut_block total_goal).lines) is_total

number_spells : spelled (cut_block number_goal) ≡ Some (number_asked ∷ [])
unfolding spelled block_by headed_phrase phrase
number_spells = ap (spelled_by (cut_block number_goal).lines) is_number

-- ---- the model

abbrev four : {A : Type 0} → (Option (List Item) → Option (List Item) → Option (List Item) → Option (List Item) → A) → A
four f = f (spelled (cut_block global_block)) (spelled (cut_block person_block)) (spelled (cut_block total_goal)) (spelled (cut_block number_goal))

join_four : {A : Type 0} (f : Option (List Item) → Option (List Item) → Option (List Item) → Option (List Item) → A)
    → four f ≡ f (Some (total_item ∷ number_item ∷ [])) (Some (person_item ∷ income_item ∷ [])) (Some (total_asked ∷ [])) (Some (number_asked ∷ []))
join_four f =
    ap (λ o. f o (spelled (cut_block person_block)) (spelled (cut_block total_goal)) (spelled (cut_block number_goal))) global_spells
    ∙ ap (λ o. f (Some (total_item ∷ number_item ∷ [])) o (spelled (cut_block total_goal)) (spelled (cut_block number_goal))) person_spells
    ∙ ap (λ o. f (Some (total_item ∷ number_item ∷ [])) (Some (person_item ∷ income_item ∷ [])) o (spelled (cut_block number_goal))) total_spells
    ∙ ap (f (Some (total_item ∷ number_item ∷ [])) (Some (person_item ∷ income_item ∷ [])) (Some (total_asked ∷ []))) number_spells

items_are : items_of cut_blocks ≡ items
items_are = join_four (λ a b c d. items_or_none a ++ (items_or_none b ++ (items_or_none c ++ (items_or_none d ++ []))))

all_spelled : flat_map syntax_faults cut_blocks ≡ []
all_spelled = join_four (λ a b c d. unspelled (record { file = 0; line = 1 }) a ++ (unspelled (record { file = 0; line = 4 }) b ++ (unspelled (record { file = 0; line = 7 }) c ++ (unspelled (record { file = 0; line = 8 }) d ++ []))))

no_faults : item_faults items ≡ []
unfolding item_faults faults_by twice_faults tables_of place lists_of
no_faults = refl

abbrev pub model : Lists
model = record {
  entities = global_entity ∷ record { phrase = codes "the person"; parent = record { 0 = 0 }; contained = record { 0 = 0 } } ∷ [];
  attributes =
      record { entity = record { 0 = 0 }; kind = kind.Currency; phrase = codes "the total"; sentence = None; least = (bounds_of 2 no_limits).least; most = (bounds_of 2 no_limits).most; decimals = 2 }
      ∷ record { entity = record { 0 = 0 }; kind = kind.Number; phrase = codes "the number above"; sentence = None; least = (bounds_of 4 no_limits).least; most = (bounds_of 4 no_limits).most; decimals = 4 }
      ∷ record { entity = record { 0 = 1 }; kind = kind.Currency; phrase = codes "the person's income"; sentence = None; least = (bounds_of 2 no_limits).least; most = (bounds_of 2 no_limits).most; decimals = 2 }
      ∷ [];
  relations = record { phrase = codes "the people"; source = record { 0 = 0 }; target = record { 0 = 1 }; contains = true; one = false; every = false } ∷ [];
  verbs = [];
  screens = [];
  goals = record { 0 = 0 } ∷ record { 0 = 1 } ∷ [];
}

model_is : model ≡ model_of items
unfolding model_of tables_of place lists_of
model_is = refl

pub declares : Declares blocks model
declares = record {
  read = cut_blocks;
  cut = are_cut;
  faultless = ap₂ (λ a b. a ++ b) all_spelled (ap item_faults items_are ∙ no_faults);
  model_is = model_is ∙ sym (ap model_of items_are);
}
