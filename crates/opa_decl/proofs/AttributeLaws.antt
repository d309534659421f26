-- What attributes say, and how many decimals their answers have.
use Rattle.std.proofs.Common.{◌≡◌, ◌↔◌, ◌≤◌, ℕ, List, [], All, IsSome, refl, arith}
use Rattle.std.proofs.lemmas.List.Elements.{All-nil, All-cons, All-weaker}
use Rattle.opa_model.specs.declared.things.Attribute.{Attribute}
use Rattle.opa_model.specs.declared.things.Kind.TheVariants as kind
use Rattle.opa_model.specs.Models.{HasDecimals}
use Rattle.opa_decl.specs.declared.items.Item.{Item}
use Rattle.opa_decl.specs.declared.items.Item.TheVariants as item
use Rattle.opa_decl.specs.declared.items.Sort.{Sort}
use Rattle.opa_decl.specs.declared.items.Sort.TheVariants as sort
use Rattle.opa_decl.specs.declared.numbered.Numbered.{Numbered}
use Rattle.opa_decl.specs.Lists.{kind_of, bounds_in, sentence_in, attribute_by, attribute_in}
use Rattle.opa_decl.specs.Names.{Tables}
use Rattle.opa_decl.specs.Numbering.{numbered, no_counts}
use Rattle.opa_decl.proofs.MadeLists.{attributes, all_numbered}
use Rattle.opa_decl.proofs.NumberedLaws.{each_of, all_flat}

-- at most four decimals, or two of a currency
abbrev pub HasFew : Sort → Type 0
HasFew (sort.Bool said) = Unit {0}
HasFew (sort.Number b) = b.decimals ≤ 4
HasFew (sort.Currency b) = b.decimals ≤ 2
HasFew sort.Words = Unit {0}
HasFew sort.Date = Unit {0}

abbrev pub DeclaresFew : Item → Type 0
DeclaresFew (item.Verb v) = Unit {0}
DeclaresFew (item.Entity e) = Unit {0}
DeclaresFew (item.Attribute a) = HasFew a.sort
DeclaresFew (item.Relation r) = Unit {0}
DeclaresFew (item.Goal g) = Unit {0}
DeclaresFew (item.Screen s) = Unit {0}
DeclaresFew (item.File f) = Unit {0}

at_most_four : (s : Sort) → HasFew s → (bounds_in s).decimals ≤ 4
at_most_four (sort.Bool said) h = omega arith
at_most_four (sort.Number b) h = h
at_most_four (sort.Currency b) h = omega (arith, h)
at_most_four sort.Words h = omega arith
at_most_four sort.Date h = omega arith

at_most_two : (s : Sort) → HasFew s → kind_of s ≡ kind.Currency → (bounds_in s).decimals ≤ 2
at_most_two (sort.Bool said) h is = omega arith
at_most_two (sort.Number b) h is = absurd (cc is)
at_most_two (sort.Currency b) h is = h
at_most_two sort.Words h is = omega arith
at_most_two sort.Date h is = omega arith

says_bool : (names : List (List ℕ)) (s : Sort) → IsSome (sentence_in names s) ↔ (kind_of s ≡ kind.Bool)
says_bool names (sort.Bool said) = (λ h. refl, λ h. refl)
says_bool names (sort.Number b) = (λ h. absurd (cc h), λ h. absurd (cc h))
says_bool names (sort.Currency b) = (λ h. absurd (cc h), λ h. absurd (cc h))
says_bool names sort.Words = (λ h. absurd (cc h), λ h. absurd (cc h))
says_bool names sort.Date = (λ h. absurd (cc h), λ h. absurd (cc h))

module _ (t : Tables) where
  decimals_here : (n : Numbered) (i : Item) → DeclaresFew i → All HasDecimals (attribute_by t n i)
  decimals_here n (item.Verb v) h = All-nil HasDecimals
  decimals_here n (item.Entity e) h = All-nil HasDecimals
  decimals_here n (item.Attribute a) h = All-cons HasDecimals _ [] (record { few = at_most_four a.sort h; of_currency = at_most_two a.sort h }) (All-nil HasDecimals)
  decimals_here n (item.Relation r) h = All-nil HasDecimals
  decimals_here n (item.Goal g) h = All-nil HasDecimals
  decimals_here n (item.Screen s) h = All-nil HasDecimals
  decimals_here n (item.File f) h = All-nil HasDecimals

  abbrev SaysBool : Attribute → Type 0
  SaysBool a = IsSome a.sentence ↔ (a.kind ≡ kind.Bool)

  says_here : (n : Numbered) (i : Item) → All SaysBool (attribute_by t n i)
  says_here n (item.Verb v) = All-nil SaysBool
  says_here n (item.Entity e) = All-nil SaysBool
  says_here n (item.Attribute a) = All-cons SaysBool _ [] (says_bool t.verbs a.sort) (All-nil SaysBool)
  says_here n (item.Relation r) = All-nil SaysBool
  says_here n (item.Goal g) = All-nil SaysBool
  says_here n (item.Screen s) = All-nil SaysBool
  says_here n (item.File f) = All-nil SaysBool

  pub decimals_few : (items : List Item) → All DeclaresFew items → All HasDecimals (attributes t items)
  decimals_few items h =
      let ns : List Numbered = numbered no_counts items in
      all_flat HasDecimals (attribute_in t) ns (All-weaker (λ (n : Numbered). DeclaresFew n.item) (λ (n : Numbered). All HasDecimals (attribute_in t n)) (λ n few. decimals_here n n.item few) ns (all_numbered DeclaresFew no_counts items h))

  pub bools_said : (items : List Item) → All (λ a. IsSome a.sentence ↔ (a.kind ≡ kind.Bool)) (attributes t items)
  bools_said items = let ns : List Numbered = numbered no_counts items in all_flat SaysBool (attribute_in t) ns (each_of (λ (n : Numbered). All SaysBool (attribute_in t n)) ns (λ n at. says_here n n.item))
