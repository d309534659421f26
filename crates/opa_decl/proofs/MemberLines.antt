-- What holds of each item that a line of a block spells.
use Rattle.std.proofs.Common.{◌≡◌, ℕ, Bool, true, false, cond, List, [], ◌∷◌, Option, Some, None, refl, subst}
use Rattle.std.specs.Prelude.{codes}
use Rattle.std.specs.Option.{option_map}
use Rattle.opa_io.proofs.Options.{bound_parts, mapped_parts}
use Rattle.opa_words.specs.declared.kinds.Token.{Token}
use Rattle.opa_decl.specs.declared.cut.CutLine.{CutLine}
use Rattle.opa_decl.specs.declared.items.Bounds.{Bounds}
use Rattle.opa_decl.specs.declared.items.Item.{Item}
use Rattle.opa_decl.specs.declared.items.Item.TheVariants.{Relation}
use Rattle.opa_decl.specs.declared.items.Place.{Place}
use Rattle.opa_decl.specs.declared.items.RelationLine.{RelationLine}
use Rattle.opa_decl.specs.declared.items.Said.{Said}
use Rattle.opa_decl.specs.declared.items.Sort.TheVariants as sort
use Rattle.opa_decl.specs.Lines.{bool_line, number_line, bool_attribute, number_attribute, attribute, reference_line, every_line, member_of, member}
use Rattle.opa_decl.specs.Pieces.{has_text, phrase}
use Rattle.opa_decl.specs.Spelling.{place_in, inner, member_in}

-- one of two ways
choose : {X : Type 0} (Q : X → Type 0) (b : Bool) (x y : Option X) → ((z : X) → x ≡ Some z → Q z) → ((z : X) → y ≡ Some z → Q z) → (z : X) → cond b x y ≡ Some z → Q z
choose Q true x y f g z h = f z h
choose Q false x y f g z h = g z h

module _ (Q : Item → Type 0) (bytes : List ℕ) (at : Place) (of_global : Bool) (ts : List Token) where
  -- it holds of what each line says behind its first word
  pub record HoldOfLines : Type 0 where
    pub of_bool : (x : List ℕ × Said) → bool_line bytes ts ≡ Some x → Q (bool_attribute at of_global x)
    pub of_number : (x : List ℕ × Bounds) → number_line bytes 4 ts ≡ Some x → Q (number_attribute at of_global sort.Number x)
    pub of_currency : (x : List ℕ × Bounds) → number_line bytes 2 ts ≡ Some x → Q (number_attribute at of_global sort.Currency x)
    pub of_words : (x : List ℕ) → phrase bytes ts ≡ Some x → Q (attribute at of_global sort.Words x)
    pub of_date : (x : List ℕ) → phrase bytes ts ≡ Some x → Q (attribute at of_global sort.Date x)
    pub of_reference : (x : RelationLine) → reference_line bytes at of_global ts ≡ Some x → Q (Relation x)
    pub of_every : (x : RelationLine) → every_line bytes at of_global ts ≡ Some x → Q (Relation x)

  made_by : {A : Type 0} (f : A → Item) (o : Option A) → ((x : A) → o ≡ Some x → Q (f x)) → (i : Item) → option_map f o ≡ Some i → Q i
  made_by f o has i h = let x = mapped_parts f o i h in subst (λ (j : Item). Q j) x.2 (has x.0 x.1)

  module _ (t : Token) (holds : HoldOfLines) where
    abbrev or_every : Option Item
    or_every = cond (has_text bytes (codes "every") t) (option_map Relation (every_line bytes at of_global ts)) None

    abbrev or_reference : Option Item
    or_reference = cond (has_text bytes (codes "reference") t) (option_map Relation (reference_line bytes at of_global ts)) or_every

    abbrev or_date : Option Item
    or_date = cond (has_text bytes (codes "date") t) (option_map (attribute at of_global sort.Date) (phrase bytes ts)) or_reference

    abbrev or_words : Option Item
    or_words = cond (has_text bytes (codes "text") t) (option_map (attribute at of_global sort.Words) (phrase bytes ts)) or_date

    abbrev or_currency : Option Item
    or_currency = cond (has_text bytes (codes "currency") t) (option_map (number_attribute at of_global sort.Currency) (number_line bytes 2 ts)) or_words

    abbrev or_number : Option Item
    or_number = cond (has_text bytes (codes "number") t) (option_map (number_attribute at of_global sort.Number) (number_line bytes 4 ts)) or_currency

    in_line : (i : Item) → member_of bytes at of_global t ts ≡ Some i → Q i
    in_line =
        choose Q (has_text bytes (codes "bool") t) (option_map (bool_attribute at of_global) (bool_line bytes ts)) or_number (made_by (bool_attribute at of_global) (bool_line bytes ts) holds.of_bool)
        (choose Q (has_text bytes (codes "number") t) (option_map (number_attribute at of_global sort.Number) (number_line bytes 4 ts)) or_currency (made_by (number_attribute at of_global sort.Number) (number_line bytes 4 ts) holds.of_number)
        (choose Q (has_text bytes (codes "currency") t) (option_map (number_attribute at of_global sort.Currency) (number_line bytes 2 ts)) or_words (made_by (number_attribute at of_global sort.Currency) (number_line bytes 2 ts) holds.of_currency)
        (choose Q (has_text bytes (codes "text") t) (option_map (attribute at of_global sort.Words) (phrase bytes ts)) or_date (made_by (attribute at of_global sort.Words) (phrase bytes ts) holds.of_words)
        (choose Q (has_text bytes (codes "date") t) (option_map (attribute at of_global sort.Date) (phrase bytes ts)) or_reference (made_by (attribute at of_global sort.Date) (phrase bytes ts) holds.of_date)
        (choose Q (has_text bytes (codes "reference") t) (option_map Relation (reference_line bytes at of_global ts)) or_every (made_by Relation (reference_line bytes at of_global ts) holds.of_reference)
        (choose Q (has_text bytes (codes "every") t) (option_map Relation (every_line bytes at of_global ts)) None (made_by Relation (every_line bytes at of_global ts) holds.of_every) (λ (i : Item) none. absurd (cc none))))))))

pub in_member : (Q : Item → Type 0) (bytes : List ℕ) (at : Place) (of_global : Bool) (ts : List Token) (i : Item)
    → ((t : Token) (more : List Token) → ts ≡ t ∷ more → HoldOfLines Q bytes at of_global more) → member bytes at of_global ts ≡ Some i → Q i
unfolding member
in_member Q bytes at of_global [] i holds h = absurd (cc h)
in_member Q bytes at of_global (t ∷ ts) i holds h = in_line Q bytes at of_global ts t (holds t ts refl) i h

-- the tokens of a line of level 1 spell the item
pub member_tokens : (file : ℕ) (of_global : Bool) (line : CutLine) (i : Item) → member_in file of_global line ≡ Some i → (ts : List Token) × (inner line ≡ Some ts) × (member line.text (place_in file line) of_global ts ≡ Some i)
unfolding member_in
member_tokens file of_global line i h = bound_parts (member line.text (place_in file line) of_global) (inner line) i h
