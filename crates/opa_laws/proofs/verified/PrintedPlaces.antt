-- The places of rules can be printed.
use Rattle.std.proofs.Common.{◌≡◌, ◌∙◌, ℕ, zero, suc, ◌+◌, ◌<◌, ◌^◌, Bool, true, false, cond, List, [], ◌∷◌, ◌++◌, Option, refl, sym, ap, subst, arith}
use Rattle.std.specs.Prelude.{◌||◌, slice_index_or}
use Rattle.std.specs.List.{list_any}
use Rattle.std.specs.Str.{IsUtf8, chars}
use lib.Utf8.{scalar, scalars, encode}
use Rattle.std.proofs.lemmas.Str.{IsUtf8-nil, IsUtf8-append, IsUtf8-encode, chars_past_char, chars-nil, scalars-chars}
use Rattle.opa_io.proofs.Bools.{and_first, and_second}
use Rattle.opa_model.specs.declared.ids.AttrId.{AttrId}
use Rattle.opa_model.specs.declared.lists.Lists.{Lists}
use Rattle.opa_words.specs.Characters.{is_control}
use Rattle.opa_words.specs.Names.{printed_character, printed_characters, printed_name}
use Rattle.opa_words.specs.declared.layout.block.Block.{Block}
use Rattle.opa_words.specs.declared.layout.block.BlockLine.{BlockLine}
use Rattle.opa_tree.specs.declared.rules.Rule.{Rule}
use Rattle.opa_sentence.specs.declared.names.Names.{Names}
use Rattle.opa_parse.specs.declared.block.RuleBlock.{RuleBlock}
use Rattle.opa_parse.specs.Rules as rules
use Rattle.opa_parse.specs.Rules.{AreRuleBlocks, IsRuleBlock, first_number, rules_in}
use Rattle.opa_parse.proofs.Handing as hand
use Rattle.opa_parse.proofs.Handing.{Of, each_append, rules_each}
use Rattle.opa_parse.specs.declared.tables.cells.Found.{Found}
use Rattle.opa_parse.specs.declared.tables.cells.Found.TheVariants as found
use Rattle.opa_parse.specs.declared.tables.cells.Table.{Table}
use Rattle.opa_parse.specs.declared.tables.whole.TableFile.{TableFile}
use Rattle.opa_parse.specs.Tables.Columns.{blocks_from, blocks_of}
use Rattle.opa_parse.specs.Tables.Reading.{AreTableBlocks}
use Rattle.opa_parse.specs.Tables.Whole.{AreTabled}
use Rattle.opa_text.specs.Laws.{CanBeQuoted}
use Rattle.opa_laws.proofs.verified.TextRows.{LineIsText}
use Rattle.opa_laws.proofs.verified.TextFiles.{Each, BlockIsText}

-- ---- names of files

printed_plain : (c : ℕ) → is_control (printed_character c) ≡ false
printed_plain c = go (is_control c) refl
  where
    go : (t : Bool) → is_control c ≡ t → is_control (cond t 63 c) ≡ false
    go true e = refl
    go false e = e

printed_scalar : (c : ℕ) → scalar c ≡ true → scalar (printed_character c) ≡ true
printed_scalar c h = go (is_control c)
  where
    go : (t : Bool) → scalar (cond t 63 c) ≡ true
    go true = refl
    go false = h

printed_quoted : (cs : List ℕ) → scalars cs ≡ true → CanBeQuoted (printed_characters cs)
printed_quoted [] h = record { utf8 = IsUtf8-nil; plain = ap (list_any is_control) chars-nil }
printed_quoted (c ∷ cs) h =
    let more = printed_quoted cs (and_second (scalar c) (scalars cs) h) in
    let one = printed_character c in
    let utf8 = IsUtf8-append (encode one) (printed_characters cs) (IsUtf8-encode one (printed_scalar c (and_first (scalar c) (scalars cs) h))) more.utf8 in
    record {
      utf8 = utf8;
      plain = ap (list_any is_control) (chars_past_char (encode one ++ printed_characters cs) (printed_characters cs) one utf8 refl) ∙ ap (λ t. t || list_any is_control (chars (printed_characters cs))) (printed_plain c) ∙ more.plain;
    }

name_quoted : (name : List ℕ) → IsUtf8 name → CanBeQuoted (printed_name name)
name_quoted name u = printed_quoted (chars name) (scalars-chars name u)

name_text : (names : List (List ℕ)) (n : ℕ) → Each IsUtf8 names → IsUtf8 (slice_index_or names n [])
name_text [] n h = IsUtf8-nil
name_text (x ∷ xs) zero h = h.0
name_text (x ∷ xs) (suc n) h = name_text xs n h.1

pub file_quoted : (names : List (List ℕ)) (n : ℕ) → Each IsUtf8 names → CanBeQuoted (printed_name (slice_index_or names n []))
file_quoted names n h = name_quoted (slice_index_or names n []) (name_text names n h)

-- ---- lines of rules

abbrev pub HasLine : Rule → Type 0
HasLine r = r.line < 2 ^ 32

first_small : (ls : List BlockLine) → Each LineIsText ls → first_number ls < 2 ^ 32
first_small [] h = omega arith
first_small (l ∷ ls) h = h.0.1

module _ (m : Lists) (ns : Names) where
  block_lined : (b : Block) (x : RuleBlock) → BlockIsText b → IsRuleBlock m ns b x → Of HasLine x
  block_lined b x h is a e s p q r = subst (λ n. n < 2 ^ 32) (sym is.line_is) (first_small b.lines h)

  blocks_lined : {bs : List Block} {xs : List RuleBlock} → AreRuleBlocks m ns bs xs → Each BlockIsText bs → hand.Each (Of HasLine) xs
  blocks_lined rules.AreRuleBlocks.none = λ h. tt
  blocks_lined (rules.AreRuleBlocks.passed p d) = λ h. blocks_lined d h.1
  blocks_lined (rules.AreRuleBlocks.rule {b = b} {r = x} is d) = λ h. (block_lined b x h.0 is, blocks_lined d h.1)

  columns_lined : (file : ℕ) (d : Table) (place : ℕ) (attrs : List (Option AttrId)) → hand.Each (Of HasLine) (blocks_from file d place attrs)
  columns_lined file d place [] = tt
  columns_lined file d place (a ∷ attrs) = (λ b e s p q r. omega arith, columns_lined file d (place + 1) attrs)

  found_lined : (file : ℕ) (f : Found) → hand.Each (Of HasLine) (blocks_of file f)
  found_lined file (found.Table d) = columns_lined file d 0 d.heads.conclusions
  found_lined file (found.Unspelled n) = (λ a e s p q r. absurd (cc p), tt)

  table_lined : (file : ℕ) (bytes : List ℕ) (blocks : List RuleBlock) → AreTableBlocks m ns file bytes blocks → hand.Each (Of HasLine) blocks
  table_lined file bytes blocks a = subst (hand.Each (Of HasLine)) (sym a.blocks_are) (found_lined file a.found)

  tables_lined : (tables : List TableFile) (tabled : List RuleBlock) → AreTabled m ns tables tabled → hand.Each (Of HasLine) tabled
  tables_lined [] tabled h = let none : hand.Each (Of HasLine) [] = tt in subst (hand.Each (Of HasLine)) (sym h) none
  tables_lined (t ∷ tables) tabled h =
      subst (hand.Each (Of HasLine)) (sym h.4) (each_append (Of HasLine) h.0 h.1 (table_lined t.file t.bytes h.0 h.2) (tables_lined tables h.1 h.3))

  pub rules_lined : (bs : List Block) (xs : List RuleBlock) (tables : List TableFile) (tabled : List RuleBlock) → AreRuleBlocks m ns bs xs → Each BlockIsText bs → AreTabled m ns tables tabled → hand.Each HasLine (rules_in (xs ++ tabled))
  rules_lined bs xs tables tabled d h k = rules_each HasLine (xs ++ tabled) (each_append (Of HasLine) xs tabled (blocks_lined d h) (tables_lined tables tabled k))
