-- What files open can be printed.
use Rattle.std.proofs.Common.{◌≡◌, Bool, true, false, cond, List, [], ◌∷◌, ◌++◌, map, All, Contains, Some, Result, Ok, Err, refl, sym, subst, ℕ}
use Rattle.std.specs.Prelude.{find}
use Rattle.std.specs.Str.{IsUtf8}
use Rattle.std.proofs.lemmas.List.Elements.{All-append, All-contains, All-head, All-tail, All-nil, All-cons}
use Rattle.opa_io.specs.Outside.{Files}
use Rattle.opa_io.proofs.Lists.{All_weaker}
use Rattle.opa_model.specs.Lookups.{attribute_phrases, relation_phrases}
use Rattle.opa_model.specs.Models.{IsModel}
use Rattle.opa_verbs.specs.Phrasing.{IsReadable}
use Rattle.opa_words.specs.declared.layout.block.Block.{Block}
use Rattle.opa_words.specs.declared.layout.block.BlockLine.{BlockLine}
use Rattle.opa_tree.specs.declared.rulebase.Rulebase.{Rulebase}
use Rattle.opa_tree.specs.declared.rules.Rule.{Rule}
use Rattle.opa_tree.specs.Rules.{concludes}
use Rattle.opa_rulebase.specs.declared.files.source.SourceFile.{SourceFile}
use Rattle.opa_rulebase.specs.Files.Files.{AreFiles}
use Rattle.opa_decl.specs.Declarations.{Declares, items_of}
use Rattle.opa_decl.proofs.ReadableModels.{readable_by}
use Rattle.opa_parse.specs.Naming.{names_in}
use Rattle.opa_parse.proofs.Handing as hand
use Rattle.opa_wording.specs.ReadBack.{AreTextual}
use Rattle.opa_wording.proofs.RulesGiven.{inferences_are_given_hold}
use Rattle.opa_wording.proofs.TablesGiven.{all_rules_are_given_hold}
use Rattle.opa_rulebase.specs.Loading as loading
use Rattle.opa_rulebase.specs.Loading.{IsAccepted, Opens, table_files}
use Rattle.opa_verify.specs.Verdict.Fine.{AreFine, constants, IsPrintableBase}
use Rattle.opa_laws.specs.Verified.Laws.{OpenedIsModel, OpenedIsPrintable}
use Rattle.opa_decl.proofs.ReadableModels.{declared_texts}
use Rattle.opa_laws.proofs.verified.FewItems.{declared_model}
use Rattle.opa_laws.proofs.verified.FineRules.{rule_fine}
use Rattle.opa_laws.proofs.verified.PrintedPlaces.{HasLine, file_quoted, rules_lined}
use Rattle.opa_laws.proofs.verified.TextRows.{LineIsText}
use Rattle.opa_laws.proofs.verified.TextFiles.{Each, SourceIsText, BlockIsText, sources_are_texts, blocks_are_texts}

-- ---- what is found has what all have

found_has : {X : Type 0} (P : X → Type 0) (p : X → Bool) (xs : List X) → All P xs → (x : X) → find p xs ≡ Some x → P x
found_has P p [] h x e = absurd (cc e)
found_has {X} P p (y ∷ ys) h x e = go (p y) e (found_has P p ys (All-tail P y ys h) x)
  where
    go : (t : Bool) → cond t (Some y) (find p ys) ≡ Some x → (find p ys ≡ Some x → P x) → P x
    go true e rec = subst P (let same : y ≡ x = cc e in same) (All-head P y ys h)
    go false e rec = rec e

-- ---- blocks and files

abbrev LineIsUtf8 : BlockLine → Type 0
LineIsUtf8 l = IsUtf8 l.text

lines_textual : (ls : List BlockLine) → Each LineIsText ls → All LineIsUtf8 ls
lines_textual [] h = All-nil LineIsUtf8
lines_textual (l ∷ ls) h = All-cons LineIsUtf8 l ls h.0.0 (lines_textual ls h.1)

blocks_textual : (bs : List Block) → Each BlockIsText bs → AreTextual bs
blocks_textual [] h = All-nil (λ (b : Block). All LineIsUtf8 b.lines)
blocks_textual (b ∷ bs) h = All-cons (λ (b : Block). All LineIsUtf8 b.lines) b bs (lines_textual b.lines h.0) (blocks_textual bs h.1)

names_are_texts : (fs : List SourceFile) → Each SourceIsText fs → Each IsUtf8 (map (λ (f : SourceFile). f.name) fs)
names_are_texts [] h = tt
names_are_texts (f ∷ fs) h = (h.0.0, names_are_texts fs h.1)

-- ---- a rulebase that files spell

module _ (sources : List SourceFile) (base : Rulebase) (texts : Each SourceIsText sources) (is : IsAccepted sources base) where
  lines : Each BlockIsText is.blocks
  lines = blocks_are_texts is.are_inferred.declared.blocks_are.laid texts

  readable : IsReadable base.model
  readable = let h : Declares is.blocks base.model = is.are_inferred.declared.declares in readable_by h.read (items_of h.read) base.model h.cut.tokens h.faultless refl h.model_is

  phrases : (t : List ℕ) → Contains (attribute_phrases base.model ++ relation_phrases base.model) t → IsUtf8 t
  phrases t there =
      let h = declared_texts is.blocks base.model is.are_inferred.declared.declares in
      All-contains IsUtf8 (attribute_phrases base.model ++ relation_phrases base.model) t (All-append IsUtf8 (attribute_phrases base.model) (relation_phrases base.model) h.0 h.1) there

  rules_fine : All (λ (r : Rule). AreFine (constants r.expr)) base.rules
  rules_fine =
      let textual = blocks_textual is.blocks lines in
      let members = inferences_are_given_hold base.model is.blocks textual is.inferences is.are_inferred.inferences_are in
      let given = all_rules_are_given_hold base.model is.inferences members is.blocks textual (table_files 0 sources) base.rules is.are_rules in
      All_weaker _ (λ (r : Rule). AreFine (constants r.expr)) (λ r h. rule_fine base.model r h) base.rules given

  rules_stand : All HasLine base.rules
  rules_stand =
      let rules = is.are_rules in
      subst (All HasLine) (sym rules.rules_are)
      (hand.all_of HasLine _ (rules_lined base.model (names_in base.model is.inferences) is.blocks rules.found (table_files 0 sources) rules.tabled rules.are_found lines rules.are_tabled))

  names : Each IsUtf8 base.files
  names = subst (Each IsUtf8) (sym is.files_are) (names_are_texts sources texts)

  pub accepted_printable : IsPrintableBase base
  accepted_printable = record {
    readable = readable;
    texts = phrases;
    places = λ a rule e. (file_quoted base.files rule.file names, found_has HasLine (concludes a) base.rules rules_stand rule e);
    constants_are = λ a rule e. found_has (λ (r : Rule). AreFine (constants r.expr)) (concludes a) base.rules rules_fine rule e;
  }

abbrev OfOk : {E : Type 0} → (Rulebase → Type 0) → Result Rulebase E → Type 0
OfOk P (Ok base) = P base
OfOk P (Err e) = Unit {0}

-- what holds of what files spell holds of what they open
opened : (P : Rulebase → Type 0) {files : Files} {name : List ℕ} {r : Result Rulebase (List ℕ)} → IsUtf8 name
    → ((sources : List SourceFile) (base : Rulebase) → AreFiles files name (Ok sources) → Each SourceIsText sources → IsAccepted sources base → P base) → Opens files name r → OfOk P r
opened P {files} {name} u holds (loading.Opens.accepts sources base taken is) = holds sources base taken (sources_are_texts files name sources u taken) is
opened P u holds (loading.Opens.cannot_take x taken) = tt
opened P u holds (loading.Opens.refuses sources fault circle taken why) = tt

pub opened_is_printable_holds : OpenedIsPrintable
opened_is_printable_holds files name base u h = opened IsPrintableBase u (λ sources b taken texts is. accepted_printable sources b texts is) h

pub opened_is_model_holds : OpenedIsModel
opened_is_model_holds files name base u h =
    opened (λ (b : Rulebase). IsModel b.model) u
    (λ sources b taken texts is. declared_model files name sources is.blocks b.model taken texts is.are_inferred.declared.blocks_are.laid is.are_inferred.declared.declares) h
