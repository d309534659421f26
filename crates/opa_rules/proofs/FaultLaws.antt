-- What is found of blocks, phase by phase and one after another.
use Rattle.std.proofs.lemmas.List.Elements.{All-nil, All-append, All-head, All-tail, All-filter}
use Rattle.std.proofs.Common.{◌≡◌, ℕ, ◌+◌, ◌-◌, ◌++◌, append-nil, append_assoc, arith, Bool, true, false, if◌then◌else◌, Option, Some, find, IfSome, List, [], ◌∷◌, All, not, filter, Result, Ok, Err, IfErr, refl, sym, ap, ◌∙◌, subst}
use Rattle.opa_model.specs.declared.lists.Lists.{Lists as Model}
use Rattle.opa_words.specs.declared.layout.block.Block.{Block}
use Rattle.opa_words.specs.Layout.Blocks.{lines_of}
use Rattle.opa_tree.specs.declared.faults.RbError.{RbError}
use Rattle.opa_tree.specs.declared.faults.RbError.TheVariants as errors
use Rattle.opa_tree.specs.declared.faults.RbFault.{RbFault}
use Rattle.opa_tree.specs.declared.rules.Inferred.{Inferred}
use Rattle.opa_tree.specs.declared.rules.Rule.{Rule}
use Rattle.opa_decl.specs.Declarations.{Declares}
use Rattle.opa_parse.specs.Fronts.{AreShort}
use Rattle.opa_parse.specs.Memberships.{AreInferences}
use Rattle.opa_parse.specs.declared.tables.whole.TableFile.{TableFile}
use Rattle.opa_parse.specs.Tables.Whole.{AreAllRules}
use Rattle.opa_rulebase.specs.Files.Layouts.{IsShort}
use Rattle.opa_rulebase.specs.declared.fault.Refusal.{Refusal}
use Rattle.opa_rulebase.specs.declared.fault.Unaccepted.{Unaccepted}
use Rattle.opa_rulebase.specs.declared.fault.Unaccepted.TheVariants as unaccepted
use Rattle.opa_rulebase.specs.declared.files.source.SourceFile.{SourceFile}
use Rattle.opa_rulebase.specs.Loading.{IsPlain, IsCircleRefusal, table_files}
use Rattle.opa_rules.specs.Faults.Blocks.{has_line, declares, without}
use Rattle.opa_rules.specs.Faults.Listing.{IsFirst, HasFirst, AreFree, goes_on, most_text, AreListed}
use Rattle.opa_rules.specs.declared.faults.marks.Told.{Told}
use Rattle.opa_rules.specs.Faults.Printed.{error_in}
use Rattle.opa_rules.specs.Faults.Told.{IsToldIn}

-- the lines of blocks of short lines are short
pub short_lines : (blocks : List Block) → All (λ (b : Block). AreShort b.lines) blocks → All IsShort (lines_of blocks)
short_lines [] h = All-nil IsShort
short_lines (b ∷ bs) h = All-append IsShort b.lines (lines_of bs) (All-head (λ (b : Block). AreShort b.lines) b bs h) (short_lines bs (All-tail (λ (b : Block). AreShort b.lines) b bs h))

pub short_without : (file line : ℕ) (blocks : List Block) → All (λ (b : Block). AreShort b.lines) blocks → All (λ (b : Block). AreShort b.lines) (without file line blocks)
short_without file line blocks h = All-filter (λ b. not (has_line file line b)) (λ (b : Block). AreShort b.lines) blocks h

module _ (tables : List TableFile) (blocks : List Block) where
  pub plain_first : (e : RbError) (u : Unaccepted) → IsPlain e u → ((f : RbFault) → e ≡ errors.Refused f → IsFirst tables blocks (record { fault = f; circle = [] })) → HasFirst tables blocks u
  plain_first (errors.Refused f) u p h = subst (HasFirst tables blocks) (sym p) (h f refl)
  plain_first errors.NoMemory u p h = subst (HasFirst tables blocks) (sym p) tt

  module _ (m : Model) (inferences : List Inferred) (rules : List Rule) (d : Declares blocks m) (i : AreInferences m blocks inferences) (r : AreAllRules m inferences blocks tables rules) where
    pub circle_first : (u : Unaccepted) → IsCircleRefusal m rules u → HasFirst tables blocks u
    circle_first (unaccepted.Refused w) h = IsFirst.at_check m inferences rules d i r h.0 h.1
    circle_first unaccepted.NoMemory h = tt

    pub checked_first : {X : Type 0} (r : Result X Unaccepted) → IfErr r (IsCircleRefusal m rules) → IfErr r (HasFirst tables blocks)
    checked_first (Ok x) h = tt
    checked_first (Err u) h = circle_first u h

pub short_declaring : (blocks : List Block) → All (λ (b : Block). AreShort b.lines) blocks → All (λ (b : Block). AreShort b.lines) (filter declares blocks)
short_declaring blocks h = All-filter declares (λ (b : Block). AreShort b.lines) blocks h

pick : {X : Type 0} (P : X → Type 0) (x : X) (b : Bool) (o : Option X) → P x → IfSome o P → IfSome (if b then Some x else o) P
pick P x true o p q = p
pick P x false o p q = q

-- what holds of each holds of the one that is found
pub found_has : {X : Type 0} (P : X → Type 0) (f : X → Bool) (xs : List X) → All P xs → IfSome (find f xs) P
found_has P f [] h = tt
found_has P f (x ∷ xs) h = pick P x (f x) (find f xs) (All-head P x xs h) (found_has P f xs (All-tail P x xs h))

-- some text is put behind another one, and it lists errors
abbrev pub Puts : List SourceFile → List (List ℕ) → ℕ → List Block → List ℕ → List ℕ → Type 0
Puts files phrases most blocks before after = (more : List ℕ) × (after ≡ before ++ more) × AreListed files phrases most blocks more

-- an error is put behind a text
abbrev pub PutsOne : List SourceFile → List (List ℕ) → List Block → Refusal → List ℕ → List ℕ → Type 0
PutsOne files phrases blocks w before after = (told : Told) × IsToldIn phrases blocks w.fault told × (after ≡ before ++ error_in files blocks w told)

pub most_reached : (files : List SourceFile) (phrases : List (List ℕ)) (most : ℕ) (blocks : List Block) (before after : List ℕ) → most ≡ 0 → after ≡ before ++ most_text files → Puts files phrases most blocks before after
most_reached files phrases most blocks before after e t = (most_text files, t, subst (λ n. AreListed files phrases n blocks (most_text files)) (sym e) (AreListed.enough blocks))

-- one less, and one more
pub less_one : (most : ℕ) → (most ≡ 0 → ⊥) → most - 1 + 1 ≡ most
less_one most n = omega (arith, n)

module _ (files : List SourceFile) (phrases : List (List ℕ)) (most : ℕ) (some : most ≡ 0 → ⊥) (tables : List TableFile) (taken blocks : List Block) (t : tables ≡ table_files 0 files) (e : taken ≡ blocks) where
  pub free_listed : (text : List ℕ) → AreFree tables taken → Puts files phrases most blocks text text
  free_listed text f =
      ([], sym (append-nil text), subst (λ n. AreListed files phrases n blocks []) (less_one most some) (AreListed.free (most - 1) blocks (subst (AreFree (table_files 0 files)) e (subst (λ x. AreFree x taken) t f))))

  module _ (u : Unaccepted) (w : Refusal) (is : u ≡ unaccepted.Refused w) (has : HasFirst tables taken u) where
    found : IsFirst (table_files 0 files) blocks w
    found = subst (λ b. IsFirst (table_files 0 files) b w) e (subst (λ x. IsFirst x taken w) t (subst (HasFirst tables taken) is has))

    pub last_listed : (before after : List ℕ) → PutsOne files phrases blocks w before after → goes_on blocks w ≡ false → Puts files phrases most blocks before after
    last_listed before after p g =
        (error_in files blocks w p.0, p.2, subst (λ n. AreListed files phrases n blocks (error_in files blocks w p.0)) (less_one most some) (AreListed.last (most - 1) blocks w p.0 found p.1 g))

    pub left_listed : (before between after : List ℕ) (left : List Block) → PutsOne files phrases blocks w before between → goes_on blocks w ≡ true → left ≡ without w.fault.file w.fault.line blocks
        → Puts files phrases (most - 1) left between after → Puts files phrases most blocks before after
    left_listed before between after left p g l k =
        let one = error_in files blocks w p.0 in (
          one ++ k.0,
          k.1 ∙ ap (λ x. x ++ k.0) p.2 ∙ append_assoc before one k.0,
          subst (λ n. AreListed files phrases n blocks (one ++ k.0)) (less_one most some)
              (AreListed.left (most - 1) blocks w p.0 k.0 found p.1 g (subst (λ b. AreListed files phrases (most - 1) b k.0) l k.2)),
        )
