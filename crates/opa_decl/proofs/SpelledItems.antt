-- What holds of each item that blocks spell.
use Rattle.std.proofs.Common.{◌≡◌, ℕ, Bool, true, false, cond, List, [], ◌∷◌, length, Option, Some, None, All, refl, subst}
use Rattle.std.specs.Prelude.{◌==◌, if◌then◌else◌}
use Rattle.std.specs.Option.{option_map, option_and_then}
use Rattle.std.proofs.lemmas.Option.{cond_some, same_Some}
use Rattle.std.proofs.lemmas.List.Elements.{All-nil, All-cons, All-head, All-tail, All-append}
use Rattle.opa_io.proofs.Options.{bound_parts, mapped_parts}
use Rattle.opa_words.specs.declared.kinds.Token.{Token}
use Rattle.opa_model.specs.declared.things.Verb.{Verb}
use Rattle.opa_decl.specs.declared.cut.CutBlock.{CutBlock}
use Rattle.opa_decl.specs.declared.cut.CutLine.{CutLine}
use Rattle.opa_decl.specs.declared.head.Head.{Head}
use Rattle.opa_decl.specs.declared.head.Head.TheVariants as head
use Rattle.opa_decl.specs.declared.items.Item.{Item}
use Rattle.opa_decl.specs.declared.items.Item.TheVariants as item
use Rattle.opa_decl.specs.declared.items.Name.{Name}
use Rattle.opa_decl.specs.declared.items.ScreenLines.{ScreenLines}
use Rattle.opa_decl.specs.Declarations.{items_in, items_of, items_or_none}
use Rattle.opa_decl.specs.Heads.{head_of}
use Rattle.opa_decl.specs.Spelling.{place_in, behind_head, member_in, headed_verb, headed_phrase, headed_text, inside_in, screen_item, verb_item, verb_block, global_block, entity_block, goal_block, screen_block, file_block, block_by, spelled_in, spelled}
use Rattle.opa_decl.specs.Steps.{each}

-- ---- steps that succeed

-- what holds of whatever comes of the next step holds of the end
pub carried : {A B : Type 0} (P : B → Type 0) (f : A → Option B) (o : Option A) → ((x : A) → o ≡ Some x → (y : B) → f x ≡ Some y → P y) → (y : B) → option_and_then f o ≡ Some y → P y
carried P f None step y h = absurd (cc h)
carried P f (Some x) step y h = step x refl y h

pub given : {A : Type 0} (P : A → Type 0) (x y : A) → P x → Some x ≡ Some y → P y
given P x y has h = subst P (same_Some x y h) has

-- under a test
pub given_if : {A : Type 0} (P : A → Type 0) (b : Bool) (x y : A) → P x → (if b then Some x else None) ≡ Some y → P y
given_if P b x y has h = subst P (cond_some b x y h).1 has

module _ {A B : Type 0} (P : B → Type 0) (L : A → Type 0) (f : A → Option B) (has : (x : A) (y : B) → L x → f x ≡ Some y → P y) where
  pub each_has : (xs : List A) (ys : List B) → each f xs ≡ Some ys → All L xs → All P ys
  each_has [] ys h all = subst (λ (zs : List B). All P zs) (let e : [] ≡ ys = cc h in e) (All-nil P)
  each_has (x ∷ xs) ys h all =
      let here = bound_parts (λ (y : B). option_map (λ (zs : List B). y ∷ zs) (each f xs)) (f x) ys h in
      let rest = mapped_parts (λ (zs : List B). here.0 ∷ zs) (each f xs) ys here.2 in
      subst (λ (zs : List B). All P zs) rest.2 (All-cons P here.0 rest.0 (has x here.0 (All-head L x xs all) here.1) (each_has xs rest.0 rest.1 (All-tail L x xs all)))

pub same_value : {A : Type 0} {x y : A} → Some x ≡ Some y → x ≡ y
same_value {A} {x} {y} h = same_Some x y h

-- ---- blocks

pub record Hold (P : Item → Type 0) (L : CutLine → Type 0) : Type 0 where
  pub of_member : (file : ℕ) (of_global : Bool) (line : CutLine) (i : Item) → L line → member_in file of_global line ≡ Some i → P i
  pub of_verb : (file : ℕ) (line : CutLine) (v : Verb) → L line → headed_verb line ≡ Some v → P (item.Verb (record { place = place_in file line; verb = v }))
  pub of_entity : (file : ℕ) (first second : CutLine) (phrase : Name) (above : Option Name × Name) → L first → L second → headed_phrase file first ≡ Some phrase → inside_in file second ≡ Some above
      → P (item.Entity (record { phrase = phrase; parent = above.0; inside = above.1 }))
  pub of_goal : (goal : Name) → P (item.Goal goal)
  pub of_screen : (screen : ScreenLines) → P (item.Screen screen)
  pub of_file : (named : Name) → P (item.File named)

module _ (P : Item → Type 0) (L : CutLine → Type 0) (holds : Hold P L) where
  one : (i : Item) (is : List Item) → P i → i ∷ [] ≡ is → All P is
  one i is h e = subst (λ (zs : List Item). All P zs) e (All-cons P i [] h (All-nil P))

  in_verb : (file : ℕ) (first : CutLine) (deeper : List CutLine) (is : List Item) → L first → All L deeper → verb_block file first deeper ≡ Some is → All P is
  in_verb file first [] is l ls h = let v = mapped_parts (verb_item file first) (headed_verb first) is h in one _ is (holds.of_verb file first v.0 l v.1) v.2
  in_verb file first (line ∷ lines) is l ls h = absurd (cc h)

  in_global : (file : ℕ) (first : CutLine) (deeper : List CutLine) (is : List Item) → L first → All L deeper → global_block file first deeper ≡ Some is → All P is
  in_global file first [] is l ls h = absurd (cc h)
  in_global file first (line ∷ lines) is l ls h =
      let more = bound_parts (λ (more : List Token). option_and_then (λ (members : List Item). if length more == 0 then Some members else None) (each (member_in file true) (line ∷ lines))) (behind_head first) is h in
      let members = bound_parts (λ (members : List Item). if length more.0 == 0 then Some members else None) (each (member_in file true) (line ∷ lines)) is more.2 in
      subst (λ (zs : List Item). All P zs) (cond_some (length more.0 == 0) members.0 is members.2).1 (each_has P L (member_in file true) (holds.of_member file true) (line ∷ lines) members.0 members.1 ls)

  with_entity : (phrase : Name) (above : Option Name × Name) (members is : List Item) → P (item.Entity (record { phrase = phrase; parent = above.0; inside = above.1 })) → All P members
      → Some (item.Entity (record { phrase = phrase; parent = above.0; inside = above.1 }) ∷ members) ≡ Some is → All P is
  with_entity phrase above members is h all e =
      subst (λ (zs : List Item). All P zs) (same_value e) (All-cons P (item.Entity (record { phrase = phrase; parent = above.0; inside = above.1 })) members h all)

  in_entity : (file : ℕ) (first : CutLine) (deeper : List CutLine) (is : List Item) → L first → All L deeper → entity_block file first deeper ≡ Some is → All P is
  in_entity file first [] is l ls h = absurd (cc h)
  in_entity file first (second ∷ lines) is l ls h =
      let make : Name → Option Name × Name → List Item → List Item = λ phrase above members. item.Entity (record { phrase = phrase; parent = above.0; inside = above.1 }) ∷ members in
      let phrase = bound_parts (λ (phrase : Name). option_and_then (λ (above : Option Name × Name). option_and_then (λ (members : List Item). Some (make phrase above members)) (each (member_in file false) lines)) (inside_in file second)) (headed_phrase file first) is h in
      let above = bound_parts (λ (above : Option Name × Name). option_and_then (λ (members : List Item). Some (make phrase.0 above members)) (each (member_in file false) lines)) (inside_in file second) is phrase.2 in
      let members = bound_parts (λ (members : List Item). Some (make phrase.0 above.0 members)) (each (member_in file false) lines) is above.2 in
      with_entity phrase.0 above.0 members.0 is (holds.of_entity file first second phrase.0 above.0 l (All-head L second lines ls) phrase.1 above.1) (each_has P L (member_in file false) (holds.of_member file false) lines members.0 members.1 (All-tail L second lines ls)) members.2

  in_goal : (file : ℕ) (first : CutLine) (deeper : List CutLine) (is : List Item) → goal_block file first deeper ≡ Some is → All P is
  in_goal file first [] is h = let g = mapped_parts (λ (goal : Name). item.Goal goal ∷ []) (headed_phrase file first) is h in one _ is (holds.of_goal g.0) g.2
  in_goal file first (line ∷ lines) is h = absurd (cc h)

  in_screen : (file : ℕ) (first : CutLine) (deeper : List CutLine) (is : List Item) → screen_block file first deeper ≡ Some is → All P is
  in_screen file first [] is h = absurd (cc h)
  in_screen file first (line ∷ lines) is h =
      let make : Name → List Name → List Item = λ title names. item.Screen (record { title = title; items = names }) ∷ [] in
      let title = bound_parts (λ (title : Name). option_and_then (λ (names : List Name). Some (make title names)) (each (screen_item file) (line ∷ lines))) (headed_text file first) is h in
      let names = bound_parts (λ (names : List Name). Some (make title.0 names)) (each (screen_item file) (line ∷ lines)) is title.2 in
      one _ is (holds.of_screen (record { title = title.0; items = names.0 })) (let same : make title.0 names.0 ≡ is = cc names.2 in same)

  in_file : (file : ℕ) (first : CutLine) (deeper : List CutLine) (is : List Item) → file_block file first deeper ≡ Some is → All P is
  in_file file first [] is h = go (file == 0) h
    where
      go : (b : Bool) → cond b (option_map (λ (named : Name). item.File named ∷ []) (headed_text file first)) None ≡ Some is → All P is
      go true k = let f = mapped_parts (λ (named : Name). item.File named ∷ []) (headed_text file first) is k in one _ is (holds.of_file f.0) f.2
      go false k = absurd (cc k)
  in_file file first (line ∷ lines) is h = absurd (cc h)

  in_block : (file : ℕ) (h : Head) (first : CutLine) (deeper : List CutLine) (is : List Item) → L first → All L deeper → block_by file h first deeper ≡ Some is → All P is
  unfolding block_by
  in_block file head.Verb first deeper is l ls e = in_verb file first deeper is l ls e
  in_block file head.Global first deeper is l ls e = in_global file first deeper is l ls e
  in_block file head.Entity first deeper is l ls e = in_entity file first deeper is l ls e
  in_block file head.Goal first deeper is l ls e = in_goal file first deeper is e
  in_block file head.Screen first deeper is l ls e = in_screen file first deeper is e
  in_block file head.File first deeper is l ls e = in_file file first deeper is e

  in_lines : (file : ℕ) (lines : List CutLine) (is : List Item) → All L lines → spelled_in file lines ≡ Some is → All P is
  in_lines file [] is all h = absurd (cc h)
  in_lines file (first ∷ deeper) is all h =
      let head = bound_parts (λ (kind : Head). block_by file kind first deeper) (head_of first.text) is h in
      in_block file head.0 first deeper is (All-head L first deeper all) (All-tail L first deeper all) head.2

  in_items : (block : CutBlock) → All L block.lines → All P (items_in block)
  unfolding spelled
  in_items block all = go (spelled_in block.file block.lines) refl
    where
      go : (o : Option (List Item)) → spelled_in block.file block.lines ≡ o → All P (items_or_none o)
      go None e = All-nil P
      go (Some is) e = in_lines block.file block.lines is all e

  pub in_all_items : (blocks : List CutBlock) → All (λ block. All L block.lines) blocks → All P (items_of blocks)
  in_all_items [] all = All-nil P
  in_all_items (block ∷ blocks) all =
      All-append P (items_in block) (items_of blocks) (in_items block (All-head (λ (b : CutBlock). All L b.lines) block blocks all)) (in_all_items blocks (All-tail (λ (b : CutBlock). All L b.lines) block blocks all))
