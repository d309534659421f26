-- Lines give answers at most four decimals, and those of a currency two.
use Rattle.std.proofs.Common.{◌≡◌, ◌≤◌, ℕ, zero, suc, ℤ, pos, negsuc, Bool, true, false, cond, List, [], ◌∷◌, Option, Some, None, IfSome, All, subst, arith}
use Rattle.std.specs.Prelude.{◌/◌, ◌%◌, ◌&&◌, ◌==◌, nat_le, is_some, unwrap_or, codes}
use Rattle.std.specs.Option.{option_map, option_and_then}
use Rattle.std.proofs.lemmas.Bool.{leb-true, and_parts}
use Rattle.std.proofs.lemmas.Option.{cond_some}
use Rattle.opa_io.proofs.Options.{bound_parts, mapped_parts}
use Rattle.opa_words.specs.declared.kinds.Token.{Token}
use Rattle.opa_words.specs.Reserved.{are_phrase, phrase_text}
use Rattle.opa_decl.specs.declared.cut.CutBlock.{CutBlock}
use Rattle.opa_decl.specs.declared.cut.CutLine.{CutLine}
use Rattle.opa_decl.specs.declared.items.Bounds.{Bounds}
use Rattle.opa_decl.specs.declared.items.Item.{Item}
use Rattle.opa_decl.specs.declared.items.Place.{Place}
use Rattle.opa_decl.specs.declared.limits.Limits.{Limits}
use Rattle.opa_decl.specs.Declarations.{items_of}
use Rattle.opa_decl.specs.Limits.{whole_up_to, no_limits, bounds_of, with_least, with_most, with_decimals, number_at, signed, whole, limit, ends_or, limits}
use Rattle.opa_decl.specs.Lines.{number_line}
use Rattle.opa_decl.specs.Pieces.{has_text, split_at, phrase}
use Rattle.opa_decl.specs.Spelling.{place_in, member_in}
use Rattle.opa_decl.proofs.AttributeLaws.{DeclaresFew}
use Rattle.opa_decl.proofs.MemberLines.{HoldOfLines, in_member, member_tokens}
use Rattle.opa_decl.proofs.SpelledItems.{carried, given, Hold, in_all_items}

-- ---- bounds

-- so many decimals at most
abbrev KeepsFew : ℕ → Limits → Type 0
KeepsFew most l = IfSome l.decimals (λ k. k ≤ most)

whole_few : (most k : ℕ) (n : ℤ) → whole_up_to most n ≡ Some k → k ≤ most
whole_few most k (pos n) h =
    let parts = cond_some ((n % 10000 == 0) && nat_le (n / 10000) most) (n / 10000) k h in
    let few : n / 10000 ≤ most = leb-true (n / 10000) most (and_parts (n % 10000 == 0) (nat_le (n / 10000) most) parts.0).1 in
    subst (λ (x : ℕ). x ≤ most) parts.1 few
whole_few most k (negsuc n) h = absurd (cc h)

module _ (bytes : List ℕ) where
  whole_taken : (most : ℕ) (ts : List Token) (x : ℕ × List Token) → whole bytes most ts ≡ Some x → x.0 ≤ most
  whole_taken most [] x h = absurd (cc h)
  whole_taken most (t ∷ ts) x h =
      let k = mapped_parts (λ (n : ℕ). (n, ts)) (option_and_then (whole_up_to most) (number_at bytes t)) x h in
      let n = bound_parts (whole_up_to most) (number_at bytes t) k.0 k.1 in
      subst (λ (y : ℕ × List Token). y.0 ≤ most) k.2 (whole_few most k.0 n.0 n.2)

  limit_few : (most : ℕ) (l : Limits) (ts : List Token) (x : Limits × List Token) → KeepsFew most l → limit bytes most l ts ≡ Some x → KeepsFew most x.0
  unfolding limit
  limit_few most l [] x few h = absurd (cc h)
  limit_few most l (t ∷ ts) x few h = by_from (has_text bytes (codes "from") t) h
    where
      by_decimals : (b c : Bool) → cond b (cond c None (option_map (with_decimals l) (whole bytes most ts))) None ≡ Some x → KeepsFew most x.0
      by_decimals true true k = absurd (cc k)
      by_decimals true false k = let y = mapped_parts (with_decimals l) (whole bytes most ts) x k in subst (λ (z : Limits × List Token). KeepsFew most z.0) y.2 (whole_taken most ts y.0 y.1)
      by_decimals false c k = absurd (cc k)

      by_to : (b c : Bool) → cond b (cond c None (option_map (with_most l) (signed bytes ts))) (cond (has_text bytes (codes "decimals") t) (cond (is_some l.decimals) None (option_map (with_decimals l) (whole bytes most ts))) None) ≡ Some x → KeepsFew most x.0
      by_to true true k = absurd (cc k)
      by_to true false k = let y = mapped_parts (with_most l) (signed bytes ts) x k in subst (λ (z : Limits × List Token). KeepsFew most z.0) y.2 few
      by_to false c k = by_decimals (has_text bytes (codes "decimals") t) (is_some l.decimals) k

      by_from : (b : Bool) → cond b (cond (is_some l.least) None (option_map (with_least l) (signed bytes ts)))
          (cond (has_text bytes (codes "to") t) (cond (is_some l.most) None (option_map (with_most l) (signed bytes ts))) (cond (has_text bytes (codes "decimals") t) (cond (is_some l.decimals) None (option_map (with_decimals l) (whole bytes most ts))) None)) ≡ Some x → KeepsFew most x.0
      by_from true k = by_least (is_some l.least) k
        where
          by_least : (c : Bool) → cond c None (option_map (with_least l) (signed bytes ts)) ≡ Some x → KeepsFew most x.0
          by_least true m = absurd (cc m)
          by_least false m = let y = mapped_parts (with_least l) (signed bytes ts) x m in subst (λ (z : Limits × List Token). KeepsFew most z.0) y.2 few
      by_from false k = by_to (has_text bytes (codes "to") t) (is_some l.most) k

  limits_few : (left most : ℕ) (l : Limits) (ts : List Token) (found : Limits) → KeepsFew most l → limits bytes left most l ts ≡ Some found → KeepsFew most found
  limits_few zero most l ts found few h = absurd (cc h)
  limits_few (suc left) most l ts found few h =
      let first = bound_parts (ends_or bytes (limits bytes left most)) (limit bytes most l ts) found h in
      after first.0.0 first.0.1 (limit_few most l ts first.0 few first.1) first.2 (λ m us kept e. limits_few left most m us found kept e)
    where
      after : (m : Limits) (us : List Token) → KeepsFew most m → ends_or bytes (limits bytes left most) (m, us) ≡ Some found → ((k : Limits) (vs : List Token) → KeepsFew most k → limits bytes left most k vs ≡ Some found → KeepsFew most found) → KeepsFew most found
      after m [] kept e more = subst (λ (k : Limits). KeepsFew most k) (let same : m ≡ found = cc e in same) kept
      after m (u ∷ us) kept e more = go (has_text bytes (codes ",") u) e
        where
          go : (b : Bool) → cond b (limits bytes left most m us) None ≡ Some found → KeepsFew most found
          go true k = more m us kept k
          go false k = absurd (cc k)

  bounds_few : (most : ℕ) (l : Limits) → KeepsFew most l → (bounds_of most l).decimals ≤ most
  bounds_few most l few = go l.decimals few
    where
      go : (o : Option ℕ) → IfSome o (λ k. k ≤ most) → unwrap_or o most ≤ most
      go None h = omega arith
      go (Some k) h = h

  abbrev IsBounded : ℕ → List ℕ × Bounds → Type 0
  IsBounded most x = x.1.decimals ≤ most

  abbrev with_bounds : ℕ → List Token → List ℕ → Option (List ℕ × Bounds)
  with_bounds most ts text = option_and_then (λ (found : Limits). Some (text, bounds_of most found)) (limits bytes 3 most no_limits ts)

  bounded_few : (most : ℕ) (ts : List Token) (x : List ℕ × Bounds) → option_and_then (λ (parts : List Token × List Token). option_and_then (with_bounds most parts.1) (phrase bytes parts.0)) (split_at bytes (codes ":") ts) ≡ Some x → IsBounded most x
  bounded_few most ts =
      carried (IsBounded most) (λ (parts : List Token × List Token). option_and_then (with_bounds most parts.1) (phrase bytes parts.0)) (split_at bytes (codes ":") ts) (λ parts _.
      carried (IsBounded most) (with_bounds most parts.1) (phrase bytes parts.0) (λ text _.
      carried (IsBounded most) (λ (found : Limits). Some (text, bounds_of most found)) (limits bytes 3 most no_limits parts.1) (λ found is x.
      given (IsBounded most) (text, bounds_of most found) x (bounds_few most found (limits_few 3 most no_limits parts.1 found tt is)))))

  number_few : (most : ℕ) (ts : List Token) (x : List ℕ × Bounds) → number_line bytes most ts ≡ Some x → IsBounded most x
  unfolding number_line
  number_few most ts x = go (are_phrase bytes ts)
    where
      go : (b : Bool) → cond b (Some (phrase_text bytes ts, bounds_of most no_limits)) (option_and_then (λ (parts : List Token × List Token). option_and_then (with_bounds most parts.1) (phrase bytes parts.0)) (split_at bytes (codes ":") ts)) ≡ Some x → IsBounded most x
      go true = given (IsBounded most) (phrase_text bytes ts, bounds_of most no_limits) x (bounds_few most no_limits tt)
      go false = bounded_few most ts x

-- ---- lines

line_few : (bytes : List ℕ) (at : Place) (of_global : Bool) (ts : List Token) → HoldOfLines DeclaresFew bytes at of_global ts
line_few bytes at of_global ts = record {
  of_bool = λ x h. tt;
  of_number = number_few bytes 4 ts;
  of_currency = number_few bytes 2 ts;
  of_words = λ x h. tt;
  of_date = λ x h. tt;
  of_reference = λ x h. tt;
  of_every = λ x h. tt;
}

member_few : (file : ℕ) (of_global : Bool) (line : CutLine) (i : Item) → Unit {0} → member_in file of_global line ≡ Some i → DeclaresFew i
member_few file of_global line i any h =
    let ts = member_tokens file of_global line i h in in_member DeclaresFew line.text (place_in file line) of_global ts.0 i (λ t more is. line_few line.text (place_in file line) of_global more) ts.2

pub few_decimals : (blocks : List CutBlock) → All DeclaresFew (items_of blocks)
few_decimals blocks =
    let holds : Hold DeclaresFew (λ line. Unit {0}) = record { of_member = member_few; of_verb = λ file line v any h. tt; of_entity = λ file first second phrase above one two h k. tt; of_goal = λ goal. tt; of_screen = λ screen. tt; of_file = λ named. tt } in
    in_all_items DeclaresFew (λ line. Unit {0}) holds blocks (λ k d within j e inside. tt)
