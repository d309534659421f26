-- Membership blocks, and rules, are found in one way.
use Rattle.std.proofs.Common.{◌≡◌, ◌∙◌, ℕ, List, [], ◌∷◌, length, Option, Some, None, refl, sym, ap, ap₂, subst}
use Rattle.std.specs.Str.{chars}
use Rattle.opa_words.specs.Cuts.{Cuts}
use Rattle.opa_words.specs.Places.{token_text}
use Rattle.opa_words.proofs.OneCut.{one_cut_holds}
use Rattle.opa_model.specs.declared.lists.Lists.{Lists}
use Rattle.opa_words.specs.declared.layout.block.Block.{Block}
use Rattle.opa_words.specs.declared.layout.block.BlockLine.{BlockLine}
use Rattle.opa_sentence.specs.declared.names.Names.{Names}
use Rattle.opa_parse.specs.declared.block.BlockSort.{BlockSort}
use Rattle.opa_parse.specs.declared.block.BlockSort.TheVariants as block_sort
use Rattle.opa_parse.specs.declared.block.MemberBlock.{MemberBlock}
use Rattle.opa_parse.specs.declared.block.Membership.{Membership}
use Rattle.opa_parse.specs.declared.block.RuleBlock.{RuleBlock}
use Rattle.opa_parse.specs.declared.block.Statement.{Statement}
use Rattle.opa_parse.specs.Blocks.{IsStatement, IsMembership}
use Rattle.opa_parse.specs.Memberships as x
use Rattle.opa_parse.specs.Memberships.{IsMemberBlock, AreMemberBlocks}
use Rattle.opa_parse.specs.Openings.{IsFirst, IsSort, sort_of}
use Rattle.opa_parse.specs.Rules as r
use Rattle.opa_parse.specs.Rules.{IsRuleBlock, IsPassed, AreRuleBlocks}
use Rattle.opa_parse.proofs.FrontLaws.{one_front}
use Rattle.opa_parse.proofs.LawsHold.{one_rule_holds, one_membership_holds}
use Rattle.opa_laws.specs.Decided.Reading.{OneMemberBlocks, OneRuleBlocks}

-- ---- the sort of a block

one_word : (text : List ℕ) (o p : Option (List ℕ)) → IsFirst text o → IsFirst text p → o ≡ p
one_word text None None h k = refl
one_word text None (Some w) h k = absurd (h k.0 k.1 k.2 k.3)
one_word text (Some v) None h k = absurd (k h.0 h.1 h.2 h.3)
one_word text (Some v) (Some w) h k =
    let front : h.0 ≡ k.0 = one_front text h.0 k.0 h.3.1 k.3.1 in
    let cut : Cuts (length k.0) (chars k.0) (h.1 ∷ h.2) = subst (λ z. Cuts (length z) (chars z) (h.1 ∷ h.2)) front h.3.0 in
    let tokens : h.1 ∷ h.2 ≡ k.1 ∷ k.2 = one_cut_holds (length k.0) (chars k.0) (h.1 ∷ h.2) (k.1 ∷ k.2) cut k.3.0 in
    ap (λ (z : List ℕ). Some z) (sym h.4 ∙ ap (λ z. token_text z h.1) front ∙ ap (token_text k.0) (let e : h.1 ≡ k.1 = cc tokens in e) ∙ k.4)

one_sort : (lines : List BlockLine) (s t : BlockSort) → IsSort lines s → IsSort lines t → s ≡ t
one_sort [] s t h k = h ∙ sym k
one_sort (l ∷ ls) s t h k = h.2 ∙ ap sort_of (one_word l.text h.0 k.0 h.1 k.1) ∙ sym k.2

not_passed : (s : BlockSort) (b : Block) → IsPassed s b → IsSort b.lines s → ⊥
not_passed s b passed is = passed.2 (one_sort b.lines passed.0 s passed.1 is)

module _ (m : Lists) (ns : Names) where
  -- ---- membership blocks

  one_membership : (lines : List BlockLine) (o p : Option Membership) → IsMembership m ns lines o → IsMembership m ns lines p → o ≡ p
  one_membership lines None None h k = refl
  one_membership lines None (Some t) h k = absurd (h t k)
  one_membership lines (Some s) None h k = absurd (k s h)
  one_membership lines (Some s) (Some t) h k = ap (λ (z : Membership). Some z) (one_membership_holds m ns lines s t h k)

  one_member_block : (b : Block) (y z : MemberBlock) → IsMemberBlock m ns b y → IsMemberBlock m ns b z → y ≡ z
  one_member_block b y z h k =
      ap₂ (λ (f l : ℕ). let w : MemberBlock = record { file = f; line = l; membership = y.membership } in w) (h.file_is ∙ sym k.file_is) (h.line_is ∙ sym k.line_is)
      ∙ ap (λ (o : Option Membership). let w : MemberBlock = record { file = z.file; line = z.line; membership = o } in w) (one_membership b.lines y.membership z.membership h.says k.says)

  abbrev OnlyMembers : List Block → List MemberBlock → Type 0
  OnlyMembers bs xs = (ys : List MemberBlock) → AreMemberBlocks m ns bs ys → xs ≡ ys

  members_end : OnlyMembers [] []
  members_end ys x.AreMemberBlocks.none = refl

  members_passed : (b : Block) (bs : List Block) (xs : List MemberBlock) → IsPassed block_sort.Members b → OnlyMembers bs xs → OnlyMembers (b ∷ bs) xs
  members_passed b bs xs passed one ys (x.AreMemberBlocks.passed p k) = one ys k
  members_passed b bs xs passed one ys (x.AreMemberBlocks.members is k) = absurd (not_passed block_sort.Members b passed is.sort)

  members_found : (b : Block) (bs : List Block) (y : MemberBlock) (xs : List MemberBlock) → IsMemberBlock m ns b y → OnlyMembers bs xs → OnlyMembers (b ∷ bs) (y ∷ xs)
  members_found b bs y xs is one ys (x.AreMemberBlocks.passed p k) = absurd (not_passed block_sort.Members b p is.sort)
  members_found b bs y xs is one ys (x.AreMemberBlocks.members {r = z} {rs = zs} also k) = ap₂ (λ v vs. v ∷ vs) (one_member_block b y z is also) (one zs k)

  only_members : {bs : List Block} {xs : List MemberBlock} → AreMemberBlocks m ns bs xs → OnlyMembers bs xs
  only_members x.AreMemberBlocks.none = members_end
  only_members (x.AreMemberBlocks.passed {b = b} {bs = bs} {rs = xs} p k) = members_passed b bs xs p (only_members k)
  only_members (x.AreMemberBlocks.members {b = b} {r = y} {bs = bs} {rs = xs} is k) = members_found b bs y xs is (only_members k)

  -- ---- rules

  one_statement : (lines : List BlockLine) (o p : Option Statement) → IsStatement m ns lines o → IsStatement m ns lines p → o ≡ p
  one_statement lines None None h k = refl
  one_statement lines None (Some t) h k = absurd (h t k)
  one_statement lines (Some s) None h k = absurd (k s h)
  one_statement lines (Some s) (Some t) h k = ap (λ (z : Statement). Some z) (one_rule_holds m ns lines s t h k)

  one_rule_block : (b : Block) (y z : RuleBlock) → IsRuleBlock m ns b y → IsRuleBlock m ns b z → y ≡ z
  one_rule_block b y z h k =
      ap₂ (λ (f l : ℕ). let w : RuleBlock = record { file = f; line = l; statement = y.statement } in w) (h.file_is ∙ sym k.file_is) (h.line_is ∙ sym k.line_is)
      ∙ ap (λ (o : Option Statement). let w : RuleBlock = record { file = z.file; line = z.line; statement = o } in w) (one_statement b.lines y.statement z.statement h.says k.says)

  abbrev OnlyRules : List Block → List RuleBlock → Type 0
  OnlyRules bs xs = (ys : List RuleBlock) → AreRuleBlocks m ns bs ys → xs ≡ ys

  rules_end : OnlyRules [] []
  rules_end ys r.AreRuleBlocks.none = refl

  rules_passed : (b : Block) (bs : List Block) (xs : List RuleBlock) → IsPassed block_sort.Rule b → OnlyRules bs xs → OnlyRules (b ∷ bs) xs
  rules_passed b bs xs passed one ys (r.AreRuleBlocks.passed p k) = one ys k
  rules_passed b bs xs passed one ys (r.AreRuleBlocks.rule is k) = absurd (not_passed block_sort.Rule b passed is.sort)

  rules_found : (b : Block) (bs : List Block) (y : RuleBlock) (xs : List RuleBlock) → IsRuleBlock m ns b y → OnlyRules bs xs → OnlyRules (b ∷ bs) (y ∷ xs)
  rules_found b bs y xs is one ys (r.AreRuleBlocks.passed p k) = absurd (not_passed block_sort.Rule b p is.sort)
  rules_found b bs y xs is one ys (r.AreRuleBlocks.rule {r = z} {rs = zs} also k) = ap₂ (λ v vs. v ∷ vs) (one_rule_block b y z is also) (one zs k)

  only_rules : {bs : List Block} {xs : List RuleBlock} → AreRuleBlocks m ns bs xs → OnlyRules bs xs
  only_rules r.AreRuleBlocks.none = rules_end
  only_rules (r.AreRuleBlocks.passed {b = b} {bs = bs} {rs = xs} p k) = rules_passed b bs xs p (only_rules k)
  only_rules (r.AreRuleBlocks.rule {b = b} {r = y} {bs = bs} {rs = xs} is k) = rules_found b bs y xs is (only_rules k)

pub one_member_blocks_hold : OneMemberBlocks
one_member_blocks_hold m ns blocks xs ys h k = only_members m ns h ys k

pub one_rule_blocks_hold : OneRuleBlocks
one_rule_blocks_hold m ns blocks xs ys h k = only_rules m ns h ys k
