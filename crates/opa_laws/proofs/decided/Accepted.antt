-- Files spell one rulebase.
use Rattle.std.proofs.Common.{◌≡◌, ◌∙◌, ◌<◌, ℕ, Bool, false, List, length, refl, sym, ap, ap₂, subst, subst₂, ext_get_or, arith}
use Rattle.std.specs.Prelude.{slice_index_or}
use Rattle.std.proofs.Props.{props}
use Rattle.opa_model.specs.declared.ids.AttrId.{AttrId}
use Rattle.opa_model.specs.declared.lists.Lists.{Lists}
use Rattle.opa_tree.specs.declared.rulebase.Rulebase.{Rulebase}
use Rattle.opa_tree.specs.declared.rules.Rule.{Rule}
use Rattle.opa_tree.specs.Accepted.{AreSound, HaveForm, AreShallow, AreFiled}
use Rattle.opa_tree.specs.Ranks.{AreRanks, AreRuled}
use Rattle.opa_tree.proofs.LawsHold.{ranks_are_unique_holds}
use Rattle.opa_laws.specs.Decided.Opening.{OneBase}
use Rattle.opa_laws.proofs.decided.Refused.{same_model, same_rules}

-- ---- which attributes have a rule

same_flags : (xs ys : List Bool) → length xs ≡ length ys → ((k : ℕ) → k < length xs → slice_index_or xs k false ≡ slice_index_or ys k false) → xs ≡ ys
same_flags xs ys e h = ext_get_or false xs ys e h

one_ruled : (count : ℕ) (rules : List Rule) (xs ys : List Bool) → AreRuled count rules xs → AreRuled count rules ys → xs ≡ ys
one_ruled count rules xs ys h k = same_flags xs ys (h.for_each ∙ sym k.for_each) (λ n lt. at n (omega (arith, lt, h.for_each)))
  where
    at : (n : ℕ) → n < count → slice_index_or xs n false ≡ slice_index_or ys n false
    at n lt = let a : AttrId = record { 0 = n } in h.by_rules a lt ∙ sym (k.by_rules a lt)

-- ---- a rulebase is what it holds

-- what it holds, without what it keeps
record Held : Type 0 where
  pub model : Lists
  pub rules : List Rule
  pub ranks : List ℕ
  pub ruled : List Bool
  pub files : List (List ℕ)

record Keeps (h : Held) : Type 0 where
  pub sound : AreSound h.model h.rules
  pub ranked : AreRanks (length h.model.attributes) h.rules h.ranks
  pub ruled_by : AreRuled (length h.model.attributes) h.rules h.ruled
  pub formed : HaveForm h.rules
  pub shallow : AreShallow h.rules
  pub filed : AreFiled (length h.files) h.rules

held : Rulebase → Held
held base = record { model = base.model; rules = base.rules; ranks = base.ranks; ruled = base.ruled; files = base.files }

keeps : (base : Rulebase) → Keeps (held base)
unfolding held
keeps base = record { sound = base.sound; ranked = base.ranked; ruled_by = base.ruled_by; formed = base.formed; shallow = base.shallow; filed = base.filed }

made : (h : Held) → Keeps h → Rulebase
made h k = record {
  model = h.model;
  rules = h.rules;
  ranks = h.ranks;
  ruled = h.ruled;
  files = h.files;
  sound = k.sound;
  ranked = k.ranked;
  ruled_by = k.ruled_by;
  formed = k.formed;
  shallow = k.shallow;
  filed = k.filed;
}

made_again : (base : Rulebase) → made (held base) (keeps base) ≡ base
unfolding held keeps made
made_again base = refl

keeps_once : (h : Held) → IsProp (Keeps h)
keeps_once h = hlevel props

same_made : (h g : Held) → h ≡ g → (x : Keeps h) (y : Keeps g) → made h x ≡ made g y
same_made h g e = subst (λ z. (x : Keeps h) (y : Keeps z) → made h x ≡ made z y) e (λ x y. ap (made h) (keeps_once h x y))

same_held : (h g : Held) → h.model ≡ g.model → h.rules ≡ g.rules → h.ranks ≡ g.ranks → h.ruled ≡ g.ruled → h.files ≡ g.files → h ≡ g
same_held h g p q r s t =
    ap₂ (λ (x : Lists) (y : List Rule). let z : Held = record { model = x; rules = y; ranks = h.ranks; ruled = h.ruled; files = h.files } in z) p q
    ∙ ap₂ (λ (x : List ℕ) (y : List Bool). let z : Held = record { model = g.model; rules = g.rules; ranks = x; ruled = y; files = h.files } in z) r s
    ∙ ap (λ (x : List (List ℕ)). let z : Held = record { model = g.model; rules = g.rules; ranks = g.ranks; ruled = g.ruled; files = x } in z) t

same_base : (a b : Rulebase) → held a ≡ held b → a ≡ b
same_base a b e = sym (made_again a) ∙ same_made (held a) (held b) e (keeps a) (keeps b) ∙ made_again b

-- ---- one rulebase

-- rulebases of one model and one list of rules that were read from the same files
alike : (a b : Rulebase) → a.model ≡ b.model → a.rules ≡ b.rules → a.files ≡ b.files → a ≡ b
unfolding held
alike a b p q r =
    let ranked : AreRanks (length b.model.attributes) b.rules a.ranks = subst₂ (λ (m : Lists) (rs : List Rule). AreRanks (length m.attributes) rs a.ranks) p q a.ranked in
    let ruled : AreRuled (length b.model.attributes) b.rules a.ruled = subst₂ (λ (m : Lists) (rs : List Rule). AreRuled (length m.attributes) rs a.ruled) p q a.ruled_by in
    same_base a b
    (same_held (held a) (held b) p q (ranks_are_unique_holds (length b.model.attributes) b.rules a.ranks b.ranks b.sound.attributes_declared ranked b.ranked)
    (one_ruled (length b.model.attributes) b.rules a.ruled b.ruled ruled b.ruled_by) r)

pub one_base_holds : OneBase
one_base_holds files a b h k =
    alike a b
    (same_model files h.blocks k.blocks a.model b.model h.are_inferred.declared k.are_inferred.declared)
    (same_rules files h.blocks k.blocks a.model b.model h.inferences k.inferences a.rules b.rules h.are_inferred k.are_inferred h.are_rules k.are_rules)
    (h.files_are ∙ sym k.files_are)
