-- Where every line is held up, the lines fix what they list, by recursion on rank.
use Rattle.std.proofs.Common.{◌≡◌, ℕ, zero, suc, ◌<◌, List, [], ◌∷◌, Bool, true, false, cond, Option, None, Some, Contains, refl, sym, ◌∙◌, ap, subst, arith}
use Rattle.std.specs.Prelude.{nat_lt, unwrap_or}
use Rattle.std.proofs.lemmas.Bool.{ltb-true, lt-ltb}
use Rattle.opa_value.specs.declared.value.Value.{Value}
use Rattle.opa_value.specs.declared.value.Value.TheVariants.{Uncertain}
use Rattle.opa_model.specs.declared.ids.AttrId.{AttrId}
use Rattle.opa_model.specs.declared.ids.RelId.{RelId}
use Rattle.opa_cells.specs.declared.instance.InstanceId.{InstanceId}
use Rattle.opa_tree.specs.declared.rules.Rule.{Rule}
use Rattle.opa_tree.specs.Mentions.{mentioned}
use Rattle.opa_tree.specs.Rules.{rule_of}
use Rattle.opa_mean.specs.Bases.{RanksFall}
use Rattle.opa_mean.specs.Completion.{AreFacts}
use Rattle.opa_mean.specs.Looks.{Look}
use Rattle.opa_mean.specs.Mean.{Base, Facts, look_of, concluded, fitted, mean}
use Rattle.opa_mean.specs.Meaning.{Meaning, value}
use Rattle.opa_mean.specs.Reports.{Agrees}
use Rattle.opa_mean.proofs.Agreeing.{value_same}
use Rattle.opa_mean.proofs.Determining.{determined, mentioned_in}
use Rattle.opa_mean.proofs.Everywhere.{all_of_each}
use Rattle.opa_report.specs.Supporting.{Lists, point, list, member}
use Rattle.opa_report.specs.declared.lines.ReportLine.{ReportLine}
use Rattle.opa_report.specs.declared.lines.ReportLine.TheVariants as line
use Rattle.opa_verify.specs.Support.Told.{value_by, list_by, container_by, listing_of}
use Rattle.opa_verify.specs.Listed.Listings.{Listing}
use Rattle.opa_verify.specs.Support.Proofs.{IsConcluded, AreHeldUp, HeldUpFixes}
use Rattle.opa_verify.specs.Listed.Seen.{seen}
use Rattle.opa_verify.proofs.listed.Saying.{Says, map_says}
use Rattle.opa_verify.proofs.support.Telling.{told_in, value_told, list_told, container_told}
use Rattle.opa_verify.proofs.listed.Trusting.{Has, trusted}

module _ (b : Base) (falls : RanksFall b) (lines : List ReportLine) (held : AreHeldUp b lines) (c : Facts) (are : AreFacts b.shape c) (agrees : Agrees b (Lists lines) c) where
  abbrev k : Listing
  k = listing_of lines

  -- the case's values below a rank, and from there on what is listed
  abbrev between : ℕ → AttrId → InstanceId → ℕ → Value
  between n a i d = cond (nat_lt (b.rank a) n) (mean b c a i d) (unwrap_or (k.value a i d) Uncertain)

  abbrev mixed : ℕ → Look
  mixed n = record { value = between n; members = c.members; container = c.container }

  abbrev Right : ℕ → Type 0
  Right n = (a : AttrId) (i : InstanceId) (d : ℕ) (v : Value) → b.rank a < n → k.value a i d ≡ Some v → mean b c a i d ≡ v

  has : (n : ℕ) → Right n → Has (mixed n) k
  has n right = record { values = values; lists = lists; containers = containers; uncontained = are.uncontained }
    where
      values : (a : AttrId) (i : InstanceId) (d : ℕ) → Says (k.value a i d) (between n a i d)
      values a i d v is = go (nat_lt (b.rank a) n) refl
        where
          go : (t : Bool) → nat_lt (b.rank a) n ≡ t → cond t (mean b c a i d) (unwrap_or (k.value a i d) Uncertain) ≡ v
          go true e = right a i d v (ltb-true _ _ e) is
          go false e = ap (λ o. unwrap_or o Uncertain) is

      lists : (r : RelId) (i : InstanceId) → Says (k.members r i) (c.members r i)
      lists r i names is = let told = told_in (list_by r i) lines names is in agrees.lists_are r i names (list r i names (subst (Contains lines) (list_told r i names told.0 told.1.1) told.1.0))

      containers : (i j : InstanceId) → k.container i ≡ Some j → c.container i ≡ Some j
      containers i j is = let told = told_in (container_by i) lines j is in let one = container_told i j told.0 told.1.1 in agrees.members i j (member one.0 j i (subst (Contains lines) one.1 told.1.0))

  fixed : (n : ℕ) → Right n
  fixed zero a i d v lt is = absurd (omega arith)
  fixed (suc n) a i d v lt is =
      let told = told_in (value_by a i d) lines v is in
      let run = value_told a i d v told.0 told.1.1 in
      let there : Contains lines (line.Point a i run.start run.end v) = subst (Contains lines) run.is told.1.0 in
      determined b c falls a i d ∙ go (rule_of b.rules a) refl (λ e. agrees.points a i d v (point a i run.start run.end d v there run.after run.until) e) ((held (line.Point a i run.start run.end v) there).1 d run.after run.until) (fixed n)
    where
      go : (o : Option Rule) → rule_of b.rules a ≡ o → (rule_of b.rules a ≡ None → c.answer a i d ≡ v) → IsConcluded b k (rule_of b.rules a) a i d v → Right n
          → concluded o (c.answer a i d) (λ e. fitted b.shape a (value b.shape (look_of c (mean b c)) e (i ∷ []) d)) ≡ v
      go None e answered from rec = answered e
      go (Some rule) e answered from rec =
          ap (fitted b.shape a) (ap (λ (m : Meaning). m (i ∷ []) d) (sym lower))
          ∙ map_says (fitted b.shape a) (seen b.shape k rule.expr (i ∷ []) d) (value b.shape (mixed (b.rank a)) rule.expr (i ∷ []) d)
          (trusted b.shape (mixed (b.rank a)) k (has (b.rank a) (λ m j x w less told. rec m j x w (omega (arith, less, lt)) told)) rule.expr (i ∷ []) d)
          v (subst (λ o. IsConcluded b k o a i d v) e from)
        where
          lower : value b.shape (mixed (b.rank a)) rule.expr ≡ value b.shape (look_of c (mean b c)) rule.expr
          lower = value_same b.shape (mixed (b.rank a)) (look_of c (mean b c)) refl refl rule.expr
              (all_of_each (λ m. between (b.rank a) m ≡ mean b c m) (mentioned rule.expr) (λ m there. below m (falls a m (mentioned_in b.rules a rule e m there))))
            where
              below : (m : AttrId) → b.rank m < b.rank a → between (b.rank a) m ≡ mean b c m
              below m less = ap {B = InstanceId → ℕ → Value} (λ (t : Bool) (j : InstanceId) (x : ℕ). cond t (mean b c m j x) (unwrap_or (k.value m j x) Uncertain)) (lt-ltb _ _ less)

  pub upheld : (a : AttrId) (i : InstanceId) (d : ℕ) (v : Value) → k.value a i d ≡ Some v → mean b c a i d ≡ v
  upheld a i d v is = fixed (suc (b.rank a)) a i d v (omega arith) is

pub held_up_fixes_holds : HeldUpFixes
held_up_fixes_holds b lines is held a i d v told c are live agrees = upheld b is.falls lines held c are agrees a i d v told
