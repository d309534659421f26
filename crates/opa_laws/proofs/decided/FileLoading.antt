-- A file loads one case.
use Rattle.std.proofs.Common.{◌≡◌, ◌<◌, ◌≤◌, ℕ, List, length, refl, sym, ap, subst, ◌∙◌, arith}
use Rattle.std.specs.Prelude.{Option, None, Some}
use Rattle.std.specs.FinMap as map
use Rattle.opa_io.specs.Outside.{Files}
use Rattle.opa_case.specs.Cases.{CaseView}
use Rattle.opa_saved.specs.Faults.{fault_number}
use Rattle.opa_saved.proofs.Outcomes.{one_loaded, one_fault, loaded_or_fault}
use Rattle.opa_tree.specs.declared.rulebase.Rulebase.{Rulebase}
use Rattle.opa_reply.specs.Loads.{FILE_MOST, loaded_text, refused_load, LoadsBytes, Loads}
use Rattle.opa_laws.specs.Decided.Laws.{OneLoaded}

-- one file of a name
one_file : (o : Option (List ℕ)) (bs cs : List ℕ) → o ≡ Some bs → o ≡ Some cs → bs ≡ cs
one_file o bs cs e f = let g : Some bs ≡ Some cs = sym e ∙ f in cc g

no_file : (o : Option (List ℕ)) (bs : List ℕ) → o ≡ Some bs → o ≡ None → ⊥
no_file o bs e f = let g : Some bs ≡ None = sym e ∙ f in cc g

not_long : (bs cs : List ℕ) → bs ≡ cs → length bs ≤ FILE_MOST → FILE_MOST < length cs → ⊥
not_long bs cs e few long = let same : length bs ≡ length cs = ap length e in omega (arith, few, long, same)

module _ (r : Rulebase) where
  one_of_bytes : (bytes : List ℕ) {t u : List ℕ} {d e : Option CaseView} → LoadsBytes r bytes t d → LoadsBytes r bytes u e → (t ≡ u) × (d ≡ e)
  one_of_bytes bytes (LoadsBytes.loads d o h) (LoadsBytes.loads e p k) = let s = one_loaded r.model r.ruled bytes d e o p h k in (ap loaded_text s.1, ap (λ x. Some x) s.0)
  one_of_bytes bytes (LoadsBytes.loads d o h) (LoadsBytes.refuses g n k) = absurd (loaded_or_fault r.model r.ruled bytes d o g n h k)
  one_of_bytes bytes (LoadsBytes.refuses f n h) (LoadsBytes.loads e p k) = absurd (loaded_or_fault r.model r.ruled bytes e p f n k h)
  one_of_bytes bytes (LoadsBytes.refuses f n h) (LoadsBytes.refuses g o k) = (ap (λ x. refused_load (fault_number x)) (one_fault r.model r.ruled bytes f g n o h k), refl)

  one_of_file : (files : Files) (name : List ℕ) {t u : List ℕ} {d e : Option CaseView} → Loads r (Some files) name t d → Loads r (Some files) name u e → (t ≡ u) × (d ≡ e)
  one_of_file files name (Loads.of_bytes bs t d is few h) (Loads.of_bytes cs u e found short k) =
      let same = one_file (map.get files name) cs bs found is in
      one_of_bytes bs h (subst (λ x. LoadsBytes r x u e) same k)
  one_of_file files name (Loads.of_bytes bs t d is few h) (Loads.too_long k) = absurd (not_long bs k.0 (one_file (map.get files name) bs k.0 is k.1) few k.2)
  one_of_file files name (Loads.of_bytes bs t d is few h) (Loads.missing k) = absurd (no_file (map.get files name) bs is k)
  one_of_file files name (Loads.too_long h) (Loads.of_bytes cs u e found short k) = absurd (not_long cs h.0 (one_file (map.get files name) cs h.0 found h.1) short h.2)
  one_of_file files name (Loads.too_long h) (Loads.too_long k) = (refl, refl)
  one_of_file files name (Loads.too_long h) (Loads.missing k) = absurd (no_file (map.get files name) h.0 h.1 k)
  one_of_file files name (Loads.missing h) (Loads.of_bytes cs u e found short k) = absurd (no_file (map.get files name) cs found h)
  one_of_file files name (Loads.missing h) (Loads.too_long k) = absurd (no_file (map.get files name) k.0 k.1 h)
  one_of_file files name (Loads.missing h) (Loads.missing k) = (refl, refl)

pub one_loaded_holds : OneLoaded
one_loaded_holds r files name t u d e h k = one_of_file r files name h k
