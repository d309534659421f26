-- In every case an instance and its containers are of the same entities.
use Rattle.std.proofs.Common.{◌≡◌, ◌⊎◌, inl, inr, ℕ, zero, suc, ◌<◌, ◌≤◌, List, [], ◌∷◌, None, refl, sym, ◌∙◌, ap, arith}
use Rattle.std.specs.Prelude.{map}
use Rattle.std.specs.Option.{option_map_or}
use Rattle.std.proofs.lemmas.Bool.{cases_lt}
use Rattle.opa_cells.specs.declared.instance.InstanceId.{InstanceId}
use Rattle.opa_case.specs.Shapes.{Shape}
use Rattle.opa_mean.specs.Completion.{AreFacts}
use Rattle.opa_mean.specs.Mean.{Facts, IsLive}
use Rattle.opa_mean.specs.Places.{climb}
use Rattle.opa_mean.proofs.Reading.{lineage}

module _ (s : Shape) (c c' : Facts) (are : AreFacts s c) (are' : AreFacts s c') where
  abbrev entities : List InstanceId → List ℕ
  entities is = map (λ j. j.entity.0) is

  none_up : (d : Facts) → AreFacts s d → (i : InstanceId) → IsLive d i → i.entity.0 ≤ 0 → d.container i ≡ None
  none_up d is i live le = ap d.container (is.only_global i live (omega (arith, le))) ∙ is.uncontained

  climbs : (n : ℕ) (i i' : InstanceId) → IsLive c i → IsLive c' i' → i'.entity.0 ≡ i.entity.0 → entities (climb c'.container n i') ≡ entities (climb c.container n i)
  climbs zero i i' live live' e = ap (λ k. k ∷ []) e
  climbs (suc n) i i' live live' e = ap (λ k. k ∷ entities (option_map_or (climb c'.container n) (c'.container i') [])) e ∙ ap (λ ks. i.entity.0 ∷ ks) (go (climbs n) (cases_lt 0 i.entity.0))
    where
      go : ((i i' : InstanceId) → IsLive c i → IsLive c' i' → i'.entity.0 ≡ i.entity.0 → entities (climb c'.container n i') ≡ entities (climb c.container n i)) → (0 < i.entity.0) ⊎ (i.entity.0 ≤ 0)
          → entities (option_map_or (climb c'.container n) (c'.container i') []) ≡ entities (option_map_or (climb c.container n) (c.container i) [])
      go rec (inl lt) =
          let k = are.contained i live lt in let k' = are'.contained i' live' (omega (arith, lt, e)) in
          ap (λ o. entities (option_map_or (climb c'.container n) o [])) k'.is ∙ rec k.container k'.container k.is_live k'.is_live (k'.of_parent ∙ ap s.parent e ∙ sym k.of_parent) ∙ sym (ap (λ o. entities (option_map_or (climb c.container n) o [])) k.is)
      go rec (inr le) = ap (λ o. entities (option_map_or (climb c'.container n) o [])) (none_up c' are' i' live' (omega (arith, le, e))) ∙ sym (ap (λ o. entities (option_map_or (climb c.container n) o [])) (none_up c are i live le))

  pub same_lineage : (i : InstanceId) → IsLive c i → IsLive c' i → lineage c'.container i ≡ lineage c.container i
  same_lineage i live live' = climbs i.entity.0 i i live live' refl
