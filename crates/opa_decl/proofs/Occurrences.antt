-- How often a text stands among texts: texts all differ where each stands once at most.
use Rattle.std.proofs.Common.{◌≡◌, ◌≢◌, ◌∙◌, ◌+◌, ◌≤◌, ℕ, Bool, true, false, cond, List, [], ◌∷◌, ◌++◌, All, AllPairs, refl, ap, arith}
use Rattle.std.specs.Prelude.{flat_map}
use Rattle.std.specs.Str.{bytes_eq}
use Rattle.std.proofs.lemmas.Bool.{or_parts}
use Rattle.std.proofs.lemmas.List.Elements.{All-nil, All-cons}
use Rattle.std.proofs.lemmas.List.Kept.{AllPairs-cons}
use Rattle.std.proofs.lemmas.Slice.Eq.{bytes_eq-Decides}
use Rattle.opa_tree.specs.declared.faults.RbKind.TheVariants.{Twice}
use Rattle.opa_decl.specs.declared.items.Name.{Name}
use Rattle.opa_decl.specs.Faults.{fault_at, stands, repeated}
use Rattle.opa_decl.specs.Names.{texts}

abbrev unit : Bool → ℕ
unit b = cond b 1 0

abbrev pub occurs : List ℕ → List (List ℕ) → ℕ
occurs t [] = 0
occurs t (u ∷ us) = unit (bytes_eq t u) + occurs t us

pub occurs-append : (t : List ℕ) (us vs : List (List ℕ)) → occurs t (us ++ vs) ≡ occurs t us + occurs t vs
occurs-append t [] vs = omega arith
occurs-append t (u ∷ us) vs = omega (arith, occurs-append t us vs)

-- the texts that items give in two parts
pub occurs-parts : {X : Type 0} (f g : X → List (List ℕ)) (t : List ℕ) (xs : List X) → occurs t (flat_map (λ x. f x ++ g x) xs) ≡ occurs t (flat_map f xs) + occurs t (flat_map g xs)
occurs-parts f g t [] = omega arith
occurs-parts f g t (x ∷ xs) =
    omega (arith, occurs-append t (f x ++ g x) (flat_map (λ y. f y ++ g y) xs), occurs-append t (f x) (g x), occurs-append t (f x) (flat_map f xs), occurs-append t (g x) (flat_map g xs), occurs-parts f g t xs)

-- ---- texts that differ

pub not_here : (u v : List ℕ) (vs : List (List ℕ)) → occurs u (v ∷ vs) ≡ 0 → u ≢ v
not_here u v vs h same = let here : unit (bytes_eq u v) ≡ 1 = ap unit ((bytes_eq-Decides u v).1 same) in absurd (omega (arith, here, h))

pub not_again : (u : List ℕ) (us : List (List ℕ)) → occurs u (u ∷ us) ≤ 1 → occurs u us ≡ 0
not_again u us h = let here : unit (bytes_eq u u) ≡ 1 = ap unit ((bytes_eq-Decides u u).1 refl) in omega (arith, here, h)

absent : (u : List ℕ) (us : List (List ℕ)) → occurs u us ≡ 0 → All (λ p. u ≢ p) us
absent u [] h = All-nil (λ p. u ≢ p)
absent u (v ∷ vs) h = All-cons (λ p. u ≢ p) v vs (not_here u v vs h) (absent u vs (omega (arith, h)))

no_pairs : AllPairs {X = List ℕ} (λ p q. p ≢ q) []
no_pairs i j d lt within = absurd (omega arith)

pub differ_once : (us : List (List ℕ)) → ((t : List ℕ) → occurs t us ≤ 1) → AllPairs (λ p q. p ≢ q) us
differ_once [] h = no_pairs
differ_once (u ∷ us) h = AllPairs-cons (λ p q. p ≢ q) u us (absent u us (not_again u us (h u))) (differ_once us (λ t. omega (arith, h t)))

-- ---- names none of which stands a second time

none_stands : (t : List ℕ) (us : List (List ℕ)) → stands us t ≡ false → occurs t us ≡ 0
none_stands t [] h = refl
none_stands t (u ∷ us) h = let p = or_parts (bytes_eq t u) (stands us t) h in let first : unit (bytes_eq t u) ≡ 0 = ap unit p.0 in omega (arith, first, none_stands t us p.1)

one_more : (seen : List (List ℕ)) (u t : List ℕ) → stands seen u ≡ false → occurs t seen ≤ 1 → occurs t (seen ++ u ∷ []) ≤ 1
one_more seen u t new few = by (bytes_eq t u) refl
  where
    by : (b : Bool) → bytes_eq t u ≡ b → occurs t (seen ++ u ∷ []) ≤ 1
    by false e = let one : unit (bytes_eq t u) ≡ 0 = ap unit e in omega (arith, one, few, occurs-append t seen (u ∷ []))
    by true e =
        let one : unit (bytes_eq t u) ≡ 1 = ap unit e in
        let none : occurs t seen ≡ 0 = ap (λ (x : List ℕ). occurs x seen) ((bytes_eq-Decides t u).0 e) ∙ none_stands u seen new in
        omega (arith, one, none, occurs-append t seen (u ∷ []))

pub once_each : (seen : List (List ℕ)) (ns : List Name) (t : List ℕ) → repeated seen ns ≡ [] → occurs t seen ≤ 1 → occurs t seen + occurs t (texts ns) ≤ 1
once_each seen [] t none few = omega (arith, few)
once_each seen (n ∷ ns) t none few = go (stands seen n.text) refl none (λ s h k. once_each s ns t h k)
  where
    go : (b : Bool) → stands seen n.text ≡ b → cond b (fault_at Twice n.place ∷ repeated seen ns) (repeated (seen ++ n.text ∷ []) ns) ≡ [] → ((s : List (List ℕ)) → repeated s ns ≡ [] → occurs t s ≤ 1 → occurs t s + occurs t (texts ns) ≤ 1)
        → occurs t seen + occurs t (texts (n ∷ ns)) ≤ 1
    go true e h rest = absurd (cc h)
    go false e h rest = omega (arith, rest (seen ++ n.text ∷ []) h (one_more seen n.text t e few), occurs-append t seen (n.text ∷ []))

pub at_most_once : (ns : List Name) → repeated [] ns ≡ [] → (t : List ℕ) → occurs t (texts ns) ≤ 1
at_most_once ns none t = omega (arith, once_each [] ns t none (omega arith))
