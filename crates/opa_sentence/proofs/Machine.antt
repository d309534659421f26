-- Reading by a table: at most one result, and with a stack of frames.
use Rattle.std.proofs.Common.{◌≡◌, ◌↔◌, List, [], ◌∷◌, ◌++◌, refl, sym, subst, ◌∙◌}
use Rattle.std.specs.Prelude.{reverse}
use Rattle.std.proofs.lemmas.List.{reverse-append}
use Rattle.opa_sentence.specs.Moves.{Move, fail, done, next, call, Reads, stops, moves, goes}

pub reversed : {F : Type 0} (ks : List F) (k : F) → reverse (ks ++ k ∷ []) ≡ k ∷ reverse ks
reversed ks k = reverse-append ks (k ∷ [])

module _ {S T F R : Type 0} (production : S → List T → Move S T F R) (resume : F → R → S) where
  abbrev Read : S → List T → R → List T → Type 0
  Read = Reads production resume

  -- ---- at most one result

  abbrev pub Only : S → List T → R → List T → Type 0
  Only s ts e rest = (f : R) (left : List T) → Read s ts f left → (e ≡ f) × (rest ≡ left)

  stop : {s : S} {ts : List T} (e : R) (rest : List T) (f : R) (left : List T) → production s ts ≡ done e rest → Read s ts f left → (e ≡ f) × (rest ≡ left)
  stop e rest f left p (stops q) = (cc (p, q), cc (p, q))
  stop e rest f left p (moves s' ts' q a) = let e : done e rest ≡ next s' ts' = sym p ∙ q in absurd (cc e)
  stop e rest f left p (goes part k mid x after q a b) = let e : done e rest ≡ call part k mid = sym p ∙ q in absurd (cc e)

  move : {s : S} {ts : List T} (e : R) (rest : List T) (s' : S) (ts' : List T) (f : R) (left : List T) → production s ts ≡ next s' ts' → Only s' ts' e rest → Read s ts f left → (e ≡ f) × (rest ≡ left)
  move e rest s' ts' f left p one (stops q) = let e : done f left ≡ next s' ts' = sym q ∙ p in absurd (cc e)
  move e rest s' ts' f left p one (moves r us q a) =
      let same : next s' ts' ≡ next r us = sym p ∙ q in
      one f left (subst (λ u. Read s' u f left) (let t : us ≡ ts' = cc same in t) (subst (λ x. Read x us f left) (let t : r ≡ s' = cc same in t) a))
  move e rest s' ts' f left p one (goes part k mid x after q a b) = let e : next s' ts' ≡ call part k mid = sym p ∙ q in absurd (cc e)

  go : {s : S} {ts : List T} (e : R) (rest : List T) (part : S) (k : F) (mid : List T) (x : R) (after : List T) (f : R) (left : List T)
      → production s ts ≡ call part k mid → Only part mid x after → Only (resume k x) after e rest → Read s ts f left → (e ≡ f) × (rest ≡ left)
  go e rest part k mid x after f left p one two (stops q) = let e : done f left ≡ call part k mid = sym q ∙ p in absurd (cc e)
  go e rest part k mid x after f left p one two (moves s' ts' q a) = let e : next s' ts' ≡ call part k mid = sym q ∙ p in absurd (cc e)
  go e rest part k mid x after f left p one two (goes part' k' mid' x' after' q a b) =
      let same : call part k mid ≡ call part' k' mid' = sym p ∙ q in
      let a' : Read part mid x' after' = subst (λ m. Read part m x' after') (let t : mid' ≡ mid = cc same in t) (subst (λ r. Read r mid' x' after') (let t : part' ≡ part = cc same in t) a) in
      let eq = one x' after' a' in
      two f left (subst (λ u. Read (resume k x) u f left) (sym eq.1) (subst (λ y. Read (resume k y) after' f left) (sym eq.0) (subst (λ j. Read (resume j x') after' f left) (let t : k' ≡ k = cc same in t) b)))

  pub only : {s : S} {ts : List T} {e : R} {rest : List T} → Read s ts e rest → Only s ts e rest
  only {e = e} {rest = rest} (stops p) = λ f left r. stop e rest f left p r
  only {e = e} {rest = rest} (moves s' ts' p a) = λ f left r. move e rest s' ts' f left p (only a) r
  only {e = e} {rest = rest} (goes part k mid x after p a b) = λ f left r. go e rest part k mid x after f left p (only a) (only b) r

  -- ---- what a move says of what is read

  at_fail : {s : S} {ts : List T} {e : R} {rest : List T} → production s ts ≡ fail → Read s ts e rest → ⊥
  at_fail {e = e} {rest = rest} p (stops q) = let c : fail ≡ done e rest = sym p ∙ q in cc c
  at_fail p (moves s' ts' q a) = let c : fail ≡ next s' ts' = sym p ∙ q in cc c
  at_fail p (goes part k mid x after q a b) = let c : fail ≡ call part k mid = sym p ∙ q in cc c

  at_done : {s : S} {ts : List T} {e : R} {rest : List T} (f : R) (left : List T) → production s ts ≡ done f left → Read s ts e rest → (f ≡ e) × (left ≡ rest)
  at_done {e = e} {rest = rest} f left p r = stop f left e rest p r

  at_next : {s : S} {ts : List T} {e : R} {rest : List T} (s' : S) (ts' : List T) → production s ts ≡ next s' ts' → Read s ts e rest → Read s' ts' e rest
  at_next {e = e} {rest = rest} s' ts' p (stops q) = let c : done e rest ≡ next s' ts' = sym q ∙ p in absurd (cc c)
  at_next {e = e} {rest = rest} s' ts' p (moves r us q a) =
      let same : next r us ≡ next s' ts' = sym q ∙ p in
      subst (λ u. Read s' u e rest) (let t : us ≡ ts' = cc same in t) (subst (λ x. Read x us e rest) (let t : r ≡ s' = cc same in t) a)
  at_next s' ts' p (goes part k mid x after q a b) = let c : call part k mid ≡ next s' ts' = sym q ∙ p in absurd (cc c)

  at_call : {s : S} {ts : List T} {e : R} {rest : List T} (part : S) (k : F) (mid : List T) → production s ts ≡ call part k mid → Read s ts e rest
      → (x : R) × (after : List T) × Read part mid x after × Read (resume k x) after e rest
  at_call {e = e} {rest = rest} part k mid p (stops q) = let c : done e rest ≡ call part k mid = sym q ∙ p in absurd (cc c)
  at_call part k mid p (moves s' ts' q a) = let c : next s' ts' ≡ call part k mid = sym q ∙ p in absurd (cc c)
  at_call {e = e} {rest = rest} part k mid p (goes part' k' mid' x after q a b) =
      let same : call part' k' mid' ≡ call part k mid = sym q ∙ p in
      (x, after, subst (λ m. Read part m x after) (let t : mid' ≡ mid = cc same in t) (subst (λ r. Read r mid' x after) (let t : part' ≡ part = cc same in t) a), subst (λ j. Read (resume j x) after e rest) (let t : k' ≡ k = cc same in t) b)

  -- ---- a stack of frames

  -- from a result on, the frames end with e
  abbrev pub Finishes : List F → R → List T → R → List T → Type 0
  Finishes [] x after e rest = (x ≡ e) × (after ≡ rest)
  Finishes (k ∷ ks) x after e rest = (y : R) × (mid : List T) × Read (resume k x) after y mid × Finishes ks y mid e rest

  abbrev pub Runs : S → List T → List F → R → List T → Type 0
  Runs s ts ks e rest = (x : R) × (after : List T) × Read s ts x after × Finishes ks x after e rest

  -- what the loop keeps: what is left to do ends with e exactly where the tokens are read as e
  abbrev pub Keeps : S → List T → S → List T → List F → Type 0
  Keeps start all s ts ks = (e : R) (rest : List T) → Runs s ts ks e rest ↔ Read start all e rest

  pub keeps_start : (start : S) (all : List T) → Keeps start all start all []
  keeps_start start all e rest = (
    λ r. subst (λ u. Read start all e u) r.3.1 (subst (λ y. Read start all y r.1) r.3.0 r.2),
    λ r. (e, rest, r, (refl, refl)),
  )

  next_runs : {s : S} {ts : List T} (s' : S) (ts' : List T) (ks : List F) (e : R) (rest : List T) → production s ts ≡ next s' ts' → Runs s' ts' ks e rest ↔ Runs s ts ks e rest
  next_runs s' ts' ks e rest p = (
    λ r. (r.0, r.1, moves s' ts' p r.2, r.3),
    λ r. (r.0, r.1, at_next s' ts' p r.2, r.3),
  )

  -- a part is to be read first
  call_runs : {s : S} {ts : List T} (part : S) (k : F) (mid : List T) (ks : List F) (e : R) (rest : List T) → production s ts ≡ call part k mid → Runs part mid (k ∷ ks) e rest ↔ Runs s ts ks e rest
  call_runs part k mid ks e rest p = (
    λ r. (r.3.0, r.3.1, goes part k mid r.0 r.1 p r.2 r.3.2, r.3.3),
    λ r. let c = at_call part k mid p r.2 in (c.0, c.1, c.2, (r.0, r.1, c.3, r.3)),
  )

  -- the result goes to the innermost frame
  done_runs : {s : S} {ts : List T} (x : R) (after : List T) (k : F) (ks : List F) (e : R) (rest : List T) → production s ts ≡ done x after → Runs (resume k x) after ks e rest ↔ Runs s ts (k ∷ ks) e rest
  done_runs x after k ks e rest p = (
    λ r. (x, after, stops p, (r.0, r.1, r.2, r.3)),
    λ r. let d = at_done x after p r.2 in
        (r.3.0, r.3.1, subst (λ u. Read (resume k x) u r.3.0 r.3.1) (sym d.1) (subst (λ y. Read (resume k y) r.1 r.3.0 r.3.1) (sym d.0) r.3.2), r.3.3),
  )

  pub keeps_next : (start : S) (all : List T) (s : S) (ts : List T) (s' : S) (ts' : List T) (ks : List F) → production s ts ≡ next s' ts' → Keeps start all s ts ks → Keeps start all s' ts' ks
  keeps_next start all s ts s' ts' ks p keeps = λ e rest.
      let c = next_runs s' ts' ks e rest p in
      (λ r. (keeps e rest).0 (c.0 r), λ r. c.1 ((keeps e rest).1 r))

  pub keeps_call : (start : S) (all : List T) (s : S) (ts : List T) (part : S) (k : F) (mid : List T) (ks : List F) → production s ts ≡ call part k mid → Keeps start all s ts (reverse ks) → Keeps start all part mid (reverse (ks ++ k ∷ []))
  keeps_call start all s ts part k mid ks p keeps = subst (Keeps start all part mid) (sym (reversed ks k)) (λ e rest.
      let c = call_runs part k mid (reverse ks) e rest p in
      (λ r. (keeps e rest).0 (c.0 r), λ r. c.1 ((keeps e rest).1 r)))

  pub keeps_done : (start : S) (all : List T) (s : S) (ts : List T) (x : R) (after : List T) (k : F) (ks : List F) → production s ts ≡ done x after → Keeps start all s ts (reverse (ks ++ k ∷ [])) → Keeps start all (resume k x) after (reverse ks)
  keeps_done start all s ts x after k ks p given = λ e rest.
      let keeps : Keeps start all s ts (k ∷ reverse ks) = subst (Keeps start all s ts) (reversed ks k) given in
      let c = done_runs x after k (reverse ks) e rest p in
      (λ r. (keeps e rest).0 (c.0 r), λ r. c.1 ((keeps e rest).1 r))

  pub found : (start : S) (all : List T) (s : S) (ts : List T) (x : R) (after : List T) → production s ts ≡ done x after → Keeps start all s ts [] → Read start all x after
  found start all s ts x after p keeps = (keeps x after).0 (x, after, stops p, (refl, refl))

  pub none : (start : S) (all : List T) (s : S) (ts : List T) (ks : List F) → production s ts ≡ fail → Keeps start all s ts ks → (e : R) (rest : List T) → Read start all e rest → ⊥
  none start all s ts ks p keeps e rest r = at_fail p ((keeps e rest).1 r).2
