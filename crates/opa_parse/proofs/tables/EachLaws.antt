-- What is said of each of many.
use Rattle.std.proofs.Common.{◌≡◌, List, [], ◌∷◌, ◌++◌, length, refl, sym, ap, ap₂, subst, ◌∙◌, append_assoc, arith}
use Rattle.std.proofs.lemmas.List.{append-nil}
use Rattle.opa_parse.specs.Tables.Tables.{Each}

module _ {A B : Type 0} (R : A → B → Type 0) where
  pub each_last : (xs : List A) (ys : List B) (x : A) (y : B) → Each R xs ys → R x y → Each R (xs ++ x ∷ []) (ys ++ y ∷ [])
  each_last [] [] x y h k = (k, tt)
  each_last [] (z ∷ ys) x y h k = absurd h
  each_last (w ∷ xs) [] x y h k = absurd h
  each_last (w ∷ xs) (z ∷ ys) x y h k = (h.0, each_last xs ys x y h.1 k)

  pub each_at : (xs : List A) (x : A) (more : List A) (ys : List B) → Each R (xs ++ x ∷ more) ys → (y : B) × R x y
  each_at [] x more [] h = absurd h
  each_at [] x more (y ∷ ys) h = (y, h.0)
  each_at (w ∷ xs) x more [] h = absurd h
  each_at (w ∷ xs) x more (y ∷ ys) h = each_at xs x more ys h.1

  pub each_length : (xs : List A) (ys : List B) → Each R xs ys → length xs ≡ length ys
  each_length [] [] h = refl
  each_length [] (y ∷ ys) h = absurd h
  each_length (x ∷ xs) [] h = absurd h
  each_length (x ∷ xs) (y ∷ ys) h = omega (arith, each_length xs ys h.1)

  -- one thing at most is said of each
  abbrev pub One : Type 0
  One = (x : A) (y z : B) → R x y → R x z → y ≡ z

  -- what is said of the first ones stands first
  pub each_front : One → (xs more : List A) (ys zs : List B) → Each R xs ys → Each R (xs ++ more) zs → (rest : List B) × (zs ≡ ys ++ rest) × Each R more rest
  each_front one [] more [] zs h k = (zs, refl, k)
  each_front one [] more (y ∷ ys) zs h k = absurd h
  each_front one (x ∷ xs) more [] zs h k = absurd h
  each_front one (x ∷ xs) more (y ∷ ys) [] h k = absurd k
  each_front one (x ∷ xs) more (y ∷ ys) (z ∷ zs) h k =
      let f = each_front one xs more ys zs h.1 k.1 in
      (f.0, ap₂ (λ (v : B) vs. v ∷ vs) (one x z y k.0 h.0) f.1, f.2)

  pub each_same : One → (xs : List A) (ys zs : List B) → Each R xs ys → Each R xs zs → ys ≡ zs
  each_same one [] [] [] h k = refl
  each_same one [] [] (z ∷ zs) h k = absurd k
  each_same one [] (y ∷ ys) zs h k = absurd h
  each_same one (x ∷ xs) [] zs h k = absurd h
  each_same one (x ∷ xs) (y ∷ ys) [] h k = absurd k
  each_same one (x ∷ xs) (y ∷ ys) (z ∷ zs) h k = ap₂ (λ (v : B) vs. v ∷ vs) (one x y z h.0 k.0) (each_same one xs ys zs h.1 k.1)

  -- these are said of the first ones, and the rest is still to be read
  pub record IsRead (all rest : List A) (ys : List B) : Type 0 where
    pub before : List A
    pub split : all ≡ before ++ rest
    pub say : Each R before ys

  pub read_start : (all : List A) (ys : List B) → ys ≡ [] → IsRead all all ys
  read_start all ys e = record { before = []; split = refl; say = subst (Each R []) (sym e) tt }

  pub read_more : (all rest later : List A) (x : A) (ys zs : List B) (y : B) → rest ≡ x ∷ later → IsRead all rest ys → R x y → zs ≡ ys ++ y ∷ [] → IsRead all later zs
  read_more all rest later x ys zs y e h k f = record {
    before = h.before ++ x ∷ [];
    split = h.split ∙ ap (λ r. h.before ++ r) e ∙ sym (append_assoc h.before (x ∷ []) later);
    say = subst (Each R (h.before ++ x ∷ [])) (sym f) (each_last h.before ys x y h.say k);
  }

  pub read_none : (all rest later : List A) (x : A) (ys : List B) → rest ≡ x ∷ later → IsRead all rest ys → ((y : B) → R x y → ⊥) → (zs : List B) → Each R all zs → ⊥
  read_none all rest later x ys e h none zs k =
      let f = each_at h.before x later zs (subst (λ a. Each R a zs) (h.split ∙ ap (λ r. h.before ++ r) e) k) in
      none f.0 f.1

  pub read_end : (all rest : List A) (ys : List B) → rest ≡ [] → IsRead all rest ys → Each R all ys
  read_end all rest ys e h = subst (λ a. Each R a ys) (sym (h.split ∙ ap (λ r. h.before ++ r) e ∙ append-nil h.before)) h.say
