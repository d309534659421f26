-- A digest goes on from phrase to phrase.
use Rattle.std.proofs.Common.{◌≡◌, ◌<◌, ◌+◌, ◌*◌, ◌%◌, ℕ, List, [], ◌∷◌, ◌++◌, length, map, take, refl, sym, ap, ◌∙◌, arith, append-nil, append_assoc}
use Rattle.std.specs.Prelude.{flat_map, slice_get, Some}
use Rattle.std.proofs.lemmas.List.{take_more, length-map, get_or-map}
use Rattle.std.proofs.lemmas.Option.{slice_get_within, get_or_from_slice_get}
use Rattle.opa_saved.specs.Digests.{digest_on, phrase_line, digest, attributes_digest, relations_digest}
use Rattle.opa_model.specs.declared.lists.Lists.{Lists}
use Rattle.opa_model.specs.Lookups.{attribute_phrases, relation_phrases}

pub digest_append : (d : ℕ) (xs ys : List ℕ) → digest_on d (xs ++ ys) ≡ digest_on (digest_on d xs) ys
digest_append d [] ys = refl
digest_append d (x ∷ xs) ys = digest_append ((31 * d + x) % 4294967296) xs ys

pub digest_line : (d : ℕ) (p : List ℕ) → digest_on (digest_on d p) (10 ∷ []) ≡ digest_on d (phrase_line p)
digest_line d p = sym (digest_append d p (10 ∷ []))

pub digest_parts : (m : Lists) → relations_digest (attributes_digest m) m ≡ digest m
unfolding digest
digest_parts m = sym (digest_append 0 (flat_map phrase_line (attribute_phrases m)) (flat_map phrase_line (relation_phrases m)))

flat_last : (ps : List (List ℕ)) (p : List ℕ) → flat_map phrase_line (ps ++ p ∷ []) ≡ flat_map phrase_line ps ++ phrase_line p
flat_last [] p = append-nil (phrase_line p)
flat_last (q ∷ ps) p = ap (λ xs. phrase_line q ++ xs) (flat_last ps p) ∙ sym (append_assoc (phrase_line q) (flat_map phrase_line ps) (phrase_line p))

-- one more phrase
pub digest_next : (d : ℕ) (ps qs : List (List ℕ)) (p : List ℕ) (old new : ℕ) → qs ≡ ps ++ p ∷ [] → old ≡ digest_on d (flat_map phrase_line ps) → new ≡ digest_on old (phrase_line p) → new ≡ digest_on d (flat_map phrase_line qs)
digest_next d ps qs p old new e f g =
    g ∙ ap (λ x. digest_on x (phrase_line p)) f ∙ sym (digest_append d (flat_map phrase_line ps) (phrase_line p)) ∙ ap (digest_on d) (sym (flat_last ps p)) ∙ ap (λ x. digest_on d (flat_map phrase_line x)) (sym e)

-- the phrases up to the next one
pub phrases_next : {X : Type 0} (f : X → List ℕ) (xs : List X) (n : ℕ) (x : X) → slice_get xs n ≡ Some x → take (n + 1) (map f xs) ≡ take n (map f xs) ++ f x ∷ []
phrases_next f xs n x e =
    let within : n < length xs = slice_get_within xs n x e in
    take_more (map f xs) n (f x) (omega (arith, length-map xs f, within)) ∙ ap (λ y. take n (map f xs) ++ y ∷ []) (get_or-map f xs n x (f x) within ∙ ap f (get_or_from_slice_get xs n x x e))
