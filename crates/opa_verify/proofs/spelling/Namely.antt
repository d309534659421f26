-- Names, one after another.
use Rattle.std.proofs.Common.{◌≡◌, ◌⊎◌, inl, inr, ℕ, ◌<◌, List, [], ◌∷◌, ◌++◌, length, true, false, Decides, refl, sym, subst, ap, ◌∙◌, arith}
use Rattle.std.specs.Prelude.{Option, Some, None, codes}
use Rattle.std.specs.List.{AllByRecursion}
use Rattle.std.specs.Str.{IsUtf8}
use Rattle.std.proofs.lemmas.Str.{IsUtf8-append}
use Rattle.opa_words.specs.Kinds.{quoted}
use Rattle.opa_words.proofs.Ascii.{ascii_utf8}
use Rattle.opa_words.proofs.LawsHold.{one_cutting_holds}
use Rattle.opa_text.specs.Laws.{CanBeQuoted}
use Rattle.opa_text.specs.Points.{known_names, more_names, names_text}
use Rattle.opa_text.specs.Spelled.{IsNamesOf, SpellsNames}
use Rattle.opa_text.proofs.NameLaws.{names_one}
use Rattle.opa_text.proofs.ReadBack.{names_read_back_holds}
use Rattle.opa_verify.specs.Spelling.Spelling.{IsName, AreNames}
use Rattle.opa_verify.proofs.spelling.Spotted.{quoted_utf8}

-- ---- all are names

-- where the names that are left are names, all are, and else not
abbrev pub AreLeft : List (List ℕ) → List (List ℕ) → Type 0
AreLeft all rest = (AllByRecursion IsName rest → AllByRecursion IsName all) × (AllByRecursion IsName all → AllByRecursion IsName rest)

pub names_start : (all : List (List ℕ)) → AreLeft all all
names_start all = (λ h. h, λ h. h)

pub names_more : (all rest later : List (List ℕ)) (n : List ℕ) → AreLeft all rest → rest ≡ n ∷ later → IsName n → AreLeft all later
names_more all rest later n h r is = (
  λ more. h.0 (subst (λ xs. AllByRecursion IsName xs) (sym r) (is, more)),
  λ all_are. (subst (λ xs. AllByRecursion IsName xs) r (h.1 all_are)).1,
)

pub names_done : (all rest : List (List ℕ)) → AreLeft all rest → rest ≡ [] → Decides true (AllByRecursion IsName all)
names_done all rest h r = (λ _. h.0 (subst (λ xs. AllByRecursion IsName xs) (sym r) tt), λ _. refl)

pub names_fail : (all rest later : List (List ℕ)) (n : List ℕ) → AreLeft all rest → rest ≡ n ∷ later → (IsName n → ⊥) → Decides false (AllByRecursion IsName all)
names_fail all rest later n h r isnt = (λ e. absurd (cc e), λ are. absurd (isnt (subst (λ xs. AllByRecursion IsName xs) r (h.1 are)).0))

pub name_empty : (t : List ℕ) → length t ≡ 0 → Decides false (IsName t)
name_empty t e = (λ f. absurd (cc f), λ is. absurd (omega (arith, is.0, e)))

-- ---- names that are read

quotable : (ns : List (List ℕ)) → AllByRecursion IsName ns → AllByRecursion CanBeQuoted ns
quotable [] h = tt
quotable (n ∷ ns) h = (h.0.1, quotable ns h.1)

names_say : (text : List ℕ) (ns : List (List ℕ)) → AllByRecursion IsName ns → known_names ns ≡ text → IsNamesOf text ns
names_say text ns h e = subst (λ t. IsNamesOf t ns) e (names_read_back_holds ns (quotable ns h))

pub no_names : (text : List ℕ) → ((ns : List (List ℕ)) → IsNamesOf text ns → ⊥) → (ns : List (List ℕ)) → AllByRecursion IsName ns → known_names ns ≡ text → ⊥
no_names text none ns h e = none ns (names_say text ns h e)

pub only_names : (text : List ℕ) (found : List (List ℕ)) → IsNamesOf text found → (ns : List (List ℕ)) → AllByRecursion IsName ns → known_names ns ≡ text → ns ≡ found
only_names text found are ns h e =
    let own = names_say text ns h e in
    names_one ns found own.0 own.2 (subst (SpellsNames found) (sym (one_cutting_holds text own.0 are.0 own.1 are.1)) are.2)

pub names_arent : (text : List ℕ) (found : List (List ℕ)) → ((ns : List (List ℕ)) → AllByRecursion IsName ns → known_names ns ≡ text → ns ≡ found) → (AllByRecursion IsName found → ⊥)
    → (ns : List (List ℕ)) → AllByRecursion IsName ns → known_names ns ≡ text → ⊥
names_arent text found only bad ns h e = bad (subst (λ xs. AllByRecursion IsName xs) (only ns h e) h)

pub names_differ : (text : List ℕ) (found : List (List ℕ)) → ((ns : List (List ℕ)) → AllByRecursion IsName ns → known_names ns ≡ text → ns ≡ found) → (known_names found ≡ text → ⊥)
    → (ns : List (List ℕ)) → AllByRecursion IsName ns → known_names ns ≡ text → ⊥
names_differ text found only bad ns h e = bad (ap known_names (sym (only ns h e)) ∙ e)

-- ---- lists that may be unknown

pub no_list : (text : List ℕ) → (text ≡ codes "unknown" → ⊥) → ((ns : List (List ℕ)) → AllByRecursion IsName ns → known_names ns ≡ text → ⊥) → (o : Option (List (List ℕ))) → AreNames o → names_text o ≡ text → ⊥
no_list text u none None is e = u (sym e)
no_list text u none (Some ns) is e = none ns is e

more_utf8 : (ns : List (List ℕ)) → AllByRecursion IsName ns → IsUtf8 (more_names ns)
more_utf8 [] h = ascii_utf8 [] refl
more_utf8 (n ∷ ns) h = IsUtf8-append (codes ", ") (quoted n ++ more_names ns) (ascii_utf8 (codes ", ") refl) (IsUtf8-append (quoted n) (more_names ns) (quoted_utf8 n h.0.1) (more_utf8 ns h.1))

names_utf8 : (o : Option (List (List ℕ))) → AreNames o → IsUtf8 (names_text o)
names_utf8 None h = ascii_utf8 (codes "unknown") refl
names_utf8 (Some []) h = ascii_utf8 (codes "none") refl
names_utf8 (Some (n ∷ ns)) h = IsUtf8-append (quoted n) (more_names ns) (quoted_utf8 n h.0.1) (more_utf8 ns h.1)

pub unread_list : (text : List ℕ) → (IsUtf8 text → ⊥) → (o : Option (List (List ℕ))) → AreNames o → names_text o ≡ text → ⊥
unread_list text n o is e = n (subst IsUtf8 e (names_utf8 o is))

-- ---- lists with one text

pub apart : (a b : ℕ) → (b < a) ⊎ (a < b) → a ≡ b → ⊥
apart a b (inl h) e = absurd (omega (arith, h, e))
apart a b (inr h) e = absurd (omega (arith, h, e))

unknown_isnt : (ns : List (List ℕ)) → codes "unknown" ≡ known_names ns → ⊥
unknown_isnt [] e = apart 117 110 (inl (omega arith)) (cc e)
unknown_isnt (n ∷ ns) e = apart 117 34 (inl (omega arith)) (cc e)

pub one_names : (o p : Option (List (List ℕ))) → AreNames o → AreNames p → names_text o ≡ names_text p → o ≡ p
one_names None None is can e = refl
one_names None (Some ms) is can e = absurd (unknown_isnt ms e)
one_names (Some ns) None is can e = absurd (unknown_isnt ns (sym e))
one_names (Some ns) (Some ms) is can e = ap Some (only_names (known_names ms) ms (names_say (known_names ms) ms can refl) ns is e)
