-- A text ends at the last quote that can end it.
use Rattle.std.proofs.Common.{◌≡◌, ℕ, List, [], ◌∷◌, Bool, true, false, cond, refl, sym, ap, ◌∙◌}
use Rattle.std.specs.Prelude.{Option, Some, None, ◌==◌}
use Rattle.std.specs.Option.{option_and_then, option_or}
use Rattle.opa_words.specs.Characters.{is_control}
use Rattle.opa_words.specs.Scan.{one, inside, past_quote}

or_none : (o : Option (List ℕ)) → option_or o None ≡ o
or_none None = refl
or_none (Some x) = refl

or_some : (o e : Option (List ℕ)) (x : List ℕ) → option_or (option_or o (Some x)) e ≡ option_or o (Some x)
or_some None e x = refl
or_some (Some y) e x = refl

pub inside_start : (cs : List ℕ) → option_or (inside false cs) None ≡ inside false cs
inside_start cs = or_none (inside false cs)

at_quote : (cs : List ℕ) → inside false cs ≡ option_and_then (inside true) (past_quote cs)
at_quote [] = refl
at_quote (c ∷ cs) = go (c == 34) (is_control c) (at_quote cs)
  where
    go : (b d : Bool) → inside false cs ≡ option_and_then (inside true) (past_quote cs)
        → cond b (inside true cs) (cond d None (inside false cs)) ≡ option_and_then (inside true) (cond b (Some cs) (cond d None (past_quote cs)))
    go true d h = refl
    go false true h = refl
    go false false h = h

at_end : (after : List ℕ) → one (λ c. c == 34) after ≡ None → inside true after ≡ Some after
at_end [] h = refl
at_end (c ∷ cs) h = go (c == 34) h
  where
    go : (b : Bool) → cond b (Some cs) None ≡ None → cond b (option_or (inside false cs) (Some (c ∷ cs))) (Some (c ∷ cs)) ≡ Some (c ∷ cs)
    go true k = absurd (cc k)
    go false k = refl

at_pair : (after next : List ℕ) → one (λ c. c == 34) after ≡ Some next → inside true after ≡ option_or (inside false next) (Some after)
at_pair [] next h = absurd (cc h)
at_pair (c ∷ cs) next h = go (c == 34) h
  where
    go : (b : Bool) → cond b (Some cs) None ≡ Some next → cond b (option_or (inside false cs) (Some (c ∷ cs))) (Some (c ∷ cs)) ≡ option_or (inside false next) (Some (c ∷ cs))
    go true k = ap (λ x. option_or (inside false x) (Some (c ∷ cs))) (let e : cs ≡ next = cc k in e)
    go false k = absurd (cc k)

pub inside_stops : (cs : List ℕ) (e all : Option (List ℕ)) → None ≡ past_quote cs → option_or (inside false cs) e ≡ all → e ≡ all
inside_stops cs e all p h = ap (λ o. option_or (option_and_then (inside true) o) e) p ∙ ap (λ o. option_or o e) (sym (at_quote cs)) ∙ h

pub inside_ends : (cs after : List ℕ) (e all : Option (List ℕ)) → Some after ≡ past_quote cs → None ≡ one (λ c. c == 34) after → option_or (inside false cs) e ≡ all → Some after ≡ all
inside_ends cs after e all p q h =
    ap (λ o. option_or o e) (sym (at_end after (sym q)) ∙ ap (option_and_then (inside true)) p ∙ sym (at_quote cs)) ∙ h

pub inside_goes : (cs after next : List ℕ) (e all : Option (List ℕ)) → Some after ≡ past_quote cs → Some next ≡ one (λ c. c == 34) after → option_or (inside false cs) e ≡ all → option_or (inside false next) (Some after) ≡ all
inside_goes cs after next e all p q h =
    sym (or_some (inside false next) e after) ∙ ap (λ o. option_or o e) (sym (at_pair after next (sym q)) ∙ ap (option_and_then (inside true)) p ∙ sym (at_quote cs)) ∙ h

pub ruleset laws = (inside_start, inside_stops, inside_ends, inside_goes)
