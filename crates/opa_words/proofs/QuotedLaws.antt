-- What stands between quotes.
use Rattle.std.proofs.Common.{◌≡◌, ◌≢◌, ℕ, List, [], ◌∷◌, ◌++◌, Bool, true, false, cond, refl, sym, ap, ◌∙◌, arith, append_assoc, append-nil}
use Rattle.std.specs.Prelude.{◌==◌}
use Rattle.std.specs.List.{list_any}
use Rattle.opa_io.proofs.Bools.{neither_first, neither_second}
use Rattle.opa_words.specs.Kinds.{doubled, quoted}
use Rattle.opa_words.specs.Quotes.{SplitsAtQuote, HasNoQuote, IsQuoted}
use Rattle.opa_words.specs.Quoted.{inside, after_quote, unquoted, ReadsQuoted}
use Rattle.opa_words.proofs.QuoteLaws.{not_quote}

inside_front : (front later : List ℕ) → HasNoQuote front → inside false (front ++ later) ≡ front ++ inside false later
inside_front [] later h = refl
inside_front (f ∷ front) later h =
    ap (λ t. cond t (inside true (front ++ later)) (f ∷ inside false (front ++ later))) (neither_first (f == 34) (list_any (λ x. x == 34) front) h)
    ∙ ap (λ cs. f ∷ cs) (inside_front front later (neither_second (f == 34) (list_any (λ x. x == 34) front) h))

-- up to a quote and behind it
pub inside_goes : (out rest front later all mid : List ℕ) → out ++ inside false rest ≡ all → SplitsAtQuote rest front later → mid ≡ out ++ front → mid ++ inside true later ≡ all
inside_goes out rest front later all mid h s m =
    ap (λ x. x ++ inside true later) m ∙ append_assoc out front (inside true later) ∙ ap (λ x. out ++ x) (sym (ap (inside false) s.0 ∙ inside_front front (34 ∷ later) s.1)) ∙ h

-- behind a second quote
pub inside_again : (later more all mid out2 : List ℕ) → mid ++ inside true later ≡ all → later ≡ 34 ∷ more → out2 ≡ mid ++ 34 ∷ [] → out2 ++ inside false more ≡ all
inside_again later more all mid out2 h is n =
    ap (λ x. x ++ inside false more) n ∙ append_assoc mid (34 ∷ []) (inside false more) ∙ ap (λ x. mid ++ x) (sym (ap (inside true) is)) ∙ h

-- where no second quote follows
pub inside_stops : (later all mid : List ℕ) → mid ++ inside true later ≡ all → inside true later ≡ [] → mid ≡ all
inside_stops later all mid h is = sym (ap (λ x. mid ++ x) is ∙ append-nil mid) ∙ h

-- where no quote is left
pub inside_ends : (out rest all out2 : List ℕ) → out ++ inside false rest ≡ all → HasNoQuote rest → out2 ≡ out ++ rest → out2 ≡ all
inside_ends out rest all out2 h s n = n ∙ ap (λ x. out ++ x) (sym (ap (inside false) (sym (append-nil rest)) ∙ inside_front rest [] s ∙ append-nil rest)) ∙ h

pub no_second : (cs : List ℕ) → ((d : List ℕ) → cs ≢ 34 ∷ d) → inside true cs ≡ []
no_second [] h = refl
no_second (c ∷ cs) h = ap (λ t. cond t (34 ∷ inside false cs) []) (not_quote c (λ e. h cs (ap (λ x. x ∷ cs) e)))

pub no_first : (cs : List ℕ) → ((d : List ℕ) → cs ≢ 34 ∷ d) → after_quote cs ≡ cs
no_first [] h = refl
no_first (c ∷ cs) h = ap (λ t. cond t cs (c ∷ cs)) (not_quote c (λ e. h cs (ap (λ x. x ∷ cs) e)))

inside_doubled : (cs : List ℕ) → inside false (doubled cs ++ 34 ∷ []) ≡ cs
inside_doubled [] = refl
inside_doubled (c ∷ cs) = go (c == 34) refl (inside_doubled cs)
  where
    go : (t : Bool) → (c == 34) ≡ t → inside false (doubled cs ++ 34 ∷ []) ≡ cs → inside false (cond t (34 ∷ 34 ∷ doubled cs) (c ∷ doubled cs) ++ 34 ∷ []) ≡ c ∷ cs
    go true e h = ap (λ x. 34 ∷ x) h ∙ ap (λ x. x ∷ cs) (let f : 34 ≡ c = grind (arith, e) in f)
    go false e h = ap (λ t. cond t (inside true (doubled cs ++ 34 ∷ [])) (c ∷ inside false (doubled cs ++ 34 ∷ []))) e ∙ ap (λ x. c ∷ x) h

pub reads_quoted_holds : ReadsQuoted
reads_quoted_holds text = inside_doubled text

-- a text that is written so between quotes
pub unquoted_is : (t token : List ℕ) → quoted t ≡ token → t ≡ unquoted token
unquoted_is t token h = sym (reads_quoted_holds t) ∙ ap unquoted h

-- what is read of a text between quotes is that text
pub quoted_again : (t token : List ℕ) → IsQuoted token → t ≡ unquoted token → quoted t ≡ token
quoted_again t token q e = ap quoted (e ∙ ap unquoted q.1 ∙ reads_quoted_holds q.0) ∙ sym q.1
