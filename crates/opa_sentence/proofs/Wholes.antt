-- What is read of a front as what is spelled as a whole.
use Rattle.std.proofs.Common.{◌≡◌, ℕ, List, [], ◌∷◌, length, true, false, refl, sym, ◌∙◌, subst, arith}
use Rattle.std.specs.Prelude.{Some, None, ◌==◌}
use Rattle.opa_words.specs.declared.kinds.Token.{Token}
use Rattle.opa_sentence.specs.declared.names.Names.{Names}
use Rattle.opa_sentence.specs.declared.reading.Reading.{Reading}
use Rattle.opa_sentence.specs.Lexemes.{Lexeme, lexemes}
use Rattle.opa_sentence.specs.Measures.{unbounded, bounded}
use Rattle.opa_sentence.specs.Bounding.{bound}
use Rattle.opa_sentence.specs.Table.{production, resume}
use Rattle.opa_sentence.specs.Spelled.{Reads, IsReadAs}
use Rattle.opa_sentence.specs.Spelling.{IsSpelling}
use Rattle.opa_sentence.specs.Grammar.{Part, Spells}
use Rattle.opa_sentence.specs.Laws.{sort_of}
use Rattle.opa_sentence.proofs.Machine.{only}
use Rattle.opa_sentence.proofs.Meant.{is_grammatical_holds}
use Rattle.opa_sentence.proofs.SpelledIsRead.{is_read_holds}
use Rattle.opa_sentence.proofs.Bounded.{bounds, whole}

module _ (ns : Names) (p : Part) (ts : List Lexeme) where
  read_of : (x : Reading) → Spells unbounded ns p ts x [] → Reads bounded ns (sort_of p) ts (bound x) []
  read_of x d = is_read_holds bounded ns p ts (bound x) (bounds ns d)

  pub none_whole : IsReadAs ns (sort_of p) ts None → IsSpelling ns p ts None
  none_whole h x d = h (bound x) [] (read_of x d)

  pub some_whole : (r : Reading) (rest : List Lexeme) → IsReadAs ns (sort_of p) ts (Some (r, rest)) → rest ≡ [] → IsSpelling ns p ts (Some r)
  some_whole r rest h empty = whole ns (subst (Spells _ ns p ts r) empty (is_grammatical_holds bounded ns p ts r rest h))

  pub more_whole : (r : Reading) (rest : List Lexeme) → IsReadAs ns (sort_of p) ts (Some (r, rest)) → (rest ≡ [] → ⊥) → IsSpelling ns p ts None
  more_whole r rest h left x d = left ((only (production bounded ns) (resume bounded) h (bound x) [] (read_of x d)).1)

pub none_left : (bytes : List ℕ) (ts : List Token) → (length ts == 0) ≡ true → lexemes bytes ts ≡ []
none_left bytes [] e = refl
none_left bytes (t ∷ ts) e = absurd (let q : length (t ∷ ts) == 0 ≡ false = grind arith in let f : true ≡ false = sym e ∙ q in cc f)

pub some_left : (bytes : List ℕ) (ts : List Token) → (length ts == 0) ≡ false → lexemes bytes ts ≡ [] → ⊥
some_left bytes [] e h = let q : true ≡ false = e in absurd (cc q)
some_left bytes (t ∷ ts) e h = absurd (cc h)
