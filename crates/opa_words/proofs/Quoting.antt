-- A text between quotes, in bytes as in characters.
use Rattle.std.proofs.Common.{◌≡◌, ℕ, List, [], ◌∷◌, ◌++◌, Bool, true, false, cond, refl, sym, ap, ◌∙◌}
use Rattle.std.specs.Prelude.{◌==◌}
use Rattle.std.specs.Str.{chars}
use lib.Utf8.{scalar, scalars, encode, encodes}
use Rattle.std.proofs.lemmas.Str.{encodes-chars, encodes-append, chars-encodes, scalars-chars}
use Rattle.std.proofs.lemmas.Bool.{and_from}
use Rattle.opa_io.proofs.Bools.{and_first, and_second}
use Rattle.opa_words.specs.Kinds.{doubled, quoted}
use Rattle.opa_words.proofs.QuoteLaws.{encodes_doubled}
use Rattle.opa_words.specs.PieceLaws.{QuotedIsToken}

-- characters that have a code, between quotes
scalars_quoted : (cs : List ℕ) → scalars cs ≡ true → scalars (doubled cs ++ 34 ∷ []) ≡ true
scalars_quoted [] h = refl
scalars_quoted (c ∷ cs) h = go (c == 34) (scalars_quoted cs (and_second (scalar c) (scalars cs) h))
  where
    go : (t : Bool) → scalars (doubled cs ++ 34 ∷ []) ≡ true → scalars (cond t (34 ∷ 34 ∷ doubled cs) (c ∷ doubled cs) ++ 34 ∷ []) ≡ true
    go true k = k
    go false k = and_from (scalar c) (scalars (doubled cs ++ 34 ∷ [])) (and_first (scalar c) (scalars cs) h) k

pub encodes_quoted : (cs : List ℕ) → encodes (quoted cs) ≡ quoted (encodes cs)
unfolding encode
encodes_quoted cs = ap (λ x. 34 ∷ x) (encodes-append (doubled cs) (34 ∷ []) ∙ ap (λ x. x ++ 34 ∷ []) (encodes_doubled cs))

pub quoted_is_token_holds : QuotedIsToken
quoted_is_token_holds inner u n =
    let same : encodes (quoted (chars inner)) ≡ quoted inner = encodes_quoted (chars inner) ∙ ap quoted (encodes-chars inner u) in
    let coded : scalars (quoted (chars inner)) ≡ true = scalars_quoted (chars inner) (scalars-chars inner u) in
    record {
      utf8 = (quoted (chars inner), (coded, same));
      token = (chars inner, n, ap chars (sym same) ∙ chars-encodes (quoted (chars inner)) coded);
    }
