-- Brackets of a line without a partner in it.
use Rattle.std.specs.Prelude.{ℕ, ◌+◌, ◌-◌, ◌==◌, Bool, true, false, not, ◌&&◌, if◌then◌else◌, List, [], ◌∷◌, Option, Some, None}
use Rattle.std.specs.Option.{option_or}
use Rattle.std.specs.Str.{bytes_eq}
use Rattle.opa_words.specs.declared.kinds.Token.{Token}
use Rattle.opa_words.specs.Places.{token_text}
use Rattle.opa_rules.specs.declared.faults.slip.Slip.{Slip}
use Rattle.opa_rules.specs.declared.faults.slip.Slip.TheVariants as slip

abbrev pub is_sign : List ℕ → List ℕ → Token → Bool
is_sign text sign t = bytes_eq (token_text text t) sign

abbrev pub is_none : List Token → Bool
is_none [] = true
is_none (t ∷ ts) = false

-- where the first token begins, if there is one
abbrev pub found : Slip → List Token → Option (Slip × ℕ)
found s [] = None
found s (t ∷ ts) = Some (s, t.start)

module _ (text opening closing : List ℕ) where
  -- a bracket that closes none, where so many are open
  abbrev pub closes_none : ℕ → Token → Bool
  closes_none n t = not (is_sign text opening t) && is_sign text closing t && (n == 0)

  -- how many are open behind a token
  abbrev pub open_behind : ℕ → Token → ℕ
  open_behind n t = if is_sign text opening t then n + 1 else if is_sign text closing t then n - 1 else n

  -- what is left of the tokens from the first bracket on that closes none, where so many are open
  abbrev pub stray : ℕ → List Token → List Token
  stray n [] = []
  stray n (t ∷ ts) = if closes_none n t then t ∷ ts else stray (open_behind n t) ts

  -- a bracket that is opened before these tokens, and none of them closes it
  abbrev pub stays_open : Token → List Token → Bool
  stays_open t ts = is_sign text opening t && is_none (stray 0 ts)

  -- what is left of the tokens from the first bracket on that isn't closed
  abbrev pub unclosed : List Token → List Token
  unclosed [] = []
  unclosed (t ∷ ts) = if stays_open t ts then t ∷ ts else unclosed ts

  -- the first bracket without a partner
  abbrev pub bracket_slip : List Token → Option (Slip × ℕ)
  bracket_slip ts = option_or (found slip.Closing (stray 0 ts)) (found slip.Opening (unclosed ts))
