-- Bounds: a comma list of `from N`, `to N`, `decimals K`, each at most once.
use Rattle.std.specs.Prelude.{ℕ, zero, suc, ◌^◌, ◌/◌, ◌%◌, ℤ, pos, negsuc, neg_ℤ, List, [], ◌∷◌, ◌&&◌, ◌==◌, nat_le, Option, Some, None, Result, Ok, Err, is_some, unwrap_or, codes, if◌then◌else◌}
use Rattle.std.specs.Option.{option_map, option_and_then}
use Rattle.opa_words.specs.declared.kinds.Token.{Token}
use Rattle.opa_words.specs.Places.{token_text}
use Rattle.opa_value.specs.declared.number.NumFault.{NumFault}
use Rattle.opa_value.specs.Numbers.{kept}
use Rattle.opa_value.specs.NumberText.{read_number}
use Rattle.opa_decl.specs.declared.items.Bounds.{Bounds}
use Rattle.opa_decl.specs.declared.limits.Limits.{Limits}
use Rattle.opa_decl.specs.Pieces.{has_text, is_number_kind}

abbrev pub number_or_none : Result ℤ NumFault → Option ℤ
number_or_none (Ok n) = Some n
number_or_none (Err f) = None

-- the whole number of a count of 1/10000, if it is one and at most so much
abbrev pub whole_up_to : ℕ → ℤ → Option ℕ
whole_up_to most (pos n) = if (n % 10000 == 0) && nat_le (n / 10000) most then Some (n / 10000) else None
whole_up_to most (negsuc n) = None

-- no bounds yet
abbrev pub no_limits : Limits
no_limits = record { least = None; most = None; decimals = None }

-- the bounds: without `from` and `to` those of all numbers, and without `decimals` so many
abbrev pub bounds_of : ℕ → Limits → Bounds
bounds_of decimals l = record { least = unwrap_or l.least (neg_ℤ (pos (10 ^ 17))); most = unwrap_or l.most (pos (10 ^ 17)); decimals = unwrap_or l.decimals decimals }

abbrev pub with_least : Limits → ℤ × List Token → Limits × List Token
with_least l x = (record { least = Some x.0; most = l.most; decimals = l.decimals }, x.1)

abbrev pub with_most : Limits → ℤ × List Token → Limits × List Token
with_most l x = (record { least = l.least; most = Some x.0; decimals = l.decimals }, x.1)

abbrev pub with_decimals : Limits → ℕ × List Token → Limits × List Token
with_decimals l x = (record { least = l.least; most = l.most; decimals = Some x.0 }, x.1)

-- the opposite number
abbrev pub negated : ℤ × List Token → Option (ℤ × List Token)
negated x = option_map (λ n. (n, x.1)) (kept (neg_ℤ x.0))

module _ (bytes : List ℕ) where
  -- the number that a Number token spells, if it is in the range of numbers
  unfoldable pub number_at : Token → Option ℤ
  number_at t = if is_number_kind t.kind then number_or_none (read_number (token_text bytes t)) else None

  -- a number at the front, and what follows it
  abbrev pub unsigned : List Token → Option (ℤ × List Token)
  unsigned [] = None
  unsigned (t ∷ ts) = option_map (λ n. (n, ts)) (number_at t)

  -- N, which may have a `-`
  abbrev pub signed : List Token → Option (ℤ × List Token)
  signed [] = None
  signed (t ∷ ts) = if has_text bytes (codes "-") t then option_and_then negated (unsigned ts) else unsigned (t ∷ ts)

  -- K, which is taken by its value
  abbrev pub whole : ℕ → List Token → Option (ℕ × List Token)
  whole most [] = None
  whole most (t ∷ ts) = option_map (λ k. (k, ts)) (option_and_then (whole_up_to most) (number_at t))

  -- one item at the front, of a sort that has not stood before, and what follows it
  unfoldable pub limit : ℕ → Limits → List Token → Option (Limits × List Token)
  limit most l [] = None
  limit most l (t ∷ ts) =
      if has_text bytes (codes "from") t then (if is_some l.least then None else option_map (with_least l) (signed ts)) else
      if has_text bytes (codes "to") t then (if is_some l.most then None else option_map (with_most l) (signed ts)) else
      if has_text bytes (codes "decimals") t then (if is_some l.decimals then None else option_map (with_decimals l) (whole most ts)) else
      None

  -- after an item: the end, or `,` and more items
  abbrev pub ends_or : (Limits → List Token → Option Limits) → Limits × List Token → Option Limits
  ends_or more (l, []) = Some l
  ends_or more (l, t ∷ ts) = if has_text bytes (codes ",") t then more l ts else None

  -- so many items at most, with `,` between them, up to the end
  abbrev pub limits : ℕ → ℕ → Limits → List Token → Option Limits
  limits zero most l ts = None
  limits (suc left) most l ts = option_and_then (ends_or (limits left most)) (limit most l ts)
