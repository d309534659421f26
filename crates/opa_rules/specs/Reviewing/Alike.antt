-- Declared phrases that are easily taken for one another.
use Rattle.std.specs.Prelude.{ℕ, zero, suc, nat_le, Bool, not, ◌&&◌, ◌||◌, List, [], ◌∷◌, ◌++◌, length, if◌then◌else◌}
use Rattle.std.specs.List.{list_any}
use Rattle.std.specs.Str.{str_eq_ignore_ascii_case}
use Rattle.opa_model.specs.declared.lists.Lists.{Lists}
use Rattle.opa_rules.specs.Describing.Parts.{attr, rel}
use Rattle.opa_rules.specs.Faults.Nearest.{difference}
use Rattle.opa_rules.specs.declared.reviewing.finding.Finding.{Finding}
use Rattle.opa_rules.specs.declared.reviewing.finding.Finding.TheVariants as finding
use Rattle.opa_rules.specs.declared.reviewing.finding.TheConstants.{MOST_COMPARED}
use Rattle.opa_rules.specs.Reviewing.Phrases.{phrase_of, list_phrase_of}

abbrev pub is_digit : ℕ → Bool
is_digit b = nat_le 48 b && nat_le b 57

abbrev pub has_digit : List ℕ → Bool
has_digit phrase = list_any is_digit phrase

-- Without the beginning and the end that both have, at most one byte is left of each. Phrases with a digit are meant to be alike.
abbrev pub differ_by_one : List ℕ → List ℕ → Bool
differ_by_one p q = not (has_digit p) && not (has_digit q) && nat_le (difference p q) 1

-- They have the same letters, but capital ones for small ones. These are the letters from a to z: another one has two bytes or more.
abbrev pub differ_in_case : List ℕ → List ℕ → Bool
differ_in_case p q = str_eq_ignore_ascii_case p q

abbrev pub are_close : List ℕ → List ℕ → Bool
are_close p q = differ_in_case p q || differ_by_one p q

-- what is found of the first so many places
unfoldable pub placed : (ℕ → List Finding) → ℕ → List Finding
placed f zero = []
placed f (suc n) = placed f n ++ f n

-- ---- attributes

abbrev pub attribute_pair : ℕ → ℕ → Finding
attribute_pair k n = finding.Attributes (record { first = attr k; second = attr n })

abbrev pub are_alike_attributes : Lists → ℕ → ℕ → Bool
are_alike_attributes m k n = are_close (phrase_of m (attr k)) (phrase_of m (attr n))

abbrev pub attributes_at : Lists → ℕ → ℕ → List Finding
attributes_at m n k = if are_alike_attributes m k n then attribute_pair k n ∷ [] else []

-- each with those that are declared before it
abbrev pub attributes_with : Lists → ℕ → List Finding
attributes_with m n = placed (attributes_at m n) n

-- where so many are declared that every two can be compared
abbrev pub alike_attributes : Lists → List Finding
alike_attributes m = if nat_le (length m.attributes) MOST_COMPARED then placed (attributes_with m) (length m.attributes) else []

-- ---- lists

abbrev pub list_pair : ℕ → ℕ → Finding
list_pair k n = finding.Lists (record { first = rel k; second = rel n })

abbrev pub are_alike_lists : Lists → ℕ → ℕ → Bool
are_alike_lists m k n = are_close (list_phrase_of m (rel k)) (list_phrase_of m (rel n))

abbrev pub lists_at : Lists → ℕ → ℕ → List Finding
lists_at m n k = if are_alike_lists m k n then list_pair k n ∷ [] else []

abbrev pub lists_with : Lists → ℕ → List Finding
lists_with m n = placed (lists_at m n) n

abbrev pub alike_lists : Lists → List Finding
alike_lists m = if nat_le (length m.relations) MOST_COMPARED then placed (lists_with m) (length m.relations) else []

abbrev pub alike : Lists → List Finding
alike m = alike_attributes m ++ alike_lists m
