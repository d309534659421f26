-- A date that a text names is a day of the calendar.
use Rattle.std.proofs.Common.{◌≡◌, ◌<◌, ℕ, List, true, Some, Result, Ok, Err, refl, subst}
use Rattle.std.proofs.lemmas.Bool.{lt-ltb}
use Rattle.opa_date.specs.declared.TheConstants.{DAYS}
use Rattle.opa_date.specs.declared.fault.DayFault.{DayFault}
use Rattle.opa_date.specs.Texts.{read_day}
use Rattle.opa_date.proofs.ReadTexts.{only_texts_are_read}
use Rattle.opa_value.specs.declared.value.Value.TheVariants as value
use Rattle.opa_tree.specs.Trees.{is_literal}
use Rattle.opa_sentence.specs.Literals.{day_in, day_or_none}

pub dates_are_literals : (text : List ℕ) (d : ℕ) → day_in text ≡ Some d → is_literal (value.Day d) ≡ true
dates_are_literals text d e = go (read_day text) refl e
  where
    go : (r : Result ℕ DayFault) → read_day text ≡ r → day_or_none r ≡ Some d → is_literal (value.Day d) ≡ true
    go (Ok k) h e = let same : k ≡ d = cc e in lt-ltb d DAYS (subst (λ n. n < DAYS) same (only_texts_are_read text k h).0)
    go (Err f) h e = absurd (cc e)
