-- Rows are gathered by one writer.
use Rattle.std.proofs.Common.{◌≡◌, ◌≢◌, ◌++◌, ℕ, false, List, sym, ap, ◌∙◌, subst}
use Rattle.std.specs.Prelude.{Option, None, Some}
use Rattle.std.specs.Io.KnownBytes.{Appends, Keeps}
use Rattle.csv.specs.Writing.{default_writer, fields_written, has_written, row_text, text_written, writer_setup}
use Rattle.csv.specs.declared.writer.QuoteStyle.TheVariants as style
use Rattle.csv.specs.declared.writer.Writer.{Writer}
use Rattle.csv.specs.declared.writer.WriterBuilder.{WriterBuilder}
use Rattle.opa_batch.specs.Gathered.{AddsText, HoldsText}

appended : (text added : List ℕ) (k : Option (List ℕ)) → Appends (Some text) k added → k ≡ Some (text ++ added)
appended text added None h = absurd h
appended text added (Some all) h = ap Some h

kept : (text all : List ℕ) → Keeps (Some text) (Some all) → all ≡ text
kept text all h = h

module _ {W : Type 0} (contents : W → Option (List ℕ)) where
  pub row_adds : (old new : Writer W) (row : List (List ℕ))
      → (fields_written old ≡ 0 → has_written old ≡ false → (writer_setup old).style ≢ style.NonNumeric → Appends (text_written contents old) (text_written contents new) (row_text (writer_setup old) row))
      → fields_written new ≡ 0 → has_written new ≡ false → writer_setup new ≡ writer_setup old → AddsText contents old new (row_text default_writer row)
  row_adds old new row bytes between clean setup = record {
    adds = λ text h.
        let plain : (writer_setup old).style ≢ style.NonNumeric = λ e. cc (sym (ap (λ (b : WriterBuilder). b.style) h.setup) ∙ e) in
        let all : Appends (Some text) (text_written contents new) (row_text default_writer row) =
        subst (λ (b : WriterBuilder). Appends (Some text) (text_written contents new) (row_text b row)) h.setup (subst (λ o. Appends o (text_written contents new) (row_text (writer_setup old) row)) h.held (bytes h.between h.clean plain)) in
        record { setup = setup ∙ h.setup; between = between; clean = clean; held = appended text (row_text default_writer row) (text_written contents new) all };
  }

  pub text_is_kept : (writer : Writer W) (text all : List ℕ) → Keeps (text_written contents writer) (Some all) → HoldsText contents writer text → all ≡ text
  text_is_kept writer text all k h = kept text all (subst (λ o. Keeps o (Some all)) h.held k)
