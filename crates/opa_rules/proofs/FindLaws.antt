-- What is found in the files of a shelf.
use Rattle.std.proofs.Common.{◌≡◌, ℕ, List, [], Option, Some, None, IfSome, Ok, Err, MatchOption, sym, subst}
use Rattle.std.specs.Option.{option_map}
use Rattle.std.specs.String.{string_bytes}
use Rattle.std.specs.Prelude.{String}
use Rattle.std.specs.declared.alloc.Global.{Global}
use Rattle.opa_io.specs.Outside.{Files}
use Rattle.opa_rulebase.specs.declared.files.fault.Unread.{Unread}
use Rattle.opa_rulebase.specs.declared.files.source.SourceFile.{SourceFile}
use Rattle.opa_rulebase.specs.Files.Files.{AreFiles}
use Rattle.opa_rules.specs.Faults.Finding.{Finds, AreAccepted}
use Rattle.opa_rules.specs.Faults.Listing.{AreErrors}
use Rattle.opa_rules.specs.Faults.Marks.{plain}
use Rattle.opa_rules.specs.Faults.Printed.{error_text}

module _ (name : List ℕ) where
  found_by : (files : Files) (sources : List SourceFile) (found : Option (String Global)) → AreFiles files name (Ok sources) → MatchOption found (AreAccepted sources) (λ t. AreErrors sources (string_bytes t))
      → Finds files name (option_map (λ t. string_bytes t) found)
  found_by files sources None f h = Finds.accepts sources f h
  found_by files sources (Some t) f h = Finds.lists sources (string_bytes t) f h

pub finds_in : (o : Option Files) (name : List ℕ) (sources : List SourceFile) (found : Option (String Global)) → IfSome o (λ files. AreFiles files name (Ok sources)) → MatchOption found (AreAccepted sources) (λ t. AreErrors sources (string_bytes t))
    → IfSome o (λ files. Finds files name (option_map (λ t. string_bytes t) found))
finds_in None name sources found f h = tt
finds_in (Some files) name sources found f h = found_by name files sources found f h

pub finds_untaken : (o : Option Files) (name : List ℕ) (u : Unread) (text : List ℕ) → IfSome o (λ files. AreFiles files name (Err u)) → text ≡ error_text u.name [] None (plain u.fault.line u.fault.kind None) → IfSome o (λ files. Finds files name (Some text))
finds_untaken None name u text f e = tt
finds_untaken (Some files) name u text f e = subst (λ t. Finds files name (Some t)) (sym e) (Finds.cannot_take u f)
