use Rattle.std.proofs.Common.{subst, MatchOption, Err}
use Rattle.std.specs.String.{string_bytes}
use Rattle.opa_rulebase.specs.Files.Files.{AreFiles, HasTakeError}
use Rattle.opa_rules.specs.Faults.Finding.{AreAccepted}
use Rattle.opa_rules.specs.Faults.Listing.{AreErrors}
use Rattle.opa_rules.proofs.FindLaws.{finds_in, finds_untaken}
use Rattle.opa_rules.proofs.faults.telling.find.Goals as goal

pub returns-in-Ok-found_in-clause-found : goal.returns-in-Ok-found_in-clause-found
returns-in-Ok-found_in-clause-found g c = finds_in (g.F.Shelf.files c.args.shelf.now) c.args.name.now c.in-Ok.files c.in-Ok-found_in.found c.in-Ok.ensures.taken
    (subst (λ s. MatchOption c.in-Ok-found_in.found (AreAccepted s) (λ t. AreErrors s (string_bytes t))) c.as_slice.ensures c.in-Ok-found_in.ensures)

pub returns-in-Ok-unread_text-clause-found : goal.returns-in-Ok-unread_text-clause-found
returns-in-Ok-unread_text-clause-found g c = finds_untaken (g.F.Shelf.files c.args.shelf.now) c.args.name.now c.in-Err-Refused.unread (string_bytes c.in-Ok-unread_text.text)
    (subst (HasTakeError (g.F.Shelf.files c.args.shelf.now) (λ files u. AreFiles files c.args.name.now (Err u)) _ _) c.in-Err-Refused.field-0-is c.in-Err-Refused.ensures.fault) c.in-Ok-unread_text.ensures
