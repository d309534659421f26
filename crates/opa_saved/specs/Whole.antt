-- The entries of a file as they are kept.
use Rattle.opa_saved.specs.declared.entries.Entries.{Entries}
use Rattle.opa_saved.specs.Forms.{File}

abbrev pub seen : Entries → File
seen e = record { version = e.version; answers = e.answers.items; lists = e.lists.items }
