-- Which models rules can read beside inferred relations.
use Rattle.std.specs.Prelude.{List}
use Rattle.opa_model.specs.declared.lists.Lists.{Lists}
use Rattle.opa_tree.specs.declared.rules.Inferred.{Inferred}
use Rattle.opa_verbs.specs.Phrasing.{IsReadableWith}
use Rattle.opa_parse.specs.Naming.{inferred_phrases}

-- rules can read the model and the phrases of inferred relations
abbrev pub IsReadable : Lists → List Inferred → Type 0
IsReadable m inferences = IsReadableWith (inferred_phrases inferences) m
