-- Tables of names, as definitions see them.
use Rattle.opa_decl.specs.declared.tables.Tables.{Tables as Places}
use Rattle.opa_decl.specs.Names.{Tables}

abbrev pub seen : Places → Tables
seen t = record { verbs = t.verbs; entities = t.entities; attributes = t.attributes; relations = t.relations }
