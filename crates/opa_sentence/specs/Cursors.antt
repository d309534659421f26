-- What is left of a line.
use Rattle.std.specs.Prelude.{List}
use Rattle.opa_sentence.specs.declared.cursor.Cursor.{Cursor}
use Rattle.opa_sentence.specs.Lexemes.{Lexeme, lexemes}

abbrev pub seen : Cursor → List Lexeme
seen c = lexemes c.text.now c.tokens.now
