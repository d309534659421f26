-- The laws of the grammar of a line.
use Rattle.std.proofs.Common.{[]}
use Rattle.opa_sentence.specs.Laws.{OneReading, OneMeaning, sort_of}
use Rattle.opa_sentence.specs.Table.{production, resume}
use Rattle.opa_sentence.proofs.Machine.{only}
use Rattle.opa_sentence.proofs.Meant.{is_grammatical_holds}
use Rattle.opa_sentence.proofs.SpelledIsRead.{is_read_holds}

pub one_reading_holds : OneReading
one_reading_holds b ns s ts x y rest left r q = only (production b ns) (resume b) r y left q

pub one_meaning_holds : OneMeaning
one_meaning_holds b ns p ts x y d e = (one_reading_holds b ns (sort_of p) ts x y [] [] (is_read_holds b ns p ts x d) (is_read_holds b ns p ts y e)).0

pub ruleset laws = (one_reading_holds, is_read_holds, is_grammatical_holds, one_meaning_holds)
