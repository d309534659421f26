use Rattle.opa_words.proofs.cursor.Cursor.+digits_of.Given as goal

abbrev pub decreases-digits_of : goal.decreases-digits_of
decreases-digits_of l = l.most
