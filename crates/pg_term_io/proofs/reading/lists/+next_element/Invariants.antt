use Rattle.pg_term_io.proofs.reading.lists.+next_element.Given as goal

abbrev pub decreases-next_element : goal.decreases-next_element
decreases-next_element l = l.levels
