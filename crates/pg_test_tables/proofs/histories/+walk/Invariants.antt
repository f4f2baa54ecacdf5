use Rattle.pg_test_tables.proofs.histories.+walk.Given as goal

-- how many steps may follow
abbrev pub decreases-walk : goal.decreases-walk
decreases-walk g l = l.left
