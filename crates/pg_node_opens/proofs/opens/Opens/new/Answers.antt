use Rattle.std.proofs.Common.{subst, sym}
use Rattle.pg_node_opens.specs.Opens.{Says}
use Rattle.pg_node_opens.proofs.Followed.{new_says}
use Rattle.pg_node_opens.proofs.opens.Opens.new.Goals as goal

pub returns-clause-none : goal.returns-clause-none
returns-clause-none c table made = subst (λ os. Says c.args.names.items c.in_ok-lost.lost.items 0 os _) (sym c.new.ensures.items)
    (new_says c.args.names.items c.in_ok-lost.lost.items _ table made (c.in_ok-lost.ensures.items_if_clones_equal (λ y h. h)))
