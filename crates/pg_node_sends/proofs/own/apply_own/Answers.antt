use Rattle.std.proofs.Common.{◌∙◌, ◌&&◌, ap}
use Rattle.pg_term.specs.declared.term.Term.{Term}
use Rattle.pg_node_opens.specs.PgGroup.Value.{name_of}
use Rattle.pg_node_opens.specs.PgLock.Locks.{locks_of, after_ask, given_up, is_holder}
use Rattle.pg_node_sends.specs.Orders.{reference_in}
use Rattle.pg_node_sends.proofs.Undone.{given_back}
use Rattle.pg_node_sends.proofs.own.apply_own.Goals as goal

pub returns-in-Err-clause-err_locks : goal.returns-in-Err-clause-err_locks
returns-in-Err-clause-err_locks g c =
    let locks = locks_of c.args.locks.now in
    let name : Term = name_of c.args.update.now in
    let granted = c.args.granted in
    let lock = reference_in c.args.lock in
    let asked = c.in_ok-ask_own.ensures.ok ∙ ap (λ (n : Term). after_ask granted locks n lock) c.name.ensures in
    c.free_own.ensures ∙ ((λ i. given_up (granted && is_holder (asked i (c.name-in-Err.ensures i)) lock) (asked i) (c.name-in-Err.ensures i))
    ∙ given_back c.equality.ensures.terms c.equality.ensures.references locks name lock granted c.requires.free)
