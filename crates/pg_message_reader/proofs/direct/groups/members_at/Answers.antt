use Rattle.std.proofs.Common.{◌≡◌, suc, List, [], map, sym, subst, ◌∙◌}
use Rattle.pg_term.specs.declared.pid.Pid.{Pid}
use Rattle.pg_term.specs.declared.term.Term.{List as Listed}
use Rattle.pg_term.specs.declared.term.Term.TheVariants.{Pid as Process}
use Rattle.pg_message_reader.specs.Standing.{Stands}
use Rattle.pg_message_reader.proofs.Rows.{nil_stands, list_stands}
use Rattle.pg_message_reader.proofs.direct.groups.members_at.Goals as goal

pub returns-in-Ok : goal.returns-in-Ok
returns-in-Ok c = λ room.
    let none : c.from_vec.result ≡ [] = c.from_vec.ensures ∙ c.new.ensures.items in
    subst (λ (pids : List Pid). Stands (suc room) (Listed (map Process pids)) c.args.bytes.now c.in-Ok.rest.now) (sym none) (nil_stands (suc room) c.args.bytes.now c.in-Ok.rest.now c.in-Ok.ensures.found)

pub returns-in-Ok-behind : goal.returns-in-Ok-behind
returns-in-Ok-behind c = λ room.
    let rest = c.in-Ok-behind in
    subst (λ (pids : List Pid). Stands (suc room) (Listed (map Process pids)) c.args.bytes.now rest.rest.now) (sym c.from_vec-in-Ok-behind.ensures)
    (list_stands room (map Process c.in_ok-pids.pids.items) c.in_ok-count.count c.args.bytes.now c.in_ok-count.rest.now c.in_ok-pids.end.now rest.rest.now c.in_ok-count.ensures (c.in_ok-pids.ensures room) rest.ensures.found)
