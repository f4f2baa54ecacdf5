use Rattle.std.proofs.Common.{List, [], ◌∷◌, map, subst}
use Rattle.pg_term.specs.declared.pid.Pid.{Pid}
use Rattle.pg_term.specs.declared.term.Term.{List as Listed}
use Rattle.pg_term.specs.declared.term.Term.TheVariants.{Pid as Process}
use Rattle.pg_message_writer.specs.Puts.{Puts}
use Rattle.pg_message_writer.proofs.Put.{list_put, more, nothing}
use Rattle.pg_message_writer.proofs.parts.put_group.Goals as goal

pub returns : goal.returns
returns c =
    let group = c.args.group.now in
    let members = subst (λ (pids : List Pid). Puts c.put_name.new.out c.put_pids.new.out (Listed (map Process pids))) c.as_slice.ensures c.put_pids.ensures in
    list_put c.args.out.now c.put_list_head.new.out c.put_pids.new.out c.extend_reserved.new.self (group.0 ∷ Listed (map Process group.1) ∷ []) c.requires.short c.put_list_head.ensures.items c.put_list_head.ensures.spare
    (more c.put_name.ensures (more members (nothing c.put_pids.new.out)))
    c.extend_reserved.ensures.items c.extend_reserved.ensures.spare
