use Rattle.std.proofs.Common.{sym, ap, ◌∙◌}
use Rattle.pg_step.specs.Attempts.{is_yes}
use Rattle.pg_node_opens.specs.Places.{name_at}
use Rattle.pg_node_opens.proofs.Asking.{status_at}
use Rattle.pg_node_opens.proofs.Found.{stands, no_locking}
use Rattle.pg_node_opens.proofs.Followed.{locks_as}
use Rattle.pg_node_opens.proofs.opens.Opens.has_granted.Goals as goal

pub returns-in-None : goal.returns-in-None
returns-in-None c = absurd (no_locking c.args.self.now.names.items c.args.self.now.references c.args.self.now.commands.items c.deref.result.now c.args.number c.deref.ensures.value c.in-None.ensures.none c.requires.locking)

pub returns-in-Some : goal.returns-in-Some
returns-in-Some c op update f st e = let at = stands c.args.self.now.commands.items c.deref.result.now c.in-Some.found c.index-command.result.now c.args.number c.deref.ensures.value c.in-Some.ensures.within c.in-Some.ensures.some c.index-command.ensures in
    let w = locks_as c.args.self.now.names.items c.args.self.now.references c.args.self.now.commands.items c.in-Some.found c.index-command.result.now c.args.self.now.known c.args.number op update f st at e in
    c.has_yes.ensures ∙ (ap is_yes (sym (status_at c.args.self.now.names.items c.args.self.now.lost.items c.args.self.now.apart c.args.self.now.places c.index-command.result.now.marks (c.args.self.now.known.marked c.in-Some.found c.index-command.result.now at.here) c.args.place c.requires.place))
    ∙ (λ i. is_yes (w.1.marks i (name_at c.args.self.now.names.items c.args.place))))
