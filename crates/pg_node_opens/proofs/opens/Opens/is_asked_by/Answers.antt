use Rattle.std.proofs.Common.{false, get_or, ap, ◌∙◌}
use Rattle.pg_node_opens.specs.declared.mark.Mark.TheVariants.{Unasked}
use Rattle.pg_node_opens.specs.Marks.{asked_in}
use Rattle.pg_node_opens.proofs.Requested.{asked_counts, asked_own, asked_peer}
use Rattle.pg_node_opens.proofs.Found.{stands, no_locking}
use Rattle.pg_node_opens.proofs.opens.Opens.is_asked_by.Goals as goal

pub returns-in-None : goal.returns-in-None
returns-in-None c = absurd (no_locking c.args.self.now.names.items c.args.self.now.references c.args.self.now.commands.items c.deref.result.now c.args.number c.deref.ensures.value c.in-None.ensures.none c.requires.locking)

pub returns-in-Some : goal.returns-in-Some
returns-in-Some c =
    let at = stands c.args.self.now.commands.items c.deref.result.now c.in-Some.found c.index-command.result.now c.args.number c.deref.ensures.value c.in-Some.ensures.within c.in-Some.ensures.some c.index-command.ensures in
    let is = c.is_asked_by.ensures
    ∙ ap (λ z. asked_in (get_or c.index-command.result.now.marks c.args.place Unasked) (get_or z c.args.place false) c.args.who c.args.place) c.deref-in-Some.ensures.value in
    record {
      counts = asked_counts c.args.self.now.names.items c.args.self.now.lost.items c.args.self.now.references c.args.self.now.commands.items c.in-Some.found c.index-command.result.now c.args.self.now.apart c.args.self.now.places c.args.self.now.known
          c.args.number c.args.who c.args.place at c.requires.who c.requires.place c.is_asked_by.result is;
      own = asked_own c.args.self.now.names.items c.args.self.now.lost.items c.args.self.now.references c.args.self.now.commands.items c.in-Some.found c.index-command.result.now c.args.self.now.apart c.args.self.now.places c.args.self.now.known
          c.args.number c.args.who c.args.place at c.requires.who c.requires.place c.is_asked_by.result is;
      peer = asked_peer c.args.self.now.names.items c.args.self.now.lost.items c.args.self.now.references c.args.self.now.commands.items c.in-Some.found c.index-command.result.now c.args.self.now.apart c.args.self.now.places c.args.self.now.known
          c.args.number c.args.who c.args.place at c.requires.who c.requires.place c.is_asked_by.result is;
    }
