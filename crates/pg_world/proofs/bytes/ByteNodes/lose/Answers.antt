use Rattle.std.proofs.Common.{◌<◌, ◌≤◌, ◌∙◌, ℕ, List, length, ap, sym, arith, subst}
use Rattle.std.proofs.lemmas.Bool.{lt-ltb}
use Rattle.std.proofs.lemmas.List.{length-map}
use Rattle.pg_world.specs.BytesLosing.{ShowsLosingBytes}
use Rattle.pg_world.specs.Crossings.{crossing_of, node_of, written_of}
use Rattle.pg_world_packets.specs.PgWorldAccount.Histories.{account_formed, account_of}
use Rattle.pg_world_packets.specs.PgWorldAccount.Losses.{lost_in}
use Rattle.pg_world.proofs.over_bytes.Lost.{lost_bytes}
use Rattle.pg_world.proofs.over_bytes.Past.{gone_unplaced, gone_none, gone_before, lost_with}
use Rattle.pg_world_packets.proofs.Peering.{lt_false}
use Rattle.pg_world.proofs.bytes.ByteNodes.lose.Goals as goal

pub returns-then-node-len-clause-losing : goal.returns-then-node-len-clause-losing
returns-then-node-len-clause-losing g c = λ config u shows.
    let many = length-map c.args.self.now.nodes.items node_of in
    let none : length (crossing_of c.args.self.now).nodes ≤ c.args.node = omega (arith, many, c.if-node-len.true, c.len.ensures, c.args.self.now.nodes.ok) in
    (gone_unplaced config (crossing_of c.args.self.now) (account_of c.args.self.now.histories) u (lost_in c.args.self.now.losses) shows c.args.node (lt_false c.args.node _ none), shows)

pub returns-then-has-clause-losing : goal.returns-then-has-clause-losing
returns-then-has-clause-losing g c = λ config u shows.
    let many = length-map c.args.self.now.nodes.items node_of in
    let within : c.args.node < length (crossing_of c.args.self.now).nodes = omega (arith, many, c.if-node-len.false, c.len.ensures, c.args.self.now.nodes.ok) in
    (gone_before config (crossing_of c.args.self.now) (account_of c.args.self.now.histories) u (lost_in c.args.self.now.losses) shows c.args.node (lt-ltb c.args.node _ within) (sym c.has.ensures ∙ c.if-has.true), shows)

pub returns-in-Ok-clause-losing : goal.returns-in-Ok-clause-losing
returns-in-Ok-clause-losing g c = λ config u shows.
    let many = length-map c.args.self.now.nodes.items node_of in
    let within : c.args.node < length (crossing_of c.args.self.now).nodes = omega (arith, many, c.if-node-len.false, c.len.ensures, c.args.self.now.nodes.ok) in
    lost_with config (crossing_of c.args.self.now) (account_of c.args.self.now.histories) _ u c.args.node (lost_in c.add.new.self) c.formed_at_loss-formed.result c.note_formed.ensures
    (lost_bytes config (crossing_of c.args.self.now) (account_of c.args.self.now.histories) u c.args.node (lost_in c.args.self.now.losses) (lost_in c.add.new.self) shows
    (λ packets bytes. c.loss_cuts_packets.ensures.cut written_of packets bytes) within (sym c.has.ensures ∙ c.if-has.false) c.in-Ok.ensures.added)

pub returns-in-Ok-clause-account : goal.returns-in-Ok-clause-account
returns-in-Ok-clause-account g c = c.note_formed.ensures ∙ ap (λ b. account_formed b (account_of c.args.self.now.histories)) c.formed_at_loss-formed.ensures

pub returns-in-Err-clause-losing : goal.returns-in-Err-clause-losing
returns-in-Err-clause-losing g c = λ config u shows.
    let many = length-map c.args.self.now.nodes.items node_of in
    let within : c.args.node < length (crossing_of c.args.self.now).nodes = omega (arith, many, c.if-node-len.false, c.len.ensures, c.args.self.now.nodes.ok) in (
      gone_none config (crossing_of c.args.self.now) (account_of c.args.self.now.histories) u (lost_in c.args.self.now.losses) shows c.args.node (lt-ltb c.args.node _ within) (sym c.has.ensures ∙ c.if-has.false),
      subst (λ (l : List ℕ). ShowsLosingBytes config (crossing_of c.args.self.now) (account_of c.args.self.now.histories) l u) (sym c.in-Err.ensures.err) shows,
    )
