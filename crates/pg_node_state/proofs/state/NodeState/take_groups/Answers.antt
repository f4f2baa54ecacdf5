use Rattle.std.proofs.Common.{◌≡◌, ◌∙◌, ◌+◌, ◌^◌, Bool, List, not, length, Err, ap, sym, refl, arith, true, false}
use Rattle.pg_node_ports.specs.PgGroup.Ended.{ended_of}
use Rattle.pg_term.specs.Same.{same_atom}
use Rattle.pg_node_ports.specs.PgNodeOpens.Places.{name_at}
use Rattle.pg_node_state.specs.Ports.{merged_in}
use Rattle.pg_node_state.specs.States.{names_of, kept_by}
use Rattle.pg_node_state.proofs.Counts.{few_merged}
use Rattle.pg_node_state.proofs.Merged.{merged_set, merged_stays, marks_length, refused_is}
use Rattle.pg_node_state.proofs.state.NodeState.take_groups.Goals as goal

not_false : (b : Bool) → not b ≡ false → b ≡ true
not_false true e = refl
not_false false e = absurd (cc)

pub returns-in-Err-NotAMessage-clause-bad : goal.returns-in-Err-NotAMessage-clause-bad
returns-in-Err-NotAMessage-clause-bad g c =
    let old = c.args.self.now in
    let is : same_atom c.args.node.now (name_at (names_of old) (c.args.peer + 1)) ≡ true = ap (same_atom c.args.node.now) (sym c.name.ensures) ∙ not_false (same_atom c.args.node.now c.name.result.now) (sym c.ne.ensures ∙ c.if-ne.false) in
    let refused = refused_is (names_of old) old.formation c.args.peer c.args.node.now old.opens.apart old.peers c.requires.place is in
    (λ e. refused.0 (c.take.ensures.second.0 (c.in-Err-NotAMessage.is ∙ ap Err c.in-Err-NotAMessage.field-0-is)), λ e. refl)

pub returns-in-Err-OutOfMemory-clause-bad : goal.returns-in-Err-OutOfMemory-clause-bad
returns-in-Err-OutOfMemory-clause-bad g c =
    let old = c.args.self.now in
    let is : same_atom c.args.node.now (name_at (names_of old) (c.args.peer + 1)) ≡ true = ap (same_atom c.args.node.now) (sym c.name.ensures) ∙ not_false (same_atom c.args.node.now c.name.result.now) (sym c.ne.ensures ∙ c.if-ne.false) in
    let refused = refused_is (names_of old) old.formation c.args.peer c.args.node.now old.opens.apart old.peers c.requires.place is in
    (λ e. absurd (cc), λ bad. absurd (let e = sym (c.take.ensures.second.1 (refused.1 bad)) ∙ (c.in-Err-OutOfMemory.is ∙ ap Err c.in-Err-OutOfMemory.field-0-is) in cc))

pub invariant_of-self-2 : goal.invariant_of-self-2
invariant_of-self-2 g c =
    let old = c.args.self.now in
    let contents = g.T.GroupTable.contents in
    let marks = c.in-Ok.ensures.marked in
    let merged : merged_in (names_of old) c.take.new.self ≡ _ = ap (merged_in (names_of old)) marks ∙ merged_set (names_of old) old.formation c.args.peer old.opens.apart old.peers c.requires.place in
    record {
      peers = ap (λ (ms : List Bool). length ms + 1) marks ∙ marks_length old.formation c.args.peer (length (names_of old)) old.peers;
      own = old.own;
      forgotten = λ q lost. merged_stays (merged_in (names_of old) old.formation) (merged_in (names_of old) c.take.new.self) (name_at (names_of old) (c.args.peer + 1)) q merged (old.forgotten q lost);
      within = c.requires.now.within;
      made = omega (arith, old.made, c.requires.now.later);
      counted = λ port. omega (arith, old.counted port, c.requires.now.later);
      given = old.given;
      few = few_merged (2 ^ 32 + old.clock) (2 ^ 32 + c.args.clock) (2 ^ 32) (contents old.table) (contents c.take.new.table) c.args.groups.now (ended_of old.ended)
          (omega (arith, c.requires.now.later)) (omega arith) c.requires.few old.few c.in-Ok.ensures.merged;
    }

pub returns-clause-state : goal.returns-clause-state
returns-clause-state g c =
    let old = c.args.self.now in
    let merged = ap (merged_in (names_of old)) c.in-Ok.ensures.marked ∙ merged_set (names_of old) old.formation c.args.peer old.opens.apart old.peers c.requires.place in
    λ i. record { clock = c.args.clock; state = record (kept_by old) { table = c.in-Ok.ensures.merged i; merged = merged i } }

pub returns-clause-bad : goal.returns-clause-bad
returns-clause-bad g c =
    let old = c.args.self.now in
    let is : same_atom c.args.node.now (name_at (names_of old) (c.args.peer + 1)) ≡ true = ap (same_atom c.args.node.now) (sym c.name.ensures) ∙ not_false (same_atom c.args.node.now c.name.result.now) (sym c.ne.ensures ∙ c.if-ne.false) in
    let refused = refused_is (names_of old) old.formation c.args.peer c.args.node.now old.opens.apart old.peers c.requires.place is in
    (λ e. absurd (cc), λ bad. absurd (let e = sym (c.take.ensures.second.1 (refused.1 bad)) ∙ c.in-Ok.is in cc))
