use Rattle.std.proofs.Common.{◌≡◌, ◌∷◌, ◌+◌, ◌*◌, ◌≤◌, ◌∙◌, ℕ, suc, Bool, List}
use Rattle.std.proofs.Common.{length, sym, ap, arith, subst, true, false}
use Rattle.std.proofs.Common.{replicate}
use Rattle.pg_node_ports.specs.PgNodeOpens.Places.{name_at}
use Rattle.pg_node_ports.specs.PgNodeOpens.Opens as opens
use Rattle.pg_node_ports.specs.PgStep.Nodes.{Node}
use Rattle.pg_node_state.specs.Ports.{merged_in}
use Rattle.pg_node_state.proofs.Given.{given_same, given_none}
use Rattle.pg_node_state.proofs.Merged.{nobody_merged, nobody_length}
use Rattle.pg_node_state.proofs.state.made.started.Goals as goal

one_more : (n : ℕ) → suc n ≡ n + 1
one_more n = omega arith

pub invariant_of-result : goal.invariant_of-result
invariant_of-result g c = c.formation.invariant

pub invariant_of-result-2 : goal.invariant_of-result-2
invariant_of-result-2 g c =
    let config = c.args.config in
    let started = c.in_ok-new.ensures.none (g.T.GroupTable.contents c.args.table) config.made in
    let named : opens.names_of c.in_ok-new.field-0 ≡ config.own ∷ config.peers.items = c.in_ok-new.ensures.names ∙ c.in_ok-insert.ensures.items in
    let marks : c.formation.inside.marks.items ≡ replicate (length config.peers.items) false = c.formation.view_is ∙ (c.in_ok-formation.ensures ∙ ap (λ n. replicate n false) (c.len.ensures ∙ config.peers.ok.0)) in
    record {
      peers = ap (λ (ms : List Bool). length ms + 1) marks ∙ (ap (λ n. n + 1) (nobody_length (length config.peers.items)) ∙ sym (ap (λ (ns : List Node). length ns) named ∙ one_more (length config.peers.items)));
      own = c.new-5.ensures.node ∙ (c.in_ok-own.ensures ∙ sym (ap (λ (ns : List Node). name_at ns 0) named));
      forgotten = λ q lost. absurd (let e : true ≡ false = sym lost ∙ ap (λ (f : Node → Bool). f q) (sym started.lost_peers) in cc);
      within = omega arith;
      made = subst (λ n. n ≤ 2 * 0) started.references (omega arith);
      counted = λ port. subst (λ (f : ℕ → ℕ). f port ≤ 0) (sym c.in_ok-idle_ports.ensures.counts) (omega arith);
      given = given_same started.uses started.stages given_none;
      few = λ name pid. omega (arith, c.requires.few name pid);
    }

pub returns-clause-state : goal.returns-clause-state
returns-clause-state g c =
    let config = c.args.config in
    let contents = g.T.GroupTable.contents in
    let started = c.in_ok-new.ensures.none (contents c.args.table) config.made in
    let marks : c.formation.inside.marks.items ≡ replicate (length config.peers.items) false = c.formation.view_is ∙ (c.in_ok-formation.ensures ∙ ap (λ n. replicate n false) (c.len.ensures ∙ config.peers.ok.0)) in
    let merged = ap (merged_in (opens.names_of c.in_ok-new.field-0)) marks ∙ nobody_merged (opens.names_of c.in_ok-new.field-0) (length config.peers.items) in
    λ i. record {
      clock = 0;
      state = record {
        table = contents c.args.table;
        ended = c.new-3.ensures.none i;
        locks = c.new-4.ensures i;
        merged = merged i;
        lost = sym started.lost_peers i;
        references = sym started.references i;
        uses = sym started.uses i;
        processes = c.new-5.ensures.made i;
        opened = sym started.opened i;
        stages = sym started.stages i;
        counts = c.in_ok-idle_ports.ensures.counts i;
      };
    }
