use Rattle.std.proofs.Common.{◌≡◌, ◌∙◌, ◌+◌, ℕ, Bool, List, length, nat_eq, refl, ap, sym, subst, arith}
use Rattle.std.proofs.lemmas.Bool.Decides.{nat_tests}
use Rattle.pg_term.specs.Same.{same_atom}
use Rattle.pg_node_ports.specs.PgGroup.Value.{name_of}
use Rattle.pg_node_ports.proofs.PgGroup.Changes.{upd_at}
use Rattle.std.proofs.lemmas.Bool.{eq-eqb}
use Rattle.pg_node_ports.specs.PgNodeOpens.declared.mark.Asked.TheVariants.{One}
use Rattle.pg_node_ports.specs.PgNodeOpens.Opens.{Shows, names_of, live_of, uses_of, stages_of, references_of}
use Rattle.pg_node_ports.specs.PgNodeOpens.Places.{name_at}
use Rattle.pg_node_ports.specs.PgNodeOpens.Named.{whom}
use Rattle.pg_node_ports.specs.PgNodeOpens.Readings.{is_locking}
use Rattle.pg_node_ports.specs.PgStep.Attempts.{ask, new_attempt}
use Rattle.pg_node_ports.specs.PgStep.Nodes.{Node, Nodes, greatest}
use Rattle.pg_node_ports.specs.PgStep.Peers.{would_grant}
use Rattle.pg_node_ports.specs.PgStep.State.{State, Use}
use Rattle.pg_node_ports.specs.PgStep.State.Status.{Unasked}
use Rattle.pg_node_ports.specs.PgStep.State.Use.{Locking}
use Rattle.pg_node_state.proofs.First.{WaitsWith, waits_with}
use Rattle.pg_node_state.proofs.Kept.{shown, shows_it}
use Rattle.pg_node_state.proofs.Steady.{live_stays}
use Rattle.pg_node_state.proofs.state.first.ask_first.Goals as goal

pub ask-requires : goal.ask-requires
ask-requires c =
    let old = c.args.opens.now in
    let new = c.start.new.self in
    let first : Node = name_at (names_of old) c.args.first in
    let waiting : WaitsWith (stages_of old c.args.op) = waits_with (stages_of old c.args.op) c.requires.waits in
    let s : State = (new_attempt first c.args.op waiting.update (shown old)).state in
    let begun : Shows new s = c.start.ensures.turned waiting.update waiting.is (shown old) (shows_it old) in
    let lock : ℕ = references_of old + 1 in
    let number : c.references-number.result ≡ lock = c.references-number.ensures ∙ sym begun.references in
    record {
      locking = ap (λ n. is_locking (uses_of new n)) number ∙ (ap (λ (f : ℕ → Use). is_locking (f lock)) (sym begun.uses)
          ∙ ap is_locking (upd_at nat_eq (uses_of old) lock (Locking c.args.op waiting.update first (λ q. Unasked)) (eq-eqb lock lock refl)));
      who = grind (arith, nat_tests, c.requires.place, ap (λ (ns : List Node). length ns) c.start.ensures.nodes);
    }

pub returns-clause-turned : goal.returns-clause-turned
returns-clause-turned c = λ update is s h would.
    let old = c.args.opens.now in
    let new = c.start.new.self in
    let m : Nodes = live_of old in
    let first : Node = greatest m in
    let s1 : State = (new_attempt first c.args.op update s).state in
    let begun : Shows new s1 = subst (λ (q : Node). Shows new (new_attempt q c.args.op update s).state) c.requires.greatest (c.start.ensures.turned update is s h) in
    let lock : ℕ = s.references + 1 in
    let number : c.references-number.result ≡ lock = c.references-number.ensures ∙ sym begun.references in
    let used : uses_of new c.references-number.result ≡ Locking c.args.op update first (λ q. Unasked) =
    ap (λ n. uses_of new n) number ∙ (ap (λ (f : ℕ → Use). f lock) (sym begun.uses) ∙ upd_at nat_eq s.uses lock (Locking c.args.op update first (λ q. Unasked)) (eq-eqb lock lock refl)) in
    let same : live_of new ≡ m = live_stays old new s1 begun c.start.ensures.nodes h.lost_peers in
    let who : whom (names_of new) (One c.args.first) ≡ same_atom first = (λ i. same_atom ((ap (λ (ns : List Node). name_at ns c.args.first) c.start.ensures.nodes ∙ c.requires.greatest) i)) in
    let asked : Shows c.ask.new.self (ask (live_of new) (whom (names_of new) (One c.args.first)) c.references-number.result c.args.op update first (λ q. Unasked) s1).state =
    c.ask.ensures.turned c.args.op update first (λ q. Unasked) used s1 begun (ap (λ (n : Nodes). would_grant n s1 (name_of update)) same ∙ would) in
    subst (λ (n : Nodes). Shows c.ask.new.self (ask n (same_atom first) lock c.args.op update first (λ q. Unasked) s1).state) same
    (subst (λ (w : Node → Bool). Shows c.ask.new.self (ask (live_of new) w lock c.args.op update first (λ q. Unasked) s1).state) who
    (subst (λ (n : ℕ). Shows c.ask.new.self (ask (live_of new) (whom (names_of new) (One c.args.first)) n c.args.op update first (λ q. Unasked) s1).state) number asked))
