-- What stays as it was where the open commands change by a turn that loses no peer.
use Rattle.std.proofs.Common.{◌≡◌, ◌≤◌, ◌*◌, ◌+◌, ℕ, Bool, true, not, drop, List, length, Option, sym, ap, ◌∙◌, subst}
use Rattle.std.specs.List.{filter}
use Rattle.pg_node_ports.specs.PgGroup.declared.update.Update.{Update}
use Rattle.pg_node_ports.specs.PgNodeOpens.declared.opens.Opens.{Opens}
use Rattle.pg_node_ports.specs.PgNodeOpens.Opens.{Shows, names_of, lost_of, live_of, references_of, uses_of, stages_of}
use Rattle.pg_node_ports.specs.PgNodeOpens.Places.{name_at}
use Rattle.pg_node_ports.specs.PgStep.declared.command.OpId.{OpId}
use Rattle.pg_node_ports.specs.PgStep.Nodes.{Node}
use Rattle.pg_node_ports.specs.PgStep.State.{State}
use Rattle.pg_node_state.specs.Ports.{merged_in, AreGiven}
use Rattle.pg_node_state.proofs.Given.{given_same}

module _ (old new : Opens) (s : State) (h : Shows new s) (nodes : names_of new ≡ names_of old) where
  pub peers_stay : (marks : List Bool) → length marks + 1 ≡ length (names_of old) → length marks + 1 ≡ length (names_of new)
  peers_stay marks e = e ∙ sym (ap (λ (ns : List Node). length ns) nodes)

  pub own_stays : (own : Node) → own ≡ name_at (names_of old) 0 → own ≡ name_at (names_of new) 0
  own_stays own e = e ∙ sym (ap (λ (ns : List Node). name_at ns 0) nodes)

  pub merged_stay : (marks : List Bool) → merged_in (names_of new) marks ≡ merged_in (names_of old) marks
  merged_stay marks = ap (λ (ns : List Node). merged_in ns marks) nodes

  pub lost_stay : s.lost ≡ lost_of old → (marks : List Bool) → ((q : Node) → lost_of old q ≡ true → merged_in (names_of old) marks q ≡ true)
      → (q : Node) → lost_of new q ≡ true → merged_in (names_of new) marks q ≡ true
  lost_stay same marks each q lost = ap (λ (f : Node → Bool). f q) (merged_stay marks) ∙ each q (ap (λ (f : Node → Bool). f q) (sym same ∙ h.lost_peers) ∙ lost)

  pub made_stay : (clock : ℕ) → s.references ≤ 2 * clock → references_of new ≤ 2 * clock
  made_stay clock e = subst (λ n. n ≤ 2 * clock) h.references e

  pub given_stay : {came : OpId → Option Update → Type 0} → AreGiven came s.uses s.stages → AreGiven came (uses_of new) (stages_of new)
  given_stay given = given_same h.uses h.stages given

  -- the same nodes count
  pub live_stays : s.lost ≡ lost_of old → live_of new ≡ live_of old
  live_stays same = λ i. record { own = name_at (nodes i) 0; peers = filter (λ q. not ((sym h.lost_peers ∙ same) i q)) (drop 1 (nodes i)) }
