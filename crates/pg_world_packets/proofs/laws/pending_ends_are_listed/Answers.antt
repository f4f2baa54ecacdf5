use Rattle.std.proofs.Common.{◌≡◌, ℕ, [], true, sym, subst}
use Rattle.pg_term.specs.declared.pid.Pid.{Pid}
use Rattle.pg_node_state.specs.PgEnds.Numbers.{is_among}
use Rattle.pg_node_state.specs.PgStep.Machines.Losing.{all_steps}
use Rattle.pg_node_state.specs.PgStep.LossLaws.{LosingFrameWorld}
use Rattle.pg_laws_losses.specs.PgLaws.WithLosses.{NonePendingLive}
use Rattle.pg_laws_losses.specs.Reached.{LosingReaches}
use Rattle.pg_world_packets.specs.Losing.{losing_of}
use Rattle.pg_world_packets.specs.Pending.{IsPending}
use Rattle.pg_world_packets.proofs.Listed.{EndedWereMade, Numbered, empty_list, is_listed, listed_is}
use Rattle.pg_world_packets.proofs.Listed.{none_listed, none_of_plain, plain_none, reached_so}
use Rattle.pg_world_packets.proofs.laws.pending_ends_are_listed.Goals as goal

pub returns-clause-listed : goal.returns-clause-listed
returns-clause-listed c = λ config nodes lost frames u events pid shows is reached.
    let reaches : LosingReaches config events (losing_of config frames lost) = subst (LosingReaches config events) is reached in
    let numbered : Numbered = λ (made : ℕ) (pid : Pid) (among : is_among made pid ≡ true). (c.numbered_from_one.ensures.first made pid among, c.numbered_from_one.ensures.last made pid among, c.numbered_from_one.ensures.only made pid among) in
    let made : EndedWereMade config frames = λ (i : ℕ) (pid : Pid). c.ended_processes_were_made_past_losses.ensures config (losing_of config frames lost) events i pid shows.apart reaches in (
      λ listed. subst (λ (v : LosingFrameWorld). IsPending config v pid) (sym is) (listed_is config frames nodes lost shows pid listed),
      λ pending. is_listed config frames nodes lost shows numbered made pid (subst (λ (v : LosingFrameWorld). IsPending config v pid) is pending),
    )

pub returns-clause-none : goal.returns-clause-none
returns-clause-none c = λ config nodes lost frames u events shows is reached.
    let reaches : LosingReaches config events (losing_of config frames lost) = subst (LosingReaches config events) is reached in
    let numbered : Numbered = λ (made : ℕ) (pid : Pid) (among : is_among made pid ≡ true). (c.numbered_from_one.ensures.first made pid among, c.numbered_from_one.ensures.last made pid among, c.numbered_from_one.ensures.only made pid among) in
    let made : EndedWereMade config frames = λ (i : ℕ) (pid : Pid). c.ended_processes_were_made_past_losses.ensures config (losing_of config frames lost) events i pid shows.apart reaches in (
      λ none. subst (NonePendingLive config) (sym is) (none_listed config frames nodes lost shows numbered made none),
      λ none. empty_list config frames nodes lost shows (subst (NonePendingLive config) is none),
    )

pub returns-clause-unlost : goal.returns-clause-unlost
returns-clause-unlost c = λ config nodes w events shows reached.
    let reaches = reached_so config events w reached in
    let numbered : Numbered = λ (made : ℕ) (pid : Pid) (among : is_among made pid ≡ true). (c.numbered_from_one.ensures.first made pid among, c.numbered_from_one.ensures.last made pid among, c.numbered_from_one.ensures.only made pid among) in
    let made : EndedWereMade config w = λ (i : ℕ) (pid : Pid). c.ended_processes_were_made_past_losses.ensures config (losing_of config w []) (all_steps events) i pid shows.apart reaches in (
      λ none. plain_none config w (none_listed config w nodes [] shows numbered made none),
      λ none. empty_list config w nodes [] shows (none_of_plain config w none),
    )
