-- What steps over bytes made of a world with a past.
use Rattle.std.proofs.Common.{ℕ, List, ◌++◌}
use Rattle.pg_world_packets.specs.PgStep.Machines.Losing.{nobody_gone}
use Rattle.pg_world_packets.specs.PgStep.Machines.Machine.{start_of}
use Rattle.pg_world_packets.specs.PgStep.Config.{Config}
use Rattle.pg_world_packets.specs.PgStep.FrameMachine.{losing_frame_machine}
use Rattle.pg_world_packets.specs.PgStep.LossLaws.{LosingFrameWorld}
use Rattle.pg_world.specs.declared.step.Step.{Step}
use Rattle.pg_world.specs.BytesLosing.{ShowsLosingBytes}
use Rattle.pg_world_packets.specs.Losing.{IsReachedLosing}
use Rattle.pg_world.specs.BytesPast.{BytesHavePast, BytesRunOn}
use Rattle.pg_world.specs.Crossings.{Crossing}
use Rattle.pg_world.specs.CrossingRuns.{CrossesTo}
use Rattle.pg_world_packets.specs.Past.{HistoriesGrow}
use Rattle.pg_world_packets.specs.PgWorldAccount.Histories.{Account}
use Rattle.pg_world_packets.proofs.Leading.{Survive, histories_grow, leads_on, past_of}
use Rattle.pg_world.proofs.over_bytes.Chained.{chain_leads}
use Rattle.pg_world.proofs.over_bytes.Leading.{shown_history}

pub bytes_run_on : (given : Config) → Survive → (room : ℕ) (old : Crossing) (account : Account) (lost : List ℕ) (all : List Step) (numbers : List ℕ) (new : Crossing) (after : Account) (now : List ℕ)
    → ((config : Config) (u : LosingFrameWorld) → IsReachedLosing config u → ShowsLosingBytes config old account lost u → CrossesTo config room old u all numbers new (ShowsLosingBytes config new after now))
    → BytesHavePast given old account lost → BytesRunOn given room old account lost all numbers new after now
bytes_run_on given survive room old account lost all numbers new after now came past =
    let goes = came past.config past.u (past.events, past.is.reached) past.is.shows in
    let led = chain_leads past.config room all numbers old new past.u goes.left goes.events goes.chain in
    record {
      config = past.config;
      events = past.events;
      u = past.u;
      past = past.is;
      more = goes.events;
      v = goes.left;
      chain = goes.chain;
      later = past_of given (λ config u. ShowsLosingBytes config new after now u) (λ config u shows. shows.shows.traffic.nodes.apart) survive past.config (past.events ++ goes.events) goes.left past.is.orders
          (leads_on past.config past.events goes.events (nobody_gone (start_of (losing_frame_machine past.config))) past.u goes.left past.is.reached led) goes.shown;
    }

pub bytes_run_grows : (given : Config) (room : ℕ) (old new : Crossing) (account after : Account) (lost now : List ℕ) (all : List Step) (numbers : List ℕ) → BytesRunOn given room old account lost all numbers new after now → HistoriesGrow account after
bytes_run_grows given room old new account after lost now all numbers ran =
    histories_grow ran.config account after ran.u ran.v ran.more (shown_history ran.config old account lost ran.u ran.past.shows) (shown_history ran.config new after now ran.v ran.later.shows)
    (chain_leads ran.config room all numbers old new ran.u ran.v ran.more ran.chain)
