-- What holds once what follows was done.
use Rattle.std.specs.Prelude.{◌≡◌, ◌≢◌, ◌⊎◌, ◌<◌, ◌≤◌, ◌+◌, ℕ, true, length, [], Ok, None}
use Rattle.pg_node.specs.Nodes.{held_by, links_of, read_next}
use Rattle.pg_node.specs.PgNodeState.Issued.{ports_of}
use Rattle.pg_node.specs.PgNodeState.States.{answers_of}
use Rattle.pg_node_process.specs.Retries.{gives_way}
use Rattle.pg_process.specs.declared.process.Process.{Process}
use Rattle.pg_node.specs.PgGroup.Ended.{IsEndedCount}
use Rattle.pg_process.specs.Deeds.{MANY_ENDED, OLD_CLOCK, is_lost}
use Rattle.pg_process.specs.Locks.{IsDenied, is_formed}
use Rattle.pg_process.specs.Situations.{Setting, Situation, setting_of, situation_of}
use Rattle.pg_process.specs.Takings.{HasNone}

-- that the node is formed was said, once it is
abbrev pub IsToldFormed : Setting → Situation → Type 0
IsToldFormed set a = is_formed set a ≡ true → a.told.formed ≡ true

-- that the clock is old was told, once it is
abbrev pub IsToldOld : Situation → Type 0
IsToldOld a = OLD_CLOCK ≤ a.node.state.clock → a.told.old_clock ≡ true

-- that many processes have ended was told, once they are many
abbrev pub IsToldMany : Situation → Type 0
IsToldMany a = (count : ℕ) × IsEndedCount a.node.state.state.ended count × (MANY_ENDED ≤ count → a.told.many_ended ≡ true)

-- what is to be told once was told
pub record IsToldAll (a : Process) : Type 0 where
  pub formed : IsToldFormed (setting_of a) (situation_of a)
  pub old : IsToldOld (situation_of a)
  pub many : IsToldMany (situation_of a)

-- all whole packets of each peer were taken
abbrev pub NoneComes : Process → Type 0
NoneComes a = (peer : ℕ) → peer < length a.peers.items → HasNone peer a

-- no bytes wait for a peer
abbrev pub NoneWaits : Process → Type 0
NoneWaits a = (peer : ℕ) → peer < length a.peers.items → (links_of a.node peer).outbox ≡ []

-- each answer was said
abbrev pub NoneUnsaid : Process → Type 0
NoneUnsaid a = (port : ℕ) → port < ports_of (held_by a.node) → answers_of (held_by a.node) port ≡ []

-- a port keeps no change that it could hand over: where none is with the node and some wait, it gives way
abbrev pub KeepsNone : Situation → ℕ → Type 0
KeepsNone a port = (a.ports port).current ≡ None → (a.ports port).waiting ≢ [] → gives_way (a.courtesies port) ≡ true

-- none does
abbrev pub NoneKeeps : Process → Type 0
NoneKeeps a = (port : ℕ) → port < ports_of (held_by a.node) → KeepsNone (situation_of a) port

-- that the change of a port was denied its lock was told
abbrev pub IsToldDenied : Situation → ℕ → Type 0
IsToldDenied a port = (a.courtesies port).is_told ≡ true

-- of each change that was
abbrev pub AllToldDenied : Process → Type 0
AllToldDenied a = (port : ℕ) → port < ports_of (held_by a.node) → IsDenied (setting_of a) (situation_of a) port → IsToldDenied (situation_of a) port

-- nothing of another port is another
pub record OnlyPort (port : ℕ) (a b : Situation) : Type 0 where
  pub ports : (other : ℕ) → other ≢ port → b.ports other ≡ a.ports other
  pub courtesies : (other : ℕ) → other ≢ port → b.courtesies other ≡ a.courtesies other
  pub answers : (other : ℕ) → other ≢ port → b.node.answers other ≡ a.node.answers other

-- nothing but that changes were told to be denied is another
pub record OnlyDenied (a b : Situation) : Type 0 where
  pub rest : b ≡ record a { courtesies = b.courtesies }
  pub kept : (port : ℕ) → b.courtesies port ≡ record (a.courtesies port) { is_told = (b.courtesies port).is_told }
  pub lasts : (port : ℕ) → IsToldDenied a port → IsToldDenied b port

-- nothing but what is said once only is another
abbrev pub OnlyTold : Process → Process → Type 0
OnlyTold a b = situation_of b ≡ record (situation_of a) { told = b.told }

-- nothing but what stands in the links is another
abbrev pub OnlyLinks : Process → Process → Type 0
OnlyLinks a b = situation_of b ≡ record (situation_of a) { links = links_of b.node }

-- nothing but the outbox of one peer is another
pub record OnlySends (peer : ℕ) (a b : Process) : Type 0 where
  pub rest : OnlyLinks a b
  pub others : (other : ℕ) → other ≢ peer → links_of b.node other ≡ links_of a.node other
  pub kept : links_of b.node peer ≡ record (links_of a.node peer) { outbox = (links_of b.node peer).outbox }

-- What follows was done: all whole packets were taken, each answer was said, no port keeps a change that it could hand over, each change that
-- was denied its lock was told to be; that the node is formed was told, once it is, and each warning; and no bytes wait for a peer.
pub record IsSettled (a : Process) : Type 0 where
  pub taken : NoneComes a
  pub answered : NoneUnsaid a
  pub handed : NoneKeeps a
  pub denied : AllToldDenied a
  pub formed : IsToldFormed (setting_of a) (situation_of a)
  pub old : IsToldOld (situation_of a)
  pub many : IsToldMany (situation_of a)
  pub unsent : NoneWaits a

-- the same of what is kept alone
pub record IsAtRest (set : Setting) (a : Situation) : Type 0 where
  pub taken : (peer : ℕ) → peer + 1 < length set.names
      → (is_lost set a peer ≡ true) ⊎ (((a.links peer).damaged ≡ true) ⊎ (read_next (is_lost set a peer) (a.links peer) ≡ Ok None))
  pub answered : (port : ℕ) → port < set.ports → a.node.answers port ≡ []
  pub handed : (port : ℕ) → port < set.ports → KeepsNone a port
  pub denied : (port : ℕ) → port < set.ports → IsDenied set a port → IsToldDenied a port
  pub formed : IsToldFormed set a
  pub old : IsToldOld a
  pub many : IsToldMany a
  pub unsent : (peer : ℕ) → peer + 1 < length set.names → (a.links peer).outbox ≡ []
