-- Packets that tell of few members of a group.
use Rattle.std.specs.Prelude.{◌≡◌, ◌^◌, ℕ, List, refl}
use Rattle.std.specs.List.{AllByRecursion, AllByRecursion-prop}
use Rattle.std.proofs.Math.Bridge.{le_prop}
use Rattle.pg_node_state.specs.PgMessageTypes.declared.message.Message.{Message}
use Rattle.pg_node_state.specs.PgMessageTypes.declared.message.Message.TheVariants.{Call, Reply, DelLock, Exchange, Down}
use Rattle.pg_node_state.specs.PgMessageTypes.declared.packet.Packet.{Packet}
use Rattle.pg_node_state.specs.PgMessageTypes.Members.{IsShort}

-- no group in any of these has more than 2^32 members
abbrev pub HaveShortGroups : List Packet → Type 0
HaveShortGroups packets = AllByRecursion (λ (packet : Packet). IsShort (2 ^ 32) packet.message) packets

pub IsShort-prop : (limit : ℕ) (message : Message) → (a b : IsShort limit message) → a ≡ b
IsShort-prop limit (Exchange node groups) = AllByRecursion-prop _ (λ group. le_prop) groups
IsShort-prop limit (Call reference request) = λ a b. refl
IsShort-prop limit (Reply reference said) = λ a b. refl
IsShort-prop limit (DelLock name reference) = λ a b. refl
IsShort-prop limit (Down pid) = λ a b. refl

pub HaveShortGroups-prop : (packets : List Packet) → (a b : HaveShortGroups packets) → a ≡ b
HaveShortGroups-prop packets = AllByRecursion-prop _ (λ packet. IsShort-prop (2 ^ 32) packet.message) packets
