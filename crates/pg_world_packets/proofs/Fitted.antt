-- When a packet that can be said fits into a frame.
use Rattle.std.proofs.Common.{◌≡◌, ◌≤◌, ℕ, Bool, true, false, cond, nat_lt}
use Rattle.std.proofs.Common.{length, List, Some, Result, Ok, Err, refl, ap, ◌∙◌}
use Rattle.std.specs.Prelude.{slice_get}
use Rattle.std.proofs.lemmas.Bool.{le-leb, ltb-true}
use Rattle.pg_node_state.specs.PgGroup.Table.{Table}
use Rattle.pg_node_state.specs.PgMessageTypes.declared.fault.MessageFault.{MessageFault}
use Rattle.pg_node_state.specs.PgMessageTypes.declared.fault.MessageFault.TheVariants as faults
use Rattle.pg_term.specs.declared.fault.TermFault.TheVariants as terms
use Rattle.pg_node_state.specs.PgMessageTypes.declared.packet.Packet.{Packet}
use Rattle.pg_node_state.specs.PgMessageTypes.Limits.{max_stamp}
use Rattle.pg_node_state.specs.PgMessageTypes.Reading.{is_named_once}
use Rattle.pg_node_state.specs.PgMessageTypes.Writing.{is_sayable, body_of, length_of, sent, term_of_packet}
use Rattle.pg_node_state.proofs.PgMessageTypes.ReadBack.{read_back}
use Rattle.pg_node_state.specs.PgNodeSends.Opening.{IsAnnouncement}
use Rattle.pg_node_state.specs.PgStep.Nodes.{Node}
use Rattle.pg_node_state.specs.PgTermIo.Limits.{max_len}
use Rattle.pg_node_state.specs.PgTermIo.Writing.{written}
use Rattle.pg_world_config.specs.declared.fault.WorldFault.{WorldFault}
use Rattle.pg_world_config.specs.declared.fault.WorldFault.TheVariants.{BadConfig, NameTooLarge}
use Rattle.pg_world_config.specs.declared.fault.WorldFault.TheVariants.{BadCapacity, TooLong, OutOfMemory}
use Rattle.pg_world_config.specs.Configs.{are_names}
use Rattle.pg_world_packets.specs.Fitting.{IsOverlong}
use Rattle.pg_world_packets.specs.Openings.{TellsNames, CantOpen, SomeCantOpen}
use Rattle.pg_world_config.specs.Seen.{Seen}
use Rattle.pg_world_config.proofs.Deciding.{both, named_once}

body_is : (p : Packet) → is_sayable p.message ≡ true → p.stamp ≤ max_stamp → body_of p ≡ sent (Ok p) (written (term_of_packet p))
body_is p named stamp =
    ap (λ (r : Result Packet MessageFault). sent r (written (term_of_packet p)))
    (read_back p ∙ (λ i. cond (named i) (cond (le-leb p.stamp max_stamp stamp i) (Ok p) (Err faults.StampTooLarge)) (Err faults.NotAMessage)))

-- one that has no length is too long
pub has_none : (p : Packet) (fault : MessageFault) → is_sayable p.message ≡ true → p.stamp ≤ max_stamp → Err fault ≡ length_of (body_of p) → IsOverlong p
has_none p fault named stamp e = go (nat_lt max_len (length (written (term_of_packet p)))) refl (e ∙ ap length_of (body_is p named stamp))
  where
    go : (b : Bool) → nat_lt max_len (length (written (term_of_packet p))) ≡ b → Err fault ≡ length_of (cond b (Err (faults.Term terms.TooLong)) (Ok (written (term_of_packet p)))) → IsOverlong p
    go true t f = ltb-true max_len (length (written (term_of_packet p))) t
    go false t f = absurd cc

-- what a node tells as it begins can be said
pub said_all : (table : Table) (own : Node) (packet : Packet) → TellsNames table → IsAnnouncement table own packet → is_sayable packet.message ≡ true
said_all table own packet named is =
    ap (λ (p : Packet). is_sayable p.message) is.2 ∙ both (are_names is.0) (is_named_once is.0) (named is.0 is.1) (named_once is.0 is.1.names.once)

pub some_cant : (nodes : List Seen) (i : ℕ) (node : Seen) (fault : WorldFault) → slice_get nodes i ≡ Some node → CantOpen node fault → SomeCantOpen nodes fault
some_cant nodes i node OutOfMemory at cant = tt
some_cant nodes i node TooLong at cant = (i, node, at, cant)
some_cant nodes i node BadConfig at cant = absurd cant
some_cant nodes i node NameTooLarge at cant = absurd cant
some_cant nodes i node BadCapacity at cant = absurd cant
