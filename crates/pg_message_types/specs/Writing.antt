-- The one written form of a packet, and when it may be sent.
use Rattle.std.specs.Prelude.{ℕ, pos, List, [], ◌∷◌, ◌++◌, length, map, codes, Bool, true}
use Rattle.std.specs.Prelude.{false, ◌&&◌, nat_lt, nat_le, Result, Ok, Err, if◌then◌else◌}
use Rattle.std.specs.Int.{w32, to_be_bytes}
use Rattle.std.specs.List.{list_all}
use Rattle.pg_term.specs.declared.fault.TermFault.TheVariants as terms
use Rattle.pg_term.specs.declared.pid.Pid.{Pid}
use Rattle.pg_term.specs.declared.term.Term.{Term, Tuple, List as Listed}
use Rattle.pg_term.specs.declared.term.Term.TheVariants.{Int, Atom, Ref, Pid as Process}
use Rattle.pg_term_io.specs.Limits.{max_len}
use Rattle.pg_term_io.specs.Writing.{written}
use Rattle.pg_group.specs.declared.update.Update.{Update}
use Rattle.pg_group.specs.declared.update.Update.TheVariants.{Create, Delete, Join, Leave}
use Rattle.pg_group.specs.Value.{name_of}
use Rattle.pg_message_types.specs.declared.fault.MessageFault.{MessageFault}
use Rattle.pg_message_types.specs.declared.fault.MessageFault.TheVariants as faults
use Rattle.pg_message_types.specs.declared.message.Message.{Message}
use Rattle.pg_message_types.specs.declared.message.Message.TheVariants.{Call, Reply, DelLock, Exchange, Down}
use Rattle.pg_message_types.specs.declared.message.Request.{Request}
use Rattle.pg_message_types.specs.declared.message.Request.TheVariants.{SetLock, Change}
use Rattle.pg_message_types.specs.declared.message.Said.{Said}
use Rattle.pg_message_types.specs.declared.message.Said.TheVariants.{Granted, Denied, Applied}
use Rattle.pg_message_types.specs.declared.packet.Packet.{Packet}
use Rattle.pg_message_types.specs.Limits.{max_stamp}
use Rattle.pg_message_types.specs.Name.{is_name}
use Rattle.pg_message_types.specs.Reading.{packet_of, is_named_once}

-- ---- the term of a packet

abbrev pub pair : Term → Term → Term
pair a b = Tuple (a ∷ b ∷ [])

abbrev pub triple : Term → Term → Term → Term
triple a b c = Tuple (a ∷ b ∷ c ∷ [])

-- {create, Name}, {delete, Name}, {join, Name, Pid}, {leave, Name, Pid}
abbrev pub update_term : Update → Term
update_term (Create name) = pair (Atom (codes "create")) name
update_term (Delete name) = pair (Atom (codes "delete")) name
update_term (Join name pid) = triple (Atom (codes "join")) name (Process pid)
update_term (Leave name pid) = triple (Atom (codes "leave")) name (Process pid)

-- {set_lock, Name}, or an update
abbrev pub request_term : Request → Term
request_term (SetLock name) = pair (Atom (codes "set_lock")) name
request_term (Change update) = update_term update

-- true, false, ok
abbrev pub said_term : Said → Term
said_term Granted = Atom (codes "true")
said_term Denied = Atom (codes "false")
said_term Applied = Atom (codes "ok")

-- [Name, Members]
abbrev pub group_term : Term × List Pid → Term
group_term group = Listed (group.0 ∷ Listed (map Process group.1) ∷ [])

-- {cast, Cast}
abbrev pub cast_term : Term → Term
cast_term said = pair (Atom (codes "cast")) said

-- {call, Ref, Request}, {reply, Ref, Said}, {cast, {del_lock, Name, Ref}}, {cast, {exchange, Node, Groups}}, {down, Pid}
abbrev pub message_term : Message → Term
message_term (Call reference request) = triple (Atom (codes "call")) (Ref reference) (request_term request)
message_term (Reply reference said) = triple (Atom (codes "reply")) (Ref reference) (said_term said)
message_term (DelLock name reference) = cast_term (triple (Atom (codes "del_lock")) name (Ref reference))
message_term (Exchange node groups) = cast_term (triple (Atom (codes "exchange")) (Atom node) (Listed (map group_term groups)))
message_term (Down pid) = pair (Atom (codes "down")) (Process pid)

-- {Stamp, Message}
abbrev pub term_of_packet : Packet → Term
term_of_packet p = pair (Int (pos p.stamp)) (message_term p.message)

abbrev pub is_exchange : Message → Bool
is_exchange (Exchange node groups) = true
is_exchange message = false

-- ---- when it may be sent

-- each name in it is a name, and no group is named twice
abbrev pub is_sayable : Message → Bool
is_sayable (Call reference (SetLock name)) = is_name name
is_sayable (Call reference (Change update)) = is_name (name_of update)
is_sayable (Reply reference said) = true
is_sayable (DelLock name reference) = is_name name
is_sayable (Exchange node groups) = list_all (λ group. is_name group.0) groups && is_named_once groups
is_sayable (Down pid) = true

-- the packet itself, or why it may not be sent
abbrev pub sendable : Packet → Result Packet MessageFault
sendable p =
    if is_sayable p.message then (if nat_le p.stamp max_stamp then Ok p else Err faults.StampTooLarge)
    else Err faults.NotAMessage

abbrev pub sent : Result Packet MessageFault → List ℕ → Result (List ℕ) MessageFault
sent (Ok p) body = if nat_lt max_len (length body) then Err (faults.Term terms.TooLong) else Ok body
sent (Err fault) body = Err fault

-- the body of a packet: what is written for its term. There is none where that term is read as no packet, or where it
-- takes more than 16,777,216 bytes
abbrev pub body_of : Packet → Result (List ℕ) MessageFault
body_of p = sent (packet_of (term_of_packet p)) (written (term_of_packet p))

-- how many bytes a body takes
abbrev pub length_of : Result (List ℕ) MessageFault → Result ℕ MessageFault
length_of (Ok body) = Ok (length body)
length_of (Err fault) = Err fault

-- four bytes of length, the highest first, and the body
abbrev pub framed : List ℕ → List ℕ
framed body = to_be_bytes w32 (length body) ++ body

-- characters that are their own UTF-8
abbrev pub is_plain : List ℕ → Bool
is_plain text = list_all (λ c. nat_lt c 128) text
