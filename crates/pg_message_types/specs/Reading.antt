-- Which packet a term is: the one table of the messages between nodes. A packet is {Stamp, Message}, where Stamp is the
-- clock of the sender. The messages say what OTP's pg2 says through gen_server and global: {call, Ref, Request} and
-- {reply, Ref, Reply} are a call and its reply, {cast, Message} is a message without a reply; {down, Pid} stands for pg2's
-- monitors. The tuples around them are this project's own.
use Rattle.std.specs.Prelude.{◌≡◌, ℕ, pos, List, [], ◌∷◌, codes, Bool, true, not, ◌&&◌}
use Rattle.std.specs.Prelude.{nat_le, Option, Some, None, Result, Ok, Err, if◌then◌else◌}
use Rattle.std.specs.List.{list_any}
use Rattle.std.specs.Option.{option_and_then, option_map}
use Rattle.pg_term.specs.declared.fault.TermFault.{TermFault}
use Rattle.pg_term.specs.declared.pid.Pid.{Pid}
use Rattle.pg_term.specs.declared.term.Term.{Term, out-Term}
use Rattle.pg_term.specs.declared.term.Term.TheOpen.{Term-F}
use Rattle.pg_term.specs.RefParts.{RefParts}
use Rattle.pg_term.specs.Same.{same_term}
use Rattle.pg_term_io.specs.Reading.{term_of}
use Rattle.pg_term_io.specs.Spelling.{Spells}
use Rattle.pg_group.specs.declared.update.Update.TheVariants.{Create, Delete, Join, Leave}
use Rattle.pg_message_types.specs.declared.fault.MessageFault.{MessageFault}
use Rattle.pg_message_types.specs.declared.fault.MessageFault.TheVariants as faults
use Rattle.pg_message_types.specs.declared.message.Message.{Message}
use Rattle.pg_message_types.specs.declared.message.Message.TheVariants.{Call, Reply, DelLock, Exchange, Down}
use Rattle.pg_message_types.specs.declared.message.Request.{Request}
use Rattle.pg_message_types.specs.declared.message.Request.TheVariants.{SetLock, Change}
use Rattle.pg_message_types.specs.declared.message.Said.{Said}
use Rattle.pg_message_types.specs.declared.message.Said.TheVariants.{Granted, Denied, Applied}
use Rattle.pg_message_types.specs.declared.packet.Packet.{Packet}
use Rattle.pg_message_types.specs.Limits.{max_stamp}
use Rattle.pg_message_types.specs.Name.{is_name}
use Rattle.pg_message_types.specs.Parts.{elements_of, items_of, is_word, atom_of, reference_of, pid_of}

-- ---- what a call asks for

-- {set_lock, Name}: the lock of global:trans/2. {create, Name} and {delete, Name}: create/1 and delete/1 of pg2
abbrev pub request_on : Term → Term → Option Request
request_on word name =
    if is_word word (codes "set_lock") then Some (SetLock name)
    else if is_word word (codes "create") then Some (Change (Create name))
    else if is_word word (codes "delete") then Some (Change (Delete name))
    else None

-- {join, Name, Pid} and {leave, Name, Pid}: join/2 and leave/2 of pg2
abbrev pub membership_of : Term → Term → Pid → Option Request
membership_of word name pid =
    if is_word word (codes "join") then Some (Change (Join name pid))
    else if is_word word (codes "leave") then Some (Change (Leave name pid))
    else None

abbrev pub request_in : List Term → Option Request
request_in (word ∷ name ∷ []) = if is_name name then request_on word name else None
request_in (word ∷ name ∷ member ∷ []) = if is_name name then option_and_then (membership_of word name) (pid_of member) else None
request_in _ = None

abbrev pub request_of : Term → Option Request
request_of t = option_and_then request_in (elements_of t)

-- ---- what a reply says

-- true and false to set_lock, ok to an update
abbrev pub said_of : Term → Option Said
said_of t =
    if is_word t (codes "true") then Some Granted
    else if is_word t (codes "false") then Some Denied
    else if is_word t (codes "ok") then Some Applied
    else None

-- ---- what an exchange tells

-- groups with their members, each as often as it joined
abbrev pub Groups : Type 0
Groups = List (Term × List Pid)

-- what terms are one after the other, where each of them is something
abbrev pub read_each : {A : Type 0} → (Term → Option A) → List Term → Option (List A)
read_each read [] = Some []
read_each read (t ∷ ts) = option_and_then (λ x. option_map (λ xs. x ∷ xs) (read_each read ts)) (read t)

-- [Name, Members]
abbrev pub group_in : List Term → Option (Term × List Pid)
group_in (name ∷ members ∷ []) = if is_name name then option_map (λ pids. (name, pids)) (option_and_then (read_each pid_of) (items_of members)) else None
group_in _ = None

abbrev pub group_of : Term → Option (Term × List Pid)
group_of t = option_and_then group_in (items_of t)

-- no group is named twice
abbrev pub is_named_once : Groups → Bool
is_named_once [] = true
is_named_once (group ∷ groups) = not (list_any (λ other. same_term other.0 group.0) groups) && is_named_once groups

abbrev pub named_once : Groups → Option Groups
named_once groups = if is_named_once groups then Some groups else None

abbrev pub groups_of : Term → Option Groups
groups_of t = option_and_then named_once (option_and_then (read_each group_of) (items_of t))

-- ---- messages

-- {del_lock, Name, Ref}
abbrev pub freed : Term → Term → Option Message
freed name reference = if is_name name then option_map (DelLock name) (reference_of reference) else None

-- {exchange, Node, Groups}
abbrev pub read_exchange : Term → Term → Option Message
read_exchange node groups = option_and_then (λ node. option_map (Exchange node) (groups_of groups)) (atom_of node)

abbrev pub cast_in : List Term → Option Message
cast_in (word ∷ first ∷ second ∷ []) =
    if is_word word (codes "del_lock") then freed first second
    else if is_word word (codes "exchange") then read_exchange first second
    else None
cast_in _ = None

abbrev pub cast_of : Term → Option Message
cast_of t = option_and_then cast_in (elements_of t)

-- {call, Ref, Request} and {reply, Ref, Said}
abbrev pub referred : Term → RefParts → Term → Option Message
referred word reference said =
    if is_word word (codes "call") then option_map (Call reference) (request_of said)
    else if is_word word (codes "reply") then option_map (Reply reference) (said_of said)
    else None

-- {cast, Cast} and {down, Pid}
abbrev pub unreferred : Term → Term → Option Message
unreferred word said =
    if is_word word (codes "cast") then cast_of said
    else if is_word word (codes "down") then option_map Down (pid_of said)
    else None

abbrev pub message_in : List Term → Option Message
message_in (word ∷ said ∷ []) = unreferred word said
message_in (word ∷ reference ∷ said ∷ []) = option_and_then (λ r. referred word r said) (reference_of reference)
message_in _ = None

abbrev pub message_of : Term → Option Message
message_of t = option_and_then message_in (elements_of t)

-- ---- packets

-- an integer from 0 to the greatest clock
abbrev pub stamp_in : Term-F Term → Result ℕ MessageFault
stamp_in (Term-F.Int (pos n)) = if nat_le n max_stamp then Ok n else Err faults.StampTooLarge
stamp_in _ = Err faults.NotAMessage

abbrev pub stamp_of : Term → Result ℕ MessageFault
stamp_of t = stamp_in (out-Term t)

-- what is wrong with the stamp is told only where all else is right
abbrev pub stamped_message : Option Message → Result ℕ MessageFault → Result Packet MessageFault
stamped_message None stamp = Err faults.NotAMessage
stamped_message (Some message) (Ok stamp) = Ok (record { stamp = stamp; message = message })
stamped_message (Some message) (Err fault) = Err fault

-- {Stamp, Message}
abbrev pub packet_in : Option (List Term) → Result Packet MessageFault
packet_in (Some (stamp ∷ message ∷ [])) = stamped_message (message_of message) (stamp_of stamp)
packet_in _ = Err faults.NotAMessage

-- the packet that a term is, or why it is none
abbrev pub packet_of : Term → Result Packet MessageFault
packet_of t = packet_in (elements_of t)

-- ---- bytes

abbrev pub spelled : Result Term TermFault → Result Packet MessageFault
spelled (Ok t) = packet_of t
spelled (Err fault) = Err (faults.Term fault)

-- the packet that a body spells, or its first fault: those of its term, then those of the packet
abbrev pub packet_spelled : List ℕ → Result Packet MessageFault
packet_spelled body = spelled (term_of body)

-- the bytes spell a term that is read as the packet
pub record SpellsPacket (p : Packet) (body : List ℕ) : Type 0 where
  pub term : Term
  pub spelled : Spells term body
  pub read : packet_of term ≡ Ok p
