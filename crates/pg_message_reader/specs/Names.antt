-- The names of a packet that its term spells where all else in it is right, and whether it is seen without memory that they are names, each once.
use Rattle.std.specs.Prelude.{◌≡◌, ℕ, List, [], ◌∷◌, ◌++◌, take, codes, Bool, true, false, nat_eq, ◌&&◌}
use Rattle.std.specs.Prelude.{Option, Some, None, is_some, Result, Ok, Err, IsOk, if◌then◌else◌}
use Rattle.std.specs.List.{list_all}
use Rattle.std.specs.Option.{option_and_then}
use Rattle.pg_term.specs.declared.fault.TermFault.TheVariants.{OutOfMemory}
use Rattle.pg_term.specs.declared.term.Term.{Term as Spelled}
use Rattle.pg_term.specs.Order.{kind_of}
use Rattle.pg_term.specs.Same.{term_cmp}
use Rattle.pg_term_io.specs.Reading.{term_of}
use Rattle.pg_message_types.specs.declared.fault.MessageFault.{MessageFault}
use Rattle.pg_message_types.specs.declared.fault.MessageFault.TheVariants.{Term, StampTooLarge}
use Rattle.pg_message_types.specs.Groups.{is_less}
use Rattle.pg_message_types.specs.Parts.{elements_of, items_of, is_word, atom_of, reference_of, pid_of}
use Rattle.pg_message_types.specs.Reading.{request_on, membership_of, stamp_of}

-- the terms in a tuple or a list; none in what is none
abbrev pub all_in : Option (List Spelled) → List Spelled
all_in (Some terms) = terms
all_in None = []

-- what stands in the place of names: the first element of each group
abbrev pub firsts : List Spelled → List Spelled
firsts [] = []
firsts (group ∷ groups) = take 1 (all_in (items_of group)) ++ firsts groups

abbrev pub names_of_groups : Spelled → List Spelled
names_of_groups groups = firsts (all_in (items_of groups))

-- {del_lock, Name, Ref}
abbrev pub names_of_freed : Spelled → Spelled → List Spelled
names_of_freed name reference = if is_some (reference_of reference) then name ∷ [] else []

-- {exchange, Node, Groups}
abbrev pub names_of_exchange : Spelled → Spelled → List Spelled
names_of_exchange node groups = if is_some (atom_of node) then names_of_groups groups else []

abbrev pub names_of_cast : List Spelled → List Spelled
names_of_cast (word ∷ first ∷ second ∷ []) =
    if is_word word (codes "del_lock") then names_of_freed first second
    else if is_word word (codes "exchange") then names_of_exchange first second
    else []
names_of_cast _ = []

-- {set_lock, Name}, {create, Name} and {delete, Name}; {join, Name, Pid} and {leave, Name, Pid}
abbrev pub names_of_request : List Spelled → List Spelled
names_of_request (word ∷ name ∷ []) = if is_some (request_on word name) then name ∷ [] else []
names_of_request (word ∷ name ∷ member ∷ []) = if is_some (option_and_then (membership_of word name) (pid_of member)) then name ∷ [] else []
names_of_request _ = []

-- {call, Ref, Request}
abbrev pub names_of_call : Spelled → Spelled → Spelled → List Spelled
names_of_call word reference said =
    if is_some (reference_of reference) then (if is_word word (codes "call") then names_of_request (all_in (elements_of said)) else [])
    else []

-- {cast, Cast}, and {call, Ref, Request}; no other message has names
abbrev pub names_of_message : List Spelled → List Spelled
names_of_message (word ∷ said ∷ []) = if is_word word (codes "cast") then names_of_cast (all_in (elements_of said)) else []
names_of_message (word ∷ reference ∷ said ∷ []) = names_of_call word reference said
names_of_message _ = []

abbrev pub is_too_large : MessageFault → Bool
is_too_large StampTooLarge = true
is_too_large _ = false

-- a stamp, be it too large or not
abbrev pub may_stamp : Result ℕ MessageFault → Bool
may_stamp (Ok stamp) = true
may_stamp (Err fault) = is_too_large fault

-- {Stamp, Message}
abbrev pub names_of_packet : List Spelled → List Spelled
names_of_packet (stamp ∷ message ∷ []) = if may_stamp (stamp_of stamp) then names_of_message (all_in (elements_of message)) else []
names_of_packet _ = []

abbrev pub is_atom : Spelled → Bool
is_atom name = nat_eq (kind_of name) 1

-- each is less than the next in the order of terms
abbrev pub do_ascend : List Spelled → Bool
do_ascend (name ∷ next ∷ names) = is_less (term_cmp name next) && do_ascend (next ∷ names)
do_ascend names = true

-- atoms, in the order of terms: that they are names, each once, is seen without memory
abbrev pub are_plain : List Spelled → Bool
are_plain names = list_all is_atom names && do_ascend names

-- a body that spells a term in which names have to be built, to be measured or compared
pub record NeedsNames (body : List ℕ) : Type 0 where
  pub term : Spelled
  pub spelled : term_of body ≡ Ok term
  pub not_plain : are_plain (names_of_packet (all_in (elements_of term))) ≡ false

-- an answer, or memory ran out for names that need some
abbrev pub Tells : {E : Type 0} → List Spelled → Bool → Result Bool E → Type 0
Tells names truth (Ok answer) = answer ≡ truth
Tells names truth (Err e) = are_plain names ≡ false

-- whether there is a packet, or its fault, or memory ran out for names that need some
abbrev pub Checks : {U Y : Type 0} → List Spelled → Result Y MessageFault → Result U MessageFault → Type 0
Checks names told (Ok done) = IsOk told
Checks names told (Err (Term OutOfMemory)) = are_plain names ≡ false
Checks names told (Err fault) = told ≡ Err fault

-- whether there is a value, or the fault
abbrev pub Judges : {U Y : Type 0} → Result Y MessageFault → Result U MessageFault → Type 0
Judges told (Ok done) = IsOk told
Judges told (Err fault) = told ≡ Err fault
