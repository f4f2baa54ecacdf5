-- Why what a node announces can't be written.
use Rattle.std.proofs.Common.{◌≡◌, ℕ, ◌+◌, ◌<◌, ◌≤◌, Bool, true, false, ◌&&◌, ◌||◌, List, [], ◌∷◌}
use Rattle.std.proofs.Common.{map, length, min, refl, sym, ap, ◌∙◌, arith}
use Rattle.std.specs.Prelude.{codes, not, pos}
use Rattle.std.specs.List.{AllByRecursion, IsDistinct, list_any}
use Rattle.pg_term.specs.declared.fault.TermFault.TheVariants as terms
use Rattle.pg_term.specs.declared.pid.Pid.{Pid}
use Rattle.pg_term.specs.declared.term.Term.{Term, List as Listed}
use Rattle.pg_term.specs.declared.term.Term.TheVariants.{Atom, Int}
use Rattle.pg_term.specs.Same.{same_term}
use Rattle.pg_term.specs.contracts.term.TermEq.TheImpl.Laws as equality_laws
use Rattle.pg_node_state.specs.PgTermIo.Writing.{item_bytes, atom_bytes, written}
use Rattle.pg_node_state.specs.PgGroup.Table.{Table, GroupList}
use Rattle.pg_node_state.specs.PgMessageTypes.declared.fault.MessageFault.TheVariants as faults
use Rattle.pg_node_state.specs.PgMessageTypes.declared.message.Message.TheVariants.{Exchange}
use Rattle.pg_node_state.specs.PgMessageTypes.declared.packet.Packet.{Packet}
use Rattle.pg_node_state.specs.PgMessageTypes.Reading.{is_named_once}
use Rattle.pg_node_state.specs.PgMessageTypes.Writing.{group_term, cast_term, triple, term_of_packet, is_sayable}
use Rattle.pg_node_state.specs.PgExchange.GroupList.{IsSnapshot, announced_names}
use Rattle.pg_message_writer.proofs.Bodies.{written_len, unsayable, long, short}
use Rattle.pg_message_writer.proofs.Words.{pair_len, triple_len, atom_is, int_is, word_len}
use Rattle.pg_node.specs.Announced.{too_long, are_names, AreGroups}
use Rattle.pg_node.specs.Begun.{CantBegin, unsent}
use Rattle.pg_node_state.specs.declared.state.fault.NodeFault.TheVariants.{OutOfMemory, Message}
use Rattle.pg_node.proofs.Announced.Ordered.{in_order, list_order, pass_order, snapshot_of}

-- ---- a group that is named once

both : (b c : Bool) → b ≡ true → c ≡ true → (b && c) ≡ true
both true c e f = f
both false c e f = absurd cc

not_is : (b : Bool) → b ≡ false → not b ≡ true
not_is true e = absurd cc
not_is false e = refl

neither : (b c : Bool) → b ≡ false → c ≡ false → (b || c) ≡ false
neither true c e f = absurd cc
neither false c e f = f

differ : (group : Term × List Pid) (groups : GroupList) → AllByRecursion (λ name. same_term group.0 name ≡ false) (announced_names groups) → list_any (λ other. same_term other.0 group.0) groups ≡ false
differ group [] apart = refl
differ group (other ∷ groups) apart =
    neither (same_term other.0 group.0) (list_any (λ other. same_term other.0 group.0) groups) (equality_laws.laws-law.symm other.0 group.0 ∙ apart.0) (differ group groups apart.1)

named_once : (groups : GroupList) → IsDistinct same_term (announced_names groups) → is_named_once groups ≡ true
unfolding IsDistinct
named_once [] once = refl
named_once (group ∷ groups) once =
    both (not (list_any (λ other. same_term other.0 group.0) groups)) (is_named_once groups) (not_is (list_any (λ other. same_term other.0 group.0) groups) (differ group groups once.0)) (named_once groups once.1)

-- ---- what tells groups

abbrev telling : List ℕ → GroupList → Packet
telling own groups = record { stamp = 0; message = Exchange own groups }

telling_len : (own : List ℕ) (groups : GroupList) → length (written (term_of_packet (telling own groups))) ≡ 25 + length (atom_bytes own) + length (item_bytes (Listed (map group_term groups)))
telling_len own groups =
    let said : Term = triple (Atom (codes "exchange")) (Atom own) (Listed (map group_term groups)) in
    let whole : length (written (term_of_packet (telling own groups))) ≡ 3 + length (item_bytes (Int (pos 0))) + length (item_bytes (cast_term said)) = written_len (telling own groups) in
    let stamp : length (item_bytes (Int (pos 0))) ≡ 2 = ap length (int_is (pos 0)) in
    let cast : length (item_bytes (cast_term said)) ≡ 2 + length (item_bytes (Atom (codes "cast"))) + length (item_bytes said) = pair_len (Atom (codes "cast")) said in
    let first : length (item_bytes (Atom (codes "cast"))) ≡ 6 = word_len (codes "cast") refl (omega arith) in
    let parts : length (item_bytes said) ≡ 2 + length (item_bytes (Atom (codes "exchange"))) + length (item_bytes (Atom own)) + length (item_bytes (Listed (map group_term groups)))
    = triple_len (Atom (codes "exchange")) (Atom own) (Listed (map group_term groups)) in
    let second : length (item_bytes (Atom (codes "exchange"))) ≡ 10 = word_len (codes "exchange") refl (omega arith) in
    let name : length (item_bytes (Atom own)) ≡ length (atom_bytes own) = ap length (atom_is own) in
    omega (arith, whole, stamp, cast, first, parts, second, name)

and_false : (b c : Bool) → b ≡ false → (b && c) ≡ false
and_false true c e = absurd cc
and_false false c e = refl

module _ (table : Table) (own : List ℕ) (groups : GroupList) (are : AreGroups table groups) where
  told : GroupList
  told = in_order groups

  is : IsSnapshot table (in_order groups)
  is = snapshot_of table groups are

  sayable : are_names groups ≡ true → is_sayable (Exchange own (in_order groups)) ≡ true
  sayable pass = both (are_names (in_order groups)) (is_named_once (in_order groups)) (pass_order groups ∙ pass) (named_once (in_order groups) is.names.once)

  pub has_no_name : are_names groups ≡ false → CantBegin table own (Message faults.NotAMessage)
  has_no_name fails = (telling own (in_order groups), (in_order groups, is, refl), sym (ap unsent (unsayable (telling own (in_order groups)) (and_false (are_names (in_order groups)) (is_named_once (in_order groups)) (pass_order groups ∙ fails)))))

  module _ (pass : are_names groups ≡ true) (len : ℕ) (counted : len ≡ min (length (item_bytes (Listed (map group_term groups)))) too_long) where
    pub is_too_long : 16777216 < len + 25 + length (atom_bytes own) → CantBegin table own (Message (faults.Term terms.TooLong))
    is_too_long past = (telling own (in_order groups), (in_order groups, is, refl), sym (ap unsent (long (telling own (in_order groups)) (sayable pass) (omega arith) (omega (arith, telling_len own (in_order groups), list_order groups, counted, past)))))

    pub is_short : len + 25 + length (atom_bytes own) ≤ 16777216 → CantBegin table own OutOfMemory
    is_short few = (telling own (in_order groups), (in_order groups, is, refl), sym (ap unsent (short (telling own (in_order groups)) (sayable pass) (omega arith) (omega (arith, telling_len own (in_order groups), list_order groups, counted, few)))))
