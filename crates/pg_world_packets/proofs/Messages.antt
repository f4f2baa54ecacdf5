-- Messages that compare as one are one.
use Rattle.std.proofs.Common.{◌≡◌, Bool, true, ◌&&◌, List, refl, sym, ap, ◌∙◌}
use Rattle.std.specs.Cmp.{first_so, second_so}
use Rattle.std.specs.Cmp.Lexicographic.{pointwise}
use Rattle.pg_term.specs.declared.pid.Pid.{Pid}
use Rattle.pg_term.specs.declared.term.Term.{Term}
use Rattle.pg_term.specs.RefParts.{ref_eq}
use Rattle.pg_term.specs.Same.{same_atom, same_pid, same_term}
use Rattle.pg_term.specs.contracts.pid.PidEq.TheImpl.Laws.{laws-law as pids}
use Rattle.pg_term.specs.contracts.reference.ReferenceEq.TheImpl.Laws.{laws-law as references}
use Rattle.pg_term.specs.contracts.term.TermEq.TheImpl.Laws.{laws-law as terms}
use Rattle.pg_term.proofs.Same.{same_term as term_is, pid_is, ref_is}
use Rattle.pg_node_state.specs.PgMessageTypes.declared.message.Message.{Message}
use Rattle.pg_node_state.specs.PgMessageTypes.declared.message.Message.TheVariants.{Call, Reply, DelLock, Exchange, Down}
use Rattle.pg_node_state.specs.PgMessageTypes.declared.message.Request.{Request}
use Rattle.pg_node_state.specs.PgMessageTypes.declared.message.Request.TheVariants.{SetLock, Change}
use Rattle.pg_node_state.specs.PgMessageTypes.declared.message.Said.{Said}
use Rattle.pg_node_state.specs.PgMessageTypes.declared.message.Said.TheVariants.{Granted, Denied, Applied}
use Rattle.pg_node_state.proofs.PgNodeOpens.Alike.{both_true, lists_are, list_self, update_is, update_self}
use Rattle.pg_node_state.proofs.PgNodeOpens.Named.{atom_is, atom_self, clash}
use Rattle.pg_world_packets.specs.Sameness.{same_said, same_request, same_group, same_message}

said_is : (said other : Said) → same_said said other ≡ true → said ≡ other
said_is Granted Granted e = refl
said_is Denied Denied e = refl
said_is Applied Applied e = refl
said_is Granted Denied e = absurd (clash (sym e))
said_is Granted Applied e = absurd (clash (sym e))
said_is Denied Granted e = absurd (clash (sym e))
said_is Denied Applied e = absurd (clash (sym e))
said_is Applied Granted e = absurd (clash (sym e))
said_is Applied Denied e = absurd (clash (sym e))

said_self : (said : Said) → same_said said said ≡ true
said_self Granted = refl
said_self Denied = refl
said_self Applied = refl

request_is : (request other : Request) → same_request request other ≡ true → request ≡ other
request_is (SetLock name) (SetLock other) e = ap SetLock (term_is name other e)
request_is (Change update) (Change other) e = ap Change (update_is update other e)
request_is (SetLock name) (Change other) e = absurd (clash (sym e))
request_is (Change update) (SetLock other) e = absurd (clash (sym e))

request_self : (request : Request) → same_request request request ≡ true
request_self (SetLock name) = terms.refl name
request_self (Change update) = update_self update

group_is : (group other : Term × List Pid) → same_group group other ≡ true → group ≡ other
group_is group other e = λ i. (
  term_is group.0 other.0 (first_so (same_term group.0 other.0) (pointwise same_pid group.1 other.1) e) i,
  lists_are same_pid pid_is group.1 other.1 (second_so (same_term group.0 other.0) (pointwise same_pid group.1 other.1) e) i,
)

group_self : (group : Term × List Pid) → same_group group group ≡ true
group_self group = both_true (same_term group.0 group.0) (pointwise same_pid group.1 group.1) (terms.refl group.0) (list_self same_pid pids.refl group.1)

module _ {A B C : Type 0} (make : A → B → C) (a a' : A) (b b' : B) (s t : Bool) where
  both_is : (s ≡ true → a ≡ a') → (t ≡ true → b ≡ b') → (s && t) ≡ true → make a b ≡ make a' b'
  both_is f g e = λ i. make (f (first_so s t e) i) (g (second_so s t e) i)

pub message_is : (message other : Message) → same_message message other ≡ true → message ≡ other
message_is (Call r q) (Call s p) e = both_is Call r s q p (ref_eq r s) (same_request q p) (ref_is r s) (request_is q p) e
message_is (Reply r q) (Reply s p) e = both_is Reply r s q p (ref_eq r s) (same_said q p) (ref_is r s) (said_is q p) e
message_is (DelLock n r) (DelLock m s) e = both_is DelLock n m r s (same_term n m) (ref_eq r s) (term_is n m) (ref_is r s) e
message_is (Exchange n xs) (Exchange m ys) e = both_is Exchange n m xs ys (same_atom n m) (pointwise same_group xs ys) (atom_is n m) (lists_are same_group group_is xs ys) e
message_is (Down p) (Down q) e = ap Down (pid_is p q e)
message_is (Call r q) (Reply s p) e = absurd (clash (sym e))
message_is (Call r q) (DelLock m s) e = absurd (clash (sym e))
message_is (Call r q) (Exchange m ys) e = absurd (clash (sym e))
message_is (Call r q) (Down p) e = absurd (clash (sym e))
message_is (Reply r q) (Call s p) e = absurd (clash (sym e))
message_is (Reply r q) (DelLock m s) e = absurd (clash (sym e))
message_is (Reply r q) (Exchange m ys) e = absurd (clash (sym e))
message_is (Reply r q) (Down p) e = absurd (clash (sym e))
message_is (DelLock n r) (Call s p) e = absurd (clash (sym e))
message_is (DelLock n r) (Reply s p) e = absurd (clash (sym e))
message_is (DelLock n r) (Exchange m ys) e = absurd (clash (sym e))
message_is (DelLock n r) (Down p) e = absurd (clash (sym e))
message_is (Exchange n xs) (Call s p) e = absurd (clash (sym e))
message_is (Exchange n xs) (Reply s p) e = absurd (clash (sym e))
message_is (Exchange n xs) (DelLock m s) e = absurd (clash (sym e))
message_is (Exchange n xs) (Down p) e = absurd (clash (sym e))
message_is (Down p) (Call s q) e = absurd (clash (sym e))
message_is (Down p) (Reply s q) e = absurd (clash (sym e))
message_is (Down p) (DelLock m s) e = absurd (clash (sym e))
message_is (Down p) (Exchange m ys) e = absurd (clash (sym e))

message_self : (message : Message) → same_message message message ≡ true
message_self (Call r q) = both_true (ref_eq r r) (same_request q q) (references.refl r) (request_self q)
message_self (Reply r q) = both_true (ref_eq r r) (same_said q q) (references.refl r) (said_self q)
message_self (DelLock n r) = both_true (same_term n n) (ref_eq r r) (terms.refl n) (references.refl r)
message_self (Exchange n xs) = both_true (same_atom n n) (pointwise same_group xs xs) (atom_self n) (list_self same_group group_self xs)
message_self (Down p) = pids.refl p

pub message_so : (message other : Message) → message ≡ other → same_message message other ≡ true
message_so message other e = ap (same_message message) (sym e) ∙ message_self message
