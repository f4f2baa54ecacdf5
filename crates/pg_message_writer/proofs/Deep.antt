-- How deep a packet's term nests.
use Rattle.std.proofs.Common.{◌≡◌, ℕ, ℤ, ◌+◌, ◌≤◌, max, Bool, true, false, List}
use Rattle.std.proofs.Common.{[], ◌∷◌, map, codes, pos, arith, rules, refl}
use Rattle.std.specs.Prelude.{◌&&◌, nat_le, length}
use Rattle.std.specs.List.{list_all}
use Rattle.std.proofs.lemmas.Bool.{leb-true}
use Rattle.pg_term.specs.declared.pid.Pid.{Pid}
use Rattle.pg_term.specs.declared.term.Term.{Term, Tuple, List as Listed, the_lemmas}
use Rattle.pg_term.specs.declared.term.Term.TheVariants.{Int, Atom, Ref, Pid as Process}
use Rattle.pg_term.specs.Depth.{depth, greatest_depth}
use Rattle.pg_term.specs.RefParts.{RefParts}
use Rattle.pg_message_types.specs.PgTermIo.Writing.{written}
use Rattle.pg_message_types.specs.PgGroup.declared.update.Update.TheVariants.{Create, Delete, Join, Leave}
use Rattle.pg_message_types.specs.declared.message.Message.{Message}
use Rattle.pg_message_types.specs.declared.message.Message.TheVariants.{Call, Reply, DelLock, Exchange, Down}
use Rattle.pg_message_types.specs.declared.message.Request.TheVariants.{SetLock, Change}
use Rattle.pg_message_types.specs.declared.message.Said.TheVariants.{Granted, Denied, Applied}
use Rattle.pg_message_types.specs.declared.packet.Packet.{Packet}
use Rattle.pg_message_types.specs.Name.{is_name}
use Rattle.pg_message_types.specs.Reading.{Groups, is_named_once}
use Rattle.pg_message_types.specs.Writing.{pair, triple, said_term, group_term, message_term, term_of_packet, is_sayable}

int_deep : (z : ℤ) → depth (Int z) ≡ 1
int_deep z = search (rules, the_lemmas)

atom_deep : (a : List ℕ) → depth (Atom a) ≡ 1
atom_deep a = search (rules, the_lemmas)

ref_deep : (r : RefParts) → depth (Ref r) ≡ 1
ref_deep r = search (rules, the_lemmas)

pid_deep : (p : Pid) → depth (Process p) ≡ 1
pid_deep p = search (rules, the_lemmas)

tuple_deep : (ts : List Term) → depth (Tuple ts) ≡ 1 + greatest_depth ts
tuple_deep ts = search (rules, the_lemmas)

list_deep : (ts : List Term) → depth (Listed ts) ≡ 1 + greatest_depth ts
list_deep ts = search (rules, the_lemmas)

pair_deep : (a b : Term) → depth (pair a b) ≡ 1 + max (depth a) (depth b)
pair_deep a b = omega (arith, tuple_deep (a ∷ b ∷ []))

triple_deep : (a b c : Term) → depth (triple a b c) ≡ 1 + max (depth a) (max (depth b) (depth c))
triple_deep a b c = omega (arith, tuple_deep (a ∷ b ∷ c ∷ []))

first : (a b : Bool) → a && b ≡ true → a ≡ true
first true b e = refl
first false b e = absurd cc

second : (a b : Bool) → a && b ≡ true → b ≡ true
second true b e = e
second false b e = absurd cc

name_deep : (n : Term) → is_name n ≡ true → depth n ≤ 32
name_deep n e = leb-true (depth n) 32 (first (nat_le (depth n) 32) (nat_le (length (written n)) 1024) e)

pids_deep : (ps : List Pid) → greatest_depth (map Process ps) ≤ 1
pids_deep [] = omega arith
pids_deep (p ∷ ps) = omega (arith, pid_deep p, pids_deep ps)

group_deep : (g : Term × List Pid) → is_name g.0 ≡ true → depth (group_term g) ≤ 33
group_deep g e =
    let members = Listed (map Process g.1) in
    omega (arith, list_deep (g.0 ∷ members ∷ []), list_deep (map Process g.1), pids_deep g.1, name_deep g.0 e)

groups_deep : (gs : Groups) → list_all (λ g. is_name g.0) gs ≡ true → greatest_depth (map group_term gs) ≤ 33
groups_deep [] e = omega arith
groups_deep (g ∷ gs) e =
    omega (arith, group_deep g (first (is_name g.0) (list_all (λ g. is_name g.0) gs) e), groups_deep gs (second (is_name g.0) (list_all (λ g. is_name g.0) gs) e))

asks : (w : List ℕ) (r : RefParts) (q : Term) → depth q ≤ 34 → depth (triple (Atom w) (Ref r) q) ≤ 40
asks w r q h = omega (arith, triple_deep (Atom w) (Ref r) q, atom_deep w, ref_deep r)

named : (w : List ℕ) (n : Term) → is_name n ≡ true → depth (pair (Atom w) n) ≤ 34
named w n e = omega (arith, pair_deep (Atom w) n, atom_deep w, name_deep n e)

member : (w : List ℕ) (n : Term) (p : Pid) → is_name n ≡ true → depth (triple (Atom w) n (Process p)) ≤ 34
member w n p e = omega (arith, triple_deep (Atom w) n (Process p), atom_deep w, pid_deep p, name_deep n e)

message_deep : (m : Message) → is_sayable m ≡ true → depth (message_term m) ≤ 40
message_deep (Call r (SetLock n)) e = asks (codes "call") r (pair (Atom (codes "set_lock")) n) (named (codes "set_lock") n e)
message_deep (Call r (Change (Create n))) e = asks (codes "call") r (pair (Atom (codes "create")) n) (named (codes "create") n e)
message_deep (Call r (Change (Delete n))) e = asks (codes "call") r (pair (Atom (codes "delete")) n) (named (codes "delete") n e)
message_deep (Call r (Change (Join n p))) e = asks (codes "call") r (triple (Atom (codes "join")) n (Process p)) (member (codes "join") n p e)
message_deep (Call r (Change (Leave n p))) e = asks (codes "call") r (triple (Atom (codes "leave")) n (Process p)) (member (codes "leave") n p e)
message_deep (Reply r Granted) e = asks (codes "reply") r (said_term Granted) (omega (arith, atom_deep (codes "true")))
message_deep (Reply r Denied) e = asks (codes "reply") r (said_term Denied) (omega (arith, atom_deep (codes "false")))
message_deep (Reply r Applied) e = asks (codes "reply") r (said_term Applied) (omega (arith, atom_deep (codes "ok")))
message_deep (DelLock n r) e =
    let said = triple (Atom (codes "del_lock")) n (Ref r) in
    omega (arith, pair_deep (Atom (codes "cast")) said, triple_deep (Atom (codes "del_lock")) n (Ref r), atom_deep (codes "cast"), atom_deep (codes "del_lock"), ref_deep r, name_deep n e)
message_deep (Exchange node gs) e =
    let told = Listed (map group_term gs) in
    let said = triple (Atom (codes "exchange")) (Atom node) told in
    let names = first (list_all (λ g. is_name g.0) gs) (is_named_once gs) e in
    omega (arith, pair_deep (Atom (codes "cast")) said, triple_deep (Atom (codes "exchange")) (Atom node) told, list_deep (map group_term gs), groups_deep gs names, atom_deep (codes "cast"), atom_deep (codes "exchange"), atom_deep node)
message_deep (Down p) e = omega (arith, pair_deep (Atom (codes "down")) (Process p), atom_deep (codes "down"), pid_deep p)

pub packet_deep : (p : Packet) → is_sayable p.message ≡ true → depth (term_of_packet p) ≤ 64
packet_deep p e = omega (arith, pair_deep (Int (pos p.stamp)) (message_term p.message), int_deep (pos p.stamp), message_deep p.message e)
