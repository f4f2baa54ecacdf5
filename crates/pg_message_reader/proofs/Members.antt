-- A list of members in a packet that is read is no longer than the bytes that it is read from.
use Rattle.std.proofs.Common.{◌≡◌, ℕ, ◌≤◌, Bool, true, false, cond, List, [], ◌∷◌, length}
use Rattle.std.proofs.Common.{Option, Some, None, Result, Ok, Err, refl, ap, subst, arith}
use Rattle.std.specs.Prelude.{IfOk, codes}
use Rattle.std.specs.Option.{option_map, option_and_then}
use Rattle.std.proofs.lemmas.Option.{option_and_then_some, same_Some}
use Rattle.pg_term.specs.declared.pid.Pid.{Pid}
use Rattle.pg_term.specs.declared.term.Term.{Term, map-Term, out-Term}
use Rattle.pg_term.specs.declared.term.Term.TheOpen.{Term-F}
use Rattle.pg_term.specs.RefParts.{RefParts}
use Rattle.pg_term_io.specs.Weight.{weight_step, weight, total_weight}
use Rattle.pg_term_io.proofs.Weighed.{weight_out, weight_some, light}
use Rattle.pg_message_types.specs.declared.fault.MessageFault.{MessageFault}
use Rattle.pg_message_types.specs.declared.message.Message.{Message}
use Rattle.pg_message_types.specs.declared.message.Message.TheVariants.{Call, Reply, DelLock, Exchange, Down}
use Rattle.pg_message_types.specs.declared.packet.Packet.{Packet}
use Rattle.pg_message_types.specs.Members.{HasFewMembers, IsShort}
use Rattle.pg_message_types.specs.Name.{is_name}
use Rattle.pg_message_types.specs.Parts.{tuple_in, elements_of, list_in, items_of, is_word, atom_of, reference_of, pid_of}
use Rattle.pg_message_types.specs.Reading.{Groups, request_of, said_of, read_each, group_in, group_of, is_named_once}
use Rattle.pg_message_types.specs.Reading.{named_once, groups_of, freed, read_exchange, cast_in, cast_of, referred}
use Rattle.pg_message_types.specs.Reading.{unreferred, message_in, message_of, stamp_of, stamped_message, packet_in, SpellsPacket}

-- ---- what an answer comes from

mapped : {A B P : Type 0} (f : A → B) (o : Option A) (y : B) → option_map f o ≡ Some y → ((x : A) → o ≡ Some x → f x ≡ y → P) → P
mapped f None y e k = absurd cc
mapped f (Some x) y e k = k x refl (same_Some (f x) y e)

-- whichever way the test went
either : {A P : Type 0} (b : Bool) (x y z : A) → cond b x y ≡ z → (x ≡ z → P) → (y ≡ z → P) → P
either true x y z e p q = p e
either false x y z e p q = q e

-- where no other way answers
only : {A P : Type 0} (b : Bool) (o : Option A) (z : A) → cond b o None ≡ Some z → (o ≡ Some z → P) → P
only b o z e p = either b o None (Some z) e p (λ e. absurd cc)

-- ---- elements

tuple_parts : (l : Term-F Term) (ts : List Term) → tuple_in l ≡ Some ts → total_weight ts ≤ weight_step (map-Term Term ℕ weight l)
tuple_parts (Term-F.Tuple us) ts e = omega (arith, ap total_weight (same_Some us ts e))
tuple_parts (Term-F.Int z) ts e = absurd cc
tuple_parts (Term-F.Atom a) ts e = absurd cc
tuple_parts (Term-F.Ref r) ts e = absurd cc
tuple_parts (Term-F.Pid p) ts e = absurd cc
tuple_parts (Term-F.List us) ts e = absurd cc
tuple_parts (Term-F.Binary content) ts e = absurd cc

list_parts : (l : Term-F Term) (ts : List Term) → list_in l ≡ Some ts → total_weight ts ≤ weight_step (map-Term Term ℕ weight l)
list_parts (Term-F.List us) ts e = omega (arith, ap total_weight (same_Some us ts e))
list_parts (Term-F.Int z) ts e = absurd cc
list_parts (Term-F.Atom a) ts e = absurd cc
list_parts (Term-F.Ref r) ts e = absurd cc
list_parts (Term-F.Pid p) ts e = absurd cc
list_parts (Term-F.Tuple us) ts e = absurd cc
list_parts (Term-F.Binary content) ts e = absurd cc

elements_light : (t : Term) (ts : List Term) → elements_of t ≡ Some ts → total_weight ts ≤ weight t
elements_light t ts e = rw (weight_out t) (tuple_parts (out-Term t) ts e)

items_light : (t : Term) (ts : List Term) → items_of t ≡ Some ts → total_weight ts ≤ weight t
items_light t ts e = rw (weight_out t) (list_parts (out-Term t) ts e)

-- ---- members

-- each of the values comes from a term of its own
pids_few : (ts : List Term) (ps : List Pid) → read_each pid_of ts ≡ Some ps → length ps ≤ total_weight ts
pids_few [] ps e = omega (arith, ap length (same_Some [] ps e))
pids_few (t ∷ ts) ps e =
    option_and_then_some (λ p. option_map (λ ps. p ∷ ps) (read_each pid_of ts)) (pid_of t) ps e (λ p is more.
    mapped (λ ps. p ∷ ps) (read_each pid_of ts) ps more (λ qs rest same.
    omega (arith, ap length same, pids_few ts qs rest, weight_some t)))

told : (ts : List Term) (g : Term × List Pid) → group_in ts ≡ Some g → length g.1 ≤ total_weight ts
told [] g e = absurd cc
told (n ∷ []) g e = absurd cc
told (n ∷ t ∷ u ∷ ts) g e = absurd cc
told (n ∷ t ∷ []) g e =
    only (is_name n) (option_map (λ pids. (n, pids)) (option_and_then (read_each pid_of) (items_of t))) g e (λ e.
    mapped (λ pids. (n, pids)) (option_and_then (read_each pid_of) (items_of t)) g e (λ ps found same.
    option_and_then_some (read_each pid_of) (items_of t) ps found (λ ts is each.
    omega (arith, ap (λ (g : Term × List Pid). length g.1) same, pids_few ts ps each, items_light t ts is))))

group_few : (t : Term) (g : Term × List Pid) → group_of t ≡ Some g → length g.1 ≤ weight t
group_few t g e = option_and_then_some group_in (items_of t) g e (λ ts is e. omega (arith, told ts g e, items_light t ts is))

all_few : (limit : ℕ) (ts : List Term) (gs : Groups) → total_weight ts ≤ limit → read_each group_of ts ≡ Some gs → HasFewMembers limit gs
all_few limit [] gs h e = subst (HasFewMembers limit) (same_Some [] gs e) tt
all_few limit (t ∷ ts) gs h e =
    option_and_then_some (λ g. option_map (λ gs. g ∷ gs) (read_each group_of ts)) (group_of t) gs e (λ g is more.
    mapped (λ gs. g ∷ gs) (read_each group_of ts) gs more (λ hs rest same.
    subst (HasFewMembers limit) same (omega (arith, group_few t g is), all_few limit ts hs (omega arith) rest)))

groups_few : (limit : ℕ) (t : Term) (gs : Groups) → weight t ≤ limit → groups_of t ≡ Some gs → HasFewMembers limit gs
groups_few limit t gs h e =
    option_and_then_some named_once (option_and_then (read_each group_of) (items_of t)) gs e (λ hs found once.
    only (is_named_once hs) (Some hs) gs once (λ same.
    option_and_then_some (read_each group_of) (items_of t) hs found (λ ts is each.
    subst (HasFewMembers limit) (same_Some hs gs same) (all_few limit ts hs (omega (arith, items_light t ts is)) each))))

-- ---- messages

module _ (limit : ℕ) (m : Message) where
  -- a message of another kind
  other : {A : Type 0} (f : A → Message) (o : Option A) → ((x : A) → IsShort limit (f x)) → option_map f o ≡ Some m → IsShort limit m
  other f o short e = mapped f o m e (λ x is same. subst (IsShort limit) same (short x))

  exchange_short : (node groups : Term) → weight groups ≤ limit → read_exchange node groups ≡ Some m → IsShort limit m
  exchange_short node groups h e =
      option_and_then_some (λ node. option_map (Exchange node) (groups_of groups)) (atom_of node) m e (λ a is e.
      mapped (Exchange a) (groups_of groups) m e (λ gs found same.
      subst (IsShort limit) same (groups_few limit groups gs h found)))

  freed_short : (name reference : Term) → freed name reference ≡ Some m → IsShort limit m
  freed_short name reference e = only (is_name name) (option_map (DelLock name) (reference_of reference)) m e (other (DelLock name) (reference_of reference) (λ r. tt))

  cast_in_short : (ts : List Term) → total_weight ts ≤ limit → cast_in ts ≡ Some m → IsShort limit m
  cast_in_short [] h e = absurd cc
  cast_in_short (w ∷ []) h e = absurd cc
  cast_in_short (w ∷ t ∷ []) h e = absurd cc
  cast_in_short (w ∷ t ∷ u ∷ v ∷ ts) h e = absurd cc
  cast_in_short (w ∷ t ∷ u ∷ []) h e =
      either (is_word w (codes "del_lock")) (freed t u) (cond (is_word w (codes "exchange")) (read_exchange t u) None) (Some m) e (freed_short t u) (λ e.
      only (is_word w (codes "exchange")) (read_exchange t u) m e (exchange_short t u (omega arith)))

  cast_short : (t : Term) → weight t ≤ limit → cast_of t ≡ Some m → IsShort limit m
  cast_short t h e = option_and_then_some cast_in (elements_of t) m e (λ ts is. cast_in_short ts (omega (arith, elements_light t ts is)))

  unreferred_short : (w t : Term) → weight t ≤ limit → unreferred w t ≡ Some m → IsShort limit m
  unreferred_short w t h e =
      either (is_word w (codes "cast")) (cast_of t) (cond (is_word w (codes "down")) (option_map Down (pid_of t)) None) (Some m) e (cast_short t h) (λ e.
      only (is_word w (codes "down")) (option_map Down (pid_of t)) m e (other Down (pid_of t) (λ p. tt)))

  referred_short : (w : Term) (r : RefParts) (t : Term) → referred w r t ≡ Some m → IsShort limit m
  referred_short w r t e =
      either (is_word w (codes "call")) (option_map (Call r) (request_of t)) (cond (is_word w (codes "reply")) (option_map (Reply r) (said_of t)) None) (Some m) e (other (Call r) (request_of t) (λ q. tt)) (λ e.
      only (is_word w (codes "reply")) (option_map (Reply r) (said_of t)) m e (other (Reply r) (said_of t) (λ s. tt)))

  message_in_short : (ts : List Term) → total_weight ts ≤ limit → message_in ts ≡ Some m → IsShort limit m
  message_in_short [] h e = absurd cc
  message_in_short (w ∷ []) h e = absurd cc
  message_in_short (w ∷ t ∷ []) h e = unreferred_short w t (omega arith) e
  message_in_short (w ∷ t ∷ u ∷ []) h e = option_and_then_some (λ r. referred w r u) (reference_of t) m e (λ r is. referred_short w r u)
  message_in_short (w ∷ t ∷ u ∷ v ∷ ts) h e = absurd cc

  message_short : (t : Term) → weight t ≤ limit → message_of t ≡ Some m → IsShort limit m
  message_short t h e = option_and_then_some message_in (elements_of t) m e (λ ts is. message_in_short ts (omega (arith, elements_light t ts is)))

-- ---- packets

stamped_short : (limit : ℕ) (o : Option Message) (stamp : Result ℕ MessageFault) (p : Packet) → ((m : Message) → o ≡ Some m → IsShort limit m) → stamped_message o stamp ≡ Ok p → IsShort limit p.message
stamped_short limit None stamp p short e = absurd cc
stamped_short limit (Some m) (Err fault) p short e = absurd cc
stamped_short limit (Some m) (Ok stamp) p short e =
    let same : m ≡ p.message = ap spoken e in
    subst (IsShort limit) same (short m refl)
  where
    spoken : Result Packet MessageFault → Message
    spoken (Ok p) = p.message
    spoken (Err fault) = m

packet_in_short : (limit : ℕ) (o : Option (List Term)) (p : Packet) → ((ts : List Term) → o ≡ Some ts → total_weight ts ≤ limit) → packet_in o ≡ Ok p → IsShort limit p.message
packet_in_short limit None p h e = absurd cc
packet_in_short limit (Some []) p h e = absurd cc
packet_in_short limit (Some (s ∷ [])) p h e = absurd cc
packet_in_short limit (Some (s ∷ t ∷ u ∷ ts)) p h e = absurd cc
packet_in_short limit (Some (s ∷ t ∷ [])) p h e =
    let few : weight t ≤ limit = omega (arith, h (s ∷ t ∷ []) refl) in
    stamped_short limit (message_of t) (stamp_of s) p (λ m. message_short limit m t few) e

packet_short : (p : Packet) (body : List ℕ) → SpellsPacket p body → IsShort (length body) p.message
packet_short p body s =
    packet_in_short (length body) (elements_of s.term) p (λ ts is. omega (arith, elements_light s.term ts is, light s.term body s.spelled)) s.read

pub read_short : (r : Result Packet MessageFault) (body : List ℕ) → IfOk r (λ p. SpellsPacket p body) → IfOk r (λ p. IsShort (length body) p.message)
read_short (Ok p) body s = packet_short p body s
read_short (Err f) body s = tt
