-- A packet's term is read as the packet, where it may be sent.
use Rattle.std.proofs.Common.{◌≡◌, ℕ, pos, Bool, true, false, cond, List, [], ◌∷◌, map}
use Rattle.std.proofs.Common.{Option, Some, None, Ok, Err, refl, ap, ◌∙◌, rules, codes}
use Rattle.std.specs.Prelude.{nat_eq, nat_le, ◌&&◌}
use Rattle.std.specs.Option.{option_map, option_and_then}
use Rattle.std.specs.List.{list_all}
use Rattle.std.specs.Cmp.Lexicographic.{pointwise}
use Rattle.std.specs.Str.{encode_utf8_all}
use lib.Utf8.{encode}
use Rattle.pg_term.specs.declared.pid.Pid.{Pid}
use Rattle.pg_term.specs.declared.term.Term.{Term, Tuple, List as Listed, the_lemmas}
use Rattle.pg_term.specs.declared.term.Term.TheVariants.{Int, Atom, Ref, Pid as Process}
use Rattle.pg_term.specs.RefParts.{RefParts}
use Rattle.pg_group.specs.declared.update.Update.TheVariants.{Create, Delete, Join, Leave}
use Rattle.pg_group.specs.Value.{name_of}
use Rattle.pg_message_types.specs.declared.fault.MessageFault.TheVariants as faults
use Rattle.pg_message_types.specs.declared.message.Message.{Message}
use Rattle.pg_message_types.specs.declared.message.Message.TheVariants.{Call, Reply, DelLock, Exchange, Down}
use Rattle.pg_message_types.specs.declared.message.Request.{Request}
use Rattle.pg_message_types.specs.declared.message.Request.TheVariants.{SetLock, Change}
use Rattle.pg_message_types.specs.declared.message.Said.{Said}
use Rattle.pg_message_types.specs.declared.message.Said.TheVariants.{Granted, Denied, Applied}
use Rattle.pg_message_types.specs.declared.packet.Packet.{Packet}
use Rattle.pg_message_types.specs.Limits.{max_stamp}
use Rattle.pg_message_types.specs.Name.{is_name}
use Rattle.pg_message_types.specs.Parts.{elements_of, items_of, is_word, atom_of, reference_of, pid_of}
use Rattle.pg_message_types.specs.Reading.{Groups, request_on, request_in, membership_of, request_of}
use Rattle.pg_message_types.specs.Reading.{said_of, read_each, group_in, group_of, is_named_once, named_once}
use Rattle.pg_message_types.specs.Reading.{groups_of, freed, read_exchange, cast_in, cast_of, referred}
use Rattle.pg_message_types.specs.Reading.{message_in, message_of, stamp_of, stamped_message, packet_in, packet_of}
use Rattle.pg_message_types.specs.Writing.{pair, triple, request_term, said_term, group_term}
use Rattle.pg_message_types.specs.Writing.{message_term, term_of_packet, is_sayable, sendable}

-- ---- parts

pub elements_is : (ts : List Term) → elements_of (Tuple ts) ≡ Some ts
elements_is ts = search (rules, the_lemmas)

pub items_is : (ts : List Term) → items_of (Listed ts) ≡ Some ts
items_is ts = search (rules, the_lemmas)

atom_is : (a : List ℕ) → atom_of (Atom a) ≡ Some a
atom_is a = search (rules, the_lemmas)

reference_is : (r : RefParts) → reference_of (Ref r) ≡ Some r
reference_is r = search (rules, the_lemmas)

pid_is : (p : Pid) → pid_of (Process p) ≡ Some p
pid_is p = search (rules, the_lemmas)

-- a word against a text
abbrev text_is : List ℕ → List ℕ → Bool
text_is w text = pointwise nat_eq (encode_utf8_all w) text

word_is : (w text : List ℕ) → is_word (Atom w) text ≡ text_is w text
word_is w text = search (rules, the_lemmas)

-- ---- what a call asks for

request_words : (w : List ℕ) (n : Term) → request_on (Atom w) n
    ≡ cond (text_is w (codes "set_lock")) (Some (SetLock n)) (cond (text_is w (codes "create")) (Some (Change (Create n))) (cond (text_is w (codes "delete")) (Some (Change (Delete n))) None))
request_words w n = (λ i. cond (word_is w (codes "set_lock") i) (Some (SetLock n)) (cond (word_is w (codes "create") i) (Some (Change (Create n))) (cond (word_is w (codes "delete") i) (Some (Change (Delete n))) None)))

member_words : (w : List ℕ) (n : Term) (p : Pid) → membership_of (Atom w) n p
    ≡ cond (text_is w (codes "join")) (Some (Change (Join n p))) (cond (text_is w (codes "leave")) (Some (Change (Leave n p))) None)
member_words w n p = (λ i. cond (word_is w (codes "join") i) (Some (Change (Join n p))) (cond (word_is w (codes "leave") i) (Some (Change (Leave n p))) None))

named : (w : List ℕ) (n : Term) (q : Request) → request_on (Atom w) n ≡ Some q → request_of (pair (Atom w) n) ≡ cond (is_name n) (Some q) None
named w n q h = ap (option_and_then request_in) (elements_is (Atom w ∷ n ∷ [])) ∙ ap (λ (o : Option Request). cond (is_name n) o None) h

member : (w : List ℕ) (n : Term) (p : Pid) (q : Request) → membership_of (Atom w) n p ≡ Some q → request_of (triple (Atom w) n (Process p)) ≡ cond (is_name n) (Some q) None
member w n p q h =
    ap (option_and_then request_in) (elements_is (Atom w ∷ n ∷ Process p ∷ []))
    ∙ ap (λ (o : Option Pid). cond (is_name n) (option_and_then (membership_of (Atom w) n) o) None) (pid_is p)
    ∙ ap (λ (o : Option Request). cond (is_name n) o None) h

abbrev is_askable : Request → Bool
is_askable (SetLock n) = is_name n
is_askable (Change u) = is_name (name_of u)

request_back : (q : Request) → request_of (request_term q) ≡ cond (is_askable q) (Some q) None
unfolding encode
request_back (SetLock n) = named (codes "set_lock") n (SetLock n) (request_words (codes "set_lock") n)
request_back (Change (Create n)) = named (codes "create") n (Change (Create n)) (request_words (codes "create") n)
request_back (Change (Delete n)) = named (codes "delete") n (Change (Delete n)) (request_words (codes "delete") n)
request_back (Change (Join n p)) = member (codes "join") n p (Change (Join n p)) (member_words (codes "join") n p)
request_back (Change (Leave n p)) = member (codes "leave") n p (Change (Leave n p)) (member_words (codes "leave") n p)

-- ---- what a reply says

said_words : (w : List ℕ) → said_of (Atom w) ≡ cond (text_is w (codes "true")) (Some Granted) (cond (text_is w (codes "false")) (Some Denied) (cond (text_is w (codes "ok")) (Some Applied) None))
said_words w = (λ i. cond (word_is w (codes "true") i) (Some Granted) (cond (word_is w (codes "false") i) (Some Denied) (cond (word_is w (codes "ok") i) (Some Applied) None)))

said_back : (s : Said) → said_of (said_term s) ≡ Some s
unfolding encode
said_back Granted = said_words (codes "true")
said_back Denied = said_words (codes "false")
said_back Applied = said_words (codes "ok")

-- ---- what an exchange tells

pids_back : (ps : List Pid) → read_each pid_of (map Process ps) ≡ Some ps
pids_back [] = refl
pids_back (p ∷ ps) =
    ap (option_and_then (λ x. option_map (λ xs. x ∷ xs) (read_each pid_of (map Process ps)))) (pid_is p) ∙ ap (option_map (λ xs. p ∷ xs)) (pids_back ps)

group_back : (g : Term × List Pid) → group_of (group_term g) ≡ cond (is_name g.0) (Some g) None
group_back g =
    let tell = λ (o : Option (List Pid)). cond (is_name g.0) (option_map (λ pids. (g.0, pids)) o) None in
    ap (option_and_then group_in) (items_is (g.0 ∷ Listed (map Process g.1) ∷ []))
    ∙ ap (λ (o : Option (List Term)). tell (option_and_then (read_each pid_of) o)) (items_is (map Process g.1))
    ∙ ap tell (pids_back g.1)

both : (b c : Bool) (g : Term × List Pid) (gs : Groups) → option_and_then (λ x. option_map (λ xs. x ∷ xs) (cond c (Some gs) None)) (cond b (Some g) None) ≡ cond (b && c) (Some (g ∷ gs)) None
both true true g gs = refl
both true false g gs = refl
both false c g gs = refl

all_back : (gs : Groups) → read_each group_of (map group_term gs) ≡ cond (list_all (λ g. is_name g.0) gs) (Some gs) None
all_back [] = refl
all_back (g ∷ gs) =
    (λ i. option_and_then (λ x. option_map (λ xs. x ∷ xs) (all_back gs i)) (group_back g i)) ∙ both (is_name g.0) (list_all (λ g. is_name g.0) gs) g gs

once : (b c : Bool) (gs : Groups) → option_and_then (λ hs. cond c (Some hs) None) (cond b (Some gs) None) ≡ cond (b && c) (Some gs) None
once true c gs = refl
once false c gs = refl

kept : (b : Bool) (gs : Groups) → option_and_then named_once (cond b (Some gs) None) ≡ cond (b && is_named_once gs) (Some gs) None
kept true gs = refl
kept false gs = refl

groups_back : (gs : Groups) → groups_of (Listed (map group_term gs)) ≡ cond (list_all (λ g. is_name g.0) gs && is_named_once gs) (Some gs) None
groups_back gs =
    ap (λ (o : Option (List Term)). option_and_then named_once (option_and_then (read_each group_of) o)) (items_is (map group_term gs))
    ∙ ap (option_and_then named_once) (all_back gs) ∙ kept (list_all (λ g. is_name g.0) gs) gs

-- ---- messages

mapped : {A B : Type 0} (f : A → B) (b : Bool) (x : A) → option_map f (cond b (Some x) None) ≡ cond b (Some (f x)) None
mapped f true x = refl
mapped f false x = refl

refers : (w : List ℕ) (r : RefParts) (said : Term) → message_of (triple (Atom w) (Ref r) said)
    ≡ cond (text_is w (codes "call")) (option_map (Call r) (request_of said)) (cond (text_is w (codes "reply")) (option_map (Reply r) (said_of said)) None)
refers w r said =
    ap (option_and_then message_in) (elements_is (Atom w ∷ Ref r ∷ said ∷ []))
    ∙ ap (option_and_then (λ s. referred (Atom w) s said)) (reference_is r)
    ∙ (λ i. cond (word_is w (codes "call") i) (option_map (Call r) (request_of said)) (cond (word_is w (codes "reply") i) (option_map (Reply r) (said_of said)) None))

refers_not : (w : List ℕ) (said : Term) → message_of (pair (Atom w) said)
    ≡ cond (text_is w (codes "cast")) (cast_of said) (cond (text_is w (codes "down")) (option_map Down (pid_of said)) None)
refers_not w said =
    ap (option_and_then message_in) (elements_is (Atom w ∷ said ∷ []))
    ∙ (λ i. cond (word_is w (codes "cast") i) (cast_of said) (cond (word_is w (codes "down") i) (option_map Down (pid_of said)) None))

casts : (w : List ℕ) (a b : Term) → cast_of (triple (Atom w) a b)
    ≡ cond (text_is w (codes "del_lock")) (freed a b) (cond (text_is w (codes "exchange")) (read_exchange a b) None)
casts w a b =
    ap (option_and_then cast_in) (elements_is (Atom w ∷ a ∷ b ∷ []))
    ∙ (λ i. cond (word_is w (codes "del_lock") i) (freed a b) (cond (word_is w (codes "exchange") i) (read_exchange a b) None))

message_back : (m : Message) → message_of (message_term m) ≡ cond (is_sayable m) (Some m) None
unfolding encode
message_back (Call r (SetLock n)) =
    refers (codes "call") r (request_term (SetLock n)) ∙ ap (option_map (Call r)) (request_back (SetLock n)) ∙ mapped (Call r) (is_name n) (SetLock n)
message_back (Call r (Change u)) =
    refers (codes "call") r (request_term (Change u)) ∙ ap (option_map (Call r)) (request_back (Change u)) ∙ mapped (Call r) (is_name (name_of u)) (Change u)
message_back (Reply r s) = refers (codes "reply") r (said_term s) ∙ ap (option_map (Reply r)) (said_back s)
message_back (DelLock n r) =
    refers_not (codes "cast") (triple (Atom (codes "del_lock")) n (Ref r)) ∙ casts (codes "del_lock") n (Ref r)
    ∙ ap (λ (o : Option RefParts). cond (is_name n) (option_map (DelLock n) o) None) (reference_is r)
message_back (Exchange node gs) =
    refers_not (codes "cast") (triple (Atom (codes "exchange")) (Atom node) (Listed (map group_term gs))) ∙ casts (codes "exchange") (Atom node) (Listed (map group_term gs))
    ∙ ap (option_and_then (λ a. option_map (Exchange a) (groups_of (Listed (map group_term gs))))) (atom_is node)
    ∙ ap (option_map (Exchange node)) (groups_back gs)
    ∙ mapped (Exchange node) (list_all (λ g. is_name g.0) gs && is_named_once gs) gs
message_back (Down p) = refers_not (codes "down") (Process p) ∙ ap (option_map Down) (pid_is p)

-- ---- packets

stamp_back : (n : ℕ) → stamp_of (Int (pos n)) ≡ cond (nat_le n max_stamp) (Ok n) (Err faults.StampTooLarge)
stamp_back n = search (rules, the_lemmas)

settled : (b c : Bool) (n : ℕ) (m : Message) → stamped_message (cond b (Some m) None) (cond c (Ok n) (Err faults.StampTooLarge))
    ≡ cond b (cond c (Ok (record { stamp = n; message = m })) (Err faults.StampTooLarge)) (Err faults.NotAMessage)
settled true true n m = refl
settled true false n m = refl
settled false c n m = refl

pub read_back : (p : Packet) → packet_of (term_of_packet p) ≡ sendable p
read_back p =
    ap packet_in (elements_is (Int (pos p.stamp) ∷ message_term p.message ∷ []))
    ∙ (λ i. stamped_message (message_back p.message i) (stamp_back p.stamp i))
    ∙ settled (is_sayable p.message) (nat_le p.stamp max_stamp) p.stamp p.message
