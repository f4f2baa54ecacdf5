-- Whether a term is a message, seen part by part.
use Rattle.std.proofs.Common.{◌≡◌, ℕ, pos, negsuc, Bool, true, false, cond, List, [], ◌∷◌, codes, Option, Some, None}
use Rattle.std.proofs.Common.{Result, Ok, Err, refl, sym, ap, subst, ◌∙◌}
use Rattle.std.specs.Prelude.{is_some, nat_le, OnErr, IsOk}
use Rattle.std.specs.Option.{option_map, option_and_then}
use Rattle.pg_term.specs.declared.fault.TermFault.{TermFault}
use Rattle.pg_term.specs.declared.pid.Pid.{Pid}
use Rattle.pg_term.specs.declared.term.Term.{Term, out-Term}
use Rattle.pg_term.specs.declared.term.Term.TheOpen.{Term-F}
use Rattle.pg_term.specs.RefParts.{RefParts}
use Rattle.pg_message_types.specs.PgTermIo.Reading.{item_at}
use Rattle.pg_message_types.specs.declared.fault.MessageFault.{MessageFault}
use Rattle.pg_message_types.specs.declared.fault.MessageFault.TheVariants as faults
use Rattle.pg_message_types.specs.declared.message.Message.{Message}
use Rattle.pg_message_types.specs.declared.message.Message.TheVariants.{Call, Reply, DelLock, Exchange, Down}
use Rattle.pg_message_types.specs.declared.message.Request.{Request}
use Rattle.pg_message_types.specs.declared.packet.TheConstants.{MAX_STAMP}
use Rattle.pg_message_types.specs.Name.{is_name}
use Rattle.pg_message_types.specs.Parts.{elements_of, is_word, atom_of, reference_of, pid_of}
use Rattle.pg_message_types.specs.Reading.{request_on, membership_of, request_in, request_of, said_of, groups_of}
use Rattle.pg_message_types.specs.Reading.{freed, read_exchange, cast_in, cast_of, referred, unreferred}
use Rattle.pg_message_types.specs.Reading.{message_in, message_of, stamp_in, stamp_of, stamped_message, packet_in}
use Rattle.pg_message_reader.specs.Names.{Tells, Checks, Judges, all_in, names_of_freed, names_of_exchange, names_of_cast}
use Rattle.pg_message_reader.specs.Names.{names_of_message, may_stamp, names_of_packet}
use Rattle.pg_message_reader.proofs.Shapes.ListShapes.{is_nothing}

-- of each error
pub on_err : {T E : Type 0} (r : Result T E) (P : Type 0) → P → OnErr r P
on_err (Ok x) P h = tt
on_err (Err e) P h = h

-- the same truth
pub told : {E : Type 0} (names : List Term) (x y : Bool) (r : Result Bool E) → y ≡ x → Tells names x r → Tells names y r
told names x y r e h = subst (λ (b : Bool). Tells names b r) (sym e) h

-- the same names
pub told_of : {E : Type 0} (names others : List Term) (x : Bool) (r : Result Bool E) → others ≡ names → Tells names x r → Tells others x r
told_of names others x r e h = subst (λ (ns : List Term). Tells ns x r) (sym e) h

-- where the names are those of something that is there, the same truth
pub told_if : {E : Type 0} (there : Bool) (names : List Term) (x y : Bool) (r : Result Bool E) → there ≡ true → y ≡ x → Tells names x r → Tells (cond there names []) y r
told_if there names x y r is e h = subst (λ (z : Bool × Bool). Tells (cond z.0 names []) z.1 r) (λ i. (sym is i, sym e i)) h

-- the same place
pub moved : (room : ℕ) (x y : List ℕ) (t : Term) (rest : List ℕ) → x ≡ y → item_at room x ≡ Ok (t, rest) → item_at room y ≡ Ok (t, rest)
moved room x y t rest e h = subst (λ (bytes : List ℕ). item_at room bytes ≡ Ok (t, rest)) e h

some_map : {A B : Type 0} (f : A → B) (o : Option A) → is_some (option_map f o) ≡ is_some o
some_map f None = refl
some_map f (Some x) = refl

-- ---- {cast, Cast} and {down, Pid}

module _ (a b : Term) where
  pub by_cast : is_word a (codes "cast") ≡ true → is_some (unreferred a b) ≡ is_some (cast_of b)
  by_cast e = (λ i. is_some (cond (e i) (cast_of b) (cond (is_word a (codes "down")) (option_map Down (pid_of b)) None)))

  pub by_down : is_word a (codes "cast") ≡ false → is_word a (codes "down") ≡ true → is_some (unreferred a b) ≡ is_some (pid_of b)
  by_down e f = (λ i. is_some (cond (e i) (cast_of b) (cond (f i) (option_map Down (pid_of b)) None))) ∙ some_map Down (pid_of b)

  pub by_neither : is_word a (codes "cast") ≡ false → is_word a (codes "down") ≡ false → is_some (unreferred a b) ≡ false
  by_neither e f = (λ i. is_some (cond (e i) (cast_of b) (cond (f i) (option_map Down (pid_of b)) None)))

-- ---- {call, Ref, Request} and {reply, Ref, Said}

module _ (a b c : Term) where
  abbrev said : Option RefParts → Option Message
  said o = option_and_then (λ r. referred a r c) o

  pub by_no_reference : is_some (reference_of b) ≡ false → is_some (message_in (a ∷ b ∷ c ∷ [])) ≡ false
  by_no_reference e = ap (λ (o : Option RefParts). is_some (said o)) (is_nothing (reference_of b) e)

  by_reference : (x : Bool) → ((r : RefParts) → is_some (referred a r c) ≡ x) → (o : Option RefParts) → is_some o ≡ true → is_some (said o) ≡ x
  by_reference x why (Some r) e = why r
  by_reference x why None e = absurd cc

  pub by_call : is_some (reference_of b) ≡ true → is_word a (codes "call") ≡ true → is_some (message_in (a ∷ b ∷ c ∷ [])) ≡ is_some (request_of c)
  by_call there e = by_reference (is_some (request_of c))
      (λ r. (λ i. is_some (cond (e i) (option_map (Call r) (request_of c)) (cond (is_word a (codes "reply")) (option_map (Reply r) (said_of c)) None))) ∙ some_map (Call r) (request_of c))
      (reference_of b) there

  pub by_reply : is_some (reference_of b) ≡ true → is_word a (codes "call") ≡ false → is_word a (codes "reply") ≡ true → is_some (message_in (a ∷ b ∷ c ∷ [])) ≡ is_some (said_of c)
  by_reply there e f = by_reference (is_some (said_of c))
      (λ r. (λ i. is_some (cond (e i) (option_map (Call r) (request_of c)) (cond (f i) (option_map (Reply r) (said_of c)) None))) ∙ some_map (Reply r) (said_of c))
      (reference_of b) there

  pub by_no_word : is_some (reference_of b) ≡ true → is_word a (codes "call") ≡ false → is_word a (codes "reply") ≡ false → is_some (message_in (a ∷ b ∷ c ∷ [])) ≡ false
  by_no_word there e f = by_reference false
      (λ r. (λ i. is_some (cond (e i) (option_map (Call r) (request_of c)) (cond (f i) (option_map (Reply r) (said_of c)) None))))
      (reference_of b) there

-- ---- requests

named : (b : Bool) (o : Option Request) → is_some o ≡ true → is_some (cond b o None) ≡ b
named true o e = e
named false o e = refl

unasked : (b : Bool) (o : Option Request) → is_some o ≡ false → is_some (cond b o None) ≡ false
unasked true o e = e
unasked false o e = refl

module _ (a b : Term) where
  pub by_name : is_some (request_on a b) ≡ true → is_some (request_in (a ∷ b ∷ [])) ≡ is_name b
  by_name e = named (is_name b) (request_on a b) e

  pub by_no_request : is_some (request_on a b) ≡ false → is_some (request_in (a ∷ b ∷ [])) ≡ false
  by_no_request e = unasked (is_name b) (request_on a b) e

  module _ (c : Term) where
    asked : (x : Bool) → ((p : Pid) → is_some (membership_of a b p) ≡ x) → (o : Option Pid) → is_some o ≡ true → is_some (option_and_then (membership_of a b) o) ≡ x
    asked x why (Some p) e = why p
    asked x why None e = absurd cc

    pub by_member : is_some (pid_of c) ≡ true → ((p : Pid) → is_some (membership_of a b p) ≡ true) → is_some (request_in (a ∷ b ∷ c ∷ [])) ≡ is_name b
    by_member there e = named (is_name b) (option_and_then (membership_of a b) (pid_of c)) (asked true e (pid_of c) there)

    pub by_no_membership : is_some (pid_of c) ≡ true → ((p : Pid) → is_some (membership_of a b p) ≡ false) → is_some (request_in (a ∷ b ∷ c ∷ [])) ≡ false
    by_no_membership there e = unasked (is_name b) (option_and_then (membership_of a b) (pid_of c)) (asked false e (pid_of c) there)

    pub by_no_pid : is_some (pid_of c) ≡ false → is_some (request_in (a ∷ b ∷ c ∷ [])) ≡ false
    by_no_pid e = unasked (is_name b) (option_and_then (membership_of a b) (pid_of c)) (ap (λ (o : Option Pid). is_some (option_and_then (membership_of a b) o)) (is_nothing (pid_of c) e))

-- ---- casts

module _ (b c : Term) where
  freed_if : (x : Bool) (o : Option RefParts) → is_some o ≡ true → is_some {T = Message} (cond x (option_map (DelLock b) o) None) ≡ x
  freed_if true (Some r) e = refl
  freed_if true None e = absurd cc
  freed_if false o e = refl

  freed_not : (x : Bool) (o : Option RefParts) → is_some o ≡ false → is_some {T = Message} (cond x (option_map (DelLock b) o) None) ≡ false
  freed_not true None e = refl
  freed_not true (Some r) e = absurd cc
  freed_not false o e = refl

  pub by_freed : is_some (reference_of c) ≡ true → is_some (freed b c) ≡ is_name b
  by_freed e = freed_if (is_name b) (reference_of c) e

  pub by_not_freed : is_some (reference_of c) ≡ false → is_some (freed b c) ≡ false
  by_not_freed e = freed_not (is_name b) (reference_of c) e

  told_by : (o : Option (List ℕ)) → is_some o ≡ true → is_some (option_and_then (λ node. option_map (Exchange node) (groups_of c)) o) ≡ is_some (groups_of c)
  told_by (Some node) e = some_map (Exchange node) (groups_of c)
  told_by None e = absurd cc

  pub by_exchange : is_some (atom_of b) ≡ true → is_some (read_exchange b c) ≡ is_some (groups_of c)
  by_exchange e = told_by (atom_of b) e

  pub by_no_node : is_some (atom_of b) ≡ false → is_some (read_exchange b c) ≡ false
  by_no_node e = ap (λ (o : Option (List ℕ)). is_some (option_and_then (λ node. option_map (Exchange node) (groups_of c)) o)) (is_nothing (atom_of b) e)

  module _ (a : Term) where
    pub by_del_lock : is_word a (codes "del_lock") ≡ true → is_some (cast_in (a ∷ b ∷ c ∷ [])) ≡ is_some (freed b c)
    by_del_lock e = (λ i. is_some (cond (e i) (freed b c) (cond (is_word a (codes "exchange")) (read_exchange b c) None)))

    pub names_of_lock : is_word a (codes "del_lock") ≡ true → names_of_cast (a ∷ b ∷ c ∷ []) ≡ names_of_freed b c
    names_of_lock e = (λ i. cond (e i) (names_of_freed b c) (cond (is_word a (codes "exchange")) (names_of_exchange b c) []))

    pub by_word : is_word a (codes "del_lock") ≡ false → is_word a (codes "exchange") ≡ true → is_some (cast_in (a ∷ b ∷ c ∷ [])) ≡ is_some (read_exchange b c)
    by_word e f = (λ i. is_some (cond (e i) (freed b c) (cond (f i) (read_exchange b c) None)))

    pub names_of_all : is_word a (codes "del_lock") ≡ false → is_word a (codes "exchange") ≡ true → names_of_cast (a ∷ b ∷ c ∷ []) ≡ names_of_exchange b c
    names_of_all e f = (λ i. cond (e i) (names_of_freed b c) (cond (f i) (names_of_exchange b c) []))

    pub by_no_cast : is_word a (codes "del_lock") ≡ false → is_word a (codes "exchange") ≡ false → is_some (cast_in (a ∷ b ∷ c ∷ [])) ≡ false
    by_no_cast e f = (λ i. is_some (cond (e i) (freed b c) (cond (f i) (read_exchange b c) None)))

-- ---- packets

abbrev NoTerm : Result ℕ MessageFault → Type 0
NoTerm s = (f : TermFault) → s ≡ Err (faults.Term f) → ⊥

no_term : (t : Term) → NoTerm (stamp_of t)
no_term t = at (out-Term t)
  where
    pos_at : (b : Bool) (n : ℕ) → NoTerm (cond b (Ok n) (Err faults.StampTooLarge))
    pos_at true n f e = absurd cc
    pos_at false n f e = absurd cc

    at : (l : Term-F Term) → NoTerm (stamp_in l)
    at (Term-F.Int (pos n)) f e = pos_at (nat_le n MAX_STAMP) n f e
    at (Term-F.Int (negsuc n)) f e = absurd cc
    at (Term-F.Atom a) f e = absurd cc
    at (Term-F.Ref r) f e = absurd cc
    at (Term-F.Pid p) f e = absurd cc
    at (Term-F.Tuple ts) f e = absurd cc
    at (Term-F.List ts) f e = absurd cc
    at (Term-F.Binary content) f e = absurd cc

-- what is no stamp, nor too large a one, is no packet's whatever the message is
pub by_no_stamp : (a b : Term) → may_stamp (stamp_of a) ≡ false → packet_in (Some (a ∷ b ∷ [])) ≡ Err faults.NotAMessage
by_no_stamp a b = at (out-Term a)
  where
    NoPacket : Result ℕ MessageFault → Type 0
    NoPacket s = may_stamp s ≡ false → stamped_message (message_of b) s ≡ Err faults.NotAMessage

    none : (o : Option Message) → stamped_message o (Err faults.NotAMessage) ≡ Err faults.NotAMessage
    none None = refl
    none (Some m) = refl

    pos_at : (x : Bool) (n : ℕ) → NoPacket (cond x (Ok n) (Err faults.StampTooLarge))
    pos_at true n e = absurd cc
    pos_at false n e = absurd cc

    at : (l : Term-F Term) → NoPacket (stamp_in l)
    at (Term-F.Int (pos n)) e = pos_at (nat_le n MAX_STAMP) n e
    at (Term-F.Int (negsuc n)) e = none (message_of b)
    at (Term-F.Atom a) e = none (message_of b)
    at (Term-F.Ref r) e = none (message_of b)
    at (Term-F.Pid p) e = none (message_of b)
    at (Term-F.Tuple ts) e = none (message_of b)
    at (Term-F.List ts) e = none (message_of b)
    at (Term-F.Binary content) e = none (message_of b)

pub some_stamp : (s : Result ℕ MessageFault) → IsOk s → true ≡ may_stamp s
some_stamp (Ok n) h = refl
some_stamp (Err f) h = absurd cc

-- where the stamp may be one the names are those of the message
pub stamp_names : (a b : Term) → may_stamp (stamp_of a) ≡ true → names_of_message (all_in (elements_of b)) ≡ names_of_packet (a ∷ b ∷ [])
stamp_names a b e = λ i. cond (sym e i) (names_of_message (all_in (elements_of b))) []

module _ {U : Type 0} (names : List Term) where
  judged : (o : Option Message) (s : Result ℕ MessageFault) (r : Result U MessageFault) → is_some o ≡ true → NoTerm s → Judges s r → Checks names (stamped_message o s) r
  judged None s r e none h = absurd cc
  judged (Some m) (Ok n) (Ok u) e none h = refl
  judged (Some m) (Err f) (Ok u) e none h = absurd cc
  judged (Some m) s (Err (faults.Term f)) e none h = absurd (none f h)
  judged (Some m) s (Err faults.NotAMessage) e none h = ap (stamped_message (Some m)) h
  judged (Some m) s (Err faults.StampTooLarge) e none h = ap (stamped_message (Some m)) h
  judged (Some m) s (Err faults.NameTooLarge) e none h = ap (stamped_message (Some m)) h

  pub by_stamp : (a b : Term) (r : Result U MessageFault) → is_some (message_of b) ≡ true → Judges (stamp_of a) r → Checks names (packet_in (Some (a ∷ b ∷ []))) r
  by_stamp a b r e h = judged (message_of b) (stamp_of a) r e (no_term a) h

pub by_no_message : (a b : Term) → is_some (message_of b) ≡ false → packet_in (Some (a ∷ b ∷ [])) ≡ Err faults.NotAMessage
by_no_message a b e = ap (λ (o : Option Message). stamped_message o (stamp_of a)) (is_nothing (message_of b) e)
