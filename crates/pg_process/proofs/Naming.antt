-- What is said at a port names the requests that are replied to there, and no others.
use Rattle.std.proofs.Common.{◌≡◌, ◌≢◌, ◌⊎◌, ◌∙◌, ◌+◌, ℕ, Bool, true, false, cond, nat_eq, nat_le, nat_lt, length, map, List, [], ◌∷◌, ◌++◌, Option, Some, inl, inr, refl, sym, ap, append-nil, append_assoc, arith, pos, rules}
use Rattle.std.specs.Prelude.{if◌then◌else◌}
use Rattle.std.specs.List.{AllByRecursion, flat_map}
use Rattle.std.proofs.lemmas.Bool.{cases_eq, eq-eqb, le-ltb, leb-false, leb-true, lt-ltb, ne_eqb}
use Rattle.std.proofs.lemmas.List.Concat.{flat_map-append}
use Rattle.pg_step.specs.PgMessageTypes.Parts.{elements_of}
use Rattle.pg_term.specs.declared.term.Term.{Term, Tuple, the_lemmas}
use Rattle.pg_term.specs.declared.term.Term.TheVariants.{Int, Atom as Word}
use Rattle.pg_node.specs.PgGroup.Table.{Table}
use Rattle.pg_node_process.specs.Desks.{Answered as Closed, Asked as Counted, Changing, Handed as Opened, Happening, Port, next_number, port_after, port_at_last}
use Rattle.pg_node_process.specs.Mirrors.{AreAssignments, TellsTable}
use Rattle.pg_node_process.specs.Outputs.{Output, Bytes, Clock, Denied as DeniedOutput, Formed as FormedOutput, Mirrored, Said, Version}
use Rattle.pg_node_process.specs.declared.desk.Numbered.{Numbered}
use Rattle.pg_node_requests.specs.Replies.{count_reply, numbered_term, pair}
use Rattle.pg_process.specs.Accounts.{at_this, happened_of}
use Rattle.pg_process.specs.Chains.{Step, said_in}
use Rattle.pg_process.specs.Deeds.{Aged, Answered, Asked, Blamed, Broke, Brought, Crowded, Declined, Deed, Denied, Does, Fed, Formed, Handed, IsReply, Looked, Queued, Read, SaysEnded, SaysFull, Sent, Shared, Tells, Timed, Took, Tried, formed_said, number_of}
use Rattle.pg_process.specs.Locks.{is_formed}
use Rattle.pg_process.specs.Replies.{all_replied, is_next_to, named_by, named_in, numeral, replied_by, shown}
use Rattle.pg_process.specs.Situations.{Setting, Situation, own_of, table_of}
use Rattle.pg_process.proofs.Parts.{at_bool}

-- ---- terms

elements_is : (terms : List Term) → elements_of (Tuple terms) ≡ Some terms
elements_is terms = search (rules, the_lemmas)

numeral_is : (n : ℕ) → numeral (Int (pos n)) ≡ n ∷ []
numeral_is n = search (rules, the_lemmas)

-- ---- what is no reply

abbrev NamesNone : ℕ → List Output → Type 0
NamesNone port said = flat_map (named_in port) said ≡ []

none_pair : (port : ℕ) (one other : Term) (said : List Output) → Tells (pair one other) said → NamesNone port said
none_pair port one other said (inl e) = ap (flat_map (named_in port)) e ∙ (append-nil (named_by port (elements_of (pair one other))) ∙ ap (named_by port) (elements_is (one ∷ other ∷ [])))
none_pair port one other said (inr e) = ap (flat_map (named_in port)) e.1

none_ended : (port : ℕ) (ended : Bool) (one other : Term) (said : List Output) → SaysEnded ended (pair one other) said → NamesNone port said
none_ended port true one other said says = none_pair port one other said says
none_ended port false one other said says = ap (flat_map (named_in port)) says

none_formed : (port : ℕ) (formed told : Bool) → NamesNone port (formed_said formed told)
none_formed port true true = refl
none_formed port true false = refl
none_formed port false told = refl

none_assigned : (port : ℕ) (said : List Output) → AllByRecursion AreAssignments said → NamesNone port said
none_assigned port [] are = refl
none_assigned port (Mirrored term ∷ said) are = none_assigned port said are.1
none_assigned port (Version format text ∷ said) are = absurd are.0
none_assigned port (Bytes peer bytes ∷ said) are = absurd are.0
none_assigned port (Said term ∷ said) are = absurd are.0
none_assigned port (Clock clock ∷ said) are = absurd are.0
none_assigned port (FormedOutput ∷ said) are = absurd are.0
none_assigned port (DeniedOutput place ∷ said) are = absurd are.0

none_table : (port : ℕ) (mirrored : Bool) (before after : Table) (said : List Output) → TellsTable mirrored before after said → NamesNone port said
none_table port true before after said tells = none_assigned port said tells.0
none_table port false before after said tells = ap (flat_map (named_in port)) tells

both_name : (port : ℕ) (said one other : List Output) (names : List ℕ) → said ≡ one ++ other → NamesNone port one → flat_map (named_in port) other ≡ names → flat_map (named_in port) said ≡ names
both_name port said one other names is none rest =
    ap (flat_map (named_in port)) is ∙ (flat_map-append (named_in port) one other ∙ (ap (λ (w : List ℕ). w ++ flat_map (named_in port) other) none ∙ rest))

-- ---- a reply

same_port : (place port : ℕ) → nat_eq (place + 1) (port + 1) ≡ nat_eq place port
same_port place port = go (cases_eq place port)
  where
    go : (place ≡ port) ⊎ (place ≢ port) → nat_eq (place + 1) (port + 1) ≡ nat_eq place port
    go (inl e) = eq-eqb (place + 1) (port + 1) (ap (λ (n : ℕ). n + 1) e) ∙ sym (eq-eqb place port e)
    go (inr n) = ne_eqb (place + 1) (port + 1) (λ e. n (less e)) ∙ sym (ne_eqb place port n)
      where
        less : place + 1 ≡ port + 1 → place ≡ port
        less e = omega (arith, e)

one_named : (set : Setting) (port place number : ℕ) (reply : Term) → flat_map (named_in port) (Said (numbered_term (own_of set) (place + 1) number reply) ∷ []) ≡ at_this port place (shown number ∷ [])
one_named set port place number reply =
    append-nil (named_by port (elements_of (numbered_term (own_of set) (place + 1) number reply)))
    ∙ (ap (named_by port) (elements_is (Word (own_of set) ∷ Int (pos (place + 1)) ∷ count_reply number ∷ reply ∷ []))
    ∙ (ap (λ (w : List ℕ). cond (is_next_to port w) (numeral (count_reply number)) []) (numeral_is (place + 1))
    ∙ (ap (λ (w : List ℕ). cond (nat_eq (place + 1) (port + 1)) w []) (numeral_is (shown number))
    ∙ ap (λ (b : Bool). cond b (shown number ∷ []) []) (same_port place port))))

reply_named : (set : Setting) (port place number : ℕ) (reply : Term) (said : List Output) → IsReply set place number reply said → flat_map (named_in port) said ≡ at_this port place (shown number ∷ [])
reply_named set port place number reply said (inl e) = ap (flat_map (named_in port)) e ∙ one_named set port place number reply
reply_named set port place number reply said (inr e) = ap (flat_map (named_in port)) e.1 ∙ one_named set port place number _

-- what happens there replies so
replies_there : (ports : ℕ → Port) (port place : ℕ) (names : List ℕ) (happened : List Happening) → names ≡ map shown (all_replied (ports place) happened)
    → at_this port place names ≡ map shown (all_replied (ports port) (at_this port place happened))
replies_there ports port place names happened is =
    at_bool (λ (h : Bool) (p : ℕ). cond h names [] ≡ map shown (all_replied (ports p) (cond h happened []))) port place is refl

full_named : (set : Setting) (port place : ℕ) (p : Port) (full : Bool) (said : List Output) → nat_le 1024 (length p.waiting) ≡ full → SaysFull full set place (next_number p) said
    → flat_map (named_in port) said ≡ at_this port place (map shown (if nat_lt (length p.waiting) 1024 then [] else next_number p ∷ []))
full_named set port place p true said is says = reply_named set port place (next_number p) _ said says
    ∙ ap (λ (b : Bool). at_this port place (map shown (if b then [] else next_number p ∷ []))) (sym (le-ltb (length p.waiting) 1024 (leb-true 1024 (length p.waiting) is)))
full_named set port place p false said is says = ap (flat_map (named_in port)) says
    ∙ (none (nat_eq place port) ∙ ap (λ (b : Bool). at_this port place (map shown (if b then [] else next_number p ∷ []))) (sym (lt-ltb (length p.waiting) 1024 (leb-false 1024 (length p.waiting) is))))
  where
    none : (b : Bool) → ◌≡◌ {A = List ℕ} [] (cond b [] [])
    none true = refl
    none false = refl

-- ---- each deed

pub names_deed : (set : Setting) (a : Situation) (deed : Deed) (said : List Output) (b : Situation) → Does set a deed said b → (port : ℕ)
    → flat_map (named_in port) said ≡ map shown (all_replied (a.ports port) (happened_of port deed))
names_deed set a (Read body) said b does port = ap (flat_map (named_in port)) does.0
names_deed set a Brought said b does port = none_table port a.told.mirrored _ (table_of a) said does.0
names_deed set a Blamed said b does port = none_pair port _ _ said does.0
names_deed set a Timed said b does port = ap (flat_map (named_in port)) does.0
names_deed set a (Shared place) said b does port = ap (flat_map (named_in port)) does.0
names_deed set a (Asked place command) said b does port =
    reply_named set port place (next_number (a.ports place)) _ said does.says ∙ replies_there a.ports port place (shown (next_number (a.ports place)) ∷ []) (Counted ∷ []) refl
names_deed set a (Queued place command) said b does port =
    full_named set port place (a.ports place) (nat_le 1024 (length (a.ports place).waiting)) said refl does.says
    ∙ replies_there a.ports port place (map shown (if nat_lt (length (a.ports place).waiting) 1024 then [] else next_number (a.ports place) ∷ [])) (Changing command ∷ [])
    (ap (map shown) (sym (append-nil (replied_by (a.ports place) (Changing command)))))
names_deed set a (Fed peer bytes) said b does port = ap (flat_map (named_in port)) does.0
names_deed set a (Took peer act) said b does port =
    ap (flat_map (named_in port)) does.0.says
    ∙ (flat_map-append (named_in port) does.0.table (formed_said (is_formed set b) a.told.formed)
    ∙ (ap (λ (w : List ℕ). w ++ flat_map (named_in port) (formed_said (is_formed set b) a.told.formed)) (none_table port a.told.mirrored (table_of a) (table_of b) does.0.table does.0.tells.table)
    ∙ none_formed port (is_formed set b) a.told.formed))
names_deed set a (Broke peer fault) said b does port = none_pair port _ _ said does.says
names_deed set a (Handed place act) said b does port =
    none_table port a.told.mirrored (table_of a) (table_of b) said does.0.table ∙ nothing (nat_eq place port)
  where
    nothing : (h : Bool) → [] ≡ map shown (all_replied (a.ports port) (cond h (Opened ∷ []) []))
    nothing true = refl
    nothing false = refl
names_deed set a (Declined place refusal) said b does port =
    reply_named set port place does.change.number _ said does.says
    ∙ replies_there a.ports port place (shown does.change.number ∷ []) (Opened ∷ Closed ∷ []) (ap (λ (c : Option Numbered). shown (number_of c) ∷ []) (sym does.next))
names_deed set a (Looked place seen is_tick) said b does port = ap (flat_map (named_in port)) does.0
names_deed set a (Tried place act) said b does port = none_table port a.told.mirrored (table_of a) (table_of b) said does.0.table
names_deed set a (Denied place) said b does port = ap (flat_map (named_in port)) does.0
names_deed set a (Answered place answer) said b does port =
    both_name port said does.says.notice does.says.answer _ does.says.says (none_ended port _ _ _ does.says.notice does.says.notices)
    (reply_named set port place (number_of (a.ports place).current) _ does.says.answer does.says.replies)
    ∙ replies_there a.ports port place (shown (number_of (a.ports place).current) ∷ []) (Closed ∷ []) refl
names_deed set a Formed said b does port = ap (flat_map (named_in port)) does.0
names_deed set a Aged said b does port = none_pair port _ _ said does.0
names_deed set a (Crowded count) said b does port = none_pair port _ _ said does.0
names_deed set a (Sent peer bytes) said b does port = ap (flat_map (named_in port)) does.says

-- ---- one after another

map_on : (xs ys : List ℕ) → map shown (xs ++ ys) ≡ map shown xs ++ map shown ys
map_on [] ys = refl
map_on (x ∷ xs) ys = ap (λ (w : List ℕ). shown x ∷ w) (map_on xs ys)

replied_on : (xs ys : List Happening) (p : Port) → all_replied p (xs ++ ys) ≡ all_replied p xs ++ all_replied (port_at_last p xs) ys
replied_on [] ys p = refl
replied_on (x ∷ xs) ys p =
    ap (λ (w : List ℕ). replied_by p x ++ w) (replied_on xs ys (port_after p x)) ∙ sym (append_assoc (replied_by p x) (all_replied (port_after p x) xs) (all_replied (port_at_last p (x ∷ xs)) ys))

pub names_on : (port : ℕ) (step : Step) (steps : List Step) (p m : Port) (happened later : List Happening) → m ≡ port_at_last p happened
    → flat_map (named_in port) step.said ≡ map shown (all_replied p happened) → flat_map (named_in port) (said_in steps) ≡ map shown (all_replied m later)
    → flat_map (named_in port) (said_in (step ∷ steps)) ≡ map shown (all_replied p (happened ++ later))
names_on port step steps p m happened later last one rest =
    flat_map-append (named_in port) step.said (said_in steps)
    ∙ (ap (λ (w : List ℕ). w ++ flat_map (named_in port) (said_in steps)) one
    ∙ (ap (λ (w : List ℕ). map shown (all_replied p happened) ++ w) (rest ∙ ap (λ (q : Port). map shown (all_replied q later)) last)
    ∙ (sym (map_on (all_replied p happened) (all_replied (port_at_last p happened) later)) ∙ ap (map shown) (sym (replied_on happened later p)))))
