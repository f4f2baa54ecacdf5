-- What is said of a packet that was taken, and of a fault of what comes of a peer.
use Rattle.std.proofs.Common.{append_assoc, take, ◌≡◌, ◌∙◌, ◌++◌, ◌+◌, ◌<◌, ℕ, get_or, length, Bool, true, false, not, drop, List, [], Option, Some, None, Result, Ok, Err, inl, inr, refl, sym, ap, subst, arith}
use Rattle.std.specs.List.{AllByRecursion, filter, flat_map}
use Rattle.std.proofs.ByRecursion.{All-append}
use Rattle.std.specs.Global.{Vec}
use Rattle.std.specs.Prelude.{IfErr, IfOk, OnErr, OnOk, ◌⊎◌, cond}
use Rattle.pg_node.specs.Bytes.{ReadsNext, damages, next_packet, passed}
use Rattle.pg_node.specs.Links.{Link, at_link}
use Rattle.pg_node.specs.Nodes.{TakesNext, has_lost, sent_out, held_by, links_of, read_next, step_link, taken_of}
use Rattle.pg_node.specs.PgGroup.Table.{Table}
use Rattle.pg_node.specs.PgGroup.declared.update.Update.{Update}
use Rattle.pg_node.specs.PgMessageTypes.declared.message.Message.{Message}
use Rattle.pg_node.specs.PgMessageTypes.declared.message.Message.TheVariants.{Call, Reply, DelLock, Exchange, Down}
use Rattle.pg_node.specs.PgMessageTypes.declared.packet.Packet.{Packet}
use Rattle.pg_node.specs.PgNodeOpens.Places.{name_at, whole_in}
use Rattle.pg_node.specs.PgNodeSends.Dones.{FramedDone}
use Rattle.pg_node.specs.PgNodeSends.Framed.{listed_of}
use Rattle.pg_node.specs.PgNodeSends.Frames.{AreSmallFrames}
use Rattle.pg_node.specs.PgNodeSends.Sendable.{AreSendable}
use Rattle.pg_node.specs.PgNodeSends.contracts.framing.FramedOutgoing.TheImpl as frames
use Rattle.pg_node.specs.PgNodeSends.Sent.{stamped_of}
use Rattle.pg_node.specs.PgNodeState.Issued.{ports_of}
use Rattle.pg_node.specs.PgNodeState.States.{Comes, kept_by, answers_of, names_of, state_of}
use Rattle.pg_node.specs.PgNodeState.declared.state.fault.NodeFault.{NodeFault}
use Rattle.pg_node.specs.PgNodeState.declared.state.fault.NodeFault.TheVariants.{Refused}
use Rattle.pg_node.specs.PgStep.Machines.Clocked.{Timed}
use Rattle.pg_node.specs.PgStep.Nodes.{Node as Name, Nodes}
use Rattle.pg_node.specs.PgStep.State.{State, formed}
use Rattle.pg_node.specs.PgStep.Step.{TimedTurn, step_take}
use Rattle.pg_node.specs.PgStep.declared.answer.Answer.{Answer}
use Rattle.pg_node.specs.PgStep.declared.refusal.Refusal.{Refusal}
use Rattle.pg_node.specs.PgStep.declared.refusal.Refusal.TheVariants.{NodeLost}
use Rattle.pg_node.proofs.Events.{next_err, step_read, takes_err, takes_ok, unmarked}
use Rattle.pg_node_run.specs.Acts.{Act, Given, Took as TookPacket, act_step}
use Rattle.pg_node_run.specs.Events.{IsFault}
use Rattle.pg_node_run.proofs.Acting.{HappenedBy, happened_by}
use Rattle.pg_node_run.proofs.Taking.{took_fault}
use Rattle.pg_node_process.specs.Mirrors.{AreGroupsOf, SaysTable, TellsTable, TellsUpdate}
use Rattle.pg_node_process.specs.Desks.{nothing_came, port_of}
use Rattle.pg_node_process.specs.Outputs.{IsFramed, Output, said as bytes_said}
use Rattle.pg_node_process.specs.Retries.{at_first}
use Rattle.pg_node_process.specs.declared.desk.Desk.{Desk}
use Rattle.pg_node_process.specs.declared.journal.Journal.{Journal}
use Rattle.pg_node_process.specs.declared.outlet.Outlet.{Outlet}
use Rattle.pg_node_process.specs.declared.retries.Courtesy.{Courtesy}
use Rattle.pg_term.specs.declared.term.Term.{Term}
use Rattle.pg_term.specs.declared.pid.Pid.{Pid}
use Rattle.pg_process.specs.Tables.{applied_taken}
use Rattle.pg_process.proofs.Mirrored.{no_rows}
use Rattle.pg_process.proofs.Tables.{applies_so, down_of, ended_stays, table_moves}
use Rattle.pg_process.specs.Chains.{Makes, Rests, Silent}
use Rattle.pg_process.specs.declared.fault.ProcessFault.{ProcessFault}
use Rattle.pg_process.specs.declared.fault.ProcessFault.TheVariants as causes
use Rattle.pg_node_process.specs.Logs.{entry_bytes}
use Rattle.pg_process.specs.Deeds.{AsideSame, Broke, Deed, Does, Took, is_lost, logged, SaysTaken, Tells, fault_term, formed_said, told_formed, told_next}
use Rattle.pg_process.specs.Locks.{is_formed}
use Rattle.pg_process.specs.Mirrors.{AreLeft, IfTaken, KeepsEnded, TellsInput, TellsMessage, ended_in}
use Rattle.pg_node.specs.PgStep.declared.command.OpId.{OpId}
use Rattle.std.proofs.lemmas.List.Concat.{flat_map-append}
use Rattle.std.proofs.lemmas.List.{take-append-le, take_all}
use Rattle.pg_process.specs.Situations.{Setting, Situation, seen_in, setting_of, situation_of, table_of}
use Rattle.pg_process.specs.Takings.{HasNone, Stops, TakesOne, TellsTaken, TookOne, Untaken, tells_none}
use Rattle.pg_process.specs.declared.process.Process.{Process}
use Rattle.pg_process.specs.declared.process.Told.{Told}
use Rattle.pg_process.proofs.Taken.{TakesPacket, broke_one, harm_told, none_harms, none_left, took_none, took_one}

-- ---- that the node is formed

-- whether it is, by the names of the set and its state
abbrev formed_by : List Name → State → Bool
formed_by names s = formed (record { own = name_at names 0; peers = filter (λ q. not (s.lost q)) (drop 1 names) }) s

pub formed_is : (set set2 : Setting) (a b : Situation) → set.names ≡ set2.names → a.node.state ≡ b.node.state → is_formed set a ≡ is_formed set2 b
formed_is set set2 a b names state = λ i. formed_by (names i) (state i).state

pub formed_framed : (formed told : Bool) → AllByRecursion IsFramed (formed_said formed told)
formed_framed true true = tt
formed_framed true false = (record { sayable = tt; fits = omega arith }, tt)
formed_framed false told = tt

-- ---- a host that does not mirror the table

update_none : (applied : Option Update) → TellsUpdate applied []
update_none None = refl
update_none (Some update) = inl refl

packet_none : (message : Message) (applied : Option Update) (after : Table) → TellsMessage message applied after []
packet_none (Call reference request) applied after = update_none applied
packet_none (Reply reference said) applied after = update_none applied
packet_none (DelLock name reference) applied after = update_none applied
packet_none (Exchange node groups) applied after = no_rows after
packet_none (Down pid) applied after = no_rows after

pub untold_said : (set : Setting) (peer : ℕ) (act : Act) (a b : Situation) (formed : Bool) → a.told.mirrored ≡ false → formed ≡ is_formed set b → b.told ≡ told_formed formed a.told
    → TakesPacket set a peer act b → SaysTaken set act a b (formed_said formed a.told.formed)
untold_said set peer act a b formed untold is told taken = record {
  table = [];
  tells = record {
    table = subst (λ (m : Bool). TellsTable m (table_of a) (table_of b) []) (sym untold) refl;
    form = subst (λ (g : Given). TellsInput g act.turn.reported.applied (table_of b) []) (sym taken.given) (packet_none (stamped_of taken.packet).packet act.turn.reported.applied (table_of b));
  };
  says = ap (λ f. formed_said f a.told.formed) is;
  told = told ∙ ap (λ f. told_formed f a.told) is;
}

-- ---- a host that does

-- The table that the packet left, told as one turn of it.
pub mirrored_said : (set : Setting) (peer : ℕ) (act : Act) (a b : Situation) (formed : Bool) (packet : Packet) (turn : TimedTurn) (table : List Output) → a.told.mirrored ≡ true → formed ≡ is_formed set b
    → b.told ≡ told_formed formed a.told → next_packet (a.links peer) ≡ Ok (Some packet)
    → step_take (whole_in set.names) (name_at set.names (peer + 1)) (stamped_of packet) a.node.state ≡ Ok turn
    → TellsTable true (table_of a) (table_of b) table → TellsInput (TookPacket peer (stamped_of packet)) turn.reported.applied (table_of b) table
    → TakesPacket set a peer act b → SaysTaken set act a b (table ++ formed_said formed a.told.formed)
mirrored_said set peer act a b formed packet turn table mirrored is told next made tells form taken =
    let same : taken.packet ≡ packet = one_packet taken.packet packet (sym taken.next ∙ next) in
    let input : act.input ≡ TookPacket peer (stamped_of packet) = taken.given ∙ ap (λ (x : Packet). TookPacket peer (stamped_of x)) same in
    let leads = subst (λ (g : Given). act_step set.names set.ports a.node.state g ≡ Ok act.turn) input taken.takes.leads.made in
    let turns : turn ≡ act.turn = one_turn turn act.turn (sym made ∙ leads) in record {
      table = table;
      tells = record {
        table = subst (λ (m : Bool). TellsTable m (table_of a) (table_of b) table) (sym mirrored) tells;
        form = subst (λ (g : Given). TellsInput g act.turn.reported.applied (table_of b) table) (sym input)
            (subst (λ (t : TimedTurn). TellsInput (TookPacket peer (stamped_of packet)) t.reported.applied (table_of b) table) turns form);
      };
      says = ap (λ f. table ++ formed_said f a.told.formed) is;
      told = told ∙ ap (λ f. told_formed f a.told) is;
    }
  where
    one_packet : (x y : Packet) → ◌≡◌ {A = Result (Option Packet) NodeFault} (Ok (Some x)) (Ok (Some y)) → x ≡ y
    one_packet x y e = cc

    one_turn : (x y : TimedTurn) → ◌≡◌ {A = Result TimedTurn Refusal} (Ok x) (Ok y) → x ≡ y
    one_turn x y e = cc

-- ---- what a packet made of the table, and that the node is formed

-- what is told of a packet that led from one table to another
abbrev pub TellsPacket : Message → List ℕ → List ℕ → Table → State → Option Update → Type 0
TellsPacket message said0 said1 now before applied = (outputs : List Output) × SaysTable before.table now said0 said1 outputs × TellsMessage message applied now outputs

take_front : (xs more : List ℕ) → take (length xs) (xs ++ more) ≡ xs
take_front xs more = take-append-le (length xs) xs more (omega arith) ∙ take_all (length xs) xs (omega arith)

module _ (a : Process) (packet : Packet) (began : Option (OpId × Update)) (names : List Term) (s : State) (said : List ℕ) (is : s ≡ kept_by (held_by a.node))
    (tells : IfTaken packet.message began names s (TellsPacket packet.message a.outlet.gathered.items said s.table)) where
  tells_now : IfTaken packet.message began names (kept_by (held_by a.node)) (TellsPacket packet.message a.outlet.gathered.items said (kept_by (held_by a.node)).table)
  tells_now = subst (λ (t : State). IfTaken packet.message began names t (TellsPacket packet.message a.outlet.gathered.items said t.table)) is tells

  pub taken_told : (b : Process) → b.outlet.gathered.items ≡ said ++ flat_map bytes_said (formed_said (is_formed (setting_of a) (situation_of a)) a.told.formed)
      → b.told ≡ told_formed (is_formed (setting_of a) (situation_of a)) a.told
      → IfTaken packet.message began names (kept_by (held_by a.node)) (λ before applied. (peer : ℕ) → TellsTaken (TookPacket peer (stamped_of packet)) applied before.table a b)
  taken_told b gathered told before applied applies left keeps made peer =
      let h = tells_now before applied applies left keeps made in
      let formed = formed_said (is_formed (setting_of a) (situation_of a)) a.told.formed in record {
        table = h.0;
        tells = h.1.tells;
        form = h.2;
        framed = h.1.framed;
        gathered = gathered
            ∙ (ap (λ w. w ++ flat_map bytes_said formed) h.1.gathered
            ∙ (append_assoc a.outlet.gathered.items (flat_map bytes_said h.0) (flat_map bytes_said formed)
            ∙ ap (λ w. a.outlet.gathered.items ++ w) (sym (flat_map-append bytes_said h.0 formed))));
        told = told;
      }

  -- what was said of the table is let go
  pub taken_cut : (len : ℕ) (later last : List ℕ) → len ≡ length a.outlet.gathered.items → later ≡ said → last ≡ take len later
      → IfTaken packet.message began names (kept_by (held_by a.node)) (λ before applied. last ≡ a.outlet.gathered.items)
  taken_cut len later last size same cut before applied applies left keeps made =
      let h = tells_now before applied applies left keeps made in
      cut ∙ (λ i. take (size i) ((same ∙ h.1.gathered) i)) ∙ take_front a.outlet.gathered.items (flat_map bytes_said h.0)

-- ---- what comes of a packet that was read

module _ (names : List Name) (p : Name) (link : Link) (s0 : Timed State) (before : ℕ → List Answer) where
  -- the next packet of a peer that is not lost
  step_next : (m : Nodes) (packet : Packet) → s0.state.lost p ≡ false → next_packet link ≡ Ok (Some packet) → step_link m p link s0 ≡ taken_of m p s0 (Ok (Some packet))
  step_next m packet live next = ap (λ b. cond b (Err (Refused NodeLost)) (taken_of m p s0 (next_packet link))) live ∙ ap (taken_of m p s0) next

  module _ (m : Nodes) (packet : Packet) (live : s0.state.lost p ≡ false) (next : next_packet link ≡ Ok (Some packet)) (s : Timed State) (after : ℕ → List Answer) where
    pub read_takes : (done : FramedDone) → Comes names (step_take m p (stamped_of packet) s0) (Ok done) s before after → TakesNext names (step_link m p link s0) (Ok (Some done)) s0 s before after
    read_takes done came =
        subst (λ r. TakesNext names r (Ok (Some done)) s0 s before after) (sym (step_next m packet live next))
        (takes_ok names s0 s before after (step_take m p (stamped_of packet) s0) done came)

    pub read_fault : (fault : NodeFault) → Comes {h = frames.ghosts} names (step_take m p (stamped_of packet) s0) (Err fault) s before after → IsFault (step_link m p link s0) fault
    read_fault fault came =
        took_fault names m p link s0 s before after (step_link m p link s0) fault
        (subst (λ r. TakesNext names r (Err fault) s0 s before after) (sym (step_next m packet live next)) (takes_err names s0 s before after (step_take m p (stamped_of packet) s0) fault came))

  -- no packet could be read
  pub unread_fault : (m : Nodes) (fault : NodeFault) → ReadsNext (read_next (s0.state.lost p) link) (Err fault) → IsFault (step_link m p link s0) fault
  unread_fault m fault reads =
      took_fault names m p link s0 s0 before before (step_link m p link s0) fault
      (subst (λ r. TakesNext names r (Err fault) s0 s0 before before) (sym (step_read m p link s0)) (next_err names s0 s0 before before m p (read_next (s0.state.lost p) link) fault reads))

-- ---- nothing was taken

module _ (a b : Process) (peer : ℕ) (fault : NodeFault) (u : Untaken peer fault a b) where
  aside : AsideSame (situation_of a) (situation_of b)
  aside = record {
    ports = ap (λ (ds : List Desk). seen_in port_of nothing_came ds) (ap (λ (v : Vec Desk). v.items) u.desks);
    courtesies = ap (λ (cs : List Courtesy). seen_in (λ c. c) at_first cs) (ap (λ (v : Vec Courtesy). v.items) u.courtesies);
    came = u.came;
  }

  untaken_silent : Silent a b
  untaken_silent = record { gathered = ap (λ (o : Outlet). o.gathered.items) u.outlet; journal = ap (λ (j : Journal). j.gathered.items) u.journal }

  -- nothing is there
  pub untaken_none : tells_none fault ≡ true → Rests a b × HasNone peer a
  untaken_none none = (
    took_none a b u.state u.answers u.names u.ports (u.links ∙ unmarked (links_of a.node) peer fault (none_harms fault none)) untaken_silent.gathered untaken_silent.journal aside u.told_before,
    none_left a peer fault u.told none,
  )

  -- the fault is told
  pub untaken_told : (after : Process) (term : Term) (name : List ℕ) → peer < length b.peers.items → damages fault ≡ true → term ≡ fault_term name fault → name ≡ get_or b.peers.items peer name
      → ((outputs : List Output) × Tells term outputs × AllByRecursion IsFramed outputs × (after.outlet.gathered.items ≡ b.outlet.gathered.items ++ flat_map bytes_said outputs))
      → after ≡ record b { outlet = after.outlet } → TookOne peer a after
  untaken_told after term name within harms is here said rest =
      broke_one a after peer fault term name (state_of (held_by b.node)) (answers_of (held_by b.node)) (links_of b.node)
      (subst (λ (v : Vec _). peer < length v.items) u.peers within) (harm_told (told_next (setting_of a) (situation_of a) peer) fault u.told harms) harms is
      (subst (λ (v : Vec _). name ≡ get_or v.items peer name) u.peers here)
      (said.0, said.1, said.2, said.3 ∙ ap (λ (bytes : List ℕ). bytes ++ flat_map bytes_said said.0) untaken_silent.gathered)
      u.state u.answers u.links
      (ap situation_of rest ∙ (λ i. record (situation_of b) { ports = aside.ports i; courtesies = aside.courtesies i; came = aside.came i; told = u.told_before i }))
      (ap (λ (p : Process). p.journal.gathered.items) rest ∙ untaken_silent.journal) (names_of (held_by b.node)) (ports_of (held_by b.node)) (ap setting_of rest) u.names u.ports

-- ---- a packet was taken, and told

-- the groups that a process leaves are those that were looked for
pub left_are : (message : Message) (table : Table) (names : List Term) → ((pid : Pid) → ended_in message ≡ Some pid → AreGroupsOf table pid names) → AreLeft message table names
left_are (Call reference request) table names each = tt
left_are (Reply reference said) table names each = tt
left_are (DelLock name reference) table names each = tt
left_are (Exchange node groups) table names each = tt
left_are (Down pid) table names each = each pid refl

ended_kept : (message : Message) (before after : Pid → Bool) → (down_of message ≡ None → after ≡ before) → KeepsEnded message before after
ended_kept (Call reference request) before after kept = kept refl
ended_kept (Reply reference said) before after kept = kept refl
ended_kept (DelLock name reference) before after kept = kept refl
ended_kept (Exchange node groups) before after kept = kept refl
ended_kept (Down pid) before after kept = tt

-- what the step tells of the packet that was read
abbrev pub told_of_packet : Process → ℕ → Packet → Result TimedTurn Refusal
told_of_packet a peer packet = step_take (whole_in (names_of (held_by a.node))) (name_at (names_of (held_by a.node)) (peer + 1)) (stamped_of packet) (state_of (held_by a.node))

-- it happened, from the one state to the other
abbrev pub HappenedTo : Process → ℕ → Packet → FramedDone → Timed State → (ℕ → List Answer) → Type 0
HappenedTo a peer packet done s x = Comes (names_of (held_by a.node)) (told_of_packet a peer packet) (Ok done) s (answers_of (held_by a.node)) x

-- by a turn of the step
happened_to : (a : Process) (s : Timed State) (x : ℕ → List Answer) (peer : ℕ) (packet : Packet) (done : FramedDone) → HappenedTo a peer packet done s x
    → HappenedBy (names_of (held_by a.node)) (told_of_packet a peer packet) done s (answers_of (held_by a.node)) x
happened_to a s x peer packet done came = happened_by (names_of (held_by a.node)) (told_of_packet a peer packet) done s (answers_of (held_by a.node)) x came

-- what holds where the packet led to the state holds of the state before
led : (a : Process) (now : Timed State) (x : ℕ → List Answer) (peer : ℕ) (packet : Packet) (done : FramedDone) (groups : List Term) (Holds : State → Option Update → Type 0) (came : HappenedTo a peer packet done now x)
    → AreLeft packet.message (kept_by (held_by a.node)).table groups → IfTaken packet.message done.began groups now.state Holds
    → Holds (kept_by (held_by a.node)) (happened_to a now x peer packet done came).turn.reported.applied
led a now x peer packet done groups Holds came left holds =
    let names = names_of (held_by a.node) in
    let ports = ports_of (held_by a.node) in
    let s = state_of (held_by a.node) in
    let happened = happened_to a now x peer packet done came in
    let turn = happened.turn in
    let reached = happened.happens.state in
    let input : Given = TookPacket peer (stamped_of packet) in
    holds (kept_by (held_by a.node)) turn.reported.applied (applies_so names ports s input turn happened.made tt ∙ ap (applied_taken packet.message) (sym happened.happens.told.began)) left
    (ended_kept packet.message s.state.ended now.state.ended (λ none. ap (λ (t : Timed State). t.state.ended) reached ∙ ended_stays names ports s input turn happened.made tt none))
    (ap (λ (t : Timed State). t.state.table) reached ∙ table_moves names ports s input turn happened.made tt)

-- what was read is told as it was taken
abbrev pub ToldTaken : ℕ → Packet → FramedDone → List Term → Process → Process → Type 0
ToldTaken peer packet done groups mid told =
    IfTaken packet.message done.began groups (kept_by (held_by mid.node)) (λ before applied. (peer : ℕ) → TellsTaken (TookPacket peer (stamped_of packet)) applied before.table mid told)

module _ (a mid told b : Process) (peer : ℕ) (packet : Packet) (done : FramedDone) (groups : List Term) (came : HappenedTo a peer packet done (state_of (held_by mid.node)) (answers_of (held_by mid.node))) (left : AreLeft packet.message (kept_by (held_by a.node)).table groups) where
  pub took_told : ToldTaken peer packet done groups mid told → peer < length a.peers.items → a.told.mirrored ≡ true → next_packet (links_of a.node peer) ≡ Ok (Some packet) → has_lost (held_by a.node) peer ≡ false
      → AreSendable (names_of (held_by a.node)) (listed_of done.sends) → AreSmallFrames (listed_of done.sends)
      → ((place : ℕ) → links_of mid.node place ≡ at_link peer passed (sent_out (listed_of done.sends) (links_of a.node)) place)
      → names_of (held_by mid.node) ≡ names_of (held_by a.node) → ports_of (held_by mid.node) ≡ ports_of (held_by a.node)
      → mid.told ≡ a.told → mid.outlet.gathered.items ≡ a.outlet.gathered.items
      → b.outlet.gathered.items ≡ told.outlet.gathered.items → b.told ≡ told.told → held_by b.node ≡ held_by mid.node → links_of b.node ≡ links_of mid.node
      → b.journal.gathered.items ≡ a.journal.gathered.items → AsideSame (situation_of a) (situation_of b)
      → TookOne peer a b
  took_told tells within mirrored next live fits small sent names ports same_told same_said said_last told_last held wires journal aside =
      let set = setting_of a in
      let s = state_of (held_by a.node) in
      let p = name_at set.names (peer + 1) in
      let happened = happened_to a (state_of (held_by mid.node)) (answers_of (held_by mid.node)) peer packet done came in
      let t = led a (state_of (held_by mid.node)) (answers_of (held_by mid.node)) peer packet done groups (λ before applied. (peer : ℕ) → TellsTaken (TookPacket peer (stamped_of packet)) applied before.table mid told) came left tells peer in
      let formed = is_formed (setting_of mid) (situation_of mid) in
      let formed_now : formed ≡ is_formed set (situation_of b) = formed_is (setting_of mid) set (situation_of mid) (situation_of b) names (ap (λ n. state_of n) (sym held)) in
      let told_now : b.told ≡ told_formed formed a.told = told_last ∙ t.told ∙ ap (told_formed formed) same_told in
      let said = t.table ++ formed_said formed a.told.formed in
      took_one a b peer done (state_of (held_by mid.node)) (answers_of (held_by mid.node)) (links_of mid.node) within
      (read_takes set.names p (links_of a.node peer) s (answers_of (held_by a.node)) (whole_in set.names) packet live next (state_of (held_by mid.node)) (answers_of (held_by mid.node)) done came)
      fits small sent (ap (λ n. state_of n) held) (ap (λ n. answers_of n) held) wires (ap (λ n. names_of n) held ∙ names) (ap (λ n. ports_of n) held ∙ ports) said
      (λ act taken. mirrored_said set peer act (situation_of a) (situation_of b) formed packet happened.turn t.table mirrored formed_now told_now next happened.made
      (subst (λ (now : Table). TellsTable true (table_of (situation_of a)) now t.table) (ap (λ n. (kept_by n).table) (sym held)) t.tells)
      (subst (λ (now : Table). TellsInput (TookPacket peer (stamped_of packet)) happened.turn.reported.applied now t.table) (ap (λ n. (kept_by n).table) (sym held)) t.form) taken)
      (All-append IsFramed t.table (formed_said formed a.told.formed) t.framed (formed_framed formed a.told.formed))
      (said_last ∙ t.gathered ∙ ap (λ w. w ++ flat_map bytes_said (t.table ++ formed_said formed mid.told.formed)) same_said
      ∙ ap (λ (o : Told). a.outlet.gathered.items ++ flat_map bytes_said (t.table ++ formed_said formed o.formed)) same_told)
      journal aside

-- nothing is said where memory runs out
pub took_silent : (a told b : Process) (now : Timed State) (x : ℕ → List Answer) (peer : ℕ) (packet : Packet) (done : FramedDone) (groups : List Term) → HappenedTo a peer packet done now x
    → AreLeft packet.message (kept_by (held_by a.node)).table groups → IfTaken packet.message done.began groups now.state (λ before applied. told.outlet.gathered.items ≡ a.outlet.gathered.items)
    → b.outlet.gathered.items ≡ told.outlet.gathered.items → b.journal.gathered.items ≡ a.journal.gathered.items → Silent a b
took_silent a told b now x peer packet done groups came left cut last journal =
    record { gathered = last ∙ led a now x peer packet done groups (λ before applied. told.outlet.gathered.items ≡ a.outlet.gathered.items) came left cut; journal = journal }

-- it was told, and that is said
pub told_made : {E : Type 0} (result : Result Bool E) (peer : ℕ) (a b : Process) (P : Type 0) → (result ≡ Ok false → ⊥) → OnOk result P → (P → TookOne peer a b) → IfOk result (λ taken. TakesOne peer taken a b)
told_made (Ok true) peer a b P never told so = so told
told_made (Ok false) peer a b P never told so = absurd (never refl)
told_made (Err fault) peer a b P never told so = tt

pub told_failed : {T : Type 0} (result : Result T ProcessFault) (peer : ℕ) (a b : Process) (P : Type 0) → IfErr result (λ fault. fault ≡ causes.OutOfMemory) → OnErr result P → (P → Silent a b)
    → IfErr result (λ fault. Stops peer fault a b)
told_failed (Ok taken) peer a b P memory told so = tt
told_failed (Err fault) peer a b P memory told so = subst (λ (f : ProcessFault). Stops peer f a b) (sym memory) (so told)

-- ---- behind a look that changes nothing

-- nothing of a peer is there, by what is seen
abbrev NoneAt : ℕ → Setting → Situation → Type 0
NoneAt peer set a = (is_lost set a peer ≡ true) ⊎ (((a.links peer).damaged ≡ true) ⊎ (read_next (is_lost set a peer) (a.links peer) ≡ Ok None))

module _ (a m b : Process) (rests : Rests a m) where
  rested_makes : (deed : Deed) → Makes deed m b → Makes deed a b
  rested_makes deed makes = record {
    said = makes.said;
    does = subst (λ (s : Situation). Does (setting_of a) s deed makes.said (situation_of b)) rests.same
        (subst (λ (set : Setting). Does set (situation_of m) deed makes.said (situation_of b)) rests.setting makes.does);
    heard = makes.heard;
    gathered = makes.gathered ∙ ap (λ (bytes : List ℕ). bytes ++ flat_map bytes_said makes.said) rests.gathered;
    journal = makes.journal ∙ ap (λ (bytes : List ℕ). bytes ++ flat_map entry_bytes (logged deed)) rests.journal;
    setting = makes.setting ∙ rests.setting;
  }

  rested_silent : Silent m b → Silent a b
  rested_silent silent = record { gathered = silent.gathered ∙ rests.gathered; journal = silent.journal ∙ rests.journal }

  rested_takes : (peer : ℕ) (taken : Bool) → TakesOne peer taken m b → TakesOne peer taken a b
  rested_takes peer true (inl (act, makes)) = inl (act, rested_makes (Took peer act) makes)
  rested_takes peer true (inr (fault, makes)) = inr (fault, rested_makes (Broke peer fault) makes)
  rested_takes peer false (other, none) = (
    record { same = other.same ∙ rests.same; gathered = other.gathered ∙ rests.gathered; journal = other.journal ∙ rests.journal; setting = other.setting ∙ rests.setting },
    subst (λ (s : Situation). NoneAt peer (setting_of a) s) rests.same (subst (λ (set : Setting). NoneAt peer set (situation_of m)) rests.setting none),
  )

  rested_stops : (peer : ℕ) (fault : ProcessFault) → Stops peer fault m b → Stops peer fault a b
  rested_stops peer causes.ClockFull (silent, full) = (
    rested_silent silent,
    sym (λ i. told_next (rests.setting i) (rests.same i) peer) ∙ full,
  )
  rested_stops peer causes.OutOfMemory silent = rested_silent silent

  pub rested_made : {E : Type 0} (result : Result Bool E) (peer : ℕ) → IfOk result (λ taken. TakesOne peer taken m b) → IfOk result (λ taken. TakesOne peer taken a b)
  rested_made (Ok taken) peer made = rested_takes peer taken made
  rested_made (Err fault) peer made = tt

  pub rested_failed : {T : Type 0} (result : Result T ProcessFault) (peer : ℕ) → IfErr result (λ fault. Stops peer fault m b) → IfErr result (λ fault. Stops peer fault a b)
  rested_failed (Ok taken) peer failed = tt
  rested_failed (Err fault) peer failed = rested_stops peer fault failed
