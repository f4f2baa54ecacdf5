-- What comes of a query, of a command that is refused, and of one that the look answers.
use Rattle.std.proofs.Common.{◌≡◌, ◌⊎◌, inl, inr, ℕ, Bool, true, false, cond, nat_lt, length}
use Rattle.std.proofs.Common.{List, [], ◌∷◌, ◌++◌, Some, None, Ok, Err, refl, ap, sym, ◌∙◌, subst}
use Rattle.std.proofs.lemmas.Bool.{cases_eq}
use Rattle.std.proofs.lemmas.List.{append-nil}
use Rattle.pg_term.specs.declared.pid.Pid.{Pid}
use Rattle.pg_term.specs.declared.term.Term.{Term}
use Rattle.pg_message_types.specs.PgGroup.declared.update.Update.TheVariants as update
use Rattle.pg_message_types.specs.PgGroup.Value.{Counts}
use Rattle.pg_message_types.specs.declared.message.Message.{Message}
use Rattle.pg_step.specs.declared.command.Command.{Command}
use Rattle.pg_step.specs.declared.command.Command.TheVariants.{Create, Delete, Join, Leave, Make, Finish}
use Rattle.pg_step.specs.declared.command.Command.TheVariants.{Members, LocalMembers, WhichGroups, Closest}
use Rattle.pg_step.specs.declared.answer.Reply.TheVariants.{Refused}
use Rattle.pg_step.specs.declared.answer.Reply.TheVariants as reply
use Rattle.pg_step.specs.Machines.Machine.{Turn, Do, happens}
use Rattle.pg_step.specs.Machines.Happened.{Happened}
use Rattle.pg_step.specs.Machines.Places.{is_place}
use Rattle.pg_step.specs.Nodes.{Nodes}
use Rattle.pg_step.specs.State.{State, Response, live_nodes}
use Rattle.pg_step.specs.State.Response.{Given, Read}
use Rattle.pg_step.specs.Turns.{NodeTurn, Report, and_then}
use Rattle.pg_step.specs.Commands.{has_large_name, has_foreign_pid, ends_unformed, ends_unmade}
use Rattle.pg_step.specs.Commands.{ends_again, passes_limit, fault_of, answer, look, change_by}
use Rattle.pg_step.specs.Commands.{next_op, count_command, command_by, command, refused}
use Rattle.pg_step.specs.Step.{Issue}
use Rattle.pg_step.specs.declared.refusal.Refusal.TheVariants.{NoSuchPlace}
use Rattle.pg_step.specs.Config.{Config, nodes_at, ports_at}
use Rattle.pg_step.specs.FrameMachine.{place_turn, placed, node_step, machine_of, FrameWorld}
use Rattle.pg_step.specs.StepLaws.{is_query, OnlyAnswers}
use Rattle.pg_step.proofs.Machines.Options.{some_is}
use Rattle.pg_step.proofs.Machines.Steps.{happened, changes}
use Rattle.pg_step.specs.declared.command_fault.CommandFault.TheVariants.{NameTooLarge, ForeignPid, NotFormed}
use Rattle.pg_step.specs.declared.command_fault.CommandFault.TheVariants.{NotMade, AlreadyEnded, ProcessLimit}
use Rattle.pg_step.specs.declared.command_fault.CommandFault.{CommandFault}
use Rattle.pg_step.specs.Faults.{first_that_holds}

-- the turn of a command that is answered so, and no more
abbrev answered : ℕ → Response → State → NodeTurn
answered port response s = and_then (count_command port s) (answer (next_op port s) response)

module _ (config : Config) (w v : FrameWorld) (i port : ℕ) (c : Command) (response : Response)
    (is : command (nodes_at config i) (live_nodes (nodes_at config i) (w.node i)) port c (w.node i) ≡ answered port response (w.node i)) (h : Happened (machine_of config) w (Do i (Issue port c)) v) where
  turn_is : h.turn ≡ place_turn config (answered port response (w.node i))
  turn_is = go (nat_lt port (ports_at config i)) (ap (node_step config i (w.node i)) (some_is h.given) ∙ h.made)
    where
      go : (b : Bool) → placed config (cond b (Ok (command (nodes_at config i) (live_nodes (nodes_at config i) (w.node i)) port c (w.node i))) (Err NoSuchPlace)) ≡ Some h.turn
          → h.turn ≡ place_turn config (answered port response (w.node i))
      go true e = sym (some_is e) ∙ ap (place_turn config) is
      go false e = absurd (cc)

  none_sent : (b : Bool) → cond {A = List Message} b [] [] ≡ []
  none_sent true = refl
  none_sent false = refl

  only_answers : OnlyAnswers i port response w v
  only_answers =
      let all = changes (machine_of config) w v (Do i (Issue port c)) h in
      record {
        node = all.state ∙ ap (λ (t : Turn State Message Report). t.state) turn_is;
        others = all.states;
        ways = λ x y. go x y (cases_eq x i);
        reported = all.reported ∙ ap (λ (t : Turn State Message Report). w.reported ++ (i, t.reported) ∷ []) turn_is;
      }
    where
      go : (x y : ℕ) → (x ≡ i) ⊎ (x ≡ i → ⊥) → v.wire x y ≡ w.wire x y
      go x y (inl own) = subst (λ z. v.wire z y ≡ w.wire z y) (sym own)
          ((changes (machine_of config) w v (Do i (Issue port c)) h).sent y
          ∙ ap (λ (t : Turn State Message Report). w.wire i y ++ t.sends y) turn_is
          ∙ ap (λ xs. w.wire i y ++ xs) (none_sent (is_place (length config) y)) ∙ append-nil (w.wire i y))
      go x y (inr other) = (changes (machine_of config) w v (Do i (Issue port c)) h).ways x y other (λ never. never)

pub large_refused : (m : Nodes) (s : State) (c : Command) → has_large_name c ≡ true → fault_of m s c ≡ Some NameTooLarge
large_refused m s c large = ap (λ b. first_that_holds ((b, NameTooLarge) ∷ (has_foreign_pid m c, ForeignPid) ∷ (ends_unformed m s c, NotFormed) ∷ (ends_unmade s c, NotMade) ∷ (ends_again s c, AlreadyEnded) ∷ (passes_limit s c, ProcessLimit) ∷ [])) large

pub refused_answers : (config : Config) (w v : FrameWorld) (i port : ℕ) (c : Command) (fault : CommandFault) → fault_of (nodes_at config i) (w.node i) c ≡ Some fault
    → happens (machine_of config) w (Do i (Issue port c)) ≡ Some v → OnlyAnswers i port (refused fault) w v
refused_answers config w v i port c fault is e =
    only_answers config w v i port c (refused fault)
    (ap (λ f. and_then (count_command port (w.node i)) (command_by f (live_nodes (nodes_at config i) (w.node i)) (next_op port (w.node i)) c)) is)
    (happened (machine_of config) w v (Do i (Issue port c)) e)

query_turn : (whole m : Nodes) (port : ℕ) (c : Command) (s : State) → is_query c ≡ true → has_large_name c ≡ false → command whole m port c s ≡ answered port (Read c s.table) s
query_turn whole m port (Members name) s q fits = ap (λ b. and_then (count_command port s) (command_by (cond b (Some NameTooLarge) None) m (next_op port s) (Members name))) fits
query_turn whole m port (LocalMembers name) s q fits = ap (λ b. and_then (count_command port s) (command_by (cond b (Some NameTooLarge) None) m (next_op port s) (LocalMembers name))) fits
query_turn whole m port WhichGroups s q fits = refl
query_turn whole m port (Closest name word) s q fits = ap (λ b. and_then (count_command port s) (command_by (cond b (Some NameTooLarge) None) m (next_op port s) (Closest name word))) fits
query_turn whole m port (Create name) s q fits = absurd (cc)
query_turn whole m port (Delete name) s q fits = absurd (cc)
query_turn whole m port (Join name pid) s q fits = absurd (cc)
query_turn whole m port (Leave name pid) s q fits = absurd (cc)
query_turn whole m port Make s q fits = absurd (cc)
query_turn whole m port (Finish pid) s q fits = absurd (cc)

pub query_answers : (config : Config) (w v : FrameWorld) (i port : ℕ) (c : Command) → is_query c ≡ true → has_large_name c ≡ false
    → happens (machine_of config) w (Do i (Issue port c)) ≡ Some v → OnlyAnswers i port (Read c (w.node i).table) w v
query_answers config w v i port c q fits e =
    only_answers config w v i port c (Read c (w.node i).table) (query_turn (nodes_at config i) (live_nodes (nodes_at config i) (w.node i)) port c (w.node i) q fits) (happened (machine_of config) w v (Do i (Issue port c)) e)

-- ---- the look

created_turn : (whole m : Nodes) (port : ℕ) (name : Term) (counts : Counts) (s : State) → fault_of whole s (Create name) ≡ None → s.table name ≡ Some counts
    → command whole m port (Create name) s ≡ answered port (Given reply.Ok) s
created_turn whole m port name counts s fine there =
    ap (λ f. and_then (count_command port s) (command_by f m (next_op port s) (Create name))) fine
    ∙ ap (λ v. and_then (count_command port s) (change_by (look v (update.Create name)) m (next_op port s) (update.Create name))) there

joined_turn : (whole m : Nodes) (port : ℕ) (name : Term) (pid : Pid) (s : State) → fault_of whole s (Join name pid) ≡ None → s.table name ≡ None
    → command whole m port (Join name pid) s ≡ answered port (Given (reply.NoSuchGroup name)) s
joined_turn whole m port name pid s fine absent =
    ap (λ f. and_then (count_command port s) (command_by f m (next_op port s) (Join name pid))) fine
    ∙ ap (λ v. and_then (count_command port s) (change_by (look v (update.Join name pid)) m (next_op port s) (update.Join name pid))) absent

left_turn : (whole m : Nodes) (port : ℕ) (name : Term) (pid : Pid) (s : State) → fault_of whole s (Leave name pid) ≡ None → s.table name ≡ None
    → command whole m port (Leave name pid) s ≡ answered port (Given (reply.NoSuchGroup name)) s
left_turn whole m port name pid s fine absent =
    ap (λ f. and_then (count_command port s) (command_by f m (next_op port s) (Leave name pid))) fine
    ∙ ap (λ v. and_then (count_command port s) (change_by (look v (update.Leave name pid)) m (next_op port s) (update.Leave name pid))) absent

pub created : (config : Config) (w v : FrameWorld) (i port : ℕ) (name : Term) (counts : Counts) → fault_of (nodes_at config i) (w.node i) (Create name) ≡ None
    → (w.node i).table name ≡ Some counts → happens (machine_of config) w (Do i (Issue port (Create name))) ≡ Some v → OnlyAnswers i port (Given reply.Ok) w v
created config w v i port name counts fine there e =
    only_answers config w v i port (Create name) (Given reply.Ok) (created_turn (nodes_at config i) (live_nodes (nodes_at config i) (w.node i)) port name counts (w.node i) fine there) (happened (machine_of config) w v (Do i (Issue port (Create name))) e)

pub joined : (config : Config) (w v : FrameWorld) (i port : ℕ) (name : Term) (pid : Pid) → fault_of (nodes_at config i) (w.node i) (Join name pid) ≡ None
    → (w.node i).table name ≡ None → happens (machine_of config) w (Do i (Issue port (Join name pid))) ≡ Some v → OnlyAnswers i port (Given (reply.NoSuchGroup name)) w v
joined config w v i port name pid fine absent e =
    only_answers config w v i port (Join name pid) (Given (reply.NoSuchGroup name)) (joined_turn (nodes_at config i) (live_nodes (nodes_at config i) (w.node i)) port name pid (w.node i) fine absent) (happened (machine_of config) w v (Do i (Issue port (Join name pid))) e)

pub left : (config : Config) (w v : FrameWorld) (i port : ℕ) (name : Term) (pid : Pid) → fault_of (nodes_at config i) (w.node i) (Leave name pid) ≡ None
    → (w.node i).table name ≡ None → happens (machine_of config) w (Do i (Issue port (Leave name pid))) ≡ Some v → OnlyAnswers i port (Given (reply.NoSuchGroup name)) w v
left config w v i port name pid fine absent e =
    only_answers config w v i port (Leave name pid) (Given (reply.NoSuchGroup name)) (left_turn (nodes_at config i) (live_nodes (nodes_at config i) (w.node i)) port name pid (w.node i) fine absent) (happened (machine_of config) w v (Do i (Issue port (Leave name pid))) e)
