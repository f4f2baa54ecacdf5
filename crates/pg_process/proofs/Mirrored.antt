-- What a host that mirrors the table is told of what was taken, and of an end.
use Rattle.std.proofs.Common.{Bor, suc, ◌≡◌, ◌∙◌, List, ℕ, Bool, true, false, not, ◌&&◌, cond, [], ◌∷◌, Option, Some, None, refl, sym, ap, subst, append-nil, arith}
use Rattle.std.specs.Global.{Vec}
use Rattle.std.specs.Prelude.{IfOk, OnOk, Result, Ok, Err, ◌==◌, length, option_copied, ◌||◌, map}
use Rattle.std.specs.List.{list_any}
use Rattle.std.proofs.Math.Path.{fun_ext}
use Rattle.std.proofs.lemmas.Bool.Decides.{nat_tests}
use Rattle.pg_term.specs.declared.pid.Pid.{Pid}
use Rattle.pg_term.specs.declared.term.Term.{Term}
use Rattle.pg_term.specs.Same.{same_term}
use Rattle.pg_term.specs.contracts.term.TermEq.TheImpl.Laws as term_laws
use Rattle.pg_step.proofs.PgGroup.Changes.{upd_other}
use Rattle.pg_node.specs.PgGroup.Table.{GroupList, Table, all_merged, exchanged, merged, without}
use Rattle.pg_node.specs.PgGroup.declared.update.Update.{Update}
use Rattle.pg_node.specs.PgMessageTypes.declared.message.Message.{Message}
use Rattle.pg_node.specs.PgMessageTypes.declared.message.Message.TheVariants.{Down, Exchange}
use Rattle.pg_node.specs.PgStep.Nodes.{Node}
use Rattle.pg_node.specs.PgStep.State.{State}
use Rattle.pg_node.specs.PgStep.declared.command.Command.TheVariants.{Finish}
use Rattle.pg_node.specs.PgStep.declared.command.OpId.{OpId}
use Rattle.pg_node_process.specs.Mirrors.{AreGroupsOf, OnlyThese, SaysRows, SaysTable, SaysUpdate, TellsRows, TellsUpdate, has_joined}
use Rattle.pg_node_process.specs.Outputs.{Output}
use Rattle.pg_node_process.proofs.Mirroring.{left_only, rows_table}
use Rattle.pg_process.specs.Mirrors.{AreLeft, IfTaken, TellsMessage}
use Rattle.pg_process.specs.Tables.{by_update, table_issued, table_taken}

-- nothing is said of what stays as it is
pub nothing_told : (before after : Table) (bytes : List ℕ) → after ≡ before → SaysTable before after bytes bytes []
nothing_told before after bytes is = record { tells = (tt, sym is); framed = tt; gathered = sym (append-nil bytes) }

-- ---- an exchange

neither : (a b : Bool) → (a || b) ≡ false → (a ≡ false) × (b ≡ false)
neither true b none = absurd (cc)
neither false b none = (refl, none)

-- no group but those that it names is another
only_named : (groups : GroupList) (table : Table) (ended : Pid → Bool) → OnlyThese (map (λ group. group.0) groups) table (all_merged table groups ended)
only_named [] table ended name none = refl
only_named (group ∷ groups) table ended name none =
    let h = neither (same_term name group.0) (list_any (same_term name) (map (λ group. group.0) groups)) none in
    only_named groups (merged table group.0 group.1 ended) ended name h.1
    ∙ upd_other same_term table group.0 (exchanged (table group.0) group.1 ended) name (term_laws.laws-law.symm group.0 name ∙ h.0)

-- What is told of a message, from the table before to this one.
abbrev pub MessageTold : Message → Table → List ℕ → List ℕ → State → Option Update → Type 0
MessageTold message now said0 said1 before applied = (outputs : List Output) × SaysTable before.table now said0 said1 outputs × TellsMessage message applied now outputs

-- the groups of an exchange are told as they are
pub exchange_told : (message : Message) (node : Node) (groups : GroupList) (now : Table) (said0 said1 : List ℕ) → message ≡ Exchange node groups
    → (outputs : List Output) × SaysRows (map (λ group. group.0) groups) now said0 said1 outputs
    → (before : State) (applied : Option Update) → now ≡ table_taken message applied before → MessageTold message now said0 said1 before applied
exchange_told message node groups now said0 said1 is told before applied made =
    let merges : now ≡ all_merged before.table groups before.ended = made ∙ ap (λ (m : Message). table_taken m applied before) is in
    let only = subst (λ (t : Table). OnlyThese (map (λ group. group.0) groups) before.table t) (sym merges) (only_named groups before.table before.ended) in (
      told.0,
      rows_table (map (λ group. group.0) groups) before.table now said0 said1 told.0 told.1 only,
      subst (λ (m : Message). TellsMessage m applied now told.0) (sym is) (map (λ group. group.0) groups, told.1.rows),
    )

pub exchange_all : {E : Type 0} (result : Result (Unit {0}) E) (message : Message) (node : Node) (groups : GroupList) (began : Option (OpId × Update)) (names : List Term) (after : State) (table : Table)
    (said0 said1 : List ℕ) → table ≡ after.table → message ≡ Exchange node groups
    → OnOk result ((outputs : List Output) × SaysRows (map (λ group. group.0) groups) table said0 said1 outputs)
    → OnOk result (IfTaken message began names after (MessageTold message after.table said0 said1))
exchange_all (Ok done) message node groups began names after table said0 said1 same is told = λ before applied applies left kept made.
    exchange_told message node groups after.table said0 said1 is
    (subst (λ (t : Table). (outputs : List Output) × SaysRows (map (λ group. group.0) groups) t said0 said1 outputs) same told) before applied made
exchange_all (Err fault) message node groups began names after table said0 said1 same is told = tt

-- the groups of a process that has ended are told as they are
pub down_told : (message : Message) (pid : Pid) (names : List Term) (now : Table) (said0 said1 : List ℕ) → message ≡ Down pid
    → (outputs : List Output) × SaysRows names now said0 said1 outputs
    → (before : State) (applied : Option Update) → AreLeft message before.table names → now ≡ table_taken message applied before → MessageTold message now said0 said1 before applied
down_told message pid names now said0 said1 is told before applied left made =
    let are : AreGroupsOf before.table pid names = subst (λ (m : Message). AreLeft m before.table names) is left in
    let out : now ≡ without before.table pid = made ∙ ap (λ (m : Message). table_taken m applied before) is in (
      told.0,
      rows_table names before.table now said0 said1 told.0 told.1 (left_only pid names before.table now are out),
      subst (λ (m : Message). TellsMessage m applied now told.0) (sym is) (names, told.1.rows),
    )

pub down_all : {E : Type 0} (result : Result (Unit {0}) E) (message : Message) (pid : Pid) (began : Option (OpId × Update)) (names : List Term) (after : State) (table : Table)
    (said0 said1 : List ℕ) → table ≡ after.table → message ≡ Down pid
    → OnOk result ((outputs : List Output) × SaysRows names table said0 said1 outputs)
    → OnOk result (IfTaken message began names after (MessageTold message after.table said0 said1))
down_all (Ok done) message pid began names after table said0 said1 same is told = λ before applied applies left kept made.
    down_told message pid names after.table said0 said1 is
    (subst (λ (t : Table). (outputs : List Output) × SaysRows names t said0 said1 outputs) same told) before applied left made
down_all (Err fault) message pid began names after table said0 said1 same is told = tt

-- ---- an update

-- what is told of an update that was applied, where one was
abbrev pub AppliedTold : Option Update → Table → (Pid → Bool) → List ℕ → List ℕ → Type 0
AppliedTold update now ended said0 said1 = (before : Table) → now ≡ by_update update before ended → (outputs : List Output) × SaysTable before now said0 said1 outputs × TellsUpdate update outputs

pub applied_all : {E : Type 0} (result : Result (Unit {0}) E) (some : Option (Bor Update)) (one : Bor Update) (joined : Bool) (table now : Table) (ended : Pid → Bool) (said0 said1 : List ℕ)
    → table ≡ now → some ≡ Some one → joined ≡ has_joined one.now ended → OnOk result (SaysUpdate one.now joined table said0 said1) → OnOk result (AppliedTold (option_copied some) now ended said0 said1)
applied_all (Ok done) some one joined table now ended said0 said1 same is told says = subst (λ (o : Option (Bor Update)). AppliedTold (option_copied o) now ended said0 said1) (sym is)
    (λ before makes. subst (λ (t : Table). SaysUpdate one.now joined t said0 said1) same says before ended makes (sym told))
applied_all (Err fault) some one joined table now ended said0 said1 same is told says = tt

-- ---- the groups that a process leaves

pub left_by : {E : Type 0} (result : Result (Vec Term) E) (ends : Option (Bor Pid)) (one : Bor Pid) (table now : Table) → table ≡ now → ends ≡ Some one
    → IfOk result (λ names. AreGroupsOf table one.now names.items)
    → IfOk result (λ names. (pid : Pid) → option_copied ends ≡ Some pid → AreGroupsOf now pid names.items)
left_by (Ok names) ends one table now same is are = λ pid e.
    subst (λ (t : Table). AreGroupsOf t pid names.items) same
    (subst (λ (p : Pid). AreGroupsOf table p names.items) (same_pid_in one.now pid (sym (ap (λ (o : Option (Bor Pid)). option_copied o) is) ∙ e)) are)
  where
    same_pid_in : (p q : Pid) → ◌≡◌ {A = Option Pid} (Some p) (Some q) → p ≡ q
    same_pid_in p q e = cc
left_by (Err fault) ends one table now same is are = tt

-- ---- an end by a command

without_none : (table : Table) (pid : Pid) → AreGroupsOf table pid [] → without table pid ≡ table
without_none table pid none = fun_ext (λ name. left_only pid [] table (without table pid) none refl name refl)

-- what is told of the end of a process by a command, from the table before to this one
abbrev pub FinishTold : Pid → List Term → Table → (Pid → Bool) → List ℕ → List ℕ → Type 0
FinishTold pid names now ended said0 said1 =
    (before : State) → (before.ended pid ≡ false → AreGroupsOf before.table pid names) → (before.ended pid ≡ true → names ≡ []) → now ≡ table_issued (Finish pid) None before ended
    → (outputs : List Output) × SaysTable before.table now said0 said1 outputs × TellsRows now outputs

-- no group is told
pub no_rows : (now : Table) → TellsRows now []
no_rows now = ([], λ before. refl)

module _ (pid : Pid) (names : List Term) (now : Table) (ended : Pid → Bool) where
  -- it did not end
  pub living_told : (bytes : List ℕ) → ended pid ≡ false → FinishTold pid names now ended bytes bytes
  living_told bytes living before groups none made =
      ([], nothing_told before.table now bytes (made ∙ ap (λ b. cond (b && not (before.ended pid)) (without before.table pid) before.table) living), no_rows now)

  -- it was in no group
  pub alone_told : (bytes : List ℕ) → names ≡ [] → FinishTold pid names now ended bytes bytes
  alone_told bytes alone before groups none made = ([], nothing_told before.table now bytes (made ∙ go (ended pid) (before.ended pid) refl), no_rows now)
    where
      go : (is was : Bool) → before.ended pid ≡ was → cond (is && not was) (without before.table pid) before.table ≡ before.table
      go false was e = refl
      go true true e = refl
      go true false e = without_none before.table pid (subst (λ (l : List Term). AreGroupsOf before.table pid l) alone (groups e))

  -- it ended, and was in some
  pub ended_told : (said0 said1 : List ℕ) → ended pid ≡ true → (names ≡ [] → ⊥)
      → (outputs : List Output) × SaysRows names now said0 said1 outputs
      → FinishTold pid names now ended said0 said1
  ended_told said0 said1 is some told before groups none made = go (before.ended pid) refl
    where
      go : (was : Bool) → before.ended pid ≡ was → (outputs : List Output) × SaysTable before.table now said0 said1 outputs × TellsRows now outputs
      go true e = absurd (some (none e))
      go false e =
          let out : now ≡ without before.table pid = made ∙ (λ i. cond (is i && not (e i)) (without before.table pid) before.table) in
          (told.0, rows_table names before.table now said0 said1 told.0 told.1 (left_only pid names before.table now (groups e) out), (names, told.1.rows))

  pub ended_all : {E : Type 0} (said0 said1 : List ℕ) (result : Result (Unit {0}) E) → ended pid ≡ true → (names ≡ [] → ⊥)
      → OnOk result ((outputs : List Output) × SaysRows names now said0 said1 outputs)
      → OnOk result (FinishTold pid names now ended said0 said1)
  ended_all said0 said1 (Ok done) is some told = ended_told said0 said1 is some told
  ended_all said0 said1 (Err fault) is some told = tt

pub no_names : (names : List Term) → (length names == 0) ≡ true → names ≡ []
no_names [] e = refl
no_names (name ∷ names) e = let none : suc (length names) ≡ 0 = grind (arith, nat_tests) in absurd (omega arith)

pub some_names : (names : List Term) → (length names == 0) ≡ false → names ≡ [] → ⊥
some_names [] e none = cc
some_names (name ∷ names) e none = cc
