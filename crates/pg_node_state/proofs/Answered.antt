-- A port where a command came in, or was answered.
use Rattle.std.proofs.Common.{◌≡◌, ◌<◌, ◌≤◌, ◌+◌, ℕ, Bool, true, false, cond, nat_eq}
use Rattle.std.proofs.Common.{List, length, Option, Some, refl, sym, arith, subst}
use Rattle.std.proofs.lemmas.Bool.{eqb-true, eq-eqb}
use Rattle.pg_node_ports.specs.PgGroup.Functions.{upd}
use Rattle.pg_node_ports.specs.PgGroup.declared.update.Update.{Update}
use Rattle.pg_node_ports.specs.PgGroup.Value.{name_of}
use Rattle.pg_node_ports.specs.PgMessageTypes.Name.{is_name}
use Rattle.pg_node_ports.specs.PgStep.declared.command.OpId.{OpId}
use Rattle.pg_node_ports.specs.PgStep.State.{Use, Stage}
use Rattle.pg_node_ports.specs.PgStep.State.Stage.{Closed, Waiting, Asking, Changing}
use Rattle.pg_node_ports.specs.PgNodeOpens.Readings.{stage_seen, is_closed}
use Rattle.pg_node_ports.specs.declared.port.Port.{Port}
use Rattle.pg_node_ports.specs.Ports.{counted_at}
use Rattle.pg_node_state.specs.Ports.{CameIn, AreGiven}
use Rattle.pg_node_ports.specs.Ports.{port_commands}
use Rattle.pg_node_state.proofs.Given.{given_more}

count_more : (counts : ℕ → ℕ) (k port : ℕ) → counts port ≤ counted_at k counts port
unfolding upd
count_more counts k port = go (nat_eq k port) (eqb-true k port)
  where
    go : (b : Bool) → (b ≡ true → k ≡ port) → counts port ≤ cond b (counts k + 1) (counts port)
    go true same = subst (λ x. counts x ≤ counts k + 1) (same refl) (omega arith)
    go false same = omega arith

count_within : (counts : ℕ → ℕ) (k port n m : ℕ) → ((x : ℕ) → counts x ≤ n) → n < m → counted_at k counts port ≤ m
unfolding upd
count_within counts k port n m each later = go (nat_eq k port)
  where
    go : (b : Bool) → cond b (counts k + 1) (counts port) ≤ m
    go true = omega (arith, each k, later)
    go false = omega (arith, each port, later)

count_itself : (counts : ℕ → ℕ) (k : ℕ) → counts k + 1 ≤ counted_at k counts k
unfolding upd
count_itself counts k = subst (λ b. counts k + 1 ≤ cond b (counts k + 1) (counts k)) (sym (eq-eqb k k refl)) (omega arith)

-- the ports after an event, of which one counted a command more
module _ (old new : List Port) (k : ℕ) (same : length new ≡ length old) (counted : port_commands new ≡ counted_at k (port_commands old)) where
  pub counts_within : (n m : ℕ) → ((port : ℕ) → port_commands old port ≤ n) → n < m → (port : ℕ) → port_commands new port ≤ m
  counts_within n m each later port = subst (λ (f : ℕ → ℕ). f port ≤ m) (sym counted) (count_within (port_commands old) k port n m each later)

  came_later : (op : OpId) (update : Option Update) → CameIn (length old) (port_commands old) op update → CameIn (length new) (port_commands new) op update
  came_later op update came = record {
    port = subst (λ n. op.port < n) (sym same) came.port;
    number = subst (λ (f : ℕ → ℕ). op.number ≤ f op.port) (sym counted) (omega (arith, came.number, count_more (port_commands old) k op.port));
    named = came.named;
  }

  pub given_later : {uses : ℕ → Use} {stages : OpId → Stage} → AreGiven (CameIn (length old) (port_commands old)) uses stages → AreGiven (CameIn (length new) (port_commands new)) uses stages
  given_later given = given_more came_later given

  -- the command that was counted came in, with an update that has a name
  pub next_came : (update : Update) → is_name (name_of update) ≡ true → k < length old → CameIn (length new) (port_commands new) (record { port = k; number = port_commands old k + 1 }) (Some update)
  next_came update named within = record {
    port = subst (λ n. k < n) (sym same) within;
    number = subst (λ (f : ℕ → ℕ). port_commands old k + 1 ≤ f k) (sym counted) (count_itself (port_commands old) k);
    named = named;
  }

-- the ports after an event that counts no command
module _ (old new : List Port) (same : length new ≡ length old) (counts : port_commands new ≡ port_commands old) where
  pub given_still : {uses : ℕ → Use} {stages : OpId → Stage} → AreGiven (CameIn (length old) (port_commands old)) uses stages → AreGiven (CameIn (length new) (port_commands new)) uses stages
  given_still {uses} {stages} given = subst (λ n. AreGiven (CameIn n (port_commands new)) uses stages) (sym same) (subst (λ (f : ℕ → ℕ). AreGiven (CameIn (length old) f) uses stages) (sym counts) given)

  pub counts_still : (n : ℕ) → ((port : ℕ) → port_commands old port ≤ n) → (port : ℕ) → port_commands new port ≤ n
  counts_still n each port = subst (λ (f : ℕ → ℕ). f port ≤ n) (sym counts) (each port)

-- the next command of a port is not open
pub next_closed : {uses : ℕ → Use} {stages : OpId → Stage} (ports port : ℕ) (counts : ℕ → ℕ) → AreGiven (CameIn ports counts) uses stages → stages (record { port = port; number = counts port + 1 }) ≡ Closed
next_closed {uses} {stages} ports port counts given = closed (stages op) (go (is_closed (stage_seen (stages op))) refl)
  where
    op : OpId
    op = record { port = port; number = counts port + 1 }

    closed : (stage : Stage) → is_closed (stage_seen stage) ≡ true → stage ≡ Closed
    closed Closed e = refl
    closed (Waiting update) e = absurd (cc)
    closed (Asking lock) e = absurd (cc)
    closed (Changing update) e = absurd (cc)

    go : (b : Bool) → is_closed (stage_seen (stages op)) ≡ b → is_closed (stage_seen (stages op)) ≡ true
    go true e = e
    go false e = absurd (omega (arith, (given.by_stage op e).number))
