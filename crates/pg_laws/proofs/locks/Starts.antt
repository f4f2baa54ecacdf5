-- A command comes in, is opened, and begins an attempt; and turns that leave references and commands as they are.
use Rattle.pg_term.specs.Same.{same_atom}
use Rattle.pg_term.specs.declared.pid.Pid.{Pid}
use Rattle.pg_laws.proofs.locks.Weights.{once_moved, none_only}
use Rattle.std.proofs.Common.{◌≡◌, ℕ, ◌+◌, ◌≤◌, [], ◌++◌, Bool, Option, None, nat_eq}
use Rattle.std.proofs.Common.{refl, ap, sym, ◌∙◌, subst, arith, append-nil, ◌&&◌}
use Rattle.std.specs.List.{AllByRecursion}
use Rattle.pg_term.specs.RefParts.{RefParts}
use Rattle.pg_step.specs.PgRefs.Numbered.{numbered}
use Rattle.pg_step.specs.PgLock.Locks.{Locks, is_holder}
use Rattle.pg_step.specs.PgGroup.declared.update.Update.{Update}
use Rattle.pg_step.specs.PgGroup.Table.{Table}
use Rattle.pg_step.specs.declared.command.OpId.{OpId}
use Rattle.pg_step.specs.Nodes.{Node, to_nobody}
use Rattle.pg_step.specs.State.{State, Use, Stage, Response}
use Rattle.pg_step.specs.State.Status.{Unasked}
use Rattle.pg_step.specs.State.Use.{Fresh, Locking}
use Rattle.pg_step.specs.State.Stage.{Closed, Waiting, Asking}
use Rattle.pg_step.specs.Turns.{NodeTurn, nothing}
use Rattle.pg_step.specs.Attempts.{same_op, new_attempt}
use Rattle.pg_step.specs.Commands.{open_command, count_command}
use Rattle.pg_laws.proofs.references.Keys.{numbers, at_read}
use Rattle.pg_laws.proofs.references.References.{about}
use Rattle.pg_laws.proofs.locks.Lines.{talk_same, Fits}
use Rattle.pg_laws.proofs.locks.Named.{World, perform}
use Rattle.pg_laws.specs.Exclusive.{IsUpdateOf}
use Rattle.pg_laws.proofs.locks.Kept.{IsOurs, IsOpOf, IsUpdating, carried, Inv, lines_perform, opens, answers_of}
use Rattle.pg_laws.proofs.locks.Framed.{still_lines, still_tidy, fitting_perform, tidy_perform, read_same, once_same}
use Rattle.pg_laws.proofs.locks.Telling.{silent_remains, mute_tales, fewer_upd, more_upd, ops_upd}
use Rattle.pg_laws.proofs.locks.Stages.{commands}
use Rattle.pg_laws.proofs.references.Fitting.{same_fitting, counted_keeps, opened_keeps}
use Rattle.pg_laws.proofs.references.FittingTurns.{attempted_keeps}
use Rattle.pg_laws.proofs.locks.Latest.{latest_same, goes_upd}

-- ---- a turn that is about no reference and no command

pub record Idle (s : State) (a : Node) (t : NodeTurn) : Type 0 where
  pub locks : t.state.locks ≡ s.locks
  pub references : t.state.references ≡ s.references
  pub uses : t.state.uses ≡ s.uses
  pub stages : t.state.stages ≡ s.stages
  pub counts : t.state.counts ≡ s.counts
  pub applied : t.reported.applied ≡ None
  pub began : t.reported.began ≡ None
  pub answered : t.reported.answered ≡ None
  pub silent : t.sends a ≡ []
  pub sends : (r : RefParts) (q : Node) → about r (t.sends q) ≡ []
  pub ours : (q : Node) → AllByRecursion (IsOurs a q) (t.sends q)

-- one that sends nothing, and changes groups, ends, peers and the number of processes alone
pub idle_but : (s : State) (a : Node) (table : Table) (ended : Pid → Bool) (merged : Node → Bool) (processes : ℕ) (gave : Option (OpId × Response))
    → Idle s a (record { state = record s { table = table; ended = ended; merged = merged; processes = processes }; sends = to_nobody; reported = record nothing { gave = gave } })
idle_but s a table ended merged processes gave = record {
  locks = refl;
  references = refl;
  uses = refl;
  stages = refl;
  counts = refl;
  applied = refl;
  began = refl;
  answered = refl;
  silent = refl;
  sends = λ r q. refl;
  ours = λ q. tt;
}

pub idle_keeps : (w : World) (a : Node) (t : NodeTurn) → Inv w → Idle (w.node a) a t → Inv (perform w a t)
idle_keeps w a t inv idle = record {
  seats = inv.seats;
  lines = lines_perform w a t (inv.tidy.own a) idle.silent
      (λ k p m. talk_same (inv.lines a k p m) (ap (λ (f : ℕ → Use). f k) idle.uses) (quiet a k p) refl
      (λ M. read_same w a t.state (λ (n : State). is_holder (n.locks M) (numbered a k)) (ap (λ (f : Locks). is_holder (f M) (numbered a k)) idle.locks) p))
      (λ i k m n. talk_same (inv.lines i k a m) refl refl (quiet i k i) (λ M. ap (λ (f : Locks). is_holder (f M) (numbered i k)) idle.locks))
      (λ i k p m n d. inv.lines i k p m);
  tidy = tidy_perform w a t inv.tidy idle.silent (λ h k y na ny. idle.sends (numbered h k) y) idle.ours;
  fitting = fitting_perform w a t inv.fitting (same_fitting (w.node a) t.state idle.references idle.uses idle.stages idle.counts (inv.fitting a));
  tales = mute_tales w a t inv (record {
    applied = idle.applied;
    began = idle.began;
    remains = silent_remains w a t idle.answered;
    fewer = λ N n. subst (IsUpdateOf N) (ap (λ (f : ℕ → Use). f n) idle.uses);
    more = λ N n. subst (IsUpdateOf N) (ap (λ (f : ℕ → Use). f n) (sym idle.uses));
    ops = λ N n u op. subst (λ x. IsOpOf x op) (ap (λ (f : ℕ → Use). f n) (sym idle.uses));
    sends = λ n p. ap carried (idle.sends (numbered a n) p);
  });
  once = once_same w a t idle.answered (λ op. ap (λ (f : OpId → Stage). opens (f op)) idle.stages) (λ port. let p : t.state.counts port ≡ (w.node a).counts port = ap (λ (f : ℕ → ℕ). f port) idle.counts in omega (arith, p)) inv.once;
  latest = latest_same w a t idle.began idle.answered (λ op u k. subst (IsUpdating op u) (ap (λ (f : ℕ → Use). f k) (sym idle.uses))) inv.latest;
}
  where
    quiet : (i : Node) (k : ℕ) (p : Node) → about (numbered i k) (w.wire a p) ++ about (numbered i k) (t.sends p) ≡ about (numbered i k) (w.wire a p)
    quiet i k p = ap (λ o. about (numbered i k) (w.wire a p) ++ o) (idle.sends (numbered i k) p) ∙ append-nil (about (numbered i k) (w.wire a p))

-- ---- a command comes in

pub count_keeps : (w : World) (a : Node) (port : ℕ) → Inv w → Inv (perform w a (count_command port (w.node a)))
count_keeps w a port inv = record {
  seats = inv.seats;
  lines = still_lines w a t.state inv (λ M. refl) (λ k p m l. l.fits);
  tidy = still_tidy w a t.state inv;
  fitting = fitting_perform w a t inv.fitting (counted_keeps port (w.node a) (inv.fitting a));
  tales = mute_tales w a t inv (record { applied = refl; began = refl; remains = silent_remains w a t refl; fewer = λ M n h. h; more = λ M n h. h; ops = λ M n h op is. is; sends = λ n p. refl });
  once = once_same w a t refl (λ op. refl) (λ p. at_read nat_eq numbers (λ n. (w.node a).counts p ≤ n) (w.node a).counts port ((w.node a).counts port + 1) p
      (λ e. let same : (w.node a).counts p ≡ (w.node a).counts port = ap (w.node a).counts e in omega (arith, same)) (λ n. omega arith)) inv.once;
  latest = latest_same w a t refl refl (λ op u k h. h) inv.latest;
}
  where
    t : NodeTurn
    t = count_command port (w.node a)

pub open_keeps : (w : World) (a : Node) (op : OpId) (u : Update) → Inv w → (w.node a).stages op ≡ Closed → op.number ≤ (w.node a).counts op.port → answers_of a op w.answered ≡ 0 → Inv (perform w a (open_command op u (w.node a)))
open_keeps w a op u inv closed known none = record {
  seats = inv.seats;
  lines = still_lines w a t.state inv (λ M. refl) (λ k p m l. l.fits);
  tidy = still_tidy w a t.state inv;
  fitting = fitting_perform w a t inv.fitting (opened_keeps op u s (closed, known) (inv.fitting a));
  tales = mute_tales w a t inv (record { applied = refl; began = refl; remains = silent_remains w a t refl; fewer = λ M n h. h; more = λ M n h. h; ops = λ M n h o is. is; sends = λ n p. refl });
  once = once_moved w a t op (Waiting u) 0 refl (λ i o. none_only (same_atom i a && same_op o op)) (λ port. omega arith) (λ lt. omega arith) (omega (arith, none)) inv.once;
  latest = latest_same w a t refl refl (λ o v k h. h) inv.latest;
}
  where
    s : State
    s = w.node a

    t : NodeTurn
    t = open_command op u s

-- ---- an attempt begins

pub start_keeps : (w : World) (a lead : Node) (op : OpId) (u : Update) → Inv w → (w.node a).stages op ≡ Waiting u → Inv (perform w a (new_attempt lead op u (w.node a)))
start_keeps w a lead op u inv is = record {
  seats = inv.seats;
  lines = still_lines w a t.state inv (λ M. refl) (λ k p m l. at_read nat_eq numbers (λ x. Fits x p l.line) s.uses (s.references + 1) new k
      (λ e. subst (λ x. Fits x p l.line) (ap s.uses e ∙ fresh) l.fits) (λ n. l.fits));
  tidy = still_tidy w a t.state inv;
  fitting = fitting_perform w a t inv.fitting (attempted_keeps s (inv.fitting a) lead op u is);
  tales = mute_tales w a t inv (record {
    applied = refl;
    began = refl;
    remains = silent_remains w a t refl;
    fewer = λ M. fewer_upd s.uses (s.references + 1) new M (λ h. absurd h);
    more = λ M. more_upd s.uses (s.references + 1) new M (λ h. subst (IsUpdateOf M) fresh h);
    ops = λ M. ops_upd s.uses (s.references + 1) new M (λ h. absurd (subst (IsUpdateOf M) fresh h));
    sends = λ n p. refl;
  });
  once = once_same w a t refl (λ o. at_read same_op commands (λ v. opens v ≡ opens (s.stages o)) s.stages op (Asking (s.references + 1)) o
      (λ e. sym (ap (λ x. opens (s.stages x)) e ∙ ap opens is)) (λ n. refl)) (λ port. omega arith) inv.once;
  latest = latest_same w a t refl refl (λ o v. goes_upd o v s.uses (s.references + 1) new (λ h. subst (IsUpdating o v) fresh h)) inv.latest;
}
  where
    s : State
    s = w.node a

    t : NodeTurn
    t = new_attempt lead op u s

    new : Use
    new = Locking op u lead (λ q. Unasked)

    fresh : s.uses (s.references + 1) ≡ Fresh
    fresh = (inv.fitting a).fresh (s.references + 1) (omega arith)
