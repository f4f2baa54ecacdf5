-- The counts of commands, where one changes its stage.
use Rattle.std.proofs.Common.{◌≡◌, ◌≢◌, ℕ, ◌+◌, Bool, true, false, ◌&&◌, cond, refl}
use Rattle.std.proofs.Common.{ap, sym, ◌∙◌, inl, inr, ◌⊎◌, arith, ◌≤◌, ◌<◌, subst}
use Rattle.pg_term.specs.Same.{same_atom}
use Rattle.pg_step.specs.PgGroup.Functions.{upd}
use Rattle.pg_step.specs.declared.command.OpId.{OpId}
use Rattle.pg_step.specs.Nodes.{Node}
use Rattle.pg_step.specs.State.{State, Stage}
use Rattle.pg_step.specs.Turns.{NodeTurn}
use Rattle.pg_step.specs.Attempts.{same_op}
use Rattle.pg_laws.proofs.references.Keys.{atoms, split, differ, same_is, read_at, read_other, at_read}
use Rattle.pg_laws.proofs.locks.Named.{World, perform, answer_of}
use Rattle.pg_laws.proofs.locks.Kept.{answers_of, opens, Once}
use Rattle.pg_laws.proofs.locks.Telling.{answers-append}
use Rattle.pg_laws.proofs.locks.Seats.{true_both, false_right}
use Rattle.pg_laws.proofs.locks.Stages.{commands}

-- n for the command op of node a, and 0 for every other
abbrev pub only : Node → OpId → ℕ → Node → OpId → ℕ
only a op n i o = cond (same_atom i a && same_op o op) n 0

-- answers, where one command goes over to stage v and gets so many answers
pub once_moved : (w : World) (a : Node) (t : NodeTurn) (op : OpId) (v : Stage) (y : ℕ) → t.state.stages ≡ upd same_op (w.node a).stages op v
    → ((i : Node) (o : OpId) → answers_of i o (answer_of a t.reported.answered) ≡ only a op y i o) → ((port : ℕ) → (w.node a).counts port ≤ t.state.counts port)
    → (t.state.counts op.port < op.number → ⊥) → opens v + (answers_of a op w.answered + y) ≤ 1 → Once w.node w.answered → Once (perform w a t).node (perform w a t).answered
once_moved w a t op v y stages answered counts came few once = record {
  known = λ i o. known i o (split same_atom atoms i a) (split same_op commands o op);
  unknown = λ i o lt. unknown i o lt (split same_atom atoms i a) (split same_op commands o op);
}
  where
    said : (i : Node) (o : OpId) → answers_of i o (perform w a t).answered ≡ answers_of i o w.answered + only a op y i o
    said i o = answers-append i o w.answered (answer_of a t.reported.answered) ∙ ap (λ n. answers_of i o w.answered + n) (answered i o)

    other : (i : Node) (o : OpId) → (same_atom i a && same_op o op) ≡ false → answers_of i o (perform w a t).answered ≡ answers_of i o w.answered
    other i o e = let p : answers_of i o (perform w a t).answered ≡ answers_of i o w.answered + 0 = said i o ∙ ap (λ b. answers_of i o w.answered + cond {A = ℕ} b y 0) e in omega (arith, p)

    grown : (i : Node) (port : ℕ) → (w.node i).counts port ≤ ((perform w a t).node i).counts port
    grown i port = at_read same_atom atoms (λ (s : State). (w.node i).counts port ≤ s.counts port) w.node a t.state i
        (λ e. subst (λ x. (w.node x).counts port ≤ t.state.counts port) (sym e) (counts port)) (λ n. omega arith)

    stays : (i : Node) (o : OpId) → (same_atom i a && same_op o op) ≡ false → opens (((perform w a t).node i).stages o) ≡ opens ((w.node i).stages o) → opens (((perform w a t).node i).stages o) + answers_of i o (perform w a t).answered ≤ 1
    stays i o e same =
        let p : answers_of i o (perform w a t).answered ≡ answers_of i o w.answered = other i o e in
        let r : opens ((w.node i).stages o) + answers_of i o w.answered ≤ 1 = once.known i o in
        omega (arith, p, r, same)

    known : (i : Node) (o : OpId) → (i ≡ a) ⊎ (i ≢ a) → (o ≡ op) ⊎ (o ≢ op) → opens (((perform w a t).node i).stages o) + answers_of i o (perform w a t).answered ≤ 1
    known i o (inl q) (inl r) =
        let e : (same_atom i a && same_op o op) ≡ true = true_both (same_is same_atom atoms i a q) (same_is same_op commands o op r) in
        let p : answers_of i o (perform w a t).answered ≡ answers_of i o w.answered + y = said i o ∙ ap (λ b. answers_of i o w.answered + cond {A = ℕ} b y 0) e in
        let d : answers_of i o w.answered ≡ answers_of a op w.answered = ap (λ z. answers_of z o w.answered) q ∙ ap (λ z. answers_of a z w.answered) r in
        let f : opens (((perform w a t).node i).stages o) ≡ opens v = ap (λ (s : State). opens (s.stages o)) (read_at same_atom atoms w.node a t.state i q)
        ∙ (ap (λ (f : OpId → Stage). opens (f o)) stages ∙ ap opens (read_at same_op commands (w.node a).stages op v o r)) in
        omega (arith, p, d, f, few)
    known i o (inl q) (inr n) = stays i o (false_right (same_atom i a) (differ same_op commands o op n))
        (ap (λ (s : State). opens (s.stages o)) (read_at same_atom atoms w.node a t.state i q)
        ∙ (ap (λ (f : OpId → Stage). opens (f o)) stages ∙ (ap opens (read_other same_op commands (w.node a).stages op v o n) ∙ ap (λ z. opens ((w.node z).stages o)) (sym q))))
    known i o (inr n) _ = stays i o (ap (λ b. b && same_op o op) (differ same_atom atoms i a n)) (ap (λ (s : State). opens (s.stages o)) (read_other same_atom atoms w.node a t.state i n))

    left : (i : Node) (o : OpId) → ((perform w a t).node i).counts o.port < o.number → (same_atom i a && same_op o op) ≡ false → answers_of i o (perform w a t).answered ≡ 0
    left i o lt e = let p : (w.node i).counts o.port ≤ ((perform w a t).node i).counts o.port = grown i o.port in other i o e ∙ once.unknown i o (omega (arith, p, lt))

    unknown : (i : Node) (o : OpId) → ((perform w a t).node i).counts o.port < o.number → (i ≡ a) ⊎ (i ≢ a) → (o ≡ op) ⊎ (o ≢ op) → answers_of i o (perform w a t).answered ≡ 0
    unknown i o lt (inl q) (inl r) =
        let p : ((perform w a t).node i).counts o.port ≡ t.state.counts op.port = ap (λ (s : State). s.counts o.port) (read_at same_atom atoms w.node a t.state i q) ∙ ap (λ (z : OpId). t.state.counts z.port) r in
        let d : o.number ≡ op.number = ap (λ (z : OpId). z.number) r in
        absurd (came (omega (arith, p, d, lt)))
    unknown i o lt (inl q) (inr n) = left i o lt (false_right (same_atom i a) (differ same_op commands o op n))
    unknown i o lt (inr n) _ = left i o lt (ap (λ b. b && same_op o op) (differ same_atom atoms i a n))

-- one entry or answer, and none
pub one_only : (b : Bool) → cond {A = ℕ} b 1 0 + 0 ≡ cond {A = ℕ} b 1 0
one_only true = refl
one_only false = refl

pub none_only : (b : Bool) → 0 ≡ cond {A = ℕ} b 0 0
none_only true = refl
none_only false = refl
