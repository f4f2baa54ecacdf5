-- The references, commands and counts of a node belong together behind each step.
use Rattle.std.proofs.Common.{◌≡◌, ◌≢◌, Bool, ℕ, ◌+◌, ◌<◌, ◌≤◌, true, ◌&&◌, nat_eq, refl, ap, sym, ◌∙◌, subst, arith}
use Rattle.std.specs.Cmp.{first_so, second_so}
use Rattle.std.proofs.lemmas.Bool.{eq-eqb, ne_eqb, eqb-true}
use Rattle.pg_term.specs.declared.term.Term.{Term}
use Rattle.pg_step.specs.PgGroup.declared.update.Update.{Update}
use Rattle.pg_step.specs.PgGroup.Functions.{upd}
use Rattle.pg_step.specs.PgGroup.Value.{name_of}
use Rattle.pg_step.proofs.PgGroup.Changes.{upd_at, upd_other, upd_by}
use Rattle.pg_step.specs.declared.command.OpId.{OpId}
use Rattle.pg_step.specs.State.{State, Use, Stage, Status}
use Rattle.pg_step.specs.State.Use.{Fresh, Locking, Owning, Updating, Spent}
use Rattle.pg_step.specs.State.Stage.{Closed, Waiting, Asking, Changing}
use Rattle.pg_step.specs.Turns.{NodeTurn}
use Rattle.pg_step.specs.Attempts.{same_op, ask}
use Rattle.pg_step.specs.Commands.{open_command, count_command}
use Rattle.pg_laws.specs.ReferencesFit.{Fits, ReferencesFit}
use Rattle.pg_step.specs.Nodes.{Node}

pub op_is : (op other : OpId) → same_op op other ≡ true → op ≡ other
op_is op other e =
    let port = eqb-true op.port other.port (first_so (nat_eq op.port other.port) _ e) in
    let number = eqb-true op.number other.number (second_so (nat_eq op.port other.port) _ e) in
    λ i. record { port = port i; number = number i }

pub is_op : (op : OpId) → same_op op op ≡ true
is_op op = ap (λ b. b && nat_eq op.number op.number) (eq-eqb op.port op.port refl) ∙ eq-eqb op.number op.number refl

-- ---- single changes

pub here : (uses : ℕ → Use) (k : ℕ) (u : Use) → upd nat_eq uses k u k ≡ u
here uses k u = upd_at nat_eq uses k u (eq-eqb k k refl)

pub elsewhere : (uses : ℕ → Use) (k : ℕ) (u : Use) (d : ℕ) → k ≢ d → upd nat_eq uses k u d ≡ uses d
elsewhere uses k u d other = upd_other nat_eq uses k u d (ne_eqb k d other)

-- a stage that is not that of this command stays
pub stage_stays : (stages : OpId → Stage) (op : OpId) (new old : Stage) (other : OpId) → stages other ≡ old → stages op ≢ old → upd same_op stages op new other ≡ old
stage_stays stages op new old other is apart = upd_by same_op stages op (λ x. x ≡ old) new other (λ same. absurd (apart (ap stages (op_is op other same) ∙ is))) (λ _. is)

-- a use fits still where its command is another
pub fits_still : (c : ℕ) (use_ : Use) (stages : OpId → Stage) (op : OpId) (new : Stage) (uses later : ℕ → Use) → stages op ≢ Asking c → stages op ≢ Changing c
    → ((d : ℕ) (name : Term) → uses d ≡ Owning name c → later d ≡ uses d) → Fits c use_ stages uses → Fits c use_ (upd same_op stages op new) later
fits_still c (Locking other u lead st) stages op new uses later ask change keeps fit = stage_stays stages op new (Asking c) other fit ask
fits_still c (Updating other u lock replied) stages op new uses later ask change keeps fit =
    (stage_stays stages op new (Changing c) other fit.0 change, keeps lock (name_of u) fit.1 ∙ fit.1)
fits_still c (Owning name u) stages op new uses later ask change keeps fit = tt
fits_still c Fresh stages op new uses later ask change keeps fit = tt
fits_still c Spent stages op new uses later ask change keeps fit = tt

-- and where no stage changes
pub fits_later : (c : ℕ) (use_ : Use) (stages : OpId → Stage) (uses later : ℕ → Use) → ((d : ℕ) (name : Term) → uses d ≡ Owning name c → later d ≡ uses d)
    → Fits c use_ stages uses → Fits c use_ stages later
fits_later c (Locking other u lead st) stages uses later keeps fit = fit
fits_later c (Updating other u lock replied) stages uses later keeps fit = (fit.0, keeps lock (name_of u) fit.1 ∙ fit.1)
fits_later c (Owning name u) stages uses later keeps fit = tt
fits_later c Fresh stages uses later keeps fit = tt
fits_later c Spent stages uses later keeps fit = tt

pub fit_at : (s : State) → ReferencesFit s → (c : ℕ) (use_ : Use) → s.uses c ≡ use_ → Fits c use_ s.stages s.uses
fit_at s fitting c use_ is = subst (λ x. Fits c x s.stages s.uses) is (fitting.fits c)

-- what fits, by the use

pub is_asking : {s : State} (fitting : ReferencesFit s) (c : ℕ) (op : OpId) (u : Update) (lead : Node) (st : Node → Status) → s.uses c ≡ Locking op u lead st → s.stages op ≡ Asking c
is_asking {s} fitting c op u lead st is = fit_at s fitting c (Locking op u lead st) is

pub is_changing : {s : State} (fitting : ReferencesFit s) (n : ℕ) (op : OpId) (u : Update) (c : ℕ) (replied : Node → Bool) → s.uses n ≡ Updating op u c replied → s.stages op ≡ Changing n
is_changing {s} fitting n op u c replied is = (fit_at s fitting n (Updating op u c replied) is).0

pub is_owning : {s : State} (fitting : ReferencesFit s) (n : ℕ) (op : OpId) (u : Update) (c : ℕ) (replied : Node → Bool) → s.uses n ≡ Updating op u c replied → s.uses c ≡ Owning (name_of u) n
is_owning {s} fitting n op u c replied is = (fit_at s fitting n (Updating op u c replied) is).1

-- a state with the same references, commands and counts
pub same_fitting : (s t : State) → t.references ≡ s.references → t.uses ≡ s.uses → t.stages ≡ s.stages → t.counts ≡ s.counts → ReferencesFit s → ReferencesFit t
same_fitting s t references uses stages counts fitting = record {
  fresh = λ c above. ap (λ f. f c) uses ∙ fitting.fresh c (subst (λ n. n < c) references above);
  fits = λ c. subst (λ f. Fits c (f c) t.stages f) (sym uses) (subst (λ g. Fits c (s.uses c) g s.uses) (sym stages) (fitting.fits c));
  closed = λ op below. ap (λ g. g op) stages ∙ fitting.closed op (subst (λ f. f op.port < op.number) counts below);
}

-- ---- words that differ

pub asking_is : {c d : ℕ} → Asking c ≡ Asking d → c ≡ d
asking_is e = cc

pub changing_is : {c d : ℕ} → Changing c ≡ Changing d → c ≡ d
changing_is e = cc

pub owning_is : {name other : Term} {n k : ℕ} → Owning name n ≡ Owning other k → n ≡ k
owning_is e = cc

abbrev pub Keeps : State → NodeTurn → Type 0
Keeps s t = ReferencesFit s → ReferencesFit t.state

-- a new command has not been open, and is counted
abbrev pub NewOp : OpId → State → Type 0
NewOp op s = (s.stages op ≡ Closed) × (op.number ≤ s.counts op.port)

pub counted_keeps : (port : ℕ) (s : State) → Keeps s (count_command port s)
counted_keeps port s fitting = record {
  fresh = fitting.fresh;
  fits = fitting.fits;
  closed = λ op below. fitting.closed op (upd_by nat_eq s.counts port (λ n. n < op.number → s.counts op.port < op.number) (s.counts port + 1) op.port
      (λ same more. subst (λ p. s.counts p < op.number) (eqb-true port op.port same) (omega arith)) (λ _ more. more) below);
}

pub opened_keeps : (op : OpId) (u : Update) (s : State) → NewOp op s → Keeps s (open_command op u s)
opened_keeps op u s new fitting = record {
  fresh = fitting.fresh;
  fits = λ c. fits_still c (s.uses c) s.stages op (Waiting u) s.uses s.uses (λ e. no_ask (sym new.0 ∙ e)) (λ e. no_change (sym new.0 ∙ e)) (λ d name _. refl) (fitting.fits c);
  closed = λ other below. upd_by same_op s.stages op (λ x. x ≡ Closed) (Waiting u) other
      (λ same. absurd (late (subst (λ o. s.counts o.port < o.number) (sym (op_is op other same)) below))) (λ _. fitting.closed other below);
}
  where
    no_ask : {c : ℕ} → Closed ≡ Asking c → ⊥
    no_ask e = absurd (cc)

    no_change : {c : ℕ} → Closed ≡ Changing c → ⊥
    no_change e = absurd (cc)

    late : s.counts op.port < op.number → ⊥
    late below = let within : op.number ≤ s.counts op.port = new.1 in absurd (omega arith)
