-- A port where a command is counted, or answered.
use Rattle.std.proofs.Common.{◌≡◌, ◌≢◌, ◌<◌, ◌+◌, ◌-◌, ◌∙◌, ℕ, zero, suc, cond, nat_eq}
use Rattle.std.proofs.Common.{List, [], ◌∷◌, ◌++◌, drop, get_or, length, Some, refl, sym, ap, arith, subst}
use Rattle.std.specs.Prelude.{slice_get, slice_set, vec_len, vec_capacity}
use Rattle.std.proofs.Math.Path.{fun_ext}
use Rattle.std.proofs.Math.Dec.{eqb-zero-suc, eqb-suc-zero, eqb-suc-suc}
use Rattle.std.proofs.lemmas.Bool.{eqb-true, eq-eqb}
use Rattle.pg_node_opens.specs.PgGroup.Functions.{upd}
use Rattle.pg_node_opens.proofs.PgGroup.Changes.{upd_same, upd_at, upd_twice}
use Rattle.pg_node_opens.specs.PgStep.declared.answer.Answer.{Answer}
use Rattle.pg_node_opens.specs.PgStep.declared.answer.Reply.{Reply}
use Rattle.pg_node_ports.specs.declared.port.Port.{Port}
use Rattle.pg_node_ports.specs.Ports.{counted_at, HasRoomAt}
use Rattle.pg_node_ports.specs.Ports.{port_commands, answers_in, forgotten_in, forgotten_on}

one_port : (p q : Port) → Some p ≡ Some q → p ≡ q
one_port p q e = cc

-- ---- what is read at a place

pub count_here : (ports : List Port) (k : ℕ) (p : Port) → slice_get ports k ≡ Some p → port_commands ports k ≡ p.count
count_here [] k p here = absurd (cc)
count_here (q ∷ ports) zero p here = ap (λ (r : Port). r.count) (one_port q p here)
count_here (q ∷ ports) (suc k) p here = count_here ports k p here

pub answers_here : (ports : List Port) (k : ℕ) (p : Port) → slice_get ports k ≡ Some p → answers_in ports k ≡ p.answers.items
answers_here [] k p here = absurd (cc)
answers_here (q ∷ ports) zero p here = ap (λ (r : Port). r.answers.items) (one_port q p here)
answers_here (q ∷ ports) (suc k) p here = answers_here ports k p here

pub forgotten_here : (ports : List Port) (k : ℕ) (p : Port) → slice_get ports k ≡ Some p → forgotten_in ports k ≡ p.forgotten
forgotten_here [] k p here = absurd (cc)
forgotten_here (q ∷ ports) zero p here = ap (λ (r : Port). r.forgotten) (one_port q p here)
forgotten_here (q ∷ ports) (suc k) p here = forgotten_here ports k p here

-- ---- one port changes

counts_each : (ports : List Port) (k : ℕ) (p : Port) → k < length ports → (port : ℕ) → port_commands (slice_set ports k p) port ≡ cond (nat_eq k port) p.count (port_commands ports port)
counts_each [] k p within port = absurd (omega arith)
counts_each (q ∷ ports) zero p within zero = refl
counts_each (q ∷ ports) zero p within (suc n) = ap (λ b. cond b p.count (port_commands ports n)) (sym (eqb-zero-suc n))
counts_each (q ∷ ports) (suc k) p within zero = ap (λ b. cond b p.count (port_commands (q ∷ ports) zero)) (sym (eqb-suc-zero k))
counts_each (q ∷ ports) (suc k) p within (suc n) = counts_each ports k p (omega arith) n ∙ ap (λ b. cond b p.count (port_commands ports n)) (sym (eqb-suc-suc k n))

pub counts_set : (ports : List Port) (k : ℕ) (p : Port) (n : ℕ) → k < length ports → p.count ≡ n → port_commands (slice_set ports k p) ≡ upd nat_eq (port_commands ports) k n
unfolding upd
counts_set ports k p n within is = fun_ext (λ port. counts_each ports k p within port ∙ ap (λ c. cond (nat_eq k port) c (port_commands ports port)) is)

answers_each : (ports : List Port) (k : ℕ) (p : Port) → k < length ports → (port : ℕ) → answers_in (slice_set ports k p) port ≡ cond (nat_eq k port) p.answers.items (answers_in ports port)
answers_each [] k p within port = absurd (omega arith)
answers_each (q ∷ ports) zero p within zero = refl
answers_each (q ∷ ports) zero p within (suc n) = ap (λ b. cond b p.answers.items (answers_in ports n)) (sym (eqb-zero-suc n))
answers_each (q ∷ ports) (suc k) p within zero = ap (λ b. cond b p.answers.items (answers_in (q ∷ ports) zero)) (sym (eqb-suc-zero k))
answers_each (q ∷ ports) (suc k) p within (suc n) = answers_each ports k p (omega arith) n ∙ ap (λ b. cond b p.answers.items (answers_in ports n)) (sym (eqb-suc-suc k n))

pub answers_set : (ports : List Port) (k : ℕ) (p : Port) (answers : List Answer) → k < length ports → p.answers.items ≡ answers → answers_in (slice_set ports k p) ≡ upd nat_eq (answers_in ports) k answers
unfolding upd
answers_set ports k p answers within is = fun_ext (λ port. answers_each ports k p within port ∙ ap (λ (a : List Answer). cond (nat_eq k port) a (answers_in ports port)) is)

forgotten_each : (ports : List Port) (k : ℕ) (p : Port) → k < length ports → (port : ℕ) → forgotten_in (slice_set ports k p) port ≡ cond (nat_eq k port) p.forgotten (forgotten_in ports port)
forgotten_each [] k p within port = absurd (omega arith)
forgotten_each (q ∷ ports) zero p within zero = refl
forgotten_each (q ∷ ports) zero p within (suc n) = ap (λ b. cond b p.forgotten (forgotten_in ports n)) (sym (eqb-zero-suc n))
forgotten_each (q ∷ ports) (suc k) p within zero = ap (λ b. cond b p.forgotten (forgotten_in (q ∷ ports) zero)) (sym (eqb-suc-zero k))
forgotten_each (q ∷ ports) (suc k) p within (suc n) = forgotten_each ports k p (omega arith) n ∙ ap (λ b. cond b p.forgotten (forgotten_in ports n)) (sym (eqb-suc-suc k n))

forgotten_set : (ports : List Port) (k : ℕ) (p : Port) (n : ℕ) → k < length ports → p.forgotten ≡ n → forgotten_in (slice_set ports k p) ≡ upd nat_eq (forgotten_in ports) k n
unfolding upd
forgotten_set ports k p n within is = fun_ext (λ port. forgotten_each ports k p within port ∙ ap (λ c. cond (nat_eq k port) c (forgotten_in ports port)) is)

set_here : (ports : List Port) (k : ℕ) (p q : Port) → slice_get ports k ≡ Some p → slice_get (slice_set ports k q) k ≡ Some q
set_here [] k p q here = absurd (cc)
set_here (r ∷ ports) zero p q here = refl
set_here (r ∷ ports) (suc k) p q here = set_here ports k p q here

pub at_place : (ports : List Port) (k : ℕ) (p : Port) → k < length ports → p ≡ get_or ports k p → slice_get ports k ≡ Some p
at_place [] k p within e = absurd (omega arith)
at_place (q ∷ ports) zero p within e = ap Some (sym e)
at_place (q ∷ ports) (suc k) p within e = at_place ports k p (omega arith) e

-- ---- where there is room

-- one port changes, and has room if it had
room_kept : (ports : List Port) (k : ℕ) (p q : Port) → slice_get ports k ≡ Some p → (vec_len p.answers < vec_capacity p.answers → vec_len q.answers < vec_capacity q.answers)
    → (other : ℕ) → HasRoomAt ports other → HasRoomAt (slice_set ports k q) other
room_kept [] k p q here kept other room x e = absurd (cc)
room_kept (r ∷ ports) zero p q here kept zero room x e = subst (λ (y : Port). vec_len y.answers < vec_capacity y.answers) (one_port q x e) (kept (room p here))
room_kept (r ∷ ports) zero p q here kept (suc n) room x e = room x e
room_kept (r ∷ ports) (suc k) p q here kept zero room x e = room x e
room_kept (r ∷ ports) (suc k) p q here kept (suc n) room x e = room_kept ports k p q here kept n room x e

-- the others have the room that they had
room_apart : (ports : List Port) (k : ℕ) (q : Port) (other : ℕ) → other ≢ k → HasRoomAt ports other → HasRoomAt (slice_set ports k q) other
room_apart [] k q other apart room x e = room x e
room_apart (r ∷ ports) zero q zero apart room x e = absurd (apart refl)
room_apart (r ∷ ports) zero q (suc n) apart room x e = room x e
room_apart (r ∷ ports) (suc k) q zero apart room x e = room x e
room_apart (r ∷ ports) (suc k) q (suc n) apart room x e = room_apart ports k q n (λ same. apart (ap suc same)) room x e

-- a port counts one command more, and answers as it did
module _ (ports : List Port) (port k : ℕ) (p q : Port) (same : k ≡ port) (within : port < length ports) (here : p ≡ get_or ports k p) where
  pub there : slice_get ports port ≡ Some p
  there = at_place ports port p within (here ∙ ap (λ i. get_or ports i p) same)

  pub count_there : port_commands ports port ≡ p.count
  count_there = count_here ports port p there

  pub answers_there : answers_in ports port ≡ p.answers.items
  answers_there = answers_here ports port p there

  pub one_counted : q.count ≡ p.count + 1 → port_commands (slice_set ports k q) ≡ counted_at port (port_commands ports)
  one_counted more = ap (λ i. port_commands (slice_set ports i q)) same ∙ counts_set ports port q (port_commands ports port + 1) within (more ∙ ap (λ n. n + 1) (sym count_there))

  pub none_counted : q.count ≡ p.count → port_commands (slice_set ports k q) ≡ port_commands ports
  none_counted still = ap (λ i. port_commands (slice_set ports i q)) same ∙ (counts_set ports port q (port_commands ports port) within (still ∙ sym count_there)
      ∙ upd_same nat_eq (port_commands ports) port (eqb-true port) (port_commands ports port) refl)

  -- it counted one more before
  pub one_less : (counts : ℕ → ℕ) → port_commands ports ≡ counted_at port counts → q.count ≡ p.count - 1 → port_commands (slice_set ports k q) ≡ counts
  one_less counts counted less = ap (λ i. port_commands (slice_set ports i q)) same ∙ (counts_set ports port q (counts port) within (less ∙ was)
      ∙ ((λ i. upd nat_eq (counted i) port (counts port)) ∙ (upd_twice nat_eq counts port (counts port + 1) (counts port) ∙ upd_same nat_eq counts port (eqb-true port) (counts port) refl)))
    where
      one_off : (n m : ℕ) → n ≡ m + 1 → n - 1 ≡ m
      one_off n m e = omega arith

      was : p.count - 1 ≡ counts port
      was = one_off p.count (counts port) (sym count_there ∙ (ap (λ (f : ℕ → ℕ). f port) counted ∙ upd_at nat_eq counts port (counts port + 1) (eq-eqb port port refl)))

  pub one_answered : (answer : Answer) → q.answers.items ≡ p.answers.items ++ answer ∷ [] → answers_in (slice_set ports k q) ≡ upd nat_eq (answers_in ports) port (answers_in ports port ++ answer ∷ [])
  one_answered answer more = ap (λ i. answers_in (slice_set ports i q)) same
      ∙ answers_set ports port q (answers_in ports port ++ answer ∷ []) within (more ∙ ap (λ (a : List Answer). a ++ answer ∷ []) (sym (answers_here ports port p there)))

  pub none_answered : q.answers.items ≡ p.answers.items → answers_in (slice_set ports k q) ≡ answers_in ports
  none_answered still = ap (λ i. answers_in (slice_set ports i q)) same ∙ (answers_set ports port q (answers_in ports port) within (still ∙ sym (answers_here ports port p there))
      ∙ upd_same nat_eq (answers_in ports) port (eqb-true port) (answers_in ports port) refl)

  pub forgotten_there : forgotten_in ports port ≡ p.forgotten
  forgotten_there = forgotten_here ports port p there

  pub none_forgotten : q.forgotten ≡ p.forgotten → forgotten_in (slice_set ports k q) ≡ forgotten_in ports
  none_forgotten still = ap (λ i. forgotten_in (slice_set ports i q)) same ∙ (forgotten_set ports port q (forgotten_in ports port) within (still ∙ sym forgotten_there)
      ∙ upd_same nat_eq (forgotten_in ports) port (eqb-true port) (forgotten_in ports port) refl)

  -- its first answers are forgotten
  pub answers_left : (count : ℕ) → q.answers.items ≡ drop count p.answers.items → answers_in (slice_set ports k q) ≡ upd nat_eq (answers_in ports) port (drop count (answers_in ports port))
  answers_left count left = ap (λ i. answers_in (slice_set ports i q)) same
      ∙ answers_set ports port q (drop count (answers_in ports port)) within (left ∙ ap (λ (a : List Answer). drop count a) (sym answers_there))

  pub more_forgotten : (count : ℕ) → q.forgotten ≡ forgotten_on p.forgotten count (length p.answers.items)
      → forgotten_in (slice_set ports k q) ≡ upd nat_eq (forgotten_in ports) port (forgotten_on (forgotten_in ports port) count (length (answers_in ports port)))
  more_forgotten count more = ap (λ i. forgotten_in (slice_set ports i q)) same
      ∙ forgotten_set ports port q (forgotten_on (forgotten_in ports port) count (length (answers_in ports port))) within
      (more ∙ (λ i. forgotten_on (sym forgotten_there i) count (length (sym answers_there i))))

  pub room_there : vec_len q.answers < vec_capacity q.answers → HasRoomAt (slice_set ports k q) port
  room_there room r e = subst (λ (x : Port). vec_len x.answers < vec_capacity x.answers) (one_port q r (sym set ∙ e)) room
    where
      set : slice_get (slice_set ports k q) port ≡ Some q
      set = ap (λ i. slice_get (slice_set ports i q) port) same ∙ set_here ports port p q there

  pub rooms_kept : (vec_len p.answers < vec_capacity p.answers → vec_len q.answers < vec_capacity q.answers) → (other : ℕ) → HasRoomAt ports other → HasRoomAt (slice_set ports k q) other
  rooms_kept kept other room = subst (λ i. HasRoomAt (slice_set ports i q) other) (sym same) (room_kept ports port p q there kept other room)

  pub rooms_apart : (other : ℕ) → other ≢ port → HasRoomAt ports other → HasRoomAt (slice_set ports k q) other
  rooms_apart other apart room = subst (λ i. HasRoomAt (slice_set ports i q) other) (sym same) (room_apart ports port q other apart room)

-- the answer of the next command, where room was made for it before
pub answered_on : (before between after : ℕ → List Answer) (port : ℕ) (counts later : ℕ → ℕ) (reply : Reply) → between ≡ before → later ≡ counts
    → after ≡ upd nat_eq between port (between port ++ record { number = later port + 1; reply = reply } ∷ [])
    → after ≡ upd nat_eq before port (before port ++ record { number = counts port + 1; reply = reply } ∷ [])
answered_on before between after port counts later reply same_answers same_counts e = e ∙ (λ i. upd nat_eq (same_answers i) port (same_answers i port ++ record { number = same_counts i port + 1; reply = reply } ∷ []))
