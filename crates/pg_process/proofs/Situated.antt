-- Situations and settings that agree in each part.
use Rattle.std.proofs.Common.{◌≡◌, ◌<◌, ◌∙◌, ℕ, Bool, cond, drop, length, List, ap, refl, arith}
use Rattle.std.proofs.lemmas.Bool.{eq-eqb}
use Rattle.pg_node.specs.Nodes.{held_by}
use Rattle.pg_node.specs.PgGroup.Functions.{upd}
use Rattle.pg_node.specs.PgNodeState.Issued.{ports_of}
use Rattle.pg_node.specs.PgNodeState.States.{answers_of}
use Rattle.pg_process.specs.declared.process.Process.{Process}
use Rattle.pg_process.specs.Chains.{Makes}
use Rattle.pg_process.specs.Deeds.{Answered}
use Rattle.pg_node.specs.Links.{Link}
use Rattle.pg_node.specs.PgStep.Machines.Clocked.{Timed}
use Rattle.pg_node.specs.PgStep.Nodes.{Node}
use Rattle.pg_node.specs.PgStep.State.{State}
use Rattle.pg_node.specs.PgStep.declared.answer.Answer.{Answer}
use Rattle.pg_node_process.specs.Desks.{Port}
use Rattle.pg_node_process.specs.declared.retries.Courtesy.{Courtesy}
use Rattle.pg_process.specs.declared.process.Told.{Told}
use Rattle.pg_process.specs.Situations.{Setting, Situation, setting_of}

abbrev pub situation : Timed State → (ℕ → List Answer) → (ℕ → Link) → (ℕ → Port) → (ℕ → Courtesy) → ℕ → Told → Situation
situation s x l p k n t = record { node = record { state = s; answers = x }; links = l; ports = p; courtesies = k; came = n; told = t }

pub situation_is : (s s2 : Timed State) (x x2 : ℕ → List Answer) (l l2 : ℕ → Link) (p p2 : ℕ → Port) (k k2 : ℕ → Courtesy) (n n2 : ℕ) (t t2 : Told)
    → s ≡ s2 → x ≡ x2 → l ≡ l2 → p ≡ p2 → k ≡ k2 → n ≡ n2 → t ≡ t2 → situation s x l p k n t ≡ situation s2 x2 l2 p2 k2 n2 t2
situation_is s s2 x x2 l l2 p p2 k k2 n n2 t t2 a b c d e f g =
    ap (λ (s : Timed State). situation s x l p k n t) a ∙ (ap (λ (x : ℕ → List Answer). situation s2 x l p k n t) b ∙ (ap (λ (l : ℕ → Link). situation s2 x2 l p k n t) c
    ∙ (ap (λ (p : ℕ → Port). situation s2 x2 l2 p k n t) d ∙ (ap (λ (k : ℕ → Courtesy). situation s2 x2 l2 p2 k n t) e
    ∙ (ap (λ (n : ℕ). situation s2 x2 l2 p2 k2 n t) f ∙ ap (λ (t : Told). situation s2 x2 l2 p2 k2 n2 t) g)))))

abbrev pub setting : List Node → ℕ → Setting
setting names ports = record { names = names; ports = ports }

pub setting_is : (names names2 : List Node) (ports ports2 : ℕ) → names ≡ names2 → ports ≡ ports2 → setting names ports ≡ setting names2 ports2
setting_is names names2 ports ports2 e f = ap (λ (ns : List Node). setting ns ports) e ∙ ap (λ (n : ℕ). setting names2 n) f

-- what was said at a port is forgotten
pub fewer_answers : (port : ℕ) (answer : Answer) (a b : Process) → Makes (Answered port answer) a b → length (answers_of (held_by b.node) port) < length (answers_of (held_by a.node) port)
unfolding upd
fewer_answers port answer a b makes =
    let first = makes.does.first in
    let now = ap (λ (s : Situation). length (s.node.answers port)) makes.does.after ∙ (ap (λ (c : Bool). length (cond c (drop 1 (answers_of (held_by a.node) port)) (answers_of (held_by a.node) port))) (eq-eqb port port refl)
    ∙ ap (λ (xs : List Answer). length (drop 1 xs)) first) in
    let before = ap (λ (xs : List Answer). length xs) first in
    omega (arith, now, before)

-- ports and peers stay
pub same_ports : (a b : Process) → setting_of b ≡ setting_of a → ports_of (held_by b.node) ≡ ports_of (held_by a.node)
same_ports a b same = ap (λ (set : Setting). set.ports) same

pub same_peers : (a b : Process) → setting_of b ≡ setting_of a → length b.peers.items ≡ length a.peers.items
same_peers a b same =
    let names = ap (λ (set : Setting). length set.names) same in
    let now = ap (λ (ns : List Node). length ns) b.named in
    let before = ap (λ (ns : List Node). length ns) a.named in
    omega (arith, names, now, before)
