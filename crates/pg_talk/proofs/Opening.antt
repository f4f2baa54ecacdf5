-- The ports of nodes that a service opens.
use Rattle.std.proofs.Common.{◌≡◌, ◌<◌, ◌+◌, ℕ, zero, suc, List, [], ◌∷◌, ◌++◌, length, get_or}
use Rattle.std.proofs.Common.{map, take, refl, sym, ap, subst, ◌∙◌, arith, append_assoc}
use Rattle.std.proofs.lemmas.List.{append-nil, length-take, map-append, take_more}
use Rattle.std.proofs.lemmas.List.Elements.{All-append, All-cons, All-nil}
use Rattle.std.specs.List.{All}
use Rattle.pg_cluster.specs.PgStep.declared.start.Start.{Start}
use Rattle.pg_talk.specs.declared.service.desk.Desk.{Desk}
use Rattle.pg_talk.specs.Servings.{IsNew, port_at, ports_of}
use Rattle.pg_talk.specs.Written.{PortName, ports_from, ports_in}

abbrev port : ℕ → List ℕ → ℕ → PortName
port node name number = record { node = node; name = name; number = number }

-- one port more
more_ports : (first node : ℕ) (name : List ℕ) (n k : ℕ) → k ≡ n + first → ports_from first node name (suc n) ≡ ports_from first node name n ++ port node name k ∷ []
more_ports first node name zero k e = ap (λ (j : ℕ). port node name j ∷ []) (omega (arith, e))
more_ports first node name (suc n) k e = ap (λ (rest : List PortName). port node name first ∷ rest) (more_ports (suc first) node name n k (omega (arith, e)))

pub next_port : (node : ℕ) (name : List ℕ) (n : ℕ) → ports_from 1 node name (n + 1) ≡ ports_from 1 node name n ++ port node name (n + 1) ∷ []
next_port node name n = let e : n + 1 ≡ suc n = omega arith in ap (ports_from 1 node name) e ∙ more_ports 1 node name n (n + 1) refl

ports-append : (place k : ℕ) (xs : List Start) (start : Start) → k ≡ place + length xs → ports_in place (xs ++ start ∷ []) ≡ ports_in place xs ++ ports_from 1 k start.name start.ports
ports-append place k [] start e =
    let same : place ≡ k = omega (arith, e) in
    append-nil (ports_from 1 place start.name start.ports) ∙ ap (λ (j : ℕ). ports_from 1 j start.name start.ports) same
ports-append place k (x ∷ xs) start e =
    ap (λ (ports : List PortName). ports_from 1 place x.name x.ports ++ ports) (ports-append (suc place) k xs start (omega (arith, e)))
    ∙ sym (append_assoc (ports_from 1 place x.name x.ports) (ports_in (suc place) xs) (ports_from 1 k start.name start.ports))

-- those of one node more
pub next_ports : (starts : List Start) (k : ℕ) (d : Start) → k < length starts
    → ports_in 0 (take (k + 1) starts) ≡ ports_in 0 (take k starts) ++ ports_from 1 k (get_or starts k d).name (get_or starts k d).ports
next_ports starts k d low =
    let count : k ≡ 0 + length (take k starts) = let n = length-take k starts in omega (arith, n, low) in
    ap (ports_in 0) (take_more starts k d low) ∙ ports-append 0 k (take k starts) (get_or starts k d) count

-- ---- their desks

pub more_desks : (d d2 : List Desk) (x : Desk) (before : List PortName) (node : ℕ) (name : List ℕ) (n : ℕ) → d2 ≡ d ++ x ∷ [] → x.node ≡ node → x.name ≡ name → x.port ≡ n + 1
    → ports_of d ≡ before ++ ports_from 1 node name n → ports_of d2 ≡ before ++ ports_from 1 node name (n + 1)
more_desks d d2 x before node name n is at named numbered was =
    ap ports_of is ∙ map-append port_at d (x ∷ []) ∙ ap (λ (ports : List PortName). ports ++ port_at x ∷ []) was ∙ append_assoc before (ports_from 1 node name n) (port_at x ∷ [])
    ∙ ap (λ (ports : List PortName). before ++ ports) (ap (λ (one : PortName). ports_from 1 node name n ++ one ∷ []) same ∙ sym (next_port node name n))
  where
    same : port_at x ≡ port node name (n + 1)
    same = ap (λ (k : ℕ). port k x.name x.port) at ∙ ap (λ (text : List ℕ). port node text x.port) named ∙ ap (λ (k : ℕ). port node name k) numbered

pub new_desks : (d d2 : List Desk) (x : Desk) → d2 ≡ d ++ x ∷ [] → IsNew x → All IsNew d → All IsNew d2
new_desks d d2 x is new all = subst (All IsNew) (sym is) (All-append IsNew d (x ∷ []) all (All-cons IsNew x [] new (All-nil IsNew)))

pub next_of : {B : Type 0} (f : Start → B) (starts : List Start) (k : ℕ) (d : Start) → k < length starts → map f (take (k + 1) starts) ≡ map f (take k starts) ++ f (get_or starts k d) ∷ []
next_of f starts k d low = ap (map f) (take_more starts k d low) ∙ map-append f (take k starts) (get_or starts k d ∷ [])

pub more_of : {B : Type 0} (f : Start → B) (starts : List Start) (k : ℕ) (start : Start) (xs : List B) (y : B) → k < length starts → start ≡ get_or starts k start → y ≡ f start → xs ≡ map f (take k starts)
    → xs ++ y ∷ [] ≡ map f (take (k + 1) starts)
more_of f starts k start xs y low value is was =
    ap (λ all. all ++ y ∷ []) was ∙ ap (λ z. map f (take k starts) ++ z ∷ []) (is ∙ ap f value) ∙ sym (next_of f starts k start low)

pub more_nodes : (starts : List Start) (k : ℕ) (start : Start) (ports ports2 : List PortName) → k < length starts → start ≡ get_or starts k start → ports2 ≡ ports ++ ports_from 1 k start.name start.ports
    → ports ≡ ports_in 0 (take k starts) → ports2 ≡ ports_in 0 (take (k + 1) starts)
more_nodes starts k start ports ports2 low value is was =
    is ∙ ap (λ (all : List PortName). all ++ ports_from 1 k start.name start.ports) was ∙ ap (λ (one : Start). ports_in 0 (take k starts) ++ ports_from 1 k one.name one.ports) value
    ∙ sym (next_ports starts k start low)
