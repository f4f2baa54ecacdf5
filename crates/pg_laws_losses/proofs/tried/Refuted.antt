-- Of what each wrong step leaves, what is asked of the copies is false, and not only hard to prove.
use Rattle.std.proofs.Common.{◌≡◌, true, false, not, List, ◌∷◌, Some, refl, ap, sym, ◌∙◌, ◌≤◌, arith}
use Rattle.std.specs.Cmp.{first_so, second_so}
use Rattle.std.specs.List.{list_all}
use Rattle.pg_term.specs.declared.pid.Pid.{Pid}
use Rattle.pg_term.specs.declared.term.Term.{Term}
use Rattle.pg_term.specs.RefParts.{RefParts}
use Rattle.pg_term.specs.Same.{same_atom, same_pid}
use Rattle.pg_term.specs.contracts.pid.PidEq.TheImpl.Laws as pid_laws
use Rattle.pg_laws.specs.PgGroup.Functions.{upd}
use Rattle.pg_laws.proofs.PgGroup.Changes.{upd_at}
use Rattle.pg_laws.specs.PgEnds.Numbers.{is_among}
use Rattle.pg_laws.specs.PgStep.Attempts.{is_asked, none_missing}
use Rattle.pg_laws.specs.PgStep.Nodes.{Node}
use Rattle.pg_laws.specs.PgStep.Peers.{ended_in}
use Rattle.pg_laws.specs.PgStep.State.{State, Status}
use Rattle.pg_laws.specs.PgStep.State.Status.{Asked, Unasked, Yes}
use Rattle.pg_laws.proofs.quiet.Weights.{status_weight}
use Rattle.pg_laws.proofs.references.Keys.{atoms, read_at, same_is}
use Rattle.pg_laws_losses.proofs.Tabled.{HasEndedLost}
use Rattle.pg_laws_losses.proofs.Unheld.{Clear}

-- a loss is seen, and a lock of the lost stays
pub kept_lock : (own peer : Node) (s : State) (name : Term) (h : RefParts) → s.locks name ≡ Some h → h.node ≡ peer → Clear own (record s { lost = upd same_atom s.lost peer true }) → ⊥
kept_lock own peer s name h held of clear =
    let seen : upd same_atom s.lost peer true h.node ≡ true = read_at same_atom atoms s.lost peer true h.node of in
    absurd (cc (sym seen ∙ clear.free name h held))

-- a loss is seen, and a process of the lost lives on
pub lives_on : (peer : Node) (s : State) (pid : Pid) → pid.node ≡ peer → s.ended pid ≡ false → HasEndedLost (record s { lost = upd same_atom s.lost peer true }) → ⊥
lives_on peer s pid of lives all =
    let ended : s.ended pid ≡ true = all peer pid (read_at same_atom atoms s.lost peer true peer refl) (same_is same_atom atoms peer pid.node (sym of)) in
    absurd (cc (sym ended ∙ lives))

-- a process ends that was not made
pub unmade_ended : (own : Node) (s : State) (pid : Pid) → pid.node ≡ own → is_among s.processes pid ≡ false
    → ((other : Pid) → other.node ≡ own → (ended_in pid s).ended other ≡ true → is_among (ended_in pid s).processes other ≡ true) → ⊥
unmade_ended own s pid of unmade all =
    let made : is_among s.processes pid ≡ true = all pid of (upd_at same_pid s.ended pid true (pid_laws.laws-law.refl pid)) in
    absurd (cc (sym made ∙ unmade))

-- a node that goes on counting on a lost one, which it has asked: it waits for ever, and its command is refused each retry
pub lost_is_missed : (own peer : Node) (peers : List Node) (st : Node → Status) → st peer ≡ Asked → none_missing (record { own = own; peers = peer ∷ peers }) st ≡ true → ⊥
lost_is_missed own peer peers st asked all =
    let others : list_all (λ q. not (is_asked (st q))) (peer ∷ peers) ≡ true = second_so (not (is_asked (st own))) (list_all (λ q. not (is_asked (st q))) (peer ∷ peers)) all in
    let answered : not (is_asked (st peer)) ≡ true = first_so (not (is_asked (st peer))) (list_all (λ q. not (is_asked (st q))) peers) others in
    let missing : not (is_asked (st peer)) ≡ false = ap (λ v. not (is_asked v)) asked in
    absurd (cc)

-- a loss is seen, and a node that has granted is asked anew: two packets more
pub asked_anew : status_weight Unasked ≤ status_weight Yes → ⊥
asked_anew pays = absurd (omega (arith, pays))

-- a loss is seen, and the exchange of the lost is waited for
pub awaits_lost : (peer : Node) (s : State) → s.lost peer ≡ true → s.merged peer ≡ false → ((q : Node) → s.lost q ≡ true → s.merged q ≡ true) → ⊥
awaits_lost peer s seen unmerged noted = let merged : s.merged peer ≡ true = noted peer seen in absurd (cc)
