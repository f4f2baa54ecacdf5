-- Clients that stay the other ends of the ports of a cluster.
use Rattle.std.specs.Prelude.{◌≡◌, ◌≢◌, ◌⊎◌, ℕ, ◌<◌, List, get_or, length, refl}
use Rattle.std.proofs.Common.{sym, subst, ◌∙◌, set, inl, inr}
use Rattle.std.proofs.lemmas.Bool.{cases_eq}
use Rattle.std.proofs.lemmas.List.{get_or-set_same, get_or-set_other, get_or_default, length-set}
use Rattle.pg_ring.specs.declared.slot_in.SlotIn.{SlotIn}
use Rattle.pg_ring.specs.declared.slot_out.SlotOut.{SlotOut}
use Rattle.pg_ring.specs.Slots.{SameSlotIn, SameSlotOut}
use Rattle.pg_ring.specs.SlotsLaws.{AreSlots-later}
use Rattle.pg_cluster_judges.specs.PgNodeRun.declared.port.Client.{Client}
use Rattle.pg_cluster_judges.specs.PgNodeRun.declared.port.Port.{Port}
use Rattle.pg_cluster_judges.specs.PgNodeRun.Ports.{ArePort, SameClient, SamePort, ClientRests}
use Rattle.pg_cluster.specs.Clients.{AreClients, SameClients, ClientsRest, ports_begun}
use Rattle.pg_cluster.specs.Threads.{Thread}

-- what relates each element of a list to itself, where one is changed
pub each_set : {X : Type 0} (R : X → X → Type 0) → ((x : X) → R x x) → (xs : List X) (k : ℕ) (x x2 : X) → k < length xs → x ≡ get_or xs k x → R x x2
    → (place : ℕ) (none : X) → R (get_or xs place none) (get_or (set xs k x2) place none)
each_set {X} R itself xs k x x2 within is here place none = go (cases_eq place k)
  where
    go : (place ≡ k) ⊎ (place ≢ k) → R (get_or xs place none) (get_or (set xs k x2) place none)
    go (inl e) =
        subst (λ j. R (get_or xs j none) (get_or (set xs k x2) j none)) (sym e)
        (subst (λ y. R y (get_or (set xs k x2) k none)) (is ∙ get_or_default xs k x none within) (subst (R x) (sym (get_or-set_same xs k x2 none within)) here))
    go (inr n) = subst (R (get_or xs place none)) (sym (get_or-set_other xs k place x2 none n)) (itself (get_or xs place none))

-- ---- one client

pub same_itself : (a : Client) → SameClient a a
same_itself a = (((refl, refl, refl, refl), refl), ((refl, refl, refl, refl), refl))

pub slot_in_on : {T : Type 0} (a b c : SlotIn T) → SameSlotIn a b → SameSlotIn b c → SameSlotIn a c
slot_in_on a b c h k = ((k.0.0 ∙ h.0.0, k.0.1 ∙ h.0.1, k.0.2 ∙ h.0.2, k.0.3 ∙ h.0.3), k.1 ∙ h.1)

pub slot_out_on : {T : Type 0} (a b c : SlotOut T) → SameSlotOut a b → SameSlotOut b c → SameSlotOut a c
slot_out_on a b c h k = ((k.0.0 ∙ h.0.0, k.0.1 ∙ h.0.1, k.0.2 ∙ h.0.2, k.0.3 ∙ h.0.3), k.1 ∙ h.1)

pub same_on : (a b c : Client) → SameClient a b → SameClient b c → SameClient a c
same_on a b c h k = (slot_out_on a.commands b.commands c.commands h.0 k.0, slot_in_on a.answers b.answers c.answers h.1 k.1)

-- a client and its port are so later too
pub port_later : (client client2 : Client) (port port2 : Port) → ArePort client port → SameClient client client2 → SamePort port port2 → ArePort client2 port2
port_later client client2 port port2 are c p = (
  AreSlots-later client.commands client2.commands port.commands port2.commands are.0 c.0 p.0,
  AreSlots-later port.answers port2.answers client.answers client2.answers are.1 p.1 c.1,
)

-- ---- all clients

pub all_same_itself : (clients : List Client) → SameClients clients clients
all_same_itself clients = record { len = refl; each = λ place none. same_itself (get_or clients place none) }

pub all_same_on : (a b c : List Client) → SameClients a b → SameClients b c → SameClients a c
all_same_on a b c h k = record {
  len = k.len ∙ h.len;
  each = λ place none. same_on (get_or a place none) (get_or b place none) (get_or c place none) (h.each place none) (k.each place none);
}

-- one client is the same
pub all_same_set : (clients : List Client) (k : ℕ) (client client2 : Client) → k < length clients → client ≡ get_or clients k client → SameClient client client2
    → SameClients clients (set clients k client2)
all_same_set clients k client client2 within is same = record {
  len = length-set clients k client2;
  each = each_set SameClient same_itself clients k client client2 within is same;
}

-- the clients of a cluster are its clients later too
pub clients_later : {K : Type 0} (threads : List (Thread K)) (clients clients2 : List Client) → AreClients threads clients → SameClients clients clients2 → AreClients threads clients2
clients_later threads clients clients2 are same = record {
  len = same.len ∙ are.len;
  each = λ i c p low.
      port_later (get_or clients i c) (get_or clients2 i c) (get_or (ports_begun threads) i p) (get_or (ports_begun threads) i p) (are.each i c p low) (same.each i c)
      (((refl, refl, refl, refl), refl), ((refl, refl, refl, refl), refl));
}

-- ---- where nothing was submitted or polled

pub rests_itself : (a : Client) → ClientRests a a
rests_itself a = record { same = same_itself a; submitted = refl; polled = refl }

pub rests_on : (a b c : Client) → ClientRests a b → ClientRests b c → ClientRests a c
rests_on a b c h k = record { same = same_on a b c h.same k.same; submitted = k.submitted ∙ h.submitted; polled = k.polled ∙ h.polled }

pub all_rest_itself : (clients : List Client) → ClientsRest clients clients
all_rest_itself clients = record { len = refl; each = λ place none. rests_itself (get_or clients place none) }

pub all_rest_on : (a b c : List Client) → ClientsRest a b → ClientsRest b c → ClientsRest a c
all_rest_on a b c h k = record {
  len = k.len ∙ h.len;
  each = λ place none. rests_on (get_or a place none) (get_or b place none) (get_or c place none) (h.each place none) (k.each place none);
}

pub all_rest_set : (clients : List Client) (k : ℕ) (client client2 : Client) → k < length clients → client ≡ get_or clients k client → ClientRests client client2
    → ClientsRest clients (set clients k client2)
all_rest_set clients k client client2 within is rests = record {
  len = length-set clients k client2;
  each = each_set ClientRests rests_itself clients k client client2 within is rests;
}

-- they are the same
pub all_same_rest : (a b : List Client) → ClientsRest a b → SameClients a b
all_same_rest a b rest = record { len = rest.len; each = λ place none. (rest.each place none).same }
