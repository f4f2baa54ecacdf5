-- Lemmas on both ends of ports in one hand.
use Rattle.std.proofs.Common.{◌≡◌, ◌<◌, ◌+◌, ℕ, List, ◌++◌, length, get_or}
use Rattle.std.proofs.Common.{set, refl, sym, ◌∙◌, ap, subst, arith, inl, inr}
use Rattle.std.proofs.lemmas.Bool.Decides.{eqb_tells}
use Rattle.std.proofs.lemmas.List.{get_or_default, length-set}
use Rattle.pg_cluster_judges.specs.PgNodeRun.declared.port.Client.{Client}
use Rattle.pg_cluster_judges.specs.PgNodeRun.declared.port.Port.{Port}
use Rattle.pg_cluster_judges.specs.PgNodeRun.Ports.{ArePort, ClientRests, PortRests, Meets}
use Rattle.pg_cluster.specs.Clients.{AllPairs, ClientsRest}
use Rattle.pg_cluster.specs.ClientsLaws.{each_set, slot_in_on, slot_out_on, port_later, all_rest_on, all_rest_set}

-- the same ends, at which nothing came and nothing was handed over
pub record PortsRest (a b : List Port) : Type 0 where
  pub len : length b ≡ length a
  pub each : (place : ℕ) (none : Port) → PortRests (get_or a place none) (get_or b place none)

port_itself : (a : Port) → PortRests a a
port_itself a = record { same = (((refl, refl, refl, refl), refl), ((refl, refl, refl, refl), refl)); asked = refl; kept = refl; handed = refl; count = refl }

port_on : (a b c : Port) → PortRests a b → PortRests b c → PortRests a c
port_on a b c h k = record {
  same = (slot_in_on a.commands b.commands c.commands h.same.0 k.same.0, slot_out_on a.answers b.answers c.answers h.same.1 k.same.1);
  asked = k.asked ∙ h.asked;
  kept = k.kept ∙ h.kept;
  handed = k.handed ∙ h.handed;
  count = k.count ∙ h.count;
}

pub ports_itself : (ports : List Port) → PortsRest ports ports
ports_itself ports = record { len = refl; each = λ place none. port_itself (get_or ports place none) }

-- what was found of both ends later was so before
meets_before : (client client2 : Client) (port port2 : Port) → ClientRests client client2 → PortRests port port2 → Meets client2 port2 → Meets client port
meets_before client client2 port port2 c p meets = record {
  on_the_way = meets.on_the_way;
  asked = sym c.submitted ∙ (meets.asked ∙ ap (λ w. w ++ meets.on_the_way) p.asked);
  unpolled = meets.unpolled;
  polled = sym p.handed ∙ (meets.polled ∙ ap (λ w. w ++ meets.unpolled) c.polled);
}

module _ (ports ports2 : List Port) (clients clients2 : List Client) (are : AllPairs ArePort clients ports) (p : PortsRest ports ports2) (c : ClientsRest clients clients2)
    (place : ℕ) (low : place < length ports2) where
  pub client_there : place < length clients2
  client_there = let e = are.len in let m = p.len in let n = c.len in omega (arith, low, e, m, n)

  module _ (client : Client) (port : Port) (client_is : client ≡ get_or clients2 place client) (port_is : port ≡ get_or ports2 place port) where
    -- they are the ends of one port
    pub are_here : ArePort client port
    are_here =
        let within : place < length ports = let m = p.len in omega (arith, low, m) in
        subst (λ (x : Client). ArePort x port) (sym client_is) (subst (ArePort (get_or clients2 place client)) (sym port_is)
        (port_later (get_or clients place client) (get_or clients2 place client) (get_or ports place port) (get_or ports2 place port) (are.each place client port within)
        (c.each place client).same (p.each place port).same))

    pub ports_more : (port2 : Port) → PortRests port port2 → PortsRest ports (set ports2 place port2)
    ports_more port2 rests = record {
      len = length-set ports2 place port2 ∙ p.len;
      each = λ i none. port_on (get_or ports i none) (get_or ports2 i none) (get_or (set ports2 place port2) i none) (p.each i none)
          (each_set PortRests port_itself ports2 place port port2 low port_is rests i none);
    }

    pub clients_more : (client2 : Client) → ClientRests client client2 → ClientsRest clients (set clients2 place client2)
    clients_more client2 rests = all_rest_on clients clients2 (set clients2 place client2) c (all_rest_set clients2 place client client2 client_there client_is rests)

    pub meets_more : Meets client port → ((i : ℕ) (x : Client) (y : Port) → i < place → Meets (get_or clients i x) (get_or ports i y))
        → (i : ℕ) (x : Client) (y : Port) → i < place + 1 → Meets (get_or clients i x) (get_or ports i y)
    meets_more meets before i x y less = elim (eqb_tells i place) [
      | inl t ↦
          subst (λ k. Meets (get_or clients k x) (get_or ports k y)) (sym t.1)
          (meets_before (get_or clients place x) (get_or clients2 place x) (get_or ports place y) (get_or ports2 place y) (c.each place x) (p.each place y)
          (subst (λ (z : Port). Meets (get_or clients2 place x) z) (port_is ∙ get_or_default ports2 place port y low)
          (subst (λ (z : Client). Meets z port) (client_is ∙ get_or_default clients2 place client x client_there) meets)))
      | inr f ↦ before i x y (omega (arith, f.1, less))
    ]
