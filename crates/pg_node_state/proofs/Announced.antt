-- What a node sends as it begins.
use Rattle.std.proofs.Common.{◌≡◌, Bool, false, not, cond, List, [], ◌∷◌, refl, ap, ◌∙◌}
use Rattle.std.specs.List.{filter}
use Rattle.pg_node_ports.specs.PgNodeOpens.Places.{name_at}
use Rattle.pg_node_ports.specs.PgNodeOpens.declared.opens.Opens.{Opens}
use Rattle.pg_node_ports.specs.PgNodeOpens.Opens.{names_of, live_of, whole_of, lost_of}
use Rattle.pg_node_ports.specs.PgStep.Nodes.{Node}

-- where no loss was seen every node counts
all_kept : (lost : Node → Bool) (nodes : List Node) → lost ≡ (λ q. false) → filter (λ q. not (lost q)) nodes ≡ nodes
all_kept lost [] e = refl
all_kept lost (n ∷ ns) e = ap (λ (f : Node → Bool). cond (not (f n)) (n ∷ filter (λ q. not (lost q)) ns) (filter (λ q. not (lost q)) ns)) e ∙ ap (λ z. n ∷ z) (all_kept lost ns e)

pub none_lost : (opens : Opens) → lost_of opens ≡ (λ q. false) → live_of opens ≡ whole_of opens
none_lost opens e = λ i. record { own = name_at (names_of opens) 0; peers = all_kept (lost_of opens) (whole_of opens).peers e i }
