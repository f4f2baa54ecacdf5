-- A conversation that took place, and the answers that its clients count.
use Rattle.std.proofs.Common.{◌≡◌, ◌≢◌, ◌⊎◌, ◌<◌, ◌+◌, ◌-◌, ◌^◌, ℕ, min, true, List, [], ◌∷◌, ◌++◌, length}
use Rattle.std.proofs.Common.{get_or, map, set, inl, inr, refl, sym, ap, subst, ◌∙◌, zero, suc, arith, length-append}
use Rattle.std.specs.List.{All, sum_by}
use Rattle.std.specs.Prelude.{if◌then◌else◌, nat_lt, Bool, false, Result, Ok, Err, IfErr, IsErrAnd}
use Rattle.std.proofs.Math.ListN.{get_or-append, get_or-map}
use Rattle.std.proofs.lemmas.Bool.{cases_eq}
use Rattle.std.proofs.lemmas.Bool.Decides.{eqb_tells}
use Rattle.std.proofs.lemmas.List.{length-map, length-set, length_push, get_or_push, get_or-set_same, get_or-set_other}
use Rattle.std.proofs.lemmas.List.Sums.{sum_by-cons}
use Rattle.pg_cluster.specs.PgNodeRun.declared.port.Client.{Client}
use Rattle.pg_cluster.specs.PgNodeRun.Ports.{polled, polled_count}
use Rattle.pg_cluster.specs.PgStep.declared.start.Start.{Start}
use Rattle.pg_term.specs.declared.fault.TermFault.TheVariants.{BadAtom}
use Rattle.pg_term.specs.Fault.{checked_atom}
use Rattle.pg_cluster.specs.Clients.{AllPairs}
use Rattle.pg_cluster.specs.ClientsLaws.{all_same_on}
use Rattle.pg_cluster.specs.Running.{RunningGoes, clients_in}
use Rattle.pg_cluster.specs.PgWorldConfig.declared.fault.WorldFault.TheVariants.{OutOfMemory}
use Rattle.pg_cluster.specs.PgStep.Config.{Config}
use Rattle.pg_cluster.specs.Fault.{CantRun}
use Rattle.pg_cluster.specs.declared.fault.StartFault.{StartFault}
use Rattle.pg_cluster.specs.declared.fault.StartFault.TheVariants.{World}
use Rattle.pg_cluster.specs.declared.running.Running.{Running}
use Rattle.pg_node_requests.specs.Members.{node_name}
use Rattle.pg_talk.specs.Conversations.{AreAsked, AreBare, CantTalk, IsBare, all_polled, saturated}
use Rattle.pg_talk.specs.declared.conversation.Conversation.{Conversation}
use Rattle.pg_talk.specs.declared.conversation.Outcome.{Outcome}
use Rattle.pg_talk.specs.declared.speaker.Speaker.{Speaker}

-- ---- pairs

-- numbers up to m are added up to m
add_up_to : (m a b x y : ℕ) → a ≡ min b m → min x m ≡ min y m → min (a + x) m ≡ min (b + y) m
add_up_to m a b x y p q = omega arith

pub add_one_up_to : (m a n : ℕ) → a ≡ min n m → min (a + 1) m ≡ min (n + 1) m
add_one_up_to m a n p = omega arith

module _ {X Y : Type 0} (m : ℕ) (f : X → ℕ) (g : Y → ℕ) where
  -- of pairs that have the same number up to m the sums are the same up to m
  pub sums_up_to : (xs : List X) (ys : List Y) → AllPairs (λ x y. f x ≡ min (g y) m) xs ys → min (sum_by f xs) m ≡ min (sum_by g ys) m
  sums_up_to [] [] all = refl
  sums_up_to [] (y ∷ ys) all = absurd (omega (arith, all.len))
  sums_up_to (x ∷ xs) [] all = absurd (omega (arith, all.len))
  sums_up_to (x ∷ xs) (y ∷ ys) all =
      let rest = sums_up_to xs ys (record { len = omega (arith, all.len); each = λ i u v low. all.each (suc i) u v (omega arith) }) in
      let first : f x ≡ min (g y) m = all.each 0 x y (omega arith) in
      rw (sum_by-cons f x xs, sum_by-cons g y ys) (add_up_to m (f x) (g y) (sum_by f xs) (sum_by g ys) first rest)

-- ---- what is counted

-- all that the clients polled is what is counted
pub all_counted : (speakers : List Speaker) (clients : List Client) → AllPairs (λ (s : Speaker) (c : Client). s.answered ≡ polled_count c) speakers clients
    → saturated (sum_by (λ speaker. speaker.answered) speakers) ≡ saturated (all_polled clients)
all_counted speakers clients all = sums_up_to (2 ^ 64 - 1) (λ speaker. speaker.answered) (λ client. length (polled client)) speakers clients all

-- one node more, with the next number
pub bare_push : (ports : ℕ) (starts : List Start) (start : Start) → AreBare ports starts → IsBare ports (length starts + 1) start → AreBare ports (starts ++ start ∷ [])
bare_push ports starts start all here i none low = elim (eqb_tells i (length starts)) [
  | inl t ↦
      subst (λ x. IsBare ports (i + 1) x) (sym (get_or_push starts start none i (sym t.1)))
      (subst (λ k. IsBare ports (k + 1) start) (sym t.1) here)
  | inr f ↦
      let less : i < length starts = let n = length_push starts start in omega (arith, f.1, n, low) in
      subst (IsBare ports (i + 1)) (sym (get_or-append starts (start ∷ []) none i less)) (all i none less)
]

-- it is told of the nodes that were asked for
pub cant_by : (asked : Conversation) (given : Config) (fault : StartFault) → AreAsked asked given → CantRun 65536 given fault → CantTalk asked fault
cant_by asked given (World OutOfMemory) are cant = tt
cant_by asked given fault are cant = (given, are, cant)

pub no_memory : (asked : Conversation) (r : Result Outcome StartFault) → IsErrAnd r (λ e. e ≡ World OutOfMemory) → IfErr r (CantTalk asked)
no_memory asked (Ok outcome) h = tt
no_memory asked (Err e) h = subst (CantTalk asked) (sym h) tt

-- the atom of a text that has one
pub atom_is : (text name : List ℕ) → checked_atom text ≡ Ok name → name ≡ text
atom_is text name is = go (nat_lt 255 (length text)) is
  where
    go : (b : Bool) → (if b then Err BadAtom else Ok text) ≡ Ok name → name ≡ text
    go true e = absurd (cc)
    go false e = cc

-- ---- what the clients do

-- one after another
pub goes_on : (a b c : Running) → RunningGoes a b → RunningGoes b c → RunningGoes a c
goes_on a b c first second = record {
  same = all_same_on (clients_in a) (clients_in b) (clients_in c) first.same second.same;
  cluster = second.cluster ∙ first.cluster;
  config = second.config ∙ first.config;
}
