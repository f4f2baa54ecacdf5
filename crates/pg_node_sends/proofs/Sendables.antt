-- What is sent to the marked peers can be sent.
use Rattle.std.proofs.Common.{◌≡◌, ◌⊎◌, inl, inr, ℕ, zero, suc, ◌+◌, ◌<◌, ◌≤◌, Bool, true, false, cond}
use Rattle.std.proofs.Common.{get_or, length, List, [], ◌∷◌, ◌++◌, refl, sym, subst, ◌∙◌, arith}
use Rattle.std.specs.List.{AllByRecursion}
use Rattle.std.proofs.Math.Nat.{eq-or-lt_of_le}
use Rattle.pg_node_opens.specs.PgMessageTypes.declared.message.Message.{Message}
use Rattle.pg_node_opens.specs.PgMessageTypes.declared.packet.Packet.{Packet}
use Rattle.pg_node_opens.specs.PgMessageTypes.Limits.{max_stamp}
use Rattle.pg_node_opens.specs.PgMessageTypes.Writing.{is_exchange, is_sayable}
use Rattle.pg_node_opens.specs.PgStep.Nodes.{Node}
use Rattle.pg_node_sends.specs.declared.orders.Order.{Order}
use Rattle.pg_node_sends.specs.declared.orders.Order.TheVariants.{Lock, Free, Change, End, Reply}
use Rattle.pg_node_sends.specs.Orders.{message_of}
use Rattle.pg_node_sends.specs.Sendable.{IsSendable, Ascends, AreOnePacket, AreSendable}
use Rattle.pg_node_sends.specs.Marked.{sent_below}
use Rattle.pg_node_sends.proofs.Sent.{and_nothing}

-- no order is an exchange
pub order_small : (order : Order) → is_exchange (message_of order) ≡ false
order_small (Lock name reference) = refl
order_small (Free name reference) = refl
order_small (Change update reference) = refl
order_small (End pid) = refl
order_small (Reply reference said) = refl

-- nothing is sent
pub nothing_sendable : (names : List Node) (sends : List (ℕ × Packet)) → sends ≡ [] → AreSendable names sends
nothing_sendable names [] e = record { each = tt; apart = tt; alike = tt }
nothing_sendable names (sent ∷ others) e = absurd (cc)

-- one packet is sent
pub one_sendable : (names : List Node) (place : ℕ) (packet : Packet) → IsSendable names (place, packet) → AreSendable names ((place, packet) ∷ [])
one_sendable names place packet is = record { each = (is, tt); apart = (omega arith, tt); alike = tt }

-- they go to places below this one
abbrev pub AreBelow : ℕ → List (ℕ × Packet) → Type 0
AreBelow place sends = AllByRecursion (λ sent. sent.0 < place) sends

-- one more is sent, behind them
each_more : (names : List Node) (sends : List (ℕ × Packet)) (sent : ℕ × Packet) → AllByRecursion (IsSendable names) sends → IsSendable names sent → AllByRecursion (IsSendable names) (sends ++ sent ∷ [])
each_more names [] sent each is = (is, tt)
each_more names (x ∷ sends) sent each is = (each.0, each_more names sends sent each.1 is)

below_more : (place : ℕ) (sends : List (ℕ × Packet)) (packet : Packet) → AreBelow place sends → AreBelow (suc place) (sends ++ (place, packet) ∷ [])
below_more place [] packet below = (omega arith, tt)
below_more place (x ∷ sends) packet below = (omega (arith, below.0), below_more place sends packet below.1)

ascends_more : (least place : ℕ) (sends : List (ℕ × Packet)) (packet : Packet) → least ≤ place → Ascends least sends → AreBelow place sends → Ascends least (sends ++ (place, packet) ∷ [])
ascends_more least place [] packet l ascends below = (l, tt)
ascends_more least place (x ∷ sends) packet l ascends below = (ascends.0, ascends_more (x.0 + 1) place sends packet (omega (arith, below.0)) ascends.1 below.1)

below_later : (place : ℕ) (sends : List (ℕ × Packet)) → AreBelow place sends → AreBelow (suc place) sends
below_later place [] below = tt
below_later place (x ∷ sends) below = (omega (arith, below.0), below_later place sends below.1)

-- one packet, again and again
abbrev pub AllAre : Packet → List (ℕ × Packet) → Type 0
AllAre packet sends = AllByRecursion (λ sent. sent.1 ≡ packet) sends

all_more : (place : ℕ) (sends : List (ℕ × Packet)) (packet : Packet) → AllAre packet sends → AllAre packet (sends ++ (place, packet) ∷ [])
all_more place [] packet all = (refl, tt)
all_more place (x ∷ sends) packet all = (all.0, all_more place sends packet all.1)

like_first : (first packet : Packet) (others : List (ℕ × Packet)) → first ≡ packet → AllAre packet others → AllByRecursion (λ other. other.1 ≡ first) others
like_first first packet [] e all = tt
like_first first packet (x ∷ others) e all = (all.0 ∙ sym e, like_first first packet others e all.1)

all_alike : (packet : Packet) (sends : List (ℕ × Packet)) → AllAre packet sends → AreOnePacket sends
all_alike packet [] all = tt
all_alike packet (x ∷ others) all = like_first x.1 packet others all.0 all.1

module _ (names : List Node) (clock : ℕ) (message : Message) (goes : List Bool) (named : is_sayable message ≡ true) (stamp : clock ≤ max_stamp) (small : is_exchange message ≡ false) where
  abbrev packet : Packet
  packet = record { stamp = clock; message = message }

  one_below : (n : ℕ) (b : Bool) (xs : List (ℕ × Packet)) → AreBelow n xs → AreBelow (suc n) (xs ++ cond b ((n, packet) ∷ []) [])
  one_below n true xs below = below_more n xs packet below
  one_below n false xs below = subst (λ (ys : List (ℕ × Packet)). AreBelow (suc n) ys) (sym (and_nothing xs)) (below_later n xs below)

  below_here : (n : ℕ) → AreBelow n (sent_below clock message goes n)
  below_here zero = tt
  below_here (suc n) = one_below n (get_or goes n false) (sent_below clock message goes n) (below_here n)

  one_alike : (n : ℕ) (b : Bool) (xs : List (ℕ × Packet)) → AllAre packet xs → AllAre packet (xs ++ cond b ((n, packet) ∷ []) [])
  one_alike n true xs all = all_more n xs packet all
  one_alike n false xs all = subst (AllAre packet) (sym (and_nothing xs)) all

  alike_here : (n : ℕ) → AllAre packet (sent_below clock message goes n)
  alike_here zero = tt
  alike_here (suc n) = one_alike n (get_or goes n false) (sent_below clock message goes n) (alike_here n)

  one_sendable_more : (n : ℕ) (b : Bool) (xs : List (ℕ × Packet)) → n + 1 < length names → AreBelow n xs → AllAre packet xs → AreSendable names xs → AreSendable names (xs ++ cond b ((n, packet) ∷ []) [])
  one_sendable_more n true xs within below all before = record {
    each = each_more names xs (n, packet) before.each (record { place = within; named = named; stamp = stamp; small = small });
    apart = ascends_more 0 n xs packet (omega arith) before.apart below;
    alike = all_alike packet (xs ++ (n, packet) ∷ []) (all_more n xs packet all);
  }
  one_sendable_more n false xs within below all before = subst (AreSendable names) (sym (and_nothing xs)) before

  pub sendable_below : (n : ℕ) → n + 1 ≤ length names → AreSendable names (sent_below clock message goes n)
  sendable_below zero within = record { each = tt; apart = tt; alike = tt }
  sendable_below (suc n) within = one_sendable_more n (get_or goes n false) (sent_below clock message goes n) (later n (length names) within) (below_here n) (alike_here n) (sendable_below n (before n (length names) within))
    where
      later : (n k : ℕ) → suc n + 1 ≤ k → n + 1 < k
      later n k l = omega (arith, l)

      before : (n k : ℕ) → suc n + 1 ≤ k → n + 1 ≤ k
      before n k l = omega (arith, l)

-- what holds of a packet to each peer holds of those to the marked
pub each_below : (P : ℕ × Packet → Type 0) (clock : ℕ) (message : Message) (goes : List Bool) → ((k : ℕ) → P (k, record { stamp = clock; message = message })) → (n : ℕ)
    → AllByRecursion P (sent_below clock message goes n)
each_below P clock message goes holds zero = tt
each_below P clock message goes holds (suc n) = go (get_or goes n false) (sent_below clock message goes n) (each_below P clock message goes holds n)
  where
    go : (b : Bool) (xs : List (ℕ × Packet)) → AllByRecursion P xs → AllByRecursion P (xs ++ cond b ((n, record { stamp = clock; message = message }) ∷ []) [])
    go true [] all = (holds n, tt)
    go false [] all = tt
    go b (x ∷ xs) all = (all.0, go b xs all.1)

-- what holds of the packets to the marked holds of the one to each of them
pub below_has : (P : ℕ × Packet → Type 0) (clock : ℕ) (message : Message) (goes : List Bool) (n k : ℕ) → k < n → get_or goes k false ≡ true
    → AllByRecursion P (sent_below clock message goes n) → P (k, record { stamp = clock; message = message })
below_has P clock message goes zero k l marked all = absurd (nowhere k l)
  where
    nowhere : (k : ℕ) → k < zero → ⊥
    nowhere k l = omega arith
below_has P clock message goes (suc n) k l marked all = go (eq-or-lt_of_le (at_most k n l)) (λ h. below_has P clock message goes n k h marked)
  where
    at_most : (k n : ℕ) → k < suc n → k ≤ n
    at_most k n l = omega arith

    first : (b : Bool) (xs : List (ℕ × Packet)) → AllByRecursion P (xs ++ cond b ((n, record { stamp = clock; message = message }) ∷ []) []) → AllByRecursion P xs
    first b [] held = tt
    first b (x ∷ xs) held = (held.0, first b xs held.1)

    last : (b : Bool) (xs : List (ℕ × Packet)) → b ≡ true → AllByRecursion P (xs ++ cond b ((n, record { stamp = clock; message = message }) ∷ []) []) → P (n, record { stamp = clock; message = message })
    last true [] e held = held.0
    last false [] e held = absurd (cc)
    last b (x ∷ xs) e held = last b xs e held.1

    go : (k ≡ n) ⊎ (k < n) → (k < n → AllByRecursion P (sent_below clock message goes n) → P (k, record { stamp = clock; message = message })) → P (k, record { stamp = clock; message = message })
    go (inl e) earlier = subst (λ (j : ℕ). P (j, record { stamp = clock; message = message })) (sym e)
        (last (get_or goes n false) (sent_below clock message goes n) (subst (λ (j : ℕ). get_or goes j false ≡ true) e marked) all)
    go (inr h) earlier = earlier h (first (get_or goes n false) (sent_below clock message goes n) all)
