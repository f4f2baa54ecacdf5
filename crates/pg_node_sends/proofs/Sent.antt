-- The packets to the peers that are marked, and the marks of peers.
use Rattle.std.proofs.Common.{◌≡◌, ◌⊎◌, inl, inr, ℕ, zero, suc, ◌+◌, ◌<◌, ◌≤◌, Bool, true, false, ◌&&◌, ◌||◌, cond}
use Rattle.std.proofs.Common.{get_or, nat_eq, length, List, [], ◌∷◌, ◌++◌, refl, sym, ap, ◌∙◌, arith, append_assoc, not, subst}
use Rattle.std.specs.List.{IsDistinct, list_any}
use Rattle.std.proofs.Math.Path.{fun_ext}
use Rattle.std.proofs.Math.Nat.{eq-or-lt_of_le}
use Rattle.std.proofs.lemmas.Bool.{eq-eqb, ne_eqb}
use Rattle.std.proofs.lemmas.List.{get_or_push, get_or_append_left, length_push}
use Rattle.pg_term.specs.Same.{same_atom}
use Rattle.pg_node_opens.specs.PgMessageTypes.declared.message.Message.{Message}
use Rattle.pg_node_opens.specs.PgMessageTypes.declared.packet.Packet.{Packet}
use Rattle.pg_node_opens.specs.PgStep.Machines.Clocked.{Stamped, stamped}
use Rattle.pg_node_opens.specs.PgMulticall.Places.{has_of}
use Rattle.pg_node_opens.specs.PgMulticall.declared.places.Places.{Places}
use Rattle.pg_node_opens.specs.PgStep.Nodes.{Node, is_peer, to_one}
use Rattle.pg_node_opens.specs.Places.{name_at, lost_in, live_in}
use Rattle.pg_node_opens.proofs.Named.{atom_self, atom_other, names_differ, reads_at}
use Rattle.pg_node_opens.proofs.Named.{reads_nobody, place_cases, any_filtered}
use Rattle.pg_node_sends.specs.Marked.{is_marked, marks_of, one_sent, sent_below}
use Rattle.pg_node_sends.specs.Sent.{stamped_of, sends_in}

next : (k : ℕ) → k + 1 ≡ suc k
next k = omega arith

pub sent_next : (clock : ℕ) (message : Message) (goes : List Bool) (n : ℕ) → sent_below clock message goes (n + 1) ≡ sent_below clock message goes n ++ one_sent clock message goes n
sent_next clock message goes n = ap (sent_below clock message goes) (next n)

sends_both : (names : List Node) (xs ys : List (ℕ × Packet)) (q : Node) → sends_in names (xs ++ ys) q ≡ sends_in names xs q ++ sends_in names ys q
sends_both names [] ys q = refl
sends_both names (x ∷ xs) ys q = ap (λ z. cond (same_atom (name_at names (x.0 + 1)) q) (stamped_of x.1 ∷ []) [] ++ z) (sends_both names xs ys q)
    ∙ sym (append_assoc (cond (same_atom (name_at names (x.0 + 1)) q) (stamped_of x.1 ∷ []) []) (sends_in names xs q) (sends_in names ys q))

pub and_nothing : {A : Type 0} (xs : List A) → xs ++ [] ≡ xs
and_nothing [] = refl
and_nothing (x ∷ xs) = ap (λ z. x ∷ z) (and_nothing xs)

-- of a name that none of them is
pub none_at : (q : Node) (ns : List Node) (k : ℕ) → list_any (same_atom q) ns ≡ false → k < length ns → same_atom (name_at ns k) q ≡ false
none_at q [] k e l = absurd (nowhere k l)
  where
    nowhere : (k : ℕ) → k < zero → ⊥
    nowhere k l = omega arith
none_at q (n ∷ ns) zero e l = atom_other q n (first (same_atom q n) (list_any (same_atom q) ns) e)
  where
    first : (b c : Bool) → (b || c) ≡ false → b ≡ false
    first true c e = e
    first false c e = refl
none_at q (n ∷ ns) (suc k) e l = none_at q ns k (second (same_atom q n) (list_any (same_atom q) ns) e) (nearer k (length ns) l)
  where
    second : (b c : Bool) → (b || c) ≡ false → c ≡ false
    second true c e = absurd (cc)
    second false c e = e

    nearer : (k n : ℕ) → suc k < suc n → k < n
    nearer k n l = omega arith

module _ (own : Node) (peers : List Node) (clock : ℕ) (message : Message) (goes : List Bool) where
  here : (n : ℕ) → name_at (own ∷ peers) (n + 1) ≡ name_at peers n
  here n = ap (name_at (own ∷ peers)) (next n)

  abbrev packet : Stamped Message
  packet = record { stamp = clock; packet = message }

  other_one : (n : ℕ) (q : Node) → same_atom (name_at peers n) q ≡ false → sends_in (own ∷ peers) (one_sent clock message goes n) q ≡ []
  other_one n q e = go (get_or goes n false)
    where
      go : (b : Bool) → sends_in (own ∷ peers) (cond b ((n, record { stamp = clock; message = message }) ∷ []) []) q ≡ []
      go true = ap (λ b. cond b (packet ∷ []) [] ++ []) (ap (λ z. same_atom z q) (here n) ∙ e)
      go false = refl

  own_one : (n : ℕ) → sends_in (own ∷ peers) (one_sent clock message goes n) (name_at peers n) ≡ cond (get_or goes n false) (packet ∷ []) []
  own_one n = go (get_or goes n false)
    where
      go : (b : Bool) → sends_in (own ∷ peers) (cond b ((n, record { stamp = clock; message = message }) ∷ []) []) (name_at peers n) ≡ cond b (packet ∷ []) []
      go true = ap (λ b. cond b (packet ∷ []) [] ++ []) (ap (λ z. same_atom z (name_at peers n)) (here n) ∙ atom_self (name_at peers n))
      go false = refl

  -- nothing goes to a node that stands at none of the places
  nobody_below : (n : ℕ) (q : Node) → ((j : ℕ) → j < n → same_atom (name_at peers j) q ≡ false) → sends_in (own ∷ peers) (sent_below clock message goes n) q ≡ []
  nobody_below zero q other = refl
  nobody_below (suc n) q other = sends_both (own ∷ peers) (sent_below clock message goes n) (one_sent clock message goes n) q
      ∙ (λ i. nobody_below n q (λ j l. other j (more j n l)) i ++ other_one n q (other n (last n)) i)
    where
      last : (n : ℕ) → n < suc n
      last n = omega arith

      more : (k n : ℕ) → k < n → k < suc n
      more k n l = omega arith

  last_one : IsDistinct same_atom peers → (n : ℕ) → n < length peers → sends_in (own ∷ peers) (sent_below clock message goes (suc n)) (name_at peers n) ≡ cond (get_or goes n false) (packet ∷ []) []
  last_one apart n l = sends_both (own ∷ peers) (sent_below clock message goes n) (one_sent clock message goes n) (name_at peers n)
      ∙ (λ i. nobody_below n (name_at peers n) (λ j h. names_differ peers j n apart (before j n (length peers) h l) l (unlike j n h)) i ++ own_one n i)
    where
      before : (k n m : ℕ) → k < n → n < m → k < m
      before k n m l h = omega arith

      unlike : (j n : ℕ) → j < n → j ≡ n → ⊥
      unlike j n l e = omega arith

  somebody_below : IsDistinct same_atom peers → (n k : ℕ) → n ≤ length peers → k < n → sends_in (own ∷ peers) (sent_below clock message goes n) (name_at peers k) ≡ cond (get_or goes k false) (packet ∷ []) []
  somebody_below apart zero k within l = absurd (nowhere k l)
    where
      nowhere : (k : ℕ) → k < zero → ⊥
      nowhere k l = omega arith
  somebody_below apart (suc n) k within l = go (somebody_below apart n k (below n (length peers) within)) (eq-or-lt_of_le (at_most k n l))
    where
      at_most : (k n : ℕ) → k < suc n → k ≤ n
      at_most k n l = omega arith

      below : (n m : ℕ) → suc n ≤ m → n ≤ m
      below n m l = omega arith

      here_too : (n m : ℕ) → suc n ≤ m → n < m
      here_too n m l = omega arith

      before : (k n m : ℕ) → k < n → suc n ≤ m → k < m
      before k n m l h = omega arith

      unlike : (j n : ℕ) → j < n → n ≡ j → ⊥
      unlike j n l e = omega arith

      go : (k < n → sends_in (own ∷ peers) (sent_below clock message goes n) (name_at peers k) ≡ cond (get_or goes k false) (packet ∷ []) []) → (k ≡ n) ⊎ (k < n)
          → sends_in (own ∷ peers) (sent_below clock message goes (suc n)) (name_at peers k) ≡ cond (get_or goes k false) (packet ∷ []) []
      go earlier (inl e) = subst (λ (j : ℕ). sends_in (own ∷ peers) (sent_below clock message goes (suc n)) (name_at peers j) ≡ cond (get_or goes j false) (packet ∷ []) []) (sym e)
          (last_one apart n (here_too n (length peers) within))
      go earlier (inr h) = sends_both (own ∷ peers) (sent_below clock message goes n) (one_sent clock message goes n) (name_at peers k)
          ∙ ((λ i. earlier h i ++ other_one n (name_at peers k) (names_differ peers n k apart (here_too n (length peers) within) (before k n (length peers) h within) (unlike k n h)) i)
          ∙ and_nothing (cond (get_or goes k false) (packet ∷ []) []))

  -- each marked peer is sent one packet, and nobody else any
  marked_sent : IsDistinct same_atom peers → length goes ≡ length peers → (q : Node)
      → sends_in (own ∷ peers) (sent_below clock message goes (length goes)) q ≡ stamped clock (cond (is_marked (own ∷ peers) goes q) (message ∷ []) [])
  marked_sent apart same q = go (place_cases peers q)
    where
      as_stamped : (b : Bool) → cond b (packet ∷ []) [] ≡ stamped clock (cond b (message ∷ []) [])
      as_stamped true = refl
      as_stamped false = refl

      all_places : (a b : ℕ) → a ≡ b → a ≤ b
      all_places a b e = omega arith

      beyond : (j a b : ℕ) → j < a → a ≡ b → j < b
      beyond j a b l e = omega arith

      go : ((k : ℕ) × (k < length peers) × (q ≡ name_at peers k)) ⊎ (list_any (same_atom q) peers ≡ false)
          → sends_in (own ∷ peers) (sent_below clock message goes (length goes)) q ≡ stamped clock (cond (is_marked (own ∷ peers) goes q) (message ∷ []) [])
      go (inl r) = subst (λ (p : Node). sends_in (own ∷ peers) (sent_below clock message goes (length goes)) p ≡ stamped clock (cond (is_marked (own ∷ peers) goes p) (message ∷ []) [])) (sym r.2)
          (somebody_below apart (length goes) r.0 (all_places (length goes) (length peers) same) (beyond r.0 (length peers) (length goes) r.1 (sym same))
          ∙ (ap (λ b. cond b (packet ∷ []) []) (sym (reads_at (λ mark. mark) false peers goes r.0 false apart same r.1)) ∙ as_stamped (is_marked (own ∷ peers) goes (name_at peers r.0))))
      go (inr e) = nobody_below (length goes) q (λ j l. none_at q peers j e (beyond j (length goes) (length peers) l same))
          ∙ ap (λ b. stamped clock (cond b (message ∷ []) [])) (sym (reads_nobody (λ mark. mark) false peers goes q e))

pub all_sent : (names : List Node) (clock : ℕ) (message : Message) (goes : List Bool) → IsDistinct same_atom names → length goes + 1 ≡ length names
    → sends_in names (sent_below clock message goes (length goes)) ≡ (λ q. stamped clock (cond (is_marked names goes q) (message ∷ []) []))
unfolding IsDistinct
all_sent [] clock message goes apart same = absurd (none (length goes) same)
  where
    none : (a : ℕ) → a + 1 ≡ zero → ⊥
    none a e = omega arith
all_sent (own ∷ peers) clock message goes apart same = fun_ext (marked_sent own peers clock message goes apart.1 (shorter (length goes) (length peers) same))
  where
    shorter : (a b : ℕ) → a + 1 ≡ suc b → a ≡ b
    shorter a b e = omega arith

-- ---- the marks of peers

pub length_marks : (goes : Places) (n : ℕ) → length (marks_of goes n) ≡ n
length_marks goes zero = refl
length_marks goes (suc n) = length_push (marks_of goes n) (has_of goes n) ∙ (ap (λ m. m + 1) (length_marks goes n) ∙ next n)

pub mark_at : (goes : Places) (n k : ℕ) → k < n → get_or (marks_of goes n) k false ≡ has_of goes k
mark_at goes zero k l = absurd (nowhere k l)
  where
    nowhere : (k : ℕ) → k < zero → ⊥
    nowhere k l = omega arith
mark_at goes (suc n) k l = go (mark_at goes n k) (eq-or-lt_of_le (at_most k n l))
  where
    at_most : (k n : ℕ) → k < suc n → k ≤ n
    at_most k n l = omega arith

    before : (k n m : ℕ) → m ≡ n → k < n → k < m
    before k n m e h = omega arith

    go : (k < n → get_or (marks_of goes n) k false ≡ has_of goes k) → (k ≡ n) ⊎ (k < n) → get_or (marks_of goes n ++ has_of goes n ∷ []) k false ≡ has_of goes k
    go earlier (inl e) = get_or_push (marks_of goes n) (has_of goes n) false k (length_marks goes n ∙ sym e) ∙ ap (has_of goes) (sym e)
    go earlier (inr h) = get_or_append_left (marks_of goes n) (has_of goes n ∷ []) false k (before k n (length (marks_of goes n)) (length_marks goes n) h) ∙ earlier h

-- the packets to the marked of so many peers
pub marked_sent_below : (names : List Node) (clock : ℕ) (message : Message) (goes : Places) (peers : ℕ) → IsDistinct same_atom names → peers + 1 ≡ length names
    → sends_in names (sent_below clock message (marks_of goes peers) peers) ≡ (λ q. stamped clock (cond (is_marked names (marks_of goes peers) q) (message ∷ []) []))
marked_sent_below names clock message goes peers apart same =
    ap (λ n. sends_in names (sent_below clock message (marks_of goes peers) n)) (sym (length_marks goes peers))
    ∙ all_sent names clock message (marks_of goes peers) apart (ap (λ n. n + 1) (length_marks goes peers) ∙ same)

-- one packet to a peer
pub one_sent_to : (names : List Node) (peer : ℕ) (packet : Packet) → sends_in names ((peer, packet) ∷ []) ≡ (λ q. stamped packet.stamp (to_one (name_at names (peer + 1)) packet.message q))
one_sent_to names peer packet = fun_ext (λ q. go (same_atom (name_at names (peer + 1)) q))
  where
    go : (b : Bool) → cond b (stamped_of packet ∷ []) [] ++ [] ≡ stamped packet.stamp (cond b (packet.message ∷ []) [])
    go true = refl
    go false = refl

-- nobody is marked
pub nobody_marked : (clock : ℕ) (message : Message) (goes : Places) → ((peer : ℕ) → has_of goes peer ≡ false) → (peers n : ℕ) → n ≤ peers → sent_below clock message (marks_of goes peers) n ≡ []
nobody_marked clock message goes none peers zero within = refl
nobody_marked clock message goes none peers (suc n) within = go (nobody_marked clock message goes none peers n (before n peers within))
  where
    before : (n m : ℕ) → suc n ≤ m → n ≤ m
    before n m l = omega arith

    last : (n m : ℕ) → suc n ≤ m → n < m
    last n m l = omega arith

    go : sent_below clock message (marks_of goes peers) n ≡ [] → sent_below clock message (marks_of goes peers) n ++ one_sent clock message (marks_of goes peers) n ≡ []
    go earlier = λ i. earlier i ++ cond ((mark_at goes peers n (last n peers within) ∙ none n) i) ((n, record { stamp = clock; message = message }) ∷ []) []

-- one more place was looked at
pub sent_more : (clock : ℕ) (message : Message) (goes : Places) (peers n : ℕ) (b : Bool) (sends : List (ℕ × Packet)) → n < peers → b ≡ has_of goes n
    → sends ≡ sent_below clock message (marks_of goes peers) n
    → sends ++ cond b ((n, record { stamp = clock; message = message }) ∷ []) [] ≡ sent_below clock message (marks_of goes peers) (n + 1)
sent_more clock message goes peers n b sends l is before =
    (λ i. before i ++ cond ((is ∙ sym (mark_at goes peers n l)) i) ((n, record { stamp = clock; message = message }) ∷ []) [])
    ∙ sym (sent_next clock message (marks_of goes peers) n)

-- one more is counted, where it is marked
pub count_more : (clock : ℕ) (message : Message) (goes : Places) (peers n count : ℕ) (b : Bool) → n < peers → b ≡ has_of goes n
    → count ≡ length (sent_below clock message (marks_of goes peers) n)
    → cond b (count + 1) count ≡ length (sent_below clock message (marks_of goes peers) (n + 1))
count_more clock message goes peers n count b l is before = go b ∙ ap (λ (ys : List (ℕ × Packet)). length ys) (sent_more clock message goes peers n b xs l is refl)
  where
    xs : List (ℕ × Packet)
    xs = sent_below clock message (marks_of goes peers) n

    go : (b : Bool) → cond b (count + 1) count ≡ length (xs ++ cond b ((n, record { stamp = clock; message = message }) ∷ []) [])
    go true = ap (λ m. m + 1) before ∙ sym (length_push xs (n, record { stamp = clock; message = message }))
    go false = before ∙ sym (ap (λ (ys : List (ℕ × Packet)). length ys) (and_nothing xs))

-- of each peer at a place below this one it is marked where it passes a test
abbrev pub AreMarks : (Node → Bool) → List Node → Places → ℕ → Type 0
AreMarks test names goes place = (k : ℕ) → k + 1 < place → has_of goes k ≡ test (name_at names (k + 1))

pub no_marks : (test : Node → Bool) (names : List Node) (goes : Places) → AreMarks test names goes 1
no_marks test names goes k l = absurd (nowhere k l)
  where
    nowhere : (k : ℕ) → k + 1 < 1 → ⊥
    nowhere k l = omega arith

pub one_mark : (test : Node → Bool) (names : List Node) (old new : Places) (peer place : ℕ) (b : Bool) → peer + 1 ≡ place → b ≡ test (name_at names place)
    → ((other : ℕ) → has_of new other ≡ cond (nat_eq peer other) b (has_of old other)) → AreMarks test names old place → AreMarks test names new (place + 1)
one_mark test names old new peer place b here is marked each k l = go (eq-or-lt_of_le (at_most k place l))
  where
    at_most : (k n : ℕ) → k + 1 < n + 1 → k + 1 ≤ n
    at_most k n l = omega arith

    last : (p k n : ℕ) → p + 1 ≡ n → k + 1 ≡ n → p ≡ k
    last p k n e f = omega arith

    other : (p k n : ℕ) → p + 1 ≡ n → k + 1 < n → p ≡ k → ⊥
    other p k n e h f = omega arith

    go : (k + 1 ≡ place) ⊎ (k + 1 < place) → has_of new k ≡ test (name_at names (k + 1))
    go (inl e) = marked k ∙ (ap (λ c. cond c b (has_of old k)) (eq-eqb peer k (last peer k place here e)) ∙ (is ∙ ap (λ n. test (name_at names n)) (sym e)))
    go (inr h) = marked k ∙ (ap (λ c. cond c b (has_of old k)) (ne_eqb peer k (other peer k place here h)) ∙ each k h)

-- the marked are the peers that count and pass a test
pub marks_say : (names : List Node) (lost : List Bool) (test : Node → Bool) (goes : Places) (place : ℕ) → IsDistinct same_atom names → length names ≤ place
    → AreMarks (λ q. is_peer (live_in names lost) q && test q) names goes place → (n : ℕ) → n + 1 ≡ length names → (q : Node)
    → is_marked names (marks_of goes n) q ≡ (is_peer (live_in names lost) q && test q)
unfolding IsDistinct
marks_say [] lost test goes place apart within each n same q = absurd (none n same)
  where
    none : (a : ℕ) → a + 1 ≡ zero → ⊥
    none a e = omega arith
marks_say (own ∷ peers) lost test goes place apart within each n same q = go (place_cases peers q)
  where
    names : List Node
    names = own ∷ peers

    counts : Node → Bool
    counts q = not (lost_in names lost q)

    shorter : (a b : ℕ) → a + 1 ≡ suc b → a ≡ b
    shorter a b e = omega arith

    sooner : (k m n : ℕ) → k < m → n + 1 ≡ suc m → k < n
    sooner k m n l e = omega arith

    nearer : (k n p : ℕ) → k < n → suc n ≤ p → k + 1 < p
    nearer k n p l h = omega arith

    nobody : (ns : List Node) → list_any (same_atom q) ns ≡ false → list_any (λ x. counts x && same_atom q x) ns ≡ false
    nobody [] e = refl
    nobody (n ∷ ns) e = both (counts n) (same_atom q n) (list_any (same_atom q) ns) e (nobody ns)
      where
        both : (a b c : Bool) → (b || c) ≡ false → (c ≡ false → list_any (λ x. counts x && same_atom q x) ns ≡ false) → ((a && b) || list_any (λ x. counts x && same_atom q x) ns) ≡ false
        both a true c e h = absurd (cc)
        both true false c e h = h e
        both false false c e h = h e

    go : ((k : ℕ) × (k < length peers) × (q ≡ name_at peers k)) ⊎ (list_any (same_atom q) peers ≡ false)
        → is_marked names (marks_of goes n) q ≡ (is_peer (live_in names lost) q && test q)
    go (inl r) = subst (λ (p : Node). is_marked names (marks_of goes n) p ≡ (is_peer (live_in names lost) p && test p)) (sym r.2)
        (reads_at (λ mark. mark) false peers (marks_of goes n) r.0 false apart.1 (length_marks goes n ∙ shorter n (length peers) same) r.1
        ∙ (mark_at goes n r.0 (sooner r.0 (length peers) n r.1 same)
        ∙ (each r.0 (nearer r.0 (length peers) place r.1 within) ∙ ap (λ n. is_peer (live_in names lost) (name_at names n) && test (name_at names n)) (next r.0))))
    go (inr e) = reads_nobody (λ mark. mark) false peers (marks_of goes n) q e
        ∙ ap (λ b. b && test q) (sym (any_filtered counts (same_atom q) peers ∙ nobody peers e))
