-- Loops that end: by each deed less is left to be sent, or to be taken.
use Rattle.std.proofs.Common.{◌≡◌, ◌≢◌, ◌⊎◌, ◌<◌, ◌≤◌, ◌+◌, ◌∙◌, ℕ, zero, suc, Bool, true, false, cond, drop, take, length, List, [], ◌∷◌, None, Ok, Err, inl, inr, refl, sym, ap, subst, arith}
use Rattle.std.specs.Prelude.{if◌then◌else◌, ◌||◌}
use Rattle.std.proofs.lemmas.List.{length-append}
use Rattle.pg_node.specs.Bytes.{damages, marked, next_packet, packet_at}
use Rattle.pg_node.specs.Links.{Link, without_front}
use Rattle.pg_node.specs.Nodes.{links_of, read_next, step_link, taken_of}
use Rattle.pg_node.specs.PgFrame.Frames.{front_of}
use Rattle.pg_node.specs.PgNodeState.declared.state.fault.NodeFault.{NodeFault}
use Rattle.pg_node.specs.PgNodeState.declared.state.fault.NodeFault.TheVariants.{Refused, Damaged}
use Rattle.pg_node.specs.PgStep.Machines.Clocked.{Timed}
use Rattle.pg_node.specs.PgStep.Nodes.{Node as Name, Nodes}
use Rattle.pg_node.specs.PgStep.State.{State}
use Rattle.pg_node.specs.PgStep.declared.refusal.Refusal.TheVariants.{NodeLost}
use Rattle.pg_node_run.specs.Acts.{Came, Did, Given, Saw, Took as TookPacket}
use Rattle.pg_node_run.proofs.Moving.{link_there}
use Rattle.pg_process.specs.declared.fault.ProcessFault.{ProcessFault}
use Rattle.pg_process.specs.declared.fault.ProcessFault.TheVariants.{ClockFull, OutOfMemory}
use Rattle.pg_process.specs.declared.process.Process.{Process}
use Rattle.pg_process.specs.Chains.{Makes, Rests, Works, WorksUntil}
use Rattle.pg_process.specs.Deeds.{Broke, IsOf, is_lost, Sent, Took}
use Rattle.pg_process.specs.Situations.{Setting, Situation, setting_of, situation_of}
use Rattle.pg_process.specs.Takings.{HasNone, Stops, TookOne}
use Rattle.pg_process.proofs.Chained.{silent_ends, until_ends, work_made}

-- ---- bytes that go out

-- some bytes that stand at the front are not there any more
pub fewer_behind : (xs bytes : List ℕ) → take (length bytes) xs ≡ bytes → bytes ≢ [] → length (drop (length bytes) xs) < length xs
fewer_behind xs [] first some = absurd (some refl)
fewer_behind [] (b ∷ bytes) first some = absurd (cc)
fewer_behind (x ∷ xs) (b ∷ bytes) first some = go (length bytes) xs
  where
    go : (n : ℕ) (ys : List ℕ) → length (drop n ys) < suc (length ys)
    go zero ys = omega arith
    go (suc n) [] = omega arith
    go (suc n) (y ∷ ys) = let rest = go n ys in omega (arith, rest)

-- what went out waits no more
pub fewer_bytes : (peer : ℕ) (bytes : List ℕ) (a b : Process) → bytes ≢ [] → Makes (Sent peer bytes) a b
    → length (links_of b.node peer).outbox < length (links_of a.node peer).outbox
fewer_bytes peer bytes a b some makes =
    let now : (links_of b.node peer).outbox ≡ drop (length bytes) (links_of a.node peer).outbox =
    ap (λ (s : Situation). (s.links peer).outbox) makes.does.after ∙ ap (λ (link : Link). link.outbox) (link_there peer (λ link. without_front link (length bytes)) (links_of a.node)) in
    subst (λ (w : List ℕ). length w < length (links_of a.node peer).outbox) (sym now) (fewer_behind (links_of a.node peer).outbox bytes makes.does.first some)

-- ---- packets that are taken

-- a link of which no fault was told
abbrev pub whole : Bool → ℕ
whole true = 0
whole false = 1

-- what is left to be taken of a link, and to be told of it
abbrev pub left_in : Link → ℕ
left_in link = length link.unread + length link.unread + whole link.damaged

whole_one : (damaged : Bool) → whole damaged ≤ 1
whole_one true = omega arith
whole_one false = omega arith

-- a packet takes bytes
came_some : (peer : ℕ) (input : Given) (came : List ℕ) → IsOf peer input → Came input came → 4 ≤ length came
came_some peer (TookPacket p x) came of is = let alone = is.alone in omega (arith, alone)
came_some peer (Saw p last) came of is = absurd (of)
came_some peer (Did action) came of is = absurd (of)

-- a link whose fault was told tells of no other
sound_told : (m : Nodes) (p : Name) (link : Link) (s : Timed State) (fault : NodeFault) → step_link m p link s ≡ Err fault → damages fault ≡ true → link.damaged ≡ false
sound_told m p link s fault told harms = by_lost (s.state.lost p) told
  where
    by_mark : (damaged : Bool) → taken_of m p s (if damaged then Err Damaged else packet_at (front_of link.unread)) ≡ Err fault → damaged ≡ false
    by_mark true h = absurd (cc)
    by_mark false h = refl

    by_lost : (lost : Bool) → cond lost (Err (Refused NodeLost)) (taken_of m p s (next_packet link)) ≡ Err fault → link.damaged ≡ false
    by_lost true h = absurd (cc)
    by_lost false h = by_mark link.damaged h

marks : (link : Link) (fault : NodeFault) → damages fault ≡ true → (marked link fault).damaged ≡ true
marks link fault harms = ap (λ (b : Bool). b || link.damaged) harms

-- a packet that was taken is not left, nor a fault that was told
pub fewer_left : (peer : ℕ) (a b : Process) → TookOne peer a b → left_in (links_of b.node peer) < left_in (links_of a.node peer)
fewer_left peer a b (inl (act, makes)) =
    let takes = makes.does.1 in
    let some = came_some peer act.input act.came takes.given takes.leads.came in
    let long = ap (λ (w : List ℕ). length w) takes.taken ∙ length-append act.came (links_of b.node peer).unread in
    omega (arith, some, long, whole_one (links_of a.node peer).damaged, whole_one (links_of b.node peer).damaged)
fewer_left peer a b (inr (fault, makes)) =
    let does = makes.does in
    let is : links_of b.node peer ≡ marked (links_of a.node peer) fault =
    ap (λ (s : Situation). s.links peer) does.after ∙ link_there peer (λ link. marked link fault) (links_of a.node) in
    let bytes = ap (λ (link : Link). length link.unread) is in
    let now = ap (λ (link : Link). whole link.damaged) is ∙ ap whole (marks (links_of a.node peer) fault does.harms) in
    let before = ap whole (sound_told _ _ (links_of a.node peer) (situation_of a).node.state fault does.told does.harms) in
    omega (arith, bytes, now, before)

-- to take one is work
pub took_works : (peer : ℕ) (a b : Process) → TookOne peer a b → Works a b
took_works peer a b (inl (act, makes)) = work_made (Took peer act) a b tt makes
took_works peer a b (inr (fault, makes)) = work_made (Broke peer fault) a b tt makes

-- where the setting stays
pub took_setting : (peer : ℕ) (a b : Process) → TookOne peer a b → setting_of b ≡ setting_of a
took_setting peer a b (inl (act, makes)) = makes.setting
took_setting peer a b (inr (fault, makes)) = makes.setting

-- where nothing is done, nothing more is there to be taken
pub none_rests : (peer : ℕ) (a b : Process) → Rests a b → HasNone peer a → HasNone peer b
none_rests peer a b rests none = subst (λ (set : Setting). has_none set (situation_of b)) (sym rests.setting) (subst (λ (s : Situation). has_none (setting_of a) s) (sym rests.same) none)
  where
    has_none : Setting → Situation → Type 0
    has_none set s =
        (is_lost set s peer ≡ true)
        ⊎ (((s.links peer).damaged ≡ true)
        ⊎ (read_next (is_lost set s peer) (s.links peer) ≡ Ok None))

-- where the clock is full, or memory runs out
pub stops_until : (peer : ℕ) (fault : ProcessFault) (a b : Process) → Stops peer fault a b → WorksUntil fault a b
stops_until peer ClockFull a b stops = until_ends ClockFull a b (silent_ends ClockFull a b stops.0 (inl (peer, stops.1)))
stops_until peer OutOfMemory a b stops = until_ends OutOfMemory a b (silent_ends OutOfMemory a b stops tt)
