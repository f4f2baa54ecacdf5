-- Ports that are served, one after another.
use Rattle.std.proofs.Common.{◌≡◌, ◌≢◌, ◌<◌, ◌≤◌, ◌+◌, ◌∙◌, ◌^◌, ◌⊎◌, ℕ, cond, get_or}
use Rattle.std.proofs.Common.{length, List, [], ◌∷◌, refl, sym, ap, subst, inl, inr, arith}
use Rattle.std.specs.Prelude.{Bool, true, false, nat_lt, nat_le, slice_set, Ok, Err}
use Rattle.std.proofs.lemmas.Bool.{cases_eq, lt-ltb}
use Rattle.std.proofs.lemmas.List.{get_or-set_same, get_or-set_other, get_or_default}
use Rattle.pg_node.specs.PgGroup.declared.table.GroupTable.{Ghosts}
use Rattle.pg_node.specs.declared.node.Node.{Node}
use Rattle.pg_node.specs.PgNodeState.declared.state.fault.NodeFault.{NodeFault}
use Rattle.pg_node.specs.PgNodeState.declared.state.fault.NodeFault.TheVariants.{Refused, Message, TooLong}
use Rattle.pg_node.specs.PgNodeState.declared.state.fault.NodeFault.TheVariants.{Damaged, OutOfMemory}
use Rattle.pg_node.specs.PgNodeState.Issued.{ports_of}
use Rattle.pg_node.specs.Nodes.{held_by}
use Rattle.pg_node_run.specs.declared.port.Asked.{Asked}
use Rattle.pg_node_run.specs.declared.port.Port.{Port}
use Rattle.pg_node_run.specs.Events.{IsRefusedAs, told_of_action}
use Rattle.pg_node_run.specs.Ports.{HandsAll, HandsNoMore, HasLookedIn, IsPortServed, KeepsSame}
use Rattle.pg_node_run.specs.Ports.{asked, asked_kept, handed, handed_count}
use Rattle.pg_node_run.specs.Served.{AreHanded, AreServed, HandNone, IsHandedAt}
use Rattle.pg_node_run.specs.Served.{IsServedAt, LeavesAnswerAt, StayBut, KeepTheSame}
use Rattle.pg_node_run.specs.Tries.{IsNoWant}
use Rattle.pg_node_run.proofs.PortsGoing.{keeps_itself, keeps_on}
use Rattle.pg_node.specs.PgStep.declared.answer.Answer.{Answer}
use Rattle.pg_node.specs.PgStep.declared.command.Command.{Command}
use Rattle.pg_node.specs.PgStep.declared.refusal.Refusal.TheVariants.{NoSuchPlace, ClockFull}
use Rattle.pg_node.specs.PgStep.Step.{CLOCK_LIMIT, TimedTurn, Issue, at_clock, timed}
use Rattle.pg_node.specs.PgStep.Turns.{NodeTurn}

-- ---- one port

-- it keeps nothing, and it was looked for a command
pub serves_all : (a b : Port) → asked_kept b ≡ [] → (asked_kept a ≡ [] → HasLookedIn a b) → IsPortServed a b
serves_all a b none looked = record {
  early = λ next kept. absurd (let e = ap length (sym none ∙ kept) in omega (arith, e));
  looked = looked;
}

-- it keeps this command
pub serves_early : (a b : Port) (next : Asked) → asked_kept b ≡ next ∷ [] → handed_count a < next.polled → (asked_kept a ≡ [] → HasLookedIn a b) → IsPortServed a b
serves_early a b next kept early looked = record {
  early = λ other kept2. subst (λ (o : Asked). handed_count a < o.polled) (first next other (sym kept ∙ kept2)) early;
  looked = looked;
}
  where
    first_or : Asked → List Asked → Asked
    first_or none [] = none
    first_or none (x ∷ xs) = x

    first : (x y : Asked) → x ∷ [] ≡ y ∷ [] → x ≡ y
    first x y e = ap (first_or x) e

-- A command at a port that is there is refused for want alone.
want_alone : (fault : NodeFault) → fault ≡ Refused ClockFull → IsNoWant fault → ⊥
want_alone fault is no_want = subst IsNoWant is no_want

refused_full : (b : Bool) (turn : TimedTurn) (fault : NodeFault) → IsRefusedAs (cond b (Ok turn) (Err ClockFull)) fault → IsNoWant fault → ⊥
refused_full b turn OutOfMemory refused no_want = no_want
refused_full true turn (Refused refusal) refused no_want = refused
refused_full true turn (Message fault) refused no_want = refused
refused_full true turn TooLong refused no_want = refused
refused_full true turn Damaged refused no_want = refused
refused_full false turn (Refused refusal) refused no_want = want_alone (Refused refusal) refused no_want
refused_full false turn (Message fault) refused no_want = want_alone (Message fault) refused no_want
refused_full false turn TooLong refused no_want = want_alone TooLong refused no_want
refused_full false turn Damaged refused no_want = want_alone Damaged refused no_want

refused_there : (there : Bool) (clock : ℕ) (turn : NodeTurn) (fault : NodeFault) → there ≡ true → IsRefusedAs (timed clock (cond there (Ok turn) (Err NoSuchPlace))) fault → IsNoWant fault → ⊥
refused_there true clock turn fault is refused no_want = refused_full (nat_le clock CLOCK_LIMIT) (at_clock clock turn) fault refused no_want
refused_there false clock turn fault is refused no_want = absurd (cc)

pub no_command_refused : {T : Type 0} {g : Ghosts T} (node : Node T g) (place : ℕ) (command : Command) (fault : NodeFault) → place < ports_of (held_by node)
    → IsRefusedAs (told_of_action node (Issue place command)) fault → IsNoWant fault → ⊥
no_command_refused node place command fault there refused no_want =
    refused_there (nat_lt place (ports_of (held_by node))) _ _ fault (lt-ltb place (ports_of (held_by node)) there) refused no_want

-- ---- one of all ports

pub served_at : (ports : List Port) (k place : ℕ) (port port2 : Port) → k ≡ place → k < length ports → port ≡ get_or ports k port → IsPortServed port port2 → IsServedAt place ports (slice_set ports k port2)
served_at ports k place port port2 same within is served =
    subst (λ j. IsServedAt j ports (slice_set ports k port2)) same (λ none.
    subst (λ x. IsPortServed x (get_or (slice_set ports k port2) k none)) (is ∙ get_or_default ports k port none within)
    (subst (IsPortServed port) (sym (get_or-set_same ports k port2 none within)) served))

pub stay_but : (ports : List Port) (k : ℕ) (port2 : Port) → StayBut k ports (slice_set ports k port2)
stay_but ports k port2 other none apart = get_or-set_other ports k other port2 none apart

pub keep_the_same : (ports : List Port) (k : ℕ) (port port2 : Port) → k < length ports → port ≡ get_or ports k port → KeepsSame port port2 → KeepTheSame ports (slice_set ports k port2)
keep_the_same ports k port port2 within is keeps place none = go (cases_eq place k)
  where
    go : (place ≡ k) ⊎ (place ≢ k) → KeepsSame (get_or ports place none) (get_or (slice_set ports k port2) place none)
    go (inl e) =
        subst (λ j. KeepsSame (get_or ports j none) (get_or (slice_set ports k port2) j none)) (sym e)
        (subst (λ x. KeepsSame x (get_or (slice_set ports k port2) k none)) (is ∙ get_or_default ports k port none within)
        (subst (KeepsSame port) (sym (get_or-set_same ports k port2 none within)) keeps))
    go (inr apart) = subst (KeepsSame (get_or ports place none)) (sym (get_or-set_other ports k place port2 none apart)) (keeps_itself (get_or ports place none))

-- ---- one port after another

-- of these ports it holds, if all was whole, and the others stay
pub record HoldsBelow (P : ℕ → Port → Port → Type 0) (place : ℕ) (whole : Bool) (a b : List Port) : Type 0 where
  pub holds : whole ≡ true → (k : ℕ) → k < place → k < 2 ^ 16 → (none : Port) → P k (get_or a k none) (get_or b k none)
  pub others : (k : ℕ) (none : Port) → place ≤ k → get_or b k none ≡ get_or a k none

pub holds_first : (P : ℕ → Port → Port → Type 0) (whole : Bool) (a : List Port) → HoldsBelow P 0 whole a a
holds_first P whole a = record {
  holds = λ is k low. absurd (omega (arith, low));
  others = λ k none high. refl;
}

pub holds_next : (P : ℕ → Port → Port → Type 0) (place : ℕ) (before here both : Bool) (a b c : List Port) → (both ≡ true → before ≡ true) → (both ≡ true → here ≡ true)
    → HoldsBelow P place before a b → (here ≡ true → place < 2 ^ 16 → (none : Port) → P place (get_or b place none) (get_or c place none)) → StayBut place b c
    → HoldsBelow P (place + 1) both a c
holds_next P place before here both a b c first second was step stay = record {
  holds = λ is k low small. go is k small low (cases_eq k place);
  others = λ k none high. stay k none (λ e. absurd (omega (arith, e, high))) ∙ was.others k none (omega (arith, high));
}
  where
    go : both ≡ true → (k : ℕ) → k < 2 ^ 16 → k < place + 1 → (k ≡ place) ⊎ (k ≢ place) → (none : Port) → P k (get_or a k none) (get_or c k none)
    go is k small low (inl e) none =
        subst (λ j. P j (get_or a j none) (get_or c j none)) (sym e)
        (subst (λ x. P place x (get_or c place none)) (was.others place none (omega arith)) (step (second is) (subst (λ j. j < 2 ^ 16) e small) none))
    go is k small low (inr apart) none =
        subst (P k (get_or a k none)) (sym (stay k none apart)) (was.holds (first is) k (omega (arith, low, apart)) small none)

pub hold_all : (P : ℕ → Port → Port → Type 0) (whole : Bool) (a b : List Port) (place : ℕ) → length a ≤ place → HoldsBelow P place whole a b → whole ≡ true
    → (k : ℕ) → k < length a → k < 2 ^ 16 → (none : Port) → P k (get_or a k none) (get_or b k none)
hold_all P whole a b place high below is k low small = below.holds is k (omega (arith, low, high)) small

-- what is kept stays kept
served_still : (a b c : Port) → IsPortServed a b → KeepsSame b c → IsPortServed a c
served_still a b c served same = record {
  early = λ next kept. served.early next (sym same.kept ∙ kept);
  looked = λ none. still (served.looked none);
}
  where
    still : HasLookedIn a b → HasLookedIn a c
    still (inl left) = inl (same.left ∙ left)
    still (inr came) = inr (subst (λ n. length (asked a) < n) (sym (ap length same.asked)) came)

pub served_kept_on : (a b c : List Port) → AreServed a b → KeepTheSame b c → AreServed a c
served_kept_on a b c served same place low small none = served_still (get_or a place none) (get_or b place none) (get_or c place none) (served place low small none) (same place none)

pub keep_on : (a b c : List Port) → KeepTheSame a b → KeepTheSame b c → KeepTheSame a c
keep_on a b c h k place none = keeps_on (get_or a place none) (get_or b place none) (get_or c place none) (h place none) (k place none)

pub keep_themselves : (a : List Port) → KeepTheSame a a
keep_themselves a place none = keeps_itself (get_or a place none)

-- ---- answers that are left

-- some port below this place leaves an answer
pub record LeavesBelow (answers : ℕ → List Answer) (place : ℕ) (ports : List Port) : Type 0 where
  pub port : ℕ
  pub low : port < place
  pub left : LeavesAnswerAt answers port ports

leaves_still : (answers : ℕ → List Answer) (k place : ℕ) (b c : List Port) → k ≢ place → StayBut place b c → LeavesAnswerAt answers k b → LeavesAnswerAt answers k c
leaves_still answers k place b c apart stay left none = subst (λ x. handed_count x < length (answers k)) (sym (stay k none apart)) (left none)

pub leaves_next : (answers : ℕ → List Answer) (place : ℕ) (before here both : Bool) (b c : List Port) → (both ≡ false → (before ≡ false) ⊎ (here ≡ false))
    → (before ≡ false → LeavesBelow answers place b) → (here ≡ false → LeavesAnswerAt answers place c) → StayBut place b c → both ≡ false → LeavesBelow answers (place + 1) c
leaves_next answers place before here both b c either was step stay short = go (either short)
  where
    go : (before ≡ false) ⊎ (here ≡ false) → LeavesBelow answers (place + 1) c
    go (inl e) =
        let at = was e in
        let low : at.port < place = at.low in
        record { port = at.port; low = omega (arith, low); left = leaves_still answers at.port place b c (λ same. absurd (omega (arith, same, low))) stay at.left }
    go (inr e) = record { port = place; low = omega arith; left = step e }

-- how it is at one of all ports, which stands at this place
pub handed_at : (answers : ℕ → List Answer) (ports : List Port) (k place : ℕ) (port port2 : Port) → k ≡ place → k < length ports → port ≡ get_or ports k port → HandsAll (answers k) port port2
    → IsHandedAt answers place ports (slice_set ports k port2)
handed_at answers ports k place port port2 same within is hands =
    subst (λ j. IsHandedAt answers j ports (slice_set ports k port2)) same (λ none.
    subst (λ x. HandsAll (answers k) x (get_or (slice_set ports k port2) k none)) (is ∙ get_or_default ports k port none within)
    (subst (HandsAll (answers k) port) (sym (get_or-set_same ports k port2 none within)) hands))

pub leaves_at : (answers : ℕ → List Answer) (ports : List Port) (k place : ℕ) (port2 : Port) → k ≡ place → k < length ports → handed_count port2 < length (answers k)
    → LeavesAnswerAt answers place (slice_set ports k port2)
leaves_at answers ports k place port2 same within left =
    subst (λ j. LeavesAnswerAt answers j (slice_set ports k port2)) same (λ none. subst (λ x. handed_count x < length (answers k)) (sym (get_or-set_same ports k port2 none within)) left)

pub stays_at : (ports : List Port) (k place : ℕ) (port2 : Port) → k ≡ place → StayBut place ports (slice_set ports k port2)
stays_at ports k place port2 same = subst (λ j. StayBut j ports (slice_set ports k port2)) same (stay_but ports k port2)

-- ---- answers that are not handed over

pub hand_none_itself : (ports : List Port) → HandNone ports ports
hand_none_itself ports place none = (refl, refl)

pub hand_none_on : (a b c : List Port) → HandNone a b → HandNone b c → HandNone a c
hand_none_on a b c h k place none = ((k place none).0 ∙ (h place none).0, (k place none).1 ∙ (h place none).1)

-- what is seen of each port stays, where it does at the one that changes
seen_still : {A : Type 0} (seen : Port → A) (ports : List Port) (k : ℕ) (port port2 : Port) → k < length ports → port ≡ get_or ports k port → seen port2 ≡ seen port
    → (place : ℕ) (none : Port) → seen (get_or (slice_set ports k port2) place none) ≡ seen (get_or ports place none)
seen_still seen ports k port port2 within is same place none = go (cases_eq place k)
  where
    go : (place ≡ k) ⊎ (place ≢ k) → seen (get_or (slice_set ports k port2) place none) ≡ seen (get_or ports place none)
    go (inl e) =
        subst (λ j. seen (get_or (slice_set ports k port2) j none) ≡ seen (get_or ports j none)) (sym e)
        (ap seen (get_or-set_same ports k port2 none within) ∙ (same ∙ ap seen (is ∙ get_or_default ports k port none within)))
    go (inr apart) = ap seen (get_or-set_other ports k place port2 none apart)

pub hand_none_at : (ports : List Port) (k : ℕ) (port port2 : Port) → k < length ports → port ≡ get_or ports k port → handed port2 ≡ handed port → handed_count port2 ≡ handed_count port
    → HandNone ports (slice_set ports k port2)
hand_none_at ports k port port2 within is out count place none =
    (seen_still handed ports k port port2 within is out place none, seen_still handed_count ports k port port2 within is count place none)

-- behind a stretch in which none was
pub handed_after : (answers : ℕ → List Answer) (a b c : List Port) → length b ≡ length a → HandNone a b → AreHanded answers b c → AreHanded answers a c
handed_after answers a b c len still handed place low small none =
    subst (λ n. HandsNoMore (answers place) (get_or c place none) ⊎ (handed_count (get_or c place none) ≡ n + 64)) (still place none).1
    (handed place (subst (λ n. place < n) (sym len) low) small none)
