-- How ports go with their node, one stretch after another.
use Rattle.std.proofs.Common.{◌≡◌, ◌≢◌, ◌<◌, ◌≤◌, ◌+◌, ◌∙◌, ◌⊎◌, ℕ, cond, get_or, take, length, map, List, [], ◌∷◌}
use Rattle.std.proofs.Common.{◌++◌, refl, sym, ap, subst, inl, inr, arith, append-nil, append_assoc, length-append}
use Rattle.std.specs.Prelude.{slice_set, slice_get, nat_eq, Option, Some, None}
use Rattle.std.proofs.lemmas.Bool.{cases_eq, eq-eqb, ne_eqb}
use Rattle.std.proofs.lemmas.Grind.{flat_map-append}
use Rattle.std.proofs.lemmas.Option.{slice_get_within, get_or_from_slice_get}
use Rattle.std.proofs.lemmas.List.{take_more, map-append, take-append-le, get_or-set_same}
use Rattle.std.proofs.lemmas.List.{get_or-set_other, get_or_default, length-set}
use Rattle.pg_node.specs.PgGroup.Functions.{upd}
use Rattle.pg_node.specs.PgNodeState.States.{Gave}
use Rattle.pg_node.specs.PgNodeOpens.Places.{name_at}
use Rattle.pg_node.specs.PgRing.declared.slot_in.SlotIn.{SlotIn}
use Rattle.pg_node.specs.PgRing.declared.slot_out.SlotOut.{SlotOut}
use Rattle.pg_node.specs.PgRing.Slots.{SameSlotIn, SameSlotOut}
use Rattle.pg_node_run.specs.declared.port.Asked.{Asked}
use Rattle.pg_node_run.specs.declared.port.Port.{Port}
use Rattle.pg_node_run.specs.Acts.{Act, Standing, AllLead}
use Rattle.pg_node_run.specs.Ports.{asked, handed, handed_count, asked_kept, SamePort, HandedOver, Hands, KeepsSame}
use Rattle.pg_node_run.specs.Turns.{PortFollows, PortsFollow, commands_at, command_at, gave_at, answered_at, AreLater}
use Rattle.pg_node.specs.PgStep.declared.answer.Answer.{Answer}
use Rattle.pg_node.specs.PgStep.declared.command.Command.{Command}
use Rattle.pg_node.specs.PgStep.declared.command.OpId.{OpId}
use Rattle.pg_node.specs.PgStep.Nodes.{Node as Name}
use Rattle.pg_node.specs.PgStep.State.{Response}

-- ---- one end of a port

pub same_port : (a : Port) → SamePort a a
same_port a = (((refl, refl, refl, refl), refl), ((refl, refl, refl, refl), refl))

pub slot_in_on : {T : Type 0} (a b c : SlotIn T) → SameSlotIn a b → SameSlotIn b c → SameSlotIn a c
slot_in_on a b c h k = ((k.0.0 ∙ h.0.0, k.0.1 ∙ h.0.1, k.0.2 ∙ h.0.2, k.0.3 ∙ h.0.3), k.1 ∙ h.1)

slot_out_on : {T : Type 0} (a b c : SlotOut T) → SameSlotOut a b → SameSlotOut b c → SameSlotOut a c
slot_out_on a b c h k = ((k.0.0 ∙ h.0.0, k.0.1 ∙ h.0.1, k.0.2 ∙ h.0.2, k.0.3 ∙ h.0.3), k.1 ∙ h.1)

pub same_port_on : (a b c : Port) → SamePort a b → SamePort b c → SamePort a c
same_port_on a b c h k = (slot_in_on a.commands b.commands c.commands h.0 k.0, slot_out_on a.answers b.answers c.answers h.1 k.1)

-- ---- answers stay

-- how many answers these acts gave at the port at a place
abbrev pub answers_in : ℕ → List Act → ℕ
answers_in place [] = 0
answers_in place (act ∷ acts) = gave_at place act.turn.reported.gave + answers_in place acts

-- some answers, and so many more
pub record Grows (count : ℕ) (before after : List Answer) : Type 0 where
  pub more : List Answer
  pub is : after ≡ before ++ more
  pub many : length more ≡ count

grows_itself : (answers : List Answer) → Grows 0 answers answers
grows_itself answers = record { more = []; is = sym (append-nil answers); many = refl }

grows_on : (m n : ℕ) (a b c : List Answer) → Grows m a b → Grows n b c → Grows (m + n) a c
grows_on m n a b c h k = record {
  more = h.more ++ k.more;
  is = k.is ∙ (ap (λ w. w ++ k.more) h.is ∙ append_assoc a h.more k.more);
  many = length-append h.more k.more ∙ (ap (λ w. w + length k.more) h.many ∙ ap (λ w. m + w) k.many);
}

grows_one : (before : ℕ → List Answer) (port : ℕ) (answer : Answer) (place : ℕ)
    → Grows (cond (nat_eq port place) 1 0) (before place) (upd nat_eq before port (before port ++ answer ∷ []) place)
unfolding upd
grows_one before port answer place = go (cases_eq port place)
  where
    go : (port ≡ place) ⊎ (port ≢ place) → Grows (cond (nat_eq port place) 1 0) (before place) (cond (nat_eq port place) (before port ++ answer ∷ []) (before place))
    go (inl same) = record {
      more = answer ∷ [];
      is = ap (λ b. cond b (before port ++ answer ∷ []) (before place)) (eq-eqb port place same) ∙ ap (λ j. before j ++ answer ∷ []) same;
      many = sym (ap (λ b. cond {A = ℕ} b 1 0) (eq-eqb port place same));
    }
    go (inr apart) = record {
      more = [];
      is = ap (λ b. cond b (before port ++ answer ∷ []) (before place)) (ne_eqb port place apart) ∙ sym (append-nil (before place));
      many = sym (ap (λ b. cond {A = ℕ} b 1 0) (ne_eqb port place apart));
    }

gave_grows : (own : Name) (gave : Option (OpId × Response)) (before after : ℕ → List Answer) → Gave own gave before after → (place : ℕ)
    → Grows (gave_at place gave) (before place) (after place)
gave_grows own None before after same place = subst (λ (f : ℕ → List Answer). Grows 0 (before place) (f place)) (sym same) (grows_itself (before place))
gave_grows own (Some gave) before after given place =
    subst (λ (f : ℕ → List Answer). Grows (gave_at place (Some gave)) (before place) (f place)) (sym given.2)
    (grows_one before gave.0.port (record { number = gave.0.number; reply = given.0 }) place)

pub answers_grow : (names : List Name) (ports : ℕ) (a : Standing) (acts : List Act) (b : Standing) → AllLead names ports a acts b
    → (place : ℕ) → Grows (answers_in place acts) (a.answers place) (b.answers place)
answers_grow names ports a [] b same place = subst (λ (x : Standing). Grows 0 (a.answers place) (x.answers place)) (sym same) (grows_itself (a.answers place))
answers_grow names ports a (act ∷ acts) b lead place =
    grows_on (gave_at place act.turn.reported.gave) (answers_in place acts) (a.answers place) (lead.0.answers place) (b.answers place)
    (gave_grows (name_at names 0) act.turn.reported.gave a.answers lead.0.answers lead.1.answers place)
    (answers_grow names ports lead.0 acts b lead.2 place)

-- what was handed over is the first of more answers, too
pub handed_still : (count : ℕ) (before after : List Answer) (port : Port) → Grows count before after → HandedOver before port → HandedOver after port
handed_still count before after port grows over =
    let len : length after ≡ length before + length grows.more = ap length grows.is ∙ length-append before grows.more in
    let within : handed_count port ≤ length before = over.within in
    record {
      first = over.first ∙ (sym (take-append-le (handed_count port) before grows.more within) ∙ ap (λ w. take (handed_count port) w) (sym grows.is));
      within = omega (arith, len, within);
    }

-- ---- one port

commands_on : (place : ℕ) (first second : List Act) → commands_at place (first ++ second) ≡ commands_at place first ++ commands_at place second
commands_on place first second = flat_map-append (λ (act : Act). command_at place act.input) first second

-- ---- when they came in

counted : (count : ℕ) (before after : List Answer) → Grows count before after → length after ≡ length before + count
counted count before after grows = ap length grows.is ∙ (length-append before grows.more ∙ ap (λ n. length before + n) grows.many)

answered_on : (place count : ℕ) (first second : List Act)
    → answered_at place count (first ++ second) ≡ answered_at place count first ++ answered_at place (count + answers_in place first) second
answered_on place count [] second = let e : count ≡ count + 0 = omega arith in ap (λ n. answered_at place n second) e
answered_on place count (act ∷ acts) second =
    let here : List ℕ = map (λ (command : Command). count) (command_at place act.input) in
    let gave : ℕ = gave_at place act.turn.reported.gave in
    let later : List ℕ = answered_at place (count + gave) acts in
    let e : count + gave + answers_in place acts ≡ count + (gave + answers_in place acts) = omega arith in
    ap (λ w. here ++ w) (answered_on place (count + gave) acts second)
    ∙ (sym (append_assoc here later (answered_at place (count + gave + answers_in place acts) second)) ∙ ap (λ n. (here ++ later) ++ answered_at place n second) e)

later_on : (xs ys : List Asked) (ms ns : List ℕ) → AreLater xs ms → AreLater ys ns → AreLater (xs ++ ys) (ms ++ ns)
later_on [] ys [] ns h k = k
later_on [] ys (m ∷ ms) ns h k = absurd h
later_on (x ∷ xs) ys [] ns h k = absurd h
later_on (x ∷ xs) ys (m ∷ ms) ns h k = (h.0, later_on xs ys ms ns h.1 k)

none_of : (xs ys : List Command) → xs ++ ys ≡ [] → (xs ≡ []) × (ys ≡ [])
none_of [] ys e = (refl, e)
none_of (x ∷ xs) ys e = absurd (let n = ap length e in omega (arith, n))

answered_none : (place count : ℕ) (acts : List Act) → commands_at place acts ≡ [] → answered_at place count acts ≡ []
answered_none place count [] quiet = refl
answered_none place count (act ∷ acts) quiet =
    let none = none_of (command_at place act.input) (commands_at place acts) quiet in
    let gave : ℕ = gave_at place act.turn.reported.gave in
    ap (λ (commands : List Command). map (λ (command : Command). count) commands ++ answered_at place (count + gave) acts) none.0 ∙ answered_none place (count + gave) acts none.1

-- acts of which none is a command
pub port_waits : (place : ℕ) (acts : List Act) (answers answers2 : List Answer) (port : Port) → commands_at place acts ≡ [] → Grows (answers_in place acts) answers answers2
    → PortFollows place acts answers answers2 port port
port_waits place acts answers answers2 port quiet grows = record {
  same = same_port port;
  given = [];
  asked = λ before e. e ∙ ap (λ w. w ++ asked_kept port) (sym (append-nil before));
  commands = sym quiet;
  later = λ over. subst (AreLater []) (sym (answered_none place (length answers) acts quiet)) tt;
  handed = handed_still (answers_in place acts) answers answers2 port grows;
}

pub port_follows_on : (place : ℕ) (first second : List Act) (x y z : List Answer) (a b c : Port) → Grows (answers_in place first) x y → PortFollows place first x y a b
    → PortFollows place second y z b c → PortFollows place (first ++ second) x z a c
port_follows_on place first second x y z a b c grows h k = record {
  same = same_port_on a b c h.same k.same;
  given = h.given ++ k.given;
  asked = λ before e. k.asked (before ++ h.given) (h.asked before e) ∙ ap (λ w. w ++ asked_kept c) (append_assoc before h.given k.given);
  commands = map-append (λ (x : Asked). x.command) h.given k.given ∙ (ap (λ w. w ++ map (λ (x : Asked). x.command) k.given) h.commands
      ∙ (ap (λ w. commands_at place first ++ w) k.commands ∙ sym (commands_on place first second)));
  later = λ over.
      subst (AreLater (h.given ++ k.given))
      (ap (λ n. answered_at place (length x) first ++ answered_at place n second) (counted (answers_in place first) x y grows) ∙ sym (answered_on place (length x) first second))
      (later_on h.given k.given (answered_at place (length x) first) (answered_at place (length y) second) (h.later over) (k.later (h.handed over)));
  handed = λ over. k.handed (h.handed over);
}

-- ---- all ports

pub ports_wait : (acts : List Act) (answers answers2 : ℕ → List Answer) (ports : List Port) → ((place : ℕ) → commands_at place acts ≡ [])
    → ((place : ℕ) → Grows (answers_in place acts) (answers place) (answers2 place)) → PortsFollow acts answers answers2 ports ports
ports_wait acts answers answers2 ports quiet grows = record {
  len = refl;
  each = λ place none low. port_waits place acts (answers place) (answers2 place) (get_or ports place none) (quiet place) (grows place);
}

pub ports_follow_on : (first second : List Act) (x y z : ℕ → List Answer) (a b c : List Port) → ((place : ℕ) → Grows (answers_in place first) (x place) (y place))
    → PortsFollow first x y a b → PortsFollow second y z b c → PortsFollow (first ++ second) x z a c
ports_follow_on first second x y z a b c grows h k = record {
  len = k.len ∙ h.len;
  each = λ place none low. port_follows_on place first second (x place) (y place) (z place) (get_or a place none) (get_or b place none) (get_or c place none) (grows place)
      (h.each place none low) (k.each place none (subst (λ n. place < n) (sym h.len) low));
}

-- the port at one place changes
pub ports_set : (acts : List Act) (answers answers2 : ℕ → List Answer) (ports : List Port) (k : ℕ) (port port2 : Port) → k < length ports → port ≡ get_or ports k port
    → PortFollows k acts (answers k) (answers2 k) port port2 → ((place : ℕ) → place ≢ k → commands_at place acts ≡ [])
    → ((place : ℕ) → Grows (answers_in place acts) (answers place) (answers2 place)) → PortsFollow acts answers answers2 ports (slice_set ports k port2)
ports_set acts answers answers2 ports k port port2 within is here quiet grows = record {
  len = length-set ports k port2;
  each = λ place none low. go place none low (cases_eq place k);
}
  where
    go : (place : ℕ) (none : Port) → place < length ports → (place ≡ k) ⊎ (place ≢ k)
        → PortFollows place acts (answers place) (answers2 place) (get_or ports place none) (get_or (slice_set ports k port2) place none)
    go place none low (inl e) =
        let first : get_or ports k none ≡ port = sym (is ∙ get_or_default ports k port none within) in
        let last : get_or (slice_set ports k port2) k none ≡ port2 = get_or-set_same ports k port2 none within in
        subst (λ j. PortFollows j acts (answers j) (answers2 j) (get_or ports j none) (get_or (slice_set ports k port2) j none)) (sym e)
        (subst (λ x. PortFollows k acts (answers k) (answers2 k) x (get_or (slice_set ports k port2) k none)) (sym first)
        (subst (λ y. PortFollows k acts (answers k) (answers2 k) port y) (sym last) here))
    go place none low (inr n) =
        subst (λ y. PortFollows place acts (answers place) (answers2 place) (get_or ports place none) y) (sym (get_or-set_other ports k place port2 none n))
        (port_waits place acts (answers place) (answers2 place) (get_or ports place none) (quiet place n) (grows place))

-- ---- what becomes of the commands of a port

pub handed_alike : (answers : List Answer) (a b : Port) → handed b ≡ handed a → handed_count b ≡ handed_count a → HandedOver answers a → HandedOver answers b
handed_alike answers a b out count over = record {
  first = out ∙ (over.first ∙ ap (λ n. take n answers) (sym count));
  within = subst (λ n. n ≤ length answers) (sym count) over.within;
}

get_at : (xs : List Answer) (k : ℕ) (x : Answer) → slice_get xs k ≡ Some x → (k < length xs) × (get_or xs k x ≡ x)
get_at xs k x there = (slice_get_within xs k x there, get_or_from_slice_get xs k x x there)

-- none was there to be given
pub port_gave_none : (place : ℕ) (answers : List Answer) (a b : Port) → SamePort a b
    → ((before : List Asked) → asked a ≡ before ++ asked_kept a → asked b ≡ before ++ asked_kept b) → handed b ≡ handed a → handed_count b ≡ handed_count a
    → PortFollows place [] answers answers a b
port_gave_none place answers a b same came out count = record {
  same = same;
  given = [];
  asked = λ before e. came before e ∙ ap (λ w. w ++ asked_kept b) (sym (append-nil before));
  commands = refl;
  later = λ over. tt;
  handed = handed_alike answers a b out count;
}

-- one was given, and taken
pub port_gave : (place : ℕ) (act : Act) (answers answers2 : List Answer) (next : Asked) (a b : Port) → SamePort a b
    → ((before : List Asked) → asked a ≡ before ++ asked_kept a → asked b ≡ before ++ next ∷ []) → asked_kept b ≡ [] → handed b ≡ handed a → handed_count b ≡ handed_count a
    → next.polled ≤ handed_count b → command_at place act.input ≡ next.command ∷ [] → Grows (answers_in place (act ∷ [])) answers answers2
    → PortFollows place (act ∷ []) answers answers2 a b
port_gave place act answers answers2 next a b same came none out count waited command grows = record {
  same = same;
  given = next ∷ [];
  asked = λ before e. came before e ∙ (sym (append-nil (before ++ next ∷ [])) ∙ ap (λ w. (before ++ next ∷ []) ++ w) (sym none));
  commands = sym command ∙ sym (append-nil (command_at place act.input));
  later = λ over.
      subst (AreLater (next ∷ [])) (sym (ap (λ (commands : List Command). map (λ (c : Command). length answers) commands ++ []) command))
      (let within = over.within in omega (arith, waited, count, within), tt);
  handed = λ over. handed_still (answers_in place (act ∷ [])) answers answers2 b grows (handed_alike answers a b out count over);
}

-- one was given, and kept
pub port_kept : (place : ℕ) (answers answers2 : List Answer) (next : Asked) (a m b : Port) → SamePort a m → SamePort m b
    → ((before : List Asked) → asked a ≡ before ++ asked_kept a → asked m ≡ before ++ next ∷ []) → asked b ≡ asked m → asked_kept b ≡ next ∷ []
    → handed m ≡ handed a → handed_count m ≡ handed_count a → handed b ≡ handed m → handed_count b ≡ handed_count m → Grows 0 answers answers2
    → PortFollows place [] answers answers2 a b
port_kept place answers answers2 next a m b same same2 came still kept out count out2 count2 grows = record {
  same = same_port_on a m b same same2;
  given = [];
  asked = λ before e. still ∙ (came before e ∙ (ap (λ w. w ++ next ∷ []) (sym (append-nil before)) ∙ ap (λ w. (before ++ []) ++ w) (sym kept)));
  commands = refl;
  later = λ over. tt;
  handed = λ over. handed_still 0 answers answers2 b grows (handed_alike answers a b (out2 ∙ out) (count2 ∙ count) over);
}

-- answers were handed over
pub port_handed : (place : ℕ) (answers : List Answer) (a b : Port) → Hands answers a b → PortFollows place [] answers answers a b
port_handed place answers a b hands = record {
  same = hands.same;
  given = [];
  asked = λ before e. hands.keeps.asked ∙ (e ∙ (ap (λ w. w ++ asked_kept a) (sym (append-nil before)) ∙ ap (λ w. (before ++ []) ++ w) (sym hands.keeps.kept)));
  commands = refl;
  later = λ over. tt;
  handed = hands.handed;
}

pub keeps_itself : (a : Port) → KeepsSame a a
keeps_itself a = record { asked = refl; kept = refl; left = refl }

pub keeps_on : (a b c : Port) → KeepsSame a b → KeepsSame b c → KeepsSame a c
keeps_on a b c h k = record { asked = k.asked ∙ h.asked; kept = k.kept ∙ h.kept; left = k.left ∙ h.left }

pub hands_none : (answers : List Answer) (a : Port) → Hands answers a a
hands_none answers a = record { same = same_port a; keeps = keeps_itself a; handed = λ over. over }

pub hands_on : (answers : List Answer) (a b c : Port) → Hands answers a b → Hands answers b c → Hands answers a c
hands_on answers a b c h k = record {
  same = same_port_on a b c h.same k.same;
  keeps = keeps_on a b c h.keeps k.keeps;
  handed = λ over. k.handed (h.handed over);
}

-- one answer more was handed over
pub hands_one : (answers : List Answer) (a b : Port) (answer : Answer) → SamePort a b → KeepsSame a b
    → handed b ≡ handed a ++ answer ∷ [] → handed_count b ≡ handed_count a + 1 → slice_get answers (handed_count a) ≡ Some answer → Hands answers a b
hands_one answers a b answer same keeps out count there =
    let place = get_at answers (handed_count a) answer there in record {
      same = same;
      keeps = keeps;
      handed = λ over. record {
        first = out ∙ (ap (λ w. w ++ answer ∷ []) over.first ∙ (ap (λ x. take (handed_count a) answers ++ x ∷ []) (sym place.1)
            ∙ (sym (take_more answers (handed_count a) answer place.0) ∙ ap (λ n. take n answers) (sym count))));
        within = omega (arith, count, place.0);
      };
    }

-- none was
pub hands_same : (answers : List Answer) (a b : Port) → SamePort a b → KeepsSame a b → handed b ≡ handed a → handed_count b ≡ handed_count a → Hands answers a b
hands_same answers a b same keeps out count = record { same = same; keeps = keeps; handed = handed_alike answers a b out count }
