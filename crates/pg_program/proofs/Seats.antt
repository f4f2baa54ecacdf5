-- What a seat says, and what it gives.
use Rattle.std.proofs.Common.{◌≡◌, ℕ, Bool, true, false, ◌||◌, List, [], ◌∷◌, length, map}
use Rattle.std.proofs.Common.{Result, Ok, Err, refl, ap, ◌∙◌, subst, sym}
use Rattle.std.specs.Prelude.{IfOk, chars, ◌==◌}
use Rattle.std.specs.Borrow.{Bor}
use Rattle.std.specs.List.{list_any, slice_split}
use Rattle.pg_node_process.specs.Configs.{is_config}
use Rattle.pg_node_process.specs.declared.config.ProcessConfig.{ProcessConfig}
use Rattle.pg_program.specs.CommandLine.{names_in, texts_of}
use Rattle.pg_program.specs.Nodes.{IsChecked, SeatSays}
use Rattle.pg_program.specs.Services.{CantSpell, is_too_long}
use Rattle.pg_program.specs.declared.fault.Fault.{Fault}
use Rattle.pg_program.specs.declared.fault.Fault.TheVariants.{Run, Given, Line}
use Rattle.pg_program.specs.declared.words.Seat.{Seat}
use Rattle.pg_program.proofs.Offers.{long, told}

-- ---- names that are too long

or_true : (a b : Bool) → b ≡ true → (a || b) ≡ true
or_true true b e = refl
or_true false b e = e

true_or : (a b : Bool) → a ≡ true → (a || b) ≡ true
true_or true b e = refl
true_or false b e = absurd (cc)

first_unspelled : (a b : Bool) (fault : Fault) → CantSpell a fault → CantSpell (a || b) fault
first_unspelled a b (Run number) h = h
first_unspelled a b (Given number) h = (h.0, true_or a b h.1)
first_unspelled a b (Line line number) h = h

others_unspelled : (a b : Bool) (fault : Fault) → CantSpell b fault → CantSpell (a || b) fault
others_unspelled a b (Run number) h = h
others_unspelled a b (Given number) h = (h.0, or_true a b h.1)
others_unspelled a b (Line line number) h = h

both_false : (a b : Bool) → a ≡ false → b ≡ false → (a || b) ≡ false
both_false true b e f = absurd (cc)
both_false false b e f = f

-- ---- what a seat says

-- its own name can't be spelled
pub unsaid_own : (seat : Seat) (fault : Fault) → CantSpell (is_too_long seat.own.now) fault → SeatSays seat (Err fault)
unsaid_own seat fault h = first_unspelled (is_too_long seat.own.now) (list_any is_too_long (texts_of seat.peers.items)) fault h

-- a name of a peer can't be
pub unsaid_peers : (seat : Seat) (fault : Fault) → CantSpell (list_any (λ (name : Bor (List ℕ)). is_too_long name.now) seat.peers.items) fault → SeatSays seat (Err fault)
unsaid_peers seat fault h = others_unspelled (is_too_long seat.own.now) (list_any is_too_long (texts_of seat.peers.items)) fault
    (subst (λ (b : Bool). CantSpell b fault) (long seat.peers.items) h)

-- all can be
pub is_said : (seat : Seat) (config : ProcessConfig) → config.own ≡ chars seat.own.now → is_too_long seat.own.now ≡ false
    → config.peers.items ≡ map (λ (name : Bor (List ℕ)). chars name.now) seat.peers.items → list_any (λ (name : Bor (List ℕ)). is_too_long name.now) seat.peers.items ≡ false
    → config.ports ≡ seat.ports → config.made ≡ seat.made → config.label.items ≡ seat.label.now → config.mirrored ≡ seat.is_mirrored → SeatSays seat (Ok config)
is_said seat config own short peers others ports made label mirrored = (
  record { own = own; peers = peers ∙ told seat.peers.items; ports = ports; made = made; label = label; mirrored = mirrored },
  both_false (is_too_long seat.own.now) (list_any is_too_long (texts_of seat.peers.items)) short (sym (long seat.peers.items) ∙ others),
)

-- ---- what it gives

pub checked_valid : (config : ProcessConfig) (end : Result ProcessConfig Fault) → IsChecked config end → IfOk end (λ checked. is_config checked ≡ true)
checked_valid config (Ok checked) h = ap is_config h.0 ∙ h.1
checked_valid config (Err fault) h = tt

-- ---- the names in a text

pub names_between : (text : List ℕ) → false ≡ (length text == 0) → names_in text ≡ slice_split (λ b. b == 44) text
names_between [] none = absurd (cc)
names_between (byte ∷ bytes) some = refl
