-- The words that the program knows, and what they ask for.
use Rattle.std.specs.Prelude.{◌≡◌, ◌==◌, ◌<◌, ◌⊎◌, ℕ, ◌-◌, ◌^◌, List, ◌∷◌, [], Bool, true}
use Rattle.std.specs.Prelude.{false, Option, Some, None, codes, map, unwrap_or, option_map}
use Rattle.std.specs.Borrow.{Bor}
use Rattle.std.specs.List.{slice_split}
use Rattle.std.specs.Option.{option_map_or}
use Rattle.std.specs.Str.{bytes_eq}
use Rattle.std.specs.Str.Parse.{IsNumeral, digits_value, without_leading_plus}
use Rattle.clap.specs.declared.builder.action.ArgAction.TheVariants.{Append, SetTrue}
use Rattle.clap.specs.declared.builder.value_parser.ValueParser.TheVariants.{Unsigned}
use Rattle.clap.specs.Words.{App, Row, Rule, Text, all_of, first_of, one_of, new_app, new_rule, with_rule, with_subcommand}
use Rattle.clap.specs.Simple.{on_top}
use Rattle.pg_talk.specs.declared.conversation.Conversation.{Conversation}
use Rattle.pg_program.specs.declared.words.Aids.{Aids}
use Rattle.pg_program.specs.declared.words.Offer.{Offer}
use Rattle.pg_program.specs.declared.words.Quest.{Quest}
use Rattle.pg_program.specs.declared.words.Seat.{Seat}
use Rattle.pg_program.specs.declared.words.Talk.{Talk}
use Rattle.pg_program.specs.declared.words.Task.{Task}
use Rattle.pg_program.specs.declared.words.Task.TheVariants.{Bytes, Explore, Node, Script, Serve, Threads}

-- `--ID NAME`, where this name stands for one that is not given
abbrev pub name_rule : Text → Text → Rule
name_rule id default = record (new_rule id) { long = Some id; value_names = 1; defaults = default ∷ [] }

-- `bytes [--node NAME] [--peer NAME]`
abbrev pub bytes_line : App
bytes_line = with_rule (with_rule (new_app (codes "bytes")) (name_rule (codes "node") (codes "b"))) (name_rule (codes "peer") (codes "a"))

-- `--ID`
abbrev pub flag_rule : Text → Rule
flag_rule id = record (new_rule id) { long = Some id; action = Some SetTrue }

-- `--ID FILE`
abbrev pub file_rule : Text → Rule
file_rule id = record (new_rule id) { long = Some id; value_names = 1 }

-- `script [--trace] [--diagram FILE]`
abbrev pub script_line : App
script_line = with_rule (with_rule (new_app (codes "script")) (flag_rule (codes "trace"))) (file_rule (codes "diagram"))

-- `--ID N`, a number within bounds, where this one stands for one that is not given
abbrev pub number_rule : Text → Text → ℕ → ℕ → Rule
number_rule id default least most = record (new_rule id) { long = Some id; value_names = 1; defaults = default ∷ []; parser = Some (Unsigned least most) }

-- `threads [--nodes N] [--clients N] [--rounds N]`
abbrev pub cluster_line : App
cluster_line = with_rule (with_rule (with_rule (new_app (codes "threads")) (number_rule (codes "nodes") (codes "3") 1 16))
    (number_rule (codes "clients") (codes "2") 1 16)) (number_rule (codes "rounds") (codes "50") 0 1000)

-- and `[--seed N] [--turns N] [--json]`
abbrev pub threads_line : App
threads_line = with_rule (with_rule (with_rule cluster_line (number_rule (codes "seed") (codes "1") 0 (2 ^ 64 - 1)))
    (number_rule (codes "turns") (codes "100000000") 0 (2 ^ 64 - 1))) (flag_rule (codes "json"))

-- `--name NAME`, any number of times
abbrev pub names_rule : Rule
names_rule = record (new_rule (codes "name")) { long = Some (codes "name"); value_names = 1; action = Some Append }

-- `serve [--nodes N] [--ports N] [--name NAME].. [--members FILE]`
abbrev pub served_line : App
served_line = with_rule (with_rule (with_rule (with_rule (new_app (codes "serve")) (number_rule (codes "nodes") (codes "3") 1 16))
    (number_rule (codes "ports") (codes "2") 1 64)) names_rule) (file_rule (codes "members"))

-- and `[--commands N] [--seed N]`
abbrev pub serve_line : App
serve_line = with_rule (with_rule served_line (number_rule (codes "commands") (codes "1000000") 0 (2 ^ 64 - 1)))
    (number_rule (codes "seed") (codes "1") 0 (2 ^ 64 - 1))

-- `explore [--retries N] [--limit N] [--show N]`
abbrev pub explored_line : App
explored_line = with_rule (with_rule (with_rule (new_app (codes "explore")) (number_rule (codes "retries") (codes "1") 0 1000))
    (number_rule (codes "limit") (codes "1000000") 1 (2 ^ 64 - 1))) (number_rule (codes "show") (codes "0") 0 (2 ^ 64 - 1))

-- and `[--differing] [--graph FILE]`
abbrev pub explore_line : App
explore_line = with_rule (with_rule explored_line (flag_rule (codes "differing"))) (file_rule (codes "graph"))

-- `--own NAME`, which has to be given
abbrev pub own_rule : Rule
own_rule = record (new_rule (codes "own")) { long = Some (codes "own"); value_names = 1; required = true }

-- `--ID TEXT`
abbrev pub text_rule : Text → Rule
text_rule id = record (new_rule id) { long = Some id; value_names = 1 }

-- `node --own NAME [--peers NAME,NAME,..] [--ports N]`
abbrev pub seat_line : App
seat_line = with_rule (with_rule (with_rule (new_app (codes "node")) own_rule) (text_rule (codes "peers"))) (number_rule (codes "ports") (codes "1") 0 65535)

-- and `[--made N] [--log FILE] [--label TEXT] [--mirror]`
abbrev pub node_line : App
node_line = with_rule (with_rule (with_rule (with_rule seat_line (number_rule (codes "made") (codes "0") 0 4294967295)) (file_rule (codes "log"))) (text_rule (codes "label"))) (flag_rule (codes "mirror"))

-- the program, without its commands
abbrev pub top_line : App
top_line = on_top (λ top. record top { has_version = true; no_binary_name = true; subcommand_required = true; disable_help_subcommand = true }) (new_app (codes "pg2sim"))

-- with one of the first five
abbrev pub five_line : App
five_line = with_subcommand (with_subcommand (with_subcommand (with_subcommand (with_subcommand top_line bytes_line.top) script_line.top) threads_line.top) serve_line.top) explore_line.top

-- or with `node`
abbrev pub command_line : App
command_line = with_subcommand five_line node_line.top

-- the name that was given, or this one
abbrev pub given_name : Text → Text → List Row → Text
given_name id default rows = unwrap_or (first_of id rows) default

-- the command is `bytes`, with these names
abbrev pub AsksBytes : Option (Text × List Row) → Text → Text → Type 0
AsksBytes (Some p) own peer = (p.0 ≡ codes "bytes") × (own ≡ given_name (codes "node") (codes "b") p.1) × (peer ≡ given_name (codes "peer") (codes "a") p.1)
AsksBytes None own peer = ⊥

-- the command is another
abbrev pub IsOther : Option (Text × List Row) → Type 0
IsOther (Some p) = p.0 ≡ codes "bytes" → ⊥
IsOther None = Unit {0}

-- the flag was given
abbrev pub is_flag : Text → List Row → Bool
is_flag id rows = option_map_or (λ word. bytes_eq word (codes "true")) (first_of id rows) false

-- a trace where its flag was given, and a diagram in the file that was given
pub record AsksAids (rows : List Row) (aids : Aids) : Type 0 where
  pub traced : aids.is_traced ≡ is_flag (codes "trace") rows
  pub diagram : option_map (λ s. s.now) aids.diagram ≡ first_of (codes "diagram") rows

-- another than `threads`, `serve`, `explore` and `node`, with these aids
abbrev pub IsScript : Option (Text × List Row) → Aids → Type 0
IsScript (Some p) aids = (p.0 ≡ codes "threads" → ⊥) × (p.0 ≡ codes "serve" → ⊥) × (p.0 ≡ codes "explore" → ⊥) × (p.0 ≡ codes "node" → ⊥) × AsksAids p.1 aids
IsScript None aids = Unit {0}

-- a text is a number of so many bits, in decimal, and a plus may stand before it
abbrev pub IsNumber : ℕ → Text → Type 0
IsNumber bits text = IsNumeral 10 (without_leading_plus text) × (digits_value 10 (without_leading_plus text) < 2 ^ bits)

-- the number that a word gives, or this one where there is no word, or it is no such number
abbrev pub GivesNumber : ℕ → ℕ → Option Text → ℕ → Type 0
GivesNumber bits default None number = number ≡ default
GivesNumber bits default (Some text) number =
    (IsNumber bits text × (number ≡ digits_value 10 (without_leading_plus text))) ⊎ ((IsNumber bits text → ⊥) × (number ≡ default))

-- each number of a conversation is that of its option
pub record AsksTalk (rows : List Row) (asked : Conversation) : Type 0 where
  pub nodes : GivesNumber 16 3 (one_of (codes "nodes") rows) asked.nodes
  pub clients : GivesNumber 16 2 (one_of (codes "clients") rows) asked.clients
  pub rounds : GivesNumber 32 50 (one_of (codes "rounds") rows) asked.rounds
  pub seed : GivesNumber 64 1 (one_of (codes "seed") rows) asked.seed
  pub turns : GivesNumber 64 100000000 (one_of (codes "turns") rows) asked.turns
  pub margin : asked.margin ≡ 1048576

-- `threads`, with these numbers, told as one line where its flag was given
abbrev pub IsThreads : Option (Text × List Row) → Talk → Type 0
IsThreads (Some p) talk = (p.0 ≡ codes "threads") × AsksTalk p.1 talk.asked × (talk.is_json ≡ is_flag (codes "json") p.1)
IsThreads None talk = ⊥

-- all that were given of an option, in their order
abbrev pub given_all : Text → List Row → List Text
given_all id rows = unwrap_or (all_of id rows) []

-- what texts say
abbrev pub texts_of : List (Bor (List ℕ)) → List Text
texts_of texts = map (λ (text : Bor (List ℕ)). text.now) texts

-- the numbers, the names and the file of a service are those of its options
pub record AsksOffer (rows : List Row) (offer : Offer) : Type 0 where
  pub nodes : GivesNumber 16 3 (one_of (codes "nodes") rows) offer.nodes
  pub ports : GivesNumber 16 2 (one_of (codes "ports") rows) offer.ports
  pub names : texts_of offer.names.items ≡ given_all (codes "name") rows
  pub members : option_map (λ s. s.now) offer.members ≡ first_of (codes "members") rows
  pub requests : GivesNumber 64 1000000 (one_of (codes "commands") rows) offer.requests
  pub seed : GivesNumber 64 1 (one_of (codes "seed") rows) offer.seed

-- `serve`, with this offer
abbrev pub IsServe : Option (Text × List Row) → Offer → Type 0
IsServe (Some p) offer = (p.0 ≡ codes "serve") × AsksOffer p.1 offer
IsServe None offer = ⊥

-- what is asked of an exploration is what its options say
pub record AsksQuest (rows : List Row) (quest : Quest) : Type 0 where
  pub retries : GivesNumber 32 1 (one_of (codes "retries") rows) quest.retries
  pub limit : GivesNumber 64 1000000 (one_of (codes "limit") rows) quest.limit
  pub show : GivesNumber 64 0 (one_of (codes "show") rows) quest.show
  pub differing : quest.is_differing ≡ is_flag (codes "differing") rows
  pub graph : option_map (λ s. s.now) quest.graph ≡ first_of (codes "graph") rows

-- `explore`, with this quest
abbrev pub IsExplore : Option (Text × List Row) → Quest → Type 0
IsExplore (Some p) quest = (p.0 ≡ codes "explore") × AsksQuest p.1 quest
IsExplore None quest = ⊥

-- the names between the commas of a text, of which one is a byte 44; none of an empty one
abbrev pub names_in : Text → List Text
names_in [] = []
names_in (byte ∷ bytes) = slice_split (λ b. b == 44) (byte ∷ bytes)

-- the names, the numbers, the file, the label and the flag of a seat are those of its options
pub record AsksSeat (rows : List Row) (seat : Seat) : Type 0 where
  pub own : seat.own.now ≡ given_name (codes "own") (codes "") rows
  pub peers : texts_of seat.peers.items ≡ names_in (given_name (codes "peers") (codes "") rows)
  pub ports : GivesNumber 16 1 (one_of (codes "ports") rows) seat.ports
  pub made : GivesNumber 32 0 (one_of (codes "made") rows) seat.made
  pub log : option_map (λ s. s.now) seat.log ≡ first_of (codes "log") rows
  pub label : seat.label.now ≡ given_name (codes "label") (codes "") rows
  pub mirrored : seat.is_mirrored ≡ is_flag (codes "mirror") rows

-- `node`, with this seat
abbrev pub IsNode : Option (Text × List Row) → Seat → Type 0
IsNode (Some p) seat = (p.0 ≡ codes "node") × AsksSeat p.1 seat
IsNode None seat = ⊥

-- the command is `node`
abbrev pub IsNodeWord : Option (Text × List Row) → Type 0
IsNodeWord (Some p) = p.0 ≡ codes "node"
IsNodeWord None = ⊥

-- the command is `explore`
abbrev pub IsExploreWord : Option (Text × List Row) → Type 0
IsExploreWord (Some p) = p.0 ≡ codes "explore"
IsExploreWord None = ⊥

-- the command is `serve`
abbrev pub IsServeWord : Option (Text × List Row) → Type 0
IsServeWord (Some p) = p.0 ≡ codes "serve"
IsServeWord None = ⊥

-- the command is `script`
abbrev pub IsScriptWord : Option (Text × List Row) → Type 0
IsScriptWord (Some p) = p.0 ≡ codes "script"
IsScriptWord None = ⊥

-- what a command and its matches ask for
abbrev pub AsksFor : Option (Text × List Row) → Task → Type 0
AsksFor matches (Bytes own peer) = AsksBytes matches own.now peer.now
AsksFor matches (Script aids) = IsOther matches × IsScript matches aids
AsksFor matches (Threads talk) = IsOther matches × IsThreads matches talk
AsksFor matches (Serve offer) = IsOther matches × IsServe matches offer
AsksFor matches (Explore quest) = IsOther matches × IsExplore matches quest
AsksFor matches (Node seat) = IsOther matches × IsNode matches seat
