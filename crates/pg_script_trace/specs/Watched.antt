-- What a watch has seen.
use Rattle.std.specs.Prelude.{◌≡◌, ℕ, List, ◌∷◌, ◌++◌, [], length, map, String, string_bytes}
use Rattle.std.specs.List.{range_with_len}
use Rattle.std.specs.declared.alloc.Global.{Global}
use Rattle.std.specs.Str.{encode_utf8_all}
use Rattle.pg_world.specs.PgStep.declared.answer.Answer.{Answer}
use Rattle.pg_world.specs.PgStep.declared.start.Start.{Start}
use Rattle.pg_text.specs.Writing.{atom_text}
use Rattle.pg_script_lines.specs.Printing.{reply_text}
use Rattle.pg_script_trace.specs.declared.seen.Seen.TheVariants.{Answered, Sent}
use Rattle.pg_script_trace.specs.declared.seen.Sight.{Sight}
use Rattle.pg_script_trace.specs.declared.watch.Watch.{Watch}

-- it saw that a node answered a command, with the text of the reply, on the line of now
pub record SawAnswer (node : ℕ) (answer : Answer) (old new : Watch) : Type 0 where
  pub text : String Global
  pub seen : new.sights.items ≡ old.sights.items ++ record { line = old.line; seen = Answered node answer.number text } ∷ []
  pub is : string_bytes text ≡ encode_utf8_all (reply_text answer.reply)

-- the names of nodes, as texts
abbrev pub names_of : List Start → List (List ℕ)
names_of = map (λ start. encode_utf8_all (atom_text start.name))

-- that a packet was sent, on a line
abbrev pub sent_on : ℕ → ℕ → Sight
sent_on line packet = record { line = line; seen = Sent packet }

-- It knows the nodes by their names, and has seen that each packet that it knows was sent, in their order, before the first line.
pub record BeginsWatch (starts : List Start) (watch : Watch) : Type 0 where
  pub names : map string_bytes watch.names.items ≡ names_of starts
  pub line : watch.line ≡ 0
  pub sights : watch.sights.items ≡ map (sent_on 0) (range_with_len 0 (length watch.letters.items))
