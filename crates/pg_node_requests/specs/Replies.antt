-- The replies of a service, as terms.
use Rattle.std.specs.Prelude.{ℕ, ◌-◌, ◌^◌, pos, min, List, [], ◌∷◌, codes, map}
use Rattle.std.specs.Str.{chars}
use Rattle.pg_term.specs.declared.term.Term.{Term, Tuple, List as Listed}
use Rattle.pg_term.specs.declared.term.Term.TheVariants.{Int, Atom, Pid as Process}
use Rattle.pg_step.specs.declared.answer.Reply.{Reply}
use Rattle.pg_step.specs.declared.answer.Reply.TheVariants as replies

abbrev pub pair : Term → Term → Term
pair first second = Tuple (first ∷ second ∷ [])

-- {error, {Word, What}}
abbrev pub error_term : List ℕ → Term → Term
error_term word what = pair (Atom (chars (codes "error"))) (pair (Atom word) what)

-- {refused, N}
abbrev pub refused_term : ℕ → Term
refused_term number = pair (Atom (chars (codes "refused"))) (Int (pos number))

-- {error, {unknown, N}}
abbrev pub unknown_term : ℕ → Term
unknown_term number = error_term (chars (codes "unknown")) (Int (pos number))

-- ok; a pid; a list; {error, {no_such_group, Name}}, {error, {no_process, Name}}; {refused, N}
abbrev pub reply_term : Reply → Term
reply_term replies.Ok = Atom (chars (codes "ok"))
reply_term (replies.Made pid) = Process pid
reply_term (replies.Pids pids) = Listed (map Process pids)
reply_term (replies.Closest pid) = Process pid
reply_term (replies.Groups names) = Listed names
reply_term (replies.NoSuchGroup name) = error_term (chars (codes "no_such_group")) name
reply_term (replies.NoProcess name) = error_term (chars (codes "no_process")) name
reply_term (replies.Refused number) = refused_term number

-- a count as a term has it
abbrev pub count_reply : ℕ → Term
count_reply number = Int (pos (min number (2 ^ 63 - 1)))

-- {Node, Port, Number, Reply}
abbrev pub numbered_term : List ℕ → ℕ → ℕ → Term → Term
numbered_term node port number reply = Tuple (Atom node ∷ Int (pos port) ∷ count_reply number ∷ reply ∷ [])

-- {error, {node_lost, Node}}
abbrev pub node_lost_term : List ℕ → Term
node_lost_term node = error_term (chars (codes "node_lost")) (Atom node)

-- {lost, Node}
abbrev pub lost_term : List ℕ → Term
lost_term node = pair (Atom (chars (codes "lost"))) (Atom node)

-- {error, {bad_request, N}}
abbrev pub bad_request_term : ℕ → Term
bad_request_term number = error_term (chars (codes "bad_request")) (count_reply number)

-- {old_clock, Clock}
abbrev pub old_clock_term : ℕ → Term
old_clock_term clock = pair (Atom (chars (codes "old_clock"))) (count_reply clock)

-- {many_ended, Count}
abbrev pub many_ended_term : ℕ → Term
many_ended_term count = pair (Atom (chars (codes "many_ended"))) (count_reply count)

-- {has_ended, {Node, Port, Number}}
abbrev pub has_ended_term : List ℕ → (port number : ℕ) → Term
has_ended_term node port number = pair (Atom (chars (codes "has_ended"))) (Tuple (Atom node ∷ Int (pos port) ∷ count_reply number ∷ []))
