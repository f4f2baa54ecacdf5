-- Terms in frames.
use Rattle.std.specs.Prelude.{◌⊎◌, ℕ, ◌<◌, List, Option, if◌then◌else◌, length, nat_lt}
use Rattle.std.specs.Io.KnownBytes.{Appends}
use Rattle.pg_cluster.specs.PgFrame.Frames.{frame}
use Rattle.pg_cluster.specs.PgFrame.Limits.{max_body}
use Rattle.pg_term.specs.Depth.{depth}
use Rattle.pg_term.specs.declared.term.Term.{Term}
use Rattle.pg_cluster.specs.PgTermIo.Limits.{max_depth}
use Rattle.pg_cluster.specs.PgTermIo.Writing.{written, IsWritable}
use Rattle.pg_node_requests.specs.Replies.{numbered_term, refused_term}

-- the frame whose body a term is written as
abbrev pub framed : Term → List ℕ
framed term = frame (written term)

-- no frame holds the term
abbrev pub IsUntellable : Term → Type 0
IsUntellable term = IsWritable term → max_body < length (written term)

-- the number of the fault by which no frame holds a term: it nests too deep, or else it is too long
abbrev pub untellable_number : Term → ℕ
untellable_number term = if nat_lt max_depth (depth term) then 4 else 11

-- The reply to the request of a number at a port was written; or that no frame holds it, by the number of that fault.
abbrev pub WritesReply : Option (List ℕ) → Option (List ℕ) → List ℕ → ℕ → ℕ → Term → Type 0
WritesReply before after node port number reply =
    Appends before after (framed (numbered_term node port number reply))
    ⊎ (IsUntellable (numbered_term node port number reply)
    × Appends before after (framed (numbered_term node port number (refused_term (untellable_number (numbered_term node port number reply))))))
