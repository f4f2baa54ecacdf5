-- What becomes of a service on standard input.
use Rattle.std.specs.Prelude.{⊤, ℕ, List, Option, None}
use Rattle.std.specs.declared.io.Stdin.{Stdin}
use Rattle.pg_streams.specs.declared.source.AnyReader.{AnyReader}
use Rattle.pg_talk.specs.Services.{WasServed}
use Rattle.pg_talk.specs.declared.service.Service.{Service}
use Rattle.pg_talk.specs.declared.service.run.Served.{Served}

-- it was served what came in, of which nothing is known, nor of when a read fails
abbrev pub IsServed : Service → Option (List ℕ) → Option (List ℕ) → Served → Type 0
IsServed service before after served = WasServed {S = AnyReader Stdin} (λ source. None) (λ a b. ⊤) service None before after served
