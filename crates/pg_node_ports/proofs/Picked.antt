-- What is replied where a group has nobody.
use Rattle.std.proofs.Common.{ℕ, List, [], Some, None, refl}
use Rattle.std.specs.Prelude.{IsSome}
use Rattle.pg_term.specs.declared.term.Term.{Term}
use Rattle.pg_node_opens.specs.PgGroup.Value.{Value}
use Rattle.pg_node_opens.specs.PgGroup.Members.{IsMemberList}
use Rattle.pg_node_opens.specs.PgGroup.Scope.{anywhere}
use Rattle.pg_node_opens.specs.PgStep.declared.answer.Reply.TheVariants as reply
use Rattle.pg_node_opens.specs.PgStep.Commands.{PicksMember}

pub picks_none : (v : Value) (own : List ℕ) (word : ℕ) (name : Term) → IsSome v → IsMemberList v anywhere [] → PicksMember v own word name (reply.NoProcess name)
picks_none None own word name there nobody = absurd cc
picks_none (Some counts) own word name there nobody = (nobody, refl)
