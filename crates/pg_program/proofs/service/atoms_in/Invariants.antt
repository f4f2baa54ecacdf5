use Rattle.std.proofs.Common.{◌≡◌, map, take, drop}
use Rattle.std.specs.Prelude.{chars}
use Rattle.std.specs.List.{list_any}
use Rattle.pg_program.specs.Services.{is_too_long}
use Rattle.pg_program.proofs.service.atoms_in.Given as goal

-- the names so far are those of their texts, and what is left has a name that is too long where all have
abbrev pub invariant-loop-name : goal.invariant-loop-name
invariant-loop-name l = record {
  spelled : l.atoms.items ≡ map (λ name. chars name.now) (take l.name-index l.names);
  left : list_any (λ name. is_too_long name.now) (drop l.name-index l.names) ≡ list_any (λ name. is_too_long name.now) l.names;
}
