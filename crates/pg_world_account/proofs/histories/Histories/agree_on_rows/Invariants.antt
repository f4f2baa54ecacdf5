use Rattle.std.specs.BTreeMap.{keys}
use Rattle.pg_world_account.specs.Agreeing.{HaveSameUpdates}
use Rattle.pg_world_account.specs.Histories.{account_of}
use Rattle.pg_world_account.proofs.NamedGroups.{AreLeft}
use Rattle.pg_world_account.proofs.histories.Histories.agree_on_rows.Given as goal

-- both agree on all groups where they agree on those that are left
abbrev pub invariant-loop-name : goal.invariant-loop-name
invariant-loop-name l = AreLeft (HaveSameUpdates l.nodes (account_of l.self) (account_of l.other)) (keys l.self.rows) l.name-iterator
