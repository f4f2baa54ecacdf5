-- How groups stood before they were merged, and what leads them back.
use Rattle.std.specs.Prelude.{ℕ, cond, nat_lt, List, [], ◌∷◌, map, Option, Some, None, IsSome}
use Rattle.std.specs.List.{AllByRecursion}
use Rattle.std.specs.Option.{option_map}
use Rattle.std.specs.declared.vec.Vec.{Vec}
use Rattle.std.specs.declared.alloc.Global.{Global}
use Rattle.pg_term.specs.declared.pid.Pid.{Pid}
use Rattle.pg_term.specs.declared.term.Term.{Term}
use Rattle.pg_term.specs.Same.{same_term}
use Rattle.pg_group.specs.Functions.{upd}
use Rattle.pg_group.specs.Value.{Counts, Value, with_one_less}
use Rattle.pg_group.specs.Table.{Table}
use Rattle.pg_exchange.specs.GroupList.{GroupList}

-- each of the groups is there
abbrev pub ArePresent : Table → GroupList → Type 0
ArePresent table groups = AllByRecursion (λ group. IsSome (table group.0)) groups

-- of a group that was there, how often each pid of a list was a member
abbrev pub Before : Type 0
Before = Option (List ℕ)

abbrev pub before_of : Value → List Pid → Before
before_of None pids = None
before_of (Some counts) pids = Some (map counts pids)

-- each pid of a list is taken once where it is counted more often than the number beside it says
abbrev pub lowered : Counts → List Pid → List ℕ → Counts
lowered counts [] least = counts
lowered counts (pid ∷ pids) [] = counts
lowered counts (pid ∷ pids) (least ∷ rest) = lowered (cond (nat_lt least (counts pid)) (with_one_less counts pid) counts) pids rest

-- a group that is led back
abbrev pub put_back : Value → List Pid → Before → Value
put_back v pids None = None
put_back None pids (Some least) = None
put_back (Some counts) pids (Some least) = Some (lowered counts pids least)

-- the table after that
abbrev pub with_back : Table → Term × List Pid → Before → Table
with_back table group before = upd same_term table group.0 (put_back (table group.0) group.1 before)

-- a table whose first groups are led back, the last of them first
abbrev pub undone : Table → GroupList → List Before → Table
undone table groups [] = table
undone table [] (before ∷ rest) = table
undone table (group ∷ groups) (before ∷ rest) = with_back (undone table groups rest) group before

abbrev pub noted : Option (Vec ℕ Global) → Before
noted before = option_map (λ counts. counts.items) before
