-- How far the one change that is under way has come at a peer of its node, and how many packets about it are still taken there.
use Rattle.std.proofs.Common.{◌≡◌, ℕ, Bool, true, false, List, [], ◌∷◌, ◌++◌}
use Rattle.std.proofs.Common.{refl, ap, sym, ◌∙◌, append-nil, append_assoc}
use Rattle.pg_step.specs.PgRefs.Numbered.{numbered}
use Rattle.pg_step.specs.PgGroup.declared.update.Update.{Update}
use Rattle.pg_step.specs.PgGroup.Value.{name_of}
use Rattle.pg_step.specs.PgMessageTypes.declared.message.Message.{Message}
use Rattle.pg_step.specs.PgMessageTypes.declared.message.Message.TheVariants.{Call, Reply, DelLock}
use Rattle.pg_step.specs.PgMessageTypes.declared.message.Request.TheVariants.{SetLock, Change}
use Rattle.pg_step.specs.PgMessageTypes.declared.message.Said.TheVariants.{Granted, Applied}
use Rattle.pg_step.specs.Nodes.{Node}

pub data Phase : Type 0 where
  -- the peer is not asked yet for the lock
  Ahead : Phase
  -- the lock is asked for, granted on the way back, held
  Wanted : Phase
  Given : Phase
  Owned : Phase
  -- the update is on its way under the reference of this number, its ok on the way back, counted
  Told : ℕ → Phase
  Confirmed : ℕ → Phase
  Done : Phase
  -- the lock is being freed, is free again
  Freed : Phase
  Over : Phase

-- how many packets are to be taken
abbrev pub count : Phase → ℕ
count Ahead = 5
count Wanted = 5
count Given = 4
count Owned = 3
count (Told n) = 3
count (Confirmed n) = 2
count Done = 1
count Freed = 1
count Over = 0

-- the peer sees the lock free as yet
abbrev pub needs_free : Phase → Bool
needs_free Ahead = true
needs_free Wanted = true
needs_free phase = false

-- of a node, the lock that it takes under the reference of this number, and its update
module _ (own : Node) (c : ℕ) (u : Update) where
  -- what is on the way to the peer, and back
  abbrev pub outs : Phase → List Message
  outs Wanted = Call (numbered own c) (SetLock (name_of u)) ∷ []
  outs (Told n) = Call (numbered own n) (Change u) ∷ []
  outs Freed = DelLock (name_of u) (numbered own c) ∷ []
  outs phase = []

  abbrev pub backs : Phase → List Message
  backs Given = Reply (numbered own c) Granted ∷ []
  backs (Confirmed n) = Reply (numbered own n) Applied ∷ []
  backs phase = []

  -- the node sends this to the peer, and no packet is taken
  pub record Moves (phase : Phase) (sent : List Message) (later : Phase) : Type 0 where
    pub out : outs phase ++ sent ≡ outs later
    pub back : backs phase ≡ backs later
    pub as_many : count phase ≡ count later
    pub free : needs_free later ≡ true → needs_free phase ≡ true

  pub moves_none : (phase : Phase) → Moves phase [] phase
  moves_none phase = record { out = append-nil (outs phase); back = refl; as_many = refl; free = λ e. e }

  pub moves_then : (phase middle later : Phase) (xs ys : List Message) → Moves phase xs middle → Moves middle ys later → Moves phase (xs ++ ys) later
  moves_then phase middle later xs ys first last = record {
    out = sym (append_assoc (outs phase) xs ys) ∙ ap (λ zs. zs ++ ys) first.out ∙ last.out;
    back = first.back ∙ last.back;
    as_many = first.as_many ∙ last.as_many;
    free = λ e. first.free (last.free e);
  }
