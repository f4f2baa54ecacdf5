-- How a process reads what its host says and passes on what that leads to, from its beginning to its end.
use Rattle.std.specs.Prelude.{◌≡◌, ◌≢◌, ◌≤◌, ◌⊎◌, ◌-◌, ◌^◌, ℕ, Bool, true, false, nat_eq, length, List, [], ◌∷◌, ◌++◌, Option, Some, None, Result, Ok, Err, ⊤}
use Rattle.std.specs.Io.KnownBytes.{Appends, Consumes, IsAtEnd}
use Rattle.std.specs.List.{AllByRecursion, flat_map}
use Rattle.pg_step.specs.PgExchange.GroupList.{GroupList}
use Rattle.pg_frame.specs.Frames.{Leaves, front_of, too_long}
use Rattle.pg_node.specs.Replicas.Causes.{GaveChunks, IsFlushed, joined}
use Rattle.pg_node_process.specs.declared.config.ProcessConfig.{ProcessConfig}
use Rattle.pg_node_process.specs.declared.passing.PassFault.TheVariants as pass
use Rattle.pg_node_process.specs.Bodies.{body_of}
use Rattle.pg_node_process.specs.Configs.{is_config}
use Rattle.pg_node_process.specs.Groups.{brought}
use Rattle.pg_node_process.specs.Logs.{Entry, Head, entry_bytes, head_bytes}
use Rattle.pg_node_process.specs.Mirrors.{mirror, no_groups}
use Rattle.pg_node_process.specs.Outputs.{IsFramed, Version, said as bytes_said}
use Rattle.pg_node_process.specs.Passing.{FailedAt, Passes, WritesPart}
use Rattle.pg_node_process.specs.Whom.{Whom}
use Rattle.pg_process.specs.declared.fault.EndFault.{EndFault}
use Rattle.pg_process.specs.declared.fault.EndFault.TheVariants as ends
use Rattle.pg_process.specs.declared.fault.ProcessFault.TheVariants as process
use Rattle.pg_process.specs.Accounts.{Accounts}
use Rattle.pg_process.specs.Beginnings.{CantBegin, StartsAs}
use Rattle.pg_process.specs.declared.process.Process.{Process}
use Rattle.pg_process.specs.Chains.{AllDo, IsCause, IsWork, Makes, Step, logged_in, said_in}
use Rattle.pg_process.specs.Deeds.{Brought, Deed, Read}
use Rattle.pg_process.specs.Hearing.{deeds_of, heeded, is_tick}
use Rattle.pg_process.specs.Parties.{whom_of}
use Rattle.pg_process.specs.Replies.{Replies}
use Rattle.pg_process.specs.Settled.{IsAtRest}
use Rattle.pg_process.specs.Situations.{Setting, Situation, setting_of, situation_of, table_of}
use Rattle.pg_process.specs.Turns.{Attends, HearsInTurn}
use Rattle.pg_process.specs.Waits.{KeepsShortly}

-- ---- bodies, one after another

-- whom the bodies of a node of a set are of
abbrev pub whom_in : Setting → Whom
whom_in set = whom_of set.names set.ports (length set.names - 1)

-- each is logged, what it asks for is done, and then what follows
abbrev pub AreHeard : Whom → List (List ℕ) → List Deed → Type 0
AreHeard whom [] deeds = deeds ≡ []
AreHeard whom (body ∷ bodies) deeds = (work : List Deed) × (later : List Deed) × AllByRecursion IsWork work
    × (deeds ≡ Read body ∷ heeded (body_of whom body) body ++ (work ++ later)) × AreHeard whom bodies later

-- The first body is logged, the groups that it brought are told to a host that mirrors the table, and then what follows is done. Then the others are heard.
pub record AreAllHeard (whom : Whom) (first : List ℕ) (bodies : List (List ℕ)) (deeds : List Deed) : Type 0 where
  pub work : List Deed
  pub later : List Deed
  pub follows : AllByRecursion IsWork work
  pub parts : deeds ≡ Read first ∷ Brought ∷ (work ++ later)
  pub heard : AreHeard whom bodies later

-- from one situation to another: these bodies are heard, but for what is missing of the last
pub record HearsAll (set : Setting) (a : Situation) (first : List ℕ) (bodies : List (List ℕ)) (steps : List Step) (missing : List Deed) (b : Situation) : Type 0 where
  pub heard : AreAllHeard (whom_in set) first bodies (deeds_of steps ++ missing)
  pub does : AllDo set a steps b
  pub framed : AllByRecursion IsFramed (said_in steps)

-- Each of these bodies is heard in its turn, and no port keeps a change over two ticks.
abbrev pub TakeTurns : Setting → List (List ℕ) → Situation → Situation → Type 0
TakeTurns set [] a b = b ≡ a
TakeTurns set (body ∷ bodies) a b = (p : Process) × (q : Process) × (setting_of p ≡ set) × (situation_of p ≡ a) × HearsInTurn body p q
    × KeepsShortly set (is_tick (body_of p.parties body)) a (situation_of q) × TakeTurns set bodies (situation_of q) b

-- The first body is logged, what it brought is told, and what follows is done in its order. Then each other is heard in its turn.
pub record AllTakeTurns (set : Setting) (a : Situation) (first : List ℕ) (bodies : List (List ℕ)) (b : Situation) : Type 0 where
  pub begun : Process
  pub noted : Process
  pub served : Process
  pub setting : setting_of begun ≡ set
  pub start : situation_of begun ≡ a
  pub notes : Makes (Read first) begun noted
  pub mirrored : Process
  pub brings : Makes Brought noted mirrored
  pub attends : Attends false mirrored served
  pub others : TakeTurns set bodies (situation_of served) b

-- a body has groups: its first byte is 20
abbrev pub has_groups : List ℕ → Bool
has_groups [] = false
has_groups (byte ∷ bytes) = nat_eq byte 20

-- a process begins with the groups that the first body brings
pub record StartsBy (config : ProcessConfig) (first : List ℕ) (set : Setting) (a : Situation) : Type 0 where
  pub valid : is_config config ≡ true
  pub bytes : List ℕ
  pub body : first ≡ 20 ∷ bytes
  pub groups : GroupList
  pub brings : brought config.own config.made bytes ≡ Ok groups
  pub starts : StartsAs config groups set a

-- ---- what is passed on

-- what goes out by these steps, and what is logged of them
abbrev pub out_of : List Step → List ℕ
out_of steps = flat_map bytes_said (said_in steps)

abbrev pub log_of : List Step → List ℕ
log_of steps = flat_map entry_bytes (logged_in steps)

-- Where the log fails, nothing of what failed went out; where the output fails, all was logged; else all was passed on.
abbrev pub IsPassedTo : EndFault → (out unwritten unlogged : List ℕ) → Type 0
IsPassedTo (ends.Pass pass.Log) out unwritten unlogged = out ≡ []
IsPassedTo (ends.Pass pass.Output) out unwritten unlogged = unlogged ≡ []
IsPassedTo fault out unwritten unlogged = (unwritten ≡ []) × (unlogged ≡ [])

-- Of what these steps say a first part was written, and a first part of what is logged of them, where there may be more once memory ran out. The steps that were passed
-- on are written and logged, and of those that failed what the fault leaves.
pub record PassesPart (fault : EndFault) (steps : List Step) (more : List Entry) (out0 out1 log0 log1 : Option (List ℕ)) : Type 0 where
  pub passed : List Step
  pub failed : List Step
  pub split : steps ≡ passed ++ failed
  pub out : List ℕ
  pub unwritten : List ℕ
  pub said : out ++ unwritten ≡ out_of failed
  pub wrote : Appends out0 out1 (out_of passed ++ out)
  pub log : List ℕ
  pub unlogged : List ℕ
  pub entered : log ++ unlogged ≡ log_of failed ++ flat_map entry_bytes more
  pub logged : Appends log0 log1 (log_of passed ++ log)
  pub by : IsPassedTo fault out unwritten unlogged

-- the head of the log
abbrev pub head_in : ProcessConfig → List ℕ → Head
head_in config version = record { version = version; own = config.own; peers = config.peers.items; ports = config.ports; made = config.made; label = config.label.items }

-- why a process that began can't go on: its next step is refused as the clock is full, or memory ran out; or a length is too great, behind bodies that were heard
abbrev pub IsHaltedBy : EndFault → Setting → Situation → (unread : List ℕ) → (missing : List Deed) → Type 0
IsHaltedBy (ends.Work fault) set now unread missing = IsCause set now fault
IsHaltedBy ends.TooLong set now unread missing = (front_of unread ≡ Err too_long) × (missing ≡ [])
IsHaltedBy fault set now unread missing = ⊥

-- ---- a source and two sinks

-- reads gave these pieces, each of some bytes; the last of them stands first
pub record HasRead {R : Type 0} (gives : R → List ℕ → R → Type 0) (remaining : R → Option (List ℕ)) (old : R) (pieces : List (List ℕ)) (new : R) : Type 0 where
  pub gave : GaveChunks gives old pieces new
  pub took : Consumes (remaining old) (remaining new) (joined pieces)

module _ {W L : Type 0} (contents : W → Option (List ℕ)) (flushed : W → Type 0) (unwritten : W → W → Type 0)
    (entries : L → Option (List ℕ)) (synced : L → Type 0) (unlogged : L → L → Type 0) where
  -- no body came whole, and nothing was passed on
  pub record IsIdle (input unread : List ℕ) (w0 w : W) (l0 l : L) : Type 0 where
    pub all : unread ≡ input
    pub none : front_of unread ≡ Ok None
    pub alone : (w ≡ w0) × (l ≡ l0)

  -- All bodies that came whole were heard. All that follows was logged and flushed, written and flushed, and what is due is done. A host that mirrors the table has it.
  pub record IsUpToDate (config : ProcessConfig) (input unread : List ℕ) (w0 w : W) (l0 l : L) : Type 0 where
    pub first : List ℕ
    pub bodies : List (List ℕ)
    pub came : Leaves input (first ∷ bodies) unread
    pub none : front_of unread ≡ Ok None
    pub set : Setting
    pub start : Situation
    pub starts : StartsBy config first set start
    pub steps : List Step
    pub now : Situation
    pub hears : HearsAll set start first bodies steps [] now
    pub turns : AllTakeTurns set start first bodies now
    pub accounts : Accounts set start steps now
    pub replies : (port : ℕ) → Replies port steps now
    pub mirror : config.mirrored ≡ true → mirror (said_in steps) no_groups ≡ table_of now
    pub rest : IsAtRest set now
    pub wrote : Appends (contents w0) (contents w) (out_of steps)
    pub logged : Appends (entries l0) (entries l) (log_of steps)
    pub out : IsFlushed flushed w0 w
    pub log : IsFlushed synced l0 l

  abbrev pub IsReady : ProcessConfig → (input unread : List ℕ) → (w0 w : W) → (l0 l : L) → Type 0
  IsReady config input unread w0 w l0 l = IsIdle input unread w0 w l0 l ⊎ IsUpToDate config input unread w0 w l0 l

  -- why a process does not begin by what came
  abbrev pub IsUnbegun : ProcessConfig → List ℕ → EndFault → Type 0
  IsUnbegun config input (ends.Begin fault) = (bytes : List ℕ) × (front_of input ≡ Ok (Some (20 ∷ bytes))) × CantBegin config bytes fault
  IsUnbegun config input ends.NoGroups = (body : List ℕ) × (front_of input ≡ Ok (Some body)) × (has_groups body ≡ false)
  IsUnbegun config input ends.TooLong = front_of input ≡ Err too_long
  IsUnbegun config input (ends.Work process.OutOfMemory) = ⊤
  IsUnbegun config input fault = ⊥

  -- and where a write or a flush failed
  abbrev pub IsStoppedBy : EndFault → Setting → Situation → (unread : List ℕ) → (missing : List Deed) → W → L → Type 0
  IsStoppedBy (ends.Pass pass.Log) set now unread missing w l = FailedAt unlogged l
  IsStoppedBy (ends.Pass pass.Output) set now unread missing w l = FailedAt unwritten w
  IsStoppedBy fault set now unread missing w l = IsHaltedBy fault set now unread missing

  -- A process that began stops: of the bodies that came these were heard, but for what is missing of the last.
  pub record Stops (config : ProcessConfig) (fault : EndFault) (input : List ℕ) (w0 w1 : W) (l0 l1 : L) : Type 0 where
    pub first : List ℕ
    pub bodies : List (List ℕ)
    pub unread : List ℕ
    pub came : Leaves input (first ∷ bodies) unread
    pub set : Setting
    pub start : Situation
    pub starts : StartsBy config first set start
    pub steps : List Step
    pub missing : List Deed
    pub now : Situation
    pub hears : HearsAll set start first bodies steps missing now
    pub accounts : Accounts set start steps now
    pub replies : (port : ℕ) → Replies port steps now
    pub more : List Entry
    pub passes : PassesPart fault steps more (contents w0) (contents w1) (entries l0) (entries l1)
    pub cause : IsStoppedBy fault set now unread missing w1 l1

  -- nothing began, and nothing was passed on
  pub record NothingBegan (config : ProcessConfig) (fault : EndFault) (input : List ℕ) (w0 w1 : W) (l0 l1 : L) : Type 0 where
    pub why : IsUnbegun config input fault
    pub alone : (w1 ≡ w0) × (l1 ≡ l0)

  -- the version goes out, and the head is logged
  pub record Opens (config : ProcessConfig) (version : List ℕ) (w0 w : W) (l0 l : L) : Type 0 where
    pub log : Passes entries synced l0 l (head_bytes (head_in config version))
    pub out : Passes contents flushed w0 w (bytes_said (Version 1 version))

  -- why it is not opened: memory ran out, and nothing was passed on; or the log failed, and then nothing went out; or the output did
  abbrev pub CantOpen : ProcessConfig → List ℕ → W → W → L → L → EndFault → Type 0
  CantOpen config version w0 w1 l0 l1 (ends.Work process.OutOfMemory) = (w1 ≡ w0) × (l1 ≡ l0)
  CantOpen config version w0 w1 l0 l1 (ends.Pass pass.Log) = (w1 ≡ w0) × WritesPart (entries l0) (entries l1) (head_bytes (head_in config version)) × FailedAt unlogged l1
  CantOpen config version w0 w1 l0 l1 (ends.Pass pass.Output) =
      Passes entries synced l0 l1 (head_bytes (head_in config version)) × WritesPart (contents w0) (contents w1) (bytes_said (Version 1 version)) × FailedAt unwritten w1
  CantOpen config version w0 w1 l0 l1 fault = ⊥

  module _ {R : Type 0} (gives : R → List ℕ → R → Type 0) (remaining : R → Option (List ℕ)) (unreadable : R → R → Type 0) where
    -- the input is over: a read gave nothing
    pub record IsOver (config : ProcessConfig) (unread : List ℕ) (r0 r1 : R) (w0 w1 : W) (l0 l1 : L) : Type 0 where
      pub pieces : List (List ℕ)
      pub before : R
      pub read : HasRead gives remaining r0 pieces before
      pub ready : IsReady config (joined pieces) unread w0 w1 l0 l1
      pub last : gives before [] r1
      pub over : IsAtEnd (remaining r1)

    -- a read failed, or 2^40 reads were made
    pub record IsUnreadable (config : ProcessConfig) (r0 r1 : R) (w0 w1 : W) (l0 l1 : L) : Type 0 where
      pub pieces : List (List ℕ)
      pub before : R
      pub read : HasRead gives remaining r0 pieces before
      pub unread : List ℕ
      pub ready : IsReady config (joined pieces) unread w0 w1 l0 l1
      pub last : unreadable before r1 ⊎ ((r1 ≡ before) × (2 ^ 40 ≤ length pieces))

    -- What came by the last read has a fault, or what follows from it. By then all that follows from what came before was logged, written and flushed.
    pub record IsBroken (config : ProcessConfig) (fault : EndFault) (r0 r1 : R) (w0 w1 : W) (l0 l1 : L) : Type 0 where
      pub piece : List ℕ
      pub earlier : List (List ℕ)
      pub read : HasRead gives remaining r0 (piece ∷ earlier) r1
      pub unread : List ℕ
      pub w : W
      pub l : L
      pub ready : IsReady config (joined earlier) unread w0 w l0 l
      pub stops : NothingBegan config fault (joined (piece ∷ earlier)) w0 w1 l0 l1 ⊎ Stops config fault (joined (piece ∷ earlier)) w0 w1 l0 l1

    -- how a process ends, of which the version went out
    abbrev pub Ends : ProcessConfig → R → R → W → W → L → L → Result (Unit {0}) EndFault → Type 0
    Ends config r0 r1 w0 w1 l0 l1 (Ok done) = IsOver config [] r0 r1 w0 w1 l0 l1
    Ends config r0 r1 w0 w1 l0 l1 (Err ends.Truncated) = (unread : List ℕ) × (unread ≢ []) × IsOver config unread r0 r1 w0 w1 l0 l1
    Ends config r0 r1 w0 w1 l0 l1 (Err ends.ReadFault) = IsUnreadable config r0 r1 w0 w1 l0 l1
    Ends config r0 r1 w0 w1 l0 l1 (Err fault) = IsBroken config fault r0 r1 w0 w1 l0 l1

    -- nothing was read, as it is not opened
    pub record IsUnopened (config : ProcessConfig) (version : List ℕ) (r0 r1 : R) (w0 w1 : W) (l0 l1 : L) (result : Result (Unit {0}) EndFault) : Type 0 where
      pub fault : EndFault
      pub told : result ≡ Err fault
      pub unread : r1 ≡ r0
      pub why : CantOpen config version w0 w1 l0 l1 fault

    -- it is opened, and then it ends
    pub record IsServed (config : ProcessConfig) (version : List ℕ) (r0 r1 : R) (w0 w1 : W) (l0 l1 : L) (result : Result (Unit {0}) EndFault) : Type 0 where
      pub w : W
      pub l : L
      pub opens : Opens config version w0 w l0 l
      pub ends : Ends config r0 r1 w w1 l l1 result

    -- A process from its beginning to its end.
    abbrev pub Serves : ProcessConfig → List ℕ → R → R → W → W → L → L → Result (Unit {0}) EndFault → Type 0
    Serves config version r0 r1 w0 w1 l0 l1 result = IsUnopened config version r0 r1 w0 w1 l0 l1 result ⊎ IsServed config version r0 r1 w0 w1 l0 l1 result
