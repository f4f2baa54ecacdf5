-- How far a process has come since its beginning, on its way from read to read.
use Rattle.std.specs.Prelude.{◌≡◌, ◌≤◌, ◌⊎◌, ◌<◌, ◌^◌, ℕ, Bool, true, false, length, List, [], ◌∷◌, ◌++◌, Option, Some, None, Ok, Err, ⊤}
use Rattle.std.specs.Io.KnownBytes.{Appends, Consumes, IsAtEnd}
use Rattle.std.specs.List.{AllByRecursion, flat_map}
use Rattle.pg_frame.specs.Frames.{Leaves, after_front, front_of, too_long}
use Rattle.pg_node.specs.Replicas.Causes.{IsFlushed, joined}
use Rattle.pg_node_process.specs.declared.config.ProcessConfig.{ProcessConfig}
use Rattle.pg_node_process.specs.Logs.{Entry, entry_bytes}
use Rattle.pg_process.specs.declared.fault.EndFault.{EndFault}
use Rattle.pg_process.specs.declared.fault.EndFault.TheVariants as ends
use Rattle.pg_process.specs.declared.fault.ProcessFault.{ProcessFault}
use Rattle.pg_process.specs.declared.fault.ProcessFault.TheVariants as process
use Rattle.pg_process.specs.declared.process.Process.{Process}
use Rattle.pg_process.specs.Beginnings.{BeginsBy, CantBegin}
use Rattle.pg_process.specs.Chains.{Ends, Goes, IsWork, Makes, Step}
use Rattle.pg_process.specs.Deeds.{Brought, Deed, Read}
use Rattle.pg_process.specs.Hearing.{Hears, HearsUntil, deeds_of}
use Rattle.pg_process.specs.Serving.{AllTakeTurns, HasRead, HearsAll, IsHaltedBy, StartsBy, has_groups, log_of, out_of}
use Rattle.pg_process.specs.Settled.{IsAtRest}
use Rattle.pg_process.specs.Situations.{Setting, Situation, setting_of, situation_of}
use Rattle.pg_process.specs.Turns.{Attends, HearsInTurn}

-- ---- before a process begins

-- reads gave these pieces, and no body came whole
pub record Waits {R : Type 0} (gives : R → List ℕ → R → Type 0) (remaining : R → Option (List ℕ)) (r0 : R) (pieces : List (List ℕ)) (unread : List ℕ) (r : R) : Type 0 where
  pub read : HasRead gives remaining r0 pieces r
  pub all : unread ≡ joined pieces
  pub none : front_of unread ≡ Ok None

-- by the last read the first body came whole
pub record Arrives {R : Type 0} (gives : R → List ℕ → R → Type 0) (remaining : R → Option (List ℕ)) (r0 : R) (unread : List ℕ) (r : R) : Type 0 where
  pub piece : List ℕ
  pub earlier : List (List ℕ)
  pub read : HasRead gives remaining r0 (piece ∷ earlier) r
  pub all : unread ≡ joined (piece ∷ earlier)
  pub none : front_of (joined earlier) ≡ Ok None
  pub body : List ℕ
  pub front : front_of unread ≡ Ok (Some body)

-- the input was over before
pub record Lapses {R : Type 0} (gives : R → List ℕ → R → Type 0) (remaining : R → Option (List ℕ)) (r0 : R) (unread : List ℕ) (r : R) : Type 0 where
  pub pieces : List (List ℕ)
  pub before : R
  pub waits : Waits gives remaining r0 pieces unread before
  pub last : gives before [] r
  pub over : IsAtEnd (remaining r)

-- a read failed before, or there were 2^40 reads
pub record Fails {R : Type 0} (gives : R → List ℕ → R → Type 0) (remaining : R → Option (List ℕ)) (unreadable : R → R → Type 0) (r0 r : R) : Type 0 where
  pub pieces : List (List ℕ)
  pub unread : List ℕ
  pub before : R
  pub waits : Waits gives remaining r0 pieces unread before
  pub last : unreadable before r ⊎ ((r ≡ before) × (2 ^ 40 ≤ length pieces))

-- the last read gave what is not taken
pub record Breaks {R : Type 0} (gives : R → List ℕ → R → Type 0) (remaining : R → Option (List ℕ)) (P : List ℕ → Type 0) (r0 r : R) : Type 0 where
  pub piece : List ℕ
  pub earlier : List (List ℕ)
  pub read : HasRead gives remaining r0 (piece ∷ earlier) r
  pub none : front_of (joined earlier) ≡ Ok None
  pub why : P (joined (piece ∷ earlier))

-- why the first body does not come
abbrev pub CantArrive : {R : Type 0} → (R → List ℕ → R → Type 0) → (R → Option (List ℕ)) → (R → R → Type 0) → R → R → EndFault → Type 0
CantArrive gives remaining unreadable r0 r ends.ReadFault = Fails gives remaining unreadable r0 r
CantArrive gives remaining unreadable r0 r ends.TooLong = Breaks gives remaining (λ input. front_of input ≡ Err too_long) r0 r
CantArrive gives remaining unreadable r0 r (ends.Work process.OutOfMemory) = Breaks gives remaining (λ input. ⊤) r0 r
CantArrive gives remaining unreadable r0 r fault = ⊥

-- a read gave some bytes
pub record Gives {R : Type 0} (gives : R → List ℕ → R → Type 0) (remaining : R → Option (List ℕ)) (r0 r : R) : Type 0 where
  pub piece : List ℕ
  pub gave : gives r0 piece r
  pub took : Consumes (remaining r0) (remaining r) piece
  pub some : 0 < length piece

-- why the next piece does not come in: the read failed, or there was no memory for what it gave
abbrev pub CantRead : {R : Type 0} → (R → List ℕ → R → Type 0) → (R → Option (List ℕ)) → (R → R → Type 0) → R → R → EndFault → Type 0
CantRead gives remaining unreadable r0 r ends.ReadFault = unreadable r0 r
CantRead gives remaining unreadable r0 r (ends.Work process.OutOfMemory) = Gives gives remaining r0 r
CantRead gives remaining unreadable r0 r fault = ⊥

-- ---- how a process begins

-- it begins with the groups that a body brings
pub record BeginsFrom (config : ProcessConfig) (body : List ℕ) (process : Process) : Type 0 where
  pub bytes : List ℕ
  pub is : body ≡ 20 ∷ bytes
  pub begins : BeginsBy config bytes process

-- it can't begin by a body
abbrev pub CantBeginFrom : ProcessConfig → List ℕ → EndFault → Type 0
CantBeginFrom config body (ends.Begin fault) = (bytes : List ℕ) × (body ≡ 20 ∷ bytes) × CantBegin config bytes fault
CantBeginFrom config body ends.NoGroups = has_groups body ≡ false
CantBeginFrom config body fault = ⊥

-- the first body is logged and taken out, what it brought is told to a host that mirrors the table, and what follows is done
pub record HearsFirst (unread unread2 : List ℕ) (a b : Process) : Type 0 where
  pub body : List ℕ
  pub front : front_of unread ≡ Ok (Some body)
  pub behind : unread2 ≡ after_front unread
  pub steps : List Step
  pub work : List Deed
  pub deeds : deeds_of steps ≡ Read body ∷ Brought ∷ work
  pub follows : AllByRecursion IsWork work
  pub goes : Goes steps a b
  pub noted : Process
  pub notes : Makes (Read body) a noted
  pub mirrored : Process
  pub brings : Makes Brought noted mirrored
  pub attends : Attends false mirrored b
  pub rest : IsAtRest (setting_of b) (situation_of b)

-- a first part of that is done
pub record HearsFirstUntil (unread : List ℕ) (fault : ProcessFault) (a b : Process) : Type 0 where
  pub body : List ℕ
  pub front : front_of unread ≡ Ok (Some body)
  pub steps : List Step
  pub missing : List Deed
  pub work : List Deed
  pub deeds : deeds_of steps ++ missing ≡ Read body ∷ Brought ∷ work
  pub follows : AllByRecursion IsWork work
  pub ends : Ends steps fault a b

abbrev pub CantHearFirst : (unread : List ℕ) → Process → Process → EndFault → Type 0
CantHearFirst unread a b (ends.Work fault) = HearsFirstUntil unread fault a b
CantHearFirst unread a b fault = ⊥

-- ---- how it goes on

-- the next body is heard, and taken out
pub record HearsNext (unread unread2 : List ℕ) (a b : Process) : Type 0 where
  pub body : List ℕ
  pub front : front_of unread ≡ Ok (Some body)
  pub behind : unread2 ≡ after_front unread
  pub hears : Hears body a b
  pub turn : HearsInTurn body a b
  pub rest : IsAtRest (setting_of b) (situation_of b)

-- none is whole, and nothing is done
pub record HearsNone (unread unread2 : List ℕ) (a b : Process) : Type 0 where
  pub none : front_of unread ≡ Ok None
  pub same : (unread2 ≡ unread) × (b ≡ a)

abbrev pub HearsSome : Bool → (unread unread2 : List ℕ) → Process → Process → Type 0
HearsSome true unread unread2 a b = HearsNext unread unread2 a b
HearsSome false unread unread2 a b = HearsNone unread unread2 a b

-- why the next body is not heard to its end
abbrev pub CantHear : (unread : List ℕ) → Process → Process → EndFault → Type 0
CantHear unread a b ends.TooLong = (front_of unread ≡ Err too_long) × (b ≡ a)
CantHear unread a b (ends.Work fault) = (body : List ℕ) × (front_of unread ≡ Ok (Some body)) × HearsUntil body fault a b
CantHear unread a b fault = ⊥

-- how a process began, by which body, and what the sinks held then
pub record Story (W L : Type 0) : Type 0 where
  pub config : ProcessConfig
  pub first : List ℕ
  pub set : Setting
  pub start : Situation
  pub starts : StartsBy config first set start
  pub out : W
  pub log : L

-- it began so, and its first body is still to be heard
pub record IsNew {W L : Type 0} (story : Story W L) (input unread : List ℕ) (process : Process) (w : W) (l : L) : Type 0 where
  pub all : unread ≡ input
  pub front : front_of input ≡ Ok (Some story.first)
  pub set : setting_of process ≡ story.set
  pub start : situation_of process ≡ story.start
  pub outlet : process.outlet.gathered.items ≡ []
  pub journal : process.journal.gathered.items ≡ []
  pub alone : (w ≡ story.out) × (l ≡ story.log)

module _ {W L : Type 0} (contents : W → Option (List ℕ)) (flushed : W → Type 0) (entries : L → Option (List ℕ)) (synced : L → Type 0) where
  -- These bodies of what came were heard, of which the others are unread. Of what follows some was passed on, and the rest is gathered.
  pub record IsServing (story : Story W L) (input unread : List ℕ) (process : Process) (w : W) (l : L) : Type 0 where
    pub bodies : List (List ℕ)
    pub came : Leaves input (story.first ∷ bodies) unread
    pub passed : List Step
    pub kept : List Step
    pub hears : HearsAll story.set story.start story.first bodies (passed ++ kept) [] (situation_of process)
    pub turns : AllTakeTurns story.set story.start story.first bodies (situation_of process)
    pub set : setting_of process ≡ story.set
    pub wrote : Appends (contents story.out) (contents w) (out_of passed)
    pub gathered : process.outlet.gathered.items ≡ out_of kept
    pub logged : Appends (entries story.log) (entries l) (log_of passed)
    pub journal : process.journal.gathered.items ≡ log_of kept
    pub out : IsFlushed flushed story.out w
    pub log : IsFlushed synced story.log l

  -- all was heard and passed on
  pub record HasServed (story : Story W L) (input unread : List ℕ) (process : Process) (w : W) (l : L) : Type 0 where
    pub serving : IsServing story input unread process w l
    pub none : front_of unread ≡ Ok None
    pub rest : IsAtRest (setting_of process) (situation_of process)
    pub gone : (process.outlet.gathered.items ≡ []) × (process.journal.gathered.items ≡ [])

  -- The same, where what is missing of the last body was not done, and more may be logged.
  pub record IsCut (story : Story W L) (input : List ℕ) (process : Process) (w : W) (l : L) : Type 0 where
    pub bodies : List (List ℕ)
    pub unread : List ℕ
    pub came : Leaves input (story.first ∷ bodies) unread
    pub passed : List Step
    pub kept : List Step
    pub missing : List Deed
    pub now : Situation
    pub hears : HearsAll story.set story.start story.first bodies (passed ++ kept) missing now
    pub wrote : Appends (contents story.out) (contents w) (out_of passed)
    pub gathered : process.outlet.gathered.items ≡ out_of kept
    pub logged : Appends (entries story.log) (entries l) (log_of passed)
    pub more : List Entry
    pub journal : process.journal.gathered.items ≡ log_of kept ++ flat_map entry_bytes more

  -- it can't go on for a reason
  pub record IsHalted (fault : EndFault) (story : Story W L) (input : List ℕ) (process : Process) (w : W) (l : L) : Type 0 where
    pub cut : IsCut story input process w l
    pub cause : IsHaltedBy fault story.set cut.now cut.unread cut.missing
