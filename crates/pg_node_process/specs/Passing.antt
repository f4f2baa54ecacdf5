-- How bytes are passed on to a sink.
use Rattle.std.specs.Prelude.{◌≡◌, ◌≢◌, ℕ, List, [], ◌++◌, Option}
use Rattle.std.specs.Io.KnownBytes.{Appends}
use Rattle.pg_node_process.specs.declared.passing.PassFault.{PassFault}
use Rattle.pg_node_process.specs.declared.passing.PassFault.TheVariants.{Log, Output}

-- all the bytes were written, and flushed; where there are none the sink was left alone
pub record Passes {S : Type 0} (contents : S → Option (List ℕ)) (flushed : S → Type 0) (old new : S) (bytes : List ℕ) : Type 0 where
  pub wrote : Appends (contents old) (contents new) bytes
  pub alone : bytes ≡ [] → new ≡ old
  pub passed : bytes ≢ [] → flushed new

-- a first part of the bytes was written
pub record WritesPart (before after : Option (List ℕ)) (bytes : List ℕ) : Type 0 where
  pub part : List ℕ
  pub behind : List ℕ
  pub whole : part ++ behind ≡ bytes
  pub wrote : Appends before after part

-- it is as a failure left it
abbrev pub FailedAt : {S : Type 0} → (S → S → Type 0) → S → Type 0
FailedAt {S} fails now = (before : S) × fails before now

-- what each fault comes from
abbrev pub Cause : Type 0 → Type 0 → PassFault → Type 0
Cause unlogged unwritten Log = unlogged
Cause unlogged unwritten Output = unwritten
