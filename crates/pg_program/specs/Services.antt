-- How a service over a cluster ends.
use Rattle.std.specs.Prelude.{◌≡◌, ◌⊎◌, ◌&&◌, ℕ, List, [], ◌∷◌, ◌++◌, Bool, true, false, Option}
use Rattle.std.specs.Prelude.{Some, None, Result, Ok, Err, chars, codes, length, map, nat_lt, if◌then◌else◌}
use Rattle.std.specs.Borrow.{Bor}
use Rattle.std.specs.Global.{Vec}
use Rattle.std.specs.List.{list_any}
use Rattle.std.specs.Str.{is_utf8, trim}
use Rattle.pg_script.specs.declared.fault.RunFault.{RunFault}
use Rattle.pg_cluster.specs.declared.fault.StartFault.TheVariants as starts
use Rattle.pg_cluster.specs.PgStep.declared.start.Start.{Start}
use Rattle.pg_cluster.specs.PgWorldConfig.declared.config.Config.{Config}
use Rattle.pg_cluster.specs.PgWorldConfig.declared.fault.WorldFault.TheVariants.{OutOfMemory}
use Rattle.pg_node_requests.specs.Members.{AreNumbered, starts_said}
use Rattle.pg_talk.specs.Outcomes.{yes_or_no}
use Rattle.pg_talk.specs.Services.{service_number_of}
use Rattle.pg_talk.specs.declared.service.fault.ServiceFault.{ServiceFault}
use Rattle.pg_talk.specs.declared.service.fault.ServiceFault.TheVariants as faults
use Rattle.pg_talk.specs.declared.service.run.Served.{Served}
use Rattle.pg_talk.specs.declared.service.Service.{Service}
use Rattle.pg_talk.specs.declared.verdict.Verdict.{Verdict}
use Rattle.pg_program.specs.CommandLine.{texts_of}
use Rattle.pg_program.specs.Faults.{status_number}
use Rattle.pg_program.specs.declared.fault.Fault.{Fault}
use Rattle.pg_program.specs.declared.fault.Fault.TheVariants.{Run, Given, Line}
use Rattle.pg_program.specs.declared.words.Offer.{Offer}
use Rattle.pg_program.specs.Status.{ToldEnd}
use Rattle.pg_program.specs.Told.{WritesOut}

-- ---- names

-- no name is given, or as many as there are nodes
abbrev pub AreEnough : ℕ → List (List ℕ) → Type 0
AreEnough count [] = Unit {0}
AreEnough count (name ∷ names) = length (name ∷ names) ≡ count

-- the names of so many nodes: those that are given, or `n1`, `n2` and so on
abbrev pub AreNamesBy : ℕ → List (List ℕ) → List (List ℕ) → Type 0
AreNamesBy count [] names = (length names ≡ count) × AreNumbered names
AreNamesBy count (name ∷ more) names = (length (name ∷ more) ≡ count) × (names ≡ map chars (name ∷ more))

-- a name has more than 255 characters
abbrev pub is_too_long : List ℕ → Bool
is_too_long name = nat_lt 255 (length (chars name))

-- there was no memory, or there is a name that is too long
abbrev pub CantSpell : Bool → Fault → Type 0
CantSpell long (Run number) = number ≡ 10
CantSpell long (Given number) = (number ≡ 6) × (long ≡ true)
CantSpell long (Line line number) = ⊥

-- the names that are given are not as many as the nodes; or they are, and can't be had
abbrev pub CantName : ℕ → List (List ℕ) → Fault → Type 0
CantName count names fault = ((fault ≡ Given 15) × (AreEnough count names → ⊥)) ⊎ (AreEnough count names × CantSpell (list_any is_too_long names) fault)

abbrev pub NamesEnd : ℕ → List (List ℕ) → Result (Vec (List ℕ)) Fault → Type 0
NamesEnd count given (Ok names) = AreNamesBy count given names.items
NamesEnd count given (Err fault) = CantName count given fault

-- ---- what nodes know as they start

-- nodes with these names as they start, each with so many ports, by what bytes tell, without the white space around it; None: they tell nothing of them
abbrev pub starts_in : List (List ℕ) → ℕ → List ℕ → Option (List Start)
starts_in names ports bytes = if is_utf8 bytes then starts_said names ports (chars (trim bytes)) else None

-- the configuration in which nodes start so, with rings of 65,536 bytes; or nothing is told of them, or there was no memory
abbrev pub StartsBy : Option (List Start) → Result Config Fault → Type 0
StartsBy told (Ok config) = (told ≡ Some config.starts.items) × (config.ring ≡ 65536)
StartsBy told (Err (Given number)) = (number ≡ 40) × (told ≡ None)
StartsBy told (Err (Run number)) = number ≡ 10
StartsBy told (Err (Line line number)) = ⊥

module _ {D : Type 0} (got : D → List ℕ → List ℕ → D → Type 0) (unread : D → D → Type 0) where
  -- the same by the bytes that a file holds; or it could not be read
  abbrev pub FileTells : D → D → List ℕ → List (List ℕ) → ℕ → Result Config Fault → Type 0
  FileTells old new file names ports end =
      ((bytes : List ℕ) × got old file bytes new × StartsBy (starts_in names ports bytes) end) ⊎ (unread old new × (end ≡ Err (Run 31)))

  -- by the file that is given; without one by `[]`, so that no node made a process or knows a group
  abbrev pub MembersTell : D → D → Option (Bor (List ℕ)) → List (List ℕ) → ℕ → Result Config Fault → Type 0
  MembersTell old new None names ports end = (new ≡ old) × StartsBy (starts_in names ports (codes "[]")) end
  MembersTell old new (Some file) names ports end = FileTells old new file.now names ports end

-- ---- the service

-- the service that is offered, over nodes with these names
pub record IsServiceBy {D : Type 0} (got : D → List ℕ → List ℕ → D → Type 0) (unread : D → D → Type 0) (offer : Offer) (names : List (List ℕ)) (old new : D) (service : Service) : Type 0 where
  pub config : MembersTell got unread old new offer.members names offer.ports (Ok service.config)
  pub requests : service.requests ≡ offer.requests
  pub seed : service.seed ≡ offer.seed
  pub margin : service.margin ≡ 1048576
  pub wait : service.wait ≡ 10000

module _ {D : Type 0} (got : D → List ℕ → List ℕ → D → Type 0) (unread : D → D → Type 0) where
  abbrev pub ServiceBy : Offer → List (List ℕ) → D → D → Result Service Fault → Type 0
  ServiceBy offer names old new (Ok service) = IsServiceBy got unread offer names old new service
  ServiceBy offer names old new (Err fault) = MembersTell got unread old new offer.members names offer.ports (Err fault)

  -- What an offer gives: the service. Or it is refused: by 15, where names are given, but not as many as nodes; by 6, one of them is too long; by 31, the file of
  -- members could not be read; by 40, it tells of none; by 10, there was no memory.
  abbrev pub OfferGives : Offer → D → D → Result Service Fault → Type 0
  OfferGives offer old new end =
      ((names : List (List ℕ)) × AreNamesBy offer.nodes (texts_of offer.names.items) names × ServiceBy offer names old new end)
      ⊎ ((fault : Fault) × CantName offer.nodes (texts_of offer.names.items) fault × (new ≡ old) × (end ≡ Err fault))

-- ---- how it ends

-- a configuration that no world begins with was given; all else ends the run
abbrev pub service_fault_of : ServiceFault → Fault
service_fault_of (faults.Start (starts.World OutOfMemory)) = Run 10
service_fault_of (faults.Start (starts.World fault)) = Given (service_number_of (faults.Start (starts.World fault)))
service_fault_of faults.BadText = Given 40
service_fault_of fault = Run (service_number_of fault)

abbrev pub service_end : Result Served ServiceFault → Result Served Fault
service_end (Ok served) = Ok served
service_end (Err fault) = Err (service_fault_of fault)

-- a service was asked for, and went as it is told
abbrev pub Asks : {D : Type 0} → (D → Service → Option (List ℕ) → Option (List ℕ) → Result Served ServiceFault → D → Type 0) → D → D → Service → Option (List ℕ) → Option (List ℕ) → Result Served Fault → Type 0
Asks served old new service before after end = (told : Result Served ServiceFault) × served old service before after told new × (end ≡ service_end told)

-- the service that is offered was asked for; its file was read before
pub record WentAsOffered {D : Type 0} (got : D → List ℕ → List ℕ → D → Type 0) (unread : D → D → Type 0)
    (served : D → Service → Option (List ℕ) → Option (List ℕ) → Result Served ServiceFault → D → Type 0)
    (offer : Offer) (old new : D) (before after : Option (List ℕ)) (end : Result Served Fault) : Type 0 where
  pub between : D
  pub service : Service
  pub offered : OfferGives got unread offer old between (Ok service)
  pub went : Asks served between new service before after end

-- it went so; or the offer was refused, and nothing was written
abbrev pub ServiceEnds : {D : Type 0} → (D → List ℕ → List ℕ → D → Type 0) → (D → D → Type 0)
    → (D → Service → Option (List ℕ) → Option (List ℕ) → Result Served ServiceFault → D → Type 0)
    → Offer → D → D → Type 0 → Option (List ℕ) → Option (List ℕ) → Result Served Fault → Type 0
ServiceEnds got unread served offer old new unchanged before after end =
    WentAsOffered got unread served offer old new before after end
    ⊎ ((fault : Fault) × OfferGives got unread offer old new (Err fault) × unchanged × (end ≡ Err fault))

-- a service was asked for so, and ended so
pub record WasOffered (IsAsked : Offer → Type 0) (E : Offer → Result Served Fault → Type 0) (end : Result Served Fault) : Type 0 where
  pub offer : Offer
  pub asked : IsAsked offer
  pub ends : E offer end

-- the two lines of a verdict
abbrev pub verdict_lines : Verdict → List ℕ
verdict_lines verdict = codes "agree " ++ yes_or_no verdict.agree ++ codes "\nreplay " ++ yes_or_no verdict.replay ++ codes "\n"

-- by which fault the input ended
abbrev pub end_of_input : Option ℕ → Result (Unit {0}) Fault
end_of_input None = Ok tt
end_of_input (Some number) = Err (Run number)

-- 0: the input came to its end, the nodes agree, and the schedule replays
abbrev pub input_status : Option ℕ → Bool → ℕ
input_status None true = 0
input_status None false = 1
input_status (Some number) good = 1

-- 1: not so, or the run was refused; 2: what was given was refused
abbrev pub service_status : Result Served Fault → ℕ
service_status (Ok served) = input_status served.fault (served.verdict.agree && served.verdict.replay)
service_status (Err fault) = status_number fault

module _ {F : Type 0} (fails : F → F → Type 0) (contents : F → Option (List ℕ)) where
  -- the lines of a verdict were written, and then that of the fault by which the input ended, if it did; or a write failed
  abbrev pub ToldService : F → F → Result Served Fault → Type 0
  ToldService old new (Ok served) =
      (between : F) × (told : Result (Unit {0}) RunFault) × WritesOut fails (contents old) (contents between) between (verdict_lines served.verdict) told
      × ToldEnd fails contents between new (end_of_input served.fault)
  ToldService old new (Err fault) = ToldEnd fails contents old new (Err fault)

-- a service ends as E says, T is said of what was written on standard error, and this is the status
pub record EndsService (E T : Result Served Fault → Type 0) (status : ℕ) : Type 0 where
  pub end : Result Served Fault
  pub is : E end
  pub told : T end
  pub status_is : status ≡ service_status end
