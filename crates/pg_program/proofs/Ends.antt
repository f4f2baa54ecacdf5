-- How the program ends where it serves.
use Rattle.std.proofs.Common.{arith, ◌≡◌, ◌⊎◌, Bool, ◌∷◌, ℕ, List, [], Option, Some}
use Rattle.std.proofs.Common.{None, Result, Err, length, refl, sym, ap, ◌∙◌, inl, inr}
use Rattle.std.specs.Prelude.{IfSome, IfErr, get_or}
use Rattle.std.specs.Str.{chars}
use Rattle.clap.specs.Words.{Kinds, IsAmong, Row, Text}
use Rattle.clap.specs.declared.error.ErrorKind.{ErrorKind}
use Rattle.clap.specs.declared.error.ErrorKind.TheVariants as kind
use Rattle.pg_term.specs.declared.fault.TermFault.TheVariants.{OutOfMemory}
use Rattle.pg_cluster.specs.PgMessageTypes.declared.fault.MessageFault.TheVariants.{Term}
use Rattle.pg_cluster.proofs.PgNode.Replicas.Streams.{appends_none}
use Rattle.pg_cluster.specs.PgNode.declared.replica.fault.ServeFault.TheVariants.{Message}
use Rattle.pg_program.specs.declared.bytes.BytesFault.{BytesFault}
use Rattle.pg_program.specs.declared.bytes.BytesFault.TheVariants.{Serve}
use Rattle.pg_program.specs.Bytes.{BytesCause, ServesAs}
use Rattle.pg_program.specs.CommandLine.{AsksBytes, IsExplore, IsExploreWord, IsNode, IsNodeWord, IsOther, IsScript}
use Rattle.pg_program.specs.CommandLine.{IsScriptWord, IsServe, IsServeWord, IsThreads}
use Rattle.pg_program.specs.Explorations.{WasAsked}
use Rattle.pg_program.specs.Nodes.{WasSeated}
use Rattle.pg_program.specs.Scripts.{ScriptEnd}
use Rattle.pg_program.specs.Status.{BytesEnd, Ends, end_of_bytes, end_status}
use Rattle.pg_program.specs.Services.{EndsService, WasOffered}
use Rattle.pg_program.specs.Talks.{EndsTalk, OrNoMemory}
use Rattle.pg_program.specs.declared.words.Offer.{Offer}
use Rattle.pg_program.specs.declared.words.Quest.{Quest}
use Rattle.pg_program.specs.declared.words.Seat.{Seat}
use Rattle.pg_talk.specs.declared.service.run.Served.{Served}
use Rattle.pg_program.specs.declared.fault.Fault.{Fault}
use Rattle.pg_program.specs.declared.fault.Fault.TheVariants.{Run}
use Rattle.pg_program.specs.declared.words.Aids.{Aids}
use Rattle.pg_program.specs.declared.words.Talk.{Talk}

abbrev pub End : Type 0
End = Result (Unit {0}) Fault

-- what was served is the end
pub ended : (own peer : List ℕ) (C : BytesFault → Type 0) (T : End → Type 0) (r before after : Option (List ℕ)) (result : Result (Unit {0}) BytesFault) (status : ℕ)
    → IfSome r (λ input. ServesAs (chars own) (chars peer) before after input result) → IfErr result C → T (end_of_bytes result) → status ≡ end_status (end_of_bytes result)
    → IfSome r (λ input. BytesEnd own peer C T before after input status)
ended own peer C T None before after result status h cause told e = tt
ended own peer C T (Some input) before after result status h cause told e = record { result = result; cause = cause; serves = h; told = told; is = e }

-- there was no memory to read the words
pub not_read : (own peer : List ℕ) (U V : Type 0) (T : End → Type 0) (r w : Option (List ℕ)) (status : ℕ) → status ≡ 1 → T (Err (Run 10))
    → IfSome r (λ input. BytesEnd own peer (BytesCause U V) T w w input status)
not_read own peer U V T None w status e told = tt
not_read own peer U V T (Some input) w status e told = record {
  result = Err (Serve (Message (Term OutOfMemory)));
  cause = tt;
  serves = record { output = []; wrote = appends_none w; is = (0, refl) };
  told = told;
  is = e;
}

-- nothing was read of a script
pub script_not_read : (I : List ℕ → Type 0) (U unchanged V F : Type 0) (T : End → Type 0) (status : ℕ) → unchanged → status ≡ 1 → T (Err (Run 10))
    → Ends (ScriptEnd I U unchanged V F) T status
script_not_read I U unchanged V F T status u e told = record { end = Err (Run 10); is = inl (inl refl, u); told = told; status_is = e }

-- no conversation began
pub not_spoken : (unchanged : Type 0) (E : Result Bool Fault → Type 0) (T : End → Type 0) (status : ℕ) → unchanged → status ≡ 1 → T (Err (Run 10))
    → EndsTalk (OrNoMemory unchanged E) T status
not_spoken unchanged E T status u e told = record { end = Err (Run 10); is = inl (refl, u); told = told; status_is = e }

pub spoken : (unchanged : Type 0) (E : Result Bool Fault → Type 0) (T : End → Type 0) (status : ℕ) → EndsTalk E T status → EndsTalk (OrNoMemory unchanged E) T status
spoken unchanged E T status h = record { end = h.end; is = inr h.is; told = h.told; status_is = h.status_is }

-- the words of a command are no others
pub script_no_bytes : (m : Option (Text × List Row)) (own peer : List ℕ) → IsScriptWord m → AsksBytes m own peer → ⊥
script_no_bytes None own peer h k = h
script_no_bytes (Some p) own peer h k = let bad = ap length (sym h ∙ k.0) in absurd (omega (arith, bad))

pub script_no_threads : (m : Option (Text × List Row)) (talk : Talk) → IsScriptWord m → IsThreads m talk → ⊥
script_no_threads None talk h k = h
script_no_threads (Some p) talk h k = let bad = ap length (sym h ∙ k.0) in absurd (omega (arith, bad))

pub threads_no_bytes : (m : Option (Text × List Row)) (talk : Talk) (own peer : List ℕ) → IsThreads m talk → AsksBytes m own peer → ⊥
threads_no_bytes None talk own peer h k = h
threads_no_bytes (Some p) talk own peer h k = let bad = ap length (sym h.0 ∙ k.0) in absurd (omega (arith, bad))

pub threads_no_script : (m : Option (Text × List Row)) (talk : Talk) (aids : Aids) → IsThreads m talk → IsScript m aids → ⊥
threads_no_script None talk aids h k = h
threads_no_script (Some p) talk aids h k = k.0 h.0

-- words that begin otherwise are others
begins : (a b : List ℕ) → a ≡ b → get_or a 0 0 ≡ get_or b 0 0
begins a b e = ap (λ (xs : List ℕ). get_or xs 0 0) e

pub serve_no_bytes : (m : Option (Text × List Row)) (own peer : List ℕ) → IsServeWord m → AsksBytes m own peer → ⊥
serve_no_bytes None own peer h k = h
serve_no_bytes (Some p) own peer h k = let bad = begins _ _ (sym h ∙ k.0) in absurd (omega (arith, bad))

pub serve_no_threads : (m : Option (Text × List Row)) (talk : Talk) → IsServeWord m → IsThreads m talk → ⊥
serve_no_threads None talk h k = h
serve_no_threads (Some p) talk h k = let bad = ap length (sym h ∙ k.0) in absurd (omega (arith, bad))

pub serve_no_script_word : (m : Option (Text × List Row)) → IsServeWord m → IsScriptWord m → ⊥
serve_no_script_word None h k = h
serve_no_script_word (Some p) h k = let bad = ap length (sym h ∙ k) in absurd (omega (arith, bad))

pub serve_no_script : (m : Option (Text × List Row)) (aids : Aids) → IsServeWord m → IsScript m aids → ⊥
serve_no_script None aids h k = h
serve_no_script (Some p) aids h k = k.1 h

pub serve_word : (m : Option (Text × List Row)) (offer : Offer) → IsServe m offer → IsServeWord m
serve_word None offer h = h
serve_word (Some p) offer h = h.0

pub explore_no_bytes : (m : Option (Text × List Row)) (own peer : List ℕ) → IsExploreWord m → AsksBytes m own peer → ⊥
explore_no_bytes None own peer h k = h
explore_no_bytes (Some p) own peer h k = let bad = ap length (sym h ∙ k.0) in absurd (omega (arith, bad))

pub explore_no_threads : (m : Option (Text × List Row)) (talk : Talk) → IsExploreWord m → IsThreads m talk → ⊥
explore_no_threads None talk h k = h
explore_no_threads (Some p) talk h k = let bad = begins _ _ (sym h ∙ k.0) in absurd (omega (arith, bad))

pub explore_no_script_word : (m : Option (Text × List Row)) → IsExploreWord m → IsScriptWord m → ⊥
explore_no_script_word None h k = h
explore_no_script_word (Some p) h k = let bad = ap length (sym h ∙ k) in absurd (omega (arith, bad))

pub explore_no_serve_word : (m : Option (Text × List Row)) → IsExploreWord m → IsServeWord m → ⊥
explore_no_serve_word None h k = h
explore_no_serve_word (Some p) h k = let bad = ap length (sym h ∙ k) in absurd (omega (arith, bad))

pub explore_no_script : (m : Option (Text × List Row)) (aids : Aids) → IsExploreWord m → IsScript m aids → ⊥
explore_no_script None aids h k = h
explore_no_script (Some p) aids h k = k.2 h

pub explore_word : (m : Option (Text × List Row)) (quest : Quest) → IsExplore m quest → IsExploreWord m
explore_word None quest h = h
explore_word (Some p) quest h = h.0

pub node_no_bytes : (m : Option (Text × List Row)) (own peer : List ℕ) → IsNodeWord m → AsksBytes m own peer → ⊥
node_no_bytes None own peer h k = h
node_no_bytes (Some p) own peer h k = let bad = ap length (sym h ∙ k.0) in absurd (omega (arith, bad))

pub node_no_threads : (m : Option (Text × List Row)) (talk : Talk) → IsNodeWord m → IsThreads m talk → ⊥
node_no_threads None talk h k = h
node_no_threads (Some p) talk h k = let bad = ap length (sym h ∙ k.0) in absurd (omega (arith, bad))

pub node_no_script_word : (m : Option (Text × List Row)) → IsNodeWord m → IsScriptWord m → ⊥
node_no_script_word None h k = h
node_no_script_word (Some p) h k = let bad = ap length (sym h ∙ k) in absurd (omega (arith, bad))

pub node_no_serve_word : (m : Option (Text × List Row)) → IsNodeWord m → IsServeWord m → ⊥
node_no_serve_word None h k = h
node_no_serve_word (Some p) h k = let bad = ap length (sym h ∙ k) in absurd (omega (arith, bad))

pub node_no_explore_word : (m : Option (Text × List Row)) → IsNodeWord m → IsExploreWord m → ⊥
node_no_explore_word None h k = h
node_no_explore_word (Some p) h k = let bad = ap length (sym h ∙ k) in absurd (omega (arith, bad))

pub node_no_script : (m : Option (Text × List Row)) (aids : Aids) → IsNodeWord m → IsScript m aids → ⊥
node_no_script None aids h k = h
node_no_script (Some p) aids h k = k.3 h

pub node_word : (m : Option (Text × List Row)) (seat : Seat) → IsNode m seat → IsNodeWord m
node_word None seat h = h
node_word (Some p) seat h = h.0

-- it was served as it was seated
pub seated_so : (unchanged : Type 0) (IsAsked : Seat → Type 0) (E : Seat → Result Bool Fault → Type 0) (T : End → Type 0) (status : ℕ) (seat : Seat) → IsAsked seat → EndsTalk (E seat) T status
    → EndsTalk (OrNoMemory unchanged (WasSeated IsAsked E)) T status
seated_so unchanged IsAsked E T status seat asked h = record { end = h.end; is = inr (record { seat = seat; asked = asked; ends = h.is }); told = h.told; status_is = h.status_is }

-- it was explored as it was asked
pub asked_so : (unchanged : Type 0) (IsAsked : Quest → Type 0) (E : Quest → Result Bool Fault → Type 0) (T : End → Type 0) (status : ℕ) (quest : Quest) → IsAsked quest → EndsTalk (E quest) T status
    → EndsTalk (OrNoMemory unchanged (WasAsked IsAsked E)) T status
asked_so unchanged IsAsked E T status quest asked h = record { end = h.end; is = inr (record { quest = quest; asked = asked; ends = h.is }); told = h.told; status_is = h.status_is }

-- it was served as it was asked
pub offered_so : (unchanged : Type 0) (IsAsked : Offer → Type 0) (E : Offer → Result Served Fault → Type 0) (T : Result Served Fault → Type 0) (status : ℕ) (offer : Offer) → IsAsked offer
    → EndsService (E offer) T status → EndsService (OrNoMemory unchanged (WasOffered IsAsked E)) T status
offered_so unchanged IsAsked E T status offer asked h = record { end = h.end; is = inr (record { offer = offer; asked = asked; ends = h.is }); told = h.told; status_is = h.status_is }

-- no service began
pub not_served : (unchanged : Type 0) (E T : Result Served Fault → Type 0) (status : ℕ) → unchanged → status ≡ 1 → T (Err (Run 10)) → EndsService (OrNoMemory unchanged E) T status
not_served unchanged E T status u e told = record { end = Err (Run 10); is = inl (refl, u); told = told; status_is = e }

pub same_names : (m : Option (Text × List Row)) (own peer own2 peer2 : List ℕ) → AsksBytes m own peer → AsksBytes m own2 peer2 → (own ≡ own2) × (peer ≡ peer2)
same_names None own peer own2 peer2 h k = absurd h
same_names (Some p) own peer own2 peer2 h k = (h.1 ∙ sym k.1, h.2 ∙ sym k.2)

pub not_other : (m : Option (Text × List Row)) (own peer : List ℕ) → AsksBytes m own peer → IsOther m → ⊥
not_other None own peer h k = h
not_other (Some p) own peer h k = k h.0

-- where no kind of error may come, only memory was missing
pub only_memory : (kinds : Kinds) (k : ErrorKind) → kinds ≡ [] → (k ≡ kind.OutOfMemory) ⊎ IsAmong k kinds → k ≡ kind.OutOfMemory
only_memory [] k none (inl h) = h
only_memory [] k none (inr h) = absurd h
only_memory (x ∷ xs) k none h = absurd (cc)
