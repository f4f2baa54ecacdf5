-- Deeds that follow each other.
use Rattle.std.proofs.Common.{◌≡◌, ◌⊎◌, ◌∙◌, ℕ, Bool, true, false, Option, Some, None, List, [], ◌∷◌, ◌++◌, inl, inr, refl, sym, ap, subst, append-nil, append_assoc}
use Rattle.std.specs.Prelude.{Result, Ok, Err, IfErr, OnOk}
use Rattle.std.specs.List.{AllByRecursion, flat_map}
use Rattle.std.proofs.lemmas.List.Concat.{flat_map-append}
use Rattle.pg_node_process.specs.Logs.{Entry, entry_bytes}
use Rattle.pg_node_process.specs.Outputs.{IsFramed, Output, said as bytes_said}
use Rattle.pg_process.specs.declared.fault.ProcessFault.{ProcessFault}
use Rattle.pg_process.specs.declared.fault.ProcessFault.TheVariants.{ClockFull, OutOfMemory}
use Rattle.pg_process.specs.declared.process.Process.{Process}
use Rattle.pg_process.specs.Chains.{AllDo, AreWork, Ends, Fails, Goes, IsCause, IsFull, IsWork, Makes, Rests, Silent, Step, Works, WorksUntil, logged_in, said_in}
use Rattle.pg_node.specs.PgStep.Step.{Issue, Retry}
use Rattle.pg_node.specs.PgStep.declared.command.OpId.{OpId}
use Rattle.pg_node_process.specs.declared.desk.Numbered.{Numbered}
use Rattle.pg_node_process.specs.declared.retries.Seen.{Seen}
use Rattle.pg_process.specs.Changes.{HandsOver, Retries, StopsHanding, StopsTrying, told_of_change}
use Rattle.pg_process.specs.Deeds.{Declined, Deed, Handed, Looked, Read, Tried, logged}
use Rattle.pg_node_process.specs.Bodies.{body_of}
use Rattle.pg_node_process.specs.Whom.{Whom}
use Rattle.pg_process.specs.Hearing.{Hears, HearsUntil, Heeds, deeds_of, heeded, is_tick, whom_of}
use Rattle.pg_process.specs.Situations.{Setting, Situation, setting_of, situation_of}
use Rattle.pg_process.specs.Turns.{Attends, HearsInTurn}

pub all_then : {A : Type 0} (P : A → Type 0) (xs ys : List A) → AllByRecursion P xs → AllByRecursion P ys → AllByRecursion P (xs ++ ys)
all_then P [] ys p q = q
all_then P (x ∷ xs) ys p q = (p.0, all_then P xs ys p.1 q)

pub do_then : (set : Setting) (a b c : Situation) (xs ys : List Step) → AllDo set a xs b → AllDo set b ys c → AllDo set a (xs ++ ys) c
do_then set a b c [] ys p q = subst (λ (s : Situation). AllDo set s ys c) p q
do_then set a b c (x ∷ xs) ys p q = (p.0, p.1, do_then set p.0 b c xs ys p.2 q)

behind : {A : Type 0} (bytes : A → List ℕ) (b0 b1 b2 : List ℕ) (xs ys : List A) → b1 ≡ b0 ++ flat_map bytes xs → b2 ≡ b1 ++ flat_map bytes ys → b2 ≡ b0 ++ flat_map bytes (xs ++ ys)
behind bytes b0 b1 b2 xs ys p q = q ∙ (ap (λ w. w ++ flat_map bytes ys) p ∙ (append_assoc b0 (flat_map bytes xs) (flat_map bytes ys) ∙ ap (λ w. b0 ++ w) (sym (flat_map-append bytes xs ys))))

-- ---- what is done

pub rests_goes : (a b : Process) → Rests a b → Goes [] a b
rests_goes a b rests = record {
  does = rests.same;
  heard = tt;
  gathered = rests.gathered ∙ sym (append-nil a.outlet.gathered.items);
  journal = rests.journal ∙ sym (append-nil a.journal.gathered.items);
  setting = rests.setting;
}

abbrev pub step_of : (deed : Deed) (a b : Process) → Makes deed a b → Step
step_of deed a b makes = record { deed = deed; said = makes.said }

pub makes_goes : (deed : Deed) (a b : Process) (makes : Makes deed a b) → Goes (step_of deed a b makes ∷ []) a b
makes_goes deed a b makes = record {
  does = (situation_of b, makes.does, refl);
  heard = subst (λ (xs : List Output). AllByRecursion IsFramed xs) (sym (append-nil makes.said)) makes.heard;
  gathered = makes.gathered ∙ ap (λ (xs : List Output). a.outlet.gathered.items ++ flat_map bytes_said xs) (sym (append-nil makes.said));
  journal = makes.journal ∙ ap (λ (xs : List Entry). a.journal.gathered.items ++ flat_map entry_bytes xs) (sym (append-nil (logged deed)));
  setting = makes.setting;
}

pub goes_on : (xs ys : List Step) (a b c : Process) → Goes xs a b → Goes ys b c → Goes (xs ++ ys) a c
goes_on xs ys a b c p q = record {
  does = do_then (setting_of a) (situation_of a) (situation_of b) (situation_of c) xs ys p.does
      (subst (λ (set : Setting). AllDo set (situation_of b) ys (situation_of c)) p.setting q.does);
  heard = subst (λ (os : List Output). AllByRecursion IsFramed os) (sym (flat_map-append (λ (step : Step). step.said) xs ys)) (all_then IsFramed (said_in xs) (said_in ys) p.heard q.heard);
  gathered = behind bytes_said a.outlet.gathered.items b.outlet.gathered.items c.outlet.gathered.items (said_in xs) (said_in ys) p.gathered q.gathered
      ∙ ap (λ (os : List Output). a.outlet.gathered.items ++ flat_map bytes_said os) (sym (flat_map-append (λ (step : Step). step.said) xs ys));
  journal = behind entry_bytes a.journal.gathered.items b.journal.gathered.items c.journal.gathered.items (logged_in xs) (logged_in ys) p.journal q.journal
      ∙ ap (λ (es : List Entry). a.journal.gathered.items ++ flat_map entry_bytes es) (sym (flat_map-append (λ (step : Step). logged step.deed) xs ys));
  setting = q.setting ∙ p.setting;
}

pub work_rests : (a b : Process) → Rests a b → Works a b
work_rests a b rests = record { steps = []; work = tt; goes = rests_goes a b rests }

pub work_made : (deed : Deed) (a b : Process) → IsWork deed → Makes deed a b → Works a b
work_made deed a b work makes = record { steps = step_of deed a b makes ∷ []; work = (work, tt); goes = makes_goes deed a b makes }

pub works_on : (a b c : Process) → Works a b → Works b c → Works a c
works_on a b c p q = record {
  steps = p.steps ++ q.steps;
  work = all_then (λ (step : Step). IsWork step.deed) p.steps q.steps p.work q.work;
  goes = goes_on p.steps q.steps a b c p.goes q.goes;
}

-- ---- how it ends

pub silent_ends : (fault : ProcessFault) (a b : Process) → Silent a b → IsCause (setting_of a) (situation_of a) fault → Ends [] fault a b
silent_ends fault a b silent cause = record {
  last = situation_of a;
  does = refl;
  cause = cause;
  heard = tt;
  gathered = silent.gathered ∙ sym (append-nil a.outlet.gathered.items);
  more = [];
  journal = silent.journal ∙ sym (append-nil a.journal.gathered.items);
}

-- want of memory has no cause
no_cause : (set : Setting) (m : Situation) (fault : ProcessFault) → fault ≡ OutOfMemory → IsCause set m fault
no_cause set m OutOfMemory is = tt
no_cause set m ClockFull is = absurd cc

pub fails_ends : (deed : Deed) (fault : ProcessFault) (a b : Process) → Fails deed fault a b → Ends [] fault a b
fails_ends deed fault a b fails = by fails.journal
  where
    cause : IsCause (setting_of a) (situation_of a) fault
    cause = no_cause (setting_of a) (situation_of a) fault fails.memory

    by : (b.journal.gathered.items ≡ a.journal.gathered.items) ⊎ (b.journal.gathered.items ≡ a.journal.gathered.items ++ flat_map entry_bytes (logged deed)) → Ends [] fault a b
    by (inl same) = record {
      last = situation_of a;
      does = refl;
      cause = cause;
      heard = tt;
      gathered = fails.gathered ∙ sym (append-nil a.outlet.gathered.items);
      more = [];
      journal = same ∙ sym (append-nil a.journal.gathered.items);
    }
    by (inr more) = record {
      last = situation_of a;
      does = refl;
      cause = cause;
      heard = tt;
      gathered = fails.gathered ∙ sym (append-nil a.outlet.gathered.items);
      more = logged deed;
      journal = more;
    }

pub ends_on : (xs ys : List Step) (fault : ProcessFault) (a b c : Process) → Goes xs a b → Ends ys fault b c → Ends (xs ++ ys) fault a c
ends_on xs ys fault a b c p q = record {
  last = q.last;
  does = do_then (setting_of a) (situation_of a) (situation_of b) q.last xs ys p.does (subst (λ (set : Setting). AllDo set (situation_of b) ys q.last) p.setting q.does);
  cause = subst (λ (set : Setting). IsCause set q.last fault) p.setting q.cause;
  heard = subst (λ (os : List Output). AllByRecursion IsFramed os) (sym (flat_map-append (λ (step : Step). step.said) xs ys)) (all_then IsFramed (said_in xs) (said_in ys) p.heard q.heard);
  gathered = behind bytes_said a.outlet.gathered.items b.outlet.gathered.items c.outlet.gathered.items (said_in xs) (said_in ys) p.gathered q.gathered
      ∙ ap (λ (os : List Output). a.outlet.gathered.items ++ flat_map bytes_said os) (sym (flat_map-append (λ (step : Step). step.said) xs ys));
  more = q.more;
  journal = behind entry_bytes a.journal.gathered.items b.journal.gathered.items c.journal.gathered.items (logged_in xs) (logged_in ys ++ q.more) p.journal q.journal
      ∙ ap (λ (es : List Entry). a.journal.gathered.items ++ flat_map entry_bytes es)
      (sym (append_assoc (logged_in xs) (logged_in ys) q.more) ∙ ap (λ (es : List Entry). es ++ q.more) (sym (flat_map-append (λ (step : Step). logged step.deed) xs ys)));
}

-- before anything is done
pub until_ends : (fault : ProcessFault) (a b : Process) → Ends [] fault a b → WorksUntil fault a b
until_ends fault a b ends = record { steps = []; work = tt; ends = ends }

pub works_until : (fault : ProcessFault) (a b c : Process) → Works a b → WorksUntil fault b c → WorksUntil fault a c
works_until fault a b c p q = record {
  steps = p.steps ++ q.steps;
  work = all_then (λ (step : Step). IsWork step.deed) p.steps q.steps p.work q.work;
  ends = ends_on p.steps q.steps fault a b c p.goes q.ends;
}

pub fails_until : (deed : Deed) (fault : ProcessFault) (a b : Process) → Fails deed fault a b → WorksUntil fault a b
fails_until deed fault a b fails = until_ends fault a b (fails_ends deed fault a b fails)

-- a deed of work, with what it comes to
pub made_works : (result : Result (Unit {0}) ProcessFault) (deed : Deed) (a b : Process) → IsWork deed → OnOk result (Makes deed a b) → OnOk result (Works a b)
made_works (Ok done) deed a b work makes = work_made deed a b work makes
made_works (Err fault) deed a b work makes = tt

pub failed_until : (result : Result (Unit {0}) ProcessFault) (deed : Deed) (a b : Process) → IfErr result (λ fault. Fails deed fault a b) → IfErr result (λ fault. WorksUntil fault a b)
failed_until (Ok done) deed a b fails = tt
failed_until (Err fault) deed a b fails = fails_until deed fault a b fails

-- work upon work, with what it comes to
pub works_then : {A : Type 0} (result : Result A ProcessFault) (a b c : Process) → Works a b → OnOk result (Works b c) → OnOk result (Works a c)
works_then (Ok done) a b c p q = works_on a b c p q
works_then (Err fault) a b c p q = tt

pub until_then : {A : Type 0} (result : Result A ProcessFault) (a b c : Process) → Works a b → IfErr result (λ fault. WorksUntil fault b c) → IfErr result (λ fault. WorksUntil fault a c)
until_then (Ok done) a b c p q = tt
until_then (Err fault) a b c p q = works_until fault a b c p q

-- one deed is what a body asks for
pub heeds_one : (body : List ℕ) (deed : Deed) (a b : Process) → deed ∷ [] ≡ heeded (body_of (whom_of a) body) body → Makes deed a b → Heeds body a b
heeds_one body deed a b is makes = record { steps = step_of deed a b makes ∷ []; deeds = is; goes = makes_goes deed a b makes }

-- nothing is
pub heeds_none : (body : List ℕ) (a b : Process) → [] ≡ heeded (body_of (whom_of a) body) body → Rests a b → Heeds body a b
heeds_none body a b is rests = record { steps = []; deeds = is; goes = rests_goes a b rests }

pub itself : (a : Process) → Rests a a
itself a = record { same = refl; gathered = refl; journal = refl; setting = refl }

-- ---- a body is heard

pub deeds_then : (xs ys : List Step) → deeds_of (xs ++ ys) ≡ deeds_of xs ++ deeds_of ys
deeds_then [] ys = refl
deeds_then (x ∷ xs) ys = ap (λ (ds : List Deed). x.deed ∷ ds) (deeds_then xs ys)

pub work_deeds : (steps : List Step) → AreWork steps → AllByRecursion IsWork (deeds_of steps)
work_deeds [] work = tt
work_deeds (x ∷ xs) work = (work.0, work_deeds xs work.1)

pub hears_by : (body : List ℕ) (a b c d : Process) → whom_of b ≡ whom_of a → Makes (Read body) a b → Heeds body b c → Works c d → Hears body a d
hears_by body a b c d whom noted heeds works =
    let steps = step_of (Read body) a b noted ∷ heeds.steps ++ works.steps in record {
      steps = steps;
      work = deeds_of works.steps;
      deeds = ap (λ (ds : List Deed). Read body ∷ ds) (deeds_then heeds.steps works.steps
          ∙ ap (λ (ds : List Deed). ds ++ deeds_of works.steps) (heeds.deeds ∙ ap (λ (w : Whom). heeded (body_of w body) body) whom));
      follows = work_deeds works.steps works.work;
      goes = goes_on (step_of (Read body) a b noted ∷ []) (heeds.steps ++ works.steps) a b d (makes_goes (Read body) a b noted)
          (goes_on heeds.steps works.steps b c d heeds.goes works.goes);
    }

-- it is not even logged
pub unnoted : (body : List ℕ) (fault : ProcessFault) (a b : Process) → Fails (Read body) fault a b → HearsUntil body fault a b
unnoted body fault a b fails = record {
  steps = [];
  later = Read body ∷ heeded (body_of (whom_of a) body) body;
  work = [];
  deeds = sym (append-nil (Read body ∷ heeded (body_of (whom_of a) body) body));
  follows = tt;
  ends = fails_ends (Read body) fault a b fails;
}

pub unheeded : (body : List ℕ) (fault : ProcessFault) (a b c : Process) → Makes (Read body) a b → Ends [] fault b c → HearsUntil body fault a c
unheeded body fault a b c noted ends = record {
  steps = step_of (Read body) a b noted ∷ [];
  later = heeded (body_of (whom_of a) body) body;
  work = [];
  deeds = sym (append-nil (Read body ∷ heeded (body_of (whom_of a) body) body));
  follows = tt;
  ends = ends_on (step_of (Read body) a b noted ∷ []) [] fault a b c (makes_goes (Read body) a b noted) ends;
}

pub turns_by : (body : List ℕ) (tick : Bool) (a b c d : Process) → whom_of b ≡ whom_of a → Makes (Read body) a b → Heeds body b c → tick ≡ is_tick (body_of (whom_of b) body) → Attends tick c d → HearsInTurn body a d
turns_by body tick a b c d whom noted heeds is attends = record {
  steps = step_of (Read body) a b noted ∷ heeds.steps;
  deeds = ap (λ (ds : List Deed). Read body ∷ ds) (heeds.deeds ∙ ap (λ (w : Whom). heeded (body_of w body) body) whom);
  heeds = c;
  goes = goes_on (step_of (Read body) a b noted ∷ []) heeds.steps a b c (makes_goes (Read body) a b noted) heeds.goes;
  attends = subst (λ (t : Bool). Attends t c d) (is ∙ ap (λ (w : Whom). is_tick (body_of w body)) whom) attends;
}

pub unfinished : (body : List ℕ) (fault : ProcessFault) (a b c d : Process) → whom_of b ≡ whom_of a → Makes (Read body) a b → Heeds body b c → WorksUntil fault c d → HearsUntil body fault a d
unfinished body fault a b c d whom noted heeds works =
    let steps = step_of (Read body) a b noted ∷ heeds.steps ++ works.steps in record {
      steps = steps;
      later = [];
      work = deeds_of works.steps;
      deeds = append-nil (deeds_of steps) ∙ ap (λ (ds : List Deed). Read body ∷ ds) (deeds_then heeds.steps works.steps
          ∙ ap (λ (ds : List Deed). ds ++ deeds_of works.steps) (heeds.deeds ∙ ap (λ (w : Whom). heeded (body_of w body) body) whom));
      follows = work_deeds works.steps works.work;
      ends = ends_on (step_of (Read body) a b noted ∷ []) (heeds.steps ++ works.steps) fault a b d (makes_goes (Read body) a b noted)
          (ends_on heeds.steps works.steps fault b c d heeds.goes works.ends);
    }

-- ---- changes

-- a look
pub looked : (port : ℕ) (seen : Seen) (is_tick : Bool) (a b : Process) → Makes (Looked port seen is_tick) a b → Works a b
looked port seen is_tick a b makes = work_made (Looked port seen is_tick) a b tt makes

-- a trial, or none
pub tried : (op : OpId) (did : Bool) (a b : Process) → Retries op did a b → Works a b
tried op true a b (act, makes) = work_made (Tried op.port act) a b tt makes
tried op false a b did = work_rests a b did.0

pub tried_until : (op : OpId) (fault : ProcessFault) (a b : Process) → StopsTrying op fault a b → WorksUntil fault a b
tried_until op ClockFull a b stops = until_ends ClockFull a b (silent_ends ClockFull a b stops.0 (inr (Retry op, stops.1)))
tried_until op OutOfMemory a b (inl stops) = until_ends OutOfMemory a b (silent_ends OutOfMemory a b stops tt)
tried_until op OutOfMemory a b (inr stops) = fails_until (Tried op.port stops.0) OutOfMemory a b stops.1

-- a hand, or none
pub handed : (port : ℕ) (did : Bool) (a b : Process) → HandsOver port did a b → Works a b
handed port true a b (inl (act, makes)) = work_made (Handed port act) a b tt makes
handed port true a b (inr (refusal, makes)) = work_made (Declined port refusal) a b tt makes
handed port false a b did = work_rests a b did.0

full_change : (port : ℕ) (change : Option Numbered) (a : Process) → told_of_change a port change → IsFull (setting_of a) (situation_of a)
full_change port (Some change) a told = inr (Issue port change.command, told)
full_change port None a told = absurd told

pub handed_until : (port : ℕ) (fault : ProcessFault) (a b : Process) → StopsHanding port fault a b → WorksUntil fault a b
handed_until port ClockFull a b stops = until_ends ClockFull a b (silent_ends ClockFull a b stops.0 (full_change port _ a stops.1))
handed_until port OutOfMemory a b stops = fails_until (Declined port stops.0) OutOfMemory a b stops.1
