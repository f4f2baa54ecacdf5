-- What is reported after the rest stands after the rest of the history.
use Rattle.std.proofs.Common.{◌≡◌, Bool, true, false, cond, List, [], ◌∷◌, ◌++◌, refl, ap, sym, ◌∙◌, ℕ}
use Rattle.std.proofs.lemmas.List.{append_assoc}
use Rattle.pg_term.specs.declared.term.Term.{Term}
use Rattle.pg_term.specs.Same.{same_term}
use Rattle.pg_step.specs.PgGroup.Value.{name_of}
use Rattle.pg_step.specs.PgMessageTypes.declared.message.Message.{Message}
use Rattle.pg_step.specs.Machines.Machine.{Event}
use Rattle.pg_step.specs.Machines.Clocked.{TimedWorld, plain}
use Rattle.pg_step.specs.Machines.Runs.{Leads}
use Rattle.pg_step.specs.State.{State}
use Rattle.pg_step.specs.Turns.{Report}
use Rattle.pg_step.specs.Step.{CLOCK_LIMIT, Action}
use Rattle.pg_step.specs.Config.{Config}
use Rattle.pg_step.specs.FrameMachine.{machine_of, frame_machine, FrameWorld}
use Rattle.pg_laws.specs.History.{Entry, entry_of, entries, of_group, history}
use Rattle.pg_laws.specs.Headline.{GoesOn}
use Rattle.pg_step.proofs.Machines.Sequences.{tells}
use Rattle.pg_step.proofs.Machines.Plain.{plain_leads}

pub entries_append : (ts us : List (ℕ × Report)) → entries (ts ++ us) ≡ entries ts ++ entries us
entries_append [] us = refl
entries_append (t ∷ ts) us = ap (λ es. entry_of t.0 t.1.began ++ es) (entries_append ts us) ∙ sym (append_assoc (entry_of t.0 t.1.began) (entries ts) (entries us))

pub of_group_append : (name : Term) (es fs : List Entry) → of_group name (es ++ fs) ≡ of_group name es ++ of_group name fs
of_group_append name [] fs = refl
of_group_append name (e ∷ es) fs = go (same_term name (name_of e.update)) (of_group_append name es fs)
  where
    go : (b : Bool) → of_group name (es ++ fs) ≡ of_group name es ++ of_group name fs
        → cond b (e ∷ of_group name (es ++ fs)) (of_group name (es ++ fs)) ≡ cond b (e ∷ of_group name es) (of_group name es) ++ of_group name fs
    go true same = ap (λ xs. e ∷ xs) same
    go false same = same

pub history_append : (name : Term) (ts us : List (ℕ × Report)) → history name (ts ++ us) ≡ history name ts ++ history name us
history_append name ts us = ap (of_group name) (entries_append ts us) ∙ of_group_append name (entries ts) (entries us)

pub goes_on : (config : Config) (es : List (Event Action)) (w v : FrameWorld) → Leads (machine_of config) w es v → GoesOn w v
goes_on config es w v l name =
    let all = tells (machine_of config) es w v l in
    (history name all.0, ap (history name) all.1 ∙ history_append name w.reported all.0)

pub timed_goes_on : (config : Config) (w v : TimedWorld State Message Report) (es : List (Event Action)) → Leads (frame_machine config) w es v → GoesOn (plain w) (plain v)
timed_goes_on config w v es l = goes_on config es (plain w) (plain v) (plain_leads (machine_of config) CLOCK_LIMIT es w v l)
