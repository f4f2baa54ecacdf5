-- The lines that a run prints.
use Rattle.std.specs.Prelude.{ℕ, List, [], ◌∷◌, ◌++◌, Bool, true, false, decimal, codes, map}
use Rattle.std.specs.List.{flat_map}
use Rattle.pg_term.specs.declared.pid.Pid.{Pid}
use Rattle.pg_term.specs.declared.term.Term.{Term}
use Rattle.pg_step.specs.declared.answer.Answer.{Answer}
use Rattle.pg_step.specs.declared.answer.Reply.{Reply}
use Rattle.pg_step.specs.declared.answer.Reply.TheVariants.{Ok, Made, Pids, Closest, Groups}
use Rattle.pg_step.specs.declared.answer.Reply.TheVariants.{NoSuchGroup, NoProcess, Refused}
use Rattle.pg_text.specs.Writing.{atom_text, pid_text, term_text}

-- ---- answers

-- each behind a comma
abbrev pub more_pids : List Pid → List ℕ
more_pids = flat_map (λ pid. 44 ∷ pid_text pid)

abbrev pub more_names : List Term → List ℕ
more_names = flat_map (λ name. 44 ∷ term_text name)

-- with commas between them
abbrev pub listed_pids : List Pid → List ℕ
listed_pids [] = []
listed_pids (pid ∷ pids) = pid_text pid ++ more_pids pids

abbrev pub listed_names : List Term → List ℕ
listed_names [] = []
listed_names (name ∷ names) = term_text name ++ more_names names

-- `[PID,..]`
abbrev pub pids_text : List Pid → List ℕ
pids_text pids = 91 ∷ listed_pids pids ++ 93 ∷ []

-- `[TERM,..]`
abbrev pub names_text : List Term → List ℕ
names_text names = 91 ∷ listed_names names ++ 93 ∷ []

abbrev pub error_text : List ℕ → Term → List ℕ
error_text head name = head ++ term_text name ++ codes "}}"

-- `refused N`
abbrev pub refused_text : ℕ → List ℕ
refused_text number = codes "refused " ++ decimal number

abbrev pub reply_text : Reply → List ℕ
reply_text Ok = codes "ok"
reply_text (Made pid) = pid_text pid
reply_text (Closest pid) = pid_text pid
reply_text (Pids pids) = pids_text pids
reply_text (Groups names) = names_text names
reply_text (NoSuchGroup name) = error_text (codes "{error,{no_such_group,") name
reply_text (NoProcess name) = error_text (codes "{error,{no_process,") name
reply_text (Refused number) = refused_text number

-- `NODE NUMBER ANSWER`
abbrev pub answer_line : List ℕ → Answer → List ℕ
answer_line node answer = atom_text node ++ 32 ∷ decimal answer.number ++ 32 ∷ reply_text answer.reply ++ 10 ∷ []

-- ---- what else lines print

abbrev pub state_text : Bool → List ℕ
state_text true = codes " free\n"
state_text false = codes " held\n"

-- `lock NODE GROUP free` or `lock NODE GROUP held`
abbrev pub lock_line : List ℕ → Term → Bool → List ℕ
lock_line node group is_free = codes "lock " ++ atom_text node ++ 32 ∷ term_text group ++ state_text is_free

-- `outbox NODE NODE N`
abbrev pub outbox_line : List ℕ → List ℕ → ℕ → List ℕ
outbox_line from to len = codes "outbox " ++ atom_text from ++ 32 ∷ atom_text to ++ 32 ∷ decimal len ++ 10 ∷ []

-- `line L refused N`
abbrev pub refused_line : ℕ → ℕ → List ℕ
refused_line line number = codes "line " ++ decimal line ++ 32 ∷ refused_text number ++ 10 ∷ []
