use Rattle.std.proofs.Common.{refl, sym, ap, ◌∙◌, []}
use Rattle.std.proofs.lemmas.List.{append-nil}
use Rattle.pg_text.specs.Reading.{term_at, whole}
use Rattle.pg_text.specs.Writing.{term_text}
use Rattle.pg_text.proofs.ValuesBack.{value_back, name_back, whole_pid_back}
use Rattle.pg_text.proofs.laws.printed_is_read.Goals as goal

pub returns-clause-terms : goal.returns-clause-terms
returns-clause-terms c = λ t value deep. ap whole (ap (term_at 64) (sym (append-nil (term_text t))) ∙ (value_back t value).back 64 [] deep refl)

pub returns-clause-atoms : goal.returns-clause-atoms
returns-clause-atoms c = name_back

pub returns-clause-pids : goal.returns-clause-pids
returns-clause-pids c = whole_pid_back
