-- A deed whose only output is a reply.
use Rattle.std.proofs.Common.{◌≡◌, ◌∙◌, ℕ, List, ◌++◌, subst}
use Rattle.std.specs.Prelude.{Result, Ok, Err, OnOk}
use Rattle.std.specs.List.{AllByRecursion, flat_map}
use Rattle.pg_term.specs.declared.term.Term.{Term}
use Rattle.pg_node_process.specs.Logs.{entry_bytes}
use Rattle.pg_node_process.specs.Outputs.{IsFramed, Output, said as bytes_said}
use Rattle.pg_process.specs.declared.process.Process.{Process}
use Rattle.pg_process.specs.Chains.{Makes}
use Rattle.pg_process.specs.Deeds.{Deed, Does, IsReply, logged}
use Rattle.pg_process.specs.Situations.{Setting, setting_of, situation_of}

-- what follows of a value follows of the result
pub on_ok : {T E P Q : Type 0} (r : Result T E) → (P → Q) → OnOk r P → OnOk r Q
on_ok (Ok x) follows is = follows is
on_ok (Err e) follows is = tt

abbrev pub SaidIn : List ℕ → List ℕ → Setting → ℕ → ℕ → Term → Type 0
SaidIn before after set port number reply = (outputs : List Output) × IsReply set port number reply outputs × AllByRecursion IsFramed outputs × (after ≡ before ++ flat_map bytes_said outputs)

pub replied : (a b : Process) (deed : Deed) (set : Setting) (port number : ℕ) (reply : Term) → set ≡ setting_of a → setting_of b ≡ set
    → b.journal.gathered.items ≡ a.journal.gathered.items ++ flat_map entry_bytes (logged deed)
    → ((outputs : List Output) → IsReply (setting_of a) port number reply outputs → Does (setting_of a) (situation_of a) deed outputs (situation_of b))
    → SaidIn a.outlet.gathered.items b.outlet.gathered.items set port number reply → Makes deed a b
replied a b deed set port number reply same kept journal does (outputs, is, framed, wrote) = record {
  said = outputs;
  does = does outputs (subst (λ s. IsReply s port number reply outputs) same is);
  heard = framed;
  gathered = wrote;
  journal = journal;
  setting = kept ∙ same;
}
