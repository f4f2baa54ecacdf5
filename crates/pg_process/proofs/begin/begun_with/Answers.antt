use Rattle.std.proofs.Common.{◌∙◌, ℕ, List, length, sym, ap, subst}
use Rattle.pg_step.specs.Config.{first_table}
use Rattle.pg_node.specs.Begun.{BeginsLinked}
use Rattle.pg_node.specs.Links.{Link}
use Rattle.pg_node.specs.PgStep.Nodes.{Node}
use Rattle.pg_process.specs.Situations.{Situation}
use Rattle.pg_process.proofs.Situated.{setting}
use Rattle.pg_process.proofs.begin.begun_with.Goals as goal

pub returns-in-Ok-assembled-clause-begins : goal.returns-in-Ok-assembled-clause-begins
returns-in-Ok-assembled-clause-begins c =
    let config = c.args.config in
    let node = c.in-Ok-begun_node.ensures in
    let process = c.in-Ok-assembled.ensures in
    record {
      starts = record {
        setting = process.setting ∙ ap (λ (ns : List Node). setting ns config.ports) node.names;
        state = ap (λ (s : Situation). s.node.state) process.situation ∙ node.state;
        answers = ap (λ (s : Situation). s.node.answers) process.situation ∙ node.answers;
        links = subst (λ (links : ℕ → Link). BeginsLinked (first_table c.args.groups.now) config.own (length config.peers.items) links) (sym (ap (λ (s : Situation). s.links) process.situation)) node.begun;
        ports = ap (λ (s : Situation). s.ports) process.situation;
        courtesies = ap (λ (s : Situation). s.courtesies) process.situation;
        came = ap (λ (s : Situation). s.came) process.situation;
        told = ap (λ (s : Situation). s.told) process.situation;
      };
      outlet = process.outlet;
      journal = process.journal;
    }
