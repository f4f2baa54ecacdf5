use Rattle.pg_node.proofs.Linked.{as_err}
use Rattle.pg_process.proofs.process.Process.heed.Goals as goal

pub returns-in-Ok-clause-until : goal.returns-in-Ok-clause-until
returns-in-Ok-clause-until c =
    as_err c.heed_body.result _ _ (λ fault ends. record {
      last = ends.last;
      does = ends.does;
      cause = ends.cause;
      heard = ends.heard;
      gathered = ends.gathered;
      more = ends.more;
      journal = ends.journal;
    }) c.heed_body.ensures.until
