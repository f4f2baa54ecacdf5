use Rattle.std.proofs.Common.{◌∙◌, List, ℕ, ap, drop, subst, sym}
use Rattle.pg_node_process.specs.declared.body.Body.{Body}
use Rattle.pg_process.specs.Chains.{Makes}
use Rattle.pg_process.specs.Deeds.{Fed, Shared}
use Rattle.pg_process.specs.Hearing.{heeded}
use Rattle.pg_process.proofs.Chained.{heeds_one}
use Rattle.pg_process.proofs.Sayings.{behind_first}
use Rattle.pg_process.proofs.process.Process.heed_body.Goals as goal

pub returns-in-Denied-clause-heeds : goal.returns-in-Denied-clause-heeds
returns-in-Denied-clause-heeds c =
    heeds_one c.args.body.now (Shared c.in-Denied.port) c.args.self.now c.share.new.self (sym (ap (λ (b : Body). heeded b c.args.body.now) (sym c.requires ∙ c.in-Denied.is))) c.share.ensures

pub returns-in-Ok-feed-clause-heeds : goal.returns-in-Ok-feed-clause-heeds
returns-in-Ok-feed-clause-heeds c =
    heeds_one c.args.body.now (Fed c.in-Bytes.peer (drop 1 c.args.body.now)) c.args.self.now c.feed.new.self (sym (ap (λ (b : Body). heeded b c.args.body.now) (sym c.requires ∙ c.in-Bytes.is)))
    (subst (λ (bytes : List ℕ). Makes (Fed c.in-Bytes.peer bytes) c.args.self.now c.feed.new.self) (behind_first c.args.body.now) c.in-Ok-feed.ensures.made)
