use Rattle.std.proofs.Common.{rules}
use Rattle.std.proofs.Math.Path.{fun_ext}
use Rattle.pg_term.specs.Same.{same_pid}
use Rattle.pg_group.proofs.Drops.{each_less}
use Rattle.pg_group.proofs.rows.drop_pid.Goals as goal

pub returns : goal.returns
returns c = fun_ext (λ name. each_less _ (same_pid c.args.pid.now) _ (λ k v b w f' t. search rules) c.args.rows.now.entries c.retain.new.self.entries c.retain.ensures.filtered name)
