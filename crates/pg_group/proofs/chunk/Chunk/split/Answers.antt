use Rattle.std.proofs.Common.{◌∷◌, ◌++◌, [], sym, ◌∙◌}
use Rattle.pg_group.proofs.Chunks.{halved}
use Rattle.pg_group.proofs.chunk.Chunk.split.Goals as goal

pub returns-clause-some : goal.returns-clause-some
returns-clause-some c =
    halved c.args.self.now.front.items c.pop.new.self.items c.in-Some.last c.args.self.now.last 256 (sym c.in-Ok.ensures.items ∙ c.in-Some.ensures.items)
    ∙ (λ i. (sym c.shrink_to_fit.ensures.items i ++ c.in-Some.last ∷ []) ++ (sym c.in-Ok.ensures.tail i ++ c.args.self.now.last ∷ []))
