use Rattle.std.proofs.Common.{rules, arith, ◌≡◌, ◌+◌, ◌∷◌, ◌++◌, [], length}
use Rattle.std.proofs.Common.{map, ap, sym, ◌∙◌, append_assoc, length-append}
use Rattle.std.proofs.lemmas.List.{length-map}
use Rattle.std.specs.Vec.Iter.{into_iter_items}
use Rattle.pg_cluster_judges.specs.PgNodeRun.Runs.{generator_of}
use Rattle.pg_cluster.specs.Threads.{HasLinks, node_in, row_in}
use Rattle.pg_cluster.proofs.Making.{lists}
use Rattle.pg_cluster.proofs.Paired.{pairs_here}
use Rattle.pg_cluster.proofs.Starts.{all_of_it, one_moves}
use Rattle.pg_cluster.proofs.runs.make_all.Goals as goal

-- there is a row for each node
pub unreachable-requires : goal.unreachable-requires
unreachable-requires g c =
    let was = c.loop-node.invariant in
    let runs = c.loop-node.made.runs.items in
    let left = into_iter_items c.loop-node.rows in
    let none : length left ≡ 0 = sym c.loop-node.rows.rest.ok.0 ∙ c.in-None-next.ensures.cases.0 in
    let fewer = c.in-Some.ensures.steps.1 in
    let size = was.5 in
    let whole = c.requires.rows.len in
    let joined = ap length was.3 in
    let parts = length-append (map row_in runs) (lists left) in
    let first = length-map runs row_in in
    let last : length (lists left) ≡ 0 = length-map left (λ v. v.items) ∙ none in
    omega (arith, fewer, size, whole, joined, parts, first, last)

-- and a generator
pub unreachable-requires-in-None-next-2 : goal.unreachable-requires-in-None-next-2
unreachable-requires-in-None-next-2 g c =
    let was = c.loop-node.invariant in
    let left = into_iter_items c.loop-node.generators in
    let none : length left ≡ 0 = sym c.loop-node.generators.rest.ok.0 ∙ c.in-None-next-2.ensures.cases.0 in
    let fewer = c.in-Some.ensures.steps.1 in
    let size = was.5 in
    let whole = c.requires.generators in
    let count = was.9 in
    omega (arith, fewer, size, whole, count, none)

pub add-requires : goal.add-requires
add-requires g c =
    let was = c.loop-node.invariant in
    let runs = c.loop-node.made.runs.items in
    let rest = into_iter_items c.next.new.self in
    let rows = into_iter_items c.next-in-loop-node.new.self in
    let step : into_iter_items c.loop-node.rows ≡ c.in-Some-next.row ∷ rows = search rules in
    record {
      links = pairs_here HasLinks (lists c.args.rows.items) (map row_in runs) (lists rows) c.args.nodes.items (map node_in runs) rest c.in-Some-next.row.items c.in-Some.node c.requires.rows
          (ap (λ zs. map row_in runs ++ lists zs) (sym step) ∙ was.3) (ap (λ zs. map node_in runs ++ zs) (sym c.in-Some.ensures.steps.0) ∙ was.2)
          (length-map runs row_in ∙ sym (length-map runs node_in));
    }

pub loop-node-preserved : goal.loop-node-preserved
loop-node-preserved g c =
    let was = c.loop-node.invariant in
    let runs = c.loop-node.made.runs.items in
    let added = c.in-Ok.ensures in
    let rest = into_iter_items c.next.new.self in
    let rows = into_iter_items c.next-in-loop-node.new.self in
    let generators = into_iter_items c.next-in-loop-node-2.new.self in
    let step : into_iter_items c.loop-node.rows ≡ c.in-Some-next.row ∷ rows = search rules in
    let drawn : into_iter_items c.loop-node.generators ≡ c.in-Some-next-2.generator ∷ generators = search rules in
    let more : length c.add.new.self.runs.items ≡ length runs + 1 =
    sym (length-map c.add.new.self.runs.items node_in) ∙ (ap length added.nodes ∙ (length-append (map node_in runs) (c.in-Some.node ∷ []) ∙ ap (λ n. n + 1) (length-map runs node_in)))
    in (
      search rules,
      search rules,
      ap (λ xs. xs ++ rest) added.nodes ∙ (append_assoc (map node_in runs) (c.in-Some.node ∷ []) rest ∙ (ap (λ zs. map node_in runs ++ zs) (sym c.in-Some.ensures.steps.0) ∙ was.2)),
      ap (λ xs. xs ++ map (λ v. v.items) rows) added.rows ∙ one_moves (λ v. v.items) (map row_in runs) (into_iter_items c.loop-node.rows) rows c.in-Some-next.row _ (sym step) was.3,
      added.unlogged was.4,
      (let fewer = c.in-Some.ensures.steps.1 in let size = was.5 in omega arith),
      added.clients was.6,
      added.notices was.7,
      added.untold was.8,
      (let all = ap length drawn in let count = was.9 in omega (arith, more, all, count)),
      ap (λ xs. xs ++ generators) added.generators ∙ (append_assoc (map generator_of runs) (c.in-Some-next-2.generator ∷ []) generators ∙ (ap (λ zs. map generator_of runs ++ zs) (sym drawn) ∙ was.10)),
    )

pub returns-clause-rows : goal.returns-clause-rows
returns-clause-rows g c =
    let was = c.loop-node.invariant in
    let runs = c.loop-node.made.runs.items in
    let left = was.5 in
    let n = c.in-None.ensures.steps.0 in
    let count : length runs ≡ length c.args.nodes.items = omega arith in
    all_of_it (map row_in runs) _ (lists c.args.rows.items) was.3 (length-map runs row_in ∙ (count ∙ sym c.requires.rows.len))

pub returns-clause-generators : goal.returns-clause-generators
returns-clause-generators g c =
    let was = c.loop-node.invariant in
    let runs = c.loop-node.made.runs.items in
    let left = was.5 in
    let n = c.in-None.ensures.steps.0 in
    let count : length runs ≡ length c.args.nodes.items = omega arith in
    all_of_it (map generator_of runs) _ c.args.generators.items was.10 (length-map runs generator_of ∙ (count ∙ sym c.requires.generators))
