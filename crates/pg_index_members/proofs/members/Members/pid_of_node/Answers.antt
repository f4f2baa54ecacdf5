use Rattle.std.proofs.Common.{◌≡◌, ◌+◌, ◌≤◌, None, length, sym, ap, ◌∙◌, arith}
use Rattle.std.specs.Prelude.{slice_get, option_copied}
use Rattle.pg_group.specs.Scope.{anywhere, at_node}
use Rattle.pg_index_members.specs.Forms.{rows_of}
use Rattle.pg_index_members.specs.Rows.{spread}
use Rattle.pg_index_members.proofs.Places.{length-all}
use Rattle.pg_index_members.proofs.Nodes.{past_end, placed_none, placed_on, placed_off}
use Rattle.pg_index_members.proofs.members.Members.pid_of_node.Goals as goal

pub returns-in_err-checked_add : goal.returns-in_err-checked_add
returns-in_err-checked_add c =
    let node = c.args.node.now in
    let rows = rows_of c.self.inside.rows in
    let place = c.rank-first.result + c.args.place in
    let all = length-all rows in
    let total = c.total.ensures.value in
    let fits = c.total.type_inv in
    let past : length (spread anywhere rows) ≤ place = omega (arith, c.in_err-checked_add.ensures) in
    let at : slice_get (spread anywhere rows) place ≡ None = past_end (spread anywhere rows) place past in
    ap option_copied c.from_residual.ensures
    ∙ sym (placed_none node rows c.args.place c.total.ensures.in_order (ap (λ n. slice_get (spread anywhere rows) (n + c.args.place)) (sym c.rank-first.ensures) ∙ at))
    ∙ ap (λ l. slice_get (spread (at_node node) l) c.args.place) c.self.view_is

pub returns-in_err-pid : goal.returns-in_err-pid
returns-in_err-pid c =
    let node = c.args.node.now in
    let rows = rows_of c.self.inside.rows in
    ap option_copied c.from_residual-in_err-pid.ensures
    ∙ sym (placed_none node rows c.args.place c.total.ensures.in_order (ap (λ n. slice_get (spread anywhere rows) (n + c.args.place)) (sym c.rank-first.ensures) ∙ ap (slice_get (spread anywhere rows)) (sym c.in_ok-checked_add.ensures.1) ∙ sym c.in_err-pid.ensures))
    ∙ ap (λ l. slice_get (spread (at_node node) l) c.args.place) c.self.view_is

pub returns-then-eq : goal.returns-then-eq
returns-then-eq c =
    let node = c.args.node.now in
    let rows = rows_of c.self.inside.rows in
    sym (placed_on node rows c.args.place c.in_ok-pid.pid.now c.total.ensures.in_order (ap (λ n. slice_get (spread anywhere rows) (n + c.args.place)) (sym c.rank-first.ensures) ∙ ap (slice_get (spread anywhere rows)) (sym c.in_ok-checked_add.ensures.1) ∙ sym c.in_ok-pid.ensures) (sym c.if-eq.ensures))
    ∙ ap (λ l. slice_get (spread (at_node node) l) c.args.place) c.self.view_is

pub returns-else-eq : goal.returns-else-eq
returns-else-eq c =
    let node = c.args.node.now in
    let rows = rows_of c.self.inside.rows in
    sym (placed_off node rows c.args.place c.in_ok-pid.pid.now c.total.ensures.in_order (ap (λ n. slice_get (spread anywhere rows) (n + c.args.place)) (sym c.rank-first.ensures) ∙ ap (slice_get (spread anywhere rows)) (sym c.in_ok-checked_add.ensures.1) ∙ sym c.in_ok-pid.ensures) (sym c.if-eq.ensures))
    ∙ ap (λ l. slice_get (spread (at_node node) l) c.args.place) c.self.view_is
