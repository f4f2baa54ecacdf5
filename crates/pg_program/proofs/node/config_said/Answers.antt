use Rattle.std.proofs.Common.{◌∙◌, refl}
use Rattle.pg_program.proofs.Seats.{is_said}
use Rattle.pg_program.proofs.node.config_said.Goals as goal

pub returns-in-Ok-to_vec : goal.returns-in-Ok-to_vec
returns-in-Ok-to_vec c =
    let seat = c.args.seat.now in
    let all = c.as_slice.ensures.value in
    is_said seat (record { own = c.in-Ok.own; peers = c.in-Ok-atoms_in.peers; ports = seat.ports; made = seat.made; label = c.in-Ok-to_vec.label; mirrored = seat.is_mirrored }) c.in-Ok.ensures.name c.in-Ok.ensures.short
    (rw all at c.in-Ok-atoms_in.ensures.names) (rw all at c.in-Ok-atoms_in.ensures.short) refl refl (c.in-Ok-to_vec.ensures.items_if_clones_equal (λ x y e. e) ∙ c.as_bytes.ensures.value) refl
