use Rattle.std.proofs.Common.{refl}
use Rattle.pg_frame.specs.Frames.{frame}
use Rattle.pg_node_state.proofs.laws.one_form_of_frames.Goals as goal

pub returns : goal.returns
unfolding frame
returns c body = refl
