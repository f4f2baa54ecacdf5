use Rattle.std.proofs.Common.{sym, subst}
use Rattle.pg_world_packets.specs.Openings.{AreReady}
use Rattle.pg_world_packets.proofs.Opened.{of_ok, good_fits, good_fault}
use Rattle.pg_world_packets.proofs.begun.FrameNodes+IndexTable.new.Goals as goal

pub begun-requires : goal.begun-requires
begun-requires c = record { ready = subst AreReady (sym c.as_slice.ensures.value) c.in-Ok.ensures.ready }

pub returns-in-Ok-clause-good : goal.returns-in-Ok-clause-good
returns-in-Ok-clause-good c = of_ok c.begun.result c.in-Ok.ensures.good

pub returns-in-Ok-clause-fits : goal.returns-in-Ok-clause-fits
returns-in-Ok-clause-fits c = good_fits c.args.config.now.ring c.args.config.now.starts.items c.as_slice.result.now c.as_slice.ensures.value c.in-Ok.ensures.none c.begun.result c.begun.ensures.fits

pub returns-in-Ok-clause-fault : goal.returns-in-Ok-clause-fault
returns-in-Ok-clause-fault c = good_fault c.args.config.now.ring c.args.config.now.starts.items c.as_slice.result.now c.as_slice.ensures.value c.in-Ok.ensures.none c.begun.result c.in-Ok.ensures.few c.begun.ensures.fault

pub returns-in-Ok-clause-few : goal.returns-in-Ok-clause-few
returns-in-Ok-clause-few c = of_ok c.begun.result c.in-Ok.ensures.few
