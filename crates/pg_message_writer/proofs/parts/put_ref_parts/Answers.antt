use Rattle.std.proofs.Common.{arith}
use Rattle.pg_message_writer.proofs.Marks.{mark_put, mark_len}
use Rattle.pg_message_writer.proofs.parts.put_ref_parts.Goals as goal

pub extend_reserved-requires : goal.extend_reserved-requires
extend_reserved-requires c = omega (arith, mark_len c.args.node.now c.args.creation c.args.words.now c.told-words, c.requires)

pub put_atom-requires : goal.put_atom-requires
put_atom-requires c = omega (arith, mark_len c.args.node.now c.args.creation c.args.words.now c.told-words, c.requires, c.extend_reserved.ensures.spare)

pub extend_reserved-requires-2 : goal.extend_reserved-requires-2
extend_reserved-requires-2 c = omega (arith, mark_len c.args.node.now c.args.creation c.args.words.now c.told-words, c.requires, c.extend_reserved.ensures.spare, c.put_atom.ensures.spare)

pub extend_reserved-requires-3 : goal.extend_reserved-requires-3
extend_reserved-requires-3 c = omega (arith, mark_len c.args.node.now c.args.creation c.args.words.now c.told-words, c.requires, c.extend_reserved.ensures.spare, c.put_atom.ensures.spare, c.extend_reserved-2.ensures.spare)

pub extend_reserved-requires-4 : goal.extend_reserved-requires-4
extend_reserved-requires-4 c = omega (arith, mark_len c.args.node.now c.args.creation c.args.words.now c.told-words, c.requires, c.extend_reserved.ensures.spare, c.put_atom.ensures.spare, c.extend_reserved-2.ensures.spare, c.extend_reserved-3.ensures.spare)

pub extend_reserved-requires-5 : goal.extend_reserved-requires-5
extend_reserved-requires-5 c = omega (arith, mark_len c.args.node.now c.args.creation c.args.words.now c.told-words, c.requires, c.extend_reserved.ensures.spare, c.put_atom.ensures.spare, c.extend_reserved-2.ensures.spare, c.extend_reserved-3.ensures.spare, c.extend_reserved-4.ensures.spare)

pub returns : goal.returns
returns c =
    mark_put c.args.node.now c.args.creation c.args.out.now c.extend_reserved.new.self c.put_atom.new.out c.extend_reserved-2.new.self c.extend_reserved-3.new.self c.extend_reserved-4.new.self c.extend_reserved-5.new.self
    c.to_be_bytes.result c.to_be_bytes-2.result c.to_be_bytes-3.result c.to_be_bytes-4.result c.args.words.now c.told-words c.fits-words (omega arith) c.put_atom.ensures.spelled
    c.to_be_bytes.ensures c.to_be_bytes-2.ensures c.to_be_bytes-3.ensures c.to_be_bytes-4.ensures
    c.extend_reserved.ensures.items c.extend_reserved.ensures.spare c.put_atom.ensures.items c.put_atom.ensures.spare c.extend_reserved-2.ensures.items c.extend_reserved-2.ensures.spare
    c.extend_reserved-3.ensures.items c.extend_reserved-3.ensures.spare c.extend_reserved-4.ensures.items c.extend_reserved-4.ensures.spare c.extend_reserved-5.ensures.items c.extend_reserved-5.ensures.spare
