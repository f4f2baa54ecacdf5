use Rattle.pg_message_reader.proofs.direct.cast_at.Goals as goal

pub returns-in_ok-opened-in-3-clause-term : goal.returns-in_ok-opened-in-3-clause-term
returns-in_ok-opened-in-3-clause-term c = λ front opens. c.del_lock_at.ensures.term front c.args.bytes.now opens c.in_ok-opened-in-3.ensures.opens

pub returns-in_ok-opened-in-3-2-clause-term : goal.returns-in_ok-opened-in-3-2-clause-term
returns-in_ok-opened-in-3-2-clause-term c = λ front opens. c.exchange_at.ensures.term front c.args.bytes.now opens c.in_ok-opened-in-3-2.ensures.opens
