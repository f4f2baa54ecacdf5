use Rattle.std.proofs.Common.{◌≡◌, ◌/◌, ◌%◌, true, false, arith}
use Rattle.pg_message_reader.proofs.own.own_words_at.Goals as goal

pub returns-in_err-number-clause-all : goal.returns-in_err-number-clause-all
returns-in_err-number-clause-all c = λ number rest l e.
    let words = (c.in_ok-words.ensures.value (number % 262144) (number / 262144) 0 rest (omega arith) (omega arith) (omega arith) e).0 in
    let no : false ≡ true = c.in_err-number.ensures.all number l words in absurd (cc)

pub returns-clause-rest : goal.returns-clause-rest
returns-clause-rest c = λ number rest l e.
    (c.in_ok-words.ensures.value (number % 262144) (number / 262144) 0 rest (omega arith) (omega arith) (omega arith) e).1
