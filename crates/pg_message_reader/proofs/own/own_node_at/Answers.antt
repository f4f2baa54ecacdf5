use Rattle.std.proofs.Common.{◌≡◌, ◌++◌, ◌∷◌, sym, ◌∙◌}
use Rattle.std.proofs.lemmas.List.{append_cancel_left}
use Rattle.pg_term_io.specs.Writing.{atom_bytes}
use Rattle.pg_message_reader.proofs.own.own_node_at.Goals as goal

pub returns-clause-all : goal.returns-clause-all
returns-clause-all c = λ rest e.
    let first = c.in_ok-rest.rest.now in
    let second = c.in_ok-rest-2.rest.now in
    let name = atom_bytes c.args.own.now in
    let one : 90 ∷ 0 ∷ 3 ∷ first ≡ 90 ∷ 0 ∷ 3 ∷ (name ++ 0 ∷ 0 ∷ 0 ∷ 1 ∷ rest) = sym c.in_ok-rest.ensures.found ∙ e in
    let two : first ≡ name ++ 0 ∷ 0 ∷ 0 ∷ 1 ∷ rest = cc in
    c.behind-2.ensures.all rest (append_cancel_left name second (0 ∷ 0 ∷ 0 ∷ 1 ∷ rest) (sym c.in_ok-rest-2.ensures.found ∙ two))
