use Rattle.std.proofs.Common.{◌≡◌, ◌∷◌, [], List, ℕ, codes, length, eqb, true, false, refl, sym, ap, subst, ◌∙◌}
use Rattle.std.proofs.lemmas.List.{append_cancel_left}
use Rattle.pg_message_types.specs.Reading.{packet_spelled}
use Rattle.pg_message_types.specs.Writing.{message_term, said_term}
use Rattle.pg_message_types.specs.declared.message.Message.TheVariants.{Reply}
use Rattle.pg_term.specs.declared.term.Term.TheVariants.{Ref}
use Rattle.pg_refs.specs.Numbered.{numbered}
use Rattle.pg_message_reader.specs.Standing.{Stands, word_bytes, said_bytes}
use Rattle.pg_message_reader.proofs.Standing.{packet_stands, triple_stands, nothing_left}
use Rattle.pg_message_reader.proofs.OwnReplies.{behind_head, behind_stamp, behind_opening, reply_laid, stamp_once, stamp_found, said_end, said_found}
use Rattle.pg_message_reader.proofs.own.own_reply_in.Goals as goal

pub returns-clause-found : goal.returns-clause-found
returns-clause-found c =
    let reference = numbered c.args.own.now c.in_ok-number.number in
    let message = Reply reference c.in_ok-said.said in
    let last = nothing_left c.in_ok-said.rest.now (sym c.is_empty.ensures ∙ c.if-not-is_empty.false) in
    let stands : Stands 62 (message_term message) c.in_ok-stamp.rest.now c.in_ok-said.rest.now =
    triple_stands 61 (codes "reply") c.in_ok-stamp.rest.now c.in_ok-rest-2.rest.now (Ref reference) (said_term c.in_ok-said.said) c.in_ok-number.rest.now c.in_ok-said.rest.now
    c.in_ok-rest-2.ensures.opens (c.in_ok-number.ensures.term 61) c.in_ok-said.ensures.term in
    ap packet_spelled c.in_ok-rest.ensures.found
    ∙ packet_stands (record { stamp = c.in_ok-stamp.stamp; message = message }) c.in_ok-rest.rest.now c.in_ok-stamp.rest.now (c.in_ok-stamp.ensures.term 62)
    (subst (λ (rest : List ℕ). Stands 62 (message_term message) c.in_ok-stamp.rest.now rest) last stands) c.in_ok-stamp.ensures.in_time refl

pub returns-in_err-rest-clause-all : goal.returns-in_err-rest-clause-all
returns-in_err-rest-clause-all c = λ reply l n e.
    let own = c.args.own.now in
    let laid : c.args.body.now ≡ 131 ∷ 104 ∷ 2 ∷ behind_head own reply = e ∙ reply_laid own reply in
    let no : false ≡ true = c.in_err-rest.ensures.all (behind_head own reply) laid in absurd (cc)

pub returns-in_err-stamp-clause-all : goal.returns-in_err-stamp-clause-all
returns-in_err-stamp-clause-all c = λ reply l n e.
    let own = c.args.own.now in
    let laid : c.args.body.now ≡ 131 ∷ 104 ∷ 2 ∷ behind_head own reply = e ∙ reply_laid own reply in
    let head : 131 ∷ 104 ∷ 2 ∷ c.in_ok-rest.rest.now ≡ 131 ∷ 104 ∷ 2 ∷ behind_head own reply = sym c.in_ok-rest.ensures.found ∙ laid in
    let one : c.in_ok-rest.rest.now ≡ behind_head own reply = cc in
    let no : false ≡ true = stamp_found (false ≡ true) reply.stamp c.in_ok-rest.rest.now (behind_stamp own reply) l c.in_err-stamp.ensures.small c.in_err-stamp.ensures.large one in absurd (cc)

pub returns-in_err-rest-2-clause-all : goal.returns-in_err-rest-2-clause-all
returns-in_err-rest-2-clause-all c = λ reply l n e.
    let own = c.args.own.now in
    let laid : c.args.body.now ≡ 131 ∷ 104 ∷ 2 ∷ behind_head own reply = e ∙ reply_laid own reply in
    let head : 131 ∷ 104 ∷ 2 ∷ c.in_ok-rest.rest.now ≡ 131 ∷ 104 ∷ 2 ∷ behind_head own reply = sym c.in_ok-rest.ensures.found ∙ laid in
    let one : c.in_ok-rest.rest.now ≡ behind_head own reply = cc in
    let two : c.in_ok-stamp.rest.now ≡ behind_stamp own reply = stamp_once c.in_ok-stamp.stamp reply.stamp c.in_ok-rest.rest.now c.in_ok-stamp.rest.now (behind_stamp own reply) (c.in_ok-stamp.ensures.term 62) l one in
    let no : false ≡ true = c.in_err-rest-2.ensures.all (behind_opening own reply) two in absurd (cc)

pub returns-in_err-number-clause-all : goal.returns-in_err-number-clause-all
returns-in_err-number-clause-all c = λ reply l n e.
    let own = c.args.own.now in
    let laid : c.args.body.now ≡ 131 ∷ 104 ∷ 2 ∷ behind_head own reply = e ∙ reply_laid own reply in
    let head : 131 ∷ 104 ∷ 2 ∷ c.in_ok-rest.rest.now ≡ 131 ∷ 104 ∷ 2 ∷ behind_head own reply = sym c.in_ok-rest.ensures.found ∙ laid in
    let one : c.in_ok-rest.rest.now ≡ behind_head own reply = cc in
    let two : c.in_ok-stamp.rest.now ≡ behind_stamp own reply = stamp_once c.in_ok-stamp.stamp reply.stamp c.in_ok-rest.rest.now c.in_ok-stamp.rest.now (behind_stamp own reply) (c.in_ok-stamp.ensures.term 62) l one in
    let three : c.in_ok-rest-2.rest.now ≡ behind_opening own reply = append_cancel_left (104 ∷ 3 ∷ word_bytes (codes "reply")) c.in_ok-rest-2.rest.now (behind_opening own reply) (sym c.in_ok-rest-2.ensures.found ∙ two) in
    let no : false ≡ true = c.in_err-number.ensures.all reply.number (said_bytes reply.said) n three in absurd (cc)

pub returns-in_err-said-clause-all : goal.returns-in_err-said-clause-all
returns-in_err-said-clause-all c = λ reply l n e.
    let own = c.args.own.now in
    let laid : c.args.body.now ≡ 131 ∷ 104 ∷ 2 ∷ behind_head own reply = e ∙ reply_laid own reply in
    let head : 131 ∷ 104 ∷ 2 ∷ c.in_ok-rest.rest.now ≡ 131 ∷ 104 ∷ 2 ∷ behind_head own reply = sym c.in_ok-rest.ensures.found ∙ laid in
    let one : c.in_ok-rest.rest.now ≡ behind_head own reply = cc in
    let two : c.in_ok-stamp.rest.now ≡ behind_stamp own reply = stamp_once c.in_ok-stamp.stamp reply.stamp c.in_ok-rest.rest.now c.in_ok-stamp.rest.now (behind_stamp own reply) (c.in_ok-stamp.ensures.term 62) l one in
    let three : c.in_ok-rest-2.rest.now ≡ behind_opening own reply = append_cancel_left (104 ∷ 3 ∷ word_bytes (codes "reply")) c.in_ok-rest-2.rest.now (behind_opening own reply) (sym c.in_ok-rest-2.ensures.found ∙ two) in
    let four : c.in_ok-number.rest.now ≡ said_bytes reply.said = c.in_ok-number.ensures.rest reply.number (said_bytes reply.said) n three in
    let no : false ≡ true = said_found (false ≡ true) reply.said c.in_ok-number.rest.now c.in_err-said.ensures.applied c.in_err-said.ensures.granted c.in_err-said.ensures.denied four in absurd (cc)

pub returns-then-not-is_empty-clause-all : goal.returns-then-not-is_empty-clause-all
returns-then-not-is_empty-clause-all c = λ reply l n e.
    let own = c.args.own.now in
    let laid : c.args.body.now ≡ 131 ∷ 104 ∷ 2 ∷ behind_head own reply = e ∙ reply_laid own reply in
    let head : 131 ∷ 104 ∷ 2 ∷ c.in_ok-rest.rest.now ≡ 131 ∷ 104 ∷ 2 ∷ behind_head own reply = sym c.in_ok-rest.ensures.found ∙ laid in
    let one : c.in_ok-rest.rest.now ≡ behind_head own reply = cc in
    let two : c.in_ok-stamp.rest.now ≡ behind_stamp own reply = stamp_once c.in_ok-stamp.stamp reply.stamp c.in_ok-rest.rest.now c.in_ok-stamp.rest.now (behind_stamp own reply) (c.in_ok-stamp.ensures.term 62) l one in
    let three : c.in_ok-rest-2.rest.now ≡ behind_opening own reply = append_cancel_left (104 ∷ 3 ∷ word_bytes (codes "reply")) c.in_ok-rest-2.rest.now (behind_opening own reply) (sym c.in_ok-rest-2.ensures.found ∙ two) in
    let four : c.in_ok-number.rest.now ≡ said_bytes reply.said = c.in_ok-number.ensures.rest reply.number (said_bytes reply.said) n three in
    let five : c.in_ok-said.rest.now ≡ [] = said_end c.in_ok-said.said reply.said c.in_ok-said.rest.now (sym c.in_ok-said.ensures.found ∙ four) in
    let no : false ≡ true = sym (sym c.is_empty.ensures ∙ c.if-not-is_empty.true) ∙ ap (λ (rest : List ℕ). eqb (length rest) 0) five in absurd (cc)
