use Rattle.std.proofs.Common.{sym, ◌∙◌}
use Rattle.pg_term.specs.declared.faults.TheConstants.{TRUNCATED}
use Rattle.pg_node_requests.specs.declared.input.Input.TheVariants as forms
use Rattle.pg_talk.proofs.BodiesRead.{ends_cut, ends_whole}
use Rattle.pg_talk.proofs.ThreadReads.{ends_by}
use Rattle.pg_talk.proofs.service.reading.Reading.end_of_input.Goals as goal

pub returns-then-rest_len-eq0-clause-end : goal.returns-then-rest_len-eq0-clause-end
returns-then-rest_len-eq0-clause-end g c =
    let self = c.args.self.now in
    let remaining = g.S.Source.remaining in
    let fails = g.S.Source.fails in
    ends_by remaining fails self c.end.new.self forms.End c.end.ensures.same c.end.ensures.gave
    (ends_whole remaining fails self.layout.nodes.items (remaining self.source) self.deframer.unread self.requests c.requires.source (sym c.rest_len.ensures.value ∙ c.if-rest_len-eq0.true))

pub returns-else-rest_len-eq0-clause-end : goal.returns-else-rest_len-eq0-clause-end
returns-else-rest_len-eq0-clause-end g c =
    let self = c.args.self.now in
    let remaining = g.S.Source.remaining in
    let fails = g.S.Source.fails in
    let end = c.end-else-rest_len-eq0 in
    ends_by remaining fails self end.new.self (forms.Broken TRUNCATED) end.ensures.same end.ensures.gave
    (ends_cut remaining fails self.layout.nodes.items (remaining self.source) self.deframer.unread self.requests c.requires.wanted c.requires.source
    (λ e. c.if-rest_len-eq0.false (c.rest_len.ensures.value ∙ e)) c.requires.none)
