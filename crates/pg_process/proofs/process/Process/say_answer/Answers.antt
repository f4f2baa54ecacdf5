use Rattle.std.proofs.Common.{◌++◌, ◌+◌, ◌∙◌, List, ℕ, refl, sym, ap, subst, append_assoc}
use Rattle.std.specs.List.{flat_map}
use Rattle.std.proofs.lemmas.List.Concat.{flat_map-append}
use Rattle.pg_node_process.specs.Outputs.{IsFramed, said as bytes_said}
use Rattle.pg_node_requests.specs.Replies.{has_ended_term}
use Rattle.pg_process.specs.Deeds.{IsReply, SaysEnded}
use Rattle.pg_process.specs.Situations.{Setting, own_of, setting_of}
use Rattle.pg_process.proofs.Chained.{all_then}
use Rattle.pg_process.proofs.process.Process.say_answer.Goals as goal

pub returns-in-Ok-say-clause-said : goal.returns-in-Ok-say-clause-said
returns-in-Ok-say-clause-said c =
    let a = c.args.self.now in
    let told = c.in-Ok.ensures.said in
    let says = c.in-Ok-say.ensures.said in (
      told.0 ++ says.0,
      record {
        notice = told.0;
        notices = subst (λ b. SaysEnded b (has_ended_term (own_of (setting_of a)) (c.args.port + 1) c.args.number) told.0) (sym c.if-not-is_ended.false) told.1;
        answer = says.0;
        replies = subst (λ (set : Setting). IsReply set c.args.port c.args.number c.args.reply says.0) (ap setting_of c.in-Ok.ensures.rest) says.1;
        says = refl;
      },
      all_then IsFramed told.0 says.0 told.2 says.2,
      says.3 ∙ (ap (λ (bytes : List ℕ). bytes ++ flat_map bytes_said says.0) told.3 ∙ (append_assoc a.outlet.gathered.items (flat_map bytes_said told.0) (flat_map bytes_said says.0)
          ∙ ap (λ (bytes : List ℕ). a.outlet.gathered.items ++ bytes) (sym (flat_map-append bytes_said told.0 says.0)))),
    )
