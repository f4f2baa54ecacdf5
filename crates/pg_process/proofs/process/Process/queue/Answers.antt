use Rattle.std.proofs.Common.{◌≡◌, ◌<◌, ◌≤◌, ◌∙◌, ℕ, true, false, nat_le, [], length, append-nil, refl, sym, ap, subst, arith}
use Rattle.std.proofs.lemmas.Bool.Decides.{nat_tests}
use Rattle.pg_node_process.specs.declared.desk.Taken.TheVariants.{Waits, Full}
use Rattle.pg_node_process.specs.Desks.{Changing, Port, TakesIn, next_number, nothing_came, port_after, port_of}
use Rattle.pg_node_requests.specs.Replies.{refused_term}
use Rattle.pg_process.specs.Deeds.{IsReply, Queued, SaysFull}
use Rattle.pg_process.specs.Situations.{setting_of, situation_of}
use Rattle.pg_process.proofs.Placed.{one_seen, seen_here}
use Rattle.pg_process.proofs.Replied.{on_ok, replied}
use Rattle.pg_process.proofs.process.Process.queue.Goals as goal

has_room : (n : ℕ) → n < 1024 → nat_le 1024 n ≡ false
has_room n few = grind (arith, nat_tests)

has_none : (n : ℕ) → 1024 ≤ n → nat_le 1024 n ≡ true
has_none n many = grind (arith, nat_tests)

pub returns-in-Waits-clause-made : goal.returns-in-Waits-clause-made
returns-in-Waits-clause-made c =
    let a = c.args.self.now in
    let old = c.index_mut.result.now in
    let within : c.args.port < length a.desks.items = omega (arith, c.requires, a.all_desks) in
    let here : (situation_of a).ports c.args.port ≡ port_of old = seen_here port_of nothing_came a.desks.items c.args.port old within c.index_mut.ensures.value in
    let took : TakesIn c.args.command (port_of old) Waits (port_of c.take_in.new.self) = subst (λ t. TakesIn c.args.command (port_of old) t (port_of c.take_in.new.self)) c.in-Waits.is c.in_ok-take_in.ensures.ok in
    let room : nat_le 1024 (length ((situation_of a).ports c.args.port).waiting) ≡ false = ap (λ (p : Port). nat_le 1024 (length p.waiting)) here ∙ has_room (length (port_of old).waiting) took.0 in record {
      said = [];
      does = record {
        says = subst (λ b. SaysFull b (setting_of a) c.args.port (next_number ((situation_of a).ports c.args.port)) []) (sym room) refl;
        after = ap (λ (ps : ℕ → Port). record (situation_of a) { ports = ps })
            (one_seen port_of nothing_came a.desks.items c.args.port old c.take_in.new.self (λ p. port_after p (Changing c.args.command)) within c.index_mut.ensures.value c.in_ok-take_in.ensures.step);
      };
      heard = tt;
      gathered = sym (append-nil a.outlet.gathered.items);
      journal = sym (append-nil a.journal.gathered.items);
      setting = refl;
    }

pub returns-in_ok-reply-in-Full-clause-made : goal.returns-in_ok-reply-in-Full-clause-made
returns-in_ok-reply-in-Full-clause-made c =
    let a = c.args.self.now in
    let old = c.index_mut.result.now in
    let number = c.in-Full.number in
    let within : c.args.port < length a.desks.items = omega (arith, c.requires, a.all_desks) in
    let here : (situation_of a).ports c.args.port ≡ port_of old = seen_here port_of nothing_came a.desks.items c.args.port old within c.index_mut.ensures.value in
    let took : TakesIn c.args.command (port_of old) (Full number) (port_of c.take_in.new.self) = subst (λ t. TakesIn c.args.command (port_of old) t (port_of c.take_in.new.self)) c.in-Full.is c.in_ok-take_in.ensures.ok in
    let full : nat_le 1024 (length ((situation_of a).ports c.args.port).waiting) ≡ true = ap (λ (p : Port). nat_le 1024 (length p.waiting)) here ∙ has_none (length (port_of old).waiting) took.0 in
    let count : number ≡ next_number ((situation_of a).ports c.args.port) = took.1 ∙ ap next_number (sym here) in
    on_ok c.say.result
    (replied a c.say.new.self (Queued c.args.port c.args.command) (setting_of a) c.args.port number c.in_ok-reply-in-Full.reply refl (ap setting_of c.say.ensures.rest)
    (ap (λ (p : _). p.journal.gathered.items) c.say.ensures.rest ∙ sym (append-nil a.journal.gathered.items))
    (λ outputs is. record {
      says = subst (λ b. SaysFull b (setting_of a) c.args.port (next_number ((situation_of a).ports c.args.port)) outputs) (sym full)
          (subst (λ n. IsReply (setting_of a) c.args.port n (refused_term 22) outputs) count (subst (λ t. IsReply (setting_of a) c.args.port number t outputs) c.in_ok-reply-in-Full.ensures is));
      after = ap situation_of c.say.ensures.rest ∙ ap (λ (ps : ℕ → Port). record (situation_of a) { ports = ps })
          (one_seen port_of nothing_came a.desks.items c.args.port old c.take_in.new.self (λ p. port_after p (Changing c.args.command)) within c.index_mut.ensures.value c.in_ok-take_in.ensures.step);
    }))
    c.say.ensures.said
