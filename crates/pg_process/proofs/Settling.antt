-- What is done once, and stays so.
use Rattle.std.proofs.Common.{◌≡◌, ◌≢◌, ◌⊎◌, ◌<◌, ◌≤◌, ◌+◌, ◌∙◌, ℕ, Bool, cond, drop, length, List, [], inl, inr, refl, sym, ap, subst, arith}
use Rattle.std.specs.Prelude.{Result, Ok, Err, OnOk}
use Rattle.std.proofs.lemmas.Bool.{cases_eq, ne_eqb}
use Rattle.pg_node.specs.Links.{Link, without_front}
use Rattle.pg_node.specs.Nodes.{held_by, links_of}
use Rattle.pg_node.specs.PgGroup.Functions.{upd}
use Rattle.pg_node.specs.PgNodeState.States.{answers_of}
use Rattle.pg_node.specs.PgStep.declared.answer.Answer.{Answer}
use Rattle.pg_node_process.specs.declared.retries.Courtesy.{Courtesy}
use Rattle.pg_node_process.specs.Desks.{Port}
use Rattle.pg_node_process.specs.Retries.{gives_way}
use Rattle.pg_node_run.specs.Acts.{Standing}
use Rattle.pg_node_run.proofs.Moving.{link_else, link_there}
use Rattle.pg_process.specs.declared.fault.ProcessFault.{ProcessFault}
use Rattle.pg_process.specs.declared.process.Process.{Process}
use Rattle.pg_term.specs.declared.pid.Pid.{Pid}
use Rattle.pg_node.specs.PgGroup.Ended.{IsEndedCount}
use Rattle.pg_process.specs.Chains.{Makes, Rests, Works}
use Rattle.pg_process.specs.Deeds.{Aged, Answered, Crowded, Formed, OLD_CLOCK, Sent}
use Rattle.pg_process.specs.Locks.{IsDenied, is_formed}
use Rattle.pg_process.specs.Settled.{AllToldDenied, IsSettled, IsToldAll, IsToldFormed, IsToldMany, IsToldOld, NoneComes, NoneKeeps, NoneUnsaid, NoneWaits, OnlyDenied, OnlyLinks, OnlySends, OnlyTold}
use Rattle.pg_process.specs.Situations.{Setting, Situation, setting_of, situation_of}
use Rattle.pg_process.specs.Takings.{HasNone}
use Rattle.pg_process.proofs.Lasting.{none_lasts}
use Rattle.pg_process.proofs.Situated.{same_peers}

-- ---- formed

-- it stays said where only links are others
pub stays_told : (a b : Process) → setting_of b ≡ setting_of a → OnlyLinks a b → IsToldFormed (setting_of a) (situation_of a) → IsToldFormed (setting_of b) (situation_of b)
stays_told a b set only told = λ is.
    ap (λ (s : Situation). s.told.formed) only
    ∙ told (ap (λ (s : Situation). is_formed (setting_of a) s) (sym only) ∙ (ap (λ (s : Setting). is_formed s (situation_of b)) (sym set) ∙ is))

-- ---- bytes that go out

pub links_same : (a : Process) → OnlyLinks a a
links_same a = refl

pub links_then : (a b c : Process) → OnlyLinks a b → OnlyLinks b c → OnlyLinks a c
links_then a b c p q = q ∙ ap (λ (s : Situation). record s { links = links_of c.node }) p

links_rest : (a b : Process) (links : ℕ → Link) → situation_of b ≡ record (situation_of a) { links = links } → OnlyLinks a b
links_rest a b links is = is ∙ sym (ap (λ (s : Situation). record (situation_of a) { links = s.links }) is)

pub sends_none : (peer : ℕ) (a : Process) → OnlySends peer a a
sends_none peer a = record { rest = refl; others = λ other n. refl; kept = refl }

pub sends_rests : (peer : ℕ) (a b : Process) → Rests a b → OnlySends peer a b
sends_rests peer a b rests = record {
  rest = links_rest a b (links_of a.node) rests.same;
  others = λ other n. ap (λ (s : Situation). s.links other) rests.same;
  kept =
      let is = ap (λ (s : Situation). s.links peer) rests.same in
      is ∙ sym (ap (λ (l : Link). record (links_of a.node peer) { outbox = l.outbox }) is);
}

pub sends_made : (peer : ℕ) (bytes : List ℕ) (a b : Process) → Makes (Sent peer bytes) a b → OnlySends peer a b
sends_made peer bytes a b makes = record {
  rest = links_rest a b _ makes.does.after;
  others = λ other n. ap (λ (s : Situation). s.links other) makes.does.after ∙ link_else peer other (λ link. without_front link (length bytes)) (links_of a.node) n;
  kept =
      let is : links_of b.node peer ≡ without_front (links_of a.node peer) (length bytes) =
      ap (λ (s : Situation). s.links peer) makes.does.after ∙ link_there peer (λ link. without_front link (length bytes)) (links_of a.node) in
      is ∙ sym (ap (λ (l : Link). record (links_of a.node peer) { outbox = l.outbox }) is);
}

pub sends_then : (peer : ℕ) (a b c : Process) → OnlySends peer a b → OnlySends peer b c → OnlySends peer a c
sends_then peer a b c p q = record {
  rest = links_then a b c p.rest q.rest;
  others = λ other n. q.others other n ∙ p.others other n;
  kept = q.kept ∙ ap (λ (l : Link). record l { outbox = (links_of c.node peer).outbox }) p.kept;
}

-- nothing waits for one more
pub waits_next : (peer : ℕ) (a b : Process) → ((other : ℕ) → other < peer → (links_of a.node other).outbox ≡ []) → OnlySends peer a b → (links_of b.node peer).outbox ≡ []
    → (other : ℕ) → other < peer + 1 → (links_of b.node other).outbox ≡ []
waits_next peer a b before sends none other less = go (cases_eq other peer)
  where
    go : (other ≡ peer) ⊎ (other ≢ peer) → (links_of b.node other).outbox ≡ []
    go (inl e) = subst (λ (k : ℕ). (links_of b.node k).outbox ≡ []) (sym e) none
    go (inr n) = ap (λ (l : Link). l.outbox) (sends.others other n) ∙ before other (omega (arith, less, n))

-- ---- answers

-- an answer at one port leaves those at another
pub answer_else : (port : ℕ) (answer : Answer) (a b : Process) → Makes (Answered port answer) a b → (other : ℕ) → other ≢ port → answers_of (held_by b.node) other ≡ answers_of (held_by a.node) other
unfolding upd
answer_else port answer a b makes other n =
    ap (λ (s : Situation). s.node.answers other) makes.does.after
    ∙ ap (λ (c : Bool). cond c (drop 1 (answers_of (held_by a.node) port)) (answers_of (held_by a.node) other)) (ne_eqb port other (λ e. n (sym e)))

-- none is left at one more
pub said_next : (port : ℕ) (a b : Process) → ((other : ℕ) → other < port → answers_of (held_by a.node) other ≡ [])
    → ((other : ℕ) → other ≢ port → answers_of (held_by b.node) other ≡ answers_of (held_by a.node) other) → answers_of (held_by b.node) port ≡ []
    → (other : ℕ) → other < port + 1 → answers_of (held_by b.node) other ≡ []
said_next port a b before others none other less = go (cases_eq other port)
  where
    go : (other ≡ port) ⊎ (other ≢ port) → answers_of (held_by b.node) other ≡ []
    go (inl e) = subst (λ (k : ℕ). answers_of (held_by b.node) k ≡ []) (sym e) none
    go (inr n) = others other n ∙ before other (omega (arith, less, n))

-- that the node is formed is said
pub told_rest : (result : Result (Unit {0}) ProcessFault) (a b : Process) → OnOk result (Makes Formed a b) → OnOk result (OnlyTold a b)
told_rest (Ok done) a b makes = makes.does.3 ∙ sym (ap (λ (s : Situation). record (situation_of a) { told = s.told }) makes.does.3)
told_rest (Err fault) a b makes = tt

-- none is left where the answers are the same
stays_said : (a b : Process) → setting_of b ≡ setting_of a → answers_of (held_by b.node) ≡ answers_of (held_by a.node) → NoneUnsaid a → NoneUnsaid b
stays_said a b set same said = λ port less.
    ap (λ (x : ℕ → List Answer). x port) same ∙ said port (subst (λ (n : ℕ). port < n) (ap (λ (s : Setting). s.ports) set) less)

-- ---- packets that come

-- nothing of one more peer is there
pub none_next : (peer : ℕ) (a b : Process) → ((other : ℕ) → other < peer → HasNone other a) → Works a b → HasNone peer b → (other : ℕ) → other < peer + 1 → HasNone other b
none_next peer a b before works none other less = go (cases_eq other peer)
  where
    go : (other ≡ peer) ⊎ (other ≢ peer) → HasNone other b
    go (inl e) = subst (λ (k : ℕ). HasNone k b) (sym e) none
    go (inr n) = none_lasts other a b works (before other (omega (arith, less, n)))

stays_taken : (a b : Process) → Works a b → NoneComes a → NoneComes b
stays_taken a b works none = λ peer less. none_lasts peer a b works (none peer (subst (λ (n : ℕ). peer < n) (same_peers a b works.goes.setting) less))

-- ---- changes that wait, and those that were denied

-- none is kept where ports and how they give way are the same
keeps_stays : (a b : Process) → setting_of b ≡ setting_of a → (situation_of b).ports ≡ (situation_of a).ports
    → ((port : ℕ) → gives_way ((situation_of b).courtesies port) ≡ gives_way ((situation_of a).courtesies port)) → NoneKeeps a → NoneKeeps b
keeps_stays a b set ports ways keeps port less free some =
    ways port
    ∙ keeps port (subst (λ (n : ℕ). port < n) (ap (λ (s : Setting). s.ports) set) less) (sym (ap (λ (f : ℕ → Port). (f port).current) ports) ∙ free)
    (λ none. some (ap (λ (f : ℕ → Port). (f port).waiting) ports ∙ none))

-- what was told stays so where the node and the courtesies are the same
told_stays : (a b : Process) → setting_of b ≡ setting_of a → (situation_of b).node ≡ (situation_of a).node → (situation_of b).courtesies ≡ (situation_of a).courtesies → AllToldDenied a → AllToldDenied b
told_stays a b set node courtesies told port less denied =
    ap (λ (f : ℕ → Courtesy). (f port).is_told) courtesies
    ∙ told port (subst (λ (n : ℕ). port < n) (ap (λ (s : Setting). s.ports) set) less)
    (subst (λ (s : Setting). IsDenied s (situation_of a) port) set (subst (λ (n : Standing). IsDenied (setting_of b) (record (situation_of a) { node = n }) port) node denied))

pub keeps_denied : (a b : Process) → setting_of b ≡ setting_of a → OnlyDenied (situation_of a) (situation_of b) → NoneKeeps a → NoneKeeps b
keeps_denied a b set only keeps = keeps_stays a b set (ap (λ (s : Situation). s.ports) only.rest) (λ port. ap gives_way (only.kept port)) keeps

pub said_denied : (a b : Process) → setting_of b ≡ setting_of a → OnlyDenied (situation_of a) (situation_of b) → NoneUnsaid a → NoneUnsaid b
said_denied a b set only said = stays_said a b set (ap (λ (s : Situation). s.node.answers) only.rest) said

-- with what it comes to
pub keeps_denied_then : (result : Result (Unit {0}) ProcessFault) (a b : Process) → NoneKeeps a → OnOk result (Works a b) → OnOk result (OnlyDenied (situation_of a) (situation_of b)) → OnOk result (NoneKeeps b)
keeps_denied_then (Ok done) a b keeps works only = keeps_denied a b works.goes.setting only keeps
keeps_denied_then (Err fault) a b keeps works only = tt

pub said_denied_then : (result : Result (Unit {0}) ProcessFault) (a b : Process) → NoneUnsaid a → OnOk result (Works a b) → OnOk result (OnlyDenied (situation_of a) (situation_of b)) → OnOk result (NoneUnsaid b)
said_denied_then (Ok done) a b said works only = said_denied a b works.goes.setting only said
said_denied_then (Err fault) a b said works only = tt

-- what follows was done
-- it stays told where nothing but what waits for peers, or what is told, is another
pub told_all_stays : (a b : Process) → setting_of b ≡ setting_of a → OnlyLinks a b → IsToldAll a → IsToldAll b
told_all_stays a b set only told = record {
  formed = stays_told a b set only told.formed;
  old = λ old. ap (λ (s : Situation). s.told.old_clock) only ∙ told.old (subst (λ (n : ℕ). OLD_CLOCK ≤ n) (ap (λ (s : Situation). s.node.state.clock) only) old);
  many = (
    told.many.0,
    subst (λ (ended : Pid → Bool). IsEndedCount ended told.many.0) (sym (ap (λ (s : Situation). s.node.state.state.ended) only)) told.many.1,
    λ more. ap (λ (s : Situation). s.told.many_ended) only ∙ told.many.2 more,
  );
}

pub told_only : (a b c : Process) → OnlyTold a b → OnlyTold b c → OnlyTold a c
told_only a b c one other = other ∙ ap (λ (s : Situation). record s { told = c.told }) one

-- each was told, one behind the other
pub told_once : (result : Result (Unit {0}) ProcessFault) (b c d : Process) → Works b c → OnOk result (Works c d) → OnlyTold b c → OnOk result (OnlyTold c d)
    → IsToldFormed (setting_of b) (situation_of b) → c.told.formed ≡ b.told.formed → IsToldOld (situation_of c) → OnOk result (d.told.formed ≡ c.told.formed)
    → OnOk result (d.told.old_clock ≡ c.told.old_clock) → OnOk result (IsToldMany (situation_of d)) → OnOk result (IsToldAll d)
told_once (Ok done) b c d first second one other formed same old formed2 old2 many = record {
  formed = λ is. formed2 ∙ (same ∙ formed (ap (λ (s : Situation). is_formed (setting_of b) s) (sym (told_only b c d one other))
      ∙ (ap (λ (s : Setting). is_formed s (situation_of d)) (sym (second.goes.setting ∙ first.goes.setting)) ∙ is)));
  old = λ late. old2 ∙ old (subst (λ (n : ℕ). OLD_CLOCK ≤ n) (ap (λ (s : Situation). s.node.state.clock) other) late);
  many = many;
}
told_once (Err fault) b c d first second one other formed same old formed2 old2 many = tt

-- where many have ended that is told
pub crowded_many : (result : Result (Unit {0}) ProcessFault) (count : ℕ) (a b : Process) → OnOk result (Makes (Crowded count) a b) → OnOk result (IsToldMany (situation_of b))
crowded_many (Ok done) count a b makes = (
  count,
  subst (λ (s : Situation). IsEndedCount s.node.state.state.ended count) (sym makes.does.4) makes.does.1,
  λ more. ap (λ (s : Situation). s.told.many_ended) makes.does.4,
)
crowded_many (Err fault) count a b makes = tt

-- a warning leaves all but what is told
pub aged_rest : (result : Result (Unit {0}) ProcessFault) (a b : Process) → OnOk result (Makes Aged a b) → OnOk result (OnlyTold a b)
aged_rest (Ok done) a b makes = makes.does.3 ∙ sym (ap (λ (s : Situation). record (situation_of a) { told = s.told }) makes.does.3)
aged_rest (Err fault) a b makes = tt

pub crowded_rest : (result : Result (Unit {0}) ProcessFault) (count : ℕ) (a b : Process) → OnOk result (Makes (Crowded count) a b) → OnOk result (OnlyTold a b)
crowded_rest (Ok done) count a b makes = makes.does.4 ∙ sym (ap (λ (s : Situation). record (situation_of a) { told = s.told }) makes.does.4)
crowded_rest (Err fault) count a b makes = tt

pub settles : (result : Result (Unit {0}) ProcessFault) (a b c d : Process) → NoneComes a → Works a b → NoneUnsaid b → NoneKeeps b → AllToldDenied b → Works b c → OnlyTold b c
    → IsToldAll c → OnOk result (Works c d) → OnOk result (NoneWaits d) → OnOk result (OnlyLinks c d) → OnOk result (IsSettled d)
settles (Ok done) a b c d none serves said keeps denied forms rest told works unsent links =
    let same = works.goes.setting ∙ forms.goes.setting in
    let ports = ap (λ (s : Situation). s.ports) links ∙ ap (λ (s : Situation). s.ports) rest in
    let courtesies = ap (λ (s : Situation). s.courtesies) links ∙ ap (λ (s : Situation). s.courtesies) rest in
    let node = ap (λ (s : Situation). s.node) links ∙ ap (λ (s : Situation). s.node) rest in record {
      taken = stays_taken c d works (stays_taken b c forms (stays_taken a b serves none));
      answered = stays_said c d works.goes.setting (ap (λ (s : Situation). s.node.answers) links) (stays_said b c forms.goes.setting (ap (λ (s : Situation). s.node.answers) rest) said);
      handed = keeps_stays b d same ports (λ port. ap (λ (f : ℕ → Courtesy). gives_way (f port)) courtesies) keeps;
      denied = told_stays b d same node courtesies denied;
      formed = (told_all_stays c d works.goes.setting links told).formed;
      old = (told_all_stays c d works.goes.setting links told).old;
      many = (told_all_stays c d works.goes.setting links told).many;
      unsent = unsent;
    }
settles (Err fault) a b c d none serves said keeps denied forms rest told works unsent links = tt
