-- Bytes of a peer that go into a node, piece by piece.
use Rattle.std.proofs.Common.{◌≡◌, ◌≢◌, ◌⊎◌, ◌∙◌, ℕ, Bool, true, false, List, [], ◌++◌, inl, inr, refl, sym, ap, subst, append-nil, append_assoc}
use Rattle.std.specs.Prelude.{nat_eq, Result, Ok, Err, IfErr}
use Rattle.std.proofs.Math.Path.{fun_ext}
use Rattle.std.proofs.lemmas.Bool.{cases_eq}
use Rattle.pg_node.specs.Links.{Link, at_link, with_fed}
use Rattle.pg_node.specs.Nodes.{has_lost, held_by, links_of}
use Rattle.pg_node.specs.PgGroup.Functions.{upd}
use Rattle.pg_node.specs.PgNodeState.Issued.{ports_of}
use Rattle.pg_node.specs.PgNodeState.States.{names_of, state_of, answers_of}
use Rattle.pg_node.specs.PgNodeState.declared.state.fault.NodeFault.{NodeFault}
use Rattle.pg_node.specs.PgNodeState.declared.state.fault.NodeFault.TheVariants.{Refused, Damaged, OutOfMemory}
use Rattle.pg_node.specs.PgStep.declared.refusal.Refusal.TheVariants.{NodeLost}
use Rattle.pg_node_process.specs.Desks.{nothing_came, port_of}
use Rattle.pg_node_process.specs.Retries.{at_first}
use Rattle.pg_node_run.proofs.Moving.{link_there, link_else}
use Rattle.pg_process.specs.declared.process.Process.{Process}
use Rattle.pg_process.specs.Chains.{Makes}
use Rattle.pg_process.specs.Deeds.{Fed, fed_by}
use Rattle.pg_process.specs.Situations.{seen_in}
use Rattle.pg_process.specs.Takings.{tells_none}

-- ---- links

-- where what a link becomes is the same, all links are
pub same_change : (peer : ℕ) (links : ℕ → Link) (one other : Link → Link) → one (links peer) ≡ other (links peer) → at_link peer one links ≡ at_link peer other links
unfolding upd
same_change peer links one other same = ap (λ (link : Link). upd nat_eq links peer link) same

-- a link that stays
pub stays : (peer : ℕ) (links : ℕ → Link) (change : Link → Link) → change (links peer) ≡ links peer → at_link peer change links ≡ links
stays peer links change same = fun_ext (λ place. go place (cases_eq place peer))
  where
    go : (place : ℕ) → (place ≡ peer) ⊎ (place ≢ peer) → at_link peer change links place ≡ links place
    go place (inl e) = subst (λ j. at_link peer change links j ≡ links j) (sym e) (link_there peer change links ∙ same)
    go place (inr n) = link_else peer place change links n

no_more : (link : Link) → with_fed link [] ≡ link
no_more link = ap (λ (w : List ℕ). record link { unread = w }) (append-nil link.unread)

pub fed_nothing : (peer : ℕ) (links : ℕ → Link) → at_link peer (λ link. with_fed link []) links ≡ links
fed_nothing peer links = stays peer links (λ link. with_fed link []) (no_more (links peer))

-- one piece, and then another
pub fed_on : (peer : ℕ) (links : ℕ → Link) (first more : List ℕ)
    → at_link peer (λ link. with_fed link more) (at_link peer (λ link. with_fed link first) links) ≡ at_link peer (λ link. with_fed link (first ++ more)) links
fed_on peer links first more = fun_ext (λ place. go place (cases_eq place peer))
  where
    add : List ℕ → Link → Link
    add piece link = with_fed link piece

    go : (place : ℕ) → (place ≡ peer) ⊎ (place ≢ peer)
        → at_link peer (λ link. with_fed link more) (at_link peer (λ link. with_fed link first) links) place ≡ at_link peer (λ link. with_fed link (first ++ more)) links place
    go place (inl e) =
        subst (λ j. at_link peer (λ link. with_fed link more) (at_link peer (λ link. with_fed link first) links) j ≡ at_link peer (λ link. with_fed link (first ++ more)) links j) (sym e)
        (link_there peer (λ link. with_fed link more) (at_link peer (λ link. with_fed link first) links)
        ∙ (ap (λ (link : Link). with_fed link more) (link_there peer (λ link. with_fed link first) links)
        ∙ (ap (λ (w : List ℕ). record (links peer) { unread = w }) (append_assoc (links peer).unread first more)
        ∙ sym (link_there peer (λ link. with_fed link (first ++ more)) links))))
    go place (inr n) =
        link_else peer place (λ link. with_fed link more) (at_link peer (λ link. with_fed link first) links) n
        ∙ (link_else peer place (λ link. with_fed link first) links n ∙ sym (link_else peer place (λ link. with_fed link (first ++ more)) links n))

-- a mark stays where bytes go in
pub fed_mark : (peer : ℕ) (links : ℕ → Link) (piece : List ℕ) → (at_link peer (λ link. with_fed link piece) links peer).damaged ≡ (links peer).damaged
fed_mark peer links piece = ap (λ (link : Link). link.damaged) (link_there peer (λ link. with_fed link piece) links)

-- ---- what is fed

fed_healthy : (lost damaged : Bool) (bytes : List ℕ) (link : Link) → lost ≡ false → damaged ≡ false → with_fed link bytes ≡ fed_by lost damaged bytes link
fed_healthy true damaged bytes link e f = absurd (cc)
fed_healthy false true bytes link e f = absurd (cc)
fed_healthy false false bytes link e f = refl

fed_empty : (lost damaged : Bool) (link : Link) → link ≡ fed_by lost damaged [] link
fed_empty true damaged link = refl
fed_empty false true link = refl
fed_empty false false link = sym (no_more link)

fed_broken : (lost damaged : Bool) (bytes : List ℕ) (link : Link) → (lost ≡ true) ⊎ (damaged ≡ true) → link ≡ fed_by lost damaged bytes link
fed_broken true damaged bytes link e = refl
fed_broken false true bytes link e = refl
fed_broken false false bytes link (inl e) = absurd (cc)
fed_broken false false bytes link (inr e) = absurd (cc)

-- bytes go into a link that is neither lost nor damaged
abbrev pub IsHealthy : ℕ → Process → Type 0
IsHealthy peer a = (has_lost (held_by a.node) peer ≡ false) × ((links_of a.node peer).damaged ≡ false)

-- some of the bytes went in, and the rest is left
pub record HasFed (peer : ℕ) (bytes rest : List ℕ) (a b : Process) : Type 0 where
  pub done : List ℕ
  pub whole : done ++ rest ≡ bytes
  pub links : links_of b.node ≡ at_link peer (λ link. with_fed link done) (links_of a.node)
  pub held : held_by b.node ≡ held_by a.node
  pub healthy : (done ≡ []) ⊎ IsHealthy peer a
  pub desks : b.desks ≡ a.desks
  pub courtesies : b.courtesies ≡ a.courtesies
  pub outlet : b.outlet ≡ a.outlet
  pub journal : b.journal ≡ a.journal
  pub came : b.came ≡ a.came
  pub told : b.told ≡ a.told

pub fed_first : (peer : ℕ) (bytes : List ℕ) (a : Process) → HasFed peer bytes bytes a a
fed_first peer bytes a = record {
  done = [];
  whole = refl;
  links = sym (fed_nothing peer (links_of a.node));
  held = refl;
  healthy = inl refl;
  desks = refl;
  courtesies = refl;
  outlet = refl;
  journal = refl;
  came = refl;
  told = refl;
}

pub fed_more : (peer : ℕ) (bytes rest later piece : List ℕ) (a b c : Process) → HasFed peer bytes rest a b → rest ≡ piece ++ later
    → links_of c.node ≡ at_link peer (λ link. with_fed link piece) (links_of b.node) → held_by c.node ≡ held_by b.node → IsHealthy peer b
    → c.desks ≡ b.desks → c.courtesies ≡ b.courtesies → c.outlet ≡ b.outlet → c.journal ≡ b.journal → c.came ≡ b.came → c.told ≡ b.told
    → HasFed peer bytes later a c
fed_more peer bytes rest later piece a b c was cut links held healthy desks courtesies outlet journal came told = record {
  done = was.done ++ piece;
  whole = append_assoc was.done piece later ∙ (ap (λ w. was.done ++ w) (sym cut) ∙ was.whole);
  links = links ∙ (ap (λ (ls : ℕ → Link). at_link peer (λ link. with_fed link piece) ls) was.links ∙ fed_on peer (links_of a.node) was.done piece);
  held = held ∙ was.held;
  healthy = inr (
    ap (λ n. has_lost n peer) (sym was.held) ∙ healthy.0,
    sym (ap (λ (ls : ℕ → Link). (ls peer).damaged) was.links ∙ fed_mark peer (links_of a.node) was.done) ∙ healthy.1,
  );
  desks = desks ∙ was.desks;
  courtesies = courtesies ∙ was.courtesies;
  outlet = outlet ∙ was.outlet;
  journal = journal ∙ was.journal;
  came = came ∙ was.came;
  told = told ∙ was.told;
}

made : (peer : ℕ) (bytes rest : List ℕ) (a b : Process) → HasFed peer bytes rest a b
    → links_of b.node ≡ at_link peer (fed_by (has_lost (held_by a.node) peer) (links_of a.node peer).damaged bytes) (links_of a.node)
    → Makes (Fed peer bytes) a b
made peer bytes rest a b was links = record {
  said = [];
  does = (
    refl,
    λ i. record {
      node = record { state = state_of (was.held i); answers = answers_of (was.held i) };
      links = links i;
      ports = seen_in port_of nothing_came (was.desks i).items;
      courtesies = seen_in (λ c. c) at_first (was.courtesies i).items;
      came = was.came i;
      told = was.told i;
    },
  );
  heard = tt;
  gathered = ap (λ o. o.gathered.items) was.outlet ∙ sym (append-nil a.outlet.gathered.items);
  journal = ap (λ j. j.gathered.items) was.journal ∙ sym (append-nil a.journal.gathered.items);
  setting = λ i. record { names = names_of (was.held i); ports = ports_of (was.held i) };
}

-- all went in
pub fed_whole : (peer : ℕ) (bytes rest : List ℕ) (a b : Process) → HasFed peer bytes rest a b → rest ≡ [] → Makes (Fed peer bytes) a b
fed_whole peer bytes rest a b was none = made peer bytes rest a b was (was.links ∙ same_change peer (links_of a.node) (λ link. with_fed link was.done)
    (fed_by (has_lost (held_by a.node) peer) (links_of a.node peer).damaged bytes) (subst (λ w. with_fed (links_of a.node peer) was.done ≡ fed_by (has_lost (held_by a.node) peer) (links_of a.node peer).damaged w (links_of a.node peer)) is (go was.healthy)))
  where
    is : was.done ≡ bytes
    is = sym (ap (λ w. was.done ++ w) none ∙ append-nil was.done) ∙ was.whole

    go : (was.done ≡ []) ⊎ IsHealthy peer a → with_fed (links_of a.node peer) was.done ≡ fed_by (has_lost (held_by a.node) peer) (links_of a.node peer).damaged was.done (links_of a.node peer)
    go (inl e) = subst (λ w. with_fed (links_of a.node peer) w ≡ fed_by (has_lost (held_by a.node) peer) (links_of a.node peer).damaged w (links_of a.node peer)) (sym e)
        (no_more (links_of a.node peer) ∙ fed_empty (has_lost (held_by a.node) peer) (links_of a.node peer).damaged (links_of a.node peer))
    go (inr h) = fed_healthy (has_lost (held_by a.node) peer) (links_of a.node peer).damaged was.done (links_of a.node peer) h.0 h.1

-- the peer is lost or its link damaged, and nothing goes in
pub fed_none : (peer : ℕ) (bytes rest : List ℕ) (a b c : Process) → HasFed peer bytes rest a b → HasFed peer bytes rest a c
    → (has_lost (held_by b.node) peer ≡ true) ⊎ ((links_of b.node peer).damaged ≡ true) → Makes (Fed peer bytes) a c
fed_none peer bytes rest a b c was same broken = made peer bytes rest a c same (same.links ∙ same_change peer (links_of a.node) (λ link. with_fed link same.done)
    (fed_by (has_lost (held_by a.node) peer) (links_of a.node peer).damaged bytes) (go same.healthy))
  where
    broken_then : (has_lost (held_by a.node) peer ≡ true) ⊎ ((links_of a.node peer).damaged ≡ true)
    broken_then = at broken
      where
        at : (has_lost (held_by b.node) peer ≡ true) ⊎ ((links_of b.node peer).damaged ≡ true) → (has_lost (held_by a.node) peer ≡ true) ⊎ ((links_of a.node peer).damaged ≡ true)
        at (inl e) = inl (ap (λ n. has_lost n peer) (sym was.held) ∙ e)
        at (inr e) = inr (sym (ap (λ (ls : ℕ → Link). (ls peer).damaged) was.links ∙ fed_mark peer (links_of a.node) was.done) ∙ e)

    not_healthy : (lost damaged : Bool) → (lost ≡ true) ⊎ (damaged ≡ true) → lost ≡ false → damaged ≡ false → ⊥
    not_healthy lost damaged (inl e) f g = absurd (cc)
    not_healthy lost damaged (inr e) f g = absurd (cc)

    go : (same.done ≡ []) ⊎ IsHealthy peer a → with_fed (links_of a.node peer) same.done ≡ fed_by (has_lost (held_by a.node) peer) (links_of a.node peer).damaged bytes (links_of a.node peer)
    go (inl e) = ap (λ w. with_fed (links_of a.node peer) w) e
        ∙ (no_more (links_of a.node peer) ∙ fed_broken (has_lost (held_by a.node) peer) (links_of a.node peer).damaged bytes (links_of a.node peer) broken_then)
    go (inr h) = absurd (not_healthy (has_lost (held_by a.node) peer) (links_of a.node peer).damaged broken_then h.0 h.1)

-- nothing more goes in
pub fed_kept : (peer : ℕ) (bytes rest : List ℕ) (a b c : Process) → HasFed peer bytes rest a b
    → links_of c.node ≡ links_of b.node → held_by c.node ≡ held_by b.node
    → c.desks ≡ b.desks → c.courtesies ≡ b.courtesies → c.outlet ≡ b.outlet → c.journal ≡ b.journal → c.came ≡ b.came → c.told ≡ b.told
    → HasFed peer bytes rest a c
fed_kept peer bytes rest a b c was links held desks courtesies outlet journal came told = record {
  done = was.done;
  whole = was.whole;
  links = links ∙ was.links;
  held = held ∙ was.held;
  healthy = was.healthy;
  desks = desks ∙ was.desks;
  courtesies = courtesies ∙ was.courtesies;
  outlet = outlet ∙ was.outlet;
  journal = journal ∙ was.journal;
  came = came ∙ was.came;
  told = told ∙ was.told;
}

-- ---- what a pull tells

pub pulled : (lost damaged : Bool) (r : Result ℕ NodeFault) (count : ℕ) → r ≡ Ok count → (lost ≡ true → r ≡ Err (Refused NodeLost)) → (lost ≡ false → damaged ≡ true → r ≡ Err Damaged)
    → (lost ≡ false) × (damaged ≡ false)
pulled true damaged r count is gone harm = let e = gone refl in absurd (cc)
pulled false true r count is gone harm = let e = harm refl refl in absurd (cc)
pulled false false r count is gone harm = (refl, refl)

pub unpulled : (lost damaged : Bool) (r : Result ℕ NodeFault) (fault : NodeFault) → r ≡ Err fault → fault ≢ OutOfMemory → (lost ≡ false → damaged ≡ false → IfErr r (λ f. f ≡ OutOfMemory))
    → (lost ≡ true) ⊎ (damaged ≡ true)
unpulled true damaged r fault is other memory = inl refl
unpulled false true r fault is other memory = inr refl
unpulled false false r fault is other memory = absurd (other (subst (λ x. IfErr x (λ f. f ≡ OutOfMemory)) is (memory refl refl)))

pub not_memory : (fault : NodeFault) → tells_none fault ≡ true → fault ≢ OutOfMemory
not_memory fault none e =
    let not : false ≡ true = sym (ap tells_none e) ∙ none in
    absurd (cc)
