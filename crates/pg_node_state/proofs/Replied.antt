-- What a reply leads to, by the reference that it is under.
use Rattle.std.proofs.Common.{◌≡◌, ◌≤◌, ◌<◌, ◌+◌, ◌^◌, ℕ, Bool, true, false, ◌&&◌, cond}
use Rattle.std.proofs.Common.{nat_eq, nat_lt, List, Option, Some, None, Result, Ok, refl, sym, ap, ◌∙◌, subst, arith}
use Rattle.std.specs.Cmp.Lexicographic.{pointwise, bytes_decides}
use Rattle.std.proofs.lemmas.Bool.{eq-eqb, lt-ltb}
use Rattle.std.proofs.lemmas.Bool.Decides.{nat_tests}
use Rattle.std.proofs.lemmas.Nat.{div-add-mod'}
use Rattle.pg_term.specs.RefParts.{RefParts, ref_eq}
use Rattle.pg_term.proofs.Same.{ref_is}
use Rattle.pg_node_ports.specs.PgRefs.Numbered.{numbered, number_in}
use Rattle.pg_node_ports.specs.PgMessageTypes.declared.message.Said.{Said}
use Rattle.pg_node_ports.specs.PgStep.Machines.Clocked.{Timed}
use Rattle.pg_node_ports.specs.PgMulticall.Gathered.{what_of}
use Rattle.pg_node_ports.specs.PgMulticall.declared.gather.Taken.{Taken}
use Rattle.pg_node_ports.specs.PgNodeOpens.declared.opens.Opens.{Opens}
use Rattle.pg_node_ports.specs.PgNodeOpens.Opens.{uses_of, references_of}
use Rattle.pg_node_ports.specs.PgNodeOpens.Places.{name_at}
use Rattle.pg_node_ports.specs.PgNodeOpens.Layers.{or_as, answers, seek}
use Rattle.pg_node_ports.specs.PgNodeOpens.Commands.{is_made, unused, use_at}
use Rattle.pg_node_ports.specs.PgStep.Nodes.{Node, Nodes}
use Rattle.pg_node_ports.specs.PgStep.State.{State, Use}
use Rattle.pg_node_ports.specs.PgStep.State.Use.{Fresh, Spent}
use Rattle.pg_node_ports.specs.PgStep.Attempts.{use_of, gathered, is_kind, reply_by, reply_under, reply_taken, strange}
use Rattle.pg_node_ports.specs.PgStep.declared.answer.Odd.TheVariants.{Stranger}
use Rattle.pg_node_ports.specs.PgStep.declared.answer.Answer.{Answer}
use Rattle.pg_node_ports.specs.PgStep.declared.refusal.Refusal.{Refusal}
use Rattle.pg_node_ports.specs.PgStep.Turns.{NodeTurn}
use Rattle.pg_node_sends.specs.declared.done.Done.{Done}
use Rattle.pg_node_sends.specs.declared.outgoing.Outgoing.{Ghosts as Listing}
use Rattle.pg_node_state.specs.declared.state.fault.NodeFault.{NodeFault}
use Rattle.pg_node_state.specs.States.{ComesAt}

-- a number that was not made yet is fresh
pub fresh_beyond : (opens : Opens) (x : ℕ) → references_of opens < x → uses_of opens x ≡ Fresh
fresh_beyond opens x beyond = go (seek (use_at opens.names.items) opens.commands.items x) (opens.known.uses_made x (unmade opens.references x beyond))
    ∙ ap (λ b. cond b Spent Fresh) (unmade opens.references x beyond)
  where
    unmade : (made x : ℕ) → made < x → is_made made x ≡ false
    unmade made x l = grind (arith, nat_tests)

    go : (o : Option Use) → answers o ≡ false → or_as o (unused opens.references x) ≡ unused opens.references x
    go None e = refl
    go (Some u) e = absurd (cc)

-- a reply to a node that is seen as the same
pub comes_as : {S : Type 0} {h : Listing S} (clock peer number : ℕ) (said : Said) (names names1 : List Node) (m m1 : Nodes) (s s1 : State) (before before1 : ℕ → List Answer) (result : Result (Done S h) NodeFault) (after : Timed State) (answers : ℕ → List Answer)
    → names1 ≡ names → m1 ≡ m → s1 ≡ s → before1 ≡ before
    → ComesAt clock names1 (reply_taken m1 (name_at names1 (peer + 1)) (numbered m1.own number) said s1) result after before1 answers
    → ComesAt clock names (reply_taken m (name_at names (peer + 1)) (numbered m.own number) said s) result after before answers
comes_as clock peer number said names names1 m m1 s s1 before before1 result after answers same_names same_nodes same_state same_answers comes =
    subst (λ (b : ℕ → List Answer). ComesAt clock names (reply_taken m (name_at names (peer + 1)) (numbered m.own number) said s) result after b answers) same_answers
    (subst (λ (t : Result NodeTurn Refusal). ComesAt clock names t result after before1 answers)
    (λ i. reply_taken (same_nodes i) (name_at (same_names i) (peer + 1)) (numbered (same_nodes i).own number) said (same_state i))
    (subst (λ (ns : List Node). ComesAt clock ns (reply_taken m1 (name_at names1 (peer + 1)) (numbered m1.own number) said s1) result after before1 answers) same_names comes))

module _ (m : Nodes) (p : Node) (reference : RefParts) (said : Said) (s : State) where
  abbrev number : ℕ
  number = number_in reference

  under_spent : (used : Use) → used ≡ Spent → reply_under used m p number said s ≡ Ok (strange Stranger s)
  under_spent used e = ap (λ (u : Use). reply_under u m p number said s) e

  under_fresh : (used : Use) → used ≡ Fresh → reply_under used m p number said s ≡ Ok (strange Stranger s)
  under_fresh used e = ap (λ (u : Use). reply_under u m p number said s) e

  -- a reference that the node cannot have made
  pub no_number : cond (ref_eq (numbered m.own number) reference && nat_lt number (2 ^ 32)) (Some number) None ≡ None → (2 ^ 32 ≤ number → s.uses number ≡ Fresh)
      → reply_taken m p reference said s ≡ Ok (strange Stranger s)
  no_number e beyond = go (ref_eq (numbered m.own number) reference) (nat_lt number (2 ^ 32)) refl refl e
    where
      is_beyond : (n : ℕ) → nat_lt n (2 ^ 32) ≡ false → 2 ^ 32 ≤ n
      is_beyond n e = grind (arith, nat_tests)

      go : (b l : Bool) → ref_eq (numbered m.own number) reference ≡ b → nat_lt number (2 ^ 32) ≡ l → cond (b && l) (Some number) None ≡ None → reply_taken m p reference said s ≡ Ok (strange Stranger s)
      go false l is within e = under_spent (use_of m reference s) (ap (λ b. cond b (s.uses number) Spent) is)
      go true false is within e = under_fresh (use_of m reference s) (ap (λ b. cond b (s.uses number) Spent) is ∙ beyond (is_beyond number within))
      go true true is within e = absurd (cc)

  -- the number of a reference of the node
  pub number_is : (n : ℕ) → cond (ref_eq (numbered m.own number) reference && nat_lt number (2 ^ 32)) (Some number) None ≡ Some n → number ≡ n
  number_is n e = go (ref_eq (numbered m.own number) reference && nat_lt number (2 ^ 32)) e
    where
      value : Option ℕ → ℕ
      value None = n
      value (Some k) = k

      go : (b : Bool) → cond b (Some number) None ≡ Some n → number ≡ n
      go true e = ap (λ (o : Option ℕ). value o) e
      go false e = absurd (cc)

  -- it is that reference
  pub reference_is : (n : ℕ) → cond (ref_eq (numbered m.own number) reference && nat_lt number (2 ^ 32)) (Some number) None ≡ Some n → numbered m.own n ≡ reference
  reference_is n e = ap (numbered m.own) (sym (number_is n e)) ∙ ref_is (numbered m.own number) reference (go (ref_eq (numbered m.own number) reference) refl e)
    where
      go : (b : Bool) → ref_eq (numbered m.own number) reference ≡ b → cond (b && nat_lt number (2 ^ 32)) (Some number) None ≡ Some n → ref_eq (numbered m.own number) reference ≡ true
      go true is e = is
      go false is e = absurd (cc)

  pub use_is : (n : ℕ) → cond (ref_eq (numbered m.own number) reference && nat_lt number (2 ^ 32)) (Some number) None ≡ Some n → use_of m reference s ≡ s.uses number
  use_is n e = go (ref_eq (numbered m.own number) reference) refl e
    where
      go : (b : Bool) → ref_eq (numbered m.own number) reference ≡ b → cond (b && nat_lt number (2 ^ 32)) (Some number) None ≡ Some n → use_of m reference s ≡ s.uses number
      go true is e = ap (λ b. cond b (s.uses number) Spent) is
      go false is e = absurd (cc)

  -- by what it is to the gathered call, and whether it is of its kind
  pub leads : (n : ℕ) → cond (ref_eq (numbered m.own number) reference && nat_lt number (2 ^ 32)) (Some number) None ≡ Some n
      → (heard : Taken) (kind : Bool) → heard ≡ what_of true (gathered (s.uses n) p) → kind ≡ is_kind (s.uses n) said
      → reply_taken m p reference said s ≡ reply_by heard kind (s.uses n) m p n said s
  leads n e heard kind taken is = (λ i. reply_under (use_is n e i) m p number said s)
      ∙ ((λ i. reply_under (s.uses (number_is n e i)) m p (number_is n e i) said s)
      ∙ (λ i. reply_by (sym taken i) (sym is i) (s.uses n) m p n said s))

-- ---- the reference of a number

ref_same : (r : RefParts) → ref_eq r r ≡ true
ref_same r = ap (λ b. b && (nat_eq r.creation r.creation && pointwise nat_eq r.words r.words)) ((bytes_decides r.node r.node).1 refl)
    ∙ (ap (λ b. b && pointwise nat_eq r.words r.words) (eq-eqb r.creation r.creation refl) ∙ (bytes_decides r.words r.words).1 refl)

number_back : (own : Node) (n : ℕ) → number_in (numbered own n) ≡ n
number_back own n = omega (arith, div-add-mod' n 262144)

-- it tells the number
pub read_numbered : (own : Node) (n : ℕ) → n < 2 ^ 32
    → cond (ref_eq (numbered own (number_in (numbered own n))) (numbered own n) && nat_lt (number_in (numbered own n)) (2 ^ 32)) (Some (number_in (numbered own n))) None ≡ Some n
read_numbered own n within = (λ i. cond (ref_eq (numbered own (number_back own n i)) (numbered own n) && nat_lt (number_back own n i) (2 ^ 32)) (Some (number_back own n i)) None)
    ∙ (ap (λ b. cond (b && nat_lt n (2 ^ 32)) (Some n) None) (ref_same (numbered own n)) ∙ ap (λ b. cond b (Some n) None) (lt-ltb n (2 ^ 32) within))
