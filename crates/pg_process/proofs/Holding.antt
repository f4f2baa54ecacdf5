-- What a node holds at a port of the process: nothing, while none of its changes is with the node; else that change, open or answered.
use Rattle.std.proofs.Common.{◌≡◌, ◌≢◌, ◌⊎◌, ◌∙◌, ◌+◌, ℕ, Bool, true, false, nat_eq, List, [], ◌∷◌, ◌++◌, Option, Some, None, inl, inr, refl, sym, ap, subst}
use Rattle.std.specs.Prelude.{◌&&◌}
use Rattle.std.proofs.lemmas.Bool.{cases_eq, eq-eqb, ne_eqb}
use Rattle.pg_node.specs.PgNodeState.States.{Gave}
use Rattle.pg_node_process.specs.declared.desk.Numbered.{Numbered}
use Rattle.pg_node_run.specs.Acts.{Standing}
use Rattle.pg_step.specs.PgGroup.Functions.{upd}
use Rattle.pg_step.specs.Attempts.{same_op}
use Rattle.pg_step.specs.Commands.{next_op}
use Rattle.pg_step.specs.Nodes.{Node}
use Rattle.pg_step.specs.State.{Response, State}
use Rattle.pg_step.specs.declared.answer.Answer.{Answer}
use Rattle.pg_step.specs.declared.answer.Reply.{Reply}
use Rattle.pg_step.specs.declared.command.OpId.{OpId}
use Rattle.pg_step.proofs.PgGroup.Changes.{upd_at, upd_other}
use Rattle.pg_process.proofs.Stages.{Opens, Stands, is_open}

-- ---- words

abbrev pub op_at : ℕ → ℕ → OpId
op_at port number = record { port = port; number = number }

abbrev pub open_at : ℕ → State → ℕ → Bool
open_at port s number = is_open (s.stages (op_at port number))

-- no command of a port is open; or the last one alone
abbrev pub NoneOpen : ℕ → State → Type 0
NoneOpen port s = (number : ℕ) → open_at port s number ≡ false

pub record LastOpen (port : ℕ) (s : State) : Type 0 where
  pub last : open_at port s (s.counts port) ≡ true
  pub others : (number : ℕ) → number ≢ s.counts port → open_at port s number ≡ false

-- the last command was answered, and that was not said
pub record LastAnswered (port : ℕ) (a : Standing) : Type 0 where
  pub none : NoneOpen port a.state.state
  pub reply : Reply
  pub is : a.answers port ≡ record { number = a.state.state.counts port; reply = reply } ∷ []

abbrev pub Holds : ℕ → Standing → Option Numbered → Type 0
Holds port a None = NoneOpen port a.state.state × (a.answers port ≡ [])
Holds port a (Some change) = (LastOpen port a.state.state × (a.answers port ≡ [])) ⊎ LastAnswered port a

-- ---- ids that differ

not_both : (b : Bool) → b ≡ true → b ≡ false → ⊥
not_both true h k = cc
not_both false h k = cc

other_port : (op : OpId) (port number : ℕ) → op.port ≢ port → same_op op (op_at port number) ≡ false
other_port op port number other = ap (λ b. b && nat_eq op.number number) (ne_eqb op.port port other)

and_false : (b : Bool) → (b && false) ≡ false
and_false true = refl
and_false false = refl

other_number : (op : OpId) (number : ℕ) → op.number ≢ number → same_op op (op_at op.port number) ≡ false
other_number op number other = ap (λ b. nat_eq op.port op.port && b) (ne_eqb op.number number other) ∙ and_false (nat_eq op.port op.port)

-- ---- what stays

-- a port at which nothing is another
pub holds_still : (port : ℕ) (a b : Standing) (current : Option Numbered) → ((number : ℕ) → open_at port b.state.state number ≡ open_at port a.state.state number)
    → b.state.state.counts port ≡ a.state.state.counts port → b.answers port ≡ a.answers port → Holds port a current → Holds port b current
holds_still port a b None same counts answers (none, empty) = ((λ number. same number ∙ none number), answers ∙ empty)
holds_still port a b (Some change) same counts answers (inl (one, empty)) = inl (
  record {
    last = ap (λ (n : ℕ). open_at port b.state.state n) counts ∙ (same (a.state.state.counts port) ∙ one.last);
    others = λ number other. same number ∙ one.others number (λ e. other (e ∙ sym counts));
  },
  answers ∙ empty,
)
holds_still port a b (Some change) same counts answers (inr one) = inr (record {
  none = λ number. same number ∙ one.none number;
  reply = one.reply;
  is = answers ∙ (one.is ∙ ap (λ (n : ℕ). record { number = n; reply = one.reply } ∷ []) (sym counts));
})

-- ---- a packet, and a retry

-- the answer that is given
gave_here : (own : Node) (gave : OpId × Response) (before after : ℕ → List Answer) → Gave own (Some gave) before after → before gave.0.port ≡ []
    → (reply : Reply) × (after gave.0.port ≡ record { number = gave.0.number; reply = reply } ∷ [])
gave_here own gave before after (reply, answers, is) empty = (
  reply,
  ap (λ (f : ℕ → List Answer). f gave.0.port) is
      ∙ (upd_at nat_eq before gave.0.port (before gave.0.port ++ record { number = gave.0.number; reply = reply } ∷ []) (eq-eqb gave.0.port gave.0.port refl)
      ∙ ap (λ (w : List Answer). w ++ record { number = gave.0.number; reply = reply } ∷ []) empty),
)

gave_else : (own : Node) (gave : OpId × Response) (port : ℕ) (before after : ℕ → List Answer) → Gave own (Some gave) before after → gave.0.port ≢ port → after port ≡ before port
gave_else own gave port before after (reply, answers, is) other =
    ap (λ (f : ℕ → List Answer). f port) is
    ∙ upd_other nat_eq before gave.0.port (before gave.0.port ++ record { number = gave.0.number; reply = reply } ∷ []) port (ne_eqb gave.0.port port other)

-- at its own port
closed_here : (own : Node) (a b : Standing) (current : Option Numbered) (gave : OpId × Response) → Stands a.state.state b.state.state (Some gave) → Gave own (Some gave) a.answers b.answers
    → Holds gave.0.port a current → Holds gave.0.port b current
closed_here own a b None gave stands gives (none, empty) = absurd (not_both _ stands.closes.0 (none gave.0.number))
closed_here own a b (Some change) gave stands gives (inr one) = absurd (not_both _ stands.closes.0 (one.none gave.0.number))
closed_here own a b (Some change) gave stands gives (inl (one, empty)) = go (cases_eq gave.0.number (a.state.state.counts gave.0.port))
  where
    port : ℕ
    port = gave.0.port

    go : (gave.0.number ≡ a.state.state.counts gave.0.port) ⊎ (gave.0.number ≢ a.state.state.counts gave.0.port) → Holds gave.0.port b (Some change)
    go (inr other) = absurd (not_both _ stands.closes.0 (one.others gave.0.number other))
    go (inl same) = inr (
        let given = gave_here own gave a.answers b.answers gives empty in record {
          none = λ number. by number (cases_eq gave.0.number number);
          reply = given.0;
          is = given.1 ∙ ap (λ (n : ℕ). record { number = n; reply = given.0 } ∷ []) (same ∙ sym (ap (λ (f : ℕ → ℕ). f port) stands.counts));
        })
      where
        by : (number : ℕ) → (gave.0.number ≡ number) ⊎ (gave.0.number ≢ number) → open_at port b.state.state number ≡ false
        by number (inl e) = subst (λ (n : ℕ). open_at port b.state.state n ≡ false) e stands.closes.1
        by number (inr n) = stands.closes.2 (op_at port number) (other_number gave.0 number n) ∙ one.others number (λ e. n (same ∙ sym e))

pub acts_hold : (own : Node) (port : ℕ) (a b : Standing) (current : Option Numbered) (gave : Option (OpId × Response)) → Stands a.state.state b.state.state gave → Gave own gave a.answers b.answers
    → Holds port a current → Holds port b current
acts_hold own port a b current None stands gives holds =
    holds_still port a b current (λ number. stands.closes (op_at port number)) (ap (λ (f : ℕ → ℕ). f port) stands.counts) (ap (λ (f : ℕ → List Answer). f port) gives) holds
acts_hold own port a b current (Some gave) stands gives holds = go (cases_eq gave.0.port port)
  where
    go : (gave.0.port ≡ port) ⊎ (gave.0.port ≢ port) → Holds port b current
    go (inl e) = subst (λ (p : ℕ). Holds p b current) e (closed_here own a b current gave stands gives (subst (λ (p : ℕ). Holds p a current) (sym e) holds))
    go (inr n) = holds_still port a b current (λ number. stands.closes.2 (op_at port number) (other_port gave.0 port number n))
        (ap (λ (f : ℕ → ℕ). f port) stands.counts) (gave_else own gave port a.answers b.answers gives n) holds

-- ---- a change is handed over

pub counts_here : (port : ℕ) (s t : State) → t.counts ≡ upd nat_eq s.counts port (s.counts port + 1) → t.counts port ≡ s.counts port + 1
counts_here port s t is = ap (λ (f : ℕ → ℕ). f port) is ∙ upd_at nat_eq s.counts port (s.counts port + 1) (eq-eqb port port refl)

pub counts_else : (port : ℕ) (s t : State) → t.counts ≡ upd nat_eq s.counts port (s.counts port + 1) → (other : ℕ) → other ≢ port → t.counts other ≡ s.counts other
counts_else port s t is other n = ap (λ (f : ℕ → ℕ). f other) is ∙ upd_other nat_eq s.counts port (s.counts port + 1) other (ne_eqb port other (λ e. n (sym e)))

pub opens_hold : (own : Node) (port : ℕ) (a b : Standing) (change : Numbered) (gave : Option (OpId × Response)) → Opens port a.state.state b.state.state gave → Gave own gave a.answers b.answers
    → Holds port a None → Holds port b (Some change)
opens_hold own port a b change None opens gives (none, empty) = inl (
  record {
    last = ap (λ (n : ℕ). open_at port b.state.state n) (counts_here port a.state.state b.state.state opens.counts) ∙ opens.own;
    others = λ number other.
        opens.others (op_at port number) (other_number (next_op port a.state.state) number (λ e. other (sym e ∙ sym (counts_here port a.state.state b.state.state opens.counts)))) ∙ none number;
  },
  ap (λ (f : ℕ → List Answer). f port) gives ∙ empty,
)
opens_hold own port a b change (Some gave) opens gives (none, empty) = inr (
    let at : gave.0.port ≡ port = ap (λ (op : OpId). op.port) opens.own.0 in
    let given = gave_here own gave a.answers b.answers gives (ap a.answers at ∙ empty) in record {
      none = λ number. by number (cases_eq (a.state.state.counts port + 1) number);
      reply = given.0;
      is = ap b.answers (sym at) ∙ (given.1 ∙ ap (λ (n : ℕ). record { number = n; reply = given.0 } ∷ [])
          (ap (λ (op : OpId). op.number) opens.own.0 ∙ sym (counts_here port a.state.state b.state.state opens.counts)));
    })
  where
    by : (number : ℕ) → (a.state.state.counts port + 1 ≡ number) ⊎ (a.state.state.counts port + 1 ≢ number) → open_at port b.state.state number ≡ false
    by number (inl e) = subst (λ (n : ℕ). open_at port b.state.state n ≡ false) e opens.own.1
    by number (inr n) = opens.others (op_at port number) (other_number (next_op port a.state.state) number n) ∙ none number

-- at any other port
pub opens_else : (port : ℕ) (a b : Standing) (current : Option Numbered) (gave : Option (OpId × Response)) (other : ℕ) → Opens port a.state.state b.state.state gave → b.answers other ≡ a.answers other
    → other ≢ port → Holds other a current → Holds other b current
opens_else port a b current gave other opens answers n holds =
    holds_still other a b current (λ number. opens.others (op_at other number) (other_port (next_op port a.state.state) other number (λ e. n (sym e))))
    (counts_else port a.state.state b.state.state opens.counts other n) answers holds

-- ---- an answer is said

-- where one is there a change is with the node, it is that of the last command, and no other is there
pub record IsLast (port : ℕ) (a : Standing) (current : Option Numbered) (answer : Answer) (later : List Answer) : Type 0 where
  pub some : current ≢ None
  pub number : answer.number ≡ a.state.state.counts port
  pub alone : later ≡ []
  pub none : NoneOpen port a.state.state

no_answer : {answer : Answer} {later : List Answer} → answer ∷ later ≡ [] → ⊥
no_answer e = absurd (cc)

one_answer : {x y : Answer} {later : List Answer} → ◌≡◌ {A = List Answer} (x ∷ later) (y ∷ []) → (x ≡ y) × (later ≡ [])
one_answer e = (cc, cc)

some_change : {change : Numbered} → ◌≡◌ {A = Option Numbered} (Some change) None → ⊥
some_change e = absurd (cc)

pub is_last : (port : ℕ) (a : Standing) (current : Option Numbered) (answer : Answer) (later : List Answer) → Holds port a current → a.answers port ≡ answer ∷ later → IsLast port a current answer later
is_last port a None answer later (none, empty) first = absurd (no_answer (sym first ∙ empty))
is_last port a (Some change) answer later (inl (one, empty)) first = absurd (no_answer (sym first ∙ empty))
is_last port a (Some change) answer later (inr one) first =
    let same = one_answer (sym first ∙ one.is) in record {
      some = λ e. some_change e;
      number = ap (λ (x : Answer). x.number) same.0;
      alone = same.1;
      none = one.none;
    }
