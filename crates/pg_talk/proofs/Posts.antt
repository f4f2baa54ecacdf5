-- What is done at one port.
use Rattle.std.proofs.Common.{◌≡◌, ◌<◌, ◌≤◌, ◌+◌, ℕ, zero, suc, Bool, true, false, List, [], ◌∷◌, ◌++◌, length, get_or}
use Rattle.std.proofs.Common.{map, Option, inl, inr, refl, sym, ap, subst, ◌∙◌, arith, append_assoc, length-append}
use Rattle.std.proofs.Math.ListN.{get_or-append}
use Rattle.std.proofs.lemmas.Bool.Decides.{eqb_tells}
use Rattle.std.proofs.lemmas.Bool.{le-ltb, lt-ltb}
use Rattle.std.proofs.lemmas.List.{append-nil, get_or_push, length-map}
use Rattle.std.proofs.lemmas.List.{map-append, nil_from_length}
use Rattle.std.specs.Prelude.{codes, nat_lt, pos}
use Rattle.std.specs.Io.KnownBytes.{Appends}
use Rattle.pg_cluster.specs.PgNodeRun.declared.port.Asked.{Asked}
use Rattle.pg_cluster.specs.PgStep.declared.answer.Answer.{Answer}
use Rattle.pg_cluster.specs.PgStep.declared.command.Command.{Command}
use Rattle.pg_term.specs.declared.term.Term.{Term, Tuple}
use Rattle.pg_term.specs.declared.term.Term.TheVariants.{Int, Atom}
use Rattle.pg_node_requests.specs.Replies.{bad_request_term, count_reply, error_term}
use Rattle.pg_node_requests.specs.Replies.{numbered_term, refused_term, reply_term}
use Rattle.std.specs.Str.{chars}
use Rattle.pg_talk.specs.Conversations.{saturated}
use Rattle.pg_talk.specs.Frames.{framed, IsUntellable, untellable_number, WritesReply}
use Rattle.pg_talk.specs.Servings.{IsKept, with_node}
use Rattle.pg_talk.specs.Asking.{AlternateWithAnswers}
use Rattle.pg_talk.specs.Written.{AreReplies, IsDue, IsReply, Known, PortName}
use Rattle.pg_talk.specs.Written.{commands_of, ending_term, outcomes}
use Rattle.pg_talk.specs.declared.service.ending.Ending.{Ending}
use Rattle.pg_talk.specs.declared.service.ending.Ending.TheVariants.{Lost, Open, Unasked}

pub true_is_not_false : true ≡ false → ⊥
true_is_not_false e = absurd (cc)

-- ---- numbers, as terms have them

counted_same : (a b : ℕ) → saturated a ≡ saturated b → count_reply a ≡ count_reply b
counted_same a b e = ap (λ n. Int (pos n)) (omega (arith, e))

pub numbered_same : (name : List ℕ) (port a b : ℕ) (reply : Term) → saturated a ≡ saturated b → numbered_term name port a reply ≡ numbered_term name port b reply
numbered_same name port a b reply e = ap (λ n. Tuple (Atom name ∷ Int (pos port) ∷ n ∷ reply ∷ [])) (counted_same a b e)

pub bad_same : (a b : ℕ) → saturated a ≡ saturated b → bad_request_term a ≡ bad_request_term b
bad_same a b e = ap (λ n. error_term (chars (codes "bad_request")) n) (counted_same a b e)

-- ---- lists that grow at their end

abbrev answered : List Answer → List Term
answered heard = map (λ (answer : Answer). reply_term answer.reply) heard

length-outcomes : (name : List ℕ) (heard : List Answer) (endings : List Ending) → length (outcomes name heard endings) ≡ length heard + length endings
length-outcomes name heard endings =
    let all = length-append (answered heard) (map (ending_term name) endings) in
    let first = length-map heard (λ (answer : Answer). reply_term answer.reply) in
    let rest = length-map endings (ending_term name) in
    omega (arith, all, first, rest)

answer_more : (name : List ℕ) (heard : List Answer) (answer : Answer) → outcomes name (heard ++ answer ∷ []) [] ≡ outcomes name heard [] ++ reply_term answer.reply ∷ []
answer_more name heard answer =
    append-nil (answered (heard ++ answer ∷ [])) ∙ map-append (λ (answer : Answer). reply_term answer.reply) heard (answer ∷ [])
    ∙ ap (λ (terms : List Term). terms ++ reply_term answer.reply ∷ []) (sym (append-nil (answered heard)))

ending_more : (name : List ℕ) (heard : List Answer) (endings : List Ending) (one : Ending) → outcomes name heard (endings ++ one ∷ []) ≡ outcomes name heard endings ++ ending_term name one ∷ []
ending_more name heard endings one =
    ap (λ (terms : List Term). answered heard ++ terms) (map-append (ending_term name) endings (one ∷ []))
    ∙ sym (append_assoc (answered heard) (map (ending_term name) endings) (ending_term name one ∷ []))

is_reply_by : (port : PortName) (k j : ℕ) (o p r s : Term) → j ≡ k → p ≡ o → s ≡ r → IsReply port k o r → IsReply port j p s
is_reply_by port k j o p r s e f g is = subst (λ n. IsReply port n p s) (sym e) (subst (λ (t : Term). IsReply port k t s) (sym f) (subst (λ (t : Term). IsReply port k o t) (sym g) is))

replies_more : (port : PortName) (os rs : List Term) (o r : Term) → AreReplies port os rs → IsReply port (length rs + 1) o r → AreReplies port (os ++ o ∷ []) (rs ++ r ∷ [])
replies_more port os rs o r all is = record {
  count = omega (arith, all.count, length-append rs (r ∷ []), length-append os (o ∷ []));
  each = each;
}
  where
    each : (k : ℕ) (none : Term) → k < length (os ++ o ∷ []) → IsReply port (k + 1) (get_or (os ++ o ∷ []) k none) (get_or (rs ++ r ∷ []) k none)
    each k none low = elim (eqb_tells k (length rs)) [
      | inl t ↦ is_reply_by port (length rs + 1) (k + 1) o (get_or (os ++ o ∷ []) k none) r (get_or (rs ++ r ∷ []) k none) (ap (λ n. n + 1) t.1)
          (get_or_push os o none k (sym all.count ∙ sym t.1)) (get_or_push rs r none k (sym t.1)) is
      | inr f ↦
          let more = length-append os (o ∷ []) in
          let less : k < length rs = let n = f.1 in let c = all.count in omega (arith, n, c, low, more) in
          let less_too : k < length os = let c = all.count in omega (arith, less, c) in
          is_reply_by port (k + 1) (k + 1) (get_or os k none) (get_or (os ++ o ∷ []) k none) (get_or rs k none) (get_or (rs ++ r ∷ []) k none) refl
          (get_or-append os (o ∷ []) none k less_too) (get_or-append rs (r ∷ []) none k less) (all.each k none less_too)
    ]

pub turns_more : (asked : List Asked) (one : Asked) → AlternateWithAnswers asked → one.polled ≡ saturated (length asked) → AlternateWithAnswers (asked ++ one ∷ [])
turns_more asked one all here k none low = elim (eqb_tells k (length asked)) [
  | inl t ↦ ap (λ (x : Asked). x.polled) (get_or_push asked one none k (sym t.1)) ∙ here ∙ ap saturated (sym t.1)
  | inr f ↦
      let more = length-append asked (one ∷ []) in
      let less : k < length asked = let n = f.1 in omega (arith, n, low, more) in
      ap (λ (x : Asked). x.polled) (get_or-append asked (one ∷ []) none k less) ∙ all k none less
]

-- ---- a reply that was written

pub reply_written : (port : PortName) (outcome : Term) (before after : Option (List ℕ)) (n r : ℕ) → n ≡ saturated r
    → WritesReply before after port.name port.number (saturated (n + 1)) outcome → (term : Term) × IsReply port (r + 1) outcome term × Appends before after (framed term)
reply_written port outcome before after n r is wrote = go wrote
  where
    same : (t : Term) → numbered_term port.name port.number (saturated (n + 1)) t ≡ numbered_term port.name port.number (r + 1) t
    same t = let e : saturated (saturated (n + 1)) ≡ saturated (r + 1) = omega (arith, is) in numbered_same port.name port.number (saturated (n + 1)) (r + 1) t e

    go : WritesReply before after port.name port.number (saturated (n + 1)) outcome → (term : Term) × IsReply port (r + 1) outcome term × Appends before after (framed term)
    go (inl whole) = (numbered_term port.name port.number (saturated (n + 1)) outcome, inl (same outcome), whole)
    go (inr refused) =
        let told = untellable_number (numbered_term port.name port.number (saturated (n + 1)) outcome) in (
          numbered_term port.name port.number (saturated (n + 1)) (refused_term told),
          inr (
            subst IsUntellable (same outcome) refused.0,
            same (refused_term told) ∙ ap (λ (t : Term). numbered_term port.name port.number (r + 1) (refused_term (untellable_number t))) (same outcome),
          ),
          refused.1,
        )

-- ---- what is done

-- each of these endings is due, by how much was said and heard
abbrev AreDue : Known → ℕ → ℕ → List Ending → Type 0
AreDue known heard said endings = (k : ℕ) (none : Ending) → k < length endings → IsDue known (nat_lt (heard + k) said) (get_or endings k none)

never : (known : Known) (handed : Bool) (one : Ending) → known.lost ≡ false → known.full ≡ false → IsDue known handed one → ⊥
never known handed Lost there free is = true_is_not_false (sym is ∙ there)
never known handed Open there free is = true_is_not_false (sym is.0 ∙ free)
never known handed Unasked there free is = true_is_not_false (sym is.0 ∙ free)

-- where the node is there and no clock is full there is none
no_endings : (known : Known) (heard said : ℕ) (endings : List Ending) → known.lost ≡ false → known.full ≡ false → AreDue known heard said endings → endings ≡ []
no_endings known heard said [] there free due = refl
no_endings known heard said (one ∷ endings) there free due = absurd (never known (nat_lt (heard + 0) said) one there free (due 0 one (omega arith)))

-- what is known later
abbrev pub Later : Known → Known → Type 0
Later known known2 = (known.lost ≡ true → known2.lost ≡ true) × (known.full ≡ true → known2.full ≡ true)

due_later : (known known2 : Known) (handed : Bool) (one : Ending) → Later known known2 → IsDue known handed one → IsDue known2 handed one
due_later known known2 handed Lost later is = later.0 is
due_later known known2 handed Open later is = (later.1 is.0, is.1)
due_later known known2 handed Unasked later is = (later.1 is.0, is.1)

no_due : (known : Known) (heard said : ℕ) → AreDue known heard said []
no_due known heard said k none low = absurd (omega (arith, low))

first_due : (known : Known) (heard said : ℕ) (one : Ending) → heard + 0 < said → IsDue known true one → AreDue known heard said (one ∷ [])
first_due known heard said one handed due zero none low = subst (λ (b : Bool). IsDue known b one) (sym (lt-ltb (heard + 0) said handed)) due
first_due known heard said one handed due (suc k) none low = absurd (omega (arith, low))

due_more : (known : Known) (heard said : ℕ) (endings : List Ending) (one : Ending) → AreDue known heard said endings → said ≤ heard + length endings → IsDue known false one
    → AreDue known heard said (endings ++ one ∷ [])
due_more known heard said endings one all beyond due k none low = elim (eqb_tells k (length endings)) [
  | inl t ↦
      subst (λ (x : Ending). IsDue known (nat_lt (heard + k) said) x) (sym (get_or_push endings one none k (sym t.1)))
      (subst (λ (j : ℕ). IsDue known (nat_lt (heard + j) said) one) (sym t.1)
      (subst (λ (b : Bool). IsDue known b one) (sym (le-ltb (heard + length endings) said beyond)) due))
  | inr f ↦
      let more = length-append endings (one ∷ []) in
      let less : k < length endings = let n = f.1 in omega (arith, n, low, more) in
      subst (λ (x : Ending). IsDue known (nat_lt (heard + k) said) x) (sym (get_or-append endings (one ∷ []) none k less)) (all k none less)
]

one_more : (replied : ℕ) (replies : List Term) (term : Term) → replied ≡ saturated (length replies) → saturated (replied + 1) ≡ saturated (length (replies ++ term ∷ []))
one_more replied replies term e = let n = length-append replies (term ∷ []) in omega (arith, n, e)

module _ (port : PortName) (known : Known) (requests waiting : List Command) (is_asked : Bool) (replied : ℕ) (said : List Asked) (heard : List Answer) (replies : List Term)
    (k : IsKept port known requests waiting is_asked replied said heard replies) where
  -- where more is known
  pub kept_later : (known2 : Known) → Later known known2 → IsKept port known2 requests waiting is_asked replied said heard replies
  kept_later known2 later =
      let s = k.served in record {
        up = k.up;
        line = k.line;
        served = record {
          refused = s.refused;
          handed = s.handed;
          turns = s.turns;
          endings = s.endings;
          due = λ j none low. due_later known known2 (nat_lt (length heard + j) (length said)) (get_or s.endings j none) later (s.due j none low);
          replied = s.replied;
          each = s.each;
          few = s.few;
          under_way = s.under_way;
        };
        count = k.count;
        closed = k.closed;
      }

  -- a request waits for its turn
  pub kept_waits : (command : Command) (waiting2 : List Command) → waiting2 ≡ waiting ++ command ∷ [] → IsKept port known (requests ++ command ∷ []) waiting2 is_asked replied said heard replies
  kept_waits command waiting2 is = record {
    up = k.up;
    line = ap (λ (cs : List Command). cs ++ command ∷ []) k.line ∙ append_assoc k.up waiting (command ∷ []) ∙ ap (λ (cs : List Command). k.up ++ cs) (sym is);
    served = k.served;
    count = k.count;
    closed = k.closed;
  }

  -- the answer of the node is replied
  pub kept_answers : (answer : Answer) (term : Term) → is_asked ≡ true → IsReply port (length replies + 1) (reply_term answer.reply) term
      → IsKept port known requests waiting false (saturated (replied + 1)) said (heard ++ answer ∷ []) (replies ++ term ∷ [])
  kept_answers answer term busy is =
      let s = k.served in
      let none : s.endings ≡ [] = k.closed busy in
      let empty = ap length none in
      let one = ap with_node busy in
      let more = length-append replies (term ∷ []) in
      let more_heard = length-append heard (answer ∷ []) in
      let each = s.each in
      let few = s.few in
      let under_way = s.under_way in record {
        up = k.up;
        line = k.line;
        served = record {
          refused = s.refused;
          handed = s.handed;
          turns = s.turns;
          endings = [];
          due = no_due known (length (heard ++ answer ∷ [])) (length said);
          replied = subst (λ (terms : List Term). AreReplies port terms (replies ++ term ∷ [])) (sym (answer_more port.name heard answer))
              (replies_more port (outcomes port.name heard []) replies (reply_term answer.reply) term (subst (λ (endings : List Ending). AreReplies port (outcomes port.name heard endings) replies) none s.replied) is);
          each = omega (arith, each, one, more);
          few = omega (arith, few, empty);
          under_way = omega (arith, under_way, more_heard);
        };
        count = one_more replied replies term k.count;
        closed = λ e. refl;
      }

  -- why it has no answer is replied to the request that is with the node
  pub kept_closes : (one : Ending) (term : Term) → is_asked ≡ true → IsDue known true one → IsReply port (length replies + 1) (ending_term port.name one) term
      → IsKept port known requests waiting false (saturated (replied + 1)) said heard (replies ++ term ∷ [])
  kept_closes one term busy due is =
      let s = k.served in
      let none : s.endings ≡ [] = k.closed busy in
      let empty = ap length none in
      let with_it = ap with_node busy in
      let more = length-append replies (term ∷ []) in
      let each = s.each in
      let few = s.few in
      let all : s.refused ≡ [] = nil_from_length s.refused (omega (arith, few, empty)) in
      let whole : k.up ≡ commands_of said = s.handed ∙ ap (λ (cs : List Command). commands_of said ++ cs) all ∙ append-nil (commands_of said) in
      let count = s.replied.count ∙ length-outcomes port.name heard s.endings in
      let up = ap length whole ∙ length-map said (λ (x : Asked). x.command) in
      let before : length heard + 0 < length said = omega (arith, count, each, up, empty, with_it) in record {
        up = k.up;
        line = k.line;
        served = record {
          refused = s.refused;
          handed = s.handed;
          turns = s.turns;
          endings = one ∷ [];
          due = first_due known (length heard) (length said) one before due;
          replied = subst (λ (terms : List Term). AreReplies port terms (replies ++ term ∷ [])) (sym (ending_more port.name heard [] one))
              (replies_more port (outcomes port.name heard []) replies (ending_term port.name one) term
              (subst (λ (endings : List Ending). AreReplies port (outcomes port.name heard endings) replies) none s.replied) is);
          each = omega (arith, each, with_it, more);
          few = omega (arith, few, empty);
          under_way = s.under_way;
        };
        count = one_more replied replies term k.count;
        closed = λ e. absurd (true_is_not_false (sym e));
      }

  -- and to the next request that waits
  pub kept_refuses : (one : Ending) (command : Command) (rest : List Command) (term : Term) → waiting ≡ command ∷ rest → is_asked ≡ false → IsDue known false one
      → IsReply port (length replies + 1) (ending_term port.name one) term → IsKept port known requests rest false (saturated (replied + 1)) said heard (replies ++ term ∷ [])
  kept_refuses one command rest term front idle due is =
      let s = k.served in
      let none = ap with_node idle in
      let more = length-append replies (term ∷ []) in
      let more_refused = length-append s.refused (command ∷ []) in
      let more_up = length-append k.up (command ∷ []) in
      let more_endings = length-append s.endings (one ∷ []) in
      let each = s.each in
      let few = s.few in
      let count = s.replied.count ∙ length-outcomes port.name heard s.endings in
      let parts = ap length s.handed ∙ length-append (commands_of said) s.refused in
      let all_said = length-map said (λ (x : Asked). x.command) in
      let beyond : length said ≤ length heard + length s.endings = omega (arith, count, each, none, parts, all_said) in record {
        up = k.up ++ command ∷ [];
        line = k.line ∙ ap (λ (cs : List Command). k.up ++ cs) front ∙ sym (append_assoc k.up (command ∷ []) rest);
        served = record {
          refused = s.refused ++ command ∷ [];
          handed = ap (λ (cs : List Command). cs ++ command ∷ []) s.handed ∙ append_assoc (commands_of said) s.refused (command ∷ []);
          turns = s.turns;
          endings = s.endings ++ one ∷ [];
          due = due_more known (length heard) (length said) s.endings one s.due beyond due;
          replied = subst (λ (terms : List Term). AreReplies port terms (replies ++ term ∷ [])) (sym (ending_more port.name heard s.endings one))
              (replies_more port (outcomes port.name heard s.endings) replies (ending_term port.name one) term s.replied is);
          each = omega (arith, each, none, more, more_up);
          few = omega (arith, few, more_refused, more_endings);
          under_way = s.under_way;
        };
        count = one_more replied replies term k.count;
        closed = λ e. absurd (true_is_not_false (sym e));
      }

  -- the next request that waits is handed over
  pub kept_hands : (one : Asked) (rest : List Command) → waiting ≡ one.command ∷ rest → known.lost ≡ false → known.full ≡ false → is_asked ≡ false → one.polled ≡ saturated (length heard)
      → IsKept port known requests rest true replied (said ++ one ∷ []) heard replies
  kept_hands one rest front there free idle turn =
      let s = k.served in
      let none : s.endings ≡ [] = no_endings known (length heard) (length said) s.endings there free s.due in
      let empty = ap length none in
      let nobody = ap with_node idle in
      let few = s.few in
      let all : s.refused ≡ [] = nil_from_length s.refused (omega (arith, few, empty)) in
      let whole : k.up ≡ commands_of said = s.handed ∙ ap (λ (cs : List Command). commands_of said ++ cs) all ∙ append-nil (commands_of said) in
      let count = s.replied.count ∙ length-outcomes port.name heard s.endings in
      let each = s.each in
      let up = ap length whole ∙ length-map said (λ (x : Asked). x.command) in
      let level : length said ≡ length heard = omega (arith, count, each, up, empty, nobody) in
      let more_up = length-append k.up (one.command ∷ []) in
      let more_said = length-append said (one ∷ []) in record {
        up = k.up ++ one.command ∷ [];
        line = k.line ∙ ap (λ (cs : List Command). k.up ++ cs) front ∙ sym (append_assoc k.up (one.command ∷ []) rest);
        served = record {
          refused = [];
          handed = ap (λ (cs : List Command). cs ++ one.command ∷ []) whole ∙ sym (map-append (λ (x : Asked). x.command) said (one ∷ [])) ∙ sym (append-nil (commands_of (said ++ one ∷ [])));
          turns = turns_more said one s.turns (turn ∙ ap saturated (sym level));
          endings = [];
          due = no_due known (length heard) (length (said ++ one ∷ []));
          replied = subst (λ (endings : List Ending). AreReplies port (outcomes port.name heard endings) replies) none s.replied;
          each = omega (arith, each, nobody, more_up);
          few = omega arith;
          under_way = omega (arith, level, more_said);
        };
        count = k.count;
        closed = λ e. refl;
      }

-- at first
pub kept_new : (port : PortName) (known : Known) → IsKept port known [] [] false 0 [] [] []
kept_new port known = record {
  up = [];
  line = refl;
  served = record {
    refused = [];
    handed = refl;
    turns = λ k none low. absurd (omega (arith, low));
    endings = [];
    due = no_due known 0 0;
    replied = record { count = refl; each = λ k none low. absurd (omega (arith, low)) };
    each = refl;
    few = omega arith;
    under_way = omega arith;
  };
  count = refl;
  closed = λ e. refl;
}
