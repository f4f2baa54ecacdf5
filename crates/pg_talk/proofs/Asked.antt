-- What a client of a conversation says, and its speaker.
use Rattle.std.proofs.Common.{◌≡◌, ◌≢◌, ◌⊎◌, ◌≤◌, ◌<◌, ◌+◌, ◌-◌, ◌^◌, ◌++◌, ℕ, zero, suc, Bool}
use Rattle.std.proofs.Common.{true, false, cond, min, List, [], ◌∷◌, Option, Some, None, length}
use Rattle.std.proofs.Common.{get_or, map, set, take, inl, inr, refl, sym, ap, subst, ◌∙◌, arith}
use Rattle.std.specs.Prelude.{slice_get}
use Rattle.std.specs.List.{All}
use Rattle.std.proofs.lemmas.Bool.{cases_eq}
use Rattle.std.proofs.lemmas.Bool.Decides.{eqb_tells}
use Rattle.std.proofs.lemmas.List.{length-set, length-map, length-append, map-append}
use Rattle.std.proofs.lemmas.List.{append_assoc, get_or-set_same, get_or-set_other}
use Rattle.pg_cluster.proofs.PgStep.Machines.Options.{some_is}
use Rattle.std.proofs.Math.ListN.{get_or-append}
use Rattle.std.proofs.Math.Seq.{get_or-append_seam, take-append_seam}
use Rattle.pg_term.specs.declared.pid.Pid.{Pid}
use Rattle.pg_cluster.specs.PgStep.declared.answer.Answer.{Answer}
use Rattle.pg_cluster.specs.PgStep.declared.answer.Reply.{Reply}
use Rattle.pg_cluster.specs.PgStep.declared.command.Command.{Command}
use Rattle.pg_cluster.specs.PgStep.declared.command.Command.TheVariants.{Create, Join, Leave, Make}
use Rattle.pg_cluster.specs.PgNodeRun.declared.port.Asked.{Asked}
use Rattle.pg_cluster.specs.PgNodeRun.declared.port.Client.{Client}
use Rattle.pg_cluster.specs.PgNodeRun.Ports.{IsSilent, submitted, polled, polled_count}
use Rattle.pg_cluster.specs.Clients.{AllPairs}
use Rattle.pg_talk.specs.declared.speaker.Speaker.{Speaker}
use Rattle.pg_talk.specs.declared.speaker.Stage.{Stage}
use Rattle.pg_talk.specs.declared.speaker.Stage.TheVariants.{Waiting, Creating, Making, Joining, Leaving, Silent}
use Rattle.pg_talk.specs.Asking.{AllKeep, AllSpoke, AlternateWithAnswers, HasHeard, HasRest, MayBe, Spoke, all_asked, commands_of}
use Rattle.pg_talk.specs.Asking.{first_asked, group_name, is_first, left_to_say, made_in, process_made}
use Rattle.pg_talk.specs.Asking.{make_place, next_said, pid_after, rounds_after, rounds_asked, stage_after}
use Rattle.pg_talk.specs.Conversations.{saturated}
use Rattle.pg_talk.proofs.Conversing.{add_one_up_to}
use Rattle.pg_talk.proofs.Posts.{turns_more}

-- ---- what is left to be said

-- the command of a stage is the next
left_splits : (s : Stage) (known : Option Pid) (n : ℕ) (command : Command) (p : Pid) → next_said s known ≡ Some command → MayBe p known → left_to_say s false n p ≡ command ∷ left_to_say s true n p
left_splits Waiting known n command p is may = absurd (cc)
left_splits Creating known n command p is may = ap (λ (c : Command). c ∷ Make ∷ rounds_asked p n) (some_is is)
left_splits Making known n command p is may = ap (λ (c : Command). c ∷ rounds_asked p n) (some_is is)
left_splits Joining None n command p is may = absurd (cc)
left_splits Joining (Some q) n command p is may = ap (λ (c : Command). c ∷ Leave group_name p ∷ rounds_asked p n) (ap (Join group_name) (sym may) ∙ some_is is)
left_splits Leaving None n command p is may = absurd (cc)
left_splits Leaving (Some q) n command p is may = ap (λ (c : Command). c ∷ rounds_asked p n) (ap (Leave group_name) (sym may) ∙ some_is is)
left_splits Silent known n command p is may = absurd (cc)

one_less : (n : ℕ) → suc n - 1 ≡ n
one_less n = omega arith

-- an answer leaves it
left_goes : (s : Stage) (n : ℕ) (p : Pid) → left_to_say (stage_after s n) false (rounds_after s n) p ≡ left_to_say s true n p
left_goes Waiting n p = refl
left_goes Creating n p = refl
left_goes Making zero p = refl
left_goes Making (suc n) p = ap (λ k. Join group_name p ∷ Leave group_name p ∷ rounds_asked p k) (one_less n)
left_goes Joining n p = refl
left_goes Leaving zero p = refl
left_goes Leaving (suc n) p = ap (λ k. Join group_name p ∷ Leave group_name p ∷ rounds_asked p k) (one_less n)
left_goes Silent n p = refl

-- ---- what was heard

at_asked : (creates : Bool) (s : Stage) (known : Option Pid) (command : Command) (count : ℕ) → next_said s known ≡ Some command → HasHeard creates s false count → HasHeard creates s true count
at_asked creates Waiting known command count is at = absurd (cc)
at_asked creates Creating known command count is at = at
at_asked creates Making known command count is at = at
at_asked creates Joining known command count is at = at
at_asked creates Leaving known command count is at = at
at_asked creates Silent known command count is at = at

one_more : (a b : ℕ) → a ≡ b → b < a + 1
one_more a b e = omega (arith, e)

still_more : (a b : ℕ) → b < a → b < a + 1
still_more a b l = omega (arith, l)

at_after : (creates : Bool) (s : Stage) (n count : ℕ) → HasHeard creates s true count → HasHeard creates (stage_after s n) false (count + 1)
at_after creates Waiting n count at = absurd (let no = at.1 in cc)
at_after creates Creating n count at = ap (λ k. k + 1) at.1 ∙ sym (ap make_place at.0)
at_after creates Making zero count at = one_more count (make_place creates) at
at_after creates Making (suc n) count at = one_more count (make_place creates) at
at_after creates Joining n count at = still_more count (make_place creates) at
at_after creates Leaving zero count at = still_more count (make_place creates) at
at_after creates Leaving (suc n) count at = still_more count (make_place creates) at
at_after creates Silent n count at = still_more count (make_place creates) at

-- the answer to the make is that at its place
made_here : (creates : Bool) (heard : List Answer) (answer : Answer) → length heard ≡ make_place creates → made_in creates (heard ++ answer ∷ []) ≡ process_made answer.reply
made_here true [] answer at = absurd (cc)
made_here true (x ∷ []) answer at = refl
made_here true (x ∷ y ∷ xs) answer at = absurd (omega (arith, at))
made_here false [] answer at = refl
made_here false (x ∷ xs) answer at = absurd (cc)

made_before : (creates : Bool) (heard : List Answer) (answer : Answer) → make_place creates < length heard → made_in creates (heard ++ answer ∷ []) ≡ made_in creates heard
made_before true [] answer at = absurd (omega (arith, at))
made_before true (x ∷ []) answer at = absurd (omega (arith, at))
made_before true (x ∷ y ∷ xs) answer at = refl
made_before false [] answer at = absurd (omega (arith, at))
made_before false (x ∷ xs) answer at = refl

made_later : (creates : Bool) (heard : List Answer) (answer : Answer) → creates ≡ true → length heard ≡ 0 → made_in creates (heard ++ answer ∷ []) ≡ made_in creates heard
made_later true [] answer is at = refl
made_later true (x ∷ xs) answer is at = absurd (cc)
made_later false heard answer is at = absurd (cc)

none_made : (creates : Bool) (heard : List Answer) → length heard ≡ make_place creates → made_in creates heard ≡ None
none_made true [] at = refl
none_made true (x ∷ []) at = refl
none_made true (x ∷ y ∷ xs) at = absurd (omega (arith, at))
none_made false [] at = refl
none_made false (x ∷ xs) at = absurd (cc)

process_after : (creates : Bool) (s : Stage) (known : Option Pid) (heard : List Answer) (answer : Answer) → HasHeard creates s true (length heard) → known ≡ made_in creates heard
    → pid_after s known answer.reply ≡ made_in creates (heard ++ answer ∷ [])
process_after creates Waiting known heard answer at is = absurd (let no = at.1 in cc)
process_after creates Creating known heard answer at is = is ∙ sym (made_later creates heard answer at.0 at.1)
process_after creates Making known heard answer at is = sym (made_here creates heard answer at)
process_after creates Joining known heard answer at is = is ∙ sym (made_before creates heard answer at)
process_after creates Leaving known heard answer at is = is ∙ sym (made_before creates heard answer at)
process_after creates Silent known heard answer at is = is ∙ sym (made_before creates heard answer at)

may_before : (creates : Bool) (s : Stage) (known : Option Pid) (heard : List Answer) (reply : Reply) (p : Pid) → HasHeard creates s true (length heard) → known ≡ made_in creates heard
    → MayBe p (pid_after s known reply) → MayBe p known
may_before creates Waiting known heard reply p at is may = may
may_before creates Creating known heard reply p at is may = may
may_before creates Making known heard reply p at is may = subst (MayBe p) (sym (is ∙ none_made creates heard at)) tt
may_before creates Joining known heard reply p at is may = may
may_before creates Leaving known heard reply p at is may = may
may_before creates Silent known heard reply p at is may = may

-- ---- a client and its speaker

module _ (creates : Bool) (rounds : ℕ) where
  -- the group is there
  pub begins : (a b : Speaker) (client : Client) → a.stage ≡ Waiting → b.stage ≡ Making → b.is_asked ≡ a.is_asked → b.pid ≡ a.pid → b.rounds ≡ a.rounds → b.answered ≡ a.answered
      → HasRest creates rounds a client → HasRest creates rounds b client
  begins a b client was now asked pid left answered k =
      let count = length (polled client) in
      let at : (creates ≡ false) × (a.is_asked ≡ false) × (count ≡ 0) = subst (λ s. HasHeard creates s a.is_asked count) was k.at in
      let rest : (p : Pid) → left_to_say b.stage b.is_asked b.rounds p ≡ left_to_say a.stage a.is_asked a.rounds p = λ p.
      (λ j. left_to_say (now j) ((asked ∙ at.1) j) (left j) p) ∙ sym (λ j. left_to_say (was j) a.is_asked a.rounds p) in record {
        counted = answered ∙ k.counted;
        process = pid ∙ k.process;
        said = λ p may. ap (λ r. commands_of client ++ r) (rest p) ∙ k.said p (subst (MayBe p) pid may);
        turns = k.turns ∙ ap (λ x. count + cond x 1 0) (sym asked);
        alternate = k.alternate;
        at = subst (λ s. HasHeard creates s b.is_asked count) (sym now) (at.2 ∙ sym (ap make_place at.0));
      }

  -- the command of the stage is submitted
  pub asks : (a b : Speaker) (client client2 : Client) (command : Command) → a.is_asked ≡ false → next_said a.stage a.pid ≡ Some command
      → submitted client2 ≡ submitted client ++ record { command = command; polled = polled_count client } ∷ [] → polled client2 ≡ polled client
      → b.stage ≡ a.stage → b.is_asked ≡ true → b.pid ≡ a.pid → b.rounds ≡ a.rounds → b.answered ≡ a.answered → HasRest creates rounds a client → HasRest creates rounds b client2
  asks a b client client2 command unasked next gave heard stage asked pid left answered k =
      let count = length (polled client) in
      let at : HasHeard creates a.stage false count = subst (λ x. HasHeard creates a.stage x count) unasked k.at in
      let commands : commands_of client2 ≡ commands_of client ++ command ∷ [] = ap (map (λ (x : Asked). x.command)) gave ∙ map-append (λ (x : Asked). x.command) (submitted client) (record { command = command; polled = polled_count client } ∷ []) in
      let one : Asked = record { command = command; polled = polled_count client } in
      let level : count ≡ length (submitted client) =
      let said : length (commands_of client) ≡ count + 0 = k.turns ∙ ap (λ x. count + cond x 1 0) unasked in
      let all = length-map (submitted client) (λ (x : Asked). x.command) in omega (arith, said, all) in
      let rest : (p : Pid) → MayBe p a.pid → command ∷ left_to_say b.stage b.is_asked b.rounds p ≡ left_to_say a.stage a.is_asked a.rounds p = λ p may.
      (λ j. command ∷ left_to_say (stage j) (asked j) (left j) p) ∙ sym ((λ j. left_to_say a.stage (unasked j) a.rounds p) ∙ left_splits a.stage a.pid a.rounds command p next may) in record {
        counted = answered ∙ (k.counted ∙ ap (λ xs. min (length xs) (2 ^ 64 - 1)) (sym heard));
        process = pid ∙ (k.process ∙ ap (made_in creates) (sym heard));
        said = λ p may. let before = subst (MayBe p) pid may in
            ap (λ cs. cs ++ left_to_say b.stage b.is_asked b.rounds p) commands ∙ (append_assoc (commands_of client) (command ∷ []) (left_to_say b.stage b.is_asked b.rounds p)
            ∙ (ap (λ r. commands_of client ++ r) (rest p before) ∙ k.said p before));
        turns = ap length commands ∙ (length-append (commands_of client) (command ∷ []) ∙ (ap (λ n. n + 1) (k.turns ∙ ap (λ x. count + cond x 1 0) unasked)
            ∙ (plain count ∙ (λ j. length (sym heard j) + cond (sym asked j) 1 0))));
        alternate = subst AlternateWithAnswers (sym gave) (turns_more (submitted client) one k.alternate (ap (λ n. min n (2 ^ 64 - 1)) level));
        at = subst (λ s. HasHeard creates s b.is_asked (length (polled client2))) (sym stage)
            (subst (λ x. HasHeard creates a.stage x (length (polled client2))) (sym asked)
            (subst (λ (h : List Answer). HasHeard creates a.stage true (length h)) (sym heard) (at_asked creates a.stage a.pid command count next at)));
      }
    where
      plain : (n : ℕ) → n + 0 + 1 ≡ n + 1
      plain n = omega arith

  -- it is not submitted
  pub stays : (a b : Speaker) (client client2 : Client) → a.is_asked ≡ false → b.is_asked ≡ false → submitted client2 ≡ submitted client → polled client2 ≡ polled client
      → b.stage ≡ a.stage → b.pid ≡ a.pid → b.rounds ≡ a.rounds → b.answered ≡ a.answered → HasRest creates rounds a client → HasRest creates rounds b client2
  stays a b client client2 unasked still gave heard stage pid left answered k =
      let asked : b.is_asked ≡ a.is_asked = still ∙ sym unasked in record {
        counted = answered ∙ (k.counted ∙ ap (λ (xs : List Answer). min (length xs) (2 ^ 64 - 1)) (sym heard));
        process = pid ∙ (k.process ∙ ap (made_in creates) (sym heard));
        said = λ p may. ap (λ (xs : List Asked). map (λ (x : Asked). x.command) xs ++ left_to_say b.stage b.is_asked b.rounds p) gave
            ∙ ((λ j. commands_of client ++ left_to_say (stage j) (asked j) (left j) p) ∙ k.said p (subst (MayBe p) pid may));
        turns = ap (λ (xs : List Asked). length (map (λ (x : Asked). x.command) xs)) gave ∙ (k.turns ∙ (λ j. length (sym heard j) + cond (sym asked j) 1 0));
        alternate = subst AlternateWithAnswers (sym gave) k.alternate;
        at = subst (λ s. HasHeard creates s b.is_asked (length (polled client2))) (sym stage)
            (subst (λ x. HasHeard creates a.stage x (length (polled client2))) (sym asked)
            (subst (λ (h : List Answer). HasHeard creates a.stage a.is_asked (length h)) (sym heard) k.at));
      }

  -- the command of the stage is answered
  pub hears : (a b : Speaker) (client client2 : Client) (answer : Answer) → a.is_asked ≡ true → polled client2 ≡ polled client ++ answer ∷ [] → submitted client2 ≡ submitted client
      → b.answered ≡ saturated (a.answered + 1) → b.is_asked ≡ false → b.pid ≡ pid_after a.stage a.pid answer.reply → b.stage ≡ stage_after a.stage a.rounds
      → b.rounds ≡ rounds_after a.stage a.rounds → HasRest creates rounds a client → HasRest creates rounds b client2
  hears a b client client2 answer asked heard gave answered unasked pid stage left k =
      let count = length (polled client) in
      let at : HasHeard creates a.stage true count = subst (λ x. HasHeard creates a.stage x count) asked k.at in
      let longer : length (polled client2) ≡ count + 1 = ap length heard ∙ length-append (polled client) (answer ∷ []) in
      let rest : (p : Pid) → left_to_say b.stage b.is_asked b.rounds p ≡ left_to_say a.stage a.is_asked a.rounds p = λ p.
      (λ j. left_to_say (stage j) (unasked j) (left j) p) ∙ (left_goes a.stage a.rounds p ∙ (λ j. left_to_say a.stage (sym asked j) a.rounds p)) in record {
        counted = answered ∙ (add_one_up_to (2 ^ 64 - 1) a.answered count k.counted ∙ ap (λ n. min n (2 ^ 64 - 1)) (sym longer));
        process = pid ∙ (process_after creates a.stage a.pid (polled client) answer at k.process ∙ ap (made_in creates) (sym heard));
        said = λ p may. ap (λ (xs : List Asked). map (λ (x : Asked). x.command) xs ++ left_to_say b.stage b.is_asked b.rounds p) gave
            ∙ (ap (λ r. commands_of client ++ r) (rest p) ∙ k.said p (may_before creates a.stage a.pid (polled client) answer.reply p at k.process (subst (MayBe p) pid may)));
        turns = ap (λ (xs : List Asked). length (map (λ (x : Asked). x.command) xs)) gave ∙ (k.turns ∙ (ap (λ x. count + cond x 1 0) asked
            ∙ (plain count ∙ (λ j. sym longer j + cond (sym unasked j) 1 0))));
        alternate = subst AlternateWithAnswers (sym gave) k.alternate;
        at = subst (λ s. HasHeard creates s b.is_asked (length (polled client2))) (sym stage)
            (subst (λ x. HasHeard creates (stage_after a.stage a.rounds) x (length (polled client2))) (sym unasked)
            (subst (HasHeard creates (stage_after a.stage a.rounds) false) (sym longer) (at_after creates a.stage a.rounds count at)));
      }
    where
      plain : (n : ℕ) → n + 1 ≡ n + 1 + 0
      plain n = omega arith

  -- a client that has said nothing yet
  pub first_keeps : (a : Speaker) (client : Client) → IsSilent client → a.answered ≡ 0 → a.pid ≡ None → a.is_asked ≡ false → a.rounds ≡ rounds → HasHeard creates a.stage false 0
      → ((p : Pid) → left_to_say a.stage false rounds p ≡ all_asked creates rounds p) → HasRest creates rounds a client
  first_keeps a client silent answered pid unasked left at all = record {
    counted = answered ∙ sym (ap (λ (xs : List Answer). min (length xs) (2 ^ 64 - 1)) silent.polled);
    process = pid ∙ (sym (nothing creates) ∙ ap (made_in creates) (sym silent.polled));
    said = λ p may. ap (λ (xs : List Asked). map (λ (x : Asked). x.command) xs ++ left_to_say a.stage a.is_asked a.rounds p) silent.submitted
        ∙ ((λ j. left_to_say a.stage (unasked j) (left j) p) ∙ all p);
    turns = ap (λ (xs : List Asked). length (map (λ (x : Asked). x.command) xs)) silent.submitted ∙ (λ j. length (sym silent.polled j) + cond (sym unasked j) 1 0);
    alternate = subst AlternateWithAnswers (sym silent.submitted) (λ n none low. absurd (omega (arith, low)));
    at = subst (λ x. HasHeard creates a.stage x (length (polled client))) (sym unasked) (subst (λ (xs : List Answer). HasHeard creates a.stage false (length xs)) (sym silent.polled) at);
  }
    where
      nothing : (b : Bool) → made_in b [] ≡ None
      nothing true = refl
      nothing false = refl

  -- what it has said
  pub keeps_spoke : (a : Speaker) (client : Client) → HasRest creates rounds a client → Spoke creates rounds client
  keeps_spoke a client k = record {
    asked = λ p may. ap (take (length (commands_of client))) (sym (k.said p (subst (MayBe p) (sym k.process) may))) ∙ take-append_seam (commands_of client) (left_to_say a.stage a.is_asked a.rounds p);
    heard = at_least a.is_asked (length (commands_of client)) (length (polled client)) k.turns;
    turns = at_most a.is_asked (length (commands_of client)) (length (polled client)) k.turns;
    alternate = k.alternate;
  }
    where
      at_least : (b : Bool) (n m : ℕ) → n ≡ m + cond b 1 0 → m ≤ n
      at_least true n m e = omega (arith, e)
      at_least false n m e = omega (arith, e)

      at_most : (b : Bool) (n m : ℕ) → n ≡ m + cond b 1 0 → n ≤ m + 1
      at_most true n m e = omega (arith, e)
      at_most false n m e = omega (arith, e)

-- ---- all clients

-- one of them goes on, and the others stay
pub keep_after : (rounds : ℕ) (speakers : List Speaker) (clients clients2 : List Client) (k : ℕ) (s2 : Speaker) → k < length clients → length clients2 ≡ length clients
    → ((i : ℕ) (c : Client) → i ≢ k → get_or clients2 i c ≡ get_or clients i c) → ((c : Client) → HasRest (is_first k) rounds s2 (get_or clients2 k c))
    → AllKeep rounds speakers clients → AllKeep rounds (set speakers k s2) clients2
keep_after rounds speakers clients clients2 k s2 within count stay here all = record {
  len = length-set speakers k s2 ∙ all.len ∙ sym count;
  each = λ i s c low. each i s c (omega (arith, low, count)) (cases_eq i k);
}
  where
    each : (i : ℕ) (s : Speaker) (c : Client) → i < length clients → (i ≡ k) ⊎ (i ≢ k) → HasRest (is_first i) rounds (get_or (set speakers k s2) i s) (get_or clients2 i c)
    each i s c low (inl e) =
        subst (λ j. HasRest (is_first j) rounds (get_or (set speakers k s2) j s) (get_or clients2 j c)) (sym e)
        (rw (get_or-set_same speakers k s2 s (omega (arith, all.len, within))) (here c))
    each i s c low (inr n) = rw (get_or-set_other speakers k i s2 s n, stay i c n) (all.each i s c low)

-- what all said
pub all_spoke : (rounds : ℕ) (speakers : List Speaker) (clients : List Client) → AllKeep rounds speakers clients → AllSpoke rounds clients
all_spoke rounds [] clients all = λ i c low. absurd (omega (arith, low, all.len))
all_spoke rounds (s ∷ speakers) clients all = λ i c low. keeps_spoke (is_first i) rounds (get_or (s ∷ speakers) i s) (get_or clients i c) (all.each i s c low)

-- what is counted of them
pub all_counted_of : (rounds : ℕ) (speakers : List Speaker) (clients : List Client) → AllKeep rounds speakers clients → AllPairs (λ (s : Speaker) (c : Client). s.answered ≡ polled_count c) speakers clients
all_counted_of rounds speakers clients all = record { len = all.len; each = λ i s c low. (all.each i s c low).counted }

-- one more client that has said nothing
pub begin_push : (rounds : ℕ) (speakers : List Speaker) (s2 : Speaker)
    → ((i : ℕ) (s : Speaker) (client : Client) → i < length speakers → IsSilent client → HasRest (is_first i) rounds (get_or speakers i s) client)
    → ((client : Client) → IsSilent client → HasRest (is_first (length speakers)) rounds s2 client)
    → (i : ℕ) (s : Speaker) (client : Client) → i < length (speakers ++ s2 ∷ []) → IsSilent client → HasRest (is_first i) rounds (get_or (speakers ++ s2 ∷ []) i s) client
begin_push rounds speakers s2 all here i s client low silent = elim (eqb_tells i (length speakers)) [
  | inl t ↦
      subst (λ k. HasRest (is_first k) rounds (get_or (speakers ++ s2 ∷ []) k s) client) (sym t.1)
      (subst (λ (x : Speaker). HasRest (is_first (length speakers)) rounds x client) (sym (get_or-append_seam speakers s2 [] s)) (here client silent))
  | inr f ↦
      let less : i < length speakers = let n = length-append speakers (s2 ∷ []) in omega (arith, f.1, low, n) in
      subst (λ (x : Speaker). HasRest (is_first i) rounds x client) (sym (get_or-append speakers (s2 ∷ []) s i less)) (all i s client less silent)
]
