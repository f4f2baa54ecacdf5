-- A process on its way from its beginning to its end.
use Rattle.std.proofs.Common.{◌≡◌, ◌≢◌, ◌<◌, ◌∙◌, ℕ, Bool, true, false, Option, Some, None, List, [], ◌∷◌, ◌++◌, length, inl, inr, refl, sym, ap, subst, append-nil, append_assoc, arith}
use Rattle.std.specs.Prelude.{Result, Ok, Err, OnOk, ◌-◌}
use Rattle.std.specs.Io.KnownBytes.{Appends}
use Rattle.std.specs.List.{AllByRecursion, flat_map}
use Rattle.std.proofs.lemmas.List.Concat.{flat_map-append}
use Rattle.pg_frame.proofs.Fronts.{front_fits, shorter_behind}
use Rattle.pg_frame.proofs.Readings.{loop_keeps, taking_leaves_others}
use Rattle.pg_frame.specs.Frames.{Leaves, after_front, front_of}
use Rattle.pg_frame.specs.declared.fault.TooLong.{TooLong}
use Rattle.pg_node.proofs.Replicas.Streams.{appends_none, appends_then}
use Rattle.pg_node.specs.Replicas.Causes.{IsFlushed}
use Rattle.pg_node.specs.PgStep.Nodes.{Node}
use Rattle.pg_node_process.specs.declared.passing.PassFault.TheVariants as pass
use Rattle.pg_node_process.specs.Bodies.{body_of}
use Rattle.pg_node_process.specs.Logs.{Entry, entry_bytes}
use Rattle.pg_node_process.specs.Outputs.{IsFramed, Output, said as bytes_said}
use Rattle.pg_node_process.specs.declared.passing.PassFault.{PassFault}
use Rattle.pg_node_process.specs.Passing.{Cause, FailedAt, Passes, WritesPart}
use Rattle.pg_node_process.specs.Whom.{Whom}
use Rattle.pg_process.specs.declared.fault.EndFault.{EndFault}
use Rattle.pg_process.specs.declared.fault.EndFault.TheVariants as ends
use Rattle.pg_process.specs.declared.process.Process.{Process}
use Rattle.pg_process.specs.Chains.{Goes, AllDo, Fails, IsCause, IsWork, Makes, Step, Works, WorksUntil, logged_in, said_in}
use Rattle.pg_process.specs.declared.fault.ProcessFault.{ProcessFault}
use Rattle.pg_process.specs.Deeds.{Brought, Deed, Read, logged}
use Rattle.pg_process.specs.Hearing.{deeds_of, heeded, is_tick, whom_of}
use Rattle.pg_process.specs.Parties.{whom_of as whom_by}
use Rattle.pg_process.specs.Turns.{Attends, HearsInTurn}
use Rattle.pg_process.specs.Serving.{AllTakeTurns, AreAllHeard, AreHeard, HearsAll, IsHaltedBy, IsPassedTo, IsStoppedBy, IsUpToDate, Stops, TakeTurns, log_of, out_of, whom_in}
use Rattle.pg_process.specs.Settled.{IsAtRest, IsSettled}
use Rattle.pg_process.specs.Situations.{Setting, Situation, setting_of, situation_of}
use Rattle.pg_process.specs.Stories.{CantHear, CantHearFirst, HasServed, HearsFirst, HearsFirstUntil, HearsNext, HearsNone, HearsSome, IsCut, IsHalted, IsNew, IsServing, Story}
use Rattle.pg_node.specs.PgStep.Machines.Clocked.{Timed}
use Rattle.pg_node.specs.PgStep.State.{State}
use Rattle.pg_node_process.specs.declared.config.ProcessConfig.{ProcessConfig}
use Rattle.pg_step.specs.PgExchange.GroupList.{GroupList}
use Rattle.pg_process.specs.Beginnings.{StartsAs}
use Rattle.pg_process.specs.Replies.{Replies}
use Rattle.pg_process.specs.Waits.{KeepsShortly}
use Rattle.pg_process.specs.Accounts.{Accounts}
use Rattle.pg_process.specs.declared.process.Told.{Told}
use Rattle.pg_process.proofs.Accounting.{chains_account}
use Rattle.pg_process.proofs.Replying.{chains_reply}
use Rattle.pg_process.proofs.Shortly.{keeps_shortly, sound_on, starts_sound}
use Rattle.pg_process.proofs.Whole.{whole_mirror}
use Rattle.pg_process.proofs.Chained.{all_then, deeds_then, do_then, ends_on, fails_ends, makes_goes, step_of, work_deeds}
use Rattle.pg_process.proofs.Chained.{goes_on as goes_on_after}

-- ---- lists of steps

pub out_then : (xs ys : List Step) → out_of (xs ++ ys) ≡ out_of xs ++ out_of ys
out_then xs ys = ap (λ (os : List Output). flat_map bytes_said os) (flat_map-append (λ (step : Step). step.said) xs ys) ∙ flat_map-append bytes_said (said_in xs) (said_in ys)

pub log_then : (xs ys : List Step) → log_of (xs ++ ys) ≡ log_of xs ++ log_of ys
log_then xs ys = ap (λ (es : List Entry). flat_map entry_bytes es) (flat_map-append (λ (step : Step). logged step.deed) xs ys) ∙ flat_map-append entry_bytes (logged_in xs) (logged_in ys)

-- ---- bodies, one after another

heard_then : (whom : Whom) (xs ys : List (List ℕ)) (ds es : List Deed) → AreHeard whom xs ds → AreHeard whom ys es → AreHeard whom (xs ++ ys) (ds ++ es)
heard_then whom [] ys ds es p q = subst (λ (zs : List Deed). AreHeard whom ys (zs ++ es)) (sym p) q
heard_then whom (x ∷ xs) ys ds es p q = (
  p.0,
  p.1 ++ es,
  p.2,
  ap (λ (zs : List Deed). zs ++ es) p.3
      ∙ ap (λ (zs : List Deed). Read x ∷ zs) (append_assoc (heeded (body_of whom x) x) (p.0 ++ p.1) es ∙ ap (λ (zs : List Deed). heeded (body_of whom x) x ++ zs) (append_assoc p.0 p.1 es)),
  heard_then whom xs ys p.1 es p.4 q,
)

heard_all_then : (whom : Whom) (first : List ℕ) (xs ys : List (List ℕ)) (ds es : List Deed) → AreAllHeard whom first xs ds → AreHeard whom ys es → AreAllHeard whom first (xs ++ ys) (ds ++ es)
heard_all_then whom first xs ys ds es p q = record {
  work = p.work;
  later = p.later ++ es;
  follows = p.follows;
  parts = ap (λ (zs : List Deed). zs ++ es) p.parts ∙ ap (λ (zs : List Deed). Read first ∷ Brought ∷ zs) (append_assoc p.work p.later es);
  heard = heard_then whom xs ys p.later es p.heard q;
}

-- further steps, by which further bodies are heard
hears_then : (set : Setting) (a m b : Situation) (first : List ℕ) (xs ys : List (List ℕ)) (steps more : List Step) (missing : List Deed)
    → HearsAll set a first xs steps [] m → AllDo set m more b → AllByRecursion IsFramed (said_in more) → AreHeard (whom_in set) ys (deeds_of more ++ missing)
    → HearsAll set a first (xs ++ ys) (steps ++ more) missing b
hears_then set a m b first xs ys steps more missing p does framed heard = record {
  heard = subst (λ (ds : List Deed). AreAllHeard (whom_in set) first (xs ++ ys) ds)
      (ap (λ (ds : List Deed). ds ++ (deeds_of more ++ missing)) (append-nil (deeds_of steps)) ∙ (sym (append_assoc (deeds_of steps) (deeds_of more) missing) ∙ ap (λ (ds : List Deed). ds ++ missing) (sym (deeds_then steps more))))
      (heard_all_then (whom_in set) first xs ys (deeds_of steps ++ []) (deeds_of more ++ missing) p.heard heard);
  does = do_then set a m b steps more p.does does;
  framed = subst (λ (os : List Output). AllByRecursion IsFramed os) (sym (flat_map-append (λ (step : Step). step.said) steps more)) (all_then IsFramed (said_in steps) (said_in more) p.framed framed);
}

-- one more is heard in its turn
turns_then : (set : Setting) (bodies : List (List ℕ)) (body : List ℕ) (a : Situation) (p q : Process) → TakeTurns set bodies a (situation_of p) → setting_of p ≡ set → HearsInTurn body p q
    → KeepsShortly set (is_tick (body_of p.parties body)) (situation_of p) (situation_of q) → TakeTurns set (bodies ++ body ∷ []) a (situation_of q)
turns_then set [] body a p q turns is turn shortly =
    (p, q, is, turns, turn, subst (λ (s : Situation). KeepsShortly set (is_tick (body_of p.parties body)) s (situation_of q)) turns shortly, refl)
turns_then set (x ∷ xs) body a p q turns is turn shortly =
    (turns.0, turns.1, turns.2, turns.3, turns.4, turns.5, turns_then set xs body (situation_of turns.1) p q turns.6 is turn shortly)

-- no port keeps a change over two ticks
shortly_then : (config : ProcessConfig) (groups : GroupList) (set : Setting) (start : Situation) (steps : List Step) (body : List ℕ) (p q : Process) → StartsAs config groups set start
    → AllDo set start steps (situation_of p) → setting_of p ≡ set → setting_of q ≡ setting_of p → HearsInTurn body p q → IsAtRest (setting_of q) (situation_of q)
    → KeepsShortly set (is_tick (body_of p.parties body)) (situation_of p) (situation_of q)
shortly_then config groups set start steps body p q starts does is same turn rest =
    subst (λ (v : Setting). KeepsShortly v (is_tick (body_of p.parties body)) (situation_of p) (situation_of q)) is
    (keeps_shortly body p q turn (sound_on set steps start (situation_of p) does (starts_sound config groups set start starts))
    (λ port less. rest.handed port (subst (λ (v : Setting). port < v.ports) (sym same) less)))

-- whom the bodies of a process are of
pub whom_is : (a : Process) → whom_of a ≡ whom_in (setting_of a)
whom_is a =
    let names = ap (λ (ns : List Node). length ns) a.named in
    let peers : length a.peers.items ≡ length (setting_of a).names - 1 = omega (arith, names) in
    a.whom ∙ ap (λ (n : ℕ). whom_by (setting_of a).names (setting_of a).ports n) peers

one_heard : (body : List ℕ) (a : Process) (steps : List Step) (missing work : List Deed) → deeds_of steps ++ missing ≡ Read body ∷ heeded (body_of (whom_of a) body) body ++ work → AllByRecursion IsWork work
    → AreHeard (whom_in (setting_of a)) (body ∷ []) (deeds_of steps ++ missing)
one_heard body a steps missing work deeds follows = (
  work,
  [],
  follows,
  deeds ∙ (ap (λ (w : Whom). Read body ∷ heeded (body_of w body) body ++ work) (whom_is a) ∙ ap (λ (ds : List Deed). Read body ∷ heeded (body_of (whom_in (setting_of a)) body) body ++ ds) (sym (append-nil work))),
  refl,
)

-- ---- the first body

abbrev body_in : Result (Option (List ℕ)) TooLong → List ℕ
body_in (Ok (Some body)) = body
body_in (Ok None) = []
body_in (Err fault) = []

same_body : (x y : List ℕ) → ◌≡◌ {A = Result (Option (List ℕ)) TooLong} (Ok (Some x)) (Ok (Some y)) → x ≡ y
same_body x y is = ap body_in is

first_heard : (whom : Whom) (first : List ℕ) (deeds work : List Deed) → deeds ≡ Read first ∷ Brought ∷ work → AllByRecursion IsWork work → AreAllHeard whom first [] deeds
first_heard whom first deeds work is follows = record {
  work = work;
  later = [];
  follows = follows;
  parts = is ∙ ap (λ (ds : List Deed). Read first ∷ Brought ∷ ds) (sym (append-nil work));
  heard = refl;
}

module _ {W L : Type 0} (contents : W → Option (List ℕ)) (flushed : W → Type 0) (entries : L → Option (List ℕ)) (synced : L → Type 0) (story : Story W L) where
  alone_wrote : {S : Type 0} (holds : S → Option (List ℕ)) (old new : S) → new ≡ old → Appends (holds old) (holds new) []
  alone_wrote holds old new is = subst (λ s. Appends (holds old) (holds s) []) (sym is) (appends_none (holds old))

  pub new_hears : (input unread unread2 : List ℕ) (a b : Process) (w : W) (l : L) → IsNew story input unread a w l → HearsFirst unread unread2 a b
      → IsServing contents flushed entries synced story input unread2 b w l
  new_hears input unread unread2 a b w l new hears =
      let first : hears.body ≡ story.first = same_body hears.body story.first (sym hears.front ∙ (ap front_of new.all ∙ new.front)) in record {
        bodies = [];
        came = subst (λ (bytes : List ℕ). Leaves input (story.first ∷ []) bytes) (ap after_front (sym new.all) ∙ sym hears.behind) (loop_keeps.takes input input story.first [] (loop_keeps.start input) new.front);
        passed = [];
        kept = hears.steps;
        hears = record {
          heard = first_heard (whom_in story.set) story.first (deeds_of hears.steps ++ []) hears.work (append-nil (deeds_of hears.steps) ∙ (hears.deeds ∙ ap (λ (body : List ℕ). Read body ∷ Brought ∷ hears.work) first)) hears.follows;
          does = subst (λ (s : Situation). AllDo story.set s hears.steps (situation_of b)) new.start (subst (λ (set : Setting). AllDo set (situation_of a) hears.steps (situation_of b)) new.set hears.goes.does);
          framed = hears.goes.heard;
        };
        turns = record {
          begun = a;
          noted = hears.noted;
          served = b;
          setting = new.set;
          start = new.start;
          notes = subst (λ (body : List ℕ). Makes (Read body) a hears.noted) first hears.notes;
          mirrored = hears.mirrored;
          brings = hears.brings;
          attends = hears.attends;
          others = refl;
        };
        set = hears.goes.setting ∙ new.set;
        wrote = alone_wrote contents story.out w new.alone.0;
        gathered = hears.goes.gathered ∙ ap (λ (bytes : List ℕ). bytes ++ out_of hears.steps) new.outlet;
        logged = alone_wrote entries story.log l new.alone.1;
        journal = hears.goes.journal ∙ ap (λ (bytes : List ℕ). bytes ++ log_of hears.steps) new.journal;
        out = inl new.alone.0;
        log = inl new.alone.1;
      }

  pub new_halts : (input unread : List ℕ) (fault : EndFault) (a b : Process) (w : W) (l : L) → IsNew story input unread a w l → CantHearFirst unread a b fault
      → IsHalted contents flushed entries synced fault story input b w l
  new_halts input unread (ends.Work fault) a b w l new halts =
      let first : halts.body ≡ story.first = same_body halts.body story.first (sym halts.front ∙ (ap front_of new.all ∙ new.front)) in record {
        cut = record {
          bodies = [];
          unread = after_front input;
          came = loop_keeps.takes input input story.first [] (loop_keeps.start input) new.front;
          passed = [];
          kept = halts.steps;
          missing = halts.missing;
          now = halts.ends.last;
          hears = record {
            heard = first_heard (whom_in story.set) story.first (deeds_of halts.steps ++ halts.missing) halts.work (halts.deeds ∙ ap (λ (body : List ℕ). Read body ∷ Brought ∷ halts.work) first) halts.follows;
            does = subst (λ (s : Situation). AllDo story.set s halts.steps halts.ends.last) new.start (subst (λ (set : Setting). AllDo set (situation_of a) halts.steps halts.ends.last) new.set halts.ends.does);
            framed = halts.ends.heard;
          };
          wrote = alone_wrote contents story.out w new.alone.0;
          gathered = halts.ends.gathered ∙ ap (λ (bytes : List ℕ). bytes ++ out_of halts.steps) new.outlet;
          logged = alone_wrote entries story.log l new.alone.1;
          more = halts.ends.more;
          journal = halts.ends.journal ∙ (ap (λ (bytes : List ℕ). bytes ++ flat_map entry_bytes (logged_in halts.steps ++ halts.ends.more)) new.journal ∙ flat_map-append entry_bytes (logged_in halts.steps) halts.ends.more);
        };
        cause = subst (λ (set : Setting). IsCause set halts.ends.last fault) new.set halts.ends.cause;
      }
  new_halts input unread (ends.Begin fault) a b w l new halts = absurd halts
  new_halts input unread ends.NoGroups a b w l new halts = absurd halts
  new_halts input unread ends.TooLong a b w l new halts = absurd halts
  new_halts input unread ends.Truncated a b w l new halts = absurd halts
  new_halts input unread ends.ReadFault a b w l new halts = absurd halts
  new_halts input unread (ends.Pass fault) a b w l new halts = absurd halts

  -- ---- a further body

  pub goes_on : (input unread unread2 : List ℕ) (a b : Process) (w : W) (l : L) → IsServing contents flushed entries synced story input unread a w l → HearsNext unread unread2 a b
      → IsServing contents flushed entries synced story input unread2 b w l
  goes_on input unread unread2 a b w l p next =
      let steps = next.hears.steps in record {
        bodies = p.bodies ++ next.body ∷ [];
        came = subst (λ (bytes : List ℕ). Leaves input (story.first ∷ (p.bodies ++ next.body ∷ [])) bytes) (sym next.behind) (loop_keeps.takes input unread next.body (story.first ∷ p.bodies) p.came next.front);
        passed = p.passed;
        kept = p.kept ++ steps;
        hears = subst (λ (all : List Step). HearsAll story.set story.start story.first (p.bodies ++ next.body ∷ []) all [] (situation_of b)) (append_assoc p.passed p.kept steps)
            (hears_then story.set story.start (situation_of a) (situation_of b) story.first p.bodies (next.body ∷ []) (p.passed ++ p.kept) steps [] p.hears
            (subst (λ (set : Setting). AllDo set (situation_of a) steps (situation_of b)) p.set next.hears.goes.does) next.hears.goes.heard
            (subst (λ (set : Setting). AreHeard (whom_in set) (next.body ∷ []) (deeds_of steps ++ [])) p.set
            (one_heard next.body a steps [] next.hears.work (append-nil (deeds_of steps) ∙ next.hears.deeds) next.hears.follows)));
        turns = record {
          begun = p.turns.begun;
          noted = p.turns.noted;
          served = p.turns.served;
          setting = p.turns.setting;
          start = p.turns.start;
          notes = p.turns.notes;
          mirrored = p.turns.mirrored;
          brings = p.turns.brings;
          attends = p.turns.attends;
          others = turns_then story.set p.bodies next.body (situation_of p.turns.served) a b p.turns.others p.set next.turn
              (shortly_then story.config story.starts.groups story.set story.start (p.passed ++ p.kept) next.body a b story.starts.starts p.hears.does p.set next.hears.goes.setting next.turn next.rest);
        };
        set = next.hears.goes.setting ∙ p.set;
        wrote = p.wrote;
        gathered = next.hears.goes.gathered ∙ (ap (λ (bytes : List ℕ). bytes ++ out_of steps) p.gathered ∙ sym (out_then p.kept steps));
        logged = p.logged;
        journal = next.hears.goes.journal ∙ (ap (λ (bytes : List ℕ). bytes ++ log_of steps) p.journal ∙ sym (log_then p.kept steps));
        out = p.out;
        log = p.log;
      }

  -- nothing is missing, and no more is logged
  pub cut_nowhere : (input unread : List ℕ) (a : Process) (w : W) (l : L) → IsServing contents flushed entries synced story input unread a w l → IsCut contents flushed entries synced story input a w l
  cut_nowhere input unread a w l p = record {
    bodies = p.bodies;
    unread = unread;
    came = p.came;
    passed = p.passed;
    kept = p.kept;
    missing = [];
    now = situation_of a;
    hears = p.hears;
    wrote = p.wrote;
    gathered = p.gathered;
    logged = p.logged;
    more = [];
    journal = p.journal ∙ sym (append-nil (log_of p.kept));
  }

  pub halts : (input unread : List ℕ) (fault : EndFault) (a b : Process) (w : W) (l : L) → IsServing contents flushed entries synced story input unread a w l → CantHear unread a b fault
      → IsHalted contents flushed entries synced fault story input b w l
  unfolding cut_nowhere
  halts input unread ends.TooLong a b w l p cant = record {
    cut = cut_nowhere input unread b w l (subst (λ (c : Process). IsServing contents flushed entries synced story input unread c w l) (sym cant.1) p);
    cause = (cant.0, refl);
  }
  halts input unread (ends.Work fault) a b w l p cant =
      let body = cant.0 in
      let until = cant.2 in
      let steps = until.steps in record {
        cut = record {
          bodies = p.bodies ++ body ∷ [];
          unread = after_front unread;
          came = loop_keeps.takes input unread body (story.first ∷ p.bodies) p.came cant.1;
          passed = p.passed;
          kept = p.kept ++ steps;
          missing = until.later;
          now = until.ends.last;
          hears = subst (λ (all : List Step). HearsAll story.set story.start story.first (p.bodies ++ body ∷ []) all until.later until.ends.last) (append_assoc p.passed p.kept steps)
              (hears_then story.set story.start (situation_of a) until.ends.last story.first p.bodies (body ∷ []) (p.passed ++ p.kept) steps until.later p.hears
              (subst (λ (set : Setting). AllDo set (situation_of a) steps until.ends.last) p.set until.ends.does) until.ends.heard
              (subst (λ (set : Setting). AreHeard (whom_in set) (body ∷ []) (deeds_of steps ++ until.later)) p.set (one_heard body a steps until.later until.work until.deeds until.follows)));
          wrote = p.wrote;
          gathered = until.ends.gathered ∙ (ap (λ (bytes : List ℕ). bytes ++ out_of steps) p.gathered ∙ sym (out_then p.kept steps));
          logged = p.logged;
          more = until.ends.more;
          journal = until.ends.journal ∙ (ap (λ (bytes : List ℕ). bytes ++ flat_map entry_bytes (logged_in steps ++ until.ends.more)) p.journal
              ∙ (ap (λ (bytes : List ℕ). log_of p.kept ++ bytes) (flat_map-append entry_bytes (logged_in steps) until.ends.more)
              ∙ (sym (append_assoc (log_of p.kept) (log_of steps) (flat_map entry_bytes until.ends.more)) ∙ ap (λ (bytes : List ℕ). bytes ++ flat_map entry_bytes until.ends.more) (sym (log_then p.kept steps)))));
        };
        cause = subst (λ (set : Setting). IsCause set until.ends.last fault) p.set until.ends.cause;
      }
  halts input unread (ends.Begin fault) a b w l p cant = absurd cant
  halts input unread ends.NoGroups a b w l p cant = absurd cant
  halts input unread ends.Truncated a b w l p cant = absurd cant
  halts input unread ends.ReadFault a b w l p cant = absurd cant
  halts input unread (ends.Pass fault) a b w l p cant = absurd cant

  -- ---- what is gathered is passed on

  flushed_on : {S : Type 0} (holds : S → Option (List ℕ)) (whole : S → Type 0) (first old new : S) (bytes : List ℕ) → IsFlushed whole first old → Passes holds whole old new bytes → IsFlushed whole first new
  flushed_on holds whole first old new [] before passes = subst (λ s. IsFlushed whole first s) (sym (passes.alone refl)) before
  flushed_on holds whole first old new (byte ∷ bytes) before passes = inr (passes.passed (λ e. absurd (cc e)))

  appends_as : (a b c : Option (List ℕ)) (xs ys zs all : List ℕ) → Appends a b xs → Appends b c ys → ys ≡ zs → all ≡ xs ++ zs → Appends a c all
  appends_as a b c xs ys zs all p q same is = subst (λ (bytes : List ℕ). Appends a c bytes) (ap (λ (bytes : List ℕ). xs ++ bytes) same ∙ sym is) (appends_then a b c xs ys p q)

  pub passes : (input unread : List ℕ) (a b : Process) (w w2 : W) (l l2 : L) → IsServing contents flushed entries synced story input unread a w l
      → Passes contents flushed w w2 a.outlet.gathered.items → Passes entries synced l l2 a.journal.gathered.items
      → b.outlet.gathered.items ≡ [] → b.journal.gathered.items ≡ [] → situation_of b ≡ situation_of a → setting_of b ≡ setting_of a
      → IsServing contents flushed entries synced story input unread b w2 l2
  passes input unread a b w w2 l l2 p out log gone forgotten situation setting = record {
    bodies = p.bodies;
    came = p.came;
    passed = p.passed ++ p.kept;
    kept = [];
    hears = subst (λ (all : List Step). HearsAll story.set story.start story.first p.bodies all [] (situation_of b)) (sym (append-nil (p.passed ++ p.kept)))
        (subst (λ (s : Situation). HearsAll story.set story.start story.first p.bodies (p.passed ++ p.kept) [] s) (sym situation) p.hears);
    turns = subst (λ (s : Situation). AllTakeTurns story.set story.start story.first p.bodies s) (sym situation) p.turns;
    set = setting ∙ p.set;
    wrote = appends_as (contents story.out) (contents w) (contents w2) (out_of p.passed) a.outlet.gathered.items (out_of p.kept) (out_of (p.passed ++ p.kept)) p.wrote out.wrote p.gathered (out_then p.passed p.kept);
    gathered = gone;
    logged = appends_as (entries story.log) (entries l) (entries l2) (log_of p.passed) a.journal.gathered.items (log_of p.kept) (log_of (p.passed ++ p.kept)) p.logged log.wrote p.journal (log_then p.passed p.kept);
    journal = forgotten;
    out = flushed_on contents flushed story.out w w2 a.outlet.gathered.items p.out out;
    log = flushed_on entries synced story.log l l2 a.journal.gathered.items p.log log;
  }

  -- what came meanwhile
  pub reads : (input unread piece : List ℕ) (a : Process) (w : W) (l : L) → IsServing contents flushed entries synced story input unread a w l
      → IsServing contents flushed entries synced story (input ++ piece) (unread ++ piece) a w l
  reads input unread piece a w l p = record {
    bodies = p.bodies;
    came = loop_keeps.feeds input unread piece (story.first ∷ p.bodies) p.came;
    passed = p.passed;
    kept = p.kept;
    hears = p.hears;
    turns = p.turns;
    set = p.set;
    wrote = p.wrote;
    gathered = p.gathered;
    logged = p.logged;
    journal = p.journal;
    out = p.out;
    log = p.log;
  }

  module _ (unwritten : W → W → Type 0) (unlogged : L → L → Type 0) where
    abbrev StopsBy : EndFault → List ℕ → W → L → Type 0
    StopsBy fault input w l = Stops contents flushed unwritten entries synced unlogged story.config fault input story.out w story.log l

    -- what the steps come to
    accounts_so : (steps : List Step) (missing : List Deed) (bodies : List (List ℕ)) (now : Situation) → HearsAll story.set story.start story.first bodies steps missing now → Accounts story.set story.start steps now
    accounts_so steps missing bodies now hears =
        chains_account story.set story.start steps now hears.does (λ node. ap (λ (s : Timed State). s.state.lost node) story.starts.starts.state)

    -- and what they reply
    replies_so : (steps : List Step) (missing : List Deed) (bodies : List (List ℕ)) (now : Situation) → HearsAll story.set story.start story.first bodies steps missing now
        → (port : ℕ) → Replies port steps now
    replies_so steps missing bodies now hears = chains_reply story.config story.starts.groups story.set story.start steps now story.starts.starts hears.does

    -- the log fails: nothing of what is gathered goes out
    pub stops_logging : (input : List ℕ) (a : Process) (w w2 : W) (l l2 : L) → IsCut contents flushed entries synced story input a w l
        → w2 ≡ w → WritesPart (entries l) (entries l2) a.journal.gathered.items → FailedAt unlogged l2 → StopsBy (ends.Pass pass.Log) input w2 l2
    stops_logging input a w w2 l l2 cut same part cause = record {
      first = story.first;
      bodies = cut.bodies;
      unread = cut.unread;
      came = cut.came;
      set = story.set;
      start = story.start;
      starts = story.starts;
      steps = cut.passed ++ cut.kept;
      missing = cut.missing;
      now = cut.now;
      hears = cut.hears;
      accounts = accounts_so (cut.passed ++ cut.kept) cut.missing cut.bodies cut.now cut.hears;
      replies = replies_so (cut.passed ++ cut.kept) cut.missing cut.bodies cut.now cut.hears;
      more = cut.more;
      passes = record {
        passed = cut.passed;
        failed = cut.kept;
        split = refl;
        out = [];
        unwritten = out_of cut.kept;
        said = refl;
        wrote = subst (λ (bytes : List ℕ). Appends (contents story.out) (contents w2) bytes) (sym (append-nil (out_of cut.passed)))
            (subst (λ (v : W). Appends (contents story.out) (contents v) (out_of cut.passed)) (sym same) cut.wrote);
        log = part.part;
        unlogged = part.behind;
        entered = part.whole ∙ cut.journal;
        logged = appends_then (entries story.log) (entries l) (entries l2) (log_of cut.passed) part.part cut.logged part.wrote;
        by = refl;
      };
      cause = cause;
    }

    -- the output fails, once all is logged
    pub stops_writing : (input : List ℕ) (a : Process) (w w2 : W) (l l2 : L) → IsCut contents flushed entries synced story input a w l
        → Passes entries synced l l2 a.journal.gathered.items → WritesPart (contents w) (contents w2) a.outlet.gathered.items → FailedAt unwritten w2 → StopsBy (ends.Pass pass.Output) input w2 l2
    stops_writing input a w w2 l l2 cut log part cause = record {
      first = story.first;
      bodies = cut.bodies;
      unread = cut.unread;
      came = cut.came;
      set = story.set;
      start = story.start;
      starts = story.starts;
      steps = cut.passed ++ cut.kept;
      missing = cut.missing;
      now = cut.now;
      hears = cut.hears;
      accounts = accounts_so (cut.passed ++ cut.kept) cut.missing cut.bodies cut.now cut.hears;
      replies = replies_so (cut.passed ++ cut.kept) cut.missing cut.bodies cut.now cut.hears;
      more = cut.more;
      passes = record {
        passed = cut.passed;
        failed = cut.kept;
        split = refl;
        out = part.part;
        unwritten = part.behind;
        said = part.whole ∙ cut.gathered;
        wrote = appends_then (contents story.out) (contents w) (contents w2) (out_of cut.passed) part.part cut.wrote part.wrote;
        log = log_of cut.kept ++ flat_map entry_bytes cut.more;
        unlogged = [];
        entered = append-nil (log_of cut.kept ++ flat_map entry_bytes cut.more);
        logged = appends_as (entries story.log) (entries l) (entries l2) (log_of cut.passed) a.journal.gathered.items (log_of cut.kept ++ flat_map entry_bytes cut.more)
            (log_of cut.passed ++ (log_of cut.kept ++ flat_map entry_bytes cut.more)) cut.logged log.wrote cut.journal refl;
        by = refl;
      };
      cause = cause;
    }

    all_passed : (fault : EndFault) → IsPassedTo fault [] [] []
    all_passed (ends.Pass pass.Log) = refl
    all_passed (ends.Pass pass.Output) = refl
    all_passed (ends.Begin fault) = (refl, refl)
    all_passed ends.NoGroups = (refl, refl)
    all_passed (ends.Work fault) = (refl, refl)
    all_passed ends.TooLong = (refl, refl)
    all_passed ends.Truncated = (refl, refl)
    all_passed ends.ReadFault = (refl, refl)

    halted_stops : (fault : EndFault) (set : Setting) (now : Situation) (unread : List ℕ) (missing : List Deed) (w : W) (l : L) → IsHaltedBy fault set now unread missing
        → IsStoppedBy contents flushed unwritten entries synced unlogged fault set now unread missing w l
    halted_stops (ends.Pass pass.Log) set now unread missing w l is = absurd is
    halted_stops (ends.Pass pass.Output) set now unread missing w l is = absurd is
    halted_stops (ends.Begin fault) set now unread missing w l is = is
    halted_stops ends.NoGroups set now unread missing w l is = is
    halted_stops (ends.Work fault) set now unread missing w l is = is
    halted_stops ends.TooLong set now unread missing w l is = is
    halted_stops ends.Truncated set now unread missing w l is = is
    halted_stops ends.ReadFault set now unread missing w l is = is

    no_rest : {A : Type 0} (xs : List A) (bytes : List ℕ) (all : List ℕ) → all ≡ bytes → all ≡ bytes ++ []
    no_rest xs bytes all is = is ∙ sym (append-nil bytes)

    -- all is passed on, and then it ends by another fault
    pub stops_for : (fault : EndFault) (input : List ℕ) (a : Process) (w w2 : W) (l l2 : L) → IsHalted contents flushed entries synced fault story input a w l
        → Passes entries synced l l2 a.journal.gathered.items → Passes contents flushed w w2 a.outlet.gathered.items → StopsBy fault input w2 l2
    stops_for fault input a w w2 l l2 halted log out =
        let cut = halted.cut in
        let more = flat_map entry_bytes cut.more in record {
          first = story.first;
          bodies = cut.bodies;
          unread = cut.unread;
          came = cut.came;
          set = story.set;
          start = story.start;
          starts = story.starts;
          steps = cut.passed ++ cut.kept;
          missing = cut.missing;
          now = cut.now;
          hears = cut.hears;
          accounts = accounts_so (cut.passed ++ cut.kept) cut.missing cut.bodies cut.now cut.hears;
          replies = replies_so (cut.passed ++ cut.kept) cut.missing cut.bodies cut.now cut.hears;
          more = cut.more;
          passes = record {
            passed = cut.passed ++ cut.kept;
            failed = [];
            split = sym (append-nil (cut.passed ++ cut.kept));
            out = [];
            unwritten = [];
            said = refl;
            wrote = appends_as (contents story.out) (contents w) (contents w2) (out_of cut.passed) a.outlet.gathered.items (out_of cut.kept) (out_of (cut.passed ++ cut.kept) ++ []) cut.wrote out.wrote cut.gathered
                (append-nil (out_of (cut.passed ++ cut.kept)) ∙ out_then cut.passed cut.kept);
            log = more;
            unlogged = [];
            entered = append-nil more;
            logged = appends_as (entries story.log) (entries l) (entries l2) (log_of cut.passed) a.journal.gathered.items (log_of cut.kept ++ more) (log_of (cut.passed ++ cut.kept) ++ more) cut.logged log.wrote cut.journal
                (ap (λ (bytes : List ℕ). bytes ++ more) (log_then cut.passed cut.kept) ∙ append_assoc (log_of cut.passed) (log_of cut.kept) more);
            by = all_passed fault;
          };
          cause = halted_stops fault story.set cut.now cut.unread cut.missing w2 l2 halted.cause;
        }

    -- what is gathered is not passed on
    pub stops_passing : (fault : PassFault) (input : List ℕ) (a : Process) (w w2 : W) (l l2 : L) → IsCut contents flushed entries synced story input a w l
        → (◌≢◌ {A = Result (Unit {0}) PassFault} (Err fault) (Err pass.Log) → Passes entries synced l l2 a.journal.gathered.items)
        → (◌≡◌ {A = Result (Unit {0}) PassFault} (Err fault) (Err pass.Log) → w2 ≡ w)
        → (◌≡◌ {A = Result (Unit {0}) PassFault} (Err fault) (Err pass.Log) → WritesPart (entries l) (entries l2) a.journal.gathered.items)
        → (◌≡◌ {A = Result (Unit {0}) PassFault} (Err fault) (Err pass.Output) → WritesPart (contents w) (contents w2) a.outlet.gathered.items)
        → Cause (FailedAt unlogged l2) (FailedAt unwritten w2) fault → StopsBy (ends.Pass fault) input w2 l2
    stops_passing pass.Log input a w w2 l l2 cut logged before log_part part cause = stops_logging input a w w2 l l2 cut (before refl) (log_part refl) cause
    stops_passing pass.Output input a w w2 l l2 cut logged before log_part part cause = stops_writing input a w w2 l l2 cut (logged (λ e. absurd (cc e))) (part refl) cause

    -- all that came was heard and passed on
    pub is_up_to_date : (input unread : List ℕ) (a : Process) (w : W) (l : L) → HasServed contents flushed entries synced story input unread a w l
        → IsUpToDate contents flushed unwritten entries synced unlogged story.config input unread story.out w story.log l
    is_up_to_date input unread a w l served =
        let p = served.serving in record {
          first = story.first;
          bodies = p.bodies;
          came = p.came;
          none = served.none;
          set = story.set;
          start = story.start;
          starts = story.starts;
          steps = p.passed ++ p.kept;
          now = situation_of a;
          hears = p.hears;
          turns = p.turns;
          accounts = accounts_so (p.passed ++ p.kept) [] p.bodies (situation_of a) p.hears;
          replies = replies_so (p.passed ++ p.kept) [] p.bodies (situation_of a) p.hears;
          mirror = λ is. whole_mirror story.set story.start story.first p.bodies (p.passed ++ p.kept) (situation_of a) p.hears (ap (λ (t : Told). t.mirrored) story.starts.starts.told ∙ is);
          rest = subst (λ (set : Setting). IsAtRest set (situation_of a)) p.set served.rest;
          wrote = subst (λ (bytes : List ℕ). Appends (contents story.out) (contents w) bytes)
              (sym (out_then p.passed p.kept ∙ (ap (λ (bytes : List ℕ). out_of p.passed ++ bytes) (sym p.gathered ∙ served.gone.0) ∙ append-nil (out_of p.passed)))) p.wrote;
          logged = subst (λ (bytes : List ℕ). Appends (entries story.log) (entries l) bytes)
              (sym (log_then p.passed p.kept ∙ (ap (λ (bytes : List ℕ). log_of p.passed ++ bytes) (sym p.journal ∙ served.gone.1) ∙ append-nil (log_of p.passed)))) p.logged;
          out = p.out;
          log = p.log;
        }

-- ---- the first body is heard

pub at_rest : (a : Process) → IsSettled a → IsAtRest (setting_of a) (situation_of a)
at_rest a settled =
    let names = ap (λ (ns : List Node). length ns) a.named in record {
      taken = λ peer there. settled.taken peer (omega (arith, there, names));
      answered = settled.answered;
      handed = settled.handed;
      denied = settled.denied;
      formed = settled.formed;
      old = settled.old;
      many = settled.many;
      unsent = λ peer there. settled.unsent peer (omega (arith, there, names));
    }

-- the first two deeds
abbrev two_steps : (body : List ℕ) (a b c : Process) → Makes (Read body) a b → Makes Brought b c → List Step
two_steps body a b c noted brought = step_of (Read body) a b noted ∷ step_of Brought b c brought ∷ []

two_go : (body : List ℕ) (a b c : Process) (noted : Makes (Read body) a b) (brought : Makes Brought b c) → Goes (two_steps body a b c noted brought) a c
two_go body a b c noted brought =
    goes_on_after (step_of (Read body) a b noted ∷ []) (step_of Brought b c brought ∷ []) a b c (makes_goes (Read body) a b noted) (makes_goes Brought b c brought)

pub hears_first : (unread unread2 body : List ℕ) (a b c d : Process) → front_of unread ≡ Ok (Some body) → unread2 ≡ after_front unread → Makes (Read body) a b → Makes Brought b c
    → Works c d → Attends false c d → IsSettled d → HearsFirst unread unread2 a d
hears_first unread unread2 body a b c d front behind noted brought works attends settled = record {
  body = body;
  front = front;
  behind = behind;
  steps = two_steps body a b c noted brought ++ works.steps;
  work = deeds_of works.steps;
  deeds = refl;
  follows = work_deeds works.steps works.work;
  goes = goes_on_after (two_steps body a b c noted brought) works.steps a c d (two_go body a b c noted brought) works.goes;
  noted = b;
  notes = noted;
  mirrored = c;
  brings = brought;
  attends = attends;
  rest = at_rest d settled;
}

pub unnoted_first : (unread body : List ℕ) (fault : ProcessFault) (a b : Process) → front_of unread ≡ Ok (Some body) → Fails (Read body) fault a b → HearsFirstUntil unread fault a b
unnoted_first unread body fault a b front fails = record {
  body = body;
  front = front;
  steps = [];
  missing = Read body ∷ Brought ∷ [];
  work = [];
  deeds = refl;
  follows = tt;
  ends = fails_ends (Read body) fault a b fails;
}

pub untold_first : (unread body : List ℕ) (fault : ProcessFault) (a b c : Process) → front_of unread ≡ Ok (Some body) → Makes (Read body) a b → Fails Brought fault b c → HearsFirstUntil unread fault a c
untold_first unread body fault a b c front noted fails = record {
  body = body;
  front = front;
  steps = step_of (Read body) a b noted ∷ [];
  missing = Brought ∷ [];
  work = [];
  deeds = refl;
  follows = tt;
  ends = ends_on (step_of (Read body) a b noted ∷ []) [] fault a b c (makes_goes (Read body) a b noted) (fails_ends Brought fault b c fails);
}

pub unfinished_first : (unread body : List ℕ) (fault : ProcessFault) (a b c d : Process) → front_of unread ≡ Ok (Some body) → Makes (Read body) a b → Makes Brought b c → WorksUntil fault c d
    → HearsFirstUntil unread fault a d
unfinished_first unread body fault a b c d front noted brought works = record {
  body = body;
  front = front;
  steps = two_steps body a b c noted brought ++ works.steps;
  missing = [];
  work = deeds_of works.steps;
  deeds = append-nil (Read body ∷ Brought ∷ deeds_of works.steps);
  follows = work_deeds works.steps works.work;
  ends = ends_on (two_steps body a b c noted brought) works.steps fault a c d (two_go body a b c noted brought) works.ends;
}

-- ---- outcomes

pub both_ok : {A E : Type 0} (r : Result A E) (P Q S : Type 0) → (P → Q → S) → OnOk r P → OnOk r Q → OnOk r S
both_ok (Ok a) P Q S f p q = f p q
both_ok (Err e) P Q S f p q = tt

pub never_ok : {A E : Type 0} (r : Result A E) (P : Type 0) → OnOk r ⊥ → OnOk r P
never_ok (Ok a) P never = absurd never
never_ok (Err e) P never = tt

pub heard_next : (more : Bool) (unread unread2 : List ℕ) (a b : Process) → more ≡ true → HearsSome more unread unread2 a b → HearsNext unread unread2 a b
heard_next more unread unread2 a b is heard = subst (λ (m : Bool). HearsSome m unread unread2 a b) is heard

pub heard_none : (more : Bool) (unread unread2 : List ℕ) (a b : Process) → more ≡ false → HearsSome more unread unread2 a b → HearsNone unread unread2 a b
heard_none more unread unread2 a b is heard = subst (λ (m : Bool). HearsSome m unread unread2 a b) is heard

pub fewer_unread : (unread unread2 : List ℕ) (a b : Process) → HearsNext unread unread2 a b → length unread2 < length unread
fewer_unread unread unread2 a b next = subst (λ (bytes : List ℕ). length bytes < length unread) (sym next.behind) (shorter_behind unread (after_front unread) (length next.body) (taking_leaves_others.whole unread next.body next.front) (front_fits unread next.body next.front))
