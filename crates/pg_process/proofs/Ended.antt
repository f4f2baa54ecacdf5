-- How a process ends: the input is over, a read fails, or what came has a fault.
use Rattle.std.proofs.Common.{◌≡◌, ◌≢◌, ◌≤◌, ◌⊎◌, ◌<◌, ◌^◌, ◌∙◌, ℕ, Bool, true, false, Option, Some, None, List, [], ◌∷◌, ◌++◌, length, inl, inr, refl, sym, ap, subst, append-nil, append_assoc}
use Rattle.std.proofs.lemmas.Bool.{cases_eq, eq-eqb, ne_eqb}
use Rattle.std.specs.Prelude.{Result, Ok, Err, ◌==◌, if◌then◌else◌}
use Rattle.std.specs.Io.KnownBytes.{Appends, Consumes}
use Rattle.pg_node.proofs.Replicas.Streams.{appends_none}
use Rattle.pg_node_process.specs.Passing.{Passes}
use Rattle.pg_frame.specs.Frames.{front_of}
use Rattle.pg_node.specs.Replicas.Causes.{joined}
use Rattle.pg_node.specs.Replicas.Progress.{ReadsSome}
use Rattle.pg_node_process.specs.declared.config.ProcessConfig.{ProcessConfig}
use Rattle.pg_process.specs.declared.fault.EndFault.{EndFault}
use Rattle.pg_process.specs.declared.fault.EndFault.TheVariants as ends
use Rattle.pg_process.specs.declared.fault.ProcessFault.TheVariants as process
use Rattle.pg_process.specs.declared.process.Process.{Process}
use Rattle.pg_process.specs.Serving.{Ends, HasRead, IsBroken, IsOver, IsReady, IsUpToDate, Stops}
use Rattle.pg_process.specs.Situations.{setting_of, situation_of}
use Rattle.pg_process.specs.Stories.{Arrives, BeginsFrom, CantArrive, CantBeginFrom, CantRead, HasServed, IsHalted, IsNew, Lapses, Story, Waits}
use Rattle.pg_process.proofs.Storied.{cut_nowhere, is_up_to_date, reads, stops_for}

-- ---- reads

consumes_then : (a b c : Option (List ℕ)) (xs ys : List ℕ) → Consumes a b xs → Consumes b c ys → Consumes a c (xs ++ ys)
consumes_then None b c xs ys p q = tt
consumes_then (Some a) None c xs ys p q = absurd p
consumes_then (Some a) (Some b) None xs ys p q = absurd q
consumes_then (Some a) (Some b) (Some c) xs ys p q = p ∙ (ap (λ (z : List ℕ). xs ++ z) q ∙ sym (append_assoc xs ys c))

consumes_none : (a : Option (List ℕ)) → Consumes a a []
consumes_none None = tt
consumes_none (Some a) = refl

front_none : front_of [] ≡ Ok None
unfolding front_of
front_none = refl

module _ {R : Type 0} (gives : R → List ℕ → R → Type 0) (remaining : R → Option (List ℕ)) (unreadable : R → R → Type 0) where
  pub reads_more : (r0 r r1 : R) (pieces : List (List ℕ)) (piece : List ℕ) → HasRead gives remaining r0 pieces r → gives r piece r1 → Consumes (remaining r) (remaining r1) piece → 0 < length piece
      → HasRead gives remaining r0 (piece ∷ pieces) r1
  reads_more r0 r r1 pieces piece p gave took some = record {
    gave = (r, p.gave, gave, some);
    took = consumes_then (remaining r0) (remaining r) (remaining r1) (joined pieces) piece p.took took;
  }

  pub waits_first : (r0 : R) (unread : List ℕ) → unread ≡ [] → Waits gives remaining r0 [] unread r0
  waits_first r0 unread is = record { read = record { gave = refl; took = consumes_none (remaining r0) }; all = is; none = ap front_of is ∙ front_none }

  -- what came behind what waited
  came_all : (unread unread2 piece : List ℕ) (pieces : List (List ℕ)) → unread ≡ joined pieces → unread2 ≡ unread ++ piece → unread2 ≡ joined (piece ∷ pieces)
  came_all unread unread2 piece pieces all fed = fed ∙ ap (λ (z : List ℕ). z ++ piece) all

  pub waits_on : (r0 r r1 : R) (pieces : List (List ℕ)) (unread unread2 : List ℕ) → Waits gives remaining r0 pieces unread r
      → (some : ReadsSome (λ bytes. gives r bytes r1) (remaining r) (remaining r1) unread unread2 true) → front_of unread2 ≡ Ok None → Waits gives remaining r0 (some.piece ∷ pieces) unread2 r1
  waits_on r0 r r1 pieces unread unread2 waits some none = record {
    read = reads_more r0 r r1 pieces some.piece waits.read some.gave some.consumed (some.some refl);
    all = came_all unread unread2 some.piece pieces waits.all some.fed;
    none = none;
  }

  pub arrives : (r0 r r1 : R) (pieces : List (List ℕ)) (unread unread2 body : List ℕ) → Waits gives remaining r0 pieces unread r
      → ReadsSome (λ bytes. gives r bytes r1) (remaining r) (remaining r1) unread unread2 true → front_of unread2 ≡ Ok (Some body) → Arrives gives remaining r0 unread2 r1
  arrives r0 r r1 pieces unread unread2 body waits some front = record {
    piece = some.piece;
    earlier = pieces;
    read = reads_more r0 r r1 pieces some.piece waits.read some.gave some.consumed (some.some refl);
    all = came_all unread unread2 some.piece pieces waits.all some.fed;
    none = ap front_of (sym waits.all) ∙ waits.none;
    body = body;
    front = front;
  }

  pub too_long_arrives : (r0 r r1 : R) (pieces : List (List ℕ)) (unread unread2 : List ℕ) → Waits gives remaining r0 pieces unread r
      → ReadsSome (λ bytes. gives r bytes r1) (remaining r) (remaining r1) unread unread2 true → front_of unread2 ≡ Err (record {}) → CantArrive gives remaining unreadable r0 r1 ends.TooLong
  too_long_arrives r0 r r1 pieces unread unread2 waits some front = record {
    piece = some.piece;
    earlier = pieces;
    read = reads_more r0 r r1 pieces some.piece waits.read some.gave some.consumed (some.some refl);
    none = ap front_of (sym waits.all) ∙ waits.none;
    why = ap front_of (sym (came_all unread unread2 some.piece pieces waits.all some.fed)) ∙ front;
  }

  nothing_more : (unread unread2 piece : List ℕ) → unread2 ≡ unread ++ piece → piece ≡ [] → unread2 ≡ unread
  nothing_more unread unread2 piece fed is = fed ∙ (ap (λ (z : List ℕ). unread ++ z) is ∙ append-nil unread)

  pub lapses : (r0 r r1 : R) (pieces : List (List ℕ)) (unread unread2 : List ℕ) → Waits gives remaining r0 pieces unread r
      → ReadsSome (λ bytes. gives r bytes r1) (remaining r) (remaining r1) unread unread2 false → Lapses gives remaining r0 unread2 r1
  lapses r0 r r1 pieces unread unread2 waits none =
      let over = none.over refl in record {
        pieces = pieces;
        before = r;
        waits = subst (λ (bytes : List ℕ). Waits gives remaining r0 pieces bytes r) (sym (nothing_more unread unread2 none.piece none.fed over.1)) waits;
        last = subst (λ (bytes : List ℕ). gives r bytes r1) over.1 none.gave;
        over = over.0;
      }

  pub cant_arrive : (r0 r r1 : R) (pieces : List (List ℕ)) (unread : List ℕ) (fault : EndFault) → Waits gives remaining r0 pieces unread r → CantRead gives remaining unreadable r r1 fault
      → CantArrive gives remaining unreadable r0 r1 fault
  cant_arrive r0 r r1 pieces unread ends.ReadFault waits cant = record { pieces = pieces; unread = unread; before = r; waits = waits; last = inl cant }
  cant_arrive r0 r r1 pieces unread (ends.Work process.OutOfMemory) waits cant = record {
    piece = cant.piece;
    earlier = pieces;
    read = reads_more r0 r r1 pieces cant.piece waits.read cant.gave cant.took cant.some;
    none = ap front_of (sym waits.all) ∙ waits.none;
    why = tt;
  }
  cant_arrive r0 r r1 pieces unread (ends.Work process.ClockFull) waits cant = absurd cant
  cant_arrive r0 r r1 pieces unread (ends.Begin fault) waits cant = absurd cant
  cant_arrive r0 r r1 pieces unread ends.NoGroups waits cant = absurd cant
  cant_arrive r0 r r1 pieces unread ends.TooLong waits cant = absurd cant
  cant_arrive r0 r r1 pieces unread ends.Truncated waits cant = absurd cant
  cant_arrive r0 r r1 pieces unread (ends.Pass fault) waits cant = absurd cant

-- 2^40 reads were made before a body came whole
pub never_arrives : {R : Type 0} (gives : R → List ℕ → R → Type 0) (remaining : R → Option (List ℕ)) (unreadable : R → R → Type 0) (r0 r : R) (pieces : List (List ℕ)) (unread : List ℕ)
    → Waits gives remaining r0 pieces unread r → 2 ^ 40 ≤ length pieces → CantArrive gives remaining unreadable r0 r ends.ReadFault
never_arrives gives remaining unreadable r0 r pieces unread waits many = record { pieces = pieces; unread = unread; before = r; waits = waits; last = inr (refl, many) }

module _ {W L R : Type 0} (contents : W → Option (List ℕ)) (flushed : W → Type 0) (unwritten : W → W → Type 0) (entries : L → Option (List ℕ)) (synced : L → Type 0) (unlogged : L → L → Type 0)
    (gives : R → List ℕ → R → Type 0) (remaining : R → Option (List ℕ)) (unreadable : R → R → Type 0) where
  abbrev EndsBy : ProcessConfig → R → R → W → W → L → L → Result (Unit {0}) EndFault → Type 0
  EndsBy = Ends contents flushed unwritten entries synced unlogged gives remaining unreadable

  abbrev Ready : ProcessConfig → (input unread : List ℕ) → (w0 w : W) → (l0 l : L) → Type 0
  Ready = IsReady contents flushed unwritten entries synced unlogged

  -- ---- the end of the input

  not_empty : (bytes : List ℕ) → length bytes ≢ 0 → bytes ≢ []
  not_empty bytes some = λ is. some (ap (λ (xs : List ℕ). length xs) is)

  is_empty : (bytes : List ℕ) → length bytes ≡ 0 → bytes ≡ []
  is_empty [] is = refl
  is_empty (byte ∷ bytes) is = absurd cc

  over_by : (config : ProcessConfig) (r0 r1 : R) (w0 w1 : W) (l0 l1 : L) (unread : List ℕ)
      → IsOver contents flushed unwritten entries synced unlogged gives remaining unreadable config unread r0 r1 w0 w1 l0 l1
      → EndsBy config r0 r1 w0 w1 l0 l1 (if length unread == 0 then Ok tt else Err ends.Truncated)
  over_by config r0 r1 w0 w1 l0 l1 unread over = go (cases_eq (length unread) 0)
    where
      go : (length unread ≡ 0) ⊎ (length unread ≢ 0) → EndsBy config r0 r1 w0 w1 l0 l1 (if length unread == 0 then Ok tt else Err ends.Truncated)
      go (inl e) = subst (λ (b : Bool). EndsBy config r0 r1 w0 w1 l0 l1 (if b then Ok tt else Err ends.Truncated)) (sym (eq-eqb (length unread) 0 e))
          (subst (λ (bytes : List ℕ). IsOver contents flushed unwritten entries synced unlogged gives remaining unreadable config bytes r0 r1 w0 w1 l0 l1) (is_empty unread e) over)
      go (inr n) = subst (λ (b : Bool). EndsBy config r0 r1 w0 w1 l0 l1 (if b then Ok tt else Err ends.Truncated)) (sym (ne_eqb (length unread) 0 n)) (unread, not_empty unread n, over)

  -- before a body came whole
  pub lapsed_ends : (config : ProcessConfig) (r0 r1 : R) (w : W) (l : L) (unread : List ℕ) → Lapses gives remaining r0 unread r1
      → EndsBy config r0 r1 w w l l (if length unread == 0 then Ok tt else Err ends.Truncated)
  lapsed_ends config r0 r1 w l unread lapses = over_by config r0 r1 w w l l unread (record {
    pieces = lapses.pieces;
    before = lapses.before;
    read = lapses.waits.read;
    ready = inl (record { all = lapses.waits.all; none = lapses.waits.none; alone = (refl, refl) });
    last = lapses.last;
    over = lapses.over;
  })

  pub unarrived_ends : (config : ProcessConfig) (r0 r1 : R) (w : W) (l : L) (fault : EndFault) → CantArrive gives remaining unreadable r0 r1 fault → EndsBy config r0 r1 w w l l (Err fault)
  unarrived_ends config r0 r1 w l ends.ReadFault cant = record {
    pieces = cant.pieces;
    before = cant.before;
    read = cant.waits.read;
    unread = cant.unread;
    ready = inl (record { all = cant.waits.all; none = cant.waits.none; alone = (refl, refl) });
    last = cant.last;
  }
  unarrived_ends config r0 r1 w l ends.TooLong cant = record {
    piece = cant.piece;
    earlier = cant.earlier;
    read = cant.read;
    unread = joined cant.earlier;
    w = w;
    l = l;
    ready = inl (record { all = refl; none = cant.none; alone = (refl, refl) });
    stops = inl (record { why = cant.why; alone = (refl, refl) });
  }
  unarrived_ends config r0 r1 w l (ends.Work process.OutOfMemory) cant = record {
    piece = cant.piece;
    earlier = cant.earlier;
    read = cant.read;
    unread = joined cant.earlier;
    w = w;
    l = l;
    ready = inl (record { all = refl; none = cant.none; alone = (refl, refl) });
    stops = inl (record { why = tt; alone = (refl, refl) });
  }
  unarrived_ends config r0 r1 w l (ends.Work process.ClockFull) cant = absurd cant
  unarrived_ends config r0 r1 w l (ends.Begin fault) cant = absurd cant
  unarrived_ends config r0 r1 w l ends.NoGroups cant = absurd cant
  unarrived_ends config r0 r1 w l ends.Truncated cant = absurd cant
  unarrived_ends config r0 r1 w l (ends.Pass fault) cant = absurd cant

  -- ---- the first body

  pub unbegun_ends : (config : ProcessConfig) (r0 r1 : R) (w : W) (l : L) (unread body : List ℕ) (fault : EndFault) → Arrives gives remaining r0 unread r1 → front_of unread ≡ Ok (Some body)
      → CantBeginFrom config body fault → EndsBy config r0 r1 w w l l (Err fault)
  unbegun_ends config r0 r1 w l unread body (ends.Begin fault) came front cant = record {
    piece = came.piece;
    earlier = came.earlier;
    read = came.read;
    unread = joined came.earlier;
    w = w;
    l = l;
    ready = inl (record { all = refl; none = came.none; alone = (refl, refl) });
    stops = inl (record { why = (cant.0, ap front_of (sym came.all) ∙ (front ∙ ap (λ (bytes : List ℕ). Ok (Some bytes)) cant.1), cant.2); alone = (refl, refl) });
  }
  unbegun_ends config r0 r1 w l unread body ends.NoGroups came front cant = record {
    piece = came.piece;
    earlier = came.earlier;
    read = came.read;
    unread = joined came.earlier;
    w = w;
    l = l;
    ready = inl (record { all = refl; none = came.none; alone = (refl, refl) });
    stops = inl (record { why = (body, ap front_of (sym came.all) ∙ front, cant); alone = (refl, refl) });
  }
  unbegun_ends config r0 r1 w l unread body (ends.Work fault) came front cant = absurd cant
  unbegun_ends config r0 r1 w l unread body ends.TooLong came front cant = absurd cant
  unbegun_ends config r0 r1 w l unread body ends.Truncated came front cant = absurd cant
  unbegun_ends config r0 r1 w l unread body ends.ReadFault came front cant = absurd cant
  unbegun_ends config r0 r1 w l unread body (ends.Pass fault) came front cant = absurd cant

  -- the story of a process that begins
  abbrev pub story_of : (config : ProcessConfig) (body : List ℕ) (a : Process) (w : W) (l : L) → BeginsFrom config body a → Story W L
  story_of config body a w l begins = record {
    config = config;
    first = body;
    set = setting_of a;
    start = situation_of a;
    starts = record {
      valid = begins.begins.valid;
      bytes = begins.bytes;
      body = begins.is;
      groups = begins.begins.groups;
      brings = begins.begins.brings;
      starts = begins.begins.begins.starts;
    };
    out = w;
    log = l;
  }

  pub is_new : (config : ProcessConfig) (body unread : List ℕ) (a : Process) (w : W) (l : L) → (begins : BeginsFrom config body a) → front_of unread ≡ Ok (Some body)
      → IsNew (story_of config body a w l begins) unread unread a w l
  is_new config body unread a w l begins front = record {
    all = refl;
    front = front;
    set = refl;
    start = refl;
    outlet = begins.begins.begins.outlet;
    journal = begins.begins.begins.journal;
    alone = (refl, refl);
  }

  -- ---- what comes then

  abbrev Served : Story W L → (input unread : List ℕ) → Process → W → L → Type 0
  Served = HasServed contents flushed entries synced

  -- a fault of what came by the last read
  pub broken_ends : (story : Story W L) (r0 r1 : R) (piece unread : List ℕ) (earlier : List (List ℕ)) (w w1 : W) (l l1 : L) (fault : EndFault)
      → HasRead gives remaining r0 (piece ∷ earlier) r1 → Ready story.config (joined earlier) unread story.out w story.log l
      → Stops contents flushed unwritten entries synced unlogged story.config fault (joined (piece ∷ earlier)) story.out w1 story.log l1
      → EndsBy story.config r0 r1 story.out w1 story.log l1 (Err fault)
  broken_ends story r0 r1 piece unread earlier w w1 l l1 fault read ready stops = by fault stops
    where
      broken : (told : EndFault) → Stops contents flushed unwritten entries synced unlogged story.config told (joined (piece ∷ earlier)) story.out w1 story.log l1
          → IsBroken contents flushed unwritten entries synced unlogged gives remaining unreadable story.config told r0 r1 story.out w1 story.log l1
      broken told is = record { piece = piece; earlier = earlier; read = read; unread = unread; w = w; l = l; ready = ready; stops = inr is }

      by : (told : EndFault) → Stops contents flushed unwritten entries synced unlogged story.config told (joined (piece ∷ earlier)) story.out w1 story.log l1
          → EndsBy story.config r0 r1 story.out w1 story.log l1 (Err told)
      by ends.Truncated is = absurd is.cause
      by ends.ReadFault is = absurd is.cause
      by (ends.Begin told) is = broken (ends.Begin told) is
      by ends.NoGroups is = broken ends.NoGroups is
      by (ends.Work told) is = broken (ends.Work told) is
      by ends.TooLong is = broken ends.TooLong is
      by (ends.Pass told) is = broken (ends.Pass told) is

  -- the input is over
  pub served_ends : (story : Story W L) (r0 r r1 : R) (pieces : List (List ℕ)) (unread unread2 : List ℕ) (a : Process) (w : W) (l : L) → HasRead gives remaining r0 pieces r
      → Served story (joined pieces) unread a w l → ReadsSome (λ bytes. gives r bytes r1) (remaining r) (remaining r1) unread unread2 false
      → EndsBy story.config r0 r1 story.out w story.log l (if length unread2 == 0 then Ok tt else Err ends.Truncated)
  served_ends story r0 r r1 pieces unread unread2 a w l read served none =
      let over = none.over refl in
      over_by story.config r0 r1 story.out w story.log l unread2 (record {
        pieces = pieces;
        before = r;
        read = read;
        ready = inr (subst (λ (bytes : List ℕ). IsUpToDate contents flushed unwritten entries synced unlogged story.config (joined pieces) bytes story.out w story.log l) (sym (nothing_more gives remaining unreadable unread unread2 none.piece none.fed over.1))
            (is_up_to_date contents flushed entries synced story unwritten unlogged (joined pieces) unread a w l served));
        last = subst (λ (bytes : List ℕ). gives r bytes r1) over.1 none.gave;
        over = over.0;
      })

  passes_none : {S : Type 0} (holds : S → Option (List ℕ)) (whole : S → Type 0) (now : S) (bytes : List ℕ) → bytes ≡ [] → Passes holds whole now now bytes
  passes_none holds whole now bytes is = record {
    wrote = subst (λ (z : List ℕ). Appends (holds now) (holds now) z) (sym is) (appends_none (holds now));
    alone = λ none. refl;
    passed = λ some. absurd (some is);
  }

  -- a process that was served stops where memory runs out for what came
  pub starved : (story : Story W L) (input unread : List ℕ) (piece : List ℕ) (a : Process) (w : W) (l : L) → Served story input unread a w l
      → IsHalted contents flushed entries synced (ends.Work process.OutOfMemory) story (input ++ piece) a w l
  starved story input unread piece a w l served = record {
    cut = cut_nowhere contents flushed entries synced story (input ++ piece) (unread ++ piece) a w l (reads contents flushed entries synced story input unread piece a w l served.serving);
    cause = tt;
  }

  pub unread_ends : (story : Story W L) (r0 r r1 : R) (pieces : List (List ℕ)) (unread : List ℕ) (a : Process) (w : W) (l : L) (fault : EndFault) → HasRead gives remaining r0 pieces r
      → Served story (joined pieces) unread a w l → CantRead gives remaining unreadable r r1 fault → EndsBy story.config r0 r1 story.out w story.log l (Err fault)
  unread_ends story r0 r r1 pieces unread a w l ends.ReadFault read served cant = record {
    pieces = pieces;
    before = r;
    read = read;
    unread = unread;
    ready = inr (is_up_to_date contents flushed entries synced story unwritten unlogged (joined pieces) unread a w l served);
    last = inl cant;
  }
  unread_ends story r0 r r1 pieces unread a w l (ends.Work process.OutOfMemory) read served cant = record {
    piece = cant.piece;
    earlier = pieces;
    read = reads_more gives remaining unreadable r0 r r1 pieces cant.piece read cant.gave cant.took cant.some;
    unread = unread;
    w = w;
    l = l;
    ready = inr (is_up_to_date contents flushed entries synced story unwritten unlogged (joined pieces) unread a w l served);
    stops = inr (stops_for contents flushed entries synced story unwritten unlogged (ends.Work process.OutOfMemory) (joined (cant.piece ∷ pieces)) a w w l l (starved story (joined pieces) unread cant.piece a w l served)
        (passes_none entries synced l a.journal.gathered.items served.gone.1) (passes_none contents flushed w a.outlet.gathered.items served.gone.0));
  }
  unread_ends story r0 r r1 pieces unread a w l (ends.Work process.ClockFull) read served cant = absurd cant
  unread_ends story r0 r r1 pieces unread a w l (ends.Begin fault) read served cant = absurd cant
  unread_ends story r0 r r1 pieces unread a w l ends.NoGroups read served cant = absurd cant
  unread_ends story r0 r r1 pieces unread a w l ends.TooLong read served cant = absurd cant
  unread_ends story r0 r r1 pieces unread a w l ends.Truncated read served cant = absurd cant
  unread_ends story r0 r r1 pieces unread a w l (ends.Pass fault) read served cant = absurd cant

  -- 2^40 reads were made
  pub spent_ends : (story : Story W L) (r0 r : R) (pieces : List (List ℕ)) (unread : List ℕ) (a : Process) (w : W) (l : L) → HasRead gives remaining r0 pieces r
      → Served story (joined pieces) unread a w l → 2 ^ 40 ≤ length pieces → EndsBy story.config r0 r story.out w story.log l (Err ends.ReadFault)
  spent_ends story r0 r pieces unread a w l read served many = record {
    pieces = pieces;
    before = r;
    read = read;
    unread = unread;
    ready = inr (is_up_to_date contents flushed entries synced story unwritten unlogged (joined pieces) unread a w l served);
    last = inr (refl, many);
  }
