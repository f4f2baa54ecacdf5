-- What a service makes of its input, one step after another.
use Rattle.std.proofs.Common.{◌≡◌, ◌≢◌, ◌⊎◌, ◌<◌, ◌≤◌, ◌+◌, ℕ, zero, suc, Bool, true, false, cond, List, [], ◌∷◌, ◌++◌}
use Rattle.std.proofs.Common.{length, get_or, map, Some, None, Option, set, inl, inr, refl, sym, ap, subst, ◌∙◌, arith}
use Rattle.std.specs.Prelude.{if◌then◌else◌}
use Rattle.std.specs.Io.KnownBytes.{Appends}
use Rattle.std.specs.List.{All}
use Rattle.std.proofs.Math.ListN.{get_or-eq_default}
use Rattle.std.proofs.Math.Seq.{map-set_same}
use Rattle.std.proofs.lemmas.Bool.{cases_eq, le-ltb, lt-ltb}
use Rattle.std.proofs.lemmas.Bool.Decides.{eqb_tells, leb_tells}
use Rattle.std.proofs.lemmas.List.{append-nil, get_or-map, get_or-set_same, get_or-set_other}
use Rattle.std.proofs.lemmas.List.{length-map, length-set, map-set, set-set}
use Rattle.std.proofs.lemmas.List.Concat.{flat_map-append}
use Rattle.std.proofs.lemmas.List.Elements.{All-append, All-cons, All-nil}
use Rattle.pg_cluster.proofs.PgNode.Replicas.Streams.{appends_then}
use Rattle.pg_cluster.specs.PgNodeRun.Ports.{polled, polled_count, submitted}
use Rattle.pg_cluster.specs.PgNodeRun.declared.port.Asked.{Asked}
use Rattle.pg_cluster.specs.PgNodeRun.declared.port.Client.{Client}
use Rattle.pg_cluster.specs.PgStep.Config.{Config}
use Rattle.pg_cluster.specs.PgStep.declared.answer.Answer.{Answer}
use Rattle.pg_cluster.specs.PgStep.declared.command.Command.{Command}
use Rattle.pg_term.specs.declared.term.Term.{Term}
use Rattle.pg_cluster.specs.declared.running.Running.{Running}
use Rattle.pg_cluster.specs.Clusters.{lost_of, threads_of}
use Rattle.pg_cluster.specs.Running.{OnlyClient, clients_in, config_in, losses_in, polled_at, submitted_at, threads_in}
use Rattle.pg_node_requests.specs.declared.input.Input.{Input}
use Rattle.pg_node_requests.specs.declared.input.Input.TheVariants as forms
use Rattle.pg_node_requests.specs.Replies.{bad_request_term, lost_term, reply_term}
use Rattle.pg_talk.specs.declared.service.desk.Desk.{Desk}
use Rattle.pg_talk.specs.declared.service.ending.Ending.{Ending}
use Rattle.pg_talk.specs.declared.service.serving.ServedNode.{ServedNode}
use Rattle.pg_talk.specs.Conversations.{saturated}
use Rattle.pg_talk.specs.Desks.{SameDesk, waiting_at}
use Rattle.pg_talk.specs.Frames.{framed, WritesReply}
use Rattle.pg_talk.specs.Servings.{AreDesksKept, Begun, IsDueAt, IsKept, IsKeptAt, Knows, Serves, ServesTold, View}
use Rattle.pg_talk.specs.Servings.{asked_at, is_known_lost, known_lost, node_at, port_at, replied_at}
use Rattle.pg_talk.specs.Written.{InputsSeen, IsAddressed, IsDue, IsReply, Known, PortName, Written, bytes_of}
use Rattle.pg_talk.specs.Written.{ending_term, heard_at, is_full_end, is_lost_at, known_at, none_told, notices_in}
use Rattle.pg_talk.specs.Written.{over_by, ports_in, replies_to, request_to, requests_to, said_at, tell_bad}
use Rattle.pg_talk.specs.Written.{tell_lost, tell_next, tell_on, told_by}
use Rattle.pg_talk.proofs.Posts.{Later, bad_same, kept_answers, kept_closes, kept_hands, kept_later}
use Rattle.pg_talk.proofs.Posts.{kept_refuses, kept_waits, reply_written, true_is_not_false}

-- ---- clients

module _ {Y : Type 0} (f : Client → List Y) where
  some_client : (xs : List Client) (i : ℕ) → i < length xs → Client
  some_client [] i low = absurd (omega (arith, low))
  some_client (x ∷ xs) i low = x

  -- where the client at a place stays, so does what is told of it
  stays_at : (xs ys : List Client) (i : ℕ) → length ys ≡ length xs → ((none : Client) → get_or ys i none ≡ get_or xs i none) → get_or (map f ys) i [] ≡ get_or (map f xs) i []
  stays_at [] [] i n same = refl
  stays_at [] (y ∷ ys) i n same = absurd (omega (arith, n))
  stays_at (x ∷ xs) [] i n same = absurd (omega (arith, n))
  stays_at (x ∷ xs) (y ∷ ys) zero n same = ap f (same x)
  stays_at (x ∷ xs) (y ∷ ys) (suc i) n same = stays_at xs ys i (omega (arith, n)) same

  -- or becomes so much more
  more_at : (xs ys : List Client) (i : ℕ) (more : Client → List Y) → i < length xs → length ys ≡ length xs → ((none : Client) → f (get_or ys i none) ≡ f (get_or xs i none) ++ more none)
      → (none : Client) × (get_or (map f ys) i [] ≡ get_or (map f xs) i [] ++ more none)
  more_at xs ys i more low n grows =
      let none = some_client xs i low in
      let low_too : i < length ys = omega (arith, low, n) in (
        none,
        get_or-map f ys i none [] low_too ∙ grows none ∙ ap (λ (items : List Y). items ++ more none) (sym (get_or-map f xs i none [] low)),
      )

  same_at : (xs ys : List Client) (i : ℕ) → i < length xs → length ys ≡ length xs → ((none : Client) → f (get_or ys i none) ≡ f (get_or xs i none)) → get_or (map f ys) i [] ≡ get_or (map f xs) i []
  same_at xs ys i low n same =
      let none = some_client xs i low in
      let low_too : i < length ys = omega (arith, low, n) in
      get_or-map f ys i none [] low_too ∙ same none ∙ sym (get_or-map f xs i none [] low)

  pub silent_at : (xs : List Client) (i : ℕ) → ((k : ℕ) (none : Client) → k < length xs → f (get_or xs k none) ≡ []) → get_or (map f xs) i [] ≡ []
  silent_at [] i silent = refl
  silent_at (x ∷ xs) zero silent = silent 0 x (omega arith)
  silent_at (x ∷ xs) (suc i) silent = silent_at xs i (λ k none low. silent (suc k) none (omega (arith, low)))

-- nothing but what a client said and heard is changed
record Beside (client : ℕ) (a b : Running) : Type 0 where
  config : config_in b ≡ config_in a
  losses : losses_in b ≡ losses_in a
  threads : threads_in b ≡ threads_in a
  said : (i : ℕ) → i ≢ client → said_at i (clients_in b) ≡ said_at i (clients_in a)
  heard : (i : ℕ) → i ≢ client → heard_at i (clients_in b) ≡ heard_at i (clients_in a)

beside_only : (client : ℕ) (a b : Running) → OnlyClient client a b → Beside client a b
beside_only client a b only = record {
  config = only.config;
  losses = ap lost_of only.cluster;
  threads = ap threads_of only.cluster;
  said = λ i n. stays_at submitted (clients_in a) (clients_in b) i only.count (λ none. only.others i none n);
  heard = λ i n. stays_at polled (clients_in a) (clients_in b) i only.count (λ none. only.others i none n);
}

beside_itself : (client : ℕ) (a : Running) → Beside client a a
beside_itself client a = record { config = refl; losses = refl; threads = refl; said = λ i n. refl; heard = λ i n. refl }

-- ---- desks

-- what is told of the desk at a place
found : {B : Type 0} (f : Desk → B) (d : List Desk) (k : ℕ) (x : Desk) (none : B) → k < length d → x ≡ get_or d k x → get_or (map f d) k none ≡ f x
found f d k x none low value = get_or-map f d k x none low ∙ ap f (sym value)

-- where it stays so, all stays
kept_at : {B : Type 0} (f : Desk → B) (d : List Desk) (k : ℕ) (x x2 : Desk) → x ≡ get_or d k x → f x2 ≡ f x → map f (set d k x2) ≡ map f d
kept_at f d k x x2 value same = map-set_same f d k x2 x (same ∙ ap f value)

same_port : (a b : Desk) → SameDesk a b → port_at b ≡ port_at a
same_port a b same =
    ap (λ (node : ℕ). record { node = node; name = b.name; number = b.port }) same.node ∙ ap (λ (name : List ℕ). record { node = a.node; name = name; number = b.port }) same.name
    ∙ ap (λ (number : ℕ). record { node = a.node; name = a.name; number = number }) same.port

-- a desk of which the same is told
kept_same : (told : InputsSeen) (requests waiting : List Command) (a b : Desk) (said : List Asked) (heard : List Answer) (replies : List Term) → SameDesk a b
    → IsKept (port_at a) (known_at a.node told) requests waiting a.is_asked a.replied said heard replies → IsKept (port_at b) (known_at b.node told) requests waiting b.is_asked b.replied said heard replies
kept_same told requests waiting a b said heard replies same k =
    subst (λ (port : PortName). IsKept port (known_at port.node told) requests waiting b.is_asked b.replied said heard replies) (sym (same_port a b same))
    (subst (λ (here : Bool). IsKept (port_at a) (known_at a.node told) requests waiting here b.replied said heard replies) (sym same.asked)
    (subst (λ (n : ℕ). IsKept (port_at a) (known_at a.node told) requests waiting a.is_asked n said heard replies) (sym same.replied) k))

kept_by : (told : InputsSeen) (desk : Desk) (r r2 : List Command) (s s2 : List Asked) (h h2 : List Answer) (p p2 : List Term) → r2 ≡ r → s2 ≡ s → h2 ≡ h → p2 ≡ p
    → IsKeptAt told r desk s h p → IsKeptAt told r2 desk s2 h2 p2
kept_by told desk r r2 s s2 h h2 p p2 er es eh ep k =
    subst (λ (x : List Command). IsKeptAt told x desk s2 h2 p2) (sym er)
    (subst (λ (x : List Asked). IsKeptAt told r desk x h2 p2) (sym es)
    (subst (λ (x : List Answer). IsKeptAt told r desk s x p2) (sym eh) (subst (λ (x : List Term). IsKeptAt told r desk s h x) (sym ep) k)))

-- one desk is changed
kept_step : (told : InputsSeen) (inputs inputs2 : List Input) (d : List Desk) (clients clients2 : List Client) (frames frames2 : List Written) (k : ℕ) (x2 : Desk) → k < length d
    → ((i : ℕ) → i ≢ k → requests_to i inputs2 ≡ requests_to i inputs) → ((i : ℕ) → i ≢ k → said_at i clients2 ≡ said_at i clients) → ((i : ℕ) → i ≢ k → heard_at i clients2 ≡ heard_at i clients)
    → ((i : ℕ) → i ≢ k → replies_to i frames2 ≡ replies_to i frames) → IsKeptAt told (requests_to k inputs2) x2 (said_at k clients2) (heard_at k clients2) (replies_to k frames2)
    → AreDesksKept told inputs d clients frames → AreDesksKept told inputs2 (set d k x2) clients2 frames2
kept_step told inputs inputs2 d clients clients2 frames frames2 k x2 low requests said heard replies here all i none within = go (cases_eq i k)
  where
    go : (i ≡ k) ⊎ (i ≢ k) → IsKeptAt told (requests_to i inputs2) (get_or (set d k x2) i none) (said_at i clients2) (heard_at i clients2) (replies_to i frames2)
    go (inl e) =
        subst (λ j. IsKeptAt told (requests_to j inputs2) (get_or (set d k x2) j none) (said_at j clients2) (heard_at j clients2) (replies_to j frames2)) (sym e)
        (subst (λ (x : Desk). IsKeptAt told (requests_to k inputs2) x (said_at k clients2) (heard_at k clients2) (replies_to k frames2)) (sym (get_or-set_same d k x2 none low)) here)
    go (inr n) =
        kept_by told (get_or (set d k x2) i none) (requests_to i inputs) (requests_to i inputs2) (said_at i clients) (said_at i clients2) (heard_at i clients) (heard_at i clients2)
        (replies_to i frames) (replies_to i frames2) (requests i n) (said i n) (heard i n) (replies i n)
        (subst (λ (x : Desk). IsKeptAt told (requests_to i inputs) x (said_at i clients) (heard_at i clients) (replies_to i frames)) (sym (get_or-set_other d k i x2 none n))
        (all i none (let e = length-set d k x2 in omega (arith, within, e))))

-- none is
kept_all : (told told2 : InputsSeen) (inputs inputs2 : List Input) (d : List Desk) (clients clients2 : List Client) (frames frames2 : List Written)
    → ((node : ℕ) → Later (known_at node told) (known_at node told2)) → ((i : ℕ) → i < length d → requests_to i inputs2 ≡ requests_to i inputs)
    → ((i : ℕ) → said_at i clients2 ≡ said_at i clients) → ((i : ℕ) → heard_at i clients2 ≡ heard_at i clients) → ((i : ℕ) → replies_to i frames2 ≡ replies_to i frames)
    → AreDesksKept told inputs d clients frames → AreDesksKept told2 inputs2 d clients2 frames2
kept_all told told2 inputs inputs2 d clients clients2 frames frames2 later requests said heard replies all i none low =
    let desk = get_or d i none in
    kept_by told2 desk (requests_to i inputs) (requests_to i inputs2) (said_at i clients) (said_at i clients2) (heard_at i clients) (heard_at i clients2)
    (replies_to i frames) (replies_to i frames2) (requests i low) (said i) (heard i) (replies i)
    (kept_later (port_at desk) (known_at desk.node told) (requests_to i inputs) (waiting_at desk) desk.is_asked desk.replied (said_at i clients) (heard_at i clients)
    (replies_to i frames) (all i none low) (known_at desk.node told2) (later desk.node))

-- as much is known
still_known : (told : InputsSeen) (node : ℕ) → Later (known_at node told) (known_at node told)
still_known told node = (λ gone. gone, λ full. full)

-- ---- frames

bytes_more : (frames : List Written) (frame : Written) → bytes_of (frames ++ frame ∷ []) ≡ bytes_of frames ++ framed frame.term
bytes_more frames frame =
    flat_map-append (λ (frame : Written). framed frame.term) frames (frame ∷ []) ∙ ap (λ (bytes : List ℕ). bytes_of frames ++ bytes) (append-nil (framed frame.term))

wrote_more : (first before after : Option (List ℕ)) (frames : List Written) (frame : Written) → Appends first before (bytes_of frames) → Appends before after (framed frame.term)
    → Appends first after (bytes_of (frames ++ frame ∷ []))
wrote_more first before after frames frame was more =
    subst (Appends first after) (sym (bytes_more frames frame)) (appends_then first before after (bytes_of frames) (framed frame.term) was more)

replies-append : (client : ℕ) (xs ys : List Written) → replies_to client (xs ++ ys) ≡ replies_to client xs ++ replies_to client ys
replies-append client xs ys = flat_map-append _ xs ys

notices-append : (xs ys : List Written) → notices_in (xs ++ ys) ≡ notices_in xs ++ notices_in ys
notices-append xs ys = flat_map-append _ xs ys

requests-append : (client : ℕ) (xs ys : List Input) → requests_to client (xs ++ ys) ≡ requests_to client xs ++ requests_to client ys
requests-append client xs ys = flat_map-append (request_to client) xs ys

abbrev reply_frame : ℕ → Term → Written
reply_frame client term = record { term = term; client = Some client }

abbrev notice_frame : Term → Written
notice_frame term = record { term = term; client = None }

to_its_own : (frames : List Written) (client : ℕ) (term : Term) → replies_to client (frames ++ reply_frame client term ∷ []) ≡ replies_to client frames ++ term ∷ []
to_its_own frames client term = replies-append client frames (reply_frame client term ∷ []) ∙ ap (λ (terms : List Term). replies_to client frames ++ terms) one
  where
    one : replies_to client (reply_frame client term ∷ []) ≡ term ∷ []
    one = elim (eqb_tells client client) [
      | inl t ↦ ap (λ here. cond here (term ∷ []) [] ++ []) t.0
      | inr f ↦ absurd (f.1 refl)
    ]

to_no_other : (frames : List Written) (client i : ℕ) (term : Term) → i ≢ client → replies_to i (frames ++ reply_frame client term ∷ []) ≡ replies_to i frames
to_no_other frames client i term n =
    replies-append i frames (reply_frame client term ∷ []) ∙ ap (λ (terms : List Term). replies_to i frames ++ terms) one ∙ append-nil (replies_to i frames)
  where
    one : replies_to i (reply_frame client term ∷ []) ≡ []
    one = elim (eqb_tells client i) [
      | inl t ↦ absurd (n (sym t.1))
      | inr f ↦ ap (λ here. cond here (term ∷ []) [] ++ []) f.0
    ]

to_nobody : (frames : List Written) (i : ℕ) (term : Term) → replies_to i (frames ++ notice_frame term ∷ []) ≡ replies_to i frames
to_nobody frames i term = replies-append i frames (notice_frame term ∷ []) ∙ append-nil (replies_to i frames)

addressed_more : (count count2 : ℕ) (frames : List Written) (frame : Written) → count2 ≡ count → IsAddressed count frame.client → All (λ (frame : Written). IsAddressed count frame.client) frames
    → All (λ (frame : Written). IsAddressed count2 frame.client) (frames ++ frame ∷ [])
addressed_more count count2 frames frame same is all =
    subst (λ n. All (λ (frame : Written). IsAddressed n frame.client) (frames ++ frame ∷ [])) (sym same)
    (All-append (λ (frame : Written). IsAddressed count frame.client) frames (frame ∷ []) all
    (All-cons (λ (frame : Written). IsAddressed count frame.client) frame [] is (All-nil (λ (frame : Written). IsAddressed count frame.client))))

-- ---- the inputs

told_on : (given : Config) (told : InputsSeen) (inputs : List Input) (input : Input) → tell_on given told (inputs ++ input ∷ []) ≡ tell_next given (tell_on given told inputs) input
told_on given told [] input = refl
told_on given told (other ∷ inputs) input = told_on given (tell_next given told other) inputs input

-- what is served with one input more, by what that comes to
takes_by : (given : Config) (first : Begun) (now : Option (List ℕ)) (inputs : List Input) (input : Input) (view : View) (told : InputsSeen) → told ≡ tell_next given (told_by given inputs) input
    → ServesTold given told first (inputs ++ input ∷ []) view now → Serves given first (inputs ++ input ∷ []) view now
takes_by given first now inputs input view told is serves =
    subst (λ (t : InputsSeen). ServesTold given t first (inputs ++ input ∷ []) view now) (is ∙ sym (told_on given (none_told given) inputs input)) serves

unasked : (inputs : List Input) (input : Input) (i : ℕ) → request_to i input ≡ [] → requests_to i (inputs ++ input ∷ []) ≡ requests_to i inputs
unasked inputs input i none =
    requests-append i inputs (input ∷ []) ∙ ap (λ (cs : List Command). requests_to i inputs ++ (cs ++ [])) none ∙ append-nil (requests_to i inputs)

asked_of : (inputs : List Input) (client : ℕ) (command : Command) → requests_to client (inputs ++ forms.Ask client command ∷ []) ≡ requests_to client inputs ++ command ∷ []
asked_of inputs client command = requests-append client inputs (forms.Ask client command ∷ []) ∙ ap (λ (cs : List Command). requests_to client inputs ++ cs) one
  where
    one : requests_to client (forms.Ask client command ∷ []) ≡ command ∷ []
    one = elim (eqb_tells client client) [
      | inl t ↦ ap (λ here. cond here (command ∷ []) [] ++ []) t.0
      | inr f ↦ absurd (f.1 refl)
    ]

not_asked_of : (client i : ℕ) (command : Command) → i ≢ client → request_to i (forms.Ask client command) ≡ []
not_asked_of client i command n = elim (eqb_tells client i) [
  | inl t ↦ absurd (n (sym t.1))
  | inr f ↦ ap (λ here. cond here (command ∷ []) []) f.0
]

-- ---- one desk

module _ (given : Config) (first : Begun) (before : Option (List ℕ)) (inputs : List Input) (told : InputsSeen) (a : View) (k : ℕ) (x : Desk) (low : k < length a.desks) (value : x ≡ get_or a.desks k x)
    (s : ServesTold given told first inputs a before) where
  abbrev requests_here : List Command
  requests_here = requests_to k inputs

  abbrev replies_here : List Term
  replies_here = replies_to k s.frames

  -- so it is kept
  as_it_was : IsKeptAt told requests_here x (said_at k (clients_in a.running)) (heard_at k (clients_in a.running)) replies_here
  as_it_was = subst (λ (desk : Desk). IsKeptAt told requests_here desk (said_at k (clients_in a.running)) (heard_at k (clients_in a.running)) replies_here) (sym value) (s.kept k x low)

  module _ (running : Running) (x2 : Desk) (beside : Beside k a.running running) (port : port_at x2 ≡ port_at x) where
    knows_so : Knows given told (record a { running = running; desks = set a.desks k x2 })
    knows_so = record {
      config = ap (λ config. config.starts.items) beside.config ∙ s.knows.config;
      ports = kept_at port_at a.desks k x x2 value port ∙ s.knows.ports;
      names = s.knows.names;
      bodies = s.knows.bodies;
      lost = beside.losses ∙ s.knows.lost;
      known = s.knows.known;
      over = s.knows.over;
    }

    -- it is changed with a reply
    replied_so : (after : Option (List ℕ)) (term : Term) → Appends before after (framed term)
        → IsKeptAt told requests_here x2 (said_at k (clients_in running)) (heard_at k (clients_in running)) (replies_here ++ term ∷ [])
        → ServesTold given told first inputs (record a { running = running; desks = set a.desks k x2 }) after
    replied_so after term wrote here =
        let frame = reply_frame k term in record {
          knows = knows_so;
          threads = beside.threads ∙ s.threads;
          frames = s.frames ++ frame ∷ [];
          wrote = wrote_more first.written before after s.frames frame s.wrote wrote;
          addressed = addressed_more (length a.desks) (length (set a.desks k x2)) s.frames frame (length-set a.desks k x2) low s.addressed;
          notices = notices-append s.frames (frame ∷ []) ∙ append-nil (notices_in s.frames) ∙ s.notices;
          kept = kept_step told inputs inputs a.desks (clients_in a.running) (clients_in running) s.frames (s.frames ++ frame ∷ []) k x2 low (λ i n. refl) beside.said beside.heard
              (λ i n. to_no_other s.frames k i term n)
              (subst (λ (terms : List Term). IsKeptAt told requests_here x2 (said_at k (clients_in running)) (heard_at k (clients_in running)) terms) (sym (to_its_own s.frames k term)) here)
              s.kept;
        }

    -- or without one
    unreplied_so : IsKeptAt told requests_here x2 (said_at k (clients_in running)) (heard_at k (clients_in running)) replies_here
        → ServesTold given told first inputs (record a { running = running; desks = set a.desks k x2 }) before
    unreplied_so here = record {
      knows = knows_so;
      threads = beside.threads ∙ s.threads;
      frames = s.frames;
      wrote = s.wrote;
      addressed = subst (λ n. All (λ (frame : Written). IsAddressed n frame.client) s.frames) (sym (length-set a.desks k x2)) s.addressed;
      notices = s.notices;
      kept = kept_step told inputs inputs a.desks (clients_in a.running) (clients_in running) s.frames s.frames k x2 low (λ i n. refl) beside.said beside.heard (λ i n. refl) here s.kept;
    }

-- the reply that was written by the number of a desk
abbrev reply_at : Option (List ℕ) → Option (List ℕ) → Desk → Term → Type 0
reply_at before after desk outcome = WritesReply before after desk.name desk.port (saturated (desk.replied + 1)) outcome

-- whether its node is held for lost is whether it was lost
lost_told : (given : Config) (told : InputsSeen) (a : View) (k : ℕ) (x : Desk) (so : Bool) → k < length a.desks → x ≡ get_or a.desks k x → is_known_lost (node_at k a.desks) a.nodes ≡ so
    → Knows given told a → is_lost_at x.node told.lost ≡ so
lost_told given told a k x so low value lost knows =
    ap (λ (all : List Bool). get_or all x.node false) (sym knows.known) ∙ ap (λ (node : ℕ). get_or (known_lost a.nodes) node false) (sym (found (λ (desk : Desk). desk.node) a.desks k x 0 low value)) ∙ lost

-- whether it is over as a clock is full is whether it was told so
full_told : (given : Config) (told : InputsSeen) (a : View) (so : Bool) → is_full_end a.over ≡ so → Knows given told a → is_full_end told.over ≡ so
full_told given told a so full knows = ap is_full_end (sym knows.over) ∙ full

due_told : (given : Config) (told : InputsSeen) (a : View) (k : ℕ) (x : Desk) (handed : Bool) (one : Ending) → k < length a.desks → x ≡ get_or a.desks k x → Knows given told a → IsDueAt a k handed one
    → IsDue (known_at x.node told) handed one
due_told given told a k x handed one low value knows is = subst (λ (known : Known). IsDue known handed one) (same lost full) is
  where
    lost : is_lost_at x.node told.lost ≡ is_known_lost (node_at k a.desks) a.nodes
    lost = lost_told given told a k x (is_known_lost (node_at k a.desks) a.nodes) low value refl knows

    full : is_full_end told.over ≡ is_full_end a.over
    full = full_told given told a (is_full_end a.over) refl knows

    same : is_lost_at x.node told.lost ≡ is_known_lost (node_at k a.desks) a.nodes → is_full_end told.over ≡ is_full_end a.over
        → record { lost = is_known_lost (node_at k a.desks) a.nodes; full = is_full_end a.over } ≡ known_at x.node told
    same l f = ap (λ (lost : Bool). record { lost = lost; full = is_full_end a.over }) (sym l) ∙ ap (λ (full : Bool). record { lost = is_lost_at x.node told.lost; full = full }) (sym f)

asked_told : (a : View) (k : ℕ) (x : Desk) (so : Bool) → k < length a.desks → x ≡ get_or a.desks k x → asked_at k a.desks ≡ so → x.is_asked ≡ so
asked_told a k x so low value is = sym (found (λ (desk : Desk). desk.is_asked) a.desks k x false low value) ∙ is

replied_same : (a b : Desk) → SameDesk a b → SameDesk (replied_at a) (replied_at b)
replied_same a b same = record { name = same.name; node = same.node; port = same.port; asked = refl; replied = ap (λ n. saturated (n + 1)) same.replied }

module _ (given : Config) (first : Begun) (before : Option (List ℕ)) (inputs : List Input) (a : View) (k : ℕ) (x : Desk) (low : k < length a.desks) (value : x ≡ get_or a.desks k x)
    (s : Serves given first inputs a before) where
  abbrev told_here : InputsSeen
  told_here = told_by given inputs

  abbrev was_here : IsKeptAt told_here (requests_to k inputs) x (said_at k (clients_in a.running)) (heard_at k (clients_in a.running)) (replies_to k s.frames)
  was_here = as_it_was given first before inputs told_here a k x low value s

  module _ (running : Running) (low_client : k < length (clients_in a.running)) (only : OnlyClient k a.running running) where
    -- the node's answer was polled, and replied
    pub answer_served : (after : Option (List ℕ)) (answer : Answer) → asked_at k a.desks ≡ true → ((none : Client) → polled_at k none running ≡ polled_at k none a.running ++ answer ∷ [])
        → ((none : Client) → submitted_at k none running ≡ submitted_at k none a.running) → reply_at before after x (reply_term answer.reply)
        → Serves given first inputs (record a { running = running; desks = set a.desks k (replied_at x) }) after
    answer_served after answer busy more same wrote =
        let reply = reply_written (port_at x) (reply_term answer.reply) before after x.replied (length (replies_to k s.frames)) was_here.count wrote in
        replied_so given first before inputs told_here a k x low value s running (replied_at x) (beside_only k a.running running only) refl after reply.0 reply.2
        (subst (λ (all : List Asked). IsKeptAt told_here (requests_to k inputs) (replied_at x) all (heard_at k (clients_in running)) (replies_to k s.frames ++ reply.0 ∷ [])) (sym said)
        (subst (λ (all : List Answer). IsKeptAt told_here (requests_to k inputs) (replied_at x) (said_at k (clients_in a.running)) all (replies_to k s.frames ++ reply.0 ∷ [])) (sym heard)
        (kept_answers (port_at x) (known_at x.node told_here) (requests_to k inputs) (waiting_at x) x.is_asked x.replied (said_at k (clients_in a.running)) (heard_at k (clients_in a.running))
        (replies_to k s.frames) was_here answer reply.0 (asked_told a k x true low value busy) reply.1)))
      where
        said : said_at k (clients_in running) ≡ said_at k (clients_in a.running)
        said = same_at submitted (clients_in a.running) (clients_in running) k low_client only.count same

        heard : heard_at k (clients_in running) ≡ heard_at k (clients_in a.running) ++ answer ∷ []
        heard = (more_at polled (clients_in a.running) (clients_in running) k (λ none. answer ∷ []) low_client only.count more).1

    -- nothing was polled
    pub unheard_served : ((none : Client) → polled_at k none running ≡ polled_at k none a.running) → ((none : Client) → submitted_at k none running ≡ submitted_at k none a.running)
        → Serves given first inputs (record a { running = running }) before
    unheard_served rest same = record {
      knows = record {
        config = ap (λ config. config.starts.items) only.config ∙ s.knows.config;
        ports = s.knows.ports;
        names = s.knows.names;
        bodies = s.knows.bodies;
        lost = ap lost_of only.cluster ∙ s.knows.lost;
        known = s.knows.known;
        over = s.knows.over;
      };
      threads = ap threads_of only.cluster ∙ s.threads;
      frames = s.frames;
      wrote = s.wrote;
      addressed = s.addressed;
      notices = s.notices;
      kept = kept_all told_here told_here inputs inputs a.desks (clients_in a.running) (clients_in running) s.frames s.frames (still_known told_here) (λ i low. refl)
          (λ i. said i (cases_eq i k)) (λ i. heard i (cases_eq i k)) (λ i. refl) s.kept;
    }
      where
        beside : Beside k a.running running
        beside = beside_only k a.running running only

        said : (i : ℕ) → (i ≡ k) ⊎ (i ≢ k) → said_at i (clients_in running) ≡ said_at i (clients_in a.running)
        said i (inl e) = subst (λ j. said_at j (clients_in running) ≡ said_at j (clients_in a.running)) (sym e) (same_at submitted (clients_in a.running) (clients_in running) k low_client only.count same)
        said i (inr n) = beside.said i n

        heard : (i : ℕ) → (i ≡ k) ⊎ (i ≢ k) → heard_at i (clients_in running) ≡ heard_at i (clients_in a.running)
        heard i (inl e) = subst (λ j. heard_at j (clients_in running) ≡ heard_at j (clients_in a.running)) (sym e) (same_at polled (clients_in a.running) (clients_in running) k low_client only.count rest)
        heard i (inr n) = beside.heard i n

    -- the request that waits for longest left the desk and was handed over
    pub handed_served : (x1 y x2 : Desk) (command : Command) → waiting_at x ≡ command ∷ waiting_at x1 → SameDesk x x1 → y ≡ get_or (set a.desks k x1) k y → x2 ≡ record y { is_asked = true }
        → asked_at k a.desks ≡ false → is_known_lost (node_at k a.desks) a.nodes ≡ false → is_full_end a.over ≡ false
        → ((none : Client) → submitted_at k none running ≡ submitted_at k none a.running ++ record { command = command; polled = polled_count (get_or (clients_in a.running) k none) } ∷ [])
        → ((none : Client) → polled_at k none running ≡ polled_at k none a.running) → Serves given first inputs (record a { running = running; desks = set (set a.desks k x1) k x2 }) before
    handed_served x1 y x2 command front same again is idle there free more rest =
        subst (λ (desks : List Desk). Serves given first inputs (record a { running = running; desks = desks }) before) (sym (set-set a.desks k x1 x2))
        (unreplied_so given first before inputs told_here a k x low value s running x2 (beside_only k a.running running only) port
        (subst (λ (all : List Asked). IsKeptAt told_here (requests_to k inputs) x2 all (heard_at k (clients_in running)) (replies_to k s.frames)) (sym said.1)
        (subst (λ (all : List Answer). IsKeptAt told_here (requests_to k inputs) x2 (said_at k (clients_in a.running) ++ one ∷ []) all (replies_to k s.frames)) (sym heard)
        (subst (λ (desk : Desk). IsKeptAt told_here (requests_to k inputs) desk (said_at k (clients_in a.running) ++ one ∷ []) (heard_at k (clients_in a.running)) (replies_to k s.frames)) (sym now)
        (kept_same told_here (requests_to k inputs) (waiting_at x1) (record x { is_asked = true }) (record x1 { is_asked = true }) (said_at k (clients_in a.running) ++ one ∷ [])
        (heard_at k (clients_in a.running)) (replies_to k s.frames) (record { name = same.name; node = same.node; port = same.port; asked = refl; replied = same.replied })
        (kept_hands (port_at x) (known_at x.node told_here) (requests_to k inputs) (waiting_at x) x.is_asked x.replied (said_at k (clients_in a.running))
        (heard_at k (clients_in a.running)) (replies_to k s.frames) was_here one (waiting_at x1) front (lost_told given told_here a k x false low value there s.knows)
        (full_told given told_here a false free s.knows) (asked_told a k x false low value idle) turn))))))
      where
        now : x2 ≡ record x1 { is_asked = true }
        now = is ∙ ap (λ (desk : Desk). record desk { is_asked = true }) (again ∙ get_or-set_same a.desks k x1 y low)

        port : port_at x2 ≡ port_at x
        port = ap port_at now ∙ same_port x x1 same

        said : (none : Client) × (said_at k (clients_in running) ≡ said_at k (clients_in a.running) ++ record { command = command; polled = polled_count (get_or (clients_in a.running) k none) } ∷ [])
        said = more_at submitted (clients_in a.running) (clients_in running) k (λ none. record { command = command; polled = polled_count (get_or (clients_in a.running) k none) } ∷ []) low_client only.count more

        one : Asked
        one = record { command = command; polled = polled_count (get_or (clients_in a.running) k said.0) }

        turn : one.polled ≡ saturated (length (heard_at k (clients_in a.running)))
        turn = ap (λ (all : List Answer). saturated (length all)) (sym (get_or-map polled (clients_in a.running) k said.0 [] low_client))

        heard : heard_at k (clients_in running) ≡ heard_at k (clients_in a.running)
        heard = same_at polled (clients_in a.running) (clients_in running) k low_client only.count rest

    -- it left the desk, was not taken, and came back there
    pub back_served : (x1 y x2 : Desk) (command : Command) → waiting_at x ≡ command ∷ waiting_at x1 → SameDesk x x1 → y ≡ get_or (set a.desks k x1) k y → waiting_at x2 ≡ command ∷ waiting_at y → SameDesk y x2
        → ((none : Client) → submitted_at k none running ≡ submitted_at k none a.running) → ((none : Client) → polled_at k none running ≡ polled_at k none a.running)
        → Serves given first inputs (record a { running = running; desks = set (set a.desks k x1) k x2 }) before
    back_served x1 y x2 command front same again back same2 kept rest =
        subst (λ (desks : List Desk). Serves given first inputs (record a { running = running; desks = desks }) before) (sym (set-set a.desks k x1 x2))
        (unreplied_so given first before inputs told_here a k x low value s running x2 (beside_only k a.running running only) (same_port x x2 all)
        (subst (λ (all : List Asked). IsKeptAt told_here (requests_to k inputs) x2 all (heard_at k (clients_in running)) (replies_to k s.frames)) (sym said)
        (subst (λ (all : List Answer). IsKeptAt told_here (requests_to k inputs) x2 (said_at k (clients_in a.running)) all (replies_to k s.frames)) (sym heard)
        (subst (λ (waiting : List Command). IsKept (port_at x2) (known_at x2.node told_here) (requests_to k inputs) waiting x2.is_asked x2.replied (said_at k (clients_in a.running))
        (heard_at k (clients_in a.running)) (replies_to k s.frames)) (sym waits)
        (kept_same told_here (requests_to k inputs) (waiting_at x) x x2 (said_at k (clients_in a.running)) (heard_at k (clients_in a.running)) (replies_to k s.frames) all was_here)))))
      where
        is : y ≡ x1
        is = again ∙ get_or-set_same a.desks k x1 y low

        all : SameDesk x x2
        all = record {
          name = same2.name ∙ ap (λ (desk : Desk). desk.name) is ∙ same.name;
          node = same2.node ∙ ap (λ (desk : Desk). desk.node) is ∙ same.node;
          port = same2.port ∙ ap (λ (desk : Desk). desk.port) is ∙ same.port;
          asked = same2.asked ∙ ap (λ (desk : Desk). desk.is_asked) is ∙ same.asked;
          replied = same2.replied ∙ ap (λ (desk : Desk). desk.replied) is ∙ same.replied;
        }

        waits : waiting_at x2 ≡ waiting_at x
        waits = back ∙ ap (λ (desk : Desk). command ∷ waiting_at desk) is ∙ sym front

        said : said_at k (clients_in running) ≡ said_at k (clients_in a.running)
        said = same_at submitted (clients_in a.running) (clients_in running) k low_client only.count kept

        heard : heard_at k (clients_in running) ≡ heard_at k (clients_in a.running)
        heard = same_at polled (clients_in a.running) (clients_in running) k low_client only.count rest

  -- why it has no answer was replied to the request that is with the node
  pub closed_served : (after : Option (List ℕ)) (one : Ending) → asked_at k a.desks ≡ true → IsDueAt a k true one → reply_at before after x (ending_term x.name one)
      → Serves given first inputs (record a { desks = set a.desks k (replied_at x) }) after
  closed_served after one busy due wrote =
      let reply = reply_written (port_at x) (ending_term x.name one) before after x.replied (length (replies_to k s.frames)) was_here.count wrote in
      replied_so given first before inputs told_here a k x low value s a.running (replied_at x) (beside_itself k a.running) refl after reply.0 reply.2
      (kept_closes (port_at x) (known_at x.node told_here) (requests_to k inputs) (waiting_at x) x.is_asked x.replied (said_at k (clients_in a.running)) (heard_at k (clients_in a.running))
      (replies_to k s.frames) was_here one reply.0 (asked_told a k x true low value busy) (due_told given told_here a k x true one low value s.knows due) reply.1)

  -- or to the next that waits
  pub refusal_served : (after : Option (List ℕ)) (one : Ending) (x1 y : Desk) (command : Command) → waiting_at x ≡ command ∷ waiting_at x1 → SameDesk x x1 → y ≡ get_or (set a.desks k x1) k y
      → asked_at k a.desks ≡ false → IsDueAt a k false one → reply_at before after y (ending_term y.name one)
      → Serves given first inputs (record a { desks = set (set a.desks k x1) k (replied_at y) }) after
  refusal_served after one x1 y command front same again idle due wrote =
      subst (λ (desks : List Desk). Serves given first inputs (record a { desks = desks }) after) (sym (set-set a.desks k x1 (replied_at y)))
      (subst (λ (desk : Desk). Serves given first inputs (record a { desks = set a.desks k (replied_at desk) }) after) (sym is)
      (replied_so given first before inputs told_here a k x low value s a.running (replied_at x1) (beside_itself k a.running) (same_port x x1 same) after reply.0 reply.2
      (kept_same told_here (requests_to k inputs) (waiting_at x1) (replied_at x) (replied_at x1) (said_at k (clients_in a.running)) (heard_at k (clients_in a.running))
      (replies_to k s.frames ++ reply.0 ∷ []) (replied_same x x1 same)
      (kept_refuses (port_at x) (known_at x.node told_here) (requests_to k inputs) (waiting_at x) x.is_asked x.replied (said_at k (clients_in a.running)) (heard_at k (clients_in a.running))
      (replies_to k s.frames) was_here one command (waiting_at x1) reply.0 front (asked_told a k x false low value idle) (due_told given told_here a k x false one low value s.knows due) reply.1))))
    where
      is : y ≡ x1
      is = again ∙ get_or-set_same a.desks k x1 y low

      here : reply_at before after x (ending_term x.name one)
      here =
          subst (λ n. WritesReply before after x.name x.port (saturated (n + 1)) (ending_term x.name one)) (ap (λ (desk : Desk). desk.replied) is ∙ same.replied)
          (subst (λ port. WritesReply before after x.name port (saturated (y.replied + 1)) (ending_term x.name one)) (ap (λ (desk : Desk). desk.port) is ∙ same.port)
          (subst (λ (name : List ℕ). WritesReply before after name y.port (saturated (y.replied + 1)) (ending_term name one)) (ap (λ (desk : Desk). desk.name) is ∙ same.name) wrote))

      reply : (term : Term) × IsReply (port_at x) (length (replies_to k s.frames) + 1) (ending_term x.name one) term × Appends before after (framed term)
      reply = reply_written (port_at x) (ending_term x.name one) before after x.replied (length (replies_to k s.frames)) was_here.count here

  -- the desk was looked at
  pub looked_served : (x2 : Desk) → waiting_at x2 ≡ waiting_at x → SameDesk x x2 → Serves given first inputs (record a { desks = set a.desks k x2 }) before
  looked_served x2 waits same =
      unreplied_so given first before inputs told_here a k x low value s a.running x2 (beside_itself k a.running) (same_port x x2 same)
      (subst (λ (waiting : List Command). IsKept (port_at x2) (known_at x2.node told_here) (requests_to k inputs) waiting x2.is_asked x2.replied (said_at k (clients_in a.running))
      (heard_at k (clients_in a.running)) (replies_to k s.frames)) (sym waits)
      (kept_same told_here (requests_to k inputs) (waiting_at x) x x2 (said_at k (clients_in a.running)) (heard_at k (clients_in a.running)) (replies_to k s.frames) same was_here))

  -- a request waits for its turn
  pub request_served : (x2 : Desk) (command : Command) (bodies : ℕ) → bodies ≡ saturated (a.bodies + 1) → waiting_at x2 ≡ waiting_at x ++ command ∷ [] → SameDesk x x2
      → Serves given first (inputs ++ forms.Ask k command ∷ []) (record a { desks = set a.desks k x2; bodies = bodies }) before
  request_served x2 command bodies more waits same =
      takes_by given first before inputs (forms.Ask k command) (record a { desks = set a.desks k x2; bodies = bodies }) (record told_here { bodies = told_here.bodies + 1 }) (sym counted)
      (record {
        knows = record {
          config = s.knows.config;
          ports = kept_at port_at a.desks k x x2 value (same_port x x2 same) ∙ s.knows.ports;
          names = s.knows.names;
          bodies = let e = s.knows.bodies in omega (arith, e, more);
          lost = s.knows.lost;
          known = s.knows.known;
          over = s.knows.over;
        };
        threads = s.threads;
        frames = s.frames;
        wrote = s.wrote;
        addressed = subst (λ n. All (λ (frame : Written). IsAddressed n frame.client) s.frames) (sym (length-set a.desks k x2)) s.addressed;
        notices = s.notices;
        kept = kept_step told_here inputs (inputs ++ forms.Ask k command ∷ []) a.desks (clients_in a.running) (clients_in a.running) s.frames s.frames k x2 low
            (λ i n. unasked inputs (forms.Ask k command) i (not_asked_of k i command n)) (λ i n. refl) (λ i n. refl) (λ i n. refl)
            (subst (λ (requests : List Command). IsKeptAt told_here requests x2 (said_at k (clients_in a.running)) (heard_at k (clients_in a.running)) (replies_to k s.frames)) (sym (asked_of inputs k command))
            (kept_same told_here (requests_to k inputs ++ command ∷ []) (waiting_at x2) x x2 (said_at k (clients_in a.running)) (heard_at k (clients_in a.running)) (replies_to k s.frames) same
            (kept_waits (port_at x) (known_at x.node told_here) (requests_to k inputs) (waiting_at x) x.is_asked x.replied (said_at k (clients_in a.running))
            (heard_at k (clients_in a.running)) (replies_to k s.frames) was_here command (waiting_at x2) waits)))
            s.kept;
      })
    where
      within : k < length (ports_in 0 given)
      within = let e = ap length s.knows.ports in let n = length-map a.desks port_at in omega (arith, e, n, low)

      counted : tell_next given told_here (forms.Ask k command) ≡ record told_here { bodies = told_here.bodies + 1 }
      counted = ap (λ (here : Bool). if here then record told_here { bodies = told_here.bodies + 1 } else tell_bad told_here) (lt-ltb k (length (ports_in 0 given)) within)

-- ---- other inputs

-- once a clock was full the input is over for that reason
full_stays : (over : Option (Option ℕ)) (fault : Option ℕ) → is_full_end over ≡ true → is_full_end (over_by over fault) ≡ true
full_stays over fault full = ap (λ (here : Bool). is_full_end (if here then over else Some fault)) full ∙ full

pub full_at_last : (over : Option (Option ℕ)) → is_full_end (over_by over (Some 30)) ≡ true
full_at_last over = go (is_full_end over) refl
  where
    go : (here : Bool) → is_full_end over ≡ here → is_full_end (over_by over (Some 30)) ≡ true
    go true e = full_stays over (Some 30) e
    go false e = ap (λ (here : Bool). is_full_end (if here then over else Some (Some 30))) e

-- it is over for that reason alone
pub full_is : (over : Option (Option ℕ)) → is_full_end over ≡ true → over ≡ Some (Some 30)
full_is None e = absurd (true_is_not_false (sym e))
full_is (Some None) e = absurd (true_is_not_false (sym e))
full_is (Some (Some number)) e = elim (eqb_tells number 30) [
  | inl t ↦ ap (λ (n : ℕ). Some (Some n)) t.1
  | inr f ↦ absurd (true_is_not_false (sym e ∙ f.0))
]

module _ (given : Config) (first : Begun) (before : Option (List ℕ)) (inputs : List Input) (a : View) (s : Serves given first inputs a before) where
  abbrev told_now : InputsSeen
  told_now = told_by given inputs

  -- a body was told to ask for nothing
  pub bad_served : (after : Option (List ℕ)) (input : Input) → tell_bad told_now ≡ tell_next given told_now input → ((i : ℕ) → i < length a.desks → request_to i input ≡ [])
      → Appends before after (framed (bad_request_term (saturated (a.bodies + 1)))) → Serves given first (inputs ++ input ∷ []) (record a { bodies = saturated (a.bodies + 1) }) after
  bad_served after input is nothing wrote =
      takes_by given first after inputs input (record a { bodies = saturated (a.bodies + 1) }) (tell_bad told_now) is
      (record {
        knows = record {
          config = s.knows.config;
          ports = s.knows.ports;
          names = s.knows.names;
          bodies = let e = s.knows.bodies in omega (arith, e);
          lost = s.knows.lost;
          known = s.knows.known;
          over = s.knows.over;
        };
        threads = s.threads;
        frames = s.frames ++ frame ∷ [];
        wrote = wrote_more first.written before after s.frames frame s.wrote wrote;
        addressed = addressed_more (length a.desks) (length a.desks) s.frames frame refl tt s.addressed;
        notices = notices-append s.frames (frame ∷ []) ∙ ap (λ (terms : List Term). terms ++ frame.term ∷ []) s.notices ∙ ap (λ (term : Term). told_now.notices ++ term ∷ []) same;
        kept = kept_all told_now (tell_bad told_now) inputs (inputs ++ input ∷ []) a.desks (clients_in a.running) (clients_in a.running) s.frames (s.frames ++ frame ∷ []) (still_known told_now)
            (λ i low. unasked inputs input i (nothing i low)) (λ i. refl) (λ i. refl) (λ i. to_nobody s.frames i frame.term) s.kept;
      })
    where
      frame : Written
      frame = notice_frame (bad_request_term (saturated (a.bodies + 1)))

      same : bad_request_term (saturated (a.bodies + 1)) ≡ bad_request_term (told_now.bodies + 1)
      same = let e = s.knows.bodies in bad_same (saturated (a.bodies + 1)) (told_now.bodies + 1) (omega (arith, e))

  -- that of a request to a port that is not there
  pub request_to_nobody : (after : Option (List ℕ)) (client : ℕ) (command : Command) → length a.desks ≤ client → Appends before after (framed (bad_request_term (saturated (a.bodies + 1))))
      → Serves given first (inputs ++ forms.Ask client command ∷ []) (record a { bodies = saturated (a.bodies + 1) }) after
  request_to_nobody after client command beyond wrote =
      bad_served after (forms.Ask client command) (sym is) (λ i low. not_asked_of client i command (λ e. absurd (omega (arith, e, low, beyond)))) wrote
    where
      is : tell_next given told_now (forms.Ask client command) ≡ tell_bad told_now
      is =
          let e = ap length s.knows.ports in
          let n = length-map a.desks port_at in
          let far : length (ports_in 0 given) ≤ client = omega (arith, e, n, beyond) in
          ap (λ (here : Bool). if here then record told_now { bodies = told_now.bodies + 1 } else tell_bad told_now) (le-ltb client (length (ports_in 0 given)) far)

  -- and of the loss of a node that is not there any more
  pub loss_of_nobody : (after : Option (List ℕ)) (running : Running) (node : ℕ) → running ≡ a.running → get_or (losses_in a.running) node true ≡ true
      → Appends before after (framed (bad_request_term (saturated (a.bodies + 1)))) → Serves given first (inputs ++ forms.Lose node ∷ []) (record a { running = running; bodies = saturated (a.bodies + 1) }) after
  loss_of_nobody after running node same gone wrote =
      subst (λ (r : Running). Serves given first (inputs ++ forms.Lose node ∷ []) (record a { running = r; bodies = saturated (a.bodies + 1) }) after) (sym same)
      (bad_served after (forms.Lose node) (sym is) (λ i low. refl) wrote)
    where
      is : tell_next given told_now (forms.Lose node) ≡ tell_bad told_now
      is = ap (λ (here : Bool). if here then tell_bad told_now else tell_lost given node told_now) (ap (λ (lost : List Bool). get_or lost node true) (sym s.knows.lost) ∙ gone)

  -- a node is lost
  pub node_loss_served : (after : Option (List ℕ)) (running : Running) (node : ℕ) (served : ServedNode) → clients_in running ≡ clients_in a.running → config_in running ≡ config_in a.running
      → threads_in running ≡ threads_in a.running → losses_in running ≡ set (losses_in a.running) node true → get_or (losses_in a.running) node true ≡ false → served ≡ get_or a.nodes node served → node < length a.nodes
      → Appends before after (framed (lost_term served.name))
      → Serves given first (inputs ++ forms.Lose node ∷ []) (record a { running = running; nodes = set a.nodes node (record served { is_lost = true }); bodies = saturated (a.bodies + 1) }) after
  node_loss_served after running node served clients config threads losses there value low wrote =
      takes_by given first after inputs (forms.Lose node) view (tell_lost given node told_now) (sym is)
      (record {
        knows = record {
          config = ap (λ config. config.starts.items) config ∙ s.knows.config;
          ports = s.knows.ports;
          names = map-set_same (λ (node : ServedNode). node.name) a.nodes node (record served { is_lost = true }) served (ap (λ (node : ServedNode). node.name) value) ∙ s.knows.names;
          bodies = let e = s.knows.bodies in omega (arith, e);
          lost = losses ∙ ap (λ (lost : List Bool). set lost node true) s.knows.lost;
          known = map-set (λ (node : ServedNode). node.is_lost) a.nodes node (record served { is_lost = true }) ∙ ap (λ (lost : List Bool). set lost node true) s.knows.known;
          over = s.knows.over;
        };
        threads = threads ∙ s.threads;
        frames = s.frames ++ frame ∷ [];
        wrote = wrote_more first.written before after s.frames frame s.wrote wrote;
        addressed = addressed_more (length a.desks) (length a.desks) s.frames frame refl tt s.addressed;
        notices = notices-append s.frames (frame ∷ []) ∙ ap (λ (terms : List Term). terms ++ frame.term ∷ []) s.notices ∙ ap (λ (name : List ℕ). told_now.notices ++ lost_term name ∷ []) named;
        kept = kept_all told_now (tell_lost given node told_now) inputs (inputs ++ forms.Lose node ∷ []) a.desks (clients_in a.running) (clients_in running) s.frames (s.frames ++ frame ∷ [])
            (λ other. (λ gone. later other gone (cases_eq other node), λ full. full)) (λ i low. unasked inputs (forms.Lose node) i refl) (λ i. ap (said_at i) clients) (λ i. ap (heard_at i) clients)
            (λ i. to_nobody s.frames i frame.term) s.kept;
      })
    where
      view : View
      view = record a { running = running; nodes = set a.nodes node (record served { is_lost = true }); bodies = saturated (a.bodies + 1) }

      frame : Written
      frame = notice_frame (lost_term served.name)

      is : tell_next given told_now (forms.Lose node) ≡ tell_lost given node told_now
      is = ap (λ (here : Bool). if here then tell_bad told_now else tell_lost given node told_now) (ap (λ (lost : List Bool). get_or lost node true) (sym s.knows.lost) ∙ there)

      named : served.name ≡ get_or (map (λ start. start.name) given) node []
      named = ap (λ (node : ServedNode). node.name) value ∙ sym (get_or-map (λ (node : ServedNode). node.name) a.nodes node served [] low) ∙ ap (λ (names : List (List ℕ)). get_or names node []) s.knows.names

      within : node < length told_now.lost
      within = let e = ap length s.knows.known in let n = length-map a.nodes (λ (node : ServedNode). node.is_lost) in omega (arith, e, n, low)

      later : (other : ℕ) → is_lost_at other told_now.lost ≡ true → (other ≡ node) ⊎ (other ≢ node) → is_lost_at other (set told_now.lost node true) ≡ true
      later other gone (inl e) = subst (λ n. is_lost_at n (set told_now.lost node true) ≡ true) (sym e) (get_or-set_same told_now.lost node true false within)
      later other gone (inr n) = get_or-set_other told_now.lost node other true false n ∙ gone

  -- as many nodes are known as may be lost
  pub nodes_there : (node : ℕ) → get_or (losses_in a.running) node true ≡ false → node < length a.nodes
  nodes_there node there = elim (leb_tells (length a.nodes) node) [
    | inl t ↦
        let e = ap length (s.knows.known ∙ sym s.knows.lost) in
        let n = length-map a.nodes (λ (node : ServedNode). node.is_lost) in
        let far = t.1 in
        let beyond : length (losses_in a.running) ≤ node = omega (arith, e, n, far) in
        absurd (true_is_not_false (sym (get_or-eq_default (losses_in a.running) true beyond) ∙ there))
    | inr f ↦ f.1
  ]

  -- the input is over
  pub end_served : (input : Input) (fault : Option ℕ) → tell_next given told_now input ≡ record told_now { over = over_by told_now.over fault } → ((i : ℕ) → request_to i input ≡ [])
      → Serves given first (inputs ++ input ∷ []) (record a { over = over_by a.over fault }) before
  end_served input fault is nothing =
      takes_by given first before inputs input (record a { over = over_by a.over fault }) (record told_now { over = over_by told_now.over fault }) (sym is)
      (record {
        knows = record {
          config = s.knows.config;
          ports = s.knows.ports;
          names = s.knows.names;
          bodies = s.knows.bodies;
          lost = s.knows.lost;
          known = s.knows.known;
          over = ap (λ over. over_by over fault) s.knows.over;
        };
        threads = s.threads;
        frames = s.frames;
        wrote = s.wrote;
        addressed = s.addressed;
        notices = s.notices;
        kept = kept_all told_now (record told_now { over = over_by told_now.over fault }) inputs (inputs ++ input ∷ []) a.desks (clients_in a.running) (clients_in a.running) s.frames s.frames
            (λ node. (λ gone. gone, λ full. full_stays told_now.over fault full)) (λ i low. unasked inputs input i (nothing i)) (λ i. refl) (λ i. refl) (λ i. refl) s.kept;
      })
