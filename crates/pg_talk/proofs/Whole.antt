-- A service at its start and at its end.
use Rattle.std.proofs.Common.{◌≡◌, ◌<◌, ◌+◌, ℕ, Bool, true, false, not, List, [], ◌∷◌, ◌++◌, length}
use Rattle.std.proofs.Common.{get_or, map, Some, None, Option, inl, inr, refl, sym, ap, subst, ◌∙◌, arith}
use Rattle.std.specs.Prelude.{◌&&◌, ◌||◌, cond, nat_lt}
use Rattle.std.specs.List.{All, list_all}
use Rattle.std.proofs.Props.{props}
use Rattle.std.proofs.lemmas.List.{append-nil, get_or-map, length-map}
use Rattle.std.proofs.lemmas.List.Elements.{All-nil, All-tail}
use Rattle.std.proofs.lemmas.List.Folds.{list_all_at}
use mathlib.Core.Logic.{∥∥₁_elim}
use Rattle.pg_cluster.proofs.PgNode.Replicas.Streams.{appends_none}
use Rattle.pg_cluster.specs.PgNodeRun.Ports.{IsSilent, polled, submitted}
use Rattle.pg_cluster.specs.PgNodeRun.declared.port.Asked.{Asked}
use Rattle.pg_cluster.specs.PgStep.Config.{Config}
use Rattle.pg_cluster.specs.PgStep.declared.answer.Answer.{Answer}
use Rattle.pg_cluster.specs.PgStep.declared.command.Command.{Command}
use Rattle.pg_cluster.specs.PgStep.declared.start.Start.{Start}
use Rattle.pg_term.specs.declared.term.Term.{Term}
use Rattle.pg_cluster.specs.declared.running.Running.{Running}
use Rattle.pg_cluster.specs.Members.{is_lost, thread_of}
use Rattle.pg_cluster.specs.PgClusterJudges.Schedule.{NobodyLost}
use Rattle.pg_cluster.specs.PgRing.Slots.{taken}
use Rattle.pg_cluster.specs.Running.{clients_in, config_in, losses_in, threads_in}
use Rattle.pg_cluster.specs.Threads.{AreMade, begun_by}
use Rattle.pg_node_requests.specs.declared.input.Input.{Input}
use Rattle.pg_node_requests.specs.declared.input.Input.TheVariants as forms
use Rattle.pg_node_requests.specs.Layouts.{layout_of}
use Rattle.pg_talk.specs.declared.service.Service.{Service}
use Rattle.pg_talk.specs.declared.service.desk.Desk.{Desk}
use Rattle.pg_talk.specs.declared.service.reader.Reader.{Reader}
use Rattle.pg_talk.specs.declared.service.run.Served.{Served}
use Rattle.pg_talk.specs.Readers.{IsPaired, Reads}
use Rattle.pg_talk.specs.declared.service.serving.ServedNode.{ServedNode}
use Rattle.pg_talk.specs.Desks.{is_idle, is_none, waiting_at}
use Rattle.pg_talk.specs.Readings.{AreRead}
use Rattle.pg_talk.specs.Services.{AreThreadsOf, CameOf, WasServed}
use Rattle.pg_talk.specs.Servings.{Begun, IsKept, IsKeptAt, IsNew, Serves, View, known_lost}
use Rattle.pg_talk.specs.Servings.{names_of, port_at, ports_of, with_node}
use Rattle.pg_talk.specs.Verdicts.{IsJudged}
use Rattle.pg_talk.specs.Written.{AllServed, InputsSeen, IsAddressed, IsServed, Known, PortName, Written}
use Rattle.pg_talk.specs.Written.{heard_at, known_at, none_told, ports_in, replies_to, requests_to}
use Rattle.pg_talk.specs.Written.{said_at, tell_bad, tell_lost, tell_next, tell_on, told_by}
use Rattle.pg_talk.proofs.BodiesRead.{ends, has_end, read_whole}
use Rattle.pg_talk.proofs.InputsGoOn.{goes_on}
use Rattle.pg_talk.proofs.Posts.{kept_new, true_is_not_false}
use Rattle.pg_talk.proofs.Spoken.{silent_at}
use Rattle.pg_talk.proofs.Turns.{some_desk}

-- ---- at first

-- as many nodes may be lost as were made
count_of_losses : (running : Running) → length (losses_in running) ≡ length (config_in running).starts.items
count_of_losses running = ∥∥₁_elim running.made (hlevel props) (λ (made : AreMade (config_in running).starts.items (map begun_by (threads_in running))).
    let lost = length-map running.cluster.members.items is_lost in
    let threads = length-map running.cluster.members.items thread_of in
    let begun = length-map (threads_in running) begun_by in
    let count = made.count in
    omega (arith, lost, threads, begun, count))

none_lost : (lost : List Bool) (starts : List Start) → length lost ≡ length starts → NobodyLost lost → lost ≡ map (λ (start : Start). false) starts
none_lost [] [] n nobody = refl
none_lost [] (start ∷ starts) n nobody = absurd (omega (arith, n))
none_lost (one ∷ lost) [] n nobody = absurd (omega (arith, n))
none_lost (one ∷ lost) (start ∷ starts) n nobody =
    ap (λ (first : Bool). first ∷ lost) (nobody 0 one (omega arith))
    ∙ ap (λ (rest : List Bool). false ∷ rest) (none_lost lost starts (omega (arith, n)) (All-tail (λ (one : Bool). one ≡ false) one lost nobody))

kept_at_first : (told : InputsSeen) (desk : Desk) → IsNew desk → IsKeptAt told [] desk [] [] []
kept_at_first told desk new =
    subst (λ (waiting : List Command). IsKept (port_at desk) (known_at desk.node told) [] waiting desk.is_asked desk.replied [] [] []) (sym new.empty)
    (subst (λ (now : Bool). IsKept (port_at desk) (known_at desk.node told) [] [] now desk.replied [] [] []) (sym new.idle)
    (subst (λ n. IsKept (port_at desk) (known_at desk.node told) [] [] false n [] [] []) (sym new.replied) (kept_new (port_at desk) (known_at desk.node told))))

pub served_at_first : (given : Config) (before : Option (List ℕ)) (running : Running) (desks : List Desk) (nodes : List ServedNode) → (config_in running).starts.items ≡ given
    → ports_of desks ≡ ports_in 0 given → All IsNew desks → names_of nodes ≡ map (λ start. start.name) given → known_lost nodes ≡ map (λ start. false) given → NobodyLost (losses_in running)
    → All IsSilent (clients_in running) → Serves given (record { threads = threads_in running; written = before }) [] (record { running = running; desks = desks; nodes = nodes; bodies = 0; over = None }) before
served_at_first given before running desks nodes config ports new names there nobody silent = record {
  knows = record {
    config = config;
    ports = ports;
    names = names;
    bodies = refl;
    lost = none_lost (losses_in running) given (count_of_losses running ∙ ap length config) nobody;
    known = there;
    over = refl;
  };
  threads = refl;
  frames = [];
  wrote = appends_none before;
  addressed = All-nil (λ (frame : Written). IsAddressed (length desks) frame.client);
  notices = refl;
  kept = λ client none low.
      subst (λ (all : List Asked). IsKeptAt (none_told given) [] (get_or desks client none) all (heard_at client (clients_in running)) [])
      (sym (silent_at submitted (clients_in running) client (λ k one within. (silent k one within).submitted)))
      (subst (λ (all : List Answer). IsKeptAt (none_told given) [] (get_or desks client none) [] all [])
      (sym (silent_at polled (clients_in running) client (λ k one within. (silent k one within).polled)))
      (kept_at_first (none_told given) (get_or desks client none) (new client none low)));
}

-- ---- at the end

-- nothing is with the node of an idle desk, and nothing waits there
idle_parts : (asked : Bool) (waiting : List Command) → (not asked && is_none waiting) ≡ true → (asked ≡ false) × (waiting ≡ [])
idle_parts false [] e = (refl, refl)
idle_parts false (command ∷ waiting) e = absurd (true_is_not_false (sym e))
idle_parts true waiting e = absurd (true_is_not_false (sym e))

idle_at : (desks : List Desk) (i : ℕ) (d : Desk) → i < length desks → list_all is_idle desks ≡ true → is_idle (get_or desks i d) ≡ true
idle_at desks i d low all = go (is_idle (get_or desks i d)) refl
  where
    go : (now : Bool) → is_idle (get_or desks i d) ≡ now → is_idle (get_or desks i d) ≡ true
    go true e = e
    go false e = absurd (true_is_not_false (sym all ∙ list_all_at is_idle desks i d low e))

served_whole : (port : PortName) (known : Known) (requests waiting : List Command) (asked : Bool) (replied : ℕ) (said : List Asked) (heard : List Answer) (replies : List Term) → asked ≡ false → waiting ≡ []
    → IsKept port known requests waiting asked replied said heard replies → IsServed port known requests 0 said heard replies
served_whole port known requests waiting asked replied said heard replies idle empty k =
    subst (λ (all : List Command). IsServed port known all 0 said heard replies) (sym (k.line ∙ ap (λ (cs : List Command). k.up ++ cs) empty ∙ append-nil k.up))
    (subst (λ n. IsServed port known k.up n said heard replies) (ap with_node idle) k.served)

pub all_served : (given : Config) (first : Begun) (after : Option (List ℕ)) (inputs : List Input) (view : View) → list_all is_idle view.desks ≡ true → Serves given first inputs view after
    → AllServed given inputs (clients_in view.running) first.written after
all_served given first after inputs view idle s = record {
  frames = s.frames;
  wrote = s.wrote;
  addressed = subst (λ n. All (λ (frame : Written). IsAddressed n frame.client) s.frames) count s.addressed;
  notices = s.notices;
  ports = ports;
}
  where
    count : length view.desks ≡ length (ports_in 0 given)
    count = sym (length-map view.desks port_at) ∙ ap length s.knows.ports

    ports : (client : ℕ) (none : PortName) → client < length (ports_in 0 given) → (port : PortName) → port ≡ get_or (ports_in 0 given) client none
        → IsServed port (known_at port.node (told_by given inputs)) (requests_to client inputs) 0 (said_at client (clients_in view.running)) (heard_at client (clients_in view.running)) (replies_to client s.frames)
    ports client none low port is =
        let within : client < length view.desks = omega (arith, low, count) in
        let some = some_desk view.desks client within in
        let desk = get_or view.desks client some in
        let parts = idle_parts desk.is_asked (waiting_at desk) (idle_at view.desks client some within idle) in
        let named : port_at desk ≡ port = sym (get_or-map port_at view.desks client some none within) ∙ ap (λ (all : List PortName). get_or all client none) s.knows.ports ∙ sym is in
        subst (λ (one : PortName). IsServed one (known_at one.node (told_by given inputs)) (requests_to client inputs) 0 (said_at client (clients_in view.running)) (heard_at client (clients_in view.running)) (replies_to client s.frames)) named
        (served_whole (port_at desk) (known_at desk.node (told_by given inputs)) (requests_to client inputs) (waiting_at desk) desk.is_asked desk.replied
        (said_at client (clients_in view.running)) (heard_at client (clients_in view.running)) (replies_to client s.frames) parts.0 parts.1 (s.kept client some within))

-- ---- the input

over_if : (test : Bool) (a b : InputsSeen) (over : Option (Option ℕ)) → a.over ≡ over → b.over ≡ over → (cond test a b).over ≡ over
over_if true a b over p q = p
over_if false a b over p q = q

-- what does not end the input does not say so
over_kept : (given : Config) (told : InputsSeen) (input : Input) → ends input ≡ false → (tell_next given told input).over ≡ told.over
over_kept given told (forms.Ask client command) e =
    over_if (nat_lt client (length (ports_in 0 given))) (record told { bodies = told.bodies + 1 }) (tell_bad told) told.over refl refl
over_kept given told (forms.Lose node) e = over_if (get_or told.lost node true) (tell_bad told) (tell_lost given node told) told.over refl refl
over_kept given told forms.Bad e = refl
over_kept given told forms.End e = absurd (true_is_not_false e)
over_kept given told (forms.Broken number) e = absurd (true_is_not_false e)

end_or_later : (input : Input) (inputs : List Input) → (ends input ≡ false → has_end inputs ≡ true) → has_end (input ∷ inputs) ≡ true
end_or_later input inputs later = go (ends input) refl
  where
    go : (end : Bool) → ends input ≡ end → has_end (input ∷ inputs) ≡ true
    go true e = ap (λ (end : Bool). end || has_end inputs) e
    go false e = ap (λ (end : Bool). end || has_end inputs) e ∙ later e

-- inputs that are over have an end
over_by_end : (given : Config) (inputs : List Input) (told : InputsSeen) (fault : Option ℕ) → told.over ≡ None → (tell_on given told inputs).over ≡ Some fault → has_end inputs ≡ true
over_by_end given [] told fault none some = absurd (cc)
over_by_end given (input ∷ inputs) told fault none some =
    end_or_later input inputs (λ e. over_by_end given inputs (tell_next given told input) fault (over_kept given told input e ∙ none) some)

-- The cluster was closed, and judged so, when its input was over by these inputs.
served_of : {S : Type 0} (remaining : S → Option (List ℕ)) (fails : S → S → Type 0) (service : Service) (source : Option (List ℕ)) (first : Begun) (after : Option (List ℕ)) (inputs : List Input) (view : View)
    (served : Served) → CameOf remaining fails (layout_of 0 service.config.starts.items) service.requests source inputs → view.over ≡ Some served.fault → list_all is_idle view.desks ≡ true
    → IsJudged (config_in view.running).starts.items (losses_in view.running) (threads_in view.running) (clients_in view.running) served.verdict → AreThreadsOf service first.threads
    → Serves service.config.starts.items first inputs view after → WasServed remaining fails service source first.written after served
served_of remaining fails service source first after inputs view served came over idle judged own s =
    let given = service.config.starts.items in record {
      inputs = inputs;
      read = came;
      over = sym s.knows.over ∙ over;
      threads = threads_in view.running;
      own = subst (AreThreadsOf service) (sym s.threads) own;
      clients = clients_in view.running;
      judged = subst (λ (starts : Config). IsJudged starts (told_by given inputs).lost (threads_in view.running) (clients_in view.running) served.verdict) s.knows.config
          (subst (λ (lost : List Bool). IsJudged (config_in view.running).starts.items lost (threads_in view.running) (clients_in view.running) served.verdict) s.knows.lost judged);
      all = all_served given first after inputs view idle s;
    }

-- What came in is the first of what is read, and has its end: it is all.
pub served_to_the_end : {S : Type 0} (remaining : S → Option (List ℕ)) (fails : S → S → Type 0) (service : Service) (source : Option (List ℕ)) (first : Begun) (after : Option (List ℕ))
    (inputs further : List Input) (view : View) (served : Served) → AreRead remaining fails (layout_of 0 service.config.starts.items) service.requests source (inputs ++ further)
    → view.over ≡ Some served.fault → list_all is_idle view.desks ≡ true
    → IsJudged (config_in view.running).starts.items (losses_in view.running) (threads_in view.running) (clients_in view.running) served.verdict → AreThreadsOf service first.threads
    → Serves service.config.starts.items first inputs view after → WasServed remaining fails service source first.written after served
served_to_the_end remaining fails service source first after inputs further view served read over idle judged own s =
    let given = service.config.starts.items in
    served_of remaining fails service source first after inputs view served
    (inl (read_whole (layout_of 0 given) (goes_on (layout_of 0 given)) remaining fails source [] service.requests inputs further read
    (over_by_end given inputs (none_told given) served.fault refl (sym s.knows.over ∙ over)))) over idle judged own s

-- A clock was full, and this is all that had come in.
pub served_until_full : {S : Type 0} (remaining : S → Option (List ℕ)) (fails : S → S → Type 0) (service : Service) (source : Option (List ℕ)) (first : Begun) (after : Option (List ℕ)) (reader : Reader S)
    (view : View) (served : Served) → Reads remaining (layout_of 0 service.config.starts.items) service.requests source reader → IsPaired reader → view.over ≡ Some served.fault
    → list_all is_idle view.desks ≡ true
    → IsJudged (config_in view.running).starts.items (losses_in view.running) (threads_in view.running) (clients_in view.running) served.verdict → AreThreadsOf service first.threads
    → Serves service.config.starts.items first (taken reader.inlet ++ forms.Broken 30 ∷ []) view after → WasServed remaining fails service source first.written after served
served_until_full remaining fails service source first after reader view served reads paired over idle judged own s =
    served_of remaining fails service source first after (taken reader.inlet ++ forms.Broken 30 ∷ []) view served
    (inr (record { reader = reader; reads = reads; paired = paired; came = refl })) over idle judged own s
