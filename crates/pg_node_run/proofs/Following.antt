-- What follows from what follows.
use Rattle.std.proofs.Common.{◌≡◌, ◌<◌, ◌∙◌, ◌⊎◌, ℕ, length, map, List, [], ◌∷◌, ◌++◌, refl}
use Rattle.std.proofs.Common.{sym, ap, subst, inl, inr, arith, append_assoc, append-nil}
use Rattle.std.specs.Prelude.{true}
use Rattle.std.proofs.lemmas.List.{map-append}
use Rattle.pg_node.specs.PgGroup.declared.table.GroupTable.{Ghosts}
use Rattle.pg_node.specs.PgNodeState.Issued.{ports_of}
use Rattle.pg_node.specs.Nodes.{held_by, links_of}
use Rattle.pg_node.specs.PgNodeState.States.{names_of, state_of, answers_of}
use Rattle.pg_node_run.specs.declared.linked.LinkedNode.{LinkedNode}
use Rattle.pg_node_run.specs.Acts.{Act, Standing, AllLead, log_entry, frames_taken}
use Rattle.pg_node_run.specs.Follows.{HaveMoved, Follows, WasMarked, node_of, peers_of, log_of, standing_of}
use Rattle.pg_node_run.proofs.Moving.{have_moved_on, peers_kept, taken_join, unmoved}
use Rattle.pg_node.specs.PgStep.Nodes.{Node as Name}

pub all_lead_on : (names : List Name) (ports : ℕ) (a : Standing) (first : List Act) (b : Standing) (second : List Act) (c : Standing)
    → AllLead names ports a first b → AllLead names ports b second c → AllLead names ports a (first ++ second) c
all_lead_on names ports a [] b second c h k = subst (λ x. AllLead names ports x second c) h k
all_lead_on names ports a (act ∷ acts) b second c h k = (h.0, h.1, all_lead_on names ports h.0 acts b second c h.2 k)

-- ---- marks

-- a mark that came in the course of the first acts came in the course of all, where nothing was taken behind them
marked_first : (names : List Name) (ports place : ℕ) (first second : List Act) (a b c : Standing) (unread unread2 more : List ℕ) → AllLead names ports b second c
    → frames_taken place second ≡ [] → unread2 ≡ unread ++ more → WasMarked names ports place first a b unread → WasMarked names ports place (first ++ second) a c unread2
marked_first names ports place first second a b c unread unread2 more lead none grew mark = record {
  before = mark.before;
  after = mark.after ++ second;
  cut = ap (λ w. w ++ second) mark.cut ∙ append_assoc mark.before mark.after second;
  middle = mark.middle;
  led = mark.led;
  rest = all_lead_on names ports mark.middle mark.after b second c mark.rest lead;
  untaken = taken_join place mark.after second ∙ (ap (λ w. w ++ frames_taken place second) mark.untaken ∙ none);
  left = mark.left;
  later = mark.later ++ more;
  came = grew ∙ (ap (λ w. w ++ more) mark.came ∙ append_assoc mark.left mark.later more);
  fault = mark.fault;
  told = mark.told;
  marks = mark.marks;
}

-- and so did one that came in the course of the second
marked_second : (names : List Name) (ports place : ℕ) (first second : List Act) (a b c : Standing) (unread : List ℕ) → AllLead names ports a first b
    → WasMarked names ports place second b c unread → WasMarked names ports place (first ++ second) a c unread
marked_second names ports place first second a b c unread lead mark = record {
  before = first ++ mark.before;
  after = mark.after;
  cut = ap (λ w. first ++ w) mark.cut ∙ sym (append_assoc first mark.before mark.after);
  middle = mark.middle;
  led = all_lead_on names ports a first b mark.before mark.middle lead mark.led;
  rest = mark.rest;
  untaken = mark.untaken;
  left = mark.left;
  later = mark.later;
  came = mark.came;
  fault = mark.fault;
  told = mark.told;
  marks = mark.marks;
}

-- a list that has a place has something
some_of : {A : Type 0} (xs : List A) (place : ℕ) → place < length xs → A
some_of [] place low = absurd (omega (arith, low))
some_of (x ∷ xs) place low = x

module _ {T L I : Type 0} {g : Ghosts T} (accepts : L → List ℕ → L → Type 0) (gives : I → List ℕ → I → Type 0) where
  -- a node follows from itself
  pub follows_itself : ((a : L) → accepts a [] a) → ((a : I) → gives a [] a) → (a : LinkedNode T L I g) → Follows accepts gives [] a a
  follows_itself link_rests inlet_rests a = record {
    names = refl;
    ports = refl;
    lead = refl;
    log = sym (append-nil (log_of a));
    moved = peers_kept accepts gives [] (links_of (node_of a)) (links_of (node_of a)) (peers_of a)
        (λ place other. unmoved accepts gives link_rests inlet_rests place (links_of (node_of a) place) (links_of (node_of a) place) other refl refl (λ d. d));
    marked = λ place low damaged. inl damaged;
  }

  -- where only bytes moved
  pub only_moved : (a b : LinkedNode T L I g) → held_by (node_of b) ≡ held_by (node_of a) → log_of b ≡ log_of a
      → ((place : ℕ) → (links_of (node_of b) place).damaged ≡ (links_of (node_of a) place).damaged)
      → HaveMoved accepts gives [] (links_of (node_of a)) (links_of (node_of b)) (peers_of a) (peers_of b) → Follows accepts gives [] a b
  only_moved a b held log marks moved = record {
    names = ap names_of held;
    ports = ap ports_of held;
    lead = ap (λ state. record { state = state_of state; answers = answers_of state }) held;
    log = log ∙ sym (append-nil (log_of a));
    moved = moved;
    marked = λ place low damaged. inl (sym (marks place) ∙ damaged);
  }

  -- a link that is damaged in the end was so at first, or was marked in one of two stretches
  marked_on : (first second : List Act) (a b c : LinkedNode T L I g) → Follows accepts gives first a b → Follows accepts gives second b c
      → AllLead (names_of (held_by (node_of a))) (ports_of (held_by (node_of a))) (standing_of (node_of b)) second (standing_of (node_of c))
      → (place : ℕ) → place < length (peers_of a) → (links_of (node_of c) place).damaged ≡ true
      → ((links_of (node_of a) place).damaged ≡ true)
      ⊎ WasMarked (names_of (held_by (node_of a))) (ports_of (held_by (node_of a))) place (first ++ second) (standing_of (node_of a)) (standing_of (node_of c)) (links_of (node_of c) place).unread
  marked_on first second a b c h k lead place low damaged = in_second (k.marked place low2 damaged)
    where
      names : List Name
      names = names_of (held_by (node_of a))

      ports : ℕ
      ports = ports_of (held_by (node_of a))

      low2 : place < length (peers_of b)
      low2 = subst (λ n. place < n) (sym h.moved.len) low

      in_first : (links_of (node_of b) place).damaged ≡ true
          → ((links_of (node_of a) place).damaged ≡ true) ⊎ WasMarked names ports place first (standing_of (node_of a)) (standing_of (node_of b)) (links_of (node_of b) place).unread
          → ((links_of (node_of a) place).damaged ≡ true) ⊎ WasMarked names ports place (first ++ second) (standing_of (node_of a)) (standing_of (node_of c)) (links_of (node_of c) place).unread
      in_first was (inl damaged) = inl damaged
      in_first was (inr mark) =
          let moved = k.moved.each place (some_of (peers_of b) place low2) low2 in
          inr (marked_first names ports place first second (standing_of (node_of a)) (standing_of (node_of b)) (standing_of (node_of c)) (links_of (node_of b) place).unread (links_of (node_of c) place).unread
          moved.given lead (moved.still was) (sym (moved.taken ∙ ap (λ w. w ++ (links_of (node_of c) place).unread) (moved.still was))) mark)

      in_second : ((links_of (node_of b) place).damaged ≡ true)
          ⊎ WasMarked (names_of (held_by (node_of b))) (ports_of (held_by (node_of b))) place second (standing_of (node_of b)) (standing_of (node_of c)) (links_of (node_of c) place).unread
          → ((links_of (node_of a) place).damaged ≡ true) ⊎ WasMarked names ports place (first ++ second) (standing_of (node_of a)) (standing_of (node_of c)) (links_of (node_of c) place).unread
      in_second (inl was) = in_first was (h.marked place low was)
      in_second (inr mark) =
          inr (marked_second names ports place first second (standing_of (node_of a)) (standing_of (node_of b)) (standing_of (node_of c)) (links_of (node_of c) place).unread h.lead
          (subst (λ n. WasMarked names n place second (standing_of (node_of b)) (standing_of (node_of c)) (links_of (node_of c) place).unread) h.ports
          (subst (λ ns. WasMarked ns (ports_of (held_by (node_of b))) place second (standing_of (node_of b)) (standing_of (node_of c)) (links_of (node_of c) place).unread) h.names mark)))

  -- one stretch after another
  pub follows_on : ((a b c : L) (xs ys : List ℕ) → accepts a xs b → accepts b ys c → accepts a (xs ++ ys) c)
      → ((a b c : I) (xs ys : List ℕ) → gives a xs b → gives b ys c → gives a (xs ++ ys) c)
      → (first second : List Act) (a b c : LinkedNode T L I g) → Follows accepts gives first a b → Follows accepts gives second b c → Follows accepts gives (first ++ second) a c
  follows_on link_composes inlet_composes first second a b c h k =
      let lead : AllLead (names_of (held_by (node_of a))) (ports_of (held_by (node_of a))) (standing_of (node_of b)) second (standing_of (node_of c)) =
      subst (λ ports. AllLead (names_of (held_by (node_of a))) ports (standing_of (node_of b)) second (standing_of (node_of c))) h.ports
      (subst (λ names. AllLead names (ports_of (held_by (node_of b))) (standing_of (node_of b)) second (standing_of (node_of c))) h.names k.lead) in record {
        names = k.names ∙ h.names;
        ports = k.ports ∙ h.ports;
        lead = all_lead_on (names_of (held_by (node_of a))) (ports_of (held_by (node_of a))) (standing_of (node_of a)) first (standing_of (node_of b)) second (standing_of (node_of c)) h.lead lead;
        log = k.log ∙ (ap (λ w. w ++ map log_entry second) h.log ∙ (append_assoc (log_of a) (map log_entry first) (map log_entry second) ∙ ap (λ w. log_of a ++ w) (sym (map-append log_entry first second))));
        moved = have_moved_on accepts gives link_composes inlet_composes first second (links_of (node_of a)) (links_of (node_of b)) (links_of (node_of c)) (peers_of a) (peers_of b) (peers_of c) h.moved k.moved;
        marked = marked_on first second a b c h k lead;
      }
