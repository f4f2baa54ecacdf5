-- The steps of a service that runs, one after another.
use Rattle.std.proofs.Common.{◌≡◌, ◌<◌, ◌+◌, ℕ, ◌≤◌, ◌⊎◌, zero, suc, inl, inr, Bool, true, false, List, [], ◌∷◌}
use Rattle.std.proofs.Common.{◌++◌, length, get_or, set, Some, None, Option, refl, sym, ap, subst, ◌∙◌, arith}
use Rattle.std.specs.Prelude.{IfOk, OnOk, Result, Ok, Err, slice_get}
use Rattle.std.specs.Io.KnownBytes.{Keeps}
use Rattle.std.proofs.lemmas.List.{append-nil, get_or_default, get_or-map, get_or-set_same}
use Rattle.std.proofs.lemmas.Option.{get_or_from_slice_get}
use Rattle.std.proofs.Math.ListN.{get_or-eq_default}
use Rattle.pg_cluster.proofs.PgNode.Replicas.Streams.{appends_kept}
use Rattle.pg_cluster.specs.PgNodeState.declared.state.fault.NodeFault.{NodeFault}
use Rattle.pg_cluster.specs.PgNodeState.declared.state.fault.NodeFault.TheVariants.{Refused}
use Rattle.pg_cluster.specs.PgStep.declared.refusal.Refusal.TheVariants.{NoSuchPlace, NodeLost}
use Rattle.pg_cluster.specs.PgRing.Slots.{SameSlotIn}
use Rattle.pg_cluster.specs.PgRing.declared.slot_in.SlotIn.{SlotIn}
use Rattle.pg_cluster.specs.ClientsLaws.{slot_in_on}
use Rattle.pg_cluster.specs.PgStep.Config.{Config}
use Rattle.pg_term.specs.declared.term.Term.{Term}
use Rattle.pg_node_requests.specs.declared.input.Input.{Input}
use Rattle.pg_talk.specs.declared.service.desk.Desk.{Desk}
use Rattle.pg_talk.specs.declared.service.ending.Ending.{Ending}
use Rattle.pg_talk.specs.declared.service.serving.Serving.{Serving}
use Rattle.pg_talk.specs.Conversations.{saturated}
use Rattle.pg_talk.specs.Frames.{WritesReply}
use Rattle.pg_talk.specs.Servings.{Advances, Begun, CameSince, RepliesEnding, RepliesNext, Serves, ServesOne, ServingGoes, asked_at}
use Rattle.pg_talk.specs.Servings.{desks_of, is_known_lost, kept_in, lost_at, nodes_of, replied_at, view_of}
use Rattle.pg_talk.specs.Written.{ending_term}

pub on_ok : {T E : Type 0} (r : Result T E) (P Q : Type 0) → OnOk r P → (P → Q) → OnOk r Q
on_ok (Ok t) P Q p f = f p
on_ok (Err e) P Q p f = tt

pub ok_of : {T E : Type 0} (r : Result T E) (P : Type 0) → P → OnOk r P
ok_of (Ok t) P p = p
ok_of (Err e) P p = tt

pub goes_itself : (a : Serving) (x : Option (List ℕ)) → ServingGoes a a x x
goes_itself a x = record { kept = refl; goes = λ given first inputs s. s }

pub goes_then : (a b c : Serving) (x y z : Option (List ℕ)) → ServingGoes a b x y → ServingGoes b c y z → ServingGoes a c x z
goes_then a b c x y z one two = record { kept = two.kept ∙ one.kept; goes = λ given first inputs s. two.goes given first inputs (one.goes given first inputs s) }

-- what was written is passed on
pub goes_flushed : (a b : Serving) (x y : Option (List ℕ)) → view_of b ≡ view_of a → b.kept ≡ a.kept → Keeps x y → ServingGoes a b x y
goes_flushed a b x y view kept keeps = record {
  kept = kept;
  goes = λ given before inputs s. subst (λ seen. Serves given before inputs seen y) (sym view) (record {
    knows = s.knows;
    threads = s.threads;
    frames = s.frames;
    wrote = appends_kept before.written x y _ s.wrote keeps;
    addressed = s.addressed;
    notices = s.notices;
    kept = s.kept;
  });
}

pub goes_passed_on : (a b c : Serving) (x y z : Option (List ℕ)) → ServingGoes a b x y → view_of c ≡ view_of b → c.kept ≡ b.kept → Keeps y z → ServingGoes a c x z
goes_passed_on a b c x y z one view kept keeps = goes_then a b c x y z one (goes_flushed b c y z view kept keeps)

-- to what is seen so
pub goes_to : (a b : Serving) (x y : Option (List ℕ)) → b.kept ≡ a.kept → ((given : Config) (first : Begun) (inputs : List Input) → Serves given first inputs (view_of a) x → Serves given first inputs (view_of b) y) → ServingGoes a b x y
goes_to a b x y kept goes = record { kept = kept; goes = goes }

-- ---- where inputs come in

pub inlet_itself : (a : SlotIn Input) → SameSlotIn a a
inlet_itself a = ((refl, refl, refl, refl), refl)

pub inlet_on : (a b c : SlotIn Input) → SameSlotIn a b → SameSlotIn b c → SameSlotIn a c
inlet_on a b c first second = slot_in_on a b c first second

-- ---- a desk

pub some_desk : (desks : List Desk) (client : ℕ) → client < length desks → Desk
some_desk [] client low = absurd (omega (arith, low))
some_desk (desk ∷ desks) client low = desk

pub lost_here : (a : Serving) (client node : ℕ) (x : Desk) (told : Bool) → client < length (desks_of a) → x ≡ get_or (desks_of a) client x → node ≡ x.node → is_known_lost node (nodes_of a) ≡ told → lost_at client a ≡ told
lost_here a client node x told low value is lost =
    ap (λ (n : ℕ). is_known_lost n (nodes_of a)) (get_or-map (λ (desk : Desk). desk.node) (desks_of a) client x 0 low ∙ ap (λ (desk : Desk). desk.node) (sym value) ∙ sym is) ∙ lost

pub asked_here : (a : Serving) (client : ℕ) (x : Desk) (told : Bool) → client < length (desks_of a) → x ≡ get_or (desks_of a) client x → x.is_asked ≡ told → asked_at client (desks_of a) ≡ told
asked_here a client x told low value is = get_or-map (λ (desk : Desk). desk.is_asked) (desks_of a) client x false low ∙ ap (λ (desk : Desk). desk.is_asked) (sym value) ∙ is

-- ---- what comes in

pub comes_next : (came kept came2 : List Input) (input : Input) → kept ≡ [] → came2 ≡ came ++ input ∷ [] → CameSince came kept came2 (input ∷ [])
comes_next came kept came2 input none more inputs e = more ∙ ap (λ (all : List Input). all ++ input ∷ []) (e ∙ ap (λ (k : List Input). inputs ++ k) none ∙ append-nil inputs)

pub comes_not : (came kept came2 : List Input) → kept ≡ [] → came2 ≡ came → CameSince came kept came2 []
comes_not came kept came2 none same inputs e = same ∙ e ∙ ap (λ (k : List Input). inputs ++ k) none

module _ (a b : Serving) (came came2 : List Input) (x y : Option (List ℕ)) where
  -- what came first was kept
  pub advances_kept : (input : Input) (mid : Serving) → view_of mid ≡ view_of a → CameSince came (kept_in a.kept) came2 (input ∷ [])
      → view_of b ≡ view_of mid → b.kept ≡ Some input → Advances a b came came2 x x
  advances_kept input mid first comes second kept given before s = record {
    inputs = s.inputs;
    whole = comes s.inputs s.whole ∙ ap (λ k. s.inputs ++ kept_in k) (sym kept);
    serves = subst (λ view. Serves given before s.inputs view x) (sym (second ∙ first)) s.serves;
  }

  -- or taken
  pub advances_took : (input : Input) (mid : Serving) → view_of mid ≡ view_of a → mid.kept ≡ None → CameSince came (kept_in a.kept) came2 (input ∷ []) → ServesOne input mid b x y
      → Advances a b came came2 x y
  advances_took input mid first none comes takes given before s = record {
    inputs = s.inputs ++ input ∷ [];
    whole = comes s.inputs s.whole ∙ sym (append-nil (s.inputs ++ input ∷ [])) ∙ ap (λ k. (s.inputs ++ input ∷ []) ++ kept_in k) (sym (takes.kept ∙ none));
    serves = takes.takes given before s.inputs (subst (λ view. Serves given before s.inputs view x) (sym first) s.serves);
  }

  -- nothing came
  pub advances_empty : view_of b ≡ view_of a → b.kept ≡ None → CameSince came (kept_in a.kept) came2 [] → Advances a b came came2 x x
  advances_empty view none comes given before s = record {
    inputs = s.inputs;
    whole = comes s.inputs s.whole ∙ ap (λ k. s.inputs ++ kept_in k) (sym none);
    serves = subst (λ view. Serves given before s.inputs view x) (sym view) s.serves;
  }

  pub advances_by : ServingGoes a b x y → came2 ≡ came → Advances a b came came2 x y
  advances_by goes same given before s = record {
    inputs = s.inputs;
    whole = same ∙ s.whole ∙ ap (λ k. s.inputs ++ kept_in k) (sym goes.kept);
    serves = goes.goes given before s.inputs s.serves;
  }

  -- what was written is passed on
  pub advances_flushed : view_of b ≡ view_of a → b.kept ≡ a.kept → Keeps x y → came2 ≡ came → Advances a b came came2 x y
  advances_flushed view kept keeps same given before s = record {
    inputs = s.inputs;
    whole = same ∙ s.whole ∙ ap (λ k. s.inputs ++ kept_in k) (sym kept);
    serves = subst (λ view. Serves given before s.inputs view y) (sym view) (record {
      knows = s.serves.knows;
      threads = s.serves.threads;
      frames = s.serves.frames;
      wrote = appends_kept before.written x y _ s.serves.wrote keeps;
      addressed = s.serves.addressed;
      notices = s.serves.notices;
      kept = s.serves.kept;
    });
  }

-- ---- what one call does

pub takes_to : (input : Input) (a b : Serving) (x y : Option (List ℕ)) → b.kept ≡ a.kept
    → ((given : Config) (first : Begun) (inputs : List Input) → Serves given first inputs (view_of a) x → Serves given first (inputs ++ input ∷ []) (view_of b) y) → ServesOne input a b x y
takes_to input a b x y kept takes = record { kept = kept; takes = takes }

-- the reply was written by the desk as it is now
pub replied_by : (a b : Serving) (k : ℕ) (x x2 x3 : Desk) (number : ℕ) (reply : Term) (before after : Option (List ℕ)) → k < length (desks_of a) → x ≡ get_or (desks_of a) k x
    → number ≡ saturated (x.replied + 1) → x2 ≡ record x { is_asked = false; replied = number } → x3 ≡ get_or (set (desks_of a) k x2) k x3
    → view_of b ≡ record (view_of a) { desks = set (desks_of a) k x2 } → b.kept ≡ a.kept → WritesReply before after x3.name x3.port number reply → RepliesNext k reply a b before after
replied_by a b k x x2 x3 number reply before after low value next is again view kept wrote = record {
  desk = x;
  was = value;
  view = view ∙ ap (λ (desk : Desk). record (view_of a) { desks = set (desks_of a) k desk }) now;
  kept = kept;
  wrote =
      subst (λ (n : ℕ). WritesReply before after x.name x.port n reply) next
      (subst (λ (desk : Desk). WritesReply before after desk.name desk.port number reply) (again ∙ get_or-set_same (desks_of a) k x2 x3 low ∙ is) wrote);
}
  where
    now : x2 ≡ replied_at x
    now = is ∙ ap (λ (n : ℕ). record x { is_asked = false; replied = n }) next

-- the reply was why a request of a desk has no answer
pub ending_by : (a b : Serving) (k : ℕ) (x : Desk) (one : Ending) (reply : Term) (before after : Option (List ℕ)) → k < length (desks_of a) → x ≡ get_or (desks_of a) k x → reply ≡ ending_term x.name one
    → RepliesNext k reply a b before after → RepliesEnding k one a b before after
ending_by a b k x one reply before after low value is next = record {
  desk = next.desk;
  was = next.was;
  view = next.view;
  kept = next.kept;
  wrote = subst (λ (term : Term). WritesReply before after next.desk.name next.desk.port (saturated (next.desk.replied + 1)) term) (is ∙ ap (λ (desk : Desk). ending_term desk.name one) same) next.wrote;
}
  where
    same : x ≡ next.desk
    same = value ∙ get_or_default (desks_of a) k x next.desk low ∙ sym next.was

-- a node that was not lost before
pub not_lost_before : (lost : List Bool) (node : ℕ) → (length lost ≤ node → ⊥) → (slice_get lost node ≡ Some true → ⊥) → get_or lost node true ≡ false
not_lost_before [] node place again = absurd (place (omega arith))
not_lost_before (true ∷ lost) zero place again = absurd (again refl)
not_lost_before (false ∷ lost) zero place again = refl
not_lost_before (one ∷ lost) (suc node) place again = not_lost_before lost node (λ beyond. place (omega (arith, beyond))) again

-- one that was, or is not there
pub lost_before : (lost : List Bool) (node : ℕ) → (length lost ≤ node) ⊎ (slice_get lost node ≡ Some true) → get_or lost node true ≡ true
lost_before lost node (inl beyond) = get_or-eq_default lost true beyond
lost_before lost node (inr there) = get_or_from_slice_get lost node true true there

pub was_lost : (lost : List Bool) (node : ℕ) (fault : NodeFault) → (fault ≡ Refused NoSuchPlace) ⊎ (fault ≡ Refused NodeLost) → (fault ≡ Refused NoSuchPlace → length lost ≤ node)
    → (fault ≡ Refused NodeLost → slice_get lost node ≡ Some true) → get_or lost node true ≡ true
was_lost lost node fault (inl e) place again = lost_before lost node (inl (place e))
was_lost lost node fault (inr e) place again = lost_before lost node (inr (again e))

-- ---- a turn

module _ (a b c : Serving) (came came2 : List Input) (x y z : Option (List ℕ)) (took : Advances a b came came2 x y) (goes : ServingGoes b c y z) where
  pub turn_moved : Advances a c came came2 x z
  turn_moved given first s = advances_by b c came2 came2 y z goes refl given first (took given first s)

  pub turn_flushed : (d : Serving) (t : Option (List ℕ)) → view_of d ≡ view_of c → d.kept ≡ c.kept → Keeps z t → Advances a d came came2 x t
  turn_flushed d t view kept keeps given first s = advances_flushed c d came2 came2 z t view kept keeps refl given first (turn_moved given first s)

pub if_ok : {T E : Type 0} (r : Result T E) (P Q : T → Type 0) → IfOk r P → ((t : T) → P t → Q t) → IfOk r Q
if_ok (Ok t) P Q p f = f t p
if_ok (Err e) P Q p f = tt
